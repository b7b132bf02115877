-- The numbers that each call may get: a start none of an operation's, a frame its own four, a look only 6. Assumes nothing.
use Rattle.std.specs.Prelude.{Some, None, Result, Ok, Err, ⊤, Option, is_some}
use Prim.Native.Nat.{ℕ}
use mathlib.Core.Path.{◌≡◌, refl}
use mathlib.Core.Bool.{Bool, true, false, cond, not}
use mathlib.Core.List.{List, [], ◌∷◌, ◌++◌}
use Rattle.codec.specs.declared.model.Model.{Model}
use Rattle.codec.specs.declared.bus.CanFrame.{CanFrame}
use Rattle.codec.specs.declared.error.Refusal.{Refusal}
use Rattle.codec.specs.declared.error.Refusal.TheVariants as refusal
use Rattle.codec.specs.Kinds.{among}
use Rattle.codec.specs.Refusals.{number_of}
use Rattle.motor.specs.declared.engine.command.Command.{Command}
use Rattle.motor.specs.declared.engine.command.Said.{Said}
use Rattle.motor.specs.declared.engine.command.Said.TheVariants as said
use Rattle.motor.specs.declared.engine.operation.Effect.{Effect}
use Rattle.motor.specs.declared.engine.operation.Operation.{Operation}
use Rattle.motor.specs.declared.engine.operation.Phase.{Phase}
use Rattle.motor.specs.engine.Run.{advanced}
use Rattle.motor.specs.Calls.{register_numbers, is_idle, step_said, sight_of, wanted}
use Rattle.motor.specs.Lone.{Lone, lone_step, lone_step_by, hears}
use Rattle.motor.specs.Receive.{accepts_frame, is_out_of_time, read_id, frame_numbers, frame_said}
use Rattle.motor.specs.Readings.{lookup, room}
use Rattle.motor.proofs.Ends.{Closed, advance-ends}
use Rattle.motor.proofs.Stays.{running}
use Rattle.station.specs.declared.call.Asked.{Asked}
use Rattle.station.specs.declared.call.Call.{Call}
use Rattle.station.specs.declared.call.Call.TheVariants as call
use Rattle.station.specs.Calls.{start, frame, no, says, refused, Reply}
use Rattle.station.specs.Station.{Place, held, full, moves_to, hears_to, lone_by, route, admission, enter as takesIn, admit, source_of, to_source, station_by, station_call}
use Rattle.station.specs.Demands.{checked_number, number, start_numbers, step_numbers, numbers_of, counting_numbers, ending_numbers, moving_numbers}
use Rattle.station.proofs.NumberLists.{every, of-each, outside, of-first}
use Rattle.station.proofs.Starts.{start-number}

-- ---- a step: 7 and 21, then the numbers by which an operation fails

closed-number : (w : Said) (op : Operation) (x : Effect) (f : CanFrame) (b : List ℕ) → Closed w op x → among (number (says w f b)) step_numbers ≡ true
unfolding among
closed-number (said.Sent due) op x f b h = refl
closed-number (said.Waiting due) op x f b h = refl
closed-number (said.Finished r) op x f b h = refl
closed-number (said.FinishedWith r) op x f b h = refl
closed-number (said.Refused r) op x f b h = of-each (λ n. among n step_numbers) (number_of r) ending_numbers refl h.0

step-number : (h : Lone) (now : ℕ) → among (number (moves_to (lone_step h now)).0) step_numbers ≡ true
unfolding moves_to among
step-number h now = go (step_said h.state.clock p now) refl (of-first (λ n. among n step_numbers) tests refl)
  where
    p : Phase
    p = h.state.operation.phase

    tests : List (Bool × Refusal)
    tests = (is_out_of_time h.state.clock now, refusal.TimeOutOfRange) ∷ (is_idle p, refusal.NothingRunning) ∷ []

    go : (k : Result ⊤ Refusal) → step_said h.state.clock p now ≡ k → among (checked_number k) step_numbers ≡ true
        → among (number (moves_to (lone_step_by k h now)).0) step_numbers ≡ true
    go (Ok tt) q e =
        let f = wanted p (λ id. lookup id h.readings) in
        let v = advanced (sight_of h.state) now h.state.operation f p in
        closed-number v.said v.operation v.effect v.frame v.result
        (advance-ends (sight_of h.state) now h.state.operation f p (running (is_out_of_time h.state.clock now) (is_idle p) q))
    go (Err r) q e = e

-- ---- the six calls

route-number : (ns : List ℕ) (s : List Place) (m : ℕ) (o : Option Lone) (r : Reply) (visit : Lone → Reply × Option Lone) → among (number r) ns ≡ true
    → ((h : Lone) → among (number (visit h).0) ns ≡ true) → among (number (route s m o r visit).0) ns ≡ true
unfolding route
route-number ns s m None r visit a b = a
route-number ns s m (Some h) r visit a b = b h

admit-number : (k : Result ⊤ Refusal) (s : List Place) (m host : ℕ) (model : Option Model) (wait time : ℕ) (ns : List ℕ)
    → among 0 ns ≡ true → among 3 ns ≡ true → among (checked_number k) ns ≡ true → among (number (admit k s m host model wait time).0) ns ≡ true
unfolding admit takesIn
admit-number (Ok tt) s m host (Some model) wait time ns a b e = a
admit-number (Ok tt) s m host None wait time ns a b e = b
admit-number (Err r) s m host model wait time ns a b e = e

numbers-by : (s : List Place) (c : Call) (f : CanFrame) → among (number (station_by s c f).0) (numbers_of c) ≡ true
unfolding station_by numbers_of refused lone_by hears_to hears frame_said admission among
numbers-by s (call.Register m host model wait time) f =
    admit-number (admission s m host model wait time) s m host model wait time (numbers_of (call.Register m host model wait time)) refl refl
    (of-first (λ n. among n (numbers_of (call.Register m host model wait time)))
    (register_numbers m host model wait time ++ ((is_some (held s m), refusal.IdRegistered) ∷ (full s, refusal.StationFull) ∷ [])) refl)
numbers-by s (call.Start m c now) f = route-number start_numbers s m (held s m) _ _ refl (λ h. start-number h c now)
numbers-by s (call.Step m now) f = route-number step_numbers s m (held s m) _ _ refl (λ h. step-number h now)
numbers-by s (call.Frame now) f = go (accepts_frame (source_of f) f)
  where
    ns : List ℕ
    ns = 0 ∷ 13 ∷ 7 ∷ counting_numbers

    go : (b : Bool) → among (number (cond b (to_source s f now) (no refusal.FrameNotAccepted, s)).0) ns ≡ true
    go true =
        route-number ns s (source_of f) (held s (source_of f)) _ _ refl
        (λ h. of-first (λ n. among n ns) (frame_numbers h.state f now (not (room (read_id f) h.readings))) refl)
    go false = refl
numbers-by s (call.Look m) f = route-number (0 ∷ 6 ∷ []) s m (held s m) _ _ refl (λ h. refl)
numbers-by s (call.Remove m now) f =
    route-number (0 ∷ 6 ∷ 7 ∷ 8 ∷ []) s m (held s m) _ _ refl
    (λ h. of-first (λ n. among n (0 ∷ 6 ∷ 7 ∷ 8 ∷ []))
    ((is_out_of_time h.state.clock now, refusal.TimeOutOfRange) ∷ (not (is_idle h.state.operation.phase), refusal.OperationRunning) ∷ []) refl)

pub call-numbers : (s : List Place) (a : Asked) → among (number (station_call s a).0) (numbers_of a.call) ≡ true
call-numbers s a = numbers-by s a.call a.frame

-- and so none of other numbers
none_of : (s : List Place) (a : Asked) (ys : List ℕ) → every (λ k. not (among k ys)) (numbers_of a.call) ≡ true → among (number (station_call s a).0) ys ≡ false
none_of s a ys h = outside (number (station_call s a).0) (numbers_of a.call) ys h (call-numbers s a)

pub start_none : (s : List Place) (m : ℕ) (c : Command) (now : ℕ)
    → among (number (station_call s (start m c now)).0) (21 ∷ moving_numbers) ≡ false
unfolding numbers_of among
start_none s m c now = none_of s (start m c now) (21 ∷ moving_numbers) refl

pub frame-none : (s : List Place) (f : CanFrame) (now : ℕ)
    → among (number (station_call s (frame f now)).0) (19 ∷ 21 ∷ ending_numbers) ≡ false
unfolding numbers_of among
frame-none s f now = none_of s (frame f now) (19 ∷ 21 ∷ ending_numbers) refl
