-- Refused by a number other than 14 to 18 and 20, a call returns the station that it was given, the same value: by the functions'
-- first clauses, on any station. Assumes nothing.
use Rattle.std.specs.Prelude.{Option, Result, Ok, Err, ⊤}
use Prim.Native.Nat.{ℕ}
use mathlib.Core.Path.{◌≡◌, refl, sym, ap, ◌∙◌}
use mathlib.Core.Bool.{Bool, true, false, true≢false, or-true, ◌||◌}
use mathlib.Core.List.{List}
use lib.Dec.{eqb, ltb}
use lib.Seq.{set-get_or}
use lib.ListN.{set}
use Rattle.codec.specs.declared.bus.CanFrame.{CanFrame}
use Rattle.codec.specs.declared.error.Refusal.{Refusal}
use Rattle.codec.specs.declared.error.Refusal.TheVariants as refusal
use Rattle.codec.specs.declared.model.Model.{Model}
use Rattle.codec.specs.Kinds.{among}
use Rattle.codec.specs.Refusals.{number_of}
use Rattle.motor.specs.declared.engine.command.Command.{Command}
use Rattle.motor.specs.declared.engine.command.Said.{Said}
use Rattle.motor.specs.declared.engine.command.Said.TheVariants as said
use Rattle.motor.specs.declared.engine.operation.Effect.{Effect}
use Rattle.motor.specs.declared.engine.operation.Operation.{Operation}
use Rattle.motor.specs.engine.Run.{advanced, begun_by}
use Rattle.motor.specs.declared.motor.Answered.{Answered}
use Rattle.motor.specs.declared.motor.Motor.{Motor}
use Rattle.motor.specs.declared.readings.Readings.{Readings}
use Rattle.motor.specs.declared.receive.Heard.{Heard}
use Rattle.motor.specs.Calls.{sight_of, wanted, is_idle, start_admitted, argued_of, start_said, step_said, registration_of}
use Rattle.motor.specs.Motors.{new_motor, start_by, start_of, step_by, step_of, removal_of}
use Rattle.motor.specs.Readings.{find_of, put_of}
use Rattle.motor.specs.Receive.{accepts_frame, is_out_of_time, read_id, read_stored, frame_said, state_after, readings_after, is_full, process_feedback_frame}
use Rattle.motor.proofs.Ends.{Closed, begin-ends, advance-ends}
use Rattle.motor.proofs.Stays.{moves, heard_moves, argued-passed, running}
use Rattle.station.specs.declared.station.Station.{Station}
use Rattle.station.specs.declared.station.After.{After}
use Rattle.station.specs.declared.call.Asked.{Asked}
use Rattle.station.specs.declared.call.Call.{Call}
use Rattle.station.specs.declared.call.Call.TheVariants as call
use Rattle.station.specs.Calls.{gives}
use Rattle.station.specs.Station.{source_of}
use Rattle.station.specs.Stations.{free_motor, place_of, motor_at, with_motor, at_place, tell, moved_at, not_moved, heard_at, removed_at, entered_in, admitted_in, register_by, register_in, start_in, step_in, frame_in, remove_in}
use Rattle.station.specs.Demands.{inert, counting_numbers, ending_numbers, moving_numbers}
use Rattle.station.specs.Code.{reply_in, next, given_by, given}
use Rattle.station.proofs.Elsewhere.{either, at-place}
use Rattle.station.proofs.Refused.{said-moves, told-moves}

-- ---- a motor refused by such a number is the same value

ends-moves : (s : Said) (op : Operation) (e : Effect) → Closed s op e → moves s ≡ true
unfolding among
ends-moves (said.Sent due) op e h = refl
ends-moves (said.Waiting due) op e h = refl
ends-moves (said.Finished r) op e h = refl
ends-moves (said.FinishedWith r) op e h = refl
ends-moves (said.Refused r) op e h = rw (h.0, or-true, or-true)

start-kept : (y : Motor) (c : Command) (now : ℕ) → moves (start_of y c now).said ≡ false → (start_of y c now).motor ≡ y
start-kept y c now = go (start_said y.state.clock y.state.operation.phase c now) refl
  where
    go : (k : Result ⊤ Refusal) → start_said y.state.clock y.state.operation.phase c now ≡ k → moves (start_by k y c now).said ≡ false
        → (start_by k y c now).motor ≡ y
    go (Ok tt) e q =
        let v = begun_by (sight_of y.state) now c in
        let h = begin-ends (sight_of y.state) now c (argued-passed (start_admitted y.state.clock y.state.operation.phase c now) (argued_of c) e) in
        absurd (true≢false (sym (ends-moves v.said v.operation v.effect h) ∙ q))
    go (Err r) e q = refl

step_kept : (y : Motor) (now : ℕ) → moves (step_of y now).said ≡ false → (step_of y now).motor ≡ y
step_kept y now = go (step_said y.state.clock y.state.operation.phase now) refl
  where
    go : (k : Result ⊤ Refusal) → step_said y.state.clock y.state.operation.phase now ≡ k → moves (step_by k y now).said ≡ false
        → (step_by k y now).motor ≡ y
    go (Ok tt) e q =
        let op = y.state.operation in
        let f = wanted op.phase (λ id. find_of y.readings id) in
        let v = advanced (sight_of y.state) now op f op.phase in
        let h = advance-ends (sight_of y.state) now op f op.phase (running (is_out_of_time y.state.clock now) (is_idle op.phase) e) in
        absurd (true≢false (sym (ends-moves v.said v.operation v.effect h) ∙ q))
    go (Err r) e q = refl

-- 14 and 15 are two of those numbers
fewer : (n : ℕ) → among n moving_numbers ≡ false → among n counting_numbers ≡ false
unfolding among
fewer n e = go (eqb 14 n) (eqb 15 n) (among n ending_numbers) e
  where
    go : (a b c : Bool) → a || (b || c) ≡ false → a || (b || false) ≡ false
    go true b c e = e
    go false true c e = e
    go false false c e = refl

heard-kept : (y : Motor) (f : CanFrame) (now : ℕ) → heard_moves (process_feedback_frame y f now).said ≡ false → (process_feedback_frame y f now).motor ≡ y
unfolding process_feedback_frame state_after readings_after
heard-kept y f now =
    let put = put_of y.readings (read_id f) (read_stored f) in
    go (frame_said y.state f now (is_full put.said)) put.readings
  where
    go : (k : Result ⊤ Refusal) (new : Readings) → heard_moves k ≡ false
        → ◌≡◌ {A = Motor} (record { state = state_after k y.state f now; readings = readings_after k f new y.readings }) y
    go (Ok tt) new q = absurd (true≢false q)
    go (Err r) new q = rw (fewer (number_of r) q)

-- ---- put back, it leaves the station the same value

put_back : (st : Station) (i : ℕ) (y : Motor) → y ≡ motor_at st i → with_motor st i y ≡ st
put_back st i y e =
    ap {B = Station} (λ (l : List Motor). record { motors = l }) (ap (λ (m : Motor). set st.motors i m) e ∙ set-get_or st.motors i free_motor)

-- ---- the six calls

-- refused by such a number, st comes back
abbrev Still : Station → After → Type 0
Still st r = inert (gives r.replied) ≡ true → r.station ≡ st

refused-still : (st : Station) (r : Refusal) → Still st (tell st (Err r))
refused-still st r e = refl

passed-still : (st after : Station) → Still st (tell after (Ok tt))
unfolding inert among
passed-still st after e = absurd (true≢false (sym e))

moved-still : (st : Station) (i : ℕ) (a : Answered) → (moves a.said ≡ false → a.motor ≡ motor_at st i) → Still st (moved_at st i a)
moved-still st i a same e = put_back st i a.motor (same (said-moves a.said a.frame a.result e))

heard-still : (st : Station) (i : ℕ) (h : Heard) → (heard_moves h.said ≡ false → h.motor ≡ motor_at st i) → Still st (heard_at st i h)
heard-still st i h same e = put_back st i h.motor (same (told-moves h.said e))

start-still : (st : Station) (id : ℕ) (c : Command) (now : ℕ) → Still st (start_in st id c now)
unfolding start_in
start-still st id c now =
    at-place (Still st) st id (λ i. moved_at st i (start_of (motor_at st i) c now)) (not_moved st)
    (λ i p. moved-still st i (start_of (motor_at st i) c now) (start-kept (motor_at st i) c now))
    (λ e. refl)

step-still : (st : Station) (id now : ℕ) → Still st (step_in st id now)
unfolding step_in
step-still st id now =
    at-place (Still st) st id (λ i. moved_at st i (step_of (motor_at st i) now)) (not_moved st)
    (λ i p. moved-still st i (step_of (motor_at st i) now) (step_kept (motor_at st i) now))
    (λ e. refl)

frame-still : (st : Station) (f : CanFrame) (now : ℕ) → Still st (frame_in st f now)
unfolding frame_in
frame-still st f now =
    let other = tell st (Err refusal.FrameNotAccepted) in
    either (Still st) (accepts_frame (source_of f) f) (at_place st (source_of f) (λ i. heard_at st i (process_feedback_frame (motor_at st i) f now)) other) other
    (at-place (Still st) st (source_of f) (λ i. heard_at st i (process_feedback_frame (motor_at st i) f now)) other
    (λ i p. heard-still st i (process_feedback_frame (motor_at st i) f now) (heard-kept (motor_at st i) f now))
    (refused-still st refusal.FrameNotAccepted))
    (refused-still st refusal.FrameNotAccepted)

removed-still : (k : Result ⊤ Refusal) (st : Station) (i : ℕ) → Still st (removed_at k st i)
removed-still (Ok tt) st i = passed-still st (with_motor st i free_motor)
removed-still (Err r) st i = refused-still st r

remove-still : (st : Station) (id now : ℕ) → Still st (remove_in st id now)
unfolding remove_in
remove-still st id now =
    at-place (Still st) st id (λ i. removed_at (removal_of (motor_at st i) now) st i) (tell st (Err refusal.IdNotRegistered))
    (λ i p. removed-still (removal_of (motor_at st i) now) st i)
    (refused-still st refusal.IdNotRegistered)

entered-still : (st : Station) (m : Motor) → Still st (entered_in st m)
unfolding entered_in
entered-still st m =
    either (Still st) (ltb (place_of st.motors 0) 8) (tell (with_motor st (place_of st.motors 0) m) (Ok tt)) (tell st (Err refusal.StationFull))
    (passed-still st (with_motor st (place_of st.motors 0) m))
    (refused-still st refusal.StationFull)

admitted-still : (st : Station) (id host : ℕ) (model : Model) (wait time : ℕ) → Still st (admitted_in st id host model wait time)
unfolding admitted_in
admitted-still st id host model wait time =
    at-place (Still st) st id (λ i. tell st (Err refusal.IdRegistered)) (entered_in st (new_motor id host model wait time))
    (λ i p. refused-still st refusal.IdRegistered)
    (entered-still st (new_motor id host model wait time))

registered-still : (k : Result Model Refusal) (st : Station) (id host wait time : ℕ) → Still st (register_by k st id host wait time)
registered-still (Ok model) st id host wait time = admitted-still st id host model wait time
registered-still (Err r) st id host wait time = refused-still st r

register-still : (st : Station) (id host : ℕ) (model : Option Model) (wait time : ℕ) → Still st (register_in st id host model wait time)
unfolding register_in
register-still st id host model wait time = registered-still (registration_of id host model wait time) st id host wait time

still-by : (st : Station) (c : Call) (f : CanFrame) → inert (reply_in (given_by st c f)) ≡ true → next st (given_by st c f) ≡ st
unfolding given_by reply_in next
still-by st (call.Register m h k w t) f = register-still st m h k w t
still-by st (call.Start m c t) f = start-still st m c t
still-by st (call.Step m t) f = step-still st m t
still-by st (call.Frame t) f = frame-still st f t
still-by st (call.Look m) f = λ e. refl
still-by st (call.Remove m t) f = remove-still st m t

pub given-still : (st : Station) (a : Asked) → inert (reply_in (given st a)) ≡ true → next st (given st a) ≡ st
given-still st a = still-by st a.call a.frame
