-- Demand 1 over the definitions: a refused call changes nothing, and a removed motor's place is free; the rest is from Steps, Changed
-- and Numbers. Assumes nothing.
use Rattle.std.specs.Prelude.{Some, None, Result, Ok, Err, ⊤, Option}
use Prim.Native.Nat.{ℕ}
use mathlib.Core.Path.{◌≡◌, refl, sym, ap, ◌∙◌}
use mathlib.Core.Bool.{Bool, true, false, true≢false, not, ◌||◌, cond}
use mathlib.Core.List.{List}
use lib.Dec.{eqb}
use Rattle.codec.specs.declared.model.Model.{Model}
use Rattle.codec.specs.declared.bus.CanFrame.{CanFrame}
use Rattle.codec.specs.declared.error.Refusal.{Refusal}
use Rattle.codec.specs.declared.error.Refusal.TheVariants as refusal
use Rattle.codec.specs.Kinds.{among}
use Rattle.codec.specs.Refusals.{number_of}
use Rattle.motor.specs.declared.engine.command.Said.{Said}
use Rattle.motor.specs.declared.engine.command.Said.TheVariants as said
use Rattle.motor.specs.Lone.{Lone, LoneAnswered, LoneHeard, lone_start, lone_step, hears, lone_removal}
use Rattle.motor.specs.Receive.{accepts_frame}
use Rattle.motor.proofs.Clock.{refused-nothing}
use Rattle.motor.proofs.Stays.{moves_by, moves, heard_moves}
use Rattle.station.specs.declared.call.Call.{Call}
use Rattle.station.specs.declared.call.Call.TheVariants as call
use Rattle.station.specs.Calls.{remove, Reply, ok, no, says, answered, refused, refuses}
use Rattle.station.specs.Station.{Place, held, put, Distinct, moves_to, hears_to, leaves, lone_by, route, admission, enter, admit, source_of, to_motor, to_source, station_by, station_call}
use Rattle.station.specs.Demands.{inert, Demand1}
use Rattle.station.proofs.Changed.{frame-counted, step-ended}
use Rattle.station.proofs.Numbers.{call-numbers, start_none, frame-none}
use Rattle.station.proofs.Places.{held-put, put-held}
use Rattle.station.proofs.Steps.{other, no_ok}

-- refused by another number, it isn't one that moves the clock
not-moving : (r : Refusal) → not (eqb 0 (number_of r) || moves_by r) ≡ true → moves_by r ≡ false
not-moving r = go (eqb 0 (number_of r)) (moves_by r)
  where
    go : (a b : Bool) → not (a || b) ≡ true → b ≡ false
    go true b e = absurd (true≢false (sym e))
    go false true e = absurd (true≢false (sym e))
    go false false e = refl

-- ---- the lone motor refused by such a number holds the same

pub said-moves : (w : Said) (f : CanFrame) (b : List ℕ) → inert (says w f b) ≡ true → moves w ≡ false
unfolding inert among
said-moves (said.Sent due) f b e = absurd (true≢false (sym e))
said-moves (said.Waiting due) f b e = absurd (true≢false (sym e))
said-moves (said.Finished r) f b e = absurd (true≢false (sym e))
said-moves (said.FinishedWith r) f b e = absurd (true≢false (sym e))
said-moves (said.Refused r) f b e = not-moving r e

pub told-moves : (w : Result ⊤ Refusal) → inert (answered w) ≡ true → heard_moves w ≡ false
unfolding inert among
told-moves (Ok tt) e = absurd (true≢false (sym e))
told-moves (Err r) e = not-moving r e

moved-still : (h : Lone) (a : LoneAnswered) → (moves a.said ≡ false → a.lone ≡ h) → inert (moves_to a).0 ≡ true → (moves_to a).1 ≡ Some h
unfolding moves_to
moved-still h a same e = ap (λ (k : Lone). Some k) (same (said-moves a.said a.frame a.result e))

heard-still : (h : Lone) (a : LoneHeard) → (heard_moves a.said ≡ false → a.lone ≡ h) → inert (hears_to a).0 ≡ true → (hears_to a).1 ≡ Some h
unfolding hears_to
heard-still h a same e = ap (λ (k : Lone). Some k) (same (told-moves a.said e))

lone-still : (h : Lone) (c : Call) (f : CanFrame) → inert (lone_by h c f).0 ≡ true → (lone_by h c f).1 ≡ Some h
unfolding lone_by inert among leaves
lone-still h (call.Register m host model wait time) f e = refl
lone-still h (call.Start m c now) f e = moved-still h (lone_start h c now) ((refused-nothing h).start c now) e
lone-still h (call.Step m now) f e = moved-still h (lone_step h now) ((refused-nothing h).step now) e
lone-still h (call.Frame now) f e = heard-still h (hears h f now) ((refused-nothing h).frame f now) e
lone-still h (call.Look m) f e = refl
lone-still h (call.Remove m now) f e = go (lone_removal h now) e
  where
    go : (k : Result ⊤ Refusal) → inert (answered k) ≡ true → leaves h k ≡ Some h
    go (Ok tt) e = absurd (true≢false (sym e))
    go (Err r) e = refl

-- ---- and so does the station

route-still : (s : List Place) (m : ℕ) (o : Option Lone) (r : Reply) (visit : Lone → Reply × Option Lone) → held s m ≡ o
    → ((h : Lone) → inert (visit h).0 ≡ true → (visit h).1 ≡ Some h)
    → inert (route s m o r visit).0 ≡ true → (route s m o r visit).1 ≡ s
unfolding route
route-still s m None r visit q same e = refl
route-still s m (Some h) r visit q same e = ap (λ (k : Option Lone). put s m k) (same h e) ∙ put-held s m h q

enter-still : (s : List Place) (m host : ℕ) (model : Option Model) (wait time : ℕ)
    → inert (enter s m host model wait time).0 ≡ true → (enter s m host model wait time).1 ≡ s
unfolding enter inert among
enter-still s m host (Some model) wait time e = absurd (true≢false (sym e))
enter-still s m host None wait time e = refl

admit-still : (k : Result ⊤ Refusal) (s : List Place) (m host : ℕ) (model : Option Model) (wait time : ℕ)
    → inert (admit k s m host model wait time).0 ≡ true → (admit k s m host model wait time).1 ≡ s
unfolding admit
admit-still (Ok tt) s m host model wait time e = enter-still s m host model wait time e
admit-still (Err r) s m host model wait time e = refl

to-still : (s : List Place) (m : ℕ) (c : Call) (f : CanFrame) → inert (to_motor s m c f).0 ≡ true → (to_motor s m c f).1 ≡ s
to-still s m c f e = route-still s m (held s m) _ _ refl (λ h. lone-still h c f) e

call-still : (s : List Place) (c : Call) (f : CanFrame) → inert (station_by s c f).0 ≡ true → (station_by s c f).1 ≡ s
unfolding station_by
call-still s (call.Register m host model wait time) f e = admit-still (admission s m host model wait time) s m host model wait time e
call-still s (call.Start m c now) f e = to-still s m (call.Start m c now) f e
call-still s (call.Step m now) f e = to-still s m (call.Step m now) f e
call-still s (call.Frame now) f e = go (accepts_frame (source_of f) f) e
  where
    go : (b : Bool) → inert (cond b (to_source s f now) (no refusal.FrameNotAccepted, s)).0 ≡ true
        → (cond b (to_source s f now) (no refusal.FrameNotAccepted, s)).1 ≡ s
    go true e = route-still s (source_of f) (held s (source_of f)) _ _ refl (λ h. lone-still h (call.Frame now) f) e
    go false e = refl
call-still s (call.Look m) f e = to-still s m (call.Look m) f e
call-still s (call.Remove m now) f e = to-still s m (call.Remove m now) f e

-- a removal that isn't refused frees the place
removed : (s : List Place) (m now : ℕ) → Distinct s → (station_call s (remove m now)).0 ≡ ok → held (station_call s (remove m now)).1 m ≡ None
unfolding station_by route lone_by leaves refused
removed s m now d e = by-held (held s m) refl e
  where
    left : (h : Lone) → held s m ≡ Some h → (k : Result ⊤ Refusal) → answered k ≡ ok → held (put s m (leaves h k)) m ≡ None
    left h q (Ok tt) e = held-put s m h None d q
    left h q (Err r) e = no_ok r e

    there : Option Lone → Reply × List Place
    there o = route s m o (refuses (call.Remove m now) refusal.IdNotRegistered) (λ h. (answered (lone_removal h now), leaves h (lone_removal h now)))

    by-held : (o : Option Lone) → held s m ≡ o → (there o).0 ≡ ok → held (there o).1 m ≡ None
    by-held None q e = q
    by-held (Some h) q e = left h q (lone_removal h now) e

pub demand1 : Demand1
demand1 =
    record {
      refused = λ s a. call-still s a.call a.frame;
      others = other;
      freed = removed;
      counted = frame-counted;
      ended = step-ended;
      numbers = call-numbers;
      start-numbers = start_none;
      frame-numbers = frame-none;
    }
