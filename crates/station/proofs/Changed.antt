-- Demand 1 over the definitions: what 14 and 15, and what 16, 17, 18 and 20 change of their motor. Assumes nothing.
use Rattle.std.specs.Prelude.{Result, Ok, Err, ⊤, Option, Some}
use Prim.Native.Nat.{ℕ}
use mathlib.Core.Path.{◌≡◌, refl, sym, ap, ◌∙◌, subst}
use mathlib.Core.Bool.{Bool, true, false, true≢false, cond, not}
use mathlib.Core.List.{List}
use Rattle.codec.specs.declared.bus.CanFrame.{CanFrame}
use Rattle.codec.specs.declared.error.Refusal.{Refusal}
use Rattle.codec.specs.declared.error.Refusal.TheVariants as refusal
use Rattle.codec.specs.Kinds.{among}
use Rattle.codec.specs.Refusals.{number_of}
use Rattle.motor.specs.declared.engine.command.Said.{Said}
use Rattle.motor.specs.declared.engine.command.Said.TheVariants as said
use Rattle.motor.proofs.engine.Choices.{cond_yes}
use Rattle.motor.specs.declared.motor.State.{State}
use Rattle.motor.specs.Lone.{Lone, lone_step, hears}
use Rattle.motor.specs.Readings.{insert, room}
use Rattle.motor.specs.Receive.{accepts_frame, counted_at, read_id, read_stored, frame_said, state_after, readings_after}
use Rattle.motor.proofs.Clock.{step-failed}
use Rattle.motor.proofs.Stays.{moves_by}
use Rattle.station.specs.Calls.{step, frame, Reply, no, says, answered}
use Rattle.station.specs.Station.{Place, held, Distinct, moves_to, hears_to, lone_by, source_of, to_source, station_by, station_call}
use Rattle.station.specs.History.{mine_by}
use Rattle.station.specs.Demands.{number, raised, failed, counting_numbers, ending_numbers, moving_numbers}
use Rattle.station.proofs.NumberLists.{of-each}
use Rattle.station.proofs.Places.{own-id}
use Rattle.station.proofs.Steps.{own-call}

-- ---- 14 and 15

lone-counted : (h : Lone) (f : CanFrame) (now : ℕ) → among (number (hears_to (hears h f now)).0) counting_numbers ≡ true
    → (hears_to (hears h f now)).1 ≡ Some (raised h now)
unfolding hears_to hears state_after readings_after raised among
lone-counted h f now = go (frame_said h.state f now (not (room (read_id f) h.readings)))
  where
    new : Result ⊤ Refusal → Lone
    new k =
        record { state = state_after k h.state f now; readings = readings_after k f (insert (read_id f) (read_stored f) h.readings) h.readings }

    go : (k : Result ⊤ Refusal) → among (number (answered k)) counting_numbers ≡ true → Some (new k) ≡ Some (raised h now)
    go (Ok tt) e = absurd (true≢false (sym e))
    go (Err r) e =
        ap {B = Option Lone} (λ (a : State). Some (record { state = a; readings = h.readings })) (cond_yes (counted_at h.state now) h.state e)

pub frame-counted : (s : List Place) (f : CanFrame) (now : ℕ) (h : Lone) → Distinct s → held s (source_of f) ≡ Some h
    → among (number (station_call s (frame f now)).0) counting_numbers ≡ true
    → held (station_call s (frame f now)).1 (source_of f) ≡ Some (raised h now)
unfolding station_by lone_by mine_by among
frame-counted s f now h d q e = go (accepts_frame (source_of f) f) refl
  where
    go : (b : Bool) → accepts_frame (source_of f) f ≡ b → held (station_call s (frame f now)).1 (source_of f) ≡ Some (raised h now)
    go true p =
        let o = own-call s (source_of f) h (frame f now) d q p in
        o.1 ∙ lone-counted h f now (subst (λ (a : Reply). among (number a) counting_numbers ≡ true) o.0 e)
    go false p =
        absurd (true≢false (sym e ∙ ap (λ (b : Bool). among (number (cond b (to_source s f now) (no refusal.FrameNotAccepted, s)).0) counting_numbers) p))

-- ---- 16, 17, 18 and 20

-- they are among those that move the clock
pub moving : (r : Refusal) → among (number_of r) ending_numbers ≡ true → moves_by r ≡ true
unfolding among
moving r e = of-each (λ n. among n moving_numbers) (number_of r) ending_numbers refl e

lone-ended : (h : Lone) (now : ℕ) → among (number (moves_to (lone_step h now)).0) ending_numbers ≡ true
    → (moves_to (lone_step h now)).1 ≡ Some (failed h now)
unfolding moves_to failed among
lone-ended h now e = ap (λ (k : Lone). Some k) (go (lone_step h now).said refl e)
  where
    go : (w : Said) → (lone_step h now).said ≡ w → among (number (says w (lone_step h now).frame (lone_step h now).result)) ending_numbers ≡ true
        → (lone_step h now).lone ≡ failed h now
    go (said.Sent due) q e = absurd (true≢false (sym e))
    go (said.Waiting due) q e = absurd (true≢false (sym e))
    go (said.Finished r) q e = absurd (true≢false (sym e))
    go (said.FinishedWith r) q e = absurd (true≢false (sym e))
    go (said.Refused r) q e = step-failed h now r q (moving r e)

pub step-ended : (s : List Place) (m now : ℕ) (h : Lone) → Distinct s → held s m ≡ Some h
    → among (number (station_call s (step m now)).0) ending_numbers ≡ true
    → held (station_call s (step m now)).1 m ≡ Some (failed h now)
unfolding lone_by mine_by
step-ended s m now h d q e =
    let o = own-call s m h (step m now) d q (own-id m) in
    o.1 ∙ lone-ended h now (subst (λ (a : Reply). among (number a) ending_numbers ≡ true) o.0 e)
