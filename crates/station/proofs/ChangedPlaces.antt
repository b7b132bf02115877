-- What 14 and 15, what 16, 17, 18 and 20, and what a removal change of the motor at their place: by the functions' first clauses, on
-- any station. Assumes nothing.
use Rattle.std.specs.Prelude.{Result, Ok, Err, ⊤}
use Prim.Native.Nat.{ℕ}
use mathlib.Core.Path.{◌≡◌, refl, sym, ap, ◌∙◌}
use mathlib.Core.Bool.{true, true≢false}
use mathlib.Core.List.{List}
use Rattle.codec.specs.declared.error.Refusal.{Refusal}
use Rattle.codec.specs.declared.bus.CanFrame.{CanFrame}
use Rattle.codec.specs.declared.error.Refusal.TheVariants as refusal
use Rattle.codec.specs.Kinds.{among}
use Rattle.motor.specs.declared.engine.command.Said.{Said}
use Rattle.motor.specs.declared.engine.command.Said.TheVariants as said
use Rattle.motor.specs.declared.engine.operation.Effect.{Effect}
use Rattle.motor.specs.declared.engine.operation.Effect.TheVariants as effect
use Rattle.motor.specs.declared.engine.operation.Operation.{Operation}
use Rattle.motor.specs.declared.engine.operation.Phase.{Phase}
use Rattle.motor.specs.engine.Run.{no_operation, advanced}
use Rattle.motor.proofs.engine.Choices.{cond_yes}
use Rattle.motor.specs.declared.motor.Motor.{Motor}
use Rattle.motor.specs.declared.motor.State.{State}
use Rattle.motor.specs.declared.readings.Readings.{Readings}
use Rattle.motor.specs.Calls.{is_idle, step_said, no_command, sight_of, state_by, readings_by, wanted}
use Rattle.motor.specs.Motors.{step_by, step_of, removal_of}
use Rattle.motor.specs.Readings.{find_of, put_of, drop_id}
use Rattle.motor.specs.Receive.{accepts_frame, is_out_of_time, counted_at, read_id, read_stored, frame_said, state_after, readings_after, is_full, process_feedback_frame}
use Rattle.motor.proofs.Ends.{Closed, advance-ends}
use Rattle.motor.proofs.Stays.{Stays, step_stays, running}
use Rattle.station.specs.declared.station.Station.{Station}
use Rattle.station.specs.declared.station.After.{After}
use Rattle.station.specs.Calls.{step, frame, remove, gives, ok, says, answered}
use Rattle.station.specs.Station.{source_of}
use Rattle.station.specs.Stations.{free_motor, taken_place, motor_at, with_motor, at_place, tell, moved_at, not_moved, heard_at, removed_at, step_in, frame_in, remove_in}
use Rattle.station.specs.Demands.{number, counting_numbers, ending_numbers}
use Rattle.station.specs.Code.{reply_in, next, given_by, given, place_by, place_for, raised_at, failed_at}
use Rattle.station.proofs.Elsewhere.{either, at-place}
use Rattle.station.proofs.Changed.{moving}
use Rattle.station.proofs.Steps.{no_ok}

-- ---- 14 and 15

motor-counted : (y : Motor) (f : CanFrame) (now : ℕ) → among (number (answered (process_feedback_frame y f now).said)) counting_numbers ≡ true
    → ◌≡◌ {A = Motor} (process_feedback_frame y f now).motor (record { state = counted_at y.state now; readings = y.readings })
unfolding process_feedback_frame state_after readings_after among
motor-counted y f now =
    let put = put_of y.readings (read_id f) (read_stored f) in
    go (frame_said y.state f now (is_full put.said)) put.readings
  where
    go : (k : Result ⊤ Refusal) (new : Readings) → among (number (answered k)) counting_numbers ≡ true
        → ◌≡◌ {A = Motor} (record { state = state_after k y.state f now; readings = readings_after k f new y.readings })
        (record { state = counted_at y.state now; readings = y.readings })
    go (Ok tt) new e = absurd (true≢false (sym e))
    go (Err r) new e =
        ap {B = Motor} (λ (a : State). record { state = a; readings = y.readings }) (cond_yes (counted_at y.state now) y.state e)

module _ (st : Station) (f : CanFrame) (now : ℕ) where
  abbrev Raised : After → Type 0
  Raised r = among (number (gives r.replied)) counting_numbers ≡ true → r.station ≡ raised_at st (taken_place st.motors (source_of f)) now

  frame-raised : Raised (frame_in st f now)
  unfolding frame_in among
  frame-raised =
      let other = tell st (Err refusal.FrameNotAccepted) in
      let found : ℕ → After = λ i. heard_at st i (process_feedback_frame (motor_at st i) f now) in
      either Raised (accepts_frame (source_of f) f) (at_place st (source_of f) found other) other
      (at-place Raised st (source_of f) found other
      (λ i p e. ap (λ (y : Motor). with_motor st i y) (motor-counted (motor_at st i) f now e) ∙ ap (λ (j : ℕ). raised_at st j now) p)
      (λ e. absurd (true≢false (sym e))))
      (λ e. absurd (true≢false (sym e)))

  pub place-counted : among (number (reply_in (given st (frame f now)))) counting_numbers ≡ true
      → next st (given st (frame f now)) ≡ raised_at st (place_for st (frame f now)) now
  unfolding given_by reply_in next place_by
  place-counted = frame-raised

-- ---- 16, 17, 18 and 20

motor-ended : (y : Motor) (now : ℕ) → among (number (says (step_of y now).said (step_of y now).frame (step_of y now).result)) ending_numbers ≡ true
    → ◌≡◌ {A = Motor} (step_of y now).motor (record { state = state_by y.state now no_command no_operation effect.Nothing; readings = y.readings })
unfolding among
motor-ended y now = go (step_said y.state.clock p now) refl (step_stays y.state.clock p now)
  where
    p : Phase
    p = y.state.operation.phase

    after : Operation → Effect → Motor
    after op x = record { state = state_by y.state now y.state.command op x; readings = readings_by x (λ id. drop_id y.readings id) y.readings }

    over : (w : Said) (op : Operation) (x : Effect) (f : CanFrame) (b : List ℕ) → Closed w op x → among (number (says w f b)) ending_numbers ≡ true
        → after op x ≡ after no_operation effect.Nothing
    over (said.Sent due) op x f b h e = absurd (true≢false (sym e))
    over (said.Waiting due) op x f b h e = absurd (true≢false (sym e))
    over (said.Finished r) op x f b h e = absurd (true≢false (sym e))
    over (said.FinishedWith r) op x f b h e = absurd (true≢false (sym e))
    over (said.Refused r) op x f b h e = ap (λ (o : Operation). after o x) h.1 ∙ ap (λ (z : Effect). after no_operation z) h.2

    go : (k : Result ⊤ Refusal) → step_said y.state.clock p now ≡ k → Stays k
        → among (number (says (step_by k y now).said (step_by k y now).frame (step_by k y now).result)) ending_numbers ≡ true
        → (step_by k y now).motor ≡ after no_operation effect.Nothing
    go (Ok tt) q s e =
        let f = wanted p (λ id. find_of y.readings id) in
        let v = advanced (sight_of y.state) now y.state.operation f p in
        over v.said v.operation v.effect v.frame v.result
        (advance-ends (sight_of y.state) now y.state.operation f p (running (is_out_of_time y.state.clock now) (is_idle p) q)) e
    go (Err r) q s e = absurd (true≢false (sym (moving r e) ∙ s))

module _ (st : Station) (m now : ℕ) where
  abbrev Failed : After → Type 0
  Failed r = among (number (gives r.replied)) ending_numbers ≡ true → r.station ≡ failed_at st (taken_place st.motors m) now

  step-failed : Failed (step_in st m now)
  unfolding step_in among
  step-failed =
      at-place Failed st m (λ i. moved_at st i (step_of (motor_at st i) now)) (not_moved st)
      (λ i p e. ap (λ (y : Motor). with_motor st i y) (motor-ended (motor_at st i) now e) ∙ ap (λ (j : ℕ). failed_at st j now) p)
      (λ e. absurd (true≢false (sym e)))

  pub place-ended : among (number (reply_in (given st (step m now)))) ending_numbers ≡ true
      → next st (given st (step m now)) ≡ failed_at st (place_for st (step m now)) now
  unfolding given_by reply_in next place_by
  place-ended = step-failed

-- ---- a removal that isn't refused

module _ (st : Station) (m now : ℕ) where
  abbrev Freed : After → Type 0
  Freed r = gives r.replied ≡ ok → r.station ≡ with_motor st (taken_place st.motors m) free_motor

  removed-freed : (k : Result ⊤ Refusal) (i : ℕ) → i ≡ taken_place st.motors m → Freed (removed_at k st i)
  removed-freed (Ok tt) i p e = ap (λ (j : ℕ). with_motor st j free_motor) p
  removed-freed (Err r) i p e = no_ok r e

  remove-freed : Freed (remove_in st m now)
  unfolding remove_in
  remove-freed =
      at-place Freed st m (λ i. removed_at (removal_of (motor_at st i) now) st i) (tell st (Err refusal.IdNotRegistered))
      (λ i p. removed-freed (removal_of (motor_at st i) now) i p)
      (λ e. no_ok refusal.IdNotRegistered e)

  pub place-freed : reply_in (given st (remove m now)) ≡ ok → next st (given st (remove m now)) ≡ with_motor st (place_for st (remove m now)) free_motor
  unfolding given_by reply_in next place_by
  place-freed = remove-freed
