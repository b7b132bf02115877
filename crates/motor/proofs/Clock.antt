-- clock-of: which calls of the lone motor move its clock, and which leave it the same value. Assumes nothing.
use Rattle.std.proofs.Common.{◌≡◌, ℕ, Bool, true, false, cond, not, ◌&&◌, eqb, [], ◌∷◌, sym, refl, ap, ◌∙◌, true≢false, Result, Ok, Err}
use Rattle.std.specs.Prelude.{⊤}
use mathlib.Core.Bool.{or-true}
use Rattle.codec.specs.declared.bus.CanFrame.{CanFrame}
use Rattle.codec.specs.declared.error.Refusal.{Refusal}
use Rattle.codec.specs.declared.error.Refusal.TheVariants as refusal
use Rattle.codec.specs.Kinds.{among}
use Rattle.motor.specs.declared.engine.command.Command.{Command}
use Rattle.motor.specs.declared.engine.command.Said.{Said}
use Rattle.motor.specs.declared.engine.command.Said.TheVariants as said
use Rattle.motor.specs.declared.engine.operation.Effect.{Effect}
use Rattle.motor.specs.declared.engine.operation.Effect.TheVariants as effect
use Rattle.motor.specs.declared.engine.operation.Move.{Move}
use Rattle.motor.specs.declared.engine.operation.Operation.{Operation}
use Rattle.motor.specs.declared.engine.operation.Phase.{Phase}
use Rattle.motor.specs.Calls.{is_idle, argued_of, start_admitted, start_said, step_said, no_command, sight_of, state_by, wanted}
use Rattle.motor.specs.Lone.{Lone, LoneAnswered, LoneHeard, lone_refused, lone_moved, lone_start, lone_start_by, lone_step, lone_step_by, hears}
use Rattle.motor.specs.Numbers.{first_of}
use Rattle.motor.specs.Readings.{lookup, insert, room}
use Rattle.motor.specs.Receive.{accepts_frame, is_out_of_time, is_read, counted_at, told_by, answer_taken, read_status, read_id, read_stored, frame_said, state_after, readings_after}
use Rattle.motor.specs.engine.Run.{no_operation, advanced, begun_by}
use Rattle.motor.proofs.Ends.{Closed, Ends, begin-ends, advance-ends}
use Rattle.motor.proofs.Receiving.{either-rule}
use Rattle.motor.proofs.Stays.{moves_by, moves, heard_moves, Stays, start-stays, step_stays, argued-passed, running}

-- ---- a move moves the clock

ends-moves : (s : Said) (op : Operation) (e : Effect) → Closed s op e → moves s ≡ true
unfolding among
ends-moves (said.Sent due) op e h = refl
ends-moves (said.Waiting due) op e h = refl
ends-moves (said.Finished r) op e h = refl
ends-moves (said.FinishedWith r) op e h = refl
ends-moves (said.Refused r) op e h = rw (h.0, or-true, or-true)

move-moves : (v : Move) → Ends v → moves v.said ≡ true
move-moves v h = ends-moves v.said v.operation v.effect h

-- ---- refused by a test, the lone motor is the same value; else a move was made, and the clock is the call's time

pub data Outcome (l : Lone) (now : ℕ) (a : LoneAnswered) : Type 0 where
  same : (r : Refusal) → moves_by r ≡ false → a ≡ lone_refused l (said.Refused r) → Outcome l now a
  moved : (c : Command) (v : Move) → Ends v → a ≡ lone_moved l now c v → Outcome l now a

-- failed: no operation runs, and nothing else that is held has changed but the clock
abbrev pub failed : Lone → ℕ → Lone
failed l now = record { state = state_by l.state now no_command no_operation effect.Nothing; readings = l.readings }

module _ (l : Lone) (now : ℕ) where
  pub start-outcome : (c : Command) → Outcome l now (lone_start l c now)
  start-outcome c = go (start_said clock p c now) refl (start-stays clock p c now)
    where
      clock : ℕ
      clock = l.state.clock

      p : Phase
      p = l.state.operation.phase

      go : (k : Result ⊤ Refusal) → start_said clock p c now ≡ k → Stays k → Outcome l now (lone_start_by k l c now)
      go (Ok tt) e h =
          let v = begun_by (sight_of l.state) now c in
          moved c v (begin-ends (sight_of l.state) now c (argued-passed (start_admitted clock p c now) (argued_of c) e)) refl
      go (Err r) e h = same r h refl

  pub step-outcome : Outcome l now (lone_step l now)
  step-outcome = go (step_said clock p now) refl (step_stays clock p now)
    where
      clock : ℕ
      clock = l.state.clock

      p : Phase
      p = l.state.operation.phase

      go : (k : Result ⊤ Refusal) → step_said clock p now ≡ k → Stays k → Outcome l now (lone_step_by k l now)
      go (Ok tt) e h =
          let f = wanted p (λ id. lookup id l.readings) in
          let v = advanced (sight_of l.state) now l.state.operation f p in
          moved l.state.command v (advance-ends (sight_of l.state) now l.state.operation f p (running (is_out_of_time clock now) (is_idle p) e)) refl
      go (Err r) e h = same r h refl

  clock-by : {a : LoneAnswered} → Outcome l now a → a.lone.state.clock ≡ cond (moves a.said) now l.state.clock
  clock-by (same r h e) = rw (e, h)
  clock-by (moved c v h e) = rw (e, move-moves v h)

  same_by : {a : LoneAnswered} → Outcome l now a → moves a.said ≡ false → a.lone ≡ l
  same_by (same r h e) q = rw e
  same_by (moved c v h e) q =
      let z : true ≡ false = sym (move-moves v h) ∙ (rw e at q) in
      absurd (true≢false z)

  failed-by : {a : LoneAnswered} → Outcome l now a → (r : Refusal) → a.said ≡ said.Refused r → moves_by r ≡ true → a.lone ≡ failed l now
  failed-by (same s h e) r q m =
      let t : said.Refused s ≡ said.Refused r = rw e at q in
      let k : moves_by s ≡ true = rw (sym (ap moves t)) at m in
      absurd (true≢false (sym k ∙ h))
  failed-by (moved c v h e) r q m =
      let t : v.said ≡ said.Refused r = rw e at q in
      let k : Closed (said.Refused r) v.operation v.effect = rw t at h in
      rw (e, k.1, k.2)

-- ---- a frame: 13 and 7 leave the lone motor, 14 and 15 move its clock

module _ (l : Lone) (f : CanFrame) (now : ℕ) where
  abbrev heard_by : Result ⊤ Refusal → LoneHeard
  heard_by k =
      record {
        lone = record { state = state_after k l.state f now; readings = readings_after k f (insert (read_id f) (read_stored f) l.readings) l.readings };
        said = k;
      }

  abbrev tested : Bool → Bool → Bool → Bool → Result ⊤ Refusal
  tested a b c d =
      first_of
      ((a, refusal.FrameNotAccepted)
      ∷ (b, refusal.TimeOutOfRange)
      ∷ (c, refusal.ReadFailed (read_id f) (read_status f))
      ∷ (d, refusal.ReadingsFull)
      ∷ [])

  frame-clock : (a b c d : Bool)
      → (heard_by (tested a b c d)).lone.state.clock ≡ cond (heard_moves (tested a b c d)) now l.state.clock
  unfolding state_after answer_taken counted_at told_by among
  frame-clock true b c d = refl
  frame-clock false true c d = refl
  frame-clock false false true d = refl
  frame-clock false false false true = refl
  frame-clock false false false false = either-rule (λ s. s.clock ≡ now) (counted_at l.state now) f refl refl

  frame_same : (a b c d : Bool) → heard_moves (tested a b c d) ≡ false → (heard_by (tested a b c d)).lone ≡ l
  unfolding state_after readings_after among
  frame_same true b c d h = refl
  frame_same false true c d h = refl
  frame_same false false true d h = absurd (true≢false h)
  frame_same false false false true h = absurd (true≢false h)
  frame_same false false false false h = absurd (true≢false h)

-- ---- the theorems

-- the clock after a start, a step or a frame is the call's time, unless it was refused by a number other than 14 to 18 and 20
pub record ClockOf (l : Lone) : Type 0 where
  pub start : (c : Command) (now : ℕ) → (lone_start l c now).lone.state.clock ≡ cond (moves (lone_start l c now).said) now l.state.clock
  pub step : (now : ℕ) → (lone_step l now).lone.state.clock ≡ cond (moves (lone_step l now).said) now l.state.clock
  pub frame : (f : CanFrame) (now : ℕ) → (hears l f now).lone.state.clock ≡ cond (heard_moves (hears l f now).said) now l.state.clock

pub clock-of : (l : Lone) → ClockOf l
unfolding hears frame_said
clock-of l =
    record {
      start = λ c now. clock-by l now (start-outcome l now c);
      step = λ now. clock-by l now (step-outcome l now);
      frame = λ f now. frame-clock l f now (not (accepts_frame l.state.motor_id f)) (is_out_of_time l.state.clock now) (is_read f && not (eqb (read_status f) 0)) (is_read f && not (room (read_id f) l.readings));
    }

-- refused by such a number, the lone motor is the same value
pub record RefusedNothing (l : Lone) : Type 0 where
  pub start : (c : Command) (now : ℕ) → moves (lone_start l c now).said ≡ false → (lone_start l c now).lone ≡ l
  pub step : (now : ℕ) → moves (lone_step l now).said ≡ false → (lone_step l now).lone ≡ l
  pub frame : (f : CanFrame) (now : ℕ) → heard_moves (hears l f now).said ≡ false → (hears l f now).lone ≡ l

pub refused-nothing : (l : Lone) → RefusedNothing l
unfolding hears frame_said
refused-nothing l =
    record {
      start = λ c now. same_by l now (start-outcome l now c);
      step = λ now. same_by l now (step-outcome l now);
      frame = λ f now. frame_same l f now (not (accepts_frame l.state.motor_id f)) (is_out_of_time l.state.clock now) (is_read f && not (eqb (read_status f) 0)) (is_read f && not (room (read_id f) l.readings));
    }

-- refused by the tests of start or step, whatever the number, the whole answer is the refusal beside the same lone motor
pub start-refused : (l : Lone) (c : Command) (now : ℕ) (r : Refusal) → start_said l.state.clock l.state.operation.phase c now ≡ Err r
    → lone_start l c now ≡ lone_refused l (said.Refused r)
start-refused l c now r e = rw e

pub step-refused : (l : Lone) (now : ℕ) (r : Refusal) → step_said l.state.clock l.state.operation.phase now ≡ Err r
    → lone_step l now ≡ lone_refused l (said.Refused r)
step-refused l now r e = rw e

-- refused by one that moves the clock, a start or a step changes the clock and ends the operation, nothing else
pub start-failed : (l : Lone) (c : Command) (now : ℕ) (r : Refusal) → (lone_start l c now).said ≡ said.Refused r → moves_by r ≡ true
    → (lone_start l c now).lone ≡ failed l now
start-failed l c now r q m = failed-by l now (start-outcome l now c) r q m

pub step-failed : (l : Lone) (now : ℕ) (r : Refusal) → (lone_step l now).said ≡ said.Refused r → moves_by r ≡ true
    → (lone_step l now).lone ≡ failed l now
step-failed l now r q m = failed-by l now (step-outcome l now) r q m

-- 21 and 8, for two, don't move it
pub stay-21-8 : (moves_by refusal.NothingRunning ≡ false) × (moves_by refusal.OperationRunning ≡ false)
unfolding among
stay-21-8 = (refl, refl)
