-- What a motor answers to a frame, case by case in the numbers' order. Assumes nothing.
use Rattle.std.proofs.Common.{◌≡◌, ℕ, Bool, true, false, cond, not, ◌&&◌, sym, refl, ap, ◌∙◌, subst, eqb, eq-eqb, ne_eqb, eqb-true, Result, Ok, Err}
use Rattle.std.specs.Prelude.{⊤}
use Rattle.codec.specs.declared.error.Refusal.{Refusal}
use Rattle.codec.specs.declared.bus.CanFrame.{CanFrame}
use Rattle.codec.specs.declared.error.Refusal.TheVariants.{FrameNotAccepted, TimeOutOfRange, ReadFailed, ReadingsFull}
use Rattle.codec.specs.declared.protocol.IdParts.{IdParts}
use Rattle.codec.specs.Kinds.{among}
use Rattle.motor.specs.declared.engine.operation.Phase.{Phase}
use Rattle.motor.specs.declared.motor.State.{State}
use Rattle.motor.specs.declared.motor.Motor.{Motor}
use Rattle.motor.specs.declared.quiet.StateHeard.{StateHeard}
use Rattle.motor.specs.declared.readings.Readings.{Readings}
use Rattle.motor.specs.declared.readings.PutResult.{PutResult}
use Rattle.motor.specs.Readings.{put_of}
use Rattle.motor.specs.Receive.{parts_of, frame_type, accepts_frame, is_out_of_time, counted_at, feedback_after, fault_after, ping_after, told_by, is_answer, answer_taken, taken_by, is_read, read_status, read_id, read_stored, frame_said, state_after, readings_after, heard_with, process_feedback_frame, frame_admitted, is_quiet, state_heard, hear_state}

-- a read reply, by the test of its split id
pub read-is : (f : CanFrame) (p : IdParts) (b v : Bool) → p ≡ parts_of f → b ≡ eqb p.comm_type 17 → b ≡ v → is_read f ≡ v
unfolding is_read
read-is f p b v e t h = ap (λ (q : IdParts). eqb q.comm_type 17) (sym e) ∙ sym t ∙ h

-- a read reply tells nothing but its value
read-tells : (s : State) (f : CanFrame) → is_read f ≡ true → told_by s (parts_of f) f ≡ s
unfolding told_by is_read feedback_after fault_after ping_after
read-tells s f h = rw (eqb-true (frame_type f) 17 h)

-- what holds after an answer and after the old rule holds after any frame that passes
pub either-rule : (P : State → Type 0) (s : State) (f : CanFrame) → P (answer_taken s f) → P (told_by s (parts_of f) f) → P (taken_by s (parts_of f) f)
either-rule P s f a t = go (is_answer s.operation.phase f)
  where
    go : (b : Bool) → P (cond b (answer_taken s f) (told_by s (parts_of f) f))
    go true = a
    go false = t

-- a read reply is no answer to get_version
no_answer : (p : Phase) (f : CanFrame) → is_read f ≡ true → is_answer p f ≡ false
unfolding is_read
no_answer p f h = rw (eqb-true (frame_type f) 17 h)

pub taken_by-read : (s : State) (f : CanFrame) → is_read f ≡ true → taken_by s (parts_of f) f ≡ s
taken_by-read s f h = rw (no_answer s.operation.phase f h) (read-tells s f h)

module _ (m : Motor) (f : CanFrame) (now : ℕ) where
  pub heard-13 : accepts_frame m.state.motor_id f ≡ false → process_feedback_frame m f now ≡ heard_with m.state m.readings (Err FrameNotAccepted)
  unfolding process_feedback_frame frame_said state_after readings_after among
  heard-13 a = rw a

  module _ (a : accepts_frame m.state.motor_id f ≡ true) where
    pub heard-7 : is_out_of_time m.state.clock now ≡ true → process_feedback_frame m f now ≡ heard_with m.state m.readings (Err TimeOutOfRange)
    unfolding process_feedback_frame frame_said state_after readings_after among
    heard-7 l = rw (a, l)

    module _ (l : is_out_of_time m.state.clock now ≡ false) where
      pub heard-other : is_read f ≡ false → process_feedback_frame m f now ≡ heard_with (taken_by (counted_at m.state now) (parts_of f) f) m.readings (Ok tt)
      unfolding process_feedback_frame frame_said state_after readings_after
      heard-other r = rw (a, l, r, r)

      module _ (r : is_read f ≡ true) where
        pub heard-14 : (read_status f ≡ 0 → ⊥)
            → process_feedback_frame m f now ≡ heard_with (counted_at m.state now) m.readings (Err (ReadFailed (read_id f) (read_status f)))
        unfolding process_feedback_frame frame_said state_after readings_after among
        heard-14 s = rw (a, l, r, ne_eqb (read_status f) 0 s)

        module _ (s : read_status f ≡ 0) (p : PutResult) (e : p ≡ put_of m.readings (read_id f) (read_stored f)) where
          pub heard-15 : p.said ≡ Err ReadingsFull → process_feedback_frame m f now ≡ heard_with (counted_at m.state now) m.readings (Err ReadingsFull)
          unfolding process_feedback_frame frame_said state_after readings_after among
          heard-15 k = rw (a, l, r, eq-eqb (read_status f) 0 s, ← e, k)

          pub heard-value : p.said ≡ (Ok tt) → process_feedback_frame m f now ≡ heard_with (counted_at m.state now) p.readings (Ok tt)
          unfolding process_feedback_frame frame_said state_after readings_after
          heard-value k = rw (a, l, r, eq-eqb (read_status f) 0 s, ← e, k, r, taken_by-read (counted_at m.state now) f r)

-- ---- 13 and 7 of a frame whose id is split

abbrev pub admitted_to : State → IdParts → CanFrame → ℕ → Result ⊤ Refusal
admitted_to s p f now = frame_admitted s.motor_id s.clock f.is_extended p now

module _ (s : State) (f : CanFrame) (now : ℕ) where
  pub admitted-13 : accepts_frame s.motor_id f ≡ false → admitted_to s (parts_of f) f now ≡ Err FrameNotAccepted
  unfolding frame_admitted accepts_frame
  admitted-13 a = rw a

  pub admitted-7 : accepts_frame s.motor_id f ≡ true → is_out_of_time s.clock now ≡ true → admitted_to s (parts_of f) f now ≡ Err TimeOutOfRange
  unfolding frame_admitted accepts_frame
  admitted-7 a l = rw (a, l)

  pub admitted : accepts_frame s.motor_id f ≡ true → is_out_of_time s.clock now ≡ false → admitted_to s (parts_of f) f now ≡ Ok tt
  unfolding frame_admitted accepts_frame
  admitted a l = rw (a, l)

  -- where one more test is made with the first, what fails it is 13
  pub admitted-where : (b : Bool) → frame_admitted s.motor_id s.clock (f.is_extended && b) (parts_of f) now ≡ cond b (admitted_to s (parts_of f) f now) (Err FrameNotAccepted)
  unfolding frame_admitted
  admitted-where b = go f.is_extended b
    where
      go : (e b : Bool) → frame_admitted s.motor_id s.clock (e && b) (parts_of f) now ≡ cond b (frame_admitted s.motor_id s.clock e (parts_of f) now) (Err FrameNotAccepted)
      go true true = refl
      go true false = refl
      go false true = refl
      go false false = refl

-- ---- the state alone

state-untaken : (s : State) (f : CanFrame) (now : ℕ) → is_read f ≡ true → hear_state s f now ≡ state_heard s (Err FrameNotAccepted)
unfolding hear_state
state-untaken s f now r = rw r

abbrev pub hear_state_by : Result ⊤ Refusal → State → IdParts → CanFrame → ℕ → StateHeard
hear_state_by (Ok tt) s p f now = state_heard (taken_by (counted_at s now) p f) (Ok tt)
hear_state_by (Err r) s p f now = state_heard s (Err r)

-- a frame that is no read reply, by its admission
state-by : (s : State) (f : CanFrame) (now : ℕ) → is_read f ≡ false → hear_state s f now ≡ hear_state_by (admitted_to s (parts_of f) f now) s (parts_of f) f now
unfolding hear_state frame_said state_after among
state-by s f now r = go (accepts_frame s.motor_id f) (is_out_of_time s.clock now) refl refl
  where
    by : Result ⊤ Refusal → Type 0
    by k = hear_state s f now ≡ hear_state_by k s (parts_of f) f now

    go : (a l : Bool) → accepts_frame s.motor_id f ≡ a → is_out_of_time s.clock now ≡ l → by (admitted_to s (parts_of f) f now)
    go false l p q = subst by (sym (admitted-13 s f now p)) (rw (r, p))
    go true true p q = subst by (sym (admitted-7 s f now p q)) (rw (r, p, q))
    go true false p q = subst by (sym (admitted s f now p q)) (rw (r, p, q))

module _ (s : State) (f : CanFrame) (now : ℕ) where
  abbrev quietly : Result ⊤ Refusal
  quietly = frame_admitted s.motor_id s.clock (is_quiet f.is_extended (parts_of f)) (parts_of f) now

  -- a read reply is 13, and any other frame is admitted as it is
  quiet-13 : is_read f ≡ true → quietly ≡ Err FrameNotAccepted
  unfolding is_quiet is_read
  quiet-13 r = admitted-where s f now (not (is_read f)) ∙ rw r

  quiet_same : is_read f ≡ false → quietly ≡ admitted_to s (parts_of f) f now
  unfolding is_quiet is_read
  quiet_same r = admitted-where s f now (not (is_read f)) ∙ rw r

  pub state-heard-by : hear_state s f now ≡ hear_state_by quietly s (parts_of f) f now
  state-heard-by = go (is_read f) refl
    where
      go : (b : Bool) → is_read f ≡ b → hear_state s f now ≡ hear_state_by quietly s (parts_of f) f now
      go true r = state-untaken s f now r ∙ sym (ap (λ (k : Result ⊤ Refusal). hear_state_by k s (parts_of f) f now) (quiet-13 r))
      go false r = state-by s f now r ∙ sym (ap (λ (k : Result ⊤ Refusal). hear_state_by k s (parts_of f) f now) (quiet_same r))

quiet-leaves : (said : Result ⊤ Refusal) (f : CanFrame) (new old : Readings) → is_read f ≡ false → readings_after said f new old ≡ old
unfolding readings_after
quiet-leaves (Ok tt) f new old r = rw r
quiet-leaves (Err k) f new old r = refl

-- a frame that is no read reply concerns the state alone
pub heard-quiet : (m : Motor) (f : CanFrame) (now : ℕ) → is_read f ≡ false
    → process_feedback_frame m f now ≡ heard_with (hear_state m.state f now).state m.readings (hear_state m.state f now).said
unfolding process_feedback_frame hear_state frame_said
heard-quiet m f now r = rw (r, quiet-leaves _ f _ m.readings r)
