-- What holds of every frame: it keeps the operation but for get_version's answer, dlc and is_rx don't matter, each accepted one is counted, and a value put has the table's kind.
-- Assumes nothing.
use Rattle.std.proofs.Common.{◌≡◌, ℕ, ◌+◌, ◌%◌, ◌^◌, Bool, true, false, cond, not, ◌&&◌, eqb, ltb, List, [], ◌∷◌, refl, Some, None, Result, Ok, Err}
use Rattle.std.specs.Prelude.{⊤}
use Rattle.codec.specs.declared.error.Refusal.{Refusal}
use Rattle.codec.specs.declared.bus.CanFrame.{CanFrame}
use Rattle.codec.specs.declared.error.Refusal.TheVariants.{ReadFailed, ReadingsFull}
use Rattle.codec.specs.declared.registers.ParameterDataType.{ParameterDataType}
use Rattle.codec.specs.declared.registers.ParameterDataType.TheVariants.{Int8, UInt8, UInt16, UInt32, Float32}
use Rattle.codec.specs.Kinds.{among, listed_ids, kind_of, parameter_info}
use Rattle.codec.specs.Refusals.{number_of}
use Rattle.codec.specs.Values.{le32, kind_in, value_as, value_by}
use Rattle.motor.specs.declared.motor.State.{State}
use Rattle.motor.specs.declared.motor.Motor.{Motor}
use Rattle.motor.specs.declared.readings.Entry.{Entry}
use Rattle.motor.specs.declared.readings.Readings.{Readings}
use Rattle.motor.specs.Readings.{entry, insert, room, put_of}
use Rattle.motor.specs.Receive.{accepts_frame, is_out_of_time, counted_at, ping_after, feedback_in, feedback_after, fault_after, told_by, version_in, with_answer, answer_taken, is_read, read_status, read_id, read_stored, frame_said, state_after, readings_after, is_full, process_feedback_frame}
use Rattle.motor.specs.Echo.{held_kind}
use Rattle.motor.specs.Lone.{Lone, hears}
use Rattle.motor.proofs.Receiving.{either-rule}

-- ---- the operation, but for get_version's answer, and its command are as they were

abbrev pub SameOperation : State → State → Type 0
SameOperation s t = (t.operation ≡ with_answer s.operation t.operation.answer) × (t.command ≡ s.command)

state-keeps : (said : Result ⊤ Refusal) (s : State) (f : CanFrame) (now : ℕ) → SameOperation s (state_after said s f now)
unfolding state_after answer_taken told_by counted_at
state-keeps (Ok tt) s f now = either-rule (SameOperation s) (counted_at s now) f (refl, refl) (refl, refl)
state-keeps (Err r) s f now = go (among (number_of r) (14 ∷ 15 ∷ []))
  where
    go : (b : Bool) → SameOperation s (cond b (counted_at s now) s)
    go true = (refl, refl)
    go false = (refl, refl)

pub frame-keeps-operation : (m : Motor) (f : CanFrame) (now : ℕ) → SameOperation m.state (process_feedback_frame m f now).motor.state
unfolding process_feedback_frame
frame-keeps-operation m f now = state-keeps (frame_said m.state f now (is_full (put_of m.readings (read_id f) (read_stored f)).said)) m.state f now

pub lone-keeps-operation : (m : Lone) (f : CanFrame) (now : ℕ) → SameOperation m.state (hears m f now).lone.state
unfolding hears
lone-keeps-operation m f now = state-keeps (frame_said m.state f now (not (room (read_id f) m.readings))) m.state f now

-- ---- dlc and is_rx aren't looked at

abbrev pub with_dlc : CanFrame → ℕ → Bool → CanFrame
with_dlc f dlc rx = record { arbitration_id = f.arbitration_id; «data» = f.data; dlc = dlc; is_extended = f.is_extended; is_rx = rx }

module _ (f : CanFrame) (dlc : ℕ) (rx : Bool) where
  state-ignores : (said : Result ⊤ Refusal) (s : State) (now : ℕ) → state_after said s (with_dlc f dlc rx) now ≡ state_after said s f now
  unfolding state_after answer_taken version_in told_by ping_after feedback_after feedback_in fault_after
  state-ignores (Ok tt) s now = refl
  state-ignores (Err r) s now = refl

  readings-ignore : (said : Result ⊤ Refusal) (new old : Readings) → readings_after said (with_dlc f dlc rx) new old ≡ readings_after said f new old
  unfolding readings_after is_read
  readings-ignore (Ok tt) new old = refl
  readings-ignore (Err r) new old = refl

  pub dlc-ignored : (m : Motor) (now : ℕ) → process_feedback_frame m (with_dlc f dlc rx) now ≡ process_feedback_frame m f now
  unfolding process_feedback_frame frame_said accepts_frame is_read read_status read_id read_stored
  dlc-ignored m now =
      let put = put_of m.readings (read_id f) (read_stored f) in
      let said = frame_said m.state f now (is_full put.said) in
      rw (state-ignores said m.state now, readings-ignore said put.readings m.readings)

-- ---- an accepted frame in time is counted, whatever its type and number

module _ (s : State) (f : CanFrame) (now : ℕ) (full : Bool) (a : accepts_frame s.motor_id f ≡ true) (l : is_out_of_time s.clock now ≡ false) where
  state-counts : ((state_after (frame_said s f now full) s f now).clock ≡ now) × ((state_after (frame_said s f now full) s f now).responses ≡ (s.responses + 1) % 2 ^ 64)
  unfolding frame_said state_after answer_taken told_by counted_at among
  state-counts = rw (a, l) (go (is_read f && not (eqb (read_status f) 0)) (is_read f && full))
    where
      after : Bool → Bool → State
      after x y = state_after (cond x (Err (ReadFailed (read_id f) (read_status f))) (cond y (Err ReadingsFull) (Ok tt))) s f now

      Counted : State → Type 0
      Counted t = (t.clock ≡ now) × (t.responses ≡ (s.responses + 1) % 2 ^ 64)

      go : (x y : Bool) → Counted (after x y)
      go true y = (refl, refl)
      go false true = (refl, refl)
      go false false = either-rule Counted (counted_at s now) f (refl, refl) (refl, refl)

pub frame-counts : (m : Motor) (f : CanFrame) (now : ℕ) → accepts_frame m.state.motor_id f ≡ true → is_out_of_time m.state.clock now ≡ false
    → ((process_feedback_frame m f now).motor.state.clock ≡ now) × ((process_feedback_frame m f now).motor.state.responses ≡ (m.state.responses + 1) % 2 ^ 64)
unfolding process_feedback_frame
frame-counts m f now = state-counts m.state f now (is_full (put_of m.readings (read_id f) (read_stored f)).said)

-- ---- the kind of what is held: the table's, and UInt32 for an unlisted id

kind-in : (k : ParameterDataType) (raw : ℕ) → kind_in (value_as k raw) ≡ k
kind-in Int8 raw = refl
kind-in UInt8 raw = refl
kind-in UInt16 raw = refl
kind-in UInt32 raw = refl
kind-in Float32 raw = refl

pub kinds-held : (f : CanFrame) → kind_in (read_stored f).value ≡ held_kind (read_id f)
unfolding read_stored held_kind parameter_info
kinds-held f = go (among (read_id f) listed_ids)
  where
    go : (b : Bool) → kind_in (value_by (cond b (Some (kind_of (read_id f))) None) (le32 f.data 4)) ≡ cond b (kind_of (read_id f)) UInt32
    go true = kind-in (kind_of (read_id f)) (le32 f.data 4)
    go false = refl

-- so a list of readings whose kinds are right stays one
abbrev pub Kinds : List Entry → Type 0
Kinds [] = Unit {0}
Kinds (e ∷ es) = (kind_in e.held.value ≡ held_kind e.id) × Kinds es

kinds-inserted : (f : CanFrame) (l : List Entry) → Kinds l → Kinds (insert (read_id f) (read_stored f) l)
kinds-inserted f [] k = (kinds-held f, tt)
kinds-inserted f (e ∷ es) k = go (kinds-inserted f es k.1) (ltb e.id (read_id f)) (eqb e.id (read_id f))
  where
    go : Kinds (insert (read_id f) (read_stored f) es) → (b c : Bool) → Kinds (cond b (e ∷ insert (read_id f) (read_stored f) es) (entry (read_id f) (read_stored f) ∷ cond c es (e ∷ es)))
    go i true c = (k.0, i)
    go i false true = (kinds-held f, k.1)
    go i false false = (kinds-held f, k)

pub kinds-stay : (m : Lone) (f : CanFrame) (now : ℕ) → Kinds m.readings → Kinds (hears m f now).lone.readings
unfolding hears readings_after
kinds-stay m f now k = go (frame_said m.state f now (not (room (read_id f) m.readings)))
  where
    put : (b : Bool) → Kinds (cond b (insert (read_id f) (read_stored f) m.readings) m.readings)
    put true = kinds-inserted f m.readings k
    put false = k

    go : (said : Result ⊤ Refusal) → Kinds (readings_after said f (insert (read_id f) (read_stored f) m.readings) m.readings)
    go (Ok tt) = put (is_read f)
    go (Err r) = k
