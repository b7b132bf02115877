-- By the functions' first clauses a call leaves every other place the same value, on any station. Assumes nothing.
use Rattle.std.specs.Prelude.{Result, Ok, Err, ⊤}
use Prim.Native.Nat.{ℕ}
use mathlib.Core.Path.{◌≡◌, refl, ◌∙◌}
use mathlib.Core.Bool.{Bool, true, false, cond}
use lib.Dec.{ltb}
use lib.Seq.{get_or-set_other}
use Rattle.codec.specs.declared.error.Refusal.{Refusal}
use Rattle.codec.specs.declared.model.Model.{Model}
use Rattle.codec.specs.declared.bus.CanFrame.{CanFrame}
use Rattle.codec.specs.declared.error.Refusal.TheVariants as refusal
use Rattle.motor.specs.declared.motor.Motor.{Motor}
use Rattle.motor.specs.Calls.{registration_of}
use Rattle.motor.specs.Motors.{new_motor, start_of, step_of, removal_of}
use Rattle.motor.specs.Receive.{accepts_frame, process_feedback_frame}
use Rattle.station.specs.declared.station.Station.{Station}
use Rattle.station.specs.declared.station.After.{After}
use Rattle.station.specs.declared.call.Asked.{Asked}
use Rattle.station.specs.declared.call.Call.{Call}
use Rattle.station.specs.declared.call.Call.TheVariants as call
use Rattle.station.specs.Station.{source_of}
use Rattle.station.specs.Stations.{free_motor, place_of, taken_place, motor_at, with_motor, at_place, tell, moved_at, not_moved, heard_at, removed_at, entered_in, admitted_in, register_by, register_in, start_in, step_in, frame_in, remove_in}
use Rattle.station.specs.Code.{next, given_by, given, place_by, place_for}

-- ---- a choice, and what is done at the place of an id

pub either : {A : Type 0} (P : A → Type 0) (b : Bool) (x y : A) → P x → P y → P (cond b x y)
either P true x y p q = p
either P false x y p q = q

pub at-place : {A : Type 0} (P : A → Type 0) (st : Station) (id : ℕ) (found : ℕ → A) (none : A)
    → ((i : ℕ) → i ≡ taken_place st.motors id → P (found i)) → P none → P (at_place st id found none)
unfolding at_place
at-place P st id found none p q =
    either P (ltb (taken_place st.motors id) 8) (found (taken_place st.motors id)) none (p (taken_place st.motors id) refl) q

-- ---- the six calls

-- all places but k hold the same values
abbrev pub SameBut : ℕ → Station → Station → Type 0
SameBut k st after = (i : ℕ) → (i ≡ k → ⊥) → motor_at after i ≡ motor_at st i

module _ (st : Station) where
  abbrev Else : ℕ → After → Type 0
  Else k r = SameBut k st r.station

  put-there : (k i : ℕ) (y : Motor) → i ≡ k → SameBut k st (with_motor st i y)
  put-there k i y e j z = get_or-set_other st.motors i j y free_motor (λ q. z (q ∙ e))

  removed-else : (k : Result ⊤ Refusal) (p i : ℕ) → i ≡ p → Else p (removed_at k st i)
  removed-else (Ok tt) p i e = put-there p i free_motor e
  removed-else (Err r) p i e = λ j z. refl

  entered-else : (m : Motor) → Else (place_of st.motors 0) (entered_in st m)
  unfolding entered_in
  entered-else m =
      let k = place_of st.motors 0 in
      either (Else k) (ltb k 8) (tell (with_motor st k m) (Ok tt)) (tell st (Err refusal.StationFull))
      (put-there k k m refl)
      (λ j z. refl)

  registered-else : (a : Result Model Refusal) (id host wait time : ℕ) → Else (place_of st.motors 0) (register_by a st id host wait time)
  unfolding admitted_in
  registered-else (Ok model) id host wait time =
      at-place (Else (place_of st.motors 0)) st id (λ i. tell st (Err refusal.IdRegistered))
      (entered_in st (new_motor id host model wait time))
      (λ i p j z. refl)
      (entered-else (new_motor id host model wait time))
  registered-else (Err r) id host wait time = λ j z. refl

  given-else : (c : Call) (f : CanFrame) → SameBut (place_by st c f) st (next st (given_by st c f))
  unfolding given_by next place_by register_in start_in step_in frame_in remove_in
  given-else (call.Register m h k w t) f = registered-else (registration_of m h k w t) m h w t
  given-else (call.Start m c t) f =
      at-place (Else (taken_place st.motors m)) st m (λ i. moved_at st i (start_of (motor_at st i) c t)) (not_moved st)
      (λ i p. put-there _ i (start_of (motor_at st i) c t).motor p)
      (λ j z. refl)
  given-else (call.Step m t) f =
      at-place (Else (taken_place st.motors m)) st m (λ i. moved_at st i (step_of (motor_at st i) t)) (not_moved st)
      (λ i p. put-there _ i (step_of (motor_at st i) t).motor p)
      (λ j z. refl)
  given-else (call.Frame t) f =
      let other = tell st (Err refusal.FrameNotAccepted) in
      let found : ℕ → After = λ i. heard_at st i (process_feedback_frame (motor_at st i) f t) in
      either (Else (taken_place st.motors (source_of f))) (accepts_frame (source_of f) f) (at_place st (source_of f) found other) other
      (at-place (Else (taken_place st.motors (source_of f))) st (source_of f) found other
      (λ i p. put-there _ i (process_feedback_frame (motor_at st i) f t).motor p)
      (λ j z. refl))
      (λ j z. refl)
  given-else (call.Look m) f = λ j z. refl
  given-else (call.Remove m t) f =
      at-place (Else (taken_place st.motors m)) st m (λ i. removed_at (removal_of (motor_at st i) t) st i)
      (tell st (Err refusal.IdNotRegistered))
      (λ i p. removed-else (removal_of (motor_at st i) t) (taken_place st.motors m) i p)
      (λ j z. refl)

pub elsewhere : (st : Station) (a : Asked) → SameBut (place_for st a) st (next st (given st a))
elsewhere st a = given-else st a.call a.frame
