-- An answer is known by its number and its values: from them it comes back, and no two refusals share both. Assumes nothing.
use Rattle.std.specs.Prelude.{Option, Some, None, Result, Ok, Err, ⊤, ℕ}
use mathlib.Core.Path.{◌≡◌, refl, sym, ap₂, ◌∙◌}
use Rattle.codec.specs.declared.model.Model.{Model}
use Rattle.codec.specs.declared.registers.ControlMode.{ControlMode}
use Rattle.codec.specs.declared.error.Refusal.{Refusal}
use Rattle.codec.specs.declared.error.Refusal.TheVariants as refusal
use Rattle.codec.specs.declared.model.Model.TheVariants.{Rs00, Rs01, Rs02, Rs03, Rs04, Rs05, Rs05el, Rs06}
use Rattle.codec.specs.declared.registers.ControlMode.TheVariants.{Mit, Position, Velocity, PositionCsp}
use Rattle.codec.specs.Refusals.{number_of, values_of}
use Rattle.codec.specs.Numbers.{answer_of, checked_row, checked_of}
use Rattle.codec.specs.Modes.{mode_read_row, mode_read_of}
use Rattle.codec.specs.Models.{model_named_row, model_named_of}
use Rattle.codec.specs.Values.{encoded_row, encoded_of}

-- a refusal, whatever the good answer
back : {A : Type 0} (good : A) (refused : Refusal → A) (r : Refusal) → answer_of good refused (number_of r) (values_of r) ≡ refused r
back g f refusal.MotorIdOutOfRange = refl
back g f refusal.HostIdOutOfRange = refl
back g f refusal.UnknownModel = refl
back g f refusal.StationFull = refl
back g f refusal.IdRegistered = refl
back g f refusal.IdNotRegistered = refl
back g f refusal.TimeOutOfRange = refl
back g f refusal.OperationRunning = refl
back g f refusal.TimeoutTooLong = refl
back g f refusal.UnlistedParameter = refl
back g f refusal.KindDiffers = refl
back g f refusal.UnknownProtocol = refl
back g f refusal.FrameNotAccepted = refl
back g f (refusal.ReadFailed id status) = refl
back g f refusal.ReadingsFull = refl
back g f refusal.WindowsGone = refl
back g f refusal.UnsupportedRunMode = refl
back g f (refusal.ModeNotReached None) = refl
back g f (refusal.ModeNotReached (Some v)) = refl
back g f refusal.NewDeviceIdZero = refl
back g f refusal.ReadingOfAnotherKind = refl
back g f refusal.NothingRunning = refl
back g f refusal.NotPingReply = refl
back g f refusal.NotVersionReply = refl

-- ---- each answer

pub checked-back : (a : Result ⊤ Refusal) → checked_of (checked_row a).0 (checked_row a).1 ≡ a
checked-back (Ok tt) = refl
checked-back (Err r) = back (Ok tt) Err r

pub encoded-back : (a : Result ℕ Refusal) → encoded_of (encoded_row a).0 (encoded_row a).1 ≡ a
encoded-back (Ok raw) = refl
encoded-back (Err r) = back _ Err r

pub mode-back : (a : Result ControlMode Refusal) → mode_read_of (mode_read_row a).0 (mode_read_row a).1 ≡ a
mode-back (Ok Mit) = refl
mode-back (Ok Position) = refl
mode-back (Ok Velocity) = refl
mode-back (Ok PositionCsp) = refl
mode-back (Err r) = back _ Err r

pub named_back : (a : Option Model) → model_named_of (model_named_row a).0 (model_named_row a).1 ≡ a
named_back (Some Rs00) = refl
named_back (Some Rs01) = refl
named_back (Some Rs02) = refl
named_back (Some Rs03) = refl
named_back (Some Rs04) = refl
named_back (Some Rs05) = refl
named_back (Some Rs05el) = refl
named_back (Some Rs06) = refl
named_back None = refl

pub refusal-injective : (r s : Refusal) → number_of r ≡ number_of s → values_of r ≡ values_of s → r ≡ s
refusal-injective r s n v = sym (same r) ∙ ap₂ (answer_of refusal.MotorIdOutOfRange (λ r. r)) n v ∙ same s
  where
    same : (r : Refusal) → answer_of refusal.MotorIdOutOfRange (λ r. r) (number_of r) (values_of r) ≡ r
    same r = back refusal.MotorIdOutOfRange (λ r. r) r
