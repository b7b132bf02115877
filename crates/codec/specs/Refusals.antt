-- Numbers a caller may get: document 01's number and values for each refusal. Definitions only.
use Rattle.std.specs.Prelude.{ℕ, List, [], ◌∷◌, ℤ, pos, Option, Some, None}
use Rattle.codec.specs.declared.error.Refusal.{Refusal}
use Rattle.codec.specs.declared.error.Refusal.TheVariants as refusal

-- what a refusal carries beside its number
pub data Carried : Type 0 where
  nothing : Carried
  status_of : ℕ → ℕ → Carried
  last_read : Option ℤ → Carried

-- the number of each refusal, and what it carries: 14 its id and status, 18 the last value, the others nothing
abbrev pub row_of : Refusal → ℕ × Carried
row_of refusal.MotorIdOutOfRange = (1, nothing)
row_of refusal.HostIdOutOfRange = (2, nothing)
row_of refusal.UnknownModel = (3, nothing)
row_of refusal.StationFull = (4, nothing)
row_of refusal.IdRegistered = (5, nothing)
row_of refusal.IdNotRegistered = (6, nothing)
row_of refusal.TimeOutOfRange = (7, nothing)
row_of refusal.OperationRunning = (8, nothing)
row_of refusal.TimeoutTooLong = (9, nothing)
row_of refusal.UnlistedParameter = (10, nothing)
row_of refusal.KindDiffers = (11, nothing)
row_of refusal.UnknownProtocol = (12, nothing)
row_of refusal.FrameNotAccepted = (13, nothing)
row_of (refusal.ReadFailed id status) = (14, status_of id status)
row_of refusal.ReadingsFull = (15, nothing)
row_of refusal.WindowsGone = (16, nothing)
row_of refusal.UnsupportedRunMode = (17, nothing)
row_of (refusal.ModeNotReached last) = (18, last_read last)
row_of refusal.NewDeviceIdZero = (19, nothing)
row_of refusal.ReadingOfAnotherKind = (20, nothing)
row_of refusal.NothingRunning = (21, nothing)
row_of refusal.NotPingReply = (22, nothing)
row_of refusal.NotVersionReply = (23, nothing)

abbrev pub number_of : Refusal → ℕ
number_of r = (row_of r).0

abbrev pub listed : Carried → List ℤ
listed nothing = []
listed (status_of id status) = pos id ∷ pos status ∷ []
listed (last_read None) = []
listed (last_read (Some value)) = value ∷ []

abbrev pub values_of : Refusal → List ℤ
values_of r = listed (row_of r).1
