-- Numbers a caller may get: an answer has a number, 0 where it is good, and values; and a number with its values is an answer. Definitions only.
use Rattle.std.specs.Prelude.{ℕ, zero, suc, Bool, cond, List, [], ◌∷◌, ℤ, pos, nat_abs, get_or, Option, Some, None, Result, Ok, Err, ⊤}
use Rattle.codec.specs.declared.error.Refusal.{Refusal}
use Rattle.codec.specs.declared.error.Refusal.TheVariants as refusal
use Rattle.codec.specs.Refusals.{number_of, values_of}

-- the natural number among values at a place
abbrev pub natural_at : List ℤ → ℕ → ℕ
natural_at values i = nat_abs (get_or values i (pos 0))

abbrev pub last_of : List ℤ → Option ℤ
last_of [] = None
last_of (value ∷ rest) = Some value

-- the refusals in the table's order: 14 takes two values, 18 one or none
abbrev pub in_order : List ℤ → List Refusal
in_order values =
    refusal.MotorIdOutOfRange
    ∷ refusal.HostIdOutOfRange
    ∷ refusal.UnknownModel
    ∷ refusal.StationFull
    ∷ refusal.IdRegistered
    ∷ refusal.IdNotRegistered
    ∷ refusal.TimeOutOfRange
    ∷ refusal.OperationRunning
    ∷ refusal.TimeoutTooLong
    ∷ refusal.UnlistedParameter
    ∷ refusal.KindDiffers
    ∷ refusal.UnknownProtocol
    ∷ refusal.FrameNotAccepted
    ∷ refusal.ReadFailed (natural_at values 0) (natural_at values 1)
    ∷ refusal.ReadingsFull
    ∷ refusal.WindowsGone
    ∷ refusal.UnsupportedRunMode
    ∷ refusal.ModeNotReached (last_of values)
    ∷ refusal.NewDeviceIdZero
    ∷ refusal.ReadingOfAnotherKind
    ∷ refusal.NothingRunning
    ∷ refusal.NotPingReply
    ∷ refusal.NotVersionReply
    ∷ []

-- the refusal of a number and its values
abbrev pub refusal_of : ℕ → List ℤ → Refusal
refusal_of n values = get_or (refusal.MotorIdOutOfRange ∷ in_order values) n refusal.MotorIdOutOfRange

-- the answer of a number and its values: the good one for 0, else the refusal
abbrev pub answer_of : {A : Type 0} → A → (Refusal → A) → ℕ → List ℤ → A
answer_of good refused zero values = good
answer_of good refused (suc n) values = refused (refusal_of (suc n) values)

-- tests with their numbers in the paper's order: the first that applies answers, and 0 where none does
abbrev pub answered_by : {A : Type 0} → (ℕ → A) → List (Bool × ℕ) → A
answered_by answer [] = answer 0
answered_by answer (test ∷ tests) = cond test.0 (answer test.1) (answered_by answer tests)

-- ---- what an answer gives, or this beside a refusal; and the answer without what it gives

abbrev pub given_or : {A : Type 0} → A → Result A Refusal → A
given_or other (Ok a) = a
given_or other (Err r) = other

abbrev pub said_in : {A : Type 0} → Result A Refusal → Result ⊤ Refusal
said_in (Ok a) = Ok tt
said_in (Err r) = Err r

-- ---- the answer of a test

abbrev pub checked_row : Result ⊤ Refusal → ℕ × List ℤ
checked_row (Ok tt) = (0, [])
checked_row (Err r) = (number_of r, values_of r)

abbrev pub checked_of : ℕ → List ℤ → Result ⊤ Refusal
checked_of n values = answer_of (Ok tt) Err n values
