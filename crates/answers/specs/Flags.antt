-- Flags by name: those that are set, in rising bit order and joined by commas, or - where none is. Definitions only.
use Rattle.std.specs.Prelude.{ℕ, zero, suc, ◌+◌, ◌/◌, ◌%◌, ◌^◌, Bool, false, cond, ◌||◌, List, [], ◌∷◌, ◌++◌, map, length, get_or, eqb, ltb}
use Rattle.std.specs.Borrow.{Bor}
use Rattle.codec.specs.declared.faults.FaultFlags.{FaultFlags}
use Rattle.codec.specs.declared.faults.WarningFlags.{WarningFlags}
use Rattle.motor.specs.declared.feedback.MotorFeedbackState.{MotorFeedbackState}
use Rattle.text.specs.Ascii.{ascii}
use Rattle.text.specs.Words.{word_at}

-- a name where its flag is set, after a comma where a lower one is set
unfoldable pub flag_text : ℕ → ℕ → List ℕ → List ℕ
flag_text from below name = cond (eqb (from % 2) 0) [] (cond (eqb below 0) name ((0x2C ∷ []) ++ name))

unfoldable pub flags_upto : ℕ → List ℕ → ℕ → List ℕ
flags_upto bits names zero = []
flags_upto bits names (suc i) = flags_upto bits names i ++ flag_text (bits / 2 ^ i) (bits % 2 ^ i) (word_at names i)

-- of at most 16 names
unfoldable pub flags_text : ℕ → List ℕ → ℕ → List ℕ
flags_text bits names n = cond (eqb bits 0) (0x2D ∷ []) (cond (ltb 16 n) [] (flags_upto bits names n))

abbrev pub bit : Bool → ℕ → ℕ
bit set weight = cond set weight 0

unfoldable pub state_flags_text : MotorFeedbackState → List ℕ
state_flags_text s =
    flags_text (bit s.undervoltage 1 + bit s.overcurrent 2 + bit s.overtemperature 4 + bit s.magnetic_encoder_fault 8 + bit s.stall 16 + bit s.uncalibrated 32)
    (ascii "undervoltage overcurrent overtemperature magnetic_encoder_fault stall uncalibrated")
    6

abbrev pub low_faults : FaultFlags → ℕ
low_faults f = bit f.overtemperature 1 + bit f.driver_fault 2 + bit f.undervoltage 4 + bit f.overvoltage 8 + bit f.phase_b_overcurrent 16 + bit f.phase_c_overcurrent 32

abbrev pub high_faults : FaultFlags → ℕ
high_faults f = bit f.encoder_uncalibrated 64 + bit f.hardware_id_fault 128 + bit f.position_init_fault 256 + bit f.stall_overload 512 + bit f.phase_a_overcurrent 1024

unfoldable pub fault_flags_text : FaultFlags → List ℕ
fault_flags_text f =
    flags_text (low_faults f + high_faults f)
    (ascii "overtemperature driver_fault undervoltage overvoltage phase_b_overcurrent phase_c_overcurrent encoder_uncalibrated hardware_id_fault position_init_fault stall_overload phase_a_overcurrent")
    11

unfoldable pub warning_flags_text : WarningFlags → List ℕ
warning_flags_text w = flags_text (bit w.overtemperature_warning 1) (ascii "overtemperature_warning") 1

-- the same by a list of flags, each with its name: whether one of the first n is set, and the names of those that are
abbrev pub Named : Type 0
Named = Bool × List ℕ

-- as they are lent
abbrev pub named : List (Bool × Bor (List ℕ)) → List Named
named flags = map (λ f. (f.0, f.1.now)) flags

abbrev pub nth : List Named → ℕ → Named
nth flags i = get_or flags i (false, [])

unfoldable pub any_upto : List Named → ℕ → Bool
any_upto flags zero = false
any_upto flags (suc i) = any_upto flags i || (nth flags i).0

abbrev pub name_after : Bool → Named → List ℕ
name_after any flag = cond flag.0 (cond any ((0x2C ∷ []) ++ flag.1) flag.1) []

unfoldable pub names_upto : List Named → ℕ → List ℕ
names_upto flags zero = []
names_upto flags (suc i) = names_upto flags i ++ name_after (any_upto flags i) (nth flags i)

abbrev pub names_text : List Named → List ℕ
names_text flags = cond (any_upto flags (length flags)) (names_upto flags (length flags)) (0x2D ∷ [])
