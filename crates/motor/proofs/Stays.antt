-- Which numbers move the clock, and that the tests of start and step refuse by none of them. Assumes nothing.
use Rattle.std.proofs.Common.{◌≡◌, ℕ, Bool, true, false, cond, not, eqb, ltb, [], ◌∷◌, refl, arith, Option, Some, None, Result, Ok, Err}
use Rattle.std.specs.Prelude.{⊤}
use Rattle.codec.specs.declared.registers.ParameterDataType.{ParameterDataType}
use Rattle.codec.specs.declared.error.Refusal.{Refusal}
use Rattle.codec.specs.declared.error.Refusal.TheVariants as refusal
use Rattle.codec.specs.declared.protocol.ParameterValue.{ParameterValue}
use Rattle.codec.specs.Kinds.{among, kind_number, parameter_info}
use Rattle.codec.specs.Refusals.{number_of}
use Rattle.codec.specs.Values.{kind_in, raw_of, encoded_by}
use Rattle.motor.specs.declared.engine.command.Command.{Command}
use Rattle.motor.specs.declared.engine.command.Said.{Said}
use Rattle.motor.specs.declared.engine.command.Said.TheVariants as said
use Rattle.motor.specs.declared.engine.operation.Phase.{Phase}
use Rattle.motor.specs.Commands.{Argument, no_argument, named_host, new_device_id, new_protocol, written_value, command_row}
use Rattle.motor.specs.Limits.{longest_timeout}
use Rattle.motor.specs.Calls.{is_idle, timeout_of, argued_of, encodes, tested, or_else, start_admitted, start_said, step_said}
use Rattle.motor.specs.Numbers.{first_of}
use Rattle.motor.specs.Receive.{is_out_of_time}

-- ---- the numbers

-- 14 to 18 and 20 move the clock, though they refuse
abbrev pub moves_by : Refusal → Bool
moves_by r = among (number_of r) (14 ∷ 15 ∷ 16 ∷ 17 ∷ 18 ∷ 20 ∷ [])

-- whether a call that says this has moved the clock
abbrev pub moves : Said → Bool
moves (said.Sent due) = true
moves (said.Waiting due) = true
moves (said.Finished r) = true
moves (said.FinishedWith r) = true
moves (said.Refused r) = moves_by r

abbrev pub heard_moves : Result ⊤ Refusal → Bool
heard_moves (Ok tt) = true
heard_moves (Err r) = moves_by r

-- ---- the tests of start and step refuse by none of them

abbrev pub Stays : Result ⊤ Refusal → Type 0
Stays (Ok tt) = Unit {0}
Stays (Err r) = moves_by r ≡ false

two-stay : (a b : Bool) (r s : Refusal) → moves_by r ≡ false → moves_by s ≡ false → Stays (first_of ((a, r) ∷ (b, s) ∷ []))
two-stay true b r s p q = p
two-stay false true r s p q = q
two-stay false false r s p q = tt

admitted-stays : (clock : ℕ) (p : Phase) (c : Command) (now : ℕ) → Stays (start_admitted clock p c now)
unfolding among
admitted-stays clock p c now = go (is_out_of_time clock now) (not (is_idle p)) (ltb longest_timeout (timeout_of c))
  where
    go : (a b d : Bool) → Stays (first_of ((a, refusal.TimeOutOfRange) ∷ (b, refusal.OperationRunning) ∷ (d, refusal.TimeoutTooLong) ∷ []))
    go true b d = refl
    go false true d = refl
    go false false true = refl
    go false false false = tt

one-stays : (a : Bool) (r : Refusal) → moves_by r ≡ false → Stays (cond a (Err r) (Ok tt))
one-stays true r h = h
one-stays false r h = tt

written-stays : (i : Option ParameterDataType) (v : ParameterValue) → Stays (encodes (encoded_by i v))
unfolding among
written-stays None v = refl
written-stays (Some kind) v = go (eqb (kind_number kind) (kind_number (kind_in v)))
  where
    go : (b : Bool) → Stays (encodes (cond (not b) (Err refusal.KindDiffers) (Ok (raw_of v))))
    go true = tt
    go false = refl

argued-stays : (a : Argument) → Stays (tested a)
unfolding among
argued-stays no_argument = tt
argued-stays (named_host id) = one-stays (ltb 255 id) _ refl
argued-stays (new_device_id id) = one-stays (eqb id 0) _ refl
argued-stays (new_protocol n) = one-stays (ltb 2 n) _ refl
argued-stays (written_value id v) = written-stays (parameter_info id) v

pub start-stays : (clock : ℕ) (p : Phase) (c : Command) (now : ℕ) → Stays (start_said clock p c now)
start-stays clock p c now = go (start_admitted clock p c now) (admitted-stays clock p c now)
  where
    go : (a : Result ⊤ Refusal) → Stays a → Stays (or_else a (argued_of c))
    go (Ok tt) h = argued-stays (command_row c).argument
    go (Err r) h = h

pub step_stays : (clock : ℕ) (p : Phase) (now : ℕ) → Stays (step_said clock p now)
unfolding among
step_stays clock p now = two-stay (is_out_of_time clock now) (is_idle p) refusal.TimeOutOfRange refusal.NothingRunning refl refl

-- what passes has passed the argument tests; what may step runs

pub argued-passed : (a b : Result ⊤ Refusal) → or_else a b ≡ Ok tt → b ≡ Ok tt
argued-passed (Ok tt) b h = h
argued-passed (Err r) b h =
    let z : ◌≡◌ {A = ℕ} 0 1 = cc in
    absurd (omega arith)

pub running : (a b : Bool) → first_of ((a, refusal.TimeOutOfRange) ∷ (b, refusal.NothingRunning) ∷ []) ≡ Ok tt → b ≡ false
running true b h =
    let z : ◌≡◌ {A = ℕ} 0 1 = cc in
    absurd (omega arith)
running false true h =
    let z : ◌≡◌ {A = ℕ} 0 1 = cc in
    absurd (omega arith)
running false false h = refl
