-- A call that passes its tests comes at a time of 10^15 or before. Assumes nothing.
use Rattle.std.proofs.Common.{◌≡◌, ℕ, ◌≤◌, Bool, true, false, not, ◌||◌, ltb, List, [], ◌∷◌, refl, true≢false, arith, ltb-false, le-ltb, Result, Ok, Err}
use Rattle.std.specs.Prelude.{⊤}
use Rattle.codec.specs.declared.error.Refusal.{Refusal}
use Rattle.codec.specs.declared.error.Refusal.TheVariants as refusal
use Rattle.motor.specs.declared.engine.command.Command.{Command}
use Rattle.motor.specs.declared.engine.operation.Phase.{Phase}
use Rattle.motor.specs.Limits.{latest_time, longest_timeout}
use Rattle.motor.specs.Calls.{is_idle, timeout_of, or_else, start_admitted, argued_of, start_said, step_said}
use Rattle.motor.proofs.engine.Choices.{cond_no}
use Rattle.motor.specs.declared.engine.operation.Move.{Move}
use Rattle.motor.specs.engine.Run.{too_late, in_time}
use Rattle.motor.specs.Numbers.{first_of}
use Rattle.motor.specs.Receive.{is_out_of_time}

-- the first test of a list that passes isn't true
first-false : (b : Bool) (r : Refusal) (tests : List (Bool × Refusal)) → first_of ((b, r) ∷ tests) ≡ Ok tt → b ≡ false
first-false true r tests e = let z : ◌≡◌ {A = ℕ} 0 1 = cc in absurd (omega arith)
first-false false r tests e = refl

not_late : (clock now : ℕ) → is_out_of_time clock now ≡ false → now ≤ latest_time
unfolding is_out_of_time
not_late clock now e = ltb-false latest_time now (second (ltb now clock) (ltb latest_time now) e)
  where
    second : (a b : Bool) → (a || b) ≡ false → b ≡ false
    second true b p = absurd (true≢false p)
    second false b p = p

admitted-passed : (a b : Result ⊤ Refusal) → or_else a b ≡ Ok tt → a ≡ Ok tt
admitted-passed (Ok tt) b e = refl
admitted-passed (Err r) b e = e

pub start-in-time : (clock : ℕ) (p : Phase) (c : Command) (now : ℕ) → start_said clock p c now ≡ Ok tt → now ≤ latest_time
start-in-time clock p c now e = not_late clock now (first-false (is_out_of_time clock now) _ ((not (is_idle p), refusal.OperationRunning) ∷ (ltb longest_timeout (timeout_of c), refusal.TimeoutTooLong) ∷ []) (admitted-passed (start_admitted clock p c now) (argued_of c) e))

pub step-in-time : (clock : ℕ) (p : Phase) (now : ℕ) → step_said clock p now ≡ Ok tt → now ≤ latest_time
step-in-time clock p now e = not_late clock now (first-false (is_out_of_time clock now) _ ((is_idle p, refusal.NothingRunning) ∷ []) e)

-- a move in time is made
pub made : (now : ℕ) (v : Move) → now ≤ latest_time → in_time now v ≡ v
made now v h = cond_no too_late v (le-ltb latest_time now h)
