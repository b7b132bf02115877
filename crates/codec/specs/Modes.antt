-- The run modes of `ControlMode`, the values of parameter 7005. Definitions only.
use Rattle.std.specs.Prelude.{ℕ, cond, List, [], ◌∷◌, ℤ, pos, eqb, Result, Ok, Err}
use Rattle.std.specs.Int.{w8}
use Rattle.std.proofs.Common.{of_z}
use Rattle.codec.specs.declared.error.Refusal.{Refusal}
use Rattle.codec.specs.declared.registers.ControlMode.{ControlMode}
use Rattle.codec.specs.declared.registers.ControlMode.TheVariants.{Mit, Position, Velocity, PositionCsp}
use Rattle.codec.specs.Refusals.{number_of, values_of}
use Rattle.codec.specs.Numbers.{natural_at, answer_of}

abbrev pub control_mode_number : ControlMode → ℤ
control_mode_number Mit = pos 0
control_mode_number Position = pos 1
control_mode_number Velocity = pos 2
control_mode_number PositionCsp = pos 5

-- a mode's number and values: 0 and its run_mode value, or the refusal's
abbrev pub mode_read_row : Result ControlMode Refusal → ℕ × List ℤ
mode_read_row (Ok m) = (0, control_mode_number m ∷ [])
mode_read_row (Err r) = (number_of r, values_of r)

-- the mode of a run_mode value
abbrev pub mode_among : ℕ → ControlMode
mode_among n = cond (eqb n 5) PositionCsp (cond (eqb n 2) Velocity (cond (eqb n 1) Position Mit))

abbrev pub mode_read_of : ℕ → List ℤ → Result ControlMode Refusal
mode_read_of n values = answer_of (Ok (mode_among (natural_at values 0))) Err n values

-- 17: run_mode not 0, 1, 2, 5. `of_z w8` is the byte of a signed number
unfoldable pub control_mode_from_raw : ℤ → Result ControlMode Refusal
control_mode_from_raw v =
    cond (eqb (of_z w8 v) 0) (Ok Mit)
    (cond (eqb (of_z w8 v) 1) (Ok Position)
    (cond (eqb (of_z w8 v) 2) (Ok Velocity) (cond (eqb (of_z w8 v) 5) (Ok PositionCsp) (mode_read_of 17 []))))
