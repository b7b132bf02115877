-- The program's table of parameters, and the row of an id. Definitions only.
use Rattle.std.specs.Prelude.{ℕ, List, Option, ◌==◌, find}
use Rattle.codec.specs.declared.registers.ParameterInfo.{ParameterInfo}
use Rattle.codec.specs.declared.registers.TheConstants.{PARAMETER_TABLE}

abbrev pub row_among : ℕ → List ParameterInfo → Option ParameterInfo
row_among id rows = find (λ row. row.id == id) rows

unfoldable pub parameter_row : ℕ → Option ParameterInfo
parameter_row id = row_among id PARAMETER_TABLE
