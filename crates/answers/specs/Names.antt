-- Names as the Rust has them. Definitions only.
use Rattle.std.specs.Prelude.{ℕ, ◌*◌, List}
use denote.Enum.Declared.{tag_of}
use Rattle.codec.specs.declared.model.Model.{Model}
use Rattle.codec.specs.declared.model.Model.TheVariants as model
use Rattle.codec.specs.declared.registers.ControlMode.{ControlMode}
use Rattle.codec.specs.declared.registers.ControlMode.TheVariants as mode
use Rattle.motor.specs.declared.engine.command.Command.{Command}
use Rattle.motor.specs.contracts.engine.command.Command.{the_type}
use Rattle.session.specs.Table.{commands, modes}
use Rattle.text.specs.Words.{word_at}

-- the place of a mode and of a model among their names
unfoldable pub mode_place : ControlMode → ℕ
mode_place mode.Mit = 0
mode_place mode.Position = 1
mode_place mode.Velocity = 2
mode_place mode.PositionCsp = 3

unfoldable pub model_place : Model → ℕ
model_place model.Rs00 = 0
model_place model.Rs01 = 1
model_place model.Rs02 = 2
model_place model.Rs03 = 3
model_place model.Rs04 = 4
model_place model.Rs05 = 5
model_place model.Rs05el = 6
model_place model.Rs06 = 7

-- the row of a command: its variant's place, for the table has the enum's order
abbrev pub command_place : Command → ℕ
command_place c = tag_of the_type c

abbrev pub mode_text : ControlMode → List ℕ
mode_text m = word_at modes (mode_place m)

-- the Rust method's name
abbrev pub command_text : Command → List ℕ
command_text c = word_at commands (2 * command_place c)
