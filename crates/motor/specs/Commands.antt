-- The commands, a row each: what is tested of a call, and what it may cost the bus. Definitions only.
use Rattle.std.specs.Prelude.{ℕ}
use Rattle.codec.specs.declared.protocol.ParameterValue.{ParameterValue}
use Rattle.motor.specs.declared.engine.command.Command.{Command}
use Rattle.motor.specs.declared.engine.command.Command.TheVariants as command

-- an argument that is tested: a named host (2), a new device id (19), a protocol (12), a value to be written (10, 11)
pub data Argument : Type 0 where
  no_argument : Argument
  named_host : ℕ → Argument
  new_device_id : ℕ → Argument
  new_protocol : ℕ → Argument
  written_value : ℕ → ParameterValue → Argument

pub record CommandRow : Type 0 where
  pub timeout : ℕ
  pub argument : Argument
  pub most : ℕ

abbrev row : ℕ → Argument → ℕ → CommandRow
row timeout argument most = record { timeout = timeout; argument = argument; most = most }

-- the timeout, 0 where a call gives none; the argument that is tested; the most frames that the operation sends, 4 for a request to
-- the candidates and 1 where nothing is retried
abbrev pub command_row : Command → CommandRow
command_row (command.Ping timeout) = row timeout no_argument 4
command_row (command.PingWithHostId h timeout) = row timeout (named_host h) 1
command_row (command.SetMode m) = row 0 no_argument 4
command_row (command.EnsureControlMode m timeout) = row timeout no_argument 32
command_row command.SetZeroPosition = row 0 no_argument 8
command_row command.SaveParameters = row 0 no_argument 4
command_row (command.GetProtocolFlag timeout) = row timeout no_argument 4
command_row (command.SetProtocol n timeout) = row timeout (new_protocol n) 4
command_row (command.SetDeviceId new) = row 0 (new_device_id new) 5
command_row command.Enable = row 0 no_argument 4
command_row command.Disable = row 0 no_argument 4
command_row command.ClearError = row 0 no_argument 4
command_row (command.SetActiveReport on) = row 0 no_argument 1
command_row (command.SendCmdMit p v kp kd t) = row 0 no_argument 1
command_row (command.SetVelocityTarget v) = row 0 no_argument 4
command_row (command.GetControlMode timeout) = row timeout no_argument 4
command_row (command.ControlledStop timeout) = row timeout no_argument 12
command_row (command.WriteParameter id v) = row 0 (written_value id v) 4
command_row (command.SendCmdPosVelCsp p v) = row 0 no_argument 16
command_row (command.SendCmdPosVelPp p v a) = row 0 no_argument 20
command_row (command.RequestParameter id) = row 0 no_argument 1
command_row (command.GetParameter id timeout) = row timeout no_argument 4
command_row (command.GetParameterWithHostId id h timeout) = row timeout (named_host h) 1
command_row (command.GetParameterF32 id timeout) = row timeout no_argument 4
command_row (command.GetParameterI8 id timeout) = row timeout no_argument 4
command_row command.GetVersion = row 0 no_argument 1
