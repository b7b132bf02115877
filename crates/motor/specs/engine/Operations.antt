-- How each operation begins, and what follows each end of a wait: document 01's calls, in motor.rs's order. Definitions only.
use Rattle.codec.specs.declared.protocol.ParameterValue.{ParameterValue}
use Rattle.codec.specs.declared.protocol.ParameterValue.TheVariants as value
use Rattle.codec.specs.declared.registers.ControlMode.TheVariants as mode
use Rattle.motor.specs.declared.engine.candidates.Hosts.TheVariants as hosts
use Rattle.motor.specs.declared.engine.command.Command.{Command}
use Rattle.motor.specs.declared.engine.command.Command.TheVariants as command
use Rattle.motor.specs.declared.engine.command.Outcome.TheVariants as outcome
use Rattle.motor.specs.declared.engine.operation.Sight.{Sight}
use Rattle.motor.specs.declared.engine.node.Acked.{Acked}
use Rattle.motor.specs.declared.engine.node.Acked.TheVariants as acked
use Rattle.motor.specs.declared.engine.node.Got.{Got}
use Rattle.motor.specs.declared.engine.node.Got.TheVariants as got
use Rattle.motor.specs.declared.engine.node.Node.{Node}
use Rattle.motor.specs.declared.engine.node.Node.TheVariants as node
use Rattle.motor.specs.declared.engine.node.Pinged.{Pinged}
use Rattle.motor.specs.declared.engine.node.Pinged.TheVariants as pinged
use Rattle.motor.specs.declared.engine.node.Request.TheVariants as request
use Rattle.motor.specs.declared.engine.node.Wait.{Wait}
use Rattle.motor.specs.declared.engine.node.Wait.TheVariants as wait
use Rattle.motor.specs.engine.Script.{window_of, finished, failed_by_silence, send_with_status_ack, send_with_response_ack, get_parameter, put, set_mode, ping_each, set_protocol, signed_in, float_in, as_flag, as_signed, as_float, as_mode, stop_in, stop_at, position_target, csp_limit, pp_acceleration, pp_velocity, aim_at, mode_off, try_again, first_read, back_read, ensure_acked, ensure_lost}

-- how an operation begins
abbrev pub begins_with : Command → Node
begins_with (command.Ping timeout) = ping_each timeout pinged.Report
begins_with (command.PingWithHostId host timeout) = node.Await (wait.Ping pinged.Report) (window_of timeout 0) (hosts.Named host)
begins_with (command.SetMode m) = set_mode m acked.Done
begins_with (command.EnsureControlMode m timeout) = get_parameter 0x7005 timeout (got.EnsureFirst (aim_at m timeout))
begins_with command.SetZeroPosition = send_with_status_ack request.SetZeroPosition 320 acked.ZeroState
begins_with command.SaveParameters = send_with_response_ack request.SaveParameters 500 acked.Done
begins_with (command.GetProtocolFlag timeout) = get_parameter 0x2022 timeout got.Flag
begins_with (command.SetProtocol protocol timeout) = set_protocol protocol timeout
begins_with (command.SetDeviceId new) = ping_each 140 (pinged.Rename new)
begins_with command.Enable = send_with_status_ack request.Enable 240 acked.Done
begins_with command.Disable = send_with_status_ack request.Disable 240 acked.Done
begins_with command.ClearError = send_with_status_ack request.ClearError 240 acked.FaultCleared
begins_with (command.SetActiveReport on) = node.Last (request.ActiveReport on)
begins_with (command.SendCmdMit position velocity kp kd torque) =
    node.Motion (record { position = position; velocity = velocity; kp = kp; kd = kd; torque = torque }) outcome.Done
begins_with (command.SetVelocityTarget velocity) = put 0x700A (value.F32 velocity) acked.Done
begins_with (command.GetControlMode timeout) = get_parameter 0x7005 timeout got.Mode
begins_with (command.ControlledStop timeout) = get_parameter 0x7005 timeout (got.StopMode timeout)
begins_with (command.WriteParameter id v) = put id v acked.Done
begins_with (command.SendCmdPosVelCsp position most) = set_mode mode.PositionCsp (acked.CspEnable position most)
begins_with (command.SendCmdPosVelPp position most acceleration) = set_mode mode.Position (acked.PpEnable position most acceleration)
begins_with (command.RequestParameter id) = node.Last (request.Read id)
begins_with (command.GetParameter id timeout) = get_parameter id timeout got.Value
begins_with (command.GetParameterWithHostId id host timeout) = node.Await (wait.Value id got.Value) (window_of timeout 0) (hosts.Named host)
begins_with (command.GetParameterF32 id timeout) = get_parameter id timeout got.F32
begins_with (command.GetParameterI8 id timeout) = get_parameter id timeout got.I8
begins_with command.GetVersion = node.Await wait.Version 240 hosts.Own

-- what follows an acknowledgement, or a pause
abbrev pub acked_of : Acked → Node
acked_of acked.Done = finished
acked_of acked.FaultCleared = node.ClearFault
acked_of acked.ZeroState = put 0x7029 (value.U8 1) acked.Done
acked_of (acked.Stopped m) = node.Finish (outcome.Mode m)
acked_of (acked.CspEnable position most) = send_with_status_ack request.Enable 240 (acked.CspLimit position most)
acked_of (acked.CspLimit position most) = csp_limit position most
acked_of (acked.PpEnable position most acceleration) = send_with_status_ack request.Enable 240 (acked.PpVelocity position most acceleration)
acked_of (acked.PpVelocity position most acceleration) = pp_velocity position most acceleration
acked_of (acked.PpAcceleration position acceleration) = pp_acceleration position acceleration
acked_of (acked.Target position) = position_target position
acked_of (acked.Ensure stage a) = ensure_acked stage a

-- what follows when every window is gone: 16, but in ensure_control_mode
abbrev pub not_acked : Acked → Node
not_acked acked.Done = failed_by_silence
not_acked acked.FaultCleared = failed_by_silence
not_acked acked.ZeroState = failed_by_silence
not_acked (acked.Stopped m) = failed_by_silence
not_acked (acked.CspEnable position most) = failed_by_silence
not_acked (acked.CspLimit position most) = failed_by_silence
not_acked (acked.PpEnable position most acceleration) = failed_by_silence
not_acked (acked.PpVelocity position most acceleration) = failed_by_silence
not_acked (acked.PpAcceleration position acceleration) = failed_by_silence
not_acked (acked.Target position) = failed_by_silence
not_acked (acked.Ensure stage a) = ensure_lost stage a

-- what follows a value
abbrev pub got_value : Sight → Got → ParameterValue → Node
got_value s got.Value v = node.Finish (outcome.Value v)
got_value s got.Flag v = as_flag v
got_value s got.F32 v = as_float (float_in v) (λ w. node.Finish (outcome.F32 w))
got_value s got.I8 v = as_signed (signed_in v) (λ n. node.Finish (outcome.I8 n))
got_value s got.Mode v = as_mode (signed_in v) (λ m. node.Finish (outcome.Mode m))
got_value s (got.StopMode timeout) v = as_mode (signed_in v) (stop_in timeout)
got_value s got.StopCsp v = as_float (float_in v) (λ w. put 0x7016 (value.F32 w) (acked.Stopped mode.PositionCsp))
got_value s got.StopMit v = as_float (float_in v) (stop_at s)
got_value s (got.EnsureFirst a) v = first_read a (signed_in v)
got_value s (got.EnsureBack a) v = back_read a (signed_in v)

-- what follows when no value has come to any host
abbrev pub no_value : Got → Node
no_value got.Value = failed_by_silence
no_value got.Flag = failed_by_silence
no_value got.F32 = failed_by_silence
no_value got.I8 = failed_by_silence
no_value got.Mode = failed_by_silence
no_value (got.StopMode timeout) = failed_by_silence
no_value got.StopCsp = failed_by_silence
no_value got.StopMit = failed_by_silence
no_value (got.EnsureFirst a) = mode_off a
no_value (got.EnsureBack a) = try_again a

-- what follows a ping reply
abbrev pub got_ping : Pinged → Node
got_ping pinged.Report = node.Report
got_ping (pinged.Rename new) = node.Rename new

-- what follows a wait whose last window is gone
abbrev pub windows_gone : Wait → Node
windows_gone (wait.Acknowledged by r k) = not_acked k
windows_gone (wait.Value id k) = no_value k
windows_gone (wait.Ping k) = failed_by_silence
windows_gone wait.Version = failed_by_silence
