-- The frames that are sent: a request's type and payload, by the Rust's constants. Definitions only.
use Rattle.std.specs.Prelude.{ℕ, ◌+◌, ◌*◌, ◌%◌, true, false, cond, List, [], ◌∷◌, unwrap_or}
use Rattle.codec.specs.Numbers.{given_or}
use Rattle.codec.specs.declared.bus.CanFrame.{CanFrame}
use Rattle.codec.specs.declared.motion.MitCommand.{MitCommand}
use Rattle.codec.specs.Ids.{build_ext_id}
use Rattle.codec.specs.Models.{limits_of}
use Rattle.codec.specs.Motion.{encode_mit_command}
use Rattle.codec.specs.Replies.{zeros, encode_set_protocol, encode_version_request, blank_ping}
use Rattle.codec.specs.Values.{encode_parameter_read, encode_parameter_write}
use Rattle.codec.specs.Words.{value_of}
use Rattle.motor.specs.declared.engine.operation.Sight.{Sight}
use Rattle.motor.specs.declared.engine.node.Request.{Request}
use Rattle.motor.specs.declared.engine.node.Request.TheVariants as request
use Rattle.motor.specs.declared.engine.node.Targets.{Targets}

abbrev pub request_type : Request → ℕ
request_type request.Ping = 0
request_type request.Enable = 3
request_type request.Disable = 4
request_type request.ClearError = 4
request_type request.SetZeroPosition = 6
request_type (request.Read id) = 17
request_type (request.Write id raw) = 18
request_type request.SaveParameters = 22
request_type (request.ActiveReport on) = 24
request_type (request.SetProtocol protocol) = 25
request_type request.Version = 4

-- a first byte of 1, then zeros
abbrev pub one : List ℕ
one = 1 ∷ 0 ∷ 0 ∷ 0 ∷ 0 ∷ 0 ∷ 0 ∷ 0 ∷ []

abbrev pub request_payload : Request → List ℕ
request_payload request.Ping = zeros
request_payload request.Enable = zeros
request_payload request.Disable = zeros
request_payload request.ClearError = one
request_payload request.SetZeroPosition = one
request_payload (request.Read id) = encode_parameter_read id
request_payload (request.Write id raw) = encode_parameter_write id raw
request_payload request.SaveParameters = 1 ∷ 2 ∷ 3 ∷ 4 ∷ 5 ∷ 6 ∷ 7 ∷ 8 ∷ []
request_payload (request.ActiveReport on) = 1 ∷ 2 ∷ 3 ∷ 4 ∷ 5 ∷ 6 ∷ cond on 1 0 ∷ 0 ∷ []
request_payload (request.SetProtocol protocol) = given_or zeros (encode_set_protocol protocol)
request_payload request.Version = encode_version_request

-- a frame sent has dlc 8, is extended and not received
abbrev pub frame_to : Sight → ℕ → ℕ → List ℕ → CanFrame
frame_to s type extra payload =
    record { arbitration_id = build_ext_id type extra (s.motor_id % 256); «data» = payload; dlc = 8; is_extended = true; is_rx = false }

-- a request to a host
abbrev pub request_frame : Sight → Request → ℕ → CanFrame
request_frame s r host = frame_to s (request_type r) host (request_payload r)

-- the motion command of five words
abbrev pub motion_of : Sight → Targets → MitCommand
motion_of s t =
    encode_mit_command (value_of t.position) (value_of t.velocity) (value_of t.kp) (value_of t.kd) (value_of t.torque) (limits_of s.model)

abbrev pub motion_frame : Sight → MitCommand → CanFrame
motion_frame s c = frame_to s 1 c.extra_data c.payload

-- set_device_id: the extra field is new id × 256 + host id, the payload the ping reply's
abbrev pub rename_frame : Sight → ℕ → CanFrame
rename_frame s new = frame_to s 7 (new * 256 + s.feedback_id % 256) (unwrap_or s.ping_reply blank_ping).payload

abbrev pub no_frame : CanFrame
no_frame = record { arbitration_id = 0; «data» = zeros; dlc = 0; is_extended = false; is_rx = false }
