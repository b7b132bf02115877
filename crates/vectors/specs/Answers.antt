-- The reply to each request, over the numbers that the codec's interface gives. v has the request's numbers. Definitions only.
use Rattle.std.specs.Prelude.{ℕ, ◌-◌, ◌/◌, ◌^◌, cond, List, [], ◌∷◌, nat_lt, slice_index, slice_index_or, Float, Result, Ok, Err}
use Rattle.std.specs.Float.{nan}
use Rattle.std.specs.Int.{w8, w32, w64, swap_bytes}
use Rattle.std.proofs.Common.{to_z}
use Rattle.codec.specs.Faults as faults
use Rattle.codec.specs.Ids as ids
use Rattle.codec.specs.Kinds as kinds
use Rattle.codec.specs.Models as models
use Rattle.codec.specs.Modes.{control_mode_from_raw}
use Rattle.codec.specs.Motion as motion
use Rattle.codec.specs.Names as names
use Rattle.codec.specs.Numbers.{said_in, given_or}
use Rattle.codec.specs.ParameterNames as parameters
use Rattle.codec.specs.Replies as replies
use Rattle.codec.specs.Status as status
use Rattle.codec.specs.Values as values
use Rattle.codec.specs.declared.motion.MitCommand.{MitCommand}
use Rattle.codec.specs.declared.names.Name.{Name}
use Rattle.codec.specs.declared.status.StatusFrame.{StatusFrame}
use Rattle.codec_abi.specs.Packing.{payload_of, packed, first_half, second_half, refusal_in, flag}
use Rattle.codec_abi.specs.Numbers as abi
use Rattle.vectors.specs.Numbers.{Reply, numbers, unless_refused, byte, half, word, float_of, bits_of}

-- the payload that number i of a request stands for: byte 0 is written first, and counts lowest
abbrev pub payload : List ℕ → ℕ → List ℕ
payload v i = payload_of (swap_bytes w64 (slice_index v i))

-- a payload as a number of a reply
abbrev pub shown : List ℕ → ℕ
shown bytes = swap_bytes w64 (packed bytes)

abbrev pub build_ext_id : List ℕ → Reply
build_ext_id v = Ok (numbers (ids.build_ext_id (word v 0) (half v 1) (byte v 2)) 0 0)

abbrev pub three_of : ℕ → Reply
three_of parts = Ok (numbers (parts / 2 ^ 32) (parts / 2 ^ 16) parts)

abbrev pub ext_id_parts : List ℕ → Reply
ext_id_parts v = three_of (abi.parts_number (ids.ext_id_parts (word v 0)))

abbrev pub parameter_info : List ℕ → Reply
parameter_info v = Ok (numbers (abi.info_number (kinds.parameter_info (half v 0))) 0 0)

-- a mode's number, or 256 + the refusal's
abbrev pub mode_of : ℕ → Reply
mode_of mode = cond (nat_lt mode 256) (Ok (numbers mode 0 0)) (Err (mode - 256))

abbrev pub from_raw : List ℕ → Reply
from_raw v = mode_of (abi.mode_answer (control_mode_from_raw (to_z w8 (byte v 0))))

abbrev pub validate_protocol_cmd : List ℕ → Reply
validate_protocol_cmd v = unless_refused (refusal_in (replies.validate_protocol_cmd (byte v 0))) (numbers 0 0 0)

abbrev pub encode_set_protocol : List ℕ → Reply
encode_set_protocol v =
    unless_refused (refusal_in (said_in (replies.encode_set_protocol (byte v 0))))
    (numbers (shown (given_or replies.zeros (replies.encode_set_protocol (byte v 0)))) 0 0)

abbrev pub encode_parameter_read : List ℕ → Reply
encode_parameter_read v = Ok (numbers (shown (values.encode_parameter_read (half v 0))) 0 0)

abbrev pub encode_parameter_write : List ℕ → Reply
encode_parameter_write v = Ok (numbers (shown (values.encode_parameter_write (half v 0) (word v 1))) 0 0)

abbrev pub encode_parameter_value : List ℕ → Reply
encode_parameter_value v =
    unless_refused (abi.encoded_refusal (values.encode_parameter_value (half v 0) (abi.typed_value (byte v 1) (word v 2))))
    (numbers (abi.encoded_raw (values.encode_parameter_value (half v 0) (abi.typed_value (byte v 1) (word v 2)))) 0 0)

abbrev pub decode_read_parameter_value : List ℕ → Reply
decode_read_parameter_value v =
    Ok
    (numbers (kinds.kind_number (values.kind_in (values.decode_read_parameter_value (half v 0) (payload v 1))))
    (values.raw_of (values.decode_read_parameter_value (half v 0) (payload v 1)))
    0)

abbrev pub report_of : ℕ → ℕ → Reply
report_of report flags = Ok (numbers report (report / 2 ^ 32) flags)

abbrev pub decode_fault_report : List ℕ → Reply
decode_fault_report v = report_of (abi.report_number (faults.decode_fault_report (payload v 0))) (abi.report_bits (faults.decode_fault_report (payload v 0)))

abbrev pub ping_of : ℕ → ℕ → Reply
ping_of said bytes = unless_refused (said / 2 ^ 16) (numbers (said / 2 ^ 8) said (swap_bytes w64 bytes))

abbrev pub decode_ping_reply : List ℕ → Reply
decode_ping_reply v =
    ping_of (abi.ping_number (replies.decode_ping_reply (word v 0) (payload v 1)))
    (packed (given_or replies.blank_ping (replies.decode_ping_reply (word v 0) (payload v 1))).payload)

abbrev pub encode_version_request : Reply
encode_version_request = Ok (numbers (shown replies.encode_version_request) 0 0)

abbrev pub is_version_reply : List ℕ → Reply
is_version_reply v = Ok (numbers (flag (replies.is_version_reply (word v 0) (payload v 1)) 1) 0 0)

abbrev pub version_of : ℕ → ℕ → Reply
version_of said version = unless_refused (said / 2 ^ 16) (numbers said (swap_bytes w32 version) 0)

abbrev pub decode_version_reply : List ℕ → Reply
decode_version_reply v =
    version_of (abi.version_number (replies.decode_version_reply (word v 0) (payload v 1))) (abi.version_bytes (replies.decode_version_reply (word v 0) (payload v 1)))

-- ---- motion and status values

abbrev pub float_at : List ℕ → ℕ → Float
float_at v i = float_of (word v i)

abbrev pub motion_raw : List ℕ → Reply
motion_raw v = Ok (numbers (motion.motion_raw (float_at v 0) (float_at v 1)) 0 0)

abbrev pub gain_raw : List ℕ → Reply
gain_raw v = Ok (numbers (motion.gain_raw (float_at v 0) (float_at v 1)) 0 0)

abbrev pub status_value : List ℕ → Reply
status_value v = Ok (numbers (bits_of (status.status_value (half v 0) (float_at v 1))) 0 0)

abbrev pub temperature : List ℕ → Reply
temperature v = Ok (numbers (bits_of (status.temperature_of (half v 0))) 0 0)

-- float i of a list
abbrev pub nth : List Float → ℕ → Float
nth xs i = slice_index_or xs i nan

-- a model's limits, or the refusal of its name
abbrev pub limits_named : List ℕ → Result (List Float) ℕ
limits_named name = unless_refused (abi.limits_refusal (models.model_limits name)) (abi.limits_list (models.model_limits name))

-- the reply that a model's limits give, or the refusal of its name
abbrev pub by_limits : (List Float → Reply) → Result (List Float) ℕ → Reply
by_limits reply (Ok m) = reply m
by_limits reply (Err n) = Err n

abbrev pub limits_reply : List Float → Reply
limits_reply m = Ok (bits_of (nth m 0) ∷ bits_of (nth m 1) ∷ bits_of (nth m 2) ∷ bits_of (nth m 3) ∷ bits_of (nth m 4) ∷ 0 ∷ 0 ∷ [])

abbrev pub model_limits : List ℕ → Reply
model_limits name = by_limits limits_reply (limits_named name)

-- position, velocity, kp, kd and torque are the first five numbers
abbrev pub targets : List ℕ → List Float
targets v = float_at v 0 ∷ float_at v 1 ∷ float_at v 2 ∷ float_at v 3 ∷ float_at v 4 ∷ []

abbrev pub command_of : List Float → List Float → MitCommand
command_of x m =
    motion.encode_mit_command (nth x 0) (nth x 1) (nth x 2) (nth x 3) (nth x 4) (abi.all_limits (nth m 0) (nth m 1) (nth m 2) (nth m 3) (nth m 4))

abbrev pub command_reply : MitCommand → Reply
command_reply command = Ok (numbers command.extra_data (shown command.payload) 0)

abbrev pub encode_mit_command : List ℕ → List ℕ → Reply
encode_mit_command v name = by_limits (λ m. command_reply (command_of (targets v) m)) (limits_named name)

abbrev pub frame_of : List ℕ → List Float → StatusFrame
frame_of v m = status.decode_status_frame (half v 0) (payload v 1) (abi.motion_limits (nth m 0) (nth m 1) (nth m 2))

-- mode, device and flags, then the four values
abbrev pub status_reply : ℕ → List Float → Reply
status_reply said xs =
    Ok (said ∷ said / 2 ^ 8 ∷ said / 2 ^ 16 ∷ bits_of (nth xs 0) ∷ bits_of (nth xs 1) ∷ bits_of (nth xs 2) ∷ bits_of (nth xs 3) ∷ [])

abbrev pub frame_reply : StatusFrame → Reply
frame_reply frame = status_reply (abi.status_number frame.flags) (abi.status_list frame)

abbrev pub decode_status_frame : List ℕ → List ℕ → Reply
decode_status_frame v name = by_limits (λ m. frame_reply (frame_of v m)) (limits_named name)

-- ---- names

-- how many bytes, and all 16
abbrev pub name_shown : Name → Reply
name_shown name = Ok (numbers name.length (swap_bytes w64 (first_half name.bytes)) (swap_bytes w64 (second_half name.bytes)))

abbrev pub parameter_name : List ℕ → Reply
parameter_name v = name_shown (parameters.parameter_name (half v 0))

abbrev pub protocol_name : List ℕ → Reply
protocol_name v = name_shown (names.protocol_name (byte v 0))
