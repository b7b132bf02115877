-- The codec's answers as numbers. Definitions only.
use Rattle.std.specs.Prelude.{ℕ, ◌+◌, ◌*◌, ◌^◌, cond, List, [], ◌∷◌, eqb, Float, Option, Some, None, Result, Ok, Err}
use Rattle.std.specs.Int.{w8}
use Rattle.std.proofs.Common.{of_z}
use Rattle.codec.specs.declared.error.Refusal.{Refusal}
use Rattle.codec.specs.declared.registers.ControlMode.{ControlMode}
use Rattle.codec.specs.declared.protocol.IdParts.{IdParts}
use Rattle.codec.specs.declared.protocol.ParameterValue.{ParameterValue}
use Rattle.codec.specs.declared.registers.ParameterDataType.{ParameterDataType}
use Rattle.codec.specs.declared.registers.ParameterDataType.TheVariants.{Int8, UInt8, UInt16, UInt32, Float32}
use Rattle.codec.specs.declared.faults.FaultFlags.{FaultFlags}
use Rattle.codec.specs.declared.faults.FaultReport.{FaultReport}
use Rattle.codec.specs.declared.replies.PingReply.{PingReply}
use Rattle.codec.specs.declared.replies.VersionReply.{VersionReply}
use Rattle.codec.specs.declared.word.Word.{Word}
use Rattle.codec.specs.declared.model.Limits.{Limits}
use Rattle.codec.specs.declared.status.StatusFlags.{StatusFlags}
use Rattle.codec.specs.declared.status.StatusFrame.{StatusFrame}
use Rattle.codec.specs.Refusals.{number_of}
use Rattle.codec.specs.Numbers.{said_in, given_or}
use Rattle.codec.specs.Kinds.{kind_number}
use Rattle.codec.specs.Modes.{control_mode_number}
use Rattle.codec.specs.Models.{model_limits_number}
use Rattle.codec.specs.Replies.{blank_ping, blank_version}
use Rattle.codec.specs.Values.{value_as, encoded_row, le32}
use Rattle.codec.specs.Motion.{whole}
use Rattle.codec_abi.specs.Packing.{refusal_in, flag}

-- ---- ids

abbrev pub parts_number : IdParts → ℕ
parts_number p = p.comm_type * 2 ^ 32 + p.extra_data * 2 ^ 16 + p.node_id

-- ---- parameters

-- the number of a kind, 0 where the id is unlisted
abbrev pub info_number : Option ParameterDataType → ℕ
info_number (Some kind) = kind_number kind
info_number None = 0

-- a mode's own number, or 256 + the refusal's
abbrev pub mode_answer : Result ControlMode Refusal → ℕ
mode_answer (Ok m) = of_z w8 (control_mode_number m)
mode_answer (Err refusal) = 256 + number_of refusal

-- the kind that a number names; any other number than 1 to 4 names Float32
abbrev pub kind_named : ℕ → ParameterDataType
kind_named k = cond (eqb k 1) Int8 (cond (eqb k 2) UInt8 (cond (eqb k 3) UInt16 (cond (eqb k 4) UInt32 Float32)))

abbrev pub typed_value : ℕ → ℕ → ParameterValue
typed_value k bits = value_as (kind_named k) bits

abbrev pub encoded_refusal : Result ℕ Refusal → ℕ
encoded_refusal answer = (encoded_row answer).0

abbrev pub encoded_raw : Result ℕ Refusal → ℕ
encoded_raw (Ok n) = n
encoded_raw (Err refusal) = 0

-- ---- replies

-- the flags of the fault word, in the struct's order from bit 0 on
abbrev pub fault_bits : FaultFlags → ℕ
fault_bits f =
    flag f.phase_a_overcurrent (2 ^ 0)
    + flag f.stall_overload (2 ^ 1)
    + flag f.position_init_fault (2 ^ 2)
    + flag f.hardware_id_fault (2 ^ 3)
    + flag f.encoder_uncalibrated (2 ^ 4)
    + flag f.phase_c_overcurrent (2 ^ 5)
    + flag f.phase_b_overcurrent (2 ^ 6)
    + flag f.overvoltage (2 ^ 7)
    + flag f.undervoltage (2 ^ 8)
    + flag f.driver_fault (2 ^ 9)
    + flag f.overtemperature (2 ^ 10)

-- bit 11 is the warning
abbrev pub report_bits : FaultReport → ℕ
report_bits report = fault_bits report.faults + flag report.warnings.overtemperature_warning (2 ^ 11)

abbrev pub report_number : FaultReport → ℕ
report_number report = report.fault_raw + report.warning_raw * 2 ^ 32

-- beside a refusal a reply is all zeros
abbrev pub ping_number : Result PingReply Refusal → ℕ
ping_number a = refusal_in (said_in a) * 2 ^ 16 + (given_or blank_ping a).device_id * 2 ^ 8 + (given_or blank_ping a).responder_id

abbrev pub version_number : Result VersionReply Refusal → ℕ
version_number a = refusal_in (said_in a) * 2 ^ 16 + (given_or blank_version a).device_id

abbrev pub version_bytes : Result VersionReply Refusal → ℕ
version_bytes a = le32 (given_or blank_version a).version 0

-- ---- values

abbrev pub word_at : ℕ → Word
word_at n = record { bits = n }

abbrev pub all_limits : Float → Float → Float → Float → Float → Limits
all_limits p v t kp kd = record { position = p; velocity = v; torque = t; kp = kp; kd = kd }

-- a status frame is decoded by three limits
abbrev pub motion_limits : Float → Float → Float → Limits
motion_limits p v t = all_limits p v t (whole 0) (whole 0)

abbrev pub limits_refusal : Result Limits Refusal → ℕ
limits_refusal answer = model_limits_number answer

abbrev pub limits_list : Result Limits Refusal → List Float
limits_list (Ok limits) = limits.position ∷ limits.velocity ∷ limits.torque ∷ limits.kp ∷ limits.kd ∷ []
limits_list (Err refusal) = whole 0 ∷ whole 0 ∷ whole 0 ∷ whole 0 ∷ whole 0 ∷ []

-- the flags of a status frame from bit 0 on
abbrev pub status_bits : StatusFlags → ℕ
status_bits f =
    flag f.uncalibrated (2 ^ 0)
    + flag f.stall (2 ^ 1)
    + flag f.magnetic_encoder_fault (2 ^ 2)
    + flag f.overtemperature (2 ^ 3)
    + flag f.overcurrent (2 ^ 4)
    + flag f.undervoltage (2 ^ 5)

abbrev pub status_number : StatusFlags → ℕ
status_number f = f.mode_state + f.device_id * 2 ^ 8 + status_bits f * 2 ^ 16

abbrev pub status_list : StatusFrame → List Float
status_list frame = frame.position ∷ frame.velocity ∷ frame.torque ∷ frame.temperature_c ∷ []
