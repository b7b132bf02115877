-- Which reply a request gets. Definitions only.
use Rattle.std.specs.Prelude.{ℕ, List}
use Rattle.vectors.specs.declared.requests.Request.{Request}
use Rattle.vectors.specs.declared.requests.Request.TheVariants as request
use Rattle.vectors.specs.Numbers.{Reply}
use Rattle.vectors.specs.Answers as answer

abbrev pub reply_to : Request → List ℕ → List ℕ → Reply
reply_to request.BuildExtId v name = answer.build_ext_id v
reply_to request.ExtIdParts v name = answer.ext_id_parts v
reply_to request.ParameterInfo v name = answer.parameter_info v
reply_to request.FromRaw v name = answer.from_raw v
reply_to request.ValidateProtocolCmd v name = answer.validate_protocol_cmd v
reply_to request.EncodeSetProtocol v name = answer.encode_set_protocol v
reply_to request.EncodeParameterRead v name = answer.encode_parameter_read v
reply_to request.EncodeParameterWrite v name = answer.encode_parameter_write v
reply_to request.EncodeParameterValue v name = answer.encode_parameter_value v
reply_to request.DecodeReadParameterValue v name = answer.decode_read_parameter_value v
reply_to request.DecodeFaultReport v name = answer.decode_fault_report v
reply_to request.DecodePingReply v name = answer.decode_ping_reply v
reply_to request.EncodeVersionRequest v name = answer.encode_version_request
reply_to request.IsVersionReply v name = answer.is_version_reply v
reply_to request.DecodeVersionReply v name = answer.decode_version_reply v
reply_to request.MotionRaw v name = answer.motion_raw v
reply_to request.GainRaw v name = answer.gain_raw v
reply_to request.StatusValue v name = answer.status_value v
reply_to request.Temperature v name = answer.temperature v
reply_to request.ModelLimits v name = answer.model_limits name
reply_to request.EncodeMitCommand v name = answer.encode_mit_command v name
reply_to request.DecodeStatusFrame v name = answer.decode_status_frame v name
reply_to request.ParameterName v name = answer.parameter_name v
reply_to request.ProtocolName v name = answer.protocol_name v
