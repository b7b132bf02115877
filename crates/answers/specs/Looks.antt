-- A look: what a motor was registered with, and all that it holds, line by line. Definitions only.
use Rattle.std.specs.Prelude.{ℕ, zero, suc, min, cond, List, [], ◌∷◌, ◌++◌, get_or, Option, Some, None, Result, Ok, Err}
use Rattle.codec.specs.declared.error.Refusal.{Refusal}
use Rattle.codec.specs.declared.faults.FaultReport.{FaultReport}
use Rattle.codec.specs.declared.model.Model.{Model}
use Rattle.codec.specs.Models.{model_text}
use Rattle.codec.specs.Words.{word_of}
use Rattle.motor.specs.declared.engine.command.Command.{Command}
use Rattle.motor.specs.declared.engine.operation.Gains.{Gains}
use Rattle.codec.specs.declared.replies.PingReply.{PingReply}
use Rattle.codec.specs.declared.replies.VersionReply.{VersionReply}
use Rattle.motor.specs.declared.engine.operation.Operation.{Operation}
use Rattle.motor.specs.declared.feedback.MotorFeedbackState.{MotorFeedbackState}
use Rattle.motor.specs.declared.motor.Seen.{Seen}
use Rattle.motor.specs.declared.motor.State.{State}
use Rattle.motor.specs.declared.readings.Entry.{Entry}
use Rattle.motor.specs.declared.readings.Listing.{Listing}
use Rattle.motor.specs.Limits.{most_readings}
use Rattle.motor.specs.Calls.{is_idle}
use Rattle.motor.specs.Readings.{no_entry}
use Rattle.text.specs.Ascii.{ascii}
use Rattle.text.specs.Fields.{fields_text}
use Rattle.answers.specs.Values.{numbers_text, named_text, line_text, end_of_line, space, value_text}
use Rattle.answers.specs.Names.{command_text}
use Rattle.answers.specs.Flags.{state_flags_text, fault_flags_text, warning_flags_text}
use Rattle.answers.specs.Said.{ping_text, version_text, refused_text}

-- motor ID HOST MODEL WAIT
abbrev pub motor_text : ℕ → ℕ → Model → ℕ → List ℕ
motor_text id host model wait = ascii "motor" ++ numbers_text id host (ascii "22") ++ space ++ model_text model ++ line_text [] wait (ascii "D")

-- feedback ID DEVICE MODE_STATE POS VEL TORQUE TEMP
abbrev pub told_state_text : MotorFeedbackState → List ℕ
told_state_text s =
    ascii "feedback"
    ++ fields_text
    (s.arbitration_id ∷ s.device_id ∷ s.mode_state ∷ (word_of s.position).bits ∷ (word_of s.velocity).bits ∷ (word_of s.torque).bits ∷ (word_of s.temperature_c).bits ∷ 0 ∷ [])
    (ascii "8218888")

-- and FLAGS
abbrev pub feedback_text : Option MotorFeedbackState → List ℕ
feedback_text None = ascii "feedback none\n"
feedback_text (Some s) = told_state_text s ++ space ++ state_flags_text s ++ end_of_line

-- fault FAULT_RAW WARNING_RAW FAULTS WARNINGS
abbrev pub report_text : FaultReport → List ℕ
report_text r =
    ascii "fault" ++ numbers_text r.fault_raw r.warning_raw (ascii "88") ++ space ++ fault_flags_text r.faults ++ space ++ warning_flags_text r.warnings ++ end_of_line

abbrev pub fault_text : Option FaultReport → List ℕ
fault_text None = ascii "fault none\n"
fault_text (Some r) = report_text r

-- ping DEVICE RESPONDER PAYLOAD
abbrev pub held_ping_text : Option PingReply → List ℕ
held_ping_text None = ascii "ping none\n"
held_ping_text (Some p) = ping_text p.device_id p.responder_id p.payload ++ end_of_line

-- version DEVICE BYTES: the answer that the running get_version has so far
abbrev pub held_version_text : Option VersionReply → List ℕ
held_version_text None = ascii "version none\n"
held_version_text (Some v) = version_text v.device_id v.version ++ end_of_line

-- gains KP KD
abbrev pub gains_text : Gains → List ℕ
gains_text g = ascii "gains" ++ numbers_text g.kp.bits g.kd.bits (ascii "88") ++ end_of_line

-- running COMMAND due TIME
abbrev pub running_text : Operation → Command → List ℕ
running_text op c = cond (is_idle op.phase) (ascii "running none\n") (ascii "running " ++ command_text c ++ line_text (ascii " due") op.due (ascii "D"))

abbrev pub state_text : State → List ℕ
state_text s =
    motor_text s.motor_id s.feedback_id s.model s.write_wait
    ++ line_text (ascii "clock") s.clock (ascii "D")
    ++ line_text (ascii "responses") s.responses (ascii "D")
    ++ line_text (ascii "sequence") s.feedback.sequence (ascii "D")
    ++ feedback_text s.feedback.latest
    ++ fault_text s.fault_report
    ++ held_ping_text s.ping_reply
    ++ held_version_text s.operation.answer
    ++ gains_text s.gains
    ++ running_text s.operation s.command

-- reading PARAM KIND BITS
abbrev pub reading_text : Entry → List ℕ
reading_text e = named_text (ascii "reading") e.id (ascii "4") ++ space ++ value_text e.held.value ++ end_of_line

unfoldable pub readings_upto : List Entry → ℕ → List ℕ
readings_upto es zero = []
readings_upto es (suc i) = readings_upto es i ++ reading_text (get_or es i no_entry)

-- one for each held reading, along the chain
abbrev pub readings_text : Listing → List ℕ
readings_text l = readings_upto l.entries (min l.count most_readings)

abbrev pub seen_text : Seen → List ℕ
seen_text s = state_text s.state ++ readings_text s.readings ++ ascii "end\n"

unfoldable pub looked_text : Result Seen Refusal → List ℕ
looked_text (Ok s) = seen_text s
looked_text (Err r) = refused_text r
