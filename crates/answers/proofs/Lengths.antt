-- How long an answer is at most: what is told, what is said, and a look. Assumes nothing.
use Rattle.std.specs.Prelude.{Option, Some, None, Result, Ok, Err, ⊤}
use Prim.Native.Nat.{ℕ, zero, suc, ◌+◌, ◌*◌, ◌/◌, ◌%◌, ◌^◌, ◌-◌, min}
use mathlib.Core.List.{List, [], ◌∷◌}
use native.Mathlib.Omega.{arith}
use lib.Dec.{eqb, ltb}
use lib.ListN.{length, get_or}
use lib.IntN.{ℤ}
use mir.Syntax.{w8}
use mir.Val.{of_z}
use Rattle.codec.specs.declared.faults.FaultReport.{FaultReport}
use Rattle.codec.specs.declared.bus.CanFrame.{CanFrame}
use Rattle.codec.specs.declared.error.Refusal.{Refusal}
use Rattle.codec.specs.declared.faults.FaultFlags.{FaultFlags}
use Rattle.codec.specs.declared.faults.WarningFlags.{WarningFlags}
use Rattle.codec.specs.declared.model.Model.{Model}
use Rattle.codec.specs.declared.model.Model.TheVariants as model
use Rattle.codec.specs.declared.protocol.ParameterValue.{ParameterValue}
use Rattle.codec.specs.declared.protocol.ParameterValue.TheVariants as value
use Rattle.codec.specs.Models.{model_text}
use Rattle.codec.specs.Refusals.{Carried, nothing, status_of, last_read, row_of, number_of}
use Rattle.motor.specs.declared.engine.command.Command.{Command}
use Rattle.motor.specs.declared.engine.command.Outcome.{Outcome}
use Rattle.motor.specs.declared.engine.command.Outcome.TheVariants as outcome
use Rattle.motor.specs.declared.engine.command.Said.{Said}
use Rattle.motor.specs.declared.engine.command.Said.TheVariants as said
use Rattle.motor.specs.declared.engine.operation.Gains.{Gains}
use Rattle.codec.specs.declared.replies.PingReply.{PingReply}
use Rattle.codec.specs.declared.replies.VersionReply.{VersionReply}
use Rattle.motor.specs.declared.engine.operation.Operation.{Operation}
use Rattle.motor.specs.declared.feedback.MotorFeedbackState.{MotorFeedbackState}
use Rattle.motor.specs.declared.motor.Seen.{Seen}
use Rattle.motor.specs.declared.motor.State.{State}
use Rattle.motor.specs.declared.readings.Entry.{Entry}
use Rattle.motor.specs.declared.readings.Listing.{Listing}
use Rattle.motor.specs.Limits.{most_readings}
use Rattle.motor.specs.Calls.{is_idle}
use Rattle.motor.specs.Readings.{no_entry}
use Rattle.session.specs.Table.{commands, modes}
use Rattle.text.specs.Ascii.{ascii}
use Rattle.text.specs.Words.{word_at}
use Rattle.text.proofs.TextLengths.{Short, words, none, wider, ◌&◌, either, digits-short, decimal-short, widths_of, fields-short, word-short, words_upto, words-few}
use Rattle.answers.specs.Values.{named_text, line_text, end_of_line, space, value_text, signed_text}
use Rattle.answers.specs.Names.{mode_place, command_place}
use Rattle.answers.specs.Said.{ok_text, last_text, values_text, refused_text, told_text, frame_text, ping_text, version_text, outcome_text, finished_text, sent_text, last_line, said_text}
use Rattle.answers.specs.Looks.{motor_text, feedback_text, fault_text, held_ping_text, held_version_text, gains_text, running_text, state_text, reading_text, readings_upto, readings_text, seen_text, looked_text}
use Rattle.answers.specs.Flags.{flag_text, flags_upto, flags_text, state_flags_text, fault_flags_text, warning_flags_text}

-- ---- flags

flag-short : (from below : ℕ) (name : List ℕ) → Short (flag_text from below name) (1 + length name)
unfolding flag_text
flag-short from below name = either (eqb (from % 2) 0) none (either (eqb below 0) (wider (words name) (omega arith)) (words (0x2C ∷ []) & words name))

flags-upto : (bits : ℕ) (names : List ℕ) (n : ℕ) → Short (flags_upto bits names n) (words_upto names n)
unfolding flags_upto
flags-upto bits names zero = none
flags-upto bits names (suc i) = flags-upto bits names i & flag-short (bits / 2 ^ i) (bits % 2 ^ i) (word_at names i)

flags-short : (bits : ℕ) (names : List ℕ) (n : ℕ) → Short (flags_text bits names n) (1 + n + length names)
unfolding flags_text
flags-short bits names n =
    either (eqb bits 0) (wider (words (0x2D ∷ [])) (omega arith))
    (either (ltb 16 n) none (wider (flags-upto bits names n) (omega (arith, words-few names n))))

state-flags-short : (s : MotorFeedbackState) → Short (state_flags_text s) 89
unfolding state_flags_text
state-flags-short s = flags-short _ _ _

fault-flags-short : (f : FaultFlags) → Short (fault_flags_text f) 199
unfolding fault_flags_text
fault-flags-short f = flags-short _ _ _

warning-flags-short : (w : WarningFlags) → Short (warning_flags_text w) 25
unfolding warning_flags_text
warning-flags-short w = flags-short _ _ _

-- ---- values, and what is said

named-short : (name : List ℕ) (n : ℕ) (shape : List ℕ) → Short (named_text name n shape) (length name + widths_of shape)
named-short name n shape = words name & fields-short _ shape

line-short : (name : List ℕ) (n : ℕ) (shape : List ℕ) → Short (line_text name n shape) (length name + widths_of shape + 1)
line-short name n shape = named-short name n shape & words end_of_line

value-short : (v : ParameterValue) → Short (value_text v) 12
value-short (value.I8 v) = wider (named-short (ascii "I8") (of_z w8 v) (ascii "2")) (omega arith)
value-short (value.U8 v) = wider (named-short (ascii "U8") v (ascii "2")) (omega arith)
value-short (value.U16 v) = wider (named-short (ascii "U16") v (ascii "4")) (omega arith)
value-short (value.U32 v) = named-short (ascii "U32") v (ascii "8")
value-short (value.F32 w) = named-short (ascii "F32") w.bits (ascii "8")

signed-short : (v : ℤ) → Short (signed_text v) 21
signed-short v =
    either (ltb (of_z w8 v) 128) (wider (decimal-short 20 (of_z w8 v)) (omega arith)) (words (0x2D ∷ []) & decimal-short 20 (256 - of_z w8 v))

last-short : (l : Option ℤ) → Short (last_text l) 22
last-short None = wider (words (ascii " none")) (omega arith)
last-short (Some v) = words space & signed-short v

carried-short : (c : Carried) → Short (values_text c) 22
carried-short nothing = none
carried-short (status_of id status) = wider (fields-short _ (ascii "42")) (omega arith)
carried-short (last_read l) = last-short l

pub refused-short : (r : Refusal) → Short (refused_text r) 51
refused-short r = named-short (ascii "refused") (number_of r) (ascii "D") & carried-short (row_of r).1 & words end_of_line

pub told-fits : (c : Result ⊤ Refusal) → Short (told_text c) 51
unfolding told_text
told-fits (Ok tt) = wider (words ok_text) (omega arith)
told-fits (Err r) = refused-short r

pub frame-short : (f : CanFrame) (time : ℕ) → Short (frame_text f time) 61
frame-short f time =
    words (ascii "(") & decimal-short 20 _ & words (ascii ".") & digits-short 10 3 _ & words (ascii "000) can0 ")
    & digits-short 16 8 _ & words (ascii "#") & digits-short 16 16 _ & words end_of_line

ping-short : (device responder : ℕ) (payload : List ℕ) → Short (ping_text device responder payload) 27
ping-short device responder payload = words (ascii "ping") & fields-short _ (ascii "22P")

version-short : (device : ℕ) (v : List ℕ) → Short (version_text device v) 19
version-short device v = words (ascii "version") & fields-short _ (ascii "28")

outcome-short : (o : Outcome) (result : List ℕ) → Short (outcome_text o result) 27
outcome-short outcome.Done result = wider (words (ascii "none")) (omega arith)
outcome-short (outcome.Ping device responder) result = ping-short device responder result
outcome-short (outcome.Mode m) result = wider (words (ascii "mode ") & word-short modes (mode_place m)) (omega arith)
outcome-short (outcome.Value v) result = wider (words (ascii "value ") & value-short v) (omega arith)
outcome-short (outcome.Flag flag) result = wider (named-short (ascii "flag") flag (ascii "2")) (omega arith)
outcome-short (outcome.F32 w) result = wider (named-short (ascii "f32") w.bits (ascii "8")) (omega arith)
outcome-short (outcome.I8 v) result = wider (words (ascii "i8 ") & signed-short v) (omega arith)
outcome-short (outcome.Version device) result = wider (version-short device result) (omega arith)

finished-short : (o : Outcome) (result : List ℕ) → Short (finished_text o result) 37
finished-short o result = words (ascii "finished ") & outcome-short o result & words end_of_line

sent-short : (s : Said) (f : CanFrame) (time : ℕ) → Short (sent_text s f time) 61
unfolding sent_text
sent-short (said.Sent due) f time = frame-short f time
sent-short (said.Waiting due) f time = none
sent-short (said.Finished r) f time = none
sent-short (said.FinishedWith r) f time = frame-short f time
sent-short (said.Refused r) f time = none

last-line-short : (s : Said) (result : List ℕ) → Short (last_line s result) 51
last-line-short (said.Sent due) result = wider (line-short (ascii "sent due") due (ascii "D")) (omega arith)
last-line-short (said.Waiting due) result = wider (line-short (ascii "waiting due") due (ascii "D")) (omega arith)
last-line-short (said.Finished r) result = wider (finished-short r result) (omega arith)
last-line-short (said.FinishedWith r) result = wider (finished-short r result) (omega arith)
last-line-short (said.Refused r) result = refused-short r

pub said_fits : (s : Said) (f : CanFrame) (result : List ℕ) (time : ℕ) → Short (said_text s f result time) 112
unfolding said_text
said_fits s f result time = sent-short s f time & last-line-short s result

-- ---- looks

-- a reading's line, the lines above the readings, and all of them with the last
abbrev reading_bytes : ℕ
reading_bytes = 26

abbrev state_bytes : ℕ
state_bytes = 1400

abbrev pub look_bytes : ℕ
look_bytes = state_bytes + reading_bytes * most_readings + 4

model-short : (m : Model) → Short (model_text m) 7
model-short model.Rs00 = wider (words _) (omega arith)
model-short model.Rs01 = wider (words _) (omega arith)
model-short model.Rs02 = wider (words _) (omega arith)
model-short model.Rs03 = wider (words _) (omega arith)
model-short model.Rs04 = wider (words _) (omega arith)
model-short model.Rs05 = wider (words _) (omega arith)
model-short model.Rs05el = words _
model-short model.Rs06 = wider (words _) (omega arith)

motor-short : (id host : ℕ) (m : Model) (wait : ℕ) → Short (motor_text id host m wait) 41
motor-short id host m wait =
    words (ascii "motor") & fields-short _ (ascii "22") & words space & model-short m & line-short [] wait (ascii "D")

feedback-short : (l : Option MotorFeedbackState) → Short (feedback_text l) 149
feedback-short None = wider (words (ascii "feedback none\n")) (omega arith)
feedback-short (Some s) =
    words (ascii "feedback") & fields-short _ (ascii "8218888") & words space & state-flags-short s & words end_of_line

fault-short : (h : Option FaultReport) → Short (fault_text h) 250
fault-short None = wider (words (ascii "fault none\n")) (omega arith)
fault-short (Some r) =
    words (ascii "fault") & fields-short _ (ascii "88") & words space & fault-flags-short r.faults & words space & warning-flags-short r.warnings & words end_of_line

held-ping-short : (p : Option PingReply) → Short (held_ping_text p) 28
held-ping-short None = wider (words (ascii "ping none\n")) (omega arith)
held-ping-short (Some p) = ping-short _ _ _ & words end_of_line

held-version-short : (v : Option VersionReply) → Short (held_version_text v) 20
held-version-short None = wider (words (ascii "version none\n")) (omega arith)
held-version-short (Some v) = version-short v.device_id v.version & words end_of_line

gains-short : (g : Gains) → Short (gains_text g) 24
gains-short g = words (ascii "gains") & fields-short _ (ascii "88") & words end_of_line

-- the table of commands may grow to 766 bytes
running-short : (op : Operation) (c : Command) → Short (running_text op c) 800
running-short op c =
    either (is_idle op.phase) (wider (words (ascii "running none\n")) (omega arith))
    (wider (words (ascii "running ") & word-short commands (2 * command_place c) & line-short (ascii " due") op.due (ascii "D")) (omega arith))

held-short : (s : State) → Short (state_text s) state_bytes
held-short s =
    motor-short _ _ _ _ & line-short (ascii "clock") s.clock (ascii "D")
    & line-short (ascii "responses") s.responses (ascii "D") & line-short (ascii "sequence") s.feedback.sequence (ascii "D")
    & feedback-short s.feedback.latest & fault-short s.fault_report & held-ping-short s.ping_reply & held-version-short s.operation.answer & gains-short s.gains & running-short s.operation s.command

reading-short : (e : Entry) → Short (reading_text e) reading_bytes
reading-short e = named-short (ascii "reading") e.id (ascii "4") & words space & value-short e.held.value & words end_of_line

readings-upto : (es : List Entry) (i : ℕ) → Short (readings_upto es i) (reading_bytes * i)
unfolding readings_upto
readings-upto es zero = none
readings-upto es (suc i) = wider (readings-upto es i & reading-short (get_or es i no_entry)) (omega arith)

readings-short : (l : Listing) → Short (readings_text l) (reading_bytes * most_readings)
readings-short l = wider (readings-upto l.entries (min l.count most_readings)) (omega arith)

seen-short : (s : Seen) → Short (seen_text s) look_bytes
seen-short s = held-short s.state & readings-short s.readings & words (ascii "end\n")

pub looked-fits : (l : Result Seen Refusal) → Short (looked_text l) look_bytes
unfolding looked_text
looked-fits (Ok s) = seen-short s
looked-fits (Err r) = wider (refused-short r) (omega arith)
