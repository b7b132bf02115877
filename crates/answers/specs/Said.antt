-- What is said to an event other than a look. Definitions only.
use Rattle.std.specs.Prelude.{ℕ, ◌/◌, ◌%◌, List, [], ◌∷◌, ◌++◌, get_or, Option, Some, None, Result, Ok, Err, ⊤, ℤ}
use Rattle.codec.specs.declared.bus.CanFrame.{CanFrame}
use Rattle.codec.specs.declared.error.Refusal.{Refusal}
use Rattle.codec.specs.Refusals.{Carried, nothing, status_of, last_read, row_of, number_of}
use Rattle.motor.specs.declared.engine.command.Outcome.{Outcome}
use Rattle.motor.specs.declared.engine.command.Outcome.TheVariants as outcome
use Rattle.motor.specs.declared.engine.command.Said.{Said}
use Rattle.motor.specs.declared.engine.command.Said.TheVariants as said
use Rattle.text.specs.Ascii.{ascii}
use Rattle.text.specs.Fields.{fields_text}
use Rattle.text.specs.Put.{digits_text, decimal_text}
use Rattle.answers.specs.Values.{numbers_text, named_text, line_text, end_of_line, space, value_text, signed_text, four_of, payload_number}
use Rattle.answers.specs.Names.{mode_text}

abbrev pub ok_text : List ℕ
ok_text = ascii "ok\n"

-- the last value read after a mode write, or none
abbrev pub last_text : Option ℤ → List ℕ
last_text None = ascii " none"
last_text (Some v) = space ++ signed_text v

abbrev pub read_failed_text : ℕ → ℕ → List ℕ
read_failed_text id status = fields_text (id ∷ status ∷ 0 ∷ 0 ∷ 0 ∷ 0 ∷ 0 ∷ 0 ∷ []) (ascii "42")

-- what 14 and 18 carry
abbrev pub values_text : Carried → List ℕ
values_text nothing = []
values_text (status_of id status) = read_failed_text id status
values_text (last_read last) = last_text last

abbrev pub carried_text : Refusal → List ℕ
carried_text r = values_text (row_of r).1

-- refused N
abbrev pub refused_text : Refusal → List ℕ
refused_text r = named_text (ascii "refused") (number_of r) (ascii "D") ++ carried_text r ++ end_of_line

-- of a registration, a frame or a removal
unfoldable pub told_text : Result ⊤ Refusal → List ℕ
told_text (Ok tt) = ok_text
told_text (Err r) = refused_text r

-- (SECONDS.MICROS) can0, and a space
abbrev pub stamp_text : ℕ → List ℕ
stamp_text time = ascii "(" ++ decimal_text (time / 1000) ++ ascii "." ++ digits_text 10 3 (time % 1000) ++ ascii "000) can0 "

-- (SECONDS.MICROS) can0 ID#DATA
abbrev pub frame_line : CanFrame → ℕ → List ℕ
frame_line f time = stamp_text time ++ digits_text 16 8 f.arbitration_id ++ ascii "#" ++ digits_text 16 16 (payload_number f.data)

abbrev pub frame_text : CanFrame → ℕ → List ℕ
frame_text f time = frame_line f time ++ end_of_line

-- ping DEVICE RESPONDER PAYLOAD
abbrev pub ping_text : ℕ → ℕ → List ℕ → List ℕ
ping_text device responder payload = ascii "ping" ++ fields_text (device ∷ responder ∷ payload_number payload ∷ 0 ∷ 0 ∷ 0 ∷ 0 ∷ 0 ∷ []) (ascii "22P")

-- version DEVICE BYTES: the first four bytes in order
abbrev pub version_text : ℕ → List ℕ → List ℕ
version_text device v = ascii "version" ++ numbers_text device (four_of (get_or v 0 0) (get_or v 1 0) (get_or v 2 0) (get_or v 3 0)) (ascii "28")

abbrev pub outcome_text : Outcome → List ℕ → List ℕ
outcome_text outcome.Done result = ascii "none"
outcome_text (outcome.Ping device responder) result = ping_text device responder result
outcome_text (outcome.Mode m) result = ascii "mode " ++ mode_text m
outcome_text (outcome.Value v) result = ascii "value " ++ value_text v
outcome_text (outcome.Flag flag) result = named_text (ascii "flag") flag (ascii "2")
outcome_text (outcome.F32 w) result = named_text (ascii "f32") w.bits (ascii "8")
outcome_text (outcome.I8 v) result = ascii "i8 " ++ signed_text v
outcome_text (outcome.Version device) result = version_text device result

-- finished RESULT
abbrev pub finished_text : Outcome → List ℕ → List ℕ
finished_text o result = ascii "finished " ++ outcome_text o result ++ end_of_line

-- the frame, where one is sent
unfoldable pub sent_text : Said → CanFrame → ℕ → List ℕ
sent_text (said.Sent due) f time = frame_text f time
sent_text (said.Waiting due) f time = []
sent_text (said.Finished r) f time = []
sent_text (said.FinishedWith r) f time = frame_text f time
sent_text (said.Refused r) f time = []

abbrev pub last_line : Said → List ℕ → List ℕ
last_line (said.Sent due) result = line_text (ascii "sent due") due (ascii "D")
last_line (said.Waiting due) result = line_text (ascii "waiting due") due (ascii "D")
last_line (said.Finished r) result = finished_text r result
last_line (said.FinishedWith r) result = finished_text r result
last_line (said.Refused r) result = refused_text r

-- of a start or a step at this time
unfoldable pub said_text : Said → CanFrame → List ℕ → ℕ → List ℕ
said_text s f result time = sent_text s f time ++ last_line s result
