-- Whole runs of the lone motor, as examples: inputs with their times, and what is to be answered. Definitions only; the examples
-- stand in RunsOf files, as tables that antt computes. Their frames and times were worked out from motor.rs, or from document 02.
use Rattle.std.specs.Prelude.{◌≡◌, ℕ, true, false, List, [], ◌∷◌, map, Option, Result, Ok, ⊤}
use Rattle.codec.specs.declared.faults.FaultReport.{FaultReport}
use Rattle.codec.specs.declared.bus.CanFrame.{CanFrame}
use Rattle.codec.specs.declared.error.Refusal.{Refusal}
use Rattle.codec.specs.declared.model.Model.{Model}
use Rattle.codec.specs.declared.protocol.ParameterValue.{ParameterValue}
use Rattle.codec.specs.declared.word.Word.{Word}
use Rattle.codec.specs.Replies.{zeros}
use Rattle.motor.specs.declared.engine.command.Command.{Command}
use Rattle.motor.specs.declared.engine.command.Outcome.{Outcome}
use Rattle.motor.specs.declared.engine.command.Said.{Said}
use Rattle.motor.specs.declared.engine.command.Said.TheVariants as said
use Rattle.motor.specs.declared.engine.operation.Gains.{Gains}
use Rattle.codec.specs.declared.replies.VersionReply.{VersionReply}
use Rattle.motor.specs.declared.readings.Entry.{Entry}
use Rattle.motor.specs.Lone.{Lone, LoneAnswered, lone_new, lone_start, lone_step, hears}
use Rattle.motor.specs.engine.Requests.{no_frame}

-- a word, eight bytes, a reading
abbrev pub word : ℕ → Word
word bits = record { bits = bits }

abbrev pub bytes : ℕ → ℕ → ℕ → ℕ → ℕ → ℕ → ℕ → ℕ → List ℕ
bytes a b c d e f g h = a ∷ b ∷ c ∷ d ∷ e ∷ f ∷ g ∷ h ∷ []

abbrev pub held : ℕ → ParameterValue → Entry
held id v = record { id = id; held = record { value = v } }

-- ---- inputs

-- a start, a step, or an extended frame of this id and payload; the time is last
pub data Input : Type 0 where
  start : Command → ℕ → Input
  step : ℕ → Input
  frame : ℕ → List ℕ → ℕ → Input

-- motor 1, newly registered at time 100
abbrev pub fresh : ℕ → Model → ℕ → Lone
fresh own model wait = lone_new 1 own model wait 100

-- a frame as it comes
abbrev pub received : ℕ → List ℕ → CanFrame
received id payload = record { arbitration_id = id; «data» = payload; dlc = 8; is_extended = true; is_rx = true }

-- a status frame of motor 1
abbrev pub status : ℕ → Input
status now = frame 0x028001FD zeros now

-- motor 1's reply to a read, with these eight bytes
abbrev pub reply : List ℕ → ℕ → Input
reply payload now = frame 0x110001FD payload now

-- ---- answers

-- to a start or a step: what is said, the frame, the result's bytes; to a frame: accepted, or a number
pub data Output : Type 0 where
  answered : Said → CanFrame → List ℕ → Output
  heard : Result ⊤ Refusal → Output

-- a frame as it is sent
abbrev pub sending : ℕ → List ℕ → CanFrame
sending id payload = record { arbitration_id = id; «data» = payload; dlc = 8; is_extended = true; is_rx = false }

abbrev pub sent : ℕ → ℕ → List ℕ → Output
sent due id payload = answered (said.Sent due) (sending id payload) zeros

abbrev pub waiting : ℕ → Output
waiting due = answered (said.Waiting due) no_frame zeros

abbrev pub finished : Outcome → Output
finished r = answered (said.Finished r) no_frame zeros

abbrev pub finished_with : Outcome → ℕ → List ℕ → Output
finished_with r id payload = answered (said.FinishedWith r) (sending id payload) zeros

abbrev pub refused : Refusal → Output
refused r = answered (said.Refused r) no_frame zeros

abbrev pub passed : Output
passed = heard (Ok tt)

-- ---- a run

abbrev pub answer_of : LoneAnswered → Output
answer_of a = answered a.said a.frame a.result

-- the answers to inputs, in order
unfoldable pub runs : Lone → List Input → List Output
runs l [] = []
runs l (start c now ∷ inputs) =
    let a = lone_start l c now in
    answer_of a ∷ runs a.lone inputs
runs l (step now ∷ inputs) =
    let a = lone_step l now in
    answer_of a ∷ runs a.lone inputs
runs l (frame id payload now ∷ inputs) =
    let h = hears l (received id payload) now in
    heard h.said ∷ runs h.lone inputs

-- the lone motor after inputs
unfoldable pub after_inputs : Lone → List Input → Lone
after_inputs l [] = l
after_inputs l (start c now ∷ inputs) = after_inputs (lone_start l c now).lone inputs
after_inputs l (step now ∷ inputs) = after_inputs (lone_step l now).lone inputs
after_inputs l (frame id payload now ∷ inputs) = after_inputs (hears l (received id payload) now).lone inputs

-- ---- a table: a run with its answers, or what is held then, and what it is to be

pub data Row : Type 0 where
  run : Lone → List Input → List Output → Row
  number : ℕ → ℕ → Row
  gains : Gains → Gains → Row
  fault : Option FaultReport → Option FaultReport → Row
  readings : List Entry → List Entry → Row
  removal : Result ⊤ Refusal → Result ⊤ Refusal → Row
  version : Option VersionReply → Option VersionReply → Row

-- the row with what is really so
abbrev pub actual : Row → Row
actual (run l inputs answers) = run l inputs (runs l inputs)
actual (number a b) = number a a
actual (gains a b) = gains a a
actual (fault a b) = fault a a
actual (readings a b) = readings a a
actual (removal a b) = removal a a
actual (version a b) = version a a

abbrev pub RowsHold : List Row → Type 0
RowsHold rows = map actual rows ≡ rows
