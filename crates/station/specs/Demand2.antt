-- Demand 2: the functions' own contracts promise document 01's definitions, and ask nothing of a caller; a value accepted for writing and echoed is held; what is held
-- came in a reply, has the table's kind, and writes out the bytes that its kind uses. `Carries`, `Sent`, `WrittenOut` and `held_kind`
-- are the motor's. Definitions only.
use Rattle.std.specs.Prelude.{ℕ, ◌<◌, ◌≡◌, Bool, true, false, List, [], ◌∷◌, ◌⊎◌, get_or, Some, None, Result, Ok, Err, ⊤, Option}
use Rattle.motor.specs.declared.engine.reading.Stored.{Stored}
use Rattle.codec.specs.declared.error.Refusal.{Refusal}
use Rattle.codec.specs.declared.bus.CanFrame.{CanFrame}
use Rattle.codec.specs.declared.protocol.ParameterValue.{ParameterValue}
use Rattle.codec.specs.declared.registers.ParameterDataType.{ParameterDataType}
use Rattle.codec.specs.Kinds.{parameter_info}
use Rattle.codec.specs.Values.{kind_in, encode_parameter_value, encode_parameter_write, InRange}
use Rattle.motor.specs.declared.engine.command.Command.{Command}
use Rattle.motor.specs.declared.engine.command.Command.TheVariants as command
use Rattle.motor.specs.declared.engine.command.Said.{Said}
use Rattle.motor.specs.declared.engine.command.Said.TheVariants as said
use Rattle.motor.specs.declared.readings.Entry.{Entry}
use Rattle.motor.specs.Calls.{sight_of}
use Rattle.motor.specs.Lone.{Lone}
use Rattle.motor.specs.Readings.{entry, lookup}
use Rattle.motor.specs.Receive.{accepts_frame, is_read, read_status, read_id, read_stored}
use Rattle.motor.specs.Echo.{held_kind, Carries, WrittenOut}
use Rattle.motor.specs.Writes.{Sent}
use Rattle.station.specs.declared.call.Answer.{Answer}
use Rattle.station.specs.declared.call.Answer.TheVariants as answer
use Rattle.station.specs.declared.call.Asked.{Asked}
use Rattle.station.specs.Calls.{start, step, frame, Reply, ok}
use Rattle.station.specs.Station.{Place, empty, held, source_of, station_call}
use Rattle.station.specs.History.{Told, after}
use Rattle.station.specs.Definitions.{Ids, Parameters, MotionValues, StatusValues, ReceiveRules, Operations, CodecAsks, MotorAsks, ThinRules}

-- ---- echo

-- an answer that isn't a refusal, and the frame that comes with it
abbrev pub passes : Result ⊤ Refusal → Bool
passes (Ok tt) = true
passes (Err r) = false

abbrev pub goes_on : Said → Bool
goes_on (said.Sent due) = true
goes_on (said.Waiting due) = true
goes_on (said.Finished r) = true
goes_on (said.FinishedWith r) = true
goes_on (said.Refused r) = false

abbrev pub unrefused_in : Answer → Bool
unrefused_in (answer.Told k) = passes k
unrefused_in (answer.Moved s) = goes_on s
unrefused_in (answer.Looked k) = passes k

abbrev pub unrefused : Reply → Bool
unrefused r = unrefused_in r.replied.answer

abbrev pub sent_in : Reply → CanFrame
sent_in r = r.replied.frame

-- the reading of a parameter that is held for a motor
unfoldable pub reading : ℕ → Option Lone → Option Stored
reading id None = None
reading id (Some h) = lookup id h.readings

-- A value that its case can hold and that the encoder takes, whoever writes it, and any frame, to any station, that is a read reply, carries
-- the id and the four bytes as a write of it does, and isn't refused (so its status is zero, not 14): it is held with its kind and bits.
abbrev pub Echo : Type 0
Echo =
    (id raw : ℕ) (v : ParameterValue) → InRange v → encode_parameter_value id v ≡ Ok raw
    → (t : List Place) (f : CanFrame) (later : ℕ) → is_read f ≡ true → Carries f.data (encode_parameter_write id raw)
    → (station_call t (frame f later)).0 ≡ ok
    → reading id (held (station_call t (frame f later)).1 (source_of f)) ≡ Some (record { value = v })

-- So of a call write_parameter that isn't refused: the reply carries id and bytes as its frame did.
abbrev pub EchoOfCall : Type 0
EchoOfCall =
    (s : List Place) (m id : ℕ) (v : ParameterValue) (time : ℕ) → InRange v
    → let a = (station_call s (start m (command.WriteParameter id v) time)).0 in
    unrefused a ≡ true
    → (t : List Place) (f : CanFrame) (later : ℕ) → is_read f ≡ true → Carries f.data (sent_in a).data
    → (station_call t (frame f later)).0 ≡ ok
    → reading id (held (station_call t (frame f later)).1 (source_of f)) ≡ Some (record { value = v })

-- After any list of calls from a fresh station, for any motor: the frame of a start or a step is none, a request, a motion command or that
-- of another id, and a write among them, in whatever operation, is of a value that the encoder takes, as `Echo` asks.
abbrev pub Writes : Type 0
Writes =
    (cs : List Asked) (m : ℕ) (h : Lone) → held (after empty cs) m ≡ Some h
    → ((c : Command) (time : ℕ) → Sent (sight_of h.state) (sent_in (station_call (after empty cs) (start m c time)).0))
    × ((time : ℕ) → Sent (sight_of h.state) (sent_in (station_call (after empty cs) (step m time)).0))

-- ---- what is held

abbrev pub In : {A : Type 0} → A → List A → Type 0
In x [] = ⊥
In x (y ∷ ys) = (x ≡ y) ⊎ In x ys

-- calls from the station s on, each with its answer
unfoldable pub telling : List Place → List Asked → List Told
telling s [] = []
telling s (c ∷ cs) = (c, (station_call s c).0) ∷ telling (station_call s c).1 cs

-- a reading of m came in a frame of these calls: a read reply that m accepts, with status zero, and not refused
pub record Came (m : ℕ) (told : List Told) (e : Entry) : Type 0 where
  pub reply : CanFrame
  pub time : ℕ
  pub handed-in : In (frame reply time, ok) told
  pub accepted : accepts_frame m reply ≡ true
  pub read : is_read reply ≡ true
  pub zero-status : read_status reply ≡ 0
  pub same : entry (read_id reply) (read_stored reply) ≡ e

-- its kind is the table's (UInt32 for an unlisted id); of a listed parameter it is encoded, and its write carries the first bytes of the
-- payload it came from, as many as its kind uses, then zeros
pub record HeldReading (m : ℕ) (told : List Told) (e : Entry) : Type 0 where
  pub came : Came m told e
  pub kind : kind_in e.held.value ≡ held_kind e.id
  pub written_out : (k : ParameterDataType) → parameter_info e.id ≡ Some k → ((i : ℕ) → get_or came.reply.data i 0 < 256)
      → WrittenOut e.id e.held.value k came.reply.data

-- after any list of calls from a fresh station, for any motor, every reading
abbrev pub Readings : Type 0
Readings =
    (cs : List Asked) (m : ℕ) (h : Lone) → held (after empty cs) m ≡ Some h → (e : Entry) → In e h.readings → HeldReading m (telling empty cs) e

-- ---- demand 2

pub record Demand2 : Type 2 where
  pub ids : Ids
  pub parameters : Parameters
  pub motion-values : MotionValues
  pub status-values : StatusValues
  pub receive-rules : ReceiveRules
  pub operations : Operations
  pub thin-rules : ThinRules
  pub codec-asks : CodecAsks
  pub motor-asks : MotorAsks
  pub echo : Echo
  pub echo-of-call : EchoOfCall
  pub writes : Writes
  pub readings : Readings
