-- Marked for proof: document 01's starred examples and those of its table of numbers, as one table and one theorem, which antt computes.
-- The codec's rows stand in its own table, and are taken over. Assumes nothing.
use Rattle.std.specs.Prelude.{ℕ, ◌≡◌, refl, List, [], ◌∷◌, ◌++◌, map, ℤ, pos, Some, None, Result, Ok, Err, ⊤, Option}
use Rattle.motor.specs.declared.engine.reading.Stored.{Stored}
use Rattle.motor.specs.declared.feedback.MotorFeedbackState.{MotorFeedbackState}
use Rattle.codec.specs.declared.error.Refusal.{Refusal}
use Rattle.codec.specs.declared.error.Refusal.TheVariants as refusal
use Rattle.codec.specs.declared.model.Model.TheVariants.{Rs00}
use Rattle.codec.specs.declared.protocol.ParameterValue.{ParameterValue}
use Rattle.codec.specs.declared.protocol.ParameterValue.TheVariants as value
use Rattle.codec.specs.declared.registers.ControlMode.TheVariants as mode
use Rattle.codec.specs.Examples as codec
use Rattle.codec.specs.Ids.{build_ext_id}
use Rattle.codec.specs.Kinds.{among, listed_ids, int8_ids, uint8_ids, uint16_ids, uint32_ids, kind_of, parameter_info}
use Rattle.codec.specs.Models.{rs, same_bytes, named_among, model_named}
use Rattle.codec.specs.Modes.{control_mode_from_raw}
use Rattle.codec.specs.Refusals.{number_of, values_of}
use Rattle.codec.specs.Numbers.{said_in}
use Rattle.codec.specs.Replies.{zeros, decode_ping_reply, decode_version_reply}
use Rattle.motor.specs.declared.engine.command.Command.{Command}
use Rattle.motor.specs.declared.engine.command.Command.TheVariants as command
use Rattle.motor.specs.declared.engine.command.Outcome.TheVariants as outcome
use Rattle.motor.specs.declared.engine.command.Said.{Said}
use Rattle.motor.specs.declared.engine.command.Said.TheVariants as said
use Rattle.motor.specs.declared.engine.candidates.Candidates.{Candidates}
use Rattle.motor.specs.engine.Hosts.{host_candidates}
use Rattle.motor.specs.engine.Requests.{no_frame}
use Rattle.motor.specs.engine.Script.{is_mode}
use Rattle.motor.specs.Lone.{Lone, hears}
use Rattle.motor.specs.Readings.{run}
use Rattle.motor.specs.Receive.{accepts_frame, is_out_of_time, counted_at, ping_after, feedback_in, next_sequence, feedback_after, fault_after, told_by, is_read, read_status, read_id, read_stored, frame_said, state_after, readings_after}
use Rattle.motor.specs.Runs.{word, bytes, sending, received}
use Rattle.station.specs.declared.call.Answer.{Answer}
use Rattle.station.specs.declared.call.Answer.TheVariants as answer
use Rattle.station.specs.declared.call.Asked.{Asked}
use Rattle.station.specs.Calls.{register, start, step, frame, Reply, ok, no, says, refused}
use Rattle.station.specs.Station.{Place, empty, held, full, add, put, place, moves_to, hears_to, leaves, lone_by, route, admission, enter, admit, source_of, station_by, station_call}
use Rattle.station.specs.History.{after}
use Rattle.station.specs.Demand2.{reading}

-- ---- sessions

-- the answers to calls, each on the station that the last one returned
unfoldable pub answers : List Place → List Asked → List Reply
answers s [] = []
answers s (c ∷ cs) =
    let r = station_call s c in
    r.0 ∷ answers r.1 cs

-- a station with motor 1, rs-00, host FD, clock 100
unfoldable pub one : List Place
one = after empty (register 1 0xFD (Some Rs00) 0 100 ∷ [])

-- mode_state and device of the feedback that is held for a motor
unfoldable pub flags_in : Option MotorFeedbackState → List ℕ
flags_in None = []
flags_in (Some f) = f.mode_state ∷ f.device_id ∷ []

unfoldable pub flags : Option Lone → List ℕ
flags None = []
flags (Some h) = flags_in h.state.feedback.latest

-- a refusal: its number, then the values that it carries; nothing where a call isn't refused
abbrev pub with_values : Refusal → List ℤ
with_values r = pos (number_of r) ∷ values_of r

unfoldable pub refused_by : Result ⊤ Refusal → List ℤ
refused_by (Ok tt) = []
refused_by (Err r) = with_values r

unfoldable pub failed_by : Said → List ℤ
failed_by (said.Sent due) = []
failed_by (said.Waiting due) = []
failed_by (said.Finished r) = []
failed_by (said.FinishedWith r) = []
failed_by (said.Refused r) = with_values r

unfoldable pub refused_in : Answer → List ℤ
refused_in (answer.Told k) = refused_by k
refused_in (answer.Moved s) = failed_by s
refused_in (answer.Looked k) = refused_by k

-- ---- calls and frames of the rows

abbrev pub registered : ℕ → Asked
registered m = register m 0xFD (Some Rs00) 0 100

-- a call for motor 1 at time 100
abbrev pub call : Command → Asked
call c = start 1 c 100

-- a status frame of motor 1; and a motor's reply to a read of this parameter, with the value's four bytes
abbrev pub acknowledges : ℕ → Asked
acknowledges now = frame (received 0x028001FD zeros) now

abbrev pub replies : ℕ → ℕ → ℕ → ℕ → ℕ → ℕ → ℕ → ℕ → Asked
replies m low high a b c d now = frame (received (build_ext_id 17 m 0xFD) (bytes low high 0 0 a b c d)) now

-- run_mode as motor 1 gives it
abbrev pub mode-is : ℕ → ℕ → Asked
mode-is m now = replies 1 0x05 0x70 m 0 0 0 now

-- this value is held
abbrev pub is : ParameterValue → Option Stored
is v = Some (record { value = v })

-- ---- the table: what is answered to calls on a station, the refusal that answers the last of them, what is held after them for a
-- motor, what the codec refuses, the candidates

pub data Row : Type 0 where
  session : List Place → List Asked → List Reply → Row
  refuses-last : List Place → List Asked → Asked → List ℤ → Row
  holds : List Place → List Asked → ℕ → ℕ → Option Stored → Row
  status : List Place → List Asked → ℕ → List ℕ → Row
  decoder : Result ⊤ Refusal → List ℤ → Row
  hosts : ℕ → Candidates → Row

-- the row with what is really so
abbrev pub actual : Row → Row
actual (session s cs said) = session s cs (answers s cs)
actual (refuses-last s cs c n) = refuses-last s cs c (refused_in (station_call (after s cs) c).0.replied.answer)
actual (holds s cs m id v) = holds s cs m id (reading id (held (after s cs) m))
actual (status s cs m v) = status s cs m (flags (held (after s cs) m))
actual (decoder c n) = decoder c (refused_by c)
actual (hosts own v) = hosts own (host_candidates own)

abbrev pub RowsHold : List Row → Type 0
RowsHold rows = map actual rows ≡ rows

-- the starred ones, and the host candidates
abbrev pub marked : List Row
marked =
    -- Read of 7005: 0x1100FD01, 05 70 then zeros
    session one (call (command.RequestParameter 0x7005) ∷ [])
    (says (said.FinishedWith outcome.Done) (sending 0x1100FD01 (bytes 0x05 0x70 0 0 0 0 0 0)) zeros ∷ [])
    ∷ session one (call (command.GetParameter 0x7005 200) ∷ [])
    (says (said.Sent 300) (sending 0x1100FD01 (bytes 0x05 0x70 0 0 0 0 0 0)) zeros ∷ [])
    -- its reply 0x110001FD, 05 70 00 00 02 00 00 00, holds I8 2
    ∷ holds one (frame (received 0x110001FD (bytes 0x05 0x70 0 0 0x02 0 0 0)) 100 ∷ []) 1 0x7005 (is (value.I8 (pos 2)))
    -- ids 1 and 255 taken, 0 and 256 refused
    ∷ session empty (registered 1 ∷ registered 255 ∷ registered 0 ∷ registered 256 ∷ [])
    (ok ∷ ok ∷ no refusal.MotorIdOutOfRange ∷ no refusal.MotorIdOutOfRange ∷ [])
    -- frame 0x028001FD: mode_state 2, device 1
    ∷ status one (frame (received 0x028001FD zeros) 100 ∷ []) 1 (2 ∷ 1 ∷ [])
    -- own FD gives three; own FE gives FE, FD, FF, FE
    ∷ hosts 0xFD (record { hosts = 0xFD ∷ 0xFF ∷ 0xFE ∷ 0 ∷ []; count = 3 })
    ∷ hosts 0xFE (record { hosts = 0xFE ∷ 0xFD ∷ 0xFF ∷ 0xFE ∷ []; count = 4 })
    ∷ []

-- a reading of each id from 1 to 96, all unlisted
abbrev pub fills : List Asked
fills = map (λ id. replies 1 id 0 0 0 0 0 100) (run 96 1)

-- the numbers
abbrev pub numbers : List Row
numbers =
    refuses-last one [] (registered 0) (pos 1 ∷ [])
    ∷ refuses-last one [] (register 2 256 (Some Rs00) 0 100) (pos 2 ∷ [])
    ∷ refuses-last one [] (register 2 0xFD (model_named (rs (0x39 ∷ 0x39 ∷ []))) 0 100) (pos 3 ∷ [])
    ∷ refuses-last one (map registered (run 7 2)) (registered 9) (pos 4 ∷ [])
    ∷ refuses-last one [] (registered 1) (pos 5 ∷ [])
    ∷ refuses-last one [] (start 9 command.Enable 100) (pos 6 ∷ [])
    ∷ refuses-last one [] (step 1 99) (pos 7 ∷ [])
    ∷ refuses-last one (call command.Enable ∷ []) (call command.Enable) (pos 8 ∷ [])
    ∷ refuses-last one [] (call (command.Ping 60001)) (pos 9 ∷ [])
    ∷ refuses-last one [] (call (command.WriteParameter 0x200D (value.U8 0))) (pos 10 ∷ [])
    ∷ refuses-last one [] (call (command.WriteParameter 0x7005 (value.U8 2))) (pos 11 ∷ [])
    ∷ refuses-last one [] (call (command.SetProtocol 3 0)) (pos 12 ∷ [])
    ∷ refuses-last one [] (frame (received 0x020002FD zeros) 100) (pos 13 ∷ [])
    ∷ refuses-last one [] (frame (received 0x110101FD (bytes 0x05 0x70 0 0 0 0 0 0)) 100) (pos 14 ∷ pos 0x7005 ∷ pos 1 ∷ [])
    ∷ refuses-last one fills (replies 1 97 0 0 0 0 0 100) (pos 15 ∷ [])
    -- enable, silence: the windows of FD, FF and FE, 240 each
    ∷ refuses-last one (call command.Enable ∷ step 1 340 ∷ step 1 580 ∷ []) (step 1 820) (pos 16 ∷ [])
    ∷ refuses-last one (call (command.ControlledStop 200) ∷ mode-is 3 120 ∷ []) (step 1 120) (pos 17 ∷ [])
    -- ensure 2: off, and three times written and read as 0
    ∷ refuses-last one
    (call (command.EnsureControlMode mode.Velocity 200) ∷ mode-is 0 120 ∷ step 1 120 ∷ acknowledges 140 ∷ step 1 140
    ∷ step 1 200 ∷ step 1 230 ∷ mode-is 0 250 ∷ step 1 250
    ∷ step 1 280 ∷ step 1 310 ∷ mode-is 0 330 ∷ step 1 330
    ∷ step 1 360 ∷ step 1 390 ∷ mode-is 0 410 ∷ step 1 410 ∷ [])
    (step 1 440)
    (pos 18 ∷ pos 0 ∷ [])
    ∷ refuses-last one [] (call (command.SetDeviceId 0)) (pos 19 ∷ [])
    ∷ refuses-last one (call (command.GetParameterF32 0x7005 200) ∷ mode-is 2 120 ∷ []) (step 1 120) (pos 20 ∷ [])
    ∷ refuses-last one [] (step 1 100) (pos 21 ∷ [])
    ∷ decoder (said_in (decode_ping_reply 0x010001FD zeros)) (pos 22 ∷ [])
    ∷ decoder (said_in (decode_version_reply 0x020001FD (bytes 0x01 0 0 0 0 0 0 0))) (pos 23 ∷ [])
    ∷ []

-- ---- the incident: flaps 2 and 6 both read their angle, 7019, and the replies come in either order. Each has its own: 1.5 and −2.0

abbrev pub angle : ℕ → ParameterValue
angle bits = value.F32 (word bits)

abbrev pub both : List Asked
both = registered 2 ∷ registered 6 ∷ start 2 (command.GetParameter 0x7019 200) 100 ∷ start 6 (command.GetParameter 0x7019 200) 100 ∷ []

abbrev pub second : Asked
second = replies 2 0x19 0x70 0 0 0xC0 0x3F 120

abbrev pub sixth : Asked
sixth = replies 6 0x19 0x70 0 0 0 0xC0 120

abbrev pub gives : ℕ → Reply
gives bits = says (said.Finished (outcome.Value (angle bits))) no_frame zeros

abbrev pub flaps : List Row
flaps =
    session (after empty both) (second ∷ sixth ∷ step 2 120 ∷ step 6 120 ∷ []) (ok ∷ ok ∷ gives 0x3FC00000 ∷ gives 0xC0000000 ∷ [])
    ∷ session (after empty both) (sixth ∷ second ∷ step 2 120 ∷ step 6 120 ∷ []) (ok ∷ ok ∷ gives 0x3FC00000 ∷ gives 0xC0000000 ∷ [])
    ∷ holds empty (both ++ (second ∷ sixth ∷ [])) 2 0x7019 (is (angle 0x3FC00000))
    ∷ holds empty (both ++ (second ∷ sixth ∷ [])) 6 0x7019 (is (angle 0xC0000000))
    ∷ holds empty (both ++ (sixth ∷ second ∷ [])) 2 0x7019 (is (angle 0x3FC00000))
    ∷ holds empty (both ++ (sixth ∷ second ∷ [])) 6 0x7019 (is (angle 0xC0000000))
    ∷ []

-- ---- the theorem

abbrev pub Examples : Type 0
Examples = codec.RowsHold codec.examples × RowsHold marked × RowsHold numbers × RowsHold flaps

pub examples-hold : Examples
unfolding answers after one reading flags flags_in refused_in refused_by failed_by run same_bytes named_among station_by empty held full add put place moves_to hears_to leaves lone_by route admission enter admit source_of refused hears frame_said state_after readings_after accepts_frame is_out_of_time counted_at told_by ping_after feedback_in next_sequence feedback_after fault_after is_read read_status read_id read_stored among listed_ids int8_ids uint8_ids uint16_ids uint32_ids kind_of parameter_info control_mode_from_raw is_mode host_candidates
examples-hold = (codec.examples-hold, refl, refl, refl)
