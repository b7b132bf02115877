-- Receiving: what a frame does to what a motor holds, and what it answers. Definitions only.
use Rattle.std.specs.Prelude.{ℕ, ◌+◌, ◌-◌, ◌*◌, ◌/◌, ◌%◌, ◌^◌, min, Bool, true, false, cond, not, ◌&&◌, ◌||◌, List, [], ◌∷◌, ◌++◌, pos, ◌==◌, nat_lt, slice_index, Option, Some, Result, Ok, Err, ⊤}
use Rattle.std.specs.Result.{result_ok}
use Rattle.codec.specs.declared.faults.FaultReport.{FaultReport}
use Rattle.codec.specs.declared.bus.CanFrame.{CanFrame}
use Rattle.codec.specs.declared.error.Refusal.{Refusal}
use Rattle.codec.specs.declared.model.Model.{Model}
use Rattle.codec.specs.declared.protocol.IdParts.{IdParts}
use Rattle.codec.specs.declared.status.StatusFrame.{StatusFrame}
use Rattle.codec.specs.Refusals.{number_of}
use Rattle.codec.specs.Ids.{ext_id_parts}
use Rattle.codec.specs.Kinds.{among}
use Rattle.codec.specs.Models.{limits_of}
use Rattle.codec.specs.Status.{decode_status_frame}
use Rattle.codec.specs.Faults.{decode_fault_report}
use Rattle.codec.specs.Replies.{ping_reply_of, is_version_reply, decode_version_reply}
use Rattle.codec.specs.Values.{decode_read_parameter_value}
use Rattle.motor.specs.declared.engine.node.Wait.{Wait}
use Rattle.motor.specs.declared.engine.node.Wait.TheVariants as wait
use Rattle.codec.specs.declared.replies.PingReply.{PingReply}
use Rattle.codec.specs.declared.replies.VersionReply.{VersionReply}
use Rattle.motor.specs.declared.engine.operation.Operation.{Operation}
use Rattle.motor.specs.declared.engine.operation.Phase.{Phase}
use Rattle.motor.specs.declared.engine.operation.Phase.TheVariants as phase
use Rattle.motor.specs.declared.feedback.MotorFeedbackState.{MotorFeedbackState}
use Rattle.motor.specs.declared.feedback.FeedbackCache.{FeedbackCache}
use Rattle.motor.specs.declared.motor.State.{State}
use Rattle.motor.specs.declared.motor.Motor.{Motor}
use Rattle.motor.specs.declared.engine.reading.Stored.{Stored}
use Rattle.motor.specs.declared.readings.Readings.{Readings}
use Rattle.motor.specs.declared.receive.Arrival.{Arrival}
use Rattle.motor.specs.declared.receive.Heard.{Heard}
use Rattle.motor.specs.declared.quiet.StateHeard.{StateHeard}
use Rattle.motor.specs.Limits.{latest_time}
use Rattle.motor.specs.Numbers.{plain, numbered, first_of, first_number}
use Rattle.motor.specs.Readings.{put_of}

-- ---- a frame's id, split

abbrev pub parts_of : CanFrame → IdParts
parts_of f = ext_id_parts f.arbitration_id

abbrev pub frame_type : CanFrame → ℕ
frame_type f = (parts_of f).comm_type

abbrev pub frame_extra : CanFrame → ℕ
frame_extra f = (parts_of f).extra_data

-- accepted: extended, type 0, 2, 17, 21, 24 or 25, low byte of the extra field equal to the motor's id
abbrev pub accepts_parts : ℕ → Bool → IdParts → Bool
accepts_parts id extended p = extended && (among p.comm_type (0 ∷ 2 ∷ 17 ∷ 21 ∷ 24 ∷ 25 ∷ []) && p.extra_data % 256 == id)

unfoldable pub accepts_frame : ℕ → CanFrame → Bool
accepts_frame id f = accepts_parts id f.is_extended (parts_of f)

-- 7: time below the motor's clock, or above 10^15
unfoldable pub is_out_of_time : ℕ → ℕ → Bool
is_out_of_time clock now = nat_lt now clock || nat_lt latest_time now

abbrev pub in_time : ℕ → ℕ → Result ⊤ Refusal
in_time clock now = first_number ((is_out_of_time clock now, 7) ∷ [])

-- ---- what frames change of the state: the rest of it stays

abbrev pub state_with : State → ℕ → ℕ → FeedbackCache → Option FaultReport → Option PingReply → Operation → State
state_with s clock responses feedback fault ping operation =
    record {
      motor_id = s.motor_id;
      feedback_id = s.feedback_id;
      model = s.model;
      write_wait = s.write_wait;
      clock = clock;
      responses = responses;
      feedback = feedback;
      gains = s.gains;
      fault_report = fault;
      ping_reply = ping;
      operation = operation;
      command = s.command;
    }

-- the clock takes the frame's time; response count +1 (wraps in 64 bits)
unfoldable pub counted_at : State → ℕ → State
counted_at s now = state_with s now ((s.responses + 1) % 2 ^ 64) s.feedback s.fault_report s.ping_reply s.operation

-- 0: hold the ping reply
unfoldable pub ping_after : Option PingReply → IdParts → List ℕ → Option PingReply
ping_after old p payload = cond (p.comm_type == 0) (Some (ping_reply_of p payload)) old

-- a status frame's state, with the whole id
abbrev pub state_in : ℕ → StatusFrame → MotorFeedbackState
state_in id status =
    record {
      arbitration_id = id;
      device_id = status.flags.device_id;
      mode_state = status.flags.mode_state;
      position = status.position;
      velocity = status.velocity;
      torque = status.torque;
      temperature_c = status.temperature_c;
      uncalibrated = status.flags.uncalibrated;
      stall = status.flags.stall;
      magnetic_encoder_fault = status.flags.magnetic_encoder_fault;
      overtemperature = status.flags.overtemperature;
      overcurrent = status.flags.overcurrent;
      undervoltage = status.flags.undervoltage;
    }

unfoldable pub feedback_in : Model → IdParts → CanFrame → MotorFeedbackState
feedback_in model p f = state_in f.arbitration_id (decode_status_frame p.extra_data f.data (limits_of model))

-- sequence +1 (stays at its maximum)
unfoldable pub next_sequence : ℕ → ℕ
next_sequence n = min (n + 1) (2 ^ 64 - 1)

abbrev pub update : FeedbackCache → MotorFeedbackState → FeedbackCache
update old state = record { latest = Some state; sequence = next_sequence old.sequence }

-- 2 and 24: new feedback
unfoldable pub feedback_after : FeedbackCache → Model → IdParts → CanFrame → FeedbackCache
feedback_after old model p f = cond (p.comm_type == 2 || p.comm_type == 24) (update old (feedback_in model p f)) old

-- 21: hold the fault report
unfoldable pub fault_after : Option FaultReport → IdParts → List ℕ → Option FaultReport
fault_after old p payload = cond (p.comm_type == 21) (Some (decode_fault_report payload)) old

-- what types 0, 2, 24 and 21 tell; 25 and 17 nothing here
unfoldable pub told_by : State → IdParts → CanFrame → State
told_by s p f =
    state_with s s.clock s.responses (feedback_after s.feedback s.model p f) (fault_after s.fault_report p f.data) (ping_after s.ping_reply p f.data) s.operation

-- ---- while get_version waits (document 02, T-01)

abbrev pub is_version_wait : Wait → Bool
is_version_wait (wait.Acknowledged by r k) = false
is_version_wait (wait.Value id k) = false
is_version_wait (wait.Ping k) = false
is_version_wait wait.Version = true

-- from its start until a step ends it
abbrev pub awaits_version : Phase → Bool
awaits_version phase.Idle = false
awaits_version (phase.Pausing k) = false
awaits_version (phase.Waiting w) = is_version_wait w

-- an accepted frame for which is_version_reply holds becomes its answer
abbrev pub is_answer : Phase → CanFrame → Bool
is_answer p f = is_version_reply f.arbitration_id f.data && awaits_version p

-- that frame's version as the codec decodes it
unfoldable pub version_in : CanFrame → Option VersionReply
version_in f = result_ok (decode_version_reply f.arbitration_id f.data)

-- in place of an earlier one
abbrev pub with_answer : Operation → Option VersionReply → Operation
with_answer op answer =
    record {
      phase = op.phase;
      due = op.due;
      window = op.window;
      hosts = op.hosts;
      host = op.host;
      candidate = op.candidate;
      mark = op.mark;
      answer = answer;
    }

-- no feedback: nothing but the answer changes
unfoldable pub answer_taken : State → CanFrame → State
answer_taken s f = state_with s s.clock s.responses s.feedback s.fault_report s.ping_reply (with_answer s.operation (version_in f))

-- other frames go by the old rule, and outside that wait so do version replies
abbrev pub taken_by : State → IdParts → CanFrame → State
taken_by s p f = cond (is_answer s.operation.phase f) (answer_taken s f) (told_by s p f)

-- ---- 17: status is the extra field's high byte; zero holds the value

unfoldable pub is_read : CanFrame → Bool
is_read f = frame_type f == 17

abbrev pub status_in : IdParts → ℕ
status_in p = p.extra_data / 256

unfoldable pub read_status : CanFrame → ℕ
read_status f = status_in (parts_of f)

-- bytes 0 and 1, the lower first
unfoldable pub read_id : CanFrame → ℕ
read_id f = slice_index f.data 0 + slice_index f.data 1 * 256

unfoldable pub read_stored : CanFrame → Stored
read_stored f = record { value = decode_read_parameter_value (read_id f) f.data }

-- the motor's id that a frame carries, whether a motor of that id accepts it, and whether it is a read reply
unfoldable pub arrival_of : CanFrame → Arrival
arrival_of f = record { source = frame_extra f % 256; accepted = accepts_frame (frame_extra f % 256) f; read = is_read f }

-- ---- Frame: 13, 7, 14, 15. `full` where there is no room for the value

abbrev pub frame_tests : Bool → Bool → List (Bool × ℕ)
frame_tests accepted outOfTime = (not accepted, 13) ∷ (outOfTime, 7) ∷ []

-- 14 carries the parameter's id and the status
abbrev pub frame_numbers : State → CanFrame → ℕ → Bool → List (Bool × Refusal)
frame_numbers s f now full =
    numbered (pos (read_id f) ∷ pos (read_status f) ∷ [])
    (frame_tests (accepts_frame s.motor_id f) (is_out_of_time s.clock now)
    ++ ((is_read f && not (read_status f == 0), 14) ∷ (is_read f && full, 15) ∷ []))

unfoldable pub frame_said : State → CanFrame → ℕ → Bool → Result ⊤ Refusal
frame_said s f now full = first_of (frame_numbers s f now full)

-- refused other than by 14 or 15, nothing changes; 14 and 15 raise the count and leave what is held
unfoldable pub state_after : Result ⊤ Refusal → State → CanFrame → ℕ → State
state_after (Ok tt) s f now = taken_by (counted_at s now) (parts_of f) f
state_after (Err r) s f now = cond (among (number_of r) (14 ∷ 15 ∷ [])) (counted_at s now) s

-- the new readings where a value was put
unfoldable pub readings_after : {A : Type 0} → Result ⊤ Refusal → CanFrame → A → A → A
readings_after (Ok tt) f new old = cond (is_read f) new old
readings_after (Err r) f new old = old

abbrev pub is_full : Result ⊤ Refusal → Bool
is_full (Ok tt) = false
is_full (Err r) = true

abbrev pub heard_with : State → Readings → Result ⊤ Refusal → Heard
heard_with state readings said = record { motor = record { state = state; readings = readings }; said = said }

-- the motor's answer, on any value
unfoldable pub process_feedback_frame : Motor → CanFrame → ℕ → Heard
process_feedback_frame m f now =
    let put = put_of m.readings (read_id f) (read_stored f) in
    let said = frame_said m.state f now (is_full put.said) in
    heard_with (state_after said m.state f now) (readings_after said f put.readings m.readings) said

-- ---- the same of a frame whose id is split: 13 and 7

unfoldable pub frame_admitted : ℕ → ℕ → Bool → IdParts → ℕ → Result ⊤ Refusal
frame_admitted id clock extended p now = first_number (frame_tests (accepts_parts id extended p) (is_out_of_time clock now))

-- ---- the state alone: a read reply isn't taken, of any other frame there is nothing to be put

-- extended, and no read reply
unfoldable pub is_quiet : Bool → IdParts → Bool
is_quiet extended p = extended && not (p.comm_type == 17)

abbrev pub state_heard : State → Result ⊤ Refusal → StateHeard
state_heard state said = record { state = state; said = said }

abbrev pub state_heard_by : Result ⊤ Refusal → State → CanFrame → ℕ → StateHeard
state_heard_by said s f now = state_heard (state_after said s f now) said

unfoldable pub hear_state : State → CanFrame → ℕ → StateHeard
hear_state s f now = cond (is_read f) (state_heard s (Err (plain 13))) (state_heard_by (frame_said s f now false) s f now)
