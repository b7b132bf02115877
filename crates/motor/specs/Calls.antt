-- Admission, start, step and removal: their numbers in the paper's order, and what a move changes of what is held. Definitions
-- only.
use Rattle.std.specs.Prelude.{ℕ, Bool, true, false, not, ◌||◌, List, [], ◌∷◌, ◌++◌, ◌==◌, nat_lt, Option, Some, None, Result, Ok, Err, ⊤}
use Rattle.motor.specs.declared.engine.reading.Stored.{Stored}
use Rattle.codec.specs.declared.faults.FaultReport.{FaultReport}
use Rattle.codec.specs.declared.error.Refusal.{Refusal}
use Rattle.codec.specs.declared.model.Model.{Model}
use Rattle.codec.specs.Replies.{validate_protocol_cmd}
use Rattle.codec.specs.Values.{encode_parameter_value}
use Rattle.motor.specs.declared.engine.command.Command.{Command}
use Rattle.motor.specs.declared.engine.command.Command.TheVariants as command
use Rattle.motor.specs.declared.engine.operation.Effect.{Effect}
use Rattle.motor.specs.declared.engine.operation.Effect.TheVariants as effect
use Rattle.motor.specs.declared.engine.operation.Gains.{Gains}
use Rattle.codec.specs.declared.replies.PingReply.{PingReply}
use Rattle.motor.specs.declared.engine.operation.Operation.{Operation}
use Rattle.motor.specs.declared.engine.operation.Phase.{Phase}
use Rattle.motor.specs.declared.engine.operation.Phase.TheVariants as phase
use Rattle.motor.specs.declared.engine.operation.Sight.{Sight}
use Rattle.motor.specs.declared.motor.State.{State}
use Rattle.motor.specs.declared.engine.node.Wait.{Wait}
use Rattle.motor.specs.declared.engine.node.Wait.TheVariants as wait
use Rattle.motor.specs.Commands.{Argument, no_argument, named_host, new_device_id, new_protocol, written_value, command_row}
use Rattle.motor.specs.Limits.{longest_timeout, latest_time}
use Rattle.motor.specs.Numbers.{plain, numbered, first_of, first_number}
use Rattle.motor.specs.Receive.{is_out_of_time}
use Rattle.motor.specs.engine.Run.{no_operation}

-- ---- registration: 1, 2, 3, 9, 7

abbrev pub is_unknown : Option Model → Bool
is_unknown (Some m) = false
is_unknown None = true

-- motor id not 1..255; host id above 255
abbrev pub id_numbers : ℕ → ℕ → List (Bool × Refusal)
id_numbers id host = numbered [] ((id == 0 || nat_lt 255 id, 1) ∷ (nat_lt 255 host, 2) ∷ [])

-- wait above 60,000; time above 10^15
abbrev pub last_numbers : ℕ → ℕ → List (Bool × Refusal)
last_numbers wait now = numbered [] ((nat_lt longest_timeout wait, 9) ∷ (nat_lt latest_time now, 7) ∷ [])

-- model unknown, before those
abbrev pub model_numbers : Option Model → ℕ → ℕ → List (Bool × Refusal)
model_numbers model wait now = numbered [] ((is_unknown model, 3) ∷ []) ++ last_numbers wait now

abbrev pub register_numbers : ℕ → ℕ → Option Model → ℕ → ℕ → List (Bool × Refusal)
register_numbers id host model wait now = id_numbers id host ++ model_numbers model wait now

-- the model, where the tests have passed
abbrev pub admitted : Option Model → Result Model Refusal
admitted (Some m) = Ok m
admitted None = Err (plain 3)

abbrev pub registered_by : Result ⊤ Refusal → Option Model → Result Model Refusal
registered_by (Ok tt) model = admitted model
registered_by (Err r) model = Err r

abbrev pub registration_of : ℕ → ℕ → Option Model → ℕ → ℕ → Result Model Refusal
registration_of id host model wait now = registered_by (first_of (register_numbers id host model wait now)) model

-- ---- start: 7, 8, 9, then 2, 19, 12, 10, 11. Step: 7, 21. Remove: 7, 8

abbrev pub is_idle : Phase → Bool
is_idle phase.Idle = true
is_idle (phase.Pausing k) = false
is_idle (phase.Waiting w) = false

-- the timeout that a call gives, 0 where it gives none
abbrev pub timeout_of : Command → ℕ
timeout_of c = (command_row c).timeout

-- 10 and 11: what the encoder says of a value
abbrev pub encodes : Result ℕ Refusal → Result ⊤ Refusal
encodes (Ok raw) = Ok tt
encodes (Err r) = Err r

-- 2: a named host above 255
abbrev pub host_checked : ℕ → Result ⊤ Refusal
host_checked host = first_number ((nat_lt 255 host, 2) ∷ [])

-- 19: the new device id is 0
abbrev pub new_id_checked : ℕ → Result ⊤ Refusal
new_id_checked new = first_number (((new == 0), 19) ∷ [])

-- what an argument is refused by
abbrev pub tested : Argument → Result ⊤ Refusal
tested no_argument = Ok tt
tested (named_host id) = host_checked id
tested (new_device_id id) = new_id_checked id
tested (new_protocol n) = validate_protocol_cmd n
tested (written_value id v) = encodes (encode_parameter_value id v)

-- 2, 19, 12, 10, 11: no call has more than one argument that is tested
abbrev pub argued_of : Command → Result ⊤ Refusal
argued_of c = tested (command_row c).argument

-- the first that applies, else what comes after
abbrev pub or_else : Result ⊤ Refusal → Result ⊤ Refusal → Result ⊤ Refusal
or_else (Ok tt) after = after
or_else (Err r) after = Err r

abbrev pub start_admitted : ℕ → Phase → Command → ℕ → Result ⊤ Refusal
start_admitted clock phase c now =
    first_number ((is_out_of_time clock now, 7) ∷ (not (is_idle phase), 8) ∷ (nat_lt longest_timeout (timeout_of c), 9) ∷ [])

abbrev pub start_said : ℕ → Phase → Command → ℕ → Result ⊤ Refusal
start_said clock phase c now = or_else (start_admitted clock phase c now) (argued_of c)

abbrev pub step_said : ℕ → Phase → ℕ → Result ⊤ Refusal
step_said clock phase now = first_number ((is_out_of_time clock now, 7) ∷ (is_idle phase, 21) ∷ [])

abbrev pub remove_said : ℕ → Phase → ℕ → Result ⊤ Refusal
remove_said clock phase now = first_number ((is_out_of_time clock now, 7) ∷ (not (is_idle phase), 8) ∷ [])

-- ---- what is held at first, and what a move changes

abbrev pub no_command : Command
no_command = command.Ping 0

abbrev pub no_ping : Option PingReply
no_ping = None

abbrev pub no_gains : Gains
no_gains = record { kp = record { bits = 0 }; kd = record { bits = 0 } }

-- response count, feedback sequence and gains 0; feedback, fault report, ping reply and operation none
abbrev pub new_state : ℕ → ℕ → Model → ℕ → ℕ → State
new_state id host model wait now =
    record {
      motor_id = id;
      feedback_id = host;
      model = model;
      write_wait = wait;
      clock = now;
      responses = 0;
      feedback = record { latest = None; sequence = 0 };
      gains = no_gains;
      fault_report = None;
      ping_reply = no_ping;
      operation = no_operation;
      command = no_command;
    }

abbrev pub sight_of : State → Sight
sight_of s =
    record {
      motor_id = s.motor_id;
      feedback_id = s.feedback_id;
      model = s.model;
      write_wait = s.write_wait;
      sequence = s.feedback.sequence;
      responses = s.responses;
      ping_reply = s.ping_reply;
      gains = s.gains;
    }

abbrev pub gains_by : Effect → Gains → Gains
gains_by effect.Nothing g = g
gains_by (effect.ForgetReading id) g = g
gains_by effect.ForgetPing g = g
gains_by effect.ForgetFault g = g
gains_by (effect.HoldGains new) g = new

abbrev pub fault_by : Effect → Option FaultReport → Option FaultReport
fault_by effect.Nothing f = f
fault_by (effect.ForgetReading id) f = f
fault_by effect.ForgetPing f = f
fault_by effect.ForgetFault f = None
fault_by (effect.HoldGains new) f = f

abbrev pub ping_by : Effect → Option PingReply → Option PingReply
ping_by effect.Nothing p = p
ping_by (effect.ForgetReading id) p = p
ping_by effect.ForgetPing p = no_ping
ping_by effect.ForgetFault p = p
ping_by (effect.HoldGains new) p = p

-- the readings after a move that may drop one
abbrev pub readings_by : {A : Type 0} → Effect → (ℕ → A) → A → A
readings_by effect.Nothing drop l = l
readings_by (effect.ForgetReading id) drop l = drop id
readings_by effect.ForgetPing drop l = l
readings_by effect.ForgetFault drop l = l
readings_by (effect.HoldGains new) drop l = l

-- finished or failed leaves no operation
abbrev pub command_in : Phase → Command → Command
command_in phase.Idle c = no_command
command_in (phase.Pausing k) c = c
command_in (phase.Waiting w) c = c

-- the state after a move of this command at this time
abbrev pub state_by : State → ℕ → Command → Operation → Effect → State
state_by s now c op e =
    record {
      motor_id = s.motor_id;
      feedback_id = s.feedback_id;
      model = s.model;
      write_wait = s.write_wait;
      clock = now;
      responses = s.responses;
      feedback = s.feedback;
      gains = gains_by e s.gains;
      fault_report = fault_by e s.fault_report;
      ping_reply = ping_by e s.ping_reply;
      operation = op;
      command = command_in op.phase c;
    }

-- the reading of the parameter that is waited for
abbrev pub wanted_by : Wait → (ℕ → Option Stored) → Option Stored
wanted_by (wait.Acknowledged by r k) find = None
wanted_by (wait.Value id k) find = find id
wanted_by (wait.Ping k) find = None
wanted_by wait.Version find = None

abbrev pub wanted : Phase → (ℕ → Option Stored) → Option Stored
wanted phase.Idle find = None
wanted (phase.Pausing k) find = None
wanted (phase.Waiting w) find = wanted_by w find
