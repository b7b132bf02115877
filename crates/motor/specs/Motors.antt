-- What the motor's functions give on any motor, and what it is for a motor to answer as the lone motor does. Definitions only.
use Rattle.std.specs.Prelude.{◌≡◌, ℕ, List, Result, Ok, Err, ⊤}
use Rattle.codec.specs.declared.error.Refusal.{Refusal}
use Rattle.codec.specs.declared.model.Model.{Model}
use Rattle.codec.specs.Replies.{zeros}
use Rattle.motor.specs.declared.engine.command.Command.{Command}
use Rattle.motor.specs.declared.engine.command.Said.{Said}
use Rattle.motor.specs.declared.engine.command.Said.TheVariants as said
use Rattle.motor.specs.declared.engine.operation.Move.{Move}
use Rattle.motor.specs.declared.motor.Answered.{Answered}
use Rattle.motor.specs.declared.motor.Seen.{Seen}
use Rattle.motor.specs.declared.motor.Motor.{Motor}
use Rattle.motor.specs.declared.readings.Entry.{Entry}
use Rattle.motor.specs.declared.receive.Heard.{Heard}
use Rattle.motor.specs.Calls.{new_state, sight_of, state_by, readings_by, wanted, start_said, step_said, remove_said}
use Rattle.motor.specs.Lone.{Lone, LoneAnswered, LoneHeard}
use Rattle.motor.specs.Readings.{Holds, empty_readings, find_of, drop_id, listed_of}
use Rattle.motor.specs.engine.Requests.{no_frame}
use Rattle.motor.specs.engine.Run.{advanced, begun_by}

-- ---- new, start, step, look, removal

abbrev pub new_motor : ℕ → ℕ → Model → ℕ → ℕ → Motor
new_motor id host model wait now = record { state = new_state id host model wait now; readings = empty_readings }

abbrev pub refused_of : Motor → Said → Answered
refused_of m s = record { motor = m; said = s; frame = no_frame; result = zeros }

abbrev pub moved_by : Motor → ℕ → Command → Move → Answered
moved_by m now c v =
    record {
      motor =
          record {
            state = state_by m.state now c v.operation v.effect;
            readings = readings_by v.effect (λ id. drop_id m.readings id) m.readings;
          };
      said = v.said;
      frame = v.frame;
      result = v.result;
    }

abbrev pub start_by : Result ⊤ Refusal → Motor → Command → ℕ → Answered
start_by (Ok tt) m c now = moved_by m now c (begun_by (sight_of m.state) now c)
start_by (Err r) m c now = refused_of m (said.Refused r)

abbrev pub start_of : Motor → Command → ℕ → Answered
start_of m c now = start_by (start_said m.state.clock m.state.operation.phase c now) m c now

abbrev pub step_by : Result ⊤ Refusal → Motor → ℕ → Answered
step_by (Ok tt) m now =
    let op = m.state.operation in
    moved_by m now m.state.command (advanced (sight_of m.state) now op (wanted op.phase (λ id. find_of m.readings id)) op.phase)
step_by (Err r) m now = refused_of m (said.Refused r)

abbrev pub step_of : Motor → ℕ → Answered
step_of m now = step_by (step_said m.state.clock m.state.operation.phase now) m now

abbrev pub look_of : Motor → Seen
look_of m = record { state = m.state; readings = listed_of m.readings }

abbrev pub removal_of : Motor → ℕ → Result ⊤ Refusal
removal_of m now = remove_said m.state.clock m.state.operation.phase now

-- ---- the motor answers as the lone motor does

-- the lone motor beside a motor whose readings are this list
abbrev pub lone_of : Motor → List Entry → Lone
lone_of m l = record { state = m.state; readings = l }

-- what is said and sent is the same, and so is what is held
pub record AnsweredAs (r : Answered) (a : LoneAnswered) : Type 0 where
  pub said : r.said ≡ a.said
  pub frame : r.frame ≡ a.frame
  pub result : r.result ≡ a.result
  pub state : r.motor.state ≡ a.lone.state
  pub readings : Holds r.motor.readings a.lone.readings

-- a motor's answer is the lone motor's: what is said, the new state, and the list that the new readings hold
pub record HeardAs (r : Heard) (h : LoneHeard) : Type 0 where
  pub said : r.said ≡ h.said
  pub state : r.motor.state ≡ h.lone.state
  pub readings : Holds r.motor.readings h.lone.readings
