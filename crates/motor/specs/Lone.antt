-- The lone motor: what it holds, and what each call and each accepted frame does to it. Definitions only.
use Rattle.std.specs.Prelude.{ℕ, true, not, List, [], ◌∷◌, ◌++◌, Option, Result, Ok, Err, ⊤}
use Rattle.codec.specs.declared.error.Refusal.{Refusal}
use Rattle.codec.specs.declared.bus.CanFrame.{CanFrame}
use Rattle.codec.specs.declared.model.Model.{Model}
use Rattle.codec.specs.Replies.{zeros}
use Rattle.motor.specs.declared.engine.command.Command.{Command}
use Rattle.motor.specs.declared.engine.command.Said.{Said}
use Rattle.motor.specs.declared.engine.command.Said.TheVariants as said
use Rattle.motor.specs.declared.engine.operation.Move.{Move}
use Rattle.motor.specs.declared.motor.Seen.{Seen}
use Rattle.motor.specs.declared.motor.State.{State}
use Rattle.motor.specs.declared.readings.Entry.{Entry}
use Rattle.motor.specs.Calls.{register_numbers, new_state, sight_of, state_by, readings_by, wanted, start_said, step_said, remove_said}
use Rattle.motor.specs.Numbers.{numbered, first_of}
use Rattle.motor.specs.Readings.{lookup, insert, remove, room, listing}
use Rattle.motor.specs.Receive.{frame_said, state_after, readings_after, read_id, read_stored}
use Rattle.motor.specs.engine.Requests.{no_frame}
use Rattle.motor.specs.engine.Run.{advanced, begun_by}

-- clock, response count, feedback with its sequence, gains, fault report, ping reply and running operation, which has get_version's
-- answer; a list of readings in rising id
pub record Lone : Type 0 where
  pub state : State
  pub readings : List Entry

-- ---- made from M's id, host, model, write wait and registration time

abbrev pub lone_new : ℕ → ℕ → Model → ℕ → ℕ → Lone
lone_new id host model wait now = record { state = new_state id host model wait now; readings = [] }

-- registration again answers the first of 1, 2, 3, 9, 7, 5 that applies
abbrev pub lone_again : ℕ → ℕ → Option Model → ℕ → ℕ → Result ⊤ Refusal
lone_again id host model wait now = first_of (register_numbers id host model wait now ++ numbered [] ((true, 5) ∷ []))

-- ---- start and step

-- what a start or a step answers, and the lone motor after it
pub record LoneAnswered : Type 0 where
  pub lone : Lone
  pub said : Said
  pub frame : CanFrame
  pub result : List ℕ

-- refused, it changes nothing
abbrev pub lone_refused : Lone → Said → LoneAnswered
lone_refused l s = record { lone = l; said = s; frame = no_frame; result = zeros }

-- else the clock takes the call's time, and the move is made
abbrev pub lone_moved : Lone → ℕ → Command → Move → LoneAnswered
lone_moved l now c v =
    record {
      lone =
          record {
            state = state_by l.state now c v.operation v.effect;
            readings = readings_by v.effect (λ id. remove id l.readings) l.readings;
          };
      said = v.said;
      frame = v.frame;
      result = v.result;
    }

abbrev pub lone_start_by : Result ⊤ Refusal → Lone → Command → ℕ → LoneAnswered
lone_start_by (Ok tt) l c now = lone_moved l now c (begun_by (sight_of l.state) now c)
lone_start_by (Err r) l c now = lone_refused l (said.Refused r)

abbrev pub lone_start : Lone → Command → ℕ → LoneAnswered
lone_start l c now = lone_start_by (start_said l.state.clock l.state.operation.phase c now) l c now

abbrev pub lone_step_by : Result ⊤ Refusal → Lone → ℕ → LoneAnswered
lone_step_by (Ok tt) l now =
    let op = l.state.operation in
    lone_moved l now l.state.command (advanced (sight_of l.state) now op (wanted op.phase (λ id. lookup id l.readings)) op.phase)
lone_step_by (Err r) l now = lone_refused l (said.Refused r)

abbrev pub lone_step : Lone → ℕ → LoneAnswered
lone_step l now = lone_step_by (step_said l.state.clock l.state.operation.phase now) l now

-- ---- a frame acts as Receiving says, a zero status putting its value into the list in place of one with its id

pub record LoneHeard : Type 0 where
  pub lone : Lone
  pub said : Result ⊤ Refusal

unfoldable pub hears : Lone → CanFrame → ℕ → LoneHeard
hears m f now =
    let said = frame_said m.state f now (not (room (read_id f) m.readings)) in
    record {
      lone =
          record {
            state = state_after said m.state f now;
            readings = readings_after said f (insert (read_id f) (read_stored f) m.readings) m.readings;
          };
      said = said;
    }

-- ---- look and removal

-- a look shows all held
abbrev pub lone_look : Lone → Seen
lone_look l = record { state = l.state; readings = listing l.readings }

abbrev pub lone_removal : Lone → ℕ → Result ⊤ Refusal
lone_removal l now = remove_said l.state.clock l.state.operation.phase now
