-- What bounds an operation: the frames it sends, the due steps it needs, and the due times it gives. Definitions only.
use Rattle.std.specs.Prelude.{◌≡◌, ℕ, ◌+◌, ◌<◌, ◌≤◌, Bool, true, false, cond, not, ◌&&◌, List, [], ◌∷◌, nat_lt, Result, Ok, Err, ⊤}
use Rattle.codec.specs.declared.error.Refusal.{Refusal}
use Rattle.codec.specs.declared.bus.CanFrame.{CanFrame}
use Rattle.codec.specs.declared.model.Model.{Model}
use Rattle.motor.specs.declared.engine.command.Command.{Command}
use Rattle.motor.specs.declared.engine.command.Said.{Said}
use Rattle.motor.specs.declared.engine.command.Said.TheVariants as said
use Rattle.motor.specs.declared.engine.operation.Phase.{Phase}
use Rattle.motor.specs.declared.engine.operation.Phase.TheVariants as phase
use Rattle.motor.specs.Limits.{longest_timeout, most_due_steps, most_frames}
use Rattle.motor.specs.Commands.{command_row}
use Rattle.motor.specs.Calls.{is_idle, start_said, step_said}
use Rattle.motor.specs.Lone.{Lone, LoneAnswered, lone_new, lone_start, lone_step, hears}

-- ---- what happens to a motor, in any order

-- other: a look, a registration again, or a removal that is refused; each leaves the motor as it is
pub data LoneEvent : Type 0 where
  start : Command → ℕ → LoneEvent
  step : ℕ → LoneEvent
  frame : CanFrame → ℕ → LoneEvent
  other : LoneEvent

abbrev pub after_event : Lone → LoneEvent → Lone
after_event l (start c now) = (lone_start l c now).lone
after_event l (step now) = (lone_step l now).lone
after_event l (frame f now) = (hears l f now).lone
after_event l other = l

abbrev pub after_events : Lone → List LoneEvent → Lone
after_events l [] = l
after_events l (e ∷ es) = after_events (after_event l e) es

-- ---- what is counted

-- an answer that comes with a frame
abbrev pub has_frame : Said → Bool
has_frame (said.Sent due) = true
has_frame (said.Waiting due) = false
has_frame (said.Finished r) = false
has_frame (said.FinishedWith r) = true
has_frame (said.Refused r) = false

abbrev pub sends : Lone → LoneEvent → Bool
sends l (start c now) = has_frame (lone_start l c now).said
sends l (step now) = has_frame (lone_step l now).said
sends l (frame f now) = false
sends l other = false

abbrev pub passes : Result ⊤ Refusal → Bool
passes (Ok tt) = true
passes (Err r) = false

-- a step that 7 and 21 don't refuse, at or after the last due time given
abbrev pub is_due : Lone → LoneEvent → Bool
is_due l (start c now) = false
is_due l (step now) =
    passes (step_said l.state.clock l.state.operation.phase now) && not (nat_lt now l.state.operation.due)
is_due l (frame f now) = false
is_due l other = false

abbrev pub once : Bool → ℕ
once b = cond b 1 0

-- how many of these events pass the test, as long as the operation runs
abbrev pub count : (Lone → LoneEvent → Bool) → Lone → List LoneEvent → ℕ
count test l [] = 0
count test l (e ∷ es) = cond (is_idle l.state.operation.phase) 0 (once (test l e) + count test (after_event l e) es)

-- ---- the most frames of each operation

abbrev pub most_frames_of : Command → ℕ
most_frames_of c = (command_row c).most

-- ---- due times

-- a due time given at this time lies between now and now + most, that of a wait after now; it is the one that the motor then holds
abbrev pub GivenWithin : ℕ → ℕ → Said → ℕ → Type 0
GivenWithin most now (said.Sent d) due = (now ≤ d) × (d ≤ now + most) × (due ≡ d)
GivenWithin most now (said.Waiting d) due = (now < d) × (d ≤ now + most) × (due ≡ d)
GivenWithin most now (said.Finished r) due = Unit {0}
GivenWithin most now (said.FinishedWith r) due = Unit {0}
GivenWithin most now (said.Refused r) due = Unit {0}

abbrev pub Given : ℕ → LoneAnswered → Type 0
Given now a = GivenWithin longest_timeout now a.said a.lone.state.operation.due

-- ---- pauses

-- the operation stands in a pause
abbrev pub is_pausing : Phase → Bool
is_pausing phase.Idle = false
is_pausing (phase.Pausing k) = true
is_pausing (phase.Waiting w) = false

-- ---- the theorem

abbrev pub Accepted : Lone → Command → ℕ → Type 0
Accepted l c now = start_said l.state.clock l.state.operation.phase c now ≡ Ok tt

-- No operation sends more than 32 frames or needs more than 40 due steps, whatever comes after its start. A step at or after the due time
-- never answers waiting, save to begin a pause with a later due time. Every due time that a motor gives lies between now and now + 60,000
pub record Bounds : Type 0 where
  pub frames : (l : Lone) (c : Command) (now : ℕ) (es : List LoneEvent) → Accepted l c now
      → once (sends l (start c now)) + count sends (after_event l (start c now)) es ≤ most_frames_of c
  pub limits : (c : Command) → most_frames_of c ≤ most_frames
  pub steps : (l : Lone) (c : Command) (now : ℕ) (es : List LoneEvent) → Accepted l c now → count is_due (after_event l (start c now)) es ≤ most_due_steps
  pub waits : (l : Lone) (now d : ℕ) → l.state.operation.due ≤ now → (lone_step l now).said ≡ said.Waiting d
      → (now < d) × (l.state.operation.due < d) × (is_pausing (lone_step l now).lone.state.operation.phase ≡ true)
  pub started : (id host : ℕ) (model : Model) (wait since : ℕ) (es : List LoneEvent) (c : Command) (now : ℕ)
      → Given now (lone_start (after_events (lone_new id host model wait since) es) c now)
  pub stepped : (id host : ℕ) (model : Model) (wait since : ℕ) (es : List LoneEvent) (now : ℕ)
      → Given now (lone_step (after_events (lone_new id host model wait since) es) now)
