-- get_version (document 02, T-01): where its answer comes from, that the codec doesn't refuse it there, and that the rule holds within its
-- wait alone. Definitions only.
use Rattle.std.specs.Prelude.{◌≡◌, ℕ, true, false, List, Some, Ok}
use Rattle.codec.specs.declared.bus.CanFrame.{CanFrame}
use Rattle.codec.specs.declared.model.Model.{Model}
use Rattle.codec.specs.declared.replies.VersionReply.{VersionReply}
use Rattle.codec.specs.Numbers.{said_in}
use Rattle.codec.specs.Replies.{is_version_reply, decode_version_reply}
use Rattle.motor.specs.declared.engine.command.Command.{Command}
use Rattle.motor.specs.declared.engine.command.Outcome.TheVariants as outcome
use Rattle.motor.specs.declared.engine.command.Said.TheVariants as said
use Rattle.motor.specs.declared.engine.operation.Operation.{Operation}
use Rattle.motor.specs.declared.engine.operation.Phase.{Phase}
use Rattle.motor.specs.declared.motor.State.{State}
use Rattle.motor.specs.Bounds.{LoneEvent, after_events, Accepted}
use Rattle.motor.specs.Lone.{Lone, lone_new, lone_start, lone_step}
use Rattle.motor.specs.Receive.{parts_of, told_by, awaits_version, is_answer, taken_by}
use Rattle.motor.specs.engine.Run.{no_version, version_reported}

-- a version reply, and what decode_version_reply gives of it: passed, not 23
pub record Told (f : CanFrame) (reply : VersionReply) : Type 0 where
  pub is-reply : is_version_reply f.arbitration_id f.data ≡ true
  pub decoded : decode_version_reply f.arbitration_id f.data ≡ Ok reply

-- what an operation has as its answer: none, or a version reply's while it waits for one
pub data AnswerIn (op : Operation) : Type 0 where
  none : op.answer ≡ no_version → AnswerIn op
  from : (f : CanFrame) (reply : VersionReply) → awaits_version op.phase ≡ true → op.answer ≡ Some reply → Told f reply → AnswerIn op

pub record Versions : Type 0 where
  -- decode_version_reply can't answer 23 of an answer
  pub never-23 : (p : Phase) (f : CanFrame) → is_answer p f ≡ true → said_in (decode_version_reply f.arbitration_id f.data) ≡ Ok tt
  -- a start has none
  pub started : (l : Lone) (c : Command) (now : ℕ) → Accepted l c now → (lone_start l c now).lone.state.operation.answer ≡ no_version
  -- whatever has come before: outside the wait nothing of it is held, and within it what a version reply told
  pub held : (id host : ℕ) (model : Model) (wait since : ℕ) (es : List LoneEvent) → AnswerIn (after_events (lone_new id host model wait since) es).state.operation
  -- so what a step of get_version reports is a version reply's version, as the codec decodes it
  pub reported : (id host : ℕ) (model : Model) (wait since : ℕ) (es : List LoneEvent) (now device : ℕ)
      → let l = after_events (lone_new id host model wait since) es in
      awaits_version l.state.operation.phase ≡ true → (lone_step l now).said ≡ said.Finished (outcome.Version device)
      → (f : CanFrame) × (reply : VersionReply) × Told f reply × (reply.device_id ≡ device) × ((lone_step l now).result ≡ (version_reported reply).result)
  -- an answer is no feedback, and changes nothing else but the operation
  pub no-feedback : (s : State) (f : CanFrame) → is_answer s.operation.phase f ≡ true
      → let t = taken_by s (parts_of f) f in (t.feedback ≡ s.feedback) × (t.fault_report ≡ s.fault_report) × (t.ping_reply ≡ s.ping_reply)
  -- outside the wait the old rule holds, for every frame
  pub outside : (s : State) (f : CanFrame) → awaits_version s.operation.phase ≡ false → taken_by s (parts_of f) f ≡ told_by s (parts_of f) f
