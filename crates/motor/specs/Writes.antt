-- Every write: what the frames of starts and steps are, and that each write among them is of a value that the encoder takes. Definitions
-- only.
use Rattle.std.specs.Prelude.{◌≡◌, ℕ, List, Ok}
use Rattle.codec.specs.declared.bus.CanFrame.{CanFrame}
use Rattle.codec.specs.declared.model.Model.{Model}
use Rattle.codec.specs.declared.motion.MitCommand.{MitCommand}
use Rattle.codec.specs.declared.protocol.ParameterValue.{ParameterValue}
use Rattle.codec.specs.Values.{encode_parameter_value}
use Rattle.motor.specs.declared.engine.command.Command.{Command}
use Rattle.motor.specs.declared.engine.node.Request.{Request}
use Rattle.motor.specs.declared.engine.node.Request.TheVariants as request
use Rattle.motor.specs.declared.engine.operation.Sight.{Sight}
use Rattle.motor.specs.Bounds.{LoneEvent, after_events}
use Rattle.motor.specs.Calls.{sight_of}
use Rattle.motor.specs.Lone.{Lone, LoneAnswered, lone_new, lone_start, lone_step}
use Rattle.motor.specs.engine.Requests.{request_frame, motion_frame, rename_frame, no_frame}

-- a write carries what the encoder makes of a value
abbrev pub AsEncoded : Request → Type 0
AsEncoded request.Ping = Unit {0}
AsEncoded request.Enable = Unit {0}
AsEncoded request.Disable = Unit {0}
AsEncoded request.ClearError = Unit {0}
AsEncoded request.SetZeroPosition = Unit {0}
AsEncoded (request.Read id) = Unit {0}
AsEncoded (request.Write id raw) = (v : ParameterValue) × (encode_parameter_value id v ≡ Ok raw)
AsEncoded request.SaveParameters = Unit {0}
AsEncoded (request.ActiveReport on) = Unit {0}
AsEncoded (request.SetProtocol protocol) = Unit {0}
AsEncoded request.Version = Unit {0}

-- what a frame is: none, a request to a host, a motion command, or that of another id
pub data Sent (s : Sight) (f : CanFrame) : Type 0 where
  nothing : f ≡ no_frame → Sent s f
  asks : (r : Request) (host : ℕ) → AsEncoded r → f ≡ request_frame s r host → Sent s f
  drives : (c : MitCommand) → f ≡ motion_frame s c → Sent s f
  renames : (new : ℕ) → f ≡ rename_frame s new → Sent s f

abbrev pub SentFrom : Lone → LoneAnswered → Type 0
SentFrom l a = Sent (sight_of l.state) a.frame

-- whatever has come before, and whatever operation runs
pub record EveryWrite : Type 0 where
  pub started : (id host : ℕ) (model : Model) (wait since : ℕ) (es : List LoneEvent) (c : Command) (now : ℕ)
      → let l = after_events (lone_new id host model wait since) es in SentFrom l (lone_start l c now)
  pub stepped : (id host : ℕ) (model : Model) (wait since : ℕ) (es : List LoneEvent) (now : ℕ)
      → let l = after_events (lone_new id host model wait since) es in SentFrom l (lone_step l now)
