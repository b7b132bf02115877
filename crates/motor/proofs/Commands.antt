-- Each command once: which give a timeout or an argument that is tested, that an operation begins with no refusal once these tests have
-- passed, and within its frames and due steps. Assumes nothing.
use Rattle.std.proofs.Common.{◌≡◌, ℕ, ◌≤◌, false, T, eqb, leb, List, [], ◌∷◌, refl, arith, leb→le, Ok}
use mir.Val.{has_key}
use types.Run.{OneOf}
use denote.Enum.Declared.{tag_of}
use Rattle.codec.specs.Kinds.{among, listed_ids, int8_ids, uint8_ids, uint16_ids, uint32_ids, kind_of, parameter_info}
use Rattle.codec.specs.Values.{encode_parameter_value}
use Rattle.motor.specs.declared.engine.command.Command.{Command}
use Rattle.motor.specs.declared.engine.command.Command.TheVariants as command
use Rattle.motor.specs.declared.engine.node.Node.{Node}
use Rattle.motor.specs.declared.engine.node.Node.TheVariants as node
use Rattle.motor.specs.Bounds.{most_frames_of}
use Rattle.motor.specs.Calls.{timeout_of, argued_of, encodes}
use Rattle.motor.specs.Limits.{most_due_steps, most_frames}
use Rattle.motor.specs.engine.Operations.{begins_with}
use Rattle.motor.specs.engine.Run.{request_of}
use Rattle.motor.specs.contracts.engine.command.Command.{the_type}
use Rattle.motor.proofs.GoodNodes.{is_write, Good}
use Rattle.motor.proofs.Measures.{by-test, Paced, window-small, node_left}
use Rattle.walks.proofs.LastArm.{Unless, others, unless}

-- the commands that give a timeout, and those with an argument that is tested, by their numbers
abbrev pub timed : List ℕ
timed = 0 ∷ 1 ∷ 3 ∷ 6 ∷ 7 ∷ 15 ∷ 16 ∷ 21 ∷ 22 ∷ 23 ∷ 24 ∷ []

abbrev pub asked : List ℕ
asked = 1 ∷ 7 ∷ 8 ∷ 17 ∷ 22 ∷ []

-- a node with which an operation may begin: it doesn't fail, its write the encoder takes, and its other requests are no writes
abbrev pub Opens : Node → Type 0
Opens (node.Finish r) = Unit {0}
Opens node.Report = Unit {0}
Opens node.ClearFault = Unit {0}
Opens (node.Fail r) = ⊥
Opens (node.Pause d k) = Unit {0}
Opens (node.Last r) = is_write r ≡ false
Opens (node.Write id v k) = encodes (encode_parameter_value id v) ≡ Ok tt
Opens (node.Await w window whom) = is_write (request_of w) ≡ false
Opens (node.Motion t r) = Unit {0}
Opens (node.Rename new) = Unit {0}

-- at most the limit's frames and 40 due steps, the limit at most 32; paced
abbrev Begins : ℕ → Node → Type 0
Begins m n = T (leb (node_left 1 0 n) m) × T (leb m most_frames) × T (leb (node_left 0 1 n) most_due_steps) × Paced n

-- it gives no timeout and no argument but where the lists say so; and how its operation begins
abbrev Each : Command → Type 0
Each c =
    Unless (has_key timed (tag_of the_type c)) (timeout_of c ≡ 0)
    × Unless (has_key asked (tag_of the_type c)) (argued_of c ≡ Ok tt)
    × (argued_of c ≡ Ok tt → Opens (begins_with c))
    × Begins (most_frames_of c) (begins_with c)

each : (c : Command) → Each c
unfolding parameter_info kind_of among listed_ids int8_ids uint8_ids uint16_ids uint32_ids
each (command.Ping timeout) = (tt, refl, λ h. refl, (tt, tt, tt, window-small timeout 120 (omega arith)))
each (command.PingWithHostId h timeout) = (tt, tt, λ h. refl, (tt, tt, tt, window-small timeout 0 (omega arith)))
each (command.SetMode m) = (refl, refl, λ h. refl, (tt, tt, tt, tt))
each (command.EnsureControlMode m timeout) = (tt, refl, λ h. refl, (tt, tt, tt, window-small timeout 150 (omega arith)))
each command.SetZeroPosition = (refl, refl, λ h. refl, (tt, tt, tt, omega arith))
each command.SaveParameters = (refl, refl, λ h. refl, (tt, tt, tt, omega arith))
each (command.GetProtocolFlag timeout) = (tt, refl, λ h. refl, (tt, tt, tt, window-small timeout 150 (omega arith)))
each (command.SetProtocol n timeout) = (
  tt,
  tt,
  λ h. by-test (λ t x. Opens x) (eqb timeout 0) (λ e. refl) (λ e. refl),
  by-test (λ t x. Begins 4 x) (eqb timeout 0) (λ e. (tt, tt, tt, tt)) (λ e. (tt, tt, tt, window-small timeout 120 (omega arith))),
)
each (command.SetDeviceId new) = (refl, tt, λ h. refl, (tt, tt, tt, window-small 140 120 (omega arith)))
each command.Enable = (refl, refl, λ h. refl, (tt, tt, tt, omega arith))
each command.Disable = (refl, refl, λ h. refl, (tt, tt, tt, omega arith))
each command.ClearError = (refl, refl, λ h. refl, (tt, tt, tt, omega arith))
each (command.SetActiveReport on) = (refl, refl, λ h. refl, (tt, tt, tt, tt))
each (command.SendCmdMit p v kp kd t) = (refl, refl, λ h. tt, (tt, tt, tt, tt))
each (command.SetVelocityTarget v) = (refl, refl, λ h. refl, (tt, tt, tt, tt))
each (command.GetControlMode timeout) = (tt, refl, λ h. refl, (tt, tt, tt, window-small timeout 150 (omega arith)))
each (command.ControlledStop timeout) = (tt, refl, λ h. refl, (tt, tt, tt, window-small timeout 150 (omega arith)))
each (command.WriteParameter id v) = (refl, tt, λ h. h, (tt, tt, tt, tt))
each (command.SendCmdPosVelCsp p v) = (refl, refl, λ h. refl, (tt, tt, tt, tt))
each (command.SendCmdPosVelPp p v a) = (refl, refl, λ h. refl, (tt, tt, tt, tt))
each (command.RequestParameter id) = (refl, refl, λ h. refl, (tt, tt, tt, tt))
each (command.GetParameter id timeout) = (tt, refl, λ h. refl, (tt, tt, tt, window-small timeout 150 (omega arith)))
each (command.GetParameterWithHostId id h timeout) = (tt, tt, λ h. refl, (tt, tt, tt, window-small timeout 0 (omega arith)))
each (command.GetParameterF32 id timeout) = (tt, refl, λ h. refl, (tt, tt, tt, window-small timeout 150 (omega arith)))
each (command.GetParameterI8 id timeout) = (tt, refl, λ h. refl, (tt, tt, tt, window-small timeout 150 (omega arith)))
each command.GetVersion = (refl, refl, λ h. refl, (tt, tt, tt, omega arith))

-- ---- what a call gives

pub untimed : (c : Command) → OneOf (others the_type timed) (tag_of the_type c) → timeout_of c ≡ 0
untimed c h = unless the_type timed c (each c).0 h

pub unasked : (c : Command) → OneOf (others the_type asked) (tag_of the_type c) → argued_of c ≡ Ok tt
unasked c h = unless the_type asked c (each c).1 h

-- ---- how an operation begins

pub opens : (c : Command) → argued_of c ≡ Ok tt → Opens (begins_with c)
opens c h = (each c).2 h

opens-good : (n : Node) → Opens n → Good n
opens-good (node.Fail r) o = absurd o
opens-good (node.Last r) o = o
opens-good (node.Write id v k) o = o
opens-good (node.Await w window whom) o = o
opens-good _ o = tt

pub begins-good : (c : Command) → argued_of c ≡ Ok tt → Good (begins_with c)
begins-good c h = opens-good (begins_with c) (opens c h)

pub frames-within : (c : Command) → node_left 1 0 (begins_with c) ≤ most_frames_of c
frames-within c = leb→le _ _ (each c).3.0

pub limit-within : (c : Command) → most_frames_of c ≤ most_frames
limit-within c = leb→le _ _ (each c).3.1

pub steps-within : (c : Command) → node_left 0 1 (begins_with c) ≤ most_due_steps
steps-within c = leb→le _ _ (each c).3.2

pub begins-paced : (c : Command) → Paced (begins_with c)
begins-paced c = (each c).3.3
