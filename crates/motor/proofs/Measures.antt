-- What an operation may still send and wait for, where a frame weighs f and a due step d: at most this much, from each node, wait and
-- phase on. Every node that follows keeps to it, with pauses of 1 to 60,000 and windows up to 60,000. Assumes nothing.
use Rattle.std.proofs.Common.{◌≡◌, ℕ, zero, suc, ◌+◌, ◌-◌, ◌*◌, ◌<◌, ◌≤◌, Bool, true, false, cond, ltb, refl, arith, ltb-false}
use Rattle.motor.specs.declared.engine.candidates.Hosts.{Hosts}
use Rattle.motor.specs.declared.engine.candidates.Hosts.TheVariants as hosts
use Rattle.motor.specs.declared.engine.operation.Operation.{Operation}
use Rattle.motor.specs.declared.engine.operation.Phase.{Phase}
use Rattle.motor.specs.declared.engine.operation.Phase.TheVariants as phase
use Rattle.motor.specs.declared.engine.node.Acked.{Acked}
use Rattle.motor.specs.declared.engine.node.Acked.TheVariants as acked
use Rattle.motor.specs.declared.engine.node.Ensure.{Ensure}
use Rattle.motor.specs.declared.engine.node.Ensure.TheVariants as ensure
use Rattle.motor.specs.declared.engine.node.Got.{Got}
use Rattle.motor.specs.declared.engine.node.Got.TheVariants as got
use Rattle.motor.specs.declared.engine.node.Node.{Node}
use Rattle.motor.specs.declared.engine.node.Node.TheVariants as node
use Rattle.motor.specs.declared.engine.node.Pinged.{Pinged}
use Rattle.motor.specs.declared.engine.node.Pinged.TheVariants as pinged
use Rattle.motor.specs.declared.engine.node.Wait.{Wait}
use Rattle.motor.specs.declared.engine.node.Wait.TheVariants as wait
use Rattle.motor.specs.Limits.{longest_timeout}
use Rattle.motor.specs.engine.Script.{window_of}

-- what holds of each side of a choice, where the test comes out so, holds of the choice
pub by-test : {A : Type 0} (P : Bool → A → Type 0) (b : Bool) {x y : A} → (b ≡ true → P true x) → (b ≡ false → P false y) → P b (cond b x y)
by-test P b {x} {y} then else = go b refl
  where
    go : (t : Bool) → b ≡ t → P t (cond t x y)
    go true e = then e
    go false e = else e

-- n times c
abbrev pub many : ℕ → ℕ → ℕ
many c zero = 0
many c (suc n) = c + many c n

-- windows and pauses that end within 60,000, a pause later than it begins
abbrev pub Paced : Node → Type 0
Paced (node.Finish r) = Unit {0}
Paced node.Report = Unit {0}
Paced node.ClearFault = Unit {0}
Paced (node.Fail r) = Unit {0}
Paced (node.Pause e k) = (0 < e) × (e ≤ longest_timeout)
Paced (node.Last r) = Unit {0}
Paced (node.Write id v k) = Unit {0}
Paced (node.Await w window whom) = window ≤ longest_timeout
Paced (node.Motion t r) = Unit {0}
Paced (node.Rename new) = Unit {0}

-- a window is at most 60,000
pub window-small : (timeout least : ℕ) → least ≤ longest_timeout → window_of timeout least ≤ longest_timeout
window-small timeout least h =
    by-test (λ t w. w ≤ longest_timeout) (ltb timeout least) (λ e. h)
    (λ e. by-test (λ t w. w ≤ longest_timeout) (ltb longest_timeout timeout) (λ e. omega arith) (λ e. ltb-false longest_timeout timeout e))

module _ (f d : ℕ) where
  -- four attempts, each with its window's end
  abbrev pub four : ℕ
  four = 4 * (f + d)

  -- attempts to write the mode and read it back
  abbrev pub tries : ℕ → ℕ
  tries left = many (8 * (f + d) + 2 * d) left

  abbrev pub ensure_left : Ensure → ℕ → ℕ
  ensure_left ensure.Off left = d + tries left
  ensure_left ensure.Try left = tries left
  ensure_left ensure.Written left = four + 2 * d + tries left
  ensure_left ensure.Back left = four + d + tries left

  abbrev pub acked_left : Acked → ℕ
  acked_left acked.Done = 0
  acked_left acked.FaultCleared = 0
  acked_left acked.ZeroState = 4 * (f + d)
  acked_left (acked.Stopped m) = 0
  acked_left (acked.CspEnable p v) = 12 * (f + d)
  acked_left (acked.CspLimit p v) = 8 * (f + d)
  acked_left (acked.PpEnable p v a) = 16 * (f + d)
  acked_left (acked.PpVelocity p v a) = 12 * (f + d)
  acked_left (acked.PpAcceleration p a) = 8 * (f + d)
  acked_left (acked.Target p) = 4 * (f + d)
  acked_left (acked.Ensure stage a) = ensure_left stage a.left

  abbrev pub got_left : Got → ℕ
  got_left got.Value = 0
  got_left got.Flag = 0
  got_left got.F32 = 0
  got_left got.I8 = 0
  got_left got.Mode = 0
  got_left (got.StopMode timeout) = 8 * (f + d)
  got_left got.StopCsp = 4 * (f + d)
  got_left got.StopMit = f
  got_left (got.EnsureFirst a) = four + d + tries a.left
  got_left (got.EnsureBack a) = d + tries a.left

  abbrev pub pinged_left : Pinged → ℕ
  pinged_left pinged.Report = 0
  pinged_left (pinged.Rename new) = f

  abbrev pub wait_left : Wait → ℕ
  wait_left (wait.Acknowledged by r k) = acked_left k
  wait_left (wait.Value id k) = got_left k
  wait_left (wait.Ping k) = pinged_left k
  wait_left wait.Version = 0

  -- further attempts, from this place on
  abbrev pub more_left : Hosts → ℕ → ℕ
  more_left hosts.Candidates next = many (f + d) (4 - next)
  more_left (hosts.Named h) next = 0
  more_left hosts.Own next = 0

  abbrev pub node_left : Node → ℕ
  node_left (node.Finish r) = 0
  node_left node.Report = 0
  node_left node.ClearFault = 0
  node_left (node.Fail r) = 0
  node_left (node.Pause e k) = d + acked_left k
  node_left (node.Last r) = f
  node_left (node.Write id v k) = four + acked_left k
  node_left (node.Await w window whom) = f + d + more_left whom 1 + wait_left w
  node_left (node.Motion t r) = f
  node_left (node.Rename new) = f

  -- what follows the next due step
  abbrev pub rest_left : Phase → Operation → ℕ
  rest_left phase.Idle op = 0
  rest_left (phase.Pausing k) op = acked_left k
  rest_left (phase.Waiting w) op = more_left op.hosts op.candidate + wait_left w

  abbrev pub phase_left : Phase → Operation → ℕ
  phase_left phase.Idle op = 0
  phase_left (phase.Pausing k) op = d + rest_left (phase.Pausing k) op
  phase_left (phase.Waiting w) op = d + rest_left (phase.Waiting w) op

  abbrev pub op_left : Operation → ℕ
  op_left op = phase_left op.phase op

  -- at most m is left, and it is paced
  abbrev pub Fits : ℕ → Node → Type 0
  Fits m n = (node_left n ≤ m) × Paced n
