-- The nodes of operations: each fails by 16, 17, 18 or 20, if it fails, and writes what the encoder takes, if it writes; no other request
-- of theirs is a write. Assumes nothing.
use Rattle.std.proofs.Common.{◌≡◌, ℕ, zero, suc, Bool, true, false, cond, eqb, [], ◌∷◌, ℤ, refl, w8, of_z, Option, Some, None, Ok, Err}
use Rattle.codec.specs.declared.error.Refusal.{Refusal}
use Rattle.codec.specs.declared.error.Refusal.TheVariants as refusal
use Rattle.codec.specs.declared.protocol.ParameterValue.{ParameterValue}
use Rattle.codec.specs.declared.protocol.ParameterValue.TheVariants as value
use Rattle.codec.specs.declared.registers.ControlMode.{ControlMode}
use Rattle.codec.specs.declared.registers.ControlMode.TheVariants as mode
use Rattle.codec.specs.declared.word.Word.{Word}
use Rattle.codec.specs.Kinds.{among, listed_ids, int8_ids, uint8_ids, uint16_ids, uint32_ids, kind_of, parameter_info}
use Rattle.codec.specs.Modes.{control_mode_from_raw}
use Rattle.codec.specs.Refusals.{number_of}
use Rattle.codec.specs.Values.{encode_parameter_value}
use Rattle.motor.specs.declared.engine.operation.Sight.{Sight}
use Rattle.motor.specs.declared.engine.node.Acked.{Acked}
use Rattle.motor.specs.declared.engine.node.Acked.TheVariants as acked
use Rattle.motor.specs.declared.engine.node.Aim.{Aim}
use Rattle.motor.specs.declared.engine.node.Ensure.{Ensure}
use Rattle.motor.specs.declared.engine.node.Ensure.TheVariants as ensure
use Rattle.motor.specs.declared.engine.node.Got.{Got}
use Rattle.motor.specs.declared.engine.node.Got.TheVariants as got
use Rattle.motor.specs.declared.engine.node.Node.{Node}
use Rattle.motor.specs.declared.engine.node.Node.TheVariants as node
use Rattle.motor.specs.declared.engine.node.Pinged.{Pinged}
use Rattle.motor.specs.declared.engine.node.Pinged.TheVariants as pinged
use Rattle.motor.specs.declared.engine.node.Request.{Request}
use Rattle.motor.specs.declared.engine.node.Request.TheVariants as request
use Rattle.motor.specs.declared.engine.node.Wait.{Wait}
use Rattle.motor.specs.declared.engine.node.Wait.TheVariants as wait
use Rattle.motor.specs.Calls.{encodes}
use Rattle.motor.specs.engine.Operations.{acked_of, not_acked, got_value, no_value, got_ping, windows_gone}
use Rattle.motor.specs.engine.Run.{request_of}
use Rattle.motor.specs.engine.Script.{as_mode, mode_or17, signed_in, float_in, as_flag, as_signed, as_float, stop_in, is_usable, abs_of, is_mode, first_read, back_read, try_in, ensure_acked}
use Rattle.motor.proofs.engine.Choices.{either}

-- the numbers by which an operation may fail
abbrev pub ends_by : Refusal → Bool
ends_by r = among (number_of r) (16 ∷ 17 ∷ 18 ∷ 20 ∷ [])

abbrev pub is_write : Request → Bool
is_write request.Ping = false
is_write request.Enable = false
is_write request.Disable = false
is_write request.ClearError = false
is_write request.SetZeroPosition = false
is_write (request.Read id) = false
is_write (request.Write id raw) = true
is_write request.SaveParameters = false
is_write (request.ActiveReport on) = false
is_write (request.SetProtocol protocol) = false
is_write request.Version = false

-- a node whose refusal, if it has one, is among them, whose write the encoder takes, and whose other requests are no writes
abbrev pub Good : Node → Type 0
Good (node.Finish r) = Unit {0}
Good node.Report = Unit {0}
Good node.ClearFault = Unit {0}
Good (node.Fail r) = ends_by r ≡ true
Good (node.Pause d k) = Unit {0}
Good (node.Last r) = is_write r ≡ false
Good (node.Write id v k) = encodes (encode_parameter_value id v) ≡ Ok tt
Good (node.Await w window whom) = is_write (request_of w) ≡ false
Good (node.Motion t r) = Unit {0}
Good (node.Rename new) = Unit {0}

-- ---- every node of an operation is good

mode-good : (n : ℤ) (k : ControlMode → Node) → ((m : ControlMode) → Good (k m)) → Good (mode_or17 (control_mode_from_raw n) k)
unfolding control_mode_from_raw among
mode-good n k g = go (eqb (of_z w8 n) 0) (eqb (of_z w8 n) 1) (eqb (of_z w8 n) 2) (eqb (of_z w8 n) 5)
  where
    go : (a b c d : Bool) → Good (mode_or17 (cond a (Ok mode.Mit) (cond b (Ok mode.Position) (cond c (Ok mode.Velocity) (cond d (Ok mode.PositionCsp) (Err refusal.UnsupportedRunMode))))) k)
    go true b c d = g mode.Mit
    go false true c d = g mode.Position
    go false false true d = g mode.Velocity
    go false false false true = g mode.PositionCsp
    go false false false false = refl

as-mode-good : (v : Option ℤ) (k : ControlMode → Node) → ((m : ControlMode) → Good (k m)) → Good (as_mode v k)
unfolding among
as-mode-good (Some n) k g = mode-good n k g
as-mode-good None k g = refl

stop-good : (timeout : ℕ) (m : ControlMode) → Good (stop_in timeout m)
unfolding parameter_info kind_of among listed_ids int8_ids uint8_ids uint16_ids uint32_ids
stop-good timeout mode.Mit = refl
stop-good timeout mode.Position = refl
stop-good timeout mode.Velocity = refl
stop-good timeout mode.PositionCsp = refl

try-good : (left : ℕ) (a : Aim) → Good (try_in left a)
unfolding parameter_info kind_of among listed_ids int8_ids
try-good zero a = refl
try-good (suc left) a = refl

ensure-good : (stage : Ensure) (a : Aim) → Good (ensure_acked stage a)
ensure-good ensure.Off a = tt
ensure-good ensure.Try a = try-good a.left a
ensure-good ensure.Written a = tt
ensure-good ensure.Back a = refl

pub ok-good : (k : Acked) → Good (acked_of k)
unfolding parameter_info kind_of among listed_ids int8_ids uint8_ids uint16_ids uint32_ids
ok-good acked.Done = tt
ok-good acked.FaultCleared = tt
ok-good acked.ZeroState = refl
ok-good (acked.Stopped m) = tt
ok-good (acked.CspEnable position most) = refl
ok-good (acked.CspLimit position most) = either Good (is_usable (abs_of most)) _ _ refl refl
ok-good (acked.PpEnable position most acceleration) = refl
ok-good (acked.PpVelocity position most acceleration) =
    either Good (is_usable (abs_of most)) _ _ refl (either Good (is_usable (abs_of acceleration)) _ _ refl refl)
ok-good (acked.PpAcceleration position acceleration) = either Good (is_usable (abs_of acceleration)) _ _ refl refl
ok-good (acked.Target position) = refl
ok-good (acked.Ensure stage a) = ensure-good stage a

lost-good : (k : Acked) → Good (not_acked k)
unfolding among
lost-good (acked.Ensure ensure.Off a) = tt
lost-good (acked.Ensure ensure.Written a) = tt
lost-good _ = refl

first_good : (a : Aim) (v : Option ℤ) → Good (first_read a v)
first_good a (Some v) = either Good (is_mode a v) _ _ tt refl
first_good a None = refl

back-good : (a : Aim) (v : Option ℤ) → Good (back_read a v)
back-good a (Some v) = either Good (is_mode a v) _ _ tt tt
back-good a None = tt

flag-good : (v : ParameterValue) → Good (as_flag v)
unfolding among
flag-good (value.U8 v) = tt
flag-good _ = refl

float_good : (f : Option Word) (k : Word → Node) → ((w : Word) → Good (k w)) → Good (as_float f k)
unfolding among
float_good (Some w) k g = g w
float_good None k g = refl

signed-good : (n : Option ℤ) (k : ℤ → Node) → ((v : ℤ) → Good (k v)) → Good (as_signed n k)
unfolding among
signed-good (Some v) k g = g v
signed-good None k g = refl

pub got-good : (s : Sight) (k : Got) (v : ParameterValue) → Good (got_value s k v)
unfolding parameter_info kind_of among listed_ids int8_ids uint8_ids uint16_ids uint32_ids
got-good s got.Value v = tt
got-good s got.Flag v = flag-good v
got-good s got.F32 v = float_good (float_in v) _ (λ w. tt)
got-good s got.I8 v = signed-good (signed_in v) _ (λ n. tt)
got-good s got.Mode v = as-mode-good (signed_in v) _ (λ m. tt)
got-good s (got.StopMode timeout) v = as-mode-good (signed_in v) (stop_in timeout) (stop-good timeout)
got-good s got.StopCsp v = float_good (float_in v) _ (λ w. refl)
got-good s got.StopMit v = float_good (float_in v) _ (λ w. tt)
got-good s (got.EnsureFirst a) v = first_good a (signed_in v)
got-good s (got.EnsureBack a) v = back-good a (signed_in v)

lost-got-good : (k : Got) → Good (no_value k)
unfolding among
lost-got-good (got.EnsureBack a) = tt
lost-got-good _ = refl

pub pinged-good : (k : Pinged) → Good (got_ping k)
pinged-good pinged.Report = tt
pinged-good (pinged.Rename new) = tt

pub gone-good : (w : Wait) → Good (windows_gone w)
unfolding among
gone-good (wait.Acknowledged by r k) = lost-good k
gone-good (wait.Value id k) = lost-got-good k
gone-good (wait.Ping k) = refl
gone-good wait.Version = refl
