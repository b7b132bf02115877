-- What follows each end of a wait is within what was left there, and paced. Assumes nothing.
use Rattle.std.proofs.Common.{ℕ, zero, suc, ◌+◌, ◌*◌, ◌≤◌, ℤ, arith, Option, Some, None, Result, Ok, Err}
use Rattle.codec.specs.declared.error.Refusal.{Refusal}
use Rattle.codec.specs.declared.protocol.ParameterValue.{ParameterValue}
use Rattle.codec.specs.declared.protocol.ParameterValue.TheVariants as value
use Rattle.codec.specs.declared.registers.ControlMode.{ControlMode}
use Rattle.codec.specs.declared.registers.ControlMode.TheVariants as mode
use Rattle.codec.specs.declared.word.Word.{Word}
use Rattle.codec.specs.Modes.{control_mode_from_raw}
use Rattle.motor.specs.declared.engine.operation.Sight.{Sight}
use Rattle.motor.specs.declared.engine.node.Acked.{Acked}
use Rattle.motor.specs.declared.engine.node.Acked.TheVariants as acked
use Rattle.motor.specs.declared.engine.node.Aim.{Aim}
use Rattle.motor.specs.declared.engine.node.Ensure.{Ensure}
use Rattle.motor.specs.declared.engine.node.Ensure.TheVariants as ensure
use Rattle.motor.specs.declared.engine.node.Got.{Got}
use Rattle.motor.specs.declared.engine.node.Got.TheVariants as got
use Rattle.motor.specs.declared.engine.node.Node.{Node}
use Rattle.motor.specs.declared.engine.node.Pinged.{Pinged}
use Rattle.motor.specs.declared.engine.node.Pinged.TheVariants as pinged
use Rattle.motor.specs.declared.engine.node.Wait.{Wait}
use Rattle.motor.specs.declared.engine.node.Wait.TheVariants as wait
use Rattle.motor.specs.engine.Operations.{acked_of, not_acked, got_value, no_value, got_ping, windows_gone}
use Rattle.motor.specs.engine.Script.{signed_in, float_in, as_flag, as_signed, as_float, mode_or17, stop_in, abs_of, is_usable, put_limit, try_in, first_read, back_read, is_mode, ensure_acked, ensure_lost}
use Rattle.motor.proofs.Measures.{by-test, window-small, four, tries, acked_left, got_left, pinged_left, wait_left, Fits}

module _ (f d : ℕ) where
  -- ---- after an acknowledgement or a pause

  -- a limit is written, or what follows comes at once
  limit-fits : (m id : ℕ) (w : Word) (k : Acked) (n : Node) → four f d + acked_left f d k ≤ m → Fits f d m n → Fits f d m (put_limit id w k n)
  limit-fits m id w k n h g = by-test (λ t x. Fits f d m x) (is_usable (abs_of w)) (λ e. (h, tt)) (λ e. g)

  -- one attempt of those left, or 18
  try-fits : (left : ℕ) (a : Aim) → Fits f d (tries f d left) (try_in left a)
  try-fits zero a = (omega arith, tt)
  try-fits (suc left) a = (omega arith, tt)

  -- ensure_control_mode, acknowledged or after a pause
  ensure-fits : (stage : Ensure) (a : Aim) → Fits f d (acked_left f d (acked.Ensure stage a)) (ensure_acked stage a)
  ensure-fits ensure.Off a = (omega arith, (omega arith, omega arith))
  ensure-fits ensure.Try a = try-fits a.left a
  ensure-fits ensure.Written a = (omega arith, (omega arith, omega arith))
  ensure-fits ensure.Back a = (omega arith, window-small a.timeout 150 (omega arith))

  pub ok-fits : (k : Acked) → Fits f d (acked_left f d k) (acked_of k)
  ok-fits acked.Done = (omega arith, tt)
  ok-fits acked.FaultCleared = (omega arith, tt)
  ok-fits acked.ZeroState = (omega arith, tt)
  ok-fits (acked.Stopped m) = (omega arith, tt)
  ok-fits (acked.CspEnable p v) = (omega arith, omega arith)
  ok-fits (acked.CspLimit p v) = limit-fits (8 * (f + d)) 0x7017 v (acked.Target p) _ (omega arith) (omega arith, tt)
  ok-fits (acked.PpEnable p v a) = (omega arith, omega arith)
  ok-fits (acked.PpVelocity p v a) =
      limit-fits (12 * (f + d)) 0x7024 v (acked.PpAcceleration p a) _ (omega arith)
      (limit-fits (12 * (f + d)) 0x7025 a (acked.Target p) _ (omega arith) (omega arith, tt))
  ok-fits (acked.PpAcceleration p a) = limit-fits (8 * (f + d)) 0x7025 a (acked.Target p) _ (omega arith) (omega arith, tt)
  ok-fits (acked.Target p) = (omega arith, tt)
  ok-fits (acked.Ensure stage a) = ensure-fits stage a

  -- ---- after the last window

  -- ensure_control_mode, the last window gone
  ensure-lost-fits : (stage : Ensure) (a : Aim) → Fits f d (acked_left f d (acked.Ensure stage a)) (ensure_lost stage a)
  ensure-lost-fits ensure.Off a = (omega arith, (omega arith, omega arith))
  ensure-lost-fits ensure.Try a = (omega arith, tt)
  ensure-lost-fits ensure.Written a = (omega arith, (omega arith, omega arith))
  ensure-lost-fits ensure.Back a = (omega arith, tt)

  lost-fits : (k : Acked) → Fits f d (acked_left f d k) (not_acked k)
  lost-fits (acked.Ensure stage a) = ensure-lost-fits stage a
  lost-fits _ = (omega arith, tt)

  lost-got-fits : (k : Got) → Fits f d (got_left f d k) (no_value k)
  lost-got-fits (got.EnsureFirst a) = (omega arith, omega arith)
  lost-got-fits (got.EnsureBack a) = (omega arith, (omega arith, omega arith))
  lost-got-fits _ = (omega arith, tt)

  pub gone-fits : (w : Wait) → Fits f d (wait_left f d w) (windows_gone w)
  gone-fits (wait.Acknowledged by r k) = lost-fits k
  gone-fits (wait.Value id k) = lost-got-fits k
  gone-fits (wait.Ping k) = (omega arith, tt)
  gone-fits wait.Version = (omega arith, tt)

  -- ---- after a value or a ping reply

  -- values of another kind end it, and so do numbers that are no mode
  flag-fits : (v : ParameterValue) → Fits f d 0 (as_flag v)
  flag-fits (value.U8 v) = (omega arith, tt)
  flag-fits _ = (omega arith, tt)

  float_fits : (m : ℕ) (x : Option Word) (k : Word → Node) → ((w : Word) → Fits f d m (k w)) → Fits f d m (as_float x k)
  float_fits m (Some w) k h = h w
  float_fits m None k h = (omega arith, tt)

  signed-fits : (m : ℕ) (x : Option ℤ) (k : ℤ → Node) → ((n : ℤ) → Fits f d m (k n)) → Fits f d m (as_signed x k)
  signed-fits m (Some n) k h = h n
  signed-fits m None k h = (omega arith, tt)

  mode-fits : (m : ℕ) (x : Result ControlMode Refusal) (k : ControlMode → Node) → ((c : ControlMode) → Fits f d m (k c)) → Fits f d m (mode_or17 x k)
  mode-fits m (Ok c) k h = h c
  mode-fits m (Err r) k h = (omega arith, tt)

  -- controlled_stop in each mode
  stop-fits : (timeout : ℕ) (m : ControlMode) → Fits f d (8 * (f + d)) (stop_in timeout m)
  stop-fits timeout mode.Mit = (omega arith, window-small timeout 150 (omega arith))
  stop-fits timeout mode.Position = (omega arith, tt)
  stop-fits timeout mode.Velocity = (omega arith, tt)
  stop-fits timeout mode.PositionCsp = (omega arith, window-small timeout 150 (omega arith))

  -- ensure_control_mode's reads
  first_fits : (a : Aim) (x : Option ℤ) → Fits f d (got_left f d (got.EnsureFirst a)) (first_read a x)
  first_fits a (Some v) =
      by-test (λ t n. Fits f d (got_left f d (got.EnsureFirst a)) n) (is_mode a v) (λ e. (omega arith, tt)) (λ e. (omega arith, omega arith))
  first_fits a None = (omega arith, omega arith)

  back_fits : (a : Aim) (x : Option ℤ) → Fits f d (got_left f d (got.EnsureBack a)) (back_read a x)
  back_fits a (Some v) =
      by-test (λ t n. Fits f d (got_left f d (got.EnsureBack a)) n) (is_mode a v) (λ e. (omega arith, tt))
      (λ e. (omega arith, (omega arith, omega arith)))
  back_fits a None = (omega arith, (omega arith, omega arith))

  pub got-fits : (s : Sight) (k : Got) (v : ParameterValue) → Fits f d (got_left f d k) (got_value s k v)
  got-fits s got.Value v = (omega arith, tt)
  got-fits s got.Flag v = flag-fits v
  got-fits s got.F32 v = float_fits 0 (float_in v) _ (λ w. (omega arith, tt))
  got-fits s got.I8 v = signed-fits 0 (signed_in v) _ (λ n. (omega arith, tt))
  got-fits s got.Mode v = signed-fits 0 (signed_in v) _ (λ n. mode-fits 0 (control_mode_from_raw n) _ (λ m. (omega arith, tt)))
  got-fits s (got.StopMode timeout) v = signed-fits (8 * (f + d)) (signed_in v) _ (λ n. mode-fits (8 * (f + d)) (control_mode_from_raw n) _ (stop-fits timeout))
  got-fits s got.StopCsp v = float_fits (4 * (f + d)) (float_in v) _ (λ w. (omega arith, tt))
  got-fits s got.StopMit v = float_fits f (float_in v) _ (λ w. (omega arith, tt))
  got-fits s (got.EnsureFirst a) v = first_fits a (signed_in v)
  got-fits s (got.EnsureBack a) v = back_fits a (signed_in v)

  pub pinged-fits : (k : Pinged) → Fits f d (pinged_left f d k) (got_ping k)
  pinged-fits pinged.Report = (omega arith, tt)
  pinged-fits (pinged.Rename new) = (omega arith, tt)
