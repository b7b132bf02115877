-- A move is refused by 16, 17, 18 or 20, or not at all; finished or failed leaves no operation. Assumes nothing.
use Rattle.std.proofs.Common.{◌≡◌, ℕ, true, false, eqb, ltb, refl, arith, Option, Some, None, Result, Ok, Err, is_some}
use Rattle.std.specs.Option.{option_map_or}
use Rattle.codec.specs.declared.replies.VersionReply.{VersionReply}
use Rattle.motor.specs.declared.engine.reading.Stored.{Stored}
use Rattle.codec.specs.declared.error.Refusal.{Refusal}
use Rattle.codec.specs.declared.bus.CanFrame.{CanFrame}
use Rattle.codec.specs.Values.{encode_parameter_value}
use Rattle.motor.specs.declared.engine.command.Command.{Command}
use Rattle.motor.specs.declared.engine.command.Said.{Said}
use Rattle.motor.specs.declared.engine.command.Said.TheVariants as said
use Rattle.motor.specs.declared.engine.operation.Effect.{Effect}
use Rattle.motor.specs.declared.engine.operation.Effect.TheVariants as effect
use Rattle.motor.specs.declared.engine.operation.Move.{Move}
use Rattle.motor.specs.declared.engine.operation.Operation.{Operation}
use Rattle.motor.specs.declared.engine.operation.Phase.{Phase}
use Rattle.motor.specs.declared.engine.operation.Phase.TheVariants as phase
use Rattle.motor.specs.declared.engine.operation.Sight.{Sight}
use Rattle.motor.specs.declared.engine.node.Acked.{Acked}
use Rattle.motor.specs.declared.engine.node.Node.{Node}
use Rattle.motor.specs.declared.engine.node.Node.TheVariants as node
use Rattle.motor.specs.declared.engine.node.Wait.{Wait}
use Rattle.motor.specs.declared.engine.node.Wait.TheVariants as wait
use Rattle.motor.specs.Calls.{is_idle, argued_of, encodes}
use Rattle.motor.specs.engine.Hosts.{next_host}
use Rattle.motor.specs.engine.Operations.{begins_with, acked_of, got_value, got_ping, windows_gone}
use Rattle.motor.specs.engine.Run.{no_operation, waits, acknowledgement_count, send_then, write, entered, retried, retry_at, looked, advanced, begun_by, version_reported, timed}
use Rattle.motor.proofs.engine.Choices.{either}
use Rattle.motor.proofs.GoodNodes.{ends_by, Good, ok-good, got-good, pinged-good, gone-good}
use Rattle.motor.proofs.Commands.{begins-good}

-- finished or failed leaves no operation; failed, it is by one of those numbers, and nothing that is held changes
abbrev pub Closed : Said → Operation → Effect → Type 0
Closed (said.Sent due) op e = Unit {0}
Closed (said.Waiting due) op e = Unit {0}
Closed (said.Finished r) op e = op ≡ no_operation
Closed (said.FinishedWith r) op e = op ≡ no_operation
Closed (said.Refused r) op e = (ends_by r ≡ true) × (op ≡ no_operation) × (e ≡ effect.Nothing)

abbrev pub Ends : Move → Type 0
Ends m = Closed m.said m.operation m.effect

-- ---- a good node is entered

module _ (s : Sight) (now : ℕ) where
  send-ends : (f : CanFrame) (k : Acked) (n : Node) → Ends (send_then now f k n)
  send-ends f k (node.Finish r) = refl
  send-ends f k (node.Pause d then) = tt
  send-ends f k _ = tt

  write-ends : (id : ℕ) (k : Acked) (e : Result ℕ Refusal) → encodes e ≡ Ok tt → Ends (write s now id k e)
  write-ends id k (Ok raw) h =
      either Ends (eqb s.write_wait 0) _ _ (send-ends _ k (acked_of k)) tt
  write-ends id k (Err r) h =
      let z : ◌≡◌ {A = ℕ} 0 1 = cc in
      absurd (omega arith)

  enter-ends : (n : Node) → Good n → Ends (entered s now n)
  enter-ends (node.Finish r) g = refl
  enter-ends node.Report g = refl
  enter-ends node.ClearFault g = refl
  enter-ends (node.Fail r) g = (g, refl, refl)
  enter-ends (node.Pause d k) g = tt
  enter-ends (node.Last r) g = refl
  enter-ends (node.Write id v k) g = write-ends id k (encode_parameter_value id v) g
  enter-ends (node.Await w window whom) g = tt
  enter-ends (node.Motion t r) g = refl
  enter-ends (node.Rename new) g = refl

-- ---- moves

module _ (s : Sight) (now : ℕ) where
  pub begin-ends : (c : Command) → argued_of c ≡ Ok tt → Ends (begun_by s now c)
  begin-ends c h = enter-ends s now (begins_with c) (begins-good c h)

  module _ (op : Operation) where
    retry-ends : (w : Wait) → Ends (retried s now op w)
    retry-ends w = go (next_host s.feedback_id op.hosts op.candidate)
      where
        go : (h : Option (ℕ × ℕ)) → Ends (retry_at s now op w h)
        go (Some (h, next)) = tt
        go None = enter-ends s now (windows_gone w) (gone-good w)

    look-ends : (f : Option Stored) (w : Wait) → Ends (looked s now op f w)
    look-ends f (wait.Acknowledged by r k) =
        either Ends (ltb now op.due) _ _ (either Ends (ltb op.mark (acknowledgement_count s by)) (entered s now (acked_of k)) (waits op) (enter-ends s now (acked_of k) (ok-good k)) tt) (retry-ends (wait.Acknowledged by r k))
    look-ends (Some r) (wait.Value id k) = enter-ends s now (got_value s k r.value) (got-good s k r.value)
    look-ends None (wait.Value id k) = either Ends (ltb now op.due) _ _ tt (retry-ends (wait.Value id k))
    look-ends f (wait.Ping k) =
        either Ends (is_some s.ping_reply) _ _ (enter-ends s now (got_ping k) (pinged-good k))
        (either Ends (ltb now op.due) _ _ tt (retry-ends (wait.Ping k)))
    look-ends f wait.Version = go op.answer
      where
        go : (answer : Option VersionReply) → Ends (option_map_or version_reported answer (timed s now op wait.Version (waits op)))
        go (Some reply) = refl
        go None = either Ends (ltb now op.due) _ _ tt (retry-ends wait.Version)

    pub advance-ends : (f : Option Stored) (p : Phase) → is_idle p ≡ false → Ends (advanced s now op f p)
    advance-ends f phase.Idle h =
        let z : ◌≡◌ {A = ℕ} 0 1 = cc in
        absurd (omega arith)
    advance-ends f (phase.Pausing k) h = either Ends (ltb now op.due) _ _ tt (enter-ends s now (acked_of k) (ok-good k))
    advance-ends f (phase.Waiting w) h = look-ends f w
