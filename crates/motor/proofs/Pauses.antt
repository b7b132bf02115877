-- A step at or after the due time says waiting only where a pause has begun. Assumes nothing.
use Rattle.std.proofs.Common.{◌≡◌, ℕ, Bool, true, false, eqb, ltb, refl, Option, Some, None, Result, Ok, Err}
use Rattle.std.specs.Option.{option_map_or, is_some}
use Rattle.codec.specs.declared.replies.VersionReply.{VersionReply}
use Rattle.motor.specs.declared.engine.reading.Stored.{Stored}
use Rattle.codec.specs.declared.error.Refusal.{Refusal}
use Rattle.codec.specs.declared.bus.CanFrame.{CanFrame}
use Rattle.codec.specs.Values.{encode_parameter_value}
use Rattle.motor.specs.declared.engine.command.Said.{Said}
use Rattle.motor.specs.declared.engine.command.Said.TheVariants as said
use Rattle.motor.specs.declared.engine.operation.Move.{Move}
use Rattle.motor.specs.declared.engine.operation.Operation.{Operation}
use Rattle.motor.specs.declared.engine.operation.Phase.{Phase}
use Rattle.motor.specs.declared.engine.operation.Phase.TheVariants as phase
use Rattle.motor.specs.declared.engine.operation.Sight.{Sight}
use Rattle.motor.specs.declared.engine.node.Acked.{Acked}
use Rattle.motor.specs.declared.engine.node.Node.{Node}
use Rattle.motor.specs.declared.engine.node.Node.TheVariants as node
use Rattle.motor.specs.declared.engine.node.Wait.{Wait}
use Rattle.motor.specs.declared.engine.node.Wait.TheVariants as wait
use Rattle.motor.specs.Bounds.{is_pausing}
use Rattle.motor.specs.engine.Hosts.{next_host}
use Rattle.motor.specs.engine.Operations.{acked_of, got_value, got_ping, windows_gone}
use Rattle.motor.specs.engine.Run.{send_then, write, entered, retry_at, timed, looked, advanced, version_reported, waits}
use Rattle.motor.proofs.engine.Choices.{either}

-- waiting is said in a pause alone
abbrev pub pauses_by : Said → Phase → Bool
pauses_by (said.Sent due) p = true
pauses_by (said.Waiting due) p = is_pausing p
pauses_by (said.Finished r) p = true
pauses_by (said.FinishedWith r) p = true
pauses_by (said.Refused r) p = true

abbrev pub Pauses : Move → Type 0
Pauses m = pauses_by m.said m.operation.phase ≡ true

module _ (s : Sight) (now : ℕ) where
  -- ---- a node is entered

  send-pauses : (f : CanFrame) (k : Acked) (n : Node) → Pauses (send_then now f k n)
  send-pauses f k (node.Finish r) = refl
  send-pauses f k (node.Pause d then) = refl
  send-pauses f k _ = refl

  write-pauses : (id : ℕ) (k : Acked) (e : Result ℕ Refusal) → Pauses (write s now id k e)
  write-pauses id k (Ok raw) = either Pauses (eqb s.write_wait 0) _ _ (send-pauses _ k (acked_of k)) refl
  write-pauses id k (Err r) = refl

  enter-pauses : (n : Node) → Pauses (entered s now n)
  enter-pauses (node.Write id v k) = write-pauses id k (encode_parameter_value id v)
  enter-pauses _ = refl

  -- ---- a step at or after the due time

  module _ (op : Operation) (late : ltb now op.due ≡ false) where
    retry-pauses : (w : Wait) (h : Option (ℕ × ℕ)) → Pauses (retry_at s now op w h)
    retry-pauses w (Some (h, next)) = refl
    retry-pauses w None = enter-pauses (windows_gone w)

    timed-pauses : (w : Wait) (v : Move) → Pauses (timed s now op w v)
    timed-pauses w v = rw late (retry-pauses w (next_host s.feedback_id op.hosts op.candidate))

    look-pauses : (w : Wait) (r : Option Stored) → Pauses (looked s now op r w)
    look-pauses (wait.Acknowledged by r k) x = timed-pauses (wait.Acknowledged by r k) _
    look-pauses (wait.Value id k) (Some r) = enter-pauses (got_value s k r.value)
    look-pauses (wait.Value id k) None = timed-pauses (wait.Value id k) _
    look-pauses (wait.Ping k) x = either Pauses (is_some s.ping_reply) _ _ (enter-pauses (got_ping k)) (timed-pauses (wait.Ping k) _)
    look-pauses wait.Version x = go op.answer
      where
        go : (answer : Option VersionReply) → Pauses (option_map_or version_reported answer (timed s now op wait.Version (waits op)))
        go (Some reply) = refl
        go None = timed-pauses wait.Version _

    pub late-pauses : (p : Phase) (r : Option Stored) → Pauses (advanced s now op r p)
    late-pauses phase.Idle r = refl
    late-pauses (phase.Pausing k) r = rw late (enter-pauses (acked_of k))
    late-pauses (phase.Waiting w) r = look-pauses w r
