-- The theorem `every-write`: each write that a start or a step sends, in whatever operation, is of a value that the encoder takes, since
-- every write is entered as a node that is good, and a further attempt asks what the wait before it asked. Assumes nothing.
use Rattle.std.proofs.Common.{◌≡◌, ℕ, false, eqb, ltb, List, [], ◌∷◌, sym, refl, subst, true≢false, arith, Option, Some, None, Result, Ok, Err, is_some}
use Rattle.std.specs.Prelude.{⊤}
use Rattle.std.specs.Option.{option_map_or}
use Rattle.codec.specs.declared.replies.VersionReply.{VersionReply}
use Rattle.motor.specs.declared.engine.reading.Stored.{Stored}
use Rattle.codec.specs.declared.error.Refusal.{Refusal}
use Rattle.codec.specs.declared.bus.CanFrame.{CanFrame}
use Rattle.codec.specs.declared.protocol.ParameterValue.{ParameterValue}
use Rattle.codec.specs.Values.{encode_parameter_value}
use Rattle.motor.specs.declared.engine.command.Command.{Command}
use Rattle.motor.specs.declared.engine.operation.Move.{Move}
use Rattle.motor.specs.declared.engine.operation.Operation.{Operation}
use Rattle.motor.specs.declared.engine.operation.Phase.{Phase}
use Rattle.motor.specs.declared.engine.operation.Phase.TheVariants as phase
use Rattle.motor.specs.declared.engine.operation.Sight.{Sight}
use Rattle.motor.specs.declared.engine.node.Acked.{Acked}
use Rattle.motor.specs.declared.engine.node.Node.{Node}
use Rattle.motor.specs.declared.engine.node.Node.TheVariants as node
use Rattle.motor.specs.declared.engine.node.Request.{Request}
use Rattle.motor.specs.declared.engine.node.Request.TheVariants as request
use Rattle.motor.specs.declared.engine.node.Wait.{Wait}
use Rattle.motor.specs.declared.engine.node.Wait.TheVariants as wait
use Rattle.motor.specs.Bounds.{LoneEvent, start, step, frame, other, after_event, after_events}
use Rattle.motor.specs.Calls.{encodes, argued_of, start_admitted, start_said, step_said, sight_of, wanted}
use Rattle.motor.specs.Lone.{Lone, LoneAnswered, lone_new, lone_start_by, lone_start, lone_step_by, lone_step, hears}
use Rattle.motor.specs.Readings.{lookup}
use Rattle.motor.specs.Writes.{AsEncoded, Sent, nothing, asks, drives, renames, SentFrom, EveryWrite}
use Rattle.motor.specs.engine.Hosts.{next_host}
use Rattle.motor.specs.engine.Operations.{begins_with, acked_of, got_value, got_ping, windows_gone}
use Rattle.motor.specs.engine.Run.{waits, request_of, acknowledgement_count, send_then, write, entered, retried, retry_at, looked, advanced, version_reported, timed}
use Rattle.motor.proofs.engine.Choices.{either}
use Rattle.motor.proofs.Commands.{begins-good}
use Rattle.motor.proofs.GoodNodes.{is_write, Good, ok-good, got-good, pinged-good, gone-good}
use Rattle.motor.proofs.ReceivingTheorems.{lone-keeps-operation}
use Rattle.motor.proofs.Stays.{argued-passed}

-- what is no write carries no value
no_write : (r : Request) → is_write r ≡ false → AsEncoded r
no_write request.Ping e = tt
no_write request.Enable e = tt
no_write request.Disable e = tt
no_write request.ClearError e = tt
no_write request.SetZeroPosition e = tt
no_write (request.Read id) e = tt
no_write (request.Write id raw) e = absurd (true≢false e)
no_write request.SaveParameters e = tt
no_write (request.ActiveReport on) e = tt
no_write (request.SetProtocol protocol) e = tt
no_write request.Version e = tt

-- what a wait asks, and asks again
abbrev pub AsksIn : Phase → Type 0
AsksIn phase.Idle = Unit {0}
AsksIn (phase.Pausing k) = Unit {0}
AsksIn (phase.Waiting w) = AsEncoded (request_of w)

-- ---- moves

abbrev Sends : Sight → Move → Type 0
Sends s v = Sent s v.frame × AsksIn v.operation.phase

module _ (s : Sight) (now : ℕ) where
  then-sends : (f : CanFrame) (k : Acked) (n : Node) → Sent s f → Sends s (send_then now f k n)
  then-sends f k (node.Finish r) h = (h, tt)
  then-sends f k (node.Pause d then) h = (h, tt)
  then-sends f k _ h = (h, tt)

  write-sends : (id : ℕ) (v : ParameterValue) (k : Acked) (e : Result ℕ Refusal) → encode_parameter_value id v ≡ e → encodes e ≡ Ok tt
      → Sends s (write s now id k e)
  write-sends id v k (Ok raw) q p =
      let sent : Sent s _ = asks (request.Write id raw) s.feedback_id (v, q) refl in
      either (Sends s) (eqb s.write_wait 0) _ _ (then-sends _ k (acked_of k) sent) (sent, (v, q))
  write-sends id v k (Err r) q p =
      let z : ◌≡◌ {A = ℕ} 0 1 = cc in
      absurd (omega arith)

  enter-sends : (n : Node) → Good n → Sends s (entered s now n)
  enter-sends (node.Finish r) g = (nothing refl, tt)
  enter-sends node.Report g = (nothing refl, tt)
  enter-sends node.ClearFault g = (nothing refl, tt)
  enter-sends (node.Fail r) g = (nothing refl, tt)
  enter-sends (node.Pause d k) g = (nothing refl, tt)
  enter-sends (node.Last r) g = (asks r s.feedback_id (no_write r g) refl, tt)
  enter-sends (node.Write id v k) g = write-sends id v k (encode_parameter_value id v) refl g
  enter-sends (node.Await w window whom) g = (asks (request_of w) _ (no_write (request_of w) g) refl, no_write (request_of w) g)
  enter-sends (node.Motion t r) g = (drives _ refl, tt)
  enter-sends (node.Rename new) g = (renames new refl, tt)

  module _ (op : Operation) (same : AsksIn op.phase) where
    still-sends : Sends s (waits op)
    still-sends = (nothing refl, same)

    retry-sends : (w : Wait) → AsEncoded (request_of w) → Sends s (retried s now op w)
    retry-sends w a = go (next_host s.feedback_id op.hosts op.candidate)
      where
        go : (h : Option (ℕ × ℕ)) → Sends s (retry_at s now op w h)
        go (Some (h, next)) = (asks (request_of w) h a refl, a)
        go None = enter-sends (windows_gone w) (gone-good w)

    look-sends : (f : Option Stored) (w : Wait) → AsEncoded (request_of w) → Sends s (looked s now op f w)
    look-sends f (wait.Acknowledged by r k) a =
        either (Sends s) (ltb now op.due) _ _
        (either (Sends s) (ltb op.mark (acknowledgement_count s by)) _ _ (enter-sends (acked_of k) (ok-good k)) still-sends)
        (retry-sends (wait.Acknowledged by r k) a)
    look-sends (Some r) (wait.Value id k) a = enter-sends (got_value s k r.value) (got-good s k r.value)
    look-sends None (wait.Value id k) a = either (Sends s) (ltb now op.due) _ _ still-sends (retry-sends (wait.Value id k) a)
    look-sends f (wait.Ping k) a =
        either (Sends s) (is_some s.ping_reply) _ _ (enter-sends (got_ping k) (pinged-good k))
        (either (Sends s) (ltb now op.due) _ _ still-sends (retry-sends (wait.Ping k) a))
    look-sends f wait.Version a = go op.answer
      where
        go : (answer : Option VersionReply) → Sends s (option_map_or version_reported answer (timed s now op wait.Version (waits op)))
        go (Some reply) = (nothing refl, tt)
        go None = either (Sends s) (ltb now op.due) _ _ still-sends (retry-sends wait.Version a)

    advance-sends : (f : Option Stored) (p : Phase) → AsksIn p → Sends s (advanced s now op f p)
    advance-sends f phase.Idle a = (nothing refl, tt)
    advance-sends f (phase.Pausing k) a = either (Sends s) (ltb now op.due) _ _ still-sends (enter-sends (acked_of k) (ok-good k))
    advance-sends f (phase.Waiting w) a = look-sends f w a

-- ---- starts and steps, and whatever comes before

abbrev pub AsksEncoded : Lone → Type 0
AsksEncoded l = AsksIn l.state.operation.phase

abbrev pub SendsFrom : Lone → LoneAnswered → Type 0
SendsFrom l a = SentFrom l a × AsksEncoded a.lone

pub start-sends : (l : Lone) (c : Command) (now : ℕ) → AsksEncoded l → SendsFrom l (lone_start l c now)
start-sends l c now h = go (start_said l.state.clock l.state.operation.phase c now) refl
  where
    go : (said : Result ⊤ Refusal) → start_said l.state.clock l.state.operation.phase c now ≡ said → SendsFrom l (lone_start_by said l c now)
    go (Ok tt) e =
        enter-sends (sight_of l.state) now (begins_with c)
        (begins-good c (argued-passed (start_admitted l.state.clock l.state.operation.phase c now) (argued_of c) e))
    go (Err r) e = (nothing refl, h)

pub step-sends : (l : Lone) (now : ℕ) → AsksEncoded l → SendsFrom l (lone_step l now)
step-sends l now h = go (step_said l.state.clock l.state.operation.phase now)
  where
    go : (said : Result ⊤ Refusal) → SendsFrom l (lone_step_by said l now)
    go (Ok tt) =
        let op = l.state.operation in
        advance-sends (sight_of l.state) now op h (wanted op.phase (λ id. lookup id l.readings)) op.phase h
    go (Err r) = (nothing refl, h)

pub frame-asks : (l : Lone) (f : CanFrame) (now : ℕ) → AsksEncoded l → AsksEncoded (hears l f now).lone
frame-asks l f now h = subst (λ (op : Operation). AsksIn op.phase) (sym (lone-keeps-operation l f now).0) h

asked-after : (l : Lone) (es : List LoneEvent) → AsksEncoded l → AsksEncoded (after_events l es)
asked-after l [] h = h
asked-after l (start c now ∷ es) h = asked-after (after_event l (start c now)) es (start-sends l c now h).1
asked-after l (step now ∷ es) h = asked-after (after_event l (step now)) es (step-sends l now h).1
asked-after l (frame f now ∷ es) h = asked-after (after_event l (frame f now)) es (frame-asks l f now h)
asked-after l (other ∷ es) h = asked-after l es h

pub every-write : EveryWrite
every-write =
    record {
      started =
          λ id host model wait since es c now.
          let l = lone_new id host model wait since in
          (start-sends (after_events l es) c now (asked-after l es tt)).0;
      stepped =
          λ id host model wait since es now.
          let l = lone_new id host model wait since in
          (step-sends (after_events l es) now (asked-after l es tt)).0;
    }
