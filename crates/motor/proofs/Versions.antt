-- The theorem `versions`: every answer of get_version is what the codec decodes of a version reply, never 23; none is held outside its
-- wait, where the old rule holds. Assumes nothing.
use Rattle.std.proofs.Common.{◌≡◌, ℕ, Bool, true, false, cond, not, ◌&&◌, eqb, ltb, List, [], ◌∷◌, sym, refl, ap, subst, true≢false, arith, Option, Some, None, Result, Ok, Err, is_some, ◌∙◌}
use Rattle.std.specs.Prelude.{⊤}
use Rattle.std.specs.Option.{option_map_or}
use Rattle.motor.specs.declared.engine.reading.Stored.{Stored}
use Rattle.codec.specs.declared.error.Refusal.{Refusal}
use Rattle.codec.specs.declared.bus.CanFrame.{CanFrame}
use Rattle.codec.specs.declared.model.Model.{Model}
use Rattle.codec.specs.declared.replies.VersionReply.{VersionReply}
use Rattle.codec.specs.Kinds.{among}
use Rattle.codec.specs.Refusals.{number_of}
use Rattle.codec.specs.Numbers.{said_in}
use Rattle.codec.specs.Replies.{is_version_reply, version_reply}
use Rattle.codec.specs.Values.{encode_parameter_value}
use Rattle.motor.specs.declared.engine.command.Command.{Command}
use Rattle.motor.specs.declared.engine.command.Outcome.TheVariants as outcome
use Rattle.motor.specs.declared.engine.command.Said.TheVariants as said
use Rattle.motor.specs.declared.engine.operation.Move.{Move}
use Rattle.motor.specs.declared.engine.operation.Operation.{Operation}
use Rattle.motor.specs.declared.engine.operation.Phase.{Phase}
use Rattle.motor.specs.declared.engine.operation.Phase.TheVariants as phase
use Rattle.motor.specs.declared.engine.operation.Sight.{Sight}
use Rattle.motor.specs.declared.engine.node.Acked.{Acked}
use Rattle.motor.specs.declared.engine.node.Node.{Node}
use Rattle.motor.specs.declared.engine.node.Node.TheVariants as node
use Rattle.motor.specs.declared.engine.node.Wait.{Wait}
use Rattle.motor.specs.declared.engine.node.Wait.TheVariants as wait
use Rattle.motor.specs.declared.motor.State.{State}
use Rattle.motor.specs.Bounds.{LoneEvent, start, step, frame, other, after_event, after_events}
use Rattle.motor.specs.Calls.{start_said, step_said, sight_of, wanted}
use Rattle.motor.specs.Lone.{Lone, lone_new, lone_start_by, lone_start, lone_step_by, lone_step, hears}
use Rattle.motor.specs.Readings.{lookup, room}
use Rattle.motor.specs.Receive.{parts_of, counted_at, told_by, awaits_version, is_answer, version_in, answer_taken, taken_by, read_id, frame_said, state_after}
use Rattle.motor.specs.Versions.{Told, AnswerIn, none, from, Versions}
use Rattle.motor.specs.engine.Hosts.{next_host}
use Rattle.motor.specs.engine.Operations.{begins_with, acked_of, got_value, got_ping, windows_gone}
use Rattle.motor.specs.engine.Run.{no_version, version_reported, waits, acknowledgement_count, send_then, write, entered, retried, retry_at, timed, looked, advanced}
use Rattle.motor.proofs.engine.Choices.{either}

-- ---- an answer, and the codec

both : (a b : Bool) → (a && b) ≡ true → (a ≡ true) × (b ≡ true)
both true b h = (refl, h)
both false b h = absurd (true≢false (sym h))

module _ (p : Phase) (f : CanFrame) (h : is_answer p f ≡ true) where
  answers : (is_version_reply f.arbitration_id f.data ≡ true) × (awaits_version p ≡ true)
  answers = both (is_version_reply f.arbitration_id f.data) (awaits_version p) h

  told-by : Told f (version_reply f.arbitration_id f.data)
  told-by = record { is-reply = answers.0; decoded = rw answers.0 }

  answer-in : version_in f ≡ Some (version_reply f.arbitration_id f.data)
  unfolding version_in
  answer-in = rw answers.0

-- ---- moves: every node that is entered begins without an answer, and a wait that goes on keeps its own

abbrev Fresh : Move → Type 0
Fresh v = v.operation.answer ≡ no_version

abbrev Keeps : Move → Type 0
Keeps v = AnswerIn v.operation

module _ (s : Sight) (now : ℕ) where
  then-fresh : (f : CanFrame) (k : Acked) (n : Node) → Fresh (send_then now f k n)
  then-fresh f k (node.Finish r) = refl
  then-fresh f k (node.Pause d then) = refl
  then-fresh f k _ = refl

  write-fresh : (id : ℕ) (k : Acked) (e : Result ℕ Refusal) → Fresh (write s now id k e)
  write-fresh id k (Ok raw) = either Fresh (eqb s.write_wait 0) _ _ (then-fresh _ k (acked_of k)) refl
  write-fresh id k (Err r) = refl

  enter-fresh : (n : Node) → Fresh (entered s now n)
  enter-fresh (node.Write id v k) = write-fresh id k (encode_parameter_value id v)
  enter-fresh _ = refl

  module _ (op : Operation) (h : AnswerIn op) where
    retry-keeps : (w : Wait) → Keeps (retried s now op w)
    retry-keeps w = go (next_host s.feedback_id op.hosts op.candidate)
      where
        go : (h : Option (ℕ × ℕ)) → Keeps (retry_at s now op w h)
        go (Some (h, next)) = none refl
        go None = none (enter-fresh (windows_gone w))

    timed-keeps : (w : Wait) (v : Move) → Keeps v → Keeps (timed s now op w v)
    timed-keeps w v k = either Keeps (ltb now op.due) v _ k (retry-keeps w)

    look-keeps : (f : Option Stored) (w : Wait) → Keeps (looked s now op f w)
    look-keeps f (wait.Acknowledged by r k) =
        timed-keeps (wait.Acknowledged by r k) _ (either Keeps (ltb op.mark (acknowledgement_count s by)) (entered s now (acked_of k)) (waits op) (none (enter-fresh (acked_of k))) h)
    look-keeps (Some r) (wait.Value id k) = none (enter-fresh (got_value s k r.value))
    look-keeps None (wait.Value id k) = timed-keeps (wait.Value id k) (waits op) h
    look-keeps f (wait.Ping k) =
        either Keeps (is_some s.ping_reply) (entered s now (got_ping k)) _ (none (enter-fresh (got_ping k))) (timed-keeps (wait.Ping k) (waits op) h)
    look-keeps f wait.Version = go op.answer
      where
        go : (answer : Option VersionReply) → Keeps (option_map_or version_reported answer (timed s now op wait.Version (waits op)))
        go (Some reply) = none refl
        go None = timed-keeps wait.Version (waits op) h

    advance-keeps : (f : Option Stored) (p : Phase) → Keeps (advanced s now op f p)
    advance-keeps f phase.Idle = none refl
    advance-keeps f (phase.Pausing k) = either Keeps (ltb now op.due) (waits op) (entered s now (acked_of k)) h (none (enter-fresh (acked_of k)))
    advance-keeps f (phase.Waiting w) = look-keeps f w

-- ---- events

abbrev Answers : Lone → Type 0
Answers l = AnswerIn l.state.operation

start-keeps : (l : Lone) (c : Command) (now : ℕ) → Answers l → Answers (lone_start l c now).lone
start-keeps l c now h = go (start_said l.state.clock l.state.operation.phase c now)
  where
    go : (said : Result ⊤ Refusal) → Answers (lone_start_by said l c now).lone
    go (Ok tt) = none (enter-fresh (sight_of l.state) now (begins_with c))
    go (Err r) = h

step_keeps : (l : Lone) (now : ℕ) → Answers l → Answers (lone_step l now).lone
step_keeps l now h = go (step_said l.state.clock l.state.operation.phase now)
  where
    go : (said : Result ⊤ Refusal) → Answers (lone_step_by said l now).lone
    go (Ok tt) =
        let op = l.state.operation in
        advance-keeps (sight_of l.state) now op h (wanted op.phase (λ id. lookup id l.readings)) op.phase
    go (Err r) = h

frame-keeps : (l : Lone) (f : CanFrame) (now : ℕ) → Answers l → Answers (hears l f now).lone
unfolding hears state_after answer_taken told_by counted_at
frame-keeps l f now h = go (frame_said l.state f now (not (room (read_id f) l.readings)))
  where
    taken : (b : Bool) → is_answer l.state.operation.phase f ≡ b
        → AnswerIn (cond b (answer_taken (counted_at l.state now) f) (told_by (counted_at l.state now) (parts_of f) f)).operation
    taken true e = from f _ (answers l.state.operation.phase f e).1 (answer-in l.state.operation.phase f e) (told-by l.state.operation.phase f e)
    taken false e = h

    counted : (b : Bool) → AnswerIn (cond b (counted_at l.state now) l.state).operation
    counted true = h
    counted false = h

    go : (said : Result ⊤ Refusal) → AnswerIn (state_after said l.state f now).operation
    go (Ok tt) = taken (is_answer l.state.operation.phase f) refl
    go (Err r) = counted (among (number_of r) (14 ∷ 15 ∷ []))

after-keeps : (l : Lone) (es : List LoneEvent) → Answers l → Answers (after_events l es)
after-keeps l [] h = h
after-keeps l (start c now ∷ es) h = after-keeps (after_event l (start c now)) es (start-keeps l c now h)
after-keeps l (step now ∷ es) h = after-keeps (after_event l (step now)) es (step_keeps l now h)
after-keeps l (frame f now ∷ es) h = after-keeps (after_event l (frame f now)) es (frame-keeps l f now h)
after-keeps l (other ∷ es) h = after-keeps l es h

-- ---- what a step of get_version reports

abbrev Reported : ℕ → List ℕ → Type 0
Reported device result = (f : CanFrame) × (reply : VersionReply) × Told f reply × (reply.device_id ≡ device) × (result ≡ (version_reported reply).result)

-- an answer that is held is a version reply's
told_in : (op : Operation) (reply : VersionReply) → AnswerIn op → op.answer ≡ Some reply → (f : CanFrame) × Told f reply
told_in op reply (none e) h = absurd (true≢false (sym (ap is_some h) ∙ ap is_some e))
told_in op reply (from f told a k t) h = let same : told ≡ reply = cc in (f, subst (λ (v : VersionReply). Told f v) same t)

module _ (s : Sight) (now : ℕ) (op : Operation) (h : AnswerIn op) (device : ℕ) where
  abbrev Reports : Move → Type 0
  Reports v = v.said ≡ said.Finished (outcome.Version device) → Reported device v.result

  -- silence gives no version
  retry-reports : (x : Option (ℕ × ℕ)) → Reports (retry_at s now op wait.Version x)
  retry-reports (Some (h, next)) e = let z : ◌≡◌ {A = ℕ} 0 1 = cc in absurd (omega arith)
  retry-reports None e = let z : ◌≡◌ {A = ℕ} 0 1 = cc in absurd (omega arith)

  timed-reports : (b : Bool) → Reports (cond b (waits op) (retried s now op wait.Version))
  timed-reports true e = let z : ◌≡◌ {A = ℕ} 0 1 = cc in absurd (omega arith)
  timed-reports false e = retry-reports (next_host s.feedback_id op.hosts op.candidate) e

  answer-reports : (answer : Option VersionReply) → op.answer ≡ answer → Reports (option_map_or version_reported answer (timed s now op wait.Version (waits op)))
  answer-reports (Some reply) k e = let t = told_in op reply h k in (t.0, reply, t.1, cc, refl)
  answer-reports None k e = timed-reports (ltb now op.due) e

  look-reports : (f : Option Stored) (w : Wait) → awaits_version (phase.Waiting w) ≡ true → Reports (looked s now op f w)
  look-reports f (wait.Acknowledged by r k) a = absurd (true≢false (sym a))
  look-reports f (wait.Value id k) a = absurd (true≢false (sym a))
  look-reports f (wait.Ping k) a = absurd (true≢false (sym a))
  look-reports f wait.Version a = answer-reports op.answer refl

  advance-reports : (f : Option Stored) (p : Phase) → awaits_version p ≡ true → Reports (advanced s now op f p)
  advance-reports f phase.Idle a = absurd (true≢false (sym a))
  advance-reports f (phase.Pausing k) a = absurd (true≢false (sym a))
  advance-reports f (phase.Waiting w) a = look-reports f w a

step-reports : (l : Lone) (now device : ℕ) → Answers l → awaits_version l.state.operation.phase ≡ true
    → (lone_step l now).said ≡ said.Finished (outcome.Version device) → Reported device (lone_step l now).result
step-reports l now device h a = go (step_said l.state.clock l.state.operation.phase now)
  where
    go : (k : Result ⊤ Refusal) → (lone_step_by k l now).said ≡ said.Finished (outcome.Version device) → Reported device (lone_step_by k l now).result
    go (Ok tt) e =
        let op = l.state.operation in
        advance-reports (sight_of l.state) now op h device (wanted op.phase (λ id. lookup id l.readings)) op.phase a e
    go (Err r) e = let z : ◌≡◌ {A = ℕ} 0 1 = cc in absurd (omega arith)

-- ---- the theorem

held_after : (id host : ℕ) (model : Model) (wait since : ℕ) (es : List LoneEvent) → Answers (after_events (lone_new id host model wait since) es)
held_after id host model wait since es = after-keeps (lone_new id host model wait since) es (none refl)

begun_fresh : (l : Lone) (c : Command) (now : ℕ) (k : Result ⊤ Refusal) → k ≡ Ok tt → (lone_start_by k l c now).lone.state.operation.answer ≡ no_version
begun_fresh l c now (Ok tt) h = enter-fresh (sight_of l.state) now (begins_with c)
begun_fresh l c now (Err r) h = let z : ◌≡◌ {A = ℕ} 0 1 = cc in absurd (omega arith)

no-feedback : (s : State) (f : CanFrame) → is_answer s.operation.phase f ≡ true
    → let t = taken_by s (parts_of f) f in (t.feedback ≡ s.feedback) × (t.fault_report ≡ s.fault_report) × (t.ping_reply ≡ s.ping_reply)
unfolding answer_taken
no-feedback s f h = (rw h, rw h, rw h)

outside : (s : State) (f : CanFrame) → awaits_version s.operation.phase ≡ false → taken_by s (parts_of f) f ≡ told_by s (parts_of f) f
outside s f h = go (is_version_reply f.arbitration_id f.data) (awaits_version s.operation.phase) h
  where
    go : (a b : Bool) → b ≡ false → cond (a && b) (answer_taken s f) (told_by s (parts_of f) f) ≡ told_by s (parts_of f) f
    go true true e = absurd (true≢false e)
    go true false e = refl
    go false b e = refl

pub versions : Versions
versions =
    record {
      never-23 = λ p f h. ap said_in (told-by p f h).decoded;
      started = λ l c now h. begun_fresh l c now (start_said l.state.clock l.state.operation.phase c now) h;
      held = held_after;
      reported = λ id host model wait since es now device. step-reports (after_events (lone_new id host model wait since) es) now device (held_after id host model wait since es);
      no-feedback = no-feedback;
      outside = outside;
    }
