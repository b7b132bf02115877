-- Every move keeps within what was left, gives due times within reach, and keeps the window and the due time so. Assumes nothing.
use Rattle.std.proofs.Common.{◌≡◌, ℕ, suc, ◌+◌, ◌-◌, ◌≤◌, Bool, true, cond, eqb, ltb, List, ◌∷◌, length, refl, ap, arith, ltb-true, Option, Some, None, Result, Ok, Err}
use Rattle.std.specs.Option.{option_map_or, is_some}
use Rattle.codec.specs.declared.replies.VersionReply.{VersionReply}
use Rattle.motor.specs.declared.engine.reading.Stored.{Stored}
use Rattle.codec.specs.declared.error.Refusal.{Refusal}
use Rattle.codec.specs.declared.bus.CanFrame.{CanFrame}
use Rattle.codec.specs.Values.{encode_parameter_value}
use Rattle.motor.specs.declared.engine.candidates.Hosts.{Hosts}
use Rattle.motor.specs.declared.engine.candidates.Hosts.TheVariants as hosts
use Rattle.motor.specs.declared.engine.command.Said.{Said}
use Rattle.motor.specs.declared.engine.operation.Effect.{Effect}
use Rattle.motor.specs.declared.engine.operation.Move.{Move}
use Rattle.motor.specs.declared.engine.operation.Operation.{Operation}
use Rattle.motor.specs.declared.engine.operation.Phase.{Phase}
use Rattle.motor.specs.declared.engine.operation.Phase.TheVariants as phase
use Rattle.motor.specs.declared.engine.operation.Sight.{Sight}
use Rattle.motor.specs.declared.engine.node.Acked.{Acked}
use Rattle.motor.specs.declared.engine.node.Acknowledgement.TheVariants as by
use Rattle.motor.specs.declared.engine.node.Node.{Node}
use Rattle.motor.specs.declared.engine.node.Node.TheVariants as node
use Rattle.motor.specs.declared.engine.node.Request.{Request}
use Rattle.motor.specs.declared.engine.node.Request.TheVariants as request
use Rattle.motor.specs.declared.engine.node.Wait.{Wait}
use Rattle.motor.specs.declared.engine.node.Wait.TheVariants as wait
use Rattle.motor.specs.Limits.{longest_timeout}
use Rattle.motor.specs.Bounds.{has_frame, GivenWithin}
use Rattle.motor.specs.engine.Hosts.{host_candidates, next_host}
use Rattle.motor.specs.engine.Operations.{acked_of, got_value, got_ping, windows_gone}
use Rattle.motor.specs.engine.Run.{no_operation, tried, send_then, sent_on, write_raw, write, entered, retry_at, waits, timed, acknowledgement_count, looked, advanced, version_reported}
use Rattle.motor.proofs.Follows.{ok-fits, gone-fits, got-fits, pinged-fits}
use Rattle.motor.proofs.Measures.{by-test, many, window-small, four, acked_left, wait_left, more_left, rest_left, phase_left, op_left, Fits}

-- ---- hosts

-- own and FD are the only neighbours that can be equal
count_small : (own : ℕ) → (host_candidates own).count ≤ 4
unfolding host_candidates
count_small own = by-test (λ t l. length (own ∷ l) ≤ 4) (eqb own 0xFD) (λ e. omega arith) (λ e. omega arith)

-- an attempt at the next place is one of those that were left
abbrev OneLess : ℕ → ℕ → Hosts → ℕ → Option (ℕ × ℕ) → Type 0
OneLess f d whom i (Some (h, next)) = f + d + more_left f d whom next ≤ more_left f d whom i
OneLess f d whom i None = Unit {0}

next-less : (f d own : ℕ) (whom : Hosts) (i : ℕ) → OneLess f d whom i (next_host own whom i)
next-less f d own hosts.Candidates i =
    by-test (λ t h. OneLess f d hosts.Candidates i h) (ltb i (host_candidates own).count)
    (λ e.
    let below = ltb-true i (host_candidates own).count e in
    let one : 4 - i ≡ suc (4 - (i + 1)) = omega (arith, count_small own) in
    omega (arith, ap (many (f + d)) one))
    (λ e. tt)
next-less f d own (hosts.Named h) i = tt
next-less f d own hosts.Own i = tt

-- ---- moves

-- a frame weighs f, a due step d; due times lie at most this far from now
module _ (f d most now : ℕ) (far : longest_timeout ≤ most) where
  -- what is left after a move and its frame is at most m
  pub record Moved (m : ℕ) (v : Move) : Type 0 where
    pub paid : op_left f d v.operation + cond (has_frame v.said) f 0 ≤ m
    pub given : GivenWithin most now v.said v.operation.due
    pub window : v.operation.window ≤ most
    pub due : v.operation.due ≤ now + most

  -- a move that ends the operation
  ended : (m : ℕ) (said : Said) (frame : CanFrame) (result : List ℕ) (e : Effect)
      → cond (has_frame said) f 0 ≤ m → GivenWithin most now said 0
      → Moved m (record { said = said; frame = frame; result = result; operation = no_operation; effect = e })
  ended m said frame result e h g = record { paid = omega arith; given = g; window = omega arith; due = omega arith }

  -- an attempt with its window
  attempt-moves : (m : ℕ) (s : Sight) (w : Wait) (window : ℕ) (whom : Hosts) (h next : ℕ) → window ≤ most
      → f + d + more_left f d whom next + wait_left f d w ≤ m → Moved m (tried s now w window whom h next)
  attempt-moves m s w window whom h next small fits =
      record { paid = omega arith; given = (omega arith, omega arith, refl); window = small; due = omega arith }

  -- a frame that nothing waits for, and a pause
  sent-moves : (m : ℕ) (frame : CanFrame) (k : Acked) (e : ℕ) → e ≤ most → f + d + acked_left f d k ≤ m → Moved m (sent_on frame k (now + e))
  sent-moves m frame k e small fits =
      record { paid = omega arith; given = (omega arith, omega arith, refl); window = omega arith; due = omega arith }

  -- the same, with what follows due at once
  at_once : (m : ℕ) (frame : CanFrame) (k : Acked) → four f d + acked_left f d k ≤ m → Moved m (sent_on frame k now)
  at_once m frame k fits =
      record { paid = omega arith; given = (omega arith, omega arith, refl); window = omega arith; due = omega arith }

  -- by what follows
  then-moves : (m : ℕ) (frame : CanFrame) (k : Acked) (n : Node) → Fits f d (acked_left f d k) n → four f d + acked_left f d k ≤ m
      → Moved m (send_then now frame k n)
  then-moves m frame k (node.Finish r) g fits = ended m _ frame _ _ (omega arith) tt
  then-moves m frame k (node.Pause e then) g fits = sent-moves m frame then e (omega (arith, g.1.1)) (omega (arith, g.0))
  then-moves m frame k _ g fits = at_once m frame k fits

  -- a write, with a write wait or without
  raw-moves : (m : ℕ) (s : Sight) (r : Request) (k : Acked) → four f d + acked_left f d k ≤ m → Moved m (write_raw s now r k)
  raw-moves m s r k fits =
      by-test (λ t v. Moved m v) (eqb s.write_wait 0)
      (λ e. then-moves m _ k (acked_of k) (ok-fits f d k) fits)
      (λ e.
      attempt-moves m s (wait.Acknowledged by.Status r k) _ hosts.Candidates s.feedback_id 1
      (omega (arith, window-small s.write_wait 120 (omega arith)))
      (omega arith))

  write_moves : (m : ℕ) (s : Sight) (id : ℕ) (k : Acked) (e : Result ℕ Refusal) → four f d + acked_left f d k ≤ m → Moved m (write s now id k e)
  write_moves m s id k (Ok raw) fits = raw-moves m s (request.Write id raw) k fits
  write_moves m s id k (Err r) fits = ended m _ _ _ _ (omega arith) tt

  -- a node that fits is entered
  pub enter-moves : (m l : ℕ) (s : Sight) (n : Node) → Fits f d l n → l ≤ m → Moved m (entered s now n)
  enter-moves m l s (node.Finish r) g h = ended m _ _ _ _ (omega arith) tt
  enter-moves m l s node.Report g h = ended m _ _ _ _ (omega arith) tt
  enter-moves m l s node.ClearFault g h = ended m _ _ _ _ (omega arith) tt
  enter-moves m l s (node.Fail r) g h = ended m _ _ _ _ (omega arith) tt
  enter-moves m l s (node.Pause e k) g h =
      record {
        paid = omega (arith, g.0);
        given = (omega (arith, g.1.0), omega (arith, g.1.1), refl);
        window = omega arith;
        due = omega (arith, g.1.1);
      }
  enter-moves m l s (node.Last r) g h = ended m _ _ _ _ (omega (arith, g.0)) tt
  enter-moves m l s (node.Write id v k) g h = write_moves m s id k (encode_parameter_value id v) (omega (arith, g.0))
  enter-moves m l s (node.Await w window whom) g h = attempt-moves m s w window whom _ 1 (omega (arith, g.1)) (omega (arith, g.0))
  enter-moves m l s (node.Motion t r) g h = ended m _ _ _ _ (omega (arith, g.0)) tt
  enter-moves m l s (node.Rename new) g h = ended m _ _ _ _ (omega (arith, g.0)) tt

  -- ---- a step of this operation, whose window and due time are within reach

  module _ (s : Sight) (op : Operation) (small : op.window ≤ most) (near : op.due ≤ now + most) where
    -- still waiting, before the due time
    still-moves : (m : ℕ) → ltb now op.due ≡ true → op_left f d op ≤ m → Moved m (waits op)
    still-moves m e h =
        let early = ltb-true now op.due e in
        record { paid = omega arith; given = (omega arith, near, refl); window = small; due = near }

    -- the next host, or what follows the last
    retry-moves : (m : ℕ) (w : Wait) (h : Option (ℕ × ℕ)) → OneLess f d op.hosts op.candidate h → rest_left f d (phase.Waiting w) op ≤ m
        → Moved m (retry_at s now op w h)
    retry-moves m w (Some (h, next)) less fits = attempt-moves m s w op.window op.hosts h next small (omega arith)
    retry-moves m w None less fits = enter-moves m _ s (windows_gone w) (gone-fits f d w) (omega arith)

    -- what is left after this step, which is due or early
    abbrev budget : Phase → Bool → ℕ
    budget p early = rest_left f d p op + cond early d 0

    -- within the window, or not
    timed-moves : (w : Wait) (v : Move) → (ltb now op.due ≡ true → Moved (budget (phase.Waiting w) true) v)
        → Moved (budget (phase.Waiting w) (ltb now op.due)) (timed s now op w v)
    timed-moves w v h =
        by-test (λ t x. Moved (budget (phase.Waiting w) t) x) (ltb now op.due) h
        (λ e. retry-moves _ w (next_host s.feedback_id op.hosts op.candidate) (next-less f d s.feedback_id op.hosts op.candidate) (omega arith))

    look-moves : (w : Wait) (r : Option Stored) → op_left f d op ≤ phase_left f d (phase.Waiting w) op
        → Moved (budget (phase.Waiting w) (ltb now op.due)) (looked s now op r w)
    look-moves (wait.Acknowledged by r k) x h =
        timed-moves (wait.Acknowledged by r k) _
        (λ early.
        by-test (λ t v. Moved (budget (phase.Waiting (wait.Acknowledged by r k)) true) v) (ltb op.mark (acknowledgement_count s by))
        (λ e. enter-moves _ _ s (acked_of k) (ok-fits f d k) (omega arith))
        (λ e. still-moves _ early (omega arith)))
    look-moves (wait.Value id k) (Some r) h = enter-moves _ _ s (got_value s k r.value) (got-fits f d s k r.value) (omega arith)
    look-moves (wait.Value id k) None h = timed-moves (wait.Value id k) _ (λ early. still-moves _ early (omega arith))
    look-moves (wait.Ping k) x h =
        by-test (λ t v. Moved (budget (phase.Waiting (wait.Ping k)) (ltb now op.due)) v) (is_some s.ping_reply)
        (λ e. enter-moves _ _ s (got_ping k) (pinged-fits f d k) (omega arith))
        (λ e. timed-moves (wait.Ping k) _ (λ early. still-moves _ early (omega arith)))
    look-moves wait.Version x h = go op.answer
      where
        go : (answer : Option VersionReply)
            → Moved (budget (phase.Waiting wait.Version) (ltb now op.due)) (option_map_or version_reported answer (timed s now op wait.Version (waits op)))
        go (Some reply) = ended _ _ _ _ _ (omega arith) tt
        go None = timed-moves wait.Version _ (λ early. still-moves _ early (omega arith))

    -- any step
    pub advance-moves : (p : Phase) (r : Option Stored) → op_left f d op ≤ phase_left f d p op → Moved (budget p (ltb now op.due)) (advanced s now op r p)
    advance-moves phase.Idle r h = ended _ _ _ _ _ (omega arith) tt
    advance-moves (phase.Pausing k) r h =
        by-test (λ t v. Moved (budget (phase.Pausing k) t) v) (ltb now op.due)
        (λ e. still-moves _ e (omega arith))
        (λ e. enter-moves _ _ s (acked_of k) (ok-fits f d k) (omega arith))
    advance-moves (phase.Waiting w) r h = look-moves w r h
