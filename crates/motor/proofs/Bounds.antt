-- The theorem `bounds`: no operation sends more than 32 frames or needs more than 40 due steps; waits and due times. Assumes nothing.
use Rattle.std.proofs.Common.{◌≡◌, ℕ, ◌+◌, ◌<◌, ◌≤◌, Bool, true, false, cond, not, ◌&&◌, ◌||◌, eqb, ltb, List, [], ◌∷◌, sym, refl, ap, subst, arith, ltb-false, le-ltb, Result, Ok, Err, Option}
use Rattle.std.specs.Prelude.{⊤}
use Rattle.codec.specs.declared.error.Refusal.{Refusal}
use Rattle.codec.specs.declared.bus.CanFrame.{CanFrame}
use Rattle.codec.specs.Kinds.{among}
use Rattle.motor.specs.declared.engine.command.Command.{Command}
use Rattle.motor.specs.declared.engine.command.Said.{Said}
use Rattle.motor.specs.declared.engine.command.Said.TheVariants as said
use Rattle.codec.specs.declared.replies.VersionReply.{VersionReply}
use Rattle.motor.specs.declared.engine.operation.Move.{Move}
use Rattle.motor.specs.declared.engine.operation.Operation.{Operation}
use Rattle.motor.specs.declared.engine.operation.Phase.{Phase}
use Rattle.motor.specs.declared.engine.operation.Phase.TheVariants as phase
use Rattle.motor.specs.declared.motor.State.{State}
use Rattle.motor.specs.Limits.{latest_time, longest_timeout, most_due_steps}
use Rattle.motor.specs.Bounds.{LoneEvent, start, step, frame, other, after_event, after_events, has_frame, sends, passes, is_due, once, count, most_frames_of, GivenWithin, Given, is_pausing, Accepted, Bounds}
use Rattle.motor.specs.Calls.{is_idle, argued_of, or_else, start_said, step_said, sight_of, wanted}
use Rattle.motor.specs.Lone.{Lone, LoneAnswered, lone_new, lone_moved, lone_start_by, lone_start, lone_step_by, lone_step, hears}
use Rattle.motor.specs.engine.Operations.{begins_with}
use Rattle.motor.specs.Readings.{lookup, room}
use Rattle.motor.specs.Receive.{accepts_frame, is_out_of_time, counted_at, told_by, with_answer, answer_taken, is_read, read_id, read_status, frame_said, state_after}
use Rattle.motor.specs.engine.Run.{advanced, begun_by}
use Rattle.motor.proofs.Commands.{begins-paced, frames-within, limit-within, steps-within}
use Rattle.motor.proofs.Measures.{by-test, node_left, rest_left, phase_left, op_left}
use Rattle.motor.proofs.MovesBounded.{Moved, enter-moves, advance-moves}
use Rattle.motor.proofs.Pauses.{pauses_by, late-pauses}
use Rattle.motor.proofs.Receiving.{either-rule}
use Rattle.motor.proofs.ReceivingTheorems.{lone-keeps-operation}

-- ---- the moves of a start and of a step; a frame makes none

abbrev op_of : Lone → Operation
op_of l = l.state.operation

abbrev stepped : Lone → ℕ → Move
stepped l now = advanced (sight_of l.state) now (op_of l) (wanted (op_of l).phase (λ id. lookup id l.readings)) (op_of l).phase

-- the move that begins an operation
started : (f d now : ℕ) (l : Lone) (c : Command)
    → Moved f d longest_timeout now (omega arith) (node_left f d (begins_with c)) (begun_by (sight_of l.state) now c)
started f d now l c =
    enter-moves f d longest_timeout now (omega arith) (node_left f d (begins_with c)) (node_left f d (begins_with c)) (sight_of l.state) (begins_with c)
    (omega arith, begins-paced c) (omega arith)

-- most: how far due times may lie from now
step-moves : (f d most now : ℕ) (far : longest_timeout ≤ most) (l : Lone) → (op_of l).window ≤ most → (op_of l).due ≤ now + most
    → Moved f d most now far (rest_left f d (op_of l).phase (op_of l) + cond (ltb now (op_of l).due) d 0) (stepped l now)
step-moves f d most now far l small near =
    advance-moves f d most now far (sight_of l.state) (op_of l) small near (op_of l).phase (wanted (op_of l).phase (λ id. lookup id l.readings))
    (omega arith)

-- ---- what is left falls by what is sent and by each due step

module _ (f d : ℕ) where
  -- while an operation runs, a due step is left beside the rest
  left-rest : (p : Phase) (op : Operation) → is_idle p ≡ false → phase_left f d p op ≡ d + rest_left f d p op
  left-rest phase.Idle op e = let z : ◌≡◌ {A = ℕ} 0 1 = cc in absurd (omega arith)
  left-rest (phase.Pausing k) op e = refl
  left-rest (phase.Waiting w) op e = refl

  -- get_version's answer has no weight
  answer-weighs-nothing : (p : Phase) (op : Operation) (v : Option VersionReply) → phase_left f d p (with_answer op v) ≡ phase_left f d p op
  answer-weighs-nothing phase.Idle op v = refl
  answer-weighs-nothing (phase.Pausing k) op v = refl
  answer-weighs-nothing (phase.Waiting w) op v = refl

  -- a step is due or early
  either_way : (t : Bool) → cond t d 0 + cond (not t) d 0 ≡ d
  either_way true = omega arith
  either_way false = omega arith

  -- what is left, with what was sent and the due step, is no more than before
  abbrev Spends : Lone → Lone → Bool → Bool → Type 0
  Spends old new sent due = op_left f d (op_of new) + cond sent f 0 + cond due d 0 ≤ op_left f d (op_of old)

  -- a start while an operation runs is refused by 7 or 8
  abbrev StartSpends : Lone → Command → ℕ → Result ⊤ Refusal → Type 0
  StartSpends l c now said = Spends l (lone_start_by said l c now).lone (has_frame (lone_start_by said l c now).said) false

  start-spends : (l : Lone) (c : Command) (now : ℕ) (p : Phase) → is_idle p ≡ false → StartSpends l c now (start_said l.state.clock p c now)
  start-spends l c now phase.Idle e = let z : ◌≡◌ {A = ℕ} 0 1 = cc in absurd (omega arith)
  start-spends l c now (phase.Pausing k) e =
      by-test (λ t x. StartSpends l c now (or_else x (argued_of c))) (is_out_of_time l.state.clock now) (λ e. omega arith) (λ e. omega arith)
  start-spends l c now (phase.Waiting w) e =
      by-test (λ t x. StartSpends l c now (or_else x (argued_of c))) (is_out_of_time l.state.clock now) (λ e. omega arith) (λ e. omega arith)

  -- so with a step, refused or not
  step-spends : (l : Lone) (now : ℕ) → is_idle (op_of l).phase ≡ false → Spends l (after_event l (step now)) (sends l (step now)) (is_due l (step now))
  step-spends l now i = go (step_said l.state.clock (op_of l).phase now)
    where
      go : (said : Result ⊤ Refusal)
          → Spends l (lone_step_by said l now).lone (has_frame (lone_step_by said l now).said) (passes said && not (ltb now (op_of l).due))
      go (Ok tt) =
          let v = step-moves f d (longest_timeout + (op_of l).window + (op_of l).due) now (omega arith) l (omega arith) (omega arith) in
          omega (arith, v.paid, left-rest (op_of l).phase (op_of l) i, either_way (ltb now (op_of l).due))
      go (Err r) = omega arith

  -- so with every event while an operation runs
  spends : (l : Lone) (e : LoneEvent) → is_idle (op_of l).phase ≡ false → Spends l (after_event l e) (sends l e) (is_due l e)
  spends l (start c now) i = omega (arith, start-spends l c now (op_of l).phase i)
  spends l (step now) i = step-spends l now i
  spends l (frame x now) i =
      omega (arith, ap (op_left f d) (lone-keeps-operation l x now).0, answer-weighs-nothing (op_of l).phase (op_of l) (op_of (hears l x now).lone).answer)
  spends l other i = omega arith

-- a number that falls with each event counted bounds the count
count-below : (test : Lone → LoneEvent → Bool) (m : Lone → ℕ)
    → ((l : Lone) (e : LoneEvent) → is_idle (op_of l).phase ≡ false → m (after_event l e) + once (test l e) ≤ m l)
    → (l : Lone) (es : List LoneEvent) → count test l es ≤ m l
count-below test m h l [] = omega arith
count-below test m h l (e ∷ es) =
    by-test (λ t n. n ≤ m l) (is_idle (op_of l).phase) (λ i. omega arith) (λ i. omega (arith, h l e i, count-below test m h (after_event l e) es))

-- ---- due times: the window is at most 60,000, and so is the rest of the wait

-- what due times keep to
abbrev Timely : State → Type 0
Timely s = (s.operation.window ≤ longest_timeout) × (s.operation.due ≤ s.clock + longest_timeout)

-- a time that 7 doesn't refuse
on-time : (clock now : ℕ) → is_out_of_time clock now ≡ false → clock ≤ now
unfolding is_out_of_time
on-time clock now = go (ltb now clock) refl
  where
    go : (t : Bool) → ltb now clock ≡ t → (t || ltb latest_time now) ≡ false → clock ≤ now
    go true e h = let z : ◌≡◌ {A = ℕ} 0 1 = cc in absurd (omega arith)
    go false e h = ltb-false now clock e

-- nor does a step that passes come before the clock
step-on-time : (clock : ℕ) (p : Phase) (now : ℕ) → step_said clock p now ≡ Ok tt → clock ≤ now
step-on-time clock p now =
    by-test (λ t (x : Result ⊤ Refusal). x ≡ Ok tt → clock ≤ now) (is_out_of_time clock now)
    (λ e h. let z : ◌≡◌ {A = ℕ} 0 1 = cc in absurd (omega arith))
    (λ e h. on-time clock now e)

-- a start or a step gives a due time within reach, and leaves the motor timely
abbrev GivesTimely : ℕ → LoneAnswered → Type 0
GivesTimely now a = Given now a × Timely a.lone.state

start-timely : (l : Lone) (c : Command) (now : ℕ) → Timely l.state → GivesTimely now (lone_start l c now)
start-timely l c now h = go (start_said l.state.clock (op_of l).phase c now)
  where
    go : (said : Result ⊤ Refusal) → GivesTimely now (lone_start_by said l c now)
    go (Ok tt) = let v = started 0 0 now l c in (v.given, (v.window, v.due))
    go (Err r) = (tt, h)

step-timely : (l : Lone) (now : ℕ) → Timely l.state → GivesTimely now (lone_step l now)
step-timely l now h = go (step_said l.state.clock (op_of l).phase now) refl
  where
    go : (said : Result ⊤ Refusal) → step_said l.state.clock (op_of l).phase now ≡ said → GivesTimely now (lone_step_by said l now)
    go (Ok tt) e =
        let v =
        step-moves 0 0 longest_timeout now (omega arith) l h.0 (omega (arith, h.1, step-on-time l.state.clock (op_of l).phase now e)) in
        (v.given, (v.window, v.due))
    go (Err r) e = (tt, h)

-- a frame moves the clock forward only
frame-timely : (l : Lone) (x : CanFrame) (now : ℕ) → Timely l.state → Timely (hears l x now).lone.state
unfolding hears state_after frame_said answer_taken told_by counted_at among
frame-timely l x now h =
    by-test (λ t r. Timely (state_after r l.state x now)) (not (accepts_frame l.state.motor_id x)) (λ e. h)
    (λ e.
    by-test (λ t r. Timely (state_after r l.state x now)) (is_out_of_time l.state.clock now) (λ e. h)
    (λ e.
    let later : Timely (counted_at l.state now) = (h.0, omega (arith, h.1, on-time l.state.clock now e)) in
    by-test (λ t r. Timely (state_after r l.state x now)) (is_read x && not (eqb (read_status x) 0)) (λ e. later)
    (λ e. by-test (λ t r. Timely (state_after r l.state x now)) (is_read x && not (room (read_id x) l.readings)) (λ e. later)
    (λ e. either-rule Timely (counted_at l.state now) x later later))))

-- whatever comes
timely : (l : Lone) (es : List LoneEvent) → Timely l.state → Timely (after_events l es).state
timely l [] h = h
timely l (start c now ∷ es) h = timely (after_event l (start c now)) es (start-timely l c now h).1
timely l (step now ∷ es) h = timely (after_event l (step now)) es (step-timely l now h).1
timely l (frame x now ∷ es) h = timely (after_event l (frame x now)) es (frame-timely l x now h)
timely l (other ∷ es) h = timely l es h

-- any step that says waiting gives a due time after now
waits-later : (l : Lone) (now d : ℕ) → (lone_step l now).said ≡ said.Waiting d → now < d
waits-later l now d = go (step_said l.state.clock (op_of l).phase now)
  where
    go : (s : Result ⊤ Refusal) → (lone_step_by s l now).said ≡ said.Waiting d → now < d
    go (Ok tt) e =
        let most = longest_timeout + (op_of l).window + (op_of l).due in
        let v = step-moves 0 0 most now (omega arith) l (omega arith) (omega arith) in
        (subst (λ (x : Said). GivenWithin most now x (stepped l now).operation.due) e v.given).0
    go (Err r) e = (subst (λ (x : Said). GivenWithin 0 now x 0) e tt).0

-- and at or after the due time a pause has begun
waits-in-pause : (l : Lone) (now d : ℕ) → (op_of l).due ≤ now → (lone_step l now).said ≡ said.Waiting d
    → is_pausing (op_of (lone_step l now).lone).phase ≡ true
waits-in-pause l now d h = go (step_said l.state.clock (op_of l).phase now)
  where
    go : (s : Result ⊤ Refusal) → (lone_step_by s l now).said ≡ said.Waiting d → is_pausing (op_of (lone_step_by s l now).lone).phase ≡ true
    go (Ok tt) e =
        subst (λ (x : Said). pauses_by x (stepped l now).operation.phase ≡ true) e
        (late-pauses (sight_of l.state) now (op_of l) (le-ltb now (op_of l).due h) (op_of l).phase (wanted (op_of l).phase (λ id. lookup id l.readings)))
    go (Err r) e = subst (λ (x : Said). pauses_by x (op_of l).phase ≡ true) e refl

-- ---- the theorem

-- what an accepted start answers
abbrev begun : Lone → Command → ℕ → LoneAnswered
begun l c now = lone_moved l now c (begun_by (sight_of l.state) now c)

-- what holds of that holds of the start
accepted : (l : Lone) (c : Command) (now : ℕ) (P : LoneAnswered → Type 0) → Accepted l c now → P (begun l c now) → P (lone_start l c now)
accepted l c now P h p = subst (λ (said : Result ⊤ Refusal). P (lone_start_by said l c now)) (sym h) p

frames-sent : (l : Lone) (es : List LoneEvent) → count sends l es ≤ op_left 1 0 (op_of l)
frames-sent = count-below sends (λ l. op_left 1 0 (op_of l)) (λ l e i. omega (arith, spends 1 0 l e i))

due-steps : (l : Lone) (es : List LoneEvent) → count is_due l es ≤ op_left 0 1 (op_of l)
due-steps = count-below is_due (λ l. op_left 0 1 (op_of l)) (λ l e i. omega (arith, spends 0 1 l e i))

pub bounds : Bounds
bounds =
    record {
      frames =
          λ l c now es h.
          accepted l c now (λ a. once (has_frame a.said) + count sends a.lone es ≤ most_frames_of c) h
          (omega (arith, frames-within c, (started 1 0 now l c).paid, frames-sent (begun l c now).lone es));
      limits = λ c. limit-within c;
      steps =
          λ l c now es h.
          accepted l c now (λ a. count is_due a.lone es ≤ most_due_steps) h
          (omega (arith, steps-within c, (started 0 1 now l c).paid, due-steps (begun l c now).lone es));
      waits = λ l now d h e. (waits-later l now d e, omega (arith, waits-later l now d e), waits-in-pause l now d h e);
      started =
          λ id host model wait since es c now.
          let l = lone_new id host model wait since in
          (start-timely (after_events l es) c now (timely l es (omega arith, omega arith))).0;
      stepped =
          λ id host model wait since es now.
          let l = lone_new id host model wait since in
          (step-timely (after_events l es) now (timely l es (omega arith, omega arith))).0;
    }
