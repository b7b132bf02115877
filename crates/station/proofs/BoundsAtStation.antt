-- The bounds of an operation on the station: to the motor m a list of calls is a list of its own events, every other call being none of
-- them (demand 3, call by call), so the motor's theorem bounds it. Assumes nothing.
use Rattle.std.specs.Prelude.{Option, None, Some}
use Prim.Native.Nat.{ℕ, ◌+◌, ◌≤◌, ◌<◌}
use mathlib.Core.Path.{◌≡◌, refl, sym, ap, ◌∙◌, subst}
use mathlib.Core.Bool.{Bool, true, false, true≢false, cond, not}
use mathlib.Core.List.{List, [], ◌∷◌}
use native.Mathlib.Omega.{arith}
use Rattle.codec.specs.declared.bus.CanFrame.{CanFrame}
use Rattle.motor.specs.declared.engine.command.Command.{Command}
use Rattle.motor.specs.declared.engine.command.Said.{Said}
use Rattle.motor.specs.declared.engine.command.Said.TheVariants as said
use Rattle.motor.specs.Bounds.{LoneEvent, other as none-of-it, after_event as then, sends, is_due, once, count, most_frames_of, Given}
use Rattle.motor.specs.Calls.{is_idle}
use Rattle.motor.specs.Limits.{most_due_steps}
use Rattle.motor.specs.Lone.{Lone, lone_start, lone_step}
use Rattle.motor.proofs.Bounds.{bounds}
use Rattle.station.specs.declared.call.Answer.{Answer}
use Rattle.station.specs.declared.call.Answer.TheVariants as answer
use Rattle.station.specs.declared.call.Asked.{Asked}
use Rattle.station.specs.declared.call.Call.{Call}
use Rattle.station.specs.declared.call.Call.TheVariants as call
use Rattle.station.specs.Calls.{start, step, Reply, refused}
use Rattle.station.specs.Station.{Place, empty, held, Distinct, moves_to, hears_to, lone_by, lone, route, station_by, station_call}
use Rattle.station.specs.History.{mine_by, mine, after}
use Rattle.station.specs.Demand2.{unrefused}
use Rattle.station.specs.StationBounds.{sends_in, due_in, sends_to, due_to, tally, DueOf, pauses_in, StationBounds}
use Rattle.station.proofs.EchoAtStation.{began}
use Rattle.station.proofs.Places.{own-id, distinct-free}
use Rattle.station.proofs.Steps.{other, own-call, call-distinct}
use Rattle.station.proofs.TwoRuns.{after-distinct}
use Rattle.station.proofs.LoneEvents.{event_by, then-holds, made}

-- ---- pauses: a step of m is the lone motor's

moved_same : (s t : Said) → answer.Moved s ≡ answer.Moved t → s ≡ t
moved_same s t e = ap said_in e
  where
    said_in : Answer → Said
    said_in (answer.Told k) = s
    said_in (answer.Moved x) = x
    said_in (answer.Looked k) = s

waits-pausing : (before : List Asked) (m : ℕ) (h : Lone) (now d : ℕ)
    → let a = station_call (after empty before) (step m now) in
    held (after empty before) m ≡ Some h
    → h.state.operation.due ≤ now
    → a.0.replied.answer ≡ answer.Moved (said.Waiting d)
    → (now < d) × (h.state.operation.due < d) × (pauses_in (held a.1 m) ≡ true)
unfolding lone_by moves_to empty mine_by
waits-pausing before m h now d e due w =
    let l = own-call (after empty before) m h (step m now) (after-distinct empty before (distinct-free 8)) e (own-id m) in
    let q = moved_same (lone_step h now).said (said.Waiting d) (sym (ap (λ (r : Reply). r.replied.answer) l.0) ∙ w) in
    let x = bounds.waits h now d due q in
    (x.0, x.1, ap pauses_in l.1 ∙ x.2)

-- ---- what an event sends, and whether it is a due step

event-sends : (h : Lone) (c : Call) (f : CanFrame) → sends_in (lone_by h c f).0.replied.answer ≡ sends h (event_by c f)
unfolding event_by lone_by moves_to hears_to
event-sends h (call.Register m host model wait time) f = refl
event-sends h (call.Start m c now) f = refl
event-sends h (call.Step m now) f = refl
event-sends h (call.Frame now) f = refl
event-sends h (call.Look m) f = refl
event-sends h (call.Remove m now) f = refl

event-due : (h : Lone) (c : Call) (f : CanFrame) → due_in (Some h) c ≡ is_due h (event_by c f)
unfolding event_by
event-due h (call.Register m host model wait time) f = refl
event-due h (call.Start m c now) f = refl
event-due h (call.Step m now) f = refl
event-due h (call.Frame now) f = refl
event-due h (call.Look m) f = refl
event-due h (call.Remove m now) f = refl

-- ---- a list of calls as a list of events

-- one more of either: as long as the operation runs, no more is counted there than here
more : (idle x y : Bool) (a b : ℕ) → (x ≡ true → y ≡ true) → a ≤ b → cond (not idle) (once x + a) 0 ≤ cond idle 0 (once y + b)
more true x y a b e l = omega arith
more false true true a b e l = omega arith
more false true false a b e l = absurd (true≢false (sym (e refl)))
more false false true a b e l = omega arith
more false false false a b e l = omega arith

module _ (m : ℕ) (test : List Place → Asked → Bool) (same : Lone → LoneEvent → Bool)
    (alike : (s : List Place) (h : Lone) (a : Asked) → Distinct s → held s m ≡ Some h → mine m a ≡ true → test s a ≡ same h (event_by a.call a.frame)) where
  gone : (s : List Place) (cs : List Asked) → held s m ≡ None → tally m test s cs ≡ 0
  gone s [] e = refl
  gone s (a ∷ cs) e = rw e

  as-events : (cs : List Asked) (s : List Place) (h : Lone) → Distinct s → held s m ≡ Some h
      → (es : List LoneEvent) × (tally m test s cs ≤ count same h es)
  as-events [] s h d e = ([], omega arith)
  as-events (a ∷ cs) s h d e = go (mine m a) refl (as-events cs)
    where
      s' : List Place
      s' = (station_call s a).1

      d' : Distinct s'
      d' = call-distinct s a d

      IH : Type 0
      IH = (s : List Place) (h : Lone) → Distinct s → held s m ≡ Some h → (es : List LoneEvent) × (tally m test s cs ≤ count same h es)

      idle : Bool
      idle = is_idle h.state.operation.phase

      ev : LoneEvent
      ev = event_by a.call a.frame

      Ends : Type 0
      Ends = (es : List LoneEvent) × (cond (not idle) (once (test s a) + tally m test s' cs) 0 ≤ count same h es)

      own : mine m a ≡ true → IH → (o : Option Lone) → (lone h a).1 ≡ o → held s' m ≡ o → Ends
      own p ih None q r =
          (ev ∷ [], more idle (test s a) (same h ev) (tally m test s' cs) 0 (λ t. sym (alike s h a d e p) ∙ t) (omega (arith, gone s' cs r)))
      own p ih (Some k) q r =
          let x = ih s' k d' r in (
            ev ∷ x.0,
            more idle (test s a) (same h ev) (tally m test s' cs) (count same (then h ev) x.0) (λ t. sym (alike s h a d e p) ∙ t)
                (subst (λ (j : Lone). tally m test s' cs ≤ count same j x.0) (sym (then-holds h k a.call a.frame q)) x.1),
          )

      go : (b : Bool) → mine m a ≡ b → IH → (es : List LoneEvent) × (tally m test s (a ∷ cs) ≤ count same h es)
      go true p ih = rw (e, p) (own p ih (lone h a).1 refl (own-call s m h a d e p).1)
      go false p ih =
          let x = ih s' h d' (other s m a p ∙ e) in
          rw (e, p) (none-of-it ∷ x.0, more idle false (same h none-of-it) (tally m test s' cs) (count same h x.0) (λ t. absurd (true≢false (sym t))) x.1)

-- ---- the frames and the due steps

module _ (before : List Asked) (m : ℕ) (c : Command) (now : ℕ) (later : List Asked) where
  abbrev s : List Place
  s = after empty before

  abbrev a : Reply × List Place
  a = station_call s (start m c now)

  s-distinct : Distinct s
  unfolding empty
  s-distinct = after-distinct empty before (distinct-free 8)

  is-mine : mine m (start m c now) ≡ true
  unfolding mine_by
  is-mine = own-id m

  sends-alike : (s : List Place) (h : Lone) (a : Asked) → Distinct s → held s m ≡ Some h → mine m a ≡ true
      → sends_to m s a ≡ sends h (event_by a.call a.frame)
  sends-alike s h a d e p = ap (λ (r : Reply). sends_in r.replied.answer) (own-call s m h a d e p).0 ∙ event-sends h a.call a.frame

  due-alike : (s : List Place) (h : Lone) (a : Asked) → Distinct s → held s m ≡ Some h → mine m a ≡ true
      → due_to m s a ≡ is_due h (event_by a.call a.frame)
  due-alike s h a d e p = ap (λ (o : Option Lone). due_in o a.call) e ∙ event-due h a.call a.frame

  frames-within : unrefused a.0 ≡ true → once (sends_in a.0.replied.answer) + tally m (sends_to m) a.1 later ≤ most_frames_of c
  unfolding lone_by moves_to event_by
  frames-within u =
      let b = began s m c now u in
      let l = own-call s m b.by (start m c now) s-distinct b.was is-mine in
      let x = as-events m (sends_to m) sends sends-alike later a.1 (lone_start b.by c now).lone (call-distinct s (start m c now) s-distinct) l.1 in
      let q = sends-alike s b.by (start m c now) s-distinct b.was is-mine in
      rw q (omega (arith, x.1, bounds.frames b.by c now x.0 b.passed))

  steps-within : unrefused a.0 ≡ true → tally m (due_to m) a.1 later ≤ most_due_steps
  unfolding lone_by moves_to
  steps-within u =
      let b = began s m c now u in
      let l = own-call s m b.by (start m c now) s-distinct b.was is-mine in
      let x = as-events m (due_to m) is_due due-alike later a.1 (lone_start b.by c now).lone (call-distinct s (start m c now) s-distinct) l.1 in
      omega (arith, x.1, bounds.steps b.by c now x.0 b.passed)

-- ---- due times

module _ (before : List Asked) (m : ℕ) where
  due-started : (c : Command) (now : ℕ) → DueOf m now (station_call (after empty before) (start m c now))
  unfolding station_by route refused lone_by moves_to empty mine_by
  due-started c now = go (held (after empty before) m) refl
    where
      go : (o : Option Lone) → held (after empty before) m ≡ o → DueOf m now (station_call (after empty before) (start m c now))
      go None e = rw (e, e) tt
      go (Some h) e =
          let d = after-distinct empty before (distinct-free 8) in
          let l = own-call (after empty before) m h (start m c now) d e (own-id m) in
          let x = made before m h e in
          rw (l.0, l.1) (subst (λ (k : Lone). Given now (lone_start k c now)) x.is (bounds.started x.id x.host x.model x.wait x.since x.events c now))

  due-stepped : (now : ℕ) → DueOf m now (station_call (after empty before) (step m now))
  unfolding station_by route refused lone_by moves_to empty mine_by
  due-stepped now = go (held (after empty before) m) refl
    where
      go : (o : Option Lone) → held (after empty before) m ≡ o → DueOf m now (station_call (after empty before) (step m now))
      go None e = rw (e, e) tt
      go (Some h) e =
          let d = after-distinct empty before (distinct-free 8) in
          let l = own-call (after empty before) m h (step m now) d e (own-id m) in
          let x = made before m h e in
          rw (l.0, l.1) (subst (λ (k : Lone). Given now (lone_step k now)) x.is (bounds.stepped x.id x.host x.model x.wait x.since x.events now))

pub station-bounds : StationBounds
station-bounds =
    record {
      frames = frames-within;
      limits = bounds.limits;
      steps = steps-within;
      waits = waits-pausing;
      started = due-started;
      stepped = due-stepped;
    }
