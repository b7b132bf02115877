-- Echo on a station: a frame that isn't refused has gone to the motor that it comes from. And every write that a station sends, since each
-- motor that is held asks what the encoder takes. Assumes nothing.
use Rattle.std.specs.Prelude.{Some, None, Result, Ok, Err, ⊤, Option}
use Prim.Native.Nat.{ℕ, zero, suc}
use mathlib.Core.Path.{◌≡◌, refl, sym, ap, ◌∙◌, subst}
use mathlib.Core.Bool.{Bool, true, false, true≢false, cond}
use mathlib.Core.List.{List, [], ◌∷◌}
use lib.Dec.{eqb}
use lib.ListN.{replicate}
use Rattle.codec.specs.declared.error.Refusal.{Refusal}
use Rattle.codec.specs.declared.bus.CanFrame.{CanFrame}
use Rattle.codec.specs.declared.error.Refusal.TheVariants as refusal
use Rattle.codec.specs.declared.model.Model.{Model}
use Rattle.codec.specs.declared.protocol.ParameterValue.{ParameterValue}
use Rattle.codec.specs.Values.{raw_of, encode_parameter_value, encode_parameter_write}
use Rattle.motor.specs.declared.engine.command.Command.{Command}
use Rattle.motor.specs.declared.engine.command.Command.TheVariants as command
use Rattle.motor.proofs.engine.Choices.{cond_yes, cond_no}
use Rattle.motor.specs.Calls.{start_said, sight_of}
use Rattle.motor.specs.Lone.{Lone, LoneAnswered, lone_new, lone_start_by, lone_start, lone_step, hears, lone_removal}
use Rattle.motor.specs.Receive.{accepts_frame}
use Rattle.motor.specs.Echo.{Carries}
use Rattle.motor.specs.Writes.{Sent}
use Rattle.motor.proofs.Echo.{accepted-raw, write-carries, echo_of}
use Rattle.motor.proofs.Writes.{AsksEncoded, start-sends, step-sends, frame-asks}
use Rattle.std.proofs.lemmas.Option.{none-some, same_Some}
use Rattle.station.specs.declared.call.Asked.{Asked}
use Rattle.station.specs.declared.call.Call.{Call}
use Rattle.station.specs.declared.call.Call.TheVariants as call
use Rattle.station.specs.Calls.{start, step, frame, Reply, ok, no, says, answered, refused, refuses}
use Rattle.station.specs.Station.{Place, free, taken, empty, held, add, put, place, leaves, moves_to, hears_to, lone_by, route, admission, enter, admit, to_motor, to_source, source_of, station_by, station_call}
use Rattle.station.specs.History.{after, answered_ok}
use Rattle.station.specs.Demand2.{unrefused, sent_in, reading, Echo, EchoOfCall, Writes}

-- what is put for a registered id is held for it
pub put_some : (s : List Place) (m : ℕ) (h k : Lone) → held s m ≡ Some h → held (put s m (Some k)) m ≡ Some k
unfolding held put place
put_some [] m h k e = absurd (none-some h e)
put_some (free ∷ s) m h k e = put_some s m h k e
put_some (taken j i ∷ s) m h k e = go (eqb j m) refl e (put_some s m h k)
  where
    go : (b : Bool) → eqb j m ≡ b → cond b (Some i) (held s m) ≡ Some h → (held s m ≡ Some h → held (put s m (Some k)) m ≡ Some k)
        → held (cond b (taken j k ∷ s) (taken j i ∷ put s m (Some k))) m ≡ Some k
    go true p q ih = cond_yes (Some k) (held s m) p
    go false p q ih = cond_no (Some i) (held (put s m (Some k)) m) p ∙ ih q

not-ok : {A : Type 0} (r : Reply) → answered_ok r.replied.answer ≡ false → r ≡ ok → A
unfolding answered_ok
not-ok r e q = absurd (true≢false (sym (ap (λ (x : Reply). answered_ok x.replied.answer) q) ∙ e))

-- ---- a frame that isn't refused

pub record Taken (s : List Place) (f : CanFrame) (time : ℕ) : Type 0 where
  pub by : Lone
  pub accepted : accepts_frame (source_of f) f ≡ true
  pub was : held s (source_of f) ≡ Some by
  pub passed : (hears by f time).said ≡ Ok tt
  pub station : (station_call s (frame f time)).1 ≡ put s (source_of f) (Some (hears by f time).lone)

-- where a frame goes, by whether it is accepted and what is held for its source
abbrev pub to : List Place → CanFrame → ℕ → Bool → Option Lone → Reply × List Place
to s f time b o =
    cond b (route s (source_of f) o (refuses (call.Frame time) refusal.FrameNotAccepted) (λ h. lone_by h (call.Frame time) f)) (no refusal.FrameNotAccepted, s)

pub taken_in : (s : List Place) (f : CanFrame) (time : ℕ) → (station_call s (frame f time)).0 ≡ ok → Taken s f time
unfolding station_by route refused lone_by hears_to answered_ok
taken_in s f time e = go (accepts_frame (source_of f) f) (held s (source_of f)) refl refl e
  where
    passes : (k : Result ⊤ Refusal) → answered k ≡ ok → k ≡ Ok tt
    passes (Ok tt) q = refl
    passes (Err r) q = not-ok (no r) refl q

    go : (b : Bool) (o : Option Lone) → accepts_frame (source_of f) f ≡ b → held s (source_of f) ≡ o → (to s f time b o).0 ≡ ok → Taken s f time
    go false o p q e = not-ok (no refusal.FrameNotAccepted) refl e
    go true None p q e = not-ok (no refusal.FrameNotAccepted) refl e
    go true (Some h) p q e =
        record {
          by = h;
          accepted = p;
          was = q;
          passed = passes (hears h f time).said e;
          station = ap (λ (b : Bool). (to s f time b (held s (source_of f))).1) p ∙ ap (λ (o : Option Lone). (to s f time true o).1) q;
        }

-- ---- a start that isn't refused

pub record Began (s : List Place) (m : ℕ) (c : Command) (time : ℕ) : Type 0 where
  pub by : Lone
  pub was : held s m ≡ Some by
  pub passed : start_said by.state.clock by.state.operation.phase c time ≡ Ok tt
  pub answer : sent_in (station_call s (start m c time)).0 ≡ (lone_start by c time).frame

pub began : (s : List Place) (m : ℕ) (c : Command) (time : ℕ) → unrefused (station_call s (start m c time)).0 ≡ true → Began s m c time
unfolding station_by route refused lone_by moves_to
began s m c time e = go (held s m) refl e
  where
    passes : (h : Lone) (k : Result ⊤ Refusal) → unrefused (says (lone_start_by k h c time).said (lone_start_by k h c time).frame (lone_start_by k h c time).result) ≡ true
        → k ≡ Ok tt
    passes h (Ok tt) q = refl
    passes h (Err r) q = absurd (true≢false (sym q))

    there : Option Lone → Reply × List Place
    there o = route s m o (refuses (call.Start m c time) refusal.IdNotRegistered) (λ h. lone_by h (call.Start m c time) (start m c time).frame)

    go : (o : Option Lone) → held s m ≡ o → unrefused (there o).0 ≡ true → Began s m c time
    go None p q = absurd (true≢false (sym q))
    go (Some h) p q =
        record {
          by = h;
          was = p;
          passed = passes h (start_said h.state.clock h.state.operation.phase c time) q;
          answer = ap (λ (o : Option Lone). sent_in (there o).0) p;
        }

-- ---- echo

pub station-echo : Echo
unfolding reading
station-echo id raw v range e t f later read carries q =
    let x = taken_in t f later q in
    let heard = (hears x.by f later).lone in
    ap (λ (p : List Place). reading id (held p (source_of f))) x.station
    ∙ ap (reading id) (put_some t (source_of f) x.by heard x.was)
    ∙ echo_of id raw v range e x.by f later read carries x.passed

-- a call write_parameter that isn't refused: the encoder takes the value, and the frame carries the write of it
pub record Wrote (s : List Place) (m id : ℕ) (v : ParameterValue) (time : ℕ) : Type 0 where
  pub takes : encode_parameter_value id v ≡ Ok (raw_of v)
  pub carries : (sent_in (station_call s (start m (command.WriteParameter id v) time)).0).data ≡ encode_parameter_write id (raw_of v)

pub wrote : (s : List Place) (m id : ℕ) (v : ParameterValue) (time : ℕ) → unrefused (station_call s (start m (command.WriteParameter id v) time)).0 ≡ true
    → Wrote s m id v time
wrote s m id v time e =
    let b = began s m (command.WriteParameter id v) time e in
    record {
      takes = accepted-raw b.by id v time b.passed;
      carries = ap (λ (g : CanFrame). g.data) b.answer ∙ write-carries b.by id v time b.passed;
    }

pub station-echo-of-call : EchoOfCall
station-echo-of-call s m id v time range e t f later read carries q =
    let w = wrote s m id v time e in
    station-echo id (raw_of v) v range w.takes t f later read (subst (λ (p : List ℕ). Carries f.data p) w.carries carries) q

-- ---- every write

-- what holds of a motor just registered, and after each start, step and frame, holds of every motor that is held
module _
    (P : Lone → Type 0)
    (made : (m host : ℕ) (model : Model) (wait time : ℕ) → P (lone_new m host model wait time))
    (started : (h : Lone) (c : Command) (now : ℕ) → P h → P (lone_start h c now).lone)
    (stepped : (h : Lone) (now : ℕ) → P h → P (lone_step h now).lone)
    (heard : (h : Lone) (f : CanFrame) (now : ℕ) → P h → P (hears h f now).lone)
  where
    abbrev KeptBy : Option Lone → Type 0
    KeptBy None = Unit {0}
    KeptBy (Some h) = P h

    abbrev Kept : List Place → Type 0
    Kept [] = Unit {0}
    Kept (free ∷ s) = Kept s
    Kept (taken i h ∷ s) = P h × Kept s

    kept-held : (s : List Place) (m : ℕ) (h : Lone) → Kept s → held s m ≡ Some h → P h
    unfolding held
    kept-held [] m h a e = absurd (none-some h e)
    kept-held (free ∷ s) m h a e = kept-held s m h a e
    kept-held (taken i k ∷ s) m h a e = go (eqb i m) e (kept-held s m h a.1)
      where
        go : (b : Bool) → cond b (Some k) (held s m) ≡ Some h → (held s m ≡ Some h → P h) → P h
        go true q ih = subst P (same_Some k h q) a.0
        go false q ih = ih q

    kept-place : (i : ℕ) (o : Option Lone) (s : List Place) → KeptBy o → Kept s → Kept (place i o ∷ s)
    unfolding place
    kept-place i None s p a = a
    kept-place i (Some h) s p a = (p, a)

    kept_put : (s : List Place) (m : ℕ) (o : Option Lone) → KeptBy o → Kept s → Kept (put s m o)
    unfolding put
    kept_put [] m o p a = tt
    kept_put (free ∷ s) m o p a = kept_put s m o p a
    kept_put (taken i h ∷ s) m o p a = go (eqb i m) (kept_put s m o p a.1)
      where
        go : (b : Bool) → Kept (put s m o) → Kept (cond b (place i o ∷ s) (taken i h ∷ put s m o))
        go true ih = kept-place i o s p a.1
        go false ih = (a.0, ih)

    kept-add : (s : List Place) (m : ℕ) (h : Lone) → P h → Kept s → Kept (add s m h)
    unfolding add
    kept-add [] m h p a = tt
    kept-add (free ∷ s) m h p a = (p, a)
    kept-add (taken i k ∷ s) m h p a = (a.0, kept-add s m h p a.1)

    kept-lone : (h : Lone) (c : Call) (f : CanFrame) → P h → KeptBy (lone_by h c f).1
    unfolding lone_by moves_to hears_to leaves
    kept-lone h (call.Register m host model wait time) f p = p
    kept-lone h (call.Start m c now) f p = started h c now p
    kept-lone h (call.Step m now) f p = stepped h now p
    kept-lone h (call.Frame now) f p = heard h f now p
    kept-lone h (call.Look m) f p = p
    kept-lone h (call.Remove m now) f p = go (lone_removal h now)
      where
        go : (k : Result ⊤ Refusal) → KeptBy (leaves h k)
        go (Ok tt) = tt
        go (Err r) = p

    kept-route : (s : List Place) (m : ℕ) (o : Option Lone) (r : Reply) (c : Call) (f : CanFrame) → held s m ≡ o → Kept s
        → Kept (route s m o r (λ h. lone_by h c f)).1
    unfolding route
    kept-route s m None r c f e a = a
    kept-route s m (Some h) r c f e a = kept_put s m (lone_by h c f).1 (kept-lone h c f (kept-held s m h a e)) a

    kept-admit : (k : Result ⊤ Refusal) (s : List Place) (m host : ℕ) (model : Option Model) (wait time : ℕ) → Kept s → Kept (admit k s m host model wait time).1
    unfolding admit enter
    kept-admit (Ok tt) s m host (Some model) wait time a = kept-add s m (lone_new m host model wait time) (made m host model wait time) a
    kept-admit (Ok tt) s m host None wait time a = a
    kept-admit (Err r) s m host model wait time a = a

    kept-call : (s : List Place) (c : Call) (f : CanFrame) → Kept s → Kept (station_by s c f).1
    unfolding station_by
    kept-call s (call.Register m host model wait time) f a = kept-admit (admission s m host model wait time) s m host model wait time a
    kept-call s (call.Start m c now) f a = kept-route s m (held s m) _ (call.Start m c now) f refl a
    kept-call s (call.Step m now) f a = kept-route s m (held s m) _ (call.Step m now) f refl a
    kept-call s (call.Frame now) f a = go (accepts_frame (source_of f) f)
      where
        go : (b : Bool) → Kept (cond b (to_source s f now) (no refusal.FrameNotAccepted, s)).1
        go true = kept-route s (source_of f) (held s (source_of f)) _ (call.Frame now) f refl a
        go false = a
    kept-call s (call.Look m) f a = kept-route s m (held s m) _ (call.Look m) f refl a
    kept-call s (call.Remove m now) f a = kept-route s m (held s m) _ (call.Remove m now) f refl a

    kept-after : (s : List Place) (cs : List Asked) → Kept s → Kept (after s cs)
    unfolding after
    kept-after s [] a = a
    kept-after s (c ∷ cs) a = kept-after (station_call s c).1 cs (kept-call s c.call c.frame a)

    kept_free : (n : ℕ) → Kept (replicate n free)
    kept_free zero = tt
    kept_free (suc n) = kept_free n

    kept : (cs : List Asked) (m : ℕ) (h : Lone) → held (after empty cs) m ≡ Some h → P h
    unfolding empty
    kept cs m h e = kept-held (after empty cs) m h (kept-after empty cs (kept_free 8)) e

-- the frame of a start or a step is the lone motor's
frame-sent : (s : List Place) (m : ℕ) (h : Lone) (c : Call) (f : CanFrame) (a : LoneAnswered) → held s m ≡ Some h → lone_by h c f ≡ moves_to a
    → sent_in (to_motor s m c f).0 ≡ a.frame
unfolding route moves_to
frame-sent s m h c f a e q =
    ap (λ (o : Option Lone). sent_in (route s m o (refuses c refusal.IdNotRegistered) (λ k. lone_by k c f)).0) e
    ∙ ap (λ (x : Reply × Option Lone). sent_in x.0) q

pub station-writes : Writes
unfolding station_by lone_by
station-writes cs m h e =
    let s = after empty cs in
    let asks = kept AsksEncoded (λ i host model wait time. tt) (λ l c now p. (start-sends l c now p).1) (λ l now p. (step-sends l now p).1) frame-asks cs m h e in (
      λ c time.
          subst (λ (f : CanFrame). Sent (sight_of h.state) f)
          (sym (frame-sent s m h (call.Start m c time) (start m c time).frame (lone_start h c time) e refl))
          (start-sends h c time asks).0,
      λ time.
          subst (λ (f : CanFrame). Sent (sight_of h.state) f)
          (sym (frame-sent s m h (call.Step m time) (step m time).frame (lone_step h time) e refl))
          (step-sends h time asks).0,
    )
