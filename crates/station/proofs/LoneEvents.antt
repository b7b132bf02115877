-- A call of m's is an event of the lone motor, and what is held for m came from a new motor, by its own events. Assumes nothing.
use Rattle.std.specs.Prelude.{Some, None, Result, Ok, Err, ⊤, Option}
use Prim.Native.Nat.{ℕ}
use mathlib.Core.Path.{◌≡◌, refl, sym, ap, ◌∙◌}
use mathlib.Core.Bool.{Bool, true, false}
use mathlib.Core.List.{List, [], ◌∷◌, ◌++◌}
use Rattle.codec.specs.declared.error.Refusal.{Refusal}
use Rattle.codec.specs.declared.bus.CanFrame.{CanFrame}
use Rattle.codec.specs.declared.model.Model.{Model}
use Rattle.motor.specs.Bounds.{LoneEvent, start as started, step as stepped, frame as heard, other as none-of-it, after_event as then, after_events}
use Rattle.motor.specs.Lone.{Lone, lone_new, lone_removal}
use Rattle.std.proofs.lemmas.Option.{none-some, same_Some}
use Rattle.station.specs.declared.call.Asked.{Asked}
use Rattle.station.specs.declared.call.Call.{Call}
use Rattle.station.specs.declared.call.Call.TheVariants as call
use Rattle.station.specs.Calls.{Reply}
use Rattle.station.specs.Station.{Place, empty, held, full, Distinct, moves_to, hears_to, leaves, lone_by, route, admission, enter, admit, source_of, station_by, station_call}
use Rattle.station.specs.History.{mine_by, mine, after}
use Rattle.station.proofs.Places.{same_id, held-add, distinct-free}
use Rattle.station.proofs.Steps.{other, own-call, accepts-source, call-distinct, passes}

-- ---- a call of m's as an event of the lone motor

unfoldable pub event_by : Call → CanFrame → LoneEvent
event_by (call.Register m host model wait time) f = none-of-it
event_by (call.Start m c now) f = started c now
event_by (call.Step m now) f = stepped now
event_by (call.Frame now) f = heard f now
event_by (call.Look m) f = none-of-it
event_by (call.Remove m now) f = none-of-it

-- what is held after it, if the motor isn't removed
pub then-holds : (h k : Lone) (c : Call) (f : CanFrame) → (lone_by h c f).1 ≡ Some k → then h (event_by c f) ≡ k
unfolding event_by lone_by moves_to hears_to leaves
then-holds h k (call.Register m host model wait time) f e = same_Some h k e
then-holds h k (call.Start m c now) f e = same_Some _ k e
then-holds h k (call.Step m now) f e = same_Some _ k e
then-holds h k (call.Frame now) f e = same_Some _ k e
then-holds h k (call.Look m) f e = same_Some h k e
then-holds h k (call.Remove m now) f e = go (lone_removal h now) e
  where
    go : (x : Result ⊤ Refusal) → leaves h x ≡ Some k → h ≡ k
    go (Ok tt) e = absurd (none-some k e)
    go (Err r) e = same_Some h k e

-- ---- what is held for m came from a new motor, by its own events

pub record Made (h : Lone) : Type 0 where
  pub id : ℕ
  pub host : ℕ
  pub model : Model
  pub wait : ℕ
  pub since : ℕ
  pub events : List LoneEvent
  pub is : after_events (lone_new id host model wait since) events ≡ h

one_more : (l : Lone) (es : List LoneEvent) (e : LoneEvent) → after_events l (es ++ (e ∷ [])) ≡ then (after_events l es) e
one_more l [] e = refl
one_more l (x ∷ es) e = one_more (then l x) es e

made-on : (k h : Lone) (e : LoneEvent) → then k e ≡ h → Made k → Made h
made-on k h e q x =
    record {
      id = x.id;
      host = x.host;
      model = x.model;
      wait = x.wait;
      since = x.since;
      events = x.events ++ (e ∷ []);
      is = one_more _ x.events e ∙ ap (λ (l : Lone). then l e) x.is ∙ q;
    }

module _ (m : ℕ) (s : List Place) (h : Lone) where
  -- where m isn't registered, only a registration holds something for it
  by-none : (i : ℕ) (r : Reply) (visit : Lone → Reply × Option Lone) → i ≡ m → held s m ≡ None → held (route s i (held s i) r visit).1 m ≡ Some h → Made h
  unfolding route
  by-none i r visit q e x = absurd (none-some h (sym e ∙ (rw (q, e) at x)))

  entered : (i host : ℕ) (model : Option Model) (wait time : ℕ) → i ≡ m → held s m ≡ None → full s ≡ false
      → held (enter s i host model wait time).1 m ≡ Some h → Made h
  unfolding enter
  entered i host (Some model) wait time q e f x =
      record {
        id = m;
        host = host;
        model = model;
        wait = wait;
        since = time;
        events = [];
        is = same_Some _ h (sym (held-add s m (lone_new m host model wait time) e f) ∙ (rw q at x));
      }
  entered i host None wait time q e f x = absurd (none-some h (sym e ∙ x))

  fresh : (c : Call) (f : CanFrame) → mine_by m c f ≡ true → held s m ≡ None → held (station_by s c f).1 m ≡ Some h → Made h
  unfolding mine_by station_by admit
  fresh (call.Register i host model wait time) f p e x = go (admission s i host model wait time) refl x
    where
      go : (k : Result ⊤ Refusal) → admission s i host model wait time ≡ k → held (admit k s i host model wait time).1 m ≡ Some h → Made h
      go (Ok tt) q x = entered i host model wait time (same_id i m p) e (passes s i host model wait time q).1 x
      go (Err r) q x = absurd (none-some h (sym e ∙ x))
  fresh (call.Start i c now) f p e x = by-none i _ _ (same_id i m p) e x
  fresh (call.Step i now) f p e x = by-none i _ _ (same_id i m p) e x
  fresh (call.Frame now) f p e x =
      let b = accepts-source m f p in
      by-none (source_of f) _ _ b.0 e (rw b.1 at x)
  fresh (call.Look i) f p e x = by-none i _ _ (same_id i m p) e x
  fresh (call.Remove i now) f p e x = by-none i _ _ (same_id i m p) e x

made_after : (m : ℕ) (cs : List Asked) (s : List Place) → Distinct s → ((h : Lone) → held s m ≡ Some h → Made h)
    → (h : Lone) → held (after s cs) m ≡ Some h → Made h
unfolding after
made_after m [] s d x h e = x h e
made_after m (a ∷ cs) s d x h e = made_after m cs (station_call s a).1 (call-distinct s a d) (λ k. one k (mine m a) refl) h e
  where
    by-held : (k : Lone) → mine m a ≡ true → (o : Option Lone) → held s m ≡ o → held (station_call s a).1 m ≡ Some k → Made k
    by-held k p None q r = fresh m s k a.call a.frame p q r
    by-held k p (Some l) q r =
        made-on l k (event_by a.call a.frame) (then-holds l k a.call a.frame (sym (own-call s m l a d q p).1 ∙ r)) (x l q)

    one : (k : Lone) (b : Bool) → mine m a ≡ b → held (station_call s a).1 m ≡ Some k → Made k
    one k true p r = by-held k p (held s m) refl r
    one k false p r = x k (sym (other s m a p) ∙ r)

pub made : (before : List Asked) (m : ℕ) (h : Lone) → held (after empty before) m ≡ Some h → Made h
unfolding empty held
made before m h = made_after m before empty (distinct-free 8) (λ k e. absurd (none-some k e)) h
