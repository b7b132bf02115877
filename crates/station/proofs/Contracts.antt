-- What a call gives, by the definitions, is document 01's; and by the six functions' own contracts (Promises) it is what they return: a
-- contract that is weakened or dropped breaks this file.
-- Assumes nothing.
use Rattle.std.specs.Prelude.{Result, Option, None, Some}
use mathlib.Core.Path.{◌≡◌, refl, sym, ap, ◌∙◌, subst}
use mathlib.Core.List.{List}
use Prim.Native.Nat.{ℕ}
use Rattle.codec.specs.declared.model.Model.{Model}
use Rattle.codec.specs.declared.bus.CanFrame.{CanFrame}
use Rattle.codec.specs.declared.error.Refusal.TheVariants as refusal
use Rattle.motor.specs.Lone.{Lone, lone_look}
use Rattle.station.specs.declared.call.Asked.{Asked}
use Rattle.station.specs.declared.call.Call.{Call}
use Rattle.station.specs.declared.call.Call.TheVariants as call
use Rattle.station.specs.declared.station.After.{After}
use Rattle.codec.specs.declared.error.Refusal.{Refusal}
use Rattle.motor.specs.declared.motor.Seen.{Seen}
use Rattle.station.specs.declared.station.Station.{Station}
use Rattle.station.specs.Calls.{Reply, shows, refused, refuses}
use Rattle.station.specs.Station.{Place, held, lone_by, route, station_by, station_call}
use Rattle.station.specs.Stations.{register_in, reply_of, Shows, LeavesAs}
use Rattle.station.specs.Code.{Out, after, looked, reply_in, next, given_by, given, Follows, seen, shown}
use Rattle.station.proofs.Meanings.{register-means, start-means, step-means, frame-means, look-means, remove-means}
use Rattle.station.proofs.Promises.{GivesBy, Gives}

-- ---- it is a call of document 01

after-follows : (st : Station) (r : After) (x : Reply × List Place) → LeavesAs r x → Follows st (after r) x
unfolding reply_in next
after-follows st r x a = (a.answer, a.station)

look-follows : (st : Station) (s : List Place) (m : ℕ) (f : CanFrame) (r : Result Seen Refusal) → Shows st s → (reply_of r, s) ≡ station_by s (call.Look m) f
    → Follows st (looked r) (station_by s (call.Look m) f)
unfolding reply_in next
look-follows st s m f r x e = (ap (λ (a : Reply × List Place). a.0) e, subst (λ (a : Reply × List Place). Shows st a.1) e x)

follows_by : (st : Station) (s : List Place) (c : Call) (f : CanFrame) → Shows st s → Follows st (given_by st c f) (station_by s c f)
unfolding given_by station_by lone_by
follows_by st s (call.Register m h k w t) f x = after-follows st _ _ (register-means st s x m h k w t)
follows_by st s (call.Start m c t) f x = after-follows st _ _ (start-means st s x m c t)
follows_by st s (call.Step m t) f x = after-follows st _ _ (step-means st s x m t)
follows_by st s (call.Frame t) f x = after-follows st _ _ (frame-means st s x f t)
follows_by st s (call.Look m) f x = look-follows st s m f _ x (look-means st s x m)
follows_by st s (call.Remove m t) f x = after-follows st _ _ (remove-means st s x m t)

pub follows : (st : Station) (s : List Place) (a : Asked) → Shows st s → Follows st (given st a) (station_call s a)
follows st s a = follows_by st s a.call a.frame

-- what is so of document 01's reply and next station is so of the code's
pub by-meaning : (st : Station) (s : List Place) → Shows st s → (a : Asked) (P : Reply → List Place → Type 0)
    → P (station_call s a).0 (station_call s a).1 → (t : List Place) × Shows (next st (given st a)) t × P (reply_in (given st a)) t
by-meaning st s x a P p =
    let f = follows st s a x in
    let t = (station_call s a).1 in
    (t, f.1, subst (λ (r : Reply). P r t) (sym f.0) p)

-- a look shows what is held
pub seen-is : (st : Station) (s : List Place) (m : ℕ) → Shows st s → seen st m ≡ shown (held s m)
unfolding seen shown station_by route refused lone_by
seen-is st s m x = ap (λ (a : Reply × List Place). a.0) (look-means st s x m) ∙ go (held s m)
  where
    go : (o : Option Lone) → (route s m o (refuses (call.Look m) refusal.IdNotRegistered) (λ h. (shows (lone_look h), Some h))).0 ≡ shown o
    go None = refl
    go (Some h) = refl

-- ---- the functions' own contracts

-- by the first clauses it is the definition's value
gives-by : (st : Station) (c : Call) (f : CanFrame) (o : Out) → GivesBy st c f o → given_by st c f ≡ o
unfolding given_by
gives-by st (call.Register m h k w t) f (after r) g = ap {B = Out} after (sym (g.3.0 ∙ ap (λ (j : Option Model). register_in st m h j w t) g.2))
gives-by st (call.Register m h k w t) f (looked r) g = absurd g
gives-by st (call.Start m c t) f (after r) g = ap {B = Out} after (sym g.0)
gives-by st (call.Start m c t) f (looked r) g = absurd g
gives-by st (call.Step m t) f (after r) g = ap {B = Out} after (sym g.0)
gives-by st (call.Step m t) f (looked r) g = absurd g
gives-by st (call.Frame t) f (after r) g = ap {B = Out} after (sym g.0)
gives-by st (call.Frame t) f (looked r) g = absurd g
gives-by st (call.Look m) f (after r) g = absurd g
gives-by st (call.Look m) f (looked r) g = ap {B = Out} looked (sym g.0)
gives-by st (call.Remove m t) f (after r) g = ap {B = Out} after (sym g.0)
gives-by st (call.Remove m t) f (looked r) g = absurd g

pub gives-given : (st : Station) (a : Asked) (o : Out) → Gives st a o → given st a ≡ o
gives-given st a = gives-by st a.call a.frame

-- and by the second ones, on a good station, document 01's
means-by : (st : Station) (s : List Place) (c : Call) (f : CanFrame) (o : Out) → Shows st s → GivesBy st c f o → Follows st o (station_by s c f)
unfolding station_by lone_by
means-by st s (call.Register m h k w t) f (after r) x g =
    after-follows st r _ (subst (λ (j : Option Model). LeavesAs r (station_by s (call.Register m h j w t) f)) g.2 (g.3.1 s x))
means-by st s (call.Register m h k w t) f (looked r) x g = absurd g
means-by st s (call.Start m c t) f (after r) x g = after-follows st r _ (g.1 s x)
means-by st s (call.Start m c t) f (looked r) x g = absurd g
means-by st s (call.Step m t) f (after r) x g = after-follows st r _ (g.1 s x)
means-by st s (call.Step m t) f (looked r) x g = absurd g
means-by st s (call.Frame t) f (after r) x g = after-follows st r _ (g.1 s x)
means-by st s (call.Frame t) f (looked r) x g = absurd g
means-by st s (call.Look m) f (after r) x g = absurd g
means-by st s (call.Look m) f (looked r) x g = look-follows st s m f r x (g.1 s x)
means-by st s (call.Remove m t) f (after r) x g = after-follows st r _ (g.1 s x)
means-by st s (call.Remove m t) f (looked r) x g = absurd g

pub gives-means : (st : Station) (s : List Place) (a : Asked) (o : Out) → Shows st s → Gives st a o → Follows st o (station_call s a)
gives-means st s a = means-by st s a.call a.frame
