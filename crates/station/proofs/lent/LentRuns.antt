-- The lent functions give each call's reply and next station by the definitions, as their contracts say; so demands 1, 2 and 3 are
-- theirs, over whole lists of lent calls from a new station. Assumes nothing.
use mathlib.Core.Path.{◌≡◌, refl, sym, ap, ◌∙◌}
use base.Logic.{id⊢, emp}
use Rattle.codec.specs.declared.bus.CanFrame.{CanFrame}
use Rattle.station.specs.declared.call.Asked.{Asked}
use Rattle.station.specs.declared.call.Call.{Call}
use Rattle.station.specs.declared.call.Call.TheVariants as call
use Rattle.station.specs.declared.call.Replied.{Replied}
use Rattle.station.specs.declared.station.After.{After}
use Rattle.station.specs.declared.station.Station.{Station}
use Rattle.station.specs.Stations.{call_in}
use Rattle.station.specs.Code.{Out, after, looked, given_by, given}
use Rattle.station.specs.lent.LentDemands.{LentBy, LentGives}
use Rattle.station.proofs.Demand2.{demand2-of}
use Rattle.station.proofs.Kept.{demand1-of}
use Rattle.station.proofs.Promised.{demand3-of}
use Rattle.station.proofs.lent.LentPromises.{LentPromises, LentStationDemands}

-- a reply and a station, of a call's definition
whole : (x r : After) → r.replied ≡ x.replied → r.station ≡ x.station → after x ≡ after r
whole x r e f =
    ap {B = Out} (λ (p : Replied). after (record { station = x.station; replied = p })) (sym e)
    ∙ ap {B = Out} (λ (p : Station). after (record { station = p; replied = r.replied })) (sym f)

lent_by : (st : Station) (c : Call) (f : CanFrame) (o : Out) → LentBy st c f o → given_by st c f ≡ o
unfolding given_by call_in
lent_by st (call.Register m h k w t) f (after r) g = whole _ r g.0 g.1
lent_by st (call.Register m h k w t) f (looked r) g = absurd g
lent_by st (call.Start m c t) f (after r) g = whole _ r g.0 g.1
lent_by st (call.Start m c t) f (looked r) g = absurd g
lent_by st (call.Step m t) f (after r) g = whole _ r g.0 g.1
lent_by st (call.Step m t) f (looked r) g = absurd g
lent_by st (call.Frame t) f (after r) g = whole _ r g.0 g.1
lent_by st (call.Frame t) f (looked r) g = absurd g
lent_by st (call.Look m) f (after r) g = absurd g
lent_by st (call.Look m) f (looked r) g = ap {B = Out} looked (sym g.1.0)
lent_by st (call.Remove m t) f (after r) g = whole _ r g.0 g.1
lent_by st (call.Remove m t) f (looked r) g = absurd g

lent-given : (st : Station) (a : Asked) (o : Out) → LentGives st a o → given st a ≡ o
lent-given st a = lent_by st a.call a.frame

-- ---- the contracts, and the demands of lists of lent calls

promises : LentPromises
promises =
    record {
      call-asks = λ k x g w. id⊢ w.𝓤 (emp w.𝓤);
      look-asks = λ k x g w. id⊢ w.𝓤 (emp w.𝓤);
      called = λ w k m end a r. refl;
      looked = λ w k m end id r. refl;
      look-keeps = λ ms zs id r l. l.1;
    }

pub lent-demands : LentStationDemands
lent-demands =
    record {
      promises = promises;
      demand1 = demand1-of LentGives lent-given;
      demand2 = demand2-of LentGives lent-given;
      demand3 = demand3-of LentGives lent-given;
    }
