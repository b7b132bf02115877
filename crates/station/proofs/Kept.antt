-- Demand 1 over contracts: of any functions whose contracts give each call's reply and next station by the definitions. Assumes nothing.
use Rattle.std.specs.Prelude.{Option, None, Some}
use Prim.Native.Nat.{ℕ}
use mathlib.Core.Path.{◌≡◌, sym, ap, ◌∙◌, subst}
use mathlib.Core.Bool.{true, false}
use mathlib.Core.List.{List, ◌∷◌}
use Rattle.codec.specs.Kinds.{among}
use Rattle.motor.specs.Lone.{Lone}
use Rattle.station.specs.declared.call.Asked.{Asked}
use Rattle.station.specs.declared.station.Station.{Station}
use Rattle.station.specs.Calls.{start, step, frame, remove, Reply, ok}
use Rattle.station.specs.Station.{Place, held, Distinct, source_of, station_call}
use Rattle.station.specs.Stations.{free_motor, motor_at, with_motor, Shows}
use Rattle.station.specs.Demands.{inert, number, numbers_of, raised, failed, counting_numbers, ending_numbers, moving_numbers}
use Rattle.station.specs.Code.{Out, reply_in, next, given, seen, shown, place_for, raised_at, failed_at}
use Rattle.station.specs.CodeDemands.{CodeKept, CodeDemand1}
use Rattle.station.proofs.ChangedPlaces.{place-counted, place-ended, place-freed}
use Rattle.station.proofs.Contracts.{by-meaning, seen-is, gives-given}
use Rattle.station.proofs.Elsewhere.{elsewhere}
use Rattle.station.proofs.Promises.{Gives as ByValue}
use Rattle.station.proofs.Refused.{demand1}
use Rattle.station.proofs.Unchanged.{given-still}

-- what is so of the definition's value is so of what is returned
module _ (Gives : Station → Asked → Out → Type 0) (is-given : (st : Station) (a : Asked) (o : Out) → Gives st a o → given st a ≡ o) where
  of-given : (P : Station → Out → Type 0) (st : Station) (a : Asked) (o : Out) → Gives st a o → P st (given st a) → P st o
  of-given P st a o g p = subst (P st) (is-given st a o g) p

  module _ (st : Station) (s : List Place) (x : Shows st s) where
    -- what is held after a call that is answered so, seen by a look
    seen-after : (a : Asked) (o : Out) → Gives st a o → (m : ℕ) (k : Option Lone) (C : Reply → Type 0)
        → (C (station_call s a).0 → held (station_call s a).1 m ≡ k) → C (reply_in o) → seen (next st o) m ≡ shown k
    seen-after a o g m k C h =
        of-given (λ st o. C (reply_in o) → seen (next st o) m ≡ shown k) st a o g
        (λ c. let b = by-meaning st s x a (λ r t. C r → held t m ≡ k) h in seen-is (next st (given st a)) b.0 m b.1 ∙ ap shown (b.2 c))

    says_so : (a : Asked) (o : Out) → Gives st a o → (P : Reply → Type 0) → P (station_call s a).0 → P (reply_in o)
    says_so a o g P p = of-given (λ st o. P (reply_in o)) st a o g (by-meaning st s x a (λ r t. P r) p).2

    code-kept : Distinct s → CodeKept Gives st s
    unfolding shown
    code-kept d =
        record {
          others = λ a o g m e. seen-after a o g m (held s m) (λ r. Unit {0}) (λ u. demand1.others s m a e) tt ∙ sym (seen-is st s m x);
          freed = λ m now o g. seen-after (remove m now) o g m None (λ r. r ≡ ok) (demand1.freed s m now d);
          counted = λ f now o h g q.
              seen-after (frame f now) o g (source_of f) (Some (raised h now)) (λ r. among (number r) counting_numbers ≡ true) (demand1.counted s f now h d q);
          ended = λ m now o h g q.
              seen-after (step m now) o g m (Some (failed h now)) (λ r. among (number r) ending_numbers ≡ true) (demand1.ended s m now h d q);
          numbers = λ a o g. says_so a o g (λ r. among (number r) (numbers_of a.call) ≡ true) (demand1.numbers s a);
          start-numbers = λ m c now o g.
              says_so (start m c now) o g (λ r. among (number r) (21 ∷ moving_numbers) ≡ false) (demand1.start-numbers s m c now);
          frame-numbers = λ f now o g.
              says_so (frame f now) o g (λ r. among (number r) (19 ∷ 21 ∷ ending_numbers) ≡ false) (demand1.frame-numbers s f now);
        }

  pub demand1-of : CodeDemand1 Gives
  demand1-of =
      record {
        refused = λ st a o g. of-given (λ st o. inert (reply_in o) ≡ true → next st o ≡ st) st a o g (given-still st a);
        elsewhere = λ st a o g. of-given (λ st o. (i : ℕ) → (i ≡ place_for st a → ⊥) → motor_at (next st o) i ≡ motor_at st i) st a o g (elsewhere st a);
        counted = λ st f now o g.
            of-given (λ st o. among (number (reply_in o)) counting_numbers ≡ true → next st o ≡ raised_at st (place_for st (frame f now)) now) st (frame f now) o g
            (place-counted st f now);
        ended = λ st m now o g.
            of-given (λ st o. among (number (reply_in o)) ending_numbers ≡ true → next st o ≡ failed_at st (place_for st (step m now)) now) st (step m now) o g
            (place-ended st m now);
        freed = λ st m now o g.
            of-given (λ st o. reply_in o ≡ ok → next st o ≡ with_motor st (place_for st (remove m now)) free_motor) st (remove m now) o g (place-freed st m now);
        good = code-kept;
      }

-- of the six by-value functions
pub code-demand1 : CodeDemand1 ByValue
code-demand1 = demand1-of ByValue gives-given
