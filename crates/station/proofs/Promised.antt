-- Demand 3 over contracts, from a new station: of any functions whose contracts give each call's reply and next station by the
-- definitions. The six by-value functions are such (Contracts), and so are the lent ones (lent.LentRuns). Assumes nothing.
use Rattle.std.specs.Prelude.{Some, Ok}
use mathlib.Core.Path.{◌≡◌, refl, sym, ap, ◌∙◌, subst}
use mathlib.Core.Bool.{cond}
use mathlib.Core.List.{List, [], ◌∷◌}
use Prim.Native.Nat.{ℕ, zero, suc, ◌≤◌}
use lib.ListN.{length, take}
use Rattle.station.specs.declared.call.Asked.{Asked}
use Rattle.station.specs.declared.station.Station.{Station}
use Rattle.station.specs.Calls.{Reply, ok}
use Rattle.station.specs.Station.{Place, empty, held, Distinct, admission, station_call}
use Rattle.station.specs.Stations.{Shows}
use Rattle.station.specs.History.{Told, after, removes, story, own, history}
use Rattle.station.specs.Demands.{Given, registers, Run, at, since}
use Rattle.station.specs.Code.{Out, reply_in, next, given, Follows, seen, shown, reached, ending, answers_of}
use Rattle.station.specs.CodeDemands.{Ran, CodeRun, code-since, code_at, CodeAsLone, CodeSame, CodeDemand3}
use Rattle.station.proofs.Places.{distinct-free}
use Rattle.station.proofs.Steps.{opens}
use Rattle.station.proofs.TwoRuns.{as-lone, same, after-distinct}
use Rattle.station.proofs.Contracts.{follows, seen-is, gives-given}
use Rattle.station.proofs.Promises.{New, Gives as ByValue}

-- ---- whole lists of calls are document 01's

module _ (Gives : Station → Asked → Out → Type 0) (is-given : (st : Station) (a : Asked) (o : Out) → Gives st a o → given st a ≡ o) where
  pub one : (st : Station) (s : List Place) (a : Asked) (o : Out) → Shows st s → Gives st a o → Follows st o (station_call s a)
  one st s a o x g = subst (λ (p : Out). Follows st p (station_call s a)) (is-given st a o g) (follows st s a x)

  story-is : (m : ℕ) (st : Station) (s : List Place) (cs : List Asked) (os : List Out) → Shows st s → Ran Gives st cs os
      → story m s cs ≡ answers_of m cs os
  unfolding story answers_of
  story-is m st s [] [] x g = refl
  story-is m st s [] (o ∷ os) x g = absurd g
  story-is m st s (a ∷ cs) [] x g = absurd g
  story-is m st s (a ∷ cs) (o ∷ os) x g =
      let f = one st s a o x g.0 in
      let s' = (station_call s a).1 in
      ap {B = List Told} (λ (r : Reply). (a, r) ∷ cond (removes m a.call r) [] (story m s' cs)) (sym f.0)
      ∙ ap {B = List Told} (λ (l : List Told). (a, reply_in o) ∷ cond (removes m a.call (reply_in o)) [] l) (story-is m (next st o) s' cs os f.1 g.1)

  at-is : (st : Station) (s : List Place) (cs : List Asked) (os : List Out) → Shows st s → Ran Gives st cs os → (k : ℕ)
      → Shows (reached st os k) (after s (take k cs))
  unfolding after reached
  at-is st s cs os x g zero = x
  at-is st s [] [] x g (suc k) = x
  at-is st s [] (o ∷ os) x g (suc k) = absurd g
  at-is st s (a ∷ cs) [] x g (suc k) = absurd g
  at-is st s (a ∷ cs) (o ∷ os) x g (suc k) = at-is (next st o) (station_call s a).1 cs os (one st s a o x g.0).1 g.1 k

  pub end_is : (st : Station) (s : List Place) (cs : List Asked) (os : List Out) → Shows st s → Ran Gives st cs os
      → Shows (ending st os) (after s cs)
  unfolding after ending
  end_is st s [] [] x g = x
  end_is st s [] (o ∷ os) x g = absurd g
  end_is st s (a ∷ cs) [] x g = absurd g
  end_is st s (a ∷ cs) (o ∷ os) x g = end_is (next st o) (station_call s a).1 cs os (one st s a o x g.0).1 g.1

  module _ {m : ℕ} {r : Given} (x : CodeRun Gives New m r) where
    -- the station before the registration, and the registration
    there : List Place
    there = after empty x.before

    arrived : Shows (ending x.begin x.outs) there
    unfolding there
    arrived = end_is x.begin empty x.before x.outs x.new.1 x.ran

    here : Follows (ending x.begin x.outs) x.out (station_call there (registers m r))
    here = one _ there (registers m r) x.out arrived x.registered

    run : Run m r
    unfolding there
    run = record { before = x.before; later = x.later; unrefused = sym here.0 ∙ x.unrefused }

    begun : Shows (next (ending x.begin x.outs) x.out) (at run 0)
    unfolding at after run there
    begun = here.1

    since-is : since run ≡ code-since Gives New x
    unfolding since code-since run
    since-is = story-is m _ (at run 0) x.later x.outs-later begun x.ran-later

    run_at : (k : ℕ) → Shows (code_at Gives New x k) (at run k)
    unfolding at code_at run after
    run_at k = at-is _ (at run 0) x.later x.outs-later begun x.ran-later k

    shown-at : (k : ℕ) → seen (code_at Gives New x k) m ≡ shown (held (at run k) m)
    shown-at k = seen-is (code_at Gives New x k) (at run k) m (run_at k)

    code-as-lone : CodeAsLone Gives New x
    unfolding run
    code-as-lone =
        let l = as-lone run in
        record {
          answers = ap (own m) (sym since-is) ∙ l.answers;
          held_at = λ k b. shown-at k ∙ ap shown (l.held_at k (subst (λ (t : List Told). k ≤ length t) (sym since-is) b));
        }

  code_same : {m : ℕ} {r : Given} (x y : CodeRun Gives New m r) → history m (code-since Gives New x) ≡ history m (code-since Gives New y) → CodeSame Gives New x y
  unfolding run
  code_same {m} x y e =
      let s = same (run x) (run y) (ap (history m) (since-is x) ∙ e ∙ sym (ap (history m) (since-is y))) in
      record {
        answers = ap (own m) (sym (since-is x)) ∙ s.answers ∙ ap (own m) (since-is y);
        held_at = λ j k p q n.
            shown-at x j
            ∙ ap shown (s.held_at j k (subst (λ (t : List Told). j ≤ length t) (sym (since-is x)) p) (subst (λ (t : List Told). k ≤ length t) (sym (since-is y)) q) n)
            ∙ sym (shown-at y k);
      }

  -- a registration that passes the tests is taken
  takes : (st : Station) → New st → (cs : List Asked) (os : List Out) → Ran Gives st cs os → (m : ℕ) (r : Given)
      → (o : Out) → Gives (ending st os) (registers m r) o
      → admission (after empty cs) m r.host (Some r.model) r.wait r.time ≡ Ok tt → reply_in o ≡ ok
  takes st n cs os g m r o h e =
      let s = after empty cs in
      (one (ending st os) s (registers m r) o (end_is st empty cs os n.1 g) h).0 ∙ opens s m r e

  -- every station of a run is good, with different ids
  good : (st : Station) → New st → (cs : List Asked) (os : List Out) → Ran Gives st cs os → (s : List Place) × Shows (ending st os) s × Distinct s
  unfolding empty
  good st n cs os g = (after empty cs, end_is st empty cs os n.1 g, after-distinct empty cs (distinct-free 8))

  pub demand3-of : CodeDemand3 Gives New
  demand3-of = record { two_runs = λ m r x y e. code_same x y e; lone-motor = λ m r x. code-as-lone x; places = good; taken_in = takes }

-- of the six by-value functions
pub code-demand3 : CodeDemand3 ByValue New
code-demand3 = demand3-of ByValue gives-given
