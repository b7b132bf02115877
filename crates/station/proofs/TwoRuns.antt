-- Demand 3 over the definitions: to the motor m a station is the lone motor, whatever the other calls are. Assumes nothing.
use Rattle.std.specs.Prelude.{Option, None, Some}
use mathlib.Core.Path.{◌≡◌, refl, sym, ap, ◌∙◌}
use mathlib.Core.Bool.{Bool, true, false, cond}
use mathlib.Core.List.{List, [], ◌∷◌, map}
use Prim.Native.Nat.{ℕ, zero, suc, ◌≤◌}
use native.Mathlib.Nat.{le_of_suc-le-suc, not-suc-le-zero}
use lib.ListN.{length, take}
use Rattle.motor.specs.Lone.{Lone}
use Rattle.station.specs.declared.call.Asked.{Asked}
use Rattle.station.specs.Station.{Place, empty, held, Distinct, lone, station_call}
use Rattle.station.specs.History.{Told, mine, of_m, after, removes, story, own, history, alone, holds}
use Rattle.station.specs.Demands.{Given, registers, made, Run, at, since, AsLone, Same, Demand3}
use Rattle.station.proofs.Places.{distinct-free}
use Rattle.station.proofs.Steps.{other, own-call, is_none, ends, stays, call-distinct, call_length, admitted, opens}

-- the ids differ after any list of calls
pub after-distinct : (s : List Place) (cs : List Asked) → Distinct s → Distinct (after s cs)
unfolding after
after-distinct s [] d = d
after-distinct s (c ∷ cs) d = after-distinct (station_call s c).1 cs (call-distinct s c d)

after-length : (s : List Place) (cs : List Asked) → length (after s cs) ≡ length s
unfolding after
after-length s [] = refl
after-length s (c ∷ cs) = after-length (station_call s c).1 cs ∙ call_length s c

eight : (cs : List Asked) → (length (after empty cs) ≡ 8) × Distinct (after empty cs)
unfolding empty
eight cs = (after-length empty cs, after-distinct empty cs (distinct-free 8))

alone-none : (cs : List Asked) → alone None cs ≡ []
unfolding alone
alone-none [] = refl
alone-none (c ∷ cs) = refl

-- the lone motor's story again from its calls
alone-again : (o : Option Lone) (cs : List Asked) → alone o (map (λ (x : Told). x.0) (alone o cs)) ≡ alone o cs
unfolding alone
alone-again o [] = refl
alone-again None (c ∷ cs) = refl
alone-again (Some h) (c ∷ cs) = ap {B = List Told} (λ k. (c, (lone h c).0) ∷ k) (alone-again (lone h c).1 cs)

-- m's answers are the lone motor's
answers : (m : ℕ) (cs : List Asked) (s : List Place) (h : Lone) → Distinct s → held s m ≡ Some h
    → own m (story m s cs) ≡ alone (Some h) (of_m m cs)
unfolding story own of_m alone
answers m [] s h d e = refl
answers m (c ∷ cs) s h d e = go (mine m c) refl (answers m cs)
  where
    IH : Type 0
    IH = (s : List Place) (h : Lone) → Distinct s → held s m ≡ Some h → own m (story m s cs) ≡ alone (Some h) (of_m m cs)

    s' : List Place
    s' = (station_call s c).1

    d' : Distinct s'
    d' = call-distinct s c d

    end : (o : Option Lone) → held s' m ≡ o → IH → own m (cond (is_none o) [] (story m s' cs)) ≡ alone o (of_m m cs)
    end None q ih = sym (alone-none (of_m m cs))
    end (Some k) q ih = ih s' k d' q

    go : (b : Bool) → mine m c ≡ b → IH → own m (story m s (c ∷ cs)) ≡ alone (Some h) (of_m m (c ∷ cs))
    go true p ih =
        let l = own-call s m h c d e p in
        rw (p, l.0, ends m h c p) (ap {B = List Told} (λ k. (c, (lone h c).0) ∷ k) (end (lone h c).1 l.1 ih))
    go false p ih = rw (p, stays m c _ p) (ih s' h d' (other s m c p ∙ e))

-- and so is what is held for it, after any k calls to its removal or the end
held_at : (m : ℕ) (cs : List Asked) (k : ℕ) (s : List Place) (h : Lone) → Distinct s → held s m ≡ Some h
    → k ≤ length (story m s cs) → held (after s (take k cs)) m ≡ holds (Some h) (of_m m (take k cs))
unfolding story of_m holds after
held_at m cs zero s h d e l = e
held_at m [] (suc k) s h d e l = e
held_at m (c ∷ cs) (suc k) s h d e l = go (mine m c) refl (held_at m cs k)
  where
    s' : List Place
    s' = (station_call s c).1

    d' : Distinct s'
    d' = call-distinct s c d

    IH : Type 0
    IH = (s : List Place) (h : Lone) → Distinct s → held s m ≡ Some h
        → k ≤ length (story m s cs) → held (after s (take k cs)) m ≡ holds (Some h) (of_m m (take k cs))

    short : k ≤ length (cond {A = List Told} (removes m c.call (station_call s c).0) [] (story m s' cs))
    short = le_of_suc-le-suc l

    gone : (k : ℕ) → k ≤ 0 → held s' m ≡ None → held (after s' (take k cs)) m ≡ holds None (of_m m (take k cs))
    gone zero l q = q
    gone (suc k) l q = absurd (not-suc-le-zero l)

    end : (o : Option Lone) → held s' m ≡ o → k ≤ length (cond {A = List Told} (is_none o) [] (story m s' cs)) → IH
        → held (after s' (take k cs)) m ≡ holds o (of_m m (take k cs))
    end None q l ih = gone k l q
    end (Some j) q l ih = ih s' j d' q l

    go : (b : Bool) → mine m c ≡ b → IH → held (after s (take (suc k) (c ∷ cs))) m ≡ holds (Some h) (of_m m (take (suc k) (c ∷ cs)))
    go true p ih =
        let l = own-call s m h c d e p in
        rw p (end (lone h c).1 l.1 (rw (l.0, ends m h c p) at short) ih)
    go false p ih = rw p (ih s' h d' (other s m c p ∙ e) (rw (stays m c (station_call s c).0 p) at short))

-- a story has the calls of its list, in order, as far as it goes
story-calls : (m : ℕ) (cs : List Asked) (k : ℕ) (s : List Place) → k ≤ length (story m s cs)
    → of_m m (take k cs) ≡ history m (take k (story m s cs))
unfolding story of_m own history
story-calls m cs zero s l = refl
story-calls m [] (suc k) s l = refl
story-calls m (c ∷ cs) (suc k) s l =
    go (mine m c) refl (end k (removes m c.call (station_call s c).0) (le_of_suc-le-suc l) (story-calls m cs k s'))
  where
    s' : List Place
    s' = (station_call s c).1

    rest : Bool → List Told
    rest b = cond b [] (story m s' cs)

    end : (k : ℕ) (b : Bool) → k ≤ length (rest b) → (k ≤ length (story m s' cs) → of_m m (take k cs) ≡ history m (take k (story m s' cs)))
        → of_m m (take k cs) ≡ history m (take k (rest b))
    end zero true l ih = refl
    end (suc k) true l ih = absurd (not-suc-le-zero l)
    end k false l ih = ih l

    go : (b : Bool) → mine m c ≡ b → of_m m (take k cs) ≡ history m (take k (rest (removes m c.call (station_call s c).0)))
        → of_m m (take (suc k) (c ∷ cs)) ≡ history m (take (suc k) (story m s (c ∷ cs)))
    go true p ih = rw p (ap {B = List Asked} (λ l. c ∷ l) ih)
    go false p ih = rw p ih

-- the history of a story's beginning is the beginning of its history
history-take : (m k : ℕ) (xs : List Told) → history m (take k xs) ≡ take (length (history m (take k xs))) (history m xs)
unfolding own history
history-take m zero xs = refl
history-take m (suc k) [] = refl
history-take m (suc k) (x ∷ xs) = go (mine m x.0) refl (history-take m k xs)
  where
    go : (b : Bool) → mine m x.0 ≡ b → history m (take k xs) ≡ take (length (history m (take k xs))) (history m xs)
        → history m (take (suc k) (x ∷ xs)) ≡ take (length (history m (take (suc k) (x ∷ xs)))) (history m (x ∷ xs))
    go true p ih = rw p (ap {B = List Asked} (λ l. x.0 ∷ l) ih)
    go false p ih = rw p ih

module _ {m : ℕ} {r : Given} (x : Run m r) where
  differ : Distinct (at x 0)
  unfolding at after empty
  differ = call-distinct _ (registers m r) (after-distinct empty x.before (distinct-free 8))

  begins : held (at x 0) m ≡ Some (made m r)
  unfolding at after
  begins = admitted (after empty x.before) m r x.unrefused

  pub as-lone : AsLone x
  unfolding since at after
  as-lone =
      record {
        answers = answers m x.later (at x 0) (made m r) differ begins;
        held_at = λ k l. held_at m x.later k (at x 0) (made m r) differ begins l;
      }

  -- as the lone motor's on m's history, which ends with the removal
  pub by-history : own m (since x) ≡ alone (Some (made m r)) (history m (since x))
  unfolding history
  by-history = rw as-lone.answers (sym (alone-again (Some (made m r)) (of_m m x.later)))

  -- m's calls among the first k are the first of its history
  begun : (k : ℕ) → k ≤ length (since x) → of_m m (take k x.later) ≡ take (length (of_m m (take k x.later))) (history m (since x))
  unfolding since
  begun k l = rw (story-calls m x.later k (at x 0) l) (history-take m k (since x))

module _ {m : ℕ} {r : Given} (x y : Run m r) (same-calls : history m (since x) ≡ history m (since y)) where
  pub same : Same x y
  same =
      record {
        answers = by-history x ∙ ap (alone (Some (made m r))) same-calls ∙ sym (by-history y);
        held_at = λ j k p q n.
            (as-lone x).held_at j p
            ∙ ap (holds (Some (made m r))) (begun x j p ∙ rw (n, same-calls) (sym (begun y k q)))
            ∙ sym ((as-lone y).held_at k q);
      }

pub demand3 : Demand3
demand3 =
    record {
      two_runs = λ m r x y e. same x y e;
      lone-motor = λ m r x. as-lone x;
      places = eight;
      taken_in = λ cs m r e. opens (after empty cs) m r e;
    }
