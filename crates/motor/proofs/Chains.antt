-- Chains through records of which some were stored anew. Assumes nothing.
use Rattle.std.proofs.Common.{◌≡◌, ℕ, suc, ◌<◌, ◌≤◌, List, [], ◌∷◌, ◌++◌, map, length, set, sym, refl, ap, ◌∙◌, subst, arith, length-set, get_or-set_other, get_or-set_same}
use native.Mathlib.Decide.{ℕ_discrete}
use Rattle.motor.specs.declared.readings.Reading.{Reading}
use Rattle.motor.specs.declared.readings.Entry.{Entry}
use Rattle.motor.specs.Limits.{most_readings}
use Rattle.motor.specs.Readings.{entry, Numbered, numbers, reading, free_record, rec_at, next_at, entry_at, Chain, times, unused}
use Rattle.motor.proofs.Times.{UpTo, times-here, times_more, not_first}

-- k is not j
abbrev pub Not : ℕ → ℕ → Type 0
Not j k = k ≡ j → ⊥

pub numbers-unused : (fs : List ℕ) → numbers (map unused fs) ≡ fs
numbers-unused [] = refl
numbers-unused (f ∷ fs) = ap (λ (t : List ℕ). f ∷ t) (numbers-unused fs)

pub chain-upto : (r : List Reading) (h : ℕ) (l : List Numbered) → Chain r h l → UpTo most_readings (numbers l)
chain-upto r h [] c = tt
chain-upto r h (j ∷ js) c = (c.1, c.2, chain-upto r (next_at r j.0) js c.4)

pub free-upto : (r : List Reading) (h : ℕ) (fs : List ℕ) → Chain r h (map unused fs) → UpTo most_readings fs
free-upto r h fs c = rw (numbers-unused fs) at (chain-upto r h (map unused fs) c)

pub head-le : (r : List Reading) (h : ℕ) (l : List Numbered) → Chain r h l → h ≤ most_readings
head-le r h [] c = omega arith
head-le r h (j ∷ js) c = omega (arith, c.0, c.2)

-- two chains of one list begin alike
pub same_head : (r r' : List Reading) (h h' : ℕ) (l : List Numbered) → Chain r h l → Chain r' h' l → h ≡ h'
same_head r r' h h' [] c d = c ∙ sym d
same_head r r' h h' (j ∷ js) c d = c.0 ∙ sym d.0

-- ---- the last record of a run, or the one before it

abbrev pub last : ℕ → List Numbered → ℕ
last p [] = p
last p (j ∷ js) = last j.0 js

pub last-in : (ps : List Numbered) (p : ℕ) → 0 < times (last p ps) (p ∷ numbers ps)
last-in [] p = omega (arith, times-here p [])
last-in (j ∷ ps) p = omega (arith, last-in ps j.0, times_more (last j.0 ps) p (j.0 ∷ numbers ps))

-- ---- a record stored

abbrev pub entry_in : Reading → Entry
entry_in y = entry y.id y.held

module _ (r : List Reading) (i : ℕ) (x : Reading) where
  pub set_same : i < length r → rec_at (set r i x) i ≡ x
  set_same h = get_or-set_same r i x (free_record 0) h

  pub set_other : (k : ℕ) → Not i k → rec_at (set r i x) k ≡ rec_at r k
  set_other k h = get_or-set_other r i k x (free_record 0) h

  -- a record whose entry is kept keeps every entry
  pub same-entry : i < length r → entry x.id x.held ≡ entry_at r i → (k : ℕ) → entry_at (set r i x) k ≡ entry_at r k
  same-entry l e k = go (ℕ_discrete k i)
    where
      go : Dec (k ≡ i) → entry_at (set r i x) k ≡ entry_at r k
      go (yes p) = subst (λ (j : ℕ). entry_at (set r i x) j ≡ entry_at r j) (sym p) (ap entry_in (set_same l) ∙ e)
      go (no n) = ap entry_in (set_other k n)

-- r' differs from r in record f, and in the next of record q
pub record Differ (r r' : List Reading) (f q : ℕ) : Type 0 where
  pub size : length r' ≡ length r
  pub links : (k : ℕ) → Not f k → Not q k → next_at r' k ≡ next_at r k
  pub stays : (k : ℕ) → Not f k → entry_at r' k ≡ entry_at r k

pub stored-differ : (r : List Reading) (f : ℕ) (y : Reading) (q : ℕ) → Differ r (set r f y) f q
stored-differ r f y q =
    record {
      size = length-set r f y;
      links = λ k h i. ap (λ (t : Reading). t.next) (set_other r f y k h);
      stays = λ k h. ap entry_in (set_other r f y k h);
    }

-- record f stored, then the next of record q
module _ (r : List Reading) (f : ℕ) (y : Reading) (q n : ℕ) (lf : f < length r) (lq : q < length r) where
  abbrev pub relinked : List Reading
  relinked = set (set r f y) q (reading (entry_at (set r f y) q) n)

  fits : q < length (set r f y)
  fits = omega (arith, length-set r f y)

  pub relinked-differ : Differ r relinked f q
  relinked-differ =
      let d = stored-differ r f y q in
      let z = reading (entry_at (set r f y) q) n in
      record {
        size = length-set (set r f y) q z ∙ d.size;
        links = λ k h i. ap (λ (t : Reading). t.next) (set_other (set r f y) q z k i) ∙ d.links k h i;
        stays = λ k h. same-entry (set r f y) q z fits refl k ∙ d.stays k h;
      }

  pub relinked-first : Not q f → rec_at relinked f ≡ y
  relinked-first h = set_other (set r f y) q (reading (entry_at (set r f y) q) n) f h ∙ set_same r f y lf

  pub relinked-next : next_at relinked q ≡ n
  relinked-next = ap (λ (t : Reading). t.next) (set_same (set r f y) q (reading (entry_at (set r f y) q) n) fits)

-- ---- chains of r in r'

module _ (r r' : List Reading) (f q : ℕ) (d : Differ r r' f q) where
  -- a chain with neither f nor q
  pub away : (l : List Numbered) (h : ℕ) → times f (numbers l) ≡ 0 → times q (numbers l) ≡ 0 → Chain r h l → Chain r' h l
  away [] h a b c = c
  away (j ∷ js) h a b c =
      let u = not_first f j.0 (numbers js) a in
      let e = d.links j.0 u (not_first q j.0 (numbers js) b) in (
        c.0,
        c.1,
        c.2,
        d.stays j.0 u ∙ c.3,
        rw e (away js (next_at r j.0) (omega (arith, times_more f j.0 (numbers js))) (omega (arith, times_more q j.0 (numbers js))) c.4),
      )

  -- a run that ends at q, and what follows q now
  pub joined : (bs ds : List Numbered) → Chain r' (next_at r' q) ds → (ps : List Numbered) (p : ℕ) → last p ps ≡ q
      → times f (p ∷ numbers ps) ≡ 0 → times q (p ∷ numbers ps) ≤ 1 → Chain r (next_at r p) (ps ++ bs) → Chain r' (next_at r' p) (ps ++ ds)
  joined bs ds t [] p e a b c = rw e t
  joined bs ds t (j ∷ ps) p e a b c =
      let u = not_first f p (numbers (j ∷ ps)) a in
      let i : times f (numbers (j ∷ ps)) ≡ 0 = omega (arith, times_more f p (numbers (j ∷ ps))) in
      let m : 0 < times q (numbers (j ∷ ps)) = rw e at (last-in ps j.0) in
      let v : Not q p = λ w. omega (arith, m, b, subst (λ (k : ℕ). times k (p ∷ numbers (j ∷ ps)) ≡ suc (times k (numbers (j ∷ ps)))) w (times-here p (numbers (j ∷ ps)))) in (
        d.links p u v ∙ c.0,
        c.1,
        c.2,
        d.stays j.0 (not_first f j.0 (numbers ps) i) ∙ c.3,
        joined bs ds t ps j.0 e i (omega (arith, times_more q p (numbers (j ∷ ps)))) c.4,
      )
