-- The search along the chain: the fuelled mirror splits the list at the place of the id. Assumes nothing.
use Rattle.std.proofs.Common.{◌≡◌, ℕ, zero, suc, ◌-◌, ◌<◌, ◌≤◌, Bool, true, false, ltb, List, [], ◌∷◌, ◌++◌, length, sym, refl, ap, ◌∙◌, arith, ltb-false, ltb-true, le-ltb, lt-ltb, eq-eqb, ne_eqb}
use Rattle.motor.specs.declared.readings.Reading.{Reading}
use Rattle.motor.specs.declared.readings.Entry.{Entry}
use Rattle.motor.specs.Limits.{most_readings}
use Rattle.motor.specs.Readings.{Numbered, entries, next_at, id_at, Chain, before, seek_from, walk}
use Rattle.motor.proofs.Entries.{Below}
use Rattle.motor.proofs.Chains.{last}

-- ---- one step

module _ (r : List Reading) (id : ℕ) where
  pub seek_stop : (k p : ℕ) → before r id (next_at r p) ≡ false → seek_from k r id p ≡ p
  unfolding seek_from
  seek_stop zero p e = refl
  seek_stop (suc k) p e = rw e

  pub seek-on : (k p : ℕ) → before r id (next_at r p) ≡ true → seek_from (suc k) r id p ≡ seek_from k r id (next_at r p)
  unfolding seek_from
  seek-on k p e = rw e

  pub before-in : (n : ℕ) → (n ≡ 0 → ⊥) → n ≤ most_readings → before r id n ≡ ltb (id_at r n) id
  before-in n a b = rw (ne_eqb n 0 a, le-ltb most_readings n b)

  pub stop-zero : (k p : ℕ) → next_at r p ≡ 0 → seek_from k r id p ≡ p
  stop-zero k p e = seek_stop k p (ap (before r id) e)

  pub stop-out : (k p : ℕ) → most_readings < next_at r p → seek_from k r id p ≡ p
  stop-out k p h = seek_stop k p (rw (ne_eqb (next_at r p) 0 (λ e. omega (arith, h)), lt-ltb most_readings (next_at r p) h))

  pub stop-id : (k p : ℕ) → (next_at r p ≡ 0 → ⊥) → next_at r p ≤ most_readings → id ≤ id_at r (next_at r p) → seek_from k r id p ≡ p
  stop-id k p a b h = seek_stop k p (before-in (next_at r p) a b ∙ le-ltb (id_at r (next_at r p)) id h)

  pub stop-none : (k p : ℕ) → k ≡ 0 → seek_from k r id p ≡ p
  unfolding seek_from
  stop-none zero p e = refl
  stop-none (suc k) p e = absurd (omega arith)

  pub step-on : (k p : ℕ) → 0 < k → (next_at r p ≡ 0 → ⊥) → next_at r p ≤ most_readings → id_at r (next_at r p) < id
      → seek_from (k - 1) r id (next_at r p) ≡ seek_from k r id p
  step-on zero p l a b h = absurd (omega arith)
  step-on (suc k) p l a b h =
      let e : suc k - 1 ≡ k = omega arith in
      rw e (sym (seek-on k p (before-in (next_at r p) a b ∙ lt-ltb (id_at r (next_at r p)) id h)))

-- ---- the whole search

abbrev pub Stops : ℕ → List Numbered → Type 0
Stops id [] = Unit {0}
Stops id (b ∷ bs) = id ≤ b.1.id

-- from record p the ids of ps are below id, q is the last of ps, and bs follows
pub record Split (r : List Reading) (id p q : ℕ) (ps bs : List Numbered) : Type 0 where
  pub low : Below id ps
  pub high : Stops id bs
  pub at : last p ps ≡ q
  pub rest : Chain r (next_at r q) bs

pub record Place (r : List Reading) (id p q : ℕ) (l : List Numbered) : Type 0 where
  pub front : List Numbered
  pub back : List Numbered
  pub whole : front ++ back ≡ l
  pub split : Split r id p q front back

module _ (r : List Reading) (id : ℕ) where
  here : (l : List Numbered) (p q : ℕ) → q ≡ p → Stops id l → Chain r (next_at r p) l → Place r id p q l
  here l p q e s c =
      record { front = []; back = l; whole = refl; split = record { low = tt; high = s; at = sym e; rest = rw e c } }

  there : (l : List Numbered) (j : Numbered) (p q : ℕ) → j.1.id < id → Place r id j.0 q l → Place r id p q (j ∷ l)
  there l j p q h x =
      let s = x.split in
      record {
        front = j ∷ x.front;
        back = x.back;
        whole = ap (λ (t : List Numbered). j ∷ t) x.whole;
        split = record { low = (h, s.low); high = s.high; at = s.at; rest = s.rest };
      }

  pub seek-place : (k : ℕ) (l : List Numbered) (p : ℕ) → length l ≤ k → Chain r (next_at r p) l → Place r id p (seek_from k r id p) l
  seek-place k [] p h c = here [] p (seek_from k r id p) (stop-zero r id k p c) tt c
  seek-place zero (j ∷ js) p h c = absurd (omega arith)
  seek-place (suc k) (j ∷ js) p h c = go (ltb j.1.id id) refl (seek-place k js j.0 (omega arith) c.4)
    where
      test : before r id (next_at r p) ≡ ltb j.1.id id
      test =
          ap (before r id) c.0 ∙ before-in r id j.0 (λ e. omega (arith, c.1)) c.2
          ∙ ap (λ (e : Entry). ltb e.id id) c.3

      go : (b : Bool) → ltb j.1.id id ≡ b → Place r id j.0 (seek_from k r id j.0) js → Place r id p (seek_from (suc k) r id p) (j ∷ js)
      go true e x =
          rw (seek-on r id k p (test ∙ e), c.0)
          (there js j p (seek_from k r id j.0) (ltb-true j.1.id id e) x)
      go false e x = here (j ∷ js) p (seek_from (suc k) r id p) (seek_stop r id (suc k) p (test ∙ e)) (ltb-false j.1.id id e) c

-- ---- the walk along a chain

pub walk-chain : (r : List Reading) (k h : ℕ) (l : List Numbered) → length l ≤ k → Chain r h l → walk k r h ≡ entries l
unfolding walk
walk-chain r zero h [] m c = refl
walk-chain r (suc k) h [] m c = rw (eq-eqb h 0 c)
walk-chain r zero h (j ∷ js) m c = absurd (omega arith)
walk-chain r (suc k) h (j ∷ js) m c =
    rw (c.0, ne_eqb j.0 0 (λ e. omega (arith, c.1)), le-ltb most_readings j.0 c.2, c.3, walk-chain r k (next_at r j.0) js (omega arith) c.4)
