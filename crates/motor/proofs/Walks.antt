-- The loop along the chain: what it has listed is the front of the walk. Assumes nothing.
use Rattle.std.proofs.Common.{◌≡◌, ℕ, zero, suc, ◌+◌, ◌-◌, ◌<◌, ◌≤◌, List, [], ◌∷◌, ◌++◌, length, set, replicate, sym, refl, ap, ◌∙◌, append_assoc, append-nil, arith, length-append, le-ltb, lt-ltb, eq-eqb, ne_eqb, Some, None, ◌⊎◌, inl, inr}
use lib.Seq.{set_at}
use Rattle.motor.specs.declared.engine.reading.Stored.{Stored}
use Rattle.motor.specs.declared.readings.Reading.{Reading}
use Rattle.motor.specs.declared.readings.Readings.{Readings}
use Rattle.motor.specs.declared.readings.Entry.{Entry}
use Rattle.motor.specs.declared.readings.Listing.{Listing}
use Rattle.motor.specs.Limits.{most_readings}
use Rattle.motor.specs.Readings.{entry, blank_stored, no_entry, next_at, entry_at, Holds, listing, walk, listed_of, index_of}
use Rattle.motor.proofs.ReadingsHeld.{listing-holds}
use Rattle.motor.proofs.Sites.{index-in, index-out}

-- ---- steps of the walk

module _ (r : List Reading) where
  walk-zero : (k h : ℕ) → h ≡ 0 → walk k r h ≡ []
  unfolding walk
  walk-zero zero h e = refl
  walk-zero (suc k) h e = rw (eq-eqb h 0 e)

  walk-out : (k h : ℕ) → most_readings < h → walk k r h ≡ []
  unfolding walk
  walk-out zero h l = refl
  walk-out (suc k) h l = rw (ne_eqb h 0 (λ e. omega arith), lt-ltb most_readings h l)

  walk-on : (k h : ℕ) → (h ≡ 0 → ⊥) → h ≤ most_readings → walk (suc k) r h ≡ entry_at r h ∷ walk k r (next_at r h)
  unfolding walk
  walk-on k h a b = rw (ne_eqb h 0 a, le-ltb most_readings h b)

-- ---- the loop

-- `count` entries are listed, and the walk goes on at record n
pub record Walked (rs : Readings) (es : List Entry) (count n : ℕ) : Type 0 where
  pub passed : List Entry
  pub most : count ≤ most_readings
  pub counted : length passed ≡ count
  pub filled : es ≡ passed ++ replicate (most_readings - count) no_entry
  pub rest : passed ++ walk (most_readings - count) rs.records n ≡ walk most_readings rs.records (next_at rs.records 0)

pub walked-first : (rs : Readings) (s : Stored) → s ≡ blank_stored → Walked rs (replicate most_readings (entry 0 s)) 0 (next_at rs.records 0)
walked-first rs s e = record { passed = []; most = omega arith; counted = refl; filled = rw e; rest = refl }

walked-at : (rs : Readings) (es : List Entry) (count n : ℕ) → Walked rs es count n → count < most_readings → (n ≡ 0 → ⊥) → n ≤ most_readings
    → Walked rs (set es count (entry_at rs.records n)) (count + 1) (next_at rs.records n)
walked-at rs es count n x h a b =
    let e = entry_at rs.records n in
    let m = most_readings - (count + 1) in
    let p : most_readings - count ≡ suc m = omega arith in
    let w : x.passed ++ walk (suc m) rs.records n ≡ walk most_readings rs.records (next_at rs.records 0) = rw p at x.rest in
    let f : es ≡ x.passed ++ no_entry ∷ replicate m no_entry = x.filled ∙ rw p in
    record {
      passed = x.passed ++ (e ∷ []);
      most = omega arith;
      counted = length-append x.passed (e ∷ []) ∙ ap (λ (k : ℕ). k + 1) x.counted;
      filled = rw f (set_at x.passed no_entry (replicate m no_entry) e count x.counted ∙ sym (append_assoc x.passed (e ∷ []) (replicate m no_entry)));
      rest =
          append_assoc x.passed (e ∷ []) (walk m rs.records (next_at rs.records n))
          ∙ ap (λ (t : List Entry). x.passed ++ t) (sym (walk-on rs.records m n a b)) ∙ w;
    }

pub walked_more : (rs : Readings) (es : List Entry) (count n : ℕ) → Walked rs es count n → count < most_readings → (k : ℕ) → Some k ≡ index_of n
    → Walked rs (set es count (entry_at rs.records k)) (count + 1) (next_at rs.records k)
walked_more rs es count n x h k i =
    let j = index-in n k i in
    rw j.0 (walked-at rs es count n x h j.1 j.2)

-- where the walk ends, what is listed is all of it
module _ (rs : Readings) (es : List Entry) (count n : ℕ) (x : Walked rs es count n) where
  abbrev listed : ℕ → Listing
  listed n = record { count = n; entries = es }

  abbrev Ended : ℕ → Type 0
  Ended n = (listed n ≡ listed_of rs) × ((l : List Entry) → Holds rs l → listed n ≡ listing l)

  ended : walk (most_readings - count) rs.records n ≡ [] → Ended count
  ended w =
      let p : x.passed ≡ walk most_readings rs.records (next_at rs.records 0) = sym (append-nil x.passed) ∙ ap (λ (t : List Entry). x.passed ++ t) (sym w) ∙ x.rest in
      let q : listed count ≡ listing x.passed = rw (x.filled, ← x.counted) in
      let e = q ∙ ap listing p in
      (e, λ l y. e ∙ listing-holds rs l y)

  pub walked-none : None ≡ index_of n → Ended count
  walked-none h = go (index-out n h)
    where
      go : (n ≡ 0) ⊎ (most_readings < n) → Ended count
      go (inl e) = ended (walk-zero rs.records (most_readings - count) n e)
      go (inr l) = ended (walk-out rs.records (most_readings - count) n l)

  pub walked_all : most_readings ≤ count → Ended most_readings
  unfolding walk
  walked_all h =
      let z : most_readings - count ≡ 0 = omega arith in
      let e : count ≡ most_readings = omega (arith, x.most) in
      rw e at (ended (ap (λ (k : ℕ). walk k rs.records n) z))
