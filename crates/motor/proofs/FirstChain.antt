-- The records at registration: what the loop stores, and that they are good. Assumes nothing.
use Rattle.std.proofs.Common.{◌≡◌, ℕ, zero, suc, ◌+◌, ◌<◌, ◌≤◌, List, map, length, get_or, set, replicate, sym, refl, ap, ◌∙◌, add-one, arith, length-set, ext_get_or, ne_eqb}
use native.Mathlib.Decide.{ℕ_discrete}
use lib.ListN.{length-map}
use Rattle.motor.specs.declared.readings.Reading.{Reading}
use Rattle.motor.specs.declared.readings.Readings.{Readings}
use Rattle.motor.specs.Limits.{most_readings, most_records}
use Rattle.motor.specs.Readings.{run, at_first, free_record, rec_at, next_at, Chain, times, unused, Rep, first_record, empty_readings}
use Rattle.motor.proofs.Times.{length_run, run-once}
use Rattle.motor.proofs.Chains.{entry_in, set_same, set_other}

-- ---- the records, one by one

rec_at-run : (n s k : ℕ) → k < n → rec_at (map first_record (run n s)) k ≡ first_record (s + k)
unfolding run
rec_at-run zero s k h = absurd (omega arith)
rec_at-run (suc n) s zero h = let e : s ≡ s + 0 = omega arith in ap first_record e
rec_at-run (suc n) s (suc k) h =
    let e : suc s + k ≡ s + suc k = omega arith in
    rec_at-run n (suc s) k (omega arith) ∙ ap first_record e

first-at : (k : ℕ) → k < most_records → rec_at empty_readings.records k ≡ first_record k
first-at k h = let e : 0 + k ≡ k = omega arith in rec_at-run most_records 0 k h ∙ ap first_record e

first-size : length empty_readings.records ≡ most_records
first-size = length-map (run most_records 0) first_record ∙ length_run most_records 0

first_next : (k : ℕ) → 1 ≤ k → k < most_readings → first_record k ≡ free_record (k + 1)
first_next k a b = rw (ne_eqb k 0 (λ e. omega arith), ne_eqb k most_readings (λ e. omega arith))

-- ---- they are good

chain_run : (r : List Reading) → ((k : ℕ) → k < most_records → rec_at r k ≡ first_record k) → (n s : ℕ) → 1 ≤ s → s + suc n ≡ most_records → Chain r s (map unused (run (suc n) s))
unfolding run
chain_run r f zero s l e =
    let p : s ≡ most_readings = omega arith in
    (refl, l, omega arith, ap entry_in (f s (omega arith)), ap (next_at r) p ∙ ap (λ (t : Reading). t.next) (f most_readings (omega arith)))
chain_run r f (suc n) s l e =
    let q : next_at r s ≡ suc s = ap (λ (t : Reading). t.next) (f s (omega arith) ∙ first_next s l (omega arith)) ∙ add-one s in
    (refl, l, omega arith, ap entry_in (f s (omega arith)), rw q (chain_run r f n (suc s) (omega arith) (omega arith)))

pub empty-rep : Rep empty_readings at_first
unfolding times
empty-rep =
    record {
      size = first-size;
      head = ap entry_in (first-at 0 (omega arith));
      held-chain = ap (λ (t : Reading). t.next) (first-at 0 (omega arith));
      free-chain = chain_run empty_readings.records first-at 95 1 (omega arith) (omega arith);
      once = λ k a b. omega (arith, run-once k most_readings 1 a (omega arith));
      rising = tt;
    }

-- ---- the loop: records 1 to i - 1 lead on

pub record Begun (r : List Reading) (i : ℕ) : Type 0 where
  pub size : length r ≡ most_records
  pub low : 1 ≤ i
  pub high : i ≤ most_readings
  pub head : rec_at r 0 ≡ free_record 0
  pub done : (k : ℕ) → 1 ≤ k → k < i → rec_at r k ≡ free_record (k + 1)
  pub rest : (k : ℕ) → i ≤ k → rec_at r k ≡ free_record 0

all_same : (x : Reading) (n k : ℕ) → get_or (replicate n x) k x ≡ x
all_same x zero k = refl
all_same x (suc n) zero = refl
all_same x (suc n) (suc k) = all_same x n k

pub begin : (x : Reading) → x ≡ free_record 0 → Begun (replicate most_records x) 1
begin x e =
    rw e
    record {
      size = refl;
      low = omega arith;
      high = omega arith;
      head = refl;
      done = λ k a b. absurd (omega arith);
      rest = λ k a. all_same (free_record 0) most_records k;
    }

pub begin-more : (r : List Reading) (i : ℕ) (y : Reading) → Begun r i → i < most_readings → y ≡ free_record (i + 1) → Begun (set r i y) (i + 1)
begin-more r i y x h e =
    record {
      size = length-set r i y ∙ x.size;
      low = omega arith;
      high = omega arith;
      head = set_other r i y 0 (λ z. omega (arith, x.low)) ∙ x.head;
      done = λ k a b. go k a b (ℕ_discrete k i);
      rest = λ k a. set_other r i y k (λ z. omega arith) ∙ x.rest k (omega arith);
    }
  where
    go : (k : ℕ) → 1 ≤ k → k < i + 1 → Dec (k ≡ i) → rec_at (set r i y) k ≡ free_record (k + 1)
    go k a b (yes p) = rw p (set_same r i y (omega (arith, x.size)) ∙ e)
    go k a b (no n) = set_other r i y k n ∙ x.done k a (omega (arith, n))

begun : (r : List Reading) (i : ℕ) → Begun r i → most_readings ≤ i → r ≡ empty_readings.records
begun r i x l =
    ext_get_or (free_record 0) r empty_readings.records (x.size ∙ sym first-size)
    (λ k h. let m : k < most_records = omega (arith, x.size) in go k m (ℕ_discrete k 0) (ℕ_discrete k most_readings) ∙ sym (first-at k m))
  where
    go : (k : ℕ) → k < most_records → Dec (k ≡ 0) → Dec (k ≡ most_readings) → rec_at r k ≡ first_record k
    go k m (yes p) d = rw p x.head
    go k m (no n) (yes p) = rw p (x.rest most_readings x.high)
    go k m (no n) (no d) =
        let a : 1 ≤ k = omega (arith, n) in
        let b : k < most_readings = omega (arith, d) in
        x.done k a (omega arith) ∙ sym (first_next k a b)

pub empty-both : (r : List Reading) (i : ℕ) → Begun r i → most_readings ≤ i
    → (◌≡◌ {A = Readings} (record { records = r; free = 1 }) empty_readings) × Rep (record { records = r; free = 1 }) at_first
empty-both r i x l =
    let e = begun r i x l in
    (rw e, rw e empty-rep)
