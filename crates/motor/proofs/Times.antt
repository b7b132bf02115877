-- How often a number stands in a list, and the length of a list in which each of 1 to n stands once. Assumes nothing.
use Rattle.std.proofs.Common.{◌≡◌, ℕ, zero, suc, ◌+◌, ◌<◌, ◌≤◌, Bool, true, false, cond, eqb, List, [], ◌∷◌, ◌++◌, length, refl, ap, ◌∙◌, arith, eq-eqb, ne_eqb, eqb-true}
use borrow.Author.Tests.{eqb-false}
use Rattle.motor.specs.Readings.{times, run}

pub times-here : (k : ℕ) (js : List ℕ) → times k (k ∷ js) ≡ suc (times k js)
unfolding times
times-here k js = rw (eq-eqb k k refl)

pub times-other : (k j : ℕ) (js : List ℕ) → (j ≡ k → ⊥) → times k (j ∷ js) ≡ times k js
unfolding times
times-other k j js h = rw (ne_eqb j k h)

pub times_more : (k j : ℕ) (js : List ℕ) → times k js ≤ times k (j ∷ js)
unfolding times
times_more k j js = go (eqb j k)
  where
    go : (b : Bool) → times k js ≤ cond b (suc (times k js)) (times k js)
    go true = omega arith
    go false = omega arith

pub times-append : (k : ℕ) (is js : List ℕ) → times k (is ++ js) ≡ times k is + times k js
unfolding times
times-append k [] js = omega arith
times-append k (i ∷ is) js = go (eqb i k) (times-append k is js)
  where
    go : (b : Bool) → times k (is ++ js) ≡ times k is + times k js
        → cond b (suc (times k (is ++ js))) (times k (is ++ js)) ≡ cond b (suc (times k is)) (times k is) + times k js
    go true e = omega arith
    go false e = omega arith

-- a number goes from one list to another
pub times-move : (k i : ℕ) (is js : List ℕ) → times k (i ∷ is) + times k js ≡ times k is + times k (i ∷ js)
unfolding times
times-move k i is js = go (eqb i k)
  where
    go : (b : Bool) → cond b (suc (times k is)) (times k is) + times k js ≡ times k is + cond b (suc (times k js)) (times k js)
    go true = omega arith
    go false = omega arith

pub not_first : (k j : ℕ) (js : List ℕ) → times k (j ∷ js) ≡ 0 → j ≡ k → ⊥
not_first k j js e p = let h : times k (k ∷ js) ≡ 0 = rw p at e in omega (arith, times-here k js)

-- ---- numbers of 1 to n

abbrev pub UpTo : ℕ → List ℕ → Type 0
UpTo n [] = Unit {0}
UpTo n (j ∷ js) = (1 ≤ j) × (j ≤ n) × UpTo n js

pub in-range : (n k : ℕ) (js : List ℕ) → UpTo n js → 0 < times k js → (1 ≤ k) × (k ≤ n)
unfolding times
in-range n k [] u h = absurd (omega arith)
in-range n k (j ∷ js) u h = go (eqb j k) refl (in-range n k js u.2) h
  where
    go : (b : Bool) → eqb j k ≡ b → (0 < times k js → (1 ≤ k) × (k ≤ n)) → 0 < cond b (suc (times k js)) (times k js) → (1 ≤ k) × (k ≤ n)
    go true e i m = let p = eqb-true j k e in (omega (arith, u.0), omega (arith, u.1))
    go false e i m = i m

pub zero-none : (n : ℕ) (js : List ℕ) → UpTo n js → times 0 js ≡ 0
unfolding times
zero-none n [] u = refl
zero-none n (j ∷ js) u = times-other 0 j js (λ e. omega (arith, u.0)) ∙ zero-none n js u.2

pub upto-append : (n : ℕ) (is js : List ℕ) → UpTo n is → UpTo n js → UpTo n (is ++ js)
upto-append n [] js u v = v
upto-append n (i ∷ is) js u v = (u.0, u.1, upto-append n is js u.2 v)

without : ℕ → List ℕ → List ℕ
without n [] = []
without n (j ∷ js) = cond (eqb j n) (without n js) (j ∷ without n js)

length_without : (n : ℕ) (js : List ℕ) → length js ≡ length (without n js) + times n js
unfolding times without
length_without n [] = refl
length_without n (j ∷ js) = go (eqb j n) (length_without n js)
  where
    go : (b : Bool) → length js ≡ length (without n js) + times n js
        → suc (length js) ≡ length (cond b (without n js) (j ∷ without n js)) + cond b (suc (times n js)) (times n js)
    go true e = omega arith
    go false e = omega arith

times-without : (n k : ℕ) → (n ≡ k → ⊥) → (js : List ℕ) → times k (without n js) ≡ times k js
unfolding times without
times-without n k d [] = refl
times-without n k d (j ∷ js) = go (eqb j n) refl (times-without n k d js)
  where
    go : (b : Bool) → eqb j n ≡ b → times k (without n js) ≡ times k js
        → times k (cond b (without n js) (j ∷ without n js)) ≡ cond (eqb j k) (suc (times k js)) (times k js)
    go true e i = i ∙ rw (ne_eqb j k (λ p. omega (arith, eqb-true j n e, d)))
    go false e i = rw i

upto-without : (n : ℕ) (js : List ℕ) → UpTo (suc n) js → UpTo n (without (suc n) js)
unfolding without
upto-without n [] u = tt
upto-without n (j ∷ js) u = go (eqb j (suc n)) refl (upto-without n js u.2)
  where
    go : (b : Bool) → eqb j (suc n) ≡ b → UpTo n (without (suc n) js) → UpTo n (cond b (without (suc n) js) (j ∷ without (suc n) js))
    go true e i = i
    go false e i = (u.0, omega (arith, u.1, eqb-false j (suc n) e), i)

pub full-length : (n : ℕ) (js : List ℕ) → UpTo n js → ((k : ℕ) → 1 ≤ k → k ≤ n → times k js ≡ 1) → length js ≡ n
full-length zero [] u o = refl
full-length zero (j ∷ js) u o = absurd (omega (arith, u.0, u.1))
full-length (suc n) js u o =
    let i = full-length n (without (suc n) js) (upto-without n js u)
    (λ k a b. times-without (suc n) k (λ e. omega arith) js ∙ o k a (omega arith)) in
    omega (arith, i, length_without (suc n) js, o (suc n) (omega arith) (omega arith))

-- ---- a run of numbers

pub length_run : (n s : ℕ) → length (run n s) ≡ n
unfolding run
length_run zero s = refl
length_run (suc n) s = ap suc (length_run n (suc s))

run-below : (k n s : ℕ) → k < s → times k (run n s) ≡ 0
unfolding run times
run-below k zero s h = refl
run-below k (suc n) s h = times-other k s (run n (suc s)) (λ e. omega arith) ∙ run-below k n (suc s) (omega arith)

pub run-once : (k n s : ℕ) → s ≤ k → k < s + n → times k (run n s) ≡ 1
unfolding run
run-once k zero s a b = absurd (omega arith)
run-once k (suc n) s a b = go (eqb s k) refl (run-once k n (suc s))
  where
    go : (c : Bool) → eqb s k ≡ c → (s < k → k < suc s + n → times k (run n (suc s)) ≡ 1) → times k (s ∷ run n (suc s)) ≡ 1
    go true e i =
        let p = eqb-true s k e in
        let q : times k (k ∷ run n (suc k)) ≡ 1 = times-here k (run n (suc k)) ∙ ap suc (run-below k n (suc k) (omega arith)) in
        rw p q
    go false e i =
        let d = eqb-false s k e in
        times-other k s (run n (suc s)) d ∙ i (omega (arith, d)) (omega arith)
