-- Lists of numbers: what holds of each number of a list holds of one that is among them, and of the first test's that applies. Assumes nothing.
use Rattle.std.specs.Prelude.{Err}
use Prim.Native.Nat.{ℕ}
use mathlib.Core.Path.{◌≡◌, refl, sym, ap, ◌∙◌}
use mathlib.Core.Bool.{Bool, true, false, true≢false, cond, not, ◌&&◌, not-not}
use mathlib.Core.List.{List, [], ◌∷◌}
use lib.Dec.{eqb}
use Rattle.codec.specs.declared.error.Refusal.{Refusal}
use Rattle.codec.specs.Kinds.{among}
use Rattle.codec.specs.Refusals.{number_of}
use Rattle.motor.specs.Numbers.{first_of}
use Rattle.station.specs.Demands.{checked_number}
use Rattle.station.proofs.Places.{same_id}
use Rattle.station.proofs.Steps.{and-true}

abbrev pub every : (ℕ → Bool) → List ℕ → Bool
every p [] = true
every p (x ∷ xs) = p x && every p xs

-- what holds of each number of a list holds of one that is among them
pub of-each : (p : ℕ → Bool) (n : ℕ) (xs : List ℕ) → every p xs ≡ true → among n xs ≡ true → p n ≡ true
unfolding among
of-each p n [] h e = absurd (true≢false (sym e))
of-each p n (x ∷ xs) h e = go (eqb x n) refl (of-each p n xs both.1)
  where
    both : (p x ≡ true) × (every p xs ≡ true)
    both = and-true (p x) (every p xs) h

    go : (b : Bool) → eqb x n ≡ b → (among n xs ≡ true → p n ≡ true) → p n ≡ true
    go true q ih = ap p (sym (same_id x n q)) ∙ both.0
    go false q ih = ih (rw q at e)

-- and so it is in no list that shares none of them
pub outside : (n : ℕ) (xs ys : List ℕ) → every (λ k. not (among k ys)) xs ≡ true → among n xs ≡ true → among n ys ≡ false
outside n xs ys h e = sym (not-not (among n ys)) ∙ ap not (of-each (λ k. not (among k ys)) n xs h e)

-- the number of the first of several tests
abbrev pub every_test : (ℕ → Bool) → List (Bool × Refusal) → Bool
every_test p [] = p 0
every_test p (t ∷ ts) = p (number_of t.1) && every_test p ts

pub of-first : (p : ℕ → Bool) (l : List (Bool × Refusal)) → every_test p l ≡ true → p (checked_number (first_of l)) ≡ true
of-first p [] h = h
of-first p (t ∷ ts) h = go t.0 (of-first p ts both.1)
  where
    both : (p (number_of t.1) ≡ true) × (every_test p ts ≡ true)
    both = and-true (p (number_of t.1)) (every_test p ts) h

    go : (b : Bool) → p (checked_number (first_of ts)) ≡ true → p (checked_number (cond b (Err t.1) (first_of ts))) ≡ true
    go true ih = both.0
    go false ih = ih
