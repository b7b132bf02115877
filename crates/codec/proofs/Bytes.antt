-- Two lists of bytes compared as the definitions do, by their lengths and then byte after byte, as a `match` on byte strings does.
-- Assumes nothing.
use mathlib.Core.Path.{◌≡◌, refl, ap}
use mathlib.Core.Bool.{Bool, true, false, ◌&&◌}
use mathlib.Core.List.{List, [], ◌∷◌}
use Prim.Native.Nat.{ℕ, suc}
use lib.Dec.{eqb, eqb-zero-suc, eqb-suc-zero, eqb-suc-suc}
use lib.ListN.{length, get_or}
use Rattle.std.proofs.lemmas.Bool.Decides.{nat_tests}
use Rattle.codec.specs.Models.{same_bytes}

-- whether the bytes of b stand in a, from place i on
abbrev pub stand : List ℕ → ℕ → List ℕ → Bool
stand a i [] = true
stand a i (y ∷ b) = eqb (get_or a i 0) y && stand a (suc i) b

past : (x : ℕ) (a : List ℕ) (i : ℕ) (b : List ℕ) → stand (x ∷ a) (suc i) b ≡ stand a i b
past x a i [] = refl
past x a i (y ∷ b) = ap (λ t. eqb (get_or a i 0) y && t) (past x a (suc i) b)

swapped : (s t u : Bool) → s && (t && u) ≡ t && (s && u)
swapped true t u = refl
swapped false true u = refl
swapped false false u = refl

-- the comparison by lengths, and then by each byte's place
pub same_by : (a b : List ℕ) → same_bytes a b ≡ eqb (length a) (length b) && stand a 0 b
unfolding same_bytes
same_by [] [] = refl
same_by [] (y ∷ b) = rw eqb-zero-suc
same_by (x ∷ a) [] = rw eqb-suc-zero
same_by (x ∷ a) (y ∷ b) = rw (same_by a b, past x a 0 b, eqb-suc-suc) (swapped (eqb x y) (eqb (length a) (length b)) (stand a 0 b))

-- for a function that matches on byte strings
pub ruleset by_bytes = (same_by, nat_tests)
