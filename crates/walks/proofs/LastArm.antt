-- The last arm of a match, `_`: the variants that no arm before it names, by their numbers. A law by cases that says nothing of the named
-- ones holds there. Assumes nothing.
use Prim.Native.Nat.{ℕ, suc}
use mathlib.Core.Path.{◌≡◌, refl, sym, subst}
use mathlib.Core.Bool.{Bool, true, false, not}
use mathlib.Core.List.{List, [], ◌∷◌}
use borrow.Author.Tests.{eqb-true}
use lib.Dec.{T, eqb}
use mir.Val.{has_key}
use types.Run.{OneOf, miss}
use denote.RattleType.{RattleType}
use denote.Enum.Declared.{Declared, variants, tag_of}

-- P, unless it is named
abbrev pub Unless : Bool → Type 0 → Type 0
Unless true P = Unit {0}
Unless false P = P

abbrev keep : Bool → ℕ → List ℕ → List ℕ
keep true k l = l
keep false k l = k ∷ l

-- the numbers from k on, one for each variant, but those named
abbrev from : List ℕ → ℕ → List (List RattleType) → List ℕ
from named k [] = []
from named k (v ∷ vs) = keep (has_key named k) k (from named (suc k) vs)

abbrev pub others : Declared → List ℕ → List ℕ
others D named = from named 0 (variants D)

none_kept : (named l : List ℕ) (k x : ℕ) → T (has_key named x) → T (not (has_key l x)) → T (not (has_key (keep (has_key named k) k l) x))
none_kept named l k x t r = go (has_key named k) (eqb k x) refl refl
  where
    go : (a b : Bool) → has_key named k ≡ a → eqb k x ≡ b → T (not (has_key (keep a k l) x))
    go true b e q = r
    go false true e q = absurd (subst T e (subst (λ (n : ℕ). T (has_key named n)) (sym (eqb-true k x q)) t))
    go false false e q = rw q r

no_other : (named : List ℕ) (k : ℕ) (vs : List (List RattleType)) (x : ℕ) → T (has_key named x) → T (not (has_key (from named k vs) x))
no_other named k [] x t = tt
no_other named k (v ∷ vs) x t = none_kept named (from named (suc k) vs) k x t (no_other named (suc k) vs x t)

pub unless : (D : Declared) (named : List ℕ) (d : D.D) {P : Type 0} → Unless (has_key named (tag_of D d)) P → OneOf (others D named) (tag_of D d) → P
unless D named d {P} p h = go (has_key named (tag_of D d)) refl p
  where
    go : (b : Bool) → has_key named (tag_of D d) ≡ b → Unless b P → P
    go true e q = absurd (miss (others D named) (tag_of D d) (no_other named 0 (variants D) (tag_of D d) (subst T (sym e) tt)) h)
    go false e q = q
