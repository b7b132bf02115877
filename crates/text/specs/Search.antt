-- Where a byte stands. Definitions only.
use Rattle.std.specs.Prelude.{ℕ, zero, suc, ◌==◌, Bool, true, false, Option, List, [], ◌∷◌, take, drop, position, eqb}

-- 0 where the first byte is the one looked for, else one more than its place in the rest
unfoldable pub index_after : Bool → ℕ → ℕ
index_after true n = zero
index_after false n = suc n

-- the place of the first b of s, or the length of s where there is none
unfoldable pub index_of : ℕ → List ℕ → ℕ
index_of b [] = zero
index_of b (x ∷ s) = index_after (eqb x b) (index_of b s)

-- the place of the first b of s, if there is one
abbrev pub position_of : ℕ → List ℕ → Option ℕ
position_of b s = position (λ x. x == b) s

-- the bytes of s from one place up to another
unfoldable pub slice : ℕ → ℕ → List ℕ → List ℕ
slice from to s = drop from (take to s)
