-- Words parted by single spaces. Definitions only.
use Rattle.std.specs.Prelude.{ℕ, zero, suc, ◌+◌, ◌==◌, Bool, true, false, cond, ◌&&◌, Option, Some, None, List, [], ◌∷◌, take, drop, count_by, eqb, ltb}
use Rattle.text.specs.Search.{index_of}

-- how many words s has: one more than its spaces
unfoldable pub word_count : List ℕ → ℕ
word_count s = count_by (λ b. b == 32) s + 1

-- what stands before the first b of s once k of them are passed; nothing where s has not so many
unfoldable pub part_at : ℕ → List ℕ → ℕ → List ℕ
part_at b s zero = take (index_of b s) s
part_at b s (suc k) = part_at b (drop (index_of b s + 1) s) k

-- what stands before the first space of s once k spaces are passed; nothing where s has not so many
unfoldable pub word_at : List ℕ → ℕ → List ℕ
word_at s zero = take (index_of 32 s) s
word_at s (suc k) = word_at (drop (index_of 32 s + 1) s) k

-- what follows the first space of s; nothing where there is none
abbrev pub past_word : List ℕ → List ℕ
past_word s = drop (index_of 32 s + 1) s

unfoldable pub same_bytes : List ℕ → List ℕ → Bool
same_bytes [] [] = true
same_bytes [] (b ∷ t) = false
same_bytes (a ∷ s) [] = false
same_bytes (a ∷ s) (b ∷ t) = eqb a b && same_bytes s t

-- which of the first n words of names is w, the first that it is, and n for none
unfoldable pub which_of : List ℕ → ℕ → List ℕ → ℕ
which_of names zero w = 0
which_of names (suc n) w = cond (same_bytes w (word_at names 0)) 0 (1 + which_of (past_word names) n w)

-- k where it is below n
abbrev pub below : ℕ → ℕ → Option ℕ
below n k = cond (ltb k n) (Some k) None

-- which of the first n words of names is w, the first that it is, if there is one
abbrev pub which_in : List ℕ → ℕ → List ℕ → Option ℕ
which_in names n w = below n (which_of names n w)
