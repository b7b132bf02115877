-- What is put into a buffer. Definitions only.
use Rattle.std.specs.Prelude.{ℕ, zero, suc, ◌+◌, ◌/◌, ◌%◌, min, max, ◌≡◌, cond, List, [], ◌∷◌, ◌++◌, length, set, take, replicate, ltb}
use Rattle.text.specs.declared.put.Text.{Text}

-- the bytes put one after the other from a place on: one past the end goes nowhere, and all else is as it was
abbrev pub placed : List ℕ → ℕ → List ℕ → List ℕ
placed l at [] = l
placed l at (b ∷ bs) = placed (set l at b) (suc at) bs

-- the bytes bs were put at a place of a buffer, as many as there is room for, and r is the next place: the whole buffer after it
pub record Put (before : List ℕ) (at : ℕ) (bs : List ℕ) (after : List ℕ) (r : ℕ) : Type 0 where
  pub same : length after ≡ length before
  pub whole : after ≡ placed before at bs
  pub next : r ≡ max at (min (at + length bs) (length before))

-- a text once the bytes bs are put after it, as many as there is room for: the whole buffer, and the next place
unfoldable pub put : {N : ℕ} → Text N → List ℕ → Text N
put t bs = record { bytes = placed t.bytes t.at bs; at = max t.at (min (t.at + length bs) (length t.bytes)) }

-- a buffer of n zeros, with no text
abbrev pub no_text : (n : ℕ) → Text n
no_text n = record { bytes = replicate n 0; at = 0 }

-- the text of a buffer: what stands before the next place
abbrev pub text_as_bytes : {N : ℕ} → Text N → List ℕ
text_as_bytes t = take t.at t.bytes

-- a digit below 16: 0 to 9, then A to F
unfoldable pub glyph_of : ℕ → ℕ
glyph_of d = cond (ltb d 10) (48 + d) (55 + d)

-- the last k digits of n in base
unfoldable pub digits_text : ℕ → ℕ → ℕ → List ℕ
digits_text base zero n = []
digits_text base (suc k) n = digits_text base k (n / base) ++ (glyph_of (n % base) ∷ [])

-- n in decimal, of at most k digits, with no zero in front
unfoldable pub decimal_in : ℕ → ℕ → List ℕ
decimal_in zero n = []
decimal_in (suc k) n = cond (ltb n 10) (glyph_of n ∷ []) (decimal_in k (n / 10) ++ (glyph_of (n % 10) ∷ []))

abbrev pub decimal_text : ℕ → List ℕ
decimal_text n = decimal_in 20 n
