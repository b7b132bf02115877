-- How long a number, the numbers of a shape and a word are. Assumes nothing.
use Prim.Native.Nat.{ℕ, zero, suc, ◌+◌, ◌/◌, ◌≤◌}
use mathlib.Core.Path.{◌≡◌}
use mathlib.Core.Bool.{Bool, true, false, cond}
use mathlib.Core.List.{List, [], ◌∷◌, ◌++◌}
use native.Mathlib.Omega.{arith}
use lib.Dec.{ltb}
use Rattle.std.specs.Prelude.{Option, Some, None, unwrap_or}
use lib.ListN.{length, get_or, length-append, length-take, length-drop}
use Rattle.text.specs.Put.{digits_text, decimal_in}
use Rattle.text.specs.Fields.{places_of, shown_in, field_text, fields_upto, fields_text}
use Rattle.text.specs.Words.{word_at, past_word}

infixl 65 ◌&◌
-- a text of at most n bytes
pub record Short (s : List ℕ) (n : ℕ) : Type 0 where
  pub fits : length s ≤ n

pub words : (s : List ℕ) → Short s (length s)
words s = record { fits = omega arith }

pub none : {n : ℕ} → Short [] n
none = record { fits = omega arith }

pub wider : {s : List ℕ} {m n : ℕ} → Short s m → m ≤ n → Short s n
wider x h = record { fits = omega (arith, x.fits) }

pub ◌&◌ : {a b : List ℕ} {m n : ℕ} → Short a m → Short b n → Short (a ++ b) (m + n)
◌&◌ {a} {b} x y = record { fits = rw length-append (omega (arith, x.fits, y.fits)) }

pub either : (c : Bool) {a b : List ℕ} {n : ℕ} → Short a n → Short b n → Short (cond c a b) n
either true x y = x
either false x y = y

pub digits-short : (base k n : ℕ) → Short (digits_text base k n) k
unfolding digits_text
digits-short base zero n = none
digits-short base (suc k) n = wider (digits-short base k (n / base) & words (_ ∷ [])) (omega arith)

pub decimal-short : (k n : ℕ) → Short (decimal_in k n) k
unfolding decimal_in
decimal-short zero n = none
decimal-short (suc k) n = either (ltb n 10) (wider (words (_ ∷ [])) (omega arith)) (wider (decimal-short k (n / 10) & words (_ ∷ [])) (omega arith))

-- the most bytes that a number of this letter takes, after its space
abbrev pub width_of : ℕ → ℕ
width_of letter = unwrap_or (places_of letter) 20

shown-short : (places : Option ℕ) (n : ℕ) → Short (shown_in places n) (unwrap_or places 20)
shown-short (Some k) n = digits-short 16 k n
shown-short None n = decimal-short 20 n

field-short : (n letter : ℕ) → Short (field_text n letter) (1 + width_of letter)
field-short n letter = words (0x20 ∷ []) & shown-short (places_of letter) n

abbrev pub widths_upto : List ℕ → ℕ → ℕ
widths_upto shape zero = 0
widths_upto shape (suc i) = widths_upto shape i + (1 + width_of (get_or shape i 0))

upto-short : (v shape : List ℕ) (i : ℕ) → Short (fields_upto v shape i) (widths_upto shape i)
unfolding fields_upto
upto-short v shape zero = none
upto-short v shape (suc i) = upto-short v shape i & field-short (get_or v i 0) (get_or shape i 0)

-- the most bytes that the numbers of a shape take
abbrev pub widths_of : List ℕ → ℕ
widths_of shape = widths_upto shape (length shape)

pub fields-short : (v shape : List ℕ) → Short (fields_text v shape) (widths_of shape)
fields-short v shape = either (ltb 8 (length shape)) none (upto-short v shape (length shape))

pub word-short : (s : List ℕ) (k : ℕ) → Short (word_at s k) (length s)
unfolding word_at
word-short s zero = record { fits = simp length-take (omega arith) }
word-short s (suc k) = wider (word-short (past_word s) k) (simp length-drop (omega arith))

-- the first n words, and one byte beside each
abbrev pub words_upto : List ℕ → ℕ → ℕ
words_upto s zero = 0
words_upto s (suc i) = words_upto s i + (1 + length (word_at s i))

words-cons : (s : List ℕ) (n : ℕ) → words_upto s (suc n) ≡ 1 + length (word_at s 0) + words_upto (past_word s) n
unfolding word_at
words-cons s zero = omega arith
words-cons s (suc n) = omega (arith, words-cons s n)

pub words-few : (s : List ℕ) (n : ℕ) → words_upto s n ≤ n + length s
unfolding word_at
words-few s zero = omega arith
words-few s (suc n) = rw (words-cons s n) (simp length-take (omega (arith, simp length-drop at (words-few (past_word s) n))))
