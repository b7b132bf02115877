-- Replies as text. Definitions only.
use Rattle.std.specs.Prelude.{ℕ, zero, suc, cond, List, [], ◌∷◌, ◌++◌, length, ◌==◌, nat_lt, slice_index, Ok, Err}
use Rattle.text.specs.Put.{digits_text, decimal_text}
use Rattle.vectors.specs.Numbers.{Reply}
use Rattle.vectors.specs.Requests.{width_of}

-- for K "ok", else the last digits, as many as the letter says
abbrev pub number_text : ℕ → ℕ → List ℕ
number_text n letter = cond (letter == 0x4B) (0x6F ∷ 0x6B ∷ []) (digits_text 16 (width_of letter) n)

-- the number at place i, after a space but for the first
abbrev pub field_text : ℕ → ℕ → ℕ → List ℕ
field_text i n letter = cond (i == 0) (number_text n letter) (0x20 ∷ number_text n letter)

-- the first n numbers of a reply
unfoldable pub fields_upto : List ℕ → List ℕ → ℕ → List ℕ
fields_upto v shape zero = []
fields_upto v shape (suc i) = fields_upto v shape i ++ field_text i (slice_index v i) (slice_index shape i)

-- as many numbers as the shape has letters, of which there are seven at most
abbrev pub fields_text : List ℕ → List ℕ → List ℕ
fields_text v shape = cond (nat_lt 7 (length shape)) [] (fields_upto v shape (length shape))

-- "refused " and a number
abbrev pub refused_text : ℕ → List ℕ
refused_text n = (0x72 ∷ 0x65 ∷ 0x66 ∷ 0x75 ∷ 0x73 ∷ 0x65 ∷ 0x64 ∷ 0x20 ∷ []) ++ decimal_text n

abbrev pub reply_text : Reply → List ℕ → List ℕ
reply_text (Ok v) shape = fields_text v shape
reply_text (Err n) shape = refused_text n
