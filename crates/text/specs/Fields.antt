-- Numbers as the letters of a shape say. Definitions only.
use Rattle.std.specs.Prelude.{ℕ, zero, suc, cond, Option, Some, None, List, [], ◌∷◌, ◌++◌, eqb, ltb, length, get_or}
use Rattle.text.specs.Put.{digits_text, decimal_text}

-- how many hexadecimal digits a letter asks for: 1, 2, 4, 8, and 16 for P; none, for a decimal number, for any other
abbrev pub places_of : ℕ → Option ℕ
places_of letter = cond (eqb letter 0x31) (Some 1) (cond (eqb letter 0x32) (Some 2) (cond (eqb letter 0x34) (Some 4) (cond (eqb letter 0x38) (Some 8) (cond (eqb letter 0x50) (Some 16) None))))

abbrev pub shown_in : Option ℕ → ℕ → List ℕ
shown_in (Some k) n = digits_text 16 k n
shown_in None n = decimal_text n

-- a space, and a number as its letter says
abbrev pub field_text : ℕ → ℕ → List ℕ
field_text n letter = (0x20 ∷ []) ++ shown_in (places_of letter) n

-- the first n numbers
unfoldable pub fields_upto : List ℕ → List ℕ → ℕ → List ℕ
fields_upto v shape zero = []
fields_upto v shape (suc i) = fields_upto v shape i ++ field_text (get_or v i 0) (get_or shape i 0)

-- as many numbers as the shape has letters, of which there are eight at most
abbrev pub fields_text : List ℕ → List ℕ → List ℕ
fields_text v shape = cond (ltb 8 (length shape)) [] (fields_upto v shape (length shape))
