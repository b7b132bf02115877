-- A request line's arguments by its shape. Definitions only.
use Rattle.std.specs.Prelude.{ℕ, zero, suc, ◌+◌, cond, Option, Some, None, List, [], ◌∷◌, length, set, ◌==◌, nat_lt, slice_index}
use Rattle.text.specs.Words.{word_count, word_at}
use Rattle.text.specs.Numbers.{digits_in}

-- how many digits a letter of a shape asks for: 2, 4, 8, and 16 for any other
abbrev pub width_of : ℕ → ℕ
width_of letter = cond (letter == 0x32) 2 (cond (letter == 0x34) 4 (cond (letter == 0x38) 8 16))

-- the argument that a word is for a letter: for N a name, which counts as 0; else a number of exactly so many digits
abbrev pub argument_of : List ℕ → ℕ → Option ℕ
argument_of w letter = cond (letter == 0x4E) (Some 0) (cond (length w == width_of letter) (digits_in 16 w) None)

-- six numbers with x at place i, where both are good
abbrev pub with_argument : ℕ → Option (List ℕ) → Option ℕ → Option (List ℕ)
with_argument i (Some v) (Some x) = Some (set v i x)
with_argument i (Some v) None = None
with_argument i None x = None

-- the arguments of the first n letters, word k + 1 of the line for letter k, with zeros after them, if each is as its letter says
unfoldable pub arguments_upto : List ℕ → List ℕ → ℕ → Option (List ℕ)
arguments_upto line shape zero = Some (0 ∷ 0 ∷ 0 ∷ 0 ∷ 0 ∷ 0 ∷ [])
arguments_upto line shape (suc i) = with_argument i (arguments_upto line shape i) (argument_of (word_at line (i + 1)) (slice_index shape i))

-- as many words after the first as the shape has letters, of which there are six at most
abbrev pub arguments_of : List ℕ → List ℕ → Option (List ℕ)
arguments_of line shape =
    cond (nat_lt 6 (length shape)) None
    (cond (word_count line == length shape + 1) (arguments_upto line shape (length shape)) None)
