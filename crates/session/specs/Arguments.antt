-- The arguments of an event, by its shape: a letter for each word after the first. Definitions only.
use Rattle.std.specs.Prelude.{ℕ, zero, suc, ◌+◌, Bool, true, false, cond, List, [], ◌∷◌, eqb, ltb, leb, length, get_or, set, Option, Some, None, Result, Ok, Err, ok_or, option_and_then}
use Rattle.text.specs.Numbers.{digits_in, number_in}
use Rattle.text.specs.Words.{word_count, word_at, which_in}
use Rattle.session.specs.declared.event.Reason.{Reason}
use Rattle.session.specs.declared.event.Reason.TheVariants as reason
use Rattle.session.specs.Events.{◌>>=◌}
use Rattle.session.specs.Table.{modes, kinds}

-- the most that a letter's number may be: I and H 65,535, P and B 255, W 2^32 - 1, F 1, any other 2^64 - 1
unfoldable pub most_of : ℕ → ℕ
most_of letter =
    cond (eqb letter 0x49) 0xFFFF
    (cond (eqb letter 0x50) 0xFF
    (cond (eqb letter 0x42) 0xFF
    (cond (eqb letter 0x48) 0xFFFF (cond (eqb letter 0x57) 0xFFFF_FFFF (cond (eqb letter 0x46) 1 18446744073709551615)))))

-- I and P: what is above the most is handed in as the most
unfoldable pub is_capped : ℕ → Bool
is_capped letter = cond (eqb letter 0x49) true (cond (eqb letter 0x50) true false)

-- a number within what its letter allows
unfoldable pub bounded : ℕ → ℕ → Option ℕ
bounded n letter = cond (leb n (most_of letter)) (Some n) (cond (is_capped letter) (Some (most_of letter)) None)

-- a word as a number that its letter allows
abbrev pub number_for : List ℕ → ℕ → Option ℕ
number_for w letter = option_and_then (λ n. bounded n letter) (number_in w)

-- the place of a word among names
abbrev pub named_in : List ℕ → List ℕ → Option ℕ
named_in names w = which_in names (word_count names) w

-- sixteen hexadecimal digits
abbrev pub payload_in : List ℕ → Option ℕ
payload_in w = cond (eqb (length w) 16) (digits_in 16 w) None

-- any word
abbrev pub any_in : List ℕ → Option ℕ
any_in w = cond (eqb (length w) 0) None (Some 0)

-- the number that a word is for a letter: C a mode, K a kind, D a payload, X any word, and any other letter a number
unfoldable pub argument_of : List ℕ → ℕ → Option ℕ
argument_of w letter =
    cond (eqb letter 0x43) (named_in modes w)
    (cond (eqb letter 0x4B) (named_in kinds w)
    (cond (eqb letter 0x44) (payload_in w) (cond (eqb letter 0x58) (any_in w) (number_for w letter))))

-- the number of the word for letter i of a shape; words are counted from 1, the first has no letter
abbrev pub argument_at : List ℕ → List ℕ → ℕ → Result ℕ Reason
argument_at line shape i = ok_or (argument_of (word_at line (i + 1)) (get_or shape i 0)) (reason.BadWord (i + 2) (get_or shape i 0))

-- v with the numbers of the k words from letter i on, or the first of them that isn't good
unfoldable pub read_on : List ℕ → List ℕ → List ℕ → ℕ → ℕ → Result (List ℕ) Reason
read_on line shape v i zero = Ok v
read_on line shape v i (suc k) = do
  x ← argument_at line shape i
  read_on line shape (set v i x) (i + 1) k

abbrev pub no_numbers : List ℕ
no_numbers = 0 ∷ 0 ∷ 0 ∷ 0 ∷ 0 ∷ 0 ∷ 0 ∷ 0 ∷ []

-- the words after the first, one for each letter of the shape: of eight letters at most, else no word is good
unfoldable pub numbers_of : List ℕ → List ℕ → Result (List ℕ) Reason
numbers_of line shape =
    cond (ltb 8 (length shape)) (Err (reason.BadWord 2 (get_or shape 0 0))) (read_on line shape no_numbers 0 (length shape))

-- as many words as the shape asks for, and each good
unfoldable pub arguments_of : List ℕ → List ℕ → Result (List ℕ) Reason
arguments_of line shape =
    cond (eqb (word_count line) (length shape + 1)) (numbers_of line shape) (Err (reason.WordCount (length shape + 1)))
