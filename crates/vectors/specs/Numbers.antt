-- A reply's numbers, and the parts of a request's. Definitions only.
use Rattle.std.specs.Prelude.{ℕ, ◌%◌, ◌^◌, cond, List, [], ◌∷◌, ◌==◌, slice_index, Float, Result, Ok, Err}
use Rattle.codec.specs.Words.{value_of, word_of}
use Rattle.codec_abi.specs.Numbers.{word_at}

-- the numbers of an answer, seven with zeros at the end, or the number of a refusal
abbrev pub Reply : Type 0
Reply = Result (List ℕ) ℕ

-- the numbers of an answer that has up to three
abbrev pub numbers : ℕ → ℕ → ℕ → List ℕ
numbers a b c = a ∷ b ∷ c ∷ 0 ∷ 0 ∷ 0 ∷ 0 ∷ []

-- a value, but where the number beside it is a refusal's, so not 0, that refusal
abbrev pub unless_refused : {A : Type 0} → ℕ → A → Result A ℕ
unless_refused n x = cond (n == 0) (Ok x) (Err n)

-- number i of a request, cut to 8, 16 or 32 bits
abbrev pub byte : List ℕ → ℕ → ℕ
byte v i = slice_index v i % 2 ^ 8

abbrev pub half : List ℕ → ℕ → ℕ
half v i = slice_index v i % 2 ^ 16

abbrev pub word : List ℕ → ℕ → ℕ
word v i = slice_index v i % 2 ^ 32

-- the float of a word, and a float's word
abbrev pub float_of : ℕ → Float
float_of n = value_of (word_at n)

abbrev pub bits_of : Float → ℕ
bits_of x = (word_of x).bits
