-- A float's 32 bits. Definitions only.
use Rattle.std.specs.Prelude.{Float}
use Rattle.std.specs.Float.{binary32}
use Rattle.std.specs.Float.Ieee.{of_bits, to_bits}
use Rattle.codec.specs.declared.word.Word.{Word}

-- the float that a word stands for: every NaN's pattern is the one NaN
abbrev pub value_of : Word → Float
value_of w = of_bits binary32 w.bits

-- the word of a float: a NaN's is 7FC00000
abbrev pub word_of : Float → Word
word_of x = record { bits = to_bits binary32 x }
