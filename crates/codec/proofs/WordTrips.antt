-- A word and its value: back and forth, every word but a NaN's and every `f32` stays. Assumes nothing.
use mathlib.Core.Path.{◌≡◌}
use mathlib.Core.Bool.{not}
use Prim.Native.Nat.{◌^◌, ◌<◌}
use lib.Dec.{T}
use lib.Ieee.{Float, binary32, fits, is_nan}
use lib.Ieee.Bits.{of_bits-to_bits, to_bits-of_bits}
use Rattle.codec.specs.declared.word.Word.{Word}
use Rattle.codec.specs.Words.{value_of, word_of}

pub word-value-word : (w : Word) → w.bits < 2 ^ 32 → T (not (is_nan (value_of w))) → word_of (value_of w) ≡ w
word-value-word w h n = rw (to_bits-of_bits binary32 w.bits h n)

pub value-word-value : (x : Float) → T (fits binary32 x) → value_of (word_of x) ≡ x
value-word-value x f = of_bits-to_bits binary32 x f
