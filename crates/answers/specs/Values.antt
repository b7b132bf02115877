-- Numbers, values and payloads as text. Definitions only.
use Rattle.std.specs.Prelude.{ℕ, ◌+◌, ◌*◌, ◌-◌, cond, List, [], ◌∷◌, ◌++◌, ltb, ℤ, get_or}
use Rattle.std.specs.Int.{w8}
use Rattle.std.proofs.Common.{of_z}
use Rattle.codec.specs.declared.protocol.ParameterValue.{ParameterValue}
use Rattle.codec.specs.declared.protocol.ParameterValue.TheVariants as value
use Rattle.text.specs.Ascii.{ascii}
use Rattle.text.specs.Fields.{fields_text}
use Rattle.text.specs.Put.{decimal_text}

-- up to two numbers, each after a space, as the shape says
abbrev pub numbers_text : ℕ → ℕ → List ℕ → List ℕ
numbers_text a b shape = fields_text (a ∷ b ∷ 0 ∷ 0 ∷ 0 ∷ 0 ∷ 0 ∷ 0 ∷ []) shape

-- a word, and a number after it
abbrev pub named_text : List ℕ → ℕ → List ℕ → List ℕ
named_text name n letter = name ++ numbers_text n 0 letter

abbrev pub end_of_line : List ℕ
end_of_line = 0x0A ∷ []

abbrev pub space : List ℕ
space = 0x20 ∷ []

abbrev pub line_text : List ℕ → ℕ → List ℕ → List ℕ
line_text name n letter = named_text name n letter ++ end_of_line

-- KIND BITS
abbrev pub value_text : ParameterValue → List ℕ
value_text (value.I8 v) = named_text (ascii "I8") (of_z w8 v) (ascii "2")
value_text (value.U8 v) = named_text (ascii "U8") v (ascii "2")
value_text (value.U16 v) = named_text (ascii "U16") v (ascii "4")
value_text (value.U32 v) = named_text (ascii "U32") v (ascii "8")
value_text (value.F32 w) = named_text (ascii "F32") w.bits (ascii "8")

-- a signed number in decimal, by its byte
abbrev pub signed_byte : ℕ → List ℕ
signed_byte b = cond (ltb b 128) (decimal_text b) ((0x2D ∷ []) ++ decimal_text (256 - b))

abbrev pub signed_text : ℤ → List ℕ
signed_text v = signed_byte (of_z w8 v)

-- four bytes as one number, the first highest
abbrev pub four_of : ℕ → ℕ → ℕ → ℕ → ℕ
four_of a b c d = a * 0x100_0000 + b * 0x1_0000 + c * 0x100 + d

-- a payload as one number, its first byte highest
unfoldable pub payload_number : List ℕ → ℕ
payload_number d = four_of (get_or d 0 0) (get_or d 1 0) (get_or d 2 0) (get_or d 3 0) * 0x1_0000_0000 + four_of (get_or d 4 0) (get_or d 5 0) (get_or d 6 0) (get_or d 7 0)
