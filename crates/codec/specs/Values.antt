-- Parameter values: how each kind stands in four bytes, and the payloads that carry them. Definitions only.
use Rattle.std.specs.Prelude.{ℕ, ◌+◌, ◌*◌, ◌/◌, ◌%◌, ◌^◌, ◌<◌, Bool, true, false, not, List, [], ◌∷◌, eqb, ℤ, pos, get_or, Option, Some, None, Result, Ok, Err}
use Rattle.std.specs.Int.Signed.{mag}
use Rattle.std.specs.Int.{w8}
use Rattle.std.proofs.Common.{of_z, to_z}
use Rattle.codec.specs.declared.error.Refusal.{Refusal}
use Rattle.codec.specs.declared.registers.ParameterDataType.{ParameterDataType}
use Rattle.codec.specs.declared.registers.ParameterDataType.TheVariants.{Int8, UInt8, UInt16, UInt32, Float32}
use Rattle.codec.specs.declared.protocol.ParameterValue.{ParameterValue}
use Rattle.codec.specs.declared.protocol.ParameterValue.TheVariants.{I8, U8, U16, U32, F32}
use Rattle.codec.specs.Refusals.{number_of, values_of}
use Rattle.codec.specs.Numbers.{natural_at, answer_of, answered_by}
use Rattle.codec.specs.Kinds.{kind_number, parameter_info}

-- the number that four bytes stand for, the lowest at i
abbrev pub le32 : List ℕ → ℕ → ℕ
le32 bytes i = get_or bytes i 0 + get_or bytes (i + 1) 0 * 256 + get_or bytes (i + 2) 0 * 65536 + get_or bytes (i + 3) 0 * 16777216

-- ---- a value by its kind, and the four bytes as a number

-- how many bytes a kind uses
abbrev pub width_of : ParameterDataType → ℕ
width_of Int8 = 1
width_of UInt8 = 1
width_of UInt16 = 2
width_of UInt32 = 4
width_of Float32 = 4

abbrev pub value_as : ParameterDataType → ℕ → ParameterValue
value_as Int8 raw = I8 (to_z w8 (raw % 256))
value_as UInt8 raw = U8 (raw % 256)
value_as UInt16 raw = U16 (raw % 65536)
value_as UInt32 raw = U32 raw
value_as Float32 raw = F32 (record { bits = raw })

abbrev pub kind_in : ParameterValue → ParameterDataType
kind_in (I8 v) = Int8
kind_in (U8 v) = UInt8
kind_in (U16 v) = UInt16
kind_in (U32 v) = UInt32
kind_in (F32 w) = Float32

-- `of_z w8` is the byte of a signed number
abbrev pub raw_of : ParameterValue → ℕ
raw_of (I8 v) = of_z w8 v
raw_of (U8 v) = v
raw_of (U16 v) = v
raw_of (U32 v) = v
raw_of (F32 w) = w.bits

-- what the types of the cases hold
abbrev pub InRange : ParameterValue → Type 0
InRange (I8 v) = mag v < 128
InRange (U8 v) = v < 2 ^ 8
InRange (U16 v) = v < 2 ^ 16
InRange (U32 v) = v < 2 ^ 32
InRange (F32 w) = w.bits < 2 ^ 32

-- ---- writing

-- an encoded value's number and values: 0 and its raw bytes, or the refusal's
abbrev pub encoded_row : Result ℕ Refusal → ℕ × List ℤ
encoded_row (Ok raw) = (0, pos raw ∷ [])
encoded_row (Err r) = (number_of r, values_of r)

abbrev pub encoded_of : ℕ → List ℤ → Result ℕ Refusal
encoded_of n values = answer_of (Ok (natural_at values 0)) Err n values

abbrev pub is_unlisted : Option ParameterDataType → Bool
is_unlisted (Some kind) = false
is_unlisted None = true

abbrev pub kind_differs : Option ParameterDataType → ParameterValue → Bool
kind_differs (Some kind) value = not (eqb (kind_number kind) (kind_number (kind_in value)))
kind_differs None value = true

-- 10: written id unlisted; 11: kind differs
abbrev pub encode_numbers : Option ParameterDataType → ParameterValue → List (Bool × ℕ)
encode_numbers info value = (is_unlisted info, 10) ∷ (kind_differs info value, 11) ∷ []

abbrev pub encoded_by : Option ParameterDataType → ParameterValue → Result ℕ Refusal
encoded_by info value = answered_by (λ n. encoded_of n (pos (raw_of value) ∷ [])) (encode_numbers info value)

abbrev pub encode_parameter_value : ℕ → ParameterValue → Result ℕ Refusal
encode_parameter_value id value = encoded_by (parameter_info id) value

-- ---- payloads: the id in bytes 0 and 1, the value in bytes 4 to 7, low bytes first

abbrev pub encode_parameter_read : ℕ → List ℕ
encode_parameter_read id = id % 256 ∷ id / 256 ∷ 0 ∷ 0 ∷ 0 ∷ 0 ∷ 0 ∷ 0 ∷ []

abbrev pub encode_parameter_write : ℕ → ℕ → List ℕ
encode_parameter_write id raw = id % 256 ∷ id / 256 ∷ 0 ∷ 0 ∷ raw % 256 ∷ raw / 256 % 256 ∷ raw / 65536 % 256 ∷ raw / 16777216 ∷ []

-- a reply for an unlisted id is held as U32
abbrev pub value_by : Option ParameterDataType → ℕ → ParameterValue
value_by (Some kind) raw = value_as kind raw
value_by None raw = U32 raw

abbrev pub decode_read_parameter_value : ℕ → List ℕ → ParameterValue
decode_read_parameter_value id payload = value_by (parameter_info id) (le32 payload 4)
