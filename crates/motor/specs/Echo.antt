-- What a reading that is held has to do with the payload that it came in, and with a write of it. Definitions only.
use Rattle.std.specs.Prelude.{◌≡◌, ℕ, ◌+◌, ◌/◌, ◌%◌, cond, List, [], ◌∷◌, nat_lt, slice_index, slice_index_or, Ok}
use Rattle.codec.specs.declared.protocol.ParameterValue.{ParameterValue}
use Rattle.codec.specs.declared.registers.ParameterDataType.{ParameterDataType}
use Rattle.codec.specs.declared.registers.ParameterDataType.TheVariants.{UInt32}
use Rattle.codec.specs.Kinds.{among, listed_ids, kind_of}
use Rattle.codec.specs.Values.{width_of, encode_parameter_value, encode_parameter_write}

-- the kind of what is held: the table's, and UInt32 for an unlisted id
unfoldable pub held_kind : ℕ → ParameterDataType
held_kind id = cond (among id listed_ids) (kind_of id) UInt32

-- bytes 0, 1 and 4 to 7 are those of another payload: an id, and a value's four bytes
pub record Carries (payload other : List ℕ) : Type 0 where
  pub id-low : slice_index_or payload 0 0 ≡ slice_index other 0
  pub id-high : slice_index_or payload 1 0 ≡ slice_index other 1
  pub byte-0 : slice_index_or payload 4 0 ≡ slice_index other 4
  pub byte-1 : slice_index_or payload 5 0 ≡ slice_index other 5
  pub byte-2 : slice_index_or payload 6 0 ≡ slice_index other 6
  pub byte-3 : slice_index_or payload 7 0 ≡ slice_index other 7

-- byte i of the value in a payload, 0 where the kind doesn't use it
abbrev pub used_byte : ℕ → List ℕ → ℕ → ℕ
used_byte width payload i = cond (nat_lt i width) (slice_index payload (4 + i)) 0

-- the payload of a write, with the bytes of this payload that a kind uses, then zeros
abbrev pub used_payload : List ℕ → ℕ → ParameterDataType → List ℕ
used_payload payload id kind =
    id % 256
    ∷ id / 256
    ∷ 0
    ∷ 0
    ∷ used_byte (width_of kind) payload 0
    ∷ used_byte (width_of kind) payload 1
    ∷ used_byte (width_of kind) payload 2
    ∷ used_byte (width_of kind) payload 3
    ∷ []

-- a held reading of a listed parameter is encoded, and its write carries the bytes of its payload that its kind uses, then zeros
pub record WrittenOut (id : ℕ) (v : ParameterValue) (kind : ParameterDataType) (payload : List ℕ) : Type 0 where
  pub raw : ℕ
  pub encodes-as : encode_parameter_value id v ≡ Ok raw
  pub carries : encode_parameter_write id raw ≡ used_payload payload id kind
