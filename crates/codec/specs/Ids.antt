-- Frame ids: type × 2^24 + extra × 2^8 + node. Definitions only.
use Rattle.std.specs.Prelude.{ℕ, ◌+◌, ◌*◌, ◌/◌, ◌%◌, ◌^◌}
use Rattle.codec.specs.declared.protocol.IdParts.{IdParts}

-- building reduces the type modulo 256
abbrev pub build_ext_id : ℕ → ℕ → ℕ → ℕ
build_ext_id type extra node = type % 256 * 2 ^ 24 + extra * 2 ^ 8 + node

-- splitting takes 5, 16 and 8 bits and ignores the top three
abbrev pub type_of : ℕ → ℕ
type_of id = id / 2 ^ 24 % 32

abbrev pub extra_of : ℕ → ℕ
extra_of id = id / 2 ^ 8 % 65536

abbrev pub node_of : ℕ → ℕ
node_of id = id % 256

abbrev pub ext_id_parts : ℕ → IdParts
ext_id_parts id = record { comm_type = type_of id; extra_data = extra_of id; node_id = node_of id }
