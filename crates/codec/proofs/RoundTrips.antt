-- Ids joined and split, values encoded and decoded: each way back. Assumes nothing.
use Rattle.std.specs.Prelude.{Option, Some, None, Ok, Err}
use mathlib.Core.Path.{◌≡◌, refl, sym, ap, ◌∙◌}
use mathlib.Core.Bool.{Bool, true, false, not, cond}
use mathlib.Core.List.{List}
use Prim.Native.Nat.{ℕ, ◌*◌, ◌%◌, ◌^◌, ◌<◌}
use native.Mathlib.Nat.{mod-eq_of_lt}
use native.Mathlib.Omega.{arith}
use lib.Dec.{T, eqb, eqb→eq}
use mir.Facts.{to_z-of_z, of_z-to_z}
use mir.Syntax.{w8}
use Rattle.codec.proofs.TwosComplement.{byte-lt}
use Rattle.codec.specs.declared.protocol.ParameterValue.{ParameterValue}
use Rattle.codec.specs.declared.protocol.ParameterValue.TheVariants.{I8, U8, U16, U32, F32}
use Rattle.codec.specs.declared.error.Refusal.TheVariants.{KindDiffers}
use Rattle.codec.specs.declared.registers.ParameterDataType.{ParameterDataType}
use Rattle.codec.specs.declared.registers.ParameterDataType.TheVariants.{Int8, UInt8, UInt16, UInt32, Float32}
use Rattle.codec.specs.Ids.{build_ext_id, ext_id_parts, type_of, extra_of, node_of}
use Rattle.codec.specs.Kinds.{kind_number, parameter_info}
use Rattle.codec.specs.Values.{le32, width_of, value_as, kind_in, raw_of, InRange, encoded_by, encode_parameter_value, encode_parameter_write, decode_read_parameter_value}

-- ---- ids

-- split after join: the type comes back reduced to its 5 bits, the extra field and the node as they were
pub split-join : (type extra node : ℕ) → extra < 65536 → node < 256
    → ext_id_parts (build_ext_id type extra node) ≡ record { comm_type = type % 32; extra_data = extra; node_id = node }
split-join type extra node e n =
    let t : type_of (build_ext_id type extra node) ≡ type % 32 = omega arith in
    let x : extra_of (build_ext_id type extra node) ≡ extra = omega arith in
    let o : node_of (build_ext_id type extra node) ≡ node = omega arith in
    rw (t, x, o)

-- join after split: the top three bits are gone
pub join-split : (id : ℕ) → build_ext_id (type_of id) (extra_of id) (node_of id) ≡ id % 2 ^ 29
join-split id = omega arith

-- ---- values: one fact over kinds and widths for each direction

-- decode after encode: the value with its kind and bits
pub value-raw : (v : ParameterValue) → InRange v → value_as (kind_in v) (raw_of v) ≡ v
value-raw (I8 v) h = rw (mod-eq_of_lt {n = raw_of (I8 v)} {m = 256} (byte-lt v h)) (ap I8 (to_z-of_z {w = w8} (record { sfits = h })))
value-raw (U8 v) h = rw (mod-eq_of_lt h)
value-raw (U16 v) h = rw (mod-eq_of_lt h)
value-raw (U32 v) h = refl
value-raw (F32 w) h = refl

-- encode after decode: the bytes that the kind uses, the rest zero
pub raw-value : (kind : ParameterDataType) (n : ℕ) → n < 2 ^ 32 → raw_of (value_as kind n) ≡ n % 2 ^ (8 * width_of kind)
raw-value Int8 n h = of_z-to_z {w = w8} {n = n % 256} (record { fits = omega arith })
raw-value UInt8 n h = refl
raw-value UInt16 n h = refl
raw-value UInt32 n h = sym (mod-eq_of_lt h)
raw-value Float32 n h = sym (mod-eq_of_lt h)

kind-kept : (kind : ParameterDataType) (n : ℕ) → kind_in (value_as kind n) ≡ kind
kind-kept Int8 n = refl
kind-kept UInt8 n = refl
kind-kept UInt16 n = refl
kind-kept UInt32 n = refl
kind-kept Float32 n = refl

-- kinds of the same number are the same
kind-by-number : (a b : ParameterDataType) → kind_number a ≡ kind_number b → Some a ≡ Some b
kind-by-number a b e = sym (named a) ∙ ap of_number e ∙ named b
  where
    of_number : ℕ → Option ParameterDataType
    of_number n = cond (eqb n 1) (Some Int8) (cond (eqb n 2) (Some UInt8) (cond (eqb n 3) (Some UInt16) (cond (eqb n 4) (Some UInt32) (Some Float32))))

    named : (k : ParameterDataType) → of_number (kind_number k) ≡ Some k
    named Int8 = refl
    named UInt8 = refl
    named UInt16 = refl
    named UInt32 = refl
    named Float32 = refl

-- ---- payloads

-- the four bytes of a write's payload are its raw number
pub write-raw : (id raw : ℕ) → raw < 2 ^ 32 → le32 (encode_parameter_write id raw) 4 ≡ raw
write-raw id raw h = omega arith

-- a value is accepted for writing only where the parameter is of its kind
pub accepted : (i : Option ParameterDataType) (v : ParameterValue) (raw : ℕ) → encoded_by i v ≡ Ok raw → (i ≡ Some (kind_in v)) × (raw_of v ≡ raw)
accepted None v raw h =
    let z : ◌≡◌ {A = ℕ} 0 1 = cc in
    absurd (omega arith)
accepted (Some kind) v raw h = go (eqb (kind_number kind) (kind_number (kind_in v))) (eqb→eq (kind_number kind) (kind_number (kind_in v))) h
  where
    go : (b : Bool) → (T b → kind_number kind ≡ kind_number (kind_in v)) → cond (not b) (Err KindDiffers) (Ok (raw_of v)) ≡ Ok raw → (Some kind ≡ Some (kind_in v)) × (raw_of v ≡ raw)
    go true f e = (kind-by-number kind (kind_in v) (f tt), cc)
    go false f e =
        let z : ◌≡◌ {A = ℕ} 0 1 = cc in
        absurd (omega arith)

-- echo: a value accepted for writing, whose four bytes come back in bytes 4 to 7, is decoded with its kind and bits
pub echoed : (id raw : ℕ) (v : ParameterValue) (payload : List ℕ) → InRange v → encode_parameter_value id v ≡ Ok raw → le32 payload 4 ≡ raw → decode_read_parameter_value id payload ≡ v
echoed id raw v payload h a e =
    let k = accepted (parameter_info id) v raw a in
    rw (k.0, e, ← k.1) (value-raw v h)

-- what is decoded for a listed parameter is of its kind, and is encoded as the bytes that the kind uses, the rest zero
pub written_out : (id : ℕ) (kind : ParameterDataType) (payload : List ℕ) → le32 payload 4 < 2 ^ 32 → parameter_info id ≡ Some kind
    → encode_parameter_value id (decode_read_parameter_value id payload) ≡ Ok (le32 payload 4 % 2 ^ (8 * width_of kind))
written_out id kind payload h i =
    rw (i, kind-kept kind (le32 payload 4), raw-value kind (le32 payload 4) h, own kind)
  where
    own : (k : ParameterDataType) → eqb (kind_number k) (kind_number k) ≡ true
    own Int8 = refl
    own UInt8 = refl
    own UInt16 = refl
    own UInt32 = refl
    own Float32 = refl
