-- Marked for proof: document 01's starred examples of the codec, as one table and one theorem, which antt computes. Assumes nothing.
-- A float on the right of a row is a literal: were both sides calls, antt would compare the calls and not their values.
use Rattle.std.specs.Prelude.{◌≡◌, refl, false, List, [], ◌∷◌, map, ℕ, pos, negsuc, Float}
use Rattle.std.specs.Float.{nan, fin}
use Rattle.std.specs.Float.Ieee.{to_unsigned, mul, add, sub, div, neg, lt, of_int, of_bits}
use Rattle.codec.specs.declared.model.Model.TheVariants.{Rs00}
use Rattle.codec.specs.declared.motion.MitCommand.{MitCommand}
use Rattle.codec.specs.declared.protocol.ParameterValue.{ParameterValue}
use Rattle.codec.specs.declared.protocol.ParameterValue.TheVariants.{I8}
use Rattle.codec.specs.Ids.{build_ext_id, extra_of}
use Rattle.codec.specs.Kinds.{among, listed_ids, int8_ids, kind_of, parameter_info}
use Rattle.codec.specs.Models.{limits_of}
use Rattle.codec.specs.Motion.{whole, clamp, motion_raw, gain_raw, encode_mit_command}
use Rattle.codec.specs.Status.{status_value, temperature_of, status_flags}
use Rattle.codec.specs.Values.{encode_parameter_read, decode_read_parameter_value}

-- 4π and 16.5 as floats
abbrev pub four_pi : Float
four_pi = fin false 13176795 (negsuc 19)

abbrev pub sixteen_and_half : Float
sixteen_and_half = fin false 33 (negsuc 0)

-- a row is what was worked out, and what it is to be
pub data Row : Type 0 where
  number : ℕ → ℕ → Row
  float : Float → Float → Row
  bytes : List ℕ → List ℕ → Row
  command : MitCommand → MitCommand → Row
  value : ParameterValue → ParameterValue → Row

-- the row with what is really so
abbrev pub actual : Row → Row
actual (number a b) = number a a
actual (float a b) = float a a
actual (bytes a b) = bytes a a
actual (command a b) = command a a
actual (value a b) = value a a

abbrev pub RowsHold : List Row → Type 0
RowsHold rows = map actual rows ≡ rows

abbrev pub examples : List Row
examples =
    number (build_ext_id 1 0x7FFF 1) 0x017FFF01
    ∷ command (encode_mit_command (whole 0) (whole 0) (whole 0) (whole 0) (whole 0) (limits_of Rs00)) (record { extra_data = 0x7FFF; payload = 0x7F ∷ 0xFF ∷ 0x7F ∷ 0xFF ∷ 0 ∷ 0 ∷ 0 ∷ 0 ∷ [] })
    ∷ number (motion_raw four_pi (limits_of Rs00).position) 0xFFFE
    ∷ number (motion_raw nan (limits_of Rs00).position) 0
    ∷ number (motion_raw sixteen_and_half (limits_of Rs00).velocity) 0xBFFE
    ∷ number (gain_raw (whole 250) (whole 500)) 0x7FFF
    ∷ number (gain_raw (whole 5) (whole 5)) 0xFFFF
    ∷ float (status_value 0x7FFF (limits_of Rs00).position) (fin false 0 (pos 0))
    ∷ float (status_value 0xFFFE (limits_of Rs00).position) four_pi
    ∷ number (status_flags (extra_of 0x028001FD)).mode_state 2
    ∷ number (status_flags (extra_of 0x028001FD)).device_id 1
    ∷ float (temperature_of 250) (fin false 25 (pos 0))
    ∷ number (build_ext_id 17 0x00FD 1) 0x1100FD01
    ∷ bytes (encode_parameter_read 0x7005) (0x05 ∷ 0x70 ∷ 0 ∷ 0 ∷ 0 ∷ 0 ∷ 0 ∷ 0 ∷ [])
    ∷ value (decode_read_parameter_value 0x7005 (0x05 ∷ 0x70 ∷ 0 ∷ 0 ∷ 2 ∷ 0 ∷ 0 ∷ 0 ∷ [])) (I8 (pos 2))
    ∷ []

pub examples-hold : RowsHold examples
unfolding motion_raw gain_raw status_value temperature_of clamp to_unsigned mul add sub div neg lt of_int of_bits parameter_info kind_of among listed_ids int8_ids
examples-hold = refl
