-- Status frames: the flags of the extra field and the four values of the payload. Definitions only.
use Rattle.std.specs.Prelude.{ℕ, ◌+◌, ◌*◌, ◌/◌, ◌%◌, ◌^◌, Bool, not, false, List, eqb, negsuc, get_or, Float}
use Rattle.std.specs.Float.{fin, binary32}
use Rattle.std.specs.Float.Ieee.{sub, mul, div}
use Rattle.codec.specs.declared.model.Limits.{Limits}
use Rattle.codec.specs.declared.status.StatusFlags.{StatusFlags}
use Rattle.codec.specs.declared.status.StatusFrame.{StatusFrame}
use Rattle.codec.specs.Motion.{whole}

-- the number that two bytes stand for, the higher at i
abbrev pub be16 : List ℕ → ℕ → ℕ
be16 bytes i = get_or bytes i 0 * 256 + get_or bytes (i + 1) 0

-- the bit k of n
unfoldable pub bit : ℕ → ℕ → Bool
bit n k = not (eqb (n / 2 ^ k % 2) 0)

-- (raw ÷ 32767 − 1) × m
unfoldable pub status_value : ℕ → Float → Float
status_value raw m = mul binary32 (sub binary32 (div binary32 (whole raw) (whole 32767)) (whole 1)) m

-- 0.1 as an `f32`: 13421773 × 2^−27
abbrev pub tenth : Float
tenth = fin false 13421773 (negsuc 26)

-- raw × 0.1
unfoldable pub temperature_of : ℕ → Float
temperature_of raw = mul binary32 (whole raw) tenth

abbrev pub status_flags : ℕ → StatusFlags
status_flags extra =
    record {
      mode_state = extra / 2 ^ 14 % 4;
      uncalibrated = bit extra 13;
      stall = bit extra 12;
      magnetic_encoder_fault = bit extra 11;
      overtemperature = bit extra 10;
      overcurrent = bit extra 9;
      undervoltage = bit extra 8;
      device_id = extra % 256;
    }

abbrev pub decode_status_frame : ℕ → List ℕ → Limits → StatusFrame
decode_status_frame extra payload limits =
    record {
      flags = status_flags extra;
      position = status_value (be16 payload 0) limits.position;
      velocity = status_value (be16 payload 2) limits.velocity;
      torque = status_value (be16 payload 4) limits.torque;
      temperature_c = temperature_of (be16 payload 6);
    }
