-- Motion values: f32, each operation rounded once, in the logic's account of IEEE 754. Definitions only.
use Rattle.std.specs.Prelude.{ℕ, ◌/◌, ◌%◌, cond, List, [], ◌∷◌, pos, Float}
use Rattle.std.specs.Float.{binary32}
use Rattle.std.specs.Float.Ieee.{add, mul, div, neg, lt, of_int, to_unsigned}
use Rattle.codec.specs.declared.model.Limits.{Limits}
use Rattle.codec.specs.declared.motion.MitCommand.{MitCommand}

-- the whole number n as an `f32`
abbrev pub whole : ℕ → Float
whole n = of_int binary32 (pos n)

-- clamp: lo where v is below it, hi where v is above it, and v otherwise, a NaN too
unfoldable pub clamp : Float → Float → Float → Float
clamp v lo hi = cond (lt v lo) lo (cond (lt hi v) hi v)

-- (clamp(v, −m, m) ÷ m + 1) × 32767, the fraction cut off; NaN gives 0
unfoldable pub motion_raw : Float → Float → ℕ
motion_raw v m = to_unsigned 16 (mul binary32 (add binary32 (div binary32 (clamp v (neg m) m) m) (whole 1)) (whole 32767))

-- clamp(v, 0, m) ÷ m × 65535, the fraction cut off; NaN gives 0
unfoldable pub gain_raw : Float → Float → ℕ
gain_raw v m = to_unsigned 16 (mul binary32 (div binary32 (clamp v (whole 0) m) m) (whole 65535))

-- ---- a motion command: the torque in the extra field, position, velocity, kp and kd in the payload, high bytes first

abbrev pub raw_payload : ℕ → ℕ → ℕ → ℕ → List ℕ
raw_payload p v kp kd = p / 256 ∷ p % 256 ∷ v / 256 ∷ v % 256 ∷ kp / 256 ∷ kp % 256 ∷ kd / 256 ∷ kd % 256 ∷ []

abbrev pub encode_mit_command : Float → Float → Float → Float → Float → Limits → MitCommand
encode_mit_command position velocity kp kd torque limits =
    record {
      extra_data = motion_raw torque limits.torque;
      payload = raw_payload (motion_raw position limits.position) (motion_raw velocity limits.velocity) (gain_raw kp limits.kp) (gain_raw kd limits.kd);
    }
