-- A signed number of 8 bits fits a byte. Assumes nothing.
use Prim.Native.Nat.{◌<◌}
use native.Mathlib.Omega.{arith}
use lib.IntN.{ℤ, pos, negsuc}
use lib.Signed.{mag}
use mir.Syntax.{w8}
use mir.Val.{of_z}

pub byte-lt : (v : ℤ) → mag v < 128 → of_z w8 v < 256
byte-lt (pos n) h = omega arith
byte-lt (negsuc n) h = omega arith
