-- Right because a shift and a mask of one bit give that bit.
use lib.Bits.{and_mask}
use Prim.Native.Nat.{◌/◌}
use Rattle.codec.proofs.Masks.{shifted-flag}
use Rattle.codec.proofs.status.status_flags.Goals as goal

pub returns : goal.returns
returns c = let x = c.args.extra_data in
    rw (and_mask (x / 16384) 2, shifted-flag x 13, shifted-flag x 12, shifted-flag x 11, shifted-flag x 10, shifted-flag x 9, shifted-flag x 8, and_mask x 8)
