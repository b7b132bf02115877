-- Right because the three parts share no bit, so that `|` adds them.
use Prim.Native.Nat.{◌+◌, ◌*◌, ◌%◌}
use native.Mathlib.Omega.{arith}
use Rattle.codec.proofs.Masks.{or-add}
use Rattle.codec.proofs.protocol.build_ext_id.Goals as goal

pub returns : goal.returns
returns c = let t = c.args.comm_type * 16777216 % 4294967296 in
    let e = c.args.extra_data * 256 % 4294967296 in
    rw (or-add 24 t e (omega arith) (omega arith), or-add 8 (t + e) c.args.node_id (omega arith) (omega arith)) (omega arith)
