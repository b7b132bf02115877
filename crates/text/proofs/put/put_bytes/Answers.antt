-- Right because the bytes that there is room for are copied to their place, and the rest go nowhere.
use Rattle.std.proofs.Common.{◌≡◌, ◌+◌, ◌-◌, arith}
use Rattle.text.proofs.Putting.{put-fit, put-none}
use Rattle.text.proofs.put.put_bytes.Goals as goal

pub returns-then-at-out : goal.returns-then-at-out
returns-then-at-out c =
    let k : c.args.at + c.min-k.result - c.args.at ≡ c.min-k.result = omega arith in
    rw (c.copy_from_slice.ensures.after, k) (put-fit c.args.out.now c.args.at c.args.s.now c.min-k.result (omega arith) (omega arith))

pub returns : goal.returns
returns c = put-none c.args.out.now c.args.at c.args.s.now (omega arith)
