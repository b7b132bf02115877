-- Right because what is torn is put whole, and that is written.
use Rattle.std.proofs.Common.{◌≡◌, ◌-◌, length, refl, arith}
use Rattle.replay.specs.Limits.{buffer_size}
use Rattle.replay.proofs.Keeping.{torn-whole}
use Rattle.replay.proofs.lines.finish.Goals as goal

pub written-requires : goal.written-requires
written-requires c =
    let size : length c.args.out.now.bytes ≡ buffer_size = omega arith in
    rw (c.as_bytes.ensures, c.put_torn.ensures, torn-whole (c.args.rest.n - c.args.rest.from) (record { bytes = c.args.out.now.bytes; «at» = 0 }) size refl) c.requires.1

pub returns : goal.returns
returns c =
    let size : length c.args.out.now.bytes ≡ buffer_size = omega arith in
    rw (c.in_ok-sent.ensures, c.as_bytes.ensures, c.put_torn.ensures, torn-whole (c.args.rest.n - c.args.rest.from) (record { bytes = c.args.out.now.bytes; «at» = 0 }) size refl)
