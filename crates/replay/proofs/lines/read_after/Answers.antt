-- Right because the bytes kept aren't lent to the read, which answers no more than are free.
use Rattle.std.proofs.Common.{ℕ, ◌≤◌, true, length, refl, true≢false, arith}
use Rattle.replay.proofs.Keeping.{no-more, read_behind}
use Rattle.replay.proofs.lines.read_after.Goals as goal

pub returns : goal.returns
returns c =
    let n : ℕ = c.in_ok-count.count in
    let few : n ≤ length c.read.new.buf = no-more _ _ _ _ _ c.read.ensures.bound c.map_err.ensures.cases c.in_ok-count.was in
    (refl, omega (arith, few, c.requires), read_behind c.args.inp.now c.read.new.buf _ c.args.kept n c.args.got _ true (omega (arith, c.requires)) few refl (λ m. absurd (true≢false m)) (λ _. omega (arith, c.if-count-eq0.false)))
