-- Right because the turns are counted up to a number; each begins with a station and bytes that the reads before it lead to, and writes what is due.
use Rattle.std.proofs.Common.{refl, arith}
use Rattle.replay.specs.Program.{Due}
use Rattle.replay.proofs.Reaching.{reached-first, turn-due, turns-again, end-due, end-answered, all_of}
use Rattle.replay.proofs.lines.run.Goals as goal

pub loop-init : goal.loop-init
loop-init c = (omega arith, omega arith, rw c.new.ensures.is reached-first)

pub written-requires : goal.written-requires
written-requires c =
    let g = c.loop in
    let due : Due g.sent c.as_bytes.result.now =
    rw c.as_bytes.ensures (turn-due _ _ _ _ _ _ _ _ _ _ g.invariant.0 (omega (arith, g.invariant.1)) g.invariant.2 c.take_lines-left.ensures) in
    due

pub finish-requires : goal.finish-requires
finish-requires c =
    let g = c.loop in
    let m = rw c.in-End.is at c.in_ok-more.ensures in
    let w = rw c.as_bytes.ensures at c.in_ok-sent.ensures in
    (m.0, end-due _ _ _ _ _ _ _ _ _ _ _ _ g.invariant.0 (omega (arith, g.invariant.1)) g.invariant.2 c.take_lines-left.ensures w m.2 refl (omega (arith, m.1)))

pub returns-in-End : goal.returns-in-End
returns-in-End c =
    let g = c.loop in
    let m = rw c.in-End.is at c.in_ok-more.ensures in
    let w = rw c.as_bytes.ensures at c.in_ok-sent.ensures in
    all_of _ _ _ c.finish.ensures (end-answered _ _ _ _ _ _ _ _ _ _ _ _ g.invariant.0 (omega (arith, g.invariant.1)) g.invariant.2 c.take_lines-left.ensures w m.2 refl (omega (arith, m.1)))

pub loop-preserved : goal.loop-preserved
loop-preserved c =
    let g = c.loop in
    let m = rw c.in-More.is at c.in_ok-more.ensures in
    let w = rw c.as_bytes.ensures at c.in_ok-sent.ensures in
    (m.0, m.1, turns-again _ _ _ c.more_bytes.new.inp _ _ _ c.in-More.more _ _ _ _ g.invariant.0 (omega (arith, g.invariant.1)) g.invariant.2 c.take_lines-left.ensures w m.2 _ (omega arith) refl)
