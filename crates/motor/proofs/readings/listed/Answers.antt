-- Right because each turn lists one more entry of the walk, and the rest stays blank.
use Rattle.motor.proofs.Walks.{walked_more, walked-none, walked_all}
use Rattle.motor.proofs.readings.listed.Goals as goal

pub returns-in_default : goal.returns-in_default
returns-in_default c =
    let b = walked-none _ _ _ _ c.loop-count.invariant c.in_default.ensures.is in
    record { is = b.0; means = b.1 }

pub loop-count-preserved : goal.loop-count-preserved
loop-count-preserved c = walked_more _ _ _ _ c.loop-count.invariant c.loop-count-test.true _ c.in-Some.ensures.is

pub returns : goal.returns
returns c =
    let b = walked_all _ _ _ _ c.loop-count.invariant c.loop-count-test.false in
    record { is = b.0; means = b.1 }
