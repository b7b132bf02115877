-- Right because each turn leads one more record on, and the records at the end are those of the definition, one by one.
use Rattle.motor.proofs.FirstChain.{begin, empty-both}
use Rattle.motor.proofs.readings.empty.Goals as goal

pub loop-i-init : goal.loop-i-init
loop-i-init c = begin _ c.free_record-records.ensures

pub returns : goal.returns
returns c =
    let b = empty-both _ _ c.loop-i.invariant c.loop-i-test.false in
    record { is = b.0; means = b.1 }
