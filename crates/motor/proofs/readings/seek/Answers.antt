-- Right because each turn is a step of the definition, which has as many steps left as the loop has turns.
use Rattle.std.proofs.Common.{◌≡◌, ◌+◌, ◌-◌, sym, ◌∙◌, arith}
use Rattle.motor.specs.Limits.{most_readings}
use Rattle.motor.proofs.Search.{stop-none}
use Rattle.motor.proofs.Sites.{index-in, seek-none, seek-past, seek-next}
use Rattle.motor.proofs.readings.seek.Goals as goal

pub returns-in_default : goal.returns-in_default
returns-in_default c = let i = c.loop.invariant in (sym (seek-none _ _ _ _ c.in_default.ensures.is) ∙ i.1, i.0)

pub returns-then-rs-k : goal.returns-then-rs-k
returns-then-rs-k c = let i = c.loop.invariant in (sym (seek-past _ _ _ _ _ c.in-Some.ensures.is c.if-rs-k.true) ∙ i.1, i.0)

pub loop-preserved : goal.loop-preserved
loop-preserved c =
    let i = index-in _ _ c.in-Some.ensures.is in
    let e : most_readings - (c.loop.counter + 1) ≡ most_readings - c.loop.counter - 1 = omega arith in
    (omega (arith, i.0, i.2), rw e (seek-next _ _ _ _ _ c.in-Some.ensures.is (omega (arith, c.loop-test.true)) c.if-rs-k.false ∙ c.loop.invariant.1))

pub returns : goal.returns
returns c = let i = c.loop.invariant in (sym (stop-none _ _ _ _ (omega arith)) ∙ i.1, i.0)
