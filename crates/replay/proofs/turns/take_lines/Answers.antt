-- Right because what is still to be heard, after what was answered, stays the whole read heard (Going).
use Rattle.std.proofs.Common.{◌≡◌, ◌+◌, ◌-◌, ◌∙◌, sym, arith}
use Rattle.std.proofs.lemmas.List.{take_rest}
use Rattle.replay.proofs.Going.{keeps, ends-half}
use Rattle.replay.proofs.turns.take_lines.Goals as goal

pub loop-end-preserved : goal.loop-end-preserved
loop-end-preserved c =
    let e : c.loop-end.from + c.in-Some.end - c.loop-end.from ≡ c.in-Some.end = omega arith in
    keeps _ _ _ _ _ c.loop-end.invariant _ _ c.in-Some.end (sym (rw take_rest at c.position_of.ensures) ∙ c.in-Some.is) (omega (arith, c.if-out-gt-ROOM.false)) (rw e at c.take_line.ensures)

pub returns : goal.returns
returns c = ends-half _ _ _ _ _ c.loop-end.invariant (sym (rw take_rest at c.position_of.ensures) ∙ c.in_default.is)
