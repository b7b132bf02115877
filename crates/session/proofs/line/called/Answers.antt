-- Right because the row, its shape and the arguments are the definition's.
use Rattle.std.proofs.Common.{◌≡◌, ne_eqb}
use Rattle.std.proofs.lemmas.Result.{err_from_is_err_and}
use Rattle.session.specs.Lines.{called}
use Rattle.session.specs.Table.{events, shape_at}
use Rattle.session.proofs.line.called.Goals as goal

pub returns-in_err-v : goal.returns-in_err-v
unfolding called
returns-in_err-v c =
    let shape : c.word-2.result.now ≡ shape_at events c.in_ok-row.row = c.word-2.ensures in
    let p = err_from_is_err_and c.from_residual-in_err-v.result c.from_residual-in_err-v.ensures.1 in
    rw (← c.word.ensures, ← c.row_of.ensures.row, ← c.ok_or.ensures.value, c.in_ok-row.was, ne_eqb _ _ c.if-row-eq-START.false, ← shape, ← c.arguments.ensures, c.in_err-v.was, p.1, p.2)

pub returns : goal.returns
unfolding called
returns c =
    let shape : c.word-2.result.now ≡ shape_at events c.in_ok-row.row = c.word-2.ensures in
    rw (← c.word.ensures, ← c.row_of.ensures.row, ← c.ok_or.ensures.value, c.in_ok-row.was, ne_eqb _ _ c.if-row-eq-START.false, ← shape, ← c.arguments.ensures, c.in_ok-v.was, c.call_event.ensures)
