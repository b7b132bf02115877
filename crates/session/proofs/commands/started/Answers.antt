-- Right because the row, its shape and the arguments are the definition's.
use Rattle.std.proofs.Common.{◌≡◌}
use Rattle.std.proofs.lemmas.Result.{err_from_is_err_and}
use Rattle.session.specs.Commands.{started}
use Rattle.session.specs.Table.{commands, shape_at}
use Rattle.session.proofs.commands.started.Goals as goal

pub returns-in_err-arguments : goal.returns-in_err-arguments
unfolding started
returns-in_err-arguments c =
    let shape : c.word-shape.result.now ≡ shape_at commands c.in_ok-row.row = c.word-shape.ensures in
    let p = err_from_is_err_and c.from_residual-in_err-arguments.result c.from_residual-in_err-arguments.ensures.1 in
    rw (← c.word.ensures, ← c.row_of.ensures.row, ← c.ok_or.ensures.value, c.in_ok-row.was, ← shape, ← c.arguments.ensures, c.in_err-arguments.was, p.1, p.2)

pub returns : goal.returns
unfolding started
returns c =
    let shape : c.word-shape.result.now ≡ shape_at commands c.in_ok-row.row = c.word-shape.ensures in
    rw (← c.word.ensures, ← c.row_of.ensures.row, ← c.ok_or.ensures.value, c.in_ok-row.was, ← shape, ← c.arguments.ensures, c.in_ok-arguments.was) c.start_event.ensures
