-- Right because the name's row among the rows left is its row among all.
use Rattle.std.proofs.Common.{◌≡◌, ◌-◌, length}
use Rattle.session.specs.Table.{row_from, row_of}
use Rattle.session.proofs.table.row_of.Given as goal

abbrev pub invariant-loop-row : goal.invariant-loop-row
invariant-loop-row l = row_from l.rest l.row (length l.table - l.row) l.w ≡ row_of l.table l.w
