-- Right because the row is sought in the program's table.
use Rattle.codec.specs.Table.{parameter_row}
use Rattle.codec.proofs.registers.parameter_row.Goals as goal

pub returns : goal.returns
unfolding parameter_row
returns c = c.row_among.ensures
