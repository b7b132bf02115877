-- Right because a call is the by-value call's, a look the by-value look's, and what a line says besides its own (Turning).
use Rattle.replay.proofs.Turning.{went-call, went-look, went-other}
use Rattle.replay.proofs.turns.take_line.Goals as goal

pub returns-in-Look : goal.returns-in-Look
returns-in-Look g c =
    went-look _ _ _ _ _ _ c.line_says-says.ensures c.in-Call.asked c.in-Look.id _ c.in-Call.is c.in-Look.is c.look.ensures c.put_looked.ensures

pub returns-in_default : goal.returns-in_default
returns-in_default g c =
    went-call _ _ _ _ _ _ c.line_says-says.ensures c.in-Call.asked _ c.in-Call.is c.in_default.not-Look c.call-replied.ensures (rw c.time_of.ensures at c.put_replied.ensures)

pub returns-in-Other : goal.returns-in-Other
returns-in-Other g c =
    went-other _ _ _ _ _ _ c.line_says-says.ensures c.in-Other.other c.in-Other.is c.take_other.ensures
