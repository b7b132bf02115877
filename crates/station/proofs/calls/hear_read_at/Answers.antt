-- Right because the edit stored part by part is the edit stored.
use Rattle.station.proofs.Lending.{edited}
use Rattle.station.proofs.calls.hear_read_at.Goals as goal

pub returns : goal.returns
returns c = edited c.args.m.now c.args.frame c.args.now c.hear_read-heard.result _ c.hear_read-heard.ensures.0
