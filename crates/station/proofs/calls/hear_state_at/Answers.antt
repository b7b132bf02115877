-- Right because a frame that is no read reply leaves the readings.
use Rattle.std.proofs.Common.{sym}
use Rattle.motor.proofs.Receiving.{heard-quiet}
use Rattle.station.proofs.calls.hear_state_at.Goals as goal

pub returns : goal.returns
returns c = λ q. rw c.hear_state-heard.ensures (sym (heard-quiet _ _ _ q))
