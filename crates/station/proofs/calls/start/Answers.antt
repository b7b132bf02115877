-- Right because the motor at the id's place starts, and elsewhere it is 6.
use Rattle.std.proofs.Common.{rules, sym, ◌∙◌}
use Rattle.station.specs.Stations.{start_in}
use Rattle.station.proofs.Found.{at_found, at_none, motor_there}
use Rattle.station.proofs.calls.start.Goals as goal

pub returns-in_default : goal.returns-in_default
unfolding start_in
returns-in_default c = rw (c.reply.ensures, at_none _ _ _ _ c.told-motors (sym c.find_motor.ensures.is ∙ c.in_default.is))

pub returns : goal.returns
unfolding start_in
returns c =
    rw (c.moved.ensures, c.start-answered.ensures.is, at_found _ _ _ _ c.told-motors _ (sym c.find_motor.ensures.is ∙ c.in-Some.is), motor_there c.args.motors.now c.in-Some.i _ c.told-motors (search rules))
