-- Right because the motor at the id's place goes on, and elsewhere it is 6.
use Rattle.std.proofs.Common.{rules, sym, ◌∙◌}
use Rattle.station.specs.Stations.{step_in}
use Rattle.station.proofs.Found.{at_found, at_none, motor_there}
use Rattle.station.proofs.calls.step.Goals as goal

pub returns-in_default : goal.returns-in_default
unfolding step_in
returns-in_default c = rw (c.reply.ensures, at_none _ _ _ _ c.told-motors (sym c.find_motor.ensures.is ∙ c.in_default.is))

pub returns : goal.returns
unfolding step_in
returns c =
    rw (c.moved.ensures, c.step-answered.ensures.is, at_found _ _ _ _ c.told-motors _ (sym c.find_motor.ensures.is ∙ c.in-Some.is), motor_there c.args.motors.now c.in-Some.i _ c.told-motors (search rules))
