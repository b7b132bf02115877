-- Right because each arm's literals are the floats that the definition names.
use lib.Ieee.{of_int, of_bits}
use Rattle.codec.proofs.model.limits_of.Goals as goal

pub returns-in-Rs00 : goal.returns-in-Rs00
unfolding of_int of_bits
returns-in-Rs00 c = rw c.in-Rs00.is c.limits_to.ensures

pub returns-in-Rs01 : goal.returns-in-Rs01
unfolding of_int of_bits
returns-in-Rs01 c = rw c.in-Rs01.is c.limits_to-in-Rs01.ensures

pub returns-in-Rs02 : goal.returns-in-Rs02
unfolding of_int of_bits
returns-in-Rs02 c = rw c.in-Rs02.is c.limits_to-in-Rs02.ensures

pub returns-in-Rs03 : goal.returns-in-Rs03
unfolding of_int of_bits
returns-in-Rs03 c = rw c.in-Rs03.is c.limits_to-in-Rs03.ensures

pub returns-in-Rs04 : goal.returns-in-Rs04
unfolding of_int of_bits
returns-in-Rs04 c = rw c.in-Rs04.is c.limits_to-in-Rs04.ensures

pub returns-in-Rs05 : goal.returns-in-Rs05
unfolding of_int of_bits
returns-in-Rs05 c = rw c.in-Rs05.is c.limits_to-in-Rs05.ensures

pub returns-in-Rs05el : goal.returns-in-Rs05el
unfolding of_int of_bits
returns-in-Rs05el c = rw c.in-Rs05el.is c.limits_to-in-Rs05el.ensures

pub returns-in-Rs06 : goal.returns-in-Rs06
unfolding of_int of_bits
returns-in-Rs06 c = rw c.in-Rs06.is c.limits_to-in-Rs06.ensures
