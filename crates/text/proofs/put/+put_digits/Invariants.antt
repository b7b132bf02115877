-- Right because the digits before the last are the last k − 1 of n / BASE, and the last is n % BASE. The measure is k.
use Rattle.text.proofs.put.+put_digits.Given as goal

abbrev pub decreases-put_digits : goal.decreases-put_digits
decreases-put_digits g l = l.k
