-- Right because a number below 10 is one digit, and the digits of any other are those of n / 10 and then n % 10. The measure is k.
use Rattle.text.proofs.put.+put_decimal_in.Given as goal

abbrev pub decreases-put_decimal_in : goal.decreases-put_decimal_in
decreases-put_decimal_in l = l.k
