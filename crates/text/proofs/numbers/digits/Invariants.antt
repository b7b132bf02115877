-- Right because the digits left go on from n to the word's number, and what the checked operations refuse is just what reaches 2^64.
use Rattle.std.proofs.Common.{◌≡◌, drop}
use Rattle.text.specs.Numbers.{digits_in, read_from}
use Rattle.text.proofs.numbers.digits.Given as goal

abbrev pub invariant-loop-b : goal.invariant-loop-b
invariant-loop-b g l = digits_in g.row.BASE l.w ≡ read_from g.row.BASE l.n (drop l.b-index l.w)
