-- Right because the word's place among the names left, counted from the first of them, is its place among all.
use Rattle.std.proofs.Common.{◌≡◌, ◌+◌, ◌-◌}
use Rattle.text.specs.Words.{which_of}
use Rattle.text.proofs.words.which.Given as goal

abbrev pub invariant-loop-k : goal.invariant-loop-k
invariant-loop-k l = which_of l.names l.n l.w ≡ l.k + which_of l.rest (l.n - l.k) l.w
