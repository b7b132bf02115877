-- Right because what n goes on to with the zeros left is what v does with all.
use Rattle.std.proofs.Common.{◌≡◌, ◌-◌}
use Rattle.session.specs.Heard.{shifted_by}
use Rattle.session.proofs.heard.shifted.Given as goal

abbrev pub invariant-loop : goal.invariant-loop
invariant-loop l = shifted_by l.n (l.k - l.counter) ≡ shifted_by l.v l.k
