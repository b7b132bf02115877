-- Right because the first b of the range is its first b from there on, and where the range has none, its length is told.
use Rattle.std.proofs.Common.{◌≡◌, ◌+◌, ◌-◌, length, take, drop, arith}
use Rattle.text.specs.Search.{index_of}
use Rattle.text.proofs.Reading.{place-found, place-none, range-is, range-length}
use Rattle.text.proofs.search.find.Goals as goal

pub returns-in-Some-clause-place : goal.returns-in-Some-clause-place
returns-in-Some-clause-place c =
    let range = take (c.args.to - c.args.from) (drop c.args.from c.args.s.now) in
    let e = place-found c.args.b range c.in-Some.k (cc) in
    rw (range-is c.args.s.now c.args.from c.args.to (omega arith)) (omega (arith, e.0))

pub returns-in-None-clause-place : goal.returns-in-None-clause-place
returns-in-None-clause-place c =
    let range = take (c.args.to - c.args.from) (drop c.args.from c.args.s.now) in
    let e : index_of c.args.b range ≡ length range = place-none c.args.b range (cc) in
    let l = range-length c.args.s.now c.args.from c.args.to (omega arith) (omega arith) in
    rw (range-is c.args.s.now c.args.from c.args.to (omega arith)) (omega (arith, e, l))
