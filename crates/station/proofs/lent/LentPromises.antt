-- What the lent functions promise and ask, by their contracts, and the demands over lists of lent calls from a new station. Their
-- contracts have one clause each: the equations say that it is the relation of specs/lent/LentDemands, whatever the model w, the
-- lifetime k and the references at entry and exit; a clause that is weakened or dropped breaks them. Statements only; Promises says
-- why they stand here.
use Rattle.std.specs.Prelude.{Result}
use Prim.Native.Nat.{ℕ}
use mathlib.Core.Path.{◌≡◌}
use mathlib.Core.List.{List}
use borrow.Fn.World.{World, Pr}
use contract.Lifetimes.{Lfts}
use contract.Monad.{fact}
use denote.MutBor.{MutBor}
use Rattle.motor.specs.declared.motor.Motor.{Motor}
use Rattle.station.specs.declared.call.Asked.{Asked}
use Rattle.station.specs.declared.call.Replied.{Replied}
use Rattle.codec.specs.declared.error.Refusal.{Refusal}
use Rattle.motor.specs.declared.motor.Seen.{Seen}
use Rattle.station.specs.CodeDemands.{CodeDemand1, CodeDemand2, CodeDemand3}
use Rattle.station.specs.Definitions.{AsksNothing}
use Rattle.station.specs.lent.LentDemands.{Calls, Looks, LentGives}
use Rattle.station.proofs.Promises.{New}
use Rattle.station.specs.contracts.lent.call.call as lent-call
use Rattle.station.specs.contracts.lent.look.look as lent-look

abbrev call_asks : Lfts 1 → MutBor (List Motor) × (Asked × Unit {0}) → Unit {0} → (w : World) → Pr w
call_asks k x g w = (lent-call.clauses w.𝓛 w.𝓜.mem w.𝓡.run k x).requires g

abbrev look_asks : Lfts 1 → MutBor (List Motor) × (ℕ × Unit {0}) → Unit {0} → (w : World) → Pr w
look_asks k x g w = (lent-look.clauses w.𝓛 w.𝓜.mem w.𝓡.run k x).requires g

pub record LentPromises : Type 2 where
  pub call-asks : AsksNothing call_asks
  pub look-asks : AsksNothing look_asks
  pub called : (w : World) (k : Lfts 1) (m end : MutBor (List Motor)) (a : Asked) (r : Replied)
      → (lent-call.clauses w.𝓛 w.𝓜.mem w.𝓡.run k (m, (a, tt))).ensures tt r (end, (a, tt))
      ≡ fact w.𝓤 (Calls m.now a r end.now)
  pub looked : (w : World) (k : Lfts 1) (m end : MutBor (List Motor)) (id : ℕ) (r : Result Seen Refusal)
      → (lent-look.clauses w.𝓛 w.𝓜.mem w.𝓡.run k (m, (id, tt))).ensures tt r (end, (id, tt))
      ≡ fact w.𝓤 (Looks m.now id r end.now)
  -- a look leaves the places as they were
  pub look-keeps : (ms zs : List Motor) (id : ℕ) (r : Result Seen Refusal) → Looks ms id r zs → zs ≡ ms

pub record LentStationDemands : Type 2 where
  pub promises : LentPromises
  pub demand1 : CodeDemand1 LentGives
  pub demand2 : CodeDemand2 LentGives New
  pub demand3 : CodeDemand3 LentGives New
