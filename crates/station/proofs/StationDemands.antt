-- The demands over the contracts of the by-value functions, put together; and none asks anything of its caller. Assumes nothing.
use base.Logic.{id⊢, emp}
use Rattle.station.proofs.Demand2.{code-demand2}
use Rattle.station.proofs.Kept.{code-demand1}
use Rattle.station.proofs.Promised.{code-demand3}
use Rattle.station.proofs.Promises.{StationAsks, StationDemands}

-- each of them has no `requires`
asks : StationAsks
asks =
    record {
      new = λ k x g w. id⊢ w.𝓤 (emp w.𝓤);
      register = λ k x g w. id⊢ w.𝓤 (emp w.𝓤);
      start = λ k x g w. id⊢ w.𝓤 (emp w.𝓤);
      step = λ k x g w. id⊢ w.𝓤 (emp w.𝓤);
      frame = λ k x g w. id⊢ w.𝓤 (emp w.𝓤);
      look = λ k x g w. id⊢ w.𝓤 (emp w.𝓤);
      remove = λ k x g w. id⊢ w.𝓤 (emp w.𝓤);
      time-of = λ k x g w. id⊢ w.𝓤 (emp w.𝓤);
    }

pub station-demands : StationDemands
station-demands = record { asks = asks; demand1 = code-demand1; demand2 = code-demand2; demand3 = code-demand3 }
