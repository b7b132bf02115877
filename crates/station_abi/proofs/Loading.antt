-- One turn more of the loops that load a station: they count from 1. Assumes nothing.
use Rattle.std.specs.Prelude.{Option, Some}
use Prim.Native.Nat.{ℕ, zero, suc, ◌-◌, ◌≤◌}
use mathlib.Core.Path.{◌≡◌, refl}
use native.Mathlib.Omega.{arith}
use Rattle.codec.specs.declared.model.Model.{Model}
use Rattle.codec.specs.declared.bus.CanFrame.{CanFrame}
use Rattle.codec.specs.declared.model.Model.TheVariants as model
use Rattle.station.specs.declared.station.After.{After}
use Rattle.station.specs.declared.station.Station.{Station}
use Rattle.station.specs.Stations.{register_in, frame_in}
use Rattle.station_abi.specs.Loaded.{read_reply, last_parameter, registered_of, read_by_all, loaded_to}

-- of what n turns give, n ≥ 1, by what one fewer give
turn : {A : Type 0} (g : ℕ → A) (f : ℕ → A → A) → ((k : ℕ) → g (suc k) ≡ f (suc k) (g k)) → (k n : ℕ) (x : A) → 1 ≤ k → n ≡ k → x ≡ g (k - 1)
    → f k x ≡ g n
turn g f step zero n x l e p = absurd (omega arith)
turn g f step (suc k) n x l e p =
    let i : suc k - 1 ≡ k = omega arith in
    rw (e, p, i, step)

pub registered-next : (k n host : ℕ) (st : Station) (name : Option Model) (a : After) → 1 ≤ k → n ≡ k → st ≡ registered_of (k - 1) → host ≡ 253
    → name ≡ Some model.Rs00 → a ≡ register_in st k host name 0 0 → a.station ≡ registered_of n
unfolding registered_of
registered-next k n host st name a l e p h m q = rw (q, h, m) (turn registered_of (λ i s. (register_in s i 253 (Some model.Rs00) 0 0).station) (λ i. refl) k n st l e p)

pub read_next : (first : Station) (parameter k n : ℕ) (st : Station) (f : CanFrame) (a : After) → 1 ≤ k → n ≡ k → st ≡ read_by_all first (k - 1) parameter
    → f ≡ read_reply k parameter → a ≡ frame_in st f 0 → a.station ≡ read_by_all first n parameter
unfolding read_by_all
read_next first parameter k n st f a l e p g q =
    rw (q, g) (turn (λ i. read_by_all first i parameter) (λ i s. (frame_in s (read_reply i parameter) 0).station) (λ i. refl) k n st l e p)

pub loaded-next : (motors k n parameter : ℕ) (st r : Station) → 1 ≤ k → n ≡ k → st ≡ loaded_to motors (k - 1) → parameter ≡ last_parameter k
    → r ≡ read_by_all st motors parameter → r ≡ loaded_to motors n
unfolding loaded_to
loaded-next motors k n parameter st r l e p g q =
    rw (q, g) (turn (loaded_to motors) (λ i s. read_by_all s motors (last_parameter i)) (λ i. refl) k n st l e p)
