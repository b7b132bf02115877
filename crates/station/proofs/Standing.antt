-- Where an id stands on a good station: at no place, or at one whose motor is the lone motor held for it. Assumes nothing.
use Rattle.std.specs.Prelude.{Option, None, Some}
use mathlib.Core.Path.{◌≡◌, refl, ◌∙◌}
use mathlib.Core.Bool.{Bool, true, false, true≢false}
use mathlib.Core.List.{List}
use Prim.Native.Nat.{ℕ, ◌≤◌, ◌<◌}
use lib.Dec.{eqb, ltb, ltb→lt, nltb→le}
use lib.ListN.{length, length-set}
use Rattle.motor.specs.declared.motor.Motor.{Motor}
use Rattle.motor.specs.Lone.{Lone}
use Rattle.station.specs.declared.station.Station.{Station}
use Rattle.station.specs.Station.{Place, held, put, place}
use Rattle.station.specs.Stations.{free_motor, place_of, taken_place, motor_at, with_motor}
use Rattle.station.specs.Stations.{TakenAs, PlaceAs, Shows}
use Rattle.station.proofs.Index.{held_none, held-some, held-zero, put_as}
use Rattle.station.proofs.Places.{same_id}

module _ (st : Station) (s : List Place) (x : Shows st s) (m : ℕ) where
  -- the place of the id: none, or one at which a motor stands that is the lone motor held for the id
  pub data Where : Type 0 where
    absent : ltb (taken_place st.motors m) 8 ≡ false → held s m ≡ None → Where
    present : ltb (taken_place st.motors m) 8 ≡ true → (m ≡ 0 → ⊥) → taken_place st.motors m ≡ place_of st.motors m
        → place_of st.motors m < length st.motors → (h : Lone) → held s m ≡ Some h
        → TakenAs (motor_at st (taken_place st.motors m)) m h → Where

  pub where-is : Where
  unfolding taken_place
  where-is = zeroth (eqb m 0) refl
    where
      found : (m ≡ 0 → ⊥) → (e : taken_place st.motors m ≡ place_of st.motors m) → (b : Bool) → ltb (place_of st.motors m) 8 ≡ b → Where
      found z e true p =
          let l : place_of st.motors m < length st.motors = rw x.eight (ltb→lt (place_of st.motors m) 8 (rw p tt)) in
          let f = held-some m z st.motors s free_motor x.places l in
          present (rw e p) z e l f.0 f.1 (rw e f.2)
      found z e false p = absent (rw e p) (held_none m z st.motors s x.places (rw x.eight (beyond (place_of st.motors m) p)))
        where
          beyond : (n : ℕ) → ltb n 8 ≡ false → 8 ≤ n
          beyond n q = nltb→le n 8 (rw q tt)

      zeroth : (b : Bool) → eqb m 0 ≡ b → Where
      zeroth true p = absent (rw p) (rw (same_id m 0 p) (held-zero st.motors s x.places))
      zeroth false p = found (λ q. absurd (true≢false (rw q at p))) (rw p) (ltb (place_of st.motors m) 8) refl

  -- the place replaced
  pub shows-put : (m ≡ 0 → ⊥) → taken_place st.motors m ≡ place_of st.motors m → place_of st.motors m < length st.motors
      → (o : Option Lone) (y : Motor) → PlaceAs y (place m o) → Shows (with_motor st (taken_place st.motors m) y) (put s m o)
  shows-put z e l o y w =
      record { eight = length-set st.motors _ y ∙ x.eight; places = rw e (put_as m z st.motors s o y x.places l w) }
