-- The place of an id in the array, and what document 01's station holds there. Assumes nothing.
use Rattle.std.specs.Prelude.{Option, None, Some}
use mathlib.Core.Path.{◌≡◌, refl, sym, ap, ◌∙◌, subst}
use mathlib.Core.Bool.{Bool, true, false, cond}
use mathlib.Core.List.{List, [], ◌∷◌}
use Prim.Native.Nat.{ℕ, zero, suc, ◌≤◌, ◌<◌}
use native.Mathlib.Nat.{le_of_suc-le-suc, not-suc-le-zero}
use lib.Dec.{eqb}
use lib.ListN.{length, get_or, set, replicate}
use Rattle.motor.specs.declared.motor.Motor.{Motor}
use Rattle.motor.specs.Lone.{Lone}
use Rattle.station.specs.Station.{Place, free, taken, held, put, place, add, full}
use Rattle.station.specs.Stations.{free_motor, place_of, TakenAs, PlaceAs, PlacesAs}
use Rattle.station.proofs.Places.{same_id}

pub not_same : (a b : ℕ) → (a ≡ b → ⊥) → eqb a b ≡ false
not_same a b z = go (eqb a b) refl
  where
    go : (t : Bool) → eqb a b ≡ t → eqb a b ≡ false
    go true p = absurd (z (same_id a b p))
    go false p = p

-- ---- what is held there

free-id : (x : Motor) → x ≡ free_motor → x.state.motor_id ≡ 0
unfolding free_motor
free-id x e = rw e

free_other : (x : Motor) (m : ℕ) → x ≡ free_motor → (m ≡ 0 → ⊥) → eqb x.state.motor_id m ≡ false
free_other x m e z = not_same x.state.motor_id m (λ q. z (sym q ∙ free-id x e))

-- the motor at a place, and the lone motor held there
abbrev pub Found : List Place → ℕ → Motor → Type 0
Found s m x = (h : Lone) × (held s m ≡ Some h) × TakenAs x m h

module _ (m : ℕ) (z : m ≡ 0 → ⊥) where
  pub held_none : (xs : List Motor) (s : List Place) → PlacesAs xs s → length xs ≤ place_of xs m → held s m ≡ None
  unfolding place_of held
  held_none [] [] q h = refl
  held_none [] (p ∷ s) q h = absurd q
  held_none (x ∷ xs) [] q h = absurd q
  held_none (x ∷ xs) (free ∷ s) q h = held_none xs s q.1 (le_of_suc-le-suc (rw (free_other x m q.0 z) at h))
  held_none (x ∷ xs) (taken i k ∷ s) q h = go (eqb i m) refl (held_none xs s q.1)
    where
      go : (b : Bool) → eqb i m ≡ b → (length xs ≤ place_of xs m → held s m ≡ None) → held (taken i k ∷ s) m ≡ None
      go true p ih = absurd (not-suc-le-zero (rw (q.0.id, p) at h))
      go false p ih = rw p (ih (le_of_suc-le-suc (rw (q.0.id, p) at h)))

  pub held-some : (xs : List Motor) (s : List Place) (d : Motor) → PlacesAs xs s → place_of xs m < length xs → Found s m (get_or xs (place_of xs m) d)
  unfolding place_of held
  held-some [] s d q h = absurd (not-suc-le-zero h)
  held-some (x ∷ xs) [] d q h = absurd q
  held-some (x ∷ xs) (free ∷ s) d q h =
      let e = free_other x m q.0 z in
      subst (λ (b : Bool). Found (free ∷ s) m (get_or (x ∷ xs) (cond b zero (suc (place_of xs m))) d)) (sym e)
      (held-some xs s d q.1 (le_of_suc-le-suc (rw e at h)))
  held-some (x ∷ xs) (taken i k ∷ s) d q h = go (eqb i m) refl (held-some xs s d q.1)
    where
      at : Bool → Type 0
      at b = Found (taken i k ∷ s) m (get_or (x ∷ xs) (cond b zero (suc (place_of xs m))) d)

      go : (b : Bool) → eqb i m ≡ b → (place_of xs m < length xs → Found s m (get_or xs (place_of xs m) d)) → at (eqb x.state.motor_id m)
      go true p ih =
          subst at (sym (ap (λ (n : ℕ). eqb n m) q.0.id ∙ p))
          (k, rw p, record { id = q.0.id ∙ same_id i m p; registered = z; state = q.0.state; readings = q.0.readings })
      go false p ih =
          let e : eqb x.state.motor_id m ≡ false = ap (λ (n : ℕ). eqb n m) q.0.id ∙ p in
          let f = ih (le_of_suc-le-suc (rw e at h)) in
          subst at (sym e) (f.0, rw p f.1, f.2)

  pub put_as : (xs : List Motor) (s : List Place) (o : Option Lone) (y : Motor) → PlacesAs xs s → place_of xs m < length xs → PlaceAs y (place m o)
      → PlacesAs (set xs (place_of xs m) y) (put s m o)
  unfolding place_of put
  put_as [] s o y q h w = absurd (not-suc-le-zero h)
  put_as (x ∷ xs) [] o y q h w = absurd q
  put_as (x ∷ xs) (free ∷ s) o y q h w =
      let e = free_other x m q.0 z in
      rw e (q.0, put_as xs s o y q.1 (le_of_suc-le-suc (rw e at h)) w)
  put_as (x ∷ xs) (taken i k ∷ s) o y q h w = go (eqb i m) refl (put_as xs s o y q.1)
    where
      go : (b : Bool) → eqb i m ≡ b → (place_of xs m < length xs → PlaceAs y (place m o) → PlacesAs (set xs (place_of xs m) y) (put s m o))
          → PlacesAs (set (x ∷ xs) (place_of (x ∷ xs) m) y) (put (taken i k ∷ s) m o)
      go true p ih =
          let e : eqb x.state.motor_id m ≡ true = rw q.0.id p in
          rw (e, p, same_id i m p) (w, q.1)
      go false p ih =
          let e : eqb x.state.motor_id m ≡ false = rw q.0.id p in
          rw (e, p) (q.0, ih (le_of_suc-le-suc (rw e at h)) w)

-- nothing is held for the id 0
pub held-zero : (xs : List Motor) (s : List Place) → PlacesAs xs s → held s 0 ≡ None
unfolding held
held-zero [] [] q = refl
held-zero [] (p ∷ s) q = absurd q
held-zero (x ∷ xs) [] q = absurd q
held-zero (x ∷ xs) (free ∷ s) q = held-zero xs s q.1
held-zero (x ∷ xs) (taken i k ∷ s) q = rw (not_same i 0 q.0.registered) (held-zero xs s q.1)

-- ---- the first free place is that of the id 0

taken-other : (x : Motor) (i : ℕ) (k : Lone) → TakenAs x i k → eqb x.state.motor_id 0 ≡ false
taken-other x i k q = rw q.id (not_same i 0 q.registered)

pub full_at : (xs : List Motor) (s : List Place) → PlacesAs xs s → length xs ≤ place_of xs 0 → full s ≡ true
unfolding place_of full
full_at [] [] q h = refl
full_at [] (p ∷ s) q h = absurd q
full_at (x ∷ xs) [] q h = absurd q
full_at (x ∷ xs) (free ∷ s) q h = absurd (not-suc-le-zero (rw (free-id x q.0) at h))
full_at (x ∷ xs) (taken i k ∷ s) q h = full_at xs s q.1 (le_of_suc-le-suc (rw (taken-other x i k q.0) at h))

pub room_at : (xs : List Motor) (s : List Place) → PlacesAs xs s → place_of xs 0 < length xs → full s ≡ false
unfolding place_of full
room_at [] s q h = absurd (not-suc-le-zero h)
room_at (x ∷ xs) [] q h = absurd q
room_at (x ∷ xs) (free ∷ s) q h = refl
room_at (x ∷ xs) (taken i k ∷ s) q h = room_at xs s q.1 (le_of_suc-le-suc (rw (taken-other x i k q.0) at h))

pub add-as : (xs : List Motor) (s : List Place) (m : ℕ) (k : Lone) (y : Motor) → PlacesAs xs s → place_of xs 0 < length xs → TakenAs y m k
    → PlacesAs (set xs (place_of xs 0) y) (add s m k)
unfolding place_of add
add-as [] s m k y q h w = absurd (not-suc-le-zero h)
add-as (x ∷ xs) [] m k y q h w = absurd q
add-as (x ∷ xs) (free ∷ s) m k y q h w = rw (free-id x q.0) (w, q.1)
add-as (x ∷ xs) (taken i j ∷ s) m k y q h w =
    let e = taken-other x i j q.0 in
    rw e (q.0, add-as xs s m k y q.1 (le_of_suc-le-suc (rw e at h)) w)

-- a station with no motor
pub free-places : (n : ℕ) → PlacesAs (replicate n free_motor) (replicate n free)
free-places zero = tt
free-places (suc n) = (refl, free-places n)
