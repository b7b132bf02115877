-- What a search for a place finds is the definition's place; what is done there, or where there is none. Assumes nothing.
use Rattle.std.specs.Prelude.{Option, None, Some, is_some}
use Rattle.std.proofs.lemmas.List.Recursion.{is_position_or_len}
use Rattle.std.proofs.lemmas.List.{get_or_default}
use Rattle.std.proofs.lemmas.Option.{none-some, same_Some}
use Prim.Native.Nat.{ℕ, ◌<◌}
use native.Mathlib.Omega.{arith}
use mathlib.Core.Path.{◌≡◌, refl, sym, ap, ◌∙◌}
use mathlib.Core.Bool.{Bool, true, false, cond, true≢false}
use mathlib.Core.List.{List}
use lib.Dec.{eqb, ltb}
use lib.ListN.{length, get_or}
use Rattle.motor.specs.declared.motor.Motor.{Motor}
use Rattle.station.specs.declared.station.Station.{Station}
use Rattle.station.specs.Stations.{free_motor, place_of, taken_place, find_place, find_motor, at_place}

-- a place, or none
abbrev below : ℕ → Option ℕ
below k = cond (ltb k 8) (Some k) None

found-is : (ms : List Motor) (id : ℕ) → length ms ≡ 8 → find_place ms id ≡ below (place_of ms id)
unfolding place_of
found-is ms id eight =
    rw (eight, ← is_position_or_len (λ xs. place_of xs id) (λ m. eqb m.state.motor_id id) refl (λ x xs. ap (cond (eqb x.state.motor_id id) 0) (omega arith)) ms)

taken-is : (ms : List Motor) (id : ℕ) → length ms ≡ 8 → find_motor ms id ≡ below (taken_place ms id)
unfolding taken_place
taken-is ms id eight = rw (found-is ms id eight) (go (eqb id 0))
  where
    go : (b : Bool) → cond b None (below (place_of ms id)) ≡ below (cond b 8 (place_of ms id))
    go true = refl
    go false = refl

-- at eight places a read past the end gives nothing
pub motor_there : (ms : List Motor) (i : ℕ) (d : Motor) → length ms ≡ 8 → i < 8 → get_or ms i d ≡ get_or ms i free_motor
motor_there ms i d eight l = get_or_default ms i d free_motor (omega arith)

module _ (k : ℕ) where
  some_below : (i : ℕ) → below k ≡ Some i → (k ≡ i) × (ltb k 8 ≡ true)
  some_below i = go (ltb k 8)
    where
      go : (b : Bool) → cond b (Some k) None ≡ Some i → (k ≡ i) × (b ≡ true)
      go true e = (same_Some k i e, refl)
      go false e = absurd (none-some i e)

  none-below : below k ≡ None → ltb k 8 ≡ false
  none-below = go (ltb k 8)
    where
      go : (b : Bool) → cond b (Some k) None ≡ None → b ≡ false
      go true e = absurd (none-some k (sym e))
      go false e = refl

-- what is done at the place found, and where none is found
module _ {A : Type 0} (st : Station) (id : ℕ) (found : ℕ → A) (none : A) (eight : length st.motors ≡ 8) where
  pub at_found : (i : ℕ) → find_motor st.motors id ≡ Some i → at_place st id found none ≡ found i
  unfolding at_place
  at_found i e = let p = some_below _ i (sym (taken-is st.motors id eight) ∙ e) in rw (p.1, p.0)

  pub at_none : find_motor st.motors id ≡ None → at_place st id found none ≡ none
  unfolding at_place
  at_none e = rw (none-below _ (sym (taken-is st.motors id eight) ∙ e))

  -- whichever place it is
  pub at_some : (x : A) → ((i : ℕ) → found i ≡ x) → is_some (find_motor st.motors id) ≡ true → at_place st id found none ≡ x
  at_some x e s = go (find_motor st.motors id) refl s
    where
      go : (o : Option ℕ) → find_motor st.motors id ≡ o → is_some o ≡ true → at_place st id found none ≡ x
      go (Some i) p q = at_found i p ∙ e i
      go None p q = absurd (true≢false (sym q))

  pub at_no : is_some (find_motor st.motors id) ≡ false → at_place st id found none ≡ none
  at_no s = go (find_motor st.motors id) refl s
    where
      go : (o : Option ℕ) → find_motor st.motors id ≡ o → is_some o ≡ false → at_place st id found none ≡ none
      go (Some i) p q = absurd (true≢false q)
      go None p q = at_none p

-- the same of the first free place
module _ (ms : List Motor) (eight : length ms ≡ 8) where
  pub room-found : (i : ℕ) → find_place ms 0 ≡ Some i → (place_of ms 0 ≡ i) × (ltb (place_of ms 0) 8 ≡ true)
  room-found i e = some_below _ i (sym (found-is ms 0 eight) ∙ e)

  pub room-none : find_place ms 0 ≡ None → ltb (place_of ms 0) 8 ≡ false
  room-none e = none-below _ (sym (found-is ms 0 eight) ∙ e)
