-- On a good station a registration is document 01's: its own tests, then 5 and 4, then the first free place. Assumes nothing.
use Rattle.std.specs.Prelude.{Option, Some, None, Result, Ok, Err, ⊤, is_some}
use mathlib.Core.Path.{◌≡◌, refl, sym, ◌∙◌}
use mathlib.Core.Bool.{Bool, true, false, ◌||◌}
use mathlib.Core.List.{List, [], ◌∷◌, ◌++◌}
use Prim.Native.Nat.{ℕ, ◌<◌}
use lib.Dec.{eqb, ltb, ltb→lt, nltb→le}
use lib.ListN.{length, length-set}
use Rattle.codec.specs.declared.error.Refusal.{Refusal}
use Rattle.codec.specs.declared.error.Refusal.TheVariants as refusal
use Rattle.codec.specs.declared.model.Model.{Model}
use Rattle.motor.specs.Limits.{longest_timeout, latest_time}
use Rattle.motor.specs.Calls.{register_numbers, registered_by}
use Rattle.motor.specs.Lone.{lone_new}
use Rattle.motor.specs.Motors.{new_motor}
use Rattle.motor.specs.Numbers.{first_of}
use Rattle.motor.proofs.ReadingsHeld.{empty_holds}
use Rattle.station.specs.declared.station.Station.{Station}
use Rattle.station.specs.Station.{Place, held, full}
use Rattle.station.specs.Station.{enter, admit}
use Rattle.station.specs.Stations.{place_of, at_place, entered_in, admitted_in, register_by}
use Rattle.station.specs.Stations.{Shows, LeavesAs}
use Rattle.station.proofs.Index.{full_at, room_at, add-as}
use Rattle.station.proofs.Steps.{refused-passed}
use Rattle.station.proofs.Standing.{Where, absent, present, where-is}

-- what the first test that applies says of a registration's own tests and of the station's
passed_on : (l : List (Bool × Refusal)) (a b : Bool) (i j : Refusal) → first_of l ≡ Ok tt
    → first_of (l ++ ((a, i) ∷ (b, j) ∷ [])) ≡ first_of ((a, i) ∷ (b, j) ∷ [])
passed_on [] a b i j e = refl
passed_on (t ∷ l) a b i j e = go t.0 refl (passed_on l a b i j)
  where
    go : (c : Bool) → t.0 ≡ c → (first_of l ≡ Ok tt → first_of (l ++ ((a, i) ∷ (b, j) ∷ [])) ≡ first_of ((a, i) ∷ (b, j) ∷ []))
        → first_of ((t ∷ l) ++ ((a, i) ∷ (b, j) ∷ [])) ≡ first_of ((a, i) ∷ (b, j) ∷ [])
    go true p ih = refused-passed t.1 (rw p at e)
    go false p ih = rw p (ih (rw p at e))

refused-on : (l x : List (Bool × Refusal)) (r : Refusal) → first_of l ≡ Err r → first_of (l ++ x) ≡ Err r
refused-on [] x r e = refused-passed r (sym e)
refused-on (t ∷ l) x r e = go t.0 refl (refused-on l x r)
  where
    go : (c : Bool) → t.0 ≡ c → (first_of l ≡ Err r → first_of (l ++ x) ≡ Err r) → first_of ((t ∷ l) ++ x) ≡ Err r
    go true p ih = rw p (rw p at e)
    go false p ih = rw p (ih (rw p at e))

-- an unknown model doesn't pass
known : (m host wait time : ℕ) → first_of (register_numbers m host None wait time) ≡ Ok tt → ⊥
known m host wait time e = go (eqb m 0 || ltb 255 m) (ltb 255 host) e
  where
    go : (a b : Bool)
        → first_of ((a, refusal.MotorIdOutOfRange) ∷ (b, refusal.HostIdOutOfRange) ∷ (true, refusal.UnknownModel) ∷ (ltb longest_timeout wait, refusal.TimeoutTooLong)
        ∷ (ltb latest_time time, refusal.TimeOutOfRange) ∷ []) ≡ Ok tt → ⊥
    go true b e = refused-passed refusal.MotorIdOutOfRange e
    go false true e = refused-passed refusal.HostIdOutOfRange e
    go false false e = refused-passed refusal.UnknownModel e

-- nor does the id 0
nonzero : (m host : ℕ) (model : Option Model) (wait time : ℕ) → first_of (register_numbers m host model wait time) ≡ Ok tt → m ≡ 0 → ⊥
nonzero m host model wait time e q = refused-passed refusal.MotorIdOutOfRange (rw q at e)

module _ (st : Station) (s : List Place) (x : Shows st s) (m host : ℕ) (model : Model) (wait time : ℕ) (z : m ≡ 0 → ⊥) where
  abbrev Admits : Result ⊤ Refusal → Type 0
  Admits k = LeavesAs (admitted_in st m host model wait time) (admit k s m host (Some model) wait time)

  -- 4, or the first free place
  entered : held s m ≡ None → (b : Bool) → ltb (place_of st.motors 0) 8 ≡ b
      → LeavesAs (entered_in st (new_motor m host model wait time))
      (admit (first_of ((false, refusal.IdRegistered) ∷ (full s, refusal.StationFull) ∷ [])) s m host (Some model) wait time)
  unfolding entered_in admit enter
  entered q true p =
      let l : place_of st.motors 0 < length st.motors = rw x.eight (ltb→lt (place_of st.motors 0) 8 (rw p tt)) in
      rw (p, room_at st.motors s x.places l)
      (record {
        answer = refl;
        station =
            record {
              eight = length-set st.motors _ _ ∙ x.eight;
              places = add-as st.motors s m (lone_new m host model wait time) (new_motor m host model wait time) x.places l
                  (record { id = refl; registered = z; state = refl; readings = empty_holds });
            };
      })
  entered q false p =
      rw (p, full_at st.motors s x.places (rw x.eight (nltb→le (place_of st.motors 0) 8 (rw p tt)))) (record { answer = refl; station = x })

  admitted-means : Admits (first_of ((is_some (held s m), refusal.IdRegistered) ∷ (full s, refusal.StationFull) ∷ []))
  unfolding admitted_in at_place admit
  admitted-means = go (where-is st s x m)
    where
      go : Where st s x m → Admits (first_of ((is_some (held s m), refusal.IdRegistered) ∷ (full s, refusal.StationFull) ∷ []))
      go (absent p q) = rw (p, q) (entered q (ltb (place_of st.motors 0) 8) refl)
      go (present p v e l h q t) = rw (p, q) (record { answer = refl; station = x })

pub by_tests : (st : Station) (s : List Place) → Shows st s → (m host : ℕ) (model : Option Model) (wait time : ℕ) (k : Result ⊤ Refusal)
    → first_of (register_numbers m host model wait time) ≡ k
    → LeavesAs (register_by (registered_by k model) st m host wait time)
    (admit (first_of (register_numbers m host model wait time ++ ((is_some (held s m), refusal.IdRegistered) ∷ (full s, refusal.StationFull) ∷ []))) s m host model wait time)
unfolding admit
by_tests st s x m host (Some model) wait time (Ok tt) e =
    rw (passed_on (register_numbers m host (Some model) wait time) (is_some (held s m)) (full s) refusal.IdRegistered refusal.StationFull e)
    (admitted-means st s x m host model wait time (nonzero m host (Some model) wait time e))
by_tests st s x m host None wait time (Ok tt) e = absurd (known m host wait time e)
by_tests st s x m host model wait time (Err r) e =
    rw (refused-on (register_numbers m host model wait time) ((is_some (held s m), refusal.IdRegistered) ∷ (full s, refusal.StationFull) ∷ []) r e)
    (record { answer = refl; station = x })
