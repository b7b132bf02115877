-- Lists of tests joined: the first that applies is the first of the one, else the first of the other. Assumes nothing.
use Rattle.std.proofs.Common.{◌≡◌, ℕ, Bool, true, false, List, [], ◌∷◌, ◌++◌, refl, ap, ◌∙◌, Option, Result}
use Rattle.std.specs.Prelude.{⊤}
use Rattle.codec.specs.declared.model.Model.{Model}
use Rattle.codec.specs.declared.error.Refusal.{Refusal}
use Rattle.motor.specs.Calls.{or_else, id_numbers, model_numbers, registered_by, registration_of}
use Rattle.motor.specs.Numbers.{first_of}

pub first-append : (a b : List (Bool × Refusal)) → first_of (a ++ b) ≡ or_else (first_of a) (first_of b)
first-append [] b = refl
first-append ((true, r) ∷ a) b = refl
first-append ((false, r) ∷ a) b = first-append a b

-- a registration, by what its first tests say
pub registered : (id host : ℕ) (model : Option Model) (wait now : ℕ) (k : Result ⊤ Refusal) → first_of (id_numbers id host) ≡ k
    → registration_of id host model wait now ≡ registered_by (or_else k (first_of (model_numbers model wait now))) model
registered id host model wait now k e =
    ap (λ (x : Result ⊤ Refusal). registered_by x model) (first-append (id_numbers id host) (model_numbers model wait now))
    ∙ ap (λ (x : Result ⊤ Refusal). registered_by (or_else x (first_of (model_numbers model wait now))) model) e
