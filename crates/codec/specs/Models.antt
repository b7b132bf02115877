-- The eight models: their names and limits. Definitions only.
use Rattle.std.specs.Prelude.{ℕ, Bool, true, false, cond, ◌&&◌, List, [], ◌∷◌, eqb, ℤ, pos, get_or, Float, Option, Some, None, Result, Ok, Err}
use Rattle.std.specs.Float.{binary32}
use Rattle.std.specs.Float.Ieee.{of_bits}
use Rattle.codec.specs.declared.error.Refusal.{Refusal}
use Rattle.codec.specs.declared.model.Model.{Model}
use Rattle.codec.specs.declared.model.Model.TheVariants.{Rs00, Rs01, Rs02, Rs03, Rs04, Rs05, Rs05el, Rs06}
use Rattle.codec.specs.declared.model.Limits.{Limits}
use Rattle.codec.specs.Refusals.{number_of}
use Rattle.codec.specs.Numbers.{natural_at, refusal_of, answer_of}
use Rattle.codec.specs.Motion.{whole}

unfoldable pub same_bytes : List ℕ → List ℕ → Bool
same_bytes [] [] = true
same_bytes [] (b ∷ t) = false
same_bytes (a ∷ s) [] = false
same_bytes (a ∷ s) (b ∷ t) = eqb a b && same_bytes s t

-- "rs-" and what follows, in ASCII
abbrev pub rs : List ℕ → List ℕ
rs rest = 0x72 ∷ 0x73 ∷ 0x2D ∷ rest

abbrev pub model_text : Model → List ℕ
model_text Rs00 = rs (0x30 ∷ 0x30 ∷ [])
model_text Rs01 = rs (0x30 ∷ 0x31 ∷ [])
model_text Rs02 = rs (0x30 ∷ 0x32 ∷ [])
model_text Rs03 = rs (0x30 ∷ 0x33 ∷ [])
model_text Rs04 = rs (0x30 ∷ 0x34 ∷ [])
model_text Rs05 = rs (0x30 ∷ 0x35 ∷ [])
model_text Rs05el = rs (0x30 ∷ 0x35 ∷ 0x65 ∷ 0x6C ∷ [])
model_text Rs06 = rs (0x30 ∷ 0x36 ∷ [])

abbrev pub all_models : List Model
all_models = Rs00 ∷ Rs01 ∷ Rs02 ∷ Rs03 ∷ Rs04 ∷ Rs05 ∷ Rs05el ∷ Rs06 ∷ []

-- an answer's number and values: 0 and the model's place, or 3, model unknown
abbrev pub model_place : Model → ℕ
model_place Rs00 = 0
model_place Rs01 = 1
model_place Rs02 = 2
model_place Rs03 = 3
model_place Rs04 = 4
model_place Rs05 = 5
model_place Rs05el = 6
model_place Rs06 = 7

abbrev pub model_named_row : Option Model → ℕ × List ℤ
model_named_row (Some m) = (0, pos (model_place m) ∷ [])
model_named_row None = (3, [])

abbrev pub model_named_of : ℕ → List ℤ → Option Model
model_named_of n values = answer_of (Some (get_or all_models (natural_at values 0) Rs00)) (λ r. None) n values

-- the first of the models that has exactly this name
unfoldable pub named_among : List ℕ → List Model → Option Model
named_among name [] = model_named_of 3 []
named_among name (m ∷ models) = cond (same_bytes name (model_text m)) (Some m) (named_among name models)

abbrev pub model_named : List ℕ → Option Model
model_named name = named_among name all_models

-- ---- limits per model: velocity, torque, kp and kd. The position's is 4π, 41490FDB, for each

abbrev pub limits_to : Float → Float → Float → Float → Limits
limits_to velocity torque kp kd =
    record { position = of_bits binary32 0x41490FDB; velocity = velocity; torque = torque; kp = kp; kd = kd }

abbrev pub limits_of : Model → Limits
limits_of Rs00 = limits_to (whole 33) (whole 14) (whole 500) (whole 5)
limits_of Rs01 = limits_to (whole 44) (whole 17) (whole 500) (whole 5)
limits_of Rs02 = limits_to (whole 44) (whole 17) (whole 500) (whole 5)
limits_of Rs03 = limits_to (whole 20) (whole 60) (whole 5000) (whole 100)
limits_of Rs04 = limits_to (whole 15) (whole 120) (whole 5000) (whole 100)
limits_of Rs05 = limits_to (whole 50) (of_bits binary32 0x40B00000) (whole 500) (whole 5)
limits_of Rs05el = limits_to (whole 50) (whole 6) (whole 500) (whole 5)
limits_of Rs06 = limits_to (whole 50) (whole 36) (whole 5000) (whole 100)

-- an unknown model is 3
abbrev pub limits_by : Option Model → Result Limits Refusal
limits_by (Some m) = Ok (limits_of m)
limits_by None = Err (refusal_of 3 [])

-- its number; the values of 0 are the limits
abbrev pub model_limits_number : Result Limits Refusal → ℕ
model_limits_number (Ok limits) = 0
model_limits_number (Err r) = number_of r

abbrev pub model_limits : List ℕ → Result Limits Refusal
model_limits name = limits_by (model_named name)
