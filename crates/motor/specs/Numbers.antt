-- Numbers a caller may get: tests with their numbers in the paper's order, of which the first that applies answers. Definitions only.
use Rattle.std.specs.Prelude.{ℕ, ◌≡◌, ◌⊎◌, Bool, cond, List, [], ◌∷◌, ℤ, Result, Ok, Err, ⊤}
use Rattle.codec.specs.declared.model.Model.{Model}
use Rattle.codec.specs.declared.error.Refusal.{Refusal}
use Rattle.codec.specs.declared.error.Refusal.TheVariants.{ReadingsFull}
use Rattle.codec.specs.Refusals.{number_of, values_of}
use Rattle.codec.specs.Numbers.{refusal_of, answer_of}
use Rattle.motor.specs.declared.engine.command.Said.{Said}
use Rattle.motor.specs.declared.engine.command.Said.TheVariants as said

-- the refusal of a number that carries no value
abbrev pub plain : ℕ → Refusal
plain n = refusal_of n []

-- tests, each with its number, as tests with their refusals; the values are those of a number that carries some
abbrev pub numbered : List ℤ → List (Bool × ℕ) → List (Bool × Refusal)
numbered values [] = []
numbered values (test ∷ tests) = (test.0, refusal_of test.1 values) ∷ numbered values tests

abbrev pub first_of : List (Bool × Refusal) → Result ⊤ Refusal
first_of [] = Ok tt
first_of (test ∷ tests) = cond test.0 (Err test.1) (first_of tests)

-- the same of tests whose numbers carry no value
abbrev pub first_number : List (Bool × ℕ) → Result ⊤ Refusal
first_number tests = first_of (numbered [] tests)

-- ---- an answer's number and values, and the answer of them; good is what is answered where the number is 0

abbrev pub said_row : Said → ℕ × List ℤ
said_row (said.Sent due) = (0, [])
said_row (said.Waiting due) = (0, [])
said_row (said.Finished r) = (0, [])
said_row (said.FinishedWith r) = (0, [])
said_row (said.Refused r) = (number_of r, values_of r)

abbrev pub said_of : Said → ℕ → List ℤ → Said
said_of good n values = answer_of good said.Refused n values

abbrev pub admission_row : Result Model Refusal → ℕ × List ℤ
admission_row (Ok model) = (0, [])
admission_row (Err r) = (number_of r, values_of r)

abbrev pub admission_of : Result Model Refusal → ℕ → List ℤ → Result Model Refusal
admission_of good n values = answer_of good Err n values

-- a put: 15 where there is no room
abbrev pub put_row : Result ⊤ Refusal → ℕ
put_row (Ok tt) = 0
put_row (Err r) = 15

abbrev pub put_answer_of : ℕ → Result ⊤ Refusal
put_answer_of n = answer_of (Ok tt) (λ r. Err ReadingsFull) n []

-- what a put answers: that the value is kept, or that there is no room
abbrev pub IsPutAnswer : Result ⊤ Refusal → Type 0
IsPutAnswer a = (a ≡ Ok tt) ⊎ (a ≡ Err ReadingsFull)
