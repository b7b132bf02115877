-- An answer's number and values give the answer back. Assumes nothing.
use Rattle.std.proofs.Common.{◌≡◌, ℕ, zero, suc, Bool, true, false, cond, inl, inr, eqb, ltb, List, ℤ, sym, refl, ap, ◌∙◌, Option, Some, None, Result, Ok, Err}
use Rattle.std.specs.Prelude.{⊤}
use Rattle.codec.specs.declared.model.Model.{Model}
use Rattle.codec.specs.declared.error.Refusal.{Refusal}
use Rattle.codec.specs.Refusals.{number_of, values_of, listed, last_read}
use Rattle.codec.specs.Numbers.{answer_of, checked_of, last_of}
use Rattle.codec.proofs.RefusalNumbers.{checked-back}
use Rattle.motor.specs.declared.engine.command.Said.{Said}
use Rattle.motor.specs.declared.engine.command.Said.TheVariants as said
use Rattle.motor.specs.declared.engine.reading.Stored.{Stored}
use Rattle.motor.specs.declared.readings.Readings.{Readings}
use Rattle.motor.specs.declared.readings.PutResult.{PutResult}
use Rattle.motor.specs.Limits.{most_readings}
use Rattle.motor.specs.Readings.{kept, full_of, linked_at, replaced_at, seek_of, holder_of, add_at, put_at, put_of}
use Rattle.motor.specs.Numbers.{said_row, said_of, admission_row, admission_of, put_row, put_answer_of, IsPutAnswer}

module _ {A : Type 0} (good : A) (refused : Refusal → A) where
  -- an answer by a test's
  by-test : Result ⊤ Refusal → A
  by-test (Ok tt) = good
  by-test (Err r) = refused r

  same_number : (n : ℕ) (values : List ℤ) → answer_of good refused n values ≡ by-test (checked_of n values)
  unfolding by-test
  same_number zero values = refl
  same_number (suc n) values = refl

  back : (r : Refusal) → answer_of good refused (number_of r) (values_of r) ≡ refused r
  unfolding by-test
  back r = same_number (number_of r) (values_of r) ∙ ap by-test (checked-back (Err r))

pub said-back : (a : Said) → said_of a (said_row a).0 (said_row a).1 ≡ a
said-back (said.Sent due) = refl
said-back (said.Waiting due) = refl
said-back (said.Finished r) = refl
said-back (said.FinishedWith r) = refl
said-back (said.Refused r) = back _ said.Refused r

pub admission-back : (a : Result Model Refusal) → admission_of a (admission_row a).0 (admission_row a).1 ≡ a
admission-back (Ok model) = refl
admission-back (Err r) = back _ Err r

-- of whatever readings, a put answers one of the two
pub put-answers : (rs : Readings) (id : ℕ) (s : Stored) → IsPutAnswer (put_of rs id s).said
unfolding put_at add_at
put-answers rs id s = go (eqb (holder_of rs id) 0) (eqb rs.free 0) (ltb most_readings rs.free)
  where
    linked : PutResult
    linked = kept (linked_at rs (seek_of rs id) rs.free id s)

    replaced : PutResult
    replaced = kept (replaced_at rs (holder_of rs id) id s)

    go : (new none past : Bool) → IsPutAnswer (cond new (cond none (full_of rs) (cond past (full_of rs) linked)) replaced).said
    go true true past = inr refl
    go true false true = inr refl
    go true false false = inl refl
    go false none past = inl refl

pub put_back : (a : Result ⊤ Refusal) → IsPutAnswer a → put_answer_of (put_row a) ≡ a
put_back a (inl e) = ap (λ (x : Result ⊤ Refusal). put_answer_of (put_row x)) e ∙ sym e
put_back a (inr e) = ap (λ (x : Result ⊤ Refusal). put_answer_of (put_row x)) e ∙ sym e

-- so of each put the number says which
pub put-said-back : (rs : Readings) (id : ℕ) (s : Stored) → put_answer_of (put_row (put_of rs id s).said) ≡ (put_of rs id s).said
put-said-back rs id s = put_back _ (put-answers rs id s)

-- the mode that 18 carries
pub last-back : (m : Option ℤ) → last_of (listed (last_read m)) ≡ m
last-back None = refl
last-back (Some value) = refl
