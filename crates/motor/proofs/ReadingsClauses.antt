-- A contract's second clause from its first. Assumes nothing.
use Rattle.std.proofs.Common.{◌≡◌, ℕ, List, sym, ◌∙◌, subst, Option}
use Rattle.motor.specs.declared.engine.reading.Stored.{Stored}
use Rattle.motor.specs.declared.readings.Readings.{Readings}
use Rattle.motor.specs.declared.readings.Entry.{Entry}
use Rattle.motor.specs.declared.readings.PutResult.{PutResult}
use Rattle.motor.specs.Readings.{lookup, Lists, drop_in, Rep, Holds, Puts, find_of, put_of, drop_id}
use Rattle.motor.proofs.ReadingsMeaning.{put-rep, drop_rep}
use Rattle.motor.proofs.ReadingsHeld.{find-holds}

pub find-both : (rs : Readings) (id : ℕ) (r : Option Stored) → r ≡ find_of rs id → (r ≡ find_of rs id) × ((l : List Entry) → Holds rs l → r ≡ lookup id l)
find-both rs id r e = (e, λ l x. e ∙ find-holds rs l x id)

pub put_both : (rs : Readings) (id : ℕ) (s : Stored) (r : PutResult) → r ≡ put_of rs id s → (r ≡ put_of rs id s) × ((ls : Lists) → Rep rs ls → Puts rs ls id s r)
put_both rs id s r e = (e, λ ls x. subst (λ (t : PutResult). Puts rs ls id s t) (sym e) (put-rep rs ls.held ls.free x id s))

pub drop-both : (rs : Readings) (id : ℕ) (r : Readings) → r ≡ drop_id rs id → (r ≡ drop_id rs id) × ((ls : Lists) → Rep rs ls → Rep r (drop_in id ls))
drop-both rs id r e = (e, λ ls x. subst (λ (t : Readings). Rep t (drop_in id ls)) (sym e) (drop_rep rs ls.held ls.free x id))
