-- Readings as a caller uses them: `Holds rs l` says that rs is good and holds l. Assumes nothing.
use Rattle.std.proofs.Common.{◌≡◌, ℕ, ◌+◌, ◌-◌, ◌≤◌, Bool, true, false, cond, ltb, List, [], ◌∷◌, length, take, replicate, sym, refl, ap, ◌∙◌, subst, arith, le-ltb, lt-ltb, Ok, Err}
use lib.Seq.{take-append_seam}
use Rattle.codec.specs.declared.error.Refusal.TheVariants.{ReadingsFull}
use Rattle.motor.specs.declared.engine.reading.Stored.{Stored}
use Rattle.motor.specs.declared.readings.Readings.{Readings}
use Rattle.motor.specs.declared.readings.Entry.{Entry}
use Rattle.motor.specs.Limits.{most_readings}
use Rattle.motor.specs.Readings.{holds, lookup, insert, remove, room, Rising, Numbered, entries, Lists, at_first, record_of, placed_in, take_out, new_in, put_in, drop_in, no_entry, Rep, Holds, Puts, listing, empty_readings, find_of, put_of, drop_id, listed_of}
use Rattle.motor.proofs.Entries.{remove-none, entries-placed, entries-taken}
use Rattle.motor.proofs.Links.{all-entries}
use Rattle.motor.proofs.ReadingsMeaning.{find-rep, put-rep, drop_rep, walk-rep}
use Rattle.motor.proofs.FirstChain.{empty-rep}

-- ---- the lists with numbers do what the plain ones do

pub entries-drop : (id : ℕ) (ls : Lists) → entries (drop_in id ls).held ≡ remove id (entries ls.held)
entries-drop id ls = go (holds id (entries ls.held)) refl
  where
    go : (b : Bool) → holds id (entries ls.held) ≡ b
        → entries (cond b (record { held = take_out id ls.held; free = record_of id ls.held ∷ ls.free }) ls).held ≡ remove id (entries ls.held)
    go true e = entries-taken id ls.held
    go false e = sym (remove-none id (entries ls.held) e)

new-entries : (id : ℕ) (s : Stored) (held : List Numbered) (free : List ℕ) → length (entries held) + length free ≡ most_readings
    → entries (new_in id s held free).held ≡ cond (ltb (length (entries held)) most_readings) (insert id s (entries held)) (entries held)
new-entries id s held [] n = rw (le-ltb (length (entries held)) most_readings (omega arith))
new-entries id s held (f ∷ fs) n = rw (lt-ltb (length (entries held)) most_readings (omega arith)) (entries-placed f id s held)

pub entries-put : (rs : Readings) (ls : Lists) → Rep rs ls → (id : ℕ) (s : Stored)
    → entries (put_in id s ls).held ≡ cond (room id (entries ls.held)) (insert id s (entries ls.held)) (entries ls.held)
entries-put rs ls x id s = go (holds id (entries ls.held))
  where
    go : (b : Bool) → entries (cond b (record { held = placed_in 0 id s ls.held; free = ls.free }) (new_in id s ls.held ls.free)).held
        ≡ cond (cond b true (ltb (length (entries ls.held)) most_readings)) (insert id s (entries ls.held)) (entries ls.held)
    go true = entries-placed 0 id s ls.held
    go false = new-entries id s ls.held ls.free (all-entries rs ls.held ls.free x)

-- ---- the functions on good readings

pub empty_holds : Holds empty_readings []
empty_holds = record { lists = at_first; rep = empty-rep; same = refl }

module _ (rs : Readings) (l : List Entry) (x : Holds rs l) where
  pub held-rising : Rising l
  held-rising = subst Rising x.same x.rep.rising

  pub held-most : length l ≤ most_readings
  held-most = omega (arith, all-entries rs x.lists.held x.lists.free x.rep, ap length x.same)

  pub find-holds : (id : ℕ) → find_of rs id ≡ lookup id l
  find-holds id = find-rep rs x.lists.held x.lists.free x.rep id ∙ ap (lookup id) x.same

  puts : (id : ℕ) (s : Stored) → Puts rs x.lists id s (put_of rs id s)
  puts id s = put-rep rs x.lists.held x.lists.free x.rep id s

  pub put_holds : (id : ℕ) (s : Stored) → room id l ≡ true → ((put_of rs id s).said ≡ Ok tt) × Holds (put_of rs id s).readings (insert id s l)
  put_holds id s h =
      let k : room id (entries x.lists.held) ≡ true = ap (room id) x.same ∙ h in (
        (puts id s).said ∙ rw k,
        record { lists = put_in id s x.lists; rep = (puts id s).rep; same = entries-put rs x.lists x.rep id s ∙ rw k (ap (insert id s) x.same) },
      )

  pub put_full : (id : ℕ) (s : Stored) → room id l ≡ false → ((put_of rs id s).said ≡ Err ReadingsFull) × ((put_of rs id s).readings ≡ rs)
  put_full id s h =
      let k : room id (entries x.lists.held) ≡ false = ap (room id) x.same ∙ h in
      ((puts id s).said ∙ rw k, (puts id s).full k)

  pub drop-holds : (id : ℕ) → Holds (drop_id rs id) (remove id l)
  drop-holds id =
      record {
        lists = drop_in id x.lists;
        rep = drop_rep rs x.lists.held x.lists.free x.rep id;
        same = entries-drop id x.lists ∙ ap (remove id) x.same;
      }

  pub listing-holds : listed_of rs ≡ listing l
  listing-holds = ap listing (walk-rep rs x.lists x.rep ∙ x.same)

-- a listing loses nothing
pub listing-all : (l : List Entry) → take (listing l).count (listing l).entries ≡ l
listing-all l = take-append_seam l (replicate (most_readings - length l) no_entry)

-- rs holds one list only
pub held_one : (rs : Readings) (l m : List Entry) → Holds rs l → Holds rs m → l ≡ m
held_one rs l m x y = sym (walk-rep rs x.lists x.rep ∙ x.same) ∙ walk-rep rs y.lists y.rep ∙ y.same
