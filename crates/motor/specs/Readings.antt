-- Readings: what the 96 records mean, as lists; then what each function gives on any value. Definitions only.
use Rattle.std.specs.Prelude.{◌≡◌, ℕ, zero, suc, ◌+◌, ◌-◌, ◌<◌, ◌≤◌, Bool, true, false, cond, List, [], ◌∷◌, ◌++◌, map, length, replicate, pos, ◌==◌, nat_lt, slice_index_or, slice_set, Option, Some, None, Ok, Err}
use Rattle.codec.specs.declared.error.Refusal.TheVariants.{ReadingsFull}
use Rattle.codec.specs.declared.protocol.ParameterValue.TheVariants.{I8}
use Rattle.motor.specs.declared.engine.reading.Stored.{Stored}
use Rattle.motor.specs.declared.readings.Reading.{Reading}
use Rattle.motor.specs.declared.readings.Readings.{Readings}
use Rattle.motor.specs.declared.readings.Site.{Site}
use Rattle.motor.specs.declared.readings.Entry.{Entry}
use Rattle.motor.specs.declared.readings.Listing.{Listing}
use Rattle.motor.specs.declared.readings.PutResult.{PutResult}
use Rattle.motor.specs.Limits.{most_readings, most_records}

-- ---- what is held: entries in rising id

abbrev pub entry : ℕ → Stored → Entry
entry id s = record { id = id; held = s }

abbrev pub holds : ℕ → List Entry → Bool
holds id [] = false
holds id (e ∷ es) = cond (e.id == id) true (holds id es)

abbrev pub lookup : ℕ → List Entry → Option Stored
lookup id [] = None
lookup id (e ∷ es) = cond (e.id == id) (Some e.held) (lookup id es)

-- s kept for id: in the place of what was held for it, else before the first greater id
abbrev pub insert : ℕ → Stored → List Entry → List Entry
insert id s [] = entry id s ∷ []
insert id s (e ∷ es) = cond (nat_lt e.id id) (e ∷ insert id s es) (entry id s ∷ cond (e.id == id) es (e ∷ es))

abbrev pub remove : ℕ → List Entry → List Entry
remove id [] = []
remove id (e ∷ es) = cond (e.id == id) es (e ∷ remove id es)

-- no room is 15: 96 others held, id new
abbrev pub room : ℕ → List Entry → Bool
room id l = cond (holds id l) true (nat_lt (length l) most_readings)

-- every id of the list is above n
abbrev pub Above : ℕ → List Entry → Type 0
Above n [] = Unit {0}
Above n (e ∷ es) = (n < e.id) × Above n es

abbrev pub Rising : List Entry → Type 0
Rising [] = Unit {0}
Rising (e ∷ es) = Above e.id es × Rising es

-- ---- the two chains as lists

-- an entry, and the number of the record that holds it
abbrev pub Numbered : Type 0
Numbered = ℕ × Entry

abbrev pub numbers : List Numbered → List ℕ
numbers l = map (λ h. h.0) l

abbrev pub entries : List Numbered → List Entry
entries l = map (λ h. h.1) l

-- the records held, in rising id, and the numbers of the free ones, last freed first
pub record Lists : Type 0 where
  pub held : List Numbered
  pub free : List ℕ

-- n numbers from s
unfoldable pub run : ℕ → ℕ → List ℕ
run zero s = []
run (suc n) s = s ∷ run n (suc s)

-- at registration the free chain runs from 1 to 96
abbrev pub at_first : Lists
at_first = record { held = []; free = run most_readings 1 }

-- the record that holds id, 0 where none does
abbrev pub record_of : ℕ → List Numbered → ℕ
record_of id [] = 0
record_of id (h ∷ hs) = cond (h.1.id == id) h.0 (record_of id hs)

-- s kept for id: in the record that holds id, else in record n
abbrev pub placed_in : ℕ → ℕ → Stored → List Numbered → List Numbered
placed_in n id s [] = (n, entry id s) ∷ []
placed_in n id s (h ∷ hs) =
    cond (nat_lt h.1.id id) (h ∷ placed_in n id s hs)
    (cond (h.1.id == id) ((h.0, entry id s) ∷ hs) ((n, entry id s) ∷ h ∷ hs))

abbrev pub take_out : ℕ → List Numbered → List Numbered
take_out id [] = []
take_out id (h ∷ hs) = cond (h.1.id == id) hs (h ∷ take_out id hs)

-- a new id takes the first free record, where there is one
abbrev pub new_in : ℕ → Stored → List Numbered → List ℕ → Lists
new_in id s held [] = record { held = held; free = [] }
new_in id s held (f ∷ fs) = record { held = placed_in f id s held; free = fs }

abbrev pub put_in : ℕ → Stored → Lists → Lists
put_in id s ls =
    cond (holds id (entries ls.held)) (record { held = placed_in 0 id s ls.held; free = ls.free })
    (new_in id s ls.held ls.free)

-- the record that held id goes first on the free list
abbrev pub drop_in : ℕ → Lists → Lists
drop_in id ls =
    cond (holds id (entries ls.held)) (record { held = take_out id ls.held; free = record_of id ls.held ∷ ls.free })
    ls

-- ---- the records

-- what a record that holds nothing keeps
abbrev pub blank_stored : Stored
blank_stored = record { value = I8 (pos 0) }

abbrev pub no_entry : Entry
no_entry = entry 0 blank_stored

abbrev pub reading : Entry → ℕ → Reading
reading e n = record { id = e.id; held = e.held; next = n }

abbrev pub free_record : ℕ → Reading
free_record n = reading no_entry n

-- record i; a number past the end gives a blank one
abbrev pub rec_at : List Reading → ℕ → Reading
rec_at records i = slice_index_or records i (free_record 0)

abbrev pub next_at : List Reading → ℕ → ℕ
next_at records i = (rec_at records i).next

abbrev pub id_at : List Reading → ℕ → ℕ
id_at records i = (rec_at records i).id

abbrev pub entry_at : List Reading → ℕ → Entry
entry_at records i = entry (rec_at records i).id (rec_at records i).held

-- from record h, by next, through the records of the list, each with its entry, to 0
abbrev pub Chain : List Reading → ℕ → List Numbered → Type 0
Chain records h [] = h ≡ 0
Chain records h (j ∷ js) =
    (h ≡ j.0) × (1 ≤ j.0) × (j.0 ≤ most_readings) × (entry_at records j.0 ≡ j.1) × Chain records (next_at records j.0) js

-- how often k stands in the list
unfoldable pub times : ℕ → List ℕ → ℕ
times k [] = 0
times k (j ∷ js) = cond (j == k) (suc (times k js)) (times k js)

abbrev pub unused : ℕ → Numbered
unused k = (k, no_entry)

-- rs is good, and its two chains are these lists
pub record Rep (rs : Readings) (ls : Lists) : Type 0 where
  pub size : length rs.records ≡ most_records
  pub head : entry_at rs.records 0 ≡ no_entry
  pub held-chain : Chain rs.records (next_at rs.records 0) ls.held
  pub free-chain : Chain rs.records rs.free (map unused ls.free)
  pub once : (k : ℕ) → 1 ≤ k → k ≤ most_readings → times k (numbers ls.held) + times k ls.free ≡ 1
  pub rising : Rising (entries ls.held)

-- rs is good, and l is what it holds
pub record Holds (rs : Readings) (l : List Entry) : Type 0 where
  pub lists : Lists
  pub rep : Rep rs lists
  pub same : entries lists.held ≡ l

-- what a put answers where the two chains of rs are these lists
pub record Puts (rs : Readings) (ls : Lists) (id : ℕ) (s : Stored) (r : PutResult) : Type 0 where
  pub said : r.said ≡ cond (room id (entries ls.held)) (Ok tt) (Err ReadingsFull)
  pub rep : Rep r.readings (put_in id s ls)
  pub full : room id (entries ls.held) ≡ false → r.readings ≡ rs

-- a listing of l: its entries, then blank ones up to 96
abbrev pub listing : List Entry → Listing
listing l = record { count = length l; entries = l ++ replicate (most_readings - length l) no_entry }

-- ---- what the functions give, on any value

-- record k at registration: the head's next is 0, and so is that of record 96
abbrev pub first_record : ℕ → Reading
first_record k = free_record (cond (k == 0) 0 (cond (k == most_readings) 0 (k + 1)))

abbrev pub empty_readings : Readings
empty_readings = record { records = map first_record (run most_records 0); free = 1 }

-- record n comes before the place of id
abbrev pub before : List Reading → ℕ → ℕ → Bool
before records id n = cond (n == 0) false (cond (nat_lt most_readings n) false (nat_lt (id_at records n) id))

-- from record p, k steps at most, to the last record before the place of id
unfoldable pub seek_from : ℕ → List Reading → ℕ → ℕ → ℕ
seek_from zero records id p = p
seek_from (suc k) records id p =
    cond (before records id (next_at records p)) (seek_from k records id (next_at records p)) p

abbrev pub seek_of : Readings → ℕ → ℕ
seek_of rs id = seek_from most_readings rs.records id 0

-- the record after record p where it holds id, else 0
unfoldable pub holder_at : List Reading → ℕ → ℕ → ℕ
holder_at records id p =
    let n = next_at records p in
    cond (n == 0) 0 (cond (nat_lt most_readings n) 0 (cond (id_at records n == id) n 0))

abbrev pub holder_of : Readings → ℕ → ℕ
holder_of rs id = holder_at rs.records id (seek_of rs id)

-- the index of the record with this number, 1 to 96
unfoldable pub index_of : ℕ → Option ℕ
index_of n = cond (n == 0) None (cond (nat_lt most_readings n) None (Some n))

-- a record's index; the head's for a number that no record has
unfoldable pub record_index : ℕ → ℕ
record_index n = cond (nat_lt most_readings n) 0 n

-- the place of id: the record before it, and what is read of the records there
unfoldable pub site_of : Readings → ℕ → Site
site_of rs id =
    let next = next_at rs.records (seek_of rs id) in
    record {
      before = seek_of rs id;
      next = next;
      there = rec_at rs.records (record_index next);
      free = rs.free;
      after_free = next_at rs.records (record_index rs.free);
      head = rec_at rs.records 0;
    }

-- the index of the record at the place of id, where it holds id
unfoldable pub holder_in : Site → ℕ → Option ℕ
holder_in site id = cond (site.there.id == id) (index_of site.next) None

unfoldable pub found_at : Readings → ℕ → Option Stored
found_at rs n = cond (n == 0) None (Some (rec_at rs.records n).held)

abbrev pub find_of : Readings → ℕ → Option Stored
find_of rs id = found_at rs (holder_of rs id)

-- x stored as record i, and the first free record
abbrev pub stored_at : Readings → ℕ → Reading → ℕ → Readings
stored_at rs i x free = record { records = slice_set rs.records i x; free = free }

abbrev pub with_next : Readings → ℕ → ℕ → Readings
with_next rs i n =
    let r = rec_at rs.records i in
    stored_at rs i (reading (entry r.id r.held) n) rs.free

-- record f, the first free one, holds id and stands after record q
abbrev pub linked_at : Readings → ℕ → ℕ → ℕ → Stored → Readings
linked_at rs q f id s =
    with_next (stored_at rs f (reading (entry id s) (next_at rs.records q)) (next_at rs.records f)) q f

-- record n, which stood after record q, is the first free one
abbrev pub unlinked_at : Readings → ℕ → ℕ → Readings
unlinked_at rs q n = with_next (stored_at rs n (free_record rs.free) n) q (next_at rs.records n)

-- record n keeps its place
abbrev pub replaced_at : Readings → ℕ → ℕ → Stored → Readings
replaced_at rs n id s = stored_at rs n (reading (entry id s) (next_at rs.records n)) rs.free

abbrev pub kept : Readings → PutResult
kept rs = record { said = Ok tt; readings = rs }

abbrev pub full_of : Readings → PutResult
full_of rs = record { said = Err ReadingsFull; readings = rs }

unfoldable pub add_at : Readings → ℕ → Stored → ℕ → PutResult
add_at rs id s q =
    let f = rs.free in
    cond (f == 0) (full_of rs) (cond (nat_lt most_readings f) (full_of rs) (kept (linked_at rs q f id s)))

-- q is the record before the place of id, and n the one that holds it, 0 where none does
unfoldable pub put_at : Readings → ℕ → Stored → ℕ → ℕ → PutResult
put_at rs id s q n = cond (n == 0) (add_at rs id s q) (kept (replaced_at rs n id s))

abbrev pub put_of : Readings → ℕ → Stored → PutResult
put_of rs id s = put_at rs id s (seek_of rs id) (holder_of rs id)

unfoldable pub drop_at : Readings → ℕ → ℕ → Readings
drop_at rs q n = cond (n == 0) rs (unlinked_at rs q n)

abbrev pub drop_id : Readings → ℕ → Readings
drop_id rs id = drop_at rs (seek_of rs id) (holder_of rs id)

-- the entries along the chain from record h, k at most
unfoldable pub walk : ℕ → List Reading → ℕ → List Entry
walk zero records h = []
walk (suc k) records h =
    cond (h == 0) [] (cond (nat_lt most_readings h) [] (entry_at records h ∷ walk k records (next_at records h)))

abbrev pub listed_of : Readings → Listing
listed_of rs = listing (walk most_readings rs.records (next_at rs.records 0))
