-- The parts of a motor behind a reference: its id, its state, a record of its readings, a record's next, and the first free record.
use mathlib.Core.Path.{◌≡◌, refl, sym, ◌∙◌, ap, subst}
use Prim.Native.Nat.{ℕ, ◌+◌, ◌*◌, ◌^◌, ◌<◌}
use native.Mathlib.Omega.{arith}
use mathlib.Core.List.{List, [], ◌∷◌, map}
use lib.ListN.{length, set, length-map, get_or-map}
use lib.Seq.{map-set}
use seplogic.Ra.Ura.{Ura}
use mir.Syntax.{w16, ty_array, field}
use mir.Raw.{raw as raw_ty}
use mir.Val.{Val, vint}
use base.Fml.{Share, fat}
use types.Logic.{Logic}
use types.Kit.{Go, ‵, ! }
use types.Run.{stop, fld}
use types.Part.{Part, sub}
use denote.Laws.{Is}
use denote.Array.{Array, array_val}
use denote.Index.{place}
use denote.Struct.Field.{array_field}
use denote.Struct.Declared.{field as the_field}
use denote.Struct.Laws as LL
use Rattle.motor.specs.declared.motor.Motor.{Motor}
use Rattle.motor.specs.declared.motor.State.{State}
use Rattle.motor.specs.declared.readings.Reading.{Reading}
use Rattle.motor.specs.declared.readings.Readings.{Readings}
use Rattle.motor.specs.Limits.{most_records}
use Rattle.motor.specs.Readings.{free_record, rec_at, with_next, stored_at}
use Rattle.motor.specs.contracts.motor.Motor as motor-type
use Rattle.motor.proofs.motor.Motor.TheLaws as motor-laws
use Rattle.motor.specs.contracts.motor.State as state-type
use Rattle.motor.proofs.motor.State.TheLaws as state-laws
use Rattle.motor.specs.contracts.readings.Readings as readings-type
use Rattle.motor.proofs.readings.Readings.TheLaws as readings-laws
use Rattle.motor.specs.contracts.readings.Reading as record-type
use Rattle.motor.proofs.readings.Reading.TheLaws as record-laws
use Rattle.walks.proofs.ThinWalk as thin
use Rattle.walks.proofs.Lenses as lens
use Rattle.walks.proofs.Structs as structs

abbrev pub motor : thin.Held
motor = thin.struct motor-type.the_type motor-laws.the_laws

abbrev pub state : thin.Held
state = thin.struct state-type.the_type state-laws.the_laws

abbrev pub reading : thin.Held
reading = thin.struct record-type.the_type record-laws.the_laws

abbrev pub ident : Motor → ℕ
ident m = m.state.motor_id

abbrev pub with-state : Motor → State → Motor
with-state m s = record { state = s; readings = m.readings }

abbrev pub with-record : Motor → ℕ → Reading → Motor
with-record m k x = record { state = m.state; readings = stored_at m.readings k x m.readings.free }

-- a record with another next
abbrev on-to : Reading → ℕ → Reading
on-to x n = record { id = x.id; held = x.held; next = n }

abbrev pub with-next : Motor → ℕ → ℕ → Motor
with-next m k n = record { state = m.state; readings = with_next m.readings k n }

abbrev pub with-free : Motor → ℕ → Motor
with-free m n = record { state = m.state; readings = record { records = m.readings.records; free = n } }

-- ---- bytes: of a motor and of a record; where the readings, a record's next and the first free record lie

abbrev motor_size : ℕ
motor_size = 1808

abbrev readings_at : ℕ
readings_at = 248

abbrev pub record_size : ℕ
record_size = 16

abbrev next_at : ℕ
next_at = 12

abbrev free_at : ℕ
free_at = record_size * most_records

pub far : (i : ℕ) → i < 8 → i * motor_size < 2 ^ 64
far i l = omega (arith, l)

pub small : (i : ℕ) → i < 8 → i < 2 ^ 64
small i l = omega (arith, l)

pub size_fits : motor_size < 2 ^ 64
size_fits = omega arith

pub far-row : (k : ℕ) → k < most_records → k * record_size < 2 ^ 64
far-row k l = omega (arith, l)

pub small_row : (k : ℕ) → k < most_records → k < 2 ^ 64
small_row k l = omega (arith, l)

-- ---- machine values

abbrev readings-val : Motor → Val
readings-val m = LL.val readings-type.the_type readings-laws.the_laws m.readings

-- the machine values of the records
abbrev cells : Motor → List Val
cells m = map reading.val m.readings.records

-- as Structs has them
as-cells : (xs : List Reading) → structs.cells record-type.the_type record-laws.the_laws most_records xs ≡ map reading.val xs
as-cells [] = refl
as-cells (x ∷ xs) = ap (λ (us : List Val). reading.val x ∷ us) (as-cells xs)

-- a motor's value with other records
abbrev with-cells : Motor → List Val → Val
with-cells m us = lens.with-field (motor.val m) 1 (lens.with-field (readings-val m) 0 (array_val us))

-- what is known of a motor's parts, and what makes a motor of them
abbrev Known : Motor → Type 0
Known m = Is (thin.row motor) m (motor.val m ∷ [])

abbrev Records : Readings → Type 0
Records rs = Is (Array (thin.row reading) most_records) rs.records (array_val (map reading.val rs.records) ∷ [])

state-is : (m : Motor) → Known m → Is (thin.row state) m.state (state.val m.state ∷ [])
state-is m is = (LL.owed motor-type.the_type motor-laws.the_laws m _ is).0

records-are : (m : Motor) → Known m → Records m.readings
records-are m is = (LL.owed readings-type.the_type readings-laws.the_laws m.readings _ (LL.owed motor-type.the_type motor-laws.the_laws m _ is).1.0).0

free-is : (m : Motor) → Known m → Is (thin.row (thin.uint w16)) m.readings.free (vint w16 m.readings.free ∷ [])
free-is m is = (LL.owed readings-type.the_type readings-laws.the_laws m.readings _ (LL.owed motor-type.the_type motor-laws.the_laws m _ is).1.0).1.0

known : (m : Motor) → Is (thin.row state) m.state (state.val m.state ∷ []) → Records m.readings → Is (thin.row (thin.uint w16)) m.readings.free (vint w16 m.readings.free ∷ []) → Known m
known m s rs f = LL.owes motor-type.the_type motor-laws.the_laws m (s, (LL.owes readings-type.the_type readings-laws.the_laws m.readings (rs, (f, tt)), tt))

-- the records as a field of a struct, as Structs has them
as-field : (rs : Readings) → Records rs → Is (array_field (the_field record-type.the_type) most_records).row (map (record-type.the_type).to rs.records) (array_val (map reading.val rs.records) ∷ [])
as-field rs is = structs.in_field record-type.the_type record-laws.the_laws most_records rs.records _ is

-- a record is stored
record-put : (m : Motor) (k : ℕ) (x : Reading) → with-cells m (set (cells m) k (reading.val x)) ≡ motor.val (with-record m k x)
record-put m k x = ap (λ (us : List Val). with-cells m us) (sym (map-set reading.val m.readings.records k x))

records-set : (m : Motor) (k : ℕ) (x : Reading) → Records m.readings → Is (thin.row reading) x (reading.val x ∷ []) → Records (with-record m k x).readings
records-set m k x rs x-is =
    subst (λ (us : List Val). Is (Array (thin.row reading) most_records) (set m.readings.records k x) (array_val us ∷ [])) (as-cells (set m.readings.records k x))
    (structs.out-of-field record-type.the_type record-laws.the_laws most_records (set m.readings.records k x) _
    (structs.set_is record-type.the_type record-laws.the_laws most_records m.readings.records _ k x (as-field m.readings rs) x-is))

record-made : (m : Motor) (k : ℕ) (x : Reading) → Known m → Is (thin.row reading) x (reading.val x ∷ []) → Known (with-record m k x)
record-made m k x is x-is = known (with-record m k x) (state-is m is) (records-set m k x (records-are m is) x-is) (free-is m is)

-- a record that goes on to n
next-is : (x : Reading) (n : ℕ) → Is (thin.row reading) x (reading.val x ∷ []) → Is (thin.row (thin.uint w16)) n (vint w16 n ∷ []) → Is (thin.row reading) (on-to x n) (reading.val (on-to x n) ∷ [])
next-is x n x-is n-is = let p = LL.owed record-type.the_type record-laws.the_laws x _ x-is in LL.owes record-type.the_type record-laws.the_laws (on-to x n) (p.0, (p.1.0, (n-is, tt)))

module _ {M : Type 1} {𝓤 : Ura M} (𝓛 : Logic 𝓤) where
  -- ---- the id, the state, the whole motor, the first free record

  pub sight : lens.Sight 𝓛 motor (thin.uint w16) (field 0 ∷ field 0 ∷ []) ident
  sight = record {
    off = λ o. o + 0 + 0;
    upd = λ h u. lens.with-field (motor.val h) 0 (lens.with-field (state.val h.state) 0 u);
    way = λ b o. fld ! refl (fld ! refl (stop !));
    cell = λ q b o h. sub ! 0 refl (sub ! 0 refl (lens.whole-raw ! {τ = motor.ty} {v = motor.val h}));
    got = λ h is. (LL.owed state-type.the_type state-laws.the_laws h.state _ (state-is h is)).0;
  }

  pub states : lens.Lens 𝓛 motor state (field 0 ∷ []) (λ m. m.state) with-state
  states = record {
    sight = record {
      off = λ o. o + 0;
      upd = λ h u. lens.with-field (motor.val h) 0 u;
      way = λ b o. fld ! refl (stop !);
      cell = λ q b o h. sub ! 0 refl (lens.whole-raw ! {τ = motor.ty} {v = motor.val h});
      got = state-is;
    };
    put_is = λ h x. refl;
    made = λ h x is x-is. known (with-state h x) x-is (records-are h is) (free-is h is);
  }

  pub all : lens.Lens 𝓛 motor motor [] (λ h. h) (λ h z. z)
  all = record {
    sight = record { off = λ o. o; upd = λ h u. u; way = λ b o. stop !; cell = λ q b o h. lens.whole-raw !; got = λ h is. is };
    put_is = λ h x. refl;
    made = λ h x is x-is. x-is;
  }

  pub frees : lens.Lens 𝓛 motor (thin.uint w16) (field 1 ∷ field 1 ∷ []) (λ m. m.readings.free) with-free
  frees = record {
    sight = record {
      off = λ o. o + readings_at + free_at;
      upd = λ h u. lens.with-field (motor.val h) 1 (lens.with-field (readings-val h) 1 u);
      way = λ b o. fld ! refl (fld ! refl (stop !));
      cell = λ q b o h. sub ! 1 refl (sub ! 1 refl (lens.whole-raw ! {τ = motor.ty} {v = motor.val h}));
      got = free-is;
    };
    put_is = λ h x. refl;
    made = λ h x is x-is. known (with-free h x) (state-is h is) (records-are h is) x-is;
  }

  -- ---- a record, and a record's next

  -- record k of a motor's cell
  record-cell : (q : Share) (b o : ℕ) (h : Motor) (k : ℕ) → Known h → k < most_records
      → Part {𝓤 = 𝓤} (Go {0}) 𝓛 (‵ (fat q (raw_ty motor.ty) b o (motor.val h))) q reading.ty b (place record_size (o + readings_at + 0) k) (reading.val (rec_at h.readings.records k)) (λ u. ‵ (fat q (raw_ty motor.ty) b o (with-cells h (set (cells h) k u))))
  record-cell q b o h k is l =
      let len : length (cells h) ≡ most_records = length-map h.readings.records reading.val ∙ (records-are h is).1.0.1 in
      subst (λ (v : Val). Part {𝓤 = 𝓤} (Go {0}) 𝓛 (‵ (fat q (raw_ty motor.ty) b o (motor.val h))) q reading.ty b (place record_size (o + readings_at + 0) k) v (λ u. ‵ (fat q (raw_ty motor.ty) b o (with-cells h (set (cells h) k u)))))
      (get_or-map reading.val h.readings.records k (free_record 0))
      (lens.element 𝓛 q reading.ty b (reading.val (free_record 0)) most_records (cells h) k len (subst (λ (m : ℕ). k < m) (sym len) l) (sub ! 0 refl (sub ! 1 refl (lens.whole-raw ! {τ = motor.ty} {v = motor.val h}))))

  pub ones : lens.Rows 𝓛 motor reading reading.ty record_size most_records (field 1 ∷ field 0 ∷ []) [] with-record
  ones = record {
    base = λ o. o + readings_at + 0;
    rest = λ o. o;
    array = ty_array reading.ty most_records;
    old = λ h k. reading.val (rec_at h.readings.records k);
    upd = λ h k u. with-cells h (set (cells h) k u);
    way = λ b o. fld ! refl (fld ! refl (stop !));
    on = λ b o. stop !;
    cell = record-cell;
    put_is = record-put;
    made = λ h k x l is x-is. record-made h k x is x-is;
  }

  pub links : lens.Rows 𝓛 motor (thin.uint w16) reading.ty record_size most_records (field 1 ∷ field 0 ∷ []) (field 2 ∷ []) with-next
  links = record {
    base = λ o. o + readings_at + 0;
    rest = λ o. o + next_at;
    array = ty_array reading.ty most_records;
    old = λ h k. vint w16 (rec_at h.readings.records k).next;
    upd = λ h k u. with-cells h (set (cells h) k (lens.with-field (reading.val (rec_at h.readings.records k)) 2 u));
    way = λ b o. fld ! refl (fld ! refl (stop !));
    on = λ b o. fld ! refl (stop !);
    cell = λ q b o h k is l. sub ! 2 refl (record-cell q b o h k is l);
    put_is = λ h k x. record-put h k (on-to (rec_at h.readings.records k) x);
    made = λ h k x l is x-is.
        record-made h k (on-to (rec_at h.readings.records k) x) is
        (next-is (rec_at h.readings.records k) x (structs.element-is record-type.the_type record-laws.the_laws most_records h.readings.records _ k (free_record 0) (as-field h.readings (records-are h is)) l) x-is);
  }
