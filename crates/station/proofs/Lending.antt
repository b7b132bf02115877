-- A call on a lent station by what its steps have given: the reply and the places at exit are those of the by-value definition.
-- Assumes nothing.
use Rattle.std.specs.Prelude.{◌⊎◌, Option, None, Some, is_some, Result, Ok, Err, ⊤}
use Rattle.std.proofs.Common.{inl, inr}
use Rattle.std.proofs.lemmas.List.{get_or_default, set_past}
use Rattle.std.proofs.lemmas.Bool.{cases_lt}
use Prim.Native.Nat.{ℕ, ◌<◌, ◌≤◌}
use mathlib.Core.Path.{◌≡◌, refl, sym, ◌∙◌}
use mathlib.Core.Bool.{Bool, true, false}
use mathlib.Core.List.{List}
use lib.ListN.{length, get_or, set}
use Rattle.codec.specs.Numbers.{said_in}
use Rattle.codec.specs.declared.bus.CanFrame.{CanFrame}
use Rattle.codec.specs.declared.error.Refusal.{Refusal}
use Rattle.codec.specs.declared.error.Refusal.TheVariants as refusal
use Rattle.codec.specs.declared.model.Model.{Model}
use Rattle.motor.specs.declared.motor.Motor.{Motor}
use Rattle.motor.specs.declared.motor.Seen.{Seen}
use Rattle.motor.specs.declared.readings.Reading.{Reading}
use Rattle.motor.specs.declared.edits.ReadHeard.{ReadHeard}
use Rattle.motor.specs.declared.receive.Arrival.{Arrival}
use Rattle.motor.specs.declared.receive.Heard.{Heard}
use Rattle.motor.specs.Calls.{registration_of}
use Rattle.motor.specs.Edits.{edited_by, hear_read}
use Rattle.motor.specs.Motors.{new_motor, look_of, removal_of}
use Rattle.motor.specs.Readings.{free_record, rec_at}
use Rattle.motor.proofs.Editing.{heard-read}
use Rattle.motor.specs.Receive.{is_read, arrival_of, process_feedback_frame}
use Rattle.station.specs.declared.station.After.{After}
use Rattle.station.specs.Station.{source_of}
use Rattle.station.specs.Stations.{find_place, find_motor, with_motor, tell, heard_at, removed_at, entered_in, admitted_in, register_in, frame_in, look_in, remove_in, station_of}
use Rattle.station.proofs.Found.{motor_there, at_found, at_none, at_some, at_no, room-found, room-none}

module _ (ms : List Motor) (eight : length ms ≡ 8) where
  -- ---- a removal

  pub removed : (id now i : ℕ) (d : Motor) (k : Result ⊤ Refusal) → i < 8 → find_motor ms id ≡ Some i → k ≡ removal_of (get_or ms i d) now
      → removed_at k (station_of ms) i ≡ remove_in (station_of ms) id now
  unfolding remove_in
  removed id now i d k l there e = rw (at_found _ _ _ _ eight _ there, e, motor_there ms i d eight l)

  -- ---- a registration that its own tests have passed

  module _ (id host : ℕ) (model : Option Model) (wait time : ℕ) (known : Model) (e : registration_of id host model wait time ≡ Ok known) where
    passed : (after : After) → admitted_in (station_of ms) id host known wait time ≡ after → register_in (station_of ms) id host model wait time ≡ after
    unfolding register_in
    passed after p = rw e p

    pub twice : is_some (find_motor ms id) ≡ true → register_in (station_of ms) id host model wait time ≡ tell (station_of ms) (Err refusal.IdRegistered)
    unfolding admitted_in
    twice s = passed _ (at_some _ _ _ _ eight _ (λ i. refl) s)

    module _ (s : is_some (find_motor ms id) ≡ false) where
      pub room : (i : ℕ) → find_place ms 0 ≡ Some i
          → register_in (station_of ms) id host model wait time ≡ tell (with_motor (station_of ms) i (new_motor id host known wait time)) (Ok tt)
      unfolding admitted_in entered_in
      room i f = let p = room-found ms eight i f in passed _ (at_no _ _ _ _ eight s ∙ (rw (p.1, p.0)))

      pub no_room : find_place ms 0 ≡ None → register_in (station_of ms) id host model wait time ≡ tell (station_of ms) (Err refusal.StationFull)
      unfolding admitted_in entered_in
      no_room f = passed _ (at_no _ _ _ _ eight s ∙ (rw (room-none ms eight f)))

  -- ---- a frame, by what is read of it at once

  module _ (f : CanFrame) (now : ℕ) (a : Arrival) (split : a ≡ arrival_of f) where
    pub unheard : a.accepted ≡ false → frame_in (station_of ms) f now ≡ tell (station_of ms) (Err refusal.FrameNotAccepted)
    unfolding frame_in arrival_of source_of
    unheard p = rw (rw split at p)

    module _ (p : a.accepted ≡ true) where
      pub from_nobody : find_motor ms a.source ≡ None → frame_in (station_of ms) f now ≡ tell (station_of ms) (Err refusal.FrameNotAccepted)
      unfolding frame_in arrival_of source_of
      from_nobody n = rw (rw split at p, at_none _ _ _ _ eight (rw split at n))

      pub heard : (i : ℕ) (d : Motor) (h : Heard) → i < 8 → find_motor ms a.source ≡ Some i → h ≡ process_feedback_frame (get_or ms i d) f now
          → heard_at (station_of ms) i h ≡ frame_in (station_of ms) f now
      unfolding frame_in arrival_of source_of
      heard i d h l there e = rw (rw split at p, at_found _ _ _ _ eight _ (rw split at there), e, motor_there ms i d eight l)

pub reads : (f : CanFrame) (a : Arrival) (b : Bool) → a ≡ arrival_of f → a.read ≡ b → is_read f ≡ b
unfolding arrival_of
reads f a b e r = rw e at r

-- ---- a look: what is said, and what is shown

module _ (ms : List Motor) (eight : length ms ≡ 8) (id : ℕ) where
  pub shown : (i : ℕ) (d : Motor) (v : Seen) → i < 8 → find_motor ms id ≡ Some i → v ≡ look_of (get_or ms i d) → Ok v ≡ look_in (station_of ms) id
  unfolding look_in
  shown i d v l there e = rw (at_found _ _ _ _ eight _ there, e, motor_there ms i d eight l)

  pub not_shown : find_motor ms id ≡ None → look_in (station_of ms) id ≡ Err refusal.IdNotRegistered
  unfolding look_in
  not_shown n = at_none _ _ _ _ eight n

  pub said : (o : Option ℕ) (k : Result ⊤ Refusal) → find_motor ms id ≡ o → ((i : ℕ) → o ≡ Some i → k ≡ Ok tt) → (o ≡ None → k ≡ Err refusal.IdNotRegistered)
      → said_in (look_in (station_of ms) id) ≡ k
  unfolding look_in
  said (Some i) k p y n = rw (at_found {A = Result Seen Refusal} _ _ _ _ eight _ p, y i refl)
  said None k p y n = rw (at_none {A = Result Seen Refusal} _ _ _ _ eight p, n refl)

-- ---- an edit stored part by part is the edit stored

-- a record that isn't there is stored by neither
linked-is : (l : List Reading) (e : Reading) (k n : ℕ)
    → set l k (record { id = (get_or l k e).id; held = (get_or l k e).held; next = n }) ≡ set l k (record { id = (rec_at l k).id; held = (rec_at l k).held; next = n })
linked-is l e k n = go (cases_lt k (length l))
  where
    go : (k < length l) ⊎ (length l ≤ k)
        → set l k (record { id = (get_or l k e).id; held = (get_or l k e).held; next = n }) ≡ set l k (record { id = (rec_at l k).id; held = (rec_at l k).held; next = n })
    go (inl h) = rw (get_or_default l k e (free_record 0) h)
    go (inr h) = set_past l k _ h ∙ sym (set_past l k _ h)

pub edited : (m : Motor) (f : CanFrame) (now : ℕ) (h : ReadHeard) (d : Reading) → h ≡ hear_read m f now → is_read f ≡ true
    → let rs = set m.readings.records h.edit.first h.edit.one in
    let r = get_or rs h.edit.second d in
    ◌≡◌ {A = Heard}
    (record {
      motor =
          record {
            state = h.state;
            readings = record { records = set rs h.edit.second (record { id = r.id; held = r.held; next = h.edit.link }); free = h.edit.free };
          };
      said = h.said;
    })
    (process_feedback_frame m f now)
unfolding edited_by
edited m f now h d e q = rw (e, heard-read m f now q, linked-is)
