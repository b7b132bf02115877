-- Edits: what a read reply stores of the readings, and what it answers. Definitions only.
use Rattle.std.specs.Prelude.{ℕ, ◌<◌, Bool, cond, ◌&&◌, ◌==◌, Option, Some, None, Result, Err, ⊤, Ok}
use Rattle.codec.specs.declared.error.Refusal.TheVariants.{ReadingsFull}
use Rattle.codec.specs.declared.error.Refusal.{Refusal}
use Rattle.codec.specs.declared.bus.CanFrame.{CanFrame}
use Rattle.codec.specs.declared.protocol.IdParts.{IdParts}
use Rattle.motor.specs.declared.engine.reading.Stored.{Stored}
use Rattle.motor.specs.declared.motor.State.{State}
use Rattle.motor.specs.declared.motor.Motor.{Motor}
use Rattle.motor.specs.declared.readings.Reading.{Reading}
use Rattle.motor.specs.declared.readings.Readings.{Readings}
use Rattle.motor.specs.declared.readings.Site.{Site}
use Rattle.motor.specs.declared.edits.Edit.{Edit}
use Rattle.motor.specs.declared.edits.PutEdit.{PutEdit}
use Rattle.motor.specs.declared.edits.ReadHeard.{ReadHeard}
use Rattle.motor.specs.Readings.{entry, reading, rec_at, stored_at, with_next, index_of, site_of, holder_in}
use Rattle.motor.specs.Limits.{most_records}
use Rattle.motor.specs.Numbers.{plain}
use Rattle.motor.specs.Receive.{is_read, read_id, read_stored, frame_said, is_full, state_after, readings_after}

-- both records of the edit are there
abbrev pub IsInside : Edit → Type 0
IsInside e = (e.first < most_records) × (e.second < most_records)

-- the readings once the edit is stored
unfoldable pub edited_by : Readings → Edit → Readings
edited_by rs e = with_next (stored_at rs e.first e.one e.free) e.second e.link

-- ---- what a put stores, on any value

-- record 0, the head, stored as it is
abbrev pub head_edit : Reading → ℕ → Edit
head_edit head free = record { first = 0; one = head; second = 0; link = head.next; free = free }

abbrev pub no_edit : Readings → Edit
no_edit rs = head_edit (rec_at rs.records 0) rs.free

-- the first free record, f, holds id, and stands at its place
abbrev pub link_edit : Site → ℕ → ℕ → Stored → Edit
link_edit site f id s =
    record { first = f; one = reading (entry id s) site.next; second = site.before; link = site.free; free = site.after_free }

-- record n, which is at the place, keeps it
abbrev pub replace_edit : Site → ℕ → ℕ → Stored → Edit
replace_edit site n id s =
    let next = site.there.next in
    record { first = n; one = reading (entry id s) next; second = n; link = next; free = site.free }

abbrev pub kept_edit : Edit → PutEdit
kept_edit e = record { said = Ok tt; edit = e }

abbrev pub full_edit : Site → PutEdit
full_edit site = record { said = Err ReadingsFull; edit = head_edit site.head site.free }

abbrev pub add_edit_at : Site → ℕ → Stored → Option ℕ → PutEdit
add_edit_at site id s None = full_edit site
add_edit_at site id s (Some f) = kept_edit (link_edit site f id s)

unfoldable pub add_edit : Site → ℕ → Stored → PutEdit
add_edit site id s = add_edit_at site id s (index_of site.free)

-- by the record that holds id
unfoldable pub put_edit_at : Site → ℕ → Stored → Option ℕ → PutEdit
put_edit_at site id s None = add_edit site id s
put_edit_at site id s (Some n) = kept_edit (replace_edit site n id s)

abbrev pub put_edit : Site → ℕ → Stored → PutEdit
put_edit site id s = put_edit_at site id s (holder_in site id)

-- ---- a read reply: the receive rule, with an edit in place of the readings; any other frame isn't taken

-- extended, and a read reply
unfoldable pub is_reply : Bool → IdParts → Bool
is_reply extended p = extended && p.comm_type == 17

abbrev pub read_kept : State → Readings → Result ⊤ Refusal → ReadHeard
read_kept state rs said = record { state = state; edit = no_edit rs; said = said }

unfoldable pub hear_read : Motor → CanFrame → ℕ → ReadHeard
hear_read m f now =
    let put = put_edit (site_of m.readings (read_id f)) (read_id f) (read_stored f) in
    let said = frame_said m.state f now (is_full put.said) in
    let heard : ReadHeard = record { state = state_after said m.state f now; edit = readings_after said f put.edit (no_edit m.readings); said = said } in
    cond (is_read f) heard (read_kept m.state m.readings (Err (plain 13)))
