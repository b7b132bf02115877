-- An edit stored gives what the by-value functions give. Assumes nothing.
use Rattle.std.proofs.Common.{◌≡◌, ℕ, zero, suc, Bool, true, false, cond, eqb, ltb, List, [], ◌∷◌, set, sym, refl, ap, ◌∙◌, subst, Option, Some, None, Result, Ok, Err}
use Rattle.std.specs.Prelude.{⊤}
use lib.Seq.{set-get_or}
use Rattle.codec.specs.declared.error.Refusal.{Refusal}
use borrow.Author.Tests.{eqb-false}
use Rattle.codec.specs.declared.bus.CanFrame.{CanFrame}
use Rattle.codec.specs.declared.error.Refusal.TheVariants.{FrameNotAccepted, ReadFailed, ReadingsFull}
use Rattle.codec.specs.declared.protocol.IdParts.{IdParts}
use Rattle.codec.specs.Kinds.{among}
use Rattle.motor.specs.declared.edits.Edit.{Edit}
use Rattle.motor.specs.declared.edits.PutEdit.{PutEdit}
use Rattle.motor.specs.declared.edits.ReadHeard.{ReadHeard}
use Rattle.motor.specs.declared.engine.reading.Stored.{Stored}
use Rattle.motor.specs.declared.motor.Motor.{Motor}
use Rattle.motor.specs.declared.motor.State.{State}
use Rattle.motor.specs.declared.readings.Reading.{Reading}
use Rattle.motor.specs.declared.readings.Readings.{Readings}
use Rattle.motor.specs.declared.readings.PutResult.{PutResult}
use Rattle.motor.specs.Limits.{most_readings}
use Rattle.motor.specs.Readings.{free_record, reading, entry_at, stored_at, with_next, kept, full_of, add_at, put_at, put_of, holder_of, index_of, site_of}
use Rattle.motor.specs.Receive.{parts_of, accepts_frame, is_out_of_time, counted_at, is_read, status_in, read_status, read_id, read_stored, frame_said, state_after, readings_after, heard_with, process_feedback_frame, frame_admitted}
use Rattle.motor.specs.Edits.{edited_by, no_edit, add_edit, put_edit_at, put_edit, read_kept, is_reply, hear_read}
use Rattle.motor.proofs.Receiving.{taken_by-read, admitted_to, admitted-13, admitted-7, admitted, admitted-where}
use Rattle.motor.proofs.Sites.{site-before, site-next, site-free, site-after, site-head, holder-none, holder-some, holder-there}

-- a record stored goes on to where it goes
set-again : (l : List Reading) (n : ℕ) (x : Reading) → set (set l n x) n (reading (entry_at (set l n x) n) x.next) ≡ set l n x
set-again [] n x = refl
set-again (r ∷ l) zero x = refl
set-again (r ∷ l) (suc n) x = ap (λ (t : List Reading). r ∷ t) (set-again l n x)

stored-again : (rs : Readings) (n : ℕ) (x : Reading) (free : ℕ) → with_next (stored_at rs n x free) n x.next ≡ stored_at rs n x free
stored-again rs n x free = ap (λ (l : List Reading). record { records = l; free = free }) (set-again rs.records n x)

-- no edit changes nothing, whatever the readings
pub no-edit : (rs : Readings) → edited_by rs (no_edit rs) ≡ rs
unfolding edited_by
no-edit rs = stored-again rs 0 _ rs.free ∙ ap (λ (l : List Reading). record { records = l; free = rs.free }) (set-get_or rs.records 0 (free_record 0))

-- what a put answers, and the readings once its edit is stored
abbrev pub put_with : Readings → PutEdit → PutResult
put_with rs p = record { said = p.said; readings = edited_by rs p.edit }

-- a put's answer, and its edit stored, are those of the by-value put
pub edit-puts : (rs : Readings) (id : ℕ) (s : Stored) → put_with rs (put_edit (site_of rs id) id s) ≡ put_of rs id s
unfolding put_edit_at put_at add_edit add_at edited_by index_of
edit-puts rs id s = go (eqb (holder_of rs id) 0) (eqb f 0) (ltb most_readings f) refl refl refl
  where
    f : ℕ
    f = rs.free

    go : (new none past : Bool) → eqb (holder_of rs id) 0 ≡ new → eqb f 0 ≡ none → ltb most_readings f ≡ past
        → put_with rs (put_edit (site_of rs id) id s) ≡ put_of rs id s
    go true true past a b c = rw (holder-none rs id a, a, site-free rs id, b, site-head rs id) (ap full_of (no-edit rs))
    go true false true a b c = rw (holder-none rs id a, a, site-free rs id, b, c, site-head rs id) (ap full_of (no-edit rs))
    go true false false a b c = rw (holder-none rs id a, a, site-free rs id, b, c, site-next rs id, site-before rs id, site-after rs id c)
    go false none past a b c = rw (holder-some rs id a, a, site-free rs id, holder-there rs id (eqb-false _ _ a)) (ap kept (stored-again rs (holder_of rs id) _ f))

-- ---- a frame

edits-after : (said : Result ⊤ Refusal) (f : CanFrame) (rs : Readings) (e : Edit) → readings_after said f (edited_by rs e) rs ≡ edited_by rs (readings_after said f e (no_edit rs))
unfolding readings_after
edits-after (Err r) f rs e = sym (no-edit rs)
edits-after (Ok tt) f rs e = go (is_read f)
  where
    go : (b : Bool) → cond b (edited_by rs e) rs ≡ edited_by rs (cond b e (no_edit rs))
    go true = refl
    go false = sym (no-edit rs)

-- of a read reply: its edit stored, the readings are those of the by-value call
pub heard-read : (m : Motor) (f : CanFrame) (now : ℕ) → is_read f ≡ true
    → process_feedback_frame m f now ≡ heard_with (hear_read m f now).state (edited_by m.readings (hear_read m f now).edit) (hear_read m f now).said
unfolding process_feedback_frame hear_read
heard-read m f now r = rw (r, ← edit-puts m.readings (read_id f) (read_stored f), edits-after)

abbrev pub put_here : Motor → CanFrame → PutEdit
put_here m f = put_edit (site_of m.readings (read_id f)) (read_id f) (read_stored f)

-- no room is 15, and nothing is stored
full-put : (rs : Readings) (id : ℕ) (s : Stored) (r : Refusal) → (put_edit (site_of rs id) id s).said ≡ Err r
    → put_edit (site_of rs id) id s ≡ record { said = Err ReadingsFull; edit = no_edit rs }
unfolding put_edit_at add_edit
full-put rs id s r = go (eqb (holder_of rs id) 0) (index_of rs.free) refl refl
  where
    go : (new : Bool) (some : Option ℕ) → eqb (holder_of rs id) 0 ≡ new → index_of rs.free ≡ some → (put_edit (site_of rs id) id s).said ≡ Err r
        → put_edit (site_of rs id) id s ≡ record { said = Err ReadingsFull; edit = no_edit rs }
    go true (Some f) a b e = let t = rw (holder-none rs id a, site-free rs id, b) at e in let z : ⊥ = cc in absurd z
    go true None a b e = rw (holder-none rs id a, site-free rs id, b, site-head rs id)
    go false some a b e = let t = rw (holder-some rs id a) at e in let z : ⊥ = cc in absurd z

abbrev pub read_put : State → PutEdit → ReadHeard
read_put state p = record { state = state; edit = p.edit; said = p.said }

-- a read reply that is counted, by its status
abbrev pub read_taken : State → Motor → ℕ → CanFrame → ReadHeard
read_taken state m status f =
    cond (eqb status 0) (read_put state (put_here m f)) (read_kept state m.readings (Err (ReadFailed (read_id f) status)))

abbrev pub hear_read_by : Result ⊤ Refusal → Motor → IdParts → CanFrame → ℕ → ReadHeard
hear_read_by (Ok tt) m p f now = read_taken (counted_at m.state now) m (status_in p) f
hear_read_by (Err r) m p f now = read_kept m.state m.readings (Err r)

-- a read reply by its admission and its status
read_by : (m : Motor) (f : CanFrame) (now : ℕ) → is_read f ≡ true → hear_read m f now ≡ hear_read_by (admitted_to m.state (parts_of f) f now) m (parts_of f) f now
unfolding hear_read frame_said state_after readings_after among read_status
read_by m f now t = go (accepts_frame m.state.motor_id f) (is_out_of_time m.state.clock now) (eqb (read_status f) 0) (put_here m f).said refl refl refl refl
  where
    by : Result ⊤ Refusal → Type 0
    by k = hear_read m f now ≡ hear_read_by k m (parts_of f) f now

    go : (a l z : Bool) (k : Result ⊤ Refusal) → accepts_frame m.state.motor_id f ≡ a → is_out_of_time m.state.clock now ≡ l → eqb (read_status f) 0 ≡ z
        → (put_here m f).said ≡ k → by (admitted_to m.state (parts_of f) f now)
    go false l z k p q s e = subst by (sym (admitted-13 m.state f now p)) (rw (t, p))
    go true true z k p q s e = subst by (sym (admitted-7 m.state f now p q)) (rw (t, p, q))
    go true false false k p q s e = subst by (sym (admitted m.state f now p q)) (rw (t, p, q, s))
    go true false true (Ok tt) p q s e = subst by (sym (admitted m.state f now p q)) (rw (t, p, q, s, e, t, taken_by-read (counted_at m.state now) f t))
    go true false true (Err r) p q s e =
        let x = full-put m.readings (read_id f) (read_stored f) r e in
        subst by (sym (admitted m.state f now p q)) (rw (t, p, q, s, x))

module _ (m : Motor) (f : CanFrame) (now : ℕ) where
  abbrev replying : Result ⊤ Refusal
  replying = frame_admitted m.state.motor_id m.state.clock (is_reply f.is_extended (parts_of f)) (parts_of f) now

  -- any other frame is 13, and a read reply is admitted as it is
  reply-13 : is_read f ≡ false → replying ≡ Err FrameNotAccepted
  unfolding is_reply is_read
  reply-13 r = admitted-where m.state f now (is_read f) ∙ rw r

  reply-same : is_read f ≡ true → replying ≡ admitted_to m.state (parts_of f) f now
  unfolding is_reply is_read
  reply-same r = admitted-where m.state f now (is_read f) ∙ rw r

  untaken : is_read f ≡ false → hear_read m f now ≡ read_kept m.state m.readings (Err FrameNotAccepted)
  unfolding hear_read
  untaken r = rw r

  read-heard-by : hear_read m f now ≡ hear_read_by replying m (parts_of f) f now
  read-heard-by = go (is_read f) refl
    where
      go : (b : Bool) → is_read f ≡ b → hear_read m f now ≡ hear_read_by replying m (parts_of f) f now
      go true r = read_by m f now r ∙ sym (ap (λ (k : Result ⊤ Refusal). hear_read_by k m (parts_of f) f now) (reply-same r))
      go false r = untaken r ∙ sym (ap (λ (k : Result ⊤ Refusal). hear_read_by k m (parts_of f) f now) (reply-13 r))

  -- by the parts, the test and the admission as the code has them
  pub read-heard-at : (p : IdParts) (r : Bool) (k : Result ⊤ Refusal) → p ≡ parts_of f → r ≡ is_reply f.is_extended p → k ≡ frame_admitted m.state.motor_id m.state.clock r p now
      → hear_read m f now ≡ hear_read_by k m p f now
  read-heard-at p r k e d c = rw (c, d, e) read-heard-by
