-- On good readings a motor answers a frame as the lone motor does. Assumes nothing.
use Rattle.std.proofs.Common.{◌≡◌, ℕ, Bool, true, false, cond, not, ◌&&◌, eqb, List, [], ◌∷◌, sym, refl, ap, subst, Result, Ok, Err}
use Rattle.std.specs.Prelude.{⊤}
use Rattle.codec.specs.declared.error.Refusal.{Refusal}
use Rattle.codec.specs.declared.bus.CanFrame.{CanFrame}
use Rattle.codec.specs.declared.error.Refusal.TheVariants.{FrameNotAccepted, TimeOutOfRange, ReadFailed, ReadingsFull}
use Rattle.motor.specs.declared.motor.State.{State}
use Rattle.motor.specs.declared.motor.Motor.{Motor}
use Rattle.motor.specs.declared.readings.Entry.{Entry}
use Rattle.motor.specs.declared.readings.Readings.{Readings}
use Rattle.motor.specs.declared.receive.Heard.{Heard}
use Rattle.motor.specs.Numbers.{first_of}
use Rattle.motor.specs.Readings.{insert, room, Holds, put_of}
use Rattle.motor.specs.Receive.{accepts_frame, is_out_of_time, is_read, read_status, read_id, read_stored, frame_said, state_after, readings_after, is_full, process_feedback_frame}
use Rattle.motor.specs.Lone.{hears}
use Rattle.motor.specs.Motors.{lone_of, HeardAs}
use Rattle.motor.proofs.ReadingsHeld.{put_holds, put_full}

-- with no room the readings stay, whatever is said
full-leaves : {A : Type 0} (s : State) (f : CanFrame) (now : ℕ) (new old : A) → readings_after (frame_said s f now true) f new old ≡ old
unfolding frame_said readings_after
full-leaves s f now new old = go (accepts_frame s.motor_id f) (is_out_of_time s.clock now) (is_read f) (eqb (read_status f) 0) refl
  where
    go : (a l r z : Bool) → is_read f ≡ r
        → readings_after (first_of ((not a, FrameNotAccepted) ∷ (l, TimeOutOfRange) ∷ (r && not z, ReadFailed (read_id f) (read_status f)) ∷ (r && true, ReadingsFull) ∷ [])) f new old ≡ old
    go false l r z e = refl
    go true true r z e = refl
    go true false true true e = refl
    go true false true false e = refl
    go true false false z e = rw e

readings-held : (said : Result ⊤ Refusal) (f : CanFrame) (new old : Readings) (newList oldList : List Entry) → Holds new newList → Holds old oldList
    → Holds (readings_after said f new old) (readings_after said f newList oldList)
unfolding readings_after
readings-held (Ok tt) f new old newList oldList n o = go (is_read f)
  where
    go : (b : Bool) → Holds (cond b new old) (cond b newList oldList)
    go true = n
    go false = o
readings-held (Err r) f new old newList oldList n o = o

module _ (m : Motor) (f : CanFrame) (now : ℕ) (l : List Entry) (x : Holds m.readings l) where
  put-full-as : (b : Bool) → room (read_id f) l ≡ b → is_full (put_of m.readings (read_id f) (read_stored f)).said ≡ not b
  put-full-as true e = ap is_full (put_holds m.readings l x (read_id f) (read_stored f) e).0
  put-full-as false e = ap is_full (put_full m.readings l x (read_id f) (read_stored f) e).0

  readings-as : (b : Bool) → room (read_id f) l ≡ b
      → Holds (readings_after (frame_said m.state f now (not b)) f (put_of m.readings (read_id f) (read_stored f)).readings m.readings)
      (readings_after (frame_said m.state f now (not b)) f (insert (read_id f) (read_stored f) l) l)
  readings-as true e =
      readings-held (frame_said m.state f now false) f (put_of m.readings (read_id f) (read_stored f)).readings m.readings (insert (read_id f) (read_stored f) l) l
      (put_holds m.readings l x (read_id f) (read_stored f) e).1
      x
  readings-as false e =
      rw (
        full-leaves m.state f now (put_of m.readings (read_id f) (read_stored f)).readings m.readings,
        full-leaves m.state f now (insert (read_id f) (read_stored f) l) l,
      ) x

  pub heard-as : HeardAs (process_feedback_frame m f now) (hears (lone_of m l) f now)
  unfolding process_feedback_frame hears
  heard-as =
      let e = put-full-as (room (read_id f) l) refl in
      record {
        said = ap (frame_said m.state f now) e;
        state = ap (λ (b : Bool). state_after (frame_said m.state f now b) m.state f now) e;
        readings = rw e (readings-as (room (read_id f) l) refl);
      }

-- a contract's second clause from its first
pub heard-both : (m : Motor) (f : CanFrame) (now : ℕ) (r : Heard) → r ≡ process_feedback_frame m f now
    → (r ≡ process_feedback_frame m f now) × ((l : List Entry) → Holds m.readings l → HeardAs r (hears (lone_of m l) f now))
heard-both m f now r e = (e, λ l x. subst (λ (h : Heard). HeardAs h (hears (lone_of m l) f now)) (sym e) (heard-as m f now l x))
