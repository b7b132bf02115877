-- On a good station each call is document 01's, and leaves a good station. Assumes nothing.
use Rattle.std.specs.Prelude.{Option, Result, Ok, Err, ⊤, None, Some}
use mathlib.Core.Path.{◌≡◌, refl, sym, ap, ◌∙◌, subst}
use mathlib.Core.Bool.{Bool, true, false, cond}
use mathlib.Core.List.{List}
use Prim.Native.Nat.{ℕ, ◌<◌}
use lib.ListN.{length}
use Rattle.codec.specs.declared.error.Refusal.{Refusal}
use Rattle.codec.specs.declared.model.Model.{Model}
use Rattle.codec.specs.declared.bus.CanFrame.{CanFrame}
use Rattle.codec.specs.Refusals.{number_of}
use Rattle.codec.specs.Kinds.{among}
use Rattle.motor.specs.declared.engine.command.Command.{Command}
use Rattle.motor.specs.declared.motor.Answered.{Answered}
use Rattle.motor.specs.declared.motor.Motor.{Motor}
use Rattle.motor.specs.declared.motor.State.{State}
use Rattle.motor.specs.declared.receive.Heard.{Heard}
use Rattle.motor.specs.Calls.{register_numbers, start_said, step_said}
use Rattle.motor.specs.Lone.{Lone, LoneAnswered, LoneHeard, lone_start, lone_step, hears, lone_look, lone_removal}
use Rattle.motor.specs.Motors.{start_by, start_of, step_by, step_of, look_of, removal_of, lone_of, AnsweredAs, HeardAs}
use Rattle.motor.specs.Numbers.{first_of}
use Rattle.motor.specs.Receive.{accepts_frame, state_after, told_by as tells, answer_taken, counted_at, process_feedback_frame}
use Rattle.motor.proofs.LoneOperating.{start-both, step_both, look-both}
use Rattle.motor.proofs.LoneReceiving.{heard-both}
use Rattle.motor.proofs.Receiving.{either-rule}
use Rattle.station.specs.declared.station.Station.{Station}
use Rattle.station.specs.Calls.{register, start, step, frame, look, remove}
use Rattle.station.specs.Calls.{says, answered, refused}
use Rattle.station.specs.Station.{Place, held, put, place, empty, source_of}
use Rattle.station.specs.Station.{moves_to, hears_to, leaves, lone_by, route, admission, station_by, station_call}
use Rattle.station.specs.Stations.{free_motor, new_station, place_of, taken_place, motor_at, at_place, moved_at, heard_at, removed_at, register_in, start_in, step_in, frame_in, look_in, remove_in}
use Rattle.station.specs.Stations.{TakenAs, Shows, LeavesAs, reply_of}
use Rattle.station.specs.Demands.{counting_numbers}
use Rattle.station.proofs.Index.{free-places}
use Rattle.station.proofs.Admitting.{by_tests}
use Rattle.station.proofs.Places.{put-held}
use Rattle.station.proofs.Standing.{Where, absent, present, where-is, shows-put}

pub new-means : Shows new_station empty
unfolding new_station empty
new-means = record { eight = refl; places = free-places 8 }

pub new-both : (r : Station) → r ≡ new_station → (r ≡ new_station) × Shows r empty
new-both r e = (e, subst (λ (a : Station). Shows a empty) (sym e) new-means)

-- ---- start and step

-- the lone motor at a taken place
lone-at : (x : Motor) (m : ℕ) (h : Lone) → TakenAs x m h → lone_of x h.readings ≡ h
lone-at x m h t = ap (λ (a : State). record { state = a; readings = h.readings }) t.state

-- a motor that has taken a call keeps its id
start-id : (k : Result ⊤ Refusal) (m : Motor) (c : Command) (now : ℕ) → (start_by k m c now).motor.state.motor_id ≡ m.state.motor_id
start-id (Ok tt) m c now = refl
start-id (Err r) m c now = refl

step-id : (k : Result ⊤ Refusal) (m : Motor) (now : ℕ) → (step_by k m now).motor.state.motor_id ≡ m.state.motor_id
step-id (Ok tt) m now = refl
step-id (Err r) m now = refl

hear-id : (k : Result ⊤ Refusal) (a : State) (f : CanFrame) (now : ℕ) → (state_after k a f now).motor_id ≡ a.motor_id
unfolding state_after tells answer_taken counted_at
hear-id (Ok tt) a f now = either-rule (λ (s : State). s.motor_id ≡ a.motor_id) (counted_at a now) f refl refl
hear-id (Err r) a f now = go (among (number_of r) counting_numbers)
  where
    go : (b : Bool) → (cond b (counted_at a now) a).motor_id ≡ a.motor_id
    go true = refl
    go false = refl

module _ (st : Station) (s : List Place) (x : Shows st s) (m : ℕ) (z : m ≡ 0 → ⊥) (e : taken_place st.motors m ≡ place_of st.motors m)
    (l : place_of st.motors m < length st.motors) where
  moved-means : (a : Answered) (b : LoneAnswered) → AnsweredAs a b → a.motor.state.motor_id ≡ m
      → LeavesAs (moved_at st (taken_place st.motors m) a) (says b.said b.frame b.result, put s m (Some b.lone))
  unfolding place
  moved-means a b w i =
      record {
        answer = rw (w.said, w.frame, w.result);
        station = shows-put st s x m z e l (Some b.lone) a.motor (record { id = i; registered = z; state = w.state; readings = w.readings });
      }

  heard-means : (a : Heard) (b : LoneHeard) → HeardAs a b → a.motor.state.motor_id ≡ m
      → LeavesAs (heard_at st (taken_place st.motors m) a) (answered b.said, put s m (Some b.lone))
  unfolding place
  heard-means a b w i =
      record {
        answer = rw w.said;
        station = shows-put st s x m z e l (Some b.lone) a.motor (record { id = i; registered = z; state = w.state; readings = w.readings });
      }

  -- removed, the place is free; refused, all is as it was
  removed-means : (h : Lone) → held s m ≡ Some h → (k : Result ⊤ Refusal)
      → LeavesAs (removed_at k st (taken_place st.motors m)) (answered k, put s m (leaves h k))
  unfolding place leaves
  removed-means h q (Ok tt) = record { answer = refl; station = shows-put st s x m z e l None free_motor refl }
  removed-means h q (Err r) = record { answer = refl; station = rw (put-held s m h q) x }

heard-id : (m : Motor) (f : CanFrame) (now : ℕ) → (process_feedback_frame m f now).motor.state.motor_id ≡ m.state.motor_id
unfolding process_feedback_frame
heard-id m f now = hear-id _ m.state f now

-- ---- each call

module _ (st : Station) (s : List Place) (x : Shows st s) where
  pub start-means : (m : ℕ) (c : Command) (now : ℕ) → LeavesAs (start_in st m c now) (station_call s (start m c now))
  unfolding start_in at_place station_by route refused lone_by moves_to
  start-means m c now = go (where-is st s x m)
    where
      go : Where st s x m → LeavesAs (start_in st m c now) (station_call s (start m c now))
      go (absent p q) = rw (p, q) (record { answer = refl; station = x })
      go (present p z e l h q t) =
          let y = motor_at st (taken_place st.motors m) in
          let w = subst (λ (k : Lone). AnsweredAs (start_of y c now) (lone_start k c now)) (lone-at y m h t)
          ((start-both y c now (start_of y c now) refl).1 h.readings t.readings) in
          rw (p, q) (moved-means st s x m z e l (start_of y c now) (lone_start h c now) w
          (start-id (start_said y.state.clock y.state.operation.phase c now) y c now ∙ t.id))

  pub step-means : (m : ℕ) (now : ℕ) → LeavesAs (step_in st m now) (station_call s (step m now))
  unfolding step_in at_place station_by route refused lone_by moves_to
  step-means m now = go (where-is st s x m)
    where
      go : Where st s x m → LeavesAs (step_in st m now) (station_call s (step m now))
      go (absent p q) = rw (p, q) (record { answer = refl; station = x })
      go (present p z e l h q t) =
          let y = motor_at st (taken_place st.motors m) in
          let w = subst (λ (k : Lone). AnsweredAs (step_of y now) (lone_step k now)) (lone-at y m h t)
          ((step_both y now (step_of y now) refl).1 h.readings t.readings) in
          rw (p, q) (moved-means st s x m z e l (step_of y now) (lone_step h now) w
          (step-id (step_said y.state.clock y.state.operation.phase now) y now ∙ t.id))

  -- ---- a frame

  pub frame-means : (f : CanFrame) (now : ℕ) → LeavesAs (frame_in st f now) (station_call s (frame f now))
  unfolding frame_in at_place station_by route refused lone_by hears_to
  frame-means f now = go (accepts_frame (source_of f) f) refl (where-is st s x (source_of f))
    where
      go : (b : Bool) → accepts_frame (source_of f) f ≡ b → Where st s x (source_of f) → LeavesAs (frame_in st f now) (station_call s (frame f now))
      go false a v = rw a (record { answer = refl; station = x })
      go true a (absent p q) = rw (a, p, q) (record { answer = refl; station = x })
      go true a (present p z e l h q t) =
          let y = motor_at st (taken_place st.motors (source_of f)) in
          let w = subst (λ (k : Lone). HeardAs (process_feedback_frame y f now) (hears k f now)) (lone-at y (source_of f) h t)
          ((heard-both y f now (process_feedback_frame y f now) refl).1 h.readings t.readings) in
          rw (a, p, q) (heard-means st s x (source_of f) z e l (process_feedback_frame y f now) (hears h f now) w (heard-id y f now ∙ t.id))

  -- ---- a look

  pub look-means : (m : ℕ) → (reply_of (look_in st m), s) ≡ station_call s (look m)
  unfolding look_in at_place station_by route refused lone_by
  look-means m = go (where-is st s x m)
    where
      go : Where st s x m → (reply_of (look_in st m), s) ≡ station_call s (look m)
      go (absent p q) = rw (p, q)
      go (present p z e l h q t) =
          let y = motor_at st (taken_place st.motors m) in
          let w = (look-both y (look_of y) refl).1 h.readings t.readings ∙ ap (λ (k : Lone). lone_look k) (lone-at y m h t) in
          rw (p, q, put-held s m h q, w)

  -- ---- a removal

  pub remove-means : (m : ℕ) (now : ℕ) → LeavesAs (remove_in st m now) (station_call s (remove m now))
  unfolding remove_in at_place station_by route refused lone_by
  remove-means m now = go (where-is st s x m)
    where
      go : Where st s x m → LeavesAs (remove_in st m now) (station_call s (remove m now))
      go (absent p q) = rw (p, q) (record { answer = refl; station = x })
      go (present p z e l h q t) =
          let y = motor_at st (taken_place st.motors m) in
          let w : removal_of y now ≡ lone_removal h now = ap (λ (k : Lone). lone_removal k now) (lone-at y m h t) in
          rw (p, q) (rw w (removed-means st s x m z e l h q (lone_removal h now)))

  -- ---- a registration

  pub register-means : (m host : ℕ) (model : Option Model) (wait time : ℕ)
      → LeavesAs (register_in st m host model wait time) (station_call s (register m host model wait time))
  unfolding register_in station_by admission
  register-means m host model wait time = by_tests st s x m host model wait time (first_of (register_numbers m host model wait time)) refl
