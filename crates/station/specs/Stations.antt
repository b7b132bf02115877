-- What the station's functions give on any station, and what it is for a station to be document 01's. Definitions only.
use Rattle.std.specs.Prelude.{ℕ, zero, suc, ◌≡◌, cond, List, [], ◌∷◌, eqb, ltb, length, get_or, set, replicate, position, Option, None, Result, Ok, Err, ⊤}
use Rattle.codec.specs.Numbers.{said_in}
use Rattle.codec.specs.declared.error.Refusal.{Refusal}
use Rattle.codec.specs.declared.bus.CanFrame.{CanFrame}
use Rattle.codec.specs.declared.model.Model.{Model}
use Rattle.codec.specs.declared.model.Model.TheVariants as models
use Rattle.motor.specs.declared.engine.command.Command.{Command}
use Rattle.motor.specs.declared.engine.command.Said.TheVariants as said
use Rattle.motor.specs.declared.motor.Answered.{Answered}
use Rattle.motor.specs.declared.motor.Motor.{Motor}
use Rattle.motor.specs.declared.motor.Seen.{Seen}
use Rattle.motor.specs.declared.receive.Heard.{Heard}
use Rattle.motor.specs.Calls.{registration_of}
use Rattle.motor.specs.Lone.{Lone}
use Rattle.motor.specs.Motors.{new_motor, start_of, step_of, look_of, removal_of}
use Rattle.motor.specs.Readings.{Holds}
use Rattle.motor.specs.Receive.{accepts_frame, process_feedback_frame}
use Rattle.motor.specs.Numbers.{plain}
use Rattle.station.specs.declared.station.Station.{Station}
use Rattle.station.specs.declared.station.After.{After}
use Rattle.station.specs.declared.call.Answer.TheVariants as answer
use Rattle.station.specs.declared.call.Asked.{Asked}
use Rattle.station.specs.declared.call.Call.{Call}
use Rattle.station.specs.declared.call.Call.TheVariants as call
use Rattle.station.specs.declared.call.Replied.{Replied}
use Rattle.station.specs.Limits.{most_motors}
use Rattle.station.specs.Calls.{reply, told, moved, Reply, gives, shows}
use Rattle.station.specs.Station.{Place, free, taken, source_of}

-- ---- places

-- the free place: ids are 1 to 255, so the id 0 marks it
unfoldable pub free_motor : Motor
free_motor = new_motor 0 0 models.Rs00 0 0

unfoldable pub new_station : Station
new_station = record { motors = replicate most_motors free_motor }

-- the first place of an id, the number of places where there is none
unfoldable pub place_of : List Motor → ℕ → ℕ
place_of [] id = zero
place_of (m ∷ ms) id = cond (eqb m.state.motor_id id) zero (suc (place_of ms id))

-- the place of a registered id, 8 where it isn't registered
unfoldable pub taken_place : List Motor → ℕ → ℕ
taken_place ms id = cond (eqb id 0) most_motors (place_of ms id)

-- the same as the code finds them: the first place of an id, and that of a registered id, or none
abbrev pub find_place : List Motor → ℕ → Option ℕ
find_place ms id = position (λ m. eqb m.state.motor_id id) ms

abbrev pub find_motor : List Motor → ℕ → Option ℕ
find_motor ms id = cond (eqb id 0) None (find_place ms id)

-- a station is its eight places
abbrev pub station_of : List Motor → Station
station_of ms = record { motors = ms }

abbrev pub motor_at : Station → ℕ → Motor
motor_at st i = get_or st.motors i free_motor

abbrev pub with_motor : Station → ℕ → Motor → Station
with_motor st i m = record { motors = set st.motors i m }

-- what is done at the place of a registered id, else the refusal
unfoldable pub at_place : {A : Type 0} → Station → ℕ → (ℕ → A) → A → A
at_place st id found none = cond (ltb (taken_place st.motors id) most_motors) (found (taken_place st.motors id)) none

-- ---- the calls

-- a reply, and the station that it leaves
abbrev pub left : Station → Replied → After
left st r = record { station = st; replied = r }

abbrev pub tell : Station → Result ⊤ Refusal → After
tell st said = left st (told said)

abbrev pub moved_at : Station → ℕ → Answered → After
moved_at st i a = left (with_motor st i a.motor) (moved a.said a.frame a.result)

abbrev pub not_moved : Station → After
not_moved st = left st (reply (answer.Moved (said.Refused (plain 6))))

abbrev pub heard_at : Station → ℕ → Heard → After
heard_at st i h = tell (with_motor st i h.motor) h.said

abbrev pub removed_at : Result ⊤ Refusal → Station → ℕ → After
removed_at (Ok tt) st i = tell (with_motor st i free_motor) (Ok tt)
removed_at (Err r) st i = tell st (Err r)

-- the first free place is that of the id 0
unfoldable pub entered_in : Station → Motor → After
entered_in st m =
    cond (ltb (place_of st.motors 0) most_motors)
    (tell (with_motor st (place_of st.motors 0) m) (Ok tt))
    (tell st (Err (plain 4)))

unfoldable pub admitted_in : Station → ℕ → ℕ → Model → ℕ → ℕ → After
admitted_in st id host model wait time =
    at_place st id (λ i. tell st (Err (plain 5))) (entered_in st (new_motor id host model wait time))

abbrev pub register_by : Result Model Refusal → Station → ℕ → ℕ → ℕ → ℕ → After
register_by (Ok model) st id host wait time = admitted_in st id host model wait time
register_by (Err r) st id host wait time = tell st (Err r)

unfoldable pub register_in : Station → ℕ → ℕ → Option Model → ℕ → ℕ → After
register_in st id host model wait time = register_by (registration_of id host model wait time) st id host wait time

unfoldable pub start_in : Station → ℕ → Command → ℕ → After
start_in st id c now = at_place st id (λ i. moved_at st i (start_of (motor_at st i) c now)) (not_moved st)

unfoldable pub step_in : Station → ℕ → ℕ → After
step_in st id now = at_place st id (λ i. moved_at st i (step_of (motor_at st i) now)) (not_moved st)

unfoldable pub frame_in : Station → CanFrame → ℕ → After
frame_in st f now =
    let other = tell st (Err (plain 13)) in
    cond (accepts_frame (source_of f) f) (at_place st (source_of f) (λ i. heard_at st i (process_feedback_frame (motor_at st i) f now)) other) other

unfoldable pub look_in : Station → ℕ → Result Seen Refusal
look_in st id =
    at_place st id (λ i. Ok (look_of (motor_at st i)))
    (Err (plain 6))

unfoldable pub remove_in : Station → ℕ → ℕ → After
remove_in st id now =
    at_place st id (λ i. removed_at (removal_of (motor_at st i) now) st i) (tell st (Err (plain 6)))

-- a look's reply; what it shows stands beside it
abbrev pub looked_in : Station → ℕ → After
looked_in st id = left st (reply (answer.Looked (said_in (look_in st id))))

-- what is asked: each call with its arguments
abbrev pub call_by : Station → Call → CanFrame → After
call_by st (call.Register id host model wait time) f = register_in st id host model wait time
call_by st (call.Start id c now) f = start_in st id c now
call_by st (call.Step id now) f = step_in st id now
call_by st (call.Frame now) f = frame_in st f now
call_by st (call.Look id) f = looked_in st id
call_by st (call.Remove id now) f = remove_in st id now

unfoldable pub call_in : Station → Asked → After
call_in st a = call_by st a.call a.frame

-- ---- a station is document 01's

-- a motor at a taken place: its id, which isn't 0, and what it holds
pub record TakenAs (m : Motor) (i : ℕ) (h : Lone) : Type 0 where
  pub id : m.state.motor_id ≡ i
  pub registered : i ≡ 0 → ⊥
  pub state : m.state ≡ h.state
  pub readings : Holds m.readings h.readings

abbrev pub PlaceAs : Motor → Place → Type 0
PlaceAs m free = m ≡ free_motor
PlaceAs m (taken i h) = TakenAs m i h

abbrev pub PlacesAs : List Motor → List Place → Type 0
PlacesAs [] [] = Unit {0}
PlacesAs [] (p ∷ s) = ⊥
PlacesAs (m ∷ ms) [] = ⊥
PlacesAs (m ∷ ms) (p ∷ s) = PlaceAs m p × PlacesAs ms s

-- st is good, and s is what it holds
pub record Shows (st : Station) (s : List Place) : Type 0 where
  pub eight : length st.motors ≡ most_motors
  pub places : PlacesAs st.motors s

-- ---- the functions answer as document 01's station does

-- a reply, and a good station that holds what that one holds
pub record LeavesAs (r : After) (a : Reply × List Place) : Type 0 where
  pub answer : gives r.replied ≡ a.0
  pub station : Shows r.station a.1

abbrev pub reply_of : Result Seen Refusal → Reply
reply_of (Ok v) = shows v
reply_of (Err n) = gives (reply (answer.Looked (Err n)))
