-- What the calls of the code return, and lists of such returns: the words in which the demands are said of the code. Definitions only.
use Rattle.std.specs.Prelude.{ℕ, zero, suc, ◌≡◌, cond, List, [], ◌∷◌, take, Ok, Err, Result, Option, None, Some}
use Rattle.codec.specs.declared.bus.CanFrame.{CanFrame}
use Rattle.motor.specs.declared.engine.operation.Effect.TheVariants as effect
use Rattle.motor.specs.declared.readings.Entry.{Entry}
use Rattle.motor.specs.engine.Run.{no_operation}
use Rattle.motor.specs.Calls.{no_command, state_by}
use Rattle.motor.specs.Lone.{Lone, lone_look}
use Rattle.motor.specs.Receive.{counted_at}
use Rattle.motor.specs.Numbers.{plain}
use Rattle.station.specs.declared.call.Answer.TheVariants as answer
use Rattle.station.specs.declared.call.Asked.{Asked}
use Rattle.station.specs.declared.call.Call.{Call}
use Rattle.station.specs.declared.call.Call.TheVariants as call
use Rattle.station.specs.declared.station.After.{After}
use Rattle.codec.specs.declared.error.Refusal.{Refusal}
use Rattle.motor.specs.declared.motor.Seen.{Seen}
use Rattle.station.specs.declared.station.Station.{Station}
use Rattle.station.specs.Calls.{Reply, reply, gives, shows}
use Rattle.station.specs.Station.{Place, source_of}
use Rattle.station.specs.Stations.{place_of, taken_place, motor_at, with_motor, register_in, start_in, step_in, frame_in, look_in, remove_in, reply_of, Shows}
use Rattle.station.specs.History.{Told, removes}

-- ---- what a call returns

-- A look returns no station, and changes none.
pub data Out : Type 0 where
  after : After → Out
  looked : Result Seen Refusal → Out

unfoldable pub reply_in : Out → Reply
reply_in (after r) = gives r.replied
reply_in (looked r) = reply_of r

unfoldable pub next : Station → Out → Station
next st (after r) = r.station
next st (looked r) = st

-- by the definitions, whatever the station
unfoldable pub given_by : Station → Call → CanFrame → Out
given_by st (call.Register m h k w t) f = after (register_in st m h k w t)
given_by st (call.Start m c t) f = after (start_in st m c t)
given_by st (call.Step m t) f = after (step_in st m t)
given_by st (call.Frame t) f = after (frame_in st f t)
given_by st (call.Look m) f = looked (look_in st m)
given_by st (call.Remove m t) f = after (remove_in st m t)

abbrev pub given : Station → Asked → Out
given st a = given_by st a.call a.frame

-- ---- what is seen of a station

-- a reply and the next station are document 01's
abbrev pub Follows : Station → Out → Reply × List Place → Type 0
Follows st o r = (reply_in o ≡ r.0) × Shows (next st o) r.1

-- What a look at m shows: clock, counts, feedback, fault report, ping reply, readings, gains and operation.
unfoldable pub seen : Station → ℕ → Reply
seen st m = reply_of (look_in st m)

unfoldable pub shown : Option Lone → Reply
shown None = gives (reply (answer.Looked (Err (plain 6))))
shown (Some h) = shows (lone_look h)

-- the readings that a look shows
abbrev pub readings_in : Result Seen Refusal → List Entry
readings_in (Ok v) = take v.readings.count v.readings.entries
readings_in (Err r) = []

-- ---- where a call goes, and what it changes there

-- the place that a call is for: the first free one for a registration, else that of the id
unfoldable pub place_by : Station → Call → CanFrame → ℕ
place_by st (call.Register m h k w t) f = place_of st.motors 0
place_by st (call.Start m c t) f = taken_place st.motors m
place_by st (call.Step m t) f = taken_place st.motors m
place_by st (call.Frame t) f = taken_place st.motors (source_of f)
place_by st (call.Look m) f = taken_place st.motors m
place_by st (call.Remove m t) f = taken_place st.motors m

abbrev pub place_for : Station → Asked → ℕ
place_for st a = place_by st a.call a.frame

-- the motor at a place with the clock at this time, and its response count raised, or its operation over
abbrev pub raised_at : Station → ℕ → ℕ → Station
raised_at st i now = with_motor st i (record { state = counted_at (motor_at st i).state now; readings = (motor_at st i).readings })

abbrev pub failed_at : Station → ℕ → ℕ → Station
failed_at st i now =
    with_motor st i (record { state = state_by (motor_at st i).state now no_command no_operation effect.Nothing; readings = (motor_at st i).readings })

-- ---- runs

-- The station after the first k of these returns, and after all.
unfoldable pub reached : Station → List Out → ℕ → Station
reached st os zero = st
reached st [] (suc k) = st
reached st (o ∷ os) (suc k) = reached (next st o) os k

unfoldable pub ending : Station → List Out → Station
ending st [] = st
ending st (o ∷ os) = ending (next st o) os

-- The calls with their replies, to the removal of m or the end.
unfoldable pub answers_of : ℕ → List Asked → List Out → List Told
answers_of m [] os = []
answers_of m (a ∷ cs) [] = []
answers_of m (a ∷ cs) (o ∷ os) = (a, reply_in o) ∷ cond (removes m a.call (reply_in o)) [] (answers_of m cs os)
