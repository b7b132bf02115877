-- What a line does to a station, and what is answered. Definitions only.
use Rattle.std.specs.Prelude.{ℕ, Bool, true, false, cond, List, [], length, take}
use Rattle.codec.specs.declared.bus.CanFrame.{CanFrame}
use Rattle.session.specs.declared.event.Event.{Event}
use Rattle.session.specs.declared.event.Event.TheVariants as event
use Rattle.session.specs.declared.event.Line.{Line}
use Rattle.session.specs.declared.event.Other.{Other}
use Rattle.session.specs.declared.event.Other.TheVariants as other
use Rattle.session.specs.Lines.{shown_in, read_line}
use Rattle.station.specs.declared.call.Answer.{Answer}
use Rattle.station.specs.declared.call.Answer.TheVariants as answer
use Rattle.station.specs.declared.call.Asked.{Asked}
use Rattle.station.specs.declared.call.Call.{Call}
use Rattle.station.specs.declared.call.Call.TheVariants as call
use Rattle.station.specs.declared.call.Replied.{Replied}
use Rattle.station.specs.declared.station.Station.{Station}
use Rattle.station.specs.Calls.{time_of}
use Rattle.station.specs.Stations.{new_station, look_in, call_in}
use Rattle.answers.specs.Said.{ok_text, told_text, said_text}
use Rattle.answers.specs.Looks.{looked_text}
use Rattle.replay.specs.Reasons.{error_text}

-- ---- a call

abbrev pub answer_text : Answer → Replied → ℕ → List ℕ
answer_text (answer.Told k) r time = told_text k
answer_text (answer.Moved s) r time = said_text s r.frame r.result time
answer_text (answer.Looked k) r time = told_text k

-- a reply; of a look what it shows stands beside it
unfoldable pub replied_text : Replied → ℕ → List ℕ
replied_text r time = answer_text r.answer r time

abbrev pub asked : Call → CanFrame → Asked
asked c f = record { call = c; frame = f }

abbrev pub called_text : Station → Call → CanFrame → List ℕ
called_text st c f = replied_text (call_in st (asked c f)).replied (time_of c)

-- what is answered to a call: to a look, all that is held
unfoldable pub call_text : Station → Call → CanFrame → List ℕ
call_text st (call.Register id host model wait time) f = called_text st (call.Register id host model wait time) f
call_text st (call.Start id c time) f = called_text st (call.Start id c time) f
call_text st (call.Step id time) f = called_text st (call.Step id time) f
call_text st (call.Frame time) f = called_text st (call.Frame time) f
call_text st (call.Look id) f = looked_text (look_in st id)
call_text st (call.Remove id time) f = called_text st (call.Remove id time) f

-- ---- what a line says besides

unfoldable pub is_fresh : Other → Bool
is_fresh other.Nothing = false
is_fresh (other.Error reason) = false
is_fresh other.Fresh = true

unfoldable pub station_of_other : Station → Other → Station
station_of_other st o = cond (is_fresh o) new_station st

unfoldable pub other_text : Other → List ℕ
other_text other.Nothing = []
other_text (other.Error reason) = error_text reason
other_text other.Fresh = ok_text

-- ---- lines

-- the station after an event
unfoldable pub station_after : Station → Event → CanFrame → Station
station_after st (event.Call c) f = (call_in st (asked c f)).station
station_after st (event.Other o) f = station_of_other st o

-- what is answered
unfoldable pub text_after : Station → Event → CanFrame → List ℕ
text_after st (event.Call c) f = call_text st c f
text_after st (event.Other o) f = other_text o

-- a line without its LF, and one CR at its end dropped
abbrev pub shown : List ℕ → List ℕ
shown line = take (shown_in line (length line)) line

unfoldable pub line_says : List ℕ → Line
line_says line = read_line (shown line)

abbrev pub station_after_line : Station → List ℕ → Station
station_after_line st line = station_after st (line_says line).event (line_says line).frame

abbrev pub text_after_line : Station → List ℕ → List ℕ
text_after_line st line = text_after st (line_says line).event (line_says line).frame
