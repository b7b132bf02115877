-- Frames handed in round robin over the motors of a loaded station, and how many were not refused. Definitions only.
use Rattle.std.specs.Prelude.{ℕ, zero, suc, ◌+◌, cond, eqb, ltb, Result, Ok, Err, ⊤}
use Rattle.codec.specs.declared.error.Refusal.{Refusal}
use Rattle.codec.specs.declared.bus.CanFrame.{CanFrame}
use Rattle.station.specs.declared.call.Answer.{Answer}
use Rattle.station.specs.declared.call.Answer.TheVariants as answer
use Rattle.station.specs.declared.call.Replied.{Replied}
use Rattle.station.specs.declared.station.Station.{Station}
use Rattle.station.specs.Stations.{frame_in}
use Rattle.station_abi.specs.Loaded.{status_frame, read_reply, last_parameter, loaded_to}

-- at most 8
unfoldable pub motors_of : ℕ → ℕ
motors_of motors = cond (ltb 8 motors) 8 motors

-- round robin
unfoldable pub next_id : ℕ → ℕ → ℕ
next_id id motors = cond (ltb id motors) (id + 1) 1

unfoldable pub next_frame : ℕ → ℕ → ℕ → CanFrame
next_frame kind id parameter = cond (eqb kind 0) (status_frame id) (read_reply id parameter)

-- 1 where nothing was refused
abbrev pub is_passed : Result ⊤ Refusal → ℕ
is_passed (Ok tt) = 1
is_passed (Err r) = 0

abbrev pub passed_in : Answer → ℕ
passed_in (answer.Told said) = is_passed said
passed_in (answer.Moved said) = 0
passed_in (answer.Looked said) = 0

unfoldable pub passed_of : Replied → ℕ
passed_of r = passed_in r.answer

-- ---- so many frames

-- of n frames handed in one after the other from motor id on: how many were not refused
unfoldable pub taken_from : ℕ → ℕ → ℕ → Station → ℕ → ℕ → ℕ
taken_from motors kind parameter st id zero = 0
taken_from motors kind parameter st id (suc n) =
    let after = frame_in st (next_frame kind id parameter) 0 in
    passed_of after.replied + taken_from motors kind parameter after.station (next_id id motors) n

-- on a station whose motors hold so many readings each
unfoldable pub frames_by_value : ℕ → ℕ → ℕ → ℕ → ℕ
frames_by_value motors held kind times =
    taken_from (motors_of motors) kind (last_parameter held) (loaded_to (motors_of motors) held) 1 times

-- and as many on the lent station
abbrev pub frames_in_place : ℕ → ℕ → ℕ → ℕ → ℕ
frames_in_place motors held kind times = frames_by_value motors held kind times
