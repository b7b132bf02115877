-- The frames that are handed in, and the stations to begin with. Definitions only.
use Rattle.std.specs.Prelude.{ℕ, zero, suc, ◌+◌, ◌-◌, ◌/◌, ◌%◌, true, cond, List, [], ◌∷◌, eqb, ltb, Some}
use Rattle.codec.specs.declared.bus.CanFrame.{CanFrame}
use Rattle.codec.specs.declared.model.Model.TheVariants as model
use Rattle.codec.specs.Ids.{build_ext_id}
use Rattle.motor.specs.Limits.{most_readings}
use Rattle.station.specs.declared.station.Station.{Station}
use Rattle.station.specs.Stations.{new_station, register_in, frame_in}

-- ---- frames

abbrev pub frame_from : ℕ → ℕ → List ℕ → CanFrame
frame_from id type bytes = record { arbitration_id = build_ext_id type id 253; «data» = bytes; dlc = 8; is_extended = true; is_rx = true }

abbrev pub status_frame : ℕ → CanFrame
status_frame id = frame_from id 2 (127 ∷ 255 ∷ 127 ∷ 255 ∷ 127 ∷ 255 ∷ 0 ∷ 250 ∷ [])

abbrev pub read_reply : ℕ → ℕ → CanFrame
read_reply id parameter = frame_from id 17 (parameter % 256 ∷ parameter / 256 ∷ 0 ∷ 0 ∷ 0 ∷ 0 ∷ 0 ∷ 0 ∷ [])

-- ---- stations

-- the first parameter held; the others follow it
abbrev pub first : ℕ
first = 12288

unfoldable pub last_parameter : ℕ → ℕ
last_parameter held = cond (eqb held 0) first (cond (ltb most_readings held) (first + most_readings - 1) (first + held - 1))

-- the motors 1, 2, ..
unfoldable pub registered_of : ℕ → Station
registered_of zero = new_station
registered_of (suc k) = (register_in (registered_of k) (suc k) 253 (Some model.Rs00) 0 0).station

-- a reply of each of them for one parameter
unfoldable pub read_by_all : Station → ℕ → ℕ → Station
read_by_all st zero parameter = st
read_by_all st (suc k) parameter = (frame_in (read_by_all st k parameter) (read_reply (suc k) parameter) 0).station

-- and so many of them
unfoldable pub loaded_to : ℕ → ℕ → Station
loaded_to motors zero = registered_of motors
loaded_to motors (suc k) = read_by_all (loaded_to motors k) motors (last_parameter (suc k))
