-- controlled_stop and motion commands, as runs that antt computes. Assumes nothing. Words: 3FC00000 is 1.5, 41490FDB 4π (the limit of
-- a position, raw FFFE), 42480000 is 50 and 3F000000 is 0.5, a tenth of the greatest gains of rs-00 (500 and 5), raw 1999.
use Rattle.std.specs.Prelude.{ℕ, List, [], ◌∷◌, refl}
use Rattle.std.specs.Float.Ieee.{to_unsigned, mul, add, sub, div, neg, lt, of_int, of_bits, to_bits}
use Rattle.codec.specs.declared.error.Refusal.TheVariants as refusal
use Rattle.codec.specs.declared.model.Model.TheVariants.{Rs00}
use Rattle.codec.specs.declared.registers.ControlMode.TheVariants as mode
use Rattle.codec.specs.Kinds.{among, listed_ids, int8_ids, uint8_ids, uint16_ids, uint32_ids, kind_of, parameter_info}
use Rattle.codec.specs.Modes.{control_mode_from_raw}
use Rattle.codec.specs.Motion.{clamp, motion_raw, gain_raw}
use Rattle.motor.specs.declared.engine.command.Command.{Command}
use Rattle.motor.specs.declared.engine.command.Command.TheVariants as command
use Rattle.motor.specs.declared.engine.command.Outcome.TheVariants as outcome
use Rattle.motor.specs.declared.engine.operation.Gains.{Gains}
use Rattle.motor.specs.Lone.{hears}
use Rattle.motor.specs.Receive.{accepts_frame, is_out_of_time, counted_at, ping_after, next_sequence, feedback_after, fault_after, told_by, is_read, read_status, read_id, read_stored, frame_said, state_after, readings_after}
use Rattle.motor.specs.Runs.{word, bytes, Input, start, step, fresh, status, reply, sent, waiting, finished, finished_with, refused, passed, runs, after_inputs, Row, run, gains, RowsHold}
use Rattle.motor.specs.engine.Script.{stop_gain}

-- ---- modes 2, 1 and 5 write; 3 is 17

abbrev pub written : List Row
written =
    -- the last write comes together with finished where the write wait is 0
    run (fresh 0xFD Rs00 0) (start (command.ControlledStop 200) 100 ∷ reply (bytes 5 0x70 0 0 2 0 0 0) 120 ∷ step 120 ∷ [])
    (sent 300 0x1100FD01 (bytes 5 0x70 0 0 0 0 0 0) ∷ passed ∷ finished_with (outcome.Mode mode.Velocity) 0x1200FD01 (bytes 0x0A 0x70 0 0 0 0 0 0) ∷ [])
    ∷ run (fresh 0xFD Rs00 0) (start (command.ControlledStop 0) 100 ∷ reply (bytes 5 0x70 0 0 1 0 0 0) 120 ∷ step 120 ∷ [])
    (sent 250 0x1100FD01 (bytes 5 0x70 0 0 0 0 0 0) ∷ passed ∷ finished_with (outcome.Mode mode.Position) 0x1200FD01 (bytes 0x24 0x70 0 0 0 0 0 0) ∷ [])
    -- with a write wait it is acknowledged
    ∷ run (fresh 0xFD Rs00 1) (start (command.ControlledStop 200) 100 ∷ reply (bytes 5 0x70 0 0 2 0 0 0) 120 ∷ step 120 ∷ status 140 ∷ step 140 ∷ [])
    (sent 300 0x1100FD01 (bytes 5 0x70 0 0 0 0 0 0)
    ∷ passed
    ∷ sent 240 0x1200FD01 (bytes 0x0A 0x70 0 0 0 0 0 0)
    ∷ passed
    ∷ finished (outcome.Mode mode.Velocity)
    ∷ [])
    -- csp writes the angle that it reads, and not one that was held before (1.0)
    ∷ run (fresh 0xFD Rs00 0)
    (reply (bytes 0x19 0x70 0 0 0 0 0x80 0x3F) 100
    ∷ start (command.ControlledStop 200) 120
    ∷ reply (bytes 5 0x70 0 0 5 0 0 0) 140
    ∷ step 140
    ∷ step 150
    ∷ reply (bytes 0x19 0x70 0 0 0 0 0xC0 0x3F) 160
    ∷ step 160
    ∷ [])
    (passed
    ∷ sent 320 0x1100FD01 (bytes 5 0x70 0 0 0 0 0 0)
    ∷ passed
    ∷ sent 340 0x1100FD01 (bytes 0x19 0x70 0 0 0 0 0 0)
    ∷ waiting 340
    ∷ passed
    ∷ finished_with (outcome.Mode mode.PositionCsp) 0x1200FD01 (bytes 0x16 0x70 0 0 0 0 0xC0 0x3F)
    ∷ [])
    -- 17
    ∷ run (fresh 0xFD Rs00 0) (start (command.ControlledStop 200) 100 ∷ reply (bytes 5 0x70 0 0 3 0 0 0) 120 ∷ step 120 ∷ step 121 ∷ [])
    (sent 300 0x1100FD01 (bytes 5 0x70 0 0 0 0 0 0) ∷ passed ∷ refused refusal.UnsupportedRunMode ∷ refused refusal.NothingRunning ∷ [])
    ∷ []

pub written-hold : RowsHold written
unfolding runs hears frame_said state_after readings_after accepts_frame is_out_of_time counted_at told_by ping_after next_sequence feedback_after fault_after is_read read_status read_id read_stored among listed_ids int8_ids uint8_ids uint16_ids uint32_ids kind_of parameter_info control_mode_from_raw
written-hold = refl

-- ---- mode 0 sends the angle that it reads (4π) as a motion command

-- a motion command with these gains, else zero; its frame comes with finished
abbrev pub motion : ℕ → ℕ → Command
motion kp kd = command.SendCmdMit (word 0) (word 0) (word kp) (word kd) (word 0)

abbrev pub both : ℕ → ℕ → Gains
both kp kd = record { kp = word kp; kd = word kd }

-- a stop in mit mode from time 200 on
abbrev pub stopping : List Input
stopping =
    start (command.ControlledStop 200) 200
    ∷ reply (bytes 5 0x70 0 0 0 0 0 0) 220
    ∷ step 220
    ∷ reply (bytes 0x19 0x70 0 0 0xDB 0x0F 0x49 0x41) 240
    ∷ step 240
    ∷ []

abbrev pub moved : List Row
moved =
    -- no gains yet, so 0: both become a tenth of their maximum, and are held
    run (fresh 0xFD Rs00 0) stopping
    (sent 400 0x1100FD01 (bytes 5 0x70 0 0 0 0 0 0)
    ∷ passed
    ∷ sent 420 0x1100FD01 (bytes 0x19 0x70 0 0 0 0 0 0)
    ∷ passed
    ∷ finished_with (outcome.Mode mode.Mit) 0x017FFF01 (bytes 0xFF 0xFE 0x7F 0xFF 0x19 0x99 0x19 0x99)
    ∷ [])
    ∷ gains (after_inputs (fresh 0xFD Rs00 0) stopping).state.gains (both 0x42480000 0x3F000000)
    -- 0.02 times the maximum in f32, 41200000 (10) and 3DCCCCCC, isn't below: kept
    ∷ run (fresh 0xFD Rs00 0) (start (motion 0x41200000 0x3DCCCCCC) 100 ∷ stopping)
    (finished_with outcome.Done 0x017FFF01 (bytes 0x7F 0xFF 0x7F 0xFF 0x05 0x1E 0x05 0x1E)
    ∷ sent 400 0x1100FD01 (bytes 5 0x70 0 0 0 0 0 0)
    ∷ passed
    ∷ sent 420 0x1100FD01 (bytes 0x19 0x70 0 0 0 0 0 0)
    ∷ passed
    ∷ finished_with (outcome.Mode mode.Mit) 0x017FFF01 (bytes 0xFF 0xFE 0x7F 0xFF 0x05 0x1E 0x05 0x1E)
    ∷ [])
    ∷ gains (after_inputs (fresh 0xFD Rs00 0) (start (motion 0x41200000 0x3DCCCCCC) 100 ∷ stopping)).state.gains (both 0x41200000 0x3DCCCCCC)
    -- the words below those are replaced
    ∷ gains (after_inputs (fresh 0xFD Rs00 0) (start (motion 0x411FFFFF 0x3DCCCCCB) 100 ∷ stopping)).state.gains (both 0x42480000 0x3F000000)
    -- held as given before any clamp: 600 and 6
    ∷ gains (after_inputs (fresh 0xFD Rs00 0) (start (motion 0x44160000 0x40C00000) 100 ∷ stopping)).state.gains (both 0x44160000 0x40C00000)
    -- a NaN isn't below, and is kept with its bits; sent, it is 0. A negative gain is below
    ∷ run (fresh 0xFD Rs00 0) (start (motion 0x7FC00001 0xBF800000) 100 ∷ stopping)
    (finished_with outcome.Done 0x017FFF01 (bytes 0x7F 0xFF 0x7F 0xFF 0 0 0 0)
    ∷ sent 400 0x1100FD01 (bytes 5 0x70 0 0 0 0 0 0)
    ∷ passed
    ∷ sent 420 0x1100FD01 (bytes 0x19 0x70 0 0 0 0 0 0)
    ∷ passed
    ∷ finished_with (outcome.Mode mode.Mit) 0x017FFF01 (bytes 0xFF 0xFE 0x7F 0xFF 0 0 0x19 0x99)
    ∷ [])
    ∷ gains (after_inputs (fresh 0xFD Rs00 0) (start (motion 0x7FC00001 0xBF800000) 100 ∷ stopping)).state.gains (both 0x7FC00001 0x3F000000)
    ∷ []

pub moved-hold : RowsHold moved
unfolding runs after_inputs hears frame_said state_after readings_after accepts_frame is_out_of_time counted_at told_by ping_after next_sequence feedback_after fault_after is_read read_status read_id read_stored among listed_ids int8_ids uint8_ids uint16_ids uint32_ids kind_of parameter_info control_mode_from_raw stop_gain motion_raw gain_raw clamp to_unsigned mul add sub div neg lt of_int of_bits to_bits
moved-hold = refl
