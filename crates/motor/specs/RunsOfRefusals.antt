-- The numbers of start, step, removal and frame in their order, and the counts at their maximum, as runs that antt computes. Assumes
-- nothing.
use Rattle.std.specs.Prelude.{◌-◌, ◌^◌, true, List, [], ◌∷◌, map, pos, refl, None, Ok, Err}
use Rattle.codec.specs.declared.error.Refusal.TheVariants as refusal
use Rattle.codec.specs.declared.model.Model.TheVariants.{Rs00}
use Rattle.codec.specs.declared.protocol.ParameterValue.TheVariants as value
use Rattle.codec.specs.Kinds.{among, listed_ids, int8_ids, kind_of, parameter_info}
use Rattle.codec.specs.Replies.{zeros}
use Rattle.motor.specs.declared.engine.command.Command.TheVariants as command
use Rattle.motor.specs.declared.engine.command.Outcome.TheVariants as outcome
use Rattle.motor.specs.Calls.{new_state, no_ping}
use Rattle.motor.specs.Lone.{Lone, hears, lone_removal}
use Rattle.motor.specs.Readings as chain
use Rattle.motor.specs.Receive.{accepts_frame, is_out_of_time, counted_at, ping_after, next_sequence, feedback_after, fault_after, told_by, is_read, read_status, read_id, read_stored, frame_said, state_after, readings_after, state_with}
use Rattle.motor.specs.Runs.{bytes, held, start, step, frame, fresh, status, reply, heard, sent, waiting, finished, finished_with, refused, passed, runs, after_inputs, Row, run, number, readings, removal, RowsHold}
use Rattle.motor.specs.engine.Run.{no_operation}

-- ---- start, step and removal

abbrev pub refusals : List Row
refusals =
    -- 7 before 8 before 9 before 2: one call, more of which applies the earlier it stands
    run (fresh 0xFD Rs00 0)
    (start command.Enable 100
    ∷ start (command.PingWithHostId 256 60001) 99
    ∷ start (command.PingWithHostId 256 60001) 1000000000000001
    ∷ start (command.PingWithHostId 256 60001) 110
    ∷ status 120
    ∷ step 120
    ∷ start (command.PingWithHostId 256 60001) 120
    ∷ start (command.PingWithHostId 256 60000) 120
    ∷ start (command.PingWithHostId 255 60000) 120
    ∷ [])
    (sent 340 0x0300FD01 zeros
    ∷ refused refusal.TimeOutOfRange
    ∷ refused refusal.TimeOutOfRange
    ∷ refused refusal.OperationRunning
    ∷ passed
    ∷ finished outcome.Done
    ∷ refused refusal.TimeoutTooLong
    ∷ refused refusal.HostIdOutOfRange
    ∷ sent 60120 0x0000FF01 zeros
    ∷ [])
    -- 2 of a read; 19; 9 before 12; 10 (listed or not is looked at before the kind); 11; a refusal leaves the clock
    ∷ run (fresh 0xFD Rs00 0)
    (start (command.GetParameterWithHostId 0x7005 256 0) 300
    ∷ start (command.SetDeviceId 0) 290
    ∷ start (command.SetProtocol 3 60001) 280
    ∷ start (command.SetProtocol 3 0) 270
    ∷ start (command.WriteParameter 0x200D (value.U8 0)) 260
    ∷ start (command.WriteParameter 0x7005 (value.U8 2)) 250
    ∷ step 240
    ∷ step 100
    ∷ step 99
    ∷ step 1000000000000001
    ∷ [])
    (refused refusal.HostIdOutOfRange
    ∷ refused refusal.NewDeviceIdZero
    ∷ refused refusal.TimeoutTooLong
    ∷ refused refusal.UnknownProtocol
    ∷ refused refusal.UnlistedParameter
    ∷ refused refusal.KindDiffers
    ∷ refused refusal.NothingRunning
    ∷ refused refusal.NothingRunning
    ∷ refused refusal.TimeOutOfRange
    ∷ refused refusal.TimeOutOfRange
    ∷ [])
    -- the time before 19, 12, 10
    ∷ run (fresh 0xFD Rs00 0) (start (command.SetDeviceId 0) 99 ∷ start (command.SetProtocol 3 0) 99 ∷ start (command.WriteParameter 0x200D (value.U8 0)) 99 ∷ [])
    (refused refusal.TimeOutOfRange ∷ refused refusal.TimeOutOfRange ∷ refused refusal.TimeOutOfRange ∷ [])
    -- the last time that a call may give
    ∷ run (fresh 0xFD Rs00 0) (start (command.SetActiveReport true) 1000000000000000 ∷ [])
    (finished_with outcome.Done 0x1800FD01 (bytes 1 2 3 4 5 6 1 0) ∷ [])
    -- removal: 7, 8
    ∷ removal (lone_removal (after_inputs (fresh 0xFD Rs00 0) (start command.Enable 100 ∷ [])) 99) (Err refusal.TimeOutOfRange)
    ∷ removal (lone_removal (after_inputs (fresh 0xFD Rs00 0) (start command.Enable 100 ∷ [])) 110) (Err refusal.OperationRunning)
    ∷ removal (lone_removal (fresh 0xFD Rs00 0) 100) (Ok tt)
    ∷ []

pub refusals-hold : RowsHold refusals
unfolding runs after_inputs hears frame_said state_after readings_after accepts_frame is_out_of_time counted_at told_by ping_after next_sequence feedback_after fault_after is_read read_status read_id read_stored among listed_ids int8_ids kind_of parameter_info
refusals-hold = refl

-- ---- frames

-- 96 readings held, of the ids from 1 on
abbrev pub filled : Lone
filled = record { state = new_state 1 0xFD Rs00 0 100; readings = map (λ n. held n (value.U32 0)) (chain.run 96 1) }

-- response count and feedback sequence at 2^64 − 1
abbrev pub counted-out : Lone
counted-out =
    record {
      state = state_with (new_state 1 0xFD Rs00 0 100) 100 (2 ^ 64 - 1) (record { latest = None; sequence = 2 ^ 64 - 1 }) None no_ping no_operation;
      readings = [];
    }

abbrev pub frames : List Row
frames =
    -- 13 before 7 before 14
    run (fresh 0xFD Rs00 0) (frame 0x020002FD zeros 99 ∷ frame 0x110101FD (bytes 5 0x70 0 0 2 0 0 0) 99 ∷ frame 0x110101FD (bytes 5 0x70 0 0 2 0 0 0) 110 ∷ [])
    (heard (Err refusal.FrameNotAccepted)
    ∷ heard (Err refusal.TimeOutOfRange)
    ∷ heard (Err (refusal.ReadFailed 0x7005 1))
    ∷ [])
    -- 14 before 15; an id that is held has room
    ∷ run filled
    (frame 0x110101FD (bytes 5 0x70 0 0 2 0 0 0) 110 ∷ reply (bytes 5 0x70 0 0 2 0 0 0) 120 ∷ reply (bytes 7 0 0 0 2 0 0 0) 130 ∷ [])
    (heard (Err (refusal.ReadFailed 0x7005 1)) ∷ heard (Err refusal.ReadingsFull) ∷ passed ∷ [])
    -- 14 leaves the value held; 14 and 15 raise the count and move the clock
    ∷ readings (after_inputs (fresh 0xFD Rs00 0) (reply (bytes 5 0x70 0 0 2 0 0 0) 110 ∷ frame 0x110101FD (bytes 5 0x70 0 0 3 0 0 0) 120 ∷ [])).readings
    (held 0x7005 (value.I8 (pos 2)) ∷ [])
    ∷ number (after_inputs filled (frame 0x110101FD (bytes 5 0x70 0 0 2 0 0 0) 110 ∷ reply (bytes 5 0x70 0 0 2 0 0 0) 120 ∷ [])).state.responses 2
    ∷ number (after_inputs filled (reply (bytes 5 0x70 0 0 2 0 0 0) 120 ∷ [])).state.clock 120
    -- a type 2 payload beginning 00 C4 56 is feedback like any other (but in get_version's wait, specs/RunsOfVersion)
    ∷ number (after_inputs (fresh 0xFD Rs00 0) (frame 0x020001FD (bytes 0 0xC4 0x56 1 2 3 4 0) 110 ∷ [])).state.feedback.sequence 1
    -- the count wraps, so that it isn't greater than at the send; the sequence stays
    ∷ number (after_inputs counted-out (frame 0x190001FD zeros 110 ∷ [])).state.responses 0
    ∷ number (after_inputs counted-out (status 110 ∷ [])).state.feedback.sequence 0xFFFFFFFFFFFFFFFF
    ∷ run counted-out (start command.SaveParameters 100 ∷ frame 0x190001FD zeros 120 ∷ step 120 ∷ [])
    (sent 600 0x1600FD01 (bytes 1 2 3 4 5 6 7 8) ∷ passed ∷ waiting 600 ∷ [])
    ∷ run counted-out (start command.Enable 100 ∷ status 120 ∷ step 120 ∷ [])
    (sent 340 0x0300FD01 zeros ∷ passed ∷ waiting 340 ∷ [])
    ∷ []

pub frames-hold : RowsHold frames
unfolding runs after_inputs chain.run hears frame_said state_after readings_after accepts_frame is_out_of_time counted_at told_by ping_after next_sequence feedback_after fault_after is_read read_status read_id read_stored among listed_ids int8_ids kind_of parameter_info
frames-hold = refl
