-- Writes, csp and pp, as runs that antt computes. Assumes nothing. Words: 3F800000 is 1, 40000000 is 2, C0000000 is −2, 40400000 is 3.
use Rattle.std.specs.Prelude.{List, [], ◌∷◌, refl}
use Rattle.codec.specs.declared.error.Refusal.TheVariants as refusal
use Rattle.codec.specs.declared.model.Model.TheVariants.{Rs00}
use Rattle.codec.specs.declared.protocol.ParameterValue.TheVariants as value
use Rattle.codec.specs.declared.registers.ControlMode.TheVariants as mode
use Rattle.codec.specs.Kinds.{among, listed_ids, int8_ids, uint8_ids, uint16_ids, uint32_ids, kind_of, parameter_info}
use Rattle.codec.specs.Replies.{zeros}
use Rattle.motor.specs.declared.engine.command.Command.TheVariants as command
use Rattle.motor.specs.declared.engine.command.Outcome.TheVariants as outcome
use Rattle.motor.specs.engine.Hosts.{host_candidates}
use Rattle.motor.specs.Lone.{hears}
use Rattle.motor.specs.Receive.{accepts_frame, is_out_of_time, counted_at, ping_after, next_sequence, feedback_after, fault_after, told_by, is_read, read_status, read_id, read_stored, frame_said, state_after, readings_after}
use Rattle.motor.specs.Runs.{word, bytes, start, step, fresh, status, sent, finished, finished_with, refused, passed, runs, Row, run, RowsHold}
use Rattle.motor.specs.engine.Script.{abs_of}

abbrev pub writes : List Row
writes =
    -- write wait 0: with finished from the call, to the own host
    run (fresh 0xAA Rs00 0) (start (command.WriteParameter 0x7024 (value.F32 (word 0x3F800000))) 100 ∷ [])
    (finished_with outcome.Done 0x1200AA01 (bytes 0x24 0x70 0 0 0 0 0x80 0x3F) ∷ [])
    -- write wait 1: a window of 120 for each candidate
    ∷ run (fresh 0xFD Rs00 1) (start (command.WriteParameter 0x2004 (value.U32 0x12345678)) 100 ∷ step 220 ∷ step 340 ∷ step 460 ∷ [])
    (sent 220 0x1200FD01 (bytes 0x04 0x20 0 0 0x78 0x56 0x34 0x12)
    ∷ sent 340 0x1200FF01 (bytes 0x04 0x20 0 0 0x78 0x56 0x34 0x12)
    ∷ sent 460 0x1200FE01 (bytes 0x04 0x20 0 0 0x78 0x56 0x34 0x12)
    ∷ refused refusal.WindowsGone
    ∷ [])
    -- a longer one as given, and acknowledged
    ∷ run (fresh 0xFD Rs00 500) (start (command.SetVelocityTarget (word 0xC0000000)) 100 ∷ status 120 ∷ step 599 ∷ [])
    (sent 600 0x1200FD01 (bytes 0x0A 0x70 0 0 0 0 0 0xC0) ∷ passed ∷ finished outcome.Done ∷ [])
    -- set_mode
    ∷ run (fresh 0xFD Rs00 0) (start (command.SetMode mode.PositionCsp) 100 ∷ [])
    (finished_with outcome.Done 0x1200FD01 (bytes 5 0x70 0 0 5 0 0 0) ∷ [])
    ∷ []

pub writes-hold : RowsHold writes
unfolding runs hears frame_said state_after readings_after accepts_frame is_out_of_time counted_at told_by ping_after next_sequence feedback_after fault_after is_read read_status read_id read_stored among listed_ids int8_ids uint8_ids uint16_ids uint32_ids kind_of parameter_info host_candidates
writes-hold = refl

abbrev pub positions : List Row
positions =
    -- csp, write wait 0: the mode, enable due at that time; then the limit's absolute value, and the target with finished
    run (fresh 0xFD Rs00 0) (start (command.SendCmdPosVelCsp (word 0x3F800000) (word 0xC0000000)) 100 ∷ step 100 ∷ status 120 ∷ step 120 ∷ step 120 ∷ [])
    (sent 100 0x1200FD01 (bytes 5 0x70 0 0 5 0 0 0)
    ∷ sent 340 0x0300FD01 zeros
    ∷ passed
    ∷ sent 120 0x1200FD01 (bytes 0x17 0x70 0 0 0 0 0 0x40)
    ∷ finished_with outcome.Done 0x1200FD01 (bytes 0x16 0x70 0 0 0 0 0x80 0x3F)
    ∷ [])
    -- write wait 1: each write is acknowledged
    ∷ run (fresh 0xFD Rs00 1)
    (start (command.SendCmdPosVelCsp (word 0x3F800000) (word 0x40000000)) 100
    ∷ status 120
    ∷ step 120
    ∷ status 140
    ∷ step 140
    ∷ status 160
    ∷ step 160
    ∷ status 180
    ∷ step 180
    ∷ [])
    (sent 220 0x1200FD01 (bytes 5 0x70 0 0 5 0 0 0)
    ∷ passed
    ∷ sent 360 0x0300FD01 zeros
    ∷ passed
    ∷ sent 260 0x1200FD01 (bytes 0x17 0x70 0 0 0 0 0 0x40)
    ∷ passed
    ∷ sent 280 0x1200FD01 (bytes 0x16 0x70 0 0 0 0 0x80 0x3F)
    ∷ passed
    ∷ finished outcome.Done
    ∷ [])
    -- a limit that is a NaN, 0 or −0 is left out
    ∷ run (fresh 0xFD Rs00 0) (start (command.SendCmdPosVelCsp (word 0x3F800000) (word 0x7FC00000)) 100 ∷ step 100 ∷ status 120 ∷ step 120 ∷ [])
    (sent 100 0x1200FD01 (bytes 5 0x70 0 0 5 0 0 0)
    ∷ sent 340 0x0300FD01 zeros
    ∷ passed
    ∷ finished_with outcome.Done 0x1200FD01 (bytes 0x16 0x70 0 0 0 0 0x80 0x3F)
    ∷ [])
    ∷ run (fresh 0xFD Rs00 0) (start (command.SendCmdPosVelCsp (word 0x3F800000) (word 0)) 100 ∷ step 100 ∷ status 120 ∷ step 120 ∷ [])
    (sent 100 0x1200FD01 (bytes 5 0x70 0 0 5 0 0 0)
    ∷ sent 340 0x0300FD01 zeros
    ∷ passed
    ∷ finished_with outcome.Done 0x1200FD01 (bytes 0x16 0x70 0 0 0 0 0x80 0x3F)
    ∷ [])
    ∷ run (fresh 0xFD Rs00 0) (start (command.SendCmdPosVelCsp (word 0x3F800000) (word 0x80000000)) 100 ∷ step 100 ∷ status 120 ∷ step 120 ∷ [])
    (sent 100 0x1200FD01 (bytes 5 0x70 0 0 5 0 0 0)
    ∷ sent 340 0x0300FD01 zeros
    ∷ passed
    ∷ finished_with outcome.Done 0x1200FD01 (bytes 0x16 0x70 0 0 0 0 0x80 0x3F)
    ∷ [])
    -- pp: velocity, acceleration, target
    ∷ run (fresh 0xFD Rs00 0)
    (start (command.SendCmdPosVelPp (word 0x3F800000) (word 0xC0000000) (word 0x40400000)) 100
    ∷ step 100
    ∷ status 120
    ∷ step 120
    ∷ step 120
    ∷ step 120
    ∷ [])
    (sent 100 0x1200FD01 (bytes 5 0x70 0 0 1 0 0 0)
    ∷ sent 340 0x0300FD01 zeros
    ∷ passed
    ∷ sent 120 0x1200FD01 (bytes 0x24 0x70 0 0 0 0 0 0x40)
    ∷ sent 120 0x1200FD01 (bytes 0x25 0x70 0 0 0 0 0x40 0x40)
    ∷ finished_with outcome.Done 0x1200FD01 (bytes 0x16 0x70 0 0 0 0 0x80 0x3F)
    ∷ [])
    -- −∞ is left out
    ∷ run (fresh 0xFD Rs00 0)
    (start (command.SendCmdPosVelPp (word 0x3F800000) (word 0xFF800000) (word 0x40400000)) 100 ∷ step 100 ∷ status 120 ∷ step 120 ∷ step 120 ∷ [])
    (sent 100 0x1200FD01 (bytes 5 0x70 0 0 1 0 0 0)
    ∷ sent 340 0x0300FD01 zeros
    ∷ passed
    ∷ sent 120 0x1200FD01 (bytes 0x25 0x70 0 0 0 0 0x40 0x40)
    ∷ finished_with outcome.Done 0x1200FD01 (bytes 0x16 0x70 0 0 0 0 0x80 0x3F)
    ∷ [])
    -- enable that nobody acknowledges ends it
    ∷ run (fresh 0xFD Rs00 0)
    (start (command.SendCmdPosVelCsp (word 0x3F800000) (word 0)) 100 ∷ step 100 ∷ step 340 ∷ step 580 ∷ step 820 ∷ [])
    (sent 100 0x1200FD01 (bytes 5 0x70 0 0 5 0 0 0)
    ∷ sent 340 0x0300FD01 zeros
    ∷ sent 580 0x0300FF01 zeros
    ∷ sent 820 0x0300FE01 zeros
    ∷ refused refusal.WindowsGone
    ∷ [])
    ∷ []

pub positions-hold : RowsHold positions
unfolding runs hears frame_said state_after readings_after accepts_frame is_out_of_time counted_at told_by ping_after next_sequence feedback_after fault_after is_read read_status read_id read_stored among listed_ids int8_ids uint8_ids uint16_ids uint32_ids kind_of parameter_info host_candidates abs_of
positions-hold = refl
