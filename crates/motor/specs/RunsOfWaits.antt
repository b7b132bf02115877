-- Windows, candidates, marks, deadlines, reads and pings, as runs that antt computes. Assumes nothing.
use Rattle.std.specs.Prelude.{true, false, List, [], ◌∷◌, pos, refl, Err, Some, None}
use Rattle.codec.specs.declared.error.Refusal.TheVariants as refusal
use Rattle.codec.specs.declared.model.Model.TheVariants.{Rs00}
use Rattle.codec.specs.declared.protocol.ParameterValue.TheVariants as value
use Rattle.codec.specs.declared.registers.ControlMode.TheVariants.{PositionCsp}
use Rattle.codec.specs.Faults.{decode_fault_report}
use Rattle.codec.specs.Kinds.{among, listed_ids, int8_ids, uint8_ids, kind_of, parameter_info}
use Rattle.codec.specs.Modes.{control_mode_from_raw}
use Rattle.codec.specs.Replies.{zeros}
use Rattle.motor.specs.declared.engine.command.Command.TheVariants as command
use Rattle.motor.specs.declared.engine.command.Outcome.TheVariants as outcome
use Rattle.motor.specs.declared.engine.command.Said.TheVariants as said
use Rattle.motor.specs.engine.Hosts.{host_candidates}
use Rattle.motor.specs.Lone.{hears}
use Rattle.motor.specs.Receive.{accepts_frame, is_out_of_time, counted_at, ping_after, next_sequence, feedback_after, fault_after, told_by, is_read, read_status, read_id, read_stored, frame_said, state_after, readings_after}
use Rattle.motor.specs.engine.Requests.{no_frame}
use Rattle.motor.specs.Runs.{bytes, held, start, step, frame, fresh, status, reply, answered, heard, sent, waiting, finished, finished_with, refused, passed, runs, after_inputs, Row, run, readings, fault, RowsHold}

-- ---- acknowledgements: enable (240) and save_parameters (500)

abbrev pub acknowledgements : List Row
acknowledgements =
    -- silence: three candidates where the own host is FD, then 16
    run (fresh 0xFD Rs00 0) (start command.Enable 100 ∷ step 339 ∷ step 340 ∷ step 580 ∷ step 820 ∷ [])
    (sent 340 0x0300FD01 zeros ∷ waiting 340 ∷ sent 580 0x0300FF01 zeros ∷ sent 820 0x0300FE01 zeros ∷ refused refusal.WindowsGone ∷ [])
    -- four where it is FE
    ∷ run (fresh 0xFE Rs00 0) (start command.Enable 100 ∷ step 340 ∷ step 580 ∷ step 820 ∷ step 1060 ∷ [])
    (sent 340 0x0300FE01 zeros
    ∷ sent 580 0x0300FD01 zeros
    ∷ sent 820 0x0300FF01 zeros
    ∷ sent 1060 0x0300FE01 zeros
    ∷ refused refusal.WindowsGone
    ∷ [])
    -- a window runs from the step that sends
    ∷ run (fresh 0xFD Rs00 0) (start command.Disable 100 ∷ step 400 ∷ step 639 ∷ step 640 ∷ [])
    (sent 340 0x0400FD01 zeros ∷ sent 640 0x0400FF01 zeros ∷ waiting 640 ∷ sent 880 0x0400FE01 zeros ∷ [])
    -- acknowledged by a status frame; then nothing runs
    ∷ run (fresh 0xFD Rs00 0) (start command.Enable 100 ∷ status 120 ∷ step 120 ∷ step 121 ∷ [])
    (sent 340 0x0300FD01 zeros ∷ passed ∷ finished outcome.Done ∷ refused refusal.NothingRunning ∷ [])
    -- the deadline first: an acknowledgement seen only then is lost, and so it is for the next attempt, whose mark is its own
    ∷ run (fresh 0xFD Rs00 0) (start command.Enable 100 ∷ status 330 ∷ step 340 ∷ step 350 ∷ status 360 ∷ step 360 ∷ [])
    (sent 340 0x0300FD01 zeros ∷ passed ∷ sent 580 0x0300FF01 zeros ∷ waiting 580 ∷ passed ∷ finished outcome.Done ∷ [])
    -- a frame that is no status doesn't acknowledge enable
    ∷ run (fresh 0xFD Rs00 0) (start command.Enable 100 ∷ frame 0x190001FD zeros 120 ∷ step 120 ∷ [])
    (sent 340 0x0300FD01 zeros ∷ passed ∷ waiting 340 ∷ [])
    -- save_parameters: the response count rises with a type 25 frame
    ∷ run (fresh 0xFD Rs00 0) (start command.SaveParameters 100 ∷ step 110 ∷ frame 0x190001FD zeros 120 ∷ step 120 ∷ [])
    (sent 600 0x1600FD01 (bytes 1 2 3 4 5 6 7 8) ∷ waiting 600 ∷ passed ∷ finished outcome.Done ∷ [])
    -- and with a frame refused by 14
    ∷ run (fresh 0xFD Rs00 0) (start command.SaveParameters 100 ∷ frame 0x110101FD (bytes 5 0x70 0 0 2 0 0 0) 120 ∷ step 120 ∷ [])
    (sent 600 0x1600FD01 (bytes 1 2 3 4 5 6 7 8) ∷ heard (Err (refusal.ReadFailed 0x7005 1)) ∷ finished outcome.Done ∷ [])
    -- set_protocol: with timeout 0 from the call, with 1 a window of 120
    ∷ run (fresh 0xFD Rs00 0) (start (command.SetProtocol 2 0) 100 ∷ [])
    (finished_with outcome.Done 0x1900FD01 (bytes 1 2 3 4 5 6 2 0) ∷ [])
    ∷ run (fresh 0xFD Rs00 0) (start (command.SetProtocol 1 1) 100 ∷ step 220 ∷ frame 0x190001FD zeros 240 ∷ step 240 ∷ [])
    (sent 220 0x1900FD01 (bytes 1 2 3 4 5 6 1 0) ∷ sent 340 0x1900FF01 (bytes 1 2 3 4 5 6 1 0) ∷ passed ∷ finished outcome.Done ∷ [])
    -- set_zero_position (320), then 1 to 0x7029
    ∷ run (fresh 0xFD Rs00 0) (start command.SetZeroPosition 100 ∷ status 120 ∷ step 120 ∷ [])
    (sent 420 0x0600FD01 (bytes 1 0 0 0 0 0 0 0) ∷ passed ∷ finished_with outcome.Done 0x1200FD01 (bytes 0x29 0x70 0 0 1 0 0 0) ∷ [])
    -- clear_error
    ∷ run (fresh 0xFD Rs00 0) (start command.ClearError 100 ∷ status 120 ∷ step 120 ∷ [])
    (sent 340 0x0400FD01 (bytes 1 0 0 0 0 0 0 0) ∷ passed ∷ finished outcome.Done ∷ [])
    -- it drops the fault report once acknowledged
    ∷ fault (after_inputs (fresh 0xFD Rs00 0) (frame 0x150001FD zeros 100 ∷ start command.ClearError 120 ∷ status 140 ∷ [])).state.fault_report
    (Some (decode_fault_report zeros))
    ∷ fault (after_inputs (fresh 0xFD Rs00 0) (frame 0x150001FD zeros 100 ∷ start command.ClearError 120 ∷ status 140 ∷ step 140 ∷ [])).state.fault_report
    None
    -- set_active_report, with finished from the call
    ∷ run (fresh 0xFD Rs00 0) (start (command.SetActiveReport true) 100 ∷ start (command.SetActiveReport false) 100 ∷ [])
    (finished_with outcome.Done 0x1800FD01 (bytes 1 2 3 4 5 6 1 0) ∷ finished_with outcome.Done 0x1800FD01 (bytes 1 2 3 4 5 6 0 0) ∷ [])
    ∷ []

pub acknowledgements-hold : RowsHold acknowledgements
unfolding runs after_inputs hears frame_said state_after readings_after accepts_frame is_out_of_time counted_at told_by ping_after next_sequence feedback_after fault_after is_read read_status read_id read_stored among listed_ids int8_ids uint8_ids kind_of parameter_info host_candidates
acknowledgements-hold = refl

-- ---- reads and pings

abbrev pub values : List Row
values =
    -- the value before the deadline: a reply that came in time is taken by a step at or after it
    run (fresh 0xFD Rs00 0) (start (command.GetParameter 0x7005 0) 100 ∷ reply (bytes 5 0x70 0 0 2 0 0 0) 240 ∷ step 250 ∷ [])
    (sent 250 0x1100FD01 (bytes 5 0x70 0 0 0 0 0 0) ∷ passed ∷ finished (outcome.Value (value.I8 (pos 2))) ∷ [])
    ∷ run (fresh 0xFD Rs00 0) (start (command.GetParameterI8 0x7005 200) 100 ∷ reply (bytes 5 0x70 0 0 2 0 0 0) 120 ∷ step 900 ∷ [])
    (sent 300 0x1100FD01 (bytes 5 0x70 0 0 0 0 0 0) ∷ passed ∷ finished (outcome.I8 (pos 2)) ∷ [])
    -- a send drops the old value: it isn't the reading held from before
    ∷ run (fresh 0xFD Rs00 0) (reply (bytes 5 0x70 0 0 2 0 0 0) 100 ∷ start (command.GetParameter 0x7005 0) 120 ∷ step 130 ∷ reply (bytes 5 0x70 0 0 5 0 0 0) 140 ∷ step 140 ∷ [])
    (passed ∷ sent 270 0x1100FD01 (bytes 5 0x70 0 0 0 0 0 0) ∷ waiting 270 ∷ passed ∷ finished (outcome.Value (value.I8 (pos 5))) ∷ [])
    ∷ readings (after_inputs (fresh 0xFD Rs00 0) (reply (bytes 5 0x70 0 0 2 0 0 0) 100 ∷ [])).readings (held 0x7005 (value.I8 (pos 2)) ∷ [])
    ∷ readings (after_inputs (fresh 0xFD Rs00 0) (reply (bytes 5 0x70 0 0 2 0 0 0) 100 ∷ start (command.GetParameter 0x7005 0) 120 ∷ [])).readings []
    -- silence
    ∷ run (fresh 0xFD Rs00 0) (start (command.GetParameter 0x7019 0) 100 ∷ step 250 ∷ step 400 ∷ step 550 ∷ [])
    (sent 250 0x1100FD01 (bytes 0x19 0x70 0 0 0 0 0 0)
    ∷ sent 400 0x1100FF01 (bytes 0x19 0x70 0 0 0 0 0 0)
    ∷ sent 550 0x1100FE01 (bytes 0x19 0x70 0 0 0 0 0 0)
    ∷ refused refusal.WindowsGone
    ∷ [])
    -- a reply of another parameter isn't the value
    ∷ run (fresh 0xFD Rs00 0) (start (command.GetParameter 0x7019 0) 100 ∷ reply (bytes 5 0x70 0 0 2 0 0 0) 120 ∷ step 120 ∷ [])
    (sent 250 0x1100FD01 (bytes 0x19 0x70 0 0 0 0 0 0) ∷ passed ∷ waiting 250 ∷ [])
    -- a named host, timeout 0: sent due now, and a step then gives 16; nobody else is asked
    ∷ run (fresh 0xFD Rs00 0) (start (command.GetParameterWithHostId 0x7005 0xAA 0) 100 ∷ step 100 ∷ [])
    (sent 100 0x1100AA01 (bytes 5 0x70 0 0 0 0 0 0) ∷ refused refusal.WindowsGone ∷ [])
    -- the timeout as given
    ∷ run (fresh 0xFD Rs00 0) (start (command.PingWithHostId 0xAA 30) 100 ∷ step 129 ∷ step 130 ∷ [])
    (sent 130 0x0000AA01 zeros ∷ waiting 130 ∷ refused refusal.WindowsGone ∷ [])
    -- a ping's result: device and responder, and the payload beside
    ∷ run (fresh 0xFD Rs00 0) (start (command.Ping 0) 100 ∷ frame 0x000001FE (bytes 1 2 3 4 5 6 7 8) 120 ∷ step 220 ∷ [])
    (sent 220 0x0000FD01 zeros ∷ passed ∷ answered (said.Finished (outcome.Ping 1 0xFE)) no_frame (bytes 1 2 3 4 5 6 7 8) ∷ [])
    -- a ping's send drops the reply held from before
    ∷ run (fresh 0xFD Rs00 0) (frame 0x000001FE (bytes 1 2 3 4 5 6 7 8) 100 ∷ start (command.Ping 200) 120 ∷ step 140 ∷ step 320 ∷ [])
    (passed ∷ sent 320 0x0000FD01 zeros ∷ waiting 320 ∷ sent 520 0x0000FF01 zeros ∷ [])
    -- set_device_id: ping (140), then type 7 with the reply's payload, the extra field new id × 256 + host id
    ∷ run (fresh 0xFD Rs00 0) (start (command.SetDeviceId 7) 100 ∷ step 240 ∷ frame 0x000001FE (bytes 1 2 3 4 5 6 7 8) 250 ∷ step 250 ∷ [])
    (sent 240 0x0000FD01 zeros ∷ sent 380 0x0000FF01 zeros ∷ passed ∷ finished_with outcome.Done 0x0707FD01 (bytes 1 2 3 4 5 6 7 8) ∷ [])
    -- f32 of 7005 is 20; get_protocol_flag
    ∷ run (fresh 0xFD Rs00 0) (start (command.GetParameterF32 0x7005 0) 100 ∷ reply (bytes 5 0x70 0 0 2 0 0 0) 120 ∷ step 120 ∷ [])
    (sent 250 0x1100FD01 (bytes 5 0x70 0 0 0 0 0 0) ∷ passed ∷ refused refusal.ReadingOfAnotherKind ∷ [])
    ∷ run (fresh 0xFD Rs00 0) (start (command.GetProtocolFlag 0) 100 ∷ reply (bytes 0x22 0x20 0 0 1 0 0 0) 120 ∷ step 120 ∷ [])
    (sent 250 0x1100FD01 (bytes 0x22 0x20 0 0 0 0 0 0) ∷ passed ∷ finished (outcome.Flag 1) ∷ [])
    -- request_parameter, with finished from the call; it drops the reading
    ∷ run (fresh 0xFD Rs00 0) (start (command.RequestParameter 0x7005) 100 ∷ [])
    (finished_with outcome.Done 0x1100FD01 (bytes 5 0x70 0 0 0 0 0 0) ∷ [])
    ∷ readings (after_inputs (fresh 0xFD Rs00 0) (reply (bytes 5 0x70 0 0 2 0 0 0) 100 ∷ start (command.RequestParameter 0x7005) 120 ∷ [])).readings []
    -- get_control_mode: 5 is csp; 3 is no mode, 17
    ∷ run (fresh 0xFD Rs00 0) (start (command.GetControlMode 200) 100 ∷ reply (bytes 5 0x70 0 0 5 0 0 0) 120 ∷ step 120 ∷ [])
    (sent 300 0x1100FD01 (bytes 5 0x70 0 0 0 0 0 0) ∷ passed ∷ finished (outcome.Mode PositionCsp) ∷ [])
    ∷ run (fresh 0xFD Rs00 0) (start (command.GetControlMode 200) 100 ∷ reply (bytes 5 0x70 0 0 3 0 0 0) 120 ∷ step 120 ∷ [])
    (sent 300 0x1100FD01 (bytes 5 0x70 0 0 0 0 0 0) ∷ passed ∷ refused refusal.UnsupportedRunMode ∷ [])
    ∷ []

pub values-hold : RowsHold values
unfolding runs after_inputs hears frame_said state_after readings_after accepts_frame is_out_of_time counted_at told_by ping_after next_sequence feedback_after fault_after is_read read_status read_id read_stored among listed_ids int8_ids uint8_ids kind_of parameter_info control_mode_from_raw host_candidates
values-hold = refl
