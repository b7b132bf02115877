-- Examples of receiving, which antt computes, for a motor 1 of model rs-00 at clock 100 with any operation and readings; a version reply
-- while get_version waits and while it doesn't. Assumes nothing.
use Rattle.std.proofs.Common.{◌≡◌, ℕ, ◌-◌, ◌^◌, true, false, List, [], ◌∷◌, refl, Some, None, Ok}
use Rattle.codec.specs.declared.bus.CanFrame.{CanFrame}
use Rattle.codec.specs.declared.model.Model.TheVariants.{Rs00}
use Rattle.codec.specs.Kinds.{among}
use Rattle.codec.specs.Replies.{zeros, is_version_reply}
use Rattle.motor.specs.declared.engine.command.Command.{Command}
use Rattle.motor.specs.declared.engine.operation.Operation.{Operation}
use Rattle.motor.specs.declared.motor.Motor.{Motor}
use Rattle.motor.specs.declared.readings.Readings.{Readings}
use Rattle.motor.specs.Receive.{parts_of, accepts_frame, is_out_of_time, counted_at, ping_after, feedback_in, next_sequence, feedback_after, fault_after, told_by, awaits_version, version_in, with_answer, answer_taken, is_read, frame_said, state_after, readings_after, process_feedback_frame}

abbrev frame : ℕ → List ℕ → CanFrame
frame id payload = record { arbitration_id = id; «data» = payload; dlc = 8; is_extended = true; is_rx = true }

module _ (operation : Operation) (command : Command) (readings : Readings) where
  -- with this response count and feedback sequence
  abbrev motor : ℕ → ℕ → Motor
  motor responses sequence =
      record {
        state =
            record {
              motor_id = 1;
              feedback_id = 0xFD;
              model = Rs00;
              write_wait = 120;
              clock = 100;
              responses = responses;
              feedback = record { latest = None; sequence = sequence };
              gains = record { kp = record { bits = 0 }; kd = record { bits = 0 } };
              fault_report = None;
              ping_reply = None;
              operation = operation;
              command = command;
            };
        readings = readings;
      }

  -- response 25 is counted, and nothing more
  pub response-25 : process_feedback_frame (motor 7 3) (frame 0x190001FD zeros) 100 ≡ record { motor = motor 8 3; said = Ok tt }
  unfolding process_feedback_frame frame_said state_after readings_after accepts_frame is_out_of_time among counted_at told_by ping_after feedback_after fault_after is_read
  response-25 = refl

  pub count-wraps : process_feedback_frame (motor (2 ^ 64 - 1) 3) (frame 0x190001FD zeros) 100 ≡ record { motor = motor 0 3; said = Ok tt }
  unfolding process_feedback_frame frame_said state_after readings_after accepts_frame is_out_of_time among counted_at told_by ping_after feedback_after fault_after is_read
  count-wraps = refl

  pub sequence-stays : (process_feedback_frame (motor 7 (2 ^ 64 - 1)) (frame 0x028001FD zeros) 100).motor.state.feedback.sequence ≡ 2 ^ 64 - 1
  unfolding process_feedback_frame frame_said state_after accepts_frame is_out_of_time among counted_at told_by feedback_after next_sequence is_read
  sequence-stays = refl

  -- outside get_version's wait a version reply is feedback like any other
  abbrev version : CanFrame
  version = frame 0x020001FD (0x00 ∷ 0xC4 ∷ 0x56 ∷ 1 ∷ 2 ∷ 3 ∷ 4 ∷ 0 ∷ [])

  pub version-is-feedback : awaits_version operation.phase ≡ false
      → (is_version_reply 0x020001FD version.data ≡ true)
      × ((process_feedback_frame (motor 7 3) version 100).motor.state.feedback ≡ record { latest = Some (feedback_in Rs00 (parts_of version) version); sequence = 4 })
  unfolding process_feedback_frame frame_said state_after accepts_frame is_out_of_time among counted_at told_by feedback_after next_sequence is_read
  version-is-feedback h = (refl, rw h)

  -- within it, it is the answer and no feedback, and is counted
  pub version-is-answer : awaits_version operation.phase ≡ true
      → ((process_feedback_frame (motor 7 3) version 100).motor.state.feedback ≡ (motor 7 3).state.feedback)
      × ((process_feedback_frame (motor 7 3) version 100).motor.state.responses ≡ 8)
      × ((process_feedback_frame (motor 7 3) version 100).motor.state.operation
      ≡ with_answer operation (Some (record { device_id = 1; version = 1 ∷ 2 ∷ 3 ∷ 4 ∷ [] })))
  unfolding process_feedback_frame frame_said state_after accepts_frame is_out_of_time among counted_at answer_taken version_in is_read
  version-is-answer h = (rw h, rw h, rw h)
