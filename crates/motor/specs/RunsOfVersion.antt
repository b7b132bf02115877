-- Whole runs of get_version (document 02, T-01), worked out by hand from its sentences, as one table that antt computes.
use Rattle.std.specs.Prelude.{ℕ, List, [], ◌∷◌, refl, Err, Some}
use Rattle.codec.specs.declared.error.Refusal.TheVariants as refusal
use Rattle.codec.specs.declared.model.Model.TheVariants.{Rs00}
use Rattle.codec.specs.Kinds.{among}
use Rattle.codec.specs.Replies.{zeros}
use Rattle.motor.specs.declared.engine.command.Command.TheVariants as command
use Rattle.motor.specs.declared.engine.command.Outcome.TheVariants as outcome
use Rattle.motor.specs.declared.engine.command.Said.TheVariants as said
use Rattle.motor.specs.Lone.{hears}
use Rattle.motor.specs.Receive.{accepts_frame, is_out_of_time, counted_at, ping_after, next_sequence, feedback_after, fault_after, told_by, version_in, answer_taken, is_read, read_status, read_id, read_stored, frame_said, state_after, readings_after}
use Rattle.motor.specs.Runs.{bytes, Input, start, step, frame, fresh, status, Output, answered, heard, sent, waiting, finished, refused, passed, runs, after_inputs, Row, run, number, version, RowsHold}
use Rattle.motor.specs.engine.Hosts.{host_candidates}
use Rattle.motor.specs.engine.Requests.{no_frame}
use Rattle.motor.specs.engine.Run.{no_version}

-- motor 1's version reply with these four bytes
abbrev told : ℕ → ℕ → ℕ → ℕ → ℕ → Input
told a b c d now = frame 0x020001FD (bytes 0 0xC4 0x56 a b c d 0) now

-- one type 4 frame, due 240 after the call at 100
abbrev asked : Output
asked = sent 340 0x0400FD01 (bytes 0 0xC4 0 0 0 0 0 0)

-- finished with these four bytes of device 1
abbrev reported : ℕ → ℕ → ℕ → ℕ → Output
reported a b c d = answered (said.Finished (outcome.Version 1)) no_frame (bytes a b c d 0 0 0 0)

-- started at 100, then these
abbrev asking : List Input → List Input
asking inputs = start command.GetVersion 100 ∷ inputs

abbrev pub versions : List Row
versions =
    -- an answer before the due time
    run (fresh 0xFD Rs00 0) (asking (step 110 ∷ told 1 2 3 4 120 ∷ step 120 ∷ step 121 ∷ []))
    (asked ∷ waiting 340 ∷ passed ∷ reported 1 2 3 4 ∷ refused refusal.NothingRunning ∷ [])
    -- to the own host, whatever it is
    ∷ run (fresh 0x10 Rs00 0) (asking []) (sent 340 0x04001001 (bytes 0 0xC4 0 0 0 0 0 0) ∷ [])
    -- two answers: the later one counts
    ∷ run (fresh 0xFD Rs00 0) (asking (told 1 2 3 4 120 ∷ told 5 6 7 8 140 ∷ step 140 ∷ [])) (asked ∷ passed ∷ passed ∷ reported 5 6 7 8 ∷ [])
    -- an answer that is seen at or after the due time, and one that came after it
    ∷ run (fresh 0xFD Rs00 0) (asking (told 1 2 3 4 120 ∷ step 340 ∷ [])) (asked ∷ passed ∷ reported 1 2 3 4 ∷ [])
    ∷ run (fresh 0xFD Rs00 0) (asking (told 1 2 3 4 500 ∷ step 900 ∷ [])) (asked ∷ passed ∷ reported 1 2 3 4 ∷ [])
    -- silence: no other host is asked
    ∷ run (fresh 0xFD Rs00 0) (asking (step 339 ∷ step 340 ∷ [])) (asked ∷ waiting 340 ∷ refused refusal.WindowsGone ∷ [])
    -- a status is no answer, and feedback as ever; another motor's answer isn't accepted
    ∷ run (fresh 0xFD Rs00 0) (asking (status 120 ∷ frame 0x020002FD (bytes 0 0xC4 0x56 1 2 3 4 0) 130 ∷ step 340 ∷ []))
    (asked ∷ passed ∷ heard (Err refusal.FrameNotAccepted) ∷ refused refusal.WindowsGone ∷ [])
    -- an answer is counted and moves the clock, and the sequence stays; a status in between raises it
    ∷ number (after_inputs (fresh 0xFD Rs00 0) (asking (told 1 2 3 4 120 ∷ told 5 6 7 8 140 ∷ []))).state.responses 2
    ∷ number (after_inputs (fresh 0xFD Rs00 0) (asking (told 1 2 3 4 120 ∷ []))).state.clock 120
    ∷ number (after_inputs (fresh 0xFD Rs00 0) (asking (told 1 2 3 4 120 ∷ told 5 6 7 8 500 ∷ []))).state.feedback.sequence 0
    ∷ number (after_inputs (fresh 0xFD Rs00 0) (asking (status 120 ∷ told 1 2 3 4 140 ∷ []))).state.feedback.sequence 1
    -- a look shows the answer so far; a start has none, and it is gone when the operation ends
    ∷ version (after_inputs (fresh 0xFD Rs00 0) (asking (told 1 2 3 4 120 ∷ told 5 6 7 8 140 ∷ []))).state.operation.answer
    (Some (record { device_id = 1; version = 5 ∷ 6 ∷ 7 ∷ 8 ∷ [] }))
    ∷ version (after_inputs (fresh 0xFD Rs00 0) (asking [])).state.operation.answer no_version
    ∷ version (after_inputs (fresh 0xFD Rs00 0) (asking (told 1 2 3 4 120 ∷ step 120 ∷ []))).state.operation.answer no_version
    -- the next get_version doesn't have it
    ∷ run (fresh 0xFD Rs00 0) (asking (told 1 2 3 4 120 ∷ step 120 ∷ start command.GetVersion 200 ∷ step 440 ∷ []))
    (asked ∷ passed ∷ reported 1 2 3 4 ∷ sent 440 0x0400FD01 (bytes 0 0xC4 0 0 0 0 0 0) ∷ refused refusal.WindowsGone ∷ [])
    -- outside the wait, and while another operation waits, a version reply is a status: it acknowledges an enable
    ∷ run (fresh 0xFD Rs00 0) (told 1 2 3 4 100 ∷ asking (step 340 ∷ [])) (passed ∷ asked ∷ refused refusal.WindowsGone ∷ [])
    ∷ number (after_inputs (fresh 0xFD Rs00 0) (asking (told 1 2 3 4 120 ∷ step 120 ∷ told 5 6 7 8 140 ∷ []))).state.feedback.sequence 1
    ∷ run (fresh 0xFD Rs00 0) (start command.Enable 100 ∷ told 1 2 3 4 120 ∷ step 120 ∷ []) (sent 340 0x0300FD01 zeros ∷ passed ∷ finished outcome.Done ∷ [])
    ∷ []

pub versions-hold : RowsHold versions
unfolding runs after_inputs hears frame_said state_after readings_after accepts_frame is_out_of_time counted_at told_by answer_taken version_in ping_after next_sequence feedback_after fault_after is_read read_status read_id read_stored among host_candidates
versions-hold = refl
