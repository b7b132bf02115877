-- How an operation goes on: windows, candidates, marks, deadlines and pauses, once for all operations. Definitions only.
use Rattle.std.specs.Prelude.{ℕ, ◌+◌, cond, [], ◌∷◌, ◌==◌, nat_lt, slice_index, Option, Some, None, Result, Ok, Err, unwrap_or, is_some}
use Rattle.std.specs.Option.{option_map_or}
use Rattle.motor.specs.declared.engine.reading.Stored.{Stored}
use Rattle.codec.specs.declared.error.Refusal.{Refusal}
use Rattle.codec.specs.declared.bus.CanFrame.{CanFrame}
use Rattle.codec.specs.Numbers.{refusal_of}
use Rattle.codec.specs.declared.replies.VersionReply.{VersionReply}
use Rattle.codec.specs.Replies.{zeros, blank_ping}
use Rattle.codec.specs.Values.{encode_parameter_value}
use Rattle.motor.specs.declared.engine.candidates.Hosts.{Hosts}
use Rattle.motor.specs.declared.engine.candidates.Hosts.TheVariants as hosts
use Rattle.motor.specs.declared.engine.command.Command.{Command}
use Rattle.motor.specs.declared.engine.command.Outcome.{Outcome}
use Rattle.motor.specs.declared.engine.command.Outcome.TheVariants as outcome
use Rattle.motor.specs.declared.engine.command.Said.{Said}
use Rattle.motor.specs.declared.engine.command.Said.TheVariants as said
use Rattle.motor.specs.declared.engine.operation.Effect.{Effect}
use Rattle.motor.specs.declared.engine.operation.Effect.TheVariants as effect
use Rattle.motor.specs.declared.engine.operation.Move.{Move}
use Rattle.motor.specs.declared.engine.operation.Operation.{Operation}
use Rattle.motor.specs.declared.engine.operation.Phase.{Phase}
use Rattle.motor.specs.declared.engine.operation.Phase.TheVariants as phase
use Rattle.motor.specs.declared.engine.operation.Sight.{Sight}
use Rattle.motor.specs.declared.engine.node.Acked.{Acked}
use Rattle.motor.specs.declared.engine.node.Acknowledgement.{Acknowledgement}
use Rattle.motor.specs.declared.engine.node.Acknowledgement.TheVariants as by
use Rattle.motor.specs.declared.engine.node.Got.{Got}
use Rattle.motor.specs.declared.engine.node.Node.{Node}
use Rattle.motor.specs.declared.engine.node.Node.TheVariants as node
use Rattle.motor.specs.declared.engine.node.Pinged.{Pinged}
use Rattle.motor.specs.declared.engine.node.Request.{Request}
use Rattle.motor.specs.declared.engine.node.Request.TheVariants as request
use Rattle.motor.specs.declared.engine.node.Targets.{Targets}
use Rattle.motor.specs.declared.engine.node.Wait.{Wait}
use Rattle.motor.specs.declared.engine.node.Wait.TheVariants as wait
use Rattle.motor.specs.Limits.{latest_time}
use Rattle.motor.specs.engine.Hosts.{first_host, next_host}
use Rattle.motor.specs.engine.Operations.{begins_with, acked_of, got_value, got_ping, windows_gone}
use Rattle.motor.specs.engine.Requests.{request_frame, motion_of, motion_frame, rename_frame, no_frame}
use Rattle.motor.specs.engine.Script.{window_of}

-- ---- how an operation stands

-- no answer to a get_version
abbrev pub no_version : Option VersionReply
no_version = None

abbrev pub no_operation : Operation
no_operation = record { phase = phase.Idle; due = 0; window = 0; hosts = hosts.Candidates; host = 0; candidate = 0; mark = 0; answer = no_version }

-- before what follows a pause that ends at this time; a further frame needing no wait is due at the call's own time
abbrev pub pausing_until : Acked → ℕ → Operation
pausing_until k until =
    record { phase = phase.Pausing k; due = until; window = 0; hosts = hosts.Candidates; host = 0; candidate = 0; mark = 0; answer = no_version }

-- ---- moves

-- nothing is sent, and the operation is over
abbrev pub ended : Said → Effect → Move
ended said e = record { said = said; frame = no_frame; result = zeros; operation = no_operation; effect = e }

-- a last frame that nothing waits for comes together with finished
abbrev pub ended_with : Outcome → CanFrame → Effect → Move
ended_with r f e = record { said = said.FinishedWith r; frame = f; result = zeros; operation = no_operation; effect = e }

-- a ping's result: device, responder, and its payload beside
abbrev pub ping_reported : Sight → Move
ping_reported s =
    let reply = unwrap_or s.ping_reply blank_ping in
    record { said = said.Finished (outcome.Ping reply.device_id reply.responder_id); frame = no_frame; result = reply.payload; operation = no_operation; effect = effect.Nothing }

-- a version: its device, and its four bytes beside
abbrev pub version_reported : VersionReply → Move
version_reported r =
    let v = r.version in
    record {
      said = said.Finished (outcome.Version r.device_id);
      frame = no_frame;
      result = slice_index v 0 ∷ slice_index v 1 ∷ slice_index v 2 ∷ slice_index v 3 ∷ 0 ∷ 0 ∷ 0 ∷ 0 ∷ [];
      operation = no_operation;
      effect = effect.Nothing;
    }

-- nothing is sent until this time
abbrev pub pauses : Acked → ℕ → Move
pauses k until = record { said = said.Waiting until; frame = no_frame; result = zeros; operation = pausing_until k until; effect = effect.Nothing }

-- still waiting
abbrev pub waits : Operation → Move
waits op = record { said = said.Waiting op.due; frame = no_frame; result = zeros; operation = op; effect = effect.Nothing }

-- a frame that nothing waits for, and what follows is due at this time
abbrev pub sent_on : CanFrame → Acked → ℕ → Move
sent_on f k until = record { said = said.Sent until; frame = f; result = zeros; operation = pausing_until k until; effect = effect.Nothing }

-- ---- one attempt of a wait

abbrev pub request_of : Wait → Request
request_of (wait.Acknowledged by r k) = r
request_of (wait.Value id k) = request.Read id
request_of (wait.Ping k) = request.Ping
request_of wait.Version = request.Version

-- each send of a read or a ping first drops the old value
abbrev pub dropped_by : Wait → Effect
dropped_by (wait.Acknowledged by r k) = effect.Nothing
dropped_by (wait.Value id k) = effect.ForgetReading id
dropped_by (wait.Ping k) = effect.ForgetPing
dropped_by wait.Version = effect.Nothing

abbrev pub acknowledgement_count : Sight → Acknowledgement → ℕ
acknowledgement_count s by.Status = s.sequence
acknowledgement_count s by.Response = s.responses

-- the number that must rise, as it is at this send
abbrev pub mark_of : Sight → Wait → ℕ
mark_of s (wait.Acknowledged by r k) = acknowledgement_count s by
mark_of s (wait.Value id k) = 0
mark_of s (wait.Ping k) = 0
mark_of s wait.Version = 0

-- the request goes to this host, its window from now on, and has no answer yet; the next attempt would be at this place
abbrev pub tried : Sight → ℕ → Wait → ℕ → Hosts → ℕ → ℕ → Move
tried s now w window whom h next =
    record {
      said = said.Sent (now + window);
      frame = request_frame s (request_of w) h;
      result = zeros;
      operation =
          record { phase = phase.Waiting w; due = now + window; window = window; hosts = whom; host = h; candidate = next; mark = mark_of s w; answer = no_version };
      effect = dropped_by w;
    }

-- ---- a node is entered

-- what follows a frame that nothing waits for: it comes with finished; a pause begins in this step; or what follows is due at once
abbrev pub send_then : ℕ → CanFrame → Acked → Node → Move
send_then now f k (node.Finish r) = ended_with r f effect.Nothing
send_then now f k (node.Pause d then) = sent_on f then (now + d)
send_then now f k _ = sent_on f k now

-- a write goes through the encoder; it is acknowledged by a status where the motor has a write wait
abbrev pub write_raw : Sight → ℕ → Request → Acked → Move
write_raw s now r k =
    cond (s.write_wait == 0)
    (send_then now (request_frame s r s.feedback_id) k (acked_of k))
    (tried s now (wait.Acknowledged by.Status r k) (window_of s.write_wait 120) hosts.Candidates s.feedback_id 1)

abbrev pub write : Sight → ℕ → ℕ → Acked → Result ℕ Refusal → Move
write s now id k (Ok raw) = write_raw s now (request.Write id raw) k
write s now id k (Err r) = ended (said.Refused r) effect.Nothing

-- request_parameter drops the held reading
abbrev pub dropped_by_last : Request → Effect
dropped_by_last (request.Read id) = effect.ForgetReading id
dropped_by_last _ = effect.Nothing

-- a motion command is finished as it is sent; its gains are held as given
abbrev pub motion_sent : Sight → Targets → Outcome → Move
motion_sent s t r = ended_with r (motion_frame s (motion_of s t)) (effect.HoldGains (record { kp = t.kp; kd = t.kd }))

abbrev pub awaited : Sight → ℕ → Wait → ℕ → Hosts → Move
awaited s now w window whom = tried s now w window whom (first_host s.feedback_id whom) 1

abbrev pub entered : Sight → ℕ → Node → Move
entered s now (node.Finish r) = ended (said.Finished r) effect.Nothing
entered s now node.Report = ping_reported s
entered s now node.ClearFault = ended (said.Finished outcome.Done) effect.ForgetFault
entered s now (node.Fail r) = ended (said.Refused r) effect.Nothing
entered s now (node.Pause d k) = pauses k (now + d)
entered s now (node.Last r) = ended_with outcome.Done (request_frame s r s.feedback_id) (dropped_by_last r)
entered s now (node.Write id v k) = write s now id k (encode_parameter_value id v)
entered s now (node.Await w window whom) = awaited s now w window whom
entered s now (node.Motion t r) = motion_sent s t r
entered s now (node.Rename new) = ended_with outcome.Done (rename_frame s new) effect.Nothing

-- ---- a step

-- the window is gone: the next host, if there is one
abbrev pub retry_at : Sight → ℕ → Operation → Wait → Option (ℕ × ℕ) → Move
retry_at s now op w (Some (h, next)) = tried s now w op.window op.hosts h next
retry_at s now op w None = entered s now (windows_gone w)

abbrev pub retried : Sight → ℕ → Operation → Wait → Move
retried s now op w = retry_at s now op w (next_host s.feedback_id op.hosts op.candidate)

-- within the window, or not
abbrev pub timed : Sight → ℕ → Operation → Wait → Move → Move
timed s now op w within = cond (nat_lt now op.due) within (retried s now op w)

-- an acknowledgement: the deadline first; then whether the number is greater than at this send
abbrev pub looked_ack : Sight → ℕ → Operation → Acknowledgement → Request → Acked → Move
looked_ack s now op by r k =
    timed s now op (wait.Acknowledged by r k) (cond (nat_lt op.mark (acknowledgement_count s by)) (entered s now (acked_of k)) (waits op))

-- a read: the value first, then the deadline
abbrev pub looked_value : Sight → ℕ → Operation → ℕ → Got → Option Stored → Move
looked_value s now op id k (Some r) = entered s now (got_value s k r.value)
looked_value s now op id k None = timed s now op (wait.Value id k) (waits op)

-- a ping likewise
abbrev pub looked_ping : Sight → ℕ → Operation → Pinged → Move
looked_ping s now op k = cond (is_some s.ping_reply) (entered s now (got_ping k)) (timed s now op (wait.Ping k) (waits op))

-- get_version: the answer first, then the deadline; it can't be 23 (specs/Versions)
abbrev pub looked_version : Sight → ℕ → Operation → Move
looked_version s now op = option_map_or version_reported op.answer (timed s now op wait.Version (waits op))

abbrev pub looked : Sight → ℕ → Operation → Option Stored → Wait → Move
looked s now op f (wait.Acknowledged by r k) = looked_ack s now op by r k
looked s now op f (wait.Value id k) = looked_value s now op id k f
looked s now op f (wait.Ping k) = looked_ping s now op k
looked s now op f wait.Version = looked_version s now op

abbrev pub looked_pause : Sight → ℕ → Operation → Acked → Move
looked_pause s now op k = cond (nat_lt now op.due) (waits op) (entered s now (acked_of k))

-- what a step does, by where the operation stands; f is the reading held for the parameter that is waited for
abbrev pub advanced : Sight → ℕ → Operation → Option Stored → Phase → Move
advanced s now op f phase.Idle = ended (said.Refused (refusal_of 21 [])) effect.Nothing
advanced s now op f (phase.Pausing k) = looked_pause s now op k
advanced s now op f (phase.Waiting w) = looked s now op f w

-- what a start does
abbrev pub begun_by : Sight → ℕ → Command → Move
begun_by s now c = entered s now (begins_with c)

-- no move is made after 10^15 (7)

abbrev pub too_late : Move
too_late = ended (said.Refused (refusal_of 7 [])) effect.Nothing

abbrev pub in_time : ℕ → Move → Move
in_time now v = cond (nat_lt latest_time now) too_late v
