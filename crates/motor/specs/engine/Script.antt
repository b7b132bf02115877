-- The operations. Each begins with a node and goes on by what follows an acknowledgement, a value or a ping reply, or when every
-- window is gone; each block below reads like the Rust's method of that name. Definitions only.
use Rattle.std.specs.Prelude.{ℕ, zero, suc, ◌%◌, ◌^◌, Bool, cond, ◌&&◌, [], ℤ, ◌==◌, from_bits, nat_lt, Float, Option, Some, None, Result, Ok, Err}
use Rattle.std.specs.Float.{binary32}
use Rattle.std.specs.Float.Ieee.{mul, lt}
use Rattle.std.specs.Int.{w8}
use Rattle.std.proofs.Common.{of_z}
use Rattle.codec.specs.declared.error.Refusal.{Refusal}
use Rattle.codec.specs.Numbers.{refusal_of}
use Rattle.codec.specs.Refusals as refusals
use Rattle.codec.specs.declared.protocol.ParameterValue.{ParameterValue}
use Rattle.codec.specs.declared.protocol.ParameterValue.TheVariants as value
use Rattle.codec.specs.declared.registers.ControlMode.{ControlMode}
use Rattle.codec.specs.declared.registers.ControlMode.TheVariants as mode
use Rattle.codec.specs.declared.word.Word.{Word}
use Rattle.codec.specs.Models.{limits_of}
use Rattle.codec.specs.Modes.{control_mode_number, control_mode_from_raw}
use Rattle.codec.specs.Words.{value_of, word_of}
use Rattle.motor.specs.declared.engine.candidates.Hosts.TheVariants as hosts
use Rattle.motor.specs.declared.engine.command.Outcome.TheVariants as outcome
use Rattle.motor.specs.declared.engine.operation.Sight.{Sight}
use Rattle.motor.specs.declared.engine.node.Acked.{Acked}
use Rattle.motor.specs.declared.engine.node.Acked.TheVariants as acked
use Rattle.motor.specs.declared.engine.node.Acknowledgement.TheVariants as by
use Rattle.motor.specs.declared.engine.node.Aim.{Aim}
use Rattle.motor.specs.declared.engine.node.Ensure.{Ensure}
use Rattle.motor.specs.declared.engine.node.Ensure.TheVariants as ensure
use Rattle.motor.specs.declared.engine.node.Got.{Got}
use Rattle.motor.specs.declared.engine.node.Got.TheVariants as got
use Rattle.motor.specs.declared.engine.node.Node.{Node}
use Rattle.motor.specs.declared.engine.node.Node.TheVariants as node
use Rattle.motor.specs.declared.engine.node.Pinged.{Pinged}
use Rattle.motor.specs.declared.engine.node.Request.{Request}
use Rattle.motor.specs.declared.engine.node.Request.TheVariants as request
use Rattle.motor.specs.declared.engine.node.Wait.TheVariants as wait
use Rattle.motor.specs.Limits.{longest_timeout}

-- ---- windows

-- max(timeout, least); a timeout is at most 60,000 (9)
abbrev pub window_of : ℕ → ℕ → ℕ
window_of timeout least = cond (nat_lt timeout least) least (cond (nat_lt longest_timeout timeout) longest_timeout timeout)

-- ---- what operations are made of

-- finished with nothing to give
abbrev pub finished : Node
finished = node.Finish outcome.Done

-- the last window is gone
abbrev pub failed_by_silence : Node
failed_by_silence = node.Fail (refusal_of 16 [])

-- a request to each candidate until the feedback sequence rises; then what follows
abbrev pub send_with_status_ack : Request → ℕ → Acked → Node
send_with_status_ack r window k = node.Await (wait.Acknowledged by.Status r k) window hosts.Candidates

-- the same until the response count rises
abbrev pub send_with_response_ack : Request → ℕ → Acked → Node
send_with_response_ack r window k = node.Await (wait.Acknowledged by.Response r k) window hosts.Candidates

-- get_parameter: a read to each candidate
abbrev pub get_parameter : ℕ → ℕ → Got → Node
get_parameter id timeout k = node.Await (wait.Value id k) (window_of timeout 150) hosts.Candidates

-- write_parameter
abbrev pub put : ℕ → ParameterValue → Acked → Node
put id v k = node.Write id v k

-- set_mode
abbrev pub set_mode : ControlMode → Acked → Node
set_mode m k = put 0x7005 (value.I8 (control_mode_number m)) k

-- ping, to each candidate
abbrev pub ping_each : ℕ → Pinged → Node
ping_each timeout k = node.Await (wait.Ping k) (window_of timeout 120) hosts.Candidates

-- 0.0
abbrev pub zero_word : Word
zero_word = record { bits = 0 }

-- ---- set_protocol: with timeout 0 nothing waits

abbrev pub set_protocol : ℕ → ℕ → Node
set_protocol protocol timeout =
    cond (timeout == 0) (node.Last (request.SetProtocol protocol)) (send_with_response_ack (request.SetProtocol protocol) (window_of timeout 120) acked.Done)

-- ---- get_control_mode, and the reads that ask for a kind: 20 where the value is of another, 17 where it is no mode

abbrev pub mode_or17 : Result ControlMode Refusal → (ControlMode → Node) → Node
mode_or17 (Ok m) k = k m
mode_or17 (Err r) k = node.Fail (refusal_of 17 [])

abbrev pub signed_in : ParameterValue → Option ℤ
signed_in (value.I8 v) = Some v
signed_in _ = None

abbrev pub float_in : ParameterValue → Option Word
float_in (value.F32 w) = Some w
float_in _ = None

abbrev pub other_kind : Node
other_kind = node.Fail (refusal_of 20 [])

abbrev pub as_flag : ParameterValue → Node
as_flag (value.U8 v) = node.Finish (outcome.Flag v)
as_flag _ = other_kind

abbrev pub as_signed : Option ℤ → (ℤ → Node) → Node
as_signed (Some v) k = k v
as_signed None k = other_kind

abbrev pub as_float : Option Word → (Word → Node) → Node
as_float (Some w) k = k w
as_float None k = other_kind

abbrev pub as_mode : Option ℤ → (ControlMode → Node) → Node
as_mode v k = as_signed v (λ n. mode_or17 (control_mode_from_raw n) k)

-- ---- controlled_stop: the run mode is read, and what holds the motor in that mode is sent

-- a gain below 0.02 times its maximum becomes 0.10 times the maximum, in f32; NaN isn't below
unfoldable pub stop_gain : Word → Float → Word
stop_gain w most =
    cond (lt (value_of w) (mul binary32 most (from_bits binary32 0x3CA3D70A))) (word_of (mul binary32 most (from_bits binary32 0x3DCCCCCD))) w

abbrev pub stop_in : ℕ → ControlMode → Node
stop_in timeout mode.Mit = get_parameter 0x7019 timeout got.StopMit
stop_in timeout mode.Position = put 0x7024 (value.F32 zero_word) (acked.Stopped mode.Position)
stop_in timeout mode.Velocity = put 0x700A (value.F32 zero_word) (acked.Stopped mode.Velocity)
stop_in timeout mode.PositionCsp = get_parameter 0x7019 timeout got.StopCsp

abbrev pub stop_at : Sight → Word → Node
stop_at s angle =
    let most = limits_of s.model in
    node.Motion
    (record { position = angle; velocity = zero_word; kp = stop_gain s.gains.kp most.kp; kd = stop_gain s.gains.kd most.kd; torque = zero_word })
    (outcome.Mode mode.Mit)

-- ---- send_cmd_pos_vel_csp, send_cmd_pos_vel_pp: mode, enable, each limit's absolute value if finite and above 0, the target

-- the sign taken off
unfoldable pub abs_of : Word → Word
abs_of w = record { bits = w.bits % 2 ^ 31 }

-- finite and above 0, of an absolute value
abbrev pub is_usable : Word → Bool
is_usable w = nat_lt 0 w.bits && nat_lt w.bits 0x7F800000

abbrev pub position_target : Word → Node
position_target position = put 0x7016 (value.F32 position) acked.Done

-- a limit is written to this parameter, then k; or at once what k comes to
abbrev pub put_limit : ℕ → Word → Acked → Node → Node
put_limit id w k at_once = cond (is_usable (abs_of w)) (put id (value.F32 (abs_of w)) k) at_once

abbrev pub csp_limit : Word → Word → Node
csp_limit position most = put_limit 0x7017 most (acked.Target position) (position_target position)

abbrev pub pp_acceleration : Word → Word → Node
pp_acceleration position acceleration = put_limit 0x7025 acceleration (acked.Target position) (position_target position)

abbrev pub pp_velocity : Word → Word → Word → Node
pp_velocity position most acceleration = put_limit 0x7024 most (acked.PpAcceleration position acceleration) (pp_acceleration position acceleration)

-- ---- ensure_control_mode: read; if it isn't the mode, off, a pause of 60, and three attempts to write it and read it back, with
-- pauses of 30. A failed disable doesn't end it

abbrev pub aim_at : ControlMode → ℕ → Aim
aim_at m timeout = record { mode = m; timeout = timeout; left = 3; actual = None }

-- the value read is the mode aimed at; `of_z w8` is the byte of a signed number
unfoldable pub is_mode : Aim → ℤ → Bool
is_mode a v = of_z w8 v == of_z w8 (control_mode_number a.mode)

abbrev pub mode_off : Aim → Node
mode_off a = send_with_status_ack request.Disable 240 (acked.Ensure ensure.Off a)

abbrev pub try_in : ℕ → Aim → Node
try_in zero a = node.Fail (refusal_of 18 (refusals.listed (refusals.last_read a.actual)))
try_in (suc left) a =
    set_mode a.mode (acked.Ensure ensure.Written (record { mode = a.mode; timeout = a.timeout; left = left; actual = a.actual }))

abbrev pub read_back : Aim → Node
read_back a = get_parameter 0x7005 a.timeout (got.EnsureBack a)

abbrev pub try_again : Aim → Node
try_again a = node.Pause 30 (acked.Ensure ensure.Try a)

-- the last value read after a mode write
abbrev pub last_read : Aim → ℤ → Aim
last_read a v = record { mode = a.mode; timeout = a.timeout; left = a.left; actual = Some v }

abbrev pub first_read : Aim → Option ℤ → Node
first_read a (Some v) = cond (is_mode a v) finished (mode_off a)
first_read a None = mode_off a

abbrev pub back_read : Aim → Option ℤ → Node
back_read a (Some v) = cond (is_mode a v) finished (try_again (last_read a v))
back_read a None = try_again a

abbrev pub ensure_acked : Ensure → Aim → Node
ensure_acked ensure.Off a = node.Pause 60 (acked.Ensure ensure.Try a)
ensure_acked ensure.Try a = try_in a.left a
ensure_acked ensure.Written a = node.Pause 30 (acked.Ensure ensure.Back a)
ensure_acked ensure.Back a = read_back a

abbrev pub ensure_lost : Ensure → Aim → Node
ensure_lost ensure.Off a = node.Pause 60 (acked.Ensure ensure.Try a)
ensure_lost ensure.Try a = failed_by_silence
ensure_lost ensure.Written a = try_again a
ensure_lost ensure.Back a = failed_by_silence
