-- A start's numbers are those of its tests: once these pass, no operation begins with a refusal. Assumes nothing.
use Rattle.std.specs.Prelude.{Option, Some, None, Result, Ok, Err, ⊤}
use Prim.Native.Nat.{ℕ}
use mathlib.Core.Path.{◌≡◌, refl, ap}
use mathlib.Core.Bool.{Bool, true, false, cond, not}
use mathlib.Core.List.{List, [], ◌∷◌}
use lib.Dec.{eqb, ltb}
use Rattle.codec.specs.declared.registers.ParameterDataType.{ParameterDataType}
use Rattle.codec.specs.declared.bus.CanFrame.{CanFrame}
use Rattle.codec.specs.declared.error.Refusal.{Refusal}
use Rattle.codec.specs.declared.error.Refusal.TheVariants as refusal
use Rattle.codec.specs.declared.protocol.ParameterValue.{ParameterValue}
use Rattle.codec.specs.Kinds.{among, kind_number, parameter_info}
use Rattle.codec.specs.Refusals.{number_of}
use Rattle.codec.specs.Values.{kind_in, raw_of, encoded_by, encode_parameter_value}
use Rattle.motor.specs.declared.engine.command.Command.{Command}
use Rattle.motor.specs.declared.engine.command.Said.{Said}
use Rattle.motor.specs.declared.engine.command.Said.TheVariants as said
use Rattle.motor.specs.declared.engine.node.Acked.{Acked}
use Rattle.motor.specs.declared.engine.node.Node.{Node}
use Rattle.motor.specs.declared.engine.node.Node.TheVariants as node
use Rattle.motor.specs.declared.engine.operation.Move.{Move}
use Rattle.motor.specs.declared.engine.operation.Phase.{Phase}
use Rattle.motor.specs.declared.engine.operation.Sight.{Sight}
use Rattle.motor.specs.Limits.{longest_timeout}
use Rattle.motor.specs.engine.Operations.{begins_with, acked_of}
use Rattle.motor.specs.engine.Run.{send_then, write, entered, begun_by}
use Rattle.motor.specs.Commands.{Argument, no_argument, named_host, new_device_id, new_protocol, written_value, command_row}
use Rattle.motor.specs.Calls.{encodes, tested, is_idle, timeout_of, argued_of, or_else, start_admitted, start_said, sight_of}
use Rattle.motor.specs.Lone.{Lone, lone_start, lone_start_by}
use Rattle.motor.specs.Numbers.{first_of}
use Rattle.motor.specs.Receive.{is_out_of_time}
use Rattle.motor.proofs.Commands.{Opens, opens}
use Rattle.motor.proofs.Stays.{argued-passed}
use Rattle.station.specs.Calls.{says}
use Rattle.station.specs.Station.{moves_to}
use Rattle.station.specs.Demands.{checked_number, number, start_numbers}
use Rattle.station.proofs.Steps.{refused-passed}
use Rattle.station.proofs.NumberLists.{of-first}

-- said: no refusal
abbrev Goes : Said → Type 0
Goes (said.Sent due) = Unit {0}
Goes (said.Waiting due) = Unit {0}
Goes (said.Finished r) = Unit {0}
Goes (said.FinishedWith r) = Unit {0}
Goes (said.Refused r) = ⊥

goes_number : (w : Said) (f : CanFrame) (b : List ℕ) → Goes w → number (says w f b) ≡ 0
goes_number (said.Sent due) f b g = refl
goes_number (said.Waiting due) f b g = refl
goes_number (said.Finished r) f b g = refl
goes_number (said.FinishedWith r) f b g = refl
goes_number (said.Refused r) f b g = absurd g

sent-goes : (now : ℕ) (f : CanFrame) (k : Acked) (n : Node) → Goes (send_then now f k n).said
sent-goes now f k (node.Finish r) = tt
sent-goes now f k (node.Pause d then) = tt
sent-goes now f k _ = tt

either-goes : (b : Bool) (x y : Move) → Goes x.said → Goes y.said → Goes (cond b x y).said
either-goes true x y p q = p
either-goes false x y p q = q

written-goes : (s : Sight) (now id : ℕ) (k : Acked) (e : Result ℕ Refusal) → encodes e ≡ Ok tt → Goes (write s now id k e).said
written-goes s now id k (Ok raw) h = either-goes (eqb s.write_wait 0) _ _ (sent-goes now _ k (acked_of k)) tt
written-goes s now id k (Err r) h = refused-passed r h

-- 10 and 11
written-number : (i : Option ParameterDataType) (v : ParameterValue) → among (checked_number (encodes (encoded_by i v))) start_numbers ≡ true
unfolding among
written-number None v = refl
written-number (Some kind) v = go (eqb (kind_number kind) (kind_number (kind_in v)))
  where
    go : (b : Bool) → among (checked_number (encodes (cond (not b) (Err refusal.KindDiffers) (Ok (raw_of v))))) start_numbers ≡ true
    go true = refl
    go false = refl

-- entered, a node with which an operation may begin refuses nothing
entered-goes : (s : Sight) (now : ℕ) (n : Node) → Opens n → Goes (entered s now n).said
entered-goes s now (node.Finish r) o = tt
entered-goes s now node.Report o = tt
entered-goes s now node.ClearFault o = tt
entered-goes s now (node.Fail r) o = absurd o
entered-goes s now (node.Pause d k) o = tt
entered-goes s now (node.Last r) o = tt
entered-goes s now (node.Write id v k) o = written-goes s now id k (encode_parameter_value id v) o
entered-goes s now (node.Await w window whom) o = tt
entered-goes s now (node.Motion t r) o = tt
entered-goes s now (node.Rename new) o = tt

-- 2, 19 and 12
one : (b : Bool) (r : Refusal) → among (number_of r) start_numbers ≡ true → among (checked_number (first_of ((b, r) ∷ []))) start_numbers ≡ true
unfolding among
one true r h = h
one false r h = refl

argued-number : (a : Argument) → among (checked_number (tested a)) start_numbers ≡ true
unfolding among
argued-number no_argument = refl
argued-number (named_host id) = one (ltb 255 id) refusal.HostIdOutOfRange refl
argued-number (new_device_id id) = one (eqb id 0) refusal.NewDeviceIdZero refl
argued-number (new_protocol n) = one (ltb 2 n) refusal.UnknownProtocol refl
argued-number (written_value id v) = written-number (parameter_info id) v

pub start-number : (h : Lone) (c : Command) (now : ℕ) → among (number (moves_to (lone_start h c now)).0) start_numbers ≡ true
unfolding moves_to among
start-number h c now = go (start_said clock p c now) refl (after-tests (start_admitted clock p c now) (of-first (λ n. among n start_numbers) tests refl))
  where
    clock : ℕ
    clock = h.state.clock

    p : Phase
    p = h.state.operation.phase

    tests : List (Bool × Refusal)
    tests = (is_out_of_time clock now, refusal.TimeOutOfRange) ∷ (not (is_idle p), refusal.OperationRunning) ∷ (ltb longest_timeout (timeout_of c), refusal.TimeoutTooLong) ∷ []

    after-tests : (a : Result ⊤ Refusal) → among (checked_number a) start_numbers ≡ true → among (checked_number (or_else a (argued_of c))) start_numbers ≡ true
    after-tests (Ok tt) e = argued-number (command_row c).argument
    after-tests (Err r) e = e

    go : (k : Result ⊤ Refusal) → start_said clock p c now ≡ k → among (checked_number k) start_numbers ≡ true
        → among (number (moves_to (lone_start_by k h c now)).0) start_numbers ≡ true
    go (Ok tt) q e =
        let v = begun_by (sight_of h.state) now c in
        ap (λ (n : ℕ). among n start_numbers)
        (goes_number v.said v.frame v.result
        (entered-goes (sight_of h.state) now (begins_with c)
        (opens c (argued-passed (start_admitted clock p c now) (argued_of c) q))))
    go (Err r) q e = e
