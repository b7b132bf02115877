-- On good readings a motor's start, step and look are the lone motor's. Assumes nothing.
use Rattle.std.proofs.Common.{◌≡◌, ℕ, List, sym, refl, subst, Option, Result, Ok, Err}
use Rattle.std.specs.Prelude.{⊤}
use Rattle.motor.specs.declared.engine.reading.Stored.{Stored}
use Rattle.codec.specs.declared.error.Refusal.{Refusal}
use Rattle.motor.specs.declared.engine.command.Command.{Command}
use Rattle.motor.specs.declared.engine.operation.Effect.{Effect}
use Rattle.motor.specs.declared.engine.operation.Effect.TheVariants as effect
use Rattle.motor.specs.declared.engine.operation.Move.{Move}
use Rattle.motor.specs.declared.engine.operation.Phase.{Phase}
use Rattle.motor.specs.declared.engine.operation.Phase.TheVariants as phase
use Rattle.motor.specs.declared.motor.Answered.{Answered}
use Rattle.motor.specs.declared.motor.Motor.{Motor}
use Rattle.motor.specs.declared.motor.Seen.{Seen}
use Rattle.motor.specs.declared.engine.node.Wait.{Wait}
use Rattle.motor.specs.declared.engine.node.Wait.TheVariants as wait
use Rattle.motor.specs.declared.readings.Entry.{Entry}
use Rattle.motor.specs.Calls.{sight_of, readings_by, wanted, wanted_by, start_said, step_said}
use Rattle.motor.specs.Lone.{lone_moved, lone_start_by, lone_start, lone_step_by, lone_step, lone_look}
use Rattle.motor.specs.Motors.{lone_of, moved_by, start_by, start_of, step_by, step_of, look_of, AnsweredAs}
use Rattle.motor.specs.Readings.{Holds, lookup, remove, find_of, drop_id}
use Rattle.motor.specs.engine.Run.{advanced, begun_by}
use Rattle.motor.proofs.ReadingsHeld.{find-holds, drop-holds, listing-holds}

module _ (m : Motor) (l : List Entry) (x : Holds m.readings l) where
  readings-as : (e : Effect) → Holds (readings_by e (λ id. drop_id m.readings id) m.readings) (readings_by e (λ id. remove id l) l)
  readings-as effect.Nothing = x
  readings-as (effect.ForgetReading id) = drop-holds m.readings l x id
  readings-as effect.ForgetPing = x
  readings-as effect.ForgetFault = x
  readings-as (effect.HoldGains g) = x

  moved_as : (now : ℕ) (c : Command) (v : Move) → AnsweredAs (moved_by m now c v) (lone_moved (lone_of m l) now c v)
  moved_as now c v = record { said = refl; frame = refl; result = refl; state = refl; readings = readings-as v.effect }

  wanted-as_lone : (w : Wait) → wanted_by w (λ id. lookup id l) ≡ wanted_by w (λ id. find_of m.readings id)
  wanted-as_lone (wait.Acknowledged by r k) = refl
  wanted-as_lone (wait.Value id k) = sym (find-holds m.readings l x id)
  wanted-as_lone (wait.Ping k) = refl
  wanted-as_lone wait.Version = refl

  wanted-as : (p : Phase) → wanted p (λ id. lookup id l) ≡ wanted p (λ id. find_of m.readings id)
  wanted-as phase.Idle = refl
  wanted-as (phase.Pausing k) = refl
  wanted-as (phase.Waiting w) = wanted-as_lone w

  start-by : (k : Result ⊤ Refusal) (c : Command) (now : ℕ) → AnsweredAs (start_by k m c now) (lone_start_by k (lone_of m l) c now)
  start-by (Ok tt) c now = moved_as now c (begun_by (sight_of m.state) now c)
  start-by (Err r) c now = record { said = refl; frame = refl; result = refl; state = refl; readings = x }

  step-as_lone : (k : Result ⊤ Refusal) (now : ℕ) → AnsweredAs (step_by k m now) (lone_step_by k (lone_of m l) now)
  step-as_lone (Ok tt) now =
      let s = m.state in
      let op = s.operation in
      subst
      (λ (f : Option Stored). AnsweredAs (step_by (Ok tt) m now) (lone_moved (lone_of m l) now s.command (advanced (sight_of s) now op f op.phase)))
      (sym (wanted-as op.phase))
      (moved_as now s.command (advanced (sight_of s) now op (wanted op.phase (λ id. find_of m.readings id)) op.phase))
  step-as_lone (Err r) now = record { said = refl; frame = refl; result = refl; state = refl; readings = x }

-- a contract's second clause from its first

pub start-both : (m : Motor) (c : Command) (now : ℕ) (r : Answered) → r ≡ start_of m c now
    → (r ≡ start_of m c now) × ((l : List Entry) → Holds m.readings l → AnsweredAs r (lone_start (lone_of m l) c now))
start-both m c now r e = (
  e,
  λ l x. subst (λ (a : Answered). AnsweredAs a (lone_start (lone_of m l) c now)) (sym e)
      (start-by m l x (start_said m.state.clock m.state.operation.phase c now) c now),
)

pub step_both : (m : Motor) (now : ℕ) (r : Answered) → r ≡ step_of m now
    → (r ≡ step_of m now) × ((l : List Entry) → Holds m.readings l → AnsweredAs r (lone_step (lone_of m l) now))
step_both m now r e = (
  e,
  λ l x. subst (λ (a : Answered). AnsweredAs a (lone_step (lone_of m l) now)) (sym e)
      (step-as_lone m l x (step_said m.state.clock m.state.operation.phase now) now),
)

pub look-both : (m : Motor) (r : Seen) → r ≡ look_of m
    → (r ≡ look_of m) × ((l : List Entry) → Holds m.readings l → r ≡ lone_look (lone_of m l))
look-both m r e = (e, λ l x. rw (e, listing-holds m.readings l x))
