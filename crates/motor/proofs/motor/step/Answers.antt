-- Right because the tests decide, then the operation goes on; its meaning is step_both.
use Rattle.motor.proofs.LoneOperating.{step_both}
use Rattle.motor.specs.Motors.{moved_by, step_by}
use Rattle.motor.specs.Calls.{sight_of}
use Rattle.motor.specs.engine.Run.{advanced}
use Rattle.motor.specs.declared.engine.operation.Sight.{Sight}
use Rattle.motor.proofs.InTime.{step-in-time, made}
use Rattle.std.proofs.Common.{sym, ap, ◌∙◌, Option, Result}
use Rattle.std.specs.Prelude.{⊤}
use Rattle.motor.specs.declared.engine.reading.Stored.{Stored}
use Rattle.codec.specs.declared.error.Refusal.{Refusal}
use Rattle.motor.proofs.motor.step.Goals as goal

pub returns : goal.returns
returns c =
    let a = c.args in
    let state = a.m.state in
    let op = state.operation in
    let passed = sym c.step_said.ensures ∙ c.in_default.is in
    let soon = step-in-time state.clock op.phase a.now passed in
    let b = step_both a.m a.now _
    (c.moved_by.ensures
    ∙ ap (moved_by a.m a.now state.command)
    (c.advance_at-made.ensures
    ∙ made a.now (advanced c.sight_of.result a.now op c.wanted_at-found.result op.phase) soon
    ∙ ap (λ (x : Sight). advanced x a.now op c.wanted_at-found.result op.phase) c.sight_of.ensures
    ∙ ap (λ (f : Option Stored). advanced (sight_of state) a.now op f op.phase) c.wanted_at-found.ensures)
    ∙ sym (ap (λ (k : Result ⊤ Refusal). step_by k a.m a.now) passed)) in
    record { is = b.0; means = b.1 }
