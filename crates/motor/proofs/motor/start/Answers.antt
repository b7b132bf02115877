-- Right because the tests decide, then the first node is entered; its meaning is start-both.
use Rattle.motor.proofs.LoneOperating.{start-both}
use Rattle.motor.specs.Motors.{moved_by, start_by}
use Rattle.motor.specs.engine.Run.{begun_by}
use Rattle.motor.specs.declared.engine.operation.Sight.{Sight}
use Rattle.motor.proofs.InTime.{start-in-time, made}
use Rattle.std.proofs.Common.{sym, ap, ◌∙◌, Result}
use Rattle.std.specs.Prelude.{⊤}
use Rattle.codec.specs.declared.error.Refusal.{Refusal}
use Rattle.motor.proofs.motor.start.Goals as goal

pub returns : goal.returns
returns c =
    let a = c.args in
    let passed = sym c.start_said.ensures ∙ c.in_default.is in
    let soon = start-in-time a.m.state.clock a.m.state.operation.phase a.command a.now passed in
    let b = start-both a.m a.command a.now _
    (c.moved_by.ensures
    ∙ ap (moved_by a.m a.now a.command) (c.begin_at-made.ensures ∙ made a.now (begun_by c.sight_of.result a.now a.command) soon ∙ ap (λ (x : Sight). begun_by x a.now a.command) c.sight_of.ensures)
    ∙ sym (ap (λ (k : Result ⊤ Refusal). start_by k a.m a.command a.now) passed)) in
    record { is = b.0; means = b.1 }
