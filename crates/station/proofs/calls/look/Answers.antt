-- Right because the motor at the id's place shows all held, and elsewhere it is 6; nothing is stored.
use Rattle.std.proofs.Common.{rules, ◌≡◌, refl, sym, ◌∙◌, Some, None, Err}
use Rattle.codec.specs.declared.error.Refusal.TheVariants as refusal
use Rattle.station.proofs.Lending.{shown, not_shown}
use Rattle.station.proofs.calls.look.Goals as goal

pub returns-in_err-i : goal.returns-in_err-i
returns-in_err-i c =
    let n : c.find_motor.result ≡ None = search rules in
    let r : c.from_residual.result ≡ Err refusal.IdNotRegistered = search rules in
    rw (r, not_shown _ c.told-motors _ (sym c.find_motor.ensures.is ∙ n))

pub returns : goal.returns
returns c =
    let n : c.find_motor.result ≡ Some c.in_ok-i.i = search rules in
    shown _ c.told-motors _ _ _ _ (search rules) (sym c.find_motor.ensures.is ∙ n) c.look.ensures.is
