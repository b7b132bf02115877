-- Right because the motor at the id's place says whether it may go, and elsewhere it is 6.
use Rattle.std.proofs.Common.{rules, ◌≡◌, sym, ◌∙◌, Some, None, Err}
use Rattle.codec.specs.declared.error.Refusal.TheVariants as refusal
use Rattle.station.specs.Stations.{remove_in}
use Rattle.station.proofs.Found.{at_none}
use Rattle.station.proofs.Lending.{removed}
use Rattle.station.proofs.calls.remove.Goals as goal

pub returns-in_err-i : goal.returns-in_err-i
unfolding remove_in
returns-in_err-i c =
    let n : c.find_motor.result ≡ None = search rules in
    let r : c.from_residual.result ≡ Err refusal.IdNotRegistered = search rules in
    rw (r, at_none _ _ _ _ c.told-motors (sym c.find_motor.ensures.is ∙ n))

pub returns-in_err-removal : goal.returns-in_err-removal
returns-in_err-removal c =
    let n : c.find_motor.result ≡ Some c.in_ok-i.i = search rules in
    let r : c.from_residual-in_err-removal.result ≡ c.removal.result = search rules in
    rw (r, ← removed _ c.told-motors _ c.args.now _ _ c.removal.result (search rules) (sym c.find_motor.ensures.is ∙ n) c.removal.ensures, c.in_err-removal.was)

pub returns : goal.returns
returns c =
    let n : c.find_motor.result ≡ Some c.in_ok-i.i = search rules in
    rw (← removed _ c.told-motors _ c.args.now _ _ c.removal.result (search rules) (sym c.find_motor.ensures.is ∙ n) c.removal.ensures, c.in_ok-removal.was, c.free_motor.ensures)
