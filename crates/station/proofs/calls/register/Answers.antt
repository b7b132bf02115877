-- Right because the registration's own tests come first, then 5 and 4.
use Rattle.std.proofs.Common.{rules, ◌≡◌, sym, ◌∙◌, ap, Some, None, Err, true, false, is_some}
use Rattle.codec.specs.declared.error.Refusal.TheVariants as refusal
use Rattle.station.specs.Stations.{register_in}
use Rattle.station.proofs.Lending.{twice, room, no_room}
use Rattle.station.proofs.calls.register.Goals as goal

pub returns-in_err-model : goal.returns-in_err-model
unfolding register_in
returns-in_err-model c =
    let r : c.from_residual.result ≡ Err c.in_err-model.field-0.0 = search rules in
    rw (r, ← c.registration_of.ensures, c.in_err-model.was)

pub returns-then-is_some : goal.returns-then-is_some
returns-then-is_some c =
    let s : is_some c.find_motor.result ≡ true = search rules in
    sym (twice _ c.told-motors _ _ _ _ _ _ (sym c.registration_of.ensures ∙ c.in_ok-model.was) (ap (λ o. is_some o) (sym c.find_motor.ensures.is) ∙ s))

pub returns-in_err-i : goal.returns-in_err-i
returns-in_err-i c =
    let s : is_some c.find_motor.result ≡ false = search rules in
    let n : c.find_place.result ≡ None = search rules in
    let r : c.from_residual-in_err-i.result ≡ Err refusal.StationFull = search rules in
    rw r
    (sym (no_room _ c.told-motors _ _ _ _ _ _ (sym c.registration_of.ensures ∙ c.in_ok-model.was) (ap (λ o. is_some o) (sym c.find_motor.ensures.is) ∙ s)
    (sym c.find_place.ensures.is ∙ n)))

pub returns : goal.returns
returns c =
    let s : is_some c.find_motor.result ≡ false = search rules in
    let n : c.find_place.result ≡ Some c.in_ok-i.i = search rules in
    rw c.new.ensures.is
    (sym (room _ c.told-motors _ _ _ _ _ _ (sym c.registration_of.ensures ∙ c.in_ok-model.was) (ap (λ o. is_some o) (sym c.find_motor.ensures.is) ∙ s) _
    (sym c.find_place.ensures.is ∙ n)))
