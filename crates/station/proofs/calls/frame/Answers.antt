-- Right because the frame goes to the place of its source, and what the motor there heard is stored.
use Rattle.std.proofs.Common.{rules, ◌≡◌, sym, ◌∙◌, Some, None, Err, true, false}
use Rattle.codec.specs.declared.error.Refusal.TheVariants as refusal
use Rattle.station.proofs.Lending.{unheard, from_nobody, heard, reads}
use Rattle.station.proofs.calls.frame.Goals as goal

pub returns-then-not-arrival : goal.returns-then-not-arrival
returns-then-not-arrival c =
    let p : c.arrival_of-arrival.result.accepted ≡ false = search rules in
    sym (unheard _ c.told-motors _ _ _ c.arrival_of-arrival.ensures p)

pub returns-in_err-i : goal.returns-in_err-i
returns-in_err-i c =
    let p : c.arrival_of-arrival.result.accepted ≡ true = search rules in
    let n : c.find_motor.result ≡ None = search rules in
    let r : c.from_residual.result ≡ Err refusal.FrameNotAccepted = search rules in
    rw r (sym (from_nobody _ c.told-motors _ _ _ c.arrival_of-arrival.ensures p (sym c.find_motor.ensures.is ∙ n)))

pub returns-then-arrival : goal.returns-then-arrival
returns-then-arrival c =
    let p : c.arrival_of-arrival.result.accepted ≡ true = search rules in
    let n : c.find_motor.result ≡ Some c.in_ok-i.i = search rules in
    heard _ c.told-motors _ _ _ c.arrival_of-arrival.ensures p _ _ _ (search rules) (sym c.find_motor.ensures.is ∙ n)
    (c.hear_read_at.ensures (reads _ _ _ c.arrival_of-arrival.ensures c.if-arrival.true))

pub returns : goal.returns
returns c =
    let p : c.arrival_of-arrival.result.accepted ≡ true = search rules in
    let n : c.find_motor.result ≡ Some c.in_ok-i.i = search rules in
    heard _ c.told-motors _ _ _ c.arrival_of-arrival.ensures p _ _ _ (search rules) (sym c.find_motor.ensures.is ∙ n)
    (c.hear_state_at.ensures (reads _ _ _ c.arrival_of-arrival.ensures c.if-arrival.false))
