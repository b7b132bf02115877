use Rattle.std.proofs.Common.{◌≡◌, ◌-◌, ap, ◌∙◌, arith, refl}
use Rattle.station_abi.specs.Loaded.{read_by_all}
use Rattle.station_abi.proofs.Loading.{read_next}
use Rattle.station_abi.proofs.loaded.read_by_all.Goals as goal

pub loop-id-init : goal.loop-id-init
unfolding read_by_all
loop-id-init c = (omega arith, refl)

pub loop-id-preserved : goal.loop-id-preserved
loop-id-preserved c =
    (omega arith, read_next _ _ c.loop-id.id _ _ _ c.frame.result (omega arith) (omega arith) c.loop-id.invariant.1 c.read_reply.ensures c.frame.ensures.is)

pub returns : goal.returns
returns c =
    let e : c.loop-id.id - 1 ≡ c.args.motors = omega arith in
    c.loop-id.invariant.1 ∙ ap (λ i. read_by_all c.args.st i c.args.parameter) e

pub returns-2 : goal.returns-2
returns-2 c = read_next _ _ c.loop-id.id _ _ _ c.frame.result (omega arith) (omega arith) c.loop-id.invariant.1 c.read_reply.ensures c.frame.ensures.is
