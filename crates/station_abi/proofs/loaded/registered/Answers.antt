use Rattle.std.proofs.Common.{◌≡◌, ◌-◌, ap, ◌∙◌, arith, refl}
use Rattle.codec.specs.Models.{named_among, same_bytes}
use Rattle.station_abi.specs.Loaded.{registered_of}
use Rattle.station_abi.proofs.Loading.{registered-next}
use Rattle.station_abi.proofs.loaded.registered.Goals as goal

pub loop-id-init : goal.loop-id-init
unfolding registered_of
loop-id-init c = (omega arith, c.new-st.ensures.is)

pub loop-id-preserved : goal.loop-id-preserved
unfolding named_among same_bytes
loop-id-preserved c =
    (omega arith, registered-next c.loop-id.id _ _ _ _ c.register.result (omega arith) (omega arith) c.loop-id.invariant.1 c.from.ensures refl c.register.ensures.is)

pub returns : goal.returns
returns c =
    let e : c.loop-id.id - 1 ≡ c.args.motors = omega arith in
    c.loop-id.invariant.1 ∙ ap registered_of e

pub returns-2 : goal.returns-2
unfolding named_among same_bytes
returns-2 c = registered-next c.loop-id.id _ _ _ _ c.register.result (omega arith) (omega arith) c.loop-id.invariant.1 c.from.ensures refl c.register.ensures.is
