use Rattle.std.proofs.Common.{◌≡◌, ◌-◌, ap, ◌∙◌, arith}
use Rattle.station_abi.specs.Loaded.{loaded_to}
use Rattle.station_abi.proofs.Loading.{loaded-next}
use Rattle.station_abi.proofs.loaded.loaded.Goals as goal

pub loop-count-init : goal.loop-count-init
unfolding loaded_to
loop-count-init c = (omega arith, c.registered-st.ensures)

pub loop-count-preserved : goal.loop-count-preserved
loop-count-preserved c =
    (omega arith, loaded-next _ c.loop-count.count _ _ _ _ (omega arith) (omega arith) c.loop-count.invariant.1 c.last_parameter.ensures c.read_by_all-st.ensures)

pub returns : goal.returns
returns c =
    let e : c.loop-count.count - 1 ≡ c.args.held = omega arith in
    c.loop-count.invariant.1 ∙ ap (λ i. loaded_to c.args.motors i) e

pub returns-2 : goal.returns-2
returns-2 c =
    loaded-next _ c.loop-count.count _ _ _ _ (omega arith) (omega arith) c.loop-count.invariant.1 c.last_parameter.ensures c.read_by_all-st.ensures
