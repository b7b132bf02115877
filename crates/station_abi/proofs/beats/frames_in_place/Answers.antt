use Rattle.std.proofs.Common.{rules, arith, ◌∙◌}
use Rattle.station_abi.specs.Beats.{next_beat}
use Rattle.station_abi.proofs.Counting.{passed-small, asked-same, one-beat, no_more, from-none, whole}
use Rattle.station_abi.proofs.beats.frames_in_place.Goals as goal

pub overflow_add-b : goal.overflow_add-b
overflow_add-b c =
    let l = passed-small _ _ c.passed.ensures in
    search rules

pub loop-count-preserved : goal.loop-count-preserved
unfolding next_beat
loop-count-preserved c =
    let l = passed-small _ _ c.passed.ensures in
    let asked = asked-same c.loop-count.b c.next_frame.result c.next_frame.ensures in
    let t = one-beat _ _ c.loop-count.b _ c.call.result asked c.call.ensures.0 c.call.ensures.1 (omega arith) (omega arith) in
    (omega arith, omega arith, rw (c.passed.ensures, c.next_id.ensures) (t.1 ∙ c.loop-count.invariant.2))

pub returns : goal.returns
returns c =
    whole _ _ _ _ _ _ _ _ c.motors_of-motors.ensures c.last_parameter-parameter.ensures c.loaded-st.ensures
    (from-none _ _ _ _ _ _ (no_more _ _ (λ l. omega arith) ∙ c.loop-count.invariant.2))
