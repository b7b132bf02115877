use Rattle.std.proofs.Common.{rules, arith}
use Rattle.station_abi.proofs.Counting.{passed-small, turn, ends, whole}
use Rattle.station_abi.proofs.frames.frames_by_value.Goals as goal

pub overflow_add-taken : goal.overflow_add-taken
overflow_add-taken c =
    let l = passed-small _ _ c.passed-taken.ensures in
    search rules

pub loop-count-preserved : goal.loop-count-preserved
loop-count-preserved c =
    let l = passed-small _ _ c.passed-taken.ensures in (
      omega arith,
      turn _ _ _ _ _ _ _ _ _ _ _ _ _ (omega arith) c.next_frame.ensures c.frame-after.ensures.is c.passed-taken.ensures c.next_id-id.ensures c.loop-count.invariant.1,
    )

pub returns : goal.returns
returns c =
    whole _ _ _ _ _ _ _ _ c.motors_of-motors.ensures c.last_parameter-parameter.ensures c.loaded-st.ensures
    (ends _ _ _ _ _ _ _ _ (omega arith) c.loop-count.invariant.1)
