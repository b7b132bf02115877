-- Right because the lines are put one after another.
use Rattle.text.proofs.Putting.{put_then}
use Rattle.answers.proofs.looks.put_state.Goals as goal

pub returns : goal.returns
returns g c =
    let clock = rw (c.put_motor.ensures, put_then) at c.put_line.ensures in
    let responses = rw (clock, put_then) at c.put_line-2.ensures in
    let sequence = rw (responses, put_then) at c.put_line-3.ensures in
    let feedback = rw (sequence, put_then) at c.put_feedback.ensures in
    let fault = rw (feedback, put_then) at c.put_fault.ensures in
    let ping = rw (fault, put_then) at c.put_held_ping.ensures in
    let version = rw (ping, put_then) at c.put_held_version.ensures in
    let gains = rw (version, put_then) at c.put_gains.ensures in
    rw (gains, put_then) at c.put_running.ensures
