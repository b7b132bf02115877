-- Right because each arm puts its text.
use Rattle.text.proofs.Putting.{put_then}
use Rattle.answers.proofs.said.put_outcome.Goals as goal

pub returns-in-Mode : goal.returns-in-Mode
returns-in-Mode g c = rw (c.put_bytes-in-Mode-2.ensures, c.mode_text.ensures, c.put_bytes-in-Mode.ensures, put_then, c.in-Mode.is)
