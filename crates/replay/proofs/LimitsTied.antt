-- What ties the limits: an answer has room, a line cut short is still too long, and its reason says the limit. Assumes nothing.
use Rattle.std.proofs.Common.{◌≡◌, ◌+◌, ◌<◌, ◌≤◌, ◌++◌, refl, arith}
use Rattle.session.specs.declared.event.Reason.TheVariants as reason
use Rattle.session.specs.Limits.{longest_line}
use Rattle.text.specs.Ascii.{ascii}
use Rattle.text.specs.Put.{glyph_of, decimal_in, decimal_text}
use Rattle.replay.specs.Limits.{buffer_size, output_room, longest_answer, kept_bytes}
use Rattle.replay.specs.Reasons.{reason_text}

pub answer-has-room : output_room + longest_answer ≤ buffer_size
answer-has-room = omega arith

pub kept-is-too-long : longest_line < kept_bytes
kept-is-too-long = omega arith

pub kept-fits : kept_bytes ≤ buffer_size
kept-fits = omega arith

pub reason-says : reason_text reason.LineTooLong ≡ ascii "a line has at most " ++ decimal_text longest_line ++ ascii " bytes"
unfolding reason_text glyph_of decimal_in
reason-says = refl
