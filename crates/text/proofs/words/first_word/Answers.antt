-- Right because the first word ends at the first space, and what follows begins behind it.
use Rattle.std.proofs.Common.{length, ◌+◌, ◌∙◌}
use Rattle.std.proofs.Math.Seq.{drop-length}
use Rattle.text.proofs.Reading.{first-word, whole-word, to_end, past-found, past-none}
use Rattle.text.proofs.words.first_word.Goals as goal

pub returns-in-Some-clause-word : goal.returns-in-Some-clause-word
returns-in-Some-clause-word c = let s = c.args.s.now in first-word s c.in-Some.end (cc)

pub returns-in-Some-clause-rest : goal.returns-in-Some-clause-rest
returns-in-Some-clause-rest c = let s = c.args.s.now in to_end (c.in-Some.end + 1) s ∙ past-found s c.in-Some.end (cc)

pub returns-in-None-clause-word : goal.returns-in-None-clause-word
returns-in-None-clause-word c = let s = c.args.s.now in whole-word s (cc)

pub returns-in-None-clause-rest : goal.returns-in-None-clause-rest
returns-in-None-clause-rest c = let s = c.args.s.now in to_end (length s) s ∙ drop-length s ∙ past-none s (cc)
