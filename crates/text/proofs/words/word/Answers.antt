-- Right because words are parts, by spaces.
use Rattle.std.proofs.Common.{◌∙◌}
use Rattle.text.proofs.Reading.{part-word}
use Rattle.text.proofs.words.word.Goals as goal

pub returns : goal.returns
returns c = c.part.ensures ∙ part-word _ _
