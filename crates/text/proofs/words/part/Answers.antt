-- Right because the library splits s at each b into just these parts.
use Rattle.std.proofs.Common.{ap, eqb, rules, tests, ◌∙◌}
use Rattle.std.proofs.lemmas.Iterator.Consumers.{nth_from_yields_List}
use Rattle.std.proofs.lemmas.Iterator.Splits.{YieldsList-from_slice_split}
use Rattle.text.proofs.Reading.{part-split, unwrap-map}
use Rattle.text.proofs.words.part.Goals as goal

pub returns : goal.returns
returns c =
    let split = c.split.ensures in
    let nth = nth_from_yields_List c.nth.result _ c.args.k c.nth.ensures.ran (YieldsList-from_slice_split _ (λ x. eqb x c.args.b) c.args.s.now split.rest split.done split.closure (λ x b q k. search (rules, tests))) in
    ap (λ r. r.now) c.unwrap_or.ensures ∙ unwrap-map (λ r. r.now) c.nth.result _ ∙ rw nth (part-split c.args.b c.args.s.now c.args.k)
