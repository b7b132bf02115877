use Rattle.std.proofs.Common.{◌≡◌, suc, [], ◌∷◌, ◌++◌, length, get_or, sym, length-append, add-one, rules}
use Rattle.std.proofs.lemmas.Slice.Zip.{zip_turn}
use Rattle.text.specs.Fields.{fields_upto}
use Rattle.text.proofs.Putting.{put-nil, put_both}
use Rattle.text.proofs.fields.put_fields.Goals as goal

pub loop-n-init : goal.loop-n-init
unfolding fields_upto
loop-n-init c = put-nil _ _

pub loop-n-preserved : goal.loop-n-preserved
unfolding fields_upto
loop-n-preserved c =
    let turn = zip_turn c.args.v c.args.shape.now c.loop-n.yielded c.into_iter-n-iterator.result c.loop-n.n-iterator c.next.new.self c.next.result (search rules) (search rules) c.loop-n.yielded_by _ c.in-Some.is c.next.ensures.steps in
    let n : get_or c.args.v (length c.loop-n.yielded) 0 ≡ c.in-Some.field-0-0.now = sym (turn.2 0) in
    let letter : get_or c.args.shape.now (length c.loop-n.yielded) 0 ≡ c.in-Some.field-0-1.now = sym (turn.3 0) in
    let k : length (c.loop-n.yielded ++ (c.in-Some.field-0-0, c.in-Some.field-0-1) ∷ []) ≡ suc (length c.loop-n.yielded) = rw (length-append, add-one) in
    rw (k, n, letter) (put_both c.loop-n.invariant c.put_field-next.ensures)
