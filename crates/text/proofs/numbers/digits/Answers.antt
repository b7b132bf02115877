use Rattle.std.proofs.Common.{◌≡◌, ◌<◌, length, None, Some, get_or, sym, ◌∙◌, arith}
use Rattle.std.proofs.lemmas.Bool.Decides.{nat_tests}
use Rattle.text.specs.Numbers.{digit_of, one_more}
use Rattle.text.proofs.Reading.{some, none, read_done, read-on}
use Rattle.text.proofs.numbers.digits.Goals as goal

pub returns-then-is_empty : goal.returns-then-is_empty
returns-then-is_empty g c = let e : length c.args.w.now ≡ 0 = grind (arith, nat_tests) in sym (none _ c.args.w.now e)

pub loop-b-init : goal.loop-b-init
loop-b-init g c = let e : 0 < length c.args.w.now = grind (arith, nat_tests) in some _ c.args.w.now e

pub returns-in_err-digit : goal.returns-in_err-digit
returns-in_err-digit g c =
    let d : digit_of (get_or c.args.w.now c.loop-b.b-index 0) ≡ None = sym c.digit.ensures ∙ c.in_err-digit.was in
    c.from_residual.ensures ∙ sym (c.loop-b.invariant ∙ (rw d at (read-on g.row.BASE c.loop-b.n c.args.w.now c.loop-b.b-index (omega arith))))

pub returns-in_err-n : goal.returns-in_err-n
returns-in_err-n g c =
    let d : digit_of (get_or c.args.w.now c.loop-b.b-index 0) ≡ Some c.in_ok-digit.field-0 = sym c.digit.ensures ∙ c.in_ok-digit.was in
    let n : one_more g.row.BASE c.loop-b.n c.in_ok-digit.field-0 ≡ None = sym c.one_more.ensures ∙ c.in_err-n.was in
    c.from_residual-in_err-n.ensures ∙ sym (c.loop-b.invariant ∙ (rw (d, n) at (read-on g.row.BASE c.loop-b.n c.args.w.now c.loop-b.b-index (omega arith))))

pub loop-b-preserved : goal.loop-b-preserved
loop-b-preserved g c =
    let d : digit_of (get_or c.args.w.now c.loop-b.b-index 0) ≡ Some c.in_ok-digit.field-0 = sym c.digit.ensures ∙ c.in_ok-digit.was in
    let n : one_more g.row.BASE c.loop-b.n c.in_ok-digit.field-0 ≡ Some c.in_ok-n.n = sym c.one_more.ensures ∙ c.in_ok-n.was in
    c.loop-b.invariant ∙ (rw (d, n) at (read-on g.row.BASE c.loop-b.n c.args.w.now c.loop-b.b-index (omega arith)))

pub returns : goal.returns
returns g c = let e : c.loop-b.b-index ≡ length c.args.w.now = omega arith in sym (c.loop-b.invariant ∙ rw e (read_done _ _ c.args.w.now))
