use Rattle.std.proofs.Common.{◌≡◌, false, [], length, refl, arith, ◌∙◌}
use Rattle.text.proofs.Putting.{put_nil, put_then}
use Rattle.answers.specs.Flags.{named, any_upto, names_upto}
use Rattle.answers.proofs.Named.{any-more, names-more, names-none, nth-named, length-named}
use Rattle.answers.proofs.flags.put_flags.Goals as goal

pub loop-set-init : goal.loop-set-init
unfolding any_upto names_upto
loop-set-init g c = (rw put_nil, refl)

pub loop-set-preserved : goal.loop-set-preserved
loop-set-preserved g c =
    let flags = c.args.flags.now in
    let i = c.loop-set.set-index in
    let at = nth-named flags i (false, record { ref_ptr = (0, 0); now = [] }) (omega arith) in
    (rw (names-more, at) (grind (arith, put_then)), rw (any-more, at) (cc))

pub returns-then-not-any : goal.returns-then-not-any
returns-then-not-any g c =
    let flags = named c.args.flags.now in
    let e : c.loop-set.set-index ≡ length flags = omega (arith, length-named c.args.flags.now) in
    let none : any_upto flags (length flags) ≡ false = rw (← e) (cc) in
    let no : c.loop-set.out ≡ c.args.out.now = c.loop-set.invariant.0 ∙ rw (e, names-none flags (length flags) none, put_nil) in
    rw none (rw no at c.put_byte.ensures)
