-- Right because the place of the first space is how many bytes come before it, and a row without one is all name.
use Rattle.std.proofs.Common.{◌≡◌, ◌∙◌, ◌≤◌, ap, refl, sym, arith, ℕ, Bool, List, length, cond}
use Rattle.std.specs.Prelude.{Some, None, ◌==◌, nat_lt, unwrap_or, position}
use Rattle.std.specs.List.{position_or_len}
use borrow.Author.Tests.{tests}
use Rattle.std.proofs.Common.{rules, not}
use Rattle.std.proofs.lemmas.Bool.Decides.{nat_tests}
use Rattle.std.proofs.lemmas.Iterator.{YieldsList-from_slice}
use Rattle.std.proofs.lemmas.Iterator.Search.{position_from_yields_List}
use Rattle.std.proofs.lemmas.List.Sums.{prefix_len-le-length}
use Rattle.std.proofs.lemmas.List.Recursion.{is_position_or_len}
use Rattle.codec.specs.Names.{length_in}
use Rattle.codec.proofs.names.name_in.Goals as goal

abbrev is_space : ℕ → Bool
is_space byte = byte == 32

before_space : (row : List ℕ) → position_or_len is_space row ≡ length_in row
unfolding length_in
before_space row = sym (is_position_or_len length_in is_space refl (λ x xs. ap (cond (is_space x) 0) (omega arith)) row)

or_all : (p n : ℕ) → p ≤ n → unwrap_or (cond (nat_lt p n) (Some p) None) n ≡ p
or_all p n h = grind (arith, nat_tests)

pub returns : goal.returns
returns c =
    let row = c.args.row in
    let found : c.position.result ≡ position is_space row = position_from_yields_List is_space _ _ c.position.result c.position.ensures.ran (YieldsList-from_slice row cc) (λ x b q k. search (rules, tests)) in
    let sixteen : 16 ≡ length row = omega arith in
    ap (λ (n : ℕ). record { bytes = row; length = n })
    (c.unwrap_or-length.ensures
    ∙ ap (λ o. unwrap_or o 16) found
    ∙ rw sixteen (or_all (position_or_len is_space row) (length row) (prefix_len-le-length (λ byte. not (is_space byte)) row))
    ∙ before_space row)
