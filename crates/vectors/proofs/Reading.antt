-- Where one argument isn't good none are. Assumes nothing.
use Rattle.std.proofs.Common.{◌≡◌, ℕ, zero, suc, ◌+◌, ◌<◌, None, List, get_or, arith}
use Rattle.text.specs.Words.{word_at}
use Rattle.vectors.specs.Requests.{argument_of, arguments_upto}

pub none_at : (line shape : List ℕ) (i n : ℕ) → i < n → argument_of (word_at line (i + 1)) (get_or shape i 0) ≡ None → arguments_upto line shape n ≡ None
unfolding arguments_upto
none_at line shape i zero l h = absurd (omega arith)
none_at line shape i (suc n) l h = grind (arith, none_at line shape i n)
