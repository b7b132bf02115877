-- What one more word, one more zero and one more row do to what is read. Assumes nothing.
use Rattle.std.proofs.Common.{Bool, true, false, refl, length-set, ltb-false, ◌≡◌, ℕ, suc, ◌+◌, ◌-◌, ◌*◌, ◌<◌, ◌≤◌, cond, List, length, get_or, set, take, drop, Option, Some, None, Ok, arith, le-ltb, eqb, ltb}
use Rattle.text.specs.Numbers.{digits_in}
use Rattle.session.specs.Arguments.{argument_at, read_on}
use Rattle.session.specs.Events.{◌>>=◌}
use Rattle.session.specs.Heard.{shifted_by, milliseconds_of, stamp_in}
use Rattle.session.specs.Table.{past_row, row_from}
use Rattle.text.specs.Words.{word_at, same_bytes}
use Rattle.text.proofs.Reading.{same-eq}

-- ---- the words from letter i on, of n in all

module _ (line shape v : List ℕ) (i n : ℕ) where
  pub read_done : n ≤ i → read_on line shape v i (n - i) ≡ Ok v
  unfolding read_on
  read_done h = let p : n - i ≡ 0 = omega arith in rw p

  pub read_step : i < n → read_on line shape v i (n - i) ≡ (argument_at line shape i >>= (λ x. read_on line shape (set v i x) (i + 1) (n - (i + 1))))
  unfolding read_on
  read_step h = let p : n - i ≡ suc (n - (i + 1)) = omega arith in rw p

-- ---- the zeros from place i on, of k in all

module _ (v i k : ℕ) where
  pub shift_done : k ≤ i → shifted_by v (k - i) ≡ Some v
  unfolding shifted_by
  shift_done h = let p : k - i ≡ 0 = omega arith in rw p

  pub shift_step : i < k → shifted_by v (k - i) ≡ cond (ltb 0x0FFF_FFFF_FFFF_FFFF v) None (shifted_by (v * 16) (k - (i + 1)))
  unfolding shifted_by
  shift_step h = let p : k - i ≡ suc (k - (i + 1)) = omega arith in rw p

-- ---- the rows from row k on, of n in all

module _ (table w : List ℕ) (k n : ℕ) where
  pub row_none : n ≤ k → row_from table k (n - k) w ≡ None
  unfolding row_from
  row_none h = let p : n - k ≡ 0 = omega arith in rw p

  pub row_step : k < n → row_from table k (n - k) w ≡ cond (eqb (length table) 0) None (cond (same_bytes w (word_at table 0)) (Some k) (row_from (past_row table) (k + 1) (n - (k + 1)) w))
  unfolding row_from
  row_step h = let p : n - k ≡ suc (n - (k + 1)) = omega arith in rw p

-- ---- a time

-- what is known of n bytes where the point stands eight before the end: its parts on both sides, as the code cuts them
abbrev cut : List ℕ → ℕ → Option ℕ
cut w n =
    cond (eqb (get_or w (n - 1) 0) 0x29)
    (cond (eqb (get_or w (n - 8) 0) 0x2E)
    (milliseconds_of (digits_in 10 (take (n - 8 - 1) (drop 1 w))) (digits_in 10 (take (n - 1 - (n - 7)) (drop (n - 7) w))))
    None)
    None

pub stamp_parts : (w : List ℕ) (n : ℕ) → stamp_in w n ≡ cond (ltb n 10) None (cut w n)
unfolding stamp_in
stamp_parts w n = go (ltb n 10) refl
  where
    go : (b : Bool) → ltb n 10 ≡ b → stamp_in w n ≡ cond (ltb n 10) None (cut w n)
    go true e = rw e
    go false e =
        let h : 10 ≤ n = ltb-false n 10 e in
        let a : n - 8 - 1 ≡ n - 9 = omega arith in
        let b : n - 1 - (n - 7) ≡ 6 = omega arith in
        rw (a, b)

-- ---- what the checks try

pub ruleset words_read = (read_done, read_step, length-set)

pub ruleset zeros_put = (shift_done, shift_step)

pub ruleset rows_passed = (row_none, row_step, same-eq)
