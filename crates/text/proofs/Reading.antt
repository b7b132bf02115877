-- What one more digit, and one more byte of a line, do to what is read. Assumes nothing.
use Prim.Native.Nat.{ℕ, zero, suc, ◌+◌, ◌-◌, ◌≤◌, ◌<◌}
use mathlib.Core.Path.{◌≡◌, refl, ap, sym}
use mathlib.Core.Bool.{Bool, true, false, cond, ◌&&◌}
use mathlib.Core.List.{List, [], ◌∷◌}
use native.Mathlib.Omega.{arith}
use native.Mathlib.Numerals.{add-one}
use lib.ListN.{length, take, drop, get_or, length-drop}
use lib.Seq.{drop-cons, drop-length, drop-nil, length-take-le, take_all, take-length}
use lib.Dec.{eqb, ltb}
use borrow.Author.Tests.{ltb-true, ltb-false, lt-ltb, le-ltb}
use Rattle.std.specs.Prelude.{Option, option_map, unwrap_or, option_and_then, Some, None, bytes_eq, count_by}
use Rattle.std.specs.Option.{MatchOption}
use Rattle.std.specs.List.{position_or_len, slice_split, slice_get, onto_first}
use Rattle.std.proofs.lemmas.List.{drop-take}
use Rattle.std.proofs.lemmas.List.Sums.{sum_by-cons}
use Rattle.std.proofs.lemmas.List.Recursion.{is_position_or_len}
use Rattle.text.specs.Search.{index_of, index_after, position_of, slice}
use Rattle.text.specs.Numbers.{digit_of, one_more, read_from, digits_in}
use Rattle.text.specs.Words.{word_count, part_at, word_at, past_word, same_bytes, which_of, which_in, below}

pub some : (base : ℕ) (s : List ℕ) → 0 < length s → digits_in base s ≡ read_from base 0 s
unfolding digits_in
some base [] h = absurd (omega arith)
some base (b ∷ s) h = refl

pub none : (base : ℕ) (s : List ℕ) → length s ≡ 0 → digits_in base s ≡ None
unfolding digits_in
none base [] h = refl
none base (b ∷ s) h = absurd (omega arith)

pub read_done : (base n : ℕ) (s : List ℕ) → read_from base n (drop (length s) s) ≡ Some n
unfolding read_from
read_done base n s = rw drop-length

pub read-on : (base n : ℕ) (s : List ℕ) (i : ℕ) → i < length s
    → read_from base n (drop i s) ≡ option_and_then (λ d. option_and_then (λ m. read_from base m (drop (i + 1) s)) (one_more base n d)) (digit_of (get_or s i 0))
unfolding read_from
read-on base n s i h = rw (drop-cons s i 0 h, add-one)

-- one byte more in front
pub words-cons : (x : ℕ) (s : List ℕ) → word_count (x ∷ s) ≡ cond (eqb x 32) (word_count s + 1) (word_count s)
unfolding word_count
words-cons x s = rw (sum_by-cons (λ (b : ℕ). cond (eqb b 32) 1 0) x s) (by (eqb x 32))
  where
    by : (c : Bool) → cond c 1 0 + count_by (λ b. eqb b 32) s + 1 ≡ cond c (count_by (λ b. eqb b 32) s + 1 + 1) (count_by (λ b. eqb b 32) s + 1)
    by true = omega arith
    by false = omega arith

-- ---- a search

-- the first place of a byte, by the library's words
pub index-position : (b : ℕ) (s : List ℕ) → index_of b s ≡ position_or_len (λ x. eqb x b) s
unfolding index_of index_after
index-position b s = is_position_or_len (index_of b) (λ x. eqb x b) refl (λ x xs. here (eqb x b) (index_of b xs)) s
  where
    here : (c : Bool) (n : ℕ) → index_after c n ≡ cond c 0 (1 + n)
    here true n = refl
    here false n = omega arith

pub place-is : (b : ℕ) (s : List ℕ) → position_of b s ≡ below (length s) (index_of b s)
place-is b s = rw (index-position b s)

-- no place is further than the end
pub index-le : (b : ℕ) (s : List ℕ) → index_of b s ≤ length s
unfolding index_of index_after
index-le b [] = omega arith
index-le b (x ∷ s) = by (eqb x b) (index-le b s)
  where
    by : (c : Bool) → index_of b s ≤ length s → index_after c (index_of b s) ≤ suc (length s)
    by true l = omega arith
    by false l = omega arith

-- a place that is found, and one that isn't
pub below-found : (n k e : ℕ) → below n k ≡ Some e → (e ≡ k) × (k < n)
below-found n k e h = go (ltb k n) refl h
  where
    go : (c : Bool) → ltb k n ≡ c → cond c (Some k) None ≡ Some e → (e ≡ k) × (k < n)
    go true l h = (cc, ltb-true k n l)
    go false l h = absurd (cc)

pub below-none : (n k : ℕ) → below n k ≡ None → n ≤ k
below-none n k h = go (ltb k n) refl h
  where
    go : (c : Bool) → ltb k n ≡ c → cond c (Some k) None ≡ None → n ≤ k
    go true l h = absurd (cc)
    go false l h = ltb-false k n l

pub place-found : (b : ℕ) (s : List ℕ) (e : ℕ) → position_of b s ≡ Some e → (e ≡ index_of b s) × (e < length s)
place-found b s e h = let x = below-found _ _ e (rw place-is at h) in (x.0, omega arith)

pub place-none : (b : ℕ) (s : List ℕ) → position_of b s ≡ None → index_of b s ≡ length s
place-none b s h = let x = below-none _ _ (rw place-is at h) in omega (arith, index-le b s)

-- a range, as the code cuts it
pub range-is : (s : List ℕ) (from to : ℕ) → from ≤ to → slice from to s ≡ take (to - from) (drop from s)
unfolding slice
range-is s from to h = let e : from + (to - from) ≡ to = omega arith in rw e at (drop-take from (to - from) s)

pub range-length : (s : List ℕ) (from to : ℕ) → from ≤ to → to ≤ length s → length (take (to - from) (drop from s)) ≡ to - from
range-length s from to h l = length-take-le (to - from) (drop from s) (rw length-drop (omega arith))

pub drop_past : (n : ℕ) (s : List ℕ) → length s ≤ n → drop n s ≡ []
drop_past n [] h = drop-nil n
drop_past zero (b ∷ s) h = absurd (omega arith)
drop_past (suc n) (b ∷ s) h = drop_past n s (omega arith)

nothing : (b k : ℕ) → part_at b [] k ≡ []
unfolding part_at index_of
nothing b zero = refl
nothing b (suc k) = nothing b k

-- a byte in front of the first part
onto-zero : (x : ℕ) (ps : List (List ℕ)) → unwrap_or (slice_get (onto_first x ps) 0) [] ≡ x ∷ unwrap_or (slice_get ps 0) []
onto-zero x [] = refl
onto-zero x (p ∷ ps) = refl

onto-suc : (x : ℕ) (ps : List (List ℕ)) (k : ℕ) → slice_get (onto_first x ps) (suc k) ≡ slice_get ps (suc k)
onto-suc x [] k = refl
onto-suc x (p ∷ ps) k = refl

-- the parts of s are those that the library splits it into
pub part-split : (b : ℕ) (s : List ℕ) (k : ℕ) → unwrap_or (slice_get (slice_split (λ x. eqb x b) s) k) [] ≡ part_at b s k
unfolding part_at index_of index_after
part-split b [] zero = refl
part-split b [] (suc k) = sym (nothing b k)
part-split b (x ∷ s) zero = by (eqb x b) (part-split b s 0)
  where
    by : (c : Bool) → unwrap_or (slice_get (slice_split (λ x. eqb x b) s) 0) [] ≡ part_at b s 0
        → unwrap_or (slice_get (cond c ([] ∷ slice_split (λ x. eqb x b) s) (onto_first x (slice_split (λ x. eqb x b) s))) 0) [] ≡ take (index_after c (index_of b s)) (x ∷ s)
    by true e = refl
    by false e = rw onto-zero (ap (λ (l : List ℕ). x ∷ l) e)
part-split b (x ∷ s) (suc k) = by (eqb x b) (part-split b s k) (part-split b s (suc k))
  where
    by : (c : Bool) → unwrap_or (slice_get (slice_split (λ x. eqb x b) s) k) [] ≡ part_at b s k
        → unwrap_or (slice_get (slice_split (λ x. eqb x b) s) (suc k)) [] ≡ part_at b s (suc k)
        → unwrap_or (slice_get (cond c ([] ∷ slice_split (λ x. eqb x b) s) (onto_first x (slice_split (λ x. eqb x b) s))) (suc k)) []
        ≡ part_at b (drop (index_after c (index_of b s) + 1) (x ∷ s)) k
    by true e f = e
    by false e f = let n : suc (index_of b s) + 1 ≡ suc (index_of b s + 1) = omega arith in rw (onto-suc, n) f

-- what a reference says where there is one
pub unwrap-map : {A B : Type 0} (f : A → B) (o : Option A) (d : A) → f (unwrap_or o d) ≡ unwrap_or (option_map f o) (f d)
unwrap-map f (Some x) d = refl
unwrap-map f None d = refl

-- words are parts, by spaces
pub part-word : (s : List ℕ) (k : ℕ) → part_at 32 s k ≡ word_at s k
unfolding part_at word_at
part-word s zero = refl
part-word s (suc k) = part-word (drop (index_of 32 s + 1) s) k

-- a part to the end of s is s from there on
pub to_end : (n : ℕ) (s : List ℕ) → take (length s - n) (drop n s) ≡ drop n s
to_end n s = take_all (length s - n) (drop n s) (rw length-drop (omega arith))

-- ---- the same bytes

-- == on slices says that they are the same bytes
pub same-eq : (a b : List ℕ) → same_bytes a b ≡ bytes_eq a b
unfolding same_bytes
same-eq [] [] = refl
same-eq [] (y ∷ b) = refl
same-eq (x ∷ a) [] = refl
same-eq (x ∷ a) (y ∷ b) = ap (λ (c : Bool). eqb x y && c) (same-eq a b)

-- ---- one of the names

-- the names from name k on, of n in all
module _ (names w : List ℕ) (k n : ℕ) where
  pub which_none : n ≤ k → which_of names (n - k) w ≡ 0
  unfolding which_of
  which_none h = let p : n - k ≡ 0 = omega arith in rw p

  pub which_step : k < n → which_of names (n - k) w ≡ cond (same_bytes w (word_at names 0)) 0 (1 + which_of (past_word names) (n - (k + 1)) w)
  unfolding which_of
  which_step h = let p : n - k ≡ suc (n - (k + 1)) = omega arith in rw p

-- what follows the first space, and what doesn't
pub past-found : (s : List ℕ) (e : ℕ) → position_of 32 s ≡ Some e → drop (e + 1) s ≡ past_word s
past-found s e f = rw (place-found 32 s e f).0

pub past-none : (s : List ℕ) → position_of 32 s ≡ None → [] ≡ past_word s
past-none s f = sym (drop_past (index_of 32 s + 1) s (let l = place-none 32 s f in omega arith))

-- ---- the first word

pub first-word : (s : List ℕ) (e : ℕ) → position_of 32 s ≡ Some e → take e s ≡ word_at s 0
unfolding word_at
first-word s e f = rw (place-found 32 s e f).0

pub whole-word : (s : List ℕ) → position_of 32 s ≡ None → s ≡ word_at s 0
unfolding word_at
whole-word s f = rw (place-none 32 s f, take-length)

-- what the check of `which` tries
pub ruleset names_passed = (which_none, which_step, same-eq)
