-- What is put is read back: digits are read as their number, and words parted by spaces as these words. Assumes nothing.
use Prim.Native.Nat.{ℕ, zero, suc, ◌+◌, ◌-◌, ◌*◌, ◌/◌, ◌%◌, ◌^◌, ◌≤◌, ◌<◌}
use mathlib.Core.Path.{◌≡◌, refl, ◌∙◌}
use mathlib.Core.Bool.{Bool, true, false, cond}
use mathlib.Core.List.{List, [], ◌∷◌, ◌++◌, append-nil, append_assoc}
use native.Mathlib.Omega.{arith}
use native.Mathlib.Nat.{pow-zero, pow-suc, mod-lt, div-add-mod', div-lt_iff_lt-mul}
use lib.Dec.{eqb, ltb}
use lib.ListN.{length, length-append}
use lib.Seq.{take-length, take_at, drop-append-add}
use borrow.Author.Tests.{ltb-true, ltb-false, lt-ltb, le-ltb, ne_eqb}
use Rattle.text.specs.Search.{index_of, index_after}
use Rattle.std.specs.Prelude.{Some}
use Rattle.text.specs.Numbers.{digit_of, read_from, digits_in}
use Rattle.text.specs.Put.{glyph_of, digits_text, decimal_in}
use Rattle.text.specs.Words.{word_count, word_at}
use Rattle.text.proofs.Reading.{some, words-cons}

-- ---- digits

pub digit_glyph : (d : ℕ) → d < 16 → digit_of (glyph_of d) ≡ Some d
unfolding digit_of glyph_of
digit_glyph d h = go (ltb d 10) refl
  where
    go : (c : Bool) → ltb d 10 ≡ c → digit_of (cond c (48 + d) (55 + d)) ≡ Some d
    go true e =
        let l : d < 10 = ltb-true d 10 e in
        let v : 48 + d - 48 ≡ d = omega arith in
        rw (le-ltb (48 + d) 48 (omega arith), lt-ltb (48 + d) 58 (omega arith), v)
    go false e =
        let l : 10 ≤ d = ltb-false d 10 e in
        let v : 55 + d - 55 ≡ d = omega arith in
        rw (le-ltb (55 + d) 48 (omega arith), le-ltb (55 + d) 58 (omega arith), le-ltb (55 + d) 65 (omega arith), lt-ltb (55 + d) 71 (omega arith), v)

pub glyph-range : (d : ℕ) → d < 16 → (48 ≤ glyph_of d) × (glyph_of d ≤ 70)
unfolding glyph_of
glyph-range d h = go (ltb d 10) refl
  where
    go : (c : Bool) → ltb d 10 ≡ c → (48 ≤ cond c (48 + d) (55 + d)) × (cond c (48 + d) (55 + d) ≤ 70)
    go true e = let l : d < 10 = ltb-true d 10 e in (omega arith, omega arith)
    go false e = (omega arith, omega arith)

-- one more digit
pub read-glyph : (base n d : ℕ) (s : List ℕ) → d < base → base ≤ 16 → n * base + d < 18446744073709551616
    → read_from base n (glyph_of d ∷ s) ≡ read_from base (n * base + d) s
unfolding read_from
read-glyph base n d s h b w = rw (digit_glyph d (omega arith), lt-ltb _ _ h, lt-ltb _ _ w)

module _ (base : ℕ) (pos : 0 < base) (few : base ≤ 16) where
  pub read-digits : (k n : ℕ) (s : List ℕ) → n < base ^ k → n < 18446744073709551616 → read_from base 0 (digits_text base k n ++ s) ≡ read_from base n s
  unfolding digits_text
  read-digits zero n s h w = let z : 0 ≡ n = omega (arith, rw pow-zero at h) in rw z
  read-digits (suc k) n s h w =
      let e : n / base * base + n % base ≡ n = div-add-mod' n base in
      let m : n % base < base = mod-lt n pos in
      let q : n / base < base ^ k = (div-lt_iff_lt-mul pos).1 (rw pow-suc at h) in
      let v : n / base < 18446744073709551616 = (div-lt_iff_lt-mul pos).1 (omega arith) in
      rw append_assoc (read-digits k (n / base) (glyph_of (n % base) ∷ s) q v ∙ read-glyph base (n / base) (n % base) s m few (omega arith) ∙ rw e)

pub read-decimal : (k n : ℕ) (s : List ℕ) → n < 10 ^ k → n < 18446744073709551616 → read_from 10 0 (decimal_in k n ++ s) ≡ read_from 10 n s
unfolding decimal_in
read-decimal zero n s h w = let z : 0 ≡ n = omega arith in rw z
read-decimal (suc k) n s h w = go (ltb n 10) refl (read-decimal k (n / 10) (glyph_of (n % 10) ∷ s))
  where
    go : (c : Bool) → ltb n 10 ≡ c
        → (n / 10 < 10 ^ k → n / 10 < 18446744073709551616 → read_from 10 0 (decimal_in k (n / 10) ++ (glyph_of (n % 10) ∷ s)) ≡ read_from 10 (n / 10) (glyph_of (n % 10) ∷ s))
        → read_from 10 0 (cond c (glyph_of n ∷ []) (decimal_in k (n / 10) ++ (glyph_of (n % 10) ∷ [])) ++ s) ≡ read_from 10 n s
    go true e i = let z : 0 * 10 + n ≡ n = omega arith in read-glyph 10 0 n s (ltb-true n 10 e) (omega arith) (omega arith) ∙ rw z
    go false e i =
        let q : n / 10 < 10 ^ k = (div-lt_iff_lt-mul {k = 10} (omega arith)).1 (rw pow-suc at h) in
        let t : n / 10 * 10 + n % 10 ≡ n = omega arith in
        rw append_assoc (i q (omega arith) ∙ read-glyph 10 (n / 10) (n % 10) s (omega arith) (omega arith) (omega arith) ∙ rw t)

pub digits-length : (base k n : ℕ) → length (digits_text base k n) ≡ k
unfolding digits_text
digits-length base zero n = refl
digits-length base (suc k) n = rw length-append (omega (arith, digits-length base k (n / base)))

pub digits-back : (base k n : ℕ) → 0 < base → base ≤ 16 → 0 < k → n < base ^ k → n < 18446744073709551616 → digits_in base (digits_text base k n) ≡ Some n
unfolding read_from
digits-back base k n p f z h w =
    some base (digits_text base k n) (rw digits-length z) ∙ (rw append-nil at (read-digits base p f k n [] h w))

pub decimal-some : (k n : ℕ) → 0 < length (decimal_in (suc k) n)
unfolding decimal_in
decimal-some k n = go (ltb n 10)
  where
    go : (c : Bool) → 0 < length (cond c (glyph_of n ∷ []) (decimal_in k (n / 10) ++ (glyph_of (n % 10) ∷ [])))
    go true = omega arith
    go false = rw length-append (omega arith)

pub decimal-back : (k n : ℕ) → n < 10 ^ suc k → n < 18446744073709551616 → digits_in 10 (decimal_in (suc k) n) ≡ Some n
unfolding read_from
decimal-back k n h w = some 10 (decimal_in (suc k) n) (decimal-some k n) ∙ (rw append-nil at (read-decimal (suc k) n [] h w))

-- ---- words: a byte is in none of s where its place is past s

module _ (b : ℕ) where
  -- a search goes on past a text without the byte
  pub index-past : (s t : List ℕ) → index_of b s ≡ length s → index_of b (s ++ t) ≡ length s + index_of b t
  unfolding index_of index_after
  index-past [] t e = omega arith
  index-past (x ∷ s) t e = go (eqb x b) (index-past s t) e
    where
      go : (c : Bool) → (index_of b s ≡ length s → index_of b (s ++ t) ≡ length s + index_of b t)
          → index_after c (index_of b s) ≡ suc (length s) → index_after c (index_of b (s ++ t)) ≡ suc (length s) + index_of b t
      go true i e = absurd (omega arith)
      go false i e = omega (arith, i (omega arith))

  pub free-append : (s t : List ℕ) → index_of b s ≡ length s → index_of b t ≡ length t → index_of b (s ++ t) ≡ length (s ++ t)
  free-append s t e f = rw length-append (omega (arith, index-past s t e))

  pub free-glyph : (d : ℕ) → d < 16 → b < 48 → index_of b (glyph_of d ∷ []) ≡ 1
  unfolding index_of index_after
  free-glyph d h l = rw (ne_eqb (glyph_of d) b (λ e. omega (arith, (glyph-range d h).0)))

  pub digits-free : (base k n : ℕ) → 0 < base → base ≤ 16 → b < 48 → index_of b (digits_text base k n) ≡ length (digits_text base k n)
  unfolding digits_text index_of
  digits-free base zero n p f l = refl
  digits-free base (suc k) n p f l =
      let m : n % base < base = mod-lt n p in
      free-append (digits_text base k (n / base)) (glyph_of (n % base) ∷ []) (digits-free base k (n / base) p f l) (free-glyph (n % base) (omega arith) l)

  pub decimal-free : (k n : ℕ) → b < 48 → index_of b (decimal_in k n) ≡ length (decimal_in k n)
  unfolding decimal_in index_of
  decimal-free zero n l = refl
  decimal-free (suc k) n l = go (ltb n 10) refl (decimal-free k (n / 10) l)
    where
      go : (c : Bool) → ltb n 10 ≡ c → index_of b (decimal_in k (n / 10)) ≡ length (decimal_in k (n / 10))
          → index_of b (cond c (glyph_of n ∷ []) (decimal_in k (n / 10) ++ (glyph_of (n % 10) ∷ []))) ≡ length (cond c (glyph_of n ∷ []) (decimal_in k (n / 10) ++ (glyph_of (n % 10) ∷ [])))
      go true e i = free-glyph n (omega (arith, ltb-true n 10 e)) l
      go false e i = free-append (decimal_in k (n / 10)) (glyph_of (n % 10) ∷ []) i (free-glyph (n % 10) (omega arith) l)

module _ (s : List ℕ) (free : index_of 32 s ≡ length s) where
  pub word_first : (t : List ℕ) → word_at (s ++ 32 ∷ t) 0 ≡ s
  unfolding word_at index_of index_after
  word_first t = rw (index-past 32 s (32 ∷ t) free) (take_at s (32 ∷ t) (length s + 0) (omega arith))

  pub word-later : (t : List ℕ) (k : ℕ) → word_at (s ++ 32 ∷ t) (suc k) ≡ word_at t k
  unfolding word_at index_of index_after
  word-later t k = let n : length s + 0 + 1 ≡ length s + 1 = omega arith in rw (index-past 32 s (32 ∷ t) free, n, drop-append-add s (32 ∷ t) 1)

  pub word-only : word_at s 0 ≡ s
  unfolding word_at
  word-only = rw (free, take-length)

  pub words-past : (t : List ℕ) → word_count (s ++ t) ≡ word_count t
  unfolding index_of index_after
  words-past t = go s free
    where
      go : (s : List ℕ) → index_of 32 s ≡ length s → word_count (s ++ t) ≡ word_count t
      go [] e = refl
      go (x ∷ s) e = words-cons x (s ++ t) ∙ by (eqb x 32) (go s) e
        where
          by : (c : Bool) → (index_of 32 s ≡ length s → word_count (s ++ t) ≡ word_count t)
              → index_after c (index_of 32 s) ≡ suc (length s) → cond c (word_count (s ++ t) + 1) (word_count (s ++ t)) ≡ word_count t
          by true i e = absurd (omega arith)
          by false i e = i (omega arith)
