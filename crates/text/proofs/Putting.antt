-- One thing put after another is both put. Assumes nothing.
use Prim.Native.Nat.{ℕ, zero, suc, ◌+◌, ◌-◌, ◌/◌, ◌%◌, ◌≤◌, ◌<◌, max, min}
use mathlib.Core.Path.{◌≡◌, refl, ap, sym, ◌∙◌}
use mathlib.Core.List.{List, [], ◌∷◌, ◌++◌, append_assoc}
use native.Mathlib.Omega.{arith}
use native.Mathlib.Decide.{dec_le}
use lib.ListN.{length, take, drop, set, length-append, length-set, length-replicate}
use lib.Seq.{set_out, sets, sets-eq, length-take-le, take_at, drop_at, take_all}
use Rattle.std.proofs.Common.{take-append-drop, drop-drop}
use borrow.Author.Tests.{lt-ltb, le-ltb}
use Rattle.text.specs.declared.put.Text.{Text}
use Rattle.text.specs.Put.{Put, put, no_text, text_as_bytes, placed, digits_text, decimal_in, glyph_of}

-- ---- what is placed

placed-all : (l : List ℕ) (at : ℕ) (bs : List ℕ) → length (placed l at bs) ≡ length l
placed-all l at [] = refl
placed-all l at (b ∷ bs) = placed-all (set l at b) (suc at) bs ∙ length-set l at b

-- nothing where there is no room
placed-none : (l : List ℕ) (at : ℕ) (bs : List ℕ) → length l ≤ at → placed l at bs ≡ l
placed-none l at [] h = refl
placed-none l at (b ∷ bs) h = rw (set_out l at b h) (placed-none l (suc at) bs (omega arith))

-- one thing after another
placed-then : (l : List ℕ) (at : ℕ) (a b : List ℕ) → placed l at (a ++ b) ≡ placed (placed l at a) (at + length a) b
placed-then l at [] b = let e : at + 0 ≡ at = omega arith in rw e
placed-then l at (x ∷ a) b = let e : at + suc (length a) ≡ suc at + length a = omega arith in rw e (placed-then (set l at x) (suc at) a b)

-- where there is room: what was before, the bytes, and what was behind
placed-there : (l : List ℕ) (at : ℕ) (bs : List ℕ) → at + length bs ≤ length l → placed l at bs ≡ take at l ++ bs ++ drop (at + length bs) l
placed-there l at bs h = is-sets l at bs ∙ sets-eq bs l at h
  where
    is-sets : (l : List ℕ) (at : ℕ) (bs : List ℕ) → placed l at bs ≡ sets l at bs
    is-sets l at [] = refl
    is-sets l at (b ∷ bs) = is-sets (set l at b) (suc at) bs

-- ---- what a put promises where there is room for it

module _ {l₀ l₁ bs : List ℕ} {p r : ℕ} (x : Put l₀ p bs l₁ r) (h : p + length bs ≤ length l₀) where
  pub put_next : r ≡ p + length bs
  put_next = x.next ∙ omega arith

  pub put-text : take r l₁ ≡ take p l₀ ++ bs
  put-text =
      let e : length (take p l₀ ++ bs) ≡ r = rw (length-append, length-take-le p l₀ (omega arith)) (omega (arith, put_next)) in
      rw (x.whole, placed-there l₀ p bs h) (take_at (take p l₀ ++ bs) (drop (p + length bs) l₀) r e)

  -- what stands behind it is as it was
  pub put_rest : drop r l₁ ≡ drop r l₀
  put_rest =
      let e : length (take p l₀ ++ bs) ≡ r = rw (length-append, length-take-le p l₀ (omega arith)) (omega (arith, put_next)) in
      rw (x.whole, placed-there l₀ p bs h) (drop_at (take p l₀ ++ bs) (drop (p + length bs) l₀) r e ∙ ap (λ (k : ℕ). drop k l₀) (sym put_next))

-- ---- one put, and one after another

pub put-nil : (l : List ℕ) (at : ℕ) → Put l at [] l at
put-nil l at = record { same = refl; whole = refl; next = omega arith }

pub put_one : (l : List ℕ) (at b : ℕ) → at < length l → Put l at (b ∷ []) (set l at b) (at + 1)
put_one l at b h = record { same = simp length-set; whole = refl; next = omega arith }

-- nothing where there is no room
pub put-none : (l : List ℕ) (at : ℕ) (bs : List ℕ) → length l ≤ at → Put l at bs l at
put-none l at bs h = record { same = refl; whole = sym (placed-none l at bs h); next = omega arith }

pub put_both : {l₀ l₁ l₂ a b : List ℕ} {p q r : ℕ} → Put l₀ p a l₁ q → Put l₁ q b l₂ r → Put l₀ p (a ++ b) l₂ r
put_both {l₀} {l₁} {l₂} {a} {b} {p} {q} {r} x y =
    record {
      same = y.same ∙ x.same;
      whole = y.whole ∙ from_next (dec_le (p + length a) (length l₀)) ∙ ap (λ (l : List ℕ). placed l (p + length a) b) x.whole ∙ sym (placed-then l₀ p a b);
      next = rw length-append (omega (arith, x.same, x.next, y.next));
    }
  where
    -- past the end one place is as another
    from_next : Dec (p + length a ≤ length l₀) → placed l₁ q b ≡ placed l₁ (p + length a) b
    from_next (yes h) = ap (λ (k : ℕ). placed l₁ k b) (omega (arith, x.next))
    from_next (no h) = placed-none l₁ q b (omega (arith, x.same, x.next)) ∙ sym (placed-none l₁ (p + length a) b (omega (arith, x.same)))

-- as many of the bytes as there is room for
pub put-fit : (l : List ℕ) (at : ℕ) (s : List ℕ) (k : ℕ) → at < length l → k ≡ min (length s) (length l - at)
    → Put l at s (take at l ++ (take k s ++ drop k (drop at l))) (at + k)
put-fit l at s k h m =
    let n : at + k ≡ max at (min (at + length s) (length l)) = omega arith in
    let t : length (take k s) ≡ k = length-take-le k s (omega arith) in
    let f : placed l at (take k s) ≡ take at l ++ (take k s ++ drop k (drop at l)) = placed-there l at (take k s) (omega arith) ∙ rw (t, append_assoc, drop-drop k at l) in
    let w : take at l ++ (take k s ++ drop k (drop at l)) ≡ placed l at s = sym f ∙ sym (cut t (dec_le (length s) k)) in
    record { same = ap length w ∙ placed-all l at s; whole = w; next = n }
  where
    cut : length (take k s) ≡ k → Dec (length s ≤ k) → placed l at s ≡ placed l at (take k s)
    cut t (yes a) = rw (take_all k s a)
    cut t (no a) =
        ap (λ (u : List ℕ). placed l at u) (sym (take-append-drop k s))
        ∙ placed-then l at (take k s) (drop k s)
        ∙ placed-none (placed l at (take k s)) (at + length (take k s)) (drop k s) (rw placed-all (omega arith))

-- ---- a text with more put after it

module _ {N : ℕ} (t : Text N) where
  -- what is promised of the buffer and the next place
  pub puts : (bs : List ℕ) → Put t.bytes t.at bs (put t bs).bytes (put t bs).at
  unfolding put
  puts bs = record { same = placed-all t.bytes t.at bs; whole = refl; next = refl }

  -- and that this is all of the text
  pub put_whole : {bs l : List ℕ} {r : ℕ} → Put t.bytes t.at bs l r → record { bytes = l; at = r } ≡ put t bs
  unfolding put
  put_whole x = rw (x.whole, x.next)

  -- where there is room, what was text before, and the bytes
  pub text-put : (bs : List ℕ) → t.at + length bs ≤ length t.bytes → text_as_bytes (put t bs) ≡ text_as_bytes t ++ bs
  text-put bs h = put-text (puts bs) h

  pub put_nil : put t [] ≡ t
  unfolding put
  put_nil = let e : max t.at (min (t.at + 0) (length t.bytes)) ≡ t.at = omega arith in rw e

  -- one thing put after another is both put
  pub put_then : (a b : List ℕ) → put (put t a) b ≡ put t (a ++ b)
  unfolding put
  put_then a b =
      let e : max next (min (next + length b) (length (placed t.bytes t.at a))) ≡ max t.at (min (t.at + length (a ++ b)) (length t.bytes)) =
      rw (length-append, placed-all) (omega arith) in
      rw (e, placed-then t.bytes t.at a b, from_next (dec_le (t.at + length a) (length t.bytes)))
    where
      next : ℕ
      next = max t.at (min (t.at + length a) (length t.bytes))

      -- past the end one place is as another
      from_next : Dec (t.at + length a ≤ length t.bytes) → placed (placed t.bytes t.at a) next b ≡ placed (placed t.bytes t.at a) (t.at + length a) b
      from_next (yes h) = ap (λ (k : ℕ). placed (placed t.bytes t.at a) k b) (omega arith)
      from_next (no h) =
          placed-none (placed t.bytes t.at a) next b (rw placed-all (omega arith)) ∙ sym (placed-none (placed t.bytes t.at a) (t.at + length a) b (rw placed-all (omega arith)))

-- the text of a new buffer is what is put into it, where there is room
pub text-new : {N : ℕ} (bs : List ℕ) → length bs ≤ N → text_as_bytes (put (no_text N) bs) ≡ bs
text-new {N} bs h = text-put (no_text N) bs (rw length-replicate (omega arith))

-- a text put by way of a buffer of its own that has room for it
pub put_copied : {N : ℕ} {t u : Text N} {bs b l m : List ℕ} {at r : ℕ}
    → t ≡ no_text N → u ≡ put t bs → b ≡ text_as_bytes u → length bs ≤ N → Put l at b m r → Put l at bs m r
put_copied {N} {t} {u} {bs} {b} n e f h x =
    let g : b ≡ bs = f ∙ rw (e, n) (text-new bs h) in
    rw g at x

-- what joins puts, one after the other, to one
pub ruleset puts_joined = (put_nil, put_then, append_assoc)

-- ---- digits

pub digits-none : (base k n : ℕ) → k ≡ 0 → digits_text base k n ≡ []
unfolding digits_text
digits-none base k n e = rw e

pub digits_more : (base k n : ℕ) → (k ≡ 0 → ⊥) → digits_text base k n ≡ digits_text base (k - 1) (n / base) ++ (glyph_of (n % base) ∷ [])
unfolding digits_text
digits_more base zero n e = absurd (e refl)
digits_more base (suc k) n e = let p : suc k - 1 ≡ k = omega arith in rw p

pub decimal-none : (k n : ℕ) → k ≡ 0 → decimal_in k n ≡ []
unfolding decimal_in
decimal-none k n e = rw e

pub decimal-last : (k n : ℕ) → (k ≡ 0 → ⊥) → n < 10 → decimal_in k n ≡ glyph_of n ∷ []
unfolding decimal_in
decimal-last zero n e h = absurd (e refl)
decimal-last (suc k) n e h = rw (lt-ltb _ _ h)

pub decimal-more : (k n : ℕ) → (k ≡ 0 → ⊥) → 10 ≤ n → decimal_in k n ≡ decimal_in (k - 1) (n / 10) ++ (glyph_of (n % 10) ∷ [])
unfolding decimal_in
decimal-more zero n e h = absurd (e refl)
decimal-more (suc k) n e h = let p : suc k - 1 ≡ k = omega arith in rw (p, le-ltb _ _ h)
