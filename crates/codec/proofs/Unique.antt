-- Two floats of a format that are the same number are the same float, so a product with 1 is the other factor. Assumes nothing.
use mathlib.Core.Path.{◌≡◌, refl, sym, ap, ◌∙◌, subst}
use mathlib.Core.Bool.{Bool, true, false, cond, not, ◌&&◌}
use Prim.Native.Nat.{ℕ, suc, ◌+◌, ◌-◌, ◌*◌, ◌/◌, ◌%◌, ◌^◌, ◌≤◌, ◌<◌}
use native.Mathlib.Nat.{mul-one, one-mul, mul-pos, mul_assoc, mul_right_comm, eq_of_mul-eq-mul_right, not-le_of_lt, lt_of_lt_of_le}
use native.Mathlib.Omega.{arith}
use lib.Dec.{T, ltb, leb, eqb, ltb→lt, leb→le, nleb→lt, lit<}
use lib.IntN.{ℤ, pos, negsuc}
use lib.Pow.{pow-lt, pow-add, pow_mono, shl_lt}
use lib.Ieee.{Float, nan, inf, fin, binary32, up, down, size, fits, round, mul, of_bits, to_bits}
use lib.Ieee.Bits.{of_bits-to_bits}
use lib.Ieee.Exact.{HasValue, round_exact}
use lib.Ieee.Fits.{round-fits, down_pos, and_l, and_r}
use lib.Ieee.Nearest.{div_same}
use Rattle.codec.proofs.Steps.{one}

-- the same fraction on both sides
cross : (x y p q a c : ℕ) → 0 < c → x * c ≡ a * p → y * c ≡ a * q → x * q ≡ y * p
cross x y p q a c C h k =
    eq_of_mul-eq-mul_right c C (x * q) (y * p)
    (mul_right_comm x q c ∙ ap (λ (z : ℕ). z * q) h ∙ mul_right_comm a p q ∙ ap (λ (z : ℕ). z * p) (sym k) ∙ mul_right_comm y c p)

same_bits : (s : Bool) (m : ℕ) (e : ℤ) (n : ℕ) (d : ℤ) → m * up e * down d ≡ n * up d * down e → to_bits binary32 (fin s m e) ≡ to_bits binary32 (fin s n d)
unfolding to_bits
same_bits s m e n d h =
    ap (λ (z : ℕ). cond s 2147483648 0 + (size z - 24) * 8388608 + z / 2 ^ (size z - 24))
    (div_same (m * up e * 2 ^ 149) (down e) (n * up d * 2 ^ 149) (down d) (down_pos e) (down_pos d)
    (mul_right_comm (m * up e) (2 ^ 149) (down d) ∙ ap (λ (z : ℕ). z * 2 ^ 149) h ∙ mul_right_comm (n * up d) (down e) (2 ^ 149)))

pub unique : (x y : Float) (s : Bool) (a c : ℕ) → 0 < c → T (fits binary32 x) → T (fits binary32 y) → HasValue x s a c → HasValue y s a c → x ≡ y
unique nan y s a c C f g h k = absurd h
unique (inf t) y s a c C f g h k = absurd h
unique (fin t m e) nan s a c C f g h k = absurd k
unique (fin t m e) (inf r) s a c C f g h k = absurd k
unique (fin t m e) (fin r n d) s a c C f g h k =
    sym (of_bits-to_bits binary32 (fin t m e) f)
    ∙ ap (of_bits binary32)
    (ap (λ (z : Bool). to_bits binary32 (fin z m e)) (h.0 ∙ sym k.0)
    ∙ same_bits r m e n d (cross (m * up e) (n * up d) (down e) (down d) a c C h.1 k.1))
    ∙ of_bits-to_bits binary32 (fin r n d) g

-- ---- 1 × m

-- what it takes for the format to hold n × 2^d: few digits, not too fine, not too large
held : (n : ℕ) (d : ℤ) → T (fits binary32 (fin false (suc n) d)) → (suc n < 2 ^ 24) × (down d ≤ 2 ^ 149) × (suc n * up d < 2 ^ 128 * down d)
unfolding fits
held n d f =
    let a = eqb (suc n % 2) 1 in
    let b = ltb (suc n) (2 ^ 24) in
    let c = leb (down d) (2 ^ 149) in
    let e = ltb (suc n * up d) (2 ^ 128 * down d) in
    let abc : T (a && b && c) = and_l (a && b && c) e f in (
      ltb→lt (suc n) (2 ^ 24) (and_r a b (and_l (a && b) c abc)),
      leb→le (down d) (2 ^ 149) (and_r (a && b) c abc),
      ltb→lt (suc n * up d) (2 ^ 128 * down d) (and_r (a && b && c) e f),
    )

exponent-le : (k : ℕ) → 2 ^ k ≤ 2 ^ 149 → k ≤ 149
exponent-le k h = go (leb k 149) (leb→le k 149) (nleb→lt k 149)
  where
    go : (b : Bool) → (T b → k ≤ 149) → (T (not b) → 149 < k) → k ≤ 149
    go true f g = f tt
    go false f g = absurd (not-le_of_lt (pow-lt (g tt)) h)

-- n × 2^d is n × 2^j units
record InUnits (n : ℕ) (d : ℤ) : Type 0 where
  pub j : ℕ
  pub small : n * 2 ^ j < 2 ^ 277
  pub same : 1 * 1 * (n * up d) * 2 ^ 149 ≡ n * 2 ^ j * (1 * down d)

in-units : (n : ℕ) (d : ℤ) → n < 2 ^ 24 → down d ≤ 2 ^ 149 → n * up d < 2 ^ 128 * down d → InUnits n d
in-units n (pos k) N D M =
    record {
      j = k + 149;
      small = subst (λ (z : ℕ). z < 2 ^ 277) (mul_assoc n (2 ^ k) (2 ^ 149) ∙ ap (λ (z : ℕ). n * z) (sym (pow-add 2 k 149))) (shl_lt 128 149 (subst (λ (z : ℕ). n * 2 ^ k < z) (mul-one (2 ^ 128)) M));
      same = simp (one-mul, mul-one) (mul_assoc n (2 ^ k) (2 ^ 149) ∙ ap (λ (z : ℕ). n * z) (sym (pow-add 2 k 149)));
    }
in-units n (negsuc k) N D M =
    let l : suc k ≤ 149 = exponent-le (suc k) D in
    let e : 149 - suc k + suc k ≡ 149 = omega arith in
    let few : 24 + (149 - suc k) ≤ 277 = omega arith in
    record {
      j = 149 - suc k;
      small = lt_of_lt_of_le (shl_lt 24 (149 - suc k) N) (pow_mono few);
      same = simp (one-mul, mul-one) (ap (λ (z : ℕ). n * 2 ^ z) (sym e) ∙ ap (λ (z : ℕ). n * z) (pow-add 2 (149 - suc k) (suc k)) ∙ sym (mul_assoc n (2 ^ (149 - suc k)) (2 ^ suc k)));
    }

pub one-times : (n : ℕ) (d : ℤ) → T (fits binary32 (fin false (suc n) d)) → mul binary32 one (fin false (suc n) d) ≡ fin false (suc n) d
unfolding mul
one-times n d f =
    let h = held n d f in
    let u = in-units (suc n) d h.0 h.1 h.2 in
    let num = 1 * 1 * (suc n * up d) in
    let den = 1 * down d in
    let D : 0 < den = mul-pos (lit< tt) (down_pos d) in
    unique (round binary32 false num den) (fin false (suc n) d) false num den D (round-fits binary32 false num den) f
    (round_exact binary32 false num den (suc n) u.j D h.0 u.small u.same)
    (refl, swap (suc n * up d) (down d))
  where
    swap : (x y : ℕ) → x * (1 * y) ≡ 1 * 1 * x * y
    swap x y = simp (one-mul)
