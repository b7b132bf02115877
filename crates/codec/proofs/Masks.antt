-- Shifts and masks as arithmetic, one law for each form, at any width. Assumes nothing.
use mathlib.Core.Path.{◌≡◌, refl, ap, ◌∙◌, subst}
use mathlib.Core.Bool.{Bool, true, false, not}
use Prim.Native.Nat.{ℕ, zero, suc, ◌+◌, ◌-◌, ◌*◌, ◌/◌, ◌%◌, ◌^◌, ◌<◌}
use native.Mathlib.Nat.{div-add-mod', suc-mul, zero-mul}
use native.Mathlib.Omega.{arith}
use lib.Dec.{T, eqb, eqb→eq}
use lib.Pow.{pow_pos}
use lib.Bits.{bit_and, bit_or, or_shifted, and_mask, and_high}
use lib.Ieee.Fits.{eq→eqb}
use Rattle.codec.specs.Status.{bit}

-- `a | b` is a + b where a ends in k zeros and b has at most k digits
pub or-add : (k a b : ℕ) → a % 2 ^ k ≡ 0 → b < 2 ^ k → bit_or a b ≡ a + b
or-add k a b z h =
    let q = a / 2 ^ k in
    let e : q * 2 ^ k ≡ a = omega (arith, div-add-mod' a (2 ^ k)) in
    subst (λ (x : ℕ). bit_or x b ≡ x + b) e (or_shifted q k b h)

-- `(n >> k) & 1 != 0`
pub shifted-flag : (n k : ℕ) → not (eqb (bit_and (n / 2 ^ k) 1) 0) ≡ bit n k
unfolding bit
shifted-flag n k = ap (λ (x : ℕ). not (eqb x 0)) (and_mask (n / 2 ^ k) 1)

same_test : (a b : Bool) → (T a → T b) → (T b → T a) → a ≡ b
same_test true true f g = refl
same_test true false f g = absurd (f tt)
same_test false true f g = absurd (g tt)
same_test false false f g = refl

-- `n & (1 << k) != 0`: at a k that is written out, 2 ^ (1 + k) - 2 ^ k computes to the mask
pub masked-flag : (n k : ℕ) → not (eqb (bit_and n (2 ^ (1 + k) - 2 ^ k)) 0) ≡ bit n k
unfolding bit
masked-flag n k = ap (λ (x : ℕ). not (eqb x 0)) (and_high n 1 k) ∙ ap not (scaled (n / 2 ^ k % 2) (2 ^ k) (pow_pos k))
  where
    first-zero : (y c : ℕ) → 0 < c → y * c ≡ 0 → y ≡ 0
    first-zero zero c p h = refl
    first-zero (suc y) c p h = omega (arith, suc-mul y c)

    scaled : (y c : ℕ) → 0 < c → eqb (y * c) 0 ≡ eqb y 0
    scaled y c p = same_test (eqb (y * c) 0) (eqb y 0) (λ t. eq→eqb (first-zero y c p (eqb→eq (y * c) 0 t))) (λ t. eq→eqb (ap (λ (x : ℕ). x * c) (eqb→eq y 0 t) ∙ zero-mul c))
