-- The words of `f32` values: how many units a word has, and in which order. Assumes nothing.
use mathlib.Core.Path.{◌≡◌, sym, ap, ◌∙◌, subst}
use mathlib.Core.Logic.{◌⊎◌, inl, inr}
use mathlib.Core.Bool.{Bool, cond}
use Prim.Native.Nat.{ℕ, zero, suc, ◌+◌, ◌*◌, ◌/◌, ◌%◌, ◌^◌, ◌≤◌, ◌<◌}
use native.Mathlib.Nat.{le_trans, le_of_eq, le_of_lt, lt_of_lt_of_le, lt_of_le_of_lt, eq-or-lt_of_le, mul-one, mul-le-mul_right, mul-lt-mul_of_pos_right, mod-lt}
use native.Mathlib.Omega.{arith}
use lib.Dec.{T, leb, eqb, eqb→eq, not_T, lit<}
use lib.Bits.{bit_and, bit_or, and_mask, or_shifted_r}
use lib.Pow.{pow_pos, pow-add, pow_mono, mod-mod-pow}
use lib.Ieee.{Float, nan, inf, binary32, odd, of_fields, of_bits}
use lib.Ieee.Bits.{cond_no}
use lib.Ieee.Exact.{HasValue, odd_sign}
use Rattle.codec.proofs.Rounded.{U}

-- ---- how many units the fields of a word have

unfoldable pub units_of : ℕ → ℕ → ℕ
units_of zero t = t * 2 ^ 0
units_of (suc x) t = (8388608 + t) * 2 ^ x

fields_value : (s : Bool) (x t : ℕ) → x < 255 → HasValue (of_fields binary32 s x t) s (units_of x t) U
unfolding of_fields units_of
fields_value s zero t h = odd_sign 24 s t 0 149
fields_value s (suc x) t h =
    let v = odd 24 s (8388608 + t) x 149 in
    let u = cond (eqb t 0) (inf s) nan in
    let is : cond (eqb (suc x) 255) u v ≡ v = cond_no (eqb (suc x) 255) u v (not_T (eqb (suc x) 255) (λ (z : T (eqb (suc x) 255)). differ x h (eqb→eq (suc x) 255 z))) in
    subst (λ (y : Float). HasValue y s ((8388608 + t) * 2 ^ x) U) (sym is) (odd_sign 24 s (8388608 + t) x 149)
  where
    differ : (x : ℕ) → suc x < 255 → suc x ≡ 255 → ⊥
    differ x h e = omega arith

-- of a word without its sign's bit
abbrev pub W : ℕ → ℕ
W a = units_of (a / 8388608) (a % 8388608)

of_bits_is : (v : ℕ) → of_bits binary32 v ≡ of_fields binary32 (leb 2147483648 v) (v % 2147483648 / 8388608) (v % 2147483648 % 8388608)
unfolding of_bits
of_bits_is v = ap (λ (t : ℕ). of_fields binary32 (leb 2147483648 v) (v % 2147483648 / 8388608) t) (sym (mod-mod-pow v 8 23))

pub word_value : (v : ℕ) → v % 2147483648 < 2139095040 → HasValue (of_bits binary32 v) (leb 2147483648 v) (W (v % 2147483648)) U
word_value v h =
    subst (λ (x : Float). HasValue x (leb 2147483648 v) (W (v % 2147483648)) U) (sym (of_bits_is v))
    (fields_value (leb 2147483648 v) (v % 2147483648 / 8388608) (v % 2147483648 % 8388608) (go (v % 2147483648) h))
  where
    go : (a : ℕ) → a < 2139095040 → a / 8388608 < 255
    go a h = omega arith

pub word-inf : (v : ℕ) → v % 2147483648 ≡ 2139095040 → of_bits binary32 v ≡ inf (leb 2147483648 v)
unfolding of_fields
word-inf v h = of_bits_is v ∙ ap (λ (a : ℕ). of_fields binary32 (leb 2147483648 v) (a / 8388608) (a % 8388608)) h

-- ---- bounds, and the order

W-lt : (x t : ℕ) → t < 8388608 → units_of x t < 2 ^ (23 + x)
unfolding units_of
W-lt zero t h = lt_of_le_of_lt (le_of_eq (mul-one t)) h
W-lt (suc x) t h = lt_of_lt_of_le (mul-lt-mul_of_pos_right {m = 8388608 + t} {n = 2 ^ 24} {k = 2 ^ x} (omega arith) (pow_pos x)) (le_of_eq (sym (pow-add 2 24 x) ∙ ap (λ (z : ℕ). 2 ^ z) (go x)))
  where
    go : (x : ℕ) → 24 + x ≡ 23 + suc x
    go x = omega arith

W-ge : (x t : ℕ) → 2 ^ (23 + x) ≤ units_of (suc x) t
unfolding units_of
W-ge x t = le_trans (le_of_eq (pow-add 2 23 x)) (mul-le-mul_right {m = 2 ^ 23} {n = 8388608 + t} (2 ^ x) (omega arith))

W-higher : (x y t r : ℕ) → t < 8388608 → x < y → units_of x t ≤ units_of y r
W-higher x zero t r T h = absurd (no x h)
  where
    no : (x : ℕ) → x < 0 → ⊥
    no x h = omega arith
W-higher x (suc y) t r T h = le_trans (le_of_lt (W-lt x t T)) (le_trans (pow_mono (go x y h)) (W-ge y r))
  where
    go : (x y : ℕ) → x < suc y → 23 + x ≤ 23 + y
    go x y h = omega arith

W-same : (x t r : ℕ) → t ≤ r → units_of x t ≤ units_of x r
unfolding units_of
W-same zero t r h = mul-le-mul_right (2 ^ 0) h
W-same (suc x) t r h = mul-le-mul_right {m = 8388608 + t} {n = 8388608 + r} (2 ^ x) (omega arith)

pub W-mono : (a b : ℕ) → a ≤ b → W a ≤ W b
W-mono a b h = go (eq-or-lt_of_le (fields a b h))
  where
    fields : (a b : ℕ) → a ≤ b → a / 8388608 ≤ b / 8388608
    fields a b h = omega arith

    rest : (a b : ℕ) → a ≤ b → a / 8388608 ≡ b / 8388608 → a % 8388608 ≤ b % 8388608
    rest a b h e = omega arith

    go : (a / 8388608 ≡ b / 8388608) ⊎ (a / 8388608 < b / 8388608) → W a ≤ W b
    go (inl e) = subst (λ (x : ℕ). units_of (a / 8388608) (a % 8388608) ≤ units_of x (b % 8388608)) e (W-same (a / 8388608) (a % 8388608) (b % 8388608) (rest a b h e))
    go (inr l) = W-higher (a / 8388608) (b / 8388608) (a % 8388608) (b % 8388608) (mod-lt a (lit< tt)) l

-- the digits, the leading one put back
abbrev pub lead : ℕ → ℕ
lead w = 8388608 + w % 8388608

pub W-is : (w i : ℕ) → w / 8388608 ≡ suc i → W w ≡ lead w * 2 ^ i
unfolding units_of
W-is w i e = ap (λ (z : ℕ). units_of z (w % 8388608)) e

-- `(w & 0x7F_FFFF) | 0x80_0000`
pub lead_is : (w : ℕ) → bit_or (bit_and w 8388607) 8388608 ≡ lead w
lead_is w = ap (λ (k : ℕ). bit_or k 8388608) (and_mask w 23) ∙ or_shifted_r 1 23 (w % 8388608) (mod-lt w (lit< tt))
