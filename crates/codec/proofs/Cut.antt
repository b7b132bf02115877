-- The whole part of the `f32` that a word b stands for, by ranges of b. Assumes nothing.
use mathlib.Core.Path.{◌≡◌, refl, sym, ap, ◌∙◌, subst}
use mathlib.Core.Logic.{◌⊎◌, inl, inr}
use mathlib.Core.Bool.{Bool, true, false, not, true≢false}
use Prim.Native.Nat.{ℕ, suc, ◌+◌, ◌-◌, ◌*◌, ◌/◌, ◌%◌, ◌^◌, ◌≤◌, ◌<◌, min}
use native.Mathlib.Nat.{le_trans, le_of_eq, lt_of_le_of_lt, lt_of_lt_of_le, eq-or-lt_of_le, not-le_of_lt, mod-eq_of_lt, div-eq_of_lt, div-lt_iff_lt-mul, le-div_iff_mul-le}
use native.Mathlib.Omega.{arith}
use lib.Dec.{T, leb, leb→le, nleb→lt, le→leb, not_T, lit<, lit≤}
use lib.Bits.{and_mask}
use lib.Pow.{pow_pos, shl-shr, shr-shr}
use lib.Ieee.{Float, nan, inf, fin, binary32, of_bits, is_nan, to_unsigned, ne, div}
use lib.Ieee.Bits.{is_true, is_false}
use lib.Ieee.Exact.{HasValue}
use Rattle.codec.proofs.Rounded.{U}
use Rattle.codec.proofs.Steps.{cut-value}
use Rattle.codec.proofs.Patterns.{nan-word}
use Rattle.codec.proofs.Units.{W, W-mono, W-is, units_of, word_value, word-inf, lead}

-- ---- the sign

module _ (b : ℕ) (h : b < 2147483648) where
  same : b % 2147483648 ≡ b
  same = mod-eq_of_lt h

  clear : leb 2147483648 b ≡ false
  clear = is_false (leb 2147483648 b) (not_T (leb 2147483648 b) (λ (z : T (leb 2147483648 b)). not-le_of_lt h (leb→le 2147483648 b z)))

  value : b < 2139095040 → HasValue (of_bits binary32 b) false (W b) U
  value k =
      subst (λ (z : Bool). HasValue (of_bits binary32 b) z (W b) U) clear
      (subst (λ (z : ℕ). HasValue (of_bits binary32 b) (leb 2147483648 b) (W z) U) same (word_value b (subst (λ (z : ℕ). z < 2139095040) (sym same) k)))

  cut : b < 2139095040 → to_unsigned 16 (of_bits binary32 b) ≡ min (W b / U) 65535
  cut k = cut-value 16 (of_bits binary32 b) (W b) (value k)

-- ---- below 1

low-top : W 1065353215 < U
unfolding units_of
low-top = lit< tt

pub below_one : (b : ℕ) → b < 1065353216 → 0 ≡ to_unsigned 16 (of_bits binary32 b)
below_one b h =
    sym (cut b (omega arith) (omega arith) ∙ ap (λ (z : ℕ). min z 65535) (div-eq_of_lt (lt_of_le_of_lt (W-mono b 1065353215 (omega arith)) low-top)))

-- ---- from 1 up to 2 ^ 16

mid-top : W 1199570943 < 65536 * U
unfolding units_of
mid-top = lit< tt

shift-out : (y a b : ℕ) → y * 2 ^ a / 2 ^ (a + b) ≡ y / 2 ^ b
shift-out y a b = sym (shr-shr (y * 2 ^ a) a b) ∙ ap (λ (z : ℕ). z / 2 ^ b) (shl-shr y a)

pub within : (b : ℕ) → 1065353216 ≤ b → b < 1199570944 → lead b / 2 ^ (150 - b / 8388608) ≡ to_unsigned 16 (of_bits binary32 b)
within b l h =
    let i = b / 8388608 - 1 in
    let e : b / 8388608 ≡ suc i = omega arith in
    let small : W b / U < 65536 = (div-lt_iff_lt-mul (pow_pos 149)).1 (lt_of_le_of_lt (W-mono b 1199570943 (omega arith)) mid-top) in
    sym (cut b (omega arith) (omega arith)
    ∙ least (W b / U) small
    ∙ ap (λ (z : ℕ). z / U) (W-is b i e)
    ∙ ap (λ (z : ℕ). lead b * 2 ^ i / 2 ^ z) (sums (b / 8388608) i e (omega arith))
    ∙ shift-out (lead b) i (150 - b / 8388608))
  where
    least : (q : ℕ) → q < 65536 → min q 65535 ≡ q
    least q h = omega arith

    sums : (x i : ℕ) → x ≡ suc i → x ≤ 150 → 149 ≡ i + (150 - x)
    sums x i e h = omega arith

-- ---- from 2 ^ 16 on

high-low : 65536 * U ≤ W 1199570944
unfolding units_of
high-low = lit≤ tt

zero_by_zero : div binary32 (of_bits binary32 0) (of_bits binary32 0) ≡ nan
unfolding div of_bits
zero_by_zero = refl

not-nan : T (not (is_nan nan)) → ⊥
unfolding is_nan
not-nan t = t

no_nan : (b : ℕ) → T (not (is_nan (of_bits binary32 b))) → b % 2147483648 ≤ 2139095040
no_nan b n = go (leb (b % 2147483648) 2139095040) (leb→le (b % 2147483648) 2139095040) (nleb→lt (b % 2147483648) 2139095040)
  where
    go : (t : Bool) → (T t → b % 2147483648 ≤ 2139095040) → (T (not t) → 2139095040 < b % 2147483648) → b % 2147483648 ≤ 2139095040
    go true f g = f tt
    go false f g = absurd (not-nan (subst (λ (x : Float). T (not (is_nan x))) (sym (nan-word b (lt_of_lt_of_le (g tt) (le_of_eq (sym (and_mask b 31))))) ∙ zero_by_zero) n))

pub beyond : (b : ℕ) → 1199570944 ≤ b → b < 2147483648 → T (not (is_nan (of_bits binary32 b))) → 65535 ≡ to_unsigned 16 (of_bits binary32 b)
unfolding to_unsigned
beyond b l h n = go (eq-or-lt_of_le (subst (λ (z : ℕ). z ≤ 2139095040) (same b h) (no_nan b n)))
  where
    most : (q : ℕ) → 65536 ≤ q → min q 65535 ≡ 65535
    most q h = omega arith

    go : (b ≡ 2139095040) ⊎ (b < 2139095040) → 65535 ≡ to_unsigned 16 (of_bits binary32 b)
    go (inl e) = sym (ap (to_unsigned 16) (word-inf b (same b h ∙ e) ∙ ap inf (clear b h)))
    go (inr k) = sym (cut b h k ∙ most (W b / U) ((le-div_iff_mul-le (pow_pos 149)).1 (le_trans high-low (W-mono 1199570944 b l))))

-- ---- negative

negative_cut : (x : Float) (a : ℕ) → HasValue x true a U → 0 ≡ to_unsigned 16 x
unfolding to_unsigned
negative_cut nan a h = absurd h
negative_cut (inf s) a h = absurd h
negative_cut (fin true m e) a h = refl
negative_cut (fin false m e) a h = absurd (true≢false (sym h.0))

pub negative : (b : ℕ) → 2147483648 ≤ b → b < 4294967296 → T (not (is_nan (of_bits binary32 b))) → 0 ≡ to_unsigned 16 (of_bits binary32 b)
unfolding to_unsigned
negative b l h n = go (eq-or-lt_of_le (no_nan b n))
  where
    set : leb 2147483648 b ≡ true
    set = is_true (leb 2147483648 b) (le→leb 2147483648 b l)

    go : (b % 2147483648 ≡ 2139095040) ⊎ (b % 2147483648 < 2139095040) → 0 ≡ to_unsigned 16 (of_bits binary32 b)
    go (inl e) = sym (ap (to_unsigned 16) (word-inf b e ∙ ap inf set))
    go (inr k) = negative_cut (of_bits binary32 b) (W (b % 2147483648)) (subst (λ (z : Bool). HasValue (of_bits binary32 b) z (W (b % 2147483648)) U) set (word_value b k))

-- ---- a value that equals itself is no NaN

pub equals_itself : (x : Float) → ne x x ≡ false → T (not (is_nan x))
unfolding ne is_nan
equals_itself nan h = absurd (true≢false h)
equals_itself (inf s) h = tt
equals_itself (fin s m e) h = tt
