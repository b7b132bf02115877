-- Each operation of the motion values over whole numbers: a quotient, a sum and a product each give `rounded` of a fraction of whole numbers. Assumes nothing.
use mathlib.Core.Path.{◌≡◌, refl, ap, ◌∙◌, subst}
use mathlib.Core.Bool.{Bool, true, false, not, cond, ◌&&◌, beq, true≢false}
use Prim.Native.Nat.{ℕ, ◌+◌, ◌-◌, ◌*◌, ◌/◌, ◌^◌, ◌≤◌, ◌<◌, min}
use native.Mathlib.Nat.{lt_irrefl, not-le_of_lt, mul-pos, mul-one, one-mul, mul_comm, mul_right_comm, mul-le-mul_right, le_of_mul-le-mul_right, add-mul, mul-sub}
use native.Mathlib.Omega.{arith}
use lib.IntN.{ℤ, pos}
use lib.Dec.{T, ltb, eqb, ltb→lt, nltb→le, eqb→eq, not_T, lit<}
use lib.Pow.{pow_pos}
use lib.Ieee.{Float, nan, inf, fin, binary32, up, down, size, round, add, mul, div, to_unsigned}
use lib.Ieee.Fits.{down_pos}
use lib.Ieee.Bits.{cond_no}
use lib.Ieee.Exact.{HasValue}
use lib.Ieee.Nearest.{div_same}
use lib.Ieee.Scale.{round_same}
use Rattle.codec.proofs.Rounded.{U, rounded}

abbrev pub one : Float
one = fin false 1 (pos 0)

-- ---- x + 1, for an x from -1 to 1

-- u stands for U in what `omega` reads: it takes no number of more than 38 digits
sum_is : (u x n d : ℕ) → x * u ≡ n * d → (x * 1 + 1 * 1 * d) * u ≡ (u + n) * (d * 1)
sum_is u x n d h = simp (mul-one, one-mul, add-mul) (omega (arith, mul_comm d u))

diff_is : (u x n d : ℕ) → x * u ≡ n * d → (1 * 1 * d - x * 1) * u ≡ (u - n) * (d * 1)
diff_is u x n d h = simp (mul-one, one-mul) (omega (arith, mul_comm (d - x) u, mul-sub u d x, mul_comm (u - n) d, mul-sub d u n, mul_comm u d, mul_comm u x, mul_comm n d))

under_one : (u x n d : ℕ) → 0 < u → x * u ≡ n * d → n ≤ u → x * 1 ≤ 1 * 1 * d
under_one u x n d p h k =
    let l : n * d ≤ u * d = mul-le-mul_right d k in
    let c : x ≤ d = le_of_mul-le-mul_right {m = x} {n = d} {k = u} (omega (arith, mul_comm u d)) p in
    omega arith

plus-fin : (s : Bool) (m : ℕ) (e : ℤ) (n : ℕ) → m * up e * U ≡ n * down e → n ≤ U → add binary32 (fin s m e) one ≡ round binary32 false (cond s (U - n) (U + n)) U
unfolding add
plus-fin false m e n h k =
    round_same binary32 false (m * up e * 1 + 1 * 1 * down e) (down e * 1) (U + n) U (mul-pos (down_pos e) (lit< tt)) (pow_pos 149) (sum_is U (m * up e) n (down e) h)
plus-fin true m e n h k = go (ltb a b) (ltb b a) (ltb→lt a b) (nltb→le a b) (ltb→lt b a)
  where
    a : ℕ
    a = m * up e * 1

    b : ℕ
    b = 1 * 1 * down e

    go : (p q : Bool) → (T p → a < b) → (T (not p) → b ≤ a) → (T q → b < a)
        → cond p (round binary32 false (b - a) (down e * 1)) (round binary32 (true && q) (a - b) (down e * 1)) ≡ round binary32 false (U - n) U
    go true q f g i = round_same binary32 false (b - a) (down e * 1) (U - n) U (mul-pos (down_pos e) (lit< tt)) (pow_pos 149) (diff_is U (m * up e) n (down e) h)
    go false true f g i = absurd (not-le_of_lt (i tt) (under_one U (m * up e) n (down e) (pow_pos 149) h k))
    go false false f g i =
        let l : a ≤ b = under_one U (m * up e) n (down e) (pow_pos 149) h k in
        let z : a - b ≡ b - a = omega (arith, g tt) in
        ap (λ (y : ℕ). round binary32 false y (down e * 1)) z
        ∙ round_same binary32 false (b - a) (down e * 1) (U - n) U (mul-pos (down_pos e) (lit< tt)) (pow_pos 149) (diff_is U (m * up e) n (down e) h)

pub plus_one : (x : Float) (s : Bool) (n : ℕ) → HasValue x s n U → n ≤ U → add binary32 x one ≡ round binary32 false (cond s (U - n) (U + n)) U
plus_one nan s n h k = absurd h
plus_one (inf t) s n h k = absurd h
plus_one (fin t m e) s n h k = subst (λ (b : Bool). add binary32 (fin t m e) one ≡ round binary32 false (cond b (U - n) (U + n)) U) h.0 (plus-fin t m e n h.1 k)

-- ---- x * k, for a whole number k

pub times : (x : Float) (s : Bool) (n k : ℕ) → HasValue x s n U → mul binary32 x (fin false k (pos 0)) ≡ round binary32 s (n * k) U
unfolding mul
times nan s n k h = absurd h
times (inf t) s n k h = absurd h
times (fin t m e) s n k h =
    sign-is t
    ∙ round_same binary32 t (m * up e * (k * 1)) (down e * 1) (n * k) U (mul-pos (down_pos e) (lit< tt)) (pow_pos 149) product_is
    ∙ ap (λ (b : Bool). round binary32 b (n * k) U) h.0
  where
    sign-is : (b : Bool) → round binary32 (not (beq b false)) (m * up e * (k * 1)) (down e * 1) ≡ round binary32 b (m * up e * (k * 1)) (down e * 1)
    sign-is true = refl
    sign-is false = refl

    product_is : m * up e * (k * 1) * U ≡ n * k * (down e * 1)
    product_is = simp (mul-one) (mul_right_comm (m * up e) k U ∙ ap (λ (z : ℕ). z * k) h.1 ∙ mul_right_comm n (down e) k)

-- ---- x / y, for a y above 0

pub quotient : (s : Bool) (m : ℕ) (e : ℤ) (n : ℕ) (d : ℤ) → 0 < n → div binary32 (fin s m e) (fin false n d) ≡ round binary32 s (m * up e * down d) (n * up d * down e)
unfolding div
quotient s m e n d p =
    cond_no (eqb n 0) (cond (eqb m 0) nan (inf (not (beq s false)))) (round binary32 (not (beq s false)) (m * up e * down d) (n * up d * down e))
    (not_T (eqb n 0) (λ (t : T (eqb n 0)). lt_irrefl 0 (subst (λ (z : ℕ). 0 < z) (eqb→eq n 0 t) p)))
    ∙ sign-is s
  where
    sign-is : (b : Bool) → round binary32 (not (beq b false)) (m * up e * down d) (n * up d * down e) ≡ round binary32 b (m * up e * down d) (n * up d * down e)
    sign-is true = refl
    sign-is false = refl

-- ---- the fraction cut off

pub cut-value : (w : ℕ) (x : Float) (a : ℕ) → HasValue x false a U → to_unsigned w x ≡ min (a / U) (2 ^ w - 1)
unfolding to_unsigned
cut-value w nan a h = absurd h
cut-value w (inf s) a h = absurd h
cut-value w (fin true m e) a h = absurd (true≢false h.0)
cut-value w (fin false m e) a h = ap (λ (z : ℕ). min z (2 ^ w - 1)) (div_same (m * up e) (down e) a U (down_pos e) (pow_pos 149) h.1)

-- ---- three values at which nothing is rounded

pub rounded-1 : rounded 1 1 ≡ U
unfolding rounded size
rounded-1 = refl

pub rounded-2 : rounded 2 1 ≡ 2 * U
unfolding rounded size
rounded-2 = refl

pub rounded-65534 : rounded 65534 1 ≡ 65534 * U
unfolding rounded size
rounded-65534 = refl
