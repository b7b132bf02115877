-- A motion value over whole numbers, and that a larger target never gives a smaller one.
-- Of a target v and a limit m above 0, a / b is |v| / m. Assumes nothing.
use mathlib.Core.Path.{◌≡◌, refl, sym, ap, ◌∙◌, subst}
use mathlib.Core.Bool.{Bool, true, false, not, cond}
use Prim.Native.Nat.{ℕ, ◌+◌, ◌-◌, ◌*◌, ◌/◌, ◌≤◌, ◌<◌, min}
use native.Mathlib.Nat.{le_refl, le_trans, le_of_eq, lt_of_le_of_lt, mul-pos, mul_comm, mul-le-mul_right, div-le_of_le-mul}
use native.Mathlib.Omega.{arith}
use lib.IntN.{ℤ, pos}
use lib.Dec.{T, ltb, ltb→lt, nltb→le, lit<}
use lib.Pow.{pow_pos}
use lib.Ieee.{Float, nan, inf, fin, binary32, up, down, round, add, mul, div, neg, lt, of_int, to_unsigned}
use lib.Ieee.Fits.{up_pos, down_pos}
use lib.Ieee.Exact.{HasValue}
use lib.Ieee.Nearest.{div_mono}
use Rattle.codec.specs.Motion.{clamp, motion_raw}
use Rattle.codec.proofs.Rounded.{U, rounded, rounded-value, rounded-mono, rounded-same}
use Rattle.codec.proofs.Steps.{one, plus_one, times, quotient, cut-value, rounded-1, rounded-2, rounded-65534}

-- the sum before it is rounded: 1 + q or 1 - q, in units
unfoldable pub place : Bool → ℕ → ℕ
place s r = cond s (U - r) (U + r)

-- the raw number, from that on
unfoldable pub raw_at : ℕ → ℕ
raw_at p = rounded (rounded p U * 32767) U / U

-- ---- bounds. u stands for U

pub place-le : (s : Bool) (r : ℕ) → r ≤ U → place s r * 1 ≤ 2 * U
unfolding place
place-le true r h = go U r
  where
    go : (u r : ℕ) → (u - r) * 1 ≤ 2 * u
    go u r = omega arith
place-le false r h = go U r h
  where
    go : (u r : ℕ) → r ≤ u → (u + r) * 1 ≤ 2 * u
    go u r h = omega arith

pub quotient_le : (a b : ℕ) → 0 < b → a ≤ b → rounded a b ≤ U
quotient_le a b B h = subst (λ (z : ℕ). rounded a b ≤ z) rounded-1 (rounded-mono a b 1 1 B (lit< tt) (go a b h))
  where
    go : (a b : ℕ) → a ≤ b → a * 1 ≤ 1 * b
    go a b h = omega arith

pub sum-le : (s : Bool) (r : ℕ) → r ≤ U → rounded (place s r) U ≤ 2 * U
sum-le s r h = subst (λ (z : ℕ). rounded (place s r) U ≤ z) rounded-2 (rounded-mono (place s r) U 2 1 (pow_pos 149) (lit< tt) (place-le s r h))

pub product_le : (n : ℕ) → n ≤ 2 * U → rounded (n * 32767) U ≤ 65534 * U
product_le n h = subst (λ (z : ℕ). rounded (n * 32767) U ≤ z) rounded-65534 (rounded-mono (n * 32767) U 65534 1 (pow_pos 149) (lit< tt) (go U n h))
  where
    go : (u n : ℕ) → n ≤ 2 * u → n * 32767 * 1 ≤ 65534 * u
    go u n h = omega arith

-- ---- the three operations and the cut, from a quotient of at most 1

pub from-quotient : (x : Float) (s : Bool) (r : ℕ) → HasValue x s r U → r ≤ U
    → to_unsigned 16 (mul binary32 (add binary32 x one) (fin false 32767 (pos 0))) ≡ raw_at (place s r)
unfolding raw_at
from-quotient x s r v h =
    let S = rounded (place s r) U in
    let P = rounded (S * 32767) U in
    let Sle : S ≤ 2 * U = sum-le s r h in
    let Ple : P ≤ 65534 * U = product_le S Sle in
    let sumv : HasValue (round binary32 false (place s r) U) false S U = rounded-value false (place s r) U (lt_of_le_of_lt Sle (lit< tt)) in
    let prodv : HasValue (round binary32 false (S * 32767) U) false P U = rounded-value false (S * 32767) U (lt_of_le_of_lt Ple (lit< tt)) in
    let e : add binary32 x one ≡ round binary32 false (place s r) U = unfold place in plus_one x s r v h in
    ap (λ (y : Float). to_unsigned 16 (mul binary32 y (fin false 32767 (pos 0)))) e
    ∙ ap (to_unsigned 16) (times (round binary32 false (place s r) U) false S 32767 sumv)
    ∙ cut-value 16 (round binary32 false (S * 32767) U) P prodv
    ∙ least (P / U) (div-le_of_le-mul U (le_trans Ple (le_of_eq (mul_comm 65534 U))))
  where
    least : (q : ℕ) → q ≤ 65534 → min q 65535 ≡ q
    least q h = omega arith

-- ---- raw_at keeps the order

pub raw_at-mono : (p q : ℕ) → p ≤ q → raw_at p ≤ raw_at q
unfolding raw_at
raw_at-mono p q h =
    let u : 0 < U = pow_pos 149 in
    let S = rounded p U in
    let S' = rounded q U in
    let a : S ≤ S' = rounded-mono p U q U u u (mul-le-mul_right U h) in
    let b : rounded (S * 32767) U ≤ rounded (S' * 32767) U = rounded-mono (S * 32767) U (S' * 32767) U u u (mul-le-mul_right U (mul-le-mul_right 32767 a)) in
    div_mono (rounded (S * 32767) U) U (rounded (S' * 32767) U) U u u (mul-le-mul_right U b)

-- ---- a target that is a number, of a limit that is one above 0

abbrev formula : Float → Float → ℕ
formula x m = to_unsigned 16 (mul binary32 (add binary32 (div binary32 x m) one) (fin false 32767 (pos 0)))

module _ (n : ℕ) (d : ℤ) (N : 0 < n) where
  -- |v| / m is a / b
  abbrev pub A : ℕ → ℤ → ℕ
  A k e = k * up e * down d

  abbrev pub B : ℤ → ℕ
  B e = n * up d * down e

  pub B-pos : (e : ℤ) → 0 < B e
  B-pos e = mul-pos (mul-pos N (up_pos d)) (down_pos e)

  inside : (s : Bool) (k : ℕ) (e : ℤ) → A k e ≤ B e → formula (fin s k e) (fin false n d) ≡ raw_at (place s (rounded (A k e) (B e)))
  inside s k e h =
      let l : rounded (A k e) (B e) ≤ U = quotient_le (A k e) (B e) (B-pos e) h in
      ap (λ (y : Float). to_unsigned 16 (mul binary32 (add binary32 y one) (fin false 32767 (pos 0)))) (quotient s k e n d N)
      ∙ from-quotient (round binary32 s (A k e) (B e)) s (rounded (A k e) (B e)) (rounded-value s (A k e) (B e) (lt_of_le_of_lt l (lit< tt))) l

  clamped-is : (s : Bool) (k : ℕ) (e : ℤ) → clamp (fin s k e) (neg (fin false n d)) (fin false n d) ≡ cond (ltb (B e) (A k e)) (fin s n d) (fin s k e)
  unfolding clamp lt neg
  clamped-is true k e = refl
  clamped-is false k e = refl

  pub whole-one : (b : ℕ) → 0 < b → rounded b b ≡ U
  whole-one b h = rounded-same b b 1 1 h (lit< tt) (go b) ∙ rounded-1
    where
      go : (b : ℕ) → b * 1 ≡ 1 * b
      go b = omega arith

  -- the target's place
  abbrev pub placed : Bool → ℕ → ℤ → ℕ
  placed s k e = place s (rounded (min (A k e) (B e)) (B e))

  formula-clamped : (s : Bool) (k : ℕ) (e : ℤ) → formula (cond (ltb (B e) (A k e)) (fin s n d) (fin s k e)) (fin false n d) ≡ raw_at (placed s k e)
  formula-clamped s k e = go (ltb (B e) (A k e)) (ltb→lt (B e) (A k e)) (nltb→le (B e) (A k e))
    where
      go : (t : Bool) → (T t → B e < A k e) → (T (not t) → A k e ≤ B e) → formula (cond t (fin s n d) (fin s k e)) (fin false n d) ≡ raw_at (placed s k e)
      go true f g =
          inside s n d (le_refl (A n d))
          ∙ ap (λ (z : ℕ). raw_at (place s z)) (whole-one (B d) (B-pos d) ∙ sym (ap (λ (z : ℕ). rounded z (B e)) (right (A k e) (B e) (f tt)) ∙ whole-one (B e) (B-pos e)))
        where
          right : (x y : ℕ) → y < x → min x y ≡ y
          right x y h = omega arith
      go false f g = inside s k e (g tt) ∙ ap (λ (z : ℕ). raw_at (place s (rounded z (B e)))) (sym (left (A k e) (B e) (g tt)))
        where
          left : (x y : ℕ) → x ≤ y → min x y ≡ x
          left x y h = omega arith

  -- the raw number of a finite target, over whole numbers
  pub motion-fin : (s : Bool) (k : ℕ) (e : ℤ) → motion_raw (fin s k e) (fin false n d) ≡ raw_at (placed s k e)
  unfolding motion_raw of_int
  motion-fin s k e = ap (λ (x : Float). formula x (fin false n d)) (clamped-is s k e) ∙ formula-clamped s k e

  pub motion-inf : (s : Bool) → motion_raw (inf s) (fin false n d) ≡ raw_at (place s U)
  unfolding motion_raw of_int clamp lt neg
  motion-inf true = inside true n d (le_refl (A n d)) ∙ ap (λ (z : ℕ). raw_at (place true z)) (whole-one (B d) (B-pos d))
  motion-inf false = inside false n d (le_refl (A n d)) ∙ ap (λ (z : ℕ). raw_at (place false z)) (whole-one (B d) (B-pos d))

  pub motion-nan : motion_raw nan (fin false n d) ≡ 0
  unfolding motion_raw clamp lt div add mul to_unsigned
  motion-nan = refl
