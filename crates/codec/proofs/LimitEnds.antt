-- One fact over all limits: at every limit that is a finite `f32` above 0, raw 7FFF is zero and raw FFFE the limit, both ways, a gain's raw 0 and FFFF likewise,
-- and a NaN's raw is 0. Assumes nothing.
use mathlib.Core.Path.{◌≡◌, refl, sym, ap, ◌∙◌, subst}
use mathlib.Core.Bool.{Bool, true, false, cond}
use Prim.Native.Nat.{ℕ, zero, suc, ◌*◌, ◌/◌, ◌^◌, ◌<◌, min}
use native.Mathlib.Nat.{zero-lt-suc, zero-mul, mul-pos}
use native.Mathlib.Omega.{arith}
use borrow.Author.Tests.{le-ltb}
use lib.Dec.{T, lit<}
use lib.IntN.{ℤ, pos}
use lib.Ieee.{Float, nan, inf, fin, binary32, up, down, size, fits, lt, sub, mul, div, round, of_int, of_bits, to_unsigned}
use lib.Ieee.Positive.{positive}
use lib.Ieee.Exact.{HasValue}
use lib.Ieee.Fits.{down_pos}
use lib.Ieee.Scale.{round_same}
use Rattle.codec.specs.declared.model.Model.{Model}
use Rattle.codec.specs.declared.model.Model.TheVariants.{Rs00, Rs01, Rs02, Rs03, Rs04, Rs05, Rs05el, Rs06}
use Rattle.codec.specs.Models.{limits_of}
use Rattle.codec.specs.Motion.{motion_raw, gain_raw, clamp, whole}
use Rattle.codec.specs.Status.{status_value}
use Rattle.codec.proofs.Rounded.{U, rounded, rounded-same, rounded-value}
use Rattle.codec.proofs.Steps.{one, quotient, times, cut-value}
use Rattle.codec.proofs.Encode.{place, raw_at, A, B, B-pos, whole-one, motion-fin, motion-nan}
use Rattle.codec.proofs.Unique.{one-times}

-- +0
abbrev pub none : Float
none = fin false 0 (pos 0)

pub record Ends (m : Float) : Type 0 where
  pub decoded-zero : status_value 0x7FFF m ≡ none
  pub decoded-limit : status_value 0xFFFE m ≡ m
  pub encoded-zero : motion_raw none m ≡ 0x7FFF
  pub encoded-limit : motion_raw m m ≡ 0xFFFE
  pub encoded-nan : motion_raw nan m ≡ 0
  pub gain-zero : gain_raw none m ≡ 0
  pub gain-limit : gain_raw m m ≡ 0xFFFF

-- ---- decoding: the quotients are 1 and 2, exactly

at_zero : sub binary32 (div binary32 (whole 0x7FFF) (whole 32767)) (whole 1) ≡ none
unfolding sub div of_int
at_zero = refl

at-limit : sub binary32 (div binary32 (whole 0xFFFE) (whole 32767)) (whole 1) ≡ one
unfolding sub div of_int
at-limit = refl

-- ---- encoding: the places of 0 and of the limit

raw-middle : raw_at (place false 0) ≡ 0x7FFF
unfolding raw_at place rounded size
raw-middle = refl

raw-top : raw_at (place false U) ≡ 0xFFFE
unfolding raw_at place rounded size
raw-top = refl

rounded-zero : rounded 0 1 ≡ 0
unfolding rounded size
rounded-zero = refl

round-zero : round binary32 false 0 1 ≡ none
unfolding round
round-zero = refl

zero-or-zero : cond (lt none none) none none ≡ none
unfolding lt
zero-or-zero = refl

zero-gain : to_unsigned 16 (mul binary32 none (whole 65535)) ≡ 0
unfolding to_unsigned mul of_int
zero-gain = refl

rounded-65535 : rounded (U * 65535) U ≡ 65535 * U
unfolding rounded size
rounded-65535 = refl

-- a quotient of 1 gives FFFF
full-gain : (x : Float) → HasValue x false U U → to_unsigned 16 (mul binary32 x (whole 65535)) ≡ 0xFFFF
unfolding of_int
full-gain x h =
    let y = round binary32 false (U * 65535) U in
    let v : HasValue y false (rounded (U * 65535) U) U = rounded-value false (U * 65535) U (subst (λ (z : ℕ). z < 2 ^ 277) (sym rounded-65535) (lit< tt)) in
    ap (to_unsigned 16) (times x false U 65535 h) ∙ cut-value 16 y (rounded (U * 65535) U) v ∙ ap (λ (z : ℕ). min (z / U) 65535) rounded-65535

module _ (n : ℕ) (d : ℤ) where
  N : 0 < suc n
  N = zero-lt-suc n

  zero-times : mul binary32 none (fin false (suc n) d) ≡ none
  unfolding mul
  zero-times = round_same binary32 false (0 * (suc n * up d)) (1 * down d) 0 1 (mul-pos (lit< tt) (down_pos d)) (lit< tt) (simp (zero-mul)) ∙ round-zero

  zero-place : rounded (min (A (suc n) d N 0 (pos 0)) (B (suc n) d N (pos 0))) (B (suc n) d N (pos 0)) ≡ 0
  zero-place =
      let b = B (suc n) d N (pos 0) in
      ap (λ (z : ℕ). rounded z b) (least (down d) b) ∙ rounded-same 0 b 0 1 (B-pos (suc n) d N (pos 0)) (lit< tt) (simp (zero-mul)) ∙ rounded-zero
    where
      least : (x y : ℕ) → min (0 * x) y ≡ 0
      least x y = omega arith

  limit-place : rounded (min (A (suc n) d N (suc n) d) (B (suc n) d N d)) (B (suc n) d N d) ≡ U
  limit-place = ap (λ (z : ℕ). rounded z (B (suc n) d N d)) (self (B (suc n) d N d)) ∙ whole-one (suc n) d N (B (suc n) d N d) (B-pos (suc n) d N d)
    where
      self : (x : ℕ) → min x x ≡ x
      self x = omega arith

  -- a gain of 0, and one at its limit, are what the clamp leaves
  not-below : lt (fin false (suc n) d) none ≡ false
  unfolding lt
  not-below = le-ltb (suc n * up d * 1) (0 * 1 * down d) (omega arith)

  kept-zero : clamp none (whole 0) (fin false (suc n) d) ≡ none
  unfolding clamp of_int
  kept-zero = rw not-below zero-or-zero

  kept-limit : clamp (fin false (suc n) d) (whole 0) (fin false (suc n) d) ≡ fin false (suc n) d
  unfolding clamp of_int
  kept-limit = rw not-below (either (lt (fin false (suc n) d) (fin false (suc n) d)))
    where
      either : (b : Bool) → cond b (fin false (suc n) d) (fin false (suc n) d) ≡ fin false (suc n) d
      either true = refl
      either false = refl

  zero-quotient : div binary32 none (fin false (suc n) d) ≡ none
  zero-quotient =
      quotient false 0 (pos 0) (suc n) d N
      ∙ round_same binary32 false (0 * 1 * down d) (suc n * up d * 1) 0 1 (B-pos (suc n) d N (pos 0)) (lit< tt) (simp (zero-mul))
      ∙ round-zero

  own-quotient : HasValue (div binary32 (fin false (suc n) d) (fin false (suc n) d)) false U U
  own-quotient =
      let b = B (suc n) d N d in
      let e : rounded b b ≡ U = whole-one (suc n) d N b (B-pos (suc n) d N d) in
      subst (λ (x : Float). HasValue x false U U) (sym (quotient false (suc n) d (suc n) d N))
      (subst (λ (z : ℕ). HasValue (round binary32 false b b) false z U) e (rounded-value false b b (subst (λ (z : ℕ). z < 2 ^ 277) (sym e) (lit< tt))))

  pub ends : T (fits binary32 (fin false (suc n) d)) → Ends (fin false (suc n) d)
  unfolding status_value gain_raw
  ends f =
      record {
        decoded-zero = ap (λ (x : Float). mul binary32 x (fin false (suc n) d)) at_zero ∙ zero-times;
        decoded-limit = ap (λ (x : Float). mul binary32 x (fin false (suc n) d)) at-limit ∙ one-times n d f;
        encoded-zero = motion-fin (suc n) d N false 0 (pos 0) ∙ ap (λ (z : ℕ). raw_at (place false z)) zero-place ∙ raw-middle;
        encoded-limit = motion-fin (suc n) d N false (suc n) d ∙ ap (λ (z : ℕ). raw_at (place false z)) limit-place ∙ raw-top;
        encoded-nan = motion-nan (suc n) d N;
        gain-zero =
            ap (λ (x : Float). to_unsigned 16 (mul binary32 (div binary32 x (fin false (suc n) d)) (whole 65535))) kept-zero
            ∙ ap (λ (x : Float). to_unsigned 16 (mul binary32 x (whole 65535))) zero-quotient
            ∙ zero-gain;
        gain-limit =
            ap (λ (x : Float). to_unsigned 16 (mul binary32 (div binary32 x (fin false (suc n) d)) (whole 65535))) kept-limit
            ∙ full-gain (div binary32 (fin false (suc n) d) (fin false (suc n) d)) own-quotient;
      }

pub limit-ends : (m : Float) → T (fits binary32 m) → T (positive m) → Ends m
limit-ends nan f p = absurd p
limit-ends (inf s) f p = absurd p
limit-ends (fin true n d) f p = absurd p
limit-ends (fin false zero d) f p = absurd p
limit-ends (fin false (suc n) d) f p = ends n d f

-- so at each limit of each model
pub model-ends : (model : Model) → Ends (limits_of model).position × Ends (limits_of model).velocity × Ends (limits_of model).torque × Ends (limits_of model).kp × Ends (limits_of model).kd
unfolding fits of_bits of_int
model-ends Rs00 = (limit-ends _ tt tt, limit-ends _ tt tt, limit-ends _ tt tt, limit-ends _ tt tt, limit-ends _ tt tt)
model-ends Rs01 = (limit-ends _ tt tt, limit-ends _ tt tt, limit-ends _ tt tt, limit-ends _ tt tt, limit-ends _ tt tt)
model-ends Rs02 = (limit-ends _ tt tt, limit-ends _ tt tt, limit-ends _ tt tt, limit-ends _ tt tt, limit-ends _ tt tt)
model-ends Rs03 = (limit-ends _ tt tt, limit-ends _ tt tt, limit-ends _ tt tt, limit-ends _ tt tt, limit-ends _ tt tt)
model-ends Rs04 = (limit-ends _ tt tt, limit-ends _ tt tt, limit-ends _ tt tt, limit-ends _ tt tt, limit-ends _ tt tt)
model-ends Rs05 = (limit-ends _ tt tt, limit-ends _ tt tt, limit-ends _ tt tt, limit-ends _ tt tt, limit-ends _ tt tt)
model-ends Rs05el = (limit-ends _ tt tt, limit-ends _ tt tt, limit-ends _ tt tt, limit-ends _ tt tt, limit-ends _ tt tt)
model-ends Rs06 = (limit-ends _ tt tt, limit-ends _ tt tt, limit-ends _ tt tt, limit-ends _ tt tt, limit-ends _ tt tt)
