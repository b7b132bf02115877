-- Right because each range of the bits gives the whole part that proofs/Cut.antt says. Assumes nothing.
use mathlib.Core.Path.{◌≡◌, refl, sym, ap, ◌∙◌, subst}
use mathlib.Core.Bool.{not}
use Prim.Native.Nat.{ℕ, ◌-◌, ◌/◌, ◌^◌, ◌<◌, ◌≤◌}
use lib.Bits.{bit_and, bit_or}
use native.Mathlib.Omega.{arith}
use lib.Dec.{T}
use lib.Ieee.{Float, nan, binary32, fits, is_nan, of_bits, to_bits, to_unsigned}
use lib.Ieee.Bits.{of_bits-to_bits, to_bits-lt}
use lib.Ieee.Casts.{to_unsigned-lt}
use lib.Ieee.Compare.{differs_from_itself}
use Rattle.codec.proofs.Units.{lead_is}
use Rattle.codec.proofs.Cut.{below_one, within, beyond, negative, equals_itself}
use Rattle.codec.proofs.motion.trunc_u16.Goals as goal

abbrev b : Float → ℕ
b x = to_bits binary32 x

read : (x : Float) → T (fits binary32 x) → of_bits binary32 (b x) ≡ x
read x h = of_bits-to_bits binary32 x h

number : (x : Float) → T (fits binary32 x) → T (not (is_nan x)) → T (not (is_nan (of_bits binary32 (b x))))
number x h e = subst (λ (y : Float). T (not (is_nan y))) (sym (read x h)) e

zero-of-nan : to_unsigned 16 nan ≡ 0
unfolding to_unsigned
zero-of-nan = refl

pub returns-then-x : goal.returns-then-x
returns-then-x c = sym (ap (to_unsigned 16) (differs_from_itself c.args.x (subst T (sym c.if-x.true) tt)) ∙ zero-of-nan)

pub float_to_bits-bits : goal.float_to_bits-bits
float_to_bits-bits c = equals_itself c.args.x c.if-x.false

pub returns-then-bits-lt1065353216 : goal.returns-then-bits-lt1065353216
returns-then-bits-lt1065353216 c = below_one (b c.args.x) c.if-bits-lt1065353216.true ∙ ap (to_unsigned 16) (read c.args.x (subst T (sym c.well_formed.0.1) tt))

cut : (x : Float) → T (fits binary32 x) → 1065353216 ≤ b x → b x < 1199570944
    → bit_or (bit_and (b x) 8388607) 8388608 / 2 ^ (150 - b x / 8388608) ≡ to_unsigned 16 x
cut x f l h = ap (λ (z : ℕ). z / 2 ^ (150 - b x / 8388608)) (lead_is (b x)) ∙ within (b x) l h ∙ ap (to_unsigned 16) (read x f)

pub overflow_cast-result : goal.overflow_cast-result
overflow_cast-result c =
    let e = cut c.args.x (subst T (sym c.well_formed.0.1) tt) c.if-bits-lt1065353216.false c.if-bits-lt1199570944.true in
    record { fits = omega (arith, e, to_unsigned-lt 16 c.args.x) }

pub returns-then-bits-lt1199570944 : goal.returns-then-bits-lt1199570944
returns-then-bits-lt1199570944 c =
    cut c.args.x (subst T (sym c.well_formed.0.1) tt) c.if-bits-lt1065353216.false c.if-bits-lt1199570944.true

pub returns-then-bits-lt2147483648 : goal.returns-then-bits-lt2147483648
returns-then-bits-lt2147483648 c =
    let f : T (fits binary32 c.args.x) = subst T (sym c.well_formed.0.1) tt in
    beyond (b c.args.x) c.if-bits-lt1199570944.false c.if-bits-lt2147483648.true (number c.args.x f (equals_itself c.args.x c.if-x.false)) ∙ ap (to_unsigned 16) (read c.args.x f)

pub returns : goal.returns
returns c =
    let f : T (fits binary32 c.args.x) = subst T (sym c.well_formed.0.1) tt in
    negative (b c.args.x) c.if-bits-lt2147483648.false (to_bits-lt binary32 c.args.x f) (number c.args.x f (equals_itself c.args.x c.if-x.false)) ∙ ap (to_unsigned 16) (read c.args.x f)
