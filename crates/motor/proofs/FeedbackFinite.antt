-- Feedback is finite: of bytes, each operation of a status value stays below a bound that an `f32` holds. Assumes nothing.
use Rattle.std.proofs.Common.{◌≡◌, ℕ, ◌+◌, ◌-◌, ◌*◌, ◌^◌, ◌<◌, ◌≤◌, Bool, true, false, cond, not, ◌&&◌, ◌||◌, T, eqb, ltb, List, [], ◌∷◌, get_or, pos, sym, refl, subst, le_trans, le_of_eq, lt_of_le_of_lt, mul-le-mul_right, mul-le-mul, mul-le-mul_left, mul-pos, mul_right_comm, le_of_mul-le-mul_right, arith, lit<, lit≤, pow_pos, Option, Some, None, Result, Ok, Err}
use Rattle.std.specs.Prelude.{⊤}
use mathlib.Core.Bool.{beq}
use native.Mathlib.Nat.{mul-mul-mul_comm}
use lib.Ieee.{Float, nan, inf, fin, binary32, up, down, size, round, sum, add, sub, neg, mul, div, of_int, of_bits}
use lib.Ieee.Exact.{HasValue}
use lib.Ieee.Fits.{down_pos}
use lib.Ieee.Scale.{finite}
use Rattle.codec.specs.declared.error.Refusal.{Refusal}
use Rattle.codec.specs.declared.model.Model.{Model}
use Rattle.codec.specs.declared.model.Model.TheVariants.{Rs00, Rs01, Rs02, Rs03, Rs04, Rs05, Rs05el, Rs06}
use Rattle.codec.specs.Models.{limits_of}
use Rattle.codec.specs.Motion.{whole}
use Rattle.codec.specs.Status.{be16, status_value, tenth, temperature_of}
use Rattle.codec.specs.declared.bus.CanFrame.{CanFrame}
use Rattle.codec.specs.Kinds.{among}
use Rattle.codec.specs.Refusals.{number_of}
use Rattle.motor.specs.declared.feedback.MotorFeedbackState.{MotorFeedbackState}
use Rattle.motor.specs.declared.motor.State.{State}
use Rattle.motor.specs.declared.motor.Motor.{Motor}
use Rattle.motor.specs.Receive.{parts_of, frame_type, counted_at, feedback_in, update, feedback_after, told_by, answer_taken, state_after, process_feedback_frame}
use Rattle.codec.proofs.Rounded.{U, rounded, rounded-mono, rounded-value}
use Rattle.codec.proofs.Steps.{quotient}
use Rattle.motor.proofs.Receiving.{either-rule}

-- |x| is at most b
abbrev pub Within : Float → ℕ → Type 0
Within nan b = ⊥
Within (inf s) b = ⊥
Within (fin s m e) b = m * up e ≤ b * down e

within-finite : (x : Float) (b : ℕ) → Within x b → T (finite x)
within-finite nan b h = absurd h
within-finite (inf s) b h = absurd h
within-finite (fin s m e) b h = tt

-- a bound that rounding keeps
record Bound (b : ℕ) : Type 0 where
  pub exact : rounded b 1 ≡ b * U
  pub small : b * U < 2 ^ 277

to-2^16 : Bound 65536
unfolding rounded size
to-2^16 = record { exact = refl; small = lit< tt }

to-2^17 : Bound 131072
unfolding rounded size
to-2^17 = record { exact = refl; small = lit< tt }

to-2^31 : Bound 2147483648
unfolding rounded size
to-2^31 = record { exact = refl; small = lit< tt }

-- ---- what is rounded stays within a bound

value-within : (x : Float) (s : Bool) (r b : ℕ) → HasValue x s r U → r ≤ b * U → Within x b
value-within nan s r b h k = absurd h
value-within (inf t) s r b h k = absurd h
value-within (fin t m e) s r b h k = cancel U (m * up e) (down e) (pow_pos 149) h.1 k
  where
    cancel : (u x d : ℕ) → 0 < u → x * u ≡ r * d → r ≤ b * u → x ≤ b * d
    cancel u x d p h k =
        le_of_mul-le-mul_right {m = x} {n = b * d} {k = u} (le_trans (le_of_eq h) (le_trans (mul-le-mul_right d k) (le_of_eq (mul_right_comm b u d)))) p

round-within : (s : Bool) (a c b : ℕ) → Bound b → 0 < c → a ≤ b * c → Within (round binary32 s a c) b
round-within s a c b B C h =
    let r : rounded a c ≤ b * U = subst (λ (z : ℕ). rounded a c ≤ z) B.exact (rounded-mono a c b 1 C (lit< tt) (omega arith)) in
    value-within (round binary32 s a c) s (rounded a c) b (rounded-value s a c (lt_of_le_of_lt r B.small)) r

cond-within : (t : Bool) (x y : Float) (b : ℕ) → Within x b → Within y b → Within (cond t x y) b
cond-within true x y b h k = h
cond-within false x y b h k = k

-- ---- each operation

whole-within : (n : ℕ) → n ≤ 65536 → Within (whole n) 65536
unfolding of_int
whole-within n h = round-within false n 1 65536 to-2^16 (lit< tt) (omega arith)

quotient-within : (x : Float) (b : ℕ) → Bound b → Within x b → Within (div binary32 x (whole 32767)) b
unfolding of_int
quotient-within nan b B h = absurd h
quotient-within (inf s) b B h = absurd h
quotient-within (fin s m e) b B h =
    subst (λ (x : Float). Within x b) (sym (quotient s m e 32767 (pos 0) (lit< tt)))
    (round-within s (m * up e * 1) (32767 * 1 * down e) b B (mul-pos (lit< tt) (down_pos e)) (le_trans (one (m * up e) (b * down e) h) (mul-le-mul_left b (more (down e)))))
  where
    one : (x y : ℕ) → x ≤ y → x * 1 ≤ y
    one x y h = omega arith

    more : (d : ℕ) → d ≤ 32767 * 1 * d
    more d = omega arith

sum-within : (s t : Bool) (x y c b : ℕ) → Bound b → 0 < c → x + y ≤ b * c → Within (sum binary32 s x t y c) b
unfolding sum
sum-within s t x y c b B C h =
    cond-within (beq s t) _ _ b (round-within s (x + y) c b B C h)
    (cond-within (ltb x y) _ _ b (round-within t (y - x) c b B C (omega arith)) (round-within (s && ltb y x) (x - y) c b B C (omega arith)))

less-one-within : (x : Float) → Within x 65536 → Within (sub binary32 x (whole 1)) 131072
unfolding sub add neg of_int
less-one-within nan h = absurd h
less-one-within (inf s) h = absurd h
less-one-within (fin s m e) h = sum-within s true (m * up e * 1) (1 * 1 * down e) (down e * 1) 131072 to-2^17 (mul-pos (down_pos e) (lit< tt)) (go (m * up e) (down e) h)
  where
    go : (x d : ℕ) → x ≤ 65536 * d → x * 1 + 1 * 1 * d ≤ 131072 * (d * 1)
    go x d h = omega arith

product-within : (x y : Float) (a b : ℕ) → Bound (a * b) → Within x a → Within y b → Within (mul binary32 x y) (a * b)
unfolding mul
product-within nan y a b B h k = absurd h
product-within (inf s) y a b B h k = absurd h
product-within (fin s m e) nan a b B h k = absurd k
product-within (fin s m e) (inf t) a b B h k = absurd k
product-within (fin s m e) (fin t n d) a b B h k =
    round-within (not (beq s t)) (m * up e * (n * up d)) (down e * down d) (a * b) B (mul-pos (down_pos e) (down_pos d))
    (le_trans (mul-le-mul h k) (le_of_eq (mul-mul-mul_comm a (down e) b (down d))))

-- ---- a status frame's values

pub status-finite : (raw : ℕ) (m : Float) → raw ≤ 65536 → Within m 16384 → T (finite (status_value raw m))
unfolding status_value
status-finite raw m h k =
    let x = sub binary32 (div binary32 (whole raw) (whole 32767)) (whole 1) in
    within-finite (mul binary32 x m) 2147483648
    (product-within x m 131072 16384 to-2^31 (less-one-within (div binary32 (whole raw) (whole 32767)) (quotient-within (whole raw) 65536 to-2^16 (whole-within raw h))) k)

pub temperature-finite : (raw : ℕ) → raw ≤ 65536 → T (finite (temperature_of raw))
unfolding temperature_of
temperature-finite raw h =
    within-finite (mul binary32 (whole raw) tenth) 65536 (product-within (whole raw) tenth 65536 1 to-2^16 (whole-within raw h) (lit≤ tt))

limits-within : (model : Model) → Within (limits_of model).position 16384 × Within (limits_of model).velocity 16384 × Within (limits_of model).torque 16384
unfolding of_bits of_int
limits-within Rs00 = (lit≤ tt, lit≤ tt, lit≤ tt)
limits-within Rs01 = (lit≤ tt, lit≤ tt, lit≤ tt)
limits-within Rs02 = (lit≤ tt, lit≤ tt, lit≤ tt)
limits-within Rs03 = (lit≤ tt, lit≤ tt, lit≤ tt)
limits-within Rs04 = (lit≤ tt, lit≤ tt, lit≤ tt)
limits-within Rs05 = (lit≤ tt, lit≤ tt, lit≤ tt)
limits-within Rs05el = (lit≤ tt, lit≤ tt, lit≤ tt)
limits-within Rs06 = (lit≤ tt, lit≤ tt, lit≤ tt)

-- ---- what a frame puts into feedback

pub record Finite (s : MotorFeedbackState) : Type 0 where
  pub position : T (finite s.position)
  pub velocity : T (finite s.velocity)
  pub torque : T (finite s.torque)
  pub temperature : T (finite s.temperature_c)

abbrev pub Bytes : List ℕ → Type 0
Bytes payload = (i : ℕ) → get_or payload i 0 < 256

raw-le : (payload : List ℕ) → Bytes payload → (i : ℕ) → be16 payload i ≤ 65536
raw-le payload h i = omega (arith, h i, h (i + 1))

pub told-finite : (model : Model) (f : CanFrame) → Bytes f.data → Finite (feedback_in model (parts_of f) f)
unfolding feedback_in
told-finite model f h =
    let l = limits-within model in
    record {
      position = status-finite (be16 f.data 0) (limits_of model).position (raw-le f.data h 0) l.0;
      velocity = status-finite (be16 f.data 2) (limits_of model).velocity (raw-le f.data h 2) l.1;
      torque = status-finite (be16 f.data 4) (limits_of model).torque (raw-le f.data h 4) l.2;
      temperature = temperature-finite (be16 f.data 6) (raw-le f.data h 6);
    }

abbrev pub FiniteIn : Option MotorFeedbackState → Type 0
FiniteIn None = Unit {0}
FiniteIn (Some s) = Finite s

-- feedback that is finite stays so, whatever the frame and its answer
module _ (f : CanFrame) (now : ℕ) (h : Bytes f.data) where
  state-finite : (said : Result ⊤ Refusal) (s : State) → FiniteIn s.feedback.latest → FiniteIn (state_after said s f now).feedback.latest
  unfolding state_after answer_taken told_by counted_at feedback_after
  state-finite (Ok tt) s k = either-rule (λ t. FiniteIn t.feedback.latest) (counted_at s now) f k (go (eqb (frame_type f) 2 || eqb (frame_type f) 24))
    where
      go : (b : Bool) → FiniteIn (cond b (update s.feedback (feedback_in s.model (parts_of f) f)) s.feedback).latest
      go true = told-finite s.model f h
      go false = k
  state-finite (Err r) s k = go (among (number_of r) (14 ∷ 15 ∷ []))
    where
      go : (b : Bool) → FiniteIn (cond b (counted_at s now) s).feedback.latest
      go true = k
      go false = k

  pub feedback-finite : (m : Motor) → FiniteIn m.state.feedback.latest → FiniteIn (process_feedback_frame m f now).motor.state.feedback.latest
  unfolding process_feedback_frame
  feedback-finite m = state-finite (process_feedback_frame m f now).said m.state
