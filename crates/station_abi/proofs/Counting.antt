-- One frame more: what a loop has counted, and what is left to count, stay the same together. Assumes nothing.
use Rattle.std.specs.Prelude.{Result, Ok, Err, ⊤}
use Prim.Native.Nat.{ℕ, zero, suc, ◌+◌, ◌-◌, ◌^◌, ◌≤◌, ◌<◌}
use mathlib.Core.Path.{◌≡◌, refl, ap, ◌∙◌}
use native.Mathlib.Omega.{arith}
use Rattle.codec.specs.declared.error.Refusal.{Refusal}
use Rattle.codec.specs.declared.bus.CanFrame.{CanFrame}
use Rattle.station.specs.declared.call.Answer.{Answer}
use Rattle.station.specs.declared.call.Answer.TheVariants as answer
use Rattle.station.specs.declared.call.Asked.{Asked}
use Rattle.station.specs.declared.call.Call.TheVariants as call
use Rattle.station.specs.declared.call.Replied.{Replied}
use Rattle.station.specs.declared.station.After.{After}
use Rattle.station.specs.declared.station.Station.{Station}
use Rattle.station.specs.Stations.{frame_in, call_in}
use Rattle.station_abi.specs.declared.beats.Beat.{Beat}
use Rattle.station_abi.specs.Beats.{asked_at, next_beat, counted_by}
use Rattle.station_abi.specs.Loaded.{last_parameter, loaded_to}
use Rattle.station_abi.specs.Frames.{next_id, next_frame, is_passed, passed_in, passed_of, motors_of, taken_from, frames_by_value}

said-le : (k : Result ⊤ Refusal) → is_passed k ≤ 1
said-le (Ok tt) = omega arith
said-le (Err r) = omega arith

passed-le : (a : Answer) → passed_in a ≤ 1
passed-le (answer.Told k) = said-le k
passed-le (answer.Moved s) = omega arith
passed-le (answer.Looked k) = omega arith

pub passed-small : (p : ℕ) (r : Replied) → p ≡ passed_of r → p ≤ 1
unfolding passed_of
passed-small p r e = rw e (passed-le r.answer)

module _ (motors kind parameter : ℕ) (st : Station) (id : ℕ) where
  -- n + 1 frames: the next one, and n
  pub next-taken : (n : ℕ) → taken_from motors kind parameter st id (suc n)
      ≡ passed_of (frame_in st (next_frame kind id parameter) 0).replied
      + taken_from motors kind parameter (frame_in st (next_frame kind id parameter) 0).station (next_id id motors) n
  unfolding taken_from
  next-taken n = refl

  pub turn : (times count taken total passed next : ℕ) (f : CanFrame) (after : After) → count < times → f ≡ next_frame kind id parameter → after ≡ frame_in st f 0
      → passed ≡ passed_of after.replied → next ≡ next_id id motors
      → taken + taken_from motors kind parameter st id (times - count) ≡ total
      → (taken + passed) + taken_from motors kind parameter after.station next (times - (count + 1)) ≡ total
  turn times count taken total passed next f after l e g p q h =
      let s : times - count ≡ suc (times - (count + 1)) = omega arith in
      let k = next-taken (times - (count + 1)) in
      rw (p, q, g, e) (omega (arith, rw (s, k) at h))

  -- the same of a turn on the lent station
  pub turn_lent : (times count taken total passed following : ℕ) (f : CanFrame) (replied : Replied) (after : Station) → count < times → f ≡ next_frame kind id parameter
      → replied ≡ (call_in st (record { call = call.Frame 0; frame = f })).replied → after ≡ (call_in st (record { call = call.Frame 0; frame = f })).station
      → passed ≡ passed_of replied → following ≡ next_id id motors
      → taken + taken_from motors kind parameter st id (times - count) ≡ total
      → (taken + passed) + taken_from motors kind parameter after following (times - (count + 1)) ≡ total
  unfolding call_in
  turn_lent times count taken total passed following f replied after l e r s p q h =
      rw s (turn times count taken total passed following f (frame_in st f 0) l e refl (p ∙ ap passed_of r) q h)

  pub ends : (taken left total : ℕ) → left ≡ 0 → taken + taken_from motors kind parameter st id left ≡ total → taken ≡ total
  unfolding taken_from
  ends taken left total e h = omega (arith, rw e at h)

pub whole : (motors held kind times m p taken : ℕ) (st : Station) → m ≡ motors_of motors → p ≡ last_parameter held → st ≡ loaded_to m held
    → taken ≡ taken_from m kind p st 1 times → taken ≡ frames_by_value motors held kind times
unfolding frames_by_value
whole motors held kind times m p taken st e f g h = rw (g, f, e) at h

-- ---- the same of a turn on the lent station

-- the call that hands in the next frame
pub asked-same : (b : Beat) (f : CanFrame) → f ≡ next_frame b.kind b.id b.parameter → record { call = call.Frame 0; frame = f } ≡ asked_at b
unfolding asked_at
asked-same b f e = ap (λ (g : CanFrame). record { call = call.Frame 0; frame = g }) e

pub one-beat : (st next : Station) (b : Beat) (p : Asked) (o : Replied) → p ≡ asked_at b → o ≡ (call_in st p).replied → next ≡ (call_in st p).station
    → 0 < b.left → b.passed + b.left < 2 ^ 64
    → ((next_beat b o).passed + (next_beat b o).left < 2 ^ 64) × (counted_by next (next_beat b o) ≡ counted_by st b)
unfolding asked_at next_beat counted_by
one-beat st next b p o a c d l small =
    let k = passed-small (passed_of o) o refl in
    let e : b.left - 0 ≡ b.left = omega arith in
    let all = ap (λ (n : ℕ). b.passed + taken_from b.motors b.kind b.parameter st b.id n) e in
    (omega (arith, k), turn_lent b.motors b.kind b.parameter st b.id b.left 0 b.passed _ (passed_of o) _ _ o next l refl (rw a at c) (rw a at d) refl refl all)

pub no_more : (st : Station) (b : Beat) → (0 < b.left → ⊥) → b.passed ≡ counted_by st b
unfolding counted_by
no_more st b over = ends b.motors b.kind b.parameter st b.id b.passed b.left _ (left_over b.left over) refl
  where
    left_over : (n : ℕ) → (0 < n → ⊥) → n ≡ 0
    left_over zero l = refl
    left_over (suc n) l = absurd (l (omega arith))

-- from nothing counted
pub from-none : (st : Station) (motors kind parameter times taken : ℕ)
    → taken ≡ counted_by st (record { left = times; passed = 0; kind = kind; id = 1; motors = motors; parameter = parameter })
    → taken ≡ taken_from motors kind parameter st 1 times
unfolding counted_by
from-none st motors kind parameter times taken e = omega (arith, e)
