-- The station over places that hold lone motors, and the lone motor's answers. Definitions only.
use Rattle.std.specs.Prelude.{ℕ, ◌%◌, ◌≡◌, Bool, true, false, cond, List, [], ◌∷◌, ◌++◌, eqb, replicate, Some, None, Result, Ok, Err, ⊤, Option, is_some}
use Rattle.codec.specs.declared.error.Refusal.{Refusal}
use Rattle.codec.specs.declared.model.Model.{Model}
use Rattle.codec.specs.declared.bus.CanFrame.{CanFrame}
use Rattle.motor.specs.Calls.{register_numbers}
use Rattle.motor.specs.Lone.{Lone, LoneAnswered, LoneHeard, lone_new, lone_again, lone_start, lone_step, hears, lone_look, lone_removal}
use Rattle.motor.specs.Numbers.{plain, numbered, first_of}
use Rattle.motor.specs.Receive.{frame_extra, accepts_frame}
use Rattle.station.specs.declared.call.Asked.{Asked}
use Rattle.station.specs.declared.call.Call.{Call}
use Rattle.station.specs.declared.call.Call.TheVariants as call
use Rattle.station.specs.Limits.{most_motors}
use Rattle.station.specs.Calls.{Reply, ok, no, says, shows, answered, refuses}

-- ---- places

-- a place is free, or taken by a motor: its id, and what is held for it
pub data Place : Type 0 where
  free : Place
  taken : ℕ → Lone → Place

-- a fresh station has no motor
unfoldable pub empty : List Place
empty = replicate most_motors free

-- what is held for the id; none where it isn't registered
unfoldable pub held : List Place → ℕ → Option Lone
held [] m = None
held (free ∷ s) m = held s m
held (taken i h ∷ s) m = cond (eqb i m) (Some h) (held s m)

-- 8 motors registered
unfoldable pub full : List Place → Bool
full [] = true
full (free ∷ s) = false
full (taken i h ∷ s) = full s

-- the first free place taken
unfoldable pub add : List Place → ℕ → Lone → List Place
add [] m h = []
add (free ∷ s) m h = taken m h ∷ s
add (taken i k ∷ s) m h = taken i k ∷ add s m h

unfoldable pub place : ℕ → Option Lone → Place
place m None = free
place m (Some h) = taken m h

-- what is held for the id replaced; with none its place is free
unfoldable pub put : List Place → ℕ → Option Lone → List Place
put [] m o = []
put (free ∷ s) m o = free ∷ put s m o
put (taken i h ∷ s) m o = cond (eqb i m) (place i o ∷ s) (taken i h ∷ put s m o)

-- the ids differ
abbrev pub Distinct : List Place → Type 0
Distinct [] = Unit {0}
Distinct (free ∷ s) = Distinct s
Distinct (taken i h ∷ s) = (held s i ≡ None) × Distinct s

-- ---- the lone motor: what it answers, and what it holds afterwards; none once it is removed

unfoldable pub moves_to : LoneAnswered → Reply × Option Lone
moves_to a = (says a.said a.frame a.result, Some a.lone)

unfoldable pub hears_to : LoneHeard → Reply × Option Lone
hears_to h = (answered h.said, Some h.lone)

unfoldable pub leaves : Lone → Result ⊤ Refusal → Option Lone
leaves h (Ok tt) = None
leaves h (Err r) = Some h

unfoldable pub lone_by : Lone → Call → CanFrame → Reply × Option Lone
lone_by h (call.Register m host model wait time) f = (answered (lone_again m host model wait time), Some h)
lone_by h (call.Start m c now) f = moves_to (lone_start h c now)
lone_by h (call.Step m now) f = moves_to (lone_step h now)
lone_by h (call.Frame now) f = hears_to (hears h f now)
lone_by h (call.Look m) f = (shows (lone_look h), Some h)
lone_by h (call.Remove m now) f = (answered (lone_removal h now), leaves h (lone_removal h now))

abbrev pub lone : Lone → Asked → Reply × Option Lone
lone h a = lone_by h a.call a.frame

-- ---- the station

-- a call goes to what is held for the motor m, and is refused where nothing is
unfoldable pub route : List Place → ℕ → Option Lone → Reply → (Lone → Reply × Option Lone) → Reply × List Place
route s m None refusal visit = (refusal, s)
route s m (Some h) refusal visit = ((visit h).0, put s m (visit h).1)

-- Register: 1, 2, 3, 9, 7, 5, 4
unfoldable pub admission : List Place → ℕ → ℕ → Option Model → ℕ → ℕ → Result ⊤ Refusal
admission s m host model wait time =
    first_of (register_numbers m host model wait time ++ numbered [] ((is_some (held s m), 5) ∷ (full s, 4) ∷ []))

-- passed, the model is known: 3 comes before
unfoldable pub enter : List Place → ℕ → ℕ → Option Model → ℕ → ℕ → Reply × List Place
enter s m host (Some model) wait time = (ok, add s m (lone_new m host model wait time))
enter s m host None wait time = (no (plain 3), s)

unfoldable pub admit : Result ⊤ Refusal → List Place → ℕ → ℕ → Option Model → ℕ → ℕ → Reply × List Place
admit (Ok tt) s m host model wait time = enter s m host model wait time
admit (Err r) s m host model wait time = (no r, s)

-- the motor that a frame comes from: the low byte of the extra field
unfoldable pub source_of : CanFrame → ℕ
source_of f = frame_extra f % 256

-- to the motor of an id: 6, then the motor's numbers
abbrev pub to_motor : List Place → ℕ → Call → CanFrame → Reply × List Place
to_motor s m c f = route s m (held s m) (refuses c (plain 6)) (λ h. lone_by h c f)

-- to the motor that a frame comes from: 13, then the motor's numbers
abbrev pub to_source : List Place → CanFrame → ℕ → Reply × List Place
to_source s f now =
    route s (source_of f) (held s (source_of f)) (refuses (call.Frame now) (plain 13)) (λ h. lone_by h (call.Frame now) f)

unfoldable pub station_by : List Place → Call → CanFrame → Reply × List Place
station_by s (call.Register m host model wait time) f = admit (admission s m host model wait time) s m host model wait time
station_by s (call.Start m c now) f = to_motor s m (call.Start m c now) f
station_by s (call.Step m now) f = to_motor s m (call.Step m now) f
station_by s (call.Frame now) f = cond (accepts_frame (source_of f) f) (to_source s f now) (no (plain 13), s)
station_by s (call.Look m) f = to_motor s m (call.Look m) f
station_by s (call.Remove m now) f = to_motor s m (call.Remove m now) f

abbrev pub station_call : List Place → Asked → Reply × List Place
station_call s a = station_by s a.call a.frame
