-- What bounds an operation of a motor on the station, along any list of calls from a new station: the frames that it sends, the due
-- steps that it needs, when it waits, the due times that it gives. The motor's bounds are Rattle.motor's specs/Bounds. Definitions only.
use Rattle.std.specs.Prelude.{ℕ, ◌+◌, ◌≤◌, ◌<◌, ◌≡◌, Bool, true, false, cond, not, ◌&&◌, List, [], ◌∷◌, Option, None, Some}
use Rattle.motor.specs.declared.engine.command.Command.{Command}
use Rattle.motor.specs.declared.engine.command.Said.TheVariants as said
use Rattle.motor.specs.Bounds.{step as stepped, has_frame, is_due, once, most_frames_of, GivenWithin, is_pausing}
use Rattle.motor.specs.Calls.{is_idle}
use Rattle.motor.specs.Limits.{longest_timeout, most_due_steps, most_frames}
use Rattle.motor.specs.Lone.{Lone}
use Rattle.station.specs.declared.call.Answer.{Answer}
use Rattle.station.specs.declared.call.Answer.TheVariants as answer
use Rattle.station.specs.declared.call.Asked.{Asked}
use Rattle.station.specs.declared.call.Call.{Call}
use Rattle.station.specs.declared.call.Call.TheVariants as call
use Rattle.station.specs.Calls.{start, step, Reply}
use Rattle.station.specs.Station.{Place, empty, held, station_call}
use Rattle.station.specs.History.{mine, after}
use Rattle.station.specs.Demand2.{unrefused}

-- ---- what is counted

-- an operation runs
abbrev pub runs_in : Option Lone → Bool
runs_in None = false
runs_in (Some h) = not (is_idle h.state.operation.phase)

-- an answer that comes with a frame
abbrev pub sends_in : Answer → Bool
sends_in (answer.Told k) = false
sends_in (answer.Moved s) = has_frame s
sends_in (answer.Looked k) = false

-- a step that 7 and 21 don't refuse, at or after the last due time given
abbrev pub due_in : Option Lone → Call → Bool
due_in None c = false
due_in (Some h) (call.Register m host model wait time) = false
due_in (Some h) (call.Start m c now) = false
due_in (Some h) (call.Step m now) = is_due h (stepped now)
due_in (Some h) (call.Frame now) = false
due_in (Some h) (call.Look m) = false
due_in (Some h) (call.Remove m now) = false

module _ (m : ℕ) where
  abbrev pub sends_to : List Place → Asked → Bool
  sends_to s a = sends_in (station_call s a).0.replied.answer

  abbrev pub due_to : List Place → Asked → Bool
  due_to s a = due_in (held s m) a.call

  -- how many of these calls are m's and pass the test, as long as m's operation runs; its end, or m's removal, ends the count
  abbrev pub tally : (List Place → Asked → Bool) → List Place → List Asked → ℕ
  tally test s [] = 0
  tally test s (a ∷ cs) = cond (runs_in (held s m)) (once (mine m a && test s a) + tally test (station_call s a).1 cs) 0

-- ---- due times

-- a due time in the answer lies between now and now + 60,000, that of a wait after now; it is the one that the motor then holds
abbrev pub DueWithin : ℕ → Answer → Option Lone → Type 0
DueWithin now (answer.Told k) o = Unit {0}
DueWithin now (answer.Moved s) None = Unit {0}
DueWithin now (answer.Moved s) (Some h) = GivenWithin longest_timeout now s h.state.operation.due
DueWithin now (answer.Looked k) o = Unit {0}

abbrev pub DueOf : ℕ → ℕ → Reply × List Place → Type 0
DueOf m now r = DueWithin now r.0.replied.answer (held r.1 m)

-- ---- pauses

-- the operation stands in a pause
abbrev pub pauses_in : Option Lone → Bool
pauses_in None = false
pauses_in (Some h) = is_pausing h.state.operation.phase

-- ---- the theorem

-- After any calls a start of m that isn't refused, and any calls later: m's operation sends at most as many frames as its command may,
-- which are never more than 32, and needs at most 40 due steps. A step of m at or after its due time never answers waiting, save to
-- begin a pause with a later due time. Every due time that m is given is within 60,000.
pub record StationBounds : Type 0 where
  pub frames : (before : List Asked) (m : ℕ) (c : Command) (now : ℕ) (later : List Asked)
      → let a = station_call (after empty before) (start m c now) in
      unrefused a.0 ≡ true
      → once (sends_in a.0.replied.answer) + tally m (sends_to m) a.1 later ≤ most_frames_of c
  pub limits : (c : Command) → most_frames_of c ≤ most_frames
  pub steps : (before : List Asked) (m : ℕ) (c : Command) (now : ℕ) (later : List Asked)
      → let a = station_call (after empty before) (start m c now) in
      unrefused a.0 ≡ true
      → tally m (due_to m) a.1 later ≤ most_due_steps
  pub waits : (before : List Asked) (m : ℕ) (h : Lone) (now d : ℕ)
      → let a = station_call (after empty before) (step m now) in
      held (after empty before) m ≡ Some h
      → h.state.operation.due ≤ now
      → a.0.replied.answer ≡ answer.Moved (said.Waiting d)
      → (now < d) × (h.state.operation.due < d) × (pauses_in (held a.1 m) ≡ true)
  pub started : (before : List Asked) (m : ℕ) (c : Command) (now : ℕ) → DueOf m now (station_call (after empty before) (start m c now))
  pub stepped : (before : List Asked) (m now : ℕ) → DueOf m now (station_call (after empty before) (step m now))
