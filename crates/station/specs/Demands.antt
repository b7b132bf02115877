-- Demands 3 and 1 over the calls of a station. Definitions only.
use Rattle.std.specs.Prelude.{ℕ, ◌≤◌, ◌≡◌, Bool, true, false, not, List, [], ◌∷◌, ◌++◌, length, take, Some, Result, Ok, Err, ⊤, None}
use Rattle.codec.specs.declared.error.Refusal.{Refusal}
use Rattle.codec.specs.declared.bus.CanFrame.{CanFrame}
use Rattle.codec.specs.declared.model.Model.{Model}
use Rattle.codec.specs.Kinds.{among}
use Rattle.codec.specs.Refusals.{number_of}
use Rattle.motor.specs.declared.engine.command.Command.{Command}
use Rattle.motor.specs.declared.engine.command.Said.{Said}
use Rattle.motor.specs.declared.engine.command.Said.TheVariants as said
use Rattle.motor.specs.declared.engine.operation.Effect.TheVariants as effect
use Rattle.motor.specs.engine.Run.{no_operation}
use Rattle.motor.specs.Calls.{no_command, state_by}
use Rattle.motor.specs.Lone.{Lone, lone_new}
use Rattle.motor.specs.Receive.{counted_at}
use Rattle.station.specs.declared.call.Answer.{Answer}
use Rattle.station.specs.declared.call.Answer.TheVariants as answer
use Rattle.station.specs.declared.call.Asked.{Asked}
use Rattle.station.specs.declared.call.Call.{Call}
use Rattle.station.specs.declared.call.Call.TheVariants as call
use Rattle.station.specs.Limits.{most_motors}
use Rattle.station.specs.Calls.{register, start, step, frame, remove, Reply, ok}
use Rattle.station.specs.Station.{Place, empty, held, Distinct, admission, source_of, station_call}
use Rattle.station.specs.History.{Told, mine, of_m, after, story, own, history, alone, holds}

-- what a motor is registered with besides its id
pub record Given : Type 0 where
  pub host : ℕ
  pub model : Model
  pub wait : ℕ
  pub time : ℕ

-- the registration, and the lone motor made by it
unfoldable pub registers : ℕ → Given → Asked
registers m r = register m r.host (Some r.model) r.wait r.time

unfoldable pub made : ℕ → Given → Lone
made m r = lone_new m r.host r.model r.wait r.time

-- A list of calls on a fresh station which at some point registers m, unrefused: before ++ (registers m r ∷ later).
pub record Run (m : ℕ) (r : Given) : Type 0 where
  pub before : List Asked
  pub later : List Asked
  pub unrefused : (station_call (after empty before) (registers m r)).0 ≡ ok

module _ {m : ℕ} {r : Given} (x : Run m r) where
  -- the station k calls after the registration, and what happens from the registration on
  unfoldable pub at : ℕ → List Place
  at k = after (station_call (after empty x.before) (registers m r)).1 (take k x.later)

  unfoldable pub since : List Told
  since = story m (at 0) x.later

-- A run is as the lone motor's. Its calls and frames have the lone motor's answers. And after any k calls, to the removal of m or
-- the end, the station holds for m what the lone motor holds after those of the k that are m's.
pub record AsLone {m : ℕ} {r : Given} (x : Run m r) : Type 0 where
  pub answers : own m (since x) ≡ alone (Some (made m r)) (of_m m x.later)
  pub held_at : (k : ℕ) → k ≤ length (since x) → held (at x k) m ≡ holds (Some (made m r)) (of_m m (take k x.later))

-- Two runs are the same for m. They have the same answers, and hold the same for m after each of its calls and frames, until its
-- next: wherever as many of m's calls lie behind in both.
pub record Same {m : ℕ} {r : Given} (x y : Run m r) : Type 0 where
  pub answers : own m (since x) ≡ own m (since y)
  pub held_at : (j k : ℕ) → j ≤ length (since x) → k ≤ length (since y)
      → length (of_m m (take j x.later)) ≡ length (of_m m (take k y.later)) → held (at x j) m ≡ held (at y k) m

-- Demand 3. The two-run part asks for equal histories; that a run is as the lone motor's asks for nothing. The last two keep the
-- runs from being too few: there are eight places with different ids, and a registration that passes the tests is taken.
pub record Demand3 : Type 0 where
  pub two_runs : (m : ℕ) (r : Given) (x y : Run m r) → history m (since x) ≡ history m (since y) → Same x y
  pub lone-motor : (m : ℕ) (r : Given) (x : Run m r) → AsLone x
  pub places : (cs : List Asked) → (length (after empty cs) ≡ most_motors) × Distinct (after empty cs)
  pub taken_in : (cs : List Asked) (m : ℕ) (r : Given)
      → admission (after empty cs) m r.host (Some r.model) r.wait r.time ≡ Ok tt
      → (station_call (after empty cs) (registers m r)).0 ≡ ok

-- ---- demand 1

-- the number by which an answer refuses, 0 where it doesn't
abbrev pub checked_number : Result ⊤ Refusal → ℕ
checked_number (Ok tt) = 0
checked_number (Err r) = number_of r

abbrev pub said_number : Said → ℕ
said_number (said.Sent due) = 0
said_number (said.Waiting due) = 0
said_number (said.Finished r) = 0
said_number (said.FinishedWith r) = 0
said_number (said.Refused r) = number_of r

abbrev pub number_in : Answer → ℕ
number_in (answer.Told k) = checked_number k
number_in (answer.Moved s) = said_number s
number_in (answer.Looked k) = checked_number k

abbrev pub number : Reply → ℕ
number r = number_in r.replied.answer

-- the numbers of calls that change something, though they refuse: a frame that is counted, an operation that ends. Both move the clock
abbrev pub counting_numbers : List ℕ
counting_numbers = 14 ∷ 15 ∷ []

abbrev pub ending_numbers : List ℕ
ending_numbers = 16 ∷ 17 ∷ 18 ∷ 20 ∷ []

abbrev pub moving_numbers : List ℕ
moving_numbers = counting_numbers ++ ending_numbers

-- refused by any other number
unfoldable pub inert : Reply → Bool
inert r = not (among (number r) (0 ∷ moving_numbers))

-- the numbers that a call may get, 0 with them: those of its tests, in their order, and of a step those by which an operation fails
abbrev pub start_numbers : List ℕ
start_numbers = 0 ∷ 6 ∷ 7 ∷ 8 ∷ 9 ∷ 2 ∷ 19 ∷ 12 ∷ 10 ∷ 11 ∷ []

abbrev pub step_numbers : List ℕ
step_numbers = 0 ∷ 6 ∷ 7 ∷ 21 ∷ ending_numbers

unfoldable pub numbers_of : Call → List ℕ
numbers_of (call.Register m host model wait time) = 0 ∷ 1 ∷ 2 ∷ 3 ∷ 9 ∷ 7 ∷ 5 ∷ 4 ∷ []
numbers_of (call.Start m c now) = start_numbers
numbers_of (call.Step m now) = step_numbers
numbers_of (call.Frame now) = 0 ∷ 13 ∷ 7 ∷ counting_numbers
numbers_of (call.Look m) = 0 ∷ 6 ∷ []
numbers_of (call.Remove m now) = 0 ∷ 6 ∷ 7 ∷ 8 ∷ []

-- a motor whose clock takes the call's time, and besides: its response count rises; its operation is over
unfoldable pub raised : Lone → ℕ → Lone
raised h now = record { state = counted_at h.state now; readings = h.readings }

unfoldable pub failed : Lone → ℕ → Lone
failed h now = record { state = state_by h.state now no_command no_operation effect.Nothing; readings = h.readings }

-- A refused call changes nothing, 14 to 18 and 20 apart; no call changes what is held for a motor that it isn't for; a removed
-- motor's place is free. 14 and 15 change of their motor the clock and the response count, nothing else; 16, 17, 18 and 20 the clock
-- and the operation, nothing else. Each call gets its own numbers only: a look refuses only with 6.
pub record Demand1 : Type 0 where
  pub refused : (s : List Place) (c : Asked) → inert (station_call s c).0 ≡ true → (station_call s c).1 ≡ s
  pub others : (s : List Place) (m : ℕ) (c : Asked) → mine m c ≡ false → held (station_call s c).1 m ≡ held s m
  pub freed : (s : List Place) (m now : ℕ) → Distinct s → (station_call s (remove m now)).0 ≡ ok → held (station_call s (remove m now)).1 m ≡ None
  pub counted : (s : List Place) (f : CanFrame) (now : ℕ) (h : Lone) → Distinct s → held s (source_of f) ≡ Some h
      → among (number (station_call s (frame f now)).0) counting_numbers ≡ true
      → held (station_call s (frame f now)).1 (source_of f) ≡ Some (raised h now)
  pub ended : (s : List Place) (m now : ℕ) (h : Lone) → Distinct s → held s m ≡ Some h
      → among (number (station_call s (step m now)).0) ending_numbers ≡ true
      → held (station_call s (step m now)).1 m ≡ Some (failed h now)
  pub numbers : (s : List Place) (c : Asked) → among (number (station_call s c).0) (numbers_of c.call) ≡ true
  pub start-numbers : (s : List Place) (m : ℕ) (c : Command) (now : ℕ)
      → among (number (station_call s (start m c now)).0) (21 ∷ moving_numbers) ≡ false
  pub frame-numbers : (s : List Place) (f : CanFrame) (now : ℕ)
      → among (number (station_call s (frame f now)).0) (19 ∷ 21 ∷ ending_numbers) ≡ false
