-- Demands 1, 2 and 3 over contracts: of any functions whose contracts say what is returned, `Gives` of a call on a station and `New` of
-- a new station. Promises and lent.LentPromises, beside the proofs, say which they are. Definitions only.
use Rattle.std.specs.Prelude.{ℕ, ◌≤◌, ◌≡◌, true, false, List, [], ◌∷◌, length, take, Some, Ok, Result, None}
use Rattle.codec.specs.Numbers.{said_in}
use Rattle.codec.specs.declared.bus.CanFrame.{CanFrame}
use Rattle.codec.specs.declared.protocol.ParameterValue.{ParameterValue}
use Rattle.codec.specs.Kinds.{among}
use Rattle.codec.specs.Values.{encode_parameter_value, encode_parameter_write, InRange}
use Rattle.motor.specs.declared.engine.command.Command.{Command}
use Rattle.motor.specs.declared.engine.command.Command.TheVariants as command
use Rattle.motor.specs.declared.readings.Entry.{Entry}
use Rattle.motor.specs.Echo.{Carries}
use Rattle.motor.specs.Lone.{Lone, lone_look}
use Rattle.motor.specs.Readings.{lookup}
use Rattle.motor.specs.Receive.{is_read}
use Rattle.station.specs.declared.call.Asked.{Asked}
use Rattle.codec.specs.declared.error.Refusal.{Refusal}
use Rattle.motor.specs.declared.motor.Seen.{Seen}
use Rattle.station.specs.declared.station.Station.{Station}
use Rattle.station.specs.Calls.{start, step, frame, look, remove, ok, shows}
use Rattle.station.specs.Station.{Place, empty, held, Distinct, admission, source_of, station_call}
use Rattle.station.specs.Stations.{free_motor, motor_at, with_motor, Shows}
use Rattle.station.specs.History.{Told, mine, of_m, after, own, history, alone, holds}
use Rattle.station.specs.Demands.{Given, registers, made, inert, number, numbers_of, raised, failed, counting_numbers, ending_numbers, moving_numbers}
use Rattle.station.specs.Demand2.{unrefused, sent_in, In, telling, HeldReading}
use Rattle.station.specs.Code.{Out, looked, reply_in, next, given, Follows, seen, shown, readings_in, place_for, raised_at, failed_at, reached, ending, answers_of}

module _ (Gives : Station → Asked → Out → Type 0) where
  -- ---- demand 3

  -- A run of the code: what the calls return, each on the station that the last one left.
  abbrev pub Ran : Station → List Asked → List Out → Type 0
  Ran st [] [] = Unit {0}
  Ran st [] (o ∷ os) = ⊥
  Ran st (a ∷ cs) [] = ⊥
  Ran st (a ∷ cs) (o ∷ os) = Gives st a o × Ran (next st o) cs os

  module _ (New : Station → Type 0) where
    -- A run of the code from a new station, in which m is registered, unrefused.
    pub record CodeRun (m : ℕ) (r : Given) : Type 0 where
      pub begin : Station
      pub new : New begin
      pub before : List Asked
      pub outs : List Out
      pub ran : Ran begin before outs
      pub out : Out
      pub registered : Gives (ending begin outs) (registers m r) out
      pub unrefused : reply_in out ≡ ok
      pub later : List Asked
      pub outs-later : List Out
      pub ran-later : Ran (next (ending begin outs) out) later outs-later

    module _ {m : ℕ} {r : Given} (x : CodeRun m r) where
      unfoldable pub code-since : List Told
      code-since = answers_of m x.later x.outs-later

      unfoldable pub code_at : ℕ → Station
      code_at k = reached (next (ending x.begin x.outs) x.out) x.outs-later k

    -- What Demand 3 says, of the code.
    module _ {m : ℕ} {r : Given} where
      pub record CodeAsLone (x : CodeRun m r) : Type 0 where
        pub answers : own m (code-since x) ≡ alone (Some (made m r)) (of_m m x.later)
        pub held_at : (k : ℕ) → k ≤ length (code-since x)
            → seen (code_at x k) m ≡ shown (holds (Some (made m r)) (of_m m (take k x.later)))

      pub record CodeSame (x y : CodeRun m r) : Type 0 where
        pub answers : own m (code-since x) ≡ own m (code-since y)
        pub held_at : (j k : ℕ) → j ≤ length (code-since x) → k ≤ length (code-since y)
            → length (of_m m (take j x.later)) ≡ length (of_m m (take k y.later))
            → seen (code_at x j) m ≡ seen (code_at y k) m

    pub record CodeDemand3 : Type 0 where
      pub two_runs : (m : ℕ) (r : Given) (x y : CodeRun m r) → history m (code-since x) ≡ history m (code-since y) → CodeSame x y
      pub lone-motor : (m : ℕ) (r : Given) (x : CodeRun m r) → CodeAsLone x
      pub places : (st : Station) → New st → (cs : List Asked) (os : List Out) → Ran st cs os → (s : List Place) × Shows (ending st os) s × Distinct s
      pub taken_in : (st : Station) → New st → (cs : List Asked) (os : List Out) → Ran st cs os → (m : ℕ) (r : Given)
          → (o : Out) → Gives (ending st os) (registers m r) o
          → admission (after empty cs) m r.host (Some r.model) r.wait r.time ≡ Ok tt → reply_in o ≡ ok

  -- ---- demand 1

  -- Demand 1 of a good station, st, which holds s: the replies, and what a look shows after a call.
  pub record CodeKept (st : Station) (s : List Place) : Type 0 where
    pub others : (a : Asked) (o : Out) → Gives st a o → (m : ℕ) → mine m a ≡ false → seen (next st o) m ≡ seen st m
    pub freed : (m now : ℕ) (o : Out) → Gives st (remove m now) o → reply_in o ≡ ok → seen (next st o) m ≡ shown None
    pub counted : (f : CanFrame) (now : ℕ) (o : Out) (h : Lone) → Gives st (frame f now) o → held s (source_of f) ≡ Some h
        → among (number (reply_in o)) counting_numbers ≡ true → seen (next st o) (source_of f) ≡ shows (lone_look (raised h now))
    pub ended : (m now : ℕ) (o : Out) (h : Lone) → Gives st (step m now) o → held s m ≡ Some h
        → among (number (reply_in o)) ending_numbers ≡ true → seen (next st o) m ≡ shows (lone_look (failed h now))
    pub numbers : (a : Asked) (o : Out) → Gives st a o → among (number (reply_in o)) (numbers_of a.call) ≡ true
    pub start-numbers : (m : ℕ) (c : Command) (now : ℕ) (o : Out) → Gives st (start m c now) o
        → among (number (reply_in o)) (21 ∷ moving_numbers) ≡ false
    pub frame-numbers : (f : CanFrame) (now : ℕ) (o : Out) → Gives st (frame f now) o
        → among (number (reply_in o)) (19 ∷ 21 ∷ ending_numbers) ≡ false

  -- On any station: refused by a number other than 14 to 18 and 20, st comes back; all places but the call's own are the same; 14 and
  -- 15 change of the motor there the clock and the response count, 16, 17, 18 and 20 the clock and the operation; a removed motor's
  -- place is the free place. The rest is said of a good station with different ids.
  pub record CodeDemand1 : Type 0 where
    pub refused : (st : Station) (a : Asked) (o : Out) → Gives st a o → inert (reply_in o) ≡ true → next st o ≡ st
    pub elsewhere : (st : Station) (a : Asked) (o : Out) → Gives st a o → (i : ℕ) → (i ≡ place_for st a → ⊥) → motor_at (next st o) i ≡ motor_at st i
    pub counted : (st : Station) (f : CanFrame) (now : ℕ) (o : Out) → Gives st (frame f now) o
        → among (number (reply_in o)) counting_numbers ≡ true → next st o ≡ raised_at st (place_for st (frame f now)) now
    pub ended : (st : Station) (m now : ℕ) (o : Out) → Gives st (step m now) o
        → among (number (reply_in o)) ending_numbers ≡ true → next st o ≡ failed_at st (place_for st (step m now)) now
    pub freed : (st : Station) (m now : ℕ) (o : Out) → Gives st (remove m now) o → reply_in o ≡ ok
        → next st o ≡ with_motor st (place_for st (remove m now)) free_motor
    pub good : (st : Station) (s : List Place) → Shows st s → Distinct s → CodeKept st s

  -- ---- demand 2

  -- Where the contracts allow these results, on a station that holds t, a look shows the value that was echoed, whoever wrote it.
  abbrev pub CodeEcho : Type 0
  CodeEcho =
      (id raw : ℕ) (v : ParameterValue) → InRange v → encode_parameter_value id v ≡ Ok raw
      → (st : Station) (t : List Place) → Shows st t → (f : CanFrame) (later : ℕ) → is_read f ≡ true → Carries f.data (encode_parameter_write id raw)
      → (r : Out) → Gives st (frame f later) r → reply_in r ≡ ok
      → (l : Result Seen Refusal) → Gives (next st r) (look (source_of f)) (looked l)
      → (said_in l ≡ Ok tt) × (lookup id (readings_in l) ≡ Some (record { value = v }))

  -- So of a call write_parameter on a station that holds s.
  abbrev pub CodeEchoOfCall : Type 0
  CodeEchoOfCall =
      (st : Station) (s : List Place) → Shows st s → (m id : ℕ) (v : ParameterValue) (time : ℕ) → InRange v
      → (w : Out) → Gives st (start m (command.WriteParameter id v) time) w → unrefused (reply_in w) ≡ true
      → (st' : Station) (t : List Place) → Shows st' t → (f : CanFrame) (later : ℕ) → is_read f ≡ true → Carries f.data (sent_in (reply_in w)).data
      → (r : Out) → Gives st' (frame f later) r → reply_in r ≡ ok
      → (l : Result Seen Refusal) → Gives (next st' r) (look (source_of f)) (looked l)
      → (said_in l ≡ Ok tt) × (lookup id (readings_in l) ≡ Some (record { value = v }))

  module _ (New : Station → Type 0) where
    -- After any run of the code from a new station, the readings that a look shows came in its calls.
    abbrev pub CodeReadings : Type 0
    CodeReadings =
        (st : Station) → New st → (cs : List Asked) (os : List Out) → Ran st cs os
        → (m : ℕ) (l : Result Seen Refusal) → Gives (ending st os) (look m) (looked l) → said_in l ≡ Ok tt
        → (e : Entry) → In e (readings_in l) → HeldReading m (telling empty cs) e

    -- What the contracts allow is the definition's value on any station, and, where it holds s, as document 01's station.
    pub record CodeDemand2 : Type 0 where
      pub calls : (st : Station) (a : Asked) (o : Out) → Gives st a o → (given st a ≡ o) × ((s : List Place) → Shows st s → Follows st o (station_call s a))
      pub echo : CodeEcho
      pub echo-of-call : CodeEchoOfCall
      pub readings : CodeReadings
