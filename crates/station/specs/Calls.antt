-- The six calls of a station, and what is answered. Definitions only.
use Rattle.std.specs.Prelude.{ℕ, List, Result, Ok, Err, ⊤, Option, None, Some}
use Rattle.codec.specs.declared.model.Model.{Model}
use Rattle.codec.specs.declared.bus.CanFrame.{CanFrame}
use Rattle.codec.specs.declared.error.Refusal.{Refusal}
use Rattle.codec.specs.Replies.{zeros}
use Rattle.motor.specs.declared.engine.command.Command.{Command}
use Rattle.motor.specs.declared.engine.command.Said.{Said}
use Rattle.motor.specs.declared.engine.command.Said.TheVariants as said
use Rattle.motor.specs.engine.Requests.{no_frame}
use Rattle.motor.specs.declared.motor.Seen.{Seen}
use Rattle.station.specs.declared.call.Answer.{Answer}
use Rattle.station.specs.declared.call.Answer.TheVariants as answer
use Rattle.station.specs.declared.call.Asked.{Asked}
use Rattle.station.specs.declared.call.Call.{Call}
use Rattle.station.specs.declared.call.Call.TheVariants as call
use Rattle.station.specs.declared.call.Replied.{Replied}

-- ---- what is asked

-- a call with no frame beside it
abbrev pub asks : Call → Asked
asks c = record { call = c; frame = no_frame }

-- Registration takes id, host id, model, write wait and time; start an id, a command and a time; step an id and a time; a frame
-- comes at a time; look takes an id; removal an id and a time.
abbrev pub register : ℕ → ℕ → Option Model → ℕ → ℕ → Asked
register m host model wait time = asks (call.Register m host model wait time)

abbrev pub start : ℕ → Command → ℕ → Asked
start m c now = asks (call.Start m c now)

abbrev pub step : ℕ → ℕ → Asked
step m now = asks (call.Step m now)

abbrev pub frame : CanFrame → ℕ → Asked
frame f now = record { call = call.Frame now; frame = f }

abbrev pub look : ℕ → Asked
look m = asks (call.Look m)

abbrev pub remove : ℕ → ℕ → Asked
remove m now = asks (call.Remove m now)

-- the call's time; a look has none
unfoldable pub time_of : Call → ℕ
time_of (call.Register m host model wait time) = time
time_of (call.Start m c now) = now
time_of (call.Step m now) = now
time_of (call.Frame now) = now
time_of (call.Look m) = 0
time_of (call.Remove m now) = now

-- ---- what is answered

-- an answer without frame and result
abbrev pub reply : Answer → Replied
reply a = record { answer = a; frame = no_frame; result = zeros }

abbrev pub told : Result ⊤ Refusal → Replied
told k = reply (answer.Told k)

abbrev pub moved : Said → CanFrame → List ℕ → Replied
moved s f b = record { answer = answer.Moved s; frame = f; result = b }

-- a call refused before any motor takes it
unfoldable pub refused : Call → Refusal → Replied
refused (call.Register m host model wait time) r = told (Err r)
refused (call.Start m c now) r = reply (answer.Moved (said.Refused r))
refused (call.Step m now) r = reply (answer.Moved (said.Refused r))
refused (call.Frame now) r = told (Err r)
refused (call.Look m) r = reply (answer.Looked (Err r))
refused (call.Remove m now) r = told (Err r)

-- What a call gives: its reply, and of a look that isn't refused all that is held.
pub record Reply : Type 0 where
  pub replied : Replied
  pub seen : Option Seen

abbrev pub gives : Replied → Reply
gives r = record { replied = r; seen = None }

abbrev pub shows : Seen → Reply
shows v = record { replied = reply (answer.Looked (Ok tt)); seen = Some v }

abbrev pub answered : Result ⊤ Refusal → Reply
answered k = gives (told k)

abbrev pub ok : Reply
ok = answered (Ok tt)

abbrev pub no : Refusal → Reply
no r = answered (Err r)

abbrev pub says : Said → CanFrame → List ℕ → Reply
says s f b = gives (moved s f b)

abbrev pub refuses : Call → Refusal → Reply
refuses c r = gives (refused c r)
