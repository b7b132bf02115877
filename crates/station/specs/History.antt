-- Whole lists of calls, and the history of one motor in them. Definitions only.
use Rattle.std.specs.Prelude.{ℕ, Bool, true, false, ◌&&◌, cond, List, [], ◌∷◌, map, eqb, Ok, Err, Option, None, Some}
use Rattle.motor.specs.Lone.{Lone}
use Rattle.motor.specs.Receive.{accepts_frame}
use Rattle.codec.specs.declared.bus.CanFrame.{CanFrame}
use Rattle.station.specs.declared.call.Answer.{Answer}
use Rattle.station.specs.declared.call.Answer.TheVariants as answer
use Rattle.station.specs.declared.call.Asked.{Asked}
use Rattle.station.specs.declared.call.Call.{Call}
use Rattle.station.specs.declared.call.Call.TheVariants as call
use Rattle.station.specs.Calls.{Reply}
use Rattle.station.specs.Station.{Place, lone, station_call}

-- a call and its reply
abbrev pub Told : Type 0
Told = Asked × Reply

-- M's calls are those addressed to its id; M accepts what passes Receiving's test for that id
unfoldable pub mine_by : ℕ → Call → CanFrame → Bool
mine_by m (call.Register i host model wait time) f = eqb i m
mine_by m (call.Start i c now) f = eqb i m
mine_by m (call.Step i now) f = eqb i m
mine_by m (call.Frame now) f = accepts_frame m f
mine_by m (call.Look i) f = eqb i m
mine_by m (call.Remove i now) f = eqb i m

abbrev pub mine : ℕ → Asked → Bool
mine m a = mine_by m a.call a.frame

unfoldable pub of_m : ℕ → List Asked → List Asked
of_m m [] = []
of_m m (c ∷ cs) = cond (mine m c) (c ∷ of_m m cs) (of_m m cs)

-- each call gets the station that the last one returned
unfoldable pub after : List Place → List Asked → List Place
after s [] = s
after s (c ∷ cs) = after (station_call s c).1 cs

-- a removal of m that isn't refused
unfoldable pub answered_ok : Answer → Bool
answered_ok (answer.Told (Ok tt)) = true
answered_ok (answer.Told (Err r)) = false
answered_ok (answer.Moved s) = false
answered_ok (answer.Looked k) = false

unfoldable pub removes : ℕ → Call → Reply → Bool
removes m (call.Register i host model wait time) r = false
removes m (call.Start i c now) r = false
removes m (call.Step i now) r = false
removes m (call.Frame now) r = false
removes m (call.Look i) r = false
removes m (call.Remove i now) r = eqb i m && answered_ok r.replied.answer

-- from the station s to the removal of m or the end: every call, m's or not, with its answer
unfoldable pub story : ℕ → List Place → List Asked → List Told
story m s [] = []
story m s (c ∷ cs) =
    let r = (station_call s c).0 in
    (c, r) ∷ cond (removes m c.call r) [] (story m (station_call s c).1 cs)

-- of a story what is m's; without the answers it is m's history
unfoldable pub own : ℕ → List Told → List Told
own m [] = []
own m (x ∷ xs) = cond (mine m x.0) (x ∷ own m xs) (own m xs)

unfoldable pub history : ℕ → List Told → List Asked
history m xs = map (λ (x : Told). x.0) (own m xs)

-- the lone motor fed calls of its own: its story, and what it holds at the end; none once it is removed
unfoldable pub alone : Option Lone → List Asked → List Told
alone o [] = []
alone None (c ∷ cs) = []
alone (Some h) (c ∷ cs) = (c, (lone h c).0) ∷ alone (lone h c).1 cs

unfoldable pub holds : Option Lone → List Asked → Option Lone
holds o [] = o
holds None (c ∷ cs) = None
holds (Some h) (c ∷ cs) = holds (lone h c).1 cs
