-- Right because the turns are counted up to a number; each begins with a station and bytes that the reads before it lead to, and writes what is due.
use Rattle.std.proofs.Common.{◌-◌, ◌^◌, ◌≤◌, take, drop}
use Rattle.station.specs.lent.Lent.{station_of}
use Rattle.replay.specs.Limits.{buffer_size}
use Rattle.replay.specs.Program.{Reached}
use Rattle.replay.proofs.lines.run.Given as goal

abbrev pub invariant-loop : goal.invariant-loop
invariant-loop l = (l.pending.from ≤ l.pending.n) × (l.pending.n ≤ buffer_size) × Reached (station_of l.motors) (drop l.pending.from (take l.pending.n l.inp)) l.pending.got l.sent (2 ^ 64 - 1 - l.counter)
