-- The same frames, handed in to a lent station: what a turn of the loop carries on. Definitions only.
use Rattle.std.specs.Prelude.{ℕ, ◌+◌, ◌-◌}
use Rattle.station.specs.declared.call.Asked.{Asked}
use Rattle.station.specs.declared.call.Call.TheVariants as call
use Rattle.station.specs.declared.call.Replied.{Replied}
use Rattle.station.specs.declared.station.Station.{Station}
use Rattle.station_abi.specs.declared.beats.Beat.{Beat}
use Rattle.station_abi.specs.Frames.{next_id, next_frame, passed_of, taken_from}

unfoldable pub asked_at : Beat → Asked
asked_at b = record { call = call.Frame 0; frame = next_frame b.kind b.id b.parameter }

-- one frame less is left
unfoldable pub next_beat : Beat → Replied → Beat
next_beat b r =
    record { left = b.left - 1; passed = b.passed + passed_of r; kind = b.kind; id = next_id b.id b.motors; motors = b.motors; parameter = b.parameter }

-- what is counted, and what is left to count on this station
unfoldable pub counted_by : Station → Beat → ℕ
counted_by st b = b.passed + taken_from b.motors b.kind b.parameter st b.id b.left
