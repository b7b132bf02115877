-- The station's limit; the code's is src/limits.rt. Definitions only.
use Rattle.std.specs.Prelude.{ℕ}

-- the motors that a station holds (4): its places
abbrev pub most_motors : ℕ
most_motors = 8
