-- A line's limit; the code's is src/limits.rt. Definitions only.
use Rattle.std.specs.Prelude.{ℕ}

-- the longest line, in bytes
abbrev pub longest_line : ℕ
longest_line = 4096
