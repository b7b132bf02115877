-- The limits of one motor, each named here alone; the code's are src/limits.rt. Definitions only.
use Rattle.std.specs.Prelude.{ℕ}

-- the last time that a call may give (7), in ms
abbrev pub latest_time : ℕ
latest_time = 1000000000000000

-- the longest timeout or write wait that a call may give (9), and the longest window, in ms
abbrev pub longest_timeout : ℕ
longest_timeout = 60000

-- the readings that a motor holds (15), which is the last record's number too
abbrev pub most_readings : ℕ
most_readings = 96

-- the records, of which slot 0 is the head
abbrev pub most_records : ℕ
most_records = 97

-- the frames that an operation sends, and the due steps that it needs
abbrev pub most_frames : ℕ
most_frames = 32

abbrev pub most_due_steps : ℕ
most_due_steps = 40
