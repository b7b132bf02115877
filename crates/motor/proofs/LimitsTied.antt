-- What ties the limits: records and readings, and what fits the code's types. Assumes nothing.
use Rattle.std.proofs.Common.{◌≡◌, ◌+◌, ◌^◌, ◌<◌, refl, arith}
use Rattle.motor.specs.Limits.{latest_time, longest_timeout, most_readings, most_records}

-- a record for each reading, and the head
pub records-readings : most_records ≡ most_readings + 1
records-readings = refl

-- a record's number is a u16, a window a u32, and a due time a u64
pub record-fits : most_records < 2 ^ 16
record-fits = omega arith

pub window-fits : longest_timeout < 2 ^ 32
window-fits = omega arith

pub due-fits : latest_time + longest_timeout < 2 ^ 64
due-fits = omega arith
