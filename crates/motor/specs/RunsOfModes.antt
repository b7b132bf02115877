-- ensure_control_mode, as runs that antt computes. Assumes nothing.
use Rattle.std.specs.Prelude.{ℕ, List, [], ◌∷◌, negsuc, refl, Some, None}
use Rattle.codec.specs.declared.error.Refusal.TheVariants as refusal
use Rattle.codec.specs.declared.model.Model.TheVariants.{Rs00}
use Rattle.codec.specs.declared.registers.ControlMode.TheVariants as mode
use Rattle.codec.specs.Kinds.{among, listed_ids, int8_ids, kind_of, parameter_info}
use Rattle.codec.specs.Replies.{zeros}
use Rattle.motor.specs.declared.engine.command.Command.TheVariants as command
use Rattle.motor.specs.declared.engine.command.Outcome.TheVariants as outcome
use Rattle.motor.specs.engine.Hosts.{host_candidates}
use Rattle.motor.specs.Lone.{hears}
use Rattle.motor.specs.Receive.{accepts_frame, is_out_of_time, counted_at, ping_after, next_sequence, feedback_after, fault_after, told_by, is_read, read_status, read_id, read_stored, frame_said, state_after, readings_after}
use Rattle.motor.specs.Runs.{bytes, Input, Output, start, step, fresh, status, reply, sent, waiting, finished, refused, passed, runs, Row, run, RowsHold}
use Rattle.motor.specs.engine.Script.{is_mode}

-- the mode aimed at, and a time
abbrev pub ensured : ℕ → Input
ensured now = start (command.EnsureControlMode mode.Velocity 0) now

-- 7005 read, and velocity written to it, by host
abbrev pub reads : ℕ → ℕ → Output
reads due id = sent due id (bytes 5 0x70 0 0 0 0 0 0)

abbrev pub writes : ℕ → ℕ → Output
writes due id = sent due id (bytes 5 0x70 0 0 2 0 0 0)

-- a reply that says this mode
abbrev pub says : ℕ → ℕ → Input
says m now = reply (bytes 5 0x70 0 0 m 0 0 0) now

abbrev pub modes : List Row
modes =
    -- already the mode
    run (fresh 0xFD Rs00 0) (ensured 100 ∷ says 2 120 ∷ step 120 ∷ []) (reads 250 0x1100FD01 ∷ passed ∷ finished outcome.Done ∷ [])
    -- off, a pause of 60, the mode written, a pause of 30, read back
    ∷ run (fresh 0xFD Rs00 0) (ensured 100 ∷ says 0 120 ∷ step 120 ∷ status 140 ∷ step 140 ∷ step 199 ∷ step 200 ∷ step 230 ∷ says 2 250 ∷ step 250 ∷ [])
    (reads 250 0x1100FD01
    ∷ passed
    ∷ sent 360 0x0400FD01 zeros
    ∷ passed
    ∷ waiting 200
    ∷ waiting 200
    ∷ writes 230 0x1200FD01
    ∷ reads 380 0x1100FD01
    ∷ passed
    ∷ finished outcome.Done
    ∷ [])
    -- write wait 1: a write that is lost costs an attempt and a pause of 30
    ∷ run (fresh 0xFD Rs00 1)
    (ensured 100 ∷ says 0 120 ∷ step 120 ∷ status 140 ∷ step 140 ∷ step 200 ∷ step 320 ∷ step 440 ∷ step 560 ∷ step 590
    ∷ status 600 ∷ step 600 ∷ step 630 ∷ says 2 650 ∷ step 650 ∷ [])
    (reads 250 0x1100FD01
    ∷ passed
    ∷ sent 360 0x0400FD01 zeros
    ∷ passed
    ∷ waiting 200
    ∷ writes 320 0x1200FD01
    ∷ writes 440 0x1200FF01
    ∷ writes 560 0x1200FE01
    ∷ waiting 590
    ∷ writes 710 0x1200FD01
    ∷ passed
    ∷ waiting 630
    ∷ reads 780 0x1100FD01
    ∷ passed
    ∷ finished outcome.Done
    ∷ [])
    -- 18 gives the last value read after a mode write, −1 here, though the third read has none
    ∷ run (fresh 0xFD Rs00 0)
    (ensured 100 ∷ says 0 120 ∷ step 120 ∷ status 140 ∷ step 140 ∷ step 200 ∷ step 230 ∷ step 240 ∷ says 0 250 ∷ step 250
    ∷ step 280 ∷ step 310 ∷ says 0xFF 330 ∷ step 330 ∷ step 360 ∷ step 390 ∷ step 540 ∷ step 690 ∷ step 840 ∷ step 870 ∷ [])
    (reads 250 0x1100FD01
    ∷ passed
    ∷ sent 360 0x0400FD01 zeros
    ∷ passed
    ∷ waiting 200
    ∷ writes 230 0x1200FD01
    ∷ reads 380 0x1100FD01
    ∷ waiting 380
    ∷ passed
    ∷ waiting 280
    ∷ writes 310 0x1200FD01
    ∷ reads 460 0x1100FD01
    ∷ passed
    ∷ waiting 360
    ∷ writes 390 0x1200FD01
    ∷ reads 540 0x1100FD01
    ∷ reads 690 0x1100FF01
    ∷ reads 840 0x1100FE01
    ∷ waiting 870
    ∷ refused (refusal.ModeNotReached (Some (negsuc 0)))
    ∷ [])
    -- the first read doesn't count; a disable that failed doesn't end it, and its pause of 60 follows
    ∷ run (fresh 0xFD Rs00 0)
    (ensured 100 ∷ says 0 120 ∷ step 120 ∷ step 360 ∷ step 600 ∷ step 840 ∷ step 900 ∷ step 930 ∷ step 1080 ∷ step 1230
    ∷ step 1380 ∷ step 1410 ∷ step 1440 ∷ step 1590 ∷ step 1740 ∷ step 1890 ∷ step 1920 ∷ step 1950 ∷ step 2100 ∷ step 2250
    ∷ step 2400 ∷ step 2430 ∷ [])
    (reads 250 0x1100FD01
    ∷ passed
    ∷ sent 360 0x0400FD01 zeros
    ∷ sent 600 0x0400FF01 zeros
    ∷ sent 840 0x0400FE01 zeros
    ∷ waiting 900
    ∷ writes 930 0x1200FD01
    ∷ reads 1080 0x1100FD01
    ∷ reads 1230 0x1100FF01
    ∷ reads 1380 0x1100FE01
    ∷ waiting 1410
    ∷ writes 1440 0x1200FD01
    ∷ reads 1590 0x1100FD01
    ∷ reads 1740 0x1100FF01
    ∷ reads 1890 0x1100FE01
    ∷ waiting 1920
    ∷ writes 1950 0x1200FD01
    ∷ reads 2100 0x1100FD01
    ∷ reads 2250 0x1100FF01
    ∷ reads 2400 0x1100FE01
    ∷ waiting 2430
    ∷ refused (refusal.ModeNotReached None)
    ∷ [])
    -- nothing comes at all: each write is lost too
    ∷ run (fresh 0xFD Rs00 1)
    (ensured 100 ∷ step 250 ∷ step 400 ∷ step 550 ∷ step 790 ∷ step 1030 ∷ step 1270 ∷ step 1330 ∷ step 1450 ∷ step 1570
    ∷ step 1690 ∷ step 1720 ∷ step 1840 ∷ step 1960 ∷ step 2080 ∷ step 2110 ∷ step 2230 ∷ step 2350 ∷ step 2470 ∷ step 2500
    ∷ [])
    (reads 250 0x1100FD01
    ∷ reads 400 0x1100FF01
    ∷ reads 550 0x1100FE01
    ∷ sent 790 0x0400FD01 zeros
    ∷ sent 1030 0x0400FF01 zeros
    ∷ sent 1270 0x0400FE01 zeros
    ∷ waiting 1330
    ∷ writes 1450 0x1200FD01
    ∷ writes 1570 0x1200FF01
    ∷ writes 1690 0x1200FE01
    ∷ waiting 1720
    ∷ writes 1840 0x1200FD01
    ∷ writes 1960 0x1200FF01
    ∷ writes 2080 0x1200FE01
    ∷ waiting 2110
    ∷ writes 2230 0x1200FD01
    ∷ writes 2350 0x1200FF01
    ∷ writes 2470 0x1200FE01
    ∷ waiting 2500
    ∷ refused (refusal.ModeNotReached None)
    ∷ [])
    -- the longest: four candidates, each write acknowledged in its last window, no reply. 32 frames in 39 steps
    ∷ run (fresh 0xFE Rs00 1)
    (ensured 100 ∷ step 250 ∷ step 400 ∷ step 550 ∷ step 700 ∷ step 940 ∷ step 1180 ∷ step 1420 ∷ step 1660 ∷ step 1720
    ∷ step 1840 ∷ step 1960 ∷ step 2080 ∷ status 2100 ∷ step 2100 ∷ step 2130 ∷ step 2280 ∷ step 2430 ∷ step 2580 ∷ step 2730
    ∷ step 2760 ∷ step 2880 ∷ step 3000 ∷ step 3120 ∷ status 3140 ∷ step 3140 ∷ step 3170 ∷ step 3320 ∷ step 3470 ∷ step 3620
    ∷ step 3770 ∷ step 3800 ∷ step 3920 ∷ step 4040 ∷ step 4160 ∷ status 4180 ∷ step 4180 ∷ step 4210 ∷ step 4360 ∷ step 4510
    ∷ step 4660 ∷ step 4810 ∷ step 4840 ∷ [])
    (reads 250 0x1100FE01
    ∷ reads 400 0x1100FD01
    ∷ reads 550 0x1100FF01
    ∷ reads 700 0x1100FE01
    ∷ sent 940 0x0400FE01 zeros
    ∷ sent 1180 0x0400FD01 zeros
    ∷ sent 1420 0x0400FF01 zeros
    ∷ sent 1660 0x0400FE01 zeros
    ∷ waiting 1720
    ∷ writes 1840 0x1200FE01
    ∷ writes 1960 0x1200FD01
    ∷ writes 2080 0x1200FF01
    ∷ writes 2200 0x1200FE01
    ∷ passed
    ∷ waiting 2130
    ∷ reads 2280 0x1100FE01
    ∷ reads 2430 0x1100FD01
    ∷ reads 2580 0x1100FF01
    ∷ reads 2730 0x1100FE01
    ∷ waiting 2760
    ∷ writes 2880 0x1200FE01
    ∷ writes 3000 0x1200FD01
    ∷ writes 3120 0x1200FF01
    ∷ writes 3240 0x1200FE01
    ∷ passed
    ∷ waiting 3170
    ∷ reads 3320 0x1100FE01
    ∷ reads 3470 0x1100FD01
    ∷ reads 3620 0x1100FF01
    ∷ reads 3770 0x1100FE01
    ∷ waiting 3800
    ∷ writes 3920 0x1200FE01
    ∷ writes 4040 0x1200FD01
    ∷ writes 4160 0x1200FF01
    ∷ writes 4280 0x1200FE01
    ∷ passed
    ∷ waiting 4210
    ∷ reads 4360 0x1100FE01
    ∷ reads 4510 0x1100FD01
    ∷ reads 4660 0x1100FF01
    ∷ reads 4810 0x1100FE01
    ∷ waiting 4840
    ∷ refused (refusal.ModeNotReached None)
    ∷ [])
    ∷ []

pub modes-hold : RowsHold modes
unfolding runs hears frame_said state_after readings_after accepts_frame is_out_of_time counted_at told_by ping_after next_sequence feedback_after fault_after is_read read_status read_id read_stored among listed_ids int8_ids kind_of parameter_info host_candidates is_mode
modes-hold = refl
