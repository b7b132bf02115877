-- A frame heard: a line of a candump log. Definitions only.
use Rattle.std.specs.Prelude.{ℕ, zero, suc, ◌+◌, ◌*◌, ◌-◌, ◌/◌, ◌%◌, ◌^◌, Bool, true, false, cond, List, eqb, ltb, length, get_or, take, drop, Option, Some, None, is_some, option_and_then, Result, Ok, Err, ok_or}
use Rattle.codec.specs.declared.bus.CanFrame.{CanFrame}
use Rattle.text.specs.Search.{position_of}
use Rattle.text.specs.Ascii.{ascii}
use Rattle.text.specs.Numbers.{digits_in}
use Rattle.text.specs.Words.{word_count, word_at, which_in}
use Rattle.session.specs.declared.event.Line.{Line}
use Rattle.session.specs.declared.event.Reason.{Reason}
use Rattle.session.specs.declared.event.Reason.TheVariants as reason
use Rattle.session.specs.Events.{can_frame, hands, ◌>>=◌}

-- seconds and microseconds as whole milliseconds, at most 2^64 - 1
unfoldable pub milliseconds_of : Option ℕ → Option ℕ → Option ℕ
milliseconds_of (Some s) (Some us) = cond (ltb (s * 1000 + us / 1000) 18446744073709551616) (Some (s * 1000 + us / 1000)) None
milliseconds_of (Some s) None = None
milliseconds_of None us = None

-- (SECONDS.MICROS), of n bytes: the point stands eight before the end
unfoldable pub stamp_in : List ℕ → ℕ → Option ℕ
stamp_in w n =
    cond (ltb n 10) None
    (cond (eqb (get_or w (n - 1) 0) 0x29)
    (cond (eqb (get_or w (n - 8) 0) 0x2E)
    (milliseconds_of (digits_in 10 (take (n - 9) (drop 1 w))) (digits_in 10 (take 6 (drop (n - 7) w))))
    None)
    None)

abbrev pub stamp_of : List ℕ → Option ℕ
stamp_of w = stamp_in w (length w)

-- k zeros after the digits of v, below 2^64
unfoldable pub shifted_by : ℕ → ℕ → Option ℕ
shifted_by v zero = Some v
shifted_by v (suc k) = cond (ltb 0x0FFF_FFFF_FFFF_FFFF v) None (shifted_by (v * 16) k)

-- 0 to 8 bytes, two digits each, with zeros for those that aren't there
unfoldable pub data_of : List ℕ → Option ℕ
data_of w =
    cond (eqb (length w) 0) (Some 0)
    (cond (ltb 16 (length w)) None
    (cond (eqb (length w % 2) 1) None (option_and_then (λ v. shifted_by v (16 - length w)) (digits_in 16 w))))

abbrev pub begins : List ℕ → ℕ → Bool
begins w b = cond (eqb (length w) 0) false (eqb (get_or w 0 0) b)

-- DATA of a frame with this id
abbrev pub framed : List ℕ → ℕ → Bool → Result CanFrame Reason
framed w id extended = do
  bytes ← ok_or (data_of w) reason.FrameData
  Ok (can_frame id bytes extended (length w / 2 % 2 ^ 8) true)

-- an R says a remote frame, a second # a CAN FD frame
unfoldable pub data_frame : List ℕ → ℕ → Bool → Result CanFrame Reason
data_frame w id extended =
    cond (begins w 0x52) (Err reason.RemoteFrame) (cond (begins w 0x23) (Err reason.FdFrame) (framed w id extended))

-- eight digits, or three
abbrev pub id_of : List ℕ → Option ℕ
id_of w = cond (eqb (length w) 8) (digits_in 16 w) (cond (eqb (length w) 3) (digits_in 16 w) None)

-- ID#DATA
unfoldable pub logged_frame : List ℕ → Result CanFrame Reason
logged_frame w = do
  i ← ok_or (position_of 0x23 w) reason.FrameId
  id ← ok_or (id_of (take i w)) reason.FrameId
  cond (ltb 0x1FFF_FFFF id) (Err reason.ErrorFrame) (data_frame (drop (i + 1) w) (id % 2 ^ 32) (eqb i 8))

-- a fourth word is R or T
abbrev pub is_direction : ℕ → List ℕ → Bool
is_direction n w = cond (ltb n 4) true (is_some (which_in (ascii "R T") 2 w))

abbrev pub heard_frame : List ℕ → Result Line Reason
heard_frame line = do
  time ← ok_or (stamp_of (word_at line 0)) reason.Stamp
  f ← logged_frame (word_at line 2)
  Ok (hands f time)

-- (SECONDS.MICROS) IFACE ID#DATA, and perhaps R or T
unfoldable pub heard_in : List ℕ → Result Line Reason
heard_in line =
    cond (ltb (word_count line) 3) (Err reason.LogWords)
    (cond (ltb 4 (word_count line)) (Err reason.LogWords)
    (cond (eqb (length (word_at line 1)) 0) (Err reason.LogWords)
    (cond (is_direction (word_count line) (word_at line 3)) (heard_frame line) (Err reason.Direction))))
