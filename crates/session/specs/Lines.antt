-- What a line says. Definitions only.
use Rattle.std.specs.Prelude.{ℕ, ◌-◌, ◌%◌, ◌^◌, cond, List, eqb, ltb, length, get_or, Result, Ok, Err, ok_or}
use Rattle.codec.specs.Models.{model_named}
use Rattle.station.specs.declared.call.Call.TheVariants as call
use Rattle.text.specs.Words.{word_at}
use Rattle.session.specs.declared.event.Event.TheVariants as event
use Rattle.session.specs.declared.event.Line.{Line}
use Rattle.session.specs.declared.event.Other.TheVariants as other
use Rattle.session.specs.declared.event.Reason.{Reason}
use Rattle.session.specs.declared.event.Reason.TheVariants as reason
use Rattle.session.specs.Limits.{longest_line}
use Rattle.session.specs.Table.{events, row_of, shape_at}
use Rattle.session.specs.Arguments.{arguments_of}
use Rattle.session.specs.Commands.{byte, half, started}
use Rattle.session.specs.Events.{bare, line_of, can_frame, hands, ◌>>=◌}
use Rattle.session.specs.Heard.{heard_in}

-- how long a line is without one CR at its end
abbrev pub shown_in : List ℕ → ℕ → ℕ
shown_in line n = cond (eqb n 0) 0 (cond (eqb (get_or line (n - 1) 0) 0x0D) (n - 1) n)

-- register ID HOST MODEL WAIT TIME
abbrev pub registered : List ℕ → List ℕ → Line
registered model v = bare (event.Call (call.Register (half v 0) (half v 1) (model_named model) (get_or v 3 0) (get_or v 4 0)))

-- frame TIME ID DATA EXTENDED DLC RX
abbrev pub any_frame : List ℕ → Line
any_frame v = hands (can_frame (get_or v 1 0 % 2 ^ 32) (get_or v 2 0) (eqb (get_or v 3 0) 1) (byte v 4) (eqb (get_or v 5 0) 1)) (get_or v 0 0)

-- the event of row k, of a line and its numbers
unfoldable pub call_event : List ℕ → ℕ → List ℕ → Line
call_event line k v =
    cond (eqb k 0) (bare (event.Other other.Fresh))
    (cond (eqb k 1) (registered (word_at line 3) v)
    (cond (eqb k 2) (bare (event.Call (call.Step (half v 0) (get_or v 1 0))))
    (cond (eqb k 3) (any_frame v)
    (cond (eqb k 4) (bare (event.Call (call.Look (half v 0)))) (bare (event.Call (call.Remove (half v 0) (get_or v 1 0))))))))

abbrev pub called_by : List ℕ → List ℕ → ℕ → Result Line Reason
called_by line shape k = do
  v ← arguments_of line shape
  Ok (call_event line k v)

abbrev pub starts : List ℕ → Result Line Reason
starts line = do
  c ← started line
  Ok (bare (event.Call c))

-- the event that the first word says: a start's line, row 6, is read by its command
unfoldable pub called : List ℕ → Result Line Reason
called line = do
  k ← ok_or (row_of events (word_at line 0)) reason.NoSuchEvent
  cond (eqb k 6) (starts line) (called_by line (shape_at events k) k)

-- a line has at most 4,096 bytes; one that begins with ( is a line of a log
unfoldable pub said_in : List ℕ → Result Line Reason
said_in line =
    cond (ltb longest_line (length line)) (Err reason.LineTooLong) (cond (eqb (get_or line 0 0) 0x28) (heard_in line) (called line))

-- blank lines and comments are nothing
unfoldable pub read_line : List ℕ → Line
read_line line =
    cond (eqb (length line) 0) (bare (event.Other other.Nothing))
    (cond (eqb (get_or line 0 0) 0x23) (bare (event.Other other.Nothing)) (line_of (said_in line)))
