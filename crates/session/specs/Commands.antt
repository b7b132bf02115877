-- The command of a start. k is its row of the table, and v has the line's numbers, the arguments from place 3 on. Definitions
-- only.
use Rattle.std.specs.Prelude.{ℕ, ◌+◌, ◌%◌, ◌^◌, cond, List, [], ◌∷◌, eqb, leb, get_or, Option, Some, None, option_and_then, Result, Ok, Err, ok_or}
use Rattle.std.specs.Int.{w8}
use Rattle.std.proofs.Common.{to_z}
use Rattle.codec.specs.declared.protocol.ParameterValue.{ParameterValue}
use Rattle.codec.specs.declared.protocol.ParameterValue.TheVariants as value
use Rattle.codec.specs.declared.registers.ControlMode.{ControlMode}
use Rattle.codec.specs.declared.registers.ControlMode.TheVariants as mode
use Rattle.codec.specs.declared.word.Word.{Word}
use Rattle.motor.specs.declared.engine.command.Command.{Command}
use Rattle.motor.specs.declared.engine.command.Command.TheVariants as command
use Rattle.station.specs.declared.call.Call.{Call}
use Rattle.station.specs.declared.call.Call.TheVariants as call
use Rattle.text.specs.Search.{position_of}
use Rattle.text.specs.Words.{word_at}
use Rattle.session.specs.declared.event.Reason.{Reason}
use Rattle.session.specs.declared.event.Reason.TheVariants as reason
use Rattle.session.specs.Table.{commands, row_of, shape_at}
use Rattle.session.specs.Events.{◌>>=◌}
use Rattle.session.specs.Arguments.{arguments_of}

-- number i of a line as a byte, as 16 bits, and as a float's word
abbrev pub byte : List ℕ → ℕ → ℕ
byte v i = get_or v i 0 % 2 ^ 8

abbrev pub half : List ℕ → ℕ → ℕ
half v i = get_or v i 0 % 2 ^ 16

abbrev pub low_word : ℕ → Word
low_word n = record { bits = n % 2 ^ 32 }

abbrev pub word : List ℕ → ℕ → Word
word v i = low_word (get_or v i 0)

-- mit, pp, velocity, csp
unfoldable pub mode_of : ℕ → ControlMode
mode_of n = cond (eqb n 0) mode.Mit (cond (eqb n 1) mode.Position (cond (eqb n 2) mode.Velocity mode.PositionCsp))

-- i8, u8, u16, u32, f32, with the value's bits
unfoldable pub typed_value : ℕ → ℕ → ParameterValue
typed_value kind bits =
    cond (eqb kind 0) (value.I8 (to_z w8 (bits % 2 ^ 8)))
    (cond (eqb kind 1) (value.U8 (bits % 2 ^ 8))
    (cond (eqb kind 2) (value.U16 (bits % 2 ^ 16)) (cond (eqb kind 3) (value.U32 (bits % 2 ^ 32)) (value.F32 (low_word bits)))))

-- the widest value of a kind
unfoldable pub widest_of : ℕ → ℕ
widest_of kind = cond (eqb kind 0) 0xFF (cond (eqb kind 1) 0xFF (cond (eqb kind 2) 0xFFFF 0xFFFF_FFFF))

abbrev pub motion_of : List ℕ → Command
motion_of v = command.SendCmdMit (word v 3) (word v 4) (word v 5) (word v 6) (word v 7)

-- each row but ping's, which is row 0
abbrev pub command_rows : List ℕ → List (ℕ × Command)
command_rows v =
    (1, command.PingWithHostId (half v 3) (get_or v 4 0))
    ∷ (2, command.SetMode (mode_of (get_or v 3 0)))
    ∷ (3, command.EnsureControlMode (mode_of (get_or v 3 0)) (get_or v 4 0))
    ∷ (4, command.SetZeroPosition)
    ∷ (5, command.SaveParameters)
    ∷ (6, command.GetProtocolFlag (get_or v 3 0))
    ∷ (7, command.SetProtocol (byte v 3) (get_or v 4 0))
    ∷ (8, command.SetDeviceId (byte v 3))
    ∷ (9, command.Enable)
    ∷ (10, command.Disable)
    ∷ (11, command.ClearError)
    ∷ (12, command.SetActiveReport (eqb (get_or v 3 0) 1))
    ∷ (13, motion_of v)
    ∷ (14, command.SetVelocityTarget (word v 3))
    ∷ (15, command.GetControlMode (get_or v 3 0))
    ∷ (16, command.ControlledStop (get_or v 3 0))
    ∷ (17, command.WriteParameter (half v 3) (typed_value (get_or v 4 0) (get_or v 5 0)))
    ∷ (18, command.SendCmdPosVelCsp (word v 3) (word v 4))
    ∷ (19, command.SendCmdPosVelPp (word v 3) (word v 4) (word v 5))
    ∷ (20, command.RequestParameter (half v 3))
    ∷ (21, command.GetParameter (half v 3) (get_or v 4 0))
    ∷ (22, command.GetParameterWithHostId (half v 3) (half v 4) (get_or v 5 0))
    ∷ (23, command.GetParameterF32 (half v 3) (get_or v 4 0))
    ∷ (24, command.GetParameterI8 (half v 3) (get_or v 4 0))
    ∷ (25, command.GetVersion)
    ∷ []

-- the command of this row, and c where no row has the number
abbrev pub command_at : ℕ → List (ℕ × Command) → Command → Command
command_at k [] c = c
command_at k (row ∷ rows) c = cond (eqb k row.0) row.1 (command_at k rows c)

-- the command of row k
unfoldable pub command_of : ℕ → List ℕ → Command
command_of k v = command_at k (command_rows v) (command.Ping (get_or v 3 0))

-- the word of a value that is wider than the kind before it, which K stands for at this place; words are counted from 1
abbrev pub wide_at : ℕ → List ℕ → Option ℕ
wide_at kind v = cond (leb 7 kind) None (cond (leb (get_or v (kind + 1) 0) (widest_of (get_or v kind 0))) None (Some (kind + 3)))

-- the word of a value that is wider than its kind, if there is one
unfoldable pub too_wide : List ℕ → List ℕ → Option ℕ
too_wide shape v = option_and_then (λ kind. wide_at kind v) (position_of 0x4B shape)

abbrev pub start_by : Option ℕ → ℕ → List ℕ → Result Call Reason
start_by None k v = Ok (call.Start (half v 0) (command_of k v) (get_or v 1 0))
start_by (Some word) k v = Err (reason.BadWord word 0x56)

-- the start of row k, of a line's numbers
unfoldable pub start_event : ℕ → List ℕ → List ℕ → Result Call Reason
start_event k shape v = start_by (too_wide shape v) k v

-- the start that a line with this shape says
abbrev pub started_by : List ℕ → List ℕ → ℕ → Result Call Reason
started_by line shape k = do
  v ← arguments_of line shape
  start_event k shape v

-- start ID TIME COMMAND ARGS
unfoldable pub started : List ℕ → Result Call Reason
started line = do
  k ← ok_or (row_of commands (word_at line 3)) reason.NoSuchCommand
  started_by line (shape_at commands k) k
