-- The words of a session. Of commands and events a table has a row for each: its name, and the shape of its line. Definitions only.
use Rattle.std.specs.Prelude.{ℕ, zero, suc, ◌+◌, ◌*◌, cond, Option, Some, None, List, eqb, length}
use Rattle.text.specs.Ascii.{ascii}
use Rattle.text.specs.Words.{word_at, past_word, same_bytes}

-- the commands of a start, each with the shape of the whole line
abbrev pub commands : List ℕ
commands = ascii "ping ITXT ping_with_host_id ITXIT set_mode ITXC ensure_control_mode ITXCT set_zero_position ITX save_parameters ITX get_protocol_flag ITXT set_protocol ITXPT set_device_id ITXB enable ITX disable ITX clear_error ITX set_active_report ITXF send_cmd_mit ITXWWWWW set_velocity_target ITXW get_control_mode ITXT controlled_stop ITXT write_parameter ITXHKW send_cmd_pos_vel_csp ITXWW send_cmd_pos_vel_pp ITXWWW request_parameter ITXH get_parameter ITXHT get_parameter_with_host_id ITXHIT get_parameter_f32 ITXHT get_parameter_i8 ITXHT get_version ITX"

-- the events but lines of a log; fresh has no argument, and a start's line goes on as its command says
abbrev pub events : List ℕ
events = ascii "fresh  register IIXTT step IT frame TWDFBF look I remove IT start ITX"

abbrev pub modes : List ℕ
modes = ascii "mit pp velocity csp"

abbrev pub kinds : List ℕ
kinds = ascii "i8 u8 u16 u32 f32"

-- what follows a name and its shape
abbrev pub past_row : List ℕ → List ℕ
past_row table = past_word (past_word table)

-- the row of a name among the next n rows, of which the first is row k, if one has the name
unfoldable pub row_from : List ℕ → ℕ → ℕ → List ℕ → Option ℕ
row_from table k zero w = None
row_from table k (suc n) w =
    cond (eqb (length table) 0) None (cond (same_bytes w (word_at table 0)) (Some k) (row_from (past_row table) (k + 1) n w))

-- the row of a name in a table, which has no more rows than bytes
unfoldable pub row_of : List ℕ → List ℕ → Option ℕ
row_of table w = row_from table 0 (length table) w

-- the shape of a row: the word that follows its name
abbrev pub shape_at : List ℕ → ℕ → List ℕ
shape_at table k = word_at table (2 * k + 1)
