-- Names as data: a name's bytes, spaces after them up to 16, and how many bytes it has. Definitions only.
use Rattle.std.specs.Prelude.{ℕ, suc, cond, List, [], ◌∷◌, ◌++◌, eqb, length, take}
use Prim.Native.Char.{code}
use Prim.Native.String.{String}
use Prim.Native.String as string
use Rattle.codec.specs.declared.names.Name.{Name}

-- the codes of a text's characters
abbrev pub ascii : String → List ℕ
ascii string.[] = []
ascii (string.◌∷◌ c s) = code c ∷ ascii s

-- the name that a text is; that of no text is 16 spaces
abbrev pub named : List ℕ → Name
named text = record { bytes = take 16 (text ++ ascii "                "); length = length text }

-- what the protocol command names; any other number than 0, 1 and 2 is unknown
abbrev pub protocol_name : ℕ → Name
protocol_name p =
    cond (eqb p 0) (named (ascii "private"))
    (cond (eqb p 1) (named (ascii "canopen")) (cond (eqb p 2) (named (ascii "mit")) (named (ascii "unknown"))))

-- ---- a row of the program's tables: 16 bytes

-- how many bytes come before the first space
unfoldable pub length_in : List ℕ → ℕ
length_in [] = 0
length_in (byte ∷ row) = cond (eqb byte 0x20) 0 (suc (length_in row))

abbrev pub name_in : List ℕ → Name
name_in row = record { bytes = row; length = length_in row }
