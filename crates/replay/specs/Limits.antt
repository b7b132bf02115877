-- What the buffers hold; the code's are src/limits.rt. Definitions only.
use Rattle.std.specs.Prelude.{ℕ}

-- a buffer's bytes, which are main's
abbrev pub buffer_size : ℕ
buffer_size = 65536

-- up to here an answer is put behind the others; past it they are written first
abbrev pub output_room : ℕ
output_room = 57344

-- no answer has more bytes
abbrev pub longest_answer : ℕ
longest_answer = 4096

-- of a line that fills the buffer so many bytes are kept
abbrev pub kept_bytes : ℕ
kept_bytes = 5000
