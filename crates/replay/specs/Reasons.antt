-- Why a line isn't an event, as text. Definitions only.
use Rattle.std.specs.Prelude.{ℕ, cond, List, ◌++◌, ◌==◌}
use Rattle.session.specs.declared.event.Reason.{Reason}
use Rattle.session.specs.declared.event.Reason.TheVariants as reason
use Rattle.text.specs.Ascii.{ascii}
use Rattle.text.specs.Put.{decimal_text}

-- what a letter of a shape asks for
unfoldable pub wanted_text : ℕ → List ℕ
wanted_text letter =
    cond (letter == 0x42) (ascii "a number up to 255")
    (cond (letter == 0x48) (ascii "a number up to 0xFFFF")
    (cond (letter == 0x57) (ascii "a number up to 0xFFFFFFFF")
    (cond (letter == 0x46) (ascii "0 or 1")
    (cond (letter == 0x44) (ascii "16 hexadecimal digits")
    (cond (letter == 0x43) (ascii "mit, pp, velocity or csp")
    (cond (letter == 0x4B) (ascii "i8, u8, u16, u32 or f32")
    (cond (letter == 0x56) (ascii "a value of its kind: it is wider")
    (cond (letter == 0x58) (ascii "a word") (ascii "a number below 2^64, in decimal or after 0x")))))))))

abbrev pub count_text : ℕ → List ℕ
count_text n = ascii "this event has " ++ decimal_text n ++ ascii " words, parted by single spaces"

abbrev pub bad_word_text : ℕ → ℕ → List ℕ
bad_word_text n letter = ascii "word " ++ decimal_text n ++ ascii " isn't " ++ wanted_text letter

-- a reason
unfoldable pub reason_text : Reason → List ℕ
reason_text reason.LineTooLong = ascii "a line has at most 4096 bytes"
reason_text reason.NoSuchEvent = ascii "no event begins with this word"
reason_text reason.NoSuchCommand = ascii "start has no such command"
reason_text (reason.WordCount n) = count_text n
reason_text (reason.BadWord n letter) = bad_word_text n letter
reason_text reason.LogWords = ascii "a log's line is (SECONDS.MICROS) IFACE ID#DATA"
reason_text reason.Stamp = ascii "a time is (SECONDS.MICROS), below 2^64 ms"
reason_text reason.Direction = ascii "only R or T may follow ID#DATA"
reason_text reason.FrameId = ascii "ID is 8 or 3 hexadecimal digits before a #"
reason_text reason.FrameData = ascii "DATA is 0 to 8 bytes, two digits each"
reason_text reason.RemoteFrame = ascii "a remote frame isn't handed in"
reason_text reason.FdFrame = ascii "a CAN FD frame isn't handed in"
reason_text reason.ErrorFrame = ascii "an id above 1FFFFFFF marks an error frame"
reason_text reason.TornLine = ascii "the input ends within a line"

-- error TEXT
unfoldable pub error_text : Reason → List ℕ
error_text r = ascii "error " ++ reason_text r ++ ascii "\n"
