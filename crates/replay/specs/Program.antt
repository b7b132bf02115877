-- The whole program: what is answered to the bytes of an input, in one piece and as it is read. Definitions only.
use Rattle.std.specs.Prelude.{◌≡◌, ℕ, ◌+◌, ◌-◌, ◌%◌, ◌^◌, ◌<◌, ◌≤◌, Bool, true, false, cond, List, [], ◌∷◌, ◌++◌, length, take, ◌==◌, nat_le}
use Rattle.session.specs.declared.event.Reason.TheVariants as reason
use Rattle.station.specs.declared.station.Station.{Station}
use Rattle.station.specs.Stations.{new_station}
use Rattle.replay.specs.declared.lines.Ran.{Ran}
use Rattle.replay.specs.declared.lines.Ran.TheVariants as ran
use Rattle.replay.specs.Limits.{buffer_size, kept_bytes}
use Rattle.replay.specs.Reasons.{error_text}
use Rattle.replay.specs.Events.{station_after_line, text_after_line}

-- what was heard: the station, the bytes of a line whose LF hasn't come, and all that was answered
pub record HeardSoFar : Type 0 where
  pub station : Station
  pub line : List ℕ
  pub text : List ℕ

abbrev pub heard : Station → List ℕ → List ℕ → HeardSoFar
heard st line text = record { station = st; line = line; text = text }

-- a byte: an LF ends the line, which is answered by the station that the last one left
unfoldable pub hear : HeardSoFar → ℕ → HeardSoFar
hear s b =
    cond (b == 10)
    (heard (station_after_line s.station s.line) [] (s.text ++ text_after_line s.station s.line))
    (heard s.station (s.line ++ (b ∷ [])) s.text)

-- bytes in their order
abbrev pub hear_all : HeardSoFar → List ℕ → HeardSoFar
hear_all s [] = s
hear_all s (b ∷ bytes) = hear_all (hear s b) bytes

-- no LF among them
abbrev pub Plain : List ℕ → Type 0
Plain [] = Unit {0}
Plain (b ∷ bytes) = ((b == 10) ≡ false) × Plain bytes

-- the end of the input: half a line, of so many bytes, runs nothing
unfoldable pub torn_text : ℕ → List ℕ
torn_text kept = cond (kept == 0) [] (error_text reason.TornLine)

abbrev pub answered : HeardSoFar → List ℕ
answered s = s.text ++ torn_text (length s.line)

-- the output of an input
abbrev pub program : List ℕ → List ℕ
program bytes = answered (hear_all (heard new_station [] []) bytes)

-- ---- the same, as it is read

-- what is kept of a line that isn't whole: of one that fills the buffer the first bytes, which are too many already
unfoldable pub kept_of : List ℕ → List ℕ
kept_of line = cond (nat_le buffer_size (length line)) (take kept_bytes line) line

-- what was heard, with so much of its line
abbrev pub kept_as : HeardSoFar → HeardSoFar
kept_as s = heard s.station (kept_of s.line) s.text

-- one read: its bytes are heard after what was kept
abbrev pub hear_piece : HeardSoFar → List ℕ → HeardSoFar
hear_piece s bytes = kept_as (hear_all s bytes)

abbrev pub hear_pieces : HeardSoFar → List (List ℕ) → HeardSoFar
hear_pieces s [] = s
hear_pieces s (bytes ∷ reads) = hear_pieces (hear_piece s bytes) reads

-- the bytes of all reads
abbrev pub joined : List (List ℕ) → List ℕ
joined [] = []
joined (bytes ∷ reads) = bytes ++ joined reads

-- the output of an input that is read in pieces
abbrev pub program_of : List (List ℕ) → List ℕ
program_of reads = answered (hear_pieces (heard new_station [] []) reads)

-- ---- what the loop promises; bytes are counted round 2^64

abbrev pub Counted : ℕ → List ℕ → Type 0
Counted k bytes = k ≡ length bytes % 2 ^ 64

-- after some reads, of so many bytes: the station, the bytes still to be heard, how many were written, and how many turns are left of
-- 2^64 - 1. What was written, and what these bytes will be answered by, is what the reads are answered by; no turn is used up without a byte
-- that was read or written
pub record Reached (st : Station) (pending : List ℕ) (got sent left : ℕ) : Type 0 where
  pub reads : List (List ℕ)
  pub told : List ℕ
  pub got-is : Counted got (joined reads)
  pub sent_is : Counted sent told
  pub heard-is : hear_pieces (heard new_station [] []) reads ≡ kept_as (hear_all (heard st [] told) pending)
  pub turns : 2 ^ 64 - 1 ≤ left + (length (joined reads) + length told)

-- these bytes are the next of the output, after so many: they stand there in the output of some reads
pub record Due (sent : ℕ) (bytes : List ℕ) : Type 0 where
  pub reads : List (List ℕ)
  pub told : List ℕ
  pub rest : List ℕ
  pub sent_is : Counted sent told
  pub output-is : program (joined reads) ≡ told ++ (bytes ++ rest)

-- a read after what was kept; there is no more where nothing came
pub record Reads (kept : List ℕ) (got : ℕ) (pending : List ℕ) (got' : ℕ) (more : Bool) : Type 0 where
  pub bytes : List ℕ
  pub pending-is : pending ≡ kept ++ bytes
  pub got-is : got' ≡ (got + length bytes) % 2 ^ 64
  pub ends : more ≡ false → bytes ≡ []
  pub goes_on : more ≡ true → 0 < length bytes

-- what is to be answered after some bytes: where the buffer was full the same, else a read after what is kept of them
abbrev pub Follows : Bool → List ℕ → ℕ → List ℕ → ℕ → Bool → Type 0
Follows true rest got pending got' more = (pending ≡ rest) × (got' ≡ got) × (more ≡ true)
Follows false rest got pending got' more = Reads (kept_of rest) got pending got' more

-- all of an input was answered: so many bytes, by so many
pub record AllAnswered (got sent : ℕ) : Type 0 where
  pub reads : List (List ℕ)
  pub got-is : Counted got (joined reads)
  pub sent_is : Counted sent (program (joined reads))

-- no turn is left: so many bytes were read and written, 2^64 - 1 at least, and what was written was due
pub record OutOfTurns (got sent : ℕ) : Type 0 where
  pub station : Station
  pub pending : List ℕ
  pub reached : Reached station pending got sent 0

-- what the ends of a run say
abbrev pub Answered : Ran → Type 0
Answered (ran.All got sent) = AllAnswered got sent
Answered (ran.OutOfTurns got sent) = OutOfTurns got sent
