-- What the lines of a read leave, and what comes after them. Definitions only.
use Rattle.std.specs.Prelude.{◌≡◌, ℕ, ◌<◌, ◌≤◌, Bool, true, false, List, [], length, drop}
use Rattle.text.specs.declared.put.Text.{Text}
use Rattle.text.specs.Put.{text_as_bytes}
use Rattle.station.specs.declared.station.Station.{Station}
use Rattle.replay.specs.declared.lines.Next.{Next}
use Rattle.replay.specs.declared.lines.Next.TheVariants as next
use Rattle.replay.specs.declared.lines.Pending.{Pending}
use Rattle.replay.specs.declared.turns.Left.{Left}
use Rattle.replay.specs.declared.turns.Left.TheVariants as left
use Rattle.replay.specs.Limits.{output_room}
use Rattle.replay.specs.Program.{heard, hear_all, Plain}

-- where what is left begins
abbrev pub place_of : Left → ℕ
place_of (left.Half k) = k
place_of (left.Lines k) = k

-- whether lines are left
abbrev pub is_full : Left → Bool
is_full (left.Half k) = false
is_full (left.Lines k) = true

-- Lines that end among the bytes were answered, in order, none skipped and none twice: their text is all that stands in the buffer, and
-- what is still to be heard, after them, is all of the bytes heard. Where there is still room, that is no whole line
pub record LinesTaken {N : ℕ} (before : Station) (bytes : List ℕ) (after : Station) (l : Left) (out : Text N) : Type 0 where
  pub begins : place_of l ≤ length bytes
  pub fits : out.«at» ≤ length out.bytes
  pub rest : hear_all (heard after [] (text_as_bytes out)) (drop (place_of l) bytes) ≡ hear_all (heard before [] []) bytes
  pub last : is_full l ≡ false → Plain (drop (place_of l) bytes)
  pub no_room : is_full l ≡ true → output_room < out.«at»

-- the bytes that are there
abbrev pub pending_of : Next → Pending
pending_of (next.More p) = p
pending_of (next.End p) = p

-- whether the input goes on
abbrev pub goes_on : Next → Bool
goes_on (next.More p) = true
goes_on (next.End p) = false
