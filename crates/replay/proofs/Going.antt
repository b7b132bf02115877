-- What holds at each line of a read: what is still to be heard, after what was answered, is the whole read heard. Assumes nothing.
use Rattle.std.proofs.Common.{◌≡◌, ℕ, suc, ◌+◌, ◌<◌, ◌≤◌, List, [], ◌++◌, length, take, drop, Some, None, sym, ◌∙◌, true≢false, arith, length-drop, drop-drop}
use Rattle.text.specs.Search.{index_of, position_of}
use Rattle.motor.specs.declared.motor.Motor.{Motor}
use Rattle.station.specs.lent.Lent.{station_of}
use Rattle.text.specs.declared.put.Text.{Text}
use Rattle.text.specs.Put.{put, text_as_bytes}
use Rattle.text.proofs.Putting.{puts, text-put}
use Rattle.text.proofs.Reading.{place-found, place-none}
use Rattle.replay.specs.declared.turns.Left.TheVariants as left
use Rattle.replay.specs.Events.{line_says, text_after_line}
use Rattle.replay.specs.Limits.{buffer_size, output_room}
use Rattle.replay.specs.Program.{heard, hear_all}
use Rattle.replay.specs.Turns.{LinesTaken}
use Rattle.replay.proofs.Fits.{fits}
use Rattle.replay.proofs.Hearing.{hear-line, no-lf}
use Rattle.replay.proofs.LimitsTied.{answer-has-room}
use Rattle.replay.proofs.Turning.{Went}

-- after some lines of xs: the places and the output at the first line and here, and where the next line begins
pub record Going {N : ℕ} (h₀ : List Motor) (xs : List ℕ) (h : List Motor) (from : ℕ) (out : Text N) : Type 0 where
  pub begins : from ≤ length xs
  pub buffer : length out.bytes ≡ buffer_size
  pub fits : out.«at» ≤ buffer_size
  pub same : hear_all (heard (station_of h) [] (text_as_bytes out)) (drop from xs) ≡ hear_all (heard (station_of h₀) [] []) xs

pub begins-with : {N : ℕ} (h : List Motor) (xs : List ℕ) (out : Text N) → length out.bytes ≡ buffer_size → out.«at» ≡ 0 → Going h xs h 0 out
begins-with h xs out size e = record { begins = omega arith; buffer = size; fits = omega (arith, e); same = rw e }

module _ {N : ℕ} (h₀ : List Motor) (xs : List ℕ) (h : List Motor) (from : ℕ) (ys : Text N) (g : Going h₀ xs h from ys) where
  abbrev rest : List ℕ
  rest = drop from xs

  abbrev k : ℕ
  k = index_of 10 rest

  -- an answer is put whole
  whole : (line : List ℕ) → ys.«at» ≤ output_room → text_as_bytes (put ys (text_after_line (station_of h) line)) ≡ text_as_bytes ys ++ text_after_line (station_of h) line
  whole line room = text-put ys (text_after_line (station_of h) line) (omega (arith, room, g.buffer, answer-has-room, fits (station_of h) (line_says line).event (line_says line).frame))

  pub keeps : (h' : List Motor) (zs : Text N) (end : ℕ) → position_of 10 rest ≡ Some end → ys.«at» ≤ output_room → Went h (take end rest) ys h' zs → Going h₀ xs h' (from + (end + 1)) zs
  keeps h' zs end p room x =
      let f = place-found 10 rest end p in
      let more : from + (end + 1) ≡ from + suc k = omega (arith, f.0) in
      let placed = puts ys (text_after_line (station_of h) (take end rest)) in
      record {
        begins = omega (arith, f.1, length-drop from xs);
        buffer = rw x.1 (placed.same ∙ g.buffer);
        fits = rw x.1 (omega (arith, placed.next, g.buffer, g.fits));
        same = rw (more, x.0, x.1, whole (take end rest) room, f.0, ← drop-drop (suc k) from xs) (sym (hear-line (station_of h) (text_as_bytes ys) rest (omega (arith, f.0, f.1))) ∙ g.same);
      }

  pub ends-half : position_of 10 rest ≡ None → LinesTaken (station_of h₀) xs (station_of h) (left.Half from) ys
  ends-half p = record {
    begins = g.begins;
    fits = omega (arith, g.fits, g.buffer);
    rest = g.same;
    last = λ _. no-lf rest (omega (arith, place-none 10 rest p));
    no_room = λ e. absurd (true≢false (sym e));
  }

  pub ends-full : output_room < ys.«at» → LinesTaken (station_of h₀) xs (station_of h) (left.Lines from) ys
  ends-full full = record {
    begins = g.begins;
    fits = omega (arith, g.fits, g.buffer);
    rest = g.same;
    last = λ e. absurd (true≢false e);
    no_room = λ _. full;
  }
