-- Every answer has at most 4096 bytes. Assumes nothing.
use Rattle.std.proofs.Common.{ℕ, ◌≤◌, Bool, cond, eqb, List, [], length, arith}
use Rattle.codec.specs.declared.bus.CanFrame.{CanFrame}
use Rattle.session.specs.declared.event.Event.{Event}
use Rattle.session.specs.declared.event.Event.TheVariants as event
use Rattle.session.specs.declared.event.Other.{Other}
use Rattle.session.specs.declared.event.Other.TheVariants as other
use Rattle.session.specs.declared.event.Reason.{Reason}
use Rattle.session.specs.declared.event.Reason.TheVariants as reason
use Rattle.station.specs.declared.call.Answer.{Answer}
use Rattle.station.specs.declared.call.Answer.TheVariants as answer
use Rattle.station.specs.declared.call.Call.{Call}
use Rattle.station.specs.declared.call.Call.TheVariants as call
use Rattle.station.specs.declared.call.Replied.{Replied}
use Rattle.station.specs.declared.station.Station.{Station}
use Rattle.station.specs.Calls.{time_of}
use Rattle.station.specs.Stations.{look_in, call_in}
use Rattle.answers.specs.Said.{ok_text}
use Rattle.answers.proofs.Lengths.{told-fits, said_fits, looked-fits}
use Rattle.text.specs.Ascii.{ascii}
use Rattle.text.proofs.TextLengths.{Short, words, none, wider, ◌&◌, either, decimal-short}
use Rattle.replay.specs.Limits.{longest_answer}
use Rattle.replay.specs.Reasons.{wanted_text, reason_text, error_text}
use Rattle.replay.specs.Program.{torn_text}
use Rattle.replay.specs.Events.{answer_text, replied_text, asked, called_text, call_text, other_text, text_after}

-- these bytes, which are at most 100
these : (s : List ℕ) → length s ≤ 100 → Short s 100
these s h = wider (words s) h

one : (c : Bool) (a : List ℕ) {b : List ℕ} → length a ≤ 43 → Short b 43 → Short (cond c a b) 43
one c a h y = either c (record { fits = h }) y

wanted-short : (letter : ℕ) → Short (wanted_text letter) 43
unfolding wanted_text
wanted-short letter =
    one (eqb letter 0x42) _ (omega arith)
    (one (eqb letter 0x48) _ (omega arith)
    (one (eqb letter 0x57) _ (omega arith)
    (one (eqb letter 0x46) _ (omega arith)
    (one (eqb letter 0x44) _ (omega arith)
    (one (eqb letter 0x43) _ (omega arith)
    (one (eqb letter 0x4B) _ (omega arith)
    (one (eqb letter 0x56) _ (omega arith) (one (eqb letter 0x58) _ (omega arith) (words (ascii "a number below 2^64, in decimal or after 0x"))))))))))

reason-short : (r : Reason) → Short (reason_text r) 100
unfolding reason_text
reason-short reason.LineTooLong = these _ (omega arith)
reason-short reason.NoSuchEvent = these _ (omega arith)
reason-short reason.NoSuchCommand = these _ (omega arith)
reason-short (reason.WordCount n) =
    wider (words (ascii "this event has ") & decimal-short 20 n & words (ascii " words, parted by single spaces")) (omega arith)
reason-short (reason.BadWord n letter) =
    wider (words (ascii "word ") & decimal-short 20 n & words (ascii " isn't ") & wanted-short letter) (omega arith)
reason-short reason.LogWords = these _ (omega arith)
reason-short reason.Stamp = these _ (omega arith)
reason-short reason.Direction = these _ (omega arith)
reason-short reason.FrameId = these _ (omega arith)
reason-short reason.FrameData = these _ (omega arith)
reason-short reason.RemoteFrame = these _ (omega arith)
reason-short reason.FdFrame = these _ (omega arith)
reason-short reason.ErrorFrame = these _ (omega arith)
reason-short reason.TornLine = these _ (omega arith)

error-fits : (r : Reason) → Short (error_text r) 107
unfolding error_text
error-fits r = words (ascii "error ") & reason-short r & words (ascii "\n")

replied-by : (a : Answer) (r : Replied) (time : ℕ) → Short (answer_text a r time) 112
replied-by (answer.Told k) r time = wider (told-fits k) (omega arith)
replied-by (answer.Moved s) r time = said_fits s r.frame r.result time
replied-by (answer.Looked k) r time = wider (told-fits k) (omega arith)

called-fits : (st : Station) (c : Call) (f : CanFrame) → Short (called_text st c f) longest_answer
unfolding replied_text
called-fits st c f = wider (replied-by (call_in st (asked c f)).replied.answer (call_in st (asked c f)).replied (time_of c)) (omega arith)

call_fits : (st : Station) (c : Call) (f : CanFrame) → Short (call_text st c f) longest_answer
unfolding call_text
call_fits st (call.Register id host model wait time) f = called-fits st (call.Register id host model wait time) f
call_fits st (call.Start id c time) f = called-fits st (call.Start id c time) f
call_fits st (call.Step id time) f = called-fits st (call.Step id time) f
call_fits st (call.Frame time) f = called-fits st (call.Frame time) f
call_fits st (call.Look id) f = wider (looked-fits (look_in st id)) (omega arith)
call_fits st (call.Remove id time) f = called-fits st (call.Remove id time) f

other_fits : (o : Other) → Short (other_text o) longest_answer
unfolding other_text
other_fits other.Nothing = none
other_fits (other.Error reason) = wider (error-fits reason) (omega arith)
other_fits other.Fresh = wider (words ok_text) (omega arith)

answer-fits : (st : Station) (e : Event) (f : CanFrame) → Short (text_after st e f) longest_answer
unfolding text_after
answer-fits st (event.Call c) f = call_fits st c f
answer-fits st (event.Other o) f = other_fits o

pub fits : (st : Station) (e : Event) (f : CanFrame) → length (text_after st e f) ≤ longest_answer
fits st e f = (answer-fits st e f).fits

pub torn-fits : (kept : ℕ) → length (torn_text kept) ≤ longest_answer
unfolding torn_text
torn-fits kept = torn-short.fits
  where
    torn-short : Short (cond (eqb kept 0) [] (error_text reason.TornLine)) longest_answer
    torn-short = either (eqb kept 0) none (wider (error-fits reason.TornLine) (omega arith))
