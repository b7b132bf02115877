-- What a turn writes is due, and what it leaves is reached by the reads before it, or one more: bytes are heard as they come, and what was answered before stands before their text. Assumes nothing.
use Rattle.std.proofs.Common.{◌≡◌, ℕ, zero, suc, ◌+◌, ◌-◌, ◌%◌, ◌^◌, ◌<◌, ◌≤◌, Bool, true, false, cond, eqb, leb, List, [], ◌∷◌, ◌++◌, length, take, drop, Result, Ok, Err, IfOk, sym, refl, ap, ◌∙◌, subst, true≢false, append_assoc, append-nil, arith, length-append, length-drop, length-take, length-take-le, take_all, drop-drop, leb-false}
use borrow.Author.Tests.{lt-leb}
use Rattle.station.specs.declared.station.Station.{Station}
use Rattle.station.specs.Stations.{new_station}
use Rattle.text.specs.declared.put.Text.{Text}
use Rattle.text.specs.Put.{text_as_bytes}
use Rattle.replay.specs.declared.lines.Pending.{Pending}
use Rattle.replay.specs.declared.lines.Ran.{Ran}
use Rattle.replay.specs.declared.lines.Ran.TheVariants as ran
use Rattle.replay.specs.declared.turns.Left.{Left}
use Rattle.replay.specs.Events.{station_after_line, text_after_line}
use Rattle.replay.specs.Limits.{buffer_size, kept_bytes}
use Rattle.replay.specs.Program.{HeardSoFar, heard, hear, hear_all, Plain, torn_text, answered, program, kept_of, kept_as, hear_piece, hear_pieces, joined, Reached, Due, Follows, AllAnswered, Answered}
use Rattle.replay.specs.Turns.{place_of, is_full, LinesTaken}
use Rattle.replay.proofs.Cutting.{cut-anywhere}
use Rattle.replay.proofs.Hearing.{hear-plain, cut}
use Rattle.replay.proofs.LimitsTied.{kept-fits}

-- ---- what was answered before stands before what is answered now

abbrev behind : List ℕ → HeardSoFar → HeardSoFar
behind told s = heard s.station s.line (told ++ s.text)

behind-byte : (told : List ℕ) (s : HeardSoFar) (b : ℕ) → hear (behind told s) b ≡ behind told (hear s b)
unfolding hear
behind-byte told s b = go (eqb b 10)
  where
    text : List ℕ
    text = text_after_line s.station s.line

    go : (x : Bool)
        → cond x (heard (station_after_line s.station s.line) [] ((told ++ s.text) ++ text_after_line s.station s.line)) (heard s.station (s.line ++ (b ∷ [])) (told ++ s.text))
        ≡ behind told (cond x (heard (station_after_line s.station s.line) [] (s.text ++ text_after_line s.station s.line)) (heard s.station (s.line ++ (b ∷ [])) s.text))
    go true = ap (λ (t : List ℕ). heard (station_after_line s.station s.line) [] t) (append_assoc told s.text (text_after_line s.station s.line))
    go false = refl

behind-all : (told : List ℕ) (s : HeardSoFar) (bytes : List ℕ) → hear_all (behind told s) bytes ≡ behind told (hear_all s bytes)
behind-all told s [] = refl
behind-all told s (b ∷ bytes) = ap (λ (u : HeardSoFar). hear_all u bytes) (behind-byte told s b) ∙ behind-all told (hear s b) bytes

told-before : (st : Station) (told bytes : List ℕ) → hear_all (heard st [] told) bytes ≡ behind told (hear_all (heard st [] []) bytes)
told-before st told bytes = ap (λ (t : List ℕ). hear_all (heard st [] t) bytes) (sym (append-nil told)) ∙ behind-all told (heard st [] []) bytes

-- ---- the lines that were taken

-- the turns that are left, where one was used up and where none was
abbrev less_one : Bool → ℕ → ℕ
less_one used left = cond used (left - 1) left

module _ {N : ℕ} (st st' : Station) (pending : List ℕ) (out : Text N) (c : Left) (got sent left : ℕ) (r : Reached st pending got sent left) (l : LinesTaken st pending st' c out) where
  abbrev text : List ℕ
  text = text_as_bytes out

  abbrev rest : List ℕ
  rest = drop (place_of c) pending

  goes_on : hear_pieces (heard new_station [] []) r.reads ≡ kept_as (hear_all (heard st' [] (r.told ++ text)) rest)
  goes_on = r.heard-is ∙ ap kept_as (told-before st r.told pending ∙ ap (behind r.told) (sym l.rest) ∙ sym (behind-all r.told (heard st' [] text) rest))

  lines-due : Due sent text
  lines-due =
      let more : List ℕ = (hear_all (heard st' [] []) rest).text in
      let line : List ℕ = kept_of (hear_all (heard st' [] []) rest).line in
      record {
        reads = r.reads;
        told = r.told;
        rest = more ++ torn_text (length line);
        sent_is = r.sent_is;
        output-is =
            sym (cut-anywhere r.reads)
            ∙ ap answered (goes_on ∙ ap kept_as (told-before st' (r.told ++ text) rest))
            ∙ append_assoc (r.told ++ text) more (torn_text (length line))
            ∙ append_assoc r.told text (more ++ torn_text (length line));
      }

  -- a full buffer holds bytes
  turns-on : (full : Bool) → is_full c ≡ full → 2 ^ 64 - 1 ≤ less_one full left + (length (joined r.reads) + length (r.told ++ text))
  turns-on true e = rw (length-append r.told text, length-take-le out.«at» out.bytes l.fits) (omega (arith, r.turns, l.no_room e))
  turns-on false e = rw (length-append r.told text) (omega (arith, r.turns))

  lines-on : (sent' : ℕ) → sent' ≡ (sent + length text) % 2 ^ 64 → Reached st' rest got sent' (less_one (is_full c) left)
  lines-on sent' e = record {
    reads = r.reads;
    told = r.told ++ text;
    got-is = r.got-is;
    sent_is = e ∙ rw (length-append r.told text) (omega (arith, r.sent_is));
    heard-is = goes_on;
    turns = turns-on (is_full c) refl;
  }

-- ---- what is kept has no LF, and is short of the buffer

plain-take : (k : ℕ) (l : List ℕ) → Plain l → Plain (take k l)
plain-take zero l p = tt
plain-take (suc k) [] p = tt
plain-take (suc k) (a ∷ l) p = (p.0, plain-take k l p.1)

plain-kept : (l : List ℕ) → Plain l → Plain (kept_of l)
unfolding kept_of
plain-kept l p = go (leb buffer_size (length l))
  where
    go : (x : Bool) → Plain (cond x (take kept_bytes l) l)
    go true = plain-take kept_bytes l p
    go false = p

kept-short : (l : List ℕ) → length (kept_of l) < buffer_size
unfolding kept_of
kept-short l = go (leb buffer_size (length l)) refl
  where
    go : (x : Bool) → leb buffer_size (length l) ≡ x → length (cond x (take kept_bytes l) l) < buffer_size
    go true e = rw (length-take kept_bytes l) (omega (arith, kept-fits))
    go false e = leb-false buffer_size (length l) e

kept-stays : (l : List ℕ) → length l < buffer_size → kept_of l ≡ l
unfolding kept_of
kept-stays l h = rw (lt-leb buffer_size (length l) h)

hears-plain : (st : Station) (told l : List ℕ) → Plain l → hear_all (heard st [] told) l ≡ heard st l told
hears-plain st told l p = ap (λ (bytes : List ℕ). hear_all (heard st [] told) bytes) (sym (append-nil l)) ∙ hear-plain st [] told l [] p

-- ---- one read more

reads_then : (s : HeardSoFar) (reads : List (List ℕ)) (bytes : List ℕ) → hear_pieces s (reads ++ (bytes ∷ [])) ≡ hear_piece (hear_pieces s reads) bytes
reads_then s [] bytes = refl
reads_then s (r ∷ reads) bytes = reads_then (hear_piece s r) reads bytes

joined-then : (reads : List (List ℕ)) (bytes : List ℕ) → joined (reads ++ (bytes ∷ [])) ≡ joined reads ++ bytes
joined-then [] bytes = append-nil bytes
joined-then (r ∷ reads) bytes = ap (λ (l : List ℕ). r ++ l) (joined-then reads bytes) ∙ sym (append_assoc r (joined reads) bytes)

reached-next : (st : Station) (rest pending : List ℕ) (got got' sent left : ℕ) (full more : Bool) → Reached st rest got sent (less_one full left) → (full ≡ false → Plain rest) → Follows full rest got pending got' more → Reached st pending got' sent (less_one more left)
reached-next st rest pending got got' sent left true more r p f =
    record { reads = r.reads; told = r.told; got-is = f.1 ∙ r.got-is; sent_is = r.sent_is; heard-is = r.heard-is ∙ ap (λ (l : List ℕ). kept_as (hear_all (heard st [] r.told) l)) (sym f.0); turns = rw f.2 r.turns }
reached-next st rest pending got got' sent left false more r p f =
    let bytes : List ℕ = f.bytes in
    let kept : List ℕ = kept_of rest in
    record {
      reads = r.reads ++ (bytes ∷ []);
      told = r.told;
      got-is = f.got-is ∙ rw (joined-then r.reads bytes, length-append (joined r.reads) bytes) (omega (arith, r.got-is));
      sent_is = r.sent_is;
      heard-is =
          reads_then (heard new_station [] []) r.reads bytes
          ∙ ap (λ (s : HeardSoFar). hear_piece s bytes) (r.heard-is ∙ ap kept_as (hears-plain st r.told rest (p refl)))
          ∙ ap kept_as (sym (hear-plain st [] r.told kept bytes (plain-kept rest (p refl))) ∙ ap (λ (l : List ℕ). hear_all (heard st [] r.told) l) (sym f.pending-is));
      turns = read-on more refl;
    }
  where
    -- where the input goes on, a byte came
    read-on : (x : Bool) → more ≡ x → 2 ^ 64 - 1 ≤ less_one x left + (length (joined (r.reads ++ (f.bytes ∷ []))) + length r.told)
    read-on true e = rw (joined-then r.reads f.bytes, length-append (joined r.reads) f.bytes) (omega (arith, r.turns, f.goes_on e))
    read-on false e = rw (joined-then r.reads f.bytes, length-append (joined r.reads) f.bytes) (omega (arith, r.turns))

pub reached-first : Reached new_station [] 0 0 (2 ^ 64 - 1)
unfolding kept_of
reached-first = record { reads = []; told = []; got-is = refl; sent_is = refl; heard-is = refl; turns = omega arith }

-- ---- the end of the input

-- what is left there is what was kept
left_over : (rest pending : List ℕ) (got got' : ℕ) (full : Bool) → (full ≡ false → Plain rest) → Follows full rest got pending got' false → Plain pending × (length pending < buffer_size)
left_over before pending got got' true p f = absurd (true≢false (sym f.2))
left_over before pending got got' false p f =
    let e : kept_of before ≡ pending = sym (append-nil (kept_of before)) ∙ ap (λ (l : List ℕ). kept_of before ++ l) (sym (f.ends refl)) ∙ sym f.pending-is in
    (subst Plain e (plain-kept before (p refl)), subst (λ (l : List ℕ). length l < buffer_size) e (kept-short before))

module _ (st : Station) (pending : List ℕ) (got sent left : ℕ) (r : Reached st pending got sent left) (plain : Plain pending) (short : length pending < buffer_size) where
  abbrev torn : List ℕ
  torn = torn_text (length pending)

  output : program (joined r.reads) ≡ r.told ++ torn
  output =
      sym (cut-anywhere r.reads) ∙ ap answered (r.heard-is ∙ ap kept_as (hears-plain st r.told pending plain)) ∙ ap (λ (l : List ℕ). r.told ++ torn_text (length l)) (kept-stays pending short)

  torn-due : Due sent torn
  torn-due = record { reads = r.reads; told = r.told; rest = []; sent_is = r.sent_is; output-is = output ∙ ap (λ (l : List ℕ). r.told ++ l) (sym (append-nil torn)) }

  all-answered : (sent' : ℕ) → sent' ≡ (sent + length torn) % 2 ^ 64 → AllAnswered got sent'
  all-answered sent' e = record { reads = r.reads; got-is = r.got-is; sent_is = e ∙ rw (output, length-append r.told torn) (omega (arith, r.sent_is)) }

-- ---- a turn of the loop: the bytes from a place up to n are answered

module _ {N : ℕ} (st st' : Station) (xs : List ℕ) (out : Text N) (c : Left) (from n got sent left : ℕ) (b : from ≤ n) (w : n ≤ length xs) (r : Reached st (drop from (take n xs)) got sent left)
    (l : LinesTaken st (take (n - from) (drop from xs)) st' c out) where
  abbrev pending : List ℕ
  pending = drop from (take n xs)

  pending-length : length pending ≡ n - from
  pending-length = simp (length-drop, length-take) (omega arith)

  lent : take (n - from) (drop from xs) ≡ pending
  lent = sym (cut from (n - from) n xs (omega arith)) ∙ take_all (n - from) pending (omega (arith, pending-length))

  taken : LinesTaken st pending st' c out
  taken = subst (λ (bytes : List ℕ). LinesTaken st bytes st' c out) lent l

  pub turn-due : Due sent (text_as_bytes out)
  turn-due = lines-due st st' pending out c got sent left r taken

  turn_on : (sent' : ℕ) → sent' ≡ (sent + length (text_as_bytes out)) % 2 ^ 64 → Reached st' (drop (from + place_of c) (take n xs)) got sent' (less_one (is_full c) left)
  turn_on sent' e = subst (λ (bytes : List ℕ). Reached st' bytes got sent' (less_one (is_full c) left)) (drop-drop (place_of c) from (take n xs)) (lines-on st st' pending out c got sent left r taken sent' e)

  turn_last : is_full c ≡ false → Plain (drop (from + place_of c) (take n xs))
  turn_last f = subst Plain (drop-drop (place_of c) from (take n xs)) (taken.last f)

-- ---- and what comes after it: the next bytes, where the input goes on, or its end

module _ {N : ℕ} (st st' : Station) (xs xs' : List ℕ) (out : Text N) (c : Left) (p q : Pending) (sent sent' left : ℕ) (more : Bool) (b : p.from ≤ p.n) (w : p.n ≤ length xs) (r : Reached st (drop p.from (take p.n xs)) p.got sent left)
    (l : LinesTaken st (take (p.n - p.from) (drop p.from xs)) st' c out) (s : sent' ≡ (sent + length (text_as_bytes out)) % 2 ^ 64) (f : Follows (is_full c) (drop (p.from + place_of c) (take p.n xs)) p.got (drop q.from (take q.n xs')) q.got more) where
  abbrev rest_then : List ℕ
  rest_then = drop (p.from + place_of c) (take p.n xs)

  abbrev pending_then : List ℕ
  pending_then = drop q.from (take q.n xs')

  here : Reached st' rest_then p.got sent' (less_one (is_full c) left)
  here = turn_on st st' xs out c p.from p.n p.got sent left b w r l sent' s

  plain : is_full c ≡ false → Plain rest_then
  plain = turn_last st st' xs out c p.from p.n p.got sent left b w r l

  then-reached : Reached st' pending_then q.got sent' (less_one more left)
  then-reached = reached-next st' rest_then pending_then p.got q.got sent' left (is_full c) more here plain f

  pub turns-again : (left' : ℕ) → left' ≡ left - 1 → more ≡ true → Reached st' pending_then q.got sent' left'
  turns-again left' k e = rw k (subst (λ (m : Bool). Reached st' pending_then q.got sent' (less_one m left)) e then-reached)

  module _ (e : more ≡ false) (w' : q.n ≤ length xs') where
    kept : Plain pending_then × (length pending_then < buffer_size)
    kept = left_over rest_then pending_then p.got q.got (is_full c) plain (subst (λ (m : Bool). Follows (is_full c) rest_then p.got pending_then q.got m) e f)

    is : length pending_then ≡ q.n - q.from
    is = simp (length-drop, length-take) (omega arith)

    pub end-due : Due sent' (torn_text (q.n - q.from))
    end-due = subst (λ (k : ℕ). Due sent' (torn_text k)) is (torn-due st' pending_then q.got sent' (less_one more left) then-reached kept.0 kept.1)

    pub end-answered : AllAnswered q.got ((sent' + length (torn_text (q.n - q.from))) % 2 ^ 64)
    end-answered =
        subst (λ (k : ℕ). AllAnswered q.got ((sent' + length (torn_text k)) % 2 ^ 64)) is (all-answered st' pending_then q.got sent' (less_one more left) then-reached kept.0 kept.1 _ refl)

-- a run that ends well answered all
pub all_of : {E : Type 0} (r : Result Ran E) (got sent : ℕ) → IfOk r (λ x. x ≡ ran.All got sent) → AllAnswered got sent → IfOk r Answered
all_of (Ok x) got sent e a = subst Answered (sym e) a
all_of (Err f) got sent e a = tt
