-- The output is the same however the input is cut into reads: what is kept of a line is heard with what follows, and a line of which only the first bytes are kept is too long either way. Assumes nothing.
use Rattle.std.proofs.Common.{◌≡◌, ℕ, ◌+◌, ◌-◌, ◌<◌, ◌≤◌, Bool, true, false, cond, eqb, leb, ◌⊎◌, List, [], ◌∷◌, ◌++◌, length, get_or, take, sym, refl, ap, ◌∙◌, subst, inl, inr, arith, length-append, length-take-le, get_or-take, lt-ltb, ne_eqb, leb-true}
use lib.ListN.{get_or-append}
use Rattle.session.specs.declared.event.Event.TheVariants as event
use Rattle.session.specs.declared.event.Line.{Line}
use Rattle.session.specs.declared.event.Other.TheVariants as other
use Rattle.session.specs.declared.event.Reason.TheVariants as reason
use Rattle.session.specs.Events.{bare, bad}
use Rattle.session.specs.Limits.{longest_line}
use Rattle.session.specs.Lines.{shown_in, read_line, said_in}
use Rattle.station.specs.declared.station.Station.{Station}
use Rattle.station.specs.Stations.{new_station}
use Rattle.replay.specs.Events.{station_after, text_after, shown, line_says, station_after_line, text_after_line}
use Rattle.replay.specs.Limits.{buffer_size, kept_bytes}
use Rattle.replay.specs.Program.{HeardSoFar, heard, hear, hear_all, torn_text, program, kept_of, hear_piece, hear_pieces, joined, program_of}
use Rattle.replay.proofs.LimitsTied.{kept-is-too-long, kept-fits}

-- ---- a line that is too long, with its CR and without

abbrev Long : List ℕ → Type 0
Long l = longest_line + 1 < length l

shown-long : (l : List ℕ) → Long l → longest_line < shown_in l (length l) × (shown_in l (length l) ≤ length l)
shown-long l h = rw (ne_eqb (length l) 0 (λ e. omega (arith, e))) (go (eqb (get_or l (length l - 1) 0) 0x0D))
  where
    go : (x : Bool) → (longest_line < cond x (length l - 1) (length l)) × (cond x (length l - 1) (length l) ≤ length l)
    go true = (omega arith, omega arith)
    go false = (omega arith, omega arith)

-- what such a line says, by its first byte
abbrev too_long : ℕ → Line
too_long b = cond (eqb b 0x23) (bare (event.Other other.Nothing)) (bad reason.LineTooLong)

reads-long : (line : List ℕ) → longest_line < length line → read_line line ≡ too_long (get_or line 0 0)
unfolding read_line said_in
reads-long line h = rw (ne_eqb (length line) 0 (λ e. omega (arith, e)), lt-ltb longest_line (length line) h)

-- only whether it is a comment is looked at
says-long : (l : List ℕ) → Long l → line_says l ≡ too_long (get_or l 0 0)
unfolding line_says
says-long l h =
    let n : ℕ = shown_in l (length l) in
    let s = shown-long l h in
    let long : longest_line < length (shown l) = rw (length-take-le n l s.1) s.0 in
    let first : get_or (shown l) 0 0 ≡ get_or l 0 0 = get_or-take n l 0 0 (omega (arith, s.0)) in
    reads-long (shown l) long ∙ ap too_long first

-- ---- lines that are answered alike

abbrev Same : List ℕ → List ℕ → Type 0
Same a b = (a ≡ b) ⊎ (Long a × Long b × (get_or a 0 0 ≡ get_or b 0 0))

same-says : (a b : List ℕ) → Same a b → line_says a ≡ line_says b
same-says a b (inl e) = ap line_says e
same-says a b (inr l) =
    says-long a l.0 ∙ ap too_long l.2 ∙ sym (says-long b l.1)

longer : (a : List ℕ) (b : ℕ) → Long a → Long (a ++ (b ∷ []))
longer a b h = rw (length-append a (b ∷ [])) (omega arith)

first-stays : (a : List ℕ) (b : ℕ) → Long a → get_or (a ++ (b ∷ [])) 0 0 ≡ get_or a 0 0
first-stays a b h = get_or-append a (b ∷ []) 0 0 (omega arith)

same_then : (a b : List ℕ) (x : ℕ) → Same a b → Same (a ++ (x ∷ [])) (b ++ (x ∷ []))
same_then a b x (inl e) = inl (ap (λ (l : List ℕ). l ++ (x ∷ [])) e)
same_then a b x (inr l) = inr (longer a x l.0, longer b x l.1, first-stays a x l.0 ∙ l.2 ∙ sym (first-stays b x l.1))

-- what is kept of a line is answered as the line is
same_kept : (a : List ℕ) → Same (kept_of a) a
unfolding kept_of
same_kept a = go (leb buffer_size (length a)) refl
  where
    go : (x : Bool) → leb buffer_size (length a) ≡ x → Same (cond x (take kept_bytes a) a) a
    go true e =
        let h : buffer_size ≤ length a = leb-true buffer_size (length a) e in
        inr (rw (length-take-le kept_bytes a (omega (arith, h, kept-fits))) (omega (arith, kept-is-too-long)), omega (arith, h), get_or-take kept_bytes a 0 0 (omega arith))
    go false e = inl refl

same-trans : (a b c : List ℕ) → Same a b → Same b c → Same a c
same-trans a b c (inl e) y = subst (λ (l : List ℕ). Same l c) (sym e) y
same-trans a b c (inr l) (inl e) = subst (λ (m : List ℕ). Same a m) e (inr l)
same-trans a b c (inr l) (inr m) = inr (l.0, m.1, l.2 ∙ m.2)

-- ---- what is heard

record Like (s t : HeardSoFar) : Type 0 where
  station-is : s.station ≡ t.station
  line-is : Same s.line t.line
  text-is : s.text ≡ t.text

like-byte : (s t : HeardSoFar) (b : ℕ) → Like s t → Like (hear s b) (hear t b)
unfolding hear
like-byte s t b x = go (eqb b 10)
  where
    says : line_says s.line ≡ line_says t.line
    says = same-says s.line t.line x.line-is

    station-after : station_after_line s.station s.line ≡ station_after_line t.station t.line
    station-after = ap (λ (l : Line). station_after s.station l.event l.frame) says ∙ ap (λ (st : Station). station_after_line st t.line) x.station-is

    text-after : text_after_line s.station s.line ≡ text_after_line t.station t.line
    text-after = ap (λ (l : Line). text_after s.station l.event l.frame) says ∙ ap (λ (st : Station). text_after_line st t.line) x.station-is

    go : (c : Bool)
        → Like (cond c (heard (station_after_line s.station s.line) [] (s.text ++ text_after_line s.station s.line)) (heard s.station (s.line ++ (b ∷ [])) s.text))
        (cond c (heard (station_after_line t.station t.line) [] (t.text ++ text_after_line t.station t.line)) (heard t.station (t.line ++ (b ∷ [])) t.text))
    go true = record { station-is = station-after; line-is = inl refl; text-is = ap (λ (l : List ℕ). l ++ text_after_line s.station s.line) x.text-is ∙ ap (λ (l : List ℕ). t.text ++ l) text-after }
    go false = record { station-is = x.station-is; line-is = same_then s.line t.line b x.line-is; text-is = x.text-is }

like-all : (s t : HeardSoFar) (bytes : List ℕ) → Like s t → Like (hear_all s bytes) (hear_all t bytes)
like-all s t [] x = x
like-all s t (b ∷ bytes) x = like-all (hear s b) (hear t b) bytes (like-byte s t b x)

like-read : (s t : HeardSoFar) (bytes : List ℕ) → Like s t → Like (hear_piece s bytes) (hear_all t bytes)
like-read s t bytes x =
    let y = like-all s t bytes x in
    record { station-is = y.station-is; line-is = same-trans (kept_of (hear_all s bytes).line) (hear_all s bytes).line (hear_all t bytes).line (same_kept (hear_all s bytes).line) y.line-is; text-is = y.text-is }

all_then : (s : HeardSoFar) (a b : List ℕ) → hear_all s (a ++ b) ≡ hear_all (hear_all s a) b
all_then s [] b = refl
all_then s (x ∷ a) b = all_then (hear s x) a b

like-reads : (s t : HeardSoFar) (reads : List (List ℕ)) → Like s t → Like (hear_pieces s reads) (hear_all t (joined reads))
like-reads s t [] x = x
like-reads s t (bytes ∷ reads) x =
    subst (λ (u : HeardSoFar). Like (hear_pieces (hear_piece s bytes) reads) u) (sym (all_then t bytes (joined reads))) (like-reads (hear_piece s bytes) (hear_all t bytes) reads (like-read s t bytes x))

torn-same : (a b : List ℕ) → Same a b → torn_text (length a) ≡ torn_text (length b)
unfolding torn_text
torn-same a b (inl e) = ap (λ (l : List ℕ). torn_text (length l)) e
torn-same a b (inr l) = rw (ne_eqb (length a) 0 (λ e. omega (arith, e, l.0)), ne_eqb (length b) 0 (λ e. omega (arith, e, l.1)))

pub cut-anywhere : (reads : List (List ℕ)) → program_of reads ≡ program (joined reads)
cut-anywhere reads =
    let s : HeardSoFar = heard new_station [] [] in
    let x = like-reads s s reads (record { station-is = refl; line-is = inl refl; text-is = refl }) in
    ap (λ (l : List ℕ). l ++ torn_text (length (hear_pieces s reads).line)) x.text-is ∙ ap (λ (l : List ℕ). (hear_all s (joined reads)).text ++ l) (torn-same (hear_pieces s reads).line (hear_all s (joined reads)).line x.line-is)
