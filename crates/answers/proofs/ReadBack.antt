-- What is printed is read back by session: a command's name as its row, a frame as that frame. Assumes nothing.
use Rattle.std.proofs.Common.{ℕ, zero, suc, ◌+◌, ◌*◌, ◌-◌, ◌/◌, ◌%◌, ◌^◌, ◌≤◌, ◌<◌, ◌≡◌, refl, sym, ap, ◌∙◌, true, List, [], ◌∷◌, ◌++◌, map, length, take, drop, get_or, append-nil, append_assoc, length-append, Some, Ok, arith, le-ltb, lt-ltb}
use Rattle.std.proofs.lemmas.List.FromFn.{get_or-map-range_with_len}
use Rattle.std.specs.List.{range_with_len}
use lib.Seq.{take_at, drop_at, get_or_at}
use borrow.Author.Tests.{ne_eqb}
use borrow.Enum.Match.{tag_small}
use denote.Enum.Declared.{variants}
use Rattle.codec.specs.declared.bus.CanFrame.{CanFrame}
use Rattle.motor.specs.declared.engine.command.Command.{Command}
use Rattle.motor.specs.contracts.engine.command.Command.{the_type}
use Rattle.text.specs.Ascii.{ascii}
use Rattle.text.specs.Numbers.{digits_in, read_from}
use Rattle.text.specs.Put.{glyph_of, digits_text, decimal_in}
use Rattle.text.specs.Search.{index_of, index_after, position_of}
use Rattle.text.specs.Words.{word_count, word_at, same_bytes}
use Rattle.text.proofs.Reading.{some, place-is, words-cons}
use Rattle.text.proofs.ReadBack.{glyph-range, read-glyph, read-digits, digits-length, digits-back, decimal-some, decimal-back, index-past, free-append, digits-free, decimal-free, word_first, word-later, word-only, words-past}
use Rattle.session.specs.declared.event.Line.{Line}
use Rattle.session.specs.Events.{payload, can_frame, hands}
use Rattle.session.specs.Table.{commands, row_of, row_from}
use Rattle.session.specs.Commands.{command_of, started_by, started}
use Rattle.session.specs.Heard.{milliseconds_of, stamp_in, stamp_of, shifted_by, data_of, data_frame, logged_frame, heard_in}
use Rattle.session.specs.Lines.{said_in, read_line}
use Rattle.answers.specs.Values.{payload_number}
use Rattle.answers.specs.Names.{command_place, command_text}
use Rattle.answers.specs.Said.{frame_line}
use Rattle.answers.proofs.Lengths.{frame-short}

-- ---- commands

abbrev rows : ℕ
rows = length (variants the_type)

-- what holds of each row at once, for row k
at_row : {X : Type 0} (f g : ℕ → X) → map f (range_with_len 0 rows) ≡ map g (range_with_len 0 rows) → (k : ℕ) → k < rows → f k ≡ g k
at_row f g e k h =
    sym (get_or-map-range_with_len f 0 rows k k (f k) h (omega arith))
    ∙ ap (λ l. get_or l k (f k)) e
    ∙ get_or-map-range_with_len g 0 rows k k (f k) h (omega arith)

-- the command that a row starts is of this row
each-kept : (v : List ℕ) → map (λ (k : ℕ). command_place (command_of k v)) (range_with_len 0 rows) ≡ map (λ (k : ℕ). k) (range_with_len 0 rows)
unfolding command_of
each-kept v = refl

row-kept : (c : Command) (v : List ℕ) → command_place (command_of (command_place c) v) ≡ command_place c
row-kept c v = at_row (λ (k : ℕ). command_place (command_of k v)) (λ (k : ℕ). k) (each-kept v) (command_place c) (tag_small the_type c)

-- and is found by its name, the first word
each-found : map (λ (k : ℕ). row_of commands (word_at commands (2 * k))) (range_with_len 0 rows) ≡ map (λ (k : ℕ). Some k) (range_with_len 0 rows)
unfolding row_of row_from word_at same_bytes index_of index_after
each-found = refl

row_found : (c : Command) → row_of commands (command_text c) ≡ Some (command_place c)
row_found c = at_row (λ (k : ℕ). row_of commands (word_at commands (2 * k))) (λ (k : ℕ). Some k) each-found (command_place c) (tag_small the_type c)

-- a start with the name that is printed for a command is read as its row says
pub command-read-back : (c : Command) (line : List ℕ) → word_at line 3 ≡ command_text c
    → started line ≡ started_by line (word_at commands (2 * command_place c + 1)) (command_place c)
unfolding started
command-read-back c line e = rw (e, row_found c)

-- and the command that it starts is printed by the same name
pub same_name : (c : Command) (v : List ℕ) → command_text (command_of (command_place c) v) ≡ command_text c
same_name c v = rw (row-kept c v)

-- ---- frames: the stamp

abbrev stamp_word : List ℕ → List ℕ → List ℕ
stamp_word seconds micros = 40 ∷ (seconds ++ 46 ∷ (micros ++ 41 ∷ []))

stamp-at : (w : List ℕ) (n : ℕ) (seconds micros : List ℕ) → 10 ≤ n → get_or w (n - 1) 0 ≡ 41 → get_or w (n - 8) 0 ≡ 46
    → take (n - 9) (drop 1 w) ≡ seconds → take 6 (drop (n - 7) w) ≡ micros → stamp_in w n ≡ milliseconds_of (digits_in 10 seconds) (digits_in 10 micros)
unfolding stamp_in
stamp-at w n seconds micros h a b c d = rw (le-ltb _ _ h, a, b, c, d)

stamp-word : (seconds micros : List ℕ) → 0 < length seconds → length micros ≡ 6
    → stamp_of (stamp_word seconds micros) ≡ milliseconds_of (digits_in 10 seconds) (digits_in 10 micros)
stamp-word s m h six =
    let n : length (stamp_word s m) ≡ length s + 9 = simp length-append (omega arith) in
    let e : stamp_word s m ≡ (40 ∷ (s ++ 46 ∷ m)) ++ 41 ∷ [] = simp append_assoc in
    let f : stamp_word s m ≡ (40 ∷ (s ++ 46 ∷ [])) ++ (m ++ 41 ∷ []) = simp append_assoc in
    let close : get_or (stamp_word s m) (length s + 9 - 1) 0 ≡ 41
    = ap (λ (l : List ℕ). get_or l (length s + 9 - 1) 0) e ∙ get_or_at (40 ∷ (s ++ 46 ∷ m)) 41 [] 0 (length s + 9 - 1) (simp length-append (omega arith)) in
    let point : get_or (stamp_word s m) (length s + 9 - 8) 0 ≡ 46 = get_or_at (40 ∷ s) 46 (m ++ 41 ∷ []) 0 (length s + 9 - 8) (omega arith) in
    let before : take (length s + 9 - 9) (drop 1 (stamp_word s m)) ≡ s = take_at s (46 ∷ (m ++ 41 ∷ [])) (length s + 9 - 9) (omega arith) in
    let after : take 6 (drop (length s + 9 - 7) (stamp_word s m)) ≡ m
    = ap (λ (l : List ℕ). take 6 (drop (length s + 9 - 7) l)) f
    ∙ ap (λ (l : List ℕ). take 6 l) (drop_at (40 ∷ (s ++ 46 ∷ [])) (m ++ 41 ∷ []) (length s + 9 - 7) (simp length-append (omega arith)))
    ∙ take_at m (41 ∷ []) 6 six in
    ap (λ (k : ℕ). stamp_in (stamp_word s m) k) n ∙ stamp-at (stamp_word s m) (length s + 9) s m (omega arith) close point before after

abbrev micros_of : ℕ → List ℕ
micros_of millis = digits_text 10 3 millis ++ 48 ∷ 48 ∷ 48 ∷ []

micros-back : (n : ℕ) → n < 1000 → digits_in 10 (micros_of n) ≡ Some (n * 1000)
unfolding read_from glyph_of
micros-back n h =
    let z : ((n * 10 + 0) * 10 + 0) * 10 + 0 ≡ n * 1000 = omega arith in
    some 10 (micros_of n) (rw length-append (omega arith))
    ∙ read-digits 10 (omega arith) (omega arith) 3 n (48 ∷ 48 ∷ 48 ∷ []) h (omega arith)
    ∙ read-glyph 10 n 0 (48 ∷ 48 ∷ []) (omega arith) (omega arith) (omega arith)
    ∙ read-glyph 10 (n * 10 + 0) 0 (48 ∷ []) (omega arith) (omega arith) (omega arith)
    ∙ read-glyph 10 ((n * 10 + 0) * 10 + 0) 0 [] (omega arith) (omega arith) (omega arith)
    ∙ rw z

abbrev stamp_of_time : ℕ → List ℕ
stamp_of_time time = stamp_word (decimal_in 20 (time / 1000)) (micros_of (time % 1000))

stamp-back : (time : ℕ) → time < 18446744073709551616 → stamp_of (stamp_of_time time) ≡ Some time
unfolding milliseconds_of
stamp-back time h =
    let t : time / 1000 * 1000 + time % 1000 * 1000 / 1000 ≡ time = omega arith in
    stamp-word (decimal_in 20 (time / 1000)) (micros_of (time % 1000)) (decimal-some 19 (time / 1000)) (rw (length-append, digits-length))
    ∙ rw (decimal-back 19 (time / 1000) (omega arith) (omega arith), micros-back (time % 1000) (omega arith), t, lt-ltb _ _ h)

stamp-free : (time : ℕ) → index_of 32 (stamp_of_time time) ≡ length (stamp_of_time time)
unfolding index_of index_after
stamp-free time =
    free-append 32 (40 ∷ decimal_in 20 (time / 1000)) (46 ∷ (micros_of (time % 1000) ++ 41 ∷ [])) (ap suc (decimal-free 32 20 (time / 1000) (omega arith)))
    (ap suc (free-append 32 (micros_of (time % 1000)) (41 ∷ []) (free-append 32 (digits_text 10 3 (time % 1000)) (48 ∷ 48 ∷ 48 ∷ []) (digits-free 32 10 3 (time % 1000) (omega arith) (omega arith) (omega arith)) refl) refl))

-- ---- frames: ID#DATA

abbrev frame_word : ℕ → ℕ → List ℕ
frame_word id n = digits_text 16 8 id ++ 35 ∷ digits_text 16 16 n

data-at : (d : List ℕ) (id n : ℕ) → length d ≡ 16 → 48 ≤ get_or d 0 0 → get_or d 0 0 ≤ 70 → digits_in 16 d ≡ Some n
    → data_frame d id true ≡ Ok (can_frame id n true 8 true)
unfolding data_frame data_of shifted_by
data-at d id n l a b r =
    rw (l, ne_eqb (get_or d 0 0) 0x52 (λ e. omega arith), ne_eqb (get_or d 0 0) 0x23 (λ e. omega arith), r)

frame_at : (w h d : List ℕ) (id n : ℕ) → index_of 0x23 w ≡ 8 → 8 < length w → take 8 w ≡ h → drop 9 w ≡ d
    → length h ≡ 8 → digits_in 16 h ≡ Some id → id ≤ 0x1FFF_FFFF → data_frame d id true ≡ Ok (can_frame id n true 8 true)
    → logged_frame w ≡ Ok (can_frame id n true 8 true)
unfolding logged_frame
frame_at w h d id n i l t r k v s e =
    let p : position_of 0x23 w ≡ Some 8 = place-is 0x23 w ∙ rw (i, lt-ltb 8 (length w) l) in
    let m : id % 2 ^ 32 ≡ id = omega arith in
    rw (p, t, r, k, v, le-ltb _ _ s, m) e

first-digit : (n : ℕ) → (48 ≤ get_or (digits_text 16 16 n) 0 0) × (get_or (digits_text 16 16 n) 0 0 ≤ 70)
unfolding digits_text
first-digit n = glyph-range _ (omega arith)

frame_back : (id n : ℕ) → id ≤ 0x1FFF_FFFF → n < 18446744073709551616 → logged_frame (frame_word id n) ≡ Ok (can_frame id n true 8 true)
unfolding index_of index_after
frame_back id n s w =
    let a = digits_text 16 8 id in
    let d = digits_text 16 16 n in
    let i : index_of 0x23 (frame_word id n) ≡ 8
    = index-past 0x23 a (35 ∷ d) (digits-free 0x23 16 8 id (omega arith) (omega arith) (omega arith)) ∙ rw digits-length in
    let l : 8 < length (frame_word id n) = rw (length-append, digits-length 16 8 id) (omega arith) in
    let e : frame_word id n ≡ (a ++ 35 ∷ []) ++ d = simp append_assoc in
    let g : drop 9 (frame_word id n) ≡ d
    = ap (λ (l : List ℕ). drop 9 l) e ∙ drop_at (a ++ 35 ∷ []) d 9 (rw (length-append, digits-length)) in
    frame_at (frame_word id n) a d id n i l (take_at a (35 ∷ d) 8 (digits-length 16 8 id)) g (digits-length 16 8 id)
    (digits-back 16 8 id (omega arith) (omega arith) (omega arith) (omega arith) (omega arith)) s
    (data-at d id n (digits-length 16 16 n) (first-digit n).0 (first-digit n).1 (digits-back 16 16 n (omega arith) (omega arith) (omega arith) (omega arith) w))

frame-free : (id n : ℕ) → index_of 32 (frame_word id n) ≡ length (frame_word id n)
unfolding index_of index_after
frame-free id n =
    free-append 32 (digits_text 16 8 id) (35 ∷ digits_text 16 16 n) (digits-free 32 16 8 id (omega arith) (omega arith) (omega arith))
    (ap suc (digits-free 32 16 16 n (omega arith) (omega arith) (omega arith)))

-- ---- frames: the line

heard-at : (line w f : List ℕ) (x : CanFrame) (time : ℕ) → word_count line ≡ 3 → length (word_at line 1) ≡ 4 → word_at line 0 ≡ w → word_at line 2 ≡ f
    → stamp_of w ≡ Some time → logged_frame f ≡ Ok x → heard_in line ≡ Ok (hands x time)
unfolding heard_in
heard-at line w f x time n l a b s r = rw (n, l, a, b, s, r)

abbrev log_line : List ℕ → List ℕ → List ℕ
log_line w f = w ++ 32 ∷ (ascii "can0" ++ 32 ∷ f)

heard-back : (w f : List ℕ) (x : CanFrame) (time : ℕ) → index_of 32 w ≡ length w → index_of 32 f ≡ length f → stamp_of w ≡ Some time → logged_frame f ≡ Ok x
    → heard_in (log_line w f) ≡ Ok (hands x time)
unfolding word_count word_at index_of index_after
heard-back w f x time a b s r =
    let one : word_count f ≡ 1 = rw append-nil at (words-past f b []) in
    heard-at (log_line w f) w f x time
    (words-past w a (32 ∷ (ascii "can0" ++ 32 ∷ f)) ∙ rw (words-cons 32 (ascii "can0" ++ 32 ∷ f), words-past (ascii "can0") refl (32 ∷ f), words-cons 32 f, one))
    (ap (λ (l : List ℕ). length l) (word-later w a (ascii "can0" ++ 32 ∷ f) 0))
    (word_first w a (ascii "can0" ++ 32 ∷ f))
    (word-later w a (ascii "can0" ++ 32 ∷ f) 1 ∙ word-later (ascii "can0") refl f 0 ∙ word-only f b)
    s r

log-line : (line : List ℕ) (l : Line) → (length line ≡ 0 → ⊥) → get_or line 0 0 ≡ 40 → length line ≤ 4096 → heard_in line ≡ Ok l → read_line line ≡ l
unfolding read_line said_in
log-line line l z g h e = rw (ne_eqb _ _ z, g, le-ltb _ _ h, e)

payload-below : (d : List ℕ) → ((i : ℕ) → get_or d i 0 < 256) → payload_number d < 18446744073709551616
unfolding payload_number
payload-below d h = omega (arith, h 0, h 1, h 2, h 3, h 4, h 5, h 6, h 7)

-- a frame of eight bytes that is printed at a time is read, without its line end, as that frame heard at that time
pub frame-read-back : (f : CanFrame) (time : ℕ) → f.arbitration_id ≤ 0x1FFF_FFFF → ((i : ℕ) → get_or f.data i 0 < 256) → time < 18446744073709551616
    → read_line (frame_line f time) ≡ hands (can_frame f.arbitration_id (payload_number f.data) true 8 true) time
frame-read-back f time s b h =
    let id = f.arbitration_id in
    let n = payload_number f.data in
    let e : frame_line f time ≡ log_line (stamp_of_time time) (frame_word id n) = simp append_assoc in
    let short : length (frame_line f time) + 1 ≤ 61 = rw length-append at (frame-short f time).fits in
    log-line (frame_line f time) (hands (can_frame id n true 8 true) time)
    (λ z. omega (arith, ap (λ (l : List ℕ). length l) e)) (ap (λ (l : List ℕ). get_or l 0 0) e) (omega arith)
    (ap heard_in e
    ∙ heard-back (stamp_of_time time) (frame_word id n) (can_frame id n true 8 true) time (stamp-free time) (frame-free id n) (stamp-back time h)
    (frame_back id n s (payload-below f.data b)))

-- eight bytes as one number, and apart again
bytes_back : (a b c d e f g h : ℕ) → a < 256 → b < 256 → c < 256 → d < 256 → e < 256 → f < 256 → g < 256 → h < 256
    → payload (payload_number (a ∷ b ∷ c ∷ d ∷ e ∷ f ∷ g ∷ h ∷ [])) ≡ a ∷ b ∷ c ∷ d ∷ e ∷ f ∷ g ∷ h ∷ []
unfolding payload_number
bytes_back a b c d e f g h la lb lc ld le lf lg lh =
    let n = payload_number (a ∷ b ∷ c ∷ d ∷ e ∷ f ∷ g ∷ h ∷ []) in
    let pa : n / 0x0100_0000_0000_0000 % 2 ^ 8 ≡ a = omega arith in
    let pb : n / 0x0001_0000_0000_0000 % 2 ^ 8 ≡ b = omega arith in
    let pc : n / 0x0000_0100_0000_0000 % 2 ^ 8 ≡ c = omega arith in
    let pd : n / 0x0000_0001_0000_0000 % 2 ^ 8 ≡ d = omega arith in
    let pe : n / 0x0100_0000 % 2 ^ 8 ≡ e = omega arith in
    let pf : n / 0x0001_0000 % 2 ^ 8 ≡ f = omega arith in
    let pg : n / 0x0100 % 2 ^ 8 ≡ g = omega arith in
    let ph : n % 2 ^ 8 ≡ h = omega arith in
    rw (pa, pb, pc, pd, pe, pf, pg, ph)

module _ (a b c d e f g h : ℕ) (la : a < 256) (lb : b < 256) (lc : c < 256) (ld : d < 256) (le : e < 256) (lf : f < 256) (lg : g < 256) (lh : h < 256) where
  abbrev eight : List ℕ
  eight = a ∷ b ∷ c ∷ d ∷ e ∷ f ∷ g ∷ h ∷ []

  eight-below : (i : ℕ) → get_or eight i 0 < 256
  eight-below zero = la
  eight-below (suc zero) = lb
  eight-below (suc (suc zero)) = lc
  eight-below (suc (suc (suc zero))) = ld
  eight-below (suc (suc (suc (suc zero)))) = le
  eight-below (suc (suc (suc (suc (suc zero))))) = lf
  eight-below (suc (suc (suc (suc (suc (suc zero)))))) = lg
  eight-below (suc (suc (suc (suc (suc (suc (suc zero))))))) = lh
  eight-below (suc (suc (suc (suc (suc (suc (suc (suc i)))))))) = omega arith

  -- so a frame of eight bytes, extended, that was heard is read back as the very frame, at its time
  pub same-frame : (id time : ℕ) → id ≤ 0x1FFF_FFFF → time < 18446744073709551616
      → let x : CanFrame = record { arbitration_id = id; «data» = eight; dlc = 8; is_extended = true; is_rx = true } in
      read_line (frame_line x time) ≡ hands x time
  same-frame id time s t =
      frame-read-back (record { arbitration_id = id; «data» = eight; dlc = 8; is_extended = true; is_rx = true }) time s eight-below t
      ∙ ap (λ (d : List ℕ). hands (record { arbitration_id = id; «data» = d; dlc = 8; is_extended = true; is_rx = true }) time) (bytes_back a b c d e f g h la lb lc ld le lf lg lh)
