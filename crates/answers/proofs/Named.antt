-- Flags as a list with their names are the flags of a number whose bits they are. Assumes nothing.
use Rattle.std.proofs.Common.{◌≡◌, ℕ, zero, suc, ◌+◌, ◌*◌, ◌/◌, ◌%◌, ◌^◌, ◌<◌, ◌≤◌, Bool, true, false, cond, ◌||◌, List, [], ◌∷◌, ◌++◌, map, length, get_or, eqb, refl, sym, ap, ◌∙◌, add-one, arith}
use Rattle.std.specs.Borrow.{Bor}
use Rattle.std.proofs.lemmas.List.{get_or-map, length-map}
use Rattle.std.proofs.lemmas.List.FromFn.{get_or-map-range_with_len}
use Rattle.std.proofs.lemmas.Nat.{mod-pow-add, pow_pos}
use Rattle.std.proofs.lemmas.Nat.Bits.{bit_at-suc, bit_at-zero}
use Rattle.std.proofs.Math.Nat.{pow-suc, mod-eq_of_lt}
use Rattle.std.specs.List.{range_with_len}
use borrow.Author.Tests.{le-ltb, ne_eqb}
use Rattle.codec.specs.declared.faults.FaultFlags.{FaultFlags}
use Rattle.codec.specs.declared.faults.WarningFlags.{WarningFlags}
use Rattle.motor.specs.declared.feedback.MotorFeedbackState.{MotorFeedbackState}
use Rattle.text.specs.Ascii.{ascii}
use Rattle.text.specs.Search.{index_of, index_after}
use Rattle.text.specs.Words.{word_at}
use Rattle.answers.specs.Flags.{Named, named, nth, any_upto, name_after, names_upto, names_text, flag_text, flags_upto, flags_text, bit, state_flags_text, fault_flags_text, low_faults, high_faults, warning_flags_text}

-- ---- one more flag

pub any-more : (flags : List Named) (i : ℕ) → any_upto flags (i + 1) ≡ (any_upto flags i || (nth flags i).0)
unfolding any_upto
any-more flags i = rw add-one

pub names-more : (flags : List Named) (i : ℕ) → names_upto flags (i + 1) ≡ names_upto flags i ++ name_after (any_upto flags i) (nth flags i)
unfolding names_upto
names-more flags i = rw add-one

-- no name where none is set
pub names-none : (flags : List Named) (i : ℕ) → any_upto flags i ≡ false → names_upto flags i ≡ []
unfolding any_upto names_upto
names-none flags zero h = refl
names-none flags (suc i) h = go (any_upto flags i) (nth flags i).0 (names-none flags i) refl refl h
  where
    go : (a s : Bool) → (any_upto flags i ≡ false → names_upto flags i ≡ []) → any_upto flags i ≡ a → (nth flags i).0 ≡ s → (a || s) ≡ false
        → names_upto flags i ++ name_after (any_upto flags i) (nth flags i) ≡ []
    go false false n e f h = rw (f, n e)
    go false true n e f h = cc
    go true s n e f h = cc

pub nth-named : (flags : List (Bool × Bor (List ℕ))) (i : ℕ) (d : Bool × Bor (List ℕ)) → i < length flags
    → nth (named flags) i ≡ ((get_or flags i d).0, (get_or flags i d).1.now)
nth-named flags i d h = get_or-map (λ (f : Bool × Bor (List ℕ)). (f.0, f.1.now)) flags i d (false, []) h

pub length-named : (flags : List (Bool × Bor (List ℕ))) → length (named flags) ≡ length flags
length-named flags = let f : Bool × Bor (List ℕ) → Named = λ f. (f.0, f.1.now) in length-map flags f

-- ---- as the bits of a number

-- the flags' bits, the first of the weight w
abbrev pub bits_from : ℕ → List Named → ℕ
bits_from w [] = 0
bits_from w (flag ∷ flags) = bit flag.0 w + bits_from (2 * w) flags

twice : (w : ℕ) (flags : List Named) → bits_from (2 * w) flags ≡ 2 * bits_from w flags
twice w [] = refl
twice w (flag ∷ flags) = go flag.0 (twice (2 * w) flags)
  where
    go : (set : Bool) → bits_from (2 * (2 * w)) flags ≡ 2 * bits_from (2 * w) flags → bit set (2 * w) + bits_from (2 * (2 * w)) flags ≡ 2 * (bit set w + bits_from (2 * w) flags)
    go true e = omega arith
    go false e = omega arith

-- each is a flag
bit_is : (flags : List Named) (i : ℕ) → bits_from 1 flags / 2 ^ i % 2 ≡ bit (nth flags i).0 1
bit_is [] i = bit_at-zero i
bit_is (flag ∷ flags) zero = go flag.0 (twice 1 flags)
  where
    go : (set : Bool) → bits_from 2 flags ≡ 2 * bits_from 1 flags → (bit set 1 + bits_from 2 flags) / 1 % 2 ≡ bit set 1
    go true e = omega arith
    go false e = omega arith
bit_is (flag ∷ flags) (suc i) =
    let half : bits_from 1 (flag ∷ flags) / 2 ≡ bits_from 1 flags = go flag.0 (twice 1 flags) in
    bit_at-suc (bits_from 1 (flag ∷ flags)) i ∙ rw half (bit_is flags i)
  where
    go : (set : Bool) → bits_from 2 flags ≡ 2 * bits_from 1 flags → (bit set 1 + bits_from 2 flags) / 2 ≡ bits_from 1 flags
    go true e = omega arith
    go false e = omega arith

-- those below i are all 0 where none of these flags is set
below : (flags : List Named) (i : ℕ) → (any_upto flags i ≡ false → bits_from 1 flags % 2 ^ i ≡ 0) × (any_upto flags i ≡ true → 0 < bits_from 1 flags % 2 ^ i)
unfolding any_upto
below flags zero = (λ e. omega arith, λ e. cc)
below flags (suc i) =
    let n = bits_from 1 flags in
    let k : 1 + i ≡ suc i = omega arith in
    let more : n % 2 ^ suc i ≡ n / 2 ^ i % 2 * 2 ^ i + n % 2 ^ i = rw k at (mod-pow-add n 1 i) in
    rw (more, bit_is flags i) (go (any_upto flags i) (nth flags i).0 (below flags i) refl)
  where
    go : (any set : Bool) → (any_upto flags i ≡ false → bits_from 1 flags % 2 ^ i ≡ 0) × (any_upto flags i ≡ true → 0 < bits_from 1 flags % 2 ^ i) → any_upto flags i ≡ any
        → ((any || set) ≡ false → bit set 1 * 2 ^ i + bits_from 1 flags % 2 ^ i ≡ 0) × ((any || set) ≡ true → 0 < bit set 1 * 2 ^ i + bits_from 1 flags % 2 ^ i)
    go false false b e = (λ h. omega (arith, b.0 e), λ h. cc)
    go false true b e = (λ h. cc, λ h. omega (arith, pow_pos i))
    go true set b e = (λ h. cc, λ h. omega (arith, b.1 e))

-- so a flag's name is the same by its bit
flag-named : (flags : List Named) (i : ℕ) (name : List ℕ) → (nth flags i).1 ≡ name
    → flag_text (bits_from 1 flags / 2 ^ i) (bits_from 1 flags % 2 ^ i) name ≡ name_after (any_upto flags i) (nth flags i)
unfolding flag_text
flag-named flags i name e = rw (bit_is flags i, e) (go (nth flags i).0 (any_upto flags i) refl)
  where
    go : (set any : Bool) → any_upto flags i ≡ any
        → cond (eqb (bit set 1) 0) [] (cond (eqb (bits_from 1 flags % 2 ^ i) 0) name ((0x2C ∷ []) ++ name)) ≡ cond set (cond any ((0x2C ∷ []) ++ name) name) []
    go false any e = refl
    go true false e = rw ((below flags i).0 e)
    go true true e = rw (ne_eqb (bits_from 1 flags % 2 ^ i) 0 (λ z. omega (arith, (below flags i).1 e)))

flags-upto : (flags : List Named) (names : List ℕ) (n : ℕ) → ((i : ℕ) → i < n → (nth flags i).1 ≡ word_at names i) → flags_upto (bits_from 1 flags) names n ≡ names_upto flags n
unfolding flags_upto names_upto
flags-upto flags names zero e = refl
flags-upto flags names (suc i) e =
    rw (flags-upto flags names i (λ k h. e k (omega arith)), flag-named flags i (word_at names i) (e i (omega arith)))

bits-below : (flags : List Named) → bits_from 1 flags < 2 ^ length flags
bits-below [] = omega arith
bits-below (flag ∷ flags) = go flag.0 (twice 1 flags) (bits-below flags)
  where
    go : (set : Bool) → bits_from 2 flags ≡ 2 * bits_from 1 flags → bits_from 1 flags < 2 ^ length flags → bit set 1 + bits_from 2 flags < 2 ^ suc (length flags)
    go true e h = rw pow-suc (omega arith)
    go false e h = rw pow-suc (omega arith)

-- the names of the words of a text, as the first flags have them
pub flags-named : (flags : List Named) (names : List ℕ) → length flags ≤ 16
    → map (λ (f : Named). f.1) flags ≡ map (λ (i : ℕ). word_at names i) (range_with_len 0 (length flags))
    → flags_text (bits_from 1 flags) names (length flags) ≡ names_text flags
unfolding flags_text
flags-named flags names few same =
    rw (le-ltb 16 (length flags) few, flags-upto flags names (length flags) word) (go (any_upto flags (length flags)) refl)
  where
    word : (i : ℕ) → i < length flags → (nth flags i).1 ≡ word_at names i
    word i h =
        sym (get_or-map (λ (f : Named). f.1) flags i (false, []) [] h)
        ∙ ap (λ (l : List (List ℕ)). get_or l i []) same
        ∙ get_or-map-range_with_len (λ (i : ℕ). word_at names i) 0 (length flags) i i [] h (omega arith)

    go : (any : Bool) → any_upto flags (length flags) ≡ any
        → cond (eqb (bits_from 1 flags) 0) (0x2D ∷ []) (names_upto flags (length flags)) ≡ cond any (names_upto flags (length flags)) (0x2D ∷ [])
    go false e = rw (sym (mod-eq_of_lt (bits-below flags)) ∙ (below flags (length flags)).0 e)
    go true e =
        let n : 0 < bits_from 1 flags = rw (mod-eq_of_lt (bits-below flags)) at ((below flags (length flags)).1 e) in
        rw (ne_eqb (bits_from 1 flags) 0 (λ z. omega arith))

-- ---- the flags of a state, of faults and of warnings

abbrev state_flags : MotorFeedbackState → List Named
state_flags s = (s.undervoltage, ascii "undervoltage") ∷ (s.overcurrent, ascii "overcurrent") ∷ (s.overtemperature, ascii "overtemperature") ∷ (s.magnetic_encoder_fault, ascii "magnetic_encoder_fault") ∷ (s.stall, ascii "stall") ∷ (s.uncalibrated, ascii "uncalibrated") ∷ []

pub state_named : (s : MotorFeedbackState) → state_flags_text s ≡ names_text (state_flags s)
unfolding state_flags_text word_at index_of index_after
state_named s =
    let bits : bits_from 1 (state_flags s) ≡ bit s.undervoltage 1 + bit s.overcurrent 2 + bit s.overtemperature 4 + bit s.magnetic_encoder_fault 8 + bit s.stall 16 + bit s.uncalibrated 32 = omega arith in
    rw (← bits) (flags-named (state_flags s) (ascii "undervoltage overcurrent overtemperature magnetic_encoder_fault stall uncalibrated") (omega arith) refl)

abbrev fault_flags : FaultFlags → List Named
fault_flags f = (f.overtemperature, ascii "overtemperature") ∷ (f.driver_fault, ascii "driver_fault") ∷ (f.undervoltage, ascii "undervoltage") ∷ (f.overvoltage, ascii "overvoltage") ∷ (f.phase_b_overcurrent, ascii "phase_b_overcurrent") ∷ (f.phase_c_overcurrent, ascii "phase_c_overcurrent") ∷ (f.encoder_uncalibrated, ascii "encoder_uncalibrated") ∷ (f.hardware_id_fault, ascii "hardware_id_fault") ∷ (f.position_init_fault, ascii "position_init_fault") ∷ (f.stall_overload, ascii "stall_overload") ∷ (f.phase_a_overcurrent, ascii "phase_a_overcurrent") ∷ []

pub fault_named : (f : FaultFlags) → fault_flags_text f ≡ names_text (fault_flags f)
unfolding fault_flags_text word_at index_of index_after
fault_named f =
    let bits : bits_from 1 (fault_flags f) ≡ low_faults f + high_faults f = omega arith in
    rw (← bits) (flags-named (fault_flags f) (ascii "overtemperature driver_fault undervoltage overvoltage phase_b_overcurrent phase_c_overcurrent encoder_uncalibrated hardware_id_fault position_init_fault stall_overload phase_a_overcurrent") (omega arith) refl)

abbrev warning_flags : WarningFlags → List Named
warning_flags w = (w.overtemperature_warning, ascii "overtemperature_warning") ∷ []

pub warning_named : (w : WarningFlags) → warning_flags_text w ≡ names_text (warning_flags w)
unfolding warning_flags_text word_at index_of index_after
warning_named w =
    let bits : bits_from 1 (warning_flags w) ≡ bit w.overtemperature_warning 1 = omega arith in
    rw (← bits) (flags-named (warning_flags w) (ascii "overtemperature_warning") (omega arith) refl)
