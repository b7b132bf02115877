-- What is kept of a read is its bytes after the last LF, moved to the front; the next read comes behind it. Assumes nothing.
use Rattle.std.proofs.Common.{◌≡◌, ℕ, ◌+◌, ◌-◌, ◌%◌, ◌^◌, ◌<◌, ◌≤◌, Bool, true, false, List, ◌++◌, length, take, drop, Result, Ok, Err, IsErrAnd, MatchResult, sym, ap, ◌∙◌, subst, arith, length-drop, length-take, length-take-le, take_all, take-take, le-leb}
use Rattle.std.specs.Io.{ReadsAtMost}
use Rattle.std.specs.List.{copy_within}
use Rattle.std.proofs.lemmas.List.Edits.{take-paste}
use lib.Seq.{take-append-add, take-append-le}
use borrow.Author.Tests.{lt-leb}
use Rattle.text.specs.declared.put.Text.{Text}
use Rattle.text.specs.Put.{put, text_as_bytes}
use Rattle.text.proofs.Putting.{text-put}
use Rattle.replay.specs.Limits.{buffer_size, kept_bytes}
use Rattle.replay.specs.Program.{torn_text, kept_of, Reads}
use Rattle.replay.proofs.Fits.{torn-fits}
use Rattle.replay.proofs.Hearing.{cut}
use Rattle.replay.proofs.LimitsTied.{answer-has-room, kept-fits}

-- ---- keeping

module _ (l : List ℕ) (from n : ℕ) (b : from ≤ n) (w : n ≤ buffer_size) (e : length l ≡ buffer_size) where
  rest-length : length (drop from (take n l)) ≡ n - from
  rest-length = simp (length-drop, length-take) (omega arith)

  pub keeps-moved : n - from < buffer_size → take (n - from) (copy_within l from n 0) ≡ kept_of (drop from (take n l))
  unfolding kept_of
  keeps-moved lt =
      let m : ℕ = n - from in
      let z : 0 + m ≡ m = omega arith in
      rw (lt-leb buffer_size (length (drop from (take n l))) (omega (arith, rest-length)))
      (subst (λ (k : ℕ). take k (copy_within l from n 0) ≡ take m (drop from l)) z (take-paste l 0 (drop from l) m (omega arith) (rw (length-drop from l) (omega arith))) ∙ sym (cut from m n l (omega arith)) ∙ take_all m (drop from (take n l)) (omega (arith, rest-length)))

  pub keeps-first : n - from ≡ buffer_size → take kept_bytes l ≡ kept_of (drop from (take n l))
  unfolding kept_of
  keeps-first ge =
      let z : from ≡ 0 = omega arith in
      rw (le-leb buffer_size (length (drop from (take n l))) (omega (arith, rest-length)), z) (sym (take-take kept_bytes n l (omega (arith, kept-fits))))

-- ---- a read behind what was kept

-- what was read, where nothing failed, is no more than was lent
pub no-more : {E F : Type 0} (r : Result ℕ E) (s : Result ℕ F) (P : E → F → Type 0) (part : List ℕ) (n : ℕ) → ReadsAtMost r part → MatchResult r (λ k. s ≡ Ok k) (λ x. IsErrAnd s (P x)) → s ≡ Ok n → n ≤ length part
no-more (Ok k) s P part n h m e = let k_is : k ≡ n = cc in rw (← k_is) h.0
no-more (Err x) s P part n h m e = absurd (rw e at m)

pub read_behind : (l part post : List ℕ) (kept count got got' : ℕ) (more : Bool) → kept ≤ length l → count ≤ length part → got' ≡ (got + count) % 2 ^ 64 → (more ≡ false → count ≡ 0) → (more ≡ true → 0 < count)
    → Reads (take kept l) got (take (kept + count) (take kept l ++ (part ++ post))) got' more
read_behind l part post kept count got got' more h w e z g = record {
  bytes = take count part;
  pending-is =
      subst (λ (k : ℕ). take (k + count) (take kept l ++ (part ++ post)) ≡ take kept l ++ take count (part ++ post)) (length-take-le kept l h) (take-append-add (take kept l) (part ++ post) count)
      ∙ ap (λ (m : List ℕ). take kept l ++ m) (take-append-le count part post w);
  got-is = e ∙ ap (λ (k : ℕ). (got + k) % 2 ^ 64) (sym (length-take-le count part w));
  ends = λ m. ap (λ (k : ℕ). take k part) (z m);
  goes_on = λ m. subst (λ (k : ℕ). 0 < k) (sym (length-take-le count part w)) (g m);
}

-- ---- the end of the input

pub torn-whole : {N : ℕ} (kept : ℕ) (t : Text N) → length t.bytes ≡ buffer_size → t.«at» ≡ 0 → text_as_bytes (put t (torn_text kept)) ≡ torn_text kept
torn-whole kept t size e =
    text-put t (torn_text kept) (omega (arith, size, e, torn-fits kept, answer-has-room)) ∙ rw e
