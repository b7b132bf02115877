-- Bytes heard one after the other are lines, each up to its LF, and what follows the last. Assumes nothing.
use Rattle.std.proofs.Common.{◌≡◌, ℕ, zero, suc, ◌+◌, ◌<◌, ◌≤◌, Bool, true, false, eqb, List, [], ◌∷◌, ◌++◌, length, take, drop, sym, refl, ap, ◌∙◌, append_assoc, append-nil, arith, take_all, take-take, eqb-true}
use Rattle.text.specs.Search.{index_of, index_after}
use Rattle.station.specs.declared.station.Station.{Station}
use Rattle.replay.specs.Events.{station_after_line, text_after_line}
use Rattle.replay.specs.Program.{HeardSoFar, heard, hear, hear_all, Plain}

pub hear-byte : (st : Station) (line text : List ℕ) (b : ℕ) → eqb b 10 ≡ false → hear (heard st line text) b ≡ heard st (line ++ (b ∷ [])) text
unfolding hear
hear-byte st line text b e = rw e

pub hear-lf : (st : Station) (line text : List ℕ) → hear (heard st line text) 10 ≡ heard (station_after_line st line) [] (text ++ text_after_line st line)
unfolding hear
hear-lf st line text = refl

pub hear-plain : (st : Station) (line text bytes more : List ℕ) → Plain bytes → hear_all (heard st line text) (bytes ++ more) ≡ hear_all (heard st (line ++ bytes) text) more
hear-plain st line text [] more p = ap (λ (l : List ℕ). hear_all (heard st l text) more) (sym (append-nil line))
hear-plain st line text (b ∷ bytes) more p =
    ap (λ (s : HeardSoFar). hear_all s (bytes ++ more)) (hear-byte st line text b p.0) ∙ hear-plain st (line ++ (b ∷ [])) text bytes more p.1 ∙ ap (λ (l : List ℕ). hear_all (heard st l text) more) (append_assoc line (b ∷ []) bytes)

-- ---- up to the first LF

pub before-plain : (l : List ℕ) → Plain (take (index_of 10 l) l)
unfolding index_of index_after
before-plain [] = tt
before-plain (b ∷ l) = go (eqb b 10) refl (before-plain l)
  where
    go : (x : Bool) → eqb b 10 ≡ x → Plain (take (index_of 10 l) l) → Plain (take (index_after x (index_of 10 l)) (b ∷ l))
    go true e p = tt
    go false e p = (e, p)

pub at-lf : (l : List ℕ) → index_of 10 l < length l → l ≡ take (index_of 10 l) l ++ 10 ∷ drop (suc (index_of 10 l)) l
unfolding index_of index_after
at-lf [] h = absurd (omega arith)
at-lf (b ∷ l) h = go (eqb b 10) refl (at-lf l) h
  where
    go : (x : Bool) → eqb b 10 ≡ x → (index_of 10 l < length l → l ≡ take (index_of 10 l) l ++ 10 ∷ drop (suc (index_of 10 l)) l) → index_after x (index_of 10 l) < suc (length l) → b ∷ l ≡ take (index_after x (index_of 10 l)) (b ∷ l) ++ 10 ∷ drop (suc (index_after x (index_of 10 l))) (b ∷ l)
    go true e f h = ap (λ (a : ℕ). a ∷ l) (eqb-true b 10 e)
    go false e f h = ap (λ (m : List ℕ). b ∷ m) (f (omega arith))

-- a line that ends here, and what follows it
pub hear-line : (st : Station) (text l : List ℕ) → index_of 10 l < length l
    → hear_all (heard st [] text) l ≡ hear_all (heard (station_after_line st (take (index_of 10 l) l)) [] (text ++ text_after_line st (take (index_of 10 l) l))) (drop (suc (index_of 10 l)) l)
hear-line st text l h =
    let line : List ℕ = take (index_of 10 l) l in
    let more : List ℕ = drop (suc (index_of 10 l)) l in
    ap (λ (bytes : List ℕ). hear_all (heard st [] text) bytes) (at-lf l h) ∙ hear-plain st [] text line (10 ∷ more) (before-plain l) ∙ ap (λ (s : HeardSoFar). hear_all s more) (hear-lf st line text)

-- what no LF ends
pub no-lf : (l : List ℕ) → length l ≤ index_of 10 l → Plain l
no-lf l h = rw (take_all (index_of 10 l) l h) at (before-plain l)

-- ---- a part of a part

pub cut : (from k n : ℕ) (l : List ℕ) → from + k ≤ n → take k (drop from (take n l)) ≡ take k (drop from l)
cut zero k n l h = take-take k n l (omega arith)
cut (suc from) k zero l h = absurd (omega arith)
cut (suc from) k (suc n) [] h = refl
cut (suc from) k (suc n) (b ∷ l) h = cut from k n l (omega arith)
