-- Places of a station: what is held for one id, and that the ids differ. Assumes nothing.
use Rattle.std.specs.Prelude.{Option, None, Some}
use mathlib.Core.Path.{◌≡◌, refl, sym, ap, ◌∙◌}
use mathlib.Core.Bool.{Bool, true, false, true≢false}
use mathlib.Core.List.{List, [], ◌∷◌}
use Prim.Native.Nat.{ℕ, zero, suc}
use lib.Dec.{eqb, eqb→eq, eqb_refl, T}
use lib.ListN.{replicate, length}
use Rattle.motor.specs.Lone.{Lone}
use Rattle.std.proofs.lemmas.Option.{none-some, same_Some}
use Rattle.station.specs.Station.{Place, free, taken, held, full, add, put, place, Distinct}

pub same_id : (i m : ℕ) → eqb i m ≡ true → i ≡ m
same_id i m e = eqb→eq i m (rw e tt)

T-path : (b : Bool) → T b → b ≡ true
T-path true t = refl
T-path false t = absurd t

pub own-id : (m : ℕ) → eqb m m ≡ true
own-id m = T-path (eqb m m) (eqb_refl m)

pub other-id : (i m : ℕ) → eqb i m ≡ false → eqb m i ≡ false
other-id i m e = go (eqb m i) refl
  where
    go : (b : Bool) → eqb m i ≡ b → eqb m i ≡ false
    go true p = absurd (true≢false (sym (own-id i) ∙ (rw (same_id m i p) at e)))
    go false p = p

pub held-put-other : (s : List Place) (i m : ℕ) (o : Option Lone) → eqb i m ≡ false → held (put s i o) m ≡ held s m
unfolding held put place
held-put-other [] i m o e = refl
held-put-other (free ∷ s) i m o e = held-put-other s i m o e
held-put-other (taken j h ∷ s) i m o e = go (eqb j i) refl (held-put-other s i m o e)
  where
    here : (o : Option Lone) → eqb j m ≡ false → held (place j o ∷ s) m ≡ held (taken j h ∷ s) m
    here None q = rw q
    here (Some k) q = rw q

    go : (b : Bool) → eqb j i ≡ b → held (put s i o) m ≡ held s m → held (put (taken j h ∷ s) i o) m ≡ held (taken j h ∷ s) m
    go true p ih = rw p (here o (rw (same_id j i p) e))
    go false p ih = rw p (rw ih)

pub held-add-other : (s : List Place) (i m : ℕ) (h : Lone) → eqb i m ≡ false → held (add s i h) m ≡ held s m
unfolding held add
held-add-other [] i m h e = refl
held-add-other (free ∷ s) i m h e = rw e
held-add-other (taken j k ∷ s) i m h e = rw (held-add-other s i m h e)

-- a place that is not m's is passed over
pub held-past : (j m : ℕ) (k : Lone) (s : List Place) → held (taken j k ∷ s) m ≡ None → (eqb j m ≡ false) × (held s m ≡ None)
unfolding held
held-past j m k s e = go (eqb j m) refl
  where
    go : (b : Bool) → eqb j m ≡ b → (eqb j m ≡ false) × (held s m ≡ None)
    go true p = absurd (none-some k (sym (rw p at e)))
    go false p = (p, rw p at e)

pub held-add : (s : List Place) (m : ℕ) (h : Lone) → held s m ≡ None → full s ≡ false → held (add s m h) m ≡ Some h
unfolding held add full
held-add [] m h e f = absurd (true≢false f)
held-add (free ∷ s) m h e f = rw (own-id m)
held-add (taken j k ∷ s) m h e f = rw (held-past j m k s e).0 (held-add s m h (held-past j m k s e).1 f)

pub held-put : (s : List Place) (m : ℕ) (h : Lone) (o : Option Lone) → Distinct s → held s m ≡ Some h → held (put s m o) m ≡ o
unfolding held put place
held-put [] m h o d e = absurd (none-some h e)
held-put (free ∷ s) m h o d e = held-put s m h o d e
held-put (taken j k ∷ s) m h o d e = go (eqb j m) refl (held-put s m h o d.1)
  where
    here : (o : Option Lone) → eqb j m ≡ true → held (place j o ∷ s) m ≡ o
    here None p = rw (same_id j m p) at d.0
    here (Some n) p = rw p

    go : (b : Bool) → eqb j m ≡ b → (held s m ≡ Some h → held (put s m o) m ≡ o) → held (put (taken j k ∷ s) m o) m ≡ o
    go true p ih = rw p (here o p)
    go false p ih = rw p (rw p (ih (rw p at e)))

-- what is held put again
pub put-held : (s : List Place) (m : ℕ) (h : Lone) → held s m ≡ Some h → put s m (Some h) ≡ s
unfolding held put place
put-held [] m h e = refl
put-held (free ∷ s) m h e = ap {B = List Place} (λ l. free ∷ l) (put-held s m h e)
put-held (taken j k ∷ s) m h e = go (eqb j m) refl (put-held s m h)
  where
    go : (b : Bool) → eqb j m ≡ b → (held s m ≡ Some h → put s m (Some h) ≡ s) → put (taken j k ∷ s) m (Some h) ≡ taken j k ∷ s
    go true p ih = rw p (ap {B = List Place} (λ x. taken j x ∷ s) (sym (same_Some k h (rw p at e))))
    go false p ih = rw p (ap {B = List Place} (λ l. taken j k ∷ l) (ih (rw p at e)))

pub distinct-put : (s : List Place) (m : ℕ) (o : Option Lone) → Distinct s → Distinct (put s m o)
unfolding put place
distinct-put [] m o d = tt
distinct-put (free ∷ s) m o d = distinct-put s m o d
distinct-put (taken j k ∷ s) m o d = go (eqb j m) refl (distinct-put s m o d.1)
  where
    here : (o : Option Lone) → Distinct (place j o ∷ s)
    here None = d.1
    here (Some n) = d

    go : (b : Bool) → eqb j m ≡ b → Distinct (put s m o) → Distinct (put (taken j k ∷ s) m o)
    go true p ih = rw p (here o)
    go false p ih = rw p (held-put-other s m j o (other-id j m p) ∙ d.0, ih)

pub distinct-add : (s : List Place) (m : ℕ) (h : Lone) → Distinct s → held s m ≡ None → Distinct (add s m h)
unfolding add held
distinct-add [] m h d e = tt
distinct-add (free ∷ s) m h d e = (e, d)
distinct-add (taken j k ∷ s) m h d e =
    let past = held-past j m k s e in
    (held-add-other s m j h (other-id j m past.0) ∙ d.0, distinct-add s m h d.1 past.1)

pub length-put : (s : List Place) (m : ℕ) (o : Option Lone) → length (put s m o) ≡ length s
unfolding put
length-put [] m o = refl
length-put (free ∷ s) m o = ap suc (length-put s m o)
length-put (taken j k ∷ s) m o = go (eqb j m) refl (length-put s m o)
  where
    go : (b : Bool) → eqb j m ≡ b → length (put s m o) ≡ length s → length (put (taken j k ∷ s) m o) ≡ suc (length s)
    go true p ih = rw p
    go false p ih = rw p (ap suc ih)

pub length-add : (s : List Place) (m : ℕ) (h : Lone) → length (add s m h) ≡ length s
unfolding add
length-add [] m h = refl
length-add (free ∷ s) m h = refl
length-add (taken j k ∷ s) m h = ap suc (length-add s m h)

pub distinct-free : (n : ℕ) → Distinct (replicate n free)
distinct-free zero = tt
distinct-free (suc n) = distinct-free n
