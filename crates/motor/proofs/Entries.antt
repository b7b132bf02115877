-- Laws of the lists: ids keep rising, and the lists with record numbers do what the plain ones do. Assumes nothing.
use Rattle.std.proofs.Common.{◌≡◌, ℕ, zero, suc, ◌<◌, ◌≤◌, Bool, true, false, cond, eqb, ltb, List, [], ◌∷◌, ◌++◌, length, get_or, refl, arith, ltb-false, ltb-true, lt-ltb, eq-eqb, ne_eqb, Some, None}
use borrow.Author.Tests.{eqb-false}
use Rattle.motor.specs.declared.engine.reading.Stored.{Stored}
use Rattle.motor.specs.declared.readings.Entry.{Entry}
use Rattle.motor.specs.Readings.{entry, holds, lookup, insert, remove, Above, Rising, Numbered, entries, record_of, placed_in, take_out, no_entry}

pub never : {A : Type 0} → true ≡ false → A
never e = let z : ◌≡◌ {A = ℕ} 0 1 = cc in absurd (omega arith)

-- ---- ids keep rising

above-mono : (m n : ℕ) (l : List Entry) → m ≤ n → Above n l → Above m l
above-mono m n [] h a = tt
above-mono m n (e ∷ es) h a = (omega (arith, a.0), above-mono m n es h a.1)

-- of two entries the later one has the greater id
above_at : (n : ℕ) (l : List Entry) → Above n l → (j : ℕ) → j < length l → n < (get_or l j no_entry).id
above_at n [] a j h = absurd (omega arith)
above_at n (e ∷ es) a zero h = a.0
above_at n (e ∷ es) a (suc j) h = above_at n es a.1 j (omega arith)

pub rising-at : (l : List Entry) → Rising l → (i j : ℕ) → i < j → j < length l → (get_or l i no_entry).id < (get_or l j no_entry).id
rising-at [] r i j h m = absurd (omega arith)
rising-at (e ∷ es) r i zero h m = absurd (omega arith)
rising-at (e ∷ es) r zero (suc j) h m = above_at e.id es r.0 j (omega arith)
rising-at (e ∷ es) r (suc i) (suc j) h m = rising-at es r.1 i j (omega arith) (omega arith)

pub rising-back : (ps bs : List Numbered) → Rising (entries (ps ++ bs)) → Rising (entries bs)
rising-back [] bs r = r
rising-back (h ∷ ps) bs r = rising-back ps bs r.1

module _ (id : ℕ) (s : Stored) where
  insert-above : (n : ℕ) (l : List Entry) → n < id → Above n l → Above n (insert id s l)
  insert-above n [] h a = (h, tt)
  insert-above n (e ∷ es) h a = go (ltb e.id id) (eqb e.id id) (insert-above n es h a.1)
    where
      go : (b c : Bool) → Above n (insert id s es) → Above n (cond b (e ∷ insert id s es) (entry id s ∷ cond c es (e ∷ es)))
      go true c i = (a.0, i)
      go false true i = (h, a.1)
      go false false i = (h, a)

  pub insert-rising : (l : List Entry) → Rising l → Rising (insert id s l)
  insert-rising [] r = (tt, tt)
  insert-rising (e ∷ es) r = go (ltb e.id id) refl (eqb e.id id) refl (insert-rising es r.1)
    where
      go : (b : Bool) → ltb e.id id ≡ b → (c : Bool) → eqb e.id id ≡ c → Rising (insert id s es)
          → Rising (cond b (e ∷ insert id s es) (entry id s ∷ cond c es (e ∷ es)))
      go true p c q i = (insert-above e.id es (ltb-true e.id id p) r.0, i)
      go false p true q i = (above-mono id e.id es (ltb-false e.id id p) r.0, r.1)
      go false p false q i =
          let h : id < e.id = omega (arith, ltb-false e.id id p, eqb-false e.id id q) in
          ((h, above-mono id e.id es (omega arith) r.0), r)

remove-above : (n id : ℕ) (l : List Entry) → Above n l → Above n (remove id l)
remove-above n id [] a = tt
remove-above n id (e ∷ es) a = go (eqb e.id id) (remove-above n id es a.1)
  where
    go : (b : Bool) → Above n (remove id es) → Above n (cond b es (e ∷ remove id es))
    go true i = a.1
    go false i = (a.0, i)

pub remove-rising : (id : ℕ) (l : List Entry) → Rising l → Rising (remove id l)
remove-rising id [] r = tt
remove-rising id (e ∷ es) r = go (eqb e.id id) (remove-rising id es r.1)
  where
    go : (b : Bool) → Rising (remove id es) → Rising (cond b es (e ∷ remove id es))
    go true i = r.1
    go false i = (remove-above e.id id es r.0, i)

-- ---- an id that is not held

pub holds-above : (id : ℕ) (l : List Entry) → Above id l → holds id l ≡ false
holds-above id [] a = refl
holds-above id (e ∷ es) a = rw (ne_eqb e.id id (λ p. omega (arith, a.0))) (holds-above id es a.1)

pub holds-first : (id : ℕ) (e : Entry) (es : List Entry) → id < e.id → Rising (e ∷ es) → holds id (e ∷ es) ≡ false
holds-first id e es h r = holds-above id (e ∷ es) (h, above-mono id e.id es (omega arith) r.0)

pub lookup-none : (id : ℕ) (l : List Entry) → holds id l ≡ false → lookup id l ≡ None
lookup-none id [] h = refl
lookup-none id (e ∷ es) h = go (eqb e.id id) (lookup-none id es) h
  where
    go : (b : Bool) → (holds id es ≡ false → lookup id es ≡ None) → cond b true (holds id es) ≡ false → cond b (Some e.held) (lookup id es) ≡ None
    go true f i = never i
    go false f i = f i

pub remove-none : (id : ℕ) (l : List Entry) → holds id l ≡ false → remove id l ≡ l
remove-none id [] h = refl
remove-none id (e ∷ es) h = go (eqb e.id id) (remove-none id es) h
  where
    go : (b : Bool) → (holds id es ≡ false → remove id es ≡ es) → cond b true (holds id es) ≡ false → cond b es (e ∷ remove id es) ≡ e ∷ es
    go true f i = never i
    go false f i = rw (f i)

pub record-none : (id : ℕ) (l : List Numbered) → holds id (entries l) ≡ false → record_of id l ≡ 0
record-none id [] h = refl
record-none id (x ∷ xs) h = go (eqb x.1.id id) (record-none id xs) h
  where
    go : (b : Bool) → (holds id (entries xs) ≡ false → record_of id xs ≡ 0) → cond b true (holds id (entries xs)) ≡ false → cond b x.0 (record_of id xs) ≡ 0
    go true f i = never i
    go false f i = f i

-- ---- the lists with numbers, seen without them

pub entries-placed : (n id : ℕ) (s : Stored) (l : List Numbered) → entries (placed_in n id s l) ≡ insert id s (entries l)
entries-placed n id s [] = refl
entries-placed n id s (h ∷ hs) = go (ltb h.1.id id) (eqb h.1.id id) (entries-placed n id s hs)
  where
    go : (b c : Bool) → entries (placed_in n id s hs) ≡ insert id s (entries hs)
        → entries (cond b (h ∷ placed_in n id s hs) (cond c ((h.0, entry id s) ∷ hs) ((n, entry id s) ∷ h ∷ hs)))
        ≡ cond b (h.1 ∷ insert id s (entries hs)) (entry id s ∷ cond c (entries hs) (h.1 ∷ entries hs))
    go true c i = rw i
    go false true i = refl
    go false false i = refl

pub entries-taken : (id : ℕ) (l : List Numbered) → entries (take_out id l) ≡ remove id (entries l)
entries-taken id [] = refl
entries-taken id (h ∷ hs) = go (eqb h.1.id id) (entries-taken id hs)
  where
    go : (b : Bool) → entries (take_out id hs) ≡ remove id (entries hs) → entries (cond b hs (h ∷ take_out id hs)) ≡ cond b (entries hs) (h.1 ∷ remove id (entries hs))
    go true i = refl
    go false i = rw i

-- a new id stands in the record that it was given
pub record-placed : (n id : ℕ) (s : Stored) (l : List Numbered) → holds id (entries l) ≡ false → record_of id (placed_in n id s l) ≡ n
record-placed n id s [] h = rw (eq-eqb id id refl)
record-placed n id s (x ∷ xs) h = go (ltb x.1.id id) (eqb x.1.id id) refl (record-placed n id s xs) h
  where
    go : (b c : Bool) → eqb x.1.id id ≡ c → (holds id (entries xs) ≡ false → record_of id (placed_in n id s xs) ≡ n) → cond c true (holds id (entries xs)) ≡ false
        → record_of id (cond b (x ∷ placed_in n id s xs) (cond c ((x.0, entry id s) ∷ xs) ((n, entry id s) ∷ x ∷ xs))) ≡ n
    go b true e f i = never i
    go true false e f i = rw e (f i)
    go false false e f i = rw (eq-eqb id id refl)

-- ---- past entries with lower ids

abbrev pub Below : ℕ → List Numbered → Type 0
Below id [] = Unit {0}
Below id (h ∷ hs) = (h.1.id < id) × Below id hs

module _ (id : ℕ) where
  lower : (h : Numbered) → h.1.id < id → eqb h.1.id id ≡ false
  lower h a = ne_eqb h.1.id id (λ e. omega arith)

  pub holds-skip : (ps bs : List Numbered) → Below id ps → holds id (entries (ps ++ bs)) ≡ holds id (entries bs)
  holds-skip [] bs a = refl
  holds-skip (h ∷ ps) bs a = rw (lower h a.0) (holds-skip ps bs a.1)

  pub lookup-skip : (ps bs : List Numbered) → Below id ps → lookup id (entries (ps ++ bs)) ≡ lookup id (entries bs)
  lookup-skip [] bs a = refl
  lookup-skip (h ∷ ps) bs a = rw (lower h a.0) (lookup-skip ps bs a.1)

  pub record-skip : (ps bs : List Numbered) → Below id ps → record_of id (ps ++ bs) ≡ record_of id bs
  record-skip [] bs a = refl
  record-skip (h ∷ ps) bs a = rw (lower h a.0) (record-skip ps bs a.1)

  pub take-skip : (ps bs : List Numbered) → Below id ps → take_out id (ps ++ bs) ≡ ps ++ take_out id bs
  take-skip [] bs a = refl
  take-skip (h ∷ ps) bs a = rw (lower h a.0, take-skip ps bs a.1)

  pub place-skip : (n : ℕ) (s : Stored) (ps bs : List Numbered) → Below id ps → placed_in n id s (ps ++ bs) ≡ ps ++ placed_in n id s bs
  place-skip n s [] bs a = refl
  place-skip n s (h ∷ ps) bs a = rw (lt-ltb h.1.id id a.0, place-skip n s ps bs a.1)
