-- What the functions give is what the lists say, where the records are good. Assumes nothing.
use Rattle.std.proofs.Common.{◌≡◌, ℕ, Bool, true, false, cond, eqb, ltb, List, [], ◌∷◌, ◌++◌, length, sym, refl, ap, ◌∙◌, subst, arith, le-ltb, lt-ltb, eq-eqb, ne_eqb, eqb-true, Some}
use borrow.Author.Tests.{eqb-false}
use Rattle.motor.specs.declared.engine.reading.Stored.{Stored}
use Rattle.motor.specs.declared.readings.Reading.{Reading}
use Rattle.motor.specs.declared.readings.Readings.{Readings}
use Rattle.motor.specs.declared.readings.Entry.{Entry}
use Rattle.motor.specs.Limits.{most_readings}
use Rattle.motor.specs.Readings.{entry, holds, lookup, Rising, Numbered, entries, Lists, record_of, placed_in, take_out, drop_in, blank_stored, next_at, Chain, Rep, Puts, seek_of, holder_at, holder_of, found_at, find_of, add_at, put_at, put_of, drop_at, drop_id, walk}
use Rattle.motor.proofs.Entries.{never, holds-first, lookup-none, record-none, insert-rising, remove-rising, rising-back, entries-placed, entries-taken, holds-skip, lookup-skip, record-skip, take-skip, place-skip}
use Rattle.motor.proofs.Search.{Stops, Split, seek-place, walk-chain}
use Rattle.motor.proofs.Links.{lists, all-records, all-entries, linked, replaced, unlinked}

-- ---- at the place of id

module _ (r : List Reading) (id q : ℕ) where
  holder-end : next_at r q ≡ 0 → holder_at r id q ≡ 0
  unfolding holder_at
  holder-end e = rw e

  holder-first : (b : Numbered) (bs : List Numbered) → Chain r (next_at r q) (b ∷ bs) → holder_at r id q ≡ cond (eqb b.1.id id) b.0 0
  unfolding holder_at
  holder-first b bs c =
      rw (c.0, ne_eqb b.0 0 (λ e. omega (arith, c.1)), le-ltb most_readings b.0 c.2, ap (λ (e : Entry). e.id) c.3)

place-new : (n id : ℕ) (s : Stored) (bs : List Numbered) → Stops id bs → holds id (entries bs) ≡ false → placed_in n id s bs ≡ (n, entry id s) ∷ bs
place-new n id s [] h e = refl
place-new n id s (b ∷ bs) h e = rw (le-ltb b.1.id id h) (go (eqb b.1.id id) e)
  where
    go : (c : Bool) → cond c true (holds id (entries bs)) ≡ false
        → cond c ((b.0, entry id s) ∷ bs) ((n, entry id s) ∷ b ∷ bs) ≡ (n, entry id s) ∷ b ∷ bs
    go true i = never i
    go false i = refl

-- the place of id is after ps and before bs
abbrev At : Readings → ℕ → List Numbered → List Numbered → Type 0
At rs id ps bs = Split rs.records id 0 (seek_of rs id) ps bs

module _ (rs : Readings) (held : List Numbered) (free : List ℕ) (x : Rep rs (lists held free)) (id : ℕ) where
  -- id is new, or record b holds it
  by_place : (P : List Numbered → ℕ → Type 0)
      → ((ps bs : List Numbered) → Rep rs (lists (ps ++ bs) free) → At rs id ps bs → holds id (entries bs) ≡ false → P (ps ++ bs) 0)
      → ((ps : List Numbered) (b : Numbered) (bs : List Numbered)
      → Rep rs (lists (ps ++ (b ∷ bs)) free) → At rs id ps (b ∷ bs) → b.1.id ≡ id → P (ps ++ (b ∷ bs)) b.0)
      → P held (holder_of rs id)
  by_place P new old =
      let p = seek-place rs.records id most_readings held 0 (omega (arith, all-records rs held free x)) x.held-chain in
      subst (λ (t : List Numbered). P t (holder_of rs id)) p.whole
      (go p.front p.back (subst (λ (t : List Numbered). Rep rs (lists t free)) (sym p.whole) x) p.split)
    where
      go : (ps bs : List Numbered) → Rep rs (lists (ps ++ bs) free) → At rs id ps bs → P (ps ++ bs) (holder_of rs id)
      go ps [] y s = rw (holder-end rs.records id (seek_of rs id) s.rest) (new ps [] y s refl)
      go ps (b ∷ bs) y s = rw (holder-first rs.records id (seek_of rs id) b bs s.rest) (one (eqb b.1.id id) refl)
        where
          one : (c : Bool) → eqb b.1.id id ≡ c → P (ps ++ (b ∷ bs)) (cond c b.0 0)
          one true e = old ps b bs y s (eqb-true b.1.id id e)
          one false e =
              new ps (b ∷ bs) y s
              (holds-first id b.1 (entries bs) (omega (arith, s.high, eqb-false b.1.id id e)) (rising-back ps (b ∷ bs) y.rising))

  holds-old : (ps : List Numbered) (b : Numbered) (bs : List Numbered) → At rs id ps (b ∷ bs) → b.1.id ≡ id
      → holds id (entries (ps ++ (b ∷ bs))) ≡ true
  holds-old ps b bs s e = holds-skip id ps (b ∷ bs) s.low ∙ rw (eq-eqb b.1.id id e)

  pub find-rep : find_of rs id ≡ lookup id (entries held)
  unfolding found_at
  find-rep =
      by_place (λ t n. found_at rs n ≡ lookup id (entries t))
      (λ ps bs y s h. sym (lookup-none id (entries (ps ++ bs)) (holds-skip id ps bs s.low ∙ h)))
      (λ ps b bs y s e.
      rw (ne_eqb b.0 0 (λ z. omega (arith, s.rest.1, z)), lookup-skip id ps (b ∷ bs) s.low, eq-eqb b.1.id id e)
      (ap (λ (t : Entry). Some t.held) s.rest.3))

  -- the record that the search finds
  pub record-rep : holder_of rs id ≡ record_of id held
  record-rep =
      by_place (λ t n. n ≡ record_of id t)
      (λ ps bs y s h. sym (record-none id (ps ++ bs) (holds-skip id ps bs s.low ∙ h)))
      (λ ps b bs y s e. sym (record-skip id ps (b ∷ bs) s.low ∙ rw (eq-eqb b.1.id id e)))

  pub drop_rep : Rep (drop_id rs id) (drop_in id (lists held free))
  unfolding drop_at
  drop_rep =
      by_place (λ t n. Rep (drop_at rs (seek_of rs id) n) (drop_in id (lists t free)))
      (λ ps bs y s h. rw (holds-skip id ps bs s.low ∙ h) y)
      (λ ps b bs y s e.
      let w : take_out id (ps ++ (b ∷ bs)) ≡ ps ++ bs = take-skip id ps (b ∷ bs) s.low ∙ rw (eq-eqb b.1.id id e) in
      let n : record_of id (ps ++ (b ∷ bs)) ≡ b.0 = record-skip id ps (b ∷ bs) s.low ∙ rw (eq-eqb b.1.id id e) in
      rw (ne_eqb b.0 0 (λ z. omega (arith, s.rest.1, z)), holds-old ps b bs s e, n)
      (unlinked rs id blank_stored (seek_of rs id) ps b bs free y s (take_out id (ps ++ (b ∷ bs))) (sym w)
      (rw (entries-taken id (ps ++ (b ∷ bs))) (remove-rising id (entries (ps ++ (b ∷ bs))) y.rising))))

  module _ (v : Stored) where
    placed-rising : (n : ℕ) (t : List Numbered) → Rising (entries t) → Rising (entries (placed_in n id v t))
    placed-rising n t u = rw (entries-placed n id v t) (insert-rising id v (entries t) u)

    add-rep : (ps bs : List Numbered) (fs : List ℕ) → Rep rs (lists (ps ++ bs) fs) → At rs id ps bs → holds id (entries bs) ≡ false
        → Puts rs (lists (ps ++ bs) fs) id v (add_at rs id v (seek_of rs id))
    unfolding add_at
    add-rep ps bs [] y s h =
        let k = holds-skip id ps bs s.low ∙ h in
        let m : ltb (length (entries (ps ++ bs))) most_readings ≡ false = le-ltb (length (entries (ps ++ bs))) most_readings (omega (arith, all-entries rs (ps ++ bs) [] y)) in
        rw (eq-eqb rs.free 0 y.free-chain) record { said = rw (k, m); rep = rw k y; full = λ z. refl }
    add-rep ps bs (f ∷ fs) y s h =
        let k = holds-skip id ps bs s.low ∙ h in
        let c = y.free-chain in
        let m : ltb (length (entries (ps ++ bs))) most_readings ≡ true = lt-ltb (length (entries (ps ++ bs))) most_readings (omega (arith, all-entries rs (ps ++ bs) (f ∷ fs) y)) in
        let w = place-skip id f v ps bs s.low ∙ ap (λ (t : List Numbered). ps ++ t) (place-new f id v bs s.high h) in
        rw (c.0, ne_eqb f 0 (λ z. omega (arith, c.1, z)), le-ltb most_readings f c.2)
        record {
          said = rw (k, m);
          rep = rw k (linked rs id v (seek_of rs id) ps bs f fs y s (placed_in f id v (ps ++ bs)) (sym w) (placed-rising f (ps ++ bs) y.rising));
          full = λ z. never (rw (k, m) at z);
        }

    pub put-rep : Puts rs (lists held free) id v (put_of rs id v)
    unfolding put_at
    put-rep =
        by_place (λ t n. Puts rs (lists t free) id v (put_at rs id v (seek_of rs id) n))
        (λ ps bs y s h. add-rep ps bs free y s h)
        (λ ps b bs y s e.
        let k = holds-old ps b bs s e in
        let w : placed_in 0 id v (ps ++ (b ∷ bs)) ≡ ps ++ ((b.0, entry id v) ∷ bs) =
        place-skip id 0 v ps (b ∷ bs) s.low ∙ rw (le-ltb b.1.id id s.high, eq-eqb b.1.id id e) in
        rw (ne_eqb b.0 0 (λ z. omega (arith, s.rest.1, z)))
        record {
          said = rw k;
          rep = rw k (replaced rs id v (seek_of rs id) ps b bs free y s (placed_in 0 id v (ps ++ (b ∷ bs))) (sym w) (placed-rising 0 (ps ++ (b ∷ bs)) y.rising));
          full = λ z. never (rw k at z);
        })

pub walk-rep : (rs : Readings) (ls : Lists) → Rep rs ls → walk most_readings rs.records (next_at rs.records 0) ≡ entries ls.held
walk-rep rs ls x =
    walk-chain rs.records most_readings (next_at rs.records 0) ls.held (omega (arith, all-records rs ls.held ls.free x)) x.held-chain
