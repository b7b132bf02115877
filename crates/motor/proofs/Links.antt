-- A record linked in, taken out or stored anew at the place of its id: the two chains stay good. Assumes nothing.
use Rattle.std.proofs.Common.{◌≡◌, ℕ, ◌+◌, ◌<◌, ◌≤◌, List, [], ◌∷◌, ◌++◌, map, length, set, sym, refl, ap, ◌∙◌, arith, length-append}
use mathlib.Core.List.{map-append}
use lib.ListN.{length-map}
use Rattle.motor.specs.declared.engine.reading.Stored.{Stored}
use Rattle.motor.specs.declared.readings.Reading.{Reading}
use Rattle.motor.specs.declared.readings.Readings.{Readings}
use Rattle.motor.specs.Limits.{most_readings}
use Rattle.motor.specs.Readings.{entry, Rising, Numbered, numbers, entries, Lists, reading, free_record, rec_at, next_at, Chain, times, unused, Rep, linked_at, unlinked_at, replaced_at}
use Rattle.motor.proofs.Times.{UpTo, times-here, times-other, times_more, times-append, times-move, in-range, zero-none, upto-append, full-length, not_first}
use Rattle.motor.proofs.Chains.{Not, last, last-in, chain-upto, free-upto, numbers-unused, Differ, stored-differ, set_same, set_other, entry_in, relinked, relinked-differ, relinked-first, relinked-next, away, joined}
use Rattle.motor.proofs.Search.{Split}

abbrev pub lists : List Numbered → List ℕ → Lists
lists held free = record { held = held; free = free }

-- the numbers in use are of 1 to 96
pub all-upto : (rs : Readings) (held : List Numbered) (free : List ℕ) → Rep rs (lists held free) → UpTo most_readings (numbers held ++ free)
all-upto rs held free x =
    upto-append most_readings (numbers held) free (chain-upto rs.records (next_at rs.records 0) held x.held-chain)
    (free-upto rs.records rs.free free x.free-chain)

-- 96 records, held and free together
pub all-records : (rs : Readings) (held : List Numbered) (free : List ℕ) → Rep rs (lists held free) → length held + length free ≡ most_readings
all-records rs held free x =
    let n = full-length most_readings (numbers held ++ free) (all-upto rs held free x) (λ k a b. times-append k (numbers held) free ∙ x.once k a b) in
    omega (arith, n, length-append (numbers held) free, length-map held (λ (h : Numbered). h.0))

pub all-entries : (rs : Readings) (held : List Numbered) (free : List ℕ) → Rep rs (lists held free) → length (entries held) + length free ≡ most_readings
all-entries rs held free x = omega (arith, all-records rs held free x, length-map held (λ (h : Numbered). h.1))

-- record q, the last of ps, stands in none of what follows
pub record Behind (q : ℕ) (ps bs : List Numbered) (fs : List ℕ) : Type 0 where
  pub fits : q ≤ most_readings
  pub itself : times q (0 ∷ numbers ps) ≤ 1
  pub held : times q (numbers bs) ≡ 0
  pub free : times q fs ≡ 0

module _ (rs : Readings) (id q : ℕ) (ps bs : List Numbered) (fs : List ℕ) (x : Rep rs (lists (ps ++ bs) fs)) (s : Split rs.records id 0 q ps bs) where
  counted : (k : ℕ) → 1 ≤ k → k ≤ most_readings → times k (numbers ps) + times k (numbers bs) + times k fs ≡ 1
  counted k a b =
      let e : times k (numbers (ps ++ bs)) ≡ times k (numbers ps) + times k (numbers bs) =
      ap (times k) (map-append (λ (h : Numbered). h.0) ps bs) ∙ times-append k (numbers ps) (numbers bs) in
      omega (arith, e, x.once k a b)

  back-upto : UpTo most_readings (numbers bs)
  back-upto = chain-upto rs.records (next_at rs.records q) bs s.rest

  unused-upto : UpTo most_readings fs
  unused-upto = free-upto rs.records rs.free fs x.free-chain

  behind : Behind q ps bs fs
  behind = go ps (chain-upto rs.records (next_at rs.records 0) (ps ++ bs) x.held-chain) s.at (counted)
    where
      go : (ps : List Numbered) → UpTo most_readings (numbers (ps ++ bs)) → last 0 ps ≡ q
          → ((k : ℕ) → 1 ≤ k → k ≤ most_readings → times k (numbers ps) + times k (numbers bs) + times k fs ≡ 1) → Behind q ps bs fs
      go [] u e n =
          rw (← e)
          record { fits = omega arith; itself = omega (arith, times-here 0 [], zero-none most_readings [] tt); held = zero-none most_readings (numbers bs) back-upto; free = zero-none most_readings fs unused-upto }
      go (j ∷ ps) u e n =
          let m : 0 < times q (numbers (j ∷ ps)) = rw e at (last-in ps j.0) in
          let t = ap (times q) (map-append (λ (h : Numbered). h.0) (j ∷ ps) bs) ∙ times-append q (numbers (j ∷ ps)) (numbers bs) in
          let i = in-range most_readings q (numbers ((j ∷ ps) ++ bs)) u (omega (arith, t, m)) in
          let o = n q i.0 i.1 in
          record { fits = i.1; itself = omega (arith, o, times-other q 0 (numbers (j ∷ ps)) (λ w. omega (arith, i.0))); held = omega (arith, o, m); free = omega (arith, o, m) }

  -- what follows q is ds now, and the free chain is gs
  remade : (f g : ℕ) (r' : List Reading) (ds held : List Numbered) (gs : List ℕ) → Differ rs.records r' f q → times f (0 ∷ numbers ps) ≡ 0
      → Chain r' (next_at r' q) ds → Chain r' g (map unused gs)
      → ((k : ℕ) → times k (numbers ds) + times k gs ≡ times k (numbers bs) + times k fs)
      → ps ++ ds ≡ held → Rising (entries held) → Rep (record { records = r'; free = g }) (lists held gs)
  remade f g r' ds held gs d n c h t w v =
      record {
        size = d.size ∙ x.size;
        head = d.stays 0 (not_first f 0 (numbers ps) n) ∙ x.head;
        held-chain = rw (← w) (joined rs.records r' f q d bs ds c ps 0 s.at n behind.itself x.held-chain);
        free-chain = h;
        once = λ k a b.
            rw (← w)
            (let e = ap (times k) (map-append (λ (h : Numbered). h.0) ps ds) ∙ times-append k (numbers ps) (numbers ds) in
            omega (arith, e, t k, counted k a b));
        rising = v;
      }

-- ---- the three stores

module _ (rs : Readings) (id : ℕ) (v : Stored) (q : ℕ) (ps : List Numbered) where
  -- a new id in the first free record
  pub linked : (bs : List Numbered) (f : ℕ) (fs : List ℕ) → Rep rs (lists (ps ++ bs) (f ∷ fs)) → Split rs.records id 0 q ps bs
      → (held : List Numbered) → ps ++ ((f, entry id v) ∷ bs) ≡ held → Rising (entries held) → Rep (linked_at rs q f id v) (lists held fs)
  linked bs f fs x s held w u =
      let r = rs.records in
      let c = x.free-chain in
      let b = behind rs id q ps bs (f ∷ fs) x s in
      let y = reading (entry id v) (next_at r q) in
      let lf : f < length r = omega (arith, x.size, c.2) in
      let lq : q < length r = omega (arith, x.size, b.fits) in
      let r' = relinked r f y q f lf lq in
      let d = relinked-differ r f y q f lf lq in
      let n = counted rs id q ps bs (f ∷ fs) x s f c.1 c.2 in
      let m = times-here f fs in
      let t : rec_at r' f ≡ y = relinked-first r f y q f lf lq (λ e. not_first q f fs b.free e) in
      remade rs id q ps bs (f ∷ fs) x s f (next_at r f) r' ((f, entry id v) ∷ bs) held fs d
      (times-other f 0 (numbers ps) (λ e. omega (arith, c.1)) ∙ omega (arith, n, m)) (
        relinked-next r f y q f lf lq,
        c.1,
        c.2,
        ap entry_in t,
        rw (ap (λ (z : Reading). z.next) t) (away r r' f q d bs (next_at r q) (omega (arith, n, m)) b.held s.rest),
      )
      (away r r' f q d (map unused fs) (next_at r f) (rw (numbers-unused fs) (omega (arith, n, m))) (rw (numbers-unused fs) (omega (arith, b.free, times_more q f fs))) c.4)
      (λ k. times-move k f (numbers bs) fs) w u

  module _ (j : Numbered) (bs : List Numbered) (fs : List ℕ) (x : Rep rs (lists (ps ++ (j ∷ bs)) fs)) (s : Split rs.records id 0 q ps (j ∷ bs)) where
    none : (times j.0 (numbers ps) ≡ 0) × (times j.0 (numbers bs) ≡ 0) × (times j.0 fs ≡ 0)
    none =
        let n = counted rs id q ps (j ∷ bs) fs x s j.0 s.rest.1 s.rest.2 in
        let m = times-here j.0 (numbers bs) in
        (omega (arith, n, m), omega (arith, n, m), omega (arith, n, m))

    fits : j.0 < length rs.records
    fits = omega (arith, x.size, s.rest.2)

    apart : Not q j.0
    apart = not_first q j.0 (numbers bs) (behind rs id q ps (j ∷ bs) fs x s).held

    back : times q (numbers bs) ≡ 0
    back = omega (arith, (behind rs id q ps (j ∷ bs) fs x s).held, times_more q j.0 (numbers bs))

    below : times j.0 (0 ∷ numbers ps) ≡ 0
    below = times-other j.0 0 (numbers ps) (λ e. omega (arith, s.rest.1)) ∙ none.0

    -- the record's chains in records that differ there
    rest_in : (r' : List Reading) → Differ rs.records r' j.0 q → Chain r' (next_at rs.records j.0) bs
    rest_in r' d = away rs.records r' j.0 q d bs (next_at rs.records j.0) none.1 back s.rest.4

    free_in : (r' : List Reading) → Differ rs.records r' j.0 q → Chain r' rs.free (map unused fs)
    free_in r' d =
        away rs.records r' j.0 q d (map unused fs) rs.free (rw (numbers-unused fs) none.2)
        (rw (numbers-unused fs) (behind rs id q ps (j ∷ bs) fs x s).free) x.free-chain

    -- the record's value replaced
    pub replaced : (held : List Numbered) → ps ++ ((j.0, entry id v) ∷ bs) ≡ held → Rising (entries held) → Rep (replaced_at rs j.0 id v) (lists held fs)
    replaced held w u =
        let r = rs.records in
        let y = reading (entry id v) (next_at r j.0) in
        let d = stored-differ r j.0 y q in
        let t = set_same r j.0 y fits in
        remade rs id q ps (j ∷ bs) fs x s j.0 rs.free (set r j.0 y) ((j.0, entry id v) ∷ bs) held fs d below (
          ap (λ (z : Reading). z.next) (set_other r j.0 y q (λ e. apart (sym e))) ∙ s.rest.0,
          s.rest.1,
          s.rest.2,
          ap entry_in t,
          rw (ap (λ (z : Reading). z.next) t) (rest_in (set r j.0 y) d),
        )
        (free_in (set r j.0 y) d)
        (λ k. refl) w u

    -- the record taken out
    pub unlinked : (held : List Numbered) → ps ++ bs ≡ held → Rising (entries held) → Rep (unlinked_at rs q j.0) (lists held (j.0 ∷ fs))
    unlinked held w u =
        let r = rs.records in
        let y = free_record rs.free in
        let n = next_at r j.0 in
        let lq : q < length r = omega (arith, x.size, (behind rs id q ps (j ∷ bs) fs x s).fits) in
        let r' = relinked r j.0 y q n fits lq in
        let d = relinked-differ r j.0 y q n fits lq in
        let t : rec_at r' j.0 ≡ y = relinked-first r j.0 y q n fits lq apart in
        remade rs id q ps (j ∷ bs) fs x s j.0 j.0 r' bs held (j.0 ∷ fs) d below
        (rw (relinked-next r j.0 y q n fits lq) (rest_in r' d))
        (refl, s.rest.1, s.rest.2, ap entry_in t, rw (ap (λ (z : Reading). z.next) t) (free_in r' d))
        (λ k. sym (times-move k j.0 (numbers bs) fs)) w u
