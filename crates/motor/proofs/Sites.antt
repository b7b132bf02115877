-- The place of an id, as it is read from the records, names the record that holds it. Assumes nothing.
use Rattle.std.proofs.Common.{◌≡◌, ℕ, ◌-◌, ◌<◌, ◌≤◌, Bool, true, false, cond, ◌⊎◌, inl, inr, eqb, ltb, List, Option, Some, None, sym, refl, ◌∙◌, ltb-false, ltb-true, eqb-true, ne_eqb, option_map}
use borrow.Author.Tests.{eqb-false}
use Rattle.motor.specs.declared.readings.Reading.{Reading}
use Rattle.motor.specs.declared.readings.Readings.{Readings}
use Rattle.motor.specs.declared.readings.Site.{Site}
use Rattle.motor.specs.Limits.{most_readings}
use Rattle.motor.specs.Readings.{free_record, rec_at, next_at, id_at, holder_at, seek_from, seek_of, holder_of, index_of, record_index, site_of, holder_in, found_at, find_of, stored_at, with_next, drop_at, drop_id}
use Rattle.motor.proofs.Search.{stop-zero, stop-out, stop-id, step-on}

-- a number that a record has, and one that none has
pub index-in : (n k : ℕ) → Some k ≡ index_of n → (k ≡ n) × (n ≡ 0 → ⊥) × (n ≤ most_readings)
unfolding index_of
index-in n k h = go (eqb n 0) (ltb most_readings n) refl refl
  where
    go : (z o : Bool) → eqb n 0 ≡ z → ltb most_readings n ≡ o → (k ≡ n) × (n ≡ 0 → ⊥) × (n ≤ most_readings)
    go true o a b = let t = rw a at h in let z : ⊥ = cc in absurd z
    go false true a b = let t = rw (a, b) at h in let z : ⊥ = cc in absurd z
    go false false a b = let t = rw (a, b) at h in (cc, eqb-false n 0 a, ltb-false most_readings n b)

pub index-out : (n : ℕ) → None ≡ index_of n → (n ≡ 0) ⊎ (most_readings < n)
unfolding index_of
index-out n h = go (eqb n 0) (ltb most_readings n) refl refl
  where
    go : (z o : Bool) → eqb n 0 ≡ z → ltb most_readings n ≡ o → (n ≡ 0) ⊎ (most_readings < n)
    go true o a b = inl (eqb-true n 0 a)
    go false true a b = inr (ltb-true most_readings n b)
    go false false a b = let t = rw (a, b) at h in let z : ⊥ = cc in absurd z

holder-next : (site : Site) (id k : ℕ) → Some k ≡ holder_in site id → Some k ≡ index_of site.next
unfolding holder_in
holder-next site id k h = go (eqb site.there.id id) refl
  where
    go : (b : Bool) → eqb site.there.id id ≡ b → Some k ≡ index_of site.next
    go true a = rw a at h
    go false a = let t = rw a at h in let z : ⊥ = cc in absurd z

-- the search at record p, with k steps left: no record is next, or the next one is past the place of id, or before it
module _ (r : List Reading) (id k p : ℕ) where
  pub seek-none : None ≡ index_of (next_at r p) → seek_from k r id p ≡ p
  seek-none h = go (index-out _ h)
    where
      go : (next_at r p ≡ 0) ⊎ (most_readings < next_at r p) → seek_from k r id p ≡ p
      go (inl e) = stop-zero r id k p e
      go (inr l) = stop-out r id k p l

  module _ (n : ℕ) (h : Some n ≡ index_of (next_at r p)) where
    pub seek-past : id ≤ id_at r n → seek_from k r id p ≡ p
    seek-past l = let i = index-in _ n h in stop-id r id k p i.1 i.2 (rw i.0 at l)

    pub seek-next : 0 < k → id_at r n < id → seek_from (k - 1) r id n ≡ seek_from k r id p
    seek-next z l = let i = index-in _ n h in rw i.0 (step-on r id k p z i.1 i.2 (rw i.0 at l))

module _ (rs : Readings) (id : ℕ) where
  abbrev n : ℕ
  n = next_at rs.records (seek_of rs id)

  pub site-before : (site_of rs id).before ≡ seek_of rs id
  unfolding site_of
  site-before = refl

  pub site-next : (site_of rs id).next ≡ n
  unfolding site_of
  site-next = refl

  pub site-free : (site_of rs id).free ≡ rs.free
  unfolding site_of
  site-free = refl

  pub site-after : ltb most_readings rs.free ≡ false → (site_of rs id).after_free ≡ next_at rs.records rs.free
  unfolding site_of record_index
  site-after e = rw e

  pub site-head : (site_of rs id).head ≡ rec_at rs.records 0
  unfolding site_of
  site-head = refl

  -- the record at the place holds the id where one of the chain does
  pub holder-none : eqb (holder_of rs id) 0 ≡ true → holder_in (site_of rs id) id ≡ None
  unfolding site_of holder_in index_of record_index holder_at
  holder-none = go (eqb n 0) (ltb most_readings n) (eqb (id_at rs.records n) id) refl refl refl
    where
      nothing : (b : Bool) → ◌≡◌ {A = Option ℕ} (cond b None None) None
      nothing true = refl
      nothing false = refl

      go : (z o i : Bool) → eqb n 0 ≡ z → ltb most_readings n ≡ o → eqb (id_at rs.records n) id ≡ i
          → eqb (holder_of rs id) 0 ≡ true → holder_in (site_of rs id) id ≡ None
      go true o i a b c h = rw a (nothing _)
      go false true i a b c h = rw (a, b) (nothing _)
      go false false false a b c h = rw (a, b, c)
      go false false true a b c h = let t = rw (a, b, c) at h in let z : ⊥ = cc in absurd z

  pub holder-some : eqb (holder_of rs id) 0 ≡ false → holder_in (site_of rs id) id ≡ Some (holder_of rs id)
  unfolding site_of holder_in index_of record_index holder_at
  holder-some = go (eqb n 0) (ltb most_readings n) (eqb (id_at rs.records n) id) refl refl refl
    where
      go : (z o i : Bool) → eqb n 0 ≡ z → ltb most_readings n ≡ o → eqb (id_at rs.records n) id ≡ i
          → eqb (holder_of rs id) 0 ≡ false → holder_in (site_of rs id) id ≡ Some (holder_of rs id)
      go true o i a b c h = let t = rw a at h in let z : ⊥ = cc in absurd z
      go false true i a b c h = let t = rw (a, b) at h in let z : ⊥ = cc in absurd z
      go false false false a b c h = let t = rw (a, b, c) at h in let z : ⊥ = cc in absurd z
      go false false true a b c h = rw (a, b, c)

  -- a record that holds the id is the one at its place
  pub holder-there : (holder_of rs id ≡ 0 → ⊥) → (site_of rs id).there ≡ rec_at rs.records (holder_of rs id)
  unfolding site_of record_index holder_at
  holder-there = go (eqb n 0) (ltb most_readings n) (eqb (id_at rs.records n) id) refl refl refl
    where
      go : (z o i : Bool) → eqb n 0 ≡ z → ltb most_readings n ≡ o → eqb (id_at rs.records n) id ≡ i
          → (holder_of rs id ≡ 0 → ⊥) → (site_of rs id).there ≡ rec_at rs.records (holder_of rs id)
      go true o i a b c h = absurd (h (rw a))
      go false true i a b c h = absurd (h (rw (a, b)))
      go false false false a b c h = absurd (h (rw (a, b, c)))
      go false false true a b c h = rw (a, b, c)

  -- the same of a place and a record that were found
  module _ (site : Site) (e : site ≡ site_of rs id) where
    pub found-none : None ≡ holder_in site id → holder_of rs id ≡ 0
    found-none h = go (eqb (holder_of rs id) 0) refl
      where
        go : (z : Bool) → eqb (holder_of rs id) 0 ≡ z → holder_of rs id ≡ 0
        go true a = eqb-true _ 0 a
        go false a = let t = rw (e, holder-some a) at h in let z : ⊥ = cc in absurd z

    pub found-some : (k : ℕ) → Some k ≡ holder_in site id → (k ≡ holder_of rs id) × (k ≡ 0 → ⊥) × (site.next ≡ k) × (site.there ≡ rec_at rs.records k)
    found-some k h = go (eqb (holder_of rs id) 0) refl
      where
        go : (z : Bool) → eqb (holder_of rs id) 0 ≡ z → (k ≡ holder_of rs id) × (k ≡ 0 → ⊥) × (site.next ≡ k) × (site.there ≡ rec_at rs.records k)
        go true a = let t = rw (e, holder-none a) at h in let z : ⊥ = cc in absurd z
        go false a =
            let t = rw (e, holder-some a) at h in
            let p : k ≡ holder_of rs id = cc in
            let i = index-in _ _ (holder-next site id k h) in
            (p, λ z. i.1 (sym i.0 ∙ z), sym i.0, rw (e, p) (holder-there (eqb-false _ 0 a)))

    pub found-held : (k : Option ℕ) → k ≡ holder_in site id → option_map (λ i. site.there.held) k ≡ find_of rs id
    unfolding found_at
    found-held None h = rw (found-none h)
    found-held (Some k) h = let f = found-some k h in rw (← f.0, ne_eqb k 0 f.1, f.3)

    pub dropped-none : None ≡ holder_in site id → rs ≡ drop_id rs id
    unfolding drop_at
    dropped-none h = rw (found-none h)

    -- the record that holds id is blank, the first free one, and linked out
    pub dropped-some : (k : ℕ) → Some k ≡ holder_in site id
        → with_next (stored_at rs k (free_record rs.free) site.next) site.before site.there.next ≡ drop_id rs id
    unfolding drop_at
    dropped-some k h = let f = found-some k h in rw (← f.0, ne_eqb k 0 f.1, f.2, f.3, e, site-before)
