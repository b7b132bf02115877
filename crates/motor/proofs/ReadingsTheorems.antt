-- Theorems on readings, by name. Assumes nothing.
use Rattle.std.proofs.Common.{◌≡◌, ℕ, ◌+◌, ◌<◌, ◌≤◌, true, false, ◌∷◌, ◌++◌, map, length, get_or, sym, refl, ◌∙◌, arith}
use Rattle.motor.specs.declared.engine.reading.Stored.{Stored}
use Rattle.motor.specs.declared.readings.Readings.{Readings}
use Rattle.motor.specs.Limits.{most_readings}
use Rattle.motor.specs.Readings.{holds, numbers, entries, Lists, record_of, take_out, put_in, drop_in, no_entry, times, unused, Rep, holder_of, put_of, drop_id}
use Rattle.motor.proofs.Times.{in-range, times-append}
use Rattle.motor.proofs.Entries.{rising-at, record-placed}
use Rattle.motor.proofs.Chains.{same_head}
use Rattle.motor.proofs.Links.{all-upto}
use Rattle.motor.proofs.ReadingsMeaning.{record-rep, put-rep, drop_rep}

module _ (rs : Readings) (ls : Lists) (x : Rep rs ls) where
  -- the ids along the chain rise: of two places the later one has the greater id
  pub rising : (i j : ℕ) → i < j → j < length (entries ls.held) → (get_or (entries ls.held) i no_entry).id < (get_or (entries ls.held) j no_entry).id
  rising = rising-at (entries ls.held) x.rising

  -- each of 1 to 96 stands in one of the two chains, and there once
  pub one-chain : (k : ℕ) → 1 ≤ k → k ≤ most_readings → times k (numbers ls.held) + times k ls.free ≡ 1
  one-chain = x.once

  -- and no other number stands in either
  pub no_other : (k : ℕ) → 0 < times k (numbers ls.held) + times k ls.free → (1 ≤ k) × (k ≤ most_readings)
  no_other k h =
      in-range most_readings k (numbers ls.held ++ ls.free)
      (all-upto rs ls.held ls.free x)
      (omega (arith, times-append k (numbers ls.held) ls.free))

-- ---- last freed first: after a drop of id, a put of a new id' takes the record that held id

module _ (ls : Lists) (id id' : ℕ) (s : Stored) (held : holds id (entries ls.held) ≡ true) (new : holds id' (entries (drop_in id ls).held) ≡ false) where
  -- the lists after the drop
  dropped : drop_in id ls ≡ record { held = take_out id ls.held; free = record_of id ls.held ∷ ls.free }
  dropped = rw held

  pub last-freed-first : (record_of id' (put_in id' s (drop_in id ls)).held ≡ record_of id ls.held) × ((put_in id' s (drop_in id ls)).free ≡ ls.free)
  last-freed-first =
      let n : holds id' (entries (take_out id ls.held)) ≡ false = rw dropped at new in
      rw (dropped, n) (record-placed (record_of id ls.held) id' s (take_out id ls.held) n, refl)

  -- the same of the records: the search finds id' where it found id, and the free chain begins as before
  pub last-freed-first-record : (rs : Readings) → Rep rs ls
      → (holder_of (put_of (drop_id rs id) id' s).readings id' ≡ holder_of rs id) × ((put_of (drop_id rs id) id' s).readings.free ≡ rs.free)
  last-freed-first-record rs x =
      let d = drop_in id ls in
      let p = put_in id' s d in
      let y = (put-rep (drop_id rs id) d.held d.free (drop_rep rs ls.held ls.free x id) id' s).rep in
      let rs' = (put_of (drop_id rs id) id' s).readings in (
        record-rep rs' p.held p.free y id' ∙ last-freed-first.0 ∙ sym (record-rep rs ls.held ls.free x id),
        same_head rs'.records rs.records rs'.free rs.free (map unused ls.free)
            (rw last-freed-first.1 at y.free-chain) x.free-chain,
      )
