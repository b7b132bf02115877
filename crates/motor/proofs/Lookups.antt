-- What is looked up after an insert and after a remove. Assumes nothing.
use Rattle.std.proofs.Common.{◌≡◌, ℕ, Bool, true, false, cond, eqb, ltb, List, [], ◌∷◌, sym, refl, ◌∙◌, arith, ltb-true, eq-eqb, ne_eqb, eqb-true, Some, None}
use Rattle.motor.specs.declared.engine.reading.Stored.{Stored}
use Rattle.motor.specs.declared.readings.Entry.{Entry}
use Rattle.motor.specs.Readings.{entry, lookup, insert, remove, Rising}
use Rattle.motor.proofs.Entries.{holds-above, lookup-none}

module _ (id : ℕ) (s : Stored) where
  pub lookup-insert : (l : List Entry) → lookup id (insert id s l) ≡ Some s
  lookup-insert [] = rw (eq-eqb id id refl)
  lookup-insert (e ∷ es) = go (ltb e.id id) refl (lookup-insert es)
    where
      go : (b : Bool) → ltb e.id id ≡ b → lookup id (insert id s es) ≡ Some s
          → lookup id (cond b (e ∷ insert id s es) (entry id s ∷ cond (eqb e.id id) es (e ∷ es))) ≡ Some s
      go true p i = rw (ne_eqb e.id id (λ z. omega (arith, ltb-true e.id id p, z))) i
      go false p i = rw (eq-eqb id id refl)

  pub lookup-insert-other : (k : ℕ) → (id ≡ k → ⊥) → (l : List Entry) → lookup k (insert id s l) ≡ lookup k l
  lookup-insert-other k d [] = rw (ne_eqb id k d)
  lookup-insert-other k d (e ∷ es) = go (ltb e.id id) (eqb e.id id) refl (lookup-insert-other k d es)
    where
      go : (b c : Bool) → eqb e.id id ≡ c → lookup k (insert id s es) ≡ lookup k es
          → lookup k (cond b (e ∷ insert id s es) (entry id s ∷ cond c es (e ∷ es))) ≡ lookup k (e ∷ es)
      go true c q i = rw i
      go false true q i = rw (ne_eqb id k d, ne_eqb e.id k (λ z. d (sym (eqb-true e.id id q) ∙ z)))
      go false false q i = rw (ne_eqb id k d)

module _ (id : ℕ) where
  pub lookup-remove : (l : List Entry) → Rising l → lookup id (remove id l) ≡ None
  lookup-remove [] r = refl
  lookup-remove (e ∷ es) r = go (eqb e.id id) refl (lookup-remove es r.1)
    where
      go : (b : Bool) → eqb e.id id ≡ b → lookup id (remove id es) ≡ None → lookup id (cond b es (e ∷ remove id es)) ≡ None
      go true p i = lookup-none id es (rw (← eqb-true e.id id p) (holds-above e.id es r.0))
      go false p i = rw p i

  pub lookup-remove-other : (k : ℕ) → (id ≡ k → ⊥) → (l : List Entry) → lookup k (remove id l) ≡ lookup k l
  lookup-remove-other k d [] = refl
  lookup-remove-other k d (e ∷ es) = go (eqb e.id id) refl (lookup-remove-other k d es)
    where
      go : (b : Bool) → eqb e.id id ≡ b → lookup k (remove id es) ≡ lookup k es → lookup k (cond b es (e ∷ remove id es)) ≡ lookup k (e ∷ es)
      go true p i = rw (ne_eqb e.id k (λ z. d (sym (eqb-true e.id id p) ∙ z)))
      go false p i = rw i
