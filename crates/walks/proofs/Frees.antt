-- A function's locals, freed at once where it returns.
--     Homes            the locals at the end of a context, last first, each with what frees it: a cell with a value, or room
--     frees-behind     they are freed, and the n entries before them are left
use mathlib.Core.Path.{◌≡◌, subst}
use Prim.Native.Nat.{ℕ, zero, suc}
use mathlib.Core.List.{List, [], ◌∷◌}
use seplogic.Ra.Ura.{Ura}
use base.Fraction.{full_share}
use mir.Syntax.{Ty}
use mir.Val.{Val}
use base.Logic.{SProp, ent, sep, emp, via, id⊢, mono_r, comm∗, emp∗, snd∗}
use base.Fml.{fat, froom, fdies}
use prog.Wp.{Heap, Env, release}
use types.Logic.{Logic}
use types.Kit.{Go, Item, ‵, raw, ◌⊛◌, mean, ⋆, push, pop, prop, frees, Step, step, ◌$◌, ◌∵◌, !, qed, move, use1, split, join, frame, done}

pub data Homes {M : Type 1} (𝓤 : Ura M) (H : Heap 𝓤) : List (Item 𝓤) → Env 𝓤 H → Type 2 where
  none : Homes 𝓤 H [] []
  has : {τ : Ty} {b : ℕ} {v : Val} {Γ : List (Item 𝓤)} {R : Env 𝓤 H} → Homes 𝓤 H Γ R → Homes 𝓤 H (‵ (fat full_share τ b 0 v) ∷ ‵ (fdies τ b) ∷ Γ) ((τ, b) ∷ R)
  bare : {τ : Ty} {b : ℕ} {Γ : List (Item 𝓤)} {R : Env 𝓤 H} → Homes 𝓤 H Γ R → Homes 𝓤 H (‵ (froom τ b 0) ∷ ‵ (fdies τ b) ∷ Γ) ((τ, b) ∷ R)

module _ {M : Type 1} {𝓤 : Ura M} (𝓛 : Logic 𝓤) where
  -- the first local comes last in a context
  open 𝓛 use {H}

  abbrev pub back : Env 𝓤 H → Env 𝓤 H → Env 𝓤 H
  back [] E = E
  back (e ∷ R) E = back R (e ∷ E)

  -- a local is passed over: its room is set beside what is left to be said
  passed : (i : Item 𝓤) (τ : Ty) (b : ℕ) (Γ : List (Item 𝓤)) (Q : SProp 𝓤) → ent 𝓤 (mean 𝓛 i) (H.room τ b 0)
      → ent 𝓤 (sep 𝓤 (⋆ 𝓛 (i ∷ ‵ (fdies τ b) ∷ Γ)) Q) (sep 𝓤 (⋆ 𝓛 Γ) (sep 𝓤 (sep 𝓤 (H.room τ b 0) (H.dies τ b)) Q))
  passed i τ b Γ Q r =
      qed 𝓛 (raw (⋆ 𝓛 (i ∷ ‵ (fdies τ b) ∷ Γ)) ∷ raw Q ∷ []) ∵ use1 𝓛 (i ⊛ raw (⋆ 𝓛 (‵ (fdies τ b) ∷ Γ))) (pop 𝓛 i (‵ (fdies τ b) ∷ Γ)) $ split ! $ use1 𝓛 (‵ (froom τ b 0)) r $
      move ! (1 ∷ []) $ use1 𝓛 (‵ (fdies τ b) ⊛ raw (⋆ 𝓛 Γ)) (pop 𝓛 (‵ (fdies τ b)) Γ) $ split ! $ move ! (1 ∷ []) $ frame ! $ move ! (1 ∷ 0 ∷ []) $ join ! $ done !

  home : {Γ : List (Item 𝓤)} {R : Env 𝓤 H} → Homes 𝓤 H Γ R → (E : Env 𝓤 H) (P Q : SProp 𝓤) → ent 𝓤 Q (release 𝓤 H E P) → ent 𝓤 (sep 𝓤 (⋆ 𝓛 Γ) Q) (release 𝓤 H (back R E) P)
  home none E P Q h = via 𝓤 Q (snd∗ 𝓤 (emp 𝓤) Q) h
  home (has {τ} {b} {v} {Γ} t) E P Q h =
      via 𝓤 _ (passed (‵ (fat full_share τ b 0 v)) τ b Γ Q (𝓛.laws.at_room τ b 0 v)) (home t ((τ, b) ∷ E) P (sep 𝓤 (sep 𝓤 (H.room τ b 0) (H.dies τ b)) Q) (mono_r 𝓤 (sep 𝓤 (H.room τ b 0) (H.dies τ b)) h))
  home (bare {τ} {b} {Γ} t) E P Q h =
      via 𝓤 _ (passed (‵ (froom τ b 0)) τ b Γ Q (id⊢ 𝓤 (H.room τ b 0))) (home t ((τ, b) ∷ E) P (sep 𝓤 (sep 𝓤 (H.room τ b 0) (H.dies τ b)) Q) (mono_r 𝓤 (sep 𝓤 (H.room τ b 0) (H.dies τ b)) h))

  -- the first n entries of a context, and the others
  abbrev pub front : ℕ → List (Item 𝓤) → List (Item 𝓤)
  front zero Γ = []
  front (suc n) [] = []
  front (suc n) (i ∷ Γ) = i ∷ front n Γ

  abbrev pub behind : ℕ → List (Item 𝓤) → List (Item 𝓤)
  behind zero Γ = Γ
  behind (suc n) [] = []
  behind (suc n) (i ∷ Γ) = behind n Γ

  parted : (n : ℕ) (Γ : List (Item 𝓤)) → ent 𝓤 (⋆ 𝓛 Γ) (sep 𝓤 (⋆ 𝓛 (behind n Γ)) (⋆ 𝓛 (front n Γ)))
  parted zero Γ = via 𝓤 (sep 𝓤 (emp 𝓤) (⋆ 𝓛 Γ)) (emp∗ 𝓤 (⋆ 𝓛 Γ)) (comm∗ 𝓤 (emp 𝓤) (⋆ 𝓛 Γ))
  parted (suc n) [] = emp∗ 𝓤 (emp 𝓤)
  parted (suc n) (i ∷ Γ) =
      via 𝓤 (sep 𝓤 (mean 𝓛 i) (⋆ 𝓛 Γ)) (pop 𝓛 i Γ)
      (via 𝓤 (sep 𝓤 (⋆ 𝓛 (behind n Γ)) (sep 𝓤 (mean 𝓛 i) (⋆ 𝓛 (front n Γ))))
      (qed 𝓛 (i ∷ raw (⋆ 𝓛 Γ) ∷ []) ∵ move ! (1 ∷ []) $ use1 𝓛 (raw (⋆ 𝓛 (behind n Γ)) ⊛ raw (⋆ 𝓛 (front n Γ))) (parted n Γ) $ split ! $ frame ! $ move ! (1 ∷ 0 ∷ []) $ done !)
      (mono_r 𝓤 (⋆ 𝓛 (behind n Γ)) (push 𝓛 i (front n Γ))))

  pub frees-behind : (n : ℕ) {Γ : List (Item 𝓤)} {R E : Env 𝓤 H} {P : SProp 𝓤} → Homes 𝓤 H (behind n Γ) R → back R [] ≡ E → Step (Go {0}) 𝓛 (front n Γ) (prop P) Γ (frees E (prop P))
  frees-behind n {Γ} {R} {E} {P} t e =
      step (λ s. record { prf = via 𝓤 (sep 𝓤 (⋆ 𝓛 (behind n Γ)) (⋆ 𝓛 (front n Γ))) (parted n Γ) (subst (λ (F : Env 𝓤 H). ent 𝓤 (sep 𝓤 (⋆ 𝓛 (behind n Γ)) (⋆ 𝓛 (front n Γ))) (release 𝓤 H F P)) e (home t [] P (⋆ 𝓛 (front n Γ)) s.prf)) })
