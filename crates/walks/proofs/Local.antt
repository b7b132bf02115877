-- A local that holds a value of a type of one machine value (ThinWalk's Held) is lent as `&mut` for a lifetime κ, and comes back once κ is over.
--     lends_local      (b, 0) ↦ z  ⊢ ⇛ ∃ γ. own (the `&κ mut Z` ((b, 0), γ, z)) ∗ the lender's part        z is a value of Z
--     local_back       [†κ] ∗ the lender's part ∗ res γ z  ⊢ ⇛ ((b, 0) ↦ z), and z is a value of Z
--     env-of           the environment of a function's locals, at the blocks where they lie
--     locals-at        the context of a function's locals at those blocks, the last first: a cell with its value, or room, each with what frees it; then Γ
--     no-more-said     a goal P ∗ emp: P is left
use mathlib.Core.List.{List, [], ◌∷◌}
use mathlib.Core.Option.{Option, none, some as just}
use Prim.Native.Nat.{ℕ}
use seplogic.Ra.Ura.{Ura}
use base.Fraction.{full_share}
use mir.Syntax.{Ty, Lifetime, Local, local}
use mir.Val.{Val, vptr}
use base.Logic.{SProp, ent, sep, ex, guard, emp, via, emp∗, comm∗}
use base.Fml.{Lft, GName, Fml, fsep, fat, froom, fdies, flent}
use prog.Wp.{Heap, Env}
use types.Logic.{Logic, sem}
use types.Kit.{Item, ‵, Step, prop, ◌$◌, ◌∵◌, !, qed, by, move, use1, drop, fsplit, fjoin, fpick, fpack, check, suffices, done}
use types.SemTy.{Body}
use denote.Laws.{Is, shows}
use denote.Memory.{part_at, cell_at, mem, part_of}
use denote.Ref.{MutRef}
use denote.Steps.{peeks, owned}
use denote.Struct.Steps.{spelt}
use denote.Lend.{lends_ref, ref_back}
use Rattle.walks.proofs.ThinWalk.{Held, row, Known}

abbrev pub env-of : {M : Type 1} (𝓤 : Ura M) (H : Heap 𝓤) → List Local → List ℕ → Env 𝓤 H
env-of 𝓤 H [] bs = []
env-of 𝓤 H (x ∷ xs) [] = []
env-of 𝓤 H (local τ h ∷ xs) (b ∷ bs) = (τ, b) ∷ env-of 𝓤 H xs bs

abbrev in_cell : {M : Type 1} (𝓤 : Ura M) → Ty → ℕ → Option Val → Item 𝓤
in_cell 𝓤 τ b none = ‵ (froom τ b 0)
in_cell 𝓤 τ b (just v) = ‵ (fat full_share τ b 0 v)

abbrev pub locals-at : {M : Type 1} (𝓤 : Ura M) → List Local → List ℕ → List (Option Val) → List (Item 𝓤) → List (Item 𝓤)
locals-at 𝓤 [] bs vs Γ = Γ
locals-at 𝓤 (x ∷ xs) [] vs Γ = Γ
locals-at 𝓤 (x ∷ xs) (b ∷ bs) [] Γ = Γ
locals-at 𝓤 (local τ h ∷ xs) (b ∷ bs) (v ∷ vs) Γ = locals-at 𝓤 xs bs vs (in_cell 𝓤 τ b v ∷ ‵ (fdies τ b) ∷ Γ)

pub no-more-said : {M : Type 1} {𝓤 : Ura M} {𝓛 : Logic 𝓤} {K : Type 0} {Γ : List (Item 𝓤)} → K → {P : SProp 𝓤} → Step K 𝓛 Γ (prop P) Γ (prop (sep 𝓤 P (emp 𝓤)))
no-more-said {𝓤 = 𝓤} t {P} = suffices t P (via 𝓤 (sep 𝓤 (emp 𝓤) P) (emp∗ 𝓤 P) (comm∗ 𝓤 (emp 𝓤) P))

module _ (Z : Held) (b : ℕ) where
  abbrev pub cell : Z.Denot → Fml
  cell z = fat full_share Z.ty b 0 (Z.val z)

  abbrev pub lent_ref : Lifetime → Lft → GName → Z.Denot → Fml
  lent_ref ℓ κ γ z = (MutRef ℓ κ (row Z)).own_val (record { ref_ptr = (b, 0); ghost_name = γ; now = z }) (vptr b 0 ∷ [])

  abbrev pub lenders : Lft → GName → Fml
  lenders κ γ = flent κ (Body (mem (row Z)) b 0 γ)

  module _ {M : Type 1} {𝓤 : Ura M} (𝓛 : Logic 𝓤) (Zk : Known 𝓛 Z) where
    open 𝓛 use {H, A}

    local-in : (z : Z.Denot) → Is (row Z) z (Z.val z ∷ []) → ent 𝓤 (sem 𝓛 (cell z)) (sem 𝓛 (part_at (row Z) full_share z b 0))
    unfolding part_of
    local-in z p =
        qed 𝓛 (‵ (cell z) ∷ []) ∵ use1 𝓛 (‵ (cell_at full_share (Z.ty ∷ []) (Z.val z ∷ []) b 0)) (𝓛.laws.at_raw full_share Z.ty b 0 (Z.val z)) $
        owned ! (row Z) (Is (row Z)) Zk.makes z (Z.val z ∷ []) p $ move ! (1 ∷ 0 ∷ []) $ fjoin ! $ fpack ! (List Val) (λ us. fsep (cell_at full_share (Z.ty ∷ []) us b 0) (Z.own_val z us)) (Z.val z ∷ []) $ done !

    local_out : (z : Z.Denot) → ent 𝓤 (sem 𝓛 (part_at (row Z) full_share z b 0)) (guard 𝓤 (Is (row Z) z (Z.val z ∷ [])) (sem 𝓛 (cell z)))
    unfolding part_of
    local_out z =
        qed 𝓛 (‵ (part_at (row Z) full_share z b 0) ∷ []) ∵ fpick ! (λ vs. fsplit ! $
        spelt ! (row Z) (Is (row Z)) (shows 𝓛 (row Z)) (λ y. Z.val y ∷ []) Zk.tells full_share z vs b 0 $ move ! (1 ∷ []) $
        peeks ! (row Z) (Is (row Z)) (shows 𝓛 (row Z)) z (Z.val z ∷ []) (λ g. drop ! $ check ! g $ by ! (𝓛.laws.raw_at full_share Z.ty b 0 (Z.val z))))

    pub lends_local : (ℓ : Lifetime) (κ : Lft) (z : Z.Denot) → Is (row Z) z (Z.val z ∷ [])
        → ent 𝓤 (sem 𝓛 (cell z)) (H.⇛ (ex 𝓤 (λ (γ : GName). sep 𝓤 (sem 𝓛 (lent_ref ℓ κ γ z)) (sem 𝓛 (lenders κ γ)))))
    lends_local ℓ κ z p = via 𝓤 _ (local-in z p) (lends_ref 𝓛 (row Z) ℓ κ z b 0)

    pub local_back : (κ : Lft) (γ : GName) (z : Z.Denot)
        → ent 𝓤 (sep 𝓤 (A.dead κ) (sep 𝓤 (sem 𝓛 (lenders κ γ)) (A.res γ (Z.coded.code z)))) (H.⇛ (guard 𝓤 (Is (row Z) z (Z.val z ∷ [])) (sem 𝓛 (cell z))))
    local_back κ γ z = via 𝓤 _ (ref_back 𝓛 (row Z) κ γ z b 0) (𝓛.laws.⇛_mono _ _ (local_out z))
