-- A part of a value behind a reference: how it is reached, read and put. The part is the value itself, or a field of it.
use mathlib.Core.Path.{◌≡◌, refl, ◌∙◌, ap, subst}
use mathlib.Core.Bool.{Bool}
use Prim.Native.Nat.{ℕ, zero, suc, ◌+◌, ◌<◌}
use native.Mathlib.Nat.{not-suc-le-zero, le_of_suc-le-suc}
use mathlib.Core.List.{[], ◌∷◌, List}
use lib.Dec.{T}
use lib.ListN.{length, get_or, set, length-set}
use lib.Seq.{set-get_or}
use seplogic.Ra.Ura.{Ura}
use mir.Syntax.{Sym, Ty, ty_int, ty_bool, ty_array, ty_struct, tnil, tcons, w16, w64, Step as PStep}
use mir.Raw.{raw as raw_ty}
use mir.Val.{Val, vunit, vbool, vint, vfloat, vptr, vcode, vstruct, vnil, vcons, WT, has_ty}
use mir.Fields.{set_v}
use base.Logic.{SProp, ent, sep, wand, all, all_e, apply∗}
use base.Fml.{Share, fat}
use prog.Memory.{size}
use prog.Model.{elems}
use prog.Wp.{Env}
use types.Logic.{Logic}
use types.Kit.{Go, Item, ‵, raw, ◌⊛◌, mean, ◌$◌, ◌∵◌, !, qed, move, use1, use2, split, frame, each, assume, done}
use types.Run.{Walks as Ways}
use types.Part.{Part}
use denote.RattleType.{RattleType}
use denote.Laws.{Is, Makes}
use denote.Array.{array_val}
use denote.Index.{place}
use Rattle.walks.proofs.ThinWalk.{Held, row, uint}

-- what lies behind a reference is a cell at the raw form of its type
pub whole-raw : {M : Type 1} {𝓤 : Ura M} {𝓛 : Logic 𝓤} {K : Type 0} → K → {q : Share} {τ : Ty} {b o : ℕ} {v : Val} → Part {𝓤 = 𝓤} K 𝓛 (‵ (fat q (raw_ty τ) b o v)) q τ b o v (λ u. ‵ (fat q (raw_ty τ) b o u))
whole-raw {𝓤 = 𝓤} {𝓛 = 𝓛} t {q} {τ} {b} {o} {v} = record {
  out = qed 𝓛 (‵ (fat q (raw_ty τ) b o v) ∷ []) ∵ use1 𝓛 (‵ (fat q τ b o v)) (𝓛.laws.raw_at q τ b o v) $ frame ! $
      each ! (λ (u : Val). wand 𝓤 (𝓛.H.at q τ b o u) (𝓛.H.at q (raw_ty τ) b o u)) (λ u. assume {P = 𝓛.H.at q (raw_ty τ) b o u} ! (‵ (fat q τ b o u)) $ use1 𝓛 (‵ (fat q (raw_ty τ) b o u)) (𝓛.laws.at_raw q τ b o u) $ done !);
  same = refl;
}

-- a struct's value with another field
abbrev pub with-field : Val → ℕ → Val → Val
with-field vunit k u = vunit
with-field (vbool y) k u = vunit
with-field (vint w n) k u = vunit
with-field (vfloat f x) k u = vunit
with-field (vptr b o) k u = vunit
with-field (vcode t) k u = vunit
with-field (vstruct vs) k u = vstruct (set_v vs k u)

pub record Sight {M : Type 1} {𝓤 : Ura M} (𝓛 : Logic 𝓤) (S X : Held) (path : List PStep) (read : S.Denot → X.Denot) : Type 2 where
  pub off : ℕ → ℕ
  pub upd : S.Denot → Val → Val
  pub way : {Γ : List (Item 𝓤)} {E : Env 𝓤 𝓛.H} (b o : ℕ) → Ways (Go {0}) 𝓛 Γ E (S.ty, b, o) path (X.ty, b, off o)
  pub cell : (q : Share) (b o : ℕ) (h : S.Denot) → Part {𝓤 = 𝓤} (Go {0}) 𝓛 (‵ (fat q (raw_ty S.ty) b o (S.val h))) q X.ty b (off o) (X.val (read h)) (λ u. ‵ (fat q (raw_ty S.ty) b o (upd h u)))
  pub got : (h : S.Denot) → Is (row S) h (S.val h ∷ []) → Is (row X) (read h) (X.val (read h) ∷ [])

pub record Lens {M : Type 1} {𝓤 : Ura M} (𝓛 : Logic 𝓤) (S X : Held) (path : List PStep) (read : S.Denot → X.Denot) (put : S.Denot → X.Denot → S.Denot) : Type 2 where
  pub sight : Sight 𝓛 S X path read
  pub put_is : (h : S.Denot) (x : X.Denot) → sight.upd h (X.val x) ≡ S.val (put h x)
  pub made : (h : S.Denot) (x : X.Denot) → Is (row S) h (S.val h ∷ []) → Is (row X) x (X.val x ∷ []) → Is (row S) (put h x) (S.val (put h x) ∷ [])

-- ---- answers

-- a place, a part and two flags
abbrev pub route_ty_of : Sym → Held → Ty
route_ty_of ν D = ty_struct ν (tcons (ty_int w64) (tcons D.ty (tcons ty_bool (tcons ty_bool tnil))))

abbrev pub route_val_of : (D : Held) → ℕ → D.Denot → Bool → Bool → Val
route_val_of D i d x y = vstruct (vcons (vint w64 i) (vcons (D.val d) (vcons (vbool x) (vcons (vbool y) vnil))))

pub record Routes {M : Type 1} {𝓤 : Ura M} (𝓛 : Logic 𝓤) (D : Held) (Q : RattleType) (ν : Sym) (spot : Q.Denot → ℕ) (mid : Q.Denot → D.Denot) (quiet edits : Q.Denot → Bool) : Type 1 where
  pub fits : (r : Q.Denot) (u : Val) → Is Q r (u ∷ []) → T (has_ty (route_ty_of ν D) u) × WT u
  pub tells : (r : Q.Denot) (u : Val) → Is Q r (u ∷ []) → ◌≡◌ {A = List Val} (u ∷ []) (route_val_of D (spot r) (mid r) (quiet r) (edits r) ∷ [])
  pub makes : Makes 𝓛 Q (Is Q)

-- a part; an edit: a place and an element for it, a place and a number for it, and a number; and the reply
abbrev pub edited_ty_of : Sym → Sym → Held → Held → Held → Ty
edited_ty_of ν νe Y E O = ty_struct ν (tcons Y.ty (tcons (ty_struct νe (tcons (ty_int w64) (tcons E.ty (tcons (ty_int w64) (tcons (ty_int w16) (tcons (ty_int w16) tnil)))))) (tcons O.ty tnil)))

abbrev pub edited_val_of : (Y E O : Held) → Y.Denot → ℕ → E.Denot → ℕ → ℕ → ℕ → O.Denot → Val
edited_val_of Y E O y i e k l f z = vstruct (vcons (Y.val y) (vcons (vstruct (vcons (vint w64 i) (vcons (E.val e) (vcons (vint w64 k) (vcons (vint w16 l) (vcons (vint w16 f) vnil)))))) (vcons (O.val z) vnil)))

pub record Edits (Y E O : Held) (V₃ : RattleType) (ν νe : Sym) (st : V₃.Denot → Y.Denot) (at₁ : V₃.Denot → ℕ) (one-of : V₃.Denot → E.Denot) (at₂ link-of free-of : V₃.Denot → ℕ) (res : V₃.Denot → O.Denot) : Type 1 where
  pub fits : (v : V₃.Denot) (u : Val) → Is V₃ v (u ∷ []) → T (has_ty (edited_ty_of ν νe Y E O) u) × WT u
  pub tells : (v : V₃.Denot) (u : Val) → Is V₃ v (u ∷ []) → ◌≡◌ {A = List Val} (u ∷ []) (edited_val_of Y E O (st v) (at₁ v) (one-of v) (at₂ v) (link-of v) (free-of v) (res v) ∷ [])
  pub state : (v : V₃.Denot) (u : Val) → Is V₃ v (u ∷ []) → Is (row Y) (st v) (Y.val (st v) ∷ [])
  pub one : (v : V₃.Denot) (u : Val) → Is V₃ v (u ∷ []) → Is (row E) (one-of v) (E.val (one-of v) ∷ [])
  pub link : (v : V₃.Denot) (u : Val) → Is V₃ v (u ∷ []) → Is (row (uint w16)) (link-of v) (vint w16 (link-of v) ∷ [])
  pub free : (v : V₃.Denot) (u : Val) → Is V₃ v (u ∷ []) → Is (row (uint w16)) (free-of v) (vint w16 (free-of v) ∷ [])
  pub result : (v : V₃.Denot) (u : Val) → Is V₃ v (u ∷ []) → Is (row O) (res v) (O.val (res v) ∷ [])

-- ---- an element of an array within a value

module _ {M : Type 1} {𝓤 : Ura M} (𝓛 : Logic 𝓤) (q : Share) (τ : Ty) (b : ℕ) (d : Val) where
  -- element k with any value gives back the elements, with that value at k
  open 𝓛 use {H, A}

  abbrev Again : ℕ → List Val → ℕ → Val → SProp 𝓤
  Again o us k u = wand 𝓤 (H.at q τ b (place (size τ) o k) u) (elems 𝓤 H q τ b o (set us k u))

  one_out : (o : ℕ) (us : List Val) (k : ℕ) → k < length us
      → ent 𝓤 (elems 𝓤 H q τ b o us) (sep 𝓤 (H.at q τ b (place (size τ) o k) (get_or us k d)) (all 𝓤 (Again o us k)))
  one_out o [] k l = absurd (not-suc-le-zero l)
  one_out o (u ∷ us) zero l =
      qed 𝓛 (‵ (fat q τ b o u) ∷ raw (elems 𝓤 H q τ b (o + size τ) us) ∷ []) ∵ frame ! $
      each ! (Again o (u ∷ us) zero) (λ w. assume {P = elems 𝓤 H q τ b o (w ∷ us)} ! (‵ (fat q τ b o w)) $ done !)
  one_out o (u ∷ us) (suc k) l =
      qed 𝓛 (‵ (fat q τ b o u) ∷ raw (elems 𝓤 H q τ b (o + size τ) us) ∷ []) ∵ move ! (1 ∷ []) $
      use1 𝓛 (‵ (fat q τ b (place (size τ) (o + size τ) k) (get_or us k d)) ⊛ raw (all 𝓤 (Again (o + size τ) us k))) (one_out (o + size τ) us k (le_of_suc-le-suc l)) $ split ! $ frame ! $
      each ! (Again o (u ∷ us) (suc k)) (λ w. assume {P = elems 𝓤 H q τ b o (u ∷ set us k w)} ! (‵ (fat q τ b (place (size τ) (o + size τ) k) w)) $ move ! (1 ∷ []) $
      use1 𝓛 (raw (Again (o + size τ) us k w)) (all_e 𝓤 (Again (o + size τ) us k) w) $ move ! (1 ∷ 0 ∷ []) $
      use2 𝓛 (raw (elems 𝓤 H q τ b (o + size τ) (set us k w))) (apply∗ 𝓤 (H.at q τ b (place (size τ) (o + size τ) k) w) (elems 𝓤 H q τ b (o + size τ) (set us k w))) $ move ! (1 ∷ 0 ∷ []) $ done !)

  -- element k of an array's cell that p finds
  pub element : {i : Item 𝓤} {o : ℕ} {back : Val → Item 𝓤} (n : ℕ) (us : List Val) (k : ℕ) → length us ≡ n → k < length us
      → Part {𝓤 = 𝓤} (Go {0}) 𝓛 i q (ty_array τ n) b o (array_val us) back → Part {𝓤 = 𝓤} (Go {0}) 𝓛 i q τ b (place (size τ) o k) (get_or us k d) (λ u. back (array_val (set us k u)))
  element {i} {o} {back} n us k len l p = record {
    out = qed 𝓛 (i ∷ []) ∵ use1 𝓛 (‵ (fat q (ty_array τ n) b o (array_val us)) ⊛ raw (all 𝓤 Entry)) p.out $ split ! $
        use1 𝓛 (raw (elems 𝓤 H q τ b o us)) (𝓛.laws.at_elems q τ n b o us) $
        use1 𝓛 (‵ (fat q τ b (place (size τ) o k) (get_or us k d)) ⊛ raw (all 𝓤 (Again o us k))) (one_out o us k l) $ split ! $ frame ! $
        each ! (λ (u : Val). wand 𝓤 (H.at q τ b (place (size τ) o k) u) (mean 𝓛 (back (array_val (set us k u))))) (λ u. assume {P = mean 𝓛 (back (array_val (set us k u)))} ! (‵ (fat q τ b (place (size τ) o k) u)) $
        -- [the element's cell with u; the way back to the elements; the way back to the entry]
        move ! (1 ∷ []) $ use1 𝓛 (raw (Again o us k u)) (all_e 𝓤 (Again o us k) u) $ move ! (1 ∷ 0 ∷ []) $
        use2 𝓛 (raw (elems 𝓤 H q τ b o (set us k u))) (apply∗ 𝓤 (H.at q τ b (place (size τ) o k) u) (elems 𝓤 H q τ b o (set us k u))) $
        use1 𝓛 (‵ (fat q (ty_array τ n) b o (array_val (set us k u)))) (whole_again u) $
        move ! (1 ∷ []) $ use1 𝓛 (raw (Entry (array_val (set us k u)))) (all_e 𝓤 Entry (array_val (set us k u))) $ move ! (1 ∷ 0 ∷ []) $
        use2 𝓛 (back (array_val (set us k u))) (apply∗ 𝓤 (H.at q (ty_array τ n) b o (array_val (set us k u))) (mean 𝓛 (back (array_val (set us k u))))) $ done !);
    same = ap (λ (ws : List Val). back (array_val ws)) (set-get_or us k d) ∙ p.same;
  }
    where
      Entry : Val → SProp 𝓤
      Entry w = wand 𝓤 (H.at q (ty_array τ n) b o w) (mean 𝓛 (back w))

      whole_again : (u : Val) → ent 𝓤 (elems 𝓤 H q τ b o (set us k u)) (H.at q (ty_array τ n) b o (array_val (set us k u)))
      whole_again u = subst (λ (m : ℕ). ent 𝓤 (elems 𝓤 H q τ b o (set us k u)) (H.at q (ty_array τ m) b o (array_val (set us k u)))) (length-set us k u ∙ len) (𝓛.laws.elems_at q τ b o (set us k u))

-- a part, reached by the path tail, of each of n elements within a value: how it is reached and put
pub record Rows {M : Type 1} {𝓤 : Ura M} (𝓛 : Logic 𝓤) (S X : Held) (elem : Ty) (esize n : ℕ) (path tail : List PStep) (put : S.Denot → ℕ → X.Denot → S.Denot) : Type 2 where
  pub base : ℕ → ℕ
  pub rest : ℕ → ℕ
  pub array : Ty
  pub old : S.Denot → ℕ → Val
  pub upd : S.Denot → ℕ → Val → Val
  pub way : {Γ : List (Item 𝓤)} {E : Env 𝓤 𝓛.H} (b o : ℕ) → Ways (Go {0}) 𝓛 Γ E (S.ty, b, o) path (array, b, base o)
  pub on : {Γ : List (Item 𝓤)} {E : Env 𝓤 𝓛.H} (b o : ℕ) → Ways (Go {0}) 𝓛 Γ E (elem, b, o) tail (X.ty, b, rest o)
  pub cell : (q : Share) (b o : ℕ) (h : S.Denot) (k : ℕ) → Is (row S) h (S.val h ∷ []) → k < n
      → Part {𝓤 = 𝓤} (Go {0}) 𝓛 (‵ (fat q (raw_ty S.ty) b o (S.val h))) q X.ty b (rest (place esize (base o) k)) (old h k) (λ u. ‵ (fat q (raw_ty S.ty) b o (upd h k u)))
  pub put_is : (h : S.Denot) (k : ℕ) (x : X.Denot) → upd h k (X.val x) ≡ S.val (put h k x)
  pub made : (h : S.Denot) (k : ℕ) (x : X.Denot) → k < n → Is (row S) h (S.val h ∷ []) → Is (row X) x (X.val x ∷ []) → Is (row S) (put h k x) (S.val (put h k x) ∷ [])
