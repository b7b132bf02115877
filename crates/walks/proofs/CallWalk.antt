-- A call on a lent station is right because it asks the ids of the eight places where it goes, and what it stores at that place, and what it returns, are the parts of the by-value function's answer there; the other places aren't touched. An edit stores a part of the place, one element of the array within it, a part of another, and a number.
use mathlib.Core.Path.{◌≡◌, refl, sym, ◌∙◌, subst}
use mathlib.Core.Bool.{Bool, true, false, not}
use Prim.Native.Nat.{ℕ, ◌*◌, ◌<◌, ◌^◌}
use native.Mathlib.Nat.{zero-add}
use mathlib.Core.List.{[], ◌∷◌, List}
use lib.Dec.{T, ltb, lit<}
use lib.ListN.{length, get_or, set, length-set}
use seplogic.Ra.Ura.{Ura}
use base.Fraction.{full_share}
use mir.Syntax.{Sym, Callee as Name, Ty, ty_ref, ty_ptr, ty_int, ty_bool, ty_array, mut, named, w16, w64, Fn, Body, Local, local, value_local, place, Step as PStep, deref, field, copy, int, int_big, rv_opd, aggregate, op2, mul, offset, unsigned, addr_of, seq, assign, call, cond, skip, return}
use mir.Raw.{raw as raw_ty}
use mir.Val.{Val, Fits, of_list, vint, vptr, vstruct}
use base.Logic.{SProp, ent, sep, emp, via, fst∗, id⊢, guard_i}
use base.Fml.{GName, Lft, Share, ftrue, fat, flft, fobs, fbor}
use prog.Wp.{Env, Calls, Loops, WpFn, Tables}
use types.Logic.{Logic, sem}
use contract.Lifetimes.{Lfts}
use contract.Monad.{fact}
use types.Kit.{‵, raw, at_ret, ◌⊛◌, some, later, ◌$◌, ◌∵◌, !, qed, by, move, drop, use1, split, join, pick, rewrite, fsplit, fsplit3, fjoin, fjoin3, feq_l, feq_i, suffices, frame, await, done}
use types.Run.{look, init, store, addr, bin, lit, stop, hop, fld, from, load, and_then, no_more, land, of_opd, assigns, first, branches, skips, exec, returns_within, returns, enter, alloc1, alloc0, params1, pass1, pass0}
use types.Part.{whole, sub, agg, look_in, store_in}
use types.SemTy.{Body as Borrowed}
use types.Share.{arr_parts}
use types.Mut.{open_ref, close_ref}
use sound.WpLaws.{FmC, fm_of, WpFn-mono}
use denote.RattleType.{RattleType, owns}
use denote.Exit.{yes}
use denote.Laws.{Is, shows}
use denote.Memory.{mem, shares, part_at, pointee}
use denote.Array.{Array, Array-Lawful, Array-Makes}
use denote.ArrayMemory.{Array-apart, Array-whole}
use denote.Index.{elem_out, elem_back, elem_put, place as place_of, place_is}
use denote.Plain.{uint_Makes, uint_Lawful}
use denote.Builtin.{u16}
use denote.Ref.{MutBor, MutRef, at_last, mut_vals, mut_Tells}
use denote.Signature.{Signature, plain, mut_ref_to}
use denote.Steps.{only, owned, peeks, heard, nothing}
use denote.Triple.Statement.{Contract, Triple}
use denote.Triple.Call.{calls_at}
use denote.Triple.Entry.{on_entry}
use denote.Triple.Spec.{Spec, Meets, triple_of}
use denote.Triple.Clauses.{Ended, Clauses, closing}
use denote.Triple.Walked.{Stays, stay_ref, stay_none, walk_of, AllGo, Goes-none, Goes-ref, ends_at, walked, walk_Meets}
use Rattle.walks.proofs.ThinWalk.{Held, row, still, uint, Known, Answers, answer_ty, beside}
use Rattle.walks.proofs.Frees.{has, bare, none as none_left, frees-behind}
use Rattle.walks.proofs.Lenses.{Sight, Lens, Rows, Routes, Edits, route_ty_of, route_val_of, edited_ty_of}

is_true : (b : Bool) → T b → b ≡ true
is_true true t = refl
is_true false t = absurd t

is_false : (b : Bool) → T (not b) → b ≡ false
is_false true t = absurd t
is_false false t = refl

in-eight : {n : ℕ} → n ≡ 8 → (k : ℕ) → k < 8 → k < n
in-eight e k l = subst (λ (m : ℕ). k < m) (sym e) l

abbrev values : List Ty → List Local
values [] = []
values (τ ∷ τs) = local τ value_local ∷ values τs

-- ---- the call

-- S is an element of what is lent, Y a part of it, E an element of the array of `rows` elements of `esize` bytes within it, P what is asked, O the reply, Q where it goes, V₁, V₃ and V₂ the answers of the by-value functions
module _ (S Y E P O D : Held) (Q V₁ V₂ V₃ : RattleType) (νq ν₁ ν₂ ν₃ νe : Sym) (spot : Q.Denot → ℕ) (mid : Q.Denot → D.Denot) (quiet edits : Q.Denot → Bool)
    (st₁ : V₁.Denot → Y.Denot) (res₁ : V₁.Denot → O.Denot) (st₂ : V₂.Denot → S.Denot) (res₂ : V₂.Denot → O.Denot) (st₃ : V₃.Denot → Y.Denot) (at₁ at₂ link free : V₃.Denot → ℕ) (one : V₃.Denot → E.Denot) (res₃ : V₃.Denot → O.Denot)
    (ident-path part-path rows-path link-path free-path : List PStep) (esize rows : ℕ) (none : S.Denot) (ident : S.Denot → ℕ) (part : S.Denot → Y.Denot) (put-part : S.Denot → Y.Denot → S.Denot) (put_one : S.Denot → ℕ → E.Denot → S.Denot) (put-link : S.Denot → ℕ → ℕ → S.Denot) (put-free : S.Denot → ℕ → S.Denot)
    (route : List ℕ → P.Denot → Q.Denot) (f₁ : Y.Denot → P.Denot → Q.Denot → V₁.Denot) (f₂ : S.Denot → P.Denot → Q.Denot → V₂.Denot) (f₃ : S.Denot → P.Denot → V₃.Denot) where
  abbrev pub Eight : RattleType
  Eight = Array (row S) 8

  abbrev size : ℕ
  size = (mem (row S)).size

  abbrev elem_ty : Ty
  elem_ty = E.ty

  abbrev route_ty : Ty
  route_ty = route_ty_of νq D

  abbrev route_val : Q.Denot → Val
  route_val r = route_val_of D (spot r) (mid r) (quiet r) (edits r)

  abbrev edited_ty : Ty
  edited_ty = edited_ty_of ν₃ νe Y E O

  abbrev ids : List S.Denot → List ℕ
  ids xs = ident (get_or xs 0 none) ∷ ident (get_or xs 1 none) ∷ ident (get_or xs 2 none) ∷ ident (get_or xs 3 none) ∷ ident (get_or xs 4 none) ∷ ident (get_or xs 5 none) ∷ ident (get_or xs 6 none) ∷ ident (get_or xs 7 none) ∷ []

  -- what an edit makes of a value
  abbrev pub edited : S.Denot → V₃.Denot → S.Denot
  edited h v = put-free (put-link (put_one (put-part h (st₃ v)) (at₁ v) (one v)) (at₂ v) (link v)) (free v)

  abbrev pub ended : Ended
  ended = record {
    signature = record {
      lifetimes = 1;
      outlives = [];
      params = mut_ref_to (0 ∷ []) tt (plain (λ _. Eight)) ∷ plain (λ _. still P) ∷ [];
      result = plain (λ _. row O);
    };
    kept = (yes, (yes, tt));
  }

  abbrev eights : PStep
  eights = deref (ty_array S.ty 8)

  -- the element is copied out and stored back
  abbrev whole-arm : Name → Body
  whole-arm #visited =
      (seq (assign (place 59 []) (op2 (mul unsigned) (copy (place 5 [])) (int_big w64 size))) (seq (assign (place 60 []) (addr_of (place 1 (eights ∷ [])))) (seq (assign (place 61 []) (op2 offset (copy (place 60 [])) (copy (place 59 []))))
      (seq (assign (place 62 []) (rv_opd (copy (place 61 (deref S.ty ∷ [])))))
      (seq (call #visited (copy (place 62 []) ∷ copy (place 2 []) ∷ copy (place 4 []) ∷ []) (place 10 []))
      (seq (assign (place 59 []) (op2 (mul unsigned) (copy (place 5 [])) (int_big w64 size))) (seq (assign (place 63 []) (addr_of (place 1 (eights ∷ [])))) (seq (assign (place 64 []) (op2 offset (copy (place 63 [])) (copy (place 59 []))))
      (seq (assign (place 64 (deref S.ty ∷ [])) (rv_opd (copy (place 10 (field 0 ∷ [])))))
      (seq (assign (place 0 []) (rv_opd (copy (place 10 (field 1 ∷ []))))) return))))))))))

  -- a part of it is
  abbrev quiet-arm : Name → Body
  quiet-arm #kept =
      (seq (assign (place 36 []) (op2 (mul unsigned) (copy (place 5 [])) (int_big w64 size))) (seq (assign (place 37 []) (addr_of (place 1 (eights ∷ [])))) (seq (assign (place 38 []) (op2 offset (copy (place 37 [])) (copy (place 36 []))))
      (seq (assign (place 39 []) (rv_opd (copy (place 38 (deref S.ty ∷ part-path)))))
      (seq (call #kept (copy (place 39 []) ∷ copy (place 2 []) ∷ copy (place 4 []) ∷ []) (place 6 []))
      (seq (assign (place 36 []) (op2 (mul unsigned) (copy (place 5 [])) (int_big w64 size))) (seq (assign (place 40 []) (addr_of (place 1 (eights ∷ [])))) (seq (assign (place 41 []) (op2 offset (copy (place 40 [])) (copy (place 36 []))))
      (seq (assign (place 41 (deref S.ty ∷ part-path)) (rv_opd (copy (place 6 (field 0 ∷ [])))))
      (seq (assign (place 0 []) (rv_opd (copy (place 6 (field 1 ∷ []))))) return))))))))))

  -- it is copied out, and what an edit changes is stored back
  abbrev edit-arm : Name → Body
  edit-arm #edited =
      (seq (assign (place 42 []) (op2 (mul unsigned) (copy (place 5 [])) (int_big w64 size))) (seq (assign (place 43 []) (addr_of (place 1 (eights ∷ [])))) (seq (assign (place 44 []) (op2 offset (copy (place 43 [])) (copy (place 42 []))))
      (seq (assign (place 45 []) (rv_opd (copy (place 44 (deref S.ty ∷ [])))))
      (seq (call #edited (copy (place 45 []) ∷ copy (place 2 []) ∷ []) (place 7 []))
      (seq (assign (place 42 []) (op2 (mul unsigned) (copy (place 5 [])) (int_big w64 size))) (seq (assign (place 46 []) (addr_of (place 1 (eights ∷ [])))) (seq (assign (place 47 []) (op2 offset (copy (place 46 [])) (copy (place 42 []))))
      (seq (assign (place 47 (deref S.ty ∷ part-path)) (rv_opd (copy (place 7 (field 0 ∷ [])))))
      (seq (assign (place 8 []) (rv_opd (copy (place 7 (field 1 ∷ field 0 ∷ [])))))
      (seq (assign (place 42 []) (op2 (mul unsigned) (copy (place 5 [])) (int_big w64 size))) (seq (assign (place 48 []) (addr_of (place 1 (eights ∷ [])))) (seq (assign (place 49 []) (op2 offset (copy (place 48 [])) (copy (place 42 [])))) (seq (assign (place 50 []) (op2 (mul unsigned) (copy (place 8 [])) (int w64 esize))) (seq (assign (place 51 []) (addr_of (place 49 (deref S.ty ∷ rows-path)))) (seq (assign (place 52 []) (op2 offset (copy (place 51 [])) (copy (place 50 []))))
      (seq (assign (place 52 (deref elem_ty ∷ [])) (rv_opd (copy (place 7 (field 1 ∷ field 1 ∷ [])))))
      (seq (assign (place 9 []) (rv_opd (copy (place 7 (field 1 ∷ field 2 ∷ [])))))
      (seq (assign (place 42 []) (op2 (mul unsigned) (copy (place 5 [])) (int_big w64 size))) (seq (assign (place 53 []) (addr_of (place 1 (eights ∷ [])))) (seq (assign (place 54 []) (op2 offset (copy (place 53 [])) (copy (place 42 [])))) (seq (assign (place 50 []) (op2 (mul unsigned) (copy (place 9 [])) (int w64 esize))) (seq (assign (place 55 []) (addr_of (place 54 (deref S.ty ∷ rows-path)))) (seq (assign (place 56 []) (op2 offset (copy (place 55 [])) (copy (place 50 []))))
      (seq (assign (place 56 (deref elem_ty ∷ link-path)) (rv_opd (copy (place 7 (field 1 ∷ field 3 ∷ [])))))
      (seq (assign (place 42 []) (op2 (mul unsigned) (copy (place 5 [])) (int_big w64 size))) (seq (assign (place 57 []) (addr_of (place 1 (eights ∷ [])))) (seq (assign (place 58 []) (op2 offset (copy (place 57 [])) (copy (place 42 []))))
      (seq (assign (place 58 (deref S.ty ∷ free-path)) (rv_opd (copy (place 7 (field 1 ∷ field 4 ∷ [])))))
      (seq (assign (place 0 []) (rv_opd (copy (place 7 (field 2 ∷ []))))) return))))))))))))))))))))))))))))))

  abbrev rest-code : Name → Name → Body
  rest-code #edited #visited = seq (assign (place 35 []) (rv_opd (copy (place 4 (field 3 ∷ []))))) (seq (cond (copy (place 35 [])) (edit-arm #edited) skip) (whole-arm #visited))

  abbrev pub code : Name → Name → Name → Name → Fn
  code #routed #kept #edited #visited = record {
    lifetimes = 1;
    outlives = [];
    ty_params = [];
    givens = 0;
    params = 2;
    locals = values (O.ty ∷ ty_ref (named 0) mut (pointee Eight.written) ∷ P.ty ∷ ty_array (ty_int w16) 8 ∷ route_ty ∷ ty_int w64 ∷ answer_ty ν₁ Y O ∷ edited_ty ∷ ty_int w64 ∷ ty_int w64 ∷ answer_ty ν₂ S O ∷ ty_ptr ∷ ty_ptr ∷ ty_int w16 ∷ ty_ptr ∷ ty_ptr ∷ ty_int w16 ∷ ty_ptr ∷ ty_ptr ∷ ty_int w16 ∷ ty_ptr ∷ ty_ptr ∷ ty_int w16 ∷ ty_ptr ∷ ty_ptr ∷ ty_int w16 ∷ ty_ptr ∷ ty_ptr ∷ ty_int w16 ∷ ty_ptr ∷ ty_ptr ∷ ty_int w16 ∷ ty_ptr ∷ ty_ptr ∷ ty_int w16 ∷ ty_bool ∷ ty_int w64 ∷ ty_ptr ∷ ty_ptr ∷ Y.ty ∷ ty_ptr ∷ ty_ptr ∷ ty_int w64 ∷ ty_ptr ∷ ty_ptr ∷ S.ty ∷ ty_ptr ∷ ty_ptr ∷ ty_ptr ∷ ty_ptr ∷ ty_int w64 ∷ ty_ptr ∷ ty_ptr ∷ ty_ptr ∷ ty_ptr ∷ ty_ptr ∷ ty_ptr ∷ ty_ptr ∷ ty_ptr ∷ ty_int w64 ∷ ty_ptr ∷ ty_ptr ∷ S.ty ∷ ty_ptr ∷ ty_ptr ∷ []);
    body =
        (seq (assign (place 11 []) (addr_of (place 1 (eights ∷ [])))) (seq (assign (place 12 []) (op2 offset (copy (place 11 [])) (int w64 0))) (seq (assign (place 13 []) (rv_opd (copy (place 12 (deref S.ty ∷ ident-path)))))
        (seq (assign (place 14 []) (addr_of (place 1 (eights ∷ [])))) (seq (assign (place 15 []) (op2 offset (copy (place 14 [])) (int_big w64 (1 * size)))) (seq (assign (place 16 []) (rv_opd (copy (place 15 (deref S.ty ∷ ident-path)))))
        (seq (assign (place 17 []) (addr_of (place 1 (eights ∷ [])))) (seq (assign (place 18 []) (op2 offset (copy (place 17 [])) (int_big w64 (2 * size)))) (seq (assign (place 19 []) (rv_opd (copy (place 18 (deref S.ty ∷ ident-path)))))
        (seq (assign (place 20 []) (addr_of (place 1 (eights ∷ [])))) (seq (assign (place 21 []) (op2 offset (copy (place 20 [])) (int_big w64 (3 * size)))) (seq (assign (place 22 []) (rv_opd (copy (place 21 (deref S.ty ∷ ident-path)))))
        (seq (assign (place 23 []) (addr_of (place 1 (eights ∷ [])))) (seq (assign (place 24 []) (op2 offset (copy (place 23 [])) (int_big w64 (4 * size)))) (seq (assign (place 25 []) (rv_opd (copy (place 24 (deref S.ty ∷ ident-path)))))
        (seq (assign (place 26 []) (addr_of (place 1 (eights ∷ [])))) (seq (assign (place 27 []) (op2 offset (copy (place 26 [])) (int_big w64 (5 * size)))) (seq (assign (place 28 []) (rv_opd (copy (place 27 (deref S.ty ∷ ident-path)))))
        (seq (assign (place 29 []) (addr_of (place 1 (eights ∷ [])))) (seq (assign (place 30 []) (op2 offset (copy (place 29 [])) (int_big w64 (6 * size)))) (seq (assign (place 31 []) (rv_opd (copy (place 30 (deref S.ty ∷ ident-path)))))
        (seq (assign (place 32 []) (addr_of (place 1 (eights ∷ [])))) (seq (assign (place 33 []) (op2 offset (copy (place 32 [])) (int_big w64 (7 * size)))) (seq (assign (place 34 []) (rv_opd (copy (place 33 (deref S.ty ∷ ident-path)))))
        (seq (assign (place 3 []) (aggregate (copy (place 13 []) ∷ copy (place 16 []) ∷ copy (place 19 []) ∷ copy (place 22 []) ∷ copy (place 25 []) ∷ copy (place 28 []) ∷ copy (place 31 []) ∷ copy (place 34 []) ∷ [])))
        (seq (call #routed (copy (place 3 []) ∷ copy (place 2 []) ∷ []) (place 4 []))
        (seq (assign (place 5 []) (rv_opd (copy (place 4 (field 0 ∷ [])))))
        (seq (assign (place 35 []) (rv_opd (copy (place 4 (field 2 ∷ []))))) (seq (cond (copy (place 35 [])) (quiet-arm #kept) skip) (rest-code #edited #visited))))))))))))))))))))))))))))));
  }

  abbrev stayed : Stays ended.signature.params ended.kept
  stayed = (stay_ref (0 ∷ []) tt (plain (λ _. Eight)), (stay_none (λ _. still P) yes, tt))

  abbrev Arg : Type 0
  Arg = MutBor (List S.Denot) × (P.Denot × Unit {0})

  -- the by-value functions' signatures
  abbrev by_value : RattleType → RattleType → Signature
  by_value X Z = record { lifetimes = 0; outlives = []; params = plain (λ _. X) ∷ plain (λ _. still P) ∷ plain (λ _. Q) ∷ []; result = plain (λ _. Z) }

  abbrev edited-signature : Signature
  edited-signature = record { lifetimes = 0; outlives = []; params = plain (λ _. row S) ∷ plain (λ _. still P) ∷ []; result = plain (λ _. V₃) }

  abbrev routed-signature : Signature
  routed-signature = record { lifetimes = 0; outlives = []; params = plain (λ _. Array u16 8) ∷ plain (λ _. still P) ∷ []; result = plain (λ _. Q) }

  module _ {M : Type 1} {𝓤 : Ura M} (𝓛 : Logic 𝓤) (promised : Lfts 1 → MutBor (List S.Denot) → P.Denot → O.Denot → MutBor (List S.Denot) → SProp 𝓤)
      (routed-ensures : List ℕ → P.Denot → Q.Denot → SProp 𝓤) (kept-ensures : Y.Denot → P.Denot → Q.Denot → V₁.Denot → SProp 𝓤) (visited-ensures : S.Denot → P.Denot → Q.Denot → V₂.Denot → SProp 𝓤) (edited-ensures : S.Denot → P.Denot → V₃.Denot → SProp 𝓤) where
    open 𝓛 use {H, A}

    abbrev pub clauses : Clauses 𝓤 ended
    clauses κs a = record { ghost = Unit {0}; requires = λ _. emp 𝓤; ensures = λ _ r end. promised κs a.0 a.1.0 r end.0 }

    abbrev routed-spec : Spec 𝓤 routed-signature
    routed-spec κs a = record { ghost = Unit {0}; requires = λ _. emp 𝓤; ensures = λ _ r. routed-ensures a.0 a.1.0 r }

    abbrev Routed : Contract 𝓤
    Routed = triple_of 𝓛 routed-signature routed-spec

    abbrev kept-spec : Spec 𝓤 (by_value (row Y) V₁)
    kept-spec κs a = record { ghost = Unit {0}; requires = λ _. emp 𝓤; ensures = λ _ r. kept-ensures a.0 a.1.0 a.1.1.0 r }

    abbrev Kept : Contract 𝓤
    Kept = triple_of 𝓛 (by_value (row Y) V₁) kept-spec

    abbrev visited-spec : Spec 𝓤 (by_value (row S) V₂)
    visited-spec κs a = record { ghost = Unit {0}; requires = λ _. emp 𝓤; ensures = λ _ r. visited-ensures a.0 a.1.0 a.1.1.0 r }

    abbrev Visited : Contract 𝓤
    Visited = triple_of 𝓛 (by_value (row S) V₂) visited-spec

    abbrev edited-spec : Spec 𝓤 edited-signature
    edited-spec κs a = record { ghost = Unit {0}; requires = λ _. emp 𝓤; ensures = λ _ r. edited-ensures a.0 a.1.0 r }

    abbrev Edited : Contract 𝓤
    Edited = triple_of 𝓛 edited-signature edited-spec

    module _ (size_fits : size < 2 ^ 64) (far : (i : ℕ) → i < 8 → i * size < 2 ^ 64) (small : (i : ℕ) → i < 8 → i < 2 ^ 64) (esize-fits : T (ltb esize (2 ^ 64))) (far-row : (k : ℕ) → k < rows → k * esize < 2 ^ 64) (small-row : (k : ℕ) → k < rows → k < 2 ^ 64)
        (routed-said : (is : List ℕ) (p : P.Denot) (r : Q.Denot) → ent 𝓤 (routed-ensures is p r) (fact 𝓤 ((r ≡ route is p) × (spot r < 8))))
        (kept-said : (y : Y.Denot) (p : P.Denot) (r : Q.Denot) (v : V₁.Denot) → ent 𝓤 (kept-ensures y p r v) (fact 𝓤 (v ≡ f₁ y p r)))
        (visited-said : (s : S.Denot) (p : P.Denot) (r : Q.Denot) (v : V₂.Denot) → ent 𝓤 (visited-ensures s p r v) (fact 𝓤 (v ≡ f₂ s p r)))
        (edited-said : (s : S.Denot) (p : P.Denot) (v : V₃.Denot) → ent 𝓤 (edited-ensures s p v) (fact 𝓤 ((v ≡ f₃ s p) × (at₁ v < rows) × (at₂ v < rows))))
        (Sk : Known 𝓛 S) (Yk : Known 𝓛 Y) (Ek : Known 𝓛 E) (Pk : Known 𝓛 P) (Ok : Known 𝓛 O) (Qk : Routes 𝓛 D Q νq spot mid quiet edits) (Vk₁ : Answers Y O V₁ ν₁ st₁ res₁) (Vk₂ : Answers S O V₂ ν₂ st₂ res₂) (Vk₃ : Edits Y E O V₃ ν₃ νe st₃ at₁ one at₂ link free res₃)
        (sight : Sight 𝓛 S (uint w16) ident-path ident) (state : Lens 𝓛 S Y part-path part put-part) (all : Lens 𝓛 S S [] (λ h. h) (λ h z. z))
        (ones : Rows 𝓛 S E E.ty esize rows rows-path [] put_one) (links : Rows 𝓛 S (uint w16) E.ty esize rows rows-path link-path put-link) (free-of : S.Denot → ℕ) (frees : Lens 𝓛 S (uint w16) free-path free-of put-free)
        (holds-quiet : (κs : Lfts 1) (m : MutBor (List S.Denot)) (a : P.Denot) (r : Q.Denot) (v : V₁.Denot) → length m.now ≡ 8 → r ≡ route (ids m.now) a → quiet r ≡ true
        → v ≡ f₁ (part (get_or m.now (spot r) none)) a r → ent 𝓤 (emp 𝓤) (promised κs m a (res₁ v) (at_last m (set m.now (spot r) (put-part (get_or m.now (spot r) none) (st₁ v))))))
        (holds-edit : (κs : Lfts 1) (m : MutBor (List S.Denot)) (a : P.Denot) (r : Q.Denot) (v : V₃.Denot) → length m.now ≡ 8 → r ≡ route (ids m.now) a → quiet r ≡ false → edits r ≡ true
        → v ≡ f₃ (get_or m.now (spot r) none) a → ent 𝓤 (emp 𝓤) (promised κs m a (res₃ v) (at_last m (set m.now (spot r) (edited (get_or m.now (spot r) none) v)))))
        (holds-whole : (κs : Lfts 1) (m : MutBor (List S.Denot)) (a : P.Denot) (r : Q.Denot) (v : V₂.Denot) → length m.now ≡ 8 → r ≡ route (ids m.now) a → quiet r ≡ false → edits r ≡ false
        → v ≡ f₂ (get_or m.now (spot r) none) a r → ent 𝓤 (emp 𝓤) (promised κs m a (res₂ v) (at_last m (set m.now (spot r) (st₂ v))))) where
      module _ (κ : Lft) (q : Share) (b o : ℕ) (γ : GName) (xs : List S.Denot) (a : P.Denot) (a-is : Is (still P) a (P.val a ∷ [])) where
        abbrev x : Arg
        x = (record { ref_ptr = (b, o); ghost_name = γ; now = xs }, (a, tt))

        abbrev at : List Val × (List Val × Unit {0})
        at = (vptr b o ∷ [], (P.val a ∷ [], tt))

        abbrev Post : Val → SProp 𝓤
        Post = (walk_of 𝓛 ended stayed clauses).post (((κ, tt), (q, tt), tt, x, at), tt)

        abbrev ids_val : Val
        ids_val = vstruct (of_list (vint w16 (ident (get_or xs 0 none)) ∷ vint w16 (ident (get_or xs 1 none)) ∷ vint w16 (ident (get_or xs 2 none)) ∷ vint w16 (ident (get_or xs 3 none)) ∷ vint w16 (ident (get_or xs 4 none)) ∷ vint w16 (ident (get_or xs 5 none)) ∷ vint w16 (ident (get_or xs 6 none)) ∷ vint w16 (ident (get_or xs 7 none)) ∷ []))

        -- the calls: what each is passed, and what it asks
        abbrev to-routed : Routed.Ghost
        to-routed = ((tt, tt, tt, (ids xs, (a, tt)), (ids_val ∷ [], (P.val a ∷ [], tt))), tt)

        goes-routed : Is (Array u16 8) (ids xs) (ids_val ∷ []) → ent 𝓤 (sem 𝓛 ftrue) (Routed.pre to-routed)
        goes-routed g = qed 𝓛 (‵ ftrue ∷ []) ∵ owned ! (still P) (Is (still P)) Pk.makes a _ a-is $ fjoin ! $ owned ! (Array u16 8) (Is (Array u16 8)) (Array-Makes 𝓛 u16 (uint_Makes 𝓛 w16) 8) (ids xs) _ g $ fjoin ! $ nothing ! $ join ! $ frame ! $ done !

        abbrev to-kept : S.Denot → Q.Denot → Kept.Ghost
        to-kept h r = ((tt, tt, tt, (part h, (a, (r, tt))), (Y.val (part h) ∷ [], (P.val a ∷ [], (route_val r ∷ [], tt)))), tt)

        goes_kept : (h : S.Denot) (r : Q.Denot) → Is (row Y) (part h) (Y.val (part h) ∷ []) → Is Q r (route_val r ∷ []) → ent 𝓤 (sem 𝓛 ftrue) (Kept.pre (to-kept h r))
        goes_kept h r g r-is = qed 𝓛 (‵ ftrue ∷ []) ∵ owned ! Q (Is Q) Qk.makes r _ r-is $ fjoin ! $ owned ! (still P) (Is (still P)) Pk.makes a _ a-is $ fjoin ! $ owned ! (row Y) (Is (row Y)) Yk.makes (part h) _ g $ fjoin ! $ nothing ! $ join ! $ frame ! $ done !

        abbrev to-visited : S.Denot → Q.Denot → Visited.Ghost
        to-visited h r = ((tt, tt, tt, (h, (a, (r, tt))), (S.val (h) ∷ [], (P.val a ∷ [], (route_val r ∷ [], tt)))), tt)

        goes-visited : (h : S.Denot) (r : Q.Denot) → Is (row S) (h) (S.val (h) ∷ []) → Is Q r (route_val r ∷ []) → ent 𝓤 (sem 𝓛 ftrue) (Visited.pre (to-visited h r))
        goes-visited h r g r-is = qed 𝓛 (‵ ftrue ∷ []) ∵ owned ! Q (Is Q) Qk.makes r _ r-is $ fjoin ! $ owned ! (still P) (Is (still P)) Pk.makes a _ a-is $ fjoin ! $ owned ! (row S) (Is (row S)) Sk.makes (h) _ g $ fjoin ! $ nothing ! $ join ! $ frame ! $ done !

        abbrev to-edited : S.Denot → Edited.Ghost
        to-edited h = ((tt, tt, tt, (h, (a, tt)), (S.val h ∷ [], (P.val a ∷ [], tt))), tt)

        goes-edited : (h : S.Denot) → Is (row S) h (S.val h ∷ []) → ent 𝓤 (sem 𝓛 ftrue) (Edited.pre (to-edited h))
        goes-edited h g = qed 𝓛 (‵ ftrue ∷ []) ∵ owned ! (still P) (Is (still P)) Pk.makes a _ a-is $ fjoin ! $ owned ! (row S) (Is (row S)) Sk.makes h _ g $ fjoin ! $ nothing ! $ join ! $ frame ! $ done !

        exits : (y : O.Denot) (zs : List S.Denot) → Is (row O) y (O.val y ∷ []) → ent 𝓤 (emp 𝓤) (promised (κ, tt) x.0 a y (at_last x.0 zs))
            → ent 𝓤 (sep 𝓤 (A.obs γ (Eight.coded.code zs)) (sep 𝓤 (A.bor κ (Borrowed (mem Eight) b o γ)) (A.lft κ q))) (Post (O.val y))
        exits y zs s holds =
            qed 𝓛 (‵ (fobs γ (Eight.coded.code zs)) ∷ ‵ (fbor κ (Borrowed (mem Eight) b o γ)) ∷ ‵ (flft κ q) ∷ []) ∵
            suffices ! _ (ends_at 𝓛 ended stayed clauses (((κ, tt), (q, tt), tt, x, at), tt) (O.val y) y (zs, (tt, tt)) (tt, (tt, tt))) $
            beside ! holds $ nothing ! $ move ! (3 ∷ 0 ∷ []) $ join ! $
            frame ! $ feq_i ! (List Val) (vptr b o ∷ []) (vptr b o ∷ []) refl $ fjoin3 ! $ nothing ! $ owned ! (still P) (Is (still P)) Pk.makes a _ a-is $ fjoin ! $ move ! (1 ∷ 0 ∷ []) $ fjoin ! $
            owned ! (row O) (Is (row O)) Ok.makes y _ s $ move ! (1 ∷ 0 ∷ []) $ done !

        module _ (#routed #kept #edited #visited : Name) (C : Calls 𝓤 H) (Λ : Loops 𝓤 H) (fm : FmC 𝓤 H 𝓛.laws C) (routed-known : Triple 𝓤 (C #routed) Routed) (kept-known : Triple 𝓤 (C #kept) Kept) (edited-known : Triple 𝓤 (C #edited) Edited) (visited-known : Triple 𝓤 (C #visited) Visited) where
          walk : ent 𝓤 (on_entry 𝓛 ended.signature (κ, tt) (q, tt) x at) (WpFn 𝓤 H C Λ (code #routed #kept #edited #visited) (vptr b o ∷ P.val a ∷ []) Post)
          walk =
              qed 𝓛 ((‵ (flft κ q) ⊛ ‵ ftrue) ∷ ‵ (owns (MutRef (named 0) κ Eight ∷ still P ∷ []) x at) ∷ []) ∵
              enter ! C Λ (code #routed #kept #edited #visited) (vptr b o ∷ P.val a ∷ []) _ $
              alloc1 ! (λ l0. alloc1 ! (λ l1. alloc1 ! (λ l2. alloc1 ! (λ l3. alloc1 ! (λ l4. alloc1 ! (λ l5. alloc1 ! (λ l6. alloc1 ! (λ l7. alloc1 ! (λ l8. alloc1 ! (λ l9. alloc1 ! (λ l10. alloc1 ! (λ l11. alloc1 ! (λ l12. alloc1 ! (λ l13. alloc1 ! (λ l14. alloc1 ! (λ l15. alloc1 ! (λ l16. alloc1 ! (λ l17. alloc1 ! (λ l18. alloc1 ! (λ l19. alloc1 ! (λ l20. alloc1 ! (λ l21. alloc1 ! (λ l22. alloc1 ! (λ l23. alloc1 ! (λ l24. alloc1 ! (λ l25. alloc1 ! (λ l26. alloc1 ! (λ l27. alloc1 ! (λ l28. alloc1 ! (λ l29. alloc1 ! (λ l30. alloc1 ! (λ l31. alloc1 ! (λ l32. alloc1 ! (λ l33. alloc1 ! (λ l34. alloc1 ! (λ l35. alloc1 ! (λ l36. alloc1 ! (λ l37. alloc1 ! (λ l38. alloc1 ! (λ l39. alloc1 ! (λ l40. alloc1 ! (λ l41. alloc1 ! (λ l42. alloc1 ! (λ l43. alloc1 ! (λ l44. alloc1 ! (λ l45. alloc1 ! (λ l46. alloc1 ! (λ l47. alloc1 ! (λ l48. alloc1 ! (λ l49. alloc1 ! (λ l50. alloc1 ! (λ l51. alloc1 ! (λ l52. alloc1 ! (λ l53. alloc1 ! (λ l54. alloc1 ! (λ l55. alloc1 ! (λ l56. alloc1 ! (λ l57. alloc1 ! (λ l58. alloc1 ! (λ l59. alloc1 ! (λ l60. alloc1 ! (λ l61. alloc1 ! (λ l62. alloc1 ! (λ l63. alloc1 ! (λ l64. alloc0 ! $ params1 ! $
              pass1 ! (init ! 126 refl (tt, tt)) $ pass1 ! (init ! 124 refl (Pk.fits a _ a-is)) $ pass0 ! $
              -- the borrow is opened, and the eight taken apart
              move ! (131 ∷ []) $ fsplit ! $ fsplit3 ! $ drop ! $ move ! (133 ∷ []) $ split ! $ move ! (2 ∷ 3 ∷ 0 ∷ []) $ open_ref ! tt (mem Eight) {b = b} {o = o} $
              use1 𝓛 (‵ ((arr_parts (shares (row S)) 8).part full_share xs b o)) (Array-apart 𝓛 (row S) full_share tt 8 xs b o) $ fsplit ! $ feq_l ! (λ len.
              -- the ids: [the eight; the open borrow; obs; auth; true; the rest; the locals, last first, each with what frees it]
              assigns ! (addr ! (from ! (hop ! (look ! 132 refl) (stop !)))) (from ! (stop !)) (init ! 112 refl (tt, tt)) $ assigns ! (bin ! {b = vint w64 (0)} (load ! (from ! (stop !)) (look ! 112 refl)) (lit ! tt) tt) (from ! (stop !)) (init ! 110 refl (tt, tt)) $ rewrite ! 110 (λ (p : ℕ). ‵ (fat full_share ty_ptr l12 0 (vptr b p))) (zero-add o) refl $
              elem_out ! (row S) (Is (row S)) (shows 𝓛 (row S)) (λ y. S.val y ∷ []) Sk.tells full_share xs 0 none b o (in-eight len 0 (lit< tt)) (λ g0. assigns ! (of_opd ! (load ! (from ! (hop ! (look ! 112 refl) (sight.way b (place_of size o 0)))) (look_in ! 0 (sight.cell full_share b (place_of size o 0) (get_or xs 0 none))))) (from ! (stop !)) (init ! 110 refl (tt, record { fits = (sight.got (get_or xs 0 none) g0).1 })) $ elem_back ! (row S) full_share xs 0 none (S.val (get_or xs 0 none) ∷ []) b o (in-eight len 0 (lit< tt)) $
              assigns ! (addr ! (from ! (hop ! (look ! 132 refl) (stop !)))) (from ! (stop !)) (init ! 106 refl (tt, tt)) $ assigns ! (bin ! {b = vint w64 (1 * size)} (load ! (from ! (stop !)) (look ! 106 refl)) (record { go = λ Kt hh. via 𝓤 (Kt (vint w64 (1 * size))) hh (guard_i 𝓤 (Fits w64 (1 * size)) (Kt (vint w64 (1 * size))) (record { fits = far 1 (lit< tt) })) }) tt) (from ! (stop !)) (init ! 104 refl (tt, tt)) $ rewrite ! 104 (λ (p : ℕ). ‵ (fat full_share ty_ptr l15 0 (vptr b p))) (sym (place_is size o 1)) refl $
              elem_out ! (row S) (Is (row S)) (shows 𝓛 (row S)) (λ y. S.val y ∷ []) Sk.tells full_share xs 1 none b o (in-eight len 1 (lit< tt)) (λ g1. assigns ! (of_opd ! (load ! (from ! (hop ! (look ! 106 refl) (sight.way b (place_of size o 1)))) (look_in ! 0 (sight.cell full_share b (place_of size o 1) (get_or xs 1 none))))) (from ! (stop !)) (init ! 104 refl (tt, record { fits = (sight.got (get_or xs 1 none) g1).1 })) $ elem_back ! (row S) full_share xs 1 none (S.val (get_or xs 1 none) ∷ []) b o (in-eight len 1 (lit< tt)) $
              assigns ! (addr ! (from ! (hop ! (look ! 132 refl) (stop !)))) (from ! (stop !)) (init ! 100 refl (tt, tt)) $ assigns ! (bin ! {b = vint w64 (2 * size)} (load ! (from ! (stop !)) (look ! 100 refl)) (record { go = λ Kt hh. via 𝓤 (Kt (vint w64 (2 * size))) hh (guard_i 𝓤 (Fits w64 (2 * size)) (Kt (vint w64 (2 * size))) (record { fits = far 2 (lit< tt) })) }) tt) (from ! (stop !)) (init ! 98 refl (tt, tt)) $ rewrite ! 98 (λ (p : ℕ). ‵ (fat full_share ty_ptr l18 0 (vptr b p))) (sym (place_is size o 2)) refl $
              elem_out ! (row S) (Is (row S)) (shows 𝓛 (row S)) (λ y. S.val y ∷ []) Sk.tells full_share xs 2 none b o (in-eight len 2 (lit< tt)) (λ g2. assigns ! (of_opd ! (load ! (from ! (hop ! (look ! 100 refl) (sight.way b (place_of size o 2)))) (look_in ! 0 (sight.cell full_share b (place_of size o 2) (get_or xs 2 none))))) (from ! (stop !)) (init ! 98 refl (tt, record { fits = (sight.got (get_or xs 2 none) g2).1 })) $ elem_back ! (row S) full_share xs 2 none (S.val (get_or xs 2 none) ∷ []) b o (in-eight len 2 (lit< tt)) $
              assigns ! (addr ! (from ! (hop ! (look ! 132 refl) (stop !)))) (from ! (stop !)) (init ! 94 refl (tt, tt)) $ assigns ! (bin ! {b = vint w64 (3 * size)} (load ! (from ! (stop !)) (look ! 94 refl)) (record { go = λ Kt hh. via 𝓤 (Kt (vint w64 (3 * size))) hh (guard_i 𝓤 (Fits w64 (3 * size)) (Kt (vint w64 (3 * size))) (record { fits = far 3 (lit< tt) })) }) tt) (from ! (stop !)) (init ! 92 refl (tt, tt)) $ rewrite ! 92 (λ (p : ℕ). ‵ (fat full_share ty_ptr l21 0 (vptr b p))) (sym (place_is size o 3)) refl $
              elem_out ! (row S) (Is (row S)) (shows 𝓛 (row S)) (λ y. S.val y ∷ []) Sk.tells full_share xs 3 none b o (in-eight len 3 (lit< tt)) (λ g3. assigns ! (of_opd ! (load ! (from ! (hop ! (look ! 94 refl) (sight.way b (place_of size o 3)))) (look_in ! 0 (sight.cell full_share b (place_of size o 3) (get_or xs 3 none))))) (from ! (stop !)) (init ! 92 refl (tt, record { fits = (sight.got (get_or xs 3 none) g3).1 })) $ elem_back ! (row S) full_share xs 3 none (S.val (get_or xs 3 none) ∷ []) b o (in-eight len 3 (lit< tt)) $
              assigns ! (addr ! (from ! (hop ! (look ! 132 refl) (stop !)))) (from ! (stop !)) (init ! 88 refl (tt, tt)) $ assigns ! (bin ! {b = vint w64 (4 * size)} (load ! (from ! (stop !)) (look ! 88 refl)) (record { go = λ Kt hh. via 𝓤 (Kt (vint w64 (4 * size))) hh (guard_i 𝓤 (Fits w64 (4 * size)) (Kt (vint w64 (4 * size))) (record { fits = far 4 (lit< tt) })) }) tt) (from ! (stop !)) (init ! 86 refl (tt, tt)) $ rewrite ! 86 (λ (p : ℕ). ‵ (fat full_share ty_ptr l24 0 (vptr b p))) (sym (place_is size o 4)) refl $
              elem_out ! (row S) (Is (row S)) (shows 𝓛 (row S)) (λ y. S.val y ∷ []) Sk.tells full_share xs 4 none b o (in-eight len 4 (lit< tt)) (λ g4. assigns ! (of_opd ! (load ! (from ! (hop ! (look ! 88 refl) (sight.way b (place_of size o 4)))) (look_in ! 0 (sight.cell full_share b (place_of size o 4) (get_or xs 4 none))))) (from ! (stop !)) (init ! 86 refl (tt, record { fits = (sight.got (get_or xs 4 none) g4).1 })) $ elem_back ! (row S) full_share xs 4 none (S.val (get_or xs 4 none) ∷ []) b o (in-eight len 4 (lit< tt)) $
              assigns ! (addr ! (from ! (hop ! (look ! 132 refl) (stop !)))) (from ! (stop !)) (init ! 82 refl (tt, tt)) $ assigns ! (bin ! {b = vint w64 (5 * size)} (load ! (from ! (stop !)) (look ! 82 refl)) (record { go = λ Kt hh. via 𝓤 (Kt (vint w64 (5 * size))) hh (guard_i 𝓤 (Fits w64 (5 * size)) (Kt (vint w64 (5 * size))) (record { fits = far 5 (lit< tt) })) }) tt) (from ! (stop !)) (init ! 80 refl (tt, tt)) $ rewrite ! 80 (λ (p : ℕ). ‵ (fat full_share ty_ptr l27 0 (vptr b p))) (sym (place_is size o 5)) refl $
              elem_out ! (row S) (Is (row S)) (shows 𝓛 (row S)) (λ y. S.val y ∷ []) Sk.tells full_share xs 5 none b o (in-eight len 5 (lit< tt)) (λ g5. assigns ! (of_opd ! (load ! (from ! (hop ! (look ! 82 refl) (sight.way b (place_of size o 5)))) (look_in ! 0 (sight.cell full_share b (place_of size o 5) (get_or xs 5 none))))) (from ! (stop !)) (init ! 80 refl (tt, record { fits = (sight.got (get_or xs 5 none) g5).1 })) $ elem_back ! (row S) full_share xs 5 none (S.val (get_or xs 5 none) ∷ []) b o (in-eight len 5 (lit< tt)) $
              assigns ! (addr ! (from ! (hop ! (look ! 132 refl) (stop !)))) (from ! (stop !)) (init ! 76 refl (tt, tt)) $ assigns ! (bin ! {b = vint w64 (6 * size)} (load ! (from ! (stop !)) (look ! 76 refl)) (record { go = λ Kt hh. via 𝓤 (Kt (vint w64 (6 * size))) hh (guard_i 𝓤 (Fits w64 (6 * size)) (Kt (vint w64 (6 * size))) (record { fits = far 6 (lit< tt) })) }) tt) (from ! (stop !)) (init ! 74 refl (tt, tt)) $ rewrite ! 74 (λ (p : ℕ). ‵ (fat full_share ty_ptr l30 0 (vptr b p))) (sym (place_is size o 6)) refl $
              elem_out ! (row S) (Is (row S)) (shows 𝓛 (row S)) (λ y. S.val y ∷ []) Sk.tells full_share xs 6 none b o (in-eight len 6 (lit< tt)) (λ g6. assigns ! (of_opd ! (load ! (from ! (hop ! (look ! 76 refl) (sight.way b (place_of size o 6)))) (look_in ! 0 (sight.cell full_share b (place_of size o 6) (get_or xs 6 none))))) (from ! (stop !)) (init ! 74 refl (tt, record { fits = (sight.got (get_or xs 6 none) g6).1 })) $ elem_back ! (row S) full_share xs 6 none (S.val (get_or xs 6 none) ∷ []) b o (in-eight len 6 (lit< tt)) $
              assigns ! (addr ! (from ! (hop ! (look ! 132 refl) (stop !)))) (from ! (stop !)) (init ! 70 refl (tt, tt)) $ assigns ! (bin ! {b = vint w64 (7 * size)} (load ! (from ! (stop !)) (look ! 70 refl)) (record { go = λ Kt hh. via 𝓤 (Kt (vint w64 (7 * size))) hh (guard_i 𝓤 (Fits w64 (7 * size)) (Kt (vint w64 (7 * size))) (record { fits = far 7 (lit< tt) })) }) tt) (from ! (stop !)) (init ! 68 refl (tt, tt)) $ rewrite ! 68 (λ (p : ℕ). ‵ (fat full_share ty_ptr l33 0 (vptr b p))) (sym (place_is size o 7)) refl $
              elem_out ! (row S) (Is (row S)) (shows 𝓛 (row S)) (λ y. S.val y ∷ []) Sk.tells full_share xs 7 none b o (in-eight len 7 (lit< tt)) (λ g7. assigns ! (of_opd ! (load ! (from ! (hop ! (look ! 70 refl) (sight.way b (place_of size o 7)))) (look_in ! 0 (sight.cell full_share b (place_of size o 7) (get_or xs 7 none))))) (from ! (stop !)) (init ! 68 refl (tt, record { fits = (sight.got (get_or xs 7 none) g7).1 })) $ elem_back ! (row S) full_share xs 7 none (S.val (get_or xs 7 none) ∷ []) b o (in-eight len 7 (lit< tt)) $
              assigns ! (agg ! (and_then ! (load ! (from ! (stop !)) (look ! 108 refl)) (and_then ! (load ! (from ! (stop !)) (look ! 102 refl)) (and_then ! (load ! (from ! (stop !)) (look ! 96 refl)) (and_then ! (load ! (from ! (stop !)) (look ! 90 refl)) (and_then ! (load ! (from ! (stop !)) (look ! 84 refl)) (and_then ! (load ! (from ! (stop !)) (look ! 78 refl)) (and_then ! (load ! (from ! (stop !)) (look ! 72 refl)) (and_then ! (load ! (from ! (stop !)) (look ! 66 refl)) (no_more !)))))))))) (from ! (stop !)) (init ! 128 refl ((Array-Lawful 𝓛 u16 (uint_Lawful 𝓛 w16) 8).typed (ids xs) _ (vint w16 (ident (get_or xs 0 none)) ∷ vint w16 (ident (get_or xs 1 none)) ∷ vint w16 (ident (get_or xs 2 none)) ∷ vint w16 (ident (get_or xs 3 none)) ∷ vint w16 (ident (get_or xs 4 none)) ∷ vint w16 (ident (get_or xs 5 none)) ∷ vint w16 (ident (get_or xs 6 none)) ∷ vint w16 (ident (get_or xs 7 none)) ∷ [], ((refl, refl), (((refl, (sight.got (get_or xs 0 none) g0).1), ((refl, (sight.got (get_or xs 1 none) g1).1), ((refl, (sight.got (get_or xs 2 none) g2).1), ((refl, (sight.got (get_or xs 3 none) g3).1), ((refl, (sight.got (get_or xs 4 none) g4).1), ((refl, (sight.got (get_or xs 5 none) g5).1), ((refl, (sight.got (get_or xs 6 none) g6).1), ((refl, (sight.got (get_or xs 7 none) g7).1), tt)))))))))))).0) $
              -- where the call goes
              nothing ! $ use1 𝓛 (raw (Routed.pre to-routed)) (goes-routed (vint w16 (ident (get_or xs 0 none)) ∷ vint w16 (ident (get_or xs 1 none)) ∷ vint w16 (ident (get_or xs 2 none)) ∷ vint w16 (ident (get_or xs 3 none)) ∷ vint w16 (ident (get_or xs 4 none)) ∷ vint w16 (ident (get_or xs 5 none)) ∷ vint w16 (ident (get_or xs 6 none)) ∷ vint w16 (ident (get_or xs 7 none)) ∷ [], ((refl, refl), (((refl, (sight.got (get_or xs 0 none) g0).1), ((refl, (sight.got (get_or xs 1 none) g1).1), ((refl, (sight.got (get_or xs 2 none) g2).1), ((refl, (sight.got (get_or xs 3 none) g3).1), ((refl, (sight.got (get_or xs 4 none) g4).1), ((refl, (sight.got (get_or xs 5 none) g5).1), ((refl, (sight.got (get_or xs 6 none) g6).1), ((refl, (sight.got (get_or xs 7 none) g7).1), tt)))))))))))) $
              calls_at ! fm Routed routed-known to-routed (and_then ! (load ! (from ! (stop !)) (look ! 129 refl)) (and_then ! (load ! (from ! (stop !)) (look ! 131 refl)) (no_more !))) (λ u.
              use1 𝓛 (later (some (λ (r : Q.Denot). (‵ ftrue ⊛ ‵ (Q.own_val r (u ∷ []))) ⊛ raw (routed-ensures (ids xs) a r)))) (id⊢ 𝓤 _) $ await ! tt $ pick ! (λ r.
              split ! $ move ! (1 ∷ []) $ use1 𝓛 (raw (fact 𝓤 ((r ≡ route (ids xs) a) × (spot r < 8)))) (routed-said (ids xs) a r) $ heard ! ((r ≡ route (ids xs) a) × (spot r < 8)) (λ r-told. split ! $ drop ! $
              peeks ! Q (Is Q) (shows 𝓛 Q) r (u ∷ []) (λ u-is.
              let i : ℕ = spot r in
              let h : S.Denot = get_or xs i none in
              let r-said : r ≡ route (ids xs) a = r-told.0 in
              let within : i < 8 = r-told.1 in
              let r-is : Is Q r (route_val r ∷ []) = subst (λ (us : List Val). Is Q r us) (Qk.tells r u u-is) u-is in
              land ! (from ! (stop !)) (init ! 127 refl (Qk.fits r u u-is)) $ drop ! $
              rewrite ! 126 (λ (us : List Val). ‵ (fat full_share route_ty l4 0 (only us))) (Qk.tells r u u-is) refl $
              assigns ! (of_opd ! (load ! (from ! (fld ! refl (stop !))) (look_in ! 126 (sub ! 0 refl (whole !))))) (from ! (stop !)) (init ! 124 refl (tt, record { fits = small i within })) $
              assigns ! (of_opd ! (load ! (from ! (fld ! refl (stop !))) (look_in ! 126 (sub ! 2 refl (whole !))))) (from ! (stop !)) (init ! 64 refl (tt, tt)) $
              first ! $ branches ! (load ! (from ! (stop !)) (look ! 64 refl))
              -- the quiet call
              (λ yes-quiet.
              assigns ! (bin ! {b = vint w64 size} (load ! (from ! (stop !)) (look ! 124 refl)) (record { go = λ Kt hh. via 𝓤 (Kt (vint w64 (size))) hh (guard_i 𝓤 (Fits w64 (size)) (Kt (vint w64 (size))) (record { fits = size_fits })) }) (record { fits = far i within })) (from ! (stop !)) (init ! 62 refl (tt, record { fits = far i within })) $ assigns ! (addr ! (from ! (hop ! (look ! 132 refl) (stop !)))) (from ! (stop !)) (init ! 60 refl (tt, tt)) $ assigns ! (bin ! (load ! (from ! (stop !)) (look ! 60 refl)) (load ! (from ! (stop !)) (look ! 62 refl)) tt) (from ! (stop !)) (init ! 58 refl (tt, tt)) $ rewrite ! 58 (λ (p : ℕ). ‵ (fat full_share ty_ptr l38 0 (vptr b p))) (sym (place_is size o i)) refl $
              elem_out ! (row S) (Is (row S)) (shows 𝓛 (row S)) (λ y. S.val y ∷ []) Sk.tells full_share xs i none b o (subst (λ (m : ℕ). i < m) (sym len) within) (λ g. move ! (1 ∷ []) $ drop ! $
              -- [the element's cell; the others; the open borrow; obs; auth; true; the rest; the locals]
              assigns ! (of_opd ! (load ! (from ! (hop ! (look ! 59 refl) (state.sight.way b (place_of size o i)))) (look_in ! 0 (state.sight.cell full_share b (place_of size o i) h)))) (from ! (stop !)) (init ! 57 refl (Yk.fits (part h) _ (state.sight.got h g))) $
              nothing ! $ use1 𝓛 (raw (Kept.pre (to-kept h r))) (goes_kept h r (state.sight.got h g) r-is) $
              calls_at ! fm Kept kept-known (to-kept h r) (and_then ! (load ! (from ! (stop !)) (look ! 58 refl)) (and_then ! (load ! (from ! (stop !)) (look ! 132 refl)) (and_then ! (load ! (from ! (stop !)) (look ! 128 refl)) (no_more !)))) (λ w.
              use1 𝓛 (later (some (λ (v : V₁.Denot). (‵ ftrue ⊛ ‵ (V₁.own_val v (w ∷ []))) ⊛ raw (kept-ensures (part h) a r v)))) (id⊢ 𝓤 _) $ await ! tt $ pick ! (λ v.
              split ! $ move ! (1 ∷ []) $ use1 𝓛 (raw (fact 𝓤 (v ≡ f₁ (part h) a r))) (kept-said (part h) a r v) $ heard ! (v ≡ f₁ (part h) a r) (λ e. split ! $ drop ! $
              peeks ! V₁ (Is V₁) (shows 𝓛 V₁) v (w ∷ []) (λ v-is. land ! (from ! (stop !)) (init ! 124 refl (Vk₁.fits v w v-is)) $ drop ! $
              rewrite ! 123 (λ (us : List Val). ‵ (fat full_share (answer_ty ν₁ Y O) l6 0 (only us))) (Vk₁.tells v w v-is) refl $
              assigns ! (bin ! {b = vint w64 size} (load ! (from ! (stop !)) (look ! 125 refl)) (record { go = λ Kt hh. via 𝓤 (Kt (vint w64 (size))) hh (guard_i 𝓤 (Fits w64 (size)) (Kt (vint w64 (size))) (record { fits = size_fits })) }) (record { fits = far i within })) (from ! (stop !)) (store ! 63 refl (tt, record { fits = far i within })) $ assigns ! (addr ! (from ! (hop ! (look ! 133 refl) (stop !)))) (from ! (stop !)) (init ! 55 refl (tt, tt)) $ assigns ! (bin ! (load ! (from ! (stop !)) (look ! 55 refl)) (load ! (from ! (stop !)) (look ! 63 refl)) tt) (from ! (stop !)) (init ! 53 refl (tt, tt)) $ rewrite ! 53 (λ (p : ℕ). ‵ (fat full_share ty_ptr l41 0 (vptr b p))) (sym (place_is size o i)) refl $
              assigns ! (of_opd ! (load ! (from ! (fld ! refl (stop !))) (look_in ! 123 (sub ! 0 refl (whole !))))) (from ! (hop ! (look ! 53 refl) (state.sight.way b (place_of size o i)))) (store_in ! 0 (state.sight.cell full_share b (place_of size o i) h) (Yk.fits (st₁ v) _ (Vk₁.first v w v-is))) $ rewrite ! 0 (λ (z : Val). ‵ (fat full_share (raw_ty S.ty) b (place_of size o i) z)) (state.put_is h (st₁ v)) refl $
              assigns ! (of_opd ! (load ! (from ! (fld ! refl (stop !))) (look_in ! 123 (sub ! 1 refl (whole !))))) (from ! (stop !)) (init ! 135 refl (Ok.fits (res₁ v) _ (Vk₁.second v w v-is))) $
              owned ! (row S) (Is (row S)) Sk.makes (put-part h (st₁ v)) _ (state.made h (st₁ v) g (Vk₁.first v w v-is)) $ move ! (1 ∷ 0 ∷ []) $ elem_put ! (row S) full_share xs i (put-part h (st₁ v)) (S.val (put-part h (st₁ v)) ∷ []) b o (subst (λ (m : ℕ). i < m) (sym len) within) $
              feq_i ! ℕ (length (set xs i (put-part h (st₁ v)))) 8 (length-set xs i (put-part h (st₁ v)) ∙ len) $ fjoin ! $ use1 𝓛 (‵ (part_at Eight full_share (set xs i (put-part h (st₁ v))) b o)) (Array-whole 𝓛 (row S) full_share 8 (set xs i (put-part h (st₁ v))) b o) $ close_ref ! tt (mem Eight) (set xs i (put-part h (st₁ v))) {b = b} {o = o} $
              move ! (3 ∷ []) $ drop ! $ move ! (3 ∷ []) $ drop ! $ returns_within ! Post refl (look ! 131 refl) $ frees-behind 𝓛 3 (bare (bare (bare (bare (bare (bare (bare (bare (bare (bare (bare (bare (bare (bare (bare (bare (bare (bare (bare (bare (bare (bare (bare (has (has (has (has (has (has (has (has (has (has (has (has (has (has (has (has (has (has (has (has (has (has (has (has (has (has (has (has (has (has (has (bare (bare (bare (bare (has (has (has (has (has (has (has (none_left)))))))))))))))))))))))))))))))))))))))))))))))))))))))))))))))))) refl $
              by ! (exits (res₁ v) (set xs i (put-part h (st₁ v))) (Vk₁.second v w v-is) (holds-quiet (κ, tt) x.0 a r v len r-said (is_true (quiet r) yes-quiet) e))))))))
              (λ not-quiet. let Γ₀ : Env 𝓤 H = (O.ty, l0) ∷ (ty_ref (named 0) mut (pointee Eight.written), l1) ∷ (P.ty, l2) ∷ (ty_array (ty_int w16) 8, l3) ∷ (route_ty, l4) ∷ (ty_int w64, l5) ∷ (answer_ty ν₁ Y O, l6) ∷ (edited_ty, l7) ∷ (ty_int w64, l8) ∷ (ty_int w64, l9) ∷ (answer_ty ν₂ S O, l10) ∷ (ty_ptr, l11) ∷ (ty_ptr, l12) ∷ (ty_int w16, l13) ∷ (ty_ptr, l14) ∷ (ty_ptr, l15) ∷ (ty_int w16, l16) ∷ (ty_ptr, l17) ∷ (ty_ptr, l18) ∷ (ty_int w16, l19) ∷ (ty_ptr, l20) ∷ (ty_ptr, l21) ∷ (ty_int w16, l22) ∷ (ty_ptr, l23) ∷ (ty_ptr, l24) ∷ (ty_int w16, l25) ∷ (ty_ptr, l26) ∷ (ty_ptr, l27) ∷ (ty_int w16, l28) ∷ (ty_ptr, l29) ∷ (ty_ptr, l30) ∷ (ty_int w16, l31) ∷ (ty_ptr, l32) ∷ (ty_ptr, l33) ∷ (ty_int w16, l34) ∷ (ty_bool, l35) ∷ (ty_int w64, l36) ∷ (ty_ptr, l37) ∷ (ty_ptr, l38) ∷ (Y.ty, l39) ∷ (ty_ptr, l40) ∷ (ty_ptr, l41) ∷ (ty_int w64, l42) ∷ (ty_ptr, l43) ∷ (ty_ptr, l44) ∷ (S.ty, l45) ∷ (ty_ptr, l46) ∷ (ty_ptr, l47) ∷ (ty_ptr, l48) ∷ (ty_ptr, l49) ∷ (ty_int w64, l50) ∷ (ty_ptr, l51) ∷ (ty_ptr, l52) ∷ (ty_ptr, l53) ∷ (ty_ptr, l54) ∷ (ty_ptr, l55) ∷ (ty_ptr, l56) ∷ (ty_ptr, l57) ∷ (ty_ptr, l58) ∷ (ty_int w64, l59) ∷ (ty_ptr, l60) ∷ (ty_ptr, l61) ∷ (S.ty, l62) ∷ (ty_ptr, l63) ∷ (ty_ptr, l64) ∷ [] in
              skips ! $ exec ! C Λ Γ₀ (rest-code #edited #visited) (at_ret Γ₀ Post) $
              assigns ! (of_opd ! (load ! (from ! (fld ! refl (stop !))) (look_in ! 126 (sub ! 3 refl (whole !))))) (from ! (stop !)) (store ! 64 refl (tt, tt)) $
              first ! $ branches ! (load ! (from ! (stop !)) (look ! 64 refl))
              -- the edit
              (λ yes-edits.
              assigns ! (bin ! {b = vint w64 size} (load ! (from ! (stop !)) (look ! 124 refl)) (record { go = λ Kt hh. via 𝓤 (Kt (vint w64 (size))) hh (guard_i 𝓤 (Fits w64 (size)) (Kt (vint w64 (size))) (record { fits = size_fits })) }) (record { fits = far i within })) (from ! (stop !)) (init ! 50 refl (tt, record { fits = far i within })) $ assigns ! (addr ! (from ! (hop ! (look ! 132 refl) (stop !)))) (from ! (stop !)) (init ! 48 refl (tt, tt)) $ assigns ! (bin ! (load ! (from ! (stop !)) (look ! 48 refl)) (load ! (from ! (stop !)) (look ! 50 refl)) tt) (from ! (stop !)) (init ! 46 refl (tt, tt)) $ rewrite ! 46 (λ (p : ℕ). ‵ (fat full_share ty_ptr l44 0 (vptr b p))) (sym (place_is size o i)) refl $
              elem_out ! (row S) (Is (row S)) (shows 𝓛 (row S)) (λ y. S.val y ∷ []) Sk.tells full_share xs i none b o (subst (λ (m : ℕ). i < m) (sym len) within) (λ g. move ! (1 ∷ []) $ drop ! $
              -- [the element's cell; the others; the open borrow; obs; auth; true; the rest; the locals]
              assigns ! (of_opd ! (load ! (from ! (hop ! (look ! 47 refl) (all.sight.way b (place_of size o i)))) (look_in ! 0 (all.sight.cell full_share b (place_of size o i) h)))) (from ! (stop !)) (init ! 45 refl (Sk.fits h _ g)) $
              nothing ! $ use1 𝓛 (raw (Edited.pre (to-edited h))) (goes-edited h g) $
              calls_at ! fm Edited edited-known (to-edited h) (and_then ! (load ! (from ! (stop !)) (look ! 46 refl)) (and_then ! (load ! (from ! (stop !)) (look ! 132 refl)) (no_more !))) (λ w.
              use1 𝓛 (later (some (λ (v : V₃.Denot). (‵ ftrue ⊛ ‵ (V₃.own_val v (w ∷ []))) ⊛ raw (edited-ensures h a v)))) (id⊢ 𝓤 _) $ await ! tt $ pick ! (λ v.
              split ! $ move ! (1 ∷ []) $ use1 𝓛 (raw (fact 𝓤 ((v ≡ f₃ h a) × (at₁ v < rows) × (at₂ v < rows)))) (edited-said h a v) $ heard ! ((v ≡ f₃ h a) × (at₁ v < rows) × (at₂ v < rows)) (λ e. split ! $ drop ! $
              peeks ! V₃ (Is V₃) (shows 𝓛 V₃) v (w ∷ []) (λ v-is. land ! (from ! (stop !)) (init ! 122 refl (Vk₃.fits v w v-is)) $ drop ! $
              rewrite ! 121 (λ (us : List Val). ‵ (fat full_share (edited_ty) l7 0 (only us))) (Vk₃.tells v w v-is) refl $
              let h₁ : S.Denot = put-part h (st₃ v) in let h₂ : S.Denot = put_one h₁ (at₁ v) (one v) in let h₃ : S.Denot = put-link h₂ (at₂ v) (link v) in let h₄ : S.Denot = put-free h₃ (free v) in
              let g₁ : Is (row S) h₁ (S.val h₁ ∷ []) = state.made h (st₃ v) g (Vk₃.state v w v-is) in let g₂ : Is (row S) h₂ (S.val h₂ ∷ []) = ones.made h₁ (at₁ v) (one v) e.1 g₁ (Vk₃.one v w v-is) in
              let g₃ : Is (row S) h₃ (S.val h₃ ∷ []) = links.made h₂ (at₂ v) (link v) e.2 g₂ (Vk₃.link v w v-is) in
              -- its state
              assigns ! (bin ! {b = vint w64 size} (load ! (from ! (stop !)) (look ! 125 refl)) (record { go = λ Kt hh. via 𝓤 (Kt (vint w64 (size))) hh (guard_i 𝓤 (Fits w64 (size)) (Kt (vint w64 (size))) (record { fits = size_fits })) }) (record { fits = far i within })) (from ! (stop !)) (store ! 51 refl (tt, record { fits = far i within })) $ assigns ! (addr ! (from ! (hop ! (look ! 133 refl) (stop !)))) (from ! (stop !)) (init ! 43 refl (tt, tt)) $ assigns ! (bin ! (load ! (from ! (stop !)) (look ! 43 refl)) (load ! (from ! (stop !)) (look ! 51 refl)) tt) (from ! (stop !)) (init ! 41 refl (tt, tt)) $ rewrite ! 41 (λ (p : ℕ). ‵ (fat full_share ty_ptr l47 0 (vptr b p))) (sym (place_is size o i)) refl $
              assigns ! (of_opd ! (load ! (from ! (fld ! refl (stop !))) (look_in ! 121 (sub ! 0 refl (whole !))))) (from ! (hop ! (look ! 41 refl) (state.sight.way b (place_of size o i)))) (store_in ! 0 (state.sight.cell full_share b (place_of size o i) h) (Yk.fits (st₃ v) _ (Vk₃.state v w v-is))) $ rewrite ! 0 (λ (z : Val). ‵ (fat full_share (raw_ty S.ty) b (place_of size o i) z)) (state.put_is h (st₃ v)) refl $
              -- a record
              assigns ! (of_opd ! (load ! (from ! (fld ! refl (fld ! refl (stop !)))) (look_in ! 121 (sub ! 0 refl (sub ! 1 refl (whole !)))))) (from ! (stop !)) (init ! 119 refl (tt, record { fits = small-row (at₁ v) e.1 })) $
              assigns ! (bin ! {b = vint w64 size} (load ! (from ! (stop !)) (look ! 125 refl)) (record { go = λ Kt hh. via 𝓤 (Kt (vint w64 (size))) hh (guard_i 𝓤 (Fits w64 (size)) (Kt (vint w64 (size))) (record { fits = size_fits })) }) (record { fits = far i within })) (from ! (stop !)) (store ! 51 refl (tt, record { fits = far i within })) $ assigns ! (addr ! (from ! (hop ! (look ! 133 refl) (stop !)))) (from ! (stop !)) (init ! 39 refl (tt, tt)) $ assigns ! (bin ! (load ! (from ! (stop !)) (look ! 39 refl)) (load ! (from ! (stop !)) (look ! 51 refl)) tt) (from ! (stop !)) (init ! 37 refl (tt, tt)) $ rewrite ! 37 (λ (p : ℕ). ‵ (fat full_share ty_ptr l49 0 (vptr b p))) (sym (place_is size o i)) refl $
              assigns ! (bin ! {b = vint w64 esize} (load ! (from ! (stop !)) (look ! 119 refl)) (lit ! esize-fits) (record { fits = far-row (at₁ v) e.1 })) (from ! (stop !)) (init ! 35 refl (tt, record { fits = far-row (at₁ v) e.1 })) $ assigns ! (addr ! (from ! (hop ! (look ! 37 refl) (ones.way b (place_of size o i))))) (from ! (stop !)) (init ! 33 refl (tt, tt)) $ assigns ! (bin ! (load ! (from ! (stop !)) (look ! 33 refl)) (load ! (from ! (stop !)) (look ! 35 refl)) tt) (from ! (stop !)) (init ! 31 refl (tt, tt)) $ rewrite ! 31 (λ (p : ℕ). ‵ (fat full_share ty_ptr l52 0 (vptr b p))) (sym (place_is esize (ones.base (place_of size o i)) (at₁ v))) refl $
              assigns ! (of_opd ! (load ! (from ! (fld ! refl (fld ! refl (stop !)))) (look_in ! 121 (sub ! 1 refl (sub ! 1 refl (whole !)))))) (from ! (hop ! (look ! 31 refl) (ones.on b _))) (store_in ! 0 (ones.cell full_share b (place_of size o i) h₁ (at₁ v) g₁ e.1) (Ek.fits (one v) _ (Vk₃.one v w v-is))) $ rewrite ! 0 (λ (z : Val). ‵ (fat full_share (raw_ty S.ty) b (place_of size o i) z)) (ones.put_is h₁ (at₁ v) (one v)) refl $
              -- the next of a record
              assigns ! (of_opd ! (load ! (from ! (fld ! refl (fld ! refl (stop !)))) (look_in ! 121 (sub ! 2 refl (sub ! 1 refl (whole !)))))) (from ! (stop !)) (init ! 117 refl (tt, record { fits = small-row (at₂ v) e.2 })) $
              assigns ! (bin ! {b = vint w64 size} (load ! (from ! (stop !)) (look ! 125 refl)) (record { go = λ Kt hh. via 𝓤 (Kt (vint w64 (size))) hh (guard_i 𝓤 (Fits w64 (size)) (Kt (vint w64 (size))) (record { fits = size_fits })) }) (record { fits = far i within })) (from ! (stop !)) (store ! 51 refl (tt, record { fits = far i within })) $ assigns ! (addr ! (from ! (hop ! (look ! 133 refl) (stop !)))) (from ! (stop !)) (init ! 29 refl (tt, tt)) $ assigns ! (bin ! (load ! (from ! (stop !)) (look ! 29 refl)) (load ! (from ! (stop !)) (look ! 51 refl)) tt) (from ! (stop !)) (init ! 27 refl (tt, tt)) $ rewrite ! 27 (λ (p : ℕ). ‵ (fat full_share ty_ptr l54 0 (vptr b p))) (sym (place_is size o i)) refl $
              assigns ! (bin ! {b = vint w64 esize} (load ! (from ! (stop !)) (look ! 117 refl)) (lit ! esize-fits) (record { fits = far-row (at₂ v) e.2 })) (from ! (stop !)) (store ! 35 refl (tt, record { fits = far-row (at₂ v) e.2 })) $ assigns ! (addr ! (from ! (hop ! (look ! 27 refl) (links.way b (place_of size o i))))) (from ! (stop !)) (init ! 25 refl (tt, tt)) $ assigns ! (bin ! (load ! (from ! (stop !)) (look ! 25 refl)) (load ! (from ! (stop !)) (look ! 35 refl)) tt) (from ! (stop !)) (init ! 23 refl (tt, tt)) $ rewrite ! 23 (λ (p : ℕ). ‵ (fat full_share ty_ptr l56 0 (vptr b p))) (sym (place_is esize (links.base (place_of size o i)) (at₂ v))) refl $
              assigns ! (of_opd ! (load ! (from ! (fld ! refl (fld ! refl (stop !)))) (look_in ! 121 (sub ! 3 refl (sub ! 1 refl (whole !)))))) (from ! (hop ! (look ! 23 refl) (links.on b _))) (store_in ! 0 (links.cell full_share b (place_of size o i) h₂ (at₂ v) g₂ e.2) (tt, record { fits = (Vk₃.link v w v-is).1 })) $ rewrite ! 0 (λ (z : Val). ‵ (fat full_share (raw_ty S.ty) b (place_of size o i) z)) (links.put_is h₂ (at₂ v) (link v)) refl $
              -- the first free record
              assigns ! (bin ! {b = vint w64 size} (load ! (from ! (stop !)) (look ! 125 refl)) (record { go = λ Kt hh. via 𝓤 (Kt (vint w64 (size))) hh (guard_i 𝓤 (Fits w64 (size)) (Kt (vint w64 (size))) (record { fits = size_fits })) }) (record { fits = far i within })) (from ! (stop !)) (store ! 51 refl (tt, record { fits = far i within })) $ assigns ! (addr ! (from ! (hop ! (look ! 133 refl) (stop !)))) (from ! (stop !)) (init ! 21 refl (tt, tt)) $ assigns ! (bin ! (load ! (from ! (stop !)) (look ! 21 refl)) (load ! (from ! (stop !)) (look ! 51 refl)) tt) (from ! (stop !)) (init ! 19 refl (tt, tt)) $ rewrite ! 19 (λ (p : ℕ). ‵ (fat full_share ty_ptr l58 0 (vptr b p))) (sym (place_is size o i)) refl $
              assigns ! (of_opd ! (load ! (from ! (fld ! refl (fld ! refl (stop !)))) (look_in ! 121 (sub ! 4 refl (sub ! 1 refl (whole !)))))) (from ! (hop ! (look ! 19 refl) (frees.sight.way b (place_of size o i)))) (store_in ! 0 (frees.sight.cell full_share b (place_of size o i) h₃) (tt, record { fits = (Vk₃.free v w v-is).1 })) $ rewrite ! 0 (λ (z : Val). ‵ (fat full_share (raw_ty S.ty) b (place_of size o i) z)) (frees.put_is h₃ (free v)) refl $
              assigns ! (of_opd ! (load ! (from ! (fld ! refl (stop !))) (look_in ! 121 (sub ! 2 refl (whole !))))) (from ! (stop !)) (init ! 135 refl (Ok.fits (res₃ v) _ (Vk₃.result v w v-is))) $
              owned ! (row S) (Is (row S)) Sk.makes (h₄) _ (frees.made h₃ (free v) g₃ (Vk₃.free v w v-is)) $ move ! (1 ∷ 0 ∷ []) $ elem_put ! (row S) full_share xs i (h₄) (S.val (h₄) ∷ []) b o (subst (λ (m : ℕ). i < m) (sym len) within) $
              feq_i ! ℕ (length (set xs i (h₄))) 8 (length-set xs i (h₄) ∙ len) $ fjoin ! $ use1 𝓛 (‵ (part_at Eight full_share (set xs i (h₄)) b o)) (Array-whole 𝓛 (row S) full_share 8 (set xs i (h₄)) b o) $ close_ref ! tt (mem Eight) (set xs i (h₄)) {b = b} {o = o} $
              move ! (3 ∷ []) $ drop ! $ move ! (3 ∷ []) $ drop ! $ returns_within ! Post refl (look ! 131 refl) $ frees-behind 𝓛 3 (bare (bare (bare (bare (bare (bare (has (has (has (has (has (has (has (has (has (has (has (has (has (has (has (has (has (bare (bare (bare (bare (bare (bare (has (has (has (has (has (has (has (has (has (has (has (has (has (has (has (has (has (has (has (has (has (has (has (has (has (bare (has (has (has (bare (has (has (has (has (has (has (none_left)))))))))))))))))))))))))))))))))))))))))))))))))))))))))))))))))) refl $
              by ! (exits (res₃ v) (set xs i (h₄)) (Vk₃.result v w v-is) (holds-edit (κ, tt) x.0 a r v len r-said (is_false (quiet r) not-quiet) (is_true (edits r) yes-edits) e.0))))))))
              -- the whole element
              (λ not-edits. skips ! $ exec ! C Λ Γ₀ (whole-arm #visited) (at_ret Γ₀ Post) $
              assigns ! (bin ! {b = vint w64 size} (load ! (from ! (stop !)) (look ! 124 refl)) (record { go = λ Kt hh. via 𝓤 (Kt (vint w64 (size))) hh (guard_i 𝓤 (Fits w64 (size)) (Kt (vint w64 (size))) (record { fits = size_fits })) }) (record { fits = far i within })) (from ! (stop !)) (init ! 16 refl (tt, record { fits = far i within })) $ assigns ! (addr ! (from ! (hop ! (look ! 132 refl) (stop !)))) (from ! (stop !)) (init ! 14 refl (tt, tt)) $ assigns ! (bin ! (load ! (from ! (stop !)) (look ! 14 refl)) (load ! (from ! (stop !)) (look ! 16 refl)) tt) (from ! (stop !)) (init ! 12 refl (tt, tt)) $ rewrite ! 12 (λ (p : ℕ). ‵ (fat full_share ty_ptr l61 0 (vptr b p))) (sym (place_is size o i)) refl $
              elem_out ! (row S) (Is (row S)) (shows 𝓛 (row S)) (λ y. S.val y ∷ []) Sk.tells full_share xs i none b o (subst (λ (m : ℕ). i < m) (sym len) within) (λ g. move ! (1 ∷ []) $ drop ! $
              -- [the element's cell; the others; the open borrow; obs; auth; true; the rest; the locals]
              assigns ! (of_opd ! (load ! (from ! (hop ! (look ! 13 refl) (all.sight.way b (place_of size o i)))) (look_in ! 0 (all.sight.cell full_share b (place_of size o i) h)))) (from ! (stop !)) (init ! 11 refl (Sk.fits (h) _ (all.sight.got h g))) $
              nothing ! $ use1 𝓛 (raw (Visited.pre (to-visited h r))) (goes-visited h r (all.sight.got h g) r-is) $
              calls_at ! fm Visited visited-known (to-visited h r) (and_then ! (load ! (from ! (stop !)) (look ! 12 refl)) (and_then ! (load ! (from ! (stop !)) (look ! 132 refl)) (and_then ! (load ! (from ! (stop !)) (look ! 128 refl)) (no_more !)))) (λ w.
              use1 𝓛 (later (some (λ (v : V₂.Denot). (‵ ftrue ⊛ ‵ (V₂.own_val v (w ∷ []))) ⊛ raw (visited-ensures (h) a r v)))) (id⊢ 𝓤 _) $ await ! tt $ pick ! (λ v.
              split ! $ move ! (1 ∷ []) $ use1 𝓛 (raw (fact 𝓤 (v ≡ f₂ (h) a r))) (visited-said (h) a r v) $ heard ! (v ≡ f₂ (h) a r) (λ e. split ! $ drop ! $
              peeks ! V₂ (Is V₂) (shows 𝓛 V₂) v (w ∷ []) (λ v-is. land ! (from ! (stop !)) (init ! 116 refl (Vk₂.fits v w v-is)) $ drop ! $
              rewrite ! 115 (λ (us : List Val). ‵ (fat full_share (answer_ty ν₂ S O) l10 0 (only us))) (Vk₂.tells v w v-is) refl $
              assigns ! (bin ! {b = vint w64 size} (load ! (from ! (stop !)) (look ! 125 refl)) (record { go = λ Kt hh. via 𝓤 (Kt (vint w64 (size))) hh (guard_i 𝓤 (Fits w64 (size)) (Kt (vint w64 (size))) (record { fits = size_fits })) }) (record { fits = far i within })) (from ! (stop !)) (store ! 17 refl (tt, record { fits = far i within })) $ assigns ! (addr ! (from ! (hop ! (look ! 133 refl) (stop !)))) (from ! (stop !)) (init ! 9 refl (tt, tt)) $ assigns ! (bin ! (load ! (from ! (stop !)) (look ! 9 refl)) (load ! (from ! (stop !)) (look ! 17 refl)) tt) (from ! (stop !)) (init ! 7 refl (tt, tt)) $ rewrite ! 7 (λ (p : ℕ). ‵ (fat full_share ty_ptr l64 0 (vptr b p))) (sym (place_is size o i)) refl $
              assigns ! (of_opd ! (load ! (from ! (fld ! refl (stop !))) (look_in ! 115 (sub ! 0 refl (whole !))))) (from ! (hop ! (look ! 7 refl) (all.sight.way b (place_of size o i)))) (store_in ! 0 (all.sight.cell full_share b (place_of size o i) h) (Sk.fits (st₂ v) _ (Vk₂.first v w v-is))) $ rewrite ! 0 (λ (z : Val). ‵ (fat full_share (raw_ty S.ty) b (place_of size o i) z)) (all.put_is h (st₂ v)) refl $
              assigns ! (of_opd ! (load ! (from ! (fld ! refl (stop !))) (look_in ! 115 (sub ! 1 refl (whole !))))) (from ! (stop !)) (init ! 135 refl (Ok.fits (res₂ v) _ (Vk₂.second v w v-is))) $
              owned ! (row S) (Is (row S)) Sk.makes (st₂ v) _ (all.made h (st₂ v) g (Vk₂.first v w v-is)) $ move ! (1 ∷ 0 ∷ []) $ elem_put ! (row S) full_share xs i (st₂ v) (S.val (st₂ v) ∷ []) b o (subst (λ (m : ℕ). i < m) (sym len) within) $
              feq_i ! ℕ (length (set xs i (st₂ v))) 8 (length-set xs i (st₂ v) ∙ len) $ fjoin ! $ use1 𝓛 (‵ (part_at Eight full_share (set xs i (st₂ v)) b o)) (Array-whole 𝓛 (row S) full_share 8 (set xs i (st₂ v)) b o) $ close_ref ! tt (mem Eight) (set xs i (st₂ v)) {b = b} {o = o} $
              move ! (3 ∷ []) $ drop ! $ move ! (3 ∷ []) $ drop ! $ returns ! (look ! 131 refl) $ frees-behind 𝓛 3 (has (has (has (has (has (has (bare (bare (bare (bare (bare (bare (bare (bare (bare (bare (bare (bare (bare (bare (bare (bare (bare (bare (bare (bare (bare (bare (bare (has (has (has (has (has (has (has (has (has (has (has (has (has (has (has (has (has (has (has (has (has (has (has (has (has (has (bare (bare (bare (bare (has (has (has (has (has (has (none_left)))))))))))))))))))))))))))))))))))))))))))))))))))))))))))))))))) refl $
              by ! (exits (res₂ v) (set xs i (st₂ v)) (Vk₂.second v w v-is) (holds-whole (κ, tt) x.0 a r v len r-said (is_false (quiet r) not-quiet) (is_false (edits r) not-edits) e)))))))))
              ))))))))))))))))))))))))))))))))))))))))))))))))))))))))))))))))))))))))))))))

      goes : AllGo 𝓛 1 ended.signature.params ended.kept stayed
      goes = (Goes-ref 𝓛 1 0 tt (plain (λ _. Eight)), (Goes-none 𝓛 1 (λ _. still P) yes (λ κs x f. refl), tt))

      pub meets : (#routed #kept #edited #visited : Name) (𝓣 : Tables 𝓤 H) → Triple 𝓤 (𝓣.C #routed) Routed → Triple 𝓤 (𝓣.C #kept) Kept → Triple 𝓤 (𝓣.C #edited) Edited → Triple 𝓤 (𝓣.C #visited) Visited → Meets 𝓛 ended.signature (WpFn 𝓤 H 𝓣.C 𝓣.Λ (code #routed #kept #edited #visited)) (closing 𝓛 ended clauses)
      meets #routed #kept #edited #visited 𝓣 routed-known kept-known edited-known visited-known =
          walk_Meets 𝓛 ended stayed goes clauses (WpFn 𝓤 H 𝓣.C 𝓣.Λ (code #routed #kept #edited #visited)) (WpFn-mono 𝓤 H 𝓛.laws 𝓣 (code #routed #kept #edited #visited))
          (walked 𝓛 ended stayed clauses (WpFn 𝓤 H 𝓣.C 𝓣.Λ (code #routed #kept #edited #visited))
          (λ κs. (mut_vals, ((λ y. P.val y ∷ []), tt))) (λ κs. (mut_Tells (named 0) κs.0 Eight, (Pk.tells, tt)))
          (λ κs qs bounds a _ are. via 𝓤 _ (fst∗ 𝓤 _ (emp 𝓤)) (walk κs.0 qs.0 a.0.ref_ptr.0 a.0.ref_ptr.1 a.0.ghost_name a.0.now a.1.0 are.1.0 #routed #kept #edited #visited 𝓣.C 𝓣.Λ (fm_of 𝓤 H 𝓛.laws 𝓣) routed-known kept-known edited-known visited-known)))
