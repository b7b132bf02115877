-- A look on a lent station is right because it asks the ids of the eight places where it goes, and returns what the by-value function says of the element there; the eight are left as they were.
use mathlib.Core.Path.{◌≡◌, refl, sym, subst}
use mathlib.Core.Bool.{Bool}
use Prim.Native.Nat.{ℕ, ◌*◌, ◌<◌, ◌^◌}
use native.Mathlib.Nat.{zero-add}
use mathlib.Core.List.{[], ◌∷◌, List}
use lib.Dec.{T, lit<}
use lib.ListN.{length, get_or}
use seplogic.Ra.Ura.{Ura}
use base.Fraction.{full_share}
use mir.Syntax.{Sym, Callee as Name, Ty, ty_ref, ty_ptr, ty_int, ty_bool, ty_array, ty_struct, tnil, tcons, mut, named, w16, w64, Fn, Local, local, value_local, place, Step as PStep, deref, field, copy, int, int_big, rv_opd, aggregate, op2, mul, offset, unsigned, addr_of, seq, assign, call, return}
use mir.Val.{Val, Fits, WT, has_ty, of_list, vbool, vint, vptr, vstruct, vnil, vcons}
use base.Logic.{SProp, ent, sep, emp, via, fst∗, id⊢, guard_i}
use base.Fml.{GName, Lft, Share, ftrue, fat, flft, fobs, fbor}
use prog.Wp.{Calls, Loops, WpFn, Tables}
use types.Logic.{Logic, sem}
use contract.Lifetimes.{Lfts}
use contract.Monad.{fact}
use types.Kit.{‵, raw, ◌⊛◌, some, later, ◌$◌, ◌∵◌, !, qed, by, move, drop, use1, split, join, pick, rewrite, fsplit, fsplit3, fjoin, fjoin3, feq_l, feq_i, suffices, frame, await, done}
use types.Run.{look, init, addr, bin, lit, stop, hop, fld, from, load, and_then, no_more, land, of_opd, assigns, returns, enter, alloc1, alloc0, params1, pass1, pass0}
use types.Part.{whole, sub, agg, look_in}
use types.SemTy.{Body as Borrowed}
use types.Share.{arr_parts}
use types.Mut.{open_ref, close_ref}
use sound.WpLaws.{FmC, fm_of, WpFn-mono}
use denote.RattleType.{RattleType, owns}
use denote.Exit.{yes}
use denote.Laws.{Is, Makes, shows}
use denote.Memory.{mem, shares, part_at, pointee}
use denote.Array.{Array, Array-Lawful, Array-Makes}
use denote.ArrayMemory.{Array-apart, Array-whole}
use denote.Index.{elem_out, elem_back, place as place_of, place_is}
use denote.Plain.{uint_Makes, uint_Lawful}
use denote.Builtin.{u16}
use denote.Ref.{MutBor, MutRef, at_last, mut_vals, mut_Tells}
use denote.Signature.{Signature, plain, mut_ref_to}
use denote.Steps.{only, owned, peeks, heard, nothing}
use denote.Triple.Statement.{Contract, Triple}
use denote.Triple.Call.{calls_at}
use denote.Triple.Entry.{on_entry}
use denote.Triple.Spec.{Spec, Meets, triple_of}
use denote.Triple.Clauses.{Ended, Clauses, closing}
use denote.Triple.Walked.{Stays, stay_ref, stay_none, walk_of, AllGo, Goes-none, Goes-ref, ends_at, walked, walk_Meets}
use Rattle.walks.proofs.ThinWalk.{Held, row, still, uint, Known, beside}
use Rattle.walks.proofs.Frees.{has, none as none_left, frees-behind}
use Rattle.walks.proofs.Lenses.{Sight}

in-eight : {n : ℕ} → n ≡ 8 → (k : ℕ) → k < 8 → k < n
in-eight e k l = subst (λ (m : ℕ). k < m) (sym e) l

abbrev values : List Ty → List Local
values [] = []
values (τ ∷ τs) = local τ value_local ∷ values τs

-- a struct of a place and a flag
abbrev pub spot_ty_of : Sym → Ty
spot_ty_of ν = ty_struct ν (tcons (ty_int w64) (tcons ty_bool tnil))

abbrev pub spot_val_of : ℕ → Bool → Val
spot_val_of i t = vstruct (vcons (vint w64 i) (vcons (vbool t) vnil))

pub record Spots {M : Type 1} {𝓤 : Ura M} (𝓛 : Logic 𝓤) (Q : RattleType) (ν : Sym) (spot : Q.Denot → ℕ) (taken : Q.Denot → Bool) : Type 1 where
  pub fits : (r : Q.Denot) (u : Val) → Is Q r (u ∷ []) → T (has_ty (spot_ty_of ν) u) × WT u
  pub tells : (r : Q.Denot) (u : Val) → Is Q r (u ∷ []) → ◌≡◌ {A = List Val} (u ∷ []) (spot_val_of (spot r) (taken r) ∷ [])
  pub makes : Makes 𝓛 Q (Is Q)

-- ---- the look

-- S is an element of what is lent, P what is asked, O what is said, Q where it goes
module _ (S P O : Held) (Q : RattleType) (νq : Sym) (spot : Q.Denot → ℕ) (taken : Q.Denot → Bool) (ident-path : List PStep) (none : S.Denot) (ident : S.Denot → ℕ)
    (route : List ℕ → P.Denot → Q.Denot) (f : S.Denot → Q.Denot → O.Denot) where
  abbrev pub Eight : RattleType
  Eight = Array (row S) 8

  abbrev size : ℕ
  size = (mem (row S)).size

  abbrev spot_ty : Ty
  spot_ty = spot_ty_of νq

  abbrev spot_val : Q.Denot → Val
  spot_val r = spot_val_of (spot r) (taken r)

  abbrev pub ids : List S.Denot → List ℕ
  ids xs = ident (get_or xs 0 none) ∷ ident (get_or xs 1 none) ∷ ident (get_or xs 2 none) ∷ ident (get_or xs 3 none) ∷ ident (get_or xs 4 none) ∷ ident (get_or xs 5 none) ∷ ident (get_or xs 6 none) ∷ ident (get_or xs 7 none) ∷ []

  abbrev pub ended : Ended
  ended = record {
    signature = record {
      lifetimes = 1;
      outlives = [];
      params = mut_ref_to (0 ∷ []) tt (plain (λ _. Eight)) ∷ plain (λ _. still P) ∷ [];
      result = plain (λ _. row O);
    };
    kept = (yes, (yes, tt));
  }

  abbrev eights : PStep
  eights = deref (ty_array S.ty 8)

  abbrev pub code : Name → Name → Fn
  code #routed #looked = record {
    lifetimes = 1;
    outlives = [];
    ty_params = [];
    givens = 0;
    params = 2;
    locals = values (O.ty ∷ ty_ref (named 0) mut (pointee Eight.written) ∷ P.ty ∷ ty_array (ty_int w16) 8 ∷ spot_ty ∷ ty_int w64 ∷ ty_ptr ∷ ty_ptr ∷ ty_int w16 ∷ ty_ptr ∷ ty_ptr ∷ ty_int w16 ∷ ty_ptr ∷ ty_ptr ∷ ty_int w16 ∷ ty_ptr ∷ ty_ptr ∷ ty_int w16 ∷ ty_ptr ∷ ty_ptr ∷ ty_int w16 ∷ ty_ptr ∷ ty_ptr ∷ ty_int w16 ∷ ty_ptr ∷ ty_ptr ∷ ty_int w16 ∷ ty_ptr ∷ ty_ptr ∷ ty_int w16 ∷ ty_int w64 ∷ ty_ptr ∷ ty_ptr ∷ S.ty ∷ []);
    body =
        (seq (assign (place 6 []) (addr_of (place 1 (eights ∷ [])))) (seq (assign (place 7 []) (op2 offset (copy (place 6 [])) (int w64 0))) (seq (assign (place 8 []) (rv_opd (copy (place 7 (deref S.ty ∷ ident-path)))))
        (seq (assign (place 9 []) (addr_of (place 1 (eights ∷ [])))) (seq (assign (place 10 []) (op2 offset (copy (place 9 [])) (int_big w64 (1 * size)))) (seq (assign (place 11 []) (rv_opd (copy (place 10 (deref S.ty ∷ ident-path)))))
        (seq (assign (place 12 []) (addr_of (place 1 (eights ∷ [])))) (seq (assign (place 13 []) (op2 offset (copy (place 12 [])) (int_big w64 (2 * size)))) (seq (assign (place 14 []) (rv_opd (copy (place 13 (deref S.ty ∷ ident-path)))))
        (seq (assign (place 15 []) (addr_of (place 1 (eights ∷ [])))) (seq (assign (place 16 []) (op2 offset (copy (place 15 [])) (int_big w64 (3 * size)))) (seq (assign (place 17 []) (rv_opd (copy (place 16 (deref S.ty ∷ ident-path)))))
        (seq (assign (place 18 []) (addr_of (place 1 (eights ∷ [])))) (seq (assign (place 19 []) (op2 offset (copy (place 18 [])) (int_big w64 (4 * size)))) (seq (assign (place 20 []) (rv_opd (copy (place 19 (deref S.ty ∷ ident-path)))))
        (seq (assign (place 21 []) (addr_of (place 1 (eights ∷ [])))) (seq (assign (place 22 []) (op2 offset (copy (place 21 [])) (int_big w64 (5 * size)))) (seq (assign (place 23 []) (rv_opd (copy (place 22 (deref S.ty ∷ ident-path)))))
        (seq (assign (place 24 []) (addr_of (place 1 (eights ∷ [])))) (seq (assign (place 25 []) (op2 offset (copy (place 24 [])) (int_big w64 (6 * size)))) (seq (assign (place 26 []) (rv_opd (copy (place 25 (deref S.ty ∷ ident-path)))))
        (seq (assign (place 27 []) (addr_of (place 1 (eights ∷ [])))) (seq (assign (place 28 []) (op2 offset (copy (place 27 [])) (int_big w64 (7 * size)))) (seq (assign (place 29 []) (rv_opd (copy (place 28 (deref S.ty ∷ ident-path)))))
        (seq (assign (place 3 []) (aggregate (copy (place 8 []) ∷ copy (place 11 []) ∷ copy (place 14 []) ∷ copy (place 17 []) ∷ copy (place 20 []) ∷ copy (place 23 []) ∷ copy (place 26 []) ∷ copy (place 29 []) ∷ [])))
        (seq (call #routed (copy (place 3 []) ∷ copy (place 2 []) ∷ []) (place 4 []))
        (seq (assign (place 5 []) (rv_opd (copy (place 4 (field 0 ∷ [])))))
        (seq (assign (place 30 []) (op2 (mul unsigned) (copy (place 5 [])) (int_big w64 size))) (seq (assign (place 31 []) (addr_of (place 1 (eights ∷ [])))) (seq (assign (place 32 []) (op2 offset (copy (place 31 [])) (copy (place 30 []))))
        (seq (assign (place 33 []) (rv_opd (copy (place 32 (deref S.ty ∷ [])))))
        (seq (call #looked (copy (place 33 []) ∷ copy (place 4 []) ∷ []) (place 0 [])) return))))))))))))))))))))))))))))))));
  }

  abbrev stayed : Stays ended.signature.params ended.kept
  stayed = (stay_ref (0 ∷ []) tt (plain (λ _. Eight)), (stay_none (λ _. still P) yes, tt))

  abbrev Arg : Type 0
  Arg = MutBor (List S.Denot) × (P.Denot × Unit {0})

  -- the by-value functions' signatures
  abbrev looked-signature : Signature
  looked-signature = record { lifetimes = 0; outlives = []; params = plain (λ _. row S) ∷ plain (λ _. Q) ∷ []; result = plain (λ _. row O) }

  abbrev routed-signature : Signature
  routed-signature = record { lifetimes = 0; outlives = []; params = plain (λ _. Array u16 8) ∷ plain (λ _. still P) ∷ []; result = plain (λ _. Q) }

  module _ {M : Type 1} {𝓤 : Ura M} (𝓛 : Logic 𝓤) (promised : Lfts 1 → MutBor (List S.Denot) → P.Denot → O.Denot → MutBor (List S.Denot) → SProp 𝓤)
      (routed-ensures : List ℕ → P.Denot → Q.Denot → SProp 𝓤) (looked-ensures : S.Denot → Q.Denot → O.Denot → SProp 𝓤) where
    open 𝓛 use {H, A}

    abbrev pub clauses : Clauses 𝓤 ended
    clauses κs a = record { ghost = Unit {0}; requires = λ _. emp 𝓤; ensures = λ _ r end. promised κs a.0 a.1.0 r end.0 }

    abbrev routed-spec : Spec 𝓤 routed-signature
    routed-spec κs a = record { ghost = Unit {0}; requires = λ _. emp 𝓤; ensures = λ _ r. routed-ensures a.0 a.1.0 r }

    abbrev Routed : Contract 𝓤
    Routed = triple_of 𝓛 routed-signature routed-spec

    abbrev looked-spec : Spec 𝓤 looked-signature
    looked-spec κs a = record { ghost = Unit {0}; requires = λ _. emp 𝓤; ensures = λ _ r. looked-ensures a.0 a.1.0 r }

    abbrev Looked : Contract 𝓤
    Looked = triple_of 𝓛 looked-signature looked-spec

    module _ (size_fits : size < 2 ^ 64) (far : (i : ℕ) → i < 8 → i * size < 2 ^ 64) (small : (i : ℕ) → i < 8 → i < 2 ^ 64)
        (routed-said : (is : List ℕ) (p : P.Denot) (r : Q.Denot) → ent 𝓤 (routed-ensures is p r) (fact 𝓤 ((r ≡ route is p) × (spot r < 8))))
        (looked-said : (s : S.Denot) (r : Q.Denot) (v : O.Denot) → ent 𝓤 (looked-ensures s r v) (fact 𝓤 (v ≡ f s r)))
        (Sk : Known 𝓛 S) (Pk : Known 𝓛 P) (Ok : Known 𝓛 O) (Qk : Spots 𝓛 Q νq spot taken)
        (sight : Sight 𝓛 S (uint w16) ident-path ident) (all : Sight 𝓛 S S [] (λ h. h))
        (holds : (κs : Lfts 1) (m : MutBor (List S.Denot)) (a : P.Denot) (r : Q.Denot) (v : O.Denot) → length m.now ≡ 8 → r ≡ route (ids m.now) a
        → v ≡ f (get_or m.now (spot r) none) r → ent 𝓤 (emp 𝓤) (promised κs m a v (at_last m m.now))) where
      module _ (κ : Lft) (q : Share) (b o : ℕ) (γ : GName) (xs : List S.Denot) (a : P.Denot) (a-is : Is (still P) a (P.val a ∷ [])) where
        abbrev x : Arg
        x = (record { ref_ptr = (b, o); ghost_name = γ; now = xs }, (a, tt))

        abbrev at : List Val × (List Val × Unit {0})
        at = (vptr b o ∷ [], (P.val a ∷ [], tt))

        abbrev Post : Val → SProp 𝓤
        Post = (walk_of 𝓛 ended stayed clauses).post (((κ, tt), (q, tt), tt, x, at), tt)

        abbrev ids_val : Val
        ids_val = vstruct (of_list (vint w16 (ident (get_or xs 0 none)) ∷ vint w16 (ident (get_or xs 1 none)) ∷ vint w16 (ident (get_or xs 2 none)) ∷ vint w16 (ident (get_or xs 3 none)) ∷ vint w16 (ident (get_or xs 4 none)) ∷ vint w16 (ident (get_or xs 5 none)) ∷ vint w16 (ident (get_or xs 6 none)) ∷ vint w16 (ident (get_or xs 7 none)) ∷ []))

        -- the calls: what each is passed, and what it asks
        abbrev to-routed : Routed.Ghost
        to-routed = ((tt, tt, tt, (ids xs, (a, tt)), (ids_val ∷ [], (P.val a ∷ [], tt))), tt)

        goes-routed : Is (Array u16 8) (ids xs) (ids_val ∷ []) → ent 𝓤 (sem 𝓛 ftrue) (Routed.pre to-routed)
        goes-routed g = qed 𝓛 (‵ ftrue ∷ []) ∵ owned ! (still P) (Is (still P)) Pk.makes a _ a-is $ fjoin ! $ owned ! (Array u16 8) (Is (Array u16 8)) (Array-Makes 𝓛 u16 (uint_Makes 𝓛 w16) 8) (ids xs) _ g $ fjoin ! $ nothing ! $ join ! $ frame ! $ done !

        abbrev to-looked : S.Denot → Q.Denot → Looked.Ghost
        to-looked h r = ((tt, tt, tt, (h, (r, tt)), (S.val h ∷ [], (spot_val r ∷ [], tt))), tt)

        goes-looked : (h : S.Denot) (r : Q.Denot) → Is (row S) h (S.val h ∷ []) → Is Q r (spot_val r ∷ []) → ent 𝓤 (sem 𝓛 ftrue) (Looked.pre (to-looked h r))
        goes-looked h r g r-is = qed 𝓛 (‵ ftrue ∷ []) ∵ owned ! Q (Is Q) Qk.makes r _ r-is $ fjoin ! $ owned ! (row S) (Is (row S)) Sk.makes h _ g $ fjoin ! $ nothing ! $ join ! $ frame ! $ done !

        exits : (y : O.Denot) → Is (row O) y (O.val y ∷ []) → ent 𝓤 (emp 𝓤) (promised (κ, tt) x.0 a y (at_last x.0 xs))
            → ent 𝓤 (sep 𝓤 (A.obs γ (Eight.coded.code xs)) (sep 𝓤 (A.bor κ (Borrowed (mem Eight) b o γ)) (A.lft κ q))) (Post (O.val y))
        exits y s said =
            qed 𝓛 (‵ (fobs γ (Eight.coded.code xs)) ∷ ‵ (fbor κ (Borrowed (mem Eight) b o γ)) ∷ ‵ (flft κ q) ∷ []) ∵
            suffices ! _ (ends_at 𝓛 ended stayed clauses (((κ, tt), (q, tt), tt, x, at), tt) (O.val y) y (xs, (tt, tt)) (tt, (tt, tt))) $
            beside ! said $ nothing ! $ move ! (3 ∷ 0 ∷ []) $ join ! $
            frame ! $ feq_i ! (List Val) (vptr b o ∷ []) (vptr b o ∷ []) refl $ fjoin3 ! $ nothing ! $ owned ! (still P) (Is (still P)) Pk.makes a _ a-is $ fjoin ! $ move ! (1 ∷ 0 ∷ []) $ fjoin ! $
            owned ! (row O) (Is (row O)) Ok.makes y _ s $ move ! (1 ∷ 0 ∷ []) $ done !

        module _ (#routed #looked : Name) (C : Calls 𝓤 H) (Λ : Loops 𝓤 H) (fm : FmC 𝓤 H 𝓛.laws C) (routed-known : Triple 𝓤 (C #routed) Routed) (looked-known : Triple 𝓤 (C #looked) Looked) where
          walk : ent 𝓤 (on_entry 𝓛 ended.signature (κ, tt) (q, tt) x at) (WpFn 𝓤 H C Λ (code #routed #looked) (vptr b o ∷ P.val a ∷ []) Post)
          walk =
              qed 𝓛 ((‵ (flft κ q) ⊛ ‵ ftrue) ∷ ‵ (owns (MutRef (named 0) κ Eight ∷ still P ∷ []) x at) ∷ []) ∵
              enter ! C Λ (code #routed #looked) (vptr b o ∷ P.val a ∷ []) _ $
              alloc1 ! (λ l0. alloc1 ! (λ l1. alloc1 ! (λ l2. alloc1 ! (λ l3. alloc1 ! (λ l4. alloc1 ! (λ l5. alloc1 ! (λ l6. alloc1 ! (λ l7. alloc1 ! (λ l8. alloc1 ! (λ l9. alloc1 ! (λ l10. alloc1 ! (λ l11. alloc1 ! (λ l12. alloc1 ! (λ l13. alloc1 ! (λ l14. alloc1 ! (λ l15. alloc1 ! (λ l16. alloc1 ! (λ l17. alloc1 ! (λ l18. alloc1 ! (λ l19. alloc1 ! (λ l20. alloc1 ! (λ l21. alloc1 ! (λ l22. alloc1 ! (λ l23. alloc1 ! (λ l24. alloc1 ! (λ l25. alloc1 ! (λ l26. alloc1 ! (λ l27. alloc1 ! (λ l28. alloc1 ! (λ l29. alloc1 ! (λ l30. alloc1 ! (λ l31. alloc1 ! (λ l32. alloc1 ! (λ l33. alloc0 ! $ params1 ! $
              pass1 ! (init ! 64 refl (tt, tt)) $ pass1 ! (init ! 62 refl (Pk.fits a _ a-is)) $ pass0 ! $
              -- the borrow is opened, and the eight taken apart
              move ! (69 ∷ []) $ fsplit ! $ fsplit3 ! $ drop ! $ move ! (71 ∷ []) $ split ! $ move ! (2 ∷ 3 ∷ 0 ∷ []) $ open_ref ! tt (mem Eight) {b = b} {o = o} $
              use1 𝓛 (‵ ((arr_parts (shares (row S)) 8).part full_share xs b o)) (Array-apart 𝓛 (row S) full_share tt 8 xs b o) $ fsplit ! $ feq_l ! (λ len.
              -- the ids: [the eight; the open borrow; obs; auth; true; the rest; the locals, last first, each with what frees it]
              assigns ! (addr ! (from ! (hop ! (look ! 70 refl) (stop !)))) (from ! (stop !)) (init ! 60 refl (tt, tt)) $ assigns ! (bin ! {b = vint w64 (0)} (load ! (from ! (stop !)) (look ! 60 refl)) (lit ! tt) tt) (from ! (stop !)) (init ! 58 refl (tt, tt)) $ rewrite ! 58 (λ (p : ℕ). ‵ (fat full_share ty_ptr l7 0 (vptr b p))) (zero-add o) refl $
              elem_out ! (row S) (Is (row S)) (shows 𝓛 (row S)) (λ y. S.val y ∷ []) Sk.tells full_share xs 0 none b o (in-eight len 0 (lit< tt)) (λ g0. assigns ! (of_opd ! (load ! (from ! (hop ! (look ! 60 refl) (sight.way b (place_of size o 0)))) (look_in ! 0 (sight.cell full_share b (place_of size o 0) (get_or xs 0 none))))) (from ! (stop !)) (init ! 58 refl (tt, record { fits = (sight.got (get_or xs 0 none) g0).1 })) $ elem_back ! (row S) full_share xs 0 none (S.val (get_or xs 0 none) ∷ []) b o (in-eight len 0 (lit< tt)) $
              assigns ! (addr ! (from ! (hop ! (look ! 70 refl) (stop !)))) (from ! (stop !)) (init ! 54 refl (tt, tt)) $ assigns ! (bin ! {b = vint w64 (1 * size)} (load ! (from ! (stop !)) (look ! 54 refl)) (record { go = λ Kt hh. via 𝓤 (Kt (vint w64 (1 * size))) hh (guard_i 𝓤 (Fits w64 (1 * size)) (Kt (vint w64 (1 * size))) (record { fits = far 1 (lit< tt) })) }) tt) (from ! (stop !)) (init ! 52 refl (tt, tt)) $ rewrite ! 52 (λ (p : ℕ). ‵ (fat full_share ty_ptr l10 0 (vptr b p))) (sym (place_is size o 1)) refl $
              elem_out ! (row S) (Is (row S)) (shows 𝓛 (row S)) (λ y. S.val y ∷ []) Sk.tells full_share xs 1 none b o (in-eight len 1 (lit< tt)) (λ g1. assigns ! (of_opd ! (load ! (from ! (hop ! (look ! 54 refl) (sight.way b (place_of size o 1)))) (look_in ! 0 (sight.cell full_share b (place_of size o 1) (get_or xs 1 none))))) (from ! (stop !)) (init ! 52 refl (tt, record { fits = (sight.got (get_or xs 1 none) g1).1 })) $ elem_back ! (row S) full_share xs 1 none (S.val (get_or xs 1 none) ∷ []) b o (in-eight len 1 (lit< tt)) $
              assigns ! (addr ! (from ! (hop ! (look ! 70 refl) (stop !)))) (from ! (stop !)) (init ! 48 refl (tt, tt)) $ assigns ! (bin ! {b = vint w64 (2 * size)} (load ! (from ! (stop !)) (look ! 48 refl)) (record { go = λ Kt hh. via 𝓤 (Kt (vint w64 (2 * size))) hh (guard_i 𝓤 (Fits w64 (2 * size)) (Kt (vint w64 (2 * size))) (record { fits = far 2 (lit< tt) })) }) tt) (from ! (stop !)) (init ! 46 refl (tt, tt)) $ rewrite ! 46 (λ (p : ℕ). ‵ (fat full_share ty_ptr l13 0 (vptr b p))) (sym (place_is size o 2)) refl $
              elem_out ! (row S) (Is (row S)) (shows 𝓛 (row S)) (λ y. S.val y ∷ []) Sk.tells full_share xs 2 none b o (in-eight len 2 (lit< tt)) (λ g2. assigns ! (of_opd ! (load ! (from ! (hop ! (look ! 48 refl) (sight.way b (place_of size o 2)))) (look_in ! 0 (sight.cell full_share b (place_of size o 2) (get_or xs 2 none))))) (from ! (stop !)) (init ! 46 refl (tt, record { fits = (sight.got (get_or xs 2 none) g2).1 })) $ elem_back ! (row S) full_share xs 2 none (S.val (get_or xs 2 none) ∷ []) b o (in-eight len 2 (lit< tt)) $
              assigns ! (addr ! (from ! (hop ! (look ! 70 refl) (stop !)))) (from ! (stop !)) (init ! 42 refl (tt, tt)) $ assigns ! (bin ! {b = vint w64 (3 * size)} (load ! (from ! (stop !)) (look ! 42 refl)) (record { go = λ Kt hh. via 𝓤 (Kt (vint w64 (3 * size))) hh (guard_i 𝓤 (Fits w64 (3 * size)) (Kt (vint w64 (3 * size))) (record { fits = far 3 (lit< tt) })) }) tt) (from ! (stop !)) (init ! 40 refl (tt, tt)) $ rewrite ! 40 (λ (p : ℕ). ‵ (fat full_share ty_ptr l16 0 (vptr b p))) (sym (place_is size o 3)) refl $
              elem_out ! (row S) (Is (row S)) (shows 𝓛 (row S)) (λ y. S.val y ∷ []) Sk.tells full_share xs 3 none b o (in-eight len 3 (lit< tt)) (λ g3. assigns ! (of_opd ! (load ! (from ! (hop ! (look ! 42 refl) (sight.way b (place_of size o 3)))) (look_in ! 0 (sight.cell full_share b (place_of size o 3) (get_or xs 3 none))))) (from ! (stop !)) (init ! 40 refl (tt, record { fits = (sight.got (get_or xs 3 none) g3).1 })) $ elem_back ! (row S) full_share xs 3 none (S.val (get_or xs 3 none) ∷ []) b o (in-eight len 3 (lit< tt)) $
              assigns ! (addr ! (from ! (hop ! (look ! 70 refl) (stop !)))) (from ! (stop !)) (init ! 36 refl (tt, tt)) $ assigns ! (bin ! {b = vint w64 (4 * size)} (load ! (from ! (stop !)) (look ! 36 refl)) (record { go = λ Kt hh. via 𝓤 (Kt (vint w64 (4 * size))) hh (guard_i 𝓤 (Fits w64 (4 * size)) (Kt (vint w64 (4 * size))) (record { fits = far 4 (lit< tt) })) }) tt) (from ! (stop !)) (init ! 34 refl (tt, tt)) $ rewrite ! 34 (λ (p : ℕ). ‵ (fat full_share ty_ptr l19 0 (vptr b p))) (sym (place_is size o 4)) refl $
              elem_out ! (row S) (Is (row S)) (shows 𝓛 (row S)) (λ y. S.val y ∷ []) Sk.tells full_share xs 4 none b o (in-eight len 4 (lit< tt)) (λ g4. assigns ! (of_opd ! (load ! (from ! (hop ! (look ! 36 refl) (sight.way b (place_of size o 4)))) (look_in ! 0 (sight.cell full_share b (place_of size o 4) (get_or xs 4 none))))) (from ! (stop !)) (init ! 34 refl (tt, record { fits = (sight.got (get_or xs 4 none) g4).1 })) $ elem_back ! (row S) full_share xs 4 none (S.val (get_or xs 4 none) ∷ []) b o (in-eight len 4 (lit< tt)) $
              assigns ! (addr ! (from ! (hop ! (look ! 70 refl) (stop !)))) (from ! (stop !)) (init ! 30 refl (tt, tt)) $ assigns ! (bin ! {b = vint w64 (5 * size)} (load ! (from ! (stop !)) (look ! 30 refl)) (record { go = λ Kt hh. via 𝓤 (Kt (vint w64 (5 * size))) hh (guard_i 𝓤 (Fits w64 (5 * size)) (Kt (vint w64 (5 * size))) (record { fits = far 5 (lit< tt) })) }) tt) (from ! (stop !)) (init ! 28 refl (tt, tt)) $ rewrite ! 28 (λ (p : ℕ). ‵ (fat full_share ty_ptr l22 0 (vptr b p))) (sym (place_is size o 5)) refl $
              elem_out ! (row S) (Is (row S)) (shows 𝓛 (row S)) (λ y. S.val y ∷ []) Sk.tells full_share xs 5 none b o (in-eight len 5 (lit< tt)) (λ g5. assigns ! (of_opd ! (load ! (from ! (hop ! (look ! 30 refl) (sight.way b (place_of size o 5)))) (look_in ! 0 (sight.cell full_share b (place_of size o 5) (get_or xs 5 none))))) (from ! (stop !)) (init ! 28 refl (tt, record { fits = (sight.got (get_or xs 5 none) g5).1 })) $ elem_back ! (row S) full_share xs 5 none (S.val (get_or xs 5 none) ∷ []) b o (in-eight len 5 (lit< tt)) $
              assigns ! (addr ! (from ! (hop ! (look ! 70 refl) (stop !)))) (from ! (stop !)) (init ! 24 refl (tt, tt)) $ assigns ! (bin ! {b = vint w64 (6 * size)} (load ! (from ! (stop !)) (look ! 24 refl)) (record { go = λ Kt hh. via 𝓤 (Kt (vint w64 (6 * size))) hh (guard_i 𝓤 (Fits w64 (6 * size)) (Kt (vint w64 (6 * size))) (record { fits = far 6 (lit< tt) })) }) tt) (from ! (stop !)) (init ! 22 refl (tt, tt)) $ rewrite ! 22 (λ (p : ℕ). ‵ (fat full_share ty_ptr l25 0 (vptr b p))) (sym (place_is size o 6)) refl $
              elem_out ! (row S) (Is (row S)) (shows 𝓛 (row S)) (λ y. S.val y ∷ []) Sk.tells full_share xs 6 none b o (in-eight len 6 (lit< tt)) (λ g6. assigns ! (of_opd ! (load ! (from ! (hop ! (look ! 24 refl) (sight.way b (place_of size o 6)))) (look_in ! 0 (sight.cell full_share b (place_of size o 6) (get_or xs 6 none))))) (from ! (stop !)) (init ! 22 refl (tt, record { fits = (sight.got (get_or xs 6 none) g6).1 })) $ elem_back ! (row S) full_share xs 6 none (S.val (get_or xs 6 none) ∷ []) b o (in-eight len 6 (lit< tt)) $
              assigns ! (addr ! (from ! (hop ! (look ! 70 refl) (stop !)))) (from ! (stop !)) (init ! 18 refl (tt, tt)) $ assigns ! (bin ! {b = vint w64 (7 * size)} (load ! (from ! (stop !)) (look ! 18 refl)) (record { go = λ Kt hh. via 𝓤 (Kt (vint w64 (7 * size))) hh (guard_i 𝓤 (Fits w64 (7 * size)) (Kt (vint w64 (7 * size))) (record { fits = far 7 (lit< tt) })) }) tt) (from ! (stop !)) (init ! 16 refl (tt, tt)) $ rewrite ! 16 (λ (p : ℕ). ‵ (fat full_share ty_ptr l28 0 (vptr b p))) (sym (place_is size o 7)) refl $
              elem_out ! (row S) (Is (row S)) (shows 𝓛 (row S)) (λ y. S.val y ∷ []) Sk.tells full_share xs 7 none b o (in-eight len 7 (lit< tt)) (λ g7. assigns ! (of_opd ! (load ! (from ! (hop ! (look ! 18 refl) (sight.way b (place_of size o 7)))) (look_in ! 0 (sight.cell full_share b (place_of size o 7) (get_or xs 7 none))))) (from ! (stop !)) (init ! 16 refl (tt, record { fits = (sight.got (get_or xs 7 none) g7).1 })) $ elem_back ! (row S) full_share xs 7 none (S.val (get_or xs 7 none) ∷ []) b o (in-eight len 7 (lit< tt)) $
              assigns ! (agg ! (and_then ! (load ! (from ! (stop !)) (look ! 56 refl)) (and_then ! (load ! (from ! (stop !)) (look ! 50 refl)) (and_then ! (load ! (from ! (stop !)) (look ! 44 refl)) (and_then ! (load ! (from ! (stop !)) (look ! 38 refl)) (and_then ! (load ! (from ! (stop !)) (look ! 32 refl)) (and_then ! (load ! (from ! (stop !)) (look ! 26 refl)) (and_then ! (load ! (from ! (stop !)) (look ! 20 refl)) (and_then ! (load ! (from ! (stop !)) (look ! 14 refl)) (no_more !)))))))))) (from ! (stop !)) (init ! 66 refl ((Array-Lawful 𝓛 u16 (uint_Lawful 𝓛 w16) 8).typed (ids xs) _ (vint w16 (ident (get_or xs 0 none)) ∷ vint w16 (ident (get_or xs 1 none)) ∷ vint w16 (ident (get_or xs 2 none)) ∷ vint w16 (ident (get_or xs 3 none)) ∷ vint w16 (ident (get_or xs 4 none)) ∷ vint w16 (ident (get_or xs 5 none)) ∷ vint w16 (ident (get_or xs 6 none)) ∷ vint w16 (ident (get_or xs 7 none)) ∷ [], ((refl, refl), (((refl, (sight.got (get_or xs 0 none) g0).1), ((refl, (sight.got (get_or xs 1 none) g1).1), ((refl, (sight.got (get_or xs 2 none) g2).1), ((refl, (sight.got (get_or xs 3 none) g3).1), ((refl, (sight.got (get_or xs 4 none) g4).1), ((refl, (sight.got (get_or xs 5 none) g5).1), ((refl, (sight.got (get_or xs 6 none) g6).1), ((refl, (sight.got (get_or xs 7 none) g7).1), tt)))))))))))).0) $
              -- where the look goes
              nothing ! $ use1 𝓛 (raw (Routed.pre to-routed)) (goes-routed (vint w16 (ident (get_or xs 0 none)) ∷ vint w16 (ident (get_or xs 1 none)) ∷ vint w16 (ident (get_or xs 2 none)) ∷ vint w16 (ident (get_or xs 3 none)) ∷ vint w16 (ident (get_or xs 4 none)) ∷ vint w16 (ident (get_or xs 5 none)) ∷ vint w16 (ident (get_or xs 6 none)) ∷ vint w16 (ident (get_or xs 7 none)) ∷ [], ((refl, refl), (((refl, (sight.got (get_or xs 0 none) g0).1), ((refl, (sight.got (get_or xs 1 none) g1).1), ((refl, (sight.got (get_or xs 2 none) g2).1), ((refl, (sight.got (get_or xs 3 none) g3).1), ((refl, (sight.got (get_or xs 4 none) g4).1), ((refl, (sight.got (get_or xs 5 none) g5).1), ((refl, (sight.got (get_or xs 6 none) g6).1), ((refl, (sight.got (get_or xs 7 none) g7).1), tt)))))))))))) $
              calls_at ! fm Routed routed-known to-routed (and_then ! (load ! (from ! (stop !)) (look ! 67 refl)) (and_then ! (load ! (from ! (stop !)) (look ! 69 refl)) (no_more !))) (λ u.
              use1 𝓛 (later (some (λ (r : Q.Denot). (‵ ftrue ⊛ ‵ (Q.own_val r (u ∷ []))) ⊛ raw (routed-ensures (ids xs) a r)))) (id⊢ 𝓤 _) $ await ! tt $ pick ! (λ r.
              split ! $ move ! (1 ∷ []) $ use1 𝓛 (raw (fact 𝓤 ((r ≡ route (ids xs) a) × (spot r < 8)))) (routed-said (ids xs) a r) $ heard ! ((r ≡ route (ids xs) a) × (spot r < 8)) (λ r-told. split ! $ drop ! $
              peeks ! Q (Is Q) (shows 𝓛 Q) r (u ∷ []) (λ u-is.
              let i : ℕ = spot r in
              let h : S.Denot = get_or xs i none in
              let within : i < 8 = r-told.1 in
              let r-is : Is Q r (spot_val r ∷ []) = subst (λ (us : List Val). Is Q r us) (Qk.tells r u u-is) u-is in
              land ! (from ! (stop !)) (init ! 65 refl (Qk.fits r u u-is)) $ drop ! $
              rewrite ! 64 (λ (us : List Val). ‵ (fat full_share spot_ty l4 0 (only us))) (Qk.tells r u u-is) refl $
              assigns ! (of_opd ! (load ! (from ! (fld ! refl (stop !))) (look_in ! 64 (sub ! 0 refl (whole !))))) (from ! (stop !)) (init ! 62 refl (tt, record { fits = small i within })) $
              -- the element there is copied out, and the answer had
              assigns ! (bin ! {b = vint w64 size} (load ! (from ! (stop !)) (look ! 62 refl)) (record { go = λ Kt hh. via 𝓤 (Kt (vint w64 (size))) hh (guard_i 𝓤 (Fits w64 (size)) (Kt (vint w64 (size))) (record { fits = size_fits })) }) (record { fits = far i within })) (from ! (stop !)) (init ! 12 refl (tt, record { fits = far i within })) $ assigns ! (addr ! (from ! (hop ! (look ! 70 refl) (stop !)))) (from ! (stop !)) (init ! 10 refl (tt, tt)) $ assigns ! (bin ! (load ! (from ! (stop !)) (look ! 10 refl)) (load ! (from ! (stop !)) (look ! 12 refl)) tt) (from ! (stop !)) (init ! 8 refl (tt, tt)) $ rewrite ! 8 (λ (p : ℕ). ‵ (fat full_share ty_ptr l32 0 (vptr b p))) (sym (place_is size o i)) refl $
              elem_out ! (row S) (Is (row S)) (shows 𝓛 (row S)) (λ y. S.val y ∷ []) Sk.tells full_share xs i none b o (in-eight len i within) (λ g.
              assigns ! (of_opd ! (load ! (from ! (hop ! (look ! 10 refl) (all.way b (place_of size o i)))) (look_in ! 0 (all.cell full_share b (place_of size o i) h)))) (from ! (stop !)) (init ! 8 refl (Sk.fits h _ g)) $ elem_back ! (row S) full_share xs i none (S.val h ∷ []) b o (in-eight len i within) $
              nothing ! $ use1 𝓛 (raw (Looked.pre (to-looked h r))) (goes-looked h r g r-is) $
              calls_at ! fm Looked looked-known (to-looked h r) (and_then ! (load ! (from ! (stop !)) (look ! 7 refl)) (and_then ! (load ! (from ! (stop !)) (look ! 65 refl)) (no_more !))) (λ w.
              use1 𝓛 (later (some (λ (v : O.Denot). (‵ ftrue ⊛ ‵ (O.own_val v (w ∷ []))) ⊛ raw (looked-ensures h r v)))) (id⊢ 𝓤 _) $ await ! tt $ pick ! (λ v.
              split ! $ move ! (1 ∷ []) $ use1 𝓛 (raw (fact 𝓤 (v ≡ f h r))) (looked-said h r v) $ heard ! (v ≡ f h r) (λ e. split ! $ drop ! $
              peeks ! (row O) (Is (row O)) (shows 𝓛 (row O)) v (w ∷ []) (λ v-is.
              let y-is : Is (row O) v (O.val v ∷ []) = subst (λ (us : List Val). Is (row O) v us) (Ok.tells v (w ∷ []) v-is) v-is in
              land ! (from ! (stop !)) (init ! 73 refl (Ok.fits v w v-is)) $ drop ! $
              rewrite ! 72 (λ (us : List Val). ‵ (fat full_share O.ty l0 0 (only us))) (Ok.tells v (w ∷ []) v-is) refl $
              -- the eight are put together, and the borrow is closed over them
              feq_i ! ℕ (length xs) 8 len $ fjoin ! $ use1 𝓛 (‵ (part_at Eight full_share xs b o)) (Array-whole 𝓛 (row S) full_share 8 xs b o) $ close_ref ! tt (mem Eight) xs {b = b} {o = o} $
              move ! (3 ∷ []) $ drop ! $ move ! (3 ∷ []) $ drop ! $ returns ! (look ! 69 refl) $ frees-behind 𝓛 3 (has (has (has (has (has (has (has (has (has (has (has (has (has (has (has (has (has (has (has (has (has (has (has (has (has (has (has (has (has (has (has (has (has (has (none_left))))))))))))))))))))))))))))))))))) refl $
              by ! (exits v y-is (holds (κ, tt) x.0 a r v len r-told.0 e))
              ))))))))))))))))))))))))))))))))))))))))))))))))))))

      goes : AllGo 𝓛 1 ended.signature.params ended.kept stayed
      goes = (Goes-ref 𝓛 1 0 tt (plain (λ _. Eight)), (Goes-none 𝓛 1 (λ _. still P) yes (λ κs x f. refl), tt))

      pub meets : (#routed #looked : Name) (𝓣 : Tables 𝓤 H) → Triple 𝓤 (𝓣.C #routed) Routed → Triple 𝓤 (𝓣.C #looked) Looked → Meets 𝓛 ended.signature (WpFn 𝓤 H 𝓣.C 𝓣.Λ (code #routed #looked)) (closing 𝓛 ended clauses)
      meets #routed #looked 𝓣 routed-known looked-known =
          walk_Meets 𝓛 ended stayed goes clauses (WpFn 𝓤 H 𝓣.C 𝓣.Λ (code #routed #looked)) (WpFn-mono 𝓤 H 𝓛.laws 𝓣 (code #routed #looked))
          (walked 𝓛 ended stayed clauses (WpFn 𝓤 H 𝓣.C 𝓣.Λ (code #routed #looked))
          (λ κs. (mut_vals, ((λ y. P.val y ∷ []), tt))) (λ κs. (mut_Tells (named 0) κs.0 Eight, (Pk.tells, tt)))
          (λ κs qs bounds a _ are. via 𝓤 _ (fst∗ 𝓤 _ (emp 𝓤)) (walk κs.0 qs.0 a.0.ref_ptr.0 a.0.ref_ptr.1 a.0.ghost_name a.0.now a.1.0 are.1.0 #routed #looked 𝓣.C 𝓣.Λ (fm_of 𝓤 H 𝓛.laws 𝓣) routed-known looked-known)))
