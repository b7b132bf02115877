-- A thin function is right because what it stores over the lent value, and what it returns, are the two parts of the by-value function's answer. Of its types only this is known: each has one machine value, and its relation tells it.
use mathlib.Core.Path.{◌≡◌, refl}
use Prim.Native.Nat.{ℕ}
use mathlib.Core.List.{[], ◌∷◌, List}
use seplogic.Ra.Ura.{Ura}
use base.Fraction.{full_share}
use lib.Dec.{T}
use mir.Syntax.{Sym, Callee as Name, Ty, ty_ref, ty_struct, tnil, tcons, mut, named, Written, Width, Fn, local, value_local, place, deref, field, copy, rv_opd, seq, assign, call, return}
use mir.Val.{Val, vptr, vint, vstruct, vnil, vcons, WT, has_ty}
use base.Logic.{SProp, ent, sep, emp, via, comm∗, mono_l, emp∗, fst∗, id⊢}
use base.Stored.{Coded}
use base.Fml.{GName, Lft, Share, Fml, ftrue, fat, flft, fobs, fbor}
use prog.Wp.{Calls, Loops, WpFn, Tables}
use types.Logic.{Logic, sem}
use contract.Lifetimes.{Lfts}
use contract.Monad.{fact}
use types.Kit.{Item, prop, Step, step, ‵, raw, ◌⊛◌, some, later, ◌$◌, ◌∵◌, !, qed, by, move, keep, drop, use1, split, join, pick, rewrite, fsplit, fsplit3, fjoin, fjoin3, feq_i, suffices, frame, await, done}
use types.Run.{look, look_raw, init, store_raw, forget, stop, hop, fld, from, load, and_then, no_more, land, of_opd, assigns, returns, enter, alloc1, alloc0, params1, pass1, pass0, free1, free0}
use types.Part.{whole, sub, look_in}
use types.SemTy.{Body}
use sound.WpLaws.{FmC, fm_of, WpFn-mono}
use denote.RattleType.{RattleType, owns}
use denote.Exit.{Kept, Exit, unchanged, yes}
use denote.Laws.{Is, Tells, Makes, shows}
use denote.Memory.{mem, lone, pointee}
use denote.Plain.{UInt, uint_Tells, uint_Makes, uint_Lawful}
use denote.Ref.{MutBor, MutRef, at_last, mut_vals, mut_Tells}
use denote.Signature.{Signature, plain, mut_ref_to}
use denote.Steps.{only, opens, closes, owned, peeks, heard, nothing}
use denote.Struct.Steps.{spelt}
use denote.Struct.Struct.{Plains}
use denote.Struct.Declared as LD
use denote.Struct.Laws as LL
use denote.Enum.Enum.{Few, Plainss}
use denote.Enum.Declared as ED
use denote.Enum.Laws as EL
use denote.Triple.Statement.{Contract, Triple}
use denote.Triple.Call.{calls_at}
use denote.Triple.Entry.{on_entry}
use denote.Triple.Spec.{Spec, Meets, triple_of}
use denote.Triple.Clauses.{Ended, Clauses, closing}
use denote.Triple.Walked.{Stays, stay_ref, stay_none, walk_of, AllGo, Goes-none, Goes-ref, ends_at, walked, walk_Meets}

-- a goal P ∗ Q, where Q is had for nothing: P is left
pub beside : {M : Type 1} {𝓤 : Ura M} {𝓛 : Logic 𝓤} {K : Type 0} {Γ : List (Item 𝓤)} → K → {P Q : SProp 𝓤} → ent 𝓤 (emp 𝓤) Q → Step K 𝓛 Γ (prop P) Γ (prop (sep 𝓤 P Q))
beside {𝓤 = 𝓤} t {P} {Q} q = step (λ s. record { prf = via 𝓤 P s.prf (via 𝓤 (sep 𝓤 (emp 𝓤) P) (emp∗ 𝓤 P) (via 𝓤 (sep 𝓤 Q P) (mono_l 𝓤 P q) (comm∗ 𝓤 Q P))) })

-- ---- a type of one machine value

pub record Held : Type 2 where
  pub Denot : Type 0
  pub ty : Ty
  pub written : Written
  pub reaches : List (Written × List Ty)
  pub lives : Lft
  pub own_val : Denot → List Val → Fml
  pub exit : Kept → Exit Denot
  pub coded : Coded Denot
  pub shr_at : Denot → ℕ → ℕ → Lft → Fml
  pub val : Denot → Val

abbrev pub held : (R : RattleType) → (R.Denot → Val) → Held
held R val = record {
  Denot = R.Denot;
  ty = lone R.mir;
  written = R.written;
  reaches = R.reaches;
  lives = R.lives;
  own_val = R.own_val;
  exit = R.exit;
  coded = R.coded;
  shr_at = R.shr_at;
  val = val;
}

abbrev pub row : Held → RattleType
row X = record {
  Denot = X.Denot;
  mir = X.ty ∷ [];
  written = X.written;
  reaches = X.reaches;
  lives = X.lives;
  own_val = X.own_val;
  exit = X.exit;
  coded = X.coded;
  shr_at = X.shr_at;
}

-- of a parameter by value: at exit it is as it was passed
abbrev pub still : Held → RattleType
still X = record {
  Denot = X.Denot;
  mir = X.ty ∷ [];
  written = X.written;
  reaches = X.reaches;
  lives = X.lives;
  own_val = X.own_val;
  exit = λ k. unchanged;
  coded = X.coded;
  shr_at = X.shr_at;
}

pub record Known {M : Type 1} {𝓤 : Ura M} (𝓛 : Logic 𝓤) (X : Held) : Type 1 where
  pub tells : Tells (row X) (Is (row X)) (λ x. X.val x ∷ [])
  pub fits : (x : X.Denot) (v : Val) → Is (row X) x (v ∷ []) → T (has_ty X.ty v) × WT v
  pub makes : Makes 𝓛 (row X) (Is (row X))

-- ---- structs, enums, numbers

abbrev pub struct : (T : LD.Declared) → LL.Laws T → Held
struct T L = held (LD.row T) (LL.val T L)

abbrev pub enum : (T : ED.Declared) → EL.Laws T → Held
enum T L = held (ED.row T) (EL.val T L)

abbrev pub uint : Width → Held
uint w = held (UInt w) (vint w)

module _ {M : Type 1} {𝓤 : Ura M} (𝓛 : Logic 𝓤) where
  pub struct_known : (T : LD.Declared) (L : LL.Laws T) → Plains (LD.fields T) → Known 𝓛 (struct T L)
  struct_known T L pl = record {
    tells = LL.tells T L;
    fits = λ x v is. ((LL.lawful T L 𝓛).typed x (v ∷ []) is).0;
    makes = LL.makes T pl 𝓛;
  }

  pub enum_known : (T : ED.Declared) (L : EL.Laws T) → Few (ED.shape T) → Plainss (ED.variants T) → Known 𝓛 (enum T L)
  enum_known T L few pl = record {
    tells = EL.tells T L;
    fits = λ x v is. ((EL.lawful T L 𝓛 few).typed x (v ∷ []) is).0;
    makes = EL.makes T pl 𝓛;
  }

  pub uint_known : (w : Width) → Known 𝓛 (uint w)
  uint_known w = record {
    tells = uint_Tells w;
    fits = λ x v is. ((uint_Lawful 𝓛 w).typed x (v ∷ []) is).0;
    makes = uint_Makes 𝓛 w;
  }

-- ---- the answer: a struct of the value after it and of what is said, in this order

abbrev pub answer_ty : Sym → Held → Held → Ty
answer_ty ν S O = ty_struct ν (tcons S.ty (tcons O.ty tnil))

pub record Answers (S O : Held) (R : RattleType) (ν : Sym) (st : R.Denot → S.Denot) (res : R.Denot → O.Denot) : Type 1 where
  pub fits : (r : R.Denot) (u : Val) → Is R r (u ∷ []) → T (has_ty (answer_ty ν S O) u) × WT u
  pub tells : (r : R.Denot) (u : Val) → Is R r (u ∷ []) → ◌≡◌ {A = List Val} (u ∷ []) (vstruct (vcons (S.val (st r)) (vcons (O.val (res r)) vnil)) ∷ [])
  pub first : (r : R.Denot) (u : Val) → Is R r (u ∷ []) → Is (row S) (st r) (S.val (st r) ∷ [])
  pub second : (r : R.Denot) (u : Val) → Is R r (u ∷ []) → Is (row O) (res r) (O.val (res r) ∷ [])

-- ---- two parameters beside the lent value

module _ (S P Q O : Held) (R : RattleType) (ν : Sym) (st : R.Denot → S.Denot) (res : R.Denot → O.Denot) (f : S.Denot → P.Denot → Q.Denot → R.Denot) where
  -- the by-value function's signature
  abbrev pub callee-signature : Signature
  callee-signature = record {
    lifetimes = 0;
    outlives = [];
    params = plain (λ _. row S) ∷ plain (λ _. still P) ∷ plain (λ _. still Q) ∷ [];
    result = plain (λ _. R);
  }

  -- the thin function's signature and code
  abbrev pub ended : Ended
  ended = record {
    signature = record {
      lifetimes = 1;
      outlives = [];
      params = mut_ref_to (0 ∷ []) tt (plain (λ _. row S)) ∷ plain (λ _. still P) ∷ plain (λ _. still Q) ∷ [];
      result = plain (λ _. row O);
    };
    kept = (yes, (yes, (yes, tt)));
  }

  abbrev pub code : Name → Fn
  code callee = record {
    lifetimes = 1;
    outlives = [];
    ty_params = [];
    givens = 0;
    params = 3;
    locals =
        local O.ty value_local
        ∷ local (ty_ref (named 0) mut (pointee S.written)) value_local
        ∷ local P.ty value_local
        ∷ local Q.ty value_local
        ∷ local (answer_ty ν S O) value_local
        ∷ local S.ty value_local
        ∷ [];
    body =
        seq (assign (place 5 []) (rv_opd (copy (place 1 (deref S.ty ∷ [])))))
        (seq (call callee (copy (place 5 []) ∷ copy (place 2 []) ∷ copy (place 3 []) ∷ []) (place 4 []))
        (seq (assign (place 1 (deref S.ty ∷ [])) (rv_opd (copy (place 4 (field 0 ∷ [])))))
        (seq (assign (place 0 []) (rv_opd (copy (place 4 (field 1 ∷ []))))) return)));
  }

  abbrev stayed : Stays ended.signature.params ended.kept
  stayed = (stay_ref (0 ∷ []) tt (plain (λ _. row S)), (stay_none (λ _. still P) yes, (stay_none (λ _. still Q) yes, tt)))

  abbrev Arg : Type 0
  Arg = MutBor S.Denot × (P.Denot × (Q.Denot × Unit {0}))

  module _ {M : Type 1} {𝓤 : Ura M} (𝓛 : Logic 𝓤) (promised : Lfts 1 → MutBor S.Denot → P.Denot → Q.Denot → O.Denot → MutBor S.Denot → SProp 𝓤) where
    open 𝓛 use {H, A}

    abbrev pub clauses : Clauses 𝓤 ended
    clauses κs a = record {
      ghost = Unit {0};
      requires = λ _. emp 𝓤;
      ensures = λ _ r end. promised κs a.0 a.1.0 a.1.1.0 r end.0;
    }

    module _ (ensures : S.Denot → P.Denot → Q.Denot → R.Denot → SProp 𝓤) where
      abbrev pub callee-spec : Spec 𝓤 callee-signature
      callee-spec κs a = record {
        ghost = Unit {0};
        requires = λ _. emp 𝓤;
        ensures = λ _ r. ensures a.0 a.1.0 a.1.1.0 r;
      }

      abbrev Callee : Contract 𝓤
      Callee = triple_of 𝓛 callee-signature callee-spec

      module _ (said : (h : S.Denot) (a1 : P.Denot) (a2 : Q.Denot) (r : R.Denot) → ent 𝓤 (ensures h a1 a2 r) (fact 𝓤 (r ≡ f h a1 a2))) (Sk : Known 𝓛 S) (Pk : Known 𝓛 P) (Qk : Known 𝓛 Q) (Ok : Known 𝓛 O) (Rk : Answers S O R ν st res)
          (holds : (κs : Lfts 1) (m : MutBor S.Denot) (a1 : P.Denot) (a2 : Q.Denot) (r : R.Denot) → r ≡ f m.now a1 a2 → ent 𝓤 (emp 𝓤) (promised κs m a1 a2 (res r) (at_last m (st r)))) where
        module _ (κ : Lft) (q : Share) (b o : ℕ) (γ : GName) (h : S.Denot) (a1 : P.Denot) (a2 : Q.Denot) (a1-is : Is (still P) a1 (P.val a1 ∷ [])) (a2-is : Is (still Q) a2 (Q.val a2 ∷ [])) where
          abbrev x : Arg
          x = (record { ref_ptr = (b, o); ghost_name = γ; now = h }, (a1, (a2, tt)))

          abbrev at : List Val × (List Val × (List Val × Unit {0}))
          at = (vptr b o ∷ [], (P.val a1 ∷ [], (Q.val a2 ∷ [], tt)))

          abbrev Post : Val → SProp 𝓤
          Post = (walk_of 𝓛 ended stayed clauses).post (((κ, tt), (q, tt), tt, x, at), tt)

          -- the call: what it is passed, and what it asks
          abbrev to-callee : Callee.Ghost
          to-callee = ((tt, tt, tt, (h, (a1, (a2, tt))), (S.val h ∷ [], (P.val a1 ∷ [], (Q.val a2 ∷ [], tt)))), tt)

          goes-callee : Is (row S) h (S.val h ∷ []) → ent 𝓤 (sem 𝓛 ftrue) (Callee.pre to-callee)
          goes-callee g =
              qed 𝓛 (‵ ftrue ∷ []) ∵ owned ! (still Q) (Is (still Q)) Qk.makes a2 _ a2-is $ fjoin ! $ owned ! (still P) (Is (still P)) Pk.makes a1 _ a1-is $ fjoin ! $ owned ! (row S) (Is (row S)) Sk.makes h _ g $ fjoin ! $ nothing ! $ join ! $ frame ! $ done !

          exits : (r : R.Denot) → Is (row O) (res r) (O.val (res r) ∷ []) → r ≡ f h a1 a2
              → ent 𝓤 (sep 𝓤 (A.obs γ (S.coded.code (st r))) (sep 𝓤 (A.bor κ (Body (mem (row S)) b o γ)) (A.lft κ q))) (Post (O.val (res r)))
          exits r s e =
              qed 𝓛 (‵ (fobs γ (S.coded.code (st r))) ∷ ‵ (fbor κ (Body (mem (row S)) b o γ)) ∷ ‵ (flft κ q) ∷ []) ∵
              suffices ! _ (ends_at 𝓛 ended stayed clauses (((κ, tt), (q, tt), tt, x, at), tt) (O.val (res r)) (res r) (st r, (tt, (tt, tt))) (tt, (tt, (tt, tt)))) $
              beside ! (holds (κ, tt) x.0 a1 a2 r e) $ nothing ! $ move ! (3 ∷ 0 ∷ []) $ join ! $
              frame ! $ feq_i ! (List Val) (vptr b o ∷ []) (vptr b o ∷ []) refl $ fjoin3 ! $ nothing ! $ owned ! (still Q) (Is (still Q)) Qk.makes a2 _ a2-is $ fjoin ! $ owned ! (still P) (Is (still P)) Pk.makes a1 _ a1-is $ fjoin ! $ move ! (1 ∷ 0 ∷ []) $ fjoin ! $
              owned ! (row O) (Is (row O)) Ok.makes (res r) _ s $ move ! (1 ∷ 0 ∷ []) $ done !

          module _ (callee : Name) (C : Calls 𝓤 H) (Λ : Loops 𝓤 H) (fm : FmC 𝓤 H 𝓛.laws C) (known : Triple 𝓤 (C callee) Callee) where
            walk : ent 𝓤 (on_entry 𝓛 ended.signature (κ, tt) (q, tt) x at) (WpFn 𝓤 H C Λ (code callee) (vptr b o ∷ P.val a1 ∷ Q.val a2 ∷ []) Post)
            walk =
                qed 𝓛 ((‵ (flft κ q) ⊛ ‵ ftrue) ∷ ‵ (owns (MutRef (named 0) κ (row S) ∷ still P ∷ still Q ∷ []) x at) ∷ []) ∵
                enter ! C Λ (code callee) (vptr b o ∷ P.val a1 ∷ Q.val a2 ∷ []) _ $
                alloc1 ! (λ l0. alloc1 ! (λ l1. alloc1 ! (λ l2. alloc1 ! (λ l3. alloc1 ! (λ l4. alloc1 ! (λ l5. alloc0 ! $ params1 ! $
                pass1 ! (init ! 8 refl (tt, tt)) $ pass1 ! (init ! 6 refl (Pk.fits a1 _ a1-is)) $ pass1 ! (init ! 4 refl (Qk.fits a2 _ a2-is)) $ pass0 ! $
                -- the borrow is opened
                move ! (13 ∷ []) $ fsplit ! $ fsplit3 ! $ drop ! $ move ! (15 ∷ []) $ split ! $ move ! (2 ∷ 3 ∷ 0 ∷ []) $
                opens ! tt (row S) {h = h} b o (λ vs. spelt ! (row S) (Is (row S)) (shows 𝓛 (row S)) (λ y. S.val y ∷ []) Sk.tells full_share h vs b o $
                move ! (1 ∷ []) $ peeks ! (row S) (Is (row S)) (shows 𝓛 (row S)) h (S.val h ∷ []) (λ g. drop ! $
                -- [the cell; the open borrow; obs; auth; true; the other parameters'; the locals, last first, each with what frees it]
                assigns ! (of_opd ! (load ! (from ! (hop ! (look ! 14 refl) (stop !))) (look_raw ! 0 refl))) (from ! (stop !)) (init ! 6 refl (Sk.fits h _ g)) $
                nothing ! $ use1 𝓛 (raw (Callee.pre to-callee)) (goes-callee g) $
                calls_at ! fm Callee known to-callee (and_then ! (load ! (from ! (stop !)) (look ! 7 refl)) (and_then ! (load ! (from ! (stop !)) (look ! 13 refl)) (and_then ! (load ! (from ! (stop !)) (look ! 11 refl)) (no_more !)))) (λ u.
                use1 𝓛 (later (some (λ (r : R.Denot). (‵ ftrue ⊛ ‵ (R.own_val r (u ∷ []))) ⊛ raw (ensures h a1 a2 r)))) (id⊢ 𝓤 _) $ await ! tt $ pick ! (λ r.
                split ! $ move ! (1 ∷ []) $ use1 𝓛 (raw (fact 𝓤 (r ≡ f h a1 a2))) (said h a1 a2 r) $ heard ! (r ≡ f h a1 a2) (λ e. split ! $ drop ! $
                peeks ! R (Is R) (shows 𝓛 R) r (u ∷ []) (λ is.
                land ! (from ! (stop !)) (init ! 9 refl (Rk.fits r u is)) $ drop ! $
                rewrite ! 8 (λ (us : List Val). ‵ (fat full_share (answer_ty ν S O) l4 0 (only us))) (Rk.tells r u is) refl $
                -- the answer's value is stored, the borrow closed, and the rest of the answer returned
                assigns ! (of_opd ! (load ! (from ! (fld ! refl (stop !))) (look_in ! 8 (sub ! 0 refl (whole !))))) (from ! (hop ! (look ! 14 refl) (stop !))) (store_raw ! 0 refl (Sk.fits (st r) _ (Rk.first r u is))) $
                assigns ! (of_opd ! (load ! (from ! (fld ! refl (stop !))) (look_in ! 8 (sub ! 1 refl (whole !))))) (from ! (stop !)) (init ! 16 refl (Ok.fits (res r) _ (Rk.second r u is))) $
                owned ! (row S) (Is (row S)) Sk.makes (st r) _ (Rk.first r u is) $ move ! (1 ∷ 0 ∷ []) $ closes ! tt (row S) (st r) (S.val (st r) ∷ []) b o $
                returns ! (look ! 15 refl) $ forget ! 5 refl $ forget ! 7 refl $ forget ! 9 refl $ forget ! 11 refl $ forget ! 13 refl $ forget ! 15 refl $
                move ! (15 ∷ 16 ∷ []) $ free1 ! $ move ! (13 ∷ 14 ∷ []) $ free1 ! $ move ! (11 ∷ 12 ∷ []) $ free1 ! $ move ! (9 ∷ 10 ∷ []) $ free1 ! $ move ! (7 ∷ 8 ∷ []) $ free1 ! $ move ! (5 ∷ 6 ∷ []) $ free1 ! $ free0 ! $
                keep ! (0 ∷ 1 ∷ 2 ∷ []) $ by ! (exits r (Rk.second r u is) e)))))))))))))

        goes : AllGo 𝓛 1 ended.signature.params ended.kept stayed
        goes = (Goes-ref 𝓛 1 0 tt (plain (λ _. row S)), (Goes-none 𝓛 1 (λ _. still P) yes (λ κs x f. refl), (Goes-none 𝓛 1 (λ _. still Q) yes (λ κs x f. refl), tt)))

        pub meets : (callee : Name) (𝓣 : Tables 𝓤 H) → Triple 𝓤 (𝓣.C callee) Callee → Meets 𝓛 ended.signature (WpFn 𝓤 H 𝓣.C 𝓣.Λ (code callee)) (closing 𝓛 ended clauses)
        meets callee 𝓣 known =
            walk_Meets 𝓛 ended stayed goes clauses (WpFn 𝓤 H 𝓣.C 𝓣.Λ (code callee)) (WpFn-mono 𝓤 H 𝓛.laws 𝓣 (code callee))
            (walked 𝓛 ended stayed clauses (WpFn 𝓤 H 𝓣.C 𝓣.Λ (code callee))
            (λ κs. (mut_vals, ((λ y. P.val y ∷ []), ((λ y. Q.val y ∷ []), tt)))) (λ κs. (mut_Tells (named 0) κs.0 (row S), (Pk.tells, (Qk.tells, tt))))
            (λ κs qs bounds a _ are. via 𝓤 _ (fst∗ 𝓤 _ (emp 𝓤)) (walk κs.0 qs.0 a.0.ref_ptr.0 a.0.ref_ptr.1 a.0.ghost_name a.0.now a.1.0 a.1.1.0 are.1.0 are.1.1.0 callee 𝓣.C 𝓣.Λ (fm_of 𝓤 H 𝓛.laws 𝓣) known)))
