-- A line answered on a lent station is right because a call and a look leave there, and reply, what the callee says, and what a line says besides stores there what the by-value function answers. Of the station, of what is asked and replied and of the cursor only this is known: each has one machine value, and its relation tells it. Of an event it is known that it is a call or something else, and of a call that it is a look or not.
use mathlib.Core.Path.{◌≡◌, refl, sym, ap, subst}
use mathlib.Core.Logic.{◌⊎◌, inl, inr}
use Prim.Native.Nat.{ℕ}
use mathlib.Core.List.{[], ◌∷◌, List}
use lib.Dec.{T}
use lib.ListN.{length}
use seplogic.Ra.Ura.{Ura}
use base.Fraction.{full_share}
use mir.Syntax.{Sym, Callee as Name, Ty, ty_ref, ty_int, ty_struct, ty_enum, Tys, tnil, tcons, Tyss, ttnil, ttcons, imm, mut, named, erased, w8, w64, Fn, Body, Local, local, value_local, place, deref, field, variant, copy, rv_opd, aggregate, addr_of, seq, assign, call, switch, arm, no_default, return}
use mir.Val.{Val, Vals, vptr, vint, vstruct, vnil, vcons, WT, has_ty}
use base.Logic.{SProp, ent, emp, snd∗, ex_e, id⊢}
use base.Fml.{GName, Lft, Share, Fml, ftrue, fsep, fat, flft, fres, fbor}
use prog.Wp.{Calls, Loops, WpFn, Tables}
use types.Logic.{Logic, sem}
use contract.Monad.{fact}
use types.Kit.{Item, ‵, raw, ◌⊛◌, ⋆, some, later, ◌$◌, ◌∵◌, !, qed, by, move, drop, use1, use2, use3, split, join, pick, rewrite, fsplit, fsplit3, fjoin, feq_l, suffices, frame, await, done}
use types.Run.{OneOf, miss, look, look_raw, init, store_raw, stop, hop, fld, from, load, addr, and_then, no_more, land, of_opd, assigns, first, switches, returns_within, enter, alloc1, alloc0, params1, pass1, pass0}
use types.SemTy.{Body as Borrowed, Arr}
use types.Hole.{Holey}
use types.Part.{agg, whole, sub, look_in}
use types.Match.{live, vrt, in_variant, look_tag}
use sound.WpLaws.{FmC, fm_of, WpFn-mono}
use denote.RattleType.{RattleType, owns}
use denote.Exit.{unchanged, yes}
use denote.Laws.{Is, shows}
use denote.Memory.{mem, pointee}
use denote.Plain.{uint_row_laws, uint_vals, uint_Tells, uint_Makes, uint_Lawful}
use denote.Builtin.{u8, usize}
use denote.Ref.{Bor, MutBor, MutRef, mut_vals, mut_Tells}
use denote.Slice.{slice_ty, slice_val, MutSlice, ShrSlice, Room, finally, shr_slice_vals, mut_slice_vals, mut_slice_Tells, shr_slice_Tells, shr_slice_Lawful, shr_slice_copy}
use denote.Signature.{plain, mut_ref_to, mut_slice_of, shr_slice_of}
use denote.Steps.{only, opens, closes, owned, peeks, heard, nothing}
use denote.Struct.Steps.{spelt}
use denote.Triple.Statement.{Contract, Triple}
use denote.Triple.Call.{calls_at}
use denote.Triple.Entry.{on_entry}
use denote.Triple.Spec.{Meets, triple_of}
use denote.Triple.Clauses.{Ended, Clauses, closing, ensured, lasts}
use denote.Triple.Walked.{says, needs, Stays, stay_dropped, gave_ref, gave_slice, walk_of, AllGo, Goes-dropped, Goes-gave_ref, Goes-gave_slice, ends_at, walked, walk_Meets}
use Rattle.walks.proofs.ThinWalk.{Held, row, still, Known, Answers, answer_ty}
use Rattle.walks.proofs.Frees.{has, bare, none as none_left, frees-behind}

abbrev U : Type 0
U = Unit {0}

-- of a line: the event, and the frame beside it
abbrev pub line_ty_of : Sym → Held → Held → Ty
line_ty_of ν E F = ty_struct ν (tcons E.ty (tcons F.ty tnil))

abbrev pub line_row : Sym → Held → Held → Held → RattleType
line_row ν E F L = record { Denot = L.Denot; mir = line_ty_of ν E F ∷ []; written = L.written; reaches = L.reaches; lives = L.lives; own_val = L.own_val; exit = λ k. unchanged; coded = L.coded; shr_at = L.shr_at }

abbrev pub pair_val : (E F : Held) → E.Denot → F.Denot → Val
pair_val E F e f = vstruct (vcons (E.val e) (vcons (F.val f) vnil))

pub record Lines (E F L : Held) (ν : Sym) (event : L.Denot → E.Denot) (frame : L.Denot → F.Denot) : Type 1 where
  pub fits : (l : L.Denot) (u : Val) → Is (line_row ν E F L) l (u ∷ []) → T (has_ty (line_ty_of ν E F) u) × WT u
  pub tells : (l : L.Denot) (u : Val) → Is (line_row ν E F L) l (u ∷ []) → ◌≡◌ {A = List Val} (u ∷ []) (pair_val E F (event l) (frame l) ∷ [])
  pub event-is : (l : L.Denot) (u : Val) → Is (line_row ν E F L) l (u ∷ []) → Is (row E) (event l) (E.val (event l) ∷ [])
  pub frame_is : (l : L.Denot) (u : Val) → Is (line_row ν E F L) l (u ∷ []) → Is (row F) (frame l) (F.val (frame l) ∷ [])

-- an enum of these variants
abbrev pub enum_of : Sym → Tyss → Held → Held
enum_of ν τss X = record { Denot = X.Denot; ty = ty_enum ν τss; written = X.written; reaches = X.reaches; lives = X.lives; own_val = X.own_val; exit = X.exit; coded = X.coded; shr_at = X.shr_at; val = X.val }

-- the calls: the fifth is a look, with its key
abbrev pub call_of : Sym → Tys → Tys → Tys → Tys → Held → Tys → Held → Held
call_of ν a b c d K e X = enum_of ν (ttcons a (ttcons b (ttcons c (ttcons d (ttcons (tcons K.ty tnil) (ttcons e ttnil)))))) X

-- an event: a call, or what a line says besides
abbrev pub event_of : Sym → Held → Held → Held → Held
event_of ν C Q X = enum_of ν (ttcons (tcons C.ty tnil) (ttcons (tcons Q.ty tnil) ttnil)) X

-- the calls that are no looks, by their numbers
abbrev pub rest : List ℕ
rest = 0 ∷ 1 ∷ 2 ∷ 3 ∷ 5 ∷ []

pub record Views (E C Q K : Held) (calls : C.Denot → E.Denot) (others : Q.Denot → E.Denot) (looks : K.Denot → C.Denot) (NotLook : C.Denot → Type 0) : Type 1 where
  pub event : (e : E.Denot)
      → ((k : C.Denot) × (e ≡ calls k) × (E.val e ≡ live 0 (vcons (C.val k) vnil)))
      ⊎ ((w : Q.Denot) × (e ≡ others w) × (E.val e ≡ live 1 (vcons (Q.val w) vnil)))
  pub call : (k : C.Denot)
      → ((id : K.Denot) × (k ≡ looks id) × (C.val k ≡ live 4 (vcons (K.val id) vnil)))
      ⊎ ((t : ℕ) × (vs : Vals) × (C.val k ≡ live t vs) × OneOf rest t × (t ≡ 4 → ⊥) × NotLook k)
  pub call-is : (k : C.Denot) → Is (row E) (calls k) (E.val (calls k) ∷ []) → Is (row C) k (C.val k ∷ [])
  pub other-is : (w : Q.Denot) → Is (row E) (others w) (E.val (others w) ∷ []) → Is (row Q) w (Q.val w ∷ [])
  pub key-is : (id : K.Denot) → Is (row C) (looks id) (C.val (looks id) ∷ []) → Is (row K) id (K.val id ∷ [])

either_way : {A B : Type 0} {G : Type 1} → A ⊎ B → (A → G) → (B → G) → G
either_way (inl a) f g = f a
either_way (inr b) f g = g b

-- ---- the line

-- Z is lent, L the line, E its event and F its frame, C a call and Q what a line says besides, P what is asked, O the reply, K what a look looks at, X what is seen, D the cursor, R the by-value function's answer; what is asked of the output and the cursor; what each callee says, and what is promised, of the station, the input, the output, the cursor, and of the last three at exit
module _ (Z P O K X D L F Q C₀ E₀ : Held) (R : RattleType) (νl νr νc νe : Sym) (τ0 τ1 τ2 τ3 τ5 : Tys) (event : L.Denot → E₀.Denot) (framed : L.Denot → F.Denot) (asks : C₀.Denot → F.Denot → P.Denot) (calls : C₀.Denot → E₀.Denot) (others : Q.Denot → E₀.Denot) (looks : K.Denot → C₀.Denot) (NotLook : C₀.Denot → Type 0)
    (st : R.Denot → Z.Denot) (cur : R.Denot → D.Denot)
    (Free : List ℕ → D.Denot → Type 0) (Says : List ℕ → D.Denot → L.Denot → Type 0) (Called : Z.Denot → P.Denot → O.Denot → Z.Denot → Type 0) (Replies : O.Denot → C₀.Denot → List ℕ → ℕ → List ℕ → D.Denot → D.Denot → List ℕ → Type 0)
    (Looked : Z.Denot → K.Denot → X.Denot → Z.Denot → Type 0) (Shows : X.Denot → List ℕ → ℕ → List ℕ → D.Denot → D.Denot → List ℕ → Type 0)
    (Takes : Z.Denot → Q.Denot → List ℕ → ℕ → List ℕ → D.Denot → R.Denot → List ℕ → Type 0) (Promised : Z.Denot → List ℕ → ℕ → List ℕ → D.Denot → D.Denot → Z.Denot → List ℕ → Type 0) where
  abbrev C : Held
  C = call_of νc τ0 τ1 τ2 τ3 K τ5 C₀

  abbrev E : Held
  E = event_of νe C Q E₀

  abbrev line : RattleType
  line = line_row νl E F L

  abbrev line_ty : Ty
  line_ty = line_ty_of νl E F

  abbrev lent_ty : Ty
  lent_ty = slice_ty (ty_ref erased mut (ty_int w8))

  -- ---- the signatures and the code

  abbrev pub ended : Ended
  ended = record { signature = record { lifetimes = 3; outlives = []; params = mut_ref_to (0 ∷ []) tt (plain (λ _. still Z)) ∷ shr_slice_of (1 ∷ []) tt (plain (λ _. u8)) ∷ plain (λ _. usize) ∷ mut_slice_of (2 ∷ []) tt (plain (λ _. u8)) ∷ plain (λ _. still D) ∷ []; result = plain (λ _. still D) }; kept = (yes, (yes, (yes, (yes, (yes, tt))))) }

  abbrev line-ended : Ended
  line-ended = record { signature = record { lifetimes = 1; outlives = []; params = shr_slice_of (0 ∷ []) tt (plain (λ _. u8)) ∷ plain (λ _. still D) ∷ []; result = plain (λ _. line) }; kept = (yes, (yes, tt)) }

  abbrev call-ended : Ended
  call-ended = record { signature = record { lifetimes = 1; outlives = []; params = mut_ref_to (0 ∷ []) tt (plain (λ _. still Z)) ∷ plain (λ _. still P) ∷ []; result = plain (λ _. still O) }; kept = (yes, (yes, tt)) }

  abbrev reply-ended : Ended
  reply-ended = record { signature = record { lifetimes = 2; outlives = []; params = plain (λ _. still O) ∷ plain (λ _. still C) ∷ shr_slice_of (0 ∷ []) tt (plain (λ _. u8)) ∷ plain (λ _. usize) ∷ mut_slice_of (1 ∷ []) tt (plain (λ _. u8)) ∷ plain (λ _. still D) ∷ []; result = plain (λ _. still D) }; kept = (yes, (yes, (yes, (yes, (yes, (yes, tt)))))) }

  abbrev look-ended : Ended
  look-ended = record { signature = record { lifetimes = 1; outlives = []; params = mut_ref_to (0 ∷ []) tt (plain (λ _. still Z)) ∷ plain (λ _. still K) ∷ []; result = plain (λ _. still X) }; kept = (yes, (yes, tt)) }

  abbrev show-ended : Ended
  show-ended = record { signature = record { lifetimes = 2; outlives = []; params = plain (λ _. still X) ∷ shr_slice_of (0 ∷ []) tt (plain (λ _. u8)) ∷ plain (λ _. usize) ∷ mut_slice_of (1 ∷ []) tt (plain (λ _. u8)) ∷ plain (λ _. still D) ∷ []; result = plain (λ _. still D) }; kept = (yes, (yes, (yes, (yes, (yes, tt))))) }

  abbrev value-ended : Ended
  value-ended = record { signature = record { lifetimes = 2; outlives = []; params = plain (λ _. still Z) ∷ plain (λ _. still Q) ∷ shr_slice_of (0 ∷ []) tt (plain (λ _. u8)) ∷ plain (λ _. usize) ∷ mut_slice_of (1 ∷ []) tt (plain (λ _. u8)) ∷ plain (λ _. still D) ∷ []; result = plain (λ _. R) }; kept = (yes, (yes, (yes, (yes, (yes, (yes, tt)))))) }

  abbrev values : List Ty → List Local
  values [] = []
  values (τ ∷ τs) = local τ value_local ∷ values τs

  abbrev call-arm : Name → Name → Body
  call-arm #call #reply =
      (seq (assign (place 11 []) (rv_opd (copy (place 6 (field 1 ∷ [])))))
      (seq (assign (place 18 []) (addr_of (place 1 (deref Z.ty ∷ []))))
      (seq (assign (place 19 []) (aggregate (copy (place 8 []) ∷ copy (place 11 []) ∷ [])))
      (seq (call #call (copy (place 18 []) ∷ copy (place 19 []) ∷ []) (place 12 []))
      (seq (assign (place 20 []) (addr_of (place 4 (field 0 ∷ deref (ty_int w8) ∷ []))))
      (seq (assign (place 21 []) (aggregate (copy (place 20 []) ∷ copy (place 4 (field 1 ∷ [])) ∷ [])))
      (seq (call #reply (copy (place 12 []) ∷ copy (place 8 []) ∷ copy (place 2 []) ∷ copy (place 3 []) ∷ copy (place 21 []) ∷ copy (place 5 []) ∷ []) (place 0 [])) return)))))))

  abbrev look-arm : Name → Name → Body
  look-arm #look #show =
      (seq (assign (place 9 []) (rv_opd (copy (place 8 (variant 4 ∷ field 1 ∷ [])))))
      (seq (assign (place 15 []) (addr_of (place 1 (deref Z.ty ∷ []))))
      (seq (call #look (copy (place 15 []) ∷ copy (place 9 []) ∷ []) (place 10 []))
      (seq (assign (place 16 []) (addr_of (place 4 (field 0 ∷ deref (ty_int w8) ∷ []))))
      (seq (assign (place 17 []) (aggregate (copy (place 16 []) ∷ copy (place 4 (field 1 ∷ [])) ∷ [])))
      (seq (call #show (copy (place 10 []) ∷ copy (place 2 []) ∷ copy (place 3 []) ∷ copy (place 17 []) ∷ copy (place 5 []) ∷ []) (place 0 [])) return))))))

  abbrev other_arm : Name → Body
  other_arm #value =
      (seq (assign (place 13 []) (rv_opd (copy (place 7 (variant 1 ∷ field 1 ∷ [])))))
      (seq (assign (place 22 []) (rv_opd (copy (place 1 (deref Z.ty ∷ [])))))
      (seq (assign (place 23 []) (addr_of (place 4 (field 0 ∷ deref (ty_int w8) ∷ []))))
      (seq (assign (place 24 []) (aggregate (copy (place 23 []) ∷ copy (place 4 (field 1 ∷ [])) ∷ [])))
      (seq (call #value (copy (place 22 []) ∷ copy (place 13 []) ∷ copy (place 2 []) ∷ copy (place 3 []) ∷ copy (place 24 []) ∷ copy (place 5 []) ∷ []) (place 14 []))
      (seq (assign (place 1 (deref Z.ty ∷ [])) (rv_opd (copy (place 14 (field 0 ∷ [])))))
      (seq (assign (place 0 []) (rv_opd (copy (place 14 (field 1 ∷ []))))) return)))))))

  abbrev called-arm : Name → Name → Name → Name → Body
  called-arm #call #reply #look #show =
      (seq (assign (place 8 []) (rv_opd (copy (place 7 (variant 0 ∷ field 1 ∷ [])))))
      (switch (copy (place 8 (variant 0 ∷ field 0 ∷ []))) (arm (4 ∷ []) (look-arm #look #show) (arm rest (call-arm #call #reply) no_default))))

  abbrev pub code : Name → Name → Name → Name → Name → Name → Fn
  code #line #call #reply #look #show #value = record {
    lifetimes = 3;
    outlives = [];
    ty_params = [];
    givens = 0;
    params = 5;
    locals = values (D.ty ∷ ty_ref (named 0) mut (pointee Z.written) ∷ slice_ty (ty_ref (named 1) imm (ty_int w8)) ∷ ty_int w64 ∷ slice_ty (ty_ref (named 2) mut (ty_int w8)) ∷ D.ty ∷ line_ty ∷ E.ty ∷ C.ty ∷ K.ty ∷ X.ty ∷ F.ty ∷ O.ty ∷ Q.ty ∷ answer_ty νr Z D ∷ ty_ref erased mut (pointee Z.written) ∷ ty_ref erased mut (ty_int w8) ∷ lent_ty ∷ ty_ref erased mut (pointee Z.written) ∷ P.ty ∷ ty_ref erased mut (ty_int w8) ∷ lent_ty ∷ Z.ty ∷ ty_ref erased mut (ty_int w8) ∷ lent_ty ∷ []);
    body =
        (seq (call #line (copy (place 2 []) ∷ copy (place 5 []) ∷ []) (place 6 []))
        (seq (assign (place 7 []) (rv_opd (copy (place 6 (field 0 ∷ [])))))
        (seq (switch (copy (place 7 (variant 0 ∷ field 0 ∷ []))) (arm (0 ∷ []) (called-arm #call #reply #look #show) (arm (1 ∷ []) (other_arm #value) no_default))) return)));
  }

  -- the station and the output are given up in each arm, and nothing is had of the rest
  abbrev stayed : Stays ended.signature.params ended.kept
  stayed = (gave_ref (0 ∷ []) tt (plain (λ _. still Z)), (stay_dropped (shr_slice_of (1 ∷ []) tt (plain (λ _. u8))) yes, (stay_dropped (plain (λ _. usize)) yes, (gave_slice (2 ∷ []) tt (plain (λ _. u8)), (stay_dropped (plain (λ _. still D)) yes, tt)))))

  module _ {M : Type 1} {𝓤 : Ura M} (𝓛 : Logic 𝓤) where
    open 𝓛 use {H}

    abbrev pub clauses : Clauses 𝓤 ended
    clauses κs a = record { ghost = U; requires = λ _. fact 𝓤 (Free a.1.1.1.0.now a.1.1.1.1.0); ensures = λ _ r end. fact 𝓤 (Promised a.0.now a.1.0.now a.1.1.0 a.1.1.1.0.now a.1.1.1.1.0 r end.0.now end.1.1.1.0.now) }

    abbrev line-clauses : Clauses 𝓤 line-ended
    line-clauses κs a = record { ghost = U; requires = λ _. emp 𝓤; ensures = λ _ r end. fact 𝓤 (Says a.0.now a.1.0 r) }

    abbrev call-clauses : Clauses 𝓤 call-ended
    call-clauses κs a = record { ghost = U; requires = λ _. emp 𝓤; ensures = λ _ r end. fact 𝓤 (Called a.0.now a.1.0 r end.0.now) }

    abbrev reply-clauses : Clauses 𝓤 reply-ended
    reply-clauses κs a = record { ghost = U; requires = λ _. emp 𝓤; ensures = λ _ r end. fact 𝓤 (Replies a.0 a.1.0 a.1.1.0.now a.1.1.1.0 a.1.1.1.1.0.now a.1.1.1.1.1.0 r end.1.1.1.1.0.now) }

    abbrev look-clauses : Clauses 𝓤 look-ended
    look-clauses κs a = record { ghost = U; requires = λ _. emp 𝓤; ensures = λ _ r end. fact 𝓤 (Looked a.0.now a.1.0 r end.0.now) }

    abbrev show-clauses : Clauses 𝓤 show-ended
    show-clauses κs a = record { ghost = U; requires = λ _. emp 𝓤; ensures = λ _ r end. fact 𝓤 (Shows a.0 a.1.0.now a.1.1.0 a.1.1.1.0.now a.1.1.1.1.0 r end.1.1.1.0.now) }

    abbrev value-clauses : Clauses 𝓤 value-ended
    value-clauses κs a = record { ghost = U; requires = λ _. emp 𝓤; ensures = λ _ r end. fact 𝓤 (Takes a.0 a.1.0 a.1.1.0.now a.1.1.1.0 a.1.1.1.1.0.now a.1.1.1.1.1.0 r end.1.1.1.1.0.now) }

    abbrev CLine : Contract 𝓤
    CLine = triple_of 𝓛 line-ended.signature (closing 𝓛 line-ended line-clauses)

    abbrev CCall : Contract 𝓤
    CCall = triple_of 𝓛 call-ended.signature (closing 𝓛 call-ended call-clauses)

    abbrev CReply : Contract 𝓤
    CReply = triple_of 𝓛 reply-ended.signature (closing 𝓛 reply-ended reply-clauses)

    abbrev CLook : Contract 𝓤
    CLook = triple_of 𝓛 look-ended.signature (closing 𝓛 look-ended look-clauses)

    abbrev CShow : Contract 𝓤
    CShow = triple_of 𝓛 show-ended.signature (closing 𝓛 show-ended show-clauses)

    abbrev CValue : Contract 𝓤
    CValue = triple_of 𝓛 value-ended.signature (closing 𝓛 value-ended value-clauses)

    module _ (Zk : Known 𝓛 Z) (Pk : Known 𝓛 P) (Ok : Known 𝓛 O) (Kk : Known 𝓛 K) (Xk : Known 𝓛 X) (Dk : Known 𝓛 D) (Fk : Known 𝓛 F) (Qk : Known 𝓛 Q) (Ck : Known 𝓛 C) (Ek : Known 𝓛 E) (Lk : Lines E F L νl event framed) (Vk : Views E C Q K calls others looks NotLook) (Rk : Answers Z D R νr st cur)
        (builds : (k : C₀.Denot) (f : F.Denot) → Is (row C) k (C.val k ∷ []) → Is (row F) f (F.val f ∷ []) → Is (row P) (asks k f) (pair_val C F k f ∷ []))
        (holds-asks : (h : Z.Denot) (xs : List ℕ) (n : ℕ) (ys : List ℕ) (c : D.Denot) (l : L.Denot) (k : C₀.Denot) (y : O.Denot) (z : Z.Denot) (r : D.Denot) (zs : List ℕ) → Free ys c → Says xs c l → event l ≡ calls k → NotLook k → Called h (asks k (framed l)) y z → Replies y k xs n ys c r zs → Promised h xs n ys c r z zs)
        (holds-looks : (h : Z.Denot) (xs : List ℕ) (n : ℕ) (ys : List ℕ) (c : D.Denot) (l : L.Denot) (k : C₀.Denot) (id : K.Denot) (y : X.Denot) (z : Z.Denot) (r : D.Denot) (zs : List ℕ) → Free ys c → Says xs c l → event l ≡ calls k → k ≡ looks id → Looked h id y z → Shows y xs n ys c r zs → Promised h xs n ys c r z zs)
        (holds-other : (h : Z.Denot) (xs : List ℕ) (n : ℕ) (ys : List ℕ) (c : D.Denot) (l : L.Denot) (w : Q.Denot) (v : R.Denot) (zs : List ℕ) → Free ys c → Says xs c l → event l ≡ others w → Takes h w xs n ys c v zs → Promised h xs n ys c (cur v) (st v) zs) where
      module _ (κ₀ κ₁ κ₂ : Lft) (q₀ q₁ q₂ : Share) (b o : ℕ) (γ : GName) (h : Z.Denot) (s : Bor (List ℕ)) (n : ℕ) (b' o' : ℕ) (γ' : GName) (ys : List ℕ) (c : D.Denot) where
        -- what is passed, and its machine values
        abbrev xt : MutBor Z.Denot
        xt = record { ref_ptr = (b, o); ghost_name = γ; now = h }

        abbrev xo : MutBor (List ℕ)
        xo = record { ref_ptr = (b', o'); ghost_name = γ'; now = ys }

        abbrev sv : Val
        sv = slice_val s.ref_ptr (length s.now)

        abbrev ov : Val
        ov = slice_val (b', o') (length ys)

        abbrev x : MutBor Z.Denot × (Bor (List ℕ) × (ℕ × (MutBor (List ℕ) × (D.Denot × U))))
        x = (xt, (s, (n, (xo, (c, tt)))))

        abbrev at : List Val × (List Val × (List Val × (List Val × (List Val × U))))
        at = (vptr b o ∷ [], (sv ∷ [], (vint w64 n ∷ [], (ov ∷ [], (D.val c ∷ [], tt)))))

        abbrev bound : (walk_of 𝓛 ended stayed clauses).Ghost
        bound = (((κ₀, (κ₁, (κ₂, tt))), (q₀, (q₁, (q₂, tt))), tt, x, at), tt)

        abbrev Post : Val → SProp 𝓤
        Post = (walk_of 𝓛 ended stayed clauses).post bound

        -- the tokens, and what is owned of the three that are lent
        abbrev T0 : Item 𝓤
        T0 = ‵ (flft κ₀ q₀) ⊛ ‵ ftrue

        abbrev T12 : Item 𝓤
        T12 = ‵ (flft κ₁ q₁) ⊛ ‵ (flft κ₂ q₂) ⊛ ‵ ftrue

        abbrev Own-st : Fml
        Own-st = (MutRef (named 0) κ₀ (still Z)).own_val xt (vptr b o ∷ [])

        abbrev Own-inp : Fml
        Own-inp = (ShrSlice (named 1) κ₁ u8).own_val s (sv ∷ [])

        abbrev IO : Item 𝓤
        IO = ‵ (fsep Own-inp ((MutSlice (named 2) κ₂ u8).own_val xo (ov ∷ [])))

        -- what says the station's last value, and the last list, each with its borrow
        abbrev St-end : Z.Denot → Fml
        St-end z = fsep (fres γ (Z.coded.code z)) (fbor κ₀ (Borrowed (mem (still Z)) b o γ))

        abbrev Out-end : List ℕ → Fml
        Out-end zs = fsep (finally u8 γ' zs) (fbor κ₂ (Borrowed (Arr (Holey (mem u8)) (length ys)) b' o' γ'))

        exits : (r : D.Denot) (w : Val) (z : Z.Denot) (zs : List ℕ) → Promised h s.now n ys c r z zs → length zs ≡ length ys
            → ent 𝓤 (⋆ 𝓛 (‵ (D.own_val r (w ∷ [])) ∷ T12 ∷ ‵ (Out-end zs) ∷ T0 ∷ ‵ (St-end z) ∷ [])) (Post w)
        exits r w z zs e l =
            qed 𝓛 (‵ (D.own_val r (w ∷ [])) ∷ T12 ∷ ‵ (Out-end zs) ∷ T0 ∷ ‵ (St-end z) ∷ []) ∵
            suffices ! _ (ends_at 𝓛 ended stayed clauses bound w r (z, (tt, (tt, (zs, (tt, tt))))) (tt, (tt, (tt, (l, (tt, tt)))))) $ says ! e $
            move ! (3 ∷ []) $ split ! $ move ! (0 ∷ 3 ∷ []) $ join ! $ frame ! $
            nothing ! $ fjoin ! $ move ! (2 ∷ 0 ∷ []) $ fjoin ! $ nothing ! $ fjoin ! $ nothing ! $ fjoin ! $ move ! (2 ∷ 0 ∷ []) $ fjoin ! $ frame ! $ done !

        module _ (n-is : Is usize n (vint w64 n ∷ [])) (c-is : Is (row D) c (D.val c ∷ [])) (free : Free ys c) where
          -- ---- each call: what it is passed, and that the caller has what it asks
          abbrev to-line : CLine.Ghost
          to-line = (((κ₁, tt), (q₁, tt), tt, (s, (c, tt)), (sv ∷ [], (D.val c ∷ [], tt))), tt)

          goes-line : ent 𝓤 (⋆ 𝓛 (‵ Own-inp ∷ ‵ (flft κ₁ q₁) ∷ [])) (CLine.pre to-line)
          goes-line = qed 𝓛 (‵ Own-inp ∷ ‵ (flft κ₁ q₁) ∷ []) ∵ nothing ! $ owned ! (still D) (Is (still D)) Dk.makes c _ c-is $ fjoin ! $ move ! (1 ∷ 0 ∷ []) $ fjoin ! $ nothing ! $ move ! (2 ∷ 0 ∷ []) $ join ! $ join ! $ frame ! $ done !

          abbrev call-args : C₀.Denot → F.Denot → MutBor Z.Denot × (P.Denot × U)
          call-args k f = (xt, (asks k f, tt))

          abbrev to-call : C₀.Denot → F.Denot → CCall.Ghost
          to-call k f = (((κ₀, tt), (q₀, tt), tt, call-args k f, (vptr b o ∷ [], (pair_val C F k f ∷ [], tt))), tt)

          goes-call : (k : C₀.Denot) (f : F.Denot) → Is (row P) (asks k f) (pair_val C F k f ∷ []) → ent 𝓤 (⋆ 𝓛 (‵ (flft κ₀ q₀) ∷ ‵ Own-st ∷ [])) (CCall.pre (to-call k f))
          goes-call k f a-is = qed 𝓛 (‵ (flft κ₀ q₀) ∷ ‵ Own-st ∷ []) ∵ nothing ! $ owned ! (still P) (Is (still P)) Pk.makes (asks k f) _ a-is $ fjoin ! $ move ! (2 ∷ 0 ∷ []) $ fjoin ! $ nothing ! $ move ! (2 ∷ 0 ∷ []) $ join ! $ join ! $ frame ! $ done !

          abbrev reply-args : O.Denot → C₀.Denot → O.Denot × (C₀.Denot × (Bor (List ℕ) × (ℕ × (MutBor (List ℕ) × (D.Denot × U)))))
          reply-args y k = (y, (k, (s, (n, (xo, (c, tt))))))

          abbrev to-reply : O.Denot → C₀.Denot → Val → CReply.Ghost
          to-reply y k u = (((κ₁, (κ₂, tt)), (q₁, (q₂, tt)), tt, reply-args y k, (u ∷ [], (C.val k ∷ [], (sv ∷ [], (vint w64 n ∷ [], (ov ∷ [], (D.val c ∷ [], tt))))))), tt)

          goes-reply : (y : O.Denot) (k : C₀.Denot) (u : Val) → Is (row C) k (C.val k ∷ []) → ent 𝓤 (⋆ 𝓛 (T12 ∷ ‵ (O.own_val y (u ∷ [])) ∷ IO ∷ [])) (CReply.pre (to-reply y k u))
          goes-reply y k u k-is = qed 𝓛 (T12 ∷ ‵ (O.own_val y (u ∷ [])) ∷ IO ∷ []) ∵ move ! (2 ∷ []) $ fsplit ! $ nothing ! $ owned ! (still D) (Is (still D)) Dk.makes c _ c-is $ fjoin ! $ move ! (2 ∷ 0 ∷ []) $ fjoin ! $ owned ! usize (Is usize) (uint_Makes 𝓛 w64) n _ n-is $ fjoin ! $ move ! (1 ∷ 0 ∷ []) $ fjoin ! $ owned ! (still C) (Is (still C)) Ck.makes k _ k-is $ fjoin ! $ move ! (2 ∷ 0 ∷ []) $ fjoin ! $ move ! (1 ∷ 0 ∷ []) $ join ! $ frame ! $ done !

          abbrev look-args : K.Denot → MutBor Z.Denot × (K.Denot × U)
          look-args id = (xt, (id, tt))

          abbrev to-look : K.Denot → CLook.Ghost
          to-look id = (((κ₀, tt), (q₀, tt), tt, look-args id, (vptr b o ∷ [], (K.val id ∷ [], tt))), tt)

          goes-look : (id : K.Denot) → Is (row K) id (K.val id ∷ []) → ent 𝓤 (⋆ 𝓛 (‵ (flft κ₀ q₀) ∷ ‵ Own-st ∷ [])) (CLook.pre (to-look id))
          goes-look id k-is = qed 𝓛 (‵ (flft κ₀ q₀) ∷ ‵ Own-st ∷ []) ∵ nothing ! $ owned ! (still K) (Is (still K)) Kk.makes id _ k-is $ fjoin ! $ move ! (2 ∷ 0 ∷ []) $ fjoin ! $ nothing ! $ move ! (2 ∷ 0 ∷ []) $ join ! $ join ! $ frame ! $ done !

          abbrev show-args : X.Denot → X.Denot × (Bor (List ℕ) × (ℕ × (MutBor (List ℕ) × (D.Denot × U))))
          show-args y = (y, (s, (n, (xo, (c, tt)))))

          abbrev to-show : X.Denot → Val → CShow.Ghost
          to-show y u = (((κ₁, (κ₂, tt)), (q₁, (q₂, tt)), tt, show-args y, (u ∷ [], (sv ∷ [], (vint w64 n ∷ [], (ov ∷ [], (D.val c ∷ [], tt)))))), tt)

          goes-show : (y : X.Denot) (u : Val) → ent 𝓤 (⋆ 𝓛 (T12 ∷ ‵ (X.own_val y (u ∷ [])) ∷ IO ∷ [])) (CShow.pre (to-show y u))
          goes-show y u = qed 𝓛 (T12 ∷ ‵ (X.own_val y (u ∷ [])) ∷ IO ∷ []) ∵ move ! (2 ∷ []) $ fsplit ! $ nothing ! $ owned ! (still D) (Is (still D)) Dk.makes c _ c-is $ fjoin ! $ move ! (2 ∷ 0 ∷ []) $ fjoin ! $ owned ! usize (Is usize) (uint_Makes 𝓛 w64) n _ n-is $ fjoin ! $ move ! (1 ∷ 0 ∷ []) $ fjoin ! $ move ! (2 ∷ 0 ∷ []) $ fjoin ! $ move ! (1 ∷ 0 ∷ []) $ join ! $ frame ! $ done !

          abbrev value-args : Q.Denot → Z.Denot × (Q.Denot × (Bor (List ℕ) × (ℕ × (MutBor (List ℕ) × (D.Denot × U)))))
          value-args w = (h, (w, (s, (n, (xo, (c, tt))))))

          abbrev to-value : Q.Denot → CValue.Ghost
          to-value w = (((κ₁, (κ₂, tt)), (q₁, (q₂, tt)), tt, value-args w, (Z.val h ∷ [], (Q.val w ∷ [], (sv ∷ [], (vint w64 n ∷ [], (ov ∷ [], (D.val c ∷ [], tt))))))), tt)

          goes-value : (w : Q.Denot) → Is (row Z) h (Z.val h ∷ []) → Is (row Q) w (Q.val w ∷ []) → ent 𝓤 (⋆ 𝓛 (T12 ∷ IO ∷ [])) (CValue.pre (to-value w))
          goes-value w g w-is = qed 𝓛 (T12 ∷ IO ∷ []) ∵ move ! (1 ∷ []) $ fsplit ! $ nothing ! $ owned ! (still D) (Is (still D)) Dk.makes c _ c-is $ fjoin ! $ move ! (2 ∷ 0 ∷ []) $ fjoin ! $ owned ! usize (Is usize) (uint_Makes 𝓛 w64) n _ n-is $ fjoin ! $ move ! (1 ∷ 0 ∷ []) $ fjoin ! $ owned ! (still Q) (Is (still Q)) Qk.makes w _ w-is $ fjoin ! $ owned ! (still Z) (Is (still Z)) Zk.makes h _ g $ fjoin ! $ move ! (1 ∷ 0 ∷ []) $ join ! $ frame ! $ done !

          module _ (#line #call #reply #look #show #value : Name) (Γ : Calls 𝓤 H) (Λ : Loops 𝓤 H) (fm : FmC 𝓤 H 𝓛.laws Γ) (known-line : Triple 𝓤 (Γ #line) CLine) (known-call : Triple 𝓤 (Γ #call) CCall)
              (known-reply : Triple 𝓤 (Γ #reply) CReply) (known_look : Triple 𝓤 (Γ #look) CLook) (known-show : Triple 𝓤 (Γ #show) CShow) (known-value : Triple 𝓤 (Γ #value) CValue) (room : Room u8 (length ys)) where
            walk : Is (ShrSlice (named 1) κ₁ u8) s (sv ∷ [])
                → ent 𝓤 (on_entry 𝓛 ended.signature (κ₀, (κ₁, (κ₂, tt))) (q₀, (q₁, (q₂, tt))) x at) (WpFn 𝓤 H Γ Λ (code #line #call #reply #look #show #value) (vptr b o ∷ sv ∷ vint w64 n ∷ ov ∷ D.val c ∷ []) Post)
            walk s-is =
                qed 𝓛 ((‵ (flft κ₀ q₀) ⊛ ‵ (flft κ₁ q₁) ⊛ ‵ (flft κ₂ q₂) ⊛ ‵ ftrue) ∷ ‵ (owns (MutRef (named 0) κ₀ (still Z) ∷ ShrSlice (named 1) κ₁ u8 ∷ usize ∷ MutSlice (named 2) κ₂ u8 ∷ still D ∷ []) x at) ∷ []) ∵
                enter ! Γ Λ (code #line #call #reply #look #show #value) (vptr b o ∷ sv ∷ vint w64 n ∷ ov ∷ D.val c ∷ []) _ $
                alloc1 ! (λ l0. alloc1 ! (λ l1. alloc1 ! (λ l2. alloc1 ! (λ l3. alloc1 ! (λ l4. alloc1 ! (λ l5. alloc1 ! (λ l6. alloc1 ! (λ l7. alloc1 ! (λ l8. alloc1 ! (λ l9. alloc1 ! (λ l10. alloc1 ! (λ l11. alloc1 ! (λ l12. alloc1 ! (λ l13. alloc1 ! (λ l14. alloc1 ! (λ l15. alloc1 ! (λ l16. alloc1 ! (λ l17. alloc1 ! (λ l18. alloc1 ! (λ l19. alloc1 ! (λ l20. alloc1 ! (λ l21. alloc1 ! (λ l22. alloc1 ! (λ l23. alloc1 ! (λ l24. alloc0 ! $ params1 ! $
                pass1 ! (init ! 46 refl (tt, tt)) $ pass1 ! (init ! 44 refl ((shr_slice_Lawful 𝓛 (named 1) κ₁ u8).typed s (sv ∷ []) s-is).0) $ pass1 ! (init ! 42 refl ((uint_Lawful 𝓛 w64).typed n _ n-is).0) $
                pass1 ! (init ! 40 refl (tt, (tt, (record { fits = room.0 }, tt)))) $ pass1 ! (init ! 38 refl (Dk.fits c _ c-is)) $ pass0 ! $
                -- what the parameters own is taken apart: [out; inp; st; the locals, last first, each with what frees it; the tokens]
                move ! (51 ∷ []) $ fsplit ! $ move ! (1 ∷ []) $ fsplit ! $ move ! (1 ∷ []) $ fsplit ! $ drop ! $ fsplit ! $ move ! (1 ∷ []) $ drop ! $
                -- the tokens too, and the input is copied: [IO; inp; t2; t1; t0; st; locals]
                move ! (53 ∷ []) $ split ! $ move ! (1 ∷ []) $ split ! $ move ! (1 ∷ []) $ split ! $ move ! (1 ∷ []) $ drop ! $
                move ! (4 ∷ []) $ use1 𝓛 (‵ Own-inp ⊛ ‵ Own-inp) ((shr_slice_copy 𝓛 (named 1) κ₁ u8 (uint_row_laws w8)).twice s (sv ∷ [])) $ split ! $ move ! (0 ∷ 5 ∷ []) $ fjoin ! $
                -- the line
                move ! (1 ∷ 3 ∷ []) $ use2 𝓛 (raw (CLine.pre to-line)) goes-line $
                calls_at ! fm CLine known-line to-line (and_then ! (load ! (from ! (stop !)) (look ! 49 refl)) (and_then ! (load ! (from ! (stop !)) (look ! 43 refl)) (no_more !))) (λ u.
                use1 𝓛 (later (some (λ (l : L.Denot). ((‵ (flft κ₁ q₁) ⊛ ‵ ftrue) ⊛ ‵ (line.own_val l (u ∷ []))) ⊛ raw (ensured 𝓛 line-ended line-clauses (κ₁, tt) (s, (c, tt)) tt l)))) (id⊢ 𝓤 _) $ await ! tt $ pick ! (λ l.
                split ! $ move ! (1 ∷ []) $ use1 𝓛 (raw (fact 𝓤 (Says s.now c l))) (ex_e 𝓤 _ (λ ws. snd∗ 𝓤 (sem 𝓛 (lasts line-ended (κ₁, tt) (s, (c, tt)) ws)) (fact 𝓤 (Says s.now c l)))) $ heard ! (Says s.now c l) (λ l-said. split ! $ move ! (1 ∷ []) $
                peeks ! line (Is line) (shows 𝓛 line) l (u ∷ []) (λ is.
                land ! (from ! (stop !)) (init ! 42 refl (Lk.fits l u is)) $ drop ! $
                rewrite ! 41 (λ (us : List Val). ‵ (fat full_share line_ty l6 0 (only us))) (Lk.tells l u is) refl $
                split ! $ move ! (3 ∷ 1 ∷ []) $ join ! $ move ! (1 ∷ 0 ∷ []) $ join ! $
                -- its event: [T12; IO; t0; st; locals]
                assigns ! (of_opd ! (load ! (from ! (fld ! refl (stop !))) (look_in ! 40 (sub ! 0 refl (whole !))))) (from ! (stop !)) (init ! 38 refl (Ek.fits (event l) _ (Lk.event-is l u is))) $
                either_way (Vk.event (event l))
                (λ ev. let k = ev.0 in let k-is = Vk.call-is k (subst (λ (e : E₀.Denot). Is (row E) e (E.val e ∷ [])) ev.1 (Lk.event-is l u is)) in
                rewrite ! 38 (λ (us : List Val). ‵ (fat full_share E.ty l7 0 (only us))) (ap (λ (v : Val). v ∷ []) ev.2) refl $
                first ! $ switches ! (load ! (from ! (vrt ! refl (fld ! refl (stop !)))) (look_tag ! 38 (whole !))) (
                  (λ _.
                      -- a call
                      assigns ! (of_opd ! (load ! (from ! (vrt ! refl (fld ! refl (stop !)))) (look_in ! 38 (in_variant ! 0 0 refl refl (whole !))))) (from ! (stop !)) (init ! 36 refl (Ck.fits k _ k-is)) $
                      either_way (Vk.call k)
                      (λ lk. let id = lk.0 in let id-is = Vk.key-is id (subst (λ (x : C₀.Denot). Is (row C) x (C.val x ∷ [])) lk.1 k-is) in
                      rewrite ! 36 (λ (us : List Val). ‵ (fat full_share C.ty l8 0 (only us))) (ap (λ (v : Val). v ∷ []) lk.2) refl $
                      switches ! (load ! (from ! (vrt ! refl (fld ! refl (stop !)))) (look_tag ! 36 (whole !))) (
                        (λ _.
                            -- a look
                            assigns ! (of_opd ! (load ! (from ! (vrt ! refl (fld ! refl (stop !)))) (look_in ! 36 (in_variant ! 4 0 refl refl (whole !))))) (from ! (stop !)) (init ! 34 refl (Kk.fits id _ id-is)) $
                            assigns ! (addr ! (from ! (hop ! (look ! 50 refl) (stop !)))) (from ! (stop !)) (init ! 22 refl (tt, tt)) $
                            -- at the borrow's own lifetime, share and name
                            move ! (2 ∷ 3 ∷ []) $ use2 𝓛 (raw (CLook.pre (to-look id))) (goes-look id id-is) $
                            calls_at ! fm CLook known_look (to-look id) (and_then ! (load ! (from ! (stop !)) (look ! 21 refl)) (and_then ! (load ! (from ! (stop !)) (look ! 33 refl)) (no_more !))) (λ v.
                            use1 𝓛 (later (some (λ (y : X.Denot). (T0 ⊛ ‵ (X.own_val y (v ∷ []))) ⊛ raw (ensured 𝓛 look-ended look-clauses (κ₀, tt) (look-args id) tt y)))) (id⊢ 𝓤 _) $ await ! tt $ pick ! (λ y.
                            split ! $ move ! (1 ∷ []) $ use1 𝓛 (some (λ (z : Z.Denot × (U × U)). ‵ (lasts look-ended (κ₀, tt) (look-args id) z) ⊛ raw (fact 𝓤 (Looked h id y z.0)))) (id⊢ 𝓤 _) $ pick ! (λ z.
                            split ! $ move ! (1 ∷ []) $ heard ! (Looked h id y z.0) (λ y-said. fsplit ! $ move ! (1 ∷ []) $ drop ! $ move ! (1 ∷ []) $ split ! $ move ! (1 ∷ []) $
                            -- [the answer; T0; the station's last value; T12; IO; locals]
                            peeks ! (still X) (Is (still X)) (shows 𝓛 (still X)) y (v ∷ []) (λ y-is. land ! (from ! (stop !)) (init ! 33 refl (Xk.fits y v y-is)) $
                            assigns ! (addr ! (from ! (fld ! refl (hop ! (look_in ! 45 (sub ! 0 refl (whole !))) (stop !))))) (from ! (stop !)) (init ! 21 refl (tt, tt)) $
                            assigns ! (agg ! (and_then ! (load ! (from ! (stop !)) (look ! 21 refl)) (and_then ! (load ! (from ! (fld ! refl (stop !))) (look_in ! 45 (sub ! 1 refl (whole !)))) (no_more !)))) (from ! (stop !)) (init ! 19 refl (tt, (tt, (record { fits = room.0 }, tt)))) $
                            move ! (3 ∷ 0 ∷ 4 ∷ []) $ use3 𝓛 (raw (CShow.pre (to-show y v))) (goes-show y v) $
                            calls_at ! fm CShow known-show (to-show y v) (and_then ! (load ! (from ! (stop !)) (look ! 31 refl)) (and_then ! (load ! (from ! (stop !)) (look ! 47 refl)) (and_then ! (load ! (from ! (stop !)) (look ! 45 refl)) (and_then ! (load ! (from ! (stop !)) (look ! 17 refl)) (and_then ! (load ! (from ! (stop !)) (look ! 41 refl)) (no_more !)))))) (λ w.
                            use1 𝓛 (later (some (λ (r : D.Denot). (T12 ⊛ ‵ (D.own_val r (w ∷ []))) ⊛ raw (ensured 𝓛 show-ended show-clauses (κ₁, (κ₂, tt)) (show-args y) tt r)))) (id⊢ 𝓤 _) $ await ! tt $ pick ! (λ r.
                            split ! $ move ! (1 ∷ []) $ use1 𝓛 (some (λ (ws : U × (U × (U × (List ℕ × (U × U))))). ‵ (lasts show-ended (κ₁, (κ₂, tt)) (show-args y) ws) ⊛ raw (fact 𝓤 (Shows y s.now n ys c r ws.1.1.1.0)))) (id⊢ 𝓤 _) $ pick ! (λ ws.
                            split ! $ move ! (1 ∷ []) $ heard ! (Shows y s.now n ys c r ws.1.1.1.0) (λ r-said. fsplit ! $ drop ! $ fsplit ! $ drop ! $ fsplit ! $ drop ! $ fsplit ! $ fsplit ! $ fsplit ! $ move ! (1 ∷ []) $ feq_l ! (λ len. fjoin ! $
                            move ! (1 ∷ []) $ drop ! $ move ! (1 ∷ []) $ split ! $ move ! (1 ∷ []) $
                            -- [the result; T12; the last list; T0; the station's last value; locals]
                            peeks ! (still D) (Is (still D)) (shows 𝓛 (still D)) r (w ∷ []) (λ r-is. land ! (from ! (stop !)) (init ! 53 refl (Dk.fits r w r-is)) $
                            returns_within ! Post refl (look ! 53 refl) $ frees-behind 𝓛 5 (bare (bare (bare (bare (bare (bare (bare (has (has (has (bare (bare (bare (bare (has (has (has (has (has (has (has (has (has (has (has none_left))))))))))))))))))))))))) refl $
                            by ! (exits r w z.0 ws.1.1.1.0 (holds-looks h s.now n ys c l k id y z.0 r ws.1.1.1.0 free l-said ev.1 lk.1 y-said r-said) len))))))))))))),
                        ((λ t. absurd (miss rest 4 tt t)), (λ n. absurd (n.0.1 refl))),
                      ))
                      (λ nl.
                      rewrite ! 36 (λ (us : List Val). ‵ (fat full_share C.ty l8 0 (only us))) (ap (λ (v : Val). v ∷ []) nl.2) refl $
                      switches ! (load ! (from ! (vrt ! refl (fld ! refl (stop !)))) (look_tag ! 36 (whole !))) (
                        (λ t. absurd (nl.4 t)),
                        (
                          (λ _.
                              -- any other call
                              rewrite ! 36 (λ (us : List Val). ‵ (fat full_share C.ty l8 0 (only us))) (ap (λ (v : Val). v ∷ []) (sym nl.2)) refl $
                              assigns ! (of_opd ! (load ! (from ! (fld ! refl (stop !))) (look_in ! 40 (sub ! 1 refl (whole !))))) (from ! (stop !)) (init ! 30 refl (Fk.fits (framed l) _ (Lk.frame_is l u is))) $
                              assigns ! (addr ! (from ! (hop ! (look ! 50 refl) (stop !)))) (from ! (stop !)) (init ! 16 refl (tt, tt)) $
                              assigns ! (agg ! (and_then ! (load ! (from ! (stop !)) (look ! 36 refl)) (and_then ! (load ! (from ! (stop !)) (look ! 30 refl)) (no_more !)))) (from ! (stop !)) (init ! 14 refl (Pk.fits (asks k (framed l)) _ (builds k (framed l) k-is (Lk.frame_is l u is)))) $
                              -- at the borrow's own lifetime, share and name
                              move ! (2 ∷ 3 ∷ []) $ use2 𝓛 (raw (CCall.pre (to-call k (framed l)))) (goes-call k (framed l) (builds k (framed l) k-is (Lk.frame_is l u is))) $
                              calls_at ! fm CCall known-call (to-call k (framed l)) (and_then ! (load ! (from ! (stop !)) (look ! 15 refl)) (and_then ! (load ! (from ! (stop !)) (look ! 13 refl)) (no_more !))) (λ v.
                              use1 𝓛 (later (some (λ (y : O.Denot). (T0 ⊛ ‵ (O.own_val y (v ∷ []))) ⊛ raw (ensured 𝓛 call-ended call-clauses (κ₀, tt) (call-args k (framed l)) tt y)))) (id⊢ 𝓤 _) $ await ! tt $ pick ! (λ y.
                              split ! $ move ! (1 ∷ []) $ use1 𝓛 (some (λ (z : Z.Denot × (U × U)). ‵ (lasts call-ended (κ₀, tt) (call-args k (framed l)) z) ⊛ raw (fact 𝓤 (Called h (asks k (framed l)) y z.0)))) (id⊢ 𝓤 _) $ pick ! (λ z.
                              split ! $ move ! (1 ∷ []) $ heard ! (Called h (asks k (framed l)) y z.0) (λ y-said. fsplit ! $ move ! (1 ∷ []) $ drop ! $ move ! (1 ∷ []) $ split ! $ move ! (1 ∷ []) $
                              -- [the answer; T0; the station's last value; T12; IO; locals]
                              peeks ! (still O) (Is (still O)) (shows 𝓛 (still O)) y (v ∷ []) (λ y-is. land ! (from ! (stop !)) (init ! 29 refl (Ok.fits y v y-is)) $
                              assigns ! (addr ! (from ! (fld ! refl (hop ! (look_in ! 45 (sub ! 0 refl (whole !))) (stop !))))) (from ! (stop !)) (init ! 13 refl (tt, tt)) $
                              assigns ! (agg ! (and_then ! (load ! (from ! (stop !)) (look ! 13 refl)) (and_then ! (load ! (from ! (fld ! refl (stop !))) (look_in ! 45 (sub ! 1 refl (whole !)))) (no_more !)))) (from ! (stop !)) (init ! 11 refl (tt, (tt, (record { fits = room.0 }, tt)))) $
                              move ! (3 ∷ 0 ∷ 4 ∷ []) $ use3 𝓛 (raw (CReply.pre (to-reply y k v))) (goes-reply y k v k-is) $
                              calls_at ! fm CReply known-reply (to-reply y k v) (and_then ! (load ! (from ! (stop !)) (look ! 27 refl)) (and_then ! (load ! (from ! (stop !)) (look ! 35 refl)) (and_then ! (load ! (from ! (stop !)) (look ! 47 refl)) (and_then ! (load ! (from ! (stop !)) (look ! 45 refl)) (and_then ! (load ! (from ! (stop !)) (look ! 9 refl)) (and_then ! (load ! (from ! (stop !)) (look ! 41 refl)) (no_more !))))))) (λ w.
                              use1 𝓛 (later (some (λ (r : D.Denot). (T12 ⊛ ‵ (D.own_val r (w ∷ []))) ⊛ raw (ensured 𝓛 reply-ended reply-clauses (κ₁, (κ₂, tt)) (reply-args y k) tt r)))) (id⊢ 𝓤 _) $ await ! tt $ pick ! (λ r.
                              split ! $ move ! (1 ∷ []) $ use1 𝓛 (some (λ (ws : U × (U × (U × (U × (List ℕ × (U × U)))))). ‵ (lasts reply-ended (κ₁, (κ₂, tt)) (reply-args y k) ws) ⊛ raw (fact 𝓤 (Replies y k s.now n ys c r ws.1.1.1.1.0)))) (id⊢ 𝓤 _) $ pick ! (λ ws.
                              split ! $ move ! (1 ∷ []) $ heard ! (Replies y k s.now n ys c r ws.1.1.1.1.0) (λ r-said. fsplit ! $ drop ! $ fsplit ! $ drop ! $ fsplit ! $ drop ! $ fsplit ! $ drop ! $ fsplit ! $ fsplit ! $ fsplit ! $ move ! (1 ∷ []) $ feq_l ! (λ len. fjoin ! $
                              move ! (1 ∷ []) $ drop ! $ move ! (1 ∷ []) $ split ! $ move ! (1 ∷ []) $
                              -- [the result; T12; the last list; T0; the station's last value; locals]
                              peeks ! (still D) (Is (still D)) (shows 𝓛 (still D)) r (w ∷ []) (λ r-is. land ! (from ! (stop !)) (init ! 53 refl (Dk.fits r w r-is)) $
                              returns_within ! Post refl (look ! 53 refl) $ frees-behind 𝓛 5 (bare (bare (bare (has (has (has (has (bare (bare (bare (bare (bare (has (has (bare (bare (has (has (has (has (has (has (has (has (has none_left))))))))))))))))))))))))) refl $
                              by ! (exits r w z.0 ws.1.1.1.1.0 (holds-asks h s.now n ys c l k y z.0 r ws.1.1.1.1.0 free l-said ev.1 nl.5 y-said r-said) len))))))))))))),
                          (λ n. absurd (n.1 nl.3)),
                        ),
                      ))),
                  ((λ t. absurd (miss (1 ∷ []) 0 tt t)), (λ n. absurd (n.0.1 refl))),
                ))
                (λ ov'. let w = ov'.0 in let w-is = Vk.other-is w (subst (λ (e : E₀.Denot). Is (row E) e (E.val e ∷ [])) ov'.1 (Lk.event-is l u is)) in
                rewrite ! 38 (λ (us : List Val). ‵ (fat full_share E.ty l7 0 (only us))) (ap (λ (v : Val). v ∷ []) ov'.2) refl $
                first ! $ switches ! (load ! (from ! (vrt ! refl (fld ! refl (stop !)))) (look_tag ! 38 (whole !))) (
                  (λ t. absurd (miss (0 ∷ []) 1 tt t)),
                  (
                    (λ _.
                        -- what a line says besides
                        assigns ! (of_opd ! (load ! (from ! (vrt ! refl (fld ! refl (stop !)))) (look_in ! 38 (in_variant ! 1 0 refl refl (whole !))))) (from ! (stop !)) (init ! 26 refl (Qk.fits w _ w-is)) $
                        -- the borrow is opened
                        move ! (3 ∷ []) $ fsplit3 ! $ drop ! $ move ! (0 ∷ 1 ∷ 4 ∷ []) $
                        opens ! tt (still Z) {h = h} b o (λ vs. spelt ! (still Z) (Is (still Z)) (shows 𝓛 (still Z)) (λ y. Z.val y ∷ []) Zk.tells full_share h vs b o $
                        move ! (1 ∷ []) $ peeks ! (still Z) (Is (still Z)) (shows 𝓛 (still Z)) h (Z.val h ∷ []) (λ g. drop ! $
                        -- [the cell; the open borrow; obs; auth; T12; IO; locals]
                        assigns ! (of_opd ! (load ! (from ! (hop ! (look ! 52 refl) (stop !))) (look_raw ! 0 refl))) (from ! (stop !)) (init ! 10 refl (Zk.fits h _ g)) $
                        assigns ! (addr ! (from ! (fld ! refl (hop ! (look_in ! 46 (sub ! 0 refl (whole !))) (stop !))))) (from ! (stop !)) (init ! 8 refl (tt, tt)) $
                        assigns ! (agg ! (and_then ! (load ! (from ! (stop !)) (look ! 8 refl)) (and_then ! (load ! (from ! (fld ! refl (stop !))) (look_in ! 46 (sub ! 1 refl (whole !)))) (no_more !)))) (from ! (stop !)) (init ! 6 refl (tt, (tt, (record { fits = room.0 }, tt)))) $
                        move ! (4 ∷ 5 ∷ []) $ use2 𝓛 (raw (CValue.pre (to-value w))) (goes-value w g w-is) $
                        calls_at ! fm CValue known-value (to-value w) (and_then ! (load ! (from ! (stop !)) (look ! 9 refl)) (and_then ! (load ! (from ! (stop !)) (look ! 27 refl)) (and_then ! (load ! (from ! (stop !)) (look ! 49 refl)) (and_then ! (load ! (from ! (stop !)) (look ! 47 refl)) (and_then ! (load ! (from ! (stop !)) (look ! 5 refl)) (and_then ! (load ! (from ! (stop !)) (look ! 43 refl)) (no_more !))))))) (λ v'.
                        use1 𝓛 (later (some (λ (v : R.Denot). (T12 ⊛ ‵ (R.own_val v (v' ∷ []))) ⊛ raw (ensured 𝓛 value-ended value-clauses (κ₁, (κ₂, tt)) (value-args w) tt v)))) (id⊢ 𝓤 _) $ await ! tt $ pick ! (λ v.
                        split ! $ move ! (1 ∷ []) $ use1 𝓛 (some (λ (ws : U × (U × (U × (U × (List ℕ × (U × U)))))). ‵ (lasts value-ended (κ₁, (κ₂, tt)) (value-args w) ws) ⊛ raw (fact 𝓤 (Takes h w s.now n ys c v ws.1.1.1.1.0)))) (id⊢ 𝓤 _) $ pick ! (λ ws.
                        split ! $ move ! (1 ∷ []) $ heard ! (Takes h w s.now n ys c v ws.1.1.1.1.0) (λ v-said. fsplit ! $ drop ! $ fsplit ! $ drop ! $ fsplit ! $ drop ! $ fsplit ! $ drop ! $ fsplit ! $ fsplit ! $ fsplit ! $ move ! (1 ∷ []) $ feq_l ! (λ len. fjoin ! $
                        move ! (1 ∷ []) $ drop ! $ move ! (1 ∷ []) $ split ! $ move ! (1 ∷ []) $
                        -- [the answer; T12; the last list; the cell; the open borrow; obs; auth; locals]
                        peeks ! R (Is R) (shows 𝓛 R) v (v' ∷ []) (λ v-is.
                        land ! (from ! (stop !)) (init ! 27 refl (Rk.fits v v' v-is)) $ drop ! $
                        rewrite ! 26 (λ (us : List Val). ‵ (fat full_share (answer_ty νr Z D) l14 0 (only us))) (Rk.tells v v' v-is) refl $
                        assigns ! (of_opd ! (load ! (from ! (fld ! refl (stop !))) (look_in ! 26 (sub ! 0 refl (whole !))))) (from ! (hop ! (look ! 52 refl) (stop !))) (store_raw ! 2 refl (Zk.fits (st v) _ (Rk.first v v' v-is))) $
                        assigns ! (of_opd ! (load ! (from ! (fld ! refl (stop !))) (look_in ! 26 (sub ! 1 refl (whole !))))) (from ! (stop !)) (init ! 54 refl (Dk.fits (cur v) _ (Rk.second v v' v-is))) $
                        -- the borrow is closed, and what says its last value is made of its half of the ghost variable
                        owned ! (still Z) (Is (still Z)) Zk.makes (st v) _ (Rk.first v v' v-is) $ move ! (3 ∷ 0 ∷ 4 ∷ 5 ∷ 6 ∷ []) $ closes ! tt (still Z) (st v) (Z.val (st v) ∷ []) b o $
                        use1 𝓛 (‵ (fres γ (Z.coded.code (st v)))) (𝓛.names.obs-res γ (Z.coded.code (st v))) $ fjoin ! $ nothing ! $ move ! (2 ∷ 0 ∷ []) $ join ! $
                        owned ! (still D) (Is (still D)) Dk.makes (cur v) _ (Rk.second v v' v-is) $ move ! (0 ∷ 3 ∷ 4 ∷ 1 ∷ 2 ∷ []) $
                        -- [the result; T12; the last list; T0; the station's last value; locals]
                        returns_within ! Post refl (look ! 53 refl) $ frees-behind 𝓛 5 (has (has (has (bare (bare (bare (bare (bare (bare (bare (has (has (bare (bare (bare (bare (bare (has (has (has (has (has (has (has (has none_left))))))))))))))))))))))))) refl $
                        by ! (exits (cur v) (D.val (cur v)) (st v) ws.1.1.1.1.0 (holds-other h s.now n ys c l w v ws.1.1.1.1.0 free l-said ov'.1 v-said) len)))))))))),
                    (λ n. absurd (n.1 refl)),
                  ),
                )))))))))))))))))))))))))))))))

      goes : AllGo 𝓛 3 ended.signature.params ended.kept stayed
      goes = (Goes-gave_ref 𝓛 3 0 tt (plain (λ _. still Z)), (Goes-dropped 𝓛 3 (shr_slice_of (1 ∷ []) tt (plain (λ _. u8))) yes (λ κs x f. refl), (Goes-dropped 𝓛 3 (plain (λ _. usize)) yes (λ κs x f. refl), (Goes-gave_slice 𝓛 3 2 tt (plain (λ _. u8)), (Goes-dropped 𝓛 3 (plain (λ _. still D)) yes (λ κs x f. refl), tt)))))

      pub meets : (#line #call #reply #look #show #value : Name) (𝓣 : Tables 𝓤 H) → Triple 𝓤 (𝓣.C #line) CLine → Triple 𝓤 (𝓣.C #call) CCall → Triple 𝓤 (𝓣.C #reply) CReply → Triple 𝓤 (𝓣.C #look) CLook → Triple 𝓤 (𝓣.C #show) CShow → Triple 𝓤 (𝓣.C #value) CValue
          → Meets 𝓛 ended.signature (WpFn 𝓤 H 𝓣.C 𝓣.Λ (code #line #call #reply #look #show #value)) (closing 𝓛 ended clauses)
      meets #line #call #reply #look #show #value 𝓣 known-line known-call known-reply known_look known-show known-value =
          walk_Meets 𝓛 ended stayed goes clauses (WpFn 𝓤 H 𝓣.C 𝓣.Λ (code #line #call #reply #look #show #value)) (WpFn-mono 𝓤 H 𝓛.laws 𝓣 (code #line #call #reply #look #show #value))
          (walked 𝓛 ended stayed clauses (WpFn 𝓤 H 𝓣.C 𝓣.Λ (code #line #call #reply #look #show #value))
          (λ κs. (mut_vals, (shr_slice_vals, (uint_vals w64, (mut_slice_vals, ((λ y. D.val y ∷ []), tt))))))
          (λ κs. (mut_Tells (named 0) κs.0 (still Z), (shr_slice_Tells (named 1) κs.1.0 u8, (uint_Tells w64, (mut_slice_Tells (named 2) κs.1.1.0 u8, (Dk.tells, tt))))))
          (λ κs qs bounds a _ are. needs 𝓤 (Free a.1.1.1.0.now a.1.1.1.1.0) _ (λ free.
          (walk κs.0 κs.1.0 κs.1.1.0 qs.0 qs.1.0 qs.1.1.0 a.0.ref_ptr.0 a.0.ref_ptr.1 a.0.ghost_name a.0.now a.1.0 a.1.1.0 a.1.1.1.0.ref_ptr.0 a.1.1.1.0.ref_ptr.1 a.1.1.1.0.ghost_name a.1.1.1.0.now a.1.1.1.1.0
          are.1.1.0 are.1.1.1.1.0 free #line #call #reply #look #show #value 𝓣.C 𝓣.Λ (fm_of 𝓤 H 𝓛.laws 𝓣) known-line known-call known-reply known_look known-show known-value are.1.1.1.0.0.1 are.1.0))))
