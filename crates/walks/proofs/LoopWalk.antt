-- A loop that hands a lent value on, line after line, ends, and what holds at its begin and is kept by each turn holds at its end: each turn lends the local for a lifetime and takes it back, lends `out` again and takes it back, and what is left falls where there is more.
-- Of the lent value only this is known: it has one machine value, and its relation tells it. The cursor is a struct of four numbers and two flags, and the answer a struct of the value and the cursor.
use mathlib.Core.Path.{◌≡◌, refl, subst, ◌∙◌}
use mathlib.Core.Bool.{Bool, true, false, not}
use Prim.Native.Nat.{ℕ, suc, ◌<◌}
use native.Mathlib.Nat.{suc-le-suc_iff, zero-lt-suc}
use mathlib.Core.WellFounded.InvImage
use mathlib.Core.WellFounded.{WellFounded}
use mathlib.Core.List.{[], ◌∷◌, List}
use mathlib.Core.Option.{none, some as just}
use lib.Dec.{T}
use lib.ListN.{length}
use lib.WfN.{lt-wf_rel}
use seplogic.Ra.Ura.{Ura}
use base.Fraction.{full_share}
use mir.Syntax.{Sym, Callee as Name, Ty, ty_ref, ty_int, ty_bool, ty_struct, tnil, tcons, imm, mut, named, erased, w8, w64, Fn, Local, Body, local, value_local, memory_slot, place, deref, field, copy, rv_opd, aggregate, addr_of, seq, assign, call, cond, block, loop, exit, skip, return}
use mir.Val.{Val, vptr, vint, vbool, vstruct, vnil, vcons, WT, has_ty}
use base.Logic.{SProp, ent, sep, ex, guard, emp, id⊢}
use base.Fml.{Lft, Share, GName, Fml, ftrue, fat, flft, fres}
use prog.Wp.{Out, Env, after_seq, after_block, after_turn, Wp, at_return, WpFn, Tables}
use types.Logic.{Logic, sem}
use contract.Monad.{fact}
use types.Kit.{Item, mean, ⋆, ‵, raw, ◌⊛◌, some, given, later, runs, any_q, at_ret, Sq, ◌$◌, ◌∵◌, !, qed, by, move, keep, drop, group, use1, use2, use3, split, join, pick, learn, rewrite, fsplit, fjoin, feq_l, suffices, frame, await, updating, now as at_once, show, check, done}
use types.Tokens.{lft_new, lft_end}
use types.Run.{look, init, store, forget, stop, hop, fld, from, load, and_then, no_more, land, land_last, of_opd, addr, assigns, first, skips, jumps, blocks, branches, returns, enter, alloc1, alloc0, params1, pass1, pass0, exec, Below, again, loops}
use types.Part.{whole, sub, look_in, agg}
use sound.WpLaws.{fm_of, WpFn-mono}
use denote.RattleType.{RattleType, owns}
use denote.Exit.{yes}
use denote.Laws.{Is, Makes, shows}
use denote.Memory.{pointee}
use denote.Plain.{uint_row_laws, uint_vals, uint_Tells, uint_Makes, uint_Lawful}
use denote.Builtin.{u8, usize}
use denote.Ref.{Bor, MutBor}
use denote.Slice.{slice_ty, slice_val, shr_slice_vals, mut_slice_vals, ShrSlice, MutSlice, finally, shr_slice_Tells, mut_slice_Tells, shr_slice_Lawful, mut_slice_Lawful, shr_slice_copy}
use denote.Signature.{plain, mut_ref_to, shr_slice_of, mut_slice_of}
use denote.Steps.{only, owned, peeks, heard, nothing}
use denote.Triple.Statement.{Contract, Triple}
use denote.Triple.Call.{calls_at, calls_at_last}
use denote.Triple.Entry.{on_entry}
use denote.Triple.Spec.{Meets, triple_of}
use denote.Triple.Walked.{says, needs, Stays, stay_none, stay_none_slice, stay_slice, walk_of, AllGo, Goes-none, Goes-none_slice, Goes-slice, ends_at, walked, walk_Meets}
use denote.Triple.Clauses.{Ended, Lasts, lasts, Clauses, closing}
use Rattle.walks.proofs.ThinWalk.{Held, row, still, Known}
use Rattle.walks.proofs.Frees.{has, bare, none as none_left, frees-behind}
use Rattle.walks.proofs.Local.{env-of, locals-at, no-more-said, cell, lent_ref, lenders, lends_local, local_back}
use Rattle.walks.proofs.Again.{LentAgain, lends-again-at, comes-back-at}

abbrev Bytes : Type 0
Bytes = List ℕ

abbrev ref : ℕ → ℕ → GName → Bytes → MutBor Bytes
ref b o γ ys = record { ref_ptr = (b, o); ghost_name = γ; now = ys }

abbrev shared : ℕ → ℕ → Bytes → Bor Bytes
shared b o xs = record { ref_ptr = (b, o); now = xs }

-- what is ahead of the loop: the turn that begins, and what is left after it; and nothing where there is no more
abbrev ahead : Bool → ℕ → ℕ
ahead true m = suc m
ahead false m = 0

falls-to : (z z' : Bool) (m m' : ℕ) → (z' ≡ true → m' < m) → T z → ahead z' m' < ahead z m
falls-to true true m m' f h = suc-le-suc_iff.1 (f refl)
falls-to true false m m' f h = zero-lt-suc m
falls-to false z' m m' f h = absurd h

-- ---- the cursor, and the answer

abbrev pub cursor_ty : Sym → Ty
cursor_ty ν = ty_struct ν (tcons (ty_int w64) (tcons (ty_int w64) (tcons (ty_int w64) (tcons (ty_int w64) (tcons ty_bool (tcons ty_bool tnil))))))

abbrev pub cursor_val : ℕ → ℕ → ℕ → ℕ → Bool → Bool → Val
cursor_val a b c d e f = vstruct (vcons (vint w64 a) (vcons (vint w64 b) (vcons (vint w64 c) (vcons (vint w64 d) (vcons (vbool e) (vcons (vbool f) vnil))))))

abbrev pub taken_ty : Sym → Held → Sym → Ty
taken_ty μ Z ν = ty_struct μ (tcons Z.ty (tcons (cursor_ty ν) tnil))

pub record Cursors {M : Type 1} {𝓤 : Ura M} (𝓛 : Logic 𝓤) (Q : RattleType) (ν : Sym) (val : Q.Denot → Val) : Type 1 where
  pub fits : (c : Q.Denot) (u : Val) → Is Q c (u ∷ []) → T (has_ty (cursor_ty ν) u) × WT u
  pub tells : (c : Q.Denot) (u : Val) → Is Q c (u ∷ []) → ◌≡◌ {A = List Val} (u ∷ []) (val c ∷ [])
  pub makes : Makes 𝓛 Q (Is Q)

pub record Takes {M : Type 1} {𝓤 : Ura M} (𝓛 : Logic 𝓤) (Z : Held) (Q R : RattleType) (ν μ : Sym) (val : Q.Denot → Val) (made : Z.Denot → Q.Denot → R.Denot) : Type 1 where
  pub fits : (r : R.Denot) (u : Val) → Is R r (u ∷ []) → T (has_ty (taken_ty μ Z ν) u) × WT u
  pub is : (z : Z.Denot) (c : Q.Denot) → Is (row Z) z (Z.val z ∷ []) → Is Q c (val c ∷ []) → Is R (made z c) (vstruct (vcons (Z.val z) (vcons (val c) vnil)) ∷ [])
  pub makes : Makes 𝓛 R (Is R)

module _ (Z : Held) (Q R : RattleType) (ν μ : Sym) (n₀ n₁ n₂ left : Q.Denot → ℕ) (more full : Q.Denot → Bool) (made : Z.Denot → Q.Denot → R.Denot)
    -- what the loop asks of the input, of how much of it and of the output; what the first cursor is; what a turn asks of the output and the cursor, and what it gives; what holds at each turn; and what is promised
    (Pre : Bytes → ℕ → Bytes → Type 0) (Begun : Bytes → ℕ → Q.Denot → Type 0) (Free : Bytes → Q.Denot → Type 0) (Went : Z.Denot → Bytes → ℕ → Bytes → Q.Denot → Q.Denot → Z.Denot → Bytes → Type 0)
    (Inv : Z.Denot → Bytes → ℕ → Z.Denot → Q.Denot → Bytes → Type 0) (Promised : Z.Denot → Bytes → ℕ → R.Denot → Bytes → Type 0) where
  abbrev pub cur_val : Q.Denot → Val
  cur_val c = cursor_val (n₀ c) (n₁ c) (n₂ c) (left c) (more c) (full c)

  abbrev taken_val : Z.Denot → Q.Denot → Val
  taken_val z c = vstruct (vcons (Z.val z) (vcons (cur_val c) vnil))

  -- ---- the signatures

  abbrev pub ended : Ended
  ended = record {
    signature = record { lifetimes = 2; outlives = []; params = plain (λ _. still Z) ∷ shr_slice_of (0 ∷ []) tt (plain (λ _. u8)) ∷ plain (λ _. usize) ∷ mut_slice_of (1 ∷ []) tt (plain (λ _. u8)) ∷ []; result = plain (λ _. R) };
    kept = (yes, (yes, (yes, (yes, tt))));
  }

  abbrev pub begin-ended : Ended
  begin-ended = record {
    signature = record { lifetimes = 1; outlives = []; params = shr_slice_of (0 ∷ []) tt (plain (λ _. u8)) ∷ plain (λ _. usize) ∷ []; result = plain (λ _. Q) };
    kept = (yes, (yes, tt));
  }

  abbrev pub on-ended : Ended
  on-ended = record {
    signature = record { lifetimes = 3; outlives = []; params = mut_ref_to (0 ∷ []) tt (plain (λ _. row Z)) ∷ shr_slice_of (1 ∷ []) tt (plain (λ _. u8)) ∷ plain (λ _. usize) ∷ mut_slice_of (2 ∷ []) tt (plain (λ _. u8)) ∷ plain (λ _. Q) ∷ []; result = plain (λ _. Q) };
    kept = (yes, (yes, (yes, (yes, (yes, tt)))));
  }

  -- ---- the code

  abbrev locals : List Local
  locals =
      local (taken_ty μ Z ν) value_local
      ∷ local Z.ty value_local ∷ local (slice_ty (ty_ref (named 0) imm (ty_int w8))) value_local ∷ local (ty_int w64) value_local ∷ local (slice_ty (ty_ref (named 1) mut (ty_int w8))) value_local
      ∷ local Z.ty memory_slot ∷ local (cursor_ty ν) value_local
      ∷ local ty_bool value_local ∷ local (ty_ref erased mut (pointee Z.written)) value_local ∷ local (ty_ref erased mut (ty_int w8)) value_local ∷ local (slice_ty (ty_ref erased mut (ty_int w8))) value_local ∷ local Z.ty value_local ∷ []

  abbrev lend : Name → Body
  lend #on =
      seq (assign (place 8 []) (addr_of (place 5 [])))
      (seq (assign (place 9 []) (addr_of (place 4 (field 0 ∷ deref (ty_int w8) ∷ []))))
      (seq (assign (place 10 []) (aggregate (copy (place 9 []) ∷ copy (place 4 (field 1 ∷ [])) ∷ [])))
      (call #on (copy (place 8 []) ∷ copy (place 2 []) ∷ copy (place 3 []) ∷ copy (place 10 []) ∷ copy (place 6 []) ∷ []) (place 6 []))))

  abbrev turn : Name → Body
  turn #on = seq (assign (place 7 []) (rv_opd (copy (place 6 (field 4 ∷ []))))) (seq (cond (copy (place 7 [])) skip (exit 1)) (lend #on))

  abbrev leave : Body
  leave = seq (assign (place 11 []) (rv_opd (copy (place 5 [])))) (seq (assign (place 0 []) (aggregate (copy (place 11 []) ∷ copy (place 6 []) ∷ []))) return)

  abbrev pub code : Name → Name → Fn
  code #begin #on = record {
    lifetimes = 2;
    outlives = [];
    ty_params = [];
    givens = 0;
    params = 4;
    locals = locals;
    body = seq (assign (place 5 []) (rv_opd (copy (place 1 [])))) (seq (call #begin (copy (place 2 []) ∷ copy (place 3 []) ∷ []) (place 6 [])) (seq (block (loop (turn #on))) leave));
  }

  abbrev stayed : Stays ended.signature.params ended.kept
  stayed = (stay_none (λ _. still Z) yes, (stay_none_slice (0 ∷ []) tt (plain (λ _. u8)) yes, (stay_none (λ _. usize) yes, (stay_slice (1 ∷ []) tt (plain (λ _. u8)), tt))))

  module _ {M : Type 1} {𝓤 : Ura M} (𝓛 : Logic 𝓤) where
    -- ---- the contracts

    open 𝓛 use {H, A}

    abbrev pub clauses : Clauses 𝓤 ended
    clauses κs a = record { ghost = Unit {0}; requires = λ _. fact 𝓤 (Pre a.1.0.now a.1.1.0 a.1.1.1.0.now); ensures = λ _ r end. fact 𝓤 (Promised a.0 a.1.0.now a.1.1.0 r end.1.1.1.0.now) }

    abbrev Begin : Contract 𝓤
    Begin = triple_of 𝓛 begin-ended.signature (closing 𝓛 begin-ended (λ κs a. record { ghost = Unit {0}; requires = λ _. emp 𝓤; ensures = λ _ r end. fact 𝓤 (Begun a.0.now a.1.0 r) }))

    abbrev On : Contract 𝓤
    On = triple_of 𝓛 on-ended.signature (closing 𝓛 on-ended (λ κs a. record { ghost = Unit {0}; requires = λ _. fact 𝓤 (Free a.1.1.1.0.now a.1.1.1.1.0); ensures = λ _ r end. fact 𝓤 (Went a.0.now a.1.0.now a.1.1.0 a.1.1.1.0.now a.1.1.1.1.0 r end.0.now end.1.1.1.0.now) }))

    module _
        (falls : (z z' : Z.Denot) (xs : Bytes) (n : ℕ) (zs zs' : Bytes) (c r : Q.Denot) → Went z xs n zs c r z' zs' → more r ≡ true → left r < left c)
        (begins-with : (z : Z.Denot) (xs : Bytes) (n : ℕ) (ys : Bytes) (c : Q.Denot) → Pre xs n ys → Begun xs n c → Inv z xs n z c ys)
        (frees : (z₀ : Z.Denot) (xs : Bytes) (n : ℕ) (z : Z.Denot) (c : Q.Denot) (zs : Bytes) → Inv z₀ xs n z c zs → T (more c) → Free zs c)
        (keeps : (z₀ : Z.Denot) (xs : Bytes) (n : ℕ) (z z' : Z.Denot) (zs zs' : Bytes) (c r : Q.Denot) → Inv z₀ xs n z c zs → T (more c) → Went z xs n zs c r z' zs' → Inv z₀ xs n z' r zs')
        (ends_with : (z₀ : Z.Denot) (xs : Bytes) (n : ℕ) (z : Z.Denot) (c : Q.Denot) (zs : Bytes) → Inv z₀ xs n z c zs → T (not (more c)) → Promised z₀ xs n (made z c) zs)
        (Zk : Known 𝓛 Z) (Qk : Cursors 𝓛 Q ν cur_val) (Rk : Takes 𝓛 Z Q R ν μ cur_val made) where
      abbrev IsZ : Z.Denot → Type 0
      IsZ z = Is (row Z) z (Z.val z ∷ [])

      abbrev IsQ : Q.Denot → Type 0
      IsQ c = Is Q c (cur_val c ∷ [])

      module _ (κ₀ κ₁ : Lft) (q₀ q₁ : Share) (z₀ : Z.Denot) (bi oi : ℕ) (xs : Bytes) (n : ℕ) (bo oo : ℕ) (γo : GName) (ys : Bytes)
          (z-is : Is (still Z) z₀ (Z.val z₀ ∷ [])) (inp-is : Is (ShrSlice (named 0) κ₀ u8) (shared bi oi xs) (slice_val (bi, oi) (length xs) ∷ [])) (n-is : Is usize n (vint w64 n ∷ [])) (out-is : Is (MutSlice (named 1) κ₁ u8) (ref bo oo γo ys) (slice_val (bo, oo) (length ys) ∷ [])) (pre : Pre xs n ys) where
        abbrev vi : Val
        vi = slice_val (bi, oi) (length xs)

        abbrev vo : Val
        vo = slice_val (bo, oo) (length ys)

        abbrev x : Z.Denot × (Bor Bytes × (ℕ × (MutBor Bytes × Unit {0})))
        x = (z₀, (shared bi oi xs, (n, (ref bo oo γo ys, tt))))

        abbrev at : List Val × (List Val × (List Val × (List Val × Unit {0})))
        at = (Z.val z₀ ∷ [], (vi ∷ [], (vint w64 n ∷ [], (vo ∷ [], tt))))

        abbrev bound : (walk_of 𝓛 ended stayed clauses).Ghost
        bound = (((κ₀, (κ₁, tt)), (q₀, (q₁, tt)), tt, x, at), tt)

        abbrev Post : Val → SProp 𝓤
        Post = (walk_of 𝓛 ended stayed clauses).post bound

        -- `inp`, and `out` at what lies there
        abbrev Inp : Fml
        Inp = (ShrSlice (named 0) κ₀ u8).own_val (shared bi oi xs) (vi ∷ [])

        abbrev OutAt : Lft → GName → Bytes → Fml
        OutAt κ δ zs = (MutSlice (named 1) κ u8).own_val (ref bo oo δ zs) (vo ∷ [])

        -- what a turn begins with, and the order by which the loop ends
        abbrev Turn : Type 0
        Turn = (z : Z.Denot) × (c : Q.Denot) × (zs : Bytes) × IsZ z × IsQ c × (length zs ≡ length ys) × Inv z₀ xs n z c zs

        abbrev Nearer : Turn → Turn → Type 0
        Nearer y' y = ahead (more y'.1) (left y'.1) < ahead (more y.1) (left y.1)

        Nearer-wf : WellFounded Nearer
        Nearer-wf = InvImage.wf (λ (y : Turn). ahead (more y.1) (left y.1)) lt-wf_rel.wf

        -- ---- the call that makes the first cursor
        abbrev to-begin : Begin.Ghost
        to-begin = (((κ₀, tt), (q₀, tt), tt, (shared bi oi xs, (n, tt)), (vi ∷ [], (vint w64 n ∷ [], tt))), tt)

        goes-begin : ent 𝓤 (sep 𝓤 (A.lft κ₀ q₀) (sem 𝓛 Inp)) (Begin.pre to-begin)
        goes-begin =
            qed 𝓛 (‵ (flft κ₀ q₀) ∷ ‵ Inp ∷ []) ∵ no-more-said ! $ nothing ! $ move ! (1 ∷ 0 ∷ []) $ join ! $ frame ! $ nothing ! $
            owned ! usize (Is usize) (uint_Makes 𝓛 w64) n _ n-is $ fjoin ! $ move ! (1 ∷ 0 ∷ []) $ fjoin ! $ done !

        gives-begin : (w : Val) → ent 𝓤 (Begin.post to-begin w) (H.⇛ (ex 𝓤 (λ (r : Q.Denot). guard 𝓤 (Is Q r (w ∷ []) × Begun xs n r) (A.lft κ₀ q₀))))
        gives-begin w =
            qed 𝓛 (raw (Begin.post to-begin w) ∷ []) ∵ updating ! $
            use1 𝓛 (later (some (λ (r : Q.Denot). ((‵ (flft κ₀ q₀) ⊛ ‵ ftrue) ⊛ ‵ (Q.own_val r (w ∷ []))) ⊛ some (λ (ws : Lasts begin-ended (κ₀, tt) to-begin.0.3). ‵ (lasts begin-ended (κ₀, tt) to-begin.0.3 ws) ⊛ raw (fact 𝓤 (Begun xs n r)))))) (id⊢ 𝓤 _) $ await ! tt $ pick ! (λ r.
            split ! $ move ! (1 ∷ []) $ pick ! (λ ws. split ! $ move ! (1 ∷ []) $ heard ! (Begun xs n r) (λ begun. drop ! $
            split ! $ move ! (1 ∷ []) $ peeks ! Q (Is Q) (shows 𝓛 Q) r (w ∷ []) (λ is. drop ! $ split ! $ at_once ! $ show ! (λ (r' : Q.Denot). guard 𝓤 (Is Q r' (w ∷ []) × Begun xs n r') (A.lft κ₀ q₀)) r $ check ! (is, begun) $ keep ! (0 ∷ []) $ done !))))

        -- ---- the call of a turn: the value is lent for α under δ, and `out` for β under ε
        module _ (l5 : ℕ) (α β : ℕ) (δ ε : GName) (z : Z.Denot) (c : Q.Denot) (zs : Bytes) (c-is : IsQ c) (free : Free zs c) where
          abbrev κs : Lft × (Lft × (Lft × Unit {0}))
          κs = (α ∷ [], (κ₀, (β ∷ [], tt)))

          abbrev to-on : On.Ghost
          to-on = ((κs, (full_share, (q₀, (full_share, tt))), tt, (record { ref_ptr = (l5, 0); ghost_name = δ; now = z }, (shared bi oi xs, (n, (ref bo oo ε zs, (c, tt))))), (vptr l5 0 ∷ [], (vi ∷ [], (vint w64 n ∷ [], (vo ∷ [], (cur_val c ∷ [], tt)))))), tt)

          abbrev Passed : List (Item 𝓤)
          Passed = ‵ (flft (α ∷ []) full_share) ∷ ‵ (flft κ₀ q₀) ∷ ‵ (flft (β ∷ []) full_share) ∷ ‵ (lent_ref Z l5 (named 0) (α ∷ []) δ z) ∷ ‵ Inp ∷ ‵ (OutAt (β ∷ []) ε zs) ∷ []

          goes_on : ent 𝓤 (⋆ 𝓛 Passed) (On.pre to-on)
          goes_on =
              qed 𝓛 Passed ∵ says ! free $ nothing ! $ move ! (3 ∷ 0 ∷ []) $ join ! $ move ! (2 ∷ 0 ∷ []) $ join ! $ move ! (1 ∷ 0 ∷ []) $ join ! $ frame ! $
              -- [the value's; inp; out]
              nothing ! $ owned ! Q (Is Q) Qk.makes c _ c-is $ fjoin ! $ move ! (3 ∷ 0 ∷ []) $ fjoin ! $ owned ! usize (Is usize) (uint_Makes 𝓛 w64) n _ n-is $ fjoin ! $ move ! (2 ∷ 0 ∷ []) $ fjoin ! $ move ! (1 ∷ 0 ∷ []) $ fjoin ! $ done !

          -- what the caller has of it: the tokens, and the last values
          abbrev Fact : Val → Q.Denot → Z.Denot → Bytes → Type 0
          Fact w r z' zs' = Is Q r (w ∷ []) × (length zs' ≡ length zs) × Went z xs n zs c r z' zs'

          abbrev Back : Z.Denot → Bytes → Item 𝓤
          Back z' zs' = (((‵ (flft (α ∷ []) full_share) ⊛ ‵ (flft κ₀ q₀)) ⊛ ‵ (flft (β ∷ []) full_share)) ⊛ ‵ (fres δ (Z.coded.code z'))) ⊛ ‵ (finally u8 ε zs')

          abbrev Had : Val → Q.Denot → Z.Denot → Bytes → SProp 𝓤
          Had w r z' zs' = guard 𝓤 (Fact w r z' zs') (mean 𝓛 (Back z' zs'))

          gives-on : (w : Val) → ent 𝓤 (On.post to-on w) (H.⇛ (ex 𝓤 (λ (r : Q.Denot). ex 𝓤 (λ (z' : Z.Denot). ex 𝓤 (Had w r z')))))
          gives-on w =
              qed 𝓛 (raw (On.post to-on w) ∷ []) ∵ updating ! $
              use1 𝓛 (later (some (λ (r : Q.Denot). ((‵ (flft (α ∷ []) full_share) ⊛ (‵ (flft κ₀ q₀) ⊛ (‵ (flft (β ∷ []) full_share) ⊛ ‵ ftrue))) ⊛ ‵ (Q.own_val r (w ∷ []))) ⊛ some (λ (ws : Lasts on-ended κs to-on.0.3). ‵ (lasts on-ended κs to-on.0.3 ws) ⊛ raw (fact 𝓤 (Went z xs n zs c r ws.0 ws.1.1.1.0)))))) (id⊢ 𝓤 _) $ await ! tt $ pick ! (λ r.
              split ! $ move ! (1 ∷ []) $ pick ! (λ ws. split ! $ move ! (1 ∷ []) $ heard ! (Went z xs n zs c r ws.0 ws.1.1.1.0) (λ went.
              -- the last values: the value's, with its borrow; nothing of inp and of n; out's, with the count and its borrow
              fsplit ! $ fsplit ! $ move ! (2 ∷ []) $ fsplit ! $ drop ! $ fsplit ! $ drop ! $ fsplit ! $ fsplit ! $ fsplit ! $ move ! (1 ∷ []) $ feq_l ! (λ count.
              -- [out's; its borrow; the rest; the value's; its borrow; the tokens and the result]
              move ! (5 ∷ []) $ split ! $ move ! (1 ∷ []) $ peeks ! Q (Is Q) (shows 𝓛 Q) r (w ∷ []) (λ is. drop ! $ split ! $ move ! (1 ∷ []) $ split ! $ move ! (1 ∷ []) $ split ! $
              -- [β; true; κ₀; α; out's; its borrow; the rest; the value's; its borrow]
              at_once ! $ show ! (λ (r' : Q.Denot). ex 𝓤 (λ (z' : Z.Denot). ex 𝓤 (Had w r' z'))) r $ show ! (λ (z' : Z.Denot). ex 𝓤 (Had w r z')) ws.0 $ show ! (Had w r ws.0) ws.1.1.1.0 $ check ! (is, count, went) $
              keep ! (3 ∷ 2 ∷ 0 ∷ 7 ∷ 4 ∷ []) $ join ! $ join ! $ join ! $ join ! $ done !)))))

        -- ---- the exit
        abbrev Kept : Bytes → List (Item 𝓤)
        Kept zs = ‵ (flft κ₀ q₀) ∷ ‵ Inp ∷ ‵ (flft κ₁ q₁) ∷ ‵ (OutAt κ₁ γo zs) ∷ []

        exits : (z : Z.Denot) (c : Q.Denot) (zs : Bytes) → IsZ z → IsQ c → length zs ≡ length ys → Promised z₀ xs n (made z c) zs → ent 𝓤 (⋆ 𝓛 (Kept zs)) (Post (taken_val z c))
        exits z c zs p q e said =
            qed 𝓛 (Kept zs) ∵ suffices ! _ (ends_at 𝓛 ended stayed clauses bound (taken_val z c) (made z c) (tt, (tt, (tt, (zs, tt)))) (tt, (tt, (tt, (e, tt))))) $ says ! said $
            nothing ! $ move ! (3 ∷ 0 ∷ []) $ join ! $ move ! (1 ∷ 0 ∷ []) $ join ! $ frame ! $
            -- [inp; out]
            nothing ! $ move ! (2 ∷ 0 ∷ []) $ fjoin ! $ owned ! usize (Is usize) (uint_Makes 𝓛 w64) n _ n-is $ fjoin ! $ move ! (1 ∷ 0 ∷ []) $ fjoin ! $ owned ! (still Z) (Is (still Z)) Zk.makes z₀ _ z-is $ fjoin ! $
            owned ! R (Is R) Rk.makes (made z c) _ (Rk.is z c p q) $ move ! (1 ∷ 0 ∷ []) $ done !

        module _ (#begin #on : Name) (𝓣 : Tables 𝓤 H) (begins : Triple 𝓤 (𝓣.C #begin) Begin) (ons : Triple 𝓤 (𝓣.C #on) On) where
          module _ (l0 l1 l2 l3 l4 l5 l6 l7 l8 l9 l10 l11 : ℕ) where
            abbrev ls : List ℕ
            ls = l0 ∷ l1 ∷ l2 ∷ l3 ∷ l4 ∷ l5 ∷ l6 ∷ l7 ∷ l8 ∷ l9 ∷ l10 ∷ l11 ∷ []

            abbrev En : Env 𝓤 H
            En = env-of 𝓤 H locals ls

            -- the invariant: the locals, the last first, and what is had of the parameters
            abbrev At : Turn → List (Item 𝓤)
            At y = locals-at 𝓤 locals ls (none ∷ just (Z.val z₀) ∷ just vi ∷ just (vint w64 n) ∷ just vo ∷ just (Z.val y.0) ∷ just (cur_val y.1) ∷ none ∷ none ∷ none ∷ none ∷ none ∷ []) (Kept y.2)

            abbrev Turned : Turn → Out → SProp 𝓤
            Turned y = after_turn 𝓤 H (Below 𝓛 Nearer At y) (after_block 𝓤 H (after_seq 𝓤 H (Wp 𝓤 H 𝓣.C 𝓣.Λ En leave (at_return 𝓤 H En Post)) (at_return 𝓤 H En Post)))

            turns : (y : Turn) → Sq 𝓛 (At y) (runs 𝓣.C 𝓣.Λ En (turn #on) (any_q (Turned y)))
            unfolding after_turn
            turns y =
                assigns ! (of_opd ! (load ! (from ! (fld ! refl (stop !))) (look_in ! 10 (sub ! 4 refl (whole !))))) (from ! (stop !)) (init ! 8 refl (tt, tt)) $
                first ! $ branches ! (load ! (from ! (stop !)) (look ! 8 refl))
                (λ more-is. skips ! $ exec ! 𝓣.C 𝓣.Λ En (lend #on) (any_q (Turned y)) $
                assigns ! (addr ! (from ! (stop !))) (from ! (stop !)) (init ! 6 refl (tt, tt)) $
                assigns ! (addr ! (from ! (fld ! refl (hop ! (look_in ! 14 (sub ! 0 refl (whole !))) (stop !))))) (from ! (stop !)) (init ! 4 refl (tt, tt)) $
                assigns ! (agg ! (and_then ! (load ! (from ! (stop !)) (look ! 4 refl)) (and_then ! (load ! (from ! (fld ! refl (stop !))) (look_in ! 14 (sub ! 1 refl (whole !)))) (no_more !)))) (from ! (stop !)) (init ! 2 refl (tt, (tt, (record { fits = out-is.0.1.0 }, tt)))) $
                -- the value is lent for α: [the token β; the token α; the locals from 2; what is had of the parameters from 26]
                lft_new ! tt (λ α. lft_new ! tt (λ β. move ! (14 ∷ []) $
                use1 𝓛 (later (some (λ (δ : GName). ‵ (lent_ref Z l5 (named 0) (α ∷ []) δ y.0) ⊛ ‵ (lenders Z l5 (α ∷ []) δ)))) (lends_local Z l5 𝓛 Zk (named 0) (α ∷ []) y.0 y.3) $ await ! tt $ pick ! (λ δ. split ! $
                -- `out` is lent again for β
                move ! (30 ∷ 29 ∷ []) $
                use2 𝓛 (later (some (λ (ε : GName). ‵ (OutAt (β ∷ []) ε y.2) ⊛ ‵ (LentAgain u8 κ₁ (β ∷ []) q₁ γo bo oo ε y.2)))) (lends-again-at u8 κ₁ (β ∷ []) q₁ γo bo oo (length ys) 𝓛 (named 1) (named 1) y.2 y.5) $ await ! tt $ pick ! (λ ε. split ! $
                -- `inp` is copied, and what the callee asks is put together
                move ! (30 ∷ []) $ use1 𝓛 (‵ Inp ⊛ ‵ Inp) ((shr_slice_copy 𝓛 (named 0) κ₀ u8 (uint_row_laws w8)).twice (shared bi oi xs) (vi ∷ [])) $ split ! $
                move ! (7 ∷ 31 ∷ 6 ∷ 4 ∷ 0 ∷ 2 ∷ []) $ group ! 6 $ use1 𝓛 (raw (On.pre (to-on l5 α β δ ε y.0 y.1 y.2 y.4 (frees z₀ xs n y.0 y.1 y.2 y.6 more-is)))) (goes_on l5 α β δ ε y.0 y.1 y.2 y.4 (frees z₀ xs n y.0 y.1 y.2 y.6 more-is)) $
                -- [what the callee asks; inp; the holder's part of out; the lender's part; the locals from 4, with the value's cell away]
                calls_at_last ! (fm_of 𝓤 H 𝓛.laws 𝓣) On ons (to-on l5 α β δ ε y.0 y.1 y.2 y.4 (frees z₀ xs n y.0 y.1 y.2 y.6 more-is)) (and_then ! (load ! (from ! (stop !)) (look ! 10 refl)) (and_then ! (load ! (from ! (stop !)) (look ! 21 refl)) (and_then ! (load ! (from ! (stop !)) (look ! 19 refl)) (and_then ! (load ! (from ! (stop !)) (look ! 6 refl)) (and_then ! (load ! (from ! (stop !)) (look ! 14 refl)) (no_more !)))))) (λ w.
                use1 𝓛 (later (some (λ (c : Q.Denot). some (λ (z' : Z.Denot). some (λ (zs : Bytes). given (Fact l5 α β δ ε y.0 y.1 y.2 y.4 (frees z₀ xs n y.0 y.1 y.2 y.6 more-is) w c z' zs) (Back l5 α β δ ε y.0 y.1 y.2 y.4 (frees z₀ xs n y.0 y.1 y.2 y.6 more-is) z' zs)))))) (gives-on l5 α β δ ε y.0 y.1 y.2 y.4 (frees z₀ xs n y.0 y.1 y.2 y.6 more-is) w) $ await ! tt $ pick ! (λ c. pick ! (λ z'. pick ! (λ zs. learn ! (λ f. split ! $ split ! $ split ! $ split ! $
                -- α is ended, and the value comes back
                lft_end ! tt $ move ! (0 ∷ 7 ∷ 3 ∷ []) $ use3 𝓛 (later (given (IsZ z') (‵ (cell Z l5 z')))) (local_back Z l5 𝓛 Zk (α ∷ []) δ z') $ await ! tt $ learn ! (λ z'-is.
                -- β is ended, and `out` comes back
                move ! (2 ∷ []) $ lft_end ! tt $ move ! (0 ∷ 5 ∷ 3 ∷ []) $ use3 𝓛 (later (‵ (OutAt κ₁ γo zs) ⊛ ‵ (flft κ₁ q₁))) (comes-back-at u8 κ₁ (β ∷ []) q₁ γo bo oo (length ys) 𝓛 (named 1) (named 1) y.2 y.5 out-is.0.1 ε zs f.1) $ await ! tt $ split ! $
                -- [out; its token; the value's cell; inp's token; inp; the locals from 5]
                move ! (5 ∷ 6 ∷ 7 ∷ 8 ∷ 9 ∷ 10 ∷ 11 ∷ 12 ∷ 13 ∷ 14 ∷ 15 ∷ 16 ∷ 2 ∷ 17 ∷ 18 ∷ 19 ∷ 20 ∷ 21 ∷ 22 ∷ 23 ∷ 24 ∷ 25 ∷ 26 ∷ 27 ∷ 3 ∷ 4 ∷ 1 ∷ []) $
                land_last ! (from ! (stop !)) (store ! 10 refl (Qk.fits c w f.0)) $
                rewrite ! 10 (λ (us : List Val). ‵ (fat full_share (cursor_ty ν) l6 0 (only us))) (Qk.tells c w f.0) refl $
                forget ! 2 refl $ forget ! 4 refl $ forget ! 6 refl $ forget ! 8 refl $
                again ! Nearer At y (z', c, zs, z'-is, subst (Is Q c) (Qk.tells c w f.0) f.0, f.1 ∙ y.5, keeps z₀ xs n y.0 z' y.2 zs y.1 c y.6 more-is f.2) (falls-to (more y.1) (more c) (left y.1) (left c) (falls y.0 z' xs n y.2 zs y.1 c f.2) more-is))))))))))))
                (λ over. jumps ! $ exec ! 𝓣.C 𝓣.Λ En leave (at_ret En Post) $
                assigns ! (of_opd ! (load ! (from ! (stop !)) (look ! 12 refl))) (from ! (stop !)) (init ! 0 refl (Zk.fits y.0 _ y.3)) $
                assigns ! (agg ! (and_then ! (load ! (from ! (stop !)) (look ! 0 refl)) (and_then ! (load ! (from ! (stop !)) (look ! 10 refl)) (no_more !)))) (from ! (stop !)) (init ! 22 refl (Rk.fits (made y.0 y.1) _ (Rk.is y.0 y.1 y.3 y.4))) $
                returns ! (look ! 22 refl) $ move ! (24 ∷ 25 ∷ 26 ∷ 27 ∷ []) $ frees-behind 𝓛 4 (has (bare (bare (bare (has (has (has (has (has (has (has (has none_left)))))))))))) refl $
                by ! (exits y.0 y.1 y.2 y.3 y.4 y.5 (ends_with z₀ xs n y.0 y.1 y.2 y.6 over)))

          walk : ent 𝓤 (on_entry 𝓛 ended.signature (κ₀, (κ₁, tt)) (q₀, (q₁, tt)) x at) (WpFn 𝓤 H 𝓣.C 𝓣.Λ (code #begin #on) (Z.val z₀ ∷ vi ∷ vint w64 n ∷ vo ∷ []) Post)
          walk =
              qed 𝓛 ((‵ (flft κ₀ q₀) ⊛ (‵ (flft κ₁ q₁) ⊛ ‵ ftrue)) ∷ ‵ (owns (still Z ∷ ShrSlice (named 0) κ₀ u8 ∷ usize ∷ MutSlice (named 1) κ₁ u8 ∷ []) x at) ∷ []) ∵ enter ! 𝓣.C 𝓣.Λ (code #begin #on) (Z.val z₀ ∷ vi ∷ vint w64 n ∷ vo ∷ []) _ $
              alloc1 ! (λ l0. alloc1 ! (λ l1. alloc1 ! (λ l2. alloc1 ! (λ l3. alloc1 ! (λ l4. alloc1 ! (λ l5. alloc1 ! (λ l6. alloc1 ! (λ l7. alloc1 ! (λ l8. alloc1 ! (λ l9. alloc1 ! (λ l10. alloc1 ! (λ l11. alloc0 ! $ params1 ! $
              pass1 ! (init ! 20 refl (Zk.fits z₀ _ z-is)) $ pass1 ! (init ! 18 refl ((shr_slice_Lawful 𝓛 (named 0) κ₀ u8).typed (shared bi oi xs) (vi ∷ []) inp-is).0) $ pass1 ! (init ! 16 refl ((uint_Lawful 𝓛 w64).typed n _ n-is).0) $
              pass1 ! (init ! 14 refl ((mut_slice_Lawful 𝓛 (named 1) κ₁ u8).typed (ref bo oo γo ys) (vo ∷ []) out-is).0) $ pass0 ! $
              -- what is had of the parameters is taken apart
              move ! (25 ∷ []) $ fsplit ! $ drop ! $ fsplit ! $ move ! (1 ∷ []) $ fsplit ! $ drop ! $ fsplit ! $ move ! (27 ∷ []) $ split ! $ move ! (1 ∷ []) $ split ! $
              -- [out's token; true; inp's token; out; true; inp; the locals]
              keep ! (6 ∷ 7 ∷ 8 ∷ 9 ∷ 10 ∷ 11 ∷ 12 ∷ 13 ∷ 14 ∷ 15 ∷ 16 ∷ 17 ∷ 18 ∷ 19 ∷ 20 ∷ 21 ∷ 22 ∷ 23 ∷ 24 ∷ 25 ∷ 26 ∷ 27 ∷ 28 ∷ 29 ∷ 2 ∷ 5 ∷ 0 ∷ 3 ∷ []) $
              assigns ! (of_opd ! (load ! (from ! (stop !)) (look ! 20 refl))) (from ! (stop !)) (init ! 12 refl (Zk.fits z₀ _ z-is)) $
              -- the first cursor
              move ! (25 ∷ []) $ use1 𝓛 (‵ Inp ⊛ ‵ Inp) ((shr_slice_copy 𝓛 (named 0) κ₀ u8 (uint_row_laws w8)).twice (shared bi oi xs) (vi ∷ [])) $ split ! $ move ! (26 ∷ 0 ∷ []) $ use2 𝓛 (raw (Begin.pre to-begin)) goes-begin $
              -- [what the callee asks; inp; the locals from 2; out's token; out]
              calls_at ! (fm_of 𝓤 H 𝓛.laws 𝓣) Begin begins to-begin (and_then ! (load ! (from ! (stop !)) (look ! 20 refl)) (and_then ! (load ! (from ! (stop !)) (look ! 18 refl)) (no_more !))) (λ w.
              use1 𝓛 (later (some (λ (c : Q.Denot). given (Is Q c (w ∷ []) × Begun xs n c) (‵ (flft κ₀ q₀))))) (gives-begin w) $ await ! tt $ pick ! (λ c. learn ! (λ b.
              land ! (from ! (stop !)) (init ! 12 refl (Qk.fits c w b.0)) $
              rewrite ! 12 (λ (us : List Val). ‵ (fat full_share (cursor_ty ν) l6 0 (only us))) (Qk.tells c w b.0) refl $
              move ! (2 ∷ 3 ∷ 4 ∷ 5 ∷ 6 ∷ 7 ∷ 8 ∷ 9 ∷ 10 ∷ 11 ∷ 12 ∷ 13 ∷ 14 ∷ 15 ∷ 16 ∷ 17 ∷ 18 ∷ 19 ∷ 20 ∷ 21 ∷ 22 ∷ 23 ∷ 24 ∷ 25 ∷ []) $
              first ! $ blocks ! $ loops ! 𝓣 Nearer Nearer-wf (At l0 l1 l2 l3 l4 l5 l6 l7 l8 l9 l10 l11) (turns l0 l1 l2 l3 l4 l5 l6 l7 l8 l9 l10 l11) (z₀, c, ys, z-is, subst (Is Q c) (Qk.tells c w b.0) b.0, refl, begins-with z₀ xs n ys c pre b.1))))))))))))))))

      goes : AllGo 𝓛 2 ended.signature.params ended.kept stayed
      goes = (Goes-none 𝓛 2 (λ _. still Z) yes (λ κs x f. refl), (Goes-none_slice 𝓛 2 (0 ∷ []) tt (plain (λ _. u8)) yes, (Goes-none 𝓛 2 (λ _. usize) yes (λ κs x f. refl), (Goes-slice 𝓛 2 1 tt (plain (λ _. u8)), tt))))

      pub meets : (#begin #on : Name) (𝓣 : Tables 𝓤 H) → Triple 𝓤 (𝓣.C #begin) Begin → Triple 𝓤 (𝓣.C #on) On → Meets 𝓛 ended.signature (WpFn 𝓤 H 𝓣.C 𝓣.Λ (code #begin #on)) (closing 𝓛 ended clauses)
      meets #begin #on 𝓣 begins ons =
          walk_Meets 𝓛 ended stayed goes clauses (WpFn 𝓤 H 𝓣.C 𝓣.Λ (code #begin #on)) (WpFn-mono 𝓤 H 𝓛.laws 𝓣 (code #begin #on))
          (walked 𝓛 ended stayed clauses (WpFn 𝓤 H 𝓣.C 𝓣.Λ (code #begin #on))
          (λ κs. ((λ z. Z.val z ∷ []), (shr_slice_vals, (uint_vals w64, (mut_slice_vals, tt))))) (λ κs. (Zk.tells, (shr_slice_Tells (named 0) κs.0 u8, (uint_Tells w64, (mut_slice_Tells (named 1) κs.1.0 u8, tt)))))
          (λ κs qs bounds a _ are. needs 𝓤 (Pre a.1.0.now a.1.1.0 a.1.1.1.0.now) _ (λ pre. walk κs.0 κs.1.0 qs.0 qs.1.0 a.0 a.1.0.ref_ptr.0 a.1.0.ref_ptr.1 a.1.0.now a.1.1.0 a.1.1.1.0.ref_ptr.0 a.1.1.1.0.ref_ptr.1 a.1.1.1.0.ghost_name a.1.1.1.0.now
          are.0 are.1.0 are.1.1.0 are.1.1.1.0 pre #begin #on 𝓣 begins ons)))
