-- A loop that lends one local to a call in each turn is right because the local comes back at each turn's end as the call left it, and both go on together until nothing is left. Of its types only this is known: each has one machine value, and its relation tells it.
use mathlib.Core.Path.{refl, subst}
use Prim.Native.Nat.{ℕ, ◌<◌}
use mathlib.Core.WellFounded.InvImage
use mathlib.Core.WellFounded.{WellFounded}
use mathlib.Core.List.{[], ◌∷◌, List}
use mathlib.Core.Option.{none, some as just}
use mathlib.Core.Bool.{Bool, true, false, not}
use lib.Dec.{T, ltb, ltb→lt, lt→ltb}
use lib.WfN.{lt-wf_rel}
use seplogic.Ra.Ura.{Ura}
use base.Fraction.{full_share}
use mir.Syntax.{Callee as Name, ty_ref, ty_bool, ty_int, mut, named, erased, w64, Fn, Body, Local, local, value_local, memory_slot, place, Step as PStep, copy, int, rv_opd, op2, lt, unsigned, addr_of, seq, assign, call, block, loop, cond, skip, exit, return}
use mir.Val.{Val, vunit, vbool, vint, vfloat, vptr, vcode, vstruct}
use mir.Fields.{set_v}
use base.Logic.{SProp, ent, sep, ex, guard, emp, via, fst∗, id⊢}
use base.Fml.{GName, Share, Fml, ftrue, fat, flft, fres}
use prog.Wp.{Out, Env, after_seq, after_block, after_turn, Calls, Loops, Wp, at_return, WpFn, Tables}
use types.Logic.{Logic, sem}
use contract.Lifetimes.{Lfts}
use contract.Monad.{fact}
use types.Kit.{Go, Item, ‵, raw, ◌⊛◌, some, given, later, runs, any_q, at_ret, Sq, ◌$◌, ◌∵◌, !, qed, by, move, keep, drop, use0, use1, use2, use3, split, join, pick, learn, rewrite, fsplit, fjoin, suffices, frame, await, updating, now as at_once, show, check, done}
use types.Tokens.{lft_new, lft_end}
use types.Run.{look, init, store, forget, stop, from, load, lit, and_then, no_more, land, land_last, of_opd, bin, addr, assigns, first, skips, jumps, blocks, branches, returns, enter, alloc1, alloc0, params1, pass1, pass0, exec, Below, again, loops, Walks as Ways}
use types.Part.{Part, look_in}
use sound.WpLaws.{FmC, fm_of, WpFn-mono}
use denote.Laws.{Is, shows}
use denote.Memory.{pointee}
use denote.Ref.{MutBor}
use denote.Signature.{Signature, plain, mut_ref_to}
use denote.Steps.{only, owned, peeks, heard, nothing}
use denote.Triple.Statement.{Contract, Triple}
use denote.Triple.Call.{calls_at, calls_at_last}
use denote.Triple.Entry.{on_entry}
use denote.Triple.Spec.{Spec, Meets, triple_of}
use denote.Triple.Clauses.{Ended, Clauses, closing, Lasts, lasts, at_exit}
use denote.Triple.Walked.{Stays, stay_none, walk_of, AllGo, Goes-none, ends_at, walked, walk_Meets}
use denote.Exit.{yes}
use Rattle.walks.proofs.ThinWalk.{Held, row, still, Known, beside}
use Rattle.walks.proofs.Frees.{has, bare, none as none_left, frees-behind}
use Rattle.walks.proofs.Local.{env-of, locals-at, no-more-said, cell, lent_ref, lenders, lends_local, local_back}

-- ---- the loop

not-both : (y : Bool) → T (not y) → T y → ⊥
not-both true n t = absurd n
not-both false n t = absurd t

none_more : (n : ℕ) → T (not (ltb 0 n)) → 0 < n → ⊥
none_more n t l = not-both (ltb 0 n) t (lt→ltb 0 n l)

-- a struct's value with another first field
abbrev pub with_first : Val → Val → Val
with_first vunit u = vunit
with_first (vbool y) u = vunit
with_first (vint w n) u = vunit
with_first (vfloat f y) u = vunit
with_first (vptr b o) u = vunit
with_first (vcode t) u = vunit
with_first (vstruct vs) u = vstruct (set_v vs 0 u)

-- a part of a local that is a number: how it is reached and read
pub record Counts {M : Type 1} {𝓤 : Ura M} (𝓛 : Logic 𝓤) (D : Held) (path : List PStep) (left : D.Denot → ℕ) : Type 2 where
  pub off : ℕ → ℕ
  pub upd : D.Denot → Val → Val
  pub way : {Γ : List (Item 𝓤)} {E : Env 𝓤 𝓛.H} (b o : ℕ) → Ways (Go {0}) 𝓛 Γ E (D.ty, b, o) path (ty_int w64, b, off o)
  pub part : (q : Share) (b o : ℕ) (d : D.Denot) → Part {𝓤 = 𝓤} (Go {0}) 𝓛 (‵ (fat q D.ty b o (D.val d))) q (ty_int w64) b (off o) (vint w64 (left d)) (λ u. ‵ (fat q D.ty b o (upd d u)))

-- Z is lent, P asked, O replied, D carried
module _ (Z P O D : Held) (left-path : List PStep) (left : D.Denot → ℕ) where
  abbrev pub ended : Ended
  ended = record {
    signature = record { lifetimes = 0; outlives = []; params = plain (λ _. still Z) ∷ plain (λ _. still D) ∷ []; result = plain (λ _. row D) };
    kept = (yes, (yes, tt));
  }

  abbrev stayed : Stays ended.signature.params ended.kept
  stayed = (stay_none (λ _. still Z) yes, (stay_none (λ _. still D) yes, tt))

  abbrev locals : List Local
  locals =
      local D.ty value_local
      ∷ local Z.ty value_local
      ∷ local D.ty value_local
      ∷ local Z.ty memory_slot
      ∷ local D.ty value_local
      ∷ local P.ty value_local
      ∷ local O.ty value_local
      ∷ local ty_bool value_local
      ∷ local (ty_ref erased mut (pointee Z.written)) value_local
      ∷ []

  -- one frame more
  abbrev beat-on : Name → Name → Name → Body
  beat-on #asked #call #next =
      seq (call #asked (copy (place 4 []) ∷ []) (place 5 []))
      (seq (assign (place 8 []) (addr_of (place 3 [])))
      (seq (call #call (copy (place 8 []) ∷ copy (place 5 []) ∷ []) (place 6 []))
      (call #next (copy (place 4 []) ∷ copy (place 6 []) ∷ []) (place 4 []))))

  abbrev turn : Name → Name → Name → Body
  turn #asked #call #next =
      seq (assign (place 7 []) (op2 (lt unsigned) (int w64 0) (copy (place 4 left-path))))
      (seq (cond (copy (place 7 [])) skip (exit 1)) (beat-on #asked #call #next))

  abbrev rest : Body
  rest = seq (assign (place 0 []) (rv_opd (copy (place 4 [])))) return

  abbrev pub code : Name → Name → Name → Fn
  code #asked #call #next = record {
    lifetimes = 0;
    outlives = [];
    ty_params = [];
    givens = 0;
    params = 2;
    locals = locals;
    body = seq (assign (place 3 []) (rv_opd (copy (place 1 [])))) (seq (assign (place 4 []) (rv_opd (copy (place 2 [])))) (seq (block (loop (turn #asked #call #next))) rest));
  }

  -- the callees' signatures
  abbrev asked-signature : Signature
  asked-signature = record { lifetimes = 0; outlives = []; params = plain (λ _. still D) ∷ []; result = plain (λ _. row P) }

  abbrev call-ended : Ended
  call-ended = record {
    signature = record { lifetimes = 1; outlives = []; params = mut_ref_to (0 ∷ []) tt (plain (λ _. row Z)) ∷ plain (λ _. still P) ∷ []; result = plain (λ _. row O) };
    kept = (yes, (yes, tt));
  }

  abbrev next-signature : Signature
  next-signature = record { lifetimes = 0; outlives = []; params = plain (λ _. still D) ∷ plain (λ _. still O) ∷ []; result = plain (λ _. row D) }

  module _ {M : Type 1} {𝓤 : Ura M} (𝓛 : Logic 𝓤) (promised : Z.Denot → D.Denot → D.Denot → SProp 𝓤) (asked-ensures : D.Denot → P.Denot → SProp 𝓤)
      (call-promised : Lfts 1 → MutBor Z.Denot → P.Denot → O.Denot → MutBor Z.Denot → SProp 𝓤) (next-ensures : D.Denot → O.Denot → D.Denot → SProp 𝓤) where
    open 𝓛 use {H, A}

    abbrev pub clauses : Clauses 𝓤 ended
    clauses κs a = record { ghost = Unit {0}; requires = λ _. emp 𝓤; ensures = λ _ r end. promised a.0 a.1.0 r }

    abbrev asked-spec : Spec 𝓤 asked-signature
    asked-spec κs a = record { ghost = Unit {0}; requires = λ _. emp 𝓤; ensures = λ _ r. asked-ensures a.0 r }

    abbrev Asked : Contract 𝓤
    Asked = triple_of 𝓛 asked-signature asked-spec

    abbrev call-clauses : Clauses 𝓤 call-ended
    call-clauses κs a = record { ghost = Unit {0}; requires = λ _. emp 𝓤; ensures = λ _ r end. call-promised κs a.0 a.1.0 r end.0 }

    abbrev Called : Contract 𝓤
    Called = triple_of 𝓛 call-ended.signature (closing 𝓛 call-ended call-clauses)

    abbrev next-spec : Spec 𝓤 next-signature
    next-spec κs a = record { ghost = Unit {0}; requires = λ _. emp 𝓤; ensures = λ _ r. next-ensures a.0 a.1.0 r }

    abbrev Next : Contract 𝓤
    Next = triple_of 𝓛 next-signature next-spec

    -- what is known of the callees, and of what is lent and carried from the beginning on
    module _ (Zk : Known 𝓛 Z) (Pk : Known 𝓛 P) (Ok : Known 𝓛 O) (Dk : Known 𝓛 D) (count : Counts 𝓛 D left-path left)
        (AskedIs : D.Denot → P.Denot → Type 0) (CalledIs : Z.Denot → P.Denot → O.Denot → Z.Denot → Type 0) (NextIs : D.Denot → O.Denot → D.Denot → Type 0)
        (Onward : Z.Denot → D.Denot → Z.Denot → D.Denot → Type 0)
        (asked-said : (b : D.Denot) (p : P.Denot) → ent 𝓤 (asked-ensures b p) (fact 𝓤 (AskedIs b p)))
        (call-said : (κs : Lfts 1) (m : MutBor Z.Denot) (p : P.Denot) (o : O.Denot) (end : MutBor Z.Denot) → ent 𝓤 (call-promised κs m p o end) (fact 𝓤 (CalledIs m.now p o end.now)))
        (next-said : (b : D.Denot) (o : O.Denot) (r : D.Denot) → ent 𝓤 (next-ensures b o r) (fact 𝓤 (NextIs b o r)))
        (stands : (z : Z.Denot) (b : D.Denot) → Onward z b z b)
        (falls : (z s s' : Z.Denot) (b d r : D.Denot) (p : P.Denot) (o : O.Denot) → Onward z b s d → AskedIs d p → CalledIs s p o s' → NextIs d o r → 0 < left d → (left r < left d) × Onward z b s' r)
        (holds : (z s : Z.Denot) (b r : D.Denot) → Onward z b s r → (0 < left r → ⊥) → ent 𝓤 (emp 𝓤) (promised z b r)) where
      abbrev IsZ : Z.Denot → Type 0
      IsZ z = Is (row Z) z (Z.val z ∷ [])

      abbrev IsD : D.Denot → Type 0
      IsD d = Is (row D) d (D.val d ∷ [])

      module _ (z : Z.Denot) (b : D.Denot) (z-is : IsZ z) (b-is : IsD b) where
        -- what a turn begins with, and the order by which the loop ends
        abbrev Turn : Type 0
        Turn = (s : Z.Denot) × (d : D.Denot) × IsZ s × IsD d × Onward z b s d

        abbrev Nearer : Turn → Turn → Type 0
        Nearer y x = left y.1 < left x.1

        Nearer-wf : WellFounded Nearer
        Nearer-wf = InvImage.wf (λ (x : Turn). left x.1) lt-wf_rel.wf

        abbrev x : Z.Denot × (D.Denot × Unit {0})
        x = (z, (b, tt))

        abbrev at : List Val × (List Val × Unit {0})
        at = (Z.val z ∷ [], (D.val b ∷ [], tt))

        abbrev bound : (walk_of 𝓛 ended stayed clauses).Ghost
        bound = ((tt, tt, tt, x, at), tt)

        abbrev Post : Val → SProp 𝓤
        Post = (walk_of 𝓛 ended stayed clauses).post bound

        -- ---- what is asked
        module _ (d : D.Denot) (d-is : IsD d) where
          abbrev to-asked : Asked.Ghost
          to-asked = ((tt, tt, tt, (d, tt), (D.val d ∷ [], tt)), tt)

          goes-asked : ent 𝓤 (emp 𝓤) (Asked.pre to-asked)
          goes-asked = qed 𝓛 [] ∵ no-more-said ! $ nothing ! $ owned ! (still D) (Is (still D)) Dk.makes d _ d-is $ fjoin ! $ nothing ! $ done !

          abbrev Had-asked : Val → P.Denot → SProp 𝓤
          Had-asked v p = guard 𝓤 (Is (row P) p (v ∷ []) × AskedIs d p) (emp 𝓤)

          gives-asked : (v : Val) → ent 𝓤 (Asked.post to-asked v) (H.⇛ (ex 𝓤 (Had-asked v)))
          gives-asked v =
              qed 𝓛 (raw (Asked.post to-asked v) ∷ []) ∵ updating ! $
              use1 𝓛 (later (some (λ (p : P.Denot). (‵ ftrue ⊛ ‵ (P.own_val p (v ∷ []))) ⊛ raw (asked-ensures d p)))) (id⊢ 𝓤 _) $ await ! tt $ pick ! (λ p.
              split ! $ move ! (1 ∷ []) $ use1 𝓛 (raw (fact 𝓤 (AskedIs d p))) (asked-said d p) $ heard ! (AskedIs d p) (λ told.
              split ! $ move ! (1 ∷ []) $ peeks ! (row P) (Is (row P)) (shows 𝓛 (row P)) p (v ∷ []) (λ is.
              at_once ! $ show ! (Had-asked v) p $ check ! (is, told) $ keep ! [] $ done !)))

        -- ---- the call that Z is lent to, for the lifetime α under the name δ
        module _ (l3 : ℕ) (α : ℕ) (δ : GName) (s : Z.Denot) (p : P.Denot) (v : Val) (p-is : Is (still P) p (v ∷ [])) where
          abbrev to-call : Called.Ghost
          to-call = (((α ∷ [], tt), (full_share, tt), tt, (record { ref_ptr = (l3, 0); ghost_name = δ; now = s }, (p, tt)), (vptr l3 0 ∷ [], (v ∷ [], tt))), tt)

          abbrev lent : Fml
          lent = lent_ref Z l3 (named 0) (α ∷ []) δ s

          goes-call : ent 𝓤 (sep 𝓤 (A.lft (α ∷ []) full_share) (sem 𝓛 lent)) (Called.pre to-call)
          goes-call =
              qed 𝓛 (‵ (flft (α ∷ []) full_share) ∷ ‵ lent ∷ []) ∵ no-more-said ! $ nothing ! $ move ! (1 ∷ 0 ∷ []) $ join ! $ frame ! $ nothing ! $
              owned ! (still P) (Is (still P)) Pk.makes p _ p-is $ fjoin ! $ move ! (1 ∷ 0 ∷ []) $ done !

          -- what the caller has of it: the token, and a last value
          abbrev Had-call : Val → O.Denot → Z.Denot → SProp 𝓤
          Had-call u r s' = guard 𝓤 (Is (row O) r (u ∷ []) × CalledIs s p r s') (sep 𝓤 (A.lft (α ∷ []) full_share) (A.res δ (Z.coded.code s')))

          abbrev Last : Type 0
          Last = Lasts call-ended to-call.0.0 to-call.0.3

          gives-call : (u : Val) → ent 𝓤 (Called.post to-call u) (H.⇛ (ex 𝓤 (λ (r : O.Denot). ex 𝓤 (Had-call u r))))
          gives-call u =
              qed 𝓛 (raw (Called.post to-call u) ∷ []) ∵ updating ! $
              use1 𝓛 (later (some (λ (r : O.Denot). ((‵ (flft (α ∷ []) full_share) ⊛ ‵ ftrue) ⊛ ‵ (O.own_val r (u ∷ []))) ⊛ some (λ (ws : Last). ‵ (lasts call-ended to-call.0.0 to-call.0.3 ws) ⊛ raw ((call-clauses to-call.0.0 to-call.0.3).ensures tt r (at_exit call-ended to-call.0.0 to-call.0.3 ws)))))) (id⊢ 𝓤 _) $ await ! tt $ pick ! (λ r.
              split ! $ move ! (1 ∷ []) $ pick ! (λ ws. split ! $
              move ! (1 ∷ []) $ use1 𝓛 (raw (fact 𝓤 (CalledIs s p r ws.0))) (call-said to-call.0.0 to-call.0.3.0 p r _) $ heard ! (CalledIs s p r ws.0) (λ told.
              fsplit ! $ move ! (2 ∷ []) $ split ! $ split ! $ move ! (2 ∷ []) $ peeks ! (row O) (Is (row O)) (shows 𝓛 (row O)) r (u ∷ []) (λ is.
              at_once ! $ show ! (λ (r' : O.Denot). ex 𝓤 (Had-call u r')) r $ show ! (Had-call u r) ws.0 $ check ! (is, told) $ keep ! (3 ∷ 1 ∷ []) $ fsplit ! $ keep ! (2 ∷ 0 ∷ []) $ done !))))

        -- ---- what is carried on
        module _ (d : D.Denot) (o : O.Denot) (u : Val) (d-is : IsD d) (o_is : Is (still O) o (u ∷ [])) where
          abbrev to-next : Next.Ghost
          to-next = ((tt, tt, tt, (d, (o, tt)), (D.val d ∷ [], (u ∷ [], tt))), tt)

          goes-next : ent 𝓤 (emp 𝓤) (Next.pre to-next)
          goes-next =
              qed 𝓛 [] ∵ no-more-said ! $ nothing ! $ owned ! (still O) (Is (still O)) Ok.makes o _ o_is $ fjoin ! $ owned ! (still D) (Is (still D)) Dk.makes d _ d-is $ fjoin ! $ nothing ! $ done !

          abbrev Had-next : Val → D.Denot → SProp 𝓤
          Had-next w r = guard 𝓤 (Is (row D) r (w ∷ []) × NextIs d o r) (emp 𝓤)

          gives-next : (w : Val) → ent 𝓤 (Next.post to-next w) (H.⇛ (ex 𝓤 (Had-next w)))
          gives-next w =
              qed 𝓛 (raw (Next.post to-next w) ∷ []) ∵ updating ! $
              use1 𝓛 (later (some (λ (r : D.Denot). (‵ ftrue ⊛ ‵ (D.own_val r (w ∷ []))) ⊛ raw (next-ensures d o r)))) (id⊢ 𝓤 _) $ await ! tt $ pick ! (λ r.
              split ! $ move ! (1 ∷ []) $ use1 𝓛 (raw (fact 𝓤 (NextIs d o r))) (next-said d o r) $ heard ! (NextIs d o r) (λ told.
              split ! $ move ! (1 ∷ []) $ peeks ! (row D) (Is (row D)) (shows 𝓛 (row D)) r (w ∷ []) (λ is.
              at_once ! $ show ! (Had-next w) r $ check ! (is, told) $ keep ! [] $ done !)))

        exits : (s : Z.Denot) (r : D.Denot) → IsD r → Onward z b s r → (0 < left r → ⊥) → ent 𝓤 (emp 𝓤) (Post (D.val r))
        exits s r r-is on over =
            qed 𝓛 [] ∵ suffices ! _ (ends_at 𝓛 ended stayed clauses bound (D.val r) r (tt, (tt, tt)) (tt, (tt, tt))) $
            beside ! (holds z s b r on over) $ owned ! (row D) (Is (row D)) Dk.makes r _ r-is $ nothing ! $
            owned ! (still D) (Is (still D)) Dk.makes b _ b-is $ fjoin ! $ owned ! (still Z) (Is (still Z)) Zk.makes z _ z-is $ fjoin ! $ nothing ! $ done !

        module _ (#asked #call #next : Name) (𝓣 : Tables 𝓤 H) (asks : Triple 𝓤 (𝓣.C #asked) Asked) (calls : Triple 𝓤 (𝓣.C #call) Called) (nexts : Triple 𝓤 (𝓣.C #next) Next) where
          abbrev C : Calls 𝓤 H
          C = 𝓣.C

          abbrev Λ : Loops 𝓤 H
          Λ = 𝓣.Λ

          abbrev fm : FmC 𝓤 H 𝓛.laws C
          fm = fm_of 𝓤 H 𝓛.laws 𝓣

          module _ (l0 l1 l2 l3 l4 l5 l6 l7 l8 : ℕ) where
            abbrev ls : List ℕ
            ls = l0 ∷ l1 ∷ l2 ∷ l3 ∷ l4 ∷ l5 ∷ l6 ∷ l7 ∷ l8 ∷ []

            abbrev En : Env 𝓤 H
            En = env-of 𝓤 H locals ls

            -- the invariant: the locals, the last first
            abbrev At : Turn → List (Item 𝓤)
            At y = locals-at 𝓤 locals ls (none ∷ just (Z.val z) ∷ just (D.val b) ∷ just (Z.val y.0) ∷ just (D.val y.1) ∷ none ∷ none ∷ none ∷ none ∷ []) []

            abbrev Turned : Turn → Out → SProp 𝓤
            Turned y = after_turn 𝓤 H (Below 𝓛 Nearer At y) (after_block 𝓤 H (after_seq 𝓤 H (Wp 𝓤 H C Λ En rest (at_return 𝓤 H En Post)) (at_return 𝓤 H En Post)))

            turns : (y : Turn) → Sq 𝓛 (At y) (runs C Λ En (turn #asked #call #next) (any_q (Turned y)))
            unfolding after_turn
            turns y =
                assigns ! (bin ! (lit ! tt) (load ! (from ! (count.way l4 0)) (look_in ! 8 (count.part full_share l4 0 y.1))) tt) (from ! (stop !)) (init ! 2 refl (tt, tt)) $
                first ! $ branches ! (load ! (from ! (stop !)) (look ! 2 refl))
                (λ more. skips ! $ exec ! C Λ En (beat-on #asked #call #next) (any_q (Turned y)) $
                use0 𝓛 (raw (Asked.pre (to-asked y.1 y.3))) (goes-asked y.1 y.3) $
                calls_at ! fm Asked asks (to-asked y.1 y.3) (and_then ! (load ! (from ! (stop !)) (look ! 9 refl)) (no_more !)) (λ v.
                use1 𝓛 (later (some (λ (p : P.Denot). given (Is (row P) p (v ∷ []) × AskedIs y.1 p) (‵ ftrue)))) (gives-asked y.1 y.3 v) $ await ! tt $ pick ! (λ p. learn ! (λ p-told. let p-is = p-told.0 in drop ! $
                land ! (from ! (stop !)) (init ! 6 refl (Pk.fits p v p-is)) $
                assigns ! (addr ! (from ! (stop !))) (from ! (stop !)) (init ! 0 refl (tt, tt)) $
                -- Z is lent: [the token; its cell; the other locals]
                lft_new ! tt (λ α. move ! (11 ∷ []) $
                use1 𝓛 (later (some (λ (δ : GName). ‵ (lent l3 α δ y.0 p v p-is) ⊛ ‵ (lenders Z l3 (α ∷ []) δ)))) (lends_local Z l3 𝓛 Zk (named 0) (α ∷ []) y.0 y.2) $ await ! tt $ pick ! (λ δ. split ! $
                move ! (2 ∷ 0 ∷ []) $ use2 𝓛 (raw (Called.pre (to-call l3 α δ y.0 p v p-is))) (goes-call l3 α δ y.0 p v p-is) $
                -- [what the callee asks; the lender's part; the locals from 2, with Z's cell away]
                calls_at ! fm Called calls (to-call l3 α δ y.0 p v p-is) (and_then ! (load ! (from ! (stop !)) (look ! 2 refl)) (and_then ! (load ! (from ! (stop !)) (look ! 8 refl)) (no_more !))) (λ u.
                use1 𝓛 (later (some (λ (r : O.Denot). some (λ (s' : Z.Denot). given (Is (row O) r (u ∷ []) × CalledIs y.0 p r s') (‵ (flft (α ∷ []) full_share) ⊛ ‵ (fres δ (Z.coded.code s'))))))) (gives-call l3 α δ y.0 p v p-is u) $ await ! tt $ pick ! (λ r. pick ! (λ s'. learn ! (λ r-told. let r-is = r-told.0 in split ! $
                land ! (from ! (stop !)) (init ! 7 refl (Ok.fits r u r-is)) $
                -- the lifetime is ended, and Z comes back
                lft_end ! tt $ move ! (0 ∷ 2 ∷ 1 ∷ []) $ use3 𝓛 (later (given (IsZ s') (‵ (cell Z l3 s')))) (local_back Z l3 𝓛 Zk (α ∷ []) δ s') $ await ! tt $ learn ! (λ s-is.
                move ! (1 ∷ 2 ∷ 3 ∷ 4 ∷ 5 ∷ 6 ∷ 7 ∷ 8 ∷ 9 ∷ 10 ∷ 0 ∷ []) $
                use0 𝓛 (raw (Next.pre (to-next y.1 r u y.3 r-is))) (goes-next y.1 r u y.3 r-is) $
                calls_at_last ! fm Next nexts (to-next y.1 r u y.3 r-is) (and_then ! (load ! (from ! (stop !)) (look ! 9 refl)) (and_then ! (load ! (from ! (stop !)) (look ! 5 refl)) (no_more !))) (λ w.
                use1 𝓛 (later (some (λ (d : D.Denot). given (Is (row D) d (w ∷ []) × NextIs y.1 r d) (‵ ftrue)))) (gives-next y.1 r u y.3 r-is w) $ await ! tt $ pick ! (λ d. learn ! (λ told. let is = told.0 in drop ! $
                land_last ! (from ! (stop !)) (store ! 8 refl (Dk.fits d w is)) $
                rewrite ! 8 (λ (us : List Val). ‵ (fat full_share D.ty l4 0 (only us))) (Dk.tells d (w ∷ []) is) refl $
                forget ! 0 refl $ forget ! 2 refl $ forget ! 4 refl $ forget ! 6 refl $
                let f = falls z y.0 s' b y.1 d p r y.4 p-told.1 r-told.1 told.1 (ltb→lt 0 (left y.1) more) in
                again ! Nearer At y (s', d, s-is, subst (Is (row D) d) (Dk.tells d (w ∷ []) is) is, f.1) f.0))))))))))))))
                (λ over. jumps ! $ exec ! C Λ En rest (at_ret En Post) $
                assigns ! (of_opd ! (load ! (from ! (stop !)) (look ! 8 refl))) (from ! (stop !)) (init ! 16 refl (Dk.fits y.1 _ y.3)) $
                returns ! (look ! 16 refl) $ frees-behind 𝓛 0 (bare (has (bare (bare (has (has (has (has (has none_left))))))))) refl $
                by ! (exits y.0 y.1 y.3 y.4 (none_more (left y.1) over)))

          walk : ent 𝓤 (on_entry 𝓛 ended.signature tt tt x at) (WpFn 𝓤 H C Λ (code #asked #call #next) (Z.val z ∷ D.val b ∷ []) Post)
          walk =
              qed 𝓛 (raw (on_entry 𝓛 ended.signature tt tt x at) ∷ []) ∵ enter ! C Λ (code #asked #call #next) (Z.val z ∷ D.val b ∷ []) _ $
              alloc1 ! (λ l0. alloc1 ! (λ l1. alloc1 ! (λ l2. alloc1 ! (λ l3. alloc1 ! (λ l4. alloc1 ! (λ l5. alloc1 ! (λ l6. alloc1 ! (λ l7. alloc1 ! (λ l8. alloc0 ! $ params1 ! $
              pass1 ! (init ! 14 refl (Zk.fits z _ z-is)) $ pass1 ! (init ! 12 refl (Dk.fits b _ b-is)) $ pass0 ! $
              assigns ! (of_opd ! (load ! (from ! (stop !)) (look ! 14 refl))) (from ! (stop !)) (init ! 10 refl (Zk.fits z _ z-is)) $
              assigns ! (of_opd ! (load ! (from ! (stop !)) (look ! 12 refl))) (from ! (stop !)) (init ! 8 refl (Dk.fits b _ b-is)) $
              keep ! (0 ∷ 1 ∷ 2 ∷ 3 ∷ 4 ∷ 5 ∷ 6 ∷ 7 ∷ 8 ∷ 9 ∷ 10 ∷ 11 ∷ 12 ∷ 13 ∷ 14 ∷ 15 ∷ 16 ∷ 17 ∷ []) $
              first ! $ blocks ! $ loops ! 𝓣 Nearer Nearer-wf (At l0 l1 l2 l3 l4 l5 l6 l7 l8) (turns l0 l1 l2 l3 l4 l5 l6 l7 l8) (z, b, z-is, b-is, stands z b))))))))))

      goes : AllGo 𝓛 0 ended.signature.params ended.kept stayed
      goes = (Goes-none 𝓛 0 (λ _. still Z) yes (λ κs x f. refl), (Goes-none 𝓛 0 (λ _. still D) yes (λ κs x f. refl), tt))

      pub meets : (#asked #call #next : Name) (𝓣 : Tables 𝓤 H) → Triple 𝓤 (𝓣.C #asked) Asked → Triple 𝓤 (𝓣.C #call) Called → Triple 𝓤 (𝓣.C #next) Next
          → Meets 𝓛 ended.signature (WpFn 𝓤 H 𝓣.C 𝓣.Λ (code #asked #call #next)) (closing 𝓛 ended clauses)
      meets #asked #call #next 𝓣 asks calls nexts =
          walk_Meets 𝓛 ended stayed goes clauses (WpFn 𝓤 H 𝓣.C 𝓣.Λ (code #asked #call #next)) (WpFn-mono 𝓤 H 𝓛.laws 𝓣 (code #asked #call #next))
          (walked 𝓛 ended stayed clauses (WpFn 𝓤 H 𝓣.C 𝓣.Λ (code #asked #call #next))
          (λ κs. ((λ y. Z.val y ∷ []), ((λ y. D.val y ∷ []), tt))) (λ κs. (Zk.tells, (Dk.tells, tt)))
          (λ κs qs bounds a _ are. via 𝓤 _ (fst∗ 𝓤 _ (emp 𝓤)) (walk a.0 a.1.0 are.0 are.1.0 #asked #call #next 𝓣 asks calls nexts)))
