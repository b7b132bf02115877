-- What is held for a motor came in replies that it accepted: no other call adds a reading. Assumes nothing.
use Rattle.std.specs.Prelude.{Some, None, Result, Ok, Err, ⊤, Option}
use Prim.Native.Nat.{ℕ, zero, suc, ◌<◌}
use mathlib.Core.Path.{◌≡◌, refl, sym, ap, ◌∙◌, subst}
use mathlib.Core.Bool.{Bool, true, false, true≢false, cond, not, ◌&&◌}
use mathlib.Core.List.{List, [], ◌∷◌}
use mathlib.Core.Logic.{inl, inr}
use lib.Dec.{eqb, ltb}
use lib.ListN.{get_or, replicate}
use Rattle.codec.specs.declared.error.Refusal.{Refusal}
use Rattle.codec.specs.declared.model.Model.{Model}
use Rattle.codec.specs.declared.bus.CanFrame.{CanFrame}
use Rattle.codec.specs.declared.error.Refusal.TheVariants as refusal
use Rattle.codec.specs.declared.model.Model.TheVariants.{Rs00}
use Rattle.codec.specs.declared.registers.ParameterDataType.{ParameterDataType}
use Rattle.codec.specs.Kinds.{parameter_info}
use Rattle.codec.specs.Values.{kind_in}
use Rattle.motor.specs.declared.engine.command.Command.{Command}
use Rattle.motor.specs.declared.engine.operation.Effect.{Effect}
use Rattle.motor.specs.declared.engine.operation.Effect.TheVariants as effect
use Rattle.motor.specs.engine.Run.{advanced, begun_by}
use Rattle.motor.specs.declared.readings.Entry.{Entry}
use Rattle.motor.specs.Calls.{sight_of, wanted, readings_by, start_said, step_said}
use Rattle.motor.specs.Lone.{Lone, lone_new, lone_start_by, lone_step_by, hears, lone_removal}
use Rattle.motor.specs.Numbers.{first_of}
use Rattle.motor.specs.Readings.{entry, lookup, insert, remove, room}
use Rattle.motor.specs.Receive.{accepts_frame, is_out_of_time, is_read, read_status, read_id, read_stored, frame_said, readings_after}
use Rattle.motor.specs.Echo.{held_kind, WrittenOut}
use Rattle.motor.proofs.Echo.{heard-held, written_out}
use Rattle.motor.proofs.ReceivingTheorems.{kinds-held}
use Rattle.std.proofs.lemmas.Option.{none-some, same_Some}
use Rattle.station.specs.declared.call.Asked.{Asked}
use Rattle.station.specs.declared.call.Call.{Call}
use Rattle.station.specs.declared.call.Call.TheVariants as call
use Rattle.station.specs.Calls.{frame, Reply, ok, no, answered}
use Rattle.station.specs.Station.{Place, free, taken, empty, held, add, put, place, leaves, moves_to, hears_to, lone_by, route, admission, enter, admit, source_of, to_source, station_by, station_call}
use Rattle.station.specs.History.{Told, after}
use Rattle.station.specs.Demand2.{In, telling, Came, HeldReading, Readings}
use Rattle.station.proofs.EchoAtStation.{to}
use Rattle.station.proofs.Places.{same_id}
use Rattle.station.proofs.Steps.{refused-passed}

-- ---- a property of every entry

abbrev Each : (Entry → Type 0) → List Entry → Type 0
Each P [] = Unit {0}
Each P (e ∷ es) = P e × Each P es

each_in : (P : Entry → Type 0) (l : List Entry) → Each P l → (e : Entry) → In e l → P e
each_in P [] a e i = absurd i
each_in P (x ∷ l) a e (inl q) = subst P (sym q) a.0
each_in P (x ∷ l) a e (inr i) = each_in P l a.1 e i

each-cond : (P : Entry → Type 0) (b : Bool) (x y : List Entry) → Each P x → Each P y → Each P (cond b x y)
each-cond P true x y p q = p
each-cond P false x y p q = q

each-insert : (P : Entry → Type 0) (f : CanFrame) (l : List Entry) → P (entry (read_id f) (read_stored f)) → Each P l → Each P (insert (read_id f) (read_stored f) l)
each-insert P f [] p a = (p, tt)
each-insert P f (e ∷ l) p a =
    each-cond P (ltb e.id (read_id f)) _ _ (a.0, each-insert P f l p a.1) (p, each-cond P (eqb e.id (read_id f)) l (e ∷ l) a.1 a)

each-remove : (P : Entry → Type 0) (id : ℕ) (l : List Entry) → Each P l → Each P (remove id l)
each-remove P id [] a = tt
each-remove P id (e ∷ l) a = each-cond P (eqb e.id id) l _ a.1 (a.0, each-remove P id l a.1)

-- ---- the lone motor

-- a property of a call that is a frame
abbrev OfFrame : (ℕ → Type 0) → Call → Type 0
OfFrame Q (call.Register m host model wait time) = Unit {0}
OfFrame Q (call.Start m c now) = Unit {0}
OfFrame Q (call.Step m now) = Unit {0}
OfFrame Q (call.Frame now) = Q now
OfFrame Q (call.Look m) = Unit {0}
OfFrame Q (call.Remove m now) = Unit {0}

module _ (P : Entry → Type 0) where
  each-moved : (e : Effect) (l : List Entry) → Each P l → Each P (readings_by e (λ id. remove id l) l)
  each-moved effect.Nothing l a = a
  each-moved (effect.ForgetReading id) l a = each-remove P id l a
  each-moved effect.ForgetPing l a = a
  each-moved effect.ForgetFault l a = a
  each-moved (effect.HoldGains g) l a = a

  each_start : (k : Result ⊤ Refusal) (h : Lone) (c : Command) (now : ℕ) → Each P h.readings → Each P (lone_start_by k h c now).lone.readings
  each_start (Ok tt) h c now a = each-moved (begun_by (sight_of h.state) now c).effect h.readings a
  each_start (Err r) h c now a = a

  each_step : (k : Result ⊤ Refusal) (h : Lone) (now : ℕ) → Each P h.readings → Each P (lone_step_by k h now).lone.readings
  each_step (Ok tt) h now a =
      let op = h.state.operation in
      each-moved (advanced (sight_of h.state) now op (wanted op.phase (λ id. lookup id h.readings)) op.phase).effect h.readings a
  each_step (Err r) h now a = a

  each-heard : (h : Lone) (f : CanFrame) (now : ℕ)
      → ((hears h f now).said ≡ Ok tt → is_read f ≡ true → P (entry (read_id f) (read_stored f)))
      → Each P h.readings → Each P (hears h f now).lone.readings
  unfolding hears readings_after
  each-heard h f now p a = go (frame_said h.state f now (not (room (read_id f) h.readings))) (is_read f) refl refl
    where
      go : (k : Result ⊤ Refusal) (b : Bool) → frame_said h.state f now (not (room (read_id f) h.readings)) ≡ k → is_read f ≡ b
          → Each P (readings_after k f (insert (read_id f) (read_stored f) h.readings) h.readings)
      go (Ok tt) true q r = subst (λ (b : Bool). Each P (cond b (insert (read_id f) (read_stored f) h.readings) h.readings)) (sym r) (each-insert P f h.readings (p q r) a)
      go (Ok tt) false q r = subst (λ (b : Bool). Each P (cond b (insert (read_id f) (read_stored f) h.readings) h.readings)) (sym r) a
      go (Err n) b q r = a

  -- of none there is nothing to say
  abbrev EachOf : Option Lone → Type 0
  EachOf None = Unit {0}
  EachOf (Some h) = Each P h.readings

  each-lone : (h : Lone) (c : Call) (f : CanFrame) → OfFrame (λ now. (hears h f now).said ≡ Ok tt → is_read f ≡ true → P (entry (read_id f) (read_stored f))) c
      → Each P h.readings → EachOf (lone_by h c f).1
  unfolding lone_by moves_to hears_to leaves
  each-lone h (call.Register m host model wait time) f p a = a
  each-lone h (call.Start m c now) f p a = each_start (start_said h.state.clock h.state.operation.phase c now) h c now a
  each-lone h (call.Step m now) f p a = each_step (step_said h.state.clock h.state.operation.phase now) h now a
  each-lone h (call.Frame now) f p a = each-heard h f now p a
  each-lone h (call.Look m) f p a = a
  each-lone h (call.Remove m now) f p a = go (lone_removal h now)
    where
      go : (k : Result ⊤ Refusal) → EachOf (leaves h k)
      go (Ok tt) = tt
      go (Err r) = a

-- ---- the station: of every motor's entries

abbrev EachAt : (ℕ → Entry → Type 0) → List Place → Type 0
EachAt P [] = Unit {0}
EachAt P (free ∷ s) = EachAt P s
EachAt P (taken i h ∷ s) = Each (P i) h.readings × EachAt P s

-- of what a read reply with status zero puts, where it isn't refused
abbrev Frames : (ℕ → Entry → Type 0) → List Place → Call → CanFrame → Type 0
Frames P s c f =
    OfFrame (λ time. (station_call s (frame f time)).0 ≡ ok → accepts_frame (source_of f) f ≡ true → is_read f ≡ true → read_status f ≡ 0
    → P (source_of f) (entry (read_id f) (read_stored f))) c

-- a read reply that passes has status zero
zero-status : (h : Lone) (f : CanFrame) (now : ℕ) → (hears h f now).said ≡ Ok tt → is_read f ≡ true → read_status f ≡ 0
unfolding hears frame_said
zero-status h f now e r =
    same_id (read_status f) 0
    (go (not (accepts_frame h.state.motor_id f)) (is_out_of_time h.state.clock now) (is_read f) (eqb (read_status f) 0) (not (room (read_id f) h.readings)) r e)
  where
    go : (a b c d e : Bool) → c ≡ true
        → first_of ((a, refusal.FrameNotAccepted) ∷ (b, refusal.TimeOutOfRange) ∷ (c && not d, refusal.ReadFailed (read_id f) (read_status f)) ∷ (c && e, refusal.ReadingsFull) ∷ []) ≡ Ok tt
        → d ≡ true
    go true b c d e q p = refused-passed refusal.FrameNotAccepted p
    go false true c d e q p = refused-passed refusal.TimeOutOfRange p
    go false false false d e q p = absurd (true≢false (sym q))
    go false false true true e q p = refl
    go false false true false e q p = refused-passed (refusal.ReadFailed (read_id f) (read_status f)) p

module _ (P : ℕ → Entry → Type 0) where
  each-held : (s : List Place) (m : ℕ) (h : Lone) → EachAt P s → held s m ≡ Some h → Each (P m) h.readings
  unfolding held
  each-held [] m h a e = absurd (none-some h e)
  each-held (free ∷ s) m h a e = each-held s m h a e
  each-held (taken i k ∷ s) m h a e = go (eqb i m) refl e (each-held s m h a.1)
    where
      go : (b : Bool) → eqb i m ≡ b → cond b (Some k) (held s m) ≡ Some h → (held s m ≡ Some h → Each (P m) h.readings) → Each (P m) h.readings
      go true p q ih = subst (λ (x : Lone). Each (P m) x.readings) (same_Some k h q) (subst (λ (n : ℕ). Each (P n) k.readings) (same_id i m p) a.0)
      go false p q ih = ih q

  each-place : (i : ℕ) (o : Option Lone) (s : List Place) → EachOf (P i) o → EachAt P s → EachAt P (place i o ∷ s)
  unfolding place
  each-place i None s p a = a
  each-place i (Some h) s p a = (p, a)

  each-put : (s : List Place) (m : ℕ) (o : Option Lone) → EachOf (P m) o → EachAt P s → EachAt P (put s m o)
  unfolding put
  each-put [] m o p a = tt
  each-put (free ∷ s) m o p a = each-put s m o p a
  each-put (taken i h ∷ s) m o p a = go (eqb i m) refl (each-put s m o p a.1)
    where
      go : (b : Bool) → eqb i m ≡ b → EachAt P (put s m o) → EachAt P (cond b (place i o ∷ s) (taken i h ∷ put s m o))
      go true q ih = each-place i o s (subst (λ (n : ℕ). EachOf (P n) o) (sym (same_id i m q)) p) a.1
      go false q ih = (a.0, ih)

  each-add : (s : List Place) (m : ℕ) (h : Lone) → Each (P m) h.readings → EachAt P s → EachAt P (add s m h)
  unfolding add
  each-add [] m h p a = tt
  each-add (free ∷ s) m h p a = (p, a)
  each-add (taken i k ∷ s) m h p a = (a.0, each-add s m h p a.1)

  each-route : (s : List Place) (m : ℕ) (o : Option Lone) (r : Reply) (c : Call) (f : CanFrame) → held s m ≡ o
      → ((h : Lone) → o ≡ Some h → OfFrame (λ now. (hears h f now).said ≡ Ok tt → is_read f ≡ true → P m (entry (read_id f) (read_stored f))) c)
      → EachAt P s → EachAt P (route s m o r (λ h. lone_by h c f)).1
  unfolding route
  each-route s m None r c f e p a = a
  each-route s m (Some h) r c f e p a = each-put s m (lone_by h c f).1 (each-lone (P m) h c f (p h refl) (each-held s m h a e)) a

  each-admit : (k : Result ⊤ Refusal) (s : List Place) (m host : ℕ) (model : Option Model) (wait time : ℕ) → EachAt P s → EachAt P (admit k s m host model wait time).1
  unfolding admit enter
  each-admit (Ok tt) s m host (Some model) wait time a = each-add s m (lone_new m host model wait time) tt a
  each-admit (Ok tt) s m host None wait time a = a
  each-admit (Err r) s m host model wait time a = a

  each-frame : (s : List Place) (f : CanFrame) (time : ℕ) → Frames P s (call.Frame time) f → EachAt P s → EachAt P (station_by s (call.Frame time) f).1
  unfolding station_by route lone_by hears_to
  each-frame s f time p a = go (accepts_frame (source_of f) f) refl
    where
      go : (b : Bool) → accepts_frame (source_of f) f ≡ b → EachAt P (cond b (to_source s f time) (no refusal.FrameNotAccepted, s)).1
      go true q =
          each-route s (source_of f) (held s (source_of f)) _ (call.Frame time) f refl
          (λ h e k r. p (ap (λ (b : Bool). (to s f time b (held s (source_of f))).0) q ∙ ap (λ (o : Option Lone). (to s f time true o).0) e ∙ ap answered k) q r (zero-status h f time k r))
          a
      go false q = a

  each-call : (s : List Place) (c : Call) (f : CanFrame) → Frames P s c f → EachAt P s → EachAt P (station_by s c f).1
  unfolding station_by
  each-call s (call.Register m host model wait time) f p a = each-admit (admission s m host model wait time) s m host model wait time a
  each-call s (call.Start m c now) f p a = each-route s m (held s m) _ (call.Start m c now) f refl (λ h e. tt) a
  each-call s (call.Step m now) f p a = each-route s m (held s m) _ (call.Step m now) f refl (λ h e. tt) a
  each-call s (call.Frame now) f p a = each-frame s f now p a
  each-call s (call.Look m) f p a = each-route s m (held s m) _ (call.Look m) f refl (λ h e. tt) a
  each-call s (call.Remove m now) f p a = each-route s m (held s m) _ (call.Remove m now) f refl (λ h e. tt) a

  -- of whole lists of calls
  abbrev Put : List Told → Type 0
  Put told =
      (f : CanFrame) (time : ℕ) → In (frame f time, ok) told → accepts_frame (source_of f) f ≡ true → is_read f ≡ true → read_status f ≡ 0
      → P (source_of f) (entry (read_id f) (read_stored f))

  put_first : (s : List Place) (c : Call) (f : CanFrame) (told : List Told) → Put ((record { call = c; frame = f }, (station_by s c f).0) ∷ told) → Frames P s c f
  put_first s (call.Register m host model wait time) f told p = tt
  put_first s (call.Start m c now) f told p = tt
  put_first s (call.Step m now) f told p = tt
  put_first s (call.Frame now) f told p = λ e. p f now (inl (ap {B = Told} (λ (x : Reply). (frame f now, x)) (sym e)))
  put_first s (call.Look m) f told p = tt
  put_first s (call.Remove m now) f told p = tt

  each_after : (s : List Place) (cs : List Asked) → Put (telling s cs) → EachAt P s → EachAt P (after s cs)
  unfolding after telling
  each_after s [] p a = a
  each_after s (c ∷ cs) p a =
      let t = (station_call s c).1 in
      each_after t cs (λ f now i. p f now (inr i)) (each-call s c.call c.frame (put_first s c.call c.frame (telling t cs) p) a)

  each_free : (n : ℕ) → EachAt P (replicate n free)
  each_free zero = tt
  each_free (suc n) = each_free n

-- ---- a reading that came in a reply

-- a lone motor that takes the reply
passes : (m : ℕ) (f : CanFrame) → accepts_frame m f ≡ true → is_read f ≡ true → read_status f ≡ 0 → (hears (lone_new m 0 Rs00 0 0) f 0).said ≡ Ok tt
unfolding hears frame_said is_out_of_time
passes m f a r z = rw (a, r, z)

read_as : (m : ℕ) (told : List Told) (e : Entry) → Came m told e → HeldReading m told e
read_as m told e c =
    let f = c.reply in
    let p = passes m f c.accepted c.read c.zero-status in
    record {
      came = c;
      kind = subst (λ (x : Entry). kind_in x.held.value ≡ held_kind x.id) c.same (kinds-held f);
      written_out =
          subst (λ (x : Entry). (k : ParameterDataType) → parameter_info x.id ≡ Some k → ((i : ℕ) → get_or f.data i 0 < 256)
          → WrittenOut x.id x.held.value k f.data) c.same
          (λ k listed small.
          written_out (lone_new m 0 Rs00 0 0) f 0 c.read p small k listed (read_stored f) (heard-held (lone_new m 0 Rs00 0 0) f 0 c.read p));
    }

pub held-readings : Readings
unfolding empty
held-readings cs m h q e i =
    let told = telling empty cs in
    let came : EachAt (λ n x. Came n told x) (after empty cs) =
    each_after (λ n x. Came n told x) empty cs
    (λ f time j a r z. record { reply = f; time = time; handed-in = j; accepted = a; read = r; zero-status = z; same = refl })
    (each_free (λ n x. Came n told x) 8) in
    read_as m told e (each_in (λ x. Came m told x) h.readings (each-held (λ n x. Came n told x) (after empty cs) m h came q) e i)
