-- One call of a station: what it does to the motor m, whether the call is m's or not. Assumes nothing.
use Rattle.std.specs.Prelude.{Some, None, Result, Ok, Err, ⊤, Option, is_some}
use mathlib.Core.Path.{◌≡◌, refl, sym, ap, ◌∙◌, subst}
use mathlib.Core.Bool.{Bool, true, false, true≢false, ◌&&◌, cond}
use mathlib.Core.List.{List, [], ◌∷◌, ◌++◌}
use Prim.Native.Nat.{ℕ, ◌%◌}
use lib.Dec.{eqb}
use lib.ListN.{length}
use Rattle.codec.specs.declared.model.Model.{Model}
use Rattle.codec.specs.declared.bus.CanFrame.{CanFrame}
use Rattle.codec.specs.declared.error.Refusal.{Refusal}
use Rattle.codec.specs.declared.error.Refusal.TheVariants as refusal
use Rattle.codec.specs.Kinds.{among}
use Rattle.motor.specs.Calls.{register_numbers}
use Rattle.motor.specs.Lone.{Lone, lone_new, lone_again, lone_removal}
use Rattle.motor.specs.Numbers.{first_of}
use Rattle.motor.specs.Receive.{accepts_frame, frame_type, frame_extra}
use Rattle.station.specs.declared.call.Asked.{Asked}
use Rattle.station.specs.declared.call.Call.{Call}
use Rattle.station.specs.declared.call.Call.TheVariants as call
use Rattle.station.specs.Calls.{Reply, ok, no, answered}
use Rattle.station.specs.Station.{Place, held, full, Distinct}
use Rattle.station.specs.Station.{moves_to, hears_to, leaves, lone_by, lone, route, admission, enter, admit, source_of, to_source, station_by, station_call}
use Rattle.station.specs.History.{mine_by, mine, removes, answered_ok}
use Rattle.station.specs.Demands.{Given, registers, made}
use Rattle.station.proofs.Places.{same_id, own-id, held-put-other, held-add-other, held-add, held-put, distinct-put, distinct-add, length-put, length-add}

-- ---- tests in order

pub refused-passed : {A : Type 0} (r : Refusal) → ◌≡◌ {A = (Result ⊤ Refusal)} (Err r) (Ok tt) → A
refused-passed {A} r e = absurd (true≢false (ap is-refused e))
  where
    is-refused : Result ⊤ Refusal → Bool
    is-refused (Ok tt) = false
    is-refused (Err r) = true

-- a test that applies ends the list
pub first_stops : (l x : List (Bool × Refusal)) (n : Refusal)
    → (k : Refusal) × (first_of (l ++ ((true, n) ∷ x)) ≡ Err k) × (first_of (l ++ ((true, n) ∷ [])) ≡ Err k)
first_stops [] x n = (n, refl, refl)
first_stops (t ∷ l) x n = go t.0 refl (first_stops l x n)
  where
    go : (b : Bool) → t.0 ≡ b
        → (k : Refusal) × (first_of (l ++ ((true, n) ∷ x)) ≡ Err k) × (first_of (l ++ ((true, n) ∷ [])) ≡ Err k)
        → (k : Refusal) × (first_of ((t ∷ l) ++ ((true, n) ∷ x)) ≡ Err k) × (first_of ((t ∷ l) ++ ((true, n) ∷ [])) ≡ Err k)
    go true p ih = (t.1, rw p, rw p)
    go false p ih = (ih.0, rw p ih.1, rw p ih.2)

-- a list that no test ends: its last two tests don't apply
pub first_passes : (l : List (Bool × Refusal)) (a b : Bool) (i j : Refusal) → first_of (l ++ ((a, i) ∷ (b, j) ∷ [])) ≡ Ok tt
    → (a ≡ false) × (b ≡ false)
first_passes [] true b i j e = refused-passed i e
first_passes [] false true i j e = refused-passed j e
first_passes [] false false i j e = (refl, refl)
first_passes (t ∷ l) a b i j e = go t.0 refl (first_passes l a b i j)
  where
    go : (c : Bool) → t.0 ≡ c → (first_of (l ++ ((a, i) ∷ (b, j) ∷ [])) ≡ Ok tt → (a ≡ false) × (b ≡ false)) → (a ≡ false) × (b ≡ false)
    go true p ih = refused-passed t.1 (rw p at e)
    go false p ih = ih (rw p at e)

none_of : (o : Option Lone) → is_some o ≡ false → o ≡ None
none_of None e = refl
none_of (Some a) e = absurd (true≢false e)

-- ---- the motor that accepts a frame

pub and-true : (a b : Bool) → a && b ≡ true → (a ≡ true) × (b ≡ true)
and-true true b e = (refl, e)
and-true false b e = absurd (true≢false (sym e))

-- it is the frame's source
pub accepts-source : (m : ℕ) (f : CanFrame) → accepts_frame m f ≡ true → (source_of f ≡ m) × (accepts_frame (source_of f) f ≡ true)
unfolding accepts_frame source_of
accepts-source m f e =
    let x = and-true f.is_extended _ e in
    let y = and-true (among (frame_type f) (0 ∷ 2 ∷ 17 ∷ 21 ∷ 24 ∷ 25 ∷ [])) _ x.1 in
    (same_id (frame_extra f % 256) m y.1, rw (x.0, y.0) (own-id (frame_extra f % 256)))

pub source-accepts : (m : ℕ) (f : CanFrame) → accepts_frame m f ≡ false → accepts_frame (source_of f) f ≡ true → eqb (source_of f) m ≡ false
source-accepts m f e a = go (eqb (source_of f) m) refl
  where
    go : (b : Bool) → eqb (source_of f) m ≡ b → eqb (source_of f) m ≡ false
    go true p = absurd (true≢false (sym a ∙ rw (same_id (source_of f) m p) e))
    go false p = p

-- ---- a call that isn't m's leaves what is held for m

-- what a motor does with a call that goes to it
abbrev Visit : Type 0
Visit = Lone → Reply × Option Lone

route-other : (s : List Place) (i m : ℕ) (o : Option Lone) (r : Reply) (visit : Visit) → eqb i m ≡ false → held (route s i o r visit).1 m ≡ held s m
unfolding route
route-other s i m None r visit e = refl
route-other s i m (Some h) r visit e = held-put-other s i m (visit h).1 e

enter-other : (s : List Place) (i m host : ℕ) (model : Option Model) (wait time : ℕ) → eqb i m ≡ false
    → held (enter s i host model wait time).1 m ≡ held s m
unfolding enter
enter-other s i m host (Some model) wait time e = held-add-other s i m (lone_new i host model wait time) e
enter-other s i m host None wait time e = refl

admit-other : (k : Result ⊤ Refusal) (s : List Place) (i m host : ℕ) (model : Option Model) (wait time : ℕ) → eqb i m ≡ false
    → held (admit k s i host model wait time).1 m ≡ held s m
unfolding admit
admit-other (Ok tt) s i m host model wait time e = enter-other s i m host model wait time e
admit-other (Err r) s i m host model wait time e = refl

other-by : (s : List Place) (m : ℕ) (c : Call) (f : CanFrame) → mine_by m c f ≡ false → held (station_by s c f).1 m ≡ held s m
unfolding mine_by station_by
other-by s m (call.Register i host model wait time) f e = admit-other (admission s i host model wait time) s i m host model wait time e
other-by s m (call.Start i c now) f e = route-other s i m (held s i) _ _ e
other-by s m (call.Step i now) f e = route-other s i m (held s i) _ _ e
other-by s m (call.Frame now) f e = go (accepts_frame (source_of f) f) refl
  where
    go : (b : Bool) → accepts_frame (source_of f) f ≡ b → held (cond b (to_source s f now) (no refusal.FrameNotAccepted, s)).1 m ≡ held s m
    go true p = route-other s (source_of f) m (held s (source_of f)) _ _ (source-accepts m f e p)
    go false p = refl
other-by s m (call.Look i) f e = route-other s i m (held s i) _ _ e
other-by s m (call.Remove i now) f e = route-other s i m (held s i) _ _ e

pub other : (s : List Place) (m : ℕ) (a : Asked) → mine m a ≡ false → held (station_call s a).1 m ≡ held s m
other s m a = other-by s m a.call a.frame

-- ---- a call that is m's has the lone motor's reply, and leaves what the lone motor holds

abbrev pub LikeLone : ℕ → Reply × Option Lone → Reply × List Place → Type 0
LikeLone m l r = (r.0 ≡ l.0) × (held r.1 m ≡ l.1)

route-own : (s : List Place) (i m : ℕ) (h : Lone) (r : Reply) (visit : Visit) → Distinct s → held s m ≡ Some h → i ≡ m
    → LikeLone m (visit h) (route s i (held s i) r visit)
unfolding route
route-own s i m h r visit d e q = rw (q, e) (refl, held-put s m h (visit h).1 d e)

-- registration again: 5, where none of 1, 2, 3, 9, 7 applies
register-own : (s : List Place) (m : ℕ) (h : Lone) (host : ℕ) (model : Option Model) (wait time : ℕ) → held s m ≡ Some h
    → LikeLone m (answered (lone_again m host model wait time), Some h) (admit (admission s m host model wait time) s m host model wait time)
unfolding admit admission
register-own s m h host model wait time e =
    let f = first_stops (register_numbers m host model wait time) ((full s, refusal.StationFull) ∷ []) refusal.IdRegistered in
    subst (λ (k : Result ⊤ Refusal). ((admit k s m host model wait time).0 ≡ answered (lone_again m host model wait time)) × (held (admit k s m host model wait time).1 m ≡ Some h))
    (sym (ap (λ (o : Option Lone). first_of (register_numbers m host model wait time ++ ((is_some o, refusal.IdRegistered) ∷ (full s, refusal.StationFull) ∷ []))) e ∙ f.1))
    (sym (ap answered f.2), e)

own-by : (s : List Place) (m : ℕ) (h : Lone) (c : Call) (f : CanFrame) → Distinct s → held s m ≡ Some h → mine_by m c f ≡ true
    → LikeLone m (lone_by h c f) (station_by s c f)
unfolding mine_by lone_by station_by
own-by s m h (call.Register i host model wait time) f d e q =
    subst (λ (j : ℕ). LikeLone m (answered (lone_again j host model wait time), Some h) (admit (admission s j host model wait time) s j host model wait time))
    (sym (same_id i m q))
    (register-own s m h host model wait time e)
own-by s m h (call.Start i c now) f d e q = route-own s i m h _ _ d e (same_id i m q)
own-by s m h (call.Step i now) f d e q = route-own s i m h _ _ d e (same_id i m q)
own-by s m h (call.Frame now) f d e q =
    let a = accepts-source m f q in
    rw a.1 (route-own s (source_of f) m h _ _ d e a.0)
own-by s m h (call.Look i) f d e q = route-own s i m h _ _ d e (same_id i m q)
own-by s m h (call.Remove i now) f d e q = route-own s i m h _ _ d e (same_id i m q)

pub own-call : (s : List Place) (m : ℕ) (h : Lone) (a : Asked) → Distinct s → held s m ≡ Some h → mine m a ≡ true
    → LikeLone m (lone h a) (station_call s a)
own-call s m h a = own-by s m h a.call a.frame

-- the lone motor ends by a removal that isn't refused, and by nothing else
abbrev pub is_none : Option Lone → Bool
is_none None = true
is_none (Some a) = false

ends_by : (m : ℕ) (h : Lone) (c : Call) (f : CanFrame) → mine_by m c f ≡ true → removes m c (lone_by h c f).0 ≡ is_none (lone_by h c f).1
unfolding mine_by removes lone_by moves_to hears_to answered_ok leaves
ends_by m h (call.Register i host model wait time) f q = refl
ends_by m h (call.Start i c now) f q = refl
ends_by m h (call.Step i now) f q = refl
ends_by m h (call.Frame now) f q = refl
ends_by m h (call.Look i) f q = refl
ends_by m h (call.Remove i now) f q = rw q (go (lone_removal h now))
  where
    go : (k : Result ⊤ Refusal) → answered_ok (answered k).replied.answer ≡ is_none (leaves h k)
    go (Ok tt) = refl
    go (Err r) = refl

pub ends : (m : ℕ) (h : Lone) (a : Asked) → mine m a ≡ true → removes m a.call (lone h a).0 ≡ is_none (lone h a).1
ends m h a = ends_by m h a.call a.frame

stays_by : (m : ℕ) (c : Call) (f : CanFrame) (r : Reply) → mine_by m c f ≡ false → removes m c r ≡ false
unfolding mine_by removes
stays_by m (call.Register i host model wait time) f r q = refl
stays_by m (call.Start i c now) f r q = refl
stays_by m (call.Step i now) f r q = refl
stays_by m (call.Frame now) f r q = refl
stays_by m (call.Look i) f r q = refl
stays_by m (call.Remove i now) f r q = rw q

pub stays : (m : ℕ) (a : Asked) (r : Reply) → mine m a ≡ false → removes m a.call r ≡ false
stays m a = stays_by m a.call a.frame

-- ---- the ids stay different, whatever the call

route-distinct : (s : List Place) (i : ℕ) (o : Option Lone) (r : Reply) (visit : Visit) → Distinct s → Distinct (route s i o r visit).1
unfolding route
route-distinct s i None r visit d = d
route-distinct s i (Some h) r visit d = distinct-put s i (visit h).1 d

enter-distinct : (s : List Place) (i host : ℕ) (model : Option Model) (wait time : ℕ) → Distinct s → held s i ≡ None
    → Distinct (enter s i host model wait time).1
unfolding enter
enter-distinct s i host (Some model) wait time d e = distinct-add s i (lone_new i host model wait time) d e
enter-distinct s i host None wait time d e = d

-- passed, the id isn't registered and a place is free
pub passes : (s : List Place) (i host : ℕ) (model : Option Model) (wait time : ℕ) → admission s i host model wait time ≡ Ok tt
    → (held s i ≡ None) × (full s ≡ false)
unfolding admission
passes s i host model wait time e =
    let p = first_passes (register_numbers i host model wait time) (is_some (held s i)) (full s) refusal.IdRegistered refusal.StationFull e in
    (none_of (held s i) p.0, p.1)

distinct-by : (s : List Place) (c : Call) (f : CanFrame) → Distinct s → Distinct (station_by s c f).1
unfolding station_by admit
distinct-by s (call.Register i host model wait time) f d = go (admission s i host model wait time) refl
  where
    go : (k : Result ⊤ Refusal) → admission s i host model wait time ≡ k → Distinct (admit k s i host model wait time).1
    go (Ok tt) e = enter-distinct s i host model wait time d (passes s i host model wait time e).0
    go (Err r) e = d
distinct-by s (call.Start i c now) f d = route-distinct s i (held s i) _ _ d
distinct-by s (call.Step i now) f d = route-distinct s i (held s i) _ _ d
distinct-by s (call.Frame now) f d = go (accepts_frame (source_of f) f)
  where
    go : (b : Bool) → Distinct (cond b (to_source s f now) (no refusal.FrameNotAccepted, s)).1
    go true = route-distinct s (source_of f) (held s (source_of f)) _ _ d
    go false = d
distinct-by s (call.Look i) f d = route-distinct s i (held s i) _ _ d
distinct-by s (call.Remove i now) f d = route-distinct s i (held s i) _ _ d

pub call-distinct : (s : List Place) (a : Asked) → Distinct s → Distinct (station_call s a).1
call-distinct s a = distinct-by s a.call a.frame

-- ---- a registration that isn't refused holds a new motor; one that passes the tests isn't refused

pub no_ok : {A : Type 0} (r : Refusal) → no r ≡ ok → A
unfolding answered_ok
no_ok {A} r e = absurd (true≢false (sym (ap (λ (x : Reply). answered_ok x.replied.answer) e)))

pub admitted : (s : List Place) (m : ℕ) (r : Given) → (station_call s (registers m r)).0 ≡ ok
    → held (station_call s (registers m r)).1 m ≡ Some (made m r)
unfolding station_by registers admit enter made
admitted s m r = go (admission s m r.host (Some r.model) r.wait r.time) refl
  where
    go : (k : Result ⊤ Refusal) → admission s m r.host (Some r.model) r.wait r.time ≡ k
        → (admit k s m r.host (Some r.model) r.wait r.time).0 ≡ ok
        → held (admit k s m r.host (Some r.model) r.wait r.time).1 m ≡ Some (made m r)
    go (Ok tt) e a =
        let p = passes s m r.host (Some r.model) r.wait r.time e in
        held-add s m (made m r) p.0 p.1
    go (Err n) e a = no_ok n a

pub opens : (s : List Place) (m : ℕ) (r : Given) → admission s m r.host (Some r.model) r.wait r.time ≡ Ok tt
    → (station_call s (registers m r)).0 ≡ ok
unfolding station_by registers admit enter
opens s m r e = rw e

-- ---- the places stay as many

route-length : (s : List Place) (i : ℕ) (o : Option Lone) (r : Reply) (visit : Visit) → length (route s i o r visit).1 ≡ length s
unfolding route
route-length s i None r visit = refl
route-length s i (Some h) r visit = length-put s i (visit h).1

enter-length : (s : List Place) (i host : ℕ) (model : Option Model) (wait time : ℕ) → length (enter s i host model wait time).1 ≡ length s
unfolding enter
enter-length s i host (Some model) wait time = length-add s i (lone_new i host model wait time)
enter-length s i host None wait time = refl

admit-length : (k : Result ⊤ Refusal) (s : List Place) (i host : ℕ) (model : Option Model) (wait time : ℕ)
    → length (admit k s i host model wait time).1 ≡ length s
unfolding admit
admit-length (Ok tt) s i host model wait time = enter-length s i host model wait time
admit-length (Err r) s i host model wait time = refl

length-by : (s : List Place) (c : Call) (f : CanFrame) → length (station_by s c f).1 ≡ length s
unfolding station_by
length-by s (call.Register i host model wait time) f = admit-length (admission s i host model wait time) s i host model wait time
length-by s (call.Start i c now) f = route-length s i (held s i) _ _
length-by s (call.Step i now) f = route-length s i (held s i) _ _
length-by s (call.Frame now) f = go (accepts_frame (source_of f) f)
  where
    go : (b : Bool) → length (cond b (to_source s f now) (no refusal.FrameNotAccepted, s)).1 ≡ length s
    go true = route-length s (source_of f) (held s (source_of f)) _ _
    go false = refl
length-by s (call.Look i) f = route-length s i (held s i) _ _
length-by s (call.Remove i now) f = route-length s i (held s i) _ _

pub call_length : (s : List Place) (a : Asked) → length (station_call s a).1 ≡ length s
call_length s a = length-by s a.call a.frame
