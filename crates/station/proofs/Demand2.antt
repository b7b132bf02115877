-- Demand 2, and what it says of the station over contracts: of any functions whose contracts give each call's reply and next station by
-- the definitions, as the by-value and the lent ones do. Assumes nothing.
use native.Mathlib.Omega.{arith}
use Rattle.std.specs.Prelude.{Result, Ok, Err, Option, None, Some}
use Prim.Native.Nat.{ℕ}
use mathlib.Core.Path.{◌≡◌, refl, sym, ap, ◌∙◌, subst}
use mathlib.Core.List.{List}
use lib.Seq.{take-append_seam}
use Rattle.codec.specs.Numbers.{said_in}
use Rattle.codec.specs.declared.error.Refusal.{Refusal}
use Rattle.codec.specs.declared.error.Refusal.TheVariants as refusal
use Rattle.codec.specs.Values.{raw_of}
use Rattle.motor.specs.declared.engine.command.Command.TheVariants as command
use Rattle.motor.specs.declared.motor.Seen.{Seen}
use Rattle.motor.specs.declared.readings.Entry.{Entry}
use Rattle.motor.specs.Lone.{Lone, hears, lone_look}
use Rattle.motor.specs.Readings.{lookup}
use Rattle.motor.specs.Echo.{Carries}
use Rattle.std.proofs.lemmas.Option.{none-some, same_Some}
use Rattle.station.specs.declared.call.Asked.{Asked}
use Rattle.station.specs.declared.call.Call.TheVariants as call
use Rattle.station.specs.declared.station.Station.{Station}
use Rattle.station.specs.Calls.{start, frame, look, Reply, shows, refuses}
use Rattle.station.specs.Station.{Place, empty, held, lone_by, route, source_of, station_by, station_call}
use Rattle.station.specs.Stations.{Shows, reply_of}
use Rattle.station.specs.History.{after}
use Rattle.station.specs.Demand2.{unrefused, sent_in, reading, In, Demand2}
use Rattle.station.specs.Code.{Out, looked, reply_in, next, given, readings_in, ending}
use Rattle.station.specs.CodeDemands.{CodeEcho, CodeEchoOfCall, CodeReadings, CodeDemand2}
use Rattle.station.proofs.Contracts.{gives-given, gives-means}
use Rattle.station.proofs.Definitions.{ids, parameters, motion-values, status-values, receive-rules, operations, thin-rules, codec-asks, motor-asks}
use Rattle.station.proofs.EchoAtStation.{taken_in, put_some, station-echo, wrote, station-echo-of-call, station-writes}
use Rattle.station.proofs.HeldReadings.{held-readings}
use Rattle.station.proofs.Promised.{one, end_is}
use Rattle.station.proofs.Promises.{New, Gives as ByValue}

pub demand2 : Demand2
demand2 =
    record {
      ids = ids;
      parameters = parameters;
      motion-values = motion-values;
      status-values = status-values;
      receive-rules = receive-rules;
      operations = operations;
      thin-rules = thin-rules;
      codec-asks = codec-asks;
      motor-asks = motor-asks;
      echo = station-echo;
      echo-of-call = station-echo-of-call;
      writes = station-writes;
      readings = held-readings;
    }

-- ---- echo and held readings, as a look shows them

seen-is : (l : Result Seen Refusal) (v : Seen) → (reply_of l).seen ≡ Some v → l ≡ Ok v
seen-is (Ok u) v e = ap (λ (w : Seen). Ok w) (same_Some u v e)
seen-is (Err n) v e = absurd (none-some v e)

refused-not : (l : Result Seen Refusal) → (reply_of l).seen ≡ None → said_in l ≡ Ok tt → ⊥
refused-not (Ok u) e p = none-some u (sym e)
refused-not (Err n) e p = let z : ◌≡◌ {A = ℕ} 0 1 = cc in absurd (omega arith)

module _ (Gives : Station → Asked → Out → Type 0) (is-given : (st : Station) (a : Asked) (o : Out) → Gives st a o → given st a ≡ o) where
  module _ (st : Station) (s : List Place) (x : Shows st s) (m : ℕ) (l : Result Seen Refusal) (g : Gives st (look m) (looked l)) where
    -- a look's reply by what is held
    there : Option Lone → Reply
    there o = (route s m o (refuses (call.Look m) refusal.IdNotRegistered) (λ h. (shows (lone_look h), Some h))).0

    look-answers : (o : Option Lone) → held s m ≡ o → reply_of l ≡ there o
    unfolding there reply_in station_by lone_by
    look-answers o e = (one Gives is-given st s (look m) (looked l) x g).0 ∙ ap there e

    -- of a registered motor it shows the readings held
    look-shows : (h : Lone) → held s m ≡ Some h → (said_in l ≡ Ok tt) × (readings_in l ≡ h.readings)
    unfolding there route
    look-shows h e =
        let b = seen-is l (lone_look h) (ap (λ (r : Reply). r.seen) (look-answers (Some h) e)) in
        (ap said_in b, ap readings_in b ∙ take-append_seam h.readings _)

    -- and where it isn't refused, the motor is registered
    look-held : said_in l ≡ Ok tt → (h : Lone) × (held s m ≡ Some h)
    unfolding there route
    look-held p = go (held s m) refl
      where
        go : (o : Option Lone) → held s m ≡ o → (h : Lone) × (held s m ≡ Some h)
        go None e = absurd (refused-not l (ap (λ (r : Reply). r.seen) (look-answers None e)) p)
        go (Some h) e = (h, e)

  code-echo : CodeEcho Gives
  unfolding reading
  code-echo id raw v range takes st t y f later read carries r a p l b =
      let heard = one Gives is-given st t (frame f later) r y a in
      let passed = sym heard.0 ∙ p in
      let k = taken_in t f later passed in
      let after = (station_call t (frame f later)).1 in
      let h = (hears k.by f later).lone in
      let e : held after (source_of f) ≡ Some h = ap (λ (q : List Place). held q (source_of f)) k.station ∙ put_some t (source_of f) k.by h k.was in
      let q = look-shows (next st r) after heard.1 (source_of f) l b h e in (
        q.0,
        ap (λ (es : List Entry). lookup id es) q.1
            ∙ sym (ap (reading id) e)
            ∙ station-echo id raw v range takes t f later read carries passed,
      )

  code-echo-of-call : CodeEchoOfCall Gives
  code-echo-of-call st s x m id v time range w g u st' t y f later read carries r a p l b =
      let said = (one Gives is-given st s (start m (command.WriteParameter id v) time) w x g).0 in
      let k = wrote s m id v time (ap unrefused (sym said) ∙ u) in
      code-echo id (raw_of v) v range k.takes st' t y f later read
      (subst (λ (d : List ℕ). Carries f.data d) k.carries (subst (λ (c : Reply). Carries f.data (sent_in c).data) said carries))
      r a p l b

  code-readings : CodeReadings Gives New
  code-readings st n cs os g m l a p e i =
      let x = end_is Gives is-given st empty cs os n.1 g in
      let h = look-held (ending st os) (after empty cs) x m l a p in
      let q = look-shows (ending st os) (after empty cs) x m l a h.0 h.1 in
      held-readings cs m h.0 h.1 e (subst (λ (es : List Entry). In e es) q.1 i)

  pub demand2-of : CodeDemand2 Gives New
  demand2-of = record { calls = λ st a o g. (is-given st a o g, λ s x. one Gives is-given st s a o x g); echo = code-echo; echo-of-call = code-echo-of-call; readings = code-readings }

-- of the six by-value functions, with what their second clauses say
pub code-demand2 : CodeDemand2 ByValue New
code-demand2 =
    let d = demand2-of ByValue gives-given in
    record { calls = λ st a o g. (gives-given st a o g, λ s x. gives-means st s a o x g); echo = d.echo; echo-of-call = d.echo-of-call; readings = d.readings }
