-- What the lent functions promise, as one relation: what a call or a look on a station returns, with the station at exit. Demands 1, 2
-- and 3 are said of it (CodeDemands), over whole lists of lent calls; lent.LentPromises, beside the proofs, ties it to the contracts.
-- Definitions only.
use Rattle.std.specs.Prelude.{ℕ, ◌≡◌, List, Result}
use Rattle.codec.specs.declared.bus.CanFrame.{CanFrame}
use Rattle.motor.specs.declared.motor.Motor.{Motor}
use Rattle.station.specs.declared.call.Asked.{Asked}
use Rattle.station.specs.declared.call.Call.{Call}
use Rattle.station.specs.declared.call.Call.TheVariants as call
use Rattle.station.specs.declared.call.Replied.{Replied}
use Rattle.station.specs.declared.station.After.{After}
use Rattle.codec.specs.declared.error.Refusal.{Refusal}
use Rattle.motor.specs.declared.motor.Seen.{Seen}
use Rattle.station.specs.declared.station.Station.{Station}
use Rattle.station.specs.Stations.{look_in, call_in}
use Rattle.station.specs.Code.{Out, after, looked}
use Rattle.station.specs.lent.Lent.{station_of}

-- of a call on these places: its reply, and the places at exit
abbrev pub Calls : List Motor → Asked → Replied → List Motor → Type 0
Calls ms a r zs = (r ≡ (call_in (station_of ms) a).replied) × (station_of zs ≡ (call_in (station_of ms) a).station)

abbrev pub Looks : List Motor → ℕ → Result Seen Refusal → List Motor → Type 0
Looks ms id r zs = (r ≡ look_in (station_of ms) id) × (zs ≡ ms)

abbrev pub CallsFrom : Station → Asked → After → Type 0
CallsFrom st a r = Calls st.motors a r.replied r.station.motors

abbrev pub LentBy : Station → Call → CanFrame → Out → Type 0
LentBy st (call.Register m h k w t) f (after r) = CallsFrom st (record { call = call.Register m h k w t; frame = f }) r
LentBy st (call.Register m h k w t) f (looked r) = ⊥
LentBy st (call.Start m c t) f (after r) = CallsFrom st (record { call = call.Start m c t; frame = f }) r
LentBy st (call.Start m c t) f (looked r) = ⊥
LentBy st (call.Step m t) f (after r) = CallsFrom st (record { call = call.Step m t; frame = f }) r
LentBy st (call.Step m t) f (looked r) = ⊥
LentBy st (call.Frame t) f (after r) = CallsFrom st (record { call = call.Frame t; frame = f }) r
LentBy st (call.Frame t) f (looked r) = ⊥
LentBy st (call.Look m) f (after r) = ⊥
LentBy st (call.Look m) f (looked r) = (zs : List Motor) × Looks st.motors m r zs
LentBy st (call.Remove m t) f (after r) = CallsFrom st (record { call = call.Remove m t; frame = f }) r
LentBy st (call.Remove m t) f (looked r) = ⊥

abbrev pub LentGives : Station → Asked → Out → Type 0
LentGives st a o = LentBy st a.call a.frame o
