-- What the station's by-value functions promise and ask, by their contracts as the check has read them, and the demands over them.
-- Statements only: they stand beside the proofs since a crate's contracts are read from its code after its specs/ are.
use Rattle.std.specs.Prelude.{Option}
use Prim.Native.Nat.{ℕ}
use mathlib.Core.Path.{◌≡◌}
use mathlib.Core.List.{List}
use Rattle.codec.specs.declared.model.Model.{Model}
use base.Fml.{Lft}
use denote.Ref.{Bor}
use Rattle.codec.specs.declared.bus.CanFrame.{CanFrame}
use Rattle.codec.specs.Models.{model_named}
use Rattle.station.specs.declared.call.Asked.{Asked}
use Rattle.station.specs.declared.call.Call.{Call}
use Rattle.station.specs.declared.call.Call.TheVariants as call
use Rattle.station.specs.declared.station.After.{After}
use Rattle.station.specs.declared.station.Station.{Station}
use Rattle.station.specs.Code.{Out, after, looked}
use Rattle.station.specs.CodeDemands.{CodeDemand1, CodeDemand2, CodeDemand3}
use Rattle.station.specs.Definitions.{AsksNothing}
use Rattle.station.proofs.call.time_of.Reads as time-of-reads
use Rattle.station.proofs.station.new.Reads as new-reads
use Rattle.station.proofs.station.register.Reads as register-reads
use Rattle.station.proofs.station.start.Reads as start-reads
use Rattle.station.proofs.station.step.Reads as step-reads
use Rattle.station.proofs.station.frame.Reads as frame-reads
use Rattle.station.proofs.station.look.Reads as look-reads
use Rattle.station.proofs.station.remove.Reads as remove-reads

-- What they promise of a new station, and of what a call returns; a registration is given a name that names the model.
abbrev pub New : Station → Type 0
New st = new-reads.Post tt tt st tt

abbrev pub Registers : Station → ℕ → ℕ → Option Model → ℕ → ℕ → After → Type 0
Registers st m h k w t r =
    (κ : Lft) × (n : Bor (List ℕ)) × (model_named n.now ≡ k) × register-reads.Post (κ, tt) (st, (m, (h, (n, (w, (t, tt)))))) r (st, (m, (h, (n, (w, (t, tt))))))

abbrev pub GivesBy : Station → Call → CanFrame → Out → Type 0
GivesBy st (call.Register m h k w t) f (after r) = Registers st m h k w t r
GivesBy st (call.Register m h k w t) f (looked r) = ⊥
GivesBy st (call.Start m c t) f (after r) = start-reads.Post tt (st, (m, (c, (t, tt)))) r (st, (m, (c, (t, tt))))
GivesBy st (call.Start m c t) f (looked r) = ⊥
GivesBy st (call.Step m t) f (after r) = step-reads.Post tt (st, (m, (t, tt))) r (st, (m, (t, tt)))
GivesBy st (call.Step m t) f (looked r) = ⊥
GivesBy st (call.Frame t) f (after r) = frame-reads.Post tt (st, (f, (t, tt))) r (st, (f, (t, tt)))
GivesBy st (call.Frame t) f (looked r) = ⊥
GivesBy st (call.Look m) f (after r) = ⊥
GivesBy st (call.Look m) f (looked r) = look-reads.Post tt (st, (m, tt)) r (st, (m, tt))
GivesBy st (call.Remove m t) f (after r) = remove-reads.Post tt (st, (m, (t, tt))) r (st, (m, (t, tt)))
GivesBy st (call.Remove m t) f (looked r) = ⊥

abbrev pub Gives : Station → Asked → Out → Type 0
Gives st a o = GivesBy st a.call a.frame o

-- Nothing is asked of a caller: a call can be made on any station with any arguments.
pub record StationAsks : Type 2 where
  pub new : AsksNothing new-reads.requires
  pub register : AsksNothing register-reads.requires
  pub start : AsksNothing start-reads.requires
  pub step : AsksNothing step-reads.requires
  pub frame : AsksNothing frame-reads.requires
  pub look : AsksNothing look-reads.requires
  pub remove : AsksNothing remove-reads.requires
  pub time-of : AsksNothing time-of-reads.requires

pub record StationDemands : Type 2 where
  pub asks : StationAsks
  pub demand1 : CodeDemand1 Gives
  pub demand2 : CodeDemand2 Gives New
  pub demand3 : CodeDemand3 Gives New
