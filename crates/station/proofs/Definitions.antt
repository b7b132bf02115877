-- The functions' own contracts promise document 01's definitions: a contract that is weakened or dropped breaks this file. Assumes nothing.
use mathlib.Core.Path.{refl}
use base.Logic.{id⊢, emp}
use Rattle.station.specs.Definitions.{Ids, Parameters, MotionValues, StatusValues, ReadingRules, ReceiveRules, Operations, CodecAsks, MotorAsks, ThinRules}

pub ids : Ids
ids = record { build = λ k x r p. p; parts = λ k x r p. p }

pub parameters : Parameters
parameters =
    record {
      parameter = λ k x r p. p;
      parameter-named = λ k x r p. p;
      protocol-named = λ k x r p. p;
      encode-read = λ k x r p. p;
      encode-write = λ k x r p. p;
      encode-value = λ k x r p. p;
      decode-value = λ k x r p. p;
      value-of = λ k x r p. p;
      kind = λ k x r p. p;
      raw = λ k x r p. p;
      mode-from = λ k x r p. p;
      mode-to = λ k x r p. p;
      byte = λ k x r p. p;
      signed = λ k x r p. p;
    }

pub motion-values : MotionValues
motion-values =
    record {
      name = λ k x r p. p;
      named = λ k x r p. p;
      limits-named = λ k x r p. p;
      limits = λ k x r p. p;
      motion = λ k x r p. p;
      gain = λ k x r p. p;
      command = λ k x r p. p;
      float = λ k x r p. p;
      word = λ k x r p. p;
    }

pub status-values : StatusValues
status-values =
    record {
      value = λ k x r p. p;
      degrees = λ k x r p. p;
      status = λ k x r p. p;
      fault = λ k x r p. p;
      ping = λ k x r p. p;
      ping-parts = λ k x r p. p;
      is-version = λ k x r p. p;
      version = λ k x r p. p;
      ask-version = λ k x r p. p;
    }

reading-rules : ReadingRules
reading-rules =
    record {
      none = λ k x r p. p.0;
      none-held = λ k x r p. p.1;
      find = λ k x r p. p.0;
      find-held = λ k x r p. p.1;
      put = λ k x r p. p.0;
      put-held = λ k x r p. p.1;
      drop = λ k x r p. p.0;
      drop-held = λ k x r p. p.1;
      listed = λ k x r p. p.0;
      listed-held = λ k x r p. p.1;
    }

pub receive-rules : ReceiveRules
receive-rules = record { readings = reading-rules; accepted = λ k x r p. p; arrival = λ k x r p. p; heard = λ k x r p. p.0; quiet = λ k x r p. p; edits = λ k x r p. p.0; as-lone = λ k x r p. p.1 }

pub operations : Operations
operations =
    record {
      numbers = λ k x r p. p;
      candidates = λ k x r p. p;
      no-frame = λ k x r p. p;
      no-operation = λ k x r p. p;
      protocol = λ k x r p. p;
      set-protocol = λ k x r p. p;
      begins = λ k x r p. p;
      advances = λ k x r p. p;
      admission-of = λ k x r p. p;
      admission = λ k x r p. p;
      new = λ k x r p. p.0;
      new-as-lone = λ k x r p. p.1;
      start = λ k x r p. p.0;
      start-as-lone = λ k x r p. p.1;
      step = λ k x r p. p.0;
      step-as-lone = λ k x r p. p.1;
      look = λ k x r p. p.0;
      look-as-lone = λ k x r p. p.1;
      removal = λ k x r p. p;
    }

-- ---- nothing is asked of a caller: each of them has no `requires`

pub codec-asks : CodecAsks
codec-asks =
    record {
      build = λ k x g w. id⊢ w.𝓤 (emp w.𝓤);
      parts = λ k x g w. id⊢ w.𝓤 (emp w.𝓤);
      parameter = λ k x g w. id⊢ w.𝓤 (emp w.𝓤);
      parameter-named = λ k x g w. id⊢ w.𝓤 (emp w.𝓤);
      protocol-named = λ k x g w. id⊢ w.𝓤 (emp w.𝓤);
      encode-read = λ k x g w. id⊢ w.𝓤 (emp w.𝓤);
      encode-write = λ k x g w. id⊢ w.𝓤 (emp w.𝓤);
      encode-value = λ k x g w. id⊢ w.𝓤 (emp w.𝓤);
      decode-value = λ k x g w. id⊢ w.𝓤 (emp w.𝓤);
      value-of = λ k x g w. id⊢ w.𝓤 (emp w.𝓤);
      kind = λ k x g w. id⊢ w.𝓤 (emp w.𝓤);
      raw = λ k x g w. id⊢ w.𝓤 (emp w.𝓤);
      mode-from = λ k x g w. id⊢ w.𝓤 (emp w.𝓤);
      mode-to = λ k x g w. id⊢ w.𝓤 (emp w.𝓤);
      byte = λ k x g w. id⊢ w.𝓤 (emp w.𝓤);
      signed = λ k x g w. id⊢ w.𝓤 (emp w.𝓤);
      name = λ k x g w. id⊢ w.𝓤 (emp w.𝓤);
      named = λ k x g w. id⊢ w.𝓤 (emp w.𝓤);
      limits-named = λ k x g w. id⊢ w.𝓤 (emp w.𝓤);
      limits = λ k x g w. id⊢ w.𝓤 (emp w.𝓤);
      motion = λ k x g w. id⊢ w.𝓤 (emp w.𝓤);
      gain = λ k x g w. id⊢ w.𝓤 (emp w.𝓤);
      command = λ k x g w. id⊢ w.𝓤 (emp w.𝓤);
      float = λ k x g w. id⊢ w.𝓤 (emp w.𝓤);
      word = λ k x g w. id⊢ w.𝓤 (emp w.𝓤);
      value = λ k x g w. id⊢ w.𝓤 (emp w.𝓤);
      degrees = λ k x g w. id⊢ w.𝓤 (emp w.𝓤);
      status = λ k x g w. id⊢ w.𝓤 (emp w.𝓤);
      fault = λ k x g w. id⊢ w.𝓤 (emp w.𝓤);
      ping = λ k x g w. id⊢ w.𝓤 (emp w.𝓤);
      ping-parts = λ k x g w. id⊢ w.𝓤 (emp w.𝓤);
      is-version = λ k x g w. id⊢ w.𝓤 (emp w.𝓤);
      version = λ k x g w. id⊢ w.𝓤 (emp w.𝓤);
      ask-version = λ k x g w. id⊢ w.𝓤 (emp w.𝓤);
      numbers = λ k x g w. id⊢ w.𝓤 (emp w.𝓤);
      protocol = λ k x g w. id⊢ w.𝓤 (emp w.𝓤);
      set-protocol = λ k x g w. id⊢ w.𝓤 (emp w.𝓤);
    }

pub motor-asks : MotorAsks
motor-asks =
    record {
      none = λ k x g w. id⊢ w.𝓤 (emp w.𝓤);
      find = λ k x g w. id⊢ w.𝓤 (emp w.𝓤);
      put = λ k x g w. id⊢ w.𝓤 (emp w.𝓤);
      drop = λ k x g w. id⊢ w.𝓤 (emp w.𝓤);
      listed = λ k x g w. id⊢ w.𝓤 (emp w.𝓤);
      accepted = λ k x g w. id⊢ w.𝓤 (emp w.𝓤);
      arrival = λ k x g w. id⊢ w.𝓤 (emp w.𝓤);
      heard = λ k x g w. id⊢ w.𝓤 (emp w.𝓤);
      quiet = λ k x g w. id⊢ w.𝓤 (emp w.𝓤);
      edits = λ k x g w. id⊢ w.𝓤 (emp w.𝓤);
      candidates = λ k x g w. id⊢ w.𝓤 (emp w.𝓤);
      no-frame = λ k x g w. id⊢ w.𝓤 (emp w.𝓤);
      no-operation = λ k x g w. id⊢ w.𝓤 (emp w.𝓤);
      begins = λ k x g w. id⊢ w.𝓤 (emp w.𝓤);
      advances = λ k x g w. id⊢ w.𝓤 (emp w.𝓤);
      admission-of = λ k x g w. id⊢ w.𝓤 (emp w.𝓤);
      admission = λ k x g w. id⊢ w.𝓤 (emp w.𝓤);
      new = λ k x g w. id⊢ w.𝓤 (emp w.𝓤);
      start = λ k x g w. id⊢ w.𝓤 (emp w.𝓤);
      step = λ k x g w. id⊢ w.𝓤 (emp w.𝓤);
      look = λ k x g w. id⊢ w.𝓤 (emp w.𝓤);
      removal = λ k x g w. id⊢ w.𝓤 (emp w.𝓤);
      thin-heard = λ k x g w. id⊢ w.𝓤 (emp w.𝓤);
    }

pub thin-rules : ThinRules
thin-rules = record { heard = λ w k m end f time r. refl }
