-- Fault reports: two words, low bytes first, and the flags that are their bits. Definitions only.
use Rattle.std.specs.Prelude.{ℕ, List}
use Rattle.codec.specs.declared.faults.FaultFlags.{FaultFlags}
use Rattle.codec.specs.declared.faults.WarningFlags.{WarningFlags}
use Rattle.codec.specs.declared.faults.FaultReport.{FaultReport}
use Rattle.codec.specs.Status.{bit}
use Rattle.codec.specs.Values.{le32}

abbrev pub fault_flags : ℕ → FaultFlags
fault_flags n =
    record {
      phase_a_overcurrent = bit n 16;
      stall_overload = bit n 14;
      position_init_fault = bit n 9;
      hardware_id_fault = bit n 8;
      encoder_uncalibrated = bit n 7;
      phase_c_overcurrent = bit n 5;
      phase_b_overcurrent = bit n 4;
      overvoltage = bit n 3;
      undervoltage = bit n 2;
      driver_fault = bit n 1;
      overtemperature = bit n 0;
    }

abbrev pub warning_flags : ℕ → WarningFlags
warning_flags n = record { overtemperature_warning = bit n 0 }

abbrev pub decode_fault_report : List ℕ → FaultReport
decode_fault_report payload =
    record {
      fault_raw = le32 payload 0;
      warning_raw = le32 payload 4;
      faults = fault_flags (le32 payload 0);
      warnings = warning_flags (le32 payload 4);
    }
