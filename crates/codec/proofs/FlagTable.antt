-- The flags by one table of (bit, field): each flag is its bit, and a struct of which that holds is the decoded one. Assumes nothing.
use mathlib.Core.Path.{◌≡◌, refl, sym}
use mathlib.Core.Bool.{Bool}
use mathlib.Core.List.{List, [], ◌∷◌}
use Prim.Native.Nat.{ℕ, ◌/◌, ◌%◌, ◌^◌}
use Rattle.codec.specs.declared.faults.FaultFlags.{FaultFlags}
use Rattle.codec.specs.declared.faults.WarningFlags.{WarningFlags}
use Rattle.codec.specs.declared.status.StatusFlags.{StatusFlags}
use Rattle.codec.specs.Status.{bit, status_flags}
use Rattle.codec.specs.Faults.{fault_flags, warning_flags}

-- a flag of S: its bit, and its field
pub data Flag (S : Type 0) : Type 0 where
  flag : ℕ → (S → Bool) → Flag S

-- each flag of the table is its bit of n
abbrev pub Told : {S : Type 0} → List (Flag S) → S → ℕ → Type 0
Told [] s n = Unit
Told (flag k field ∷ table) s n = (field s ≡ bit n k) × Told table s n

abbrev pub fault_table : List (Flag FaultFlags)
fault_table =
    flag 0 (λ (f : FaultFlags). f.overtemperature)
    ∷ flag 1 (λ (f : FaultFlags). f.driver_fault)
    ∷ flag 2 (λ (f : FaultFlags). f.undervoltage)
    ∷ flag 3 (λ (f : FaultFlags). f.overvoltage)
    ∷ flag 4 (λ (f : FaultFlags). f.phase_b_overcurrent)
    ∷ flag 5 (λ (f : FaultFlags). f.phase_c_overcurrent)
    ∷ flag 7 (λ (f : FaultFlags). f.encoder_uncalibrated)
    ∷ flag 8 (λ (f : FaultFlags). f.hardware_id_fault)
    ∷ flag 9 (λ (f : FaultFlags). f.position_init_fault)
    ∷ flag 14 (λ (f : FaultFlags). f.stall_overload)
    ∷ flag 16 (λ (f : FaultFlags). f.phase_a_overcurrent)
    ∷ []

abbrev pub warning_table : List (Flag WarningFlags)
warning_table = flag 0 (λ (f : WarningFlags). f.overtemperature_warning) ∷ []

abbrev pub status_table : List (Flag StatusFlags)
status_table =
    flag 8 (λ (f : StatusFlags). f.undervoltage)
    ∷ flag 9 (λ (f : StatusFlags). f.overcurrent)
    ∷ flag 10 (λ (f : StatusFlags). f.overtemperature)
    ∷ flag 11 (λ (f : StatusFlags). f.magnetic_encoder_fault)
    ∷ flag 12 (λ (f : StatusFlags). f.stall)
    ∷ flag 13 (λ (f : StatusFlags). f.uncalibrated)
    ∷ []

-- ---- what is decoded is what the table says

pub faults-told : (n : ℕ) → Told fault_table (fault_flags n) n
faults-told n = (refl, (refl, (refl, (refl, (refl, (refl, (refl, (refl, (refl, (refl, (refl, tt)))))))))))

pub warnings-told : (n : ℕ) → Told warning_table (warning_flags n) n
warnings-told n = (refl, tt)

pub status-told : (n : ℕ) → Told status_table (status_flags n) n
status-told n = (refl, (refl, (refl, (refl, (refl, (refl, tt))))))

-- ---- and nothing else is: the tables name every flag

pub faults-only : (f : FaultFlags) (n : ℕ) → Told fault_table f n → f ≡ fault_flags n
faults-only f n (a, (b, (c, (d, (e, (g, (h, (i, (j, (k, (l, m))))))))))) = rw (sym a, sym b, sym c, sym d, sym e, sym g, sym h, sym i, sym j, sym k, sym l)

pub warnings-only : (f : WarningFlags) (n : ℕ) → Told warning_table f n → f ≡ warning_flags n
warnings-only f n (a, m) = rw (sym a)

pub status-only : (f : StatusFlags) (n : ℕ) → Told status_table f n → f.mode_state ≡ n / 2 ^ 14 % 4 → f.device_id ≡ n % 256 → f ≡ status_flags n
status-only f n (a, (b, (c, (d, (e, (g, m)))))) s i = rw (sym a, sym b, sym c, sym d, sym e, sym g, sym s, sym i)
