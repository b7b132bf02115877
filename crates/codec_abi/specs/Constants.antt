-- The Rust's constants, in its order. Definitions only.
use Rattle.std.specs.Prelude.{ℕ, List, [], ◌∷◌}

abbrev pub communication_types : List ℕ
communication_types = 0 ∷ 1 ∷ 2 ∷ 3 ∷ 4 ∷ 6 ∷ 7 ∷ 17 ∷ 18 ∷ 21 ∷ 22 ∷ 23 ∷ 24 ∷ 25 ∷ []

abbrev pub parameter_ids : List ℕ
parameter_ids =
    0x2005 ∷ 0x7005 ∷ 0x7006 ∷ 0x700A ∷ 0x700B ∷ 0x7010 ∷ 0x7011 ∷ 0x7014 ∷ 0x7016 ∷ 0x7017 ∷ 0x7018 ∷ 0x7019 ∷ 0x701A ∷ 0x701B ∷ 0x701C ∷ 0x701E ∷ 0x701F ∷ 0x7020 ∷ 0x7021 ∷ 0x7022 ∷ 0x7024 ∷ 0x7025 ∷ 0x7026 ∷ 0x7028 ∷ 0x7029 ∷ 0x702A ∷ 0x702B ∷ 0x702C ∷ 0x702D ∷ 0x702E ∷ 0x2022 ∷ []

-- private, canopen, mit; the marker of a version request; the signature of its reply
abbrev pub protocol_constants : List ℕ
protocol_constants = 0 ∷ 1 ∷ 2 ∷ 0xC4 ∷ 0x00 ∷ 0xC4 ∷ 0x56 ∷ []
