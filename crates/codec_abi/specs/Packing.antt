-- Payloads, refusals and flags as numbers. Definitions only.
use Rattle.std.specs.Prelude.{ℕ, ◌+◌, ◌*◌, ◌/◌, ◌%◌, ◌^◌, Bool, cond, List, [], ◌∷◌, Result, ⊤}
use Rattle.codec.specs.declared.error.Refusal.{Refusal}
use Rattle.codec.specs.Numbers.{checked_row}
use Rattle.codec.specs.Values.{le32}

-- the payload of a number, the lowest byte first
abbrev pub payload_of : ℕ → List ℕ
payload_of n =
    n % 256 ∷ n / 2 ^ 8 % 256 ∷ n / 2 ^ 16 % 256 ∷ n / 2 ^ 24 % 256 ∷ n / 2 ^ 32 % 256 ∷ n / 2 ^ 40 % 256 ∷ n / 2 ^ 48 % 256 ∷ n / 2 ^ 56 % 256 ∷ []

-- the number of a payload
abbrev pub packed : List ℕ → ℕ
packed payload = le32 payload 0 + le32 payload 4 * 2 ^ 32

-- the numbers of the first eight and the last eight of 16 bytes
abbrev pub first_half : List ℕ → ℕ
first_half bytes = le32 bytes 0 + le32 bytes 4 * 2 ^ 32

abbrev pub second_half : List ℕ → ℕ
second_half bytes = le32 bytes 8 + le32 bytes 12 * 2 ^ 32

-- a refusal's number, 0 where there is none
abbrev pub refusal_in : Result ⊤ Refusal → ℕ
refusal_in said = (checked_row said).0

-- what a flag adds to a word of flags
abbrev pub flag : Bool → ℕ → ℕ
flag set weight = cond set weight 0
