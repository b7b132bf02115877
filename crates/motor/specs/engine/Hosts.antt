-- Host candidates: the motor's own, then FD, FF, FE, with adjacent equals dropped. Definitions only.
use Rattle.std.specs.Prelude.{ℕ, ◌+◌, cond, List, [], ◌∷◌, ◌++◌, length, take, ◌==◌, nat_lt, slice_index, Option, Some, None}
use Rattle.motor.specs.declared.engine.candidates.Candidates.{Candidates}
use Rattle.motor.specs.declared.engine.candidates.Hosts.{Hosts}
use Rattle.motor.specs.declared.engine.candidates.Hosts.TheVariants as hosts

-- adjacent equals dropped
abbrev pub dedup_from : ℕ → List ℕ → List ℕ
dedup_from a [] = []
dedup_from a (b ∷ l) = cond (a == b) (dedup_from b l) (b ∷ dedup_from b l)

abbrev pub dedup : List ℕ → List ℕ
dedup [] = []
dedup (a ∷ l) = a ∷ dedup_from a l

abbrev pub candidates : ℕ → List ℕ
candidates own = dedup (own ∷ 0xFD ∷ 0xFF ∷ 0xFE ∷ [])

-- four places, those past the count 0
unfoldable pub host_candidates : ℕ → Candidates
host_candidates own = record { hosts = take 4 (candidates own ++ (0 ∷ 0 ∷ 0 ∷ 0 ∷ [])); count = length (candidates own) }

-- the host at a place, with the next place
abbrev pub host_at : Candidates → ℕ → Option (ℕ × ℕ)
host_at c i = cond (nat_lt i c.count) (Some (slice_index c.hosts i, i + 1)) None

-- a request goes to the candidates in turn; or once, to one named host or to the motor's own

abbrev pub first_host : ℕ → Hosts → ℕ
first_host own hosts.Candidates = own
first_host own (hosts.Named h) = h
first_host own hosts.Own = own

abbrev pub next_host : ℕ → Hosts → ℕ → Option (ℕ × ℕ)
next_host own hosts.Candidates i = host_at (host_candidates own) i
next_host own (hosts.Named h) i = None
next_host own hosts.Own i = None
