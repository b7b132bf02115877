-- A number as text. Definitions only.
use Rattle.std.specs.Prelude.{ℕ, ◌+◌, ◌*◌, ◌-◌, cond, Option, Some, None, option_and_then, List, [], ◌∷◌, length, drop, get_or, ltb, leb, eqb}

-- what a digit stands for, if it is one
unfoldable pub digit_of : ℕ → Option ℕ
digit_of b =
    cond (ltb b 48) None
    (cond (ltb b 58) (Some (b - 48)) (cond (ltb b 65) None (cond (ltb b 71) (Some (b - 55)) (cond (ltb b 97) None (cond (ltb b 103) (Some (b - 87)) None)))))

-- n with the digit d after it: none where d is no digit of the base, and at 2^64 and above
abbrev pub one_more : ℕ → ℕ → ℕ → Option ℕ
one_more base n d = cond (ltb d base) (cond (ltb (n * base + d) 18446744073709551616) (Some (n * base + d)) None) None

-- the number that n goes on to with these digits in base
unfoldable pub read_from : ℕ → ℕ → List ℕ → Option ℕ
read_from base n [] = Some n
read_from base n (b ∷ s) = option_and_then (λ d. option_and_then (λ m. read_from base m s) (one_more base n d)) (digit_of b)

-- one digit or more, in base
unfoldable pub digits_in : ℕ → List ℕ → Option ℕ
digits_in base [] = None
digits_in base (b ∷ s) = read_from base 0 (b ∷ s)

-- decimal, or hexadecimal after 0x
unfoldable pub number_in : List ℕ → Option ℕ
number_in w = cond (leb (length w) 2) (digits_in 10 w) (cond (eqb (get_or w 0 0) 48) (cond (eqb (get_or w 1 0) 120) (digits_in 16 (drop 2 w)) (digits_in 10 w)) (digits_in 10 w))
