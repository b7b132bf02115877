-- A number is kept by its payload, so a payload that crosses as a number loses nothing. Assumes nothing.
use Prim.Native.Nat.{ℕ, ◌+◌, ◌*◌, ◌/◌, ◌%◌, ◌^◌, ◌<◌}
use mathlib.Core.Path.{◌≡◌, sym, ap, ◌∙◌}
use native.Mathlib.Omega.{arith}
use native.Mathlib.Nat.{div-div-eq-div-mul}
use Rattle.codec_abi.specs.Packing.{payload_of, packed}

step : (m : ℕ) → m % 256 + m / 256 * 256 ≡ m
step m = omega arith

four : (n : ℕ) → n % 256 + n / 256 % 256 * 256 + n / 65536 % 256 * 65536 + n / 16777216 * 16777216 ≡ n
four n =
    let a : n / 65536 ≡ n / 256 / 256 = sym (div-div-eq-div-mul n 256 256) in
    let b : n / 16777216 ≡ n / 256 / 256 / 256 = sym (div-div-eq-div-mul (n / 256) 256 256 ∙ div-div-eq-div-mul n 256 65536) in
    omega (arith, step n, step (n / 256), step (n / 256 / 256))

-- the four low bytes of a number
unfoldable low : ℕ → ℕ
low n = n % 256 + n / 256 % 256 * 256 + n / 65536 % 256 * 65536 + n / 16777216 % 256 * 16777216

low_part : (n : ℕ) → low n + n / 4294967296 * 4294967296 ≡ n
unfolding low
low_part n =
    let e : n / 16777216 / 256 ≡ n / 4294967296 = div-div-eq-div-mul n 16777216 256 in
    omega (arith, four n, step (n / 16777216))

low-all : (m : ℕ) → m < 4294967296 → low m ≡ m
low-all m h = omega (arith, low_part m)

pub payload-kept : (n : ℕ) → n < 2 ^ 64 → packed (payload_of n) ≡ n
unfolding low
payload-kept n h =
    let m : ℕ = n / 4294967296 in
    let e₁ : n / 1099511627776 ≡ m / 256 = sym (div-div-eq-div-mul n 4294967296 256) in
    let e₂ : n / 281474976710656 ≡ m / 65536 = sym (div-div-eq-div-mul n 4294967296 65536) in
    let e₃ : n / 72057594037927936 ≡ m / 16777216 = sym (div-div-eq-div-mul n 4294967296 16777216) in
    rw (e₁, e₂, e₃) (ap (λ (k : ℕ). low n + k * 4294967296) (low-all m (omega arith)) ∙ low_part n)
