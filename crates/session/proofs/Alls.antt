-- The word of the first n numbers. Assumes nothing.
use Prim.Native.Nat.{ℕ, zero, suc, ◌+◌, ◌*◌, ◌-◌, ◌/◌, ◌%◌, ◌^◌, ◌<◌, ◌≤◌}
use mathlib.Core.Path.{◌≡◌, ap, sym, ◌∙◌}
use mathlib.Core.Bool.{true}
use native.Mathlib.Omega.{arith}
use lib.Pow.{pow_pos, ones_lt, ones_split, high}
use Rattle.table.specs.Table.{bit}
use Rattle.session.specs.Inside.Goings.{AllOf}

ones-set : (n k : ℕ) → k < n → bit (2 ^ n - 1) k ≡ true
unfolding bit
ones-set zero k l = absurd (omega arith)
ones-set (suc n) zero l =
    let d : 2 * 2 ^ n ≡ 2 ^ suc n = omega arith in
    let e : (2 ^ suc n - 1) % 2 ≡ 1 = omega (arith, pow_pos n) in
    rw e
ones-set (suc n) (suc k) l =
    let d : 2 * 2 ^ n ≡ 2 ^ suc n = omega arith in
    let e : (2 ^ suc n - 1) / 2 ≡ 2 ^ n - 1 = omega (arith, pow_pos n) in
    rw e (ones-set n k (omega arith))

pub all_none : (n : ℕ) → n ≡ 0 → AllOf n 0
all_none n e = record { small = pow_pos n; set = λ k l. absurd (omega arith) }

pub all_some : (n : ℕ) → n ≤ 64 → AllOf n (18446744073709551615 / 2 ^ (64 - n))
all_some n l =
    let q : n + (64 - n) ≡ 64 = omega arith in
    let whole : 18446744073709551615 ≡ (2 ^ n - 1) * 2 ^ (64 - n) + (2 ^ (64 - n) - 1) = sym (ap (λ m. 2 ^ m - 1) q) ∙ ones_split n (64 - n) in
    let e : 18446744073709551615 / 2 ^ (64 - n) ≡ 2 ^ n - 1 = ap (λ w. w / 2 ^ (64 - n)) whole ∙ high (2 ^ n - 1) (64 - n) (ones_lt (64 - n)) in
    rw e (record { small = ones_lt n; set = ones-set n })
