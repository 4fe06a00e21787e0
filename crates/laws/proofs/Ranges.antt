-- The test of a range of numbers, and what it says; and what holds throughout a range.
-- Assumes nothing.
use mathlib.Core.Path.{◌≡◌, refl, subst}
use mathlib.Core.Bool.{Bool, true, false}
use Prim.Native.Nat.{ℕ, ◌+◌, ◌-◌, ◌<◌, ◌≤◌}
use native.Mathlib.Omega.{arith}
use borrow.Author.Tests.{leb-true, leb-false, le-leb, lt-leb}
use lib.Dec.{leb}
use Rattle.laws.specs.Pick.{pick, within}

pub within-inside : (low high n : ℕ) → low ≤ n → n ≤ high → within low high n ≡ true
within-inside low high n p q = rw (le-leb low n p, le-leb n high q)

pub within-below : (low high n : ℕ) → n < low → within low high n ≡ false
within-below low high n p = rw (lt-leb low n p)

pub within-above : (low high n : ℕ) → high < n → within low high n ≡ false
within-above low high n p = rw (lt-leb n high p) (either (leb low n))
  where
    either : (t : Bool) → pick t false false ≡ false
    either true = refl
    either false = refl

-- where a number lies, with the test's answer
pub data Ranged (low high n : ℕ) : Type 0 where
  below : within low high n ≡ false → n < low → Ranged low high n
  inside : within low high n ≡ true → low ≤ n → n ≤ high → Ranged low high n
  above : within low high n ≡ false → high < n → Ranged low high n

pub ranged : (low high n : ℕ) → Ranged low high n
ranged low high n = go (leb low n) (leb n high) refl refl
  where
    go : (p q : Bool) → leb low n ≡ p → leb n high ≡ q → Ranged low high n
    go true true d e = inside (rw (d, e)) (leb-true low n d) (leb-true n high e)
    go true false d e = above (rw (d, e)) (leb-false n high e)
    go false q d e = below (rw d) (leb-false low n d)

-- what holds of each place of a part, counted from its first, holds of each place in it
pub in_part : (P : ℕ → Type 0) (from size i : ℕ) → ((k : ℕ) → k < size → P (from + k)) → from ≤ i → i < from + size → P i
in_part P from size i h lo hi =
    let q : from + (i - from) ≡ i = omega arith in
    subst P q (h (i - from) (omega arith))
