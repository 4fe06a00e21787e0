-- When an amount of a unit is a delay.
-- Assumes nothing.
use mathlib.Core.Path.{◌≡◌}
use Prim.Native.Nat.{ℕ, ◌*◌, ◌/◌, ◌<◌, ◌≤◌}
use native.Mathlib.Nat.{le-div_iff_mul-le, div-lt_iff_lt-mul}
use borrow.Author.Tests.{le-leb, lt-leb}
use Rattle.words.specs.Unit.{femtoseconds_of, longest, delay_of}
use Rattle.words.specs.declared.unit.TimeUnit.{TimeUnit}
use Rattle.std.specs.Prelude.{Some, None}

module _ (u : TimeUnit) (amount size : ℕ) (is : size ≡ femtoseconds_of u) (some : 0 < size) where
  pub short : amount ≤ longest / size → amount * size ≤ longest
  short h = (le-div_iff_mul-le some).0 h

  pub delay-short : amount ≤ longest / size → Some (amount * size) ≡ delay_of amount u
  delay-short h = rw (← is, le-leb _ _ (short h))

  pub delay-long : longest / size < amount → None ≡ delay_of amount u
  delay-long h = rw (← is, lt-leb _ _ ((div-lt_iff_lt-mul some).0 h))
