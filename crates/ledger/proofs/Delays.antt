-- A delay, or one that is too long.
-- Assumes nothing.
use mathlib.Core.Path.{◌≡◌, refl, sym}
use mathlib.Core.Bool.{Bool, true, false}
use mathlib.Core.List.{List}
use Prim.Native.Nat.{ℕ, ◌*◌, ◌<◌, ◌≤◌}
use native.Mathlib.Omega.{arith}
use borrow.Author.Tests.{leb-true, leb-false}
use lib.Dec.{leb}
use lib.ListN.{get_or}
use Rattle.laws.specs.Pick.{pick}
use Rattle.words.specs.Unit.{femtoseconds_of, longest, delay_of}
use Rattle.words.specs.declared.unit.TimeUnit.{TimeUnit}
use Rattle.std.specs.Prelude.{Some, None}
use Rattle.ledger.specs.Inside.Standing.{Lasts}

module _ (v : ℕ) (u : TimeUnit) where
  pub timed : (n : ℕ) → delay_of v u ≡ Some n → (v * femtoseconds_of u ≤ longest) × (v * femtoseconds_of u ≡ n)
  timed n e = go (leb (v * femtoseconds_of u) longest) refl e
    where
      go : (b : Bool) → leb (v * femtoseconds_of u) longest ≡ b → pick b (Some (v * femtoseconds_of u)) None ≡ Some n
          → (v * femtoseconds_of u ≤ longest) × (v * femtoseconds_of u ≡ n)
      go true h e = (leb-true _ _ h, cc)
      go false h e = let z : ◌≡◌ {A = ℕ} 0 1 = cc in absurd (omega arith)

  pub untimed : delay_of v u ≡ None → longest < v * femtoseconds_of u
  untimed e = go (leb (v * femtoseconds_of u) longest) refl e
    where
      go : (b : Bool) → leb (v * femtoseconds_of u) longest ≡ b → pick b (Some (v * femtoseconds_of u)) None ≡ None → longest < v * femtoseconds_of u
      go true h e = let z : ◌≡◌ {A = ℕ} 0 1 = cc in absurd (omega arith)
      go false h e = leb-false _ _ h

  module _ (l : List ℕ) where
    pub lasts : (n : ℕ) → delay_of v u ≡ Some n → Lasts l v u n
    lasts n e = let h = timed n e in record { time_is = λ z g. sym h.1; short = omega (arith, h.0, h.1) }

    pub lasts_too_long : delay_of v u ≡ None → Lasts l v u 0
    lasts_too_long e = record { time_is = λ z g. absurd (omega (arith, untimed e)); short = omega arith }

    pub lasts-nothing : (get_or l 0 0 ≡ 0 → ⊥) → Lasts l v u 0
    lasts-nothing f = record { time_is = λ z g. absurd (f z); short = omega arith }
