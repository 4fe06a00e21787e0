-- Cases of a test, and of two numbers.
-- Assumes nothing.
use Prim.Native.Nat.{ℕ, zero, suc, ◌≤◌, ◌<◌}
use mathlib.Core.Path.{◌≡◌, refl}
use mathlib.Core.Bool.{Bool, true, false, ◌||◌, true≢false}
use mathlib.Core.Logic.{◌⊎◌, inl, inr}
use lib.Dec.{eqb, ltb}
use borrow.Author.Tests.{eqb-true, eqb-false, ltb-true, ltb-false}

-- a test is true or false
pub split : {A : Type 0} (v : Bool) → (v ≡ true → A) → (v ≡ false → A) → A
split true f g = f refl
split false f g = g refl

pub neither : (a b : Bool) → (a || b) ≡ false → (a ≡ false) × (b ≡ false)
neither true b h = absurd (true≢false h)
neither false b h = (refl, h)

-- a number is below another or not
pub side : (k n : ℕ) → (k < n) ⊎ (n ≤ k)
side k n = split (ltb k n) (λ e. inl (ltb-true k n e)) (λ e. inr (ltb-false k n e))

-- two numbers are the same or not
pub by : {A : Type 0} (j k : ℕ) → (j ≡ k → A) → ((j ≡ k → ⊥) → A) → A
by j k f g = split (eqb j k) (λ e. f (eqb-true j k e)) (λ e. g (eqb-false j k e))

pub same_or : (j k : ℕ) → (j ≡ k) ⊎ (j ≡ k → ⊥)
same_or j k = by j k (λ e. inl e) (λ e. inr e)

-- a number that is not 0 is one more than another
pub some : (a : ℕ) → (a ≡ 0 → ⊥) → (m : ℕ) × (a ≡ suc m)
some zero n = absurd (n refl)
some (suc m) n = (m, refl)
