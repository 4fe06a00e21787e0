-- Answers that decide a fact. Assumes nothing.
use Prim.Native.Nat.{ℕ}
use native.Mathlib.Omega.{arith}
use mathlib.Core.Path.{◌≡◌, refl, sym}
use mathlib.Core.Bool.{Bool, true, false}
use Rattle.laws.specs.Decides.{Decides}

pub differ : {A : Type 0} → true ≡ false → A
differ e = absurd (let z : ◌≡◌ {A = ℕ} 0 1 = cc in omega arith)

pub decides_yes : (P : Type 0) → P → Decides true P
decides_yes P p = record { holds = λ e. p; fails = λ e. differ e }

pub decides_no : (P : Type 0) → (P → ⊥) → Decides false P
decides_no P n = record { holds = λ e. differ (sym e); fails = λ e. n }

-- a fact that is another where the answer is asked
pub decides_as : (r : Bool) (P Q : Type 0) → (P → Q) → (Q → P) → Decides r P → Decides r Q
decides_as r P Q f g d = record { holds = λ e. f (d.holds e); fails = λ e q. d.fails e (g q) }

-- no second answer fits
pub one_answer : (r s : Bool) (P : Type 0) → Decides r P → Decides s P → r ≡ s
one_answer true true P d e = refl
one_answer false false P d e = refl
one_answer true false P d e = absurd (e.fails refl (d.holds refl))
one_answer false true P d e = absurd (d.fails refl (e.holds refl))

-- where the fact holds the answer is true
pub answers : (r : Bool) (P : Type 0) → Decides r P → P → r ≡ true
answers true P d p = refl
answers false P d p = absurd (d.fails refl p)
