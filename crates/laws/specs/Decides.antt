-- When a yes-or-no answer decides a fact. Assumes nothing: this is a definition.
use Rattle.std.specs.Prelude.{ℕ, ◌≡◌, Bool, true, false}
use Rattle.std.proofs.Common.{arith}

-- the answer is true where the fact holds, and false where it does not
pub record Decides (r : Bool) (P : Type 0) : Type 0 where
  pub holds : r ≡ true → P
  pub fails : r ≡ false → P → ⊥

-- true decides what holds
example : Decides true (true ≡ true)
example = record { holds = λ e. e; fails = λ e p. let z : ◌≡◌ {A = ℕ} 0 1 = cc in omega arith }
