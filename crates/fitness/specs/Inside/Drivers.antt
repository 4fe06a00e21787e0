-- Which process posts a signal, and the list of the signals' drivers.
-- Assumes nothing: these are definitions.
use Rattle.std.specs.Prelude.{ℕ, suc, ◌≤◌, ◌<◌, ◌≡◌, Bool, true, false, List, Option, Some, None, length, get_or, set}
use Rattle.table.specs.Instructions.{Instruction, name, literal, negation, binary, assignment, test, skip}
use Rattle.table.specs.Table.{Table, begins}
use Rattle.table.specs.Fit.{at}

-- the instruction is an assignment to signal k
abbrev pub Posts : Instruction → ℕ → Type 0
Posts (name i) k = ⊥
Posts (literal b) k = ⊥
Posts negation k = ⊥
Posts (binary o) k = ⊥
Posts (assignment i d) k = i ≡ k
Posts (test t) k = ⊥
Posts (skip t) k = ⊥

-- process p has one
pub record Drives (t : Table) (p k : ℕ) : Type 0 where
  pub place : ℕ
  pub behind : begins t p ≤ place
  pub before : place < begins t (suc p)
  pub posts : Posts (at t.code place) k

abbrev pub Alone : Table → ℕ → Type 0
Alone t n = (p q k : ℕ) → p < n → q < n → Drives t p k → Drives t q k → p ≡ q

-- process p is noted as the driver of a signal, unless another process is
pub record Claimed (own : List (Option ℕ)) (signal p : ℕ) (r : Bool) (new : List (Option ℕ)) : Type 0 where
  pub noted : r ≡ true → new ≡ set own signal (Some p)
  pub free : r ≡ true → (q : ℕ) → get_or own signal None ≡ Some q → q ≡ p
  pub taken : r ≡ false → (q : ℕ) × (get_or own signal None ≡ Some q) × (q ≡ p → ⊥)

-- the drivers when the instructions below x are done, of n processes
pub record Owned (t : Table) (n x : ℕ) (own : List (Option ℕ)) : Type 0 where
  pub long : length own ≡ 64
  pub known : (k q : ℕ) → get_or own k None ≡ Some q → (q < n) × Drives t q k
  pub done : (q i k : ℕ) → q < n → begins t q ≤ i → i < begins t (suc q) → i < x → Posts (at t.code i) k → get_or own k None ≡ Some q

pub record Drove (t : Table) (n x : ℕ) (r : Bool) (own : List (Option ℕ)) : Type 0 where
  pub holds : r ≡ true → Owned t n x own
  pub fails : r ≡ false → Alone t n → ⊥
