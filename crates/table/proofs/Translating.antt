-- The machine on the translation of statements does what the rules over the statements say. Assumes nothing.
use Prim.Native.Nat.{ℕ, suc, ◌+◌}
use native.Mathlib.Omega.{arith}
use mathlib.Core.Path.{◌≡◌, refl, ◌∙◌}
use mathlib.Core.Bool.{Bool}
use mathlib.Core.List.{List, [], ◌∷◌}
use lib.ListN.{length}
use Rattle.laws.proofs.Cases.{split}
use Rattle.syntax.specs.Circuit.{Formula, signal, constant, negated, combined, Actions, done, assign, branch, null}
use Rattle.rules.specs.Outcome.{gives, ◌then◌}
use Rattle.rules.specs.Formulas.{Values, value, size}
use Rattle.rules.specs.Pending.{Pending, change, post}
use Rattle.rules.specs.Statements.{after, steps}
use Rattle.rules.specs.Sized.{instructions}
use Rattle.table.proofs.Outcomes.{onward, onward₂}
use Rattle.table.specs.Instructions.{Instruction, negation, binary}
use Rattle.table.specs.Machine.{does, walk}
use Rattle.table.specs.Translation.{formula_code, code}

module _ (vs : Values) (now : ℕ) where
  -- the same place, the same number to pass and the same steps, however they are written
  place : (is : List Instruction) (ops : List Bool) (p : Pending) {x y j k n m : ℕ} → x ≡ y → j ≡ k → n ≡ m
      → walk vs now x j is ops p n ≡ walk vs now y k is ops p m
  place is ops p ex ej en = λ i. walk vs now (ex i) (ej i) is ops p (en i)

  -- a formula's instructions leave its value on top of the operands; addresses and steps are given up to an equation
  evaluates : (e : Formula) (x n : ℕ) (is : List Instruction) (ops : List Bool) (p : Pending) {y m : ℕ} → x + size e ≡ y → n + size e ≡ m
      → walk vs now x 0 (formula_code e is) ops p n ≡ walk vs now y 0 is (value vs e ∷ ops) p m
  unfolding walk does formula_code value size
  evaluates (signal k) x n is ops p hy hm = place is _ p (omega arith) refl (omega arith)
  evaluates (constant b) x n is ops p hy hm = place is _ p (omega arith) refl (omega arith)
  evaluates (negated e) x n is ops p hy hm = evaluates e x n _ ops p refl refl ∙ place is _ p (omega arith) refl (omega arith)
  evaluates (combined o a b) x n is ops p hy hm =
      evaluates a x n _ ops p refl refl ∙ evaluates b _ _ _ _ p refl refl ∙ place is _ p (omega arith) refl (omega arith)

  -- a formula's instructions are passed over, and then j more
  passes_formula : (e : Formula) (x j n : ℕ) (is : List Instruction) (ops : List Bool) (p : Pending) {y k : ℕ} → size e + j ≡ k → x + size e ≡ y
      → walk vs now x k (formula_code e is) ops p n ≡ walk vs now y j is ops p n
  unfolding walk formula_code size
  passes_formula (signal i) x j n is ops p {y} {k} hk hy = let h : k ≡ suc j = omega arith in rw h (place is ops p (omega arith) refl refl)
  passes_formula (constant b) x j n is ops p {y} {k} hk hy = let h : k ≡ suc j = omega arith in rw h (place is ops p (omega arith) refl refl)
  passes_formula (negated e) x j n is ops p hk hy =
      passes_formula e x (suc j) n _ ops p (omega arith) refl ∙ place is ops p (omega arith) refl refl
  passes_formula (combined o a b) x j n is ops p hk hy =
      passes_formula a x (size b + suc j) n _ ops p (omega arith) refl
      ∙ passes_formula b _ (suc j) n _ ops p refl refl
      ∙ place is ops p (omega arith) refl refl

  -- and so are those of statements
  passes : (ss : Actions) (x y j n : ℕ) (is : List Instruction) (ops : List Bool) (p : Pending) {z k : ℕ} → instructions ss + j ≡ k → x + instructions ss ≡ z
      → walk vs now x k (code y ss is) ops p n ≡ walk vs now z j is ops p n
  unfolding walk code instructions
  passes done x y j n is ops p hk hz = place is ops p (omega arith) (omega arith) refl
  passes (assign i e d ss) x y j n is ops p hk hz =
      passes_formula e x (suc (instructions ss + j)) n _ ops p (omega arith) refl ∙ passes ss _ _ j n is ops p refl (omega arith)
  passes (branch e a b ss) x y j n is ops p hk hz =
      let behind = instructions b + (instructions ss + j) in
      passes_formula e x (suc (instructions a + suc behind)) n _ ops p (omega arith) refl
      ∙ passes a _ _ (suc behind) n _ ops p refl refl
      ∙ passes b _ _ (instructions ss + j) n _ ops p refl refl
      ∙ passes ss _ _ j n is ops p refl (omega arith)
  passes (null ss) x y j n is ops p hk hz = passes ss x y j n is ops p hk hz

  runs : (ss : Actions) (n : ℕ) (is : List Instruction) (ops : List Bool) (p : Pending) {x y z m : ℕ}
      → x ≡ y → x + instructions ss ≡ z → n + steps vs ss ≡ m
      → walk vs now x 0 (code y ss is) ops p n ≡ (after vs now ss p then (λ q. walk vs now z 0 is ops q m))
  unfolding walk does code instructions after steps
  runs done n is ops p hy hz hm = place is ops p (omega arith) refl (omega arith)
  runs (assign k e d ss) n is ops p hy hz hm =
      evaluates e _ n _ ops p refl refl
      ∙ onward₂ (post k (change (now + d) (value vs e)) p) _ _ _ _ (λ q. runs ss _ is ops q (omega arith) (omega arith) (omega arith))
  runs (branch e a b ss) n is ops p {x} {y} {z} {m} hy hz hm =
      evaluates e _ n _ ops p refl refl
      ∙ split (value vs e)
      (λ h.
      let g : n + (size e + 1 + (steps vs a + 1) + steps vs ss) ≡ m = rw h at hm in
      rw h
      (runs a _ _ ops p (omega arith) refl refl
      ∙ onward (after vs now a p) _ _ _
      (λ q. passes b _ _ 0 _ _ ops q (omega arith) refl ∙ runs ss _ is ops q (omega arith) (omega arith) (omega arith))))
      (λ h.
      let g : n + (size e + 1 + steps vs b + steps vs ss) ≡ m = rw h at hm in
      rw h
      (passes a _ _ 1 _ _ ops p (omega arith) refl
      ∙ runs b _ _ ops p (omega arith) refl refl
      ∙ onward (after vs now b p) _ _ _ (λ q. runs ss _ is ops q (omega arith) (omega arith) (omega arith))))
  runs (null ss) n is ops p hy hz hm = runs ss n is ops p hy hz hm

  -- the theorem: from its first instruction to its end, with no operands, the code does what the statements do: pending changes, steps, refusal
  pub meaning : (ss : Actions) (x : ℕ) (p : Pending) (n : ℕ)
      → walk vs now x 0 (code x ss []) [] p n ≡ (after vs now ss p then (λ q. gives (record { pending = q; steps = n + steps vs ss })))
  unfolding walk
  meaning ss x p n = runs ss n [] [] p refl refl refl

-- the code has as many instructions as are counted over the statements
pub length_formula : (e : Formula) (is : List Instruction) → length (formula_code e is) ≡ size e + length is
unfolding formula_code size
length_formula (signal k) is = omega arith
length_formula (constant b) is = omega arith
length_formula (negated e) is = omega (arith, length_formula e (negation ∷ is))
length_formula (combined o a b) is = omega (arith, length_formula a (formula_code b (binary o ∷ is)), length_formula b (binary o ∷ is))

pub length-code : (ss : Actions) (x : ℕ) (is : List Instruction) → length (code x ss is) ≡ instructions ss + length is
unfolding code instructions
length-code done x is = omega arith
length-code (assign k e d ss) x is = simp (length_formula, length-code ss) (omega arith)
length-code (branch e a b ss) x is = simp (length_formula, length-code a, length-code b, length-code ss) (omega arith)
length-code (null ss) x is = length-code ss x is
