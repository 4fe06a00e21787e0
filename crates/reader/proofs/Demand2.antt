-- Demand 2 for the code's answer: a text is accepted exactly where it is that of a design within the sizes to which none of 5 to 10 applies, and
-- refused with a number and a place exactly where that refusal is due; so no second answer meets the promise. Assumes nothing.
use Prim.Native.Nat.{ℕ}
use native.Mathlib.Omega.{arith}
use mathlib.Core.Path.{◌≡◌, refl, ap, subst}
use mathlib.Core.Logic.{◌↔◌}
use mathlib.Core.List.{List}
use Rattle.syntax.specs.Tree.{Design}
use Rattle.names.specs.Judge.{Faultless}
use Rattle.names.specs.Text.{accepts, refuses, Written, Gets, faultless}
use Rattle.names.proofs.Answer.{one_answer}
use Rattle.std.specs.Prelude.{Result, Ok, Err}
use Rattle.refusal.specs.declared.Refusal.{Refusal}
use Rattle.refusal.specs.Numbers.{number_of, RefusedAs}
use Rattle.refusal.proofs.Numbers.{one_refusal}
use Rattle.reader.specs.Answers.{Answers}

module _ (text : List ℕ) where
  pub never_both : {d : Design} {number place : ℕ} → Gets text (accepts d) → Gets text (refuses number place) → ⊥
  never_both g h = let e = one_answer text _ _ g h in let z : ◌≡◌ {A = ℕ} 0 1 = cc in omega arith

  -- NO SECOND OUTCOME FITS
  pub one_outcome : (r r' : Result (Unit {0}) Refusal) → Answers text r → Answers text r' → r ≡ r'
  one_outcome (Ok u) (Ok w) a b = refl
  one_outcome (Ok tt) (Err f) a b = absurd (never_both a.1 b)
  one_outcome (Err e) (Ok tt) a b = absurd (never_both b.1 a)
  one_outcome (Err e) (Err f) a b =
      let o = one_answer text _ _ a b in
      let n : number_of e.reason ≡ number_of f.reason = cc in
      let p : e.place ≡ f.place = cc in
      ap Err (one_refusal e f n p)

  -- DEMAND 2
  pub accepted_exactly : (r : Result (Unit {0}) Refusal) → Answers text r → (r ≡ Ok tt) ↔ ((d : Design) × Written text d × Faultless d)
  accepted_exactly r a = (λ e. there (subst (Answers text) e a), λ w. one_outcome r (Ok tt) a (w.0, faultless w.1 w.2))
    where
      there : Answers text (Ok tt) → (d : Design) × Written text d × Faultless d
      there (d, faultless w f) = (d, w, f)

  pub refused_exactly : (r : Result (Unit {0}) Refusal) → Answers text r → (number place : ℕ) → RefusedAs r number place ↔ Gets text (refuses number place)
  refused_exactly (Ok tt) a number place = (λ e. absurd e, λ g. absurd (never_both a.1 g))
  refused_exactly (Err e) a number place = (λ w. rw (← w.0, ← w.1) a, λ g. let o = one_answer text _ _ a g in (cc, cc))
