-- No second outcome of `read` fits: two answers that both meet its promise are the same, and leave the same words. So a table is written exactly
-- where it is long enough and the text is that of a design within the sizes to which none of 5 to 10 applies. Assumes nothing.
use Prim.Native.Nat.{ℕ, ◌≤◌}
use native.Mathlib.Omega.{arith}
use mathlib.Core.Path.{◌≡◌, refl, sym, ap, ◌∙◌, subst}
use mathlib.Core.Logic.{◌↔◌}
use mathlib.Core.List.{List, ◌++◌}
use lib.ListN.{length, drop}
use Rattle.syntax.specs.Tree.{Design}
use Rattle.table.specs.Translation.{translate}
use Rattle.names.specs.CircuitOf.{circuit_of}
use Rattle.names.specs.Judge.{Faultless}
use Rattle.names.specs.Text.{accepts, Written as TextOf, Gets, faultless}
use Rattle.names.proofs.Answer.{one_answer}
use Rattle.layout.specs.TableWords.{table_size, table_words}
use Rattle.std.specs.Prelude.{Result, Ok, Err}
use Rattle.refusal.specs.declared.Refusal.{Refusal}
use Rattle.refusal.specs.Numbers.{RefusedAs}
use Rattle.refusal.proofs.Numbers.{one_refusal}
use Rattle.reader.specs.Tabled.{RefusedWith, short, turned, Translates, Tables}

module _ (text table : List ℕ) where
  same_refusal : {n p m q : ℕ} → RefusedWith text table n p → RefusedWith text table m q → (n ≡ m) × (p ≡ q)
  same_refusal (short h) (short g) = (refl, refl)
  same_refusal (short h) (turned g x) = absurd (omega arith)
  same_refusal (turned h x) (short g) = absurd (omega arith)
  same_refusal (turned h x) (turned g y) = let e = one_answer text _ _ x y in (cc, cc)

  never_both : {n p : ℕ} {after : List ℕ} → RefusedWith text table n p → Translates text table after → ⊥
  never_both (short h) s = omega (arith, s.long)
  never_both (turned h x) s = let e = one_answer text _ _ x s.gets in let z : ◌≡◌ {A = ℕ} 0 1 = cc in omega arith

  same_words : {a b : List ℕ} → Translates text table a → Translates text table b → a ≡ b
  same_words s u =
      let e = one_answer text _ _ s.gets u.gets in
      let d : s.tree ≡ u.tree = cc in
      s.words ∙ ap (λ (t : Design). table_words (translate (circuit_of t)) ++ drop table_size table) d ∙ sym u.words

  -- NO SECOND OUTCOME FITS
  pub one_outcome : (r r' : Result (Unit {0}) Refusal) (after after' : List ℕ) → Tables text table r after → Tables text table r' after' → (r ≡ r') × (after ≡ after')
  one_outcome (Ok u) (Ok w) a b x y = (refl, same_words x y)
  one_outcome (Ok tt) (Err f) a b x y = absurd (never_both y.0 x)
  one_outcome (Err e) (Ok tt) a b x y = absurd (never_both x.0 y)
  one_outcome (Err e) (Err f) a b x y = let s = same_refusal x.0 y.0 in (ap Err (one_refusal e f s.0 s.1), x.1 ∙ sym y.1)

  -- DEMAND 2
  pub written_exactly : (r : Result (Unit {0}) Refusal) (after : List ℕ) → Tables text table r after → (r ≡ Ok tt) ↔ ((table_size ≤ length table) × ((d : Design) × TextOf text d × Faultless d))
  written_exactly r after a = (λ e. there (subst (λ (x : Result (Unit {0}) Refusal). Tables text table x after) e a), λ w. (one_outcome r (Ok tt) after _ a (back w)).0)
    where
      there : Translates text table after → (table_size ≤ length table) × ((d : Design) × TextOf text d × Faultless d)
      there s = (s.long, of_text s.gets)
        where
          of_text : {d : Design} → Gets text (accepts d) → (d : Design) × TextOf text d × Faultless d
          of_text {d} (faultless w f) = (d, w, f)

      back : (w : (table_size ≤ length table) × ((d : Design) × TextOf text d × Faultless d)) → Translates text table (table_words (translate (circuit_of w.1.0)) ++ drop table_size table)
      back w = record { long = w.0; tree = w.1.0; gets = faultless w.1.1 w.1.2; words = refl }

  pub refused_exactly : (r : Result (Unit {0}) Refusal) (after : List ℕ) → Tables text table r after → (number place : ℕ)
      → RefusedAs r number place ↔ RefusedWith text table number place
  refused_exactly (Ok tt) after a number place = (λ e. absurd e, λ g. absurd (never_both g a))
  refused_exactly (Err e) after a number place = (λ w. rw (← w.0, ← w.1) a.0, λ g. same_refusal a.0 g)
