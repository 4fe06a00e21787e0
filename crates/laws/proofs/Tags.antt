-- What the arm of a match on an enum tells of its value, by the value's tag.
-- Of an enum A it is told the tags, and how a tag goes back to its value. Assumes nothing.
use mathlib.Core.Path.{◌≡◌, sym, ap, ◌∙◌, subst}
use mathlib.Core.List.{List, [], ◌∷◌}
use mathlib.Core.Logic.{⊎_elim}
use Prim.Native.Nat.{ℕ}
use types.Run.{OneOf}

module _ {A : Type 0} (tag : A → ℕ) (coded : ℕ → A) (back : (a : A) → coded (tag a) ≡ a) where
  pub of_tag : (a : A) (n : ℕ) → tag a ≡ n → a ≡ coded n
  of_tag a n e = sym (back a) ∙ ap coded e

  pub same_tag : (a b : A) → tag a ≡ tag b → a ≡ b
  same_tag a b e = of_tag a (tag b) e ∙ back b

  -- P at each of the arm's tags
  abbrev pub Each : (A → Type 0) → ℕ → List ℕ → Type 0
  Each P n [] = P (coded n)
  Each P n (m ∷ ms) = P (coded n) × Each P m ms

  pub among : (P : A → Type 0) (a : A) (n : ℕ) (ns : List ℕ) → OneOf (n ∷ ns) (tag a) → Each P n ns → P a
  among P a n [] e p = subst P (sym (of_tag a n e)) p
  among P a n (m ∷ ms) e p = ⊎_elim (λ h. subst P (sym (of_tag a n h)) p.0) (λ h. among P a m ms h p.1) e
