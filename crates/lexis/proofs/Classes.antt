-- What the arm of a match on a class tells of it, and a class over a range of bytes by one test that antt computes.
-- Assumes nothing.
use mathlib.Core.Path.{◌≡◌, refl, sym, ◌∙◌}
use mathlib.Core.Bool.{Bool, true, false}
use mathlib.Core.List.{List, [], ◌∷◌}
use Prim.Native.Nat.{ℕ, zero, suc, ◌+◌, ◌≤◌, ◌<◌}
use native.Mathlib.Decide.{dec_lt}
use native.Mathlib.Omega.{arith}
use types.Run.{OneOf}
use denote.Enum.Declared.{tag_of}
use borrow.Author.Tests.{ne_eqb}
use lib.Dec.{T, eqb, eqb→eq}
use lib.ListN.{get_or}
use Rattle.laws.specs.Pick.{pick}
use Rattle.laws.proofs.Tags as tags
use Rattle.lexis.specs.Byte.{class_of}
use Rattle.lexis.specs.declared.byte.Class.{Class}
use Rattle.lexis.specs.declared.byte.Class.TheVariants.{Letter, Digit, Underscore, Space, LineEnd, Mark, Other, High}
use Rattle.lexis.specs.contracts.byte.Class.{the_type}

abbrev pub tag : Class → ℕ
tag k = tag_of the_type k

abbrev pub coded : ℕ → Class
coded n = get_or (Letter ∷ Digit ∷ Underscore ∷ Space ∷ LineEnd ∷ Mark ∷ Other ∷ []) n High

pub back : (k : Class) → coded (tag k) ≡ k
back Letter = refl
back Digit = refl
back Underscore = refl
back Space = refl
back LineEnd = refl
back Mark = refl
back Other = refl
back High = refl

pub among : (P : Class → Type 0) (k : Class) (n : ℕ) (ns : List ℕ) → OneOf (n ∷ ns) (tag k) → tags.Each tag coded back P n ns → P k
among P k n ns = tags.among tag coded back P k n ns

-- each byte of low .. low + n but x is of class k
unfoldable pub all_in : ℕ → Class → ℕ → ℕ → Bool
all_in x k low zero = true
all_in x k low (suc n) =
    let later = all_in x k (suc low) n in
    pick (eqb low x) later (pick (eqb (tag k) (tag (class_of low))) later false)

here : (p q r : Bool) → p ≡ false → T (pick p r (pick q r false)) → T q
here true q r e t = let z : ◌≡◌ {A = ℕ} 0 1 = cc in absurd (omega arith)
here false true r e t = tt
here false false r e t = t

later : (p q r : Bool) → T (pick p r (pick q r false)) → T r
later true q r t = t
later false true r t = t
later false false r t = absurd t

pub over : (x : ℕ) (k : Class) (low n b : ℕ) → T (all_in x k low n) → low ≤ b → b < low + n → (b ≡ x → ⊥) → k ≡ class_of b
unfolding all_in
over x k low zero b t p q out = absurd (omega arith)
over x k low (suc n) b t p q out =
    elim (dec_lt low b) [
      | yes l ↦ over x k (suc low) n b (later (eqb low x) (eqb (tag k) (tag (class_of low))) (all_in x k (suc low) n) t) l (omega arith) out
      | no g ↦
          let e : low ≡ b = omega arith in
          let same = here (eqb low x) (eqb (tag k) (tag (class_of low))) (all_in x k (suc low) n) (ne_eqb low x (λ z. out (sym e ∙ z))) t in
          rw (sym e) (tags.same_tag tag coded back k (class_of low) (eqb→eq _ _ same))
    ]
