-- No second outcome of `header` fits: two answers that both meet its promise are the same, and leave the same bytes. Assumes nothing.
use Prim.Native.Nat.{ℕ}
use native.Mathlib.Omega.{arith}
use mathlib.Core.Path.{◌≡◌, refl, sym, ap, ◌∙◌}
use mathlib.Core.List.{List}
use lib.ListN.{length}
use lib.Seq.{sets}
use Rattle.syntax.specs.Tree.{Design}
use Rattle.rules.specs.Dump.{header}
use Rattle.names.specs.CircuitOf.{entity_name, signal_names}
use Rattle.names.proofs.Answer.{one_answer}
use Rattle.std.specs.Prelude.{Result, Ok, Err}
use Rattle.refusal.specs.declared.Refusal.{Refusal}
use Rattle.refusal.proofs.Numbers.{one_refusal}
use Rattle.heading.specs.Headed.{RefusedWith, short, turned, Shows, Heads}

module _ (text out : List ℕ) where
  same_refusal : {n p m q : ℕ} → RefusedWith text out n p → RefusedWith text out m q → (n ≡ m) × (p ≡ q)
  same_refusal (short h) (short g) = (refl, refl)
  same_refusal (short h) (turned g x) = absurd (omega arith)
  same_refusal (turned h x) (short g) = absurd (omega arith)
  same_refusal (turned h x) (turned g y) = let e = one_answer text _ _ x y in (cc, cc)

  never_both : {n p count : ℕ} {after : List ℕ} → RefusedWith text out n p → Shows text out count after → ⊥
  never_both (short h) s = omega (arith, s.long)
  never_both (turned h x) s = let e = one_answer text _ _ x s.gets in let z : ◌≡◌ {A = ℕ} 0 1 = cc in omega arith

  same_shown : {n m : ℕ} {a b : List ℕ} → Shows text out n a → Shows text out m b → (n ≡ m) × (a ≡ b)
  same_shown s u =
      let e = one_answer text _ _ s.gets u.gets in
      let d : s.tree ≡ u.tree = cc in (
        s.counted ∙ ap (λ (t : Design). length (header (entity_name t) (signal_names t))) d ∙ sym u.counted,
        s.bytes ∙ ap (λ (t : Design). sets out 0 (header (entity_name t) (signal_names t))) d ∙ sym u.bytes,
      )

  pub one_outcome : (r r' : Result ℕ Refusal) (after after' : List ℕ) → Heads text out r after → Heads text out r' after' → (r ≡ r') × (after ≡ after')
  one_outcome (Ok n) (Ok m) a b x y = let s = same_shown x y in (ap Ok s.0, s.1)
  one_outcome (Ok n) (Err f) a b x y = absurd (never_both y.0 x)
  one_outcome (Err e) (Ok m) a b x y = absurd (never_both x.0 y)
  one_outcome (Err e) (Err f) a b x y = let s = same_refusal x.0 y.0 in (ap Err (one_refusal e f s.0 s.1), x.1 ∙ sym y.1)
