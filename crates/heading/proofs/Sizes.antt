-- A header is no longer than a buffer, and the number and the place of a refusal are small. Assumes nothing.
use Prim.Native.Nat.{ℕ, ◌≤◌}
use mathlib.Core.Path.{◌≡◌, subst}
use mathlib.Core.List.{List}
use native.Mathlib.Omega.{arith}
use Rattle.names.proofs.Places.{refused-number, refused-early}
use Rattle.demands.specs.Shown.{design_header}
use Rattle.demands.proofs.Header.{accepted-header-fits}
use Rattle.std.specs.Prelude.{Result, Ok, Err}
use Rattle.refusal.specs.declared.Refusal.{Refusal}
use Rattle.refusal.specs.Numbers.{number_of}
use Rattle.heading.specs.Headed.{RefusedWith, short, turned, Shows, Heads}

shows-small : {text out after : List ℕ} {bytes : ℕ} → Shows text out bytes after → bytes ≤ 4096
unfolding design_header
shows-small {text} s = rw s.counted (accepted-header-fits text s.tree s.gets)

refused-small : {text out : List ℕ} {number place : ℕ} → RefusedWith text out number place → (number ≤ 11) × (place ≤ 60000)
refused-small (short h) = (omega arith, omega arith)
refused-small {text} (turned h g) = (omega (arith, (refused-number text g).1), refused-early text g)

module _ (text out after : List ℕ) (a : Result ℕ Refusal) (h : Heads text out a after) where
  pub header-small : {bytes : ℕ} → a ≡ Ok bytes → bytes ≤ 4096
  header-small e = shows-small (subst (λ b. Heads text out b after) e h)

  pub refusal_small : {refusal : Refusal} → a ≡ Err refusal → (number_of refusal.reason ≤ 11) × (refusal.place ≤ 60000)
  refusal_small e = refused-small (subst (λ b. Heads text out b after) e h).0
