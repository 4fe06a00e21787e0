-- What `read` and `header` answer, as numbers; the number and the place of a text that is not read are small.
-- Assumes nothing.
use Prim.Native.Nat.{ℕ, ◌+◌, ◌*◌, ◌≤◌}
use mathlib.Core.Path.{◌≡◌, subst}
use mathlib.Core.List.{List}
use native.Mathlib.Omega.{arith}
use Rattle.names.proofs.Places.{refused-number, refused-early}
use Rattle.std.specs.Prelude.{Result, Ok, Err}
use Rattle.refusal.specs.declared.Refusal.{Refusal}
use Rattle.refusal.specs.Numbers.{number_of}
use Rattle.reader.specs.Tabled.{Tables}
use Rattle.reader.specs.Tabled as tabled
use Rattle.heading.specs.Headed.{Heads}
use Rattle.compassnail.specs.Codes.{ReadsInC, reads, HeadsInC, heads}

-- A TABLE

unread_small : {text table : List ℕ} {number place : ℕ} → tabled.RefusedWith text table number place → (number ≤ 11) × (place ≤ 60000)
unread_small (tabled.RefusedWith.short h) = (omega arith, omega arith)
unread_small {text} (tabled.RefusedWith.turned h g) = (omega (arith, (refused-number text g).1), refused-early text g)

module _ (text table after : List ℕ) (a : Result (Unit {0}) Refusal) (h : Tables text table a after) where
  pub unread_fits : {refusal : Refusal} → a ≡ Err refusal → (number_of refusal.reason ≤ 11) × (refusal.place ≤ 60000)
  unread_fits e = unread_small (subst (λ b. Tables text table b after) e h).0

  pub read_in_c : a ≡ Ok tt → ReadsInC text table 0 after
  read_in_c e = reads (Ok tt) (subst (λ b. Tables text table b after) e h)

  pub unread_in_c : {refusal : Refusal} {r : ℕ} → a ≡ Err refusal → r ≡ number_of refusal.reason + 256 * refusal.place → ReadsInC text table r after
  unread_in_c e n = rw n (reads (Err _) (subst (λ b. Tables text table b after) e h))

-- A HEADER

module _ (text out after : List ℕ) (a : Result ℕ Refusal) (h : Heads text out a after) where
  pub header_in_c : {bytes : ℕ} → a ≡ Ok bytes → HeadsInC text out (256 * bytes) after
  header_in_c e = heads (Ok _) (subst (λ b. Heads text out b after) e h)

  pub refusal_in_c : {refusal : Refusal} {r : ℕ} → a ≡ Err refusal → r ≡ number_of refusal.reason + 256 * refusal.place → HeadsInC text out r after
  refusal_in_c e n = rw n (heads (Err _) (subst (λ b. Heads text out b after) e h))
