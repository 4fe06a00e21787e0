-- The value of a run of digits, one digit after the other.
-- Assumes nothing.
use mathlib.Core.Path.{◌≡◌, sym, ◌∙◌}
use mathlib.Core.List.{List, [], ◌∷◌}
use Prim.Native.Nat.{ℕ, ◌+◌, ◌*◌, ◌<◌, ◌≤◌}
use native.Mathlib.Omega.{arith}
use native.Mathlib.Nat.{le_refl, le_trans}
use borrow.Author.Tests.{le-leb, lt-leb}
use lib.ListN.{length, drop, get_or, drop_of_length-le}
use Rattle.laws.proofs.Lists.{uncons}
use Rattle.words.specs.Unit.{longest}
use Rattle.words.specs.Integer.{digit_of, value_from, value_of, amount_of}
use Rattle.std.specs.Prelude.{Some, None}

grows : (a : ℕ) (s : List ℕ) → a ≤ value_from a s
grows a [] = le_refl a
grows a (b ∷ bs) = le_trans (omega arith) (grows (a * 10 + digit_of b) bs)

-- the run s, of which the digits before place i have the value a
module _ (s : List ℕ) (a i : ℕ) (whole : value_from a (drop i s) ≡ value_of s) where
  pub value_on : i < length s → (d : ℕ) → d ≡ digit_of (get_or s i 0) → value_from (a * 10 + d) (drop (i + 1) s) ≡ value_of s
  value_on h d e = rw e (sym (rw (uncons s i 0 h)) ∙ whole)

  pub value_large : longest < a → None ≡ amount_of s
  value_large h = let g : longest < value_of s = omega (arith, whole, grows a (drop i s)) in rw (lt-leb _ _ g)

  pub value-small : length s ≤ i → a ≤ longest → Some a ≡ amount_of s
  value-small h l = let e : a ≡ value_of s = rw (drop_of_length-le s h) at whole in rw (← e, le-leb _ _ l)
