-- So many zeros, and one more one from place k on, as a loop writes it.
-- Assumes nothing.
use Prim.Native.Nat.{ℕ, zero, suc, ◌+◌, ◌≤◌}
use mathlib.Core.Path.{◌≡◌, refl, ap, ◌∙◌}
use mathlib.Core.List.{List, ◌∷◌, ◌++◌}
use native.Mathlib.Omega.{arith}
use lib.ListN.{length, set, take, drop, replicate, length-set}
use Rattle.std.proofs.lemmas.List.{length-take-le}
use Rattle.emission.specs.Inside.Draft.{zeros, ones}

zeros_is : (n : ℕ) → replicate n 0 ≡ zeros n
unfolding zeros
zeros_is zero = refl
zeros_is (suc n) = ap (λ (r : List ℕ). 0 ∷ r) (zeros_is n)

-- the front of the words, filled with zeros
pub front_filled : (n : ℕ) (words after : List ℕ) → n ≤ length words → after ≡ replicate (length (take n words)) 0 → after ++ drop n words ≡ zeros n ++ drop n words
front_filled n words after l e = ap (λ (r : List ℕ). r ++ drop n words) (e ∙ rw (length-take-le n words l) (zeros_is n))

pub ones_more : (words : List ℕ) (k count : ℕ) → set (ones words k count) (k + count) 1 ≡ ones words k (suc count)
unfolding ones
ones_more words k zero = let e : k + 0 ≡ k = omega arith in rw e
ones_more words k (suc count) = let e : k + suc count ≡ k + 1 + count = omega arith in rw e (ones_more (set words k 1) (k + 1) count)

pub length-ones : (words : List ℕ) (k count : ℕ) → length (ones words k count) ≡ length words
unfolding ones
length-ones words k zero = refl
length-ones words k (suc count) = length-ones (set words k 1) (k + 1) count ∙ length-set words k 1
