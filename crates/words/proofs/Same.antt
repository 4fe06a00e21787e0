-- Two words compared byte by byte from the last to the first, case aside.
-- Assumes nothing.
use Rattle.std.proofs.Common.{◌≡◌, refl, ap, Bool, true, false, List, [], ◌∷◌, ◌++◌, ℕ, length, eqb, arith, ◌&&◌}
use Rattle.std.specs.List.{zip, list_all}
use Rattle.std.proofs.lemmas.List.{length-reverse, length-map}
use Rattle.std.proofs.lemmas.Grind.{reverse_onto}
use Rattle.std.proofs.lemmas.List.Folds.{list_all-append}
use mathlib.Core.List.{reverse}
use Rattle.laws.specs.Pick.{pick, same_list}
use Rattle.laws.proofs.Lists.{same_equal}
use Rattle.words.specs.Vocabulary.{lower_of, lower, same_word}

-- the same byte, case aside
abbrev pub alike : ℕ × ℕ → Bool
alike pair = eqb (lower_of pair.0) (lower_of pair.1)

zip-append : (a b c d : List ℕ) → length a ≡ length b → zip (a ++ c) (b ++ d) ≡ zip a b ++ zip c d
zip-append [] [] c d e = refl
zip-append [] (y ∷ b) c d e = absurd (omega arith)
zip-append (x ∷ a) [] c d e = absurd (omega arith)
zip-append (x ∷ a) (y ∷ b) c d e = ap (λ l. (x, y) ∷ l) (zip-append a b c d (omega arith))

-- words of one length are the same just where their bytes are, from the last to the first
pub same_back : (one other : List ℕ) → length one ≡ length other → list_all alike (zip (reverse one) (reverse other)) ≡ same_word one other
unfolding same_list
same_back [] [] e = refl
same_back [] (y ∷ other) e = absurd (omega arith)
same_back (x ∷ one) [] e = absurd (omega arith)
same_back (x ∷ one) (y ∷ other) e =
    let even : length (reverse one) ≡ length (reverse other) = omega (arith, length-reverse one, length-reverse other) in
    rw (
      reverse_onto one x [],
      reverse_onto other y [],
      zip-append (reverse one) (reverse other) (x ∷ []) (y ∷ []) even,
      list_all-append alike (zip (reverse one) (reverse other)) ((x, y) ∷ []),
      same_back one other (omega arith),
    ) (go (alike (x, y)) (same_word one other))
  where
    go : (first others : Bool) → (others && (first && true)) ≡ pick first others false
    go true true = refl
    go true false = refl
    go false true = refl
    go false false = refl

pub same_lengths : (one other : List ℕ) → (length one ≡ length other → ⊥) → false ≡ same_word one other
same_lengths one other h = go (same_word one other) refl
  where
    go : (t : Bool) → same_word one other ≡ t → false ≡ t
    go true e =
        let z = ap length (same_equal (lower one) (lower other) e) in
        absurd (h (omega (arith, length-map one lower_of, length-map other lower_of)))
    go false e = refl
