-- Distinct rows of the vocabulary are distinct words: each row's own word is found in that row.
-- Assumes nothing.
use mathlib.Core.Path.{◌≡◌, sym, ap, ◌∙◌}
use mathlib.Core.Bool.{Bool, true, false}
use mathlib.Core.List.{List, [], ◌∷◌}
use Prim.Native.Nat.{ℕ, zero, suc, ◌+◌, ◌<◌}
use native.Mathlib.Omega.{arith}
use borrow.Author.Tests.{eqb-true}
use lib.Dec.{T, eqb}
use lib.ListN.{length, get_or}
use Rattle.std.specs.Prelude.{Option, Some, None}
use Rattle.laws.specs.Pick.{pick, same_list}
use Rattle.laws.specs.Text.{bytes}
use Rattle.laws.proofs.Table.{first_passes, others_pass}
use Rattle.words.specs.Vocabulary.{Row, subset, others, vocabulary, row_from, row_of}
use Rattle.words.specs.Token.{foreign}

abbrev word_at : List Row → ℕ → List ℕ
word_at rows k = bytes (get_or rows k (record { spelling = ""; token = foreign })).spelling

-- each row's word is found in its own row, counted from k
abbrev found_in : Option ℕ → ℕ → Bool
found_in None k = false
found_in (Some number) k = eqb number k

abbrev own : ℕ → List Row → Bool
own k [] = true
own k (r ∷ rows) = let others = own (suc k) rows in pick (found_in (row_of (bytes r.spelling)) k) others false

all_own : T (own 0 vocabulary)
unfolding subset others vocabulary row_from row_of same_list
all_own = tt

found_lem : (number : Option ℕ) (k : ℕ) → found_in number k ≡ true → number ≡ Some k
found_lem None k e = let z : ◌≡◌ {A = ℕ} 0 1 = cc in absurd (omega arith)
found_lem (Some number) k e = ap Some (eqb-true _ _ e)

own_at : (i : ℕ) (rows : List Row) → T (own i rows) → (k : ℕ) → k < length rows → row_of (word_at rows k) ≡ Some (i + k)
own_at i [] t k h = absurd (omega arith)
own_at i (r ∷ rows) t zero h =
    let z : i ≡ i + 0 = omega arith in
    found_lem _ _ (first_passes (found_in (row_of (bytes r.spelling)) i) (own (suc i) rows) t) ∙ ap Some z
own_at i (r ∷ rows) t (suc k) h =
    let e = own_at (suc i) rows (others_pass (found_in (row_of (bytes r.spelling)) i) (own (suc i) rows) t) k (omega arith) in
    let z : suc i + k ≡ i + suc k = omega arith in
    e ∙ ap Some z

pub row-own : (k : ℕ) → k < length vocabulary → row_of (word_at vocabulary k) ≡ Some k
row-own k h = let z : 0 + k ≡ k = omega arith in own_at 0 vocabulary all_own k h ∙ ap Some z

pub distinct : (j k : ℕ) → j < length vocabulary → k < length vocabulary → word_at vocabulary j ≡ word_at vocabulary k → j ≡ k
distinct j k h g e = let same = sym (row-own j h) ∙ ap row_of e ∙ row-own k g in cc
