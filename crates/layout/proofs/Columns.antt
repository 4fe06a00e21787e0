-- Columns of words: what stands in one, what stands behind it, and the list that is read back from one. Assumes nothing.
use Prim.Native.Nat.{ℕ, ◌+◌, ◌<◌}
use native.Mathlib.Omega.{arith}
use mathlib.Core.Path.{◌≡◌, refl, sym, ◌∙◌, ap}
use mathlib.Core.Bool.{Bool, true, false}
use mathlib.Core.List.{List, ◌++◌}
use lib.Dec.{eqb}
use lib.ListN.{length, get_or, get_or-append}
use lib.Seq.{get_or-append-add, ext_get_or}
use Rattle.table.specs.Table.{tabulate}
use Rattle.table.specs.Translation.{number}
use Rattle.table.proofs.Tabulated.{length-tabulate, at_tabulate}
use Rattle.layout.specs.TableWords.{column}

pub length-column : (size : ℕ) (list : List ℕ) → length (column size list) ≡ size
length-column size list = length-tabulate _ 0 size

pub at_column : (size : ℕ) (list : List ℕ) (k : ℕ) → k < size → get_or (column size list) k 0 ≡ get_or list k 0
at_column size list k h = at_tabulate (λ i. get_or list i 0) 0 0 size k h ∙ ap (λ i. get_or list i 0) (omega arith)

-- from this place on, the words are the rest
abbrev pub Stands : List ℕ → ℕ → List ℕ → Type 0
Stands words from rest = (i : ℕ) → get_or words (from + i) 0 ≡ get_or rest i 0

pub behind-column : (words list rest : List ℕ) (from size next : ℕ) → from + size ≡ next → Stands words from (column size list ++ rest) → Stands words next rest
behind-column words list rest from size next e s i =
    ap (λ n. get_or words n 0) (omega arith) ∙ s (size + i)
    ∙ ap (λ n. get_or (column size list ++ rest) (n + i) 0) (sym (length-column size list))
    ∙ get_or-append-add (column size list) rest i 0

pub in_column : (words list rest : List ℕ) (from size : ℕ) → Stands words from (column size list ++ rest)
    → (k : ℕ) → k < size → get_or words (from + k) 0 ≡ get_or list k 0
in_column words list rest from size s k h =
    s k ∙ get_or-append (column size list) rest 0 k (omega (arith, length-column size list)) ∙ at_column size list k h

-- a list of which each element is read back is read back
pub read_list : {A : Type 0} (f : ℕ → A) (d : A) (list : List A) (n : ℕ) → n ≡ length list
    → ((k : ℕ) → k < length list → f k ≡ get_or list k d) → tabulate f 0 n ≡ list
read_list f d list n e h =
    ext_get_or d (tabulate f 0 n) list (length-tabulate f 0 n ∙ e)
    (λ k l. let m : k < n = omega (arith, length-tabulate f 0 n) in
    at_tabulate f d 0 n k m ∙ ap f (omega arith) ∙ h k (omega arith))

-- a yes-or-no from its word
abbrev pub truth : ℕ → Bool
truth w = eqb w 1

pub truth-number : (b : Bool) → truth (number b) ≡ b
truth-number true = refl
truth-number false = refl

pub number-below : (b : Bool) → number b < 2
number-below true = omega arith
number-below false = omega arith
