-- The lines of signals, one behind the other. Assumes nothing.
use Prim.Native.Nat.{ℕ, suc, ◌+◌, ◌*◌}
use mathlib.Core.Path.{◌≡◌, ap, ◌∙◌}
use mathlib.Core.List.{List, [], ◌∷◌, ◌++◌}
use mathlib.Core.Bool.{Bool}
use native.Mathlib.Numerals.{add-one}
use native.Mathlib.Omega.{arith}
use lib.ListN.{length}
use Rattle.rules.specs.Formulas.{Values}
use Rattle.rules.specs.Dump.{shown, all}
use Rattle.table.specs.Table.{tabulate}
use Rattle.table.proofs.Tabulated.{length-tabulate}
use Rattle.table.proofs.Written.{all_length}
use Rattle.cells.specs.Cells.{value_of, values}
use Rattle.cells.proofs.Tabulating.{tabulate_more}
use Rattle.cells.proofs.Columns.{length-values}
use Rattle.writing.specs.Inside.Written.{Writes}
use Rattle.writing.proofs.Buffers.{writes_both, writes-none}

all_append : (i : ℕ) (vs : Values) (v : Bool) → all i (vs ++ (v ∷ [])) ≡ all i vs ++ shown (i + length vs) v
unfolding all
all_append i [] v = let e : i + 0 ≡ i = omega arith in rw e
all_append i (u ∷ vs) v = let e : suc i + length vs ≡ i + suc (length vs) = omega arith in ap (λ l. shown i u ++ l) (all_append (suc i) vs v ∙ rw e)

-- one signal more
pub all_more : (cs : List ℕ) (k : ℕ) → all 0 (values (suc k) cs) ≡ all 0 (values k cs) ++ shown k (value_of cs k)
unfolding values
all_more cs k =
    ap (all 0) (tabulate_more (value_of cs) 0 k)
    ∙ all_append 0 (tabulate (value_of cs) 0 k) (value_of cs (0 + k))
    ∙ place (0 + k) k (0 + length (tabulate (value_of cs) 0 k)) (omega arith) (omega (arith, length-tabulate (value_of cs) 0 k))
  where
    place : (i j m : ℕ) → i ≡ j → m ≡ j → all 0 (tabulate (value_of cs) 0 k) ++ shown m (value_of cs i) ≡ all 0 (tabulate (value_of cs) 0 k) ++ shown j (value_of cs j)
    place i j m p q = rw (p, q)

module _ (out : List ℕ) (at : ℕ) (cs : List ℕ) where
  pub lines_first : Writes out at (all 0 (values 0 cs)) at out
  unfolding all values tabulate
  lines_first = writes-none out at

  pub lines_more : (k m r : ℕ) (mid after : List ℕ) → Writes out at (all 0 (values k cs)) m mid → Writes mid m (shown k (value_of cs k)) r after
      → Writes out at (all 0 (values (k + 1) cs)) r after
  lines_more k m r mid after a b = rw (add-one k, all_more cs k) (writes_both out at (all 0 (values k cs)) (shown k (value_of cs k)) m r mid after a b)

  pub lines-place : (k m : ℕ) (mid : List ℕ) → Writes out at (all 0 (values k cs)) m mid → m ≡ at + 3 * k
  lines-place k m mid w = omega (arith, w.end, all_length 0 (values k cs), length-values k cs)
