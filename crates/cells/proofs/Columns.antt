-- Cells that differ only where one signal has its own. Assumes nothing.
use Prim.Native.Nat.{ℕ, ◌+◌, ◌*◌, ◌<◌, ◌≤◌}
use mathlib.Core.Path.{◌≡◌, sym, ◌∙◌}
use mathlib.Core.List.{List, []}
use mathlib.Core.Bool.{false}
use native.Mathlib.Omega.{arith}
use lib.ListN.{length, get_or, set}
use lib.Seq.{ext_get_or}
use Rattle.laws.proofs.Cases.{by}
use Rattle.rules.specs.Session.{Rising}
use Rattle.table.specs.Table.{tabulate}
use Rattle.table.proofs.Tabulated.{length-tabulate, at_tabulated}
use Rattle.cells.specs.Cells.{change_in, count_of, pending_of, value_of, values, pendings, Fit}
use Rattle.cells.proofs.Tabulating.{tabulate_same, tabulate-set, past_tabulated}

pub same_change : (cs ds : List ℕ) (y z : ℕ) → get_or ds z 0 ≡ get_or cs y 0 → change_in ds z ≡ change_in cs y
unfolding change_in
same_change cs ds y z e = rw e

pub same_changes : (cs ds : List ℕ) (i j n : ℕ) → ((k : ℕ) → k < n → get_or ds (j + k) 0 ≡ get_or cs (i + k) 0)
    → tabulate (change_in ds) j n ≡ tabulate (change_in cs) i n
same_changes cs ds i j n h = tabulate_same (change_in cs) (change_in ds) i j n (λ k l. same_change cs ds (i + k) (j + k) (h k l))

pub ext_cells : (ds cs : List ℕ) → length ds ≡ 1152 → length cs ≡ 1152 → ((z : ℕ) → get_or ds z 0 ≡ get_or cs z 0) → ds ≡ cs
ext_cells ds cs p q h = ext_get_or 0 ds cs (p ∙ sym q) (λ i l. h i)

-- what the lists hold
module _ (n : ℕ) (cs : List ℕ) where
  pub length-pendings : length (pendings n cs) ≡ n
  unfolding pendings
  length-pendings = length-tabulate (pending_of cs) 0 n

  pub length-values : length (values n cs) ≡ n
  unfolding values
  length-values = length-tabulate (value_of cs) 0 n

  pub pending_at : (k : ℕ) → k < n → get_or (pendings n cs) k [] ≡ pending_of cs k
  unfolding pendings
  pending_at k l = at_tabulated (pending_of cs) [] n k l

  pub pending-past : (k : ℕ) → n ≤ k → get_or (pendings n cs) k [] ≡ []
  unfolding pendings
  pending-past k l = past_tabulated (pending_of cs) [] n k l

  pub value_at : (k : ℕ) → k < n → get_or (values n cs) k false ≡ value_of cs k
  unfolding values
  value_at k l = at_tabulated (value_of cs) false n k l

pub same_values : (n : ℕ) (cs ds : List ℕ) → ((j : ℕ) → j < n → get_or ds j 0 ≡ get_or cs j 0) → values n ds ≡ values n cs
unfolding values
same_values n cs ds h = tabulate_same (value_of cs) (value_of ds) 0 0 n (λ j l. let e : 0 + j ≡ j = omega arith in rw (e, h j l))

pub record Only (k : ℕ) (cs ds : List ℕ) : Type 0 where
  pub still : (z : ℕ) → (z ≡ k → ⊥) → (z ≡ 64 + k → ⊥) → ((m : ℕ) → m < 16 → 128 + k * 16 + m ≡ z → ⊥) → get_or ds z 0 ≡ get_or cs z 0

module _ (cs ds : List ℕ) (k : ℕ) (fit : Fit cs) (in64 : k < 64) (only : Only k cs ds) where
  pub count_other : (j : ℕ) → j < 64 → (j ≡ k → ⊥) → count_of ds j ≡ count_of cs j
  count_other j l ne = only.still (64 + j) (λ e. omega arith) (λ e. ne (omega arith)) (λ m g e. omega arith)

  cell_other : (j i : ℕ) → j < 64 → (j ≡ k → ⊥) → i < 16 → get_or ds (128 + j * 16 + i) 0 ≡ get_or cs (128 + j * 16 + i) 0
  cell_other j i l ne g = only.still (128 + j * 16 + i) (λ e. omega arith) (λ e. omega arith) (λ m q e. ne (omega arith))

  pub pending_other : (j : ℕ) → j < 64 → (j ≡ k → ⊥) → pending_of ds j ≡ pending_of cs j
  pending_other j l ne =
      rw (count_other j l ne)
      (same_changes cs ds (128 + j * 16) (128 + j * 16) (count_of cs j) (λ i g. cell_other j i l ne (omega (arith, fit.few j l))))

  pub value_other : (j : ℕ) → j < 64 → (j ≡ k → ⊥) → get_or ds j 0 ≡ get_or cs j 0
  value_other j l ne = only.still j ne (λ e. omega arith) (λ m g e. omega arith)

  pub pendings-set : (n : ℕ) → k < n → n ≤ 64 → pendings n ds ≡ set (pendings n cs) k (pending_of ds k)
  unfolding pendings
  pendings-set n l h = tabulate-set (pending_of cs) (pending_of ds) n k l (λ j m ne. pending_other j (omega arith) ne)

  pub fit-only :
      length ds ≡ 1152 → get_or ds k 0 ≤ 1 → count_of ds k ≤ 16 → Rising (pending_of ds k)
      → ((i : ℕ) → count_of ds k ≤ i → i < 16 → get_or ds (128 + k * 16 + i) 0 ≡ 0) → Fit ds
  fit-only long bit few rising unused =
      record {
        long = long;
        bits = λ j l. by j k (λ e. rw e bit) (λ ne. rw (value_other j l ne) (fit.bits j l));
        few = λ j l. by j k (λ e. rw e few) (λ ne. rw (count_other j l ne) (fit.few j l));
        rising = λ j l. by j k (λ e. rw e rising) (λ ne. rw (pending_other j l ne) (fit.rising j l));
        unused =
            λ j i l.
            by j k
            (λ e p g. rw e (unused i (rw e at p) g))
            (λ ne p g. cell_other j i l ne g ∙ fit.unused j i l (rw (count_other j l ne) at p) g);
      }
