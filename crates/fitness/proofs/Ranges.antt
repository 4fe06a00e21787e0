-- Laws of ranges of words. Assumes nothing.
use Prim.Native.Nat.{ℕ, ◌+◌, ◌≤◌}
use native.Mathlib.Omega.{arith}
use mathlib.Core.Path.{◌≡◌}
use mathlib.Core.Logic.{⊎_elim}
use mathlib.Core.List.{List}
use lib.Bits.{bit_or, or_add_and, and_le_l, and_le_r}
use lib.ListN.{get_or}
use Rattle.laws.proofs.Cases.{same_or}
use Rattle.fitness.specs.Inside.Parts.{Within, Gathered}

pub within_more : (w : List ℕ) (from j top : ℕ) → Within w from j top → get_or w j 0 ≤ top → Within w from (j + 1) top
within_more w from j top a h i lo hi = ⊎_elim (λ e. rw e h) (λ n. a i lo (omega arith)) (same_or i j)

pub gather_more : (w : List ℕ) (from j n : ℕ) → Gathered w from j n → Gathered w from (j + 1) (bit_or n (get_or w j 0))
gather_more w from j n a =
    let v = get_or w j 0 in
    record {
      low = omega (arith, a.low);
      none = λ e.
          let x : n ≡ 0 = omega (arith, or_add_and n v, and_le_r n v) in
          let y : get_or w j 0 ≤ 0 = omega (arith, or_add_and n v, and_le_l n v) in
          within_more w from j 0 (a.none x) y;
      zero = λ e.
          let x = a.zero (λ i lo hi. e i lo (omega arith)) in
          let y = e j a.low (omega arith) in
          omega (arith, or_add_and n v);
    }
