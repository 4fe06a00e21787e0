-- Tabulated lists: one entry more, one entry changed, and when two are the same. Assumes nothing.
use Prim.Native.Nat.{ℕ, zero, suc, ◌+◌, ◌<◌, ◌≤◌}
use mathlib.Core.Path.{◌≡◌, refl, ap, sym, ◌∙◌}
use mathlib.Core.List.{[], ◌∷◌, ◌++◌}
use native.Mathlib.Omega.{arith}
use lib.ListN.{get_or, set, length-set, get_or-eq_default}
use lib.Seq.{ext_get_or, get_or-set_same, get_or-set_other}
use Rattle.laws.proofs.Cases.{by}
use Rattle.table.specs.Table.{tabulate}
use Rattle.table.proofs.Tabulated.{length-tabulate, at_tabulated}

module _ {A : Type 0} where
  pub tabulate_same : (f g : ℕ → A) (i j n : ℕ) → ((k : ℕ) → k < n → g (j + k) ≡ f (i + k)) → tabulate g j n ≡ tabulate f i n
  unfolding tabulate
  tabulate_same f g i j zero h = refl
  tabulate_same f g i j (suc n) h =
      let e : g j ≡ f i = ap g (omega arith) ∙ h 0 (omega arith) ∙ ap f (omega arith) in
      rw (e, tabulate_same f g (suc i) (suc j) n (λ k l. ap g (omega arith) ∙ h (suc k) (omega arith) ∙ ap f (omega arith)))

  pub tabulate_more : (f : ℕ → A) (i n : ℕ) → tabulate f i (suc n) ≡ tabulate f i n ++ (f (i + n) ∷ [])
  unfolding tabulate
  tabulate_more f i zero = let e : i + 0 ≡ i = omega arith in rw e
  tabulate_more f i (suc n) = let e : suc i + n ≡ i + suc n = omega arith in rw (tabulate_more f (suc i) n, e)

  pub past_tabulated : (f : ℕ → A) (d : A) (n k : ℕ) → n ≤ k → get_or (tabulate f 0 n) k d ≡ d
  past_tabulated f d n k l = get_or-eq_default (tabulate f 0 n) d (omega (arith, length-tabulate f 0 n))

  -- one entry changed
  pub tabulate-set : (f g : ℕ → A) (n k : ℕ) → k < n → ((j : ℕ) → j < n → (j ≡ k → ⊥) → g j ≡ f j) → tabulate g 0 n ≡ set (tabulate f 0 n) k (g k)
  tabulate-set f g n k l same =
      ext_get_or (g k) (tabulate g 0 n) (set (tabulate f 0 n) k (g k))
      (length-tabulate g 0 n ∙ sym (length-set (tabulate f 0 n) k (g k) ∙ length-tabulate f 0 n))
      (λ j h.
      let b : j < n = omega (arith, length-tabulate g 0 n) in
      by j k
      (λ e. at_tabulated g (g k) n j b ∙ ap g e ∙ sym (ap (λ i. get_or (set (tabulate f 0 n) k (g k)) i (g k)) e ∙ get_or-set_same (tabulate f 0 n) k (g k) (g k) (omega (arith, length-tabulate f 0 n))))
      (λ ne. at_tabulated g (g k) n j b ∙ same j b ne ∙ sym (get_or-set_other (tabulate f 0 n) k j (g k) (g k) ne ∙ at_tabulated f (g k) n j b)))
