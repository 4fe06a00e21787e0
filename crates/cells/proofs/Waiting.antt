-- A signal's pending changes as a row of numbered ones: which of them a post removes, and which of them are due. Assumes nothing.
use Prim.Native.Nat.{ℕ, zero, suc, ◌+◌, ◌<◌, ◌≤◌}
use mathlib.Core.Path.{◌≡◌, refl, ap, subst}
use mathlib.Core.List.{List, [], ◌∷◌}
use mathlib.Core.Bool.{Bool, false}
use native.Mathlib.Omega.{arith}
use borrow.Author.Tests.{lt-ltb, le-ltb, ne_eqb}
use Rattle.rules.specs.Pending.{Change, before, taken, kept, due_in}
use Rattle.rules.specs.Session.{Each, Rising}
use Rattle.table.specs.Table.{tabulate}
use Rattle.table.proofs.Changes.{each_more}

module _ (f : ℕ → Change) where
  -- where the first r come before t and the others do not, those before t are the first r
  pub before-tabulate : (t i n r : ℕ) → r ≤ n → ((k : ℕ) → k < r → (f (i + k)).time < t) → ((k : ℕ) → r ≤ k → k < n → t ≤ (f (i + k)).time)
      → before t (tabulate f i n) ≡ tabulate f i r
  unfolding before tabulate
  before-tabulate t i zero zero h lo hi = refl
  before-tabulate t i zero (suc r) h lo hi = absurd (omega arith)
  before-tabulate t i (suc n) zero h lo hi =
      let g : t ≤ (f i).time = subst (λ z. t ≤ (f z).time) (omega arith) (hi 0 (omega arith) (omega arith)) in
      rw (le-ltb (f i).time t g) (before-tabulate t (suc i) n 0 (omega arith) (λ k l. absurd (omega arith))
      (λ k l m. subst (λ z. t ≤ (f z).time) (omega arith) (hi (suc k) (omega arith) (omega arith))))
  before-tabulate t i (suc n) (suc r) h lo hi =
      let g : (f i).time < t = subst (λ z. (f z).time < t) (omega arith) (lo 0 (omega arith)) in
      rw (lt-ltb (f i).time t g) (ap (λ l. f i ∷ l) (before-tabulate t (suc i) n r (omega arith)
      (λ k l. subst (λ z. (f z).time < t) (omega arith) (lo (suc k) (omega arith)))
      (λ k l m. subst (λ z. t ≤ (f z).time) (omega arith) (hi (suc k) (omega arith) (omega arith)))))

  each_at : (P : Change → Type 0) (i n k : ℕ) → Each P (tabulate f i n) → k < n → P (f (i + k))
  unfolding Each tabulate
  each_at P i zero k h l = absurd (omega arith)
  each_at P i (suc n) zero h l = subst (λ z. P (f z)) (omega arith) h.0
  each_at P i (suc n) (suc k) h l = subst (λ z. P (f z)) (omega arith) (each_at P (suc i) n k h.1 (omega arith))

  -- the times of rising changes rise
  pub rising_at : (i n j k : ℕ) → Rising (tabulate f i n) → j < k → k < n → (f (i + j)).time < (f (i + k)).time
  unfolding Rising tabulate
  rising_at i zero j k h l m = absurd (omega arith)
  rising_at i (suc n) j zero h l m = absurd (omega arith)
  rising_at i (suc n) zero (suc k) h l m =
      let e : i + 0 ≡ i = omega arith in
      rw e (subst (λ z. (f i).time < (f z).time) (omega arith) (each_at (λ d. (f i).time < d.time) (suc i) n k h.0 (omega arith)))
  rising_at i (suc n) (suc j) (suc k) h l m =
      subst (λ z. (f z).time < (f (i + suc k)).time) (omega arith)
      (subst (λ z. (f (suc i + j)).time < (f z).time) (omega arith) (rising_at (suc i) n j k h.1 (omega arith) (omega arith)))

-- where all changes come later than t, none is taken at t
module _ (t : ℕ) where
  pub kept-later : (cs : List Change) → Each (λ c. t < c.time) cs → kept t cs ≡ cs
  unfolding Each kept
  kept-later [] h = refl
  kept-later (c ∷ cs) h = rw (ne_eqb c.time t (λ e. omega (arith, h.0)), kept-later cs h.1)

  pub taken-later : (v : Bool) (cs : List Change) → Each (λ c. t < c.time) cs → taken t v cs ≡ v
  unfolding Each taken
  taken-later v [] h = refl
  taken-later v (c ∷ cs) h = rw (ne_eqb c.time t (λ e. omega (arith, h.0))) (taken-later v cs h.1)

  pub due-later : (cs : List Change) → Each (λ c. t < c.time) cs → due_in t cs ≡ false
  unfolding Each due_in
  due-later [] h = refl
  due-later (c ∷ cs) h = rw (ne_eqb c.time t (λ e. omega (arith, h.0))) (due-later cs h.1)

-- where the first change comes later, or at a time, all behind it come later
pub later_first : (t : ℕ) (c : Change) (cs : List Change) → Rising (c ∷ cs) → t ≤ c.time → Each (λ d. t < d.time) cs
unfolding Rising
later_first t c cs r h = each_more (λ d. c.time < d.time) (λ d. t < d.time) (λ d g. omega arith) cs r.0

pub later_all : (t : ℕ) (c : Change) (cs : List Change) → Rising (c ∷ cs) → t < c.time → Each (λ d. t < d.time) (c ∷ cs)
unfolding Each
later_all t c cs r h = (h, later_first t c cs r (omega arith))

pub rising-tail : (c : Change) (cs : List Change) → Rising (c ∷ cs) → Rising cs
unfolding Rising
rising-tail c cs r = r.1
