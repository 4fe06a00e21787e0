-- Where no signal is driven by two processes, to run them one after the other on one set of pending changes gives what joining their posts
-- per driver gives. Assumes nothing.
use Prim.Native.Nat.{ℕ}
use mathlib.Core.Path.{◌≡◌, refl, sym, ◌∙◌, ap}
use mathlib.Core.Bool.{Bool, true, false, true≢false}
use mathlib.Core.List.{List, [], ◌∷◌}
use lib.ListN.{length, get_or}
use Rattle.laws.proofs.Cases.{split}
use Rattle.rules.specs.Outcome.{Outcome, gives, ◌then◌}
use Rattle.rules.specs.Formulas.{Values}
use Rattle.rules.specs.Pending.{Pending}
use Rattle.rules.specs.Runner.{Left, Runner, over, joined}
use Rattle.table.proofs.Outcomes.{onward₂}
use Rattle.table.proofs.Overlays.{length_over, over_other, over_same}

-- each from what the one before left
abbrev pub thread : Runner → Bool → Values → ℕ → Left → Outcome Left
thread r false vs now so = gives so
thread r true vs now so = r.goes vs now so.pending so.steps

unfoldable pub threaded : List Runner → Values → ℕ → ((ℕ → Bool) → Bool) → Left → Outcome Left
threaded [] vs now awake so = gives so
threaded (r ∷ rs) vs now awake so = thread r (awake r.wakes) vs now so then (λ a. threaded rs vs now awake a)

abbrev pub laid : (ℕ → Bool) → Pending → Left → Left
laid d p a = record { pending = over d a.pending p; steps = a.steps }

-- a process that keeps to the signals that it drives, and reads no pending change of the others
unfoldable pub Local : Runner → Type 0
Local r =
    (vs : Values) (now : ℕ) (q p : Pending) (n : ℕ) → length q ≡ length p
    → r.goes vs now (over r.drives q p) n ≡ (r.goes vs now q n then (λ a. gives (laid r.drives p a)))

-- no signal of r is one of another's
unfoldable pub Apart : Runner → List Runner → Type 0
Apart r [] = Unit {0}
Apart r (s ∷ rs) = ((k : ℕ) → r.drives k ≡ true → s.drives k ≡ false) × Apart r rs

unfoldable pub Single : List Runner → Type 0
Single [] = Unit {0}
Single (r ∷ rs) = Local r × Apart r rs × Single rs

-- acc has still p's changes at each signal that is still to be driven
Fresh : Pending → Pending → List Runner → Type 0
Fresh p acc [] = Unit {0}
Fresh p acc (r ∷ rs) = ((k : ℕ) → r.drives k ≡ true → get_or p k [] ≡ get_or acc k []) × Fresh p acc rs

fresh : (r : Runner) (rs : List Runner) (p acc a : Pending) → Apart r rs → Fresh p acc rs → Fresh p (over r.drives a acc) rs
unfolding Fresh Apart
fresh r [] p acc a h f = tt
fresh r (s ∷ rs) p acc a h f = (
  (λ k e. split (r.drives k)
      (λ t. let z : true ≡ false = sym e ∙ h.0 k t in absurd (true≢false z))
      (λ t. f.0 k e ∙ sym (over_other r.drives a acc k t))),
  fresh r rs p acc a h.1 f.1,
)

all_fresh : (p : Pending) (rs : List Runner) → Fresh p p rs
unfolding Fresh
all_fresh p [] = tt
all_fresh p (r ∷ rs) = ((λ k e. refl), all_fresh p rs)

module _ (vs : Values) (now : ℕ) (awake : (ℕ → Bool) → Bool) (p : Pending) where
  threads : (rs : List Runner) (so : Left) → Single rs → length p ≡ length so.pending → Fresh p so.pending rs
      → joined rs vs now awake p so ≡ threaded rs vs now awake so
  unfolding joined threaded Single Local Fresh
  threads [] so s l f = refl
  threads (r ∷ rs) so s l f =
      split (awake r.wakes)
      (λ e.
      let g : r.goes vs now so.pending so.steps ≡ (r.goes vs now p so.steps then (λ a. gives (laid r.drives so.pending a))) =
      ap (λ x. r.goes vs now x so.steps) (sym (over_same r.drives p so.pending l f.0))
      ∙ s.0 vs now p so.pending so.steps l in
      rw (e, g)
      (onward₂ (r.goes vs now p so.steps) _ _ _ _
      (λ a. threads rs (laid r.drives so.pending a) s.2 (l ∙ sym (length_over r.drives a.pending so.pending))
      (fresh r rs p so.pending a.pending s.1 f.1))))
      (λ e. rw e (threads rs so s.2 l f.1))

  pub threaded-joined : (rs : List Runner) (n : ℕ) → Single rs
      → joined rs vs now awake p (record { pending = p; steps = n }) ≡ threaded rs vs now awake (record { pending = p; steps = n })
  threaded-joined rs n s = threads rs (record { pending = p; steps = n }) s refl (all_fresh p rs)
