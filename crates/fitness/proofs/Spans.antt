-- What an iterator over a part of the words answers, in terms of the words. Assumes nothing.
use Prim.Native.Nat.{ℕ, ◌+◌, ◌-◌, ◌≤◌, ◌<◌}
use native.Mathlib.Omega.{arith}
use mathlib.Core.Path.{◌≡◌, refl, ◌∙◌, subst}
use mathlib.Core.Bool.{Bool, true, false}
use mathlib.Core.List.{List}
use lib.ListN.{get_or, length, drop, take, length-drop}
use lib.Seq.{get_or-take, get_or-drop, length-take-le}
use Rattle.std.specs.Bool.{MatchBool}
use Rattle.std.specs.List.{zip, AllWithin, HoldsAt}
use Rattle.std.proofs.lemmas.Slice.Zip.{get_or-zip, length-zip}
use Rattle.laws.specs.Decides.{Decides}
use Rattle.laws.proofs.Deciding.{decides_yes, decides_no}

-- the words from a place on, so many
abbrev pub part : List ℕ → ℕ → ℕ → List ℕ
part w from n = take n (drop from w)

-- what `&words[from..from + n]` hands on
pub sliced : (w : List ℕ) (from n : ℕ) → take (from + n - from) (drop from w) ≡ part w from n
sliced w from n = let e : from + n - from ≡ n = omega arith in rw e

module _ (w : List ℕ) (from n : ℕ) (l : from + n ≤ length w) where
  pub length-part : length (part w from n) ≡ n
  length-part = length-take-le n (drop from w) (omega (arith, length-drop from w))

  pub at_part : (k d : ℕ) → k < n → get_or (part w from n) k d ≡ get_or w (from + k) d
  at_part k d h = get_or-take n (drop from w) k d h ∙ get_or-drop from w k d

-- two parts of one length, pair by pair
module _ (w : List ℕ) (a b n : ℕ) (P : ℕ → ℕ → Type 0) (below : a + n ≤ length w) (above : b + n ≤ length w) where
  abbrev pub pairs : List (ℕ × ℕ)
  pairs = zip (part w a n) (part w b n)

  length-pairs : length pairs ≡ n
  length-pairs = length-zip (part w a n) (part w b n) ∙ omega (arith, length-part w a n below, length-part w b n above)

  pair_at : (k : ℕ) (d : ℕ × ℕ) → k < n → get_or pairs k d ≡ (get_or w (a + k) d.0, get_or w (b + k) d.1)
  pair_at k d h =
      get_or-zip (part w a n) (part w b n) k d (omega (arith, length-part w a n below)) (omega (arith, length-part w b n above))
      ∙ rw (at_part w a n below k d.0 h, at_part w b n above k d.1 h) refl

  pub all-pairs : (r : Bool) → MatchBool r (AllWithin (λ p. P p.0 p.1) pairs 0 (length pairs))
      ((k : ℕ) × (k < length pairs) × HoldsAt (λ p. P p.0 p.1 → ⊥) pairs k) → Decides r ((k : ℕ) → k < n → P (get_or w (a + k) 0) (get_or w (b + k) 0))
  all-pairs true m = decides_yes _ (λ k h. subst (λ p. P p.0 p.1) (pair_at k (0, 0) h) (m k (0, 0) (omega arith) (omega (arith, length-pairs))))
  all-pairs false m =
      let h : m.0 < n = omega (arith, m.1, length-pairs) in
      decides_no _ (λ f. subst (λ p. P p.0 p.1 → ⊥) (pair_at m.0 (0, 0) h) (m.2 (0, 0)) (f m.0 h))
