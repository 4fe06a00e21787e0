-- The second run over the text: it is accepted again, and the words it writes are those of the translation.
-- Assumes nothing.
use Prim.Native.Nat.{ℕ, ◌≤◌}
use mathlib.Core.Path.{◌≡◌, refl, sym, ap, ◌∙◌}
use mathlib.Core.Bool.{Bool, true, false}
use mathlib.Core.List.{List}
use lib.Dec.{eqb}
use lib.ListN.{length, get_or, set}
use borrow.Author.Tests.{eqb-true, eqb-false}
use Rattle.syntax.specs.Tree.{Design}
use Rattle.names.specs.Judge.{State, nothing_yet, fine}
use Rattle.names.specs.Text.{accepts, Scanned, Gets, faultless}
use Rattle.names.proofs.Answer.{one_answer}
use Rattle.layout.specs.TableWords.{table_size}
use Rattle.emission.specs.Inside.Draft.{Draft, cleared, design_draft, nothing, counted}
use Rattle.emission.proofs.Theorem.{drafted as table-drafted}
use Rattle.ledger.specs.Inside.Standing.{Standing, Keeps}
use Rattle.ledger.proofs.Keeping.{kept_fine, signals-count}
use Rattle.reading.specs.Inside.Spots.{Reached, reached, drafted}
use Rattle.reading.specs.declared.Spot.{Spot}
use Rattle.reading.specs.declared.Unfit.{Unfit}
use Rattle.reading.proofs.Generic.{numbered}
use Rattle.std.specs.Prelude.{Result, Ok, Err, IsOk}
use Rattle.reader.specs.Tabled.{Translates}
use Rattle.reader.specs.Inside.Designs.{Designed}
use Rattle.reader.proofs.Answering.{answer-deep, answer-stuck, tree, keeps_all, refused-judged, gets-tree, words-written, answers_of}
use Rattle.reader.proofs.Demand2.{never_both}

scanned_of : {s : List ℕ} {t : Design} → Gets s (accepts t) → Scanned s
scanned_of (faultless w f) = w.scanned

-- the counts, by the words of the ledger
counts-kept : {s l : List ℕ} {y : State} (v : List ℕ) (n : ℕ) → Standing 0 s l y → set (set (set v 0 (get_or l 2 0)) 1 (get_or l 4 0)) 2 n ≡ counted (drafted y v n)
counts-kept v n x = rw (← signals-count x, x.processes_are)

module _ {s : List ℕ} {t : Design} (got : Gets s (accepts t)) {q : Reached} {l l' v v' : List ℕ} (d : Designed s q l l' v v') (k : Keeps 0 s l (fine nothing_yet)) where
  -- nothing is refused
  accepted_again : q.number ≡ 0
  accepted_again = go (eqb q.number 4) refl (eqb q.number 0) refl
    where
      go : (a : Bool) → eqb q.number 4 ≡ a → (b : Bool) → eqb q.number 0 ≡ b → q.number ≡ 0
      go true e b g = absurd (never_both s got (answers_of (answer-deep s (scanned_of got) d (eqb-true _ _ e))))
      go false e true g = eqb-true _ _ g
      go false e false g = absurd (never_both s got (answers_of (answer-stuck s (scanned_of got) d (eqb-false _ _ e) (eqb-false _ _ g))))

  faultless_again : get_or l' 0 0 ≡ 0
  faultless_again = go (eqb (get_or l' 0 0) 0) refl
    where
      go : (b : Bool) → eqb (get_or l' 0 0) 0 ≡ b → get_or l' 0 0 ≡ 0
      go true e = eqb-true _ _ e
      go false e = absurd (never_both s got (refused-judged s (scanned_of got) d accepted_again k (eqb-false _ _ e)))

  same_tree : tree s (scanned_of got) d accepted_again ≡ t
  same_tree = let e = one_answer s _ _ (gets-tree s (scanned_of got) d accepted_again k faultless_again) got in cc

  tabled : set (set (set v' 0 (get_or l' 2 0)) 1 (get_or l' 4 0)) 2 q.next ≡ counted (design_draft t (nothing v))
  tabled =
      counts-kept v' q.next (kept_fine (keeps_all s (scanned_of got) d accepted_again k) faultless_again).0.stands
      ∙ ap (λ (m : Draft). counted m) (sym (words-written s (scanned_of got) d accepted_again k faultless_again))
      ∙ ap (λ (x : Design). counted (design_draft x (nothing v))) same_tree

  pub translated : {words after : List ℕ} → table_size ≤ length words → v ≡ cleared words → after ≡ set (set (set v' 0 (get_or l' 2 0)) 1 (get_or l' 4 0)) 2 q.next
      → Translates s words after
  translated {words} long e g =
      record { long = long; tree = t; gets = got; words = g ∙ tabled ∙ ap (λ (w : List ℕ). counted (design_draft t (nothing w))) e ∙ table-drafted s words t got }

-- the second run is not refused
pub read_again : {s : List ℕ} {t : Design} → Gets s (accepts t) → {l l' v v' : List ℕ} (q : Result Spot Unfit) → Designed s (reached q) l l' v v' → Keeps 0 s l (fine nothing_yet) → IsOk q
read_again got (Ok p) d k = refl
read_again got (Err e) d k = absurd (numbered e (accepted_again got d k))
