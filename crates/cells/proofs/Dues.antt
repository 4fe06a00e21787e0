-- What a post and a take keep: the cells fit their signals, and the word says which signals have a change at the time of now.
-- Assumes nothing.
use Prim.Native.Nat.{ℕ, ◌*◌, ◌^◌, ◌<◌, ◌≤◌}
use mathlib.Core.Path.{◌≡◌, refl, ap, sym, ◌∙◌}
use mathlib.Core.List.{List, [], ◌∷◌, ◌++◌}
use mathlib.Core.Bool.{Bool, true, false, ◌||◌, or_assoc, or-true, or-false}
use native.Mathlib.Omega.{arith}
use lib.Bits.{bit_or, or_lt}
use lib.Dec.{ltb, eqb}
use lib.ListN.{length, get_or, set}
use lib.Seq.{get_or-set_same, get_or-set_other}
use borrow.Author.Tests.{ltb-false, eq-eqb, ne_eqb}
use Rattle.laws.specs.Pick.{pick}
use Rattle.laws.proofs.Cases.{split, by}
use Rattle.rules.specs.Sizes.{most_pending}
use Rattle.rules.specs.Outcome.{refuses, gives}
use Rattle.rules.specs.Pending.{Change, change, Pending, before, post, due_in}
use Rattle.table.specs.Table.{bit}
use Rattle.table.proofs.Changes.{each_before, each_append}
use Rattle.cells.specs.Cells.{pendings, FitFor, Posted, Reached, Took, Due}
use Rattle.cells.proofs.Columns.{length-pendings}
use Rattle.cells.proofs.Words.{bit-or, bit_same, bit_other, one_below}

-- the cells of other signals stay zero
module _ (n k : ℕ) (cs ds : List ℕ) (l : k < n) (f : FitFor n cs) where
  pub fit-posted : (t : ℕ) (v b : Bool) → Posted cs k t v b ds → FitFor n ds
  fit-posted t v b p =
      record {
        few = f.few;
        fit = p.fit;
        no_values = λ j h g. p.values j g ∙ f.no_values j h g;
        no_counts = λ j h g. p.counts j g (λ e. omega arith) ∙ f.no_counts j h g;
      }

  pub fit-took : (t : ℕ) (b : Bool) → Took cs k t b ds → FitFor n ds
  fit-took t b p =
      record {
        few = f.few;
        fit = p.fit;
        no_values = λ j h g. p.other_value j g (λ e. omega arith) ∙ f.no_values j h g;
        no_counts = λ j h g. p.other_count j g (λ e. omega arith) ∙ f.no_counts j h g;
      }

-- A POST AND THE WORD

due-append : (t : ℕ) (cs : List Change) (c : Change) → due_in t (cs ++ (c ∷ [])) ≡ (due_in t cs || eqb c.time t)
unfolding due_in
due-append t [] c = or-false (eqb c.time t)
due-append t (d ∷ cs) c = ap (λ (b : Bool). eqb d.time t || b) (due-append t cs c) ∙ sym (or_assoc (eqb d.time t) (due_in t cs) (eqb c.time t))

due-before : (now t : ℕ) → now < t → (cs : List Change) → due_in now (before t cs) ≡ due_in now cs
unfolding due_in before
due-before now t h [] = refl
due-before now t h (c ∷ cs) =
    split (ltb c.time t)
    (λ e. rw (e, due_in) (ap (λ (b : Bool). eqb c.time now || b) (due-before now t h cs)))
    (λ e. rw (e, ne_eqb c.time now (λ q. omega (arith, ltb-false c.time t e))) (due-before now t h cs))

given : {A : Type 0} (b : Bool) (x y : A) → pick b (gives x) (refuses 15) ≡ gives y → y ≡ x
given true x y e = cc
given false x y e = let z : ◌≡◌ {A = ℕ} 0 1 = cc in absurd (omega arith)

module _ (n : ℕ) (cs ds : List ℕ) (k t : ℕ) (v : Bool) (p : Posted cs k t v true ds) (l : k < n) (few : n ≤ 64) where
  abbrev left : List Change
  left = before t (get_or (pendings n cs) k [])

  after : pendings n ds ≡ set (pendings n cs) k (left ++ (change t v ∷ []))
  unfolding post
  after = given (ltb (length left) most_pending) (set (pendings n cs) k (left ++ (change t v ∷ []))) (pendings n ds) (p.answer n l few)

  here : get_or (pendings n ds) k [] ≡ left ++ (change t v ∷ [])
  here = ap (λ (q : Pending). get_or q k []) after ∙ get_or-set_same (pendings n cs) k (left ++ (change t v ∷ [])) [] (omega (arith, length-pendings n cs))

  there : (j : ℕ) → (j ≡ k → ⊥) → get_or (pendings n ds) j [] ≡ get_or (pendings n cs) j []
  there j ne = ap (λ (q : Pending). get_or q j []) after ∙ get_or-set_other (pendings n cs) k j (left ++ (change t v ∷ [])) [] ne

  module _ (word now : ℕ) (due : Due word now (pendings n cs)) where
    reached-after : now ≤ t → (j : ℕ) → Reached now (get_or (pendings n ds) j [])
    reached-after h j =
        by j k
        (λ e. rw (e, here) (each_append (λ c. now ≤ c.time) left (change t v) (each_before (λ c. now ≤ c.time) t (get_or (pendings n cs) k []) (due.reached k)) h))
        (λ ne. rw (there j ne) (due.reached j))

    other : (j : ℕ) → (j ≡ k → ⊥) → bit word j ≡ due_in now (get_or (pendings n ds) j [])
    other j ne = due.tells j ∙ sym (ap (due_in now) (there j ne))

    pub due-later : now < t → Due word now (pendings n ds)
    due-later h =
        record {
          small = rw (length-pendings n ds) (rw (length-pendings n cs) at due.small);
          reached = reached-after (omega arith);
          tells = λ j. by j k
              (λ e. rw e
              (due.tells k
              ∙ sym (due-before now t h (get_or (pendings n cs) k []))
              ∙ sym (or-false _)
              ∙ sym (ap (due_in now) here ∙ due-append now left (change t v) ∙ ap (λ (b : Bool). due_in now left || b) (ne_eqb t now (λ q. omega arith)))))
              (other j);
        }

    pub due-now : now ≡ t → Due (bit_or word (1 * 2 ^ k)) now (pendings n ds)
    due-now h =
        record {
          small = rw (length-pendings n ds) (or_lt n word (1 * 2 ^ k) (rw (length-pendings n cs) at due.small) (one_below k n l));
          reached = reached-after (omega arith);
          tells = λ j.
              bit-or word (1 * 2 ^ k) j
              ∙ by j k
              (λ e. rw e
              (ap (λ (b : Bool). bit word k || b) (bit_same k)
              ∙ or-true (bit word k)
              ∙ sym (ap (due_in now) here ∙ due-append now left (change t v) ∙ ap (λ (b : Bool). due_in now left || b) (eq-eqb t now (sym h)) ∙ or-true (due_in now left))))
              (λ ne. ap (λ (b : Bool). bit word j || b) (bit_other k j ne) ∙ or-false (bit word j) ∙ other j ne);
        }

-- the same where the answer is known only as a yes-or-no
module _ (n : ℕ) (cs ds : List ℕ) (k t : ℕ) (v b : Bool) (word now : ℕ) (p : Posted cs k t v b ds) (l : k < n) (few : n ≤ 64) where
  pub dues-later : now < t → b ≡ true → Due word now (pendings n cs) → Due word now (pendings n ds)
  dues-later h e d = due-later n cs ds k t v (rw e at p) l few word now d h

  pub dues-now : now ≡ t → b ≡ true → Due word now (pendings n cs) → Due (bit_or word (1 * 2 ^ k)) now (pendings n ds)
  dues-now h e d = due-now n cs ds k t v (rw e at p) l few word now d h
