-- The lines of the signals whose values differ are those whose bits are set in a word. Assumes nothing.
use Prim.Native.Nat.{ℕ, zero, suc, ◌+◌, ◌*◌, ◌-◌, ◌^◌, ◌<◌, ◌≤◌}
use mathlib.Core.Path.{◌≡◌, refl, ap, sym, subst, ◌∙◌}
use mathlib.Core.List.{List, [], ◌∷◌, ◌++◌, append-nil, append_assoc}
use mathlib.Core.Bool.{Bool, true, false}
use native.Mathlib.Numerals.{add-one}
use native.Mathlib.Omega.{arith}
use lib.Bits.{bit_xor}
use lib.Count.{count_trailing_zeros}
use lib.ListN.{length, length-append}
use Rattle.laws.specs.Pick.{pick}
use Rattle.laws.specs.Text.{bytes}
use Rattle.laws.proofs.Cases.{split}
use Rattle.rules.specs.Formulas.{Values, differ}
use Rattle.rules.specs.Dump.{LF, decimal, shown, changed, headed, advance_bytes}
use Rattle.table.specs.Table.{bit, tabulate}
use Rattle.table.proofs.Tabulated.{bit-zero, length-tabulate}
use Rattle.cells.specs.Cells.{value_of, values}
use Rattle.cells.specs.Inside.Changes.{Differs}
use Rattle.cells.proofs.Tabulating.{tabulate_more}
use Rattle.cells.proofs.Columns.{length-values}
use Rattle.cells.proofs.Words.{bit-above}
use Rattle.cells.proofs.Walks.{Walk, walk_first, walk_last, Next, walk_next}
use Rattle.writing.specs.Inside.Written.{Writes, chosen}
use Rattle.writing.proofs.Buffers.{writes_both, writes-none}

module _ (word : ℕ) where
  chosen-append : (i : ℕ) (vs : Values) (v : Bool) → chosen word i (vs ++ (v ∷ [])) ≡ chosen word i vs ++ pick (bit word (i + length vs)) (shown (i + length vs) v) []
  unfolding chosen
  chosen-append i [] v = let e : i + 0 ≡ i = omega arith in rw e (append-nil (pick (bit word i) (shown i v) []))
  chosen-append i (u ∷ vs) v =
      let e : suc i + length vs ≡ i + suc (length vs) = omega arith in
      ap (λ l. pick (bit word i) (shown i u) [] ++ l) (chosen-append (suc i) vs v ∙ rw e)
      ∙ sym (append_assoc (pick (bit word i) (shown i u) []) (chosen word (suc i) vs) _)

  chosen_most : (i : ℕ) (vs : Values) → length (chosen word i vs) ≤ 3 * length vs
  unfolding chosen
  chosen_most i [] = omega arith
  chosen_most i (v ∷ vs) =
      split (bit word i)
      (λ e. rw e (omega (arith, chosen_most (suc i) vs)))
      (λ e. rw e (omega (arith, chosen_most (suc i) vs)))

  module _ (cs : List ℕ) where
    one_more : (k : ℕ) → chosen word 0 (values (suc k) cs) ≡ chosen word 0 (values k cs) ++ pick (bit word k) (shown k (value_of cs k)) []
    unfolding values
    one_more k =
        ap (chosen word 0) (tabulate_more (value_of cs) 0 k)
        ∙ chosen-append 0 (tabulate (value_of cs) 0 k) (value_of cs (0 + k))
        ∙ place (0 + k) k (0 + length (tabulate (value_of cs) 0 k)) (omega arith) (omega (arith, length-tabulate (value_of cs) 0 k))
      where
        place : (i j m : ℕ) → i ≡ j → m ≡ j
            → chosen word 0 (tabulate (value_of cs) 0 k) ++ pick (bit word m) (shown m (value_of cs i)) []
            ≡ chosen word 0 (tabulate (value_of cs) 0 k) ++ pick (bit word j) (shown j (value_of cs j)) []
        place i j m p q = rw (p, q)

    unset_more : (k : ℕ) → bit word k ≡ false → chosen word 0 (values (suc k) cs) ≡ chosen word 0 (values k cs)
    unset_more k e = one_more k ∙ rw e (append-nil (chosen word 0 (values k cs)))

    set_more : (k : ℕ) → bit word k ≡ true → chosen word 0 (values (suc k) cs) ≡ chosen word 0 (values k cs) ++ shown k (value_of cs k)
    set_more k e = one_more k ∙ rw e

    pub jump : (z k : ℕ) → ((j : ℕ) → j < z → bit word (k + j) ≡ false) → chosen word 0 (values (k + z) cs) ≡ chosen word 0 (values k cs)
    jump zero k h = ap (λ n. chosen word 0 (values n cs)) (omega arith)
    jump (suc z) k h =
        let e : k + suc z ≡ suc (k + z) = omega arith in
        rw e (unset_more (k + z) (h z (omega arith)) ∙ jump z k (λ j l. h j (omega arith)))

    -- the loop: the lines of the chosen among the first k signals are written, where k is below the places that are left
    module _ (out : List ℕ) (at : ℕ) where
      pub record Chosen (mid : List ℕ) (place m : ℕ) : Type 0 where
        pub k : ℕ
        pub walk : Walk word 64 m k
        pub writes : Writes out at (chosen word 0 (values k cs)) place mid

      pub chosen_first : word < 2 ^ 64 → Chosen out at word
      unfolding chosen values tabulate
      chosen_first l = record { k = 0; walk = walk_first word 64 l; writes = writes-none out at }

      module _ (mid : List ℕ) (place m : ℕ) (c : Chosen mid place m) where
        pub chosen_last : m ≡ 0 → Writes out at (chosen word 0 (values 64 cs)) place mid
        chosen_last e =
            let q : c.k + (64 - c.k) ≡ 64 = omega (arith, c.walk.low) in
            rw (← q, jump (64 - c.k) c.k (λ j l. walk_last c.walk e (c.k + j) (omega arith))) c.writes

        pub chosen-within : place ≤ at + 3 * c.k
        chosen-within = omega (arith, c.writes.end, chosen_most 0 (values c.k cs), length-values c.k cs)

        module _ {signal left : ℕ} (goes : (0 < m) × (signal ≡ count_trailing_zeros 64 m) × (left ≡ bit_xor m (1 * 2 ^ signal))) where
          pub step : Next word 64 c.k signal left
          step = walk_next c.walk (omega arith) goes

          up_to : c.k + (signal - c.k) ≡ signal
          up_to = omega (arith, step.from)

          skipped : chosen word 0 (values signal cs) ≡ chosen word 0 (values c.k cs)
          skipped =
              ap (λ n. chosen word 0 (values n cs)) (sym up_to)
              ∙ jump (signal - c.k) c.k (λ j l. step.unset (c.k + j) (omega arith) (omega arith))

          pub chosen-place : place ≤ at + 3 * signal
          chosen-place = omega (arith, chosen-within, step.from)

          pub chosen_more : (r : ℕ) (after : List ℕ) → Writes mid place (shown signal (value_of cs signal)) r after → Chosen after r left
          chosen_more r after w = record {
            k = signal + 1;
            walk = step.next;
            writes =
                rw (add-one signal, set_more signal step.set, skipped)
                (writes_both out at (chosen word 0 (values c.k cs)) (shown signal (value_of cs signal)) place r mid after c.writes w);
          }

    -- a word of n bits chooses among n signals
    pub chosen-few : (n : ℕ) → n ≤ 64 → word < 2 ^ n → chosen word 0 (values 64 cs) ≡ chosen word 0 (values n cs)
    chosen-few n l s =
        let q : n + (64 - n) ≡ 64 = omega arith in
        ap (λ m. chosen word 0 (values m cs)) (sym q) ∙ jump (64 - n) n (λ j m. bit-above n word (n + j) s (omega arith))

  -- a set bit gives a line
  some_line : (i : ℕ) (vs : Values) (k : ℕ) → k < length vs → bit word (i + k) ≡ true → 0 < length (chosen word i vs)
  unfolding chosen
  some_line i [] k l b = absurd (omega arith)
  some_line i (v ∷ vs) zero l b = let e : i + 0 ≡ i = omega arith in let h = rw e at b in rw h (omega arith)
  some_line i (v ∷ vs) (suc k) l b =
      let e : suc i + k ≡ i + suc k = omega arith in
      omega (arith, length-append (pick (bit word i) (shown i v) []) (chosen word (suc i) vs), some_line (suc i) vs k (omega arith) (rw e b))

  -- no bit, no line
  no_line : word ≡ 0 → (i : ℕ) (vs : Values) → chosen word i vs ≡ []
  unfolding chosen
  no_line e i [] = refl
  no_line e i (v ∷ vs) = rw (ap (λ w. bit w i) e ∙ bit-zero i) (no_line e (suc i) vs)

-- WHAT AN ADVANCE WRITES

changed-chosen : (word i n : ℕ) (f g : ℕ → Bool) → ((k : ℕ) → k < n → bit word (i + k) ≡ differ (f (i + k)) (g (i + k)))
    → changed i (tabulate f i n) (tabulate g i n) ≡ chosen word i (tabulate g i n)
unfolding changed chosen tabulate
changed-chosen word i zero f g h = refl
changed-chosen word i (suc n) f g h =
    let e : bit word i ≡ differ (f i) (g i) = subst (λ j. bit word j ≡ differ (f j) (g j)) (omega arith) (h 0 (omega arith)) in
    rw (e, changed-chosen word (suc i) n f g (λ k l. subst (λ j. bit word j ≡ differ (f j) (g j)) (omega arith) (h (suc k) (omega arith))))

head_some : (t : ℕ) (l : List ℕ) → 0 < length l → headed t l ≡ bytes "#" ++ (decimal t ++ (LF ∷ l))
head_some t [] h = absurd (omega arith)
head_some t (b ∷ bs) h = refl

module _ (n word : ℕ) (before cs : List ℕ) (few : n ≤ 64) (d : Differs n word before cs) where
  lines : changed 0 (values n before) (values n cs) ≡ chosen word 0 (values n cs)
  unfolding values
  lines = changed-chosen word 0 n (value_of before) (value_of cs) (λ k l. d.tells (0 + k) (omega arith))

  pub nothing_written : (t : ℕ) → word ≡ 0 → advance_bytes t (values n before) (values n cs) ≡ []
  unfolding advance_bytes
  nothing_written t e = rw (lines, no_line word e 0 (values n cs))

  pub advance-written : (t : ℕ) → (word ≡ 0 → ⊥) → advance_bytes t (values n before) (values n cs) ≡ bytes "#" ++ (decimal t ++ (LF ∷ chosen word 0 (values 64 cs)))
  unfolding advance_bytes
  advance-written t ne =
      let s = walk_next (walk_first word n d.small) few (omega arith, refl, refl) in
      let z : 0 + count_trailing_zeros 64 word ≡ count_trailing_zeros 64 word = omega arith in
      rw (lines, chosen-few word cs n few d.small)
      (head_some t (chosen word 0 (values n cs))
      (some_line word 0 (values n cs) (count_trailing_zeros 64 word) (omega (arith, s.inside, length-values n cs)) (rw z s.set)))
