-- The cells of a fit session's words fit; and the words of fit cells are the words of their session. Assumes nothing.
use Prim.Native.Nat.{ℕ, suc, ◌+◌, ◌*◌, ◌%◌, ◌<◌, ◌≤◌}
use mathlib.Core.Path.{◌≡◌, refl, ap, sym, subst, ◌∙◌}
use mathlib.Core.List.{List, [], ◌∷◌, map}
use mathlib.Core.Bool.{false}
use mathlib.Core.Logic.{⊎_elim}
use native.Mathlib.Omega.{arith}
use lib.ListN.{length, get_or, length-map, get_or-eq_default}
use lib.Seq.{take_all}
use Rattle.laws.proofs.Cases.{side}
use Rattle.laws.proofs.Lists.{at_map}
use Rattle.rules.specs.Pending.{change}
use Rattle.rules.specs.Session.{Session, Rising, FitSession}
use Rattle.table.specs.Table.{Table, tabulate, runners}
use Rattle.table.specs.Translation.{number}
use Rattle.table.proofs.Tabulated.{length-tabulate, at_tabulate}
use Rattle.layout.specs.SessionWords.{values_from, pending_from, changes_from, session_size, change_word, session_words, HoldsSession}
use Rattle.layout.proofs.ChangeWords.{change_of}
use Rattle.layout.proofs.Decoded.{number-truth}
use Rattle.layout.proofs.SessionLaws.{value-below, values-unused, pending-unused, changes-unused, count_is, pending_most}
use Rattle.layout.proofs.Sessions.{changes_at, decode_session, decode_session_lem, words_of_session}
use Rattle.cells.specs.Cells.{truth, change_in, count_of, pending_of, value_of, values, pendings, FitFor}
use Rattle.cells.proofs.Tabulating.{tabulate_same}
use Rattle.cells.proofs.Columns.{length-values, length-pendings, pending_at, pending-past, value_at}
use Rattle.cycles.specs.Inside.Turns.{session_of}
use Rattle.run.specs.Inside.Copies.{Loaded}

-- FROM WORDS TO CELLS

module _ (t : Table) (n : ℕ) (few : n ≤ 64) (words : List ℕ) (s : Session) (h : HoldsSession words s) (f : FitSession (runners t) n s)
    (cells : List ℕ) (ld : Loaded words 1152 cells) where
  count-here : (k : ℕ) → k < 64 → count_of cells k ≡ get_or words (pending_from + k) 0
  count-here k l = ld.same (64 + k) (omega arith) ∙ ap (λ z. get_or words z 0) (omega arith)

  cell_here : (k j : ℕ) → k < 64 → j < 16 → get_or cells (128 + k * 16 + j) 0 ≡ get_or words (changes_from + 16 * k + j) 0
  cell_here k j l m = ld.same (128 + k * 16 + j) (omega arith) ∙ ap (λ z. get_or words z 0) (omega arith)

  change-here : (k j : ℕ) → k < 64 → j < 16 → change_in cells (128 + k * 16 + j) ≡ change_of (get_or words (changes_from + 16 * k + j) 0)
  unfolding change_in change_of
  change-here k j l m = rw (cell_here k j l m)

  pending-here : (k : ℕ) → k < 64 → pending_of cells k ≡ changes_at words k
  pending-here k l =
      rw (count-here k l)
      (tabulate_same (λ j. change_of (get_or words (changes_from + 16 * k + j) 0)) (change_in cells) 0 (128 + k * 16) (get_or words (pending_from + k) 0)
      (λ j m. let e : 128 + k * 16 + j ≡ 128 + k * 16 + (0 + j) = omega arith in ap (change_in cells) e ∙ change-here k (0 + j) l (omega (arith, pending_most (runners t) n words s h f k l))))

  is : decode_session words ≡ s
  is = decode_session_lem (runners t) n few words s h f

  pub values-here : values n cells ≡ s.values
  unfolding values decode_session
  values-here =
      tabulate_same (λ k. truth (get_or words (values_from + k) 0)) (value_of cells) 0 0 n (λ k l. ap truth (ld.same (0 + k) (omega arith) ∙ ap (λ z. get_or words z 0) (omega arith)))
      ∙ ap (λ m. tabulate (λ k. truth (get_or words (values_from + k) 0)) 0 m) (sym (count_is (runners t) n words s h f))
      ∙ ap (λ q. q.values) is

  pub pendings-here : pendings n cells ≡ s.pending
  unfolding pendings decode_session
  pendings-here =
      tabulate_same (changes_at words) (pending_of cells) 0 0 n (λ k l. pending-here (0 + k) (omega arith))
      ∙ ap (λ m. tabulate (changes_at words) 0 m) (sym (count_is (runners t) n words s h f))
      ∙ ap (λ q. q.pending) is

  rises : (k : ℕ) → k < 64 → Rising (pending_of cells k)
  unfolding Rising tabulate
  rises k l =
      ⊎_elim
      (λ m. subst Rising (sym (ap (λ p. get_or p k []) pendings-here) ∙ pending_at n cells k m) (f.rising k))
      (λ m. rw (count-here k l ∙ pending-unused words s h k (omega (arith, count_is (runners t) n words s h f)) l) tt)
      (side k n)

  pub cells_fit : FitFor n cells
  cells_fit =
      record {
        few = few;
        fit =
            record {
              long = ld.long;
              bits = λ k l. omega (arith, ld.same k (omega arith), value-below words s h k l);
              few = λ k l. omega (arith, count-here k l, pending_most (runners t) n words s h f k l);
              rising = rises;
              unused = λ k i l a b. cell_here k i l b ∙ changes-unused words s h k i (omega (arith, count-here k l)) l b;
            };
        no_values = λ k l m. ld.same k (omega arith) ∙ values-unused words s h k (omega (arith, count_is (runners t) n words s h f)) m;
        no_counts = λ k l m. count-here k m ∙ pending-unused words s h k (omega (arith, count_is (runners t) n words s h f)) m;
      }

-- FROM CELLS TO WORDS

word_back : (cells : List ℕ) (z : ℕ) → change_word (change_in cells z) ≡ get_or cells z 0
unfolding change_in
word_back cells z = rw (number-truth (get_or cells z 0 % 2) (omega arith)) (omega arith)

module _ (n time : ℕ) (cells : List ℕ) (f : FitFor n cells) where
  abbrev words : List ℕ
  words = n ∷ time ∷ cells

  two_on : (z : ℕ) → get_or words (2 + z) 0 ≡ get_or cells z 0
  two_on z = let e : 2 + z ≡ suc (suc z) = omega arith in rw e

  value-word : (k : ℕ) → k < 64 → get_or cells k 0 ≡ get_or (map number (values n cells)) k 0
  value-word k l =
      ⊎_elim
      (λ m. sym (at_map number (values n cells) k false 0 (omega (arith, length-values n cells)) ∙ ap number (value_at n cells k m) ∙ number-truth (get_or cells k 0) (omega (arith, f.fit.bits k l))))
      (λ m. f.no_values k m l ∙ sym (get_or-eq_default (map number (values n cells)) 0 {n = k} (omega (arith, length-map (values n cells) number, length-values n cells))))
      (side k n)

  count_word : (k : ℕ) → k < 64 → count_of cells k ≡ get_or (map length (pendings n cells)) k 0
  count_word k l =
      ⊎_elim
      (λ m. sym (at_map length (pendings n cells) k [] 0 (omega (arith, length-pendings n cells)) ∙ ap length (pending_at n cells k m) ∙ length-tabulate (change_in cells) (128 + k * 16) (count_of cells k)))
      (λ m. f.no_counts k m l ∙ sym (get_or-eq_default (map length (pendings n cells)) 0 {n = k} (omega (arith, length-map (pendings n cells) length, length-pendings n cells))))
      (side k n)

  its_changes : (k : ℕ) → k < 64 → get_or (pendings n cells) k [] ≡ pending_of cells k
  unfolding tabulate
  its_changes k l =
      ⊎_elim (λ m. pending_at n cells k m) (λ m. pending-past n cells k m ∙ sym (ap (tabulate (change_in cells) (128 + k * 16)) (f.no_counts k m l))) (side k n)

  change-word : (k j : ℕ) → k < 64 → j < 16 → get_or cells (128 + k * 16 + j) 0 ≡ get_or (map change_word (get_or (pendings n cells) k [])) j 0
  change-word k j l m =
      rw (its_changes k l)
      (⊎_elim
      (λ b. sym (at_map change_word (pending_of cells k) j (change 0 false) 0 (omega (arith, length-tabulate (change_in cells) (128 + k * 16) (count_of cells k)))
      ∙ ap change_word (at_tabulate (change_in cells) (change 0 false) (128 + k * 16) (count_of cells k) j b) ∙ word_back cells (128 + k * 16 + j)))
      (λ b. f.fit.unused k j l b m ∙ sym (get_or-eq_default (map change_word (pending_of cells k)) 0 {n = j}
      (omega (arith, length-map (pending_of cells k) change_word, length-tabulate (change_in cells) (128 + k * 16) (count_of cells k)))))
      (side j (count_of cells k)))

  holds : HoldsSession words (session_of time n cells)
  holds =
      record {
        long = omega (arith, f.fit.long);
        agree = length-pendings n cells ∙ sym (length-values n cells);
        count = sym (length-values n cells);
        time = refl;
        values = λ k l. two_on k ∙ value-word k l;
        pending = λ k l. let e : pending_from + k ≡ 2 + (64 + k) = omega arith in ap (λ z. get_or words z 0) e ∙ two_on (64 + k) ∙ count_word k l;
        changes = λ k j l m. let e : changes_from + 16 * k + j ≡ 2 + (128 + k * 16 + j) = omega arith in ap (λ z. get_or words z 0) e ∙ two_on (128 + k * 16 + j) ∙ change-word k j l m;
      }

  pub words_are : words ≡ session_words (session_of time n cells)
  words_are = sym (take_all session_size words (omega (arith, f.fit.long))) ∙ words_of_session words (session_of time n cells) holds
