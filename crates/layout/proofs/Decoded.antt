-- Words that keep the layout hold the table, or the session, that they are read as; and no others hold a fit one. So words are fit just where they
-- keep the layout and what they are read as is fit. Assumes nothing.
use Prim.Native.Nat.{ℕ, zero, suc, ◌+◌, ◌*◌, ◌%◌, ◌≤◌, ◌<◌}
use native.Mathlib.Omega.{arith}
use mathlib.Core.Path.{◌≡◌, refl, sym, ◌∙◌, ap, subst}
use mathlib.Core.Bool.{Bool, false}
use mathlib.Core.Logic.{⊎_elim}
use mathlib.Core.List.{List, [], map}
use lib.ListN.{length, get_or, length-map, get_or-eq_default}
use Rattle.laws.proofs.Cases.{side}
use Rattle.laws.proofs.Lists.{at_map}
use Rattle.rules.specs.Pending.{Change}
use Rattle.rules.specs.Session.{Session, FitSession}
use Rattle.table.specs.Instructions.{negation}
use Rattle.table.specs.Table.{Table, tabulate, runners}
use Rattle.table.specs.Translation.{number}
use Rattle.table.specs.Fit.{FitTable}
use Rattle.table.proofs.Tabulated.{length-tabulate, at_tabulate}
use Rattle.layout.specs.TableWords.{signals_at, processes_at, instructions_at, initial_from, listeners_from, ends_from, operations_from, delays_from, table_size, operation_word, delay_word, HoldsTable, FitTableWords}
use Rattle.layout.specs.SessionWords.{count_at, values_from, pending_from, changes_from, session_size, change_word, HoldsSession, FitSessionWords}
use Rattle.layout.proofs.Columns.{truth}
use Rattle.layout.proofs.ChangeWords.{change_of, none}
use Rattle.layout.proofs.TableLaws.{instruction_at, initial-below, initial-unused, listeners-unused, ends-unused, operations-unused, delays-unused, operation_at, delay_at, instruction_at_lem}
use Rattle.layout.proofs.Tables.{decode_table, table_of_fit_words}
use Rattle.layout.proofs.SessionLaws.{value-below, values-unused, pending-unused, changes-unused}
use Rattle.layout.proofs.Sessions.{changes_at, decode_session, session_of_fit_words}

pub number-truth : (w : ℕ) → w < 2 → number (truth w) ≡ w
number-truth zero l = refl
number-truth (suc zero) l = refl
number-truth (suc (suc w)) l = absurd (omega arith)

-- a column that agrees with a list where it is in use, and is zero elsewhere
kept : (words list : List ℕ) (from size n : ℕ) → length list ≡ n → ((k : ℕ) → k < n → k < size → get_or list k 0 ≡ get_or words (from + k) 0)
    → ((k : ℕ) → n ≤ k → k < size → get_or words (from + k) 0 ≡ 0) → (k : ℕ) → k < size → get_or words (from + k) 0 ≡ get_or list k 0
kept words list from size n e used unused k l =
    ⊎_elim
    (λ u. sym (used k u l))
    (λ u. unused k u l ∙ sym (get_or-eq_default list 0 {n = k} (omega arith)))
    (side k n)

module _ {A : Type 0} (write : A → ℕ) (read : ℕ → A) (d : A) where
  length-written : (n : ℕ) → length (map write (tabulate read 0 n)) ≡ n
  length-written n = length-map (tabulate read 0 n) write ∙ length-tabulate read 0 n

  at_written : (n k : ℕ) → k < n → get_or (map write (tabulate read 0 n)) k 0 ≡ write (read k)
  at_written n k l =
      at_map write (tabulate read 0 n) k d 0 (omega (arith, length-tabulate read 0 n)) ∙ ap write (at_tabulate read d 0 n k l ∙ ap read (omega arith))

-- TABLES

-- unused places are zero, a yes-or-no is 0 or 1, and an instruction's words are those of the instruction that they are read as
pub record PlainTable (words : List ℕ) : Type 0 where
  pub long : table_size ≤ length words
  pub initial : (k : ℕ) → k < 64 → get_or words (initial_from + k) 0 < 2
  pub no_initial : (k : ℕ) → get_or words signals_at 0 ≤ k → k < 64 → get_or words (initial_from + k) 0 ≡ 0
  pub no_listeners : (k : ℕ) → get_or words signals_at 0 ≤ k → k < 64 → get_or words (listeners_from + k) 0 ≡ 0
  pub no_ends : (p : ℕ) → get_or words processes_at 0 ≤ p → p < 64 → get_or words (ends_from + p) 0 ≡ 0
  pub operations : (x : ℕ) → x < get_or words instructions_at 0 → x < 4096 → operation_word (instruction_at words x) ≡ get_or words (operations_from + x) 0
  pub delays : (x : ℕ) → x < get_or words instructions_at 0 → x < 4096 → delay_word (instruction_at words x) ≡ get_or words (delays_from + x) 0
  pub no_operations : (x : ℕ) → get_or words instructions_at 0 ≤ x → x < 4096 → get_or words (operations_from + x) 0 ≡ 0
  pub no_delays : (x : ℕ) → get_or words instructions_at 0 ≤ x → x < 4096 → get_or words (delays_from + x) 0 ≡ 0

pub plain-table-holds : (words : List ℕ) → PlainTable words → HoldsTable words (decode_table words)
unfolding decode_table
plain-table-holds words p =
    let signals = get_or words signals_at 0 in
    let processes = get_or words processes_at 0 in
    let instructions = get_or words instructions_at 0 in
    let value : ℕ → Bool = λ k. truth (get_or words (initial_from + k) 0) in
    let listener : ℕ → ℕ = λ k. get_or words (listeners_from + k) 0 in
    let end : ℕ → ℕ = λ k. get_or words (ends_from + k) 0 in
    record {
      long = p.long;
      signals = sym (length-tabulate _ 0 signals);
      processes = sym (length-tabulate _ 0 processes);
      instructions = sym (length-tabulate _ 0 instructions);
      initial = kept words (map number (tabulate value 0 signals)) initial_from 64 signals (length-written number value false signals)
          (λ k u l. at_written number value false signals k u ∙ number-truth (get_or words (initial_from + k) 0) (p.initial k l)) p.no_initial;
      listeners = kept words (tabulate listener 0 signals) listeners_from 64 signals (length-tabulate listener 0 signals)
          (λ k u l. at_tabulate listener 0 0 signals k u ∙ ap listener (omega arith)) p.no_listeners;
      ends = kept words (tabulate end 0 processes) ends_from 64 processes (length-tabulate end 0 processes)
          (λ k u l. at_tabulate end 0 0 processes k u ∙ ap end (omega arith)) p.no_ends;
      operations = kept words (map operation_word (tabulate (instruction_at words) 0 instructions)) operations_from 4096 instructions
          (length-written operation_word (instruction_at words) negation instructions)
          (λ x u l. at_written operation_word (instruction_at words) negation instructions x u ∙ p.operations x u l) p.no_operations;
      delays = kept words (map delay_word (tabulate (instruction_at words) 0 instructions)) delays_from 4096 instructions
          (length-written delay_word (instruction_at words) negation instructions)
          (λ x u l. at_written delay_word (instruction_at words) negation instructions x u ∙ p.delays x u l) p.no_delays;
    }

pub holds-plain-table : (words : List ℕ) (t : Table) → HoldsTable words t → FitTable t → PlainTable words
holds-plain-table words t h f =
    record {
      long = h.long;
      initial = initial-below words t h;
      no_initial = initial-unused words t h;
      no_listeners = listeners-unused words t h f;
      no_ends = ends-unused words t h;
      operations = λ x u l. let m : x < length t.code = omega (arith, h.instructions) in
          ap operation_word (instruction_at_lem words t h f x m) ∙ sym (operation_at words t h f x m);
      delays = λ x u l. let m : x < length t.code = omega (arith, h.instructions) in
          ap delay_word (instruction_at_lem words t h f x m) ∙ sym (delay_at words t h f x m);
      no_operations = operations-unused words t h;
      no_delays = delays-unused words t h;
    }

-- both ways: words are fit just where they keep the layout and are read as a fit table
pub plain-fit-table : (words : List ℕ) → PlainTable words → FitTable (decode_table words) → FitTableWords words
plain-fit-table words p f = record { table = decode_table words; holds = plain-table-holds words p; fit = f }

pub fit-plain-table : (words : List ℕ) → FitTableWords words → PlainTable words × FitTable (decode_table words)
fit-plain-table words f = (holds-plain-table words f.table f.holds f.fit, subst FitTable (table_of_fit_words words f) f.fit)

-- SESSIONS

-- unused places are zero, and a yes-or-no is 0 or 1
pub record PlainSession (words : List ℕ) : Type 0 where
  pub long : session_size ≤ length words
  pub values : (k : ℕ) → k < 64 → get_or words (values_from + k) 0 < 2
  pub no_values : (k : ℕ) → get_or words count_at 0 ≤ k → k < 64 → get_or words (values_from + k) 0 ≡ 0
  pub no_pending : (k : ℕ) → get_or words count_at 0 ≤ k → k < 64 → get_or words (pending_from + k) 0 ≡ 0
  pub no_changes : (k j : ℕ) → get_or words (pending_from + k) 0 ≤ j → k < 64 → j < 16 → get_or words (changes_from + 16 * k + j) 0 ≡ 0

word_of_change : (w : ℕ) → change_word (change_of w) ≡ w
unfolding change_of
word_of_change w = omega (arith, number-truth (w % 2) (omega arith))

plain-changes : (words : List ℕ) → PlainSession words → (k j : ℕ) → k < 64 → j < 16
    → get_or words (changes_from + 16 * k + j) 0 ≡ get_or (map change_word (get_or (tabulate (changes_at words) 0 (get_or words count_at 0)) k [])) j 0
plain-changes words p k j l m =
    let n = get_or words count_at 0 in
    let here : ℕ → Change = λ i. change_of (get_or words (changes_from + 16 * k + i) 0) in
    let count = get_or words (pending_from + k) 0 in
    ⊎_elim
    (λ u. kept words (map change_word (changes_at words k)) (changes_from + 16 * k) 16 count
    (length-written change_word here none count)
    (λ i v o. at_written change_word here none count i v ∙ word_of_change (get_or words (changes_from + 16 * k + i) 0))
    (λ i v o. p.no_changes k i v l o) j m
    ∙ ap (λ cs. get_or (map change_word cs) j 0) (sym (at_tabulate (changes_at words) [] 0 n k u ∙ ap (changes_at words) (omega arith))))
    (λ u. p.no_changes k j (omega (arith, p.no_pending k u l)) l m
    ∙ ap (λ cs. get_or (map change_word cs) j 0)
    (sym (get_or-eq_default (tabulate (changes_at words) 0 n) [] {n = k} (omega (arith, length-tabulate (changes_at words) 0 n)))))
    (side k n)

pub plain-session-holds : (words : List ℕ) → PlainSession words → HoldsSession words (decode_session words)
unfolding decode_session
plain-session-holds words p =
    let n = get_or words count_at 0 in
    let value : ℕ → Bool = λ k. truth (get_or words (values_from + k) 0) in
    record {
      long = p.long;
      agree = length-tabulate _ 0 n ∙ sym (length-tabulate _ 0 n);
      count = sym (length-tabulate _ 0 n);
      time = refl;
      values = kept words (map number (tabulate value 0 n)) values_from 64 n (length-written number value false n)
          (λ k u l. at_written number value false n k u ∙ number-truth (get_or words (values_from + k) 0) (p.values k l)) p.no_values;
      pending = kept words (map length (tabulate (changes_at words) 0 n)) pending_from 64 n (length-written length (changes_at words) [] n)
          (λ k u l. at_written length (changes_at words) [] n k u ∙ length-tabulate _ 0 (get_or words (pending_from + k) 0)) p.no_pending;
      changes = plain-changes words p;
    }

pub holds-plain-session : (words : List ℕ) (s : Session) → HoldsSession words s → PlainSession words
holds-plain-session words s h =
    record {
      long = h.long;
      values = value-below words s h;
      no_values = values-unused words s h;
      no_pending = pending-unused words s h;
      no_changes = changes-unused words s h;
    }

pub plain-fit-session : (t : Table) (words : List ℕ) → PlainSession words → FitSession (runners t) (length t.initial) (decode_session words) → FitSessionWords t words
plain-fit-session t words p f = record { session = decode_session words; holds = plain-session-holds words p; fit = f }

pub fit-plain-session : (t : Table) (words : List ℕ) → length t.initial ≤ 64 → FitSessionWords t words
    → PlainSession words × FitSession (runners t) (length t.initial) (decode_session words)
fit-plain-session t words l f =
    (holds-plain-session words f.session f.holds, subst (λ s. FitSession (runners t) (length t.initial) s) (session_of_fit_words t words l f) f.fit)
