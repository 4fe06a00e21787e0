-- The draft of an accepted text's design, with its counts, is the table of the design's circuit; what stands behind it stays. Assumes nothing.
use Prim.Native.Nat.{ℕ, zero, suc, ◌≤◌, ◌<◌}
use native.Mathlib.Omega.{arith}
use mathlib.Core.Path.{◌≡◌, refl, sym, ◌∙◌, ap, ap₂}
use mathlib.Core.Logic.{⊎_elim}
use mathlib.Core.List.{List, [], ◌∷◌, ◌++◌}
use lib.ListN.{length, get_or, set, drop, length-append, length-set, take-append-drop, get_or-eq_default}
use lib.Seq.{get_or-set_same, get_or-set_other, drop_at}
use Rattle.laws.proofs.Cases.{side}
use Rattle.words.specs.Token.{Name}
use Rattle.syntax.specs.Tree.{Design, design}
use Rattle.syntax.specs.Circuit.{Activity, Circuit}
use Rattle.rules.specs.Sized.{Listed, idle, Sized}
use Rattle.table.specs.Table.{tabulate}
use Rattle.table.specs.Translation.{ends_from, code_from, word, listeners_of, translate}
use Rattle.table.proofs.Tabulated.{length-tabulate, at_tabulate}
use Rattle.table.proofs.Faithful.{unlisted}
use Rattle.names.specs.CircuitOf.{circuit_of, declared_names}
use Rattle.names.specs.Text.{Gets, accepts}
use Rattle.names.proofs.Sizes.{as_many_signals}
use Rattle.names.proofs.Answer.{accepted-sized}
use Rattle.layout.specs.TableWords.{signals_at, processes_at, instructions_at, table_size, table_words, HoldsTable}
use Rattle.layout.proofs.Tables.{words_of_table}
use Rattle.emission.specs.Inside.Draft.{Draft, zeros, cleared, nothing, counted, design_draft, declarations_draft}
use Rattle.emission.proofs.Columns.{Filled, filled-count}
use Rattle.emission.proofs.Stages.{Stage, processes_stage}
use Rattle.emission.proofs.Declarations.{declarations_stage}

-- NOTHING READ YET

as_many_zeros : (n : ℕ) → length (zeros n) ≡ n
unfolding zeros
as_many_zeros zero = refl
as_many_zeros (suc n) = ap suc (as_many_zeros n)

zeros_at : (n : ℕ) (rest : List ℕ) (i : ℕ) → i < n → get_or (zeros n ++ rest) i 0 ≡ 0
unfolding zeros
zeros_at zero rest i l = absurd (omega arith)
zeros_at (suc n) rest zero l = refl
zeros_at (suc n) rest (suc i) l = zeros_at n rest i (omega arith)

nothing_stage : (words : List ℕ) → Stage (nothing (cleared words)) (drop table_size words) [] [] [] [] []
unfolding listeners_of word
nothing_stage words =
    let rest = drop table_size words in
    let n = as_many_zeros table_size in
    record {
      filled = record {
        long = omega (arith, length-append (zeros table_size) rest);
        after = drop_at (zeros table_size) rest table_size n;
        initial = λ k l. zeros_at table_size rest _ (omega arith);
        listeners = λ k l. zeros_at table_size rest _ (omega arith);
        ended = λ k l. zeros_at table_size rest _ (omega arith);
        operations = λ k l. zeros_at table_size rest _ (omega arith);
        delays = λ k l. zeros_at table_size rest _ (omega arith);
      };
      called = refl;
      opened = refl;
      closed = refl;
      reached = refl;
    }

-- ALL READ

-- a signal that is not listed wakes none
wakes-none : (n k : ℕ) (processes : List Activity) → ((p : ℕ) → p < length processes → Listed n (get_or processes p idle).wakes) → n ≤ k → listeners_of processes k ≡ 0
unfolding listeners_of word
wakes-none n k [] h l = refl
wakes-none n k (a ∷ processes) h l = rw (unlisted n a.wakes k (h 0 (omega arith)) l) (omega (arith, wakes-none n k processes (λ p g. h (suc p) (omega arith)) l))

listeners-column : (c : Circuit) → Sized c → (k : ℕ) → listeners_of c.processes k ≡ get_or (translate c).listeners k 0
unfolding translate
listeners-column c s k =
    let f = listeners_of c.processes in
    let n = length c.initial in
    ⊎_elim
    (λ g. sym (at_tabulate f 0 0 n k g ∙ ap f (omega arith)))
    (λ g. wakes-none n k c.processes s.listed g ∙ sym (get_or-eq_default (tabulate f 0 n) 0 {n = k} (omega (arith, length-tabulate f 0 n))))
    (side k n)

-- the counts make it a table
module _ (m : Draft) (behind : List ℕ) (c : Circuit) (s : Sized c) (names : List Name) (e : length names ≡ length c.initial)
    (t : Stage m behind c.initial names c.processes (ends_from 0 c.processes) (code_from 0 c.processes)) where
  counts : Filled (counted m) behind c.initial (listeners_of c.processes) (ends_from 0 c.processes) (code_from 0 c.processes)
  counts = filled-count (filled-count (filled-count t.filled signals_at _ (omega arith)) processes_at _ (omega arith)) instructions_at _ (omega arith)

  counted-holds : HoldsTable (counted m) (translate c)
  unfolding translate
  counted-holds =
      let a = set m.words signals_at (length m.names) in
      let b = set a processes_at m.processes in
      let l = t.filled.long in
      let la = length-set m.words signals_at (length m.names) in
      let lb = length-set a processes_at m.processes in
      record {
        long = counts.long;
        signals = get_or-set_other b instructions_at signals_at _ 0 (omega arith) ∙ get_or-set_other a processes_at signals_at _ 0 (omega arith)
            ∙ get_or-set_same m.words signals_at _ 0 (omega arith) ∙ ap length t.called ∙ e;
        processes = get_or-set_other b instructions_at processes_at _ 0 (omega arith) ∙ get_or-set_same a processes_at _ 0 (omega arith) ∙ t.opened ∙ sym t.closed;
        instructions = get_or-set_same b instructions_at _ 0 (omega arith) ∙ t.reached;
        initial = counts.initial;
        listeners = λ k g. counts.listeners k g ∙ listeners-column c s k;
        ends = counts.ended;
        operations = counts.operations;
        delays = counts.delays;
      }

  counted-table : counted m ≡ table_words (translate c) ++ behind
  counted-table =
      sym (take-append-drop table_size (counted m)) ∙ ap₂ (λ xs ys. xs ++ ys) (words_of_table (counted m) (translate c) counted-holds) counts.after

pub drafted : (text words : List ℕ) (d : Design) → Gets text (accepts d)
    → counted (design_draft d (nothing (cleared words))) ≡ table_words (translate (circuit_of d)) ++ drop table_size words
drafted text words (design e w c a o ds ps w' c') g =
    let d = design e w c a o ds ps w' c' in
    let s = accepted-sized text d g in
    let m = declarations_draft ds (nothing (cleared words)) in
    let t = declarations_stage ds (nothing (cleared words)) [] [] (nothing_stage words) refl (omega (arith, s.few_signals)) in
    let u = processes_stage ps m [] [] [] t (omega (arith, s.few_processes)) (omega (arith, s.few_instructions, t.reached)) in
    counted-table (design_draft d (nothing (cleared words))) (drop table_size words) (circuit_of d) s (declared_names ds) (sym (as_many_signals d)) (rw t.reached at u)
