-- The start on cells is the start. Assumes nothing.
use Prim.Native.Nat.{ℕ, zero, suc, ◌+◌, ◌-◌, ◌*◌, ◌<◌, ◌≤◌}
use mathlib.Core.Path.{◌≡◌, refl, ap, sym, ◌∙◌}
use mathlib.Core.List.{List, [], ◌++◌}
use mathlib.Core.Bool.{true}
use native.Mathlib.Omega.{arith}
use lib.ListN.{length, get_or, drop, replicate, length-append, length-drop, length-replicate, get_or-append}
use lib.Pow.{pow_pos}
use Rattle.std.specs.List.{between}
use Rattle.std.proofs.lemmas.List.{get_or-append_right, get_or-drop}
use Rattle.std.proofs.lemmas.List.Edits.{get_or-between}
use Rattle.std.specs.Prelude.{Ok, Err}
use Rattle.refusal.specs.declared.Reason.{Reason}
use Rattle.refusal.specs.Numbers.{number_of}
use Rattle.rules.specs.Outcome.{Outcome, refuses, gives, ◌then◌}
use Rattle.rules.specs.Formulas.{Values}
use Rattle.rules.specs.Pending.{Change, Pending, due_in}
use Rattle.rules.specs.Runner.{Left, Runner, joined}
use Rattle.rules.specs.Session.{Each, Rising}
use Rattle.rules.specs.Dump.{start_bytes}
use Rattle.rules.specs.Calls.{Progress, refused, moved, answered, cycles, started, start}
use Rattle.table.specs.Table.{Table, tabulate, runner, runners}
use Rattle.table.proofs.Tabulated.{bit-zero}
use Rattle.table.proofs.Threads.{threaded}
use Rattle.table.proofs.Local.{one_after_the_other}
use Rattle.layout.specs.TableWords.{initial_from, FitTableWords}
use Rattle.layout.proofs.TableLaws.{initial-below, initial-unused, signals_most}
use Rattle.layout.proofs.Tables.{decode_table}
use Rattle.cells.specs.Cells.{truth, pending_of, value_of, values, pendings, Fit, FitFor, Due}
use Rattle.cells.proofs.Tabulating.{tabulate_same}
use Rattle.machine.specs.Inside.Steps.{signals_of}
use Rattle.machine.specs.declared.Ran.{Ran}
use Rattle.machine.proofs.Fetching.{held, fits}
use Rattle.cycles.specs.Inside.Turns.{processes_of, turns, WakesAs, session_of, progress_of}
use Rattle.cycles.proofs.Waking.{turns-threaded}
use Rattle.session.specs.Inside.Goings.{Fresh, AllOf}

-- THE CELLS AT THE START

-- the values are there, and nothing else
record Filled (tb cells : List ℕ) : Type 0 where
  long : length cells ≡ 1152
  filled : (j : ℕ) → j < 64 → get_or cells j 0 ≡ get_or tb (initial_from + j) 0
  empty : (j : ℕ) → 64 ≤ j → get_or cells j 0 ≡ 0

same_anywhere : {A : Type 0} (n j : ℕ) (a : A) → get_or (replicate n a) j a ≡ a
same_anywhere zero j a = refl
same_anywhere (suc n) zero a = refl
same_anywhere (suc n) (suc j) a = same_anywhere n j a

copied : (tb values : List ℕ) → values ≡ between 3 67 tb → length values ≡ 64 → Filled tb (values ++ drop 64 (replicate 1152 0))
copied tb values e n =
    record {
      long = rw length-append (omega (arith, length-drop {A = ℕ} 64 (replicate 1152 0), length-replicate {A = ℕ} 1152 0));
      filled = λ j l. get_or-append values (drop 64 (replicate 1152 0)) 0 j (omega (arith, n)) ∙ ap (λ l. get_or l j 0) e ∙ get_or-between tb 3 67 j 0 (omega arith);
      empty = λ j l. get_or-append_right values (drop 64 (replicate 1152 0)) 64 j 0 n l ∙ get_or-drop 64 (replicate 1152 0) (j - 64) 0 ∙ same_anywhere 1152 (64 + (j - 64)) 0;
    }

module _ (tb : List ℕ) (table : FitTableWords tb) (cells : List ℕ) (f : Filled tb cells) where
  abbrev n : ℕ
  n = signals_of tb

  no_changes_lem : (k : ℕ) → pending_of cells k ≡ []
  unfolding tabulate
  no_changes_lem k = rw (f.empty (64 + k) (omega arith))

  fit-cells : Fit cells
  unfolding Rising
  fit-cells =
      record {
        long = f.long;
        bits = λ k l. omega (arith, f.filled k l, initial-below tb (decode_table tb) (held tb table) k l);
        few = λ k l. omega (arith, f.empty (64 + k) (omega arith));
        rising = λ k l. rw (no_changes_lem k) tt;
        unused = λ k i l a b. f.empty (128 + k * 16 + i) (omega arith);
      }

  fit_for : FitFor n cells
  fit_for =
      record {
        few = signals_most tb (decode_table tb) (held tb table) (fits tb table);
        fit = fit-cells;
        no_values = λ k l h. f.filled k h ∙ initial-unused tb (decode_table tb) (held tb table) k l h;
        no_counts = λ k l h. f.empty (64 + k) (omega arith);
      }

  its_values : values n cells ≡ (decode_table tb).initial
  unfolding values decode_table
  its_values = tabulate_same _ (value_of cells) 0 0 n (λ k l. ap truth (f.filled (0 + k) (omega (arith, fit_for.few))))

  no_tabulate : (g : ℕ → List Change) (i m : ℕ) → ((k : ℕ) → g k ≡ []) → tabulate g i m ≡ replicate m []
  unfolding tabulate
  no_tabulate g i zero h = refl
  no_tabulate g i (suc m) h = rw (h i, no_tabulate g (suc i) m h)

  its_pending : pendings n cells ≡ replicate (length (decode_table tb).initial) []
  unfolding pendings
  its_pending = no_tabulate (pending_of cells) 0 n no_changes_lem ∙ ap (λ m. replicate m []) (held tb table).signals

  filled-up : Fresh tb cells
  filled-up = record { fit = fit_for; values = its_values; pending = its_pending }

pub fresh_copied : (tb values : List ℕ) → FitTableWords tb → values ≡ between 3 67 tb → length values ≡ 64 → Fresh tb (values ++ drop 64 (replicate 1152 0))
fresh_copied tb values table e n = filled-up tb table (values ++ drop 64 (replicate 1152 0)) (copied tb values e n)

-- THE RUN

-- from values and pending changes that are those of the start
started_at : (rs : List Runner) (initial vs : Values) (p : Pending) → vs ≡ initial → p ≡ replicate (length initial) []
    → started rs initial
    ≡ (joined rs vs 0 (λ wakes. true) p (record { pending = p; steps = 0 })
    then (λ a. cycles rs 1000 0 (record { session = record { time = 0; values = vs; pending = a.pending }; cycles = 0; steps = a.steps })))
unfolding started
started_at rs initial vs p e d = rw (e, d)

module _ (tb : List ℕ) (table : FitTableWords tb) (cs : List ℕ) (fresh : Fresh tb cs) where
  abbrev signals : ℕ
  signals = signals_of tb

  abbrev t : Table
  t = decode_table tb

  nothing_at : (m k : ℕ) (p : Pending) → p ≡ replicate m [] → get_or p k [] ≡ []
  nothing_at m k p e = ap (λ q. get_or q k []) e ∙ same_anywhere m k []

  pub nothing-due : Due 0 0 (pendings signals cs)
  unfolding due_in Each
  nothing-due =
      record {
        small = pow_pos (length (pendings signals cs));
        tells = λ k. bit-zero k ∙ sym (ap (due_in 0) (nothing_at (length t.initial) k (pendings signals cs) fresh.pending));
        reached = λ k. rw (nothing_at (length t.initial) k (pendings signals cs) fresh.pending) tt;
      }

  module _ (word : ℕ) (all : AllOf (processes_of tb) word) where
    abbrev onward : Left → Outcome Progress
    onward a = cycles (runners t) 1000 0 (record { session = record { time = 0; values = values signals cs; pending = a.pending }; cycles = 0; steps = a.steps })

    in_turn : (a : Left) → threaded (runners t) (values signals cs) 0 (λ wakes. true) a ≡ turns t (values signals cs) 0 word (processes_of tb) 0 a
    unfolding runners
    in_turn a =
        ap (λ m. threaded (tabulate (runner t) 0 m) (values signals cs) 0 (λ wakes. true) a) (sym (held tb table).processes)
        ∙ turns-threaded t (values signals cs) 0 word (λ wakes. true) (processes_of tb) 0 a (λ j l m. sym (all.set j (omega arith)))

    begins : started (runners t) t.initial ≡ (turns t (values signals cs) 0 word (processes_of tb) 0 (record { pending = pendings signals cs; steps = 0 }) then onward)
    begins =
        started_at (runners t) t.initial (values signals cs) (pendings signals cs) fresh.values fresh.pending
        ∙ ap (λ (o : Outcome Left). o then onward)
        (one_after_the_other t (fits tb table) (values signals cs) 0 (λ wakes. true) (pendings signals cs) 0
        ∙ in_turn (record { pending = pendings signals cs; steps = 0 }))

    pub begin_full : (reason : Reason) (ds : List ℕ) → WakesAs cs tb word 0 0 (Err reason) ds → start (runners t) t.initial ≡ refused (number_of reason)
    unfolding start
    begin_full reason ds w = rw w.ran.0 (ap (answered start_bytes) (begins ∙ ap (λ (o : Outcome Left). o then onward) w.ran.1))

    module _ (ran : Ran) (ds : List ℕ) (w : WakesAs cs tb word 0 0 (Ok ran) ds) where
      pub due-after : Due ran.due 0 (pendings signals ds)
      due-after = w.ran.due nothing-due

      begun : started (runners t) t.initial ≡ cycles (runners t) 1000 0 (progress_of 0 signals ds 0 ran.steps)
      begun =
          begins
          ∙ ap (λ (o : Outcome Left). o then onward) w.ran.ran
          ∙ ap (λ (vs : Values). cycles (runners t) 1000 0 (record { session = record { time = 0; values = vs; pending = pendings signals ds }; cycles = 0; steps = ran.steps })) (sym w.same)

      pub begin-refused : (number : ℕ) → cycles (runners t) 1000 0 (progress_of 0 signals ds 0 ran.steps) ≡ refuses number → start (runners t) t.initial ≡ refused number
      unfolding start
      begin-refused number e = ap (answered start_bytes) (begun ∙ e)

      pub begin-moved : (c m : ℕ) (fs : List ℕ) → cycles (runners t) 1000 0 (progress_of 0 signals ds 0 ran.steps) ≡ gives (progress_of 0 signals fs c m)
          → start (runners t) t.initial ≡ moved (record { session = session_of 0 signals fs; bytes = start_bytes (values signals fs); cycles = c; steps = m })
      unfolding start
      begin-moved c m fs e = ap (answered start_bytes) (begun ∙ e)
