-- Words are fit just where each part that is tested is. Assumes nothing.
use Prim.Native.Nat.{ℕ, ◌+◌, ◌-◌, ◌/◌, ◌^◌, ◌≤◌, ◌<◌}
use native.Mathlib.Omega.{arith}
use native.Mathlib.Nat.{pow-le-pow_right}
use mathlib.Core.Path.{◌≡◌, refl, sym, ◌∙◌, ap, subst}
use mathlib.Core.Bool.{true, false}
use mathlib.Core.Logic.{⊎_elim}
use mathlib.Core.List.{List}
use lib.ListN.{length, get_or, get_or-eq_default}
use Rattle.laws.proofs.Cases.{side}
use Rattle.laws.proofs.Ranges.{in_part}
use Rattle.syntax.specs.Circuit.{AND, OR, NAND, NOR, XOR, XNOR}
use Rattle.table.specs.Instructions.{Instruction, name, literal, negation, binary, assignment, test, skip}
use Rattle.table.specs.Table.{begins}
use Rattle.table.specs.Fit.{at, Exists, FitTable}
use Rattle.layout.specs.TableWords.{operation_word, delay_word, FitTableWords}
use Rattle.layout.proofs.TableLaws.{instruction_at, words_small, operation_at, delay_at}
use Rattle.layout.proofs.Tables.{decode_table}
use Rattle.layout.proofs.Decoded.{PlainTable, plain-table-holds, plain-fit-table, fit-plain-table}
use Rattle.kind.specs.declared.Kind.TheVariants.{Name, Literal, Not, And, Or, Nand, Nor, Xor, Xnor, Assignment, Test, Skip}
use Rattle.fitness.specs.Inside.Kinds.{Legal, Legals}
use Rattle.fitness.specs.Inside.Parts.{signals, processes, instructions, Within, Few, Used, Unused, Rows, Sounds, Ready}
use Rattle.fitness.specs.Inside.Drivers.{Alone}
use Rattle.fitness.specs.Inside.Tested.{Tested}
use Rattle.fitness.proofs.Kind.{legal-words, legal-exists}
use Rattle.fitness.proofs.Reading.{count-signals, count-listeners, count-processes, count-instructions, listeners-word, code-word, rows-low}
use Rattle.fitness.proofs.Owners.{drives-posts, posts-drives}

-- unused places of a column, by their number and by their place
pub zero-part : (w : List ℕ) (base n m : ℕ) → ((k : ℕ) → n ≤ k → k < m → get_or w (base + k) 0 ≡ 0) → Within w (base + n) (base + m) 0
zero-part w base n m h j lo hi =
    let q : base + (j - base) ≡ j = omega arith in
    let z = subst (λ i. get_or w i 0 ≡ 0) q (h (j - base) (omega arith) (omega arith)) in
    omega arith

pub part-zero : (w : List ℕ) (base n m : ℕ) → Within w (base + n) (base + m) 0 → (k : ℕ) → n ≤ k → k < m → get_or w (base + k) 0 ≡ 0
part-zero w base n m z k lo hi = omega (arith, z (base + k) (omega arith) (omega arith))

-- the words of an instruction of a fit table are legal
legal_of : (s : ℕ) (i : Instruction) → Exists s i → operation_word i / 16 ≤ 4096 → Legal s (operation_word i) (delay_word i)
legal_of s (name k) h l = record { kind = Name; exists = omega arith; about = omega arith; short = omega arith }
legal_of s (literal true) h l = record { kind = Literal; exists = refl; about = omega arith; short = omega arith }
legal_of s (literal false) h l = record { kind = Literal; exists = refl; about = omega arith; short = omega arith }
legal_of s negation h l = record { kind = Not; exists = refl; about = omega arith; short = omega arith }
legal_of s (binary AND) h l = record { kind = And; exists = refl; about = omega arith; short = omega arith }
legal_of s (binary OR) h l = record { kind = Or; exists = refl; about = omega arith; short = omega arith }
legal_of s (binary NAND) h l = record { kind = Nand; exists = refl; about = omega arith; short = omega arith }
legal_of s (binary NOR) h l = record { kind = Nor; exists = refl; about = omega arith; short = omega arith }
legal_of s (binary XOR) h l = record { kind = Xor; exists = refl; about = omega arith; short = omega arith }
legal_of s (binary XNOR) h l = record { kind = Xnor; exists = refl; about = omega arith; short = omega arith }
legal_of s (assignment k d) h l = let a = h.0 in let b = h.1 in record { kind = Assignment; exists = omega arith; about = omega arith; short = omega arith }
legal_of s (test t) h l = record { kind = Test; exists = omega arith; about = omega arith; short = omega arith }
legal_of s (skip t) h l = record { kind = Skip; exists = omega arith; about = omega arith; short = omega arith }

-- FIT WORDS PASS EACH TEST

module _ (w : List ℕ) (words-fit : FitTableWords w) where
  plain : PlainTable w
  plain = (fit-plain-table w words-fit).0

  pub fits : FitTable (decode_table w)
  fits = (fit-plain-table w words-fit).1

  pub fit-few : Few w
  fit-few =
      record {
        long = plain.long;
        few_signals = omega (arith, count-signals w, fits.few_signals);
        few_processes = omega (arith, count-processes w, fits.few_processes);
        few_instructions = omega (arith, count-instructions w, fits.few_instructions);
      }

  fit-used : Used w
  fit-used =
      let s = fit-few.few_signals in
      record {
        values = λ i lo hi. in_part (λ j. get_or w j 0 ≤ 1) 3 (signals w) i (λ k l. omega (arith, plain.initial k (omega arith))) lo hi;
        listeners = λ i lo hi. in_part (λ j. get_or w j 0 ≤ 2 ^ processes w - 1) 67 (signals w) i
            (λ k l. omega (arith, listeners-word w k l, subst (λ n. get_or (decode_table w).listeners k 0 < 2 ^ n) (count-processes w) (fits.woken k))) lo hi;
      }

  fit-unused : Unused w
  fit-unused =
      record {
        no_values = zero-part w 3 (signals w) 64 plain.no_initial;
        no_listeners = zero-part w 67 (signals w) 64 plain.no_listeners;
        no_ends = zero-part w 131 (processes w) 64 plain.no_ends;
        no_operations = zero-part w 195 (instructions w) 4096 plain.no_operations;
        no_delays = zero-part w 4291 (instructions w) 4096 plain.no_delays;
      }

  pub fit-rows : Rows (decode_table w) (processes w) (instructions w)
  fit-rows =
      record {
        rising = λ p l. fits.rising p (omega (arith, count-processes w));
        cover = ap (begins (decode_table w)) (sym (count-processes w)) ∙ fits.cover ∙ count-instructions w;
      }

  fit_legals : Legals w (signals w) (instructions w)
  fit_legals x l =
      let h = plain-table-holds w plain in
      let m : x < length (decode_table w).code = omega (arith, count-instructions w) in
      let i = at (decode_table w).code x in
      rw (operation_at w (decode_table w) h fits x m, delay_at w (decode_table w) h fits x m)
      (legal_of (signals w) i (subst (λ n. Exists n i) (count-signals w) (fits.exists x m)) (words_small (decode_table w) fits x m).0)

  pub fit-ready : Ready w
  fit-ready = record { few = fit-few; rows = fit-rows; legal = fit_legals }

  fit_sounds : Sounds (decode_table w) (processes w)
  fit_sounds p l = fits.sound p (omega (arith, count-processes w))

  pub fit-alone : Alone (decode_table w) (processes w)
  fit-alone p q k a b c d =
      let x = rows-low (decode_table w) (processes w) (instructions w) fit-rows p a in
      let y = rows-low (decode_table w) (processes w) (instructions w) fit-rows q b in
      let n = count-instructions w in
      fits.alone p q k (omega (arith, count-processes w)) (omega (arith, count-processes w))
      (drives-posts (decode_table w) p x.0 (omega arith) k c) (drives-posts (decode_table w) q y.0 (omega arith) k d)

  pub pass_each : Tested w
  pass_each = record { ready = fit-ready; unused = fit-unused; used = fit-used; sound = fit_sounds; alone = fit-alone }

-- AND WORDS THAT PASS ALL ARE FIT

some_power : (n : ℕ) → 1 ≤ 2 ^ n
some_power n = pow-le-pow_right {n = 2} (omega arith) {i = 0} {j = n} (omega arith)

module _ (w : List ℕ) (tested : Tested w) where
  open tested use {ready, unused, used, sound, alone}

  plainly : PlainTable w
  unfolding instruction_at
  plainly =
      record {
        long = ready.few.long;
        initial = λ k l. ⊎_elim
            (λ u. omega (arith, used.values (3 + k) (omega arith) (omega arith)))
            (λ u. omega (arith, unused.no_values (3 + k) (omega arith) (omega arith)))
            (side k (signals w));
        no_initial = part-zero w 3 (signals w) 64 unused.no_values;
        no_listeners = part-zero w 67 (signals w) 64 unused.no_listeners;
        no_ends = part-zero w 131 (processes w) 64 unused.no_ends;
        operations = λ x u l. (legal-words (signals w) _ _ (ready.legal x u)).0;
        delays = λ x u l. (legal-words (signals w) _ _ (ready.legal x u)).1;
        no_operations = part-zero w 195 (instructions w) 4096 unused.no_operations;
        no_delays = part-zero w 4291 (instructions w) 4096 unused.no_delays;
      }

  wakes : (k : ℕ) → get_or (decode_table w).listeners k 0 < 2 ^ processes w
  wakes k =
      ⊎_elim
      (λ u. omega (arith, some_power (processes w), listeners-word w k u, used.listeners (67 + k) (omega arith) (omega arith)))
      (λ u. omega (arith, some_power (processes w), get_or-eq_default (decode_table w).listeners 0 {n = k} (omega (arith, count-listeners w))))
      (side k (signals w))

  exist : (x : ℕ) → x < instructions w → Exists (signals w) (at (decode_table w).code x)
  unfolding instruction_at
  exist x l = rw (code-word w x l) (legal-exists (signals w) _ _ (ready.legal x l))

  fitly : FitTable (decode_table w)
  fitly =
      let s = count-signals w in
      let p = count-processes w in
      let n = count-instructions w in
      let rows = ready.rows in
      record {
        few_signals = omega (arith, ready.few.few_signals);
        few_processes = omega (arith, ready.few.few_processes);
        few_instructions = omega (arith, ready.few.few_instructions);
        listening = count-listeners w ∙ sym s;
        woken = λ k. rw p (wakes k);
        rising = λ q l. rows.rising q (omega arith);
        cover = ap (begins (decode_table w)) p ∙ rows.cover ∙ sym n;
        exists = λ x l. rw s (exist x (omega arith));
        sound = λ q l. sound q (omega arith);
        alone = λ q r k a b c d.
            let x = rows-low (decode_table w) (processes w) (instructions w) rows q (omega arith) in
            let y = rows-low (decode_table w) (processes w) (instructions w) rows r (omega arith) in
            alone q r k (omega arith) (omega arith)
            (posts-drives (decode_table w) q x.0 (omega arith) k c) (posts-drives (decode_table w) r y.0 (omega arith) k d);
      }

  pub words_are_fit : FitTableWords w
  words_are_fit = plain-fit-table w plainly fitly
