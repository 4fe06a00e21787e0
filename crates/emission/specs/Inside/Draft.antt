-- A draft of a table: its words so far, and what each part of a design writes to them, in the order of the text.
-- Assumes nothing: these are definitions.
use Rattle.std.specs.Prelude.{ℕ, zero, suc, ◌+◌, ◌-◌, ◌*◌, ◌^◌, ◌≡◌, refl, Bool, true, false, List, [], ◌∷◌, ◌++◌, eqb, ltb, length, get_or, set, drop}
use Rattle.std.proofs.Math.Option.{Option, none, some}
use Rattle.laws.specs.Pick.{pick, within, same_list}
use Rattle.laws.specs.Text.{bytes}
use Rattle.words.specs.Token.{Name, Chain}
use Rattle.syntax.specs.Tree.{Expression, Tail, More, Factor, Primary, expression, alone, joined, chained, enough, more, plain, negated, named, constant, bracketed}
use Rattle.syntax.specs.Tree.{Statements, Statement, Otherwise, done, also, assignment, conditional, null, missing, otherwise}
use Rattle.syntax.specs.Tree.{Declaration, Sensitivity, Process, Design, declaration, unlisted, listed, process, design}
use Rattle.table.specs.Instructions.{Instruction}
use Rattle.names.specs.Judge.{number_of}
use Rattle.names.specs.CircuitOf.{once_operator, chain_operator, delay_femtoseconds}
use Rattle.layout.specs.TableWords.{signals_at, processes_at, instructions_at, initial_from, listeners_from, operations_from, delays_from, table_size, operation_word, delay_word}

-- the words, the address of the next instruction, the signals declared and how many processes have been opened
pub record Draft : Type 0 where
  pub words : List ℕ
  pub next : ℕ
  pub names : List Name
  pub processes : ℕ

-- WORDS. Where no word stands, nothing is written; nor is it of an instruction behind the last place.

abbrev pub placed : List ℕ → ℕ → (operation delay : ℕ) → List ℕ
placed words n operation delay = pick (ltb n 4096) (set (set words (operations_from + n) operation) (delays_from + n) delay) words

abbrev pub following : ℕ → ℕ
following n = pick (ltb n 4096) (n + 1) n

-- the operation of a test (10) or a skip (11)
abbrev pub jump_word : (kind target : ℕ) → ℕ
jump_word kind target = pick (ltb 4096 target) 0 (kind + 16 * target)

abbrev pub aimed : List ℕ → (n kind target : ℕ) → List ℕ
aimed words n kind target = pick (ltb n 4096) (set words (operations_from + n) (jump_word kind target)) words

-- so many zeros; a table of zeros
unfoldable pub zeros : ℕ → List ℕ
zeros zero = []
zeros (suc n) = 0 ∷ zeros n

abbrev pub cleared : List ℕ → List ℕ
cleared words = zeros table_size ++ drop table_size words

-- the operation of a binary word, by the word's number
abbrev pub binary_kind : ℕ → ℕ
binary_kind kind = pick (eqb kind 16) 5 (pick (eqb kind 17) 6 (pick (eqb kind 18) 3 (pick (eqb kind 19) 4 (pick (eqb kind 20) 7 8))))

-- so many ones from place k on; the signals from one number up to another start as `true` where the number of that word is given
unfoldable pub ones : List ℕ → (k count : ℕ) → List ℕ
ones words k zero = words
ones words k (suc count) = ones (set words k 1) (k + 1) count

abbrev pub begun : List ℕ → (from to kind : ℕ) → List ℕ
begun words from to kind = pick (eqb kind 22) (pick (ltb 64 to) words (ones words (initial_from + from) (to - from))) words

-- the bit of process p, counted from 1
abbrev pub bit_of : ℕ → ℕ
bit_of p = pick (within 1 64 p) (2 ^ (p - 1)) 0

-- the word of a signal with the bit of process p, which is above all bits of it so far
abbrev pub with_bit : ℕ → ℕ → ℕ
with_bit word p = pick (ltb word (bit_of p)) (word + bit_of p) word

abbrev pub waking : List ℕ → (signal p : ℕ) → List ℕ
waking words signal p = pick (ltb signal 64) (set words (listeners_from + signal) (with_bit (get_or words (listeners_from + signal) 0) p)) words

-- the end of process p, counted from 1
abbrev pub ended : List ℕ → (p next : ℕ) → List ℕ
ended words p next = pick (within 1 64 p) (set words (130 + p) next) words

-- DRAFTS

abbrev pub with_words : List ℕ → Draft → Draft
with_words words m = record { words = words; next = m.next; names = m.names; processes = m.processes }

unfoldable pub put : Instruction → Draft → Draft
put i m = record { words = placed m.words m.next (operation_word i) (delay_word i); next = following m.next; names = m.names; processes = m.processes }

unfoldable pub with_name : Name → Draft → Draft
with_name n m = record { words = m.words; next = m.next; names = m.names ++ (n ∷ []); processes = m.processes }

unfoldable pub with_process : Draft → Draft
with_process m = record { words = m.words; next = m.next; names = m.names; processes = m.processes + 1 }

-- the last process is woken by the signal of the name; it ends here
unfoldable pub with_listener : Name → Draft → Draft
with_listener n m = with_words (waking m.words (number_of n m.names) m.processes) m

unfoldable pub with_end : Draft → Draft
with_end m = with_words (ended m.words m.processes m.next) m

-- the signals from number k on start as given; only `true` is written
unfoldable pub with_initial : Option Bool → ℕ → Draft → Draft
with_initial none k m = m
with_initial (some false) k m = m
with_initial (some true) k m = with_words (begun m.words k (length m.names) 22) m

-- an `if`, where a is the draft at its test, b at its skip and c behind it: both are aimed when their targets are known
unfoldable pub with_targets : Draft → Draft → Draft → Draft
with_targets a b c = with_words (aimed (aimed c.words a.next 10 (following b.next)) b.next 11 c.next) c

-- TREES

abbrev mutual
  pub expression_draft : Expression → Draft → Draft
  expression_draft (expression f t) m = tail_draft t (factor_draft f m)

  pub tail_draft : Tail → Draft → Draft
  tail_draft alone m = m
  tail_draft (joined o f) m = put (Instruction.binary (once_operator o)) (factor_draft f m)
  tail_draft (chained c f k) m = more_draft k c (put (Instruction.binary (chain_operator c)) (factor_draft f m))

  pub more_draft : More → Chain → Draft → Draft
  more_draft enough c m = m
  more_draft (more f k) c m = more_draft k c (put (Instruction.binary (chain_operator c)) (factor_draft f m))

  pub factor_draft : Factor → Draft → Draft
  factor_draft (plain p) m = primary_draft p m
  factor_draft (negated p) m = put Instruction.negation (primary_draft p m)

  pub primary_draft : Primary → Draft → Draft
  primary_draft (named n) m = put (Instruction.name (number_of n m.names)) m
  primary_draft (constant b) m = put (Instruction.literal b) m
  primary_draft (bracketed e) m = expression_draft e m

abbrev mutual
  pub statements_draft : Statements → Draft → Draft
  statements_draft done m = m
  statements_draft (also s ss) m = statements_draft ss (statement_draft s m)

  pub statement_draft : Statement → Draft → Draft
  statement_draft (assignment n e d) m = put (Instruction.assignment (number_of n m.names) (delay_femtoseconds d)) (expression_draft e m)
  statement_draft (conditional e ss o) m =
      let a = expression_draft e m in
      let b = statements_draft ss (put (Instruction.test 0) a) in
      with_targets a b (otherwise_draft o (put (Instruction.skip 0) b))
  statement_draft null m = m

  pub otherwise_draft : Otherwise → Draft → Draft
  otherwise_draft missing m = m
  otherwise_draft (otherwise ss) m = statements_draft ss m

abbrev pub each_draft : (Name → Draft → Draft) → List Name → Draft → Draft
each_draft f [] m = m
each_draft f (n ∷ ns) m = each_draft f ns (f n m)

-- [`:=` literal] for the signals from number k on
abbrev pub declaration_draft : Declaration → Draft → Draft
declaration_draft (declaration n ns i) m = with_initial i (length m.names) (each_draft with_name ns (with_name n m))

abbrev pub declarations_draft : List Declaration → Draft → Draft
declarations_draft [] m = m
declarations_draft (d ∷ ds) m = declarations_draft ds (declaration_draft d m)

abbrev pub sensitivity_draft : Sensitivity → Draft → Draft
sensitivity_draft unlisted m = m
sensitivity_draft (listed n ns) m = each_draft with_listener ns (with_listener n m)

abbrev pub process_draft : Process → Draft → Draft
process_draft (process l s i b c) m = with_end (statements_draft b (sensitivity_draft s (with_process m)))

abbrev pub processes_draft : List Process → Draft → Draft
processes_draft [] m = m
processes_draft (p ∷ ps) m = processes_draft ps (process_draft p m)

abbrev pub design_draft : Design → Draft → Draft
design_draft (design e w c a o ds ps w' c') m = processes_draft ps (declarations_draft ds m)

-- a draft of which nothing is read yet, and the words with their counts when all is
abbrev pub nothing : List ℕ → Draft
nothing words = record { words = words; next = 0; names = []; processes = 0 }

abbrev pub counted : Draft → List ℕ
counted m = set (set (set m.words signals_at (length m.names)) processes_at m.processes) instructions_at m.next

-- EXAMPLES

-- `q and not true` over the signals d and q, at address 5
an_expression_lem : expression_draft (expression (plain (named (bytes "q"))) (chained Chain.AND (negated (constant true)) enough)) record { words = zeros 0; next = 5; names = bytes "d" ∷ bytes "q" ∷ []; processes = 1 }
    ≡ record { words = []; next = 9; names = bytes "d" ∷ bytes "q" ∷ []; processes = 1 }
unfolding put zeros same_list
an_expression_lem = refl

-- bit 1 above bit 0, once
a_bit : with_bit (with_bit 1 2) 2 ≡ 3
a_bit = refl
