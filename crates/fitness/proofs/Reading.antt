-- What stands where in the table that words are read as, and the ends of its processes. Assumes nothing.
use Prim.Native.Nat.{ℕ, zero, suc, ◌+◌, ◌-◌, ◌/◌, ◌%◌, ◌≤◌, ◌<◌}
use native.Mathlib.Omega.{arith}
use native.Mathlib.Numerals.{add-one}
use mathlib.Core.Path.{◌≡◌, refl, sym, ◌∙◌, ap}
use mathlib.Core.Bool.{Bool, true, false}
use mathlib.Core.Logic.{⊎_elim}
use mathlib.Core.List.{List}
use lib.Dec.{eqb}
use lib.ListN.{length, get_or, get_or-eq_default}
use borrow.Author.Tests.{eqb-true, eqb-false}
use Rattle.std.specs.Bool.{MatchBool}
use Rattle.std.specs.List.{slice_get}
use Rattle.std.specs.Prelude.{Option}
use Rattle.std.specs.Option.{unwrap_or}
use Rattle.std.proofs.lemmas.Option.{unwrap_or-slice_get}
use Rattle.std.specs.List.Sorted.{IsNonDecreasing}
use Rattle.laws.proofs.Cases.{side}
use Rattle.laws.proofs.Deciding.{differ, decides_no}
use Rattle.laws.specs.Decides.{Decides}
use Rattle.table.specs.Instructions.{negation}
use Rattle.table.specs.Table.{Table, begins}
use Rattle.table.specs.Fit.{at}
use Rattle.table.proofs.Tabulated.{length-tabulate, at_tabulated}
use Rattle.layout.proofs.TableLaws.{instruction_at}
use Rattle.layout.proofs.Tables.{decode_table}
use Rattle.fitness.specs.Inside.Parts.{signals, processes, instructions, Rows, Ready}
use Rattle.kind.specs.declared.Kind.{Kind}
use Rattle.kind.specs.declared.Kind.TheVariants.{Assignment}
use Rattle.kind.specs.Numbers.{number_of}
use Rattle.fitness.specs.Inside.Drivers.{Posts}
use Rattle.fitness.proofs.Kind.{Means, means, legal-signal}

-- from 0 on
module _ (w : List ℕ) where
  pub count-signals : length (decode_table w).initial ≡ signals w
  unfolding decode_table
  count-signals = length-tabulate _ 0 (signals w)

  pub count-listeners : length (decode_table w).listeners ≡ signals w
  unfolding decode_table
  count-listeners = length-tabulate _ 0 (signals w)

  pub count-processes : length (decode_table w).ends ≡ processes w
  unfolding decode_table
  count-processes = length-tabulate _ 0 (processes w)

  pub count-instructions : length (decode_table w).code ≡ instructions w
  unfolding decode_table
  count-instructions = length-tabulate _ 0 (instructions w)

  pub listeners-word : (k : ℕ) → k < signals w → get_or (decode_table w).listeners k 0 ≡ get_or w (67 + k) 0
  unfolding decode_table
  listeners-word k l = at_tabulated (λ j. get_or w (67 + j) 0) 0 (signals w) k l

  pub begins-word : (p : ℕ) → p < processes w → begins (decode_table w) (suc p) ≡ get_or w (131 + p) 0
  unfolding decode_table
  begins-word p l = at_tabulated (λ j. get_or w (131 + j) 0) 0 (processes w) p l

  pub begins_next : (p : ℕ) → p < processes w → get_or w (131 + p) 0 ≡ begins (decode_table w) (p + 1)
  begins_next p l = rw (add-one p) (sym (begins-word p l))

  pub code-word : (x : ℕ) → x < instructions w → at (decode_table w).code x ≡ instruction_at w x
  unfolding decode_table
  code-word x l = at_tabulated (instruction_at w) negation (instructions w) x l

-- ends
module _ (t : Table) (n m : ℕ) where
  pub rows_climb : Rows t n m → (a d b : ℕ) → a + d ≡ b → b ≤ n → begins t a ≤ begins t b
  rows_climb r a zero b e l = let z : a ≡ b = omega arith in rw z (omega arith)
  rows_climb r a (suc d) (suc b) e l = omega (arith, rows_climb r a d b (omega arith) (omega arith), r.rising b (omega arith))
  rows_climb r a (suc d) zero e l = absurd (omega arith)

  -- a process's instructions stand among all
  pub rows-low : Rows t n m → (p : ℕ) → p < n → (begins t p ≤ begins t (suc p)) × (begins t (suc p) ≤ m)
  rows-low r p l = (r.rising p l, omega (arith, r.cover, rows_climb r (suc p) (n - suc p) n (omega arith) (omega arith)))

  row-once : Rows t n m → (p q i : ℕ) → p < n → q < n → p < q → i < begins t (suc p) → begins t q ≤ i → ⊥
  row-once r p q i a b l h g = omega (arith, rows_climb r (suc p) (q - suc p) q (omega arith) (omega arith))

  -- an address stands in one process
  pub row_same : Rows t n m → (p q i : ℕ) → p < n → q < n → begins t p ≤ i → i < begins t (suc p) → begins t q ≤ i → i < begins t (suc q)
      → p ≡ q
  row_same r p q i a b pl ph ql qh =
      ⊎_elim
      (λ l. absurd (row-once r p q i a b l ph ql))
      (λ g. ⊎_elim (λ l. absurd (row-once r q p i b a l qh pl)) (λ l. omega arith) (side q p))
      (side p q)

-- the ends of the processes as a list, and whether it is sorted
module _ (t : Table) (n m : ℕ) (es : List ℕ) (long : length es ≡ n) (each : (p : ℕ) → p < n → begins t (suc p) ≡ get_or es p 0) where
  sorted_rising : IsNonDecreasing es → (p : ℕ) → p < n → begins t p ≤ begins t (suc p)
  sorted_rising s zero l = omega arith
  sorted_rising s (suc p) l = omega (arith, each p (omega arith), each (suc p) l, s p (suc p) 0 (omega arith) (omega arith))

  last_end : (k : ℕ) → k ≡ n → get_or es (k - 1) 0 ≡ begins t k
  last_end zero e = get_or-eq_default es 0 {n = 0} (omega arith)
  last_end (suc k) e = let q : suc k - 1 ≡ k = omega arith in rw q (sym (each k (omega arith)))

  pub ends-sorted : (last : ℕ) → last ≡ get_or es (length es - 1) 0 → (r : Bool)
      → MatchBool r (IsNonDecreasing es) ((k : ℕ) × (k + 1 < length es) × ((d : ℕ) → get_or es (k + 1) d < get_or es k d)) → r ≡ true → Decides (eqb last m) (Rows t n m)
  ends-sorted last e true s h =
      let q : last ≡ begins t n = e ∙ ap (λ k. get_or es (k - 1) 0) long ∙ last_end n refl in
      record {
        holds = λ z. record { rising = sorted_rising s; cover = sym q ∙ eqb-true last m z };
        fails = λ z r. eqb-false last m z (q ∙ r.cover);
      }
  ends-sorted last e false s h = differ (sym h)

  pub ends_unsorted : (r : Bool) → MatchBool r (IsNonDecreasing es) ((k : ℕ) × (k + 1 < length es) × ((d : ℕ) → get_or es (k + 1) d < get_or es k d)) → r ≡ false
      → Decides r (Rows t n m)
  ends_unsorted true s h = differ h
  ends_unsorted false s h =
      let k = s.0 in
      let l : suc k < n = omega (arith, s.1) in
      let d : get_or es (suc k) 0 < get_or es k 0 = rw (← add-one k) (s.2 0) in
      decides_no _ (λ r. omega (arith, r.rising (suc k) l, each k (omega arith), each (suc k) l))

pub last_item : (es : List ℕ) (last copied : Option ℕ) (r : ℕ) → r ≡ unwrap_or copied 0 → copied ≡ last → last ≡ slice_get es (length es - 1)
    → r ≡ get_or es (length es - 1) 0
last_item es last copied r p q s = p ∙ ap (λ o. unwrap_or o 0) (q ∙ s) ∙ unwrap_or-slice_get es (length es - 1) 0

-- an instruction of legal words is what its kind says
pub means_at : (w : List ℕ) (x : ℕ) (kind : Kind) → x < instructions w → number_of kind ≡ get_or w (195 + x) 0 % 16
    → Means kind (get_or w (195 + x) 0 / 16) (at (decode_table w).code x)
unfolding instruction_at
means_at w x kind l e = rw (code-word w x l) (means kind _ _ e)

-- a process's instructions stand among all
pub begins-low : (w : List ℕ) → Ready w → (p : ℕ) → p < processes w
    → (begins (decode_table w) p ≤ get_or w (131 + p) 0) × (get_or w (131 + p) 0 ≤ instructions w)
begins-low w r p l =
    let q = rows-low (decode_table w) (processes w) (instructions w) r.rows p l in
    (omega (arith, begins-word w p l), omega (arith, begins-word w p l))

-- an assignment posts the signal that it is about, and nothing else posts
module _ (w : List ℕ) (ready : Ready w) (x : ℕ) (l : x < instructions w) where
  abbrev operation : ℕ
  operation = get_or w (195 + x) 0

  pub assignment-posts : operation % 16 ≡ 9 → Posts (at (decode_table w).code x) (operation / 16)
  assignment-posts e = (means_at w x Assignment l (sym e)).posting refl

  pub posts-only : operation % 16 ≡ 9 → (k : ℕ) → Posts (at (decode_table w).code x) k → k ≡ operation / 16
  posts-only e k p = ((means_at w x Assignment l (sym e)).posted k p).1

  pub posts-signal : operation % 16 ≡ 9 → operation / 16 < 64
  posts-signal e =
      let b = legal-signal (signals w) operation (get_or w (4291 + x) 0) (ready.legal x l) e in
      omega (arith, ready.few.few_signals)

  pub posts-nothing : (operation % 16 ≡ 9 → ⊥) → (k : ℕ) → Posts (at (decode_table w).code x) k → ⊥
  posts-nothing n k p =
      let h = ready.legal x l in
      let q = (means_at w x h.kind l h.exists).posted k p in
      n (sym h.exists ∙ ap number_of q.0)
