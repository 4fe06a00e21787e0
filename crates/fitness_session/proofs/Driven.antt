-- A signal is driven just where the list of drivers names one. Assumes nothing.
use Prim.Native.Nat.{ℕ, zero, suc, ◌+◌, ◌≤◌, ◌<◌}
use native.Mathlib.Omega.{arith}
use mathlib.Core.Path.{◌≡◌, refl, sym, subst}
use mathlib.Core.Bool.{Bool, true, false, ◌||◌}
use mathlib.Core.List.{List}
use lib.ListN.{length, get_or}
use Rattle.std.specs.Prelude.{Option, Some, None}
use Rattle.laws.proofs.Deciding.{differ}
use Rattle.rules.specs.Runner.{Runner}
use Rattle.rules.specs.Session.{driven}
use Rattle.table.specs.Instructions.{Instruction, name, literal, negation, binary, assignment, test, skip}
use Rattle.table.specs.Table.{tabulate, begins, runner, runners}
use Rattle.table.specs.Fit.{at, Exists, FitTable}
use Rattle.table.proofs.Obedient.{driven_by}
use Rattle.layout.proofs.Tables.{decode_table}
use Rattle.fitness.specs.Inside.Parts.{processes, instructions, Rows}
use Rattle.fitness.specs.Inside.Drivers.{Posts, Owned}
use Rattle.fitness.proofs.Reading.{count-processes, count-instructions, rows-low}
use Rattle.fitness.proofs.Owners.{own-known, drives-posts, posts-drives}

-- some process is its driver
record Driver (f : ℕ → Runner) (i n k : ℕ) : Type 0 where
  process : ℕ
  above : i ≤ process
  below : process < i + n
  drives : (f process).drives k ≡ true

driver_of : (f : ℕ → Runner) (i n k : ℕ) → driven (tabulate f i n) k ≡ true → Driver f i n k
unfolding tabulate driven
driver_of f i zero k e = differ (sym e)
driver_of f i (suc n) k e = go ((f i).drives k) refl e (λ g. driver_of f (suc i) n k g)
  where
    go : (b : Bool) → (f i).drives k ≡ b → (b || driven (tabulate f (suc i) n) k) ≡ true
        → (driven (tabulate f (suc i) n) k ≡ true → Driver f (suc i) n k) → Driver f i (suc n) k
    go true h g later = record { process = i; above = omega arith; below = omega arith; drives = h }
    go false h g later =
        let d = later g in
        record { process = d.process; above = omega (arith, d.above); below = omega (arith, d.below); drives = d.drives }

posts-exists : (i : Instruction) (s k : ℕ) → Posts i k → Exists s i → k < s
posts-exists (name j) s k p e = absurd p
posts-exists (literal b) s k p e = absurd p
posts-exists negation s k p e = absurd p
posts-exists (binary o) s k p e = absurd p
posts-exists (assignment j d) s k p e = subst (λ x. x < s) p e.0
posts-exists (test t) s k p e = absurd p
posts-exists (skip t) s k p e = absurd p

none_some : (q : ℕ) (o : Option ℕ) → o ≡ None → o ≡ Some q → ⊥
none_some q o a b = cc

module _ (w : List ℕ) (own : List (Option ℕ)) (rows : Rows (decode_table w) (processes w) (instructions w)) (o : Owned (decode_table w) (processes w) (instructions w) own) where
  low : (p : ℕ) → p < processes w → (begins (decode_table w) p ≤ begins (decode_table w) (suc p)) × (begins (decode_table w) (suc p) ≤ length (decode_table w).code)
  low p l =
      let q = rows-low (decode_table w) (processes w) (instructions w) rows p l in
      (q.0, omega (arith, count-instructions w))

  pub driven-known : (k q : ℕ) → get_or own k None ≡ Some q → driven (runners (decode_table w)) k ≡ true
  unfolding runners runner
  driven-known k q e =
      let d = o.known k q e in
      let b = low q d.0 in
      driven_by (runner (decode_table w)) 0 (length (decode_table w).ends) q k (omega arith) (omega (arith, d.0, count-processes w))
      (drives-posts (decode_table w) q b.0 b.1 k d.1)

  pub driven-none : (k : ℕ) → get_or own k None ≡ None → driven (runners (decode_table w)) k ≡ false
  unfolding runners runner
  driven-none k z = go (driven (tabulate (runner (decode_table w)) 0 (length (decode_table w).ends)) k) refl
    where
      go : (b : Bool) → driven (tabulate (runner (decode_table w)) 0 (length (decode_table w).ends)) k ≡ b
          → driven (tabulate (runner (decode_table w)) 0 (length (decode_table w).ends)) k ≡ false
      go false e = e
      go true e =
          let d = driver_of (runner (decode_table w)) 0 (length (decode_table w).ends) k e in
          let l : d.process < processes w = omega (arith, d.below, count-processes w) in
          let b = low d.process l in
          absurd (none_some d.process _ z (own-known (decode_table w) (processes w) (instructions w) own rows o d.process k l
          (posts-drives (decode_table w) d.process b.0 b.1 k d.drives)))

  -- a signal that has a driver is there
  pub driven-exists : FitTable (decode_table w) → (k q : ℕ) → get_or own k None ≡ Some q → k < length (decode_table w).initial
  driven-exists f k q e =
      let d = o.known k q e in
      let b = low q d.0 in
      posts-exists (at (decode_table w).code d.1.place) (length (decode_table w).initial) k d.1.posts (f.exists d.1.place (omega (arith, d.1.before)))
