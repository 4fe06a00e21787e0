-- `cells::nearer` meets its contract: the first time is earlier, or it is the same or a later one. Assumes nothing.
use Prim.Native.Nat.{ℕ, ◌^◌, ◌<◌}
use mathlib.Core.Path.{◌≡◌, refl, sym, ◌∙◌}
use native.Mathlib.Omega.{arith}
use lib.Bits.{bit_or}
use Rattle.cells.specs.Inside.Moves.{Nearer}
use Rattle.cells.proofs.Nearest.{coming}
use Rattle.cells.proofs.nearer.Goals as goal
use Rattle.cells.proofs.nearer.Goals.{then-first-time, else-first-time}

module _ (x one time word : ℕ) (fits : x < 2 ^ 64) where
  first : x < time → Nearer x one time word (coming x one)
  first l = record { earlier = λ g. (refl, refl); same = λ e. absurd (omega arith); later = λ g. absurd (omega arith); fits = fits }

  also : x ≡ time → Nearer x one time word (coming time (bit_or word one))
  also e = record { earlier = λ g. absurd (omega arith); same = λ q. (refl, refl); later = λ g. absurd (omega arith); fits = fits }

  after : time < x → Nearer x one time word (coming time word)
  after l = record { earlier = λ g. absurd (omega arith); same = λ e. absurd (omega arith); later = λ g. (refl, refl); fits = fits }

pub returns-then-first-time-2 : goal.returns-then-first-time-2
returns-then-first-time-2 c =
    elim c.if-first-time.branch [
      | then-first-time w ↦ rw (w.time-is, w.due-is) (first c.args.first c.args.bit c.args.next.time c.args.next.due (omega (arith, c.ranges.first)) w.if-first-time.true)
      | else-first-time w ↦ rw (w.time-is, w.due-is) (also c.args.first c.args.bit c.args.next.time c.args.next.due (omega (arith, c.ranges.first)) (c.if-first-time-2.true ∙ w.time-is))
    ]

pub returns-else-first-time-2 : goal.returns-else-first-time-2
returns-else-first-time-2 c =
    elim c.if-first-time.branch [
      | then-first-time w ↦ absurd (c.if-first-time-2.false (sym w.time-is))
      | else-first-time w ↦
          let l : c.args.next.time < c.args.first = omega (arith, w.if-first-time.false, w.time-is, c.if-first-time-2.false) in
          rw (w.time-is, w.due-is) (after c.args.first c.args.bit c.args.next.time c.args.next.due (omega (arith, c.ranges.first)) l)
    ]
