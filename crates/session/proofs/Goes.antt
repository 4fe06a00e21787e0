-- What a call on cells answers and leaves, case by case. Assumes nothing.
use Prim.Native.Nat.{ℕ}
use mathlib.Core.Path.{◌≡◌, refl}
use mathlib.Core.List.{List}
use native.Mathlib.Omega.{arith}
use lib.ListN.{length}
use Rattle.std.specs.Prelude.{Ok, Err}
use Rattle.rules.specs.Calls.{refused, quiet, stop_reached, moved}
use Rattle.rules.specs.Calls as calls
use Rattle.cells.specs.Cells.{FitFor}
use Rattle.cycles.specs.Inside.Turns.{session_of}
use Rattle.writing.specs.Inside.Written.{Writes}
use Rattle.refusal.specs.declared.Reason.{Reason}
use Rattle.refusal.specs.Numbers.{number_of}
use Rattle.session.specs.declared.Moved.{Moved}
use Rattle.session.specs.Inside.Goings.{GoesAs}
use Rattle.session.specs.declared.Answer.TheVariants.{Quiet, StopReached, Moved as Moves}

module _ (o : calls.Answer) (n : ℕ) (cells out : List ℕ) where
  pub goes-refused : (reason : Reason) (left : List ℕ) → o ≡ refused (number_of reason) → GoesAs o n cells out (Err reason) left out
  goes-refused reason left e = rw e (record { answers = refl; session = tt; bytes = refl })

  pub goes-quiet : o ≡ quiet → GoesAs o n cells out (Ok Quiet) cells out
  goes-quiet e = rw e (record { answers = refl; session = refl; bytes = refl })

  pub goes-stop : o ≡ stop_reached → GoesAs o n cells out (Ok StopReached) cells out
  goes-stop e = rw e (record { answers = refl; session = refl; bytes = refl })

  pub goes_moved : (time c steps r : ℕ) (text left after : List ℕ)
      → o ≡ moved (record { session = session_of time n left; bytes = text; cycles = c; steps = steps }) → FitFor n left → Writes out 0 text r after
      → GoesAs o n cells out (Ok (Moves (record { bytes = r; time = time; cycles = c; steps = steps }))) left after
  goes_moved time c steps r text left after e fit w =
      let q : r ≡ length text = omega (arith, w.end) in
      rw (e, q) (record { answers = refl; session = (refl, fit); bytes = w.bytes })

-- a call that moved leaves cells that fit
pub moved_fit : (o : calls.Answer) (n : ℕ) (cells out : List ℕ) (m : Moved) (left after : List ℕ) → GoesAs o n cells out (Ok (Moves m)) left after → FitFor n left
moved_fit (refused r) n cells out m left after g = absurd g.answers
moved_fit quiet n cells out m left after g = absurd (cc g.answers)
moved_fit stop_reached n cells out m left after g = absurd (cc g.answers)
moved_fit (moved by) n cells out m left after g = g.session.1
