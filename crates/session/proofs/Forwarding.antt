-- An advance on cells is an advance. Assumes nothing.
use Prim.Native.Nat.{ℕ, ◌<◌, ◌≤◌}
use mathlib.Core.Path.{◌≡◌, ap, ◌∙◌}
use mathlib.Core.List.{List}
use borrow.Author.Tests.{lt-ltb, le-ltb}
use Rattle.std.specs.Prelude.{Some, None}
use Rattle.rules.specs.Outcome.{refuses, gives}
use Rattle.rules.specs.Runner.{Runner}
use Rattle.rules.specs.Dump.{advance_bytes}
use Rattle.rules.specs.Calls.{refused, quiet, stop_reached, moved, answered, cycles, advance}
use Rattle.cells.specs.Cells.{values, pendings, ComesNext}
use Rattle.cells.specs.declared.Coming.{Coming}
use Rattle.cycles.specs.Inside.Turns.{session_of, progress_of}

module _ (rs : List Runner) (n : ℕ) (cs : List ℕ) (stop was : ℕ) where
  pub forward-quiet : ComesNext (pendings n cs) None → advance rs stop (session_of was n cs) ≡ quiet
  unfolding advance
  forward-quiet e = rw e

  module _ (at : Coming) (next : ComesNext (pendings n cs) (Some at)) where
    abbrev t : ℕ
    t = at.time

    pub forward-stop : stop < t → advance rs stop (session_of was n cs) ≡ stop_reached
    unfolding advance
    forward-stop l = rw (next.0, lt-ltb stop t l)

    goes : t ≤ stop → advance rs stop (session_of was n cs) ≡ answered (advance_bytes t (values n cs)) (cycles rs 1000 t (progress_of was n cs 0 0))
    unfolding advance
    goes l = rw (next.0, le-ltb stop t l)

    pub forward-refused : t ≤ stop → (r : ℕ) → cycles rs 1000 t (progress_of was n cs 0 0) ≡ refuses r → advance rs stop (session_of was n cs) ≡ refused r
    forward-refused l r e = goes l ∙ ap (answered (advance_bytes t (values n cs))) e

    pub forward-moved : t ≤ stop → (c m : ℕ) (fs : List ℕ) → cycles rs 1000 t (progress_of was n cs 0 0) ≡ gives (progress_of t n fs c m)
        → advance rs stop (session_of was n cs) ≡ moved (record { session = session_of t n fs; bytes = advance_bytes t (values n cs) (values n fs); cycles = c; steps = m })
    forward-moved l c m fs e = goes l ∙ ap (answered (advance_bytes t (values n cs))) e
