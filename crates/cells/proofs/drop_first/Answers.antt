-- `cells::drop_first` meets its contract: one change goes, or the first of several. Assumes nothing.
use Prim.Native.Nat.{◌+◌, ◌-◌}
use mathlib.Core.Path.{◌≡◌, ◌∙◌}
use native.Mathlib.Omega.{arith}
use Rattle.cells.proofs.Cutting.{dropped-only, dropped-moved}
use Rattle.cells.proofs.drop_first.Goals as goal

pub returns-then-count-eq1 : goal.returns-then-count-eq1
returns-then-count-eq1 c =
    dropped-only c.args.cells.now c.args.base (omega arith) (omega arith) (λ i l. c.requires.by_index i (omega arith))

pub returns : goal.returns
returns c =
    let moves : c.args.base + 16 - (c.args.base + 1) ≡ 15 = omega arith in
    let copied = c.copy_within.ensures.by_index in
    dropped-moved c.args.cells.now c.args.base (omega arith) c.copy_within.new.self (c.copy_within.ensures.len ∙ c.requires.cells_len)
    (λ k d l h. copied.0 k d l (omega arith)) copied.1 (λ k d l. copied.2 k d (omega arith))
