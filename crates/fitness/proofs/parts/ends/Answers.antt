-- `fitness::parts::ends` meets its contract: the ends are sorted, and the last is the number of instructions.
-- Assumes nothing.
use Prim.Native.Nat.{◌+◌, ◌-◌, ◌≤◌}
use mathlib.Core.Path.{◌∙◌, sym}
use lib.ListN.{length}
use native.Mathlib.Omega.{arith}
use Rattle.std.proofs.lemmas.List.Sorted.{non_decreasing_from_is_sorted}
use Rattle.layout.proofs.Tables.{decode_table}
use Rattle.fitness.specs.Inside.Parts.{processes, instructions}
use Rattle.fitness.proofs.Spans.{part, length-part, at_part}
use Rattle.fitness.proofs.Reading.{begins-word, last_item, ends-sorted, ends_unsorted}
use Rattle.fitness.proofs.parts.ends.Goals as goal

pub returns-then-is_sorted : goal.returns-then-is_sorted
returns-then-is_sorted c =
    let w = c.args.words.now in
    let n = processes w in
    let k = 131 + n - 131 in
    let l : 131 + k ≤ length w = omega arith in
    ends-sorted (decode_table w) n (instructions w) (part w 131 k) (omega (arith, length-part w 131 k l))
    (λ p h. begins-word w p h ∙ sym (at_part w 131 k l p 0 (omega arith)))
    _ (last_item (part w 131 k) _ _ _ c.unwrap_or-last.ensures c.copied.ensures c.last.ensures.value)
    c.is_sorted.result (non_decreasing_from_is_sorted (part w 131 k) _ c.is_sorted.ensures.cases) c.if-is_sorted.true

pub returns-else-is_sorted : goal.returns-else-is_sorted
returns-else-is_sorted c =
    let w = c.args.words.now in
    let n = processes w in
    let k = 131 + n - 131 in
    let l : 131 + k ≤ length w = omega arith in
    ends_unsorted (decode_table w) n (instructions w) (part w 131 k) (omega (arith, length-part w 131 k l))
    (λ p h. begins-word w p h ∙ sym (at_part w 131 k l p 0 (omega arith)))
    c.is_sorted.result (non_decreasing_from_is_sorted (part w 131 k) _ c.is_sorted.ensures.cases) c.if-is_sorted.false
