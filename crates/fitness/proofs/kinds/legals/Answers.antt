-- `fitness::kinds::legals` meets its contract: the closure is asked of each pair of words.
-- Assumes nothing.
use mathlib.Core.Path.{◌∙◌}
use borrow.Author.Rules.{rules}
use borrow.Author.Tests.{tests}
use native.Mathlib.Omega.{arith}
use Rattle.std.proofs.lemmas.Iterator.{cases_from_all, YieldsList-from_zip, YieldsList-from_slice}
use Rattle.std.proofs.lemmas.Iterator.Consumers.{YieldsList-at}
use Rattle.fitness.specs.Inside.Kinds.{Legal}
use Rattle.fitness.specs.Inside.Parts.{signals, instructions}
use Rattle.fitness.proofs.Spans.{part, sliced, all-pairs}
use Rattle.fitness.proofs.kinds.legals.Goals as goal

pub returns : goal.returns
returns c =
    let w = c.args.words.now in
    let s = signals w in
    let n = instructions w in
    all-pairs w 195 4291 n (Legal s) (omega arith) (omega arith) c.all.result
    (cases_from_all c.all.new.self _ _ (λ p. Legal s p.0 p.1) (λ p. Legal s p.0 p.1 → ⊥) c.all.ensures.ran
    (YieldsList-from_zip (YieldsList-at c.zip.ensures.first (YieldsList-from_slice (part w 195 n) (c.iter.ensures.rest ∙ sliced w 195 n))) (YieldsList-from_slice (part w 4291 n) (c.zip.ensures.second.0 ∙ sliced w 4291 n)))
    (λ x q k. search (rules, tests)) (λ x q k. search (rules, tests)))
