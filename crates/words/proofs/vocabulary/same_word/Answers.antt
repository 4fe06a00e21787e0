-- `words::vocabulary::same_word` meets its contract: byte by byte from the end, in lower case.
-- Assumes nothing.
use Rattle.std.proofs.Common.{rules, tests, ◌∙◌}
use Rattle.std.proofs.lemmas.Iterator.{YieldsList-from_zip}
use Rattle.std.proofs.lemmas.Iterator.Consumers.{YieldsList-at}
use Rattle.std.proofs.lemmas.Iterator.Adapters.{YieldsList-from_rev_slice}
use Rattle.std.proofs.lemmas.Iterator.Search.{all_from_yields_List}
use borrow.Author.Tests.{ne_eqb}
use Rattle.words.proofs.Same.{alike, same_lengths, same_back}
use Rattle.words.proofs.vocabulary.same_word.Goals as goal

pub returns-then-one-other : goal.returns-then-one-other
returns-then-one-other c =
    let road = YieldsList-from_zip (YieldsList-at c.zip.ensures.first (YieldsList-from_rev_slice c.args.one.now cc)) (YieldsList-at c.zip.ensures.second (YieldsList-from_rev_slice c.args.other.now cc)) in
    all_from_yields_List alike c.all.new.self _ _ c.all.ensures.ran road (λ x b q k. search (rules, tests)) ∙ same_back c.args.one.now c.args.other.now c.if-one-other.true

pub returns-else-one-other : goal.returns-else-one-other
returns-else-one-other c = rw (ne_eqb _ _ c.if-one-other.false) (same_lengths c.args.one.now c.args.other.now c.if-one-other.false)
