-- `stop::unit_of` meets its contract: the first unit whose spelling the word is.
-- Assumes nothing.
use Rattle.std.proofs.Common.{rules, tests, sym, ◌∙◌}
use Rattle.std.proofs.lemmas.Iterator.{YieldsList-from_slice}
use Rattle.std.proofs.lemmas.Iterator.Consumers.{YieldsList-at, YieldsList-from_copied}
use Rattle.std.proofs.lemmas.Iterator.Search.{find_from_yields_List}
use Rattle.std.proofs.lemmas.Iterator.Adapters.{option_map_id}
use Rattle.stop.proofs.Units.{says, units, found}
use Rattle.stop.proofs.unit_of.Goals as goal

pub returns : goal.returns
returns c =
    let road = YieldsList-from_copied (YieldsList-at c.copied.ensures.source (YieldsList-from_slice units c.iter.ensures.rest)) in
    sym (option_map_id c.find.result) ∙ find_from_yields_List (says c.args.word.now) c.find.new.self _ c.find.result c.find.ensures.ran road (λ x b q k. search (rules, tests))
    ∙ found c.args.word.now
