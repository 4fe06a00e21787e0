-- `lexis::run::all_digits` meets its contract: byte by byte.
-- Assumes nothing.
use Rattle.std.proofs.Common.{rules, tests, sym, ◌∙◌}
use Rattle.std.proofs.lemmas.Iterator.{YieldsList-from_slice}
use Rattle.std.proofs.lemmas.Iterator.Search.{all_from_yields_List}
use Rattle.lexis.specs.Byte.{class_of, is_digit}
use Rattle.lexis.proofs.Walks.{digits_all}
use Rattle.lexis.proofs.run.all_digits.Goals as goal

pub returns : goal.returns
returns c =
    all_from_yields_List (λ byte. is_digit (class_of byte)) c.all.new.self _ _ c.all.ensures.ran (YieldsList-from_slice c.args.run.now cc) (λ x b q k. search (rules, tests))
    ∙ sym (digits_all c.args.run.now)
