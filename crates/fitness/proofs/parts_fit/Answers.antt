-- `fitness::parts_fit` meets its contract: test by test.
-- Assumes nothing.
use borrow.Author.Rules.{rules}
use Rattle.fitness.proofs.parts_fit.Goals as goal

pub returns-then-sounds : goal.returns-then-sounds
returns-then-sounds c =
    record {
      holds = λ e. record {
        ready = record { few = search rules; rows = search rules; legal = search rules };
        unused = search rules;
        used = search rules;
        sound = search rules;
        alone = c.alone.ensures.holds e;
      };
      fails = λ e t. c.alone.ensures.fails e t.alone;
    }
