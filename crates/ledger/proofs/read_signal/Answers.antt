-- `ledger::read_signal` meets its contract: looked up, and counted.
-- Assumes nothing.
use native.Mathlib.Omega.{arith}
use Rattle.look.specs.Inside.Looks.{name_at}
use Rattle.ledger.proofs.Keeping.{held, both, sound-after}
use Rattle.ledger.proofs.Judging.{reads_as}
use Rattle.ledger.proofs.read_signal.Goals as goal

pub count-requires : goal.count-requires
count-requires c = record { held = held (sound-after c.listen-number.ensures.judges c.requires.sound); instructions_bound = omega arith }

pub returns : goal.returns
returns c =
    record {
      judges = both (reads_as (name_at c.args.text.now c.args.name.start c.args.name.end) c.args.name.start) c.listen-number.ensures.judges (c.count.ensures c.args.text.now);
      numbers = c.listen-number.ensures.numbers;
    }
