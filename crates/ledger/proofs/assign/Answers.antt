-- `ledger::assign` meets its contract: looked up, assigned and counted.
-- Assumes nothing.
use native.Mathlib.Omega.{arith}
use Rattle.look.specs.Inside.Looks.{name_at}
use Rattle.ledger.proofs.Keeping.{held, sound-after}
use Rattle.ledger.proofs.Judging.{assign-judges, drives-sound}
use Rattle.ledger.proofs.assign.Goals as goal

pub drive-requires : goal.drive-requires
drive-requires c = record { held = held (sound-after c.listen-number.ensures.judges c.requires.sound); signal_bound = c.listen-number.ensures.below }

pub count-requires : goal.count-requires
count-requires c =
    record {
      held = held (drives-sound (c.drive.ensures c.args.text.now) (sound-after c.listen-number.ensures.judges c.requires.sound));
      instructions_bound = omega arith;
    }

pub returns : goal.returns
returns c =
    record {
      judges = assign-judges (name_at c.args.text.now c.args.name.start c.args.name.end) c.args.name.start c.listen-number.ensures.numbers c.listen-number.ensures.judges (c.drive.ensures c.args.text.now) (c.count.ensures c.args.text.now);
      numbers = c.listen-number.ensures.numbers;
    }
