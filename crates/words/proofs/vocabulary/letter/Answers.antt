-- `words::vocabulary::letter` meets its contract: each arm is a range of bytes.
-- Assumes nothing.
use native.Mathlib.Omega.{arith}
use Rattle.laws.proofs.Ranges.{within-inside, within-below, within-above}
use Rattle.words.specs.Inside.Codes.{letter_of}
use Rattle.words.proofs.vocabulary.letter.Goals as goal

pub returns-in-65-to-90 : goal.returns-in-65-to-90
unfolding letter_of
returns-in-65-to-90 c = (rw (within-inside 65 90 c.args.byte (omega arith) (omega arith)), omega arith)

pub returns-in-97-to-122 : goal.returns-in-97-to-122
unfolding letter_of
returns-in-97-to-122 c = (rw (within-above 65 90 c.args.byte (omega arith), within-inside 97 122 c.args.byte (omega arith) (omega arith)), omega arith)

pub returns-in_default : goal.returns-in_default
unfolding letter_of
returns-in_default c = (rw (within-below 65 90 c.args.byte (omega arith), within-below 97 122 c.args.byte (omega arith)), omega arith)

pub returns-in_default-2 : goal.returns-in_default-2
unfolding letter_of
returns-in_default-2 c = (rw (within-above 65 90 c.args.byte (omega arith), within-below 97 122 c.args.byte (omega arith)), omega arith)

pub returns-in_default-3 : goal.returns-in_default-3
unfolding letter_of
returns-in_default-3 c = (rw (within-above 65 90 c.args.byte (omega arith), within-above 97 122 c.args.byte (omega arith)), omega arith)
