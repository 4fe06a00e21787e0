-- `writing::decimal` meets its contract: the printed digits are copied. Assumes nothing.
use native.Mathlib.Omega.{arith}
use Rattle.writing.proofs.Digits.{decimal_printed}
use Rattle.writing.proofs.decimal.Goals as goal

pub returns : goal.returns
returns c = record {
  writes = rw (decimal_printed c.args.time (omega arith), ← c.format.ensures.text, ← c.as_bytes.ensures.value) c.copy.ensures;
  upper_bound = omega (arith, c.format.ensures.fits, c.as_bytes.ensures.len, c.copy.ensures.end);
}
