-- `lexis::token::start_of` meets its contract: by the class of the first byte.
-- Assumes nothing.
use Rattle.std.proofs.Common.{arith, sym, ◌∙◌}
use lib.Seq.{length-take-le}
use Rattle.lexis.proofs.Bounds.{run-within}
use Rattle.lexis.proofs.Lexemes.{start_run, start_mark, start_none}
use Rattle.lexis.proofs.token.start_of.Goals as goal

pub slice_bounds-shape_of-end : goal.slice_bounds-shape_of-end
slice_bounds-shape_of-end c = sym (length-take-le c.run_length-n.result c.args.text.now (omega (arith, c.run_length-n.ensures, (run-within 0 c.args.text.now).1)))

pub returns-in-Letter : goal.returns-in-Letter
returns-in-Letter c = c.run_token.ensures ∙ rw (c.shape_of.ensures, c.run_length-n.ensures) (start_run c.args.text.now c.class_of.result c.class_of.ensures c.in-Letter.in-Letter-own.keys1)

pub returns-in-Mark : goal.returns-in-Mark
returns-in-Mark c = c.mark_of.ensures ∙ rw c.byte_at.ensures (start_mark c.args.text.now c.class_of.result c.class_of.ensures c.in-Mark.is)

pub returns-in_default : goal.returns-in_default
returns-in_default c = start_none c.args.text.now c.class_of.result c.class_of.ensures c.in_default.in_default-own.keys3
