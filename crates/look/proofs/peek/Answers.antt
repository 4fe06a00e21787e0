-- `look::peek` meets its contract: the scan of the text from place at on, with its places in the text.
-- Assumes nothing.
use Rattle.std.proofs.Common.{sym, ap, ◌∙◌}
use Rattle.std.specs.Prelude.{Ok}
use Rattle.laws.proofs.Lists.{rest}
use Rattle.lexis.specs.Token.{scan_of}
use Rattle.look.specs.Inside.Looks.{look_of}
use Rattle.look.proofs.peek.Goals as goal

pub returns-in-Ok-Some : goal.returns-in-Ok-Some
unfolding look_of
returns-in-Ok-Some c =
    let e = ap scan_of (sym (rest c.args.text.now c.args.at)) ∙ sym c.next.ensures.scanned ∙ c.in-Ok-Some.is ∙ ap Ok c.in-Ok-Some.field-0-is in
    rw (e, c.kind_of-token.ensures)

pub returns-in-Ok-None : goal.returns-in-Ok-None
unfolding look_of
returns-in-Ok-None c =
    let e = ap scan_of (sym (rest c.args.text.now c.args.at)) ∙ sym c.next.ensures.scanned ∙ c.in-Ok-None.is ∙ ap Ok c.in-Ok-None.field-0-is in
    rw (e, c.finish.ensures)

pub returns-in-Err : goal.returns-in-Err
unfolding look_of
returns-in-Err c =
    let e = ap scan_of (sym (rest c.args.text.now c.args.at)) ∙ sym c.next.ensures.scanned ∙ c.in-Err.is in
    rw (e, c.finish-in-Err.ensures)
