-- `lexis::token::first_refused` meets its contract: what is refused first from n on is what is refused first in all.
-- Assumes nothing.
use Rattle.std.proofs.Common.{arith, rules, refl, sym, ap, ◌∙◌}
use Rattle.std.specs.Prelude.{Ok}
use Rattle.laws.proofs.Lists.{rest}
use Rattle.lexis.specs.Token.{scan_of, first_refused}
use Rattle.lexis.proofs.Scans.{refused-token, refused_end, refused-place}
use Rattle.lexis.proofs.token.first_refused.Goals as goal

pub loop-token-init : goal.loop-token-init
unfolding first_refused
loop-token-init c = (omega arith, refl)

pub loop-token-preserved : goal.loop-token-preserved
loop-token-preserved c =
    let e = ap scan_of (sym (rest c.args.text.now c.loop-token.n)) ∙ sym c.next.ensures.scanned ∙ c.in-Ok-Some.is ∙ ap Ok c.in-Ok-Some.field-0-is in
    (search rules, sym (refused-token c.args.text.now c.loop-token.n c.in-Ok-Some.token.kind c.in-Ok-Some.token.start c.in-Ok-Some.token.length e) ∙ c.loop-token.invariant.1)

pub returns-in-Ok-None : goal.returns-in-Ok-None
returns-in-Ok-None c = sym (refused_end c.args.text.now c.loop-token.n (ap scan_of (sym (rest c.args.text.now c.loop-token.n)) ∙ sym c.next.ensures.scanned ∙ c.in-Ok-None.is ∙ ap Ok c.in-Ok-None.field-0-is)) ∙ c.loop-token.invariant.1

pub returns-in-Err : goal.returns-in-Err
returns-in-Err c = sym (refused-place c.args.text.now c.loop-token.n c.in-Err.refused.place (ap scan_of (sym (rest c.args.text.now c.loop-token.n)) ∙ sym c.next.ensures.scanned ∙ c.in-Err.is)) ∙ c.loop-token.invariant.1
