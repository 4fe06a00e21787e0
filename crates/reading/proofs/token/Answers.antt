-- `reading::token` meets its contract: the token at the place is the one that is wanted, or the refusal stands at it. Assumes nothing.
use mathlib.Core.Path.{ap, ◌∙◌}
use Rattle.look.specs.declared.Look.{Look}
use Rattle.look.specs.Inside.Looks.{kind_seen}
use Rattle.look.proofs.Tokens.{eq-same, eq-other}
use Rattle.reading.specs.declared.Unfit.TheVariants.{NoSentence}
use Rattle.reading.proofs.token.Goals as goal

pub returns-then-eq : goal.returns-then-eq
returns-then-eq c = (c.peek-t.ensures, eq-same c.peek-t.result.token c.args.wanted c.if-eq.ensures)

pub returns-else-eq : goal.returns-else-eq
returns-else-eq c =
    let e = c.peek-t.ensures in
    (λ z. eq-other c.peek-t.result.token c.args.wanted c.if-eq.ensures (ap kind_seen e ∙ z), ap (λ (l : Look). NoSentence l.start) e)
