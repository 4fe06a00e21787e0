-- `stop::stop_of` meets its contract: test by test, and case by case.
-- Assumes nothing.
use Rattle.std.proofs.Common.{rules, ap, sym, ◌∙◌}
use Rattle.std.specs.Option.{ok_or}
use Rattle.refusal.specs.declared.Reason.TheVariants.{Stop}
use Rattle.stop.specs.Stop.{stop_of}
use Rattle.stop.proofs.stop_of.Goals as goal

pub returns-then-is_empty : goal.returns-then-is_empty
unfolding stop_of
returns-then-is_empty c = rw (sym c.is_empty.ensures ∙ c.if-is_empty.true)

pub returns-then-not-all_digits : goal.returns-then-not-all_digits
unfolding stop_of
returns-then-not-all_digits c = rw (sym c.is_empty.ensures ∙ c.if-is_empty.false, sym c.all_digits.ensures ∙ c.if-not-all_digits.true)

pub returns-in_err-scale : goal.returns-in_err-scale
unfolding stop_of
returns-in_err-scale c = rw (sym c.is_empty.ensures ∙ c.if-is_empty.false, sym c.all_digits.ensures ∙ c.if-not-all_digits.false, sym c.unit_of.ensures ∙ c.in_err-scale.ensures.ok_part)
    (let e = rw c.in_err-scale.ensures.ok_part at c.in_err-scale.ensures.value in search rules)

pub returns : goal.returns
unfolding stop_of
returns c = rw (sym c.is_empty.ensures ∙ c.if-is_empty.false, sym c.all_digits.ensures ∙ c.if-not-all_digits.false, sym c.unit_of.ensures ∙ c.in_ok-scale.ensures.ok_part)
    (c.ok_or-2.ensures.value ∙ ap (λ time. ok_or time Stop) c.time_of.ensures)
