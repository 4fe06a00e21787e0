-- No stop that words say is later than 10^18. Assumes nothing.
use Rattle.std.proofs.Common.{ℕ, ◌≡◌, ◌*◌, refl, sym, subst, List, length, eqb, leb}
use Rattle.std.specs.Prelude.{Option, Some, None, Result, Ok, Err}
use Rattle.std.specs.Option.{ok_or}
use borrow.Author.Tests.{leb-true}
use Rattle.laws.proofs.Picks.{pick_both}
use Rattle.words.specs.Integer.{value_of}
use Rattle.words.specs.Unit.{longest, femtoseconds_of}
use Rattle.words.specs.declared.unit.TimeUnit.{TimeUnit}
use Rattle.lexis.specs.Run.{all_digits}
use Rattle.refusal.specs.declared.Reason.{Reason}
use Rattle.refusal.specs.declared.Reason.TheVariants.{Stop}
use Rattle.stop.specs.Stop.{unit_of, stop_in, stop_of}
use Rattle.program.specs.Given.{InTime}

in_unit : (u : Option TimeUnit) (digits : List ℕ) → InTime (stop_in u digits)
in_unit (Some u) digits =
    let amount = value_of digits * femtoseconds_of u in
    pick_both (λ (d : Option ℕ). InTime (ok_or d Stop)) (leb amount longest) (Some amount) None (λ e. leb-true amount longest e) (λ e. refl)
in_unit None digits = refl

pub in_time : (amount scale : List ℕ) → InTime (stop_of amount scale)
unfolding stop_of
in_time amount scale =
    pick_both InTime (eqb (length amount) 0) (Err Stop) _ (λ e. refl)
    (λ e. pick_both InTime (all_digits amount) (stop_in (unit_of scale) amount) (Err Stop) (λ f. in_unit (unit_of scale) amount) (λ f. refl))

-- as the code has it
pub said_in_time : (amount scale : List ℕ) (r : Result ℕ Reason) → r ≡ stop_of amount scale → InTime r
said_in_time amount scale r e = subst InTime (sym e) (in_time amount scale)
