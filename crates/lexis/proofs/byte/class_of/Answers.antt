-- `lexis::byte::class_of` meets its contract: each arm is a range of bytes, over which the class is one computed test.
-- Assumes nothing.
use mathlib.Core.Logic.{⊎_elim, inl, inr}
use native.Mathlib.Omega.{arith}
use Rattle.lexis.specs.Byte.{class_of}
use Rattle.lexis.specs.declared.byte.Class.TheVariants.{Letter, Digit, LineEnd, Mark, Other, High}
use Rattle.lexis.proofs.Classes.{over, all_in}
use Rattle.lexis.proofs.byte.class_of.Goals as goal

pub returns-in-95 : goal.returns-in-95
unfolding class_of all_in
returns-in-95 c = rw c.in-95.is

pub returns-in-9 : goal.returns-in-9
unfolding class_of all_in
returns-in-9 c = ⊎_elim (λ e. rw e) (λ e. rw e) c.in-9.is

pub returns-in-10-to-13 : goal.returns-in-10-to-13
unfolding class_of all_in
returns-in-10-to-13 c = over 9 LineEnd 9 5 c.args.byte tt (omega arith) (omega arith) (λ e. c.in-10-to-13.in_default-own.rest.1 (inl e))

pub returns-in-48-to-57 : goal.returns-in-48-to-57
unfolding class_of all_in
returns-in-48-to-57 c = over 256 Digit 48 10 c.args.byte tt (omega arith) (omega arith) (λ e. omega (arith, e))

pub returns-in-128-to-255 : goal.returns-in-128-to-255
unfolding class_of all_in
returns-in-128-to-255 c = over 256 High 128 128 c.args.byte tt (omega arith) (omega arith) (λ e. omega (arith, e))

pub returns-in-65-to-90 : goal.returns-in-65-to-90
unfolding class_of all_in
returns-in-65-to-90 c = over 256 Letter 65 26 c.args.byte tt (omega arith) (omega arith) (λ e. omega (arith, e))

pub returns-in-65-to-90-2 : goal.returns-in-65-to-90-2
unfolding class_of all_in
returns-in-65-to-90-2 c = over 256 Letter 97 26 c.args.byte tt (omega arith) (omega arith) (λ e. omega (arith, e))

pub returns-in-40-to-41 : goal.returns-in-40-to-41
unfolding class_of all_in
returns-in-40-to-41 c = over 256 Mark 40 2 c.args.byte tt (omega arith) (omega arith) (λ e. omega (arith, e))

pub returns-in-40-to-41-2 : goal.returns-in-40-to-41-2
unfolding class_of all_in
returns-in-40-to-41-2 c = over 256 Mark 44 2 c.args.byte tt (omega arith) (omega arith) (λ e. omega (arith, e))

pub returns-in-40-to-41-3 : goal.returns-in-40-to-41-3
unfolding class_of all_in
returns-in-40-to-41-3 c = over 256 Mark 58 4 c.args.byte tt (omega arith) (omega arith) (λ e. omega (arith, e))

pub returns-in_default : goal.returns-in_default
unfolding class_of all_in
returns-in_default c = over 256 Other 0 9 c.args.byte tt (omega arith) (omega arith) (λ e. omega (arith, e))

pub returns-in_default-2 : goal.returns-in_default-2
unfolding class_of all_in
returns-in_default-2 c = over 32 Other 14 26 c.args.byte tt (omega arith) (omega arith) (λ e. c.in_default.in_default-own.rest.1 (inr e))

pub returns-in_default-3 : goal.returns-in_default-3
unfolding class_of all_in
returns-in_default-3 c = over 256 Other 42 2 c.args.byte tt (omega arith) (omega arith) (λ e. omega (arith, e))

pub returns-in_default-4 : goal.returns-in_default-4
unfolding class_of all_in
returns-in_default-4 c = over 256 Other 46 2 c.args.byte tt (omega arith) (omega arith) (λ e. omega (arith, e))

pub returns-in_default-5 : goal.returns-in_default-5
unfolding class_of all_in
returns-in_default-5 c = over 256 Other 62 3 c.args.byte tt (omega arith) (omega arith) (λ e. omega (arith, e))

pub returns-in_default-6 : goal.returns-in_default-6
unfolding class_of all_in
returns-in_default-6 c = over 95 Other 91 6 c.args.byte tt (omega arith) (omega arith) (λ e. c.in_default.in_default-own.rest.0.1 e)

pub returns-in_default-7 : goal.returns-in_default-7
unfolding class_of all_in
returns-in_default-7 c = over 256 Other 123 5 c.args.byte tt (omega arith) (omega arith) (λ e. omega (arith, e))
