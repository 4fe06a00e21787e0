-- `compassnail::compassnail_header` meets its contract: the header's answer, as a number.
-- Assumes nothing.
use native.Mathlib.Omega.{arith}
use Rattle.heading.proofs.Sizes.{header-small, refusal_small}
use Rattle.compassnail.proofs.Texts.{header_in_c, refusal_in_c}
use Rattle.compassnail.proofs.compassnail_header.Goals as goal

pub overflow_mul-result : goal.overflow_mul-result
overflow_mul-result c = let h = header-small _ _ _ _ c.header.ensures c.in-Ok.is in record { fits = omega arith }

pub refused_at-requires : goal.refused_at-requires
refused_at-requires c = (refusal_small _ _ _ _ c.header.ensures c.in-Err.is).1

pub returns-in-Ok : goal.returns-in-Ok
returns-in-Ok c = header_in_c _ _ _ _ c.header.ensures c.in-Ok.is

pub returns-in-Err : goal.returns-in-Err
returns-in-Err c = refusal_in_c _ _ _ _ c.header.ensures c.in-Err.is c.refused_at.ensures
