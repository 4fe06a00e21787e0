-- `heading::show` meets its contract: part by part.
-- Assumes nothing.
use native.Mathlib.Omega.{arith}
use lib.ListN.{get_or}
use Rattle.look.specs.Inside.Looks.{part, name_at}
use Rattle.ledger.specs.Inside.Standing.{names_from}
use Rattle.reader.proofs.Designs.{look_span}
use Rattle.heading.proofs.Rows.{lower-length, header-written, survey_own, survey_shelf, survey_fits, survey_shows}
use Rattle.heading.proofs.show.Goals as goal

pub peek-own-requires : goal.peek-own-requires
peek-own-requires c = (look_span (omega arith) c.peek-entity.ensures).inside

pub copy-b-requires : goal.copy-b-requires
copy-b-requires c = omega (arith, c.requires.1, survey_fits c.requires.0 c.peek-own.result (survey_own c.requires.0 c.peek-entity.ensures c.peek-own.ensures))

pub copy_name-c-requires : goal.copy_name-c-requires
unfolding name_at
copy_name-c-requires c = omega (arith, lower-length (part c.args.text.now c.peek-own.result.start c.peek-own.result.end), c.requires.1, survey_fits c.requires.0 c.peek-own.result (survey_own c.requires.0 c.peek-entity.ensures c.peek-own.ensures), c.copy-b.ensures.end, c.out-1.given)

pub slice_bounds-copy_name-count : goal.slice_bounds-copy_name-count
slice_bounds-copy_name-count c = (look_span (look_span (omega arith) c.peek-entity.ensures).inside c.peek-own.ensures).rising

pub slice_bounds-copy_name-start : goal.slice_bounds-copy_name-start
slice_bounds-copy_name-start c = (look_span (look_span (omega arith) c.peek-entity.ensures).inside c.peek-own.ensures).rising

pub slice_bounds-copy_name-end : goal.slice_bounds-copy_name-end
slice_bounds-copy_name-end c = (look_span (look_span (omega arith) c.peek-entity.ensures).inside c.peek-own.ensures).inside

pub copy-d-requires : goal.copy-d-requires
unfolding name_at
copy-d-requires c = omega (arith, c.requires.1, survey_fits c.requires.0 c.peek-own.result (survey_own c.requires.0 c.peek-entity.ensures c.peek-own.ensures), c.copy-b.ensures.end, c.copy_name-c.ensures.end, c.out-1.given, c.out-2-1.given)

pub lines-e-requires : goal.lines-e-requires
unfolding name_at
lines-e-requires c = record { shelf = survey_shelf c.requires.0; count_in_bounds = omega (arith, c.requires.1, survey_fits c.requires.0 c.peek-own.result (survey_own c.requires.0 c.peek-entity.ensures c.peek-own.ensures), c.copy-b.ensures.end, c.copy_name-c.ensures.end, c.copy-d.ensures.end, c.out-1.given, c.out-2-1.given, c.out-3-1.given) }

pub copy-requires : goal.copy-requires
unfolding name_at
copy-requires c = omega (arith, c.requires.1, survey_fits c.requires.0 c.peek-own.result (survey_own c.requires.0 c.peek-entity.ensures c.peek-own.ensures), c.copy-b.ensures.end, c.copy_name-c.ensures.end, c.copy-d.ensures.end, c.lines-e.ensures.end, c.out-1.given, c.out-2-1.given, c.out-3-1.given, c.out-4-1.given)

pub shape_of-out : goal.shape_of-out
shape_of-out c = omega (arith, c.out-1.given, c.out-2-1.given, c.out-3-1.given, c.out-4-1.given, c.out-5-1.given)

pub returns : goal.returns
unfolding name_at
returns c = survey_shows c.requires.0 c.peek-own.result (survey_own c.requires.0 c.peek-entity.ensures c.peek-own.ensures) c.requires.1 (header-written (names_from c.args.text.now c.args.ledger.now 6 (get_or c.args.ledger.now 2 0)) c.copy-b.ensures c.copy_name-c.ensures c.copy-d.ensures c.lines-e.ensures c.copy.ensures)
