-- `statements::end_if` meets its contract.
-- Assumes nothing.
use mathlib.Core.Path.{ap, ◌∙◌}
use Rattle.std.specs.Prelude.{Err}
use Rattle.reading.specs.Inside.Spots.{Reached, reached, word_of}
use Rattle.std.proofs.lemmas.Result.{err_from_is_err_and}
use Rattle.words.specs.Token.{END, IF}
use Rattle.reading.proofs.Words.{worded}
use Rattle.reading.proofs.Generic.{numbered, word-off}
use Rattle.statements.proofs.end_if.Goals as goal

pub word-requires-2 : goal.word-requires-2
word-requires-2 c = (worded END c.requires c.in_ok-a.ensures).inside

pub word-requires-3 : goal.word-requires-3
word-requires-3 c = (worded IF (worded END c.requires c.in_ok-a.ensures).inside c.in_ok-b.ensures).inside

pub returns-in_err-a : goal.returns-in_err-a
returns-in_err-a c =
    let e = err_from_is_err_and c.from_residual.result c.from_residual.ensures.1 in
    let s = c.args.text.now in
    let q = reached (Err c.in_err-a.field-0.0) in
    rw (e.1, e.2) (word-off s q 114 (numbered c.in_err-a.field-0.0) ∙ ap (λ (x : Reached). word_of s x 114) (word-off s q 11 (numbered c.in_err-a.field-0.0) ∙ ap (λ (x : Reached). word_of s x 11) c.in_err-a.ensures))

pub returns-in_err-b : goal.returns-in_err-b
returns-in_err-b c =
    let e = err_from_is_err_and c.from_residual-in_err-b.result c.from_residual-in_err-b.ensures.1 in
    let s = c.args.text.now in
    let q = reached (Err c.in_err-b.field-0.0) in
    rw (e.1, e.2, ← c.in_ok-a.ensures) (word-off s q 114 (numbered c.in_err-b.field-0.0) ∙ ap (λ (x : Reached). word_of s x 114) c.in_err-b.ensures)

pub returns : goal.returns
returns c = rw (c.word-3.ensures, c.in_ok-b.ensures, c.in_ok-a.ensures)
