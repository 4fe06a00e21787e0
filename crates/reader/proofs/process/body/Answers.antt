-- `reader::process::body` meets its contract: part by part.
-- Assumes nothing.
use mathlib.Core.Path.{refl}
use mathlib.Core.List.{[]}
use Rattle.words.specs.Token.{END, PROCESS}
use Rattle.reading.proofs.Generic.{numbered, word-off, reads-stays, reads-ends, ready-word, ready-reads}
use Rattle.statements.proofs.Returns.{none-stops}
use Rattle.reader.proofs.Processes.{body-read}
use Rattle.reader.proofs.process.body.Goals as goal

pub returns-in_err-a : goal.returns-in_err-a
returns-in_err-a c =
    let no = numbered c.in_err-a.field-0.0 in
    let d = c.in_err-a.ensures in
    reads-ends c.from_residual.result _ c.from_residual.ensures.1 (body-read d (reads-stays _ d.inside no) (reads-stays _ d.inside no) (none-stops _ _ no) refl (word-off _ _ _ no) (word-off _ _ _ no) (reads-stays _ d.inside no))

pub returns-in_err-b : goal.returns-in_err-b
returns-in_err-b c =
    let no = numbered c.in_err-b.field-0.0 in
    let d = c.in_err-b.ensures in
    let i = (d [] []).inside in
    reads-ends c.from_residual-in_err-b.result _ c.from_residual-in_err-b.ensures.1 (body-read c.in_ok-a.ensures (d _ _) (reads-stays _ i no) (none-stops _ _ no) refl (word-off _ _ _ no) (word-off _ _ _ no) (reads-stays _ i no))

pub statements-requires : goal.statements-requires
statements-requires c = (ready-reads (ready-reads c.requires.0 c.in_ok-a.ensures) (c.in_ok-b.ensures _ []))

pub returns-in_err-c : goal.returns-in_err-c
returns-in_err-c c =
    let no = numbered c.in_err-c.field-0.0 in
    let d = c.in_err-c.ensures in
    reads-ends c.from_residual-in_err-c.result _ c.from_residual-in_err-c.ensures.1 (body-read c.in_ok-a.ensures (c.in_ok-b.ensures _ _) d.0 d.1 refl (word-off _ _ _ no) (word-off _ _ _ no) (reads-stays _ d.0.inside no))

pub returns-in_err-d : goal.returns-in_err-d
returns-in_err-d c =
    let no = numbered c.in_err-d.field-0.0 in
    let r = ready-word (ready-reads (ready-reads (ready-reads c.requires.0 c.in_ok-a.ensures) (c.in_ok-b.ensures _ [])) c.in_ok-c.ensures.0) END c.in_err-d.ensures in
    reads-ends c.from_residual-in_err-d.result _ c.from_residual-in_err-d.ensures.1 (body-read c.in_ok-a.ensures (c.in_ok-b.ensures _ _) c.in_ok-c.ensures.0 c.in_ok-c.ensures.1 c.end_process.ensures c.in_err-d.ensures (word-off _ _ _ no) (reads-stays _ r.inside no))

pub word-requires-2 : goal.word-requires-2
word-requires-2 c = (ready-word (ready-reads (ready-reads (ready-reads c.requires.0 c.in_ok-a.ensures) (c.in_ok-b.ensures _ [])) c.in_ok-c.ensures.0) END c.in_ok-d.ensures).inside

pub returns-in_err-e : goal.returns-in_err-e
returns-in_err-e c =
    let no = numbered c.in_err-e.field-0.0 in
    let r = ready-word (ready-word (ready-reads (ready-reads (ready-reads c.requires.0 c.in_ok-a.ensures) (c.in_ok-b.ensures _ [])) c.in_ok-c.ensures.0) END c.in_ok-d.ensures) PROCESS c.in_err-e.ensures in
    reads-ends c.from_residual-in_err-e.result _ c.from_residual-in_err-e.ensures.1 (body-read c.in_ok-a.ensures (c.in_ok-b.ensures _ _) c.in_ok-c.ensures.0 c.in_ok-c.ensures.1 c.end_process.ensures c.in_ok-d.ensures c.in_err-e.ensures (reads-stays _ r.inside no))

pub closing_name-requires : goal.closing_name-requires
closing_name-requires c = ((ready-word (ready-word (ready-reads (ready-reads (ready-reads c.requires.0 c.in_ok-a.ensures) (c.in_ok-b.ensures _ [])) c.in_ok-c.ensures.0) END c.in_ok-d.ensures) PROCESS c.in_ok-e.ensures), c.requires.1)

pub returns : goal.returns
returns c = body-read c.in_ok-a.ensures (c.in_ok-b.ensures _ _) c.in_ok-c.ensures.0 c.in_ok-c.ensures.1 c.end_process.ensures c.in_ok-d.ensures c.in_ok-e.ensures (c.closing_name.ensures _)
