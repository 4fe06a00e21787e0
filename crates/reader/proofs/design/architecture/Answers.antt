-- `reader::design::architecture` meets its contract: part by part.
-- Assumes nothing.
use Prim.Native.Nat.{ℕ}
use mathlib.Core.Path.{◌≡◌, refl}
use native.Mathlib.Omega.{arith}
use mathlib.Core.List.{[]}
use Rattle.words.specs.Token.{ARCHITECTURE, OF, IS}
use Rattle.syntax.proofs.Rows.{architecture_part}
use Rattle.reading.proofs.Generic.{numbered, word-off, reads-stays, ready-word, ready-reads, ready-named}
use Rattle.reader.proofs.Declarations.{named-read, named-unfit}
use Rattle.reader.proofs.Designs.{look_span, named-stays, finished_off, architecture_read, architecture_ends}
use Rattle.reader.proofs.design.architecture.Goals as goal

pub returns-in_err-a : goal.returns-in_err-a
returns-in_err-a c =
    let no = numbered c.in_err-a.field-0.0 in
    let i = (ready-word c.requires.0 ARCHITECTURE c.in_err-a.ensures).inside in
    architecture_ends c.from_residual.result _ c.from_residual.ensures.1 (architecture_read c.requires.0.inside c.in_err-a.ensures refl (named-stays i no) (word-off _ _ _ no) (reads-stays _ i no) (word-off _ _ _ no) (reads-stays _ i no) (reads-stays _ i no) (reads-stays _ i no) (finished_off no))

pub token-requires : goal.token-requires
token-requires c = (ready-word c.requires.0 ARCHITECTURE c.in_ok-a.ensures).inside

pub returns-in_err-own : goal.returns-in_err-own
returns-in_err-own c =
    let k = c.in_err-own.ensures in
    let nm = named-unfit (ready-word c.requires.0 ARCHITECTURE c.in_ok-a.ensures).inside refl refl 0 k.0 in
    let no : ◌≡◌ {A = ℕ} 3 0 → ⊥ = λ z. omega (arith, z) in
    let i = nm.reads.inside in
    architecture_ends {l' = c.args.ledger.now} {v' = c.args.table.now} c.from_residual-in_err-own.result _ c.from_residual-in_err-own.ensures.1 (rw k.1 (architecture_read c.requires.0.inside c.in_ok-a.ensures refl nm (word-off _ _ _ no) (reads-stays _ i no) (word-off _ _ _ no) (reads-stays _ i no) (reads-stays _ i no) (reads-stays _ i no) (finished_off no)))

pub word-requires-2 : goal.word-requires-2
word-requires-2 c = rw c.past.ensures (ready-named {v = []} (ready-word c.requires.0 ARCHITECTURE c.in_ok-a.ensures) (named-read (ready-word c.requires.0 ARCHITECTURE c.in_ok-a.ensures).inside refl c.in_ok-own.ensures.0 c.in_ok-own.ensures.1)).inside

pub returns-in_err-c : goal.returns-in_err-c
returns-in_err-c c =
    let d = rw c.past.ensures at c.in_err-c.ensures in
    let no = numbered c.in_err-c.field-0.0 in
    let i = (ready-word (ready-named {v = []} (ready-word c.requires.0 ARCHITECTURE c.in_ok-a.ensures) (named-read (ready-word c.requires.0 ARCHITECTURE c.in_ok-a.ensures).inside refl c.in_ok-own.ensures.0 c.in_ok-own.ensures.1)) OF d).inside in
    architecture_ends c.from_residual-in_err-c.result _ c.from_residual-in_err-c.ensures.1 (architecture_read c.requires.0.inside c.in_ok-a.ensures c.in_ok-own.ensures.0 (named-read (ready-word c.requires.0 ARCHITECTURE c.in_ok-a.ensures).inside refl c.in_ok-own.ensures.0 c.in_ok-own.ensures.1) d (reads-stays _ i no) (word-off _ _ _ no) (reads-stays _ i no) (reads-stays _ i no) (reads-stays _ i no) (finished_off no))

pub of_name-requires : goal.of_name-requires
of_name-requires c = ((ready-word (ready-named {v = []} (ready-word c.requires.0 ARCHITECTURE c.in_ok-a.ensures) (named-read (ready-word c.requires.0 ARCHITECTURE c.in_ok-a.ensures).inside refl c.in_ok-own.ensures.0 c.in_ok-own.ensures.1)) OF (rw c.past.ensures at c.in_ok-c.ensures)), c.requires.1)

pub returns-in_err-d : goal.returns-in_err-d
returns-in_err-d c =
    let no = numbered c.in_err-d.field-0.0 in
    let i = (c.in_err-d.ensures []).inside in
    architecture_ends c.from_residual-in_err-d.result _ c.from_residual-in_err-d.ensures.1 (architecture_read c.requires.0.inside c.in_ok-a.ensures c.in_ok-own.ensures.0 (named-read (ready-word c.requires.0 ARCHITECTURE c.in_ok-a.ensures).inside refl c.in_ok-own.ensures.0 c.in_ok-own.ensures.1) (rw c.past.ensures at c.in_ok-c.ensures) (c.in_err-d.ensures _) (word-off _ _ _ no) (reads-stays _ i no) (reads-stays _ i no) (reads-stays _ i no) (finished_off no))

pub word-requires-3 : goal.word-requires-3
word-requires-3 c = (c.in_ok-d.ensures []).inside

pub returns-in_err-e : goal.returns-in_err-e
returns-in_err-e c =
    let no = numbered c.in_err-e.field-0.0 in
    let i = (ready-word (ready-reads (ready-word (ready-named {v = []} (ready-word c.requires.0 ARCHITECTURE c.in_ok-a.ensures) (named-read (ready-word c.requires.0 ARCHITECTURE c.in_ok-a.ensures).inside refl c.in_ok-own.ensures.0 c.in_ok-own.ensures.1)) OF (rw c.past.ensures at c.in_ok-c.ensures)) (c.in_ok-d.ensures [])) IS c.in_err-e.ensures).inside in
    architecture_ends c.from_residual-in_err-e.result _ c.from_residual-in_err-e.ensures.1 (architecture_read c.requires.0.inside c.in_ok-a.ensures c.in_ok-own.ensures.0 (named-read (ready-word c.requires.0 ARCHITECTURE c.in_ok-a.ensures).inside refl c.in_ok-own.ensures.0 c.in_ok-own.ensures.1) (rw c.past.ensures at c.in_ok-c.ensures) (c.in_ok-d.ensures _) c.in_err-e.ensures (reads-stays _ i no) (reads-stays _ i no) (reads-stays _ i no) (finished_off no))

pub declarations-requires : goal.declarations-requires
declarations-requires c = (ready-word (ready-reads (ready-word (ready-named {v = []} (ready-word c.requires.0 ARCHITECTURE c.in_ok-a.ensures) (named-read (ready-word c.requires.0 ARCHITECTURE c.in_ok-a.ensures).inside refl c.in_ok-own.ensures.0 c.in_ok-own.ensures.1)) OF (rw c.past.ensures at c.in_ok-c.ensures)) (c.in_ok-d.ensures [])) IS c.in_ok-e.ensures)

pub returns-in_err-f : goal.returns-in_err-f
returns-in_err-f c =
    let d = c.in_err-f.ensures in
    let no = numbered c.in_err-f.field-0.0 in
    let i = d.inside in
    architecture_ends c.from_residual-in_err-f.result _ c.from_residual-in_err-f.ensures.1 (architecture_read c.requires.0.inside c.in_ok-a.ensures c.in_ok-own.ensures.0 (named-read (ready-word c.requires.0 ARCHITECTURE c.in_ok-a.ensures).inside refl c.in_ok-own.ensures.0 c.in_ok-own.ensures.1) (rw c.past.ensures at c.in_ok-c.ensures) (c.in_ok-d.ensures _) c.in_ok-e.ensures d (reads-stays _ i no) (reads-stays _ i no) (finished_off no))

pub process_list-requires : goal.process_list-requires
process_list-requires c = (ready-reads (ready-word (ready-reads (ready-word (ready-named {v = []} (ready-word c.requires.0 ARCHITECTURE c.in_ok-a.ensures) (named-read (ready-word c.requires.0 ARCHITECTURE c.in_ok-a.ensures).inside refl c.in_ok-own.ensures.0 c.in_ok-own.ensures.1)) OF (rw c.past.ensures at c.in_ok-c.ensures)) (c.in_ok-d.ensures [])) IS c.in_ok-e.ensures) c.in_ok-f.ensures)

pub returns-in_err-g : goal.returns-in_err-g
returns-in_err-g c =
    let d = c.in_err-g.ensures in
    let no = numbered c.in_err-g.field-0.0 in
    let i = d.inside in
    architecture_ends c.from_residual-in_err-g.result _ c.from_residual-in_err-g.ensures.1 (architecture_read c.requires.0.inside c.in_ok-a.ensures c.in_ok-own.ensures.0 (named-read (ready-word c.requires.0 ARCHITECTURE c.in_ok-a.ensures).inside refl c.in_ok-own.ensures.0 c.in_ok-own.ensures.1) (rw c.past.ensures at c.in_ok-c.ensures) (c.in_ok-d.ensures _) c.in_ok-e.ensures c.in_ok-f.ensures d (reads-stays _ i no) (finished_off no))

pub closing-requires : goal.closing-requires
closing-requires c = ((ready-reads (ready-reads (ready-word (ready-reads (ready-word (ready-named {v = []} (ready-word c.requires.0 ARCHITECTURE c.in_ok-a.ensures) (named-read (ready-word c.requires.0 ARCHITECTURE c.in_ok-a.ensures).inside refl c.in_ok-own.ensures.0 c.in_ok-own.ensures.1)) OF (rw c.past.ensures at c.in_ok-c.ensures)) (c.in_ok-d.ensures [])) IS c.in_ok-e.ensures) c.in_ok-f.ensures) c.in_ok-g.ensures), look_span (ready-word c.requires.0 ARCHITECTURE c.in_ok-a.ensures).inside c.in_ok-own.ensures.0, omega arith)

pub returns-in_err-h : goal.returns-in_err-h
returns-in_err-h c =
    let no = numbered c.in_err-h.field-0.0 in
    let i = (c.in_err-h.ensures architecture_part refl []).inside in
    architecture_ends c.from_residual-in_err-h.result _ c.from_residual-in_err-h.ensures.1 (architecture_read c.requires.0.inside c.in_ok-a.ensures c.in_ok-own.ensures.0 (named-read (ready-word c.requires.0 ARCHITECTURE c.in_ok-a.ensures).inside refl c.in_ok-own.ensures.0 c.in_ok-own.ensures.1) (rw c.past.ensures at c.in_ok-c.ensures) (c.in_ok-d.ensures _) c.in_ok-e.ensures c.in_ok-f.ensures c.in_ok-g.ensures (c.in_err-h.ensures architecture_part refl _) (finished_off no))

pub finished-requires : goal.finished-requires
finished-requires c = (c.in_ok-h.ensures architecture_part refl []).inside

pub returns : goal.returns
returns c = architecture_read c.requires.0.inside c.in_ok-a.ensures c.in_ok-own.ensures.0 (named-read (ready-word c.requires.0 ARCHITECTURE c.in_ok-a.ensures).inside refl c.in_ok-own.ensures.0 c.in_ok-own.ensures.1) (rw c.past.ensures at c.in_ok-c.ensures) (c.in_ok-d.ensures _) c.in_ok-e.ensures c.in_ok-f.ensures c.in_ok-g.ensures (c.in_ok-h.ensures architecture_part refl _) c.finished.ensures
