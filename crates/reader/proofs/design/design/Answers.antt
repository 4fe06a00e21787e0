-- `reader::design::design` meets its contract: part by part.
-- Assumes nothing.
use Prim.Native.Nat.{ℕ}
use mathlib.Core.Path.{◌≡◌, refl}
use native.Mathlib.Omega.{arith}
use mathlib.Core.List.{[]}
use Rattle.words.specs.Token.{ENTITY, IS, END}
use Rattle.syntax.proofs.Rows.{entity_part}
use Rattle.reading.proofs.Generic.{numbered, word-off, reads-stays, ready-word, ready-reads, ready-named}
use Rattle.reader.proofs.Declarations.{named-read, named-unfit}
use Rattle.reader.proofs.Designs.{look_span, named-stays, begins, architecture_stays, design-read, design-ends}
use Rattle.reader.proofs.design.design.Goals as goal

pub word-requires : goal.word-requires
word-requires c = omega arith

pub returns-in_err-a : goal.returns-in_err-a
returns-in_err-a c =
    let no = numbered c.in_err-a.field-0.0 in
    let i = (ready-word (begins c.requires) ENTITY c.in_err-a.ensures).inside in
    design-ends c.from_residual.result _ c.from_residual.ensures.1 (design-read c.in_err-a.ensures refl (named-stays i no) (word-off _ _ _ no) (word-off _ _ _ no) (reads-stays _ i no) (architecture_stays i no))

pub token-requires : goal.token-requires
token-requires c = (ready-word (begins c.requires) ENTITY c.in_ok-a.ensures).inside

pub returns-in_err-own : goal.returns-in_err-own
returns-in_err-own c =
    let k = c.in_err-own.ensures in
    let nm = named-unfit (ready-word (begins c.requires) ENTITY c.in_ok-a.ensures).inside refl refl 0 k.0 in
    let no : ◌≡◌ {A = ℕ} 3 0 → ⊥ = λ z. omega (arith, z) in
    let i = nm.reads.inside in
    design-ends {l' = c.args.ledger.now} {v' = c.args.table.now} c.from_residual-in_err-own.result _ c.from_residual-in_err-own.ensures.1 (rw k.1 (design-read c.in_ok-a.ensures refl nm (word-off _ _ _ no) (word-off _ _ _ no) (reads-stays _ i no) (architecture_stays i no)))

pub word-requires-2 : goal.word-requires-2
word-requires-2 c = rw c.past.ensures (ready-named {v = []} (ready-word (begins c.requires) ENTITY c.in_ok-a.ensures) (named-read (ready-word (begins c.requires) ENTITY c.in_ok-a.ensures).inside refl c.in_ok-own.ensures.0 c.in_ok-own.ensures.1)).inside

pub returns-in_err-c : goal.returns-in_err-c
returns-in_err-c c =
    let d = rw c.past.ensures at c.in_err-c.ensures in
    let no = numbered c.in_err-c.field-0.0 in
    let i = (ready-word (ready-named {v = []} (ready-word (begins c.requires) ENTITY c.in_ok-a.ensures) (named-read (ready-word (begins c.requires) ENTITY c.in_ok-a.ensures).inside refl c.in_ok-own.ensures.0 c.in_ok-own.ensures.1)) IS d).inside in
    design-ends c.from_residual-in_err-c.result _ c.from_residual-in_err-c.ensures.1 (design-read c.in_ok-a.ensures c.in_ok-own.ensures.0 (named-read (ready-word (begins c.requires) ENTITY c.in_ok-a.ensures).inside refl c.in_ok-own.ensures.0 c.in_ok-own.ensures.1) d (word-off _ _ _ no) (reads-stays _ i no) (architecture_stays i no))

pub word-requires-3 : goal.word-requires-3
word-requires-3 c = (ready-word (ready-named {v = []} (ready-word (begins c.requires) ENTITY c.in_ok-a.ensures) (named-read (ready-word (begins c.requires) ENTITY c.in_ok-a.ensures).inside refl c.in_ok-own.ensures.0 c.in_ok-own.ensures.1)) IS (rw c.past.ensures at c.in_ok-c.ensures)).inside

pub returns-in_err-d : goal.returns-in_err-d
returns-in_err-d c =
    let no = numbered c.in_err-d.field-0.0 in
    let i = (ready-word (ready-word (ready-named {v = []} (ready-word (begins c.requires) ENTITY c.in_ok-a.ensures) (named-read (ready-word (begins c.requires) ENTITY c.in_ok-a.ensures).inside refl c.in_ok-own.ensures.0 c.in_ok-own.ensures.1)) IS (rw c.past.ensures at c.in_ok-c.ensures)) END c.in_err-d.ensures).inside in
    design-ends c.from_residual-in_err-d.result _ c.from_residual-in_err-d.ensures.1 (design-read c.in_ok-a.ensures c.in_ok-own.ensures.0 (named-read (ready-word (begins c.requires) ENTITY c.in_ok-a.ensures).inside refl c.in_ok-own.ensures.0 c.in_ok-own.ensures.1) (rw c.past.ensures at c.in_ok-c.ensures) c.in_err-d.ensures (reads-stays _ i no) (architecture_stays i no))

pub closing-requires : goal.closing-requires
closing-requires c = ((ready-word (ready-word (ready-named {v = []} (ready-word (begins c.requires) ENTITY c.in_ok-a.ensures) (named-read (ready-word (begins c.requires) ENTITY c.in_ok-a.ensures).inside refl c.in_ok-own.ensures.0 c.in_ok-own.ensures.1)) IS (rw c.past.ensures at c.in_ok-c.ensures)) END c.in_ok-d.ensures), look_span (ready-word (begins c.requires) ENTITY c.in_ok-a.ensures).inside c.in_ok-own.ensures.0, omega arith)

pub returns-in_err-e : goal.returns-in_err-e
returns-in_err-e c =
    let no = numbered c.in_err-e.field-0.0 in
    let i = (c.in_err-e.ensures entity_part refl []).inside in
    design-ends c.from_residual-in_err-e.result _ c.from_residual-in_err-e.ensures.1 (design-read c.in_ok-a.ensures c.in_ok-own.ensures.0 (named-read (ready-word (begins c.requires) ENTITY c.in_ok-a.ensures).inside refl c.in_ok-own.ensures.0 c.in_ok-own.ensures.1) (rw c.past.ensures at c.in_ok-c.ensures) c.in_ok-d.ensures (c.in_err-e.ensures entity_part refl _) (architecture_stays i no))

pub architecture-requires : goal.architecture-requires
architecture-requires c = (ready-reads (ready-word (ready-word (ready-named {v = []} (ready-word (begins c.requires) ENTITY c.in_ok-a.ensures) (named-read (ready-word (begins c.requires) ENTITY c.in_ok-a.ensures).inside refl c.in_ok-own.ensures.0 c.in_ok-own.ensures.1)) IS (rw c.past.ensures at c.in_ok-c.ensures)) END c.in_ok-d.ensures) (c.in_ok-e.ensures entity_part refl []), look_span (ready-word (begins c.requires) ENTITY c.in_ok-a.ensures).inside c.in_ok-own.ensures.0)

pub returns : goal.returns
returns c = design-read c.in_ok-a.ensures c.in_ok-own.ensures.0 (named-read (ready-word (begins c.requires) ENTITY c.in_ok-a.ensures).inside refl c.in_ok-own.ensures.0 c.in_ok-own.ensures.1) (rw c.past.ensures at c.in_ok-c.ensures) c.in_ok-d.ensures (c.in_ok-e.ensures entity_part refl _) c.architecture.ensures
