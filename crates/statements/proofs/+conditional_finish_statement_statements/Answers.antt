-- The readers of statements meet their contracts: each return by its law. The nesting room falls along the cycle.
-- Assumes nothing.
use Rattle.look.specs.declared.token.Token.TheVariants.{Name, If, Else}
use Rattle.look.specs.Inside.Looks.{kind_seen}
use Rattle.look.specs.Inside.Tokens.{number_of}
use Rattle.look.proofs.Tokens.{one_token, ne-same, ne-other}
use native.Mathlib.Omega.{arith}
use mathlib.Core.Path.{◌≡◌, refl, sym, ap, ◌∙◌}
use borrow.Author.Rules.{rules}
use Rattle.std.proofs.lemmas.Result.{err_from_is_err_and}
use Rattle.words.specs.Token.{THEN, SEMICOLON}
use Rattle.look.specs.declared.Look.{Look}
use Rattle.look.proofs.Looks.{seen-there}
use Rattle.reading.specs.Inside.Spots.{starter}
use Rattle.reading.proofs.Words.{worded}
use Rattle.reading.proofs.Generic.{numbered, forward-ends, word-off, reads-stays, reads-ends, ready-token, ready-pass, ready-word, ready-reads, ready_at}
use Rattle.statements.proofs.Returns.{end_if-off, statement_deep, statement_if, statement_null, none-stops, statements-none, statements_more, finish_end, finish_else, starter-null, stops_at}
use Rattle.statements.proofs.+conditional_finish_statement_statements.Goals as goal

pub conditional-returns-then-room-eq0 : goal.conditional-returns-then-room-eq0
conditional-returns-then-room-eq0 t c = (statement_deep c.requires.0.inside refl c.requires.1 c.requires.2 c.if-room-eq0.true, record { more = λ z. absurd (omega (arith, z)) })

pub conditional-expression-requires : goal.conditional-expression-requires
conditional-expression-requires t c = rw c.past.ensures (ready-token c.requires.0 refl c.requires.1 (λ z. omega (arith, c.requires.2, z)) (c.count.ensures c.args.text.now))

pub conditional-returns-in_err-e : goal.conditional-returns-in_err-e
conditional-returns-in_err-e t c =
    let d = rw c.past.ensures at c.in_err-e.ensures in
    let no = numbered c.in_err-e.field-0.0 in
    forward-ends c.from_residual.result _ c.from_residual.ensures.1 (statement_if c.requires.0.inside refl c.requires.1 c.requires.2 c.if-room-eq0.false (c.count.ensures c.args.text.now) d (word-off _ _ _ no) refl refl (reads-stays _ d.inside no) refl refl (reads-stays _ d.inside no) refl refl)

pub conditional-returns-in_err-a : goal.conditional-returns-in_err-a
conditional-returns-in_err-a t c =
    let d = rw c.past.ensures at c.in_ok-e.ensures in
    let w = worded THEN d.inside c.in_err-a.ensures in
    let no = numbered c.in_err-a.field-0.0 in
    forward-ends c.from_residual-in_err-a.result _ c.from_residual-in_err-a.ensures.1 (statement_if c.requires.0.inside refl c.requires.1 c.requires.2 c.if-room-eq0.false (c.count.ensures c.args.text.now) d c.in_err-a.ensures refl refl (reads-stays _ w.inside no) refl refl (reads-stays _ w.inside no) refl refl)

pub conditional-statements-requires : goal.conditional-statements-requires
conditional-statements-requires t c = (omega (arith, c.decreases, c.if-room-eq0.false), (ready_at (ready-word (ready-reads (ready-token c.requires.0 refl c.requires.1 (λ z. omega (arith, c.requires.2, z)) (c.count.ensures c.args.text.now)) (rw c.past.ensures at c.in_ok-e.ensures)) THEN c.in_ok-a.ensures)))

pub conditional-returns-in_err-b : goal.conditional-returns-in_err-b
conditional-returns-in_err-b t c =
    let b = c.in_err-b.ensures in
    forward-ends c.from_residual-in_err-b.result _ c.from_residual-in_err-b.ensures.1 (statement_if c.requires.0.inside refl c.requires.1 c.requires.2 c.if-room-eq0.false (c.count.ensures c.args.text.now) (rw c.past.ensures at c.in_ok-e.ensures) c.in_ok-a.ensures c.emit-first.ensures.0 c.emit-first.ensures.1 b.0 refl refl (reads-stays _ b.0.inside (numbered c.in_err-b.field-0.0)) refl refl)

pub conditional-finish-requires : goal.conditional-finish-requires
conditional-finish-requires t c = (omega (arith, c.decreases, c.if-room-eq0.false), ((ready_at (ready-reads (ready_at (ready-word (ready-reads (ready-token c.requires.0 refl c.requires.1 (λ z. omega (arith, c.requires.2, z)) (c.count.ensures c.args.text.now)) (rw c.past.ensures at c.in_ok-e.ensures)) THEN c.in_ok-a.ensures)) c.in_ok-b.ensures.0)), stops_at c.in_ok-b.ensures.1))

pub conditional-returns-in_err-q : goal.conditional-returns-in_err-q
conditional-returns-in_err-q t c =
    forward-ends c.from_residual-in_err-q.result _ c.from_residual-in_err-q.ensures.1 (statement_if c.requires.0.inside refl c.requires.1 c.requires.2 c.if-room-eq0.false (c.count.ensures c.args.text.now) (rw c.past.ensures at c.in_ok-e.ensures) c.in_ok-a.ensures c.emit-first.ensures.0 c.emit-first.ensures.1 c.in_ok-b.ensures.0 c.emit-second.ensures.0 c.emit-second.ensures.1 c.in_err-q.ensures refl refl)

pub conditional-returns : goal.conditional-returns
conditional-returns t c =
    let x = seen-there c.requires.0.inside c.requires.1 (λ z. omega (arith, c.requires.2, z)) in
    let e = rw c.past.ensures at c.in_ok-e.ensures in
    let w = worded THEN e.inside c.in_ok-a.ensures in
    let b = c.in_ok-b.ensures in
    let q = c.in_ok-q.ensures in (
      statement_if c.requires.0.inside refl c.requires.1 c.requires.2 c.if-room-eq0.false (c.count.ensures c.args.text.now) e c.in_ok-a.ensures c.emit-first.ensures.0 c.emit-first.ensures.1 b.0 c.emit-second.ensures.0 c.emit-second.ensures.1 q c.aim.ensures c.aim-2.ensures,
      record { more = λ z. omega (arith, x.after, x.some, e.ahead, w.ahead, b.0.ahead, q.ahead) },
    )

pub finish-returns-then-ne : goal.finish-returns-then-ne
finish-returns-then-ne t c = finish_end c.requires.0.inside refl c.peek-t.ensures c.requires.1 (ne-other c.peek-t.result.token Else c.if-ne.ensures) c.end_if.ensures

pub finish-statements-requires : goal.finish-statements-requires
finish-statements-requires t c = (omega (arith, c.decreases), rw c.past.ensures (ready-pass c.requires.0 refl c.peek-t.ensures (λ z. omega (arith, (ne-same c.peek-t.result.token Else c.if-ne.ensures), z))))

pub finish-returns-in_err-q : goal.finish-returns-in_err-q
finish-returns-in_err-q t c =
    let d = rw c.past.ensures at c.in_err-q.ensures in
    reads-ends c.from_residual.result _ c.from_residual.ensures.1 (finish_else c.requires.0.inside refl c.peek-t.ensures c.requires.1 (ne-same c.peek-t.result.token Else c.if-ne.ensures) d.0 d.1 (end_if-off _ _ (numbered c.in_err-q.field-0.0)))

pub finish-returns : goal.finish-returns
finish-returns t c =
    let d = rw c.past.ensures at c.in_ok-q.ensures in
    finish_else c.requires.0.inside refl c.peek-t.ensures c.requires.1 (ne-same c.peek-t.result.token Else c.if-ne.ensures) d.0 d.1 c.end_if-2.ensures

pub statement-assignment-requires : goal.statement-assignment-requires
statement-assignment-requires t c = record { ready = c.requires.0; target = (c.requires.1, ap number_of c.in-Name.is) }

pub statement-conditional-requires : goal.statement-conditional-requires
statement-conditional-requires t c = (omega (arith, c.decreases), (c.requires.0, c.requires.1, ap number_of c.in-If.is))

pub statement-word-requires : goal.statement-word-requires
statement-word-requires t c =
    let k : kind_seen c.args.t ≡ 14 = starter-null (kind_seen c.args.t) c.requires.2 (λ z. c.in_default.not-Name (one_token _ Name z)) (λ z. c.in_default.not-If (one_token _ If z)) in
    rw c.past.ensures (seen-there c.requires.0.inside c.requires.1 (λ z. omega (arith, k, z))).inside

pub statement-returns-in_default : goal.statement-returns-in_default
statement-returns-in_default t c =
    let k : kind_seen c.args.t ≡ 14 = starter-null (kind_seen c.args.t) c.requires.2 (λ z. c.in_default.not-Name (one_token _ Name z)) (λ z. c.in_default.not-If (one_token _ If z)) in
    let x = seen-there c.requires.0.inside c.requires.1 (λ z. omega (arith, k, z)) in
    let d = rw c.past.ensures at c.word.ensures in
    let w = worded SEMICOLON x.inside d in
    (statement_null c.requires.0.inside refl c.requires.1 k d, record { more = λ z. omega (arith, x.after, x.some, w.ahead) })

pub statements-returns-then-not-starts : goal.statements-returns-then-not-starts
statements-returns-then-not-starts t c = (
  c.loop-t.invariant.1 _ _ _ (statements-none c.loop-t.invariant.0.inside),
  record { none = λ z. ap (λ (u : Look). starter (kind_seen u)) (sym c.peek-t.ensures) ∙ sym c.starts.ensures ∙ c.if-not-starts.true },
)

pub statements-statement-requires : goal.statements-statement-requires
statements-statement-requires t c = (omega (arith, c.decreases), (c.loop-t.invariant.0, c.peek-t.ensures, sym c.starts.ensures ∙ c.if-not-starts.false))

pub statements-returns-in_err-p : goal.statements-returns-in_err-p
statements-returns-in_err-p t c =
    let d = c.in_err-p.ensures in
    let e = err_from_is_err_and c.from_residual.result c.from_residual.ensures.1 in (
      reads-ends c.from_residual.result _ c.from_residual.ensures.1 (c.loop-t.invariant.1 _ _ _ (statements_more d.0 (statements-none d.0.inside))),
      rw (e.1, e.2) (none-stops _ _ (numbered c.in_err-p.field-0.0)),
    )

pub statements-loop-t-smaller : goal.statements-loop-t-smaller
statements-loop-t-smaller t c = let d = c.in_ok-p.ensures in omega (arith, d.1.more refl, d.0.inside)

pub statements-loop-t-preserved : goal.statements-loop-t-preserved
statements-loop-t-preserved t c =
    let d = c.in_ok-p.ensures in
    (ready-reads c.loop-t.invariant.0 d.0, (λ q l v o. c.loop-t.invariant.1 q l v (statements_more d.0 o)), search rules)
