-- The readers of expressions meet their contracts: each return by its law. The nesting room falls along the cycle.
-- Assumes nothing.
use Rattle.look.proofs.Looks.{seen-there}
use Rattle.reading.proofs.Generic.{numbered, word-off, reads-stays, reads-ends, ready-token, ready-pass, ready-reads, ready_at}
use Rattle.expressions.proofs.Expressions.{primary-none, primary-deep, primary_bracket, factor-plain, factor-not, expression_then, tail-not, tail-once, tail-refused, tail-chain, chain-none, chain_more}
use mathlib.Core.Path.{refl, sym, ap, ◌∙◌}
use Rattle.look.specs.declared.token.Token.TheVariants.{Name, True, False, Open, Not}
use Rattle.look.specs.Inside.Looks.{kind_seen}
use Rattle.look.specs.Inside.Tokens.{number_of}
use Rattle.look.proofs.Tokens.{one_token, ne-same, ne-other, bounds, under}
use native.Mathlib.Omega.{arith}
use borrow.Author.Rules.{rules}
use Rattle.expressions.proofs.+chain_expression_factor_primary_tail.Goals as goal

pub expression-factor-requires : goal.expression-factor-requires
expression-factor-requires t c = (omega (arith, c.decreases), c.requires)

pub expression-returns-in_err-q : goal.expression-returns-in_err-q
expression-returns-in_err-q t c = reads-ends c.from_residual.result _ c.from_residual.ensures.1 (expression_then c.in_err-q.ensures (reads-stays _ c.in_err-q.ensures.inside (numbered c.in_err-q.field-0.0)))

pub expression-tail-requires : goal.expression-tail-requires
expression-tail-requires t c = (omega (arith, c.decreases), ready-reads c.requires c.in_ok-q.ensures)

pub expression-returns : goal.expression-returns
expression-returns t c = expression_then c.in_ok-q.ensures c.tail.ensures

pub factor-primary-requires : goal.factor-primary-requires
factor-primary-requires t c = (omega (arith, c.decreases), c.requires)

pub chain-returns-then-ne : goal.chain-returns-then-ne
chain-returns-then-ne t c = c.loop-joint.invariant.1 _ _ _ (chain-none c.loop-joint.invariant.0.inside refl c.peek-t.ensures c.requires.1 c.requires.2 (ne-other c.peek-t.result.token c.args.joint c.if-ne.ensures))

pub chain-factor-requires : goal.chain-factor-requires
chain-factor-requires t c = (omega (arith, c.decreases), rw c.past.ensures (ready-token c.loop-joint.invariant.0 refl c.peek-t.ensures (λ z. omega (arith, (ne-same c.peek-t.result.token c.args.joint c.if-ne.ensures), c.requires.2, z)) (c.count.ensures c.args.text.now)))

pub chain-returns-in_err-q : goal.chain-returns-in_err-q
chain-returns-in_err-q t c =
    let d = rw c.past.ensures at c.in_err-q.ensures in
    reads-ends c.from_residual.result _ c.from_residual.ensures.1 (c.loop-joint.invariant.1 _ _ _ (chain_more c.loop-joint.invariant.0.inside refl c.peek-t.ensures c.requires.1 c.requires.2 (ne-same c.peek-t.result.token c.args.joint c.if-ne.ensures) (c.count.ensures c.args.text.now) d refl refl refl (reads-stays _ d.inside (numbered c.in_err-q.field-0.0))))

pub chain-loop-joint-smaller : goal.chain-loop-joint-smaller
chain-loop-joint-smaller t c =
    let x = seen-there c.loop-joint.invariant.0.inside c.peek-t.ensures (λ z. omega (arith, (ne-same c.peek-t.result.token c.args.joint c.if-ne.ensures), c.requires.2, z)) in
    let d = rw c.past.ensures at c.in_ok-q.ensures in
    omega (arith, x.after, x.some, d.ahead, d.inside)

pub chain-loop-joint-preserved : goal.chain-loop-joint-preserved
chain-loop-joint-preserved t c =
    let d = rw c.past.ensures at c.in_ok-q.ensures in (
      ready_at (ready-reads (ready-token c.loop-joint.invariant.0 refl c.peek-t.ensures (λ z. omega (arith, (ne-same c.peek-t.result.token c.args.joint c.if-ne.ensures), c.requires.2, z)) (c.count.ensures c.args.text.now)) d),
      λ q l v o. c.loop-joint.invariant.1 q l v (chain_more c.loop-joint.invariant.0.inside refl c.peek-t.ensures c.requires.1 c.requires.2 (ne-same c.peek-t.result.token c.args.joint c.if-ne.ensures) (c.count.ensures c.args.text.now) d c.emit-next.ensures.0 c.binary.ensures c.emit-next.ensures.1 o),
      search rules,
    )

pub factor-returns-then-ne : goal.factor-returns-then-ne
factor-returns-then-ne t c = factor-plain c.requires.inside refl c.peek-t.ensures (ne-other c.peek-t.result.token Not c.if-ne.ensures) c.primary.ensures

pub factor-primary-requires-2 : goal.factor-primary-requires-2
factor-primary-requires-2 t c = (omega (arith, c.decreases), rw c.past.ensures (ready-token c.requires refl c.peek-t.ensures (λ z. omega (arith, (ne-same c.peek-t.result.token Not c.if-ne.ensures), z)) (c.count.ensures c.args.text.now)))

pub factor-returns-in_err-q : goal.factor-returns-in_err-q
factor-returns-in_err-q t c = reads-ends c.from_residual.result _ c.from_residual.ensures.1 (factor-not c.requires.inside refl c.peek-t.ensures (ne-same c.peek-t.result.token Not c.if-ne.ensures) (c.count.ensures c.args.text.now) (rw c.past.ensures at c.in_err-q.ensures) refl refl)

pub factor-returns : goal.factor-returns
factor-returns t c = factor-not c.requires.inside refl c.peek-t.ensures (ne-same c.peek-t.result.token Not c.if-ne.ensures) (c.count.ensures c.args.text.now) (rw c.past.ensures at c.in_ok-q.ensures) c.emit-next.ensures.0 c.emit-next.ensures.1

pub primary-returns-then-room-eq0 : goal.primary-returns-then-room-eq0
primary-returns-then-room-eq0 t c = primary-deep c.requires.inside refl c.peek-t.ensures _ (ap number_of c.in-Open.is) c.if-room-eq0.true

pub primary-expression-requires : goal.primary-expression-requires
primary-expression-requires t c = (omega (arith, c.decreases, c.if-room-eq0.false), rw c.past.ensures (ready-pass c.requires refl c.peek-t.ensures (λ z. omega (arith, (ap number_of c.in-Open.is), z))))

pub primary-returns-in_err-q-in-Open : goal.primary-returns-in_err-q-in-Open
primary-returns-in_err-q-in-Open t c =
    let d = rw c.past.ensures at c.in_err-q-in-Open.ensures in
    reads-ends c.from_residual.result _ c.from_residual.ensures.1 (primary_bracket c.requires.inside refl c.peek-t.ensures (ap number_of c.in-Open.is) c.if-room-eq0.false d (word-off _ _ _ (numbered c.in_err-q-in-Open.field-0.0)))

pub primary-returns-in_ok-q-in-Open : goal.primary-returns-in_ok-q-in-Open
primary-returns-in_ok-q-in-Open t c = primary_bracket c.requires.inside refl c.peek-t.ensures (ap number_of c.in-Open.is) c.if-room-eq0.false (rw c.past.ensures at c.in_ok-q-in-Open.ensures) c.word.ensures

pub primary-returns-in_default : goal.primary-returns-in_default
primary-returns-in_default t c =
    let n = c.in_default in
    primary-none c.requires.inside refl c.peek-t.ensures _ (λ z. n.not-Name (one_token _ Name z)) (λ z. n.not-True (one_token _ True z)) (λ z. n.not-False (one_token _ False z)) (λ z. n.not-Open (one_token _ Open z))

pub tail-returns-then-not-joins : goal.tail-returns-then-not-joins
tail-returns-then-not-joins t c = tail-not c.requires.inside refl c.peek-t.ensures (sym c.joins.ensures ∙ c.if-not-joins.true)

pub tail-factor-requires : goal.tail-factor-requires
tail-factor-requires t c = (omega (arith, c.decreases), rw c.past.ensures (ready-token c.requires refl c.peek-t.ensures (λ z. omega (arith, (bounds 16 21 (kind_seen c.peek-t.result) (sym c.joins.ensures ∙ c.if-not-joins.false)).1, z)) (c.count.ensures c.args.text.now)))

pub tail-returns-in_err-q : goal.tail-returns-in_err-q
tail-returns-in_err-q t c = reads-ends c.from_residual.result _ c.from_residual.ensures.1 (tail-refused c.requires.inside refl c.peek-t.ensures _ (bounds 16 21 (kind_seen c.peek-t.result) (sym c.joins.ensures ∙ c.if-not-joins.false)).0 (bounds 16 21 (kind_seen c.peek-t.result) (sym c.joins.ensures ∙ c.if-not-joins.false)).1 (c.count.ensures c.args.text.now) (rw c.past.ensures at c.in_err-q.ensures))

pub tail-returns-then-not-chains : goal.tail-returns-then-not-chains
tail-returns-then-not-chains t c = tail-once c.requires.inside refl c.peek-t.ensures (bounds 16 21 (kind_seen c.peek-t.result) (sym c.joins.ensures ∙ c.if-not-joins.false)).0 (under 18 21 (kind_seen c.peek-t.result) (sym c.chains.ensures ∙ c.if-not-chains.true) (bounds 16 21 (kind_seen c.peek-t.result) (sym c.joins.ensures ∙ c.if-not-joins.false)).1) (c.count.ensures c.args.text.now) (rw c.past.ensures at c.in_ok-q.ensures) c.emit-next.ensures.0 c.binary.ensures c.emit-next.ensures.1

pub tail-chain-requires : goal.tail-chain-requires
tail-chain-requires t c = (omega (arith, c.decreases), (ready_at (ready-reads (ready-token c.requires refl c.peek-t.ensures (λ z. omega (arith, (bounds 16 21 (kind_seen c.peek-t.result) (sym c.joins.ensures ∙ c.if-not-joins.false)).1, z)) (c.count.ensures c.args.text.now)) (rw c.past.ensures at c.in_ok-q.ensures)), (bounds 18 21 (kind_seen c.peek-t.result) (sym c.chains.ensures ∙ c.if-not-chains.false)).0, (bounds 16 21 (kind_seen c.peek-t.result) (sym c.joins.ensures ∙ c.if-not-joins.false)).1))

pub tail-returns : goal.tail-returns
tail-returns t c = tail-chain c.requires.inside refl c.peek-t.ensures (bounds 18 21 (kind_seen c.peek-t.result) (sym c.chains.ensures ∙ c.if-not-chains.false)).0 (bounds 16 21 (kind_seen c.peek-t.result) (sym c.joins.ensures ∙ c.if-not-joins.false)).1 (c.count.ensures c.args.text.now) (rw c.past.ensures at c.in_ok-q.ensures) c.emit-next.ensures.0 c.binary.ensures c.emit-next.ensures.1 c.chain.ensures
