-- `words::vocabulary::code_of` meets its contract: the number so far is that of the bytes that have been read, from the end.
-- Assumes nothing.
use Rattle.std.proofs.Common.{arith, ◌+◌, ◌-◌, [], ◌∷◌, length}
use Rattle.std.proofs.lemmas.List.{length-append}
use Rattle.std.proofs.lemmas.Iterator.Consumers.{YieldsList-turn, YieldsList-end}
use Rattle.std.proofs.lemmas.Iterator.Adapters.{YieldsList-from_rev_slice}
use native.Mathlib.Numerals.{unary_clauses}
use Rattle.words.proofs.Rows.{code-back, code-none, code-whole, code_fits}
use Rattle.words.proofs.vocabulary.code_of.Goals as goal

pub loop-byte-init : goal.loop-byte-init
loop-byte-init c = simp unary_clauses (code-none c.args.word.now)

pub overflow_mul-code : goal.overflow_mul-code
overflow_mul-code c =
    let turn = YieldsList-turn (YieldsList-from_rev_slice c.args.word.now cc) c.loop-byte.yielded _ c.loop-byte.yielded_by _ _ _ c.in-Some.is c.next.ensures.steps in
    omega (arith, code-back c.args.word.now (length c.loop-byte.yielded) c.loop-byte.code c.in-Some.byte.now c.loop-byte.invariant turn, code_fits c.args.word.now (length c.args.word.now - (length c.loop-byte.yielded + 1)) c.requires)

pub overflow_add-code : goal.overflow_add-code
overflow_add-code c =
    let turn = YieldsList-turn (YieldsList-from_rev_slice c.args.word.now cc) c.loop-byte.yielded _ c.loop-byte.yielded_by _ _ _ c.in-Some.is c.next.ensures.steps in
    omega (arith, code-back c.args.word.now (length c.loop-byte.yielded) c.loop-byte.code c.in-Some.byte.now c.loop-byte.invariant turn, code_fits c.args.word.now (length c.args.word.now - (length c.loop-byte.yielded + 1)) c.requires)

pub loop-byte-preserved : goal.loop-byte-preserved
loop-byte-preserved c =
    let turn = YieldsList-turn (YieldsList-from_rev_slice c.args.word.now cc) c.loop-byte.yielded _ c.loop-byte.yielded_by _ _ _ c.in-Some.is c.next.ensures.steps in
    rw (length-append c.loop-byte.yielded (c.in-Some.byte ∷ []), c.letter.ensures.0) (code-back c.args.word.now (length c.loop-byte.yielded) c.loop-byte.code c.in-Some.byte.now c.loop-byte.invariant turn)

pub returns : goal.returns
returns c =
    let end = YieldsList-end (YieldsList-from_rev_slice c.args.word.now cc) c.loop-byte.yielded _ c.loop-byte.yielded_by _ _ c.in-None.is c.next.ensures.steps in
    code-whole c.args.word.now (length c.loop-byte.yielded) c.loop-byte.code c.loop-byte.invariant end.1
