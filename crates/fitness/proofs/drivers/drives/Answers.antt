-- `fitness::drivers::drives` meets its contract: the instructions below x are done.
-- Assumes nothing.
use Prim.Native.Nat.{◌≤◌, ◌<◌}
use mathlib.Core.Path.{◌≡◌, sym, subst}
use native.Mathlib.Omega.{arith}
use Rattle.laws.proofs.Deciding.{differ}
use Rattle.layout.proofs.Tables.{decode_table}
use Rattle.fitness.specs.Inside.Parts.{processes, instructions}
use Rattle.fitness.specs.Inside.Drivers.{Owned}
use Rattle.fitness.proofs.Reading.{rows-low, assignment-posts, posts-only, posts-signal, posts-nothing}
use Rattle.fitness.proofs.Owners.{own-skip, own-more, own-bad}
use Rattle.fitness.proofs.drivers.drives.Goals as goal
use Rattle.fitness.proofs.drivers.drives.Goals.{else-posts-via-then-posts+else-not-claim, else-posts-via-else-posts}

pub overflow_add-operation : goal.overflow_add-operation
overflow_add-operation c =
    let q = rows-low (decode_table c.args.words.now) (processes c.args.words.now) (instructions c.args.words.now) c.requires.ready.rows c.args.p c.requires.p_bound in
    omega (arith, c.requires.ready.few.few_instructions)

pub offset_bounds-words-x : goal.offset_bounds-words-x
offset_bounds-words-x c =
    let q = rows-low (decode_table c.args.words.now) (processes c.args.words.now) (instructions c.args.words.now) c.requires.ready.rows c.args.p c.requires.p_bound in
    omega (arith, c.requires.ready.few.few_instructions)

pub bounds-words-x : goal.bounds-words-x
bounds-words-x c =
    let q = rows-low (decode_table c.args.words.now) (processes c.args.words.now) (instructions c.args.words.now) c.requires.ready.rows c.args.p c.requires.p_bound in
    omega (arith, c.requires.ready.few.few_instructions, c.requires.ready.few.long)

pub claim-requires : goal.claim-requires
claim-requires c =
    let q = rows-low (decode_table c.args.words.now) (processes c.args.words.now) (instructions c.args.words.now) c.requires.ready.rows c.args.p c.requires.p_bound in
    omega (arith, c.loop-x.invariant.long, posts-signal c.args.words.now c.requires.ready c.loop-x.x (omega arith) (omega arith))

pub returns-then-not-claim : goal.returns-then-not-claim
returns-then-not-claim c =
    let w = c.args.words.now in
    let q = rows-low (decode_table w) (processes w) (instructions w) c.requires.ready.rows c.args.p c.requires.p_bound in
    let d = c.claim.ensures.taken c.if-not-claim.true in
    record {
      holds = λ z. differ (sym z);
      fails = λ z. own-bad (decode_table w) (processes w) (instructions w) c.args.p c.loop-x.x c.loop-x.own c.loop-x.invariant c.requires.ready.rows c.requires.p_bound (omega arith)
          (omega arith) _ (assignment-posts w c.requires.ready c.loop-x.x (omega arith) (omega arith)) d.0 d.1 d.2;
    }

pub loop-x-preserved : goal.loop-x-preserved
loop-x-preserved c =
    let w = c.args.words.now in
    let t = decode_table w in
    let n = processes w in
    let m = instructions w in
    let q = rows-low t n m c.requires.ready.rows c.args.p c.requires.p_bound in
    let l : c.loop-x.x < m = omega arith in
    elim c.else-posts.branch [
      | else-posts-via-then-posts+else-not-claim u ↦
          rw (u.own-is, u.claim.ensures.noted u.if-not-claim.false)
          (own-more t n m c.args.p c.loop-x.x c.loop-x.own c.loop-x.invariant c.requires.ready.rows c.requires.p_bound (omega arith) (omega arith) _
          (assignment-posts w c.requires.ready c.loop-x.x l (omega arith)) (posts-signal w c.requires.ready c.loop-x.x l (omega arith))
          (posts-only w c.requires.ready c.loop-x.x l (omega arith)) (u.claim.ensures.free u.if-not-claim.false))
      | else-posts-via-else-posts u ↦
          rw u.own-is (own-skip t n m c.args.p c.loop-x.x c.loop-x.own c.loop-x.invariant (posts-nothing w c.requires.ready c.loop-x.x l (λ e. omega arith)))
    ]

pub returns : goal.returns
returns c =
    let q = rows-low (decode_table c.args.words.now) (processes c.args.words.now) (instructions c.args.words.now) c.requires.ready.rows c.args.p c.requires.p_bound in
    let last : c.loop-x.x ≤ c.args.upto = c.loop-x.auto.x-end (omega arith) in
    let q : c.loop-x.x ≡ c.args.upto = omega arith in
    record {
      holds = λ z. subst (λ x. Owned (decode_table c.args.words.now) (processes c.args.words.now) x c.loop-x.own) q c.loop-x.invariant;
      fails = λ z. differ z;
    }
