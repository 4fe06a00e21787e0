-- `emission::start_values` meets its contract: the loop has written a one for each signal passed. Assumes nothing.
use Prim.Native.Nat.{ℕ, suc, ◌+◌, ◌-◌}
use mathlib.Core.Path.{◌≡◌, ap, ◌∙◌}
use native.Mathlib.Omega.{arith}
use mathlib.Core.List.{List}
use lib.ListN.{set}
use Rattle.emission.specs.Inside.Draft.{ones}
use Rattle.emission.proofs.Filling.{ones_more}
use borrow.Author.Tests.{le-ltb}
use Rattle.look.specs.declared.token.Token.TheVariants.{True}
use Rattle.look.specs.Inside.Tokens.{number_of}
use Rattle.look.proofs.Tokens.{ne-same}
use Rattle.emission.proofs.start_values.Goals as goal

pub loop-k-init : goal.loop-k-init
unfolding ones
loop-k-init c = let e : c.args.from - c.args.from ≡ 0 = omega arith in (omega arith, rw e)

pub loop-k-preserved : goal.loop-k-preserved
loop-k-preserved c =
    let from = c.args.from in
    let l = c.loop-k in
    let e : l.k + 1 - from ≡ suc (l.k - from) = omega arith in
    let g : 3 + from + (l.k - from) ≡ 3 + l.k = omega arith in (
      omega arith,
      c.write.ensures
          ∙ ap (λ (t : List ℕ). set t (3 + l.k) 1) l.invariant.1
          ∙ rw (← g, e) (ones_more c.args.table.now (3 + from) (l.k - from)),
    )

pub returns : goal.returns
returns c =
    let a = c.args in
    let g : c.loop-k.k - a.from ≡ a.to - a.from = omega arith in
    let e : number_of a.word ≡ 22 = ne-same a.word True c.if-ne.ensures in
    rw (e, le-ltb 64 a.to c.if-to-gt64.false, ← g) c.loop-k.invariant.1
