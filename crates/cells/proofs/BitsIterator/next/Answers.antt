-- `cells::Bits::next` meets its contract: without its lowest bit a word is less. Assumes nothing.
use native.Mathlib.Omega.{arith}
use Rattle.cells.proofs.Walks.{less-lowest}
use Rattle.cells.proofs.BitsIterator.next.Goals as goal

pub returns-clause-goes : goal.returns-clause-goes
returns-clause-goes c =
    let less = less-lowest c.args.self.now.0 (omega (arith, c.if-self-eq0.false)) (omega arith) in
    rw c.one.ensures (record { on = λ f. (tt, tt, less); keeps = tt; rests = λ f. tt })
