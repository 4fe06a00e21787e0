-- `emission::clear` meets its contract: the words that are filled are so many zeros. Assumes nothing.
use Rattle.emission.proofs.Filling.{front_filled}
use Rattle.emission.proofs.clear.Goals as goal

pub returns : goal.returns
returns c = front_filled 8387 c.args.table.now c.fill.new.self c.requires (c.fill.ensures.after (λ y e. e))
