-- `run::load` meets its contract: the cells are a part of the words. Assumes nothing.
use Rattle.run.proofs.Copying.{loaded}
use Rattle.run.proofs.load.Goals as goal

pub returns : goal.returns
returns c = loaded c.args.words.now c.copy_from_slice.new.self c.requires c.copy_from_slice.ensures.after
