-- `session::all_of` meets its contract: ones, shifted down. Assumes nothing.
use Rattle.session.proofs.Alls.{all_none, all_some}
use Rattle.session.proofs.all_of.Goals as goal

pub returns-then-n-eq0 : goal.returns-then-n-eq0
returns-then-n-eq0 c = all_none c.args.n c.if-n-eq0.true

pub returns : goal.returns
returns c = all_some c.args.n c.requires
