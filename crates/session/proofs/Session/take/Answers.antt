-- `session::Session::take` meets its contract: it is the taking on the cells. Assumes nothing.
use Rattle.session.proofs.Methods.{method_takes}
use Rattle.session.proofs.Session.take.Goals as goal

pub returns : goal.returns
returns c = method_takes c.args.table.now c.args.self.count c.args.self.time c.args.self.cells c.take_all-t.new.cells c.requires.count_value c.args.time c.take_all-t.result.woken c.take_all-t.result.events c.take_all-t.ensures
