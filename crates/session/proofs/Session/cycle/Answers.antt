-- `session::Session::cycle` meets its contract: it is the cycle on the cells. Assumes nothing.
use Rattle.session.proofs.Methods.{method_cycles}
use Rattle.session.proofs.Session.cycle.Goals as goal

pub returns : goal.returns
returns c = method_cycles c.args.machine.now.table.now c.args.self.count c.args.self.time c.args.self.cells c.cycle-went.new.cells c.requires.count_value c.args.time c.args.already c.cycle-went.result.ran c.cycle-went.result.events c.cycle-went.ensures
