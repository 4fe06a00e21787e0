-- `session::Session::post` meets its contract: it is the post on the cells. Assumes nothing.
use Rattle.session.proofs.Methods.{method_posts}
use Rattle.session.proofs.Session.post.Goals as goal

pub returns-clause-posted : goal.returns-clause-posted
returns-clause-posted c = method_posts _ _ _ c.args.signal c.args.time _ _ c.post-answer.new.cells c.requires.fit_held c.requires.signal_lt_count c.post-answer.ensures.posted
