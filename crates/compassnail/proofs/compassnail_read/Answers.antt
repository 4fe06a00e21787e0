-- `compassnail::compassnail_read` meets its contract: the reader's answer, as a number.
-- Assumes nothing.
use Rattle.compassnail.proofs.Texts.{unread_fits, read_in_c, unread_in_c}
use Rattle.compassnail.proofs.compassnail_read.Goals as goal

pub refused_at-requires : goal.refused_at-requires
refused_at-requires c = (unread_fits _ _ _ _ c.read.ensures c.in-Err.is).1

pub returns-in-Ok : goal.returns-in-Ok
returns-in-Ok c = read_in_c _ _ _ _ c.read.ensures c.in-Ok.is

pub returns-in-Err : goal.returns-in-Err
returns-in-Err c = unread_in_c _ _ _ _ c.read.ensures c.in-Err.is c.refused_at.ensures
