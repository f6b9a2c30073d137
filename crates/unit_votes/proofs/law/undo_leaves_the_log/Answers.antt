use Rattle.unit_votes.proofs.Keeping.{undone_keeps}
use Rattle.unit_votes.proofs.law.undo_leaves_the_log.Goals as goal

pub returns : goal.returns
returns c = undone_keeps c.log_is_as_it_was_left.ensures.beside
