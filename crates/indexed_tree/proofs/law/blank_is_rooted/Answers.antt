use Rattle.indexed_tree.proofs.LocalLaws.{blank_is_rooted}
use Rattle.indexed_tree.proofs.law.blank_is_rooted.Goals as goal

pub returns : goal.returns
returns c = blank_is_rooted
