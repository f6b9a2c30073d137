use Rattle.std.proofs.Common.{is_some, refl}
use Rattle.dtm_node.proofs.node.format_place.Goals as goal

pub returns-clause-formats : goal.returns-clause-formats
returns-clause-formats g c = rw c.in-Down.is (refl, c.format-disk.ensures.formats (is_some c.in-Down.parts))
