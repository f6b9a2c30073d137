use Rattle.std.proofs.Common.{ap, ◌∙◌}
use Rattle.std.specs.FinMap.{len}
use Rattle.record_maps.proofs.MapLemmas.{len_told}
use Rattle.record_maps.proofs.map.RecordMap.len.Goals as goal

pub returns-clause-count : goal.returns-clause-count
returns-clause-count c = c.len.ensures.len ∙ len_told c.self.inside.map.entries c.len.ensures.ordered ∙ ap len c.self.view_is
