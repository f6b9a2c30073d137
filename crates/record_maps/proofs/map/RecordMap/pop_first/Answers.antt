use Rattle.std.proofs.Common.{ap, sym, ◌∙◌}
use Rattle.std.specs.FinMap.{entries}
use Rattle.record_maps.proofs.MapLemmas.{entries_popped}
use Rattle.record_maps.proofs.map.RecordMap.pop_first.Goals as goal

pub returns-clause-some : goal.returns-clause-some
returns-clause-some c = ap entries (sym c.self.view_is) ∙
    entries_popped c.self.inside.map.entries c.pop_first.new.self.entries (c.in-Some.ordered, c.in-Some.bytes) c.len-count.ensures.ordered c.pop_first.ensures.ordered (rw (c.in-Some.ordered-is, c.in-Some.bytes-is) at c.in-Some.ensures.removal)
