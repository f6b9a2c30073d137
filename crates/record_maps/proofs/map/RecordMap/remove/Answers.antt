use Rattle.std.proofs.Common.{None, ◌∙◌}
use Rattle.vms_base.specs.Keys.{key_of}
use Rattle.records_model.specs.Records.{set_key}
use Rattle.record_maps.proofs.MapLemmas.{gone_told}
use Rattle.record_maps.proofs.map.RecordMap.remove.Goals as goal

pub returns : goal.returns
returns c = gone_told c.self.inside.map.entries c.remove.new.self.entries (record { key = c.args.key.now }) c.remove.ensures.updates.0 ∙ (λ i. set_key (c.self.view_is i) (key_of c.args.key.now) None)
