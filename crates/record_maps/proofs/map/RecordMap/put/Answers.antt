use Rattle.std.proofs.Common.{Some, ◌∙◌}
use Rattle.vms_base.specs.Keys.{key_of}
use Rattle.records_model.specs.Records.{set_key}
use Rattle.record_maps.proofs.MapLemmas.{put_told}
use Rattle.record_maps.proofs.map.RecordMap.put.Goals as goal

pub returns-clause-put : goal.returns-clause-put
returns-clause-put c = put_told c.self.inside.map.entries c.insert.new.self.entries (record { key = c.args.key.now }) c.in_ok-bytes.bytes c.in_ok-insert.ensures.updates.0 ∙
    (λ i. set_key (c.self.view_is i) (key_of c.args.key.now) (Some ((c.in_ok-bytes.ensures.items ∙ c.bytes.ensures.value) i)))
