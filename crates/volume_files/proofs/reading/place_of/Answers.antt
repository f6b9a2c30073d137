use Rattle.std.proofs.Common.{Some}
use Rattle.vms_base.specs.vms_model.Keys.{Number}
use Rattle.volume_files.proofs.Walks.{each_in_front, for_each_key, one_in_front}
use Rattle.volume_files.proofs.reading.place_of.Goals as goal

pub returns-then-position-head-clause-begins : goal.returns-then-position-head-clause-begins
returns-then-position-head-clause-begins g c = each_in_front c.args.volume.now.store.current c.args.head.now c.first.result c.first.ensures

pub find_record-requires-clause-begins : goal.find_record-requires-clause-begins
find_record-requires-clause-begins g c = one_in_front c.args.volume.now.store.current c.args.head.now (Some (Number c.args.position)) c.first-place.result c.first-place.ensures

pub returns-in-Ok-clause-begins : goal.returns-in-Ok-clause-begins
returns-in-Ok-clause-begins g c = for_each_key c.args.volume.now.store.current c.args.head.now (Some (Number c.args.position)) c.find_record.new.place c.requires.sequential c.in-Ok.ensures.begins
