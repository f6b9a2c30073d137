-- A walk begins at the front.
use Rattle.std.proofs.Common.{Some}
use Rattle.vms_base.specs.Keys.{key_of}
use Rattle.volume_files.proofs.Walks.{one_in_front}
use Rattle.key_changes.proofs.changing.read_before.Goals as goal

pub find_record-requires-clause-begins : goal.find_record-requires-clause-begins
find_record-requires-clause-begins g c = one_in_front c.args.volume.now.store.current c.args.asked.now.head (Some (key_of c.args.asked.now.key)) c.first-place.result c.first-place.ensures
