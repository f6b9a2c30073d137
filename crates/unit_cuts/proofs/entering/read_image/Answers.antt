-- A walk to the record begins at its place.
use Rattle.std.proofs.Common.{Some}
use Rattle.vms_base.specs.Keys.{key_of}
use Rattle.unit_cuts.proofs.CutEntering.{begins_of}
use Rattle.unit_cuts.proofs.entering.read_image.Goals as goal

pub find_record-requires-clause-begins : goal.find_record-requires-clause-begins
find_record-requires-clause-begins g c = begins_of c.args.cut.now.head c.args.volume.now c.place_at-place.result c.args.room.now.places (Some (key_of c.key-key.result)) c.place_at-place.ensures c.requires.places
