use Rattle.std.proofs.Common.{◌∙◌}
use Rattle.vms_base.specs.Ids.{id_of}
use Rattle.reference_world.specs.Standing.{file_of}
use Rattle.reference_recovery.proofs.RoomLemmas.{no_change, some_change}
use Rattle.reference_recovery.proofs.room.images_full.Goals as goal

pub returns-in-empty : goal.returns-in-empty
returns-in-empty c = no_change (id_of c.args.serial.now) c.args.changes.now (file_of c.args.file.now) c.in-empty.len_below

pub returns-in-len1-up : goal.returns-in-len1-up
returns-in-len1-up c = c.first_full.ensures ∙ some_change (id_of c.args.serial.now) c.args.changes.now (file_of c.args.file.now) c.in-len1-up.len_at_least
