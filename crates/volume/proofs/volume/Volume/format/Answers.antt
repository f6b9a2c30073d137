use Rattle.volume.proofs.EmptyCatalogs.{empty_sound}
use Rattle.volume.proofs.volume.Volume.format.Goals as goal

pub returns-in-Ok-clause-sound : goal.returns-in-Ok-clause-sound
returns-in-Ok-clause-sound g c = empty_sound c.args.node (g.D.Disk.state c.args.disk).size c.args.slots c.args.blocks c.requires.sizes

pub returns-in-Err-clause-sound : goal.returns-in-Err-clause-sound
returns-in-Err-clause-sound g c = empty_sound c.args.node (g.D.Disk.state c.args.disk).size c.args.slots c.args.blocks c.requires.sizes
