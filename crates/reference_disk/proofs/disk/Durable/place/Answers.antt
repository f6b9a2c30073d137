use Rattle.std.proofs.Common.{ap, Some, List, Option}
use Rattle.std.specs.Option.{option_map}
use Rattle.std.proofs.lemmas.List.{map-set}
use Rattle.reference_index.specs.run_model.World as world
use Rattle.reference_world.specs.Standing.{file_of}
use Rattle.reference_disk.specs.Disks.{durable_of}
use Rattle.reference_disk.proofs.disk.Durable.place.Goals as goal

pub returns : goal.returns
returns c = ap (λ (fs : List (Option world.File)). record (durable_of c.args.self.now) { directory = fs }) (map-set (option_map file_of) c.args.self.now.directory.items c.args.place (Some c.args.file))
