use Rattle.block_disk.specs.contracts.crash.CrashDiskDisk.TheImpl as disk
use Rattle.block_disk.specs.contracts.mem.MemPlatter as memory
use Rattle.block_disk.specs.contracts.mem.MemPlatterPlatter.TheImpl as platter
use Rattle.dtm.proofs.DayLemmas.{blank_pair}
use Rattle.dtm.proofs.day.blank_rack.Goals as goal

pub returns-clause-blank : goal.returns-clause-blank
returns-clause-blank c =
    blank_pair (disk.ghosts memory.the_row platter.ghosts platter.dict).state c.new-rack.result.nodes.entries c.add.new.self.nodes.entries c.add-2.new.self.nodes.entries _ _ c.new-rack.ensures.names c.in-Ok.ensures.added.1 c.in-Ok-add.ensures.added.1 c.in_ok-blank_disk.ensures c.in_ok-blank_disk-2.ensures
