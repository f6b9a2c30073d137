use Rattle.block_disk.specs.contracts.crash.CrashDiskDisk.TheImpl as disk
use Rattle.block_disk.specs.contracts.mem.MemPlatter as memory
use Rattle.block_disk.specs.contracts.mem.MemPlatterPlatter.TheImpl as platter
use Rattle.dtm_run.specs.Racks.{names_in, states_in}
use Rattle.dtm.proofs.DayLemmas.{all_told}
use Rattle.dtm.proofs.day.run_day_command.Goals as goal

pub returns-clause-ran : goal.returns-clause-ran
returns-clause-ran g c = record {
  rack = c.in_ok-rack.rack;
  nodes = c.in_ok-rack.ensures.names;
  blank = c.in_ok-rack.ensures.blank;
  begins = c.opening_nodes_exist.ensures.all (names_in c.in_ok-rack.rack) (states_in (disk.ghosts memory.the_row platter.ghosts platter.dict).state c.in_ok-rack.rack) (all_told (disk.ghosts memory.the_row platter.ghosts platter.dict).state c.in_ok-rack.rack.nodes.entries c.in_ok-rack.ensures.blank);
  names = c.run-exit.ensures.names;
  makes = c.run-exit.ensures.makes;
  made = c.run-exit.ensures.made;
  unread_day = c.run-exit.ensures.unread_day;
  usage = c.run-exit.ensures.usage;
  commanded = c.run-exit.ensures.commanded;
  unread = c.run-exit.ensures.unread;
  memory = c.run-exit.ensures.memory;
}
