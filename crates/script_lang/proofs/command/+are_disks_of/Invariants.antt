use Rattle.std.proofs.Common.{length}
use Rattle.script_lang.proofs.command.+are_disks_of.Given as goal

abbrev pub decreases-are_disks_of : goal.decreases-are_disks_of
decreases-are_disks_of l = length l.nodes.now
