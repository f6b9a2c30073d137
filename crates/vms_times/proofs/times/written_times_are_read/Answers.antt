use Rattle.vms_times.proofs.TimeLemmas.{written_is_read}
use Rattle.vms_times.proofs.times.written_times_are_read.Goals as goal

pub returns : goal.returns
returns c = written_is_read
