use Rattle.std.proofs.Common.{◌∙◌}
use Rattle.vms_base.specs.Ids.{serial_of}
use Rattle.ru_journal.proofs.UnitLemmas.{any_key}
use Rattle.ru_journal.proofs.state.is_settled.Goals as goal

pub returns : goal.returns
returns c = c.contains.ensures ∙ any_key (serial_of c.args.serial.now) c.args.settled.now.keys
