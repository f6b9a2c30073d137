use Rattle.std.proofs.Common.{sym, []}
use Rattle.vms_base.proofs.NameLemmas.{named-again}
use Rattle.vms_base.proofs.names.NodeName.new.Goals as goal

pub invariant_of-result : goal.invariant_of-result
invariant_of-result c = named-again 6 [] c.args.text.now _ (sym c.in-Some.ensures)
