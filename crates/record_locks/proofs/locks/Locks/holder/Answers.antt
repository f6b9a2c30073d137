use Rattle.std.proofs.Common.{option_map, sym, ap, ◌∙◌}
use Rattle.vms_base.specs.Ids.{serial_of}
use Rattle.vms_base.specs.Keys.{key_of}
use Rattle.record_locks.specs.Locks.{LockTable, holder}
use Rattle.record_locks.proofs.LockLemmas.{holder_found}
use Rattle.record_locks.proofs.locks.Locks.holder.Goals as goal

pub returns : goal.returns
returns c =
    ap (option_map serial_of) c.holder.ensures.holder ∙ sym (holder_found c.self.inside.log.held record { file = c.args.file; key = c.args.key.now } c.holder.ensures.distinct)
    ∙ ap (λ (t : LockTable). holder t.locks c.args.file (key_of c.args.key.now)) c.self.view_is
