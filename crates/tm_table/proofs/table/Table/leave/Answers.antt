use Rattle.std.proofs.Common.{◌++◌, ◌∷◌, [], List, ap, ◌∙◌}
use Rattle.commit_protocol.specs.Table.{Leaves}
use Rattle.commit_protocol.specs.Effects.{Effect, ReadOnlyEffect}
use Rattle.tm_types.specs.Branches.{key_at}
use Rattle.vms_base.specs.Ids.{serial_of}
use Rattle.tm_table.proofs.DoingLemmas.{did_by}
use Rattle.tm_table.proofs.table.Table.leave.Goals as goal

pub returns-clause-done : goal.returns-clause-done
returns-clause-done c =
    did_by (Leaves (key_at c.args.tid.now c.args.serial.now)) c.args.self.now c.push.new.self (c.push.ensures.tm ∙ c.cut.ensures.tm) (c.push.ensures.effects ∙ ap (λ (es : List Effect). es ++ ReadOnlyEffect (serial_of c.args.serial.now) ∷ []) c.cut.ensures.effects)
