use Rattle.std.proofs.Common.{◌≡◌, true, rules}
use Rattle.std.specs.Option.{option_map}
use Rattle.commit_protocol.specs.Table.{Prints, Ended}
use Rattle.tm_types.specs.Branches.{branch_of}
use Rattle.vms_base.specs.Outcomes.{reason_of}
use Rattle.tm_table.proofs.DoingLemmas.{did_by}
use Rattle.tm_table.proofs.table.Table.show_ended.Goals as goal

pub returns-in-Ending-clause-done : goal.returns-in-Ending-clause-done
returns-in-Ending-clause-done c =
    let b = branch_of c.args.b.now in
    let s = c.args.self.now in
    let reason = option_map reason_of c.args.reason in
    let e = did_by (Prints (Ended b.key.tid reason)) s c.push.new.self c.push.ensures.tm c.push.ensures.effects in
    let shown : c.args.shown ≡ true = search rules in
    rw (shown, c.in-Ending.is) e
