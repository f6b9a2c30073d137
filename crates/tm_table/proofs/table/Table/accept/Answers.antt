use Rattle.std.proofs.Common.{◌++◌, ◌∷◌, [], List, map, ap, ◌∙◌}
use Rattle.commit_protocol.specs.Table.{Notes, Accepts, Prepares, Settles, Leaves, Sends, Prints, Started, Ended, Told, Tm, after_act, add_record}
use Rattle.commit_protocol.specs.Table as table
use Rattle.commit_protocol.specs.Effects.{Effect, JoinedEffect}
use Rattle.tm_types.specs.Branches.{branch_of}
use Rattle.tm_types.specs.Parts.{child_of}
use Rattle.vms_base.specs.Ids.{serial_of}
use Rattle.tm_types.specs.declared.lists.Child.{Child}
use Rattle.tm_table.proofs.DoingLemmas.{did_by}
use Rattle.tm_types.proofs.ListLemmas.{map_push}
use Rattle.tm_table.proofs.table.Table.accept.Goals as goal

pub returns-clause-done : goal.returns-clause-done
returns-clause-done c =
    let b = branch_of c.args.b.now in
    let s = c.args.self.now in
    let G : List table.Child → Tm = λ cs. after_act (Notes (record b { accepted = cs })) s.tm in
    let pushed = ap (λ (cs : List Child). map child_of cs) c.push.ensures ∙ map_push child_of c.args.b.now.accepted c.args.child in
    did_by (Accepts b (child_of c.args.child)) s c.push-2.new.self (c.push-2.ensures.tm ∙ (c.put.ensures.tm ∙ ap G pushed)) (c.push-2.ensures.effects ∙ ap (λ (es : List Effect). es ++ JoinedEffect (serial_of c.args.child.serial) ∷ []) c.put.ensures.effects)
