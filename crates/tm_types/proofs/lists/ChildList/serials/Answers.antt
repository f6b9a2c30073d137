use Rattle.std.proofs.Common.{List, map, refl}
use Rattle.vms_base.specs.Ids.{serial_of}
use Rattle.vms_base.specs.vms_model.Ids.{Id}
use Rattle.tm_types.specs.Parts.{child_of}
use Rattle.tm_types.specs.declared.lists.Child.{Child}
use Rattle.commit_protocol.specs.Rows.{serials}
use Rattle.tm_types.proofs.ListLemmas.{pushed}
use Rattle.tm_types.proofs.lists.ChildList.serials.Goals as goal

pub loop-c-preserved : goal.loop-c-preserved
loop-c-preserved c =
    let F : List Child → List Id = λ cs. serials (map child_of cs) in
    let xs = c.items-c-items.result.now in
    let t = pushed serial_of F F (F xs) xs c.loop-c.c-index c.c-item.result c.loop-c.list c.push.new.self c.c-item.result.serial c.loop-c-test.true c.c-item.is c.loop-c.invariant.count c.loop-c.invariant.made c.push.ensures refl in
    record { count = t.count; made = t.made }
