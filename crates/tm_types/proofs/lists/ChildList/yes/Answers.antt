use Rattle.std.proofs.Common.{◌≡◌, List, map, refl, sym, ◌∙◌, true, false}
use Rattle.vms_base.specs.Ids.{serial_of}
use Rattle.vms_base.specs.vms_model.Ids.{Id}
use Rattle.tm_types.specs.Parts.{child_of}
use Rattle.tm_types.specs.declared.lists.Child.{Child}
use Rattle.commit_protocol.specs.Rows.{yes_of, is_yes}
use Rattle.tm_types.proofs.ListLemmas.{pushed, passed}
use Rattle.tm_types.proofs.lists.ChildList.yes.Goals as goal
use Rattle.tm_types.proofs.lists.ChildList.yes.Goals.{then-voted_yes, else-voted_yes}

pub loop-c-preserved : goal.loop-c-preserved
loop-c-preserved c =
    let F : List Child → List Id = λ cs. yes_of (map child_of cs) in
    let xs = c.items-c-items.result.now in
    let x = c.c-item.result in
    elim c.if-voted_yes.branch [
      | then-voted_yes w ↦
          let t = pushed serial_of F F (F xs) xs c.loop-c.c-index x c.loop-c.list c.if-voted_yes.list x.serial c.loop-c-test.true c.c-item.is c.loop-c.invariant.count c.loop-c.invariant.made (w.list-is ∙ w.push.ensures) (let e : is_yes (child_of x).vote ≡ true = sym c.voted_yes.ensures ∙ w.if-voted_yes.true in rw e refl) in
          record { count = t.count; made = t.made }
      | else-voted_yes w ↦
          let t = passed serial_of F F (F xs) xs c.loop-c.c-index x c.loop-c.list c.if-voted_yes.list c.loop-c-test.true c.c-item.is c.loop-c.invariant.count c.loop-c.invariant.made w.list-is (let e : is_yes (child_of x).vote ≡ false = sym c.voted_yes.ensures ∙ w.if-voted_yes.false in rw e refl) in
          record { count = t.count; made = t.made }
    ]
