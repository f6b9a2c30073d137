use Rattle.std.proofs.Common.{◌≡◌, List, map, refl, sym, ◌∙◌, true, false, rules}
use Rattle.vms_base.specs.Ids.{serial_of}
use Rattle.commit_protocol.specs.Table as table
use Rattle.tm_types.specs.Parts.{child_of}
use Rattle.tm_types.specs.declared.lists.Child.{Child}
use Rattle.commit_protocol.specs.Rows.{others}
use Rattle.commit_protocol.specs.Messages.{same_id}
use Rattle.tm_types.proofs.ListLemmas.{pushed, passed}
use Rattle.tm_types.proofs.lists.ChildList.others.Goals as goal
use Rattle.tm_types.proofs.lists.ChildList.others.Goals.{then-not-same_id, else-not-same_id}

pub loop-c-preserved : goal.loop-c-preserved
loop-c-preserved c =
    let F : List Child → List table.Child = λ cs. others (serial_of c.args.serial.now) (map child_of cs) in
    let xs = c.items-c-items.result.now in
    let x = c.c-item.result in
    elim c.if-not-same_id.branch [
      | then-not-same_id w ↦
          let t = pushed child_of F F (F xs) xs c.loop-c.c-index x c.loop-c.list c.if-not-same_id.list x c.loop-c-test.true c.c-item.is c.loop-c.invariant.count c.loop-c.invariant.made (w.list-is ∙ w.push.ensures) (let e : same_id (serial_of x.serial) (serial_of c.args.serial.now) ≡ false = let h : c.same_id.result ≡ false = search rules in sym c.same_id.ensures ∙ h in rw e refl) in
          record { count = t.count; made = t.made }
      | else-not-same_id w ↦
          let t = passed child_of F F (F xs) xs c.loop-c.c-index x c.loop-c.list c.if-not-same_id.list c.loop-c-test.true c.c-item.is c.loop-c.invariant.count c.loop-c.invariant.made w.list-is (let e : same_id (serial_of x.serial) (serial_of c.args.serial.now) ≡ true = let h : c.same_id.result ≡ true = search rules in sym c.same_id.ensures ∙ h in rw e refl) in
          record { count = t.count; made = t.made }
    ]
