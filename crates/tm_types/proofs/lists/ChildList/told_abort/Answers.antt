use Rattle.std.proofs.Common.{◌≡◌, List, map, ap, refl, sym, ◌∙◌, true, false, not}
use Rattle.vms_base.specs.Ids.{serial_of}
use Rattle.vms_base.specs.vms_model.Ids.{Id}
use Rattle.tm_types.specs.Parts.{child_of, is_read_only}
use Rattle.tm_types.specs.declared.lists.Child.{Child}
use Rattle.tm_types.proofs.ListLemmas.{hearing, to_each_hearing, all_turned}
use Rattle.commit_protocol.specs.Rows.{to_each, told_abort}
use Rattle.commit_protocol.specs.Messages.{Abort}
use Rattle.std.proofs.Common.{arith}
use Rattle.tm_types.proofs.ListLemmas.{pushed, passed}
use Rattle.tm_types.proofs.lists.ChildList.told_abort.Goals as goal
use Rattle.tm_types.proofs.lists.ChildList.told_abort.Goals.{then-hears_abort, else-hears_abort}

pub loop-c-preserved : goal.loop-c-preserved
loop-c-preserved c =
    let F : List Child → List Id = λ cs. hearing (map child_of cs) in
    let xs = c.items-c-items.result.now in
    let x = c.c-item.result in
    elim c.if-hears_abort.branch [
      | then-hears_abort w ↦
          let t = pushed serial_of F F (F xs) xs c.loop-c.c-index x c.loop-c.list c.if-hears_abort.list x.serial c.loop-c-test.true c.c-item.is c.loop-c.invariant.count c.loop-c.invariant.made (w.list-is ∙ w.push.ensures) (let e : not (is_read_only (child_of x).vote) ≡ true = sym c.hears_abort.ensures ∙ w.if-hears_abort.true in rw e refl) in
          record { count = t.count; made = t.made }
      | else-hears_abort w ↦
          let t = passed serial_of F F (F xs) xs c.loop-c.c-index x c.loop-c.list c.if-hears_abort.list c.loop-c-test.true c.c-item.is c.loop-c.invariant.count c.loop-c.invariant.made w.list-is (let e : not (is_read_only (child_of x).vote) ≡ false = sym c.hears_abort.ensures ∙ w.if-hears_abort.false in rw e refl) in
          record { count = t.count; made = t.made }
    ]

pub returns : goal.returns
returns c = λ t.
    let F : List Child → List Id = λ cs. hearing (map child_of cs) in
    let xs = c.items-c-items.result.now in
    let e = all_turned F (F xs) xs c.loop-c.c-index (map serial_of c.loop-c.list) (omega arith) c.loop-c.invariant.made refl in
    ap (λ ss. to_each Abort t ss) e ∙ (to_each_hearing t (map child_of xs) ∙ ap (λ cs. told_abort t (map child_of cs)) c.items-c-items.ensures.value)
