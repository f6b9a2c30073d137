use Rattle.std.proofs.Common.{◌≡◌, true, false, List, Option, Some, None, map, not, refl, ap, ◌∙◌, arith}
use Rattle.std.specs.Prelude.{is_some}
use Rattle.std.specs.Option.{option_map}
use Rattle.emitter_model.specs.commit_protocol.Rows.{is_noted}
use Rattle.net_wire.specs.Messages.{kind_of}
use Rattle.world_laws.specs.run_model.Answers.{missing}
use Rattle.tm_types.specs.Parts.{child_of}
use Rattle.tm_types.specs.declared.lists.Child.{Child}
use Rattle.tm_types.proofs.ListLemmas.{all_turned, passed, pushed}
use Rattle.vms_base.specs.Ids.{serial_of}
use Rattle.vms_base.specs.declared.protocol.Kind.{Kind}
use Rattle.vms_model.specs.Ids.{Id}
use Rattle.node_requests.proofs.transactions.missing.Goals as goal
use Rattle.node_requests.proofs.transactions.missing.Goals.{then-is_none, else-is_none}

noted_is : (o : Option Kind) → is_noted (option_map kind_of o) ≡ is_some o
noted_is None = refl
noted_is (Some k) = refl

pub loop-child-preserved : goal.loop-child-preserved
loop-child-preserved c =
    let F : List Child → List Id = λ cs. missing (map child_of cs) in
    let xs = c.items-child-items.result.now in
    let x = c.child-item.result in
    elim c.if-is_none.branch [
      | then-is_none w ↦
          let t = pushed serial_of F F (F xs) xs c.loop-child.child-index x c.loop-child.serials c.if-is_none.serials x.serial c.loop-child-test.true c.child-item.is c.loop-child.invariant.count c.loop-child.invariant.made (w.serials-is ∙ w.push.ensures) (let e : is_noted (child_of x).vote ≡ false = noted_is x.vote ∙ c.is_none.ensures ∙ ap not w.if-is_none.true in rw e refl) in
          record { count = t.count; made = t.made }
      | else-is_none w ↦
          let t = passed serial_of F F (F xs) xs c.loop-child.child-index x c.loop-child.serials c.if-is_none.serials c.loop-child-test.true c.child-item.is c.loop-child.invariant.count c.loop-child.invariant.made w.serials-is (let e : is_noted (child_of x).vote ≡ true = noted_is x.vote ∙ c.is_none.ensures ∙ ap not w.if-is_none.false in rw e refl) in
          record { count = t.count; made = t.made }
    ]

pub returns : goal.returns
returns c =
    let F : List Child → List Id = λ cs. missing (map child_of cs) in
    let xs = c.items-child-items.result.now in
    all_turned F (F xs) xs c.loop-child.child-index (map serial_of c.loop-child.serials) (omega arith) c.loop-child.invariant.made refl ∙ ap F c.items-child-items.ensures.value
