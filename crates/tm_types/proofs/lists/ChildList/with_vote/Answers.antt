use Rattle.std.proofs.Common.{Some, ◌≡◌, List, map, refl, sym, ◌∙◌, true, false, Bool, rules}
use Rattle.vms_base.specs.Ids.{serial_of}
use Rattle.net_wire.specs.Messages.{kind_of}
use Rattle.commit_protocol.specs.Table as table
use Rattle.commit_protocol.specs.Rows.{note_vote, lacks_vote}
use Rattle.tm_types.specs.Parts.{child_of}
use Rattle.tm_types.specs.declared.lists.Child.{Child}
use Rattle.tm_types.proofs.ListLemmas.{pushed, unless_noted}
use Rattle.tm_types.proofs.lists.ChildList.with_vote.Goals as goal
use Rattle.tm_types.proofs.lists.ChildList.with_vote.Goals.{then-not-noted+then-lacks_its_vote, else-not-noted, else-not-noted-via-then-not-noted+else-lacks_its_vote, else-not-noted-via-else-not-noted}

pub loop-c-preserved : goal.loop-c-preserved
loop-c-preserved c =
    let s = serial_of c.args.serial.now in
    let v = kind_of c.args.vote in
    let F : Bool → List Child → List table.Child = λ noted cs. unless_noted noted (note_vote s v) (map child_of cs) in
    let xs = c.items-c-items.result.now in
    let x = c.c-item.result in
    let whole : List table.Child = note_vote s v (map child_of xs) in
    elim c.if-not-noted.branch [
      | then-not-noted+then-lacks_its_vote w ↦
          let before : c.loop-c.noted ≡ false = search rules in
          let lacks : lacks_vote s (child_of x) ≡ true = sym w.lacks_its_vote.ensures ∙ w.if-lacks_its_vote.true in
          let t = pushed child_of (F c.loop-c.noted) (F c.if-not-noted.noted) whole xs c.loop-c.c-index x c.loop-c.list c.if-not-noted.list (record x { vote = Some c.args.vote }) c.loop-c-test.true c.c-item.is c.loop-c.invariant.count c.loop-c.invariant.made (w.list-is ∙ w.push.ensures) (rw (before, w.noted-is, lacks) refl) in
          record { count = t.count; made = t.made }
      | else-not-noted w ↦ elim w.else-not-noted.branch [
        | else-not-noted-via-then-not-noted+else-lacks_its_vote w' ↦
            let before : c.loop-c.noted ≡ false = search rules in
            let lacks : lacks_vote s (child_of x) ≡ false = sym w'.lacks_its_vote.ensures ∙ w'.if-lacks_its_vote.false in
            let t = pushed child_of (F c.loop-c.noted) (F c.if-not-noted.noted) whole xs c.loop-c.c-index x c.loop-c.list c.if-not-noted.list x c.loop-c-test.true c.c-item.is c.loop-c.invariant.count c.loop-c.invariant.made (w.list-is ∙ w.push-else-not-noted.ensures) (rw (w.noted-is, before, lacks) refl) in
            record { count = t.count; made = t.made }
        | else-not-noted-via-else-not-noted w' ↦
            let before : c.loop-c.noted ≡ true = search rules in
            let t = pushed child_of (F c.loop-c.noted) (F c.if-not-noted.noted) whole xs c.loop-c.c-index x c.loop-c.list c.if-not-noted.list x c.loop-c-test.true c.c-item.is c.loop-c.invariant.count c.loop-c.invariant.made (w.list-is ∙ w.push-else-not-noted.ensures) (rw (w.noted-is, before) refl) in
            record { count = t.count; made = t.made }
      ]
    ]
