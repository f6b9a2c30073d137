use Rattle.std.proofs.Common.{◌≡◌, List, map, refl, sym, ◌∙◌, true, false, rules}
use Rattle.vms_base.specs.Ids.{serial_of}
use Rattle.vms_base.specs.declared.ids.Serial.{Serial}
use Rattle.vms_base.specs.vms_model.Ids.{Id}
use Rattle.commit_protocol.specs.Messages.{same_id}
use Rattle.commit_protocol.specs.Table.{without}
use Rattle.tm_types.proofs.ListLemmas.{pushed, passed}
use Rattle.tm_types.proofs.records.without_serial.Goals as goal
use Rattle.tm_types.proofs.records.without_serial.Goals.{then-not-same_id, else-not-same_id}

pub loop-s-preserved : goal.loop-s-preserved
loop-s-preserved c =
    let F : List Serial → List Id = λ xs. without (serial_of c.args.serial.now) (map serial_of xs) in
    let xs = c.items-s-items.result.now in
    let x = c.s-item.result in
    elim c.if-not-same_id.branch [
      | then-not-same_id w ↦
          let e : same_id (serial_of x) (serial_of c.args.serial.now) ≡ false = let h : c.same_id.result ≡ false = search rules in sym c.same_id.ensures ∙ h in
          let t = pushed serial_of F F (F xs) xs c.loop-s.s-index x c.loop-s.list c.if-not-same_id.list x c.loop-s-test.true c.s-item.is c.loop-s.invariant.count c.loop-s.invariant.made (w.list-is ∙ w.push.ensures) (rw e refl) in
          record { count = t.count; made = t.made }
      | else-not-same_id w ↦
          let e : same_id (serial_of x) (serial_of c.args.serial.now) ≡ true = let h : c.same_id.result ≡ true = search rules in sym c.same_id.ensures ∙ h in
          let t = passed serial_of F F (F xs) xs c.loop-s.s-index x c.loop-s.list c.if-not-same_id.list c.loop-s-test.true c.s-item.is c.loop-s.invariant.count c.loop-s.invariant.made w.list-is (rw e refl) in
          record { count = t.count; made = t.made }
    ]
