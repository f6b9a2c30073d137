use Rattle.std.proofs.Common.{◌≡◌, ◌+◌, Bool, true, false, List, map, drop, refl, ap, sym, ◌∙◌}
use Rattle.std.specs.List.{list_any}
use Rattle.commit_protocol.specs.Messages.{same_id}
use Rattle.vms_base.specs.Ids.{serial_of}
use Rattle.vms_base.specs.declared.ids.Serial.{Serial}
use Rattle.tm_types.proofs.ListLemmas.{stepped}
use Rattle.tm_types.proofs.records.has_serial.Goals as goal

pub returns-then-same_id : goal.returns-then-same_id
returns-then-same_id c =
    let F : List Serial → Bool = λ xs. list_any (λ y. same_id y (serial_of c.args.serial.now)) (map serial_of xs) in
    let xs = c.items-s-items.result.now in
    let x = c.s-item.result in
    let e : same_id (serial_of x) (serial_of c.args.serial.now) ≡ true = sym c.same_id.ensures ∙ c.if-same_id.true in
    stepped F (F xs) xs c.loop-s.s-index x true c.loop-s-test.true c.s-item.is c.loop-s.invariant (rw e refl) ∙ ap F c.items-s-items.ensures.value

pub loop-s-preserved : goal.loop-s-preserved
loop-s-preserved c =
    let F : List Serial → Bool = λ xs. list_any (λ y. same_id y (serial_of c.args.serial.now)) (map serial_of xs) in
    let xs = c.items-s-items.result.now in
    let x = c.s-item.result in
    let e : same_id (serial_of x) (serial_of c.args.serial.now) ≡ false = sym c.same_id.ensures ∙ c.if-same_id.false in
    stepped F (F xs) xs c.loop-s.s-index x (F (drop (c.loop-s.s-index + 1) xs)) c.loop-s-test.true c.s-item.is c.loop-s.invariant (rw e refl)
