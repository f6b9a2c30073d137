use Rattle.std.proofs.Common.{◌≡◌, ◌+◌, Bool, true, false, List, map, drop, refl, ap, sym, ◌∙◌}
use Rattle.std.specs.List.{list_any}
use Rattle.tm_types.specs.Parts.{child_of}
use Rattle.tm_types.specs.declared.lists.Child.{Child}
use Rattle.vms_base.specs.Ids.{serial_of}
use Rattle.commit_protocol.specs.Rows.{lacks_vote}
use Rattle.tm_types.proofs.ListLemmas.{stepped}
use Rattle.tm_types.proofs.lists.ChildList.lacks_vote.Goals as goal

pub returns-then-lacks_its_vote : goal.returns-then-lacks_its_vote
returns-then-lacks_its_vote c =
    let F : List Child → Bool = λ xs. list_any (λ d. lacks_vote (serial_of c.args.serial.now) d) (map child_of xs) in
    let xs = c.items-c-items.result.now in
    let x = c.c-item.result in
    let e : lacks_vote (serial_of c.args.serial.now) (child_of x) ≡ true = sym c.lacks_its_vote.ensures ∙ c.if-lacks_its_vote.true in
    stepped F (F xs) xs c.loop-c.c-index x true c.loop-c-test.true c.c-item.is c.loop-c.invariant (rw e refl) ∙ ap F c.items-c-items.ensures.value

pub loop-c-preserved : goal.loop-c-preserved
loop-c-preserved c =
    let F : List Child → Bool = λ xs. list_any (λ d. lacks_vote (serial_of c.args.serial.now) d) (map child_of xs) in
    let xs = c.items-c-items.result.now in
    let x = c.c-item.result in
    let e : lacks_vote (serial_of c.args.serial.now) (child_of x) ≡ false = sym c.lacks_its_vote.ensures ∙ c.if-lacks_its_vote.false in
    stepped F (F xs) xs c.loop-c.c-index x (F (drop (c.loop-c.c-index + 1) xs)) c.loop-c-test.true c.c-item.is c.loop-c.invariant (rw e refl)
