use Rattle.std.proofs.Common.{◌≡◌, ◌+◌, ◌&&◌, Bool, true, false, List, map, drop, refl, ap, sym, ◌∙◌}
use Rattle.std.specs.List.{list_any}
use Rattle.commit_protocol.specs.Messages.{same_name}
use Rattle.commit_protocol.specs.Allowed.{answers_waiting}
use Rattle.tm_types.specs.Parts.{manager_of, reply_of}
use Rattle.tm_types.specs.declared.lists.Manager.{Manager}
use Rattle.tm_types.proofs.ListLemmas.{stepped}
use Rattle.tm_types.proofs.lists.ManagerList.awaits.Goals as goal

pub returns-then-is_answered : goal.returns-then-is_answered
returns-then-is_answered c =
    let F : List Manager → Bool = λ xs. list_any (λ m. same_name m.rm c.args.rm.now && answers_waiting m.event (reply_of c.args.reply)) (map manager_of xs) in
    let xs = c.items-m-items.result.now in
    let x = c.m-item.result in
    let e : (same_name x.rm c.args.rm.now && answers_waiting (manager_of x).event (reply_of c.args.reply)) ≡ true = sym c.is_answered.ensures ∙ c.if-is_answered.true in
    stepped F (F xs) xs c.loop-m.m-index x true c.loop-m-test.true c.m-item.is c.loop-m.invariant (rw e refl) ∙ ap F c.items-m-items.ensures.value

pub loop-m-preserved : goal.loop-m-preserved
loop-m-preserved c =
    let F : List Manager → Bool = λ xs. list_any (λ m. same_name m.rm c.args.rm.now && answers_waiting m.event (reply_of c.args.reply)) (map manager_of xs) in
    let xs = c.items-m-items.result.now in
    let x = c.m-item.result in
    let e : (same_name x.rm c.args.rm.now && answers_waiting (manager_of x).event (reply_of c.args.reply)) ≡ false = sym c.is_answered.ensures ∙ c.if-is_answered.false in
    stepped F (F xs) xs c.loop-m.m-index x (F (drop (c.loop-m.m-index + 1) xs)) c.loop-m-test.true c.m-item.is c.loop-m.invariant (rw e refl)
