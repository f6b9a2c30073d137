use Rattle.std.proofs.Common.{◌≡◌, ◌+◌, Bool, true, false, List, map, drop, refl, ap, sym, ◌∙◌}
use Rattle.std.specs.List.{list_any}
use Rattle.commit_protocol.specs.Messages.{same_name}
use Rattle.tm_types.specs.Parts.{manager_of}
use Rattle.tm_types.specs.declared.lists.Manager.{Manager}
use Rattle.tm_types.proofs.ListLemmas.{stepped}
use Rattle.tm_types.proofs.lists.ManagerList.contains.Goals as goal

pub returns-then-same_rm : goal.returns-then-same_rm
returns-then-same_rm c =
    let F : List Manager → Bool = λ xs. list_any (λ m. same_name m.rm c.args.rm.now) (map manager_of xs) in
    let xs = c.items-m-items.result.now in
    let x = c.m-item.result in
    let e : same_name x.rm c.args.rm.now ≡ true = sym c.same_rm.ensures ∙ c.if-same_rm.true in
    stepped F (F xs) xs c.loop-m.m-index x true c.loop-m-test.true c.m-item.is c.loop-m.invariant (rw e refl) ∙ ap F c.items-m-items.ensures.value

pub loop-m-preserved : goal.loop-m-preserved
loop-m-preserved c =
    let F : List Manager → Bool = λ xs. list_any (λ m. same_name m.rm c.args.rm.now) (map manager_of xs) in
    let xs = c.items-m-items.result.now in
    let x = c.m-item.result in
    let e : same_name x.rm c.args.rm.now ≡ false = sym c.same_rm.ensures ∙ c.if-same_rm.false in
    stepped F (F xs) xs c.loop-m.m-index x (F (drop (c.loop-m.m-index + 1) xs)) c.loop-m-test.true c.m-item.is c.loop-m.invariant (rw e refl)
