use Rattle.std.proofs.Common.{◌≡◌, List, map, ap, ◌∙◌}
use Rattle.commit_protocol.specs.Messages.{Name, same_id}
use Rattle.commit_protocol.specs.Messages as model
use Rattle.commit_protocol.specs.Table as table
use Rattle.commit_protocol.specs.Table.{Branch}
use Rattle.commit_protocol.specs.Rows.{joined, voting, tells, casts_if_all}
use Rattle.tm_types.specs.Parts.{manager_of}
use Rattle.tm_types.specs.Branches.{branch_of}
use Rattle.tm_table.specs.Doing.{did, does}
use Rattle.tm_table.proofs.DoingLemmas.{parts2}
use Rattle.tm_table.proofs.table.Table.begin_vote.Goals as goal

pub returns : goal.returns
returns c =
    let b = branch_of c.args.b.now in
    let s0 = c.args.self.now in
    let G : List table.Manager → Branch = λ ms. record b { state = table.Voting; managers = ms } in
    let same : G (map manager_of c.asked-b.result) ≡ voting b = ap G c.asked-b.ensures in
    parts2 (table.Notes (voting b)) (tells model.PrepareEvent b.key (joined b.managers)) (casts_if_all (voting b))
    s0 c.note.new.self c.tell_each.new.self c.cast_if_all.new.self
    (c.note.ensures.done ∙ ap (λ (x : Branch). did (table.Notes x) s0) same)
    (c.tell_each.ensures.done ∙ ap (λ (xs : List Name). does (tells model.PrepareEvent b.key xs) c.note.new.self) c.names-rms.ensures)
    (c.cast_if_all.ensures ∙ ap (λ (x : Branch). does (casts_if_all x) c.tell_each.new.self) same)
