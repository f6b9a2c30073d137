use Rattle.std.proofs.Common.{◌≡◌, [], List, map, ap, ◌∙◌}
use Rattle.vms_model.specs.Ids.{Id}
use Rattle.commit_protocol.specs.Messages.{Name, same_id}
use Rattle.commit_protocol.specs.Messages as model
use Rattle.commit_protocol.specs.Table as table
use Rattle.commit_protocol.specs.Table.{Branch}
use Rattle.commit_protocol.specs.Rows.{asks, serials, joined, ending, which_event, sends_all, to_each, tells, commits_if_all}
use Rattle.tm_types.specs.Parts.{manager_of, rm_event_of}
use Rattle.tm_types.specs.Branches.{branch_of}
use Rattle.tm_table.specs.Doing.{did, does}
use Rattle.tm_table.proofs.DoingLemmas.{parts3}
use Rattle.tm_table.proofs.table.Table.begin_ending.Goals as goal

pub returns : goal.returns
returns c =
    let b = branch_of c.args.b.now in
    let s0 = c.args.self.now in
    let t = b.key.tid in
    let e = which_event b.changed b.accepted b.managers in
    let G : List table.Manager → Branch = λ ms. record b { state = table.Ending; managers = ms } in
    let event : rm_event_of c.ending_event-event.result ≡ e = c.ending_event-event.ensures in
    let same : G (map manager_of c.asked-b.result) ≡ ending b = ap G (c.asked-b.ensures ∙ ap (λ (x : model.RmEvent). asks x b.managers) event) in
    parts3 (table.Notes (ending b)) (sends_all (to_each model.Prepare t (serials b.accepted))) (tells e b.key (joined b.managers)) (commits_if_all (ending b) [])
    s0 c.note.new.self c.send_each.new.self c.tell_each.new.self c.commit_if_all.new.self
    (c.note.ensures.done ∙ ap (λ (x : Branch). did (table.Notes x) s0) same)
    (c.send_each.ensures.done ∙ ap (λ (ss : List Id). does (sends_all (to_each model.Prepare t ss)) c.note.new.self) c.serials.ensures)
    (c.tell_each.ensures.done ∙ (ap (λ (x : model.RmEvent). does (tells x b.key c.names-rms.result) c.send_each.new.self) event ∙ ap (λ (xs : List Name). does (tells e b.key xs) c.send_each.new.self) c.names-rms.ensures))
    (c.commit_if_all.ensures ∙ ap (λ (x : Branch). does (commits_if_all x []) c.tell_each.new.self) same)
