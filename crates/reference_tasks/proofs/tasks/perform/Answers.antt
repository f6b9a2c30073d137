use Rattle.std.proofs.Common.{◌≡◌, ◌∙◌, ◌∷◌, [], List, ap, sym, subst}
use Rattle.std.specs.Prelude.{map, IfOk}
use Rattle.reference_index.specs.transcript_model.Lines as line
use Rattle.log_laws.specs.commit_protocol.Rows.{Clock, Got, LinkDown, RunDown}
use Rattle.reference_index.specs.run_model.Answers as answers
use Rattle.reference_index.specs.run_model.Answers.{task_service}
use Rattle.net_wire.specs.Messages.{message_of}
use Rattle.reference_world.specs.Standing.{line_of}
use Rattle.reference_node.specs.Nodes.{node_of}
use Rattle.reference_branches.specs.Branches.{shared_of}
use Rattle.reference_tasks.specs.Tasks.{IsTelling, Performs, task_of}
use Rattle.reference_tasks.specs.declared.tasks.Task.{Task}
use Rattle.reference_tasks.proofs.TaskLemmas.{hear_tells, link_tells, run_down_tells, take_tells, tick_tells}
use Rattle.reference_tasks.proofs.tasks.perform.Goals as goal

pub returns-in-Tick-clause-performs : goal.returns-in-Tick-clause-performs
returns-in-Tick-clause-performs c =
    let s = shared_of c.args.shared.now in
    let n = node_of c.args.node.now in
    subst (λ (x : Task). IfOk c.told_up.result (λ shown. Performs s n (task_service (task_of x)) shown (node_of c.told_up.new.node) (shared_of c.told_up.new.shared))) (sym c.in-Tick.is)
    (c.told_up.ensures.performs (task_service answers.Ticks) (subst (λ (ls : List line.Line). IsTelling (Clock n.clock) ls n (task_service answers.Ticks)) (sym (ap (map line_of) c.new-none.ensures.items)) (tick_tells n)))

pub returns-in-Take-clause-performs : goal.returns-in-Take-clause-performs
returns-in-Take-clause-performs c =
    let s = shared_of c.args.shared.now in
    let n = node_of c.args.node.now in
    subst (λ (x : Task). IfOk c.told_up-in-Take.result (λ shown. Performs s n (task_service (task_of x)) shown (node_of c.told_up-in-Take.new.node) (shared_of c.told_up-in-Take.new.shared))) (sym c.in-Take.is)
    (c.told_up-in-Take.ensures.performs (task_service (answers.Takes (message_of c.in-Take.m))) (subst (λ (ls : List line.Line). IsTelling (Got (message_of c.in-Take.m)) ls n (task_service (answers.Takes (message_of c.in-Take.m)))) (sym (ap (map line_of) c.new-none.ensures.items)) (take_tells (message_of c.in-Take.m) n)))

pub returns-in_ok-lines-in-Hear-clause-performs : goal.returns-in_ok-lines-in-Hear-clause-performs
returns-in_ok-lines-in-Hear-clause-performs c =
    let s = shared_of c.args.shared.now in
    let n = node_of c.args.node.now in
    subst (λ (x : Task). IfOk c.told_up-in-Hear.result (λ shown. Performs s n (task_service (task_of x)) shown (node_of c.told_up-in-Hear.new.node) (shared_of c.told_up-in-Hear.new.shared))) (sym c.in-Hear.is)
    (c.told_up-in-Hear.ensures.performs (task_service (answers.Hears (message_of c.in-Hear.m))) (subst (λ (ls : List line.Line). IsTelling (Got (message_of c.in-Hear.m)) ls n (task_service (answers.Hears (message_of c.in-Hear.m)))) (sym (c.in_ok-lines-in-Hear.ensures ∙ ap (λ (l : line.Line). l ∷ []) c.asked_line.ensures)) (hear_tells (message_of c.in-Hear.m) n)))

pub returns-in-LoseLink-clause-performs : goal.returns-in-LoseLink-clause-performs
returns-in-LoseLink-clause-performs c =
    let s = shared_of c.args.shared.now in
    let n = node_of c.args.node.now in
    subst (λ (x : Task). IfOk c.told_up-in-LoseLink.result (λ shown. Performs s n (task_service (task_of x)) shown (node_of c.told_up-in-LoseLink.new.node) (shared_of c.told_up-in-LoseLink.new.shared))) (sym c.in-LoseLink.is)
    (c.told_up-in-LoseLink.ensures.performs (task_service (answers.LosesLink c.in-LoseLink.other)) (subst (λ (ls : List line.Line). IsTelling (LinkDown c.in-LoseLink.other) ls n (task_service (answers.LosesLink c.in-LoseLink.other))) (sym (ap (map line_of) c.new-none.ensures.items)) (link_tells c.in-LoseLink.other n)))

pub returns-in-RunDown-clause-performs : goal.returns-in-RunDown-clause-performs
returns-in-RunDown-clause-performs c =
    let s = shared_of c.args.shared.now in
    let n = node_of c.args.node.now in
    subst (λ (x : Task). IfOk c.told_up-in-RunDown.result (λ shown. Performs s n (task_service (task_of x)) shown (node_of c.told_up-in-RunDown.new.node) (shared_of c.told_up-in-RunDown.new.shared))) (sym c.in-RunDown.is)
    (c.told_up-in-RunDown.ensures.performs (task_service answers.RunsDown) (subst (λ (ls : List line.Line). IsTelling RunDown ls n (task_service answers.RunsDown)) (sym (ap (map line_of) c.new-none.ensures.items)) (run_down_tells n)))
