use Rattle.std.proofs.Common.{◌≡◌, ◌+◌, ◌∙◌, true, ap, sym, refl}
use Rattle.std.specs.Prelude.{map}
use Rattle.std.proofs.lemmas.List.{map-append}
use Rattle.reference_index.specs.run_model.Answers.{Restarts, task_service}
use Rattle.reference_world.specs.Standing.{line_of}
use Rattle.reference_node.specs.Nodes.{node_of}
use Rattle.reference_branches.specs.Branches.{shared_of}
use Rattle.reference_tasks.proofs.ServeLemmas.{ready_kept}
use Rattle.reference_tasks.proofs.TaskLemmas.{has_restarted, refused_early, refused_late, restart_early}
use Rattle.reference_tasks.proofs.UnitsLemmas.{boot_units, units_ready}
use Rattle.reference_tasks.proofs.tasks.restarted.Goals as goal

pub returns-in-Some-clause-performs : goal.returns-in-Some-clause-performs
returns-in-Some-clause-performs c =
    let s = shared_of c.args.shared.now in
    let n = node_of c.args.node.now in
    refused_early s n (task_service Restarts) c.refused.result (line_of c.in-Some.refusal) (restart_early s n ∙ sym (c.in-Some.ensures s)) c.refused.ensures.lines (ap line_of c.refused.ensures.answer) c.refused.ensures.ends

pub returns-in-Some-boot_refused-clause-performs : goal.returns-in-Some-boot_refused-clause-performs
returns-in-Some-boot_refused-clause-performs c =
    let s = shared_of c.args.shared.now in
    let n = node_of c.args.node.now in
    let r = c.refused-in-Some-boot_refused in
    refused_late s n (node_of c.power.new.self) (task_service Restarts) r.result (line_of c.in-Some-boot_refused.refusal) (restart_early s n ∙ sym (c.in_default.ensures s)) c.in_ok-power.ensures (sym c.in-Some-boot_refused.ensures)
    r.ensures.lines (ap line_of r.ensures.answer) r.ensures.ends

pub restart-requires-clause-kept : goal.restart-requires-clause-kept
restart-requires-clause-kept c = ready_kept (task_service Restarts) (node_of c.args.node.now) (node_of c.power.new.self) c.in_ok-power.ensures c.requires.kept.disk refl

pub returns-clause-performs : goal.returns-clause-performs
returns-clause-performs c =
    let s = shared_of c.args.shared.now in
    let n = node_of c.args.node.now in
    has_restarted s (record s { in_use = true }) n (node_of c.power.new.self) (node_of c.restart.new.self) c.done.result c.in_ok-lines.lines.items (restart_early s n ∙ sym (c.in_default.ensures s)) c.in_ok-power.ensures
    (sym (c.in_default-boot_refused).ensures) (c.in_ok-lines.ensures.restarts s)
    (ap (λ v. map line_of v.items) c.done.ensures.lines ∙ ap (map line_of) c.in_ok-push_back.ensures ∙ map-append line_of c.in_ok-lines.lines.items _)
    c.done.ensures.answer c.done.ensures.ends refl

pub returns-clause-units : goal.returns-clause-units
returns-clause-units c = λ units h.
    let n = node_of c.args.node.now in
    let o = node_of c.power.new.self in
    boot_units units (shared_of c.args.shared.now) o (node_of c.restart.new.self) c.in_ok-lines.lines.items (c.in_ok-lines.ensures.restarts (shared_of c.args.shared.now)) c.in_ok-lines.ensures.time
    (units_ready (units + 1) (task_service Restarts) n o c.in_ok-power.ensures h)
