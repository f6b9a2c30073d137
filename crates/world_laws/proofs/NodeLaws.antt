-- What holds of each node of a run, whatever was done to it.
use Rattle.std.proofs.Common.{sym, ap, subst, ◌∙◌}
use Rattle.run_model.specs.World.{Shared, opened}
use Rattle.run_model.specs.Answers.{task_service}
use Rattle.run_model.specs.Steps.{count_of, task_effect}
use Rattle.run_model.specs.transcript_model.Outside.{Rose}
use Rattle.world_laws.specs.Nodes.{BootsKeepUp, IsKeptNode, NodesAreKept, RowsKeepUp, StepsKeepNodes, StepsKeepOthers}
use Rattle.world_laws.proofs.ComeUp.{come_room, come_up}
use Rattle.world_laws.proofs.EffectLemmas.{kept_sharing, use_before}
use Rattle.world_laws.proofs.Induction.{legal_kept}
use Rattle.world_laws.proofs.TaskLemmas.{task_kept, task_rows}
use Rattle.world_laws.proofs.UndoLemmas.{boot_kept}
use Rattle.world_laws.proofs.WorldLemmas.{each_opening, opening_kept}

pub nodes_are_kept : NodesAreKept
nodes_are_kept nodes disks es closing opens legal node n found = legal_kept (opened nodes disks) es closing (λ name m e. opening_kept m (opened nodes disks).shared (each_opening nodes opens name m e)) legal node n found

pub steps_keep_nodes : StepsKeepNodes
steps_keep_nodes s n old t lines answer ends m after new h step =
    subst (λ x. IsKeptNode after x) (sym step.node) (subst (λ x. IsKeptNode x (task_effect s old.stops n t step.choice).node) (sym step.shared) (task_kept s old.stops n h t step.choice (λ cause. Rose (count_of cause old) (count_of cause new)) step.allowed))

pub steps_keep_others : StepsKeepOthers
steps_keep_others s n old t lines answer ends m after new step other h =
    kept_sharing s after other (λ e. use_before s old.stops n (task_service t) step.choice (ap (λ (x : Shared). x.in_use) (sym step.shared) ∙ e)) h

pub rows_keep_up : RowsKeepUp
rows_keep_up s n t h up before after = (task_rows s 0 n h t up before after).up

pub boots_keep_up : BootsKeepUp
boots_keep_up s n k = record { rows = boot_kept s n k; up = come_up s n k; room = come_room s n k }
