use Rattle.std.proofs.Common.{◌≡◌, ◌∙◌, List, true, ap}
use Rattle.std.specs.Prelude.{map, Vec}
use Rattle.std.specs.declared.alloc.Global.{Global}
use Rattle.reference_index.specs.records_model.History.{changes_by, without}
use Rattle.reference_index.specs.run_model.World.{settled_layout, with_outcome}
use Rattle.vms_base.specs.Ids.{id_of}
use Rattle.vms_base.specs.Outcomes.{outcome_of}
use Rattle.reference_world.specs.declared.world.LiveChanges.{LiveChanges}
use Rattle.reference_world.specs.declared.world.SettledChanges.{SettledChanges}
use Rattle.reference_index.specs.Standing.{changes_of, layout_of}
use Rattle.reference_world.specs.Standing.{live_of, carried_of, done_of, outcome_by, history_of, settlement_of, file_of}
use Rattle.reference_world.proofs.FileLemmas.{now_settled}
use Rattle.reference_world.proofs.history.with_settlement.Goals as goal

pub returns : goal.returns
returns c =
    let f = c.args.file in
    let serial = id_of c.args.s.serial in
    let parted = c.in_ok-parted.parted in
    let by = outcome_of c.outcome-outcome.result in
    let outcome : by ≡ outcome_by c.args.s.reason = c.outcome-outcome.ensures in
    let changes : changes_of parted.changes.items ≡ changes_by serial (map live_of f.live.items) =
    c.in_ok-parted.ensures.changes ∙ ap (λ (v : Vec LiveChanges Global). changes_by serial (map live_of v.items)) c.replace-live.ensures.value in
    let others : map live_of parted.others.items ≡ without serial (map live_of f.live.items) =
    c.in_ok-parted.ensures.others ∙ ap (λ (v : Vec LiveChanges Global). without serial (map live_of v.items)) c.replace-live.ensures.value in
    let layout : layout_of c.in_ok-settled_one.field-0 ≡ settled_layout by (changes_of parted.changes.items) (layout_of f.layout) =
    c.in_ok-settled_one.ensures ∙ (λ i. settled_layout by (changes_of (c.as_slice.ensures.value i)) (layout_of (c.replace-layout.ensures.value i))) in
    let told : carried_of c.in_ok-settled_one-2.field-0 ≡ with_outcome true (settlement_of c.args.s) (carried_of f.carried) =
    c.in_ok-settled_one-2.ensures ∙ ap (λ x. with_outcome true (settlement_of c.args.s) (carried_of x)) c.replace-carried.ensures.value in
    ap (λ (ss : List SettledChanges). record (file_of f) { history = record (history_of f) { settled = map done_of ss; live = map live_of parted.others.items }; layout = layout_of c.in_ok-settled_one.field-0; carried = carried_of c.in_ok-settled_one-2.field-0 }) c.in_ok-push_front.ensures
    ∙ now_settled f (settlement_of c.args.s) by (changes_of parted.changes.items) (map live_of parted.others.items) (layout_of c.in_ok-settled_one.field-0) (carried_of c.in_ok-settled_one-2.field-0) c.requires outcome changes others layout told
