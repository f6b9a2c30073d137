use Rattle.std.proofs.Common.{◌+◌, List, ℕ, ap, refl, sym, ◌∙◌, length}
use Rattle.std.specs.Prelude.{map}
use Rattle.vms_model.specs.Keys.{Key}
use Rattle.records_model.specs.Placing as placing
use Rattle.reference_index.specs.tree_model.Layouts.{used_of}
use Rattle.reference_index.specs.run_model.World.{buckets_taken, layout_loaded, sizes_of}
use Rattle.reference_world.specs.Standing.{file_of, organization_of, rows_of}
use Rattle.reference_recovery.proofs.loading.buckets_taken.Goals as goal

pub returns-in-Sequential : goal.returns-in-Sequential
returns-in-Sequential c =
    let f = file_of c.args.file.now in
    ap (λ (x : placing.Filled). x.buckets) (c.filled_by-filled.ensures ∙ (λ i. placing.filled_by (c.capacity.ensures i) placing.first_bucket (map (λ (e : Key × List ℕ). length e.1 + 2) (c.requires.rows i))))
    ∙ ap (λ o. buckets_taken (organization_of o) f (rows_of c.args.kept.now)) (sym c.in-Sequential.is)

pub returns-in-Some : goal.returns-in-Some
returns-in-Some c =
    let f = file_of c.args.file.now in
    let m = rows_of c.args.kept.now in
    (rw c.in-Some.is at c.used.ensures) ∙ ap used_of (c.in_ok-layout-in-Indexed.ensures f m refl refl c.requires.kept)
    ∙ ap (λ o. used_of (layout_loaded (organization_of o) (sizes_of f) m)) c.in-Indexed.is ∙ ap (λ o. buckets_taken (organization_of o) f m) (sym c.in-Indexed.is)
