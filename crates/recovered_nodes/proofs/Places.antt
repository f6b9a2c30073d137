-- Runs of free blocks of a node's disk.
use Rattle.std.proofs.Common.{◌≡◌, ◌+◌, ◌*◌, ◌≤◌, ℕ, List, Some, sym, ◌∙◌, subst}
use Rattle.extents.specs.Extents.{IsFreeRun, all_extents}
use Rattle.file_base.specs.declared.head.FileHead.{FileHead}
use Rattle.recover_rms.specs.load_laws.Records.{Keyed}
use Rattle.recover_rms.specs.Replacing.{IsHeadWith, IsLongest}
use Rattle.unit_world.specs.volume.Limits.{data_area}
use Rattle.unit_world.specs.volume.State.{VolumeState}
use Rattle.volume_format.specs.Home.{sizes_of}
use Rattle.world_laws.specs.run_model.World.{Node, longest_free, lowest_free}
use Rattle.unit_world.specs.directory_model.Laws.{area_of}
use Rattle.unit_world.proofs.directory_model.Runs.{finds_runs, run_enough}
use Rattle.unit_world.specs.recovery_units.State.{IsInOrder, IsKept, UnitsState}

-- the volume's area for files is the node's
pub area_so : (s : UnitsState) (v : VolumeState) (n : Node) → IsKept s v n → IsInOrder s v → data_area (sizes_of v.catalog.home) ≡ area_of n
area_so s v n kept order = λ i. record { start = 584 + sym kept.has.home.slots i + sym kept.has.home.journal i; end = (order.sound.sizes.blocks ∙ sym kept.blocks) i }

pub longest_so : (s : UnitsState) (v : VolumeState) (n : Node) (blocks : ℕ) → IsKept s v n → IsInOrder s v → IsLongest v.catalog blocks → longest_free n ≡ blocks
longest_so s v n blocks kept order is =
    finds_runs.longest kept.content v.catalog.heads n (data_area (sizes_of v.catalog.home)) blocks kept.has.files (area_so s v n kept order) is.found is.longest

pub enough_so : (s : UnitsState) (v : VolumeState) (n : Node) (h new : FileHead) (es : List Keyed) → IsKept s v n → IsInOrder s v → IsHeadWith v.catalog h es new → new.alloc * h.bucket ≤ longest_free n
enough_so s v n h new es kept order with_it =
    run_enough kept.content v.catalog.heads n (data_area (sizes_of v.catalog.home)) new.start (new.alloc * h.bucket) kept.has.files (area_so s v n kept order) with_it.free

pub lowest_so : (s : UnitsState) (v : VolumeState) (n : Node) (h new : FileHead) (es : List Keyed) (blocks : ℕ) → IsKept s v n → IsInOrder s v → IsHeadWith v.catalog h es new → 1 ≤ blocks → new.alloc * h.bucket ≡ blocks → lowest_free n blocks ≡ Some new.start
lowest_so s v n h new es blocks kept order with_it some is =
    finds_runs.lowest kept.content v.catalog.heads n (data_area (sizes_of v.catalog.home)) blocks new.start kept.has.files (area_so s v n kept order) some
    (subst (IsFreeRun (data_area (sizes_of v.catalog.home)) (all_extents v.catalog.heads) new.start) is with_it.free)
    (λ lower less run. with_it.lowest lower less (subst (IsFreeRun (data_area (sizes_of v.catalog.home)) (all_extents v.catalog.heads) lower) (sym is) run))
