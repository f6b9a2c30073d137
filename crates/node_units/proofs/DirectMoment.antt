-- The moment of a change without a branch.
use Rattle.std.proofs.Common.{◌≡◌, ◌∙◌, ℕ, List, ap, refl}
use Rattle.file_base.specs.declared.head.FileHead.{FileHead}
use Rattle.record_operations.specs.declared.ops.RecordOp.{RecordOp}
use Rattle.record_operations.specs.declared.ops.RecordOp.TheVariants as op
use Rattle.rms_units.specs.unit_journal.Settling.{next_moment}
use Rattle.vms_base.specs.declared.ids.Tid.{Tid}
use Rattle.volume.specs.declared.catalog.Catalog.{Catalog}
use Rattle.volume.specs.State.{VolumeState}
use Rattle.rms_units.specs.Calls.{DirectsOk}
use Rattle.rms_units.specs.State.{UnitsState}

-- it is the greatest of the volume then
pub direct_moment : (tid : Tid) (clock : ℕ) (h : FileHead) (o : RecordOp) (bytes : List ℕ) (told : ℕ) (s : UnitsState) (v w : VolumeState) → DirectsOk tid clock h o bytes told s v w → w.catalog.home.greatest_moment.0 ≡ next_moment clock v.catalog.home
direct_moment tid clock h (op.Put file key) bytes told s v w ok = ap (λ (k : Catalog). k.home.greatest_moment.0) (ok.changes refl).made.commits.settles.catalog
direct_moment tid clock h (op.Update file key) bytes told s v w ok = ap (λ (k : Catalog). k.home.greatest_moment.0) (ok.changes refl).made.commits.settles.catalog
direct_moment tid clock h (op.Delete file key) bytes told s v w ok = ap (λ (k : Catalog). k.home.greatest_moment.0) (ok.changes refl).made.commits.settles.catalog
direct_moment tid clock h (op.Truncate file from) bytes told s v w ok = ap (λ (k : Catalog). k.home.greatest_moment.0) (ok.cuts file from refl).made.makes.settles.catalog

-- the journal begins in the same block
pub direct_start : (tid : Tid) (clock : ℕ) (h : FileHead) (o : RecordOp) (bytes : List ℕ) (told : ℕ) (s : UnitsState) (v w : VolumeState) → DirectsOk tid clock h o bytes told s v w → w.catalog.ru.start ≡ v.catalog.ru.start
direct_start tid clock h (op.Put file key) bytes told s v w ok = let k = (ok.changes refl).made.commits in ap (λ (x : Catalog). x.ru.start) k.settles.catalog ∙ ap (λ (x : Catalog). x.ru.start) k.closes.catalog ∙ ap (λ (x : Catalog). x.ru.start) k.images.catalog ∙ ap (λ (x : Catalog). x.ru.start) k.stages.catalog
direct_start tid clock h (op.Update file key) bytes told s v w ok = let k = (ok.changes refl).made.commits in ap (λ (x : Catalog). x.ru.start) k.settles.catalog ∙ ap (λ (x : Catalog). x.ru.start) k.closes.catalog ∙ ap (λ (x : Catalog). x.ru.start) k.images.catalog ∙ ap (λ (x : Catalog). x.ru.start) k.stages.catalog
direct_start tid clock h (op.Delete file key) bytes told s v w ok = let k = (ok.changes refl).made.commits in ap (λ (x : Catalog). x.ru.start) k.settles.catalog ∙ ap (λ (x : Catalog). x.ru.start) k.closes.catalog ∙ ap (λ (x : Catalog). x.ru.start) k.images.catalog ∙ ap (λ (x : Catalog). x.ru.start) k.stages.catalog
direct_start tid clock h (op.Truncate file from) bytes told s v w ok = let k = (ok.cuts file from refl).made.makes in ap (λ (x : Catalog). x.ru.start) k.settles.catalog ∙ ap (λ (x : Catalog). x.ru.start) k.closes.catalog ∙ ap (λ (x : Catalog). x.ru.start) k.cuts.catalog ∙ ap (λ (x : Catalog). x.ru.start) k.cuts.stages.catalog ∙ ap (λ (x : Catalog). x.ru.start) (k.images.afters.catalog ∙ k.images.befores.catalog)
