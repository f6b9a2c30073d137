use Rattle.std.proofs.Common.{List, sym, ap, subst, ◌∙◌}
use Rattle.extents.specs.declared.extent.Extent.{Extent}
use Rattle.extents.specs.Extents.{IsFreeRun, all_extents}
use Rattle.volume_format.specs.Home.{sizes_of}
use Rattle.volume.specs.Limits.{data_area}
use Rattle.volume.specs.State.{VolumeState}
use Rattle.volume.proofs.volume.Volume.longest_free.Goals as goal

pub returns-clause-longest : goal.returns-clause-longest
returns-clause-longest g c = λ start blocks run.
    let area = c.data_area.ensures ∙ ap data_area c.sizes.ensures ∙ ap (λ (v : VolumeState). data_area (sizes_of v.catalog.home)) c.self.view_is in
    let extents = c.all_extents.ensures ∙ ap (λ (v : VolumeState). all_extents v.catalog.heads) c.self.view_is in
    c.longest_free.ensures.longest start blocks
    (subst (λ (a : Extent). IsFreeRun a c.all_extents.result start blocks) (sym area)
    (subst (λ (es : List Extent). IsFreeRun (data_area (sizes_of c.args.self.now.catalog.home)) es start blocks) (sym extents) run))
