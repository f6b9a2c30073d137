use Rattle.std.proofs.Common.{None, sym, ◌∙◌, ap, arith}
use Rattle.std.proofs.lemmas.List.{get_or_past}
use Rattle.volume.specs.State.{VolumeState}
use Rattle.volume.specs.Catalogs.{head_at}
use Rattle.volume.proofs.volume.Volume.head.Goals as goal

pub returns-else-file-lt64-clause-value : goal.returns-else-file-lt64-clause-value
returns-else-file-lt64-clause-value g c = sym (ap (λ (v : VolumeState). head_at v.catalog.heads c.args.file) (sym c.self.view_is) ∙ get_or_past c.self.inside.catalog.heads c.args.file None (omega (arith, c.self.invariant)))
