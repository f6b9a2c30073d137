use Rattle.volume.specs.Catalogs.{NewName}
use Rattle.volume.proofs.catalog.find_name.Given as goal

abbrev pub invariant-loop-f : goal.invariant-loop-f
invariant-loop-f l = NewName l.heads l.f l.name
