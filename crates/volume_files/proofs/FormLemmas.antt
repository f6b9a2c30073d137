-- The root, the levels and the count that the head of a file of its organization has.
use Rattle.std.proofs.Common.{◌≡◌}
use Rattle.file_base.specs.declared.head.FileHead.{FileHead}
use Rattle.file_base.specs.declared.head.Organization.{Organization}
use Rattle.file_base.specs.declared.head.Organization.TheVariants.{Sequential, Relative, Indexed}
use Rattle.record_files.specs.Any as any
use Rattle.record_files.specs.Any.{FormBy}

abbrev pub RootIs : Organization → FileHead → Type 0
RootIs Sequential h = (h.root ≡ 0) × (h.levels ≡ 0)
RootIs Relative h = (h.root ≡ 0) × (h.levels ≡ 0) × (h.count ≡ 0)
RootIs Indexed h = h.count ≡ 0

root_by : (o : Organization) (h : FileHead) → FormBy o h → RootIs o h
root_by Sequential h f = (f.root, f.levels)
root_by Relative h f = (f.root, f.levels, f.count)
root_by Indexed h f = f.count

pub root_is : (h : FileHead) → any.IsFile h → RootIs h.organization h
root_is h form = root_by h.organization h form
