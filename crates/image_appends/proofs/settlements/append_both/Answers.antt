use Rattle.std.proofs.Common.{List, Option, length, sym, ap, subst}
use Rattle.block_disk.specs.Disk.{DiskState}
use Rattle.file_base.specs.declared.head.FileHead.{FileHead}
use Rattle.volume.specs.declared.catalog.Catalog.{Catalog}
use Rattle.image_appends.specs.declared.side.Side.TheVariants.{After, Before}
use Rattle.image_appends.specs.Images.{FileHasRoom, heads_with}
use Rattle.image_appends.proofs.Growing.{befores_stay, disk_so}
use Rattle.image_appends.proofs.settlements.append_both.Goals as goal

pub append_image-requires-clause-room : goal.append_image-requires-clause-room
append_image-requires-clause-room g c = (c.requires.room c.if-not-takes.false).0

pub append_image-requires-2-clause-room : goal.append_image-requires-2-clause-room
append_image-requires-2-clause-room g c =
    let v = c.args.volume.now in
    let m = c.append_image.new.volume in
    let n = length c.args.entry.now in
    subst (λ (hs : List (Option FileHead)). FileHasRoom Before n c.args.file hs m.store.disk) (sym (ap (λ (k : Catalog). k.heads) c.in-Ok.ensures.catalog))
    (subst (λ (d : DiskState). FileHasRoom Before n c.args.file (heads_with c.args.file After n v.catalog.heads) d) (sym (disk_so v.store m.store c.in-Ok.ensures.rest))
    (befores_stay v.catalog.heads c.args.file n n v.store.disk (c.requires.room c.if-not-takes.false).1))
