use Rattle.std.proofs.Common.{List, Option, sym, ap, subst}
use Rattle.std.proofs.lemmas.Result.{on_ok_weaker}
use Rattle.std.specs.Option.{option_copied}
use Rattle.block_disk.specs.Disk.{DiskState}
use Rattle.file_base.specs.declared.head.FileHead.{FileHead}
use Rattle.vms_base.specs.Keys.{key_of}
use Rattle.unit_journal.specs.Room.{entry_size}
use Rattle.volume.specs.declared.catalog.Catalog.{Catalog}
use Rattle.image_appends.specs.declared.side.Side.TheVariants.{After, Before}
use Rattle.image_appends.specs.Images.{FileHasRoom, heads_with}
use Rattle.image_appends.proofs.Growing.{befores_stay, disk_so}
use Rattle.image_appends.proofs.changes.append_change.Goals as goal

pub append_side-requires-2-clause-room : goal.append_side-requires-2-clause-room
append_side-requires-2-clause-room g c =
    let v = c.args.volume.now in
    let m = c.append_side.new.volume in
    let key = key_of c.args.key.now in
    let after = entry_size key (option_copied c.args.after) in
    let before = entry_size key (option_copied c.args.before) in
    subst (λ (hs : List (Option FileHead)). FileHasRoom Before before c.args.file hs m.store.disk) (sym (ap (λ (k : Catalog). k.heads) c.in-Ok.ensures.catalog))
    (subst (λ (d : DiskState). FileHasRoom Before before c.args.file (heads_with c.args.file After after v.catalog.heads) d) (sym (disk_so v.store m.store c.in-Ok.ensures.rest))
    (befores_stay v.catalog.heads c.args.file after before v.store.disk c.requires.befores))

pub returns-clause-images : goal.returns-clause-images
returns-clause-images g c = on_ok_weaker c.append_side-2.result (λ current. (c.append_side.ensures.is, c.append_side-2.ensures.is)) c.append_side-2.ensures.current
