use Rattle.std.proofs.Common.{◌≡◌, inl, refl, rules}
use Rattle.block_disk.specs.Disk.{DiskState}
use Rattle.dtm_node.proofs.Held.{holds_is}
use Rattle.dtm_node.proofs.Mounting.{mounted, condition_found, mount_fell}
use Rattle.dtm_node.proofs.boot.mount_store.Goals as goal

pub returns-in-Ok-clause-boots : goal.returns-in-Ok-clause-boots
returns-in-Ok-clause-boots g c = λ n o.
    c.raise_boot.ensures.boots n (mounted c.args.name c.args.store c.in-Ok.volume n c.in-Ok.ensures.store c.requires.least c.mount.ensures.whole c.mount.ensures.each c.in-Ok.ensures.holds c.in-Ok.ensures.sound c.in-Ok.ensures.only c.in-Ok.ensures.valid o)

pub returns-in-Err-Condition-clause-boots : goal.returns-in-Err-Condition-clause-boots
returns-in-Err-Condition-clause-boots g c = λ n o.
    let d : DiskState = g.D.Disk.state c.into_parts-disk.result.0 in
    let same : d ≡ c.args.store.disk = search rules in
    condition_found c.args.name c.args.store n c.from.result c.in-Err-Condition.block d c.sound_volumes_are_valid.ensures c.requires.least c.mount.ensures.whole c.mount.ensures.each (search rules) same o

pub returns-in-Err-Down-clause-boots : goal.returns-in-Err-Down-clause-boots
returns-in-Err-Down-clause-boots g c = λ n o.
    let d : DiskState = g.D.Disk.state c.into_parts-disk-in-Err-Down.result.0 in
    let pending : d.pending ≡ c.args.store.disk.pending = search rules in
    let seen : d.seen ≡ c.args.store.disk.seen = search rules in
    inl (mount_fell c.args.name c.args.store n d pending seen o)

pub returns-in-Err-Condition-clause-booted : goal.returns-in-Err-Condition-clause-booted
returns-in-Err-Condition-clause-booted g c =
    let d : DiskState = g.D.Disk.state c.into_parts-disk.result.0 in
    let same : d ≡ c.args.store.disk = search rules in
    (tt, refl, holds_is c.args.store.disk d same)
