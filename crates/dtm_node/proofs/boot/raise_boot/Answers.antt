use Rattle.std.proofs.Common.{ap, inr, rules, ◌∙◌}
use Rattle.volume_format.specs.declared.home.Home.{Home}
use Rattle.dtm_node.proofs.Held.{holds_is}
use Rattle.dtm_node.proofs.Raising.{bootable_is, mounted_left, raise_refused, raise_up, raise_fell, raised}
use Rattle.dtm_node.proofs.RingRoom.{holds_written, volume_raised}
use Rattle.dtm_node.proofs.boot.raise_boot.Goals as goal

pub returns-in-Some-clause-boots : goal.returns-in-Some-clause-boots
returns-in-Some-clause-boots g c = λ n m. (
  bootable_is c.args.volume n c.in-Some.ensures.wide m _ c.in-Some.ensures.refuses,
  raise_refused c.args.volume n (g.D.Disk.state c.into_parts-disk.result.0) c.in-Some.ensures.wide c.requires.idle c.requires.holds c.requires.sound (search rules) (c.into_parts-disk.ensures.disk ∙ ap (λ s. s.disk) c.into_store.ensures) m,
)

pub returns-in-Ok-clause-boots : goal.returns-in-Ok-clause-boots
returns-in-Ok-clause-boots g c = λ n m. (
  bootable_is c.args.volume n c.in_default.ensures.wide m _ c.in_default.ensures.refuses,
  raise_up c.args.volume n _ c.the_laws.ensures.nodes c.the_laws.ensures.boots c.requires.sound (ap (λ (h : Home). record c.args.volume.catalog { home = raised h }) c.home.ensures) (c.in-Ok.ensures.tells c.requires.holds) m (mounted_left c.args.volume n c.in_default.ensures.wide m c.in_default.ensures.refuses)
      c.write_home.new.volume c.in-Ok.ensures.current c.in-Ok.ensures.catalog c.in-Ok.ensures.counts.size,
)

pub returns-in-Err-clause-boots : goal.returns-in-Err-clause-boots
returns-in-Err-clause-boots g c = λ n m.
    inr (
      bootable_is c.args.volume n c.in_default.ensures.wide m _ c.in_default.ensures.refuses,
      raise_fell c.args.volume n _ c.the_laws.ensures.nodes c.the_laws.ensures.boots c.requires.sound (ap (λ (h : Home). record c.args.volume.catalog { home = raised h }) c.home.ensures) (c.in-Err.ensures.tells c.requires.holds) m (mounted_left c.args.volume n c.in_default.ensures.wide m c.in_default.ensures.refuses)
          (g.D.Disk.state c.into_parts-disk-in-Err.result.0) c.requires.idle c.requires.holds (search rules),
    )

pub returns-in-Some-clause-booted : goal.returns-in-Some-clause-booted
returns-in-Some-clause-booted g c =
    (c.in-Some.ensures.time, c.in-Some.ensures.boot, holds_is c.args.volume.store.disk (g.D.Disk.state c.into_parts-disk.result.0) (c.into_parts-disk.ensures.disk ∙ ap (λ s. s.disk) c.into_store.ensures))

pub returns-in-Ok-clause-booted : goal.returns-in-Ok-clause-booted
returns-in-Ok-clause-booted g c =
    let v = c.args.volume in
    let free = c.in_default.ensures in
    let is = ap (λ (h : Home). record v.catalog { home = raised h }) c.home.ensures in
    volume_raised v c.write_home.new.volume
    (record { least = c.requires.least; most = c.requires.most; frames = c.requires.frames; heads = search rules; sound = c.requires.sound; ring = free.ring; rings = free.rings; moments = free.moments; end = free.end; images = free.images })
    (record {
      idle = c.in-Ok.ensures.idle;
      catalog = c.in-Ok.ensures.catalog ∙ is;
      size = c.in-Ok.ensures.counts.size;
      pool = c.in-Ok.ensures.pool;
      holds = holds_written c.write_home.new.volume _ _ (c.in-Ok.ensures.tells c.requires.holds) c.in-Ok.ensures.current c.in-Ok.ensures.catalog;
    })
