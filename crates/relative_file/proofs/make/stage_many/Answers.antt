use Rattle.std.proofs.Common.{◌<◌, ◌+◌, ◌-◌, ap, ◌∙◌, arith}
use Rattle.change_set.specs.careful_write.State.{StoreState}
use Rattle.change_set.proofs.Extents.{ranges_apart}
use Rattle.relative_file.proofs.MakeLaws.{out_bucket, empty_more}
use Rattle.relative_file.proofs.make.stage_many.Goals as goal

pub loop-i-preserved : goal.loop-i-preserved
loop-i-preserved g c =
    let h = c.args.head.now in
    let i = c.loop-i.i in
    let e = c.stage_empty.ensures in
    let before = c.loop-i.invariant in
    let below : i < h.alloc = omega arith in
    let size = ap (λ (s : StoreState). s.disk.size) before.rest in
    let from = c.loop-i.auto.i in
    let grown = ranges_apart (i - c.args.from) (i + 1 - c.args.from) h.bucket (omega arith) in
    record {
      empty = λ start. empty_more h i c.loop-i.store.disk.size c.loop-i.store.current c.stage_empty.new.store.current below c.requires.placed.from (omega (arith, c.requires.placed.to, size)) e.whole (before.empty start) e.empty;
      outside = out_bucket h i c.args.store.now.current c.loop-i.store.current c.stage_empty.new.store.current below before.outside e.empty;
      rest = e.rest ∙ ap (λ (s : StoreState). record s { current = c.stage_empty.new.store.current; touched = c.stage_empty.new.store.touched }) before.rest;
      few = omega (arith, grown, before.few, e.few);
    }
