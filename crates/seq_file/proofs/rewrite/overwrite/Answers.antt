use Rattle.std.proofs.Common.{Some}
use Rattle.change_set.specs.block_disk.Disk.{DiskState}
use Rattle.change_set.proofs.careful_write.Reading.{same_so}
use Rattle.change_set.proofs.Frames.{read_again}
use Rattle.seq_file.specs.Frames.{page_in}
use Rattle.seq_file.proofs.RewriteLaws.{overwrite_leads, overwrite_none, overwrite_may, never_laid_out}
use Rattle.seq_file.proofs.rewrite.overwrite.Goals as goal

pub returns-in-Ok-Some-clause-leads : goal.returns-in-Ok-Some-clause-leads
returns-in-Ok-Some-clause-leads g c =
    let h = c.args.head.now in
    let f = c.args.frame.now in
    let spot = rw c.in-Ok-Some.field-0-is at c.in-Ok-Some.ensures.spot in
    let below = rw c.in-Ok-Some.field-0-is at c.in-Ok-Some.ensures.below in
    overwrite_leads c.write_over.result c.args.store.now.current h c.args.n c.in-Ok-Some.spot.bucket c.in-Ok-Some.spot.slot c.args.value.now (page_in h c.locate.new.store f) (page_in h c.write_over.new.store f)
    below c.requires.value spot c.write_over.ensures.put c.write_over.ensures.rewrites

pub returns-in-Ok-Some-clause-none : goal.returns-in-Ok-Some-clause-none
returns-in-Ok-Some-clause-none g c =
    let h = c.args.head.now in
    let spot = rw c.in-Ok-Some.field-0-is at c.in-Ok-Some.ensures.spot in
    let below = rw c.in-Ok-Some.field-0-is at c.in-Ok-Some.ensures.below in
    overwrite_none c.write_over.result c.args.store.now.current h c.args.n c.in-Ok-Some.spot.bucket c.in-Ok-Some.spot.slot c.args.value.now (page_in h c.locate.new.store c.args.frame.now)
    below c.requires.to spot c.write_over.ensures.none

pub returns-in-Ok-Some-clause-may : goal.returns-in-Ok-Some-clause-may
returns-in-Ok-Some-clause-may g c =
    let below = rw c.in-Ok-Some.field-0-is at c.in-Ok-Some.ensures.below in
    overwrite_may c.write_over.result c.args.head.now c.in-Ok-Some.spot.bucket below c.requires.form c.write_over.ensures.rewrites

pub returns-in-Ok-Some-clause-state : goal.returns-in-Ok-Some-clause-state
returns-in-Ok-Some-clause-state g c = read_again c.args.frame.now c.args.store.now c.locate.new.store c.write_over.new.store (λ (d : DiskState). d) c.in-Ok-Some.ensures.state (same_so _ c.write_over.new.store c.write_over.ensures.state)

pub returns-in-Ok-None-clause-none : goal.returns-in-Ok-None-clause-none
returns-in-Ok-None-clause-none g c =
    let never = rw c.in-Ok-None.field-0-is at c.in-Ok-None.ensures.none in
    never_laid_out c.args.store.now.current c.args.head.now c.args.n (Some c.args.value.now) never
