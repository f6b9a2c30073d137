use Rattle.change_set.specs.block_disk.Disk.{DiskState}
use Rattle.change_set.proofs.careful_write.Reading.{same_so}
use Rattle.change_set.proofs.Frames.{read_again}
use Rattle.seq_file.specs.Frames.{page_in}
use Rattle.seq_file.proofs.RewriteLaws.{cut_leads, cut_may}
use Rattle.seq_file.proofs.rewrite.cut_off.Goals as goal

pub returns-in-Ok-Some-clause-leads : goal.returns-in-Ok-Some-clause-leads
returns-in-Ok-Some-clause-leads g c =
    let h = c.args.head.now in
    let f = c.args.frame.now in
    let spot = rw c.in-Ok-Some.field-0-is at c.in-Ok-Some.ensures.spot in
    let below = rw c.in-Ok-Some.field-0-is at c.in-Ok-Some.ensures.below in
    cut_leads c.args.store.now.current h c.args.n c.in-Ok-Some.spot.bucket c.in-Ok-Some.spot.slot c.used_before.result (page_in h c.locate.new.store f) (page_in h c.keep_slots.new.store f) below spot c.keep_slots.ensures.page c.used_before.ensures

pub returns-in-Ok-Some-clause-may : goal.returns-in-Ok-Some-clause-may
returns-in-Ok-Some-clause-may g c =
    let below = rw c.in-Ok-Some.field-0-is at c.in-Ok-Some.ensures.below in
    cut_may c.args.head.now c.args.n c.in-Ok-Some.spot.bucket c.in-Ok-Some.spot.slot c.used_before.result below c.requires.form c.used_before.ensures

pub returns-in-Ok-Some-clause-state : goal.returns-in-Ok-Some-clause-state
returns-in-Ok-Some-clause-state g c = read_again c.args.frame.now c.args.store.now c.locate.new.store c.keep_slots.new.store (λ (d : DiskState). d) c.in-Ok-Some.ensures.state (same_so _ c.keep_slots.new.store c.keep_slots.ensures.state)
