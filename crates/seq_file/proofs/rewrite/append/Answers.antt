use Rattle.std.proofs.Common.{◌-◌, arith}
use Rattle.change_set.specs.block_disk.Disk.{DiskState}
use Rattle.change_set.proofs.careful_write.Reading.{same_so}
use Rattle.change_set.proofs.Frames.{read_again}
use Rattle.seq_file.specs.Frames.{page_in}
use Rattle.seq_file.proofs.RewriteLaws.{append_leads, append_none, append_may}
use Rattle.seq_file.proofs.rewrite.append.Goals as goal

pub returns-in-Ok-clause-leads : goal.returns-in-Ok-clause-leads
returns-in-Ok-clause-leads g c =
    let h = c.args.head.now in
    let f = c.args.frame.now in
    append_leads c.place_behind.result c.args.store.now.current h (h.used - 1) c.args.n c.args.value.now (page_in h c.load_slots.new.store f) (page_in h c.place_behind.new.store f)
    (omega (arith, c.requires.form.one)) c.requires.value c.requires.behind c.in-Ok.ensures.read c.place_behind.ensures.put

pub returns-in-Ok-clause-none : goal.returns-in-Ok-clause-none
returns-in-Ok-clause-none g c =
    let h = c.args.head.now in
    append_none c.place_behind.result c.args.store.now.current h (h.used - 1) c.args.n c.args.value.now (page_in h c.load_slots.new.store c.args.frame.now)
    (omega (arith, c.requires.form.one)) c.requires.behind c.in-Ok.ensures.read c.place_behind.ensures.none

pub returns-in-Ok-clause-state : goal.returns-in-Ok-clause-state
returns-in-Ok-clause-state g c = read_again c.args.frame.now c.args.store.now c.load_slots.new.store c.place_behind.new.store (λ (d : DiskState). d) c.in-Ok.ensures.state (same_so _ c.place_behind.new.store c.place_behind.ensures.state)

pub returns-in-Ok-clause-may : goal.returns-in-Ok-clause-may
returns-in-Ok-clause-may g c =
    let h = c.args.head.now in
    append_may c.place_behind.result h c.args.n c.args.value.now (page_in h c.load_slots.new.store c.args.frame.now) (page_in h c.place_behind.new.store c.args.frame.now) c.requires.form c.place_behind.ensures.put
