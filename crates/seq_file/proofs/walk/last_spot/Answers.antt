use Rattle.std.proofs.Common.{◌-◌, ◌+◌, ◌*◌, ◌≤◌, ℕ, arith}
use Rattle.change_set.proofs.careful_write.Reading.{all_read}
use Rattle.seq_file.specs.Frames.{page_in}
use Rattle.seq_file.proofs.WalkLaws.{last_found, last_none, is_read}
use Rattle.seq_file.proofs.walk.last_spot.Goals as goal

pub returns-then-slots-eq0-clause-none : goal.returns-then-slots-eq0-clause-none
returns-then-slots-eq0-clause-none g c =
    let h = c.args.head.now in
    last_none c.args.store.now.current h (h.used - 1) c.in-Ok.slots (page_in h c.load_slots.new.store c.args.frame.now) (omega (arith, c.requires.form.one)) c.in-Ok.ensures.read c.in-Ok.ensures.number (omega (arith, c.if-slots-eq0.true)) c.requires.some

pub returns-else-slots-eq0-clause-spot : goal.returns-else-slots-eq0-clause-spot
returns-else-slots-eq0-clause-spot g c =
    let h = c.args.head.now in
    last_found c.args.store.now.current h (h.used - 1) c.in-Ok.slots (page_in h c.load_slots.new.store c.args.frame.now) (omega (arith, c.requires.form.one)) c.in-Ok.ensures.read c.in-Ok.ensures.number (omega (arith, c.if-slots-eq0.false))

pub returns-else-slots-eq0-clause-stands : goal.returns-else-slots-eq0-clause-stands
returns-else-slots-eq0-clause-stands g c =
    let h = c.args.head.now in
    is_read c.args.store.now.current h (h.used - 1) c.in-Ok.slots (page_in h c.load_slots.new.store c.args.frame.now) c.in-Ok.ensures.read c.in-Ok.ensures.number (omega (arith, c.if-slots-eq0.false))

-- the last bucket is one of the used ones
one_read : (used bucket before now : ℕ) → 1 ≤ used → now ≤ before + bucket → now ≤ before + used * bucket
one_read used bucket before now some read = all_read 1 used bucket before now some (omega (arith, read))

pub returns-then-slots-eq0-clause-reads : goal.returns-then-slots-eq0-clause-reads
returns-then-slots-eq0-clause-reads g c = one_read c.args.head.now.used c.args.head.now.bucket c.args.store.now.reads c.load_slots.new.store.reads c.requires.form.one c.load_slots.ensures.reads

pub returns-else-slots-eq0-clause-reads : goal.returns-else-slots-eq0-clause-reads
returns-else-slots-eq0-clause-reads g c = one_read c.args.head.now.used c.args.head.now.bucket c.args.store.now.reads c.load_slots.new.store.reads c.requires.form.one c.load_slots.ensures.reads

pub returns-in-Err-clause-reads : goal.returns-in-Err-clause-reads
returns-in-Err-clause-reads g c = one_read c.args.head.now.used c.args.head.now.bucket c.args.store.now.reads c.load_slots.new.store.reads c.requires.form.one c.load_slots.ensures.reads
