use Rattle.std.proofs.Common.{refl, subst}
use Rattle.volume.specs.volume_format.Head.{head_block_of}
use Rattle.recovery_units.specs.Uses.{Caused, down_of}
use Rattle.node_standing.specs.node_table.Code.{stored_of}
use Rattle.node_standing.specs.node_table.Standing.{Stored}
use Rattle.file_requests.proofs.Making.{file_form, file_new, made_done, made_fell, made_first, placed_new}
use Rattle.file_requests.proofs.Calls.{caused_counts, caused_on, goes_counts, goes_on}
use Rattle.file_requests.proofs.files.make_file.Goals as goal

pub make_records-requires-clause-form : goal.make_records-requires-clause-form
make_records-requires-clause-form g c = file_form c.args.file c.args.head.now (stored_of g.U.RecoveryUnits.state c.args.stored.now) c.requires.order c.the_laws.ensures c.requires.fresh

pub make_records-requires-clause-fresh : goal.make_records-requires-clause-fresh
make_records-requires-clause-fresh g c = file_new c.args.file c.args.head.now (stored_of g.U.RecoveryUnits.state c.args.stored.now) c.requires.order c.the_laws.ensures c.requires.fresh

pub make_records-requires-clause-placed : goal.make_records-requires-clause-placed
make_records-requires-clause-placed g c = placed_new c.args.file c.args.head.now (stored_of g.U.RecoveryUnits.state c.args.stored.now) c.requires.order c.the_laws.ensures c.requires.fresh

pub returns-in-Err-clause-makes : goal.returns-in-Err-clause-makes
returns-in-Err-clause-makes g c =
    let u = stored_of g.U.RecoveryUnits.state c.args.stored.now in
    let new : Stored = record { volume = c.make_records.new.volume; units = u.units; in_doubt = u.in_doubt } in
    let e = c.make_records.ensures in
    let old = u.volume.store.disk in
    let now = new.volume.store.disk in
    made_first c.args.file c.args.head.now u c.requires.order c.the_laws.ensures c.requires.fresh new refl refl e.catalog e.pool c.in-Err.ensures.down c.in-Err.down _ (goes_counts c.make_records.result old now e.counts)
    (subst (λ x. Caused (down_of x) old now) c.in-Err.is (caused_counts c.make_records.result old now e.counts))

pub returns-in-Err-write_head-clause-makes : goal.returns-in-Err-write_head-clause-makes
returns-in-Err-write_head-clause-makes g c =
    let u = stored_of g.U.RecoveryUnits.state c.args.stored.now in
    let new : Stored = record { volume = c.write_head.new.volume; units = u.units; in_doubt = u.in_doubt } in
    let e = c.make_records.ensures in
    let m = c.in-Ok.ensures in
    let old = u.volume.store.disk in
    let mid = c.make_records.new.volume.store.disk in
    let now = new.volume.store.disk in
    let first = goes_counts c.make_records.result old mid e.counts in
    made_fell c.args.file c.args.head.now u c.requires.order c.the_laws.ensures c.requires.fresh c.make_records.new.volume
    (record { map_is = m.map; laid = m.laid; layout = m.layout; each = m.each; outside = m.outside; idle = m.idle; catalog = e.catalog; size = e.counts.size; pool = e.pool })
    c.write_head.result new (head_block_of c.args.head.now) refl refl c.write_head.ensures (goes_on old mid now first (goes_counts c.write_head.result mid now c.write_head.ensures.counts)) c.in-Err-write_head.down _ c.in-Err-write_head.is
    (subst (λ x. Caused (down_of x) old now) c.in-Err-write_head.is (caused_on (down_of c.write_head.result) old mid now first (caused_counts c.write_head.result mid now c.write_head.ensures.counts)))

pub returns-in-Ok-write_head-clause-makes : goal.returns-in-Ok-write_head-clause-makes
returns-in-Ok-write_head-clause-makes g c =
    let u = stored_of g.U.RecoveryUnits.state c.args.stored.now in
    let new : Stored = record { volume = c.write_head.new.volume; units = u.units; in_doubt = u.in_doubt } in
    let e = c.make_records.ensures in
    let m = c.in-Ok.ensures in
    let old = u.volume.store.disk in
    let mid = c.make_records.new.volume.store.disk in
    let now = new.volume.store.disk in
    let first = goes_counts c.make_records.result old mid e.counts in
    made_done c.args.file c.args.head.now u c.requires.order c.the_laws.ensures c.requires.fresh c.make_records.new.volume
    (record { map_is = m.map; laid = m.laid; layout = m.layout; each = m.each; outside = m.outside; idle = m.idle; catalog = e.catalog; size = e.counts.size; pool = e.pool })
    c.write_head.result new (head_block_of c.args.head.now) refl refl c.write_head.ensures (goes_on old mid now first (goes_counts c.write_head.result mid now c.write_head.ensures.counts)) c.in-Ok-write_head.field-0 _ _ c.in-Ok-write_head.is c.emit.ensures.emits
