use Rattle.std.proofs.Common.{◌≡◌, map, ap, sym, ◌∙◌, true, false, slice_set}
use Rattle.commit_protocol.specs.Table.{nothing_left}
use Rattle.tm_types.specs.Parts.{log_record_of}
use Rattle.tm_table.proofs.RecordLemmas.{map_remove, map_set, kept_true, kept_false}
use Rattle.tm_table.proofs.places.keep_record.Goals as goal

pub returns-then-is_done-clause-records : goal.returns-then-is_done-clause-records
returns-then-is_done-clause-records c =
    let r = log_record_of c.args.rec in
    let done : nothing_left r.waiting r.rms ≡ true = sym c.is_done.ensures ∙ c.if-is_done.true in
    ap (λ rs. map log_record_of rs) c.remove.ensures.items ∙ (map_remove log_record_of c.args.records.now.items c.args.i ∙ kept_true c.args.i r (map log_record_of c.args.records.now.items) done)

pub returns-clause-records : goal.returns-clause-records
returns-clause-records c =
    let r = log_record_of c.args.rec in
    let left : nothing_left r.waiting r.rms ≡ false = sym c.is_done.ensures ∙ c.if-is_done.false in
    ap (λ x. map log_record_of (slice_set c.args.records.now.items c.args.i x)) c.copy.ensures ∙ (map_set log_record_of c.args.records.now.items c.args.i c.args.rec ∙ kept_false c.args.i r (map log_record_of c.args.records.now.items) left)
