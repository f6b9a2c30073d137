-- The entry has 48 bytes.
use Rattle.std.proofs.Common.{◌≡◌, ◌∙◌, ◌≤◌, ℕ, true, length, option_map, sym, ap, subst, arith}
use Rattle.std.proofs.lemmas.Result.{on_ok_weaker}
use Rattle.image_appends.proofs.Growing.{map_self}
use Rattle.image_appends.specs.Settling.{AllHaveRoom, content_from, heads_from}
use Rattle.journal_format.proofs.Decoding.{total_is}
use Rattle.vms_base.specs.Ids.{serial_of, tid_of}
use Rattle.vms_base.specs.Outcomes.{outcome_of}
use Rattle.unit_journal.specs.Entries.{settled_entry}
use Rattle.unit_journal.specs.Settling.{entry_if}
use Rattle.file_settlements.specs.Settling.{content_settled, heads_settled}
use Rattle.file_settlements.proofs.settling.enter_in_files.Goals as goal

pub append_settlement-requires-clause-room : goal.append_settlement-requires-clause-room
append_settlement-requires-clause-room g c =
    let v = c.args.volume.now in
    let b = c.args.branch.now in
    let e = settled_entry (tid_of b.tid) (serial_of b.serial) (outcome_of c.args.outcome) c.args.moment.0 in
    let size : length c.encode_settled.new.out ≡ 48 = ap length c.encode_settled.ensures.spelled ∙ total_is e c.encode_settled.ensures.is in
    subst (λ (n : ℕ). AllHaveRoom c.args.files.now n v.catalog.heads v.store.disk) (sym size) (c.requires.rooms c.if-not-has_changed.false)

pub append_settlement-requires-clause-size : goal.append_settlement-requires-clause-size
append_settlement-requires-clause-size g c =
    let b = c.args.branch.now in
    let e = settled_entry (tid_of b.tid) (serial_of b.serial) (outcome_of c.args.outcome) c.args.moment.0 in
    let size : length c.encode_settled.new.out ≡ 48 = ap length c.encode_settled.ensures.spelled ∙ total_is e c.encode_settled.ensures.is in
    omega (arith, size)

pub returns-clause-current : goal.returns-clause-current
returns-clause-current g c =
    let v = c.args.volume.now in
    let b = c.args.branch.now in
    let e = settled_entry (tid_of b.tid) (serial_of b.serial) (outcome_of c.args.outcome) c.args.moment.0 in
    let changed : c.args.has_changed ≡ true = c.if-not-has_changed.false in
    on_ok_weaker c.append_settlement.result
    (λ is. is ∙ (λ i. option_map (content_from 0 c.args.files.now (c.encode_settled.ensures.spelled i) v.catalog.heads) v.store.current) ∙ (λ i. option_map (content_settled (entry_if (sym changed i) e) c.args.files.now v.catalog.heads) v.store.current))
    c.append_settlement.ensures.current

pub returns-clause-catalog : goal.returns-clause-catalog
returns-clause-catalog g c =
    let v = c.args.volume.now in
    let b = c.args.branch.now in
    let e = settled_entry (tid_of b.tid) (serial_of b.serial) (outcome_of c.args.outcome) c.args.moment.0 in
    let changed : c.args.has_changed ≡ true = c.if-not-has_changed.false in
    on_ok_weaker c.append_settlement.result
    (λ is. is ∙ (λ i. record v.catalog { heads = heads_from 0 c.args.files.now (length (c.encode_settled.ensures.spelled i)) v.catalog.heads }) ∙ (λ i. record v.catalog { heads = heads_settled (entry_if (sym changed i) e) c.args.files.now v.catalog.heads }))
    c.append_settlement.ensures.catalog
