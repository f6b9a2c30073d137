-- The entry has 48 bytes.
use Rattle.std.proofs.Common.{◌≡◌, ◌+◌, true, length, sym, ap, ◌∙◌}
use Rattle.std.specs.Prelude.{if◌then◌else◌}
use Rattle.std.proofs.lemmas.Result.{on_ok_weaker}
use Rattle.journal_format.proofs.Decoding.{total_is}
use Rattle.vms_base.specs.Ids.{serial_of, tid_of}
use Rattle.volume.specs.declared.catalog.Catalog.{Catalog}
use Rattle.unit_journal.specs.Entries.{prepared_entry}
use Rattle.unit_votes.proofs.preparing.enter_prepared.Goals as goal

pub returns-clause-end : goal.returns-clause-end
returns-clause-end g c =
    let v = c.args.volume.now in
    let b = c.args.branch.now in
    let e = prepared_entry (tid_of b.tid) (serial_of b.serial) in
    let size : length c.encode_prepared.new.out ≡ 48 = ap length c.encode_prepared.ensures.spelled ∙ total_is e c.encode_prepared.ensures.is in
    let changed : c.args.has_changed ≡ true = c.if-not-has_changed.false in
    on_ok_weaker c.enter.result
    (λ is. let end : c.enter.new.volume.catalog.ru.end ≡ v.catalog.ru.end + length c.encode_prepared.new.out = ap (λ (x : Catalog). x.ru.end) is in
    end ∙ (λ i. v.catalog.ru.end + size i) ∙ (λ i. v.catalog.ru.end + (if sym changed i then 48 else 0)))
    c.enter.ensures.catalog
