use Rattle.std.proofs.Common.{◌≡◌, List, Some, None, ap, sym, ◌∙◌}
use Rattle.std.specs.List.{position}
use Rattle.vms_base.specs.Ids.{serial_of}
use Rattle.vms_base.specs.declared.protocol.LogRec.{LogRec}
use Rattle.tm_table.specs.Doing.{Doing}
use Rattle.tm_table.specs.Restarts.{record_of}
use Rattle.tm_table.proofs.RecordLemmas.{at_record, found_record, no_record}
use Rattle.tm_table.proofs.table.Table.committed.Goals as goal

pub returns-in-Some : goal.returns-in-Some
returns-in-Some c =
    let k = serial_of c.args.serial.now in
    let rs = c.self.inside.records.items in
    let p : position (at_record k) rs ≡ Some c.in-Some.i = ap (λ (xs : List LogRec). position (at_record k) xs) (sym c.deref.ensures.value) ∙ (sym c.place_of_record.ensures ∙ c.in-Some.is) in
    sym (found_record k rs c.in-Some.i c.index.result.now p c.index.ensures) ∙ ap (λ (s : Doing). record_of k s.tm.records) c.self.view_is

pub returns-in-None : goal.returns-in-None
returns-in-None c =
    let k = serial_of c.args.serial.now in
    let rs = c.self.inside.records.items in
    let p : position (at_record k) rs ≡ None = ap (λ (xs : List LogRec). position (at_record k) xs) (sym c.deref.ensures.value) ∙ (sym c.place_of_record.ensures ∙ c.in-None.is) in
    sym (no_record k rs p) ∙ ap (λ (s : Doing). record_of k s.tm.records) c.self.view_is
