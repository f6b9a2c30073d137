use Rattle.std.proofs.Common.{◌≡◌, List, is_some, ap, ◌∙◌}
use Rattle.std.specs.List.{position, list_any}
use Rattle.vms_base.specs.Ids.{serial_of}
use Rattle.vms_base.specs.declared.protocol.LogRec.{LogRec}
use Rattle.commit_protocol.specs.Table.{holds}
use Rattle.tm_table.specs.Doing.{Doing}
use Rattle.tm_table.proofs.RecordLemmas.{at_holding, some_holds}
use Rattle.tm_table.proofs.table.Table.holds_manager.Goals as goal

pub returns : goal.returns
returns c =
    let s = serial_of c.args.serial.now in
    let x = c.args.rm.now in
    let rs = c.self.inside.records.items in
    let p : c.place_of_holding.result ≡ position (at_holding s x) rs = c.place_of_holding.ensures ∙ ap (λ (xs : List LogRec). position (at_holding s x) xs) c.deref.ensures.value in
    c.is_some.ensures ∙ (ap (λ o. is_some o) p ∙ (some_holds s x rs ∙ ap (λ (z : Doing). list_any (λ q. holds s x q) z.tm.records) c.self.view_is))
