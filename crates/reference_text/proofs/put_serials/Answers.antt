use Rattle.std.proofs.Common.{◌∙◌, ◌∷◌, ◌++◌, List, ℕ, ap, sym, append_assoc, flat_map}
use Rattle.std.specs.Prelude.{map}
use Rattle.std.proofs.lemmas.Result.{IfOk-equal}
use Rattle.vms_model.specs.Texts.{id_text}
use Rattle.reference_index.specs.transcript_model.Lines.{ids_text}
use Rattle.vms_base.specs.Ids.{serial_of}
use Rattle.vms_base.specs.declared.ids.Serial.{Serial}
use Rattle.reference_index.proofs.ListLemmas.{behind_first, parts}
use Rattle.reference_text.proofs.put_serials.Goals as goal

pub returns-in_ok-put_id-in-len1-up : goal.returns-in_ok-put_id-in-len1-up
returns-in_ok-put_id-in-len1-up c =
    let old = c.args.out.now.items in
    let first = id_text (serial_of c.serial-item.result) in
    let more = flat_map (λ (text : List ℕ). 44 ∷ text) (map id_text (map serial_of (behind_first c.args.serials.now))) in
    IfOk-equal c.put_serials_behind.result _ _ _ c.put_serials_behind.ensures
    (ap (λ xs. xs ++ more) c.in_ok-put_id-in-len1-up.ensures ∙ append_assoc old first more
    ∙ ap (λ (ss : List Serial). old ++ ids_text (map serial_of ss)) (sym (parts c.args.serials.now c.serial-item.result c.in-len1-up.len_at_least c.serial-item.is)))
