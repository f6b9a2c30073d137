-- Texts are one where their bytes are.
use Rattle.std.proofs.Common.{sym, ◌∙◌}
use Rattle.std.specs.Ordering.{eq_by_cmp}
use Rattle.std.specs.Str.{bytes_eq}
use Rattle.vms_base.specs.Keys.{key_of}
use Rattle.vms_model.specs.Keys.{Text}
use Rattle.records_model.specs.Records.{key_cmp}
use Rattle.table_keys.proofs.PlaceLemmas.{same_text}
use Rattle.key_changes.proofs.changing.is_text.Goals as goal

pub returns-in-Text : goal.returns-in-Text
returns-in-Text c =
    c.eq.ensures ∙ (λ i. bytes_eq (c.bytes.ensures.value i) (c.bytes-in-Text.ensures.value i)) ∙ same_text c.in-Text.own c.args.text.now
    ∙ (λ i. eq_by_cmp key_cmp (key_of (sym c.in-Text.is i)) (Text c.args.text.now))
