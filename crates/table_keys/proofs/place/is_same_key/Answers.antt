use Rattle.std.proofs.Common.{sym, ◌∙◌}
use Rattle.std.specs.Ordering.{eq_by_cmp}
use Rattle.std.specs.Str.{bytes_eq}
use Rattle.vms_base.specs.Keys.{key_of}
use Rattle.records_model.specs.Records.{key_cmp}
use Rattle.table_keys.proofs.PlaceLemmas.{same_text}
use Rattle.table_keys.proofs.place.is_same_key.Goals as goal

pub returns-in-Text-Text : goal.returns-in-Text-Text
returns-in-Text-Text c =
    c.eq.ensures ∙ (λ i. bytes_eq (c.bytes.ensures.value i) (c.bytes-in-Text-Text.ensures.value i)) ∙ same_text c.in-Text-Text.s c.in-Text-Text.t
    ∙ (λ i. eq_by_cmp key_cmp (key_of (sym c.in-Text-Text.is-0 i)) (key_of (sym c.in-Text-Text.is-1 i)))
