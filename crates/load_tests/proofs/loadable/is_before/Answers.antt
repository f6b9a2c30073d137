use Rattle.std.proofs.Common.{sym, ◌∙◌, nat_cmp}
use Rattle.std.specs.Ordering.{is_lt}
use Rattle.std.specs.Cmp.Lexicographic.{slice_cmp}
use Rattle.records_model.specs.Records.{key_cmp}
use Rattle.vms_base.specs.Keys.{key_of}
use Rattle.load_tests.proofs.loadable.is_before.Goals as goal

pub returns-in-Text-b : goal.returns-in-Text-b
returns-in-Text-b c = λ is.
    (λ i. is_lt (key_cmp (key_of (c.in-Text.is i)) (key_of (c.in-Text-b.is i))))
    ∙ (λ i. is_lt (slice_cmp nat_cmp (sym c.bytes.ensures.value i) (sym (c.bytes-in-Text-b).ensures.value i))) ∙ sym c.comes_before.ensures ∙ is
