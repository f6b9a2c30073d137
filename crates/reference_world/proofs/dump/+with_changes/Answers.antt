use Rattle.std.proofs.Common.{ap, ◌∙◌, ◌≡◌}
use Rattle.std.specs.Prelude.{map}
use Rattle.std.specs.FinMap.{entries}
use Rattle.reference_index.specs.records_model.Records.{applied, set_key}
use Rattle.reference_index.specs.Standing.{changes_of, key_of, lent_value}
use Rattle.reference_world.specs.Standing.{entry_of}
use Rattle.reference_index.proofs.ListLemmas.{if_ok_so, behind_first}
use Rattle.reference_world.proofs.ChangeLemmas.{first_set}
use Rattle.reference_world.proofs.dump.+with_changes.Goals as goal

pub returns-in_ok-before-in-len1-up : goal.returns-in_ok-before-in-len1-up
returns-in_ok-before-in-len1-up t c = λ m h.
    let before = applied (changes_of (behind_first c.args.changes.now)) m in
    let e : map entry_of c.as_slice.result.now ≡ entries before = rw c.as_slice.ensures.value (c.in_ok-before-in-len1-up.ensures m h) in
    if_ok_so c.set_row.result (c.set_row.ensures before e) (λ v p. p ∙ ap entries (ap (λ k. set_key before k (lent_value c.lend_value.result)) c.lend.ensures
    ∙ ap (set_key before (key_of c.c-item.result.key)) c.lend_value.ensures ∙ first_set c.args.changes.now c.c-item.result m c.in-len1-up.len_at_least c.c-item.is))
