use Rattle.std.proofs.Common.{ap, sym, ◌∙◌}
use Rattle.std.specs.Prelude.{map}
use Rattle.std.specs.FinMap.Entries.{put}
use Rattle.reference_index.specs.records_model.Records.{key_cmp}
use Rattle.reference_index.specs.Standing.{key_of}
use Rattle.reference_index.proofs.ListLemmas.{if_ok_so}
use Rattle.reference_world.specs.Standing.{entry_of}
use Rattle.reference_world.proofs.EntryLemmas.{first_row, no_rows}
use Rattle.reference_world.proofs.dump.+lend_rows.Goals as goal

pub returns-in-empty : goal.returns-in-empty
returns-in-empty t c = ap (map entry_of) c.new.ensures.items ∙ sym (no_rows c.args.kept.now c.in-empty.len_below)

pub returns-in_ok-behind-in-len1-up : goal.returns-in_ok-behind-in-len1-up
returns-in_ok-behind-in-len1-up t c =
    let r = c.r-item.result in
    if_ok_so c.with_row.result c.with_row.ensures (λ v p. p ∙ ap (λ k. put key_cmp k c.as_slice.result.now (map entry_of c.as_slice-in-len1-up.result.now)) c.lend.ensures
    ∙ ap (λ b. put key_cmp (key_of r.key) b (map entry_of c.as_slice-in-len1-up.result.now)) c.as_slice.ensures.value
    ∙ ap (λ xs. put key_cmp (key_of r.key) r.bytes.items (map entry_of xs)) c.as_slice-in-len1-up.ensures.value
    ∙ ap (put key_cmp (key_of r.key) r.bytes.items) c.in_ok-behind-in-len1-up.ensures
    ∙ first_row c.args.kept.now r c.in-len1-up.len_at_least c.r-item.is)
