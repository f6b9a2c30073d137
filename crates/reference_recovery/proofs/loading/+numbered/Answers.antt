use Rattle.std.proofs.Common.{ap, sym, ◌∙◌}
use Rattle.std.specs.Prelude.{map}
use Rattle.std.specs.FinMap.{entries}
use Rattle.std.specs.FinMap.Entries.{put}
use Rattle.records_model.specs.Records.{key_cmp}
use Rattle.reference_index.specs.run_model.World.{records_from}
use Rattle.reference_index.proofs.ListLemmas.{behind_first, if_ok_so}
use Rattle.reference_world.specs.Standing.{entry_of}
use Rattle.reference_recovery.proofs.NumberLemmas.{first_at, no_numbers}
use Rattle.reference_recovery.proofs.loading.+numbered.Goals as goal

pub returns-in-empty : goal.returns-in-empty
returns-in-empty t c = ap (map entry_of) c.new.ensures.items ∙ sym (no_numbers c.args.first c.args.rows.now c.in-empty.len_below)

pub returns-in_ok-behind-in-len1-up : goal.returns-in_ok-behind-in-len1-up
returns-in_ok-behind-in-len1-up t c =
    let behind = ap (map entry_of) c.as_slice.ensures.value ∙ c.in_ok-behind-in-len1-up.ensures ∙ ap (λ n. entries (records_from n (map entry_of (behind_first c.args.rows.now)))) c.in_ok-next-in-len1-up.ensures in
    if_ok_so c.with_row.result c.with_row.ensures (λ v p. p ∙ (λ i. put key_cmp (c.at_position.ensures.key i) (c.at_position.ensures.bytes i) (behind i)) ∙ first_at c.args.first c.args.rows.now _ c.in-len1-up.len_at_least)
