use Rattle.std.proofs.Common.{◌∙◌, ap}
use Rattle.std.specs.Prelude.{map}
use Rattle.std.specs.FinMap.{from_entries}
use Rattle.reference_index.specs.records_model.History.{current}
use Rattle.reference_world.specs.Standing.{entry_of, history_of}
use Rattle.reference_index.proofs.ListLemmas.{if_ok_so}
use Rattle.reference_world.proofs.EntryLemmas.{from_all}
use Rattle.reference_world.proofs.directory.kept_records.Goals as goal

pub returns : goal.returns
returns c = if_ok_so c.keep_rows.result c.keep_rows.ensures (λ v p. ap from_entries (p ∙ ap (map entry_of) c.as_slice.ensures.value ∙ c.in_ok-rows.ensures) ∙ from_all (current (history_of c.args.file.now)))
