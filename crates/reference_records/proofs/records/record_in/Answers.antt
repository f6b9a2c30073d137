use Rattle.std.proofs.Common.{ap, ◌∙◌, sym}
use Rattle.std.specs.FinMap.{get-entries}
use Rattle.std.specs.FinMap.Entries.{find}
use Rattle.reference_index.specs.records_model.Records.{key_cmp}
use Rattle.reference_index.specs.run_model.Operations.{current_records}
use Rattle.reference_index.specs.Standing.{lent_key}
use Rattle.reference_world.specs.Standing.{file_of}
use Rattle.reference_records.proofs.records.record_in.Goals as goal

pub returns : goal.returns
returns c = c.find_row.ensures ∙ ap (find key_cmp (lent_key c.args.key)) c.requires ∙ sym (get-entries (current_records (file_of c.args.f.now)) (lent_key c.args.key))
