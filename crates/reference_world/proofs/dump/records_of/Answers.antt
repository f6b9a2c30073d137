use Rattle.reference_index.specs.records_model.History.{records}
use Rattle.reference_world.specs.Standing.{history_of}
use Rattle.reference_world.proofs.dump.records_of.Goals as goal

pub returns : goal.returns
returns c = rw c.as_slice-live.ensures.value at (c.with_live.ensures (records (history_of c.args.file.now)) (rw c.as_slice-left_rows.ensures.value c.in_ok-left.ensures))
