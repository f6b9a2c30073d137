use Rattle.change_set.proofs.records_model.SlotLaws.{put_keeps_order, tidy_keeps_order}
use Rattle.indexed_file.proofs.law.order_law.Goals as goal

pub returns-clause-put : goal.returns-clause-put
returns-clause-put c = put_keeps_order

pub returns-clause-tidy : goal.returns-clause-tidy
returns-clause-tidy c = tidy_keeps_order
