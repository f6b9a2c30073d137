use Rattle.std.proofs.lemmas.Result.{IfOk-weaker}
use Rattle.dtm.proofs.DayLemmas.{blank}
use Rattle.dtm.proofs.day.blank_disk.Goals as goal

pub returns : goal.returns
returns c = IfOk-weaker c.new-2.result _ _ (λ disk e. blank _ _ _ _ e c.in_ok-new.ensures.size c.in_ok-new.ensures.faults c.in_ok-new.ensures.zeros) c.new-2.ensures.state
