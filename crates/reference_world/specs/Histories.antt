-- Histories by their unsettled branches.
use Rattle.std.specs.Prelude.{List, []}
use Rattle.std.specs.FinMap.{empty}
use Rattle.reference_index.specs.records_model.History.{History, LiveChanges}

-- a history of unsettled branches alone
abbrev pub only_live : List LiveChanges → History
only_live live = record { base = empty; moment = 0; settled = []; live = live }
