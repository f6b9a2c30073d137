-- What a restart tells.
use Rattle.std.specs.Prelude.{List, []}
use Rattle.vms_base.specs.declared.protocol.LogRec.{LogRec}
use Rattle.recovery_units.specs.declared.settled.SettledUnit.{SettledUnit}

-- The settlements of the units that it undid, in their order; the records of the branches that are prepared, in the order in which these were; and the committed
-- records, in the order of the slots.
pub record ReopenedTold : Type 0 where
  pub settled : List SettledUnit
  pub prepared : List LogRec
  pub committed : List LogRec

-- nothing is told
abbrev pub nothing_told : ReopenedTold
nothing_told = record { settled = []; prepared = []; committed = [] }
