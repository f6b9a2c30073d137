-- Settlements of a restart as the units tell them, and as they are told above.
use Rattle.recovery_units.specs.declared.settled.SettledUnit.{SettledUnit}
use Rattle.rms_units.specs.unit_aborts.declared.reopening.AbortedUnit.{AbortedUnit}

abbrev pub unit_settled : AbortedUnit → SettledUnit
unit_settled t = record { tid = t.tid; serial = t.serial; moment = t.moment }
