use Rattle.std.proofs.Common.{ap}
use Rattle.careful_write.specs.State.{StoreState}
use Rattle.unit_undo.proofs.StagedLemmas.{change_read, no_change_read}
use Rattle.unit_undo.proofs.undoing.read_change.Goals as goal

pub returns-in-Ok-Some-clause-entry : goal.returns-in-Ok-Some-clause-entry
returns-in-Ok-Some-clause-entry g c = change_read _ _ _ _ _ _ _ _ _ c.ru.ensures (ap (λ (x : StoreState). x.current) c.store.ensures.value) c.in-Ok-Some.field-0-is c.in-Ok-Some.ensures.entry

pub returns-in-Ok-None-clause-entry : goal.returns-in-Ok-None-clause-entry
returns-in-Ok-None-clause-entry g c = no_change_read _ _ _ _ _ _ _ c.ru.ensures (ap (λ (x : StoreState). x.current) c.store.ensures.value) c.in-Ok-None.field-0-is c.in-Ok-None.ensures.entry
