use Rattle.std.proofs.Common.{ap, sym, ◌∙◌}
use Rattle.std.specs.FinMap.{entries}
use Rattle.reference_index.specs.run_model.World.{loaded_map, records_from}
use Rattle.reference_index.proofs.ListLemmas.{if_ok_so}
use Rattle.reference_world.specs.Standing.{organization_of}
use Rattle.reference_recovery.proofs.loading.loaded_rows.Goals as goal

pub returns-in-Sequential : goal.returns-in-Sequential
returns-in-Sequential c = λ m h. if_ok_so c.numbered.result c.numbered.ensures (λ v p. p ∙ ap (λ es. entries (records_from 1 es)) h ∙ ap (λ o. entries (loaded_map (organization_of o) m)) (sym c.in-Sequential.is))
