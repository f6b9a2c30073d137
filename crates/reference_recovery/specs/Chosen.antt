-- Which commits a recovery counts, and what it makes of records by one entry.
use Rattle.std.specs.Prelude.{ℕ, List, Bool, if◌then◌else◌, map}
use Rattle.std.specs.Option.{option_map}
use Rattle.vms_model.specs.Ids.{Id}
use Rattle.records_model.specs.Records.{Records, set_key}
use Rattle.records_model.specs.History.{reached}
use Rattle.reference_index.specs.recovery_model.File.{all_of}
use Rattle.reference_index.specs.recovery_model.Journal.{Entry, Changed, Settled, beyond, chosen}
use Rattle.reference_world.specs.declared.world.Placed.{Placed}
use Rattle.reference_world.specs.Standing.{placed_of}
use Rattle.reference_recovery.specs.declared.rolling.Chosen.{Chosen}
use Rattle.reference_recovery.specs.declared.rolling.Chosen.TheVariants as variants

-- whether a commit at a moment counts
abbrev pub passes_of : Chosen → ℕ → Bool
passes_of (variants.By until) = reached (option_map (λ moment. moment.0) until)
passes_of (variants.Past until) = beyond until.0

-- the branches that committed so that it counts, as these entries tell
abbrev pub picked : Chosen → List Placed → Id → Bool
picked c all = chosen (passes_of c) (all_of (map placed_of all))

-- records with the image of an entry set, where it is a change of a branch that passes
abbrev pub set_chosen : (Id → Bool) → Entry → Records → Records
set_chosen p (Changed s k v) m = if p s then set_key m k v else m
set_chosen p (Settled s outcome t) m = m
