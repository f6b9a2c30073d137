-- What a recovery gives a file of a disk.
use Rattle.std.specs.Prelude.{◌≡◌, List, Option, Some, None, map}
use Rattle.std.specs.FinMap.{entries}
use Rattle.reference_index.specs.script_model.Statements.{Recovery}
use Rattle.reference_index.specs.run_model.World as world
use Rattle.reference_index.specs.run_model.Answers.{blocks_recovered, records_recovered}
use Rattle.reference_world.specs.Standing.{kept_of, rows_of}
use Rattle.reference_recovery.specs.declared.loading.Load.{Load}

-- it is what the definitions give this file
pub record IsRecoveredBy (way : Recovery) (f : world.File) (given : Option Load) : Type 0 where
  pub value : Load
  pub is : given ≡ Some value
  pub rows : map kept_of value.rows.items ≡ entries (records_recovered way f)
  pub map : rows_of value.rows.items ≡ records_recovered way f
  pub buckets : value.buckets ≡ world.buckets_loaded f (records_recovered way f)
  pub blocks : value.blocks ≡ blocks_recovered way f

-- where there is the file; and nothing is given where there is none
abbrev pub IsGiven : Recovery → Option world.File → Option Load → Type 0
IsGiven way None given = given ≡ None
IsGiven way (Some f) given = IsRecoveredBy way f given
