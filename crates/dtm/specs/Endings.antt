-- How the work that words ask for ended, whatever nodes it left: these end with the process.
use Rattle.std.specs.Prelude.{ℕ, List, Option}
use Rattle.block_disk.specs.Disk.{DiskState}
use Rattle.dtm_command.specs.Images.{Store}
use Rattle.dtm_run.specs.declared.rack.Rack.{Rack}
use Rattle.dtm_run.specs.declared.top.Exit.{Exit}
use Rattle.dtm.specs.Commands.{CommandRan}
use Rattle.dtm.specs.Days.{DayCommandRan}

abbrev pub DayEnded : {Image : Type 0} (state : Image → DiskState) (words : List (List ℕ)) (script rest old new : Option (List ℕ)) (ended : Exit) → Type 0
DayEnded {Image} state words script rest old new ended = (left : Rack Image) × DayCommandRan state words script rest old new ended left

abbrev pub ScriptEnded : {File Image : Type 0} (store : Store File Image) (state : Image → DiskState) (words : List (List ℕ)) (script rest old new : Option (List ℕ)) (ended : Exit) → Type 0
ScriptEnded {File} {Image} store state words script rest old new ended = (left : Rack Image) × CommandRan store state words script rest old new ended left
