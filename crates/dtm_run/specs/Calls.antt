-- What a run tells whether or not its disks tell their content: the calls that they were armed and powered by, and which statements the lines before refuse.
use Rattle.std.specs.Prelude.{◌≡◌, ℕ, List, Option}
use Rattle.block_disk.specs.Disk.{DiskState}
use Rattle.transcript_model.specs.Script.{ScriptLine}
use Rattle.transcript_model.specs.Outside.{behind}
use Rattle.world_laws.specs.run_model.Transcript.{AreInLimits, Ends, Entry}
use Rattle.day_run.specs.Tells.{EntriesTell}
use Rattle.dtm_run.specs.Headline.{exit_of}
use Rattle.dtm_run.specs.declared.top.Exit.{Exit}

-- A run over these disks: its lines, and what was shown for each up to the exit, tell of the disks' calls and failures from the first state to the last, and
-- follow each other.
pub record DisksFollowRun (names : List (List ℕ)) (before after : List DiskState) (script : Option (List ScriptLine)) (old new : Option (List ℕ)) (ended : Exit) : Type 0 where
  pub entries : List Entry
  pub tell : EntriesTell names before entries after
  pub in_limits : AreInLimits entries
  pub added : List ℕ
  pub shows : new ≡ behind old added
  pub ends : Ends (exit_of ended) script entries added
