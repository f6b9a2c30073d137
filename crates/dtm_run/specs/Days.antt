-- What a run of a day promises.
use Rattle.std.specs.Prelude.{◌≡◌, ◌≤◌, ◌⊎◌, ℕ, List, ◌++◌, Option, length, map}
use Rattle.block_disk.specs.Disk.{DiskState}
use Rattle.transcript_model.specs.Outside.{behind}
use Rattle.world_laws.specs.run_model.World.{Node, World, opened}
use Rattle.world_laws.specs.run_model.Transcript.{Entry, Legal}
use Rattle.run_laws.specs.Laws.{AgreedPromises}
use Rattle.run_laws.specs.Promises.{KeptPromises}
use Rattle.manager_laws.specs.Promises.{ManagerPromises}
use Rattle.day_run.specs.node_standing.Standing.{counts_of}
use Rattle.day_script.specs.day_model.Days.{DayEnds}
use Rattle.day_run.specs.Tells.{EntriesTell}
use Rattle.dtm_run.specs.Headline.{Leaves}
use Rattle.dtm_run.specs.declared.top.Exit.{Exit}
use Rattle.dtm_run.specs.declared.top.Exit.TheVariants as exit

-- what was added of the text of a day: all of it, or where a write failed a front of it; a day has no other end
abbrev pub EndsDay : Exit → (text added : List ℕ) → Type 0
EndsDay exit.Done text added = added ≡ text
EndsDay exit.WriteFault text added = (rest : List ℕ) × (text ≡ added ++ rest)
EndsDay exit.BadLine text added = ⊥
EndsDay exit.Usage text added = ⊥
EndsDay exit.ReadFault text added = ⊥
EndsDay exit.Memory text added = ⊥
EndsDay exit.TooLong text added = ⊥

-- A day from these nodes on, which are down at first, whatever was known of their disks: the entries of its script are legal, up to where it ended, and keep the promises
-- of a run; its summary was shown, or the answer at which it ended; and the disks have what the nodes have.
pub record DayRan (nodes : List Node) (before after : List DiskState) (count start : ℕ) (old new : Option (List ℕ)) (ended : Exit) : Type 0 where
  pub entries : List Entry
  pub closing : World
  pub legal : Legal (opened nodes (map counts_of before)) entries closing
  pub leaves : Leaves before closing after
  pub promises : KeptPromises (opened nodes (map counts_of before)) entries closing
  pub managers : ManagerPromises (opened nodes (map counts_of before)) entries closing
  -- Both volumes are made anew, so that all else is kept too that entries tell where images agree; unless the day ended with the making of one.
  pub agreed : AgreedPromises (opened nodes (map counts_of before)) entries closing ⊎ (length entries ≤ 2)
  pub text : List ℕ
  pub day : DayEnds count start entries text
  pub added : List ℕ
  pub shows : new ≡ behind old added
  pub ends : EndsDay ended text added

-- Whether or not the disks tell their content: the entries of a day tell which calls armed or powered them.
pub record DayTold (names : List (List ℕ)) (before after : List DiskState) (count start : ℕ) (old new : Option (List ℕ)) (ended : Exit) : Type 0 where
  pub entries : List Entry
  pub tell : EntriesTell names before entries after
  pub text : List ℕ
  pub day : DayEnds count start entries text
  pub added : List ℕ
  pub shows : new ≡ behind old added
  pub ends : EndsDay ended text added
