-- A recovery at a node: what it leaves of its file.
use Rattle.std.specs.Prelude.{◌≡◌, ℕ, List, Bool, true, Some, None, length}
use Rattle.std.specs.FinMap.{entries}
use Rattle.vms_model.specs.Ids.{Id}
use Rattle.world_laws.specs.transcript_model.Lines.{NormalCount}
use Rattle.world_laws.specs.script_model.Statements.{Recover, Recovery}
use Rattle.unit_laws.specs.records_model.History.{current, records}
use Rattle.world_laws.specs.recovery_model.Recovery.{Covers, records_by, rolled}
use Rattle.world_laws.specs.run_model.World.{File, Node, Shared, find_file, loaded_map, state_of}
use Rattle.world_laws.specs.run_model.Answers.{refused_before_reading, service, way_of}
use Rattle.world_laws.specs.run_model.Steps.{node_after_rows}
use Rattle.world_laws.specs.Nodes.{IsKeptNode}
use Rattle.recovery_laws.specs.Led.{IsTold}

-- The file as a recovery leaves it, which the journals and the save reached: it has what the journals and the save make, as that is loaded; that is the records of the moment, and where a load leaves these as
-- they are, the file has them; they stand, and their number is answered.
pub record IsRecovered (s : Shared) (n : Node) (file : List ℕ) (way : Recovery) (f : File) : Type 0 where
  pub left : File
  pub there : find_file file (node_after_rows ((service (Recover file way)).rows s n) n).durable.directory ≡ Some left
  pub reached : Covers (way_of way) (state_of f)
  pub made : records left.history ≡ loaded_map f.organization (rolled (way_of way) (state_of f))
  pub told : rolled (way_of way) (state_of f) ≡ records_by (way_of way) (state_of f)
  pub moment : loaded_map f.organization (rolled (way_of way) (state_of f)) ≡ rolled (way_of way) (state_of f) → records left.history ≡ records_by (way_of way) (state_of f)
  pub stands : current left.history ≡ records left.history
  pub counted : (service (Recover file way)).answer s n ≡ NormalCount (length (entries (current left.history)))

-- So it is of each that nothing refuses, at a node that is up, of a file that recovery can tell of.
abbrev pub RecoveriesGiveRecords : Type 0
RecoveriesGiveRecords = (s : Shared) (n : Node) (file : List ℕ) (way : Recovery) (f : File) (may waits : Id → Bool) → IsKeptNode s n → n.up ≡ true → find_file file n.durable.directory ≡ Some f →
    refused_before_reading s n (service (Recover file way)) ≡ None → IsTold may waits n.durable.greatest f → IsRecovered s n file way f
