-- What a restart makes of the units of a volume, with the log of that volume.
use Rattle.std.specs.Prelude.{◌≡◌, ◌≤◌, ◌+◌, ℕ, List, [], IfSome, length, map}
use Rattle.vms_model.specs.Limits.{branch_limit, lock_limit}
use Rattle.unit_entries.specs.commit_protocol.Agreement.{Distinct}
use Rattle.unit_entries.specs.commit_protocol.Table.{record_serials}
use Rattle.journal_model.specs.Entries.{Entry}
use Rattle.journal_model.specs.Ring.{IsJournal}
use Rattle.unit_entries.specs.log_laws.Slots.{Slots, committed_of, prepared_of, records_in}
use Rattle.record_locks.specs.Locks.{Lock}
use Rattle.unit_entries.specs.run_model.World.{records_by}
use Rattle.lmcp_log.specs.tm_types.Parts.{log_record_of}
use Rattle.unit_aborts.specs.Reopening.{Reopens, ReopensNot}
use Rattle.unit_aborts.specs.declared.reopening.AbortedUnit.{AbortedUnit}
use Rattle.unit_entries.specs.Voting.{votes_in}
use Rattle.unit_returns.specs.unit_journal.Groups.{LeavesOld}
use Rattle.unit_returns.specs.Returning.{AreAllChangesAt, AreOfRecords, HaveChanges, HoldChanges}
use Rattle.unit_table.specs.Units.{OpenUnit, Units, begun}
use Rattle.vms_base.specs.declared.protocol.LogRec.{LogRec}
use Rattle.vms_model.specs.Ids.{Id}
use Rattle.volume.specs.State.{VolumeState}

-- The units that were undone, in the order of their settlements; the records of the prepared branches, in the order in which these were prepared; the committed records, in
-- the order of the slots; and the places of the prepared branches' units, in the order of their records.
pub record RestartTold : Type 0 where
  pub undone : List AbortedUnit
  pub prepared : List LogRec
  pub committed : List LogRec
  pub units : List ℕ

abbrev pub nothing_told : RestartTold
nothing_told = record { undone = []; prepared = []; committed = []; units = [] }

-- The units of a journal that are not prepared were undone, and each prepared record of the log has its unit: with the changes that the journal left of its branch, which it
-- holds. Those that were undone and those that stay are 64 together at the most; where the log as it was found has no more records than that allows, they are in the order of
-- the Prepared entries, as the volume had them before, and the others follow in the order of the slots.
pub record Restarts (clock : ℕ) (v : VolumeState) (found log : Slots) (units : Units) (locks : List Lock) (w : VolumeState) (told : RestartTold) : Type 0 where
  pub places : told.units ≡ units.order
  pub committed : map log_record_of told.committed ≡ committed_of (records_in log)
  pub votes : List Id
  pub arranged : map log_record_of told.prepared ≡ records_by votes (prepared_of (records_in log))
  pub ordered : length told.undone + length (prepared_of (records_in found)) ≤ branch_limit →
      IfSome v.store.current (λ c. (es : List Entry) → IsJournal c v.catalog.ru es → map log_record_of told.prepared ≡ records_by (votes_in es) (prepared_of (records_in log)))
  pub few : length told.undone + length told.prepared ≤ branch_limit
  pub left : List OpenUnit
  pub reopens : Reopens clock v w told.undone left
  pub records : AreOfRecords (map log_record_of told.prepared) (begun units)
  pub changes : Distinct (record_serials (map log_record_of told.prepared)) → HaveChanges left (begun units)
  pub hold : IfSome w.store.current (λ c. (ess : List (List Entry)) → AreAllChangesAt w.catalog.ru (begun units) ess c → HoldChanges w.catalog.heads lock_limit (begun units) ess [] locks)

-- The disk went down before all units were undone that are not prepared, or afterwards, while the prepared ones were read.
pub data RestartsNot (clock : ℕ) (v w : VolumeState) (out : List AbortedUnit) : Type 0 where
  undoing : ReopensNot clock v w out → RestartsNot clock v w out
  returning : (mid : VolumeState) (left : List OpenUnit) → Reopens clock v mid out left → LeavesOld mid w.store.disk → RestartsNot clock v w out
