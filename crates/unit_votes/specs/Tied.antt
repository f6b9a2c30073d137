-- How units hang together with the log.
use Rattle.std.specs.Prelude.{◌≡◌, ◌⊎◌, ℕ, Bool, true, false, List, Option, Some, None, IfSome}
use Rattle.commit_protocol.specs.Agreement.{Distinct}
use Rattle.commit_protocol.specs.Messages.{CommittedRecord, LogRecord, Name, PreparedRecord}
use Rattle.commit_protocol.specs.Table.{record_serials}
use Rattle.lmcp_log.specs.Log.{record_with}
use Rattle.unit_entries.specs.log_laws.Slots.{Slots, has_free, has_slot, records_in}
use Rattle.unit_table.specs.Units.{OpenUnit, unit_at}
use Rattle.vms_model.specs.Ids.{Id}
use Rattle.unit_votes.specs.Voting.{vote_record}

-- what the log has of a unit: its prepared record once it is prepared, and else nothing
abbrev pub IsRecorded : (prepared : Bool) → OpenUnit → Option LogRecord → Type 0
IsRecorded true u o = (rms : List Name) × (o ≡ Some (vote_record u.tid u.serial rms))
IsRecorded false u o = o ≡ None

-- a prepared unit of this branch stands at a place
pub record IsPreparedAt (places : List (Option OpenUnit)) (serial : Id) : Type 0 where
  pub place : ℕ
  pub unit : OpenUnit
  pub here : unit_at places place ≡ Some unit
  pub own : unit.serial ≡ serial
  pub prepared : unit.prepared ≡ true

-- Units and the log hang together: the prepared units are the branches that have a prepared record, each of its own transaction; a unit that is not prepared has
-- no record; and no branch has two units or two records.
pub record AreTied (places : List (Option OpenUnit)) (ss : Slots) : Type 0 where
  pub recorded : (p : ℕ) (u : OpenUnit) → unit_at places p ≡ Some u → IsRecorded u.prepared u (record_with u.serial ss)
  pub owned : (serial : Id) (r : LogRecord) → record_with serial ss ≡ Some r → r.kind ≡ PreparedRecord → IsPreparedAt places serial
  pub apart : (p q : ℕ) (u w : OpenUnit) → unit_at places p ≡ Some u → unit_at places q ≡ Some w → u.serial ≡ w.serial → p ≡ q
  pub distinct : Distinct (record_serials (records_in ss))

-- no unit is of this branch
abbrev pub IsOfNone : Id → List (Option OpenUnit) → Type 0
IsOfNone serial places = (p : ℕ) (u : OpenUnit) → unit_at places p ≡ Some u → u.serial ≡ serial → ⊥

-- what a settled branch may have in the log: a committed record, for which there is a slot, or nothing
abbrev pub IsOutcome : Id → Option LogRecord → Slots → Type 0
IsOutcome serial rec ss = IfSome rec (λ r. (r.serial ≡ serial) × (r.kind ≡ CommittedRecord) × ((has_slot serial ss ≡ true) ⊎ (has_free ss ≡ true)))

-- a unit after which another stands in its place, of the same branch and as prepared
pub record IsSameUnit (old new : OpenUnit) : Type 0 where
  pub tid : new.tid ≡ old.tid
  pub serial : new.serial ≡ old.serial
  pub prepared : new.prepared ≡ old.prepared
