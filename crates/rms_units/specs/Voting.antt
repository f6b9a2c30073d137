-- What votes promise, and the settlements of prepared units and of those whose outcome others are to be told.
use Rattle.std.specs.Prelude.{◌≡◌, ℕ, Bool, true, false, List, [], ◌∷◌, Option, Some, None}
use Rattle.unit_entries.specs.commit_protocol.Messages.{LogRecord, Name}
use Rattle.unit_entries.specs.log_laws.Slots.{Slots, forgotten, put_in, settled_in}
use Rattle.unit_journal.specs.Entries.{settled_entry}
use Rattle.unit_journal.specs.Groups.{Breaks}
use Rattle.unit_journal.specs.Settling.{entry_if, next_moment}
use Rattle.unit_table.specs.Units as table
use Rattle.unit_table.specs.Units.{OpenUnit, prepared_unit}
use Rattle.vms_base.specs.Ids.{serial_of, tid_of}
use Rattle.vms_base.specs.declared.ids.Serial.{Serial}
use Rattle.vms_base.specs.declared.ids.Tid.{Tid}
use Rattle.vms_base.specs.declared.outcomes.Reason.{Reason}
use Rattle.vms_model.specs.Transactions.{Commit}
use Rattle.volume.specs.State.{VolumeState}
use Rattle.volume_format.specs.declared.home.Ending.TheVariants as ending
use Rattle.unit_votes.specs.Voting.{AbortsLogged, BreaksOffLogged, MakesLogged, MakesVote, Settlement, vote_entry, vote_record}
use Rattle.rms_units.specs.declared.tokens.Vote.{Vote}
use Rattle.rms_units.specs.declared.tokens.Vote.TheVariants as vote
use Rattle.rms_units.specs.Aborting.{abortion_of}
use Rattle.rms_units.specs.Calls.{is_some_change}
use Rattle.rms_units.specs.State.{UnitsState, without_place}

-- whether a vote is yes
abbrev pub is_yes : Vote → Bool
is_yes vote.ReadOnly = false
is_yes (vote.Yes place) = true

-- this holds of the unit that is prepared by a vote
abbrev pub IfYes : Vote → (ℕ → Type 0) → Type 0
IfYes vote.ReadOnly P = Unit {0}
IfYes (vote.Yes unit) P = P unit

-- a unit votes yes where it has a change, or managers that are to be told its outcome; else it is read only
abbrev pub votes_yes : (positions : List ℕ) → (rms : List Name) → Bool
votes_yes [] [] = false
votes_yes [] (x ∷ xs) = true
votes_yes (p ∷ ps) xs = true

-- Its vote is made: its entry, where it changed something, and its record.
abbrev pub MakesVoteOf : OpenUnit → List Name → (ss ts : Slots) → (v w : VolumeState) → Type 0
MakesVoteOf u rms ss ts v w = MakesVote (vote_record u.tid u.serial rms) (vote_entry (is_some_change u.positions) u.tid u.serial) ss ts v w

-- A unit is prepared: its vote is made, and it keeps what it holds.
pub record Prepares (place : ℕ) (u : OpenUnit) (rms : List Name) (s : UnitsState) (ss : Slots) (v : VolumeState) (t : UnitsState) (ts : Slots) (w : VolumeState) : Type 0 where
  pub yes : votes_yes u.positions rms ≡ true
  pub unit : t ≡ record s { units = table.with_unit place (prepared_unit u) s.units }
  pub slots : ts ≡ put_in (vote_record u.tid u.serial rms) ss
  pub makes : MakesVoteOf u rms ss ts v w

-- A unit that only read is no more, what it held is free, and nothing is written.
pub record IsReadOnly (place : ℕ) (u : OpenUnit) (rms : List Name) (s : UnitsState) (ss : Slots) (v : VolumeState) (t : UnitsState) (ts : Slots) (w : VolumeState) : Type 0 where
  pub no : votes_yes u.positions rms ≡ false
  pub spent : t ≡ without_place place u.serial s
  pub slots : ts ≡ ss
  pub same : w ≡ v

-- by whether it voted yes
abbrev pub Votes : (yes : Bool) → (place : ℕ) → OpenUnit → List Name → UnitsState → Slots → VolumeState → UnitsState → Slots → VolumeState → Type 0
Votes true place u rms s ss v t ts w = Prepares place u rms s ss v t ts w
Votes false place u rms s ss v t ts w = IsReadOnly place u rms s ss v t ts w

-- The disk went down in a vote, and the unit is no more: it was perhaps under way.
pub record VotesNot (place : ℕ) (u : OpenUnit) (rms : List Name) (s : UnitsState) (ss : Slots) (v : VolumeState) (t : UnitsState) (ts : Slots) (w : VolumeState) : Type 0 where
  pub yes : votes_yes u.positions rms ≡ true
  pub spent : t ≡ without_place place u.serial s
  pub breaks : Breaks (MakesVoteOf u rms ss ts v) v w

-- the settlement of a unit's branch that is committed
abbrev pub commit_of : OpenUnit → Tid → Serial → (moment : ℕ) → UnitsState → Settlement
commit_of u tid serial moment t = record {
  files = u.files;
  tid = tid;
  serial = serial;
  ending = ending.Commit;
  moment = moment;
  entry = entry_if (is_some_change u.positions) (settled_entry u.tid u.serial Commit moment);
  left = t.units.places;
}

-- A unit is committed: it is no more, its settlement is made at this moment, and the log has this of it from then on.
pub record CommitsLogged (place : ℕ) (u : OpenUnit) (told_tid : Tid) (told_serial : Serial) (rec : Option LogRecord) (clock told_moment : ℕ) (s : UnitsState) (ss : Slots) (v : VolumeState) (t : UnitsState) (ts : Slots) (w : VolumeState) : Type 0 where
  pub spent : t ≡ without_place place u.serial s
  pub tid : tid_of told_tid ≡ u.tid
  pub serial : serial_of told_serial ≡ u.serial
  pub moment : told_moment ≡ next_moment clock v.catalog.home
  pub slots : ts ≡ settled_in u.serial rec ss
  pub makes : MakesLogged (commit_of u told_tid told_serial told_moment t) rec ss ts v w

-- The disk went down in it, and the unit is no more: the settlement was perhaps under way.
pub record CommitsLoggedNot (place : ℕ) (u : OpenUnit) (rec : Option LogRecord) (clock : ℕ) (s : UnitsState) (ss : Slots) (v : VolumeState) (t : UnitsState) (ts : Slots) (w : VolumeState) : Type 0 where
  pub spent : t ≡ without_place place u.serial s
  pub tid : Tid
  pub serial : Serial
  pub same_tid : tid_of tid ≡ u.tid
  pub same_serial : serial_of serial ≡ u.serial
  pub breaks : Breaks (MakesLogged (commit_of u tid serial (next_moment clock v.catalog.home) t) rec ss ts v) v w

-- A prepared unit is aborted: it is no more, what it changed is set back, its settlement is made at this moment, and the log has nothing of it from then on.
pub record AbortsPrepared (place : ℕ) (u : OpenUnit) (told_tid : Tid) (told_serial : Serial) (reason : Reason) (clock told_moment : ℕ) (s : UnitsState) (ss : Slots) (v : VolumeState) (t : UnitsState) (ts : Slots) (w : VolumeState) : Type 0 where
  pub spent : t ≡ without_place place u.serial s
  pub tid : tid_of told_tid ≡ u.tid
  pub serial : serial_of told_serial ≡ u.serial
  pub moment : told_moment ≡ next_moment clock v.catalog.home
  pub slots : ts ≡ forgotten u.serial ss
  pub aborts : AbortsLogged (abortion_of u told_tid told_serial reason told_moment t) ss ts v w

-- The disk went down in it, and the unit is no more: any part of what it changed may be set back, and the last group was perhaps under way.
pub record AbortsPreparedNot (place : ℕ) (u : OpenUnit) (reason : Reason) (clock : ℕ) (s : UnitsState) (ss : Slots) (v : VolumeState) (t : UnitsState) (ts : Slots) (w : VolumeState) : Type 0 where
  pub spent : t ≡ without_place place u.serial s
  pub tid : Tid
  pub serial : Serial
  pub same_tid : tid_of tid ≡ u.tid
  pub same_serial : serial_of serial ≡ u.serial
  pub breaks : BreaksOffLogged (abortion_of u tid serial reason (next_moment clock v.catalog.home) t) ss ts v w
