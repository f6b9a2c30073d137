-- What the disk has that the code's values stand for.
use Rattle.std.specs.Prelude.{ℕ, ◌+◌, ◌*◌, ◌≤◌, List, [], ◌∷◌, Bool, false, Option, Some, None, if◌then◌else◌, map, option_map, length}
use Rattle.vms_model.specs.Ids.{Id}
use Rattle.vms_model.specs.Keys.{End}
use Rattle.vms_model.specs.Keys as keys
use Rattle.vms_model.specs.Limits.{slot_limit}
use Rattle.reference_index.specs.transcript_model.Lines as line
use Rattle.records_model.specs.History.{first_to_change}
use Rattle.reference_index.specs.unit_laws.Journal.{JournalEntry, empty_journal, entries_size, owed, units_in}
use Rattle.log_laws.specs.commit_protocol.Messages.{LogRecord, same_id}
use Rattle.log_laws.specs.commit_protocol.Table.{Branch, Active, Key}
use Rattle.log_laws.specs.commit_protocol.Rows.{blank}
use Rattle.log_laws.specs.Slots.{Slots}
use Rattle.reference_index.specs.run_model.World as world
use Rattle.reference_index.specs.run_model.Locks.{Lock}
use Rattle.reference_index.specs.run_model.Answers as answers
use Rattle.reference_index.specs.run_model.Steps.{node_after_rows}
use Rattle.reference_index.specs.script_model.Statements.{Form}
use Rattle.tm_types.specs.Parts.{log_record_of}
use Rattle.vms_base.specs.declared.protocol.LogRec.{LogRec}
use Rattle.reference_world.specs.Standing.{settlement_of, volume_of, directory_of}
use Rattle.reference_units.specs.Entries.{journal_of}
use Rattle.reference_disk.specs.declared.disk.Durable.{Durable}

abbrev pub slots_of : List (Option LogRec) → Slots
slots_of ss = map (option_map log_record_of) ss

abbrev pub log_records_of : List LogRec → List LogRecord
log_records_of rs = map log_record_of rs

abbrev pub durable_of : Durable → world.Durable
durable_of d = record {
  volume = volume_of d.volume;
  log = slots_of d.log.items;
  journal = d.journal;
  boot = d.boot;
  greatest = d.greatest;
  last = option_map settlement_of d.last;
  units = journal_of d.units;
  directory = directory_of d.directory.items;
}

-- a node of this name whose disk has so many blocks and this, and that has nothing else
abbrev pub node_on : (name : List ℕ) → (blocks : ℕ) → world.Durable → world.Node
node_on name blocks d = record {
  name = name;
  blocks = blocks;
  durable = d;
  volatile = world.nothing_volatile;
  unmade = false;
  up = false;
  was_up = false;
  clock = 0;
  settled = [];
  calls = [];
  under_way = None;
}

-- a node with this disk, where neither its name nor its size counts
abbrev pub disk_node : Durable → world.Node
disk_node d = node_on [] 0 (durable_of d)

-- what a node has whose disk has this, once a file was made
abbrev pub after_creation : List ℕ → (blocks bucket size : ℕ) → Form → world.Durable → world.Node
after_creation name blocks bucket size form d = let n = node_on [] blocks d in
    node_after_rows (answers.creates n (λ start. answers.created name bucket size form start d.greatest) (answers.blocks_for bucket size form)) n

-- what a node has while it is up whose branches hold these keys, where nothing else counts
abbrev pub holding : List Lock → world.Volatile
holding ls = record world.nothing_volatile { locks = ls }

-- a branch, where only its key counts
abbrev pub branch_with : Key → Branch
branch_with k = blank k.tid k.serial None Active None

-- a file that is to be shown: the first of these branches that changed it refuses that
abbrev pub first_changed : List Id → world.File → Option line.Line
first_changed serials f = elim (first_to_change f.history serials) [ Some serial ↦ Some (line.FileLocked serial) | None ↦ None ]

-- the bytes that these entries of a branch want, and what the branch is owed with the first of them
abbrev pub need_of : List JournalEntry → (owed : ℕ) → ℕ
need_of [] owed = 0
need_of (e ∷ es) owed = entries_size (e ∷ es) + owed

-- a key, and perhaps the end of its file
abbrev pub key_with : (end : Bool) → keys.Key → List keys.Key
key_with end k = if end then k ∷ End ∷ [] else k ∷ []

-- the transaction of the record of this serial, or else the serial
abbrev pub logged_tid : Id → Slots → Id
logged_tid s [] = s
logged_tid s (None ∷ ss) = logged_tid s ss
logged_tid s (Some q ∷ ss) = if same_id q.serial s then q.tid else logged_tid s ss

-- a line, where there is one
abbrev pub one_line : Option line.Line → List line.Line
one_line (Some l) = l ∷ []
one_line None = []

-- The log has no more slots than a log may have. The bytes of the journal's entries and those that its units are owed are no more than its blocks have, which
-- are no more than a volume may have.
pub record HasRoom (d : world.Durable) : Type 0 where
  pub slots : length d.log ≤ slot_limit
  pub journal : d.journal ≤ 8192
  pub bytes : entries_size d.units.entries + owed (units_in d.units.entries) ≤ 512 * d.journal
