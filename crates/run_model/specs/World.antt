-- The world of a run: what the statements so far have made of the nodes.
use Rattle.std.specs.Prelude.{◌≡◌, ◌⊎◌, ◌≤◌, ℕ, zero, suc, ◌+◌, ◌-◌, ◌*◌, ◌/◌, List, [], ◌∷◌, Bool, true, false, ◌||◌, Option, Some, None, if◌then◌else◌, map, option_map, ◌++◌, length, max, nat_le, nat_lt, replicate, slice_set, slice_index_or}
use Rattle.std.specs.Str.{bytes_eq}
use Rattle.std.specs.List.{AllByRecursion, list_any}
use Rattle.std.specs.Option.{option_and_then, is_none}
use Rattle.std.specs.FinMap.{empty, entries, get, insert}
use Rattle.std.specs.Ordering.{eq_by_cmp}
use Rattle.transcript_model.specs.vms_model.Ids.{Id}
use Rattle.transcript_model.specs.vms_model.Keys.{Key, Number, Text, End}
use Rattle.transcript_model.specs.vms_model.Transactions.{Outcome, Commit, Abort, Reason, SegFail}
use Rattle.transcript_model.specs.vms_model.Limits.{branch_limit, file_limit, lock_limit, message_limit, slot_limit}
use Rattle.transcript_model.specs.vms_model.Blocks.{log_start}
use Rattle.recovery_model.specs.records_model.Records.{Change, Records, key_cmp}
use Rattle.recovery_model.specs.tree_model.Layouts.{Layout, Sizes}
use Rattle.recovery_model.specs.tree_model.Layouts.{no_layout, used_of}
use Rattle.recovery_model.specs.tree_model.Loads.{loaded, slot_for}
use Rattle.recovery_model.specs.tree_model.Setting.{layout_changed}
use Rattle.recovery_model.specs.records_model.History.{History, LiveChanges, same_id, changes_by, changes_key, changed_it, changed_with, current, settled_at}
use Rattle.recovery_model.specs.records_model.Placing.{filled_by, first_bucket}
use Rattle.recovery_model.specs.records_model.Slots.{Slot}
use Rattle.recovery_model.specs.unit_laws.Units.{OneMovesEnd}
use Rattle.recovery_model.specs.unit_laws.Layouts.{layout_restored}
use Rattle.recovery_model.specs.unit_laws.Units.{IsImage, Map, earliest_before, latest_after}
use Rattle.recovery_model.specs.unit_laws.Journal.{Journal, JournalEntry, is_of_file, RecoveryUnit, empty_journal, entries_for, with_entries, with_settled, trimmed, units_in, find_unit, serial_in, is_settled_in, ChangeEntry, PreparedEntry, SettledEntry}
use Rattle.recovery_model.specs.unit_laws.JournalLaws.{HasNotes, is_unit}
use Rattle.recovery_model.specs.Journal as image
use Rattle.recovery_model.specs.File.{FileState, ImageJournal, IsInOrder, Save, all_of, append, ended, no_images, renewed, renewed_if_on}
use Rattle.recovery_model.specs.Opening.{IsSaved, TellsBranches, TellsFound, TellsKeys}
use Rattle.recovery_model.specs.Room.{HasRoom}
use Rattle.script_model.specs.Statements.{Side, AfterImages, BeforeImages}
use Rattle.transcript_model.specs.commit_protocol.Messages.{Name, Message, LogRecord}
use Rattle.transcript_model.specs.commit_protocol.Table as table
use Rattle.transcript_model.specs.commit_protocol.Table.{Branch, Tm, Key as BranchKey, Prepares, Settles, Leaves, Undoes, Accepts, Sends, child, table_after, records_after, record_key, record_serials, branches_of}
use Rattle.transcript_model.specs.commit_protocol.Agreement.{Distinct}
use Rattle.transcript_model.specs.commit_protocol.Standing.{writes}
use Rattle.log_laws.specs.Slots.{Slots, records_in, prepared_of, committed_of, slots_after}
use Rattle.transcript_model.specs.commit_protocol.Limits.{PreparedWithin, RecordWithin}
use Rattle.transcript_model.specs.commit_protocol.World.{In}
use Rattle.run_model.specs.Extents.{Extent, longest_run, lowest_run}
use Rattle.run_model.specs.Locks.{Lock, is_locked, with_locks, released}

-- a branch's end: how and when it was settled, and why where it was aborted
pub record Settlement : Type 0 where
  pub tid : Id
  pub serial : Id
  pub outcome : Outcome
  pub reason : Option Reason
  pub moment : ℕ

-- A label: the node that it was made for, and its transaction. It names the transaction's first branch, or a branch that was authorised by this identifier;
-- the serial is that of the branch, once there is one.
pub record Label : Type 0 where
  pub name : List ℕ
  pub node : List ℕ
  pub tid : Id
  pub bid : Option Id
  pub serial : Option Id

-- How a file keeps its records: one behind the other, at the positions from 1 on; in cells, at the numbers from 1 to the greatest; or by a key of this
-- size, in bytes, which stands at this position of each record, from 0.
pub data Organization : Type 0 where
  Sequential : Organization
  Relative : (greatest : ℕ) → Organization
  Indexed : (position size : ℕ) → Organization

-- What a file carries for its recovery: the journals of its after images and of its before images, the moment since which before images are kept, and its save,
-- where it has one.
pub record Carried : Type 0 where
  pub after : ImageJournal
  pub before : ImageJournal
  pub since : ℕ
  pub save : Option Save

-- A file: how its buckets and records are sized, how it keeps records, where its buckets lie, what it carries for its recovery, whether it is marked for
-- recovery units, its history, its records at the moments before its base, and, where it is indexed, the layout of its used buckets. A bucket is counted in blocks,
-- a record in bytes.
pub record File : Type 0 where
  pub name : List ℕ
  pub bucket : ℕ
  pub record_size : ℕ
  pub organization : Organization
  pub start : ℕ
  pub buckets : ℕ
  pub carried : Carried
  pub recovery_units : Bool
  pub history : History
  pub past : ℕ → Records
  pub layout : Layout

-- the blocks of a file's buckets
abbrev pub extent_of : File → Extent
extent_of f = record { start = f.start; blocks = f.buckets * f.bucket }

-- the blocks of a journal of images, and of a save in buckets of so many blocks
abbrev pub journal_extent : ImageJournal → Extent
journal_extent j = record { start = j.start; blocks = j.blocks }

abbrev pub save_extent : (bucket : ℕ) → Option Save → Extent
save_extent bucket None = record { start = 0; blocks = 0 }
save_extent bucket (Some v) = record { start = v.start; blocks = v.buckets * bucket }

-- the blocks that a file has to itself besides its buckets: its journals' and its save's
abbrev pub others_of : File → List Extent
others_of f = journal_extent f.carried.after ∷ journal_extent f.carried.before ∷ save_extent f.bucket f.carried.save ∷ []

-- nothing is carried
abbrev pub nothing_carried : Carried
nothing_carried = record { after = no_images; before = no_images; since = 0; save = None }

-- what recovery knows of a file
abbrev pub state_of : File → FileState
state_of f = record {
  timeline = record { history = f.history; past = f.past };
  ai = f.carried.after;
  bi = f.carried.before;
  bi_since = f.carried.since;
  save = f.carried.save;
}

-- what a file is marked with: for recovery units, or no more; or a journal of images begins in these blocks, or ends
pub data Mark : Type 0 where
  ForUnits : Bool → Mark
  BeginsImages : Side → (start blocks : ℕ) → Mark
  EndsImages : Side → Mark

-- What bars each boot of a volume: its journal of recovery units, or a file's journal of images, whose first block this is, does not lie in its ring; an indexed file, whose root begins at this block, has several buckets
-- and no index, or an index and one bucket; it was booted as often as may be; its greatest moment is too late; or a journal has come too far.
pub data Bar : Type 0 where
  NoRing : (block : ℕ) → Bar
  NoIndex : (block : ℕ) → Bar
  AllBoots : Bar
  LateMoment : Bar
  FarPosition : Bar

-- What a node's disk has: a volume of this node; none, for of the conditions of a volume this is the first that fails, at this block; a volume with which the node
-- is not booted, and of which nothing else is known; or nothing that is known: after an INIT that failed, or before a run on a disk of which nothing is promised.
pub data Volume : Type 0 where
  Sound : Volume
  Faulty : (condition block : ℕ) → Volume
  Barred : Bar → Volume
  Unknown : Volume

-- One change of a node, which takes place whole or not at all. A volume is made with so many log slots and blocks of a journal. A boot raises the boot count, with
-- which the node has what its disk tells; and in the end the node comes up. A new file takes a place of the directory; a file is marked; it is saved from this block
-- on; or these records take the place of its own, in so many buckets from this block on. An id is drawn; a label is made, or takes it as its serial. The node does an act of its table; where that settles a branch, it is at this moment. The changes
-- of one statement are one act; they stand newest first, and their branch holds these keys from then on. It holds what it read too. Changes without a label are made
-- by a branch of their own and settled in one act. The disk is armed to stop after so many writes, with a choice of what is left then; the clock is set; these are
-- the resource managers that are declared from then on; the node falls.
pub data Act : Type 0 where
  Formats : (slots journal : ℕ) → Act
  Boots : Act
  ComesUp : Act
  Creates : (place : ℕ) → File → Act
  Marks : (file : List ℕ) → Mark → Act
  Saves : (file : List ℕ) → (start : ℕ) → Act
  Recovers : (file : List ℕ) → (start buckets : ℕ) → Records → Act
  Draws : Act
  Labels : Label → Act
  Numbers : (label : List ℕ) → (serial : Id) → Act
  Tables : table.Act → (moment : ℕ) → Act
  Changes : (tid serial : Id) → (file : List ℕ) → List Change → List Key → Act
  Holds : (serial : Id) → (file : List ℕ) → List Key → Act
  Directs : (file : List ℕ) → List Change → Settlement → Act
  Arms : (writes choice : ℕ) → Act
  Clocks : (now : ℕ) → Act
  Declares : (rms : List Name) → Act
  Falls : Act

-- whether an act is one step of the disk, which a failure of the disk may find under way
abbrev pub is_durable : Act → Bool
is_durable Boots = true
is_durable (Creates place file) = true
is_durable (Marks file mark) = true
is_durable (Saves file start) = true
is_durable (Recovers file start buckets m) = true
is_durable (Changes tid serial file changes keys) = true
is_durable (Directs file changes s) = true
is_durable (Tables a moment) = writes a
is_durable (Formats slots journal) = false
is_durable ComesUp = false
is_durable Draws = false
is_durable (Labels l) = false
is_durable (Numbers label serial) = false
is_durable (Holds serial file keys) = false
is_durable (Arms writes choice) = false
is_durable (Clocks now) = false
is_durable (Declares rms) = false
is_durable Falls = false

-- a call by which a disk is made to stop, or runs again after a power loss, with the count of its stops before that
pub data Call : Type 0 where
  Arm : (writes choice : ℕ) → Call
  Power : (stops : ℕ) → Call

-- What a node's disk has, which outlasts the node's fall: the volume, its log and its journal's blocks; how often the node was booted, the greatest moment and
-- the last settlement; the journal of recovery units; and the directory, a place for each file number.
pub record Durable : Type 0 where
  pub volume : Volume
  pub log : Slots
  pub journal : ℕ
  pub boot : ℕ
  pub greatest : ℕ
  pub last : Option Settlement
  pub units : Journal
  pub directory : List (Option File)

-- What a node has while it is up: how many ids it drew in this boot; its table, which are its unsettled branches in the order of their start and its committed
-- records; the branches that were prepared, in the order of that; the keys that unsettled branches hold; and the resource managers that are declared, in the order
-- of that.
pub record Volatile : Type 0 where
  pub drawn : ℕ
  pub branches : List Branch
  pub records : List LogRecord
  pub preparation : List BranchKey
  pub locks : List Lock
  pub declared : List Name

-- A node: its name, its disk's blocks, what its disk has, and what it has while it is up. And of the run: whether the last INIT that was not refused failed;
-- whether the node is up, and was up before in this run; its clock; its settlements and the calls that armed or powered its disk, the newest first. Where it
-- fell in a statement that its disk did not serve, an act may be under way: whether it has taken place is settled when the disk runs again.
pub record Node : Type 0 where
  pub name : List ℕ
  pub blocks : ℕ
  pub durable : Durable
  pub volatile : Volatile
  pub unmade : Bool
  pub up : Bool
  pub was_up : Bool
  pub clock : ℕ
  pub settled : List Settlement
  pub calls : List Call
  pub under_way : Option Act

-- how often calls of a disk failed, and how often it was stopped
pub record DiskCounts : Type 0 where
  pub faults : ℕ
  pub stops : ℕ

-- What the nodes of a rack share: the labels, the newest first; whether a node may have been in use, so that no volume is made any more; the numbered messages,
-- the first first; and the branches that were told to be accepted, and to be read-only.
pub record Shared : Type 0 where
  pub labels : List Label
  pub in_use : Bool
  pub wire : List Message
  pub accepted : List BranchKey
  pub read_only : List BranchKey

-- the nodes and their disks in the order of the rack, and what they share
pub record World : Type 0 where
  pub nodes : List Node
  pub disks : List DiskCounts
  pub shared : Shared

-- Finding.

-- the node of this name, where there is one
abbrev pub find_node : List ℕ → List Node → Option Node
find_node name [] = None
find_node name (n ∷ ns) = if bytes_eq name n.name then Some n else find_node name ns

-- the counts of the disk of the node of this name, which stand at the node's place
abbrev pub disk_of : List ℕ → List Node → List DiskCounts → Option DiskCounts
disk_of name [] disks = None
disk_of name (n ∷ ns) [] = None
disk_of name (n ∷ ns) (d ∷ ds) = if bytes_eq name n.name then Some d else disk_of name ns ds

-- the first file of this name in a directory, where there is one
abbrev pub find_file : List ℕ → List (Option File) → Option File
find_file name [] = None
find_file name (None ∷ fs) = find_file name fs
find_file name (Some f ∷ fs) = if bytes_eq name f.name then Some f else find_file name fs

-- the lowest place of a directory that no file has, where there is one
abbrev pub free_place : List (Option File) → Option ℕ
free_place [] = None
free_place (None ∷ fs) = Some 0
free_place (Some f ∷ fs) = option_map suc (free_place fs)

-- the blocks that the files of a directory have to themselves
abbrev pub extents_of : List (Option File) → List Extent
extents_of [] = []
extents_of (None ∷ fs) = extents_of fs
extents_of (Some f ∷ fs) = extent_of f ∷ others_of f ++ extents_of fs

-- the label of this name, whatever its node, where there is one
abbrev pub find_label : List ℕ → List Label → Option Label
find_label name [] = None
find_label name (l ∷ ls) = if bytes_eq name l.name then Some l else find_label name ls

-- the unsettled branch of this serial, where there is one
abbrev pub find_branch : Id → List Branch → Option Branch
find_branch serial [] = None
find_branch serial (b ∷ bs) = if same_id serial b.key.serial then Some b else find_branch serial bs

-- the serials of branches
abbrev pub serials_of : List Branch → List Id
serials_of bs = map (λ b. b.key.serial) bs

-- the label of this name, where it was made for this node
abbrev pub labelled : List ℕ → List ℕ → List Label → Option Label
labelled node name ls = elim (find_label name ls) [ Some l ↦ (if bytes_eq node l.node then Some l else None) | None ↦ None ]

-- the serial of the branch that it names
abbrev pub serial_labelled : List ℕ → List ℕ → List Label → Option Id
serial_labelled node name ls = option_and_then (λ (l : Label). l.serial) (labelled node name ls)

-- Changing.

-- the directory with one change of the file of this name
abbrev pub with_file : List ℕ → (File → File) → List (Option File) → List (Option File)
with_file name change [] = []
with_file name change (None ∷ fs) = None ∷ with_file name change fs
with_file name change (Some f ∷ fs) = if bytes_eq name f.name then Some (change f) ∷ fs else Some f ∷ with_file name change fs

-- the branches, of which the one of this serial has changed something
abbrev pub with_changed : Id → List Branch → List Branch
with_changed serial [] = []
with_changed serial (b ∷ bs) = if same_id serial b.key.serial then record b { changed = true } ∷ bs else b ∷ with_changed serial bs

-- the branches but for the one of this serial
abbrev pub without_branch : Id → List Branch → List Branch
without_branch serial [] = []
without_branch serial (b ∷ bs) = if same_id serial b.key.serial then bs else b ∷ without_branch serial bs

-- the nodes with one change of the node of this name
abbrev pub with_node : List ℕ → (Node → Node) → List Node → List Node
with_node name change [] = []
with_node name change (n ∷ ns) = if bytes_eq name n.name then change n ∷ ns else n ∷ with_node name change ns

-- the counts of the disks, with these of the disk of the node of this name
abbrev pub with_counts : List ℕ → DiskCounts → List Node → List DiskCounts → List DiskCounts
with_counts name new [] disks = disks
with_counts name new (n ∷ ns) [] = []
with_counts name new (n ∷ ns) (d ∷ ds) = if bytes_eq name n.name then new ∷ ds else d ∷ with_counts name new ns ds

-- the first block behind the log slots and the journal: there begin the blocks for files
abbrev pub area_start : Node → ℕ
area_start n = log_start + length n.durable.log + n.durable.journal

-- the longest run of free blocks of a node's disk
abbrev pub longest_free : Node → ℕ
longest_free n = longest_run (extents_of n.durable.directory) (area_start n) (n.blocks - area_start n)

-- where the lowest run of so many free blocks begins
abbrev pub lowest_free : Node → ℕ → Option ℕ
lowest_free n size = lowest_run (extents_of n.durable.directory) size (area_start n) (n.blocks - area_start n)

-- the id that a node draws next
abbrev pub next_id : Node → Id
next_id n = record { node = n.name; boot = n.durable.boot; seq = n.volatile.drawn + 1 }

-- the moment of a node's next settlement: its clock's, or the first after all that are on its disk where that is later
abbrev pub next_moment : Node → ℕ
next_moment n = if nat_le n.clock (n.durable.greatest + 1) then n.durable.greatest + 1 else n.clock

-- how many bytes a bucket of a file has for records: 16 are its header
abbrev pub capacity : File → ℕ
capacity f = 512 * f.bucket - 16

-- how many bytes a key of a file has: none but in an indexed one
abbrev pub key_size_of : Organization → ℕ
key_size_of Sequential = 0
key_size_of (Relative greatest) = 0
key_size_of (Indexed position size) = size

-- the bytes of a leaf for slots, and how many entries an index bucket holds, each of which is a key and a number of four bytes
abbrev pub sizes_of : File → Sizes
sizes_of f = record { capacity = capacity f; fan_out = capacity f / (key_size_of f.organization + 4) }

-- how many changes a branch made: as many as the journal tells of its unit
abbrev pub changes_made : Id → Journal → ℕ
changes_made serial units = elim (find_unit serial (units_in units.entries)) [ Some u ↦ u.changes | None ↦ 0 ]

-- Journals of images.

-- the images of one change more: one journal has the image after it, the other the image before it
abbrev pub with_image : (tid serial : Id) → Change → Carried → Carried
with_image tid serial c r = record r { after = append tid (image.Changed serial c.key c.after) r.after; before = append tid (image.Changed serial c.key c.before) r.before }

-- those of changes, the newest of which stands first
abbrev pub with_images : (tid serial : Id) → List Change → Carried → Carried
with_images tid serial [] r = r
with_images tid serial (c ∷ cs) r = with_image tid serial c (with_images tid serial cs r)

-- both journals tell that a branch was settled, where it changed the file
abbrev pub with_outcome : (changed : Bool) → Settlement → Carried → Carried
with_outcome changed s r = record r {
  after = if changed then append s.tid (image.Settled s.serial s.outcome s.moment) r.after else r.after;
  before = if changed then append s.tid (image.Settled s.serial s.outcome s.moment) r.before else r.before;
}

-- Changes of files.

-- A file after changes of an unsettled branch. In its layout the rooms of keys that unsettled branches hold stay, so that each of them can be set back in
-- place.
abbrev pub changed_file : (held : Key → Bool) → (tid serial : Id) → List Change → File → File
changed_file held tid serial cs f = record f { history = changed_with serial cs f.history; layout = layout_changed (sizes_of f) held cs f.layout; carried = with_images tid serial cs f.carried }

-- and after changes of a branch of its own, which was committed at once
abbrev pub directly_changed : (held : Key → Bool) → Settlement → List Change → File → File
directly_changed held s cs f = record f {
  history = settled_at s.serial s.outcome s.moment (changed_with s.serial cs f.history);
  layout = layout_changed (sizes_of f) held cs f.layout;
  carried = with_outcome (changed_it (changed_with s.serial cs f.history) s.serial) s (with_images s.tid s.serial cs f.carried);
}

-- a layout after the branch that made these changes was settled: an abort restores what its keys had
abbrev pub settled_layout : Outcome → List Change → Layout → Layout
settled_layout Commit cs layout = layout
settled_layout Abort cs layout = layout_restored cs layout

-- every file notes that a branch was settled; only those that it changed have changes of it
abbrev pub settled_file : Settlement → File → File
settled_file s f = record f {
  history = settled_at s.serial s.outcome s.moment f.history;
  layout = settled_layout s.outcome (changes_by s.serial f.history.live) f.layout;
  carried = with_outcome (changed_it f.history s.serial) s f.carried;
}

-- whether a file is marked for recovery units once it has this mark
abbrev pub units_marked : Mark → Bool → Bool
units_marked (ForUnits units) old = units
units_marked (BeginsImages side start blocks) old = old
units_marked (EndsImages side) old = old

-- a journal of images that begins anew in these blocks, and one that ends; a journal of before images tells from then on
abbrev pub begun_images : Side → (start blocks : ℕ) → (greatest : ℕ) → Carried → Carried
begun_images AfterImages start blocks greatest r = record r { after = renewed start blocks r.after }
begun_images BeforeImages start blocks greatest r = record r { before = renewed start blocks r.before; since = greatest }

abbrev pub ended_images : Side → Carried → Carried
ended_images AfterImages r = record r { after = ended r.after }
ended_images BeforeImages r = record r { before = ended r.before }

-- what a file carries once it has this mark
abbrev pub carried_marked : Mark → (greatest : ℕ) → Carried → Carried
carried_marked (ForUnits units) greatest r = r
carried_marked (BeginsImages side start blocks) greatest r = begun_images side start blocks greatest r
carried_marked (EndsImages side) greatest r = ended_images side r

-- a file that is marked, where this is the greatest moment on the disk
abbrev pub marked_file : Mark → (greatest : ℕ) → File → File
marked_file mark greatest f = record f { recovery_units = units_marked mark f.recovery_units; carried = carried_marked mark greatest f.carried }

-- a file that is saved: what stands is copied, and the position and the moment of that are kept
abbrev pub saved_file : (start greatest : ℕ) → File → File
saved_file start greatest f =
    record f { carried = record f.carried { save = Some (record { start = start; buckets = f.buckets; position = f.carried.after.end; moment = greatest; records = current f.history }) } }

-- Files that are recovered.

-- the slots of records that are loaded into an indexed file, in whose keys are bytes
abbrev pub slots_loaded : List (Key × List ℕ) → List Slot
slots_loaded [] = []
slots_loaded (e ∷ es) = elim e.0 [ Text bytes ↦ slot_for (bytes, e.1) ∷ slots_loaded es | Number n ↦ slots_loaded es | End ↦ slots_loaded es ]

-- records at positions from this one on, in order
abbrev pub records_from : (first : ℕ) → List (Key × List ℕ) → Records
records_from first [] = empty
records_from first (e ∷ es) = insert (records_from (first + 1) es) (Number first) e.1

-- Records as a file has them that is loaded with them in the order of their keys: those of a sequential file stand at the positions from 1 on.
abbrev pub loaded_map : Organization → Records → Records
loaded_map Sequential m = records_from 1 (entries m)
loaded_map (Relative greatest) m = m
loaded_map (Indexed position size) m = m

-- the layout of a file that is loaded with these records in the order of their keys
abbrev pub layout_loaded : Organization → Sizes → Records → Layout
layout_loaded Sequential sizes m = no_layout
layout_loaded (Relative greatest) sizes m = no_layout
layout_loaded (Indexed position size) sizes m = loaded sizes size (slots_loaded (entries m))

-- how many buckets the load takes
abbrev pub buckets_taken : Organization → File → Records → ℕ
buckets_taken Sequential f m = (filled_by (capacity f) first_bucket (map (λ (e : Key × List ℕ). length e.1 + 2) (entries m))).buckets
buckets_taken (Relative greatest) f m = f.buckets
buckets_taken (Indexed position size) f m = used_of (layout_loaded (Indexed position size) (sizes_of f) m)

-- and how many the file has then: no fewer than it had
abbrev pub buckets_loaded : File → Records → ℕ
buckets_loaded f m = max f.buckets (buckets_taken f.organization f m)

-- what a file carries once it is recovered: each journal that it has begins anew, and the save stays
abbrev pub carried_recovered : (greatest : ℕ) → Carried → Carried
carried_recovered greatest r = record r { after = renewed_if_on r.after; before = renewed_if_on r.before; since = if r.before.on then greatest else r.since }

-- A file that is recovered: these records are its base, in new buckets.
abbrev pub recovered_file : (start buckets : ℕ) → Records → (greatest : ℕ) → File → File
recovered_file start buckets m greatest f = record f {
  start = start;
  buckets = buckets;
  history = record f.history { base = m; moment = greatest; settled = [] };
  layout = layout_loaded f.organization (sizes_of f) m;
  carried = carried_recovered greatest f.carried;
}

-- a directory without files
abbrev pub empty_directory : List (Option File)
empty_directory = replicate file_limit None

-- what a disk has after a volume was made on it, with so many log slots and blocks of a journal
abbrev pub made_volume : (slots journal : ℕ) → Durable
made_volume slots journal = record { volume = Sound; log = replicate slots None; journal = journal; boot = 0; greatest = 0; last = None; units = empty_journal; directory = empty_directory }

-- what a node has that was never up
abbrev pub nothing_volatile : Volatile
nothing_volatile = record { drawn = 0; branches = []; records = []; preparation = []; locks = []; declared = [] }

-- Settlements of the table.

-- the reason of a settlement, which only an abort has
abbrev pub reason_of : Outcome → Reason → Option Reason
reason_of Commit reason = None
reason_of Abort reason = Some reason

-- the settlement of a branch so, at this moment
abbrev pub settlement : BranchKey → Outcome → Reason → ℕ → Settlement
settlement k outcome reason moment = record { tid = k.tid; serial = k.serial; outcome = outcome; reason = reason_of outcome reason; moment = moment }

-- the settlement that an act of the table is; a unit that a boot undoes is aborted
abbrev pub settlement_of : table.Act → ℕ → Option Settlement
settlement_of (Settles k outcome reason r) moment = Some (settlement k outcome reason moment)
settlement_of (Undoes k) moment = Some (settlement k Abort SegFail moment)
settlement_of _ moment = None

-- what a disk has once a branch is settled, where it is
abbrev pub with_settlement : Option Settlement → Durable → Durable
with_settlement None d = d
with_settlement (Some s) d = record d {
  greatest = s.moment;
  last = Some s;
  directory = map (option_map (settled_file s)) d.directory;
  units = with_settled s.tid s.serial s.outcome s.moment d.units;
}

-- settlements with one more in front, where there is one
abbrev pub settled_more : Option Settlement → List Settlement → List Settlement
settled_more None ss = ss
settled_more (Some s) ss = s ∷ ss

-- a branch that is prepared has an entry in the journal, where it changed something
abbrev pub with_prepared : table.Act → Journal → Journal
with_prepared (Prepares b) j = elim (find_unit b.key.serial (units_in j.entries)) [ Some u ↦ with_entries (PreparedEntry b.key.tid b.key.serial ∷ []) j | None ↦ j ]
with_prepared _ j = j

-- what an act of the table makes of the disk, where these are the committed records
abbrev pub tabled : table.Act → ℕ → List LogRecord → Durable → Durable
tabled a moment records d = with_settlement (settlement_of a moment) (record d { log = slots_after a records d.log; units = with_prepared a d.units })

-- the keys that branches hold after it: one that is settled, or read-only, lets go of its own
abbrev pub locks_after : table.Act → List Lock → List Lock
locks_after (Settles k outcome reason r) ls = released k.serial ls
locks_after (Leaves k) ls = released k.serial ls
locks_after (Undoes k) ls = released k.serial ls
locks_after _ ls = ls

-- the branches that were prepared, with one more behind
abbrev pub preparation_after : table.Act → List BranchKey → List BranchKey
preparation_after (Prepares b) ks = ks ++ b.key ∷ []
preparation_after _ ks = ks

-- What a boot finds on the disk.

-- the record of this serial, where there is one, and the records but for it
abbrev pub find_record : Id → List LogRecord → Option LogRecord
find_record serial [] = None
find_record serial (r ∷ rs) = if same_id serial r.serial then Some r else find_record serial rs

abbrev pub without_record : Id → List LogRecord → List LogRecord
without_record serial [] = []
without_record serial (r ∷ rs) = if same_id serial r.serial then rs else r ∷ without_record serial rs

-- the serials of Prepared entries, in their order
abbrev pub prepared_serials : List JournalEntry → List Id
prepared_serials [] = []
prepared_serials (ChangeEntry tid serial file key before ∷ es) = prepared_serials es
prepared_serials (PreparedEntry tid serial ∷ es) = serial ∷ prepared_serials es
prepared_serials (SettledEntry tid serial outcome moment ∷ es) = prepared_serials es

-- records with those of these serials first, in their order
abbrev pub records_by : List Id → List LogRecord → List LogRecord
records_by [] rs = rs
records_by (serial ∷ serials) rs = elim (find_record serial rs) [ Some r ↦ r ∷ records_by serials (without_record serial rs) | None ↦ records_by serials rs ]

-- The records of the branches that are prepared: those with an entry in the order of the entries, and then the others in the order of the slots.
abbrev pub prepared_left : Durable → List LogRecord
prepared_left d = records_by (prepared_serials d.units.entries) (prepared_of (records_in d.log))

-- whether an entry moved the end of a sequential file: it is of a position that was absent, or that is above the records now, so that none stands there
abbrev pub moved_end : (now before : Option (List ℕ)) → Bool
moved_end now before = is_none before || is_none now

-- what a branch holds of a file after a boot, for an entry of its change of this key: the key, and perhaps the end of a sequential file
abbrev pub keys_left : File → Key → (before : Option (List ℕ)) → List Key
keys_left f key before = elim f.organization [
  | Sequential ↦ (if moved_end (get (current f.history) key) before then key ∷ End ∷ [] else key ∷ [])
  | Relative greatest ↦ key ∷ []
  | Indexed position size ↦ key ∷ []
]

-- the locks with those for an entry of a branch
abbrev pub relocked_for : Id → List (Option File) → JournalEntry → List Lock → List Lock
relocked_for serial fs (ChangeEntry tid by file key before) ls = if same_id serial by then elim (find_file file fs) [ Some f ↦ with_locks serial file (keys_left f key before) ls | None ↦ ls ] else ls
relocked_for serial fs (PreparedEntry tid by) ls = ls
relocked_for serial fs (SettledEntry tid by outcome moment) ls = ls

-- with those for all its entries
abbrev pub relocked_by : Id → List (Option File) → List JournalEntry → List Lock → List Lock
relocked_by serial fs [] ls = ls
relocked_by serial fs (e ∷ es) ls = relocked_by serial fs es (relocked_for serial fs e ls)

-- with those of all these branches
abbrev pub relocked : List LogRecord → Durable → List Lock → List Lock
relocked [] d ls = ls
relocked (r ∷ rs) d ls = relocked rs d (relocked_by r.serial d.directory d.units.entries ls)

-- what a node has that has just come up: the branches that are prepared, which hold what they changed, and the committed records as they stand in the slots; no
-- resource manager is declared
abbrev pub booted : Durable → Volatile
booted d = record {
  drawn = 0;
  branches = branches_of (prepared_left d);
  records = committed_of (records_in d.log);
  preparation = map (λ (r : LogRecord). record_key r) (prepared_left d);
  locks = relocked (prepared_left d) d [];
  declared = [];
}

-- Acts.

-- what an act makes of what the disk has, at a node that has this while it is up
abbrev pub durable_after : Act → Volatile → Durable → Durable
durable_after (Formats slots journal) v d = made_volume slots journal
durable_after Boots v d = record d { boot = d.boot + 1 }
durable_after ComesUp v d = d
durable_after (Creates place file) v d = record d { directory = slice_set d.directory place (Some file) }
durable_after (Marks file mark) v d = record d { directory = with_file file (marked_file mark d.greatest) d.directory }
durable_after (Saves file start) v d = record d { directory = with_file file (saved_file start d.greatest) d.directory }
durable_after (Recovers file start buckets m) v d = record d { directory = with_file file (recovered_file start buckets m d.greatest) d.directory }
durable_after Draws v d = d
durable_after (Labels l) v d = d
durable_after (Numbers label serial) v d = d
durable_after (Tables a moment) v d = tabled a moment v.records d
durable_after (Changes tid serial file changes keys) v d = record d {
  directory = with_file file (changed_file (is_locked v.locks file) tid serial changes) d.directory;
  units = with_entries (entries_for tid serial file changes) d.units;
}
durable_after (Holds serial file keys) v d = d
durable_after (Directs file changes s) v d = record d {
  greatest = s.moment;
  last = Some s;
  directory = with_file file (directly_changed (is_locked v.locks file) s changes) d.directory;
  units = trimmed d.units;
}
durable_after (Arms writes choice) v d = d
durable_after (Clocks now) v d = d
durable_after (Declares rms) v d = d
durable_after Falls v d = d

-- what it makes of what the node has while it is up, where its disk has this
abbrev pub volatile_after : Act → Durable → Volatile → Volatile
volatile_after (Formats slots journal) d v = v
volatile_after Boots d v = booted d
volatile_after ComesUp d v = v
volatile_after (Creates place file) d v = v
volatile_after (Marks file mark) d v = v
volatile_after (Saves file start) d v = v
volatile_after (Recovers file start buckets m) d v = v
volatile_after Draws d v = record v { drawn = v.drawn + 1 }
volatile_after (Labels l) d v = v
volatile_after (Numbers label serial) d v = v
volatile_after (Tables a moment) d v = record v { branches = table_after a v.branches; records = records_after a v.records; preparation = preparation_after a v.preparation; locks = locks_after a v.locks }
volatile_after (Changes tid serial file changes keys) d v = record v { branches = with_changed serial v.branches; locks = with_locks serial file keys v.locks }
volatile_after (Holds serial file keys) d v = record v { locks = with_locks serial file keys v.locks }
volatile_after (Directs file changes s) d v = record v { drawn = v.drawn + 1 }
volatile_after (Arms writes choice) d v = v
volatile_after (Clocks now) d v = v
volatile_after (Declares rms) d v = record v { declared = rms }
volatile_after Falls d v = v

-- a node with what an act makes of these two
abbrev pub with_act : Act → Node → Node
with_act act n = record n { durable = durable_after act n.volatile n.durable; volatile = volatile_after act n.durable n.volatile }

-- what an act makes of its node
abbrev pub acted : Act → Node → Node
acted (Formats slots journal) n = record (with_act (Formats slots journal) n) { unmade = false }
acted Boots n = with_act Boots n
acted ComesUp n = record n { up = true; was_up = true }
acted (Creates place file) n = with_act (Creates place file) n
acted (Marks file mark) n = with_act (Marks file mark) n
acted (Saves file start) n = with_act (Saves file start) n
acted (Recovers file start buckets m) n = with_act (Recovers file start buckets m) n
acted Draws n = with_act Draws n
acted (Labels l) n = n
acted (Numbers label serial) n = n
acted (Tables a moment) n = record (with_act (Tables a moment) n) { settled = settled_more (settlement_of a moment) n.settled }
acted (Changes tid serial file changes keys) n = with_act (Changes tid serial file changes keys) n
acted (Holds serial file keys) n = with_act (Holds serial file keys) n
acted (Directs file changes s) n = record (with_act (Directs file changes s) n) { settled = s ∷ n.settled }
acted (Arms writes choice) n = record n { calls = Arm writes choice ∷ n.calls }
acted (Clocks now) n = record n { clock = now }
acted (Declares rms) n = with_act (Declares rms) n
acted Falls n = record n { up = false }

-- A node goes down, and perhaps this act was under way. Its table still stands here, and counts only while the node is up.
abbrev pub fallen : Option Act → Node → Node
fallen under_way n = record n { up = false; under_way = under_way }

-- An abort that was cut short.

-- changes, of which the newest of each key leaves this; those that are newer stand beside
abbrev pub leaving : Map → (newer : List Change) → List Change → List Change
leaving standing newer [] = []
leaving standing newer (c ∷ cs) = (if changes_key c.key newer then c else record c { after = standing c.key }) ∷ leaving standing (c ∷ newer) cs

-- the unsettled branches, of which this one leaves that
abbrev pub live_leaving : Id → Map → List LiveChanges → List LiveChanges
live_leaving serial standing [] = []
live_leaving serial standing (l ∷ ls) = if same_id serial l.serial then record l { changes = leaving standing [] l.changes } ∷ ls else l ∷ live_leaving serial standing ls

-- A file while this branch is undone in it in part: each key that the branch changed has this. In its layout the slots of these keys have it too.
abbrev pub half_undone : Id → (List ℕ → Map) → File → File
half_undone serial standing f = record f {
  history = record f.history { live = live_leaving serial (standing f.name) f.history.live };
  layout = layout_restored (map (λ (c : Change). record c { before = standing f.name c.key }) (changes_by serial f.history.live)) f.layout;
}

-- so many positions, from this one on
abbrev pub numbered : ℕ → ℕ → List Key
numbered from zero = []
numbered from (suc count) = Number from ∷ numbered (from + 1) count

-- the positions of a sequential file are those from 1 on
abbrev pub IsKept : Organization → History → Type 0
IsKept Sequential h = map (λ e. e.0) (entries (current h)) ≡ numbered 1 (length (entries (current h)))
IsKept (Relative greatest) h = Unit {0}
IsKept (Indexed position size) h = Unit {0}

-- What a key has now, while what it had last is taken back to what it had first: one of the two, or, where it may be gone meanwhile, no record.
abbrev pub IsOnItsWay : (may_be_gone : Type 0) → (last first now : Option (List ℕ)) → Type 0
IsOnItsWay may_be_gone last first now = (now ≡ last) ⊎ ((now ≡ first) ⊎ (may_be_gone × (now ≡ None)))

-- Each key that the branch changed in a file has one of the images of its changes: what the branch left there, or what it found there first. A position of a sequential file may be gone too,
-- until it is put back. And the file is one of its organization.
pub record IsHalfUndone (serial : Id) (standing : List ℕ → Map) (f : File) : Type 0 where
  pub images : (key : Key) → changes_key key (changes_by serial f.history.live) ≡ true → IsImage (changes_by serial f.history.live) key (standing f.name key)
  pub ends : (key : Key) → changes_key key (changes_by serial f.history.live) ≡ true →
      IsOnItsWay (f.organization ≡ Sequential) (latest_after (changes_by serial f.history.live) key) (earliest_before (changes_by serial f.history.live) key) (standing f.name key)
  pub kept : IsKept f.organization (half_undone serial standing f).history

-- What became of an act that was under way: nothing; it took place; or, of the abort of a prepared branch, a part, so that its keys have this in each file.
pub data Outturn : Type 0 where
  Lost : Outturn
  Taken : Outturn
  Half : (standing : List ℕ → Map) → Outturn

-- the branch that an act aborts, where its disk tells it to be prepared
abbrev pub aborted_prepared : Option Act → Durable → Option Id
aborted_prepared (Some (Tables (Settles k Abort reason r) moment)) d = elim (find_unit k.serial (units_in d.units.entries)) [ Some u ↦ (if u.prepared then Some k.serial else None) | None ↦ None ]
aborted_prepared _ d = None

-- an act may turn out so: a part of it is done only of the abort of a prepared branch, and leaves each file whole
abbrev pub MayTurnOut : Node → Outturn → Type 0
MayTurnOut n Lost = Unit {0}
MayTurnOut n Taken = Unit {0}
MayTurnOut n (Half standing) = (serial : Id) × (aborted_prepared n.under_way n.durable ≡ Some serial)
    × ((place : ℕ) (f : File) → slice_index_or n.durable.directory place None ≡ Some f → IsHalfUndone serial standing f)

-- what is left of the disk where so much of an abort was done
abbrev pub with_half : Option Id → (List ℕ → Map) → Durable → Durable
with_half None standing d = d
with_half (Some serial) standing d = record d { directory = map (option_map (half_undone serial standing)) d.directory }

-- Its disk runs again, after so many stops: an act that was under way has turned out so.
abbrev pub powered : Outturn → ℕ → Node → Node
powered outturn stops n = record (turned_out outturn n.under_way n) { calls = Power stops ∷ n.calls; under_way = None }
  where
    turned_out : Outturn → Option Act → Node → Node
    turned_out Taken (Some act) n = acted act n
    turned_out Taken None n = n
    turned_out Lost act n = n
    turned_out (Half standing) act n = record n { durable = with_half (aborted_prepared act n.durable) standing n.durable }

-- Its disk was to run again, after so many stops, and does not: what was under way still is.
abbrev pub unpowered : ℕ → Node → Node
unpowered stops n = record n { up = false; calls = Power stops ∷ n.calls }

-- What nodes share.

-- the messages with one more, where it is numbered
abbrev pub posted : Message → List Message → List Message
posted m wire = if nat_lt (length wire) message_limit then wire ++ m ∷ [] else wire

-- the labels, of which the one of this name has this serial as its latest
abbrev pub with_serial : (name : List ℕ) → Id → List Label → List Label
with_serial name serial [] = []
with_serial name serial (l ∷ ls) = if bytes_eq name l.name then record l { serial = Some serial } ∷ ls else l ∷ with_serial name serial ls

-- what an act of a table makes of what nodes share: a branch is told to be accepted, or read-only, or a message is sent
abbrev pub shared_tabled : table.Act → Shared → Shared
shared_tabled (Accepts b c) s = record s { accepted = child b.key.tid c.serial ∷ s.accepted }
shared_tabled (Leaves k) s = record s { read_only = k ∷ s.read_only }
shared_tabled (Sends m) s = record s { wire = posted m s.wire }
shared_tabled _ s = s

-- what an act makes of what nodes share
abbrev pub shared_after : Act → Shared → Shared
shared_after (Labels l) s = record s { labels = l ∷ s.labels }
shared_after (Numbers label serial) s = record s { labels = with_serial label serial s.labels }
shared_after (Tables a moment) s = shared_tabled a s
shared_after (Formats slots journal) s = s
shared_after Boots s = s
shared_after ComesUp s = s
shared_after (Creates place file) s = s
shared_after (Marks file mark) s = s
shared_after (Saves file start) s = s
shared_after (Recovers file start buckets m) s = s
shared_after Draws s = s
shared_after (Changes tid serial file changes keys) s = s
shared_after (Holds serial file keys) s = s
shared_after (Directs file changes settlement) s = s
shared_after (Arms writes choice) s = s
shared_after (Clocks now) s = s
shared_after (Declares rms) s = s
shared_after Falls s = s

-- what a node knows of the commit protocol
abbrev pub tm_of : Node → Tm
tm_of n = record { node = n.name; table = n.volatile.branches; records = n.volatile.records }

-- What the journal tells of unsettled branches.

-- at most one of several branches moved the end of a sequential file
abbrev pub OneMovesEndOf : Organization → List LiveChanges → Type 0
OneMovesEndOf Sequential ls = OneMovesEnd ls
OneMovesEndOf (Relative greatest) ls = Unit {0}
OneMovesEndOf (Indexed position size) ls = Unit {0}

-- The journal tells the changes of unsettled branches in a file: of each unit what it found, change by change; and each branch that changed the file is a unit.
-- The branches' keys lie apart, and so does a sequential file's end.
pub record TellsUnits (units : Journal) (f : File) : Type 0 where
  pub notes : HasNotes units f.name f.history
  pub end : OneMovesEndOf f.organization f.history.live

-- an id is of a boot that the node has counted
abbrev pub IsReached : Node → Id → Type 0
IsReached n id = (id.node ≡ n.name) × (id.boot ≤ n.durable.boot)

-- the journal has a unit of this branch that is prepared
abbrev pub IsPreparedUnit : Journal → Id → Type 0
IsPreparedUnit units serial = (u : RecoveryUnit) × (find_unit serial (units_in units.entries) ≡ Some u) × (u.prepared ≡ true)

-- The journal tells so of each file of a node. While the node is up only a file that is marked for recovery units has unsettled branches that are not prepared; a file that an
-- earlier run left with some may have any mark. The journal's entries are of branches of this node, of boots that it has counted; and a name is one file's.
pub record AreUnitsOf (n : Node) : Type 0 where
  pub tells : (place : ℕ) (f : File) → slice_index_or n.durable.directory place None ≡ Some f → TellsUnits n.durable.units f
  pub marked : n.up ≡ true → (place : ℕ) (f : File) → slice_index_or n.durable.directory place None ≡ Some f → f.recovery_units ≡ false →
      AllByRecursion (λ (l : LiveChanges). IsPreparedUnit n.durable.units l.serial) f.history.live
  pub reached : AllByRecursion (λ (e : JournalEntry). IsReached n (serial_in e)) n.durable.units.entries
  pub names : (p q : ℕ) (f g : File) → slice_index_or n.durable.directory p None ≡ Some f → slice_index_or n.durable.directory q None ≡ Some g → f.name ≡ g.name → p ≡ q

-- the records whose branches are no units
abbrev pub without_units : Journal → List LogRecord → List LogRecord
without_units j [] = []
without_units j (r ∷ rs) = if is_unit r.serial j then without_units j rs else r ∷ without_units j rs

-- the transaction of an entry
abbrev pub tid_in : JournalEntry → Id
tid_in (ChangeEntry tid serial file key before) = tid
tid_in (PreparedEntry tid serial) = tid
tid_in (SettledEntry tid serial outcome moment) = tid

-- the entries of a branch are of its transaction
abbrev pub IsOfTransaction : (tid serial : Id) → JournalEntry → Type 0
IsOfTransaction tid serial e = same_id serial (serial_in e) ≡ true → tid ≡ tid_in e

-- The log and the journal of a disk tell one another: its records are of branches of this node, of boots that it has counted, no two of one branch, and have
-- what a record of their kind may have. A unit is prepared just where its branch has a prepared record, of its transaction, which is
-- that of all its entries; and no branch with such a record is settled in the journal. Unsettled units, and prepared branches that are no unit, are not more
-- than a node may have.
pub record IsLogInOrder (n : Node) : Type 0 where
  pub distinct : Distinct (record_serials (records_in n.durable.log))
  pub reached : AllByRecursion (λ (r : LogRecord). IsReached n r.serial) (records_in n.durable.log)
  pub prepared_within : (r : LogRecord) → In r (prepared_of (records_in n.durable.log)) → PreparedWithin r
  pub committed_within : (r : LogRecord) → In r (committed_of (records_in n.durable.log)) → RecordWithin r
  pub prepared : (serial : Id) (u : RecoveryUnit) → find_unit serial (units_in n.durable.units.entries) ≡ Some u → u.prepared ≡ true →
      (r : LogRecord) × In r (prepared_of (records_in n.durable.log)) × (r.serial ≡ u.serial) × (r.tid ≡ u.tid)
  pub active : (r : LogRecord) (u : RecoveryUnit) → In r (prepared_of (records_in n.durable.log)) → find_unit r.serial (units_in n.durable.units.entries) ≡ Some u → (u.prepared ≡ true) × (r.tid ≡ u.tid)
  pub transactions : AllByRecursion (λ (r : LogRecord). AllByRecursion (IsOfTransaction r.tid r.serial) n.durable.units.entries) (prepared_of (records_in n.durable.log))
  pub unsettled : AllByRecursion (λ (r : LogRecord). is_settled_in r.serial n.durable.units.entries ≡ false) (prepared_of (records_in n.durable.log))
  pub few : length (units_in n.durable.units.entries) + length (without_units n.durable.units (prepared_of (records_in n.durable.log))) ≤ branch_limit
  pub slots : length n.durable.log ≤ slot_limit

-- The changes of a branch in a file, the newest first: none is of the file's end, and each found what the one before it left at its key.
abbrev pub FollowOneAnother : List Change → Type 0
FollowOneAnother [] = Unit {0}
FollowOneAnother (c ∷ cs) = (eq_by_cmp key_cmp End c.key ≡ false) × (changes_key c.key cs ≡ true → c.before ≡ latest_after cs c.key) × FollowOneAnother cs

-- an entry of a journal of images is not of the file's end
abbrev pub IsPlainEntry : image.Entry → Type 0
IsPlainEntry (image.Changed serial key value) = eq_by_cmp key_cmp End key ≡ false
IsPlainEntry (image.Settled serial outcome moment) = Unit {0}

-- Nothing that a file carries for its recovery is of the file's end: no entry is, and its save has no record there.
pub record IsPlainCarried (r : Carried) : Type 0 where
  pub after : AllByRecursion IsPlainEntry (all_of r.after.entries)
  pub before : AllByRecursion IsPlainEntry (all_of r.before.entries)
  pub save : (v : Save) → r.save ≡ Some v → get v.records End ≡ None

-- So it is of each unsettled branch of a file; and no record stands at the file's end, nor in what the file carries for its recovery.
pub record HasPlainEnd (f : File) : Type 0 where
  pub follow : AllByRecursion (λ (l : LiveChanges). FollowOneAnother l.changes) f.history.live
  pub absent : get (current f.history) End ≡ None
  pub carried : IsPlainCarried f.carried

-- so it is of each file
abbrev pub HavePlainEnds : List (Option File) → Type 0
HavePlainEnds [] = Unit {0}
HavePlainEnds (None ∷ fs) = HavePlainEnds fs
HavePlainEnds (Some f ∷ fs) = HasPlainEnd f × HavePlainEnds fs

-- the branch of an entry of a journal of images
abbrev pub serial_of_image : image.Entry → Id
serial_of_image (image.Changed serial key value) = serial
serial_of_image (image.Settled serial outcome moment) = serial

-- What the disk of the node of this name says of a file's journals of images and of its save, whether or not it agrees with other disks, by this boot count and this
-- greatest moment: entries stand in their rings, with room for the settlements that are to come, and each is of a boot that the node has counted; a journal that the
-- file has tells of branches, and which keys the unsettled ones changed, in order, and what these had; the save was made by now, at a place where an entry begins or at
-- the end.
pub record KeepsImages (name : List ℕ) (boot greatest : ℕ) (f : File) : Type 0 where
  pub after_order : IsInOrder f.carried.after
  pub before_order : IsInOrder f.carried.before
  pub after_room : f.carried.after.on ≡ true → HasRoom f.carried.after f.history.live
  pub before_room : f.carried.before.on ≡ true → HasRoom f.carried.before f.history.live
  pub after_branches : f.carried.after.on ≡ true → TellsBranches greatest f.history.live (all_of f.carried.after.entries)
  pub before_branches : f.carried.before.on ≡ true → TellsBranches greatest f.history.live (all_of f.carried.before.entries)
  pub keys : f.carried.after.on ≡ true → TellsKeys f.history.live (all_of f.carried.after.entries)
  pub found : f.carried.before.on ≡ true → TellsFound f.history.live (all_of f.carried.before.entries)
  pub begun : f.carried.since ≤ greatest
  pub saved : (v : Save) → f.carried.save ≡ Some v → IsSaved greatest f.carried.after v
  pub after_reached : AllByRecursion (λ (e : image.Entry). ((serial_of_image e).node ≡ name) × ((serial_of_image e).boot ≤ boot)) (all_of f.carried.after.entries)
  pub before_reached : AllByRecursion (λ (e : image.Entry). ((serial_of_image e).node ≡ name) × ((serial_of_image e).boot ≤ boot)) (all_of f.carried.before.entries)

-- so it is of each file of a node
abbrev pub KeepAllImages : Node → List (Option File) → Type 0
KeepAllImages n [] = Unit {0}
KeepAllImages n (None ∷ fs) = KeepAllImages n fs
KeepAllImages n (Some f ∷ fs) = KeepsImages n.name n.durable.boot n.durable.greatest f × KeepAllImages n fs

-- no file has a branch that was settled since its base
abbrev pub AreResting : List (Option File) → Type 0
AreResting [] = Unit {0}
AreResting (None ∷ fs) = AreResting fs
AreResting (Some f ∷ fs) = (f.history.settled ≡ []) × AreResting fs

-- the last settlement, where there is one, is of a boot that the node has counted
abbrev pub LastIsReached : Node → Option Settlement → Type 0
LastIsReached n None = Unit {0}
LastIsReached n (Some s) = IsReached n s.serial

-- A node as it is before the first line: it is down, and what its disk has is all that there is of it. Units that an earlier run left unsettled stand in its
-- journal, and in its files with what they changed; those that are prepared stand in its log too, and hold no more keys than may be held. The
-- journal's entries are of files that are there.
pub record IsOpening (n : Node) : Type 0 where
  pub down : n.up ≡ false
  pub made : n.unmade ≡ false
  pub was_down : n.was_up ≡ false
  pub clock : n.clock ≡ 0
  pub volatile : n.volatile ≡ nothing_volatile
  pub settled : n.settled ≡ []
  pub calls : n.calls ≡ []
  pub under_way : n.under_way ≡ None
  pub resting : AreResting n.durable.directory
  pub last : LastIsReached n n.durable.last
  pub units : AreUnitsOf n
  pub log : IsLogInOrder n
  pub ends : HavePlainEnds n.durable.directory
  pub images : KeepAllImages n n.durable.directory
  pub named : (name : List ℕ) → find_file name n.durable.directory ≡ None → list_any (is_of_file name) n.durable.units.entries ≡ false
  pub few_locks : length (booted n.durable).locks ≤ lock_limit

-- the world before the first line: these nodes with these disks, and no label
abbrev pub opened : List Node → List DiskCounts → World
opened nodes disks = record { nodes = nodes; disks = disks; shared = record { labels = []; in_use = false; wire = []; accepted = []; read_only = [] } }
