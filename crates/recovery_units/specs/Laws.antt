-- What holds of a node and its volume over acts that no unit takes part in.
use Rattle.std.specs.Prelude.{◌≡◌, ℕ, ◌+◌, ◌-◌, ◌*◌, ◌<◌, ◌≤◌, List, [], Bool, false, Some, None, length, option_map, replicate, slice_set}
use Rattle.block_disk.specs.Sizes.{content_start}
use Rattle.vms_model.specs.Limits.{file_limit, slot_limit}
use Rattle.vms_model.specs.Blocks.{directory_start, log_start}
use Rattle.journal_model.specs.file_base.declared.head.FileHead.{FileHead}
use Rattle.journal_model.specs.file_base.declared.head.Save.{Save}
use Rattle.journal_model.specs.file_base.declared.head.Span.{Span}
use Rattle.vms_base.specs.declared.moments.Moment.{Moment}
use Rattle.journal_model.specs.Ring.{HasRing}
use Rattle.volume_model.specs.recovery_model.File.{all_of, next_span}
use Rattle.volume_model.specs.save_laws.Saves.{IsOfNow, StandAt}
use Rattle.careful_write.specs.State.{EachWhole}
use Rattle.volume_model.specs.change_set.Files.{AgreesOut, in_extent}
use Rattle.std.specs.List.{AllByRecursion}
use Rattle.volume_model.specs.commit_protocol.Standing.{IsNew as IsNewBranch, Stands, writes}
use Rattle.volume_model.specs.commit_protocol.Table as table
use Rattle.volume_model.specs.commit_protocol.Table.{Branch, Leaves, Notes}
use Rattle.volume_model.specs.log_laws.Slots.{Slots, forgotten, has_slot}
use Rattle.volume_model.specs.world_laws.Nodes.{IsUp}
use Rattle.volume.specs.extents.Extents.{IsFreeRun, all_extents}
use Rattle.volume.specs.declared.catalog.Catalog.{Catalog}
use Rattle.volume.specs.Catalogs.{IsSound}
use Rattle.volume.specs.State.{VolumeState}
use Rattle.volume.specs.Limits.{data_area}
use Rattle.volume.specs.volume_format.Home.{sizes_of}
use Rattle.volume.specs.Empty.{IsEmptyVolume}
use Rattle.vms_model.specs.Ids.{Id}
use Rattle.volume_model.specs.run_model.World.{Node, File, Mark, Boots, ComesUp, Creates, Formats, Marks, ForUnits, BeginsImages, EndsImages, Saves, Tables, acted, find_file}
use Rattle.volume_model.specs.directory_model.Files.{IsCarried, IsFile, IsHeadOf, IsNamed, NoneNamed, head_at}
use Rattle.volume_model.specs.directory_model.Laws.{begun_head, end_by, ended_head, marked, saved_head}
use Rattle.volume_model.specs.Volumes.{HasVolume, LeavesVolume}
use Rattle.unit_table.specs.Units.{first_to_change}
use Rattle.record_operations.specs.Asking.{written}
use Rattle.record_operations.specs.Forms as form
use Rattle.record_operations.specs.declared.ops.RecordOp.{RecordOp}
use Rattle.record_operations.specs.declared.ops.ReadOp.{ReadOp}
use Rattle.volume_model.specs.run_model.Operations.{form_refused}
use Rattle.recovery_units.specs.State.{UnitsState, IsImageShowable, IsKept, IsInOrder, IsShowable, with_begun}
use Rattle.recovery_units.specs.Calls.{IsNumbered, cause_line, change_said, read_said}

-- A volume that was just made, with so many log slots and blocks of a journal: it has no file, its journal no entry, and its home tells no boot and no settlement.
pub record IsMade (content : List (List ℕ)) (v : Catalog) (slots journal : ℕ) : Type 0 where
  pub slots_are : v.home.slots ≡ slots
  pub few : slots ≤ slot_limit
  pub journal_is : v.home.ru_blocks ≡ journal
  pub boot : v.home.boot ≡ 0
  pub greatest : v.home.greatest_moment.0 ≡ 0
  pub last : v.home.last ≡ None
  pub heads : v.heads ≡ replicate file_limit None
  pub first : v.ru.first ≡ 0
  pub end : v.ru.end ≡ 0
  pub some : 0 < v.ru.blocks
  pub within : v.ru.start - content_start + v.ru.blocks ≤ length content
  pub log : IsEmptyVolume v.home content

-- the block of a file's number is written, which has this head from then on
abbrev pub HeadWritten : (f : ℕ) → FileHead → VolumeState → VolumeState → Type 0
HeadWritten f h v w = (w.catalog ≡ record v.catalog { heads = slice_set v.catalog.heads f (Some h) }) × ((bytes : List ℕ) × (w.store.current ≡ option_map (λ blocks. slice_set blocks (directory_start + f - content_start) bytes) v.store.current)) × (w.store.disk.size ≡ v.store.disk.size)

-- The head of a file once it has this mark, where this is the greatest moment on the disk: its journal begins in a ring of the content, at a whole block behind the
-- end of the one before, or it ends.
abbrev pub MarksHead : Mark → (greatest : ℕ) → (content : List (List ℕ)) → FileHead → FileHead → Type 0
MarksHead (ForUnits units) greatest content h new = new ≡ marked units h
MarksHead (BeginsImages side start blocks) greatest content h new =
    (s : Span) × (g : Moment) × HasRing content s × (s.start ≡ start) × (s.blocks ≡ blocks) × (s.first ≡ next_span (end_by side h)) × (s.end ≡ s.first) × (g.0 ≡ greatest) × (new ≡ begun_head side s g h)
MarksHead (EndsImages side) greatest content h new = new ≡ ended_head side h

-- a save of a file as it is, of which a copy stands in the content
pub record IsSaveOf (greatest : ℕ) (content : List (List ℕ)) (h : FileHead) (s : Save) : Type 0 where
  pub now : IsOfNow h s
  pub position : s.position ≡ h.ai.end
  pub moment : s.moment.0 ≡ greatest
  pub copied : StandAt h s.start content content

-- Laws with a content ask that each of its blocks has 512 bytes, as a store promises of what it reads.
pub record KeepsNodes : Type 0 where
  -- what a node has in its volume is what it leaves of it,
  pub falls : (content : List (List ℕ)) (v : Catalog) (n : Node) → HasVolume content v n → LeavesVolume content v n
  -- also once it is down, and whatever it was to do
  pub down : (content : List (List ℕ)) (v : Catalog) (n m : Node) → LeavesVolume content v n → m.name ≡ n.name → m.durable ≡ n.durable → m.up ≡ false → LeavesVolume content v m
  -- its entries can be shown
  pub shows : (s : UnitsState) (v : VolumeState) (n : Node) → IsKept s v n → AllByRecursion (IsShowable v.catalog.heads v.catalog.home.greatest_moment.0) n.durable.units.entries
  -- and so can those of the journals of images of a file that is found
  pub shows_images : (s : UnitsState) (v : VolumeState) (n : Node) (f : ℕ) (h : FileHead) (name : List ℕ) (file : File) → IsKept s v n → IsUp n → IsNamed v.catalog.heads f h name → find_file name n.durable.directory ≡ Some file →
      AllByRecursion (IsImageShowable h.organization v.catalog.home.greatest_moment.0) (all_of file.carried.after.entries) × AllByRecursion (IsImageShowable h.organization v.catalog.home.greatest_moment.0) (all_of file.carried.before.entries)
  -- an act that leaves disk, branches and locks: an id is drawn, a label is made or numbered, the clock is set, the disk is armed
  pub stays : (s : UnitsState) (v : VolumeState) (n m : Node) → IsKept s v n → m.name ≡ n.name → m.blocks ≡ n.blocks → m.durable ≡ n.durable → m.up ≡ n.up → m.volatile.branches ≡ n.volatile.branches → m.volatile.locks ≡ n.volatile.locks → IsKept s v m
  -- a node comes up
  pub comes : (s : UnitsState) (v : VolumeState) (n : Node) → IsKept s v n → IsUp (acted ComesUp n) → IsKept s v (acted ComesUp n)
  -- a branch begins
  pub begins : (s : UnitsState) (v : VolumeState) (n : Node) (b : Branch) (moment : ℕ) → IsKept s v n → IsNewBranch n.volatile.branches b → IsUp (acted (Tables (Notes b) moment) n) → IsKept (with_begun b.key.tid b.key.serial s) v (acted (Tables (Notes b) moment) n)
  -- the table does what nothing is written for, and by which no branch begins or leaves
  pub tables : (s : UnitsState) (v : VolumeState) (n : Node) (a : table.Act) (moment : ℕ) → IsKept s v n → writes a ≡ false → ((k : table.Key) → a ≡ Leaves k → ⊥) → Stands n.volatile.branches a → IsKept s v (acted (Tables a moment) n)
  -- a file that no unsettled branch changed has a mark, or no more
  pub marks : (s : UnitsState) (v w : VolumeState) (n : Node) (f : ℕ) (h new : FileHead) (name : List ℕ) (mark : Mark) (content : List (List ℕ)) → IsKept s v n → IsUp n → IsInOrder s v → IsNamed v.catalog.heads f h name → first_to_change f s.begun ≡ None →
      HeadWritten f new v w → w.store.current ≡ Some content → EachWhole content → MarksHead mark n.durable.greatest content h new → IsKept s w (acted (Marks name mark) n)
  -- such a file is saved, once a copy of its buckets stands in a free run
  pub saves : (s : UnitsState) (v w : VolumeState) (n : Node) (f : ℕ) (h : FileHead) (name : List ℕ) (save : Save) (content : List (List ℕ)) → IsKept s v n → IsUp n → IsInOrder s v → IsNamed v.catalog.heads f h name → first_to_change f s.begun ≡ None →
      HeadWritten f (saved_head save h) v w → w.store.current ≡ Some content → EachWhole content → log_start ≤ save.start → ((old : List (List ℕ)) → v.store.current ≡ Some old → IsSaveOf n.durable.greatest old h save) → IsKept s w (acted (Saves name save.start) n)
  -- blocks of a free run are written
  pub free : (s : UnitsState) (v w : VolumeState) (n : Node) (h : FileHead) (content : List (List ℕ)) → IsKept s v n → IsInOrder s v → IsFreeRun (data_area (sizes_of v.catalog.home)) (all_extents v.catalog.heads) h.start (h.alloc * h.bucket) →
      w.catalog ≡ v.catalog → w.store.disk.size ≡ v.store.disk.size → AgreesOut (in_extent h) v.store.current w.store.current → w.store.current ≡ Some content → EachWhole content → IsKept s w n
  -- a file without records is made in a free run, under a new name, at the lowest number that is free
  pub creates : (s : UnitsState) (v w : VolumeState) (n : Node) (f : ℕ) (h : FileHead) (file : File) (content new : List (List ℕ)) → IsKept s v n → IsInOrder s v → f < file_limit → head_at v.catalog.heads f ≡ None →
      ((g : ℕ) → g < f → head_at v.catalog.heads g ≡ None → ⊥) → NoneNamed v.catalog.heads file_limit h.name → IsFreeRun (data_area (sizes_of v.catalog.home)) (all_extents v.catalog.heads) h.start (h.alloc * h.bucket) → file.history.live ≡ [] → v.store.current ≡ Some content → IsFile content h file → ((c : List (List ℕ)) → IsCarried c f h file.carried) → HeadWritten f h v w → w.store.current ≡ Some new → EachWhole new →
      IsKept s w (acted (Creates f file) n)
  -- where no slot of the log has a serial, none is freed for it
  pub unlogged : (serial : Id) (ss : Slots) → has_slot serial ss ≡ false → forgotten serial ss ≡ ss
  -- the boot count is raised
  pub boots : (content : List (List ℕ)) (bytes : List ℕ) (v : Catalog) (n : Node) → LeavesVolume content v n → IsSound n.name n.blocks v → length bytes ≡ 512 → LeavesVolume (slice_set content 0 bytes) (record v { home = record v.home { boot = v.home.boot + 1 } }) (acted Boots n)
  -- a volume is made
  pub formats : (content : List (List ℕ)) (v : Catalog) (n : Node) (slots journal : ℕ) → IsMade content v slots journal → EachWhole content → n.up ≡ false → LeavesVolume content v (acted (Formats slots journal) n)

-- What refuses an operation by its form alone is told of a file's head as the world says it of the file.
pub record FormsRefuseAlike : Type 0 where
  pub changes : (h : FileHead) (file : File) (op : RecordOp) (bytes : List ℕ) → IsHeadOf h file → IsNumbered op → option_map cause_line (form.form_refused h op (length (written op bytes))) ≡ form_refused file (change_said op bytes)
  pub reads : (h : FileHead) (file : File) (op : ReadOp) → IsHeadOf h file → option_map cause_line (form.read_form_refused h op) ≡ form_refused file (read_said op)
