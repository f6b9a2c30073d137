-- What holds of the files of a volume and of the world. A head is a file of the volume's directory, and a file is one of the world's; f is a file's
-- number in the one and its place in the other.
use Rattle.std.specs.Prelude.{◌≡◌, ◌≢◌, ℕ, ◌+◌, ◌-◌, ◌*◌, ◌<◌, ◌≤◌, ◌++◌, ◌&&◌, List, [], ◌∷◌, Bool, true, false, Option, Some, None, option_map, length, map, nat_le, nat_lt, replicate, slice_set, take, drop}
use Rattle.std.specs.List.{AllByRecursion}
use Rattle.std.specs.FinMap.{entries, get}
use Rattle.block_disk.specs.Blocks.{block_at}
use Rattle.block_disk.specs.Sizes.{content_start, greatest_disk_size}
use Rattle.records_model.specs.vms_model.Limits.{file_limit}
use Rattle.file_images.specs.careful_write.State.{EachWhole}
use Rattle.file_images.specs.careful_write.Steps.{AgreesOff}
use Rattle.extents.specs.file_base.declared.head.FileHead.{FileHead}
use Rattle.extents.specs.file_base.declared.head.Organization.TheVariants.{Sequential, Indexed}
use Rattle.extents.specs.file_base.declared.head.Save.{Save}
use Rattle.extents.specs.file_base.declared.head.Span.{Span}
use Rattle.extents.specs.vms_base.declared.moments.Moment.{Moment}
use Rattle.file_images.specs.Files.{SameRing, form_of}
use Rattle.file_images.specs.Images.{IsOf, IsSuited, entry_by}
use Rattle.file_images.specs.journal_model.Entries.{IsEntry, spelling}
use Rattle.file_images.specs.journal_model.Ring.{HasRing, put_stream, ring_size}
use Rattle.file_images.specs.recovery_model.Journal.{Entry, entry_length}
use Rattle.file_images.specs.recovery_model.File.{append, next_span}
use Rattle.file_images.specs.save_laws.Saves.{IsOfNow, StandAt, save_head}
use Rattle.file_images.specs.change_set.Files.{AgreesOn, SameFile, in_extent}
use Rattle.file_images.specs.change_set.Maps.{Map, IsNext, EndsAfter, Found, applied, empty_map}
use Rattle.extents.specs.declared.extent.Extent.{Extent as Area}
use Rattle.extents.specs.Extents.{IsFreeRun, all_extents, covers, extents_of, is_free as is_free_block, is_used}
use Rattle.file_images.specs.record_files.Any as any
use Rattle.file_images.specs.record_files.Any.{map_of, layout_of as laid, first_layout_of as laid_first, IsLaidOut, IsNew, asks}
use Rattle.file_images.specs.seq_file.Layout.{records_in}
use Rattle.file_images.specs.seq_file.Records.{cut_from}
use Rattle.file_images.specs.script_model.Statements.{Form, Put, Update, Side, AfterImages, BeforeImages}
use Rattle.records_model.specs.vms_model.Ids.{Id}
use Rattle.records_model.specs.vms_model.Keys.{Key, Number}
use Rattle.records_model.specs.vms_model.Transactions.{Commit, Abort}
use Rattle.records_model.specs.Records.{Records, Change}
use Rattle.file_images.specs.tree_model.Setting.{layout_changed}
use Rattle.file_images.specs.change_set.Files.{sizes_of}
use Rattle.file_images.specs.unit_laws.Units.{is_free}
use Rattle.file_images.specs.commit_protocol.Table as table
use Rattle.file_images.specs.run_model.Answers.{blocks_for, created}
use Rattle.file_images.specs.run_model.Operations.{count_of, first_behind, in_order, need_of, removed, used}
use Rattle.file_images.specs.run_model.Extents.{is_taken}
use Rattle.file_images.specs.run_model.Locks.{is_locked}
use Rattle.file_images.specs.run_model.World.{Node, Carried, File, Settlement, AreUnitsOf, Formats, Boots, Creates, Marks, ForUnits, BeginsImages, EndsImages, Saves, Draws, Tables, Changes, Holds, Directs, acted, area_start, changed_file, directly_changed, extents_of as files_extents, nothing_carried, settled_file, find_file, free_place, longest_free, lowest_free, settlement_of}
use Rattle.directory_model.specs.Files.{AreFiles, IsCarried, IsFile, AgreesOnCarried, AgreesOnFile, NoneNamed, IsNamed, IsFoundAt, AreNamedOnce, IsNewHead, Fit, file_at, head_at, layout_of, IsShown}
use Rattle.directory_model.specs.Restoring.{AreRestored}

-- a file is found by its name: the one of the lowest number that has it, and none where none has it. So it is changed there.
pub record FindsFiles : Type 0 where
  pub found : (content : List (List ℕ)) (heads : List (Option FileHead)) (directory : List (Option File)) (f : ℕ) (h : FileHead) (name : List ℕ) → AreFiles content heads directory → IsNamed heads f h name →
      (file : File) × IsFile content h file × IsFoundAt name directory f file × IsCarried content f h file.carried
  pub none : (content : List (List ℕ)) (heads : List (Option FileHead)) (directory : List (Option File)) (name : List ℕ) → AreFiles content heads directory → NoneNamed heads file_limit name → find_file name directory ≡ None

-- a new file's place is the lowest number that has no file, and there is none where all have one
pub record FindsPlaces : Type 0 where
  pub lowest : (content : List (List ℕ)) (heads : List (Option FileHead)) (directory : List (Option File)) (f : ℕ) → AreFiles content heads directory → f < file_limit → head_at heads f ≡ None → ((g : ℕ) → g < f → head_at heads g ≡ None → ⊥) →
      free_place directory ≡ Some f
  pub none : (content : List (List ℕ)) (heads : List (Option FileHead)) (directory : List (Option File)) → AreFiles content heads directory → ((g : ℕ) → g < file_limit → head_at heads g ≡ None → ⊥) → free_place directory ≡ None

-- a block is taken in the world where an extent of a head has it
abbrev pub TakesBlocks : Type 0
TakesBlocks = (content : List (List ℕ)) (heads : List (Option FileHead)) (directory : List (Option File)) (n : ℕ) → AreFiles content heads directory → is_taken (files_extents directory) n ≡ is_used (all_extents heads) n

-- the area of a node's disk for files
abbrev pub area_of : Node → Area
area_of n = record { start = area_start n; end = n.blocks }

-- The longest run of free blocks and the lowest one of a size are those between the heads' extents.
pub record FindsRuns : Type 0 where
  pub longest : (content : List (List ℕ)) (heads : List (Option FileHead)) (n : Node) (area : Area) (most : ℕ) → AreFiles content heads n.durable.directory → area ≡ area_of n → (0 < most → (start : ℕ) × IsFreeRun area (all_extents heads) start most) →
      ((start blocks : ℕ) → IsFreeRun area (all_extents heads) start blocks → blocks ≤ most) → longest_free n ≡ most
  pub lowest : (content : List (List ℕ)) (heads : List (Option FileHead)) (n : Node) (area : Area) (blocks start : ℕ) → AreFiles content heads n.durable.directory → area ≡ area_of n → 1 ≤ blocks → IsFreeRun area (all_extents heads) start blocks →
      ((lower : ℕ) → lower < start → IsFreeRun area (all_extents heads) lower blocks → ⊥) → lowest_free n blocks ≡ Some start
  pub none : (content : List (List ℕ)) (heads : List (Option FileHead)) (n : Node) (area : Area) (blocks : ℕ) → AreFiles content heads n.durable.directory → area ≡ area_of n → 1 ≤ blocks → ((start : ℕ) → IsFreeRun area (all_extents heads) start blocks → ⊥) →
      lowest_free n blocks ≡ None
  -- there is a run of each size up to that of the longest
  pub there : (content : List (List ℕ)) (heads : List (Option FileHead)) (n : Node) (area : Area) (blocks : ℕ) → AreFiles content heads n.durable.directory → area ≡ area_of n → 1 ≤ blocks → blocks ≤ longest_free n → (start : ℕ) × IsFreeRun area (all_extents heads) start blocks

-- a head that is marked for recovery units, or no more
abbrev pub marked : Bool → FileHead → FileHead
marked units h = record h { marks = record h.marks { ru = units } }

-- all that files but this one have in one content stands in another
abbrev pub SameBut : ℕ → List (Option FileHead) → List (List ℕ) → List (List ℕ) → Type 0
SameBut f heads a b = (g : ℕ) (h : FileHead) → g ≢ f → head_at heads g ≡ Some h → AgreesOnFile h a b

-- A file was changed from one content to another: its head, its buckets, its records and its layout are those after these changes, while these keys were held.
pub record IsChanged (held : Key → Bool) (cs : List Change) (a : List (List ℕ)) (h : FileHead) (b : List (List ℕ)) (new : FileHead) : Type 0 where
  pub same : SameFile h new
  pub form : any.IsFile new
  pub laid : IsLaidOut new b
  pub map : map_of new b ≡ applied cs (map_of h a)
  pub layout : layout_of new b ≡ layout_changed (sizes_of h) held cs (layout_of h a)

-- the keys of these changes are free for a branch in a file: no other branch changed one of them
abbrev pub AreFree : Id → File → List Change → Type 0
AreFree serial file cs = AllByRecursion (λ (c : Change). is_free serial file.history.live c.key ≡ true) cs

-- a file that carries this for its recovery
abbrev pub carrying : Carried → File → File
carrying r file = record file { carried = r }

-- A directory once changes stand in the buckets of the file at a place, and their images in no journal yet; once changes that are committed at once do; and once
-- a branch is settled in the buckets, and no journal tells it yet.
abbrev pub changed_buckets : (held : Key → Bool) → (tid serial : Id) → List Change → (f : ℕ) → File → List (Option File) → List (Option File)
changed_buckets held tid serial cs f file directory = slice_set directory f (Some (carrying file.carried (changed_file held tid serial cs file)))

abbrev pub directly_buckets : (held : Key → Bool) → Settlement → List Change → (f : ℕ) → File → List (Option File) → List (Option File)
directly_buckets held s cs f file directory = slice_set directory f (Some (carrying file.carried (directly_changed held s cs file)))

abbrev pub settled_buckets : Settlement → List (Option File) → List (Option File)
settled_buckets s directory = map (option_map (λ file. carrying file.carried (settled_file s file))) directory

-- a head whose journal of after images has so many bytes more, and one whose journal of before images has
abbrev pub longer_after : ℕ → FileHead → FileHead
longer_after size h = record h { ai = record h.ai { end = h.ai.end + size } }

abbrev pub longer_before : ℕ → FileHead → FileHead
longer_before size h = record h { bi = record h.bi { end = h.bi.end + size } }

-- a head with a journal that begins in a ring, and one whose journal ends
abbrev pub begun_head : Side → Span → Moment → FileHead → FileHead
begun_head AfterImages s g h = record h { marks = record h.marks { ai = true }; ai = s }
begun_head BeforeImages s g h = record h { marks = record h.marks { bi = true }; bi = s; bi_since = g }

abbrev pub ended_head : Side → FileHead → FileHead
ended_head AfterImages h = record h { marks = record h.marks { ai = false }; ai = record h.ai { start = 0; blocks = 0 } }
ended_head BeforeImages h = record h { marks = record h.marks { bi = false }; bi = record h.bi { start = 0; blocks = 0 } }

-- where the journal of a side ended
abbrev pub end_by : Side → FileHead → ℕ
end_by AfterImages h = h.ai.end
end_by BeforeImages h = h.bi.end

-- a head with a save of the file as it is
abbrev pub saved_head : Save → FileHead → FileHead
saved_head v h = record h { marks = record h.marks { save = true }; save = v }

-- The files stay those of the heads over each act. How the content changes with it is told by what the keys of the files have. Of an act that has images in
-- journals, this is what stands before they do: EntersImages says what they make of it.
pub record KeepsFiles : Type 0 where
  pub formats : (content : List (List ℕ)) (n : Node) (slots journal : ℕ) → AreFiles content (replicate file_limit None) (acted (Formats slots journal) n).durable.directory
  pub boots : (content : List (List ℕ)) (heads : List (Option FileHead)) (n : Node) → AreFiles content heads n.durable.directory → AreFiles content heads (acted Boots n).durable.directory
  pub draws : (content : List (List ℕ)) (heads : List (Option FileHead)) (n : Node) → AreFiles content heads n.durable.directory → AreFiles content heads (acted Draws n).durable.directory
  pub holds : (content : List (List ℕ)) (heads : List (Option FileHead)) (n : Node) (serial : Id) (name : List ℕ) (keys : List Key) → AreFiles content heads n.durable.directory →
      AreFiles content heads (acted (Holds serial name keys) n).durable.directory
  pub creates : (content : List (List ℕ)) (heads : List (Option FileHead)) (n : Node) (f : ℕ) (h : FileHead) (file : File) → AreFiles content heads n.durable.directory → f < file_limit → IsFile content h file → IsCarried content f h file.carried →
      AreFiles content (slice_set heads f (Some h)) (acted (Creates f file) n).durable.directory
  pub marks : (content : List (List ℕ)) (heads : List (Option FileHead)) (n : Node) (f : ℕ) (h : FileHead) (name : List ℕ) (units : Bool) → AreFiles content heads n.durable.directory → IsNamed heads f h name →
      AreFiles content (slice_set heads f (Some (marked units h))) (acted (Marks name (ForUnits units)) n).durable.directory
  -- a journal begins in a ring, and one ends
  pub begins : (content : List (List ℕ)) (heads : List (Option FileHead)) (n : Node) (f : ℕ) (h : FileHead) (name : List ℕ) (side : Side) (s : Span) (g : Moment) → AreFiles content heads n.durable.directory → IsNamed heads f h name → HasRing content s →
      s.first ≡ next_span (end_by side h) → s.end ≡ s.first → g.0 ≡ n.durable.greatest → AreFiles content (slice_set heads f (Some (begun_head side s g h))) (acted (Marks name (BeginsImages side s.start s.blocks)) n).durable.directory
  pub ends : (content : List (List ℕ)) (heads : List (Option FileHead)) (n : Node) (f : ℕ) (h : FileHead) (name : List ℕ) (side : Side) → AreFiles content heads n.durable.directory → IsNamed heads f h name →
      AreFiles content (slice_set heads f (Some (ended_head side h))) (acted (Marks name (EndsImages side)) n).durable.directory
  -- a copy of the file's buckets is its save
  pub saves : (a b : List (List ℕ)) (heads : List (Option FileHead)) (n : Node) (f : ℕ) (h : FileHead) (name : List ℕ) (v : Save) → AreFiles a heads n.durable.directory → IsNamed heads f h name →
      ((g : ℕ) (k : FileHead) → head_at heads g ≡ Some k → AgreesOnFile k a b) → IsOfNow h v → v.position ≡ h.ai.end → v.moment.0 ≡ n.durable.greatest → StandAt h v.start a b →
      AreFiles b (slice_set heads f (Some (saved_head v h))) (acted (Saves name v.start) n).durable.directory
  -- changes of free keys that noted what they found
  pub changes : (a b : List (List ℕ)) (heads : List (Option FileHead)) (n : Node) (f : ℕ) (h new : FileHead) (name : List ℕ) (file : File) (tid serial : Id) (cs : List Change) → AreFiles a heads n.durable.directory → AreUnitsOf n →
      IsNamed heads f h name → file_at n.durable.directory f ≡ Some file → AreFree serial file cs → Found cs (map_of h a) → IsChanged (is_locked n.volatile.locks name) cs a h b new → AgreesOnCarried h a b → SameBut f heads a b →
      AreFiles b (slice_set heads f (Some new)) (changed_buckets (is_locked n.volatile.locks name) tid serial cs f file n.durable.directory)
  -- changes that are committed at once, in a file that no unsettled branch changed
  pub directs : (a b : List (List ℕ)) (heads : List (Option FileHead)) (n : Node) (f : ℕ) (h new : FileHead) (name : List ℕ) (file : File) (cs : List Change) (s : Settlement) → AreFiles a heads n.durable.directory → s.outcome ≡ Commit →
      IsNamed heads f h name → file_at n.durable.directory f ≡ Some file → file.history.live ≡ [] → IsChanged (is_locked n.volatile.locks name) cs a h b new → AgreesOnCarried h a b → SameBut f heads a b →
      AreFiles b (slice_set heads f (Some new)) (directly_buckets (is_locked n.volatile.locks name) s cs f file n.durable.directory)
  -- an act of the table that settles no branch, and one that commits a branch
  pub tables : (content : List (List ℕ)) (heads : List (Option FileHead)) (n : Node) (a : table.Act) (moment : ℕ) → settlement_of a moment ≡ None → AreFiles content heads n.durable.directory →
      AreFiles content heads (acted (Tables a moment) n).durable.directory
  pub commits : (content : List (List ℕ)) (heads : List (Option FileHead)) (n : Node) (s : Settlement) → AreFiles content heads n.durable.directory → AreUnitsOf n → s.outcome ≡ Commit → AreFiles content heads (settled_buckets s n.durable.directory)
  -- an abort restores what the branch changed
  pub aborts : (b c : List (List ℕ)) (heads new : List (Option FileHead)) (n : Node) (s : Settlement) → AreFiles b heads n.durable.directory → AreUnitsOf n → s.outcome ≡ Abort → AreRestored s.serial b heads n.durable.directory c new →
      AreFiles c new (settled_buckets s n.durable.directory)

-- an entry of images can be put at the end of a journal of the file of this number
pub record CanEnter (s : Span) (f : ℕ) (h : FileHead) (tid : Id) (e : Entry) : Type 0 where
  pub is : IsEntry (entry_by f tid e)
  pub of : IsOf h.organization e
  pub suited : IsSuited (form_of h) e
  pub room : s.end - s.first + entry_length e ≤ ring_size s

-- an entry of images
abbrev pub spelled_entry : ℕ → Id → Entry → List ℕ
spelled_entry f tid e = spelling (entry_by f tid e)

-- Entries at the ends of a file's journals: one in the journal of its after images, one in that of its before images; where the file has none, nothing changes. So
-- the directory is that of an act once they stand there.
pub record EntersImages : Type 0 where
  pub after : (c : List (List ℕ)) (area : Area) (heads : List (Option FileHead)) (directory : List (Option File)) (f : ℕ) (h : FileHead) (file : File) (tid : Id) (e : Entry) → AreFiles c heads directory → Fit area heads → head_at heads f ≡ Some h →
      file_at directory f ≡ Some file → h.marks.ai ≡ true → CanEnter h.ai f h tid e →
      AreFiles (put_stream c h.ai h.ai.end (spelled_entry f tid e)) (slice_set heads f (Some (longer_after (length (spelled_entry f tid e)) h))) (slice_set directory f (Some (carrying (record file.carried { after = append tid e file.carried.after }) file)))
  pub before : (c : List (List ℕ)) (area : Area) (heads : List (Option FileHead)) (directory : List (Option File)) (f : ℕ) (h : FileHead) (file : File) (tid : Id) (e : Entry) → AreFiles c heads directory → Fit area heads → head_at heads f ≡ Some h →
      file_at directory f ≡ Some file → h.marks.bi ≡ true → CanEnter h.bi f h tid e →
      AreFiles (put_stream c h.bi h.bi.end (spelled_entry f tid e)) (slice_set heads f (Some (longer_before (length (spelled_entry f tid e)) h))) (slice_set directory f (Some (carrying (record file.carried { before = append tid e file.carried.before }) file)))
  pub no_after : (c : List (List ℕ)) (heads : List (Option FileHead)) (directory : List (Option File)) (f : ℕ) (h : FileHead) (file : File) (tid : Id) (e : Entry) → AreFiles c heads directory → head_at heads f ≡ Some h → file_at directory f ≡ Some file →
      h.marks.ai ≡ false → append tid e file.carried.after ≡ file.carried.after
  pub no_before : (c : List (List ℕ)) (heads : List (Option FileHead)) (directory : List (Option File)) (f : ℕ) (h : FileHead) (file : File) (tid : Id) (e : Entry) → AreFiles c heads directory → head_at heads f ≡ Some h → file_at directory f ≡ Some file →
      h.marks.bi ≡ false → append tid e file.carried.before ≡ file.carried.before
  pub changes : (n : Node) (f : ℕ) (name : List ℕ) (file : File) (tid serial : Id) (cs : List Change) (keys : List Key) → IsFoundAt name n.durable.directory f file →
      slice_set (changed_buckets (is_locked n.volatile.locks name) tid serial cs f file n.durable.directory) f (Some (changed_file (is_locked n.volatile.locks name) tid serial cs file)) ≡ (acted (Changes tid serial name cs keys) n).durable.directory
  pub directs : (n : Node) (f : ℕ) (name : List ℕ) (file : File) (cs : List Change) (s : Settlement) → IsFoundAt name n.durable.directory f file →
      slice_set (directly_buckets (is_locked n.volatile.locks name) s cs f file n.durable.directory) f (Some (directly_changed (is_locked n.volatile.locks name) s cs file)) ≡ (acted (Directs name cs s) n).durable.directory
  pub settles : (n : Node) (a : table.Act) (moment : ℕ) (s : Settlement) → settlement_of a moment ≡ Some s → map (option_map (settled_file s)) n.durable.directory ≡ (acted (Tables a moment) n).durable.directory

-- How a file of the world tells what is asked of its records, by what the head and the buckets tell.
pub record ReadsFiles : Type 0 where
  -- a sequential file has as many records as the head says
  pub count : (content : List (List ℕ)) (h : FileHead) (file : File) → IsFile content h file → h.organization ≡ Sequential → count_of file ≡ h.count
  -- the used buckets are those of the head
  pub used : (content : List (List ℕ)) (h : FileHead) (file : File) → IsFile content h file → used file ≡ h.used
  -- the next record, or none
  pub next : (content : List (List ℕ)) (h : FileHead) (file : File) (after : Option Key) (key : Key) (bytes : List ℕ) → IsFile content h file → IsNext (map_of h content) after key bytes → first_behind after (in_order file) ≡ Some (key, bytes)
  pub end : (content : List (List ℕ)) (h : FileHead) (file : File) (after : Option Key) → IsFile content h file → EndsAfter (map_of h content) after → first_behind after (in_order file) ≡ None
  -- the buckets that a record asks for which is put, or takes the place of another
  pub put : (content : List (List ℕ)) (h : FileHead) (file : File) (number : Option ℕ) (bytes : List ℕ) → IsFile content h file → need_of file (Put number bytes) ≡ asks h content (length bytes)
  pub update : (content : List (List ℕ)) (h : FileHead) (file : File) (key : Key) (bytes : List ℕ) → IsFile content h file → h.organization ≡ Indexed → need_of file (Update key bytes) ≡ asks h content (length bytes)
  -- what is removed where a sequential file is cut: the changes found what they noted, and without them the file is cut
  pub removed : (content : List (List ℕ)) (h : FileHead) (file : File) (from : ℕ) → IsFile content h file → h.organization ≡ Sequential → 1 ≤ from →
      Found (map removed (drop (from - 1) (in_order file))) (map_of h content) × (applied (map removed (drop (from - 1) (in_order file))) (map_of h content) ≡ cut_from from (map_of h content))
  -- the record of a position, from which on the records are those behind it
  pub position : (content : List (List ℕ)) (h : FileHead) (position : ℕ) (bytes : List ℕ) → h.organization ≡ Sequential → 1 ≤ position → map_of h content (Number position) ≡ Some bytes →
      drop (position - 1) (records_in h content) ≡ bytes ∷ drop position (records_in h content)
  -- as many records as numbers of 32 bits tell, where a bucket has at most 16 blocks; in a sequential file one more may come
  pub few : (content : List (List ℕ)) (h : FileHead) (file : File) → IsFile content h file → h.mrn ≤ 4294967295 → h.bucket ≤ 16 → h.used ≤ greatest_disk_size → length (in_order file) ≤ 4294967295
  pub below : (content : List (List ℕ)) (h : FileHead) (file : File) → IsFile content h file → h.organization ≡ Sequential → h.bucket ≤ 16 → h.used ≤ greatest_disk_size → h.count < 4294967295
  -- there are records that the keys have
  pub some : (content : List (List ℕ)) (h : FileHead) → any.IsFile h → IsLaidOut h content → (m : Records) × ((key : Key) → get m key ≡ map_of h content key)

-- The records of a file are shown in the order of their keys by asking for the next one again and again: of what the keys have, each answer is the next of
-- the entries, and where none is left all were shown.
pub record ShowsRecords : Type 0 where
  pub first : (m : Records) → IsShown m 0 None
  pub next : (m : Records) (keys : Map) (count : ℕ) (after : Option Key) (key : Key) (bytes : List ℕ) → ((k : Key) → get m k ≡ keys k) → IsShown m count after → IsNext keys after key bytes →
      IsShown m (count + 1) (Some key) × (take (count + 1) (entries m) ≡ take count (entries m) ++ (key, bytes) ∷ [])
  pub last : (m : Records) (keys : Map) (count : ℕ) (after : Option Key) → ((k : Key) → get m k ≡ keys k) → IsShown m count after → EndsAfter keys after → (count ≡ length (entries m)) × (take count (entries m) ≡ entries m)

-- contents in which all that each file has stands have the same files
abbrev pub StandsOnExtents : Type 0
StandsOnExtents = (a b : List (List ℕ)) (heads : List (Option FileHead)) (directory : List (Option File)) → ((f : ℕ) (h : FileHead) → head_at heads f ≡ Some h → AgreesOnFile h a b) → AreFiles a heads directory → AreFiles b heads directory

-- Files whose extents fit lie in the area, and apart: a block of one is none of another. A file's blocks are counted from 518 on, as in the content.
pub record LieApart : Type 0 where
  pub lies : (area : Area) (heads : List (Option FileHead)) (f : ℕ) (h : FileHead) → Fit area heads → head_at heads f ≡ Some h → 1 ≤ h.alloc * h.bucket → (area.start ≤ h.start) × (h.start + h.alloc * h.bucket ≤ area.end)
  pub run_lies : (area : Area) (heads : List (Option FileHead)) (start blocks : ℕ) → IsFreeRun area (all_extents heads) start blocks → 1 ≤ blocks → (area.start ≤ start) × (start + blocks ≤ area.end)
  pub within : (area : Area) (heads : List (Option FileHead)) (f n : ℕ) (h : FileHead) → Fit area heads → head_at heads f ≡ Some h → in_extent h n ≡ true → (area.start ≤ n + content_start) × (n + content_start < area.end)
  pub apart : (area : Area) (heads : List (Option FileHead)) (f g n : ℕ) (h other : FileHead) → Fit area heads → g ≢ f → head_at heads f ≡ Some h → head_at heads g ≡ Some other → in_extent h n ≡ true → in_extent other n ≡ false
  -- nor is a block of a free run
  pub free : (area : Area) (heads : List (Option FileHead)) (g n : ℕ) (h other : FileHead) → Fit area heads → IsFreeRun area (all_extents heads) h.start (h.alloc * h.bucket) → head_at heads g ≡ Some other → in_extent h n ≡ true → in_extent other n ≡ false

-- the block of the content of this number is one of so many blocks
abbrev pub in_blocks : (start blocks : ℕ) → ℕ → Bool
in_blocks start blocks n = nat_le (start - content_start) n && nat_lt n (start - content_start + blocks)

-- In contents of whole blocks, what is written in one file's buckets leaves the other files and what it carries itself. What is written in the ring of one of its
-- journals leaves the other files, its buckets, its other journal and its save; and so on. What is written in a free run leaves all, and so does what is written
-- before the area.
pub record WritesApart : Type 0 where
  pub in_file : (area : Area) (heads : List (Option FileHead)) (f : ℕ) (h : FileHead) (a b : List (List ℕ)) → Fit area heads → head_at heads f ≡ Some h → AgreesOff (in_extent h) a b → EachWhole b → SameBut f heads a b × AgreesOnCarried h a b
  pub in_after : (area : Area) (heads : List (Option FileHead)) (f : ℕ) (h : FileHead) (a b : List (List ℕ)) → Fit area heads → head_at heads f ≡ Some h → AgreesOff (in_blocks h.ai.start h.ai.blocks) a b → EachWhole b →
      SameBut f heads a b × AgreesOn h a b × SameRing h.bi a b × AgreesOn (save_head h) a b
  pub in_before : (area : Area) (heads : List (Option FileHead)) (f : ℕ) (h : FileHead) (a b : List (List ℕ)) → Fit area heads → head_at heads f ≡ Some h → AgreesOff (in_blocks h.bi.start h.bi.blocks) a b → EachWhole b →
      SameBut f heads a b × AgreesOn h a b × SameRing h.ai a b × AgreesOn (save_head h) a b
  pub in_save : (area : Area) (heads : List (Option FileHead)) (f : ℕ) (h : FileHead) (a b : List (List ℕ)) → Fit area heads → head_at heads f ≡ Some h → AgreesOff (in_extent (save_head h)) a b → EachWhole b →
      SameBut f heads a b × AgreesOn h a b × SameRing h.ai a b × SameRing h.bi a b
  pub in_free : (area : Area) (heads : List (Option FileHead)) (start blocks : ℕ) (a b : List (List ℕ)) → Fit area heads → IsFreeRun area (all_extents heads) start blocks → AgreesOff (in_blocks start blocks) a b → EachWhole b →
      (f : ℕ) (other : FileHead) → head_at heads f ≡ Some other → AgreesOnFile other a b
  pub before : (area : Area) (heads : List (Option FileHead)) (a b : List (List ℕ)) → Fit area heads → length b ≡ length a → EachWhole b → ((n : ℕ) → area.start ≤ n + content_start → block_at a n ≡ block_at b n) →
      (f : ℕ) (h : FileHead) → head_at heads f ≡ Some h → AgreesOnFile h a b

-- The extents fit and names are of one file, also where a file is made in a free run under a new name, is marked, or is changed.
pub record KeepsHeads : Type 0 where
  pub creates : (area : Area) (heads : List (Option FileHead)) (f : ℕ) (form : Form) (h : FileHead) → Fit area heads → f < file_limit → IsNewHead form h → IsFreeRun area (all_extents heads) h.start (h.alloc * h.bucket) → Fit area (slice_set heads f (Some h))
  pub creates_named : (heads : List (Option FileHead)) (f : ℕ) (h : FileHead) → AreNamedOnce heads → length heads ≡ file_limit → NoneNamed heads file_limit h.name → AreNamedOnce (slice_set heads f (Some h))
  pub marks : (area : Area) (heads : List (Option FileHead)) (f : ℕ) (h : FileHead) (units : Bool) → Fit area heads → head_at heads f ≡ Some h → Fit area (slice_set heads f (Some (marked units h)))
  pub marks_named : (heads : List (Option FileHead)) (f : ℕ) (h : FileHead) (units : Bool) → AreNamedOnce heads → head_at heads f ≡ Some h → AreNamedOnce (slice_set heads f (Some (marked units h)))
  pub changes : (area : Area) (heads : List (Option FileHead)) (f : ℕ) (h new : FileHead) → Fit area heads → head_at heads f ≡ Some h → SameFile h new → Fit area (slice_set heads f (Some new))
  -- one whose blocks are the same
  pub stays : (area : Area) (heads : List (Option FileHead)) (f : ℕ) (h new : FileHead) → Fit area heads → head_at heads f ≡ Some h → extents_of (Some h) ≡ extents_of (Some new) → Fit area (slice_set heads f (Some new))
  -- and one of whose four extents one is another, of free blocks or of none
  pub replaces : (area : Area) (heads : List (Option FileHead)) (f k : ℕ) (h new : FileHead) (e : Area) → Fit area heads → head_at heads f ≡ Some h → k < 4 → extents_of (Some new) ≡ slice_set (extents_of (Some h)) k e →
      ((n : ℕ) → covers e n ≡ true → is_free_block area (all_extents heads) n ≡ true) → Fit area (slice_set heads f (Some new))
  pub changes_named : (heads : List (Option FileHead)) (f : ℕ) (h new : FileHead) → AreNamedOnce heads → head_at heads f ≡ Some h → SameFile h new → AreNamedOnce (slice_set heads f (Some new))
  pub stays_named : (heads : List (Option FileHead)) (f : ℕ) (h new : FileHead) → AreNamedOnce heads → head_at heads f ≡ Some h → new.name ≡ h.name → AreNamedOnce (slice_set heads f (Some new))

-- The head of a file that is made, and the file that is made with it.
pub record MakesFiles : Type 0 where
  pub form : (f : Form) (h : FileHead) → IsNewHead f h → any.IsFile h × IsNew h
  pub file : (content : List (List ℕ)) (f : Form) (h : FileHead) (moment : ℕ) → IsNewHead f h → map_of h content ≡ empty_map → IsLaidOut h content → laid h content ≡ laid_first h → IsFile content h (created h.name h.bucket h.mrs f h.start moment)
  pub carried : (content : List (List ℕ)) (number : ℕ) (f : Form) (h : FileHead) → IsNewHead f h → IsCarried content number h nothing_carried
  pub blocks : (f : Form) (h : FileHead) → IsNewHead f h → h.alloc * h.bucket ≡ blocks_for h.bucket h.mrs f
  pub some : (f : Form) (h : FileHead) → IsNewHead f h → 1 ≤ h.alloc * h.bucket
