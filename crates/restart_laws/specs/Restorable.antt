-- What unsettled branches changed can be restored, over each act of a node that is up.
use Rattle.std.specs.Prelude.{◌≡◌, ℕ, ◌-◌, ◌<◌, ◌≤◌, List, [], ◌∷◌, Bool, true, false, Option, Some, None, map, replicate, slice_set, drop}
use Rattle.std.specs.List.{AllByRecursion}
use Rattle.vms_model.specs.Limits.{file_limit}
use Rattle.file_base.specs.declared.head.FileHead.{FileHead}
use Rattle.file_base.specs.declared.head.Organization.TheVariants.{Sequential}
use Rattle.directory_model.specs.change_set.Files.{AgreesOn, SameFile}
use Rattle.directory_model.specs.change_set.Maps.{set_key}
use Rattle.directory_model.specs.record_files.Any as any
use Rattle.directory_model.specs.record_files.Any.{map_of, IsLaidOut, Suits, Restores, room_at}
use Rattle.directory_model.specs.seq_file.Records.{cut_from}
use Rattle.vms_model.specs.Ids.{Id}
use Rattle.vms_model.specs.Keys.{Key}
use Rattle.vms_model.specs.Transactions.{Commit, Abort}
use Rattle.index_model.specs.records_model.Records.{Change}
use Rattle.index_model.specs.records_model.History.{LiveChanges, is_held, same_id}
use Rattle.world_laws.specs.run_model.Operations.{in_order, removed}
use Rattle.world_laws.specs.run_model.World.{Node, File, Mark, Settlement, AreUnitsOf, Formats, Creates, Marks, Saves, Tables, Changes, Directs, acted, settlement_of}
use Rattle.world_laws.specs.commit_protocol.Table as table
use Rattle.directory_model.specs.Files.{AreFiles, IsFoundAt, IsNamed, IsWithin, AgreesOnFile, head_at, file_at}
use Rattle.directory_model.specs.Restoring.{AreRestorable, AreRestored}
use Rattle.directory_model.specs.Laws.{SameBut}
use Rattle.restart_laws.specs.Units.{MayChange}

-- a head of the same buckets: its marks, its journals and its save may be others
pub record SameBuckets (h new : FileHead) : Type 0 where
  pub is : new ≡ record h { marks = new.marks; ai = new.ai; bi = new.bi; bi_since = new.bi_since; save = new.save }

-- so of a place, where the buckets stand
abbrev pub IsDressed : List (List ℕ) → Option FileHead → List (List ℕ) → Option FileHead → Type 0
IsDressed a None b None = Unit {0}
IsDressed a None b (Some new) = ⊥
IsDressed a (Some h) b None = ⊥
IsDressed a (Some h) b (Some new) = SameBuckets h new × AgreesOn h a b

-- two files in which the same is unsettled
abbrev pub SameLive : Option File → Option File → Type 0
SameLive None None = Unit {0}
SameLive None (Some other) = ⊥
SameLive (Some file) None = ⊥
SameLive (Some file) (Some other) = other.history.live ≡ file.history.live

-- What unsettled branches changed can be restored in contents that agree on the files, on a new volume, beside a new file or a marked one, after changes that are committed
-- at once, and once one of the branches is settled.
pub record KeepsRestorable : Type 0 where
  pub stands : (a b : List (List ℕ)) (heads : List (Option FileHead)) (directory : List (Option File)) → ((f : ℕ) (h : FileHead) → head_at heads f ≡ Some h → AgreesOnFile h a b) → AreFiles a heads directory →
      AreRestorable a heads directory → AreRestorable b heads directory
  pub formats : (content : List (List ℕ)) (n : Node) (slots journal : ℕ) → AreRestorable content (replicate file_limit None) (acted (Formats slots journal) n).durable.directory
  pub creates : (content : List (List ℕ)) (heads : List (Option FileHead)) (n : Node) (f : ℕ) (h : FileHead) (file : File) → AreFiles content heads n.durable.directory → f < file_limit → file.history.live ≡ [] →
      AreRestorable content heads n.durable.directory → AreRestorable content (slice_set heads f (Some h)) (acted (Creates f file) n).durable.directory
  pub marks : (content : List (List ℕ)) (heads : List (Option FileHead)) (n : Node) (f : ℕ) (h new : FileHead) (name : List ℕ) (mark : Mark) → AreFiles content heads n.durable.directory → IsNamed heads f h name → SameBuckets h new →
      AreRestorable content heads n.durable.directory → AreRestorable content (slice_set heads f (Some new)) (acted (Marks name mark) n).durable.directory
  -- beside one that is saved
  pub saves : (content : List (List ℕ)) (heads : List (Option FileHead)) (n : Node) (f : ℕ) (h new : FileHead) (name : List ℕ) (start : ℕ) → AreFiles content heads n.durable.directory → IsNamed heads f h name → SameBuckets h new →
      AreRestorable content heads n.durable.directory → AreRestorable content (slice_set heads f (Some new)) (acted (Saves name start) n).durable.directory
  -- where marks, journals and saves alone become others
  pub dresses : (a b : List (List ℕ)) (heads new : List (Option FileHead)) (directory others : List (Option File)) → AreFiles a heads directory → ((f : ℕ) → IsDressed a (head_at heads f) b (head_at new f)) → ((f : ℕ) → SameLive (file_at directory f) (file_at others f)) →
      AreRestorable a heads directory → AreRestorable b new others
  -- where they can once a branch that was none of them made the same changes
  pub directs : (b : List (List ℕ)) (heads : List (Option FileHead)) (n : Node) (f : ℕ) (name : List ℕ) (file : File) (tid : Id) (keys : List Key) (c : Change) (cs : List Change) (s : Settlement) → s.outcome ≡ Commit → IsFoundAt name n.durable.directory f file →
      AllByRecursion (λ (l : LiveChanges). same_id s.serial l.serial ≡ false) file.history.live → AreRestorable b heads (acted (Changes tid s.serial name (c ∷ cs) keys) n).durable.directory → AreRestorable b heads (acted (Directs name (c ∷ cs) s) n).durable.directory
  pub tables : (content : List (List ℕ)) (heads : List (Option FileHead)) (n : Node) (a : table.Act) (moment : ℕ) → settlement_of a moment ≡ None → AreRestorable content heads n.durable.directory →
      AreRestorable content heads (acted (Tables a moment) n).durable.directory
  pub commits : (content : List (List ℕ)) (heads : List (Option FileHead)) (n : Node) (a : table.Act) (moment : ℕ) (s : Settlement) → settlement_of a moment ≡ Some s → AreUnitsOf n → AreRestorable content heads n.durable.directory →
      AreRestorable content heads (acted (Tables a moment) n).durable.directory
  pub aborts : (b c : List (List ℕ)) (heads new : List (Option FileHead)) (n : Node) (a : table.Act) (moment : ℕ) (s : Settlement) → settlement_of a moment ≡ Some s → AreFiles b heads n.durable.directory → AreUnitsOf n → s.outcome ≡ Abort →
      AreRestored s.serial b heads n.durable.directory c new → AreRestorable b heads n.durable.directory → AreRestorable c new (acted (Tables a moment) n).durable.directory

-- So it can once one of them has set one key more, or cut a sequential file.
pub record ChangesRestorable : Type 0 where
  pub sets : (a b : List (List ℕ)) (heads : List (Option FileHead)) (n : Node) (f : ℕ) (h new : FileHead) (name : List ℕ) (file : File) (tid serial : Id) (key : Key) (value : Option (List ℕ)) (keys : List Key) → AreFiles a heads n.durable.directory → AreUnitsOf n →
      IsNamed heads f h name → file_at n.durable.directory f ≡ Some file → MayChange serial file (record { key = key; before = map_of h a key; after = value } ∷ []) → IsWithin a h → Suits h key value →
      SameFile h new → any.IsFile new → IsLaidOut new b → map_of new b ≡ set_key key value (map_of h a) → Restores new b key (map_of h a key) → ((other : Key) → is_held file.history other ≡ true → room_at h a other ≤ room_at new b other) → SameBut f heads a b →
      AreRestorable a heads n.durable.directory → AreRestorable b (slice_set heads f (Some new)) (acted (Changes tid serial name (record { key = key; before = map_of h a key; after = value } ∷ []) keys) n).durable.directory
  pub cuts : (a b : List (List ℕ)) (heads : List (Option FileHead)) (n : Node) (f from : ℕ) (h new : FileHead) (name : List ℕ) (file : File) (tid serial : Id) (keys : List Key) → AreFiles a heads n.durable.directory → AreUnitsOf n →
      IsNamed heads f h name → file_at n.durable.directory f ≡ Some file → h.organization ≡ Sequential → 1 ≤ from → MayChange serial file (map removed (drop (from - 1) (in_order file))) →
      SameFile h new → any.IsFile new → IsLaidOut new b → map_of new b ≡ cut_from from (map_of h a) → SameBut f heads a b →
      AreRestorable a heads n.durable.directory → AreRestorable b (slice_set heads f (Some new)) (acted (Changes tid serial name (map removed (drop (from - 1) (in_order file))) keys) n).durable.directory
