-- Changes of a file that are staged: with the blocks of its buckets its directory block, where its head changes.
use Rattle.std.specs.Prelude.{◌≡◌, ◌⊎◌, ℕ, ◌+◌, ◌-◌, ◌*◌, ◌≤◌, ◌==◌, ◌||◌, Bool, true, List, [], Option, Some, None, IsSomeAnd, MatchOption, length, slice_set}
use Rattle.block_disk.specs.Sizes.{content_start}
use Rattle.careful_write.specs.Reads.{SameButReads}
use Rattle.careful_write.specs.State.{EachWhole}
use Rattle.careful_write.specs.Steps.{AgreesOff}
use Rattle.file_base.specs.declared.head.FileHead.{FileHead}
use Rattle.vms_base.specs.vms_model.Keys.{Key}
use Rattle.change_set.specs.tree_model.Setting.{layout_back, layout_set}
use Rattle.change_set.specs.Files.{SameFile, in_extent, sizes_of}
use Rattle.change_set.specs.Maps.{set_key}
use Rattle.record_files.specs.Any as any
use Rattle.record_files.specs.Any.{map_of, layout_of, room_at, IsLaidOut, Suits, Takes, Restores}
use Rattle.record_files.specs.seq_file.Records.{cut_from}
use Rattle.volume.specs.Catalogs.{IsSound}
use Rattle.volume.specs.State.{VolumeState, Holds}

-- a block is one of a file's buckets, or its directory block; blocks are counted in the content
abbrev pub is_of_file : ℕ → FileHead → ℕ → Bool
is_of_file f h n = in_extent h n || (n == 1 + f)

-- What is staged changes the file of this number alone: it has this head, which is one of the same file, and at most so many blocks are staged more.
pub record StagesFile (f : ℕ) (h : FileHead) (limit : ℕ) (old mid : VolumeState) (new : FileHead) : Type 0 where
  pub same : SameFile h new
  pub fits : any.IsFile new ⊎ (new ≡ h)
  pub rest : SameButReads (record old.store { current = mid.store.current; touched = mid.store.touched }) mid.store
  pub catalog : mid.catalog ≡ record old.catalog { heads = slice_set old.catalog.heads f (Some new) }
  pub few : length mid.store.touched ≤ length old.store.touched + limit
  pub holds : Holds old → Holds mid
  pub sound : (node : List ℕ) → IsSound node old.store.disk.size old.catalog → IsSound node old.store.disk.size mid.catalog
  pub blocks : MatchOption old.store.current (mid.store.current ≡ None) (λ a. IsSomeAnd mid.store.current (AgreesOff (is_of_file f h) a))

-- a file's extent lies in the content, and each block there has 512 bytes
pub record IsWithin (content : List (List ℕ)) (h : FileHead) : Type 0 where
  pub from : content_start ≤ h.start
  pub to : h.start + h.alloc * h.bucket ≤ length content + content_start
  pub whole : EachWhole content

-- a key was set from one content, in which the file lies, to another of whole blocks, while these keys were held
pub record SetsKey (h : FileHead) (held : Key → Bool) (key : Key) (value : Option (List ℕ)) (a b : List (List ℕ)) (new : FileHead) : Type 0 where
  pub within : IsWithin a h
  pub whole : EachWhole b
  pub form : any.IsFile new
  pub laid : IsLaidOut new b
  pub map : map_of new b ≡ set_key key value (map_of h a)
  pub layout : layout_of new b ≡ layout_set (sizes_of h) held key value (layout_of h a)
  pub back : Restores new b key (map_of h a key)
  pub rooms : (other : Key) → held other ≡ true → room_at h a other ≤ room_at new b other

-- so it is where the content is told, the file is one that is laid out, and it takes the value there
abbrev pub TellsSet : FileHead → (held : Key → Bool) → Key → Option (List ℕ) → VolumeState → VolumeState → FileHead → Type 0
TellsSet h held key value old mid new = (a : List (List ℕ)) → old.store.current ≡ Some a → any.IsFile h → IsLaidOut h a → Suits h key value → Takes h a key value →
    (b : List (List ℕ)) × (mid.store.current ≡ Some b) × SetsKey h held key value a b new

-- the positions of a sequential file from one on went from one content to another of whole blocks
pub record CutsFile (h : FileHead) (from : ℕ) (a b : List (List ℕ)) (new : FileHead) : Type 0 where
  pub whole : EachWhole b
  pub form : any.IsFile new
  pub laid : IsLaidOut new b
  pub map : map_of new b ≡ cut_from from (map_of h a)
  pub layout : layout_of new b ≡ layout_of h a

-- so they did where the content is told, and the file is one that is laid out
abbrev pub TellsCut : FileHead → ℕ → VolumeState → VolumeState → FileHead → Type 0
TellsCut h from old mid new = (a : List (List ℕ)) → old.store.current ≡ Some a → any.IsFile h → IsLaidOut h a → (b : List (List ℕ)) × (mid.store.current ≡ Some b) × CutsFile h from a b new

-- a key was set back in place from one content to another
pub record SetsBack (h : FileHead) (key : Key) (value : Option (List ℕ)) (a b : List (List ℕ)) (new : FileHead) : Type 0 where
  pub form : any.IsFile new
  pub laid : IsLaidOut new b
  pub map : map_of new b ≡ set_key key value (map_of h a)
  pub layout : layout_of new b ≡ layout_back key value (layout_of h a)
  pub rooms : (other : Key) → room_at h a other ≤ room_at new b other

-- so it was where the content is told, the file is one that is laid out, and the key may be set back so
abbrev pub TellsBack : FileHead → Key → Option (List ℕ) → VolumeState → VolumeState → FileHead → Type 0
TellsBack h key value old mid new = (a : List (List ℕ)) → old.store.current ≡ Some a → any.IsFile h → IsLaidOut h a → Suits h key value → Restores h a key value →
    (b : List (List ℕ)) × (mid.store.current ≡ Some b) × SetsBack h key value a b new
