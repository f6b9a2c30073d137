-- What the settlement of a branch makes of a volume whose files keep journals of images.
use Rattle.std.specs.Prelude.{◌≡◌, ℕ, List, Bool, true, false, Option, Some, None, length, option_map, slice_index_or}
use Rattle.volume_format.specs.file_base.declared.head.FileHead.{FileHead}
use Rattle.journal_format.specs.journal_model.Entries.{Entry, spelling}
use Rattle.unit_table.specs.Units.{OpenUnit}
use Rattle.vms_base.specs.declared.ids.Serial.{Serial}
use Rattle.vms_base.specs.declared.ids.Tid.{Tid}
use Rattle.volume.specs.Catalogs.{head_at}
use Rattle.volume.specs.State.{VolumeState}
use Rattle.volume_format.specs.declared.home.Ending.{Ending}
use Rattle.unit_journal.specs.Settling.{MakesSettlement}
use Rattle.image_appends.specs.Images.{is_kept}
use Rattle.image_appends.specs.Settling.{content_from, heads_from}
use Rattle.image_appends.specs.declared.side.Side.TheVariants.{After, Before}

-- the heads of files behind the entry of a settlement in the journals of some of them, where there is an entry
abbrev pub heads_settled : Option Entry → List Bool → List (Option FileHead) → List (Option FileHead)
heads_settled None files heads = heads
heads_settled (Some e) files heads = heads_from 0 files (length (spelling e)) heads

-- and a content with it
abbrev pub content_settled : Option Entry → List Bool → List (Option FileHead) → List (List ℕ) → List (List ℕ)
content_settled None files heads c = c
content_settled (Some e) files heads c = content_from 0 files (spelling e) heads c

-- A volume has the entry of a settlement in the journals of these files, where they keep them, and is else as it was.
pub record EntersSettled (files : List Bool) (e : Option Entry) (v mid : VolumeState) : Type 0 where
  pub current : mid.store.current ≡ option_map (content_settled e files v.catalog.heads) v.store.current
  pub catalog : mid.catalog ≡ record v.catalog { heads = heads_settled e files v.catalog.heads }

-- A volume has what the settlement of a branch makes of another: its entry in the journals of the files that it changed, and what it makes of all else.
pub record SettlesFiles (files : List Bool) (tid : Tid) (serial : Serial) (ending : Ending) (moment : ℕ) (e : Option Entry) (left : List (Option OpenUnit)) (v made : VolumeState) : Type 0 where
  pub mid : VolumeState
  pub entered : EntersSettled files e v mid
  pub settles : MakesSettlement tid serial ending moment e left mid made

-- a file keeps no journal of images
pub record KeepsNone (h : FileHead) : Type 0 where
  pub afters : is_kept After h ≡ false
  pub befores : is_kept Before h ≡ false

-- none of the files that take part keeps one
abbrev pub KeepNone : List Bool → List (Option FileHead) → Type 0
KeepNone files heads = (file : ℕ) (h : FileHead) → slice_index_or files file false ≡ true → head_at heads file ≡ Some h → KeepsNone h
