-- A volume as its callers see it.
use Rattle.std.specs.Prelude.{◌≡◌, ℕ, ◌-◌, List, IfSome, option_map, slice_set}
use Rattle.careful_write.specs.block_disk.Blocks.{with_number}
use Rattle.careful_write.specs.block_disk.Sizes.{content_start}
use Rattle.careful_write.specs.Reads.{as_read_by}
use Rattle.careful_write.specs.State.{StoreState}
use Rattle.volume.specs.declared.catalog.Catalog.{Catalog}
use Rattle.volume.specs.Catalogs.{TellsCatalog}

-- what it keeps of its content, and the store
pub record VolumeState : Type 0 where
  pub catalog : Catalog
  pub store : StoreState

-- what it keeps is what the content tells, with the staged blocks
abbrev pub Holds : VolumeState → Type 0
Holds v = IfSome v.store.current (TellsCatalog v.catalog)

-- the volume is the same but for what its store tells of reads
abbrev pub SameVolume : VolumeState → VolumeState → Type 0
SameVolume old new = new ≡ record old { store = as_read_by new.store old.store }

-- the store with one block staged
abbrev pub with_block : ℕ → List ℕ → StoreState → StoreState
with_block n bytes s = record s { current = option_map (λ blocks. slice_set blocks (n - content_start) bytes) s.current; touched = with_number n s.touched }
