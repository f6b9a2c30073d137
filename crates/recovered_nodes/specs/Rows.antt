-- A file that is recovered in other blocks of its volume, as the world says it.
use Rattle.std.specs.Prelude.{◌≡◌, ℕ, true, List, None, length}
use Rattle.std.specs.FinMap.{entries}
use Rattle.file_base.specs.declared.head.FileHead.{FileHead}
use Rattle.recover_rms.specs.load_laws.Loads.{IsLoaded}
use Rattle.recover_rms.specs.load_laws.Records.{Keyed}
use Rattle.world_laws.specs.recovery_model.File.{FileState}
use Rattle.world_laws.specs.recovery_model.Recovery.{rolled}
use Rattle.recover_rms.specs.save_laws.Saves.{save_head}
use Rattle.records_model.specs.Records.{Records}
use Rattle.records_model.specs.History.{current}
use Rattle.world_laws.specs.run_model.World.{File, KeepsImages, buckets_loaded, loaded_map, state_of}
use Rattle.unit_world.specs.volume.declared.catalog.Catalog.{Catalog}
use Rattle.unit_world.specs.directory_model.Files.{IsCarried, IsFile, IsHeadOf, IsWithin}
use Rattle.recovered_nodes.specs.Recovering.{IsLoadedWith, IsRecoveredHead}
use Rattle.recover_rms.specs.file_recoveries.Causes.{cause_of, way_of}
use Rattle.recover_rms.specs.file_recoveries.Files.{HasFile}
use Rattle.recover_rms.specs.file_recoveries.declared.causes.Way.{Way}
use Rattle.recover_rms.specs.file_recoveries.Suiting.{MayHave}
use Rattle.recover_rms.specs.Loading.{as_loaded}
use Rattle.recover_rms.specs.Replacing.{IsHeadWith, wanted_buckets}

-- what recovery knows of a file of the world, the content has of it
abbrev pub FilesAreKnown : Type 0
FilesAreKnown = (content : List (List ℕ)) (name : List ℕ) (boot greatest f : ℕ) (h : FileHead) (file : File) → IsFile content h file → IsCarried content f h file.carried → KeepsImages name boot greatest file → HasFile content f h (current file.history) (state_of file)

-- The head with loaded records is that of a recovered file; and these are its records, as the world loads them, with the layout and the buckets that they take there.
pub record LoadsAreRows : Type 0 where
  pub heads : (v : Catalog) (h new : FileHead) (es : List Keyed) → IsHeadWith v h es new → IsRecoveredHead v.home.greatest_moment.0 h new
  pub loaded : (content : List (List ℕ)) (v : Catalog) (h new : FileHead) (file : File) (m : Records) → IsHeadOf h file → MayHave h m → IsHeadWith v h (as_loaded h m) new → IsLoaded new content (as_loaded h m) → IsLoadedWith (loaded_map file.organization m) file content new
  pub buckets : (h : FileHead) (file : File) (m : Records) → IsHeadOf h file → MayHave h m → wanted_buckets h (as_loaded h m) ≡ buckets_loaded file (loaded_map file.organization m)
  pub count : (h : FileHead) (file : File) (m : Records) → IsHeadOf h file → length (as_loaded h m) ≡ length (entries (loaded_map file.organization m))

-- each record that is made of a file may be its own, where its buckets and those of its save lie in the content
abbrev pub RecordsMayStand : Type 0
RecordsMayStand = (c : List (List ℕ)) (f : ℕ) (h : FileHead) (way : Way) (s : FileState) → HasFile c f h (current s.timeline.history) s → cause_of h way None ≡ None → IsWithin c h → (h.marks.save ≡ true → IsWithin c (save_head h)) → MayHave h (rolled (way_of way) s)
