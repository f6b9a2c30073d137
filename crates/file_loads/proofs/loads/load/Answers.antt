use Rattle.std.proofs.Common.{ℕ, List, map, Option, Some, None, IfSome, sym, subst}
use Rattle.block_disk.specs.Disk.{DiskState}
use Rattle.file_base.specs.declared.head.FileHead.{FileHead}
use Rattle.change_set.specs.Files.{IsPlaced}
use Rattle.load_pages.specs.record_files.Any.{IsFile}
use Rattle.load_pages.specs.load_laws.Records.{Keyed}
use Rattle.load_pages.specs.load_laws.Pages.{StandTold}
use Rattle.load_pages.specs.load_laws.Loads.{AreLoadable, IsLoaded, loaded_head, loaded_pages}
use Rattle.load_pages.proofs.load_laws.LoadLaws.{pages_load, head_loads}
use Rattle.load_pages.specs.Given.{keyed}
use Rattle.file_loads.proofs.loads.load.Goals as goal

pub returns-in-Ok-write_file-clause-form : goal.returns-in-Ok-write_file-clause-form
returns-in-Ok-write_file-clause-form g c =
    subst (λ (h : FileHead). IsFile h) (sym c.head_of.ensures) (head_loads c.args.head.now c.args.store.now.disk (map keyed c.args.records.now) c.requires.placed c.requires.loadable)

loaded_told : (h : FileHead) (disk : DiskState) (es : List Keyed) (told : Option (List (List ℕ))) → IsPlaced h disk → AreLoadable h es → StandTold h told (loaded_pages h es) → IfSome told (λ b. IsLoaded (loaded_head h es) b es)
loaded_told h disk es None placed loadable stand = tt
loaded_told h disk es (Some b) placed loadable stand = pages_load h disk b es placed loadable stand

pub returns-in-Ok-write_file-clause-loaded : goal.returns-in-Ok-write_file-clause-loaded
returns-in-Ok-write_file-clause-loaded g c =
    let es = map keyed c.args.records.now in
    let s = c.write_file.new.store.current in
    subst (λ (h : FileHead). IfSome s (λ b. IsLoaded h b es)) (sym c.head_of.ensures)
    (loaded_told c.args.head.now c.args.store.now.disk es s c.requires.placed c.requires.loadable c.in-Ok-write_file.ensures.stand)
