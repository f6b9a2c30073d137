-- A file of a volume is recovered, as the world says it.
use Rattle.std.specs.Prelude.{◌≡◌, ℕ, ◌*◌, ◌/◌, ◌+◌, [], List, Bool, true, false, Option, Some, slice_set}
use Rattle.std.specs.FinMap.{get}
use Rattle.file_base.specs.declared.head.FileHead.{FileHead}
use Rattle.file_base.specs.declared.head.Span.{Span}
use Rattle.vms_base.specs.declared.moments.Moment.{Moment}
use Rattle.vms_model.specs.Keys.{Key}
use Rattle.recover_rms.specs.record_files.Any as any
use Rattle.recover_rms.specs.record_files.Any.{map_of, IsLaidOut}
use Rattle.records_model.specs.Records.{Records}
use Rattle.world_laws.specs.recovery_model.File.{next_span}
use Rattle.world_laws.specs.run_model.World.{Node, File, Recovers, acted, layout_loaded, sizes_of}
use Rattle.unit_world.specs.directory_model.Files.{AgreesOnCarried, AreFiles, IsNamed, file_at, layout_of}
use Rattle.unit_world.specs.directory_model.Laws.{SameBut}

-- a journal begins anew in its ring, at a whole block behind its end, where the file has it
abbrev pub IsRenewed : Bool → Span → Span → Type 0
IsRenewed true old new = new ≡ record old { first = next_span old.end; end = next_span old.end }
IsRenewed false old new = new ≡ old

-- the moment since which a journal of before images tells is the greatest on the disk, where the file has it
abbrev pub IsSince : Bool → (greatest : ℕ) → Moment → Moment → Type 0
IsSince true greatest old new = new.0 ≡ greatest
IsSince false greatest old new = new ≡ old

-- The head of a recovered file: other buckets, each journal that it has begun anew, and the rest as it was.
pub record IsRecoveredHead (greatest : ℕ) (h new : FileHead) : Type 0 where
  pub is : new ≡ record h { start = new.start; alloc = new.alloc; used = new.used; root = new.root; levels = new.levels; count = new.count; ai = new.ai; bi = new.bi; bi_since = new.bi_since }
  pub after : IsRenewed h.marks.ai h.ai new.ai
  pub before : IsRenewed h.marks.bi h.bi new.bi
  pub since : IsSince h.marks.bi greatest h.bi_since new.bi_since

-- these records are loaded into its buckets
pub record IsLoadedWith (m : Records) (file : File) (content : List (List ℕ)) (new : FileHead) : Type 0 where
  pub form : any.IsFile new
  pub laid : IsLaidOut new content
  pub records : (key : Key) → get m key ≡ map_of new content key
  pub layout : layout_loaded file.organization (sizes_of file) m ≡ layout_of new content

-- Then the files are those of the world once the file, which no unsettled branch changed, is recovered. Its rings and its save stand.
abbrev pub RecoveriesKeepFiles : Type 0
RecoveriesKeepFiles = (a b : List (List ℕ)) (heads : List (Option FileHead)) (n : Node) (f : ℕ) (h new : FileHead) (name : List ℕ) (file : File) (m : Records) → AreFiles a heads n.durable.directory → IsNamed heads f h name → file_at n.durable.directory f ≡ Some file →
    file.history.live ≡ [] → IsRecoveredHead n.durable.greatest h new → IsLoadedWith m file b new → AgreesOnCarried h a b → SameBut f heads a b → AreFiles b (slice_set heads f (Some new)) (acted (Recovers name new.start new.alloc m) n).durable.directory
