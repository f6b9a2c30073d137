-- Records that may be a file's.
use Rattle.std.specs.Prelude.{◌≡◌, ℕ, List, Option, Some, None}
use Rattle.std.specs.FinMap.{get}
use Rattle.file_base.specs.declared.head.FileHead.{FileHead}
use Rattle.vms_model.specs.Keys.{Key}
use Rattle.rolled_records.specs.record_files.Any.{Suits}
use Rattle.records_model.specs.Records.{Records}
use Rattle.records_model.specs.History.{current}
use Rattle.image_entries.specs.recovery_model.File.{FileState, Save}
use Rattle.image_entries.specs.recovery_model.Recovery.{rolled}
use Rattle.file_recoveries.specs.Causes.{cause_of, way_of}
use Rattle.file_recoveries.specs.Files.{HasFile}
use Rattle.file_recoveries.specs.declared.causes.Way.{Way}

-- each record may be the file's, under its key
abbrev pub MayHave : FileHead → Records → Type 0
MayHave h m = (k : Key) (v : List ℕ) → get m k ≡ Some v → Suits h k (Some v)

-- so may each that is made of a file by a recovery that its head does not refuse, where each may that stands in the file or in its save
abbrev pub RecordsSuit : Type 0
RecordsSuit = (c : List (List ℕ)) (f : ℕ) (h : FileHead) (way : Way) (s : FileState) → HasFile c f h (current s.timeline.history) s → cause_of h way None ≡ None →
    MayHave h (current s.timeline.history) → ((v : Save) → s.save ≡ Some v → MayHave h v.records) → MayHave h (rolled (way_of way) s)
