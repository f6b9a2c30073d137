-- The head of a file refuses what the file refuses.
use Rattle.std.specs.Prelude.{◌≡◌, ℕ, List, Option, option_map}
use Rattle.file_base.specs.declared.head.FileHead.{FileHead}
use Rattle.vms_base.specs.declared.ids.Serial.{Serial}
use Rattle.vms_base.specs.Ids.{serial_of}
use Rattle.records_model.specs.Records.{Records}
use Rattle.image_entries.specs.recovery_model.File.{FileState}
use Rattle.image_entries.specs.recovery_model.Recovery.{refusal}
use Rattle.file_recoveries.specs.Causes.{cause_of, way_of, refusal_by}
use Rattle.file_recoveries.specs.Files.{HasFile}
use Rattle.file_recoveries.specs.declared.causes.Way.{Way}

-- where the content has the file, whoever uses it
abbrev pub CausesAreRefusals : Type 0
CausesAreRefusals = (c : List (List ℕ)) (f : ℕ) (h : FileHead) (m : Records) (s : FileState) (way : Way) (user : Option Serial) → HasFile c f h m s → refusal (way_of way) (option_map serial_of user) s ≡ refusal_by way (cause_of h way user)
