-- Keys with the branches that hold them, as locks.
use Rattle.std.specs.Prelude.{List, [], ◌∷◌, ◌++◌, if◌then◌else◌}
use Rattle.vms_base.specs.vms_model.Ids.{Id}
use Rattle.table_keys.specs.records_model.History.{same_id}
use Rattle.vms_base.specs.Ids.{serial_of}
use Rattle.vms_base.specs.Keys.{key_of}
use Rattle.vms_base.specs.declared.ids.Serial.{Serial}
use Rattle.table_keys.specs.declared.place.Place.{Place}
use Rattle.record_locks.specs.Locks.{Lock}

abbrev pub lock_of : Place × Serial → Lock
lock_of e = record { file = e.0.file; key = key_of e.0.key; by = serial_of e.1 }

-- keys in the order of their locking, as locks with the newest first
abbrev pub newest_first : List (Place × Serial) → List Lock
newest_first [] = []
newest_first (e ∷ es) = newest_first es ++ lock_of e ∷ []

-- the keys but for those of one branch
abbrev pub others_of : Id → List (Place × Serial) → List (Place × Serial)
others_of serial [] = []
others_of serial (e ∷ es) = if same_id serial (serial_of e.1) then others_of serial es else e ∷ others_of serial es
