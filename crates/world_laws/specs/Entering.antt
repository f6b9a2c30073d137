-- Changes that may be entered in the images of a file.
use Rattle.std.specs.Prelude.{◌≡◌, List, [], true, None}
use Rattle.std.specs.List.{AllByRecursion}
use Rattle.vms_model.specs.Ids.{Id}
use Rattle.run_model.specs.records_model.Records.{Change, Found}
use Rattle.run_model.specs.records_model.History.{changes_by, current}
use Rattle.run_model.specs.unit_laws.Units.{is_free}
use Rattle.run_model.specs.recovery_model.File.{IsOpenIn}
use Rattle.run_model.specs.recovery_model.Room.{full_of}
use Rattle.run_model.specs.World.{File, state_of}

-- a branch may make these changes of a file by one statement: it is not settled in the journals where it changed nothing yet; its keys are free for it, and each
-- change noted what it found; and no ring is full for them
pub record MayEnterImages (serial : Id) (cs : List Change) (f : File) : Type 0 where
  pub begins : changes_by serial f.history.live ≡ [] → IsOpenIn serial (state_of f)
  pub free : AllByRecursion (λ (c : Change). is_free serial f.history.live c.key ≡ true) cs
  pub found : Found cs (current f.history)
  pub fits : full_of serial cs (state_of f) ≡ None
