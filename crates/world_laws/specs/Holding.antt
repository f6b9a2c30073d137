-- What the unsettled branches of a node hold while it is up.
use Rattle.std.specs.Prelude.{◌≡◌, ◌≤◌, ℕ, List, true, Some, length}
use Rattle.std.specs.List.{AllByRecursion}
use Rattle.vms_model.specs.Ids.{Id}
use Rattle.vms_model.specs.Keys.{End}
use Rattle.vms_model.specs.Limits.{branch_limit, lock_limit}
use Rattle.run_model.specs.records_model.History.{changes_by}
use Rattle.run_model.specs.unit_laws.Units.{moves_end}
use Rattle.run_model.specs.commit_protocol.World.{In}
use Rattle.run_model.specs.Locks.{Lock, holder}
use Rattle.run_model.specs.World.{File, Node, Sequential, find_file, serials_of}
use Rattle.world_laws.specs.Restarts.{AreHeld}

-- an unsettled branch that moved the end of a sequential file holds that end
abbrev pub IsEndHeld : List Lock → List ℕ → File → Type 0
IsEndHeld locks file f = f.organization ≡ Sequential → (x : Id) → moves_end (changes_by x f.history.live) ≡ true → holder locks file End ≡ Some x

-- Each key that an unsettled branch changed is held by it, and so is the end of a sequential file that it moved; only unsettled branches hold keys; and neither they
-- nor these are more than may be.
pub record AreLocked (n : Node) : Type 0 where
  pub held : (file : List ℕ) (f : File) → find_file file n.durable.directory ≡ Some f → AreHeld n.volatile.locks file f.history.live
  pub ends : (file : List ℕ) (f : File) → find_file file n.durable.directory ≡ Some f → IsEndHeld n.volatile.locks file f
  pub by : AllByRecursion (λ (l : Lock). In l.by (serials_of n.volatile.branches)) n.volatile.locks
  pub few_branches : length n.volatile.branches ≤ branch_limit
  pub few_locks : length n.volatile.locks ≤ lock_limit
