-- Nodes of whose disks nothing is known.
use Rattle.std.specs.Prelude.{◌≡◌, ◌≤◌, ℕ, List, false, Some}
use Rattle.vms_model.specs.Limits.{moment_limit}
use Rattle.script_lang.specs.script_model.Statements.{At, Boot, Clock, Recover, Settle, Statement}
use Rattle.said_steps.specs.run_model.World.{Node, Unknown, World, find_node}
use Rattle.dtm_node.specs.node_standing.Moments.{CanBeTold}

-- a node that is down, and of whose disk nothing is known, though no INIT of it failed
pub record IsUntold (n : Node) : Type 0 where
  pub down : n.up ≡ false
  pub unknown : n.durable.volume ≡ Unknown
  pub made : n.unmade ≡ false

-- A statement may bring such a node up: its own BOOT, or a settling. The world does not say what it is answered then.
abbrev pub BootsUnknown : World → Statement → Type 0
BootsUnknown w (At node Boot) = (n : Node) × (find_node node w.nodes ≡ Some n) × IsUntold n
BootsUnknown w Settle = (node : List ℕ) × (n : Node) × (find_node node w.nodes ≡ Some n) × IsUntold n
BootsUnknown w s = ⊥

-- a clock is set to a moment that a script may name, and the moment up to which a file is recovered can be shown
abbrev pub IsTimely : Statement → Type 0
IsTimely (At node (Clock now)) = now ≤ moment_limit
IsTimely (At node (Recover file way)) = CanBeTold (Recover file way)
IsTimely s = Unit {0}
