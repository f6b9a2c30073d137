-- Which resource managers are declared: each that has joined an unsettled branch which is not prepared.
use Rattle.std.specs.Prelude.{◌≡◌, true, false}
use Rattle.commit_protocol.specs.Allowed.{is_prepared}
use Rattle.commit_protocol.specs.Table.{Branch, Manager}
use Rattle.commit_protocol.specs.World.{In}
use Rattle.world_laws.specs.run_model.World.{Node}
use Rattle.world_laws.specs.run_model.Answers.{is_declared}
use Rattle.world_laws.specs.Worlds.{InAllWorlds}

-- each resource manager that has joined an unsettled branch of a node which is not prepared is declared there
abbrev pub AreDeclared : Node → Type 0
AreDeclared n = (b : Branch) → In b n.volatile.branches → is_prepared b.state ≡ false → (m : Manager) → In m b.managers → is_declared n m.rm ≡ true

-- So it is in all worlds while the node is up. A prepared branch may be one that a boot has found, behind which nothing is declared.
abbrev pub JoinedAreDeclared : Type 0
JoinedAreDeclared = InAllWorlds (λ n. n.up ≡ true → AreDeclared n)
