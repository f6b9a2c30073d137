-- Tasks of one node among all.
use Rattle.std.specs.Prelude.{◌≡◌, ℕ, List, Bool, true, false, Some, slice_get, slice_set}
use Rattle.emitter_model.specs.Emitting.{Shown}
use Rattle.script_lang.specs.script_model.Statements.{Clock, Request}
use Rattle.said_steps.specs.run_model.Answers.{Serves, Task}
use Rattle.dtm_node.specs.run_shared.Sharing.{SharedState}
use Rattle.dtm_node.specs.node_standing.Keeping.{PerformsRequest, PerformsTask}
use Rattle.dtm_node.specs.node_standing.Standing.{NodeState, is_up}
use Rattle.dtm_node.specs.node_standing.Telling.{TellsTask}

-- A task was done by the node at this place, which keeps its name; the others are as they were.
pub record DoesTask (place : ℕ) (task : Task) (answers ends : Bool) (ks : List NodeState) (s : SharedState) (a b : Shown) (ls : List NodeState) (t : SharedState) : Type 0 where
  pub old : NodeState
  pub new : NodeState
  pub here : slice_get ks place ≡ Some old
  pub put : ls ≡ slice_set ks place new
  pub named : new.name ≡ old.name
  pub tells : TellsTask task answers ends old s a b new t
  pub performs : PerformsTask task answers ends old s a b new t

-- likewise where it is up; else nothing was done
pub record DoesIfUp (place : ℕ) (task : Task) (ks : List NodeState) (s : SharedState) (a b : Shown) (ls : List NodeState) (t : SharedState) : Type 0 where
  pub kept : NodeState
  pub there : slice_get ks place ≡ Some kept
  pub up : is_up kept.place ≡ true → DoesTask place task false false ks s a b ls t
  pub down : is_up kept.place ≡ false → (ls ≡ ks) × (t ≡ s) × (b ≡ a)

-- A request was served by the node at this place.
pub record DoesRequest (place : ℕ) (request : Request) (ks : List NodeState) (s : SharedState) (a b : Shown) (ls : List NodeState) (t : SharedState) : Type 0 where
  pub old : NodeState
  pub new : NodeState
  pub here : slice_get ks place ≡ Some old
  pub put : ls ≡ slice_set ks place new
  pub named : new.name ≡ old.name
  pub ends : Bool
  pub tells : TellsTask (Serves request) true ends old s a b new t
  pub performs : PerformsRequest request old s a b new t

-- The clock of the node at this place was set, a step of it.
pub record IsClocked (place now : ℕ) (ks : List NodeState) (s : SharedState) (ls : List NodeState) : Type 0 where
  pub kept : NodeState
  pub here : slice_get ks place ≡ Some kept
  pub put : ls ≡ slice_set ks place (record kept { clock = now })
  pub performs : (a : Shown) → PerformsTask (Serves (Clock now)) false false kept s a a (record kept { clock = now }) s
