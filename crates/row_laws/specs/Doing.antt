-- What rows of a task come to, done one after another.
use Rattle.std.specs.Prelude.{◌≤◌, ℕ, List, Bool, Result, MatchResult, length, take, drop}
use Rattle.emitter_model.specs.Emitting.{Shown, Emits}
use Rattle.run_model.specs.World.{Node, Shared, fallen}
use Rattle.run_model.specs.Answers.{Row}
use Rattle.run_model.specs.Steps.{act_begun, lines_of_rows, node_after_rows, shared_after_rows}

-- They were done whole: their lines were shown, and this holds of what nodes share and of the node behind them.
pub record DidAll (rs : List Row) (s : Shared) (n : Node) (a b : Shown) (shares : Shared → Type 0) (stands : Node → Type 0) : Type 0 where
  pub shows : Emits a (lines_of_rows rs) b
  pub shared : shares (shared_after_rows rs s)
  pub node : stands (node_after_rows rs n)

-- The disk went down in them: so many were done and shown, and perhaps the act of the next was under way, if it is one step of the disk.
pub record WentDown (rs : List Row) (s : Shared) (n : Node) (a b : Shown) (shares : Shared → Type 0) (falls : Node → Type 0) : Type 0 where
  pub done : ℕ
  pub begun : Bool
  pub within : done ≤ length rs
  pub shows : Emits a (lines_of_rows (take done rs)) b
  pub shared : shares (shared_after_rows (take done rs) s)
  pub disk : falls (fallen (act_begun begun (drop done rs)) (node_after_rows (take done rs) n))

-- one of both
abbrev pub DoesRows : {T E : Type 0} → Result T E → List Row → Shared → Node → (a b : Shown) → (shares : Shared → Type 0) → (stands falls : Node → Type 0) → Type 0
DoesRows r rs s n a b shares stands falls = MatchResult r (λ _. DidAll rs s n a b shares stands) (λ _. WentDown rs s n a b shares falls)
