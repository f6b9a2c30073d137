-- A node's table in the course of a step: what the node knows, and the effects of the acts that it has done.
use Rattle.std.specs.Prelude.{ℕ, ◌≡◌, ◌+◌, ◌≤◌, Bool, true, false, Option, Some, None, List, [], ◌∷◌, ◌++◌, length, is_some, if◌then◌else◌}
use Rattle.std.specs.List.{list_any}
use Rattle.vms_model.specs.Ids.{Id}
use Rattle.commit_protocol.specs.Messages.{Name, LogRecord, Join}
use Rattle.commit_protocol.specs.Table.{Key, Branch, Joining, Tm, Act, Notes, Sends, Releases, after_act, find, holds, child, home_of, coordinator_of}
use Rattle.vms_model.specs.Transactions.{Reason}
use Rattle.commit_protocol.specs.Rows.{ended, blank, message}
use Rattle.commit_protocol.specs.Effects.{Effect, act_effects}

pub record Doing : Type 0 where
  pub tm : Tm
  pub effects : List Effect

-- after one act more
unfoldable pub did : Act → Doing → Doing
did a s = record { tm = after_act a s.tm; effects = s.effects ++ act_effects a s.tm.records }

-- after a list of acts more
abbrev pub does : List Act → Doing → Doing
does [] s = s
does (a ∷ acts) s = does acts (did a s)

-- so many effects more have room
abbrev pub HasRoom : ℕ → Doing → Type 0
HasRoom n s = length s.effects + n ≤ 2048

-- a branch with this key is in the table
abbrev pub IsThere : Key → List Branch → Type 0
IsThere k bs = is_some (find k bs) ≡ true

-- the row of a manager that forgets
abbrev pub released_row : Id → Name → List LogRecord → List Act
released_row s x rs = if list_any (λ q. holds s x q) rs then Releases s x ∷ [] else []

-- the outcome of an END_TRANS that was pending, where it is to be shown
abbrev pub ended_if : Bool → Branch → Option Reason → List Act
ended_if true b reason = ended b b.state reason
ended_if false b reason = []

-- the row of a branch that begins
abbrev pub begins_row : Id → Id → Id → List Act
begins_row t s bid = Notes (blank t s (Some bid) Joining None) ∷ (Sends (message Join (home_of (child t s)) (coordinator_of (child t s)) (child t s) (Some bid)) ∷ [])
