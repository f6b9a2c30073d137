-- To what the lines of a script set clocks, and up to which moments they recover.
use Rattle.std.specs.Prelude.{◌≡◌, ℕ, List, Some}
use Rattle.vms_model.specs.Times.{CanBeRead}
use Rattle.script_model.specs.Statements.{At, Backward, Clock, Forward, Recover, Says, Statement}
use Rattle.script_model.specs.Grammar.{reading}

-- a moment to which a statement sets a clock can be read, and so can one up to which it recovers
abbrev pub IsEarly : Statement → Type 0
IsEarly (At node (Clock now)) = CanBeRead now
IsEarly (At node (Recover file (Forward (Some until)))) = CanBeRead until
IsEarly (At node (Recover file (Backward until))) = CanBeRead until
IsEarly _ = Unit {0}

-- so it is of each line that says a statement
abbrev pub ClocksAreEarly : Type 0
ClocksAreEarly = (line : List ℕ) (s : Statement) → reading line ≡ Says s → IsEarly s
