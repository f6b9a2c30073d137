-- What the words of a command ask for.
use Rattle.std.specs.Prelude.{◌≡◌, ◌≤◌, ℕ, List, false, true, Some, None}
use Rattle.script_model.specs.Command.{is_run_form}
use Rattle.day_script.specs.day_model.Command.{day_asked}
use Rattle.day_script.specs.Days.{asked_of}
use Rattle.dtm_run.specs.declared.command.Command.{Command}
use Rattle.dtm_run.specs.declared.command.Command.TheVariants as command

-- over the nodes of these names: a script, a day of at most 10,000 transactions, or nothing
abbrev pub IsCommandOf : (names words : List (List ℕ)) → Command → Type 0
IsCommandOf names words command.Script = is_run_form names words ≡ true
IsCommandOf names words (command.Day asked) = (is_run_form names words ≡ false) × (day_asked names words ≡ Some (asked_of asked)) × (asked.count ≤ 10000)
IsCommandOf names words command.Nothing = (is_run_form names words ≡ false) × (day_asked names words ≡ None)
