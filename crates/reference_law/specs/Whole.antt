-- A script without a fault: each statement is done whole, or refused by its cause. What is shown then is a function of the script, and is what a run shows.
use Rattle.std.specs.Prelude.{ℕ, List, [], ◌∷◌, ◌++◌, Bool, Option, Some, None, ◌&&◌, nat_le, ◌+◌, if◌then◌else◌, map, length}
use Rattle.vms_model.specs.Limits.{line_limit, line_size_limit, script_size_limit}
use Rattle.run_model.specs.transcript_model.Outside.{behind}
use Rattle.run_model.specs.transcript_model.Lines as line
use Rattle.run_model.specs.transcript_model.Lines.{Line, lines_text}
use Rattle.run_model.specs.transcript_model.Script.{ScriptLine, lines_of, size_of}
use Rattle.run_model.specs.script_model.Statements.{Statement, Blank, Says, Bad}
use Rattle.run_model.specs.script_model.Grammar.{reading}
use Rattle.run_model.specs.World.{World, Node, DiskCounts, Lost, opened}
use Rattle.run_model.specs.Rows.{zeros}
use Rattle.run_model.specs.Steps.{Whole}
use Rattle.run_model.specs.Statements.{Part, PartEffect, Phase, part_effect, phases_of, refused_at_once, begun_with}
use Rattle.run_model.specs.Transcript.{Entry, Exit, Done, BadLine, TooLong, Ran, number_after, size_before, text_of}

-- what a statement shows, its answer last, and the world after it
pub record StatementShown : Type 0 where
  pub lines : List Line
  pub world : World

-- a part, and what comes behind it where the statement does not end with it
abbrev pub then_shown : PartEffect → StatementShown → StatementShown
then_shown e rest = if e.ends
    then record { lines = e.lines ++ e.answer ∷ []; world = e.world }
    else record { lines = e.lines ++ rest.lines; world = rest.world }

-- these parts one after another, each done whole where no act was under way, and what comes behind the last
abbrev pub parts_shown : List Part → (World → Line → StatementShown) → World → Line → StatementShown
parts_shown [] behind w given = behind w given
parts_shown (p ∷ ps) behind w given = then_shown (part_effect w p (Whole Lost)) (parts_shown ps behind (part_effect w p (Whole Lost)).world (part_effect w p (Whole Lost)).answer)

-- these phases one after another; behind them stands this answer, or that of the last part
abbrev pub phases_shown : List Phase → World → Line → StatementShown
phases_shown [] w given = record { lines = given ∷ []; world = w }
phases_shown (p ∷ ps) w given = parts_shown (p w) (phases_shown ps) w given

-- a statement that is refused at once shows nothing else, and leaves what there is
abbrev pub begins_shown : Option Line → World → Statement → StatementShown
begins_shown (Some refusal) w s = record { lines = refusal ∷ []; world = w }
begins_shown None w s = phases_shown (phases_of s) (begun_with s w) line.Normal

-- a statement, each part of which is done whole where no act was under way
abbrev pub shown_whole : World → Statement → StatementShown
shown_whole w s = begins_shown (refused_at_once w s) w s

-- how a run ended, and its text
pub record Ended : Type 0 where
  pub exit : Exit
  pub text : List ℕ

-- the next line is within the limits of a script, and no more than a million have begun
abbrev pub is_in_limits : List Entry → ScriptLine → Bool
is_in_limits es source = nat_le (length source.text) line_size_limit && nat_le (size_before es + size_of source) script_size_limit && nat_le (number_after es) line_limit

-- a line shows these lines
abbrev pub entry : ScriptLine → List Line → Entry
entry source lines = record { source = source; lines = lines }

-- the lines so far, and then one with the number of the next
abbrev pub ended_by : Exit → Line → List Entry → Ended
ended_by exit line es = record { exit = exit; text = text_of es ++ lines_text (number_after es) (line ∷ []) }

-- what comes of these lines of a script, from a world on that those before have led to, where each statement is whole and no act was under way
abbrev pub run_from : World → List Entry → List ScriptLine → Ended
run_from w es [] = record { exit = Done; text = text_of es }
run_from w es (source ∷ more) = if is_in_limits es source
    then elim (reading source.text) [
      | Blank ↦ run_from w (entry source [] ∷ es) more
      | Says s ↦ run_from (shown_whole w s).world (entry source (shown_whole w s).lines ∷ es) more
      | Bad column ↦ ended_by BadLine (line.BadLine column) es
    ]
    else ended_by TooLong line.TooLong es

-- a node of a rack that is to be: its name, and its disk's blocks
pub record PlaceSaid : Type 0 where
  pub name : List ℕ
  pub blocks : ℕ

-- the nodes of these places, which are down, and whose disks are all of zeros
abbrev pub nodes_at : List PlaceSaid → List Node
nodes_at ps = map (λ (p : PlaceSaid). zeros p.name p.blocks) ps

-- no disk failed, or was stopped
abbrev pub no_counts : List PlaceSaid → List DiskCounts
no_counts ps = map (λ (p : PlaceSaid). record { faults = 0; stops = 0 }) ps

-- their world
abbrev pub opening : List PlaceSaid → World
opening ps = opened (nodes_at ps) (no_counts ps)

-- what comes of a script at these places
abbrev pub run_of : List PlaceSaid → List ℕ → Ended
run_of ps script = run_from (opening ps) [] (lines_of script)

-- What comes of a script is a run of it, whatever was shown before: its lines lead, one after another, from the world of those nodes to where it ends.
abbrev pub TranscriptsAreRuns : Type 0
TranscriptsAreRuns = (ps : List PlaceSaid) (script : List ℕ) (before : Option (List ℕ)) → Ran (opening ps) (Some (lines_of script)) before (behind before (run_of ps script).text) (run_of ps script).exit
