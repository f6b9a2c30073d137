-- What the lines of a statement tell of the disk of each node, whether or not it tells its content: the calls that armed or powered it; and which statements the lines
-- before refuse.
use Rattle.std.specs.Prelude.{◌≡◌, ℕ, List, [], ◌∷◌, ◌++◌, true, false, Some, None, IfSome}
use Rattle.std.specs.List.{last_or}
use Rattle.block_disk.specs.Disk.{DiskState}
use Rattle.emitter_model.specs.commit_protocol.World.{In}
use Rattle.emitter_model.specs.transcript_model.Lines as line
use Rattle.emitter_model.specs.transcript_model.Lines.{Cause, Line}
use Rattle.emitter_model.specs.transcript_model.Outside.{Rose}
use Rattle.script_lang.specs.script_model.Statements.{At, Bad, Blank, Crash, Reading, Says, Statement}
use Rattle.said_steps.specs.run_said.Said.{Said, is_by_lines, refused_by_said}
use Rattle.said_steps.specs.run_model.Steps.{count_of}
use Rattle.dtm_node.specs.recovery_units.Uses.{IsCounted}
use Rattle.said_steps.specs.Answers.{FallsTold, answers_so, goes_on, is_answer}
use Rattle.said_steps.specs.Calls.{calls_after, has_used, is_named, spoken_to, was_down}
use Rattle.dtm_node.specs.node_standing.Holding.{HoldsAs}
use Rattle.dtm_node.specs.node_standing.Telling.{DiskAdvancesOverCalls}
use Rattle.dtm_node.specs.node_standing.Standing.{counts_of}

-- What the lines of a statement tell of the disk of the node of this name: which calls armed or powered it; that each failure of it that they show raised its
-- count; that it is as it was where the statement does not speak to the node, or where what was said before refuses it; and that nothing on it is lost where its node
-- was down, unless it was used for a new volume or to bring the node up: not where what it has, or a quota, refused the boot.
pub record DiskFollowsStatement (name : List ℕ) (said : Said) (s : Statement) (lines : List Line) (old new : DiskState) : Type 0 where
  pub calls : new.calls ≡ calls_after name said s lines old.stops old.calls
  pub failures : (cause : Cause) → In (line.Down name cause) lines → IsCounted old → Rose (count_of cause (counts_of old)) (count_of cause (counts_of new))
  pub passes : DiskAdvancesOverCalls old new
  pub elsewhere : is_named name (spoken_to said s) ≡ false → new ≡ old
  pub refused : (refusal : Line) → refused_by_said said s ≡ Some refusal → new ≡ old
  pub held : was_down name said ≡ true → has_used name said s lines ≡ false → HoldsAs old new

-- One line and the disk of the node of this name: a skipped line shows nothing and leaves the disk; a statement tells of it; a line outside the grammar is
-- no entry.
abbrev pub DiskFollowsLine : List ℕ → Said → Reading → List Line → DiskState → DiskState → Type 0
DiskFollowsLine name said Blank lines old new = (lines ≡ []) × (new ≡ old)
DiskFollowsLine name said (Says s) lines old new = DiskFollowsStatement name said s lines old new
DiskFollowsLine name said (Bad column) lines old new = ⊥

-- so of each node of a rack and its disk
abbrev pub DisksFollowLine : List (List ℕ) → Said → Reading → List Line → List DiskState → List DiskState → Type 0
DisksFollowLine [] said r lines [] [] = Unit {0}
DisksFollowLine (name ∷ names) said r lines (old ∷ olds) (new ∷ news) = DiskFollowsLine name said r lines old new × DisksFollowLine names said r lines olds news
DisksFollowLine names said r lines olds news = ⊥

-- The last line of a statement is its answer, and an answer that the statement may have, by what was said before and by the lines before it. FAULT and STOPPED have
-- their cause in the line before them, of a node that the statement speaks to; and behind such a line of any node stands that answer, unless the statement goes on
-- there. A node is shown to go down by itself in a CRASH of it alone, and in each that is not refused, which shows nothing else.
pub record IsAnswered (said : Said) (s : Statement) (lines : List Line) : Type 0 where
  pub events : List Line
  pub answer : Line
  pub shows : lines ≡ events ++ answer ∷ []
  pub is : is_answer answer ≡ true
  pub may : refused_by_said said s ≡ None → answers_so said s lines answer ≡ true
  pub falls : goes_on s ≡ false → FallsTold (spoken_to said s) events answer
  pub crashes : (node : List ℕ) → In (line.Crashed node) events → s ≡ At node Crash
  pub crash : (node : List ℕ) → s ≡ At node Crash → refused_by_said said s ≡ None → events ≡ line.Crashed node ∷ []

-- What was said before decides the refusals by that alone: where it refuses a statement, just that refusal is shown, and else the answer is none of these. Each statement
-- is answered.
abbrev pub LineFollows : Said → Reading → List Line → Type 0
LineFollows said Blank lines = Unit {0}
LineFollows said (Says s) lines = ((refusal : Line) → refused_by_said said s ≡ Some refusal → lines ≡ refusal ∷ []) × (refused_by_said said s ≡ None → IfSome (last_or None lines) (λ answer. is_by_lines s answer ≡ false)) × IsAnswered said s lines
LineFollows said (Bad column) lines = Unit {0}
