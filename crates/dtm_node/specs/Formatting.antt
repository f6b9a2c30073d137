-- How an INIT goes at a node that is down.
use Rattle.std.specs.Prelude.{◌≡◌, ℕ, List, [], ◌∷◌, ◌++◌, Bool, true, false}
use Rattle.block_disk.specs.Disk.{DiskState}
use Rattle.script_lang.specs.script_model.Statements.{Init}
use Rattle.emitter_model.specs.Emitting.{Emits, Shown}
use Rattle.emitter_model.specs.transcript_model.Lines as line
use Rattle.emitter_model.specs.transcript_model.Lines.{Line}
use Rattle.world_laws.specs.run_model.Answers.{Serves}
use Rattle.run_shared.specs.Sharing.{SharedState}
use Rattle.dtm_node.specs.declared.node.Formatted.{Formatted}
use Rattle.dtm_node.specs.declared.node.Formatted.TheVariants as formatted
use Rattle.dtm_node.specs.Causes.{cause_of}
use Rattle.node_requests.specs.node_standing.Keeping.{PerformsTask}
use Rattle.node_requests.specs.node_standing.Standing.{IsDown, IsRunning, NodeState, Place}
use Rattle.node_requests.specs.node_standing.Telling.{TellsTask}

-- what it shows and is answered
abbrev pub init_lines : List ℕ → Formatted → List Line
init_lines name (formatted.Failed down) = line.Down name (cause_of down) ∷ []
init_lines name done = []

abbrev pub init_answer : Formatted → Line
init_answer formatted.Refused = line.BadParameter
init_answer formatted.Made = line.Normal
init_answer (formatted.Failed down) = line.Broken (cause_of down)

-- whether there is no volume behind it for it failed, and whether its statement ended with it in any case
abbrev pub unmade_then : Formatted → Bool → Bool
unmade_then formatted.Refused unmade = unmade
unmade_then formatted.Made unmade = false
unmade_then (formatted.Failed down) unmade = true

abbrev pub is_ended : Formatted → Bool
is_ended formatted.Made = false
is_ended done = true

-- what is kept of a node that is down
abbrev pub kept_so : List ℕ → Bool → ℕ → Bool → DiskState → NodeState
kept_so name unmade clock has_parts d = record { name = name; unmade = unmade; clock = clock; place = IsDown has_parts d }

-- Where no node may have been in use, its lines tell it, and it is a step of the node, whose disk is this then.
abbrev pub FormatsDisk : List ℕ → (slots blocks : ℕ) → (has_parts : Bool) → DiskState → Formatted → DiskState → Type 0
FormatsDisk name slots blocks has_parts d0 done d = (unmade : Bool) (clock : ℕ) (s : SharedState) → s.in_use ≡ false → (a b : Shown) → Emits a (init_lines name done ++ init_answer done ∷ []) b →
    TellsTask (Serves (Init slots blocks)) true (is_ended done) (kept_so name unmade clock has_parts d0) s a b (kept_so name (unmade_then done unmade) clock has_parts d) s
    × PerformsTask (Serves (Init slots blocks)) true (is_ended done) (kept_so name unmade clock has_parts d0) s a b (kept_so name (unmade_then done unmade) clock has_parts d) s

-- so at a place
abbrev pub Formats : List ℕ → (slots blocks : ℕ) → Place → Formatted → Place → Type 0
Formats name slots blocks (IsRunning r) done p = ⊥
Formats name slots blocks (IsDown has_parts d0) done (IsRunning r) = ⊥
Formats name slots blocks (IsDown has_parts d0) done (IsDown has_then d) = (has_then ≡ has_parts) × FormatsDisk name slots blocks has_parts d0 done d
