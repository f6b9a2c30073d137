-- What lines of a part of a statement tell of all disks, and say of all nodes.
use Rattle.std.specs.Prelude.{◌≡◌, ◌<◌, ◌≤◌, ℕ, List, [], ◌∷◌, ◌++◌, Bool, true, false, not, Some, if◌then◌else◌, map, slice_get, take}
use Rattle.block_disk.specs.Disk.{DiskState, noted}
use Rattle.block_disk.specs.declared.disk.DiskCall.TheVariants as disk_call
use Rattle.emitter_model.specs.commit_protocol.World.{In}
use Rattle.emitter_model.specs.transcript_model.Lines as line
use Rattle.emitter_model.specs.transcript_model.Lines.{Cause, Line}
use Rattle.emitter_model.specs.transcript_model.Outside.{Rose}
use Rattle.emitter_model.specs.Emitting.{Emits, Shown}
use Rattle.said_steps.specs.run_said.Said.{Said, line_said, lines_said}
use Rattle.said_steps.specs.run_model.Steps.{count_of}
use Rattle.dtm_node.specs.recovery_units.Uses.{IsCounted}
use Rattle.dtm_node.specs.run_shared.Sharing.{SharedState}
use Rattle.dtm_node.specs.node_standing.Standing.{NodeState, counts_of, disk_in, is_up}
use Rattle.dtm_node.specs.node_standing.Telling.{DiskAdvancesOverCalls, said_node}
use Rattle.dtm_node.specs.node_standing.Holding.{HoldsAs}
use Rattle.said_steps.specs.Answers.{FallsTold, IsSteady, ends_turns, is_answer}
use Rattle.said_steps.specs.Calls.{CameUp, is_named, shows_boot}
use Rattle.run_nodes.specs.Together.{said_together}

-- the names of what is kept
abbrev pub kept_names : List NodeState → List (List ℕ)
kept_names ks = map (λ (k : NodeState). k.name) ks

-- What lines tell of the disk of the node of this name, which they neither arm nor make run again: each failure that they show raised its count, and it is as it
-- was where its node is none of these.
pub record DiskFollowsShown (name : List ℕ) (touched : List (List ℕ)) (lines : List Line) (old new : DiskState) : Type 0 where
  pub calls : new.calls ≡ old.calls
  pub failures : (cause : Cause) → In (line.Down name cause) lines → IsCounted old → Rose (count_of cause (counts_of old)) (count_of cause (counts_of new))
  pub passes : DiskAdvancesOverCalls old new
  pub elsewhere : is_named name touched ≡ false → new ≡ old

-- each of these nodes is up
abbrev pub AreAllUp : List NodeState → Type 0
AreAllUp ks = (place : ℕ) (k : NodeState) → slice_get ks place ≡ Some k → is_up k.place ≡ true

-- so of all disks, where the lines say what is kept of all nodes; and a node that was down is down still, and nothing on its disk is lost
pub record DisksFollowShown (touched : List (List ℕ)) (lines : List Line) (ks : List NodeState) (s : SharedState) (ls : List NodeState) (t : SharedState) : Type 0 where
  pub says : lines_said lines (said_together ks s) ≡ said_together ls t
  pub names : kept_names ls ≡ kept_names ks
  pub each : (place : ℕ) (k l : NodeState) → slice_get ks place ≡ Some k → slice_get ls place ≡ Some l → DiskFollowsShown k.name touched lines (disk_in k.place) (disk_in l.place)
  pub held : (place : ℕ) (k l : NodeState) → slice_get ks place ≡ Some k → slice_get ls place ≡ Some l → is_up k.place ≡ false → (is_up l.place ≡ false) × HoldsAs (disk_in k.place) (disk_in l.place)

-- Such lines were shown, perhaps of a node that went down, with which its statement goes on.
pub record TurnShown (touched : List (List ℕ)) (ks : List NodeState) (s : SharedState) (a b : Shown) (ls : List NodeState) (t : SharedState) : Type 0 where
  pub lines : List Line
  pub emits : Emits a lines b
  pub told : DisksFollowShown touched lines ks s ls t
  pub uncrashed : (node : List ℕ) → In (line.Crashed node) lines → ⊥

-- Such lines were shown, by which no node goes down, and the statement goes on,
pub record TurnTold (touched : List (List ℕ)) (ks : List NodeState) (s : SharedState) (a b : Shown) (ls : List NodeState) (t : SharedState) : Type 0 where
  pub lines : List Line
  pub emits : Emits a lines b
  pub told : DisksFollowShown touched lines ks s ls t
  pub steady : IsSteady lines
  pub up : AreAllUp ks → AreAllUp ls

-- or it was answered behind them, by a line that says nothing, and where each node was up by one that ends its turns; and that line tells whether a node went down.
pub record TurnOver (touched : List (List ℕ)) (ks : List NodeState) (s : SharedState) (a b : Shown) (ls : List NodeState) (t : SharedState) : Type 0 where
  pub lines : List Line
  pub answer : Line
  pub emits : Emits a (lines ++ answer ∷ []) b
  pub quiet : (said : Said) → line_said answer said ≡ said
  pub told : DisksFollowShown touched lines ks s ls t
  pub falls : FallsTold touched lines answer
  pub uncrashed : (node : List ℕ) → In (line.Crashed node) lines → ⊥
  pub is : is_answer answer ≡ true
  pub may : AreAllUp ks → ends_turns answer ≡ true

-- Boots.

-- what lines tell of the disk of the node of this name, which a settling made run again, or did not
pub record DiskPowered (name : List ℕ) (powered : Bool) (lines : List Line) (old new : DiskState) : Type 0 where
  pub calls : new.calls ≡ (if powered then noted (disk_call.Power old.stops) old.calls else old.calls)
  pub failures : (cause : Cause) → In (line.Down name cause) lines → IsCounted old → Rose (count_of cause (counts_of old)) (count_of cause (counts_of new))
  pub passes : DiskAdvancesOverCalls old new

-- lines that show neither that the node of this name went down nor that it came up
pub record IsUnmentioned (name : List ℕ) (lines : List Line) : Type 0 where
  pub down : (cause : Cause) → In (line.Down name cause) lines → ⊥
  pub boot : shows_boot name lines ≡ false

-- The nodes before this place that were down came up, which these lines tell and say, and by which no node goes down; the others are as they were.
pub record Restarted (place : ℕ) (lines : List Line) (ks : List NodeState) (s : SharedState) (ls : List NodeState) (t : SharedState) : Type 0 where
  pub says : lines_said lines (said_together ks s) ≡ said_together ls t
  pub names : kept_names ls ≡ kept_names ks
  pub front : (j : ℕ) (k l : NodeState) → j < place → slice_get ks j ≡ Some k → slice_get ls j ≡ Some l → DiskPowered k.name (not (is_up k.place)) lines (disk_in k.place) (disk_in l.place)
  pub came : CameUp (take place (map said_node ks)) lines
  pub up : (j : ℕ) (l : NodeState) → j < place → slice_get ls j ≡ Some l → is_up l.place ≡ true
  pub steady : IsSteady lines
  pub behind : (j : ℕ) (k : NodeState) → place ≤ j → slice_get ks j ≡ Some k → (slice_get ls j ≡ Some k) × IsUnmentioned k.name lines

-- such lines were shown
pub record RestartsTold (place : ℕ) (ks : List NodeState) (s : SharedState) (a b : Shown) (ls : List NodeState) (t : SharedState) : Type 0 where
  pub lines : List Line
  pub emits : Emits a lines b
  pub told : Restarted place lines ks s ls t
