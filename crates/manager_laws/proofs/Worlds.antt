-- What each node is at the opening, and what each task keeps of it, it is in all worlds.
use Rattle.std.proofs.Common.{◌≡◌, ℕ, List, [], ◌∷◌, Option, Some, None, sym, subst}
use Rattle.world_laws.specs.transcript_model.Lines as line
use Rattle.world_laws.specs.transcript_model.Lines.{Line, Cause}
use Rattle.world_laws.specs.script_model.Statements.{Statement, At, Deliver, LinkDown, Settle, Reading, Blank, Says, Bad}
use Rattle.world_laws.specs.script_model.Grammar.{reading}
use Rattle.world_laws.specs.run_model.World.{World, Shared, Node, DiskCounts, IsOpening, find_node, opened}
use Rattle.world_laws.specs.run_model.Answers.{Task}
use Rattle.world_laws.specs.run_model.Steps.{Choice, TaskAllowed, task_effect}
use Rattle.world_laws.specs.run_model.Statements.{Part, PartEffect, Begins, Phases, Step, Allowed, RoseAt, begun_with, part_effect, phases_of, refused_at_once, stops_at}
use Rattle.world_laws.specs.run_model.Transcript.{Entry, Legal, Turn}
use Rattle.world_laws.proofs.run_model.TaskLemmas.{effect_name}
use Rattle.world_laws.proofs.run_model.PartLemmas.{phases_fold}
use Rattle.world_laws.proofs.run_model.PartTasks.{View, Doing, Fixed, view}
use Rattle.world_laws.proofs.run_model.Refusing.{each_phase}
use Rattle.world_laws.specs.Worlds.{InAllWorlds}
use Rattle.world_laws.proofs.WorldLemmas.{each_opening}
use Rattle.run_laws.proofs.SoundWorlds.{Beside, Changed, Here, IsSound, IsSoundNode, begins_sound, changed, legal_sound, opening_sound, part_sound, sound_node}

module _ (P : Node → Type 0) (opens : (n : Node) → IsOpening n → P n)
    (own : (s : Shared) (stops : ℕ) (n : Node) (t : Task) (c : Choice) (rises : Cause → Type 0) → IsSoundNode s n → TaskAllowed s stops n t rises c → P n → P (task_effect s stops n t c).node) where
  abbrev Each : World → Type 0
  Each w = (node : List ℕ) (n : Node) → find_node node w.nodes ≡ Some n → P n

  part_each : (w : World) (p : Part) (c : Choice) (after : List DiskCounts) → Allowed w p after c → IsSound w → Each w → Each (part_effect w p c).world
  part_each w p c after allowed sound h = go (view w p)
    where
      go : View w p → Each (part_effect w p c).world
      go (Fixed answer ends kind is) = subst (λ (x : PartEffect). Each x.world) (sym (is c)) h
      go (Doing node t n named found does may) =
          let e = task_effect w.shared (stops_at node w) n t c in
          subst (λ (x : PartEffect). Each x.world) (sym (does c)) (λ other k is.
          at e.node k other (own w.shared (stops_at node w) n t c (λ cause. RoseAt w node cause after) (sound_node w sound node n found) (may after c allowed) (h node n found)) (changed node other n w.nodes e.node k (effect_name w.shared (stops_at node w) n t c) found is))
        where
          at : (m k : Node) (other : List ℕ) → P m → Changed node other n w.nodes m k → P k
          at m k other new (Here same is) = subst P (sym is) new
          at m k other new (Beside apart is) = h other k is

  begins_each : (s : Statement) (w : World) → Each w → Each (begun_with s w)
  begins_each Settle w h = h
  begins_each (At other request) w h = h
  begins_each (Deliver number) w h = h
  begins_each (LinkDown a b) w h = h

  step_each : (w v : World) (s : Statement) (lines : List Line) → Step w s lines v → IsSound w → Each w → Each v
  step_each w v s lines step sound h = subst Each (sym step.goes) (go (refused_at_once w s) step.does)
    where
      go : (o : Option Line) → Begins o (Phases (phases_of s) v.disks (begun_with s w) line.Normal) w step.events step.answer step.world → Each step.world
      go (Some refusal) d = subst Each (sym d.2) h
      go None d = phases_fold v.disks (λ p. Unit {0}) (λ given. Unit {0}) (λ u rest answer x. IsSound u → Each u → Each x)
          (λ u given q sd k. k)
          (λ u p c ok allowed ends sd k. part_each u p c v.disks allowed sd k)
          (λ u p c ok allowed on. (tt, λ rest answer x more sd k. more (part_sound u p c v.disks allowed sd) (part_each u p c v.disks allowed sd k)))
          (phases_of s) (each_phase s) (begun_with s w) line.Normal step.events step.answer step.world tt d (begins_sound s w sound) (begins_each s w h)

  turn_each : (w v : World) (r : Reading) (lines : List Line) → Turn w r lines v → IsSound w → Each w → Each v
  turn_each w v Blank lines t sound h = subst Each (sym t.1) h
  turn_each w v (Says s) lines t sound h = step_each w v s lines t sound h
  turn_each w v (Bad column) lines t sound h = absurd t

  legal_each : (opening w : World) (es : List Entry) → IsSound opening → Each opening → Legal opening es w → Each w
  legal_each opening w [] sound h legal = subst Each (sym legal) h
  legal_each opening w (e ∷ es) sound h legal = turn_each legal.0 w (reading e.source.text) e.lines legal.2 (legal_sound opening legal.0 es sound legal.1) (legal_each opening legal.0 es sound h legal.1)

  pub in_all_worlds : InAllWorlds P
  in_all_worlds nodes disks es closing opening legal = legal_each (opened nodes disks) closing es (opening_sound nodes disks opening) (λ node n found. opens n (each_opening nodes opening node n found)) legal
