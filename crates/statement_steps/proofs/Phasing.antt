-- From the parts of each phase to the step of a statement.
use Rattle.std.proofs.Common.{◌≡◌, ℕ, List, [], ◌∷◌, ◌++◌, inl, inr, Bool, true, false, Some, None, refl, sym, ap, subst, append-nil}
use Rattle.world_laws.specs.transcript_model.Lines.{Line, Normal}
use Rattle.world_laws.specs.script_model.Statements.{At, Deliver, LinkDown, Settle, Statement}
use Rattle.world_laws.specs.run_model.World.{DiskCounts, Node, World, find_node}
use Rattle.world_laws.specs.run_model.Answers.{Task}
use Rattle.world_laws.specs.run_model.Statements.{Does, NoneFalls, Phase, Phases, Step, begun_with, is_up, phases_of, refused_at_once, where_up}
use Rattle.world_laws.proofs.run_model.NodeLists.{none_falls_on, none_falls_same}
use Rattle.world_laws.proofs.run_model.PartLemmas.{begins_so}
use Rattle.statement_steps.specs.Doing.{DoesParts, DoesPhases, as_begun}
use Rattle.statement_steps.proofs.Walking.{does_on, parts_ended, parts_on, walked_later}

-- no count falls
pub phases_fall : (ps : List Phase) (begun : List DiskCounts) (w : World) (ends : Bool) (lines : List Line) (answer : Line) (v : World) → DoesPhases begun ps w ends lines answer v → NoneFalls w.disks v.disks
phases_fall [] begun w ends lines answer v h = subst (λ (u : World). NoneFalls w.disks u.disks) (sym h.3) (none_falls_same w.disks)
phases_fall (p ∷ ps) begun w ends lines answer v h = elim h [
  | inl k ↦ k.1.counts
  | inr k ↦ none_falls_on w.disks k.0.disks v.disks k.4.counts (phases_fall ps begun k.0 ends k.2 answer v k.5)
]

pub phases_so : (ps : List Phase) (begun : List DiskCounts) (w : World) (ends : Bool) (lines : List Line) (answer : Line) (v : World) → DoesPhases begun ps w ends lines answer v → Phases ps v.disks (as_begun begun w) Normal lines answer (as_begun begun v)
phases_so [] begun w ends lines answer v h = (h.1, h.2, ap (as_begun begun) h.3)
phases_so (p ∷ ps) begun w ends lines answer v h = elim h [
  | inl k ↦ parts_ended (p (as_begun begun w)) v.disks (Phases ps v.disks) (as_begun begun w) lines answer (as_begun begun v) k.1.walked
  | inr k ↦ subst (λ ls. Phases (p ∷ ps) v.disks (as_begun begun w) Normal ls answer (as_begun begun v)) (sym k.3)
      (parts_on (p (as_begun begun w)) v.disks (Phases ps v.disks) (as_begun begun w) (as_begun begun k.0) k.1 Normal k.2 answer (as_begun begun v)
      (walked_later (p (as_begun begun w)) k.0.disks v.disks (phases_fall ps begun k.0 ends k.2 answer v k.5) (as_begun begun w) false k.1 Normal (as_begun begun k.0) k.4.walked) (phases_so ps begun k.0 ends k.2 answer v k.5))
]

-- a statement begins with the counts that there are
begun_counts : (s : Statement) (w : World) → (begun_with s w).disks ≡ w.disks
begun_counts Settle w = refl
begun_counts (At node request) w = refl
begun_counts (Deliver number) w = refl
begun_counts (LinkDown a b) w = refl

begun_same : (s : Statement) (w : World) → as_begun w.disks (begun_with s w) ≡ begun_with s w
begun_same Settle w = refl
begun_same (At node request) w = refl
begun_same (Deliver number) w = refl
begun_same (LinkDown a b) w = refl

-- What was done in the phases of a statement that nothing refuses at once is its step.
pub step_of_phases : (w v : World) (s : Statement) (ends : Bool) (lines : List Line) (answer : Line) → refused_at_once w s ≡ None → DoesPhases w.disks (phases_of s) (begun_with s w) ends lines answer v → Step w s (lines ++ answer ∷ []) v
step_of_phases w v s ends lines answer once h = record {
  events = lines;
  answer = answer;
  world = as_begun w.disks v;
  does = begins_so (refused_at_once w s) (Phases (phases_of s) v.disks (begun_with s w) Normal) w lines answer (as_begun w.disks v) once
      (subst (λ u. Phases (phases_of s) v.disks u Normal lines answer (as_begun w.disks v)) (begun_same s w) (phases_so (phases_of s) w.disks (begun_with s w) ends lines answer v h));
  counts = subst (λ ds. NoneFalls ds v.disks) (begun_counts s w) (phases_fall (phases_of s) w.disks (begun_with s w) ends lines answer v h);
  shows = refl;
  goes = refl;
}

-- The statement ended in its first phase, or its second, or went on behind its last.
pub phase_ended : (p : Phase) (ps : List Phase) (begun : List DiskCounts) (w : World) (lines : List Line) (answer : Line) (v : World) → DoesParts begun (p (as_begun begun w)) w true lines answer v → DoesPhases begun (p ∷ ps) w true lines answer v
phase_ended p ps begun w lines answer v h = inl (refl, h)

pub phase_on : (p : Phase) (ps : List Phase) (begun : List DiskCounts) (w mid : World) (front : List Line) (ends : Bool) (rest : List Line) (answer : Line) (v : World) → DoesParts begun (p (as_begun begun w)) w false front Normal mid → DoesPhases begun ps mid ends rest answer v →
    DoesPhases begun (p ∷ ps) w ends (front ++ rest) answer v
phase_on p ps begun w mid front ends rest answer v h k = inr (mid, front, rest, refl, h, k)

pub phases_over : (begun : List DiskCounts) (w : World) → DoesPhases begun [] w false [] Normal w
phases_over begun w = (refl, refl, refl, refl)

-- the last phase
pub phase_last : (p : Phase) (begun : List DiskCounts) (w : World) (ends : Bool) (lines : List Line) (answer : Line) (v : World) → DoesParts begun (p (as_begun begun w)) w ends lines answer v → DoesPhases begun (p ∷ []) w ends lines answer v
phase_last p begun w true lines answer v h = inl (refl, h)
phase_last p begun w false lines answer v h =
    let normal = does_on begun (p (as_begun begun w)) w lines answer v h in
    inr (v, lines, [], sym (append-nil lines), subst (λ a. DoesParts begun (p (as_begun begun w)) w false lines a v) normal h, (refl, refl, normal, refl))

-- A task of the node of this name, where it is up.
pub up_there : (w : World) (node : List ℕ) (t : Task) (n : Node) → find_node node w.nodes ≡ Some n → n.up ≡ true → where_up node t w ≡ Does node t ∷ []
up_there w node t n found up = rw (found, where_up, is_up) (rw up refl)

pub down_there : (w : World) (node : List ℕ) (t : Task) (n : Node) → find_node node w.nodes ≡ Some n → n.up ≡ false → where_up node t w ≡ []
down_there w node t n found down = rw (found, where_up, is_up) (rw down refl)

pub none_there : (w : World) (node : List ℕ) (t : Task) → find_node node w.nodes ≡ None → where_up node t w ≡ []
none_there w node t found = rw (found, where_up, is_up) refl
