-- An INIT that succeeds shows nothing else.
use Rattle.std.specs.List.{last_or}
use Rattle.std.proofs.Common.{◌≡◌, ℕ, true, List, [], ◌∷◌, ◌++◌, Option, Some, None, refl, ap, sym, ◌∙◌}
use Rattle.run_said.specs.transcript_model.Lines.{Line, Normal}
use Rattle.run_said.specs.script_model.Statements.{At, Init}
use Rattle.commit_protocol.specs.Messages.{Name}
use Rattle.run_said.specs.run_model.World.{Node, Shared, World, find_node, powered}
use Rattle.run_said.specs.run_model.Answers as answers
use Rattle.run_said.specs.run_model.Answers.{Serves, refused_before_reading}
use Rattle.run_said.specs.run_model.Steps as steps
use Rattle.run_said.specs.run_model.Steps.{Choice, Cut, Unpowered, Whole, WithoutMemory, task_effect}
use Rattle.run_said.specs.run_model.Statements.{Begins, PartEffect, Phases, Step, done_at, phases_of, refused_at_once, stops_at}
use Rattle.run_said.proofs.run_model.NodeLists.{some_is}
use Rattle.run_said.proofs.run_model.PartLemmas.{done_here, ended}

init_quiet : (s : Shared) (stops : ℕ) (n : Node) (slots journal : ℕ) (c : Choice) → (task_effect s stops n (Serves (Init slots journal)) c).answer ≡ Normal → (task_effect s stops n (Serves (Init slots journal)) c).lines ≡ []
init_quiet s stops n slots journal (Whole o) e = go (refused_before_reading s n (answers.service (Init slots journal)))
  where
    go : (l : Option Line) → (steps.whole s n (steps.with_unknown_volume true (powered o stops n)) (answers.service (Init slots journal)) l).lines ≡ []
    go (Some refusal) = refl
    go None = refl
init_quiet s stops n slots journal WithoutMemory e = refl
init_quiet s stops n slots journal Unpowered e = let no : ⊥ = cc in absurd no
init_quiet s stops n slots journal (Cut o done begun cause) e = let no : ⊥ = cc in absurd no

last_behind : (xs : List Line) (x : Line) → last_or None (xs ++ x ∷ []) ≡ Some x
last_behind [] x = refl
last_behind (y ∷ []) x = refl
last_behind (y ∷ z ∷ xs) x = last_behind (z ∷ xs) x

pub init_lines : (w v : World) (node : Name) (slots journal : ℕ) (lines : List Line) → Step w (At node (Init slots journal)) lines v → last_or None lines ≡ Some Normal → lines ≡ Normal ∷ []
init_lines w v node slots journal lines step answered = step.shows ∙ (λ i. quiet (refused_at_once w (At node (Init slots journal))) step.does i ++ normal i ∷ [])
  where
    normal : step.answer ≡ Normal
    normal = some_is step.answer Normal (sym (last_behind step.events step.answer) ∙ sym (ap (λ (ls : List Line). last_or None ls) step.shows) ∙ answered)

    at_node : (c : Choice) (o : Option Node) → find_node node w.nodes ≡ o → (done_at w node (Serves (Init slots journal)) c).answer ≡ Normal → (done_at w node (Serves (Init slots journal)) c).lines ≡ []
    at_node c (Some n) found e =
        let is = done_here w node (Serves (Init slots journal)) n c found in
        ap (λ (f : PartEffect). f.lines) is ∙ init_quiet w.shared (stops_at node w) n slots journal c (sym (ap (λ (f : PartEffect). f.answer) is) ∙ e)
    at_node c None none e = let is : done_at w node (Serves (Init slots journal)) c ≡ Rattle.run_said.specs.run_model.Statements.no_node w = rw (none, done_at) refl in ap (λ (f : PartEffect). f.lines) is

    quiet : (o : Option Line) → Begins o (Phases (phases_of (At node (Init slots journal))) v.disks w Normal) w step.events step.answer step.world → step.events ≡ []
    quiet (Some refusal) k = k.0
    quiet None k =
        let e = ended (done_at w node (Serves (Init slots journal)) k.0) v.disks step.events step.answer step.world k.2 in
        e.0 ∙ at_node k.0 (find_node node w.nodes) refl (sym e.1 ∙ normal)
