-- A node that is up stays so by lines by which none goes down.
use Rattle.std.proofs.Common.{◌≡◌, ℕ, List, [], ◌∷◌, Bool, true, false, Option, Some, None, inl, inr, if◌then◌else◌, refl, sym, ◌∙◌, ap, subst}
use Rattle.std.specs.Str.{bytes_eq}
use Rattle.emitter_model.specs.commit_protocol.World.{In}
use Rattle.emitter_model.specs.transcript_model.Lines as line
use Rattle.emitter_model.specs.transcript_model.Lines.{Cause, Line}
use Rattle.emitter_model.specs.Emitting.{Shown}
use Rattle.script_lang.specs.script_model.Statements.{Crash}
use Rattle.said_steps.specs.run_said.Said.{Said, SaidNode, SaidShared, line_said, lines_said, with_said}
use Rattle.said_steps.specs.run_model.Answers.{Serves, Task, task_service}
use Rattle.dtm_node.specs.run_shared.Sharing.{SharedState}
use Rattle.said_steps.specs.Answers.{IsSteady, is_normal}
use Rattle.said_steps.specs.Own.{alone}
use Rattle.dtm_node.specs.node_standing.Standing.{NodeState}
use Rattle.dtm_node.specs.node_standing.Telling.{TellsTask, may_answer_task, refused_task, said_node, said_shared}

-- whether the first node is up
abbrev first_up : List SaidNode → Bool
first_up [] = false
first_up (n ∷ ns) = n.up

line_up : (l : Line) (said : Said) → ((node : List ℕ) (cause : Cause) → line.Down node cause ≡ l → ⊥) → ((node : List ℕ) → line.Crashed node ≡ l → ⊥) → first_up said.nodes ≡ true → first_up (line_said l said).nodes ≡ true
line_up (line.Down node cause) said down crash up = absurd (down node cause refl)
line_up (line.Crashed node) said down crash up = absurd (crash node refl)
line_up (line.Booted node boot) said down crash up = by said.nodes up
  where
    put : (b : Bool) (n : SaidNode) (ns ms : List SaidNode) → n.up ≡ true → first_up (if b then record n { up = true } ∷ ns else n ∷ ms) ≡ true
    put true n ns ms e = refl
    put false n ns ms e = e

    by : (ns : List SaidNode) → first_up ns ≡ true → first_up (with_said node (λ (n : SaidNode). record n { up = true }) ns) ≡ true
    by [] e = e
    by (n ∷ ns) e = put (bytes_eq node n.name) n ns (with_said node (λ (k : SaidNode). record k { up = true }) ns) e
line_up _ said down crash up = up

lines_up : (ls : List Line) (said : Said) → IsSteady ls → first_up said.nodes ≡ true → first_up (lines_said ls said).nodes ≡ true
lines_up [] said h up = up
lines_up (l ∷ ls) said h up = lines_up ls (line_said l said) (record { down = λ node cause i. h.down node cause (inr i); crash = λ node i. h.crash node (inr i) }) (line_up l said (λ node cause e. h.down node cause (inl e)) (λ node e. h.crash node (inl e)) up)

pub steady_up : (ls : List Line) (n m : SaidNode) (s t : SaidShared) → IsSteady ls → lines_said ls (alone n s) ≡ alone m t → n.up ≡ true → m.up ≡ true
steady_up ls n m s t h e up = ap (λ (x : Said). first_up x.nodes) (sym e) ∙ lines_up ls (alone n s) h up

-- A task that went on, whose statement ends where the disk goes down.
module _ (task : Task) (answers : Bool) (k : NodeState) (s : SharedState) (a b : Shown) (l : NodeState) (t : SharedState) (d : TellsTask task answers false k s a b l t) where
  pub went_unrefused : refused_task (said_shared s) (said_node k) task ≡ None
  went_unrefused = by (refused_task (said_shared s) (said_node k) task) refl
    where
      by : (o : Option Line) → refused_task (said_shared s) (said_node k) task ≡ o → refused_task (said_shared s) (said_node k) task ≡ None
      by None e = e
      by (Some refusal) e = let no : false ≡ true = (d.refused refusal e).2 in let none : ⊥ = cc in absurd none

  module _ (on : (task_service task).goes_on ≡ false) (may : (answer : Line) → may_answer_task task false answer ≡ is_normal answer) (no_crash : task ≡ Serves Crash → ⊥) where
    pub went_steady : IsSteady d.lines
    went_steady = record {
      down = λ node cause i.
          let f = (d.answered.falls on).answered node cause i in
          let normal : is_normal d.answer ≡ true = sym (may d.answer) ∙ d.answered.may went_unrefused in
          let no : false ≡ true = ap is_normal (sym f.1) ∙ normal in
          let none : ⊥ = cc in none;
      crash = λ node i. no_crash (d.answered.crashes node i);
    }
