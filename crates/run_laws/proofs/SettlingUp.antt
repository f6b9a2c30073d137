-- The parts of a settling; one with which it goes on leaves its node up.
use Rattle.std.proofs.Common.{◌≡◌, ℕ, ◌⊎◌, List, [], ◌∷◌, inl, inr, true, false, Option, Some, None, refl, sym, ◌∙◌, ap, subst}
use Rattle.run_said.specs.transcript_model.Lines.{Line}
use Rattle.run_said.specs.script_model.Statements.{Settle}
use Rattle.commit_protocol.specs.Messages.{Message}
use Rattle.commit_protocol.specs.Table as table
use Rattle.commit_protocol.specs.Rows as rows
use Rattle.commit_protocol.specs.Rows.{row}
use Rattle.run_said.specs.run_model.World.{World, Shared, Node, Tables, acted, next_moment, shared_after, tm_of}
use Rattle.run_said.specs.run_model.Answers.{Task, Hears, Restarts, RunsDown, refused_before_reading, table_rows, task_service}
use Rattle.run_said.specs.run_model.Steps.{Choice, Whole, begun, node_after_rows, ready_node, task_effect, whole}
use Rattle.run_said.specs.run_model.Statements.{Part, Does, Asks, Question, Heard, Unanswered, Doubtful, phases_of, question}
use Rattle.run_said.specs.run_model.StepLaws.{TaskAt, asked_by, task_of_part}
use Rattle.run_said.proofs.run_model.NodeLists.{some_is}
use Rattle.run_said.proofs.run_model.PartLemmas.{EachPhase}
use Rattle.run_said.proofs.run_model.PartTasks.{all_asked, each_restart, each_run_down}
use Rattle.run_laws.proofs.Labelling.{served_up}
use Rattle.run_laws.proofs.ToldParts.{IsThinPart}

abbrev pub IsSettling : Part → Type 0
IsSettling (Does other t) = (t ≡ Restarts) ⊎ (t ≡ RunsDown)
IsSettling (Asks other serial) = Unit {0}

pub settling_thin : (p : Part) → IsSettling p → IsThinPart p
settling_thin (Does other t) (inl e) = subst (λ t. IsThinPart (Does other t)) (sym e) refl
settling_thin (Does other t) (inr e) = subst (λ t. IsThinPart (Does other t)) (sym e) refl
settling_thin (Asks other serial) h = tt

pub each_settling : EachPhase IsSettling (phases_of Settle)
each_settling = (λ u. each_restart IsSettling (λ node. inl refl) u.nodes, (λ u. each_run_down IsSettling (λ node. inr refl) u.nodes, (λ u. all_asked IsSettling (λ node serial. tt) u.nodes, tt)))

abbrev pub SettleTask : Task → Type 0
SettleTask t = (t ≡ Restarts) ⊎ (t ≡ RunsDown) ⊎ ((m : Message) × (t ≡ Hears m))

pub settle_task : (u : World) (p : Part) (other : List ℕ) (t : Task) → IsSettling p → task_of_part u p ≡ Some (record { node = other; task = t }) → SettleTask t
settle_task u (Does name s) other t h e =
    let same : s ≡ t = ap (λ (a : TaskAt). a.task) (some_is _ _ e) in
    elim h [ inl k ↦ inl (sym same ∙ k) | inr k ↦ inr (inl (sym same ∙ k)) ]
settle_task u (Asks name y) other t h e = hears (question u name y) refl e
  where
    hears : (q : Question) → question u name y ≡ q → asked_by q ≡ Some (record { node = other; task = t }) → SettleTask t
    hears (Heard m) k f = inr (inr (m, sym (ap (λ (a : TaskAt). a.task) (some_is _ _ f))))
    hears Unanswered k f = let no : ⊥ = cc in absurd no
    hears (Doubtful d) k f = let no : ⊥ = cc in absurd no

table_up : (todo : List table.Act) (s : Shared) (n : Node) → (node_after_rows (table_rows todo s n) n).up ≡ n.up
table_up [] s n = refl
table_up (a ∷ todo) s n = table_up todo (shared_after (Tables a (next_moment n)) s) (acted (Tables a (next_moment n)) n)

module _ (s : Shared) (stops : ℕ) (n : Node) where
  of_restart : (c : Choice) → (task_effect s stops n Restarts c).ends ≡ false → (task_effect s stops n Restarts c).node.up ≡ true
  of_restart (Whole o) on = first (refused_before_reading s n (task_service Restarts)) on
    where
      ready : Node
      ready = ready_node o stops (task_service Restarts) n

      late : (q : Option Line) → (begun s ready (task_service Restarts) q).ends ≡ false → (begun s ready (task_service Restarts) q).node.up ≡ true
      late (Some refusal) h = let no : ⊥ = cc in absurd no
      late None h = refl

      first : (q : Option Line) → (whole s n ready (task_service Restarts) q).ends ≡ false → (whole s n ready (task_service Restarts) q).node.up ≡ true
      first (Some refusal) h = let no : ⊥ = cc in absurd no
      first None h = late ((task_service Restarts).refused_after_reading s ready) h
  of_restart _ on = let no : ⊥ = cc in absurd no

  of_run_down : (c : Choice) → (task_effect s stops n RunsDown c).ends ≡ false → (task_effect s stops n RunsDown c).node.up ≡ true
  of_run_down (Whole o) on = first (refused_before_reading s n (task_service RunsDown)) refl on
    where
      first : (q : Option Line) → refused_before_reading s n (task_service RunsDown) ≡ q → (whole s n n (task_service RunsDown) q).ends ≡ false → (whole s n n (task_service RunsDown) q).node.up ≡ true
      first (Some refusal) is h = let no : ⊥ = cc in absurd no
      first None is h = table_up (row (tm_of n) rows.RunDown) s n ∙ served_up n None is
  of_run_down _ on = let no : ⊥ = cc in absurd no

  of_heard : (m : Message) (c : Choice) → (task_effect s stops n (Hears m) c).ends ≡ false → (task_effect s stops n (Hears m) c).node.up ≡ true
  of_heard m (Whole o) on = first (refused_before_reading s n (task_service (Hears m))) refl on
    where
      first : (q : Option Line) → refused_before_reading s n (task_service (Hears m)) ≡ q → (whole s n n (task_service (Hears m)) q).ends ≡ false → (whole s n n (task_service (Hears m)) q).node.up ≡ true
      first (Some refusal) is h = let no : ⊥ = cc in absurd no
      first None is h = table_up (row (tm_of n) (rows.Got m)) s n ∙ served_up n None is
  of_heard m _ on = let no : ⊥ = cc in absurd no

  pub settle_up : (t : Task) (c : Choice) → SettleTask t → (task_effect s stops n t c).ends ≡ false → (task_effect s stops n t c).node.up ≡ true
  settle_up t c (inl e) = subst (λ y. (task_effect s stops n y c).ends ≡ false → (task_effect s stops n y c).node.up ≡ true) (sym e) (of_restart c)
  settle_up t c (inr (inl e)) = subst (λ y. (task_effect s stops n y c).ends ≡ false → (task_effect s stops n y c).node.up ≡ true) (sym e) (of_run_down c)
  settle_up t c (inr (inr (m, e))) = subst (λ y. (task_effect s stops n y c).ends ≡ false → (task_effect s stops n y c).node.up ≡ true) (sym e) (of_heard m c)
