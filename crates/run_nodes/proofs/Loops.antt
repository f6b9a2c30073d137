-- Turns of the loops of a settling.
use Rattle.std.specs.Prelude.{slice_get}
use Rattle.std.proofs.Common.{◌≡◌, ℕ, zero, suc, ◌+◌, ◌<◌, ◌≤◌, List, [], ◌∷◌, ◌++◌, length, Bool, true, false, Some, refl, sym, ◌∙◌, ap, subst, arith}
use Rattle.std.proofs.lemmas.List.{length-map}
use Rattle.emitter_model.specs.Emitting.{Shown}
use Rattle.emitter_model.proofs.EmittingLemmas.{emits_nothing, emits_on}
use Rattle.script_lang.specs.script_model.Statements.{Settle}
use Rattle.said_steps.specs.run_model.Answers.{Hears, Restarts, RunsDown, Task}
use Rattle.said_steps.proofs.run_model.NodeLists.{some_is}
use Rattle.emitter_model.specs.commit_protocol.Messages.{Message}
use Rattle.dtm_node.specs.run_shared.Sharing.{SharedState}
use Rattle.dtm_node.specs.node_standing.Standing.{NodeState, is_up}
use Rattle.dtm_node.specs.node_standing.Telling.{said_node}
use Rattle.said_steps.specs.Answers.{FallsTold}
use Rattle.run_nodes.specs.Names.{AreApart}
use Rattle.run_nodes.specs.Tasks.{DoesTask}
use Rattle.run_nodes.specs.Together.{AnswersTogether}
use Rattle.run_nodes.specs.Told.{Restarted, RestartsTold, TurnOver, TurnTold, kept_names}
use Rattle.run_nodes.proofs.Restarts.{IsTurn, restarted_behind_all, restarted_none, restarted_on, restarted_over, restarted_up, task_over, task_turn}

pub at_length : (ks : List NodeState) (place : ℕ) → place < length (kept_names ks) → (k : NodeState) × (slice_get ks place ≡ Some k)
at_length [] place h = absurd (omega arith)
at_length (x ∷ ks) zero h = (x, refl)
at_length (x ∷ ks) (suc place) h = at_length ks place (omega arith)

pub told_none : (ks : List NodeState) (s : SharedState) (a : Shown) → RestartsTold 0 ks s a a ks s
told_none ks s a = record { lines = []; emits = emits_nothing a; told = restarted_none ks s }

pub told_up : (place : ℕ) (ks : List NodeState) (s : SharedState) (a b : Shown) (ls : List NodeState) (t : SharedState) → RestartsTold place ks s a b ls t → place < length (kept_names ks) → ((k : NodeState) → slice_get ls place ≡ Some k → is_up k.place ≡ true) → RestartsTold (place + 1) ks s a b ls t
told_up place ks s a b ls t h there up =
    let k = at_length ks place there in
    record { lines = h.lines; emits = h.emits; told = restarted_up place h.lines ks s ls t k.0 h.told k.1 (up k.0 (h.told.behind place k.0 (omega arith) k.1).0) }

-- the one there is as it was
same_there : (place : ℕ) (ks : List NodeState) (s : SharedState) (a x : Shown) (ms : List NodeState) (u : SharedState) (old : NodeState) → RestartsTold place ks s a x ms u → place < length (kept_names ks) → slice_get ms place ≡ Some old → slice_get ks place ≡ Some old
same_there place ks s a x ms u old h there here =
    let k = at_length ks place there in
    k.1 ∙ ap (λ y. Some y) (some_is k.0 old (sym (h.told.behind place k.0 (omega arith) k.1).0 ∙ here))

pub told_on : (place : ℕ) (ks : List NodeState) (s : SharedState) (a x b : Shown) (ms : List NodeState) (u : SharedState) (ls : List NodeState) (t : SharedState) → AreApart (kept_names ks) → RestartsTold place ks s a x ms u → place < length (kept_names ks) → (d : DoesTask place Restarts false false ms u x b ls t) → is_up d.old.place ≡ false → RestartsTold (place + 1) ks s a b ls t
told_on place ks s a x b ms u ls t apart h there d down = record {
  lines = h.lines ++ d.tells.lines;
  emits = emits_on a x b h.lines d.tells.lines h.emits d.tells.emits;
  told = subst (λ ns. Restarted (place + 1) (h.lines ++ d.tells.lines) ks s ns t) (sym d.put)
      (restarted_on place h.lines ks s ms u apart h.told d.old (same_there place ks s a x ms u d.old h there d.here) x b d.new t d.named down d.tells);
}

pub told_over : (place : ℕ) (ks : List NodeState) (s : SharedState) (a x b : Shown) (ms : List NodeState) (u : SharedState) (ls : List NodeState) (t : SharedState) → AreApart (kept_names ks) → RestartsTold place ks (record s { in_use = true }) a x ms u → place < length (kept_names ks) → (d : DoesTask place Restarts true true ms u x b ls t) → is_up d.old.place ≡ false →
    AnswersTogether (kept_names ks) Settle a b ks s ls t
told_over place ks s a x b ms u ls t apart h there d down =
    subst (λ ns. AnswersTogether (kept_names ks) Settle a b ks s ns t) (sym d.put)
    (restarted_over place h.lines ks s ms u a x b d.old d.new t apart h.told h.emits (same_there place ks (record s { in_use = true }) a x ms u d.old h there d.here) down d.named d.tells)

-- A statement that was answered behind the boots of all nodes.
pub told_behind : (place : ℕ) (ks : List NodeState) (s : SharedState) (a x b : Shown) (ms : List NodeState) (u : SharedState) (touched : List (List ℕ)) (ls : List NodeState) (t : SharedState) → AreApart (kept_names ks) → length (kept_names ks) ≤ place → RestartsTold place ks (record s { in_use = true }) a x ms u → TurnOver touched ms u x b ls t → touched ≡ kept_names ks →
    AnswersTogether (kept_names ks) Settle a b ks s ls t
told_behind place ks s a x b ms u touched ls t apart over h k same =
    restarted_behind_all place h.lines k.lines k.answer ks s ms u touched ls t a x b apart (let l = length-map ks said_node in let n = length-map ks (λ (y : NodeState). y.name) in omega arith) h.told h.emits k.told k.emits k.quiet (subst (λ ns. FallsTold ns k.lines k.answer) same k.falls) k.uncrashed k.is k.may

pub quiet_run_down : IsTurn RunsDown
quiet_run_down = record { quiet = record { unpowered = λ e y. refl; unarmed = λ y. refl; says = λ y z v o. refl; no_crash = λ q. (let no : ⊥ = cc in no) }; on = refl; goes = λ y. refl; ends = λ y. refl; refused = λ y z. refl }

pub quiet_hears : (m : Message) → IsTurn (Hears m)
quiet_hears m = record { quiet = record { unpowered = λ e y. refl; unarmed = λ y. refl; says = λ y z v o. refl; no_crash = λ q. (let no : ⊥ = cc in no) }; on = refl; goes = λ y. refl; ends = λ y. refl; refused = λ y z. refl }

-- A task whose flow is this.
pub flow_turn : (names : List (List ℕ)) (place : ℕ) (task : Task) (over : Bool) (ks : List NodeState) (s : SharedState) (a b : Shown) (ls : List NodeState) (t : SharedState) → names ≡ kept_names ks → AreApart names → IsTurn task → DoesTask place task over over ks s a b ls t → over ≡ false → TurnTold names ks s a b ls t
flow_turn names place task over ks s a b ls t same apart quiet d e = task_turn names place task ks s a b ls t same apart quiet (subst (λ x. DoesTask place task x x ks s a b ls t) e d)

pub flow_over : (names : List (List ℕ)) (place : ℕ) (task : Task) (over : Bool) (ks : List NodeState) (s : SharedState) (a b : Shown) (ls : List NodeState) (t : SharedState) → names ≡ kept_names ks → AreApart names → IsTurn task → DoesTask place task over over ks s a b ls t → over ≡ true → TurnOver names ks s a b ls t
flow_over names place task over ks s a b ls t same apart quiet d e = task_over names place task ks s a b ls t same apart quiet (subst (λ x. DoesTask place task x x ks s a b ls t) e d)
