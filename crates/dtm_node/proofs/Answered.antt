-- What the lines and the answer of a task tell of its node.
use Rattle.std.specs.Prelude.{◌||◌}
use Rattle.std.proofs.Common.{◌≡◌, ℕ, List, [], ◌∷◌, ◌++◌, Bool, true, false, Option, Some, None, inl, inr, refl, sym, ◌∙◌, subst}
use Rattle.std.specs.List.{AllByRecursion}
use Rattle.emitter_model.specs.commit_protocol.World.{In}
use Rattle.emitter_model.proofs.commit_protocol.Lists.{in_parts}
use Rattle.emitter_model.specs.transcript_model.Lines as line
use Rattle.emitter_model.specs.transcript_model.Lines.{Cause, Line}
use Rattle.script_lang.specs.script_model.Statements.{Boot, Crash}
use Rattle.said_steps.specs.run_said.Said.{is_of_lines}
use Rattle.world_laws.specs.run_model.Answers.{Restarts, Serves, Task, task_service}
use Rattle.said_steps.specs.Answers.{ends_boot, is_broken, is_served, may_answer}
use Rattle.said_steps.specs.Answers.{IsSteady}
use Rattle.said_steps.proofs.Falls.{falls_last, falls_none, named_first}
use Rattle.node_requests.specs.node_table.Telling.{IsOfWork}
use Rattle.node_requests.specs.node_standing.Telling.{AnswersTask, may_answer_task}
use Rattle.node_requests.proofs.SaysLemmas.{calm_not_down}

pub calm_not_crashed : (ls : List Line) (name : List ℕ) → AllByRecursion IsOfWork ls → In (line.Crashed name) ls → ⊥
calm_not_crashed [] name c i = i
calm_not_crashed (l ∷ ls) name c (inl e) = let f : IsOfWork (line.Crashed name) = subst IsOfWork (sym e) c.0 in (let g : ⊥ = cc in g)
calm_not_crashed (l ∷ ls) name c (inr k) = calm_not_crashed ls name c.1 k

pub calm_steady : (ls : List Line) → AllByRecursion IsOfWork ls → IsSteady ls
calm_steady ls c = record { down = λ node cause i. calm_not_down ls node cause c i; crash = λ node i. calm_not_crashed ls node c i }

pub fall_not_crash : (ls : List Line) (name : List ℕ) (cause : Cause) → AllByRecursion IsOfWork ls → (node : List ℕ) → In (line.Crashed node) (ls ++ line.Down name cause ∷ []) → ⊥
fall_not_crash ls name cause c node i = elim (in_parts (line.Crashed node) ls (line.Down name cause ∷ []) i) [
  | inl j ↦ calm_not_crashed ls node c j
  | inr j ↦ elim j [ inl e ↦ (let f : ⊥ = cc in f) | inr x ↦ x ]
]

-- Answers of requests.

pub refused_unbroken : (l : Line) → is_of_lines l ≡ true → is_broken l ≡ false
refused_unbroken (line.Broken cause) e = let f : ⊥ = cc in absurd f
refused_unbroken _ e = refl

pub served_unbroken : (l : Line) → is_served l ≡ true → is_broken l ≡ false
served_unbroken (line.Broken cause) e = let f : ⊥ = cc in absurd f
served_unbroken _ e = refl

pub served_other : (l : Line) → is_served l ≡ true → is_of_lines l ≡ false
served_other line.NoSuchNode e = let f : ⊥ = cc in absurd f
served_other line.NodeDown e = let f : ⊥ = cc in absurd f
served_other line.NodeUp e = let f : ⊥ = cc in absurd f
served_other line.VolumeInUse e = let f : ⊥ = cc in absurd f
served_other line.NotInitialized e = let f : ⊥ = cc in absurd f
served_other line.NoSuchMessage e = let f : ⊥ = cc in absurd f
served_other line.BadLabel e = let f : ⊥ = cc in absurd f
served_other _ e = refl

-- one that is served, or one of these
pub may_of : (a b : Bool) → a ≡ true → a || b ≡ true
may_of true b e = refl
may_of false b e = let f : ⊥ = cc in absurd f

pub boot_may : (l : Line) → ends_boot l ≡ true → may_answer Boot l ≡ true
boot_may (line.NormalCount boot) e = refl
boot_may _ e = e

pub restart_may : (l : Line) → ends_boot l ≡ true → may_answer_task Restarts true l ≡ true
restart_may (line.NotInitializedAt node) e = refl
restart_may _ e = e

-- Tasks.

-- no node goes down, and the answer is no failure
pub steady_answers : (task : Task) (name : List ℕ) (refusal : Option Line) (lines : List Line) (answer : Line) (ends : Bool) → IsSteady lines → is_broken answer ≡ false → (task ≡ Serves Crash → refusal ≡ None → ⊥) → (refusal ≡ None → may_answer_task task ends answer ≡ true)
    → AnswersTask task name refusal lines answer ends
steady_answers task name refusal lines answer ends steady unbroken no_crash may = record {
  may = may;
  falls = λ on. falls_none (name ∷ []) lines answer steady.down unbroken;
  crashes = λ node i. absurd (steady.crash node i);
  crash = λ is none. absurd (no_crash is none);
}

pub calm_answers : (task : Task) (name : List ℕ) (refusal : Option Line) (lines : List Line) (answer : Line) (ends : Bool) → AllByRecursion IsOfWork lines → is_broken answer ≡ false → (task ≡ Serves Crash → refusal ≡ None → ⊥) → (refusal ≡ None → may_answer_task task ends answer ≡ true)
    → AnswersTask task name refusal lines answer ends
calm_answers task name refusal lines answer ends calm unbroken no_crash may = steady_answers task name refusal lines answer ends (calm_steady lines calm) unbroken no_crash may

-- the disk goes down in it, and the statement ends with that
pub fell_answers : (task : Task) (name : List ℕ) (refusal : Option Line) (ls : List Line) (cause : Cause) → AllByRecursion IsOfWork ls → (task ≡ Serves Crash → ⊥) → (refusal ≡ None → may_answer_task task true (line.Broken cause) ≡ true)
    → AnswersTask task name refusal (ls ++ line.Down name cause ∷ []) (line.Broken cause) true
fell_answers task name refusal ls cause calm no_crash may = record {
  may = may;
  falls = λ on. falls_last (name ∷ []) ls name cause (named_first name []) (λ node c i. calm_not_down ls node c calm i);
  crashes = λ node i. absurd (fall_not_crash ls name cause calm node i);
  crash = λ is none. absurd (no_crash is);
}

-- or goes on
pub goes_answers : (task : Task) (name : List ℕ) (refusal : Option Line) (ls : List Line) (cause : Cause) → AllByRecursion IsOfWork ls → (task ≡ Serves Crash → ⊥) → (task_service task).goes_on ≡ true → (refusal ≡ None → may_answer_task task false line.Normal ≡ true)
    → AnswersTask task name refusal (ls ++ line.Down name cause ∷ []) line.Normal false
goes_answers task name refusal ls cause calm no_crash goes may = record {
  may = may;
  falls = λ on. absurd (let no : true ≡ false = sym goes ∙ on in (let f : ⊥ = cc in f));
  crashes = λ node i. absurd (fall_not_crash ls name cause calm node i);
  crash = λ is none. absurd (no_crash is);
}

-- what was said before refuses it
pub refused_answers : (task : Task) (name : List ℕ) (refusal : Option Line) (answer : Line) (ends : Bool) → refusal ≡ Some answer → is_broken answer ≡ false → AnswersTask task name refusal [] answer ends
refused_answers task name refusal answer ends is unbroken = record {
  may = λ none. absurd (clash none);
  falls = λ on. falls_none (name ∷ []) [] answer (λ node cause i. i) unbroken;
  crashes = λ node i. absurd i;
  crash = λ same none. absurd (clash none);
}
  where
    clash : refusal ≡ None → ⊥
    clash none = let q : Some answer ≡ None = sym is ∙ none in (let f : ⊥ = cc in f)
