-- The answer of a statement is a refusal, a success, or that a failure ended it.
use Rattle.std.proofs.Common.{◌≡◌, List, inl, inr, true, false, Bool, Option, Some, None, refl, ◌∙◌, ap}
use Rattle.run_said.specs.transcript_model.Lines as line
use Rattle.run_said.specs.transcript_model.Lines.{Line, Cause}
use Rattle.run_said.specs.script_model.Statements.{Statement}
use Rattle.run_said.specs.run_model.World.{World, Shared, Node, DiskCounts}
use Rattle.run_said.specs.run_model.Answers.{Task}
use Rattle.run_said.specs.run_model.Steps.{Choice, TaskEffect}
use Rattle.run_said.specs.run_model.Statements.{Part, PartEffect, Begins, Phases, Step, Allowed, part_effect, stops_at, RoseAt, phases_of, refused_at_once, begun_with}
use Rattle.run_said.specs.run_model.StepLaws.{is_refusal}
use Rattle.run_said.proofs.run_model.CauseLemmas.{is_success, refuses_first, refuses_then, task_succeeds}
use Rattle.run_said.proofs.run_model.Failing.{once_refuses}
use Rattle.run_said.proofs.run_model.TaskLemmas as task
use Rattle.run_said.proofs.run_model.TaskLemmas.{First, Late, Success, Lacking, Failing, outcome}
use Rattle.run_said.proofs.run_model.PartLemmas.{phases_fold}
use Rattle.run_said.proofs.run_model.PartTasks.{View, Doing, Fixed, view}
use Rattle.run_said.proofs.run_model.Refusing.{each_phase}

-- so it passes a test that these pass
module _ (test : Line → Bool) (refusals : (l : Line) → is_refusal l ≡ true → test l ≡ true) (successes : (l : Line) → is_success l ≡ true → test l ≡ true) (broken : (cause : Cause) → test (line.Broken cause) ≡ true) where
  outcome_passes : (s : Shared) (stops : _) (n : Node) (t : Task) (rises : Cause → Type 0) (e : TaskEffect) → task.Outcome s stops n t rises e → test e.answer ≡ true
  outcome_passes s stops n t rises e (First refusal first f) = ap (λ (x : TaskEffect). test x.answer) f ∙ refusals refusal ((refuses_first s n t).says refusal first)
  outcome_passes s stops n t rises e (Late outturn refusal may first late f) = ap (λ (x : TaskEffect). test x.answer) f ∙ refusals refusal ((refuses_then s _ t).says refusal late)
  outcome_passes s stops n t rises e (Success outturn may first late f) = ap (λ (x : TaskEffect). test x.answer) f ∙ successes _ (task_succeeds s _ t)
  outcome_passes s stops n t rises e (Lacking first takes f) = ap (λ (x : TaskEffect). test x.answer) f ∙ refusals line.NoMemory refl
  outcome_passes s stops n t rises e (Failing cause shown true first rises_so shows down answers ends) = ap test answers ∙ successes line.Normal refl
  outcome_passes s stops n t rises e (Failing cause shown false first rises_so shows down answers ends) = ap test answers ∙ broken cause

  part_passes : (w : World) (p : Part) (c : Choice) (after : List DiskCounts) → Allowed w p after c → test (part_effect w p c).answer ≡ true
  part_passes w p c after allowed = go (view w p)
    where
      go : View w p → test (part_effect w p c).answer ≡ true
      go (Doing node t n named found does may) = ap (λ (x : PartEffect). test x.answer) (does c) ∙ outcome_passes w.shared (stops_at node w) n t (λ cause. RoseAt w node cause after) _ (outcome w.shared (stops_at node w) n t (λ cause. RoseAt w node cause after) c (may after c allowed))
      go (Fixed answer ends (inl h) is) = ap (λ (x : PartEffect). test x.answer) (is c) ∙ refusals answer h
      go (Fixed answer ends (inr h) is) = ap (λ (x : PartEffect). test x.answer) (is c) ∙ ap test h ∙ successes line.Normal refl

  pub answer_passes : (w v : World) (s : Statement) (lines : List Line) → (step : Step w s lines v) → test step.answer ≡ true
  answer_passes w v s lines step = go (refused_at_once w s) refl step.does
    where
      go : (o : Option Line) → refused_at_once w s ≡ o → Begins o (Phases (phases_of s) v.disks (begun_with s w) line.Normal) w step.events step.answer step.world → test step.answer ≡ true
      go (Some refusal) is d = ap test d.1 ∙ refusals refusal ((once_refuses w s).says refusal is)
      go None is d = phases_fold v.disks (λ p. Unit {0}) (λ given. test given ≡ true) (λ u rest answer x. test answer ≡ true)
          (λ u given q. q)
          (λ u p c ok allowed ends. part_passes u p c v.disks allowed)
          (λ u p c ok allowed on. (part_passes u p c v.disks allowed, λ rest answer x more. more))
          (phases_of s) (each_phase s) (begun_with s w) line.Normal step.events step.answer step.world (successes line.Normal refl) d
