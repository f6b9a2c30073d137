-- What one request to a node leaves of what is known of it.
use Rattle.std.proofs.Common.{◌≡◌, ◌⊎◌, ℕ, Bool, true, false, not, ◌||◌, List, [], ◌∷◌, ◌++◌, inl, inr, Option, Some, None, refl, sym, ◌∙◌, ap, subst}
use Rattle.std.proofs.lemmas.Bool.{both_ways}
use Rattle.world_laws.specs.transcript_model.Lines as line
use Rattle.world_laws.specs.transcript_model.Lines.{Line, Cause}
use Rattle.world_laws.specs.script_model.Statements.{Statement, At, Request, Init, AckEvent, Named as SaidName}
use Rattle.vms_model.specs.Ids.{Id}
use Rattle.commit_protocol.specs.Messages.{Name, Reply}
use Rattle.commit_protocol.specs.Table.{Branch}
use Rattle.commit_protocol.specs.Allowed.{may_reply}
use Rattle.world_laws.specs.run_model.World as world
use Rattle.world_laws.specs.run_model.World.{Node, Shared, World, find_branch, find_node}
use Rattle.world_laws.specs.run_model.Operations.{refused_if}
use Rattle.world_laws.specs.run_model.Answers as answers
use Rattle.world_laws.specs.run_model.Answers.{Serves, Task, refused_before_reading, serial_named, service, task_service}
use Rattle.world_laws.specs.run_model.Statements.{RoseAt, Step, stops_at}
use Rattle.world_laws.specs.run_model.Steps.{Choice, TaskAllowed, TaskEffect, task_effect}
use Rattle.world_laws.specs.run_model.StepLaws.{is_refusal}
use Rattle.world_laws.proofs.run_model.NodeLists.{put_node, some_is}
use Rattle.world_laws.proofs.run_model.Refusing.{same_last}
use Rattle.world_laws.proofs.run_model.TaskLemmas.{Failing, First, Lacking, Late, Outcome, Success, effect_name, outcome}
use Rattle.world_laws.proofs.AnswerLemmas.{neither, not_refused}
use Rattle.run_laws.proofs.Keeping.{Keeps, Kept, Scheme}
use Rattle.run_laws.proofs.Labelling.{refused_rest}
use Rattle.run_laws.proofs.Named.{Ended, Refused, Turned, ended}
use Rattle.run_laws.proofs.ShownSettled.{answer_plain, answer_voteless, refusal_other, refusal_voteless}
use Rattle.run_laws.proofs.SoundWorlds.{Tracked}

module _ (t : Scheme) (k : Keeps t) (node : List ℕ) where
  abbrev On : t.Told → World → Type 0
  On a w = Tracked t k node a w

  -- an answer tells nothing more
  answered : (w v : World) (s : Statement) (lines events : List Line) (answer : Line) → Step w s lines v → lines ≡ events ++ answer ∷ [] → (a : t.Told) → t.more lines a ≡ t.more events a
  answered w v s lines events answer step shows a =
      let same : step.answer ≡ answer = (same_last step.events events step.answer answer (sym step.shows ∙ shows)).1 in
      ap (λ ls. t.more ls a) shows ∙ (k.append events (answer ∷ []) a ∙ (ap (λ x. t.more (x ∷ []) (t.more events a)) (sym same)
      ∙ k.plain (step.answer ∷ []) (t.more events a) (answer_plain w v s lines step, tt) (answer_voteless w v s lines step, tt)))

  refused_on : (w v : World) (a : t.Told) (lines : List Line) (refusal : Line) → is_refusal refusal ≡ true → lines ≡ refusal ∷ [] → v ≡ record w { disks = v.disks } → On a w → On (t.more lines a) v
  refused_on w v a lines refusal is shows goes h n found =
      subst (λ b. Kept t k b n) (sym (ap (λ ls. t.more ls a) shows ∙ k.plain (refusal ∷ []) a (refusal_other refusal is, tt) (refusal_voteless refusal is, tt)))
      (h n (subst (λ (x : World). find_node node x.nodes ≡ Some n) goes found))

  -- a request at the node, which keeps what is known, or is as Q says
  pub request_on : (w v : World) (r : Request) (lines : List Line) (a : t.Told) (Q : Type 0) → Rattle.world_laws.specs.run_model.StepLaws.task_of w (At node r) ≡ Some (record { node = node; task = Serves r }) → Step w (At node r) lines v →
      ((n : Node) (c : Choice) → find_node node w.nodes ≡ Some n → TaskAllowed w.shared (stops_at node w) n (Serves r) (λ cause. RoseAt w node cause v.disks) c →
      lines ≡ (task_effect w.shared (stops_at node w) n (Serves r) c).lines ++ (task_effect w.shared (stops_at node w) n (Serves r) c).answer ∷ [] → Kept t k a n →
      Q ⊎ Kept t k (t.more (task_effect w.shared (stops_at node w) n (Serves r) c).lines a) (task_effect w.shared (stops_at node w) n (Serves r) c).node) → On a w → Q ⊎ On (t.more lines a) v
  request_on w v r lines a Q is step does h = go (ended w v (At node r) lines node (Serves r) is step)
    where
      go : Ended w v node (Serves r) lines → Q ⊎ On (t.more lines a) v
      go (Refused refusal q shows goes) = inr (refused_on w v a lines refusal q shows goes h)
      go (Turned n found c allowed shows goes) =
          let e = task_effect w.shared (stops_at node w) n (Serves r) c in
          let there : find_node node v.nodes ≡ Some e.node = ap (λ (x : World). find_node node x.nodes) goes ∙ put_node node n e.node w.nodes (effect_name w.shared (stops_at node w) n (Serves r) c) found in
          elim (does n c found allowed shows (h n found)) [
            | inl q ↦ inl q
            | inr x ↦ inr (λ m now. subst (λ b. Kept t k b m) (sym (answered w v (At node r) lines e.lines e.answer step shows a)) (subst (Kept t k (t.more e.lines a)) (some_is e.node m (sym there ∙ now)) x))
          ]

  -- one that is refused
  pub refused_kept : (a : t.Told) (s : Shared) (stops : ℕ) (n : Node) (task : Task) (c : Choice) (rises : Cause → Type 0) (refusal : Line) → refused_before_reading s n (task_service task) ≡ Some refusal → TaskAllowed s stops n task rises c → Kept t k a n →
      Kept t k (t.more (task_effect s stops n task c).lines a) (task_effect s stops n task c).node
  refused_kept a s stops n task c rises refusal is may h = go (outcome s stops n task rises c may)
    where
      never : {X : Type 0} → refused_before_reading s n (task_service task) ≡ None → X
      never first = let no : ◌≡◌ {A = Option Line} None (Some refusal) = sym first ∙ is in let none : ⊥ = cc in absurd none

      go : Outcome s stops n task rises (task_effect s stops n task c) → Kept t k (t.more (task_effect s stops n task c).lines a) (task_effect s stops n task c).node
      go (First other first same) = subst (λ (x : TaskEffect). Kept t k (t.more x.lines a) x.node) (sym same) (subst (λ b. Kept t k b n) (sym (k.none a)) h)
      go (Late outturn other turns first late same) = never first
      go (Success outturn turns first late same) = never first
      go (Lacking first memory same) = never first
      go (Failing cause shown goes_on first rose shows down answered_so ends) = never first

  -- An INIT, where no volume may be made any more.
  pub init_on : (w v : World) (slots journal : ℕ) (lines : List Line) (a : t.Told) → w.shared.in_use ≡ true → Step w (At node (Init slots journal)) lines v → On a w → On (t.more lines a) v
  init_on w v slots journal lines a used step h = elim (request_on w v (Init slots journal) lines a ⊥ refl step (λ n c found allowed shows x. inr (go n c allowed x (refused_before_reading w.shared n (service (Init slots journal))) refl)) h) [ inl none ↦ absurd none | inr x ↦ x ]
    where
      go : (n : Node) (c : Choice) → TaskAllowed w.shared (stops_at node w) n (Serves (Init slots journal)) (λ cause. RoseAt w node cause v.disks) c → Kept t k a n → (q : Option Line) → refused_before_reading w.shared n (service (Init slots journal)) ≡ q →
          Kept t k (t.more (task_effect w.shared (stops_at node w) n (Serves (Init slots journal)) c).lines a) (task_effect w.shared (stops_at node w) n (Serves (Init slots journal)) c).node
      go n c allowed x (Some refusal) is = refused_kept a w.shared (stops_at node w) n (Serves (Init slots journal)) c (λ cause. RoseAt w node cause v.disks) refusal is allowed x
      go n c allowed x None first = absurd (both_ways w.shared.in_use (not_refused w.shared.in_use line.VolumeInUse (neither (refused_if w.shared.in_use line.VolumeInUse) _ (neither (refused_if (not (n.up || true)) line.NodeDown) _ first).1).0) used)

pub not_so : (b : Bool) → not b ≡ false → b ≡ true
not_so true e = refl
not_so false e = let no : ⊥ = cc in absurd no

-- a reply that is not refused answers an event that waits for it
pub reply_fits : (s : Shared) (n : Node) (who : SaidName) (rm : Name) (reply : Reply) (serial : Id) (b : Branch) → refused_before_reading s n (service (AckEvent who rm reply)) ≡ None → serial_named s n who ≡ Some serial → find_branch serial n.volatile.branches ≡ Some b → may_reply rm reply b ≡ true
reply_fits s n who rm reply serial b first is at =
    let x = neither (answers.made_name s n who) _ (refused_rest (not (n.up || false)) _ first) in
    let y = neither (answers.known_branch (answers.known s n who)) _ x.1 in
    let z = neither (answers.declared_manager n rm) _ y.1 in
    let q = (neither (answers.known_manager rm (answers.known s n who)) (answers.awaited_reply rm reply (answers.known s n who)) z.1).1 in
    let known_is : answers.known s n who ≡ answers.Unsettled b = ap (λ (o : Option Id). elim o as (λ t. answers.Known) [ Some i ↦ answers.known_serial n i | None ↦ answers.Unheard ]) is
    ∙ ap (λ (o : Option Branch). elim o as (λ t. answers.Known) [ Some x ↦ answers.Unsettled x | None ↦ elim (world.find_record serial n.volatile.records) as (λ t. answers.Known) [ Some r ↦ answers.Recorded r | None ↦ answers.Unheard ] ]) at in
    not_so (may_reply rm reply b) (not_refused (not (may_reply rm reply b)) line.WrongState (subst (λ x. answers.awaited_reply rm reply x ≡ None) known_is q))
