-- Statements as their parts, and what a part is.
use Rattle.std.proofs.Common.{◌≡◌, ℕ, List, [], ◌∷◌, ◌++◌, Bool, true, false, Option, Some, None, refl, sym, ◌∙◌, ap, subst, append-nil}
use Rattle.std.specs.Option.{option_map}
use Rattle.transcript_model.specs.Lines as line
use Rattle.transcript_model.specs.Lines.{Line, Cause}
use Rattle.script_model.specs.Statements.{Statement, At, Deliver, LinkDown, Settle, Request, Clock}
use Rattle.transcript_model.specs.commit_protocol.Messages.{Message}
use Rattle.transcript_model.specs.commit_protocol.Table.{Branch, Key as BranchKey, coordinator_of}
use Rattle.transcript_model.specs.vms_model.Ids.{Id}
use Rattle.run_model.specs.World.{World, Node, DiskCounts, find_node}
use Rattle.run_model.specs.Answers.{Task, Takes, Hears}
use Rattle.run_model.specs.Steps.{Choice, TaskAllowed, task_effect}
use Rattle.run_model.specs.Statements.{Part, Does, Asks, PartEffect, Question, Heard, Unanswered, Doubtful, Parts, Phases, Phase, Onward, Then, Allowed, AllowedAt, AllowedOf, Begins, Step, part_effect, put_into, done_at, no_node, nothing_done, ended_by, answer_of, asked, asking, question, question_effect, stops_at, RoseAt, phases_of, refused_at_once, begun_with, message_at}
use Rattle.run_model.specs.StepLaws.{IsTask, TaskAt, task_of}
use Rattle.run_model.proofs.NodeLists.{some_is}

-- Statements that are one task.

-- what the part of such a statement may show
abbrev pub PartAt : TaskAt → World → List DiskCounts → Line → List Line → Line → World → Type 0
PartAt a w after given events answer v = Parts (Does a.node a.task ∷ []) after (Phases [] after) w given events answer v

request_part : (w : World) (node : List ℕ) (request : Request) (a : TaskAt) → task_of w (At node request) ≡ Some a → (after : List DiskCounts) (given : Line) (events : List Line) (answer : Line) (v : World) →
    Phases (phases_of (At node request)) after w given events answer v → PartAt a w after given events answer v
request_part w node (Clock now) a e after given events answer v h = let none : ⊥ = cc in absurd none
request_part w node _ a e after given events answer v h = subst (λ b. PartAt b w after given events answer v) (some_is _ _ e) h

part_request : (w : World) (node : List ℕ) (request : Request) (a : TaskAt) → task_of w (At node request) ≡ Some a → (after : List DiskCounts) (given : Line) (events : List Line) (answer : Line) (v : World) →
    PartAt a w after given events answer v → Phases (phases_of (At node request)) after w given events answer v
part_request w node (Clock now) a e after given events answer v h = let none : ⊥ = cc in absurd none
part_request w node _ a e after given events answer v h = subst (λ b. PartAt b w after given events answer v) (sym (some_is _ _ e)) h

-- a message, where there is one, that comes to its receiver
abbrev Delivered : Option Message → World → List DiskCounts → Line → List Line → Line → World → Type 0
Delivered o w after given events answer v = Parts (elim o [ Some m ↦ Does m.to (Takes m) ∷ [] | None ↦ [] ]) after (Phases [] after) w given events answer v

pub to_part : (w : World) (s : Statement) (a : TaskAt) → task_of w s ≡ Some a → (after : List DiskCounts) (given : Line) (events : List Line) (answer : Line) (v : World) →
    Phases (phases_of s) after (begun_with s w) given events answer v → PartAt a w after given events answer v
to_part w (At node request) a e after given events answer v h = request_part w node request a e after given events answer v h
to_part w (Deliver number) a e after given events answer v h = go (message_at number w.shared.wire) e h
  where
    go : (o : Option Message) → option_map (λ m. record { node = m.to; task = Takes m }) o ≡ Some a → Delivered o w after given events answer v → PartAt a w after given events answer v
    go (Some m) k d = subst (λ b. PartAt b w after given events answer v) (some_is _ _ k) d
    go None k d = let none : ⊥ = cc in absurd none
to_part w (LinkDown one other) a e after given events answer v h = let none : ⊥ = cc in absurd none
to_part w Settle a e after given events answer v h = let none : ⊥ = cc in absurd none

pub of_part : (w : World) (s : Statement) (a : TaskAt) → task_of w s ≡ Some a → (after : List DiskCounts) (given : Line) (events : List Line) (answer : Line) (v : World) →
    PartAt a w after given events answer v → Phases (phases_of s) after (begun_with s w) given events answer v
of_part w (At node request) a e after given events answer v h = part_request w node request a e after given events answer v h
of_part w (Deliver number) a e after given events answer v h = go (message_at number w.shared.wire) e
  where
    go : (o : Option Message) → option_map (λ m. record { node = m.to; task = Takes m }) o ≡ Some a → Delivered o w after given events answer v
    go (Some m) k = subst (λ b. PartAt b w after given events answer v) (sym (some_is _ _ k)) h
    go None k = let none : ⊥ = cc in absurd none
of_part w (LinkDown one other) a e after given events answer v h = let none : ⊥ = cc in absurd none
of_part w Settle a e after given events answer v h = let none : ⊥ = cc in absurd none

-- a statement of one part ends with it
pub ended : (p : PartEffect) (after : List DiskCounts) (lines : List Line) (last : Line) (v : World) → Then p (Parts [] after (Phases [] after)) lines last v → (lines ≡ p.lines) × (last ≡ p.answer) × (v ≡ p.world)
ended p after lines last v h = go p.ends h
  where
    go : (b : Bool) → Then (record p { ends = b }) (Parts [] after (Phases [] after)) lines last v → (lines ≡ p.lines) × (last ≡ p.answer) × (v ≡ p.world)
    go true k = k
    go false k = (k.1 ∙ ap (λ rest. p.lines ++ rest) k.2.0 ∙ append-nil p.lines, k.2.1, k.2.2)

pub ends_so : (p : PartEffect) (after : List DiskCounts) → Then p (Parts [] after (Phases [] after)) p.lines p.answer p.world
ends_so p after = go p.ends
  where
    go : (b : Bool) → Then (record p { ends = b }) (Parts [] after (Phases [] after)) p.lines p.answer p.world
    go true = (refl, refl, refl)
    go false = ([], sym (append-nil p.lines), (refl, refl, refl))

-- what is begun, where nothing refuses it at once, and where something does
pub begins_with : (o : Option Line) (does : List Line → Line → World → Type 0) (w : World) (events : List Line) (answer : Line) (v : World) → o ≡ None → Begins o does w events answer v → does events answer v
begins_with o does w events answer v e h = subst (λ x. Begins x does w events answer v) e h

pub begins_so : (o : Option Line) (does : List Line → Line → World → Type 0) (w : World) (events : List Line) (answer : Line) (v : World) → o ≡ None → does events answer v → Begins o does w events answer v
begins_so o does w events answer v e h = subst (λ x. Begins x does w events answer v) (sym e) h

-- A statement that is one task shows what its task does by a choice, and leads to what that makes of the world.
pub record Turn (w : World) (node : List ℕ) (t : Task) (n : Node) (events : List Line) (answer : Line) (v : World) : Type 0 where
  pub choice : Choice
  pub allowed : TaskAllowed w.shared (stops_at node w) n t (λ cause. RoseAt w node cause v.disks) choice
  pub shows : events ≡ (task_effect w.shared (stops_at node w) n t choice).lines
  pub answers : answer ≡ (task_effect w.shared (stops_at node w) n t choice).answer
  pub goes : v ≡ record (put_into w node (task_effect w.shared (stops_at node w) n t choice)).world { disks = v.disks }

-- what is allowed at a node that is there
pub allowed_here : (w : World) (node : List ℕ) (t : Task) (n : Node) (after : List DiskCounts) (c : Choice) → find_node node w.nodes ≡ Some n → AllowedAt w node t after c → TaskAllowed w.shared (stops_at node w) n t (λ cause. RoseAt w node cause after) c
allowed_here w node t n after c found h = subst (λ o. elim o as (λ x. Type 0) [ Some m ↦ TaskAllowed w.shared (stops_at node w) m t (λ cause. RoseAt w node cause after) c | None ↦ Unit {0} ]) found h

pub here_allowed : (w : World) (node : List ℕ) (t : Task) (n : Node) (after : List DiskCounts) (c : Choice) → find_node node w.nodes ≡ Some n → TaskAllowed w.shared (stops_at node w) n t (λ cause. RoseAt w node cause after) c → AllowedAt w node t after c
here_allowed w node t n after c found h = subst (λ o. elim o as (λ x. Type 0) [ Some m ↦ TaskAllowed w.shared (stops_at node w) m t (λ cause. RoseAt w node cause after) c | None ↦ Unit {0} ]) (sym found) h

-- what is done at a node that is there
pub done_here : (w : World) (node : List ℕ) (t : Task) (n : Node) (c : Choice) → find_node node w.nodes ≡ Some n → done_at w node t c ≡ put_into w node (task_effect w.shared (stops_at node w) n t c)
done_here w node t n c found = rw (found, done_at) refl

pub turn : (w v : World) (s : Statement) (node : List ℕ) (t : Task) (n : Node) (lines : List Line) → IsTask w s node t n → (step : Step w s lines v) → Turn w node t n step.events step.answer v
turn w v s node t n lines is step =
    let d = to_part w s (record { node = node; task = t }) is.task v.disks line.Normal step.events step.answer step.world
    (begins_with (refused_at_once w s) (Phases (phases_of s) v.disks (begun_with s w) line.Normal) w step.events step.answer step.world is.begins step.does) in
    let p = done_here w node t n d.0 is.found in
    let h = ended (part_effect w (Does node t) d.0) v.disks step.events step.answer step.world d.2 in
    record {
      choice = d.0;
      allowed = allowed_here w node t n v.disks d.0 is.found d.1;
      shows = h.0 ∙ ap (λ (e : PartEffect). e.lines) p;
      answers = h.1 ∙ ap (λ (e : PartEffect). e.answer) p;
      goes = step.goes ∙ ap (λ (x : World). record x { disks = v.disks }) (h.2 ∙ ap (λ (e : PartEffect). e.world) p);
    }

-- What a part is: a task of a node that is there; or it asks for a node that is not there; nothing, where nobody answers; or a question whose coordinator is not there.
pub data Way (w : World) (p : Part) (c : Choice) (after : List DiskCounts) : Type 0 where
  Done : (node : List ℕ) (t : Task) (n : Node) → find_node node w.nodes ≡ Some n → TaskAllowed w.shared (stops_at node w) n t (λ cause. RoseAt w node cause after) c →
      part_effect w p c ≡ put_into w node (task_effect w.shared (stops_at node w) n t c) → Way w p c after
  Missing : (node : List ℕ) → find_node node w.nodes ≡ None → part_effect w p c ≡ no_node w → Way w p c after
  Idle : part_effect w p c ≡ nothing_done w → Way w p c after
  Doubted : (node : List ℕ) (serial : Id) (b : Branch) → asking w node serial ≡ Some b → find_node (coordinator_of b.key) w.nodes ≡ None → part_effect w p c ≡ ended_by w (line.InDoubt b.key.serial (coordinator_of b.key)) → Way w p c after

way_at : (w : World) (p : Part) (c : Choice) (after : List DiskCounts) (node : List ℕ) (t : Task) → part_effect w p c ≡ done_at w node t c → AllowedAt w node t after c → Way w p c after
way_at w p c after node t is allowed = go (find_node node w.nodes) refl
  where
    go : (o : Option Node) → find_node node w.nodes ≡ o → Way w p c after
    go (Some n) found = Done node t n found (allowed_here w node t n after c found allowed) (is ∙ done_here w node t n c found)
    go None found = Missing node found (is ∙ rw (found, done_at) refl)

way_asked : (w : World) (node : List ℕ) (serial : Id) (c : Choice) (after : List DiskCounts) (q : Question) → question w node serial ≡ q → AllowedOf w after c q → Way w (Asks node serial) c after
way_asked w node serial c after (Heard m) e h = way_at w (Asks node serial) c after m.to (Hears m) (ap (question_effect w c) e) h
way_asked w node serial c after Unanswered e h = Idle (ap (question_effect w c) e)
way_asked w node serial c after (Doubtful k) e h = go (asking w node serial) refl e
  where
    -- the answer of a coordinator that is there
    there : (k j : BranchKey) (o : Option Message) → elim o [ Some m ↦ Heard m | None ↦ Unanswered ] ≡ Doubtful k → ⊥
    there k j (Some m) f = cc
    there k j None f = cc

    of_node : (b : Branch) (o : Option Node) → find_node (coordinator_of b.key) w.nodes ≡ o → elim o [ Some n ↦ elim (answer_of n b.key) [ Some m ↦ Heard m | None ↦ Unanswered ] | None ↦ Doubtful b.key ] ≡ Doubtful k → (find_node (coordinator_of b.key) w.nodes ≡ None) × (b.key ≡ k)
    of_node b (Some n) found f = absurd (there k b.key (answer_of n b.key) f)
    of_node b None found f = let same : b.key ≡ k = cc in (found, same)

    go : (o : Option Branch) → asking w node serial ≡ o → elim o [ Some b ↦ asked w b.key | None ↦ Unanswered ] ≡ Doubtful k → Way w (Asks node serial) c after
    go (Some b) found f =
        let r = of_node b (find_node (coordinator_of b.key) w.nodes) refl f in
        Doubted node serial b found r.0 (ap (question_effect w c) e ∙ ap (λ (j : BranchKey). ended_by w (line.InDoubt j.serial (coordinator_of j))) (sym r.1))
    go None found f = let none : ⊥ = cc in absurd none

pub way : (w : World) (p : Part) (c : Choice) (after : List DiskCounts) → Allowed w p after c → Way w p c after
way w (Does node t) c after h = way_at w (Does node t) c after node t refl h
way w (Asks node serial) c after h = way_asked w node serial c after (question w node serial) refl h

-- What holds of a whole statement because it holds of each part.

-- each part of these, and of these phases in whichever world they begin
abbrev pub EachPart : (Part → Type 0) → List Part → Type 0
EachPart Ok [] = Unit {0}
EachPart Ok (p ∷ ps) = Ok p × EachPart Ok ps

abbrev pub EachPhase : (Part → Type 0) → List Phase → Type 0
EachPhase Ok [] = Unit {0}
EachPhase Ok (p ∷ ps) = ((w : World) → EachPart Ok (p w)) × EachPhase Ok ps

module _ (after : List DiskCounts) (Ok : Part → Type 0) (Q : Line → Type 0) (S : World → List Line → Line → World → Type 0)
    (fin : (w : World) (given : Line) → Q given → S w [] given w)
    (stop : (w : World) (p : Part) (c : Choice) → Ok p → Allowed w p after c → (part_effect w p c).ends ≡ true → S w (part_effect w p c).lines (part_effect w p c).answer (part_effect w p c).world)
    (on : (w : World) (p : Part) (c : Choice) → Ok p → Allowed w p after c → (part_effect w p c).ends ≡ false → Q (part_effect w p c).answer
    × ((rest : List Line) (answer : Line) (v : World) → S (part_effect w p c).world rest answer v → S w ((part_effect w p c).lines ++ rest) answer v)) where
  -- what follows a part, by whether its statement ends with it
  then_fold : (w : World) (p : Part) (c : Choice) (more : Onward) → Ok p → Allowed w p after c → ((rest : List Line) (answer : Line) (v : World) → Q (part_effect w p c).answer → more (part_effect w p c).world (part_effect w p c).answer rest answer v → S (part_effect w p c).world rest answer v) →
      (lines : List Line) (answer : Line) (v : World) → Then (part_effect w p c) more lines answer v → S w lines answer v
  then_fold w p c more ok allowed goes lines answer v h = go (part_effect w p c).ends refl h
    where
      go : (b : Bool) → (part_effect w p c).ends ≡ b → Then (record (part_effect w p c) { ends = b }) more lines answer v → S w lines answer v
      go true e k = subst (λ x. S w lines answer x) (sym k.2) (subst (λ x. S w lines x (part_effect w p c).world) (sym k.1) (subst (λ x. S w x (part_effect w p c).answer (part_effect w p c).world) (sym k.0) (stop w p c ok allowed e)))
      go false e k = let r = on w p c ok allowed e in subst (λ x. S w x answer v) (sym k.1) (r.1 k.0 answer v (goes k.0 answer v r.0 k.2))

  parts_fold : (ps : List Part) → EachPart Ok ps → (more : Onward) → ((w : World) (given : Line) (lines : List Line) (answer : Line) (v : World) → Q given → more w given lines answer v → S w lines answer v) →
      (w : World) (given : Line) (lines : List Line) (answer : Line) (v : World) → Q given → Parts ps after more w given lines answer v → S w lines answer v
  parts_fold [] oks more goes w given lines answer v q h = goes w given lines answer v q h
  parts_fold (p ∷ ps) oks more goes w given lines answer v q h =
      then_fold w p h.0 (Parts ps after more) oks.0 h.1 (λ rest last u r k. parts_fold ps oks.1 more goes (part_effect w p h.0).world (part_effect w p h.0).answer rest last u r k) lines answer v h.2

  pub phases_fold : (ps : List Phase) → EachPhase Ok ps → (w : World) (given : Line) (lines : List Line) (answer : Line) (v : World) → Q given → Phases ps after w given lines answer v → S w lines answer v
  phases_fold [] oks w given lines answer v q h =
      subst (λ x. S w lines answer x) (sym h.2) (subst (λ x. S w lines x w) (sym h.1) (subst (λ x. S w x given w) (sym h.0) (fin w given q)))
  phases_fold (p ∷ ps) oks w given lines answer v q h = parts_fold (p w) (oks.0 w) (Phases ps after) (λ u last rest end x r k. phases_fold ps oks.1 u last rest end x r k) w given lines answer v q h
