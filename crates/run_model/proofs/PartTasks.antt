-- Parts as tasks, whatever is chosen.
use Rattle.std.proofs.Common.{◌≡◌, ℕ, ◌⊎◌, List, [], ◌∷◌, ◌++◌, inl, inr, Bool, true, false, Option, Some, None, if◌then◌else◌, refl, sym, ◌∙◌, ap, subst}
use Rattle.std.specs.Option.{option_map}
use Rattle.transcript_model.specs.vms_model.Ids.{Id}
use Rattle.transcript_model.specs.Lines as line
use Rattle.transcript_model.specs.Lines.{Line, Cause}
use Rattle.script_model.specs.Statements.{Statement, At, Deliver, LinkDown, Settle, Request, Clock}
use Rattle.transcript_model.specs.commit_protocol.Messages.{Message}
use Rattle.transcript_model.specs.commit_protocol.Table.{Branch, coordinator_of}
use Rattle.transcript_model.specs.commit_protocol.Allowed.{is_prepared}
use Rattle.transcript_model.specs.commit_protocol.World.{arranged}
use Rattle.run_model.specs.World.{World, Node, DiskCounts, find_node}
use Rattle.run_model.specs.Operations.{first_of}
use Rattle.run_model.specs.Answers.{Task, Serves, Ticks, Takes, Hears, LosesLink, RunsDown, Restarts}
use Rattle.run_model.specs.Steps.{Choice, TaskAllowed, task_effect}
use Rattle.run_model.specs.Statements.{Part, Does, Asks, Question, Heard, Unanswered, Doubtful, Allowed, AllowedAt, AllowedOf, part_effect, put_into, done_at, question, question_effect, named_node, message_at, stops_at, where_up, is_up, restarts_of, run_downs_of, questions_of, all_questions, RoseAt, phases_of, refused_at_once}
use Rattle.run_model.specs.StepLaws.{TaskAt, asked_by, is_refusal, task_of, task_of_part}
use Rattle.run_model.proofs.NodeLists.{some_is}
use Rattle.run_model.proofs.PartLemmas.{EachPart, EachPhase, allowed_here, done_here}

-- what a part is, whatever is chosen: a task of a node that is there, or this
pub data View (w : World) (p : Part) : Type 0 where
  Doing : (node : List ℕ) (t : Task) (n : Node) → task_of_part w p ≡ Some (record { node = node; task = t }) → find_node node w.nodes ≡ Some n → ((c : Choice) → part_effect w p c ≡ put_into w node (task_effect w.shared (stops_at node w) n t c)) →
      ((after : List DiskCounts) (c : Choice) → Allowed w p after c → TaskAllowed w.shared (stops_at node w) n t (λ cause. RoseAt w node cause after) c) → View w p
  Fixed : (answer : Line) (ends : Bool) → (is_refusal answer ≡ true) ⊎ (answer ≡ line.Normal) → ((c : Choice) → part_effect w p c ≡ record { lines = []; answer = answer; ends = ends; world = w }) → View w p

view_at : (w : World) (p : Part) (node : List ℕ) (t : Task) → task_of_part w p ≡ Some (record { node = node; task = t }) → ((c : Choice) → part_effect w p c ≡ done_at w node t c) → ((after : List DiskCounts) (c : Choice) → Allowed w p after c → AllowedAt w node t after c) → View w p
view_at w p node t is does may = go (find_node node w.nodes) refl
  where
    go : (o : Option Node) → find_node node w.nodes ≡ o → View w p
    go (Some n) found = Doing node t n is found (λ c. does c ∙ done_here w node t n c found) (λ after c h. allowed_here w node t n after c found (may after c h))
    go None found = Fixed line.NoSuchNode true (inl refl) (λ c. does c ∙ rw (found, done_at) refl)

pub view : (w : World) (p : Part) → View w p
view w (Does node t) = view_at w (Does node t) node t refl (λ c. refl) (λ after c h. h)
view w (Asks node serial) = go (question w node serial) refl
  where
    go : (q : Question) → question w node serial ≡ q → View w (Asks node serial)
    go (Heard m) e = view_at w (Asks node serial) m.to (Hears m) (ap asked_by e) (λ c. ap (question_effect w c) e) (λ after c h. subst (AllowedOf w after c) e h)
    go Unanswered e = Fixed line.Normal false (inr refl) (λ c. ap (question_effect w c) e)
    go (Doubtful k) e = Fixed (line.InDoubt k.serial (coordinator_of k)) true (inl refl) (λ c. ap (question_effect w c) e)

-- Parts of a settling, and of a node where it is up, are so where one of their kind is.
module _ (Ok : Part → Type 0) where
  pub each_restart : ((node : List ℕ) → Ok (Does node Restarts)) → (ns : List Node) → EachPart Ok (restarts_of ns)
  each_restart restarts [] = tt
  each_restart restarts (n ∷ ns) = go n.up (each_restart restarts ns)
    where
      go : (b : Bool) → EachPart Ok (restarts_of ns) → EachPart Ok (if b then restarts_of ns else Does n.name Restarts ∷ restarts_of ns)
      go true more = more
      go false more = (restarts n.name, more)

  pub each_run_down : ((node : List ℕ) → Ok (Does node RunsDown)) → (ns : List Node) → EachPart Ok (run_downs_of ns)
  each_run_down runs_down [] = tt
  each_run_down runs_down (n ∷ ns) = (runs_down n.name, each_run_down runs_down ns)

  each_append : (ps qs : List Part) → EachPart Ok ps → EachPart Ok qs → EachPart Ok (ps ++ qs)
  each_append [] qs h k = k
  each_append (p ∷ ps) qs h k = (h.0, each_append ps qs h.1 k)

  each_question : ((node : List ℕ) (serial : Id) → Ok (Asks node serial)) → (node : List ℕ) (bs : List Branch) → EachPart Ok (questions_of node bs)
  each_question asks node [] = tt
  each_question asks node (b ∷ bs) = go (is_prepared b.state) (each_question asks node bs)
    where
      go : (t : Bool) → EachPart Ok (questions_of node bs) → EachPart Ok (if t then Asks node b.key.serial ∷ questions_of node bs else questions_of node bs)
      go true more = (asks node b.key.serial, more)
      go false more = more

  pub all_asked : ((node : List ℕ) (serial : Id) → Ok (Asks node serial)) → (ns : List Node) → EachPart Ok (all_questions ns)
  all_asked asks [] = tt
  all_asked asks (n ∷ ns) =
      each_append (questions_of n.name (arranged n.volatile.preparation n.volatile.branches)) (all_questions ns) (each_question asks n.name (arranged n.volatile.preparation n.volatile.branches)) (all_asked asks ns)

  pub each_up : (node : List ℕ) (t : Task) → Ok (Does node t) → (w : World) → EachPart Ok (where_up node t w)
  each_up node t ok w = go (is_up node w)
    where
      go : (b : Bool) → EachPart Ok (if b then Does node t ∷ [] else [])
      go true = (ok, tt)
      go false = tt

-- So are the parts of a statement that is not one task where their tasks are so.
module _ (Good : Task → Type 0) where
  abbrev pub IsOk : Part → Type 0
  IsOk p = (w : World) (node : List ℕ) (t : Task) → task_of_part w p ≡ Some (record { node = node; task = t }) → Good t

  does_ok : (node : List ℕ) (t : Task) → Good t → IsOk (Does node t)
  does_ok node t good w other u e = let same : record { node = node; task = t } ≡ record { node = other; task = u } = some_is _ _ e in subst Good (ap (λ (a : TaskAt). a.task) same) good

  asks_ok : ((m : Message) → Good (Hears m)) → (node : List ℕ) (serial : Id) → IsOk (Asks node serial)
  asks_ok hears node serial w other t e = go (question w node serial) e
    where
      go : (q : Question) → asked_by q ≡ Some (record { node = other; task = t }) → Good t
      go (Heard m) k = subst Good (ap (λ (a : TaskAt). a.task) (some_is _ _ k)) (hears m)
      go Unanswered k = let none : ⊥ = cc in absurd none
      go (Doubtful j) k = let none : ⊥ = cc in absurd none

  module _ (hears : (m : Message) → Good (Hears m)) (runs_down : Good RunsDown) (ticks : Good Ticks) (loses : (other : List ℕ) → Good (LosesLink other)) (clock : (now : ℕ) → Good (Serves (Clock now))) where
    pub sweep_ok : (w : World) (s : Statement) → (s ≡ Settle → Good Restarts) → task_of w s ≡ None → refused_at_once w s ≡ None → EachPhase IsOk (phases_of s)
    sweep_ok w (At node (Clock now)) restarts none once = (λ u. (does_ok node (Serves (Clock now)) (clock now), tt), (each_up IsOk node Ticks (does_ok node Ticks ticks), tt))
    sweep_ok w (LinkDown a b) restarts none once = (each_up IsOk a (LosesLink b) (does_ok a (LosesLink b) (loses b)), (each_up IsOk b (LosesLink a) (does_ok b (LosesLink a) (loses a)), tt))
    sweep_ok w Settle restarts none once =
        (λ u. each_restart IsOk (λ node. does_ok node Restarts (restarts refl)) u.nodes, (λ u. each_run_down IsOk (λ node. does_ok node RunsDown runs_down) u.nodes, (λ u. all_asked IsOk (asks_ok hears) u.nodes, tt)))
    sweep_ok w (Deliver number) restarts none once = go (message_at number w.shared.wire) none once
      where
        go : (o : Option Message) → option_map {U = TaskAt} (λ m. record { node = m.to; task = Takes m }) o ≡ None → ◌≡◌ {A = Option Line} (elim o [ Some m ↦ named_node w m.to | None ↦ Some line.NoSuchMessage ]) None → EachPhase IsOk (phases_of (Deliver number))
        go (Some m) e k = let no : ⊥ = cc in absurd no
        go None e k = let no : ⊥ = cc in absurd no
    sweep_ok w (At node _) restarts none once = let no : ⊥ = cc in absurd no

-- the task of a statement that nothing refuses at once is one of a node that is there
pub named_found : (w : World) (node : List ℕ) → named_node w node ≡ None → (n : Node) × (find_node node w.nodes ≡ Some n)
named_found w node e = go (find_node node w.nodes) refl e
  where
    go : (o : Option Node) → find_node node w.nodes ≡ o → ◌≡◌ {A = Option Line} (elim o [ Some n ↦ None | None ↦ Some line.NoSuchNode ]) None → (n : Node) × (find_node node w.nodes ≡ Some n)
    go (Some n) found k = (n, found)
    go None found k = let no : ⊥ = cc in absurd no

first_passes : (a b : Option Line) → first_of a b ≡ None → a ≡ None
first_passes (Some refusal) b e = let no : ⊥ = cc in absurd no
first_passes None b e = refl

request_node : (w : World) (node : List ℕ) (request : Request) (a : TaskAt) → task_of w (At node request) ≡ Some a → a.node ≡ node
request_node w node (Clock now) a e = let no : ⊥ = cc in absurd no
request_node w node _ a e = ap (λ (x : TaskAt). x.node) (sym (some_is _ a e))

pub task_there : (w : World) (s : Statement) (a : TaskAt) → task_of w s ≡ Some a → refused_at_once w s ≡ None → (n : Node) × (find_node a.node w.nodes ≡ Some n)
task_there w (At node request) a e once = subst (λ name. (n : Node) × (find_node name w.nodes ≡ Some n)) (sym (request_node w node request a e)) (named_found w node (first_passes (named_node w node) _ once))
task_there w (Deliver number) a e once = go (message_at number w.shared.wire) e once
  where
    go : (o : Option Message) → option_map (λ m. record { node = m.to; task = Takes m }) o ≡ Some a → ◌≡◌ {A = Option Line} (elim o [ Some m ↦ named_node w m.to | None ↦ Some line.NoSuchMessage ]) None → (n : Node) × (find_node a.node w.nodes ≡ Some n)
    go (Some m) k f = subst (λ (x : TaskAt). (n : Node) × (find_node x.node w.nodes ≡ Some n)) (some_is _ a k) (named_found w m.to f)
    go None k f = let no : ⊥ = cc in absurd no
task_there w (LinkDown one other) a e once = let no : ⊥ = cc in absurd no
task_there w Settle a e once = let no : ⊥ = cc in absurd no
