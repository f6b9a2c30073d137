-- Statements by their parts.
use Rattle.std.proofs.Common.{◌≡◌, ℕ, List, [], ◌∷◌, ◌++◌, Bool, true, false, Option, Some, None, if◌then◌else◌, refl, sym, ap, subst, ◌∙◌, map}
use Rattle.std.specs.Prelude.{not}
use Rattle.std.specs.Option.{option_map}
use Rattle.std.specs.Str.{bytes_eq}
use Rattle.vms_model.specs.Ids.{Id}
use Rattle.world_laws.specs.transcript_model.Lines as model
use Rattle.script_lang.specs.script_model.Statements.{At, Deliver, LinkDown, Statement, Request, Clock}
use Rattle.net_wire.specs.commit_protocol.Allowed.{is_prepared}
use Rattle.net_wire.specs.commit_protocol.Messages.{Message}
use Rattle.net_wire.specs.commit_protocol.Table.{Branch, Key, coordinator_of}
use Rattle.net_wire.specs.commit_protocol.World.{arranged}
use Rattle.world_laws.specs.run_model.Answers as answers
use Rattle.world_laws.specs.run_model.Operations.{first_of, refused_if}
use Rattle.world_laws.specs.run_model.Steps.{Whole}
use Rattle.world_laws.specs.run_model.Statements.{Asks, Does, Part, PartEffect, Phase, Question, Heard, Unanswered, Doubtful, all_questions, answer_of, asked, asking, begun_with, ended_by, is_up, message_at, named_node, nothing_done, other_node, part_effect, phases_at, phases_of, question, question_effect, questions_of, refused_at_once, where_up}
use Rattle.world_laws.specs.run_model.World.{Lost, Node, World, find_node}
use Rattle.reference_world.specs.declared.line.Line.{Line}
use Rattle.reference_world.specs.Standing.{line_of}
use Rattle.reference_law.specs.Whole.{StatementShown, begins_shown, parts_shown, phases_shown, shown_whole}
use Rattle.reference_branches.specs.Branches.{serials_in_doubt}
use Rattle.reference_tasks.specs.declared.tasks.TaskShown.{TaskShown}
use Rattle.reference_run.specs.Served.{IsHeard, IsPart, IsShown, Runs, RunsPhases, ServesPart, answer_there, followed, no_counts, node_there, node_up, phases_by, questions_then, sets_clock}
use Rattle.script_lang.specs.Statements.{request_of}
use Rattle.script_lang.specs.declared.literals.Literals.{Literals}
use Rattle.script_lang.specs.declared.statement.Request.{Request as RequestKept}
use Rattle.script_lang.specs.declared.statement.Request.TheVariants as kept
use Rattle.reference_run.proofs.PartLemmas.{clock_part, followed_ended, followed_on, runs_one}

-- Nodes by their names.

pub named_is : (w : World) (name : List ℕ) → named_node w name ≡ refused_if (not (node_there name w.nodes)) model.NoSuchNode
named_is w name = by w.nodes
  where
    by : (ns : List Node) → (elim (find_node name ns) as (λ _. Option model.Line) [ Some n ↦ None | None ↦ Some model.NoSuchNode ]) ≡ refused_if (not (node_there name ns)) model.NoSuchNode
    by [] = refl
    by (n ∷ ns) = go (bytes_eq name n.name) (by ns)
      where
        go : (b : Bool) → (elim (find_node name ns) as (λ _. Option model.Line) [ Some n ↦ None | None ↦ Some model.NoSuchNode ]) ≡ refused_if (not (node_there name ns)) model.NoSuchNode →
            (elim (let o : Option Node = if b then Some n else find_node name ns in o) as (λ _. Option model.Line) [ Some n ↦ None | None ↦ Some model.NoSuchNode ]) ≡ refused_if (not (if b then true else node_there name ns)) model.NoSuchNode
        go true more = refl
        go false more = more

pub up_is : (w : World) (name : List ℕ) → is_up name w ≡ node_up name w.nodes
up_is w name = by w.nodes
  where
    by : (ns : List Node) → (elim (find_node name ns) as (λ _. Bool) [ Some n ↦ n.up | None ↦ false ]) ≡ node_up name ns
    by [] = refl
    by (n ∷ ns) = go (bytes_eq name n.name) (by ns)
      where
        go : (b : Bool) → (elim (find_node name ns) as (λ _. Bool) [ Some n ↦ n.up | None ↦ false ]) ≡ node_up name ns →
            (elim (let o : Option Node = if b then Some n else find_node name ns in o) as (λ _. Bool) [ Some n ↦ n.up | None ↦ false ]) ≡ (if b then n.up else node_up name ns)
        go true more = refl
        go false more = more

-- Statements.

pub refused_shown : (s : Statement) (w : World) (shown : List Line) (refusal : model.Line) → refused_at_once w s ≡ Some refusal → map line_of shown ≡ refusal ∷ [] → IsShown s w shown w
refused_shown s w shown refusal refuses shows = record {
  lines = shows ∙ sym (ap (λ o. (begins_shown o w s).lines) refuses);
  world = sym (ap (λ o. (begins_shown o w s).world) refuses);
}

-- what is behind the last part
pub ends_shown : (s : Statement) (w v : World) (x : TaskShown) (shown : List Line) → refused_at_once w s ≡ None → phases_shown (phases_of s) (begun_with s w) model.Normal ≡ followed x v (phases_shown []) → map line_of shown ≡ map line_of x.lines.items ++ line_of x.answer ∷ [] → IsShown s w shown v
ends_shown s w v x shown allowed phases shows =
    let same : followed x v (phases_shown []) ≡ record { lines = map line_of x.lines.items ++ line_of x.answer ∷ []; world = v } = go x.ends in
    let all : shown_whole w s ≡ record { lines = map line_of x.lines.items ++ line_of x.answer ∷ []; world = v } = ap (λ o. begins_shown o w s) allowed ∙ phases ∙ same in
    record { lines = shows ∙ sym (ap (λ (r : StatementShown). r.lines) all); world = sym (ap (λ (r : StatementShown). r.world) all) }
  where
    go : (b : Bool) → (let r : StatementShown = if b then record { lines = map line_of x.lines.items ++ line_of x.answer ∷ []; world = v } else record { lines = map line_of x.lines.items ++ (phases_shown [] v (line_of x.answer)).lines; world = (phases_shown [] v (line_of x.answer)).world } in r)
        ≡ record { lines = map line_of x.lines.items ++ line_of x.answer ∷ []; world = v }
    go true = refl
    go false = refl

-- What refuses statements at once.

pub not_there : (w : World) (name : List ℕ) (b : Bool) → b ≡ node_there name w.nodes → b ≡ false → named_node w name ≡ Some model.NoSuchNode
not_there w name b is e = named_is w name ∙ ap (λ t. refused_if (not t) model.NoSuchNode) (sym is ∙ e)

pub is_there : (w : World) (name : List ℕ) (b : Bool) → b ≡ node_there name w.nodes → b ≡ true → named_node w name ≡ None
is_there w name b is e = named_is w name ∙ ap (λ t. refused_if (not t) model.NoSuchNode) (sym is ∙ e)

pub at_missing : (w : World) (name : List ℕ) (r : Request) → named_node w name ≡ Some model.NoSuchNode → refused_at_once w (At name r) ≡ Some model.NoSuchNode
at_missing w name r e = ap (λ o. first_of o (other_node w r)) e

pub at_other : (w : World) (name : List ℕ) (r : Request) (b : Bool) → named_node w name ≡ None → other_node w r ≡ refused_if (not b) model.NoSuchNode → b ≡ false → refused_at_once w (At name r) ≡ Some model.NoSuchNode
at_other w name r b there other e = ap (λ o. first_of o (other_node w r)) there ∙ other ∙ ap (λ t. refused_if (not t) model.NoSuchNode) e

pub at_allowed : (w : World) (name : List ℕ) (r : Request) (b : Bool) → named_node w name ≡ None → other_node w r ≡ refused_if (not b) model.NoSuchNode → b ≡ true → refused_at_once w (At name r) ≡ None
at_allowed w name r b there other e = ap (λ o. first_of o (other_node w r)) there ∙ other ∙ ap (λ t. refused_if (not t) model.NoSuchNode) e

pub link_first : (w : World) (a b : List ℕ) → named_node w a ≡ Some model.NoSuchNode → refused_at_once w (LinkDown a b) ≡ Some model.NoSuchNode
link_first w a b e = ap (λ o. first_of o (first_of (named_node w b) (refused_if (bytes_eq a b) model.BadParameter))) e

pub link_second : (w : World) (a b : List ℕ) → named_node w a ≡ None → named_node w b ≡ Some model.NoSuchNode → refused_at_once w (LinkDown a b) ≡ Some model.NoSuchNode
link_second w a b there e = ap (λ o. first_of o (first_of (named_node w b) (refused_if (bytes_eq a b) model.BadParameter))) there ∙ ap (λ o. first_of o (refused_if (bytes_eq a b) model.BadParameter)) e

pub link_rest : (w : World) (a b : List ℕ) (t : Bool) → named_node w a ≡ None → named_node w b ≡ None → bytes_eq a b ≡ t → refused_at_once w (LinkDown a b) ≡ refused_if t model.BadParameter
link_rest w a b t first second e = ap (λ o. first_of o (first_of (named_node w b) (refused_if (bytes_eq a b) model.BadParameter))) first
    ∙ ap (λ o. first_of o (refused_if (bytes_eq a b) model.BadParameter)) second ∙ ap (λ c. refused_if c model.BadParameter) e

pub message_to : (w : World) (number : ℕ) (m : Message) → message_at number w.shared.wire ≡ Some m → refused_at_once w (Deliver number) ≡ named_node w m.to
message_to w number m e = ap (λ (o : Option Message). elim o as (λ _. Option model.Line) [ Some x ↦ named_node w x.to | None ↦ Some model.NoSuchMessage ]) e

pub no_message : (w : World) (number : ℕ) → message_at number w.shared.wire ≡ None → refused_at_once w (Deliver number) ≡ Some model.NoSuchMessage
no_message w number e = ap (λ (o : Option Message). elim o as (λ _. Option model.Line) [ Some x ↦ named_node w x.to | None ↦ Some model.NoSuchMessage ]) e

-- a message that comes
pub delivered : (w v : World) (number : ℕ) (m : Message) (x : TaskShown) → message_at number w.shared.wire ≡ Some m → IsPart (Does m.to (answers.Takes m)) w x v → RunsPhases (phases_of (Deliver number)) w model.Normal x v
delivered w v number m x e part =
    ap (λ (o : Option Message). parts_shown (elim o as (λ _. List Part) [ Some y ↦ Does y.to (answers.Takes y) ∷ [] | None ↦ [] ]) (phases_shown []) w model.Normal) e ∙ runs_one (Does m.to (answers.Takes m)) w v model.Normal x part (phases_shown [])

-- Phases one after another.

pub phases_last : (p : Phase) (w v : World) (given : model.Line) (x : TaskShown) → Runs (p w) w given x v → RunsPhases (p ∷ []) w given x v
phases_last p w v given x runs = runs (phases_shown [])

pub phases_ended : (p : Phase) (ps : List Phase) (w v : World) (given : model.Line) (x : TaskShown) → Runs (p w) w given x v → x.ends ≡ true → RunsPhases (p ∷ ps) w given x v
phases_ended p ps w v given x runs ends = runs (phases_shown ps) ∙ followed_ended x v (phases_shown ps) (phases_shown []) ends

pub phases_more : (p : Phase) (ps : List Phase) (w m v : World) (given : model.Line) (x y z : TaskShown) → Runs (p w) w given x m → x.ends ≡ false → RunsPhases ps m (line_of x.answer) y v →
    map line_of z.lines.items ≡ map line_of x.lines.items ++ map line_of y.lines.items → line_of z.answer ≡ line_of y.answer → z.ends ≡ y.ends → RunsPhases (p ∷ ps) w given z v
phases_more p ps w m v given x y z runs on more lines answer ends =
    runs (phases_shown ps) ∙ followed_on x y z m v (phases_shown ps) (phases_shown []) on more lines answer ends

-- A request that sets a clock: its first part shows nothing, and then what is due is aborted.
pub clock_shown : (name : List ℕ) (r : Request) (now : ℕ) (w m v : World) (xs : List Line) (x : TaskShown) (shown : List Line) → r ≡ Clock now → named_node w name ≡ None → w.disks ≡ no_counts w.nodes → ServesPart (Does name (answers.Serves r)) w xs m →
    Runs (where_up name answers.Ticks m) m model.Normal x v → map line_of shown ≡ map line_of x.lines.items ++ line_of x.answer ∷ [] → IsShown (At name r) w shown v
clock_shown name r now w m v xs x shown is there disks part runs shows = subst (λ (q : Request). IsShown (At name q) w shown v) (sym is) (ends_shown (At name (Clock now)) w v x shown (ap (λ o. first_of o None) there) phases shows)
  where
    e : PartEffect
    e = part_effect w (Does name (answers.Serves (Clock now))) (Whole Lost)

    rest : World → model.Line → StatementShown
    rest = phases_shown (where_up name answers.Ticks ∷ [])

    world : e.world ≡ m
    world = sym (part.world ∙ ap (λ (q : Request). (part_effect w (Does name (answers.Serves q)) (Whole Lost)).world) is)

    phases : phases_shown (phases_of (At name (Clock now))) w model.Normal ≡ followed x v (phases_shown [])
    phases =
        let c = clock_part w name now disks there in
        (λ i. if c.2 i then record { lines = c.0 i ++ c.1 i ∷ []; world = world i } else record { lines = c.0 i ++ (rest (world i) (c.1 i)).lines; world = (rest (world i) (c.1 i)).world }) ∙ runs (phases_shown [])

clock_set : (lit : Literals) (r : RequestKept) → sets_clock r ≡ true → (now : ℕ) × (request_of lit r ≡ Clock now)
clock_set lit (kept.Clock now) e = (now.0, refl)
clock_set lit _ e = let never : ⊥ = cc in absurd never

pub phases_are : (lit : Literals) (name : List ℕ) (r : RequestKept) → sets_clock r ≡ false → phases_at name (request_of lit r) ≡ phases_by false name (request_of lit r)
phases_are lit name (kept.Clock now) e = let never : ⊥ = cc in absurd never
phases_are lit name _ e = refl

pub clock_request_shown : (lit : Literals) (name : List ℕ) (r : RequestKept) (w m v : World) (xs : List Line) (x : TaskShown) (shown : List Line) → sets_clock r ≡ true → named_node w name ≡ None → w.disks ≡ no_counts w.nodes → ServesPart (Does name (answers.Serves (request_of lit r))) w xs m →
    Runs (where_up name answers.Ticks m) m model.Normal x v → map line_of shown ≡ map line_of x.lines.items ++ line_of x.answer ∷ [] → IsShown (At name (request_of lit r)) w shown v
clock_request_shown lit name r w m v xs x shown sets there disks part runs shows = let c = clock_set lit r sets in clock_shown name (request_of lit r) c.0 w m v xs x shown c.1 there disks part runs shows

-- a request that is one part
pub request_shown : (node : List ℕ) (request : Request) (w v : World) (shown : List Line) → refused_at_once w (At node request) ≡ None → phases_at node request ≡ phases_by false node request → ServesPart (Does node (answers.Serves request)) w shown v → IsShown (At node request) w shown v
request_shown node request w v shown allowed one part =
    let e = part_effect w (Does node (answers.Serves request)) (Whole Lost) in
    let all : shown_whole w (At node request) ≡ record { lines = e.lines ++ e.answer ∷ []; world = e.world } =
    ap (λ o. begins_shown o w (At node request)) allowed ∙ ap (λ ps. phases_shown ps w model.Normal) one ∙ go e.ends in
    record { lines = part.lines ∙ sym (ap (λ (r : StatementShown). r.lines) all); world = part.world ∙ sym (ap (λ (r : StatementShown). r.world) all) }
  where
    go : (b : Bool) → (let e = part_effect w (Does node (answers.Serves request)) (Whole Lost) in let r : StatementShown = if b then record { lines = e.lines ++ e.answer ∷ []; world = e.world } else record { lines = e.lines ++ e.answer ∷ []; world = e.world } in r)
        ≡ (let e = part_effect w (Does node (answers.Serves request)) (Whole Lost) in record { lines = e.lines ++ e.answer ∷ []; world = e.world })
    go true = refl
    go false = refl

-- Where a node is up, a task of it is done.

pub runs_down : (name : List ℕ) (t : answers.Task) (w : World) (given : model.Line) (x : TaskShown) → node_up name w.nodes ≡ false → Runs [] w given x w → Runs (where_up name t w) w given x w
runs_down name t w given x down runs = subst (λ (b : Bool). Runs (if b then Does name t ∷ [] else []) w given x w) (sym (up_is w name ∙ down)) runs

pub runs_up : (name : List ℕ) (t : answers.Task) (w v : World) (given : model.Line) (x : TaskShown) → node_up name w.nodes ≡ true → Runs (Does name t ∷ []) w given x v → Runs (where_up name t w) w given x v
runs_up name t w v given x up runs = subst (λ (b : Bool). Runs (if b then Does name t ∷ [] else []) w given x v) (sym (up_is w name ∙ up)) runs

-- Questions.

-- the question of a branch of this key, or of none
abbrev asked_by : World → Option Key → Question
asked_by w (Some k) = asked w k
asked_by w None = Unanswered

question_is : (w : World) (node : List ℕ) (serial : Id) (k : Option Key) → k ≡ option_map (λ (b : Branch). b.key) (asking w node serial) → question w node serial ≡ asked_by w k
question_is w node serial k e = go (asking w node serial) e
  where
    go : (o : Option Branch) → k ≡ option_map (λ (b : Branch). b.key) o → (elim o as (λ _. Question) [ Some b ↦ asked w b.key | None ↦ Unanswered ]) ≡ asked_by w k
    go (Some b) is = sym (ap (asked_by w) is)
    go None is = sym (ap (asked_by w) is)

-- what becomes of it by what its coordinator answers
abbrev heard_by : Key → Option (Option Message) → Question
heard_by k (Some (Some m)) = Heard m
heard_by k (Some None) = Unanswered
heard_by k None = Doubtful k

asked_is : (w : World) (k : Key) → asked w k ≡ heard_by k (answer_there (coordinator_of k) k w.nodes)
asked_is w k = by w.nodes
  where
    answered : (o : Option Message) → (elim o as (λ _. Question) [ Some m ↦ Heard m | None ↦ Unanswered ]) ≡ heard_by k (Some o)
    answered (Some m) = refl
    answered None = refl

    by : (ns : List Node) → (elim (find_node (coordinator_of k) ns) as (λ _. Question) [ Some n ↦ elim (answer_of n k) as (λ _. Question) [ Some m ↦ Heard m | None ↦ Unanswered ] | None ↦ Doubtful k ]) ≡ heard_by k (answer_there (coordinator_of k) k ns)
    by [] = refl
    by (n ∷ ns) = go (bytes_eq (coordinator_of k) n.name) (by ns)
      where
        go : (b : Bool) → (elim (find_node (coordinator_of k) ns) as (λ _. Question) [ Some n ↦ elim (answer_of n k) as (λ _. Question) [ Some m ↦ Heard m | None ↦ Unanswered ] | None ↦ Doubtful k ]) ≡ heard_by k (answer_there (coordinator_of k) k ns) →
            (elim (let o : Option Node = if b then Some n else find_node (coordinator_of k) ns in o) as (λ _. Question) [ Some n ↦ elim (answer_of n k) as (λ _. Question) [ Some m ↦ Heard m | None ↦ Unanswered ] | None ↦ Doubtful k ])
            ≡ heard_by k (let o : Option (Option Message) = if b then Some (answer_of n k) else answer_there (coordinator_of k) k ns in o)
        go true more = answered (answer_of n k)
        go false more = more

asks_effect : (w : World) (node : List ℕ) (serial : Id) (q : Question) → question w node serial ≡ q → part_effect w (Asks node serial) (Whole Lost) ≡ question_effect w (Whole Lost) q
asks_effect w node serial q is = ap (question_effect w (Whole Lost)) is

-- a part that shows nothing and leaves what there is
shows_nothing : (p : Part) (w : World) (x : TaskShown) (e : PartEffect) → part_effect w p (Whole Lost) ≡ e → x.lines.items ≡ [] → e.lines ≡ [] → line_of x.answer ≡ e.answer → x.ends ≡ e.ends → e.world ≡ w → IsPart p w x w
shows_nothing p w x e is lines none answer ends world = record {
  lines = ap (map line_of) lines ∙ sym (ap (λ (z : PartEffect). z.lines) is ∙ none);
  answer = answer ∙ sym (ap (λ (z : PartEffect). z.answer) is);
  ends = ends ∙ sym (ap (λ (z : PartEffect). z.ends) is);
  world = sym (ap (λ (z : PartEffect). z.world) is ∙ world);
}

-- no branch asks
pub asks_none : (w : World) (node : List ℕ) (serial : Id) (x : TaskShown) → None ≡ option_map (λ (b : Branch). b.key) (asking w node serial) → x.lines.items ≡ [] → line_of x.answer ≡ model.Normal → x.ends ≡ false → IsPart (Asks node serial) w x w
asks_none w node serial x k lines answer ends = shows_nothing (Asks node serial) w x (nothing_done w) (asks_effect w node serial Unanswered (question_is w node serial None k)) lines refl answer ends refl

-- a branch asks, and its coordinator answers so
asks_heard : (w : World) (node : List ℕ) (serial : Id) (k : Key) (a : Option (Option Message)) → Some k ≡ option_map (λ (b : Branch). b.key) (asking w node serial) → a ≡ answer_there (coordinator_of k) k w.nodes → part_effect w (Asks node serial) (Whole Lost) ≡ question_effect w (Whole Lost) (heard_by k a)
asks_heard w node serial k a is answers = asks_effect w node serial (heard_by k a) (question_is w node serial (Some k) is ∙ asked_is w k ∙ ap (heard_by k) (sym answers))

pub asks_doubtful : (w : World) (node : List ℕ) (serial : Id) (k : Key) (x : TaskShown) → Some k ≡ option_map (λ (b : Branch). b.key) (asking w node serial) → None ≡ answer_there (coordinator_of k) k w.nodes → x.lines.items ≡ [] → line_of x.answer ≡ model.InDoubt k.serial (coordinator_of k) → x.ends ≡ true → IsPart (Asks node serial) w x w
asks_doubtful w node serial k x is answers lines answer ends = shows_nothing (Asks node serial) w x (ended_by w (model.InDoubt k.serial (coordinator_of k))) (asks_heard w node serial k None is answers) lines refl answer ends refl

pub asks_heard_so : (w v : World) (node : List ℕ) (serial : Id) (k : Key) (answer : Option Message) (x : TaskShown) → Some k ≡ option_map (λ (b : Branch). b.key) (asking w node serial) → Some answer ≡ answer_there (coordinator_of k) k w.nodes → IsHeard answer w x v → IsPart (Asks node serial) w x v
asks_heard_so w v node serial k None x is answers heard = subst (IsPart (Asks node serial) w x) (sym heard.3) (shows_nothing (Asks node serial) w x (nothing_done w) (asks_heard w node serial k (Some None) is answers) heard.0 refl heard.1 heard.2 refl)
asks_heard_so w v node serial k (Some m) x is answers part =
    let e = asks_heard w node serial k (Some (Some m)) is answers in
    record {
      lines = part.lines ∙ sym (ap (λ (z : PartEffect). z.lines) e);
      answer = part.answer ∙ sym (ap (λ (z : PartEffect). z.answer) e);
      ends = part.ends ∙ sym (ap (λ (z : PartEffect). z.ends) e);
      world = part.world ∙ sym (ap (λ (z : PartEffect). z.world) e);
    }

-- the serials of prepared branches ask
questions_are : (node : List ℕ) (bs : List Branch) (others : List Part) → questions_then node (serials_in_doubt bs) others ≡ questions_of node bs ++ others
questions_are node [] others = refl
questions_are node (b ∷ bs) others = go (is_prepared b.state) (questions_are node bs others)
  where
    go : (t : Bool) → questions_then node (serials_in_doubt bs) others ≡ questions_of node bs ++ others →
        questions_then node (if t then b.key.serial ∷ serials_in_doubt bs else serials_in_doubt bs) others ≡ (if t then Asks node b.key.serial ∷ questions_of node bs else questions_of node bs) ++ others
    go true more = ap (λ ps. Asks node b.key.serial ∷ ps) more
    go false more = more

-- the questions of the first node, and then of the others
pub all_asked : (n : Node) (nodes rest : List Node) (ids : List Id) (others : List Part) → nodes ≡ n ∷ rest → ids ≡ serials_in_doubt (arranged n.volatile.preparation n.volatile.branches) → others ≡ all_questions rest → questions_then n.name ids others ≡ all_questions nodes
all_asked n nodes rest ids others is serials more =
    (λ i. questions_then n.name (serials i) (more i)) ∙ questions_are n.name (arranged n.volatile.preparation n.volatile.branches) (all_questions rest) ∙ sym (ap all_questions is)
