-- Parts of statements, done one after another.
use Rattle.std.proofs.Common.{◌≡◌, ℕ, List, [], ◌∷◌, ◌++◌, append_assoc, Bool, true, false, Option, Some, None, if◌then◌else◌, refl, sym, ap, subst, ◌∙◌, map, arith}
use Rattle.std.specs.Prelude.{not, ◌||◌}
use Rattle.std.specs.Str.{bytes_eq}
use Rattle.world_laws.specs.transcript_model.Lines as model
use Rattle.script_lang.specs.script_model.Statements.{Request, Clock}
use Rattle.world_laws.specs.run_model.Answers.{Service, Serves as ServesRequest, Task, task_service, service}
use Rattle.world_laws.specs.run_model.Steps.{NodeStep, TaskEffect, Whole, task_effect, whole}
use Rattle.world_laws.specs.run_model.Operations.{first_of, refused_if}
use Rattle.world_laws.specs.run_model.Statements.{Does, Part, PartEffect, named_node, no_node, part_effect, put_into, stops_at}
use Rattle.world_laws.specs.run_model.World.{DiskCounts, Lost, Node, Shared, World, disk_of, find_node, with_node}
use Rattle.statement_steps.specs.Doing.{AllKept}
use Rattle.statement_steps.proofs.Keeping.{step_keeps}
use Rattle.world_laws.specs.Nodes.{StepsKeepNodes, StepsKeepOthers}
use Rattle.reference_world.specs.declared.line.Line.{Line}
use Rattle.reference_world.specs.Standing.{line_of}
use Rattle.reference_law.specs.Whole.{StatementShown, parts_shown, then_shown}
use Rattle.reference_tasks.specs.Tasks.{Performs}
use Rattle.reference_tasks.specs.Serving.{Serves}
use Rattle.reference_tasks.specs.declared.tasks.TaskShown.{TaskShown}
use Rattle.reference_run.specs.Served.{IsDone, IsDoneBy, IsPart, IsServedAt, IsServedBy, Runs, ServesPart, followed, moved, no_counts}

-- Disks that never failed.

pub counts_put : (name : List ℕ) (f : Node → Node) (ns : List Node) → no_counts (with_node name f ns) ≡ no_counts ns
counts_put name f [] = refl
counts_put name f (n ∷ ns) = go (bytes_eq name n.name) (counts_put name f ns)
  where
    go : (b : Bool) → no_counts (with_node name f ns) ≡ no_counts ns → no_counts (if b then f n ∷ ns else n ∷ with_node name f ns) ≡ no_counts (n ∷ ns)
    go true more = refl
    go false more = ap (λ (ds : List DiskCounts). (let d : DiskCounts = record { faults = 0; stops = 0 } in d) ∷ ds) more

stops_of : Option DiskCounts → ℕ
stops_of o = elim o [ Some d ↦ d.stops | None ↦ 0 ]

stops_none : (name : List ℕ) (ns : List Node) → (elim (disk_of name ns (no_counts ns)) as (λ _. ℕ) [ Some d ↦ d.stops | None ↦ 0 ]) ≡ 0
stops_none name [] = refl
stops_none name (n ∷ ns) = go (bytes_eq name n.name) (stops_none name ns)
  where
    go : (b : Bool) → (elim (disk_of name ns (no_counts ns)) as (λ _. ℕ) [ Some d ↦ d.stops | None ↦ 0 ]) ≡ 0 →
        (elim (let o : Option DiskCounts = if b then Some (record { faults = 0; stops = 0 }) else disk_of name ns (no_counts ns) in o) as (λ _. ℕ) [ Some d ↦ d.stops | None ↦ 0 ]) ≡ 0
    go true more = refl
    go false more = more

never_stopped : (name : List ℕ) (w : World) → w.disks ≡ no_counts w.nodes → stops_at name w ≡ 0
never_stopped name w e = ap (λ ds. (elim (disk_of name w.nodes ds) as (λ _. ℕ) [ Some d ↦ d.stops | None ↦ 0 ])) e ∙ stops_none name w.nodes

-- A task at a node.

done_effect : (w : World) (name : List ℕ) (t : Task) (n : Node) → w.disks ≡ no_counts w.nodes → find_node name w.nodes ≡ Some n → part_effect w (Does name t) (Whole Lost) ≡ put_into w name (task_effect w.shared 0 n t (Whole Lost))
done_effect w name t n e found =
    ap (λ (o : Option Node). elim o as (λ _. PartEffect) [ Some x ↦ put_into w name (task_effect w.shared (stops_at name w) x t (Whole Lost)) | None ↦ no_node w ]) found
    ∙ ap (λ k. put_into w name (task_effect w.shared k n t (Whole Lost))) (never_stopped name w e)

none_effect : (w : World) (name : List ℕ) (t : Task) → find_node name w.nodes ≡ None → part_effect w (Does name t) (Whole Lost) ≡ no_node w
none_effect w name t none = ap (λ (o : Option Node). elim o as (λ _. PartEffect) [ Some x ↦ put_into w name (task_effect w.shared (stops_at name w) x t (Whole Lost)) | None ↦ no_node w ]) none

some_one : {A : Type 0} (x y : A) → Some x ≡ Some y → x ≡ y
some_one x y e = cc

pub performed : (w : World) (name : List ℕ) (t : Task) (shown : Option TaskShown) (x : TaskShown) (ms : List Node) (s : Shared) → w.disks ≡ no_counts w.nodes → IsDone name (task_service t) w.shared w.nodes shown ms s → shown ≡ Some x → IsPart (Does name t) w x (moved ms s)
performed w name t shown x ms s e done is = go (find_node name w.nodes) refl done
  where
    go : (o : Option Node) → find_node name w.nodes ≡ o → IsDoneBy o name (task_service t) w.shared w.nodes shown ms s → IsPart (Does name t) w x (moved ms s)
    go (Some n) found d =
        let same : x ≡ d.0 = some_one x d.0 (sym is ∙ d.2) in
        let p : Performs w.shared n (task_service t) x d.1 s = subst (λ y. Performs w.shared n (task_service t) y d.1 s) (sym same) d.3 in
        let effect = done_effect w name t n e found in
        let nodes : ms ≡ with_node name (λ k. (task_effect w.shared 0 n t (Whole Lost)).node) w.nodes = d.4 ∙ ap (λ m. with_node name (λ k. m) w.nodes) p.node in
        record {
          lines = p.lines ∙ sym (ap (λ (z : PartEffect). z.lines) effect);
          answer = p.answer ∙ sym (ap (λ (z : PartEffect). z.answer) effect);
          ends = p.ends ∙ sym (ap (λ (z : PartEffect). z.ends) effect);
          world = (λ i. record { nodes = nodes i; disks = no_counts ms; shared = p.shared i })
              ∙ (ap (λ ds. (let v : World = record { nodes = with_node name (λ k. (task_effect w.shared 0 n t (Whole Lost)).node) w.nodes; disks = ds; shared = (task_effect w.shared 0 n t (Whole Lost)).shared } in v))
              (ap no_counts nodes ∙ counts_put name (λ k. (task_effect w.shared 0 n t (Whole Lost)).node) w.nodes ∙ sym e))
              ∙ sym (ap (λ (z : PartEffect). z.world) effect);
        }
    go None found d = let never : ⊥ = (let clash : Some x ≡ None = sym is ∙ d.0 in cc) in absurd never

same_world : (w : World) (ms : List Node) (s : Shared) → w.disks ≡ no_counts w.nodes → ms ≡ w.nodes → s ≡ w.shared → moved ms s ≡ w
same_world w ms s e nodes shared = (λ i. moved (nodes i) (shared i)) ∙ ap (λ ds. (let v : World = record { nodes = w.nodes; disks = ds; shared = w.shared } in v)) (sym e)

pub not_there : (w : World) (name : List ℕ) (t : Task) (shown : Option TaskShown) (x : TaskShown) (ms : List Node) (s : Shared) → w.disks ≡ no_counts w.nodes → IsDone name (task_service t) w.shared w.nodes shown ms s → shown ≡ None →
    x.lines.items ≡ [] → line_of x.answer ≡ model.NoSuchNode → x.ends ≡ true → IsPart (Does name t) w x (moved ms s)
not_there w name t shown x ms s e done is lines answer ends = go (find_node name w.nodes) refl done
  where
    go : (o : Option Node) → find_node name w.nodes ≡ o → IsDoneBy o name (task_service t) w.shared w.nodes shown ms s → IsPart (Does name t) w x (moved ms s)
    go (Some n) found d = let never : ⊥ = (let clash : None ≡ Some d.0 = sym is ∙ d.2 in cc) in absurd never
    go None found d =
        let effect = none_effect w name t found in
        record {
          lines = ap (map line_of) lines ∙ sym (ap (λ (z : PartEffect). z.lines) effect);
          answer = answer ∙ sym (ap (λ (z : PartEffect). z.answer) effect);
          ends = ends ∙ sym (ap (λ (z : PartEffect). z.ends) effect);
          world = same_world w ms s e d.1 d.2 ∙ sym (ap (λ (z : PartEffect). z.world) effect);
        }

-- A request at a node.

pub served : (w : World) (name : List ℕ) (r : Request) (shown : Option (List Line)) (xs : List Line) (ms : List Node) (s : Shared) → w.disks ≡ no_counts w.nodes → IsServedAt name (service r) w.shared w.nodes shown ms s → shown ≡ Some xs → ServesPart (Does name (ServesRequest r)) w xs (moved ms s)
served w name r shown xs ms s e done is = go (find_node name w.nodes) refl done
  where
    go : (o : Option Node) → find_node name w.nodes ≡ o → IsServedBy o name (service r) w.shared w.nodes shown ms s → ServesPart (Does name (ServesRequest r)) w xs (moved ms s)
    go (Some n) found d =
        let same : xs ≡ d.0 = some_one xs d.0 (sym is ∙ d.2) in
        let p : Serves w.shared n (service r) xs d.1 s = subst (λ y. Serves w.shared n (service r) y d.1 s) (sym same) d.3 in
        let effect = done_effect w name (ServesRequest r) n e found in
        let nodes : ms ≡ with_node name (λ k. (task_effect w.shared 0 n (ServesRequest r) (Whole Lost)).node) w.nodes = d.4 ∙ ap (λ m. with_node name (λ k. m) w.nodes) p.node in
        record {
          lines = p.shows ∙ sym (ap (λ (z : PartEffect). z.lines ++ z.answer ∷ []) effect);
          world = (λ i. record { nodes = nodes i; disks = no_counts ms; shared = p.shared i })
              ∙ (ap (λ ds. (let v : World = record { nodes = with_node name (λ k. (task_effect w.shared 0 n (ServesRequest r) (Whole Lost)).node) w.nodes; disks = ds; shared = (task_effect w.shared 0 n (ServesRequest r) (Whole Lost)).shared } in v))
              (ap no_counts nodes ∙ counts_put name (λ k. (task_effect w.shared 0 n (ServesRequest r) (Whole Lost)).node) w.nodes ∙ sym e))
              ∙ sym (ap (λ (z : PartEffect). z.world) effect);
        }
    go None found d = let never : ⊥ = (let clash : Some xs ≡ None = sym is ∙ d.0 in cc) in absurd never

-- a node that is there serves the request
pub serves_there : (w : World) (name : List ℕ) (e : Service) (shown : Option (List Line)) (ms : List Node) (s : Shared) → named_node w name ≡ None → IsServedAt name e w.shared w.nodes shown ms s → shown ≡ None → ⊥
serves_there w name e shown ms s there done is = go (find_node name w.nodes) there done
  where
    go : (o : Option Node) → (elim o as (λ _. Option model.Line) [ Some n ↦ None | None ↦ Some model.NoSuchNode ]) ≡ None → IsServedBy o name e w.shared w.nodes shown ms s → ⊥
    go (Some n) f d = let clash : Some d.0 ≡ None = sym d.2 ∙ is in cc
    go None f d = cc

-- What is set by a clock: it shows nothing, and its statement goes on.

clock_allowed : (b : Bool) → first_of (refused_if (not (b || true)) model.NodeDown) None ≡ None
clock_allowed true = refl
clock_allowed false = refl

clock_task : (s : Shared) (n : Node) (now : ℕ) → (let e = task_effect s 0 n (ServesRequest (Clock now)) (Whole Lost) in (e.lines ≡ []) × (e.answer ≡ model.Normal) × (e.ends ≡ false))
clock_task s n now =
    let e : task_effect s 0 n (ServesRequest (Clock now)) (Whole Lost) ≡ whole s n n (service (Clock now)) None = ap (whole s n n (service (Clock now))) (clock_allowed n.up) in
    (ap (λ (z : TaskEffect). z.lines) e, ap (λ (z : TaskEffect). z.answer) e, ap (λ (z : TaskEffect). z.ends) e)

pub clock_part : (w : World) (name : List ℕ) (now : ℕ) → w.disks ≡ no_counts w.nodes → named_node w name ≡ None → (let e = part_effect w (Does name (ServesRequest (Clock now))) (Whole Lost) in (e.lines ≡ []) × (e.answer ≡ model.Normal) × (e.ends ≡ false))
clock_part w name now e there = go (find_node name w.nodes) refl there
  where
    go : (o : Option Node) → find_node name w.nodes ≡ o → (elim o as (λ _. Option model.Line) [ Some n ↦ None | None ↦ Some model.NoSuchNode ]) ≡ None →
        (let e = part_effect w (Does name (ServesRequest (Clock now))) (Whole Lost) in (e.lines ≡ []) × (e.answer ≡ model.Normal) × (e.ends ≡ false))
    go (Some n) found f =
        let effect = done_effect w name (ServesRequest (Clock now)) n e found in
        let t = clock_task w.shared n now in
        (ap (λ (z : PartEffect). z.lines) effect ∙ t.0, ap (λ (z : PartEffect). z.answer) effect ∙ t.1, ap (λ (z : PartEffect). z.ends) effect ∙ t.2)
    go None found f = let never : ⊥ = cc in absurd never

-- Nodes stay as they are in worlds of runs.

whole_step : (s : Shared) (n : Node) (t : Task) → (let d : DiskCounts = record { faults = 0; stops = 0 } in let e = task_effect s 0 n t (Whole Lost) in NodeStep s n d t e.lines e.answer e.ends e.node e.shared d)
whole_step s n t = record { choice = Whole Lost; allowed = tt; faults = omega arith; stops = omega arith; shows = refl; answers = refl; over = refl; node = refl; shared = refl }

pub world_keeps : StepsKeepNodes → StepsKeepOthers → (w v : World) (name : List ℕ) (t : Task) → w.disks ≡ no_counts w.nodes → v ≡ (part_effect w (Does name t) (Whole Lost)).world → AllKept w.shared w.nodes → AllKept v.shared v.nodes
world_keeps keeps others w v name t e is kept = subst (λ (u : World). AllKept u.shared u.nodes) (sym is) (go (find_node name w.nodes) refl)
  where
    go : (o : Option Node) → find_node name w.nodes ≡ o → AllKept (part_effect w (Does name t) (Whole Lost)).world.shared (part_effect w (Does name t) (Whole Lost)).world.nodes
    go (Some n) found =
        let f = task_effect w.shared 0 n t (Whole Lost) in
        let d : DiskCounts = record { faults = 0; stops = 0 } in
        subst (λ (z : PartEffect). AllKept z.world.shared z.world.nodes) (sym (done_effect w name t n e found))
        (step_keeps keeps others w.shared w.nodes name n d t f.lines f.answer f.ends f.node f.shared d kept found (whole_step w.shared n t))
    go None found = subst (λ (z : PartEffect). AllKept z.world.shared z.world.nodes) (sym (none_effect w name t found)) kept

-- Parts one after another.

pub runs_none : (w : World) (given : model.Line) (x : TaskShown) → x.lines.items ≡ [] → line_of x.answer ≡ given → x.ends ≡ false → Runs [] w given x w
runs_none w given x lines answer ends behind =
    (λ i. record { lines = (behind w (sym answer i)).lines; world = (behind w (sym answer i)).world })
    ∙ ap (λ (ls : List Line). (let r : StatementShown = record { lines = map line_of ls ++ (behind w (line_of x.answer)).lines; world = (behind w (line_of x.answer)).world } in r)) (sym lines)
    ∙ ap (λ b. (let r : StatementShown = if b then record { lines = map line_of x.lines.items ++ line_of x.answer ∷ []; world = w } else record { lines = map line_of x.lines.items ++ (behind w (line_of x.answer)).lines; world = (behind w (line_of x.answer)).world } in r)) (sym ends)

-- What was shown, and what is behind it.

if_true : {A : Type 0} (b : Bool) (x y z : A) → b ≡ true → (if b then x else y) ≡ (if b then x else z)
if_true b x y z e = rw e refl

pub followed_ended : (x : TaskShown) (v : World) (behind last : World → model.Line → StatementShown) → x.ends ≡ true → followed x v behind ≡ followed x v last
followed_ended x v behind last e = if_true x.ends _ _ _ e

pub followed_on : (x y z : TaskShown) (m v : World) (behind last : World → model.Line → StatementShown) → x.ends ≡ false → behind m (line_of x.answer) ≡ followed y v last →
    map line_of z.lines.items ≡ map line_of x.lines.items ++ map line_of y.lines.items → line_of z.answer ≡ line_of y.answer → z.ends ≡ y.ends → followed x m behind ≡ followed z v last
followed_on x y z m v behind last on rest lines answer ends =
    ap (λ b. (let r : StatementShown = if b then record { lines = map line_of x.lines.items ++ line_of x.answer ∷ []; world = m } else record { lines = map line_of x.lines.items ++ (behind m (line_of x.answer)).lines; world = (behind m (line_of x.answer)).world } in r)) on
    ∙ ap (λ (q : StatementShown). (let r : StatementShown = record { lines = map line_of x.lines.items ++ q.lines; world = q.world } in r)) rest
    ∙ joined y.ends z.ends ends
  where
    Last : Bool → List model.Line → model.Line → StatementShown
    Last b front answer = if b then record { lines = front ++ answer ∷ []; world = v } else record { lines = front ++ (last v answer).lines; world = (last v answer).world }

    joined : (b c : Bool) → c ≡ b → (let q : StatementShown = Last b (map line_of y.lines.items) (line_of y.answer) in let r : StatementShown = record { lines = map line_of x.lines.items ++ q.lines; world = q.world } in r) ≡ Last c (map line_of z.lines.items) (line_of z.answer)
    joined true true e = sym ((λ i. let r : StatementShown = record { lines = lines i ++ answer i ∷ []; world = v } in r)
        ∙ ap (λ ls. (let r : StatementShown = record { lines = ls; world = v } in r)) (append_assoc (map line_of x.lines.items) (map line_of y.lines.items) (line_of y.answer ∷ [])))
    joined false false e = sym ((λ i. let r : StatementShown = record { lines = lines i ++ (last v (answer i)).lines; world = (last v (answer i)).world } in r)
        ∙ ap (λ ls. (let r : StatementShown = record { lines = ls; world = (last v (line_of y.answer)).world } in r)) (append_assoc (map line_of x.lines.items) (map line_of y.lines.items) (last v (line_of y.answer)).lines))
    joined true false e = let never : ⊥ = cc in absurd never
    joined false true e = let never : ⊥ = cc in absurd never

-- a part, and what is behind it
part_followed : (p : Part) (w v : World) (x : TaskShown) (behind : World → model.Line → StatementShown) → IsPart p w x v → then_shown (part_effect w p (Whole Lost)) (behind (part_effect w p (Whole Lost)).world (part_effect w p (Whole Lost)).answer) ≡ followed x v behind
part_followed p w v x behind part = λ i. if sym part.ends i then record { lines = sym part.lines i ++ sym part.answer i ∷ []; world = sym part.world i } else record { lines = sym part.lines i ++ (behind (sym part.world i) (sym part.answer i)).lines; world = (behind (sym part.world i) (sym part.answer i)).world }

pub runs_ended : (p : Part) (ps : List Part) (w v : World) (given : model.Line) (x : TaskShown) → IsPart p w x v → x.ends ≡ true → Runs (p ∷ ps) w given x v
runs_ended p ps w v given x part ends behind = part_followed p w v x (parts_shown ps behind) part ∙ followed_ended x v (parts_shown ps behind) behind ends

pub runs_more : (p : Part) (ps : List Part) (w m v : World) (given : model.Line) (x y z : TaskShown) → IsPart p w x m → x.ends ≡ false → Runs ps m (line_of x.answer) y v → map line_of z.lines.items ≡ map line_of x.lines.items ++ map line_of y.lines.items → line_of z.answer ≡ line_of y.answer → z.ends ≡ y.ends →
    Runs (p ∷ ps) w given z v
runs_more p ps w m v given x y z part on runs lines answer ends behind =
    part_followed p w m x (parts_shown ps behind) part ∙ followed_on x y z m v (parts_shown ps behind) behind on (runs behind) lines answer ends

-- one part alone
pub runs_one : (p : Part) (w v : World) (given : model.Line) (x : TaskShown) → IsPart p w x v → Runs (p ∷ []) w given x v
runs_one p w v given x part behind = part_followed p w v x behind part
