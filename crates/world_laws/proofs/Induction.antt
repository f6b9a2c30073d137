-- What holds of each node at the opening and is kept by each task holds of each node in all worlds.
use Rattle.std.proofs.Common.{◌≡◌, ℕ, List, [], ◌∷◌, ◌++◌, take, Bool, true, false, Option, Some, None, if◌then◌else◌, refl, sym, ◌∙◌, ap, subst}
use Rattle.std.specs.Str.{bytes_eq}
use Rattle.std.proofs.lemmas.Slice.Eq.{bytes_eq-Decides}
use Rattle.run_model.specs.transcript_model.Lines.{Line, Cause, Normal}
use Rattle.run_model.specs.script_model.Statements.{Statement, Settle, At, Deliver, LinkDown, Reading, Blank, Says, Bad}
use Rattle.run_model.specs.script_model.Grammar.{reading}
use Rattle.run_model.specs.World.{Act, Half, Lost, Outturn, Taken, World, Node, Shared, DiskCounts, find_node, powered, unpowered, with_node}
use Rattle.run_model.specs.Answers.{Row, Service, Task, Hears, powers, refused_before_reading, spoils, task_service}
use Rattle.run_model.specs.Steps.{Choice, Cut, TaskAllowed, Unpowered, Whole, WithoutMemory, begun, node_after, node_after_rows, ready_node, rows_to_cut, service_effect, task_effect, whole, with_unknown_volume}
use Rattle.run_model.specs.Statements.{Allowed, AllowedAt, AllowedOf, Asks, Begins, Does, Doubtful, Heard, Part, PartEffect, Parts, Phase, Phases, Question, RoseAt, Step, Then, Unanswered, begun_with, done_at, part_effect, phases_of, put_into, question, question_effect, refused_at_once, stops_at, no_node}
use Rattle.run_model.specs.Transcript.{Entry, Legal, Turn}
use Rattle.world_laws.proofs.EffectLemmas.{kept_sharing, use_before}
use Rattle.world_laws.proofs.FindLemmas.{either_way, some_is}
use Rattle.world_laws.proofs.NodeLemmas.{acted_name}
use Rattle.world_laws.proofs.TaskLemmas.{task_kept}
use Rattle.world_laws.specs.Nodes.{IsKeptNode}

-- so it is of each node that is found
abbrev pub AreKeptNodes : World → Type 0
AreKeptNodes w = (node : List ℕ) (n : Node) → find_node node w.nodes ≡ Some n → IsKeptNode w.shared n

-- Names.

replaced_node : (node : List ℕ) (new : Node) (ns : List Node) (n : Node) → find_node node ns ≡ Some n → new.name ≡ n.name → find_node node (with_node node (λ x. new) ns) ≡ Some new
replaced_node node new [] n e same = let none : ⊥ = cc in absurd none
replaced_node node new (m ∷ ns) n e same = go (bytes_eq node m.name) refl e (replaced_node node new ns n)
  where
    go : (b : Bool) → bytes_eq node m.name ≡ b → ◌≡◌ {A = Option Node} (if b then Some m else find_node node ns) (Some n) → (find_node node ns ≡ Some n → new.name ≡ n.name → find_node node (with_node node (λ x. new) ns) ≡ Some new) →
        find_node node (if b then new ∷ ns else m ∷ with_node node (λ x. new) ns) ≡ Some new
    go true t k more = rw (ap (bytes_eq node) (same ∙ ap (λ (x : Node). x.name) (sym (some_is m n k))) ∙ t) refl
    go false t k more = rw t (more k same)

pub beside_node : (node other : List ℕ) (new : Node) (ns : List Node) (n : Node) → find_node node ns ≡ Some n → new.name ≡ n.name → bytes_eq node other ≡ false → find_node other (with_node node (λ x. new) ns) ≡ find_node other ns
beside_node node other new [] n e same apart = refl
beside_node node other new (m ∷ ns) n e same apart = go (bytes_eq node m.name) refl e (beside_node node other new ns n)
  where
    go : (b : Bool) → bytes_eq node m.name ≡ b → ◌≡◌ {A = Option Node} (if b then Some m else find_node node ns) (Some n) → (find_node node ns ≡ Some n → new.name ≡ n.name → bytes_eq node other ≡ false → find_node other (with_node node (λ x. new) ns) ≡ find_node other ns) →
        ◌≡◌ {A = Option Node} (find_node other (if b then new ∷ ns else m ∷ with_node node (λ x. new) ns)) (if bytes_eq other m.name then Some m else find_node other ns)
    go true t k more =
        let name = same ∙ ap (λ (x : Node). x.name) (sym (some_is m n k)) in
        let not_it : bytes_eq other m.name ≡ false = ap (bytes_eq other) (sym ((bytes_eq-Decides node m.name).0 t)) ∙ either_way other node ∙ apart in
        rw (name, not_it) refl
    go false t k more = ap (λ o. if bytes_eq other m.name then Some m else o) (more k same apart)

act_name : (o : Option Act) (n : Node) → (node_after o n).name ≡ n.name
act_name None n = refl
act_name (Some act) n = acted_name act n

rows_name : (rs : List Row) (n : Node) → (node_after_rows rs n).name ≡ n.name
rows_name [] n = refl
rows_name (r ∷ rs) n = rows_name rs (node_after r.act n) ∙ act_name r.act n

pub spoilt_name : (b : Bool) (n : Node) → (with_unknown_volume b n).name ≡ n.name
spoilt_name true n = refl
spoilt_name false n = refl

pub powered_name : (o : Outturn) (stops : ℕ) (n : Node) → (powered o stops n).name ≡ n.name
powered_name Lost stops n = refl
powered_name (Half standing) stops n = refl
powered_name Taken stops n = go n.under_way
  where
    go : (w : Option Act) → (powered Taken stops (record n { under_way = w })).name ≡ n.name
    go None = refl
    go (Some act) = acted_name act (record n { under_way = Some act })

pub ready_name : (o : Outturn) (stops : ℕ) (e : Service) (n : Node) → (ready_node o stops e n).name ≡ n.name
ready_name o stops e n = go (powers e)
  where
    go : (b : Bool) → (if b then with_unknown_volume (spoils e) (powered o stops n) else n).name ≡ n.name
    go true = spoilt_name (spoils e) (powered o stops n) ∙ powered_name o stops n
    go false = refl

effect_name : (s : Shared) (stops : ℕ) (n : Node) (e : Service) (c : Choice) → (service_effect s stops n e c).node.name ≡ n.name
effect_name s stops n e (Whole o) = go (refused_before_reading s n e)
  where
    late : (q : Option Line) → (begun s (ready_node o stops e n) e q).node.name ≡ n.name
    late (Some refusal) = ready_name o stops e n
    late None = act_name e.closing (node_after_rows (e.rows s (ready_node o stops e n)) (ready_node o stops e n)) ∙ rows_name (e.rows s (ready_node o stops e n)) (ready_node o stops e n) ∙ ready_name o stops e n

    go : (q : Option Line) → (whole s n (ready_node o stops e n) e q).node.name ≡ n.name
    go (Some refusal) = refl
    go None = late (e.refused_after_reading s (ready_node o stops e n))
effect_name s stops n e WithoutMemory = refl
effect_name s stops n e Unpowered = spoilt_name (spoils e) (unpowered stops n)
effect_name s stops n e (Cut o k b cause) = let m = ready_node o stops e n in rows_name (take k (rows_to_cut s m e)) m ∙ ready_name o stops e n

-- nodes keep their names
pub acts_name : (s : Shared) (stops : ℕ) (n : Node) (t : Task) (c : Choice) → (task_effect s stops n t c).node.name ≡ n.name
acts_name s stops n t c = effect_name s stops n (task_service t) c

module _ (w : World) (h : AreKeptNodes w) where
  -- a task of a node of this name
  put_kept : (node : List ℕ) (t : Task) (c : Choice) (rises : Cause → Type 0) (n : Node) → find_node node w.nodes ≡ Some n → TaskAllowed w.shared (stops_at node w) n t rises c → AreKeptNodes (put_into w node (task_effect w.shared (stops_at node w) n t c)).world
  put_kept node t c rises n found a other m e = go (bytes_eq node other) refl e
    where
      go : (b : Bool) → bytes_eq node other ≡ b → find_node other (with_node node (λ x. (task_effect w.shared (stops_at node w) n t c).node) w.nodes) ≡ Some m → IsKeptNode (task_effect w.shared (stops_at node w) n t c).shared m
      go true b k =
          let same = (bytes_eq-Decides node other).0 b in
          let is : Some (task_effect w.shared (stops_at node w) n t c).node ≡ Some m = sym (replaced_node node (task_effect w.shared (stops_at node w) n t c).node w.nodes n found (acts_name w.shared (stops_at node w) n t c)) ∙ subst (λ y. find_node y (with_node node (λ x. (task_effect w.shared (stops_at node w) n t c).node) w.nodes) ≡ Some m) (sym same) k in
          subst (IsKeptNode (task_effect w.shared (stops_at node w) n t c).shared) (some_is (task_effect w.shared (stops_at node w) n t c).node m is) (task_kept w.shared (stops_at node w) n (h node n found) t c rises a)
      go false b k =
          kept_sharing w.shared (task_effect w.shared (stops_at node w) n t c).shared m (use_before w.shared (stops_at node w) n (task_service t) c)
          (h other m (sym (beside_node node other (task_effect w.shared (stops_at node w) n t c).node w.nodes n found (acts_name w.shared (stops_at node w) n t c) b) ∙ k))

  done_kept : (node : List ℕ) (t : Task) (c : Choice) (after : List DiskCounts) → AllowedAt w node t after c → AreKeptNodes (done_at w node t c).world
  done_kept node t c after a = go (find_node node w.nodes) refl a
    where
      go : (o : Option Node) → find_node node w.nodes ≡ o → (elim o as (λ x. Type 0) [ Some n ↦ TaskAllowed w.shared (stops_at node w) n t (λ cause. RoseAt w node cause after) c | None ↦ Unit {0} ]) →
          AreKeptNodes (let e : PartEffect = elim o [ Some n ↦ put_into w node (task_effect w.shared (stops_at node w) n t c) | None ↦ no_node w ] in e.world)
      go (Some n) found k = put_kept node t c (λ cause. RoseAt w node cause after) n found k
      go None found k = h

  question_kept : (q : Question) (c : Choice) (after : List DiskCounts) → AllowedOf w after c q → AreKeptNodes (question_effect w c q).world
  question_kept (Heard m) c after a = done_kept m.to (Hears m) c after a
  question_kept Unanswered c after a = h
  question_kept (Doubtful k) c after a = h

  pub part_kept : (p : Part) (c : Choice) (after : List DiskCounts) → Allowed w p after c → AreKeptNodes (part_effect w p c).world
  part_kept (Does node t) c after a = done_kept node t c after a
  part_kept (Asks node serial) c after a = question_kept (question w node serial) c after a

parts_kept : (ps : List Part) (after : List DiskCounts) (more : World → Line → List Line → Line → World → Type 0) → ((w : World) (given : Line) (lines : List Line) (answer : Line) (v : World) → AreKeptNodes w → more w given lines answer v → AreKeptNodes v) →
    (w : World) (given : Line) (lines : List Line) (answer : Line) (v : World) → AreKeptNodes w → Parts ps after more w given lines answer v → AreKeptNodes v
parts_kept [] after more f w given lines answer v h d = f w given lines answer v h d
parts_kept (p ∷ ps) after more f w given lines answer v h d = go (part_effect w p d.0) (part_kept w h p d.0 after d.1) d.2 (λ u g ls k q. parts_kept ps after more f u g ls answer v k q)
  where
    go : (e : PartEffect) → AreKeptNodes e.world → Then e (Parts ps after more) lines answer v → ((u : World) (g : Line) (ls : List Line) → AreKeptNodes u → Parts ps after more u g ls answer v → AreKeptNodes v) → AreKeptNodes v
    go e k t rest = ended e.ends t
      where
        ended : (b : Bool) → (elim b as (λ x. Type 0) [
          | true ↦ (lines ≡ e.lines) × (answer ≡ e.answer) × (v ≡ e.world)
          | false ↦ (rest : List Line) × (lines ≡ e.lines ++ rest) × Parts ps after more e.world e.answer rest answer v
        ]) → AreKeptNodes v
        ended true q = subst AreKeptNodes (sym q.2) k
        ended false q = rest e.world e.answer q.0 k q.2

phases_kept : (ps : List Phase) (after : List DiskCounts) (w : World) (given : Line) (lines : List Line) (answer : Line) (v : World) → AreKeptNodes w → Phases ps after w given lines answer v → AreKeptNodes v
phases_kept [] after w given lines answer v h d = subst AreKeptNodes (sym d.2) h
phases_kept (p ∷ ps) after w given lines answer v h d = parts_kept (p w) after (Phases ps after) (λ u g ls a x k q. phases_kept ps after u g ls a x k q) w given lines answer v h d

pub begun_kept : (s : Statement) (w : World) → AreKeptNodes w → AreKeptNodes (begun_with s w)
begun_kept Settle w h = λ node n found. kept_sharing w.shared (record w.shared { in_use = true }) n (λ e. let none : ⊥ = cc in absurd none) (h node n found)
begun_kept (At node request) w h = h
begun_kept (Deliver number) w h = h
begun_kept (LinkDown a b) w h = h

pub step_kept : (w : World) (s : Statement) (lines : List Line) (new : World) → AreKeptNodes w → Step w s lines new → AreKeptNodes new
step_kept w s lines new h d = subst AreKeptNodes (sym d.goes) (go (refused_at_once w s) d.does)
  where
    go : (o : Option Line) → Begins o (Phases (phases_of s) new.disks (begun_with s w) Normal) w d.events d.answer d.world → AreKeptNodes d.world
    go (Some refusal) q = subst AreKeptNodes (sym q.2) h
    go None q = phases_kept (phases_of s) new.disks (begun_with s w) Normal d.events d.answer d.world (begun_kept s w h) q

pub turn_kept : (w : World) (r : Reading) (lines : List Line) (new : World) → AreKeptNodes w → Turn w r lines new → AreKeptNodes new
turn_kept w Blank lines new h t = subst AreKeptNodes (sym t.1) h
turn_kept w (Says s) lines new h t = step_kept w s lines new h t
turn_kept w (Bad column) lines new h t = absurd t

pub legal_kept : (opening : World) (es : List Entry) (w : World) → AreKeptNodes opening → Legal opening es w → AreKeptNodes w
legal_kept opening [] w h l = subst AreKeptNodes (sym l) h
legal_kept opening (e ∷ es) w h l = turn_kept l.0 (reading e.source.text) e.lines w (legal_kept opening es l.0 h l.1) l.2
