-- What nodes do one after another is a step of their world.
use Rattle.std.specs.Prelude.{slice_get, slice_set}
use Rattle.std.proofs.Common.{◌≡◌, ℕ, List, [], ◌∷◌, ◌++◌, Bool, true, false, Some, None, refl, sym, ◌∙◌, ap, subst}
use Rattle.std.specs.Str.{bytes_eq}
use Rattle.block_disk.specs.Disk.{CallLog}
use Rattle.emitter_model.specs.transcript_model.Lines as line
use Rattle.emitter_model.specs.transcript_model.Lines.{Line, Normal}
use Rattle.emitter_model.specs.Emitting.{Emits, Shown}
use Rattle.emitter_model.proofs.EmittingLemmas.{emits_nothing, emits_on}
use Rattle.script_lang.specs.script_model.Statements.{At, Boot, Clock, Deliver, LinkDown, Request, Statement}
use Rattle.emitter_model.specs.commit_protocol.Messages.{Message}
use Rattle.said_steps.specs.run_model.World.{DiskCounts, Node, Sound, Unknown, World, disk_of, find_node}
use Rattle.said_steps.specs.run_model.Answers.{LosesLink, Serves, Takes, Task, Ticks, powers, task_service}
use Rattle.said_steps.specs.run_model.Operations.{refused_if}
use Rattle.said_steps.specs.run_model.Statements.{Does, Part, message_at, other_node, refused_at_once, where_up}
use Rattle.said_steps.proofs.run_model.NodeLists.{some_is}
use Rattle.dtm_node.specs.run_shared.Sharing.{SharedState}
use Rattle.dtm_node.specs.node_standing.Keeping.{IsPromised, Performs, PerformsRequest, PerformsTask}
use Rattle.dtm_node.specs.node_standing.Standing.{IsDown, IsRunning, NodeState, Place, PlaceRepresents, RepresentsNode, counts_of, disk_in, is_up}
use Rattle.statement_steps.specs.Doing.{AllKept, DoesParts, IsPlain, IsWithin, as_begun, moved}
use Rattle.statement_steps.specs.TheLaws.{StaysWithin}
use Rattle.statement_steps.proofs.Keeping.{kept_at, within_begun}
use Rattle.statement_steps.proofs.OneParts.{does_task, step_on}
use Rattle.statement_steps.proofs.Phasing.{phase_last, phase_on, step_of_phases, up_there}
use Rattle.statement_steps.proofs.Stepping.{delivery_step, down_does, link_step, link_there, request_step, request_there, told_at_once}
use Rattle.statement_steps.proofs.Walking.{does_none}
use Rattle.run_nodes.specs.Names.{AreApart}
use Rattle.run_nodes.specs.Tasks.{DoesIfUp, DoesTask}
use Rattle.run_nodes.specs.Together.{ServesTogether, StandsTogether}
use Rattle.run_nodes.specs.Untold.{BootsUnknown}
use Rattle.run_nodes.specs.Told.{kept_names}
use Rattle.run_nodes.proofs.Places.{StandsAt, disk_found, found, get_map, it, kept_at_place, names_set, together_put, world_apart}

-- a node is up where what is kept of it is
pub stands_up : (log : CallLog) (k : NodeState) (n : Node) → RepresentsNode log k n → n.up ≡ is_up k.place
stands_up log k n h = by k.place h.place
  where
    by : (p : Place) → PlaceRepresents k.clock p n → n.up ≡ is_up p
    by (IsDown has_parts d) s = s.down
    by (IsRunning r) s = s.stands.up

-- of the disk of one that is up something is known
pub up_known : (log : CallLog) (k : NodeState) (n : Node) → RepresentsNode log k n → n.up ≡ true → n.durable.volume ≡ Unknown → ⊥
up_known log k n h up = by k.place h.place
  where
    by : (p : Place) → PlaceRepresents k.clock p n → n.durable.volume ≡ Unknown → ⊥
    by (IsDown has_parts d) s unknown = let no : true ≡ false = sym up ∙ s.down in let none : ⊥ = cc in none
    by (IsRunning r) s unknown = let no : Sound ≡ Unknown = sym s.stands.kept.has.home.volume ∙ unknown in let none : ⊥ = cc in none

-- A BOOT is promised but where nothing is known of the disk and the last INIT did not fail.
pub promised : (w : World) (name : List ℕ) (request : Request) (n : Node) → find_node name w.nodes ≡ Some n → (n.up ≡ true → n.durable.volume ≡ Unknown → ⊥) → (BootsUnknown w (At name request) → ⊥) → IsPromised (Serves request) n
promised w name Boot n there up never = by n.up refl
  where
    by : (b : Bool) → n.up ≡ b → IsPromised (Serves Boot) n
    by true e = λ unknown. absurd (up e unknown)
    by false e = λ unknown. go n.unmade refl unknown
      where
        go : (b : Bool) → n.unmade ≡ b → n.durable.volume ≡ Unknown → n.unmade ≡ true
        go true m unknown = m
        go false m unknown = absurd (never (n, there, record { down = e; unknown = unknown; made = m }))
promised w name _ n there up never = tt

-- A statement that is refused at once.
pub refused_serves : (logs : List CallLog) (ks : List NodeState) (s : SharedState) (w : World) (st : Statement) (refusal : Line) (a b : Shown) → StandsTogether logs ks s w → refused_at_once w st ≡ Some refusal → Emits a (refusal ∷ []) b → ServesTogether logs w st a b ks s
refused_serves logs ks s w st refusal a b h e m = record { lines = refusal ∷ []; world = w; step = told_at_once w st refusal e; emits = m; stands = h }

module _ (logs : List CallLog) (ks : List NodeState) (s : SharedState) (w : World) (h : StandsTogether logs ks s w) (apart : AreApart (kept_names ks)) (kept : AllKept w.shared w.nodes) (place : ℕ) (k : NodeState) (e : slice_get ks place ≡ Some k) where
  abbrev node_there : Node
  node_there = (it logs ks s w h apart place k e).node

  -- what a task comes to at the node there
  pub performed : (task : Task) (answers ends : Bool) (a b : Shown) (l : NodeState) (t : SharedState) → PerformsTask task answers ends k s a b l t → IsPromised task node_there →
      Performs (it logs ks s w h apart place k e).log w.shared node_there (counts_of (disk_in k.place)) task answers ends a b l t
  performed task answers ends a b l t p may = p (it logs ks s w h apart place k e).log node_there w.shared (it logs ks s w h apart place k e).stands h.shared (kept_at w.shared w.nodes place node_there kept (it logs ks s w h apart place k e).at) may

  request_at : (request : Request) (a b : Shown) (l : NodeState) (t : SharedState) (ends : Bool) → ((now : ℕ) → request ≡ Clock now → ⊥) → other_node w request ≡ None →
      Performs (it logs ks s w h apart place k e).log w.shared node_there (counts_of (disk_in k.place)) (Serves request) true ends a b l t → ServesTogether logs w (At k.name request) a b (slice_set ks place l) t
  request_at request a b l t ends not_clock other p = record {
    lines = p.lines ++ p.answer ∷ [];
    world = moved w k.name p.node (counts_of (disk_in l.place)) p.shared;
    step = request_step w k.name request node_there p.node (counts_of (disk_in k.place)) (counts_of (disk_in l.place)) p.lines p.answer ends p.shared not_clock other (found logs ks s w h apart place k e) (disk_found logs ks s w h apart place k e) p.step;
    emits = p.emits;
    stands = together_put logs ks s w h apart place k e l p.node t p.shared p.stands p.alike;
  }

  -- A request, but for that of a clock.
  pub request_serves : (request : Request) (a b : Shown) (l : NodeState) (t : SharedState) → ((now : ℕ) → request ≡ Clock now → ⊥) → other_node w request ≡ None → (BootsUnknown w (At k.name request) → ⊥) →
      PerformsRequest request k s a b l t → ServesTogether logs w (At k.name request) a b (slice_set ks place l) t
  request_serves request a b l t not_clock other never p =
      let x = p (it logs ks s w h apart place k e).log node_there w.shared (it logs ks s w h apart place k e).stands h.shared (kept_at w.shared w.nodes place node_there kept (it logs ks s w h apart place k e).at)
      (promised w k.name request node_there (found logs ks s w h apart place k e) (up_known (it logs ks s w h apart place k e).log k node_there (it logs ks s w h apart place k e).stands) never) in
      request_at request a b l t x.0 not_clock other x.1

  -- A delivery: the statement ends with it,
  pub delivery_over : (number : ℕ) (m : Message) (a b : Shown) (l : NodeState) (t : SharedState) → message_at number w.shared.wire ≡ Some m → m.to ≡ k.name → PerformsTask (Takes m) true true k s a b l t → ServesTogether logs w (Deliver number) a b (slice_set ks place l) t
  delivery_over number m a b l t there to task =
      let p = performed (Takes m) true true a b l t task tt in
      record {
        lines = p.lines ++ p.answer ∷ [];
        world = moved w m.to p.node (counts_of (disk_in l.place)) p.shared;
        step = delivery_step w number m node_there p.node (counts_of (disk_in k.place)) (counts_of (disk_in l.place)) p.lines p.answer true p.shared there (subst (λ x. find_node x w.nodes ≡ Some node_there) (sym to) (found logs ks s w h apart place k e)) (subst (λ x. disk_of x w.nodes w.disks ≡ Some (counts_of (disk_in k.place))) (sym to) (disk_found logs ks s w h apart place k e)) p.step;
        emits = p.emits;
        stands = subst (λ x. StandsTogether logs (slice_set ks place l) t (moved w x p.node (counts_of (disk_in l.place)) p.shared)) (sym to) (together_put logs ks s w h apart place k e l p.node t p.shared p.stands p.alike);
      }

  -- or goes on and succeeds.
  pub delivery_on : (number : ℕ) (m : Message) (a b c : Shown) (l : NodeState) (t : SharedState) → message_at number w.shared.wire ≡ Some m → m.to ≡ k.name → PerformsTask (Takes m) false false k s a b l t → Emits b (Normal ∷ []) c → ServesTogether logs w (Deliver number) a c (slice_set ks place l) t
  delivery_on number m a b c l t there to task emits =
      let p = performed (Takes m) false false a b l t task tt in
      let normal : p.answer ≡ Normal = step_on w.shared node_there (counts_of (disk_in k.place)) (Takes m) p.lines p.answer false p.node p.shared (counts_of (disk_in l.place)) (λ x y. refl) p.step refl in
      record {
        lines = p.lines ++ p.answer ∷ [];
        world = moved w m.to p.node (counts_of (disk_in l.place)) p.shared;
        step = delivery_step w number m node_there p.node (counts_of (disk_in k.place)) (counts_of (disk_in l.place)) p.lines p.answer false p.shared there (subst (λ x. find_node x w.nodes ≡ Some node_there) (sym to) (found logs ks s w h apart place k e)) (subst (λ x. disk_of x w.nodes w.disks ≡ Some (counts_of (disk_in k.place))) (sym to) (disk_found logs ks s w h apart place k e)) p.step;
        emits = subst (λ (x : Line). Emits a (p.lines ++ x ∷ []) c) (sym normal) (emits_on a b c p.lines (Normal ∷ []) p.emits emits);
        stands = subst (λ x. StandsTogether logs (slice_set ks place l) t (moved w x p.node (counts_of (disk_in l.place)) p.shared)) (sym to) (together_put logs ks s w h apart place k e l p.node t p.shared p.stands p.alike);
      }

-- Parts of a statement that began with these counts: they were done from a world of the kept nodes on, which shows these lines and leads to one again.
pub record Went (logs : List CallLog) (begun : List DiskCounts) (ps : List Part) (v : World) (a b : Shown) (ls : List NodeState) (t : SharedState) : Type 0 where
  pub lines : List Line
  pub world : World
  pub does : DoesParts begun ps v false lines Normal world
  pub emits : Emits a lines b
  pub stands : StandsTogether logs ls t world
  pub within : IsWithin begun world

pub went_none : (logs : List CallLog) (begun : List DiskCounts) (v : World) (a : Shown) (ks : List NodeState) (s : SharedState) → StandsTogether logs ks s v → IsWithin begun v → Went logs begun [] v a a ks s
went_none logs begun v a ks s h within = record { lines = []; world = v; does = does_none begun v; emits = emits_nothing a; stands = h; within = within }

-- One task, whose success is Normal, behind which the statement goes on.
pub performs_went : StaysWithin → (logs : List CallLog) (begun : List DiskCounts) (v : World) (place : ℕ) (task : Task) (ks : List NodeState) (s : SharedState) (a b : Shown) (k l : NodeState) (t : SharedState) → StandsTogether logs ks s v → AreApart (kept_names ks) → IsWithin begun v → IsPlain task → powers (task_service task) ≡ false →
    slice_get ks place ≡ Some k → PerformsTask task false false k s a b l t → ((n : Node) → slice_get v.nodes place ≡ Some n → IsPromised task n) → Went logs begun (Does k.name task ∷ []) v a b (slice_set ks place l) t
performs_went stays logs begun v place task ks s a b k l t h apart within plain unpowered e performs may =
    let i = it logs ks s v h apart place k e in
    let p = performed logs ks s v h apart within.kept place k e task false false a b l t performs (may i.node i.at) in
    let old = counts_of (disk_in k.place) in
    let new = counts_of (disk_in l.place) in
    let there = found logs ks s v h apart place k e in
    let disk = disk_found logs ks s v h apart place k e in
    let normal : p.answer ≡ Normal = step_on v.shared i.node old task p.lines p.answer false p.node p.shared new plain p.step refl in
    record {
      lines = p.lines;
      world = moved v k.name p.node new p.shared;
      does = subst (λ (x : Line). DoesParts begun (Does k.name task ∷ []) v false p.lines x (moved v k.name p.node new p.shared)) normal
          (does_task begun v (Does k.name task) k.name task i.node p.node old new p.lines p.answer false p.shared within.falls refl plain there disk (λ f. let no : true ≡ false = sym f ∙ unpowered in let none : ⊥ = cc in absurd none) p.step);
      emits = p.emits;
      stands = together_put logs ks s v h apart place k e l p.node t p.shared p.stands p.alike;
      within = stays begun v k.name i.node p.node old new task p.lines p.answer false p.shared within there disk p.step;
    }

pub task_went : StaysWithin → (logs : List CallLog) (begun : List DiskCounts) (v : World) (place : ℕ) (task : Task) (ks : List NodeState) (s : SharedState) (a b : Shown) (ls : List NodeState) (t : SharedState) → StandsTogether logs ks s v → AreApart (kept_names ks) → IsWithin begun v → IsPlain task → powers (task_service task) ≡ false →
    (d : DoesTask place task false false ks s a b ls t) → ((n : Node) → slice_get v.nodes place ≡ Some n → IsPromised task n) → Went logs begun (Does d.old.name task ∷ []) v a b ls t
task_went stays logs begun v place task ks s a b ls t h apart within plain unpowered d may =
    subst (λ ms. Went logs begun (Does d.old.name task ∷ []) v a b ms t) (sym d.put)
    (performs_went stays logs begun v place task ks s a b d.old d.new t h apart within plain unpowered d.here d.performs may)

-- likewise where the node is up
pub if_up_went : StaysWithin → (logs : List CallLog) (begun : List DiskCounts) (v : World) (place : ℕ) (task : Task) (ks : List NodeState) (s : SharedState) (a b : Shown) (ls : List NodeState) (t : SharedState) → StandsTogether logs ks s v → AreApart (kept_names ks) → IsWithin begun v → IsPlain task → powers (task_service task) ≡ false →
    ((n : Node) → IsPromised task n) → (d : DoesIfUp place task ks s a b ls t) → Went logs begun (where_up d.kept.name task (as_begun begun v)) v a b ls t
if_up_went stays logs begun v place task ks s a b ls t h apart within plain unpowered may d = by (is_up d.kept.place) refl
  where
    i : StandsAt logs v.nodes place d.kept
    i = it logs ks s v h apart place d.kept d.there

    here : find_node d.kept.name v.nodes ≡ Some i.node
    here = found logs ks s v h apart place d.kept d.there

    by : (up : Bool) → is_up d.kept.place ≡ up → Went logs begun (where_up d.kept.name task (as_begun begun v)) v a b ls t
    by true e =
        let x = d.up e in
        let same : x.old ≡ d.kept = (let both : Some x.old ≡ Some d.kept = sym x.here ∙ d.there in cc) in
        let g = task_went stays logs begun v place task ks s a b ls t h apart within plain unpowered x (λ n at. may n) in
        let up : i.node.up ≡ true = stands_up i.log d.kept i.node i.stands ∙ e in
        record {
          lines = g.lines;
          world = g.world;
          does = subst (λ ps. DoesParts begun ps v false g.lines Normal g.world) (ap (λ (y : NodeState). Does y.name task ∷ []) same ∙ sym (up_there (as_begun begun v) d.kept.name task i.node here up)) g.does;
          emits = g.emits;
          stands = g.stands;
          within = g.within;
        }
    by false e =
        let x = d.down e in
        let down : i.node.up ≡ false = stands_up i.log d.kept i.node i.stands ∙ e in
        record {
          lines = [];
          world = v;
          does = down_does begun v d.kept.name task i.node here down;
          emits = subst (λ y. Emits a [] y) (sym x.2) (emits_nothing a);
          stands = subst (λ y. StandsTogether logs y t v) (sym x.0) (subst (λ y. StandsTogether logs ks y v) (sym x.1) h);
          within = within;
        }

-- names stay where a node does something
pub task_names : (place : ℕ) (task : Task) (answers ends : Bool) (ks : List NodeState) (s : SharedState) (a b : Shown) (ls : List NodeState) (t : SharedState) → DoesTask place task answers ends ks s a b ls t → kept_names ls ≡ kept_names ks
task_names place task answers ends ks s a b ls t d = ap kept_names d.put ∙ names_set ks place d.old d.new d.here d.named

pub if_up_names : (place : ℕ) (task : Task) (ks : List NodeState) (s : SharedState) (a b : Shown) (ls : List NodeState) (t : SharedState) → DoesIfUp place task ks s a b ls t → kept_names ls ≡ kept_names ks
if_up_names place task ks s a b ls t d = by (is_up d.kept.place) refl
  where
    by : (up : Bool) → is_up d.kept.place ≡ up → kept_names ls ≡ kept_names ks
    by true e = task_names place task false false ks s a b ls t (d.up e)
    by false e = ap kept_names (d.down e).0

pub named_so : (ks : List NodeState) (place : ℕ) (k : NodeState) (name : List ℕ) → slice_get ks place ≡ Some k → slice_get (kept_names ks) place ≡ Some name → k.name ≡ name
named_so ks place k name e f = some_is k.name name (sym (get_map (λ (x : NodeState). x.name) ks place k e) ∙ f)

-- A link that fails.
pub link_serves : StaysWithin → (logs : List CallLog) (ks : List NodeState) (s : SharedState) (w : World) → StandsTogether logs ks s w → AreApart (kept_names ks) → AllKept w.shared w.nodes → (one other : List ℕ) (p q : ℕ) → slice_get (kept_names ks) p ≡ Some one → slice_get (kept_names ks) q ≡ Some other →
    bytes_eq one other ≡ false → (a x b c : Shown) (ms : List NodeState) (u : SharedState) (ls : List NodeState) (t : SharedState) → DoesIfUp p (LosesLink other) ks s a x ms u → DoesIfUp q (LosesLink one) ms u x b ls t → Emits b (Normal ∷ []) c → ServesTogether logs w (LinkDown one other) a c ls t
link_serves stays logs ks s w h apart kept one other p q np nq differ a x b c ms u ls t d f emits =
    let within = within_begun (LinkDown one other) w (world_apart logs ks s w h apart) kept in
    let names = if_up_names p (LosesLink other) ks s a x ms u d in
    let g = if_up_went stays logs w.disks w p (LosesLink other) ks s a x ms u h apart within (λ y z. refl) refl (λ n. tt) d in
    let j = if_up_went stays logs w.disks g.world q (LosesLink one) ms u x b ls t g.stands (subst AreApart (sym names) apart) g.within (λ y z. refl) refl (λ n. tt) f in
    let first : d.kept.name ≡ one = named_so ks p d.kept one d.there np in
    let second : f.kept.name ≡ other = named_so ms q f.kept other f.there (ap (λ ns. slice_get ns q) names ∙ nq) in
    let k = kept_at_place ks q other nq in
    let there : find_node one w.nodes ≡ Some (it logs ks s w h apart p d.kept d.there).node = subst (λ y. find_node y w.nodes ≡ Some (it logs ks s w h apart p d.kept d.there).node) first (found logs ks s w h apart p d.kept d.there) in
    let also : find_node other w.nodes ≡ Some (it logs ks s w h apart q k.kept k.here).node = subst (λ y. find_node y w.nodes ≡ Some (it logs ks s w h apart q k.kept k.here).node) k.named (found logs ks s w h apart q k.kept k.here) in
    record {
      lines = (g.lines ++ j.lines) ++ Normal ∷ [];
      world = j.world;
      step = link_step w g.world j.world one other g.lines j.lines
          (link_there w one other (it logs ks s w h apart p d.kept d.there).node (it logs ks s w h apart q k.kept k.here).node there also ∙ ap (λ (b : Bool). refused_if b line.BadParameter) differ)
          (subst (λ y. DoesParts w.disks (where_up y (LosesLink other) (as_begun w.disks w)) w false g.lines Normal g.world) first g.does)
          (subst (λ y. DoesParts w.disks (where_up y (LosesLink one) (as_begun w.disks g.world)) g.world false j.lines Normal j.world) second j.does);
      emits = emits_on a b c (g.lines ++ j.lines) (Normal ∷ []) (emits_on a x b g.lines j.lines g.emits j.emits) emits;
      stands = j.stands;
    }

-- A clock that is set: the node aborts what is due then, where it is up.
pub clock_serves : StaysWithin → (logs : List CallLog) (ks : List NodeState) (s : SharedState) (w : World) → StandsTogether logs ks s w → AreApart (kept_names ks) → AllKept w.shared w.nodes → (place : ℕ) (k l : NodeState) → slice_get ks place ≡ Some k → l.name ≡ k.name → (now : ℕ) (a b c : Shown) →
    PerformsTask (Serves (Clock now)) false false k s a a l s → (ls : List NodeState) (t : SharedState) → DoesIfUp place Ticks (slice_set ks place l) s a b ls t → Emits b (Normal ∷ []) c → ServesTogether logs w (At k.name (Clock now)) a c ls t
clock_serves stays logs ks s w h apart kept place k l e same now a b c performs ls t d emits =
    let within = within_begun (At k.name (Clock now)) w (world_apart logs ks s w h apart) kept in
    let ms = slice_set ks place l in
    let names = names_set ks place k l e same in
    let g = performs_went stays logs w.disks w place (Serves (Clock now)) ks s a a k l s h apart within (λ y z. refl) refl e performs (λ n at. tt) in
    let j = if_up_went stays logs w.disks g.world place Ticks ms s a b ls t g.stands (subst AreApart (sym names) apart) g.within (λ y z. refl) refl (λ n. tt) d in
    let named : d.kept.name ≡ k.name = named_so ms place d.kept k.name d.there (ap (λ ns. slice_get ns place) names ∙ get_map (λ (x : NodeState). x.name) ks place k e) in
    record {
      lines = (g.lines ++ j.lines) ++ Normal ∷ [];
      world = j.world;
      step = step_of_phases w j.world (At k.name (Clock now)) false (g.lines ++ j.lines) Normal (request_there w k.name (Clock now) refl (it logs ks s w h apart place k e).node (found logs ks s w h apart place k e))
          (phase_on (λ u. Does k.name (Serves (Clock now)) ∷ []) (where_up k.name Ticks ∷ []) w.disks w g.world g.lines false j.lines Normal j.world g.does
          (phase_last (where_up k.name Ticks) w.disks g.world false j.lines Normal j.world (subst (λ y. DoesParts w.disks (where_up y Ticks (as_begun w.disks g.world)) g.world false j.lines Normal j.world) named j.does)));
      emits = emits_on a b c (g.lines ++ j.lines) (Normal ∷ []) (emits_on a a b g.lines j.lines g.emits j.emits) emits;
      stands = j.stands;
    }
