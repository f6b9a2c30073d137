-- One branch after another asks at a node, in the world of the kept nodes.
use Rattle.std.specs.Prelude.{slice_get, slice_set}
use Rattle.std.specs.Option.{option_and_then}
use Rattle.std.proofs.Common.{◌≡◌, ℕ, zero, suc, ◌+◌, ◌≤◌, List, [], ◌∷◌, ◌++◌, length, Bool, true, false, if◌then◌else◌, Option, Some, None, refl, sym, ◌∙◌, ap, subst, add-one, append_assoc, arith}
use Rattle.vms_model.specs.Ids.{Id}
use Rattle.block_disk.specs.Disk.{CallLog}
use Rattle.emitter_model.specs.commit_protocol.Agreement.{Distinct}
use Rattle.emitter_model.specs.commit_protocol.Allowed.{is_prepared}
use Rattle.emitter_model.specs.commit_protocol.Messages.{Inquire, Message}
use Rattle.emitter_model.specs.commit_protocol.Rows.{Got, row, up}
use Rattle.emitter_model.specs.commit_protocol.Table.{Branch, Tm, find_serial}
use Rattle.emitter_model.specs.transcript_model.Lines.{InDoubt}
use Rattle.emitter_model.specs.Emitting.{Emits, Shown}
use Rattle.emitter_model.proofs.EmittingLemmas.{emits_nothing, emits_on}
use Rattle.said_steps.specs.run_model.World.{Node, World, find_node, tm_of}
use Rattle.said_steps.specs.run_model.Answers.{Hears}
use Rattle.said_steps.proofs.run_model.NodeLists.{some_is}
use Rattle.said_steps.specs.run_model.Statements.{answer_in}
use Rattle.dtm_node.specs.run_shared.Sharing.{SharedState}
use Rattle.dtm_node.specs.Asking as node
use Rattle.dtm_node.specs.node_standing.Standing.{IsDown, IsRunning, NodeState, Place, PlaceRepresents, RepresentsNode, counts_of, disk_in}
use Rattle.statement_steps.specs.Doing.{IsWithin, moved}
use Rattle.statement_steps.specs.Settling.{AreUp, Asking, Through, asks_of, doubts_of, question_in, question_of}
use Rattle.statement_steps.proofs.Answering.{next_ended, next_hears, next_nobody, next_none, next_vain}
use Rattle.statement_steps.proofs.Asking.{asking_all, asking_none}
use Rattle.statement_steps.proofs.Hearing.{doubts_distinct, hears_up}
use Rattle.statement_steps.proofs.Keeping.{kept_at}
use Rattle.statement_steps.proofs.Rising.{up_at, up_put}
use Rattle.statement_steps.proofs.Places.{put_at, step_name}
use Rattle.statement_steps.proofs.Turning.{moved_behind, through_ended, through_next}
use Rattle.statement_steps.specs.TheLaws.{StaysWithin}
use Rattle.run_nodes.specs.Phases.{AskedOne, AskingAt, Ended, EndedAsking, Leaves, PartsDone, Stays}
use Rattle.run_nodes.specs.Names.{AreApart}
use Rattle.run_nodes.specs.Tasks.{DoesTask}
use Rattle.run_nodes.specs.Together.{StandsTogether}
use Rattle.run_nodes.specs.Told.{kept_names}
use Rattle.run_nodes.proofs.Places.{disk_found, disk_there, found as there_found, get_map, get_set, it, kept_at_place, together_put}
use Rattle.run_nodes.proofs.Telling.{among_there}
use Rattle.run_nodes.proofs.Doubts.{doubts_kept}
use Rattle.run_nodes.proofs.Serving.{performed}

-- What a node that is up asks and answers, by what is kept of it.
pub question_kept : (log : CallLog) (k : NodeState) (n : Node) (serial : Id) → RepresentsNode log k n → n.up ≡ true → node.question_in serial k.place ≡ question_in serial n.volatile.branches
question_kept log k n serial h up = by k.place h.place
  where
    by : (p : Place) → PlaceRepresents k.clock p n → node.question_in serial p ≡ question_in serial n.volatile.branches
    by (IsDown has_parts disk) s = let no : true ≡ false = sym up ∙ s.down in let none : ⊥ = cc in absurd none
    by (IsRunning r) s = ap (λ (t : Tm). option_and_then question_of (find_serial serial t.table)) (sym s.stands.table)

pub answer_kept : (log : CallLog) (k : NodeState) (n : Node) (m : Message) → RepresentsNode log k n → n.up ≡ true → node.answer_in_place m k.place ≡ answer_in (row (tm_of n) (Got m))
answer_kept log k n m h up = by k.place h.place
  where
    by : (p : Place) → PlaceRepresents k.clock p n → node.answer_in_place m p ≡ answer_in (row (tm_of n) (Got m))
    by (IsDown has_parts disk) s = let no : true ≡ false = sym up ∙ s.down in let none : ⊥ = cc in absurd none
    by (IsRunning r) s = ap (λ (t : Tm). answer_in (row t (Got m))) (sym s.stands.table)

-- A node begins to ask;
pub asking_begins : (logs : List CallLog) (w u : World) (place : ℕ) (a b : Shown) (ks : List NodeState) (s : SharedState) (g : PartsDone asks_of logs w u place a b ks s) → AreUp g.world.nodes → (n : Node) → slice_get g.world.nodes place ≡ Some n → AskingAt logs w g.world place n.name (doubts_of n) 0 0 b b ks s
asking_begins logs w u place a b ks s g up n at = record {
  lines = [];
  world = g.world;
  node = n;
  at = at;
  named = refl;
  asking = asking_none w.disks n.name (doubts_of n) g.world (doubts_distinct g.world.shared n (kept_at g.world.shared g.world.nodes place n g.within.kept at) (up_at g.world.nodes place n up at));
  count = omega arith;
  nodes = refl;
  disks = refl;
  stands = g.stands;
  within = g.within;
  up = up;
  emits = emits_nothing b;
}

past_end : (xs : List Id) (i : ℕ) → length xs ≤ i → slice_get xs i ≡ None
past_end [] i h = refl
past_end (x ∷ xs) zero h = absurd (omega arith)
past_end (x ∷ xs) (suc i) h = past_end xs i (omega arith)

-- as many asked as there were: none is left
pub asking_over : (logs : List CallLog) (w v : World) (place : ℕ) (name : List ℕ) (serials : List Id) (many unanswered : ℕ) (a b : Shown) (ks : List NodeState) (s : SharedState) (h : AskingAt logs w v place name serials many unanswered a b ks s) → length serials ≤ many → slice_get (doubts_of h.node) unanswered ≡ None
asking_over logs w v place name serials many unanswered a b ks s h over = past_end (doubts_of h.node) unanswered (let c = h.count in omega arith)

-- when none is left the node has done its part;
pub asking_ends : (logs : List CallLog) (w u : World) (place : ℕ) (a x b : Shown) (ms : List NodeState) (t : SharedState) (ks : List NodeState) (s : SharedState) (g : PartsDone asks_of logs w u place a x ms t) (n : Node) → slice_get g.world.nodes place ≡ Some n → (many unanswered : ℕ) → (h : AskingAt logs w g.world place n.name (doubts_of n) many unanswered x b ks s) →
    slice_get (doubts_of h.node) unanswered ≡ None → (j : PartsDone asks_of logs w u (place + 1) a b ks s) × AreUp j.world.nodes
asking_ends logs w u place a x b ms t ks s g n at many unanswered h none = (
  record {
    lines = g.lines ++ h.lines;
    world = h.world;
    through = subst (λ p. Through w.disks asks_of u p (g.lines ++ h.lines) h.world) (sym (add-one place))
        (through_next w.disks asks_of u place g.lines g.world n h.lines h.world g.through at (asking_all w.disks n.name (doubts_of n) g.world unanswered (doubts_of h.node) h.lines h.world h.asking none) h.nodes h.disks);
    stands = h.stands;
    within = h.within;
    emits = emits_on a x b g.lines h.lines g.emits h.emits;
  },
  h.up,
)

-- or the statement ended with a question of it.
pub asking_ended_at : (logs : List CallLog) (w u : World) (place : ℕ) (a x b : Shown) (ms : List NodeState) (t : SharedState) (ks : List NodeState) (s : SharedState) (g : PartsDone asks_of logs w u place a x ms t) (n : Node) → slice_get g.world.nodes place ≡ Some n → EndedAsking logs w g.world n.name (doubts_of n) x b ks s → Ended asks_of logs w u a b ks s
asking_ended_at logs w u place a x b ms t ks s g n at h = record {
  lines = g.lines ++ h.lines;
  answer = h.answer;
  world = h.world;
  does = through_ended w.disks asks_of u place g.lines g.world n h.lines h.answer h.world g.through at h.does;
  stands = h.stands;
  emits = subst (λ ls. Emits a ls b) (sym (append_assoc g.lines h.lines (h.answer ∷ []))) (emits_on a x b g.lines (h.lines ++ h.answer ∷ []) g.emits h.emits);
}

-- The node that begins to ask, and what is kept of it in doubt then and later.
pub goes_at : (logs : List CallLog) (w u : World) (place : ℕ) (a b : Shown) (ks : List NodeState) (s : SharedState) → AreApart (kept_names ks) → (g : PartsDone asks_of logs w u place a b ks s) → (k : NodeState) → slice_get ks place ≡ Some k → (n : Node) × (slice_get g.world.nodes place ≡ Some n)
goes_at logs w u place a b ks s apart g k e =
    let i = it logs ks s g.world g.stands apart place k e in
    (i.node, i.at)

pub doubts_begun : (logs : List CallLog) (w u : World) (place : ℕ) (a b : Shown) (ks : List NodeState) (s : SharedState) → AreApart (kept_names ks) → (g : PartsDone asks_of logs w u place a b ks s) → AreUp g.world.nodes → (k : NodeState) → slice_get ks place ≡ Some k → Distinct (node.in_doubt_in k.place) → (n : Node) → slice_get g.world.nodes place ≡ Some n →
    node.in_doubt_in k.place ≡ doubts_of n
doubts_begun logs w u place a b ks s apart g up k e distinct n at =
    let i = it logs ks s g.world g.stands apart place k e in
    subst (λ (m : Node). node.in_doubt_in k.place ≡ doubts_of m) (some_is i.node n (sym i.at ∙ at)) (doubts_kept i.log k i.node i.stands (up_at g.world.nodes place i.node up i.at) distinct)

pub doubts_at : (logs : List CallLog) (w v : World) (place : ℕ) (name : List ℕ) (serials : List Id) (many unanswered : ℕ) (a b : Shown) (ks : List NodeState) (s : SharedState) → AreApart (kept_names ks) → (h : AskingAt logs w v place name serials many unanswered a b ks s) → (k : NodeState) → slice_get ks place ≡ Some k → Distinct (node.in_doubt_in k.place) →
    node.in_doubt_in k.place ≡ doubts_of h.node
doubts_at logs w v place name serials many unanswered a b ks s apart h k e distinct =
    let i = it logs ks s h.world h.stands apart place k e in
    subst (λ (m : Node). node.in_doubt_in k.place ≡ doubts_of m) (some_is i.node h.node (sym i.at ∙ h.at)) (doubts_kept i.log k i.node i.stands (up_at h.world.nodes place i.node h.up i.at) distinct)

-- One that has asked is found at its number still, or it is not.
pub asked_stays : (logs : List CallLog) (w v : World) (place : ℕ) (name : List ℕ) (serials : List Id) (many unanswered : ℕ) (serial : Id) (a b : Shown) (ks : List NodeState) (s : SharedState) → AreApart (kept_names ks) → (k : NodeState) → slice_get ks place ≡ Some k → Distinct (node.in_doubt_in k.place) → slice_get (node.in_doubt_in k.place) unanswered ≡ Some serial →
    AskedOne logs w v place name serials many unanswered serial a b ks s → AskingAt logs w v place name serials (many + 1) (unanswered + 1) a b ks s
asked_stays logs w v place name serials many unanswered serial a b ks s apart k e distinct is (Stays h next) = h
asked_stays logs w v place name serials many unanswered serial a b ks s apart k e distinct is (Leaves h never) =
    absurd (never (ap (λ (xs : List Id). slice_get xs unanswered) (sym (doubts_at logs w v place name serials (many + 1) unanswered a b ks s apart h k e distinct)) ∙ is))

pub asked_leaves : (logs : List CallLog) (w v : World) (place : ℕ) (name : List ℕ) (serials : List Id) (many unanswered : ℕ) (serial : Id) (a b : Shown) (ks : List NodeState) (s : SharedState) → AreApart (kept_names ks) → (k : NodeState) → slice_get ks place ≡ Some k → Distinct (node.in_doubt_in k.place) → (slice_get (node.in_doubt_in k.place) unanswered ≡ Some serial → ⊥) →
    AskedOne logs w v place name serials many unanswered serial a b ks s → AskingAt logs w v place name serials (many + 1) unanswered a b ks s
asked_leaves logs w v place name serials many unanswered serial a b ks s apart k e distinct never (Stays h next) =
    absurd (never (ap (λ (xs : List Id). slice_get xs unanswered) (doubts_at logs w v place name serials (many + 1) (unanswered + 1) a b ks s apart h k e distinct) ∙ next))
asked_leaves logs w v place name serials many unanswered serial a b ks s apart k e distinct never (Leaves h gone) = h

-- What is asked is a question.
pub asks_inquire : (serial : Id) (p : Place) (m : Message) → node.question_in serial p ≡ Some m → m.kind ≡ Inquire
asks_inquire serial (IsDown has_parts disk) m e = let none : ⊥ = cc in absurd none
asks_inquire serial (IsRunning r) m e = by (find_serial serial r.tm.table) e
  where
    of : (b : Branch) (t : Bool) → ◌≡◌ {A = Option Message} (if t then Some (up Inquire b.key) else None) (Some m) → m.kind ≡ Inquire
    of b true f = ap (λ (x : Message). x.kind) (sym (some_is (up Inquire b.key) m f))
    of b false f = let none : ⊥ = cc in absurd none

    by : (o : Option Branch) → option_and_then question_of o ≡ Some m → m.kind ≡ Inquire
    by None f = let none : ⊥ = cc in absurd none
    by (Some b) f = of b (is_prepared b.state) f

-- The next one asks nobody.
pub asked_none : (logs : List CallLog) (w v : World) (place : ℕ) (name : List ℕ) (serials : List Id) (many unanswered : ℕ) (serial : Id) (a b : Shown) (ks : List NodeState) (s : SharedState) (h : AskingAt logs w v place name serials many unanswered a b ks s) → slice_get (doubts_of h.node) unanswered ≡ Some serial →
    question_in serial h.node.volatile.branches ≡ None → AskedOne logs w v place name serials many unanswered serial a b ks s
asked_none logs w v place name serials many unanswered serial a b ks s h next e =
    Stays (record {
      lines = h.lines;
      world = h.world;
      node = h.node;
      at = h.at;
      named = h.named;
      asking = next_none w.disks name serials v unanswered h.lines h.world place h.node serial h.asking h.named h.within h.up h.at next e;
      count = (let c = h.count in omega arith);
      nodes = h.nodes;
      disks = h.disks;
      stands = h.stands;
      within = h.within;
      up = h.up;
      emits = h.emits;
    }) next

-- It asks one that does not answer.
pub asked_vain : (logs : List CallLog) (w v : World) (place : ℕ) (name : List ℕ) (serials : List Id) (many unanswered : ℕ) (serial : Id) (a b : Shown) (ks : List NodeState) (s : SharedState) (h : AskingAt logs w v place name serials many unanswered a b ks s) → slice_get (doubts_of h.node) unanswered ≡ Some serial →
    (q : Message) (c : Node) → question_in serial h.node.volatile.branches ≡ Some q → find_node q.to h.world.nodes ≡ Some c → answer_in (row (tm_of c) (Got q)) ≡ None → AskedOne logs w v place name serials many unanswered serial a b ks s
asked_vain logs w v place name serials many unanswered serial a b ks s h next q c e found answer =
    Stays (record {
      lines = h.lines;
      world = h.world;
      node = h.node;
      at = h.at;
      named = h.named;
      asking = next_vain w.disks name serials v unanswered h.lines h.world place h.node serial h.asking h.named h.within h.up h.at next q c e found answer;
      count = (let d = h.count in omega arith);
      nodes = h.nodes;
      disks = h.disks;
      stands = h.stands;
      within = h.within;
      up = h.up;
      emits = h.emits;
    }) next

-- Its coordinator is not there.
pub ended_nobody : (logs : List CallLog) (w v : World) (place : ℕ) (name : List ℕ) (serials : List Id) (many unanswered : ℕ) (serial : Id) (a x b : Shown) (ks : List NodeState) (s : SharedState) (h : AskingAt logs w v place name serials many unanswered a x ks s) → slice_get (doubts_of h.node) unanswered ≡ Some serial →
    (q : Message) → question_in serial h.node.volatile.branches ≡ Some q → find_node q.to h.world.nodes ≡ None → Emits x (InDoubt serial q.to ∷ []) b → EndedAsking logs w v name serials a b ks s
ended_nobody logs w v place name serials many unanswered serial a x b ks s h next q e none emits = record {
  lines = h.lines;
  answer = InDoubt serial q.to;
  world = h.world;
  does = next_nobody w.disks name serials v unanswered h.lines h.world place h.node serial h.asking h.named h.within h.up h.at next q e none;
  stands = h.stands;
  emits = emits_on a x b h.lines (InDoubt serial q.to ∷ []) h.emits emits;
}

-- It hears the answer, and is in doubt no more.
pub asked_hears : StaysWithin → (logs : List CallLog) (w v : World) (place : ℕ) (name : List ℕ) (serials : List Id) (many unanswered : ℕ) (serial : Id) (a x b : Shown) (ks : List NodeState) (s : SharedState) (ls : List NodeState) (t : SharedState) → AreApart (kept_names ks) → (h : AskingAt logs w v place name serials many unanswered a x ks s) →
    slice_get (doubts_of h.node) unanswered ≡ Some serial → (q : Message) (c : Node) (m : Message) → question_in serial h.node.volatile.branches ≡ Some q → find_node q.to h.world.nodes ≡ Some c → answer_in (row (tm_of c) (Got q)) ≡ Some m → DoesTask place (Hears m) false false ks s x b ls t →
    AskedOne logs w v place name serials many unanswered serial a b ls t
asked_hears stays logs w v place name serials many unanswered serial a x b ks s ls t apart h next q c m e found answer d =
    let i = it logs ks s h.world h.stands apart place d.old d.here in
    let here : h.node ≡ i.node = some_is h.node i.node (sym h.at ∙ i.at) in
    let n = i.node in
    let asking = subst (λ (y : Node). Asking w.disks name serials v unanswered (doubts_of y) h.lines h.world) here h.asking in
    let named = subst (λ (y : Node). y.name ≡ name) here h.named in
    let p = performed logs ks s h.world h.stands apart h.within.kept place d.old d.here (Hears m) false false x b d.new t d.performs tt in
    let old = counts_of (disk_in d.old.place) in
    let new = counts_of (disk_in d.new.place) in
    let disk = disk_there logs ks s h.world h.stands apart place d.old d.here in
    let r = next_hears w.disks name serials v unanswered h.lines h.world place n serial asking named h.within h.up i.at (subst (λ (y : Node). slice_get (doubts_of y) unanswered ≡ Some serial) here next) q c m (subst (λ (y : Node). question_in serial y.volatile.branches ≡ Some q) here e) found answer
    p.node old new p.lines p.answer p.shared disk p.step in
    let behind = moved_behind h.world place n p.node new p.shared h.within.apart i.at in
    Leaves (record {
      lines = h.lines ++ p.lines;
      world = moved h.world n.name p.node new p.shared;
      node = p.node;
      at = ap (λ ns. slice_get ns place) (put_at h.world.nodes place n p.node h.within.apart i.at) ∙ get_set h.world.nodes place n p.node i.at;
      named = step_name h.world.shared n old (Hears m) p.lines p.answer false p.node p.shared new p.step ∙ named;
      asking = r.0;
      count = (let k = subst (λ (y : Node). length serials + unanswered ≡ many + length (doubts_of y)) here h.count in let l = r.2 in omega arith);
      nodes = behind.0 ∙ h.nodes;
      disks = behind.1 ∙ h.disks;
      stands = subst (λ ms. StandsTogether logs ms t (moved h.world n.name p.node new p.shared)) (sym d.put)
          (subst (λ y. StandsTogether logs (slice_set ks place d.new) t (moved h.world y p.node new p.shared)) (sym i.stands.name) (together_put logs ks s h.world h.stands apart place d.old d.here d.new p.node t p.shared p.stands p.alike));
      within = subst (λ y. IsWithin w.disks (moved h.world y p.node new p.shared)) (sym i.stands.name)
          (stays w.disks h.world d.old.name n p.node old new (Hears m) p.lines p.answer false p.shared h.within (there_found logs ks s h.world h.stands apart place d.old d.here) (disk_found logs ks s h.world h.stands apart place d.old d.here) p.step);
      up = up_put n.name p.node h.world.nodes (hears_up h.world.shared n old m p.lines p.answer p.node p.shared new p.step) h.up;
      emits = emits_on a x b h.lines p.lines h.emits p.emits;
    }) r.1

-- The statement ends with what it hears.
pub ended_hears : (logs : List CallLog) (w v : World) (place : ℕ) (name : List ℕ) (serials : List Id) (many unanswered : ℕ) (serial : Id) (a x b : Shown) (ks : List NodeState) (s : SharedState) (ls : List NodeState) (t : SharedState) → AreApart (kept_names ks) → (h : AskingAt logs w v place name serials many unanswered a x ks s) → slice_get (doubts_of h.node) unanswered ≡ Some serial →
    (q : Message) (c : Node) (m : Message) → question_in serial h.node.volatile.branches ≡ Some q → find_node q.to h.world.nodes ≡ Some c → answer_in (row (tm_of c) (Got q)) ≡ Some m → DoesTask place (Hears m) true true ks s x b ls t → EndedAsking logs w v name serials a b ls t
ended_hears logs w v place name serials many unanswered serial a x b ks s ls t apart h next q c m e found answer d =
    let i = it logs ks s h.world h.stands apart place d.old d.here in
    let here : h.node ≡ i.node = some_is h.node i.node (sym h.at ∙ i.at) in
    let n = i.node in
    let asking = subst (λ (y : Node). Asking w.disks name serials v unanswered (doubts_of y) h.lines h.world) here h.asking in
    let named = subst (λ (y : Node). y.name ≡ name) here h.named in
    let p = performed logs ks s h.world h.stands apart h.within.kept place d.old d.here (Hears m) true true x b d.new t d.performs tt in
    let old = counts_of (disk_in d.old.place) in
    let new = counts_of (disk_in d.new.place) in
    let disk = disk_there logs ks s h.world h.stands apart place d.old d.here in
    record {
      lines = h.lines ++ p.lines;
      answer = p.answer;
      world = moved h.world n.name p.node new p.shared;
      does = next_ended w.disks name serials v unanswered h.lines h.world place n serial asking named h.within h.up i.at (subst (λ (y : Node). slice_get (doubts_of y) unanswered ≡ Some serial) here next) q c m (subst (λ (y : Node). question_in serial y.volatile.branches ≡ Some q) here e) found answer
          p.node old new p.lines p.answer p.shared disk p.step;
      stands = subst (λ ms. StandsTogether logs ms t (moved h.world n.name p.node new p.shared)) (sym d.put)
          (subst (λ y. StandsTogether logs (slice_set ks place d.new) t (moved h.world y p.node new p.shared)) (sym i.stands.name) (together_put logs ks s h.world h.stands apart place d.old d.here d.new p.node t p.shared p.stands p.alike));
      emits = subst (λ ns. Emits a ns b) (sym (append_assoc h.lines p.lines (p.answer ∷ []))) (emits_on a x b h.lines (p.lines ++ p.answer ∷ []) h.emits p.emits);
    }

-- What the code asked and was answered, in the world.
module _ (logs : List CallLog) (w v : World) (place : ℕ) (name : List ℕ) (serials : List Id) (many unanswered : ℕ) (serial : Id) (a x : Shown) (ks : List NodeState) (s : SharedState) (apart : AreApart (kept_names ks)) (h : AskingAt logs w v place name serials many unanswered a x ks s) where
  pub asks_so : (k : NodeState) → slice_get ks place ≡ Some k → (o : Option Message) → node.question_in serial k.place ≡ o → question_in serial h.node.volatile.branches ≡ o
  asks_so k e o is =
      let i = it logs ks s h.world h.stands apart place k e in
      let here : i.node ≡ h.node = some_is i.node h.node (sym i.at ∙ h.at) in
      subst (λ (n : Node). question_in serial n.volatile.branches ≡ o) here (sym (question_kept i.log k i.node serial i.stands (up_at h.world.nodes place i.node h.up i.at)) ∙ is)

  pub coordinator_there : (p : ℕ) (to : List ℕ) → slice_get (kept_names ks) p ≡ Some to → (m : Message) → (c : Node) × (find_node to h.world.nodes ≡ Some c) × ((k : NodeState) → slice_get ks p ≡ Some k → (o : Option Message) → node.answer_in_place m k.place ≡ o → answer_in (row (tm_of c) (Got m)) ≡ o)
  coordinator_there p to e m =
      let r = kept_at_place ks p to e in
      let i = it logs ks s h.world h.stands apart p r.kept r.here in (
        i.node,
        subst (λ y. find_node y h.world.nodes ≡ Some i.node) r.named (there_found logs ks s h.world h.stands apart p r.kept r.here),
        λ k f o is. sym (answer_kept i.log r.kept i.node m i.stands (up_at h.world.nodes p i.node h.up i.at)) ∙ ap (λ (y : NodeState). node.answer_in_place m y.place) (some_is r.kept k (sym r.here ∙ f)) ∙ is,
      )
