-- The votes that a task shows are of branches of its node.
use Rattle.std.proofs.Common.{◌≡◌, ℕ, List, [], ◌∷◌, ◌++◌, inl, inr, map, Bool, true, false, Option, Some, None, refl, sym, ◌∙◌, ap, subst}
use Rattle.vms_model.specs.Ids.{Id}
use Rattle.run_said.specs.transcript_model.Lines as line
use Rattle.run_said.specs.script_model.Statements.{Statement}
use Rattle.run_said.specs.transcript_model.Lines.{Line, Cause}
use Rattle.commit_protocol.specs.Messages.{LogRecord}
use Rattle.commit_protocol.specs.Table as table
use Rattle.commit_protocol.specs.Table.{Branch, Key as BranchKey, record_serials, branch_serials, prepared_records}
use Rattle.commit_protocol.specs.World.{In}
use Rattle.commit_protocol.proofs.Lists.{find-key, in_left, in_parts, in_right}
use Rattle.commit_protocol.proofs.Serials.{in_serial}
use Rattle.run_said.proofs.log_laws.Reading.{prepared_is}
use Rattle.run_said.specs.log_laws.Slots.{prepared_of, records_in}
use Rattle.run_said.specs.run_model.World.{World, DiskCounts, find_node, Shared, Node, Act, ComesUp, Tables, acted, booted, prepared_left, prepared_serials}
use Rattle.run_said.specs.run_model.Answers.{Row, Task, last_lines, prepared_line, prepared_lines, task_service}
use Rattle.run_said.specs.run_model.Steps.{Choice, TaskAllowed, node_after, task_effect}
use Rattle.run_said.proofs.run_model.TaskLemmas.{effect_name}
use Rattle.recovery_laws.specs.world_laws.Nodes.{IsUp}
use Rattle.recovery_laws.proofs.world_laws.BootLemmas.{branch_in}
use Rattle.recovery_laws.proofs.world_laws.NodeLemmas.{acted_name}
use Rattle.recovery_laws.proofs.world_laws.TableLemmas.{found_in, in_serials}
use Rattle.recovery_laws.proofs.world_laws.UpLemmas.{branch_drawn}
use Rattle.run_laws.proofs.EachRow.{AreVoteless, VotesSo, is_voteless}
use Rattle.run_laws.proofs.Keeping.{Keeps, Kept, Scheme, all_take, any_effect}
use Rattle.run_laws.proofs.OneBranch.{in_order}
use Rattle.run_laws.proofs.RowFits.{Fits, RowFits, lasts_voteless}
use Rattle.run_laws.proofs.ShownSettled.{answer_voteless}
use Rattle.run_laws.proofs.SoundWorlds.{IsSound, IsSoundNode, begins_sound, part_sound, sound_node, unused}
use Rattle.run_laws.proofs.Staying.{find_put}
use Rattle.run_said.specs.run_model.Statements.{Part, PartEffect, Begins, Phases, Step, Allowed, RoseAt, begun_with, part_effect, phases_of, refused_at_once, stops_at}
use Rattle.run_said.proofs.run_model.NodeLists.{found_name}
use Rattle.run_said.proofs.run_model.PartLemmas.{phases_fold}
use Rattle.run_said.proofs.run_model.PartTasks.{View, Doing, Fixed, view}
use Rattle.run_said.proofs.run_model.Refusing.{each_phase}

-- the branch whose vote a line shows
abbrev pub voter_in : Line → Option Id
voter_in (line.Prepared tid serial) = Some serial
voter_in (line.ReadOnly tid serial) = Some serial
voter_in _ = None

abbrev pub with_id : Option Id → List Id → List Id
with_id None ids = ids
with_id (Some id) ids = id ∷ ids

abbrev pub voters_on : List Line → List Id → List Id
voters_on [] ids = ids
voters_on (l ∷ ls) ids = voters_on ls (with_id (voter_in l) ids)

voters_append : (xs ys : List Line) (ids : List Id) → voters_on (xs ++ ys) ids ≡ voters_on ys (voters_on xs ids)
voters_append [] ys ids = refl
voters_append (x ∷ xs) ys ids = voters_append xs ys (with_id (voter_in x) ids)

pub voteless_none : (l : Line) → is_voteless l ≡ true → voter_in l ≡ None
voteless_none (line.Prepared tid serial) h = let no : ⊥ = cc in absurd no
voteless_none (line.ReadOnly tid serial) h = let no : ⊥ = cc in absurd no
voteless_none _ h = refl

voters_none : (ls : List Line) (ids : List Id) → AreVoteless ls → voters_on ls ids ≡ ids
voters_none [] ids h = refl
voters_none (l ∷ ls) ids h = ap (λ o. voters_on ls (with_id o ids)) (voteless_none l h.0) ∙ voters_none ls ids h.1

-- The record of a branch that a boot shows to be prepared.
pub record LeftRecord (n : Node) (tid serial : Id) : Type 0 where
  pub record_ : LogRecord
  pub there : In record_ (prepared_of (records_in n.durable.log))
  pub serial_is : record_.serial ≡ serial
  pub tid_is : record_.tid ≡ tid

pub left_record : (n : Node) (tid serial : Id) → In (line.Prepared tid serial) (prepared_lines n) → LeftRecord n tid serial
left_record n tid serial i = go (booted n.durable).branches (λ b j. j) i
  where
    go : (bs : List Branch) → ((b : Branch) → In b bs → In b (booted n.durable).branches) → In (line.Prepared tid serial) (map prepared_line bs) → LeftRecord n tid serial
    go [] h j = absurd j
    go (b ∷ bs) h j = elim j [
      | inl same ↦ (
          let is : line.Prepared tid serial ≡ line.Prepared b.key.tid b.key.serial = same in
          let q = branch_in (prepared_left n.durable) b (h b (inl refl)) in
          record {
            record_ = q.0;
            there = in_order (prepared_serials n.durable.units.entries) (prepared_of (records_in n.durable.log)) q.0 q.1;
            serial_is = (let one : serial ≡ b.key.serial = cc in sym (ap (λ (c : Branch). c.key.serial) q.2) ∙ sym one);
            tid_is = (let one : tid ≡ b.key.tid = cc in sym (ap (λ (c : Branch). c.key.tid) q.2) ∙ sym one);
          }
          )
      | inr k ↦ go bs (λ c m. h c (inr m)) k
    ]

-- of the node of this name
abbrev pub AreOf : List Id → List ℕ → Type 0
AreOf ids name = (id : Id) → In id ids → id.node ≡ name

abbrev voted : Scheme
voted = record {
  Told = List Id;
  more = voters_on;
  Up = λ free ids n. AreOf ids n.name;
  Disk = λ ids n. AreOf ids n.name;
  Boots = λ ids n. AreOf ids n.name;
  Ready = λ n. Unit {0};
  Takes = λ o. Unit {0};
  special = λ r. false;
}

voted_none : (ls : List Line) (ids : List Id) (name : List ℕ) → AreVoteless ls → AreOf ids name → AreOf (voters_on ls ids) name
voted_none ls ids name none h = subst (λ xs. AreOf xs name) (sym (voters_none ls ids none)) h

more_of : (id : Id) (ids : List Id) (name : List ℕ) → id.node ≡ name → AreOf ids name → AreOf (id ∷ ids) name
more_of id ids name own h x i = elim i [ inl same ↦ ap (λ (y : Id). y.node) same ∙ own | inr j ↦ h x j ]

-- a branch of the table
stands_own : (n : Node) (k : BranchKey) (b : Branch) → IsUp n → table.find k n.volatile.branches ≡ Some b → k.serial.node ≡ n.name
stands_own n k b up found = subst (λ (j : BranchKey). j.serial.node ≡ n.name) (find-key k n.volatile.branches b found) (branch_drawn n up.table b.key.serial (in_serials b n.volatile.branches (found_in k n.volatile.branches b found))).0

row_voted : (free : Bool) (r : Row) (n : Node) (ids : List Id) → RowFits free r n → AreOf ids n.name → AreOf (voters_on r.lines ids) n.name
row_voted free r n ids f h = go r.act f.fits f.votes
  where
    tabled : (a : table.Act) (moment : ℕ) → Fits free (Some (Tables a moment)) n → VotesSo (Some (Tables a moment)) r.lines → AreOf (voters_on r.lines ids) n.name
    tabled (table.Prepares b) moment g t = elim g.stands [
      | inl st ↦ subst (λ ls. AreOf (voters_on ls ids) n.name) (sym t) (more_of b.key.serial ids n.name (stands_own n b.key st.branch f.up st.there) h)
      | inr none ↦ absurd none
    ]
    tabled (table.Leaves k) moment g t = elim g.stands [
      | inl st ↦ subst (λ ls. AreOf (voters_on ls ids) n.name) (sym t) (more_of k.serial ids n.name (stands_own n k st.branch f.up st.there) h)
      | inr none ↦ absurd none
    ]
    tabled (table.Accepts b c) moment g t = subst (λ ls. AreOf (voters_on ls ids) n.name) (sym t) h
    tabled _ moment g t = voted_none r.lines ids n.name t h

    go : (o : Option Act) → Fits free o n → VotesSo o r.lines → AreOf (voters_on r.lines ids) n.name
    go None g t = voted_none r.lines ids n.name t h
    go (Some (Tables a moment)) g t = tabled a moment g t
    go (Some _) g t = voted_none r.lines ids n.name t h

-- a record of a prepared branch has its serial
prepared_serial : (bs : List Branch) (r : LogRecord) → In r (prepared_records bs) → In r.serial (branch_serials bs)
prepared_serial [] r j = absurd j
prepared_serial (b ∷ bs) r j = go b.state (λ k. prepared_serial bs r k) j
  where
    go : (s : table.State) → (In r (prepared_records bs) → In r.serial (branch_serials bs)) → In r (table.prepared_state b s (prepared_records bs)) → In r.serial (branch_serials (b ∷ bs))
    go table.Prepared more (inl same) = inl (ap (λ (x : LogRecord). x.serial) same)
    go table.Prepared more (inr k) = inr (more k)
    go _ more k = inr (more k)

-- the branches that a boot shows to be prepared are of its node
prepared_of_node : (n m : Node) → m.durable.log ≡ n.durable.log → IsUp (acted ComesUp m) → (tid serial : Id) → In (line.Prepared tid serial) (prepared_lines n) → serial.node ≡ m.name
prepared_of_node n m log up tid serial i =
    let l = left_record n tid serial i in
    let there = (prepared_is (records_in n.durable.log) l.record_ l.there).0 in
    let known = up.table.log.from l.record_ (subst (λ ss. In l.record_ (records_in ss)) (sym log) there) in
    let among : In l.record_.serial (branch_serials m.volatile.branches ++ record_serials m.volatile.records) = elim known [
      | inl p ↦ in_left l.record_.serial (branch_serials m.volatile.branches) (record_serials m.volatile.records) (prepared_serial m.volatile.branches l.record_ p)
      | inr c ↦ in_right l.record_.serial (branch_serials m.volatile.branches) (record_serials m.volatile.records) (in_serial l.record_ m.volatile.records c)
    ] in
    ap (λ (y : Id). y.node) (sym l.serial_is) ∙ (up.table.drawn l.record_.serial among).0

closes_of : (ids : List Id) (n m : Node) → m.durable.log ≡ n.durable.log → IsUp (acted ComesUp m) → AreOf ids m.name → AreOf (voters_on (prepared_lines n) ids) m.name
closes_of ids n m log up h = go (booted n.durable).branches ids (λ l j. j) h
  where
    go : (bs : List Branch) (ids : List Id) → ((l : Line) → In l (map prepared_line bs) → In l (prepared_lines n)) → AreOf ids m.name → AreOf (voters_on (map prepared_line bs) ids) m.name
    go [] ids f h = h
    go (b ∷ bs) ids f h = go bs (b.key.serial ∷ ids) (λ l j. f l (inr j)) (more_of b.key.serial ids m.name (prepared_of_node n m log up b.key.tid b.key.serial (f (line.Prepared b.key.tid b.key.serial) (inl refl))) h)

voted_keeps : Keeps voted
voted_keeps = record {
  none = λ a. refl;
  append = voters_append;
  plain = λ ls a h v. voters_none ls a v;
  same = λ a n m name durable settled h. subst (AreOf a) (sym name) h;
  row = λ free r n a q f up h. subst (AreOf (voters_on r.lines a)) (sym (after_name r.act n)) (row_voted free r n a f h);
  under = λ free r n a act q f is d up h. subst (AreOf a) (sym (after_name (Some act) n)) h;
  falls = λ free a n up h. h;
  weaken = λ free a n h. h;
  half = λ a n standing k ready may h. h;
  spoils = λ a n h. h;
  boots = λ a n k h. voted_none (last_lines n) a n.name (lasts_voteless n) h;
  booting = λ a n k h. h;
  undoes = λ a n u next h. h;
  undoing = λ a n u next h. h;
  rests = λ a n k h. h;
  none_ready = λ n e. tt;
  same_ready = λ n m e h. tt;
  closes = closes_of;
  comes = λ a n up h closed. h;
}
  where
    after_name : (o : Option Act) (n : Node) → (node_after o n).name ≡ n.name
    after_name None n = refl
    after_name (Some act) n = acted_name act n

voter_there : (ls : List Line) (l : Line) (id : Id) (ids : List Id) → In l ls → voter_in l ≡ Some id → In id (voters_on ls ids)
voter_there [] l id ids i e = absurd i
voter_there (x ∷ ls) l id ids i e = elim i [
  | inl same ↦ stay ls (with_id (voter_in x) ids) (subst (λ o. In id (with_id o ids)) (sym (ap voter_in (sym same) ∙ e)) (inl refl))
  | inr j ↦ voter_there ls l id (with_id (voter_in x) ids) j e
]
  where
    one : (o : Option Id) (ys : List Id) → In id ys → In id (with_id o ys)
    one None ys k = k
    one (Some y) ys k = inr k

    stay : (ls : List Line) (ys : List Id) → In id ys → In id (voters_on ls ys)
    stay [] ys k = k
    stay (y ∷ ls) ys k = stay ls (with_id (voter_in y) ys) (one (voter_in y) ys k)

pub vote_owns : (s : Shared) (stops : ℕ) (n : Node) (task : Task) (c : Choice) (rises : Cause → Type 0) → IsSoundNode s n → TaskAllowed s stops n task rises c → (l : Line) (id : Id) → In l (task_effect s stops n task c).lines → voter_in l ≡ Some id → id.node ≡ n.name
vote_owns s stops n task c rises sound may l id i e = all id (voter_there (task_effect s stops n task c).lines l id [] i e)
  where
    start : Kept voted voted_keeps [] n
    start = record { disk = λ x i. absurd i; way = λ act e x i. absurd i; runs = λ up x i. absurd i }

    all : AreOf (voters_on (task_effect s stops n task c).lines []) n.name
    all = subst (AreOf (voters_on (task_effect s stops n task c).lines [])) (effect_name s stops n task c)
        (any_effect voted voted_keeps s stops n [] sound.kept start (unused s n sound) (λ off slots journal m none x i. absurd i) task (λ off. all_take voted (λ o. tt) ((task_service task).rows s n)) (λ on. tt) c rises may).disk

-- Statements.

-- nodes stay, and the node whose branch votes is there
abbrev Stays : World → World → Type 0
Stays u x = (name : List ℕ) (n : Node) → find_node name u.nodes ≡ Some n → (m : Node) × (find_node name x.nodes ≡ Some m)

part_nodes : (u : World) (p : Part) (c : Choice) → Stays u (part_effect u p c).world
part_nodes u p c = go (view u p)
  where
    go : View u p → Stays u (part_effect u p c).world
    go (Fixed answer ends kind is) = subst (λ (e : PartEffect). Stays u e.world) (sym (is c)) (λ name n found. (n, found))
    go (Doing other t k named there does may) = subst (λ (e : PartEffect). Stays u e.world) (sym (does c)) (λ name n found. elim (find_put name other k (task_effect u.shared (stops_at other u) k t c).node u.nodes (effect_name u.shared (stops_at other u) k t c) there) [
      | inl same ↦ (n, same ∙ found)
      | inr both ↦ ((task_effect u.shared (stops_at other u) k t c).node, both.0)
    ])

part_voter : (u : World) (p : Part) (c : Choice) (disks : List DiskCounts) (l : Line) (id : Id) → Allowed u p disks c → IsSound u → In l (part_effect u p c).lines → voter_in l ≡ Some id → (n : Node) × (find_node id.node u.nodes ≡ Some n)
part_voter u p c disks l id allowed sound i e = go (view u p)
  where
    go : View u p → (n : Node) × (find_node id.node u.nodes ≡ Some n)
    go (Fixed answer ends kind is) = absurd (subst (λ (x : PartEffect). In l x.lines) (is c) i)
    go (Doing other t n named found does may) =
        let own = vote_owns u.shared (stops_at other u) n t c (λ cause. RoseAt u other cause disks) (sound_node u sound other n found) (may disks c allowed) l id (subst (λ (x : PartEffect). In l x.lines) (does c) i) e in
        (n, subst (λ name. find_node name u.nodes ≡ Some n) (sym (own ∙ found_name other u.nodes n found)) found)

pub step_voter : (w v : World) (s : Statement) (lines : List Line) → IsSound w → Step w s lines v → (l : Line) (id : Id) → In l lines → voter_in l ≡ Some id → (n : Node) × (find_node id.node v.nodes ≡ Some n)
step_voter w v s lines sound step l id i e = elim (in_parts l step.events (step.answer ∷ []) (subst (In l) step.shows i)) [
  | inl j ↦ (let r = go (refused_at_once w s) step.does j in (r.0, subst (λ (x : World). find_node id.node x.nodes ≡ Some r.0) (sym step.goes) r.1))
  | inr j ↦ absurd (elim j [ inl same ↦ (let clash : ◌≡◌ {A = Option Id} None (Some id) = sym (voteless_none step.answer (answer_voteless w v s lines step)) ∙ ap voter_in (sym same) ∙ e in let no : ⊥ = cc in no) | inr none ↦ none ])
]
  where
    go : (o : Option Line) → Begins o (Phases (phases_of s) v.disks (begun_with s w) line.Normal) w step.events step.answer step.world → In l step.events → (n : Node) × (find_node id.node step.world.nodes ≡ Some n)
    go (Some refusal) d j = absurd (subst (In l) d.0 j)
    go None d j =
        let g : (Stays (begun_with s w) step.world) × (IsSound (begun_with s w) → In l step.events → (n : Node) × (find_node id.node step.world.nodes ≡ Some n)) = phases_fold v.disks (λ p. Unit {0}) (λ g. Unit {0}) (λ u rest answer x. Stays u x × (IsSound u → In l rest → (n : Node) × (find_node id.node x.nodes ≡ Some n)))
        (λ u g q. (λ name n found. (n, found), λ sd k. absurd k))
        (λ u p c ok allowed ends. (part_nodes u p c, λ sd k. let r = part_voter u p c v.disks l id allowed sd k e in part_nodes u p c id.node r.0 r.1))
        (λ u p c ok allowed on. (
          tt,
          λ rest answer x more. (
            λ name n found. let m = part_nodes u p c name n found in more.0 name m.0 m.1,
            λ sd k. elim (in_parts l (part_effect u p c).lines rest k) [
              | inl here ↦ (let r = part_voter u p c v.disks l id allowed sd here e in let m = part_nodes u p c id.node r.0 r.1 in more.0 id.node m.0 m.1)
              | inr later ↦ more.1 (part_sound u p c v.disks allowed sd) later
            ],
          ),
        ))
        (phases_of s) (each_phase s) (begun_with s w) line.Normal step.events step.answer step.world tt d in
        g.1 (begins_sound s w sound) j
