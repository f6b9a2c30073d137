-- A prepared branch whose abort a fall found under way is of a dead transaction, and is never committed.
use Rattle.std.proofs.Common.{◌≡◌, ◌≢◌, ℕ, ◌⊎◌, List, [], ◌∷◌, inl, inr, Bool, true, false, ◌||◌, Option, Some, None, if◌then◌else◌, refl, sym, ◌∙◌, ap, subst}
use Rattle.std.specs.Prelude.{is_some}
use Rattle.std.specs.List.{list_any}
use Rattle.std.proofs.lemmas.Bool.{both_ways, cases_Bool}
use Rattle.vms_model.specs.Ids.{Id}
use Rattle.vms_model.specs.Transactions.{Outcome, Commit, Abort, Reason}
use Rattle.run_said.specs.transcript_model.Lines as line
use Rattle.run_said.specs.transcript_model.Lines.{Line}
use Rattle.run_said.specs.script_model.Statements.{Statement, Reading, Blank, Says, Bad}
use Rattle.run_said.specs.script_model.Grammar.{reading}
use Rattle.commit_protocol.specs.Messages as message
use Rattle.commit_protocol.specs.Messages.{LogRecord, Message, Name, CommittedRecord, PreparedRecord, same_id}
use Rattle.commit_protocol.specs.Table.{Branch, State, Joining, Active, Ending, Voting, Prepared, Sends, Key as BranchKey, branches_of, coordinator_of, find, first, key_of, prepared_records, record_key}
use Rattle.commit_protocol.specs.Rows as rows
use Rattle.commit_protocol.specs.World as protocol
use Rattle.commit_protocol.specs.World.{In, run}
use Rattle.commit_protocol.specs.Agreement.{Gone, IsDead, IsReady, Once, Ready, Running, phase, phase_of, view}
use Rattle.commit_protocol.specs.Opening.{IsAgreeing, opened}
use Rattle.commit_protocol.proofs.Acting.{Goes, Good, goes_trans}
use Rattle.commit_protocol.proofs.Gathered.{is_shown}
use Rattle.commit_protocol.proofs.Lists.{same_id-refl}
use Rattle.commit_protocol.proofs.Opened.{good_opened, prepared_found}
use Rattle.commit_protocol.proofs.Running.{agrees, goes_run}
use Rattle.run_said.specs.log_laws.Slots.{committed_of, prepared_of, records_in}
use Rattle.run_said.proofs.log_laws.Reading.{committed_is, permuted_back}
use Rattle.run_said.specs.run_model.World.{World, Node, Act, Settlement, acted, find_node, settlement}
use Rattle.run_said.specs.run_model.Statements.{Begins, Phases, Step, answer_in, answer_of, begun_with, phases_of, refused_at_once}
use Rattle.run_said.specs.run_model.Transcript.{Entry, Legal, Turn}
use Rattle.run_said.proofs.run_model.NodeLists.{some_is}
use Rattle.run_said.proofs.run_model.PartLemmas.{phases_fold}
use Rattle.run_said.proofs.run_model.Refusing.{each_phase}
use Rattle.run_agreement.specs.Seen.{IsFace, Resolution, has_volume, landed, outcome_of}
use Rattle.run_agreement.specs.Following.{Shows, opening_of}
use Rattle.run_agreement.specs.Laws.{IsRun, MakesNoVolume, RunsFrom}
use Rattle.run_agreement.proofs.Booting.{left_rearranged, ready_of}
use Rattle.run_agreement.proofs.Events.{IsReached, down_of_face, up_of_face}
use Rattle.run_agreement.proofs.Openings.{reached_by, runs_sim, told_settled}
use Rattle.recovery_laws.proofs.world_laws.BootLemmas.{branch_in}
use Rattle.recovery_laws.proofs.world_laws.LogLemmas.{prepared_branch}
use Rattle.run_laws.specs.Promises.{settlements_of}
use Rattle.run_laws.proofs.Falling.{RecordsOf, aborting}
use Rattle.run_laws.proofs.Noting.{find_in}
use Rattle.run_laws.proofs.Paths.{begins_used, part_used}

-- Where a node may be in use, entries make no volume.

step_used : (w v : World) (s : Statement) (lines : List Line) → Step w s lines v → w.shared.in_use ≡ true → v.shared.in_use ≡ true
step_used w v s lines step used = ap (λ (x : World). x.shared.in_use) step.goes ∙ go (refused_at_once w s) step.does
  where
    go : (o : Option Line) → Begins o (Phases (phases_of s) v.disks (begun_with s w) line.Normal) w step.events step.answer step.world → step.world.shared.in_use ≡ true
    go (Some refusal) d = ap (λ (x : World). x.shared.in_use) d.2 ∙ used
    go None d = phases_fold v.disks (λ p. Unit {0}) (λ given. Unit {0}) (λ u rest answer x. u.shared.in_use ≡ true → x.shared.in_use ≡ true)
        (λ u given q h. h)
        (λ u p c ok allowed ends h. part_used u p c h)
        (λ u p c ok allowed on. (tt, λ rest answer x more h. more (part_used u p c h)))
        (phases_of s) (each_phase s) (begun_with s w) line.Normal step.events step.answer step.world tt d (begins_used s w used)

turn_used : (w v : World) (r : Reading) (lines : List Line) → Turn w r lines v → w.shared.in_use ≡ true → v.shared.in_use ≡ true
turn_used w v Blank lines turn used = ap (λ (x : World). x.shared.in_use) turn.1 ∙ used
turn_used w v (Says s) lines turn used = step_used w v s lines turn used
turn_used w v (Bad column) lines turn used = absurd turn

none_made : (w : World) (r : Reading) → w.shared.in_use ≡ true → MakesNoVolume w r
none_made w Blank used = tt
none_made w (Says s) used = λ node slots journal e. used
none_made w (Bad column) used = tt

pub runs_used : (w v : World) (es : List Entry) → Legal w es v → w.shared.in_use ≡ true → RunsFrom w es v × (v.shared.in_use ≡ true)
runs_used w v [] legal used = (legal, ap (λ (x : World). x.shared.in_use) legal ∙ used)
runs_used w v (e ∷ es) legal used =
    let more = runs_used w legal.0 es legal.1 used in
    ((legal.0, more.0, none_made legal.0 (reading e.source.text) more.1, legal.2), turn_used legal.0 v (reading e.source.text) e.lines legal.2 more.1)

not_twice : (ss : List (BranchKey × Outcome)) (k : BranchKey) → Once ss → In (k, Abort) ss → In (k, Commit) ss → ⊥
not_twice [] k once a c = a
not_twice (s ∷ ss) k once (inl a) (inl c) = let clash : Abort ≡ Commit = ap (λ (y : BranchKey × Outcome). y.1) (a ∙ sym c) in let no : ⊥ = cc in no
not_twice (s ∷ ss) k once (inl a) (inr c) = once.0 Commit (subst (λ (j : BranchKey). In (j, Commit) ss) (ap (λ (y : BranchKey × Outcome). y.0) a) c)
not_twice (s ∷ ss) k once (inr a) (inl c) = once.0 Abort (subst (λ (j : BranchKey). In (j, Abort) ss) (ap (λ (y : BranchKey × Outcome). y.0) c) a)
not_twice (s ∷ ss) k once (inr a) (inr c) = not_twice ss k once.1 a c

-- A run in whose last world an abort is under way at a node that is down.
module _ (base v : World) (since : List Entry) (is_run : IsRun base since v) (node : List ℕ) (n : Node) (found : find_node node v.nodes ≡ Some n) (k : BranchKey) (home : k.serial.node ≡ node) (reason : Reason) (r : Option LogRecord) (moment : ℕ)
    (under : n.under_way ≡ Some (aborting k reason r moment)) (down : n.up ≡ false) where
  pub sound_volume : (q : Resolution) (p : protocol.World) → Shows (opening_of base) q v p → has_volume n ≡ true
  sound_volume q p h = elim (cases_Bool (has_volume n)) [
    | inl is ↦ is
    | inr none ↦ (let clash : ◌≡◌ {A = Option Act} None (Some (aborting k reason r moment)) = sym (h.are.without node n found none).1.quiet ∙ under in let no : ⊥ = cc in absurd no)
  ]

  -- where it has not taken place, and its branch has a record, the branch is prepared
  pub is_ready : RecordsOf n k → (c : LogRecord) → In c (prepared_of (records_in n.durable.log)) → c.serial ≡ k.serial → (q : Resolution) (p : protocol.World) → q node ≡ false → Shows (opening_of base) q v p → IsReady (view p) k
  is_ready records c i e q p off h =
      let f = h.are.there node n found (sound_volume q p h) in
      let face = down_of_face (q node) n f.0 down f.2 in
      let left = subst (λ b. Rattle.run_agreement.specs.Seen.IsLeft (landed b n).durable f.0.node) off face.left in
      let there = left.prepared.there c ((left_rearranged n.durable (ready_of n.durable f.0.node left)).back c i) in
      let key : record_key c ≡ k = λ j. record { tid = records c i e j; serial = e j } in
      let ready = prepared_found left.records k c there key in
      subst (λ (name : List ℕ). phase (find k (p.nodes name).table) ≡ Ready) (sym home) (ap (λ (y : protocol.Node). phase (find k y.table)) (h.follows.nodes node f.0 f.1) ∙ ap (λ bs. phase (find k bs)) left.table ∙ ready)

  -- Let its transaction be dead once the abort has not taken place. Then, however the acts turn out that are under way later, a world of the protocol shows the later one in
  -- which the branch is aborted, or its transaction dead.
  pub ends_dead : ((q : Resolution) (p : protocol.World) → q node ≡ false → Good p → Shows (opening_of base) q v p → IsDead (view p) k.tid) →
      (after : List Entry) (closing : World) → RunsFrom v after closing → (last : Resolution) →
      (p : protocol.World) × Goes (opened (opening_of base)) p × Shows (opening_of base) last closing p × (In (k, Abort) p.settled ⊎ IsDead (view p) k.tid)
  ends_dead dead after closing runs last =
      let sim = runs_sim o after v closing runs last in
      let x = reached_by base v since is_run sim.0 in
      let p : protocol.World = run x.steps (opened o) in
      let first_goes = goes_run x.steps (opened o) (good_opened o is_run.agrees (is_shown o is_run.agrees)) in
      let reached : IsReached o p = record { agrees = is_run.agrees; steps = x.steps; is = refl } in
      let y = sim.1 p tt reached x.shows in
      let goes = goes_run y.0 p first_goes.good in (
        run y.0 p,
        goes_trans (opened o) p (run y.0 p) first_goes goes,
        y.1,
        elim (cases_Bool (sim.0 node)) [
          | inl on ↦ inl (
              let lands : (landed (sim.0 node) n).settled ≡ settlement k Abort reason moment ∷ n.settled = ap (λ b. (landed b n).settled) on ∙ ap (λ (a : Option Act). (let z : Node = elim a [ Some act ↦ acted act n | None ↦ n ] in z).settled) under in
              goes.later.settled k Abort (told_settled o sim.0 v p x.shows k Abort (node, n, found, (settlement k Abort reason moment, subst (In (settlement k Abort reason moment)) (sym lands) (inl refl), refl)))
              )
          | inr off ↦ inr (goes.later.dead k.tid (dead sim.0 p off first_goes.good x.shows))
        ],
      )
    where
      o : Rattle.commit_protocol.specs.Opening.Opening
      o = opening_of base

  -- So the branch is never committed of its transaction.
  pub dies : ((q : Resolution) (p : protocol.World) → q node ≡ false → Good p → Shows (opening_of base) q v p → IsDead (view p) k.tid) →
      (after : List Entry) (closing : World) → RunsFrom v after closing → (s : Settlement) → In s (settlements_of k.serial.node closing) → s.serial ≡ k.serial → s.tid ≡ k.tid → s.outcome ≡ Commit → ⊥
  dies dead after closing runs s i serial tid commit = go (find_node k.serial.node closing.nodes) refl i
    where
      none : Resolution
      none = λ m. false

      key : outcome_of s ≡ (k, Commit)
      key = λ j. (record { tid = tid j; serial = serial j }, commit j)

      at : (m : Node) → find_node k.serial.node closing.nodes ≡ Some m → In s m.settled → ⊥
      at m is j =
          let e = ends_dead dead after closing runs none in
          let committed : In (k, Commit) e.0.settled = told_settled (opening_of base) none closing e.0 e.2 k Commit (k.serial.node, m, is, (s, j, key)) in
          elim e.3 [
            | inl aborted ↦ not_twice e.0.settled k e.1.good.inv.once aborted committed
            | inr gone ↦ gone.commits (e.1.good.inv.upward k committed)
          ]

      go : (d : Option Node) → find_node k.serial.node closing.nodes ≡ d → In s (elim d as (λ z. List Settlement) [ Some m ↦ m.settled | None ↦ [] ]) → ⊥
      go (Some m) is j = at m is j
      go None is j = j

  -- So it is where an Abort of it was sent.
  pub dead_told : RecordsOf n k → (c : LogRecord) → In c (prepared_of (records_in n.durable.log)) → c.serial ≡ k.serial → (x : Message) → In x v.shared.wire → x.kind ≡ message.Abort → k ≡ key_of x →
      (q : Resolution) (p : protocol.World) → q node ≡ false → Good p → Shows (opening_of base) q v p → IsDead (view p) k.tid
  dead_told records c i e x sent kind key q p off good h =
      let ready = is_ready records c i e q p off h in
      let there : phase ((view p).at k) ≢ Gone = λ gone. (let clash : Ready ≡ Gone = sym ready ∙ gone in cc) in
      elim ((agrees (view p) good.inv).aborts k (x, h.follows.sent x sent, kind, sym key)) [
        | inl dead ↦ dead
        | inr more ↦ elim more [ inl committed ↦ absurd (good.inv.unsettled k there Commit committed) | inr read ↦ absurd (good.inv.unread k there read) ]
      ]

-- A coordinator that answers Abort.

-- it has no committed record of the transaction, and the first branch is not undecided there
pub record HasNone (y : Node) (t : Id) : Type 0 where
  pub records : (c : LogRecord) → In c y.volatile.records → c.tid ≡ t → ⊥
  pub branch : (b : Branch) → find (first t) y.volatile.branches ≡ Some b → b.state ≡ Prepared

none_any : (t : Id) (rs : List LogRecord) → list_any (λ (c : LogRecord). same_id c.tid t) rs ≡ false → (c : LogRecord) → In c rs → c.tid ≡ t → ⊥
none_any t [] e c i same = i
none_any t (x ∷ rs) e c i same = elim i [
  | inl here ↦ both_ways (same_id x.tid t) (or_parts (same_id x.tid t) _ e).0 (ap (λ (y : Id). same_id y t) (ap (λ (y : LogRecord). y.tid) (sym here) ∙ same) ∙ same_id-refl t)
  | inr j ↦ none_any t rs (or_parts (same_id x.tid t) _ e).1 c j same
]
  where
    or_parts : (a b : Bool) → (a || b) ≡ false → (a ≡ false) × (b ≡ false)
    or_parts true b e = let no : ⊥ = cc in absurd no
    or_parts false b e = (refl, e)

pub answers_none : (y : Node) (k : BranchKey) (m : Message) → answer_of y k ≡ Some m → m.kind ≡ message.Abort → HasNone y k.tid × (key_of m ≡ k)
answers_none y k m e kind = go (list_any (λ (c : LogRecord). same_id c.tid k.tid) y.volatile.records) refl (find (first k.tid) y.volatile.branches) refl e
  where
    asks : Message
    asks = rows.up message.Inquire k

    go : (b : Bool) → list_any (λ (c : LogRecord). same_id c.tid k.tid) y.volatile.records ≡ b → (o : Option Branch) → find (first k.tid) y.volatile.branches ≡ o → answer_in (if b then Sends (rows.down message.Commit (key_of asks)) ∷ [] else rows.answer asks o) ≡ Some m → HasNone y k.tid × (key_of m ≡ k)
    go true any o is f =
        let same = some_is _ m f in
        let clash : message.Commit ≡ message.Abort = ap (λ (x : Message). x.kind) same ∙ kind in
        let no : ⊥ = cc in absurd no
    go false any None is f = (record { records = none_any k.tid y.volatile.records any; branch = λ b g. let clash : ◌≡◌ {A = Option Branch} None (Some b) = sym is ∙ g in let no : ⊥ = cc in absurd no }, ap key_of (sym (some_is _ m f)))
    go false any (Some x) is f = by x.state refl f
      where
        by : (z : State) → x.state ≡ z → answer_in (rows.answer_state asks x z) ≡ Some m → HasNone y k.tid × (key_of m ≡ k)
        by Prepared at g = (record { records = none_any k.tid y.volatile.records any; branch = λ b h. ap (λ (c : Branch). c.state) (some_is b x (sym h ∙ is)) ∙ at }, ap key_of (sym (some_is _ m g)))
        by Joining at g = let no : ⊥ = cc in absurd no
        by Active at g = let no : ⊥ = cc in absurd no
        by Ending at g = let no : ⊥ = cc in absurd no
        by Voting at g = let no : ⊥ = cc in absurd no

all_prepared : (rs : List LogRecord) (k : BranchKey) → phase (find k (branches_of rs)) ≡ Running → ⊥
all_prepared rs k e = go (find k (branches_of rs)) refl e
  where
    go : (o : Option Branch) → find k (branches_of rs) ≡ o → phase o ≡ Running → ⊥
    go None is f = let clash : Gone ≡ Running = f in cc
    go (Some b) is f =
        let r = branch_in rs b (find_in k (branches_of rs) b is) in
        let state : b.state ≡ Prepared = ap (λ (c : Branch). c.state) r.2 in
        let clash : Ready ≡ Running = sym (ap phase_of state) ∙ f in
        cc

module _ (base v : World) (since : List Entry) (is_run : IsRun base since v) (node : List ℕ) (n : Node) (found : find_node node v.nodes ≡ Some n) (k : BranchKey) (home : k.serial.node ≡ node) (reason : Reason) (r : Option LogRecord) (moment : ℕ)
    (under : n.under_way ≡ Some (aborting k reason r moment)) (down : n.up ≡ false) (records : RecordsOf n k) (c : LogRecord) (i : In c (prepared_of (records_in n.durable.log))) (e : c.serial ≡ k.serial) where
  ready_here : (q : Resolution) (p : protocol.World) → q node ≡ false → Shows (opening_of base) q v p → IsReady (view p) k
  ready_here q p off h = is_ready base v since is_run node n found k home reason r moment under down records c i e q p off h

  dead_if : (q : Resolution) (p : protocol.World) → q node ≡ false → Good p → Shows (opening_of base) q v p → (phase ((view p).at (first k.tid)) ≡ Running → ⊥) → p.rack (coordinator_of k) ≡ true → ((d : LogRecord) → In d (p.nodes (coordinator_of k)).records → d.tid ≡ k.tid → ⊥) → IsDead (view p) k.tid
  dead_if q p off good h undecided there none =
      let ready = ready_here q p off h in
      record {
        old = (good.inv.old_at k (λ gone. let clash : Ready ≡ Gone = sym ready ∙ gone in cc)).tid;
        undecided = undecided;
        commits = λ commits. let w = good.inv.owed k ready commits there in none w.0 w.1 w.2;
      }

  -- it is another node, which is up
  pub dead_other : (y : Node) → find_node (coordinator_of k) v.nodes ≡ Some y → y.up ≡ true → HasNone y k.tid → (q : Resolution) (p : protocol.World) → q node ≡ false → Good p → Shows (opening_of base) q v p → IsDead (view p) k.tid
  dead_other y is up none q p off good h =
      let volume : has_volume y ≡ true = elim (cases_Bool (has_volume y)) [ inl on ↦ on | inr without ↦ absurd (both_ways y.up (h.are.without (coordinator_of k) y is without).1.down up) ] in
      let f = h.are.there (coordinator_of k) y is volume in
      let face = up_of_face (q (coordinator_of k)) y f.0 up f.2 in
      let at : p.nodes (coordinator_of k) ≡ Rattle.run_agreement.specs.Seen.raw [] y = h.follows.nodes (coordinator_of k) f.0 f.1 ∙ face.node in
      dead_if q p off good h (λ runs. undecided y none (sym (ap (λ (x : protocol.Node). phase (find (first k.tid) x.table)) at) ∙ runs))
      (h.follows.rack (coordinator_of k) ∙ ap is_some f.1)
      (λ d j same. none.records d (subst (λ (x : protocol.Node). In d x.records) at j) same)
    where
      undecided : (y : Node) → HasNone y k.tid → phase (find (first k.tid) y.volatile.branches) ≡ Running → ⊥
      undecided y none runs = go (find (first k.tid) y.volatile.branches) refl runs
        where
          go : (o : Option Branch) → find (first k.tid) y.volatile.branches ≡ o → phase o ≡ Running → ⊥
          go None is f = let clash : Gone ≡ Running = f in cc
          go (Some b) is f = let clash : Ready ≡ Running = sym (ap phase_of (none.branch b is)) ∙ f in cc

  -- or the branch's own, whose disk told its table
  pub dead_own : coordinator_of k ≡ node → ((d : LogRecord) → In d (records_in n.durable.log) → In d (prepared_records n.volatile.branches) ⊎ In d n.volatile.records) → HasNone n k.tid → (q : Resolution) (p : protocol.World) → q node ≡ false → Good p → Shows (opening_of base) q v p → IsDead (view p) k.tid
  dead_own own tells none q p off good h =
      let f = h.are.there node n found (sound_volume base v since is_run node n found k home reason r moment under down q p h) in
      let face = down_of_face (q node) n f.0 down f.2 in
      let left = subst (λ b. Rattle.run_agreement.specs.Seen.IsLeft (landed b n).durable f.0.node) off face.left in
      let at : p.nodes (coordinator_of k) ≡ f.0.node = ap p.nodes own ∙ h.follows.nodes node f.0 f.1 in
      dead_if q p off good h (λ runs. all_prepared left.records (first k.tid) (sym (ap (λ (x : protocol.Node). phase (find (first k.tid) x.table)) at ∙ ap (λ bs. phase (find (first k.tid) bs)) left.table) ∙ runs))
      (h.follows.rack (coordinator_of k) ∙ ap (λ name. is_some (h.faces name)) own ∙ ap is_some f.1)
      (λ d j same.
      let there = permuted_back (committed_of (records_in n.durable.log)) f.0.node.records left.committed d (subst (λ (x : protocol.Node). In d x.records) at j) in
      let g = committed_is (records_in n.durable.log) d there in
      elim (tells d g.0) [
        | inl prepared ↦ (let kind = ap (λ (x : LogRecord). x.kind) (prepared_branch n.volatile.branches d prepared).is in let clash : PreparedRecord ≡ CommittedRecord = sym kind ∙ g.1 in let no : ⊥ = cc in absurd no)
        | inr committed ↦ none.records d committed same
      ])
