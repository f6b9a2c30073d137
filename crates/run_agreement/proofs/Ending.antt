-- An END_TRANS that succeeds has committed its transaction.
use Rattle.std.specs.Prelude.{if◌then◌else◌, ◌&&◌, ◌||◌, not}
use Rattle.std.proofs.Common.{◌≡◌, ℕ, Bool, true, false, List, [], ◌∷◌, ◌++◌, Option, Some, None, inl, inr, refl, ap, sym, subst, ◌∙◌}
use Rattle.std.proofs.lemmas.Bool.{cases_Bool}
use Rattle.vms_model.specs.Transactions.{Outcome, Reason, Commit as ToCommit, Aborted as ByRequest, SyncFail}
use Rattle.run_model.specs.transcript_model.Lines as line
use Rattle.run_model.specs.transcript_model.Lines.{Line, Normal, Pending, TransactionAborted}
use Rattle.run_model.specs.script_model.Statements.{At, EndTrans, Init}
use Rattle.commit_protocol.specs.Messages.{Name, Message, RmEvent, Prepare, LogRecord}
use Rattle.commit_protocol.specs.Table.{Key, Branch, State, Joining, Active, Ending, Voting, Prepared, Act, Notes, Accepts, Prepares, Settles, Leaves, Acknowledges, Releases, Undoes, Sends, Prints, first, is_first, find, holding}
use Rattle.commit_protocol.specs.Rows as rows
use Rattle.commit_protocol.specs.Rows.{row, sends_all, tells, to_each, serials, joined, which_event, ending, begins_ending, commits, commits_if_all, aborts, all_taken, all_voted, all_replied, yes_of, owing}
use Rattle.commit_protocol.specs.Allowed.{is_active}
use Rattle.commit_protocol.specs.World.{In}
use Rattle.commit_protocol.proofs.Lists.{find-key, in_right}
use Rattle.run_model.specs.World as world
use Rattle.run_model.specs.World.{World, Node, Shared, Settlement, Tables, acted, shared_after, find_node, next_moment, settlement, settlement_of, settled_more, tm_of}
use Rattle.run_model.specs.Operations.{first_of, refused_if}
use Rattle.run_model.specs.Answers as answers
use Rattle.run_model.specs.Answers.{Row, Service, Serves, service, table_rows, told_rows, just, end_answer, missing, unreplied, branch_labelled, is_first_active, refused_before_reading}
use Rattle.run_model.specs.Steps.{Choice, TaskEffect, task_effect, node_after_rows}
use Rattle.run_model.specs.Statements as statements
use Rattle.run_model.specs.Statements.{Part, Does, PartEffect, Step, Parts, Phases, Finished, Begins, stops_at, put_into, done_at, part_effect, refused_at_once, named_node}
use Rattle.run_model.specs.Transcript.{Entry}
use Rattle.run_agreement.specs.Seen.{Resolution, outcome_of, landed}
use Rattle.run_agreement.specs.Laws.{IsRun, RunsFrom, IsSettled, HasOutcome}
use Rattle.run_agreement.proofs.Found.{found_put, name_found}
use Rattle.run_agreement.proofs.Going.{went_on, table_rows_keep}
use Rattle.run_agreement.proofs.Serving.{first_none, serves_up, named_branch, labelled_found, first_found, parts_true}
use Rattle.run_agreement.specs.Following.{opening_of}
use Rattle.run_agreement.proofs.Openings.{reached_by}
use Rattle.run_agreement.proofs.Runs.{step_sim}
use Rattle.run_agreement.proofs.Staying.{stays}
use Rattle.run_agreement.proofs.Resting.{is_normal, NotNormal, not_if, not_first, not_none, stopped_by, last_same, reached_next}

-- What settles in a row.

keeps_settled : (a : Act) (moment : ℕ) (x : Node) (s : Settlement) → In s x.settled → In s (acted (Tables a moment) x).settled
keeps_settled (Notes b) m x s h = h
keeps_settled (Accepts b c) m x s h = h
keeps_settled (Prepares b) m x s h = h
keeps_settled (Settles k out why r) m x s h = inr h
keeps_settled (Leaves k) m x s h = h
keeps_settled (Acknowledges k) m x s h = h
keeps_settled (Releases i n) m x s h = h
keeps_settled (Undoes k) m x s h = inr h
keeps_settled (Sends y) m x s h = h
keeps_settled (Prints l) m x s h = h

rows_settled : (todo : List Act) (sh : Shared) (x : Node) (s : Settlement) → In s x.settled → In s (node_after_rows (table_rows todo sh x) x).settled
rows_settled [] sh x s h = h
rows_settled (a ∷ todo) sh x s h = rows_settled todo (shared_after (Tables a (next_moment x)) sh) (acted (Tables a (next_moment x)) x) s (keeps_settled a (next_moment x) x s h)

-- one of the acts settles the branch so
abbrev HasSettle : Key → Outcome → List Act → Type 0
HasSettle k out acts = (why : Reason) × (r : Option LogRecord) × In (Settles k out why r) acts

rows_settle : (todo : List Act) (sh : Shared) (x : Node) (k : Key) (out : Outcome) → HasSettle k out todo → (s : Settlement) × In s (node_after_rows (table_rows todo sh x) x).settled × (outcome_of s ≡ (k, out))
rows_settle [] sh x k out h = absurd h.2
rows_settle (a ∷ todo) sh x k out h = elim (h.2) [
  | inl e ↦
      let m : ℕ = next_moment x in
      let s : Settlement = settlement k out h.0 m in
      let P : Act → Type 0 = λ z. In s (acted (Tables z m) x).settled in
      (s, rows_settled todo (shared_after (Tables a m) sh) (acted (Tables a m) x) s (subst P e (inl refl)), refl)
  | inr j ↦ rows_settle todo (shared_after (Tables a (next_moment x)) sh) (acted (Tables a (next_moment x)) x) k out (h.0, h.1, j)
]

-- The answer tells the outcome.

after_sends : (ms : List Message) (rest : List Act) (p : Line) → end_answer (sends_all ms ++ rest) p ≡ end_answer rest p
after_sends [] rest p = refl
after_sends (m ∷ ms) rest p = after_sends ms rest p

after_tells : (e : RmEvent) (k : Key) (xs : List Name) (rest : List Act) (p : Line) → end_answer (tells e k xs ++ rest) p ≡ end_answer rest p
after_tells e k [] rest p = refl
after_tells e k (x ∷ xs) rest p = after_tells e k xs rest p

ends : (b : Branch) (t : Bool) → end_answer (if t then begins_ending b else aborts SyncFail b) Normal ≡ Normal → HasSettle b.key ToCommit (if t then begins_ending b else aborts SyncFail b)
ends b false e = absurd (let f : TransactionAborted SyncFail ≡ Normal = e in let g : ⊥ = cc in g)
ends b true e = by (all_voted (ending b).accepted && all_replied (ending b).managers) refl
  where
    left : end_answer (commits_if_all (ending b) []) (Pending (missing b.accepted) (unreplied (ending b).managers)) ≡ Normal
    left = sym (after_sends (to_each Prepare b.key.tid (serials b.accepted)) (tells (which_event b.changed b.accepted b.managers) b.key (joined b.managers) ++ commits_if_all (ending b) []) (Pending (missing b.accepted) (unreplied (ending b).managers))
        ∙ after_tells (which_event b.changed b.accepted b.managers) b.key (joined b.managers) (commits_if_all (ending b) []) (Pending (missing b.accepted) (unreplied (ending b).managers))) ∙ e

    by : (c : Bool) → (all_voted (ending b).accepted && all_replied (ending b).managers) ≡ c → HasSettle b.key ToCommit (begins_ending b)
    by false f =
        let P : Bool → Type 0 = λ z. end_answer (if z then commits (ending b) [] else []) (Pending (missing b.accepted) (unreplied (ending b).managers)) ≡ Normal in
        absurd (let g : Pending (missing b.accepted) (unreplied (ending b).managers) ≡ Normal = subst P f left in let h : ⊥ = cc in h)
    by true f =
        let a : Act = Settles b.key ToCommit ByRequest (owing b.key (yes_of b.accepted) (holding (ending b).managers)) in
        let P : Bool → Type 0 = λ z. In a (if z then commits (ending b) [] else []) in
        let there : In a (commits_if_all (ending b) []) = subst P (sym f) (inl refl) in (
          ByRequest,
          owing b.key (yes_of b.accepted) (holding (ending b).managers),
          inr (in_right a (sends_all (to_each Prepare b.key.tid (serials b.accepted))) (tells (which_event b.changed b.accepted b.managers) b.key (joined b.managers) ++ commits_if_all (ending b) [])
              (in_right a (tells (which_event b.changed b.accepted b.managers) b.key (joined b.managers)) (commits_if_all (ending b) []) there)),
        )

ends_row : (x : Node) (b : Branch) → find (first b.key.tid) x.volatile.branches ≡ Some b → is_active b.state ≡ true → end_answer (row (tm_of x) (rows.EndTrans b.key.tid)) Normal ≡ Normal → HasSettle (first b.key.tid) ToCommit (row (tm_of x) (rows.EndTrans b.key.tid))
ends_row x b f active e =
    let P : Option Branch → Type 0 = λ d. end_answer (rows.end_trans_row d) Normal ≡ Normal → HasSettle (first b.key.tid) ToCommit (rows.end_trans_row d) in
    subst P (sym f) (state b.state active) e
  where
    state : (s : State) → is_active s ≡ true → end_answer (rows.end_trans_state b s) Normal ≡ Normal → HasSettle (first b.key.tid) ToCommit (rows.end_trans_state b s)
    state Active k h = (let P : Key → Type 0 = λ j. HasSettle j ToCommit (rows.end_trans_state b Active) in subst P (find-key (first b.key.tid) x.volatile.branches b f) (ends b (all_taken b.bids b.accepted) h))
    state Joining k h = absurd (let z : false ≡ true = k in let g : ⊥ = cc in g)
    state Ending k h = absurd (let z : false ≡ true = k in let g : ⊥ = cc in g)
    state Voting k h = absurd (let z : false ≡ true = k in let g : ⊥ = cc in g)
    state Prepared k h = absurd (let z : false ≡ true = k in let g : ⊥ = cc in g)

-- The part.

-- what an END_TRANS that succeeded has done
record HasEnded (v mid : World) (n : Name) (label : List ℕ) : Type 0 where
  node : Node
  branch : Branch
  found : find_node n v.nodes ≡ Some node
  named : branch_labelled v.shared node label ≡ Some branch
  settled : (r : Resolution) → IsSettled r mid (first branch.key.tid) ToCommit

refusals : (s : Shared) (x : Node) (label : List ℕ) → NotNormal (refused_before_reading s x (service (EndTrans label)))
refusals s x label = not_first (refused_if (not (x.up || false)) line.NodeDown) (first_of (answers.made_label s x label) (first_of (answers.unsettled_label s x label) (answers.in_state is_first_active (branch_labelled s x label))))
    (not_if (not (x.up || false)) line.NodeDown refl)
    (not_first (answers.made_label s x label) (first_of (answers.unsettled_label s x label) (answers.in_state is_first_active (branch_labelled s x label))) (made (world.labelled x.name label s.labels))
    (not_first (answers.unsettled_label s x label) (answers.in_state is_first_active (branch_labelled s x label)) (unsettled (branch_labelled s x label)) (state (branch_labelled s x label))))
  where
    made : (d : Option world.Label) → NotNormal (elim d [ Some l ↦ None | None ↦ Some line.BadLabel ])
    made (Some l) = not_none
    made None = not_if true line.BadLabel refl

    unsettled : (d : Option Branch) → NotNormal (answers.unsettled d)
    unsettled (Some b) = not_none
    unsettled None = not_if true line.NoSuchTransaction refl

    state : (d : Option Branch) → NotNormal (answers.in_state is_first_active d)
    state (Some b) = not_if (not (is_first_active b)) line.WrongState refl
    state None = not_none

ended_at : (v : World) (n : Name) (label : List ℕ) (c : Choice) (x : Node) → find_node n v.nodes ≡ Some x → (task_effect v.shared (stops_at n v) x (Serves (EndTrans label)) c).answer ≡ Normal → HasEnded v (put_into v n (task_effect v.shared (stops_at n v) x (Serves (EndTrans label)) c)).world n label
ended_at v n label c x found normal = elim (cases_Bool e.ends) [
  | inl stopped ↦ absurd (let z : true ≡ false = ap is_normal (sym normal) ∙ stopped_by v.shared (stops_at n v) x (service (EndTrans label)) c refl (refusals v.shared x label) (λ y. not_none) stopped in let g : ⊥ = cc in g)
  | inr on ↦ went on
]
  where
    e : TaskEffect
    e = task_effect v.shared (stops_at n v) x (Serves (EndTrans label)) c

    went : (task_effect v.shared (stops_at n v) x (Serves (EndTrans label)) c).ends ≡ false → HasEnded v (put_into v n (task_effect v.shared (stops_at n v) x (Serves (EndTrans label)) c)).world n label
    went on =
        let s : Shared = v.shared in
        let f : TaskEffect = task_effect s (stops_at n v) x (Serves (EndTrans label)) c in
        let g = went_on s (stops_at n v) x (service (EndTrans label)) c refl on in
        let u = serves_up s x (service (EndTrans label)) refl g.before in
        let h1 = first_none (answers.made_label s x label) (first_of (answers.unsettled_label s x label) (answers.in_state is_first_active (branch_labelled s x label))) u.1 in
        let h2 = first_none (answers.unsettled_label s x label) (answers.in_state is_first_active (branch_labelled s x label)) h1.1 in
        let q = named_branch (branch_labelled s x label) is_first_active h2.0 h2.1 in
        let b : Branch = q.0 in
        let p = parts_true (is_first b) (is_active b.state) q.2 in
        let there = first_found x b (labelled_found s x label b q.1) p.0 in
        let todo : List Act = row (tm_of x) (rows.EndTrans b.key.tid) in
        let P : Option Branch → Type 0 = λ d. (let a : Line = elim d [ Some z ↦ end_answer (row (tm_of x) (rows.EndTrans z.key.tid)) Normal | None ↦ Normal ] in a) ≡ Normal in
        let ends_so : end_answer todo Normal ≡ Normal = subst P q.1 (sym g.answer ∙ normal) in
        let settle = rows_settle todo s x (first b.key.tid) ToCommit (ends_row x b there p.1 ends_so) in
        let Q : Option Branch → Type 0 = λ d. f.node ≡ node_after_rows (let rs : List Row = elim d [ Some z ↦ told_rows s x (just (rows.EndTrans z.key.tid)) | None ↦ [] ] in rs) x in
        let node : f.node ≡ node_after_rows (table_rows todo s x) x = subst Q q.1 g.node in
        let keep = table_rows_keep todo s x in
        let named : f.node.name ≡ n = ap (λ (z : Node). z.name) node ∙ (ap (λ (m : Rattle.commit_protocol.specs.Table.Tm). m.node) keep.0 ∙ (after_node todo (tm_of x) ∙ name_found n v.nodes x found)) in
        let S : Node → Type 0 = λ z. In settle.0 z.settled in
        record {
          node = x;
          branch = b;
          found = found;
          named = q.1;
          settled = λ r. (n, f.node, found_put n f.node x v.nodes named found, (settle.0, landed_keeps (r n) f.node settle.0 (subst S (sym node) settle.1), settle.2));
        }
      where
        after_node : (acts : List Act) (tm : Rattle.commit_protocol.specs.Table.Tm) → (Rattle.commit_protocol.specs.Table.after acts tm).node ≡ tm.node
        after_node [] tm = refl
        after_node (a ∷ acts) tm = after_node acts (Rattle.commit_protocol.specs.Table.after_act a tm)

        -- a settlement stays, whatever act is under way
        act_keeps : (act : world.Act) (z : Node) (t : Settlement) → In t z.settled → In t (acted act z).settled
        act_keeps (Tables a moment) z t i = keeps_settled a moment z t i
        act_keeps (world.Directs file changes d) z t i = inr i
        act_keeps (world.Formats slots journal) z t i = i
        act_keeps world.Boots z t i = i
        act_keeps world.ComesUp z t i = i
        act_keeps (world.Creates place file) z t i = i
        act_keeps (world.Marks file mark) z t i = i
        act_keeps (world.Saves file start) z t i = i
        act_keeps (world.Recovers file start buckets m) z t i = i
        act_keeps world.Draws z t i = i
        act_keeps (world.Labels l) z t i = i
        act_keeps (world.Numbers l serial) z t i = i
        act_keeps (world.Changes tid serial file changes keys) z t i = i
        act_keeps (world.Holds serial file keys) z t i = i
        act_keeps (world.Arms writes choice) z t i = i
        act_keeps (world.Clocks now) z t i = i
        act_keeps (world.Declares rms) z t i = i
        act_keeps world.Falls z t i = i

        landed_keeps : (t : Bool) (z : Node) (d : Settlement) → In d z.settled → In d (landed t z).settled
        landed_keeps false z d i = i
        landed_keeps true z d i = by z.under_way
          where
            by : (a : Option world.Act) → In d (let y : Node = elim a [ Some act ↦ acted act z | None ↦ z ] in y).settled
            by None = i
            by (Some act) = act_keeps act z d i

ended_by : (v : World) (n : Name) (label : List ℕ) (c : Choice) → (done_at v n (Serves (EndTrans label)) c).answer ≡ Normal → HasEnded v (done_at v n (Serves (EndTrans label)) c).world n label
ended_by v n label c h = by (find_node n v.nodes) refl h
  where
    by : (d : Option Node) → find_node n v.nodes ≡ d → (let e : PartEffect = elim d [ Some x ↦ put_into v n (task_effect v.shared (stops_at n v) x (Serves (EndTrans label)) c) | None ↦ statements.no_node v ] in e).answer ≡ Normal
        → HasEnded v (let e : PartEffect = elim d [ Some x ↦ put_into v n (task_effect v.shared (stops_at n v) x (Serves (EndTrans label)) c) | None ↦ statements.no_node v ] in e).world n label
    by None f k = absurd (let z : line.NoSuchNode ≡ Normal = k in let g : ⊥ = cc in g)
    by (Some x) f k = ended_at v n label c x f k

step_ends : (v mid : World) (n : Name) (label : List ℕ) (events : List Line) → Step v (At n (EndTrans label)) (events ++ Normal ∷ []) mid → HasEnded v mid n label
step_ends v mid n label events h = begins (refused_at_once v (At n (EndTrans label))) refl h.does
  where
    normal : Normal ≡ h.answer
    normal = last_same events h.events Normal h.answer h.shows

    ended_in : (u : World) → h.world ≡ u → HasEnded v u n label → HasEnded v mid n label
    ended_in u e k =
        let to : mid ≡ record u { disks = mid.disks } = h.goes ∙ ap (λ (z : World). (let w : World = record z { disks = mid.disks } in w)) e in
        let P : World → Type 0 = λ z. HasEnded v z n label in
        subst P (sym to) (record { node = k.node; branch = k.branch; found = k.found; named = k.named; settled = k.settled })

    part : (c : Choice) → (b : Bool) → (done_at v n (Serves (EndTrans label)) c).ends ≡ b
        → (let t : Type 0 = elim b [
          | true ↦ (h.events ≡ (done_at v n (Serves (EndTrans label)) c).lines) × (h.answer ≡ (done_at v n (Serves (EndTrans label)) c).answer) × (h.world ≡ (done_at v n (Serves (EndTrans label)) c).world)
          | false ↦ (rest : List Line) × (h.events ≡ (done_at v n (Serves (EndTrans label)) c).lines ++ rest) × Finished (done_at v n (Serves (EndTrans label)) c).world (done_at v n (Serves (EndTrans label)) c).answer rest h.answer h.world
        ] in t) → HasEnded v mid n label
    part c true e t = ended_in (done_at v n (Serves (EndTrans label)) c).world t.2 (ended_by v n label c (sym t.1 ∙ sym normal))
    part c false e t = ended_in (done_at v n (Serves (EndTrans label)) c).world t.2.2 (ended_by v n label c (sym t.2.1 ∙ sym normal))

    begins : (l : Option Line) → refused_at_once v (At n (EndTrans label)) ≡ l → Begins l (Phases (statements.phases_of (At n (EndTrans label))) mid.disks v Normal) v h.events h.answer h.world → HasEnded v mid n label
    begins (Some refusal) e k =
        let no : NotNormal (refused_at_once v (At n (EndTrans label))) = not_first (named_node v n) None (by (find_node n v.nodes)) not_none in
        absurd (let z : true ≡ false = ap is_normal (normal ∙ k.1) ∙ no refusal e in let g : ⊥ = cc in g)
      where
        by : (d : Option Node) → NotNormal (elim d [ Some x ↦ None | None ↦ Some line.NoSuchNode ])
        by (Some x) = not_none
        by None = not_if true line.NoSuchNode refl
    begins None e k = part k.0 (done_at v n (Serves (EndTrans label)) k.0).ends refl k.2

pub ends_commit : (base v mid u : World) (es fs : List Entry) (n : Name) (label : List ℕ) (events : List Line) → IsRun base es v → Step v (At n (EndTrans label)) (events ++ Normal ∷ []) mid → RunsFrom mid fs u →
    (x : Node) × (b : Branch) × (find_node n v.nodes ≡ Some x) × (branch_labelled v.shared x label ≡ Some b) × ((r : Resolution) → HasOutcome base r u (first b.key.tid) ToCommit)
ends_commit base v mid u es fs n label events h step after =
    let e = step_ends v mid n label events step in
    let sim = step_sim (opening_of base) v (At n (EndTrans label)) (events ++ Normal ∷ []) mid (λ m slots journal q. absurd (no_init m slots journal q)) step in
    let reached = reached_next base v mid h.agrees sim (λ r. reached_by base v es h r) in
    let s = stays base mid u fs h.agrees reached after in
    (e.node, e.branch, e.found, e.named, λ r. (let q = s r in q.1 (first e.branch.key.tid) ToCommit (inr (e.settled q.0))))
  where
    no_init : (m : Name) (slots journal : ℕ) → At n (EndTrans label) ≡ At m (Init slots journal) → ⊥
    no_init m slots journal q = cc
