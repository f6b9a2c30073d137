-- What lines tell of unprepared branches is so in each world of a run.
use Rattle.std.proofs.Common.{◌≡◌, ℕ, ◌+◌, ◌*◌, ◌⊎◌, List, [], ◌∷◌, ◌++◌, inl, inr, Bool, true, false, not, ◌||◌, ◌&&◌, Option, Some, None, if◌then◌else◌, refl, sym, ◌∙◌, ap, subst}
use Rattle.std.specs.List.{last_or}
use Rattle.std.specs.Option.{option_map, option_and_then}
use Rattle.std.specs.Str.{bytes_eq}
use Rattle.std.proofs.lemmas.Slice.Eq.{bytes_eq-Decides}
use Rattle.vms_model.specs.Ids.{Id}
use Rattle.vms_model.specs.Transactions.{Reason, Aborted, SyncFail}
use Rattle.run_said.specs.transcript_model.Lines as line
use Rattle.run_said.specs.transcript_model.Lines.{Line, Cause}
use Rattle.run_said.specs.script_model.Statements.{Statement, At, Deliver, LinkDown, Settle, Request, StartTrans, AddBranch, StartBranch, EndBranch, EndTrans, AbortTrans, Inquire, JoinRm, AckEvent, Clock, Reading, Blank, Says, Bad}
use Rattle.run_said.specs.script_model.Grammar.{reading}
use Rattle.commit_protocol.specs.Messages as message
use Rattle.commit_protocol.specs.Messages.{Message, Name, RmEvent}
use Rattle.commit_protocol.specs.Table as table
use Rattle.commit_protocol.specs.Table.{Branch, Child, State, Active, Joining, Ending, Key as BranchKey, Settles, Sends, Prints, child, cut, first, is_first, put, same_key, table_after}
use Rattle.commit_protocol.specs.Allowed.{is_prepared}
use Rattle.commit_protocol.specs.Rows as rows
use Rattle.commit_protocol.specs.Rows.{Event, all_replied, all_taken, all_voted, begins_ending, blank, commits_if_all, ending, row, sends_all, serials, tells, to_each, which_event, joined, told_abort, interested, yes_of}
use Rattle.commit_protocol.specs.World.{In}
use Rattle.commit_protocol.proofs.Lists.{in_left, same_key-refl}
use Rattle.run_said.specs.run_model.World as world
use Rattle.run_said.specs.run_model.World.{World, Shared, Node, Label, DiskCounts, Tables, acted, find_node, labelled, next_id, next_moment, opened, shared_after, tm_of, with_node}
use Rattle.run_said.specs.run_model.Answers as answers
use Rattle.run_said.specs.run_model.Answers.{Row, Service, Task, Serves, Ticks, Takes, Hears, LosesLink, RunsDown, Restarts, powers, touches, service, task_service, end_answer, begins, branch_labelled, is_first_active, just, made_label, refused_before_reading, silent, table_rows, told_if, told_rows, unsettled_label}
use Rattle.run_said.specs.run_model.Steps.{Choice, Whole, WithoutMemory, Unpowered, Cut, TaskAllowed, TaskEffect, refused, succeeded, task_effect, lines_of_rows, node_after_rows, ready_node, begun, whole}
use Rattle.run_said.specs.run_model.Operations.{first_of}
use Rattle.run_said.specs.run_model.Statements.{Part, Does, PartEffect, Parts, Then, Allowed, AllowedAt, done_at, named_node, no_node, part_effect, Begins, Phases, Step, put_into, stops_at, RoseAt, phases_of, refused_at_once, begun_with, message_at, where_up}
use Rattle.run_said.specs.run_model.Transcript.{Entry, Legal, Turn as LineTurn, AreOpening}
use Rattle.run_said.specs.run_model.StepLaws.{TaskAt, is_refusal, task_of}
use Rattle.run_said.proofs.run_model.NodeLists.{clash, found_name, put_node, put_same, some_is}
use Rattle.run_said.proofs.run_model.TaskLemmas as tasks
use Rattle.run_said.proofs.run_model.TaskLemmas.{First, Late, Success, Lacking, Failing, effect_name, outcome, rows_name}
use Rattle.run_said.proofs.run_model.CauseLemmas.{refuses_first, refuses_then}
use Rattle.run_said.proofs.run_model.PartLemmas.{allowed_here, done_here, phases_fold}
use Rattle.run_said.proofs.run_model.PartTasks.{each_up, named_found}
use Rattle.run_said.proofs.run_model.Failing.{once_refuses}
use Rattle.run_said.proofs.run_model.Refusing.{not_ready, refusals}
use Rattle.run_laws.specs.Causes.{HasJoined, WasBegun, WasEnded, clock_here, clock_told}
use Rattle.run_laws.proofs.Contents.{ArePutting, Comes, IsTold, bare, begins_none, rows_come}
use Rattle.run_laws.proofs.Coming.{Came, Never, effect_came}
use Rattle.run_laws.proofs.Ending.{active_is, active_unprepared, end_row, named_branch, row_is, sends_answer, tells_answer}
use Rattle.run_laws.proofs.Directed.{neither}
use Rattle.run_laws.proofs.Labelling.{Succeeds, label_of, refused_rest, request_ends, unused_outcome}
use Rattle.run_laws.proofs.Making.{state_holds}
use Rattle.run_laws.proofs.Moments.{opening_found}
use Rattle.run_laws.proofs.NamedRuns.{legal_named}
use Rattle.run_laws.proofs.Named.{Ended, Refused, Turned, Named, ended}
use Rattle.run_laws.proofs.Leading.{AcceptOthers, AreApart, taken, turn_apart}
use Rattle.run_laws.proofs.Told.{AreTold, BranchTold, IsApart, WasGiven, ended_later, from_ending, from_told, heir_told, heir_of_bare}
use Rattle.run_laws.proofs.ToldParts.{IsThinPart, Thins, found_after, link_phases, phases_thin, settle_phases, thins_disks, thins_same}
use Rattle.run_laws.proofs.TurnsTell.{HaveSteps, found_step, put_step, last_is, legal_told}

-- Statements that leave branches as they are, or fewer.

pub thin_told : (e : Entry) (es : List Entry) (w v : World) → ((name : List ℕ) → clock_told name (e ∷ es) ≡ clock_told name es) → Thins w v → AreTold es w → AreTold (e ∷ es) v
thin_told e es w v clock f h = record {
  told = λ node m found b i u. let x = f.node node m found in let y = (x.3 b i u).0 in heir_told e es y.0 b y.3 (h.told node x.0 x.1 y.0 y.1 y.2);
  ended = λ node m found up b i u ends.
      let x = f.node node m found in
      let r = x.3 b i u in
      let y = r.0 in
      subst (λ (k : BranchKey). WasEnded (e ∷ es) k.tid) (sym y.3.key) (ended_later e es y.0.key.tid (h.ended node x.0 x.1 (r.1 up) y.0 y.1 y.2 (y.3.ends ends)));
  clocks = λ node m found. let x = f.node node m found in x.2 ∙ h.clocks node x.0 x.1 ∙ sym (clock node);
}

same_thins : (w v : World) → v ≡ record w { disks = v.disks } → Thins w v
same_thins w v e = subst (Thins w) (sym e) (thins_disks w w v.disks (thins_same w))

-- Statements that are one task.

module _ (e : Entry) (es : List Entry) (w v : World) (node : List ℕ) (t : Task) (n : Node) (c : Choice) (h : AreTold es w) (clock : (name : List ℕ) → clock_told name (e ∷ es) ≡ clock_told name es) (begins : begins_none t ≡ true) (found : find_node node w.nodes ≡ Some n) (steps : HaveSteps w.nodes)
    (shows : (l : Line) → In l (task_effect w.shared (stops_at node w) n t c).lines → In l e.lines) (goes : v ≡ record (put_into w node (task_effect w.shared (stops_at node w) n t c)).world { disks = v.disks }) (leads : (m : Message) → IsTold w.shared n t (rows.Got m) → IsApart m)
    (ends : (ev : Event) (x : Branch) → IsTold w.shared n t ev → ev ≡ rows.EndTrans x.key.tid → x.key ≡ first x.key.tid → In x (task_effect w.shared (stops_at node w) n t c).node.volatile.branches → is_prepared x.state ≡ false → x.state ≡ Ending → (task_effect w.shared (stops_at node w) n t c).node.up ≡ true → WasEnded (e ∷ es) x.key.tid) where
  abbrev t_e : TaskEffect
  t_e = task_effect w.shared (stops_at node w) n t c

  came : Came w.shared t t_e.lines n t_e.node
  came = effect_came w.shared (stops_at node w) n t c begins (found_step node w.nodes n steps found)

  there : (name : List ℕ) (x : Node) → find_node name v.nodes ≡ Some x → (find_node name w.nodes ≡ Some x) ⊎ ((find_node name w.nodes ≡ Some n) × (x ≡ t_e.node))
  there = found_after w v node n t_e.node (effect_name w.shared (stops_at node w) n t c) found (ap (λ (y : World). y.nodes) goes)

  pub task_told : AreTold (e ∷ es) v
  task_told = record {
    told = λ name m is b i u. elim (there name m is) [
      | inl old ↦ heir_told e es b b (heir_of_bare b b refl) (h.told name m old b i u)
      | inr both ↦ from_told e es w.shared n t t_e.lines b shows (h.told name n both.0) leads u (came.from b (subst (λ (y : Node). In b y.volatile.branches) both.1 i) u)
    ];
    ended = λ name m is up b i u q. elim (there name m is) [
      | inl old ↦ ended_later e es b.key.tid (h.ended name m old up b i u q)
      | inr both ↦ (
          let j = subst (λ (y : Node). In b y.volatile.branches) both.1 i in
          let up_e = ap (λ (y : Node). y.up) (sym both.1) ∙ up in
          elim (from_ending w.shared n t t_e.lines b u q (came.from b j u)) [
            | inl y ↦ subst (λ (k : BranchKey). WasEnded (e ∷ es) k.tid) (sym y.4) (ended_later e es y.0.key.tid (h.ended name n both.0 (came.up b j u up_e) y.0 y.1 y.2 y.3))
            | inr by ↦ ends by.0 b by.1 by.2 by.3 j u q up_e
          ]
          )
    ];
    clocks = λ name m is. elim (there name m is) [
      | inl old ↦ h.clocks name m old ∙ sym (clock name)
      | inr both ↦ ap (λ (y : Node). y.clock) both.1 ∙ came.clock ∙ h.clocks name n both.0 ∙ sym (clock name)
    ];
  }

-- The clock of a node.

not_clock : (name : List ℕ) (s : Statement) (answer : Option Line) (clock : ℕ) → ((node : List ℕ) (now : ℕ) → s ≡ At node (Clock now) → ⊥) → clock_here name (Says s) answer clock ≡ clock
not_clock name (At node (Clock now)) answer clock never = absurd (never node now refl)
not_clock name (At node _) answer clock never = refl
not_clock name (Deliver number) answer clock never = refl
not_clock name (LinkDown a b) answer clock never = refl
not_clock name Settle answer clock never = refl

refused_clock : (name node : List ℕ) (now : ℕ) (refusal : Line) (clock : ℕ) → is_refusal refusal ≡ true → clock_here name (Says (At node (Clock now))) (Some refusal) clock ≡ clock
refused_clock name node now line.Normal clock h = let no : ⊥ = cc in absurd no
refused_clock name node now _ clock h = refl

-- Acts that leave the branches.

abbrev pub tables : List table.Act → List Branch → List Branch
tables [] bs = bs
tables (a ∷ todo) bs = tables todo (table_after a bs)

pub rows_tables : (todo : List table.Act) (s : Shared) (n : Node) → (node_after_rows (table_rows todo s n) n).volatile.branches ≡ tables todo n.volatile.branches
rows_tables [] s n = refl
rows_tables (a ∷ todo) s n = rows_tables todo (shared_after (Tables a (next_moment n)) s) (acted (Tables a (next_moment n)) n)

pub sends_tables : (ms : List Message) (more : List table.Act) (bs : List Branch) → tables (sends_all ms ++ more) bs ≡ tables more bs
sends_tables [] more bs = refl
sends_tables (m ∷ ms) more bs = sends_tables ms more bs

pub tells_tables : (event : RmEvent) (k : BranchKey) (xs : List Name) (more : List table.Act) (bs : List Branch) → tables (tells event k xs ++ more) bs ≡ tables more bs
tells_tables event k [] more bs = refl
tells_tables event k (x ∷ xs) more bs = tells_tables event k xs more bs

ended_tables : (b : Branch) (s : State) (reason : Option Reason) (bs : List Branch) → tables (rows.ended b s reason) bs ≡ bs
ended_tables b Ending reason bs = refl
ended_tables b _ reason bs = refl

cut_key : (k : BranchKey) (x : Branch) (bs : List Branch) → In x (cut k bs) → x.key ≡ k → ⊥
cut_key k x [] i same = i
cut_key k x (y ∷ bs) i same = go (same_key y.key k) refl i (λ j. cut_key k x bs j same)
  where
    go : (t : Bool) → same_key y.key k ≡ t → In x (if t then cut k bs else y ∷ cut k bs) → (In x (cut k bs) → ⊥) → ⊥
    go true is j more = more j
    go false is (inl here) more = clash _ (ap (λ j. same_key j k) (ap (λ (b : Branch). b.key) (sym here) ∙ same) ∙ same_key-refl k) is
    go false is (inr j) more = more j

-- an END_TRANS that leaves its branch unsettled is answered that something is missing
end_pending : (b x : Branch) (bs : List Branch) → In x (tables (if all_taken b.bids b.accepted then begins_ending b else rows.aborts SyncFail b) bs) → x.key ≡ b.key → (ss : List Id) × (rms : List Name) × (end_answer (if all_taken b.bids b.accepted then begins_ending b else rows.aborts SyncFail b) line.Normal ≡ line.Pending ss rms)
end_pending b x bs i key = go (all_taken b.bids b.accepted) i
  where
    sent : List Message
    sent = to_each message.Prepare b.key.tid (serials b.accepted)

    event : RmEvent
    event = which_event b.changed b.accepted b.managers

    all : (t : Bool) → all_voted b.accepted && all_replied (ending b).managers ≡ t → In x (tables (begins_ending b) bs) → (ss : List Id) × (rms : List Name) × (end_answer (begins_ending b) line.Normal ≡ line.Pending ss rms)
    all true is j =
        let acts : commits_if_all (ending b) [] ≡ rows.commits (ending b) [] = rw is refl in
        let left : tables (begins_ending b) bs ≡ cut b.key (put (ending b) bs) =
        sends_tables sent (tells event b.key (joined b.managers) ++ commits_if_all (ending b) []) (put (ending b) bs) ∙ tells_tables event b.key (joined b.managers) (commits_if_all (ending b) []) (put (ending b) bs) ∙ ap (λ todo. tables todo (put (ending b) bs)) acts
        ∙ sends_tables (to_each message.Commit b.key.tid (yes_of b.accepted)) (tells message.CommitEvent b.key (table.holding (ending b).managers) ++ []) (cut b.key (put (ending b) bs)) ∙ tells_tables message.CommitEvent b.key (table.holding (ending b).managers) [] (cut b.key (put (ending b) bs)) in
        absurd (cut_key b.key x (put (ending b) bs) (subst (In x) left j) key)
    all false is j =
        let acts : commits_if_all (ending b) [] ≡ [] = rw is refl in
        (answers.missing b.accepted, answers.unreplied (ending b).managers, sends_answer sent (tells event b.key (joined b.managers) ++ commits_if_all (ending b) []) (line.Pending (answers.missing b.accepted) (answers.unreplied (ending b).managers)) ∙ tells_answer event b.key (joined b.managers) (commits_if_all (ending b) []) (line.Pending (answers.missing b.accepted) (answers.unreplied (ending b).managers)) ∙ ap (λ todo. end_answer todo (line.Pending (answers.missing b.accepted) (answers.unreplied (ending b).managers))) acts)

    go : (t : Bool) → In x (tables (if t then begins_ending b else rows.aborts SyncFail b) bs) → (ss : List Id) × (rms : List Name) × (end_answer (if t then begins_ending b else rows.aborts SyncFail b) line.Normal ≡ line.Pending ss rms)
    go true j = all (all_voted b.accepted && all_replied (ending b).managers) refl j
    go false j =
        let left : tables (rows.aborts SyncFail b) bs ≡ cut b.key bs =
        sends_tables (told_abort b.key.tid b.accepted) (tells message.AbortEvent b.key (interested b.managers) ++ rows.ended b b.state (Some SyncFail)) (cut b.key bs) ∙ tells_tables message.AbortEvent b.key (interested b.managers) (rows.ended b b.state (Some SyncFail)) (cut b.key bs) ∙ ended_tables b b.state (Some SyncFail) (cut b.key bs) in
        absurd (cut_key b.key x bs (subst (In x) left j) key)

-- END_TRANS.
module _ (e : Entry) (es : List Entry) (w v : World) (node label : List ℕ) (h : AreTold es w) (named : Named es w) (said : reading e.source.text ≡ Says (At node (EndTrans label))) (n : Node) (c : Choice) (found : find_node node w.nodes ≡ Some n) (rises : Cause → Type 0)
    (allowed : TaskAllowed w.shared (stops_at node w) n (Serves (EndTrans label)) rises c) (shows : e.lines ≡ (task_effect w.shared (stops_at node w) n (Serves (EndTrans label)) c).lines ++ (task_effect w.shared (stops_at node w) n (Serves (EndTrans label)) c).answer ∷ []) where
  abbrev eff : TaskEffect
  eff = task_effect w.shared (stops_at node w) n (Serves (EndTrans label)) c

  end_succeeds : (b x : Branch) → branch_labelled w.shared n label ≡ Some b → x.key.tid ≡ b.key.tid → x.key ≡ first x.key.tid → refused_before_reading w.shared n (service (EndTrans label)) ≡ None → eff ≡ succeeded w.shared n (service (EndTrans label)) → In x eff.node.volatile.branches → WasEnded (e ∷ es) x.key.tid
  end_succeeds b x labelled_b tid key first_none is i =
      let rest = neither (unsettled_label w.shared n label) _ (neither (made_label w.shared n label) _ (refused_rest (not (n.up || false)) _ first_none)).1 in
      let active = state_holds is_first_active (branch_labelled w.shared n label) b labelled_b rest.1 in
      let a = active_is b active in
      let row_so = row_is n b (label_of w.shared n label b labelled_b).finds active in
      let rows_so : (service (EndTrans label)).rows w.shared n ≡ table_rows (end_row b) w.shared n = ap (λ (o : Option Branch). elim o [ Some y ↦ told_rows w.shared n (just (rows.EndTrans y.key.tid)) | None ↦ [] ]) labelled_b ∙ ap (λ todo. table_rows todo w.shared n) row_so in
      let left : eff.node.volatile.branches ≡ tables (end_row b) n.volatile.branches = ap (λ (y : TaskEffect). y.node.volatile.branches) is ∙ ap (λ rs. (node_after_rows rs n).volatile.branches) rows_so ∙ rows_tables (end_row b) w.shared n in
      let r = end_pending b x n.volatile.branches (subst (In x) left i) (key ∙ ap first tid ∙ sym a.0) in
      let answer_so : eff.answer ≡ line.Pending r.0 r.1 = ap (λ (y : TaskEffect). y.answer) is ∙ ap (λ (o : Option Branch). elim o [ Some y ↦ end_answer (row (tm_of n) (rows.EndTrans y.key.tid)) line.Normal | None ↦ line.Normal ]) labelled_b ∙ ap (λ todo. end_answer todo line.Normal) row_so ∙ r.2 in
      let nb = named_branch es w node label n b named found labelled_b (active_unprepared b a.1) in
      let same : b.key.tid ≡ b.key.serial = sym (ap (λ (k : BranchKey). k.serial) a.0) in
      let home : x.key.tid.node ≡ node = ap (λ (y : Id). y.node) (tid ∙ same) ∙ nb.home in
      let begun : WasBegun es x.key.tid.node label x.key.tid = subst (λ y. WasBegun es y label x.key.tid) (sym home) (subst (WasBegun es node label) (sym tid) (nb.begun same)) in
      (es, label, eff.lines, r.0, r.1, record { after = []; entry = e; stands = refl; said = said ∙ ap (λ y. Says (At y (EndTrans label))) (sym home); shown = shows ∙ ap (λ l. eff.lines ++ l ∷ []) answer_so }, begun)

  end_ends : (ev : Event) (x : Branch) → IsTold w.shared n (Serves (EndTrans label)) ev → ev ≡ rows.EndTrans x.key.tid → x.key ≡ first x.key.tid → In x eff.node.volatile.branches → is_prepared x.state ≡ false → x.state ≡ Ending → eff.node.up ≡ true → WasEnded (e ∷ es) x.key.tid
  end_ends ev x (b, labelled_b, is) by key i u q up = go (outcome w.shared (stops_at node w) n (Serves (EndTrans label)) rises c allowed)
    where
      tid : x.key.tid ≡ b.key.tid
      tid = let same : rows.EndTrans x.key.tid ≡ rows.EndTrans b.key.tid = sym by ∙ is in cc

      still : eff.node ≡ n → WasEnded (e ∷ es) x.key.tid
      still same = ended_later e es x.key.tid (h.ended node n found (ap (λ (y : Node). y.up) (sym same) ∙ up) x (subst (λ (y : Node). In x y.volatile.branches) same i) u q)

      go : tasks.Outcome w.shared (stops_at node w) n (Serves (EndTrans label)) rises eff → WasEnded (e ∷ es) x.key.tid
      go (First refusal first_so f) = still (ap (λ (y : TaskEffect). y.node) f)
      go (Late outturn refusal may first_so late f) = still (ap (λ (y : TaskEffect). y.node) f ∙ not_ready outturn (stops_at node w) (service (EndTrans label)) n refl)
      go (Success outturn may first_so late f) = end_succeeds b x labelled_b tid key first_so (f ∙ ap (λ m. succeeded w.shared m (service (EndTrans label))) (not_ready outturn (stops_at node w) (service (EndTrans label)) n refl)) i
      go (Lacking first_so takes f) = still (ap (λ (y : TaskEffect). y.node) f)
      go (Failing cause shown goes_on first_so rises_so shows_so down answers_so ends_so) = absurd (clash _ up down)

-- START_TRANS and START_BRANCH.

bare_told : (es : List Entry) (b x : Branch) → bare x ≡ bare b → BranchTold es b → BranchTold es x
bare_told es b x same t =
    let key : x.key ≡ b.key = ap (λ (y : Branch). y.key) same in
    record {
      given = λ f due is. subst (λ (k : BranchKey). WasGiven es k.tid due) (sym key) (t.given (ap (λ (k : BranchKey). same_key k (first k.tid)) (sym key) ∙ f) due (sym (ap (λ (y : Branch). y.due) same) ∙ is));
      joined = λ c i. subst (λ (k : BranchKey). HasJoined es k.tid c.serial) (sym key) (t.joined c (subst (In c) (ap (λ (y : Branch). y.accepted) same) i));
      apart = λ c i e. t.apart c (subst (In c) (ap (λ (y : Branch). y.accepted) same) i) (e ∙ ap (λ (k : BranchKey). k.tid) key);
      unasked = λ a e. t.unasked (ap (λ (y : Branch). y.asked) (sym same) ∙ a) (ap (λ (k : BranchKey). k.serial) (sym key) ∙ e ∙ ap (λ (k : BranchKey). k.tid) key);
    }

-- a branch begins of which this is told, and which does not end
begin_told : (e : Entry) (es : List Entry) (w v : World) (node : List ℕ) (n m : Node) (ls : List Line) (N : Branch → Type 0) → AreTold es w → ((name : List ℕ) → clock_told name (e ∷ es) ≡ clock_told name es) → find_node node w.nodes ≡ Some n → m.name ≡ n.name → v.nodes ≡ with_node node (λ k. m) w.nodes →
    Comes N Never ls n m → ((y : Branch) → N y → BranchTold (e ∷ es) y × (y.state ≡ Ending → ⊥)) → AreTold (e ∷ es) v
begin_told e es w v node n m ls N h clock found named nodes comes new = record {
  told = λ name k is b i u. elim (there name k is) [
    | inl old ↦ heir_told e es b b (heir_of_bare b b refl) (h.told name k old b i u)
    | inr both ↦ (
        let y = comes.from b (subst (λ (z : Node). In b z.volatile.branches) both.1 i) u in
        elim y.2 [
          | inl old ↦ heir_told e es y.0 b (heir_of_bare y.0 b y.1) (h.told name n both.0 y.0 old (ap (λ (z : Branch). is_prepared z.state) (sym y.1) ∙ u))
          | inr put ↦ elim put [ inl is_new ↦ bare_told (e ∷ es) y.0 b y.1 (new y.0 is_new).0 | inr none ↦ absurd none.2 ]
        ]
        )
  ];
  ended = λ name k is up b i u q. elim (there name k is) [
    | inl old ↦ ended_later e es b.key.tid (h.ended name k old up b i u q)
    | inr both ↦ (
        let y = comes.from b (subst (λ (z : Node). In b z.volatile.branches) both.1 i) u in
        let ends = ap (λ (z : Branch). z.state) (sym y.1) ∙ q in
        elim y.2 [
          | inl old ↦ subst (λ (k : BranchKey). WasEnded (e ∷ es) k.tid) (sym (ap (λ (z : Branch). z.key) y.1))
              (ended_later e es y.0.key.tid (h.ended name n both.0 (comes.up (ap (λ (z : Node). z.up) (sym both.1) ∙ up)) y.0 old (ap (λ (z : Branch). is_prepared z.state) (sym y.1) ∙ u) ends))
          | inr put ↦ elim put [ inl is_new ↦ absurd ((new y.0 is_new).1 ends) | inr none ↦ absurd none.2 ]
        ]
        )
  ];
  clocks = λ name k is. elim (there name k is) [
    | inl old ↦ h.clocks name k old ∙ sym (clock name)
    | inr both ↦ ap (λ (z : Node). z.clock) both.1 ∙ comes.clock ∙ h.clocks name n both.0 ∙ sym (clock name)
  ];
}
  where
    there : (name : List ℕ) (x : Node) → find_node name v.nodes ≡ Some x → (find_node name w.nodes ≡ Some x) ⊎ ((find_node name w.nodes ≡ Some n) × (x ≡ m))
    there = found_after w v node n m named found nodes

-- a transaction that begins with so many seconds
start_told : (e : Entry) (es : List Entry) (w v : World) (node label : List ℕ) (seconds : Option ℕ) → AreTold es w → reading e.source.text ≡ Says (At node (StartTrans label seconds)) → Succeeds w v node (StartTrans label seconds) e.lines → AreTold (e ∷ es) v
start_told e es w v node label seconds h said x = begin_told e es w v node n m (lines_of_rows rs) N h (λ name. ap (λ r. clock_here name r (last_or None e.lines) (clock_told name es)) said) x.found refl (ap (λ (y : World). y.nodes) x.goes) (rows_come N Never rs n (tt, (tt, (refl, tt)))) new
  where
    n : Node
    n = x.n

    rs : List Row
    rs = (service (StartTrans label seconds)).rows w.shared n

    m : Node
    m = (succeeded w.shared n (service (StartTrans label seconds))).node

    first_branch : Branch
    first_branch = blank (next_id n) (next_id n) None Active (answers.due_after n seconds)

    N : Branch → Type 0
    N y = y ≡ first_branch

    home : n.name ≡ node
    home = found_name node w.nodes n x.found

    given : (due : ℕ) (o : Option ℕ) → seconds ≡ o → option_map (λ count. n.clock + 100 * count) o ≡ Some due → WasGiven (e ∷ es) (next_id n) due
    given due (Some count) is k = (
      es,
      label,
      count,
      record {
        after = [];
        entry = e;
        stands = refl;
        said = said ∙ (λ i. Says (At (sym home i) (StartTrans label (is i))));
        shown = x.shows;
      },
      ap (λ t. t + 100 * count) (ap (λ y. clock_told y es) home ∙ sym (h.clocks node n x.found)) ∙ some_is (n.clock + 100 * count) due k,
    )
    given due None is k = let no : ⊥ = cc in absurd no

    new : (y : Branch) → N y → BranchTold (e ∷ es) y × (y.state ≡ Ending → ⊥)
    new y is = subst (λ (z : Branch). BranchTold (e ∷ es) z × (z.state ≡ Ending → ⊥)) (sym is) (record { given = λ f due k. given due seconds refl k; joined = λ c i. absurd i; apart = λ c i e. i; unasked = λ a e. let no : ⊥ = cc in no }, λ q. let no : ⊥ = cc in no)

branch_told : (e : Entry) (es : List Entry) (w v : World) (node label : List ℕ) → AreTold es w → reading e.source.text ≡ Says (At node (StartBranch label)) → Succeeds w v node (StartBranch label) e.lines → AreTold (e ∷ es) v
branch_told e es w v node label h said x = begin_told e es w v node n m (lines_of_rows rs) N h (λ name. ap (λ r. clock_here name r (last_or None e.lines) (clock_told name es)) said) x.found (rows_name rs n) (ap (λ (y : World). y.nodes) x.goes) (rows_come N Never rs n (putting (labelled n.name label w.shared.labels))) new
  where
    n : Node
    n = x.n

    rs : List Row
    rs = (service (StartBranch label)).rows w.shared n

    m : Node
    m = (succeeded w.shared n (service (StartBranch label))).node

    N : Branch → Type 0
    N y = (y.due ≡ None) × (y.accepted ≡ []) × (y.state ≡ Joining) × (y.asked ≡ false)

    putting : (o : Option Label) → ArePutting N Never (told_if w.shared n (option_and_then (begins n) o))
    putting None = tt
    putting (Some l) = go l.bid
      where
        go : (o : Option Id) → ArePutting N Never (told_if w.shared n (option_map (λ bid. let t : answers.Telling = record { before = world.Draws ∷ world.Numbers l.name (next_id n) ∷ []; event = rows.Begin l.tid (next_id n) bid } in t) o))
        go None = tt
        go (Some bid) = (tt, (tt, ((refl, refl, refl, refl), (tt, tt))))

    new : (y : Branch) → N y → BranchTold (e ∷ es) y × (y.state ≡ Ending → ⊥)
    new y is = (
      record {
        given = λ f due k. let no : ◌≡◌ {A = Option ℕ} None (Some due) = sym is.0 ∙ k in let none : ⊥ = cc in absurd none;
        joined = λ c i. absurd (subst (In c) is.1 i);
        apart = λ c i e. subst (In c) is.1 i;
        unasked = λ a e. let clash : false ≡ true = sym is.3 ∙ a in let no : ⊥ = cc in no;
      },
      λ q. let no : Joining ≡ Ending = sym is.2 ∙ q in cc,
    )

-- CLOCK.

-- what ticking is answered: the success, or a refusal
ticks_answer : (s : Shared) (stops : ℕ) (n : Node) (rises : Cause → Type 0) (c : Choice) → TaskAllowed s stops n Ticks rises c → ((task_effect s stops n Ticks c).answer ≡ line.Normal) ⊎ (is_refusal (task_effect s stops n Ticks c).answer ≡ true)
ticks_answer s stops n rises (Whole outturn) may = go (refused_before_reading s n e) refl
  where
    e : Service
    e = task_service Ticks

    ready : Node
    ready = ready_node outturn stops e n

    late : (o : Option Line) → e.refused_after_reading s ready ≡ o → ((begun s ready e o).answer ≡ line.Normal) ⊎ (is_refusal (begun s ready e o).answer ≡ true)
    late (Some refusal) is = inr ((refuses_then s ready Ticks).says refusal is)
    late None is = inl refl

    go : (o : Option Line) → refused_before_reading s n e ≡ o → ((whole s n ready e o).answer ≡ line.Normal) ⊎ (is_refusal (whole s n ready e o).answer ≡ true)
    go (Some refusal) is = inr ((refuses_first s n Ticks).says refusal is)
    go None is = late (e.refused_after_reading s ready) refl
ticks_answer s stops n rises WithoutMemory may = inr refl
ticks_answer s stops n rises Unpowered may = let no : false ≡ true = may.1 in let none : ⊥ = cc in absurd none
ticks_answer s stops n rises (Cut outturn done started cause) may = inl refl

-- the part of a clock that ticks
ticks_part : {node : List ℕ} (w : World) (p : Part) (c : Choice) (disks : List DiskCounts) → p ≡ Does node Ticks → Allowed w p disks c → ((part_effect w p c).answer ≡ line.Normal) ⊎ (is_refusal (part_effect w p c).answer ≡ true)
ticks_part {node} w p c disks is allowed = subst (λ (q : Part). ((part_effect w q c).answer ≡ line.Normal) ⊎ (is_refusal (part_effect w q c).answer ≡ true)) (sym is) (go (find_node node w.nodes) refl (subst (λ (q : Part). Allowed w q disks c) is allowed))
  where
    go : (o : Option Node) → find_node node w.nodes ≡ o → AllowedAt w node Ticks disks c → ((done_at w node Ticks c).answer ≡ line.Normal) ⊎ (is_refusal (done_at w node Ticks c).answer ≡ true)
    go (Some n) found may = subst (λ (x : PartEffect). (x.answer ≡ line.Normal) ⊎ (is_refusal x.answer ≡ true)) (sym (done_here w node Ticks n c found)) (ticks_answer w.shared (stops_at node w) n (λ cause. RoseAt w node cause disks) c (allowed_here w node Ticks n disks c found may))
    go None found may = let none : done_at w node Ticks c ≡ no_node w = rw (found, done_at) refl in inr (ap (λ (x : PartEffect). is_refusal x.answer) none)

-- How a CLOCK ends: it is refused, or sets the clock, and then its node ticks where it is up.
pub data ClockEnds (w v : World) (node : List ℕ) (now : ℕ) (lines : List Line) (step : Step w (At node (Clock now)) lines v) : Type 0 where
  Unset : (refusal : Line) → is_refusal refusal ≡ true → step.events ≡ [] → step.answer ≡ refusal → v ≡ record w { disks = v.disks } → ClockEnds w v node now lines step
  Set : (n : Node) (u : World) → find_node node w.nodes ≡ Some n → refused_at_once w (At node (Clock now)) ≡ None → u.nodes ≡ with_node node (λ k. record n { clock = now }) w.nodes → HaveSteps u.nodes → Phases (where_up node Ticks ∷ []) v.disks u line.Normal step.events step.answer step.world → ClockEnds w v node now lines step

pub clock_ends : (w v : World) (node : List ℕ) (now : ℕ) (lines : List Line) → HaveSteps w.nodes → (step : Step w (At node (Clock now)) lines v) → ClockEnds w v node now lines step
clock_ends w v node now lines steps step = go (refused_at_once w (At node (Clock now))) refl step.does
  where
    by_task : (n : Node) (c : Choice) → find_node node w.nodes ≡ Some n → Allowed w (Does node (Serves (Clock now))) v.disks c → Then (part_effect w (Does node (Serves (Clock now))) c) (Parts [] v.disks (Phases (where_up node Ticks ∷ []) v.disks)) step.events step.answer step.world → ClockEnds w v node now lines step
    by_task n c found allowed d = either (unused_outcome w.shared (stops_at node w) n (Serves (Clock now)) (λ cause. RoseAt w node cause v.disks) c refl refl (allowed_here w node (Serves (Clock now)) n v.disks c found allowed))
      where
        eff : TaskEffect
        eff = task_effect w.shared (stops_at node w) n (Serves (Clock now)) c

        d_here : Then (put_into w node eff) (Parts [] v.disks (Phases (where_up node Ticks ∷ []) v.disks)) step.events step.answer step.world
        d_here = subst (λ (p : PartEffect). Then p (Parts [] v.disks (Phases (where_up node Ticks ∷ []) v.disks)) step.events step.answer step.world) (done_here w node (Serves (Clock now)) n c found) d

        of : TaskEffect → Type 0
        of x = Then (put_into w node x) (Parts [] v.disks (Phases (where_up node Ticks ∷ []) v.disks)) step.events step.answer step.world

        none_once : refused_at_once w (At node (Clock now)) ≡ None
        none_once = ap (λ o. first_of o None) (ap (λ (o : Option Node). elim o [ Some m ↦ None | None ↦ Some line.NoSuchNode ]) found)

        either : ((refusal : Line) × (is_refusal refusal ≡ true) × (eff ≡ refused w.shared n refusal)) ⊎ ((refused_before_reading w.shared n (service (Clock now)) ≡ None) × ((service (Clock now)).refused_after_reading w.shared n ≡ None) × (eff ≡ succeeded w.shared n (service (Clock now)))) → ClockEnds w v node now lines step
        either (inl r) = let k = subst of r.2 d_here in Unset r.0 r.1 k.0 k.1 (step.goes ∙ ap (λ (x : World). record x { disks = v.disks }) k.2 ∙ ap (λ ns. record w { nodes = ns; disks = v.disks }) (put_same node n w.nodes found))
        either (inr r) =
            let k = subst of r.2 d_here in
            let u = (put_into w node (succeeded w.shared n (service (Clock now)))).world in
            Set n u found none_once refl (put_step node (record n { clock = now }) w.nodes (found_step node w.nodes n steps found) steps) (subst (λ ls. Phases (where_up node Ticks ∷ []) v.disks u line.Normal ls step.answer step.world) (sym k.1) k.2)

    go : (o : Option Line) → refused_at_once w (At node (Clock now)) ≡ o → Begins o (Phases (phases_of (At node (Clock now))) v.disks w line.Normal) w step.events step.answer step.world → ClockEnds w v node now lines step
    go (Some refusal) is d = Unset refusal ((once_refuses w (At node (Clock now))).says refusal is) d.0 d.1 (step.goes ∙ ap (λ (x : World). record x { disks = v.disks }) d.2)
    go None is d = let n = named_found w node (neither (named_node w node) _ is).0 in by_task n.0 d.0 n.1 d.1 d.2

module _ (e : Entry) (es : List Entry) (w v : World) (node : List ℕ) (now : ℕ) (h : AreTold es w) (said : reading e.source.text ≡ Says (At node (Clock now))) where
  refused_clock_told : (refusal : Line) → is_refusal refusal ≡ true → last_or None e.lines ≡ Some refusal → Thins w v → AreTold (e ∷ es) v
  refused_clock_told refusal is last f = thin_told e es w v (λ name. (λ i. clock_here name (said i) (last i) (clock_told name es)) ∙ refused_clock name node now refusal (clock_told name es) is) f h

  -- the clock was set, and then branches were aborted
  clock_set : (n : Node) (u : World) → find_node node w.nodes ≡ Some n → u.nodes ≡ with_node node (λ k. record n { clock = now }) w.nodes → Thins u v → last_or None e.lines ≡ Some line.Normal → AreTold (e ∷ es) v
  clock_set n u found goes f last = record {
    told = λ name m is b i o.
        let x = f.node name m is in
        let y = (x.3 b i o).0 in
        let z = branches name x.0 x.1 in
        heir_told e es y.0 b y.3 (h.told name z.0 z.1 y.0 (z.2 y.0 y.1) y.2);
    ended = λ name m is up b i o q.
        let x = f.node name m is in
        let r = x.3 b i o in
        let y = r.0 in
        let z = branches name x.0 x.1 in
        subst (λ (k : BranchKey). WasEnded (e ∷ es) k.tid) (sym y.3.key) (ended_later e es y.0.key.tid (h.ended name z.0 z.1 (z.3 (r.1 up)) y.0 (z.2 y.0 y.1) y.2 (y.3.ends q)));
    clocks = λ name m is. let x = f.node name m is in x.2 ∙ set name x.0 x.1;
  }
    where
      there : (name : List ℕ) (x : Node) → find_node name u.nodes ≡ Some x → (find_node name w.nodes ≡ Some x) ⊎ ((find_node name w.nodes ≡ Some n) × (x ≡ record n { clock = now }))
      there = found_after w u node n (record n { clock = now }) refl found goes

      branches : (name : List ℕ) (x : Node) → find_node name u.nodes ≡ Some x → (y : Node) × (find_node name w.nodes ≡ Some y) × ((b : Branch) → In b x.volatile.branches → In b y.volatile.branches) × (x.up ≡ true → y.up ≡ true)
      branches name x is = elim (there name x is) [
        | inl old ↦ (x, old, λ b i. i, λ up. up)
        | inr both ↦ (n, both.0, λ b i. subst (λ (y : Node). In b y.volatile.branches) both.1 i, λ up. ap (λ (y : Node). y.up) (sym both.1) ∙ up)
      ]

      here : (name : List ℕ) → clock_told name (e ∷ es) ≡ (if bytes_eq name node then now else clock_told name es)
      here name = λ i. clock_here name (said i) (last i) (clock_told name es)

      set : (name : List ℕ) (x : Node) → find_node name u.nodes ≡ Some x → x.clock ≡ clock_told name (e ∷ es)
      set name x is = go (bytes_eq name node) refl
        where
          go : (b : Bool) → bytes_eq name node ≡ b → x.clock ≡ clock_told name (e ∷ es)
          go true same =
              let named : name ≡ node = (bytes_eq-Decides name node).0 same in
              let changed : record n { clock = now } ≡ x = some_is _ x (sym (put_node node n (record n { clock = now }) w.nodes refl found) ∙ subst (λ ns. find_node node ns ≡ Some x) goes (subst (λ y. find_node y u.nodes ≡ Some x) named is)) in
              ap (λ (y : Node). y.clock) (sym changed) ∙ ap (λ b. if b then now else clock_told name es) (sym same) ∙ sym (here name)
          go false other = elim (there name x is) [
            | inl old ↦ h.clocks name x old ∙ ap (λ b. if b then now else clock_told name es) (sym other) ∙ sym (here name)
            | inr both ↦ absurd (clash _ ((bytes_eq-Decides name node).1 (sym (found_name name w.nodes n both.0) ∙ found_name node w.nodes n found)) other)
          ]

  clock_told_so : HaveSteps w.nodes → Step w (At node (Clock now)) e.lines v → AreTold (e ∷ es) v
  clock_told_so steps step = go (clock_ends w v node now e.lines steps step)
    where
      last : last_or None e.lines ≡ Some step.answer
      last = ap (last_or None) step.shows ∙ last_is None step.events step.answer

      go : ClockEnds w v node now e.lines step → AreTold (e ∷ es) v
      go (Unset refusal is shown answered goes) = refused_clock_told refusal is (last ∙ ap Some answered) (same_thins w v goes)
      go (Set n u found once goes steps_u p) =
          let thin = (phases_thin v.disks (where_up node Ticks ∷ []) (each_up IsThinPart node Ticks refl, tt) u line.Normal step.events step.answer step.world p steps_u).0 in
          let answered = phases_fold v.disks (λ q. q ≡ Does node Ticks) (λ g. (g ≡ line.Normal) ⊎ (is_refusal g ≡ true)) (λ x ls a y. (a ≡ line.Normal) ⊎ (is_refusal a ≡ true))
          (λ x g q. q)
          (λ x q c ok may ends. ticks_part x q c v.disks ok may)
          (λ x q c ok may on. (ticks_part x q c v.disks ok may, λ rest a y more. more))
          (where_up node Ticks ∷ []) (each_up (λ q. q ≡ Does node Ticks) node Ticks refl, tt) u line.Normal step.events step.answer step.world (inl refl) p in
          elim answered [
            | inl normal ↦ clock_set n u found goes (subst (Thins u) (sym step.goes) (thins_disks u step.world v.disks thin)) (last ∙ ap Some normal)
            | inr refusal ↦ absurd (clash _ refusal (refusals.2 w v (At node (Clock now)) step.events step.answer refl once (subst (λ ls. Step w (At node (Clock now)) ls v) step.shows step)))
          ]

-- Statements.

abbrev is_end : Task → Bool
is_end (Serves (EndTrans label)) = true
is_end _ = false

-- only END_TRANS tells its node of an end
ends_only : (s : Shared) (n : Node) (t : Task) (ev : Event) (tid : Id) → IsTold s n t ev → ev ≡ rows.EndTrans tid → is_end t ≡ true
ends_only s n (Serves (EndTrans label)) ev tid is e = refl
ends_only s n (Serves (AddBranch label other new)) ev tid is e = let no : rows.Authorise is.0.key.tid (next_id n) ≡ rows.EndTrans tid = sym is.2 ∙ e in let none : ⊥ = cc in absurd none
ends_only s n (Serves (EndBranch label)) ev tid is e = let no : rows.EndBranch is.0.key.serial ≡ rows.EndTrans tid = sym is.1 ∙ e in let none : ⊥ = cc in absurd none
ends_only s n (Serves (AbortTrans label)) ev tid is e = let no : rows.AbortBranch is.0.key.serial Aborted ≡ rows.EndTrans tid = sym is.1 ∙ e in let none : ⊥ = cc in absurd none
ends_only s n (Serves (Inquire who)) ev tid is e = let no : rows.InquireBranch is.0.key.serial ≡ rows.EndTrans tid = sym is.1 ∙ e in let none : ⊥ = cc in absurd none
ends_only s n (Serves (JoinRm label rm)) ev tid is e = let no : rows.JoinRm is.0.key.serial rm ≡ rows.EndTrans tid = sym is.1 ∙ e in let none : ⊥ = cc in absurd none
ends_only s n (Serves (AckEvent who rm reply)) ev tid is e = let no : rows.Replied is.0 rm reply ≡ rows.EndTrans tid = sym is.1 ∙ e in let none : ⊥ = cc in absurd none
ends_only s n (Serves _) ev tid is e = absurd is
ends_only s n Ticks ev tid is e = let no : rows.Clock n.clock ≡ rows.EndTrans tid = sym is ∙ e in let none : ⊥ = cc in absurd none
ends_only s n (Takes m) ev tid is e = let no : rows.Got m ≡ rows.EndTrans tid = sym is ∙ e in let none : ⊥ = cc in absurd none
ends_only s n (Hears m) ev tid is e = let no : rows.Got m ≡ rows.EndTrans tid = sym is ∙ e in let none : ⊥ = cc in absurd none
ends_only s n (LosesLink other) ev tid is e = let no : rows.LinkDown other ≡ rows.EndTrans tid = sym is ∙ e in let none : ⊥ = cc in absurd none
ends_only s n RunsDown ev tid is e = let no : rows.RunDown ≡ rows.EndTrans tid = sym is ∙ e in let none : ⊥ = cc in absurd none
ends_only s n Restarts ev tid is e = absurd is

module _ (e : Entry) (es : List Entry) (w v : World) (h : AreTold es w) (named : Named es w) (steps : HaveSteps w.nodes) (sent : (x : Message) → In x w.shared.wire → IsApart x) where
  in_lines : (ls : List Line) (answer : Line) → e.lines ≡ ls ++ answer ∷ [] → (l : Line) → In l ls → In l e.lines
  in_lines ls answer shows l i = subst (In l) (sym shows) (in_left l ls (answer ∷ []) i)

  -- a statement that is one task, other than an END_TRANS
  one_told : (s : Statement) (node : List ℕ) (t : Task) → ((name : List ℕ) → clock_told name (e ∷ es) ≡ clock_told name es) → task_of w s ≡ Some (record { node = node; task = t }) → begins_none t ≡ true → is_end t ≡ false → Step w s e.lines v → AreTold (e ∷ es) v
  one_told s node t clock is begins other step = go (ended w v s e.lines node t is step)
    where
      go : Ended w v node t e.lines → AreTold (e ∷ es) v
      go (Refused refusal r shows goes) = thin_told e es w v clock (same_thins w v goes) h
      go (Turned n found c allowed shows goes) = task_told e es w v node t n c h clock begins found steps (in_lines _ _ shows) goes (λ m told. sent m (taken w s node n t m is told)) (λ ev x told by key i u q up. absurd (clash _ (ends_only w.shared n t ev x.key.tid told by) other))

  request_told : (node : List ℕ) (request : Request) → reading e.source.text ≡ Says (At node request) → Step w (At node request) e.lines v → AreTold (e ∷ es) v
  request_told node request said step = go request said step
    where
      clock : (s : Statement) → reading e.source.text ≡ Says s → ((node : List ℕ) (now : ℕ) → s ≡ At node (Clock now) → ⊥) → (name : List ℕ) → clock_told name (e ∷ es) ≡ clock_told name es
      clock s said never name = ap (λ r. clock_here name r (last_or None e.lines) (clock_told name es)) said ∙ not_clock name s (last_or None e.lines) (clock_told name es) never

      refused_so : (request : Request) → reading e.source.text ≡ Says (At node request) → ((now : ℕ) → request ≡ Clock now → ⊥) → task_of w (At node request) ≡ Some (record { node = node; task = Serves request }) → powers (service request) ≡ false → touches (service request) ≡ false → Step w (At node request) e.lines v → (Succeeds w v node request e.lines → AreTold (e ∷ es) v) → AreTold (e ∷ es) v
      refused_so request said never is off dry step done = elim (request_ends w v node request e.lines is off dry step) [
        | inl r ↦ thin_told e es w v (clock (At node request) said (λ other now same. never now (request_is same))) (same_thins w v r.4) h
        | inr x ↦ done x
      ]
        where
          request_is : {other : List ℕ} {now : ℕ} → At node request ≡ At other (Clock now) → request ≡ Clock now
          request_is same = cc

      go : (request : Request) → reading e.source.text ≡ Says (At node request) → Step w (At node request) e.lines v → AreTold (e ∷ es) v
      go (StartTrans label seconds) said step = refused_so (StartTrans label seconds) said (λ now same. let no : ⊥ = cc in no) refl refl refl step (start_told e es w v node label seconds h said)
      go (StartBranch label) said step = refused_so (StartBranch label) said (λ now same. let no : ⊥ = cc in no) refl refl refl step (branch_told e es w v node label h said)
      go (Clock now) said step = clock_told_so e es w v node now h said steps step
      go (EndTrans label) said step = by_end (ended w v (At node (EndTrans label)) e.lines node (Serves (EndTrans label)) refl step)
        where
          same_clock : (name : List ℕ) → clock_told name (e ∷ es) ≡ clock_told name es
          same_clock name = ap (λ r. clock_here name r (last_or None e.lines) (clock_told name es)) said

          by_end : Ended w v node (Serves (EndTrans label)) e.lines → AreTold (e ∷ es) v
          by_end (Refused refusal r shows goes) = thin_told e es w v same_clock (same_thins w v goes) h
          by_end (Turned n found c allowed shows goes) = task_told e es w v node (Serves (EndTrans label)) n c h same_clock refl found steps (in_lines _ _ shows) goes (λ m told. let no : rows.Got m ≡ rows.EndTrans told.0.key.tid = told.2 in let none : ⊥ = cc in absurd none)
              (end_ends e es w v node label h named said n c found (λ cause. RoseAt w node cause v.disks) allowed shows)
      go request said step = one_told (At node request) node (Serves request) (λ name. ap (λ r. clock_here name r (last_or None e.lines) (clock_told name es)) said) refl refl refl step

  step_told : (s : Statement) → reading e.source.text ≡ Says s → Step w s e.lines v → AreTold (e ∷ es) v
  step_told (At node request) said step = request_told node request said step
  step_told (Deliver number) said step = go (message_at number w.shared.wire) refl
    where
      same_clock : (name : List ℕ) → clock_told name (e ∷ es) ≡ clock_told name es
      same_clock name = ap (λ r. clock_here name r (last_or None e.lines) (clock_told name es)) said

      go : (o : Option Message) → message_at number w.shared.wire ≡ o → AreTold (e ∷ es) v
      go (Some m) is = one_told (Deliver number) m.to (Takes m) same_clock (ap (λ (o : Option Message). option_map {U = TaskAt} (λ m. record { node = m.to; task = Takes m }) o) is) refl refl step
      go None is = by step.does
        where
          by : Begins (refused_at_once w (Deliver number)) (Phases (phases_of (Deliver number)) v.disks w line.Normal) w step.events step.answer step.world → AreTold (e ∷ es) v
          by d =
              let k = subst (λ (o : Option Message). Begins (elim o [ Some m ↦ named_node w m.to | None ↦ Some line.NoSuchMessage ]) (Phases (phases_of (Deliver number)) v.disks w line.Normal) w step.events step.answer step.world) is d in
              thin_told e es w v same_clock (same_thins w v (step.goes ∙ ap (λ (x : World). record x { disks = v.disks }) k.2)) h
  step_told (LinkDown a b) said step = go (refused_at_once w (LinkDown a b)) step.does
    where
      same_clock : (name : List ℕ) → clock_told name (e ∷ es) ≡ clock_told name es
      same_clock name = ap (λ r. clock_here name r (last_or None e.lines) (clock_told name es)) said

      go : (o : Option Line) → Begins o (Phases (phases_of (LinkDown a b)) v.disks w line.Normal) w step.events step.answer step.world → AreTold (e ∷ es) v
      go (Some refusal) d = thin_told e es w v same_clock (same_thins w v (step.goes ∙ ap (λ (x : World). record x { disks = v.disks }) d.2)) h
      go None d = thin_told e es w v same_clock (subst (Thins w) (sym step.goes) (thins_disks w step.world v.disks (phases_thin v.disks (phases_of (LinkDown a b)) (link_phases a b) w line.Normal step.events step.answer step.world d steps).0)) h
  step_told Settle said step =
      let base = begun_with Settle w in
      let f = phases_thin v.disks (phases_of Settle) settle_phases base line.Normal step.events step.answer step.world step.does steps in
      thin_told e es w v (λ name. ap (λ r. clock_here name r (last_or None e.lines) (clock_told name es)) said) (subst (Thins w) (sym step.goes) (thins_disks w step.world v.disks (record { node = f.0.node }))) h

  turn_are_told : (r : Reading) → reading e.source.text ≡ r → LineTurn w r e.lines v → AreTold (e ∷ es) v
  turn_are_told Blank said t = thin_told e es w v (λ name. ap (λ r. clock_here name r (last_or None e.lines) (clock_told name es)) said) (subst (Thins w) (sym t.1) (thins_same w)) h
  turn_are_told (Says s) said t = step_told s said t
  turn_are_told (Bad column) said t = absurd t

opening_told : (nodes : List Node) (disks : List DiskCounts) → AreOpening nodes → AreTold [] (opened nodes disks)
opening_told nodes disks opening = record {
  told = λ node n found b i u. absurd (none node n found b i);
  ended = λ node n found up b i u q. absurd (none node n found b i);
  clocks = λ node n found. (opening_found nodes opening node n found).clock;
}
  where
    none : (node : List ℕ) (n : Node) → find_node node nodes ≡ Some n → (b : Branch) → In b n.volatile.branches → ⊥
    none node n found b i = subst (In b) (ap (λ (y : world.Volatile). y.branches) (opening_found nodes opening node n found).volatile) i

accept_others : (es : List Entry) (w : World) → AreTold es w → AcceptOthers w
accept_others es w h node n found b i u c j same = (h.told node n found b i u).apart c j same

told_apart : (nodes : List Node) (disks : List DiskCounts) (es : List Entry) (w : World) → AreOpening nodes → Legal (opened nodes disks) es w → AreTold es w × AreApart w
told_apart nodes disks [] w opening legal = (subst (AreTold []) (sym legal) (opening_told nodes disks opening), λ x i. absurd (subst (λ (y : World). In x y.shared.wire) legal i))
told_apart nodes disks (e ∷ es) w opening legal =
    let before = told_apart nodes disks es legal.0 opening legal.1 in
    let named = legal_named nodes disks es legal.0 opening legal.1 in
    let steps = (legal_told nodes disks legal.0 es opening legal.1).1 in
    (turn_are_told e es legal.0 w before.0 named steps before.1 (reading e.source.text) refl legal.2, turn_apart es legal.0 w (reading e.source.text) e.lines named steps (accept_others es legal.0 before.0) before.1 legal.2)

pub legal_are_told : (nodes : List Node) (disks : List DiskCounts) (es : List Entry) (w : World) → AreOpening nodes → Legal (opened nodes disks) es w → AreTold es w
legal_are_told nodes disks es w opening legal = (told_apart nodes disks es w opening legal).0

pub legal_apart : (nodes : List Node) (disks : List DiskCounts) (es : List Entry) (w : World) → AreOpening nodes → Legal (opened nodes disks) es w → AreApart w
legal_apart nodes disks es w opening legal = (told_apart nodes disks es w opening legal).1
