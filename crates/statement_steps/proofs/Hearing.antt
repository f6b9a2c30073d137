-- A node hears the answer to the question of a branch of its own: the branch is settled, and all else that is in doubt stays so.
use Rattle.std.proofs.Common.{◌≡◌, ◌⊎◌, List, [], ◌∷◌, inl, inr, Bool, true, false, Option, Some, None, if◌then◌else◌, refl, sym, ◌∙◌, ap, subst}
use Rattle.std.specs.List.{list_any}
use Rattle.vms_model.specs.Ids.{Id}
use Rattle.vms_model.specs.Transactions.{Abort as ToAbort, Aborted, Commit as ToCommit, Outcome, Reason}
use Rattle.world_laws.specs.transcript_model.Lines.{Line}
use Rattle.commit_protocol.specs.Allowed.{is_prepared}
use Rattle.commit_protocol.specs.Messages.{Abort, AbortEvent, Ack, Commit, CommitEvent, Inquire, Kind, LogRecord, Message, Name, RmEvent, same_id}
use Rattle.commit_protocol.specs.Rows.{Got, RunDown, abort_row, abort_state, answer, answer_state, commit_row, commit_state, down, interested, owing, row, tells, up}
use Rattle.commit_protocol.specs.Table as table
use Rattle.commit_protocol.specs.Table.{Active, Branch, Ending, Joining, Key, Prepared, Prints, Sends, Settles, State, Voting, branch_serials, cut, find, find_serial, first, holding, key_of}
use Rattle.commit_protocol.specs.Agreement.{Distinct}
use Rattle.commit_protocol.specs.World.{arranged}
use Rattle.commit_protocol.proofs.Lists.{find_serial-key, find_serial-serial, in_left}
use Rattle.commit_protocol.proofs.Serials.{parts_apart, there_serial}
use Rattle.world_laws.specs.run_model.World.{Act, DiskCounts, Node, Shared, Tables, acted, next_moment, shared_after, tm_of}
use Rattle.world_laws.specs.run_model.Answers.{Hears, Restarts, RunsDown, table_rows, task_service}
use Rattle.world_laws.specs.run_model.Steps.{NodeStep, node_after_rows}
use Rattle.world_laws.specs.run_model.Statements.{answer_in, answer_of}
use Rattle.run_agreement.proofs.Going.{table_rows_keep, went_on}
use Rattle.run_agreement.proofs.Serving.{serves_up}
use Rattle.world_laws.specs.Nodes.{IsKeptNode}
use Rattle.statement_steps.specs.Settling.{doubts_of, in_doubt_of}
use Rattle.statement_steps.proofs.Doubting.{arranged_apart, doubts_apart, doubts_settled}

-- what a coordinator answers is the outcome
pub record IsAnswer (k : Key) (m : Message) : Type 0 where
  pub kind : Kind
  pub either : (kind ≡ Commit) ⊎ (kind ≡ Abort)
  pub is : m ≡ down kind k

pub answers_so : (c : Node) (k : Key) (m : Message) → answer_of c k ≡ Some m → IsAnswer k m
answers_so c k m e = by (list_any (λ r. same_id r.tid k.tid) c.volatile.records) e
  where
    abort : (d : Message) → d ≡ m → d ≡ down Abort k → IsAnswer k m
    abort d same is = record { kind = Abort; either = inr refl; is = sym same ∙ is }

    by_state : (b : Branch) (s : State) → answer_in (answer_state (up Inquire k) b s) ≡ Some m → IsAnswer k m
    by_state b Prepared f = abort (down Abort k) (cc) refl
    by_state b Joining f = let none : ⊥ = cc (f) in absurd none
    by_state b Active f = let none : ⊥ = cc (f) in absurd none
    by_state b Ending f = let none : ⊥ = cc (f) in absurd none
    by_state b Voting f = let none : ⊥ = cc (f) in absurd none

    by_branch : (o : Option Branch) → answer_in (answer (up Inquire k) o) ≡ Some m → IsAnswer k m
    by_branch None f = abort (down Abort k) (cc) refl
    by_branch (Some b) f = by_state b b.state f

    by : (t : Bool) → answer_in (if t then Sends (down Commit (key_of (up Inquire k))) ∷ [] else answer (up Inquire k) (find (first k.tid) c.volatile.branches)) ≡ Some m → IsAnswer k m
    by true f = record { kind = Commit; either = inl refl; is = sym (let same : down Commit k ≡ m = cc in same) }
    by false f = by_branch (find (first k.tid) c.volatile.branches) f

-- acts that only show or send something
abbrev AreShown : List table.Act → Type 0
AreShown [] = Unit {0}
AreShown (Prints l ∷ todo) = AreShown todo
AreShown (Sends m ∷ todo) = AreShown todo
AreShown (a ∷ todo) = ⊥

shown_tells : (e : RmEvent) (k : Key) (rms : List Name) → AreShown (tells e k rms)
shown_tells e k [] = tt
shown_tells e k (x ∷ rms) = shown_tells e k rms

-- what a node has in doubt, by its table and the order of preparation
record Same (one other : Node) : Type 0 where
  branches : one.volatile.branches ≡ other.volatile.branches
  preparation : one.volatile.preparation ≡ other.volatile.preparation

shown_same : (todo : List table.Act) → AreShown todo → (s : Shared) (n : Node) → Same (node_after_rows (table_rows todo s n) n) n
shown_same [] h s n = record { branches = refl; preparation = refl }
shown_same (Prints l ∷ todo) h s n = let act : Act = Tables (Prints l) (next_moment n) in let r = shown_same todo h (shared_after act s) (acted act n) in record { branches = r.branches; preparation = r.preparation }
shown_same (Sends m ∷ todo) h s n = let act : Act = Tables (Sends m) (next_moment n) in let r = shown_same todo h (shared_after act s) (acted act n) in record { branches = r.branches; preparation = r.preparation }
shown_same (_ ∷ todo) h s n = absurd h

-- a settlement, and then such acts
settles_so : (k : Key) (outcome : Outcome) (reason : Reason) (r : Option LogRecord) (rest : List table.Act) → AreShown rest → (s : Shared) (n : Node) →
    ((node_after_rows (table_rows (Settles k outcome reason r ∷ rest) s n) n).volatile.branches ≡ cut k n.volatile.branches) × ((node_after_rows (table_rows (Settles k outcome reason r ∷ rest) s n) n).volatile.preparation ≡ n.volatile.preparation)
settles_so k outcome reason r rest h s n =
    let act : Act = Tables (Settles k outcome reason r) (next_moment n) in
    let q = shown_same rest h (shared_after act s) (acted act n) in
    (q.branches, q.preparation)

-- the row of such an answer, where the branch is prepared
abbrev Settled : List table.Act → Key → Shared → Node → Type 0
Settled todo k s n = ((node_after_rows (table_rows todo s n) n).volatile.branches ≡ cut k n.volatile.branches) × ((node_after_rows (table_rows todo s n) n).volatile.preparation ≡ n.volatile.preparation)

prepared_is : (x : State) → is_prepared x ≡ true → x ≡ Prepared
prepared_is Prepared e = refl
prepared_is Joining e = let none : ⊥ = cc (e) in absurd none
prepared_is Active e = let none : ⊥ = cc (e) in absurd none
prepared_is Ending e = let none : ⊥ = cc (e) in absurd none
prepared_is Voting e = let none : ⊥ = cc (e) in absurd none

answer_settles : (s : Shared) (n : Node) (b : Branch) (kind : Kind) → (kind ≡ Commit) ⊎ (kind ≡ Abort) → find b.key n.volatile.branches ≡ Some b → is_prepared b.state ≡ true → Settled (row (tm_of n) (Got (down kind b.key))) b.key s n
answer_settles s n b kind (inl e) found st =
    let state = prepared_is b.state st in
    let acts : commit_row (down Commit b.key) (find b.key n.volatile.branches) ≡ commit_state b Prepared = ap (commit_row (down Commit b.key)) found ∙ ap (commit_state b) state in
    subst (λ x. Settled (row (tm_of n) (Got (down x b.key))) b.key s n) (sym e) (subst (λ todo. Settled todo b.key s n) (sym acts)
    (settles_so b.key ToCommit Aborted (owing b.key [] (holding b.managers)) (Sends (up Ack b.key) ∷ tells CommitEvent b.key (holding b.managers)) (shown_tells CommitEvent b.key (holding b.managers)) s n))
answer_settles s n b kind (inr e) found st =
    let state = prepared_is b.state st in
    let acts : abort_row (find b.key n.volatile.branches) ≡ abort_state b Prepared = ap abort_row found ∙ ap (abort_state b) state in
    subst (λ x. Settled (row (tm_of n) (Got (down x b.key))) b.key s n) (sym e) (subst (λ todo. Settled todo b.key s n) (sym acts)
    (settles_so b.key ToAbort Aborted None (tells AbortEvent b.key (interested b.managers)) (shown_tells AbortEvent b.key (interested b.managers)) s n))

-- Where a boot, a run-down or an answer is done and the statement goes on, the node is up.
pub restart_up : (s : Shared) (n : Node) (old : DiskCounts) (lines : List Line) (last : Line) (m : Node) (after : Shared) (new : DiskCounts) → NodeStep s n old Restarts lines last false m after new → m.up ≡ true
restart_up s n old lines last m after new step =
    let g = went_on s old.stops n (task_service Restarts) step.choice refl (sym step.over) in
    ap (λ (x : Node). x.up) (step.node ∙ g.node)

pub run_down_up : (s : Shared) (n : Node) (old : DiskCounts) (lines : List Line) (last : Line) (m : Node) (after : Shared) (new : DiskCounts) → NodeStep s n old RunsDown lines last false m after new → m.up ≡ true
run_down_up s n old lines last m after new step =
    let g = went_on s old.stops n (task_service RunsDown) step.choice refl (sym step.over) in
    let t = table_rows_keep (row (tm_of n) RunDown) s n in
    ap (λ (x : Node). x.up) (step.node ∙ g.node) ∙ (t.1 ∙ (serves_up s n (task_service RunsDown) refl g.before).0)

pub hears_up : (s : Shared) (n : Node) (old : DiskCounts) (msg : Message) (lines : List Line) (last : Line) (m : Node) (after : Shared) (new : DiskCounts) → NodeStep s n old (Hears msg) lines last false m after new → m.up ≡ true
hears_up s n old msg lines last m after new step =
    let g = went_on s old.stops n (task_service (Hears msg)) step.choice refl (sym step.over) in
    let t = table_rows_keep (row (tm_of n) (Got msg)) s n in
    ap (λ (x : Node). x.up) (step.node ∙ g.node) ∙ (t.1 ∙ (serves_up s n (task_service (Hears msg)) refl g.before).0)

-- The node that heard the answer has the branch no more, and the order of preparation is the same.
hears_settles : (s : Shared) (n : Node) (old : DiskCounts) (b : Branch) (kind : Kind) (lines : List Line) (last : Line) (m : Node) (after : Shared) (new : DiskCounts) → (kind ≡ Commit) ⊎ (kind ≡ Abort) → find b.key n.volatile.branches ≡ Some b → is_prepared b.state ≡ true →
    NodeStep s n old (Hears (down kind b.key)) lines last false m after new → (m.volatile.branches ≡ cut b.key n.volatile.branches) × (m.volatile.preparation ≡ n.volatile.preparation)
hears_settles s n old b kind lines last m after new either found st step =
    let g = went_on s old.stops n (task_service (Hears (down kind b.key))) step.choice refl (sym step.over) in
    let q = answer_settles s n b kind either found st in
    (ap (λ (x : Node). x.volatile.branches) (step.node ∙ g.node) ∙ q.0, ap (λ (x : Node). x.volatile.preparation) (step.node ∙ g.node) ∙ q.1)

-- the serials of a kept node that is up are distinct, and of that node
pub kept_apart : (s : Shared) (n : Node) → IsKeptNode s n → n.up ≡ true → Distinct (branch_serials n.volatile.branches)
kept_apart s n h up = (parts_apart (branch_serials n.volatile.branches) (table.record_serials n.volatile.records) (h.runs up).0.table.apart).one

pub doubts_distinct : (s : Shared) (n : Node) → IsKeptNode s n → n.up ≡ true → Distinct (doubts_of n)
doubts_distinct s n h up = doubts_apart (arranged n.volatile.preparation n.volatile.branches) (arranged_apart n.volatile.preparation n.volatile.branches (kept_apart s n h up))

pub home_is : (s : Shared) (n : Node) (serial : Id) (b : Branch) → IsKeptNode s n → n.up ≡ true → find_serial serial n.volatile.branches ≡ Some b → b.key.serial.node ≡ n.name
home_is s n serial b h up found =
    let k = find_serial-key serial n.volatile.branches b found in
    ((h.runs up).0.table.drawn b.key.serial (in_left b.key.serial (branch_serials n.volatile.branches) (table.record_serials n.volatile.records) (there_serial b.key n.volatile.branches (b, k)))).0

-- Where it heard the answer to the question of this serial, that is in doubt no more.
pub hears_leaves : (s : Shared) (n c : Node) (old : DiskCounts) (serial : Id) (b : Branch) (msg : Message) (lines : List Line) (last : Line) (m : Node) (after : Shared) (new : DiskCounts) → IsKeptNode s n → n.up ≡ true → find_serial serial n.volatile.branches ≡ Some b → is_prepared b.state ≡ true →
    answer_of c b.key ≡ Some msg → NodeStep s n old (Hears msg) lines last false m after new → doubts_of m ≡ table.without serial (doubts_of n)
hears_leaves s n c old serial b msg lines last m after new h up found st answer step =
    let a = answers_so c b.key msg answer in
    let k = find_serial-key serial n.volatile.branches b found in
    let q = hears_settles s n old b a.kind lines last m after new a.either k st (subst (λ x. NodeStep s n old (Hears x) lines last false m after new) a.is step) in
    (λ i. in_doubt_of (arranged (q.1 i) (q.0 i))) ∙ doubts_settled n.volatile.preparation b.key n.volatile.branches (kept_apart s n h up) (b, k)
    ∙ ap (λ i. table.without i (doubts_of n)) (find_serial-serial serial n.volatile.branches b found)
