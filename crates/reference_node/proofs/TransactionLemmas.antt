-- What statements of transactions do, by what they tell the table.
use Rattle.std.proofs.Common.{◌≡◌, ℕ, ◌+◌, ◌<◌, ◌≤◌, List, [], ◌∷◌, ◌++◌, Bool, true, false, Option, Some, None, refl, sym, ap, subst, ◌∙◌, length, arith}
use Rattle.std.specs.Option.{option_and_then}
use Rattle.std.specs.Prelude.{if◌then◌else◌, map, not, ◌&&◌, nat_le, nat_lt}
use Rattle.std.proofs.lemmas.Bool.Decides.{nat_tests}
use Rattle.vms_model.specs.Ids.{Id}
use Rattle.vms_model.specs.Transactions.{Commit as ToCommit, Abort as ToAbort, SyncFail, SegFail, Reason, Outcome}
use Rattle.vms_model.specs.Limits.{message_limit}
use Rattle.world_laws.specs.transcript_model.Lines as line
use Rattle.commit_protocol.specs.Allowed.{allowed, has_room, is_active, is_prepared, is_working, may_authorise, may_end, there_is}
use Rattle.commit_protocol.specs.Messages.{Message, Name, RmEvent, LogRecord, Prepare as ToPrepare}
use Rattle.commit_protocol.specs.Rows.{Event, Start, Begin, Authorise, EndTrans, EndBranch, AbortBranch, InquireBranch, all_taken, aborts, asks, begins_ending, commits, commits_if_all, ending, end_trans_state, joined, row, sends_all, serials, tells, to_each, which_event, all_voted, all_replied}
use Rattle.commit_protocol.specs.Rows as rows
use Rattle.commit_protocol.specs.Table.{Act, Accepts, Acknowledges, Branch, Manager, State, Joining, Active, Ending, Voting, Prepared, Key, Leaves, Notes, Prepares, Prints, Releases, Sends, Settles, Started, Ended, Told, Tm, Undoes, find, find_serial, first, is_first, nothing_left, acknowledged, released, waits_for, holds}
use Rattle.commit_protocol.proofs.Lists.{find_serial-key, same_key-true}
use Rattle.world_laws.specs.run_model.Answers as answers
use Rattle.world_laws.specs.run_model.Answers.{Row, Service, Telling, acknowledged_lines, end_answer, forgot_lines, in_state, is_first_active, is_in_doubt, is_open, missing, more_branches, more_bids, released_lines, settled_line, shown_by, silent, table_rows, told_rows, unreplied, unsettled}
use Rattle.world_laws.specs.run_model.Operations.{first_of, refused_if}
use Rattle.world_laws.specs.run_model.Steps.{lines_of_rows, node_after, node_after_rows, shared_after_rows, shared_then}
use Rattle.world_laws.specs.run_model.World as world
use Rattle.world_laws.specs.run_model.World.{Node, Shared, Tables, acted, next_moment, shared_after, tm_of}
use Rattle.reference_world.specs.Standing.{line_of}
use Rattle.reference_world.specs.declared.line.Line.{Line}
use Rattle.reference_node.specs.Nodes.{Does}
use Rattle.reference_node.specs.Telling.{AppliesEvent, CanTell, HasTime, TellsThen}
use Rattle.reference_branches.specs.Lines.{answer_else, answer_shown}

-- What is drawn before an event.

silent_lines : (acts : List world.Act) (rs : List Row) → lines_of_rows (map silent acts ++ rs) ≡ lines_of_rows rs
silent_lines [] rs = refl
silent_lines (a ∷ acts) rs = silent_lines acts rs

silent_node : (acts : List world.Act) (rs : List Row) (n : Node) → node_after_rows (map silent acts ++ rs) n ≡ node_after_rows rs (answers.all_acted acts n)
silent_node [] rs n = refl
silent_node (a ∷ acts) rs n = silent_node acts rs (acted a n)

silent_shared : (acts : List world.Act) (rs : List Row) (s : Shared) → shared_after_rows (map silent acts ++ rs) s ≡ shared_after_rows rs (answers.all_shared acts s)
silent_shared [] rs s = refl
silent_shared (a ∷ acts) rs s = silent_shared acts rs (shared_after a s)

-- a statement that draws, tells the table an event, and is answered
pub told_does : (s u t : Shared) (n o m : Node) (e : Service) (x : Telling) (answer : line.Line) (shown : List Line) → e.rows s n ≡ told_rows s n x → e.closing ≡ None → e.closing_lines n ≡ [] → answer ≡ e.answer s n →
    o ≡ answers.all_acted x.before n → u ≡ answers.all_shared x.before s → tm_of (answers.all_acted x.before n) ≡ tm_of n → TellsThen x.event answer u o shown t m → Does s n e shown m t
told_does s u t n o m e x answer shown are none quiet answered node shared same told =
    let rows : table_rows (row (tm_of o) x.event) u o ≡ table_rows (row (tm_of n) x.event) (answers.all_shared x.before s) (answers.all_acted x.before n) =
    ap (λ z. table_rows (row z x.event) u o) (ap tm_of node ∙ same) ∙ (λ i. table_rows (row (tm_of n) x.event) (shared i) (node i)) in
    record {
      shows = told.shows ∙ (λ i. lines_of_rows (rows i) ++ answered i ∷ []) ∙ sym (ap (λ ls. ls ++ e.answer s n ∷ []) (ap lines_of_rows are ∙ silent_lines x.before (table_rows (row (tm_of n) x.event) (answers.all_shared x.before s) (answers.all_acted x.before n))))
          ∙ sym (ap (λ ls. lines_of_rows (e.rows s n) ++ (ls ++ e.answer s n ∷ [])) quiet);
      node = told.node ∙ (λ i. node_after_rows (rows i) (node i)) ∙ sym (ap (λ rs. node_after_rows rs n) are ∙ silent_node x.before (table_rows (row (tm_of n) x.event) (answers.all_shared x.before s) (answers.all_acted x.before n)) n)
          ∙ sym (ap (λ c. node_after c (node_after_rows (e.rows s n) n)) none);
      shared = told.shared ∙ (λ i. shared_after_rows (rows i) (shared i)) ∙ sym (ap (λ rs. shared_after_rows rs s) are ∙ silent_shared x.before (table_rows (row (tm_of n) x.event) (answers.all_shared x.before s) (answers.all_acted x.before n)) s)
          ∙ sym (ap (λ c. shared_then c (shared_after_rows (e.rows s n) s)) none);
    }

-- a node that drew an id tells its table as before
pub can_draw : (n o : Node) → o ≡ acted world.Draws n → CanTell n → CanTell o
can_draw n o e h = subst CanTell (sym e) (record { told = h.told; within = h.within; time = record { greatest = h.time.greatest; clock = h.time.clock; end = h.time.end } })

pub draws_time : (count : ℕ) (n o : Node) → o ≡ acted world.Draws n → HasTime count n → HasTime count o
draws_time count n o e h = subst (λ (x : Node). HasTime count x) (sym e) (record { greatest = h.greatest; clock = h.clock; end = h.end })

-- What may be told.

not_true : (b : Bool) → refused_if b line.WrongState ≡ None → b ≡ false
not_true true e = let never : ⊥ = cc in absurd never
not_true false e = refl

not_not : (b : Bool) → not b ≡ false → b ≡ true
not_not true e = refl
not_not false e = let never : ⊥ = cc in absurd never

-- a branch is as its state asks, where that refuses nothing
pub is_so : (holds : Branch → Bool) (o : Option Branch) (b : Branch) → Some b ≡ o → in_state holds o ≡ None → holds b ≡ true
is_so holds o b found e = not_not (holds b) (not_true (not (holds b)) (ap (in_state holds) found ∙ e))

-- one more branch has room
pub has_more : (n : Node) → length n.durable.log ≤ 512 → more_branches n ≡ None → has_room (tm_of n) ≡ true
has_more n few e = go (nat_le 64 (length n.volatile.branches)) (nat_le (length n.durable.log) (length n.volatile.branches + length n.volatile.records)) refl refl e
  where
    both : (a b c : ℕ) → nat_le 64 a ≡ false → nat_le c (a + b) ≡ false → c ≤ 512 → (nat_lt a 64 && nat_lt (a + b) 512) ≡ true
    both a b c e f few = grind (arith, nat_tests)

    go : (x y : Bool) → nat_le 64 (length n.volatile.branches) ≡ x → nat_le (length n.durable.log) (length n.volatile.branches + length n.volatile.records) ≡ y →
        first_of (refused_if x (line.QuotaExceeded line.Branches 64)) (refused_if y (line.QuotaExceeded line.Slots (length n.durable.log))) ≡ None → has_room (tm_of n) ≡ true
    go true y a b e = let never : ⊥ = cc in absurd never
    go false true a b e = let never : ⊥ = cc in absurd never
    go false false a b e = both (length n.volatile.branches) (length n.volatile.records) (length n.durable.log) a b few

-- a branch that stands there may be told this
pub told_there : (serial : Id) (bs : List Branch) (b : Branch) (test : Branch → Bool) → find_serial serial bs ≡ Some b → test b ≡ true → there_is (find_serial serial bs) test ≡ true
told_there serial bs b test found is = ap (λ o. there_is o test) found ∙ is

-- a first branch is found by its transaction
pub first_there : (serial : Id) (bs : List Branch) (b : Branch) → find_serial serial bs ≡ Some b → is_first b ≡ true → find (first b.key.tid) bs ≡ Some b
first_there serial bs b found is = subst (λ k. find k bs ≡ Some b) (same_key-true b.key (first b.key.tid) is) (find_serial-key serial bs b found)

both_true : (a b : Bool) → (a && b) ≡ true → (a ≡ true) × (b ≡ true)
both_true true b e = (refl, e)
both_true false b e = let never : ⊥ = cc in absurd never

pub first_active : (b : Branch) → is_first_active b ≡ true → (is_first b ≡ true) × (is_active b.state ≡ true)
first_active b e = both_true (is_first b) (is_active b.state) e

-- one more identifier has room
pub may_add : (o : Option Branch) (b : Branch) → Some b ≡ o → option_and_then more_bids o ≡ None → is_active b.state ≡ true → may_authorise b ≡ true
may_add o b found e is = go (nat_le 15 (length b.bids)) refl (ap (option_and_then more_bids) found ∙ e)
  where
    less : (k : ℕ) (t : Bool) → t ≡ true → nat_le 15 k ≡ false → (t && nat_lt k 15) ≡ true
    less k t is e = grind (arith, nat_tests)

    go : (x : Bool) → nat_le 15 (length b.bids) ≡ x → refused_if x (line.QuotaExceeded line.Bids 15) ≡ None → may_authorise b ≡ true
    go true a e = let never : ⊥ = cc in absurd never
    go false a e = less (length b.bids) (is_active b.state) is a

-- END_TRANS.

-- what acts settle
abbrev answer_by : List Act → Option line.Line
answer_by [] = None
answer_by (Settles k ToCommit reason r ∷ todo) = Some line.Normal
answer_by (Settles k ToAbort reason r ∷ todo) = Some (line.TransactionAborted reason)
answer_by (Undoes k ∷ todo) = Some (line.TransactionAborted SegFail)
answer_by (Notes b ∷ todo) = answer_by todo
answer_by (Accepts b c ∷ todo) = answer_by todo
answer_by (Prepares b ∷ todo) = answer_by todo
answer_by (Leaves k ∷ todo) = answer_by todo
answer_by (Acknowledges k ∷ todo) = answer_by todo
answer_by (Releases i x ∷ todo) = answer_by todo
answer_by (Sends m ∷ todo) = answer_by todo
answer_by (Prints l ∷ todo) = answer_by todo

-- lines before which none settles a branch
abbrev Shows : List line.Line → Type 0
Shows ls = (more : List line.Line) → answer_shown (ls ++ more) ≡ answer_shown more

shows_forgotten : (b : Bool) (tid serial : Id) → Shows (if b then line.Forgot tid serial ∷ [] else [])
shows_forgotten true tid serial more = refl
shows_forgotten false tid serial more = refl

shows_acknowledged : (k : Key) (rs : List LogRecord) → Shows (acknowledged_lines k rs)
shows_acknowledged k [] more = refl
shows_acknowledged k (r ∷ rs) more = go (waits_for k r) (shows_acknowledged k rs more)
  where
    go : (b : Bool) → answer_shown (acknowledged_lines k rs ++ more) ≡ answer_shown more → answer_shown ((if b then forgot_lines (acknowledged k r) else acknowledged_lines k rs) ++ more) ≡ answer_shown more
    go true later = shows_forgotten (nothing_left (acknowledged k r).waiting (acknowledged k r).rms) r.tid r.serial more
    go false later = later

shows_released : (i : Id) (x : Name) (rs : List LogRecord) → Shows (released_lines i x rs)
shows_released i x [] more = refl
shows_released i x (r ∷ rs) more = go (holds i x r) (shows_released i x rs more)
  where
    go : (b : Bool) → answer_shown (released_lines i x rs ++ more) ≡ answer_shown more → answer_shown ((if b then forgot_lines (released x r) else released_lines i x rs) ++ more) ≡ answer_shown more
    go true later = shows_forgotten (nothing_left (released x r).waiting (released x r).rms) r.tid r.serial more
    go false later = later

shows_sent : (b : Bool) (k : ℕ) (m : Message) (more : List line.Line) → answer_shown ((if b then line.Sent k m else line.Unsent m) ∷ more) ≡ answer_shown more
shows_sent true k m more = refl
shows_sent false k m more = refl

shows_told : (b : Bool) (e : RmEvent) (k : Key) (x : Name) → Shows (if b then line.ManagerTold e k.tid k.serial x ∷ [] else [])
shows_told true e k x more = refl
shows_told false e k x more = refl

shown_answer : (acts : List Act) (s : Shared) (n : Node) → answer_shown (lines_of_rows (table_rows acts s n)) ≡ answer_by acts
shown_answer [] s n = refl
shown_answer (Settles k ToCommit reason r ∷ todo) s n = refl
shown_answer (Settles k ToAbort reason r ∷ todo) s n = refl
shown_answer (Undoes k ∷ todo) s n = refl
shown_answer (Notes b ∷ todo) s n = shown_answer todo _ _
shown_answer (Accepts b c ∷ todo) s n = shown_answer todo _ _
shown_answer (Prepares b ∷ todo) s n = shown_answer todo _ _
shown_answer (Leaves k ∷ todo) s n = shown_answer todo _ _
shown_answer (Acknowledges k ∷ todo) s n = shows_acknowledged k n.volatile.records _ ∙ shown_answer todo _ _
shown_answer (Releases i x ∷ todo) s n = shows_released i x n.volatile.records _ ∙ shown_answer todo _ _
shown_answer (Sends m ∷ todo) s n = shows_sent (nat_lt (length s.wire) message_limit) (length s.wire + 1) m _ ∙ shown_answer todo _ _
shown_answer (Prints (Started k) ∷ todo) s n = shown_answer todo _ _
shown_answer (Prints (Ended t why) ∷ todo) s n = shown_answer todo _ _
shown_answer (Prints (Told e k x) ∷ todo) s n = shows_told (answers.is_declared n x) e k x _ ∙ shown_answer todo _ _

-- it is the answer by the row, where none settles and nothing is noted
abbrev IsAnswer : List Act → Type 0
IsAnswer acts = (before : line.Line) → end_answer acts before ≡ answer_else (answer_by acts) before

answers_sends : (ms : List Message) (acts : List Act) → IsAnswer acts → IsAnswer (sends_all ms ++ acts)
answers_sends [] acts h before = h before
answers_sends (m ∷ ms) acts h before = answers_sends ms acts h before

answers_tells : (e : RmEvent) (k : Key) (xs : List Name) (acts : List Act) → IsAnswer acts → IsAnswer (tells e k xs ++ acts)
answers_tells e k [] acts h before = h before
answers_tells e k (x ∷ xs) acts h before = answers_tells e k xs acts h before

answers_commit : (b : Branch) (t : Bool) → IsAnswer (if t then commits b [] else [])
answers_commit b true before = refl
answers_commit b false before = refl

-- the managers that are asked are those whose replies are missing then
asked_names : (e : RmEvent) (ms : List Manager) → unreplied (asks e ms) ≡ joined ms
asked_names e [] = refl
asked_names e (m ∷ ms) = ap (λ xs. m.rm ∷ xs) (asked_names e ms)

answers_begin : (b : Branch) → end_answer (begins_ending b) line.Normal ≡ answer_else (answer_by (begins_ending b)) (line.Pending (missing b.accepted) (joined b.managers))
answers_begin b = answers_sends (to_each ToPrepare b.key.tid (serials b.accepted)) (tells (which_event b.changed b.accepted b.managers) b.key (joined b.managers) ++ commits_if_all (ending b) [])
    (answers_tells (which_event b.changed b.accepted b.managers) b.key (joined b.managers) (commits_if_all (ending b) []) (answers_commit (ending b) (all_voted b.accepted && all_replied (ending b).managers)))
    (line.Pending (missing b.accepted) (unreplied (ending b).managers))
    ∙ ap (λ rms. answer_else (answer_by (begins_ending b)) (line.Pending (missing b.accepted) rms)) (asked_names (which_event b.changed b.accepted b.managers) b.managers)

answers_active : (b : Branch) (t : Bool) → (let acts : List Act = if t then begins_ending b else aborts SyncFail b in end_answer acts line.Normal ≡ answer_else (answer_by acts) (line.Pending (missing b.accepted) (joined b.managers)))
answers_active b true = answers_begin b
answers_active b false = refl

answers_state : (b : Branch) (state : State) → is_active state ≡ true → end_answer (end_trans_state b state) line.Normal ≡ answer_else (answer_by (end_trans_state b state)) (line.Pending (missing b.accepted) (joined b.managers))
answers_state b Active e = answers_active b (all_taken b.bids b.accepted)
answers_state b Joining e = let never : ⊥ = cc in absurd never
answers_state b Ending e = let never : ⊥ = cc in absurd never
answers_state b Voting e = let never : ⊥ = cc in absurd never
answers_state b Prepared e = let never : ⊥ = cc in absurd never

-- what END_TRANS is answered, by the lines that it showed
pub end_answered : (s : Shared) (n : Node) (b : Branch) → find (first b.key.tid) n.volatile.branches ≡ Some b → is_active b.state ≡ true →
    answer_else (answer_shown (lines_of_rows (table_rows (row (tm_of n) (EndTrans b.key.tid)) s n))) (line.Pending (missing b.accepted) (joined b.managers)) ≡ end_answer (row (tm_of n) (EndTrans b.key.tid)) line.Normal
end_answered s n b there is =
    ap (λ o. answer_else o (line.Pending (missing b.accepted) (joined b.managers))) (shown_answer (row (tm_of n) (EndTrans b.key.tid)) s n)
    ∙ sym (let P : Option Branch → Type 0 = λ o. end_answer (rows.end_trans_row o) line.Normal ≡ answer_else (answer_by (rows.end_trans_row o)) (line.Pending (missing b.accepted) (joined b.managers)) in subst P (sym there) (answers_state b b.state is))
