-- A row of the table tells managers an outcome only behind the settlement of their branch, and a commitment only those for whom its record waits.
use Rattle.std.proofs.Common.{◌≡◌, ◌⊎◌, Bool, true, false, not, ◌&&◌, ◌||◌, List, [], ◌∷◌, ◌++◌, inl, inr, Option, Some, None, if◌then◌else◌, refl}
use Rattle.std.specs.List.{list_any}
use Rattle.vms_model.specs.Ids.{Id}
use Rattle.vms_model.specs.Transactions.{Outcome, Commit as ToCommit, Abort as ToAbort, Reason, Vetoed, SyncFail, Timeout, CommFail, SegFail, Aborted}
use Rattle.commit_protocol.specs.Messages.{Name, Kind, Join, JoinOk, JoinNo, Prepare, Yes, ReadOnly, No, Commit, Abort, Ack, Inquire, Message, RmEvent, PrepareEvent, CommitEvent, AbortEvent, Reply, LogRecord, CommittedRecord, same_id}
use Rattle.commit_protocol.specs.Table.{Key, Branch, State, Joining, Active, Ending, Voting, Prepared, Child, Manager, Act, Notes, Accepts, Prepares, Settles, Leaves, Acknowledges, Releases, Sends, Prints, Told, Tm, first, key_of, is_first, find, find_serial, waits_for, holds, holding}
use Rattle.commit_protocol.specs.World.{In}
use Rattle.commit_protocol.specs.Rows.{owing, down, up, sends_all, to_each, tells, joined, interested, serials, yes_of, all_voted, all_replied, has_bid, has_serial, others, all_taken, joined_as, ended, told_abort, aborts_telling, aborts, undone_quietly, refuses, commits, commits_if_all, refuses_join, grants_join, join_state, join_row, join_ok_state, join_ok_row, join_no_state, join_no_row, which_event, ending, begins_ending, end_trans_state, end_trans_row, abort_by_state, abort_branch_row, authorise_state, authorise_row, lacks_vote, with_vote, vote_state, vote_row, refused, no_state, no_row, answer_state, answer, inquire_row, is_empty, casts, casts_if_all, voting, begins_vote, asked_branch, votes_if_ended, prepare_state, prepare_row, ended_branch, end_branch_state, end_branch_row, commit_state, commit_row, abort_state, abort_row, with_reply, is_veto, is_forget, first_reply, branch_reply, reply_state, reply_row, note_state, has_changed, note_row, with_manager, asks_state, asks_row, aborted_if, sweep, is_due, is_cut_off, is_under, is_other, got, row, Event, Start, Authorise, Begin, JoinRm, Changed, EndTrans, EndBranch, AbortBranch, Replied, Got, Clock, LinkDown, RunDown, InquireBranch}

-- how branches are known to be settled, and which committed records were written with that
abbrev pub Known : Type 1
Known = Key → Outcome → Option LogRecord → Type 0

-- and one more
abbrev pub With : Known → Key → Outcome → Option LogRecord → Key → Outcome → Option LogRecord → Type 0
With K k o r j p q = K j p q ⊎ ((j ≡ k) × (p ≡ o) × (q ≡ r))

-- a branch is known to be committed, with a record of it that waits for this manager
pub record IsOwing (K : Known) (k : Key) (x : Name) : Type 0 where
  pub log : LogRecord
  pub known : K k ToCommit (Some log)
  pub serial : log.serial ≡ k.serial
  pub tid : log.tid ≡ k.tid
  pub waits : In x log.rms

-- an event that tells an outcome tells the one that is known, and a commitment one that is owed
abbrev pub Announces : Known → RmEvent → Key → Name → Type 0
Announces K CommitEvent k x = IsOwing K k x
Announces K AbortEvent k x = (r : Option LogRecord) × K k ToAbort r
Announces K _ k x = Unit {0}

-- so it is of these acts, one after another
abbrev pub Orderly : Known → List Act → Type 0
Orderly K [] = Unit {0}
Orderly K (Settles k o reason r ∷ acts) = Orderly (With K k o r) acts
Orderly K (Prints (Told v k x) ∷ acts) = Announces K v k x × Orderly K acts
Orderly K (_ ∷ acts) = Orderly K acts

announced_more : (K M : Known) → ((j : Key) (p : Outcome) (q : Option LogRecord) → K j p q → M j p q) → (v : RmEvent) (k : Key) (x : Name) → Announces K v k x → Announces M v k x
announced_more K M f CommitEvent k x h = record { log = h.log; known = f k ToCommit (Some h.log) h.known; serial = h.serial; tid = h.tid; waits = h.waits }
announced_more K M f AbortEvent k x h = (h.0, f k ToAbort h.0 h.1)
announced_more K M f _ k x h = tt

more_known : (K M : Known) → ((j : Key) (p : Outcome) (q : Option LogRecord) → K j p q → M j p q) → (acts : List Act) → Orderly K acts → Orderly M acts
more_known K M f [] h = tt
more_known K M f (Settles k o reason r ∷ acts) h = more_known (With K k o r) (With M k o r) (λ j p q x. elim x [ inl a ↦ inl (f j p q a) | inr b ↦ inr b ]) acts h
more_known K M f (Prints (Told v k x) ∷ acts) h = (announced_more K M f v k x h.0, more_known K M f acts h.1)
more_known K M f (Prints _ ∷ acts) h = more_known K M f acts h
more_known K M f (_ ∷ acts) h = more_known K M f acts h

-- the record that is written with a commitment waits for the managers that are told it
record_owing : (K : Known) (k : Key) (ss : List Id) (xs : List Name) (x : Name) → In x xs → IsOwing (With K k ToCommit (owing k ss xs)) k x
record_owing K k [] [] x i = absurd i
record_owing K k [] (y ∷ ys) x i = record { log = record { kind = CommittedRecord; tid = k.tid; serial = k.serial; waiting = []; rms = y ∷ ys }; known = inr (refl, refl, refl); serial = refl; tid = refl; waits = i }
record_owing K k (s ∷ ss) xs x i = record { log = record { kind = CommittedRecord; tid = k.tid; serial = k.serial; waiting = s ∷ ss; rms = xs }; known = inr (refl, refl, refl); serial = refl; tid = refl; waits = i }

append_orderly : (K : Known) (xs ys : List Act) → Orderly K xs → Orderly K ys → Orderly K (xs ++ ys)
append_orderly K [] ys f g = g
append_orderly K (Settles k o reason r ∷ xs) ys f g = append_orderly (With K k o r) xs ys f (more_known K (With K k o r) (λ j p q x. inl x) ys g)
append_orderly K (Prints (Told v k x) ∷ xs) ys f g = (f.0, append_orderly K xs ys f.1 g)
append_orderly K (Prints _ ∷ xs) ys f g = append_orderly K xs ys f g
append_orderly K (_ ∷ xs) ys f g = append_orderly K xs ys f g

if_orderly : (K : Known) (t : Bool) (x y : List Act) → Orderly K x → Orderly K y → Orderly K (if t then x else y)
if_orderly K true x y f g = f
if_orderly K false x y f g = g

sends_orderly : (K : Known) (ms : List Message) → Orderly K (sends_all ms)
sends_orderly K [] = tt
sends_orderly K (m ∷ ms) = sends_orderly K ms

tells_orderly : (K : Known) (v : RmEvent) (k : Key) (xs : List Name) → ((x : Name) → In x xs → Announces K v k x) → Orderly K (tells v k xs)
tells_orderly K v k [] h = tt
tells_orderly K v k (x ∷ xs) h = (h x (inl refl), tells_orderly K v k xs (λ y i. h y (inr i)))

ended_orderly : (K : Known) (b : Branch) (s : State) (reason : Option Reason) → Orderly K (ended b s reason)
ended_orderly K b Ending reason = tt
ended_orderly K b _ reason = tt

aborts_orderly : (K : Known) (cs : List Child) (why : Reason) (b : Branch) → Orderly K (aborts_telling cs why b)
aborts_orderly K cs why b =
    let M = With K b.key ToAbort None in
    append_orderly M (sends_all (told_abort b.key.tid cs)) (tells AbortEvent b.key (interested b.managers) ++ ended b b.state (Some why)) (sends_orderly M (told_abort b.key.tid cs))
    (append_orderly M (tells AbortEvent b.key (interested b.managers)) (ended b b.state (Some why)) (tells_orderly M AbortEvent b.key (interested b.managers) (λ x i. (None, inr (refl, refl, refl)))) (ended_orderly M b b.state (Some why)))

undone_orderly : (K : Known) (why : Reason) (b : Branch) → Orderly K (undone_quietly why b)
undone_orderly K why b = tells_orderly (With K b.key ToAbort None) AbortEvent b.key (interested b.managers) (λ x i. (None, inr (refl, refl, refl)))

refuses_orderly : (K : Known) (why : Reason) (b : Branch) → Orderly K (refuses why b)
refuses_orderly K why b = tells_orderly (With K b.key ToAbort None) AbortEvent b.key (interested b.managers) (λ x i. (None, inr (refl, refl, refl)))

commits_orderly : (K : Known) (b : Branch) (shown : List Act) → ((M : Known) → Orderly M shown) → Orderly K (commits_if_all b shown)
commits_orderly K b shown h =
    let M = With K b.key ToCommit (owing b.key (yes_of b.accepted) (holding b.managers)) in
    if_orderly K (all_voted b.accepted && all_replied b.managers) (commits b shown) []
    (append_orderly M (sends_all (to_each Commit b.key.tid (yes_of b.accepted))) (tells CommitEvent b.key (holding b.managers) ++ shown) (sends_orderly M (to_each Commit b.key.tid (yes_of b.accepted)))
    (append_orderly M (tells CommitEvent b.key (holding b.managers)) shown (tells_orderly M CommitEvent b.key (holding b.managers) (record_owing K b.key (yes_of b.accepted) (holding b.managers))) (h M))) tt

casts_orderly : (K : Known) (b : Branch) → Orderly K (casts_if_all b)
casts_orderly K b = if_orderly K (all_replied b.managers) (casts b) [] (if_orderly K (b.changed || not (is_empty (holding b.managers))) (Prepares b ∷ (Sends (up Yes b.key) ∷ [])) (Leaves b.key ∷ (Sends (up ReadOnly b.key) ∷ [])) tt tt) tt

votes_orderly : (K : Known) (b : Branch) → Orderly K (begins_vote b)
votes_orderly K b = append_orderly K (tells PrepareEvent b.key (joined b.managers)) (casts_if_all (voting b)) (tells_orderly K PrepareEvent b.key (joined b.managers) (λ x i. tt)) (casts_orderly K (voting b))

join_orderly : (K : Known) (m : Message) (o : Option Branch) → Orderly K (join_row m o)
join_orderly K m None = tt
join_orderly K m (Some b) = go b.state m.bid
  where
    go : (s : State) (o : Option Id) → Orderly K (join_state m b s o)
    go Active (Some bid) = if_orderly K (joined_as bid m.serial b.accepted) (grants_join m)
        (if list_any (λ x. same_id x bid) b.bids && not (has_bid bid b.accepted) then Accepts b (record { bid = bid; serial = m.serial; vote = None }) ∷ grants_join m else refuses_join m) tt
        (if_orderly K (list_any (λ x. same_id x bid) b.bids && not (has_bid bid b.accepted)) (Accepts b (record { bid = bid; serial = m.serial; vote = None }) ∷ grants_join m) (refuses_join m) tt tt)
    go Ending (Some bid) = if_orderly K (joined_as bid m.serial b.accepted) (grants_join m) (refuses_join m) tt tt
    go Active None = tt
    go Ending None = tt
    go Joining bid = tt
    go Voting bid = tt
    go Prepared bid = tt

join_ok_orderly : (K : Known) (o : Option Branch) → Orderly K (join_ok_row o)
join_ok_orderly K None = tt
join_ok_orderly K (Some b) = go b.state
  where
    go : (s : State) → Orderly K (join_ok_state b s)
    go Joining = tt
    go _ = tt

join_no_orderly : (K : Known) (o : Option Branch) → Orderly K (join_no_row o)
join_no_orderly K None = tt
join_no_orderly K (Some b) = go b.state
  where
    go : (s : State) → Orderly K (join_no_state b s)
    go Joining = undone_orderly K SyncFail b
    go Active = undone_orderly K SyncFail b
    go Voting = undone_orderly K SyncFail b
    go Ending = tt
    go Prepared = tt

prepare_orderly : (K : Known) (m : Message) (o : Option Branch) → Orderly K (prepare_row m o)
prepare_orderly K m None = tt
prepare_orderly K m (Some b) = go b.state
  where
    asked_votes : Orderly K (votes_if_ended b)
    asked_votes = if_orderly K b.ended (begins_vote (asked_branch b)) [] (votes_orderly K (asked_branch b)) tt

    go : (s : State) → Orderly K (prepare_state b s)
    go Joining = asked_votes
    go Active = asked_votes
    go Prepared = tt
    go Ending = tt
    go Voting = tt

vote_orderly : (K : Known) (s : Id) (v : Kind) (o : Option Branch) → Orderly K (vote_row s v o)
vote_orderly K s v None = tt
vote_orderly K s v (Some b) = go b.state
  where
    go : (z : State) → Orderly K (vote_state s v b z)
    go Ending = if_orderly K (list_any (λ c. lacks_vote s c) b.accepted) (Notes (with_vote s v b) ∷ commits_if_all (with_vote s v b) (ended b b.state None)) []
        (commits_orderly K (with_vote s v b) (ended b b.state None) (λ M. ended_orderly M b b.state None)) tt
    go _ = tt

no_orderly : (K : Known) (s : Id) (o : Option Branch) → Orderly K (no_row s o)
no_orderly K s None = tt
no_orderly K s (Some b) = go b.state
  where
    aborted : Orderly K (refused s b)
    aborted = if_orderly K (has_serial s b.accepted) (aborts_telling (others s b.accepted) Vetoed b) [] (aborts_orderly K (others s b.accepted) Vetoed b) tt

    go : (z : State) → Orderly K (no_state s b z)
    go Active = aborted
    go Ending = aborted
    go _ = tt

commit_orderly : (K : Known) (m : Message) (o : Option Branch) → Orderly K (commit_row m o)
commit_orderly K m None = tt
commit_orderly K m (Some b) = go b.state
  where
    go : (s : State) → Orderly K (commit_state b s)
    go Prepared = tells_orderly (With K b.key ToCommit (owing b.key [] (holding b.managers))) CommitEvent b.key (holding b.managers) (record_owing K b.key [] (holding b.managers))
    go _ = tt

abort_orderly : (K : Known) (o : Option Branch) → Orderly K (abort_row o)
abort_orderly K None = tt
abort_orderly K (Some b) = go b.state
  where
    go : (s : State) → Orderly K (abort_state b s)
    go Ending = tt
    go _ = undone_orderly K Aborted b

inquire_orderly : (K : Known) (m : Message) (o : Option Branch) (rs : List LogRecord) → Orderly K (inquire_row m o rs)
inquire_orderly K m o rs = if_orderly K (list_any (λ r. same_id r.tid m.tid) rs) (Sends (down Commit (key_of m)) ∷ []) (answer m o) tt (answers o)
  where
    by_state : (b : Branch) (s : State) → Orderly K (answer_state m b s)
    by_state b Prepared = tt
    by_state b _ = tt

    answers : (o : Option Branch) → Orderly K (answer m o)
    answers None = tt
    answers (Some b) = by_state b b.state

authorise_orderly : (K : Known) (bid : Id) (o : Option Branch) → Orderly K (authorise_row bid o)
authorise_orderly K bid None = tt
authorise_orderly K bid (Some b) = go b.state
  where
    go : (s : State) → Orderly K (authorise_state bid b s)
    go Active = tt
    go _ = tt

which_announces : (K : Known) (k : Key) (x : Name) (changed : Bool) (cs : List Child) (ms : List Manager) → Announces K (which_event changed cs ms) k x
which_announces K k x true cs ms = tt
which_announces K k x false (c ∷ cs) ms = tt
which_announces K k x false [] [] = tt
which_announces K k x false [] (m ∷ []) = tt
which_announces K k x false [] (m ∷ y ∷ ms) = tt

end_trans_orderly : (K : Known) (o : Option Branch) → Orderly K (end_trans_row o)
end_trans_orderly K None = tt
end_trans_orderly K (Some b) = go b.state
  where
    go : (s : State) → Orderly K (end_trans_state b s)
    go Active = if_orderly K (all_taken b.bids b.accepted) (begins_ending b) (aborts SyncFail b)
        (append_orderly K (sends_all (to_each Prepare b.key.tid (serials b.accepted))) (tells (which_event b.changed b.accepted b.managers) b.key (joined b.managers) ++ commits_if_all (ending b) []) (sends_orderly K (to_each Prepare b.key.tid (serials b.accepted)))
        (append_orderly K (tells (which_event b.changed b.accepted b.managers) b.key (joined b.managers)) (commits_if_all (ending b) []) (tells_orderly K (which_event b.changed b.accepted b.managers) b.key (joined b.managers) (λ x i. which_announces K b.key x b.changed b.accepted b.managers)) (commits_orderly K (ending b) [] (λ M. tt))))
        (aborts_orderly K b.accepted SyncFail b)
    go _ = tt

end_branch_orderly : (K : Known) (o : Option Branch) → Orderly K (end_branch_row o)
end_branch_orderly K None = tt
end_branch_orderly K (Some b) = go b.state
  where
    go : (s : State) → Orderly K (end_branch_state b s)
    go Active = if_orderly K b.asked (begins_vote (ended_branch b)) [] (votes_orderly K (ended_branch b)) tt
    go _ = tt

reply_orderly : (K : Known) (s : Id) (x : Name) (r : Reply) (o : Option Branch) (rs : List LogRecord) → Orderly K (reply_row s x r o rs)
reply_orderly K s x r None rs = if_orderly K (is_forget r && list_any (λ q. holds s x q) rs) (Releases s x ∷ []) [] tt tt
reply_orderly K s x r (Some b) rs = go b.state
  where
    at_first : Orderly K (first_reply x r b)
    at_first = if_orderly K (is_veto r) (aborts Vetoed (with_reply x r b)) (Notes (with_reply x r b) ∷ commits_if_all (with_reply x r b) (ended b b.state None)) (aborts_orderly K b.accepted Vetoed (with_reply x r b))
        (commits_orderly K (with_reply x r b) (ended b b.state None) (λ M. ended_orderly M b b.state None))

    at_other : Orderly K (branch_reply x r b)
    at_other = if_orderly K (is_veto r) (refuses Vetoed (with_reply x r b)) (Notes (with_reply x r b) ∷ casts_if_all (with_reply x r b)) (refuses_orderly K Vetoed (with_reply x r b)) (casts_orderly K (with_reply x r b))

    go : (z : State) → Orderly K (reply_state x r b z)
    go Ending = if_orderly K (is_first b) (first_reply x r b) [] at_first tt
    go Voting = if_orderly K b.asked (branch_reply x r b) [] at_other tt
    go _ = tt

note_orderly : (K : Known) (f : Branch → Branch) (o : Option Branch) → Orderly K (note_row f o)
note_orderly K f None = tt
note_orderly K f (Some b) = go b.state
  where
    go : (s : State) → Orderly K (note_state f b s)
    go Active = tt
    go _ = tt

asks_orderly : (K : Known) (o : Option Branch) → Orderly K (asks_row o)
asks_orderly K None = tt
asks_orderly K (Some b) = go b.state
  where
    go : (s : State) → Orderly K (asks_state b s)
    go Prepared = tt
    go _ = tt

by_state_orderly : (K : Known) (why : Reason) (b : Branch) (s : State) → Orderly K (abort_by_state why b s)
by_state_orderly K why b Prepared = tt
by_state_orderly K why b _ = if_orderly K (is_first b) (aborts why b) (refuses why b) (aborts_orderly K b.accepted why b) (refuses_orderly K why b)

abort_branch_orderly : (K : Known) (why : Reason) (o : Option Branch) → Orderly K (abort_branch_row why o)
abort_branch_orderly K why None = tt
abort_branch_orderly K why (Some b) = by_state_orderly K why b b.state

sweep_orderly : (K : Known) (why : Reason) (chosen : Branch → Bool) (bs : List Branch) → Orderly K (sweep why chosen bs)
sweep_orderly K why chosen [] = tt
sweep_orderly K why chosen (b ∷ bs) = append_orderly K (aborted_if (chosen b) why b) (sweep why chosen bs) (go (chosen b)) (sweep_orderly K why chosen bs)
  where
    go : (t : Bool) → Orderly K (aborted_if t why b)
    go true = by_state_orderly K why b b.state
    go false = tt

-- so it is of each row
pub row_orderly : (K : Known) (tm : Tm) (e : Event) → Orderly K (row tm e)
row_orderly K tm e = go e
  where
    message : (m : Message) (d : Kind) → Orderly K (got tm m d)
    message m Join = join_orderly K m (find (first m.tid) tm.table)
    message m JoinOk = join_ok_orderly K (find (key_of m) tm.table)
    message m JoinNo = join_no_orderly K (find (key_of m) tm.table)
    message m Prepare = prepare_orderly K m (find (key_of m) tm.table)
    message m Yes = vote_orderly K m.serial Yes (find (first m.tid) tm.table)
    message m ReadOnly = vote_orderly K m.serial ReadOnly (find (first m.tid) tm.table)
    message m No = no_orderly K m.serial (find (first m.tid) tm.table)
    message m Commit = commit_orderly K m (find (key_of m) tm.table)
    message m Abort = abort_orderly K (find (key_of m) tm.table)
    message m Ack = if_orderly K (list_any (λ r. waits_for (key_of m) r) tm.records) (Acknowledges (key_of m) ∷ []) [] tt tt
    message m Inquire = inquire_orderly K m (find (first m.tid) tm.table) tm.records

    go : (e : Event) → Orderly K (row tm e)
    go (Start t due) = tt
    go (Authorise t bid) = authorise_orderly K bid (find (first t) tm.table)
    go (Begin t s bid) = tt
    go (JoinRm s x) = note_orderly K (with_manager x) (find_serial s tm.table)
    go (Changed s) = note_orderly K has_changed (find_serial s tm.table)
    go (EndTrans t) = end_trans_orderly K (find (first t) tm.table)
    go (EndBranch s) = end_branch_orderly K (find_serial s tm.table)
    go (AbortBranch s why) = abort_branch_orderly K why (find_serial s tm.table)
    go (Replied s x r) = reply_orderly K s x r (find_serial s tm.table) tm.records
    go (Got m) = message m m.kind
    go (Clock now) = sweep_orderly K Timeout (is_due now) tm.table
    go (LinkDown x) = append_orderly K (sweep CommFail (is_cut_off x) tm.table) (sweep CommFail (is_under x) tm.table) (sweep_orderly K CommFail (is_cut_off x) tm.table) (sweep_orderly K CommFail (is_under x) tm.table)
    go RunDown = append_orderly K (sweep SegFail is_first tm.table) (sweep SegFail is_other tm.table) (sweep_orderly K SegFail is_first tm.table) (sweep_orderly K SegFail is_other tm.table)
    go (InquireBranch s) = asks_orderly K (find_serial s tm.table)
