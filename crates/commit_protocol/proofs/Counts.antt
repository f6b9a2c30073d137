-- The effects of one event are at most 2,048.
use Rattle.std.proofs.lemmas.List.{length-append}
use Rattle.std.proofs.lemmas.Bool.{cases_Bool, and_parts, not-true}
use Rattle.std.specs.Prelude.{if◌then◌else◌, not, ◌&&◌, ◌||◌}
use Rattle.std.specs.List.{list_any}
use Rattle.std.proofs.Common.{◌≡◌, ℕ, ◌≤◌, ◌+◌, ◌*◌, Bool, true, false, List, [], ◌∷◌, ◌++◌, Option, Some, None, inl, inr, refl, ap, sym, ◌∙◌, arith, suc, length}
use Rattle.vms_model.specs.Ids.{Id}
use Rattle.vms_model.specs.Transactions.{Reason, Aborted, Vetoed, SyncFail, Timeout, CommFail, SegFail}
use Rattle.commit_protocol.specs.Messages.{Name, Kind, Join, JoinOk, JoinNo, Prepare, Yes, ReadOnly, No, Commit, Abort, Ack, Inquire, Message, RmEvent, PrepareEvent, CommitEvent, AbortEvent, Reply, LogRecord, same_name, same_id}
use Rattle.commit_protocol.specs.Table.{Key, Branch, State, Joining, Active, Ending, Voting, Prepared, Child, Manager, Act, Notes, Accepts, Prepares, Settles, Leaves, Acknowledges, Releases, Undoes, Sends, Prints, Tm, first, key_of, child, coordinator_of, is_first, find, find_serial, nothing_left, waits_for, holds, acknowledged, released, holding, records_after}
use Rattle.commit_protocol.specs.World.{In, acts}
use Rattle.commit_protocol.specs.Rows.{down, up, sends_all, to_each, tells, joined, has_left, interested, asks, is_noted, serials, yes_of, all_voted, all_replied, has_bid, has_serial, others, all_taken, joined_as, ended, unless_read_only, told_abort, aborts_telling, aborts, undone_quietly, refuses, commits, commits_if_all, refuses_join, grants_join, join_state, join_row, join_ok_state, join_ok_row, join_no_state, join_no_row, which_event, ending, begins_ending, end_trans_state, end_trans_row, abort_running, abort_by_state, abort_branch_row, authorise_state, authorise_row, lacks_vote, with_vote, vote_state, vote_row, refused, no_state, no_row, ack_row, answer_state, answer, inquire_row, is_empty, casts, casts_if_all, voting, begins_vote, asked_branch, votes_if_ended, prepare_state, prepare_row, ended_branch, end_branch_state, end_branch_row, commit_state, commit_row, abort_state, abort_row, note_reply, with_reply, is_veto, is_forget, first_reply, branch_reply, reply_state, reply_row, note_state, note_row, has_changed, with_manager, asks_state, asks_row, aborted_if, sweep, is_due, is_cut_off, is_under, is_other, got, row, Event, Start, Authorise, Begin, JoinRm, Changed, EndTrans, EndBranch, AbortBranch, Replied, Got, Clock, LinkDown, RunDown, InquireBranch}
use Rattle.commit_protocol.proofs.Lists.{find_serial-key}
use Rattle.commit_protocol.specs.Limits.{BranchWithin, TmWithin}
use Rattle.commit_protocol.proofs.Within.{find_in}
use Rattle.commit_protocol.specs.Effects.{record_effects, acknowledge_effects, release_effects, act_effects, effects_of}
use Rattle.commit_protocol.proofs.Within.{length_holding}
use Rattle.commit_protocol.proofs.WithinRows.{length_yes, length_asks, length_reply, managers_within, bids_noted}

-- the effects of acts are at most as many as the acts
one_record : (r : LogRecord) → length (record_effects r) ≤ 1
one_record r =
    elim (cases_Bool (nothing_left r.waiting r.rms)) [
      | inl e ↦ rw e (omega arith)
      | inr e ↦ rw e (omega arith)
    ]

one_acknowledge : (k : Key) (rs : List LogRecord) → length (acknowledge_effects k rs) ≤ 1
one_acknowledge k [] = omega arith
one_acknowledge k (r ∷ rs) =
    elim (cases_Bool (waits_for k r)) [
      | inl e ↦ rw e (one_record (acknowledged k r))
      | inr e ↦ rw e (one_acknowledge k rs)
    ]

one_release : (s : Id) (x : Name) (rs : List LogRecord) → length (release_effects s x rs) ≤ 1
one_release s x [] = omega arith
one_release s x (r ∷ rs) =
    elim (cases_Bool (holds s x r)) [
      | inl e ↦ rw e (one_record (released x r))
      | inr e ↦ rw e (one_release s x rs)
    ]

one_effect : (a : Act) (rs : List LogRecord) → length (act_effects a rs) ≤ 1
one_effect (Notes b) rs = omega arith
one_effect (Accepts b c) rs = omega arith
one_effect (Prepares b) rs = omega arith
one_effect (Settles k o why r) rs = omega arith
one_effect (Leaves k) rs = omega arith
one_effect (Acknowledges k) rs = one_acknowledge k rs
one_effect (Releases s x) rs = one_release s x rs
one_effect (Undoes k) rs = omega arith
one_effect (Sends m) rs = omega arith
one_effect (Prints l) rs = omega arith

effects_few : (acts : List Act) (rs : List LogRecord) → length (effects_of acts rs) ≤ length acts
effects_few [] rs = omega arith
effects_few (a ∷ acts) rs =
    let one = one_effect a rs in
    let rest = effects_few acts (records_after a rs) in
    let l = length-append (act_effects a rs) (effects_of acts (records_after a rs)) in
    omega arith

-- lengths of the parts of rows
length_sends : (ms : List Message) → length (sends_all ms) ≡ length ms
length_sends [] = refl
length_sends (m ∷ ms) = ap suc (length_sends ms)

length_tells : (e : RmEvent) (k : Key) (xs : List Name) → length (tells e k xs) ≡ length xs
length_tells e k [] = refl
length_tells e k (x ∷ xs) = ap suc (length_tells e k xs)

length_each : (d : Kind) (t : Id) (ss : List Id) → length (to_each d t ss) ≡ length ss
length_each d t [] = refl
length_each d t (s ∷ ss) = ap suc (length_each d t ss)

length_serials : (cs : List Child) → length (serials cs) ≡ length cs
length_serials [] = refl
length_serials (c ∷ cs) = ap suc (length_serials cs)

length_joined : (ms : List Manager) → length (joined ms) ≡ length ms
length_joined [] = refl
length_joined (m ∷ ms) = ap suc (length_joined ms)

length_interested : (ms : List Manager) → length (interested ms) ≤ length ms
length_interested [] = omega arith
length_interested (m ∷ ms) =
    elim (cases_Bool (has_left m.reply)) [
      | inl e ↦ rw e (let q = length_interested ms in omega arith)
      | inr e ↦ rw e (let q = length_interested ms in omega arith)
    ]

length_others : (s : Id) (cs : List Child) → length (others s cs) ≤ length cs
length_others s [] = omega arith
length_others s (c ∷ cs) =
    elim (cases_Bool (same_id c.serial s)) [
      | inl e ↦ rw e (let q = length_others s cs in omega arith)
      | inr e ↦ rw e (let q = length_others s cs in omega arith)
    ]

length_unless : (o : Option Kind) (m : Message) (rest : List Message) → length (unless_read_only o m rest) ≤ suc (length rest)
length_unless None m rest = omega arith
length_unless (Some ReadOnly) m rest = omega arith
length_unless (Some _) m rest = omega arith

length_told : (t : Id) (cs : List Child) → length (told_abort t cs) ≤ length cs
length_told t [] = omega arith
length_told t (c ∷ cs) =
    let q = length_told t cs in
    let u = length_unless c.vote (down Abort (child t c.serial)) (told_abort t cs) in
    omega arith

length_ended : (b : Branch) (s : State) (r : Option Reason) → length (ended b s r) ≤ 1
length_ended b Ending r = omega arith
length_ended b Joining r = omega arith
length_ended b Active r = omega arith
length_ended b Voting r = omega arith
length_ended b Prepared r = omega arith

length_aborts : (cs : List Child) (why : Reason) (b : Branch) → length cs ≤ 15 → length b.managers ≤ 8 → length (aborts_telling cs why b) ≤ 25
length_aborts cs why b c m =
    let msgs : List Message = told_abort b.key.tid cs in
    let xs : List Name = interested b.managers in
    let a1 = length_told b.key.tid cs in let a2 = length_sends msgs in let a3 = length_interested b.managers in
    let a4 = length_tells AbortEvent b.key xs in let a5 = length_ended b b.state (Some why) in
    let a6 = length-append (sends_all msgs) (tells AbortEvent b.key xs ++ ended b b.state (Some why)) in
    let a7 = length-append (tells AbortEvent b.key xs) (ended b b.state (Some why)) in
    omega arith

length_refuses : (why : Reason) (b : Branch) → length b.managers ≤ 8 → length (refuses why b) ≤ 25
length_refuses why b m = let a = length_interested b.managers in let c = length_tells AbortEvent b.key (interested b.managers) in omega arith

length_undone : (why : Reason) (b : Branch) → length b.managers ≤ 8 → length (undone_quietly why b) ≤ 25
length_undone why b m = let a = length_interested b.managers in let c = length_tells AbortEvent b.key (interested b.managers) in omega arith

length_if : (n : ℕ) (t : Bool) (x y : List Act) → length x ≤ n → length y ≤ n → length (if t then x else y) ≤ n
length_if n true x y f g = f
length_if n false x y f g = g

children_of : (b : Branch) → BranchWithin b → length b.accepted ≤ 15
children_of b w = let a = w.accepted in let c = w.bids in omega arith

length_running : (why : Reason) (b : Branch) → BranchWithin b → length (abort_running why b) ≤ 25
length_running why b w = length_if 25 (is_first b) (aborts why b) (refuses why b) (length_aborts b.accepted why b (children_of b w) w.managers) (length_refuses why b w.managers)

length_by_state : (why : Reason) (b : Branch) (s : State) → BranchWithin b → length (abort_by_state why b s) ≤ 25
length_by_state why b Prepared w = omega arith
length_by_state why b Joining w = length_running why b w
length_by_state why b Active w = length_running why b w
length_by_state why b Ending w = length_running why b w
length_by_state why b Voting w = length_running why b w

length_swept : (t : Bool) (why : Reason) (b : Branch) → BranchWithin b → length (aborted_if t why b) ≤ 25
length_swept true why b w = length_by_state why b b.state w
length_swept false why b w = omega arith

-- two sweeps that never choose the same branch
both_swept : (s t : Bool) (why : Reason) (b : Branch) → BranchWithin b → (s ≡ true → t ≡ true → ⊥) → length (aborted_if s why b) + length (aborted_if t why b) ≤ 25
both_swept true true why b w apart = absurd (apart refl refl)
both_swept true false why b w apart = let q = length_swept true why b w in omega arith
both_swept false t why b w apart = let q = length_swept t why b w in omega arith

length_sweeps : (why : Reason) (one two : Branch → Bool) (bs : List Branch) → ((b : Branch) → In b bs → BranchWithin b) → ((b : Branch) → one b ≡ true → two b ≡ true → ⊥)
    → length (sweep why one bs) + length (sweep why two bs) ≤ 25 * length bs
length_sweeps why one two [] w apart = omega arith
length_sweeps why one two (b ∷ bs) w apart =
    let here = both_swept (one b) (two b) why b (w b (inl refl)) (apart b) in
    let rest = length_sweeps why one two bs (λ x i. w x (inr i)) apart in
    let l1 = length-append (aborted_if (one b) why b) (sweep why one bs) in
    let l2 = length-append (aborted_if (two b) why b) (sweep why two bs) in
    omega arith

never : Branch → Bool
never b = false

length_none : (why : Reason) (bs : List Branch) → length (sweep why never bs) ≡ 0
unfolding never
length_none why [] = refl
length_none why (b ∷ bs) = length_none why bs

-- rows of one branch have at most 64 acts
abbrev Few : List Act → Type 0
Few acts = length acts ≤ 64

few_commits : (b : Branch) (shown : List Act) → BranchWithin b → length shown ≤ 1 → length (commits_if_all b shown) ≤ 25
few_commits b shown w s =
    let msgs : List Message = to_each Commit b.key.tid (yes_of b.accepted) in
    let xs : List Name = holding b.managers in
    let a1 = length_yes b.accepted in let a2 = length_each Commit b.key.tid (yes_of b.accepted) in let a3 = length_sends msgs in
    let a4 = length_holding b.managers in let a5 = length_tells CommitEvent b.key xs in
    let a6 = length-append (sends_all msgs) (tells CommitEvent b.key xs ++ shown) in
    let a7 = length-append (tells CommitEvent b.key xs) shown in
    let c = children_of b w in let m = w.managers in
    length_if 25 (all_voted b.accepted && all_replied b.managers) (commits b shown) [] (omega arith) (omega arith)

few_casts : (b : Branch) → length (casts_if_all b) ≤ 2
few_casts b = length_if 2 (all_replied b.managers) (casts b) [] (length_if 2 (b.changed || not (is_empty (holding b.managers))) (Prepares b ∷ (Sends (up Yes b.key) ∷ [])) (Leaves b.key ∷ (Sends (up ReadOnly b.key) ∷ [])) (omega arith) (omega arith)) (omega arith)

few_votes : (b : Branch) → length b.managers ≤ 8 → length (begins_vote b) ≤ 25
few_votes b m =
    let xs : List Name = joined b.managers in
    let a1 = length_joined b.managers in let a2 = length_tells PrepareEvent b.key xs in let a3 = few_casts (voting b) in
    let a4 = length-append (tells PrepareEvent b.key xs) (casts_if_all (voting b)) in
    omega arith

few_join : (m : Message) (o : Option Branch) → Few (join_row m o)
few_join m None = omega arith
few_join m (Some b) = go b.state m.bid
  where
    go : (s : State) (bid : Option Id) → Few (join_state m b s bid)
    go Active (Some bid) = length_if 64 (joined_as bid m.serial b.accepted) (grants_join m) (if list_any (λ x. same_id x bid) b.bids && not (has_bid bid b.accepted) then Accepts b (record { bid = bid; serial = m.serial; vote = None }) ∷ grants_join m else refuses_join m) (omega arith)
        (length_if 64 (list_any (λ x. same_id x bid) b.bids && not (has_bid bid b.accepted)) (Accepts b (record { bid = bid; serial = m.serial; vote = None }) ∷ grants_join m) (refuses_join m) (omega arith) (omega arith))
    go Ending (Some bid) = length_if 64 (joined_as bid m.serial b.accepted) (grants_join m) (refuses_join m) (omega arith) (omega arith)
    go Active None = omega arith
    go Ending None = omega arith
    go Joining bid = omega arith
    go Voting bid = omega arith
    go Prepared bid = omega arith

-- the branch that was found is within its limits
abbrev Known : Option Branch → Type 0
Known None = Unit {0}
Known (Some b) = BranchWithin b

known : (tm : Tm) (k : Key) → TmWithin tm → (o : Option Branch) → find k tm.table ≡ o → Known o
known tm k w None e = tt
known tm k w (Some b) e = w.branches b (find_in k tm.table b e)

known_serial : (tm : Tm) (s : Id) → TmWithin tm → (o : Option Branch) → find_serial s tm.table ≡ o → Known o
known_serial tm s w None e = tt
known_serial tm s w (Some b) e = w.branches b (find_in b.key tm.table b (find_serial-key s tm.table b e))

few_join_ok : (o : Option Branch) → Few (join_ok_row o)
few_join_ok None = omega arith
few_join_ok (Some b) = go b.state
  where
    go : (s : State) → Few (join_ok_state b s)
    go Joining = omega arith
    go Active = omega arith
    go Ending = omega arith
    go Voting = omega arith
    go Prepared = omega arith

few_undone : (why : Reason) (b : Branch) → BranchWithin b → Few (undone_quietly why b)
few_undone why b w = let q = length_undone why b w.managers in omega arith

few_join_no : (o : Option Branch) → Known o → Few (join_no_row o)
few_join_no None w = omega arith
few_join_no (Some b) w = go b.state
  where
    go : (s : State) → Few (join_no_state b s)
    go Joining = few_undone SyncFail b w
    go Active = few_undone SyncFail b w
    go Voting = few_undone SyncFail b w
    go Ending = omega arith
    go Prepared = omega arith

few_abort : (o : Option Branch) → Known o → Few (abort_row o)
few_abort None w = omega arith
few_abort (Some b) w = go b.state
  where
    go : (s : State) → Few (abort_state b s)
    go Ending = omega arith
    go Joining = few_undone Aborted b w
    go Active = few_undone Aborted b w
    go Voting = few_undone Aborted b w
    go Prepared = few_undone Aborted b w

few_prepare : (m : Message) (o : Option Branch) → Known o → Few (prepare_row m o)
few_prepare m None w = omega arith
few_prepare m (Some b) w = go b.state
  where
    votes : length (votes_if_ended b) ≤ 25
    votes = length_if 25 b.ended (begins_vote (asked_branch b)) [] (few_votes (asked_branch b) w.managers) (omega arith)

    go : (s : State) → Few (prepare_state b s)
    go Joining = let v = votes in omega arith
    go Active = let v = votes in omega arith
    go Prepared = omega arith
    go Ending = omega arith
    go Voting = omega arith

few_vote : (s : Id) (v : Kind) (o : Option Branch) → Known o → Few (vote_row s v o)
few_vote s v None w = omega arith
few_vote s v (Some b) w = go b.state
  where
    go : (z : State) → Few (vote_state s v b z)
    go Ending =
        let c : Branch = with_vote s v b in
        let q = few_commits c (ended b b.state None) (bids_noted s v b w) (length_ended b b.state None) in
        length_if 64 (list_any (λ x. lacks_vote s x) b.accepted) (Notes c ∷ commits_if_all c (ended b b.state None)) [] (omega arith) (omega arith)
    go Joining = omega arith
    go Active = omega arith
    go Voting = omega arith
    go Prepared = omega arith

few_no : (s : Id) (o : Option Branch) → Known o → Few (no_row s o)
few_no s None w = omega arith
few_no s (Some b) w = go b.state
  where
    out : Few (refused s b)
    out =
        let l = length_others s b.accepted in let c = children_of b w in
        let q = length_aborts (others s b.accepted) Vetoed b (omega arith) w.managers in
        length_if 64 (has_serial s b.accepted) (aborts_telling (others s b.accepted) Vetoed b) [] (omega arith) (omega arith)

    go : (z : State) → Few (no_state s b z)
    go Active = out
    go Ending = out
    go Joining = omega arith
    go Voting = omega arith
    go Prepared = omega arith

few_commit : (m : Message) (o : Option Branch) → Known o → Few (commit_row m o)
few_commit m None w = omega arith
few_commit m (Some b) w = go b.state
  where
    go : (s : State) → Few (commit_state b s)
    go Prepared = let a = length_holding b.managers in let c = length_tells CommitEvent b.key (holding b.managers) in let n = w.managers in omega arith
    go Joining = omega arith
    go Active = omega arith
    go Ending = omega arith
    go Voting = omega arith

few_ack : (k : Key) (rs : List LogRecord) → Few (ack_row k rs)
few_ack k rs = length_if 64 (list_any (λ r. waits_for k r) rs) (Acknowledges k ∷ []) [] (omega arith) (omega arith)

few_answer : (m : Message) (o : Option Branch) → Few (answer m o)
few_answer m None = omega arith
few_answer m (Some b) = go b.state
  where
    go : (s : State) → Few (answer_state m b s)
    go Prepared = omega arith
    go Joining = omega arith
    go Active = omega arith
    go Ending = omega arith
    go Voting = omega arith

few_inquire : (m : Message) (o : Option Branch) (rs : List LogRecord) → Few (inquire_row m o rs)
few_inquire m o rs = length_if 64 (list_any (λ r. same_id r.tid m.tid) rs) (Sends (down Commit (key_of m)) ∷ []) (answer m o) (omega arith) (few_answer m o)

few_got : (tm : Tm) (m : Message) → TmWithin tm → (d : Kind) → Few (got tm m d)
few_got tm m w Join = few_join m (find (first m.tid) tm.table)
few_got tm m w JoinOk = few_join_ok (find (key_of m) tm.table)
few_got tm m w JoinNo = few_join_no (find (key_of m) tm.table) (known tm (key_of m) w (find (key_of m) tm.table) refl)
few_got tm m w Prepare = few_prepare m (find (key_of m) tm.table) (known tm (key_of m) w (find (key_of m) tm.table) refl)
few_got tm m w Yes = few_vote m.serial Yes (find (first m.tid) tm.table) (known tm (first m.tid) w (find (first m.tid) tm.table) refl)
few_got tm m w ReadOnly = few_vote m.serial ReadOnly (find (first m.tid) tm.table) (known tm (first m.tid) w (find (first m.tid) tm.table) refl)
few_got tm m w No = few_no m.serial (find (first m.tid) tm.table) (known tm (first m.tid) w (find (first m.tid) tm.table) refl)
few_got tm m w Commit = few_commit m (find (key_of m) tm.table) (known tm (key_of m) w (find (key_of m) tm.table) refl)
few_got tm m w Abort = few_abort (find (key_of m) tm.table) (known tm (key_of m) w (find (key_of m) tm.table) refl)
few_got tm m w Ack = few_ack (key_of m) tm.records
few_got tm m w Inquire = few_inquire m (find (first m.tid) tm.table) tm.records

few_note : (f : Branch → Branch) (o : Option Branch) → Few (note_row f o)
few_note f None = omega arith
few_note f (Some b) = go b.state
  where
    go : (s : State) → Few (note_state f b s)
    go Active = omega arith
    go Joining = omega arith
    go Ending = omega arith
    go Voting = omega arith
    go Prepared = omega arith

few_authorise : (bid : Id) (o : Option Branch) → Few (authorise_row bid o)
few_authorise bid None = omega arith
few_authorise bid (Some b) = go b.state
  where
    go : (s : State) → Few (authorise_state bid b s)
    go Active = omega arith
    go Joining = omega arith
    go Ending = omega arith
    go Voting = omega arith
    go Prepared = omega arith

few_asks : (o : Option Branch) → Few (asks_row o)
few_asks None = omega arith
few_asks (Some b) = go b.state
  where
    go : (s : State) → Few (asks_state b s)
    go Prepared = omega arith
    go Joining = omega arith
    go Active = omega arith
    go Ending = omega arith
    go Voting = omega arith

few_ending : (b : Branch) → BranchWithin b → Few (begins_ending b)
few_ending b w =
    let ev : RmEvent = which_event b.changed b.accepted b.managers in
    let msgs : List Message = to_each Prepare b.key.tid (serials b.accepted) in
    let xs : List Name = joined b.managers in
    let l = length_asks ev b.managers in let m = w.managers in
    let a1 = length_serials b.accepted in let a2 = length_each Prepare b.key.tid (serials b.accepted) in let a3 = length_sends msgs in
    let a4 = length_joined b.managers in let a5 = length_tells ev b.key xs in
    let a6 = few_commits (ending b) [] (managers_within b (asks ev b.managers) w (omega arith)) (omega arith) in
    let a7 = length-append (sends_all msgs) (tells ev b.key xs ++ commits_if_all (ending b) []) in
    let a8 = length-append (tells ev b.key xs) (commits_if_all (ending b) []) in
    let c = children_of b w in
    omega arith

few_end_trans : (o : Option Branch) → Known o → Few (end_trans_row o)
few_end_trans None w = omega arith
few_end_trans (Some b) w = go b.state
  where
    go : (s : State) → Few (end_trans_state b s)
    go Active = let q = length_aborts b.accepted SyncFail b (children_of b w) w.managers in length_if 64 (all_taken b.bids b.accepted) (begins_ending b) (aborts SyncFail b) (few_ending b w) (omega arith)
    go Joining = omega arith
    go Ending = omega arith
    go Voting = omega arith
    go Prepared = omega arith

few_end_branch : (o : Option Branch) → Known o → Few (end_branch_row o)
few_end_branch None w = omega arith
few_end_branch (Some b) w = go b.state
  where
    go : (s : State) → Few (end_branch_state b s)
    go Active =
        let q = length_if 25 b.asked (begins_vote (ended_branch b)) [] (few_votes (ended_branch b) w.managers) (omega arith) in omega arith
    go Joining = omega arith
    go Ending = omega arith
    go Voting = omega arith
    go Prepared = omega arith

few_abort_branch : (why : Reason) (o : Option Branch) → Known o → Few (abort_branch_row why o)
few_abort_branch why None w = omega arith
few_abort_branch why (Some b) w = let q = length_by_state why b b.state w in omega arith

few_reply : (s : Id) (x : Name) (r : Reply) (o : Option Branch) (rs : List LogRecord) → Known o → Few (reply_row s x r o rs)
few_reply s x r None rs w = length_if 64 (is_forget r && list_any (λ q. holds s x q) rs) (Releases s x ∷ []) [] (omega arith) (omega arith)
few_reply s x r (Some b) rs w = go b.state
  where
    ok : BranchWithin (with_reply x r b)
    ok = let l = length_reply x r b.managers in let m = w.managers in managers_within b (note_reply x r b.managers) w (omega arith)

    at_first : Few (first_reply x r b)
    at_first =
        let o = ok in
        let a = length_aborts b.accepted Vetoed (with_reply x r b) (children_of b w) o.managers in
        let q = few_commits (with_reply x r b) (ended b b.state None) o (length_ended b b.state None) in
        length_if 64 (is_veto r) (aborts Vetoed (with_reply x r b)) (Notes (with_reply x r b) ∷ commits_if_all (with_reply x r b) (ended b b.state None)) (omega arith) (omega arith)

    at_other : Few (branch_reply x r b)
    at_other =
        let o = ok in
        let a = length_refuses Vetoed (with_reply x r b) o.managers in
        let q = few_casts (with_reply x r b) in
        length_if 64 (is_veto r) (refuses Vetoed (with_reply x r b)) (Notes (with_reply x r b) ∷ casts_if_all (with_reply x r b)) (omega arith) (omega arith)

    go : (z : State) → Few (reply_state x r b z)
    go Ending = length_if 64 (is_first b) (first_reply x r b) [] at_first (omega arith)
    go Voting = length_if 64 b.asked (branch_reply x r b) [] at_other (omega arith)
    go Joining = omega arith
    go Active = omega arith
    go Prepared = omega arith

sweeps_fit : (tm : Tm) (why : Reason) (one two : Branch → Bool) → TmWithin tm → ((b : Branch) → one b ≡ true → two b ≡ true → ⊥) → length (sweep why one tm.table ++ sweep why two tm.table) ≤ 1600
sweeps_fit tm why one two w apart =
    let a = length_sweeps why one two tm.table w.branches apart in
    let l = length-append (sweep why one tm.table) (sweep why two tm.table) in
    let t = w.table in
    omega arith

sweep_fits : (tm : Tm) (why : Reason) (chosen : Branch → Bool) → TmWithin tm → length (sweep why chosen tm.table) ≤ 1600
unfolding never
sweep_fits tm why chosen w =
    let a = length_sweeps why chosen never tm.table w.branches (λ b h g. let z : false ≡ true = g in cc) in
    let t = w.table in
    omega arith

not_first : (b : Branch) → is_first b ≡ true → not (is_first b) ≡ true → ⊥
not_first b h g = let e = not-true (is_first b) g in let z : true ≡ false = sym h ∙ e in cc

row_fits : (tm : Tm) (e : Event) → TmWithin tm → length (row tm e) ≤ 1600
row_fits tm (Start t due) w = omega arith
row_fits tm (Authorise t bid) w = let q = few_authorise bid (find (first t) tm.table) in omega arith
row_fits tm (Begin t s bid) w = omega arith
row_fits tm (JoinRm s x) w = let q = few_note (with_manager x) (find_serial s tm.table) in omega arith
row_fits tm (Changed s) w = let q = few_note has_changed (find_serial s tm.table) in omega arith
row_fits tm (EndTrans t) w = let q = few_end_trans (find (first t) tm.table) (known tm (first t) w (find (first t) tm.table) refl) in omega arith
row_fits tm (EndBranch s) w = let q = few_end_branch (find_serial s tm.table) (known_serial tm s w (find_serial s tm.table) refl) in omega arith
row_fits tm (AbortBranch s why) w = let q = few_abort_branch why (find_serial s tm.table) (known_serial tm s w (find_serial s tm.table) refl) in omega arith
row_fits tm (Replied s x r) w = let q = few_reply s x r (find_serial s tm.table) tm.records (known_serial tm s w (find_serial s tm.table) refl) in omega arith
row_fits tm (Got m) w = let q = few_got tm m w m.kind in omega arith
row_fits tm (Clock now) w = sweep_fits tm Timeout (is_due now) w
row_fits tm (LinkDown x) w = sweeps_fit tm CommFail (is_cut_off x) (is_under x) w (λ b h g.
    not_first b (and_parts (is_first b) (list_any (λ c. same_name c.serial.node x && not (is_noted c.vote)) b.accepted) h).0 (and_parts (not (is_first b)) (same_name (coordinator_of b.key) x) g).0)
row_fits tm RunDown w = sweeps_fit tm SegFail is_first is_other w not_first
row_fits tm (InquireBranch s) w = let q = few_asks (find_serial s tm.table) in omega arith

-- the effects of one event
pub effects_fit : (tm : Tm) (e : Event) → TmWithin tm → length (effects_of (row tm e) tm.records) ≤ 2048
effects_fit tm e w = let a = effects_few (row tm e) tm.records in let b = row_fits tm e w in omega arith
