-- No row of the table undoes a unit: that is a boot's alone.
use Rattle.std.proofs.Common.{List, [], ◌∷◌, ◌++◌, Bool, true, false, not, ◌&&◌, Option, Some, None, if◌then◌else◌}
use Rattle.std.specs.List.{AllByRecursion, list_any}
use Rattle.vms_model.specs.Ids.{Id}
use Rattle.vms_model.specs.Transactions.{Reason, Vetoed, SyncFail}
use Rattle.run_model.specs.commit_protocol.Messages.{Name, Kind, Join, JoinOk, JoinNo, Prepare, Yes, ReadOnly, No, Commit, Abort, Ack, Inquire, Message, RmEvent, LogRecord, Reply, same_id}
use Rattle.run_model.specs.commit_protocol.Table.{Key, Branch, State, Joining, Active, Ending, Voting, Prepared, Child, Act, Accepts, Undoes, Tm, first, key_of, find, find_serial, is_first}
use Rattle.run_model.specs.commit_protocol.Rows as rows
use Rattle.run_model.specs.commit_protocol.Rows.{Event, Start, Authorise, Begin, JoinRm, Changed, EndTrans, EndBranch, AbortBranch, Replied, Got, Clock, LinkDown, RunDown, InquireBranch, row}
use Rattle.world_laws.proofs.EntryLemmas.{all_append}

-- an act is no boot's
abbrev pub IsRowAct : Act → Type 0
IsRowAct (Undoes k) = ⊥
IsRowAct _ = Unit {0}

abbrev pub AreRowActs : List Act → Type 0
AreRowActs acts = AllByRecursion IsRowAct acts

-- so it is with all of these
record AreRow (acts : List Act) : Type 0 where
  all : AreRowActs acts

none : AreRow []
none = record { all = tt }

add : {a : Act} {acts : List Act} → IsRowAct a → AreRow acts → AreRow (a ∷ acts)
add a h = record { all = (a, h.all) }

either : (b : Bool) {xs ys : List Act} → AreRow xs → AreRow ys → AreRow (if b then xs else ys)
either true h k = h
either false h k = k

both : {xs ys : List Act} → AreRow xs → AreRow ys → AreRow (xs ++ ys)
both {xs = xs} {ys = ys} h k = record { all = all_append IsRowAct xs ys h.all k.all }

sends_all : (ms : List Message) → AreRow (rows.sends_all ms)
sends_all [] = none
sends_all (m ∷ ms) = (add tt (sends_all ms))

tells : (e : RmEvent) (k : Key) (xs : List Name) → AreRow (rows.tells e k xs)
tells e k [] = none
tells e k (x ∷ xs) = (add tt (tells e k xs))

ended : (b : Branch) (s : State) (reason : Option Reason) → AreRow (rows.ended b s reason)
ended b Ending reason = (add tt none)
ended b Joining reason = none
ended b Active reason = none
ended b Voting reason = none
ended b Prepared reason = none

aborts_telling : (cs : List Child) (reason : Reason) (b : Branch) → AreRow (rows.aborts_telling cs reason b)
aborts_telling cs reason b = (add tt (both (sends_all (rows.told_abort b.key.tid cs)) (both (tells _ _ (rows.interested b.managers)) (ended b b.state (Some reason)))))

undone_quietly : (reason : Reason) (b : Branch) → AreRow (rows.undone_quietly reason b)
undone_quietly reason b = (add tt (tells _ _ (rows.interested b.managers)))

refuses : (reason : Reason) (b : Branch) → AreRow (rows.refuses reason b)
refuses reason b = (add tt (add tt (tells _ _ (rows.interested b.managers))))

commits_if_all : (b : Branch) (shown : List Act) → AreRow shown → AreRow (rows.commits_if_all b shown)
commits_if_all b shown h = either _ (add tt (both (sends_all _) (both (tells _ _ _) h))) none

granted : (m : Message) → AreRow (rows.grants_join m)
granted m = add tt none

denied : (m : Message) → AreRow (rows.refuses_join m)
denied m = add tt none

joins_if : (m : Message) (b : Branch) (bid : Id) (p q : Bool) →
    AreRow (if p then rows.grants_join m else (if q then Accepts b (record { bid = bid; serial = m.serial; vote = None }) ∷ rows.grants_join m else rows.refuses_join m))
joins_if m b bid true q = granted m
joins_if m b bid false true = add tt (granted m)
joins_if m b bid false false = denied m

grants_if : (m : Message) (p : Bool) → AreRow (if p then rows.grants_join m else rows.refuses_join m)
grants_if m true = granted m
grants_if m false = denied m

join_state : (m : Message) (b : Branch) (s : State) (o : Option Id) → AreRow (rows.join_state m b s o)
join_state m b Active (Some bid) = joins_if m b bid (rows.joined_as bid m.serial b.accepted) (list_any (λ x. same_id x bid) b.bids && not (rows.has_bid bid b.accepted))
join_state m b Ending (Some bid) = grants_if m (rows.joined_as bid m.serial b.accepted)
join_state m b Joining o = (add tt none)
join_state m b Voting o = (add tt none)
join_state m b Prepared o = (add tt none)
join_state m b Active None = (add tt none)
join_state m b Ending None = (add tt none)

join_row : (m : Message) (o : Option Branch) → AreRow (rows.join_row m o)
join_row m None = (add tt none)
join_row m (Some b) = join_state m b b.state m.bid

join_ok_row : (o : Option Branch) → AreRow (rows.join_ok_row o)
join_ok_row None = none
join_ok_row (Some b) = go b.state
  where
    go : (s : State) → AreRow (rows.join_ok_state b s)
    go Joining = (add tt (add tt none))
    go Active = none
    go Ending = none
    go Voting = none
    go Prepared = none

join_no_row : (o : Option Branch) → AreRow (rows.join_no_row o)
join_no_row None = none
join_no_row (Some b) = go b.state
  where
    go : (s : State) → AreRow (rows.join_no_state b s)
    go Joining = undone_quietly SyncFail b
    go Active = undone_quietly SyncFail b
    go Ending = none
    go Voting = undone_quietly SyncFail b
    go Prepared = none

end_trans_row : (o : Option Branch) → AreRow (rows.end_trans_row o)
end_trans_row None = none
end_trans_row (Some b) = go b.state
  where
    go : (s : State) → AreRow (rows.end_trans_state b s)
    go Active = either _ (add tt (both (sends_all _) (both (tells _ _ _) (commits_if_all (rows.ending b) [] none)))) (aborts_telling b.accepted SyncFail b)
    go Joining = none
    go Ending = none
    go Voting = none
    go Prepared = none

abort_by_state : (reason : Reason) (b : Branch) (s : State) → AreRow (rows.abort_by_state reason b s)
abort_by_state reason b Prepared = none
abort_by_state reason b Joining = either _ (aborts_telling b.accepted reason b) (refuses reason b)
abort_by_state reason b Active = either _ (aborts_telling b.accepted reason b) (refuses reason b)
abort_by_state reason b Ending = either _ (aborts_telling b.accepted reason b) (refuses reason b)
abort_by_state reason b Voting = either _ (aborts_telling b.accepted reason b) (refuses reason b)

abort_branch_row : (reason : Reason) (o : Option Branch) → AreRow (rows.abort_branch_row reason o)
abort_branch_row reason None = none
abort_branch_row reason (Some b) = abort_by_state reason b b.state

authorise_row : (bid : Id) (o : Option Branch) → AreRow (rows.authorise_row bid o)
authorise_row bid None = none
authorise_row bid (Some b) = go b.state
  where
    go : (s : State) → AreRow (rows.authorise_state bid b s)
    go Active = (add tt none)
    go Joining = none
    go Ending = none
    go Voting = none
    go Prepared = none

vote_row : (s : Id) (v : Kind) (o : Option Branch) → AreRow (rows.vote_row s v o)
vote_row s v None = none
vote_row s v (Some b) = go b.state
  where
    go : (t : State) → AreRow (rows.vote_state s v b t)
    go Ending = either _ (add tt (commits_if_all (rows.with_vote s v b) _ (ended b b.state None))) none
    go Joining = none
    go Active = none
    go Voting = none
    go Prepared = none

no_row : (s : Id) (o : Option Branch) → AreRow (rows.no_row s o)
no_row s None = none
no_row s (Some b) = go b.state
  where
    refused : AreRow (rows.refused s b)
    refused = either _ (aborts_telling (rows.others s b.accepted) Vetoed b) none

    go : (t : State) → AreRow (rows.no_state s b t)
    go Active = refused
    go Ending = refused
    go Joining = none
    go Voting = none
    go Prepared = none

inquire_row : (m : Message) (o : Option Branch) (rs : List LogRecord) → AreRow (rows.inquire_row m o rs)
inquire_row m o rs = either _ (add tt none) (answer o)
  where
    answer : (o : Option Branch) → AreRow (rows.answer m o)
    answer None = (add tt none)
    answer (Some b) = go b.state
      where
        go : (s : State) → AreRow (rows.answer_state m b s)
        go Prepared = (add tt none)
        go Joining = none
        go Active = none
        go Ending = none
        go Voting = none

casts_if_all : (b : Branch) → AreRow (rows.casts_if_all b)
casts_if_all b = either _ (either _ (add tt (add tt none)) (add tt (add tt none))) none

begins_vote : (b : Branch) → AreRow (rows.begins_vote b)
begins_vote b = (add tt (both (tells _ _ _) (casts_if_all (rows.voting b))))

votes_if_ended : (b : Branch) → AreRow (rows.votes_if_ended b)
votes_if_ended b = either _ (begins_vote (rows.asked_branch b)) none

prepare_row : (m : Message) (o : Option Branch) → AreRow (rows.prepare_row m o)
prepare_row m None = (add tt none)
prepare_row m (Some b) = go b.state
  where
    go : (s : State) → AreRow (rows.prepare_state b s)
    go Joining = (add tt (add tt (votes_if_ended b)))
    go Active = (add tt (votes_if_ended b))
    go Prepared = (add tt none)
    go Ending = none
    go Voting = none

end_branch_row : (o : Option Branch) → AreRow (rows.end_branch_row o)
end_branch_row None = none
end_branch_row (Some b) = go b.state
  where
    go : (s : State) → AreRow (rows.end_branch_state b s)
    go Active = (add tt (either _ (begins_vote (rows.ended_branch b)) none))
    go Joining = none
    go Ending = none
    go Voting = none
    go Prepared = none

commit_row : (m : Message) (o : Option Branch) → AreRow (rows.commit_row m o)
commit_row m None = (add tt none)
commit_row m (Some b) = go b.state
  where
    go : (s : State) → AreRow (rows.commit_state b s)
    go Prepared = (add tt (add tt (tells _ _ _)))
    go Joining = none
    go Active = none
    go Ending = none
    go Voting = none

abort_row : (o : Option Branch) → AreRow (rows.abort_row o)
abort_row None = none
abort_row (Some b) = go b.state
  where
    go : (s : State) → AreRow (rows.abort_state b s)
    go Ending = none
    go Joining = undone_quietly _ b
    go Active = undone_quietly _ b
    go Voting = undone_quietly _ b
    go Prepared = undone_quietly _ b

reply_row : (s : Id) (x : Name) (r : Reply) (o : Option Branch) (rs : List LogRecord) → AreRow (rows.reply_row s x r o rs)
reply_row s x r None rs = either _ (add tt none) none
reply_row s x r (Some b) rs = go b.state
  where
    go : (t : State) → AreRow (rows.reply_state x r b t)
    go Ending = either _ (either _ (aborts_telling (rows.with_reply x r b).accepted Vetoed (rows.with_reply x r b)) (add tt (commits_if_all (rows.with_reply x r b) _ (ended b b.state None)))) none
    go Voting = either _ (either _ (refuses Vetoed (rows.with_reply x r b)) (add tt (casts_if_all (rows.with_reply x r b)))) none
    go Joining = none
    go Active = none
    go Prepared = none

note_row : (f : Branch → Branch) (o : Option Branch) → AreRow (rows.note_row f o)
note_row f None = none
note_row f (Some b) = go b.state
  where
    go : (s : State) → AreRow (rows.note_state f b s)
    go Active = (add tt none)
    go Joining = none
    go Ending = none
    go Voting = none
    go Prepared = none

asks_row : (o : Option Branch) → AreRow (rows.asks_row o)
asks_row None = none
asks_row (Some b) = go b.state
  where
    go : (s : State) → AreRow (rows.asks_state b s)
    go Prepared = (add tt none)
    go Joining = none
    go Active = none
    go Ending = none
    go Voting = none

sweep : (reason : Reason) (chosen : Branch → Bool) (bs : List Branch) → AreRow (rows.sweep reason chosen bs)
sweep reason chosen [] = none
sweep reason chosen (b ∷ bs) = both (go (chosen b)) (sweep reason chosen bs)
  where
    go : (t : Bool) → AreRow (rows.aborted_if t reason b)
    go true = abort_by_state reason b b.state
    go false = none

got : (tm : Tm) (m : Message) (kind : Kind) → AreRow (rows.got tm m kind)
got tm m Join = join_row m (find (first m.tid) tm.table)
got tm m JoinOk = join_ok_row (find (key_of m) tm.table)
got tm m JoinNo = join_no_row (find (key_of m) tm.table)
got tm m Prepare = prepare_row m (find (key_of m) tm.table)
got tm m Yes = vote_row m.serial Yes (find (first m.tid) tm.table)
got tm m ReadOnly = vote_row m.serial ReadOnly (find (first m.tid) tm.table)
got tm m No = no_row m.serial (find (first m.tid) tm.table)
got tm m Commit = commit_row m (find (key_of m) tm.table)
got tm m Abort = abort_row (find (key_of m) tm.table)
got tm m Ack = either _ (add tt none) none
got tm m Inquire = inquire_row m (find (first m.tid) tm.table) tm.records

row_acts : (tm : Tm) (e : Event) → AreRow (row tm e)
row_acts tm (Start t due) = (add tt none)
row_acts tm (Authorise t bid) = authorise_row bid (find (first t) tm.table)
row_acts tm (Begin t s bid) = (add tt (add tt none))
row_acts tm (JoinRm s x) = note_row (rows.with_manager x) (find_serial s tm.table)
row_acts tm (Changed s) = note_row rows.has_changed (find_serial s tm.table)
row_acts tm (EndTrans t) = end_trans_row (find (first t) tm.table)
row_acts tm (EndBranch s) = end_branch_row (find_serial s tm.table)
row_acts tm (AbortBranch s reason) = abort_branch_row reason (find_serial s tm.table)
row_acts tm (Replied s x r) = reply_row s x r (find_serial s tm.table) tm.records
row_acts tm (Got m) = got tm m m.kind
row_acts tm (Clock now) = sweep _ (rows.is_due now) tm.table
row_acts tm (LinkDown x) = both (sweep _ (rows.is_cut_off x) tm.table) (sweep _ (rows.is_under x) tm.table)
row_acts tm RunDown = both (sweep _ is_first tm.table) (sweep _ rows.is_other tm.table)
row_acts tm (InquireBranch s) = asks_row (find_serial s tm.table)

pub rows_are_row_acts : (tm : Tm) (e : Event) → AreRowActs (row tm e)
rows_are_row_acts tm e = (row_acts tm e).all
