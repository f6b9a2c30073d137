-- The transactions of the branches that join or start in a row are those of its message; and what is prepared stands there.
use Rattle.std.specs.Prelude.{if◌then◌else◌, not, ◌&&◌, ◌||◌}
use Rattle.std.specs.List.{AllByRecursion, list_any}
use Rattle.std.proofs.Common.{◌≡◌, Bool, true, false, List, [], ◌∷◌, ◌++◌, Option, Some, None, refl, ap, sym, subst, ◌∙◌}
use Rattle.vms_model.specs.Ids.{Id}
use Rattle.vms_model.specs.Transactions.{Reason, SyncFail, Timeout, CommFail, SegFail, Vetoed, Aborted as ByRequest}
use Rattle.run_model.specs.commit_protocol.Messages.{Name, Kind, Join, JoinOk, JoinNo, Prepare, Yes, ReadOnly, No, Commit, Abort, Ack, Inquire, Message, RmEvent, PrepareEvent, CommitEvent, AbortEvent, Reply, LogRecord, same_id}
use Rattle.run_model.specs.commit_protocol.Table.{Key, Branch, State, Joining, Active, Ending, Voting, Prepared, Child, Tm, Act, Line, Started, Ended, Told, Notes, Accepts, Prepares, Settles, Leaves, Acknowledges, Releases, Undoes, Sends, Prints, first, key_of, find, find_serial, put, table_after, holding, is_first, holds, waits_for}
use Rattle.run_model.specs.commit_protocol.Rows as rows
use Rattle.run_model.specs.commit_protocol.Rows.{Event, row, got, sends_all, tells, joined, interested, told_abort, ended, to_each, yes_of, serials, commits, commits_if_all, aborts, aborts_telling, refuses, undone_quietly, abort_running, abort_by_state, aborted_if, casts, casts_if_all, begins_vote, voting, votes_if_ended, asked_branch, ending, begins_ending, which_event, with_vote, with_reply, ended_branch, has_bid, joined_as, refuses_join, grants_join, all_taken, sweep, is_due, is_cut_off, is_under, is_other, is_empty, all_replied, all_voted, lacks_vote, refused, is_veto, is_forget}
use Rattle.run_model.specs.commit_protocol.Standing.{BeginsNothing}
use Rattle.run_model.proofs.commit_protocol.Lists.{find-put, find-key}
use Rattle.row_laws.specs.May.{AllNamed, IsNamed, IsOfMessage}

-- Acts that tell no more than their effects.

abbrev IsPlain : Act → Type 0
IsPlain (Accepts b c) = ⊥
IsPlain (Prepares b) = ⊥
IsPlain (Undoes k) = ⊥
IsPlain (Prints (Started k)) = ⊥
IsPlain _ = Unit {0}

abbrev ArePlain : List Act → Type 0
ArePlain acts = AllByRecursion IsPlain acts

plain_named : (tid : Id) (bs : List Branch) (a : Act) → IsPlain a → IsNamed tid bs a
plain_named tid bs (Notes b) h = tt
plain_named tid bs (Accepts b c) h = absurd h
plain_named tid bs (Prepares b) h = absurd h
plain_named tid bs (Settles k o why r) h = tt
plain_named tid bs (Leaves k) h = tt
plain_named tid bs (Acknowledges k) h = tt
plain_named tid bs (Releases s x) h = tt
plain_named tid bs (Undoes k) h = absurd h
plain_named tid bs (Sends m) h = tt
plain_named tid bs (Prints (Started k)) h = absurd h
plain_named tid bs (Prints (Ended t why)) h = tt
plain_named tid bs (Prints (Told e k x)) h = tt

named_before : (tid : Id) (bs : List Branch) (xs ys : List Act) → ArePlain xs → ((cs : List Branch) → AllNamed tid cs ys) → AllNamed tid bs (xs ++ ys)
named_before tid bs [] ys p q = q bs
named_before tid bs (x ∷ xs) ys p q = (plain_named tid bs x p.0, named_before tid (table_after x bs) xs ys p.1 q)

named : (tid : Id) (bs : List Branch) (xs : List Act) → ArePlain xs → AllNamed tid bs xs
named tid bs [] p = tt
named tid bs (x ∷ xs) p = (plain_named tid bs x p.0, named tid (table_after x bs) xs p.1)

plain_append : (xs ys : List Act) → ArePlain xs → ArePlain ys → ArePlain (xs ++ ys)
plain_append [] ys p q = q
plain_append (x ∷ xs) ys p q = (p.0, plain_append xs ys p.1 q)

plain_if : (t : Bool) (xs ys : List Act) → ArePlain xs → ArePlain ys → ArePlain (if t then xs else ys)
plain_if true xs ys p q = p
plain_if false xs ys p q = q

named_if : (t : Bool) (tid : Id) (bs : List Branch) (xs ys : List Act) → (t ≡ true → AllNamed tid bs xs) → (t ≡ false → AllNamed tid bs ys) → AllNamed tid bs (if t then xs else ys)
named_if true tid bs xs ys p q = p refl
named_if false tid bs xs ys p q = q refl

-- Messages, events and outcomes.

plain_sends : (ms : List Message) → ArePlain (sends_all ms)
plain_sends [] = tt
plain_sends (m ∷ ms) = (tt, plain_sends ms)

plain_tells : (e : RmEvent) (k : Key) (xs : List Name) → ArePlain (tells e k xs)
plain_tells e k [] = tt
plain_tells e k (x ∷ xs) = (tt, plain_tells e k xs)

plain_ended : (b : Branch) (s : State) (r : Option Reason) → ArePlain (ended b s r)
plain_ended b Ending r = (tt, tt)
plain_ended b Joining r = tt
plain_ended b Active r = tt
plain_ended b Voting r = tt
plain_ended b Prepared r = tt

-- Commits and aborts.

plain_commits : (b : Branch) (shown : List Act) → ArePlain shown → ArePlain (commits_if_all b shown)
plain_commits b shown p = plain_if (all_voted b.accepted && all_replied b.managers) (commits b shown) [] (
  tt,
  plain_append (sends_all (to_each Commit b.key.tid (yes_of b.accepted))) (tells CommitEvent b.key (holding b.managers) ++ shown) (plain_sends (to_each Commit b.key.tid (yes_of b.accepted)))
      (plain_append (tells CommitEvent b.key (holding b.managers)) shown (plain_tells CommitEvent b.key (holding b.managers)) p),
) tt

plain_telling : (cs : List Child) (why : Reason) (b : Branch) → ArePlain (aborts_telling cs why b)
plain_telling cs why b = (
  tt,
  plain_append (sends_all (told_abort b.key.tid cs)) (tells AbortEvent b.key (interested b.managers) ++ ended b b.state (Some why)) (plain_sends (told_abort b.key.tid cs))
      (plain_append (tells AbortEvent b.key (interested b.managers)) (ended b b.state (Some why)) (plain_tells AbortEvent b.key (interested b.managers)) (plain_ended b b.state (Some why))),
)

plain_quietly : (why : Reason) (b : Branch) → ArePlain (undone_quietly why b)
plain_quietly why b = (tt, plain_tells AbortEvent b.key (interested b.managers))

plain_refuses : (why : Reason) (b : Branch) → ArePlain (refuses why b)
plain_refuses why b = (tt, (tt, plain_tells AbortEvent b.key (interested b.managers)))

plain_by_state : (why : Reason) (b : Branch) (s : State) → ArePlain (abort_by_state why b s)
plain_by_state why b s = go s
  where
    out : ArePlain (abort_running why b)
    out = plain_if (is_first b) (aborts why b) (refuses why b) (plain_telling b.accepted why b) (plain_refuses why b)

    go : (s : State) → ArePlain (abort_by_state why b s)
    go Prepared = tt
    go Joining = out
    go Active = out
    go Ending = out
    go Voting = out

plain_sweep : (why : Reason) (chosen : Branch → Bool) (bs : List Branch) → ArePlain (sweep why chosen bs)
plain_sweep why chosen [] = tt
plain_sweep why chosen (b ∷ bs) = plain_append (aborted_if (chosen b) why b) (sweep why chosen bs) (go (chosen b)) (plain_sweep why chosen bs)
  where
    go : (t : Bool) → ArePlain (aborted_if t why b)
    go true = plain_by_state why b b.state
    go false = tt

-- Votes.

abbrev IsToldOnly : List Act → Type 0
IsToldOnly [] = Unit {0}
IsToldOnly (Prints (Told e k x) ∷ acts) = IsToldOnly acts
IsToldOnly (_ ∷ acts) = ⊥

named_casts : (tid : Id) (b : Branch) (bs : List Branch) → find b.key bs ≡ Some b → AllNamed tid bs (casts_if_all b)
named_casts tid b bs there = named_if (all_replied b.managers) tid bs (casts b) []
    (λ e. named_if (b.changed || not (is_empty (holding b.managers))) tid bs _ _ (λ f. ((there, f), (tt, tt))) (λ f. (tt, (tt, tt)))) (λ e. tt)

named_vote : (tid : Id) (b : Branch) (bs : List Branch) → AllNamed tid bs (begins_vote b)
named_vote tid b bs = (tt, after (tells PrepareEvent b.key (joined b.managers)) (put (voting b) bs) (plain_told PrepareEvent b.key (joined b.managers)) (find-put (voting b) bs))
  where
    plain_told : (e : RmEvent) (k : Key) (xs : List Name) → IsToldOnly (tells e k xs)
    plain_told e k [] = tt
    plain_told e k (x ∷ xs) = plain_told e k xs

    after : (xs : List Act) (cs : List Branch) → IsToldOnly xs → find (voting b).key cs ≡ Some (voting b) → AllNamed tid cs (xs ++ casts_if_all (voting b))
    after [] cs p there = named_casts tid (voting b) cs there
    after (Prints (Told e k x) ∷ xs) cs p there = (tt, after xs cs p there)
    after (Prints (Started k) ∷ xs) cs p there = absurd p
    after (Prints (Ended t why) ∷ xs) cs p there = absurd p
    after (Notes d ∷ xs) cs p there = absurd p
    after (Accepts d c ∷ xs) cs p there = absurd p
    after (Prepares d ∷ xs) cs p there = absurd p
    after (Settles k o why r ∷ xs) cs p there = absurd p
    after (Leaves k ∷ xs) cs p there = absurd p
    after (Acknowledges k ∷ xs) cs p there = absurd p
    after (Releases s x ∷ xs) cs p there = absurd p
    after (Undoes k ∷ xs) cs p there = absurd p
    after (Sends m ∷ xs) cs p there = absurd p

-- Rows, by the branch that is found.

plain_note : (f : Branch → Branch) (o : Option Branch) → ArePlain (rows.note_row f o)
plain_note f None = tt
plain_note f (Some b) = go b.state
  where
    go : (s : State) → ArePlain (rows.note_state f b s)
    go Active = (tt, tt)
    go Joining = tt
    go Ending = tt
    go Voting = tt
    go Prepared = tt

plain_authorise : (bid : Id) (o : Option Branch) → ArePlain (rows.authorise_row bid o)
plain_authorise bid None = tt
plain_authorise bid (Some b) = go b.state
  where
    go : (s : State) → ArePlain (rows.authorise_state bid b s)
    go Active = (tt, tt)
    go Joining = tt
    go Ending = tt
    go Voting = tt
    go Prepared = tt

named_join : (tid : Id) (bs : List Branch) (m : Message) (o : Option Branch) → find (first m.tid) bs ≡ o → m.tid ≡ tid → AllNamed tid bs (rows.join_row m o)
named_join tid bs m None e t = (tt, tt)
named_join tid bs m (Some b) e t = go b.state m.bid
  where
    of : b.key.tid ≡ tid
    of = ap (λ (k : Key). k.tid) (find-key (first m.tid) bs b e) ∙ t

    go : (s : State) (bid : Option Id) → AllNamed tid bs (rows.join_state m b s bid)
    go Active (Some bid) = named_if (joined_as bid m.serial b.accepted) tid bs _ _ (λ q. (tt, tt)) (λ q. named_if (list_any (λ x. same_id x bid) b.bids && not (has_bid bid b.accepted)) tid bs _ _ (λ p. (of, (tt, tt))) (λ p. (tt, tt)))
    go Active None = (tt, tt)
    go Ending (Some bid) = named_if (joined_as bid m.serial b.accepted) tid bs _ _ (λ q. (tt, tt)) (λ q. (tt, tt))
    go Ending None = (tt, tt)
    go Joining bid = (tt, tt)
    go Voting bid = (tt, tt)
    go Prepared bid = (tt, tt)

named_join_ok : (tid : Id) (bs : List Branch) (m : Message) (o : Option Branch) → find (key_of m) bs ≡ o → m.tid ≡ tid → AllNamed tid bs (rows.join_ok_row o)
named_join_ok tid bs m None e t = tt
named_join_ok tid bs m (Some b) e t = go b.state
  where
    go : (s : State) → AllNamed tid bs (rows.join_ok_state b s)
    go Joining = (tt, (ap (λ (k : Key). k.tid) (find-key (key_of m) bs b e) ∙ t, tt))
    go Active = tt
    go Ending = tt
    go Voting = tt
    go Prepared = tt

plain_join_no : (o : Option Branch) → ArePlain (rows.join_no_row o)
plain_join_no None = tt
plain_join_no (Some b) = go b.state
  where
    go : (s : State) → ArePlain (rows.join_no_state b s)
    go Joining = plain_quietly SyncFail b
    go Active = plain_quietly SyncFail b
    go Voting = plain_quietly SyncFail b
    go Ending = tt
    go Prepared = tt

plain_end_trans : (o : Option Branch) → ArePlain (rows.end_trans_row o)
plain_end_trans None = tt
plain_end_trans (Some b) = go b.state
  where
    go : (s : State) → ArePlain (rows.end_trans_state b s)
    go Active = plain_if (all_taken b.bids b.accepted) (begins_ending b) (aborts SyncFail b) (
      tt,
      plain_append (sends_all (to_each Prepare b.key.tid (serials b.accepted))) (tells (which_event b.changed b.accepted b.managers) b.key (joined b.managers) ++ commits_if_all (ending b) []) (plain_sends (to_each Prepare b.key.tid (serials b.accepted)))
          (plain_append (tells (which_event b.changed b.accepted b.managers) b.key (joined b.managers)) (commits_if_all (ending b) []) (plain_tells (which_event b.changed b.accepted b.managers) b.key (joined b.managers)) (plain_commits (ending b) [] tt)),
    )
        (plain_telling b.accepted SyncFail b)
    go Joining = tt
    go Ending = tt
    go Voting = tt
    go Prepared = tt

plain_vote : (s : Id) (v : Kind) (o : Option Branch) → ArePlain (rows.vote_row s v o)
plain_vote s v None = tt
plain_vote s v (Some b) = go b.state
  where
    go : (z : State) → ArePlain (rows.vote_state s v b z)
    go Ending = plain_if (list_any (λ c. lacks_vote s c) b.accepted) _ [] (tt, plain_commits (with_vote s v b) (ended b b.state None) (plain_ended b b.state None)) tt
    go Joining = tt
    go Active = tt
    go Voting = tt
    go Prepared = tt

plain_no : (s : Id) (o : Option Branch) → ArePlain (rows.no_row s o)
plain_no s None = tt
plain_no s (Some b) = go b.state
  where
    out : ArePlain (refused s b)
    out = plain_if (rows.has_serial s b.accepted) (aborts_telling (rows.others s b.accepted) Vetoed b) [] (plain_telling (rows.others s b.accepted) Vetoed b) tt

    go : (z : State) → ArePlain (rows.no_state s b z)
    go Active = out
    go Ending = out
    go Joining = tt
    go Voting = tt
    go Prepared = tt

named_prepare : (tid : Id) (bs : List Branch) (m : Message) (o : Option Branch) → find (key_of m) bs ≡ o → m.tid ≡ tid → AllNamed tid bs (rows.prepare_row m o)
named_prepare tid bs m None e t = (tt, tt)
named_prepare tid bs m (Some b) e t = go b.state
  where
    votes : AllNamed tid (put (asked_branch b) bs) (votes_if_ended b)
    votes = named_if b.ended tid (put (asked_branch b) bs) (begins_vote (asked_branch b)) [] (λ q. named_vote tid (asked_branch b) (put (asked_branch b) bs)) (λ q. tt)

    go : (s : State) → AllNamed tid bs (rows.prepare_state b s)
    go Joining = (tt, (ap (λ (k : Key). k.tid) (find-key (key_of m) bs b e) ∙ t, votes))
    go Active = (tt, votes)
    go Prepared = (tt, tt)
    go Ending = tt
    go Voting = tt

named_end_branch : (tid : Id) (bs : List Branch) (o : Option Branch) → AllNamed tid bs (rows.end_branch_row o)
named_end_branch tid bs None = tt
named_end_branch tid bs (Some b) = go b.state
  where
    go : (s : State) → AllNamed tid bs (rows.end_branch_state b s)
    go Active = (tt, named_if b.asked tid (put (ended_branch b) bs) (begins_vote (ended_branch b)) [] (λ q. named_vote tid (ended_branch b) (put (ended_branch b) bs)) (λ q. tt))
    go Joining = tt
    go Ending = tt
    go Voting = tt
    go Prepared = tt

plain_commit : (m : Message) (o : Option Branch) → ArePlain (rows.commit_row m o)
plain_commit m None = (tt, tt)
plain_commit m (Some b) = go b.state
  where
    go : (s : State) → ArePlain (rows.commit_state b s)
    go Prepared = (tt, (tt, plain_tells CommitEvent b.key (holding b.managers)))
    go Joining = tt
    go Active = tt
    go Ending = tt
    go Voting = tt

plain_abort : (o : Option Branch) → ArePlain (rows.abort_row o)
plain_abort None = tt
plain_abort (Some b) = go b.state
  where
    go : (s : State) → ArePlain (rows.abort_state b s)
    go Ending = tt
    go Joining = plain_quietly ByRequest b
    go Active = plain_quietly ByRequest b
    go Voting = plain_quietly ByRequest b
    go Prepared = plain_quietly ByRequest b

plain_inquire : (m : Message) (o : Option Branch) (rs : List LogRecord) → ArePlain (rows.inquire_row m o rs)
plain_inquire m o rs = plain_if (list_any (λ r. same_id r.tid m.tid) rs) _ (rows.answer m o) (tt, tt) (go o)
  where
    by : (b : Branch) (s : State) → ArePlain (rows.answer_state m b s)
    by b Prepared = (tt, tt)
    by b Joining = tt
    by b Active = tt
    by b Ending = tt
    by b Voting = tt

    go : (x : Option Branch) → ArePlain (rows.answer m x)
    go None = (tt, tt)
    go (Some b) = by b b.state

named_reply : (tid : Id) (bs : List Branch) (s : Id) (x : Name) (r : Reply) (o : Option Branch) (rs : List LogRecord) → AllNamed tid bs (rows.reply_row s x r o rs)
named_reply tid bs s x r None rs = named_if (is_forget r && list_any (λ q. holds s x q) rs) tid bs _ [] (λ q. (tt, tt)) (λ q. tt)
named_reply tid bs s x r (Some b) rs = go b.state
  where
    first_one : ArePlain (rows.first_reply x r b)
    first_one = plain_if (is_veto r) _ _ (plain_telling b.accepted Vetoed (with_reply x r b)) (tt, plain_commits (with_reply x r b) (ended b b.state None) (plain_ended b b.state None))

    other_one : AllNamed tid bs (rows.branch_reply x r b)
    other_one = named_if (is_veto r) tid bs _ _ (λ q. named tid bs (refuses Vetoed (with_reply x r b)) (plain_refuses Vetoed (with_reply x r b)))
        (λ q. (tt, named_casts tid (with_reply x r b) (put (with_reply x r b) bs) (find-put (with_reply x r b) bs)))

    go : (z : State) → AllNamed tid bs (rows.reply_state x r b z)
    go Ending = named_if (is_first b) tid bs (rows.first_reply x r b) [] (λ q. named tid bs (rows.first_reply x r b) first_one) (λ q. tt)
    go Voting = named_if b.asked tid bs (rows.branch_reply x r b) [] (λ q. other_one) (λ q. tt)
    go Joining = tt
    go Active = tt
    go Prepared = tt

plain_asks : (o : Option Branch) → ArePlain (rows.asks_row o)
plain_asks None = tt
plain_asks (Some b) = go b.state
  where
    go : (s : State) → ArePlain (rows.asks_state b s)
    go Prepared = (tt, tt)
    go Joining = tt
    go Active = tt
    go Ending = tt
    go Voting = tt

plain_abort_branch : (why : Reason) (o : Option Branch) → ArePlain (rows.abort_branch_row why o)
plain_abort_branch why None = tt
plain_abort_branch why (Some b) = plain_by_state why b b.state

named_got : (tid : Id) (tm : Tm) (m : Message) (d : Kind) → m.tid ≡ tid → AllNamed tid tm.table (got tm m d)
named_got tid tm m Join t = named_join tid tm.table m (find (first m.tid) tm.table) refl t
named_got tid tm m JoinOk t = named_join_ok tid tm.table m (find (key_of m) tm.table) refl t
named_got tid tm m JoinNo t = named tid tm.table _ (plain_join_no (find (key_of m) tm.table))
named_got tid tm m Prepare t = named_prepare tid tm.table m (find (key_of m) tm.table) refl t
named_got tid tm m Yes t = named tid tm.table _ (plain_vote m.serial Yes (find (first m.tid) tm.table))
named_got tid tm m ReadOnly t = named tid tm.table _ (plain_vote m.serial ReadOnly (find (first m.tid) tm.table))
named_got tid tm m No t = named tid tm.table _ (plain_no m.serial (find (first m.tid) tm.table))
named_got tid tm m Commit t = named tid tm.table _ (plain_commit m (find (key_of m) tm.table))
named_got tid tm m Abort t = named tid tm.table _ (plain_abort (find (key_of m) tm.table))
named_got tid tm m Ack t = named tid tm.table _ (plain_if (list_any (λ r. waits_for (key_of m) r) tm.records) _ [] (tt, tt) tt)
named_got tid tm m Inquire t = named tid tm.table _ (plain_inquire m (find (first m.tid) tm.table) tm.records)

pub rows_named : (tid : Id) (tm : Tm) (e : Event) → BeginsNothing e → IsOfMessage tid e → AllNamed tid tm.table (row tm e)
rows_named tid tm (rows.Start t due) h i = absurd h
rows_named tid tm (rows.Begin t s bid) h i = absurd h
rows_named tid tm (rows.Changed s) h i = absurd h
rows_named tid tm (rows.Authorise t bid) h i = named tid tm.table _ (plain_authorise bid (find (first t) tm.table))
rows_named tid tm (rows.JoinRm s x) h i = named tid tm.table _ (plain_note (rows.with_manager x) (find_serial s tm.table))
rows_named tid tm (rows.EndTrans t) h i = named tid tm.table _ (plain_end_trans (find (first t) tm.table))
rows_named tid tm (rows.EndBranch s) h i = named_end_branch tid tm.table (find_serial s tm.table)
rows_named tid tm (rows.AbortBranch s why) h i = named tid tm.table _ (plain_abort_branch why (find_serial s tm.table))
rows_named tid tm (rows.Replied s x r) h i = named_reply tid tm.table s x r (find_serial s tm.table) tm.records
rows_named tid tm (rows.Got m) h i = named_got tid tm m m.kind i
rows_named tid tm (rows.Clock now) h i = named tid tm.table _ (plain_sweep Timeout (is_due now) tm.table)
rows_named tid tm (rows.LinkDown x) h i = named tid tm.table _ (plain_append (sweep CommFail (is_cut_off x) tm.table) (sweep CommFail (is_under x) tm.table) (plain_sweep CommFail (is_cut_off x) tm.table) (plain_sweep CommFail (is_under x) tm.table))
rows_named tid tm rows.RunDown h i = named tid tm.table _ (plain_append (sweep SegFail is_first tm.table) (sweep SegFail is_other tm.table) (plain_sweep SegFail is_first tm.table) (plain_sweep SegFail is_other tm.table))
rows_named tid tm (rows.InquireBranch s) h i = named tid tm.table _ (plain_asks (find_serial s tm.table))
