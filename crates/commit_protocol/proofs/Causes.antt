-- Each abort of a row comes with an event that its reason names.
use Rattle.std.specs.Prelude.{if◌then◌else◌, not, ◌&&◌, ◌||◌}
use Rattle.std.specs.List.{list_any}
use Rattle.std.proofs.Common.{◌≡◌, Bool, true, false, List, [], ◌∷◌, ◌++◌, Option, Some, None, refl, ap, sym, subst}
use Rattle.vms_model.specs.Ids.{Id}
use Rattle.vms_model.specs.Transactions.{Reason, Aborted, Vetoed, SyncFail, Timeout, CommFail, SegFail}
use Rattle.commit_protocol.specs.Messages.{Name, Kind, Join, JoinOk, JoinNo, Prepare, Yes, ReadOnly, No, Commit, Abort, Ack, Inquire, Message, RmEvent, PrepareEvent, CommitEvent, AbortEvent, Reply, PreparedReply, ForgetReply, VetoReply, RememberReply, NormalReply, LogRecord, same_id}
use Rattle.commit_protocol.specs.Table.{Key, Branch, State, Joining, Active, Ending, Voting, Prepared, Child, Act, Notes, Accepts, Prepares, Leaves, Acknowledges, Releases, Sends, Tm, first, key_of, is_first, find, find_serial, waits_for, holds, holding}
use Rattle.commit_protocol.specs.Rows.{down, up, sends_all, to_each, tells, joined, interested, serials, yes_of, all_voted, all_replied, has_bid, has_serial, others, all_taken, joined_as, ended, told_abort, aborts_telling, aborts, undone_quietly, refuses, commits, commits_if_all, refuses_join, grants_join, join_state, join_row, join_ok_state, join_ok_row, join_no_state, join_no_row, which_event, ending, begins_ending, end_trans_state, end_trans_row, abort_running, abort_by_state, abort_branch_row, authorise_state, authorise_row, lacks_vote, with_vote, vote_state, vote_row, refused, no_state, no_row, ack_row, answer_state, answer, inquire_row, is_empty, casts, casts_if_all, voting, begins_vote, asked_branch, votes_if_ended, prepare_state, prepare_row, ended_branch, end_branch_state, end_branch_row, commit_state, commit_row, abort_state, abort_row, with_reply, is_veto, is_forget, first_reply, branch_reply, reply_state, reply_row, note_state, note_row, has_changed, with_manager, asks_state, asks_row, aborted_if, sweep, is_due, is_cut_off, is_under, is_other, got, row, Event, Start, Authorise, Begin, JoinRm, Changed, EndTrans, EndBranch, AbortBranch, Replied, Got, Clock, LinkDown, RunDown, InquireBranch}
use Rattle.commit_protocol.specs.Reasons.{MessageCauses, Causes, HaveCauses}
use Rattle.commit_protocol.proofs.Lists.{find-key, find_serial-serial}

each_if : (e : Event) (t : Bool) (x y : List Act) → HaveCauses e x → HaveCauses e y → HaveCauses e (if t then x else y)
each_if e true x y f g = f
each_if e false x y f g = g

each_append : (e : Event) (xs ys : List Act) → HaveCauses e xs → HaveCauses e ys → HaveCauses e (xs ++ ys)
each_append e [] ys f g = g
each_append e (a ∷ xs) ys f g = (f.0, each_append e xs ys f.1 g)

each_sends : (e : Event) (ms : List Message) → HaveCauses e (sends_all ms)
each_sends e [] = tt
each_sends e (m ∷ ms) = (tt, each_sends e ms)

each_tells : (e : Event) (v : RmEvent) (k : Key) (xs : List Name) → HaveCauses e (tells v k xs)
each_tells e v k [] = tt
each_tells e v k (x ∷ xs) = (tt, each_tells e v k xs)

each_ended : (e : Event) (b : Branch) (s : State) → HaveCauses e (ended b s None)
each_ended e b Ending = (tt, tt)
each_ended e b _ = tt

each_ended_for : (e : Event) (b : Branch) (s : State) (why : Reason) → Causes e b.key why → HaveCauses e (ended b s (Some why))
each_ended_for e b Ending why c = ((b.key, refl, c), tt)
each_ended_for e b _ why c = tt

each_aborts : (e : Event) (cs : List Child) (why : Reason) (b : Branch) → Causes e b.key why → HaveCauses e (aborts_telling cs why b)
each_aborts e cs why b c = (
  c,
  each_append e (sends_all (told_abort b.key.tid cs)) (tells AbortEvent b.key (interested b.managers) ++ ended b b.state (Some why)) (each_sends e (told_abort b.key.tid cs))
      (each_append e (tells AbortEvent b.key (interested b.managers)) (ended b b.state (Some why)) (each_tells e AbortEvent b.key (interested b.managers)) (each_ended_for e b b.state why c)),
)

each_undone : (e : Event) (why : Reason) (b : Branch) → Causes e b.key why → HaveCauses e (undone_quietly why b)
each_undone e why b c = (c, each_tells e AbortEvent b.key (interested b.managers))

each_refuses : (e : Event) (why : Reason) (b : Branch) → Causes e b.key why → HaveCauses e (refuses why b)
each_refuses e why b c = (c, (tt, each_tells e AbortEvent b.key (interested b.managers)))

each_commits : (e : Event) (b : Branch) (shown : List Act) → HaveCauses e shown → HaveCauses e (commits_if_all b shown)
each_commits e b shown h =
    each_if e (all_voted b.accepted && all_replied b.managers) (commits b shown) [] (
      tt,
      each_append e (sends_all (to_each Commit b.key.tid (yes_of b.accepted))) (tells CommitEvent b.key (holding b.managers) ++ shown) (each_sends e (to_each Commit b.key.tid (yes_of b.accepted)))
          (each_append e (tells CommitEvent b.key (holding b.managers)) shown (each_tells e CommitEvent b.key (holding b.managers)) h),
    ) tt

each_casts : (e : Event) (b : Branch) → HaveCauses e (casts_if_all b)
each_casts e b = each_if e (all_replied b.managers) (casts b) [] (each_if e (b.changed || not (is_empty (holding b.managers))) (Prepares b ∷ (Sends (up Yes b.key) ∷ [])) (Leaves b.key ∷ (Sends (up ReadOnly b.key) ∷ [])) (tt, (tt, tt)) (tt, (tt, tt))) tt

each_votes : (e : Event) (b : Branch) → HaveCauses e (begins_vote b)
each_votes e b = (tt, each_append e (tells PrepareEvent b.key (joined b.managers)) (casts_if_all (voting b)) (each_tells e PrepareEvent b.key (joined b.managers)) (each_casts e (voting b)))

-- rows by the branch that was found, whose key is known
abbrev Keyed : Option Branch → (Branch → Type 0) → Type 0
Keyed None P = Unit {0}
Keyed (Some b) P = P b

keyed : (k : Key) (bs : List Branch) (o : Option Branch) → find k bs ≡ o → Keyed o (λ b. b.key ≡ k)
keyed k bs None e = tt
keyed k bs (Some b) e = find-key k bs b e

keyed_serial : (s : Id) (bs : List Branch) (o : Option Branch) → find_serial s bs ≡ o → Keyed o (λ b. b.key.serial ≡ s)
keyed_serial s bs None e = tt
keyed_serial s bs (Some b) e = find_serial-serial s bs b e

tid_of : (t : Id) (o : Option Branch) → Keyed o (λ b. b.key ≡ first t) → Keyed o (λ b. b.key.tid ≡ t)
tid_of t None h = tt
tid_of t (Some b) h = ap (λ (x : Key). x.tid) h

each_join : (e : Event) (m : Message) (o : Option Branch) → HaveCauses e (join_row m o)
each_join e m None = (tt, tt)
each_join e m (Some b) = go b.state m.bid
  where
    go : (s : State) (bid : Option Id) → HaveCauses e (join_state m b s bid)
    go Active (Some bid) = each_if e (joined_as bid m.serial b.accepted) (grants_join m)
        (if list_any (λ x. same_id x bid) b.bids && not (has_bid bid b.accepted) then Accepts b (record { bid = bid; serial = m.serial; vote = None }) ∷ grants_join m else refuses_join m) (tt, tt)
        (each_if e (list_any (λ x. same_id x bid) b.bids && not (has_bid bid b.accepted)) (Accepts b (record { bid = bid; serial = m.serial; vote = None }) ∷ grants_join m) (refuses_join m) (tt, (tt, tt)) (tt, tt))
    go Ending (Some bid) = each_if e (joined_as bid m.serial b.accepted) (grants_join m) (refuses_join m) (tt, tt) (tt, tt)
    go Active None = (tt, tt)
    go Ending None = (tt, tt)
    go Joining bid = (tt, tt)
    go Voting bid = (tt, tt)
    go Prepared bid = (tt, tt)

each_join_ok : (e : Event) (o : Option Branch) → HaveCauses e (join_ok_row o)
each_join_ok e None = tt
each_join_ok e (Some b) = go b.state
  where
    go : (s : State) → HaveCauses e (join_ok_state b s)
    go Joining = (tt, (tt, tt))
    go _ = tt

each_join_no : (e : Event) (k : Key) (o : Option Branch) → Keyed o (λ b. b.key ≡ k) → ((b : Branch) → b.key ≡ k → Causes e b.key SyncFail) → HaveCauses e (join_no_row o)
each_join_no e k None h c = tt
each_join_no e k (Some b) h c = go b.state
  where
    go : (s : State) → HaveCauses e (join_no_state b s)
    go Joining = each_undone e SyncFail b (c b h)
    go Active = each_undone e SyncFail b (c b h)
    go Voting = each_undone e SyncFail b (c b h)
    go Ending = tt
    go Prepared = tt

each_prepare : (e : Event) (m : Message) (o : Option Branch) → HaveCauses e (prepare_row m o)
each_prepare e m None = (tt, tt)
each_prepare e m (Some b) = go b.state
  where
    votes : HaveCauses e (votes_if_ended b)
    votes = each_if e b.ended (begins_vote (asked_branch b)) [] (each_votes e (asked_branch b)) tt

    go : (s : State) → HaveCauses e (prepare_state b s)
    go Joining = (tt, (tt, votes))
    go Active = (tt, votes)
    go Prepared = (tt, tt)
    go Ending = tt
    go Voting = tt

each_vote : (e : Event) (s : Id) (v : Kind) (o : Option Branch) → HaveCauses e (vote_row s v o)
each_vote e s v None = tt
each_vote e s v (Some b) = go b.state
  where
    go : (z : State) → HaveCauses e (vote_state s v b z)
    go Ending = each_if e (list_any (λ c. lacks_vote s c) b.accepted) (Notes (with_vote s v b) ∷ commits_if_all (with_vote s v b) (ended b b.state None)) []
        (tt, each_commits e (with_vote s v b) (ended b b.state None) (each_ended e b b.state)) tt
    go _ = tt

each_no : (e : Event) (s t : Id) (o : Option Branch) → Keyed o (λ b. b.key.tid ≡ t) → ((b : Branch) → b.key.tid ≡ t → Causes e b.key Vetoed) → HaveCauses e (no_row s o)
each_no e s t None h c = tt
each_no e s t (Some b) h c = go b.state
  where
    aborted : HaveCauses e (refused s b)
    aborted = each_if e (has_serial s b.accepted) (aborts_telling (others s b.accepted) Vetoed b) [] (each_aborts e (others s b.accepted) Vetoed b (c b h)) tt

    go : (z : State) → HaveCauses e (no_state s b z)
    go Active = aborted
    go Ending = aborted
    go _ = tt

each_commit : (e : Event) (m : Message) (o : Option Branch) → HaveCauses e (commit_row m o)
each_commit e m None = (tt, tt)
each_commit e m (Some b) = go b.state
  where
    go : (s : State) → HaveCauses e (commit_state b s)
    go Prepared = (tt, (tt, each_tells e CommitEvent b.key (holding b.managers)))
    go _ = tt

each_abort : (e : Event) (k : Key) (o : Option Branch) → Keyed o (λ b. b.key ≡ k) → ((b : Branch) → b.key ≡ k → Causes e b.key Aborted) → HaveCauses e (abort_row o)
each_abort e k None h c = tt
each_abort e k (Some b) h c = go b.state
  where
    go : (s : State) → HaveCauses e (abort_state b s)
    go Ending = tt
    go Joining = each_undone e Aborted b (c b h)
    go Active = each_undone e Aborted b (c b h)
    go Voting = each_undone e Aborted b (c b h)
    go Prepared = each_undone e Aborted b (c b h)

each_ack : (e : Event) (k : Key) (rs : List LogRecord) → HaveCauses e (ack_row k rs)
each_ack e k rs = each_if e (list_any (λ r. waits_for k r) rs) (Acknowledges k ∷ []) [] (tt, tt) tt

each_inquire : (e : Event) (m : Message) (o : Option Branch) (rs : List LogRecord) → HaveCauses e (inquire_row m o rs)
each_inquire e m o rs = each_if e (list_any (λ r. same_id r.tid m.tid) rs) (Sends (down Commit (key_of m)) ∷ []) (answer m o) (tt, tt) (answers o)
  where
    by_state : (b : Branch) (s : State) → HaveCauses e (answer_state m b s)
    by_state b Prepared = (tt, tt)
    by_state b _ = tt

    answers : (o : Option Branch) → HaveCauses e (answer m o)
    answers None = (tt, tt)
    answers (Some b) = by_state b b.state

-- a message
each_got : (tm : Tm) (m : Message) (d : Kind) → m.kind ≡ d → HaveCauses (Got m) (got tm m d)
each_got tm m Join e = each_join (Got m) m (find (first m.tid) tm.table)
each_got tm m JoinOk e = each_join_ok (Got m) (find (key_of m) tm.table)
each_got tm m JoinNo e = each_join_no (Got m) (key_of m) (find (key_of m) tm.table) (keyed (key_of m) tm.table (find (key_of m) tm.table) refl)
    (λ b h. let P : Kind → Type 0 = λ d. MessageCauses d m b.key SyncFail in subst P (sym e) (h, refl))
each_got tm m Prepare e = each_prepare (Got m) m (find (key_of m) tm.table)
each_got tm m Yes e = each_vote (Got m) m.serial Yes (find (first m.tid) tm.table)
each_got tm m ReadOnly e = each_vote (Got m) m.serial ReadOnly (find (first m.tid) tm.table)
each_got tm m No e = each_no (Got m) m.serial m.tid (find (first m.tid) tm.table) (tid_of m.tid (find (first m.tid) tm.table) (keyed (first m.tid) tm.table (find (first m.tid) tm.table) refl))
    (λ b h. let P : Kind → Type 0 = λ d. MessageCauses d m b.key Vetoed in subst P (sym e) (h, refl))
each_got tm m Commit e = each_commit (Got m) m (find (key_of m) tm.table)
each_got tm m Abort e = each_abort (Got m) (key_of m) (find (key_of m) tm.table) (keyed (key_of m) tm.table (find (key_of m) tm.table) refl)
    (λ b h. let P : Kind → Type 0 = λ d. MessageCauses d m b.key Aborted in subst P (sym e) (h, refl))
each_got tm m Ack e = each_ack (Got m) (key_of m) tm.records
each_got tm m Inquire e = each_inquire (Got m) m (find (first m.tid) tm.table) tm.records

-- statements
each_note : (e : Event) (f : Branch → Branch) (o : Option Branch) → HaveCauses e (note_row f o)
each_note e f None = tt
each_note e f (Some b) = go b.state
  where
    go : (s : State) → HaveCauses e (note_state f b s)
    go Active = (tt, tt)
    go _ = tt

each_authorise : (e : Event) (bid : Id) (o : Option Branch) → HaveCauses e (authorise_row bid o)
each_authorise e bid None = tt
each_authorise e bid (Some b) = go b.state
  where
    go : (s : State) → HaveCauses e (authorise_state bid b s)
    go Active = (tt, tt)
    go _ = tt

each_asks : (e : Event) (o : Option Branch) → HaveCauses e (asks_row o)
each_asks e None = tt
each_asks e (Some b) = go b.state
  where
    go : (s : State) → HaveCauses e (asks_state b s)
    go Prepared = (tt, tt)
    go _ = tt

each_end_trans : (t : Id) (o : Option Branch) → Keyed o (λ b. b.key.tid ≡ t) → HaveCauses (EndTrans t) (end_trans_row o)
each_end_trans t None h = tt
each_end_trans t (Some b) h = go b.state
  where
    begins : HaveCauses (EndTrans t) (begins_ending b)
    begins =
        let msgs : List Message = to_each Prepare b.key.tid (serials b.accepted) in
        let ev : RmEvent = which_event b.changed b.accepted b.managers in (
          tt,
          each_append (EndTrans t) (sends_all msgs) (tells ev b.key (joined b.managers) ++ commits_if_all (ending b) []) (each_sends (EndTrans t) msgs)
              (each_append (EndTrans t) (tells ev b.key (joined b.managers)) (commits_if_all (ending b) []) (each_tells (EndTrans t) ev b.key (joined b.managers)) (each_commits (EndTrans t) (ending b) [] tt)),
        )

    go : (s : State) → HaveCauses (EndTrans t) (end_trans_state b s)
    go Active = each_if (EndTrans t) (all_taken b.bids b.accepted) (begins_ending b) (aborts SyncFail b) begins (each_aborts (EndTrans t) b.accepted SyncFail b (h, refl))
    go _ = tt

each_end_branch : (e : Event) (o : Option Branch) → HaveCauses e (end_branch_row o)
each_end_branch e None = tt
each_end_branch e (Some b) = go b.state
  where
    go : (s : State) → HaveCauses e (end_branch_state b s)
    go Active = (tt, each_if e b.asked (begins_vote (ended_branch b)) [] (each_votes e (ended_branch b)) tt)
    go _ = tt

each_running : (e : Event) (why : Reason) (b : Branch) → Causes e b.key why → HaveCauses e (abort_running why b)
each_running e why b c = each_if e (is_first b) (aborts why b) (refuses why b) (each_aborts e b.accepted why b c) (each_refuses e why b c)

each_by_state : (e : Event) (why : Reason) (b : Branch) → Causes e b.key why → (s : State) → HaveCauses e (abort_by_state why b s)
each_by_state e why b c Prepared = tt
each_by_state e why b c Joining = each_running e why b c
each_by_state e why b c Active = each_running e why b c
each_by_state e why b c Ending = each_running e why b c
each_by_state e why b c Voting = each_running e why b c

each_abort_branch : (s : Id) (why : Reason) (o : Option Branch) → Keyed o (λ b. b.key.serial ≡ s) → HaveCauses (AbortBranch s why) (abort_branch_row why o)
each_abort_branch s why None h = tt
each_abort_branch s why (Some b) h = each_by_state (AbortBranch s why) why b (h, refl) b.state

veto_is : (r : Reply) → is_veto r ≡ true → r ≡ VetoReply
veto_is VetoReply h = refl
veto_is PreparedReply h = absurd cc
veto_is ForgetReply h = absurd cc
veto_is RememberReply h = absurd cc
veto_is NormalReply h = absurd cc

-- what follows from a test
each_when : (e : Event) (t : Bool) (x y : List Act) → (t ≡ true → HaveCauses e x) → HaveCauses e y → HaveCauses e (if t then x else y)
each_when e true x y f g = f refl
each_when e false x y f g = g

each_reply : (s : Id) (x : Name) (r : Reply) (o : Option Branch) (rs : List LogRecord) → Keyed o (λ b. b.key.serial ≡ s) → HaveCauses (Replied s x r) (reply_row s x r o rs)
each_reply s x r None rs h = each_if (Replied s x r) (is_forget r && list_any (λ q. holds s x q) rs) (Releases s x ∷ []) [] (tt, tt) tt
each_reply s x r (Some b) rs h = go b.state
  where
    at_first : HaveCauses (Replied s x r) (first_reply x r b)
    at_first = each_when (Replied s x r) (is_veto r) (aborts Vetoed (with_reply x r b)) (Notes (with_reply x r b) ∷ commits_if_all (with_reply x r b) (ended b b.state None))
        (λ v. each_aborts (Replied s x r) b.accepted Vetoed (with_reply x r b) (h, veto_is r v, refl))
        (tt, each_commits (Replied s x r) (with_reply x r b) (ended b b.state None) (each_ended (Replied s x r) b b.state))

    at_other : HaveCauses (Replied s x r) (branch_reply x r b)
    at_other = each_when (Replied s x r) (is_veto r) (refuses Vetoed (with_reply x r b)) (Notes (with_reply x r b) ∷ casts_if_all (with_reply x r b))
        (λ v. each_refuses (Replied s x r) Vetoed (with_reply x r b) (h, veto_is r v, refl))
        (tt, each_casts (Replied s x r) (with_reply x r b))

    go : (z : State) → HaveCauses (Replied s x r) (reply_state x r b z)
    go Ending = each_if (Replied s x r) (is_first b) (first_reply x r b) [] at_first tt
    go Voting = each_if (Replied s x r) b.asked (branch_reply x r b) [] at_other tt
    go _ = tt

each_swept : (e : Event) (why : Reason) (b : Branch) → Causes e b.key why → (t : Bool) → HaveCauses e (aborted_if t why b)
each_swept e why b c true = each_by_state e why b c b.state
each_swept e why b c false = tt

each_sweep : (e : Event) (why : Reason) (chosen : Branch → Bool) (bs : List Branch) → ((b : Branch) → Causes e b.key why) → HaveCauses e (sweep why chosen bs)
each_sweep e why chosen [] c = tt
each_sweep e why chosen (b ∷ bs) c = each_append e (aborted_if (chosen b) why b) (sweep why chosen bs) (each_swept e why b (c b) (chosen b)) (each_sweep e why chosen bs c)

pub causes : (tm : Tm) (e : Event) → HaveCauses e (row tm e)
causes tm (Start t due) = (tt, tt)
causes tm (Authorise t bid) = each_authorise (Authorise t bid) bid (find (first t) tm.table)
causes tm (Begin t s bid) = (tt, (tt, tt))
causes tm (JoinRm s x) = each_note (JoinRm s x) (with_manager x) (find_serial s tm.table)
causes tm (Changed s) = each_note (Changed s) has_changed (find_serial s tm.table)
causes tm (EndTrans t) = each_end_trans t (find (first t) tm.table) (tid_of t (find (first t) tm.table) (keyed (first t) tm.table (find (first t) tm.table) refl))
causes tm (EndBranch s) = each_end_branch (EndBranch s) (find_serial s tm.table)
causes tm (AbortBranch s why) = each_abort_branch s why (find_serial s tm.table) (keyed_serial s tm.table (find_serial s tm.table) refl)
causes tm (Replied s x r) = each_reply s x r (find_serial s tm.table) tm.records (keyed_serial s tm.table (find_serial s tm.table) refl)
causes tm (Got m) = each_got tm m m.kind refl
causes tm (Clock now) = each_sweep (Clock now) Timeout (is_due now) tm.table (λ b. refl)
causes tm (LinkDown x) = each_append (LinkDown x) (sweep CommFail (is_cut_off x) tm.table) (sweep CommFail (is_under x) tm.table)
    (each_sweep (LinkDown x) CommFail (is_cut_off x) tm.table (λ b. refl)) (each_sweep (LinkDown x) CommFail (is_under x) tm.table (λ b. refl))
causes tm RunDown = each_append RunDown (sweep SegFail is_first tm.table) (sweep SegFail is_other tm.table) (each_sweep RunDown SegFail is_first tm.table (λ b. refl)) (each_sweep RunDown SegFail is_other tm.table (λ b. refl))
causes tm (InquireBranch s) = each_asks (InquireBranch s) (find_serial s tm.table)
