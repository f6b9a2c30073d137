-- Each row keeps a table within its limits.
use Rattle.std.proofs.lemmas.Bool.{cases_Bool, and_parts, not-true, ltb-true}
use Rattle.std.specs.Prelude.{if◌then◌else◌, not, ◌&&◌, ◌||◌, nat_lt}
use Rattle.std.specs.List.{list_any}
use Rattle.std.proofs.Common.{◌≡◌, ◌≤◌, ◌+◌, Bool, true, false, List, [], ◌∷◌, ◌++◌, Option, Some, None, inl, inr, refl, ap, sym, subst, arith, suc, length}
use Rattle.vms_model.specs.Ids.{Id}
use Rattle.vms_model.specs.Transactions.{Commit as ToCommit, Reason, Aborted, Vetoed, SyncFail, Timeout, CommFail, SegFail}
use Rattle.commit_protocol.specs.Messages.{Name, Kind, Join, JoinOk, JoinNo, Prepare, Yes, ReadOnly, No, Commit, Abort, Ack, Inquire, Message, RmEvent, PrepareEvent, CommitEvent, AbortEvent, Reply, LogRecord, same_name, same_id}
use Rattle.commit_protocol.specs.Table.{Key, Branch, State, Joining, Active, Ending, Voting, Prepared, Child, Manager, Act, Notes, Accepts, Prepares, Settles, Leaves, Acknowledges, Releases, Undoes, Sends, Prints, Tm, after, after_act, restarted, first, key_of, is_first, find, find_serial, waits_for, holds, holding, managers_of, branches_of}
use Rattle.commit_protocol.specs.World.{In, acts}
use Rattle.commit_protocol.specs.Agreement.{DistinctBids}
use Rattle.commit_protocol.specs.Rows.{down, up, sends_all, to_each, tells, joined, interested, asks, is_yes, serials, yes_of, all_voted, all_replied, has_bid, has_serial, others, all_taken, joined_as, ended, told_abort, aborts_telling, aborts, undone_quietly, refuses, owing, commits, commits_if_all, refuses_join, grants_join, join_state, join_row, join_ok_state, join_ok_row, join_no_state, join_no_row, which_event, ending, begins_ending, end_trans_state, end_trans_row, abort_running, abort_by_state, abort_branch_row, authorise_state, authorise_row, lacks_vote, note_vote, with_vote, vote_state, vote_row, refused, no_state, no_row, ack_row, answer_state, answer, inquire_row, is_empty, casts, casts_if_all, voting, begins_vote, asked_branch, votes_if_ended, prepare_state, prepare_row, ended_branch, end_branch_state, end_branch_row, commit_state, commit_row, abort_state, abort_row, note_reply, with_reply, is_veto, is_forget, first_reply, branch_reply, reply_state, reply_row, note_state, note_row, has_changed, with_manager, asks_state, asks_row, aborted_if, sweep, is_due, is_cut_off, is_under, is_other, got, row, Event, Start, Authorise, Begin, JoinRm, Changed, EndTrans, EndBranch, AbortBranch, Replied, Got, Clock, LinkDown, RunDown, InquireBranch}
use Rattle.commit_protocol.proofs.Lists.{in_parts, in_left, told_id, find-key, find-put, find_serial-key}
use Rattle.commit_protocol.specs.Limits.{PartsWithin, BranchWithin, PreparedWithin, TmWithin, LogWithin, ActsLawful}
use Rattle.commit_protocol.specs.Allowed.{allowed, there_is, is_active, has_room, may_authorise, is_working, may_join}
use Rattle.commit_protocol.proofs.Invariant.{LacksBid}
use Rattle.commit_protocol.proofs.Beginning.{distinct_append}
use Rattle.commit_protocol.proofs.JoinRows.{lacks_bid}
use Rattle.commit_protocol.proofs.VoteRows.{note_bid, single_note}
use Rattle.commit_protocol.proofs.Within.{length_holding, acts_lawful, children_fit, IsThere, find_in, HasRoom, ActWithin, ActsWithin, acts_within}

-- acts that need nothing: messages, lines, and settlements without a record
abbrev pub IsEasy : List Act → Type 0
IsEasy [] = Unit {0}
IsEasy (Sends m ∷ acts) = IsEasy acts
IsEasy (Prints l ∷ acts) = IsEasy acts
IsEasy (Settles k o why None ∷ acts) = IsEasy acts
IsEasy (_ ∷ acts) = ⊥

easy_within : (acts : List Act) (tm : Tm) → IsEasy acts → ActsWithin tm acts
easy_within [] tm h = tt
easy_within (Sends m ∷ acts) tm h = (tt, easy_within acts tm h)
easy_within (Prints l ∷ acts) tm h = (tt, easy_within acts tm h)
easy_within (Settles k o why None ∷ acts) tm h = (tt, easy_within acts (after_act (Settles k o why None) tm) h)
easy_within (Settles k o why (Some r) ∷ acts) tm h = absurd h
easy_within (Notes b ∷ acts) tm h = absurd h
easy_within (Accepts b c ∷ acts) tm h = absurd h
easy_within (Prepares b ∷ acts) tm h = absurd h
easy_within (Leaves k ∷ acts) tm h = absurd h
easy_within (Acknowledges k ∷ acts) tm h = absurd h
easy_within (Releases s x ∷ acts) tm h = absurd h
easy_within (Undoes k ∷ acts) tm h = absurd h

pub easy_append : (xs ys : List Act) → IsEasy xs → IsEasy ys → IsEasy (xs ++ ys)
easy_append [] ys f g = g
easy_append (Sends m ∷ xs) ys f g = easy_append xs ys f g
easy_append (Prints l ∷ xs) ys f g = easy_append xs ys f g
easy_append (Settles k o why None ∷ xs) ys f g = easy_append xs ys f g
easy_append (Settles k o why (Some r) ∷ xs) ys f g = absurd f
easy_append (Notes b ∷ xs) ys f g = absurd f
easy_append (Accepts b c ∷ xs) ys f g = absurd f
easy_append (Prepares b ∷ xs) ys f g = absurd f
easy_append (Leaves k ∷ xs) ys f g = absurd f
easy_append (Acknowledges k ∷ xs) ys f g = absurd f
easy_append (Releases s x ∷ xs) ys f g = absurd f
easy_append (Undoes k ∷ xs) ys f g = absurd f

pub easy_sends : (ms : List Message) → IsEasy (sends_all ms)
easy_sends [] = tt
easy_sends (m ∷ ms) = easy_sends ms

pub easy_tells : (e : RmEvent) (k : Key) (xs : List Name) → IsEasy (tells e k xs)
easy_tells e k [] = tt
easy_tells e k (x ∷ xs) = easy_tells e k xs

easy_ended : (b : Branch) (s : State) (r : Option Reason) → IsEasy (ended b s r)
easy_ended b Ending r = tt
easy_ended b _ r = tt

pub easy_aborts : (cs : List Child) (why : Reason) (b : Branch) → IsEasy (aborts_telling cs why b)
easy_aborts cs why b = easy_append (sends_all (told_abort b.key.tid cs)) (tells AbortEvent b.key (interested b.managers) ++ ended b b.state (Some why)) (easy_sends (told_abort b.key.tid cs))
    (easy_append (tells AbortEvent b.key (interested b.managers)) (ended b b.state (Some why)) (easy_tells AbortEvent b.key (interested b.managers)) (easy_ended b b.state (Some why)))

easy_running : (why : Reason) (b : Branch) → IsEasy (abort_running why b)
easy_running why b = go (is_first b)
  where
    go : (t : Bool) → IsEasy (if t then aborts why b else refuses why b)
    go true = easy_aborts b.accepted why b
    go false = easy_tells AbortEvent b.key (interested b.managers)

pub easy_by_state : (why : Reason) (b : Branch) (s : State) → IsEasy (abort_by_state why b s)
easy_by_state why b Prepared = tt
easy_by_state why b Joining = easy_running why b
easy_by_state why b Active = easy_running why b
easy_by_state why b Ending = easy_running why b
easy_by_state why b Voting = easy_running why b

pub easy_swept : (t : Bool) (why : Reason) (b : Branch) → IsEasy (aborted_if t why b)
easy_swept true why b = easy_by_state why b b.state
easy_swept false why b = tt

pub easy_sweep : (why : Reason) (chosen : Branch → Bool) (bs : List Branch) → IsEasy (sweep why chosen bs)
easy_sweep why chosen [] = tt
easy_sweep why chosen (b ∷ bs) = easy_append (aborted_if (chosen b) why b) (sweep why chosen bs) (easy_swept (chosen b) why b) (easy_sweep why chosen bs)

-- messages and lines alone leave the table as it is
abbrev pub IsShown : List Act → Type 0
IsShown [] = Unit {0}
IsShown (Sends m ∷ acts) = IsShown acts
IsShown (Prints l ∷ acts) = IsShown acts
IsShown (_ ∷ acts) = ⊥

pub after_shown : (acts : List Act) (tm : Tm) → IsShown acts → after acts tm ≡ tm
after_shown [] tm h = refl
after_shown (Sends m ∷ acts) tm h = after_shown acts tm h
after_shown (Prints l ∷ acts) tm h = after_shown acts tm h
after_shown (Settles k o why r ∷ acts) tm h = absurd h
after_shown (Notes b ∷ acts) tm h = absurd h
after_shown (Accepts b c ∷ acts) tm h = absurd h
after_shown (Prepares b ∷ acts) tm h = absurd h
after_shown (Leaves k ∷ acts) tm h = absurd h
after_shown (Acknowledges k ∷ acts) tm h = absurd h
after_shown (Releases s x ∷ acts) tm h = absurd h
after_shown (Undoes k ∷ acts) tm h = absurd h

pub shown_sends : (ms : List Message) → IsShown (sends_all ms)
shown_sends [] = tt
shown_sends (m ∷ ms) = shown_sends ms

pub shown_tells : (e : RmEvent) (k : Key) (xs : List Name) → IsShown (tells e k xs)
shown_tells e k [] = tt
shown_tells e k (x ∷ xs) = shown_tells e k xs

pub shown_ended : (b : Branch) (s : State) (r : Option Reason) → IsShown (ended b s r)
shown_ended b Ending r = tt
shown_ended b _ r = tt

pub shown_append : (xs ys : List Act) → IsShown xs → IsShown ys → IsShown (xs ++ ys)
shown_append [] ys f g = g
shown_append (Sends m ∷ xs) ys f g = shown_append xs ys f g
shown_append (Prints l ∷ xs) ys f g = shown_append xs ys f g
shown_append (Settles k o why r ∷ xs) ys f g = absurd f
shown_append (Notes b ∷ xs) ys f g = absurd f
shown_append (Accepts b c ∷ xs) ys f g = absurd f
shown_append (Prepares b ∷ xs) ys f g = absurd f
shown_append (Leaves k ∷ xs) ys f g = absurd f
shown_append (Acknowledges k ∷ xs) ys f g = absurd f
shown_append (Releases i x ∷ xs) ys f g = absurd f
shown_append (Undoes k ∷ xs) ys f g = absurd f

within_append : (xs ys : List Act) (tm : Tm) → ActsWithin tm xs → ActsWithin (after xs tm) ys → ActsWithin tm (xs ++ ys)
within_append [] ys tm f g = g
within_append (a ∷ xs) ys tm f g = (f.0, within_append xs ys (after_act a tm) f.1 g)

-- what is shown first, and then the rest
shown_then : (xs ys : List Act) (tm : Tm) → IsEasy xs → IsShown xs → ActsWithin tm ys → ActsWithin tm (xs ++ ys)
shown_then xs ys tm easy shown g =
    let P : Tm → Type 0 = λ t. ActsWithin t ys in
    within_append xs ys tm (easy_within xs tm easy) (subst P (sym (after_shown xs tm shown)) g)

if_within : (tm : Tm) (t : Bool) (x y : List Act) → (t ≡ true → ActsWithin tm x) → (t ≡ false → ActsWithin tm y) → ActsWithin tm (if t then x else y)
if_within tm true x y f g = f refl
if_within tm false x y f g = g refl

-- a branch of the table
record Here (tm : Tm) (b : Branch) : Type 0 where
  there : IsThere b.key tm.table
  within : BranchWithin b

here : (tm : Tm) (k : Key) (b : Branch) → TmWithin tm → find k tm.table ≡ Some b → Here tm b
here tm k b w e =
    let P : Key → Type 0 = λ x. find x tm.table ≡ Some b in
    record { there = (b, subst P (sym (find-key k tm.table b e)) e); within = w.branches b (find_in k tm.table b e) }

here_serial : (tm : Tm) (s : Id) (b : Branch) → TmWithin tm → find_serial s tm.table ≡ Some b → Here tm b
here_serial tm s b w e = here tm b.key b w (find_serial-key s tm.table b e)

-- after a note of it
noted : (tm : Tm) (c : Branch) → BranchWithin c → Here (after_act (Notes c) tm) c
noted tm c h = record { there = (c, find-put c tm.table); within = h }

-- lengths of what is made of a branch's lists
pub length_asks : (e : RmEvent) (ms : List Manager) → length (asks e ms) ≡ length ms
length_asks e [] = refl
length_asks e (m ∷ ms) = ap suc (length_asks e ms)

pub length_reply : (x : Name) (r : Reply) (ms : List Manager) → length (note_reply x r ms) ≡ length ms
length_reply x r [] = refl
length_reply x r (m ∷ ms) =
    elim (cases_Bool (same_name m.rm x)) [
      | inl e ↦ rw e refl
      | inr e ↦ rw e (ap suc (length_reply x r ms))
    ]

length_vote : (s : Id) (v : Kind) (cs : List Child) → length (note_vote s v cs) ≡ length cs
length_vote s v [] = refl
length_vote s v (c ∷ cs) =
    elim (cases_Bool (lacks_vote s c)) [
      | inl e ↦ rw e refl
      | inr e ↦ rw e (ap suc (length_vote s v cs))
    ]

pub length_yes : (cs : List Child) → length (yes_of cs) ≤ length cs
length_yes [] = omega arith
length_yes (c ∷ cs) =
    elim (cases_Bool (is_yes c.vote)) [
      | inl e ↦ rw e (let q = length_yes cs in omega arith)
      | inr e ↦ rw e (let q = length_yes cs in omega arith)
    ]

length_append : {A : Type 0} (xs : List A) (y : A) → length (xs ++ y ∷ []) ≡ suc (length xs)
length_append [] y = refl
length_append (x ∷ xs) y = ap suc (length_append xs y)

pub managers_within : (b : Branch) (ms : List Manager) → BranchWithin b → length ms ≤ 8 → PartsWithin b.bids b.accepted ms
managers_within b ms w h = record { bids = w.bids; managers = h; accepted = w.accepted; authorised = w.authorised; single = w.single }

-- a commit
owing_within : (tm : Tm) (k : Key) (why : Reason) (ws : List Id) (xs : List Name) → length ws ≤ 15 → length xs ≤ 8 → IsThere k tm.table → ActWithin tm (Settles k ToCommit why (owing k ws xs))
owing_within tm k why [] [] a b there = tt
owing_within tm k why [] (x ∷ xs) a b there = (record { kind = refl; left = refl; waiting = omega arith; rms = b }, there, refl, refl)
owing_within tm k why (w ∷ ws) xs a b there = (record { kind = refl; left = refl; waiting = a; rms = b }, there, refl, refl)

commits_within : (tm : Tm) (b : Branch) (shown : List Act) → Here tm b → IsEasy shown → ActsWithin tm (commits_if_all b shown)
commits_within tm b shown h easy =
    let msgs : List Message = to_each Commit b.key.tid (yes_of b.accepted) in
    let xs : List Name = holding b.managers in
    let w = h.within in
    let a = length_yes b.accepted in let c = w.accepted in let d = w.bids in
    let m = length_holding b.managers in let n = w.managers in
    let r : Option LogRecord = owing b.key (yes_of b.accepted) xs in
    if_within tm (all_voted b.accepted && all_replied b.managers) (commits b shown) []
    (λ t. (
      owing_within tm b.key Aborted (yes_of b.accepted) xs (omega arith) (omega arith) h.there,
      easy_within (sends_all msgs ++ (tells CommitEvent b.key xs ++ shown)) (after_act (Settles b.key ToCommit Aborted r) tm)
          (easy_append (sends_all msgs) (tells CommitEvent b.key xs ++ shown) (easy_sends msgs) (easy_append (tells CommitEvent b.key xs) shown (easy_tells CommitEvent b.key xs) easy)),
    ))
    (λ t. tt)

-- a Join
child_within : (b : Branch) (c : Child) → BranchWithin b → In c.bid b.bids → LacksBid c.bid b.accepted → PartsWithin b.bids (b.accepted ++ c ∷ []) b.managers
child_within b c w i lacks =
    let single : DistinctBids (b.accepted ++ c ∷ []) = distinct_append b.accepted c w.single lacks in
    let authorised : (x : Child) → In x (b.accepted ++ c ∷ []) → In x.bid b.bids = λ x h. elim (in_parts x b.accepted (c ∷ []) h) [
      | inl z ↦ w.authorised x z
      | inr z ↦ elim z [ inl e ↦ (let P : Child → Type 0 = λ y. In y.bid b.bids in subst P (sym e) i) | inr e ↦ absurd e ]
    ] in
    record { bids = w.bids; managers = w.managers; accepted = children_fit (b.accepted ++ c ∷ []) b.bids single authorised; authorised = authorised; single = single }

bid_in : (bid : Id) (bids : List Id) → list_any (λ x. same_id x bid) bids ≡ true → In bid bids
bid_in bid [] h = absurd cc
bid_in bid (x ∷ xs) h =
    elim (told_id x bid) [
      | inl e ↦ inl (sym e.1)
      | inr e ↦ inr (bid_in bid xs (let h' : list_any (λ y. same_id y bid) xs ≡ true = rw (e.0) at h in h'))
    ]

join_within : (tm : Tm) (m : Message) (b : Branch) → Here tm b → (s : State) (o : Option Id) → ActsWithin tm (join_state m b s o)
join_within tm m b h Active (Some bid) =
    let c : Child = record { bid = bid; serial = m.serial; vote = None } in
    let free : Bool = list_any (λ x. same_id x bid) b.bids && not (has_bid bid b.accepted) in
    if_within tm (joined_as bid m.serial b.accepted) (grants_join m) (if list_any (λ x. same_id x bid) b.bids && not (has_bid bid b.accepted) then Accepts b c ∷ grants_join m else refuses_join m)
    (λ t. (tt, tt))
    (λ t. if_within tm (list_any (λ x. same_id x bid) b.bids && not (has_bid bid b.accepted)) (Accepts b c ∷ grants_join m) (refuses_join m)
    (λ u. let p = and_parts (list_any (λ x. same_id x bid) b.bids) (not (has_bid bid b.accepted)) u in
    ((child_within b c h.within (bid_in bid b.bids p.0) (lacks_bid bid b.accepted (not-true (has_bid bid b.accepted) p.1)), h.there), (tt, tt)))
    (λ u. (tt, tt)))
join_within tm m b h Ending (Some bid) = if_within tm (joined_as bid m.serial b.accepted) (grants_join m) (refuses_join m) (λ t. (tt, tt)) (λ t. (tt, tt))
join_within tm m b h Joining o = (tt, tt)
join_within tm m b h Active None = (tt, tt)
join_within tm m b h Ending None = (tt, tt)
join_within tm m b h Voting o = (tt, tt)
join_within tm m b h Prepared o = (tt, tt)

join_row_within : (tm : Tm) (m : Message) → TmWithin tm → (o : Option Branch) → find (first m.tid) tm.table ≡ o → ActsWithin tm (join_row m o)
join_row_within tm m w None e = (tt, tt)
join_row_within tm m w (Some b) e = join_within tm m b (here tm (first m.tid) b w e) b.state m.bid

join_ok_within : (tm : Tm) (k : Key) → TmWithin tm → (o : Option Branch) → find k tm.table ≡ o → ActsWithin tm (join_ok_row o)
join_ok_within tm k w None e = tt
join_ok_within tm k w (Some b) e = go b.state (here tm k b w e)
  where
    go : (s : State) → Here tm b → ActsWithin tm (join_ok_state b s)
    go Joining h = ((h.within, inl h.there), (tt, tt))
    go _ h = tt

join_no_within : (tm : Tm) (o : Option Branch) → ActsWithin tm (join_no_row o)
join_no_within tm None = tt
join_no_within tm (Some b) = go b.state
  where
    undone : ActsWithin tm (undone_quietly SyncFail b)
    undone = easy_within (undone_quietly SyncFail b) tm (easy_tells AbortEvent b.key (interested b.managers))

    go : (s : State) → ActsWithin tm (join_no_state b s)
    go Joining = undone
    go Active = undone
    go Voting = undone
    go Ending = tt
    go Prepared = tt

abort_within : (tm : Tm) (o : Option Branch) → ActsWithin tm (abort_row o)
abort_within tm None = tt
abort_within tm (Some b) = go b.state
  where
    undone : ActsWithin tm (undone_quietly Aborted b)
    undone = easy_within (undone_quietly Aborted b) tm (easy_tells AbortEvent b.key (interested b.managers))

    go : (s : State) → ActsWithin tm (abort_state b s)
    go Ending = tt
    go Joining = undone
    go Active = undone
    go Voting = undone
    go Prepared = undone

-- votes
pub bids_noted : (s : Id) (v : Kind) (b : Branch) → BranchWithin b → BranchWithin (with_vote s v b)
bids_noted s v b w =
    let l = length_vote s v b.accepted in let a = w.accepted in
    record {
      bids = w.bids;
      managers = w.managers;
      accepted = omega arith;
      authorised = λ c i. let o = note_bid s v b.accepted c i in let P : Id → Type 0 = λ x. In x b.bids in subst P o.2 (w.authorised o.0 o.1);
      single = single_note s v b.accepted w.single;
    }

vote_within : (tm : Tm) (s t : Id) (v : Kind) → TmWithin tm → (o : Option Branch) → find (first t) tm.table ≡ o → ActsWithin tm (vote_row s v o)
vote_within tm s t v w None e = tt
vote_within tm s t v w (Some b) e = go b.state (here tm (first t) b w e)
  where
    go : (z : State) → Here tm b → ActsWithin tm (vote_state s v b z)
    go Ending h =
        let c : Branch = with_vote s v b in
        let ok : BranchWithin c = bids_noted s v b h.within in
        if_within tm (list_any (λ x. lacks_vote s x) b.accepted) (Notes c ∷ commits_if_all c (ended b b.state None)) []
        (λ t. ((ok, inl h.there), commits_within (after_act (Notes c) tm) c (ended b b.state None) (noted tm c ok) (easy_ended b b.state None)))
        (λ t. tt)
    go _ h = tt

no_within : (tm : Tm) (s : Id) (o : Option Branch) → ActsWithin tm (no_row s o)
no_within tm s None = tt
no_within tm s (Some b) = go b.state
  where
    out : ActsWithin tm (refused s b)
    out = if_within tm (has_serial s b.accepted) (aborts_telling (others s b.accepted) Vetoed b) [] (λ t. easy_within (aborts_telling (others s b.accepted) Vetoed b) tm (easy_aborts (others s b.accepted) Vetoed b)) (λ t. tt)

    go : (z : State) → ActsWithin tm (no_state s b z)
    go Active = out
    go Ending = out
    go _ = tt

casts_within : (tm : Tm) (b : Branch) → Here tm b → ActsWithin tm (casts_if_all b)
casts_within tm b h = if_within tm (all_replied b.managers) (casts b) []
    (λ t. if_within tm (b.changed || not (is_empty (holding b.managers))) (Prepares b ∷ (Sends (up Yes b.key) ∷ [])) (Leaves b.key ∷ (Sends (up ReadOnly b.key) ∷ []))
    (λ u. ((h.within, h.there), (tt, tt))) (λ u. (tt, (tt, tt))))
    (λ t. tt)

begins_vote_within : (tm : Tm) (b : Branch) → Here tm b → ActsWithin tm (begins_vote b)
begins_vote_within tm b h =
    let c : Branch = voting b in
    let l = length_asks PrepareEvent b.managers in let m = h.within.managers in
    let ok : BranchWithin c = managers_within b (asks PrepareEvent b.managers) h.within (omega arith) in
    let xs : List Name = joined b.managers in
    ((ok, inl h.there), shown_then (tells PrepareEvent b.key xs) (casts_if_all c) (after_act (Notes c) tm) (easy_tells PrepareEvent b.key xs) (shown_tells PrepareEvent b.key xs) (casts_within (after_act (Notes c) tm) c (noted tm c ok)))

prepare_within : (tm : Tm) (m : Message) → TmWithin tm → (o : Option Branch) → find (key_of m) tm.table ≡ o → ActsWithin tm (prepare_row m o)
prepare_within tm m w None e = (tt, tt)
prepare_within tm m w (Some b) e = go b.state (here tm (key_of m) b w e)
  where
    votes : Here tm b → ActsWithin (after_act (Notes (asked_branch b)) tm) (votes_if_ended b)
    votes h = if_within (after_act (Notes (asked_branch b)) tm) b.ended (begins_vote (asked_branch b)) [] (λ t. begins_vote_within (after_act (Notes (asked_branch b)) tm) (asked_branch b) (noted tm (asked_branch b) h.within)) (λ t. tt)

    go : (s : State) → Here tm b → ActsWithin tm (prepare_state b s)
    go Joining h = ((h.within, inl h.there), (tt, votes h))
    go Active h = ((h.within, inl h.there), votes h)
    go Prepared h = (tt, tt)
    go Ending h = tt
    go Voting h = tt

commit_within : (tm : Tm) (m : Message) → TmWithin tm → (o : Option Branch) → find (key_of m) tm.table ≡ o → ActsWithin tm (commit_row m o)
commit_within tm m w None e = (tt, tt)
commit_within tm m w (Some b) e = go b.state (here tm (key_of m) b w e)
  where
    go : (s : State) → Here tm b → ActsWithin tm (commit_state b s)
    go Prepared h =
        let xs : List Name = holding b.managers in
        let l = length_holding b.managers in let n = h.within.managers in
        (owing_within tm b.key Aborted [] xs (omega arith) (omega arith) h.there, easy_within (Sends (up Ack b.key) ∷ tells CommitEvent b.key xs) (after_act (Settles b.key ToCommit Aborted (owing b.key [] xs)) tm) (easy_tells CommitEvent b.key xs))
    go _ h = tt

ack_within : (tm : Tm) (k : Key) (rs : List LogRecord) → ActsWithin tm (ack_row k rs)
ack_within tm k rs = if_within tm (list_any (λ r. waits_for k r) rs) (Acknowledges k ∷ []) [] (λ t. (tt, tt)) (λ t. tt)

inquire_within : (tm : Tm) (m : Message) (o : Option Branch) (rs : List LogRecord) → ActsWithin tm (inquire_row m o rs)
inquire_within tm m o rs = if_within tm (list_any (λ r. same_id r.tid m.tid) rs) (Sends (down Commit (key_of m)) ∷ []) (answer m o) (λ t. (tt, tt)) (λ t. answered o)
  where
    by_state : (b : Branch) (s : State) → ActsWithin tm (answer_state m b s)
    by_state b Prepared = (tt, tt)
    by_state b _ = tt

    answered : (o : Option Branch) → ActsWithin tm (answer m o)
    answered None = (tt, tt)
    answered (Some b) = by_state b b.state

got_within : (tm : Tm) (m : Message) → TmWithin tm → (d : Kind) → ActsWithin tm (got tm m d)
got_within tm m w Join = join_row_within tm m w (find (first m.tid) tm.table) refl
got_within tm m w JoinOk = join_ok_within tm (key_of m) w (find (key_of m) tm.table) refl
got_within tm m w JoinNo = join_no_within tm (find (key_of m) tm.table)
got_within tm m w Prepare = prepare_within tm m w (find (key_of m) tm.table) refl
got_within tm m w Yes = vote_within tm m.serial m.tid Yes w (find (first m.tid) tm.table) refl
got_within tm m w ReadOnly = vote_within tm m.serial m.tid ReadOnly w (find (first m.tid) tm.table) refl
got_within tm m w No = no_within tm m.serial (find (first m.tid) tm.table)
got_within tm m w Commit = commit_within tm m w (find (key_of m) tm.table) refl
got_within tm m w Abort = abort_within tm (find (key_of m) tm.table)
got_within tm m w Ack = ack_within tm (key_of m) tm.records
got_within tm m w Inquire = inquire_within tm m (find (first m.tid) tm.table) tm.records

-- statements
room_of : (tm : Tm) → has_room tm ≡ true → HasRoom tm
room_of tm h = let p = and_parts (nat_lt (length tm.table) 64) (nat_lt (length tm.table + length tm.records) 512) h in (ltb-true (length tm.table) 64 p.0, ltb-true (length tm.table + length tm.records) 512 p.1)

blank_within : PartsWithin [] [] []
blank_within = record { bids = omega arith; managers = omega arith; accepted = omega arith; authorised = λ c i. i; single = tt }

authorise_within : (tm : Tm) (t bid : Id) → TmWithin tm → (o : Option Branch) → find (first t) tm.table ≡ o → there_is o may_authorise ≡ true → ActsWithin tm (authorise_row bid o)
authorise_within tm t bid w None e a = tt
authorise_within tm t bid w (Some b) e a = go b.state (here tm (first t) b w e)
  where
    go : (s : State) → Here tm b → ActsWithin tm (authorise_state bid b s)
    go Active h =
        let p = and_parts (is_active b.state) (nat_lt (length b.bids) 15) a in
        let q = ltb-true (length b.bids) 15 p.1 in
        let l = length_append b.bids bid in let c = h.within.accepted in (
          (
            record {
              bids = omega arith;
              managers = h.within.managers;
              accepted = omega arith;
              authorised = λ x i. in_left x.bid b.bids (bid ∷ []) (h.within.authorised x i);
              single = h.within.single;
            },
            inl h.there,
          ),
          tt,
        )
    go _ h = tt

join_rm_within : (tm : Tm) (s : Id) (x : Name) → TmWithin tm → (o : Option Branch) → find_serial s tm.table ≡ o → there_is o (may_join x) ≡ true → ActsWithin tm (note_row (with_manager x) o)
join_rm_within tm s x w None e a = tt
join_rm_within tm s x w (Some b) e a = go b.state (here_serial tm s b w e)
  where
    go : (z : State) → Here tm b → ActsWithin tm (note_state (with_manager x) b z)
    go Active h =
        let p = and_parts (is_working b && nat_lt (length b.managers) 8) (not (list_any (λ m. same_name m.rm x) b.managers)) a in
        let q = and_parts (is_working b) (nat_lt (length b.managers) 8) p.0 in
        let r = ltb-true (length b.managers) 8 q.1 in
        let m : Manager = record { rm = x; event = None; reply = None } in
        let l = length_append b.managers m in
        ((managers_within b (b.managers ++ m ∷ []) h.within (omega arith), inl h.there), tt)
    go _ h = tt

changed_within : (tm : Tm) (s : Id) → TmWithin tm → (o : Option Branch) → find_serial s tm.table ≡ o → ActsWithin tm (note_row has_changed o)
changed_within tm s w None e = tt
changed_within tm s w (Some b) e = go b.state (here_serial tm s b w e)
  where
    go : (z : State) → Here tm b → ActsWithin tm (note_state has_changed b z)
    go Active h = ((h.within, inl h.there), tt)
    go _ h = tt

end_trans_within : (tm : Tm) (t : Id) → TmWithin tm → (o : Option Branch) → find (first t) tm.table ≡ o → ActsWithin tm (end_trans_row o)
end_trans_within tm t w None e = tt
end_trans_within tm t w (Some b) e = go b.state (here tm (first t) b w e)
  where
    begins : Here tm b → ActsWithin tm (begins_ending b)
    begins h =
        let ev : RmEvent = which_event b.changed b.accepted b.managers in
        let c : Branch = ending b in
        let l = length_asks ev b.managers in let m = h.within.managers in
        let ok : BranchWithin c = managers_within b (asks ev b.managers) h.within (omega arith) in
        let msgs : List Message = to_each Prepare b.key.tid (serials b.accepted) in
        let xs : List Name = joined b.managers in
        let tm2 : Tm = after_act (Notes c) tm in (
          (ok, inl h.there),
          shown_then (sends_all msgs) (tells ev b.key xs ++ commits_if_all c []) tm2 (easy_sends msgs) (shown_sends msgs)
              (shown_then (tells ev b.key xs) (commits_if_all c []) tm2 (easy_tells ev b.key xs) (shown_tells ev b.key xs) (commits_within tm2 c [] (noted tm c ok) tt)),
        )

    go : (s : State) → Here tm b → ActsWithin tm (end_trans_state b s)
    go Active h = if_within tm (all_taken b.bids b.accepted) (begins_ending b) (aborts SyncFail b) (λ u. begins h) (λ u. easy_within (aborts SyncFail b) tm (easy_aborts b.accepted SyncFail b))
    go _ h = tt

end_branch_within : (tm : Tm) (s : Id) → TmWithin tm → (o : Option Branch) → find_serial s tm.table ≡ o → ActsWithin tm (end_branch_row o)
end_branch_within tm s w None e = tt
end_branch_within tm s w (Some b) e = go b.state (here_serial tm s b w e)
  where
    go : (z : State) → Here tm b → ActsWithin tm (end_branch_state b z)
    go Active h =
        let c : Branch = ended_branch b in
        ((h.within, inl h.there), if_within (after_act (Notes c) tm) b.asked (begins_vote c) [] (λ t. begins_vote_within (after_act (Notes c) tm) c (noted tm c h.within)) (λ t. tt))
    go _ h = tt

abort_branch_within : (tm : Tm) (why : Reason) (o : Option Branch) → ActsWithin tm (abort_branch_row why o)
abort_branch_within tm why None = tt
abort_branch_within tm why (Some b) = easy_within (abort_by_state why b b.state) tm (easy_by_state why b b.state)

reply_within : (tm : Tm) (s : Id) (x : Name) (r : Reply) → TmWithin tm → (o : Option Branch) → find_serial s tm.table ≡ o → (rs : List LogRecord) → ActsWithin tm (reply_row s x r o rs)
reply_within tm s x r w None e rs = if_within tm (is_forget r && list_any (λ q. holds s x q) rs) (Releases s x ∷ []) [] (λ t. (tt, tt)) (λ t. tt)
reply_within tm s x r w (Some b) e rs = go b.state (here_serial tm s b w e)
  where
    ok : Here tm b → BranchWithin (with_reply x r b)
    ok h = let l = length_reply x r b.managers in let m = h.within.managers in managers_within b (note_reply x r b.managers) h.within (omega arith)

    at_first : Here tm b → ActsWithin tm (first_reply x r b)
    at_first h = if_within tm (is_veto r) (aborts Vetoed (with_reply x r b)) (Notes (with_reply x r b) ∷ commits_if_all (with_reply x r b) (ended b b.state None))
        (λ t. easy_within (aborts Vetoed (with_reply x r b)) tm (easy_aborts b.accepted Vetoed (with_reply x r b)))
        (λ t. ((ok h, inl h.there), commits_within (after_act (Notes (with_reply x r b)) tm) (with_reply x r b) (ended b b.state None) (noted tm (with_reply x r b) (ok h)) (easy_ended b b.state None)))

    at_other : Here tm b → ActsWithin tm (branch_reply x r b)
    at_other h = if_within tm (is_veto r) (refuses Vetoed (with_reply x r b)) (Notes (with_reply x r b) ∷ casts_if_all (with_reply x r b))
        (λ t. easy_within (refuses Vetoed (with_reply x r b)) tm (easy_tells AbortEvent b.key (interested (note_reply x r b.managers))))
        (λ t. ((ok h, inl h.there), casts_within (after_act (Notes (with_reply x r b)) tm) (with_reply x r b) (noted tm (with_reply x r b) (ok h))))

    go : (z : State) → Here tm b → ActsWithin tm (reply_state x r b z)
    go Ending h = if_within tm (is_first b) (first_reply x r b) [] (λ t. at_first h) (λ t. tt)
    go Voting h = if_within tm b.asked (branch_reply x r b) [] (λ t. at_other h) (λ t. tt)
    go _ h = tt

asks_within : (tm : Tm) (o : Option Branch) → ActsWithin tm (asks_row o)
asks_within tm None = tt
asks_within tm (Some b) = go b.state
  where
    go : (s : State) → ActsWithin tm (asks_state b s)
    go Prepared = (tt, tt)
    go _ = tt

pub row_within : (tm : Tm) (e : Event) → TmWithin tm → allowed tm e ≡ true → ActsWithin tm (row tm e)
row_within tm (Start t due) w a = ((blank_within, inr (room_of tm a)), tt)
row_within tm (Authorise t bid) w a = authorise_within tm t bid w (find (first t) tm.table) refl a
row_within tm (Begin t s bid) w a = ((blank_within, inr (room_of tm a)), (tt, tt))
row_within tm (JoinRm s x) w a = join_rm_within tm s x w (find_serial s tm.table) refl a
row_within tm (Changed s) w a = changed_within tm s w (find_serial s tm.table) refl
row_within tm (EndTrans t) w a = end_trans_within tm t w (find (first t) tm.table) refl
row_within tm (EndBranch s) w a = end_branch_within tm s w (find_serial s tm.table) refl
row_within tm (AbortBranch s why) w a = abort_branch_within tm why (find_serial s tm.table)
row_within tm (Replied s x r) w a = reply_within tm s x r w (find_serial s tm.table) refl tm.records
row_within tm (Got m) w a = got_within tm m w m.kind
row_within tm (Clock now) w a = easy_within (sweep Timeout (is_due now) tm.table) tm (easy_sweep Timeout (is_due now) tm.table)
row_within tm (LinkDown x) w a = easy_within (row tm (LinkDown x)) tm (easy_append (sweep CommFail (is_cut_off x) tm.table) (sweep CommFail (is_under x) tm.table) (easy_sweep CommFail (is_cut_off x) tm.table) (easy_sweep CommFail (is_under x) tm.table))
row_within tm RunDown w a = easy_within (row tm RunDown) tm (easy_append (sweep SegFail is_first tm.table) (sweep SegFail is_other tm.table) (easy_sweep SegFail is_first tm.table) (easy_sweep SegFail is_other tm.table))
row_within tm (InquireBranch s) w a = asks_within tm (find_serial s tm.table)

-- the limits stand through each row, and through each part of one
pub keeps_limits : (tm : Tm) (e : Event) → TmWithin tm → allowed tm e ≡ true → TmWithin (after (row tm e) tm)
keeps_limits tm e w a = acts_within (row tm e) tm w (row_within tm e w a)

-- what a row writes to the log is lawful
pub effects_lawful : (tm : Tm) (e : Event) → TmWithin tm → allowed tm e ≡ true → ActsLawful (row tm e) tm.records
effects_lawful tm e w a = acts_lawful (row tm e) tm w (row_within tm e w a)

-- and after a restart
length_managers : (xs : List Name) → length (managers_of xs) ≡ length xs
length_managers [] = refl
length_managers (x ∷ xs) = ap suc (length_managers xs)

length_branches : (rs : List LogRecord) → length (branches_of rs) ≡ length rs
length_branches [] = refl
length_branches (r ∷ rs) = ap suc (length_branches rs)

restarted_branches : (rs : List LogRecord) → ((r : LogRecord) → In r rs → PreparedWithin r) → (b : Branch) → In b (branches_of rs) → BranchWithin b
restarted_branches [] w b h = absurd h
restarted_branches (r ∷ rs) w b (inl e) =
    let P : Branch → Type 0 = λ x. BranchWithin x in
    let l = length_managers r.rms in let m = (w r (inl refl)).rms in
    subst P (sym e) (record { bids = omega arith; managers = omega arith; accepted = omega arith; authorised = λ c i. i; single = tt })
restarted_branches (r ∷ rs) w b (inr h) = restarted_branches rs (λ x i. w x (inr i)) b h

pub restarted_within : (n : Name) (ps cs : List LogRecord) → LogWithin ps cs → TmWithin (restarted n ps cs)
restarted_within n ps cs h =
    let l = length_branches ps in let p = h.table in let q = h.log in
    record { branches = restarted_branches ps h.prepared; records = h.committed; table = omega arith; log = omega arith }
