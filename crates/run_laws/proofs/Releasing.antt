-- Which rows take a resource manager out of a committed record: those of its reply FORGET alone.
use Rattle.std.proofs.Common.{◌≡◌, Bool, true, false, not, ◌&&◌, ◌||◌, List, [], ◌∷◌, ◌++◌, Option, Some, None, if◌then◌else◌, refl}
use Rattle.std.specs.List.{list_any}
use Rattle.vms_model.specs.Ids.{Id}
use Rattle.vms_model.specs.Transactions.{Reason, Vetoed, SyncFail, Timeout, CommFail, SegFail, Aborted}
use Rattle.commit_protocol.specs.Messages.{Name, Kind, Join, JoinOk, JoinNo, Prepare, Yes, ReadOnly, No, Commit, Abort, Ack, Inquire, Message, RmEvent, PrepareEvent, CommitEvent, AbortEvent, Reply, LogRecord, same_id}
use Rattle.commit_protocol.specs.Table.{Key, Branch, State, Joining, Active, Ending, Voting, Prepared, Child, Act, Notes, Accepts, Prepares, Leaves, Acknowledges, Releases, Sends, Tm, first, key_of, is_first, find, find_serial, waits_for, holds, holding}
use Rattle.commit_protocol.specs.Rows.{down, up, sends_all, to_each, tells, joined, interested, serials, yes_of, all_voted, all_replied, has_bid, has_serial, others, all_taken, joined_as, ended, told_abort, aborts_telling, aborts, undone_quietly, refuses, commits, commits_if_all, refuses_join, grants_join, join_state, join_row, join_ok_state, join_ok_row, join_no_state, join_no_row, which_event, ending, begins_ending, end_trans_state, end_trans_row, abort_running, abort_by_state, abort_branch_row, authorise_state, authorise_row, lacks_vote, with_vote, vote_state, vote_row, refused, no_state, no_row, answer_state, answer, inquire_row, is_empty, casts, casts_if_all, voting, begins_vote, asked_branch, votes_if_ended, prepare_state, prepare_row, ended_branch, end_branch_state, end_branch_row, commit_state, commit_row, abort_state, abort_row, with_reply, is_veto, is_forget, first_reply, branch_reply, reply_state, reply_row, note_state, has_changed, note_row, with_manager, asks_state, asks_row, aborted_if, sweep, is_due, is_cut_off, is_under, is_other, got, row, Event, Start, Authorise, Begin, JoinRm, Changed, EndTrans, EndBranch, AbortBranch, Replied, Got, Clock, LinkDown, RunDown, InquireBranch}

-- what an act takes out is so; so is all that these acts do
abbrev pub ReleasesIn : (Id → Name → Type 0) → Act → Type 0
ReleasesIn R (Releases s x) = R s x
ReleasesIn R _ = Unit {0}

abbrev pub AllRelease : (Id → Name → Type 0) → List Act → Type 0
AllRelease R [] = Unit {0}
AllRelease R (a ∷ acts) = ReleasesIn R a × AllRelease R acts

module _ (R : Id → Name → Type 0) where
  -- a test with what it tells
  if_releases : (t : Bool) (x y : List Act) → (t ≡ true → AllRelease R x) → (t ≡ false → AllRelease R y) → AllRelease R (if t then x else y)
  if_releases true x y f g = f refl
  if_releases false x y f g = g refl

  append_releases : (xs ys : List Act) → AllRelease R xs → AllRelease R ys → AllRelease R (xs ++ ys)
  append_releases [] ys f g = g
  append_releases (a ∷ xs) ys f g = (f.0, append_releases xs ys f.1 g)

  sends_release : (ms : List Message) → AllRelease R (sends_all ms)
  sends_release [] = tt
  sends_release (m ∷ ms) = (tt, sends_release ms)

  tells_release : (v : RmEvent) (k : Key) (xs : List Name) → AllRelease R (tells v k xs)
  tells_release v k [] = tt
  tells_release v k (x ∷ xs) = (tt, tells_release v k xs)

  ended_releases : (b : Branch) (s : State) (reason : Option Reason) → AllRelease R (ended b s reason)
  ended_releases b Ending reason = (tt, tt)
  ended_releases b _ reason = tt

  aborts_release : (cs : List Child) (why : Reason) (b : Branch) → AllRelease R (aborts_telling cs why b)
  aborts_release cs why b = (
    tt,
    append_releases (sends_all (told_abort b.key.tid cs)) (tells AbortEvent b.key (interested b.managers) ++ ended b b.state (Some why)) (sends_release (told_abort b.key.tid cs))
        (append_releases (tells AbortEvent b.key (interested b.managers)) (ended b b.state (Some why)) (tells_release AbortEvent b.key (interested b.managers)) (ended_releases b b.state (Some why))),
  )

  undone_releases : (why : Reason) (b : Branch) → AllRelease R (undone_quietly why b)
  undone_releases why b = (tt, tells_release AbortEvent b.key (interested b.managers))

  refuses_releases : (why : Reason) (b : Branch) → AllRelease R (refuses why b)
  refuses_releases why b = (tt, (tt, tells_release AbortEvent b.key (interested b.managers)))

  commits_release : (b : Branch) (shown : List Act) → AllRelease R shown → AllRelease R (commits_if_all b shown)
  commits_release b shown h =
      if_releases (all_voted b.accepted && all_replied b.managers) (commits b shown) [] (λ t. (
        tt,
        append_releases (sends_all (to_each Commit b.key.tid (yes_of b.accepted))) (tells CommitEvent b.key (holding b.managers) ++ shown) (sends_release (to_each Commit b.key.tid (yes_of b.accepted)))
            (append_releases (tells CommitEvent b.key (holding b.managers)) shown (tells_release CommitEvent b.key (holding b.managers)) h),
      )) (λ t. tt)

  casts_release : (b : Branch) → AllRelease R (casts_if_all b)
  casts_release b = if_releases (all_replied b.managers) (casts b) [] (λ t. if_releases (b.changed || not (is_empty (holding b.managers))) (Prepares b ∷ (Sends (up Yes b.key) ∷ [])) (Leaves b.key ∷ (Sends (up ReadOnly b.key) ∷ [])) (λ u. (tt, (tt, tt))) (λ u. (tt, (tt, tt)))) (λ t. tt)

  votes_release : (b : Branch) → AllRelease R (begins_vote b)
  votes_release b = (tt, append_releases (tells PrepareEvent b.key (joined b.managers)) (casts_if_all (voting b)) (tells_release PrepareEvent b.key (joined b.managers)) (casts_release (voting b)))

  join_releases : (m : Message) (o : Option Branch) → AllRelease R (join_row m o)
  join_releases m None = (tt, tt)
  join_releases m (Some b) = go b.state m.bid
    where
      go : (s : State) (o : Option Id) → AllRelease R (join_state m b s o)
      go Active (Some bid) = if_releases (joined_as bid m.serial b.accepted) (grants_join m)
          (if list_any (λ x. same_id x bid) b.bids && not (has_bid bid b.accepted) then Accepts b (record { bid = bid; serial = m.serial; vote = None }) ∷ grants_join m else refuses_join m) (λ t. (tt, tt))
          (λ t. if_releases (list_any (λ x. same_id x bid) b.bids && not (has_bid bid b.accepted)) (Accepts b (record { bid = bid; serial = m.serial; vote = None }) ∷ grants_join m) (refuses_join m) (λ u. (tt, (tt, tt))) (λ u. (tt, tt)))
      go Ending (Some bid) = if_releases (joined_as bid m.serial b.accepted) (grants_join m) (refuses_join m) (λ t. (tt, tt)) (λ t. (tt, tt))
      go Active None = (tt, tt)
      go Ending None = (tt, tt)
      go Joining bid = (tt, tt)
      go Voting bid = (tt, tt)
      go Prepared bid = (tt, tt)

  join_ok_releases : (o : Option Branch) → AllRelease R (join_ok_row o)
  join_ok_releases None = tt
  join_ok_releases (Some b) = go b.state
    where
      go : (s : State) → AllRelease R (join_ok_state b s)
      go Joining = (tt, (tt, tt))
      go _ = tt

  join_no_releases : (o : Option Branch) → AllRelease R (join_no_row o)
  join_no_releases None = tt
  join_no_releases (Some b) = go b.state
    where
      go : (s : State) → AllRelease R (join_no_state b s)
      go Joining = undone_releases SyncFail b
      go Active = undone_releases SyncFail b
      go Voting = undone_releases SyncFail b
      go Ending = tt
      go Prepared = tt

  prepare_releases : (m : Message) (o : Option Branch) → AllRelease R (prepare_row m o)
  prepare_releases m None = (tt, tt)
  prepare_releases m (Some b) = go b.state
    where
      asked_votes : AllRelease R (votes_if_ended b)
      asked_votes = if_releases b.ended (begins_vote (asked_branch b)) [] (λ t. votes_release (asked_branch b)) (λ t. tt)

      go : (s : State) → AllRelease R (prepare_state b s)
      go Joining = (tt, (tt, asked_votes))
      go Active = (tt, asked_votes)
      go Prepared = (tt, tt)
      go Ending = tt
      go Voting = tt

  vote_releases : (s : Id) (v : Kind) (o : Option Branch) → AllRelease R (vote_row s v o)
  vote_releases s v None = tt
  vote_releases s v (Some b) = go b.state
    where
      go : (z : State) → AllRelease R (vote_state s v b z)
      go Ending = if_releases (list_any (λ c. lacks_vote s c) b.accepted) (Notes (with_vote s v b) ∷ commits_if_all (with_vote s v b) (ended b b.state None)) []
          (λ t. (tt, commits_release (with_vote s v b) (ended b b.state None) (ended_releases b b.state None))) (λ t. tt)
      go _ = tt

  no_releases : (s : Id) (o : Option Branch) → AllRelease R (no_row s o)
  no_releases s None = tt
  no_releases s (Some b) = go b.state
    where
      aborted : AllRelease R (refused s b)
      aborted = if_releases (has_serial s b.accepted) (aborts_telling (others s b.accepted) Vetoed b) [] (λ t. aborts_release (others s b.accepted) Vetoed b) (λ t. tt)

      go : (z : State) → AllRelease R (no_state s b z)
      go Active = aborted
      go Ending = aborted
      go _ = tt

  commit_releases : (m : Message) (o : Option Branch) → AllRelease R (commit_row m o)
  commit_releases m None = (tt, tt)
  commit_releases m (Some b) = go b.state
    where
      go : (s : State) → AllRelease R (commit_state b s)
      go Prepared = (tt, (tt, tells_release CommitEvent b.key (holding b.managers)))
      go _ = tt

  abort_releases : (o : Option Branch) → AllRelease R (abort_row o)
  abort_releases None = tt
  abort_releases (Some b) = go b.state
    where
      go : (s : State) → AllRelease R (abort_state b s)
      go Ending = tt
      go _ = undone_releases Aborted b

  inquire_releases : (m : Message) (o : Option Branch) (rs : List LogRecord) → AllRelease R (inquire_row m o rs)
  inquire_releases m o rs = if_releases (list_any (λ r. same_id r.tid m.tid) rs) (Sends (down Commit (key_of m)) ∷ []) (answer m o) (λ t. (tt, tt)) (λ t. answers o)
    where
      by_state : (b : Branch) (s : State) → AllRelease R (answer_state m b s)
      by_state b Prepared = (tt, tt)
      by_state b _ = tt

      answers : (o : Option Branch) → AllRelease R (answer m o)
      answers None = (tt, tt)
      answers (Some b) = by_state b b.state

  authorise_releases : (bid : Id) (o : Option Branch) → AllRelease R (authorise_row bid o)
  authorise_releases bid None = tt
  authorise_releases bid (Some b) = go b.state
    where
      go : (s : State) → AllRelease R (authorise_state bid b s)
      go Active = (tt, tt)
      go _ = tt

  end_trans_releases : (o : Option Branch) → AllRelease R (end_trans_row o)
  end_trans_releases None = tt
  end_trans_releases (Some b) = go b.state
    where
      go : (s : State) → AllRelease R (end_trans_state b s)
      go Active = if_releases (all_taken b.bids b.accepted) (begins_ending b) (aborts SyncFail b) (λ t. (
        tt,
        append_releases (sends_all (to_each Prepare b.key.tid (serials b.accepted))) (tells (which_event b.changed b.accepted b.managers) b.key (joined b.managers) ++ commits_if_all (ending b) []) (sends_release (to_each Prepare b.key.tid (serials b.accepted)))
            (append_releases (tells (which_event b.changed b.accepted b.managers) b.key (joined b.managers)) (commits_if_all (ending b) []) (tells_release (which_event b.changed b.accepted b.managers) b.key (joined b.managers)) (commits_release (ending b) [] tt)),
      )) (λ t. aborts_release b.accepted SyncFail b)
      go _ = tt

  end_branch_releases : (o : Option Branch) → AllRelease R (end_branch_row o)
  end_branch_releases None = tt
  end_branch_releases (Some b) = go b.state
    where
      go : (s : State) → AllRelease R (end_branch_state b s)
      go Active = (tt, if_releases b.asked (begins_vote (ended_branch b)) [] (λ t. votes_release (ended_branch b)) (λ t. tt))
      go _ = tt

  reply_releases : (s : Id) (x : Name) (r : Reply) (o : Option Branch) (rs : List LogRecord) → (is_forget r ≡ true → R s x) → AllRelease R (reply_row s x r o rs)
  reply_releases s x r None rs h = if_releases (is_forget r && list_any (λ q. holds s x q) rs) (Releases s x ∷ []) [] (λ t. (h (forgets (is_forget r) t), tt)) (λ t. tt)
    where
      forgets : (t : Bool) → (t && list_any (λ q. holds s x q) rs) ≡ true → t ≡ true
      forgets true e = refl
      forgets false e = let no : ⊥ = cc in absurd no
  reply_releases s x r (Some b) rs h = go b.state
    where
      at_first : AllRelease R (first_reply x r b)
      at_first = if_releases (is_veto r) (aborts Vetoed (with_reply x r b)) (Notes (with_reply x r b) ∷ commits_if_all (with_reply x r b) (ended b b.state None)) (λ t. aborts_release b.accepted Vetoed (with_reply x r b)) (λ t. (tt, commits_release (with_reply x r b) (ended b b.state None) (ended_releases b b.state None)))

      at_other : AllRelease R (branch_reply x r b)
      at_other = if_releases (is_veto r) (refuses Vetoed (with_reply x r b)) (Notes (with_reply x r b) ∷ casts_if_all (with_reply x r b)) (λ t. refuses_releases Vetoed (with_reply x r b)) (λ t. (tt, casts_release (with_reply x r b)))

      go : (z : State) → AllRelease R (reply_state x r b z)
      go Ending = if_releases (is_first b) (first_reply x r b) [] (λ t. at_first) (λ t. tt)
      go Voting = if_releases b.asked (branch_reply x r b) [] (λ t. at_other) (λ t. tt)
      go _ = tt

  note_releases : (f : Branch → Branch) (o : Option Branch) → AllRelease R (note_row f o)
  note_releases f None = tt
  note_releases f (Some b) = go b.state
    where
      go : (s : State) → AllRelease R (note_state f b s)
      go Active = (tt, tt)
      go _ = tt

  asks_release : (o : Option Branch) → AllRelease R (asks_row o)
  asks_release None = tt
  asks_release (Some b) = go b.state
    where
      go : (s : State) → AllRelease R (asks_state b s)
      go Prepared = (tt, tt)
      go _ = tt

  running_releases : (why : Reason) (b : Branch) → AllRelease R (abort_running why b)
  running_releases why b = if_releases (is_first b) (aborts why b) (refuses why b) (λ t. aborts_release b.accepted why b) (λ t. refuses_releases why b)

  by_state_releases : (why : Reason) (b : Branch) (s : State) → AllRelease R (abort_by_state why b s)
  by_state_releases why b Prepared = tt
  by_state_releases why b _ = running_releases why b

  abort_branch_releases : (why : Reason) (o : Option Branch) → AllRelease R (abort_branch_row why o)
  abort_branch_releases why None = tt
  abort_branch_releases why (Some b) = by_state_releases why b b.state

  sweep_releases : (why : Reason) (chosen : Branch → Bool) (bs : List Branch) → AllRelease R (sweep why chosen bs)
  sweep_releases why chosen [] = tt
  sweep_releases why chosen (b ∷ bs) = append_releases (aborted_if (chosen b) why b) (sweep why chosen bs) (go (chosen b)) (sweep_releases why chosen bs)
    where
      go : (t : Bool) → AllRelease R (aborted_if t why b)
      go true = by_state_releases why b b.state
      go false = tt

-- A manager is taken out of the record of a branch by its own reply for that branch.
abbrev pub ReleasedBy : Event → Id → Name → Type 0
ReleasedBy (Replied s x r) t y = (t ≡ s) × (y ≡ x) × (is_forget r ≡ true)
ReleasedBy _ t y = ⊥

pub row_releases : (tm : Tm) (e : Event) → AllRelease (ReleasedBy e) (row tm e)
row_releases tm e = go e
  where
    message : (m : Message) (d : Kind) → AllRelease (ReleasedBy (Got m)) (got tm m d)
    message m Join = join_releases (ReleasedBy (Got m)) m (find (first m.tid) tm.table)
    message m JoinOk = join_ok_releases (ReleasedBy (Got m)) (find (key_of m) tm.table)
    message m JoinNo = join_no_releases (ReleasedBy (Got m)) (find (key_of m) tm.table)
    message m Prepare = prepare_releases (ReleasedBy (Got m)) m (find (key_of m) tm.table)
    message m Yes = vote_releases (ReleasedBy (Got m)) m.serial Yes (find (first m.tid) tm.table)
    message m ReadOnly = vote_releases (ReleasedBy (Got m)) m.serial ReadOnly (find (first m.tid) tm.table)
    message m No = no_releases (ReleasedBy (Got m)) m.serial (find (first m.tid) tm.table)
    message m Commit = commit_releases (ReleasedBy (Got m)) m (find (key_of m) tm.table)
    message m Abort = abort_releases (ReleasedBy (Got m)) (find (key_of m) tm.table)
    message m Ack = if_releases (ReleasedBy (Got m)) (list_any (λ r. waits_for (key_of m) r) tm.records) (Acknowledges (key_of m) ∷ []) [] (λ t. (tt, tt)) (λ t. tt)
    message m Inquire = inquire_releases (ReleasedBy (Got m)) m (find (first m.tid) tm.table) tm.records

    go : (e : Event) → AllRelease (ReleasedBy e) (row tm e)
    go (Start t due) = (tt, tt)
    go (Authorise t bid) = authorise_releases (ReleasedBy (Authorise t bid)) bid (find (first t) tm.table)
    go (Begin t s bid) = (tt, (tt, tt))
    go (JoinRm s x) = note_releases (ReleasedBy (JoinRm s x)) (with_manager x) (find_serial s tm.table)
    go (Changed s) = note_releases (ReleasedBy (Changed s)) has_changed (find_serial s tm.table)
    go (EndTrans t) = end_trans_releases (ReleasedBy (EndTrans t)) (find (first t) tm.table)
    go (EndBranch s) = end_branch_releases (ReleasedBy (EndBranch s)) (find_serial s tm.table)
    go (AbortBranch s why) = abort_branch_releases (ReleasedBy (AbortBranch s why)) why (find_serial s tm.table)
    go (Replied s x r) = reply_releases (ReleasedBy (Replied s x r)) s x r (find_serial s tm.table) tm.records (λ forget. (refl, refl, forget))
    go (Got m) = message m m.kind
    go (Clock now) = sweep_releases (ReleasedBy (Clock now)) Timeout (is_due now) tm.table
    go (LinkDown x) = append_releases (ReleasedBy (LinkDown x)) (sweep CommFail (is_cut_off x) tm.table) (sweep CommFail (is_under x) tm.table) (sweep_releases (ReleasedBy (LinkDown x)) CommFail (is_cut_off x) tm.table) (sweep_releases (ReleasedBy (LinkDown x)) CommFail (is_under x) tm.table)
    go RunDown = append_releases (ReleasedBy RunDown) (sweep SegFail is_first tm.table) (sweep SegFail is_other tm.table) (sweep_releases (ReleasedBy RunDown) SegFail is_first tm.table) (sweep_releases (ReleasedBy RunDown) SegFail is_other tm.table)
    go (InquireBranch s) = asks_release (ReleasedBy (InquireBranch s)) (find_serial s tm.table)
