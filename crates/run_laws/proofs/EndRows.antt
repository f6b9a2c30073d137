-- A row prints how a transaction ended only behind the settlement of its first branch, which was ending.
use Rattle.std.proofs.Common.{◌≡◌, Bool, true, false, not, ◌&&◌, ◌||◌, List, [], ◌∷◌, ◌++◌, Option, Some, None, if◌then◌else◌, refl, sym, ◌∙◌, ap, inl, inr}
use Rattle.std.specs.List.{list_any}
use Rattle.vms_model.specs.Ids.{Id}
use Rattle.vms_model.specs.Transactions.{Outcome, Reason, Aborted, Vetoed, SyncFail, Timeout, CommFail, SegFail}
use Rattle.vms_model.specs.Transactions as settles
use Rattle.commit_protocol.specs.Messages.{Name, Kind, Join, JoinOk, JoinNo, Prepare, Yes, ReadOnly, No, Commit, Abort, Ack, Inquire, Message, RmEvent, PrepareEvent, CommitEvent, AbortEvent, Reply, LogRecord, same_id}
use Rattle.commit_protocol.specs.Table.{Key, Branch, State, Joining, Active, Ending, Voting, Prepared, Child, Act, Notes, Accepts, Prepares, Settles, Leaves, Acknowledges, Releases, Sends, Prints, Ended, Tm, first, key_of, is_first, find, find_serial, waits_for, holds, holding}
use Rattle.commit_protocol.specs.Rows.{down, up, sends_all, to_each, tells, joined, interested, serials, yes_of, all_voted, all_replied, has_bid, has_serial, others, all_taken, joined_as, ended, told_abort, aborts_telling, aborts, undone_quietly, refuses, commits, commits_if_all, refuses_join, grants_join, join_state, join_row, join_ok_state, join_ok_row, join_no_state, join_no_row, which_event, ending, begins_ending, end_trans_state, end_trans_row, abort_running, abort_by_state, abort_branch_row, authorise_state, authorise_row, lacks_vote, with_vote, vote_state, vote_row, refused, no_state, no_row, answer_state, answer, inquire_row, is_empty, casts, casts_if_all, voting, begins_vote, asked_branch, votes_if_ended, prepare_state, prepare_row, ended_branch, end_branch_state, end_branch_row, commit_state, commit_row, abort_state, abort_row, with_reply, is_veto, is_forget, first_reply, branch_reply, reply_state, reply_row, note_state, note_row, has_changed, with_manager, asks_state, asks_row, aborted_if, sweep, is_due, is_cut_off, is_under, is_other, got, row, Event, Start, Authorise, Begin, JoinRm, Changed, EndTrans, EndBranch, AbortBranch, Replied, Got, Clock, LinkDown, RunDown, InquireBranch}
use Rattle.commit_protocol.specs.World.{In}
use Rattle.commit_protocol.proofs.Lists.{find-key, same_key-true}
use Rattle.run_laws.proofs.Noting.{find_in, serial_in}

-- an act that settles the first branch of a transaction so
abbrev pub SettlesSo : Act → Id → Option Reason → Type 0
SettlesSo (Settles k settles.Commit why r) t None = k ≡ first t
SettlesSo (Settles k settles.Abort why r) t (Some reason) = (k ≡ first t) × (why ≡ reason)
SettlesSo _ t reason = ⊥

-- one of these acts does
abbrev pub Seen : List Act → Id → Option Reason → Type 0
Seen seen t reason = (a : Act) × In a seen × SettlesSo a t reason

-- each of these acts that prints how a transaction ended comes behind one that settles it so, among these and those seen before
module _ (P : Id → Type 0) where
  abbrev pub ActEnds : List Act → Act → Type 0
  ActEnds seen (Prints (Ended t reason)) = P t × Seen seen t reason
  ActEnds seen _ = Unit {0}

  abbrev pub AllEnd : List Act → List Act → Type 0
  AllEnd seen [] = Unit {0}
  AllEnd seen (a ∷ acts) = ActEnds seen a × AllEnd (a ∷ seen) acts

  more_end : (seen wider acts : List Act) → ((a : Act) → In a seen → In a wider) → AllEnd seen acts → AllEnd wider acts
  more_end seen wider [] f h = tt
  more_end seen wider (a ∷ acts) f h = (one a h.0, more_end (a ∷ seen) (a ∷ wider) acts (λ x i. elim i [ inl e ↦ inl e | inr j ↦ inr (f x j) ]) h.1)
    where
      one : (a : Act) → ActEnds seen a → ActEnds wider a
      one (Prints (Ended t reason)) (p, (x, i, s)) = (p, (x, f x i, s))
      one _ g = tt

  append_end : (seen xs ys : List Act) → AllEnd seen xs → AllEnd seen ys → AllEnd seen (xs ++ ys)
  append_end seen [] ys f g = g
  append_end seen (a ∷ xs) ys f g = (f.0, append_end (a ∷ seen) xs ys f.1 (more_end seen (a ∷ seen) ys (λ x i. inr i) g))

  if_end : (seen : List Act) (t : Bool) (x y : List Act) → AllEnd seen x → AllEnd seen y → AllEnd seen (if t then x else y)
  if_end seen true x y f g = f
  if_end seen false x y f g = g

  sends_end : (seen : List Act) (ms : List Message) → AllEnd seen (sends_all ms)
  sends_end seen [] = tt
  sends_end seen (m ∷ ms) = (tt, sends_end (Sends m ∷ seen) ms)

  tells_end : (seen : List Act) (v : RmEvent) (k : Key) (xs : List Name) → AllEnd seen (tells v k xs)
  tells_end seen v k [] = tt
  tells_end seen v k (x ∷ xs) = (tt, tells_end _ v k xs)

  ended_end : (seen : List Act) (b : Branch) (s : State) (reason : Option Reason) → (s ≡ Ending → P b.key.tid × Seen seen b.key.tid reason) → AllEnd seen (ended b s reason)
  ended_end seen b Ending reason h = (h refl, tt)
  ended_end seen b Joining reason h = tt
  ended_end seen b Active reason h = tt
  ended_end seen b Voting reason h = tt
  ended_end seen b Prepared reason h = tt

  -- where a branch is ending, it is the first of its transaction
  abbrev Ends : Branch → Type 0
  Ends b = b.state ≡ Ending → P b.key.tid × (b.key ≡ first b.key.tid)

  aborts_end : (seen : List Act) (cs : List Child) (why : Reason) (b : Branch) → Ends b → AllEnd seen (aborts_telling cs why b)
  aborts_end seen cs why b h = (
    tt,
    append_end now (sends_all (told_abort b.key.tid cs)) (tells AbortEvent b.key (interested b.managers) ++ ended b b.state (Some why)) (sends_end now (told_abort b.key.tid cs))
        (append_end now (tells AbortEvent b.key (interested b.managers)) (ended b b.state (Some why)) (tells_end now AbortEvent b.key (interested b.managers))
        (ended_end now b b.state (Some why) (λ e. ((h e).0, (Settles b.key settles.Abort why None, inl refl, ((h e).1, refl)))))),
  )
    where
      now : List Act
      now = Settles b.key settles.Abort why None ∷ seen

  undone_end : (seen : List Act) (why : Reason) (b : Branch) → AllEnd seen (undone_quietly why b)
  undone_end seen why b = (tt, tells_end _ AbortEvent b.key (interested b.managers))

  refuses_end : (seen : List Act) (why : Reason) (b : Branch) → AllEnd seen (refuses why b)
  refuses_end seen why b = (tt, (tt, tells_end _ AbortEvent b.key (interested b.managers)))

  commits_end : (seen : List Act) (b : Branch) (shown : List Act) → ((wider : List Act) → (b.key ≡ first b.key.tid → Seen wider b.key.tid None) → AllEnd wider shown) → AllEnd seen (commits_if_all b shown)
  commits_end seen b shown h = if_end seen (all_voted b.accepted && all_replied b.managers) (commits b shown) [] (
    tt,
    append_end _ (sends_all (to_each Commit b.key.tid (yes_of b.accepted))) (tells CommitEvent b.key (holding b.managers) ++ shown) (sends_end _ (to_each Commit b.key.tid (yes_of b.accepted)))
        (append_end _ (tells CommitEvent b.key (holding b.managers)) shown (tells_end _ CommitEvent b.key (holding b.managers)) (h _ (λ k. (_, inl refl, k)))),
  ) tt

  casts_end : (seen : List Act) (b : Branch) → AllEnd seen (casts_if_all b)
  casts_end seen b = if_end seen (all_replied b.managers) (casts b) [] (if_end seen (b.changed || not (is_empty (holding b.managers))) (Prepares b ∷ (Sends (up Yes b.key) ∷ [])) (Leaves b.key ∷ (Sends (up ReadOnly b.key) ∷ [])) (tt, (tt, tt)) (tt, (tt, tt))) tt

  votes_end : (seen : List Act) (b : Branch) → AllEnd seen (begins_vote b)
  votes_end seen b = (tt, append_end _ (tells PrepareEvent b.key (joined b.managers)) (casts_if_all (voting b)) (tells_end _ PrepareEvent b.key (joined b.managers)) (casts_end _ (voting b)))

  join_end : (m : Message) (o : Option Branch) → AllEnd [] (join_row m o)
  join_end m None = (tt, tt)
  join_end m (Some b) = go b.state m.bid
    where
      go : (s : State) (bid : Option Id) → AllEnd [] (join_state m b s bid)
      go Active (Some bid) = if_end [] (joined_as bid m.serial b.accepted) (grants_join m)
          (if list_any (λ x. same_id x bid) b.bids && not (has_bid bid b.accepted) then Accepts b (record { bid = bid; serial = m.serial; vote = None }) ∷ grants_join m else refuses_join m) (tt, tt)
          (if_end [] (list_any (λ x. same_id x bid) b.bids && not (has_bid bid b.accepted)) (Accepts b (record { bid = bid; serial = m.serial; vote = None }) ∷ grants_join m) (refuses_join m) (tt, (tt, tt)) (tt, tt))
      go Ending (Some bid) = if_end [] (joined_as bid m.serial b.accepted) (grants_join m) (refuses_join m) (tt, tt) (tt, tt)
      go Active None = (tt, tt)
      go Ending None = (tt, tt)
      go Joining bid = (tt, tt)
      go Voting bid = (tt, tt)
      go Prepared bid = (tt, tt)

  join_ok_end : (o : Option Branch) → AllEnd [] (join_ok_row o)
  join_ok_end None = tt
  join_ok_end (Some b) = go b.state
    where
      go : (s : State) → AllEnd [] (join_ok_state b s)
      go Joining = (tt, (tt, tt))
      go _ = tt

  join_no_end : (o : Option Branch) → AllEnd [] (join_no_row o)
  join_no_end None = tt
  join_no_end (Some b) = go b.state
    where
      go : (s : State) → AllEnd [] (join_no_state b s)
      go Joining = undone_end [] SyncFail b
      go Active = undone_end [] SyncFail b
      go Voting = undone_end [] SyncFail b
      go Ending = tt
      go Prepared = tt

  prepare_end : (m : Message) (o : Option Branch) → AllEnd [] (prepare_row m o)
  prepare_end m None = (tt, tt)
  prepare_end m (Some b) = go b.state
    where
      asked_votes : (seen : List Act) → AllEnd seen (votes_if_ended b)
      asked_votes seen = if_end seen b.ended (begins_vote (asked_branch b)) [] (votes_end seen (asked_branch b)) tt

      go : (s : State) → AllEnd [] (prepare_state b s)
      go Joining = (tt, (tt, asked_votes _))
      go Active = (tt, asked_votes _)
      go Prepared = (tt, tt)
      go Ending = tt
      go Voting = tt

  -- what is found of a row's branch
  abbrev FoundEnds : Option Branch → Type 0
  FoundEnds o = (b : Branch) → o ≡ Some b → Ends b

  vote_end : (s : Id) (v : Kind) (o : Option Branch) → FoundEnds o → AllEnd [] (vote_row s v o)
  vote_end s v None h = tt
  vote_end s v (Some b) h = go b.state refl
    where
      go : (z : State) → b.state ≡ z → AllEnd [] (vote_state s v b z)
      go Ending e = if_end [] (list_any (λ c. lacks_vote s c) b.accepted) (Notes (with_vote s v b) ∷ commits_if_all (with_vote s v b) (ended b b.state None)) []
          (tt, commits_end _ (with_vote s v b) (ended b b.state None) (λ wider seen. ended_end wider b b.state None (λ q. ((h b refl q).0, seen (h b refl q).1)))) tt
      go Joining e = tt
      go Active e = tt
      go Voting e = tt
      go Prepared e = tt

  no_end : (s : Id) (o : Option Branch) → FoundEnds o → AllEnd [] (no_row s o)
  no_end s None h = tt
  no_end s (Some b) h = go b.state
    where
      aborted : AllEnd [] (refused s b)
      aborted = if_end [] (has_serial s b.accepted) (aborts_telling (others s b.accepted) Vetoed b) [] (aborts_end [] (others s b.accepted) Vetoed b (h b refl)) tt

      go : (z : State) → AllEnd [] (no_state s b z)
      go Active = aborted
      go Ending = aborted
      go _ = tt

  commit_end : (m : Message) (o : Option Branch) → AllEnd [] (commit_row m o)
  commit_end m None = (tt, tt)
  commit_end m (Some b) = go b.state
    where
      go : (s : State) → AllEnd [] (commit_state b s)
      go Prepared = (tt, (tt, tells_end _ CommitEvent b.key (holding b.managers)))
      go _ = tt

  abort_end : (o : Option Branch) → AllEnd [] (abort_row o)
  abort_end None = tt
  abort_end (Some b) = go b.state
    where
      go : (s : State) → AllEnd [] (abort_state b s)
      go Ending = tt
      go _ = undone_end [] Aborted b

  inquire_end : (m : Message) (o : Option Branch) (rs : List LogRecord) → AllEnd [] (inquire_row m o rs)
  inquire_end m o rs = if_end [] (list_any (λ r. same_id r.tid m.tid) rs) (Sends (down Commit (key_of m)) ∷ []) (answer m o) (tt, tt) (answers o)
    where
      by_state : (b : Branch) (s : State) → AllEnd [] (answer_state m b s)
      by_state b Prepared = (tt, tt)
      by_state b _ = tt

      answers : (o : Option Branch) → AllEnd [] (answer m o)
      answers None = (tt, tt)
      answers (Some b) = by_state b b.state

  authorise_end : (bid : Id) (o : Option Branch) → AllEnd [] (authorise_row bid o)
  authorise_end bid None = tt
  authorise_end bid (Some b) = go b.state
    where
      go : (s : State) → AllEnd [] (authorise_state bid b s)
      go Active = (tt, tt)
      go _ = tt

  end_trans_end : (o : Option Branch) → FoundEnds o → AllEnd [] (end_trans_row o)
  end_trans_end None h = tt
  end_trans_end (Some b) h = go b.state
    where
      go : (s : State) → AllEnd [] (end_trans_state b s)
      go Active = if_end [] (all_taken b.bids b.accepted) (begins_ending b) (aborts SyncFail b) (
        tt,
        append_end _ (sends_all (to_each Prepare b.key.tid (serials b.accepted))) (tells (which_event b.changed b.accepted b.managers) b.key (joined b.managers) ++ commits_if_all (ending b) []) (sends_end _ (to_each Prepare b.key.tid (serials b.accepted)))
            (append_end _ (tells (which_event b.changed b.accepted b.managers) b.key (joined b.managers)) (commits_if_all (ending b) []) (tells_end _ (which_event b.changed b.accepted b.managers) b.key (joined b.managers)) (commits_end _ (ending b) [] (λ wider seen. tt))),
      ) (aborts_end [] b.accepted SyncFail b (h b refl))
      go _ = tt

  end_branch_end : (o : Option Branch) → AllEnd [] (end_branch_row o)
  end_branch_end None = tt
  end_branch_end (Some b) = go b.state
    where
      go : (s : State) → AllEnd [] (end_branch_state b s)
      go Active = (tt, if_end _ b.asked (begins_vote (ended_branch b)) [] (votes_end _ (ended_branch b)) tt)
      go _ = tt

  note_end : (f : Branch → Branch) (o : Option Branch) → AllEnd [] (note_row f o)
  note_end f None = tt
  note_end f (Some b) = go b.state
    where
      go : (s : State) → AllEnd [] (note_state f b s)
      go Active = (tt, tt)
      go _ = tt

  asks_end : (o : Option Branch) → AllEnd [] (asks_row o)
  asks_end None = tt
  asks_end (Some b) = go b.state
    where
      go : (s : State) → AllEnd [] (asks_state b s)
      go Prepared = (tt, tt)
      go _ = tt

  -- an open branch is ended as the first of its transaction alone
  abbrev EndsFirst : Branch → Type 0
  EndsFirst b = b.state ≡ Ending → b.key ≡ first b.key.tid → P b.key.tid

  by_state_end : (seen : List Act) (why : Reason) (b : Branch) → EndsFirst b → AllEnd seen (abort_by_state why b b.state)
  by_state_end seen why b h = go b.state
    where
      running : AllEnd seen (abort_running why b)
      running = by (is_first b) refl
        where
          by : (t : Bool) → is_first b ≡ t → AllEnd seen (if t then aborts why b else refuses why b)
          by true e = aborts_end seen b.accepted why b (λ q. let k = same_key-true b.key (first b.key.tid) e in (h q k, k))
          by false e = refuses_end seen why b

      go : (s : State) → AllEnd seen (abort_by_state why b s)
      go Prepared = tt
      go Joining = running
      go Active = running
      go Ending = running
      go Voting = running

  abort_branch_end : (why : Reason) (o : Option Branch) → ((b : Branch) → o ≡ Some b → EndsFirst b) → AllEnd [] (abort_branch_row why o)
  abort_branch_end why None h = tt
  abort_branch_end why (Some b) h = by_state_end [] why b (h b refl)

  reply_end : (s : Id) (x : Name) (r : Reply) (o : Option Branch) (rs : List LogRecord) → ((b : Branch) → o ≡ Some b → EndsFirst b) → AllEnd [] (reply_row s x r o rs)
  reply_end s x r None rs h = if_end [] (is_forget r && list_any (λ q. holds s x q) rs) (Releases s x ∷ []) [] (tt, tt) tt
  reply_end s x r (Some b) rs h = go b.state
    where
      at_first : (t : Bool) → is_first b ≡ t → AllEnd [] (if t then first_reply x r b else [])
      at_first true e =
          let k = same_key-true b.key (first b.key.tid) e in
          if_end [] (is_veto r) (aborts Vetoed (with_reply x r b)) (Notes (with_reply x r b) ∷ commits_if_all (with_reply x r b) (ended b b.state None))
          (aborts_end [] b.accepted Vetoed (with_reply x r b) (λ q. (h b refl q k, k)))
          (tt, commits_end _ (with_reply x r b) (ended b b.state None) (λ wider seen. ended_end wider b b.state None (λ q. (h b refl q k, seen k))))
      at_first false e = tt

      at_other : AllEnd [] (branch_reply x r b)
      at_other = if_end [] (is_veto r) (refuses Vetoed (with_reply x r b)) (Notes (with_reply x r b) ∷ casts_if_all (with_reply x r b)) (refuses_end [] Vetoed (with_reply x r b)) (tt, casts_end _ (with_reply x r b))

      go : (z : State) → AllEnd [] (reply_state x r b z)
      go Ending = at_first (is_first b) refl
      go Voting = if_end [] b.asked (branch_reply x r b) [] at_other tt
      go Joining = tt
      go Active = tt
      go Prepared = tt

  sweep_end : (seen : List Act) (why : Reason) (chosen : Branch → Bool) (bs : List Branch) → ((b : Branch) → In b bs → EndsFirst b) → AllEnd seen (sweep why chosen bs)
  sweep_end seen why chosen [] h = tt
  sweep_end seen why chosen (b ∷ bs) h = append_end seen (aborted_if (chosen b) why b) (sweep why chosen bs) (go (chosen b)) (sweep_end seen why chosen bs (λ x i. h x (inr i)))
    where
      go : (t : Bool) → AllEnd seen (aborted_if t why b)
      go true = by_state_end seen why b (h b (inl refl))
      go false = tt

-- the first branch of a transaction is there, and is ending
abbrev pub IsEndingIn : List Branch → Id → Type 0
IsEndingIn bs t = (b : Branch) × In b bs × (b.key ≡ first t) × (b.state ≡ Ending)

pub row_ends : (tm : Tm) (e : Event) → AllEnd (IsEndingIn tm.table) [] (row tm e)
row_ends tm e = go e
  where
    P : Id → Type 0
    P = IsEndingIn tm.table

    at : (t : Id) (b : Branch) → find (first t) tm.table ≡ Some b → b.state ≡ Ending → P b.key.tid × (b.key ≡ first b.key.tid)
    at t b is q =
        let k = find-key (first t) tm.table b is in
        let same : b.key ≡ first b.key.tid = k ∙ ap first (sym (ap (λ (j : Key). j.tid) k)) in
        ((b, find_in (first t) tm.table b is, same, q), same)

    among : (b : Branch) → In b tm.table → b.state ≡ Ending → b.key ≡ first b.key.tid → P b.key.tid
    among b i q same = (b, i, same, q)

    message : (m : Message) (d : Kind) → AllEnd P [] (got tm m d)
    message m Join = join_end P m (find (first m.tid) tm.table)
    message m JoinOk = join_ok_end P (find (key_of m) tm.table)
    message m JoinNo = join_no_end P (find (key_of m) tm.table)
    message m Prepare = prepare_end P m (find (key_of m) tm.table)
    message m Yes = vote_end P m.serial Yes (find (first m.tid) tm.table) (at m.tid)
    message m ReadOnly = vote_end P m.serial ReadOnly (find (first m.tid) tm.table) (at m.tid)
    message m No = no_end P m.serial (find (first m.tid) tm.table) (at m.tid)
    message m Commit = commit_end P m (find (key_of m) tm.table)
    message m Abort = abort_end P (find (key_of m) tm.table)
    message m Ack = if_end P [] (list_any (λ r. waits_for (key_of m) r) tm.records) (Acknowledges (key_of m) ∷ []) [] (tt, tt) tt
    message m Inquire = inquire_end P m (find (first m.tid) tm.table) tm.records

    go : (e : Event) → AllEnd P [] (row tm e)
    go (Start t due) = (tt, tt)
    go (Authorise t bid) = authorise_end P bid (find (first t) tm.table)
    go (Begin t s bid) = (tt, (tt, tt))
    go (JoinRm s x) = note_end P (with_manager x) (find_serial s tm.table)
    go (Changed s) = note_end P has_changed (find_serial s tm.table)
    go (EndTrans t) = end_trans_end P (find (first t) tm.table) (at t)
    go (EndBranch s) = end_branch_end P (find_serial s tm.table)
    go (AbortBranch s why) = abort_branch_end P why (find_serial s tm.table) (λ b is. among b (serial_in s tm.table b is))
    go (Replied s x r) = reply_end P s x r (find_serial s tm.table) tm.records (λ b is. among b (serial_in s tm.table b is))
    go (Got m) = message m m.kind
    go (Clock now) = sweep_end P [] Timeout (is_due now) tm.table among
    go (LinkDown x) = append_end P [] (sweep CommFail (is_cut_off x) tm.table) (sweep CommFail (is_under x) tm.table) (sweep_end P [] CommFail (is_cut_off x) tm.table among) (sweep_end P [] CommFail (is_under x) tm.table among)
    go RunDown = append_end P [] (sweep SegFail is_first tm.table) (sweep SegFail is_other tm.table) (sweep_end P [] SegFail is_first tm.table among) (sweep_end P [] SegFail is_other tm.table among)
    go (InquireBranch s) = asks_end P (find_serial s tm.table)
