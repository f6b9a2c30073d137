-- What settles a branch: each act of a row that does, by its event.
use Rattle.std.proofs.Common.{◌≡◌, ◌⊎◌, Bool, true, false, not, ◌&&◌, ◌||◌, List, [], ◌∷◌, ◌++◌, Option, Some, None, if◌then◌else◌, refl, ap, inl, inr}
use Rattle.std.specs.List.{list_any}
use Rattle.std.proofs.lemmas.Bool.{and_parts}
use Rattle.vms_model.specs.Ids.{Id}
use Rattle.vms_model.specs.Transactions.{Outcome, Reason, Aborted, Vetoed, SyncFail, Timeout, CommFail, SegFail}
use Rattle.vms_model.specs.Transactions as settles
use Rattle.commit_protocol.specs.Messages.{Name, Kind, Join, JoinOk, JoinNo, Prepare, Yes, ReadOnly, No, Commit, Abort, Ack, Inquire, Message, RmEvent, PrepareEvent, CommitEvent, AbortEvent, Reply, LogRecord, same_id}
use Rattle.commit_protocol.specs.Table.{Key, Branch, State, Joining, Active, Ending, Voting, Prepared, Child, Act, Notes, Accepts, Prepares, Settles, Leaves, Acknowledges, Releases, Undoes, Sends, Tm, first, key_of, is_first, find, find_serial, waits_for, holds, holding}
use Rattle.commit_protocol.specs.Rows.{down, up, sends_all, to_each, tells, joined, interested, serials, yes_of, all_voted, all_replied, has_bid, has_serial, others, all_taken, joined_as, ended, told_abort, aborts_telling, aborts, undone_quietly, refuses, commits, commits_if_all, refuses_join, grants_join, join_state, join_row, join_ok_state, join_ok_row, join_no_state, join_no_row, which_event, ending, begins_ending, end_trans_state, end_trans_row, abort_running, abort_by_state, abort_branch_row, authorise_state, authorise_row, lacks_vote, with_vote, vote_state, vote_row, refused, no_state, no_row, answer_state, answer, inquire_row, is_empty, casts, casts_if_all, voting, begins_vote, asked_branch, votes_if_ended, prepare_state, prepare_row, ended_branch, end_branch_state, end_branch_row, commit_state, commit_row, abort_state, abort_row, with_reply, is_veto, is_forget, first_reply, branch_reply, reply_state, reply_row, note_state, note_row, has_changed, with_manager, asks_state, asks_row, aborted_if, sweep, is_due, is_cut_off, is_under, is_other, got, row, Event, Start, Authorise, Begin, JoinRm, Changed, EndTrans, EndBranch, AbortBranch, Replied, Got, Clock, LinkDown, RunDown, InquireBranch}
use Rattle.commit_protocol.specs.Allowed.{is_prepared}
use Rattle.commit_protocol.specs.World.{In}
use Rattle.commit_protocol.proofs.Lists.{find-key, find_serial-serial, same_id-true, same_key-true}
use Rattle.run_laws.proofs.Noting.{find_in, serial_in}

-- A branch of a table that has this key and is not prepared.
pub record IsOpen (bs : List Branch) (k : Key) : Type 0 where
  pub branch : Branch
  pub there : In branch bs
  pub key : branch.key ≡ k
  pub unprepared : is_prepared branch.state ≡ false

-- it has accepted this serial
abbrev pub HasAccepted : Branch → Id → Type 0
HasAccepted b s = (c : Child) × In c b.accepted × (c.serial ≡ s)

-- the branch of a message stands there and is prepared
pub record IsReady (bs : List Branch) (m : Message) : Type 0 where
  pub branch : Branch
  pub there : find (key_of m) bs ≡ Some branch
  pub prepared : branch.state ≡ Prepared

-- by a message: a vote commits the first branch that is ending, a Commit its branch; a refused Join, an Abort and a No of an accepted serial abort
abbrev pub MessageSettles : Tm → Kind → Message → Key → Outcome → Reason → Type 0
MessageSettles tm Yes m k o reason = (o ≡ settles.Commit) × (k ≡ first m.tid) × (x : IsOpen tm.table k) × (x.branch.state ≡ Ending) × HasAccepted x.branch m.serial
MessageSettles tm ReadOnly m k o reason = (o ≡ settles.Commit) × (k ≡ first m.tid) × (x : IsOpen tm.table k) × (x.branch.state ≡ Ending) × HasAccepted x.branch m.serial
MessageSettles tm Commit m k o reason = (o ≡ settles.Commit) × (k ≡ key_of m) × IsReady tm.table m
MessageSettles tm Abort m k o reason = (o ≡ settles.Abort) × (reason ≡ Aborted) × (k ≡ key_of m)
MessageSettles tm JoinNo m k o reason = (o ≡ settles.Abort) × (reason ≡ SyncFail) × (k ≡ key_of m) × IsOpen tm.table k
MessageSettles tm No m k o reason = (o ≡ settles.Abort) × (reason ≡ Vetoed) × (k ≡ first m.tid) × (x : IsOpen tm.table k) × HasAccepted x.branch m.serial
MessageSettles tm _ m k o reason = ⊥

-- the event settles this branch so
abbrev pub EventSettles : Tm → Event → Key → Outcome → Reason → Type 0
EventSettles tm (EndTrans t) k o reason = (k ≡ first t) × (x : IsOpen tm.table k) × (((o ≡ settles.Commit) × (all_taken x.branch.bids x.branch.accepted ≡ true)) ⊎ ((o ≡ settles.Abort) × (reason ≡ SyncFail) × (all_taken x.branch.bids x.branch.accepted ≡ false)))
EventSettles tm (AbortBranch s why) k o reason = (o ≡ settles.Abort) × (reason ≡ why) × (k.serial ≡ s) × IsOpen tm.table k
EventSettles tm (Got m) k o reason = MessageSettles tm m.kind m k o reason
EventSettles tm (Clock now) k o reason = (o ≡ settles.Abort) × (reason ≡ Timeout) × (x : IsOpen tm.table k) × (is_due now x.branch ≡ true)
EventSettles tm (LinkDown other) k o reason = (o ≡ settles.Abort) × (reason ≡ CommFail) × (x : IsOpen tm.table k) × ((is_cut_off other x.branch ≡ true) ⊎ (is_under other x.branch ≡ true))
EventSettles tm RunDown k o reason = (o ≡ settles.Abort) × (reason ≡ SegFail) × IsOpen tm.table k
EventSettles tm (Replied s rm reply) k o reason = (k.serial ≡ s) × (x : IsOpen tm.table k) × (((o ≡ settles.Commit) × (is_veto reply ≡ false) × (x.branch.state ≡ Ending) × (k ≡ first k.tid)) ⊎ ((o ≡ settles.Abort) × (reason ≡ Vetoed) × (is_veto reply ≡ true)))
EventSettles tm _ k o reason = ⊥

-- each of these acts that settles a branch does so for such a cause, and none undoes a unit
abbrev pub ActSettles : (Key → Outcome → Reason → Type 0) → Act → Type 0
ActSettles P (Settles k o reason r) = P k o reason
ActSettles P (Undoes k) = ⊥
ActSettles P _ = Unit {0}

abbrev pub AllSettle : (Key → Outcome → Reason → Type 0) → List Act → Type 0
AllSettle P [] = Unit {0}
AllSettle P (a ∷ acts) = ActSettles P a × AllSettle P acts

module _ (P : Key → Outcome → Reason → Type 0) where
  if_settles : (t : Bool) (x y : List Act) → (t ≡ true → AllSettle P x) → (t ≡ false → AllSettle P y) → AllSettle P (if t then x else y)
  if_settles true x y f g = f refl
  if_settles false x y f g = g refl

  append_settles : (xs ys : List Act) → AllSettle P xs → AllSettle P ys → AllSettle P (xs ++ ys)
  append_settles [] ys f g = g
  append_settles (a ∷ xs) ys f g = (f.0, append_settles xs ys f.1 g)

  pub sends_settle : (ms : List Message) → AllSettle P (sends_all ms)
  sends_settle [] = tt
  sends_settle (m ∷ ms) = (tt, sends_settle ms)

  pub tells_settle : (v : RmEvent) (k : Key) (xs : List Name) → AllSettle P (tells v k xs)
  tells_settle v k [] = tt
  tells_settle v k (x ∷ xs) = (tt, tells_settle v k xs)

  ended_settles : (b : Branch) (s : State) (reason : Option Reason) → AllSettle P (ended b s reason)
  ended_settles b Ending reason = (tt, tt)
  ended_settles b _ reason = tt

  aborts_settle : (cs : List Child) (why : Reason) (b : Branch) → P b.key settles.Abort why → AllSettle P (aborts_telling cs why b)
  aborts_settle cs why b h = (
    h,
    append_settles (sends_all (told_abort b.key.tid cs)) (tells AbortEvent b.key (interested b.managers) ++ ended b b.state (Some why)) (sends_settle (told_abort b.key.tid cs))
        (append_settles (tells AbortEvent b.key (interested b.managers)) (ended b b.state (Some why)) (tells_settle AbortEvent b.key (interested b.managers)) (ended_settles b b.state (Some why))),
  )

  undone_settles : (why : Reason) (b : Branch) → P b.key settles.Abort why → AllSettle P (undone_quietly why b)
  undone_settles why b h = (h, tells_settle AbortEvent b.key (interested b.managers))

  refuses_settles : (why : Reason) (b : Branch) → P b.key settles.Abort why → AllSettle P (refuses why b)
  refuses_settles why b h = (h, (tt, tells_settle AbortEvent b.key (interested b.managers)))

  commits_settle : (b : Branch) (shown : List Act) → P b.key settles.Commit Aborted → AllSettle P shown → AllSettle P (commits_if_all b shown)
  commits_settle b shown p h =
      if_settles (all_voted b.accepted && all_replied b.managers) (commits b shown) [] (λ t. (
        p,
        append_settles (sends_all (to_each Commit b.key.tid (yes_of b.accepted))) (tells CommitEvent b.key (holding b.managers) ++ shown) (sends_settle (to_each Commit b.key.tid (yes_of b.accepted)))
            (append_settles (tells CommitEvent b.key (holding b.managers)) shown (tells_settle CommitEvent b.key (holding b.managers)) h),
      )) (λ t. tt)

  casts_settle : (b : Branch) → AllSettle P (casts_if_all b)
  casts_settle b =
      if_settles (all_replied b.managers) (casts b) [] (λ t. if_settles (b.changed || not (is_empty (holding b.managers))) (Prepares b ∷ (Sends (up Yes b.key) ∷ [])) (Leaves b.key ∷ (Sends (up ReadOnly b.key) ∷ [])) (λ u. (tt, (tt, tt))) (λ u. (tt, (tt, tt)))) (λ t. tt)

  votes_settle : (b : Branch) → AllSettle P (begins_vote b)
  votes_settle b = (tt, append_settles (tells PrepareEvent b.key (joined b.managers)) (casts_if_all (voting b)) (tells_settle PrepareEvent b.key (joined b.managers)) (casts_settle (voting b)))

  join_settles : (m : Message) (o : Option Branch) → AllSettle P (join_row m o)
  join_settles m None = (tt, tt)
  join_settles m (Some b) = go b.state m.bid
    where
      go : (s : State) (bid : Option Id) → AllSettle P (join_state m b s bid)
      go Active (Some bid) = if_settles (joined_as bid m.serial b.accepted) (grants_join m)
          (if list_any (λ x. same_id x bid) b.bids && not (has_bid bid b.accepted) then Accepts b (record { bid = bid; serial = m.serial; vote = None }) ∷ grants_join m else refuses_join m) (λ t. (tt, tt))
          (λ t. if_settles (list_any (λ x. same_id x bid) b.bids && not (has_bid bid b.accepted)) (Accepts b (record { bid = bid; serial = m.serial; vote = None }) ∷ grants_join m) (refuses_join m) (λ u. (tt, (tt, tt))) (λ u. (tt, tt)))
      go Ending (Some bid) = if_settles (joined_as bid m.serial b.accepted) (grants_join m) (refuses_join m) (λ t. (tt, tt)) (λ t. (tt, tt))
      go Active None = (tt, tt)
      go Ending None = (tt, tt)
      go Joining bid = (tt, tt)
      go Voting bid = (tt, tt)
      go Prepared bid = (tt, tt)

  join_ok_settles : (o : Option Branch) → AllSettle P (join_ok_row o)
  join_ok_settles None = tt
  join_ok_settles (Some b) = go b.state
    where
      go : (s : State) → AllSettle P (join_ok_state b s)
      go Joining = (tt, (tt, tt))
      go _ = tt

  -- what is found of a row's branch
  abbrev FoundSo : Option Branch → (Branch → Type 0) → Type 0
  FoundSo o Q = (b : Branch) → o ≡ Some b → Q b

  join_no_settles : (o : Option Branch) → FoundSo o (λ b. is_prepared b.state ≡ false → P b.key settles.Abort SyncFail) → AllSettle P (join_no_row o)
  join_no_settles None h = tt
  join_no_settles (Some b) h = go b.state refl
    where
      go : (s : State) → b.state ≡ s → AllSettle P (join_no_state b s)
      go Joining e = undone_settles SyncFail b (h b refl (ap is_prepared e))
      go Active e = undone_settles SyncFail b (h b refl (ap is_prepared e))
      go Voting e = undone_settles SyncFail b (h b refl (ap is_prepared e))
      go Ending e = tt
      go Prepared e = tt

  prepare_settles : (m : Message) (o : Option Branch) → AllSettle P (prepare_row m o)
  prepare_settles m None = (tt, tt)
  prepare_settles m (Some b) = go b.state
    where
      asked_votes : AllSettle P (votes_if_ended b)
      asked_votes = if_settles b.ended (begins_vote (asked_branch b)) [] (λ t. votes_settle (asked_branch b)) (λ t. tt)

      go : (s : State) → AllSettle P (prepare_state b s)
      go Joining = (tt, (tt, asked_votes))
      go Active = (tt, asked_votes)
      go Prepared = (tt, tt)
      go Ending = tt
      go Voting = tt

  vote_settles : (s : Id) (v : Kind) (o : Option Branch) → FoundSo o (λ b. b.state ≡ Ending → list_any (λ c. lacks_vote s c) b.accepted ≡ true → P b.key settles.Commit Aborted) → AllSettle P (vote_row s v o)
  vote_settles s v None h = tt
  vote_settles s v (Some b) h = go b.state refl
    where
      go : (z : State) → b.state ≡ z → AllSettle P (vote_state s v b z)
      go Ending e = if_settles (list_any (λ c. lacks_vote s c) b.accepted) (Notes (with_vote s v b) ∷ commits_if_all (with_vote s v b) (ended b b.state None)) []
          (λ t. (tt, commits_settle (with_vote s v b) (ended b b.state None) (h b refl e t) (ended_settles b b.state None))) (λ t. tt)
      go _ e = tt

  no_settles : (s : Id) (o : Option Branch) → FoundSo o (λ b. is_prepared b.state ≡ false → has_serial s b.accepted ≡ true → P b.key settles.Abort Vetoed) → AllSettle P (no_row s o)
  no_settles s None h = tt
  no_settles s (Some b) h = go b.state refl
    where
      aborted : is_prepared b.state ≡ false → AllSettle P (refused s b)
      aborted e = if_settles (has_serial s b.accepted) (aborts_telling (others s b.accepted) Vetoed b) [] (λ t. aborts_settle (others s b.accepted) Vetoed b (h b refl e t)) (λ t. tt)

      go : (z : State) → b.state ≡ z → AllSettle P (no_state s b z)
      go Active e = aborted (ap is_prepared e)
      go Ending e = aborted (ap is_prepared e)
      go _ e = tt

  reply_settles : (s : Id) (x : Name) (r : Reply) (o : Option Branch) (rs : List LogRecord) →
      FoundSo o (λ b. (is_veto r ≡ true → is_prepared b.state ≡ false → P b.key settles.Abort Vetoed) × (is_veto r ≡ false → b.state ≡ Ending → is_first b ≡ true → P b.key settles.Commit Aborted)) → AllSettle P (reply_row s x r o rs)
  reply_settles s x r None rs h = if_settles (is_forget r && list_any (λ q. holds s x q) rs) (Releases s x ∷ []) [] (λ t. (tt, tt)) (λ t. tt)
  reply_settles s x r (Some b) rs h = go b.state refl
    where
      at_first : b.state ≡ Ending → is_first b ≡ true → AllSettle P (first_reply x r b)
      at_first e f = if_settles (is_veto r) (aborts Vetoed (with_reply x r b)) (Notes (with_reply x r b) ∷ commits_if_all (with_reply x r b) (ended b b.state None))
          (λ t. aborts_settle b.accepted Vetoed (with_reply x r b) ((h b refl).0 t (ap is_prepared e)))
          (λ t. (tt, commits_settle (with_reply x r b) (ended b b.state None) ((h b refl).1 t e f) (ended_settles b b.state None)))

      at_other : b.state ≡ Voting → AllSettle P (branch_reply x r b)
      at_other e = if_settles (is_veto r) (refuses Vetoed (with_reply x r b)) (Notes (with_reply x r b) ∷ casts_if_all (with_reply x r b))
          (λ t. refuses_settles Vetoed (with_reply x r b) ((h b refl).0 t (ap is_prepared e))) (λ t. (tt, casts_settle (with_reply x r b)))

      go : (z : State) → b.state ≡ z → AllSettle P (reply_state x r b z)
      go Ending e = if_settles (is_first b) (first_reply x r b) [] (λ f. at_first e f) (λ f. tt)
      go Voting e = if_settles b.asked (branch_reply x r b) [] (λ f. at_other e) (λ f. tt)
      go Joining e = tt
      go Active e = tt
      go Prepared e = tt

  commit_settles : (m : Message) (o : Option Branch) → FoundSo o (λ b. b.state ≡ Prepared → P b.key settles.Commit Aborted) → AllSettle P (commit_row m o)
  commit_settles m None h = (tt, tt)
  commit_settles m (Some b) h = go b.state refl
    where
      go : (s : State) → b.state ≡ s → AllSettle P (commit_state b s)
      go Prepared e = (h b refl e, (tt, tells_settle CommitEvent b.key (holding b.managers)))
      go _ e = tt

  abort_settles : (o : Option Branch) → FoundSo o (λ b. P b.key settles.Abort Aborted) → AllSettle P (abort_row o)
  abort_settles None h = tt
  abort_settles (Some b) h = go b.state
    where
      go : (s : State) → AllSettle P (abort_state b s)
      go Ending = tt
      go _ = undone_settles Aborted b (h b refl)

  inquire_settles : (m : Message) (o : Option Branch) (rs : List LogRecord) → AllSettle P (inquire_row m o rs)
  inquire_settles m o rs = if_settles (list_any (λ r. same_id r.tid m.tid) rs) (Sends (down Commit (key_of m)) ∷ []) (answer m o) (λ t. (tt, tt)) (λ t. answers o)
    where
      by_state : (b : Branch) (s : State) → AllSettle P (answer_state m b s)
      by_state b Prepared = (tt, tt)
      by_state b _ = tt

      answers : (o : Option Branch) → AllSettle P (answer m o)
      answers None = (tt, tt)
      answers (Some b) = by_state b b.state

  authorise_settles : (bid : Id) (o : Option Branch) → AllSettle P (authorise_row bid o)
  authorise_settles bid None = tt
  authorise_settles bid (Some b) = go b.state
    where
      go : (s : State) → AllSettle P (authorise_state bid b s)
      go Active = (tt, tt)
      go _ = tt

  end_trans_settles : (o : Option Branch) → FoundSo o (λ b. is_prepared b.state ≡ false → (all_taken b.bids b.accepted ≡ true → P b.key settles.Commit Aborted) × (all_taken b.bids b.accepted ≡ false → P b.key settles.Abort SyncFail)) → AllSettle P (end_trans_row o)
  end_trans_settles None h = tt
  end_trans_settles (Some b) h = go b.state refl
    where
      go : (s : State) → b.state ≡ s → AllSettle P (end_trans_state b s)
      go Active e = let p = h b refl (ap is_prepared e) in if_settles (all_taken b.bids b.accepted) (begins_ending b) (aborts SyncFail b) (λ t. (
        tt,
        append_settles (sends_all (to_each Prepare b.key.tid (serials b.accepted))) (tells (which_event b.changed b.accepted b.managers) b.key (joined b.managers) ++ commits_if_all (ending b) []) (sends_settle (to_each Prepare b.key.tid (serials b.accepted)))
            (append_settles (tells (which_event b.changed b.accepted b.managers) b.key (joined b.managers)) (commits_if_all (ending b) []) (tells_settle (which_event b.changed b.accepted b.managers) b.key (joined b.managers)) (commits_settle (ending b) [] (p.0 t) tt)),
      )) (λ t. aborts_settle b.accepted SyncFail b (p.1 t))
      go _ e = tt

  end_branch_settles : (o : Option Branch) → AllSettle P (end_branch_row o)
  end_branch_settles None = tt
  end_branch_settles (Some b) = go b.state
    where
      go : (s : State) → AllSettle P (end_branch_state b s)
      go Active = (tt, if_settles b.asked (begins_vote (ended_branch b)) [] (λ t. votes_settle (ended_branch b)) (λ t. tt))
      go _ = tt

  note_settles : (f : Branch → Branch) (o : Option Branch) → AllSettle P (note_row f o)
  note_settles f None = tt
  note_settles f (Some b) = go b.state
    where
      go : (s : State) → AllSettle P (note_state f b s)
      go Active = (tt, tt)
      go _ = tt

  asks_settle : (o : Option Branch) → AllSettle P (asks_row o)
  asks_settle None = tt
  asks_settle (Some b) = go b.state
    where
      go : (s : State) → AllSettle P (asks_state b s)
      go Prepared = (tt, tt)
      go _ = tt

  by_state_settles : (why : Reason) (b : Branch) → (is_prepared b.state ≡ false → P b.key settles.Abort why) → AllSettle P (abort_by_state why b b.state)
  by_state_settles why b h = go b.state refl
    where
      running : P b.key settles.Abort why → AllSettle P (abort_running why b)
      running p = if_settles (is_first b) (aborts why b) (refuses why b) (λ t. aborts_settle b.accepted why b p) (λ t. refuses_settles why b p)

      go : (s : State) → b.state ≡ s → AllSettle P (abort_by_state why b s)
      go Prepared e = tt
      go Joining e = running (h (ap is_prepared e))
      go Active e = running (h (ap is_prepared e))
      go Ending e = running (h (ap is_prepared e))
      go Voting e = running (h (ap is_prepared e))

  abort_branch_settles : (why : Reason) (o : Option Branch) → FoundSo o (λ b. is_prepared b.state ≡ false → P b.key settles.Abort why) → AllSettle P (abort_branch_row why o)
  abort_branch_settles why None h = tt
  abort_branch_settles why (Some b) h = by_state_settles why b (h b refl)

  sweep_settles : (why : Reason) (chosen : Branch → Bool) (bs : List Branch) → ((b : Branch) → In b bs → chosen b ≡ true → is_prepared b.state ≡ false → P b.key settles.Abort why) → AllSettle P (sweep why chosen bs)
  sweep_settles why chosen [] h = tt
  sweep_settles why chosen (b ∷ bs) h = append_settles (aborted_if (chosen b) why b) (sweep why chosen bs) (go (chosen b) refl) (sweep_settles why chosen bs (λ x i c u. h x (inr i) c u))
    where
      go : (t : Bool) → chosen b ≡ t → AllSettle P (aborted_if t why b)
      go true e = by_state_settles why b (h b (inl refl) e)
      go false e = tt

-- a serial that a test finds among the accepted ones is one of them
accepted_in : (test : Child → Bool) (s : Id) (cs : List Child) → ((c : Child) → test c ≡ true → c.serial ≡ s) → list_any test cs ≡ true → (c : Child) × In c cs × (c.serial ≡ s)
accepted_in test s [] is h = let no : ⊥ = cc in absurd no
accepted_in test s (c ∷ cs) is h = go (test c) refl h (accepted_in test s cs is)
  where
    go : (t : Bool) → test c ≡ t → t || list_any test cs ≡ true → (list_any test cs ≡ true → (d : Child) × In d cs × (d.serial ≡ s)) → (d : Child) × In d (c ∷ cs) × (d.serial ≡ s)
    go true e k more = (c, inl refl, is c e)
    go false e k more = let r = more k in (r.0, inr r.1, r.2)

pub row_settles : (tm : Tm) (e : Event) → AllSettle (EventSettles tm e) (row tm e)
row_settles tm e = go e
  where
    at : (k : Key) (b : Branch) → find k tm.table ≡ Some b → is_prepared b.state ≡ false → IsOpen tm.table b.key
    at k b is unprepared = record { branch = b; there = find_in k tm.table b is; key = refl; unprepared = unprepared }

    by_serial : (s : Id) (b : Branch) → find_serial s tm.table ≡ Some b → is_prepared b.state ≡ false → IsOpen tm.table b.key
    by_serial s b is unprepared = record { branch = b; there = serial_in s tm.table b is; key = refl; unprepared = unprepared }

    voted : (s : Id) (b : Branch) → list_any (λ c. lacks_vote s c) b.accepted ≡ true → HasAccepted b s
    voted s b t = accepted_in (λ c. lacks_vote s c) s b.accepted (λ c u. same_id-true c.serial s (and_parts (same_id c.serial s) _ u).0) t

    message : (m : Message) (d : Kind) → AllSettle (MessageSettles tm d m) (got tm m d)
    message m Join = join_settles (MessageSettles tm Join m) m (find (first m.tid) tm.table)
    message m JoinOk = join_ok_settles (MessageSettles tm JoinOk m) (find (key_of m) tm.table)
    message m JoinNo = join_no_settles (MessageSettles tm JoinNo m) (find (key_of m) tm.table) (λ b is u. (refl, refl, find-key (key_of m) tm.table b is, at (key_of m) b is u))
    message m Prepare = prepare_settles (MessageSettles tm Prepare m) m (find (key_of m) tm.table)
    message m Yes = vote_settles (MessageSettles tm Yes m) m.serial Yes (find (first m.tid) tm.table) (λ b is e t. (refl, find-key (first m.tid) tm.table b is, at (first m.tid) b is (ap is_prepared e), e, voted m.serial b t))
    message m ReadOnly = vote_settles (MessageSettles tm ReadOnly m) m.serial ReadOnly (find (first m.tid) tm.table) (λ b is e t. (refl, find-key (first m.tid) tm.table b is, at (first m.tid) b is (ap is_prepared e), e, voted m.serial b t))
    message m No = no_settles (MessageSettles tm No m) m.serial (find (first m.tid) tm.table) (λ b is u t. (refl, refl, find-key (first m.tid) tm.table b is, at (first m.tid) b is u, accepted_in (λ c. same_id c.serial m.serial) m.serial b.accepted (λ c x. same_id-true c.serial m.serial x) t))
    message m Commit = commit_settles (MessageSettles tm Commit m) m (find (key_of m) tm.table) (λ b is e. (refl, find-key (key_of m) tm.table b is, record { branch = b; there = is; prepared = e }))
    message m Abort = abort_settles (MessageSettles tm Abort m) (find (key_of m) tm.table) (λ b is. (refl, refl, find-key (key_of m) tm.table b is))
    message m Ack = if_settles (MessageSettles tm Ack m) (list_any (λ r. waits_for (key_of m) r) tm.records) (Acknowledges (key_of m) ∷ []) [] (λ t. (tt, tt)) (λ t. tt)
    message m Inquire = inquire_settles (MessageSettles tm Inquire m) m (find (first m.tid) tm.table) tm.records

    go : (e : Event) → AllSettle (EventSettles tm e) (row tm e)
    go (Start t due) = (tt, tt)
    go (Authorise t bid) = authorise_settles (EventSettles tm (Authorise t bid)) bid (find (first t) tm.table)
    go (Begin t s bid) = (tt, (tt, tt))
    go (JoinRm s x) = note_settles (EventSettles tm (JoinRm s x)) (with_manager x) (find_serial s tm.table)
    go (Changed s) = note_settles (EventSettles tm (Changed s)) has_changed (find_serial s tm.table)
    go (EndTrans t) = end_trans_settles (EventSettles tm (EndTrans t)) (find (first t) tm.table) (λ b is u. (λ all. (find-key (first t) tm.table b is, at (first t) b is u, inl (refl, all)), λ none. (find-key (first t) tm.table b is, at (first t) b is u, inr (refl, refl, none))))
    go (EndBranch s) = end_branch_settles (EventSettles tm (EndBranch s)) (find_serial s tm.table)
    go (AbortBranch s why) = abort_branch_settles (EventSettles tm (AbortBranch s why)) why (find_serial s tm.table) (λ b is u. (refl, refl, find_serial-serial s tm.table b is, by_serial s b is u))
    go (Replied s x r) = reply_settles (EventSettles tm (Replied s x r)) s x r (find_serial s tm.table) tm.records (λ b is. (
      (λ veto u. (find_serial-serial s tm.table b is, by_serial s b is u, inr (refl, refl, veto))),
      (λ other e key. (find_serial-serial s tm.table b is, by_serial s b is (ap is_prepared e), inl (refl, other, e, same_key-true b.key (first b.key.tid) key))),
    ))
    go (Got m) = message m m.kind
    go (Clock now) = sweep_settles (EventSettles tm (Clock now)) Timeout (is_due now) tm.table (λ b i c u. (refl, refl, record { branch = b; there = i; key = refl; unprepared = u }, c))
    go (LinkDown x) = append_settles (EventSettles tm (LinkDown x)) (sweep CommFail (is_cut_off x) tm.table) (sweep CommFail (is_under x) tm.table)
        (sweep_settles (EventSettles tm (LinkDown x)) CommFail (is_cut_off x) tm.table (λ b i c u. (refl, refl, record { branch = b; there = i; key = refl; unprepared = u }, inl c)))
        (sweep_settles (EventSettles tm (LinkDown x)) CommFail (is_under x) tm.table (λ b i c u. (refl, refl, record { branch = b; there = i; key = refl; unprepared = u }, inr c)))
    go RunDown = append_settles (EventSettles tm RunDown) (sweep SegFail is_first tm.table) (sweep SegFail is_other tm.table)
        (sweep_settles (EventSettles tm RunDown) SegFail is_first tm.table (λ b i c u. (refl, refl, record { branch = b; there = i; key = refl; unprepared = u })))
        (sweep_settles (EventSettles tm RunDown) SegFail is_other tm.table (λ b i c u. (refl, refl, record { branch = b; there = i; key = refl; unprepared = u })))
    go (InquireBranch s) = asks_settle (EventSettles tm (InquireBranch s)) (find_serial s tm.table)
