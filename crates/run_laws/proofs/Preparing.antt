-- What a row sends and which branches it prepares: a Join is sent only of a branch that begins, and a Prepare only of one that a branch of the table has accepted; and a
-- branch is prepared only where it was asked.
use Rattle.std.proofs.Common.{◌≡◌, Bool, true, false, not, ◌&&◌, ◌||◌, List, [], ◌∷◌, ◌++◌, Option, Some, None, if◌then◌else◌, refl, sym, ap, inl, inr}
use Rattle.std.specs.List.{list_any}
use Rattle.std.proofs.lemmas.Bool.{both_ways}
use Rattle.vms_model.specs.Ids.{Id}
use Rattle.vms_model.specs.Transactions.{Reason, Aborted, Vetoed, SyncFail, Timeout, CommFail, SegFail}
use Rattle.commit_protocol.specs.Messages.{Name, Kind, Join, JoinOk, JoinNo, Prepare, Yes, ReadOnly, No, Commit, Abort, Ack, Inquire, Message, RmEvent, PrepareEvent, CommitEvent, AbortEvent, Reply, LogRecord, same_id}
use Rattle.commit_protocol.specs.Table.{Key, Branch, State, Joining, Active, Ending, Voting, Prepared, Child, Act, Notes, Accepts, Prepares, Leaves, Acknowledges, Releases, Sends, Tm, child, first, key_of, is_first, find, find_serial, waits_for, holds, holding}
use Rattle.commit_protocol.specs.Rows.{down, up, sends_all, to_each, tells, joined, interested, serials, yes_of, all_voted, all_replied, has_bid, has_serial, others, all_taken, joined_as, ended, told_abort, unless_read_only, aborts_telling, aborts, undone_quietly, refuses, commits, commits_if_all, refuses_join, grants_join, join_state, join_row, join_ok_state, join_ok_row, join_no_state, join_no_row, which_event, ending, begins_ending, end_trans_state, end_trans_row, abort_running, abort_by_state, abort_branch_row, authorise_state, authorise_row, lacks_vote, with_vote, vote_state, vote_row, refused, no_state, no_row, answer_state, answer, inquire_row, is_empty, casts, casts_if_all, voting, begins_vote, asked_branch, votes_if_ended, prepare_state, prepare_row, ended_branch, end_branch_state, end_branch_row, commit_state, commit_row, abort_state, abort_row, with_reply, is_veto, is_forget, first_reply, branch_reply, reply_state, reply_row, note_state, has_changed, note_row, with_manager, asks_state, asks_row, aborted_if, sweep, is_due, is_cut_off, is_under, is_other, got, row, Event, Start, Authorise, Begin, JoinRm, Changed, EndTrans, EndBranch, AbortBranch, Replied, Got, Clock, LinkDown, RunDown, InquireBranch}
use Rattle.commit_protocol.specs.Allowed.{is_prepared}
use Rattle.commit_protocol.specs.World.{In}
use Rattle.commit_protocol.proofs.Lists.{find-key, find_serial-serial}
use Rattle.run_laws.proofs.Noting.{find_in, serial_in}

-- what an act sends and prepares is so, and what leaves as read-only comes of a branch that is; so is all that these acts do
abbrev pub Tells : (Message → Type 0) → (Branch → Type 0) → Act → Type 0
Tells S Q (Sends m) = S m
Tells S Q (Prepares b) = Q b
Tells S Q (Leaves k) = (b : Branch) × Q b × (b.key ≡ k)
Tells S Q _ = Unit {0}

abbrev pub AllTell : (Message → Type 0) → (Branch → Type 0) → List Act → Type 0
AllTell S Q [] = Unit {0}
AllTell S Q (a ∷ acts) = Tells S Q a × AllTell S Q acts

-- the kinds of messages that bring a branch into a transaction and to its vote
abbrev pub is_leading : Kind → Bool
is_leading Join = true
is_leading Prepare = true
is_leading _ = false

module _ (S : Message → Type 0) (Q : Branch → Type 0) (other : (m : Message) → is_leading m.kind ≡ false → S m) where
  abbrev AllSent : List Message → Type 0
  AllSent [] = Unit {0}
  AllSent (m ∷ ms) = S m × AllSent ms

  -- a test with what it tells
  if_tells : (t : Bool) (x y : List Act) → (t ≡ true → AllTell S Q x) → (t ≡ false → AllTell S Q y) → AllTell S Q (if t then x else y)
  if_tells true x y f g = f refl
  if_tells false x y f g = g refl

  append_tells : (xs ys : List Act) → AllTell S Q xs → AllTell S Q ys → AllTell S Q (xs ++ ys)
  append_tells [] ys f g = g
  append_tells (a ∷ xs) ys f g = (f.0, append_tells xs ys f.1 g)

  sends_tell : (ms : List Message) → AllSent ms → AllTell S Q (sends_all ms)
  sends_tell [] h = tt
  sends_tell (m ∷ ms) h = (h.0, sends_tell ms h.1)

  tells_tell : (v : RmEvent) (k : Key) (xs : List Name) → AllTell S Q (tells v k xs)
  tells_tell v k [] = tt
  tells_tell v k (x ∷ xs) = (tt, tells_tell v k xs)

  ended_tells : (b : Branch) (s : State) (reason : Option Reason) → AllTell S Q (ended b s reason)
  ended_tells b Ending reason = (tt, tt)
  ended_tells b _ reason = tt

  each_sent : (kind : Kind) (t : Id) (ss : List Id) → is_leading kind ≡ false → AllSent (to_each kind t ss)
  each_sent kind t [] h = tt
  each_sent kind t (s ∷ ss) h = (other (down kind (child t s)) h, each_sent kind t ss h)

  aborts_sent : (t : Id) (cs : List Child) → AllSent (told_abort t cs)
  aborts_sent t [] = tt
  aborts_sent t (c ∷ cs) = go c.vote (aborts_sent t cs)
    where
      go : (o : Option Kind) → AllSent (told_abort t cs) → AllSent (unless_read_only o (down Abort (child t c.serial)) (told_abort t cs))
      go (Some ReadOnly) more = more
      go (Some _) more = (other (down Abort (child t c.serial)) refl, more)
      go None more = (other (down Abort (child t c.serial)) refl, more)

  aborts_tell : (cs : List Child) (why : Reason) (b : Branch) → AllTell S Q (aborts_telling cs why b)
  aborts_tell cs why b = (
    tt,
    append_tells (sends_all (told_abort b.key.tid cs)) (tells AbortEvent b.key (interested b.managers) ++ ended b b.state (Some why)) (sends_tell (told_abort b.key.tid cs) (aborts_sent b.key.tid cs))
        (append_tells (tells AbortEvent b.key (interested b.managers)) (ended b b.state (Some why)) (tells_tell AbortEvent b.key (interested b.managers)) (ended_tells b b.state (Some why))),
  )

  undone_tells : (why : Reason) (b : Branch) → AllTell S Q (undone_quietly why b)
  undone_tells why b = (tt, tells_tell AbortEvent b.key (interested b.managers))

  refuses_tells : (why : Reason) (b : Branch) → AllTell S Q (refuses why b)
  refuses_tells why b = (tt, (other (up No b.key) refl, tells_tell AbortEvent b.key (interested b.managers)))

  commits_tell : (b : Branch) (shown : List Act) → AllTell S Q shown → AllTell S Q (commits_if_all b shown)
  commits_tell b shown h =
      if_tells (all_voted b.accepted && all_replied b.managers) (commits b shown) [] (λ t. (
        tt,
        append_tells (sends_all (to_each Commit b.key.tid (yes_of b.accepted))) (tells CommitEvent b.key (holding b.managers) ++ shown) (sends_tell (to_each Commit b.key.tid (yes_of b.accepted)) (each_sent Commit b.key.tid (yes_of b.accepted) refl))
            (append_tells (tells CommitEvent b.key (holding b.managers)) shown (tells_tell CommitEvent b.key (holding b.managers)) h),
      )) (λ t. tt)

  casts_tell : (b : Branch) → Q b → AllTell S Q (casts_if_all b)
  casts_tell b h = if_tells (all_replied b.managers) (casts b) [] (λ t. if_tells (b.changed || not (is_empty (holding b.managers))) (Prepares b ∷ (Sends (up Yes b.key) ∷ [])) (Leaves b.key ∷ (Sends (up ReadOnly b.key) ∷ [])) (λ u. (h, (other (up Yes b.key) refl, tt))) (λ u. ((b, h, refl), (other (up ReadOnly b.key) refl, tt)))) (λ t. tt)

  votes_tell : (b : Branch) → Q (voting b) → AllTell S Q (begins_vote b)
  votes_tell b h = (tt, append_tells (tells PrepareEvent b.key (joined b.managers)) (casts_if_all (voting b)) (tells_tell PrepareEvent b.key (joined b.managers)) (casts_tell (voting b) h))

  grants : (m : Message) → AllTell S Q (grants_join m)
  grants m = (other (down JoinOk (key_of m)) refl, tt)

  refuses_it : (m : Message) → AllTell S Q (refuses_join m)
  refuses_it m = (other (down JoinNo (key_of m)) refl, tt)

  join_tells : (m : Message) (o : Option Branch) → AllTell S Q (join_row m o)
  join_tells m None = refuses_it m
  join_tells m (Some b) = go b.state m.bid
    where
      go : (s : State) (o : Option Id) → AllTell S Q (join_state m b s o)
      go Active (Some bid) = if_tells (joined_as bid m.serial b.accepted) (grants_join m)
          (if list_any (λ x. same_id x bid) b.bids && not (has_bid bid b.accepted) then Accepts b (record { bid = bid; serial = m.serial; vote = None }) ∷ grants_join m else refuses_join m) (λ t. grants m)
          (λ t. if_tells (list_any (λ x. same_id x bid) b.bids && not (has_bid bid b.accepted)) (Accepts b (record { bid = bid; serial = m.serial; vote = None }) ∷ grants_join m) (refuses_join m) (λ u. (tt, grants m)) (λ u. refuses_it m))
      go Ending (Some bid) = if_tells (joined_as bid m.serial b.accepted) (grants_join m) (refuses_join m) (λ t. grants m) (λ t. refuses_it m)
      go Active None = refuses_it m
      go Ending None = refuses_it m
      go Joining bid = refuses_it m
      go Voting bid = refuses_it m
      go Prepared bid = refuses_it m

  join_ok_tells : (o : Option Branch) → AllTell S Q (join_ok_row o)
  join_ok_tells None = tt
  join_ok_tells (Some b) = go b.state
    where
      go : (s : State) → AllTell S Q (join_ok_state b s)
      go Joining = (tt, (tt, tt))
      go _ = tt

  join_no_tells : (o : Option Branch) → AllTell S Q (join_no_row o)
  join_no_tells None = tt
  join_no_tells (Some b) = go b.state
    where
      go : (s : State) → AllTell S Q (join_no_state b s)
      go Joining = undone_tells SyncFail b
      go Active = undone_tells SyncFail b
      go Voting = undone_tells SyncFail b
      go Ending = tt
      go Prepared = tt

  prepare_tells : (m : Message) (o : Option Branch) → ((b : Branch) → o ≡ Some b → is_prepared b.state ≡ false → Q (voting (asked_branch b))) → AllTell S Q (prepare_row m o)
  prepare_tells m None h = (other (up No (key_of m)) refl, tt)
  prepare_tells m (Some b) h = go b.state refl
    where
      asked_votes : Q (voting (asked_branch b)) → AllTell S Q (votes_if_ended b)
      asked_votes k = if_tells b.ended (begins_vote (asked_branch b)) [] (λ t. votes_tell (asked_branch b) k) (λ t. tt)

      go : (s : State) → b.state ≡ s → AllTell S Q (prepare_state b s)
      go Joining e = (tt, (tt, asked_votes (h b refl (ap is_prepared e))))
      go Active e = (tt, asked_votes (h b refl (ap is_prepared e)))
      go Prepared e = (other (up Yes b.key) refl, tt)
      go Ending e = tt
      go Voting e = tt

  vote_tells : (s : Id) (v : Kind) (o : Option Branch) → AllTell S Q (vote_row s v o)
  vote_tells s v None = tt
  vote_tells s v (Some b) = go b.state
    where
      go : (z : State) → AllTell S Q (vote_state s v b z)
      go Ending = if_tells (list_any (λ c. lacks_vote s c) b.accepted) (Notes (with_vote s v b) ∷ commits_if_all (with_vote s v b) (ended b b.state None)) []
          (λ t. (tt, commits_tell (with_vote s v b) (ended b b.state None) (ended_tells b b.state None))) (λ t. tt)
      go _ = tt

  no_tells : (s : Id) (o : Option Branch) → AllTell S Q (no_row s o)
  no_tells s None = tt
  no_tells s (Some b) = go b.state
    where
      aborted : AllTell S Q (refused s b)
      aborted = if_tells (has_serial s b.accepted) (aborts_telling (others s b.accepted) Vetoed b) [] (λ t. aborts_tell (others s b.accepted) Vetoed b) (λ t. tt)

      go : (z : State) → AllTell S Q (no_state s b z)
      go Active = aborted
      go Ending = aborted
      go _ = tt

  commit_tells : (m : Message) (o : Option Branch) → AllTell S Q (commit_row m o)
  commit_tells m None = (other (up Ack (key_of m)) refl, tt)
  commit_tells m (Some b) = go b.state
    where
      go : (s : State) → AllTell S Q (commit_state b s)
      go Prepared = (tt, (other (up Ack b.key) refl, tells_tell CommitEvent b.key (holding b.managers)))
      go _ = tt

  abort_tells : (o : Option Branch) → AllTell S Q (abort_row o)
  abort_tells None = tt
  abort_tells (Some b) = go b.state
    where
      go : (s : State) → AllTell S Q (abort_state b s)
      go Ending = tt
      go _ = undone_tells Aborted b

  inquire_tells : (m : Message) (o : Option Branch) (rs : List LogRecord) → AllTell S Q (inquire_row m o rs)
  inquire_tells m o rs = if_tells (list_any (λ r. same_id r.tid m.tid) rs) (Sends (down Commit (key_of m)) ∷ []) (answer m o) (λ t. (other (down Commit (key_of m)) refl, tt)) (λ t. answers o)
    where
      by_state : (b : Branch) (s : State) → AllTell S Q (answer_state m b s)
      by_state b Prepared = (other (down Abort (key_of m)) refl, tt)
      by_state b _ = tt

      answers : (o : Option Branch) → AllTell S Q (answer m o)
      answers None = (other (down Abort (key_of m)) refl, tt)
      answers (Some b) = by_state b b.state

  authorise_tells : (bid : Id) (o : Option Branch) → AllTell S Q (authorise_row bid o)
  authorise_tells bid None = tt
  authorise_tells bid (Some b) = go b.state
    where
      go : (s : State) → AllTell S Q (authorise_state bid b s)
      go Active = (tt, tt)
      go _ = tt

  end_trans_tells : (o : Option Branch) → ((b : Branch) → o ≡ Some b → is_prepared b.state ≡ false → AllSent (to_each Prepare b.key.tid (serials b.accepted))) → AllTell S Q (end_trans_row o)
  end_trans_tells None h = tt
  end_trans_tells (Some b) h = go b.state refl
    where
      go : (s : State) → b.state ≡ s → AllTell S Q (end_trans_state b s)
      go Active e = if_tells (all_taken b.bids b.accepted) (begins_ending b) (aborts SyncFail b) (λ t. (
        tt,
        append_tells (sends_all (to_each Prepare b.key.tid (serials b.accepted))) (tells (which_event b.changed b.accepted b.managers) b.key (joined b.managers) ++ commits_if_all (ending b) []) (sends_tell (to_each Prepare b.key.tid (serials b.accepted)) (h b refl (ap is_prepared e)))
            (append_tells (tells (which_event b.changed b.accepted b.managers) b.key (joined b.managers)) (commits_if_all (ending b) []) (tells_tell (which_event b.changed b.accepted b.managers) b.key (joined b.managers)) (commits_tell (ending b) [] tt)),
      )) (λ t. aborts_tell b.accepted SyncFail b)
      go _ e = tt

  end_branch_tells : (o : Option Branch) → ((b : Branch) → o ≡ Some b → is_prepared b.state ≡ false → b.asked ≡ true → Q (voting (ended_branch b))) → AllTell S Q (end_branch_row o)
  end_branch_tells None h = tt
  end_branch_tells (Some b) h = go b.state refl
    where
      go : (s : State) → b.state ≡ s → AllTell S Q (end_branch_state b s)
      go Active e = (tt, if_tells b.asked (begins_vote (ended_branch b)) [] (λ t. votes_tell (ended_branch b) (h b refl (ap is_prepared e) t)) (λ t. tt))
      go _ e = tt

  reply_tells : (s : Id) (x : Name) (r : Reply) (o : Option Branch) (rs : List LogRecord) → ((b : Branch) → o ≡ Some b → is_veto r ≡ false → b.state ≡ Voting → b.asked ≡ true → Q (with_reply x r b)) → AllTell S Q (reply_row s x r o rs)
  reply_tells s x r None rs h = if_tells (is_forget r && list_any (λ q. holds s x q) rs) (Releases s x ∷ []) [] (λ t. (tt, tt)) (λ t. tt)
  reply_tells s x r (Some b) rs h = go b.state refl
    where
      at_first : AllTell S Q (first_reply x r b)
      at_first = if_tells (is_veto r) (aborts Vetoed (with_reply x r b)) (Notes (with_reply x r b) ∷ commits_if_all (with_reply x r b) (ended b b.state None)) (λ t. aborts_tell b.accepted Vetoed (with_reply x r b)) (λ t. (tt, commits_tell (with_reply x r b) (ended b b.state None) (ended_tells b b.state None)))

      at_other : (is_veto r ≡ false → Q (with_reply x r b)) → AllTell S Q (branch_reply x r b)
      at_other k = if_tells (is_veto r) (refuses Vetoed (with_reply x r b)) (Notes (with_reply x r b) ∷ casts_if_all (with_reply x r b)) (λ t. refuses_tells Vetoed (with_reply x r b)) (λ t. (tt, casts_tell (with_reply x r b) (k t)))

      go : (z : State) → b.state ≡ z → AllTell S Q (reply_state x r b z)
      go Ending e = if_tells (is_first b) (first_reply x r b) [] (λ t. at_first) (λ t. tt)
      go Voting e = if_tells b.asked (branch_reply x r b) [] (λ t. at_other (λ v. h b refl v e t)) (λ t. tt)
      go _ e = tt

  note_tells : (f : Branch → Branch) (o : Option Branch) → AllTell S Q (note_row f o)
  note_tells f None = tt
  note_tells f (Some b) = go b.state
    where
      go : (s : State) → AllTell S Q (note_state f b s)
      go Active = (tt, tt)
      go _ = tt

  asks_tell : (o : Option Branch) → AllTell S Q (asks_row o)
  asks_tell None = tt
  asks_tell (Some b) = go b.state
    where
      go : (s : State) → AllTell S Q (asks_state b s)
      go Prepared = (other (up Inquire b.key) refl, tt)
      go _ = tt

  running_tells : (why : Reason) (b : Branch) → AllTell S Q (abort_running why b)
  running_tells why b = if_tells (is_first b) (aborts why b) (refuses why b) (λ t. aborts_tell b.accepted why b) (λ t. refuses_tells why b)

  by_state_tells : (why : Reason) (b : Branch) (s : State) → AllTell S Q (abort_by_state why b s)
  by_state_tells why b Prepared = tt
  by_state_tells why b _ = running_tells why b

  abort_branch_tells : (why : Reason) (o : Option Branch) → AllTell S Q (abort_branch_row why o)
  abort_branch_tells why None = tt
  abort_branch_tells why (Some b) = by_state_tells why b b.state

  sweep_tells : (why : Reason) (chosen : Branch → Bool) (bs : List Branch) → AllTell S Q (sweep why chosen bs)
  sweep_tells why chosen [] = tt
  sweep_tells why chosen (b ∷ bs) = append_tells (aborted_if (chosen b) why b) (sweep why chosen bs) (go (chosen b)) (sweep_tells why chosen bs)
    where
      go : (t : Bool) → AllTell S Q (aborted_if t why b)
      go true = by_state_tells why b b.state
      go false = tt

-- What leads to a branch.

-- a Join that is sent by this event, and a Prepare
abbrev pub SendsBy : List Branch → Event → Message → Type 0
SendsBy bs e m = (m.kind ≡ Join → (bid : Id) × (e ≡ Begin m.tid m.serial bid)) × (m.kind ≡ Prepare → (b : Branch) × In b bs × (is_prepared b.state ≡ false) × (m.tid ≡ b.key.tid) × ((c : Child) × In c b.accepted × (m.serial ≡ c.serial)))

-- a branch that votes by this event was asked: before it, or by it; by a reply, the branch was voting, and the reply is no veto
abbrev pub CastsBy : Event → Branch → Type 0
CastsBy (Got m) b = (m.kind ≡ Prepare) × (key_of m ≡ b.key)
CastsBy (EndBranch s) b = (b.asked ≡ true) × (b.key.serial ≡ s)
CastsBy (Replied s x r) b = (b.asked ≡ true) × (is_veto r ≡ false) × (b.state ≡ Voting) × (b.key.serial ≡ s)
CastsBy _ b = ⊥

-- what is prepared comes of a branch of the table that is not
abbrev pub PreparesBy : List Branch → Event → Branch → Type 0
PreparesBy bs e new = (b : Branch) × In b bs × (is_prepared b.state ≡ false) × (new.key ≡ b.key) × CastsBy e b

other_sent : (bs : List Branch) (e : Event) (m : Message) → is_leading m.kind ≡ false → SendsBy bs e m
other_sent bs e m h = (λ is. absurd (both_ways (is_leading m.kind) h (ap is_leading is)), λ is. absurd (both_ways (is_leading m.kind) h (ap is_leading is)))

pub row_tells : (tm : Tm) (e : Event) → AllTell (SendsBy tm.table e) (PreparesBy tm.table e) (row tm e)
row_tells tm e = go e
  where
    S : Event → Message → Type 0
    S e = SendsBy tm.table e

    Q : Event → Branch → Type 0
    Q e = PreparesBy tm.table e

    prepares_sent : (e : Event) (b : Branch) (cs : List Child) → In b tm.table → is_prepared b.state ≡ false → ((c : Child) → In c cs → In c b.accepted) → AllSent (S e) (Q e) (other_sent tm.table e) (to_each Prepare b.key.tid (serials cs))
    prepares_sent e b [] i u f = tt
    prepares_sent e b (c ∷ cs) i u f = ((λ is. let no : ⊥ = cc in absurd no, λ is. (b, i, u, refl, (c, f c (inl refl), refl))), prepares_sent e b cs i u (λ d j. f d (inr j)))

    message : (m : Message) (d : Kind) → m.kind ≡ d → AllTell (S (Got m)) (Q (Got m)) (got tm m d)
    message m Join is = join_tells _ _ (other_sent tm.table (Got m)) m (find (first m.tid) tm.table)
    message m JoinOk is = join_ok_tells _ _ (other_sent tm.table (Got m)) (find (key_of m) tm.table)
    message m JoinNo is = join_no_tells _ _ (other_sent tm.table (Got m)) (find (key_of m) tm.table)
    message m Prepare is = prepare_tells _ _ (other_sent tm.table (Got m)) m (find (key_of m) tm.table) (λ b f u. (b, find_in (key_of m) tm.table b f, u, refl, (is, sym (find-key (key_of m) tm.table b f))))
    message m Yes is = vote_tells _ _ (other_sent tm.table (Got m)) m.serial Yes (find (first m.tid) tm.table)
    message m ReadOnly is = vote_tells _ _ (other_sent tm.table (Got m)) m.serial ReadOnly (find (first m.tid) tm.table)
    message m No is = no_tells _ _ (other_sent tm.table (Got m)) m.serial (find (first m.tid) tm.table)
    message m Commit is = commit_tells _ _ (other_sent tm.table (Got m)) m (find (key_of m) tm.table)
    message m Abort is = abort_tells _ _ (other_sent tm.table (Got m)) (find (key_of m) tm.table)
    message m Ack is = if_tells _ _ (other_sent tm.table (Got m)) (list_any (λ r. waits_for (key_of m) r) tm.records) (Acknowledges (key_of m) ∷ []) [] (λ t. (tt, tt)) (λ t. tt)
    message m Inquire is = inquire_tells _ _ (other_sent tm.table (Got m)) m (find (first m.tid) tm.table) tm.records

    go : (e : Event) → AllTell (S e) (Q e) (row tm e)
    go (Start t due) = (tt, tt)
    go (Authorise t bid) = authorise_tells _ _ (other_sent tm.table (Authorise t bid)) bid (find (first t) tm.table)
    go (Begin t s bid) = (tt, ((λ is. (bid, refl), λ is. let no : ⊥ = cc in absurd no), tt))
    go (JoinRm s x) = note_tells _ _ (other_sent tm.table (JoinRm s x)) (with_manager x) (find_serial s tm.table)
    go (Changed s) = note_tells _ _ (other_sent tm.table (Changed s)) has_changed (find_serial s tm.table)
    go (EndTrans t) = end_trans_tells _ _ (other_sent tm.table (EndTrans t)) (find (first t) tm.table) (λ b f u. prepares_sent (EndTrans t) b b.accepted (find_in (first t) tm.table b f) u (λ c i. i))
    go (EndBranch s) = end_branch_tells _ _ (other_sent tm.table (EndBranch s)) (find_serial s tm.table) (λ b f u asked. (b, serial_in s tm.table b f, u, refl, (asked, find_serial-serial s tm.table b f)))
    go (AbortBranch s why) = abort_branch_tells _ _ (other_sent tm.table (AbortBranch s why)) why (find_serial s tm.table)
    go (Replied s x r) = reply_tells _ _ (other_sent tm.table (Replied s x r)) s x r (find_serial s tm.table) tm.records (λ b f v z asked. (b, serial_in s tm.table b f, ap is_prepared z, refl, (asked, v, z, find_serial-serial s tm.table b f)))
    go (Got m) = message m m.kind refl
    go (Clock now) = sweep_tells _ _ (other_sent tm.table (Clock now)) Timeout (is_due now) tm.table
    go (LinkDown x) = append_tells _ _ (other_sent tm.table (LinkDown x)) (sweep CommFail (is_cut_off x) tm.table) (sweep CommFail (is_under x) tm.table) (sweep_tells _ _ (other_sent tm.table (LinkDown x)) CommFail (is_cut_off x) tm.table) (sweep_tells _ _ (other_sent tm.table (LinkDown x)) CommFail (is_under x) tm.table)
    go RunDown = append_tells _ _ (other_sent tm.table RunDown) (sweep SegFail is_first tm.table) (sweep SegFail is_other tm.table) (sweep_tells _ _ (other_sent tm.table RunDown) SegFail is_first tm.table) (sweep_tells _ _ (other_sent tm.table RunDown) SegFail is_other tm.table)
    go (InquireBranch s) = asks_tell _ _ (other_sent tm.table (InquireBranch s)) (find_serial s tm.table)
