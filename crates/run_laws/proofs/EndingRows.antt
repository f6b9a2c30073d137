-- Where the first branch of a transaction is ending, a row leaves it so, or settles it and then prints how the transaction ended.
use Rattle.std.proofs.Common.{◌≡◌, Bool, true, false, not, ◌&&◌, ◌||◌, List, [], ◌∷◌, ◌++◌, Option, Some, None, if◌then◌else◌, refl, sym, ◌∙◌, ap, subst, inl, inr}
use Rattle.std.proofs.lemmas.Bool.{both_ways}
use Rattle.std.specs.List.{list_any}
use Rattle.vms_model.specs.Ids.{Id}
use Rattle.vms_model.specs.Transactions.{Outcome, Reason, Aborted, Vetoed, SyncFail, Timeout, CommFail, SegFail}
use Rattle.vms_model.specs.Transactions as settles
use Rattle.commit_protocol.specs.Messages.{Name, Kind, Join, JoinOk, JoinNo, Prepare, Yes, ReadOnly, No, Commit, Abort, Ack, Inquire, Message, RmEvent, PrepareEvent, CommitEvent, AbortEvent, Reply, LogRecord, same_id}
use Rattle.commit_protocol.specs.Table.{Key, Branch, State, Joining, Active, Ending, Voting, Prepared, Child, Act, Notes, Accepts, Prepares, Settles, Leaves, Acknowledges, Releases, Undoes, Sends, Prints, Ended, Tm, first, key_of, is_first, find, find_serial, waits_for, holds, holding, same_key}
use Rattle.commit_protocol.specs.Rows.{down, up, sends_all, to_each, tells, joined, interested, serials, yes_of, all_voted, all_replied, has_bid, has_serial, others, all_taken, joined_as, ended, told_abort, aborts_telling, aborts, undone_quietly, refuses, commits, commits_if_all, refuses_join, grants_join, join_state, join_row, join_ok_state, join_ok_row, join_no_state, join_no_row, which_event, ending, begins_ending, end_trans_state, end_trans_row, abort_running, abort_by_state, abort_branch_row, authorise_state, authorise_row, lacks_vote, with_vote, vote_state, vote_row, refused, no_state, no_row, answer_state, answer, inquire_row, is_empty, casts, casts_if_all, voting, begins_vote, asked_branch, votes_if_ended, prepare_state, prepare_row, ended_branch, end_branch_state, end_branch_row, commit_state, commit_row, abort_state, abort_row, with_reply, is_veto, is_forget, first_reply, branch_reply, reply_state, reply_row, note_state, note_row, has_changed, with_manager, asks_state, asks_row, aborted_if, sweep, is_due, is_cut_off, is_under, is_other, got, row, Event, Start, Authorise, Begin, JoinRm, Changed, EndTrans, EndBranch, AbortBranch, Replied, Got, Clock, LinkDown, RunDown, InquireBranch}
use Rattle.commit_protocol.specs.World.{In}
use Rattle.commit_protocol.proofs.Lists.{in_left, in_right, same_key-refl}
use Rattle.run_laws.proofs.Noting.{find_in, serial_in}

-- the reason that is told of a settlement
abbrev pub told_reason : Outcome → Reason → Option Reason
told_reason settles.Commit why = None
told_reason settles.Abort why = Some why

abbrev is_ending : State → Bool
is_ending Ending = true
is_ending _ = false

module _ (x : Id) where
  -- a branch of this serial is the first of its transaction, and is ending
  abbrev pub IsEnding : Branch → Type 0
  IsEnding b = b.key.serial ≡ x → (b.key ≡ first x) × (b.state ≡ Ending)

  -- an act leaves it so, or settles it where those behind it print how it ended
  abbrev pub ActSo : Act → List Act → Type 0
  ActSo (Notes b) rest = IsEnding b
  ActSo (Accepts b c) rest = IsEnding b
  ActSo (Prepares b) rest = b.key.serial ≡ x → ⊥
  ActSo (Settles k o why r) rest = k.serial ≡ x → In (Prints (Ended x (told_reason o why))) rest
  ActSo (Undoes k) rest = ⊥
  ActSo _ rest = Unit {0}

  abbrev pub AllSo : List Act → Type 0
  AllSo [] = Unit {0}
  AllSo (a ∷ acts) = ActSo a acts × AllSo acts

  append_so : (xs ys : List Act) → AllSo xs → AllSo ys → AllSo (xs ++ ys)
  append_so [] ys f g = g
  append_so (a ∷ xs) ys f g = (one a f.0, append_so xs ys f.1 g)
    where
      one : (a : Act) → ActSo a xs → ActSo a (xs ++ ys)
      one (Settles k o why r) h = λ e. in_left (Prints (Ended x (told_reason o why))) xs ys (h e)
      one (Notes b) h = h
      one (Accepts b c) h = h
      one (Prepares b) h = h
      one (Undoes k) h = h
      one _ h = tt

  if_so : (t : Bool) (xs ys : List Act) → AllSo xs → AllSo ys → AllSo (if t then xs else ys)
  if_so true xs ys f g = f
  if_so false xs ys f g = g

  sends_so : (ms : List Message) → AllSo (sends_all ms)
  sends_so [] = tt
  sends_so (m ∷ ms) = (tt, sends_so ms)

  tells_so : (v : RmEvent) (k : Key) (rms : List Name) → AllSo (tells v k rms)
  tells_so v k [] = tt
  tells_so v k (rm ∷ rms) = (tt, tells_so v k rms)

  ended_so : (b : Branch) (s : State) (reason : Option Reason) → AllSo (ended b s reason)
  ended_so b Ending reason = (tt, tt)
  ended_so b _ reason = tt

  ended_here : (b : Branch) → IsEnding b → (reason : Option Reason) → b.key.serial ≡ x → In (Prints (Ended x reason)) (ended b b.state reason)
  ended_here b h reason e =
      let k = h e in
      subst (λ (t : Id). In (Prints (Ended t reason)) (ended b b.state reason)) (ap (λ (j : Key). j.tid) k.0) (subst (λ (s : State). In (Prints (Ended b.key.tid reason)) (ended b s reason)) (sym k.1) (inl refl))

  -- one in another state is not it
  never : (b : Branch) → IsEnding b → (s : State) → b.state ≡ s → is_ending s ≡ false → b.key.serial ≡ x → ⊥
  never b h s is off e = both_ways (is_ending s) off (ap is_ending (sym is ∙ (h e).1))

  aborts_so : (cs : List Child) (why : Reason) (b : Branch) → IsEnding b → AllSo (aborts_telling cs why b)
  aborts_so cs why b h = (
    λ e. in_right (Prints (Ended x (Some why))) (sends_all (told_abort b.key.tid cs)) (tells AbortEvent b.key (interested b.managers) ++ ended b b.state (Some why))
        (in_right (Prints (Ended x (Some why))) (tells AbortEvent b.key (interested b.managers)) (ended b b.state (Some why)) (ended_here b h (Some why) e)),
    append_so (sends_all (told_abort b.key.tid cs)) (tells AbortEvent b.key (interested b.managers) ++ ended b b.state (Some why)) (sends_so (told_abort b.key.tid cs))
        (append_so (tells AbortEvent b.key (interested b.managers)) (ended b b.state (Some why)) (tells_so AbortEvent b.key (interested b.managers)) (ended_so b b.state (Some why))),
  )

  undone_so : (why : Reason) (b : Branch) → (b.key.serial ≡ x → ⊥) → AllSo (undone_quietly why b)
  undone_so why b other = (λ e. absurd (other e), tells_so AbortEvent b.key (interested b.managers))

  refuses_so : (why : Reason) (b : Branch) → (b.key.serial ≡ x → ⊥) → AllSo (refuses why b)
  refuses_so why b other = (λ e. absurd (other e), (tt, tells_so AbortEvent b.key (interested b.managers)))

  commits_so : (b : Branch) (shown : List Act) → (b.key.serial ≡ x → In (Prints (Ended x None)) shown) → AllSo shown → AllSo (commits_if_all b shown)
  commits_so b shown h g = if_so (all_voted b.accepted && all_replied b.managers) (commits b shown) [] (
    λ e. in_right (Prints (Ended x None)) (sends_all (to_each Commit b.key.tid (yes_of b.accepted))) (tells CommitEvent b.key (holding b.managers) ++ shown) (in_right (Prints (Ended x None)) (tells CommitEvent b.key (holding b.managers)) shown (h e)),
    append_so (sends_all (to_each Commit b.key.tid (yes_of b.accepted))) (tells CommitEvent b.key (holding b.managers) ++ shown) (sends_so (to_each Commit b.key.tid (yes_of b.accepted)))
        (append_so (tells CommitEvent b.key (holding b.managers)) shown (tells_so CommitEvent b.key (holding b.managers)) g),
  ) tt

  casts_so : (b : Branch) → (b.key.serial ≡ x → ⊥) → AllSo (casts_if_all b)
  casts_so b other = if_so (all_replied b.managers) (casts b) [] (if_so (b.changed || not (is_empty (holding b.managers))) (Prepares b ∷ (Sends (up Yes b.key) ∷ [])) (Leaves b.key ∷ (Sends (up ReadOnly b.key) ∷ [])) (other, (tt, tt)) (tt, (tt, tt))) tt

  votes_so : (b : Branch) → (b.key.serial ≡ x → ⊥) → AllSo (begins_vote b)
  votes_so b other = (λ e. absurd (other e), append_so (tells PrepareEvent b.key (joined b.managers)) (casts_if_all (voting b)) (tells_so PrepareEvent b.key (joined b.managers)) (casts_so (voting b) other))

  -- what is found of a row's branch
  abbrev FoundSo : Option Branch → Type 0
  FoundSo o = (b : Branch) → o ≡ Some b → IsEnding b

  join_so : (m : Message) (o : Option Branch) → FoundSo o → AllSo (join_row m o)
  join_so m None h = (tt, tt)
  join_so m (Some b) h = go b.state m.bid
    where
      go : (s : State) (bid : Option Id) → AllSo (join_state m b s bid)
      go Active (Some bid) = if_so (joined_as bid m.serial b.accepted) (grants_join m)
          (if list_any (λ y. same_id y bid) b.bids && not (has_bid bid b.accepted) then Accepts b (record { bid = bid; serial = m.serial; vote = None }) ∷ grants_join m else refuses_join m) (tt, tt)
          (if_so (list_any (λ y. same_id y bid) b.bids && not (has_bid bid b.accepted)) (Accepts b (record { bid = bid; serial = m.serial; vote = None }) ∷ grants_join m) (refuses_join m) (h b refl, (tt, tt)) (tt, tt))
      go Ending (Some bid) = if_so (joined_as bid m.serial b.accepted) (grants_join m) (refuses_join m) (tt, tt) (tt, tt)
      go Active None = (tt, tt)
      go Ending None = (tt, tt)
      go Joining bid = (tt, tt)
      go Voting bid = (tt, tt)
      go Prepared bid = (tt, tt)

  join_ok_so : (o : Option Branch) → FoundSo o → AllSo (join_ok_row o)
  join_ok_so None h = tt
  join_ok_so (Some b) h = go b.state refl
    where
      go : (s : State) → b.state ≡ s → AllSo (join_ok_state b s)
      go Joining e = (λ q. absurd (never b (h b refl) Joining e refl q), (tt, tt))
      go _ e = tt

  join_no_so : (o : Option Branch) → FoundSo o → AllSo (join_no_row o)
  join_no_so None h = tt
  join_no_so (Some b) h = go b.state refl
    where
      go : (s : State) → b.state ≡ s → AllSo (join_no_state b s)
      go Joining e = undone_so SyncFail b (never b (h b refl) Joining e refl)
      go Active e = undone_so SyncFail b (never b (h b refl) Active e refl)
      go Voting e = undone_so SyncFail b (never b (h b refl) Voting e refl)
      go Ending e = tt
      go Prepared e = tt

  prepare_so : (m : Message) (o : Option Branch) → FoundSo o → AllSo (prepare_row m o)
  prepare_so m None h = (tt, tt)
  prepare_so m (Some b) h = go b.state refl
    where
      asked_votes : (b.key.serial ≡ x → ⊥) → AllSo (votes_if_ended b)
      asked_votes other = if_so b.ended (begins_vote (asked_branch b)) [] (votes_so (asked_branch b) other) tt

      go : (s : State) → b.state ≡ s → AllSo (prepare_state b s)
      go Joining e = let other = never b (h b refl) Joining e refl in (λ q. absurd (other q), (tt, asked_votes other))
      go Active e = let other = never b (h b refl) Active e refl in (λ q. absurd (other q), asked_votes other)
      go Prepared e = (tt, tt)
      go Ending e = tt
      go Voting e = tt

  vote_so : (s : Id) (v : Kind) (o : Option Branch) → FoundSo o → AllSo (vote_row s v o)
  vote_so s v None h = tt
  vote_so s v (Some b) h = go b.state
    where
      go : (z : State) → AllSo (vote_state s v b z)
      go Ending = if_so (list_any (λ c. lacks_vote s c) b.accepted) (Notes (with_vote s v b) ∷ commits_if_all (with_vote s v b) (ended b b.state None)) []
          (h b refl, commits_so (with_vote s v b) (ended b b.state None) (ended_here b (h b refl) None) (ended_so b b.state None)) tt
      go Joining = tt
      go Active = tt
      go Voting = tt
      go Prepared = tt

  no_so : (s : Id) (o : Option Branch) → FoundSo o → AllSo (no_row s o)
  no_so s None h = tt
  no_so s (Some b) h = go b.state
    where
      aborted : AllSo (refused s b)
      aborted = if_so (has_serial s b.accepted) (aborts_telling (others s b.accepted) Vetoed b) [] (aborts_so (others s b.accepted) Vetoed b (h b refl)) tt

      go : (z : State) → AllSo (no_state s b z)
      go Active = aborted
      go Ending = aborted
      go _ = tt

  commit_so : (m : Message) (o : Option Branch) → FoundSo o → AllSo (commit_row m o)
  commit_so m None h = (tt, tt)
  commit_so m (Some b) h = go b.state refl
    where
      go : (s : State) → b.state ≡ s → AllSo (commit_state b s)
      go Prepared e = (λ q. absurd (never b (h b refl) Prepared e refl q), (tt, tells_so CommitEvent b.key (holding b.managers)))
      go _ e = tt

  abort_so : (o : Option Branch) → FoundSo o → AllSo (abort_row o)
  abort_so None h = tt
  abort_so (Some b) h = go b.state refl
    where
      go : (s : State) → b.state ≡ s → AllSo (abort_state b s)
      go Ending e = tt
      go Joining e = undone_so Aborted b (never b (h b refl) Joining e refl)
      go Active e = undone_so Aborted b (never b (h b refl) Active e refl)
      go Voting e = undone_so Aborted b (never b (h b refl) Voting e refl)
      go Prepared e = undone_so Aborted b (never b (h b refl) Prepared e refl)

  inquire_so : (m : Message) (o : Option Branch) (rs : List LogRecord) → AllSo (inquire_row m o rs)
  inquire_so m o rs = if_so (list_any (λ r. same_id r.tid m.tid) rs) (Sends (down Commit (key_of m)) ∷ []) (answer m o) (tt, tt) (answers o)
    where
      by_state : (b : Branch) (s : State) → AllSo (answer_state m b s)
      by_state b Prepared = (tt, tt)
      by_state b _ = tt

      answers : (o : Option Branch) → AllSo (answer m o)
      answers None = (tt, tt)
      answers (Some b) = by_state b b.state

  authorise_so : (bid : Id) (o : Option Branch) → FoundSo o → AllSo (authorise_row bid o)
  authorise_so bid None h = tt
  authorise_so bid (Some b) h = go b.state
    where
      go : (s : State) → AllSo (authorise_state bid b s)
      go Active = (h b refl, tt)
      go _ = tt

  end_trans_so : (o : Option Branch) → FoundSo o → AllSo (end_trans_row o)
  end_trans_so None h = tt
  end_trans_so (Some b) h = go b.state refl
    where
      go : (s : State) → b.state ≡ s → AllSo (end_trans_state b s)
      go Active e =
          let other = never b (h b refl) Active e refl in
          if_so (all_taken b.bids b.accepted) (begins_ending b) (aborts SyncFail b) (
            λ q. absurd (other q),
            append_so (sends_all (to_each Prepare b.key.tid (serials b.accepted))) (tells (which_event b.changed b.accepted b.managers) b.key (joined b.managers) ++ commits_if_all (ending b) []) (sends_so (to_each Prepare b.key.tid (serials b.accepted)))
                (append_so (tells (which_event b.changed b.accepted b.managers) b.key (joined b.managers)) (commits_if_all (ending b) []) (tells_so (which_event b.changed b.accepted b.managers) b.key (joined b.managers)) (commits_so (ending b) [] (λ q. absurd (other q)) tt)),
          ) (aborts_so b.accepted SyncFail b (h b refl))
      go _ e = tt

  end_branch_so : (o : Option Branch) → FoundSo o → AllSo (end_branch_row o)
  end_branch_so None h = tt
  end_branch_so (Some b) h = go b.state refl
    where
      go : (s : State) → b.state ≡ s → AllSo (end_branch_state b s)
      go Active e = (h b refl, if_so b.asked (begins_vote (ended_branch b)) [] (votes_so (ended_branch b) (never b (h b refl) Active e refl)) tt)
      go _ e = tt

  note_so : (f : Branch → Branch) → ((b : Branch) → IsEnding b → IsEnding (f b)) → (o : Option Branch) → FoundSo o → AllSo (note_row f o)
  note_so f g None h = tt
  note_so f g (Some b) h = go b.state
    where
      go : (s : State) → AllSo (note_state f b s)
      go Active = (g b (h b refl), tt)
      go _ = tt

  asks_so : (o : Option Branch) → AllSo (asks_row o)
  asks_so None = tt
  asks_so (Some b) = go b.state
    where
      go : (s : State) → AllSo (asks_state b s)
      go Prepared = (tt, tt)
      go _ = tt

  by_state_so : (why : Reason) (b : Branch) → IsEnding b → AllSo (abort_by_state why b b.state)
  by_state_so why b h = go b.state
    where
      running : AllSo (abort_running why b)
      running = by (is_first b) refl
        where
          by : (t : Bool) → is_first b ≡ t → AllSo (if t then aborts why b else refuses why b)
          by true e = aborts_so b.accepted why b h
          by false e = refuses_so why b (λ q. let k = (h q).0 in both_ways (is_first b) e (ap (λ (j : Key). same_key j (first j.tid)) k ∙ same_key-refl (first x)))

      go : (s : State) → AllSo (abort_by_state why b s)
      go Prepared = tt
      go Joining = running
      go Active = running
      go Ending = running
      go Voting = running

  abort_branch_so : (why : Reason) (o : Option Branch) → FoundSo o → AllSo (abort_branch_row why o)
  abort_branch_so why None h = tt
  abort_branch_so why (Some b) h = by_state_so why b (h b refl)

  reply_so : (s : Id) (rm : Name) (r : Reply) (o : Option Branch) (rs : List LogRecord) → FoundSo o → AllSo (reply_row s rm r o rs)
  reply_so s rm r None rs h = if_so (is_forget r && list_any (λ q. holds s rm q) rs) (Releases s rm ∷ []) [] (tt, tt) tt
  reply_so s rm r (Some b) rs h = go b.state refl
    where
      at_first : AllSo (first_reply rm r b)
      at_first = if_so (is_veto r) (aborts Vetoed (with_reply rm r b)) (Notes (with_reply rm r b) ∷ commits_if_all (with_reply rm r b) (ended b b.state None)) (aborts_so b.accepted Vetoed (with_reply rm r b) (h b refl))
          (h b refl, commits_so (with_reply rm r b) (ended b b.state None) (ended_here b (h b refl) None) (ended_so b b.state None))

      at_other : (b.key.serial ≡ x → ⊥) → AllSo (branch_reply rm r b)
      at_other other = if_so (is_veto r) (refuses Vetoed (with_reply rm r b)) (Notes (with_reply rm r b) ∷ casts_if_all (with_reply rm r b)) (refuses_so Vetoed (with_reply rm r b) other) (h b refl, casts_so (with_reply rm r b) other)

      go : (z : State) → b.state ≡ z → AllSo (reply_state rm r b z)
      go Ending e = if_so (is_first b) (first_reply rm r b) [] at_first tt
      go Voting e = if_so b.asked (branch_reply rm r b) [] (at_other (never b (h b refl) Voting e refl)) tt
      go Joining e = tt
      go Active e = tt
      go Prepared e = tt

  sweep_so : (why : Reason) (chosen : Branch → Bool) (bs : List Branch) → ((b : Branch) → In b bs → IsEnding b) → AllSo (sweep why chosen bs)
  sweep_so why chosen [] h = tt
  sweep_so why chosen (b ∷ bs) h = append_so (aborted_if (chosen b) why b) (sweep why chosen bs) (go (chosen b)) (sweep_so why chosen bs (λ y i. h y (inr i)))
    where
      go : (t : Bool) → AllSo (aborted_if t why b)
      go true = by_state_so why b (h b (inl refl))
      go false = tt

  -- no branch of this serial begins by the event
  abbrev pub BeginsOther : Event → Type 0
  BeginsOther (Start t due) = t ≡ x → ⊥
  BeginsOther (Begin t s bid) = s ≡ x → ⊥
  BeginsOther _ = Unit {0}

  pub row_so : (tm : Tm) (e : Event) → BeginsOther e → ((b : Branch) → In b tm.table → IsEnding b) → AllSo (row tm e)
  row_so tm e other h = go e other
    where
      at : (k : Key) → FoundSo (find k tm.table)
      at k b is = h b (find_in k tm.table b is)

      of : (s : Id) → FoundSo (find_serial s tm.table)
      of s b is = h b (serial_in s tm.table b is)

      message : (m : Message) (d : Kind) → AllSo (got tm m d)
      message m Join = join_so m (find (first m.tid) tm.table) (at (first m.tid))
      message m JoinOk = join_ok_so (find (key_of m) tm.table) (at (key_of m))
      message m JoinNo = join_no_so (find (key_of m) tm.table) (at (key_of m))
      message m Prepare = prepare_so m (find (key_of m) tm.table) (at (key_of m))
      message m Yes = vote_so m.serial Yes (find (first m.tid) tm.table) (at (first m.tid))
      message m ReadOnly = vote_so m.serial ReadOnly (find (first m.tid) tm.table) (at (first m.tid))
      message m No = no_so m.serial (find (first m.tid) tm.table) (at (first m.tid))
      message m Commit = commit_so m (find (key_of m) tm.table) (at (key_of m))
      message m Abort = abort_so (find (key_of m) tm.table) (at (key_of m))
      message m Ack = if_so (list_any (λ r. waits_for (key_of m) r) tm.records) (Acknowledges (key_of m) ∷ []) [] (tt, tt) tt
      message m Inquire = inquire_so m (find (first m.tid) tm.table) tm.records

      go : (e : Event) → BeginsOther e → AllSo (row tm e)
      go (Start t due) never_it = (λ q. absurd (never_it q), tt)
      go (Authorise t bid) never_it = authorise_so bid (find (first t) tm.table) (at (first t))
      go (Begin t s bid) never_it = (λ q. absurd (never_it q), (tt, tt))
      go (JoinRm s rm) never_it = note_so (with_manager rm) (λ b k. k) (find_serial s tm.table) (of s)
      go (Changed s) never_it = note_so has_changed (λ b k. k) (find_serial s tm.table) (of s)
      go (EndTrans t) never_it = end_trans_so (find (first t) tm.table) (at (first t))
      go (EndBranch s) never_it = end_branch_so (find_serial s tm.table) (of s)
      go (AbortBranch s why) never_it = abort_branch_so why (find_serial s tm.table) (of s)
      go (Replied s rm r) never_it = reply_so s rm r (find_serial s tm.table) tm.records (of s)
      go (Got m) never_it = message m m.kind
      go (Clock now) never_it = sweep_so Timeout (is_due now) tm.table h
      go (LinkDown other_node) never_it = append_so (sweep CommFail (is_cut_off other_node) tm.table) (sweep CommFail (is_under other_node) tm.table) (sweep_so CommFail (is_cut_off other_node) tm.table h) (sweep_so CommFail (is_under other_node) tm.table h)
      go RunDown never_it = append_so (sweep SegFail is_first tm.table) (sweep SegFail is_other tm.table) (sweep_so SegFail is_first tm.table h) (sweep_so SegFail is_other tm.table h)
      go (InquireBranch s) never_it = asks_so (find_serial s tm.table)
