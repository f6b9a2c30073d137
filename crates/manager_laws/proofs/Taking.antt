-- What the rows of the table do to branches of which something holds: what they note and prepare has it too, and what they commit or let go has it and lacks nothing.
use Rattle.std.proofs.Common.{◌≡◌, ◌⊎◌, Bool, true, false, not, ◌&&◌, ◌||◌, List, [], ◌∷◌, ◌++◌, inl, inr, Option, Some, None, if◌then◌else◌, refl, sym, ◌∙◌, ap, subst}
use Rattle.std.specs.List.{list_any}
use Rattle.std.proofs.lemmas.Bool.{and_parts}
use Rattle.vms_model.specs.Ids.{Id}
use Rattle.vms_model.specs.Transactions.{Commit as ToCommit, Abort as ToAbort, Reason, Vetoed, SyncFail, Timeout, CommFail, SegFail, Aborted}
use Rattle.commit_protocol.specs.Messages.{Name, Kind, Join, JoinOk, JoinNo, Prepare, Yes, ReadOnly, No, Commit, Abort, Ack, Inquire, Message, RmEvent, PrepareEvent, CommitEvent, AbortEvent, OnePhaseEvent, Reply, LogRecord, same_id, same_name}
use Rattle.commit_protocol.specs.Table.{Key, Branch, State, Joining, Active, Ending, Voting, Prepared, Child, Manager, Act, Notes, Accepts, Prepares, Settles, Leaves, Acknowledges, Releases, Sends, Prints, Told, Tm, first, key_of, is_first, find, find_serial, waits_for, holds, holding, replied_prepared}
use Rattle.commit_protocol.specs.Rows.{owing, down, up, sends_all, to_each, tells, joined, has_left, interested, serials, yes_of, all_voted, all_replied, blank, has_bid, has_serial, asks, others, all_taken, joined_as, ended, told_abort, aborts_telling, aborts, undone_quietly, refuses, commits, commits_if_all, refuses_join, grants_join, join_state, join_row, join_ok_state, join_ok_row, join_no_state, join_no_row, which_event, ending, begins_ending, end_trans_state, end_trans_row, abort_running, abort_by_state, abort_branch_row, authorise_state, authorise_row, lacks_vote, with_vote, vote_state, vote_row, refused, no_state, no_row, answer_state, answer, inquire_row, is_empty, casts, casts_if_all, voting, begins_vote, asked_branch, votes_if_ended, prepare_state, prepare_row, ended_branch, end_branch_state, end_branch_row, commit_state, commit_row, abort_state, abort_row, note_reply, with_reply, is_veto, is_forget, first_reply, branch_reply, reply_state, reply_row, note_state, has_changed, note_row, with_manager, asks_state, asks_row, aborted_if, sweep, is_due, is_cut_off, is_under, is_other, got, row, Event, Start, Authorise, Begin, JoinRm, Changed, EndTrans, EndBranch, AbortBranch, Replied, Got, Clock, LinkDown, RunDown, InquireBranch}
use Rattle.commit_protocol.specs.Allowed.{is_prepared}
use Rattle.commit_protocol.specs.World.{In}
use Rattle.commit_protocol.proofs.Lists.{find-key, find_serial-serial}
use Rattle.world_laws.proofs.TableLemmas.{found_in}
use Rattle.world_laws.proofs.run_model.NodeLists.{some_is}

serial_in : (s : Id) (bs : List Branch) (b : Branch) → find_serial s bs ≡ Some b → In b bs
serial_in s [] b e = let no : ⊥ = cc in absurd no
serial_in s (x ∷ bs) b e = go (same_id x.key.serial s) e (serial_in s bs b)
  where
    go : (t : Bool) → ◌≡◌ {A = Option Branch} (if t then Some x else find_serial s bs) (Some b) → (find_serial s bs ≡ Some b → In b bs) → In b (x ∷ bs)
    go true f more = inl (sym (some_is x b f))
    go false f more = inr (more f)

-- it is prepared, or neither a vote nor a reply is missing
abbrev pub LacksNothing : Branch → Type 0
LacksNothing b = (is_prepared b.state ≡ true) ⊎ ((all_voted b.accepted ≡ true) × (all_replied b.managers ≡ true))

-- an event that asks a manager for its reply
abbrev pub IsAsking : RmEvent → Type 0
IsAsking e = (e ≡ PrepareEvent) ⊎ (e ≡ OnePhaseEvent)

which_asks : (changed : Bool) (cs : List Child) (ms : List Manager) → IsAsking (which_event changed cs ms)
which_asks true cs ms = inl refl
which_asks false (c ∷ cs) ms = inl refl
which_asks false [] [] = inl refl
which_asks false [] (m ∷ []) = inr refl
which_asks false [] (m ∷ x ∷ ms) = inl refl

-- What holds of a branch holds of one that its node notes in its place: where its managers, its accepted serials and its key are the same, and it is not ending; where its
-- managers are asked; where a serial is accepted; where it is prepared, for which each manager has replied; and where it has changed something.
pub record IsSteady (P : Branch → Type 0) : Type 0 where
  pub alike : (b x : Branch) → is_prepared b.state ≡ false → is_prepared x.state ≡ false → (b.state ≡ Ending → ⊥) → x.key ≡ b.key → x.managers ≡ b.managers → x.accepted ≡ b.accepted → P b → P x
  pub asked : (b x : Branch) (e : RmEvent) → IsAsking e → (e ≡ OnePhaseEvent → x.state ≡ Ending) → is_prepared b.state ≡ false → is_prepared x.state ≡ false → x.key ≡ b.key → x.managers ≡ asks e b.managers → x.accepted ≡ b.accepted → P b → P x
  pub accepts : (b : Branch) (c : Child) → P b → P (record b { accepted = b.accepted ++ c ∷ [] })
  pub prepares : (b : Branch) → all_replied b.managers ≡ true → P b → P (record b { state = Prepared })
  pub changed : (b : Branch) → P b → P (record b { changed = true })

-- a record is that of the branch
abbrev pub IsRecordOf : Key → Option LogRecord → Type 0
IsRecordOf k None = Unit {0}
IsRecordOf k (Some r) = (r.tid ≡ k.tid) × (r.serial ≡ k.serial)

-- it waits for managers of the branch alone
abbrev pub AreOwed : Branch → Option LogRecord → Type 0
AreOwed b None = Unit {0}
AreOwed b (Some r) = (x : Name) → In x r.rms → In x (joined b.managers)

module _ (P : Branch → Type 0) where
  -- what an act notes, prepares, commits and lets go, and of which branches it tells managers
  abbrev pub HoldsIn : Act → Type 0
  HoldsIn (Notes b) = P b
  HoldsIn (Accepts b c) = P b
  HoldsIn (Prepares b) = P b × (all_replied b.managers ≡ true)
  HoldsIn (Settles k ToCommit reason r) = (b : Branch) × P b × (b.key ≡ k) × LacksNothing b × IsRecordOf k r × AreOwed b r
  HoldsIn (Settles k ToAbort reason r) = r ≡ None
  HoldsIn (Leaves k) = (b : Branch) × P b × (b.key ≡ k) × (all_replied b.managers ≡ true) × (b.state ≡ Voting) × (is_empty (holding b.managers) ≡ true)
  HoldsIn (Prints (Told v k x)) = (b : Branch) × P b × (b.key ≡ k) × In x (joined b.managers)
  HoldsIn _ = Unit {0}

  abbrev pub AllHold : List Act → Type 0
  AllHold [] = Unit {0}
  AllHold (a ∷ acts) = HoldsIn a × AllHold acts

  -- what an event makes of branches besides: it begins one, or notes a manager, a reply or a vote
  abbrev pub VoteHolds : List Branch → Message → Kind → Type 0
  VoteHolds bs m Yes = (b : Branch) → In b bs → b.key ≡ first m.tid → P b → P (with_vote m.serial Yes b)
  VoteHolds bs m ReadOnly = (b : Branch) → In b bs → b.key ≡ first m.tid → P b → P (with_vote m.serial ReadOnly b)
  VoteHolds bs m _ = Unit {0}

  abbrev pub EventHolds : List Branch → Event → Type 0
  EventHolds bs (Start t due) = P (blank t t None Active due)
  EventHolds bs (Begin t s bid) = P (blank t s (Some bid) Joining None)
  EventHolds bs (JoinRm s x) = (b : Branch) → In b bs → b.key.serial ≡ s → b.state ≡ Active → P b → P (with_manager x b)
  EventHolds bs (Replied s x r) = (b : Branch) → In b bs → b.key.serial ≡ s → is_veto r ≡ false → P b → P (with_reply x r b)
  EventHolds bs (Got m) = VoteHolds bs m m.kind
  EventHolds bs _ = Unit {0}

owing_of : (k : Key) (ss : List Id) (xs : List Name) → IsRecordOf k (owing k ss xs)
owing_of k [] [] = tt
owing_of k [] (x ∷ xs) = (refl, refl)
owing_of k (s ∷ ss) xs = (refl, refl)

-- managers that are owed something, or hear of an abort, are managers of the branch
pub held_joined : (ms : List Manager) (x : Name) → In x (holding ms) → In x (joined ms)
held_joined [] x i = absurd i
held_joined (m ∷ ms) x i = go (replied_prepared m.reply) i (held_joined ms x)
  where
    go : (t : Bool) → In x (if t then m.rm ∷ holding ms else holding ms) → (In x (holding ms) → In x (joined ms)) → In x (m.rm ∷ joined ms)
    go true (inl same) more = inl same
    go true (inr j) more = inr (more j)
    go false j more = inr (more j)

interested_joined : (ms : List Manager) (x : Name) → In x (interested ms) → In x (joined ms)
interested_joined [] x i = absurd i
interested_joined (m ∷ ms) x i = go (has_left m.reply) i (interested_joined ms x)
  where
    go : (t : Bool) → In x (if t then interested ms else m.rm ∷ interested ms) → (In x (interested ms) → In x (joined ms)) → In x (m.rm ∷ joined ms)
    go true j more = inr (more j)
    go false (inl same) more = inl same
    go false (inr j) more = inr (more j)

pub asked_names : (e : RmEvent) (ms : List Manager) → joined (asks e ms) ≡ joined ms
asked_names e [] = refl
asked_names e (m ∷ ms) = ap (λ xs. m.rm ∷ xs) (asked_names e ms)

pub noted_names : (x : Name) (r : Reply) (ms : List Manager) → joined (note_reply x r ms) ≡ joined ms
noted_names x r [] = refl
noted_names x r (m ∷ ms) = go (same_name m.rm x) (noted_names x r ms)
  where
    go : (b : Bool) → joined (note_reply x r ms) ≡ joined ms → joined (if b then record m { event = None; reply = Some r } ∷ ms else m ∷ note_reply x r ms) ≡ m.rm ∷ joined ms
    go true more = refl
    go false more = ap (λ xs. m.rm ∷ xs) more

owing_held : (b : Branch) (ss : List Id) → AreOwed b (owing b.key ss (holding b.managers))
owing_held b ss = go ss (holding b.managers) (held_joined b.managers)
  where
    go : (ss : List Id) (xs : List Name) → ((x : Name) → In x xs → In x (joined b.managers)) → AreOwed b (owing b.key ss xs)
    go [] [] h = tt
    go [] (x ∷ xs) h = h
    go (s ∷ ss) xs h = h

-- a branch that joins or is active is not ending
joining_on : (b : Branch) → b.state ≡ Joining → b.state ≡ Ending → ⊥
joining_on b e q = let no : Joining ≡ Ending = sym e ∙ q in let none : ⊥ = cc in none

active_on : (b : Branch) → b.state ≡ Active → b.state ≡ Ending → ⊥
active_on b e q = let no : Active ≡ Ending = sym e ∙ q in let none : ⊥ = cc in none

not_one : {X : Type 0} → PrepareEvent ≡ OnePhaseEvent → X
not_one e = let no : ⊥ = cc in absurd no

none_held : (a c : Bool) → (a || not c) ≡ false → c ≡ true
none_held false true e = refl
none_held false false e = let no : ⊥ = cc in absurd no
none_held true c e = let no : ⊥ = cc in absurd no

module _ (P : Branch → Type 0) (steady : IsSteady P) where
  abbrev FoundSo : Option Branch → Type 0
  FoundSo o = (b : Branch) → o ≡ Some b → P b

  if_hold : (t : Bool) (x y : List Act) → (t ≡ true → AllHold P x) → (t ≡ false → AllHold P y) → AllHold P (if t then x else y)
  if_hold true x y f g = f refl
  if_hold false x y f g = g refl

  append_hold : (xs ys : List Act) → AllHold P xs → AllHold P ys → AllHold P (xs ++ ys)
  append_hold [] ys f g = g
  append_hold (a ∷ xs) ys f g = (f.0, append_hold xs ys f.1 g)

  sends_hold : (ms : List Message) → AllHold P (sends_all ms)
  sends_hold [] = tt
  sends_hold (m ∷ ms) = (tt, sends_hold ms)

  -- such a branch has the key and the managers of this one
  abbrev Stands : Branch → Type 0
  Stands b = (y : Branch) × P y × (y.key ≡ b.key) × (joined y.managers ≡ joined b.managers)

  itself : (b : Branch) → P b → Stands b
  itself b h = (b, h, refl, refl)

  tells_hold : (v : RmEvent) (b : Branch) → Stands b → (xs : List Name) → ((x : Name) → In x xs → In x (joined b.managers)) → AllHold P (tells v b.key xs)
  tells_hold v b y [] f = tt
  tells_hold v b y (x ∷ xs) f = ((y.0, y.1, y.2, subst (In x) (sym y.3) (f x (inl refl))), tells_hold v b y xs (λ z i. f z (inr i)))

  ended_hold : (b : Branch) (s : State) (reason : Option Reason) → AllHold P (ended b s reason)
  ended_hold b Ending reason = (tt, tt)
  ended_hold b _ reason = tt

  aborts_hold : (cs : List Child) (why : Reason) (b : Branch) → Stands b → AllHold P (aborts_telling cs why b)
  aborts_hold cs why b y = (
    refl,
    append_hold (sends_all (told_abort b.key.tid cs)) (tells AbortEvent b.key (interested b.managers) ++ ended b b.state (Some why)) (sends_hold (told_abort b.key.tid cs))
        (append_hold (tells AbortEvent b.key (interested b.managers)) (ended b b.state (Some why)) (tells_hold AbortEvent b y (interested b.managers) (interested_joined b.managers)) (ended_hold b b.state (Some why))),
  )

  undone_hold : (why : Reason) (b : Branch) → Stands b → AllHold P (undone_quietly why b)
  undone_hold why b y = (refl, tells_hold AbortEvent b y (interested b.managers) (interested_joined b.managers))

  refuses_hold : (why : Reason) (b : Branch) → Stands b → AllHold P (refuses why b)
  refuses_hold why b y = (refl, (tt, tells_hold AbortEvent b y (interested b.managers) (interested_joined b.managers)))

  commits_hold : (b : Branch) (shown : List Act) → P b → AllHold P shown → AllHold P (commits_if_all b shown)
  commits_hold b shown p h = if_hold (all_voted b.accepted && all_replied b.managers) (commits b shown) [] (λ t. (
    (b, p, refl, inr (and_parts (all_voted b.accepted) (all_replied b.managers) t), owing_of b.key (yes_of b.accepted) (holding b.managers), owing_held b (yes_of b.accepted)),
    append_hold (sends_all (to_each Commit b.key.tid (yes_of b.accepted))) (tells CommitEvent b.key (holding b.managers) ++ shown) (sends_hold (to_each Commit b.key.tid (yes_of b.accepted)))
        (append_hold (tells CommitEvent b.key (holding b.managers)) shown (tells_hold CommitEvent b (itself b p) (holding b.managers) (held_joined b.managers)) h),
  )) (λ t. tt)

  casts_hold : (b : Branch) → b.state ≡ Voting → P b → AllHold P (casts_if_all b)
  casts_hold b s h = if_hold (all_replied b.managers) (casts b) [] (λ t. if_hold (b.changed || not (is_empty (holding b.managers))) (Prepares b ∷ (Sends (up Yes b.key) ∷ [])) (Leaves b.key ∷ (Sends (up ReadOnly b.key) ∷ []))
      (λ u. ((h, t), (tt, tt))) (λ u. ((b, h, refl, t, s, none_held b.changed (is_empty (holding b.managers)) u), (tt, tt)))) (λ t. tt)

  votes_hold : (b : Branch) → P (voting b) → AllHold P (begins_vote b)
  votes_hold b h = (h, append_hold (tells PrepareEvent b.key (joined b.managers)) (casts_if_all (voting b)) (tells_hold PrepareEvent b (voting b, h, refl, asked_names PrepareEvent b.managers) (joined b.managers) (λ x i. i)) (casts_hold (voting b) refl h))

  join_hold : (m : Message) (o : Option Branch) → FoundSo o → AllHold P (join_row m o)
  join_hold m None h = (tt, tt)
  join_hold m (Some b) h = go b.state m.bid
    where
      go : (s : State) (o : Option Id) → AllHold P (join_state m b s o)
      go Active (Some bid) = if_hold (joined_as bid m.serial b.accepted) (grants_join m)
          (if list_any (λ x. same_id x bid) b.bids && not (has_bid bid b.accepted) then Accepts b (record { bid = bid; serial = m.serial; vote = None }) ∷ grants_join m else refuses_join m) (λ t. (tt, tt))
          (λ t. if_hold (list_any (λ x. same_id x bid) b.bids && not (has_bid bid b.accepted)) (Accepts b (record { bid = bid; serial = m.serial; vote = None }) ∷ grants_join m) (refuses_join m) (λ u. (h b refl, (tt, tt))) (λ u. (tt, tt)))
      go Ending (Some bid) = if_hold (joined_as bid m.serial b.accepted) (grants_join m) (refuses_join m) (λ t. (tt, tt)) (λ t. (tt, tt))
      go Active None = (tt, tt)
      go Ending None = (tt, tt)
      go Joining bid = (tt, tt)
      go Voting bid = (tt, tt)
      go Prepared bid = (tt, tt)

  join_ok_hold : (o : Option Branch) → FoundSo o → AllHold P (join_ok_row o)
  join_ok_hold None h = tt
  join_ok_hold (Some b) h = go b.state refl
    where
      go : (s : State) → b.state ≡ s → AllHold P (join_ok_state b s)
      go Joining e = (steady.alike b (record b { state = Active }) (ap is_prepared e) refl (joining_on b e) refl refl refl (h b refl), (tt, tt))
      go _ e = tt

  join_no_hold : (o : Option Branch) → FoundSo o → AllHold P (join_no_row o)
  join_no_hold None h = tt
  join_no_hold (Some b) h = go b.state
    where
      go : (s : State) → AllHold P (join_no_state b s)
      go Joining = undone_hold SyncFail b (itself b (h b refl))
      go Active = undone_hold SyncFail b (itself b (h b refl))
      go Voting = undone_hold SyncFail b (itself b (h b refl))
      go Ending = tt
      go Prepared = tt

  prepare_hold : (m : Message) (o : Option Branch) → FoundSo o → AllHold P (prepare_row m o)
  prepare_hold m None h = (tt, tt)
  prepare_hold m (Some b) h = go b.state refl
    where
      asked_so : is_prepared b.state ≡ false → (b.state ≡ Ending → ⊥) → P (asked_branch b)
      asked_so e off = steady.alike b (asked_branch b) e refl off refl refl refl (h b refl)

      asked_votes : is_prepared b.state ≡ false → (b.state ≡ Ending → ⊥) → AllHold P (votes_if_ended b)
      asked_votes e off = if_hold b.ended (begins_vote (asked_branch b)) [] (λ t. votes_hold (asked_branch b) (steady.asked (asked_branch b) (voting (asked_branch b)) PrepareEvent (inl refl) not_one refl refl refl refl refl (asked_so e off))) (λ t. tt)

      go : (s : State) → b.state ≡ s → AllHold P (prepare_state b s)
      go Joining e = (asked_so (ap is_prepared e) (joining_on b e), (tt, asked_votes (ap is_prepared e) (joining_on b e)))
      go Active e = (asked_so (ap is_prepared e) (active_on b e), asked_votes (ap is_prepared e) (active_on b e))
      go Prepared e = (tt, tt)
      go Ending e = tt
      go Voting e = tt

  vote_hold : (s : Id) (v : Kind) (o : Option Branch) → ((b : Branch) → o ≡ Some b → P (with_vote s v b)) → AllHold P (vote_row s v o)
  vote_hold s v None h = tt
  vote_hold s v (Some b) h = go b.state
    where
      go : (z : State) → AllHold P (vote_state s v b z)
      go Ending = if_hold (list_any (λ c. lacks_vote s c) b.accepted) (Notes (with_vote s v b) ∷ commits_if_all (with_vote s v b) (ended b b.state None)) []
          (λ t. (h b refl, commits_hold (with_vote s v b) (ended b b.state None) (h b refl) (ended_hold b b.state None))) (λ t. tt)
      go _ = tt

  no_hold : (s : Id) (o : Option Branch) → FoundSo o → AllHold P (no_row s o)
  no_hold s None h = tt
  no_hold s (Some b) h = go b.state
    where
      aborted : AllHold P (refused s b)
      aborted = if_hold (has_serial s b.accepted) (aborts_telling (others s b.accepted) Vetoed b) [] (λ t. aborts_hold (others s b.accepted) Vetoed b (itself b (h b refl))) (λ t. tt)

      go : (z : State) → AllHold P (no_state s b z)
      go Active = aborted
      go Ending = aborted
      go _ = tt

  commit_hold : (m : Message) (o : Option Branch) → FoundSo o → AllHold P (commit_row m o)
  commit_hold m None h = (tt, tt)
  commit_hold m (Some b) h = go b.state refl
    where
      go : (s : State) → b.state ≡ s → AllHold P (commit_state b s)
      go Prepared e = ((b, h b refl, refl, inl (ap is_prepared e), owing_of b.key [] (holding b.managers), owing_held b []), (tt, tells_hold CommitEvent b (itself b (h b refl)) (holding b.managers) (held_joined b.managers)))
      go _ e = tt

  abort_hold : (o : Option Branch) → FoundSo o → AllHold P (abort_row o)
  abort_hold None h = tt
  abort_hold (Some b) h = go b.state
    where
      go : (s : State) → AllHold P (abort_state b s)
      go Ending = tt
      go _ = undone_hold Aborted b (itself b (h b refl))

  inquire_hold : (m : Message) (o : Option Branch) (rs : List LogRecord) → AllHold P (inquire_row m o rs)
  inquire_hold m o rs = if_hold (list_any (λ r. same_id r.tid m.tid) rs) (Sends (down Commit (key_of m)) ∷ []) (answer m o) (λ t. (tt, tt)) (λ t. answers o)
    where
      by_state : (b : Branch) (s : State) → AllHold P (answer_state m b s)
      by_state b Prepared = (tt, tt)
      by_state b _ = tt

      answers : (o : Option Branch) → AllHold P (answer m o)
      answers None = (tt, tt)
      answers (Some b) = by_state b b.state

  authorise_hold : (bid : Id) (o : Option Branch) → FoundSo o → AllHold P (authorise_row bid o)
  authorise_hold bid None h = tt
  authorise_hold bid (Some b) h = go b.state refl
    where
      go : (s : State) → b.state ≡ s → AllHold P (authorise_state bid b s)
      go Active e = (steady.alike b (record b { bids = b.bids ++ bid ∷ [] }) (ap is_prepared e) (ap is_prepared e) (active_on b e) refl refl refl (h b refl), tt)
      go _ e = tt

  end_trans_hold : (o : Option Branch) → FoundSo o → AllHold P (end_trans_row o)
  end_trans_hold None h = tt
  end_trans_hold (Some b) h = go b.state refl
    where
      so : is_prepared b.state ≡ false → P (ending b)
      so e = steady.asked b (ending b) (which_event b.changed b.accepted b.managers) (which_asks b.changed b.accepted b.managers) (λ q. refl) e refl refl refl refl (h b refl)

      go : (s : State) → b.state ≡ s → AllHold P (end_trans_state b s)
      go Active e = if_hold (all_taken b.bids b.accepted) (begins_ending b) (aborts SyncFail b) (λ t. (
        so (ap is_prepared e),
        append_hold (sends_all (to_each Prepare b.key.tid (serials b.accepted))) (tells (which_event b.changed b.accepted b.managers) b.key (joined b.managers) ++ commits_if_all (ending b) []) (sends_hold (to_each Prepare b.key.tid (serials b.accepted)))
            (append_hold (tells (which_event b.changed b.accepted b.managers) b.key (joined b.managers)) (commits_if_all (ending b) []) (tells_hold (which_event b.changed b.accepted b.managers) b (itself b (h b refl)) (joined b.managers) (λ x i. i)) (commits_hold (ending b) [] (so (ap is_prepared e)) tt)),
      )) (λ t. aborts_hold b.accepted SyncFail b (itself b (h b refl)))
      go _ e = tt

  end_branch_hold : (o : Option Branch) → FoundSo o → AllHold P (end_branch_row o)
  end_branch_hold None h = tt
  end_branch_hold (Some b) h = go b.state refl
    where
      so : b.state ≡ Active → P (ended_branch b)
      so e = steady.alike b (ended_branch b) (ap is_prepared e) (ap is_prepared e) (active_on b e) refl refl refl (h b refl)

      go : (s : State) → b.state ≡ s → AllHold P (end_branch_state b s)
      go Active e = (
        so e,
        if_hold b.asked (begins_vote (ended_branch b)) [] (λ t. votes_hold (ended_branch b) (steady.asked (ended_branch b) (voting (ended_branch b)) PrepareEvent (inl refl) not_one (ap is_prepared e) refl refl refl refl (so e))) (λ t. tt),
      )
      go _ e = tt

  reply_hold : (s : Id) (x : Name) (r : Reply) (o : Option Branch) (rs : List LogRecord) → FoundSo o → ((b : Branch) → o ≡ Some b → is_veto r ≡ false → P (with_reply x r b)) → AllHold P (reply_row s x r o rs)
  reply_hold s x r None rs there h = if_hold (is_forget r && list_any (λ q. holds s x q) rs) (Releases s x ∷ []) [] (λ t. (tt, tt)) (λ t. tt)
  reply_hold s x r (Some b) rs there h = go b.state refl
    where
      stands : Stands (with_reply x r b)
      stands = (b, there b refl, refl, sym (noted_names x r b.managers))

      at_first : AllHold P (first_reply x r b)
      at_first = if_hold (is_veto r) (aborts Vetoed (with_reply x r b)) (Notes (with_reply x r b) ∷ commits_if_all (with_reply x r b) (ended b b.state None)) (λ t. aborts_hold b.accepted Vetoed (with_reply x r b) stands)
          (λ t. (h b refl t, commits_hold (with_reply x r b) (ended b b.state None) (h b refl t) (ended_hold b b.state None)))

      at_other : b.state ≡ Voting → AllHold P (branch_reply x r b)
      at_other e = if_hold (is_veto r) (refuses Vetoed (with_reply x r b)) (Notes (with_reply x r b) ∷ casts_if_all (with_reply x r b)) (λ t. refuses_hold Vetoed (with_reply x r b) stands) (λ t. (h b refl t, casts_hold (with_reply x r b) e (h b refl t)))

      go : (z : State) → b.state ≡ z → AllHold P (reply_state x r b z)
      go Ending e = if_hold (is_first b) (first_reply x r b) [] (λ t. at_first) (λ t. tt)
      go Voting e = if_hold b.asked (branch_reply x r b) [] (λ t. at_other e) (λ t. tt)
      go _ e = tt

  note_hold : (f : Branch → Branch) (o : Option Branch) → ((b : Branch) → o ≡ Some b → b.state ≡ Active → P (f b)) → AllHold P (note_row f o)
  note_hold f None h = tt
  note_hold f (Some b) h = go b.state refl
    where
      go : (s : State) → b.state ≡ s → AllHold P (note_state f b s)
      go Active e = (h b refl e, tt)
      go _ e = tt

  asks_hold : (o : Option Branch) → AllHold P (asks_row o)
  asks_hold None = tt
  asks_hold (Some b) = go b.state
    where
      go : (s : State) → AllHold P (asks_state b s)
      go Prepared = (tt, tt)
      go _ = tt

  running_hold : (why : Reason) (b : Branch) → P b → AllHold P (abort_running why b)
  running_hold why b h = if_hold (is_first b) (aborts why b) (refuses why b) (λ t. aborts_hold b.accepted why b (itself b h)) (λ t. refuses_hold why b (itself b h))

  by_state_hold : (why : Reason) (b : Branch) (s : State) → P b → AllHold P (abort_by_state why b s)
  by_state_hold why b Prepared h = tt
  by_state_hold why b _ h = running_hold why b h

  abort_branch_hold : (why : Reason) (o : Option Branch) → FoundSo o → AllHold P (abort_branch_row why o)
  abort_branch_hold why None h = tt
  abort_branch_hold why (Some b) h = by_state_hold why b b.state (h b refl)

  sweep_hold : (why : Reason) (chosen : Branch → Bool) (bs : List Branch) → ((b : Branch) → In b bs → P b) → AllHold P (sweep why chosen bs)
  sweep_hold why chosen [] h = tt
  sweep_hold why chosen (b ∷ bs) h = append_hold (aborted_if (chosen b) why b) (sweep why chosen bs) (go (chosen b)) (sweep_hold why chosen bs (λ x i. h x (inr i)))
    where
      go : (t : Bool) → AllHold P (aborted_if t why b)
      go true = by_state_hold why b b.state (h b (inl refl))
      go false = tt

  -- so it is of all that a row notes, prepares, commits and lets go
  pub row_holds : (tm : Tm) (e : Event) → ((b : Branch) → In b tm.table → P b) → EventHolds P tm.table e → AllHold P (row tm e)
  row_holds tm e h events = go e events
    where
      found : (k : Key) → FoundSo (find k tm.table)
      found k b f = h b (found_in k tm.table b f)

      found_serial : (s : Id) → FoundSo (find_serial s tm.table)
      found_serial s b f = h b (serial_in s tm.table b f)

      message : (m : Message) (d : Kind) → VoteHolds P tm.table m d → AllHold P (got tm m d)
      message m Join v = join_hold m (find (first m.tid) tm.table) (found (first m.tid))
      message m JoinOk v = join_ok_hold (find (key_of m) tm.table) (found (key_of m))
      message m JoinNo v = join_no_hold (find (key_of m) tm.table) (found (key_of m))
      message m Prepare v = prepare_hold m (find (key_of m) tm.table) (found (key_of m))
      message m Yes v = vote_hold m.serial Yes (find (first m.tid) tm.table) (λ b f. v b (found_in (first m.tid) tm.table b f) (find-key (first m.tid) tm.table b f) (found (first m.tid) b f))
      message m ReadOnly v = vote_hold m.serial ReadOnly (find (first m.tid) tm.table) (λ b f. v b (found_in (first m.tid) tm.table b f) (find-key (first m.tid) tm.table b f) (found (first m.tid) b f))
      message m No v = no_hold m.serial (find (first m.tid) tm.table) (found (first m.tid))
      message m Commit v = commit_hold m (find (key_of m) tm.table) (found (key_of m))
      message m Abort v = abort_hold (find (key_of m) tm.table) (found (key_of m))
      message m Ack v = if_hold (list_any (λ r. waits_for (key_of m) r) tm.records) (Acknowledges (key_of m) ∷ []) [] (λ t. (tt, tt)) (λ t. tt)
      message m Inquire v = inquire_hold m (find (first m.tid) tm.table) tm.records

      go : (e : Event) → EventHolds P tm.table e → AllHold P (row tm e)
      go (Start t due) v = (v, tt)
      go (Authorise t bid) v = authorise_hold bid (find (first t) tm.table) (found (first t))
      go (Begin t s bid) v = (v, (tt, tt))
      go (JoinRm s x) v = note_hold (with_manager x) (find_serial s tm.table) (λ b f active. v b (serial_in s tm.table b f) (find_serial-serial s tm.table b f) active (found_serial s b f))
      go (Changed s) v = note_hold has_changed (find_serial s tm.table) (λ b f active. steady.changed b (found_serial s b f))
      go (EndTrans t) v = end_trans_hold (find (first t) tm.table) (found (first t))
      go (EndBranch s) v = end_branch_hold (find_serial s tm.table) (found_serial s)
      go (AbortBranch s why) v = abort_branch_hold why (find_serial s tm.table) (found_serial s)
      go (Replied s x r) v = reply_hold s x r (find_serial s tm.table) tm.records (found_serial s) (λ b f plain. v b (serial_in s tm.table b f) (find_serial-serial s tm.table b f) plain (found_serial s b f))
      go (Got m) v = message m m.kind v
      go (Clock now) v = sweep_hold Timeout (is_due now) tm.table h
      go (LinkDown x) v = append_hold (sweep CommFail (is_cut_off x) tm.table) (sweep CommFail (is_under x) tm.table) (sweep_hold CommFail (is_cut_off x) tm.table h) (sweep_hold CommFail (is_under x) tm.table h)
      go RunDown v = append_hold (sweep SegFail is_first tm.table) (sweep SegFail is_other tm.table) (sweep_hold SegFail is_first tm.table h) (sweep_hold SegFail is_other tm.table h)
      go (InquireBranch s) v = asks_hold (find_serial s tm.table)
