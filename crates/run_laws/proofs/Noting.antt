-- What a row notes of branches, and which it accepts: each is of a branch that stands in the table and is not prepared, and is as its event makes that.
use Rattle.std.proofs.Common.{◌≡◌, Bool, true, false, not, ◌&&◌, ◌||◌, List, [], ◌∷◌, ◌++◌, Option, Some, None, if◌then◌else◌, refl, sym, ◌∙◌, ap, subst, inl, inr, ◌⊎◌}
use Rattle.std.specs.List.{list_any}
use Rattle.vms_model.specs.Ids.{Id}
use Rattle.vms_model.specs.Transactions.{Reason, Aborted, Vetoed, SyncFail, Timeout, CommFail, SegFail}
use Rattle.commit_protocol.specs.Messages.{Name, Kind, Join, JoinOk, JoinNo, Prepare, Yes, ReadOnly, No, Commit, Abort, Ack, Inquire, Message, RmEvent, PrepareEvent, CommitEvent, AbortEvent, Reply, LogRecord, same_id}
use Rattle.commit_protocol.specs.Table.{Key, Branch, State, Joining, Active, Ending, Voting, Prepared, Child, Act, Notes, Accepts, Prepares, Leaves, Acknowledges, Releases, Sends, Tm, first, key_of, is_first, find, find_serial, same_key, waits_for, holds, holding}
use Rattle.commit_protocol.specs.Rows.{down, up, sends_all, to_each, tells, joined, interested, serials, yes_of, all_voted, all_replied, has_bid, has_serial, others, all_taken, joined_as, ended, told_abort, aborts_telling, aborts, undone_quietly, refuses, commits, commits_if_all, refuses_join, grants_join, join_state, join_row, join_ok_state, join_ok_row, join_no_state, join_no_row, which_event, ending, begins_ending, end_trans_state, end_trans_row, abort_running, abort_by_state, abort_branch_row, authorise_state, authorise_row, lacks_vote, note_vote, with_vote, vote_state, vote_row, refused, no_state, no_row, answer_state, answer, inquire_row, is_empty, casts, casts_if_all, voting, begins_vote, asked_branch, votes_if_ended, prepare_state, prepare_row, ended_branch, end_branch_state, end_branch_row, commit_state, commit_row, abort_state, abort_row, with_reply, is_veto, is_forget, first_reply, branch_reply, reply_state, reply_row, note_state, note_row, with_manager, asks_state, asks_row, aborted_if, sweep, is_due, is_cut_off, is_under, is_other, got, row, Event, Start, Authorise, Begin, JoinRm, Changed, EndTrans, EndBranch, AbortBranch, Replied, Got, Clock, LinkDown, RunDown, InquireBranch}
use Rattle.commit_protocol.specs.Allowed.{is_prepared}
use Rattle.commit_protocol.specs.Standing.{BeginsNothing}
use Rattle.commit_protocol.specs.World.{In}
use Rattle.commit_protocol.proofs.Lists.{find-key, in_left}
use Rattle.run_said.proofs.run_model.NodeLists.{some_is}

-- one of these branches has this key and is not prepared
abbrev pub OpenIn : List Branch → Key → Type 0
OpenIn bs k = (b : Branch) × In b bs × (is_prepared b.state ≡ false) × (b.key ≡ k)

-- what an act notes and accepts is so; so is all that these acts do
abbrev pub Puts : (Branch → Type 0) → (Branch → Child → Type 0) → Act → Type 0
Puts N A (Notes b) = N b
Puts N A (Accepts b c) = A b c
Puts N A _ = Unit {0}

abbrev pub AllPut : (Branch → Type 0) → (Branch → Child → Type 0) → List Act → Type 0
AllPut N A [] = Unit {0}
AllPut N A (a ∷ acts) = Puts N A a × AllPut N A acts

-- so it is of a branch that was found and is not prepared, by its state
abbrev FoundIn : Option Branch → (Branch → Type 0) → Type 0
FoundIn o P = (b : Branch) → o ≡ Some b → is_prepared b.state ≡ false → P b

module _ (N : Branch → Type 0) (A : Branch → Child → Type 0) where
  if_notes : (t : Bool) (x y : List Act) → AllPut N A x → AllPut N A y → AllPut N A (if t then x else y)
  if_notes true x y f g = f
  if_notes false x y f g = g

  append_notes : (xs ys : List Act) → AllPut N A xs → AllPut N A ys → AllPut N A (xs ++ ys)
  append_notes [] ys f g = g
  append_notes (a ∷ xs) ys f g = (f.0, append_notes xs ys f.1 g)

  sends_note : (ms : List Message) → AllPut N A (sends_all ms)
  sends_note [] = tt
  sends_note (m ∷ ms) = (tt, sends_note ms)

  tells_note : (v : RmEvent) (k : Key) (xs : List Name) → AllPut N A (tells v k xs)
  tells_note v k [] = tt
  tells_note v k (x ∷ xs) = (tt, tells_note v k xs)

  ended_notes : (b : Branch) (s : State) (reason : Option Reason) → AllPut N A (ended b s reason)
  ended_notes b Ending reason = (tt, tt)
  ended_notes b _ reason = tt

  aborts_note : (cs : List Child) (why : Reason) (b : Branch) → AllPut N A (aborts_telling cs why b)
  aborts_note cs why b = (
    tt,
    append_notes (sends_all (told_abort b.key.tid cs)) (tells AbortEvent b.key (interested b.managers) ++ ended b b.state (Some why)) (sends_note (told_abort b.key.tid cs))
        (append_notes (tells AbortEvent b.key (interested b.managers)) (ended b b.state (Some why)) (tells_note AbortEvent b.key (interested b.managers)) (ended_notes b b.state (Some why))),
  )

  undone_notes : (why : Reason) (b : Branch) → AllPut N A (undone_quietly why b)
  undone_notes why b = (tt, tells_note AbortEvent b.key (interested b.managers))

  refuses_notes : (why : Reason) (b : Branch) → AllPut N A (refuses why b)
  refuses_notes why b = (tt, (tt, tells_note AbortEvent b.key (interested b.managers)))

  commits_note : (b : Branch) (shown : List Act) → AllPut N A shown → AllPut N A (commits_if_all b shown)
  commits_note b shown h =
      if_notes (all_voted b.accepted && all_replied b.managers) (commits b shown) [] (
        tt,
        append_notes (sends_all (to_each Commit b.key.tid (yes_of b.accepted))) (tells CommitEvent b.key (holding b.managers) ++ shown) (sends_note (to_each Commit b.key.tid (yes_of b.accepted)))
            (append_notes (tells CommitEvent b.key (holding b.managers)) shown (tells_note CommitEvent b.key (holding b.managers)) h),
      ) tt

  casts_note : (b : Branch) → AllPut N A (casts_if_all b)
  casts_note b = if_notes (all_replied b.managers) (casts b) [] (if_notes (b.changed || not (is_empty (holding b.managers))) (Prepares b ∷ (Sends (up Yes b.key) ∷ [])) (Leaves b.key ∷ (Sends (up ReadOnly b.key) ∷ [])) (tt, (tt, tt)) (tt, (tt, tt))) tt

  votes_note : (b : Branch) → N (voting b) → AllPut N A (begins_vote b)
  votes_note b h = (h, append_notes (tells PrepareEvent b.key (joined b.managers)) (casts_if_all (voting b)) (tells_note PrepareEvent b.key (joined b.managers)) (casts_note (voting b)))

  join_notes : (m : Message) (o : Option Branch) → FoundIn o (λ b. (bid : Id) → m.bid ≡ Some bid → A b (record { bid = bid; serial = m.serial; vote = None })) → AllPut N A (join_row m o)
  join_notes m None h = (tt, tt)
  join_notes m (Some b) h = go b.state m.bid refl refl
    where
      go : (s : State) (o : Option Id) → b.state ≡ s → m.bid ≡ o → AllPut N A (join_state m b s o)
      go Active (Some bid) e named = if_notes (joined_as bid m.serial b.accepted) (grants_join m)
          (if list_any (λ x. same_id x bid) b.bids && not (has_bid bid b.accepted) then Accepts b (record { bid = bid; serial = m.serial; vote = None }) ∷ grants_join m else refuses_join m) (tt, tt)
          (if_notes (list_any (λ x. same_id x bid) b.bids && not (has_bid bid b.accepted)) (Accepts b (record { bid = bid; serial = m.serial; vote = None }) ∷ grants_join m) (refuses_join m) (h b refl (ap is_prepared e) bid named, (tt, tt)) (tt, tt))
      go Ending (Some bid) e named = if_notes (joined_as bid m.serial b.accepted) (grants_join m) (refuses_join m) (tt, tt) (tt, tt)
      go Active None e named = (tt, tt)
      go Ending None e named = (tt, tt)
      go Joining bid e named = (tt, tt)
      go Voting bid e named = (tt, tt)
      go Prepared bid e named = (tt, tt)

  join_ok_notes : (o : Option Branch) → FoundIn o (λ b. (b.state ≡ Ending → ⊥) → N (record b { state = Active })) → AllPut N A (join_ok_row o)
  join_ok_notes None h = tt
  join_ok_notes (Some b) h = go b.state refl
    where
      go : (s : State) → b.state ≡ s → AllPut N A (join_ok_state b s)
      go Joining e = (h b refl (ap is_prepared e) (λ q. let clash : Joining ≡ Ending = sym e ∙ q in let no : ⊥ = cc in no), (tt, tt))
      go _ e = tt

  join_no_notes : (o : Option Branch) → AllPut N A (join_no_row o)
  join_no_notes None = tt
  join_no_notes (Some b) = go b.state
    where
      go : (s : State) → AllPut N A (join_no_state b s)
      go Joining = undone_notes SyncFail b
      go Active = undone_notes SyncFail b
      go Voting = undone_notes SyncFail b
      go Ending = tt
      go Prepared = tt

  prepare_notes : (m : Message) (o : Option Branch) → FoundIn o (λ b. (b.state ≡ Ending → ⊥) → N (asked_branch b) × N (voting (asked_branch b))) → AllPut N A (prepare_row m o)
  prepare_notes m None h = (tt, tt)
  prepare_notes m (Some b) h = go b.state refl
    where
      asked_votes : N (voting (asked_branch b)) → AllPut N A (votes_if_ended b)
      asked_votes k = if_notes b.ended (begins_vote (asked_branch b)) [] (votes_note (asked_branch b) k) tt

      go : (s : State) → b.state ≡ s → AllPut N A (prepare_state b s)
      go Joining e = let k = h b refl (ap is_prepared e) (λ q. let clash : Joining ≡ Ending = sym e ∙ q in let no : ⊥ = cc in no) in (k.0, (tt, asked_votes k.1))
      go Active e = let k = h b refl (ap is_prepared e) (λ q. let clash : Active ≡ Ending = sym e ∙ q in let no : ⊥ = cc in no) in (k.0, asked_votes k.1)
      go Prepared e = (tt, tt)
      go Ending e = tt
      go Voting e = tt

  vote_notes : (s : Id) (v : Kind) (o : Option Branch) → FoundIn o (λ b. b.state ≡ Ending → N (with_vote s v b)) → AllPut N A (vote_row s v o)
  vote_notes s v None h = tt
  vote_notes s v (Some b) h = go b.state refl
    where
      go : (z : State) → b.state ≡ z → AllPut N A (vote_state s v b z)
      go Ending e = if_notes (list_any (λ c. lacks_vote s c) b.accepted) (Notes (with_vote s v b) ∷ commits_if_all (with_vote s v b) (ended b b.state None)) []
          (h b refl (ap is_prepared e) e, commits_note (with_vote s v b) (ended b b.state None) (ended_notes b b.state None)) tt
      go _ e = tt

  no_notes : (s : Id) (o : Option Branch) → AllPut N A (no_row s o)
  no_notes s None = tt
  no_notes s (Some b) = go b.state
    where
      aborted : AllPut N A (refused s b)
      aborted = if_notes (has_serial s b.accepted) (aborts_telling (others s b.accepted) Vetoed b) [] (aborts_note (others s b.accepted) Vetoed b) tt

      go : (z : State) → AllPut N A (no_state s b z)
      go Active = aborted
      go Ending = aborted
      go _ = tt

  commit_notes : (m : Message) (o : Option Branch) → AllPut N A (commit_row m o)
  commit_notes m None = (tt, tt)
  commit_notes m (Some b) = go b.state
    where
      go : (s : State) → AllPut N A (commit_state b s)
      go Prepared = (tt, (tt, tells_note CommitEvent b.key (holding b.managers)))
      go _ = tt

  abort_notes : (o : Option Branch) → AllPut N A (abort_row o)
  abort_notes None = tt
  abort_notes (Some b) = go b.state
    where
      go : (s : State) → AllPut N A (abort_state b s)
      go Ending = tt
      go _ = undone_notes Aborted b

  inquire_notes : (m : Message) (o : Option Branch) (rs : List LogRecord) → AllPut N A (inquire_row m o rs)
  inquire_notes m o rs = if_notes (list_any (λ r. same_id r.tid m.tid) rs) (Sends (down Commit (key_of m)) ∷ []) (answer m o) (tt, tt) (answers o)
    where
      by_state : (b : Branch) (s : State) → AllPut N A (answer_state m b s)
      by_state b Prepared = (tt, tt)
      by_state b _ = tt

      answers : (o : Option Branch) → AllPut N A (answer m o)
      answers None = (tt, tt)
      answers (Some b) = by_state b b.state

  authorise_notes : (bid : Id) (o : Option Branch) → FoundIn o (λ b. N (record b { bids = b.bids ++ bid ∷ [] })) → AllPut N A (authorise_row bid o)
  authorise_notes bid None h = tt
  authorise_notes bid (Some b) h = go b.state refl
    where
      go : (s : State) → b.state ≡ s → AllPut N A (authorise_state bid b s)
      go Active e = (h b refl (ap is_prepared e), tt)
      go _ e = tt

  end_trans_notes : (o : Option Branch) → FoundIn o (λ b. N (ending b)) → AllPut N A (end_trans_row o)
  end_trans_notes None h = tt
  end_trans_notes (Some b) h = go b.state refl
    where
      go : (s : State) → b.state ≡ s → AllPut N A (end_trans_state b s)
      go Active e = if_notes (all_taken b.bids b.accepted) (begins_ending b) (aborts SyncFail b) (
        h b refl (ap is_prepared e),
        append_notes (sends_all (to_each Prepare b.key.tid (serials b.accepted))) (tells (which_event b.changed b.accepted b.managers) b.key (joined b.managers) ++ commits_if_all (ending b) []) (sends_note (to_each Prepare b.key.tid (serials b.accepted)))
            (append_notes (tells (which_event b.changed b.accepted b.managers) b.key (joined b.managers)) (commits_if_all (ending b) []) (tells_note (which_event b.changed b.accepted b.managers) b.key (joined b.managers)) (commits_note (ending b) [] tt)),
      ) (aborts_note b.accepted SyncFail b)
      go _ e = tt

  end_branch_notes : (o : Option Branch) → FoundIn o (λ b. (b.state ≡ Ending → ⊥) → N (ended_branch b) × N (voting (ended_branch b))) → AllPut N A (end_branch_row o)
  end_branch_notes None h = tt
  end_branch_notes (Some b) h = go b.state refl
    where
      go : (s : State) → b.state ≡ s → AllPut N A (end_branch_state b s)
      go Active e = let k = h b refl (ap is_prepared e) (λ q. let clash : Active ≡ Ending = sym e ∙ q in let no : ⊥ = cc in no) in (k.0, if_notes b.asked (begins_vote (ended_branch b)) [] (votes_note (ended_branch b) k.1) tt)
      go _ e = tt

  reply_notes : (s : Id) (x : Name) (r : Reply) (o : Option Branch) (rs : List LogRecord) → FoundIn o (λ b. N (with_reply x r b)) → AllPut N A (reply_row s x r o rs)
  reply_notes s x r None rs h = if_notes (is_forget r && list_any (λ q. holds s x q) rs) (Releases s x ∷ []) [] (tt, tt) tt
  reply_notes s x r (Some b) rs h = go b.state refl
    where
      at_first : N (with_reply x r b) → AllPut N A (first_reply x r b)
      at_first k = if_notes (is_veto r) (aborts Vetoed (with_reply x r b)) (Notes (with_reply x r b) ∷ commits_if_all (with_reply x r b) (ended b b.state None)) (aborts_note b.accepted Vetoed (with_reply x r b)) (k, commits_note (with_reply x r b) (ended b b.state None) (ended_notes b b.state None))

      at_other : N (with_reply x r b) → AllPut N A (branch_reply x r b)
      at_other k = if_notes (is_veto r) (refuses Vetoed (with_reply x r b)) (Notes (with_reply x r b) ∷ casts_if_all (with_reply x r b)) (refuses_notes Vetoed (with_reply x r b)) (k, casts_note (with_reply x r b))

      go : (z : State) → b.state ≡ z → AllPut N A (reply_state x r b z)
      go Ending e = if_notes (is_first b) (first_reply x r b) [] (at_first (h b refl (ap is_prepared e))) tt
      go Voting e = if_notes b.asked (branch_reply x r b) [] (at_other (h b refl (ap is_prepared e))) tt
      go _ e = tt

  note_notes : (f : Branch → Branch) (o : Option Branch) → FoundIn o (λ b. N (f b)) → AllPut N A (note_row f o)
  note_notes f None h = tt
  note_notes f (Some b) h = go b.state refl
    where
      go : (s : State) → b.state ≡ s → AllPut N A (note_state f b s)
      go Active e = (h b refl (ap is_prepared e), tt)
      go _ e = tt

  asks_note : (o : Option Branch) → AllPut N A (asks_row o)
  asks_note None = tt
  asks_note (Some b) = go b.state
    where
      go : (s : State) → AllPut N A (asks_state b s)
      go Prepared = (tt, tt)
      go _ = tt

  running_notes : (why : Reason) (b : Branch) → AllPut N A (abort_running why b)
  running_notes why b = if_notes (is_first b) (aborts why b) (refuses why b) (aborts_note b.accepted why b) (refuses_notes why b)

  by_state_notes : (why : Reason) (b : Branch) (s : State) → AllPut N A (abort_by_state why b s)
  by_state_notes why b Prepared = tt
  by_state_notes why b _ = running_notes why b

  abort_branch_notes : (why : Reason) (o : Option Branch) → AllPut N A (abort_branch_row why o)
  abort_branch_notes why None = tt
  abort_branch_notes why (Some b) = by_state_notes why b b.state

  sweep_notes : (why : Reason) (chosen : Branch → Bool) (bs : List Branch) → AllPut N A (sweep why chosen bs)
  sweep_notes why chosen [] = tt
  sweep_notes why chosen (b ∷ bs) = append_notes (aborted_if (chosen b) why b) (sweep why chosen bs) (go (chosen b)) (sweep_notes why chosen bs)
    where
      go : (t : Bool) → AllPut N A (aborted_if t why b)
      go true = by_state_notes why b b.state
      go false = tt

-- What is found stands there.

pub find_in : (k : Key) (bs : List Branch) (b : Branch) → find k bs ≡ Some b → In b bs
find_in k [] b e = let no : ⊥ = cc in absurd no
find_in k (x ∷ bs) b e = go (same_key x.key k) e (find_in k bs b)
  where
    go : (t : Bool) → ◌≡◌ {A = Option Branch} (if t then Some x else find k bs) (Some b) → (find k bs ≡ Some b → In b bs) → In b (x ∷ bs)
    go true f more = inl (sym (some_is x b f))
    go false f more = inr (more f)

pub serial_in : (s : Id) (bs : List Branch) (b : Branch) → find_serial s bs ≡ Some b → In b bs
serial_in s [] b e = let no : ⊥ = cc in absurd no
serial_in s (x ∷ bs) b e = go (same_id x.key.serial s) e (serial_in s bs b)
  where
    go : (t : Bool) → ◌≡◌ {A = Option Branch} (if t then Some x else find_serial s bs) (Some b) → (find_serial s bs ≡ Some b → In b bs) → In b (x ∷ bs)
    go true f more = inl (sym (some_is x b f))
    go false f more = inr (more f)

-- a branch is asked by this event
abbrev pub IsAskedBy : Event → Branch → Type 0
IsAskedBy (Got m) b = (m.kind ≡ Prepare) × (key_of m ≡ b.key)
IsAskedBy _ b = ⊥

-- no vote is noted of a branch, unless it is ending
abbrev pub IsUnvoted : Branch → Type 0
IsUnvoted b = (b.state ≡ Ending) ⊎ ((c : Child) → In c b.accepted → c.vote ≡ None)

-- those that joined a branch have joined another too, and a vote is noted of that only where one was of this, or where it is ending
pub record Stays (b new : Branch) : Type 0 where
  pub children : (c : Child) → In c b.accepted → (d : Child) × In d new.accepted × (d.serial ≡ c.serial)
  pub unvoted : IsUnvoted b → IsUnvoted new

pub stays_like : (b new : Branch) → new.accepted ≡ b.accepted → (b.state ≡ Ending → new.state ≡ Ending) → Stays b new
stays_like b new same ends = record {
  children = λ c i. (c, subst (In c) (sym same) i, refl);
  unvoted = λ u. elim u [ inl e ↦ inl (ends e) | inr h ↦ inr (λ c i. h c (subst (In c) same i)) ];
}

pub stays_on : (b y x : Branch) → Stays b y → Stays y x → Stays b x
stays_on b y x f g = record {
  children = λ c i. let d = f.children c i in let a = g.children d.0 d.1 in (a.0, a.1, a.2 ∙ d.2);
  unvoted = λ u. g.unvoted (f.unvoted u);
}

-- How a branch comes of another by an event: it has its key and its time, has changed something or not as that, the same branches have joined it, and no identifier was authorised for it and END_TRANS was
-- not called but by that event.
pub record Derives (e : Event) (b new : Branch) : Type 0 where
  pub key : new.key ≡ b.key
  pub changed : new.changed ≡ b.changed
  pub due : new.due ≡ b.due
  pub open_still : is_prepared new.state ≡ false
  pub accepted : (c : Child) → In c new.accepted → (d : Child) × In d b.accepted × (d.serial ≡ c.serial)
  pub taken : (bid : Id) → has_bid bid b.accepted ≡ true → has_bid bid new.accepted ≡ true
  pub given : (bid : Id) → has_bid bid new.accepted ≡ true → has_bid bid b.accepted ≡ true
  pub bids : (bid : Id) → In bid new.bids → In bid b.bids ⊎ (e ≡ Authorise b.key.tid bid)
  pub kept : (bid : Id) → In bid b.bids → In bid new.bids
  pub stays : Stays b new
  pub ends : new.state ≡ Ending → (b.state ≡ Ending) ⊎ ((e ≡ EndTrans b.key.tid) × (b.key ≡ first b.key.tid))
  pub asked : new.asked ≡ true → (b.asked ≡ true) ⊎ IsAskedBy e b

-- so does what is noted of one of these branches that is not prepared
abbrev pub Noted : List Branch → Event → Branch → Type 0
Noted bs e new = (b : Branch) × In b bs × (is_prepared b.state ≡ false) × Derives e b new

-- a branch accepts another by a Join that names its identifier
abbrev pub Accepted : List Branch → Event → Branch → Child → Type 0
Accepted bs e b c = In b bs × (is_prepared b.state ≡ false) × (m : Message) × (e ≡ Got m) × (b.key ≡ first m.tid) × (c.serial ≡ m.serial) × (m.bid ≡ Some c.bid) × (m.kind ≡ Join) × (c.vote ≡ None)

in_last : (x y : Id) (xs : List Id) → In x (xs ++ y ∷ []) → In x xs ⊎ (x ≡ y)
in_last x y [] (inl same) = inr same
in_last x y [] (inr i) = absurd i
in_last x y (z ∷ xs) (inl same) = inl (inl same)
in_last x y (z ∷ xs) (inr i) = elim (in_last x y xs i) [ inl j ↦ inl (inr j) | inr same ↦ inr same ]

-- a vote that is noted leaves serials and identifiers
noted_in : (s : Id) (v : Kind) (c : Child) (cs : List Child) → In c (note_vote s v cs) → (d : Child) × In d cs × (d.serial ≡ c.serial)
noted_in s v c [] i = absurd i
noted_in s v c (x ∷ cs) i = go (lacks_vote s x) i (noted_in s v c cs)
  where
    go : (t : Bool) → In c (if t then record x { vote = Some v } ∷ cs else x ∷ note_vote s v cs) → (In c (note_vote s v cs) → (d : Child) × In d cs × (d.serial ≡ c.serial)) → (d : Child) × In d (x ∷ cs) × (d.serial ≡ c.serial)
    go true (inl same) more = (x, inl refl, sym (ap (λ (y : Child). y.serial) same))
    go true (inr j) more = (c, inr j, refl)
    go false (inl same) more = (c, inl same, refl)
    go false (inr j) more = let r = more j in (r.0, inr r.1, r.2)

noted_stays : (s : Id) (v : Kind) (c : Child) (cs : List Child) → In c cs → (d : Child) × In d (note_vote s v cs) × (d.serial ≡ c.serial)
noted_stays s v c [] i = absurd i
noted_stays s v c (x ∷ cs) i = go (lacks_vote s x) i (noted_stays s v c cs)
  where
    go : (t : Bool) → In c (x ∷ cs) → (In c cs → (d : Child) × In d (note_vote s v cs) × (d.serial ≡ c.serial)) → (d : Child) × In d (if t then record x { vote = Some v } ∷ cs else x ∷ note_vote s v cs) × (d.serial ≡ c.serial)
    go true (inl same) more = (record x { vote = Some v }, inl refl, sym (ap (λ (y : Child). y.serial) same))
    go true (inr j) more = (c, inr j, refl)
    go false (inl same) more = (x, inl refl, sym (ap (λ (y : Child). y.serial) same))
    go false (inr j) more = let r = more j in (r.0, inr r.1, r.2)

noted_bids : (s : Id) (v : Kind) (bid : Id) (cs : List Child) → has_bid bid (note_vote s v cs) ≡ has_bid bid cs
noted_bids s v bid [] = refl
noted_bids s v bid (x ∷ cs) = go (lacks_vote s x) (noted_bids s v bid cs)
  where
    go : (t : Bool) → has_bid bid (note_vote s v cs) ≡ has_bid bid cs → has_bid bid (if t then record x { vote = Some v } ∷ cs else x ∷ note_vote s v cs) ≡ has_bid bid (x ∷ cs)
    go true more = refl
    go false more = ap (λ t. same_id x.bid bid || t) more

pub row_puts : (tm : Tm) (e : Event) → BeginsNothing e → AllPut (Noted tm.table e) (Accepted tm.table e) (row tm e)
row_puts tm e h = go e h
  where
    -- one that changes nothing of these
    alike : (e : Event) (b new : Branch) → new.key ≡ b.key → new.changed ≡ b.changed → new.due ≡ b.due → new.accepted ≡ b.accepted → new.bids ≡ b.bids → is_prepared new.state ≡ false → (new.state ≡ Ending → b.state ≡ Ending) → (new.asked ≡ true → (b.asked ≡ true) ⊎ IsAskedBy e b) → (b.state ≡ Ending → new.state ≡ Ending) → Derives e b new
    alike e b new key changed due accepted bids unprepared ends asked still = record {
      key = key;
      changed = changed;
      due = due;
      open_still = unprepared;
      accepted = λ c i. (c, subst (In c) accepted i, refl);
      taken = λ bid t. ap (has_bid bid) accepted ∙ t;
      given = λ bid t. ap (has_bid bid) (sym accepted) ∙ t;
      bids = λ bid i. inl (subst (In bid) bids i);
      kept = λ bid i. subst (In bid) (sym bids) i;
      stays = stays_like b new accepted still;
      ends = λ s. inl (ends s);
      asked = asked;
    }

    found : (e : Event) (k : Key) (b : Branch) (new : Branch) → find k tm.table ≡ Some b → is_prepared b.state ≡ false → Derives e b new → Noted tm.table e new
    found e k b new is u d = (b, find_in k tm.table b is, u, d)

    found_serial : (e : Event) (s : Id) (b : Branch) (new : Branch) → find_serial s tm.table ≡ Some b → is_prepared b.state ≡ false → Derives e b new → Noted tm.table e new
    found_serial e s b new is u d = (b, serial_in s tm.table b is, u, d)

    not_ending : (s : State) (b : Branch) → (s ≡ Ending → ⊥) → s ≡ Ending → b.state ≡ Ending
    not_ending s b never e = absurd (never e)

    voted : (e : Event) (s : Id) (v : Kind) (b : Branch) → is_prepared b.state ≡ false → b.state ≡ Ending → Derives e b (with_vote s v b)
    voted e s v b u ending_b = record { key = refl; changed = refl; due = refl; open_still = u; accepted = λ c i. noted_in s v c b.accepted i; taken = λ bid t. noted_bids s v bid b.accepted ∙ t; given = λ bid t. sym (noted_bids s v bid b.accepted) ∙ t; bids = λ bid i. inl i; kept = λ bid i. i; stays = record { children = λ c i. noted_stays s v c b.accepted i; unvoted = λ x. inl ending_b }; ends = λ x. inl x; asked = λ a. inl a }

    message : (m : Message) (d : Kind) → m.kind ≡ d → AllPut (Noted tm.table (Got m)) (Accepted tm.table (Got m)) (got tm m d)
    message m Join is = join_notes _ _ m (find (first m.tid) tm.table) (λ b f u bid named. (find_in (first m.tid) tm.table b f, u, m, refl, find-key (first m.tid) tm.table b f, refl, named, is, refl))
    message m JoinOk is = join_ok_notes _ _ (find (key_of m) tm.table) (λ b f u other. found (Got m) (key_of m) b _ f u (alike (Got m) b _ refl refl refl refl refl refl (not_ending Active b (λ e. let no : ⊥ = cc in no)) (λ a. inl a) (λ e. absurd (other e))))
    message m JoinNo is = join_no_notes _ _ (find (key_of m) tm.table)
    message m Prepare is = prepare_notes _ _ m (find (key_of m) tm.table) (λ b f u other. (
      found (Got m) (key_of m) b _ f u (alike (Got m) b _ refl refl refl refl refl refl (not_ending Active b (λ e. let no : ⊥ = cc in no)) (λ a. inr (is, sym (find-key (key_of m) tm.table b f))) (λ e. absurd (other e))),
      found (Got m) (key_of m) b _ f u (alike (Got m) b _ refl refl refl refl refl refl (not_ending Voting b (λ e. let no : ⊥ = cc in no)) (λ a. inr (is, sym (find-key (key_of m) tm.table b f))) (λ e. absurd (other e))),
    ))
    message m Yes is = vote_notes _ _ m.serial Yes (find (first m.tid) tm.table) (λ b f u q. found (Got m) (first m.tid) b _ f u (voted (Got m) m.serial Yes b u q))
    message m ReadOnly is = vote_notes _ _ m.serial ReadOnly (find (first m.tid) tm.table) (λ b f u q. found (Got m) (first m.tid) b _ f u (voted (Got m) m.serial ReadOnly b u q))
    message m No is = no_notes _ _ m.serial (find (first m.tid) tm.table)
    message m Commit is = commit_notes _ _ m (find (key_of m) tm.table)
    message m Abort is = abort_notes _ _ (find (key_of m) tm.table)
    message m Ack is = if_notes _ _ (list_any (λ r. waits_for (key_of m) r) tm.records) (Acknowledges (key_of m) ∷ []) [] (tt, tt) tt
    message m Inquire is = inquire_notes _ _ m (find (first m.tid) tm.table) tm.records

    go : (e : Event) → BeginsNothing e → AllPut (Noted tm.table e) (Accepted tm.table e) (row tm e)
    go (Start t due) h = absurd h
    go (Authorise t bid) h = authorise_notes _ _ bid (find (first t) tm.table) (λ b f u. found (Authorise t bid) (first t) b _ f u (record {
      key = refl;
      changed = refl;
      due = refl;
      open_still = u;
      accepted = λ c i. (c, i, refl);
      taken = λ x i. i;
      given = λ x i. i;
      kept = λ x i. in_left x b.bids (bid ∷ []) i;
      stays = stays_like b (record b { bids = b.bids ++ bid ∷ [] }) refl (λ e. e);
      bids = λ x i. elim (in_last x bid b.bids i) [ inl j ↦ inl j | inr same ↦ inr (λ i. Authorise (sym (ap (λ (k : Key). k.tid) (find-key (first t) tm.table b f)) i) (sym same i)) ];
      ends = λ x. inl x;
      asked = λ a. inl a;
    }))
    go (Begin t s bid) h = absurd h
    go (JoinRm s x) h = note_notes _ _ (with_manager x) (find_serial s tm.table) (λ b f u. found_serial (JoinRm s x) s b _ f u (alike (JoinRm s x) b _ refl refl refl refl refl u (λ e. e) (λ a. inl a) (λ e. e)))
    go (Changed s) h = absurd h
    go (EndTrans t) h = end_trans_notes _ _ (find (first t) tm.table) (λ b f u. found (EndTrans t) (first t) b _ f u (record {
      key = refl;
      changed = refl;
      due = refl;
      open_still = refl;
      accepted = λ c i. (c, i, refl);
      taken = λ x i. i;
      given = λ x i. i;
      bids = λ x i. inl i;
      kept = λ x i. i;
      stays = record { children = λ c i. (c, i, refl); unvoted = λ x. inl refl };
      ends = λ x. let key = find-key (first t) tm.table b f in inr (ap EndTrans (sym (ap (λ (k : Key). k.tid) key)), key ∙ ap (λ (k : Key). first k.tid) (sym key));
      asked = λ a. inl a;
    }))
    go (EndBranch s) h = end_branch_notes _ _ (find_serial s tm.table) (λ b f u other. (
      found_serial (EndBranch s) s b _ f u (alike (EndBranch s) b _ refl refl refl refl refl u (λ e. e) (λ a. inl a) (λ e. e)),
      found_serial (EndBranch s) s b _ f u (alike (EndBranch s) b _ refl refl refl refl refl refl (not_ending Voting b (λ e. let no : ⊥ = cc in no)) (λ a. inl a) (λ e. absurd (other e))),
    ))
    go (AbortBranch s why) h = abort_branch_notes _ _ why (find_serial s tm.table)
    go (Replied s x r) h = reply_notes _ _ s x r (find_serial s tm.table) tm.records (λ b f u. found_serial (Replied s x r) s b _ f u (alike (Replied s x r) b _ refl refl refl refl refl u (λ e. e) (λ a. inl a) (λ e. e)))
    go (Got m) h = message m m.kind refl
    go (Clock now) h = sweep_notes _ _ Timeout (is_due now) tm.table
    go (LinkDown x) h = append_notes _ _ (sweep CommFail (is_cut_off x) tm.table) (sweep CommFail (is_under x) tm.table) (sweep_notes _ _ CommFail (is_cut_off x) tm.table) (sweep_notes _ _ CommFail (is_under x) tm.table)
    go RunDown h = append_notes _ _ (sweep SegFail is_first tm.table) (sweep SegFail is_other tm.table) (sweep_notes _ _ SegFail is_first tm.table) (sweep_notes _ _ SegFail is_other tm.table)
    go (InquireBranch s) h = asks_note _ _ (find_serial s tm.table)

-- Keys alone.

-- what an act notes is of such a branch; so is all that these acts note
abbrev pub NotesIn : (Key → Type 0) → Act → Type 0
NotesIn K (Notes b) = K b.key
NotesIn K (Accepts b c) = K b.key
NotesIn K _ = Unit {0}

abbrev pub AllNote : (Key → Type 0) → List Act → Type 0
AllNote K [] = Unit {0}
AllNote K (a ∷ acts) = NotesIn K a × AllNote K acts

pub puts_note : (N : Branch → Type 0) (A : Branch → Child → Type 0) (K : Key → Type 0) (acts : List Act) → ((b : Branch) → N b → K b.key) → ((b : Branch) (c : Child) → A b c → K b.key) → AllPut N A acts → AllNote K acts
puts_note N A K [] f g h = tt
puts_note N A K (a ∷ acts) f g h = (one a h.0, puts_note N A K acts f g h.1)
  where
    one : (a : Act) → Puts N A a → NotesIn K a
    one (Notes b) n = f b n
    one (Accepts b c) n = g b c n
    one _ n = tt

pub row_notes : (tm : Tm) (e : Event) → BeginsNothing e → AllNote (OpenIn tm.table) (row tm e)
row_notes tm e h = puts_note (Noted tm.table e) (Accepted tm.table e) (OpenIn tm.table) (row tm e) (λ new n. (n.0, n.1, n.2, sym n.3.key)) (λ b c a. (b, a.0, a.1, refl)) (row_puts tm e h)
