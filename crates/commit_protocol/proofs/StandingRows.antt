-- Each act of a row finds its branch: what is noted, prepared or leaves stands there unprepared, and what is settled stands there.
use Rattle.std.proofs.lemmas.List.{append-nil, append_assoc}
use Rattle.std.specs.Prelude.{if◌then◌else◌, not, ◌&&◌, ◌||◌}
use Rattle.std.specs.List.{list_any}
use Rattle.std.proofs.Common.{◌≡◌, ◌≢◌, Bool, true, false, List, [], ◌∷◌, ◌++◌, Option, Some, None, inl, inr, refl, ap, sym, subst, ◌∙◌}
use Rattle.std.proofs.lemmas.Bool.{and_parts, not-true}
use Rattle.vms_model.specs.Ids.{Id}
use Rattle.vms_model.specs.Transactions.{Outcome, Reason, Commit as ToCommit, Abort as ToAbort, SyncFail, Timeout, CommFail, SegFail, Aborted as ByRequest, Vetoed}
use Rattle.commit_protocol.specs.Messages.{Name, Kind, Join, JoinOk, JoinNo, Prepare, Yes, ReadOnly, No, Commit, Abort, Ack, Inquire, Message, PrepareEvent, CommitEvent, AbortEvent, Reply, LogRecord, same_id}
use Rattle.commit_protocol.specs.Table.{Key, Branch, State, Joining, Active, Ending, Voting, Prepared, Child, Tm, Act, Notes, Accepts, Prepares, Settles, Leaves, Acknowledges, Releases, Undoes, Sends, Prints, first, key_of, find, find_serial, put, cut, holding, is_first, holds, waits_for}
use Rattle.commit_protocol.specs.Rows as rows
use Rattle.commit_protocol.specs.Rows.{Event, row, got, sends_all, tells, joined, interested, told_abort, ended, to_each, yes_of, serials, commits, commits_if_all, aborts, aborts_telling, refuses, undone_quietly, abort_running, abort_by_state, aborted_if, casts, casts_if_all, begins_vote, voting, votes_if_ended, asked_branch, ending, begins_ending, which_event, with_vote, with_reply, ended_branch, has_bid, joined_as, refuses_join, grants_join, all_taken, sweep, is_due, is_cut_off, is_under, is_other, is_empty, all_replied, all_voted, lacks_vote, refused, is_veto, is_forget}
use Rattle.commit_protocol.specs.Allowed.{is_prepared}
use Rattle.commit_protocol.specs.World.{In}
use Rattle.commit_protocol.specs.Standing.{IsThere, Restates, Stands, AllStand, BeginsNothing}
use Rattle.commit_protocol.proofs.Lists.{find-put, find-key, find-cut_other, find_serial-key, told_key, same_key-refl, Unique}
use Rattle.commit_protocol.proofs.WithinRows.{IsShown, shown_sends, shown_tells, shown_ended, shown_append}

-- what is shown needs nothing
stand_shown : (acts : List Act) (bs : List Branch) → IsShown acts → AllStand bs acts
stand_shown [] bs h = tt
stand_shown (Sends m ∷ acts) bs h = (tt, stand_shown acts bs h)
stand_shown (Prints l ∷ acts) bs h = (tt, stand_shown acts bs h)
stand_shown (Settles k o why r ∷ acts) bs h = absurd h
stand_shown (Notes b ∷ acts) bs h = absurd h
stand_shown (Accepts b c ∷ acts) bs h = absurd h
stand_shown (Prepares b ∷ acts) bs h = absurd h
stand_shown (Leaves k ∷ acts) bs h = absurd h
stand_shown (Acknowledges k ∷ acts) bs h = absurd h
stand_shown (Releases s x ∷ acts) bs h = absurd h
stand_shown (Undoes k ∷ acts) bs h = absurd h

-- what is shown before
stand_after : (xs ys : List Act) (bs : List Branch) → IsShown xs → AllStand bs ys → AllStand bs (xs ++ ys)
stand_after [] ys bs s h = h
stand_after (Sends m ∷ xs) ys bs s h = (tt, stand_after xs ys bs s h)
stand_after (Prints l ∷ xs) ys bs s h = (tt, stand_after xs ys bs s h)
stand_after (Settles k o why r ∷ xs) ys bs s h = absurd s
stand_after (Notes b ∷ xs) ys bs s h = absurd s
stand_after (Accepts b c ∷ xs) ys bs s h = absurd s
stand_after (Prepares b ∷ xs) ys bs s h = absurd s
stand_after (Leaves k ∷ xs) ys bs s h = absurd s
stand_after (Acknowledges k ∷ xs) ys bs s h = absurd s
stand_after (Releases i x ∷ xs) ys bs s h = absurd s
stand_after (Undoes k ∷ xs) ys bs s h = absurd s

stand_if : (t : Bool) (bs : List Branch) (x y : List Act) → (t ≡ true → AllStand bs x) → (t ≡ false → AllStand bs y) → AllStand bs (if t then x else y)
stand_if true bs x y f g = f refl
stand_if false bs x y f g = g refl

-- an unprepared branch as it stands in the table
record Here (bs : List Branch) (b : Branch) : Type 0 where
  there : find b.key bs ≡ Some b
  unprepared : is_prepared b.state ≡ false

noted : (bs : List Branch) (o b : Branch) → Here bs o → b.key ≡ o.key → is_prepared b.state ≡ false → b.changed ≡ o.changed → Restates bs b
noted bs o b h key st ch = record { old = o; there = ap (λ k. find k bs) key ∙ h.there; unprepared = h.unprepared; stays = st; changed = ch }

noted_here : (bs : List Branch) (b : Branch) → is_prepared b.state ≡ false → Here (put b bs) b
noted_here bs b st = record { there = find-put b bs; unprepared = st }

-- commits, aborts
settles_there : (b : Branch) (o : Outcome) (why : Reason) (bs : List Branch) (ss : List Id) (xs : List Name) → IsThere bs b.key → Stands bs (Settles b.key o why (rows.owing b.key ss xs))
settles_there b o why bs [] [] e = (e, tt)
settles_there b o why bs [] (x ∷ xs) e = (e, record { serial = refl; kind = refl })
settles_there b o why bs (s ∷ ss) xs e = (e, record { serial = refl; kind = refl })

stand_commits : (b : Branch) (shown : List Act) (bs : List Branch) → IsThere bs b.key → IsShown shown → AllStand bs (commits_if_all b shown)
stand_commits b shown bs found rest = stand_if (all_voted b.accepted && all_replied b.managers) bs (commits b shown) [] (λ e. (
  settles_there b ToCommit ByRequest bs (yes_of b.accepted) (holding b.managers) found,
  stand_shown (sends_all (to_each Commit b.key.tid (yes_of b.accepted)) ++ (tells CommitEvent b.key (holding b.managers) ++ shown)) _
      (shown_append (sends_all (to_each Commit b.key.tid (yes_of b.accepted))) (tells CommitEvent b.key (holding b.managers) ++ shown) (shown_sends (to_each Commit b.key.tid (yes_of b.accepted)))
      (shown_append (tells CommitEvent b.key (holding b.managers)) shown (shown_tells CommitEvent b.key (holding b.managers)) rest)),
)) (λ e. tt)

-- An abort settles a branch, and shows the rest.
record IsAbort (k : Key) (acts : List Act) : Type 0 where
  why : Reason
  shown : List Act
  is : acts ≡ Settles k ToAbort why None ∷ shown
  silent : IsShown shown

aborts_telling_is : (cs : List Child) (why : Reason) (b : Branch) → IsAbort b.key (aborts_telling cs why b)
aborts_telling_is cs why b =
    let told : List Act = sends_all (told_abort b.key.tid cs) in
    let events : List Act = tells AbortEvent b.key (interested b.managers) in
    let outcome : List Act = ended b b.state (Some why) in
    record {
      why = why;
      shown = told ++ (events ++ outcome);
      is = refl;
      silent = shown_append told (events ++ outcome) (shown_sends (told_abort b.key.tid cs)) (shown_append events outcome (shown_tells AbortEvent b.key (interested b.managers)) (shown_ended b b.state (Some why)));
    }

undone_is : (why : Reason) (b : Branch) → IsAbort b.key (undone_quietly why b)
undone_is why b = record { why = why; shown = tells AbortEvent b.key (interested b.managers); is = refl; silent = shown_tells AbortEvent b.key (interested b.managers) }

refuses_is : (why : Reason) (b : Branch) → IsAbort b.key (refuses why b)
refuses_is why b = record { why = why; shown = Sends (rows.up No b.key) ∷ tells AbortEvent b.key (interested b.managers); is = refl; silent = shown_tells AbortEvent b.key (interested b.managers) }

running_is : (why : Reason) (b : Branch) → IsAbort b.key (abort_running why b)
running_is why b = go (is_first b)
  where
    go : (t : Bool) → IsAbort b.key (if t then aborts why b else refuses why b)
    go true = aborts_telling_is b.accepted why b
    go false = refuses_is why b

stand_abort : (k : Key) (acts : List Act) (bs : List Branch) → IsAbort k acts → IsThere bs k → AllStand bs acts
stand_abort k acts bs a e =
    let P : List Act → Type 0 = λ xs. AllStand bs xs in
    subst P (sym a.is) ((e, tt), stand_shown a.shown (cut k bs) a.silent)

abort_then : (k : Key) (acts more : List Act) (bs : List Branch) → IsAbort k acts → IsThere bs k → AllStand (cut k bs) more → AllStand bs (acts ++ more)
abort_then k acts more bs a e rest =
    let P : List Act → Type 0 = λ xs. AllStand bs (xs ++ more) in
    subst P (sym a.is) ((e, tt), stand_after a.shown more (cut k bs) a.silent rest)

-- Sweeps. Each chosen branch still stands there when its turn comes, since no key stands twice.

-- the chosen ones of these branches stand there
abbrev Each : List Branch → (Branch → Bool) → List Branch → Type 0
Each cs chosen xs = (b : Branch) → In b xs → chosen b ≡ true → find b.key cs ≡ Some b

-- what stands there and is none of the chosen ones still stands there
abbrev Keeps : List Branch → (Branch → Bool) → List Branch → List Branch → Type 0
Keeps xs chosen cs ds = (b : Branch) → find b.key cs ≡ Some b → (In b xs → chosen b ≡ true → ⊥) → find b.key ds ≡ Some b

other_key : (x : Branch) (xs : List Branch) (b : Branch) → find x.key xs ≡ None → find b.key xs ≡ Some b → x.key ≢ b.key
other_key x xs b none found e =
    let P : Key → Type 0 = λ k. find k xs ≡ None in
    let z : None ≡ Some b = sym (subst P e none) ∙ found in cc

-- each branch of a table stands there
stands_itself : (xs : List Branch) → Unique xs → (b : Branch) → In b xs → find b.key xs ≡ Some b
stands_itself [] u b h = absurd h
stands_itself (x ∷ xs) u b h = elim h [
  | inl e ↦ (let P : Branch → Type 0 = λ y. find y.key (x ∷ xs) ≡ Some y in subst P (sym e) (rw (same_key-refl x.key) refl))
  | inr j ↦
      let found : find b.key xs ≡ Some b = stands_itself xs u.1 b j in
      elim (told_key x.key b.key) [
        | inl q ↦ absurd (other_key x xs b u.0 found q.1)
        | inr q ↦ rw (q.0) found
      ]
]

-- the branch is settled, or is prepared and stays
by_state_then : (why : Reason) (b : Branch) (more : List Act) (cs : List Branch) → IsThere cs b.key → AllStand (cut b.key cs) more → AllStand cs more → AllStand cs (abort_by_state why b b.state ++ more)
by_state_then why b more cs e gone stays = go b.state
  where
    out : AllStand cs (abort_running why b ++ more)
    out = abort_then b.key (abort_running why b) more cs (running_is why b) e gone

    go : (s : State) → AllStand cs (abort_by_state why b s ++ more)
    go Prepared = stays
    go Joining = out
    go Active = out
    go Ending = out
    go Voting = out

sweep_then : (why : Reason) (chosen : Branch → Bool) (xs cs : List Branch) (more : List Act) → Unique xs → Each cs chosen xs → ((ds : List Branch) → Keeps xs chosen cs ds → AllStand ds more) → AllStand cs (sweep why chosen xs ++ more)
sweep_then why chosen [] cs more u each rest = rest cs (λ b e n. e)
sweep_then why chosen (x ∷ xs) cs more u each rest =
    let P : List Act → Type 0 = λ acts. AllStand cs acts in
    let stays : AllStand cs (sweep why chosen xs ++ more) = sweep_then why chosen xs cs more u.1 (λ b i c. each b (inr i) c) (λ ds keeps. rest ds (λ b e n. keeps b e (λ i. n (inr i)))) in
    let goes : chosen x ≡ true → AllStand (cut x.key cs) (sweep why chosen xs ++ more) = λ c. (
    let apart : (b : Branch) → In b xs → x.key ≢ b.key = λ b i. other_key x xs b u.0 (stands_itself xs u.1 b i) in
    sweep_then why chosen xs (cut x.key cs) more u.1 (λ b i d. find-cut_other x.key b.key cs (apart b i) ∙ each b (inr i) d)
    (λ ds keeps. rest ds (λ b e n. elim (told_key x.key b.key) [
      | inl q ↦
          let A : Key → Type 0 = λ k. find k cs ≡ Some x in
          let z : Some x ≡ Some b = sym (subst A q.1 (each x (inl refl) c)) ∙ e in
          let same : x ≡ b = cc in
          absurd (n (inl (sym same)) (ap chosen (sym same) ∙ c))
      | inr q ↦ keeps b (find-cut_other x.key b.key cs q.1 ∙ e) (λ i. n (inr i))
    ]))) in
    subst P (sym (append_assoc (aborted_if (chosen x) why x) (sweep why chosen xs) more)) (go (chosen x) refl goes stays)
  where
    go : (t : Bool) → chosen x ≡ t → (chosen x ≡ true → AllStand (cut x.key cs) (sweep why chosen xs ++ more)) → AllStand cs (sweep why chosen xs ++ more) → AllStand cs (aborted_if t why x ++ (sweep why chosen xs ++ more))
    go true c goes stays = by_state_then why x (sweep why chosen xs ++ more) cs (x, each x (inl refl) c) (goes c) stays
    go false c goes stays = stays

stand_sweep : (why : Reason) (chosen : Branch → Bool) (cs : List Branch) → Unique cs → AllStand cs (sweep why chosen cs)
stand_sweep why chosen cs u =
    let P : List Act → Type 0 = λ acts. AllStand cs acts in
    subst P (append-nil (sweep why chosen cs)) (sweep_then why chosen cs cs [] u (λ b i c. stands_itself cs u b i) (λ ds keeps. tt))

-- two sweeps over the same branches, which choose different ones
stand_sweeps : (why : Reason) (one two : Branch → Bool) (cs : List Branch) → Unique cs → ((b : Branch) → one b ≡ true → two b ≡ true → ⊥) → AllStand cs (sweep why one cs ++ sweep why two cs)
stand_sweeps why one two cs u apart =
    sweep_then why one cs cs (sweep why two cs) u (λ b i c. stands_itself cs u b i)
    (λ ds keeps. let P : List Act → Type 0 = λ acts. AllStand ds acts in
    subst P (append-nil (sweep why two cs)) (sweep_then why two cs ds [] u (λ b i c. keeps b (stands_itself cs u b i) (λ j d. apart b d c)) (λ es kept. tt)))

not_both_first : (b : Branch) → is_first b ≡ true → not (is_first b) ≡ true → ⊥
not_both_first b e f = let z : true ≡ false = sym e ∙ not-true (is_first b) f in cc

-- the vote
stand_casts : (b : Branch) (bs : List Branch) → Here bs b → AllStand bs (casts_if_all b)
stand_casts b bs h = stand_if (all_replied b.managers) bs (casts b) [] (λ e. stand_if (b.changed || not (is_empty (holding b.managers))) bs (Prepares b ∷ (Sends (rows.up Yes b.key) ∷ [])) (Leaves b.key ∷ (Sends (rows.up ReadOnly b.key) ∷ []))
    (λ f. (record { branch = b; there = h.there; unprepared = h.unprepared }, (tt, tt))) (λ f. (record { branch = b; there = h.there; unprepared = h.unprepared; unchanged = left b.changed (not (is_empty (holding b.managers))) f }, (tt, tt)))) (λ e. tt)
  where
    left : (x y : Bool) → (x || y) ≡ false → x ≡ false
    left true y e = e
    left false y e = refl

stand_vote : (b : Branch) (bs : List Branch) → Here bs b → AllStand bs (begins_vote b)
stand_vote b bs h = (noted bs b (voting b) h refl refl refl, stand_after (tells PrepareEvent b.key (joined b.managers)) (casts_if_all (voting b)) (put (voting b) bs) (shown_tells PrepareEvent b.key (joined b.managers)) (stand_casts (voting b) (put (voting b) bs) (noted_here bs (voting b) refl)))

there_by : (k : Key) (bs : List Branch) (b : Branch) → find k bs ≡ Some b → IsThere bs b.key
there_by k bs b e = (b, ap (λ j. find j bs) (find-key k bs b e) ∙ e)

found_here : (bs : List Branch) (k : Key) (b : Branch) (s : State) → find k bs ≡ Some b → b.state ≡ s → is_prepared s ≡ false → Here bs b
found_here bs k b s e st un = record { there = ap (λ j. find j bs) (find-key k bs b e) ∙ e; unprepared = ap is_prepared st ∙ un }

-- Rows, by the branch that is found.

stand_note : (bs : List Branch) (f : Branch → Branch) → ((b : Branch) → ((f b).key ≡ b.key) × ((f b).state ≡ b.state) × ((f b).changed ≡ b.changed)) → (o : Option Branch) → ((b : Branch) → o ≡ Some b → find b.key bs ≡ Some b) → AllStand bs (rows.note_row f o)
stand_note bs f keeps None there = tt
stand_note bs f keeps (Some b) there = go b.state refl
  where
    go : (s : State) → b.state ≡ s → AllStand bs (rows.note_state f b s)
    go Active e = (noted bs b (f b) (record { there = there b refl; unprepared = ap is_prepared e }) (keeps b).0 (ap is_prepared ((keeps b).1 ∙ e)) (keeps b).2, tt)
    go Joining e = tt
    go Ending e = tt
    go Voting e = tt
    go Prepared e = tt

stand_join : (bs : List Branch) (m : Message) (o : Option Branch) → find (first m.tid) bs ≡ o → AllStand bs (rows.join_row m o)
stand_join bs m None e = (tt, tt)
stand_join bs m (Some b) e = go b.state refl m.bid
  where
    go : (s : State) → b.state ≡ s → (bid : Option Id) → AllStand bs (rows.join_state m b s bid)
    go Active st (Some bid) = stand_if (joined_as bid m.serial b.accepted) bs _ _ (λ q. (tt, tt)) (λ q. stand_if (list_any (λ x. same_id x bid) b.bids && not (has_bid bid b.accepted)) bs _ _
        (λ p. (noted bs b b (found_here bs (first m.tid) b Active e st refl) refl (ap is_prepared st) refl, (tt, tt))) (λ p. (tt, tt)))
    go Active st None = (tt, tt)
    go Ending st (Some bid) = stand_if (joined_as bid m.serial b.accepted) bs _ _ (λ q. (tt, tt)) (λ q. (tt, tt))
    go Ending st None = (tt, tt)
    go Joining st bid = (tt, tt)
    go Voting st bid = (tt, tt)
    go Prepared st bid = (tt, tt)

stand_join_ok : (bs : List Branch) (k : Key) (o : Option Branch) → find k bs ≡ o → AllStand bs (rows.join_ok_row o)
stand_join_ok bs k None e = tt
stand_join_ok bs k (Some b) e = go b.state refl
  where
    go : (s : State) → b.state ≡ s → AllStand bs (rows.join_ok_state b s)
    go Joining st = (noted bs b (record b { state = Active }) (found_here bs k b Joining e st refl) refl refl refl, (tt, tt))
    go Active st = tt
    go Ending st = tt
    go Voting st = tt
    go Prepared st = tt

stand_join_no : (bs : List Branch) (k : Key) (o : Option Branch) → find k bs ≡ o → AllStand bs (rows.join_no_row o)
stand_join_no bs k None e = tt
stand_join_no bs k (Some b) e = go b.state
  where
    out : AllStand bs (undone_quietly SyncFail b)
    out = stand_abort b.key (undone_quietly SyncFail b) bs (undone_is SyncFail b) (there_by k bs b e)

    go : (s : State) → AllStand bs (rows.join_no_state b s)
    go Joining = out
    go Active = out
    go Voting = out
    go Ending = tt
    go Prepared = tt

stand_end_trans : (bs : List Branch) (t : Id) (o : Option Branch) → find (first t) bs ≡ o → AllStand bs (rows.end_trans_row o)
stand_end_trans bs t None e = tt
stand_end_trans bs t (Some b) e = go b.state refl
  where
    go : (s : State) → b.state ≡ s → AllStand bs (rows.end_trans_state b s)
    go Active st = stand_if (all_taken b.bids b.accepted) bs (begins_ending b) (aborts SyncFail b)
        (λ q. (
          noted bs b (ending b) (found_here bs (first t) b Active e st refl) refl refl refl,
          stand_after (sends_all (to_each Prepare b.key.tid (serials b.accepted))) (tells (which_event b.changed b.accepted b.managers) b.key (joined b.managers) ++ commits_if_all (ending b) []) (put (ending b) bs) (shown_sends (to_each Prepare b.key.tid (serials b.accepted)))
              (stand_after (tells (which_event b.changed b.accepted b.managers) b.key (joined b.managers)) (commits_if_all (ending b) []) (put (ending b) bs) (shown_tells (which_event b.changed b.accepted b.managers) b.key (joined b.managers)) (stand_commits (ending b) [] (put (ending b) bs) (ending b, find-put (ending b) bs) tt)),
        ))
        (λ q. stand_abort b.key (aborts SyncFail b) bs (aborts_telling_is b.accepted SyncFail b) (there_by (first t) bs b e))
    go Joining st = tt
    go Ending st = tt
    go Voting st = tt
    go Prepared st = tt

stand_vote_row : (bs : List Branch) (t s : Id) (v : Kind) (o : Option Branch) → find (first t) bs ≡ o → AllStand bs (rows.vote_row s v o)
stand_vote_row bs t s v None e = tt
stand_vote_row bs t s v (Some b) e = go b.state refl
  where
    go : (z : State) → b.state ≡ z → AllStand bs (rows.vote_state s v b z)
    go Ending st = stand_if (list_any (λ c. lacks_vote s c) b.accepted) bs _ []
        (λ q. (noted bs b (with_vote s v b) (found_here bs (first t) b Ending e st refl) refl (ap is_prepared st) refl, stand_commits (with_vote s v b) (ended b b.state None) (put (with_vote s v b) bs) (with_vote s v b, find-put (with_vote s v b) bs) (shown_ended b b.state None))) (λ q. tt)
    go Joining st = tt
    go Active st = tt
    go Voting st = tt
    go Prepared st = tt

stand_no : (bs : List Branch) (k : Key) (s : Id) (o : Option Branch) → find k bs ≡ o → AllStand bs (rows.no_row s o)
stand_no bs k s None e = tt
stand_no bs k s (Some b) e = go b.state
  where
    out : AllStand bs (refused s b)
    out = stand_if (rows.has_serial s b.accepted) bs (aborts_telling (rows.others s b.accepted) Vetoed b) []
        (λ q. stand_abort b.key (aborts_telling (rows.others s b.accepted) Vetoed b) bs (aborts_telling_is (rows.others s b.accepted) Vetoed b) (there_by k bs b e)) (λ q. tt)

    go : (z : State) → AllStand bs (rows.no_state s b z)
    go Active = out
    go Ending = out
    go Joining = tt
    go Voting = tt
    go Prepared = tt

stand_prepare : (bs : List Branch) (m : Message) (o : Option Branch) → find (key_of m) bs ≡ o → AllStand bs (rows.prepare_row m o)
stand_prepare bs m None e = (tt, tt)
stand_prepare bs m (Some b) e = go b.state refl
  where
    votes : AllStand (put (asked_branch b) bs) (votes_if_ended b)
    votes = stand_if b.ended (put (asked_branch b) bs) (begins_vote (asked_branch b)) [] (λ q. stand_vote (asked_branch b) (put (asked_branch b) bs) (noted_here bs (asked_branch b) refl)) (λ q. tt)

    go : (s : State) → b.state ≡ s → AllStand bs (rows.prepare_state b s)
    go Joining st = (noted bs b (asked_branch b) (found_here bs (key_of m) b Joining e st refl) refl refl refl, (tt, votes))
    go Active st = (noted bs b (asked_branch b) (found_here bs (key_of m) b Active e st refl) refl refl refl, votes)
    go Prepared st = (tt, tt)
    go Ending st = tt
    go Voting st = tt

stand_end_branch : (bs : List Branch) (o : Option Branch) → ((b : Branch) → o ≡ Some b → find b.key bs ≡ Some b) → AllStand bs (rows.end_branch_row o)
stand_end_branch bs None there = tt
stand_end_branch bs (Some b) there = go b.state refl
  where
    go : (s : State) → b.state ≡ s → AllStand bs (rows.end_branch_state b s)
    go Active st =
        let un : is_prepared (ended_branch b).state ≡ false = ap is_prepared st in (
          noted bs b (ended_branch b) (record { there = there b refl; unprepared = ap is_prepared st }) refl un refl,
          stand_if b.asked (put (ended_branch b) bs) (begins_vote (ended_branch b)) [] (λ q. stand_vote (ended_branch b) (put (ended_branch b) bs) (noted_here bs (ended_branch b) un)) (λ q. tt),
        )
    go Joining st = tt
    go Ending st = tt
    go Voting st = tt
    go Prepared st = tt

stand_commit : (bs : List Branch) (m : Message) (o : Option Branch) → find (key_of m) bs ≡ o → AllStand bs (rows.commit_row m o)
stand_commit bs m None e = (tt, tt)
stand_commit bs m (Some b) e = go b.state
  where
    events : List Act
    events = tells CommitEvent b.key (holding b.managers)

    go : (s : State) → AllStand bs (rows.commit_state b s)
    go Prepared = (settles_there b ToCommit ByRequest bs [] (holding b.managers) (there_by (key_of m) bs b e), (tt, stand_shown events _ (shown_tells CommitEvent b.key (holding b.managers))))
    go Joining = tt
    go Active = tt
    go Ending = tt
    go Voting = tt

stand_abort_row : (bs : List Branch) (k : Key) (o : Option Branch) → find k bs ≡ o → AllStand bs (rows.abort_row o)
stand_abort_row bs k None e = tt
stand_abort_row bs k (Some b) e = go b.state
  where
    out : AllStand bs (undone_quietly ByRequest b)
    out = stand_abort b.key (undone_quietly ByRequest b) bs (undone_is ByRequest b) (there_by k bs b e)

    go : (s : State) → AllStand bs (rows.abort_state b s)
    go Ending = tt
    go Joining = out
    go Active = out
    go Voting = out
    go Prepared = out

stand_inquire : (bs : List Branch) (m : Message) (o : Option Branch) (rs : List LogRecord) → AllStand bs (rows.inquire_row m o rs)
stand_inquire bs m o rs = stand_if (list_any (λ r. same_id r.tid m.tid) rs) bs _ _ (λ q. (tt, tt)) (λ q. go o)
  where
    by_state : (b : Branch) (s : State) → AllStand bs (rows.answer_state m b s)
    by_state b Prepared = (tt, tt)
    by_state b Joining = tt
    by_state b Active = tt
    by_state b Ending = tt
    by_state b Voting = tt

    go : (x : Option Branch) → AllStand bs (rows.answer m x)
    go None = (tt, tt)
    go (Some b) = by_state b b.state

stand_reply : (bs : List Branch) (s : Id) (x : Name) (r : Reply) (o : Option Branch) (rs : List LogRecord) → ((b : Branch) → o ≡ Some b → find b.key bs ≡ Some b) → AllStand bs (rows.reply_row s x r o rs)
stand_reply bs s x r None rs there = stand_if (is_forget r && list_any (λ q. holds s x q) rs) bs _ [] (λ q. (tt, tt)) (λ q. tt)
stand_reply bs s x r (Some b) rs there = go b.state refl
  where
    go : (z : State) → b.state ≡ z → AllStand bs (rows.reply_state x r b z)
    go Ending st = stand_if (is_first b) bs (rows.first_reply x r b) [] (λ q. stand_if (is_veto r) bs _ _ (λ p. stand_abort b.key (aborts Vetoed (with_reply x r b)) bs (aborts_telling_is b.accepted Vetoed (with_reply x r b)) (b, there b refl))
        (λ p. (noted bs b (with_reply x r b) (record { there = there b refl; unprepared = ap is_prepared st }) refl (ap is_prepared st) refl, stand_commits (with_reply x r b) (ended b b.state None) (put (with_reply x r b) bs) (with_reply x r b, find-put (with_reply x r b) bs) (shown_ended b b.state None)))) (λ q. tt)
    go Voting st =
        let un : is_prepared (with_reply x r b).state ≡ false = ap is_prepared st in
        stand_if b.asked bs (rows.branch_reply x r b) [] (λ q. stand_if (is_veto r) bs _ _ (λ p. stand_abort b.key (refuses Vetoed (with_reply x r b)) bs (refuses_is Vetoed (with_reply x r b)) (b, there b refl))
        (λ p. (noted bs b (with_reply x r b) (record { there = there b refl; unprepared = ap is_prepared st }) refl un refl, stand_casts (with_reply x r b) (put (with_reply x r b) bs) (noted_here bs (with_reply x r b) un)))) (λ q. tt)
    go Joining st = tt
    go Active st = tt
    go Prepared st = tt

stand_authorise : (bs : List Branch) (t bid : Id) (o : Option Branch) → find (first t) bs ≡ o → AllStand bs (rows.authorise_row bid o)
stand_authorise bs t bid None e = tt
stand_authorise bs t bid (Some b) e = go b.state refl
  where
    go : (s : State) → b.state ≡ s → AllStand bs (rows.authorise_state bid b s)
    go Active st = (noted bs b (record b { bids = b.bids ++ bid ∷ [] }) (found_here bs (first t) b Active e st refl) refl (ap is_prepared st) refl, tt)
    go Joining st = tt
    go Ending st = tt
    go Voting st = tt
    go Prepared st = tt

stand_got : (tm : Tm) (m : Message) (d : Kind) → AllStand tm.table (got tm m d)
stand_got tm m Join = stand_join tm.table m (find (first m.tid) tm.table) refl
stand_got tm m JoinOk = stand_join_ok tm.table (key_of m) (find (key_of m) tm.table) refl
stand_got tm m JoinNo = stand_join_no tm.table (key_of m) (find (key_of m) tm.table) refl
stand_got tm m Prepare = stand_prepare tm.table m (find (key_of m) tm.table) refl
stand_got tm m Yes = stand_vote_row tm.table m.tid m.serial Yes (find (first m.tid) tm.table) refl
stand_got tm m ReadOnly = stand_vote_row tm.table m.tid m.serial ReadOnly (find (first m.tid) tm.table) refl
stand_got tm m No = stand_no tm.table (first m.tid) m.serial (find (first m.tid) tm.table) refl
stand_got tm m Commit = stand_commit tm.table m (find (key_of m) tm.table) refl
stand_got tm m Abort = stand_abort_row tm.table (key_of m) (find (key_of m) tm.table) refl
stand_got tm m Ack = stand_if (list_any (λ r. waits_for (key_of m) r) tm.records) tm.table _ [] (λ q. (tt, tt)) (λ q. tt)
stand_got tm m Inquire = stand_inquire tm.table m (find (first m.tid) tm.table) tm.records

by_serial : (tm : Tm) (s : Id) (b : Branch) → find_serial s tm.table ≡ Some b → find b.key tm.table ≡ Some b
by_serial tm s b e = find_serial-key s tm.table b e

pub rows_stand : (tm : Tm) (e : Event) → Unique tm.table → BeginsNothing e → AllStand tm.table (row tm e)
rows_stand tm (rows.Start t due) u h = absurd h
rows_stand tm (rows.Begin t s bid) u h = absurd h
rows_stand tm (rows.Changed s) u h = absurd h
rows_stand tm (rows.Authorise t bid) u h = stand_authorise tm.table t bid (find (first t) tm.table) refl
rows_stand tm (rows.JoinRm s x) u h = stand_note tm.table (rows.with_manager x) (λ b. (refl, refl, refl)) (find_serial s tm.table) (λ b e. by_serial tm s b e)
rows_stand tm (rows.EndTrans t) u h = stand_end_trans tm.table t (find (first t) tm.table) refl
rows_stand tm (rows.EndBranch s) u h = stand_end_branch tm.table (find_serial s tm.table) (λ b e. by_serial tm s b e)
rows_stand tm (rows.AbortBranch s why) u h = go (find_serial s tm.table) refl
  where
    go : (o : Option Branch) → find_serial s tm.table ≡ o → AllStand tm.table (rows.abort_branch_row why o)
    go None e = tt
    go (Some b) e =
        let P : List Act → Type 0 = λ acts. AllStand tm.table acts in
        subst P (append-nil (abort_by_state why b b.state)) (by_state_then why b [] tm.table (b, by_serial tm s b e) tt tt)
rows_stand tm (rows.Replied s x r) u h = stand_reply tm.table s x r (find_serial s tm.table) tm.records (λ b e. by_serial tm s b e)
rows_stand tm (rows.Got m) u h = stand_got tm m m.kind
rows_stand tm (rows.Clock now) u h = stand_sweep Timeout (is_due now) tm.table u
rows_stand tm (rows.LinkDown x) u h = stand_sweeps CommFail (is_cut_off x) (is_under x) tm.table u
    (λ b c d. not_both_first b (and_parts (is_first b) _ c).0 (and_parts (not (is_first b)) _ d).0)
rows_stand tm rows.RunDown u h = stand_sweeps SegFail is_first is_other tm.table u not_both_first
rows_stand tm (rows.InquireBranch s) u h = go (find_serial s tm.table)
  where
    by : (b : Branch) (z : State) → AllStand tm.table (rows.asks_state b z)
    by b Prepared = (tt, tt)
    by b Joining = tt
    by b Active = tt
    by b Ending = tt
    by b Voting = tt

    go : (o : Option Branch) → AllStand tm.table (rows.asks_row o)
    go None = tt
    go (Some b) = by b b.state
