-- An event waits for the reply of a resource manager only where the branch takes it: a first branch that is ending, or one that was asked and votes.
use Rattle.std.proofs.Common.{◌≡◌, ◌⊎◌, ℕ, Bool, true, false, not, ◌&&◌, ◌||◌, List, [], ◌∷◌, ◌++◌, inl, inr, Option, Some, None, if◌then◌else◌, refl, sym, ◌∙◌, ap, subst}
use Rattle.std.specs.List.{list_any}
use Rattle.std.specs.Prelude.{is_some}
use Rattle.std.proofs.lemmas.Bool.{and_parts, both_ways}
use Rattle.vms_model.specs.Ids.{Id}
use Rattle.vms_model.specs.Transactions.{Reason, Vetoed, SyncFail, Timeout, CommFail, SegFail, Aborted}
use Rattle.commit_protocol.specs.Messages.{Name, Kind, Join, JoinOk, JoinNo, Prepare, Yes, ReadOnly, No, Commit, Abort, Ack, Inquire, Message, RmEvent, PrepareEvent, CommitEvent, AbortEvent, Reply, LogRecord, same_id, same_name}
use Rattle.commit_protocol.specs.Table.{Key, Branch, State, Joining, Active, Ending, Voting, Prepared, Child, Manager, Act, Notes, Accepts, Prepares, Leaves, Acknowledges, Releases, Sends, Tm, first, key_of, is_first, find, find_serial, same_key, waits_for, holds, holding}
use Rattle.commit_protocol.specs.Rows.{down, up, sends_all, to_each, tells, joined, interested, serials, yes_of, all_voted, all_replied, blank, is_replied, note_reply, has_bid, has_serial, asks, others, all_taken, joined_as, ended, told_abort, aborts_telling, aborts, undone_quietly, refuses, commits, commits_if_all, refuses_join, grants_join, join_state, join_row, join_ok_state, join_ok_row, join_no_state, join_no_row, which_event, ending, begins_ending, end_trans_state, end_trans_row, abort_running, abort_by_state, abort_branch_row, authorise_state, authorise_row, lacks_vote, with_vote, vote_state, vote_row, refused, no_state, no_row, answer_state, answer, inquire_row, is_empty, casts, casts_if_all, voting, begins_vote, asked_branch, votes_if_ended, prepare_state, prepare_row, ended_branch, end_branch_state, end_branch_row, commit_state, commit_row, abort_state, abort_row, with_reply, is_veto, is_forget, first_reply, branch_reply, reply_state, reply_row, note_state, has_changed, note_row, with_manager, asks_state, asks_row, aborted_if, sweep, is_due, is_cut_off, is_under, is_other, got, row, Event, Start, Authorise, Begin, JoinRm, Changed, EndTrans, EndBranch, AbortBranch, Replied, Got, Clock, LinkDown, RunDown, InquireBranch}
use Rattle.commit_protocol.specs.World.{In}
use Rattle.commit_protocol.proofs.Lists.{find-key, in_parts, same_key-refl}
use Rattle.run_laws.proofs.Noting.{find_in, serial_in}

-- an event waits only so, and then no reply is noted
abbrev pub WaitsSo : Branch → Type 0
WaitsSo b = (m : Manager) (e : RmEvent) → In m b.managers → m.event ≡ Some e → (m.reply ≡ None) × (((b.state ≡ Ending) × (is_first b ≡ true)) ⊎ ((b.state ≡ Voting) × (b.asked ≡ true)))

-- none waits
abbrev pub IsQuiet : Branch → Type 0
IsQuiet b = (m : Manager) (e : RmEvent) → In m b.managers → m.event ≡ Some e → ⊥

some_none : {A : Type 0} {x : A} → None ≡ Some x → ⊥
some_none e = let no : false ≡ true = ap is_some e in let none : ⊥ = cc in none

-- where each has replied none waits
replied_in : (ms : List Manager) (m : Manager) → all_replied ms ≡ true → In m ms → is_replied m.reply ≡ true
replied_in [] m e i = absurd i
replied_in (x ∷ ms) m e (inl same) = ap (λ (y : Manager). is_replied y.reply) same ∙ (and_parts (is_replied x.reply) (all_replied ms) e).0
replied_in (x ∷ ms) m e (inr i) = replied_in ms m (and_parts (is_replied x.reply) (all_replied ms) e).1 i

pub quiet_of : (b : Branch) → WaitsSo b → all_replied b.managers ≡ true → IsQuiet b
quiet_of b h all m e i is = both_ways (is_replied m.reply) (ap is_replied (h m e i is).0) (replied_in b.managers m all i)

-- nor where the branch is active or joining
abbrev awaits : State → Bool
awaits Ending = true
awaits Voting = true
awaits _ = false

quiet_in : (b : Branch) → WaitsSo b → awaits b.state ≡ false → IsQuiet b
quiet_in b h e m v i is = elim (h m v i is).1 [
  | inl x ↦ both_ways (awaits b.state) e (ap awaits x.0)
  | inr x ↦ both_ways (awaits b.state) e (ap awaits x.0)
]

calm : (b x : Branch) → x.managers ≡ b.managers → IsQuiet b → WaitsSo x
calm b x same q m e i is = absurd (q m e (subst (In m) same i) is)

-- managers that are asked
asked_unreplied : (e : RmEvent) (ms : List Manager) (m : Manager) → In m (asks e ms) → m.reply ≡ None
asked_unreplied e [] m i = absurd i
asked_unreplied e (x ∷ ms) m (inl same) = ap (λ (y : Manager). y.reply) same
asked_unreplied e (x ∷ ms) m (inr i) = asked_unreplied e ms m i

voting_so : (b : Branch) → b.asked ≡ true → WaitsSo (voting b)
voting_so b a m e i is = (asked_unreplied PrepareEvent b.managers m i, inr (refl, a))

ending_so : (b : Branch) → is_first b ≡ true → WaitsSo (ending b)
ending_so b f m e i is = (asked_unreplied (which_event b.changed b.accepted b.managers) b.managers m i, inl (refl, f))

-- one that has replied waits no more, and the others as before
noted_event : (x : Name) (r : Reply) (ms : List Manager) (m : Manager) (e : RmEvent) → In m (note_reply x r ms) → m.event ≡ Some e → In m ms
noted_event x r [] m e i is = absurd i
noted_event x r (y ∷ ms) m e i is = go (same_name y.rm x) i (λ j. noted_event x r ms m e j is)
  where
    go : (b : Bool) → In m (if b then record y { event = None; reply = Some r } ∷ ms else y ∷ note_reply x r ms) → (In m (note_reply x r ms) → In m ms) → In m (y ∷ ms)
    go true (inl same) more = absurd (some_none (sym (ap (λ (z : Manager). z.event) same) ∙ is))
    go true (inr j) more = inr j
    go false (inl same) more = inl same
    go false (inr j) more = inr (more j)

replied_so : (x : Name) (r : Reply) (b : Branch) → WaitsSo b → WaitsSo (with_reply x r b)
replied_so x r b h m e i is = h m e (noted_event x r b.managers m e i is) is

joined_so : (x : Name) (b : Branch) → WaitsSo b → WaitsSo (with_manager x b)
joined_so x b h m e i is = elim (in_parts m b.managers (record { rm = x; event = None; reply = None } ∷ []) i) [
  | inl old ↦ h m e old is
  | inr new ↦ elim new [ inl same ↦ absurd (some_none (sym (ap (λ (z : Manager). z.event) same) ∙ is)) | inr none ↦ absurd none ]
]

pub blank_so : (t s : Id) (bid : Option Id) (state : State) (due : Option ℕ) → WaitsSo (blank t s bid state due)
blank_so t s bid state due m e i is = absurd i

-- what an act notes or prepares is so; so is all that these acts do
abbrev pub HoldsIn : Act → Type 0
HoldsIn (Notes b) = WaitsSo b
HoldsIn (Accepts b c) = WaitsSo b
HoldsIn (Prepares b) = IsQuiet b
HoldsIn _ = Unit {0}

abbrev pub AllHold : List Act → Type 0
AllHold [] = Unit {0}
AllHold (a ∷ acts) = HoldsIn a × AllHold acts

-- so it is of a branch that was found
abbrev FoundSo : Option Branch → Type 0
FoundSo o = (b : Branch) → o ≡ Some b → WaitsSo b

-- a test with what it tells
if_hold : (t : Bool) (x y : List Act) → (t ≡ true → AllHold x) → (t ≡ false → AllHold y) → AllHold (if t then x else y)
if_hold true x y f g = f refl
if_hold false x y f g = g refl

append_hold : (xs ys : List Act) → AllHold xs → AllHold ys → AllHold (xs ++ ys)
append_hold [] ys f g = g
append_hold (a ∷ xs) ys f g = (f.0, append_hold xs ys f.1 g)

sends_hold : (ms : List Message) → AllHold (sends_all ms)
sends_hold [] = tt
sends_hold (m ∷ ms) = (tt, sends_hold ms)

tells_hold : (v : RmEvent) (k : Key) (xs : List Name) → AllHold (tells v k xs)
tells_hold v k [] = tt
tells_hold v k (x ∷ xs) = (tt, tells_hold v k xs)

ended_hold : (b : Branch) (s : State) (reason : Option Reason) → AllHold (ended b s reason)
ended_hold b Ending reason = (tt, tt)
ended_hold b _ reason = tt

aborts_hold : (cs : List Child) (why : Reason) (b : Branch) → AllHold (aborts_telling cs why b)
aborts_hold cs why b = (
  tt,
  append_hold (sends_all (told_abort b.key.tid cs)) (tells AbortEvent b.key (interested b.managers) ++ ended b b.state (Some why)) (sends_hold (told_abort b.key.tid cs))
      (append_hold (tells AbortEvent b.key (interested b.managers)) (ended b b.state (Some why)) (tells_hold AbortEvent b.key (interested b.managers)) (ended_hold b b.state (Some why))),
)

undone_hold : (why : Reason) (b : Branch) → AllHold (undone_quietly why b)
undone_hold why b = (tt, tells_hold AbortEvent b.key (interested b.managers))

refuses_hold : (why : Reason) (b : Branch) → AllHold (refuses why b)
refuses_hold why b = (tt, (tt, tells_hold AbortEvent b.key (interested b.managers)))

commits_hold : (b : Branch) (shown : List Act) → AllHold shown → AllHold (commits_if_all b shown)
commits_hold b shown h =
    if_hold (all_voted b.accepted && all_replied b.managers) (commits b shown) [] (λ t. (
      tt,
      append_hold (sends_all (to_each Commit b.key.tid (yes_of b.accepted))) (tells CommitEvent b.key (holding b.managers) ++ shown) (sends_hold (to_each Commit b.key.tid (yes_of b.accepted)))
          (append_hold (tells CommitEvent b.key (holding b.managers)) shown (tells_hold CommitEvent b.key (holding b.managers)) h),
    )) (λ t. tt)

casts_hold : (b : Branch) → WaitsSo b → AllHold (casts_if_all b)
casts_hold b h = if_hold (all_replied b.managers) (casts b) [] (λ t. if_hold (b.changed || not (is_empty (holding b.managers))) (Prepares b ∷ (Sends (up Yes b.key) ∷ [])) (Leaves b.key ∷ (Sends (up ReadOnly b.key) ∷ [])) (λ u. (quiet_of b h t, (tt, tt))) (λ u. (tt, (tt, tt)))) (λ t. tt)

votes_hold : (b : Branch) → WaitsSo (voting b) → AllHold (begins_vote b)
votes_hold b h = (h, append_hold (tells PrepareEvent b.key (joined b.managers)) (casts_if_all (voting b)) (tells_hold PrepareEvent b.key (joined b.managers)) (casts_hold (voting b) h))

join_hold : (m : Message) (o : Option Branch) → FoundSo o → AllHold (join_row m o)
join_hold m None h = (tt, tt)
join_hold m (Some b) h = go b.state m.bid
  where
    go : (s : State) (o : Option Id) → AllHold (join_state m b s o)
    go Active (Some bid) = if_hold (joined_as bid m.serial b.accepted) (grants_join m)
        (if list_any (λ x. same_id x bid) b.bids && not (has_bid bid b.accepted) then Accepts b (record { bid = bid; serial = m.serial; vote = None }) ∷ grants_join m else refuses_join m) (λ t. (tt, tt))
        (λ t. if_hold (list_any (λ x. same_id x bid) b.bids && not (has_bid bid b.accepted)) (Accepts b (record { bid = bid; serial = m.serial; vote = None }) ∷ grants_join m) (refuses_join m) (λ u. (h b refl, (tt, tt))) (λ u. (tt, tt)))
    go Ending (Some bid) = if_hold (joined_as bid m.serial b.accepted) (grants_join m) (refuses_join m) (λ t. (tt, tt)) (λ t. (tt, tt))
    go Active None = (tt, tt)
    go Ending None = (tt, tt)
    go Joining bid = (tt, tt)
    go Voting bid = (tt, tt)
    go Prepared bid = (tt, tt)

join_ok_hold : (o : Option Branch) → FoundSo o → AllHold (join_ok_row o)
join_ok_hold None h = tt
join_ok_hold (Some b) h = go b.state refl
  where
    go : (s : State) → b.state ≡ s → AllHold (join_ok_state b s)
    go Joining e = (calm b (record b { state = Active }) refl (quiet_in b (h b refl) (ap awaits e)), (tt, tt))
    go _ e = tt

join_no_hold : (o : Option Branch) → AllHold (join_no_row o)
join_no_hold None = tt
join_no_hold (Some b) = go b.state
  where
    go : (s : State) → AllHold (join_no_state b s)
    go Joining = undone_hold SyncFail b
    go Active = undone_hold SyncFail b
    go Voting = undone_hold SyncFail b
    go Ending = tt
    go Prepared = tt

prepare_hold : (m : Message) (o : Option Branch) → FoundSo o → AllHold (prepare_row m o)
prepare_hold m None h = (tt, tt)
prepare_hold m (Some b) h = go b.state refl
  where
    asked_votes : AllHold (votes_if_ended b)
    asked_votes = if_hold b.ended (begins_vote (asked_branch b)) [] (λ t. votes_hold (asked_branch b) (voting_so (asked_branch b) refl)) (λ t. tt)

    asked_so : awaits b.state ≡ false → WaitsSo (asked_branch b)
    asked_so e = calm b (asked_branch b) refl (quiet_in b (h b refl) e)

    go : (s : State) → b.state ≡ s → AllHold (prepare_state b s)
    go Joining e = (asked_so (ap awaits e), (tt, asked_votes))
    go Active e = (asked_so (ap awaits e), asked_votes)
    go Prepared e = (tt, tt)
    go Ending e = tt
    go Voting e = tt

vote_hold : (s : Id) (v : Kind) (o : Option Branch) → FoundSo o → AllHold (vote_row s v o)
vote_hold s v None h = tt
vote_hold s v (Some b) h = go b.state
  where
    go : (z : State) → AllHold (vote_state s v b z)
    go Ending = if_hold (list_any (λ c. lacks_vote s c) b.accepted) (Notes (with_vote s v b) ∷ commits_if_all (with_vote s v b) (ended b b.state None)) []
        (λ t. (h b refl, commits_hold (with_vote s v b) (ended b b.state None) (ended_hold b b.state None))) (λ t. tt)
    go _ = tt

no_hold : (s : Id) (o : Option Branch) → AllHold (no_row s o)
no_hold s None = tt
no_hold s (Some b) = go b.state
  where
    aborted : AllHold (refused s b)
    aborted = if_hold (has_serial s b.accepted) (aborts_telling (others s b.accepted) Vetoed b) [] (λ t. aborts_hold (others s b.accepted) Vetoed b) (λ t. tt)

    go : (z : State) → AllHold (no_state s b z)
    go Active = aborted
    go Ending = aborted
    go _ = tt

commit_hold : (m : Message) (o : Option Branch) → AllHold (commit_row m o)
commit_hold m None = (tt, tt)
commit_hold m (Some b) = go b.state
  where
    go : (s : State) → AllHold (commit_state b s)
    go Prepared = (tt, (tt, tells_hold CommitEvent b.key (holding b.managers)))
    go _ = tt

abort_hold : (o : Option Branch) → AllHold (abort_row o)
abort_hold None = tt
abort_hold (Some b) = go b.state
  where
    go : (s : State) → AllHold (abort_state b s)
    go Ending = tt
    go _ = undone_hold Aborted b

inquire_hold : (m : Message) (o : Option Branch) (rs : List LogRecord) → AllHold (inquire_row m o rs)
inquire_hold m o rs = if_hold (list_any (λ r. same_id r.tid m.tid) rs) (Sends (down Commit (key_of m)) ∷ []) (answer m o) (λ t. (tt, tt)) (λ t. answers o)
  where
    by_state : (b : Branch) (s : State) → AllHold (answer_state m b s)
    by_state b Prepared = (tt, tt)
    by_state b _ = tt

    answers : (o : Option Branch) → AllHold (answer m o)
    answers None = (tt, tt)
    answers (Some b) = by_state b b.state

authorise_hold : (bid : Id) (o : Option Branch) → FoundSo o → AllHold (authorise_row bid o)
authorise_hold bid None h = tt
authorise_hold bid (Some b) h = go b.state
  where
    go : (s : State) → AllHold (authorise_state bid b s)
    go Active = (h b refl, tt)
    go _ = tt

end_trans_hold : (o : Option Branch) → ((b : Branch) → o ≡ Some b → is_first b ≡ true) → AllHold (end_trans_row o)
end_trans_hold None h = tt
end_trans_hold (Some b) h = go b.state
  where
    go : (s : State) → AllHold (end_trans_state b s)
    go Active = if_hold (all_taken b.bids b.accepted) (begins_ending b) (aborts SyncFail b) (λ t. (
      ending_so b (h b refl),
      append_hold (sends_all (to_each Prepare b.key.tid (serials b.accepted))) (tells (which_event b.changed b.accepted b.managers) b.key (joined b.managers) ++ commits_if_all (ending b) []) (sends_hold (to_each Prepare b.key.tid (serials b.accepted)))
          (append_hold (tells (which_event b.changed b.accepted b.managers) b.key (joined b.managers)) (commits_if_all (ending b) []) (tells_hold (which_event b.changed b.accepted b.managers) b.key (joined b.managers)) (commits_hold (ending b) [] tt)),
    )) (λ t. aborts_hold b.accepted SyncFail b)
    go _ = tt

end_branch_hold : (o : Option Branch) → FoundSo o → AllHold (end_branch_row o)
end_branch_hold None h = tt
end_branch_hold (Some b) h = go b.state
  where
    go : (s : State) → AllHold (end_branch_state b s)
    go Active = (h b refl, if_hold b.asked (begins_vote (ended_branch b)) [] (λ t. votes_hold (ended_branch b) (voting_so (ended_branch b) t)) (λ t. tt))
    go _ = tt

reply_hold : (s : Id) (x : Name) (r : Reply) (o : Option Branch) (rs : List LogRecord) → FoundSo o → AllHold (reply_row s x r o rs)
reply_hold s x r None rs h = if_hold (is_forget r && list_any (λ q. holds s x q) rs) (Releases s x ∷ []) [] (λ t. (tt, tt)) (λ t. tt)
reply_hold s x r (Some b) rs h = go b.state
  where
    so : WaitsSo (with_reply x r b)
    so = replied_so x r b (h b refl)

    at_first : AllHold (first_reply x r b)
    at_first = if_hold (is_veto r) (aborts Vetoed (with_reply x r b)) (Notes (with_reply x r b) ∷ commits_if_all (with_reply x r b) (ended b b.state None)) (λ t. aborts_hold b.accepted Vetoed (with_reply x r b)) (λ t. (so, commits_hold (with_reply x r b) (ended b b.state None) (ended_hold b b.state None)))

    at_other : AllHold (branch_reply x r b)
    at_other = if_hold (is_veto r) (refuses Vetoed (with_reply x r b)) (Notes (with_reply x r b) ∷ casts_if_all (with_reply x r b)) (λ t. refuses_hold Vetoed (with_reply x r b)) (λ t. (so, casts_hold (with_reply x r b) so))

    go : (z : State) → AllHold (reply_state x r b z)
    go Ending = if_hold (is_first b) (first_reply x r b) [] (λ t. at_first) (λ t. tt)
    go Voting = if_hold b.asked (branch_reply x r b) [] (λ t. at_other) (λ t. tt)
    go _ = tt

note_hold : (f : Branch → Branch) (o : Option Branch) → ((b : Branch) → o ≡ Some b → WaitsSo (f b)) → AllHold (note_row f o)
note_hold f None h = tt
note_hold f (Some b) h = go b.state
  where
    go : (s : State) → AllHold (note_state f b s)
    go Active = (h b refl, tt)
    go _ = tt

asks_hold : (o : Option Branch) → AllHold (asks_row o)
asks_hold None = tt
asks_hold (Some b) = go b.state
  where
    go : (s : State) → AllHold (asks_state b s)
    go Prepared = (tt, tt)
    go _ = tt

running_hold : (why : Reason) (b : Branch) → AllHold (abort_running why b)
running_hold why b = if_hold (is_first b) (aborts why b) (refuses why b) (λ t. aborts_hold b.accepted why b) (λ t. refuses_hold why b)

by_state_hold : (why : Reason) (b : Branch) (s : State) → AllHold (abort_by_state why b s)
by_state_hold why b Prepared = tt
by_state_hold why b _ = running_hold why b

abort_branch_hold : (why : Reason) (o : Option Branch) → AllHold (abort_branch_row why o)
abort_branch_hold why None = tt
abort_branch_hold why (Some b) = by_state_hold why b b.state

sweep_hold : (why : Reason) (chosen : Branch → Bool) (bs : List Branch) → AllHold (sweep why chosen bs)
sweep_hold why chosen [] = tt
sweep_hold why chosen (b ∷ bs) = append_hold (aborted_if (chosen b) why b) (sweep why chosen bs) (go (chosen b)) (sweep_hold why chosen bs)
  where
    go : (t : Bool) → AllHold (aborted_if t why b)
    go true = by_state_hold why b b.state
    go false = tt

first_so : (t : Id) (b : Branch) → b.key ≡ first t → is_first b ≡ true
first_so t b key = subst (λ (k : Key). same_key k (first k.tid) ≡ true) (sym key) (same_key-refl (first t))

-- so it is of all that a row notes and prepares
pub row_holds : (tm : Tm) (e : Event) → ((b : Branch) → In b tm.table → WaitsSo b) → AllHold (row tm e)
row_holds tm e h = go e
  where
    found : (k : Key) → FoundSo (find k tm.table)
    found k b f = h b (find_in k tm.table b f)

    found_serial : (s : Id) → FoundSo (find_serial s tm.table)
    found_serial s b f = h b (serial_in s tm.table b f)

    message : (m : Message) (d : Kind) → AllHold (got tm m d)
    message m Join = join_hold m (find (first m.tid) tm.table) (found (first m.tid))
    message m JoinOk = join_ok_hold (find (key_of m) tm.table) (found (key_of m))
    message m JoinNo = join_no_hold (find (key_of m) tm.table)
    message m Prepare = prepare_hold m (find (key_of m) tm.table) (found (key_of m))
    message m Yes = vote_hold m.serial Yes (find (first m.tid) tm.table) (found (first m.tid))
    message m ReadOnly = vote_hold m.serial ReadOnly (find (first m.tid) tm.table) (found (first m.tid))
    message m No = no_hold m.serial (find (first m.tid) tm.table)
    message m Commit = commit_hold m (find (key_of m) tm.table)
    message m Abort = abort_hold (find (key_of m) tm.table)
    message m Ack = if_hold (list_any (λ r. waits_for (key_of m) r) tm.records) (Acknowledges (key_of m) ∷ []) [] (λ t. (tt, tt)) (λ t. tt)
    message m Inquire = inquire_hold m (find (first m.tid) tm.table) tm.records

    go : (e : Event) → AllHold (row tm e)
    go (Start t due) = (blank_so t t None Active due, tt)
    go (Authorise t bid) = authorise_hold bid (find (first t) tm.table) (found (first t))
    go (Begin t s bid) = (blank_so t s (Some bid) Joining None, (tt, tt))
    go (JoinRm s x) = note_hold (with_manager x) (find_serial s tm.table) (λ b f. joined_so x b (found_serial s b f))
    go (Changed s) = note_hold has_changed (find_serial s tm.table) (found_serial s)
    go (EndTrans t) = end_trans_hold (find (first t) tm.table) (λ b f. first_so t b (find-key (first t) tm.table b f))
    go (EndBranch s) = end_branch_hold (find_serial s tm.table) (found_serial s)
    go (AbortBranch s why) = abort_branch_hold why (find_serial s tm.table)
    go (Replied s x r) = reply_hold s x r (find_serial s tm.table) tm.records (found_serial s)
    go (Got m) = message m m.kind
    go (Clock now) = sweep_hold Timeout (is_due now) tm.table
    go (LinkDown x) = append_hold (sweep CommFail (is_cut_off x) tm.table) (sweep CommFail (is_under x) tm.table) (sweep_hold CommFail (is_cut_off x) tm.table) (sweep_hold CommFail (is_under x) tm.table)
    go RunDown = append_hold (sweep SegFail is_first tm.table) (sweep SegFail is_other tm.table) (sweep_hold SegFail is_first tm.table) (sweep_hold SegFail is_other tm.table)
    go (InquireBranch s) = asks_hold (find_serial s tm.table)
