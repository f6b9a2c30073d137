-- What is not prepared is aborted by the run-down, and what is prepared is settled by the answer to its question.
use Rattle.std.proofs.lemmas.Bool.{cases_Bool}
use Rattle.std.specs.Prelude.{if◌then◌else◌, not}
use Rattle.std.specs.List.{list_any}
use Rattle.std.proofs.Common.{◌≡◌, ◌≢◌, Bool, true, false, List, [], ◌∷◌, ◌++◌, Option, Some, None, ◌⊎◌, inl, inr, refl, ap, sym, subst, ◌∙◌}
use Rattle.vms_model.specs.Ids.{Id}
use Rattle.vms_model.specs.Transactions.{Outcome, Commit as ToCommit, Abort as ToAbort, Reason, Aborted, SegFail}
use Rattle.commit_protocol.specs.Messages.{Name, Kind, No, Commit, Abort, Ack, Inquire, Message, CommitEvent, AbortEvent, LogRecord, same_id}
use Rattle.commit_protocol.specs.Table.{Key, Branch, State, Joining, Active, Ending, Voting, Prepared, Act, Notes, Accepts, Prepares, Settles, Leaves, Acknowledges, Releases, Undoes, Sends, Prints, Tm, after, after_act, first, coordinator_of, home_of, is_first, find, find_serial, cut, holding}
use Rattle.commit_protocol.specs.World.{World, In, acts, acts_all, tm_at, Does, At, Comes, Given, run, happens, done, plan_if}
use Rattle.commit_protocol.specs.Agreement.{Running, phase_of, phase}
use Rattle.commit_protocol.specs.Rows.{down, up, sends_all, tells, interested, ended, told_abort, aborts, refuses, owing, abort_running, abort_by_state, answer_state, answer, commit_state, commit_row, abort_state, abort_row, asks_state, asks_row, aborted_if, sweep, is_other, got, row, Event, Got, RunDown, InquireBranch}
use Rattle.commit_protocol.specs.Allowed.{allowed, there_is, is_prepared}
use Rattle.commit_protocol.specs.Settling.{inquiry, run_down, IsOut}
use Rattle.commit_protocol.proofs.Lists.{told_key, find-cut, find_serial-key}
use Rattle.commit_protocol.proofs.Following.{tables_follow}
use Rattle.commit_protocol.proofs.WithinRows.{IsShown, after_shown, shown_tells, IsEasy, easy_tells, easy_aborts, easy_sweep}

in_cut : (x : Branch) (k : Key) (bs : List Branch) → In x (cut k bs) → In x bs × (x.key ≢ k)
in_cut x k [] h = absurd h
in_cut x k (y ∷ ys) h =
    elim (told_key y.key k) [
      | inl e ↦ let h' : In x (cut k ys) = rw (e.0) at h in let q = in_cut x k ys h' in (inr q.0, q.1)
      | inr e ↦ let h' : In x (y ∷ cut k ys) = rw (e.0) at h in elim h' [
        | inl z ↦ (inl z, λ q. e.1 (ap (λ (b : Branch). b.key) (sym z) ∙ q))
        | inr z ↦ let q = in_cut x k ys z in (inr q.0, q.1)
      ]
    ]

-- after a node's acts its table is that of the rows, and it is up as before
node_tm : (w : World) (n : Name) (todo : List Act) → ((acts_all n todo w).nodes n).table ≡ (after todo (tm_at w n)).table
node_tm w n todo = ap (λ (t : Tm). t.table) (tables_follow w n todo)

-- acts that settle, send and show take no branch in
in_after : (acts : List Act) (tm : Tm) (b : Branch) → IsEasy acts → In b (after acts tm).table → In b tm.table
in_after [] tm b h i = i
in_after (Sends m ∷ acts) tm b h i = in_after acts tm b h i
in_after (Prints l ∷ acts) tm b h i = in_after acts tm b h i
in_after (Settles k o why None ∷ acts) tm b h i = (in_cut b k tm.table (in_after acts (after_act (Settles k o why None) tm) b h i)).0
in_after (Settles k o why (Some r) ∷ acts) tm b h i = absurd h
in_after (Notes c ∷ acts) tm b h i = absurd h
in_after (Accepts c d ∷ acts) tm b h i = absurd h
in_after (Prepares c ∷ acts) tm b h i = absurd h
in_after (Leaves k ∷ acts) tm b h i = absurd h
in_after (Acknowledges k ∷ acts) tm b h i = absurd h
in_after (Releases s x ∷ acts) tm b h i = absurd h
in_after (Undoes k ∷ acts) tm b h i = absurd h

after_append : (xs ys : List Act) (tm : Tm) → after (xs ++ ys) tm ≡ after ys (after xs tm)
after_append [] ys tm = refl
after_append (a ∷ xs) ys tm = after_append xs ys (after_act a tm)

-- a branch that is aborted is there no more
aborted_gone : (why : Reason) (x b : Branch) (tm : Tm) → (x.state ≢ Prepared) → In b (after (abort_by_state why x x.state) tm).table → b.key ≢ x.key
aborted_gone why x b tm ne i = go x.state refl i
  where
    running : In b (after (abort_running why x) tm).table → b.key ≢ x.key
    running j = by (is_first x) refl
      where
        by : (t : Bool) → is_first x ≡ t → b.key ≢ x.key
        by true e =
            let P : Bool → Type 0 = λ t. In b (after (if t then aborts why x else refuses why x) tm).table in
            let rest : List Act = sends_all (told_abort x.key.tid x.accepted) ++ (tells AbortEvent x.key (interested x.managers) ++ ended x x.state (Some why)) in
            (in_cut b x.key tm.table (in_after rest (after_act (Settles x.key ToAbort why None) tm) b (easy_aborts x.accepted why x) (subst P e j))).1
        by false e =
            let P : Bool → Type 0 = λ t. In b (after (if t then aborts why x else refuses why x) tm).table in
            let rest : List Act = Sends (up No x.key) ∷ tells AbortEvent x.key (interested x.managers) in
            (in_cut b x.key tm.table (in_after rest (after_act (Settles x.key ToAbort why None) tm) b (easy_tells AbortEvent x.key (interested x.managers)) (subst P e j))).1

    go : (s : State) → x.state ≡ s → In b (after (abort_by_state why x s) tm).table → b.key ≢ x.key
    go Prepared e j = absurd (ne e)
    go Joining e j = running j
    go Active e j = running j
    go Ending e j = running j
    go Voting e j = running j

swept_gone : (why : Reason) (chosen : Branch → Bool) (bs : List Branch) (x b : Branch) (tm : Tm) → In x bs → chosen x ≡ true → x.state ≢ Prepared → In b (after (sweep why chosen bs) tm).table → b.key ≢ x.key
swept_gone why chosen [] x b tm h c ne i = absurd h
swept_gone why chosen (y ∷ ys) x b tm h c ne i =
    let one : List Act = aborted_if (chosen y) why y in
    let T : Tm → Type 0 = λ t. In b t.table in
    let i' : In b (after (sweep why chosen ys) (after one tm)).table = subst T (after_append one (sweep why chosen ys) tm) i in
    elim h [
      | inl e ↦
          let j : In b (after one tm).table = in_after (sweep why chosen ys) (after one tm) b (easy_sweep why chosen ys) i' in
          let C : Branch → Type 0 = λ z. chosen z ≡ true in
          let B : Bool → Type 0 = λ t. In b (after (aborted_if t why y) tm).table in
          let N : Branch → Type 0 = λ z. z.state ≢ Prepared in
          let K : Branch → Type 0 = λ z. b.key ≢ z.key in
          subst K (sym e) (aborted_gone why y b tm (subst N e ne) (subst B (subst C e c) j))
      | inr e ↦ swept_gone why chosen ys x b (after one tm) e c ne i'
    ]

state_or : (s : State) → (s ≡ Prepared) ⊎ (s ≢ Prepared)
state_or Prepared = inl refl
state_or Joining = inr (λ e. cc)
state_or Active = inr (λ e. cc)
state_or Ending = inr (λ e. cc)
state_or Voting = inr (λ e. cc)

-- what the run-down leaves
left_prepared : (tm : Tm) (b : Branch) → In b (after (row tm RunDown) tm).table → b.state ≡ Prepared
left_prepared tm b i =
    let one : List Act = sweep SegFail is_first tm.table in
    let two : List Act = sweep SegFail is_other tm.table in
    let T : Tm → Type 0 = λ t. In b t.table in
    let i' : In b (after two (after one tm)).table = subst T (after_append one two tm) i in
    let j : In b (after one tm).table = in_after two (after one tm) b (easy_sweep SegFail is_other tm.table) i' in
    let was : In b tm.table = in_after one tm b (easy_sweep SegFail is_first tm.table) j in
    elim (state_or b.state) [
      | inl e ↦ e
      | inr ne ↦ absurd (elim (cases_Bool (is_first b)) [
        | inl e ↦ swept_gone SegFail is_first tm.table b b tm was e ne j refl
        | inr e ↦ swept_gone SegFail is_other tm.table b b (after one tm) was (ap not e) ne i' refl
      ])
    ]

pub run_down_prepared : (w : World) (n : Name) → (w.nodes n).up ≡ true → (b : Branch) → In b ((run_down n w).nodes n).table → b.state ≡ Prepared
run_down_prepared w n up b i =
    let P : Bool → Type 0 = λ t. In b ((if t then acts_all n (row (tm_at w n) RunDown) w else w).nodes n).table in
    let i' : In b ((acts_all n (row (tm_at w n) RunDown) w).nodes n).table = subst P up i in
    let Q : List Branch → Type 0 = λ bs. In b bs in
    left_prepared (tm_at w n) b (subst Q (node_tm w n (row (tm_at w n) RunDown)) i')

-- the branch asks
is_asked : (w : World) (n : Name) (s : Id) (b : Branch) → (w.nodes n).up ≡ true → find_serial s (w.nodes n).table ≡ Some b → b.state ≡ Prepared
    → happens w (Does (At n (Given (InquireBranch s)))) ≡ record w { sent = up Inquire b.key ∷ w.sent }
is_asked w n s b alive e st =
    let ev : Event = InquireBranch s in
    let may : allowed (tm_at w n) ev ≡ true = ap (λ (o : Option Branch). there_is o (λ x. is_prepared x.state)) e ∙ ap is_prepared st in
    let acts : row (tm_at w n) ev ≡ Sends (up Inquire b.key) ∷ [] = ap asks_row e ∙ ap (asks_state b) st in
    ap (λ (t : Bool). done w (plan_if t n w w ev)) may
    ∙ (ap (λ (t : Bool). if t then acts_all n (row (tm_at w n) ev) w else w) alive
    ∙ ap (λ (todo : List Act). acts_all n todo w) acts)

-- the coordinator answers
pub record Answers (w : World) (k : Key) : Type 0 where
  pub kind : Kind
  pub either : (kind ≡ Commit) ⊎ (kind ≡ Abort)
  pub sends : row (tm_at w (coordinator_of k)) (Got (up Inquire k)) ≡ Sends (down kind k) ∷ []

is_answered : (w : World) (k : Key) → (phase (find (first k.tid) (w.nodes (coordinator_of k)).table) ≢ Running) → Answers w k
is_answered w k idle = by (list_any (λ r. same_id r.tid k.tid) rs) refl (find (first k.tid) bs) refl
  where
    rs : List LogRecord
    rs = (w.nodes (coordinator_of k)).records

    bs : List Branch
    bs = (w.nodes (coordinator_of k)).table

    by : (t : Bool) → list_any (λ r. same_id r.tid k.tid) (w.nodes (coordinator_of k)).records ≡ t → (o : Option Branch) → find (first k.tid) (w.nodes (coordinator_of k)).table ≡ o → Answers w k
    by true e o f = record { kind = Commit; either = inl refl; sends = ap (λ (t : Bool). if t then Sends (down Commit k) ∷ [] else answer (up Inquire k) (find (first k.tid) (w.nodes (coordinator_of k)).table)) e }
    by false e None f = record {
      kind = Abort;
      either = inr refl;
      sends = ap (λ (t : Bool). if t then Sends (down Commit k) ∷ [] else answer (up Inquire k) (find (first k.tid) (w.nodes (coordinator_of k)).table)) e ∙ ap (answer (up Inquire k)) f;
    }
    by false e (Some x) f = record {
      kind = Abort;
      either = inr refl;
      sends = ap (λ (t : Bool). if t then Sends (down Commit k) ∷ [] else answer (up Inquire k) (find (first k.tid) (w.nodes (coordinator_of k)).table)) e ∙ (ap (answer (up Inquire k)) f ∙ by_state x.state refl);
    }
      where
        by_state : (s : State) → x.state ≡ s → answer_state (up Inquire k) x s ≡ Sends (down Abort k) ∷ []
        by_state Prepared h = refl
        by_state Joining h = absurd (idle (ap phase f ∙ ap phase_of h))
        by_state Active h = absurd (idle (ap phase f ∙ ap phase_of h))
        by_state Ending h = absurd (idle (ap phase f ∙ ap phase_of h))
        by_state Voting h = absurd (idle (ap phase f ∙ ap phase_of h))

-- the last message that was sent comes
comes_first : (w : World) (m : Message) (rest : List Message) → (w.nodes m.to).up ≡ true
    → (let x : World = record w { sent = m ∷ rest } in happens x (Does (Comes 0)) ≡ acts_all m.to (row (tm_at w m.to) (Got m)) x)
comes_first w m rest alive = ap (λ (t : Bool). (let x : World = record w { sent = m ∷ rest } in if t then acts_all m.to (row (tm_at w m.to) (Got m)) x else x)) alive

-- messages and lines settle nothing
settled_shown : (n : Name) (acts : List Act) (w : World) → IsShown acts → (acts_all n acts w).settled ≡ w.settled
settled_shown n [] w h = refl
settled_shown n (Sends m ∷ todo) w h = settled_shown n todo (acts n (Sends m) w) h
settled_shown n (Prints l ∷ todo) w h = settled_shown n todo w h
settled_shown n (Settles k o why r ∷ todo) w h = absurd h
settled_shown n (Notes b ∷ todo) w h = absurd h
settled_shown n (Accepts b c ∷ todo) w h = absurd h
settled_shown n (Prepares b ∷ todo) w h = absurd h
settled_shown n (Leaves k ∷ todo) w h = absurd h
settled_shown n (Acknowledges k ∷ todo) w h = absurd h
settled_shown n (Releases s x ∷ todo) w h = absurd h
settled_shown n (Undoes k ∷ todo) w h = absurd h

-- the branch is settled by an act and what is shown after it
settled_out : (w : World) (k : Key) (o : Outcome) (why : Reason) (r : Option LogRecord) (rest : List Act) → IsShown rest → IsOut (acts_all (home_of k) (Settles k o why r ∷ rest) w) k
settled_out w k o why r rest h =
    let n : Name = home_of k in
    let tm : Tm = after_act (Settles k o why r) (tm_at w n) in
    let table : ((acts_all n (Settles k o why r ∷ rest) w).nodes n).table ≡ cut k (w.nodes n).table = node_tm w n (Settles k o why r ∷ rest) ∙ ap (λ (t : Tm). t.table) (after_shown rest tm h) in
    let P : List (Key × Outcome) → Type 0 = λ ss. In (k, o) ss in
    (ap (find k) table ∙ find-cut k (w.nodes n).table, (o, subst P (sym (settled_shown n rest (acts n (Settles k o why r) w) h)) (inl refl)))

answered_out : (w : World) (b : Branch) (d : Kind) → (d ≡ Commit) ⊎ (d ≡ Abort) → find b.key (w.nodes (home_of b.key)).table ≡ Some b → b.state ≡ Prepared
    → IsOut (acts_all (home_of b.key) (got (tm_at w (home_of b.key)) (down d b.key) d) w) b.key
answered_out w b d (inl e) f st =
    let n : Name = home_of b.key in
    let G : Kind → Type 0 = λ x. IsOut (acts_all n (got (tm_at w n) (down x b.key) x) w) b.key in
    let P : List Act → Type 0 = λ todo. IsOut (acts_all n todo w) b.key in
    let acts : commit_row (down Commit b.key) (find b.key (w.nodes n).table) ≡ commit_state b Prepared = ap (commit_row (down Commit b.key)) f ∙ ap (commit_state b) st in
    subst G (sym e) (subst P (sym acts) (settled_out w b.key ToCommit Aborted (owing b.key [] (holding b.managers)) (Sends (up Ack b.key) ∷ tells CommitEvent b.key (holding b.managers)) (shown_tells CommitEvent b.key (holding b.managers))))
answered_out w b d (inr e) f st =
    let n : Name = home_of b.key in
    let G : Kind → Type 0 = λ x. IsOut (acts_all n (got (tm_at w n) (down x b.key) x) w) b.key in
    let P : List Act → Type 0 = λ todo. IsOut (acts_all n todo w) b.key in
    let acts : abort_row (find b.key (w.nodes n).table) ≡ abort_state b Prepared = ap abort_row f ∙ ap (abort_state b) st in
    subst G (sym e) (subst P (sym acts) (settled_out w b.key ToAbort Aborted None (tells AbortEvent b.key (interested b.managers)) (shown_tells AbortEvent b.key (interested b.managers))))

pub inquiry_settles : (w : World) (b : Branch) → (w.nodes (home_of b.key)).up ≡ true → (w.nodes (coordinator_of b.key)).up ≡ true
    → find_serial b.key.serial (w.nodes (home_of b.key)).table ≡ Some b → b.state ≡ Prepared → (phase (find (first b.key.tid) (w.nodes (coordinator_of b.key)).table) ≢ Running)
    → IsOut (run (inquiry (home_of b.key) b.key.serial) w) b.key
inquiry_settles w b here there e st idle =
    let n : Name = home_of b.key in
    let k : Key = b.key in
    let ask : Message = up Inquire k in
    let w1 : World = record w { sent = ask ∷ w.sent } in
    let a = is_answered w k idle in
    let reply : Message = down a.kind k in
    let w2 : World = record w { sent = reply ∷ (ask ∷ w.sent) } in
    let one : happens w (Does (At n (Given (InquireBranch k.serial)))) ≡ w1 = is_asked w n k.serial b here e st in
    let two : happens w1 (Does (Comes 0)) ≡ w2 = comes_first w ask w.sent there ∙ ap (λ (todo : List Act). acts_all (coordinator_of k) todo w1) a.sends in
    let three : happens w2 (Does (Comes 0)) ≡ acts_all n (got (tm_at w n) reply a.kind) w2 = comes_first w reply (ask ∷ w.sent) here in
    let P : World → Type 0 = λ x. IsOut x k in
    let all : run (inquiry n k.serial) w ≡ acts_all n (got (tm_at w n) reply a.kind) w2 =
    ap (λ (x : World). happens (happens x (Does (Comes 0))) (Does (Comes 0))) one
    ∙ (ap (λ (x : World). happens x (Does (Comes 0))) two ∙ three) in
    subst P (sym all) (answered_out w2 b a.kind a.either (find_serial-key k.serial (w.nodes n).table b e) st)
