-- The rows of beginnings, of joins and of aborts may be done.
use Rattle.std.proofs.lemmas.Bool.{and_parts, not-true}
use Rattle.std.specs.Prelude.{if◌then◌else◌, not, ◌&&◌}
use Rattle.std.specs.List.{list_any}
use Rattle.std.proofs.Common.{◌≡◌, Bool, true, false, List, [], ◌∷◌, ◌++◌, Option, Some, None, ◌⊎◌, inl, inr, refl, ap, sym, subst, ◌∙◌}
use Rattle.vms_model.specs.Ids.{Id}
use Rattle.vms_model.specs.Transactions.{Abort as ToAbort, Reason, SyncFail}
use Rattle.commit_protocol.specs.Messages.{Name, Kind, ReadOnly, No, Abort, Message, RmEvent, AbortEvent, same_id}
use Rattle.commit_protocol.specs.Table.{Key, Branch, State, Joining, Active, Ending, Voting, Prepared, Child, Manager, Act, Notes, Accepts, Settles, Sends, first, key_of, child, home_of, find, find_serial}
use Rattle.commit_protocol.specs.World.{World, In}
use Rattle.commit_protocol.specs.Agreement.{Gone, Running, phase_of, phase, View, view, IsRunning, IsDead, AreOld}
use Rattle.commit_protocol.specs.Rows.{down, up, sends_all, tells, interested, has_bid, joined_as, ended, unless_read_only, told_abort, aborts_telling, aborts, undone_quietly, refuses, refuses_join, grants_join, join_state, join_row, join_ok_state, join_ok_row, join_no_state, join_no_row, abort_running, abort_by_state, abort_branch_row, authorise_state, authorise_row}
use Rattle.commit_protocol.proofs.Lists.{find_serial-key, set_cases, told_key, told_id, find-key}
use Rattle.commit_protocol.proofs.Invariant.{Says, LacksBid, Noted, Inv, later_old}
use Rattle.commit_protocol.proofs.Settling.{settles, abort_back, abort_keeps, not_gone}
use Rattle.commit_protocol.proofs.Bridge.{acted, May, kept_act}
use Rattle.commit_protocol.proofs.Acting.{Good, MayAll, may_sends, may_append, acted_all}

-- the branch that a row found, in what agreement sees
pub record Found (v : View) (n : Name) (k : Key) (b : Branch) : Type 0 where
  pub at : v.at b.key ≡ Some b
  pub home : home_of b.key ≡ n
  pub key : b.key ≡ k

pub found : (w : World) (n : Name) (k : Key) (b : Branch) → Good w → find k (w.nodes n).table ≡ Some b → Found (view w) n k b
found w n k b g e =
    let key : b.key ≡ k = find-key k (w.nodes n).table b e in
    let home : home_of k ≡ n = g.home n k b e in
    let P : Name → Type 0 = λ m. find k (w.nodes m).table ≡ Some b in
    let Q : Key → Type 0 = λ x. find x (w.nodes (home_of x)).table ≡ Some b in
    record {
      at = subst Q (sym key) (subst P (sym home) e);
      home = ap home_of key ∙ home;
      key = key;
    }

pub found_serial : (w : World) (n : Name) (s : Id) (b : Branch) → Good w → find_serial s (w.nodes n).table ≡ Some b → Found (view w) n b.key b
found_serial w n s b g e = found w n b.key b g (find_serial-key s (w.nodes n).table b e)

pub runs : (v : View) (n : Name) (k : Key) (b : Branch) → Found v n k b → phase_of b.state ≡ Running → IsRunning v b.key
runs v n k b f p = ap phase f.at ∙ p

pub if_may : (n : Name) (t : Bool) (x y : List Act) (v : View) → (t ≡ true → MayAll n x v) → (t ≡ false → MayAll n y v) → MayAll n (if t then x else y) v
if_may n true x y v f g = f refl
if_may n false x y v f g = g refl

-- lines change nothing
pub may_tells : (n : Name) (e : RmEvent) (k : Key) (xs : List Name) (v : View) → MayAll n (tells e k xs) v
may_tells n e k [] v = tt
may_tells n e k (x ∷ xs) v = (tt, tt, may_tells n e k xs v)

pub at_tells : (n : Name) (e : RmEvent) (k : Key) (xs : List Name) (v : View) → acted_all n (tells e k xs) v ≡ v
at_tells n e k [] v = refl
at_tells n e k (x ∷ xs) v = at_tells n e k xs v

pub may_ended : (n : Name) (b : Branch) (s : State) (r : Option Reason) (v : View) → MayAll n (ended b s r) v
may_ended n b Ending r v = (tt, tt, tt)
may_ended n b _ r v = tt

pub at_ended : (n : Name) (b : Branch) (s : State) (r : Option Reason) (v : View) → acted_all n (ended b s r) v ≡ v
at_ended n b Ending r v = refl
at_ended n b _ r v = refl

in_tell : (o : Option Kind) (x m : Message) (rest : List Message) → In x (unless_read_only o m rest) → (x ≡ m) ⊎ In x rest
in_tell None x m rest h = h
in_tell (Some ReadOnly) x m rest h = inr h
in_tell (Some _) x m rest h = h

in_told : (t : Id) (cs : List Child) (x : Message) → In x (told_abort t cs) → (c : Child) × In c cs × (x ≡ down Abort (child t c.serial))
in_told t [] x h = absurd h
in_told t (c ∷ cs) x h = elim (in_tell c.vote x (down Abort (child t c.serial)) (told_abort t cs) h) [
  | inl e ↦ (c, inl refl, e)
  | inr e ↦ (let q = in_told t cs x e in q.0, inr (in_told t cs x e).1, (in_told t cs x e).2)
]

-- the first branch is aborted, and the transaction is dead when Abort is sent to some of its children; its managers may just have replied
pub may_aborts_telling : (v : View) (n : Name) (k : Key) (b : Branch) → Inv v → Found v n k b → phase_of b.state ≡ Running → b.key ≡ first b.key.tid → (cs : List Child) → ((c : Child) → In c cs → In c b.accepted)
    → (why : Reason) (ms : List Manager) → MayAll n (aborts_telling cs why (record b { managers = ms })) v
may_aborts_telling v n k b i f p top cs sub why ms =
    let c : Branch = record b { managers = ms } in
    let run : IsRunning v b.key = runs v n k b f p in
    let t : Id = b.key.tid in
    let w : View = settles v v.lost b.key ToAbort in
    let kept = abort_keeps v b.key i run in
    let old = i.old_at b.key (not_gone (v.at b.key) run) in
    let note : Noted v b = i.noted b.key b f.at p in
    let dead : IsDead w t = record {
      old = kept.later.old t old.tid;
      undecided = λ r. elim (set_cases b.key (first t) None v.at) [
        | inl e ↦ let z : Gone ≡ Running = sym (ap phase e.1) ∙ r in cc
        | inr e ↦ e.0 top
      ];
      commits = λ c. i.undecided t (let P : Key → Type 0 = λ x. IsRunning v x in subst P top run) (abort_back v v.lost b.key t c);
    } in
    let rest : List Act = tells AbortEvent b.key (interested ms) ++ ended c b.state (Some why) in
    let u : View = acted_all n (sends_all (told_abort t cs)) w in (
      f.home,
      inl run,
      may_append n (sends_all (told_abort t cs)) rest w
          (may_sends n (told_abort t cs) w (λ m h.
          let q = in_told t cs m h in
          let P : Message → Type 0 = λ x. Says w x.kind x.to (key_of x) × AreOld w (key_of x) in
          subst P (sym q.2) (inl dead, later_old v w kept.later (child t q.0.serial) (i.old_accepted (child t q.0.serial) (note.taken q.0 (sub q.0 q.1))))))
          (may_append n (tells AbortEvent b.key (interested ms)) (ended c b.state (Some why)) u
          (may_tells n AbortEvent b.key (interested ms) u)
          (may_ended n c b.state (Some why) (acted_all n (tells AbortEvent b.key (interested ms)) u))),
    )

pub may_aborts : (v : View) (n : Name) (k : Key) (b : Branch) → Inv v → Found v n k b → phase_of b.state ≡ Running → b.key ≡ first b.key.tid → (why : Reason) → MayAll n (aborts why b) v
may_aborts v n k b i f p top why = may_aborts_telling v n k b i f p top b.accepted (λ c h. h) why b.managers

-- a branch is aborted by its node
pub may_undone : (v : View) (n : Name) (k : Key) (b : Branch) → Inv v → Found v n k b → phase_of b.state ≡ Running → (why : Reason) → MayAll n (undone_quietly why b) v
may_undone v n k b i f p why = (f.home, inl (runs v n k b f p), may_tells n AbortEvent b.key (interested b.managers) (acted n (Settles b.key ToAbort why None) v))

pub may_refuses : (v : View) (n : Name) (k : Key) (b : Branch) → Inv v → Found v n k b → phase_of b.state ≡ Running → (why : Reason) (ms : List Manager) → MayAll n (refuses why (record b { managers = ms })) v
may_refuses v n k b i f p why ms =
    let run : IsRunning v b.key = runs v n k b f p in
    let w : View = settles v v.lost b.key ToAbort in
    (f.home, inl run, (tt, (tt, later_old v w (abort_keeps v b.key i run).later b.key (i.old_at b.key (not_gone (v.at b.key) run))), may_tells n AbortEvent b.key (interested ms) (acted n (Sends (up No b.key)) w)))

-- an identifier that no child has
pub lacks_bid : (bid : Id) (cs : List Child) → has_bid bid cs ≡ false → LacksBid bid cs
lacks_bid bid [] h c i e = i
lacks_bid bid (x ∷ cs) h c i e =
    elim (told_id x.bid bid) [
      | inl q ↦ let z : true ≡ false = (rw (q.0) at h) in cc
      | inr q ↦ let h' : has_bid bid cs ≡ false = rw (q.0) at h in elim i [
        | inl z ↦ q.1 (ap (λ (y : Child). y.bid) (sym z) ∙ e)
        | inr z ↦ lacks_bid bid cs h' c z e
      ]
    ]

-- a Join
pub may_join_state : (v : View) (n : Name) (m : Message) (b : Branch) → Inv v → Found v n (first m.tid) b → AreOld v (key_of m) → (s : State) → b.state ≡ s → (o : Option Id) → MayAll n (join_state m b s o) v
may_join_state v n m b i f old Active e (Some bid) =
    let p : phase_of b.state ≡ Running = ap phase_of e in
    let c : Child = record { bid = bid; serial = m.serial; vote = None } in
    let tid : b.key.tid ≡ m.tid = ap (λ (x : Key). x.tid) f.key in
    let old' : AreOld v (child b.key.tid m.serial) = (let P : Id → Type 0 = λ x. AreOld v (child x m.serial) in subst P (sym tid) old) in
    let top : b.key ≡ first b.key.tid = f.key ∙ ap first (sym tid) in
    let may : has_bid bid b.accepted ≡ false → May n (Accepts b c) v = λ h. (f.at, p, top, old', refl, lacks_bid bid b.accepted h) in
    if_may n (joined_as bid m.serial b.accepted) (grants_join m) (if list_any (λ x. same_id x bid) b.bids && not (has_bid bid b.accepted)
    then Accepts b c ∷ grants_join m
    else refuses_join m) v
    (λ h. (tt, (tt, old), tt))
    (λ h. if_may n (list_any (λ x. same_id x bid) b.bids && not (has_bid bid b.accepted)) (Accepts b c ∷ grants_join m) (refuses_join m) v
    (λ g. let free = may (not-true (has_bid bid b.accepted) (and_parts (list_any (λ x. same_id x bid) b.bids) (not (has_bid bid b.accepted)) g).1) in
    (f.home, free, (tt, (tt, later_old v (acted n (Accepts b c) v) (kept_act n (Accepts b c) v i free).later (key_of m) old), tt)))
    (λ g. (tt, (tt, old), tt)))
may_join_state v n m b i f old Ending e (Some bid) =
    if_may n (joined_as bid m.serial b.accepted) (grants_join m) (refuses_join m) v
    (λ h. (tt, (tt, old), tt)) (λ h. (tt, (tt, old), tt))
may_join_state v n m b i f old Joining e o = (tt, (tt, old), tt)
may_join_state v n m b i f old Active e None = (tt, (tt, old), tt)
may_join_state v n m b i f old Ending e None = (tt, (tt, old), tt)
may_join_state v n m b i f old Voting e o = (tt, (tt, old), tt)
may_join_state v n m b i f old Prepared e o = (tt, (tt, old), tt)

pub may_join_row : (w : World) (n : Name) (m : Message) → Good w → AreOld (view w) (key_of m) → (o : Option Branch) → find (first m.tid) (w.nodes n).table ≡ o → MayAll n (join_row m o) (view w)
may_join_row w n m g old None e = (tt, (tt, old), tt)
may_join_row w n m g old (Some b) e = may_join_state (view w) n m b g.inv (found w n (first m.tid) b g e) old b.state refl m.bid

-- a note that changes neither what is asked nor the children
pub may_notes : (v : View) (n : Name) (k : Key) (b c : Branch) → Inv v → Found v n k b → phase_of b.state ≡ Running → phase_of c.state ≡ Running → c.key ≡ b.key → c.asked ≡ b.asked → c.accepted ≡ b.accepted → May n (Notes c) v
may_notes v n k b c i f p q key asked accepted =
    let note : Noted v b = i.noted b.key b f.at p in
    let K : Key → Type 0 = λ x. IsRunning v x in
    let A : Key → Bool → List Child → Type 0 = λ x a cs. Noted v (record { key = x; bid = c.bid; state = c.state; changed = c.changed; ended = c.ended; asked = a; bids = c.bids; accepted = cs; managers = c.managers; due = c.due }) in
    let base : A b.key b.asked b.accepted = record { asked = note.asked; voted = note.voted; taken = note.taken; single = note.single; all = note.all } in
    let s1 : A c.key b.asked b.accepted = (let P : Key → Type 0 = λ x. A x b.asked b.accepted in subst P (sym key) base) in
    let s2 : A c.key c.asked b.accepted = (let P : Bool → Type 0 = λ x. A c.key x b.accepted in subst P (sym asked) s1) in
    let s3 : A c.key c.asked c.accepted = (let P : List Child → Type 0 = λ x. A c.key c.asked x in subst P (sym accepted) s2) in
    (subst K (sym key) (runs v n k b f p), q, s3)

-- the answer to a Join
may_join_ok_state : (v : View) (n : Name) (k : Key) (b : Branch) → Inv v → Found v n k b → (s : State) → b.state ≡ s → MayAll n (join_ok_state b s) v
may_join_ok_state v n k b i f Joining e = (f.home, may_notes v n k b (record b { state = Active }) i f (ap phase_of e) refl refl refl refl, (tt, tt, tt))
may_join_ok_state v n k b i f _ e = tt

pub may_join_ok_row : (w : World) (n : Name) (k : Key) → Good w → (o : Option Branch) → find k (w.nodes n).table ≡ o → MayAll n (join_ok_row o) (view w)
may_join_ok_row w n k g None e = tt
may_join_ok_row w n k g (Some b) e = may_join_ok_state (view w) n k b g.inv (found w n k b g e) b.state refl

may_join_no_state : (v : View) (n : Name) (k : Key) (b : Branch) → Inv v → Found v n k b → (s : State) → b.state ≡ s → MayAll n (join_no_state b s) v
may_join_no_state v n k b i f Joining e = may_undone v n k b i f (ap phase_of e) SyncFail
may_join_no_state v n k b i f Active e = may_undone v n k b i f (ap phase_of e) SyncFail
may_join_no_state v n k b i f Voting e = may_undone v n k b i f (ap phase_of e) SyncFail
may_join_no_state v n k b i f Ending e = tt
may_join_no_state v n k b i f Prepared e = tt

pub may_join_no_row : (w : World) (n : Name) (k : Key) → Good w → (o : Option Branch) → find k (w.nodes n).table ≡ o → MayAll n (join_no_row o) (view w)
may_join_no_row w n k g None e = tt
may_join_no_row w n k g (Some b) e = may_join_no_state (view w) n k b g.inv (found w n k b g e) b.state refl

pub is_top : (v : View) (n : Name) (t : Id) (b : Branch) → Found v n (first t) b → b.key ≡ first b.key.tid
is_top v n t b f = f.key ∙ ap first (sym (ap (λ (x : Key). x.tid) f.key))

-- an abort of an undecided transaction or of another branch
may_abort_running : (v : View) (n : Name) (k : Key) (b : Branch) → Inv v → Found v n k b → phase_of b.state ≡ Running → (why : Reason) → MayAll n (abort_running why b) v
may_abort_running v n k b i f p why =
    elim (told_key b.key (first b.key.tid)) [
      | inl e ↦ rw (e.0) (may_aborts v n k b i f p e.1 why)
      | inr e ↦ rw (e.0) (may_refuses v n k b i f p why b.managers)
    ]

pub may_abort_by_state : (v : View) (n : Name) (k : Key) (b : Branch) → Inv v → Found v n k b → (why : Reason) → (s : State) → b.state ≡ s → MayAll n (abort_by_state why b s) v
may_abort_by_state v n k b i f why Prepared e = tt
may_abort_by_state v n k b i f why Joining e = may_abort_running v n k b i f (ap phase_of e) why
may_abort_by_state v n k b i f why Active e = may_abort_running v n k b i f (ap phase_of e) why
may_abort_by_state v n k b i f why Ending e = may_abort_running v n k b i f (ap phase_of e) why
may_abort_by_state v n k b i f why Voting e = may_abort_running v n k b i f (ap phase_of e) why

pub may_abort_branch_row : (w : World) (n : Name) (s : Id) (why : Reason) → Good w → (o : Option Branch) → find_serial s (w.nodes n).table ≡ o → MayAll n (abort_branch_row why o) (view w)
may_abort_branch_row w n s why g None e = tt
may_abort_branch_row w n s why g (Some b) e = may_abort_by_state (view w) n b.key b g.inv (found_serial w n s b g e) why b.state refl

-- a further branch is authorised
may_authorise_state : (v : View) (n : Name) (t bid : Id) (b : Branch) → Inv v → Found v n (first t) b → (s : State) → b.state ≡ s → MayAll n (authorise_state bid b s) v
may_authorise_state v n t bid b i f Active e = (f.home, may_notes v n (first t) b (record b { bids = b.bids ++ bid ∷ [] }) i f (ap phase_of e) (ap phase_of e) refl refl refl, tt)
may_authorise_state v n t bid b i f _ e = tt

pub may_authorise_row : (w : World) (n : Name) (t bid : Id) → Good w → (o : Option Branch) → find (first t) (w.nodes n).table ≡ o → MayAll n (authorise_row bid o) (view w)
may_authorise_row w n t bid g None e = tt
may_authorise_row w n t bid g (Some b) e = may_authorise_state (view w) n t bid b g.inv (found w n (first t) b g e) b.state refl
