-- The rows after the vote, and what a manager replies.
use Rattle.std.proofs.lemmas.Bool.{cases_Bool, and_parts}
use Rattle.std.specs.Prelude.{◌&&◌}
use Rattle.std.specs.List.{list_any}
use Rattle.std.proofs.Common.{◌≡◌, ◌≢◌, true, false, List, [], ◌∷◌, Option, Some, None, ◌⊎◌, inl, inr, refl, ap, sym, subst, ◌∙◌}
use Rattle.vms_model.specs.Ids.{Id}
use Rattle.vms_model.specs.Transactions.{Outcome, Commit as ToCommit, Abort as ToAbort, Aborted, Vetoed}
use Rattle.commit_protocol.specs.Messages.{Name, Commit, Ack, Message, CommitEvent, AbortEvent, Reply, LogRecord, same_id}
use Rattle.commit_protocol.specs.Table.{Key, Branch, State, Joining, Active, Ending, Voting, Prepared, Act, Notes, Settles, Acknowledges, Releases, Sends, first, key_of, home_of, find, find_serial, without, nothing_left, keep_record, waits_for, holds, acknowledged, acknowledge, holding}
use Rattle.commit_protocol.specs.World.{World, In}
use Rattle.commit_protocol.specs.Agreement.{Gone, Running, Ready, phase_of, phase, View, view, IsReady, IsCommitted, IsReadOnly, IsAccepted, Commits, IsDead, IsSure, AreOld}
use Rattle.commit_protocol.specs.Rows.{down, up, interested, ended, aborts, refuses, owing, commits_if_all, ack_row, answer_state, answer, inquire_row, casts_if_all, commit_state, commit_row, abort_state, abort_row, note_reply, with_reply, is_veto, is_forget, first_reply, branch_reply, reply_state, reply_row, note_state, note_row, asks_state, asks_row}
use Rattle.commit_protocol.proofs.Lists.{same_id-true, told_key, told_id, cases_name}
use Rattle.commit_protocol.proofs.Invariant.{Inv, held_sure, later_old}
use Rattle.commit_protocol.proofs.Sending.{notes}
use Rattle.commit_protocol.proofs.Settling.{not_gone_ready, not_both}
use Rattle.commit_protocol.proofs.Voting.{Taken}
use Rattle.commit_protocol.proofs.Bridge.{acted, May, kept_act, records_at, records_here, records_away, some_left}
use Rattle.commit_protocol.proofs.Acting.{Good, MayAll}
use Rattle.commit_protocol.proofs.JoinRows.{Found, found, found_serial, if_may, may_notes, may_aborts_telling, may_refuses, may_undone, may_tells, may_ended}
use Rattle.commit_protocol.proofs.VoteRows.{refound, may_commits_if_all, may_casts_if_all}

-- taking a serial out of a list
in_without : (s : Id) (ws : List Id) (x : Id) → In x (without s ws) → In x ws
in_without s [] x h = h
in_without s (w ∷ ws) x h =
    elim (cases_Bool (same_id w s)) [
      | inl e ↦ let h' : In x (without s ws) = rw e at h in inr (in_without s ws x h')
      | inr e ↦ let h' : In x (w ∷ without s ws) = rw e at h in elim h' [ inl z ↦ inl z | inr z ↦ inr (in_without s ws x z) ]
    ]

without_in : (s : Id) (ws : List Id) (x : Id) → s ≢ x → In x ws → In x (without s ws)
without_in s [] x ne h = h
without_in s (w ∷ ws) x ne h =
    elim (told_id w s) [
      | inl e ↦ rw (e.0) (elim h [ inl z ↦ absurd (ne (sym e.1 ∙ sym z)) | inr z ↦ without_in s ws x ne z ])
      | inr e ↦ rw (e.0) (elim h [ inl z ↦ inl z | inr z ↦ inr (without_in s ws x ne z) ])
    ]

-- what an Ack takes out
acknowledge_from : (k : Key) (rs : List LogRecord) (r : LogRecord) → In r (acknowledge k rs) → (q : LogRecord) × In q rs × (q.tid ≡ r.tid) × ((s : Id) → In s r.waiting → In s q.waiting)
acknowledge_from k [] r h = absurd h
acknowledge_from k (q ∷ rs) r h =
    let same : In r rs → (o : LogRecord) × In o (q ∷ rs) × (o.tid ≡ r.tid) × ((s : Id) → In s r.waiting → In s o.waiting) = λ i. (r, inr i, refl, λ s t. t) in
    let c : LogRecord = acknowledged k q in
    elim (cases_Bool (waits_for k q)) [
      | inl e ↦ let h' : In r (keep_record c rs) = rw e at h in
          elim (cases_Bool (nothing_left c.waiting c.rms)) [
            | inl f ↦ let g : In r rs = rw f at h' in same g
            | inr f ↦ let g : In r (c ∷ rs) = rw f at h' in elim g [
              | inl z ↦ (q, inl refl, ap (λ (y : LogRecord). y.tid) (sym z), λ s t. in_without k.serial q.waiting s (let T : LogRecord → Type 0 = λ y. In s y.waiting in subst T z t))
              | inr z ↦ same z
            ]
          ]
      | inr e ↦ let h' : In r (q ∷ acknowledge k rs) = rw e at h in elim h' [
        | inl z ↦ (q, inl refl, ap (λ (y : LogRecord). y.tid) (sym z), λ s t. let T : LogRecord → Type 0 = λ y. In s y.waiting in subst T z t)
        | inr z ↦ let o = acknowledge_from k rs r z in (o.0, inr o.1, o.2, o.3)
      ]
    ]

acknowledge_kept : (k x : Key) (rs : List LogRecord) → k ≢ x → (r : LogRecord) → In r rs → r.tid ≡ x.tid → In x.serial r.waiting → (q : LogRecord) × In q (acknowledge k rs) × (q.tid ≡ x.tid) × In x.serial q.waiting
acknowledge_kept k x [] ne r i e h = absurd i
acknowledge_kept k x (q ∷ rs) ne r i e h =
    let c : LogRecord = acknowledged k q in
    elim (cases_Bool (waits_for k q)) [
      | inl f ↦ elim i [
        | inl z ↦
            let h' : In x.serial q.waiting = (let T : LogRecord → Type 0 = λ y. In x.serial y.waiting in subst T z h) in
            let tid : q.tid ≡ x.tid = ap (λ (y : LogRecord). y.tid) (sym z) ∙ e in
            let same_tid : q.tid ≡ k.tid = same_id-true q.tid k.tid (and_parts (same_id q.tid k.tid) (list_any (λ s. same_id s k.serial) q.waiting) f).0 in
            let differ : k.serial ≢ x.serial = λ s. ne (let a : k.tid ≡ x.tid = sym same_tid ∙ tid in λ j. record { tid = a j; serial = s j }) in
            let w : In x.serial c.waiting = without_in k.serial q.waiting x.serial differ h' in
            (c, rw (f, some_left x.serial c.waiting c.rms w) (inl refl), tid, w)
        | inr z ↦ (r, rw f (elim (cases_Bool (nothing_left c.waiting c.rms)) [ inl g ↦ rw g z | inr g ↦ rw g (inr z) ]), e, h)
      ]
      | inr f ↦ elim i [
        | inl z ↦ (q, rw f (inl refl), ap (λ (y : LogRecord). y.tid) (sym z) ∙ e, (let T : LogRecord → Type 0 = λ y. In x.serial y.waiting in subst T z h))
        | inr z ↦ let o = acknowledge_kept k x rs ne r z e h in (o.0, rw f (inr o.1), o.2, o.3)
      ]
    ]

taken : (v : View) (n : Name) (k : Key) → Taken v k (records_at n (acknowledge k (v.records n)) v.records)
taken v n k =
    let recs : Name → List LogRecord = records_at n (acknowledge k (v.records n)) v.records in
    let here = records_here n (acknowledge k (v.records n)) v.records in
    let away = records_away n (acknowledge k (v.records n)) v.records in record {
      from = λ m r h. elim (cases_name m n) [
        | inl e ↦ let P : Name → Type 0 = λ y. In r (recs y) in let T : List LogRecord → Type 0 = λ y. In r y in
            let R : Name → Type 0 = λ y. (q : LogRecord) × In q (v.records y) × (q.tid ≡ r.tid) × ((s : Id) → In s r.waiting → In s q.waiting) in
            subst R (sym e) (acknowledge_from k (v.records n) r (subst T here (subst P e h)))
        | inr e ↦ let T : List LogRecord → Type 0 = λ y. In r y in (r, subst T (away m e) h, refl, λ s t. t)
      ];
      kept = λ m x ne h. elim (cases_name m n) [
        | inl e ↦ let Q : Name → Type 0 = λ z. In h.0 (v.records z) in
            let o = acknowledge_kept k x (v.records n) ne h.0 (subst Q e h.1) h.2 h.3 in
            let P : Name → Type 0 = λ z. In o.0 (recs z) in let T : List LogRecord → Type 0 = λ z. In o.0 z in
            (o.0, subst P (sym e) (subst T (sym here) o.1), o.2, o.3)
        | inr e ↦ let T : List LogRecord → Type 0 = λ z. In h.0 z in (h.0, subst T (sym (away m e)) h.1, h.2, h.3)
      ];
    }

pub may_ack_row : (w : World) (n : Name) (k : Key) → IsCommitted (view w) k → MayAll n (ack_row k (w.nodes n).records) (view w)
may_ack_row w n k c = if_may n (list_any (λ r. waits_for k r) (w.nodes n).records) (Acknowledges k ∷ []) [] (view w) (λ h. (tt, (c, taken (view w) n k), tt)) (λ h. tt)

-- whether the transaction is committed
in_settled : (k : Key) (ss : List (Key × Outcome)) → In (k, ToCommit) ss ⊎ (In (k, ToCommit) ss → ⊥)
in_settled k [] = inr (λ h. h)
in_settled k ((j, o) ∷ ss) =
    elim (in_settled k ss) [
      | inl h ↦ inl (inr h)
      | inr h ↦ elim (told_key j k) [
        | inl e ↦ by_outcome o e.1 h
        | inr e ↦ inr (λ g. elim g [ inl z ↦ e.1 (sym (ap (λ (q : Key × Outcome). q.0) z)) | inr z ↦ h z ])
      ]
    ]
  where
    by_outcome : (o : Outcome) → j ≡ k → (In (k, ToCommit) ss → ⊥) → In (k, ToCommit) ((j, o) ∷ ss) ⊎ (In (k, ToCommit) ((j, o) ∷ ss) → ⊥)
    by_outcome ToCommit e h = inl (inl (ap (λ (x : Key). (x, ToCommit)) (sym e)))
    by_outcome ToAbort e h = inr (λ g. elim g [ inl z ↦ (let q : ToCommit ≡ ToAbort = ap (λ (q : Key × Outcome). q.1) z in cc) | inr z ↦ h z ])

in_shown : (t : Id) (ts : List Id) → In t ts ⊎ (In t ts → ⊥)
in_shown t [] = inr (λ h. h)
in_shown t (u ∷ ts) =
    elim (in_shown t ts) [
      | inl h ↦ inl (inr h)
      | inr h ↦ elim (told_id u t) [
        | inl e ↦ inl (inl (sym e.1))
        | inr e ↦ inr (λ g. elim g [ inl z ↦ e.1 (sym z) | inr z ↦ h z ])
      ]
    ]

pub commits_or : (v : View) (t : Id) → Commits v t ⊎ (Commits v t → ⊥)
commits_or v t =
    elim (in_settled (first t) v.settled) [
      | inl h ↦ inl (inl h)
      | inr h ↦ elim (in_shown t v.shown) [
        | inl g ↦ inl (inr g)
        | inr g ↦ inr (λ c. elim c [ inl z ↦ h z | inr z ↦ g z ])
      ]
    ]

record_in : (t : Id) (rs : List LogRecord) → list_any (λ q. same_id q.tid t) rs ≡ true → (r : LogRecord) × In r rs × (r.tid ≡ t)
record_in t [] h = absurd cc
record_in t (r ∷ rs) h =
    elim (told_id r.tid t) [
      | inl e ↦ (r, inl refl, e.1)
      | inr e ↦ let h' : list_any (λ q. same_id q.tid t) rs ≡ true = rw (e.0) at h in (let q = record_in t rs h' in q.0, inr (record_in t rs h').1, (record_in t rs h').2)
    ]

no_record : (t : Id) (rs : List LogRecord) → list_any (λ q. same_id q.tid t) rs ≡ false → (r : LogRecord) → In r rs → r.tid ≡ t → ⊥
no_record t [] h r i e = i
no_record t (q ∷ rs) h r i e =
    elim (told_id q.tid t) [
      | inl f ↦ let z : true ≡ false = (rw (f.0) at h) in cc
      | inr f ↦ let h' : list_any (λ q. same_id q.tid t) rs ≡ false = rw (f.0) at h in elim i [
        | inl z ↦ f.1 (ap (λ (y : LogRecord). y.tid) (sym z) ∙ e)
        | inr z ↦ no_record t rs h' r z e
      ]
    ]

-- an Inquire: with no record and no undecided transaction, Abort may be answered
may_answer : (v : View) (k : Key) → Inv v → v.there k.tid.node ≡ true → AreOld v k → IsSure v k → (phase (v.at (first k.tid)) ≢ Running) → ((r : LogRecord) → In r (v.records k.tid.node) → r.tid ≡ k.tid → ⊥) → IsDead v k.tid ⊎ (IsCommitted v k ⊎ IsReadOnly v k)
may_answer v k i rack old (inl ready) idle none =
    elim (commits_or v k.tid) [
      | inl c ↦ let q = i.owed k ready c rack in absurd (none q.0 q.1 q.2)
      | inr c ↦ inl (record { old = old.tid; undecided = idle; commits = c })
    ]
may_answer v k i rack old (inr (inl c)) idle none = inr (inl c)
may_answer v k i rack old (inr (inr d)) idle none = inl d

may_answer_state : (v : View) (n : Name) (m : Message) (b : Branch) → Inv v → v.there m.tid.node ≡ true → Found v n (first m.tid) b → AreOld v (key_of m) → IsSure v (key_of m) → ((r : LogRecord) → In r (v.records m.tid.node) → r.tid ≡ m.tid → ⊥) → (s : State) → b.state ≡ s → MayAll n (answer_state m b s) v
may_answer_state v n m b i rack f old sure none Prepared e =
    let P : Key → Type 0 = λ x. phase (v.at x) ≡ Ready in
    let ready : phase (v.at (first m.tid)) ≡ Ready = subst P f.key (ap phase f.at ∙ ap phase_of e) in
    (tt, (may_answer v (key_of m) i rack old sure (λ r. not_both (v.at (first m.tid)) r ready) none, old), tt)
may_answer_state v n m b i rack f old sure none _ e = tt

may_answer_found : (w : World) (n : Name) (m : Message) → Good w → w.rack m.tid.node ≡ true → AreOld (view w) (key_of m) → IsSure (view w) (key_of m) → m.tid.node ≡ n → ((r : LogRecord) → In r ((view w).records m.tid.node) → r.tid ≡ m.tid → ⊥) → (o : Option Branch) → find (first m.tid) (w.nodes n).table ≡ o → MayAll n (answer m o) (view w)
may_answer_found w n m g rack old sure home none None e =
    let P : Name → Type 0 = λ x. find (first m.tid) (w.nodes x).table ≡ None in
    let at : (view w).at (first m.tid) ≡ None = subst P (sym home) e in
    (tt, (may_answer (view w) (key_of m) g.inv rack old sure (λ r. let z : Gone ≡ Running = sym (ap phase at) ∙ r in cc) none, old), tt)
may_answer_found w n m g rack old sure home none (Some b) e = may_answer_state (view w) n m b g.inv rack (found w n (first m.tid) b g e) old sure none b.state refl

pub may_inquire_row : (w : World) (n : Name) (m : Message) → Good w → (w.nodes n).up ≡ true → AreOld (view w) (key_of m) → IsAccepted (view w) (key_of m) → IsSure (view w) (key_of m) → m.tid.node ≡ n
    → MayAll n (inquire_row m (find (first m.tid) (w.nodes n).table) (w.nodes n).records) (view w)
may_inquire_row w n m g u old acc sure home =
    if_may n (list_any (λ q. same_id q.tid m.tid) (w.nodes n).records) (Sends (down Commit (key_of m)) ∷ []) (answer m (find (first m.tid) (w.nodes n).table)) (view w)
    (λ h. let q = record_in m.tid (w.nodes n).records h in
    let P : Id → Type 0 = λ x. Commits (view w) x in
    let c : Commits (view w) m.tid = subst P q.2 (g.inv.recorded n q.0 q.1) in
    (tt, ((c, acc, held_sure (view w) (key_of m) c sure, refl), old), tt))
    (λ h. may_answer_found w n m g (let P : Name → Type 0 = λ x. w.rack x ≡ true in subst P (sym home) (g.rack_up n u)) old sure home (λ r i e. let Q : Name → Type 0 = λ x. In r (w.nodes x).records in no_record m.tid (w.nodes n).records h r (subst Q home i) e) (find (first m.tid) (w.nodes n).table) refl)

-- a Commit
may_commit : (v : View) (n : Name) (k : Key) → IsReady v k → Commits v k.tid → (xs : List Name) → May n (Settles k ToCommit Aborted (owing k [] xs)) v
may_commit v n k r c [] = inl (r, c)
may_commit v n k r c (x ∷ xs) = inl (r, c, refl, refl)

now_committed : (v : View) (n : Name) (k : Key) (xs : List Name) → IsCommitted (acted n (Settles k ToCommit Aborted (owing k [] xs)) v) k
now_committed v n k [] = inl refl
now_committed v n k (x ∷ xs) = inl refl

may_commit_state : (v : View) (n : Name) (k : Key) (b : Branch) → Inv v → Found v n k b → Commits v k.tid → (s : State) → b.state ≡ s → MayAll n (commit_state b s) v
may_commit_state v n k b i f c Prepared e =
    let P : Key → Type 0 = λ x. Commits v x.tid in
    let ready : IsReady v b.key = ap phase f.at ∙ ap phase_of e in
    let may = may_commit v n b.key ready (subst P (sym f.key) c) (holding b.managers) in
    let a : Act = Settles b.key ToCommit Aborted (owing b.key [] (holding b.managers)) in
    let kept = kept_act n a v i may in
    let w : View = acted n a v in
    (f.home, may, (tt, (now_committed v n b.key (holding b.managers), later_old v w kept.later b.key (i.old_at b.key (not_gone_ready (v.at b.key) ready))), may_tells n CommitEvent b.key (holding b.managers) (acted n (Sends (up Ack b.key)) w)))
may_commit_state v n k b i f c _ e = tt

pub may_commit_row : (w : World) (n : Name) (m : Message) → Good w → AreOld (view w) (key_of m) → Commits (view w) m.tid → IsReady (view w) (key_of m) ⊎ IsCommitted (view w) (key_of m) → m.serial.node ≡ n → (o : Option Branch) → find (key_of m) (w.nodes n).table ≡ o → MayAll n (commit_row m o) (view w)
may_commit_row w n m g old c held home None e =
    let P : Name → Type 0 = λ x. find (key_of m) (w.nodes x).table ≡ None in
    let at : (view w).at (key_of m) ≡ None = subst P (sym home) e in
    (tt, (elim held [ inl r ↦ absurd (let z : Gone ≡ Ready = sym (ap phase at) ∙ r in cc) | inr d ↦ d ], old), tt)
may_commit_row w n m g old c held home (Some b) e = may_commit_state (view w) n (key_of m) b g.inv (found w n (key_of m) b g e) c b.state refl

-- an Abort
may_abort_state : (v : View) (n : Name) (k : Key) (b : Branch) → Inv v → Found v n k b → IsDead v k.tid ⊎ (IsCommitted v k ⊎ IsReadOnly v k) → (s : State) → b.state ≡ s → MayAll n (abort_state b s) v
may_abort_state v n k b i f says Prepared e =
    let says' : IsDead v b.key.tid ⊎ (IsCommitted v b.key ⊎ IsReadOnly v b.key) = (let P : Key → Type 0 = λ x. IsDead v x.tid ⊎ (IsCommitted v x ⊎ IsReadOnly v x) in subst P (sym f.key) says) in
    let ready : IsReady v b.key = ap phase f.at ∙ ap phase_of e in
    let there = not_gone_ready (v.at b.key) ready in
    let dead : IsDead v b.key.tid = elim says' [
      | inl d ↦ d
      | inr q ↦ elim q [ inl c ↦ absurd (i.unsettled b.key there ToCommit c) | inr r ↦ absurd (i.unread b.key there r) ]
    ] in
    (f.home, inr (ready, dead), may_tells n AbortEvent b.key (interested b.managers) (acted n (Settles b.key ToAbort Aborted None) v))
may_abort_state v n k b i f says Joining e = may_undone v n k b i f (ap phase_of e) Aborted
may_abort_state v n k b i f says Active e = may_undone v n k b i f (ap phase_of e) Aborted
may_abort_state v n k b i f says Voting e = may_undone v n k b i f (ap phase_of e) Aborted
may_abort_state v n k b i f says Ending e = tt

pub may_abort_row : (w : World) (n : Name) (k : Key) → Good w → IsDead (view w) k.tid ⊎ (IsCommitted (view w) k ⊎ IsReadOnly (view w) k) → (o : Option Branch) → find k (w.nodes n).table ≡ o → MayAll n (abort_row o) (view w)
may_abort_row w n k g says None e = tt
may_abort_row w n k g says (Some b) e = may_abort_state (view w) n k b g.inv (found w n k b g e) says b.state refl

-- a manager's reply
may_with_reply : (v : View) (n : Name) (k : Key) (x : Name) (r : Reply) (b : Branch) → Inv v → Found v n k b → phase_of b.state ≡ Running → May n (Notes (with_reply x r b)) v
may_with_reply v n k x r b i f p = may_notes v n k b (with_reply x r b) i f p p refl refl refl

may_first_reply : (v : View) (n : Name) (k : Key) (x : Name) (r : Reply) (b : Branch) → Inv v → Found v n k b → b.state ≡ Ending → b.key ≡ first b.key.tid → MayAll n (first_reply x r b) v
may_first_reply v n k x r b i f e top =
    let c : Branch = with_reply x r b in
    let may = may_with_reply v n k x r b i f (ap phase_of e) in
    let shown : List Act = ended b b.state None in
    if_may n (is_veto r) (aborts Vetoed c) (Notes c ∷ commits_if_all c shown) v
    (λ h. may_aborts_telling v n k b i f (ap phase_of e) top b.accepted (λ c h. h) Vetoed (note_reply x r b.managers))
    (λ h. (f.home, may, may_commits_if_all (notes v c) n k c (kept_act n (Notes c) v i may).inv (refound v n k b c f refl) e top shown (λ y. may_ended n b b.state None y)))

may_branch_reply : (v : View) (n : Name) (k : Key) (x : Name) (r : Reply) (b : Branch) → Inv v → Found v n k b → phase_of b.state ≡ Running → IsAccepted v b.key → MayAll n (branch_reply x r b) v
may_branch_reply v n k x r b i f p acc =
    let c : Branch = with_reply x r b in
    let may = may_with_reply v n k x r b i f p in
    if_may n (is_veto r) (refuses Vetoed c) (Notes c ∷ casts_if_all c) v
    (λ h. may_refuses v n k b i f p Vetoed (note_reply x r b.managers))
    (λ h. (f.home, may, may_casts_if_all (notes v c) n k c (kept_act n (Notes c) v i may).inv (refound v n k b c f refl) p acc))

may_reply_state : (v : View) (n : Name) (k : Key) (x : Name) (r : Reply) (b : Branch) → Inv v → Found v n k b → (s : State) → b.state ≡ s → MayAll n (reply_state x r b s) v
may_reply_state v n k x r b i f Ending e =
    elim (told_key b.key (first b.key.tid)) [
      | inl q ↦ rw (q.0) (may_first_reply v n k x r b i f e q.1)
      | inr q ↦ rw (q.0) tt
    ]
may_reply_state v n k x r b i f Voting e = if_may n b.asked (branch_reply x r b) [] v (λ h. may_branch_reply v n k x r b i f (ap phase_of e) ((i.noted b.key b f.at (ap phase_of e)).asked h)) (λ h. tt)
may_reply_state v n k x r b i f _ e = tt

pub may_reply_row : (w : World) (n : Name) (s : Id) (x : Name) (r : Reply) → Good w → (o : Option Branch) → find_serial s (w.nodes n).table ≡ o → MayAll n (reply_row s x r o (w.nodes n).records) (view w)
may_reply_row w n s x r g None e = if_may n (is_forget r && list_any (λ q. holds s x q) (w.nodes n).records) (Releases s x ∷ []) [] (view w) (λ h. (tt, tt, tt)) (λ h. tt)
may_reply_row w n s x r g (Some b) e = may_reply_state (view w) n b.key x r b g.inv (found_serial w n s b g e) b.state refl

-- notes that change neither phase nor children
abbrev pub IsQuiet : (Branch → Branch) → Type 0
IsQuiet f = (b : Branch) → ((f b).state ≡ b.state) × ((f b).key ≡ b.key) × ((f b).asked ≡ b.asked) × ((f b).accepted ≡ b.accepted)

may_note_state : (h : Branch → Branch) → IsQuiet h → (v : View) (n : Name) (k : Key) (b : Branch) → Inv v → Found v n k b → (s : State) → b.state ≡ s → MayAll n (note_state h b s) v
may_note_state h same v n k b i f Active e =
    let q = same b in (ap home_of q.1 ∙ f.home, may_notes v n k b (h b) i f (ap phase_of e) (ap phase_of (q.0 ∙ e)) q.1 q.2 q.3, tt)
may_note_state h same v n k b i f _ e = tt

pub may_note_row : (h : Branch → Branch) → IsQuiet h → (w : World) (n : Name) (s : Id) → Good w → (o : Option Branch) → find_serial s (w.nodes n).table ≡ o → MayAll n (note_row h o) (view w)
may_note_row h same w n s g None e = tt
may_note_row h same w n s g (Some b) e = may_note_state h same (view w) n b.key b g.inv (found_serial w n s b g e) b.state refl

-- a prepared branch asks
may_asks_state : (v : View) (n : Name) (k : Key) (b : Branch) → Inv v → Found v n k b → (s : State) → b.state ≡ s → MayAll n (asks_state b s) v
may_asks_state v n k b i f Prepared e =
    let ready : IsReady v b.key = ap phase f.at ∙ ap phase_of e in
    (tt, ((i.accepted b.key ready, inl ready, refl), i.old_at b.key (not_gone_ready (v.at b.key) ready)), tt)
may_asks_state v n k b i f _ e = tt

pub may_asks_row : (w : World) (n : Name) (s : Id) → Good w → (o : Option Branch) → find_serial s (w.nodes n).table ≡ o → MayAll n (asks_row o) (view w)
may_asks_row w n s g None e = tt
may_asks_row w n s g (Some b) e = may_asks_state (view w) n b.key b g.inv (found_serial w n s b g e) b.state refl
