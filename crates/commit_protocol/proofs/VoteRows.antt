-- The rows of the votes and of what comes after them may be done.
use Rattle.std.proofs.lemmas.Bool.{cases_Bool, and_parts}
use Rattle.std.specs.Prelude.{not, ◌&&◌, ◌||◌}
use Rattle.std.specs.List.{list_any}
use Rattle.std.proofs.Common.{◌≡◌, true, false, List, [], ◌∷◌, ◌++◌, Option, Some, None, ◌⊎◌, inl, inr, refl, ap, sym, subst, ◌∙◌}
use Rattle.vms_model.specs.Ids.{Id}
use Rattle.vms_model.specs.Transactions.{Commit as ToCommit, Aborted, Vetoed, SyncFail}
use Rattle.commit_protocol.specs.Messages.{Name, Kind, Prepare, Yes, ReadOnly, Commit, Message, RmEvent, PrepareEvent, CommitEvent, LogRecord, CommittedRecord, same_id}
use Rattle.commit_protocol.specs.Table.{Key, Branch, State, Joining, Active, Ending, Voting, Prepared, Child, Act, Notes, Prepares, Settles, Leaves, Sends, first, key_of, child, find, find_serial, holding}
use Rattle.commit_protocol.specs.World.{World, In}
use Rattle.commit_protocol.specs.Agreement.{Running, phase_of, phase, View, view, IsRunning, IsReady, IsAccepted, Waits, WasSent, DistinctBids, AreOld}
use Rattle.commit_protocol.specs.Rows.{down, up, sends_all, to_each, tells, joined, is_yes, is_noted, serials, yes_of, all_voted, all_replied, has_serial, others, all_taken, ended, aborts_telling, aborts, owing, commits, commits_if_all, which_event, ending, begins_ending, end_trans_state, end_trans_row, lacks_vote, note_vote, with_vote, vote_state, vote_row, refused, no_state, no_row, is_empty, casts, casts_if_all, voting, begins_vote, asked_branch, votes_if_ended, prepare_state, prepare_row, ended_branch, end_branch_state, end_branch_row}
use Rattle.commit_protocol.proofs.Lists.{told_id, same_key-refl, cases_name, in_left, in_right, in_parts}
use Rattle.commit_protocol.proofs.Invariant.{Says, Noted, Inv, later_old}
use Rattle.commit_protocol.proofs.Sending.{notes}
use Rattle.commit_protocol.proofs.Settling.{not_gone}
use Rattle.commit_protocol.proofs.Deciding.{Records}
use Rattle.commit_protocol.proofs.Bridge.{acted, May, Voted, kept_act, records_at, records_here, records_away}
use Rattle.commit_protocol.proofs.Acting.{Good, MayAll, may_sends, may_append, acted_all, kept_all}
use Rattle.commit_protocol.proofs.JoinRows.{Found, found, found_serial, runs, is_top, if_may, may_notes, may_aborts, may_aborts_telling, may_tells, at_tells, may_ended}

-- the branch as a row left it, in the view after
pub refound : (v : View) (n : Name) (k : Key) (b c : Branch) → Found v n k b → c.key ≡ b.key → Found (notes v c) n k c
refound v n k b c f e = record { at = rw (same_key-refl c.key) refl; home = ap (λ (x : Key). x.serial.node) e ∙ f.home; key = e ∙ f.key }

in_each : (d : Kind) (t : Id) (ss : List Id) (m : Message) → In m (to_each d t ss) → (s : Id) × In s ss × (m ≡ down d (child t s))
in_each d t [] m h = absurd h
in_each d t (s ∷ ss) m h = elim h [ inl e ↦ (s, inl refl, e) | inr e ↦ (let q = in_each d t ss m e in q.0, inr (in_each d t ss m e).1, (in_each d t ss m e).2) ]

in_serials : (cs : List Child) (s : Id) → In s (serials cs) → (c : Child) × In c cs × (c.serial ≡ s)
in_serials [] s h = absurd h
in_serials (c ∷ cs) s h = elim h [ inl e ↦ (c, inl refl, sym e) | inr e ↦ (let q = in_serials cs s e in q.0, inr (in_serials cs s e).1, (in_serials cs s e).2) ]

yes_is : (o : Option Kind) → is_yes o ≡ true → o ≡ Some Yes
yes_is None h = absurd cc
yes_is (Some Yes) h = refl
yes_is (Some _) h = absurd cc

in_yes : (cs : List Child) (s : Id) → In s (yes_of cs) → (c : Child) × In c cs × (c.vote ≡ Some Yes) × (c.serial ≡ s)
in_yes [] s h = absurd h
in_yes (c ∷ cs) s h =
    let rest : In s (yes_of cs) → (d : Child) × In d (c ∷ cs) × (d.vote ≡ Some Yes) × (d.serial ≡ s) = λ i. let q = in_yes cs s i in (q.0, inr q.1, q.2, q.3) in
    elim (cases_Bool (is_yes c.vote)) [
      | inl e ↦ let h' : In s (c.serial ∷ yes_of cs) = rw e at h in elim h' [ inl z ↦ (c, inl refl, yes_is c.vote e, sym z) | inr z ↦ rest z ]
      | inr e ↦ let h' : In s (yes_of cs) = rw e at h in rest h'
    ]

yes_in : (cs : List Child) (c : Child) → In c cs → c.vote ≡ Some Yes → In c.serial (yes_of cs)
yes_in [] c h v = absurd h
yes_in (d ∷ cs) c h v =
    elim (cases_Bool (is_yes d.vote)) [
      | inl e ↦ rw e (elim h [ inl z ↦ inl (ap (λ (x : Child). x.serial) z) | inr z ↦ inr (yes_in cs c z v) ])
      | inr e ↦ rw e (elim h [
        | inl z ↦ absurd (let q : true ≡ false = sym (ap is_yes (ap (λ (x : Child). x.vote) (sym z) ∙ v)) ∙ e in cc)
        | inr z ↦ yes_in cs c z v
      ])
    ]

noted_is : (o : Option Kind) → is_noted o ≡ true → (k : Kind) × (o ≡ Some k)
noted_is None h = absurd cc
noted_is (Some k) h = (k, refl)

voted_all : (cs : List Child) → all_voted cs ≡ true → (c : Child) → In c cs → (k : Kind) × (c.vote ≡ Some k)
voted_all [] h c i = absurd i
voted_all (d ∷ cs) h c i =
    let p = and_parts (is_noted d.vote) (all_voted cs) h in
    elim i [
      | inl e ↦ let q = noted_is d.vote p.0 in (q.0, ap (λ (x : Child). x.vote) e ∙ q.1)
      | inr e ↦ voted_all cs p.1 c e
    ]

running_of : (s : State) → s ≡ Ending ⊎ (s ≡ Active) → phase_of s ≡ Running
running_of s (inl e) = ap phase_of e
running_of s (inr e) = ap phase_of e

-- what a commit needs, at any records that tell the Yes votes
voted_of : (v : View) (n : Name) (k : Key) (b : Branch) → Inv v → Found v n k b → b.state ≡ Ending ⊎ (b.state ≡ Active) → b.key ≡ first b.key.tid → all_voted b.accepted ≡ true
    → (o : Option LogRecord) (recs : Name → List LogRecord) → recs ≡ (acted n (Settles b.key ToCommit Aborted o) v).records → Records v b b.key.tid recs → Voted v n b.key o
voted_of v n k b i f s top all o recs is rec =
    let run : phase_of b.state ≡ Running = running_of b.state s in record {
      tid = b.key.tid;
      branch = b;
      recs = recs;
      key = top;
      at = f.at;
      runs = run;
      is = is;
      records = rec;
      votes = λ c h.
          let q = voted_all b.accepted all c h in
          elim ((i.noted b.key b f.at run).voted c h q.0 q.1).0 [
            | inl e ↦ inl (q.1 ∙ ap (λ (x : Kind). Some x) e)
            | inr e ↦ inr (q.1 ∙ ap (λ (x : Kind). Some x) e)
          ];
    }

records_of : (v : View) (n : Name) (k : Key) (b : Branch) → Found v n k b → b.key ≡ first b.key.tid → (r : LogRecord) (ws : List Id) → r.tid ≡ b.key.tid → r.waiting ≡ ws → yes_of b.accepted ≡ ws
    → Records v b b.key.tid (records_at n (v.records n ++ r ∷ []) v.records)
records_of v n k b f top r ws tid is e =
    let new : List LogRecord = v.records n ++ r ∷ [] in
    let recs : Name → List LogRecord = records_at n new v.records in
    let here = records_here n new v.records in
    let away = records_away n new v.records in
    let home : b.key.tid.node ≡ n = ap (λ (x : Key). x.serial.node) (sym top) ∙ f.home in
    let waiting : r.waiting ≡ yes_of b.accepted = is ∙ sym e in record {
      from = λ m q h. elim (cases_name m n) [
        | inl z ↦ let P : Name → Type 0 = λ x. In q (recs x) in let T : List LogRecord → Type 0 = λ x. In q x in
            elim (in_parts q (v.records n) (r ∷ []) (subst T here (subst P z h))) [
              | inl y ↦ inl (let Q : Name → Type 0 = λ x. In q (v.records x) in subst Q (sym z) y)
              | inr y ↦ elim y [
                | inl a ↦ inr (ap (λ (x : LogRecord). x.tid) a ∙ tid, λ s g. in_yes b.accepted s (let T : List Id → Type 0 = λ x. In s x in subst T (ap (λ (x : LogRecord). x.waiting) a ∙ waiting) g))
                | inr a ↦ absurd a
              ]
            ]
        | inr z ↦ let T : List LogRecord → Type 0 = λ x. In q x in inl (subst T (away m z) h)
      ];
      kept = λ m q h. elim (cases_name m n) [
        | inl z ↦ let Q : Name → Type 0 = λ x. In q (v.records x) in let P : Name → Type 0 = λ x. In q (recs x) in let T : List LogRecord → Type 0 = λ x. In q x in
            subst P (sym z) (subst T (sym here) (in_left q (v.records n) (r ∷ []) (subst Q z h)))
        | inr z ↦ let T : List LogRecord → Type 0 = λ x. In q x in subst T (sym (away m z)) h
      ];
      yes = λ c h y.
          let P : Name → Type 0 = λ x. In r (recs x) in let T : List LogRecord → Type 0 = λ x. In r x in let W : List Id → Type 0 = λ x. In c.serial x in
          (r, subst P (sym home) (subst T (sym here) (in_right r (v.records n) (r ∷ []) (inl refl))), tid, subst W (sym waiting) (yes_in b.accepted c h y));
    }

-- the first branch may be committed once all votes are in
may_owing : (v : View) (n : Name) (k : Key) (b : Branch) → Inv v → Found v n k b → b.state ≡ Ending ⊎ (b.state ≡ Active) → b.key ≡ first b.key.tid → all_voted b.accepted ≡ true
    → (ws : List Id) (xs : List Name) → yes_of b.accepted ≡ ws → May n (Settles b.key ToCommit Aborted (owing b.key ws xs)) v
may_owing v n k b i f s top all [] [] e = inr (voted_of v n k b i f s top all None v.records refl (record {
  from = λ m r h. inl h;
  kept = λ m r h. h;
  yes = λ c h y. absurd (let T : List Id → Type 0 = λ z. In c.serial z in subst T e (yes_in b.accepted c h y));
}))
may_owing v n k b i f s top all [] (x ∷ xs) e =
    let r : LogRecord = record { kind = CommittedRecord; tid = b.key.tid; serial = b.key.serial; waiting = []; rms = x ∷ xs } in
    inr (voted_of v n k b i f s top all (Some r) (records_at n (v.records n ++ r ∷ []) v.records) refl (records_of v n k b f top r [] refl refl e))
may_owing v n k b i f s top all (w ∷ ws) xs e =
    let r : LogRecord = record { kind = CommittedRecord; tid = b.key.tid; serial = b.key.serial; waiting = w ∷ ws; rms = xs } in
    inr (voted_of v n k b i f s top all (Some r) (records_at n (v.records n ++ r ∷ []) v.records) refl (records_of v n k b f top r (w ∷ ws) refl refl e))

-- the record that a commit writes waits for each that voted Yes
owed_by : (n : Name) (b : Branch) (v : View) (k : Key) → Found v n k b → b.key ≡ first b.key.tid → (s : Id) → In s (yes_of b.accepted) → Waits (acted n (Settles b.key ToCommit Aborted (owing b.key (yes_of b.accepted) (holding b.managers))) v) n (child b.key.tid s)
owed_by n b v k f top s h = go (yes_of b.accepted) (holding b.managers) h
  where
    go : (ws : List Id) (xs : List Name) → In s ws → Waits (acted n (Settles b.key ToCommit Aborted (owing b.key ws xs)) v) n (child b.key.tid s)
    go [] xs i = absurd i
    go (w ∷ ws) xs i =
        let r : LogRecord = record { kind = CommittedRecord; tid = b.key.tid; serial = b.key.serial; waiting = w ∷ ws; rms = xs } in
        let T : List LogRecord → Type 0 = λ x. In r x in
        (r, subst T (sym (records_here n (v.records n ++ r ∷ []) v.records)) (in_right r (v.records n) (r ∷ []) (inl refl)), refl, i)

pub may_commits : (v : View) (n : Name) (k : Key) (b : Branch) → Inv v → Found v n k b → b.state ≡ Ending ⊎ (b.state ≡ Active) → b.key ≡ first b.key.tid → all_voted b.accepted ≡ true
    → (shown : List Act) → ((x : View) → MayAll n shown x) → MayAll n (commits b shown) v
may_commits v n k b i f s top all shown lines =
    let o : Option LogRecord = owing b.key (yes_of b.accepted) (holding b.managers) in
    let may : May n (Settles b.key ToCommit Aborted o) v = may_owing v n k b i f s top all (yes_of b.accepted) (holding b.managers) refl in
    let w : View = acted n (Settles b.key ToCommit Aborted o) v in
    let kept = kept_act n (Settles b.key ToCommit Aborted o) v i may in
    let msgs : List Message = to_each Commit b.key.tid (yes_of b.accepted) in
    let u : View = acted_all n (sends_all msgs) w in (
      f.home,
      may,
      may_append n (sends_all msgs) (tells CommitEvent b.key (holding b.managers) ++ shown) w
          (may_sends n msgs w (λ m h.
          let q = in_each Commit b.key.tid (yes_of b.accepted) m h in
          let x : Key = child b.key.tid q.0 in
          let u = kept.inv.waits n x (owed_by n b v k f top q.0 q.1) in
          let P : Message → Type 0 = λ y. Says w y.kind y.to (key_of y) × AreOld w (key_of y) in
          subst P (sym q.2) ((u.0, u.1, u.2, refl), kept.inv.old_accepted x u.1)))
          (may_append n (tells CommitEvent b.key (holding b.managers)) shown u (may_tells n CommitEvent b.key (holding b.managers) u)
          (lines (acted_all n (tells CommitEvent b.key (holding b.managers)) u))),
    )

pub may_commits_if_all : (v : View) (n : Name) (k : Key) (b : Branch) → Inv v → Found v n k b → b.state ≡ Ending → b.key ≡ first b.key.tid
    → (shown : List Act) → ((x : View) → MayAll n shown x) → MayAll n (commits_if_all b shown) v
may_commits_if_all v n k b i f s top shown lines =
    if_may n (all_voted b.accepted && all_replied b.managers) (commits b shown) [] v
    (λ h. may_commits v n k b i f (inl s) top (and_parts (all_voted b.accepted) (all_replied b.managers) h).0 shown lines) (λ h. tt)

-- END_TRANS
may_prepares : (v : View) (n : Name) (b : Branch) → Inv v → Noted v b → MayAll n (sends_all (to_each Prepare b.key.tid (serials b.accepted))) v
may_prepares v n b i note = may_sends n (to_each Prepare b.key.tid (serials b.accepted)) v (λ m h.
    let q = in_each Prepare b.key.tid (serials b.accepted) m h in
    let c = in_serials b.accepted q.0 q.1 in
    let a : IsAccepted v (child b.key.tid q.0) = (let P : Id → Type 0 = λ x. IsAccepted v (child b.key.tid x) in subst P c.2 (note.taken c.0 c.1)) in
    let P : Message → Type 0 = λ y. Says v y.kind y.to (key_of y) × AreOld v (key_of y) in
    subst P (sym q.2) (a, i.old_accepted (child b.key.tid q.0) a))

-- sends and lines change nothing of the branches
pub at_sends : (n : Name) (ms : List Message) (v : View) → (acted_all n (sends_all ms) v).at ≡ v.at
at_sends n [] v = refl
at_sends n (m ∷ ms) v = at_sends n ms (acted n (Sends m) v)

found_at : (v w : View) (n : Name) (k : Key) (b : Branch) → v.at ≡ w.at → Found v n k b → Found w n k b
found_at v w n k b e f = let P : (Key → Option Branch) → Type 0 = λ x. x b.key ≡ Some b in record { at = subst P e f.at; home = f.home; key = f.key }

may_ending : (v : View) (n : Name) (k : Key) (b : Branch) → Inv v → Found v n k b → b.state ≡ Active → b.key ≡ first b.key.tid → MayAll n (begins_ending b) v
may_ending v n k b i f e top =
    let may : May n (Notes (ending b)) v = may_notes v n k b (ending b) i f (ap phase_of e) refl refl refl refl in
    let w : View = notes v (ending b) in
    let kept = kept_act n (Notes (ending b)) v i may in
    let g : Found w n k (ending b) = refound v n k b (ending b) f refl in
    let msgs : List Message = to_each Prepare b.key.tid (serials b.accepted) in
    let u : View = acted_all n (sends_all msgs) w in
    let ev : RmEvent = which_event b.changed b.accepted b.managers in
    let xs : List Name = joined b.managers in
    let sent : MayAll n (sends_all msgs) w = may_prepares w n (ending b) kept.inv (kept.inv.noted b.key (ending b) g.at refl) in
    let iu = (kept_all n (sends_all msgs) w kept.inv sent).inv in
    let gu : Found u n k (ending b) = found_at w u n k (ending b) (sym (at_sends n msgs w)) g in
    let P : View → Type 0 = λ x. MayAll n (commits_if_all (ending b) []) x in (
      f.home,
      may,
      may_append n (sends_all msgs) (tells ev b.key xs ++ commits_if_all (ending b) []) w sent
          (may_append n (tells ev b.key xs) (commits_if_all (ending b) []) u (may_tells n ev b.key xs u)
          (subst P (sym (at_tells n ev b.key xs u)) (may_commits_if_all u n k (ending b) iu gu refl top [] (λ x. tt)))),
    )

may_end_trans_state : (v : View) (n : Name) (t : Id) (b : Branch) → Inv v → Found v n (first t) b → (s : State) → b.state ≡ s → MayAll n (end_trans_state b s) v
may_end_trans_state v n t b i f Active e =
    let top = is_top v n t b f in
    if_may n (all_taken b.bids b.accepted) (begins_ending b) (aborts SyncFail b) v
    (λ h. may_ending v n (first t) b i f e top)
    (λ h. may_aborts v n (first t) b i f (ap phase_of e) top SyncFail)
may_end_trans_state v n t b i f _ e = tt

pub may_end_trans_row : (w : World) (n : Name) (t : Id) → Good w → (o : Option Branch) → find (first t) (w.nodes n).table ≡ o → MayAll n (end_trans_row o) (view w)
may_end_trans_row w n t g None e = tt
may_end_trans_row w n t g (Some b) e = may_end_trans_state (view w) n t b g.inv (found w n (first t) b g e) b.state refl

-- a vote that was sent is noted
note_in : (s : Id) (d : Kind) (cs : List Child) (c : Child) → In c (note_vote s d cs) → In c cs ⊎ ((o : Child) × In o cs × (o.serial ≡ s) × (c ≡ record o { vote = Some d }))
note_in s d [] c h = absurd h
note_in s d (x ∷ cs) c h =
    elim (cases_Bool (lacks_vote s x)) [
      | inl e ↦ let h' : In c (record x { vote = Some d } ∷ cs) = rw e at h in
          let p = and_parts (same_id x.serial s) (not (is_noted x.vote)) e in
          elim h' [
            | inl z ↦ inr (x, inl refl, elim (told_id x.serial s) [ inl q ↦ q.1 | inr q ↦ absurd (let z : true ≡ false = sym p.0 ∙ q.0 in cc) ], z)
            | inr z ↦ inl (inr z)
          ]
      | inr e ↦ let h' : In c (x ∷ note_vote s d cs) = rw e at h in elim h' [
        | inl z ↦ inl (inl z)
        | inr z ↦ elim (note_in s d cs c z) [ inl q ↦ inl (inr q) | inr q ↦ inr (q.0, inr q.1, q.2, q.3) ]
      ]
    ]

note_has : (s : Id) (d : Kind) (cs : List Child) (c : Child) → In c cs → (o : Child) × In o (note_vote s d cs) × (o.serial ≡ c.serial)
note_has s d [] c h = absurd h
note_has s d (x ∷ cs) c h =
    elim (cases_Bool (lacks_vote s x)) [
      | inl e ↦ elim h [
        | inl z ↦ (record x { vote = Some d }, rw e (inl refl), ap (λ (y : Child). y.serial) (sym z))
        | inr z ↦ (c, rw e (inr z), refl)
      ]
      | inr e ↦ elim h [
        | inl z ↦ (x, rw e (inl refl), ap (λ (y : Child). y.serial) (sym z))
        | inr z ↦ let q = note_has s d cs c z in (q.0, rw e (inr q.1), q.2)
      ]
    ]

-- a vote changes no identifier
pub note_bid : (s : Id) (d : Kind) (cs : List Child) (c : Child) → In c (note_vote s d cs) → (o : Child) × In o cs × (o.bid ≡ c.bid)
note_bid s d cs c h = elim (note_in s d cs c h) [
  | inl z ↦ (c, z, refl)
  | inr z ↦ (z.0, z.1, ap (λ (y : Child). y.bid) (sym z.3))
]

pub single_note : (s : Id) (d : Kind) (cs : List Child) → DistinctBids cs → DistinctBids (note_vote s d cs)
single_note s d [] h = tt
single_note s d (x ∷ cs) h =
    elim (cases_Bool (lacks_vote s x)) [
      | inl e ↦ rw e h
      | inr e ↦ rw e ((λ c i q. let o = note_bid s d cs c i in h.0 o.0 o.1 (o.2 ∙ q)), single_note s d cs h.1)
    ]

noted_vote : (v : View) (b : Branch) (s : Id) (d : Kind) → (d ≡ Yes) ⊎ (d ≡ ReadOnly) → WasSent v d (child b.key.tid s) → Noted v b → Noted v (record b { accepted = note_vote s d b.accepted })
noted_vote v b s d is was note = record {
  asked = note.asked;
  voted = λ c h k e. elim (note_in s d b.accepted c h) [
    | inl z ↦ note.voted c z k e
    | inr z ↦
        let q : Some d ≡ Some k = ap (λ (y : Child). y.vote) (sym z.3) ∙ e in let same : d ≡ k = cc in
        let serial : s ≡ c.serial = sym z.2 ∙ ap (λ (y : Child). y.serial) (sym z.3) in
        let P : Kind → Id → Type 0 = λ x y. ((x ≡ Yes) ⊎ (x ≡ ReadOnly)) × WasSent v x (child b.key.tid y) in
        let Q : Kind → Type 0 = λ x. P x s in let R : Id → Type 0 = λ y. P k y in
        subst R serial (subst Q same (is, was))
  ];
  taken = λ c h. elim (note_in s d b.accepted c h) [
    | inl z ↦ note.taken c z
    | inr z ↦ let P : Child → Type 0 = λ y. IsAccepted v (child b.key.tid y.serial) in subst P (sym z.3) (note.taken z.0 z.1)
  ];
  single = single_note s d b.accepted note.single;
  all = λ f x a. let c = note.all f x a in let o = note_has s d b.accepted c.0 c.1 in (o.0, o.1, o.2 ∙ c.2);
}

may_vote_state : (v : View) (n : Name) (t s : Id) (d : Kind) (b : Branch) → Inv v → Found v n (first t) b → (d ≡ Yes) ⊎ (d ≡ ReadOnly) → WasSent v d (child t s) → (z : State) → b.state ≡ z → MayAll n (vote_state s d b z) v
may_vote_state v n t s d b i f is was Ending e =
    let c : Branch = with_vote s d b in
    let tid : b.key.tid ≡ t = ap (λ (x : Key). x.tid) f.key in
    let was' : WasSent v d (child b.key.tid s) = (let P : Id → Type 0 = λ x. WasSent v d (child x s) in subst P (sym tid) was) in
    let may : May n (Notes c) v = (runs v n (first t) b f (ap phase_of e), ap phase_of e, noted_vote v b s d is was' (i.noted b.key b f.at (ap phase_of e))) in
    let kept = kept_act n (Notes c) v i may in
    let shown : List Act = ended b b.state None in
    if_may n (list_any (λ x. lacks_vote s x) b.accepted) (Notes c ∷ commits_if_all c shown) [] v
    (λ h. (f.home, may, may_commits_if_all (notes v c) n (first t) c kept.inv (refound v n (first t) b c f refl) e (is_top v n t b f) shown (λ x. may_ended n b b.state None x)))
    (λ h. tt)
may_vote_state v n t s d b i f is was _ e = tt

pub may_vote_row : (w : World) (n : Name) (t s : Id) (d : Kind) → Good w → (d ≡ Yes) ⊎ (d ≡ ReadOnly) → WasSent (view w) d (child t s) → (o : Option Branch) → find (first t) (w.nodes n).table ≡ o → MayAll n (vote_row s d o) (view w)
may_vote_row w n t s d g is was None e = tt
may_vote_row w n t s d g is was (Some b) e = may_vote_state (view w) n t s d b g.inv (found w n (first t) b g e) is was b.state refl

-- a No
in_others : (s : Id) (cs : List Child) (c : Child) → In c (others s cs) → In c cs
in_others s [] c h = h
in_others s (x ∷ cs) c h =
    elim (cases_Bool (same_id x.serial s)) [
      | inl e ↦ let h' : In c (others s cs) = rw e at h in inr (in_others s cs c h')
      | inr e ↦ let h' : In c (x ∷ others s cs) = rw e at h in elim h' [ inl z ↦ inl z | inr z ↦ inr (in_others s cs c z) ]
    ]

may_refused : (v : View) (n : Name) (t s : Id) (b : Branch) → Inv v → Found v n (first t) b → phase_of b.state ≡ Running → MayAll n (refused s b) v
may_refused v n t s b i f p = if_may n (has_serial s b.accepted) (aborts_telling (others s b.accepted) Vetoed b) [] v
    (λ h. may_aborts_telling v n (first t) b i f p (is_top v n t b f) (others s b.accepted) (in_others s b.accepted) Vetoed b.managers) (λ h. tt)

may_no_state : (v : View) (n : Name) (t s : Id) (b : Branch) → Inv v → Found v n (first t) b → (z : State) → b.state ≡ z → MayAll n (no_state s b z) v
may_no_state v n t s b i f Active e = may_refused v n t s b i f (ap phase_of e)
may_no_state v n t s b i f Ending e = may_refused v n t s b i f (ap phase_of e)
may_no_state v n t s b i f _ e = tt

pub may_no_row : (w : World) (n : Name) (t s : Id) → Good w → (o : Option Branch) → find (first t) (w.nodes n).table ≡ o → MayAll n (no_row s o) (view w)
may_no_row w n t s g None e = tt
may_no_row w n t s g (Some b) e = may_no_state (view w) n t s b g.inv (found w n (first t) b g e) b.state refl

-- the vote of a branch
may_casts : (v : View) (n : Name) (k : Key) (b : Branch) → Inv v → Found v n k b → phase_of b.state ≡ Running → IsAccepted v b.key → MayAll n (casts b) v
may_casts v n k b i f p acc =
    let run : IsRunning v b.key = runs v n k b f p in
    let may : May n (Prepares b) v = (f.at, p, acc) in
    let w : View = acted n (Prepares b) v in
    let kept = kept_act n (Prepares b) v i may in
    let ready : IsReady w b.key = rw (same_key-refl b.key) refl in
    let x : View = acted n (Leaves b.key) v in
    let kept' = kept_act n (Leaves b.key) v i run in
    let old = i.old_at b.key (not_gone (v.at b.key) run) in
    if_may n (b.changed || not (is_empty (holding b.managers))) (Prepares b ∷ Sends (up Yes b.key) ∷ []) (Leaves b.key ∷ Sends (up ReadOnly b.key) ∷ []) v
    (λ h. (f.home, may, (tt, ((acc, inl ready), later_old v w kept.later b.key old), tt)))
    (λ h. (f.home, run, (tt, (inl refl, later_old v x kept'.later b.key old), tt)))

pub may_casts_if_all : (v : View) (n : Name) (k : Key) (b : Branch) → Inv v → Found v n k b → phase_of b.state ≡ Running → IsAccepted v b.key → MayAll n (casts_if_all b) v
may_casts_if_all v n k b i f p acc = if_may n (all_replied b.managers) (casts b) [] v (λ h. may_casts v n k b i f p acc) (λ h. tt)

pub may_begins_vote : (v : View) (n : Name) (k : Key) (b : Branch) → Inv v → Found v n k b → phase_of b.state ≡ Running → IsAccepted v b.key → MayAll n (begins_vote b) v
may_begins_vote v n k b i f p acc =
    let c : Branch = voting b in
    let may : May n (Notes c) v = may_notes v n k b c i f p refl refl refl refl in
    let w : View = notes v c in
    let kept = kept_act n (Notes c) v i may in
    let P : View → Type 0 = λ x. MayAll n (casts_if_all c) x in (
      f.home,
      may,
      may_append n (tells PrepareEvent b.key (joined b.managers)) (casts_if_all c) w (may_tells n PrepareEvent b.key (joined b.managers) w)
          (subst P (sym (at_tells n PrepareEvent b.key (joined b.managers) w)) (may_casts_if_all w n k c kept.inv (refound v n k b c f refl) refl (kept.later.accepted b.key acc))),
    )

-- a Prepare
may_votes_if_ended : (v : View) (n : Name) (k : Key) (b : Branch) → Inv v → Found v n k (asked_branch b) → IsAccepted v b.key → MayAll n (votes_if_ended b) v
may_votes_if_ended v n k b i f acc = if_may n b.ended (begins_vote (asked_branch b)) [] v (λ h. may_begins_vote v n k (asked_branch b) i f refl acc) (λ h. tt)

pub record Asked (v : View) (n : Name) (k : Key) (b : Branch) : Type 0 where
  pub may : May n (Notes (asked_branch b)) v
  pub inv : Inv (notes v (asked_branch b))
  pub found : Found (notes v (asked_branch b)) n k (asked_branch b)
  pub accepted : IsAccepted (notes v (asked_branch b)) b.key

asked_of : (v : View) (n : Name) (k : Key) (b : Branch) → Inv v → Found v n k b → phase_of b.state ≡ Running → IsAccepted v k → Asked v n k b
asked_of v n k b i f p acc =
    let c : Branch = asked_branch b in
    let acc' : IsAccepted v b.key = (let P : Key → Type 0 = λ x. IsAccepted v x in subst P (sym f.key) acc) in
    let note : Noted v b = i.noted b.key b f.at p in
    let may : May n (Notes c) v = (runs v n k b f p, refl, record { asked = λ h. acc'; voted = note.voted; taken = note.taken; single = note.single; all = note.all }) in
    let kept = kept_act n (Notes c) v i may in
    record { may = may; inv = kept.inv; found = refound v n k b c f refl; accepted = kept.later.accepted b.key acc' }

may_prepare_state : (v : View) (n : Name) (k : Key) (b : Branch) → Inv v → Found v n k b → IsAccepted v k → AreOld v k → (s : State) → b.state ≡ s → MayAll n (prepare_state b s) v
may_prepare_state v n k b i f acc old Joining e =
    let a = asked_of v n k b i f (ap phase_of e) acc in
    (f.home, a.may, (tt, tt, may_votes_if_ended (notes v (asked_branch b)) n k b a.inv a.found a.accepted))
may_prepare_state v n k b i f acc old Active e =
    let a = asked_of v n k b i f (ap phase_of e) acc in
    (f.home, a.may, may_votes_if_ended (notes v (asked_branch b)) n k b a.inv a.found a.accepted)
may_prepare_state v n k b i f acc old Prepared e =
    let P : Key → Type 0 = λ x. IsAccepted v x × AreOld v x in
    let q = subst P (sym f.key) (acc, old) in
    (tt, ((q.0, inl (ap phase f.at ∙ ap phase_of e)), q.1), tt)
may_prepare_state v n k b i f acc old Ending e = tt
may_prepare_state v n k b i f acc old Voting e = tt

pub may_prepare_row : (w : World) (n : Name) (m : Message) → Good w → AreOld (view w) (key_of m) → IsAccepted (view w) (key_of m) → (o : Option Branch) → find (key_of m) (w.nodes n).table ≡ o → MayAll n (prepare_row m o) (view w)
may_prepare_row w n m g old acc None e = (tt, (tt, old), tt)
may_prepare_row w n m g old acc (Some b) e = may_prepare_state (view w) n (key_of m) b g.inv (found w n (key_of m) b g e) acc old b.state refl

-- END_BRANCH
may_end_branch_state : (v : View) (n : Name) (k : Key) (b : Branch) → Inv v → Found v n k b → (s : State) → b.state ≡ s → MayAll n (end_branch_state b s) v
may_end_branch_state v n k b i f Active e =
    let c : Branch = ended_branch b in
    let may : May n (Notes c) v = may_notes v n k b c i f (ap phase_of e) (ap phase_of e) refl refl refl in
    let w : View = notes v c in
    let kept = kept_act n (Notes c) v i may in
    let note : Noted v b = i.noted b.key b f.at (ap phase_of e) in
    (f.home, may, if_may n b.asked (begins_vote c) [] w (λ h. may_begins_vote w n k c kept.inv (refound v n k b c f refl) (ap phase_of e) (kept.later.accepted b.key (note.asked h))) (λ h. tt))
may_end_branch_state v n k b i f _ e = tt

pub may_end_branch_row : (w : World) (n : Name) (s : Id) → Good w → (o : Option Branch) → find_serial s (w.nodes n).table ≡ o → MayAll n (end_branch_row o) (view w)
may_end_branch_row w n s g None e = tt
may_end_branch_row w n s g (Some b) e = may_end_branch_state (view w) n b.key b g.inv (found_serial w n s b g e) b.state refl
