-- The images that a run leaves agree again.
use Rattle.std.proofs.lemmas.Bool.{cases_Bool}
use Rattle.std.specs.Prelude.{is_some}
use Rattle.std.proofs.Common.{◌≡◌, ◌≤◌, Bool, true, false, List, [], ◌∷◌, Some, None, ◌⊎◌, inl, inr, refl, ap, sym, subst, ◌∙◌}
use Rattle.vms_model.specs.Ids.{Id}
use Rattle.vms_model.specs.Transactions.{Outcome, Commit as ToCommit, Abort as ToAbort}
use Rattle.commit_protocol.specs.Messages.{Name, LogRecord, same_name}
use Rattle.commit_protocol.specs.Table.{Key, Branch, State, Prepared, first, coordinator_of, home_of, find, prepared_record, prepared_state, prepared_records, record_key}
use Rattle.commit_protocol.specs.World.{World, In, Step, run, units_of}
use Rattle.commit_protocol.specs.Agreement.{Ready, phase_of, phase, view, IsRunning, IsReady, IsCommitted, IsAccepted, Commits, IsOld, IsDead, Waits, AreOld, Distinct}
use Rattle.commit_protocol.proofs.Lists.{same_name-true, told_key, same_key-refl, in_parts, Unique}
use Rattle.commit_protocol.proofs.Invariant.{IsIdle, Later}
use Rattle.commit_protocol.proofs.Settling.{not_gone, not_gone_ready, not_both}
use Rattle.commit_protocol.proofs.Restarts.{in_units}
use Rattle.commit_protocol.proofs.OutcomeRows.{commits_or}
use Rattle.commit_protocol.proofs.Gathered.{is_shown}
use Rattle.commit_protocol.proofs.Running.{goes_run, never_both}
use Rattle.commit_protocol.proofs.Opened.{begun, good_opened, never_runs, old_of, shows_of}
use Rattle.commit_protocol.proofs.Acting.{LastFrom, Good}
use Rattle.commit_protocol.proofs.Serials.{in_serial}
use Rattle.commit_protocol.proofs.LogSteps.{Apart, apart_from, left_distinct}
use Rattle.commit_protocol.specs.Opening.{Image, Opening, image_in, in_rack, no_image, or_none, image_at, PreparedIn, WaitsIn, WaitedFor, LastIn, Shows, OldIn, OldKey, DistinctKeys, IsAgreeing, opened, image_left, images_left, left, log_serials}

-- the image that a node leaves, or none where it is not in the rack
left_in : (w : World) (ps : List (Name × Image)) (n : Name) → ((image_in n (images_left w ps) ≡ Some (image_left (w.nodes n))) × (is_some (image_in n ps) ≡ true)) ⊎ ((image_in n (images_left w ps) ≡ None) × (is_some (image_in n ps) ≡ false))
left_in w [] n = inr (refl, refl)
left_in w (p ∷ ps) n =
    elim (cases_Bool (same_name p.0 n)) [
      | inl e ↦ rw e (inl (let P : Name → Type 0 = λ m. Some (image_left (w.nodes p.0)) ≡ Some (image_left (w.nodes m)) in subst P (same_name-true p.0 n e) refl, refl))
      | inr e ↦ rw e (left_in w ps n)
    ]

left_or : (w : World) (o : Opening) (n : Name) → ((image_at (left w o) n ≡ image_left (w.nodes n)) × (in_rack o n ≡ true)) ⊎ ((image_at (left w o) n ≡ no_image) × (in_rack o n ≡ false))
left_or w o n = elim (left_in w o.images n) [
  | inl e ↦ inl (ap or_none e.0, e.1)
  | inr e ↦ inr (ap or_none e.0, e.1)
]

left_rack : (w : World) (o : Opening) (n : Name) → in_rack (left w o) n ≡ in_rack o n
left_rack w o n = elim (left_in w o.images n) [
  | inl e ↦ ap is_some e.0 ∙ sym e.1
  | inr e ↦ ap is_some e.0 ∙ sym e.1
]

-- what stands in the image stands in what the node leaves, and the other way round in the rack
of_left : {A : Type 0} (part : Image → List A) (w : World) (o : Opening) (n : Name) (x : A) → part no_image ≡ [] → In x (part (image_at (left w o) n)) → In x (part (image_left (w.nodes n)))
of_left {A = A} part w o n x none h = elim (left_or w o n) [
  | inl e ↦ (let P : Image → Type 0 = λ i. In x (part i) in subst P e.0 h)
  | inr e ↦ absurd (let P : Image → Type 0 = λ i. In x (part i) in let Q : List A → Type 0 = λ ys. In x ys in subst Q none (subst P e.0 h))
]

to_left : {A : Type 0} (part : Image → List A) (w : World) (o : Opening) (n : Name) (x : A) → in_rack o n ≡ true → In x (part (image_left (w.nodes n))) → In x (part (image_at (left w o) n))
to_left part w o n x rack h = elim (left_or w o n) [
  | inl e ↦ (let P : Image → Type 0 = λ i. In x (part i) in subst P (sym e.0) h)
  | inr e ↦ absurd (let z : true ≡ false = sym rack ∙ e.1 in cc)
]

last_left : (w : World) (o : Opening) (n : Name) (p : Key × Outcome) → (image_at (left w o) n).last ≡ Some p → (w.nodes n).last ≡ Some p
last_left w o n p h = elim (left_or w o n) [
  | inl e ↦ sym (ap (λ (i : Image). i.last) e.0) ∙ h
  | inr e ↦ absurd (let z : None ≡ Some p = sym (ap (λ (i : Image). i.last) e.0) ∙ h in cc)
]

-- a prepared record is that of a prepared branch
abbrev IsOf : LogRecord → List Branch → Type 0
IsOf r bs = (b : Branch) × (find (record_key r) bs ≡ Some b) × (phase_of b.state ≡ Ready)

of_rest : (r : LogRecord) (b : Branch) (bs : List Branch) → find b.key bs ≡ None → IsOf r bs → IsOf r (b ∷ bs)
of_rest r b bs none h =
    elim (told_key b.key (record_key r)) [
      | inl e ↦ absurd (let P : Key → Type 0 = λ x. find x bs ≡ None in let z : None ≡ Some h.0 = sym (subst P e.1 none) ∙ h.1 in cc)
      | inr e ↦ rw (e.0) h
    ]

of_first : (r : LogRecord) (b : Branch) (bs : List Branch) → r ≡ prepared_record b → phase_of b.state ≡ Ready → IsOf r (b ∷ bs)
of_first r b bs e p = (b, (let P : LogRecord → Type 0 = λ x. find (record_key x) (b ∷ bs) ≡ Some b in subst P (sym e) (rw (same_key-refl b.key) refl)), p)

of_state : (r : LogRecord) (b : Branch) (bs : List Branch) (s : State) → b.state ≡ s → (In r (prepared_records bs) → IsOf r (b ∷ bs)) → In r (prepared_state b s (prepared_records bs)) → IsOf r (b ∷ bs)
of_state r b bs Prepared e rest h = elim h [ inl z ↦ of_first r b bs z (ap phase_of e) | inr z ↦ rest z ]
of_state r b bs _ e rest h = rest h

record_of : (bs : List Branch) (r : LogRecord) → Unique bs → In r (prepared_records bs) → IsOf r bs
record_of [] r u h = absurd h
record_of (b ∷ bs) r u h = of_state r b bs b.state refl (λ i. of_rest r b bs u.0 (record_of bs r u.1 i)) h

pub distinct_records : (bs : List Branch) → Unique bs → DistinctKeys (prepared_records bs)
distinct_records [] u = tt
distinct_records (b ∷ bs) u = go b.state (distinct_records bs u.1)
  where
    go : (s : State) → DistinctKeys (prepared_records bs) → DistinctKeys (prepared_state b s (prepared_records bs))
    go Prepared d = (
      (λ q i e. let r = record_of bs q u.1 i in
          let P : Key → Type 0 = λ x. find x bs ≡ None in let z : None ≡ Some r.0 = sym (subst P (sym e) u.0) ∙ r.1 in cc),
      d,
    )
    go _ d = d

-- What is known of a world that a run has reached from an opening.
pub record IsReached (o : Opening) (w : World) : Type 0 where
  pub opens : IsAgreeing o
  pub good : Good w
  pub apart : Apart w
  pub later : Later (begun o) (view w)
  pub last : LastFrom (opened o) w
  pub rack : w.rack ≡ in_rack o

ready_left : (o : Opening) (w : World) → IsReached o w → (k : Key) → PreparedIn (left w o) k → IsReady (view w) k
ready_left o w g k p =
    let r = record_of (w.nodes (home_of k)).table p.0 (g.good.unique (home_of k)) (of_left (λ i. i.prepared) w o (home_of k) p.0 refl p.1) in
    let P : Key → Type 0 = λ x. phase (find x (w.nodes (home_of k)).table) ≡ Ready in
    subst P p.2 (ap phase r.1 ∙ r.2)

home_left : (o : Opening) (w : World) → IsReached o w → (n : Name) (r : LogRecord) → In r (image_at (left w o) n).prepared → r.serial.node ≡ n
home_left o w g n r h =
    let q = record_of (w.nodes n).table r (g.good.unique n) (of_left (λ i. i.prepared) w o n r refl h) in
    g.good.home n (record_key r) q.0 q.1

-- a unit is of a branch that runs, or that the node's fall left
abbrev IsUnit : World → Name → Key → Type 0
IsUnit w n k = IsRunning (view w) k ⊎ In k (w.nodes n).lost

unit_left : (o : Opening) (w : World) → IsReached o w → (n : Name) (k : Key) → In k (image_at (left w o) n).units → (home_of k ≡ n) × IsUnit w n k
unit_left o w g n k h =
    elim (in_parts k (units_of (w.nodes n).table) (w.nodes n).lost (of_left (λ i. i.units) w o n k refl h)) [
      | inl u ↦
          let q = in_units k (w.nodes n).table (g.good.unique n) u in
          let home : home_of k ≡ n = g.good.home n k q.0 q.1 in
          let P : Name → Type 0 = λ m. find k (w.nodes m).table ≡ Some q.0 in
          (home, inl (ap phase (subst P (sym home) q.1) ∙ q.2))
      | inr u ↦ (g.good.lost_home n k u, inr u)
    ]

unit_unsettled : (o : Opening) (w : World) → IsReached o w → (n : Name) (k : Key) → IsUnit w n k → (out : Outcome) → In (k, out) w.settled → ⊥
unit_unsettled o w g n k (inl r) out s = g.good.inv.unsettled k (not_gone ((view w).at k) r) out s
unit_unsettled o w g n k (inr l) out s = (g.good.inv.lost n k l).unsettled out s

unit_unready : (o : Opening) (w : World) → IsReached o w → (n : Name) (k : Key) → IsUnit w n k → IsReady (view w) k → ⊥
unit_unready o w g n k (inl r) s = not_both ((view w).at k) r s
unit_unready o w g n k (inr l) s = not_gone_ready ((view w).at k) s (g.good.inv.lost n k l).gone

unit_old : (o : Opening) (w : World) → IsReached o w → (n : Name) (k : Key) → IsUnit w n k → AreOld (view w) k
unit_old o w g n k (inl r) = g.good.inv.old_at k (not_gone ((view w).at k) r)
unit_old o w g n k (inr l) = (g.good.inv.lost n k l).old

waits_left : (o : Opening) (w : World) (n : Name) (k : Key) → WaitsIn (left w o) n k → Waits (view w) n k
waits_left o w n k h = (h.0, of_left (λ i. i.committed) w o n h.0 refl h.1, h.2, h.3)

-- a last settlement is one of the run, or one of the opening
abbrev IsLast : Opening → World → Key → Outcome → Type 0
IsLast o w k out = In (k, out) w.settled ⊎ LastIn o k out

last_of : (o : Opening) (w : World) → IsReached o w → (k : Key) (out : Outcome) → LastIn (left w o) k out → IsLast o w k out
last_of o w g k out l = elim (g.last l.0 (k, out) (last_left w o l.0 (k, out) l.1)) [
  | inl h ↦ inl h.1
  | inr h ↦ inr (l.0, h)
]

-- at the branch's own node it is settled in any case
last_own : (o : Opening) (w : World) → IsReached o w → (n : Name) (k : Key) (out : Outcome) → home_of k ≡ n → (image_at (left w o) n).last ≡ Some (k, out) → In (k, out) w.settled
last_own o w g n k out home e = elim (g.last n (k, out) (last_left w o n (k, out) e)) [
  | inl h ↦ h.1
  | inr h ↦
      let P : Name → Type 0 = λ m. (image_at o m).last ≡ Some (k, out) in
      g.later.settled k out ((is_shown o g.opens).settled_own k out (subst P (sym home) h))
]

shows_left : (o : Opening) (w : World) → IsReached o w → (t : Id) → Shows (left w o) t → Commits (view w) t
shows_left o w g t (inl l) =
    let P : Id → Type 0 = λ x. Commits (view w) x in
    subst P l.2 (elim (last_of o w g l.0 ToCommit l.1) [
      | inl s ↦ g.good.inv.upward l.0 s
      | inr s ↦ inr (g.later.shown l.0.tid ((is_shown o g.opens).shown_has l.0.tid (inl (l.0, s, refl))))
    ])
shows_left o w g t (inr r) =
    let q = r.1 in
    let P : Id → Type 0 = λ x. Commits (view w) x in
    subst P q.2 (g.good.inv.recorded r.0 q.0 (of_left (λ i. i.committed) w o r.0 q.0 refl q.1))

idle_left : (o : Opening) → IsAgreeing o → (k : Key) (out : Outcome) → LastIn o k out → IsIdle (begun o) k.tid
idle_left o a k out l = record { old = old_of o k.tid (a.old_last k out l).tid; undecided = λ r. never_runs o (first k.tid) r }

held_left : (o : Opening) (w : World) → IsReached o w → (k : Key) → WaitedFor (left w o) k → Commits (view w) k.tid × IsAccepted (view w) k × (IsReady (view w) k ⊎ IsCommitted (view w) k)
held_left o w g k h = g.good.inv.waits h.0 k (waits_left o w h.0 k h.1)

waited_last_left : (o : Opening) (w : World) → IsReached o w → (k : Key) → WaitedFor (left w o) k → LastIn (left w o) k ToAbort → ⊥
waited_last_left o w g k h l = elim (last_of o w g k ToAbort l) [
  | inl s ↦ elim ((held_left o w g k h).2) [
    | inl r ↦ g.good.inv.unsettled k (not_gone_ready ((view w).at k) r) ToAbort s
    | inr c ↦ never_both w.settled k g.good.inv.once c s
  ]
  | inr s ↦ g.opens.waited_last k (h.0, g.later.waits h.0 k (idle_left o g.opens k ToAbort s) (waits_left o w h.0 k h.1)) s
]

waited_unit_left : (o : Opening) (w : World) → IsReached o w → (n : Name) (k : Key) → WaitedFor (left w o) k → In k (image_at (left w o) n).units → ⊥
waited_unit_left o w g n k h u =
    let q = (unit_left o w g n k u).1 in
    elim ((held_left o w g k h).2) [
      | inl r ↦ unit_unready o w g n k q r
      | inr c ↦ unit_unsettled o w g n k q ToCommit c
    ]

first_last_left : (o : Opening) (w : World) → IsReached o w → (t : Id) → Shows (left w o) t → LastIn (left w o) (first t) ToAbort → ⊥
first_last_left o w g t h l =
    let c : Commits (view w) t = shows_left o w g t h in
    elim (last_of o w g (first t) ToAbort l) [
      | inl s ↦ elim c [ inl z ↦ never_both w.settled (first t) g.good.inv.once z s | inr z ↦ g.good.inv.shown_first t z s ]
      | inr s ↦
          let dead : IsDead (begun o) t = record {
            old = old_of o t (g.opens.old_last (first t) ToAbort s).tid;
            undecided = λ r. never_runs o (first t) r;
            commits = λ d. g.opens.first_last t (shows_of o (is_shown o g.opens) t d) s;
          } in
          (g.later.dead t dead).commits c
    ]

first_unit_left : (o : Opening) (w : World) → IsReached o w → (n : Name) (t : Id) → Shows (left w o) t → In (first t) (image_at (left w o) n).units → ⊥
first_unit_left o w g n t h u =
    let c : Commits (view w) t = shows_left o w g t h in
    elim ((unit_left o w g n (first t) u).1) [
      | inl r ↦ g.good.inv.undecided t r c
      | inr l ↦ elim c [ inl z ↦ (g.good.inv.lost n (first t) l).unsettled ToCommit z | inr z ↦ g.good.inv.shown_lost t z n l ]
    ]

-- an id that is old is so in the images
old_left : (o : Opening) (w : World) → IsReached o w → (i : Id) → IsOld (view w) i → OldIn (left w o) i
old_left o w g i h = λ rack.
    let there : in_rack o i.node ≡ true = sym (left_rack w o i.node) ∙ rack in
    let q : i.boot ≤ (w.nodes i.node).boot = h.boot (ap (λ (f : Name → Bool). f i.node) g.rack ∙ there) in
    elim (left_or w o i.node) [
      | inl e ↦ (let P : Image → Type 0 = λ x. i.boot ≤ x.boot in subst P (sym e.0) q)
      | inr e ↦ absurd (let z : true ≡ false = sym there ∙ e.1 in cc)
    ]

old_key_left : (o : Opening) (w : World) → IsReached o w → (k : Key) → AreOld (view w) k → OldKey (left w o) k
old_key_left o w g k h = record { tid = old_left o w g k.tid h.tid; serial = old_left o w g k.serial h.serial }

old_commits : (o : Opening) (w : World) → IsReached o w → (t : Id) → Commits (view w) t → IsOld (view w) t
old_commits o w g t (inl c) = (g.good.inv.old_settled (first t) (ToCommit, c)).tid
old_commits o w g t (inr c) = g.good.inv.old_shown t c

old_last_left : (o : Opening) (w : World) → IsReached o w → (k : Key) (out : Outcome) → LastIn (left w o) k out → AreOld (view w) k
old_last_left o w g k out l = elim (last_of o w g k out l) [
  | inl s ↦ g.good.inv.old_settled k (out, s)
  | inr s ↦ let q = g.opens.old_last k out s in record { tid = g.later.old k.tid (old_of o k.tid q.tid); serial = g.later.old k.serial (old_of o k.serial q.serial) }
]

owed_left : (o : Opening) (w : World) → IsReached o w → (k : Key) → PreparedIn (left w o) k → in_rack (left w o) (coordinator_of k) ≡ true → WaitsIn (left w o) (coordinator_of k) k ⊎ (Shows (left w o) k.tid → ⊥)
owed_left o w g k p rack =
    let there : in_rack o (coordinator_of k) ≡ true = sym (left_rack w o (coordinator_of k)) ∙ rack in
    elim (commits_or (view w) k.tid) [
      | inl c ↦
          let q = g.good.inv.owed k (ready_left o w g k p) c (ap (λ (f : Name → Bool). f (coordinator_of k)) g.rack ∙ there) in
          inl (q.0, to_left (λ i. i.committed) w o (coordinator_of k) q.0 there q.1, q.2, q.3)
      | inr c ↦ inr (λ s. c (shows_left o w g k.tid s))
    ]

agreeing_left : (o : Opening) (w : World) → IsReached o w → IsAgreeing (left w o)
agreeing_left o w g = record {
  own_prepared = home_left o w g;
  own_committed = λ n r h. g.apart.own n r.serial (in_serial r (w.nodes n).records (of_left (λ i. i.committed) w o n r refl h));
  own_units = λ n k h. (unit_left o w g n k h).0;
  distinct = λ n. elim (left_or w o n) [
    | inl e ↦ (let P : Image → Type 0 = λ i. Distinct (log_serials i) in subst P (sym e.0) (left_distinct (w.nodes n) (g.apart.each n)))
    | inr e ↦ (let P : Image → Type 0 = λ i. Distinct (log_serials i) in subst P (sym e.0) tt)
  ];
  unprepared = λ n k h p. unit_unready o w g n k (unit_left o w g n k h).1 (ready_left o w g k p);
  owed = owed_left o w g;
  waited_last = waited_last_left o w g;
  waited_unit = waited_unit_left o w g;
  first_last = first_last_left o w g;
  first_unit = first_unit_left o w g;
  last_unit = λ n k out e h. let u = unit_left o w g n k h in unit_unsettled o w g n k u.1 out (last_own o w g n k out u.0 e);
  last_prepared = λ n r out e h.
      let home = home_left o w g n r h in
      let P : Name → Type 0 = λ m. In r (image_at (left w o) m).prepared in
      let ready = ready_left o w g (record_key r) (r, subst P (sym home) h, refl) in
      g.good.inv.unsettled (record_key r) (not_gone_ready ((view w).at (record_key r)) ready) out (last_own o w g n (record_key r) out home e);
  old_prepared = λ n r h.
      let P : Name → Type 0 = λ m. In r (image_at (left w o) m).prepared in
      let ready = ready_left o w g (record_key r) (r, subst P (sym (home_left o w g n r h)) h, refl) in
      old_key_left o w g (record_key r) (g.good.inv.old_at (record_key r) (not_gone_ready ((view w).at (record_key r)) ready));
  old_waited = λ k h. old_key_left o w g k (g.good.inv.old_accepted k (held_left o w g k h).1);
  old_committed = λ n r h.
      let there : In r (w.nodes n).records = of_left (λ i. i.committed) w o n r refl h in
      record {
        tid = old_left o w g r.tid (old_commits o w g r.tid (g.good.inv.recorded n r there));
        serial = old_left o w g r.serial (g.apart.old n r.serial (in_serial r (w.nodes n).records there));
      };
  old_last = λ k out l. old_key_left o w g k (old_last_left o w g k out l);
  old_unit = λ n k h. old_key_left o w g k (unit_old o w g n k (unit_left o w g n k h).1);
}

pub left_from : (o : Opening) → IsAgreeing o → (steps : List Step) → IsAgreeing (left (run steps (opened o)) o)
left_from o a steps =
    let g = goes_run steps (opened o) (good_opened o a (is_shown o a)) in
    agreeing_left o (run steps (opened o)) (record { opens = a; good = g.good; apart = apart_from o a steps; later = g.later; last = g.last; rack = g.rack })
