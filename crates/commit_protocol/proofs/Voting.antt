-- A branch is accepted, is prepared, or is read-only; an Ack is noted.
use Rattle.std.proofs.Common.{◌≡◌, ◌≢◌, List, ◌∷◌, Some, None, ◌⊎◌, inl, inr, refl, ap, sym, subst, ◌∙◌}
use Rattle.vms_model.specs.Ids.{Id}
use Rattle.vms_model.specs.Transactions.{Commit as ToCommit}
use Rattle.commit_protocol.specs.Messages.{Name, LogRecord}
use Rattle.commit_protocol.specs.Table.{Key, Branch, Prepared, first, key_of}
use Rattle.commit_protocol.specs.World.{In}
use Rattle.commit_protocol.specs.Agreement.{Gone, Running, phase_of, phase, View, IsRunning, IsReady, IsCommitted, IsAccepted, Commits, Waits, AreOld}
use Rattle.commit_protocol.proofs.Lists.{set_at, set_cases}
use Rattle.commit_protocol.proofs.Invariant.{Inv, Later, Kept, later_by, later_says, later_old, later_noted}
use Rattle.commit_protocol.proofs.Quiet.{with_records, records_keep}
use Rattle.commit_protocol.proofs.Settling.{gone_stays, gone_set, same_set, not_gone, not_gone_ready, not_both}

abbrev pub prepared : Branch → Branch
prepared b = record b { state = Prepared }

abbrev pub prepares : View → Branch → View
prepares v b = record v { at = set_at b.key (Some (prepared b)) v.at }

pub prepares_keeps : (v : View) (b : Branch) → Inv v → v.at b.key ≡ Some b → phase_of b.state ≡ Running → IsAccepted v b.key → Kept v (prepares v b)
prepares_keeps v b i at p acc =
    let k : Key = b.key in
    let w : View = prepares v b in
    let run : IsRunning v k = ap phase at ∙ p in
    -- at the key it is prepared, elsewhere nothing changed
    let split : (x : Key) → ((k ≡ x) × (w.at x ≡ Some (prepared b))) ⊎ ((k ≢ x) × (w.at x ≡ v.at x)) = λ x. set_cases k x (Some (prepared b)) v.at in
    let ready : (x : Key) → IsReady v x → IsReady w x = λ x h. elim (split x) [
      | inl e ↦ ap phase e.1
      | inr e ↦ ap phase e.1 ∙ h
    ] in
    let running : (x : Key) → IsRunning w x → IsRunning v x = λ x h. elim (split x) [
      | inl e ↦ absurd (not_both (w.at x) h (ap phase e.1))
      | inr e ↦ sym (ap phase e.1) ∙ h
    ] in
    let here : (x : Key) → phase (w.at x) ≢ Gone → phase (v.at x) ≢ Gone = λ x h g. elim (split x) [
      | inl e ↦ not_gone (v.at x) (let P : Key → Type 0 = λ y. IsRunning v y in subst P e.0 run) g
      | inr e ↦ h (ap phase e.1 ∙ g)
    ] in
    let l : Later v w = later_by v w (λ n h. h) (λ x h. h) (λ x q h. h) (λ x h. h) refl refl refl (λ x h. inl (ready x h)) (λ t h r. h.undecided (running (first t) r)) (λ t h. h.commits) (λ n x i h. h) in
    record {
      later = l;
      inv = record {
        says = λ m h. later_says v w l m.kind m.to (key_of m) (i.says m h);
        whole = λ x a c. elim (i.whole x a c) [ inl h ↦ inl (ready x h) | inr h ↦ inr h ];
        owed = λ x h c there. elim (split x) [
          | inl e ↦
              let c' : Commits v k.tid = (let P : Key → Type 0 = λ y. Commits v y.tid in subst P (sym e.0) c) in
              elim (i.whole k acc c') [
                | inl r ↦ absurd (not_both (v.at k) run r)
                | inr q ↦ elim q [
                  | inl s ↦ absurd (i.unsettled k (not_gone (v.at k) run) ToCommit s)
                  | inr s ↦ absurd (i.unread k (not_gone (v.at k) run) s)
                ]
              ]
          | inr e ↦ i.owed x (sym (ap phase e.1) ∙ h) c there
        ];
        waits = λ n x h. let q = i.waits n x h in (q.0, q.1, elim q.2 [ inl y ↦ inl (ready x y) | inr y ↦ inr y ]);
        recorded = i.recorded;
        upward = i.upward;
        accepted = λ x h. elim (split x) [
          | inl e ↦ let P : Key → Type 0 = λ y. IsAccepted v y in subst P e.0 acc
          | inr e ↦ i.accepted x (sym (ap phase e.1) ∙ h)
        ];
        unsettled = λ x h. i.unsettled x (here x h);
        unread = λ x h. i.unread x (here x h);
        undecided = λ t h. i.undecided t (running (first t) h);
        apart = i.apart;
        once = i.once;
        keyed = λ x c e. elim (split x) [
          | inl h ↦ let q : Some (prepared b) ≡ Some c = sym h.1 ∙ e in let same : prepared b ≡ c = cc in ap (λ (y : Branch). y.key) (sym same) ∙ h.0
          | inr h ↦ i.keyed x c (sym h.1 ∙ e)
        ];
        noted = λ x c e r. elim (split x) [
          | inl h ↦ absurd (not_both (w.at x) (ap phase e ∙ r) (ap phase h.1))
          | inr h ↦ later_noted v w l c (λ s f g. g) (i.noted x c (sym h.1 ∙ e) r)
        ];
        old_at = λ x h. later_old v w l x (i.old_at x (here x h));
        old_accepted = λ x h. later_old v w l x (i.old_accepted x h);
        old_read = λ x h. later_old v w l x (i.old_read x h);
        old_settled = λ x h. later_old v w l x (i.old_settled x h);
        old_shown = λ t h. l.old t (i.old_shown t h);
        old_sent = λ m h. later_old v w l (key_of m) (i.old_sent m h);
        old_made = λ u h. l.old u (i.old_made u h);
        distinct = i.distinct;
        current = λ x h. i.current x (running x h);
        lost = λ n x h. let q = i.lost n x h in record {
          gone = elim (split x) [
            | inl e ↦ absurd (not_gone (v.at k) run (let P : Key → Type 0 = λ y. phase (v.at y) ≡ Gone in subst P (sym e.0) q.gone))
            | inr e ↦ ap phase e.1 ∙ q.gone
          ];
          unsettled = q.unsettled;
          unread = q.unread;
          old = later_old v w l x q.old;
        };
        shown_first = i.shown_first;
        shown_lost = i.shown_lost;
      };
    }

abbrev pub leaves : View → Key → View
leaves v k = record v { at = set_at k None v.at; read_only = k ∷ v.read_only }

pub leaves_keeps : (v : View) (k : Key) → Inv v → IsRunning v k → Kept v (leaves v k)
leaves_keeps v k i run =
    let w : View = leaves v k in
    let differ : (x : Key) → IsReady v x → k ≢ x = λ x h e. not_both (v.at k) run (let P : Key → Type 0 = λ y. IsReady v y in subst P (sym e) h) in
    let ready : (x : Key) → IsReady v x → IsReady w x = λ x h. ap phase (same_set v k x (differ x h)) ∙ h in
    let running : (x : Key) → IsRunning w x → IsRunning v x = λ x h. sym (ap phase (gone_set v k x (not_gone (w.at x) h)).1) ∙ h in
    let here : (x : Key) → phase (w.at x) ≢ Gone → phase (v.at x) ≢ Gone = λ x h g. h (ap phase (gone_set v k x h).1 ∙ g) in
    let l : Later v w = later_by v w (λ n h. h) (λ x h. h) (λ x q h. h) (λ x h. inr h) refl refl refl (λ x h. inl (ready x h)) (λ t h r. h.undecided (running (first t) r)) (λ t h. h.commits) (λ n x i h. h) in
    record {
      later = l;
      inv = record {
        says = λ m h. later_says v w l m.kind m.to (key_of m) (i.says m h);
        whole = λ x a c. elim (i.whole x a c) [ inl h ↦ inl (ready x h) | inr h ↦ elim h [ inl y ↦ inr (inl y) | inr y ↦ inr (inr (inr y)) ] ];
        owed = λ x h. i.owed x (sym (ap phase (gone_set v k x (not_gone_ready (w.at x) h)).1) ∙ h);
        waits = λ n x h. let q = i.waits n x h in (q.0, q.1, elim q.2 [ inl y ↦ inl (ready x y) | inr y ↦ inr y ]);
        recorded = i.recorded;
        upward = i.upward;
        accepted = λ x h. i.accepted x (sym (ap phase (gone_set v k x (not_gone_ready (w.at x) h)).1) ∙ h);
        unsettled = λ x h. i.unsettled x (here x h);
        unread = λ x h r. elim r [
          | inl e ↦ (gone_set v k x h).0 (sym e)
          | inr e ↦ i.unread x (here x h) e
        ];
        undecided = λ t h. i.undecided t (running (first t) h);
        apart = λ x r o s. elim r [
          | inl e ↦ i.unsettled k (not_gone (v.at k) run) o (let P : Key → Type 0 = λ y. In (y, o) v.settled in subst P e s)
          | inr e ↦ i.apart x e o s
        ];
        once = i.once;
        keyed = λ x c e. elim (set_cases k x None v.at) [
          | inl h ↦ absurd (let q : None ≡ Some c = sym h.1 ∙ e in cc)
          | inr h ↦ i.keyed x c (sym h.1 ∙ e)
        ];
        noted = λ x c e r. elim (set_cases k x None v.at) [
          | inl h ↦ absurd (let q : None ≡ Some c = sym h.1 ∙ e in cc)
          | inr h ↦ later_noted v w l c (λ s f g. g) (i.noted x c (sym h.1 ∙ e) r)
        ];
        old_at = λ x h. later_old v w l x (i.old_at x (here x h));
        old_accepted = λ x h. later_old v w l x (i.old_accepted x h);
        old_read = λ x r. elim r [
          | inl e ↦ later_old v w l x (let P : Key → Type 0 = λ y. AreOld v y in subst P (sym e) (i.old_at k (not_gone (v.at k) run)))
          | inr e ↦ later_old v w l x (i.old_read x e)
        ];
        old_settled = λ x h. later_old v w l x (i.old_settled x h);
        old_shown = λ t h. l.old t (i.old_shown t h);
        old_sent = λ m h. later_old v w l (key_of m) (i.old_sent m h);
        old_made = λ u h. l.old u (i.old_made u h);
        distinct = i.distinct;
        current = λ x h. i.current x (running x h);
        lost = λ n x h. let q = i.lost n x h in record {
          gone = gone_stays v k x q.gone;
          unsettled = q.unsettled;
          unread = λ r. elim r [
            | inl e ↦ not_gone (v.at k) run (let P : Key → Type 0 = λ y. phase (v.at y) ≡ Gone in subst P e q.gone)
            | inr e ↦ q.unread e
          ];
          old = later_old v w l x q.old;
        };
        shown_first = i.shown_first;
        shown_lost = i.shown_lost;
      };
    }

-- an Ack takes a committed serial out of the records
pub record Taken (v : View) (k : Key) (recs : Name → List LogRecord) : Type 0 where
  pub from : (n : Name) (r : LogRecord) → In r (recs n) → (q : LogRecord) × In q (v.records n) × (q.tid ≡ r.tid) × ((s : Id) → In s r.waiting → In s q.waiting)
  pub kept : (n : Name) (x : Key) → k ≢ x → Waits v n x → Waits (record v { records = recs }) n x

pub with_records_keeps : (v : View) (k : Key) (recs : Name → List LogRecord) → Inv v → IsCommitted v k → Taken v k recs → Kept v (with_records v recs)
with_records_keeps v k recs i done t =
    let w : View = with_records v recs in
    let l : Later v w = later_by v w (λ n h. h) (λ x h. h) (λ x q h. h) (λ x h. h) refl refl refl (λ x h. inl h) (λ u h. h.undecided) (λ u h. h.commits)
    (λ n x idle h. let q = t.from n h.0 h.1 in (q.0, q.1, q.2 ∙ h.2, q.3 x.serial h.3)) in
    records_keep v recs i l
    (λ x h c there. t.kept x.tid.node x (λ e. i.unsettled x (not_gone_ready (v.at x) h) ToCommit (let P : Key → Type 0 = λ y. IsCommitted v y in subst P e done)) (i.owed x h c there))
    (λ n x h. let q = t.from n h.0 h.1 in i.waits n x (q.0, q.1, q.2 ∙ h.2, q.3 x.serial h.3))
    (λ n r h. let q = t.from n r h in let P : Id → Type 0 = λ y. Commits v y in subst P q.2 (i.recorded n q.0 q.1))
