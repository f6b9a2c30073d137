-- The coordinator commits the transaction.
use Rattle.std.proofs.Common.{◌≡◌, ◌≢◌, List, ◌∷◌, Some, None, ◌⊎◌, inl, inr, refl, ap, sym, subst, ◌∙◌}
use Rattle.vms_model.specs.Ids.{Id}
use Rattle.vms_model.specs.Transactions.{Outcome, Commit as ToCommit, Abort as ToAbort}
use Rattle.commit_protocol.specs.Messages.{Name, Kind, Yes, ReadOnly, LogRecord}
use Rattle.commit_protocol.specs.Table.{Key, Branch, Child, first, key_of, child}
use Rattle.commit_protocol.specs.World.{In}
use Rattle.commit_protocol.specs.Agreement.{Gone, Running, phase_of, phase, View, IsRunning, IsReady, IsReadOnly, IsAccepted, Commits, Waits, WasSent, AreOld}
use Rattle.commit_protocol.proofs.Lists.{set_at, set_cases}
use Rattle.commit_protocol.proofs.Invariant.{Says, Noted, Inv, Later, Kept, later_by, later_says, later_old, later_noted, later_commits}
use Rattle.commit_protocol.proofs.Settling.{gone_stays, gone_set, same_set, not_gone, not_gone_ready, not_both}

-- what the new records are, where the children of b that voted Yes are waited for
pub record Records (v : View) (b : Branch) (t : Id) (recs : Name → List LogRecord) : Type 0 where
  pub from : (n : Name) (r : LogRecord) → In r (recs n) → In r (v.records n) ⊎ ((r.tid ≡ t) × ((s : Id) → In s r.waiting → (c : Child) × In c b.accepted × (c.vote ≡ Some Yes) × (c.serial ≡ s)))
  pub kept : (n : Name) (r : LogRecord) → In r (v.records n) → In r (recs n)
  pub yes : (c : Child) → In c b.accepted → c.vote ≡ Some Yes → (r : LogRecord) × In r (recs t.node) × (r.tid ≡ t) × In c.serial r.waiting

abbrev pub decides : View → Id → (Name → List LogRecord) → View
decides v t recs = record v { at = set_at (first t) None v.at; records = recs; settled = (first t, ToCommit) ∷ v.settled }

pub was_says : (v : View) (d : Kind) (k : Key) → Inv v → WasSent v d k → (to : Name) × Says v d to k
was_says v d k i (m, h, e, f) =
    let P : Kind → Type 0 = λ x. Says v x m.to (key_of m) in
    let Q : Key → Type 0 = λ x. Says v d m.to x in
    (m.to, subst Q f (subst P e (i.says m h)))

-- a child that voted Yes is prepared as long as the transaction is undecided
pub yes_ready : (v : View) (t s : Id) → Inv v → IsRunning v (first t) → WasSent v Yes (child t s) → IsReady v (child t s)
yes_ready v t s i run h = elim ((was_says v Yes (child t s) i h).1.1) [
  | inl r ↦ r
  | inr q ↦ elim q [
    | inl c ↦ absurd (i.undecided t run (i.upward (child t s) c))
    | inr d ↦ absurd (d.undecided run)
  ]
]

pub decides_keeps : (v : View) (t : Id) (b : Branch) (recs : Name → List LogRecord) → Inv v
    → v.at (first t) ≡ Some b → phase_of b.state ≡ Running
    → ((c : Child) → In c b.accepted → (c.vote ≡ Some Yes) ⊎ (c.vote ≡ Some ReadOnly))
    → Records v b t recs
    → Kept v (decides v t recs)
decides_keeps v t b recs i at p votes rec =
    let k : Key = first t in
    let w : View = decides v t recs in
    let run : IsRunning v k = ap phase at ∙ p in
    let key : b.key ≡ k = i.keyed k b at in
    let key_tid : b.key.tid ≡ t = ap (λ (x : Key). x.tid) key in
    let note : Noted v b = i.noted k b at p in
    let differ : (x : Key) → IsReady v x → k ≢ x = λ x h e. not_both (v.at k) run (let P : Key → Type 0 = λ y. IsReady v y in subst P (sym e) h) in
    let ready : (x : Key) → IsReady v x → IsReady w x = λ x h. ap phase (same_set v k x (differ x h)) ∙ h in
    let running : (x : Key) → IsRunning w x → (k ≢ x) × IsRunning v x = λ x h. let g = gone_set v k x (not_gone (w.at x) h) in (g.0, sym (ap phase g.1) ∙ h) in
    -- commits in the new view: of t, or from before
    let commits : (u : Id) → Commits w u → (u ≡ t) ⊎ Commits v u = λ u c. elim c [
      | inl x ↦ elim x [ inl e ↦ inl (ap (λ (q : Key × Outcome). q.0.tid) e) | inr e ↦ inr (inl e) ]
      | inr x ↦ inr (inr x)
    ] in
    let now : Commits w t = inl (inl refl) in
    let l : Later v w = later_by v w (λ n h. h) (λ x h. h) (λ x q h. inr h) (λ x h. h) refl refl refl (λ x h. inl (ready x h))
    (λ u h r. h.undecided (running (first u) r).1)
    (λ u h c. elim (commits u c) [ inl e ↦ h.undecided (let P : Id → Type 0 = λ y. IsRunning v (first y) in subst P (sym e) run) | inr e ↦ h.commits e ])
    (λ n x idle h. elim (rec.from n h.0 h.1) [
      | inl o ↦ (h.0, o, h.2, h.3)
      | inr o ↦ absurd (idle.undecided (let P : Id → Type 0 = λ y. IsRunning v (first y) in subst P (sym (sym h.2 ∙ o.0)) run))
    ]) in
    -- each accepted serial of t voted
    let seen : (x : Key) → x.tid ≡ t → IsAccepted v x → ((c : Child) × In c b.accepted × (c.serial ≡ x.serial)) = λ x e a.
    note.all (key ∙ ap first (sym key_tid)) x.serial (let P : Id → Type 0 = λ y. IsAccepted v (child y x.serial) in subst P (e ∙ sym key_tid) a) in
    let sent_of : (c : Child) → In c b.accepted → (d : Kind) → c.vote ≡ Some d → WasSent v d (child t c.serial) = λ c h d e.
    let P : Id → Type 0 = λ y. WasSent v d (child y c.serial) in subst P key_tid (note.voted c h d e).1 in
    let yes : (c : Child) → In c b.accepted → c.vote ≡ Some Yes → IsReady v (child t c.serial) = λ c h e. yes_ready v t c.serial i run (sent_of c h Yes e) in
    let read : (c : Child) → In c b.accepted → c.vote ≡ Some ReadOnly → IsReadOnly v (child t c.serial) = λ c h e. (was_says v ReadOnly (child t c.serial) i (sent_of c h ReadOnly e)).1 in
    let as_key : (x : Key) (s : Id) → x.tid ≡ t → s ≡ x.serial → child t s ≡ x = λ x s e f j. record { tid = (sym e) j; serial = f j } in
    let waits_old : (n : Name) (x : Key) → Waits v n x → Waits w n x = λ n x h. (h.0, rec.kept n h.0 h.1, h.2, h.3) in
    record {
      later = l;
      inv = record {
        says = λ m h. later_says v w l m.kind m.to (key_of m) (i.says m h);
        whole = λ x a c. elim (commits x.tid c) [
          | inl e ↦ let s = seen x e a in let same = as_key x s.0.serial e s.2 in elim (votes s.0 s.1) [
            | inl y ↦ inl (ready x (let P : Key → Type 0 = λ z. IsReady v z in subst P same (yes s.0 s.1 y)))
            | inr y ↦ inr (inr (let P : Key → Type 0 = λ z. IsReadOnly v z in subst P same (read s.0 s.1 y)))
          ]
          | inr e ↦ elim (i.whole x a e) [ inl h ↦ inl (ready x h) | inr h ↦ elim h [ inl y ↦ inr (inl (inr y)) | inr y ↦ inr (inr y) ] ]
        ];
        owed = λ x h c there.
            let g = gone_set v k x (not_gone_ready (w.at x) h) in
            let was : IsReady v x = sym (ap phase g.1) ∙ h in elim (commits x.tid c) [
              | inl e ↦ let s = seen x e (i.accepted x was) in let same = as_key x s.0.serial e s.2 in elim (votes s.0 s.1) [
                | inl y ↦ let r = rec.yes s.0 s.1 y in
                    let P : Key → Type 0 = λ z. Waits w z.tid.node z in subst P same (r.0, r.1, r.2, r.3)
                | inr y ↦ absurd (i.unread x (not_gone_ready (v.at x) was) (let P : Key → Type 0 = λ z. IsReadOnly v z in subst P same (read s.0 s.1 y)))
              ]
              | inr e ↦ waits_old x.tid.node x (i.owed x was e there)
            ];
        waits = λ n x h. elim (rec.from n h.0 h.1) [
          | inl o ↦ let q = i.waits n x (h.0, o, h.2, h.3) in (later_commits v w l x.tid q.0, q.1, elim q.2 [ inl y ↦ inl (ready x y) | inr y ↦ inr (inr y) ])
          | inr o ↦
              let c = o.1 x.serial h.3 in
              let e : x.tid ≡ t = sym h.2 ∙ o.0 in
              let same = as_key x c.0.serial e c.3 in (
                (let P : Id → Type 0 = λ y. Commits w y in subst P (sym e) now),
                (let P : Key → Type 0 = λ z. IsAccepted v z in subst P same (let Q : Id → Type 0 = λ y. IsAccepted v (child y c.0.serial) in subst Q key_tid (note.taken c.0 c.1))),
                inl (ready x (let P : Key → Type 0 = λ z. IsReady v z in subst P same (yes c.0 c.1 c.2))),
              )
        ];
        recorded = λ n r h. elim (rec.from n r h) [
          | inl o ↦ later_commits v w l r.tid (i.recorded n r o)
          | inr o ↦ let P : Id → Type 0 = λ y. Commits w y in subst P (sym o.0) now
        ];
        upward = λ x h. elim h [
          | inl e ↦ let P : Id → Type 0 = λ y. Commits w y in subst P (sym (ap (λ (q : Key × Outcome). q.0.tid) e)) now
          | inr e ↦ later_commits v w l x.tid (i.upward x e)
        ];
        accepted = λ x h. i.accepted x (sym (ap phase (gone_set v k x (not_gone_ready (w.at x) h)).1) ∙ h);
        unsettled = λ x h q s. elim s [
          | inl e ↦ (gone_set v k x h).0 (sym (ap (λ (z : Key × Outcome). z.0) e))
          | inr e ↦ i.unsettled x (λ g. h (ap phase (gone_set v k x h).1 ∙ g)) q e
        ];
        unread = λ x h. i.unread x (λ g. h (ap phase (gone_set v k x h).1 ∙ g));
        undecided = λ u h c. elim (commits u c) [
          | inl e ↦ (running (first u) h).0 (ap first (sym e))
          | inr e ↦ i.undecided u (running (first u) h).1 e
        ];
        apart = λ x h q s. elim s [
          | inl e ↦ let a : x ≡ k = ap (λ (z : Key × Outcome). z.0) e in i.unread k (not_gone (v.at k) run) (let P : Key → Type 0 = λ y. IsReadOnly v y in subst P a h)
          | inr e ↦ i.apart x h q e
        ];
        once = (λ q h. i.unsettled k (not_gone (v.at k) run) q h, i.once);
        keyed = λ x c e. elim (set_cases k x None v.at) [
          | inl h ↦ absurd (let q : None ≡ Some c = sym h.1 ∙ e in cc)
          | inr h ↦ i.keyed x c (sym h.1 ∙ e)
        ];
        noted = λ x c e r. elim (set_cases k x None v.at) [
          | inl h ↦ absurd (let q : None ≡ Some c = sym h.1 ∙ e in cc)
          | inr h ↦ later_noted v w l c (λ s f g. g) (i.noted x c (sym h.1 ∙ e) r)
        ];
        old_at = λ x h. later_old v w l x (i.old_at x (λ g. h (ap phase (gone_set v k x h).1 ∙ g)));
        old_accepted = λ x h. later_old v w l x (i.old_accepted x h);
        old_read = λ x h. later_old v w l x (i.old_read x h);
        old_settled = λ x h. elim (h.1) [
          | inl e ↦ let a : x ≡ k = ap (λ (z : Key × Outcome). z.0) e in later_old v w l x (let P : Key → Type 0 = λ y. AreOld v y in subst P (sym a) (i.old_at k (not_gone (v.at k) run)))
          | inr e ↦ later_old v w l x (i.old_settled x (h.0, e))
        ];
        old_shown = λ u h. l.old u (i.old_shown u h);
        old_sent = λ m h. later_old v w l (key_of m) (i.old_sent m h);
        old_made = λ u h. l.old u (i.old_made u h);
        distinct = i.distinct;
        current = λ x h. i.current x (running x h).1;
        lost = λ n x h. let q = i.lost n x h in record {
          gone = gone_stays v k x q.gone;
          unsettled = λ o s. elim s [
            | inl e ↦ not_gone (v.at k) run (let P : Key → Type 0 = λ y. phase (v.at y) ≡ Gone in subst P (ap (λ (z : Key × Outcome). z.0) e) q.gone)
            | inr e ↦ q.unsettled o e
          ];
          unread = q.unread;
          old = later_old v w l x q.old;
        };
        shown_first = λ u h s. elim s [
          | inl e ↦ let b : ToAbort ≡ ToCommit = ap (λ (z : Key × Outcome). z.1) e in cc
          | inr e ↦ i.shown_first u h e
        ];
        shown_lost = i.shown_lost;
      };
    }
