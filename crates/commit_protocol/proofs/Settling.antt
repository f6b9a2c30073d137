-- Acts that end a branch or prepare it.
use Rattle.std.proofs.Common.{◌≡◌, ◌≢◌, List, ◌∷◌, Option, Some, None, ◌⊎◌, inl, inr, refl, ap, sym, subst, ◌∙◌}
use Rattle.vms_model.specs.Ids.{Id}
use Rattle.vms_model.specs.Transactions.{Outcome, Commit as ToCommit, Abort as ToAbort}
use Rattle.commit_protocol.specs.Messages.{Name}
use Rattle.commit_protocol.specs.Table.{Key, Branch, first, key_of}
use Rattle.commit_protocol.specs.World.{In}
use Rattle.commit_protocol.specs.Agreement.{Gone, Running, Ready, phase, View, IsRunning, IsReady, IsCommitted, IsReadOnly, Commits, IsDead, IsSure, AreOld}
use Rattle.commit_protocol.proofs.Lists.{set_at, set_cases}
use Rattle.commit_protocol.proofs.Invariant.{IsIdle, idle_dead, Inv, Later, Kept, later_by, later_says, later_old, later_noted, later_commits}

-- one branch leaves its node's table
pub gone_set : (v : View) (j k : Key) → phase (set_at j None v.at k) ≢ Gone → (j ≢ k) × (set_at j None v.at k ≡ v.at k)
gone_set v j k h = elim (set_cases j k None v.at) [ inl e ↦ absurd (h (ap phase e.1)) | inr e ↦ e ]

pub same_set : (v : View) (j k : Key) → j ≢ k → set_at j None v.at k ≡ v.at k
same_set v j k ne = elim (set_cases j k None v.at) [ inl e ↦ absurd (ne e.0) | inr e ↦ e.1 ]

pub not_gone : (o : Option Branch) → phase o ≡ Running → phase o ≢ Gone
not_gone o h g = let e : Running ≡ Gone = sym h ∙ g in cc

pub not_gone_ready : (o : Option Branch) → phase o ≡ Ready → phase o ≢ Gone
not_gone_ready o h g = let e : Ready ≡ Gone = sym h ∙ g in cc

pub not_both : (o : Option Branch) → phase o ≡ Running → phase o ≡ Ready → ⊥
not_both o h g = let e : Running ≡ Ready = sym h ∙ g in cc

pub gone_stays : (v : View) (j k : Key) → phase (v.at k) ≡ Gone → phase (set_at j None v.at k) ≡ Gone
gone_stays v j k g = elim (set_cases j k None v.at) [ inl e ↦ ap phase e.1 | inr e ↦ ap phase e.1 ∙ g ]

-- a settlement that decides no transaction
abbrev pub settles : View → (Name → List Key) → Key → Outcome → View
settles v lost k o = record v { at = set_at k None v.at; settled = (k, o) ∷ v.settled; lost = lost }

-- the branch may still be settled
pub record MaySettle (v : View) (k : Key) : Type 0 where
  pub unsettled : (o : Outcome) → In (k, o) v.settled → ⊥
  pub unread : IsReadOnly v k → ⊥
  pub old : AreOld v k

pub settles_keeps : (v : View) (lost : Name → List Key) (k : Key) (o : Outcome) → Inv v
    → MaySettle v k
    → ((n : Name) (x : Key) → In x (lost n) → (k ≢ x) × In x (v.lost n))
    → (back : (t : Id) → Commits (settles v lost k o) t → Commits v t)
    → (up : o ≡ ToCommit → Commits v k.tid)
    → (kept : IsReady v k → (o ≡ ToCommit) ⊎ IsDead v k.tid)
    → (apart_first : (u : Id) → In u v.shown → first u ≡ k → o ≡ ToAbort → ⊥)
    → Kept v (settles v lost k o)
settles_keeps v lost k o i may left back up kept apart_first =
    let w : View = settles v lost k o in
    let dead : (t : Id) → IsIdle v t → IsRunning w (first t) → ⊥ = λ t h run.
    let g = gone_set v k (first t) (not_gone (w.at (first t)) run) in h.undecided (sym (ap phase g.1) ∙ run) in
    let committed : o ≡ ToCommit → IsCommitted w k = λ e. inl (ap (λ (x : Outcome). (k, x)) (sym e)) in
    let ready : (x : Key) → IsReady v x → IsSure w x = λ x h. elim (set_cases k x None v.at) [
      | inl e ↦ let r : IsReady v k = (let P : Key → Type 0 = λ y. IsReady v y in subst P (sym e.0) h) in
          let P : Key → Type 0 = λ y. IsSure w y in subst P e.0 (elim (kept r) [
            | inl c ↦ inr (inl (committed c))
            | inr d ↦ inr (inr (record { old = record { boot = d.old.boot; seq = d.old.seq }; undecided = dead k.tid (idle_dead v k.tid d); commits = λ c. d.commits (back k.tid c) }))
          ])
      | inr e ↦ inl (ap phase e.1 ∙ h)
    ] in
    let l : Later v w = later_by v w (λ n h. h) (λ x h. h) (λ x p h. inr h) (λ x h. h) refl refl refl ready dead (λ t h c. h.commits (back t c)) (λ n x i h. h) in
    let held : (x : Key) → Commits v x.tid → IsReady v x → IsReady w x ⊎ IsCommitted w x = λ x c h. elim (set_cases k x None v.at) [
      | inl e ↦ let r : IsReady v k = (let P : Key → Type 0 = λ y. IsReady v y in subst P (sym e.0) h) in
          let P : Key → Type 0 = λ y. IsReady w y ⊎ IsCommitted w y in subst P e.0 (elim (kept r) [
            | inl q ↦ inr (committed q)
            | inr d ↦ absurd (d.commits (let Q : Key → Type 0 = λ y. Commits v y.tid in subst Q (sym e.0) c))
          ])
      | inr e ↦ inl (ap phase e.1 ∙ h)
    ] in
    let here : (x : Key) → phase (w.at x) ≢ Gone → phase (v.at x) ≢ Gone = λ x h g. h (ap phase (gone_set v k x h).1 ∙ g) in
    record {
      later = l;
      inv = record {
        says = λ m h. later_says v w l m.kind m.to (key_of m) (i.says m h);
        whole = λ x a c. elim (i.whole x a (back x.tid c)) [
          | inl h ↦ elim (held x (back x.tid c) h) [ inl y ↦ inl y | inr y ↦ inr (inl y) ]
          | inr h ↦ elim h [ inl y ↦ inr (inl (inr y)) | inr y ↦ inr (inr y) ]
        ];
        owed = λ x h c. i.owed x (sym (ap phase (gone_set v k x (not_gone_ready (w.at x) h)).1) ∙ h) (back x.tid c);
        waits = λ q x h. let r = i.waits q x h in (later_commits v w l x.tid r.0, r.1, elim r.2 [ inl y ↦ held x r.0 y | inr y ↦ inr (inr y) ]);
        recorded = λ q r h. later_commits v w l r.tid (i.recorded q r h);
        upward = λ x h. elim h [
          | inl e ↦ let a : x ≡ k = ap (λ (p : Key × Outcome). p.0) e in let b : ToCommit ≡ o = ap (λ (p : Key × Outcome). p.1) e in
              later_commits v w l x.tid (let P : Key → Type 0 = λ y. Commits v y.tid in subst P (sym a) (up (sym b)))
          | inr e ↦ later_commits v w l x.tid (i.upward x e)
        ];
        accepted = λ x h. i.accepted x (sym (ap phase (gone_set v k x (not_gone_ready (w.at x) h)).1) ∙ h);
        unsettled = λ x h p s. elim s [
          | inl e ↦ (gone_set v k x h).0 (sym (ap (λ (p : Key × Outcome). p.0) e))
          | inr e ↦ i.unsettled x (here x h) p e
        ];
        unread = λ x h. i.unread x (here x h);
        undecided = λ t h c. i.undecided t (sym (ap phase (gone_set v k (first t) (not_gone (w.at (first t)) h)).1) ∙ h) (back t c);
        apart = λ x h p s. elim s [
          | inl e ↦ let a : x ≡ k = ap (λ (p : Key × Outcome). p.0) e in may.unread (let P : Key → Type 0 = λ y. IsReadOnly v y in subst P a h)
          | inr e ↦ i.apart x h p e
        ];
        once = (λ p h. may.unsettled p h, i.once);
        keyed = λ x b e. elim (set_cases k x None v.at) [
          | inl h ↦ absurd (let q : None ≡ Some b = sym h.1 ∙ e in cc)
          | inr h ↦ i.keyed x b (sym h.1 ∙ e)
        ];
        noted = λ x b e run. elim (set_cases k x None v.at) [
          | inl h ↦ absurd (let q : None ≡ Some b = sym h.1 ∙ e in cc)
          | inr h ↦ later_noted v w l b (λ s f h. h) (i.noted x b (sym h.1 ∙ e) run)
        ];
        old_at = λ x h. later_old v w l x (i.old_at x (here x h));
        old_accepted = λ x h. later_old v w l x (i.old_accepted x h);
        old_read = λ x h. later_old v w l x (i.old_read x h);
        old_settled = λ x h. elim (h.1) [
          | inl e ↦ let a : x ≡ k = ap (λ (p : Key × Outcome). p.0) e in later_old v w l x (let P : Key → Type 0 = λ y. AreOld v y in subst P (sym a) may.old)
          | inr e ↦ later_old v w l x (i.old_settled x (h.0, e))
        ];
        old_shown = λ t h. l.old t (i.old_shown t h);
        old_sent = λ m h. later_old v w l (key_of m) (i.old_sent m h);
        old_made = λ u h. l.old u (i.old_made u h);
        distinct = i.distinct;
        current = λ x h. i.current x (sym (ap phase (gone_set v k x (not_gone (w.at x) h)).1) ∙ h);
        lost = λ n x h. let q = i.lost n x (left n x h).1 in record {
          gone = gone_stays v k x q.gone;
          unsettled = λ p s. elim s [
            | inl e ↦ (left n x h).0 (sym (ap (λ (z : Key × Outcome). z.0) e))
            | inr e ↦ q.unsettled p e
          ];
          unread = q.unread;
          old = later_old v w l x q.old;
        };
        shown_first = λ u h s. elim s [
          | inl e ↦ apart_first u h (ap (λ (z : Key × Outcome). z.0) e) (sym (ap (λ (z : Key × Outcome). z.1) e))
          | inr e ↦ i.shown_first u h e
        ];
        shown_lost = λ u h n j. i.shown_lost u h n (left n (first u) j).1;
      };
    }

-- what a node has may be settled, and is not among the lost
pub may_settle : (v : View) (k : Key) → Inv v → phase (v.at k) ≢ Gone → MaySettle v k
may_settle v k i there = record { unsettled = i.unsettled k there; unread = i.unread k there; old = i.old_at k there }

pub not_lost : (v : View) (k : Key) → Inv v → phase (v.at k) ≢ Gone → (n : Name) (x : Key) → In x (v.lost n) → (k ≢ x) × In x (v.lost n)
not_lost v k i there n x h = ((λ e. there (let P : Key → Type 0 = λ y. phase (v.at y) ≡ Gone in subst P (sym e) (i.lost n x h).gone)), h)

-- the four uses: an unprepared branch is aborted, a prepared one of a dead transaction is aborted, a prepared one of a committed transaction is committed, a lost unit is undone
pub abort_back : (v : View) (lost : Name → List Key) (k : Key) (t : Id) → Commits (settles v lost k ToAbort) t → Commits v t
abort_back v lost k t (inl (inl e)) = absurd (let b : ToCommit ≡ ToAbort = ap (λ (p : Key × Outcome). p.1) e in cc)
abort_back v lost k t (inl (inr e)) = inl e
abort_back v lost k t (inr e) = inr e

pub abort_keeps : (v : View) (k : Key) → Inv v → IsRunning v k → Kept v (settles v v.lost k ToAbort)
abort_keeps v k i run =
    let there : phase (v.at k) ≢ Gone = not_gone (v.at k) run in
    settles_keeps v v.lost k ToAbort i (may_settle v k i there) (not_lost v k i there) (abort_back v v.lost k) (λ e. absurd cc) (λ h. absurd (not_both (v.at k) run h))
    (λ u h e a. i.undecided u (let P : Key → Type 0 = λ y. IsRunning v y in subst P (sym e) run) (inr h))

pub abort_ready_keeps : (v : View) (k : Key) → Inv v → IsReady v k → IsDead v k.tid → Kept v (settles v v.lost k ToAbort)
abort_ready_keeps v k i r d =
    let there : phase (v.at k) ≢ Gone = not_gone_ready (v.at k) r in
    settles_keeps v v.lost k ToAbort i (may_settle v k i there) (not_lost v k i there) (abort_back v v.lost k) (λ e. absurd cc) (λ h. inr d)
    (λ u h e a. d.commits (inr (let P : Id → Type 0 = λ y. In y v.shown in subst P (ap (λ (y : Key). y.tid) e) h)))

pub commit_back : (v : View) (k : Key) → Commits v k.tid → (t : Id) → Commits (settles v v.lost k ToCommit) t → Commits v t
commit_back v k c t (inl (inl e)) = let a : first t ≡ k = ap (λ (p : Key × Outcome). p.0) e in let P : Key → Type 0 = λ y. Commits v y.tid in subst P (sym a) c
commit_back v k c t (inl (inr e)) = inl e
commit_back v k c t (inr e) = inr e

pub commit_keeps : (v : View) (k : Key) → Inv v → IsReady v k → Commits v k.tid → Kept v (settles v v.lost k ToCommit)
commit_keeps v k i r c =
    let there : phase (v.at k) ≢ Gone = not_gone_ready (v.at k) r in
    settles_keeps v v.lost k ToCommit i (may_settle v k i there) (not_lost v k i there) (commit_back v k c) (λ e. c) (λ h. inl refl) (λ u h e a. cc)

pub undo_keeps : (v : View) (lost : Name → List Key) (n : Name) (k : Key) → Inv v → In k (v.lost n) → ((m : Name) (x : Key) → In x (lost m) → (k ≢ x) × In x (v.lost m)) → Kept v (settles v lost k ToAbort)
undo_keeps v lost n k i h left =
    let q = i.lost n k h in
    settles_keeps v lost k ToAbort i (record { unsettled = q.unsettled; unread = q.unread; old = q.old }) left (abort_back v lost k) (λ e. absurd cc)
    (λ r. absurd (not_gone_ready (v.at k) r q.gone))
    (λ u s e a. i.shown_lost u s n (let P : Key → Type 0 = λ y. In y (v.lost n) in subst P (sym e) h))
