-- An agreeing opening has what must hold.
use Rattle.std.proofs.Common.{◌≡◌, ◌≢◌, true, false, List, [], ◌∷◌, ◌++◌, Option, Some, None, ◌⊎◌, inl, inr, refl, ap, sym, subst, ◌∙◌}
use Rattle.vms_model.specs.Ids.{Id}
use Rattle.vms_model.specs.Transactions.{Commit as ToCommit, Abort as ToAbort}
use Rattle.commit_protocol.specs.Messages.{Name, LogRecord}
use Rattle.commit_protocol.specs.Table.{Key, Branch, first, find, record_key, record_serials, branch_of, branches_of}
use Rattle.commit_protocol.specs.World.{World, In, Step, run}
use Rattle.commit_protocol.specs.Agreement.{Phase, Gone, Running, Ready, phase, View, view, IsRunning, IsReady, IsCommitted, Commits, IsOld, IsDead, AreOld, Agrees, NoneAborted, SettlesAlike, Distinct}
use Rattle.commit_protocol.proofs.Lists.{told_key, find-key, in_left, Unique}
use Rattle.commit_protocol.proofs.Serials.{in_serial}
use Rattle.commit_protocol.proofs.Settling.{not_gone, not_gone_ready, not_both}
use Rattle.commit_protocol.proofs.Gathered.{IsShown, is_shown}
use Rattle.commit_protocol.proofs.Running.{agrees, none_aborted, settles_alike, goes_run, run-append}
use Rattle.commit_protocol.proofs.Acting.{Good}
use Rattle.commit_protocol.specs.Opening.{Opening, image_at, PreparedIn, WaitedFor, Shows, OldIn, OldKey, IsAgreeing, opened}

find_prepared : (hs : List LogRecord) (k : Key) (b : Branch) → find k (branches_of hs) ≡ Some b → (h : LogRecord) × In h hs × (record_key h ≡ k) × (b ≡ branch_of h)
find_prepared [] k b e = absurd cc
find_prepared (h ∷ hs) k b e =
    elim (told_key (record_key h) k) [
      | inl q ↦ let e' : Some (branch_of h) ≡ Some b = rw (q.0) at e in let s : branch_of h ≡ b = cc in (h, inl refl, q.1, sym s)
      | inr q ↦ let e' : find k (branches_of hs) ≡ Some b = rw (q.0) at e in let r = find_prepared hs k b e' in (r.0, inr r.1, r.2, r.3)
    ]

pub prepared_found : (hs : List LogRecord) (k : Key) (h : LogRecord) → In h hs → record_key h ≡ k → phase (find k (branches_of hs)) ≡ Ready
prepared_found [] k h i e = absurd i
prepared_found (g ∷ hs) k h i e =
    elim (told_key (record_key g) k) [
      | inl q ↦ rw (q.0) refl
      | inr q ↦ rw (q.0) (elim i [
        | inl z ↦ absurd (q.1 (ap record_key (sym z) ∙ e))
        | inr z ↦ prepared_found hs k h z e
      ])
    ]

not_prepared : (hs : List LogRecord) (k : Key) → ((g : LogRecord) → In g hs → record_key g ≡ k → ⊥) → find k (branches_of hs) ≡ None
not_prepared [] k n = refl
not_prepared (h ∷ hs) k n =
    elim (told_key (record_key h) k) [
      | inl q ↦ absurd (n h (inl refl) q.1)
      | inr q ↦ rw (q.0) (not_prepared hs k (λ g i e. n g (inr i) e))
    ]

unique_prepared : (hs cs : List LogRecord) → Distinct (record_serials hs ++ record_serials cs) → Unique (branches_of hs)
unique_prepared [] cs d = tt
unique_prepared (h ∷ hs) cs d = (
  not_prepared hs (record_key h) (λ g i e. d.0 (in_left h.serial (record_serials hs) (record_serials cs) (let P : Id → Type 0 = λ x. In x (record_serials hs) in subst P (ap (λ (k : Key). k.serial) e) (in_serial g hs i)))),
  unique_prepared hs cs d.1,
)

some_of : (o : Option Branch) → phase o ≢ Gone → (b : Branch) × (o ≡ Some b)
some_of None h = absurd (h refl)
some_of (Some b) h = (b, refl)

abbrev pub begun : Opening → View
begun o = view (opened o)

prepared_of : (o : Opening) (k : Key) → phase ((begun o).at k) ≢ Gone → PreparedIn o k
prepared_of o k h =
    let s = some_of ((begun o).at k) h in
    let f = find_prepared (image_at o k.serial.node).prepared k s.0 s.1 in (f.0, f.1, f.2)

pub never_runs : (o : Opening) (k : Key) → IsRunning (begun o) k → ⊥
never_runs o k h =
    let p = prepared_of o k (not_gone ((begun o).at k) h) in
    not_both ((begun o).at k) h (prepared_found (image_at o k.serial.node).prepared k p.0 p.1 p.2)

-- prepared, or not
ready_or : (o : Opening) (k : Key) → IsReady (begun o) k ⊎ (PreparedIn o k → ⊥)
ready_or o k = go (phase ((begun o).at k)) refl
  where
    go : (p : Phase) → phase ((begun o).at k) ≡ p → IsReady (begun o) k ⊎ (PreparedIn o k → ⊥)
    go Ready e = inl e
    go Running e = absurd (never_runs o k e)
    go Gone e = inr (λ h. let r = prepared_found (image_at o k.serial.node).prepared k h.0 h.1 h.2 in let q : Gone ≡ Ready = sym e ∙ r in cc)

pub shows_of : (o : Opening) → IsShown o → (u : Id) → Commits (begun o) u → Shows o u
shows_of o t u (inl c) = elim (t.settled_is (first u) ToCommit c) [
  | inl l ↦ inl (first u, (u.node, l), refl)
  | inr w ↦ let q = w.1 in inr (q.0, (q.1.0, q.1.1, q.1.2))
]
shows_of o t u (inr c) = t.shown_is u c

pub old_of : (o : Opening) (i : Id) → OldIn o i → IsOld (begun o) i
old_of o i h = record { boot = h; seq = λ u. absurd (let z : false ≡ true = u in cc) }

old_key_of : (o : Opening) (k : Key) → OldKey o k → AreOld (begun o) k
old_key_of o k h = record { tid = old_of o k.tid h.tid; serial = old_of o k.serial h.serial }

old_in : (o : Opening) → IsAgreeing o → (k : Key) → PreparedIn o k → OldKey o k
old_in o a k p = let P : Key → Type 0 = λ x. OldKey o x in subst P p.2 (a.old_prepared k.serial.node p.0 p.1)

pub good_opened : (o : Opening) → IsAgreeing o → IsShown o → Good (opened o)
good_opened o a t =
    let v : View = begun o in
    let ready : (k : Key) → IsReady v k → PreparedIn o k = λ k h. prepared_of o k (not_gone_ready (v.at k) h) in
    let held : (k : Key) → WaitedFor o k → IsReady v k ⊎ IsCommitted v k = λ k w. elim (ready_or o k) [ inl r ↦ inl r | inr n ↦ inr (t.settled_has k w n) ] in
    record {
      inv = record {
        says = λ m h. absurd h;
        whole = λ k h c. elim (t.accepted_is k h) [
          | inl p ↦ inl (prepared_found (image_at o k.serial.node).prepared k p.0 p.1 p.2)
          | inr w ↦ elim (held k w) [ inl r ↦ inl r | inr q ↦ inr (inl q) ]
        ];
        owed = λ k h c rack. elim (a.owed k (ready k h) rack) [ inl w ↦ w | inr n ↦ absurd (n (shows_of o t k.tid c)) ];
        waits = λ n k h. (inr (t.shown_has k.tid (inr (n, (h.0, h.1, h.2)))), t.accepted_has k (inr (n, h)), held k (n, h));
        recorded = λ n r h. inr (t.shown_has r.tid (inr (n, (r, h, refl))));
        upward = λ k h. elim (t.settled_is k ToCommit h) [
          | inl l ↦ inr (t.shown_has k.tid (inl (k, (k.serial.node, l), refl)))
          | inr w ↦ let q = w.1 in inr (t.shown_has k.tid (inr (q.0, (q.1.0, q.1.1, q.1.2))))
        ];
        accepted = λ k h. t.accepted_has k (inl (ready k h));
        unsettled = λ k h out s.
            let p = prepared_of o k h in elim (t.settled_is k out s) [
              | inl l ↦ a.last_prepared k.serial.node p.0 out (let P : Key → Type 0 = λ x. (image_at o k.serial.node).last ≡ Some (x, out) in subst P (sym p.2) l) p.1
              | inr w ↦ w.2 p
            ];
        unread = λ k h r. r;
        undecided = λ u h. absurd (never_runs o (first u) h);
        apart = λ k h. absurd h;
        once = t.once;
        keyed = λ k b e. find-key k (branches_of (image_at o k.serial.node).prepared) b e;
        noted = λ k b e run. absurd (never_runs o k (ap phase e ∙ run));
        old_at = λ k h. old_key_of o k (old_in o a k (prepared_of o k h));
        old_accepted = λ k h. old_key_of o k (elim (t.accepted_is k h) [ inl p ↦ old_in o a k p | inr w ↦ a.old_waited k w ]);
        old_read = λ k h. absurd h;
        old_settled = λ k h. old_key_of o k (elim (t.settled_is k h.0 h.1) [ inl l ↦ a.old_last k h.0 (k.serial.node, l) | inr w ↦ a.old_waited k w.1 ]);
        old_shown = λ u h. old_of o u (elim (t.shown_is u h) [
          | inl l ↦ let P : Id → Type 0 = λ x. OldIn o x in subst P l.2 (a.old_last l.0 ToCommit l.1).tid
          | inr r ↦ let P : Id → Type 0 = λ x. OldIn o x in let q = r.1 in subst P q.2 (a.old_committed r.0 q.0 q.1).tid
        ]);
        old_sent = λ m h. absurd h;
        old_made = λ u h. absurd h;
        distinct = tt;
        current = λ k h. absurd (never_runs o k h);
        lost = λ n k h. record {
          gone = elim (ready_or o k) [
            | inl r ↦ absurd (a.unprepared n k h (ready k r))
            | inr q ↦ ap phase (not_prepared (image_at o k.serial.node).prepared k (λ g i e. q (g, i, e)))
          ];
          unsettled = λ out s. elim (t.settled_is k out s) [
            | inl l ↦ let P : Name → Type 0 = λ m. (image_at o m).last ≡ Some (k, out) in a.last_unit n k out (subst P (a.own_units n k h) l) h
            | inr w ↦ a.waited_unit n k w.1 h
          ];
          unread = λ r. r;
          old = old_key_of o k (a.old_unit n k h);
        };
        shown_first = λ u h s. elim (t.settled_is (first u) ToAbort s) [
          | inl l ↦ a.first_last u (t.shown_is u h) (u.node, l)
          | inr w ↦ let z : ToAbort ≡ ToCommit = w.0 in cc
        ];
        shown_lost = λ u h n j. a.first_unit n u (t.shown_is u h) j;
      };
      home = λ n k b e. let f = find_prepared (image_at o n).prepared k b e in ap (λ (x : Key). x.serial.node) (sym f.2) ∙ a.own_prepared n f.0 f.1;
      unique = λ n. unique_prepared (image_at o n).prepared (image_at o n).committed (a.distinct n);
      rack_up = λ n u. absurd (let z : false ≡ true = u in cc);
      labels = λ p h. absurd h;
      lost_home = λ n k h. a.own_units n k h;
    }

pub agreement_from : (o : Opening) → IsAgreeing o → (steps : List Step) → Agrees (view (run steps (opened o)))
agreement_from o a steps = agrees (view (run steps (opened o))) (goes_run steps (opened o) (good_opened o a (is_shown o a))).good.inv

pub alike_from : (o : Opening) → IsAgreeing o → (steps : List Step) → SettlesAlike (view (run steps (opened o)))
alike_from o a steps = settles_alike (view (run steps (opened o))) (goes_run steps (opened o) (good_opened o a (is_shown o a))).good.inv

pub none_from : (o : Opening) → IsAgreeing o → (steps : List Step) → NoneAborted (view (run steps (opened o)))
none_from o a steps = none_aborted (view (run steps (opened o))) (goes_run steps (opened o) (good_opened o a (is_shown o a))).good.inv

pub dead_from : (o : Opening) → IsAgreeing o → (early late : List Step) (t : Id) → IsDead (view (run early (opened o))) t → IsDead (view (run (early ++ late) (opened o))) t
dead_from o a early late t h =
    let g = goes_run early (opened o) (good_opened o a (is_shown o a)) in
    let P : World → Type 0 = λ x. IsDead (view x) t in
    subst P (sym (run-append early late (opened o))) ((goes_run late (run early (opened o)) g.good).later.dead t h)
