-- Ids are drawn, branches begin, are accepted and are lost.
use Rattle.std.proofs.Common.{◌≡◌, ◌≢◌, true, false, List, [], ◌∷◌, ◌++◌, Option, Some, None, ◌⊎◌, inl, inr, refl, ap, sym, subst, ◌∙◌}
use Rattle.vms_model.specs.Ids.{Id}
use Rattle.vms_model.specs.Transactions.{Outcome, Commit as ToCommit, Abort as ToAbort}
use Rattle.commit_protocol.specs.Messages.{Name}
use Rattle.commit_protocol.specs.Table.{Key, Branch, Child, first, key_of, child}
use Rattle.commit_protocol.specs.World.{In}
use Rattle.commit_protocol.specs.Agreement.{Phase, Gone, Running, Ready, phase_of, phase, Status, View, IsRunning, IsReady, Commits, IsOld, Distinct, DistinctBids, AreOld}
use Rattle.commit_protocol.proofs.Lists.{set_at, set_cases, in_left, in_right, in_parts}
use Rattle.commit_protocol.proofs.Invariant.{LacksBid, later_when, Noted, Inv, Later, Kept, later_by, later_says, later_old, later_noted, later_commits}
use Rattle.commit_protocol.proofs.Quiet.{quiet_keeps}
use Rattle.commit_protocol.proofs.Settling.{not_gone, not_gone_ready, not_both}

-- the branch accepts a serial
abbrev pub with_child : Branch → Child → Branch
with_child b c = record b { accepted = b.accepted ++ c ∷ [] }

abbrev pub accepts : View → Branch → Child → View
accepts v b c = record v { at = set_at b.key (Some (with_child b c)) v.at; accepted = child b.key.tid c.serial ∷ v.accepted }

pub distinct_append : (cs : List Child) (c : Child) → DistinctBids cs → LacksBid c.bid cs → DistinctBids (cs ++ c ∷ [])
distinct_append [] c d h = ((λ e i. absurd i), tt)
distinct_append (x ∷ cs) c d h = (
  (λ e i q. elim (in_parts e cs (c ∷ []) i) [
    | inl z ↦ d.0 e z q
    | inr z ↦ elim z [ inl y ↦ h x (inl refl) (sym q ∙ ap (λ (o : Child). o.bid) y) | inr y ↦ absurd y ]
  ]),
  distinct_append cs c d.1 (λ e i q. h e (inr i) q),
)

pub accepts_keeps : (v : View) (b : Branch) (c : Child) → Inv v → v.at b.key ≡ Some b → phase_of b.state ≡ Running → b.key ≡ first b.key.tid → AreOld v (child b.key.tid c.serial) → c.vote ≡ None → LacksBid c.bid b.accepted → Kept v (accepts v b c)
accepts_keeps v b c i at p top old none lacks =
    let k : Key = b.key in
    let t : Id = b.key.tid in
    let new : Key = child t c.serial in
    let w : View = accepts v b c in
    let run : IsRunning v k = ap phase at ∙ p in
    let run' : IsRunning v (first t) = (let P : Key → Type 0 = λ y. IsRunning v y in subst P top run) in
    let split : (x : Key) → ((k ≡ x) × (w.at x ≡ Some (with_child b c))) ⊎ ((k ≢ x) × (w.at x ≡ v.at x)) = λ x. set_cases k x (Some (with_child b c)) v.at in
    let same : (x : Key) → phase (w.at x) ≡ phase (v.at x) = λ x. elim (split x) [
      | inl h ↦ ap phase h.1 ∙ (p ∙ (let P : Key → Type 0 = λ y. Running ≡ phase (v.at y) in subst P h.0 (sym run)))
      | inr h ↦ ap phase h.1
    ] in
    let here : (x : Key) → phase (w.at x) ≢ Gone → phase (v.at x) ≢ Gone = λ x h g. h (same x ∙ g) in
    let l : Later v w = later_by v w (λ n h. h) (λ x h. inr h) (λ x q h. h) (λ x h. h) refl refl refl (λ x h. inl (same x ∙ h)) (λ u h r. h.undecided (sym (same (first u)) ∙ r)) (λ u h. h.commits) (λ n x i h. h) in
    let note : Noted v b = i.noted k b at p in
    record {
      later = l;
      inv = record {
        says = λ m h. later_says v w l m.kind m.to (key_of m) (i.says m h);
        whole = λ x a d. elim a [
          | inl e ↦ absurd (i.undecided t run' (let P : Key → Type 0 = λ y. Commits v y.tid in subst P e d))
          | inr e ↦ elim (i.whole x e d) [ inl h ↦ inl (same x ∙ h) | inr h ↦ inr h ]
        ];
        owed = λ x h d. i.owed x (sym (same x) ∙ h) d;
        waits = λ n x h. let q = i.waits n x h in (q.0, inr q.1, elim q.2 [ inl y ↦ inl (same x ∙ y) | inr y ↦ inr y ]);
        recorded = i.recorded;
        upward = i.upward;
        accepted = λ x h. inr (i.accepted x (sym (same x) ∙ h));
        unsettled = λ x h. i.unsettled x (here x h);
        unread = λ x h. i.unread x (here x h);
        undecided = λ u h. i.undecided u (sym (same (first u)) ∙ h);
        apart = i.apart;
        once = i.once;
        keyed = λ x d e. elim (split x) [
          | inl h ↦ let q : Some (with_child b c) ≡ Some d = sym h.1 ∙ e in let s : with_child b c ≡ d = cc in ap (λ (y : Branch). y.key) (sym s) ∙ h.0
          | inr h ↦ i.keyed x d (sym h.1 ∙ e)
        ];
        noted = λ x d e r. elim (split x) [
          | inl h ↦
              let q : Some (with_child b c) ≡ Some d = sym h.1 ∙ e in let s : with_child b c ≡ d = cc in
              let P : Branch → Type 0 = λ y. Noted w y in subst P s (record {
                asked = λ a. inr (note.asked a);
                voted = λ ch h d f. elim (in_parts ch b.accepted (c ∷ []) h) [
                  | inl g ↦ note.voted ch g d f
                  | inr g ↦ elim g [
                    | inl z ↦ absurd (let n : None ≡ Some d = sym none ∙ (ap (λ (y : Child). y.vote) (sym z) ∙ f) in cc)
                    | inr z ↦ absurd z
                  ]
                ];
                taken = λ ch h. elim (in_parts ch b.accepted (c ∷ []) h) [
                  | inl g ↦ inr (note.taken ch g)
                  | inr g ↦ elim g [
                    | inl z ↦ inl (ap (λ (y : Child). child t y.serial) z)
                    | inr z ↦ absurd z
                  ]
                ];
                single = distinct_append b.accepted c note.single lacks;
                all = λ f s a. elim a [
                  | inl z ↦ (c, in_right c b.accepted (c ∷ []) (inl refl), ap (λ (y : Key). y.serial) (sym z))
                  | inr z ↦ let g = note.all f s z in (g.0, in_left g.0 b.accepted (c ∷ []) g.1, g.2)
                ];
              })
          | inr h ↦
              let was = i.noted x d (sym h.1 ∙ e) r in
              let key = i.keyed x d (sym h.1 ∙ e) in
              later_noted v w l d (λ s f a. elim a [
                | inl z ↦ absurd (h.0 (top ∙ (ap (λ (y : Key). first y.tid) (sym z) ∙ (sym f ∙ key))))
                | inr z ↦ z
              ]) was
        ];
        old_at = λ x h. later_old v w l x (i.old_at x (here x h));
        old_accepted = λ x h. elim h [
          | inl e ↦ later_old v w l x (let P : Key → Type 0 = λ y. AreOld v y in subst P (sym e) old)
          | inr e ↦ later_old v w l x (i.old_accepted x e)
        ];
        old_read = λ x h. later_old v w l x (i.old_read x h);
        old_settled = λ x h. later_old v w l x (i.old_settled x h);
        old_shown = λ u h. l.old u (i.old_shown u h);
        old_sent = λ m h. later_old v w l (key_of m) (i.old_sent m h);
        old_made = λ u h. l.old u (i.old_made u h);
        distinct = i.distinct;
        current = λ x h. i.current x (sym (same x) ∙ h);
        lost = λ n x h. let q = i.lost n x h in record { gone = same x ∙ q.gone; unsettled = q.unsettled; unread = q.unread; old = later_old v w l x q.old };
        shown_first = i.shown_first;
        shown_lost = i.shown_lost;
      };
    }

-- the clocks move on
abbrev pub ticks : View → (Name → Status) → List Id → View
ticks v c made = record v { status = c; made = made }

pub later_ticks : (v : View) (c : Name → Status) (made : List Id) → ((i : Id) → IsOld v i → IsOld (ticks v c made) i) → Later v (ticks v c made)
later_ticks v c made old = later_when v (ticks v c made) (λ n h. h) (λ x h. h) (λ x q h. h) (λ x h. h) refl old (λ x h. inl h) (λ u h. h.undecided) (λ u h. h.commits) (λ n x i h. h)

pub ticks_keeps : (v : View) (c : Name → Status) (made : List Id) → Inv v
    → ((i : Id) → IsOld v i → IsOld (ticks v c made) i)
    → ((k : Key) → IsRunning v k → ((c k.serial.node).up ≡ true) × (k.serial.boot ≡ (c k.serial.node).boot))
    → ((i : Id) → In i made → IsOld (ticks v c made) i) → Distinct made
    → Kept v (ticks v c made)
ticks_keeps v c made i old current old_made distinct =
    let w : View = ticks v c made in
    let l : Later v w = later_ticks v c made old in
    quiet_keeps v v.records v.sent c made i l (record {
      says = λ m h. later_says v w l m.kind m.to (key_of m) (i.says m h);
      owed = i.owed;
      waits = i.waits;
      recorded = i.recorded;
      old_sent = λ m h. later_old v w l (key_of m) (i.old_sent m h);
      old_made = old_made;
      distinct = distinct;
      current = current;
    })

-- a branch with a new serial begins
abbrev pub opens : View → Branch → (Name → Status) → View
opens v b c = record v { at = set_at b.key (Some b) v.at; status = c; made = b.key.serial ∷ v.made }

pub record MayOpen (v : View) (b : Branch) (c : Name → Status) : Type 0 where
  pub old : (i : Id) → IsOld v i → IsOld (opens v b c) i
  pub new : IsOld v b.key.serial → ⊥
  pub tid : IsOld (opens v b c) b.key.tid
  pub serial : IsOld (opens v b c) b.key.serial
  pub runs : phase_of b.state ≡ Running
  pub blank : b.accepted ≡ []
  pub unasked : b.asked ≡ false
  pub now : ((c b.key.serial.node).up ≡ true) × (b.key.serial.boot ≡ (c b.key.serial.node).boot)
  pub current : (k : Key) → IsRunning v k → ((c k.serial.node).up ≡ true) × (k.serial.boot ≡ (c k.serial.node).boot)

pub opens_keeps : (v : View) (b : Branch) (c : Name → Status) → Inv v → MayOpen v b c → Kept v (opens v b c)
opens_keeps v b c i may =
    let k : Key = b.key in
    let w : View = opens v b c in
    let split : (x : Key) → ((k ≡ x) × (w.at x ≡ Some b)) ⊎ ((k ≢ x) × (w.at x ≡ v.at x)) = λ x. set_cases k x (Some b) v.at in
    -- what is old is another key
    let never : (x : Key) → k ≡ x → AreOld v x → ⊥ = λ x e o. may.new (let P : Key → Type 0 = λ y. IsOld v y.serial in subst P (sym e) o.serial) in
    let ready : (x : Key) → IsReady v x → IsReady w x = λ x h. elim (split x) [
      | inl e ↦ absurd (never x e.0 (i.old_at x (not_gone_ready (v.at x) h)))
      | inr e ↦ ap phase e.1 ∙ h
    ] in
    let ready_back : (x : Key) → IsReady w x → IsReady v x = λ x h. elim (split x) [
      | inl e ↦ absurd (not_both (w.at x) (ap phase e.1 ∙ may.runs) h)
      | inr e ↦ sym (ap phase e.1) ∙ h
    ] in
    let l : Later v w = later_when v w (λ n h. h) (λ x h. h) (λ x q h. h) (λ x h. h) refl may.old (λ x h. inl (ready x h))
    (λ u h r. elim (split (first u)) [
      | inl e ↦ never (first u) e.0 (record { tid = h.old; serial = h.old })
      | inr e ↦ h.undecided (sym (ap phase e.1) ∙ r)
    ])
    (λ u h. h.commits) (λ n x i h. h) in
    let was : (x : Key) (o : Outcome) → In (x, o) v.settled → AreOld v x = λ x o h. i.old_settled x (o, h) in
    record {
      later = l;
      inv = record {
        says = λ m h. later_says v w l m.kind m.to (key_of m) (i.says m h);
        whole = λ x a d. elim (i.whole x a d) [ inl h ↦ inl (ready x h) | inr h ↦ inr h ];
        owed = λ x h d. i.owed x (ready_back x h) d;
        waits = λ n x h. let q = i.waits n x h in (q.0, q.1, elim q.2 [ inl y ↦ inl (ready x y) | inr y ↦ inr y ]);
        recorded = i.recorded;
        upward = i.upward;
        accepted = λ x h. i.accepted x (ready_back x h);
        unsettled = λ x h o s. elim (split x) [
          | inl e ↦ never x e.0 (was x o s)
          | inr e ↦ i.unsettled x (λ g. h (ap phase e.1 ∙ g)) o s
        ];
        unread = λ x h r. elim (split x) [
          | inl e ↦ never x e.0 (i.old_read x r)
          | inr e ↦ i.unread x (λ g. h (ap phase e.1 ∙ g)) r
        ];
        undecided = λ u h d. elim (split (first u)) [
          | inl e ↦ never (first u) e.0 (elim d [
            | inl s ↦ was (first u) ToCommit s
            | inr s ↦ record { tid = i.old_shown u s; serial = i.old_shown u s }
          ])
          | inr e ↦ i.undecided u (sym (ap phase e.1) ∙ h) d
        ];
        apart = i.apart;
        once = i.once;
        keyed = λ x d e. elim (split x) [
          | inl h ↦ let q : Some b ≡ Some d = sym h.1 ∙ e in let s : b ≡ d = cc in ap (λ (y : Branch). y.key) (sym s) ∙ h.0
          | inr h ↦ i.keyed x d (sym h.1 ∙ e)
        ];
        noted = λ x d e r. elim (split x) [
          | inl h ↦
              let q : Some b ≡ Some d = sym h.1 ∙ e in let s : b ≡ d = cc in
              let P : Branch → Type 0 = λ y. Noted w y in subst P s (record {
                asked = λ a. absurd (let n : false ≡ true = sym may.unasked ∙ a in cc);
                voted = λ ch z. absurd (let Q : List Child → Type 0 = λ y. In ch y in subst Q may.blank z);
                taken = λ ch z. absurd (let Q : List Child → Type 0 = λ y. In ch y in subst Q may.blank z);
                single = (let Q : List Child → Type 0 = λ y. DistinctBids y in subst Q (sym may.blank) tt);
                all = λ f s a. absurd (may.new (let Q : Key → Type 0 = λ y. IsOld v y.serial in subst Q (sym f) ((i.old_accepted (child k.tid s) a).tid)));
              })
          | inr h ↦ later_noted v w l d (λ s f a. a) (i.noted x d (sym h.1 ∙ e) r)
        ];
        old_at = λ x h. elim (split x) [
          | inl e ↦ let P : Key → Type 0 = λ y. AreOld w y in subst P e.0 (record { tid = may.tid; serial = may.serial })
          | inr e ↦ later_old v w l x (i.old_at x (λ g. h (ap phase e.1 ∙ g)))
        ];
        old_accepted = λ x h. later_old v w l x (i.old_accepted x h);
        old_read = λ x h. later_old v w l x (i.old_read x h);
        old_settled = λ x h. later_old v w l x (i.old_settled x h);
        old_shown = λ u h. l.old u (i.old_shown u h);
        old_sent = λ m h. later_old v w l (key_of m) (i.old_sent m h);
        old_made = λ u h. elim h [
          | inl e ↦ let P : Id → Type 0 = λ y. IsOld w y in subst P (sym e) may.serial
          | inr e ↦ l.old u (i.old_made u e)
        ];
        distinct = ((λ h. may.new (i.old_made k.serial h)), i.distinct);
        current = λ x h. elim (split x) [
          | inl e ↦ let P : Key → Type 0 = λ y. ((c y.serial.node).up ≡ true) × (y.serial.boot ≡ (c y.serial.node).boot) in subst P e.0 may.now
          | inr e ↦ may.current x (sym (ap phase e.1) ∙ h)
        ];
        lost = λ n x h. let q = i.lost n x h in record {
          gone = elim (split x) [
            | inl e ↦ absurd (never x e.0 q.old)
            | inr e ↦ ap phase e.1 ∙ q.gone
          ];
          unsettled = q.unsettled;
          unread = q.unread;
          old = later_old v w l x q.old;
        };
        shown_first = i.shown_first;
        shown_lost = i.shown_lost;
      };
    }

-- a crash: unprepared branches are not there any more, and their units wait to be undone
pub record Falls (v w : View) : Type 0 where
  pub ready : (k : Key) → IsReady v k → IsReady w k
  pub back : (k : Key) → phase (w.at k) ≢ Gone → phase (w.at k) ≡ phase (v.at k)
  pub keyed : (k : Key) (b : Branch) → w.at k ≡ Some b → b.key ≡ k
  pub kept : (k : Key) (b : Branch) → w.at k ≡ Some b → phase_of b.state ≡ Running → v.at k ≡ Some b
  pub old : (i : Id) → IsOld v i → IsOld w i
  pub current : (k : Key) → IsRunning w k → ((w.status k.serial.node).up ≡ true) × (k.serial.boot ≡ (w.status k.serial.node).boot)
  pub lost : (n : Name) (k : Key) → In k (w.lost n) → In k (v.lost n) ⊎ (IsRunning v k × (phase (w.at k) ≡ Gone))

pub gone_back : (v w : View) → Falls v w → (k : Key) → phase (v.at k) ≡ Gone → phase (w.at k) ≡ Gone
gone_back v w f k g = go (phase (w.at k)) refl
  where
    go : (p : Phase) → phase (w.at k) ≡ p → phase (w.at k) ≡ Gone
    go Gone e = e
    go Running e = f.back k (not_gone (w.at k) e) ∙ g
    go Ready e = f.back k (not_gone_ready (w.at k) e) ∙ g

abbrev pub falls : View → (Key → Option Branch) → (Name → Status) → (Name → List Key) → View
falls v at c lost = record v { at = at; status = c; lost = lost }

pub falls_keeps : (v : View) (at : Key → Option Branch) (c : Name → Status) (lost : Name → List Key) → Inv v → Falls v (falls v at c lost) → Kept v (falls v at c lost)
falls_keeps v at c lost i f =
    let w : View = falls v at c lost in
    let running : (x : Key) → IsRunning w x → IsRunning v x = λ x h. sym (f.back x (not_gone (w.at x) h)) ∙ h in
    let ready_back : (x : Key) → IsReady w x → IsReady v x = λ x h. sym (f.back x (not_gone_ready (w.at x) h)) ∙ h in
    let here : (x : Key) → phase (w.at x) ≢ Gone → phase (v.at x) ≢ Gone = λ x h g. h (f.back x h ∙ g) in
    let l : Later v w = later_when v w (λ n h. h) (λ x h. h) (λ x q h. h) (λ x h. h) refl f.old (λ x h. inl (f.ready x h)) (λ u h r. h.undecided (running (first u) r)) (λ u h. h.commits) (λ n x i h. h) in
    record {
      later = l;
      inv = record {
        says = λ m h. later_says v w l m.kind m.to (key_of m) (i.says m h);
        whole = λ x a d. elim (i.whole x a d) [ inl h ↦ inl (f.ready x h) | inr h ↦ inr h ];
        owed = λ x h d. i.owed x (ready_back x h) d;
        waits = λ n x h. let q = i.waits n x h in (q.0, q.1, elim q.2 [ inl y ↦ inl (f.ready x y) | inr y ↦ inr y ]);
        recorded = i.recorded;
        upward = i.upward;
        accepted = λ x h. i.accepted x (ready_back x h);
        unsettled = λ x h. i.unsettled x (here x h);
        unread = λ x h. i.unread x (here x h);
        undecided = λ u h. i.undecided u (running (first u) h);
        apart = i.apart;
        once = i.once;
        keyed = f.keyed;
        noted = λ x d e r. later_noted v w l d (λ s g a. a) (i.noted x d (f.kept x d e r) r);
        old_at = λ x h. later_old v w l x (i.old_at x (here x h));
        old_accepted = λ x h. later_old v w l x (i.old_accepted x h);
        old_read = λ x h. later_old v w l x (i.old_read x h);
        old_settled = λ x h. later_old v w l x (i.old_settled x h);
        old_shown = λ u h. l.old u (i.old_shown u h);
        old_sent = λ m h. later_old v w l (key_of m) (i.old_sent m h);
        old_made = λ u h. l.old u (i.old_made u h);
        distinct = i.distinct;
        current = f.current;
        lost = λ n x h. elim (f.lost n x h) [
          | inl e ↦ let q = i.lost n x e in record {
            gone = gone_back v w f x q.gone;
            unsettled = q.unsettled;
            unread = q.unread;
            old = later_old v w l x q.old;
          }
          | inr e ↦ record {
            gone = e.1;
            unsettled = i.unsettled x (not_gone (v.at x) e.0);
            unread = i.unread x (not_gone (v.at x) e.0);
            old = later_old v w l x (i.old_at x (not_gone (v.at x) e.0));
          }
        ];
        shown_first = i.shown_first;
        shown_lost = λ u h n j. elim (f.lost n (first u) j) [ inl e ↦ i.shown_lost u h n e | inr e ↦ i.undecided u e.0 (inr h) ];
      };
    }

-- a direct change: a transaction of its own, drawn and committed at once
abbrev pub directs : View → Id → (Name → Status) → View
directs v t c = record v { settled = (first t, ToCommit) ∷ v.settled; status = c; made = t ∷ v.made }

pub directs_keeps : (v : View) (t : Id) (c : Name → Status) → Inv v
    → ((i : Id) → IsOld v i → IsOld (directs v t c) i) → (IsOld v t → ⊥) → IsOld (directs v t c) t
    → ((k : Key) → IsRunning v k → ((c k.serial.node).up ≡ true) × (k.serial.boot ≡ (c k.serial.node).boot))
    → Kept v (directs v t c)
directs_keeps v t c i old new now current =
    let w : View = directs v t c in
    let never : (x : Key) → x ≡ first t → AreOld v x → ⊥ = λ x e o. new (let P : Key → Type 0 = λ y. IsOld v y.serial in subst P e o.serial) in
    let never_tid : (u : Id) → u ≡ t → IsOld v u → ⊥ = λ u e o. new (let P : Id → Type 0 = λ y. IsOld v y in subst P e o) in
    let commits : (u : Id) → Commits w u → IsOld v u → Commits v u = λ u d o. elim d [
      | inl x ↦ elim x [ inl e ↦ absurd (never_tid u (ap (λ (q : Key × Outcome). q.0.tid) e) o) | inr e ↦ inl e ]
      | inr x ↦ inr x
    ] in
    let l : Later v w = later_when v w (λ n h. h) (λ x h. h) (λ x q h. inr h) (λ x h. h) refl old (λ x h. inl h) (λ u h. h.undecided) (λ u h d. h.commits (commits u d h.old)) (λ n x i h. h) in
    record {
      later = l;
      inv = record {
        says = λ m h. later_says v w l m.kind m.to (key_of m) (i.says m h);
        whole = λ x a d. elim (i.whole x a (commits x.tid d (i.old_accepted x a).tid)) [ inl h ↦ inl h | inr h ↦ elim h [ inl y ↦ inr (inl (inr y)) | inr y ↦ inr (inr y) ] ];
        owed = λ x h d. i.owed x h (commits x.tid d (i.old_at x (not_gone_ready (v.at x) h)).tid);
        waits = λ n x h. let q = i.waits n x h in (later_commits v w l x.tid q.0, q.1, elim q.2 [ inl y ↦ inl y | inr y ↦ inr (inr y) ]);
        recorded = λ n r h. later_commits v w l r.tid (i.recorded n r h);
        upward = λ x h. elim h [
          | inl e ↦ let P : Key → Type 0 = λ y. Commits w y.tid in subst P (sym (ap (λ (z : Key × Outcome). z.0) e)) (inl (inl refl))
          | inr e ↦ later_commits v w l x.tid (i.upward x e)
        ];
        accepted = i.accepted;
        unsettled = λ x h o s. elim s [
          | inl e ↦ never x (ap (λ (z : Key × Outcome). z.0) e) (i.old_at x h)
          | inr e ↦ i.unsettled x h o e
        ];
        unread = i.unread;
        undecided = λ u h d. i.undecided u h (commits u d (i.old_at (first u) (not_gone (v.at (first u)) h)).tid);
        apart = λ x h o s. elim s [
          | inl e ↦ never x (ap (λ (z : Key × Outcome). z.0) e) (i.old_read x h)
          | inr e ↦ i.apart x h o e
        ];
        once = (λ o h. never (first t) refl (i.old_settled (first t) (o, h)), i.once);
        keyed = i.keyed;
        noted = λ k b e p. later_noted v w l b (λ s f h. h) (i.noted k b e p);
        old_at = λ k h. later_old v w l k (i.old_at k h);
        old_accepted = λ k h. later_old v w l k (i.old_accepted k h);
        old_read = λ k h. later_old v w l k (i.old_read k h);
        old_settled = λ k h. elim (h.1) [
          | inl e ↦ let P : Key → Type 0 = λ y. AreOld w y in subst P (sym (ap (λ (z : Key × Outcome). z.0) e)) (record { tid = now; serial = now })
          | inr e ↦ later_old v w l k (i.old_settled k (h.0, e))
        ];
        old_shown = λ u h. l.old u (i.old_shown u h);
        old_sent = λ m h. later_old v w l (key_of m) (i.old_sent m h);
        old_made = λ u h. elim h [
          | inl e ↦ let P : Id → Type 0 = λ y. IsOld w y in subst P (sym e) now
          | inr e ↦ l.old u (i.old_made u e)
        ];
        distinct = ((λ h. new (i.old_made t h)), i.distinct);
        current = current;
        lost = λ n x h. let q = i.lost n x h in record {
          gone = q.gone;
          unsettled = λ o s. elim s [
            | inl e ↦ never x (ap (λ (z : Key × Outcome). z.0) e) q.old
            | inr e ↦ q.unsettled o e
          ];
          unread = q.unread;
          old = later_old v w l x q.old;
        };
        shown_first = λ u h s. elim s [
          | inl e ↦ let b : ToAbort ≡ ToCommit = ap (λ (z : Key × Outcome). z.1) e in cc
          | inr e ↦ i.shown_first u h e
        ];
        shown_lost = i.shown_lost;
      };
    }
