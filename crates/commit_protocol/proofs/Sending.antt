-- Acts that change no branch's phase.
use Rattle.std.proofs.Common.{◌≡◌, ◌≢◌, ◌∷◌, Some, inl, inr, refl, ap, sym, subst, ◌∙◌}
use Rattle.commit_protocol.specs.Messages.{Message}
use Rattle.commit_protocol.specs.Table.{Key, Branch, first, key_of}
use Rattle.commit_protocol.specs.Agreement.{Gone, Running, phase_of, phase, View, IsRunning, AreOld}
use Rattle.commit_protocol.proofs.Lists.{set_at, set_cases}
use Rattle.commit_protocol.proofs.Quiet.{quiet_keeps}
use Rattle.commit_protocol.proofs.Invariant.{Says, Noted, Inv, Later, Kept, later_by, later_says, later_old, later_noted}

-- a message is sent
abbrev pub sends : View → Message → View
sends v m = record v { sent = m ∷ v.sent }

pub later_sends : (v : View) (m : Message) → Later v (sends v m)
later_sends v m = later_by v (sends v m) (λ n h. inr h) (λ k h. h) (λ k o h. h) (λ k h. h) refl refl refl (λ k h. inl h) (λ t h. h.undecided) (λ t h. h.commits) (λ n x i h. h)

pub sends_keeps : (v : View) (m : Message) → Inv v → Says v m.kind m.to (key_of m) → AreOld v (key_of m) → Kept v (sends v m)
sends_keeps v m i s o =
    let w : View = sends v m in
    let l : Later v w = later_sends v m in
    quiet_keeps v v.records (m ∷ v.sent) v.status v.made i l (record {
      says = λ n h. elim h [
        | inl e ↦ let P : Message → Type 0 = λ x. Says w x.kind x.to (key_of x) in subst P (sym e) (later_says v w l m.kind m.to (key_of m) s)
        | inr e ↦ later_says v w l n.kind n.to (key_of n) (i.says n e)
      ];
      owed = i.owed;
      waits = i.waits;
      recorded = i.recorded;
      old_sent = λ n h. elim h [
        | inl e ↦ let P : Message → Type 0 = λ x. AreOld w (key_of x) in subst P (sym e) (later_old v w l (key_of m) o)
        | inr e ↦ later_old v w l (key_of n) (i.old_sent n e)
      ];
      old_made = λ u h. l.old u (i.old_made u h);
      distinct = i.distinct;
      current = i.current;
    })

-- a node notes something of an unprepared branch
abbrev pub notes : View → Branch → View
notes v b = record v { at = set_at b.key (Some b) v.at }

pub phase_notes : (v : View) (b : Branch) → IsRunning v b.key → phase_of b.state ≡ Running → (k : Key) → phase (set_at b.key (Some b) v.at k) ≡ phase (v.at k)
phase_notes v b r p k =
    elim (set_cases b.key k (Some b) v.at) [
      | inl h ↦ rw (h.1) (p ∙ (let P : Key → Type 0 = λ x. Running ≡ phase (v.at x) in subst P h.0 (sym r)))
      | inr h ↦ rw (h.1) refl
    ]

pub later_notes : (v : View) (b : Branch) → IsRunning v b.key → phase_of b.state ≡ Running → Later v (notes v b)
later_notes v b r p =
    let same = phase_notes v b r p in
    later_by v (notes v b) (λ n h. h) (λ k h. h) (λ k o h. h) (λ k h. h) refl refl refl
    (λ k h. inl (same k ∙ h)) (λ t h run. h.undecided (sym (same (first t)) ∙ run)) (λ t h. h.commits) (λ n x i h. h)

pub notes_keeps : (v : View) (b : Branch) → Inv v → IsRunning v b.key → phase_of b.state ≡ Running → Noted v b → Kept v (notes v b)
notes_keeps v b i r p n =
    let w : View = notes v b in
    let l : Later v w = later_notes v b r p in
    let same : (k : Key) → phase (w.at k) ≡ phase (v.at k) = phase_notes v b r p in
    let here : (k : Key) → phase (w.at k) ≢ Gone → phase (v.at k) ≢ Gone = λ k h g. h (same k ∙ g) in
    record {
      later = l;
      inv = record {
        says = λ m h. later_says v w l m.kind m.to (key_of m) (i.says m h);
        whole = λ k a c. elim (i.whole k a c) [ inl h ↦ inl (same k ∙ h) | inr h ↦ inr h ];
        owed = λ k h c. i.owed k (sym (same k) ∙ h) c;
        waits = λ q k h. let x = i.waits q k h in (x.0, x.1, elim x.2 [ inl y ↦ inl (same k ∙ y) | inr y ↦ inr y ]);
        recorded = i.recorded;
        upward = i.upward;
        accepted = λ k h. i.accepted k (sym (same k) ∙ h);
        unsettled = λ k h. i.unsettled k (here k h);
        unread = λ k h. i.unread k (here k h);
        undecided = λ t h. i.undecided t (sym (same (first t)) ∙ h);
        apart = i.apart;
        once = i.once;
        keyed = λ k x e. elim (set_cases b.key k (Some b) v.at) [
          | inl h ↦ let q : Some b ≡ Some x = sym h.1 ∙ e in let same : b ≡ x = cc in ap (λ (y : Branch). y.key) (sym same) ∙ h.0
          | inr h ↦ i.keyed k x (sym h.1 ∙ e)
        ];
        noted = λ k x e run. elim (set_cases b.key k (Some b) v.at) [
          | inl h ↦ let q : Some b ≡ Some x = sym h.1 ∙ e in let same : b ≡ x = cc in let P : Branch → Type 0 = λ y. Noted w y in subst P same (later_noted v w l b (λ s f h. h) n)
          | inr h ↦ later_noted v w l x (λ s f h. h) (i.noted k x (sym h.1 ∙ e) run)
        ];
        old_at = λ k h. later_old v w l k (i.old_at k (here k h));
        old_accepted = λ k h. later_old v w l k (i.old_accepted k h);
        old_read = λ k h. later_old v w l k (i.old_read k h);
        old_settled = λ k h. later_old v w l k (i.old_settled k h);
        old_shown = λ t h. l.old t (i.old_shown t h);
        old_sent = λ m h. later_old v w l (key_of m) (i.old_sent m h);
        old_made = λ u h. l.old u (i.old_made u h);
        distinct = i.distinct;
        current = λ k h. i.current k (sym (same k) ∙ h);
        lost = λ q k h. let x = i.lost q k h in record { gone = same k ∙ x.gone; unsettled = x.unsettled; unread = x.unread; old = later_old v w l k x.old };
        shown_first = i.shown_first;
        shown_lost = i.shown_lost;
      };
    }
