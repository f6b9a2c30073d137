-- Each step keeps that a journal covers the timeline.
use Rattle.unit_laws.specs.vms_model.Ids.{Id}
use Rattle.unit_laws.specs.vms_model.Transactions.{Outcome, Commit, Abort}
use Rattle.unit_laws.specs.records_model.History.{same_id, reached, without}
use Rattle.unit_laws.specs.records_model.Records.{Records, Change, applied}
use Rattle.unit_laws.proofs.records_model.SlotLaws.{if_true, if_false}
use Rattle.unit_laws.proofs.LiveLemmas.{id_is}
use Rattle.recovery_model.specs.Journal.{Entry, Changed, Settled, beyond, chosen, backward, is_commit, is_settled, Below, rolled_forward, rolled_back}
use Rattle.recovery_model.specs.Timeline.{Timeline, records_at}
use Rattle.std.proofs.Common.{◌≡◌, ℕ, ◌<◌, ◌≤◌, List, [], ◌∷◌, Bool, true, false, Option, Some, None, refl, sym, ◌∙◌, ap, arith}
use Rattle.std.specs.Prelude.{if◌then◌else◌, ◌&&◌, nat_lt, nat_le}
use Rattle.std.specs.FinMap.{get}
use Rattle.std.proofs.lemmas.Bool.{le-leb, lt-leb, ltb-true, ltb-false, le-ltb}
use Rattle.recovery_model.proofs.Covering.{unsettled, changed_now, settled_now, Apart, Free, Sound, TiesBackward, Reaches, CoversForward, CoversBackward}
use Rattle.recovery_model.proofs.RollLemmas.{forward_more, backward_more, backward_none, forward_same, backward_same}
use Rattle.recovery_model.proofs.TieLemmas.{forward_ties_changed, backward_ties_changed, forward_ties_settled, backward_ties_committed, backward_ties_aborted, forward_ties_none, backward_ties_none, chosen_not, chosen_more, chosen_same, chosen_none}
use Rattle.recovery_model.proofs.TimelineLemmas.{records_late, records_settled}

-- FORWARD.

pub below_later : (g t : ℕ) → g ≤ t → (es : List Entry) → Below g es → Below t es
below_later g t l [] h = tt
below_later g t l (Changed r k v ∷ es) h = below_later g t l es h
below_later g t l (Settled r c m ∷ es) h = (omega (arith, h.0), below_later g t l es h.1)

pub forward_passed : (may : Id → Bool) (es : List Entry) (start : Records) (from g t : ℕ) (h : Timeline) → g ≤ t → CoversForward may es start from g h → CoversForward may es start from t h
forward_passed may es start from g t h l w = record { ties = w.ties; low = below_later g t l es w.low; gives = w.gives }

pub forward_changed : (may : Id → Bool) (es : List Entry) (start : Records) (from g : ℕ) (h : Timeline) (s : Id) (c : Change) → is_settled es s ≡ false → Free c.key s (unsettled h.history.live) →
    CoversForward may es start from g h → CoversForward may (Changed s c.key c.after ∷ es) start from g (changed_now s c h)
forward_changed may es start from g h s c n free w = record {
  low = w.low;
  ties = forward_ties_changed may es h.history.live s c free w.ties;
  gives = λ u r. if_false (chosen (reached u) es s) _ _ (chosen_not (reached u) es s n) ∙ w.gives u r;
}

not_chosen : (ok : ℕ → Bool) (es : List Entry) (s : Id) → is_settled es s ≡ false → (r : Id) → (same_id r s) ≡ true → chosen ok es r ≡ false
not_chosen ok es s n r e = ap (chosen ok es) (id_is r s e) ∙ chosen_not ok es s n

forward_settled_at : (may : Id → Bool) (es : List Entry) (start : Records) (from g : ℕ) (h : Timeline) (s : Id) (outcome : Outcome) (t : ℕ) (u : Option ℕ) (b : Bool) → (is_commit outcome && reached u t) ≡ b → (outcome ≡ Commit → may s ≡ true) → is_settled es s ≡ false →
    CoversForward may es start from g h → Reaches from u → rolled_forward u (Settled s outcome t ∷ es) start ≡ (if b then applied (unsettled h.history.live s) (records_at h u) else records_at h u)
forward_settled_at may es start from g h s Commit t u true e y n w r =
    forward_more (chosen (reached u) es) (chosen (reached u) (Settled s Commit t ∷ es)) s (chosen_more (reached u) es s t e) (not_chosen (reached u) es s n) es start (w.ties.stands s n) ∙
    w.ties.holds s (rolled_forward u es start) n (y refl) ∙
    ap (applied (unsettled h.history.live s)) (w.gives u r)
forward_settled_at may es start from g h s Abort t u true e y n w r = let no : ⊥ = cc in absurd no
forward_settled_at may es start from g h s outcome t u false e y n w r =
    forward_same (chosen (reached u) (Settled s outcome t ∷ es)) (chosen (reached u) es) (chosen_same (reached u) es s outcome t e) es start ∙ w.gives u r

pub forward_settled : (may : Id → Bool) (es : List Entry) (start : Records) (from g : ℕ) (h : Timeline) (s : Id) (outcome : Outcome) (t : ℕ) → h.history.moment < t → g < t → (outcome ≡ Commit → may s ≡ true) → is_settled es s ≡ false →
    CoversForward may es start from g h → CoversForward may (Settled s outcome t ∷ es) start from t (settled_now s outcome t h)
forward_settled may es start from g h s outcome t l gt y n w = record {
  low = (omega arith, below_later g t (omega arith) es w.low);
  ties = forward_ties_settled may es h.history.live s outcome t w.ties;
  gives = λ u r. forward_settled_at may es start from g h s outcome t u (is_commit outcome && reached u t) refl y n w r ∙ sym (records_settled h s outcome t u l);
}

-- BACKWARD.

pub backward_changed : (es : List Entry) (since g : ℕ) (h : Timeline) (s : Id) (c : Change) → is_settled es s ≡ false → c.before ≡ get (applied (unsettled h.history.live s) (records_at h None)) c.key → Free c.key s (unsettled h.history.live) →
    CoversBackward es since g h → CoversBackward (Changed s c.key c.before ∷ es) since g (changed_now s c h)
backward_changed es since g h s c n f free w = record {
  ties = backward_ties_changed es h.history.live (records_at h None) s c free f w.ties;
  low = w.low;
  gives = λ u r. ap (backward (chosen (beyond u) es) es) (if_false (chosen (beyond u) es s) _ _ (chosen_not (beyond u) es s n)) ∙ w.gives u r;
}

commit_back : (es : List Entry) (since g : ℕ) (h : Timeline) (s : Id) (t u : ℕ) (a : Bool) → nat_lt u t ≡ a → g < t → is_settled es s ≡ false → Sound g h →
    CoversBackward es since g h → since ≤ u → rolled_back u (Settled s Commit t ∷ es) (applied (unsettled h.history.live s) (records_at h None)) ≡ (if nat_le t u then applied (unsettled h.history.live s) (records_at h (Some u)) else records_at h (Some u))
commit_back es since g h s t u true e l n d w r =
    let x : u < t = ltb-true u t e in
    backward_more (chosen (beyond u) es) (chosen (beyond u) (Settled s Commit t ∷ es)) s (chosen_more (beyond u) es s t e) (not_chosen (beyond u) es s n) es (applied (unsettled h.history.live s) (records_at h None)) (w.ties.stands s n) ∙
    ap (rolled_back u es) (w.ties.holds s n) ∙
    w.gives u r ∙ sym (if_false (nat_le t u) _ _ (lt-leb t u x))
commit_back es since g h s t u false e l n d w r =
    let x : t ≤ u = ltb-false u t e in
    backward_none (chosen (beyond u) (Settled s Commit t ∷ es))
    (chosen_none (beyond u) t (λ m y. le-ltb u m (omega arith)) (Settled s Commit t ∷ es) (omega arith, below_later g t (omega arith) es w.low)) es (applied (unsettled h.history.live s) (records_at h None)) ∙
    ap (applied (unsettled h.history.live s)) (sym (records_late g h u (omega arith) d)) ∙ sym (if_true (nat_le t u) _ _ (le-leb t u x))

backward_settled_at : (es : List Entry) (since g : ℕ) (h : Timeline) (s : Id) (outcome : Outcome) (t u : ℕ) → g < t → is_settled es s ≡ false → Sound g h →
    CoversBackward es since g h → since ≤ u → rolled_back u (Settled s outcome t ∷ es) (records_at (settled_now s outcome t h) None) ≡ records_at (settled_now s outcome t h) (Some u)
backward_settled_at es since g h s Commit t u l n d w r =
    commit_back es since g h s t u (nat_lt u t) refl l n d w r ∙ sym (records_settled h s Commit t (Some u) (let x = d.start in omega arith))
backward_settled_at es since g h s Abort t u l n d w r =
    backward_same (chosen (beyond u) (Settled s Abort t ∷ es)) (chosen (beyond u) es) (chosen_same (beyond u) es s Abort t refl) es (records_at h None) ∙ w.gives u r ∙
    sym (records_settled h s Abort t (Some u) (let x = d.start in omega arith))

backward_ties_settled : (es : List Entry) (h : Timeline) (s : Id) (outcome : Outcome) (t : ℕ) → Apart (unsettled h.history.live) →
    TiesBackward es (unsettled h.history.live) (records_at h None) → TiesBackward (Settled s outcome t ∷ es) (unsettled (without s h.history.live)) (records_at (settled_now s outcome t h) None)
backward_ties_settled es h s Commit t apart w = backward_ties_committed es h.history.live (records_at h None) s t apart w
backward_ties_settled es h s Abort t apart w = backward_ties_aborted es h.history.live (records_at h None) s t w

pub backward_settled : (es : List Entry) (since g : ℕ) (h : Timeline) (s : Id) (outcome : Outcome) (t : ℕ) → g < t → is_settled es s ≡ false → Sound g h →
    CoversBackward es since g h → CoversBackward (Settled s outcome t ∷ es) since t (settled_now s outcome t h)
backward_settled es since g h s outcome t l n d w = record {
  ties = backward_ties_settled es h s outcome t d.apart w.ties;
  low = (omega arith, below_later g t (omega arith) es w.low);
  gives = λ u r. backward_settled_at es since g h s outcome t u l n d w r;
}

pub backward_passed : (es : List Entry) (since g t : ℕ) (h : Timeline) → g ≤ t → CoversBackward es since g h → CoversBackward es since t h
backward_passed es since g t h l w = record { ties = w.ties; low = below_later g t l es w.low; gives = w.gives }

-- New spans and saves, where no unsettled branch changed the file.

saved_at : (g : ℕ) (h : Timeline) (u : Option ℕ) → Reaches g u → Sound g h → records_at h None ≡ records_at h u
saved_at g h None r d = refl
saved_at g h (Some u) r d = sym (records_late g h u r d)

pub saved : (may : Id → Bool) (g : ℕ) (h : Timeline) → ((s : Id) → unsettled h.history.live s ≡ []) → Sound g h → CoversForward may [] (records_at h None) g g h
saved may g h n d = record {
  ties = forward_ties_none may h.history.live n;
  low = tt;
  gives = λ u r. saved_at g h u r d;
}

pub new_span : (g : ℕ) (h : Timeline) → ((s : Id) → unsettled h.history.live s ≡ []) → Sound g h → CoversBackward [] g g h
new_span g h n d = record {
  ties = backward_ties_none h.history.live (records_at h None) n;
  low = tt;
  gives = λ u r. sym (records_late g h u r d);
}
