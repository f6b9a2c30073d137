-- What each step does to a sound timeline.
use Rattle.unit_laws.specs.vms_model.Ids.{Id}
use Rattle.unit_laws.specs.vms_model.Transactions.{Outcome, Commit, Abort}
use Rattle.unit_laws.specs.vms_model.Keys.{Key}
use Rattle.unit_laws.specs.records_model.History.{same_id, reached, LiveChanges, SettledChanges, left_by, with_change, without}
use Rattle.unit_laws.specs.records_model.Records.{Records, Change, applied, Found}
use Rattle.unit_laws.proofs.records_model.RecordsLemmas.{same_key}
use Rattle.unit_laws.proofs.records_model.SlotLaws.{if_false}
use Rattle.unit_laws.specs.Units.{SerialsDiffer}
use Rattle.unit_laws.proofs.LiveLemmas.{id_is, once_change, differ_left}
use Rattle.recovery_model.specs.Journal.{is_commit}
use Rattle.recovery_model.specs.Timeline.{Timeline, records_at}
use Rattle.recovery_model.specs.File.{rebased}
use Rattle.std.proofs.Common.{◌≡◌, ℕ, ◌<◌, ◌≤◌, List, [], ◌∷◌, Bool, true, false, Option, Some, None, refl, sym, ◌∙◌, ap, subst, arith, ◌⊎◌, inl, inr}
use Rattle.std.specs.Prelude.{if◌then◌else◌, ◌&&◌, nat_lt, nat_le}
use Rattle.std.specs.FinMap.{get}
use Rattle.std.proofs.lemmas.Bool.{leb-true, le-leb, ltb-true, le-ltb}
use Rattle.recovery_model.proofs.Images.{same, changes}
use Rattle.recovery_model.proofs.Covering.{unsettled, changed_now, settled_now, Apart, Free, Until, Sound}
use Rattle.recovery_model.proofs.ImageLemmas.{found_beside}
use Rattle.recovery_model.proofs.BranchLemmas.{live_same, live_other, gone_same, gone_other}
use Rattle.recovery_model.proofs.TieLemmas.{apart_keys, no_pass}

found_at : (h : Timeline) (s : Id) (c : Change) (r : Id) (b : Bool) → (same_id r s) ≡ b → c.before ≡ get (applied (unsettled h.history.live s) (records_at h None)) c.key →
    ((x : Id) → Found (unsettled h.history.live x) (records_at h None)) → Found (unsettled (with_change s c h.history.live) r) (records_at h None)
found_at h s c r true e f all = subst (λ x. Found x (records_at h None)) (sym (live_same s r c h.history.live e)) (f, all s)
found_at h s c r false e f all = subst (λ x. Found x (records_at h None)) (sym (live_other s r c h.history.live e)) (all r)

two_ways : (k j : Key) (x : Bool) (a : Bool) → same k j ≡ a → (if a then true else x) ≡ true → (k ≡ j) ⊎ (x ≡ true)
two_ways k j x true e h = inl (same_key k j e)
two_ways k j x false e h = inr h

-- a key of a branch after the change: it is the new one, or was held before
held : (s : Id) (c : Change) (bs : List LiveChanges) (k : Key) (r : Id) (b : Bool) → (same_id r s) ≡ b → changes k (unsettled (with_change s c bs) r) ≡ true → (((r ≡ s) × (k ≡ c.key)) ⊎ (changes k (unsettled bs r) ≡ true))
held s c bs k r true e h =
    let p : r ≡ s = id_is r s e in
    let g : changes k (c ∷ unsettled bs s) ≡ true = ap (changes k) (sym (live_same s r c bs e)) ∙ h in
    elim (two_ways k c.key (changes k (unsettled bs s)) (same k c.key) refl g) [
      | inl one ↦ inl (p, one)
      | inr before ↦ inr (ap (λ x. changes k (unsettled bs x)) p ∙ before)
    ]
held s c bs k r false e h = inr (ap (changes k) (sym (live_other s r c bs e)) ∙ h)

-- a key that is free for s is not held by another
not_held : (live : Id → List Change) (s : Id) (k j : Key) (r : Id) (b : Bool) → (same_id r s) ≡ b → k ≡ j → Free j s live → changes k (live r) ≡ true → r ≡ s
not_held live s k j r true e p free h = id_is r s e
not_held live s k j r false e p free h = let f : changes k (live r) ≡ false = ap (λ x. changes x (live r)) p ∙ free r e in let no : ⊥ = cc in absurd no

apart_changed : (bs : List LiveChanges) (s : Id) (c : Change) → Free c.key s (unsettled bs) → Apart (unsettled bs) → Apart (unsettled (with_change s c bs))
apart_changed bs s c free apart k r t x y = elim (held s c bs k r (same_id r s) refl x) [
  | inl a ↦ elim (held s c bs k t (same_id t s) refl y) [
    | inl b ↦ a.0 ∙ sym b.0
    | inr b ↦ a.0 ∙ sym (not_held (unsettled bs) s k c.key t (same_id t s) refl a.1 free b)
  ]
  | inr a ↦ elim (held s c bs k t (same_id t s) refl y) [
    | inl b ↦ not_held (unsettled bs) s k c.key r (same_id r s) refl b.1 free a ∙ sym b.0
    | inr b ↦ apart k r t a b
  ]
]

pub sound_changed : (g : ℕ) (h : Timeline) (s : Id) (c : Change) → c.before ≡ get (applied (unsettled h.history.live s) (records_at h None)) c.key → Free c.key s (unsettled h.history.live) → Sound g h → Sound g (changed_now s c h)
sound_changed g h s c f free w = record {
  start = w.start;
  moments = w.moments;
  one = once_change s c h.history.live w.one;
  found = λ r. found_at h s c r (same_id r s) refl f w.found;
  apart = apart_changed h.history.live s c free w.apart;
}

kept_key : (s : Id) (bs : List LiveChanges) (k : Key) (r : Id) (b : Bool) → SerialsDiffer bs → (same_id r s) ≡ b → changes k (unsettled (without s bs) r) ≡ true → changes k (unsettled bs r) ≡ true
kept_key s bs k r true d e h = let n : changes k (unsettled (without s bs) r) ≡ false = ap (changes k) (gone_same s r bs d e) in let no : ⊥ = cc in absurd no
kept_key s bs k r false d e h = ap (changes k) (sym (gone_other s r bs e)) ∙ h

apart_settled : (bs : List LiveChanges) (s : Id) → SerialsDiffer bs → Apart (unsettled bs) → Apart (unsettled (without s bs))
apart_settled bs s d apart k r t x y = apart k r t (kept_key s bs k r (same_id r s) d refl x) (kept_key s bs k t (same_id t s) d refl y)

pub until_later : (g t : ℕ) → g ≤ t → (xs : List SettledChanges) → Until g xs → Until t xs
until_later g t l [] h = tt
until_later g t l (x ∷ xs) h = (omega (arith, h.0), until_later g t l xs h.1)

found_settled : (h : Timeline) (s r : Id) (outcome : Outcome) (t : ℕ) (b : Bool) → SerialsDiffer h.history.live → (same_id r s) ≡ b → Apart (unsettled h.history.live) → Found (unsettled h.history.live r) (records_at h None) →
    Found (unsettled (without s h.history.live) r) (records_at (settled_now s outcome t h) None)
found_settled h s r outcome t true d e apart f = subst (λ x. Found x (records_at (settled_now s outcome t h) None)) (sym (gone_same s r h.history.live d e)) tt
found_settled h s r Commit t false d e apart f =
    subst (λ x. Found x (records_at (settled_now s Commit t h) None)) (sym (gone_other s r h.history.live e))
    (found_beside (unsettled h.history.live s) (unsettled h.history.live r) (records_at h None)
    (apart_keys (unsettled h.history.live) s r e apart) f)
found_settled h s r Abort t false d e apart f = subst (λ x. Found x (records_at h None)) (sym (gone_other s r h.history.live e)) f

pub sound_settled : (g : ℕ) (h : Timeline) (s : Id) (outcome : Outcome) (t : ℕ) → g < t → Sound g h → Sound t (settled_now s outcome t h)
sound_settled g h s outcome t l w = record {
  start = (let x = w.start in omega arith);
  moments = (omega arith, until_later g t (omega arith) h.history.settled w.moments);
  one = differ_left s h.history.live w.one;
  found = λ r. found_settled h s r outcome t (same_id r s) w.one refl w.apart (w.found r);
  apart = apart_settled h.history.live s w.one w.apart;
}

pub sound_passed : (g t : ℕ) (h : Timeline) → g ≤ t → Sound g h → Sound t h
sound_passed g t h l w = record { start = (let x = w.start in omega arith); moments = until_later g t l h.history.settled w.moments; one = w.one; found = w.found; apart = w.apart }

found_none : (cs : List Change) (m : Records) → cs ≡ [] → Found cs m
found_none cs m e = subst (λ x. Found x m) (sym e) tt

pub sound_rebased : (g : ℕ) (h : Timeline) (m : Records) → ((s : Id) → unsettled h.history.live s ≡ []) → Sound g h → Sound g (rebased m g h)
sound_rebased g h m n w = record { start = omega arith; moments = tt; one = w.one; found = λ s. found_none _ _ (n s); apart = w.apart }

-- Moments.

both_pass : (x : SettledChanges) (u g : ℕ) → g ≤ u → x.moment ≤ g → (is_commit x.outcome && reached (Some u) x.moment) ≡ (is_commit x.outcome && reached None x.moment)
both_pass x u g l h = ap (λ y. is_commit x.outcome && y) (le-leb x.moment u (omega arith))

left_one : (outcome : Outcome) (b : Bool) (x y : Records) → (elim (outcome) [ Commit ↦ (if b then x else y) | Abort ↦ y ]) ≡ (if is_commit outcome && b then x else y)
left_one Commit b x y = refl
left_one Abort b x y = refl

left_step : (until : Option ℕ) (x : SettledChanges) (xs : List SettledChanges) (m : Records) →
    left_by until (x ∷ xs) m ≡ (if is_commit x.outcome && reached until x.moment then applied x.changes (left_by until xs m) else left_by until xs m)
left_step until x xs m = left_one x.outcome (reached until x.moment) (applied x.changes (left_by until xs m)) (left_by until xs m)

left_late : (u g : ℕ) → g ≤ u → (xs : List SettledChanges) (m : Records) → Until g xs → left_by (Some u) xs m ≡ left_by None xs m
left_late u g l [] m h = refl
left_late u g l (x ∷ xs) m h =
    left_step (Some u) x xs m ∙
    ap (λ b. if b then applied x.changes (left_by (Some u) xs m) else left_by (Some u) xs m) (both_pass x u g l h.0) ∙
    ap (λ y. if is_commit x.outcome && reached None x.moment then applied x.changes y else y) (left_late u g l xs m h.1) ∙
    sym (left_step None x xs m)

-- from the greatest moment on there is nothing to leave out
pub records_late : (g : ℕ) (h : Timeline) (u : ℕ) → g ≤ u → Sound g h → records_at h (Some u) ≡ records_at h None
records_late g h u l w = if_false (nat_lt u h.history.moment) _ _ (le-ltb u h.history.moment (let x = w.start in omega arith)) ∙ left_late u g l h.history.settled h.history.base w.moments

settled_at : (h : Timeline) (s : Id) (outcome : Outcome) (t u : ℕ) (a b : Bool) → h.history.moment < t → nat_lt u h.history.moment ≡ a → nat_le t u ≡ b →
    records_at (settled_now s outcome t h) (Some u) ≡ (if is_commit outcome && b then applied (unsettled h.history.live s) (records_at h (Some u)) else records_at h (Some u))
settled_at h s outcome t u true true l e f =
    let x : u < h.history.moment = ltb-true u h.history.moment e in
    let y : t ≤ u = leb-true t u f in
    absurd (omega arith)
settled_at h s outcome t u true false l e f = rw (e, no_pass (is_commit outcome) false refl) refl
settled_at h s outcome t u false b l e f =
    let before = left_by (Some u) h.history.settled h.history.base in
    if_false (nat_lt u h.history.moment) _ _ e ∙
    left_step (Some u) (record { serial = s; outcome = outcome; moment = t; changes = unsettled h.history.live s }) h.history.settled h.history.base ∙
    ap (λ x. if is_commit outcome && x then applied (unsettled h.history.live s) before else before) f ∙
    ap (λ y. if is_commit outcome && b then applied (unsettled h.history.live s) y else y) (sym (if_false (nat_lt u h.history.moment) _ _ e))

-- the records at any moment after a settlement
pub records_settled : (h : Timeline) (s : Id) (outcome : Outcome) (t : ℕ) (u : Option ℕ) → h.history.moment < t →
    records_at (settled_now s outcome t h) u ≡ (if is_commit outcome && reached u t then applied (unsettled h.history.live s) (records_at h u) else records_at h u)
records_settled h s outcome t None l = left_one outcome true _ _
records_settled h s outcome t (Some u) l = settled_at h s outcome t u (nat_lt u h.history.moment) (nat_le t u) l refl refl
