-- Each step keeps what ties a journal's entries to the unsettled branches.
use Rattle.unit_laws.specs.vms_model.Ids.{Id}
use Rattle.unit_laws.specs.vms_model.Transactions.{Outcome, Commit, Abort}
use Rattle.unit_laws.specs.vms_model.Keys.{Key}
use Rattle.unit_laws.specs.records_model.History.{same_id, LiveChanges, with_change, without}
use Rattle.unit_laws.specs.records_model.Records.{Records, Change, set_key, applied}
use Rattle.unit_laws.proofs.records_model.RecordsLemmas.{set_back}
use Rattle.unit_laws.proofs.records_model.SlotLaws.{if_true, if_false}
use Rattle.unit_laws.proofs.LiveLemmas.{id_is}
use Rattle.recovery_model.specs.Images.{touches}
use Rattle.recovery_model.specs.Journal.{Entry, Changed, Settled, chosen, is_commit, is_settled, images_by, Below}
use Rattle.std.proofs.Common.{◌≡◌, ℕ, ◌≤◌, List, [], ◌∷◌, Bool, true, false, Option, refl, sym, ◌∙◌, ap}
use Rattle.std.specs.Prelude.{if◌then◌else◌, ◌&&◌}
use Rattle.std.specs.FinMap.{get}
use Rattle.recovery_model.proofs.Images.{same, changes, sets, unsets}
use Rattle.recovery_model.proofs.Covering.{unsettled, Apart, Free, TiesForward, TiesBackward}
use Rattle.recovery_model.proofs.ImageLemmas.{applied_beside, unsets_beside}
use Rattle.recovery_model.proofs.RollLemmas.{Joins}
use Rattle.recovery_model.proofs.BranchLemmas.{turned, same_from, live_same, live_other, gone_other}

-- the images of one branch after a change of another, or of its own
pub of_same : (s r : Id) (k : Key) (v : Option (List ℕ)) (es : List Entry) → (same_id r s) ≡ true → images_by r (Changed s k v ∷ es) ≡ (k, v) ∷ images_by r es
of_same s r k v es e = if_true (same_id s r) _ _ (turned s r true e)

pub of_other : (s r : Id) (k : Key) (v : Option (List ℕ)) (es : List Entry) → (same_id r s) ≡ false → images_by r (Changed s k v ∷ es) ≡ images_by r es
of_other s r k v es e = if_false (same_id s r) _ _ (turned s r false e)

keys_changed : (es : List Entry) (bs : List LiveChanges) (s : Id) (c : Change) (v : Option (List ℕ)) (r : Id) (k : Key) (b : Bool) → (same_id r s) ≡ b →
    touches k (images_by r es) ≡ changes k (unsettled bs r) → touches k (images_by r (Changed s c.key v ∷ es)) ≡ changes k (unsettled (with_change s c bs) r)
keys_changed es bs s c v r k true e h =
    let p : r ≡ s = id_is r s e in
    ap (touches k) (of_same s r c.key v es e) ∙ ap (λ x. if same k c.key then true else x) (h ∙ ap (λ x. changes k (unsettled bs x)) p) ∙ ap (changes k) (sym (live_same s r c bs e))
keys_changed es bs s c v r k false e h = ap (touches k) (of_other s r c.key v es e) ∙ h ∙ ap (changes k) (sym (live_other s r c bs e))

forward_holds : (es : List Entry) (bs : List LiveChanges) (s : Id) (c : Change) (m : Records) (r : Id) (b : Bool) → (same_id r s) ≡ b →
    sets (images_by r es) m ≡ applied (unsettled bs r) m → sets (images_by r (Changed s c.key c.after ∷ es)) m ≡ applied (unsettled (with_change s c bs) r) m
forward_holds es bs s c m r true e h =
    let p : r ≡ s = id_is r s e in
    ap (λ x. sets x m) (of_same s r c.key c.after es e) ∙ ap (λ x. set_key x c.key c.after) (h ∙ ap (λ x. applied (unsettled bs x) m) p) ∙ ap (λ x. applied x m) (sym (live_same s r c bs e))
forward_holds es bs s c m r false e h = ap (λ x. sets x m) (of_other s r c.key c.after es e) ∙ h ∙ ap (λ x. applied x m) (sym (live_other s r c bs e))

backward_holds : (es : List Entry) (bs : List LiveChanges) (s : Id) (c : Change) (m : Records) (r : Id) (b : Bool) → (same_id r s) ≡ b → c.before ≡ get (applied (unsettled bs s) m) c.key →
    unsets (images_by r es) (applied (unsettled bs r) m) ≡ m → unsets (images_by r (Changed s c.key c.before ∷ es)) (applied (unsettled (with_change s c bs) r) m) ≡ m
backward_holds es bs s c m r true e f h =
    let p : r ≡ s = id_is r s e in
    let back : set_key (set_key (applied (unsettled bs s) m) c.key c.after) c.key c.before ≡ applied (unsettled bs s) m = rw f (set_back (applied (unsettled bs s) m) c.key c.after) in
    ap (λ x. unsets x (applied (unsettled (with_change s c bs) r) m)) (of_same s r c.key c.before es e) ∙
    ap (λ x. unsets (images_by r es) (set_key (applied x m) c.key c.before)) (live_same s r c bs e) ∙
    ap (unsets (images_by r es)) (back ∙ ap (λ x. applied (unsettled bs x) m) (sym p)) ∙ h
backward_holds es bs s c m r false e f h =
    ap (λ x. unsets x (applied (unsettled (with_change s c bs) r) m)) (of_other s r c.key c.before es e) ∙ ap (λ x. unsets (images_by r es) (applied x m)) (live_other s r c bs e) ∙ h

pub forward_ties_changed : (may : Id → Bool) (es : List Entry) (bs : List LiveChanges) (s : Id) (c : Change) → Free c.key s (unsettled bs) →
    TiesForward may es (unsettled bs) → TiesForward may (Changed s c.key c.after ∷ es) (unsettled (with_change s c bs))
forward_ties_changed may es bs s c free t = record {
  keys = λ r k u. keys_changed es bs s c c.after r k (same_id r s) refl (t.keys r k u);
  stands = λ r u. (λ e. t.keys r c.key u ∙ free r (turned r s false e), t.stands r u);
  holds = λ r m u y. forward_holds es bs s c m r (same_id r s) refl (t.holds r m u y);
}

pub backward_ties_changed : (es : List Entry) (bs : List LiveChanges) (m : Records) (s : Id) (c : Change) → Free c.key s (unsettled bs) → c.before ≡ get (applied (unsettled bs s) m) c.key →
    TiesBackward es (unsettled bs) m → TiesBackward (Changed s c.key c.before ∷ es) (unsettled (with_change s c bs)) m
backward_ties_changed es bs m s c free f t = record {
  keys = λ r k u. keys_changed es bs s c c.before r k (same_id r s) refl (t.keys r k u);
  stands = λ r u. (λ e. t.keys r c.key u ∙ free r (turned r s false e), t.stands r u);
  holds = λ r u. backward_holds es bs s c m r (same_id r s) refl f (t.holds r u);
}

pub not_this : (s r : Id) (b x : Bool) → (same_id r s) ≡ b → (if b then true else x) ≡ false → ((same_id r s) ≡ false) × (x ≡ false)
not_this s r true x e h = let no : ⊥ = cc in absurd no
not_this s r false x e h = (e, h)

pub forward_ties_settled : (may : Id → Bool) (es : List Entry) (bs : List LiveChanges) (s : Id) (outcome : Outcome) (t : ℕ) →
    TiesForward may es (unsettled bs) → TiesForward may (Settled s outcome t ∷ es) (unsettled (without s bs))
forward_ties_settled may es bs s outcome n t = record {
  keys = λ r k u. let x = not_this s r (same_id r s) (is_settled es r) refl u in t.keys r k x.1 ∙ ap (changes k) (sym (gone_other s r bs x.0));
  stands = λ r u. t.stands r (not_this s r (same_id r s) (is_settled es r) refl u).1;
  holds = λ r m u y. let x = not_this s r (same_id r s) (is_settled es r) refl u in t.holds r m x.1 y ∙ ap (λ z. applied z m) (sym (gone_other s r bs x.0));
}

-- a key of s is none of another branch
off_key : (live : Id → List Change) (k : Key) (r s : Id) (b : Bool) → changes k (live s) ≡ b → (same_id r s) ≡ false → Apart live → changes k (live r) ≡ true → b ≡ false
off_key live k r s true e n apart h = let q : (same_id r s) ≡ true = same_from r s (apart k r s h e) in let no : ⊥ = cc in absurd no
off_key live k r s false e n apart h = refl

pub apart_keys : (live : Id → List Change) (s r : Id) → (same_id r s) ≡ false → Apart live → (k : Key) → changes k (live s) ≡ true → changes k (live r) ≡ false
apart_keys live s r e apart k h = off_key live k s r (changes k (live r)) refl (turned s r false e) apart h

backward_kept : (es : List Entry) (bs : List LiveChanges) (m : Records) (s r : Id) → (same_id r s) ≡ false → Apart (unsettled bs) → ((k : Key) → touches k (images_by r es) ≡ changes k (unsettled bs r)) →
    unsets (images_by r es) (applied (unsettled bs r) m) ≡ m → unsets (images_by r es) (applied (unsettled (without s bs) r) (applied (unsettled bs s) m)) ≡ applied (unsettled bs s) m
backward_kept es bs m s r e apart keys h =
    ap (λ x. unsets (images_by r es) (applied x (applied (unsettled bs s) m))) (gone_other s r bs e) ∙
    ap (unsets (images_by r es)) (applied_beside (unsettled bs s) (unsettled bs r) m (apart_keys (unsettled bs) s r e apart)) ∙
    unsets_beside (unsettled bs s) (images_by r es) (applied (unsettled bs r) m) (λ k x. keys k ∙ apart_keys (unsettled bs) s r e apart k x) ∙
    ap (applied (unsettled bs s)) h

pub backward_ties_committed : (es : List Entry) (bs : List LiveChanges) (m : Records) (s : Id) (t : ℕ) → Apart (unsettled bs) →
    TiesBackward es (unsettled bs) m → TiesBackward (Settled s Commit t ∷ es) (unsettled (without s bs)) (applied (unsettled bs s) m)
backward_ties_committed es bs m s n apart t = record {
  keys = λ r k u. let x = not_this s r (same_id r s) (is_settled es r) refl u in t.keys r k x.1 ∙ ap (changes k) (sym (gone_other s r bs x.0));
  stands = λ r u. t.stands r (not_this s r (same_id r s) (is_settled es r) refl u).1;
  holds = λ r u. let x = not_this s r (same_id r s) (is_settled es r) refl u in backward_kept es bs m s r x.0 apart (λ k. t.keys r k x.1) (t.holds r x.1);
}

pub backward_ties_aborted : (es : List Entry) (bs : List LiveChanges) (m : Records) (s : Id) (t : ℕ) →
    TiesBackward es (unsettled bs) m → TiesBackward (Settled s Abort t ∷ es) (unsettled (without s bs)) m
backward_ties_aborted es bs m s n t = record {
  keys = λ r k u. let x = not_this s r (same_id r s) (is_settled es r) refl u in t.keys r k x.1 ∙ ap (changes k) (sym (gone_other s r bs x.0));
  stands = λ r u. t.stands r (not_this s r (same_id r s) (is_settled es r) refl u).1;
  holds = λ r u. let x = not_this s r (same_id r s) (is_settled es r) refl u in ap (λ z. unsets (images_by r es) (applied z m)) (gone_other s r bs x.0) ∙ t.holds r x.1;
}

-- a new span, where no unsettled branch changed the file
pub forward_ties_none : (may : Id → Bool) (bs : List LiveChanges) → ((s : Id) → unsettled bs s ≡ []) → TiesForward may [] (unsettled bs)
forward_ties_none may bs n = record { keys = λ s k u. ap (changes k) (sym (n s)); stands = λ s u. tt; holds = λ s m u y. ap (λ x. applied x m) (sym (n s)) }

pub backward_ties_none : (bs : List LiveChanges) (m : Records) → ((s : Id) → unsettled bs s ≡ []) → TiesBackward [] (unsettled bs) m
backward_ties_none bs m n = record { keys = λ s k u. ap (changes k) (sym (n s)); stands = λ s u. tt; holds = λ s u. ap (λ x. applied x m) (n s) }

-- Which branches pass.

pub chosen_not : (ok : ℕ → Bool) (es : List Entry) (s : Id) → is_settled es s ≡ false → chosen ok es s ≡ false
chosen_not ok [] s e = refl
chosen_not ok (Changed r k v ∷ es) s e = chosen_not ok es s e
chosen_not ok (Settled r c t ∷ es) s e = let x = not_this r s (same_id s r) (is_settled es s) refl e in rw x.0 (chosen_not ok es s x.1)

both_true : (b x y : Bool) → x ≡ true → (if b && x then true else y) ≡ (if b then true else y)
both_true true x y e = rw e refl
both_true false x y e = refl

both_false : (b x y : Bool) → x ≡ false → (if b && x then true else y) ≡ y
both_false true x y e = rw e refl
both_false false x y e = refl

pub no_pass : (c x : Bool) → x ≡ false → (c && x) ≡ false
no_pass true x e = e
no_pass false x e = refl

-- a outcome at a moment that passes joins its branch
pub chosen_more : (ok : ℕ → Bool) (es : List Entry) (s : Id) (t : ℕ) → ok t ≡ true → Joins (chosen ok es) s (chosen ok (Settled s Commit t ∷ es))
chosen_more ok es s t e r = both_true (same_id r s) (ok t) (chosen ok es r) e

pub chosen_same : (ok : ℕ → Bool) (es : List Entry) (s : Id) (outcome : Outcome) (t : ℕ) → (is_commit outcome && ok t) ≡ false → (r : Id) → chosen ok (Settled s outcome t ∷ es) r ≡ chosen ok es r
chosen_same ok es s outcome t e r = both_false (same_id r s) (is_commit outcome && ok t) (chosen ok es r) e

pub chosen_none : (ok : ℕ → Bool) (g : ℕ) → ((t : ℕ) → t ≤ g → ok t ≡ false) → (es : List Entry) → Below g es → (s : Id) → chosen ok es s ≡ false
chosen_none ok g n [] h s = refl
chosen_none ok g n (Changed r k v ∷ es) h s = chosen_none ok g n es h s
chosen_none ok g n (Settled r c t ∷ es) h s = both_false (same_id s r) (is_commit c && ok t) (chosen ok es s) (no_pass (is_commit c) (ok t) (n t h.0)) ∙ chosen_none ok g n es h.1 s
