-- The unsettled branches of a file: their changes, and the keys that are free for one.
use Rattle.std.proofs.Common.{◌≡◌, Bool, true, false, cond, not, List, [], ◌∷◌, refl, sym, ◌∙◌, ap, subst}
use Rattle.std.specs.Prelude.{if◌then◌else◌, ◌&&◌}
use Rattle.std.specs.List.{AllByRecursion}
use Rattle.std.specs.FinMap.{get}
use Rattle.unit_laws.specs.vms_model.Ids.{Id}
use Rattle.unit_laws.specs.vms_model.Keys.{Key}
use Rattle.unit_laws.specs.records_model.Records.{Records, Change, applied}
use Rattle.unit_laws.specs.records_model.History.{LiveChanges, same_id, changes_key, with_change, without, on_top}
use Rattle.unit_laws.proofs.records_model.RecordsLemmas.{get-set_key}
use Rattle.unit_laws.proofs.records_model.SlotLaws.{if_true, if_false}
use Rattle.unit_laws.specs.Units.{is_changed, is_free, SerialsDiffer}
use Rattle.unit_laws.proofs.Tests.{or_first, or_second, and_first, and_second, not_true, never}
use Rattle.unit_laws.proofs.LiveLemmas.{id_is, id_itself, by_change, by_other, by_without, others_left}
use Rattle.unit_laws.proofs.RestoredLemmas.{changed_of}
use Rattle.recovery_model.proofs.Images.{same}
use Rattle.recovery_model.proofs.Covering.{unsettled, Free}
use Rattle.recovery_model.proofs.ImageLemmas.{changes-key, get-applied}

-- Ids.

pub same_from : (a b : Id) → a ≡ b → same_id a b ≡ true
same_from a b e = subst (λ x. same_id a x ≡ true) e (id_itself a)

pub turned : (r s : Id) (b : Bool) → same_id s r ≡ b → same_id r s ≡ b
turned r s true e = same_from r s (sym (id_is s r e))
turned r s false e = elim (same_id r s) as (λ v. same_id r s ≡ v → v ≡ false) [
  | true ↦ λ f. let t : same_id s r ≡ true = same_from s r (sym (id_is r s f)) in let no : ⊥ = cc in absurd no
  | false ↦ λ f. refl
] refl

-- The changes of each branch, after a change of one, and once one is settled.

pub live_same : (s r : Id) (c : Change) (bs : List LiveChanges) → same_id r s ≡ true → unsettled (with_change s c bs) r ≡ c ∷ unsettled bs s
live_same s r c bs e = ap (unsettled (with_change s c bs)) (id_is r s e) ∙ by_change s c bs

pub live_other : (s r : Id) (c : Change) (bs : List LiveChanges) → same_id r s ≡ false → unsettled (with_change s c bs) r ≡ unsettled bs r
live_other s r c bs e = by_other r s c bs e

pub gone_other : (s r : Id) (bs : List LiveChanges) → same_id r s ≡ false → unsettled (without s bs) r ≡ unsettled bs r
gone_other s r bs e = by_without r s bs e

none_of : (s : Id) (bs : List LiveChanges) → AllByRecursion (λ (l : LiveChanges). same_id l.serial s ≡ false) bs → unsettled bs s ≡ []
none_of s [] h = refl
none_of s (b ∷ bs) h = if_false (same_id s b.serial) _ _ (turned s b.serial false h.0) ∙ none_of s bs h.1

pub gone_same : (s r : Id) (bs : List LiveChanges) → SerialsDiffer bs → same_id r s ≡ true → unsettled (without s bs) r ≡ []
gone_same s r bs d e = ap (unsettled (without s bs)) (id_is r s e) ∙ none_of s (without s bs) (others_left s bs d)

-- Free keys.

off_all : (k : Key) (r : Id) (bs : List LiveChanges) (b : Bool) → changes_key k (unsettled bs r) ≡ b → is_changed bs k ≡ false → b ≡ false
off_all k r bs true e h = absurd (never (is_changed bs k) (changed_of r bs k e) h)
off_all k r bs false e h = refl

free_step : (k : Key) (s r : Id) (b : LiveChanges) (bs : List LiveChanges) (x y : Bool) → same_id s b.serial ≡ x → same_id r b.serial ≡ y → same_id r s ≡ false →
    (if x then not (is_changed bs k) else (not (changes_key k b.changes) && is_free s bs k)) ≡ true → (is_free s bs k ≡ true → changes_key k (unsettled bs r) ≡ false) →
    changes_key k (if y then b.changes else unsettled bs r) ≡ false
free_step k s r b bs true true e f n h ih = let t : same_id r s ≡ true = same_from r s (id_is r b.serial f ∙ sym (id_is s b.serial e)) in let no : ⊥ = cc in absurd no
free_step k s r b bs true false e f n h ih = off_all k r bs (changes_key k (unsettled bs r)) refl (not_true (is_changed bs k) h)
free_step k s r b bs false true e f n h ih = not_true (changes_key k b.changes) (and_first _ _ h)
free_step k s r b bs false false e f n h ih = ih (and_second (not (changes_key k b.changes)) _ h)

free_key : (k : Key) (s : Id) (bs : List LiveChanges) → is_free s bs k ≡ true → (r : Id) → same_id r s ≡ false → changes_key k (unsettled bs r) ≡ false
free_key k s [] h r n = refl
free_key k s (b ∷ bs) h r n = free_step k s r b bs (same_id s b.serial) (same_id r b.serial) refl refl n h (λ x. free_key k s bs x r n)

pub free_for : (k : Key) (s : Id) (bs : List LiveChanges) → is_free s bs k ≡ true → Free k s (unsettled bs)
free_for k s bs h r n = changes-key k (unsettled bs r) ∙ free_key k s bs h r n

-- What stands at a key that is free for a branch is what its own changes left there.

not_changed : (bs : List LiveChanges) (m : Records) (k : Key) → is_changed bs k ≡ false → get (on_top bs m) k ≡ get m k
not_changed [] m k h = refl
not_changed (b ∷ bs) m k h =
    get-applied b.changes (on_top bs m) k (changes-key k b.changes ∙ or_first (changes_key k b.changes) _ h) ∙ not_changed bs m k (or_second (changes_key k b.changes) _ h)

same_applied : (cs : List Change) (m n : Records) (k : Key) → get m k ≡ get n k → get (applied cs m) k ≡ get (applied cs n) k
same_applied [] m n k h = h
same_applied (c ∷ cs) m n k h = get-set_key (applied cs m) c.key k c.after ∙ ap (cond (same k c.key) c.after) (same_applied cs m n k h) ∙ sym (get-set_key (applied cs n) c.key k c.after)

own_step : (b : LiveChanges) (bs : List LiveChanges) (m : Records) (k : Key) (s : Id) (x : Bool) →
    (if x then not (is_changed bs k) else (not (changes_key k b.changes) && is_free s bs k)) ≡ true → (is_free s bs k ≡ true → get (on_top bs m) k ≡ get (applied (unsettled bs s) m) k) →
    get (applied b.changes (on_top bs m)) k ≡ get (applied (if x then b.changes else unsettled bs s) m) k
own_step b bs m k s true h ih = same_applied b.changes (on_top bs m) m k (not_changed bs m k (not_true (is_changed bs k) h))
own_step b bs m k s false h ih = get-applied b.changes (on_top bs m) k (changes-key k b.changes ∙ not_true (changes_key k b.changes) (and_first _ _ h)) ∙ ih (and_second (not (changes_key k b.changes)) _ h)

pub current_own : (bs : List LiveChanges) (m : Records) (k : Key) (s : Id) → is_free s bs k ≡ true → get (on_top bs m) k ≡ get (applied (unsettled bs s) m) k
current_own [] m k s h = refl
current_own (b ∷ bs) m k s h = own_step b bs m k s (same_id s b.serial) h (λ x. current_own bs m k s x)

-- What stands where no branch changed the file.

none_in : (s : Id) (bs : List LiveChanges) → AllByRecursion (λ (k : LiveChanges). same_id s k.serial ≡ false) bs → unsettled bs s ≡ []
none_in s [] h = refl
none_in s (b ∷ bs) h = if_false (same_id s b.serial) _ _ h.0 ∙ none_in s bs h.1

none_behind : (s : Id) (b : LiveChanges) (bs : List LiveChanges) (x : Bool) → same_id s b.serial ≡ x → AllByRecursion (λ (k : LiveChanges). same_id b.serial k.serial ≡ false) bs → (if x then b.changes else unsettled bs s) ≡ [] → unsettled bs s ≡ []
none_behind s b bs true is d h = ap (unsettled bs) (id_is s b.serial is) ∙ none_in b.serial bs d
none_behind s b bs false is d h = h

pub on_top_none : (bs : List LiveChanges) (m : Records) → SerialsDiffer bs → ((s : Id) → unsettled bs s ≡ []) → on_top bs m ≡ m
on_top_none [] m d n = refl
on_top_none (b ∷ bs) m d n =
    let own : b.changes ≡ [] = sym (if_true (same_id b.serial b.serial) b.changes (unsettled bs b.serial) (id_itself b.serial)) ∙ n b.serial in
    ap (λ cs. applied cs (on_top bs m)) own ∙ on_top_none bs m d.1 (λ s. none_behind s b bs (same_id s b.serial) refl d.0 (n s))
