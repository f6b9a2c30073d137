-- Room in the rings of journals of images: which unsettled branches have entries, and what each act leaves free.
use Rattle.std.proofs.Common.{◌≡◌, ℕ, suc, ◌+◌, ◌-◌, ◌*◌, ◌<◌, ◌≤◌, List, [], ◌∷◌, Bool, true, false, Option, cond, refl, sym, ◌∙◌, ap, subst, arith}
use Rattle.std.specs.Prelude.{if◌then◌else◌}
use Rattle.std.specs.List.{AllByRecursion}
use Rattle.unit_laws.specs.vms_model.Ids.{Id}
use Rattle.unit_laws.specs.vms_model.Keys.{Key}
use Rattle.unit_laws.specs.vms_model.Transactions.{Outcome}
use Rattle.unit_laws.specs.records_model.Records.{Change}
use Rattle.unit_laws.specs.records_model.History.{LiveChanges, same_id, changes_by, with_change, without}
use Rattle.unit_laws.proofs.records_model.SlotLaws.{if_true, if_false}
use Rattle.unit_laws.specs.Units.{SerialsDiffer, has_changes}
use Rattle.unit_laws.proofs.Tests.{or_one, or_passed}
use Rattle.unit_laws.proofs.LiveLemmas.{id_is, id_itself}
use Rattle.recovery_model.specs.Journal.{Entry, Changed, Settled, entry_length}
use Rattle.recovery_model.specs.File.{ImageJournal, all_of, append, next_span, renewed, with_its}
use Rattle.recovery_model.specs.Room.{has_entry, unsettled_in, free_in, need_in, HasRoom}

-- Which branches have entries after one entry more.

other_entry : (r s : Id) (k : Key) (v : Option (List ℕ)) (es : List Entry) → same_id s r ≡ false → has_entry r (Changed s k v ∷ es) ≡ has_entry r es
other_entry r s k v es e = or_passed (same_id s r) (has_entry r es) e

own_entry : (s : Id) (k : Key) (v : Option (List ℕ)) (es : List Entry) → has_entry s (Changed s k v ∷ es) ≡ true
own_entry s k v es = or_one (same_id s s) (has_entry s es) (id_itself s)

count_beside : (s : Id) (k : Key) (v : Option (List ℕ)) (es : List Entry) (ls : List LiveChanges) → AllByRecursion (λ (l : LiveChanges). same_id s l.serial ≡ false) ls → unsettled_in (Changed s k v ∷ es) ls ≡ unsettled_in es ls
count_beside s k v es [] h = refl
count_beside s k v es (l ∷ ls) h =
    ap (λ b. if b then suc (unsettled_in (Changed s k v ∷ es) ls) else unsettled_in (Changed s k v ∷ es) ls) (other_entry l.serial s k v es h.0) ∙
    ap (λ n. if has_entry l.serial es then suc n else n) (count_beside s k v es ls h.1)

new_one : (b : Bool) → (b ≡ true → false ≡ true) → suc 0 ≡ (if b then 0 else suc 0)
new_one true h = let no : ⊥ = (let t : false ≡ true = h refl in cc) in absurd no
new_one false h = refl

one_more : (a b : Bool) (u : ℕ) → a ≡ b → suc u ≡ (if a then (if b then suc u else u) else suc (if b then suc u else u))
one_more true true u e = refl
one_more true false u e = let no : ⊥ = cc in absurd no
one_more false true u e = let no : ⊥ = cc in absurd no
one_more false false u e = refl

more_over : (b h : Bool) (u : ℕ) → (if b then suc (if h then u else suc u) else (if h then u else suc u)) ≡ (if h then (if b then suc u else u) else suc (if b then suc u else u))
more_over true true u = refl
more_over true false u = refl
more_over false true u = refl
more_over false false u = refl

-- a branch counts from its first entry on; one that has entries is among the unsettled ones
pub count_changed : (s : Id) (c : Change) (k : Key) (v : Option (List ℕ)) (es : List Entry) (ls : List LiveChanges) → SerialsDiffer ls → (has_entry s es ≡ true → has_changes (changes_by s ls) ≡ true) →
    unsettled_in (Changed s k v ∷ es) (with_change s c ls) ≡ (if has_entry s es then unsettled_in es ls else suc (unsettled_in es ls))
count_changed s c k v es [] d known = if_true (has_entry s (Changed s k v ∷ es)) (suc 0) 0 (own_entry s k v es) ∙ new_one (has_entry s es) known
count_changed s c k v es (l ∷ ls) d known = go (same_id s l.serial) refl (count_changed s c k v es ls d.1)
  where
    here : same_id s l.serial ≡ true → has_entry l.serial (Changed s k v ∷ es) ≡ true
    here is = subst (λ (x : Id). has_entry x (Changed s k v ∷ es) ≡ true) (id_is s l.serial is) (own_entry s k v es)

    beside : same_id s l.serial ≡ true → unsettled_in (Changed s k v ∷ es) ls ≡ unsettled_in es ls
    beside is = count_beside s k v es ls (subst (λ (x : Id). AllByRecursion (λ (m : LiveChanges). same_id x m.serial ≡ false) ls) (sym (id_is s l.serial is)) d.0)

    go : (x : Bool) → same_id s l.serial ≡ x →
        ((has_entry s es ≡ true → has_changes (changes_by s ls) ≡ true) → unsettled_in (Changed s k v ∷ es) (with_change s c ls) ≡ (if has_entry s es then unsettled_in es ls else suc (unsettled_in es ls))) →
        unsettled_in (Changed s k v ∷ es) (cond x (record l { changes = c ∷ l.changes } ∷ ls) (l ∷ with_change s c ls)) ≡ (if has_entry s es then unsettled_in es (l ∷ ls) else suc (unsettled_in es (l ∷ ls)))
    go true is later =
        if_true (has_entry l.serial (Changed s k v ∷ es)) _ _ (here is) ∙ ap suc (beside is) ∙
        one_more (has_entry s es) (has_entry l.serial es) (unsettled_in es ls) (ap (λ x. has_entry x es) (id_is s l.serial is))
    go false is later =
        ap (λ b. if b then suc (unsettled_in (Changed s k v ∷ es) (with_change s c ls)) else unsettled_in (Changed s k v ∷ es) (with_change s c ls)) (other_entry l.serial s k v es is) ∙
        ap (λ n. if has_entry l.serial es then suc n else n) (later (λ h. subst (λ x. has_changes x ≡ true) (if_false (same_id s l.serial) l.changes (changes_by s ls) is) (known h))) ∙
        more_over (has_entry l.serial es) (has_entry s es) (unsettled_in es ls)

-- a settlement is no entry of a change
count_after : (s : Id) (outcome : Outcome) (t : ℕ) (es : List Entry) (ls : List LiveChanges) → unsettled_in (Settled s outcome t ∷ es) ls ≡ unsettled_in es ls
count_after s outcome t es [] = refl
count_after s outcome t es (l ∷ ls) = ap (λ n. if has_entry l.serial es then suc n else n) (count_after s outcome t es ls)

less_one : (b : Bool) (n u : ℕ) → suc n ≡ u → suc (if b then suc n else n) ≡ (if b then suc u else u)
less_one true n u e = ap suc e
less_one false n u e = e

-- a branch that has entries counts until it is settled
pub count_settled : (s : Id) (outcome : Outcome) (t : ℕ) (es : List Entry) (ls : List LiveChanges) → has_entry s es ≡ true → has_changes (changes_by s ls) ≡ true →
    suc (unsettled_in (Settled s outcome t ∷ es) (without s ls)) ≡ unsettled_in es ls
count_settled s outcome t es [] h among = let no : ⊥ = cc in absurd no
count_settled s outcome t es (l ∷ ls) h among = go (same_id s l.serial) refl (count_settled s outcome t es ls h)
  where
    here : same_id s l.serial ≡ true → has_entry l.serial es ≡ true
    here is = subst (λ (x : Id). has_entry x es ≡ true) (id_is s l.serial is) h

    go : (x : Bool) → same_id s l.serial ≡ x → (has_changes (changes_by s ls) ≡ true → suc (unsettled_in (Settled s outcome t ∷ es) (without s ls)) ≡ unsettled_in es ls) →
        suc (unsettled_in (Settled s outcome t ∷ es) (cond x ls (l ∷ without s ls))) ≡ unsettled_in es (l ∷ ls)
    go true is later = ap suc (count_after s outcome t es ls) ∙ sym (if_true (has_entry l.serial es) _ _ (here is))
    go false is later = less_one (has_entry l.serial es) _ _ (later (subst (λ x. has_changes x ≡ true) (if_false (same_id s l.serial) l.changes (changes_by s ls) is) among))

pub count_its : (s : Id) (cs : List Change) (es : List Entry) (ls : List LiveChanges) → unsettled_in es (with_its s cs ls) ≡ unsettled_in es ls
count_its s cs es [] = refl
count_its s cs es (l ∷ ls) = go (same_id s l.serial) (count_its s cs es ls)
  where
    go : (x : Bool) → unsettled_in es (with_its s cs ls) ≡ unsettled_in es ls → unsettled_in es (cond x (record l { changes = cs } ∷ ls) (l ∷ with_its s cs ls)) ≡ unsettled_in es (l ∷ ls)
    go true later = refl
    go false later = ap (λ n. if has_entry l.serial es then suc n else n) later

count_none : (ls : List LiveChanges) → unsettled_in [] ls ≡ 0
count_none [] = refl
count_none (l ∷ ls) = count_none ls

-- What is left of the room.

-- the bytes that a branch needs for so many of its own
abbrev pub needing : Bool → ℕ → ℕ
needing has n = if has then n else 48 + n

grown : (has : Bool) (first end size u blocks : ℕ) → (end - first) + 48 * u ≤ 512 * blocks → needing has size ≤ 512 * blocks - (end - first) - 48 * u → 0 < size → (end + size - first) + 48 * (if has then u else suc u) ≤ 512 * blocks
grown true first end size u blocks a b c = omega arith
grown false first end size u blocks a b c = omega arith

-- where more is to come, it fits behind the first of it
pub less_needed : (has : Bool) (first end size more u blocks : ℕ) → needing has (more + size) ≤ 512 * blocks - (end - first) - 48 * u → 0 < size → more ≤ 512 * blocks - (end + size - first) - 48 * (if has then u else suc u)
less_needed true first end size more u blocks a b = omega arith
less_needed false first end size more u blocks a b = omega arith

settled_in_room : (first end u v blocks : ℕ) → suc v ≡ u → (end - first) + 48 * u ≤ 512 * blocks → (end + 48 - first) + 48 * v ≤ 512 * blocks
settled_in_room first end u v blocks e a = omega arith

pub appended : (tid : Id) (e : Entry) (j : ImageJournal) → j.on ≡ true → append tid e j ≡ record j { end = j.end + entry_length e; entries = record { at = j.end; tid = tid; entry = e } ∷ j.entries }
appended tid e j on = if_true j.on _ _ on

room_with : (first end blocks u v : ℕ) → u ≡ v → (end - first) + 48 * v ≤ 512 * blocks → (end - first) + 48 * u ≤ 512 * blocks
room_with first end blocks u v e h = subst (λ n. (end - first) + 48 * n ≤ 512 * blocks) (sym e) h

pub room_changed : (tid s : Id) (c : Change) (k : Key) (v : Option (List ℕ)) (j : ImageJournal) (ls : List LiveChanges) → j.on ≡ true → SerialsDiffer ls → (has_entry s (all_of j.entries) ≡ true → has_changes (changes_by s ls) ≡ true) →
    need_in s ((k, v) ∷ []) j ≤ free_in j ls → HasRoom j ls → HasRoom (append tid (Changed s k v) j) (with_change s c ls)
room_changed tid s c k v j ls on d known fits room =
    subst (λ x. HasRoom x (with_change s c ls)) (sym (appended tid (Changed s k v) j on))
    (room_with j.first (j.end + entry_length (Changed s k v)) j.blocks _ _ (count_changed s c k v (all_of j.entries) ls d known)
    (grown (has_entry s (all_of j.entries)) j.first j.end (entry_length (Changed s k v)) (unsettled_in (all_of j.entries) ls) j.blocks room (needs (has_entry s (all_of j.entries)) fits) (omega arith)))
  where
    needs : (b : Bool) → (if b then (entry_length (Changed s k v) + 0) else 48 + (entry_length (Changed s k v) + 0)) ≤ free_in j ls → needing b (entry_length (Changed s k v)) ≤ free_in j ls
    needs true h = omega (arith, h)
    needs false h = omega (arith, h)

pub room_settled : (tid s : Id) (outcome : Outcome) (t : ℕ) (j : ImageJournal) (ls : List LiveChanges) → j.on ≡ true → has_entry s (all_of j.entries) ≡ true → has_changes (changes_by s ls) ≡ true →
    HasRoom j ls → HasRoom (append tid (Settled s outcome t) j) (without s ls)
room_settled tid s outcome t j ls on has among room =
    subst (λ x. HasRoom x (without s ls)) (sym (appended tid (Settled s outcome t) j on))
    (settled_in_room j.first j.end (unsettled_in (all_of j.entries) ls) (unsettled_in (Settled s outcome t ∷ all_of j.entries) (without s ls)) j.blocks (count_settled s outcome t (all_of j.entries) ls has among) room)

pub room_half : (s : Id) (cs : List Change) (j : ImageJournal) (ls : List LiveChanges) → HasRoom j ls → HasRoom j (with_its s cs ls)
room_half s cs j ls room = room_with j.first j.end j.blocks _ _ (count_its s cs (all_of j.entries) ls) room

-- there is room for a settlement that is to come
pub counts_one : (s : Id) (es : List Entry) (ls : List LiveChanges) → has_entry s es ≡ true → has_changes (changes_by s ls) ≡ true → 0 < unsettled_in es ls
counts_one s es [] h among = let no : ⊥ = cc in absurd no
counts_one s es (l ∷ ls) h among = go (same_id s l.serial) refl (counts_one s es ls h)
  where
    up : (b : Bool) (n : ℕ) → 0 < n → 0 < (if b then suc n else n)
    up true n l = omega arith
    up false n l = l

    first : (b : Bool) (n : ℕ) → b ≡ true → 0 < (if b then suc n else n)
    first true n e = omega arith
    first false n e = let no : ⊥ = cc in absurd no

    go : (x : Bool) → same_id s l.serial ≡ x → (has_changes (changes_by s ls) ≡ true → 0 < unsettled_in es ls) → 0 < unsettled_in es (l ∷ ls)
    go true is later = first (has_entry l.serial es) (unsettled_in es ls) (subst (λ (x : Id). has_entry x es ≡ true) (id_is s l.serial is) h)
    go false is later = up (has_entry l.serial es) (unsettled_in es ls) (later (subst (λ x. has_changes x ≡ true) (if_false (same_id s l.serial) l.changes (changes_by s ls) is) among))

pub room_new : (start blocks : ℕ) (j : ImageJournal) (ls : List LiveChanges) → HasRoom (renewed start blocks j) ls
room_new start blocks j ls = room_with (next_span j.end) (next_span j.end) blocks _ _ (count_none ls) (omega arith)
