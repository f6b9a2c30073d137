-- What holds of all entries of a journal after an act.
use Rattle.std.proofs.Common.{◌≡◌, ℕ, List, [], ◌∷◌, ◌++◌, false, Option, Some, None, refl}
use Rattle.std.specs.List.{AllByRecursion}
use Rattle.std.proofs.lemmas.Bool.{cond_both, or_parts}
use Rattle.vms_model.specs.Ids.{Id}
use Rattle.vms_model.specs.Transactions.{Outcome}
use Rattle.run_model.specs.records_model.Records.{Change}
use Rattle.run_model.specs.records_model.History.{same_id}
use Rattle.run_model.specs.unit_laws.Journal.{Journal, JournalEntry, ChangeEntry, PreparedEntry, SettledEntry, RecoveryUnit, entries_for, entries_from, find_unit, is_of_units, is_settled_in, is_settling, serial_in, trimmed, units_in, with_entries, with_settled}
use Rattle.run_model.specs.commit_protocol.Table.{Branch, Prepares}
use Rattle.run_model.specs.World.{with_prepared}
use Rattle.world_laws.specs.Ordered.{is_prepared_in, is_preparing}

-- Lists.

pub all_more : {A : Type 0} (P Q : A → Type 0) (xs : List A) → ((x : A) → P x → Q x) → AllByRecursion P xs → AllByRecursion Q xs
all_more P Q [] f h = tt
all_more P Q (x ∷ xs) f h = (f x h.0, all_more P Q xs f h.1)

pub all_append : {A : Type 0} (P : A → Type 0) (xs ys : List A) → AllByRecursion P xs → AllByRecursion P ys → AllByRecursion P (xs ++ ys)
all_append P [] ys h k = k
all_append P (x ∷ xs) ys h k = (h.0, all_append P xs ys h.1 k)

-- Entries.

pub all_entered : (P : JournalEntry → Type 0) (tid serial : Id) (file : List ℕ) (cs : List Change) → ((c : Change) → P (ChangeEntry tid serial file c.key c.before)) → AllByRecursion P (entries_for tid serial file cs)
all_entered P tid serial file [] h = tt
all_entered P tid serial file (c ∷ cs) h = all_append P (entries_for tid serial file cs) (ChangeEntry tid serial file c.key c.before ∷ []) (all_entered P tid serial file cs h) (h c, tt)

all_from : (P : JournalEntry → Type 0) (us : List RecoveryUnit) (es : List JournalEntry) → AllByRecursion P es → AllByRecursion P (entries_from us es)
all_from P us [] h = tt
all_from P us (e ∷ es) h = cond_both (is_of_units us e) (e ∷ es) (entries_from us es) (AllByRecursion P) (λ t. h) (λ t. all_from P us es h.1)

pub all_trimmed : (P : JournalEntry → Type 0) (j : Journal) → AllByRecursion P j.entries → AllByRecursion P (trimmed j).entries
all_trimmed P j h = all_from P (units_in j.entries) j.entries h

pub all_settled : (P : JournalEntry → Type 0) (tid serial : Id) (outcome : Outcome) (moment : ℕ) (j : Journal) → AllByRecursion P j.entries → P (SettledEntry tid serial outcome moment) → AllByRecursion P (with_settled tid serial outcome moment j).entries
all_settled P tid serial outcome moment j h k = go (find_unit serial (units_in j.entries))
  where
    go : (o : Option RecoveryUnit) → AllByRecursion P (trimmed (elim o [ Some u ↦ with_entries (SettledEntry tid serial outcome moment ∷ []) j | None ↦ j ])).entries
    go (Some u) = all_trimmed P (with_entries (SettledEntry tid serial outcome moment ∷ []) j) (all_append P j.entries (SettledEntry tid serial outcome moment ∷ []) h (k, tt))
    go None = all_trimmed P j h

pub all_prepared : (P : JournalEntry → Type 0) (b : Branch) (j : Journal) → AllByRecursion P j.entries → P (PreparedEntry b.key.tid b.key.serial) → AllByRecursion P (with_prepared (Prepares b) j).entries
all_prepared P b j h k = go (find_unit b.key.serial (units_in j.entries))
  where
    go : (o : Option RecoveryUnit) → AllByRecursion P (let k : Journal = elim o [ Some u ↦ with_entries (PreparedEntry b.key.tid b.key.serial ∷ []) j | None ↦ j ] in k.entries)
    go (Some u) = all_append P j.entries (PreparedEntry b.key.tid b.key.serial ∷ []) h (k, tt)
    go None = h

-- Entries that settle or prepare a branch.

pub none_settles : (x : Id) (es : List JournalEntry) → is_settled_in x es ≡ false → AllByRecursion (λ (e : JournalEntry). is_settling x e ≡ false) es
none_settles x [] h = tt
none_settles x (e ∷ es) h = let parts = or_parts (is_settling x e) (is_settled_in x es) h in (parts.0, none_settles x es parts.1)

pub settled_by_none : (x : Id) (es : List JournalEntry) → AllByRecursion (λ (e : JournalEntry). is_settling x e ≡ false) es → is_settled_in x es ≡ false
settled_by_none x [] h = refl
settled_by_none x (e ∷ es) h = rw h.0 (settled_by_none x es h.1)

pub none_prepares : (x : Id) (es : List JournalEntry) → is_prepared_in x es ≡ false → AllByRecursion (λ (e : JournalEntry). is_preparing x e ≡ false) es
none_prepares x [] h = tt
none_prepares x (e ∷ es) h = let parts = or_parts (is_preparing x e) (is_prepared_in x es) h in (parts.0, none_prepares x es parts.1)

pub prepared_by_none : (x : Id) (es : List JournalEntry) → AllByRecursion (λ (e : JournalEntry). is_preparing x e ≡ false) es → is_prepared_in x es ≡ false
prepared_by_none x [] h = refl
prepared_by_none x (e ∷ es) h = rw h.0 (prepared_by_none x es h.1)

-- an entry of another branch neither settles nor prepares this one
pub other_settles : (x : Id) (e : JournalEntry) → same_id x (serial_in e) ≡ false → is_settling x e ≡ false
other_settles x (ChangeEntry tid serial file key before) h = refl
other_settles x (PreparedEntry tid serial) h = refl
other_settles x (SettledEntry tid serial outcome moment) h = h

pub other_prepares : (x : Id) (e : JournalEntry) → same_id x (serial_in e) ≡ false → is_preparing x e ≡ false
other_prepares x (ChangeEntry tid serial file key before) h = refl
other_prepares x (PreparedEntry tid serial) h = h
other_prepares x (SettledEntry tid serial outcome moment) h = refl
