-- Keys that no other branch holds are free.
use Rattle.std.proofs.Common.{◌≡◌, ℕ, List, [], ◌∷◌, Bool, true, false, not, ◌&&◌, Some, None, if◌then◌else◌, refl, sym, subst}
use Rattle.std.specs.List.{AllByRecursion}
use Rattle.std.proofs.lemmas.Bool.{both_ways}
use Rattle.vms_model.specs.Ids.{Id}
use Rattle.vms_model.specs.Keys.{Key}
use Rattle.run_model.specs.transcript_model.Lines as line
use Rattle.run_model.specs.transcript_model.Lines.{Line}
use Rattle.run_model.specs.records_model.History.{LiveChanges, changes_key, same_id}
use Rattle.run_model.specs.unit_laws.Units.{SerialsDiffer, is_changed, is_free}
use Rattle.run_model.specs.Locks.{Lock, holder}
use Rattle.run_model.specs.Answers.{held_against, keys_refused}
use Rattle.world_laws.specs.Restarts.{UnlockedIsFree, HeldFree}
use Rattle.world_laws.proofs.IdLemmas.{id_is}
use Rattle.world_laws.proofs.AnswerLemmas.{neither, not_refused}

-- the branch that holds a key which nobody refuses to this one is this one
pub holds_it : (serial by : Id) → held_against (Some serial) (Some by) ≡ None → same_id serial by ≡ true
holds_it serial by e = go (same_id serial by) (not_refused (not (same_id serial by)) (line.RecordLocked by) e)
  where
    go : (b : Bool) → not b ≡ false → b ≡ true
    go true k = refl
    go false k = let none : ⊥ = cc in absurd none

module _ (locks : List Lock) (file : List ℕ) (key : Key) (serial : Id) (e : held_against (Some serial) (holder locks file key) ≡ None) where
  -- a branch that changed the key is this one
  changed_by : (l : LiveChanges) → (changes_key key l.changes ≡ true → holder locks file key ≡ Some l.serial) → changes_key key l.changes ≡ true → same_id serial l.serial ≡ true
  changed_by l held c = holds_it serial l.serial (subst (λ o. held_against (Some serial) o ≡ None) (held c) e)

  not_changed : (l : LiveChanges) → (changes_key key l.changes ≡ true → holder locks file key ≡ Some l.serial) → same_id serial l.serial ≡ false → changes_key key l.changes ≡ false
  not_changed l held other = go (changes_key key l.changes) refl
    where
      go : (b : Bool) → changes_key key l.changes ≡ b → b ≡ false
      go true c = absurd (both_ways _ other (changed_by l held c))
      go false c = refl

  none_changed : (ls : List LiveChanges) → AllByRecursion (λ (l : LiveChanges). (k : Key) → changes_key k l.changes ≡ true → holder locks file k ≡ Some l.serial) ls → AllByRecursion (λ (l : LiveChanges). same_id serial l.serial ≡ false) ls →
      is_changed ls key ≡ false
  none_changed [] held other = refl
  none_changed (l ∷ ls) held other = rw (not_changed l (held.0 key) other.0) (none_changed ls held.1 other.1)

  same_others : (q : Id) (ls : List LiveChanges) → same_id serial q ≡ true → AllByRecursion (λ (k : LiveChanges). same_id q k.serial ≡ false) ls → AllByRecursion (λ (l : LiveChanges). same_id serial l.serial ≡ false) ls
  same_others q ls t h = subst (λ x. AllByRecursion (λ (k : LiveChanges). same_id x k.serial ≡ false) ls) (sym (id_is serial q t)) h

  pub free : (ls : List LiveChanges) → AllByRecursion (λ (l : LiveChanges). (k : Key) → changes_key k l.changes ≡ true → holder locks file k ≡ Some l.serial) ls → SerialsDiffer ls → is_free serial ls key ≡ true
  free [] held differ = refl
  free (l ∷ ls) held differ = go (same_id serial l.serial) refl (free ls held.1 differ.1)
    where
      go : (b : Bool) → same_id serial l.serial ≡ b → is_free serial ls key ≡ true → (if b then not (is_changed ls key) else (not (changes_key key l.changes) && is_free serial ls key)) ≡ true
      go true t more = rw (none_changed ls held.1 (same_others l.serial ls t differ.0)) refl
      go false t more = rw (not_changed l (held.0 key) t) more

pub unlocked_is_free : UnlockedIsFree
unlocked_is_free locks file ls serial key held differ e = free locks file key serial e ls held differ

pub held_free : HeldFree
held_free n file ls serial [] held differ e = tt
held_free n file ls serial (k ∷ ks) held differ e =
    let parts = neither (held_against (Some serial) (holder n.volatile.locks file k)) (keys_refused n (Some serial) file ks) e in
    (free n.volatile.locks file k serial parts.0 ls held differ, held_free n file ls serial ks held differ parts.1)
