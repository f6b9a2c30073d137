-- While a node is up its unsettled branches hold what they changed, and are the units of its journal.
use Rattle.std.proofs.Common.{◌≡◌, ◌⊎◌, ℕ, List, [], ◌∷◌, ◌++◌, map, Bool, true, false, ◌||◌, Option, Some, None, if◌then◌else◌, refl, sym, ◌∙◌, ap, subst, inl, inr}
use Rattle.std.specs.List.{AllByRecursion}
use Rattle.std.specs.Str.{bytes_eq}
use Rattle.std.specs.Option.{option_map}
use Rattle.std.proofs.lemmas.Bool.{and_from, and_parts, both_ways}
use Rattle.std.proofs.lemmas.Slice.Eq.{bytes_eq-Decides}
use Rattle.vms_model.specs.Ids.{Id}
use Rattle.vms_model.specs.Keys.{Key}
use Rattle.run_model.specs.records_model.History.{same_id}
use Rattle.run_model.proofs.records_model.RecordsLemmas.{same_key}
use Rattle.run_model.specs.unit_laws.Journal.{Journal}
use Rattle.run_model.specs.unit_laws.JournalLaws.{HasNotes}
use Rattle.run_model.specs.Locks.{Lock, holder, is_lock_of, is_locked, not_locked, released, with_locks}
use Rattle.run_model.specs.World.{File, Node, find_file, with_file}
use Rattle.run_model.specs.Answers.{held_against, keys_refused}
use Rattle.run_model.specs.commit_protocol.World.{In}
use Rattle.world_laws.specs.Restarts.{AllNoted}
use Rattle.world_laws.proofs.IdLemmas.{id_is}
use Rattle.world_laws.proofs.FindLemmas.{changed_file as found_changed, other_file}
use Rattle.world_laws.proofs.AnswerLemmas.{neither}
use Rattle.world_laws.proofs.LockLemmas.{holds_it}
use Rattle.world_laws.proofs.FoundLemmas.{itself}

-- The history of a file of a directory.

-- what is found of a name, where a file was changed
pub file_after : (file other : List ℕ) (change : File → File) (fs : List (Option File)) → ((f : File) → (change f).name ≡ f.name) →
    find_file file (with_file other change fs) ≡ (if bytes_eq other file then option_map change (find_file file fs) else find_file file fs)
file_after file other change fs named = go (bytes_eq other file) refl
  where
    go : (b : Bool) → bytes_eq other file ≡ b → find_file file (with_file other change fs) ≡ (if b then option_map change (find_file file fs) else find_file file fs)
    go true t =
        let same = (bytes_eq-Decides other file).0 t in
        subst (λ x. find_file file (with_file x change fs) ≡ option_map change (find_file file fs)) (sym same) (found_changed file change fs named)
    go false t = other_file file other change fs named t

pub noted_at : (units : Journal) (file : List ℕ) (fs : List (Option File)) (f : File) → AllNoted units fs → find_file file fs ≡ Some f → HasNotes units f.name f.history
noted_at units file [] f h e = let none : ⊥ = cc in absurd none
noted_at units file (None ∷ fs) f h e = noted_at units file fs f h e
noted_at units file (Some g ∷ fs) f h e = go (bytes_eq file g.name) e (noted_at units file fs f h.1)
  where
    go : (b : Bool) → ◌≡◌ {A = Option File} (if b then Some g else find_file file fs) (Some f) → (find_file file fs ≡ Some f → HasNotes units f.name f.history) → HasNotes units f.name f.history
    go true k more = let same : g ≡ f = cc in subst (λ (x : File). HasNotes units x.name x.history) same h.0
    go false k more = more k

pub found_file_name : (file : List ℕ) (fs : List (Option File)) (f : File) → find_file file fs ≡ Some f → f.name ≡ file
found_file_name file [] f e = let none : ⊥ = cc in absurd none
found_file_name file (None ∷ fs) f e = found_file_name file fs f e
found_file_name file (Some g ∷ fs) f e = go (bytes_eq file g.name) refl e (found_file_name file fs f)
  where
    go : (b : Bool) → bytes_eq file g.name ≡ b → ◌≡◌ {A = Option File} (if b then Some g else find_file file fs) (Some f) → (find_file file fs ≡ Some f → f.name ≡ file) → f.name ≡ file
    go true t k more = let same : g ≡ f = cc in ap (λ (x : File). x.name) (sym same) ∙ sym ((bytes_eq-Decides file g.name).0 t)
    go false t k more = more k

-- Locks.

-- a key that is found has a lock, and one that is not has none
locked_found : (ls : List Lock) (file : List ℕ) (key : Key) (x : Id) → holder ls file key ≡ Some x → is_locked ls file key ≡ true
locked_found [] file key x e = let none : ⊥ = cc in absurd none
locked_found (l ∷ ls) file key x e = go (is_lock_of file key l) e (locked_found ls file key x)
  where
    go : (b : Bool) → ◌≡◌ {A = Option Id} (if b then Some l.by else holder ls file key) (Some x) → (holder ls file key ≡ Some x → is_locked ls file key ≡ true) → (b || is_locked ls file key) ≡ true
    go true k more = refl
    go false k more = more k

not_locked_found : (ls : List Lock) (file : List ℕ) (key : Key) → holder ls file key ≡ None → is_locked ls file key ≡ false
not_locked_found [] file key e = refl
not_locked_found (l ∷ ls) file key e = go (is_lock_of file key l) e (not_locked_found ls file key)
  where
    go : (b : Bool) → ◌≡◌ {A = Option Id} (if b then Some l.by else holder ls file key) None → (holder ls file key ≡ None → is_locked ls file key ≡ false) → (b || is_locked ls file key) ≡ false
    go true k more = let none : ⊥ = cc in absurd none
    go false k more = more k

module _ (serial : Id) (file : List ℕ) where
  -- a lock of this branch
  abbrev own : Key → Lock
  own k = record { file = file; key = k; by = serial }

  -- what others hold they hold still
  pub holder_more : (ks : List Key) (ls : List Lock) (other : List ℕ) (key : Key) (x : Id) → holder ls other key ≡ Some x → holder (with_locks serial file ks ls) other key ≡ Some x
  holder_more [] ls other key x e = e
  holder_more (k ∷ ks) ls other key x e = go (is_locked ls file k) refl (holder_more ks ls other key x e)
    where
      clash : is_locked ls file k ≡ false → is_lock_of other key (own k) ≡ true → ⊥
      clash free t =
          let parts = and_parts _ _ t in
          let same_file = (bytes_eq-Decides other file).0 parts.0 in
          let same = same_key key k parts.1 in
          both_ways _ free (subst (λ y. is_locked ls file y ≡ true) same (subst (λ y. is_locked ls y key ≡ true) same_file (locked_found ls other key x e)))

      at : (t : Bool) → is_lock_of other key (own k) ≡ t → is_locked ls file k ≡ false → holder (map own (not_locked ls file ks) ++ ls) other key ≡ Some x →
          ◌≡◌ {A = Option Id} (if t then Some serial else holder (map own (not_locked ls file ks) ++ ls) other key) (Some x)
      at true t free more = absurd (clash free t)
      at false t free more = more

      go : (b : Bool) → is_locked ls file k ≡ b → holder (map own (not_locked ls file ks) ++ ls) other key ≡ Some x → holder (map own (if b then not_locked ls file ks else k ∷ not_locked ls file ks) ++ ls) other key ≡ Some x
      go true t more = more
      go false t more = at (is_lock_of other key (own k)) refl t more

  among_own : (ks : List Key) (ls : List Lock) (key : Key) → holder ls file key ≡ Some serial → holder (map own ks ++ ls) file key ≡ Some serial
  among_own [] ls key e = e
  among_own (k ∷ ks) ls key e = go (is_lock_of file key (own k)) (among_own ks ls key e)
    where
      go : (t : Bool) → holder (map own ks ++ ls) file key ≡ Some serial → ◌≡◌ {A = Option Id} (if t then Some serial else holder (map own ks ++ ls) file key) (Some serial)
      go true more = refl
      go false more = more

  is_own : (key : Key) → is_lock_of file key (own key) ≡ true
  is_own key = and_from _ _ ((bytes_eq-Decides file file).1 refl) (itself key)

  one_of : (ks : List Key) (ls : List Lock) (key : Key) → In key ks → holder (map own ks ++ ls) file key ≡ Some serial
  one_of [] ls key i = absurd i
  one_of (k ∷ ks) ls key i = elim i [
    | inl same ↦ subst (λ y. holder (map own (y ∷ ks) ++ ls) file key ≡ Some serial) same (rw (is_own key) refl)
    | inr more ↦ go (is_lock_of file key (own k)) (one_of ks ls key more)
  ]
    where
      go : (t : Bool) → holder (map own ks ++ ls) file key ≡ Some serial → ◌≡◌ {A = Option Id} (if t then Some serial else holder (map own ks ++ ls) file key) (Some serial)
      go true more = refl
      go false more = more

  left_free : (ks : List Key) (ls : List Lock) (key : Key) → is_locked ls file key ≡ false → In key ks → In key (not_locked ls file ks)
  left_free [] ls key free i = absurd i
  left_free (k ∷ ks) ls key free i = go (is_locked ls file k) refl (left_free ks ls key free) i
    where
      go : (b : Bool) → is_locked ls file k ≡ b → (In key ks → In key (not_locked ls file ks)) → In key (k ∷ ks) → In key (if b then not_locked ls file ks else k ∷ not_locked ls file ks)
      go true t more i = elim i [ inl same ↦ absurd (both_ways _ free (subst (λ y. is_locked ls file y ≡ true) (sym same) t)) | inr rest ↦ more rest ]
      go false t more i = elim i [ inl same ↦ inl same | inr rest ↦ inr (more rest) ]

  -- a key that nobody else holds is this branch's once it holds it
  pub holder_own : (ks : List Key) (ls : List Lock) (key : Key) → In key ks → (holder ls file key ≡ None) ⊎ (holder ls file key ≡ Some serial) → holder (with_locks serial file ks ls) file key ≡ Some serial
  holder_own ks ls key i h = elim h [
    | inl free ↦ one_of (not_locked ls file ks) ls key (left_free ks ls key (not_locked_found ls file key free) i)
    | inr mine ↦ among_own (not_locked ls file ks) ls key mine
  ]

-- what another branch holds is held still, once one lets go
pub holder_left : (serial : Id) (ls : List Lock) (file : List ℕ) (key : Key) (x : Id) → same_id serial x ≡ false → holder ls file key ≡ Some x → holder (released serial ls) file key ≡ Some x
holder_left serial [] file key x other e = e
holder_left serial (l ∷ ls) file key x other e = go (is_lock_of file key l) refl e (holder_left serial ls file key x other)
  where
    kept : (b t : Bool) → same_id serial l.by ≡ b → is_lock_of file key l ≡ t → ◌≡◌ {A = Option Id} (if t then Some l.by else holder ls file key) (Some x) → (holder ls file key ≡ Some x → holder (released serial ls) file key ≡ Some x) →
        holder (if b then released serial ls else l ∷ released serial ls) file key ≡ Some x
    kept true true by t k more = let is : l.by ≡ x = cc in absurd (both_ways _ other (subst (λ y. same_id serial y ≡ true) is by))
    kept true false by t k more = more k
    kept false true by t k more = rw t k
    kept false false by t k more = rw t (more k)

    go : (t : Bool) → is_lock_of file key l ≡ t → ◌≡◌ {A = Option Id} (if t then Some l.by else holder ls file key) (Some x) → (holder ls file key ≡ Some x → holder (released serial ls) file key ≡ Some x) → holder (released serial (l ∷ ls)) file key ≡ Some x
    go t is k more = kept (same_id serial l.by) t refl is k more

-- keys that are refused to nobody are held by nobody else
abbrev pub IsFreeFor : List Lock → List ℕ → Id → Key → Type 0
IsFreeFor ls file serial key = (holder ls file key ≡ None) ⊎ (holder ls file key ≡ Some serial)

pub free_for : (n : Node) (serial : Id) (file : List ℕ) (ks : List Key) → keys_refused n (Some serial) file ks ≡ None → AllByRecursion (IsFreeFor n.volatile.locks file serial) ks
free_for n serial file [] e = tt
free_for n serial file (k ∷ ks) e =
    let parts = neither (held_against (Some serial) (holder n.volatile.locks file k)) (keys_refused n (Some serial) file ks) e in
    (one (holder n.volatile.locks file k) parts.0, free_for n serial file ks parts.1)
  where
    one : (o : Option Id) → held_against (Some serial) o ≡ None → (o ≡ None) ⊎ (o ≡ Some serial)
    one None e = inl refl
    one (Some by) e = inr (ap Some (sym (id_is serial by (holds_it serial by e))))
