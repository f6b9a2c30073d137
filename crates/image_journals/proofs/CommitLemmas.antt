-- Branches in a set, and entries that are commits.
use Rattle.std.proofs.Common.{◌≡◌, ℕ, suc, ◌+◌, ◌<◌, Bool, true, false, ◌||◌, ◌&&◌, List, [], ◌∷◌, ◌++◌, length, map, drop, get_or, drop-cons, append_assoc, Option, Some, None, refl, sym, ◌∙◌, ap, if◌then◌else◌, arith}
use Rattle.std.proofs.Math.Bool.{or_comm, or_assoc}
use Rattle.indexmap.specs.IndexSet.{insert_key}
use Rattle.vms_model.specs.Ids.{Id}
use Rattle.vms_base.specs.Ids.{serial_of}
use Rattle.recovery_model.specs.records_model.History.{same_id}
use Rattle.recovery_model.proofs.unit_laws.LiveLemmas.{id_is}
use Rattle.table_keys.specs.declared.key.BranchKey.{BranchKey}
use Rattle.vms_base.specs.declared.outcomes.Outcome.{Outcome}
use Rattle.vms_base.specs.declared.outcomes.Outcome.TheVariants.{Commit, Abort}
use Rattle.journal_format.specs.declared.head.EntryKind.{EntryKind}
use Rattle.journal_format.specs.declared.head.EntryKind.TheVariants.{Change, Prepared, Settled}
use Rattle.journal_format.specs.declared.head.EntryHead.{EntryHead}
use Rattle.recovery_model.specs.Places.{commits, committed, changed_by, places}
use Rattle.image_journals.specs.Headers.{header_by, header_told, is_commit_told, is_among}

behind : (s : Id) (ks : List BranchKey) (k : BranchKey) → is_among s (ks ++ k ∷ []) ≡ (same_id s (serial_of k.serial) || is_among s ks)
behind s [] k = refl
behind s (x ∷ ks) k =
    ap (λ b. same_id s (serial_of x.serial) || b) (behind s ks k) ∙ sym (or_assoc (same_id s (serial_of x.serial)) (same_id s (serial_of k.serial)) (is_among s ks)) ∙
    ap (λ b. b || is_among s ks) (or_comm (same_id s (serial_of x.serial)) (same_id s (serial_of k.serial))) ∙ or_assoc (same_id s (serial_of k.serial)) (same_id s (serial_of x.serial)) (is_among s ks)

-- a branch that is there already adds none
there : (s : Id) (ks : List BranchKey) (k : BranchKey) (b : Bool) → same_id s (serial_of k.serial) ≡ b → is_among (serial_of k.serial) ks ≡ true → is_among s ks ≡ (b || is_among s ks)
there s ks k true e h = ap (λ x. is_among x ks) (id_is s (serial_of k.serial) e) ∙ h
there s ks k false e h = refl

by_test : (s : Id) (ks : List BranchKey) (k : BranchKey) (b : Bool) → is_among (serial_of k.serial) ks ≡ b → is_among s (if b then ks else ks ++ k ∷ []) ≡ (same_id s (serial_of k.serial) || is_among s ks)
by_test s ks k true h = there s ks k (same_id s (serial_of k.serial)) refl h
by_test s ks k false h = behind s ks k

-- the branches of a set, after one is put in
pub among_put : (s : Id) (ks : List BranchKey) (k : BranchKey) → is_among s (insert_key (λ (a b : BranchKey). same_id (serial_of a.serial) (serial_of b.serial)) ks k) ≡ (same_id s (serial_of k.serial) || is_among s ks)
among_put s ks k = by_test s ks k (is_among (serial_of k.serial) ks) refl

-- Commits.

and_false : (b : Bool) → (b && false) ≡ false
and_false true = refl
and_false false = refl

and_true : (b : Bool) → (b && true) ≡ b
and_true true = refl
and_true false = refl

by_kind : (ok : ℕ → Bool) (k : EntryKind) (r : Id) (o : Option Outcome) (m : ℕ) (s : Id) → commits ok (header_by k r o m) s ≡ (same_id s r && is_commit_told ok (header_by k r o m))
by_kind ok Change r o m s = sym (and_false (same_id s r))
by_kind ok Prepared r o m s = sym (and_false (same_id s r))
by_kind ok Settled r (Some Commit) m s = refl
by_kind ok Settled r (Some Abort) m s = refl
by_kind ok Settled r None m s = sym (and_false (same_id s r))

-- a commit that counts is one of its own branch, and another entry is none
pub commits_own : (ok : ℕ → Bool) (e : EntryHead) (s : Id) → is_commit_told ok (header_told e) ≡ true → commits ok (header_told e) s ≡ same_id s (serial_of e.serial)
commits_own ok e s is = by_kind ok e.kind (serial_of e.serial) e.outcome e.moment.0 s ∙ ap (λ b. same_id s (serial_of e.serial) && b) is ∙ and_true (same_id s (serial_of e.serial))

pub commits_none : (ok : ℕ → Bool) (e : EntryHead) (s : Id) → is_commit_told ok (header_told e) ≡ false → commits ok (header_told e) s ≡ false
commits_none ok e s is = by_kind ok e.kind (serial_of e.serial) e.outcome e.moment.0 s ∙ ap (λ b. same_id s (serial_of e.serial) && b) is ∙ and_false (same_id s (serial_of e.serial))

-- the branches that were found, with one entry more
pub found_more : (a b c : Bool) (n : Bool) → n ≡ (a || b) → (n || c) ≡ (b || (a || c))
found_more true true c n e = ap (λ x. x || c) e
found_more true false c n e = ap (λ x. x || c) e
found_more false true c n e = ap (λ x. x || c) e
found_more false false c n e = ap (λ x. x || c) e

-- One entry of a loop.

in_front : (xs : List EntryHead) (i : ℕ) (x : EntryHead) → i < length xs → x ≡ get_or xs i x → drop i xs ≡ x ∷ drop (i + 1) xs
in_front xs i x lt at = let one : suc i ≡ i + 1 = omega arith in drop-cons xs i x lt ∙ (λ k. sym at k ∷ drop (one k) xs)

pub one_in_front : (ok : ℕ → Bool) (xs : List EntryHead) (i : ℕ) (x : EntryHead) (s : Id) → i < length xs → x ≡ get_or xs i x →
    committed ok (map header_told (drop i xs)) s ≡ (commits ok (header_told x) s || committed ok (map header_told (drop (i + 1) xs)) s)
one_in_front ok xs i x s lt at = ap (λ (ys : List EntryHead). committed ok (map header_told ys) s) (in_front xs i x lt at)

-- the places with that of an entry, where it is one
pub place_next : (p : Id → Bool) (xs : List EntryHead) (i place : ℕ) (x : EntryHead) (old new : List ℕ) → i < length xs → x ≡ get_or xs i x → place ≡ i →
    new ≡ (if changed_by p (header_told x) then old ++ place ∷ [] else old) → new ++ places p (map header_told (drop (i + 1) xs)) (i + 1) ≡ old ++ places p (map header_told (drop i xs)) i
place_next p xs i place x old new lt at same is =
    ap (λ (ns : List ℕ). ns ++ places p (map header_told (drop (i + 1) xs)) (i + 1)) is ∙ go (changed_by p (header_told x)) (places p (map header_told (drop (i + 1) xs)) (i + 1)) ∙
    sym (ap (λ (ys : List EntryHead). old ++ places p (map header_told ys) i) (in_front xs i x lt at))
  where
    go : (b : Bool) (later : List ℕ) → (if b then old ++ place ∷ [] else old) ++ later ≡ old ++ (if b then i ∷ later else later)
    go true later = append_assoc old (place ∷ []) later ∙ ap (λ (n : ℕ). old ++ n ∷ later) same
    go false later = refl
