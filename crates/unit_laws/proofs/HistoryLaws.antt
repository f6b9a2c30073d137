-- The laws of several unsettled branches, said of a file's history.
use Rattle.std.proofs.Common.{◌≡◌, ℕ, Bool, true, false, cond, List, [], ◌∷◌, Option, refl, sym, ◌∙◌, ap, subst, inl, inr, ◌||◌, ◌&&◌, not}
use Rattle.std.specs.List.{AllByRecursion}
use Rattle.std.specs.FinMap.{get}
use Rattle.tree_model.specs.vms_model.Ids.{Id}
use Rattle.tree_model.specs.vms_model.Keys.{Key}
use Rattle.tree_model.specs.vms_model.Transactions.{Commit, Abort}
use Rattle.tree_model.specs.records_model.Records.{Change, applied}
use Rattle.tree_model.specs.records_model.History.{LiveChanges, same_id, changes_key, with_change, without, changes_by, on_top, current, records, changed_with, settled_with}
use Rattle.unit_laws.specs.Units.{Map, map_in, is_of, with_key, earliest_before, latest_after, with_after_images, with_before_images, is_changed, Apart, is_free, HasLatest, Represents}
use Rattle.tree_model.proofs.records_model.RecordsLemmas.{get-set_key, same_key}
use Rattle.unit_laws.specs.Laws.{AbortsOne, CommitsOne, ChangesOne, ChangesMore, UndoesOne, Aborted, Committed, UndoneOf}
use Rattle.unit_laws.proofs.Tests.{both_ways, never, or_one, or_other, and_first, and_second, not_true, passed}
use Rattle.unit_laws.proofs.LiveLemmas.{free_changes}
use Rattle.unit_laws.proofs.RestoredLemmas.{changed_of}
use Rattle.unit_laws.proofs.RepresentLemmas.{abort_keeps, commit_keeps, change_keeps}
use Rattle.unit_laws.proofs.CurrentLemmas.{applied_at, current_without, current_moved, current_change, restored_of}

abbrev AllLatest : Map → List LiveChanges → Type 0
AllLatest m ls = AllByRecursion (λ (l : LiveChanges). HasLatest m l.changes) ls

latest_kept : (cs : List Change) (m n : Map) → ((k : Key) → changes_key k cs ≡ true → n k ≡ m k) → HasLatest m cs → HasLatest n cs
latest_kept cs m n same is k here = same k here ∙ is k here

latest_same : (ls : List LiveChanges) (m n : Map) → ((k : Key) → is_changed ls k ≡ true → n k ≡ m k) → AllLatest m ls → AllLatest n ls
latest_same [] m n same h = tt
latest_same (l ∷ ls) m n same h = (latest_kept l.changes m n (λ k here. same k (or_one _ _ here)) h.0, latest_same ls m n (λ k here. same k (or_other (changes_key k l.changes) _ here)) h.1)

latest_others : (s : Id) (ls : List LiveChanges) (m n : Map) → Apart ls → ((k : Key) → changes_key k (changes_by s ls) ≡ false → n k ≡ m k) → AllLatest m ls → AllLatest n (without s ls)
latest_others s [] m n apart same h = tt
latest_others s (l ∷ ls) m n apart same h = step (same_id s l.serial) same (λ g. latest_others s ls m n apart.1 g h.1)
  where
    step : (here : Bool) → ((k : Key) → changes_key k (cond here l.changes (changes_by s ls)) ≡ false → n k ≡ m k) → (((k : Key) → changes_key k (changes_by s ls) ≡ false → n k ≡ m k) → AllLatest n (without s ls)) → AllLatest n (cond here ls (l ∷ without s ls))
    step true g later = latest_same ls m n (λ k mine. elim (both_ways (changes_key k l.changes)) [ inl here ↦ absurd (never _ mine (apart.0 k here)) | inr not ↦ g k not ]) h.1
    step false g later = (
      latest_kept l.changes m n (λ k mine. elim (both_ways (changes_key k (changes_by s ls))) [ inl here ↦ absurd (never _ (changed_of s ls k here) (apart.0 k mine)) | inr not ↦ g k not ]) h.0,
      later g,
    )

latest_of : (s : Id) (ls : List LiveChanges) (m : Map) → AllLatest m ls → HasLatest m (changes_by s ls)
latest_of s [] m all = λ k here. absurd cc
latest_of s (l ∷ ls) m all = pick (same_id s l.serial) (latest_of s ls m all.1)
  where
    pick : (at : Bool) → HasLatest m (changes_by s ls) → HasLatest m (cond at l.changes (changes_by s ls))
    pick true later = all.0
    pick false later = later

-- a branch is aborted: its keys have again their earliest before images, and all other keys what they had
pub aborts_one : AbortsOne
aborts_one h s moment orderly = go (changes_by s h.live) refl
  where
    represents : Represents h.live (map_in (current h)) (map_in (records h))
    represents = orderly.represents

    back : (key : Key) → get (on_top (without s h.live) (records h)) key ≡ with_before_images (changes_by s h.live) (map_in (current h)) key
    back key = current_without s h.live (records h) key represents.apart ∙ pick (changes_key key (changes_by s h.live)) (λ here. sym (represents.restores key) ∙ restored_of s h.live key (get (current h) key) represents.apart here)
      where
        pick : (x : Bool) → (x ≡ true → get (records h) key ≡ earliest_before (changes_by s h.live) key) → cond x (get (records h) key) (get (current h) key) ≡ cond x (earliest_before (changes_by s h.live) key) (get (current h) key)
        pick true e = e refl
        pick false e = refl

    same : (λ (key : Key). get (on_top (without s h.live) (records h)) key) ≡ with_before_images (changes_by s h.live) (map_in (current h))
    same = λ i key. back key i

    orderly_after : Represents (without s h.live) (map_in (on_top (without s h.live) (records h))) (map_in (records h))
    orderly_after = subst (λ (m : Map). Represents (without s h.live) m (map_in (records h))) (sym same) (abort_keeps s h.live (map_in (current h)) (map_in (records h)) represents)

    newest : AllLatest (map_in (on_top (without s h.live) (records h))) (without s h.live)
    newest = latest_others s h.live (map_in (current h)) (map_in (on_top (without s h.live) (records h))) represents.apart (λ k not. back k ∙ passed (changes_key k (changes_by s h.live)) _ _ not) orderly.latest

    go : (cs : List Change) → changes_by s h.live ≡ cs → Aborted h cs (settled_with s Abort moment cs h)
    go [] is = record { records = refl; current = λ key. refl; orderly = orderly }
    go (c ∷ cs) is = record {
      records = refl;
      current = λ key. back key ∙ ap (λ (ds : List Change). with_before_images ds (map_in (current h)) key) is;
      orderly = record { represents = orderly_after; latest = newest };
    }

-- a branch is committed: all keys have what they had, and its latest after images are committed
pub commits_one : CommitsOne
commits_one h s moment orderly = go (changes_by s h.live) refl
  where
    represents : Represents h.live (map_in (current h)) (map_in (records h))
    represents = orderly.represents

    moved : (key : Key) → get (on_top (without s h.live) (applied (changes_by s h.live) (records h))) key ≡ get (current h) key
    moved key = current_moved s h.live (records h) key represents.apart

    put : (λ (key : Key). get (applied (changes_by s h.live) (records h)) key) ≡ with_after_images (changes_by s h.live) (map_in (records h))
    put = λ i key. applied_at (changes_by s h.live) (records h) key i

    keeps : Represents (without s h.live) (map_in (current h)) (with_after_images (changes_by s h.live) (map_in (records h)))
    keeps = commit_keeps s h.live (map_in (current h)) (map_in (records h)) represents (latest_of s h.live (map_in (current h)) orderly.latest)

    go : (cs : List Change) → changes_by s h.live ≡ cs → Committed h cs (settled_with s Commit moment cs h)
    go [] is = record { records = λ key. refl; current = λ key. refl; orderly = orderly }
    go (c ∷ cs) is = record {
      records = λ key. applied_at (c ∷ cs) (records h) key;
      current = λ key. again key;
      orderly = record { represents = after; latest = newest };
    }
      where
        again : (key : Key) → get (on_top (without s h.live) (applied (c ∷ cs) (records h))) key ≡ get (current h) key
        again = subst (λ (ds : List Change). (key : Key) → get (on_top (without s h.live) (applied ds (records h))) key ≡ get (current h) key) is moved

        same : (λ (key : Key). get (on_top (without s h.live) (applied (c ∷ cs) (records h))) key) ≡ map_in (current h)
        same = λ i key. again key i

        put_all : (λ (key : Key). get (applied (c ∷ cs) (records h)) key) ≡ with_after_images (changes_by s h.live) (map_in (records h))
        put_all = subst (λ (ds : List Change). (λ (key : Key). get (applied ds (records h)) key) ≡ with_after_images (changes_by s h.live) (map_in (records h))) is put

        at_records : Represents (without s h.live) (map_in (current h)) (map_in (applied (c ∷ cs) (records h)))
        at_records = subst (λ (m : Map). Represents (without s h.live) (map_in (current h)) m) (sym put_all) keeps

        after : Represents (without s h.live) (map_in (on_top (without s h.live) (applied (c ∷ cs) (records h)))) (map_in (applied (c ∷ cs) (records h)))
        after = subst (λ (m : Map). Represents (without s h.live) m (map_in (applied (c ∷ cs) (records h)))) (sym same) at_records

        newest : AllLatest (map_in (on_top (without s h.live) (applied (c ∷ cs) (records h)))) (without s h.live)
        newest = latest_others s h.live (map_in (current h)) (map_in (on_top (without s h.live) (applied (c ∷ cs) (records h)))) represents.apart (λ k not. again k) orderly.latest

latest_more : (c : Change) (cs : List Change) (m : Map) → HasLatest m cs → HasLatest (with_key m c.key c.after) (c ∷ cs)
latest_more c cs m is k here = step (is_of k c) here
  where
    step : (x : Bool) → (x || changes_key k cs) ≡ true → cond x c.after (m k) ≡ cond x c.after (latest_after cs k)
    step true h = refl
    step false h = is k h

latest_change : (s : Id) (c : Change) (ls : List LiveChanges) (m : Map) → ((k : Key) → is_of k c ≡ true → is_free s ls k ≡ true) → AllLatest m ls → AllLatest (with_key m c.key c.after) (with_change s c ls)
latest_change s c [] m free all = (latest_more c [] m (λ k here. absurd cc), tt)
latest_change s c (l ∷ ls) m free all = step (same_id s l.serial) free (λ f. latest_change s c ls m f all.1)
  where
    other : (k : Key) → is_of k c ≡ false → with_key m c.key c.after k ≡ m k
    other k not = passed (is_of k c) _ _ not

    step : (here : Bool) → ((k : Key) → is_of k c ≡ true → cond here (not (is_changed ls k)) (not (changes_key k l.changes) && is_free s ls k) ≡ true)
        → (((k : Key) → is_of k c ≡ true → is_free s ls k ≡ true) → AllLatest (with_key m c.key c.after) (with_change s c ls)) → AllLatest (with_key m c.key c.after) (cond here (record l { changes = c ∷ l.changes } ∷ ls) (l ∷ with_change s c ls))
    step true f later = (latest_more c l.changes m all.0, latest_same ls m (with_key m c.key c.after) (λ k mine. elim (both_ways (is_of k c)) [ inl at ↦ absurd (never _ mine (not_true _ (f k at))) | inr not ↦ other k not ]) all.1)
    step false f later = (
      latest_kept l.changes m (with_key m c.key c.after) (λ k mine. elim (both_ways (is_of k c)) [ inl at ↦ absurd (never _ mine (not_true _ (and_first _ _ (f k at)))) | inr not ↦ other k not ]) all.0,
      later (λ k at. and_second (not (changes_key k l.changes)) _ (f k at)),
    )

-- a key that is free for a branch is changed by it
pub changes_one : ChangesOne
changes_one h s c orderly free found = record {
  records = refl;
  current = at;
  orderly = record { represents = after; latest = newest };
}
  where
    at : (key : Key) → get (on_top (with_change s c h.live) (records h)) key ≡ with_key (map_in (current h)) c.key c.after key
    at key = current_change s c h.live (records h) key (free key)

    same : (λ (key : Key). get (on_top (with_change s c h.live) (records h)) key) ≡ with_key (map_in (current h)) c.key c.after
    same = λ i key. at key i

    noted : (key : Key) → is_of key c ≡ true → c.before ≡ get (current h) key
    noted key here = found ∙ ap (λ (k : Key). get (current h) k) (sym (same_key key c.key here))

    after : Represents (with_change s c h.live) (map_in (on_top (with_change s c h.live) (records h))) (map_in (records h))
    after = subst (λ (m : Map). Represents (with_change s c h.live) m (map_in (records h))) (sym same) (change_keeps s c h.live (map_in (current h)) (map_in (records h)) orderly.represents free noted)

    newest : AllLatest (map_in (on_top (with_change s c h.live) (records h))) (with_change s c h.live)
    newest = subst (λ (m : Map). AllLatest m (with_change s c h.live)) (sym same) (latest_change s c h.live (map_in (current h)) free orderly.latest)

-- and so are several, one after the other
pub changes_more : ChangesMore
changes_more h s [] orderly free found = record { records = refl; current = λ key. refl; orderly = orderly }
changes_more h s (c ∷ cs) orderly free found =
    let before = changes_more h s cs orderly free.1 found.1 in
    let one = changes_one (changed_with s cs h) s c before.orderly (λ key is. free_changes s cs h.live key ∙ ap (is_free s h.live) (same_key key c.key is) ∙ free.0) (found.0 ∙ sym (before.current c.key)) in
    record {
      records = refl;
      current = λ key. one.current key ∙ ap (λ (v : Option (List ℕ)). cond (is_of key c) c.after v) (before.current key) ∙ sym (get-set_key (applied cs (current h)) c.key key c.after);
      orderly = one.orderly;
    }

-- a branch is undone whole and settled, whatever part of it was undone before
pub undoes_one : UndoesOne
undoes_one h s moment m represents = go (changes_by s h.live) refl
  where
    after : Represents (without s h.live) (with_before_images (changes_by s h.live) m) (map_in (records h))
    after = abort_keeps s h.live m (map_in (records h)) represents

    go : (cs : List Change) → changes_by s h.live ≡ cs → UndoneOf h m cs (settled_with s Abort moment cs h)
    go [] is = record { records = refl; represents = represents }
    go (c ∷ cs) is = record { records = refl; represents = subst (λ (ds : List Change). Represents (without s h.live) (with_before_images ds m) (map_in (records h))) is after }
