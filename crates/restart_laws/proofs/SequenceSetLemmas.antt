-- Branches of one sequential file, once one of them set one position more, or cut the file.
use Rattle.std.proofs.Common.{◌≡◌, ℕ, suc, ◌+◌, ◌-◌, ◌≤◌, ◌&&◌, ◌||◌, not, Bool, true, false, cond, List, [], ◌∷◌, ◌++◌, length, map, take, None, refl, sym, ◌∙◌, ap, subst, arith, length-append, append-nil}
use Rattle.std.specs.List.{All, AllByRecursion}
use Rattle.std.specs.Ordering.{eq_by_cmp}
use Rattle.std.proofs.lemmas.List.{append_assoc}
use Rattle.std.proofs.lemmas.List.Elements.{All-cons, All-head, All-nil, All-tail}
use Rattle.file_base.specs.declared.head.FileHead.{FileHead}
use Rattle.vms_model.specs.Ids.{Id}
use Rattle.vms_model.specs.Keys.{Key, Number}
use Rattle.index_model.specs.records_model.Records.{Change, key_cmp}
use Rattle.index_model.specs.records_model.History.{LiveChanges, same_id, changes_key, with_change, with_changes}
use Rattle.index_model.proofs.records_model.RecordsLemmas.{same_key}
use Rattle.directory_model.specs.seq_file.Layout.{IsRecord, capacity}
use Rattle.directory_model.specs.seq_file.Placing.{buckets_for}
use Rattle.directory_model.specs.seq_file.Records.{map_of_list, list_set, slot_sizes}
use Rattle.directory_model.proofs.seq_file.MapLaws.{map_set}
use Rattle.directory_model.proofs.seq_file.RecordLaws.{record_at_push, list_set_none}
use Rattle.unit_laws.specs.Units.{Map, Represents, HasImages, HasLatest, SerialsDiffer, is_changed, is_of, latest_after, is_free, moves_end, end_is_free, with_key}
use Rattle.unit_laws.proofs.Tests.{and_first, and_second, not_true, or_first, or_second}
use Rattle.unit_laws.proofs.LiveLemmas.{clash, id_itself, free_changes, once_change}
use Rattle.unit_laws.proofs.RepresentLemmas.{change_keeps}
use Rattle.directory_model.specs.sequence_laws.Undoing.{GoesBack}
use Rattle.directory_model.specs.sequence_laws.Laws.{IsChangeOf}
use Rattle.directory_model.proofs.sequence_laws.ChangeLemmas.{nothing_goes_back, change_goes_back, change_beside_goes_back}
use Rattle.world_laws.specs.run_model.Operations.{removed}
use Rattle.directory_model.proofs.ReadingLists.{numbered}
use Rattle.directory_model.proofs.ReadingPlaces.{first_few}
use Rattle.restart_laws.proofs.ListLemmas.{all_as, both_as, change_all}

-- a branch has records to go back to
abbrev pub Goes : FileHead → List (List ℕ) → List Change → Type 0
Goes h now cs = (back : List (List ℕ)) × GoesBack h cs now back

-- Records of a sequential file that represent the committed ones, while these branches are unsettled, of which nothing is undone, and which all can go back.
pub record Holds (h : FileHead) (ls : List LiveChanges) (now : List (List ℕ)) (committed : Map) : Type 0 where
  pub represents : Represents ls (map_of_list now) committed
  pub goes : AllByRecursion (λ (l : LiveChanges). Goes h now l.changes) ls
  pub latest : AllByRecursion (λ (l : LiveChanges). HasLatest (map_of_list now) l.changes) ls
  pub differ : SerialsDiffer ls
  pub records : All (IsRecord h.mrs) now
  pub fits : buckets_for (capacity h) (slot_sizes now) ≤ h.alloc

-- a key that is free was changed by no other branch
free_of : (s : Id) (key : Key) (ls : List LiveChanges) → is_free s ls key ≡ true → AllByRecursion (λ (l : LiveChanges). same_id s l.serial ≡ false → changes_key key l.changes ≡ false) ls
free_of s key [] free = tt
free_of s key (l ∷ ls) free = step (same_id s l.serial) refl free (free_of s key ls)
  where
    none : (ks : List LiveChanges) → is_changed ks key ≡ false → AllByRecursion (λ (k : LiveChanges). same_id s k.serial ≡ false → changes_key key k.changes ≡ false) ks
    none [] e = tt
    none (k ∷ ks) e = ((λ other. or_first (changes_key key k.changes) (is_changed ks key) e), none ks (or_second (changes_key key k.changes) (is_changed ks key) e))

    step : (x : Bool) → same_id s l.serial ≡ x → cond x (not (is_changed ls key)) (not (changes_key key l.changes) && is_free s ls key) ≡ true
        → (is_free s ls key ≡ true → AllByRecursion (λ (k : LiveChanges). same_id s k.serial ≡ false → changes_key key k.changes ≡ false) ls)
        → AllByRecursion (λ (k : LiveChanges). same_id s k.serial ≡ false → changes_key key k.changes ≡ false) (l ∷ ls)
    step true is e later = ((λ other. let never : ⊥ = (let wrong : true ≡ false = sym is ∙ other in cc) in absurd never), none ls (not_true (is_changed ls key) e))
    step false is e later = ((λ other. not_true (changes_key key l.changes) (and_first _ _ e)), later (and_second (not (changes_key key l.changes)) (is_free s ls key) e))

-- nor was the end, where that is free
still_of : (s : Id) (ls : List LiveChanges) → end_is_free s ls ≡ true → AllByRecursion (λ (l : LiveChanges). same_id s l.serial ≡ false → moves_end l.changes ≡ false) ls
still_of s [] free = tt
still_of s (l ∷ ls) free = ((λ other. quiet (same_id s l.serial) (moves_end l.changes) (and_first _ _ free) other), still_of s ls (and_second (same_id s l.serial || not (moves_end l.changes)) (end_is_free s ls) free))
  where
    quiet : (a b : Bool) → (a || not b) ≡ true → a ≡ false → b ≡ false
    quiet true b e f = absurd cc
    quiet false true e f = absurd cc
    quiet false false e f = refl

-- what is wanted of another branch than the one that changes
abbrev Other : Id → Change → LiveChanges → Type 0
Other s c l = same_id s l.serial ≡ false → (changes_key c.key l.changes ≡ false) × (moves_end (c ∷ []) ≡ true → moves_end l.changes ≡ false)

others_of : (s : Id) (c : Change) (ls : List LiveChanges) → is_free s ls c.key ≡ true → (moves_end (c ∷ []) ≡ true → end_is_free s ls ≡ true) → AllByRecursion (Other s c) ls
others_of s c ls free ends = go (moves_end (c ∷ [])) refl
  where
    go : (x : Bool) → moves_end (c ∷ []) ≡ x → AllByRecursion (Other s c) ls
    go true is = both_as (λ (l : LiveChanges). same_id s l.serial ≡ false → changes_key c.key l.changes ≡ false) (λ (l : LiveChanges). same_id s l.serial ≡ false → moves_end l.changes ≡ false) (Other s c) ls
        (λ l key quiet other. (key other, λ e. quiet other)) (free_of s c.key ls free) (still_of s ls (ends is))
    go false is = all_as (λ (l : LiveChanges). same_id s l.serial ≡ false → changes_key c.key l.changes ≡ false) (Other s c) ls
        (λ l key other. (key other, λ e. let never : ⊥ = (let wrong : true ≡ false = sym e ∙ is in cc) in absurd never)) (free_of s c.key ls free)

-- a branch has records to go back to, and each key that it changed has one of its images: the latest one
abbrev Fit : FileHead → List (List ℕ) → List Change → Type 0
Fit h now cs = Goes h now cs × HasImages (map_of_list now) cs × HasLatest (map_of_list now) cs

-- what a branch left stands once it, or another branch, changed more
own_latest : (c : Change) (cs : List Change) (m : Map) → HasLatest m cs → HasLatest (with_key m c.key c.after) (c ∷ cs)
own_latest c cs m latest key changed = go (is_of key c) changed
  where
    go : (x : Bool) → (x || changes_key key cs) ≡ true → cond x c.after (m key) ≡ cond x c.after (latest_after cs key)
    go true e = refl
    go false e = latest key e

other_latest : (c : Change) (cs : List Change) (m : Map) → changes_key c.key cs ≡ false → HasLatest m cs → HasLatest (with_key m c.key c.after) cs
other_latest c cs m free latest key changed = go (is_of key c) refl
  where
    go : (x : Bool) → is_of key c ≡ x → cond x c.after (m key) ≡ latest_after cs key
    go true at = clash (changes_key key cs) changed (ap (λ (k : Key). changes_key k cs) (same_key key c.key at) ∙ free)
    go false at = latest key changed

-- One position more is set.
pub one_set : (h : FileHead) (s : Id) (c : Change) (n : ℕ) (ls : List LiveChanges) (now : List (List ℕ)) (committed : Map) → Holds h ls now committed → IsChangeOf c n now → is_free s ls c.key ≡ true → (moves_end (c ∷ []) ≡ true → end_is_free s ls ≡ true) →
    All (IsRecord h.mrs) (list_set n c.after now) → buckets_for (capacity h) (slot_sizes (list_set n c.after now)) ≤ h.alloc → Holds h (with_change s c ls) (list_set n c.after now) committed
one_set h s c n ls now committed holds next free ends records fits = record {
  represents = subst (λ (m : Map). Represents (with_change s c ls) m committed) (sym mapped)
      (change_keeps s c ls (map_of_list now) committed holds.represents (λ k at. subst (λ (q : Key). is_free s ls q ≡ true) (sym (same_key k c.key at)) free) (λ k at. found ∙ ap (map_of_list now) (sym (same_key k c.key at))));
  goes = change_all (Fit h now) (Goes h (list_set n c.after now)) s c ls holds.differ none (λ cs p. (p.0.0, change_goes_back h cs now p.0.0 c n p.0.1 p.2 next)) all others;
  latest = subst (λ (m : Map). AllByRecursion (λ (l : LiveChanges). HasLatest m l.changes) (with_change s c ls)) (sym mapped)
      (change_all (HasLatest (map_of_list now)) (HasLatest (with_key (map_of_list now) c.key c.after)) s c ls holds.differ none.2 (λ cs latest. own_latest c cs (map_of_list now) latest) holds.latest others_latest);
  differ = once_change s c ls holds.differ;
  records = records;
  fits = fits;
}
  where
    found : c.before ≡ map_of_list now c.key
    found = next.found ∙ ap (map_of_list now) (sym next.key)

    mapped : map_of_list (list_set n c.after now) ≡ with_key (map_of_list now) c.key c.after
    mapped = map_set n c.after now next.may ∙ λ i key. at key i
      where
        at : (key : Key) → (cond (eq_by_cmp key_cmp key (Number n)) c.after (map_of_list now key)) ≡ with_key (map_of_list now) c.key c.after key
        at key = ap (λ (k : Key). cond (eq_by_cmp key_cmp key k) c.after (map_of_list now key)) (sym next.key)

    none : Fit h now []
    none = ((now, nothing_goes_back h now holds.records holds.fits), (λ key changed. let never : ⊥ = cc in absurd never), (λ key changed. let never : ⊥ = cc in absurd never))

    all : AllByRecursion (λ (l : LiveChanges). Fit h now l.changes) ls
    all = both_as (λ (l : LiveChanges). Goes h now l.changes) (λ (l : LiveChanges). HasImages (map_of_list now) l.changes × HasLatest (map_of_list now) l.changes) (λ (l : LiveChanges). Fit h now l.changes) ls (λ l goes both. (goes, both.0, both.1)) holds.goes
        (both_as (λ (l : LiveChanges). HasImages (map_of_list now) l.changes) (λ (l : LiveChanges). HasLatest (map_of_list now) l.changes) (λ (l : LiveChanges). HasImages (map_of_list now) l.changes × HasLatest (map_of_list now) l.changes) ls
        (λ l images latest. (images, latest)) holds.represents.images holds.latest)

    others : AllByRecursion (λ (l : LiveChanges). same_id s l.serial ≡ false → Goes h (list_set n c.after now) l.changes) ls
    others = both_as (λ (l : LiveChanges). Fit h now l.changes) (Other s c) (λ (l : LiveChanges). same_id s l.serial ≡ false → Goes h (list_set n c.after now) l.changes) ls
        (λ l p wanted other. change_beside_goes_back h l.changes now p.0.0 c n p.0.1 p.1 next (subst (λ (k : Key). changes_key k l.changes ≡ false) next.key (wanted other).0) (wanted other).1 records fits) all (others_of s c ls free ends)

    others_latest : AllByRecursion (λ (l : LiveChanges). same_id s l.serial ≡ false → HasLatest (with_key (map_of_list now) c.key c.after) l.changes) ls
    others_latest = both_as (λ (l : LiveChanges). HasLatest (map_of_list now) l.changes) (Other s c) (λ (l : LiveChanges). same_id s l.serial ≡ false → HasLatest (with_key (map_of_list now) c.key c.after) l.changes) ls
        (λ l latest wanted other. other_latest c l.changes (map_of_list now) (wanted other).0 latest) holds.latest (others_of s c ls free ends)

-- A file is cut: its last position goes, again and again.

-- the end stays as free as it was, whatever the branch changes
end_stays : (s : Id) (c : Change) (ls : List LiveChanges) → end_is_free s (with_change s c ls) ≡ end_is_free s ls
end_stays s c [] = step (same_id s s) (id_itself s)
  where
    step : (x : Bool) → x ≡ true → ((x || not (moves_end (c ∷ []))) && true) ≡ true
    step true e = refl
    step false e = absurd cc
end_stays s c (l ∷ ls) = step (same_id s l.serial) refl (end_stays s c ls)
  where
    here : (y : Bool) → y ≡ true → ((y || not (moves_end (c ∷ l.changes))) && end_is_free s ls) ≡ ((y || not (moves_end l.changes)) && end_is_free s ls)
    here true e = refl
    here false e = absurd cc

    step : (x : Bool) → same_id s l.serial ≡ x → end_is_free s (with_change s c ls) ≡ end_is_free s ls → end_is_free s (cond x (record l { changes = c ∷ l.changes } ∷ ls) (l ∷ with_change s c ls)) ≡ end_is_free s (l ∷ ls)
    step true is later = here (same_id s l.serial) is
    step false is later = ap (λ (b : Bool). (same_id s l.serial || not (moves_end l.changes)) && b) later

ends_stay : (s : Id) (cs : List Change) (ls : List LiveChanges) → end_is_free s (with_changes s cs ls) ≡ end_is_free s ls
ends_stay s [] ls = refl
ends_stay s (c ∷ cs) ls = end_stays s c (with_changes s cs ls) ∙ ends_stay s cs ls

abbrev gone_from : ℕ → List (List ℕ) → List Change
gone_from p rs = map removed (numbered p rs)

pub all_cut : (h : FileHead) (s : Id) (ls : List LiveChanges) (front rs : List (List ℕ)) (p : ℕ) (committed : Map) → p ≡ length front + 1 → Holds h ls (front ++ rs) committed → AllByRecursion (λ (c : Change). is_free s ls c.key ≡ true) (gone_from p rs) →
    end_is_free s ls ≡ true → Holds h (with_changes s (gone_from p rs) ls) front committed
all_cut h s ls front [] p committed place holds free ends = subst (λ (x : List (List ℕ)). Holds h ls x committed) (append-nil front) holds
all_cut h s ls front (r ∷ rs) p committed place holds free ends =
    let whole : front ++ r ∷ rs ≡ (front ++ r ∷ []) ++ rs = sym (append_assoc front (r ∷ []) rs) in
    let size = length-append front (r ∷ []) in
    let later : Holds h (with_changes s (gone_from (suc p) rs) ls) (front ++ r ∷ []) committed = all_cut h s ls (front ++ r ∷ []) rs (suc p) committed (omega (arith, size)) (subst (λ (x : List (List ℕ)). Holds h ls x committed) whole holds) free.1 ends in
    let c : Change = removed (Number p, r) in
    let last : p ≡ length (front ++ r ∷ []) = omega (arith, size) in
    let left : list_set p None (front ++ r ∷ []) ≡ front = list_set_none p (front ++ r ∷ []) last ∙ front_of front r p place in
    subst (λ (x : List (List ℕ)). Holds h (with_change s c (with_changes s (gone_from (suc p) rs) ls)) x committed) left
    (one_set h s c p (with_changes s (gone_from (suc p) rs) ls) (front ++ r ∷ []) committed later
    (record { key = refl; found = sym ((record_at_push front p p r place).0 refl); may = (omega arith, last); long = λ old new was is. let never : ⊥ = cc in absurd never })
    (free_changes s (gone_from (suc p) rs) ls (Number p) ∙ free.0) (λ e. ends_stay s (gone_from (suc p) rs) ls ∙ ends)
    (subst (All (IsRecord h.mrs)) (sym left) (front_records front r later.records)) (subst (λ (x : List (List ℕ)). buckets_for (capacity h) (slot_sizes x) ≤ h.alloc) (sym left) (let few = first_few (capacity h) front (r ∷ []) in let fits = later.fits in omega arith)))
  where
    front_of : (front : List (List ℕ)) (r : List ℕ) (p : ℕ) → p ≡ length front + 1 → take (p - 1) (front ++ r ∷ []) ≡ front
    front_of front r p place = let at : p - 1 ≡ length front = omega (arith, place) in ap (λ n. take n (front ++ r ∷ [])) at ∙ taken front
      where
        taken : (xs : List (List ℕ)) → take (length xs) (xs ++ r ∷ []) ≡ xs
        taken [] = refl
        taken (x ∷ xs) = ap (λ ys. x ∷ ys) (taken xs)

    front_records : (front : List (List ℕ)) (r : List ℕ) → All (IsRecord h.mrs) (front ++ r ∷ []) → All (IsRecord h.mrs) front
    front_records [] r all = All-nil (IsRecord h.mrs)
    front_records (x ∷ xs) r all = All-cons (IsRecord h.mrs) x xs (All-head (IsRecord h.mrs) x (xs ++ r ∷ []) all) (front_records xs r (All-tail (IsRecord h.mrs) x (xs ++ r ∷ []) all))
