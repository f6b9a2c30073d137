-- That changes of a branch follow one another and leave a file's end alone, and that one branch at most moved it, act by act.
use Rattle.std.proofs.Common.{◌≡◌, ℕ, List, [], ◌∷◌, ◌++◌, map, drop, Bool, true, false, ◌||◌, Option, Some, None, if◌then◌else◌, refl, sym, ◌∙◌, ap, subst, inl, inr}
use Rattle.std.specs.Prelude.{◌-◌}
use Rattle.std.specs.FinMap.{entries, entries_sorted, get}
use Rattle.std.specs.FinMap.Entries.{find}
use Rattle.std.specs.List.{AllByRecursion}
use Rattle.std.specs.Option.{is_none}
use Rattle.std.specs.Ordering.{eq_by_cmp}
use Rattle.std.proofs.lemmas.Bool.{both_ways, cond_both, false_from_ne_true}
use Rattle.std.proofs.lemmas.List.Folds.{list_any-append}
use Rattle.vms_model.specs.Ids.{Id}
use Rattle.vms_model.specs.Keys.{Key, End}
use Rattle.vms_model.specs.Transactions.{Outcome, Commit, Abort}
use Rattle.run_model.specs.script_model.Statements.{Operation, Put, Update, Delete, Truncate, Get, Next}
use Rattle.run_model.specs.records_model.Records.{Change, Found, Records, applied, key_cmp}
use Rattle.run_model.specs.records_model.History.{History, LiveChanges, changed_with, changes_by, changes_key, current, records, same_id, settled_at, settled_with, with_changes, without}
use Rattle.run_model.proofs.records_model.RecordsLemmas.{same_key}
use Rattle.run_model.specs.unit_laws.Units.{HasLatest, IsImage, IsOrderly, Map, OneMovesEnd, SerialsDiffer, earliest_before, end_is_free, is_free, is_of, latest_after, map_in, moves_end}
use Rattle.run_model.proofs.unit_laws.CurrentLemmas.{applied_at}
use Rattle.run_model.proofs.unit_laws.LiveLemmas.{others_left}
use Rattle.run_model.proofs.unit_laws.EndLemmas.{changes_keep_end, settles_keep_end}
use Rattle.run_model.proofs.unit_laws.HistoryLaws.{aborts_one, changes_more, commits_one}
use Rattle.run_model.proofs.unit_laws.Tests.{or_neither, or_one, or_other}
use Rattle.run_model.specs.World.{File, FollowOneAnother, HasPlainEnd, OneMovesEndOf, Organization, Sequential, Relative, Indexed, leaving, live_leaving}
use Rattle.run_model.specs.Operations.{changes_of, count_of, current_records, data_refused, key_put, missing, removed, update_refused}
use Rattle.world_laws.proofs.IdLemmas.{id_is, id_other}
use Rattle.world_laws.proofs.HistoryLemmas.{by_settled, by_with_changes}
use Rattle.world_laws.proofs.FoundLemmas.{all_got, dropped, itself, sorted_in}
use Rattle.world_laws.proofs.HalfLemmas.{by_leaving, half, keys_leaving, now_leaving}
use Rattle.world_laws.specs.Nodes.{IsPlain}

-- a branch that is settled has no changes any more that are not
pub by_others : (serial : Id) (ls : List LiveChanges) → AllByRecursion (λ (l : LiveChanges). same_id l.serial serial ≡ false) ls → changes_by serial ls ≡ []
by_others serial [] h = refl
by_others serial (l ∷ ls) h = rw (id_other l.serial serial h.0) (by_others serial ls h.1)

pub own_settled : (serial : Id) (outcome : Outcome) (moment : ℕ) (h : History) → SerialsDiffer h.live → changes_by serial (settled_at serial outcome moment h).live ≡ []
own_settled serial outcome moment h differ = go (changes_by serial h.live) refl
  where
    go : (cs : List Change) → changes_by serial h.live ≡ cs → changes_by serial (settled_with serial outcome moment cs h).live ≡ []
    go [] is = is
    go (c ∷ cs) is = by_others serial (without serial h.live) (others_left serial h.live differ)

-- Changes.

-- keys that are not the file's end
abbrev pub ArePlain : List Change → Type 0
ArePlain cs = AllByRecursion (λ (c : Change). eq_by_cmp key_cmp End c.key ≡ false) cs

pub plain_of : (cs : List Change) → FollowOneAnother cs → ArePlain cs
plain_of [] h = tt
plain_of (c ∷ cs) h = (h.0, plain_of cs h.2)

pub no_end : (cs : List Change) → ArePlain cs → changes_key End cs ≡ false
no_end [] h = refl
no_end (c ∷ cs) h = rw h.0 (no_end cs h.1)

-- what changes on top of others leave at a key
latest_append : (cs ds : List Change) (key : Key) → latest_after (cs ++ ds) key ≡ (if changes_key key cs then latest_after cs key else latest_after ds key)
latest_append [] ds key = refl
latest_append (c ∷ cs) ds key = go (is_of key c) (latest_append cs ds key)
  where
    go : (t : Bool) → latest_after (cs ++ ds) key ≡ (if changes_key key cs then latest_after cs key else latest_after ds key) →
        (if t then c.after else latest_after (cs ++ ds) key) ≡ (if (t || changes_key key cs) then (if t then c.after else latest_after cs key) else latest_after ds key)
    go true more = refl
    go false more = more

follow_more : (cs old : List Change) (m : Records) → ArePlain cs → Found cs m → HasLatest (map_in m) old → FollowOneAnother old → FollowOneAnother (cs ++ old)
follow_more [] old m plain found latest h = h
follow_more (c ∷ cs) old m plain found latest h = (plain.0, before (changes_key c.key cs) (changes_key c.key old) refl refl, follow_more cs old m plain.1 found.1 latest h)
  where
    finds : (a : Bool) → changes_key c.key cs ≡ a → c.before ≡ (if a then latest_after cs c.key else get m c.key)
    finds a e = found.0 ∙ applied_at cs m c.key ∙ ap (λ b. if b then latest_after cs c.key else get m c.key) e

    before : (a b : Bool) → changes_key c.key cs ≡ a → changes_key c.key old ≡ b → changes_key c.key (cs ++ old) ≡ true → c.before ≡ latest_after (cs ++ old) c.key
    before true b e f k = finds true e ∙ sym (latest_append cs old c.key ∙ ap (λ b. if b then latest_after cs c.key else latest_after old c.key) e)
    before false true e f k = finds false e ∙ latest c.key f ∙ sym (latest_append cs old c.key ∙ ap (λ b. if b then latest_after cs c.key else latest_after old c.key) e)
    before false false e f k =
        let none : false ≡ true = sym (or_neither _ _ e f) ∙ sym (list_any-append (λ (d : Change). eq_by_cmp key_cmp c.key d.key) cs old) ∙ k in
        let never : ⊥ = cc in absurd never

-- Files.

pub plain_file : (f : File) → HasPlainEnd f → IsPlain f.history
plain_file f h = record { follow = λ x. go x f.history.live h.follow; absent = h.absent }
  where
    go : (x : Id) (ls : List LiveChanges) → AllByRecursion (λ (l : LiveChanges). FollowOneAnother l.changes) ls → FollowOneAnother (changes_by x ls)
    go x [] k = tt
    go x (l ∷ ls) k = cond_both (same_id x l.serial) l.changes (changes_by x ls) FollowOneAnother (λ t. k.0) (λ t. go x ls k.1)

pub latest_of : (x : Id) (ls : List LiveChanges) (m : Map) → AllByRecursion (λ (l : LiveChanges). HasLatest m l.changes) ls → HasLatest m (changes_by x ls)
latest_of x [] m h = λ key e. let none : ⊥ = cc in absurd none
latest_of x (l ∷ ls) m h = cond_both (same_id x l.serial) l.changes (changes_by x ls) (HasLatest m) (λ t. h.0) (λ t. latest_of x ls m h.1)

module _ (h : History) (p : IsPlain h) (o : IsOrderly h) where
  -- changes that leave the end alone leave what stands there
  end_applied : (cs : List Change) → ArePlain cs → get (applied cs (current h)) End ≡ None
  end_applied cs plain = applied_at cs (current h) End ∙ ap (λ b. if b then latest_after cs End else get (current h) End) (no_end cs plain) ∙ p.absent

  pub changed_plain : (serial : Id) (cs : List Change) → ArePlain cs → AllByRecursion (λ (c : Change). is_free serial h.live c.key ≡ true) cs → Found cs (current h) → IsPlain (changed_with serial cs h)
  changed_plain serial cs plain free found = record {
    follow = λ x. subst FollowOneAnother (sym (by_with_changes x serial cs h.live)) (of x (same_id x serial));
    absent = (changes_more h serial cs o free found).current End ∙ end_applied cs plain;
  }
    where
      of : (x : Id) (t : Bool) → FollowOneAnother (if t then cs ++ changes_by x h.live else changes_by x h.live)
      of x true = follow_more cs (changes_by x h.live) (current h) plain found (latest_of x h.live (map_in (current h)) o.latest) (p.follow x)
      of x false = p.follow x

  pub settled_plain : (serial : Id) (outcome : Outcome) (moment : ℕ) → SerialsDiffer h.live → IsPlain (settled_at serial outcome moment h)
  settled_plain serial outcome moment differ = record { follow = λ x. of x (same_id x serial) refl; absent = left outcome }
    where
      of : (x : Id) (t : Bool) → same_id x serial ≡ t → FollowOneAnother (changes_by x (settled_at serial outcome moment h).live)
      of x true t = subst FollowOneAnother (sym (ap (λ y. changes_by y (settled_at serial outcome moment h).live) (id_is x serial t) ∙ own_settled serial outcome moment h differ)) tt
      of x false t = subst FollowOneAnother (sym (by_settled x serial outcome moment h t)) (p.follow x)

      left : (q : Outcome) → get (current (settled_at serial q moment h)) End ≡ None
      left Commit = (commits_one h serial moment o).current End ∙ p.absent
      left Abort = (aborts_one h serial moment o).current End ∙ ap (λ b. if b then earliest_before (changes_by serial h.live) End else get (current h) End) (no_end (changes_by serial h.live) (plain_of (changes_by serial h.live) (p.follow serial))) ∙ p.absent

-- An abort that was done in part.

latest_kept : (st : Map) (key : Key) (newer cs : List Change) → changes_key key newer ≡ true → latest_after (leaving st newer cs) key ≡ latest_after cs key
latest_kept st key newer [] n = refl
latest_kept st key newer (c ∷ cs) n = go (is_of key c) (changes_key c.key newer) refl refl (latest_kept st key (c ∷ newer) cs (or_other (is_of key c) (changes_key key newer) n))
  where
    go : (t b : Bool) → is_of key c ≡ t → changes_key c.key newer ≡ b → latest_after (leaving st (c ∷ newer) cs) key ≡ latest_after cs key →
        latest_after ((if b then c else record c { after = st c.key }) ∷ leaving st (c ∷ newer) cs) key ≡ latest_after (c ∷ cs) key
    go true false e f more = absurd (both_ways _ f (ap (λ k. changes_key k newer) (sym (same_key key c.key e)) ∙ n))
    go true true e f more = rw e refl
    go false true e f more = rw e more
    go false false e f more = rw e more

follow_leaving : (st : Map) (newer cs : List Change) → FollowOneAnother cs → FollowOneAnother (leaving st newer cs)
follow_leaving st newer [] h = tt
follow_leaving st newer (c ∷ cs) h = go (changes_key c.key newer) (follow_leaving st (c ∷ newer) cs h.2)
  where
    same : changes_key c.key (leaving st (c ∷ newer) cs) ≡ true → c.before ≡ latest_after (leaving st (c ∷ newer) cs) c.key
    same k = h.1 (sym (keys_leaving (record { node = []; boot = 0; seq = 0 }) st c.key (c ∷ newer) cs) ∙ k) ∙ sym (latest_kept st c.key (c ∷ newer) cs (or_one (is_of c.key c) (changes_key c.key newer) (itself c.key)))

    go : (b : Bool) → FollowOneAnother (leaving st (c ∷ newer) cs) → FollowOneAnother ((if b then c else record c { after = st c.key }) ∷ leaving st (c ∷ newer) cs)
    go true more = (h.0, same, more)
    go false more = (h.0, same, more)

pub half_plain : (s : Id) (st : Map) (h : History) → IsPlain h → IsOrderly h → IsPlain (half s st h)
half_plain s st h p o = record {
  follow = λ x. subst FollowOneAnother (sym (by_leaving s st x h.live)) (of x (same_id x s));
  absent = now_leaving s st h.live (records h) End o.represents.apart
      ∙ ap (λ b. if b then st End else get (current h) End) (no_end (changes_by s h.live) (plain_of (changes_by s h.live) (p.follow s))) ∙ p.absent;
}
  where
    of : (x : Id) (t : Bool) → FollowOneAnother (if t then leaving st [] (changes_by x h.live) else changes_by x h.live)
    of x true = follow_leaving st [] (changes_by x h.live) (p.follow x)
    of x false = p.follow x

-- The end of a sequential file is one branch's.

pub end_changed : (o : Organization) (ls : List LiveChanges) (serial : Id) (cs : List Change) → SerialsDiffer ls → (o ≡ Sequential → moves_end cs ≡ true → end_is_free serial ls ≡ true) → OneMovesEndOf o ls → OneMovesEndOf o (with_changes serial cs ls)
end_changed Sequential ls serial cs d k h = changes_keep_end ls serial cs d h (k refl)
end_changed (Relative greatest) ls serial cs d k h = tt
end_changed (Indexed position size) ls serial cs d k h = tt

end_without : (o : Organization) (ls : List LiveChanges) (serial : Id) → OneMovesEndOf o ls → OneMovesEndOf o (without serial ls)
end_without Sequential ls serial h = settles_keep_end ls serial h
end_without (Relative greatest) ls serial h = tt
end_without (Indexed position size) ls serial h = tt

pub end_settled : (o : Organization) (serial : Id) (outcome : Outcome) (moment : ℕ) (h : History) → OneMovesEndOf o h.live → OneMovesEndOf o (settled_at serial outcome moment h).live
end_settled o serial outcome moment h k = go (changes_by serial h.live)
  where
    go : (cs : List Change) → OneMovesEndOf o (settled_with serial outcome moment cs h).live
    go [] = k
    go (c ∷ cs) = end_without o h.live serial k

pub end_of_none : (o : Organization) → OneMovesEndOf o []
end_of_none Sequential = tt
end_of_none (Relative greatest) = tt
end_of_none (Indexed position size) = tt

image_moves : (cs : List Change) (key : Key) (v : Option (List ℕ)) → IsImage cs key v → is_none v ≡ true → moves_end cs ≡ true
image_moves [] key v i e = absurd i
image_moves (c ∷ cs) key v i e = elim i [
  | inl here ↦ elim here.1 [
    | inl b ↦ or_one (is_none c.before || is_none c.after) (moves_end cs) (or_one (is_none c.before) (is_none c.after) (ap is_none (sym b) ∙ e))
    | inr a ↦ or_one (is_none c.before || is_none c.after) (moves_end cs) (or_other (is_none c.before) (is_none c.after) (ap is_none (sym a) ∙ e))
  ]
  | inr more ↦ or_other (is_none c.before || is_none c.after) (moves_end cs) (image_moves cs key v more e)
]

-- where each key has an image, no more moves the end than did
pub moves_leaving : (st : Map) (all newer cs : List Change) → ((key : Key) → changes_key key all ≡ true → IsImage all key (st key)) → ((key : Key) → changes_key key cs ≡ true → changes_key key all ≡ true) → (moves_end cs ≡ true → moves_end all ≡ true) →
    moves_end (leaving st newer cs) ≡ true → moves_end all ≡ true
moves_leaving st all newer [] images sub up e = let none : ⊥ = cc in absurd none
moves_leaving st all newer (c ∷ cs) images sub up e =
    go (changes_key c.key newer) e (moves_leaving st all (c ∷ newer) cs images (λ key k. sub key (or_other (is_of key c) (changes_key key cs) k)) (λ k. up (or_other (is_none c.before || is_none c.after) (moves_end cs) k)))
  where
    either : (a b : Bool) → (a || b) ≡ true → (a ≡ true → moves_end all ≡ true) → (b ≡ true → moves_end all ≡ true) → moves_end all ≡ true
    either true b k f g = f refl
    either false b k f g = g k

    old : (is_none c.before || is_none c.after) ≡ true → moves_end all ≡ true
    old k = up (or_one (is_none c.before || is_none c.after) (moves_end cs) k)

    set : is_none (st c.key) ≡ true → moves_end all ≡ true
    set k = image_moves all c.key (st c.key) (images c.key (sub c.key (or_one (is_of c.key c) (changes_key c.key cs) (itself c.key)))) k

    go : (b : Bool) → moves_end ((if b then c else record c { after = st c.key }) ∷ leaving st (c ∷ newer) cs) ≡ true → (moves_end (leaving st (c ∷ newer) cs) ≡ true → moves_end all ≡ true) → moves_end all ≡ true
    go true k more = either (is_none c.before || is_none c.after) (moves_end (leaving st (c ∷ newer) cs)) k old more
    go false k more = either (is_none c.before || is_none (st c.key)) (moves_end (leaving st (c ∷ newer) cs)) k (λ i. either (is_none c.before) (is_none (st c.key)) i (λ j. old (or_one (is_none c.before) (is_none c.after) j)) set) more

module _ (s : Id) (st : Map) where
  abbrev HasImagesOf : List LiveChanges → Type 0
  HasImagesOf ls = (key : Key) → changes_key key (changes_by s ls) ≡ true → IsImage (changes_by s ls) key (st key)

  -- none of these moves the end, one left in part or not
  none_leaving : (ls : List LiveChanges) → HasImagesOf ls → AllByRecursion (λ (k : LiveChanges). moves_end k.changes ≡ false) ls → AllByRecursion (λ (k : LiveChanges). moves_end k.changes ≡ false) (live_leaving s st ls)
  none_leaving [] i h = tt
  none_leaving (l ∷ ls) i h = go (same_id s l.serial) refl (λ e. none_leaving ls (λ key k. subst (λ ds. IsImage ds key (st key)) (own e) (i key (subst (λ ds. changes_key key ds ≡ true) (sym (own e)) k))) h.1)
    where
      own : same_id s l.serial ≡ false → changes_by s (l ∷ ls) ≡ changes_by s ls
      own e = rw e refl

      mine : same_id s l.serial ≡ true → changes_by s (l ∷ ls) ≡ l.changes
      mine e = rw e refl

      go : (b : Bool) → same_id s l.serial ≡ b → (same_id s l.serial ≡ false → AllByRecursion (λ (k : LiveChanges). moves_end k.changes ≡ false) (live_leaving s st ls)) →
          AllByRecursion (λ (k : LiveChanges). moves_end k.changes ≡ false) (if b then record l { changes = leaving st [] l.changes } ∷ ls else l ∷ live_leaving s st ls)
      go true e more = (
        false_from_ne_true _ (λ m. both_ways _ h.0 (moves_leaving st l.changes [] l.changes (λ key k. subst (λ ds. IsImage ds key (st key)) (mine e) (i key (subst (λ ds. changes_key key ds ≡ true) (sym (mine e)) k))) (λ key k. k) (λ k. k) m)),
        h.1,
      )
      go false e more = (h.0, more e)

  one_leaving : (ls : List LiveChanges) → HasImagesOf ls → OneMovesEnd ls → OneMovesEnd (live_leaving s st ls)
  one_leaving [] i h = tt
  one_leaving (l ∷ ls) i h = go (same_id s l.serial) refl (λ e. one_leaving ls (λ key k. subst (λ ds. IsImage ds key (st key)) (own e) (i key (subst (λ ds. changes_key key ds ≡ true) (sym (own e)) k))) h.1)
      (λ e m. none_leaving ls (λ key k. subst (λ ds. IsImage ds key (st key)) (own e) (i key (subst (λ ds. changes_key key ds ≡ true) (sym (own e)) k))) (h.0 m))
    where
      own : same_id s l.serial ≡ false → changes_by s (l ∷ ls) ≡ changes_by s ls
      own e = rw e refl

      mine : same_id s l.serial ≡ true → changes_by s (l ∷ ls) ≡ l.changes
      mine e = rw e refl

      go : (b : Bool) → same_id s l.serial ≡ b → (same_id s l.serial ≡ false → OneMovesEnd (live_leaving s st ls)) →
          (same_id s l.serial ≡ false → moves_end l.changes ≡ true → AllByRecursion (λ (k : LiveChanges). moves_end k.changes ≡ false) (live_leaving s st ls)) →
          OneMovesEnd (if b then record l { changes = leaving st [] l.changes } ∷ ls else l ∷ live_leaving s st ls)
      go true e more none = (
        (λ m. h.0 (moves_leaving st l.changes [] l.changes (λ key k. subst (λ ds. IsImage ds key (st key)) (mine e) (i key (subst (λ ds. changes_key key ds ≡ true) (sym (mine e)) k))) (λ key k. k) (λ k. k) m)),
        h.1,
      )
      go false e more none = (none e, more e)

  pub end_leaving : (o : Organization) (ls : List LiveChanges) → HasImagesOf ls → OneMovesEndOf o ls → OneMovesEndOf o (live_leaving s st ls)
  end_leaving Sequential ls i h = one_leaving ls i h
  end_leaving (Relative greatest) ls i h = tt
  end_leaving (Indexed position size) ls i h = tt

-- Operations.

-- no change of an operation that nothing refuses is of the file's end
pub changes_plain : (f : File) (op : Operation) → get (current_records f) End ≡ None → data_refused f op ≡ None → ArePlain (changes_of f op)
changes_plain f (Put number bytes) none passed = (put f.organization number, tt)
  where
    put : (o : Organization) (n : Option ℕ) → eq_by_cmp key_cmp End (key_put o (count_of f) n bytes) ≡ false
    put o (Some k) = refl
    put Sequential None = refl
    put (Relative greatest) None = refl
    put (Indexed position size) None = refl
changes_plain f (Update key bytes) none passed = (false_from_ne_true _ (λ e. clash (same_key End key e)), tt)
  where
    refused : (o : Option (List ℕ)) → o ≡ None → update_refused f.organization key o bytes ≡ None → ⊥
    refused None e k = let none : ⊥ = cc in none
    refused (Some old) e k = let none : ⊥ = cc in none

    clash : End ≡ key → ⊥
    clash e = refused (get (current_records f) key) (ap (get (current_records f)) (sym e) ∙ none) passed
changes_plain f (Delete key) none passed = (false_from_ne_true _ (λ e. clash (same_key End key e)), tt)
  where
    refused : (o : Option (List ℕ)) → o ≡ None → missing o ≡ None → ⊥
    refused None e k = let none : ⊥ = cc in none
    refused (Some old) e k = let none : ⊥ = cc in none

    clash : End ≡ key → ⊥
    clash e = refused (get (current_records f) key) (ap (get (current_records f)) (sym e) ∙ none) passed
changes_plain f (Truncate number) none passed = go (drop (number - 1) (entries m)) (all_got m (drop (number - 1) (entries m)) (dropped (λ x. find key_cmp x.0 (entries m) ≡ Some x.1) (number - 1) (entries m) (sorted_in (entries m) (entries_sorted m))))
  where
    m : Records
    m = current_records f

    go : (es : List (Key × List ℕ)) → AllByRecursion (λ (x : Key × List ℕ). get m x.0 ≡ Some x.1) es → ArePlain (map removed es)
    go [] h = tt
    go (e ∷ es) h = (false_from_ne_true _ (λ k. let both : ◌≡◌ {A = Option (List ℕ)} None (Some e.1) = sym none ∙ ap (get m) (same_key End e.0 k) ∙ h.0 in let never : ⊥ = cc in never), go es h.1)
changes_plain f (Get key) none passed = tt
changes_plain f (Next after) none passed = tt
