-- A file of which an abort is done in part: what its keys have, and that it represents the same committed records.
use Rattle.std.proofs.Common.{◌≡◌, ℕ, List, [], ◌∷◌, map, Bool, true, false, ◌||◌, Option, if◌then◌else◌, refl, sym, ◌∙◌, ap, subst, inl, inr}
use Rattle.std.specs.FinMap.{get}
use Rattle.std.specs.List.{AllByRecursion}
use Rattle.std.proofs.lemmas.Bool.{both_ways, false_from_ne_true}
use Rattle.vms_model.specs.Ids.{Id}
use Rattle.vms_model.specs.Keys.{Key}
use Rattle.run_model.specs.records_model.Records.{Change, Records, applied}
use Rattle.run_model.specs.records_model.History.{History, LiveChanges, same_id, changes_by, changes_key, current, on_top, records}
use Rattle.run_model.specs.unit_laws.Units.{Apart, HasLatest, IsImage, IsOrderly, Map, SerialsDiffer, earliest_before, has_changes, is_changed, is_of, latest_after, map_in, restored}
use Rattle.run_model.specs.unit_laws.Journal.{Journal, note_of}
use Rattle.run_model.specs.unit_laws.JournalLaws.{HasNotes, is_unit}
use Rattle.run_model.proofs.unit_laws.Tests.{or_neither, or_one, or_other}
use Rattle.run_model.proofs.unit_laws.CurrentLemmas.{applied_at}
use Rattle.run_model.proofs.unit_laws.RestoredLemmas.{changed_of, restored_changed}
use Rattle.run_model.proofs.unit_laws.RepresentLemmas.{AllImages, images_one_kept, images_same}
use Rattle.run_model.proofs.records_model.RecordsLemmas.{same_key}
use Rattle.run_model.specs.World.{leaving, live_leaving}
use Rattle.world_laws.proofs.IdLemmas.{id_is}

module _ (s : Id) (st : Map) where
  -- Changes.

  pub keys_leaving : (key : Key) (newer cs : List Change) → changes_key key (leaving st newer cs) ≡ changes_key key cs
  keys_leaving key newer [] = refl
  keys_leaving key newer (c ∷ cs) = go (changes_key c.key newer) (keys_leaving key (c ∷ newer) cs)
    where
      go : (b : Bool) → changes_key key (leaving st (c ∷ newer) cs) ≡ changes_key key cs → changes_key key ((if b then c else record c { after = st c.key }) ∷ leaving st (c ∷ newer) cs) ≡ (is_of key c || changes_key key cs)
      go true more = ap (λ b. is_of key c || b) more
      go false more = ap (λ b. is_of key c || b) more

  notes_leaving : (newer cs : List Change) → map note_of (leaving st newer cs) ≡ map note_of cs
  notes_leaving newer [] = refl
  notes_leaving newer (c ∷ cs) = go (changes_key c.key newer) (notes_leaving (c ∷ newer) cs)
    where
      go : (b : Bool) → map note_of (leaving st (c ∷ newer) cs) ≡ map note_of cs → map note_of ((if b then c else record c { after = st c.key }) ∷ leaving st (c ∷ newer) cs) ≡ note_of c ∷ map note_of cs
      go true more = ap (λ ns. note_of c ∷ ns) more
      go false more = ap (λ ns. note_of c ∷ ns) more

  some_leaving : (cs : List Change) → has_changes cs ≡ true → has_changes (leaving st [] cs) ≡ true
  some_leaving [] e = e
  some_leaving (c ∷ cs) e = refl

  pub earliest_leaving : (key : Key) (newer cs : List Change) → earliest_before (leaving st newer cs) key ≡ earliest_before cs key
  earliest_leaving key newer [] = refl
  earliest_leaving key newer (c ∷ cs) = go (changes_key c.key newer) (earliest_leaving key (c ∷ newer) cs) (keys_leaving key (c ∷ newer) cs)
    where
      go : (b : Bool) → earliest_before (leaving st (c ∷ newer) cs) key ≡ earliest_before cs key → changes_key key (leaving st (c ∷ newer) cs) ≡ changes_key key cs →
          earliest_before ((if b then c else record c { after = st c.key }) ∷ leaving st (c ∷ newer) cs) key ≡ earliest_before (c ∷ cs) key
      go true more keys = rw (more, keys) refl
      go false more keys = rw (more, keys) refl

  pub latest_leaving : (key : Key) (newer cs : List Change) → changes_key key newer ≡ false → changes_key key cs ≡ true → latest_after (leaving st newer cs) key ≡ st key
  latest_leaving key newer [] n h = let none : ⊥ = cc in absurd none
  latest_leaving key newer (c ∷ cs) n h = go (is_of key c) (changes_key c.key newer) refl refl h (λ k j. latest_leaving key (c ∷ newer) cs k j)
    where
      go : (t b : Bool) → is_of key c ≡ t → changes_key c.key newer ≡ b → (t || changes_key key cs) ≡ true → (changes_key key (c ∷ newer) ≡ false → changes_key key cs ≡ true → latest_after (leaving st (c ∷ newer) cs) key ≡ st key) →
          latest_after ((if b then c else record c { after = st c.key }) ∷ leaving st (c ∷ newer) cs) key ≡ st key
      go true true is e k more = absurd (both_ways _ n (ap (λ x. changes_key x newer) (same_key key c.key is) ∙ e))
      go true false is e k more = rw is (ap st (sym (same_key key c.key is)))
      go false true is e k more = rw is (more (or_neither (is_of key c) (changes_key key newer) is n) k)
      go false false is e k more = rw is (more (or_neither (is_of key c) (changes_key key newer) is n) k)

  image_leaving : (key : Key) (newer cs : List Change) → changes_key key newer ≡ false → changes_key key cs ≡ true → IsImage (leaving st newer cs) key (st key)
  image_leaving key newer [] n h = let none : ⊥ = cc in absurd none
  image_leaving key newer (c ∷ cs) n h = go (is_of key c) (changes_key c.key newer) refl refl h (λ k j. image_leaving key (c ∷ newer) cs k j)
    where
      go : (t b : Bool) → is_of key c ≡ t → changes_key c.key newer ≡ b → (t || changes_key key cs) ≡ true → (changes_key key (c ∷ newer) ≡ false → changes_key key cs ≡ true → IsImage (leaving st (c ∷ newer) cs) key (st key)) →
          IsImage ((if b then c else record c { after = st c.key }) ∷ leaving st (c ∷ newer) cs) key (st key)
      go true true is e k more = absurd (both_ways _ n (ap (λ x. changes_key x newer) (same_key key c.key is) ∙ e))
      go true false is e k more = inl (is, inr (ap st (same_key key c.key is)))
      go false b is e k more = inr (more (or_neither (is_of key c) (changes_key key newer) is n) k)

  -- Branches.

  -- what the journal sees of a branch stays
  pub all_leaving : (P : LiveChanges → Type 0) (ls : List LiveChanges) → ((l : LiveChanges) → P l → P (record l { changes = leaving st [] l.changes })) → AllByRecursion P ls → AllByRecursion P (live_leaving s st ls)
  all_leaving P [] step h = tt
  all_leaving P (l ∷ ls) step h = go (same_id s l.serial) (all_leaving P ls step h.1)
    where
      go : (b : Bool) → AllByRecursion P (live_leaving s st ls) → AllByRecursion P (if b then record l { changes = leaving st [] l.changes } ∷ ls else l ∷ live_leaving s st ls)
      go true more = (step l h.0, h.1)
      go false more = (h.0, more)

  differ_leaving : (ls : List LiveChanges) → SerialsDiffer ls → SerialsDiffer (live_leaving s st ls)
  differ_leaving [] d = tt
  differ_leaving (l ∷ ls) d = go (same_id s l.serial) (differ_leaving ls d.1)
    where
      go : (b : Bool) → SerialsDiffer (live_leaving s st ls) → SerialsDiffer (if b then record l { changes = leaving st [] l.changes } ∷ ls else l ∷ live_leaving s st ls)
      go true more = d
      go false more = (all_leaving (λ k. same_id l.serial k.serial ≡ false) ls (λ k e. e) d.0, more)

  pub by_leaving : (x : Id) (ls : List LiveChanges) → changes_by x (live_leaving s st ls) ≡ (if same_id x s then leaving st [] (changes_by x ls) else changes_by x ls)
  by_leaving x [] = go (same_id x s)
    where
      go : (b : Bool) → ◌≡◌ {A = List Change} [] (if b then [] else [])
      go true = refl
      go false = refl
  by_leaving x (l ∷ ls) = go (same_id s l.serial) (same_id x l.serial) (same_id x s) refl refl refl (by_leaving x ls)
    where
      Says : Bool → Bool → Bool → Type 0
      Says a t b = changes_by x (if a then record l { changes = leaving st [] l.changes } ∷ ls else l ∷ live_leaving s st ls) ≡ (if b then leaving st [] (if t then l.changes else changes_by x ls) else (if t then l.changes else changes_by x ls))

      go : (a t b : Bool) → same_id s l.serial ≡ a → same_id x l.serial ≡ t → same_id x s ≡ b → changes_by x (live_leaving s st ls) ≡ (if b then leaving st [] (changes_by x ls) else changes_by x ls) → Says a t b
      go true true true a t b more = rw t refl
      go true true false a t b more = absurd (both_ways _ b (subst (λ y. same_id x y ≡ true) (sym (id_is s l.serial a)) t))
      go true false true a t b more = absurd (both_ways _ t (subst (λ y. same_id x y ≡ true) (id_is s l.serial a) b))
      go true false false a t b more = rw t refl
      go false true true a t b more = absurd (both_ways _ a (subst (λ y. same_id y l.serial ≡ true) (id_is x s b) t))
      go false true false a t b more = rw t refl
      go false false b a t e more = rw t more

  changed_leaving : (ls : List LiveChanges) (key : Key) → is_changed (live_leaving s st ls) key ≡ is_changed ls key
  changed_leaving [] key = refl
  changed_leaving (l ∷ ls) key = go (same_id s l.serial) (changed_leaving ls key)
    where
      go : (b : Bool) → is_changed (live_leaving s st ls) key ≡ is_changed ls key → is_changed (if b then record l { changes = leaving st [] l.changes } ∷ ls else l ∷ live_leaving s st ls) key ≡ (changes_key key l.changes || is_changed ls key)
      go true more = ap (λ b. b || is_changed ls key) (keys_leaving key [] l.changes)
      go false more = ap (λ b. changes_key key l.changes || b) more

  apart_leaving : (ls : List LiveChanges) → Apart ls → Apart (live_leaving s st ls)
  apart_leaving [] a = tt
  apart_leaving (l ∷ ls) a = go (same_id s l.serial) (apart_leaving ls a.1)
    where
      go : (b : Bool) → Apart (live_leaving s st ls) → Apart (if b then record l { changes = leaving st [] l.changes } ∷ ls else l ∷ live_leaving s st ls)
      go true more = ((λ key h. a.0 key (sym (keys_leaving key [] l.changes) ∙ h)), a.1)
      go false more = ((λ key h. changed_leaving ls key ∙ a.0 key h), more)

  restored_leaving : (ls : List LiveChanges) (key : Key) (v : Option (List ℕ)) → restored (live_leaving s st ls) key v ≡ restored ls key v
  restored_leaving [] key v = refl
  restored_leaving (l ∷ ls) key v = go (same_id s l.serial) (restored_leaving ls key v)
    where
      go : (b : Bool) → restored (live_leaving s st ls) key v ≡ restored ls key v → restored (if b then record l { changes = leaving st [] l.changes } ∷ ls else l ∷ live_leaving s st ls) key v ≡ restored (l ∷ ls) key v
      go true more = rw (keys_leaving key [] l.changes, earliest_leaving key [] l.changes) refl
      go false more = rw more refl

  -- The keys.

  -- where the branch changed a key it has this, and each other key what it had
  pub now_leaving : (ls : List LiveChanges) (m : Records) (key : Key) → Apart ls → get (on_top (live_leaving s st ls) m) key ≡ (if changes_key key (changes_by s ls) then st key else get (on_top ls m) key)
  now_leaving [] m key a = refl
  now_leaving (l ∷ ls) m key a = go (same_id s l.serial) refl (now_leaving ls m key a.1)
    where
      here : (t : Bool) → changes_key key l.changes ≡ t → get (applied (leaving st [] l.changes) (on_top ls m)) key ≡ (if t then st key else get (applied l.changes (on_top ls m)) key)
      here true t = applied_at (leaving st [] l.changes) (on_top ls m) key ∙ (rw (keys_leaving key [] l.changes ∙ t) (latest_leaving key [] l.changes refl t))
      here false t = applied_at (leaving st [] l.changes) (on_top ls m) key ∙ (rw (keys_leaving key [] l.changes ∙ t) (sym (applied_at l.changes (on_top ls m) key ∙ (rw t refl))))

      behind : (t b : Bool) → changes_key key l.changes ≡ t → changes_key key (changes_by s ls) ≡ b → get (on_top (live_leaving s st ls) m) key ≡ (if b then st key else get (on_top ls m) key) →
          get (applied l.changes (on_top (live_leaving s st ls) m)) key ≡ (if b then st key else get (applied l.changes (on_top ls m)) key)
      behind true true t b more = absurd (both_ways _ (a.0 key t) (changed_of s ls key b))
      behind true false t b more = applied_at l.changes (on_top (live_leaving s st ls) m) key ∙ (rw t (sym (applied_at l.changes (on_top ls m) key ∙ (rw t refl))))
      behind false true t b more = applied_at l.changes (on_top (live_leaving s st ls) m) key ∙ (rw t more)
      behind false false t b more = applied_at l.changes (on_top (live_leaving s st ls) m) key ∙ (rw t (more ∙ sym (applied_at l.changes (on_top ls m) key ∙ (rw t refl))))

      go : (b : Bool) → same_id s l.serial ≡ b → get (on_top (live_leaving s st ls) m) key ≡ (if changes_key key (changes_by s ls) then st key else get (on_top ls m) key) →
          get (on_top (if b then record l { changes = leaving st [] l.changes } ∷ ls else l ∷ live_leaving s st ls) m) key ≡ (if changes_key key (if b then l.changes else changes_by s ls) then st key else get (applied l.changes (on_top ls m)) key)
      go true e more = here (changes_key key l.changes) refl
      go false e more = behind (changes_key key l.changes) (changes_key key (changes_by s ls)) refl refl more

  latest_kept : (cs : List Change) (m n : Map) → ((k : Key) → changes_key k cs ≡ true → n k ≡ m k) → HasLatest m cs → HasLatest n cs
  latest_kept cs m n same has k here = same k here ∙ has k here

  latest_same : (ls : List LiveChanges) (m n : Map) → ((k : Key) → is_changed ls k ≡ true → n k ≡ m k) → AllByRecursion (λ (l : LiveChanges). HasLatest m l.changes) ls → AllByRecursion (λ (l : LiveChanges). HasLatest n l.changes) ls
  latest_same [] m n same h = tt
  latest_same (l ∷ ls) m n same h =
      (latest_kept l.changes m n (λ k here. same k (or_one _ _ here)) h.0, latest_same ls m n (λ k here. same k (or_other (changes_key k l.changes) _ here)) h.1)

  module _ (m n : Map) where
    -- a map that has this at the keys that the branch changed, and what it had at all others
    pub record HasHalf (ls : List LiveChanges) : Type 0 where
      pub here : (key : Key) → changes_key key (changes_by s ls) ≡ true → n key ≡ st key
      pub others : (key : Key) → changes_key key (changes_by s ls) ≡ false → n key ≡ m key

    half_behind : (l : LiveChanges) (ls : List LiveChanges) → same_id s l.serial ≡ false → HasHalf (l ∷ ls) → HasHalf ls
    half_behind l ls e h = record {
      here = λ key k. h.here key (rw e k);
      others = λ key k. h.others key (rw e k);
    }

    -- the branch itself, in front of others
    own_kept : (l : LiveChanges) (ls : List LiveChanges) → same_id s l.serial ≡ true → Apart (l ∷ ls) → HasHalf (l ∷ ls) → (key : Key) → is_changed ls key ≡ true → n key ≡ m key
    own_kept l ls e a h key k = h.others key (rw e (false_from_ne_true _ (λ c. both_ways _ (a.0 key c) k)))

    other_kept : (l : LiveChanges) (ls : List LiveChanges) → same_id s l.serial ≡ false → Apart (l ∷ ls) → HasHalf (l ∷ ls) → (key : Key) → changes_key key l.changes ≡ true → n key ≡ m key
    other_kept l ls e a h key k = h.others key (rw e (false_from_ne_true _ (λ c. both_ways _ (a.0 key k) (changed_of s ls key c))))

    own_here : (l : LiveChanges) (ls : List LiveChanges) → same_id s l.serial ≡ true → HasHalf (l ∷ ls) → (key : Key) → changes_key key l.changes ≡ true → n key ≡ st key
    own_here l ls e h key k = h.here key (rw e k)

    images_leaving : (ls : List LiveChanges) → Apart ls → HasHalf ls → AllImages m ls → AllImages n (live_leaving s st ls)
    images_leaving [] a h i = tt
    images_leaving (l ∷ ls) a h i = go (same_id s l.serial) refl (λ e. images_leaving ls a.1 (half_behind l ls e h) i.1)
      where
        go : (b : Bool) → same_id s l.serial ≡ b → (same_id s l.serial ≡ false → AllImages n (live_leaving s st ls)) → AllImages n (if b then record l { changes = leaving st [] l.changes } ∷ ls else l ∷ live_leaving s st ls)
        go true e more = (
          (λ key k. subst (IsImage (leaving st [] l.changes) key) (sym (own_here l ls e h key (sym (keys_leaving key [] l.changes) ∙ k))) (image_leaving key [] l.changes refl (sym (keys_leaving key [] l.changes) ∙ k))),
          images_same ls m n (own_kept l ls e a h) i.1,
        )
        go false e more = (images_one_kept l.changes m n (other_kept l ls e a h) i.0, more e)

    all_latest_leaving : (ls : List LiveChanges) → Apart ls → HasHalf ls → AllByRecursion (λ (l : LiveChanges). HasLatest m l.changes) ls → AllByRecursion (λ (l : LiveChanges). HasLatest n l.changes) (live_leaving s st ls)
    all_latest_leaving [] a h i = tt
    all_latest_leaving (l ∷ ls) a h i = go (same_id s l.serial) refl (λ e. all_latest_leaving ls a.1 (half_behind l ls e h) i.1)
      where
        go : (b : Bool) → same_id s l.serial ≡ b → (same_id s l.serial ≡ false → AllByRecursion (λ (l : LiveChanges). HasLatest n l.changes) (live_leaving s st ls)) →
            AllByRecursion (λ (l : LiveChanges). HasLatest n l.changes) (if b then record l { changes = leaving st [] l.changes } ∷ ls else l ∷ live_leaving s st ls)
        go true e more = (
          (λ key k. let c = sym (keys_leaving key [] l.changes) ∙ k in own_here l ls e h key c ∙ sym (latest_leaving key [] l.changes refl c)),
          latest_same ls m n (own_kept l ls e a h) i.1,
        )
        go false e more = (latest_kept l.changes m n (other_kept l ls e a h) i.0, more e)

  -- Histories.

  abbrev pub half : History → History
  half h = record h { live = live_leaving s st h.live }

  pub has_half : (h : History) → Apart h.live → HasHalf (map_in (current h)) (map_in (current (half h))) h.live
  has_half h a = record {
    here = λ key k. now_leaving h.live (records h) key a ∙ (rw k refl);
    others = λ key k. now_leaving h.live (records h) key a ∙ (rw k refl);
  }

  orderly_half : (h : History) → IsOrderly h → IsOrderly (half h)
  orderly_half h o =
      let a = o.represents.apart in
      let k = has_half h a in
      record {
        represents = record {
          apart = apart_leaving h.live a;
          restores = λ key. restored_leaving h.live key (get (current (half h)) key) ∙ same key (changes_key key (changes_by s h.live)) refl;
          images = images_leaving (map_in (current h)) (map_in (current (half h))) h.live a k o.represents.images;
        };
        latest = all_latest_leaving (map_in (current h)) (map_in (current (half h))) h.live a k o.latest;
      }
    where
      same : (key : Key) (b : Bool) → changes_key key (changes_by s h.live) ≡ b → restored h.live key (get (current (half h)) key) ≡ get (records h) key
      same key true b = restored_changed h.live key (get (current (half h)) key) (get (current h) key) (changed_of s h.live key b) ∙ o.represents.restores key
      same key false b = ap (restored h.live key) ((has_half h o.represents.apart).others key b) ∙ o.represents.restores key

  pub noted_half : (j : Journal) (file : List ℕ) (h : History) → HasNotes j file h → HasNotes j file (half h)
  noted_half j file h n = record {
    notes = λ x u. n.notes x u ∙ sym (ap (map note_of) (by_leaving x h.live) ∙ same (same_id x s) (changes_by x h.live));
    units = all_leaving (λ l. is_unit l.serial j ≡ true) h.live (λ l e. e) n.units;
    some = all_leaving (λ l. has_changes l.changes ≡ true) h.live (λ l e. some_leaving l.changes e) n.some;
    differ = differ_leaving h.live n.differ;
    orderly = orderly_half h n.orderly;
  }
    where
      same : (b : Bool) (cs : List Change) → map note_of (if b then leaving st [] cs else cs) ≡ map note_of cs
      same true cs = notes_leaving [] cs
      same false cs = refl
