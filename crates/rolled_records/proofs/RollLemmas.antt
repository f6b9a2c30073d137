-- Entries that are read again, and their images that are set.
use Rattle.std.proofs.Common.{◌≡◌, ℕ, zero, suc, ◌+◌, ◌-◌, ◌<◌, ◌≤◌, Bool, true, false, List, [], ◌∷◌, ◌++◌, length, map, drop, get_or, drop-cons, Option, Some, None, IfSome, Result, Ok, Err, OnOk, IfErr, if◌then◌else◌, refl, sym, ◌∙◌, ap, subst, arith, append-nil}
use Rattle.std.specs.Prelude.{is_some, unwrap_or, reverse, slice_get, slice_index_or}
use Rattle.std.specs.List.{AllByRecursion}
use Rattle.std.proofs.lemmas.List.{map-append, reverse-append}
use Rattle.file_base.specs.declared.head.Span.{Span}
use Rattle.file_base.specs.declared.head.Organization.{Organization}
use Rattle.vms_model.specs.Ids.{Id}
use Rattle.vms_model.specs.Keys.{Key}
use Rattle.vms_base.specs.declared.outcomes.Outcome.{Outcome}
use Rattle.records_model.specs.Records.{Records}
use Rattle.journal_format.specs.journal_model.Entries as disk
use Rattle.journal_format.specs.journal_model.Entries.{IsEntry, is_key}
use Rattle.journal_format.specs.Heads.{entry_of, kind_code, flag_of}
use Rattle.journal_format.specs.declared.head.EntryKind.{EntryKind}
use Rattle.journal_format.specs.declared.head.EntryKind.TheVariants as kind
use Rattle.journal_format.specs.declared.head.EntryHead.{EntryHead}
use Rattle.journal_format.specs.journal_model.Ring.{IsJournal, StandsAt}
use Rattle.careful_write.specs.State.{StoreState}
use Rattle.journal_store.specs.Reading.{Stands, ReadsAt}
use Rattle.journal_store.specs.Refusing.{Stays}
use Rattle.image_laws.specs.unit_entries.Reading.{AreRead, placed}
use Rattle.image_laws.proofs.unit_entries.StoreLemmas.{stays_read, fell_later}
use Rattle.image_laws.specs.unit_entries.Keys.{key_in}
use Rattle.recovery_model.specs.Journal.{Entry, Changed, Settled, Below, rolled_forward, rolled_back}
use Rattle.recovery_model.specs.File.{Placed, ImageJournal, IsPlace, all_of, since, entries_length}
use Rattle.recovery_model.specs.Places.{set_entry, sets_at, no_entry, applied_places, undone_places, header_of}
use Rattle.recovery_model.specs.Laws.{PlacesAreRolled}
use Rattle.image_laws.specs.image_entries.Entries.{AreHeadsOf, ReadFails}
use Rattle.image_laws.specs.image_entries.declared.reading.ReadErr.{ReadErr}
use Rattle.image_laws.specs.image_entries.declared.reading.ReadErr.TheVariants.{Memory, Down}
use Rattle.image_laws.specs.image_entries.Changes.{key_of_kind, image_of_kind, changed_key, changed_image}
use Rattle.image_journals.specs.Headers.{header_told}
use Rattle.image_laws.specs.file_images.Images.{key_bytes, image_bytes, entry_by, disk_entries, HasImageJournal, IsOf, AreOf}
use Rattle.image_laws.specs.Laws.{ReadsEntries, IsPlacedIn, ImagesAreRead, ImagesArePlaced}
use Rattle.rolled_records.specs.Rolling.{set_changed, HasEntryAt, told_entries, StandIn, RollsTo, SetsEntry, SetsAt, SetsPlaces, ReadsFrom, RollsForward, RollsBack}
use Rattle.rolled_records.specs.declared.rolling.Images.{Images}

-- What is read of an entry.

key_is : (kd : EntryKind) (o : Organization) (key : Option (List ℕ)) (k : Key) → kind_code kd ≡ 1 → unwrap_or key [] ≡ key_bytes k → is_key 1 (length (key_bytes k)) ≡ true → key_in o (key_bytes k) ≡ Some k → key_of_kind kd o key ≡ Some k
key_is kind.Change o (Some bytes) k coded same some is = ap (key_in o) same ∙ is
key_is kind.Change o None k coded same some is = let none = ap (λ (bs : List ℕ). is_key 1 (length bs)) same ∙ some in let no : ⊥ = cc in absurd no
key_is kind.Prepared o key k coded same some is = let no : ⊥ = cc in absurd no
key_is kind.Settled o key k coded same some is = let no : ⊥ = cc in absurd no

image_is : (kd : EntryKind) (present : Bool) (o : Option Outcome) (v : Option (List ℕ)) (image : List ℕ) → kind_code kd ≡ 1 → flag_of kd present o ≡ (if is_some v then 1 else 0) → image ≡ image_bytes v → image_of_kind kd present image ≡ v
image_is kind.Change true o (Some bytes) image coded flag same = ap Some same
image_is kind.Change true o None image coded flag same = let no : ⊥ = cc in absurd no
image_is kind.Change false o (Some bytes) image coded flag same = let no : ⊥ = cc in absurd no
image_is kind.Change false o None image coded flag same = refl
image_is kind.Prepared present o v image coded flag same = let no : ⊥ = cc in absurd no
image_is kind.Settled present o v image coded flag same = let no : ⊥ = cc in absurd no

no_key : (kd : EntryKind) (o : Organization) (key : Option (List ℕ)) → kind_code kd ≡ 3 → key_of_kind kd o key ≡ None
no_key kind.Change o key coded = let no : ⊥ = cc in absurd no
no_key kind.Prepared o key coded = refl
no_key kind.Settled o key coded = refl

-- the entry that was read is the one that stands there, and its image is set
pub entry_set : (c : List (List ℕ)) (s : Span) (p f : ℕ) (tid : Id) (e : Entry) (o : Organization) (h : EntryHead) (next : ℕ) (image : List ℕ) (m : Records) → HasEntryAt c s p f tid e → IsOf o e → Stands s p h next image c →
    set_changed (changed_key o h) (changed_image h image) m ≡ set_entry e m
entry_set c s p f tid e o h next image m stands of read = by_entry e stands.is of (read.only (entry_by f tid e) stands.is stands.stands)
  where
    by_entry : (e : Entry) → IsEntry (entry_by f tid e) → IsOf o e → entry_of h image ≡ entry_by f tid e → set_changed (changed_key o h) (changed_image h image) m ≡ set_entry e m
    by_entry (Changed r k v) is of same =
        let key = key_is h.kind o h.key k (ap (λ (d : disk.Entry). d.kind) same) (ap (λ (d : disk.Entry). d.key) same) is.key of in
        let image_ = image_is h.kind h.present h.outcome v image (ap (λ (d : disk.Entry). d.kind) same) (ap (λ (d : disk.Entry). d.flag) same) (ap (λ (d : disk.Entry). d.image) same) in
        λ i. set_changed (key i) (image_ i) m
    by_entry (Settled r outcome t) is of same = ap (λ (k : Option Key). set_changed k (changed_image h image) m) (no_key h.kind o h.key (ap (λ (d : disk.Entry). d.kind) same))

-- Places.

-- what stands at a place of the positions
pub record IsAt (c : List (List ℕ)) (s : Span) (f : ℕ) (o : Organization) (es : List Entry) (n p : ℕ) : Type 0 where
  pub tid : Id
  pub entry : Entry
  pub is : slice_index_or es n no_entry ≡ entry
  pub stands : HasEntryAt c s p f tid entry
  pub within : p ≤ s.end
  pub of : IsOf o entry

module _ (c : List (List ℕ)) (s : Span) (f : ℕ) (o : Organization) where
  found_at : (ys : List Placed) (n p : ℕ) → slice_get (map (λ (y : Placed). y.at) ys) n ≡ Some p → AllByRecursion (IsPlacedIn c s f) ys → AreOf o (told_entries ys) → IsAt c s f o (told_entries ys) n p
  found_at [] n p is each of = let no : ⊥ = cc in absurd no
  found_at (y ∷ ys) zero p is each of =
      let same : y.at ≡ p = ap (λ (v : Option ℕ). unwrap_or v 0) is in
      let here = each.0 in
      record {
        tid = y.tid;
        entry = y.entry;
        is = refl;
        stands = record { is = here.is; stands = subst (λ (q : ℕ). StandsAt s q (entry_by f y.tid y.entry) c) same here.stands };
        within = subst (λ (q : ℕ). q ≤ s.end) same here.within;
        of = of.0;
      }
  found_at (y ∷ ys) (suc n) p is each of = let there = found_at ys n p is each.1 of.1 in record { tid = there.tid; entry = there.entry; is = there.is; stands = there.stands; within = there.within; of = there.of }

  pub at_place : (ys : List Placed) (positions : List ℕ) (n p : ℕ) → StandIn c s f o ys positions → slice_get positions n ≡ Some p → IsAt c s f o (told_entries ys) n p
  at_place ys positions n p stand is = found_at ys n p (ap (λ (ps : List ℕ). slice_get ps n) (sym stand.at) ∙ is) stand.each stand.of

  none_at : (ys : List Placed) (n : ℕ) → slice_get (map (λ (y : Placed). y.at) ys) n ≡ None → slice_index_or (told_entries ys) n no_entry ≡ no_entry
  none_at [] n is = refl
  none_at (y ∷ ys) zero is = let no : ⊥ = cc in absurd no
  none_at (y ∷ ys) (suc n) is = none_at ys n is

  pub no_place : (ys : List Placed) (positions : List ℕ) (n : ℕ) (m : Records) → StandIn c s f o ys positions → slice_get positions n ≡ None → m ≡ set_entry (slice_index_or (told_entries ys) n no_entry) m
  no_place ys positions n m stand is = sym (ap (λ (e : Entry). set_entry e m) (none_at ys n (ap (λ (ps : List ℕ). slice_get ps n) (sym stand.at) ∙ is)))

-- the places that are left, after one more
pub sets_on : (places : List ℕ) (i place : ℕ) (es : List Entry) (now next total : Records) → i < length places → get_or places i 0 ≡ place → next ≡ set_entry (slice_index_or es place no_entry) now → sets_at (drop i places) es now ≡ total →
    sets_at (drop (i + 1) places) es next ≡ total
sets_on places i place es now next total before is set so =
    let on : i + 1 ≡ suc i = omega arith in
    ap (sets_at (drop (i + 1) places) es) (set ∙ ap (λ (n : ℕ). set_entry (slice_index_or es n no_entry) now) (sym is)) ∙
    ap (λ (k : ℕ). sets_at (drop k places) es (set_entry (slice_index_or es (get_or places i 0) no_entry) now)) on ∙ sym (ap (λ (ns : List ℕ). sets_at ns es now) (drop-cons places i 0 before)) ∙ so

-- Entries the other way round.

all_is : (xs : List Placed) → told_entries xs ≡ all_of xs
all_is [] = refl
all_is (x ∷ xs) = ap (λ (es : List Entry). x.entry ∷ es) (all_is xs)

pub told_turned : (xs : List Placed) → told_entries (reverse xs) ≡ reverse (all_of xs)
told_turned [] = refl
told_turned (x ∷ xs) =
    ap told_entries (reverse-append (x ∷ []) xs) ∙ map-append (λ (y : Placed). y.entry) (reverse xs) (x ∷ []) ∙ ap (λ (es : List Entry). es ++ x.entry ∷ []) (told_turned xs) ∙ sym (reverse-append (x.entry ∷ []) (all_of xs))

module _ {X : Type 0} (P : X → Type 0) where
  all_both : (xs ys : List X) → AllByRecursion P xs → AllByRecursion P ys → AllByRecursion P (xs ++ ys)
  all_both [] ys all rest = rest
  all_both (x ∷ xs) ys all rest = (all.0, all_both xs ys all.1 rest)

  all_turned : (xs : List X) → AllByRecursion P xs → AllByRecursion P (reverse xs)
  all_turned [] all = tt
  all_turned (x ∷ xs) all = subst (AllByRecursion P) (sym (reverse-append (x ∷ []) xs)) (all_both (reverse xs) (x ∷ []) (all_turned xs all.1) (all.0, tt))

  all_newer : (xs ys : List X) → AllByRecursion P (xs ++ ys) → AllByRecursion P xs
  all_newer [] ys all = tt
  all_newer (x ∷ xs) ys all = (all.0, all_newer xs ys all.1)

-- the newer entries of a journal stand as they were read
pub stand_in : (c : List (List ℕ)) (s : Span) (f : ℕ) (o : Organization) (es newer older : List Placed) (hs : List EntryHead) (ps : List ℕ) → es ≡ newer ++ older → AllByRecursion (IsPlacedIn c s f) es → AreOf o (all_of newer) → ReadsEntries f newer hs ps →
    StandIn c s f o (reverse newer) ps
stand_in c s f o es newer older hs ps are placed of reads = record {
  at = reads.positions;
  each = all_turned (IsPlacedIn c s f) newer (all_newer (IsPlacedIn c s f) newer older (subst (AllByRecursion (IsPlacedIn c s f)) are placed));
  of = subst (AreOf o) (sym (told_turned newer)) (all_turned (IsOf o) (all_of newer) of);
}

module _ (rolls : PlacesAreRolled) (f : ℕ) (newer : List Placed) (hs : List EntryHead) (ps : List ℕ) (reads : ReadsEntries f newer hs ps) (until : ℕ) (old new : Records) where
  pub rolled_on : new ≡ sets_at (applied_places until (map header_told hs)) (told_entries (reverse newer)) old → RollsTo until (all_of newer) old new
  rolled_on is =
      let so : new ≡ sets_at (applied_places until (map header_of (reverse (all_of newer)))) (reverse (all_of newer)) old = is ∙ λ i. sets_at (applied_places until (reads.headers i)) (told_turned newer i) old in
      let roll = rolls until (all_of newer) old in
      record { by_then = so ∙ roll.forward; last = λ low. so ∙ roll.last low }

  pub rolled_off : new ≡ sets_at (undone_places until (map header_told hs)) (told_entries (reverse newer)) old → new ≡ rolled_back until (all_of newer) old
  rolled_off is =
      let so : new ≡ sets_at (undone_places until (map header_of (reverse (all_of newer)))) (reverse (all_of newer)) old = is ∙ λ i. sets_at (undone_places until (reads.headers i)) (told_turned newer i) old in
      let roll = rolls until (all_of newer) old in
      so ∙ roll.backward

-- What the calls do.

pub set_here : (i : Images) (p : ℕ) (h : EntryHead) (next : ℕ) (image : List ℕ) (old new : Records) (c : List (List ℕ)) → new ≡ set_changed (changed_key i.organization h) (changed_image h image) old → Stands i.span p h next image c → SetsEntry i p old new c
set_here i p h next image old new c is read f tid e stands of = is ∙ entry_set c i.span p f tid e i.organization h next image old stands of read

pub none_here : (i : Images) (p : ℕ) (image : List ℕ) (old new : Records) (c : List (List ℕ)) → ReadsAt i.span p None image c → SetsEntry i p old new c
none_here i p image old new c none f tid e stands of = absurd (none (entry_by f tid e) stands.is stands.stands)

pub get_some : (xs : List ℕ) (n : ℕ) → n < length xs → slice_get xs n ≡ Some (get_or xs n 0)
get_some [] n lt = let no : ⊥ = omega (arith, lt) in absurd no
get_some (x ∷ xs) zero lt = refl
get_some (x ∷ xs) (suc n) lt = get_some xs n (omega (arith, lt))

pub get_none : (xs : List ℕ) (n : ℕ) → length xs ≤ n → slice_get xs n ≡ None
get_none [] n le = refl
get_none (x ∷ xs) zero le = let no : ⊥ = omega (arith, le) in absurd no
get_none (x ∷ xs) (suc n) le = get_none xs n (omega (arith, le))

pub set_there : (i : Images) (ps : List ℕ) (n p : ℕ) (old new : Records) (c : List (List ℕ)) → slice_get ps n ≡ Some p → SetsEntry i p old new c → SetsAt i ps n old new c
set_there i ps n p old new c is sets f ys stand =
    let at = at_place c i.span f i.organization ys ps n p stand is in
    sets f at.tid at.entry at.stands at.of ∙ ap (λ (e : Entry). set_entry e old) (sym at.is)

pub none_there : (i : Images) (ps : List ℕ) (n : ℕ) (m : Records) (c : List (List ℕ)) → slice_get ps n ≡ None → SetsAt i ps n m m c
none_there i ps n m c is f ys stand = no_place c i.span f i.organization ys ps n m stand is

pub behind_there : (i : Images) (ps : List ℕ) (n p : ℕ) (m : Records) (c : List (List ℕ)) → slice_get ps n ≡ Some p → i.span.end < p → SetsAt i ps n m m c
behind_there i ps n p m c is behind f ys stand =
    let at = at_place c i.span f i.organization ys ps n p stand is in
    let within = at.within in
    absurd (omega (arith, within, behind))

drop_all : (xs : List ℕ) (n : ℕ) → length xs ≤ n → drop n xs ≡ []
drop_all [] zero all = refl
drop_all [] (suc n) all = refl
drop_all (x ∷ xs) zero all = let no : ⊥ = omega (arith, all) in absurd no
drop_all (x ∷ xs) (suc n) all = drop_all xs n (omega (arith, all))

-- so far, and to come
pub record SetsSoFar (i : Images) (ps places : List ℕ) (n : ℕ) (old now : Records) (c : List (List ℕ)) : Type 0 where
  pub sets : (f : ℕ) (ys : List Placed) → StandIn c i.span f i.organization ys ps → sets_at (drop n places) (told_entries ys) now ≡ sets_at places (told_entries ys) old

pub none_set : (i : Images) (ps places : List ℕ) (old : Records) (c : List (List ℕ)) → SetsSoFar i ps places 0 old old c
none_set i ps places old c = record { sets = λ f ys stand. refl }

pub one_set : (i : Images) (ps places : List ℕ) (n place : ℕ) (old now next : Records) (c : List (List ℕ)) → n < length places → get_or places n 0 ≡ place → SetsSoFar i ps places n old now c → SetsAt i ps place now next c → SetsSoFar i ps places (n + 1) old next c
one_set i ps places n place old now next c before is far set = record { sets = λ f ys stand. sets_on places n place (told_entries ys) now next (sets_at places (told_entries ys) old) before is (set f ys stand) (far.sets f ys stand) }

pub all_set : (i : Images) (ps places : List ℕ) (n : ℕ) (old now : Records) (c : List (List ℕ)) → length places ≤ n → SetsSoFar i ps places n old now c → SetsPlaces i ps places old now c
all_set i ps places n old now c all far f ys stand = sym (ap (λ (ns : List ℕ). sets_at ns (told_entries ys) now) (drop_all places n all)) ∙ far.sets f ys stand

-- one more, in what is told of a content
pub next_set : (i : Images) (ps places : List ℕ) (n : ℕ) (old now next : Records) (o a : Option (List (List ℕ))) → o ≡ a → n < length places → IfSome a (SetsSoFar i ps places n old now) → IfSome o (SetsAt i ps (get_or places n 0) now next) →
    IfSome a (SetsSoFar i ps places (n + 1) old next)
next_set i ps places n old now next o a same before far set = by_content a far (subst (λ (x : Option (List (List ℕ))). IfSome x (SetsAt i ps (get_or places n 0) now next)) same set)
  where
    by_content : (a : Option (List (List ℕ))) → IfSome a (SetsSoFar i ps places n old now) → IfSome a (SetsAt i ps (get_or places n 0) now next) → IfSome a (SetsSoFar i ps places (n + 1) old next)
    by_content None far set = tt
    by_content (Some c) far set = one_set i ps places n (get_or places n 0) old now next c before refl far set

-- Whole journals.

pub read_so : (follow : ImagesAreRead) (i : Images) (from : ℕ) (hs : List EntryHead) (ps : List ℕ) (c : List (List ℕ)) →
    ((es front : List disk.Entry) → IsJournal c i.span es → (read : AreRead i.span es front from) → AreHeadsOf hs ps (placed from read.back)) → ReadsFrom i from hs ps c
read_so follow i from hs ps c told f j has place =
    let r = follow c i.span f j place.newer place.older from has place.split place.at in
    r.read hs ps (told (disk_entries f j.entries) (disk_entries f place.older) has.spelled r.begin)

pub none_read : (follow : ImagesAreRead) (i : Images) (from : ℕ) (hs : List EntryHead) (ps : List ℕ) (c : List (List ℕ)) →
    ((es front : List disk.Entry) → IsJournal c i.span es → AreRead i.span es front from → false ≡ true) → ReadsFrom i from hs ps c
none_read follow i from hs ps c told f j has place =
    let r = follow c i.span f j place.newer place.older from has place.split place.at in
    let differ = told (disk_entries f j.entries) (disk_entries f place.older) has.spelled r.begin in
    let no : ⊥ = cc in
    absurd no

module _ (follow : ImagesAreRead) (stands : ImagesArePlaced) (rolls : PlacesAreRolled) (i : Images) (until : ℕ) (old new : Records) (hs : List EntryHead) (ps : List ℕ) (c : List (List ℕ)) where
  pub forward_so : (from : ℕ) → ReadsFrom i from hs ps c → SetsPlaces i ps (applied_places until (map header_told hs)) old new c → RollsForward i from until old new c
  forward_so from read sets f j has place of =
      let r = follow c i.span f j place.newer place.older from has place.split place.at in
      let reads = read f j has place in
      let stand = stand_in c i.span f i.organization j.entries place.newer place.older hs ps place.split (stands c i.span f j has) (subst (AreOf i.organization) r.newer_since of) reads in
      subst (λ (es : List Entry). RollsTo until es old new) (sym r.newer_since) (rolled_on rolls f place.newer hs ps reads until old new (sets f (reverse place.newer) stand))

  pub back_so : ReadsFrom i i.span.first hs ps c → SetsPlaces i ps (undone_places until (map header_told hs)) old new c → RollsBack i until old new c
  back_so read sets f j has of =
      let first = has.first in
      let place : IsPlace i.span.first j = record { newer = j.entries; older = []; split = sym (append-nil j.entries); at = omega (arith, first) } in
      let reads = read f j has place in
      let stand = stand_in c i.span f i.organization j.entries j.entries [] hs ps (sym (append-nil j.entries)) (stands c i.span f j has) of reads in
      rolled_off rolls f j.entries hs ps reads until old new (sets f (reverse j.entries) stand)

-- the same, in what is told of a content
module _ (follow : ImagesAreRead) (stands : ImagesArePlaced) (rolls : PlacesAreRolled) (i : Images) (until : ℕ) (old new : Records) (hs : List EntryHead) (ps qs places : List ℕ) (o a : Option (List (List ℕ))) (same : o ≡ a) (at : qs ≡ ps) (sets : IfSome o (SetsPlaces i qs places old new)) where
  pub forward_told : (from : ℕ) → places ≡ applied_places until (map header_told hs) → IfSome a (ReadsFrom i from hs ps) → IfSome a (RollsForward i from until old new)
  forward_told from are read = by_content a read (subst (λ (x : Option (List (List ℕ))). IfSome x (SetsPlaces i qs places old new)) same sets)
    where
      by_content : (a : Option (List (List ℕ))) → IfSome a (ReadsFrom i from hs ps) → IfSome a (SetsPlaces i qs places old new) → IfSome a (RollsForward i from until old new)
      by_content None read set = tt
      by_content (Some c) read set = forward_so follow stands rolls i until old new hs ps c from read (subst (λ (ns : List ℕ). SetsPlaces i ps ns old new c) are (subst (λ (rs : List ℕ). SetsPlaces i rs places old new c) at set))

  pub back_told : places ≡ undone_places until (map header_told hs) → IfSome a (ReadsFrom i i.span.first hs ps) → IfSome a (RollsBack i until old new)
  back_told are read = by_content a read (subst (λ (x : Option (List (List ℕ))). IfSome x (SetsPlaces i qs places old new)) same sets)
    where
      by_content : (a : Option (List (List ℕ))) → IfSome a (ReadsFrom i i.span.first hs ps) → IfSome a (SetsPlaces i qs places old new) → IfSome a (RollsBack i until old new)
      by_content None read set = tt
      by_content (Some c) read set = back_so follow stands rolls i until old new hs ps c read (subst (λ (ns : List ℕ). SetsPlaces i ps ns old new c) are (subst (λ (rs : List ℕ). SetsPlaces i rs places old new c) at set))

-- Stores.

pub fails_later : (e : ReadErr) (a b d : StoreState) → Stays a b → ReadFails e b d → ReadFails e a d
fails_later Memory a b d stays fails = stays_read a b d stays tt fails
fails_later (Down down) a b d stays fails = fell_later a b d stays down fails

pub on_ok : {T E P Q : Type 0} (r : Result T E) → (P → Q) → OnOk r P → OnOk r Q
on_ok (Ok x) f p = f p
on_ok (Err e) f p = tt

pub memory_fails : {T : Type 0} (r : Result T ReadErr) (a b : StoreState) → Stays a b → IfErr r (λ e. e ≡ Memory) → IfErr r (λ e. ReadFails e a b)
memory_fails (Ok x) a b stays is = tt
memory_fails (Err e) a b stays is = subst (λ (x : ReadErr). ReadFails x a b) (sym is) stays

-- the entry that was read is set
pub sets_read : (i : Images) (p : ℕ) (o : Option (EntryHead × ℕ)) (h : EntryHead) (next : ℕ) (image : List ℕ) (old new : Records) (c : Option (List (List ℕ))) → o ≡ Some (h, next) → IfSome c (ReadsAt i.span p o image) →
    new ≡ set_changed (changed_key i.organization h) (changed_image h image) old → IfSome c (SetsEntry i p old new)
sets_read i p o h next image old new None is read set = tt
sets_read i p o h next image old new (Some x) is read set = set_here i p h next image old new x set (subst (λ (q : Option (EntryHead × ℕ)). ReadsAt i.span p q image x) is read)
