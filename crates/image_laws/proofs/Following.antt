-- The entries of a journal of images are read from its ring.
use Rattle.std.proofs.Common.{◌≡◌, ℕ, ◌+◌, List, [], ◌∷◌, ◌++◌, length, map, refl, sym, ◌∙◌, ap, subst, arith, append_assoc}
use Rattle.std.specs.Prelude.{if◌then◌else◌, nat_le, reverse}
use Rattle.std.specs.List.{AllByRecursion}
use Rattle.std.proofs.lemmas.Bool.{le-leb, lt-leb}
use Rattle.std.proofs.lemmas.List.{map-append, reverse-append}
use Rattle.file_base.specs.declared.head.Span.{Span}
use Rattle.records_model.proofs.SlotLaws.{if_true, if_false}
use Rattle.file_images.specs.journal_model.Entries.{Entry, IsEntry, spelling}
use Rattle.image_journals.specs.journal_format.declared.head.EntryHead.{EntryHead}
use Rattle.file_images.proofs.journal_store.EntriesAt.{stands_in}
use Rattle.image_entries.specs.unit_entries.Reading.{AreRead, placed}
use Rattle.file_images.specs.recovery_model.Journal as image
use Rattle.file_images.specs.recovery_model.Journal.{entry_length}
use Rattle.file_images.specs.recovery_model.Places.{Header, header_of}
use Rattle.file_images.specs.recovery_model.File.{Placed, ImageJournal, all_of, since, entries_length, StandFrom}
use Rattle.image_journals.specs.Headers.{header_told}
use Rattle.image_entries.specs.Entries.{AreHeadsOf}
use Rattle.file_images.specs.Images.{disk_entry, disk_entries, HasImageJournal}
use Rattle.file_images.proofs.Sizes.{entry_long, entry_counts}
use Rattle.file_images.proofs.Following.{last_entry, all_front, all_back, sized, end_is}
use Rattle.image_laws.specs.Laws.{ImagesAreRead, IsPlacedIn, ImagesArePlaced}
use Rattle.image_laws.proofs.Entries.{head_tells}

-- Entries, the oldest first.

two_parts : (f : ℕ) (newer older : List Placed) → disk_entries f (newer ++ older) ≡ disk_entries f older ++ disk_entries f newer
two_parts f newer older = ap (map (disk_entry f)) (reverse-append newer older) ∙ map-append (disk_entry f) (reverse older) (reverse newer)

-- Sizes.

size_append : (xs ys : List Placed) → entries_length (xs ++ ys) ≡ entries_length xs + entries_length ys
size_append [] ys = omega arith
size_append (x ∷ xs) ys = let rest = size_append xs ys in omega (arith, rest)

size_reverse : (xs : List Placed) → entries_length (reverse xs) ≡ entries_length xs
size_reverse [] = refl
size_reverse (x ∷ xs) = let turned = ap entries_length (reverse-append (x ∷ []) xs) ∙ size_append (reverse xs) (x ∷ []) in let rest = size_reverse xs in omega (arith, turned, rest)

-- Reading.

since_none : (first p : ℕ) (xs : List Placed) → p ≡ first + entries_length xs → StandFrom first xs → since p xs ≡ []
since_none first p [] e places = refl
since_none first p (x ∷ xs) e places = let at = places.0 in let some = entry_counts x in if_false (nat_le p x.at) _ _ (lt-leb p x.at (omega (arith, e, at, some)))

since_all : (first p : ℕ) (newer older : List Placed) → p ≡ first + entries_length older → StandFrom first (newer ++ older) → since p (newer ++ older) ≡ all_of newer
since_all first p [] older e places = since_none first p older e places
since_all first p (x ∷ newer) older e places =
    let at = places.0 in
    let size = size_append newer older in
    if_true (nat_le p x.at) _ _ (le-leb p x.at (omega (arith, e, at, size))) ∙ ap (λ (es : List image.Entry). x.entry ∷ es) (since_all first p newer older e places.1)

stand_newer : (first p : ℕ) (newer older : List Placed) → p ≡ first + entries_length older → StandFrom first (newer ++ older) → StandFrom p newer
stand_newer first p [] older e places = tt
stand_newer first p (x ∷ newer) older e places = let at = places.0 in let size = size_append newer older in (omega (arith, e, at, size), stand_newer first p newer older e places.1)

-- each entry stands behind those before it, where the oldest comes first
abbrev AtFrom : ℕ → List Placed → Type 0
AtFrom p [] = Unit {0}
AtFrom p (y ∷ ys) = (y.at ≡ p) × AtFrom (p + entry_length y.entry) ys

at_behind : (p : ℕ) (ys : List Placed) (y : Placed) → AtFrom p ys → y.at ≡ p + entries_length ys → AtFrom p (ys ++ y ∷ [])
at_behind p [] y all at = (omega (arith, at), tt)
at_behind p (x ∷ ys) y all at = (all.0, at_behind (p + entry_length x.entry) ys y all.1 (omega (arith, at)))

at_from : (p : ℕ) (xs : List Placed) → StandFrom p xs → AtFrom p (reverse xs)
at_from p [] places = tt
at_from p (x ∷ xs) places =
    let size = size_reverse xs in
    let at = places.0 in
    subst (AtFrom p) (sym (reverse-append (x ∷ []) xs)) (at_behind p (reverse xs) x (at_from p xs places.1) (omega (arith, size, at)))

read_so : (f p : ℕ) (ys : List Placed) (hs : List EntryHead) (ps : List ℕ) → AtFrom p ys → AllByRecursion IsEntry (map (disk_entry f) ys) → AreHeadsOf hs ps (placed p (map (disk_entry f) ys)) →
    (map header_told hs ≡ map (λ (y : Placed). header_of y.entry) ys) × (ps ≡ map (λ (y : Placed). y.at) ys)
read_so f p [] [] [] at all are = (refl, refl)
read_so f p [] [] (q ∷ ps) at all are = absurd are
read_so f p [] (h ∷ hs) [] at all are = absurd are
read_so f p [] (h ∷ hs) (q ∷ ps) at all are = absurd are
read_so f p (y ∷ ys) [] [] at all are = absurd are
read_so f p (y ∷ ys) [] (q ∷ ps) at all are = absurd are
read_so f p (y ∷ ys) (h ∷ hs) [] at all are = absurd are
read_so f p (y ∷ ys) (h ∷ hs) (q ∷ ps) at all are =
    let size = entry_long f y all.0 in
    let behind = subst (λ (n : ℕ). AtFrom (p + n) ys) (sym size) at.1 in
    let rest = read_so f (p + length (spelling (disk_entry f y))) ys hs ps behind all.1 are.2 in
    ((λ i. head_tells h (disk_entry f y).image f y are.1 i ∷ rest.0 i), (λ i. (are.0 ∙ sym at.0) i ∷ rest.1 i))

-- the entries at their positions
placed_so : (f p : ℕ) (ys : List Placed) → AtFrom p ys → AllByRecursion IsEntry (map (disk_entry f) ys) → placed p (map (disk_entry f) ys) ≡ map (λ (y : Placed). (y.at, disk_entry f y)) ys
placed_so f p [] at all = refl
placed_so f p (y ∷ ys) at all =
    let size = entry_long f y all.0 in
    let behind = subst (λ (n : ℕ). AtFrom (p + n) ys) (sym size) at.1 in
    λ i. (sym at.0 i, disk_entry f y) ∷ placed_so f (p + length (spelling (disk_entry f y))) ys behind all.1 i

told_turned : (xs : List Placed) → map (λ (y : Placed). header_of y.entry) (reverse xs) ≡ map header_of (reverse (all_of xs))
told_turned [] = refl
told_turned (x ∷ xs) =
    ap (map (λ (y : Placed). header_of y.entry)) (reverse-append (x ∷ []) xs) ∙ map-append (λ (y : Placed). header_of y.entry) (reverse xs) (x ∷ []) ∙
    ap (λ (hs : List Header). hs ++ header_of x.entry ∷ []) (told_turned xs) ∙
    sym (ap (map header_of) (reverse-append (x.entry ∷ []) (all_of xs)) ∙ map-append header_of (reverse (all_of xs)) (x.entry ∷ []))

pub images_are_read : ImagesAreRead
images_are_read c s f j newer older p has are at =
    let places = subst (StandFrom j.first) are has.places in
    let split = ap (disk_entries f) are ∙ two_parts f newer older in
    let each = subst (AllByRecursion IsEntry) split has.spelled.each in
    let size = sized f older (all_front (disk_entries f older) (disk_entries f newer) each) in
    let first = has.first in
    record {
      newer_since = ap (since p) are ∙ since_all j.first p newer older at places;
      begin = record { back = disk_entries f newer; split = split; place = omega (arith, at, size, first) };
      back = refl;
      read = λ heads positions told.
          let stands = at_from p newer (stand_newer j.first p newer older at places) in
          let each_newer = all_back (disk_entries f older) (disk_entries f newer) each in
          let x = read_so f p (reverse newer) heads positions stands each_newer told in
          record { headers = x.0 ∙ told_turned newer; positions = x.1; entries = subst (AreHeadsOf heads positions) (placed_so f p (reverse newer) stands each_newer) told };
    }

-- Each entry by itself.

stand_older : (first : ℕ) (newer older : List Placed) → StandFrom first (newer ++ older) → StandFrom first older
stand_older first [] older places = places
stand_older first (x ∷ newer) older places = stand_older first newer older places.1

module _ (c : List (List ℕ)) (s : Span) (f : ℕ) (j : ImageJournal) (has : HasImageJournal c s f j) where
  is_placed : (newer older : List Placed) (x : Placed) → j.entries ≡ newer ++ x ∷ older → IsPlacedIn c s f x
  is_placed newer older x are =
      let places = stand_older j.first newer (x ∷ older) (subst (StandFrom j.first) are has.places) in
      let split = ap (disk_entries f) are ∙ two_parts f newer (x ∷ older) ∙ ap (λ (es : List Entry). es ++ disk_entries f newer) (last_entry f x older) ∙ append_assoc (disk_entries f older) (disk_entry f x ∷ []) (disk_entries f newer) in
      let each = subst (AllByRecursion IsEntry) split has.spelled.each in
      let own = all_back (disk_entries f older) (disk_entry f x ∷ disk_entries f newer) each in
      let size = sized f older (all_front (disk_entries f older) (disk_entry f x ∷ disk_entries f newer) each) in
      let whole = ap entries_length are ∙ size_append newer (x ∷ older) in
      let at = places.0 in
      let first = has.first in
      let end = has.end in
      let last = end_is c s f j has in
      record {
        is = own.0;
        stands = stands_in c s (disk_entries f j.entries) x.at (disk_entry f x) has.spelled (record { front = disk_entries f older; back = disk_entries f newer; split = split; place = omega (arith, at, size, first) });
        within = omega (arith, at, first, end, last, whole);
      }

  each_placed : (newer older : List Placed) → j.entries ≡ newer ++ older → AllByRecursion (IsPlacedIn c s f) older
  each_placed newer [] are = tt
  each_placed newer (x ∷ older) are = (is_placed newer older x are, each_placed (newer ++ x ∷ []) older (are ∙ sym (append_assoc newer (x ∷ []) older)))

pub images_placed : ImagesArePlaced
images_placed c s f j has = each_placed c s f j has [] j.entries refl
