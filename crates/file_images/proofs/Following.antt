-- The bytes of a ring follow a journal of images.
use Rattle.std.proofs.Common.{◌≡◌, ℕ, ◌+◌, ◌-◌, true, false, List, [], ◌∷◌, ◌++◌, length, map, refl, sym, ◌∙◌, ap, subst, arith}
use Rattle.std.specs.Prelude.{if◌then◌else◌, reverse}
use Rattle.std.specs.List.{flat_map, AllByRecursion}
use Rattle.std.proofs.lemmas.List.{map-append, reverse-append}
use Rattle.unit_entries.specs.file_base.declared.head.Span.{Span}
use Rattle.vms_model.specs.Ids.{Id}
use Rattle.unit_entries.specs.journal_model.Entries.{Entry, IsEntry, spelling}
use Rattle.unit_entries.specs.journal_model.Ring.{stream, put_stream, IsJournal}
use Rattle.unit_entries.proofs.journal_store.EntriesAt.{length-stream}
use Rattle.unit_entries.proofs.journal_store.Journals.{appended}
use Rattle.unit_entries.proofs.ReadLemmas.{spelled_more}
use Rattle.unit_entries.specs.recovery_model.Journal as image
use Rattle.unit_entries.specs.recovery_model.Journal.{entry_length}
use Rattle.unit_entries.specs.recovery_model.File.{Placed, ImageJournal, append, entries_length}
use Rattle.file_images.specs.Images.{disk_entry, disk_entries, HasImageJournal}
use Rattle.file_images.specs.Laws.{next_placed, ImagesStand, ImagesGrow, ImagesBegin}
use Rattle.file_images.proofs.Sizes.{entry_long}

-- Entries, the oldest first.

pub last_entry : (f : ℕ) (x : Placed) (xs : List Placed) → disk_entries f (x ∷ xs) ≡ disk_entries f xs ++ disk_entry f x ∷ []
last_entry f x xs = ap (map (disk_entry f)) (reverse-append (x ∷ []) xs) ∙ map-append (disk_entry f) (reverse xs) (x ∷ [])

pub all_front : (xs ys : List Entry) → AllByRecursion IsEntry (xs ++ ys) → AllByRecursion IsEntry xs
all_front [] ys all = tt
all_front (x ∷ xs) ys all = (all.0, all_front xs ys all.1)

pub all_back : (xs ys : List Entry) → AllByRecursion IsEntry (xs ++ ys) → AllByRecursion IsEntry ys
all_back [] ys all = all
all_back (x ∷ xs) ys all = all_back xs ys all.1

-- Sizes.

pub sized : (f : ℕ) (xs : List Placed) → AllByRecursion IsEntry (disk_entries f xs) → length (flat_map spelling (disk_entries f xs)) ≡ entries_length xs
sized f [] all = refl
sized f (x ∷ xs) all =
    let is = subst (AllByRecursion IsEntry) (last_entry f x xs) all in
    let own = entry_long f x (all_back (disk_entries f xs) (disk_entry f x ∷ []) is).0 in
    let before = sized f xs (all_front (disk_entries f xs) (disk_entry f x ∷ []) is) in
    let whole = ap (λ (es : List Entry). length (flat_map spelling es)) (last_entry f x xs) ∙ spelled_more (disk_entries f xs) (disk_entry f x) in
    omega (arith, own, before, whole)

-- the end is behind all entries
pub end_is : (c : List (List ℕ)) (s : Span) (f : ℕ) (j : ImageJournal) → HasImageJournal c s f j → j.end ≡ j.first + entries_length j.entries
end_is c s f j has =
    let whole : s.end - s.first ≡ length (flat_map spelling (disk_entries f j.entries)) = sym (length-stream (s.end - s.first) c s s.first) ∙ ap length has.spelled.spelled in
    let size = sized f j.entries has.spelled.each in
    let order = has.spelled.order in
    let first = has.first in
    let end = has.end in
    omega (arith, whole, size, order, first, end)

pub images_stand : ImagesStand
images_stand c s f j has = let end = end_is c s f j has in record { places = has.places; within = omega (arith, end); end = λ on. end; bare = λ off. let both : true ≡ false = sym has.on ∙ off in let no : ⊥ = cc in absurd no }

-- One entry more.

pub append_on : (tid : Id) (e : image.Entry) (j : ImageJournal) → j.on ≡ true → append tid e j ≡ record j { end = j.end + entry_length e; entries = next_placed j tid e ∷ j.entries }
append_on tid e j on = ap (λ b. if b then record j { end = j.end + entry_length e; entries = next_placed j tid e ∷ j.entries } else j) on

pub images_grow : ImagesGrow
images_grow c s f j tid e has is room =
    let d = disk_entry f (next_placed j tid e) in
    let long = entry_long f (next_placed j tid e) is in
    let end = has.end in
    subst (HasImageJournal (put_stream c s s.end (spelling d)) (record s { end = s.end + length (spelling d) }) f) (sym (append_on tid e j has.on)) record {
      on = has.on;
      start = has.start;
      blocks = has.blocks;
      first = has.first;
      end = omega (arith, long, end);
      spelled = subst (IsJournal (put_stream c s s.end (spelling d)) (record s { end = s.end + length (spelling d) })) (sym (last_entry f (next_placed j tid e) j.entries)) (appended c s (disk_entries f j.entries) d has.spelled is (omega (arith, long, room)));
      places = (end_is c s f j has, has.places);
    }

-- An empty journal.

nothing_there : (c : List (List ℕ)) (s : Span) (n : ℕ) → n ≡ 0 → stream c s s.first n ≡ []
nothing_there c s n e = ap (stream c s s.first) e

pub images_begin : ImagesBegin
images_begin c s f j ring first end = record {
  on = refl;
  start = refl;
  blocks = refl;
  first = first;
  end = end ∙ first;
  spelled = record { ring = ring; order = omega (arith, end); room = omega (arith, end); spelled = nothing_there c s (s.end - s.first) (omega (arith, end)); each = tt };
  places = tt;
}
