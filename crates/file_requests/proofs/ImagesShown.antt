-- The entries of a file's journal of images, as those of any journal.
use Rattle.std.proofs.Common.{◌≡◌, ⊎_elim, ℕ, zero, suc, ◌+◌, ◌-◌, ◌*◌, ◌<◌, ◌≤◌, ◌^◌, List, [], ◌∷◌, ◌++◌, Bool, true, false, Option, Some, None, if◌then◌else◌, length, map, refl, sym, ap, subst, ◌∙◌, arith}
use Rattle.std.specs.Prelude.{reverse}
use Rattle.std.specs.List.{AllByRecursion}
use Rattle.std.proofs.lemmas.Bool.{cases_lt}
use Rattle.std.proofs.lemmas.List.{map-append, reverse-append}
use Rattle.block_disk.specs.Disk.{DiskState}
use Rattle.file_base.specs.declared.head.FileHead.{FileHead}
use Rattle.file_base.specs.declared.head.Organization.{Organization}
use Rattle.file_base.specs.declared.head.Span.{Span}
use Rattle.file_images.specs.Files.{HasSide}
use Rattle.file_images.specs.Images.{disk_entries, disk_entry}
use Rattle.file_images.specs.Laws.{ImagesStand}
use Rattle.recovery_units.specs.image_appends.declared.side.Side.TheVariants.{After, Before}
use Rattle.recovery_units.specs.image_appends.Images.{is_kept, span_of}
use Rattle.recovery_units.proofs.image_room.Rings.{ring_in}
use Rattle.journal_format.specs.journal_model.Entries.{Entry}
use Rattle.journal_format.specs.journal_model.Ring.{ring_size}
use Rattle.journal_store.specs.Rings.{IsRing}
use Rattle.emitter_model.specs.transcript_model.Lines.{Line}
use Rattle.file_images.specs.unit_laws.Journal.{Journal, JournalEntry, end_of, entries_size, entry_size}
use Rattle.file_images.proofs.unit_laws.TrimLemmas.{size_append}
use Rattle.vms_model.specs.Ids.{Id}
use Rattle.file_images.specs.recovery_model.Journal.{Changed, Settled, entry_in, entry_length}
use Rattle.file_images.specs.recovery_model.Journal as image
use Rattle.file_images.specs.recovery_model.File.{ImageJournal, Placed, StandFrom, all_of, entries_length}
use Rattle.file_images.specs.run_model.Answers.{entry_line, entry_lines, image_line, image_lines}
use Rattle.volume.specs.declared.catalog.Catalog.{Catalog}
use Rattle.volume.specs.State.{VolumeState}
use Rattle.recovery_units.specs.volume_model.Entries.{AreEntries, IsFileOf, entry_for}
use Rattle.recovery_units.proofs.volume_model.EntryLemmas.{entries_follow}
use Rattle.directory_model.specs.Files.{AreNamedOnce, IsNamed, head_at}
use Rattle.recovery_units.specs.State.{IsEarly, IsImageShowable, IsInOrder, IsKeyBy, IsShowable, UnitsState}
use Rattle.file_requests.specs.Listing.{HasShowable}
use Rattle.file_requests.proofs.JournalShown.{lines_more}

abbrev one : (name : List ℕ) → Placed → JournalEntry
one name x = entry_in x.tid name x.entry

-- the entries, the oldest first, of the file of this name
abbrev pub told : (name : List ℕ) → List Placed → List JournalEntry
told name [] = []
told name (x ∷ xs) = told name xs ++ one name x ∷ []

abbrev pub journal_of : (name : List ℕ) → ImageJournal → Journal
journal_of name j = record { first = j.first; entries = told name j.entries }

size_one : (tid : Id) (name : List ℕ) (e : image.Entry) → entry_size (entry_in tid name e) ≡ entry_length e
size_one tid name (Changed serial key value) = refl
size_one tid name (Settled serial outcome moment) = refl

pub size_told : (name : List ℕ) (xs : List Placed) → entries_size (told name xs) ≡ entries_length xs
size_told name [] = refl
size_told name (x ∷ xs) =
    let more = size_append (told name xs) (one name x ∷ []) in
    let own = size_one x.tid name x.entry in
    let rest = size_told name xs in
    omega (arith, more, own, rest)

lines_last : (name : List ℕ) (x : Placed) (xs : List Placed) → image_lines name (x ∷ xs) ≡ image_lines name xs ++ image_line name x ∷ []
lines_last name x xs = reverse-append (image_line name x ∷ []) (map (image_line name) xs)

-- they are shown as the entries of a journal are
pub lines_told : (name : List ℕ) (first : ℕ) (xs : List Placed) → StandFrom first xs → entry_lines first (told name xs) ≡ image_lines name xs
lines_told name first [] places = refl
lines_told name first (x ∷ xs) places =
    let at : first + entries_size (told name xs) ≡ x.at = ap (λ (k : ℕ). first + k) (size_told name xs) ∙ sym places.0 in
    lines_more first (told name xs) (one name x ∷ [])
    ∙ (λ i. lines_told name first xs places.1 i ++ entry_line (at i) (one name x) ∷ [])
    ∙ sym (lines_last name x xs)

entries_last : (f : ℕ) (x : Placed) (xs : List Placed) → disk_entries f (x ∷ xs) ≡ disk_entries f xs ++ disk_entry f x ∷ []
entries_last f x xs = ap (map (disk_entry f)) (reverse-append (x ∷ []) xs) ∙ map-append (disk_entry f) (reverse xs) (x ∷ [])

module _ (heads : List (Option FileHead)) (f : ℕ) (h : FileHead) (name : List ℕ) (there : head_at heads f ≡ Some h) (named : h.name ≡ name) where
  one_alike : (tid : Id) (e : image.Entry) (x : Placed) → x.tid ≡ tid → x.entry ≡ e → AreEntries heads (entry_in tid name e ∷ []) (disk_entry f x ∷ [])
  one_alike tid (Changed serial key value) x t e = (f, (h, there, named), (λ i. disk_entry f (record { at = x.at; tid = t i; entry = e i })), tt)
  one_alike tid (Settled serial outcome moment) x t e = (f, tt, (λ i. disk_entry f (record { at = x.at; tid = t i; entry = e i })), tt)

  -- they are those on the disk
  pub alike : (xs : List Placed) → AreEntries heads (told name xs) (disk_entries f xs)
  alike [] = tt
  alike (x ∷ xs) = subst (AreEntries heads (told name xs ++ one name x ∷ [])) (sym (entries_last f x xs)) (entries_follow.joined heads (told name xs) (one name x ∷ []) (disk_entries f xs) (disk_entry f x ∷ []) (alike xs) (one_alike x.tid x.entry x refl refl))

  module _ (greatest : ℕ) (once : (g : ℕ) (k : FileHead) → head_at heads g ≡ Some k → k.name ≡ name → k.organization ≡ h.organization) where
    one_showable : (tid : Id) (e : image.Entry) → IsImageShowable h.organization greatest e → IsShowable heads greatest (entry_in tid name e)
    one_showable tid (Changed serial key value) is = λ g k at same. subst (λ (o : Organization). IsKeyBy o key) (sym (once g k at same)) is
    one_showable tid (Settled serial outcome moment) is = is

    all_on : (es fs : List JournalEntry) → AllByRecursion (IsShowable heads greatest) es → AllByRecursion (IsShowable heads greatest) fs → AllByRecursion (IsShowable heads greatest) (es ++ fs)
    all_on [] fs p q = q
    all_on (e ∷ es) fs p q = (p.0, all_on es fs p.1 q)

    -- each can be shown
    pub showable : (xs : List Placed) → AllByRecursion (IsImageShowable h.organization greatest) (all_of xs) → AllByRecursion (IsShowable heads greatest) (told name xs)
    showable [] each = tt
    showable (x ∷ xs) each = all_on (told name xs) (one name x ∷ []) (showable xs each.1) (one_showable x.tid x.entry each.0, tt)

-- The rings.

-- that of recovery units
pub units_ring : (s : UnitsState) (v : VolumeState) → IsInOrder s v → IsEarly v → IsRing v.catalog.ru v.store.disk
units_ring s v o early = record {
  from = let a = o.sound.ru_start in omega (arith, a);
  to = let a = o.sound.ru_start in let b = o.sound.ru_blocks in let c = o.sound.sizes.room in omega (arith, a, b, c);
  fits = o.most;
  some = let b = o.sound.ru_blocks in let c = o.sound.sizes.least_journal in omega (arith, b, c);
  order = o.ascends;
  low = let a = early.low in omega (arith, a);
  room = let a = o.room in omega (arith, a);
}

-- and those of a file's journals of images
pub after_ring : (s : UnitsState) (v : VolumeState) (f : ℕ) (h : FileHead) → IsInOrder s v → head_at v.catalog.heads f ≡ Some h → h.marks.ai ≡ true → IsRing h.ai v.store.disk
after_ring s v f h o there kept = (ring_in v.catalog.home.node v.catalog v.store.disk o.heads o.sound After f h there kept 0 o.most (let room = (o.images f h there).0 kept in omega (arith, room))).ring

pub before_ring : (s : UnitsState) (v : VolumeState) (f : ℕ) (h : FileHead) → IsInOrder s v → head_at v.catalog.heads f ≡ Some h → h.marks.bi ≡ true → IsRing h.bi v.store.disk
before_ring s v f h o there kept = (ring_in v.catalog.home.node v.catalog v.store.disk o.heads o.sound Before f h there kept 0 o.most (let room = (o.images f h there).1 kept in omega (arith, room))).ring

-- a file's name is that of no other head
pub named_alone : (heads : List (Option FileHead)) (f : ℕ) (h : FileHead) (name : List ℕ) → IsNamed heads f h name → AreNamedOnce heads → (g : ℕ) (k : FileHead) → head_at heads g ≡ Some k → k.name ≡ name → k.organization ≡ h.organization
named_alone heads f h name n once g k at same =
    ⊎_elim
    (λ lower. absurd (n.lowest g k lower at same))
    (λ behind. ⊎_elim
    (λ higher. absurd (once g k at f h higher n.there (n.called ∙ sym same)))
    (λ back. ap (λ (x : FileHead). x.organization) (one_head k h (sym at ∙ ap (head_at heads) (same_number g f behind back) ∙ n.there)))
    (cases_lt f g))
    (cases_lt g f)
  where
    one_head : (x y : FileHead) → ◌≡◌ {A = Option FileHead} (Some x) (Some y) → x ≡ y
    one_head x y e = cc

    same_number : (a b : ℕ) → b ≤ a → a ≤ b → a ≡ b
    same_number a b p q = omega (arith, p, q)

-- A ring of a file's journal of images can be shown.
pub side_shown : (stand : ImagesStand) (v : VolumeState) (s : Span) (content : List (List ℕ)) (f : ℕ) (h k : FileHead) (name : List ℕ) (j : ImageJournal) → IsNamed v.catalog.heads f h name → AreNamedOnce v.catalog.heads → HasSide content true s f k j →
    AllByRecursion (IsImageShowable h.organization v.catalog.home.greatest_moment.0) (all_of j.entries) → HasShowable v s content (journal_of name j)
side_shown stand v s content f h k name j named once side each =
    let images = side.images refl in
    record {
      entries = disk_entries f j.entries;
      is = images.spelled;
      alike = alike v.catalog.heads f h name named.there named.called j.entries;
      first = side.first;
      end = side.end ∙ (stand content s f j images).end images.on ∙ ap (λ (n : ℕ). j.first + n) (sym (size_told name j.entries));
      showable = showable v.catalog.heads f h name named.there named.called v.catalog.home.greatest_moment.0 (named_alone v.catalog.heads f h name named once) j.entries each;
    }
