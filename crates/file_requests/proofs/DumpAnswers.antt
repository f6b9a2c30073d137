-- Statements that show line after line, from what each of them comes to.
use Rattle.std.proofs.Common.{◌≡◌, ℕ, zero, suc, ◌+◌, ◌*◌, ◌^◌, ◌<◌, ◌≤◌, inl, Bool, true, false, not, if◌then◌else◌, List, [], ◌∷◌, Option, Some, None, IfSome, Result, Ok, Err, OnOk, length, refl, sym, ◌∙◌, ap, subst, arith}
use Rattle.std.specs.Prelude.{map}
use Rattle.std.specs.FinMap.{get, entries}
use Rattle.block_disk.specs.Blocks.{block_at}
use Rattle.block_disk.specs.Disk.{DiskState}
use Rattle.careful_write.specs.Down.{answered}
use Rattle.careful_write.specs.declared.down.Down.{Down}
use Rattle.file_base.specs.declared.head.FileHead.{FileHead}
use Rattle.file_base.specs.declared.head.Span.{Span}
use Rattle.file_images.specs.Files.{HasSide, form_of}
use Rattle.file_images.specs.Images.{HasImageJournal}
use Rattle.file_images.specs.record_files.Any.{IsFile, IsLaidOut, map_of}
use Rattle.script_lang.specs.script_model.Statements.{Dump, DumpImages, DumpJournal, Side, AfterImages, BeforeImages}
use Rattle.emitter_model.specs.Emitting.{Shown, Emits, Since}
use Rattle.journal_store.specs.Rings.{IsRing}
use Rattle.emitter_model.specs.transcript_model.Lines as line
use Rattle.emitter_model.specs.transcript_model.Lines.{Line}
use Rattle.volume.specs.declared.catalog.Catalog.{Catalog}
use Rattle.volume.specs.Catalogs.{TellsCatalog, TellsEntry}
use Rattle.recovery_units.specs.volume_model.Volumes.{HasDisk, IsEitherOf}
use Rattle.vms_model.specs.Ids.{Id}
use Rattle.vms_model.specs.Keys.{Key}
use Rattle.records_model.specs.History.{current}
use Rattle.records_model.specs.Records.{Records}
use Rattle.file_images.specs.run_model.World.{File, Node, Shared, fallen}
use Rattle.file_images.specs.run_model.Answers.{Service, entry_lines, has_journal, image_lines, journal_at, service, shown_line, shown_record}
use Rattle.file_images.specs.run_model.Operations.{first_of, in_order, refused_if}
use Rattle.directory_model.specs.Files.{IsFile as IsFileHere, IsNamed, NoneNamed}
use Rattle.file_images.specs.unit_laws.Journal.{Journal, end_of}
use Rattle.unit_table.specs.Units as units
use Rattle.recovery_units.specs.State.{IsInOrder, IsKept}
use Rattle.node_standing.specs.node_table.Serving.{service_at}
use Rattle.node_standing.specs.node_table.Standing.{Stored}
use Rattle.recovery_units.specs.world_laws.Nodes.{IsUp}
use Rattle.node_files.proofs.CatalogLemmas.{fits_at, head_below, named_once, placed}
use Rattle.file_requests.specs.Listing.{HasShowable, Lists, Shows, ShowsJournal, record_line, span_at}
use Rattle.file_requests.specs.Replying.{IsPlain, RepliesIf}
use Rattle.file_requests.specs.Serving.{DoesThere, KeepsStored, SameStored, ServesFile, disk_of, name_of}
use Rattle.file_requests.specs.TheLaws.{TheLaws}
use Rattle.file_requests.proofs.Calls.{caused_read, goes_read, grows_still, images_still, on_ok_any, on_ok_then}
use Rattle.file_requests.proofs.Filing.{dump_absent, dump_early, locked_by}
use Rattle.file_requests.proofs.FileLemmas.{file_at_name, file_by, no_file, there_by}
use Rattle.file_requests.proofs.HeadWrites.{disk_sound, fallen_as, idle_leaves, kept_left}
use Rattle.file_requests.proofs.ImagesShown.{after_ring, before_ring, journal_of, lines_told, side_shown, told as told_of}
use Rattle.file_requests.proofs.Kept.{keeps_same}
use Rattle.file_requests.proofs.Reading.{kept_still, order_still}
use Rattle.file_requests.proofs.Served.{first_is, listed, refused, unlisted}

-- what reads alone come to
pub record Looked (r : Result (Unit {0}) Down) (u new : Stored) (a b : Shown) : Type 0 where
  pub same : OnOk r (SameStored u new)
  pub catalog : new.volume.catalog ≡ u.volume.catalog
  pub units : new.units ≡ u.units
  pub in_doubt : new.in_doubt ≡ u.in_doubt
  pub since : Since a b
  pub replies : RepliesIf r a b
  pub disk : disk_of new ≡ answered r (disk_of u)
  pub pool : new.volume.store.pool ≡ u.volume.store.pool

keeps_looked : (r : Result (Unit {0}) Down) (u new : Stored) (a b : Shown) → IsInOrder u.units u.volume → Looked r u new a b → KeepsStored 0 0 r u new a b
keeps_looked r u new a b o l = record {
  order = on_ok_then r (λ e. order_still u new e o) l.same;
  in_doubt = l.in_doubt;
  grows = grows_still u.volume new.volume (ap (λ (k : Catalog). k.home) l.catalog) (ap (λ (k : Catalog). k.ru) l.catalog) l.pool (goes_read r (disk_of u) (disk_of new) l.disk);
  images = on_ok_any r (images_still u.volume new.volume l.catalog);
  cause = caused_read r (disk_of u) (disk_of new) l.disk;
  since = l.since;
  replies = l.replies;
}

-- a read failed: the disk has what it had
read_fell : (n : Node) (u : Stored) (k : IsKept u.units u.volume n) (r : Result (Unit {0}) Down) (d : DiskState) → IsInOrder u.units u.volume → TheLaws → d ≡ answered r (disk_of u) → HasDisk (fallen None n) d
read_fell n u k r d o laws is =
    subst (λ x. HasDisk (fallen None n) x) (sym is)
    (disk_sound (fallen None n) (answered r (disk_of u)) k.has.home.volume
    (idle_leaves u.volume.store k.content (IsEitherOf (fallen None n)) o.idle k.told (inl (kept_left u.units u.volume n (fallen None n) k o laws.nodes (fallen_as None n)))))

-- which lines such a service shows at a node of the world, and how many of them were shown
pub record ListsAt (e : Service) (s : Shared) (n : Node) (r : Result (Unit {0}) Down) (a b : Shown) : Type 0 where
  pub lines : List Line
  pub answer : Line
  pub early : (service_at e s n).early ≡ None
  pub late : (service_at e s n).late ≡ None
  pub rows : (service_at e s n).rows ≡ map shown_line lines
  pub told : (service_at e s n).answer ≡ answer
  pub lists : Lists r lines answer a b

lists_serve : (e : Service) (s : Shared) (n : Node) (u : Stored) (k : IsKept u.units u.volume n) (r : Result (Unit {0}) Down) (new : Stored) (a b : Shown) → IsInOrder u.units u.volume → TheLaws → Looked r u new a b → ListsAt e s n r a b → DoesThere r (service_at e s n) s n u new a b
lists_serve e s n u k (Ok tt) new a b o laws l at =
    listed (service_at e s n) s n a b (SameStored u new) (IsKept new.units new.volume) (disk_of new) at.lines at.answer at.early at.late at.rows at.told (kept_still u new l.same n k) at.lists
lists_serve e s n u k (Err down) new a b o laws l at =
    unlisted (service_at e s n) s n a b (SameStored u new) (IsKept new.units new.volume) (disk_of new) at.lines at.answer at.early at.late at.rows at.told down (read_fell n u k (Err down) (disk_of new) o laws l.disk) at.lists

pub lists_up : (e : Service) (u new : Stored) (r : Result (Unit {0}) Down) (a b : Shown) → IsInOrder u.units u.volume → TheLaws → Looked r u new a b → ((s : Shared) (n : Node) → IsKept u.units u.volume n → IsUp n → ListsAt e s n r a b) → ServesFile r e u new a b
lists_up e u new r a b o laws l at = record {
  keeps = keeps_looked r u new a b o l;
  units = l.units;
  serves = λ s n ready. lists_serve e s n u ready.kept r new a b o laws l (at s n ready.kept ready.up);
}

-- DUMP

numbers_few : (n : ℕ) → n < 2 ^ 32 → n ≤ 4294967295
numbers_few n lt = omega arith

used_few : (start alloc bucket used size : ℕ) → 1 ≤ bucket → start + alloc * bucket ≤ size → size ≤ 65536 → used ≤ alloc → used ≤ 65536
used_few start alloc bucket used size one to fits most = let grown = alloc_few alloc bucket one in omega (arith, to, fits, most, grown)
  where
    alloc_few : (a b : ℕ) → 1 ≤ b → a ≤ a * b
    alloc_few a zero p = let no_way : ⊥ = omega (arith, p) in absurd no_way
    alloc_few zero (suc b) p = omega arith
    alloc_few (suc a) (suc b) p = let rest = alloc_few a (suc b) p in omega (arith, rest)

abbrev records_by : Option File → List (Key × List ℕ)
records_by o = elim o [ Some f ↦ in_order f | None ↦ [] ]

records_shown : (es : List (Key × List ℕ)) → map shown_record es ≡ map shown_line (map record_line es)
records_shown [] = refl
records_shown (e ∷ es) = ap (λ t. shown_record e ∷ t) (records_shown es)

module _ (name : List ℕ) (u : Stored) (o : IsInOrder u.units u.volume) (laws : TheLaws) where
  pub show_absent : (a b : Shown) → NoneNamed u.volume.catalog.heads 64 name → Emits a (line.FileNotFound ∷ []) b → ServesFile {T = Unit {0}} (Ok tt) (service (Dump name)) u u a b
  show_absent a b none m = record {
    keeps = keeps_same tt u u a b line.FileNotFound o refl (refl, refl) m;
    units = refl;
    serves = λ s n r. let q = service_at (service (Dump name)) s n in refused q s n a b (SameStored u u) (IsKept u.units u.volume) (disk_of u) (Unit {0}) tt line.FileNotFound (first_is q.early q.late line.FileNotFound (dump_absent s n name (no_file n u r.kept laws name none))) refl m;
  }

  module _ (f : ℕ) (head : FileHead) (there : IsNamed u.volume.catalog.heads f head name) where
    pub show_locked : (serial : Id) (a b : Shown) → units.first_to_change f u.units.begun ≡ Some serial → Emits a (line.FileLocked serial ∷ []) b → ServesFile {T = Unit {0}} (Ok tt) (service (Dump name)) u u a b
    show_locked serial a b by m = record {
      keeps = keeps_same tt u u a b (line.FileLocked serial) o refl (refl, refl) m;
      units = refl;
      serves = λ s n r. let q = service_at (service (Dump name)) s n in refused q s n a b (SameStored u u) (IsKept u.units u.volume) (disk_of u) (Unit {0}) tt (line.FileLocked serial) (first_is q.early q.late (line.FileLocked serial) (dump_early n u r.kept laws f head name there s ∙ ap locked_by by)) refl m;
    }

    -- as many records as numbers of 32 bits tell
    few_here : (n : Node) (k : IsKept u.units u.volume n) (file : File) → IsFileHere k.content head file → length (in_order file) ≤ 4294967295
    few_here n k file is =
        let v = u.volume.catalog in
        let long = o.heads in
        let told = subst (λ o. IfSome o (TellsCatalog v)) k.told o.holds in
        let tells = told.heads f (head_below v.heads f head long there.there) in
        let ranges : TellsEntry (block_at k.content (1 + f)) (Some head) = subst (TellsEntry (block_at k.content (1 + f))) there.there tells in
        let lies = placed (name_of u) v f head (disk_of u) laws.apart long o.sound o.most there.there in
        laws.reads.few k.content head file is (numbers_few head.mrn ranges.ranges.form.mrn) lies.blocks
        (used_few head.start head.alloc head.bucket head.used (disk_of u).size lies.one lies.to lies.fits (fits_at (name_of u) (disk_of u).size v f head long o.sound there.there).buckets.most)

    pub show_up : (free : units.first_to_change f u.units.begun ≡ None) (r : Result (Unit {0}) Down) (new : Stored) (a b : Shown) → Looked r u new a b →
        ((content : List (List ℕ)) (m : Records) → u.volume.store.current ≡ Some content → IsFile head → IsLaidOut head content → length (entries m) ≤ 4294967295 → ((k : Key) → get m k ≡ map_of head content k) → Shows r m a b) → ServesFile r (service (Dump name)) u new a b
    show_up free r new a b l shows = lists_up (service (Dump name)) u new r a b o laws l (λ s n k up.
        let x = file_at_name n u k laws f head name there in
        let es = in_order x.file in
        record {
          lines = map record_line es;
          answer = line.NormalCount (length es);
          early = dump_early n u k laws f head name there s ∙ ap locked_by free;
          late = refl;
          rows = ap (λ o. map shown_record (records_by o)) x.at.found ∙ records_shown es;
          told = ap (λ o. line.NormalCount (length (records_by o))) x.at.found;
          lists = shows k.content (current x.file.history) k.told x.is.head.form x.is.laid (few_here n k x.file x.is) x.is.records;
        })

-- DUMP_JOURNAL

pub show_journal : (u new : Stored) (r : Result (Unit {0}) Down) (a b : Shown) → IsInOrder u.units u.volume → TheLaws → Looked r u new a b → ((content : List (List ℕ)) (j : Journal) → u.volume.store.current ≡ Some content → HasShowable u.volume u.volume.catalog.ru content j → ShowsJournal r j a b) →
    ServesFile r (service DumpJournal) u new a b
show_journal u new r a b o laws l shows = lists_up (service DumpJournal) u new r a b o laws l (λ s n k up. record {
  lines = entry_lines n.durable.units.first n.durable.units.entries;
  answer = line.NormalSpan n.durable.units.first (end_of n.durable.units);
  early = refl;
  late = refl;
  rows = refl;
  told = refl;
  lists = shows k.content n.durable.units k.told (record {
    entries = k.has.journal.entries;
    is = k.has.journal.is;
    alike = k.has.journal.alike;
    first = k.has.journal.first;
    end = k.has.journal.end;
    showable = laws.nodes.shows u.units u.volume n k;
  });
})

-- DUMP_JOURNAL of a file

abbrev pub marked_at : Side → FileHead → Bool
marked_at AfterImages h = h.marks.ai
marked_at BeforeImages h = h.marks.bi

abbrev pub ring_at : Side → FileHead → Span
ring_at AfterImages h = h.ai
ring_at BeforeImages h = h.bi

pub unmarked_by : (t : Side) (h : FileHead) → span_at t h ≡ None → marked_at t h ≡ false
unmarked_by AfterImages h = by h.marks.ai
  where
    by : (b : Bool) → (if b then Some h.ai else None) ≡ None → b ≡ false
    by true e = let none : ⊥ = cc in absurd none
    by false e = refl
unmarked_by BeforeImages h = by h.marks.bi
  where
    by : (b : Bool) → (if b then Some h.bi else None) ≡ None → b ≡ false
    by true e = let none : ⊥ = cc in absurd none
    by false e = refl

module _ (name : List ℕ) (side : Side) (u : Stored) (o : IsInOrder u.units u.volume) (laws : TheLaws) where
  abbrev asks : Service
  asks = service (DumpImages name side)

  abbrev file_says : Option File → Option Line
  file_says f = first_of (there_by f) (file_by f (has_journal side))

  refused_by : (l : Line) (a b : Shown) → IsPlain l → Emits a (l ∷ []) b → ((s : Shared) (n : Node) → IsKept u.units u.volume n → (service_at asks s n).early ≡ Some l) → ServesFile {T = Unit {0}} (Ok tt) asks u u a b
  refused_by l a b plain m is = record {
    keeps = keeps_same tt u u a b l o refl plain m;
    units = refl;
    serves = λ s n r. let q = service_at asks s n in refused q s n a b (SameStored u u) (IsKept u.units u.volume) (disk_of u) (Unit {0}) tt l (first_is q.early q.late l (is s n r.kept)) refl m;
  }

  pub images_absent : (a b : Shown) → NoneNamed u.volume.catalog.heads 64 name → Emits a (line.FileNotFound ∷ []) b → ServesFile {T = Unit {0}} (Ok tt) asks u u a b
  images_absent a b none m = refused_by line.FileNotFound a b (refl, refl) m (λ s n k. ap file_says (no_file n u k laws name none))

  module _ (f : ℕ) (head : FileHead) (there : IsNamed u.volume.catalog.heads f head name) where
    -- whether the file of the world has the journal is what the head tells
    has_side : (t : Side) (n : Node) (k : IsKept u.units u.volume n) → (journal_at t (file_at_name n u k laws f head name there).file).on ≡ marked_at t head
    has_side AfterImages n k = (file_at_name n u k laws f head name there).carried.after.on
    has_side BeforeImages n k = (file_at_name n u k laws f head name there).carried.before.on

    early_is : (s : Shared) (n : Node) (k : IsKept u.units u.volume n) (on : Bool) → marked_at side head ≡ on → (service_at asks s n).early ≡ refused_if (not on) line.NoJournal
    early_is s n k on is =
        let x = file_at_name n u k laws f head name there in
        ap file_says x.at.found ∙ ap (λ b. refused_if (not b) line.NoJournal) (has_side side n k ∙ is)

    pub images_unmarked : (a b : Shown) → marked_at side head ≡ false → Emits a (line.NoJournal ∷ []) b → ServesFile {T = Unit {0}} (Ok tt) asks u u a b
    images_unmarked a b off m = refused_by line.NoJournal a b (refl, refl) m (λ s n k. early_is s n k false off)

    shown_at : (t : Side) (n : Node) (k : IsKept u.units u.volume n) (up : IsUp n) → marked_at t head ≡ true → HasShowable u.volume (ring_at t head) k.content (journal_of name (journal_at t (file_at_name n u k laws f head name there).file))
    shown_at AfterImages n k up on =
        let x = file_at_name n u k laws f head name there in
        let each = laws.nodes.shows_images u.units u.volume n f head name x.file k up there x.at.found in
        side_shown laws.images u.volume head.ai k.content f head (form_of head) name x.file.carried.after there (named_once (name_of u) (disk_of u).size u.volume.catalog o.heads o.sound) (subst (λ b. HasSide k.content b head.ai f (form_of head) x.file.carried.after) on x.carried.after) each.0
    shown_at BeforeImages n k up on =
        let x = file_at_name n u k laws f head name there in
        let each = laws.nodes.shows_images u.units u.volume n f head name x.file k up there x.at.found in
        side_shown laws.images u.volume head.bi k.content f head (form_of head) name x.file.carried.before there (named_once (name_of u) (disk_of u).size u.volume.catalog o.heads o.sound) (subst (λ b. HasSide k.content b head.bi f (form_of head) x.file.carried.before) on x.carried.before) each.1

    ring_is : (t : Side) (s : Span) → span_at t head ≡ Some s → (marked_at t head ≡ true) × (s ≡ ring_at t head)
    ring_is AfterImages s is = by head.marks.ai is
      where
        by : (b : Bool) → (if b then Some head.ai else None) ≡ Some s → (b ≡ true) × (s ≡ head.ai)
        by true e = (refl, (let same : head.ai ≡ s = cc in sym same))
        by false e = let none : ⊥ = cc in absurd none
    ring_is BeforeImages s is = by head.marks.bi is
      where
        by : (b : Bool) → (if b then Some head.bi else None) ≡ Some s → (b ≡ true) × (s ≡ head.bi)
        by true e = (refl, (let same : head.bi ≡ s = cc in sym same))
        by false e = let none : ⊥ = cc in absurd none

    pub ring_here : (t : Side) (s : Span) → span_at t head ≡ Some s → IsRing s u.volume.store.disk
    ring_here AfterImages s is = let w = ring_is AfterImages s is in subst (λ (r : Span). IsRing r u.volume.store.disk) (sym w.1) (after_ring u.units u.volume f head o there.there w.0)
    ring_here BeforeImages s is = let w = ring_is BeforeImages s is in subst (λ (r : Span). IsRing r u.volume.store.disk) (sym w.1) (before_ring u.units u.volume f head o there.there w.0)

    -- the journal stands in its ring, and ends where the head tells
    places_at : (t : Side) (n : Node) (k : IsKept u.units u.volume n) → marked_at t head ≡ true → (s : Span) → s ≡ ring_at t head → HasImageJournal k.content s f (journal_at t (file_at_name n u k laws f head name there).file)
    places_at AfterImages n k on s same = let x = file_at_name n u k laws f head name there in subst (λ (r : Span). HasImageJournal k.content r f x.file.carried.after) (sym same) (x.carried.after.images on)
    places_at BeforeImages n k on s same = let x = file_at_name n u k laws f head name there in subst (λ (r : Span). HasImageJournal k.content r f x.file.carried.before) (sym same) (x.carried.before.images on)

    ends_at : (t : Side) (n : Node) (k : IsKept u.units u.volume n) (s : Span) → s ≡ ring_at t head → s.end ≡ (journal_at t (file_at_name n u k laws f head name there).file).end
    ends_at AfterImages n k s same = ap (λ (r : Span). r.end) same ∙ (file_at_name n u k laws f head name there).carried.after.end
    ends_at BeforeImages n k s same = ap (λ (r : Span). r.end) same ∙ (file_at_name n u k laws f head name there).carried.before.end

    pub images_shown : (s : Span) (r : Result (Unit {0}) Down) (new : Stored) (a b : Shown) → span_at side head ≡ Some s → Looked r u new a b → ((content : List (List ℕ)) (j : Journal) → u.volume.store.current ≡ Some content → HasShowable u.volume s content j → ShowsJournal r j a b) → ServesFile r asks u new a b
    images_shown s r new a b is l shows = lists_up asks u new r a b o laws l (λ shared n k up.
        let x = file_at_name n u k laws f head name there in
        let w = ring_is side s is in
        let j = journal_at side x.file in
        let here = subst (λ (t : Span). HasShowable u.volume t k.content (journal_of name j)) (sym w.1) (shown_at side n k up w.0) in
        let lines = lines_told name j.first j.entries (laws.images k.content s f j (places_at side n k w.0 s w.1)).places in
        record {
          lines = image_lines name j.entries;
          answer = line.NormalSpan j.first j.end;
          early = early_is shared n k true w.0;
          late = refl;
          rows = λ i. elim (x.at.found i) [ Some g ↦ map shown_line (image_lines name (journal_at side g).entries) | None ↦ [] ];
          told = λ i. elim (x.at.found i) [ Some g ↦ line.NormalSpan (journal_at side g).first (journal_at side g).end | None ↦ line.Normal ];
          lists = subst (λ ls. Lists r ls (line.NormalSpan j.first j.end) a b) lines (subst (λ (t : ℕ). Lists r (entry_lines j.first (told_of name j.entries)) (line.NormalSpan j.first t) a b) (sym here.end ∙ ends_at side n k s w.1) (shows k.content (journal_of name j) k.told here));
        })
