-- What holds of units and a volume on any disk, where a branch was settled.
use Rattle.std.proofs.Common.{◌≡◌, ◌≢◌, ◌==◌, ℕ, ◌+◌, ◌-◌, ◌*◌, ◌<◌, ◌≤◌, ◌^◌, Bool, true, false, not, List, [], ◌∷◌, Option, Some, None, length, slice_set, if◌then◌else◌, refl, sym, ap, subst, ◌∙◌, arith, inl, inr, ⊎_elim}
use Rattle.std.specs.Prelude.{◌⊎◌, max, nat_le, unwrap_or}
use Rattle.std.proofs.lemmas.Bool.{false≢true, leb-false}
use Rattle.std.proofs.lemmas.Bool.Decides.{nat_tests}
use Rattle.careful_write.specs.State.{IsIdle}
use Rattle.change_set.specs.Files.{free_frames}
use Rattle.file_base.specs.declared.head.FileHead.{FileHead}
use Rattle.file_base.specs.declared.head.Span.{Span}
use Rattle.journal_model.specs.Entries.{Entry, IsEntry, spelling}
use Rattle.journal_model.specs.Ring.{ring_size}
use Rattle.unit_journal.specs.Entries.{settled_entry}
use Rattle.unit_journal.specs.Groups.{Breaks, Grows}
use Rattle.unit_journal.specs.Settling.{MakesSettlement, entry_if, from_earliest, next_moment, settled_home, span_with}
use Rattle.unit_table.specs.Units.{OpenUnit, earliest, owed, owed_for}
use Rattle.vms_base.specs.Ids.{serial_of, tid_of}
use Rattle.vms_model.specs.Transactions.{Commit}
use Rattle.vms_base.specs.declared.ids.Serial.{Serial}
use Rattle.vms_base.specs.declared.ids.Tid.{Tid}
use Rattle.volume.specs.declared.catalog.Catalog.{Catalog}
use Rattle.volume.specs.Catalogs.{IsSound, head_at}
use Rattle.volume.specs.Limits.{EntryFits, SaveFits}
use Rattle.volume.specs.State.{VolumeState, Holds}
use Rattle.volume_format.specs.declared.home.Ending.{Ending}
use Rattle.volume_format.specs.declared.home.Ending.TheVariants as ending
use Rattle.volume_format.specs.declared.home.Home.{Home}
use Rattle.volume_files.proofs.Places.{within_list}
use Rattle.kept_files.specs.file_settlements.Settling.{EntersSettled, SettlesFiles}
use Rattle.image_appends.specs.Settling.{heads_from}
use Rattle.kept_files.specs.Own.{only}
use Rattle.key_changes.proofs.unit_cuts.OwnLemmas.{settled_long}
use Rattle.image_room.specs.Room.{AllSettlementsFit, ImagesAreLow, images_refused}
use Rattle.rms_units.specs.Making.{AreLow}
use Rattle.rms_units.specs.Calls.{Commits, CommitsNot, is_some_change}
use Rattle.rms_units.specs.State.{AreAscending, IsEarly, IsInOrder, UnitsState, unit_of, without_place}
use Rattle.rms_units.proofs.PositionLemmas.{ascending_from, ascending_gone, ascending_longer, ascending_within, from_bounds, owed_gone}
use Rattle.rms_units.proofs.ImageOrder.{FileGrows, all_direct, grows_on, grows_own}
use Rattle.image_room.proofs.Entered.{long_from}
use Rattle.unit_restarts.proofs.unit_aborts.ImageLemmas.{long_told, low_less, sound_told}
use Rattle.rms_units.proofs.ImageSound.{all_entered, low_left, sound_own}
use Rattle.rms_units.proofs.RoomLemmas.{owed_least, room_to_settle}

-- A later moment.

save_later : (saved : Bool) (a b : ℕ) (h : FileHead) → a ≤ b → SaveFits saved a h → SaveFits saved b h
save_later true a b h le s = record { buckets = s.buckets; position = s.position; moment = let m = s.moment in omega (arith, m, le) }
save_later false a b h le s = s

entry_later : (a b : ℕ) (o : Option FileHead) → a ≤ b → EntryFits a o → EntryFits b o
entry_later a b None le e = tt
entry_later a b (Some h) le e = record {
  bucket = e.bucket;
  keys = e.keys;
  buckets = e.buckets;
  ai = e.ai;
  bi = e.bi;
  since = let m = e.since in omega (arith, m, le);
  save = save_later h.marks.save a b h le e.save;
}

sound_settled : (node : List ℕ) (size : ℕ) (tid : Tid) (serial : Serial) (ending : Ending) (moment : ℕ) (c : Catalog) (ru : Span) → c.home.greatest_moment.0 ≤ moment → moment ≤ 24000001000066 →
    ru.start ≡ c.ru.start → ru.blocks ≡ c.ru.blocks → IsSound node size c → IsSound node size (record c { home = settled_home tid serial ending moment c.home; ru = ru })
sound_settled node size tid serial ending moment c ru later bound start blocks s = record {
  version = s.version;
  sizes = s.sizes;
  home = record { owner = s.home.owner; moment = omega (arith, bound) };
  files = λ f below. entry_later c.home.greatest_moment.0 moment (head_at c.heads f) later (s.files f below);
  names = s.names;
  extents = s.extents;
  ru_start = start ∙ s.ru_start;
  ru_blocks = blocks ∙ s.ru_blocks;
}

-- The journal with an entry more, or as it was.

abbrev pub bytes_of : Option Entry → ℕ
bytes_of None = 0
bytes_of (Some e) = length (spelling e)

pub with_end : (e : Option Entry) (s : Span) → (span_with e s).end ≡ s.end + bytes_of e
with_end None s = omega arith
with_end (Some e) s = refl

pub with_first : (e : Option Entry) (s : Span) → (span_with e s).first ≡ s.first
with_first None s = refl
with_first (Some e) s = refl

with_start : (e : Option Entry) (s : Span) → (span_with e s).start ≡ s.start
with_start None s = refl
with_start (Some e) s = refl

pub with_blocks : (e : Option Entry) (s : Span) → (span_with e s).blocks ≡ s.blocks
with_blocks None s = refl
with_blocks (Some e) s = refl

pub sound_with : (node : List ℕ) (size : ℕ) (e : Option Entry) (c : Catalog) → IsSound node size c → IsSound node size (record c { ru = span_with e c.ru })
sound_with node size e c s = record {
  version = s.version;
  sizes = s.sizes;
  home = s.home;
  files = s.files;
  names = s.names;
  extents = s.extents;
  ru_start = with_start e c.ru ∙ s.ru_start;
  ru_blocks = with_blocks e c.ru ∙ s.ru_blocks;
}

-- A branch is settled on a volume whose files may have other heads by then. What is left of the units begins where it did, and has as much room for the entry as it
-- is owed less.
module _ (tid : Tid) (serial : Serial) (ending : Ending) (moment : ℕ) (e : Option Entry) (s t : UnitsState) (v x w : VolumeState) (o : IsInOrder s v)
    (home : x.catalog.home ≡ v.catalog.home) (ru : x.catalog.ru ≡ v.catalog.ru) (heads : length x.catalog.heads ≡ 64) (sound : IsSound v.catalog.home.node v.store.disk.size x.catalog)
    (later : v.catalog.home.greatest_moment.0 ≤ moment) (bound : moment ≤ 24000001000066)
    (each : AreAscending v.catalog.ru.first v.catalog.ru.end t.units.places) (less : owed t.units.places + bytes_of e ≤ owed s.units.places)
    (makes : MakesSettlement tid serial ending moment e t.units.places x w) (fits : AllSettlementsFit t.units.places x.catalog.heads) where
  abbrev end : ℕ
  end = v.catalog.ru.end + bytes_of e

  ends : (span_with e x.catalog.ru).end ≡ end
  ends = with_end e x.catalog.ru ∙ ap (λ (r : Span). r.end + bytes_of e) ru

  longer : AreAscending v.catalog.ru.first end t.units.places
  longer = ascending_longer v.catalog.ru.first v.catalog.ru.end (bytes_of e) t.units.places each

  order : v.catalog.ru.first ≤ end
  order = let a = o.ascends in omega (arith, a)

  abbrev first : ℕ
  first = unwrap_or (earliest t.units.places) end

  bounds : (v.catalog.ru.first ≤ first) × (first ≤ end)
  bounds = from_bounds v.catalog.ru.first end t.units.places order longer

  now_ends : w.catalog.ru.end ≡ end
  now_ends = ap (λ (c : Catalog). c.ru.end) makes.catalog ∙ ends

  now_first : w.catalog.ru.first ≡ first
  now_first = ap (λ (c : Catalog). c.ru.first) makes.catalog ∙ ap (λ (n : ℕ). unwrap_or (earliest t.units.places) n) ends

  now_blocks : w.catalog.ru.blocks ≡ v.catalog.ru.blocks
  now_blocks = ap (λ (c : Catalog). c.ru.blocks) makes.catalog ∙ with_blocks e x.catalog.ru ∙ ap (λ (r : Span). r.blocks) ru

  ascends : AreAscending w.catalog.ru.first w.catalog.ru.end t.units.places
  ascends = subst (λ (n : ℕ). AreAscending n w.catalog.ru.end t.units.places) (sym now_first)
      (subst (λ (n : ℕ). AreAscending first n t.units.places) (sym now_ends) (ascending_from v.catalog.ru.first end t.units.places order longer))

  is_sound : w.store.disk.size ≡ v.store.disk.size → IsSound w.catalog.home.node w.store.disk.size w.catalog
  is_sound size =
      subst (λ (n : ℕ). IsSound w.catalog.home.node n w.catalog) (sym size)
      (subst (λ (c : Catalog). IsSound c.home.node v.store.disk.size c) (sym makes.catalog)
      (subst (λ (name : List ℕ). IsSound name v.store.disk.size (record x.catalog { home = settled_home tid serial ending moment x.catalog.home; ru = from_earliest t.units.places (span_with e x.catalog.ru) })) (λ i. (sym home i).node)
      (sound_settled v.catalog.home.node v.store.disk.size tid serial ending moment x.catalog (from_earliest t.units.places (span_with e x.catalog.ru))
      (let same : x.catalog.home.greatest_moment.0 ≡ v.catalog.home.greatest_moment.0 = λ i. (home i).greatest_moment.0 in omega (arith, same, later)) bound (with_start e x.catalog.ru) (with_blocks e x.catalog.ru) sound)))

  pub order_settled : IsIdle w.store → Holds w → w.store.disk.size ≡ v.store.disk.size → w.store.pool ≡ v.store.pool → IsInOrder t w
  order_settled idle holds size pool = record {
    idle = idle;
    frames = subst (λ ps. 32 ≤ free_frames ps) (sym pool) o.frames;
    heads = ap (λ (c : Catalog). length c.heads) makes.catalog ∙ heads;
    sound = is_sound size;
    holds = holds;
    least = let a = o.least in omega (arith, a, size);
    most = let a = o.most in omega (arith, a, size);
    ascends = let b = bounds in omega (arith, now_first, now_ends, b.1);
    room = let a = o.room in let b = bounds in let c = o.ascends in omega (arith, a, b.0, b.1, c, less, now_first, now_ends, now_blocks);
    within = ascending_within w.catalog.ru.first w.catalog.ru.end t.units.places ascends;
    ascending = ascends;
    images = subst (λ (c : Catalog). AllSettlementsFit t.units.places c.heads) (sym makes.catalog) fits;
  }

-- A unit that changed these files is settled, with its entry in their journals of images, on a volume that may have other heads by then.
module _ (place : ℕ) (u : OpenUnit) (tid : Tid) (serial : Serial) (ending : Ending) (moment : ℕ) (e : Option Entry) (s t : UnitsState) (v x w : VolumeState) (o : IsInOrder s v) (at : unit_of place s ≡ Some u) (gone : t.units.places ≡ slice_set s.units.places place None)
    (home : x.catalog.home ≡ v.catalog.home) (ru : x.catalog.ru ≡ v.catalog.ru) (heads : length x.catalog.heads ≡ 64) (sound : IsSound v.catalog.home.node v.store.disk.size x.catalog) (low : ImagesAreLow 48 x.catalog.heads) (fits : AllSettlementsFit s.units.places x.catalog.heads)
    (later : v.catalog.home.greatest_moment.0 ≤ moment) (bound : moment ≤ 24000001000066) (few : bytes_of e ≤ 48) (owes : bytes_of e ≤ owed_for u.prepared u.positions)
    (makes : SettlesFiles u.files tid serial ending moment e t.units.places x w) where
  inside : place < length s.units.places
  inside = within_list s.units.places place u at

  abbrev mid : VolumeState
  mid = makes.mid

  small : (span_with e x.catalog.ru).end ≤ x.catalog.ru.end + 48
  small = let a = with_end e x.catalog.ru in omega (arith, a, few)

  pub order_settled_in : IsIdle w.store → Holds w → w.store.disk.size ≡ v.store.disk.size → w.store.pool ≡ v.store.pool → IsInOrder t w
  order_settled_in idle holds size pool =
      order_settled tid serial ending moment e s t v mid w o (ap (λ (c : Catalog). c.home) makes.entered.catalog ∙ home) (ap (λ (c : Catalog). c.ru) makes.entered.catalog ∙ ru)
      (ap (λ (c : Catalog). length c.heads) makes.entered.catalog ∙ long_told e u.files x.catalog.heads ∙ heads)
      (subst (IsSound v.catalog.home.node v.store.disk.size) (sym makes.entered.catalog) (sound_told v.catalog.home.node v.store.disk.size e u.files x.catalog.ru x.catalog small heads low sound))
      later bound (subst (AreAscending v.catalog.ru.first v.catalog.ru.end) (sym gone) (ascending_gone v.catalog.ru.first v.catalog.ru.end s.units.places place inside o.ascending))
      (let a = owed_gone s.units.places place u at in let b = ap owed gone in let c = owes in omega (arith, a, b, c)) makes.settles
      (subst (λ (us : List (Option OpenUnit)). AllSettlementsFit us mid.catalog.heads) (sym gone)
      (subst (λ (c : Catalog). AllSettlementsFit (slice_set s.units.places place None) c.heads) (sym makes.entered.catalog) (all_entered e x.catalog.ru x.catalog.heads s.units.places place u at inside small fits)))
      idle holds size pool

-- A change of one file by no unit is committed, on a volume whose journals of images of that file have so many bytes more by then.
pub order_own : (file after before a b : ℕ) (h : FileHead) (tid : Tid) (serial : Serial) (moment : ℕ) (s : UnitsState) (v x closed w : VolumeState) → IsInOrder s v → head_at v.catalog.heads file ≡ Some h →
    x.catalog.home ≡ v.catalog.home → x.catalog.ru ≡ v.catalog.ru → length x.catalog.heads ≡ 64 → IsSound v.catalog.home.node v.store.disk.size x.catalog → FileGrows file after before v.catalog.heads x.catalog.heads →
    AreLow (after + 48) (before + 48) file v.catalog.heads → after ≤ a → before ≤ b → images_refused h file s.units.places false a b ≡ None → v.catalog.home.greatest_moment.0 ≤ moment → moment ≤ 24000001000066 →
    IsEntry (settled_entry (tid_of tid) (serial_of serial) Commit moment) → EntersSettled (only file) (Some (settled_entry (tid_of tid) (serial_of serial) Commit moment)) x closed → MakesSettlement tid serial ending.Commit moment None s.units.places closed w →
    IsIdle w.store → Holds w → w.store.disk.size ≡ v.store.disk.size → w.store.pool ≡ v.store.pool → IsInOrder s w
order_own file after before a b h tid serial moment s v x closed w o there home ru heads sound grows low few few_too free later bound is closes settles idle holds size pool =
    order_settled tid serial ending.Commit moment None s s v closed w o (ap (λ (c : Catalog). c.home) told ∙ home) (ap (λ (c : Catalog). c.ru) told ∙ ru)
    (ap (λ (c : Catalog). length c.heads) told ∙ long_from (only file) 0 48 x.catalog.heads ∙ heads)
    (subst (IsSound v.catalog.home.node v.store.disk.size) (sym told) (sound_own v.catalog.home.node v.store.disk.size x.catalog file below heads (low_left file after before 48 48 v.catalog.heads x.catalog.heads grows low) sound))
    later bound o.ascending (omega arith) settles
    (all_direct v.catalog.heads closed.catalog.heads file (after + 48) (before + 48) s.units.places
    (subst (λ (c : Catalog). FileGrows file (after + 48) (before + 48) v.catalog.heads c.heads) (sym told) (grows_on file after before 48 48 (after + 48) (before + 48) v.catalog.heads x.catalog.heads (heads_from 0 (only file) 48 x.catalog.heads) refl refl grows (grows_own file x.catalog.heads below)))
    o.images a b (omega (arith, few)) (omega (arith, few_too)) (λ k now. subst (λ (y : FileHead). images_refused y file s.units.places false a b ≡ None) (one_head h k (sym there ∙ now)) free))
    idle holds size pool
  where
    one_head : (p q : FileHead) → ◌≡◌ {A = Option FileHead} (Some p) (Some q) → p ≡ q
    one_head p q e = cc

    below : file < 64
    below = let b = within_list v.catalog.heads file h there in let l = o.heads in omega (arith, b, l)

    told : closed.catalog ≡ record x.catalog { heads = heads_from 0 (only file) 48 x.catalog.heads }
    told = closes.catalog ∙ (λ i. record x.catalog { heads = heads_from 0 (only file) (settled_long (tid_of tid) (serial_of serial) Commit moment is i) x.catalog.heads })

-- The moment of the next settlement.

module _ (clock : ℕ) (home : Home) where
  go : (P : ℕ → Type 0) → ((next : ℕ) → (home.greatest_moment.0 + 1 ≡ next) ⊎ ((home.greatest_moment.0 + 1 < clock) × (clock ≡ next)) → P next) → P (next_moment clock home)
  go P f = step (nat_le clock (home.greatest_moment.0 + 1)) refl
    where
      step : (b : Bool) → nat_le clock (home.greatest_moment.0 + 1) ≡ b → P (if b then home.greatest_moment.0 + 1 else clock)
      step true is = f (home.greatest_moment.0 + 1) (inl refl)
      step false is = f clock (inr (leb-false clock (home.greatest_moment.0 + 1) is, refl))

  pub next_later : home.greatest_moment.0 ≤ next_moment clock home
  next_later = go (λ n. home.greatest_moment.0 ≤ n) (λ n e. ⊎_elim (λ is. omega (arith, is)) (λ is. omega (arith, is.0, is.1)) e)

  pub next_bound : home.greatest_moment.0 < 24000001000066 → clock < 24000001000066 → next_moment clock home ≤ 24000001000066
  next_bound g c = go (λ n. n ≤ 24000001000066) (λ n e. ⊎_elim (λ is. omega (arith, is, g)) (λ is. omega (arith, is.1, c)) e)

  pub next_least : next_moment clock home ≤ max (home.greatest_moment.0 + 1) clock
  next_least = go (λ n. n ≤ max (home.greatest_moment.0 + 1) clock) (λ n e. ⊎_elim (λ is. omega (arith, is)) (λ is. omega (arith, is.1)) e)

-- numbers grow by a settlement at the next moment as by one at the clock
pub grows_next : (clock moment : ℕ) (v w : VolumeState) → moment ≡ next_moment clock v.catalog.home → Grows 0 moment v w → Grows 1 clock v w
grows_next clock moment v w is g = record {
  node = g.node;
  boot = g.boot;
  greatest = let a = g.greatest in let b = next_least clock v.catalog.home in let c = next_later clock v.catalog.home in omega (arith, a, b, c, is);
  end = g.end;
}

-- The entry of a settlement, where there was a change.

abbrev pub has : List ℕ → Bool
has ps = not (length ps == 0)

pub has_some : (ps : List ℕ) → has ps ≡ is_some_change ps
has_some [] = refl
has_some (p ∷ ps) = let some : (length (p ∷ ps) == 0) ≡ false = grind (arith, nat_tests) in ap not some

pub has_change : (ps : List ℕ) → has ps ≡ true → ps ≢ []
has_change ps changed none = absurd (false≢true (ap has (sym none) ∙ changed))

pub owed_some : (prepared : Bool) (ps : List ℕ) → (if is_some_change ps then 48 else 0) ≤ owed_for prepared ps
owed_some prepared [] = omega arith
owed_some prepared (p ∷ ps) = owed_least prepared p ps

owed_if : (prepared : Bool) (ps : List ℕ) → (if has ps then 48 else 0) ≤ owed_for prepared ps
owed_if prepared ps = subst (λ (b : Bool). (if b then 48 else 0) ≤ owed_for prepared ps) (sym (has_some ps)) (owed_some prepared ps)

-- A unit is committed.
module _ (place : ℕ) (u : OpenUnit) (told_tid : Tid) (told_serial : Serial) (clock moment : ℕ) (ps : List ℕ) (changed : Bool) (s t : UnitsState) (v w : VolumeState) (at : unit_of place s ≡ Some u) (positions : ps ≡ u.positions)
    (tid : tid_of told_tid ≡ u.tid) (serial : serial_of told_serial ≡ u.serial) (is : moment ≡ next_moment clock v.catalog.home) (spent : t ≡ without_place place u.serial s) (whether : changed ≡ has ps) where
  abbrev entry : Option Entry
  entry = entry_if changed (settled_entry (tid_of told_tid) (serial_of told_serial) Commit moment)

  abbrev Makes : VolumeState → Type 0
  Makes made = SettlesFiles u.files told_tid told_serial ending.Commit moment entry t.units.places v made

  pub room_to_commit : IsInOrder s v → changed ≡ true → v.catalog.ru.end - v.catalog.ru.first + 48 ≤ ring_size v.catalog.ru
  room_to_commit o yes_changed = room_to_settle s.units.places place u (v.catalog.ru.end - v.catalog.ru.first) (ring_size v.catalog.ru) at (λ none. has_change ps (sym whether ∙ yes_changed) (positions ∙ none)) o.room

  pub commits : Makes w → Commits place u told_tid told_serial clock moment s v t w
  commits makes = record {
    spent = spent;
    tid = tid;
    serial = serial;
    moment = is;
    makes = subst (λ (e : Option Entry). SettlesFiles u.files told_tid told_serial ending.Commit moment e t.units.places v w)
        (λ i. entry_if ((whether ∙ has_some ps ∙ ap is_some_change positions) i) (settled_entry (tid i) (serial i) Commit moment)) makes;
  }

  pub commits_not : Breaks Makes v w → CommitsNot place u clock s v t w
  commits_not breaks = record {
    spent = spent;
    tid = told_tid;
    serial = told_serial;
    same_tid = tid;
    same_serial = serial;
    breaks = subst (λ (m : ℕ × Option Entry). Breaks (SettlesFiles u.files told_tid told_serial ending.Commit m.0 m.1 t.units.places v) v w)
        (λ i. (is i, entry_if ((whether ∙ has_some ps ∙ ap is_some_change positions) i) (settled_entry (tid i) (serial i) Commit (is i)))) breaks;
  }

  gone : t.units.places ≡ slice_set s.units.places place None
  gone = ap (λ (x : UnitsState). x.units.places) spent

  pub order_committed : IsInOrder s v → IsEarly v → clock < 24000001000066 → Makes w → w.catalog.ru.end ≡ v.catalog.ru.end + (if changed then 48 else 0) → IsIdle w.store → Holds w → w.store.disk.size ≡ v.store.disk.size → w.store.pool ≡ v.store.pool → IsInOrder t w
  order_committed o early before makes end idle holds size pool =
      let later : v.catalog.home.greatest_moment.0 ≤ moment = let a = next_later clock v.catalog.home in omega (arith, a, is) in
      let bound : moment ≤ 24000001000066 = let a = next_bound clock v.catalog.home early.moment before in omega (arith, a, is) in
      let same : makes.mid.catalog.ru ≡ v.catalog.ru = ap (λ (c : Catalog). c.ru) makes.entered.catalog in
      let longer : v.catalog.ru.end + bytes_of entry ≡ v.catalog.ru.end + (if changed then 48 else 0) = ap (λ (r : Span). r.end + bytes_of entry) (sym same) ∙ sym (ap (λ (c : Catalog). c.ru.end) makes.settles.catalog ∙ with_end entry makes.mid.catalog.ru) ∙ end in
      let owes : (if changed then 48 else 0) ≤ owed_for u.prepared u.positions = subst (λ (b : Bool). (if b then 48 else 0) ≤ owed_for u.prepared u.positions) (sym whether) (subst (λ (qs : List ℕ). (if has ps then 48 else 0) ≤ owed_for u.prepared qs) positions (owed_if u.prepared ps)) in
      let most = at_most changed in
      order_settled_in place u told_tid told_serial ending.Commit moment entry s t v v w o at gone refl refl o.heads o.sound (low_less 48 (2 ^ 24) v.catalog.heads (omega arith) early.images) o.images later bound (omega (arith, longer, most)) (omega (arith, longer, owes)) makes idle holds size pool
    where
      at_most : (b : Bool) → (if b then 48 else 0) ≤ 48
      at_most true = omega arith
      at_most false = omega arith
