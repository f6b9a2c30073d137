-- A truncation, from the entries that are written and the group that takes the records.
use Rattle.std.proofs.Common.{◌≡◌, ℕ, ◌+◌, ◌-◌, ◌<◌, ◌≤◌, ◌^◌, Bool, true, false, List, [], ◌∷◌, Option, Some, None, length, option_map, slice_set, refl, sym, ap, subst, ◌∙◌, arith, inl, inr, ⊎_elim, length-set, get_or-set_same}
use Rattle.std.specs.Prelude.{◌⊎◌}
use Rattle.std.specs.List.{AllByRecursion, flat_map}
use Rattle.block_disk.specs.Disk.{DiskState}
use Rattle.careful_write.specs.State.{IsEither, IsIdle, Leaves, content}
use Rattle.change_set.specs.Files.{IsPlaced, first_place}
use Rattle.change_set.specs.declared.walk.Place.{Place}
use Rattle.file_base.specs.declared.head.FileHead.{FileHead}
use Rattle.file_base.specs.declared.head.Span.{Span}
use Rattle.journal_model.specs.Entries.{Entry, IsEntry, spelling}
use Rattle.journal_model.specs.Ring.{ring_size}
use Rattle.volume_files.specs.record_files.Any.{IsFile, IsLaidOut}
use Rattle.volume_files.specs.record_files.Local.{begins_first_law}
use Rattle.unit_journal.specs.Groups.{Breaks}
use Rattle.unit_journal.specs.Spans.{longer}
use Rattle.unit_table.specs.Units.{OpenUnit}
use Rattle.vms_base.specs.Ids.{serial_of, tid_of}
use Rattle.vms_base.specs.declared.ids.Serial.{Serial}
use Rattle.vms_base.specs.declared.ids.Tid.{Tid}
use Rattle.vms_model.specs.Ids.{Id}
use Rattle.volume.specs.declared.catalog.Catalog.{Catalog}
use Rattle.volume.specs.State.{VolumeState}
use Rattle.volume_format.specs.Head.{head_block_of}
use Rattle.volume_format.specs.Home.{ru_block_of}
use Rattle.image_appends.specs.declared.side.Side.TheVariants.{After, Before}
use Rattle.image_appends.specs.Images.{FileHasRoom, HasRoom}
use Rattle.kept_files.specs.file_settlements.Settling.{EntersSettled}
use Rattle.kept_files.specs.Own.{only}
use Rattle.unit_journal.specs.Entries.{settled_entry}
use Rattle.unit_journal.specs.Settling.{content_with, from_earliest, settled_home}
use Rattle.unit_journal.proofs.Settled.{IsStaged, makes}
use Rattle.vms_model.specs.Transactions.{Commit}
use Rattle.volume.specs.Catalogs.{head_at}
use Rattle.volume_files.proofs.Places.{head_below}
use Rattle.volume_format.specs.declared.home.Ending.TheVariants as ending
use Rattle.unit_cuts.specs.declared.cutting.ImageSpans.{ImageSpans}
use Rattle.unit_cuts.specs.Moving.{CommitsBehind, Fits, ImagesFit, MovesAll, MovesFile}
use Rattle.unit_cuts.specs.Truncating.{AllTold, AreBegun, BreaksCut, CommitsCut, CutEntries, CutsFile, Entering, EntersBehind, EntersCut, IsPlaceOf, TellCut, TellsCutIf, WritesBehind, WritesImages, span_behind, span_if}
use Rattle.unit_cuts.proofs.CutFrames.{KeepsFile, cuts_back}
use Rattle.unit_cuts.proofs.CutSofar.{leaves_told}

abbrev Content : Type 0
Content = List (List ℕ)

-- the first of some places, or the front of the file
pub first_begins : (h : FileHead) (v : VolumeState) (place : Place) (places : List Place) → ((rest : List Place) × (places ≡ place ∷ rest)) ⊎ (place ≡ first_place) → AreBegun h v places → (a : Content) → v.store.current ≡ Some a → IsFile h → IsLaidOut h a → IsPlaceOf h a place
first_begins h v place places (inl front) begun a told form laid = (subst (λ (ps : List Place). AllByRecursion (IsPlaceOf h a) ps) front.1 (begun a told form laid)).0
first_begins h v place places (inr is) begun a told form laid = subst (IsPlaceOf h a) (sym is) (record { used = omega arith; begins = λ key. begins_first_law h a key form })

-- Entries of one journal.

-- one more or less of room
pub room_less : (size less : ℕ) (s : Span) (d : DiskState) → less ≤ size → HasRoom size s d → HasRoom less s d
room_less size less s d few has = record { ring = has.ring; behind = has.behind; room = let r = has.room in omega (arith, r, few) }

room_on : (size : ℕ) (s : Span) (d e : DiskState) → e.size ≡ d.size → HasRoom size s d → HasRoom size s e
room_on size s d e same has = record {
  ring = record {
    from = has.ring.from;
    to = let a = has.ring.to in omega (arith, a, same);
    fits = let a = has.ring.fits in omega (arith, a, same);
    some = has.ring.some;
    order = has.ring.order;
    low = has.ring.low;
    room = has.ring.room;
  };
  behind = has.behind;
  room = has.room;
}

pub room_still : (size : ℕ) (s : Span) (v w : VolumeState) → w.store.disk.size ≡ v.store.disk.size → HasRoom size s v.store.disk → HasRoom size s w.store.disk
room_still size s v w same = room_on size s v.store.disk w.store.disk same

-- it has as much less room behind them
pub room_behind : (size : ℕ) (s : Span) (es : List Entry) (d : DiskState) → s.end + length (flat_map spelling es) ≤ 2 ^ 62 → HasRoom (length (flat_map spelling es) + size) s d → HasRoom size (span_behind es s) d
room_behind size s es d low has = record {
  ring = record {
    from = has.ring.from;
    to = has.ring.to;
    fits = has.ring.fits;
    some = has.ring.some;
    order = let o = has.ring.order in omega (arith, o);
    low = low;
    room = let r = has.room in let o = has.ring.order in omega (arith, r, o);
  };
  behind = has.behind;
  room = let r = has.room in let o = has.ring.order in omega (arith, r, o);
}

pub room_if : (kept : Bool) (size : ℕ) (s : Span) (es : List Entry) (d : DiskState) → (kept ≡ true → s.end + length (flat_map spelling es) ≤ 2 ^ 62) → (kept ≡ true → HasRoom (length (flat_map spelling es) + size) s d) → kept ≡ true → HasRoom size (span_if kept s es) d
room_if true size s es d low has is = room_behind size s es d (low refl) (has refl)
room_if false size s es d low has is = let no : ⊥ = cc in absurd no

-- what was entered up to a limit is written behind the journal's end
pub enters_behind : (has_image : Bool) (base : Span) (size limit : ℕ) (tid serial : Id) (file : ℕ) (h : FileHead) (from : ℕ) (v w : VolumeState) (s : Span) (ps : List ℕ) (es : List Entry) → limit ≡ base.end + size → HasRoom size base v.store.disk →
    Entering limit base v w s ps es → TellsCutIf true has_image tid serial file h from v es → EntersBehind true has_image base size tid serial file h from v w s ps
enters_behind has_image base size limit tid serial file h from v w s ps es is has en tells =
    let end = ap (λ (t : Span). t.end) en.span in
    let fits = en.fits in
    let few : length (flat_map spelling es) ≤ size = omega (arith, is, end, fits) in
    record {
      entries = es;
      writes = record { each = en.each; room = λ kept. room_less size (length (flat_map spelling es)) base v.store.disk few has; current = en.current; catalog = en.catalog; size = en.counts.size };
      tells = tells;
      span = en.span;
      few = few;
      positions = λ kept. en.positions;
    }

-- the journal is not kept
pub enters_none : (has_image : Bool) (base : Span) (size : ℕ) (tid serial : Id) (file : ℕ) (h : FileHead) (from : ℕ) (v : VolumeState) (ps : List ℕ) → EntersBehind false has_image base size tid serial file h from v v base ps
enters_none has_image base size tid serial file h from v ps = record {
  entries = [];
  writes = record { each = tt; room = λ kept. (let no : ⊥ = cc in absurd no); current = same v.store.current; catalog = refl; size = refl };
  tells = λ kept. (let no : ⊥ = cc in absurd no);
  span = refl;
  few = omega arith;
  positions = λ kept. (let no : ⊥ = cc in absurd no);
}
  where
    same : (o : Option Content) → o ≡ option_map (λ (c : Content). c) o
    same None = refl
    same (Some c) = refl

-- The last group.

pub cuts_file : (file : ℕ) (h : FileHead) (from : ℕ) (es : CutEntries) (spans : ImageSpans) (v written moved : VolumeState) → KeepsFile h v written → spans.afters ≡ span_if h.marks.ai h.ai es.gone → spans.befores ≡ span_if h.marks.bi h.bi es.images →
    MovesFile file h from spans written moved → CutsFile file h from es v written moved
cuts_file file h from es spans v written moved keeps afters befores is = record {
  cut = is.cut;
  head = is.head;
  stages = is.stages;
  cuts = cuts_back h v written keeps from is.cut is.head is.cuts;
  current = is.current ∙ (λ i. option_map (λ (c : Content). slice_set c (1 + file) (head_block_of (record is.head { ai = afters i; bi = befores i }))) is.cut.store.current);
  catalog = is.catalog ∙ (λ i. record is.cut.catalog { heads = slice_set is.cut.catalog.heads file (Some (record is.head { ai = afters i; bi = befores i })) });
}

pub enters_cut : (file : ℕ) (h : FileHead) (from : ℕ) (es : CutEntries) (spans : ImageSpans) (ru span : Span) (v imaged written made : VolumeState) → KeepsFile h v written → WritesImages h es v imaged → ru ≡ v.catalog.ru → WritesBehind true ru es.had imaged written →
    spans.afters ≡ span_if h.marks.ai h.ai es.gone → spans.befores ≡ span_if h.marks.bi h.bi es.images → span ≡ span_behind es.had ru → MovesAll file h from spans span written made → EntersCut file h from es v made
enters_cut file h from es spans ru span v imaged written made keeps images same writes afters befores is all = record {
  imaged = imaged;
  images = images;
  written = written;
  entered = subst (λ (s : Span). WritesBehind true s es.had imaged written) same writes;
  moved = all.moved;
  cuts = cuts_file file h from es spans v written all.moved keeps afters befores all.moves;
  current = all.current ∙ (λ i. option_map (λ (c : Content). slice_set c 65 (ru_block_of (whole i))) all.moved.store.current);
  catalog = all.catalog ∙ (λ i. record all.moved.catalog { ru = whole i });
}
  where
    whole : span ≡ span_behind es.had v.catalog.ru
    whole = is ∙ ap (span_behind es.had) same

pub commits_cut : (file : ℕ) (h : FileHead) (from : ℕ) (es : CutEntries) (spans : ImageSpans) (tid : Tid) (moment : ℕ) (left : List (Option OpenUnit)) (v written made : VolumeState) → KeepsFile h v written → WritesImages h es v written → (let serial : Serial = record { 0 = tid.0 } in
    TellCut (tid_of tid) (serial_of serial) file h from v es → spans.afters ≡ span_if h.marks.ai h.ai es.gone → spans.befores ≡ span_if h.marks.bi h.bi es.images → CommitsBehind file h from spans tid serial moment left written made → CommitsCut file h from es tid moment left v made)
commits_cut file h from es spans tid moment left v written made keeps images tells afters befores all = record {
  tells = tells;
  written = written;
  images = images;
  moved = all.moved;
  cuts = cuts_file file h from es spans v written all.moved keeps afters befores all.moves;
  closing = all.closing;
  closed = all.closed;
  closes = all.closes;
  settles = all.settles;
}

-- where the disk went down in the last group
pub breaks_cut : (h : FileHead) (P Q : VolumeState → Type 0) (v w x : VolumeState) → ((c : Content) → Some c ≡ content w.store → AllTold h v.catalog.ru (content v.store) c) → ((made : VolumeState) → Q made → P made) → Breaks Q w x → BreaksCut h P v x
breaks_cut h P Q v w x told so breaks = ⊎_elim
    (λ old. inl (leaves_told (λ c. Some c ≡ content w.store) (AllTold h v.catalog.ru (content v.store)) x.store.disk told old))
    (λ either. inr (record {
      made = either.made;
      is = so either.made either.is;
      either = leaves_told (IsEither (content w.store) either.made.store.current) (λ c. AllTold h v.catalog.ru (content v.store) c ⊎ (Some c ≡ either.made.store.current)) x.store.disk
          (λ c is. ⊎_elim (λ old. inl (told c old)) (λ new. inr new) is) either.either;
    }))
    breaks

-- what breaks so breaks as what follows from it
pub breaks_cut_so : (h : FileHead) (P Q : VolumeState → Type 0) (v w : VolumeState) → ((made : VolumeState) → P made → Q made) → BreaksCut h P v w → BreaksCut h Q v w
breaks_cut_so h P Q v w f (inl old) = inl old
breaks_cut_so h P Q v w f (inr either) = inr (record { made = either.made; is = f either.made either.is; either = either.either })

-- a file still lies in the content
pub placed_still : (h : FileHead) (v w : VolumeState) → w.store.disk.size ≡ v.store.disk.size → IsPlaced h v.store.disk → IsPlaced h w.store.disk
placed_still h v w same p = record {
  from = p.from;
  to = let a = p.to in omega (arith, a, same);
  fits = let a = p.fits in omega (arith, a, same);
  blocks = p.blocks;
  one = p.one;
  least = p.least;
  records = p.records;
  greatest = p.greatest;
}

pub fits_still : (size : ℕ) (s : Span) (v w : VolumeState) → w.store.disk.size ≡ v.store.disk.size → Fits size s v.store.disk → Fits size s w.store.disk
fits_still size s v w same fits = record { room = room_still size s v w same fits.room; low = fits.low }

-- The last group of a truncation that is committed.

as_it_was : (ru : Span) (o : Option Content) → o ≡ option_map (content_with None ru) o
as_it_was ru None = refl
as_it_was ru (Some c) = refl

pub commits_behind : (file : ℕ) (h : FileHead) (from : ℕ) (spans : ImageSpans) (tid : Tid) (serial : Serial) (moment : ℕ) (left : List (Option OpenUnit)) (v moved closed made : VolumeState) → MovesFile file h from spans v moved → IsEntry (settled_entry (tid_of tid) (serial_of serial) Commit moment) →
    EntersSettled (only file) (Some (settled_entry (tid_of tid) (serial_of serial) Commit moment)) moved closed → IsStaged tid serial ending.Commit moment None left v closed made →
    made.catalog ≡ record closed.catalog { home = settled_home tid serial ending.Commit moment closed.catalog.home; ru = from_earliest left closed.catalog.ru } → CommitsBehind file h from spans tid serial moment left v made
commits_behind file h from spans tid serial moment left v moved closed made moves closing closes staged catalog = record {
  moved = moved;
  moves = moves;
  closing = closing;
  closed = closed;
  closes = closes;
  settles = makes tid serial ending.Commit moment None left closed closed made (as_it_was closed.catalog.ru closed.store.current) refl staged catalog;
}

-- it is told by the content and by what is kept of it
pub behind_as : (file : ℕ) (h : FileHead) (from : ℕ) (spans : ImageSpans) (tid : Tid) (serial : Serial) (moment : ℕ) (left : List (Option OpenUnit)) (v made w : VolumeState) → w.store.current ≡ made.store.current → w.catalog ≡ made.catalog →
    CommitsBehind file h from spans tid serial moment left v made → CommitsBehind file h from spans tid serial moment left v w
behind_as file h from spans tid serial moment left v made w current catalog is = record {
  moved = is.moved;
  moves = is.moves;
  closing = is.closing;
  closed = is.closed;
  closes = is.closes;
  settles = record { current = current ∙ is.settles.current; catalog = catalog ∙ is.settles.catalog };
}

module _ (file : ℕ) (h : FileHead) (from : ℕ) (spans : ImageSpans) (v moved : VolumeState) (long : length v.catalog.heads ≡ 64) (there : head_at v.catalog.heads file ≡ Some h) (is : MovesFile file h from spans v moved) (disk : moved.store.disk ≡ v.store.disk) where
  abbrev now : FileHead
  now = record is.head { ai = spans.afters; bi = spans.befores }

  now_at : (k : FileHead) → head_at moved.catalog.heads file ≡ Some k → now ≡ k
  now_at k at =
      let below = head_below v.catalog.heads file h long there in
      let whole : length is.cut.catalog.heads ≡ 64 = ap (λ (c : Catalog). length c.heads) is.stages.catalog ∙ length-set v.catalog.heads file (Some is.head) ∙ long in
      let e : Some now ≡ Some k = sym (ap (λ (c : Catalog). head_at c.heads file) is.catalog ∙ get_or-set_same is.cut.catalog.heads file (Some now) None (omega (arith, below, whole))) ∙ at in
      cc

  -- the journals have the room that these spans have
  pub moved_room_after : (h.marks.ai ≡ true → HasRoom 48 spans.afters v.store.disk) → FileHasRoom After 48 file moved.catalog.heads moved.store.disk
  moved_room_after room k at kept =
      let same = now_at k at in
      subst (λ (d : DiskState). HasRoom 48 k.ai d) (sym disk) (subst (λ (x : FileHead). HasRoom 48 x.ai v.store.disk) same (room (sym (ap (λ (x : FileHead). x.marks.ai) is.stages.same.is) ∙ ap (λ (x : FileHead). x.marks.ai) same ∙ kept)))

  pub moved_room_before : (h.marks.bi ≡ true → HasRoom 48 spans.befores v.store.disk) → FileHasRoom Before 48 file moved.catalog.heads moved.store.disk
  moved_room_before room k at kept =
      let same = now_at k at in
      subst (λ (d : DiskState). HasRoom 48 k.bi d) (sym disk) (subst (λ (x : FileHead). HasRoom 48 x.bi v.store.disk) same (room (sym (ap (λ (x : FileHead). x.marks.bi) is.stages.same.is) ∙ ap (λ (x : FileHead). x.marks.bi) same ∙ kept)))

-- Entries of a truncation with others in the journal of recovery units.
pub with_had : (h : FileHead) (es : CutEntries) (had : List Entry) (v w : VolumeState) → WritesImages h es v w → WritesImages h (record es { had = had }) v w
with_had h es had v w writes = record { mid = writes.mid; befores = writes.befores; afters = writes.afters }

pub tell_had : (tid serial : Id) (file : ℕ) (h : FileHead) (from : ℕ) (v : VolumeState) (es : CutEntries) (had : List Entry) → TellCut tid serial file h from v es → TellCut tid serial file h from v (record es { had = had })
tell_had tid serial file h from v es had tells = record { gone = tells.gone; images = tells.images }

pub fit_less : (h : FileHead) (gone size : ℕ) (d : DiskState) → ImagesFit h (gone + 48) (size + 48) d → ImagesFit h gone size d
fit_less h gone size d fit = record {
  afters = λ kept. (let f = fit.afters kept in let l = f.low in record { room = room_less (gone + 48) gone h.ai d (omega arith) f.room; low = omega (arith, l) });
  befores = λ kept. (let f = fit.befores kept in let l = f.low in record { room = room_less (size + 48) size h.bi d (omega arith) f.room; low = omega (arith, l) });
}

-- what is left for the settlement behind them
pub room_to_close : (kept : Bool) (size : ℕ) (s t : Span) (es : List Entry) (v w : VolumeState) → w.store.disk.size ≡ v.store.disk.size → t ≡ span_if kept s es → length (flat_map spelling es) ≤ size → (kept ≡ true → Fits (size + 48) s v.store.disk) → kept ≡ true → HasRoom 48 t w.store.disk
room_to_close kept size s t es v w same is few fits marked =
    subst (λ (x : Span). HasRoom 48 x w.store.disk) (sym is)
    (room_still 48 (span_if kept s es) v w same
    (room_if kept 48 s es v.store.disk (λ k. let l = (fits k).low in omega (arith, l, few)) (λ k. room_less (size + 48) (length (flat_map spelling es) + 48) s v.store.disk (omega (arith, few)) (fits k).room) marked))
