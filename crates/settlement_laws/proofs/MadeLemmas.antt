-- What a settlement on a disk makes of a volume is the node's volume after it.
use Rattle.std.proofs.Common.{◌≡◌, ◌≢◌, ℕ, ◌+◌, ◌-◌, ◌<◌, ◌≤◌, ◌^◌, Bool, true, false, cond, List, [], ◌∷◌, ◌++◌, length, replicate, Option, Some, None, slice_set, refl, sym, ◌∙◌, ap, subst, inl, inr, arith, append-nil, length-set}
use Rattle.std.proofs.lemmas.Bool.{cases_eq}
use Rattle.std.proofs.lemmas.List.{get_or-set_same, get_or-set_other, length-replicate}
use Rattle.std.specs.Prelude.{is_some}
use Rattle.std.specs.Option.{option_map}
use Rattle.block_disk.specs.Blocks.{block_at}
use Rattle.careful_write.specs.State.{EachWhole}
use Rattle.file_base.specs.declared.head.FileHead.{FileHead}
use Rattle.file_base.specs.declared.head.Span.{Span}
use Rattle.vms_model.specs.Ids.{Id, IsId}
use Rattle.vms_model.specs.Transactions.{Outcome, Commit, Abort}
use Rattle.vms_base.specs.declared.ids.Serial.{Serial}
use Rattle.vms_base.specs.declared.ids.Tid.{Tid}
use Rattle.journal_model.specs.Entries.{Entry, spelling}
use Rattle.journal_model.specs.Ring.{IsJournal, KeepsOthers, put_stream}
use Rattle.journal_format.proofs.Decoding.{total_is}
use Rattle.journal_store.proofs.Journals.{appended, keeps_others}
use Rattle.unit_laws.specs.Journal.{RecoveryUnit, SettledEntry, end_of, find_unit, units_in, with_settled}
use Rattle.unit_laws.specs.JournalLaws.{is_unit}
use Rattle.unit_laws.proofs.TrimLemmas.{settles_unit}
use Rattle.lmcp_log.specs.Keeping.{SameSlots}
use Rattle.world_laws.specs.run_model.World.{Node, Settlement}
use Rattle.lmcp_log.specs.volume.declared.catalog.Catalog.{Catalog}
use Rattle.lmcp_log.specs.volume.Catalogs.{IsSound, TellsCatalog, TellsEntry}
use Rattle.lmcp_log.specs.volume.Limits.{EntryFits, SaveFits, data_area}
use Rattle.lmcp_log.specs.volume.State.{VolumeState}
use Rattle.volume_format.specs.Home.{IsHome, HasHome as TellsHome, HasRu, home_block_of, home_rows, ru_block_of, ru_rows, sizes_of}
use Rattle.volume_format.specs.declared.home.Home.{Home}
use Rattle.volume_format.specs.declared.home.Ending.{Ending}
use Rattle.volume_format.proofs.Homes.{home_wide, home_written}
use Rattle.volume_format.proofs.Splices.{laid_again, laid_stand, length-laid}
use Rattle.volume_laws.proofs.volume_files.Places.{fit_of}
use Rattle.volume_laws.specs.directory_model.Files.{AgreesOnFile, Fit, head_at}
use Rattle.volume_laws.proofs.directory_model.Apart.{writes_apart}
use Rattle.volume_laws.specs.volume_model.Entries.{entry_for}
use Rattle.volume_laws.specs.volume_model.Homes.{HasHome}
use Rattle.volume_laws.specs.volume_model.Volumes.{HasJournal}
use Rattle.volume_laws.specs.file_images.Files.{SameRing}
use Rattle.volume_laws.specs.Journals.{settled_entries}
use Rattle.volume_laws.proofs.file_images.Rings.{journal_stands}
use Rattle.unit_table.specs.Units.{OpenUnit}
use Rattle.unit_journal.specs.Entries.{settled_entry}
use Rattle.unit_journal.specs.Settling.{content_with, entry_if, from_earliest, settled_home, span_with, with_front}
use Rattle.unit_journal.specs.Spans.{longer}
use Rattle.unit_journal.proofs.EntryLemmas.{settled_is}
use Rattle.settlement_laws.specs.Settled.{IsSettled, Makes, SettlementsAreMade, noted}

abbrev Content : Type 0
Content = List (List ℕ)

other_block : (c : Content) (k n : ℕ) (b : List ℕ) → n ≢ k → block_at (slice_set c k b) n ≡ block_at c n
other_block c k n b apart = get_or-set_other c k n b [] apart

same_block : (c : Content) (k : ℕ) (b : List ℕ) → k < length c → block_at (slice_set c k b) k ≡ b
same_block c k b within = get_or-set_same c k b [] within

whole_set : (c : Content) (k : ℕ) (b : List ℕ) → EachWhole c → length b ≡ 512 → EachWhole (slice_set c k b)
whole_set c k b whole long n below = elim (cases_eq n k) [
  | inl same ↦ ap (λ (m : ℕ). length (block_at (slice_set c k b) m)) same ∙ ap length (same_block c k b (let size = length-set c k b in omega (arith, below, size, same))) ∙ long
  | inr other ↦ ap length (other_block c k n b other) ∙ whole n (let size = length-set c k b in omega (arith, below, size))
]

-- A file that fits a greatest moment fits a later one.

save_later : (x y : ℕ) → x ≤ y → (marked : Bool) (h : FileHead) → SaveFits marked x h → SaveFits marked y h
save_later x y later true h fits = record { buckets = fits.buckets; position = fits.position; moment = (let was = fits.moment in omega (arith, later, was)) }
save_later x y later false h fits = fits

entry_later : (x y : ℕ) → x ≤ y → (o : Option FileHead) → EntryFits x o → EntryFits y o
entry_later x y later None fits = fits
entry_later x y later (Some h) fits = record {
  bucket = fits.bucket;
  keys = fits.keys;
  buckets = fits.buckets;
  ai = fits.ai;
  bi = fits.bi;
  since = (let was = fits.since in omega (arith, later, was));
  save = save_later x y later h.marks.save h fits.save;
}

-- Blocks of a home and of a span.

home_long : (h : Home) → IsHome h → length (home_block_of h) ≡ 512
unfolding home_rows
home_long h is = length-laid 0 (home_rows h) (replicate {A = ℕ} 512 0) refl (home_wide h is) (length-replicate {A = ℕ} 512 0)

ru_long : (s : Span) → length (ru_block_of s) ≡ 512
ru_long s = length-laid 0 (ru_rows s) (replicate {A = ℕ} 512 0) refl (refl, (refl, tt)) (length-replicate {A = ℕ} 512 0)

ru_written : (s : Span) → HasRu (ru_block_of s) s
ru_written s =
    let long : length (replicate {A = ℕ} 512 0) ≡ 512 = length-replicate {A = ℕ} 512 0 in
    laid_again 0 (ru_rows s) (ru_block_of s) refl (refl, (refl, tt)) (ru_long s) (laid_stand 0 (ru_rows s) (replicate {A = ℕ} 512 0) refl (refl, (refl, tt)) long)

-- The front of a content, over what is in front of it.

module _ (c : Content) (home : Home) (ru : Span) where
  front_other : (k : ℕ) → k ≢ 0 → k ≢ 65 → block_at (with_front home ru c) k ≡ block_at c k
  front_other k first last = other_block (slice_set c 0 (home_block_of home)) 65 k (ru_block_of ru) last ∙ other_block c 0 k (home_block_of home) first

  front_size : length (with_front home ru c) ≡ length c
  front_size = length-set (slice_set c 0 (home_block_of home)) 65 (ru_block_of ru) ∙ length-set c 0 (home_block_of home)

  front_whole : IsHome home → EachWhole c → EachWhole (with_front home ru c)
  front_whole is whole = whole_set (slice_set c 0 (home_block_of home)) 65 (ru_block_of ru) (whole_set c 0 (home_block_of home) whole (home_long home is)) (ru_long ru)

  front_home : 66 ≤ length c → block_at (with_front home ru c) 0 ≡ home_block_of home
  front_home long = other_block (slice_set c 0 (home_block_of home)) 65 0 (ru_block_of ru) (λ e. absurd (omega (arith, e))) ∙ same_block c 0 (home_block_of home) (omega (arith, long))

  front_ru : 66 ≤ length c → block_at (with_front home ru c) 65 ≡ ru_block_of ru
  front_ru long = same_block (slice_set c 0 (home_block_of home)) 65 (ru_block_of ru) (let size = length-set c 0 (home_block_of home) in omega (arith, long, size))

-- An entry more, where there is one.

abbrev list_of : Option Entry → List Entry
list_of None = []
list_of (Some e) = e ∷ []

abbrev put_in : Span → Option Entry → Content → Content
put_in s None c = c
put_in s (Some e) c = put_stream c s s.end (spelling e)

module _ (s : Span) (c : Content) (es : List Entry) (j : IsJournal c s es) (far : 584 ≤ s.start) where
  put_journal : (o : Option Entry) → ((e : Entry) → o ≡ Some e → IsJournal (put_stream c s s.end (spelling e)) (record s { end = s.end + length (spelling e) }) (es ++ e ∷ [])) → IsJournal (put_in s o c) (span_with o s) (es ++ list_of o)
  put_journal None more = subst (IsJournal c s) (sym (append-nil es)) j
  put_journal (Some e) more = more e refl

  put_others : (o : Option Entry) → KeepsOthers s c (put_in s o c)
  put_others None = record { size = refl; others = λ n out. refl }
  put_others (Some e) = keeps_others (spelling e) c s s.end j.ring.some

  put_whole : (o : Option Entry) → IsJournal (put_in s o c) (span_with o s) (es ++ list_of o) → EachWhole (put_in s o c)
  put_whole o is = is.ring.whole

  -- what is written of the content has the blocks of that but for that of the span
  with_other : (o : Option Entry) (k : ℕ) → k ≢ 65 → block_at (content_with o s c) k ≡ block_at (put_in s o c) k
  with_other None k other = refl
  with_other (Some e) k other = other_block (put_stream c s s.end (spelling e)) 65 k (ru_block_of (longer (length (spelling e)) s)) other

  with_size : (o : Option Entry) → length (content_with o s c) ≡ length (put_in s o c)
  with_size None = refl
  with_size (Some e) = length-set (put_stream c s s.end (spelling e)) 65 (ru_block_of (longer (length (spelling e)) s))

  with_whole : (o : Option Entry) → EachWhole (put_in s o c) → EachWhole (content_with o s c)
  with_whole None whole = whole
  with_whole (Some e) whole = whole_set (put_stream c s s.end (spelling e)) 65 (ru_block_of (longer (length (spelling e)) s)) whole (ru_long (longer (length (spelling e)) s))

-- The whole.

span_start : (o : Option Entry) (s : Span) → (span_with o s).start ≡ s.start
span_start None s = refl
span_start (Some e) s = refl

span_blocks : (o : Option Entry) (s : Span) → (span_with o s).blocks ≡ s.blocks
span_blocks None s = refl
span_blocks (Some e) s = refl

span_first : (o : Option Entry) (s : Span) → record (span_with o s) { first = s.first } ≡ span_with o s
span_first None s = refl
span_first (Some e) s = refl

codes_alike : (tid serial : Id) (outcome : Outcome) (moment : ℕ) → settled_entry tid serial outcome moment ≡ entry_for 0 (SettledEntry tid serial outcome moment)
codes_alike tid serial Commit moment = refl
codes_alike tid serial Abort moment = refl

some_is : (x y : Content) → Some x ≡ Some y → x ≡ y
some_is x y e = cc

one_entry : (x y : Entry) → Some x ≡ Some y → x ≡ y
one_entry x y e = cc

module _ (b c : Content) (n : Node) (s : Settlement) (tid : Tid) (serial : Serial) (ending : Ending) (left : List (Option OpenUnit)) (v made : VolumeState) (node : List ℕ) (size : ℕ) (told : v.store.current ≡ Some b) (now : made.store.current ≡ Some c)
    (tells : TellsCatalog v.catalog b) (sound : IsSound node size v.catalog) (heads_long : length v.catalog.heads ≡ 64) (has : HasHome v.catalog.home n) (j : HasJournal b v.catalog n) (m : Makes n s tid serial ending left v made) where
  abbrev ru : Span
  ru = v.catalog.ru

  abbrev entry : Entry
  entry = settled_entry s.tid s.serial s.outcome s.moment

  abbrev e : Option Entry
  e = entry_if (is_unit s.serial n.durable.units) entry

  abbrev home_after : Home
  home_after = settled_home tid serial ending s.moment v.catalog.home

  abbrev ru_after : Span
  ru_after = from_earliest left (span_with e ru)

  abbrev after : Content
  after = with_front home_after ru_after (content_with e ru b)

  fits : s.moment < 2 ^ 64
  fits = let early = m.early in omega (arith, early)

  content_is : c ≡ after
  content_is = some_is c after (sym now ∙ m.makes.current ∙ ap (option_map (λ (x : Content). with_front home_after ru_after (content_with e ru x))) told)

  far : 584 ≤ ru.start
  far = let start = sound.ru_start in omega (arith, start)

  entry_size : length (spelling entry) ≡ 48
  entry_size = total_is entry (settled_is s.tid s.serial s.outcome s.moment m.is_tid m.is_serial fits)

  with_entry : (u : Bool) → is_unit s.serial n.durable.units ≡ u → (x : Entry) → entry_if u entry ≡ Some x → IsJournal (put_stream b ru ru.end (spelling x)) (record ru { end = ru.end + length (spelling x) }) (j.entries ++ x ∷ [])
  with_entry false unit x is = let never : ⊥ = cc in absurd never
  with_entry true unit x is = subst (λ (y : Entry). IsJournal (put_stream b ru ru.end (spelling y)) (record ru { end = ru.end + length (spelling y) }) (j.entries ++ y ∷ [])) (one_entry entry x is)
      (appended b ru j.entries entry j.is (settled_is s.tid s.serial s.outcome s.moment m.is_tid m.is_serial fits) (let room = m.room unit in omega (arith, room, entry_size)))

  put : IsJournal (put_in ru e b) (span_with e ru) (j.entries ++ list_of e)
  put = put_journal ru b j.entries j.is far e (with_entry (is_unit s.serial n.durable.units) refl)

  big : 66 ≤ length b
  big = let within = j.is.ring.within in let some = j.is.ring.some in omega (arith, within, some, far)

  long : length (content_with e ru b) ≡ length b
  long = with_size ru b j.entries j.is far e ∙ (put_others ru b j.entries j.is far e).size

  is_home : IsHome home_after
  is_home = record {
    version = tells.ranges.version;
    blocks = tells.ranges.blocks;
    slots = tells.ranges.slots;
    ru_blocks = tells.ranges.ru_blocks;
    node = tells.ranges.node;
    boot = tells.ranges.boot;
    greatest_moment = fits;
    last = (subst IsId (ap (λ (x : Settlement). x.tid) m.settlement) m.is_tid, subst IsId (ap (λ (x : Settlement). x.serial) m.settlement) m.is_serial);
  }

  after_whole : EachWhole after
  after_whole = front_whole (content_with e ru b) home_after ru_after is_home (with_whole ru b j.entries j.is far e (put_whole ru b j.entries j.is far e put))

  -- a block behind the front is what was put in
  behind : (k : ℕ) → 66 ≤ k → block_at after k ≡ block_at (put_in ru e b) k
  behind k low = front_other (content_with e ru b) home_after ru_after k (λ z. absurd (omega (arith, low, z))) (λ z. absurd (omega (arith, low, z))) ∙ with_other ru b j.entries j.is far e k (λ z. absurd (omega (arith, low, z)))

  ring_same : SameRing (span_with e ru) (put_in ru e b) after
  ring_same = record {
    size = front_size (content_with e ru b) home_after ru_after ∙ with_size ru b j.entries j.is far e;
    whole = after_whole;
    blocks = λ k low high. behind k (let start = span_start e ru in omega (arith, low, start, far));
  }

  listed : list_of e ≡ settled_entries s n.durable.units
  listed = go (find_unit s.serial (units_in n.durable.units.entries))
    where
      go : (o : Option RecoveryUnit) → list_of (entry_if (is_some o) entry) ≡ elim o as (λ _. List Entry) [ Some u ↦ entry_for 0 (SettledEntry s.tid s.serial s.outcome s.moment) ∷ [] | None ↦ [] ]
      go None = refl
      go (Some u) = ap (λ (x : Entry). x ∷ []) (codes_alike s.tid s.serial s.outcome s.moment)

  span_is : record made.catalog.ru { first = ru.first } ≡ span_with e ru
  span_is = ap (λ (k : Catalog). record k.ru { first = ru.first }) m.makes.catalog ∙ span_first e ru

  entered_after : IsJournal c (record made.catalog.ru { first = ru.first }) (j.entries ++ settled_entries s n.durable.units)
  entered_after = subst (λ (x : Content). IsJournal x (record made.catalog.ru { first = ru.first }) (j.entries ++ settled_entries s n.durable.units)) (sym content_is)
      (subst (λ (r : Span). IsJournal after r (j.entries ++ settled_entries s n.durable.units)) (sym span_is)
      (subst (λ (es : List Entry). IsJournal after (span_with e ru) (j.entries ++ es)) listed (journal_stands (span_with e ru) (put_in ru e b) after (j.entries ++ list_of e) put ring_same)))

  fit : Fit (data_area (sizes_of v.catalog.home)) v.catalog.heads
  fit = let is = fit_of node size v.catalog heads_long sound in record { heads_long = is.heads_long; behind = is.behind; each = is.each }

  files_stay : (f : ℕ) (h : FileHead) → head_at v.catalog.heads f ≡ Some h → AgreesOnFile h b c
  files_stay = writes_apart.before (data_area (sizes_of v.catalog.home)) v.catalog.heads b c fit (ap length content_is ∙ ring_same.size ∙ (put_others ru b j.entries j.is far e).size) (subst EachWhole (sym content_is) after_whole) (λ k inside.
      let start = sound.ru_start in
      let blocks = sound.ru_blocks in
      let past : ru.start - 518 + ru.blocks ≤ k = omega (arith, inside, start, blocks) in
      sym ((put_others ru b j.entries j.is far e).others k (inr past)) ∙ sym (behind k (omega (arith, past, far))) ∙ ap (λ (x : Content). block_at x k) (sym content_is))

  log_stays : SameSlots (length n.durable.log) b c
  log_stays i below =
      let slots = has.slots in
      let start = sound.ru_start in
      ap (λ (x : Content). block_at x (66 + i)) content_is ∙ behind (66 + i) (omega arith) ∙ (put_others ru b j.entries j.is far e).others (66 + i) (inl (omega (arith, below, slots, start)))

  end_after : made.catalog.ru.end ≡ end_of (with_settled s.tid s.serial s.outcome s.moment n.durable.units)
  end_after = ap (λ (k : Catalog). k.ru.end) m.makes.catalog ∙ by (is_unit s.serial n.durable.units) ∙ ap (λ (p : ℕ). p + cond (is_unit s.serial n.durable.units) 48 0) j.end ∙ sym (settles_unit s.tid s.serial s.outcome s.moment n.durable.units).end
    where
      by : (u : Bool) → (span_with (entry_if u entry) ru).end ≡ ru.end + cond u 48 0
      by true = ap (λ (k : ℕ). ru.end + k) entry_size
      by false = omega arith

  home_settled : HasHome made.catalog.home (noted s n)
  home_settled = subst (λ (k : Catalog). HasHome k.home (noted s n)) (sym m.makes.catalog) (record { volume = has.volume; slots = has.slots; journal = has.journal; boot = has.boot; greatest = refl; last = ap Some m.settlement })

  front_tells : TellsCatalog (record v.catalog { home = home_after; ru = ru_after }) after
  front_tells = record {
    ranges = is_home;
    home = subst (λ (x : List ℕ). TellsHome x home_after) (sym (front_home (content_with e ru b) home_after ru_after (omega (arith, big, long)))) (home_written home_after (replicate {A = ℕ} 512 0) is_home (length-replicate {A = ℕ} 512 0));
    heads = λ f below. subst (λ (x : List ℕ). TellsEntry x (head_at v.catalog.heads f)) (sym (directory f below)) (tells.heads f below);
    ru = subst (λ (x : List ℕ). HasRu x ru_after) (sym (front_ru (content_with e ru b) home_after ru_after (omega (arith, big, long)))) (ru_written ru_after);
  }
    where
      directory : (f : ℕ) → f < 64 → block_at after (1 + f) ≡ block_at b (1 + f)
      directory f below =
          front_other (content_with e ru b) home_after ru_after (1 + f) (λ z. absurd (omega (arith, z))) (λ z. absurd (omega (arith, below, z))) ∙ with_other ru b j.entries j.is far e (1 + f) (λ z. absurd (omega (arith, below, z)))
          ∙ (put_others ru b j.entries j.is far e).others (1 + f) (inl (omega (arith, below, far)))

  sound_after : IsSound node size (record v.catalog { home = home_after; ru = ru_after })
  sound_after = record {
    version = sound.version;
    sizes = sound.sizes;
    home = record { owner = sound.home.owner; moment = m.early };
    files = λ f below. entry_later v.catalog.home.greatest_moment.0 s.moment m.later (head_at v.catalog.heads f) (sound.files f below);
    names = sound.names;
    extents = sound.extents;
    ru_start = span_start e ru ∙ sound.ru_start;
    ru_blocks = span_blocks e ru ∙ sound.ru_blocks;
  }

  pub made_is : IsSettled n s j.entries b c v.catalog made.catalog × TellsCatalog made.catalog c × IsSound node size made.catalog
  made_is = (
    record { heads = ap (λ (k : Catalog). k.heads) m.makes.catalog; log = log_stays; files = files_stay; home = home_settled; entered = entered_after; first = m.first; end = end_after; low = m.low },
    subst (λ (k : Catalog). TellsCatalog k c) (sym m.makes.catalog) (subst (TellsCatalog (record v.catalog { home = home_after; ru = ru_after })) (sym content_is) front_tells),
    subst (IsSound node size) (sym m.makes.catalog) sound_after,
  )

pub settlements_are_made : SettlementsAreMade
settlements_are_made = made_is
