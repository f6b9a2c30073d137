-- The images of the records that a truncation takes stand behind the ends of the file's journals, also once the file is cut.
use Rattle.std.proofs.Common.{◌≡◌, ℕ, zero, suc, ◌+◌, ◌-◌, ◌*◌, ◌%◌, ◌<◌, ◌≤◌, ◌^◌, List, [], ◌∷◌, ◌++◌, Bool, true, false, Option, Some, None, IfSome, length, map, reverse, refl, sym, ◌∙◌, ap, subst, arith, inl, inr, length-append}
use Rattle.std.specs.Prelude.{slice_index}
use Rattle.std.specs.List.{AllByRecursion, flat_map}
use Rattle.std.proofs.lemmas.Bool.{cases_lt}
use Rattle.std.proofs.lemmas.List.{length-map, reverse-append}
use Rattle.std.proofs.lemmas.Nat.{mod_below, div-add-mod'}
use Rattle.careful_write.specs.State.{EachWhole}
use Rattle.change_set.specs.Files.{SameFile}
use Rattle.change_set.specs.Maps.{Map}
use Rattle.file_base.specs.declared.head.FileHead.{FileHead}
use Rattle.file_base.specs.declared.head.Organization.{Organization as Kept}
use Rattle.file_base.specs.declared.head.Organization.TheVariants as kept_by
use Rattle.file_base.specs.declared.head.Span.{Span}
use Rattle.unit_world.specs.file_images.Files.{SameRing, form_of}
use Rattle.unit_world.specs.file_images.Images as images
use Rattle.unit_world.specs.file_images.Images.{IsSuited, entry_by}
use Rattle.unit_world.proofs.file_images.Forms.{suited_by_form}
use Rattle.recovery_units.specs.image_appends.declared.side.Side.{Side}
use Rattle.recovery_units.specs.image_appends.declared.side.Side.TheVariants.{After, Before}
use Rattle.recovery_units.specs.image_appends.Images.{is_kept, span_of}
use Rattle.undo_laws.specs.image_groups.Lists.{IsImageOf, StandBehind, image_of, images_bytes}
use Rattle.journal_format.proofs.Decoding.{entry_size as size_within}
use Rattle.journal_model.specs.Entries.{Entry, IsEntry, spelling}
use Rattle.journal_model.specs.Ring.{HasRing, block_of, place_of, ring_size, stream}
use Rattle.journal_store.proofs.Journals.{keeps_others, ring_stream, stream_here}
use Rattle.volume_files.specs.record_files.Any.{Suits, SuitsBy}
use Rattle.records_model.specs.Records.{Change}
use Rattle.recovery_units.specs.run_model.Operations.{removed}
use Rattle.recovery_units.specs.run_model.World as nodes
use Rattle.recovery_units.specs.run_model.World.{Node}
use Rattle.volume_files.specs.seq_file.Layout as sequential
use Rattle.rms_units.proofs.seq_file.RecordLaws.{record_at_past}
use Rattle.unit_world.proofs.restart_laws.FoundLemmas.{record_is}
use Rattle.unit_world.specs.directory_model.Files.{AgreesOnCarried, head_at}
use Rattle.unit_world.proofs.directory_model.Apart.{off_ring, writes_apart}
use Rattle.undo_laws.proofs.NoteLemmas.{key_read}
use Rattle.rms_units.proofs.unit_cuts.CutEntering.{entries_more, spelled_more}
use Rattle.rms_units.specs.unit_cuts.Truncating.{CutEntries, cut_entries, told_map, with_entries, with_entries_if}
use Rattle.recovery_units.specs.unit_entries.Keys.{key_in as key_in_file}
use Rattle.rms_units.specs.unit_journal.Entries.{change_entry}
use Rattle.vms_model.specs.Ids.{Id}
use Rattle.vms_model.specs.Keys.{Key, Number, Text, End}
use Rattle.volume.specs.declared.catalog.Catalog.{Catalog}
use Rattle.volume.specs.Catalogs.{IsSound}
use Rattle.volume.specs.Limits.{data_area}
use Rattle.volume_format.specs.Home.{sizes_of}
use Rattle.recovery_units.specs.world_laws.Ordered.{IsKeyOf}
use Rattle.node_units.proofs.CutImages.{IsStill, behind_if, journal_of, still}
use Rattle.node_units.proofs.CutRefusals.{Entries}
use Rattle.node_units.proofs.Imaging.{fits as fits_in}
use Rattle.node_units.proofs.KeyImages.{change_is, span_same}

abbrev Content : Type 0
Content = List (List ℕ)

-- The records that go.

-- a record of a sequential file can be noted
pub record NotedAt (h : FileHead) (key : Key) (bytes : List ℕ) : Type 0 where
  pub form : IsKeyOf nodes.Sequential key
  pub some : 1 ≤ length bytes
  pub most : length bytes ≤ h.mrs

noted_at : (h : FileHead) (a : Content) (key : Key) (bytes : List ℕ) → sequential.IsLaidOut h a → h.count < 4294967295 → sequential.map_of h a key ≡ Some bytes → NotedAt h key bytes
noted_at h a (Number zero) bytes laid few at = let never : ⊥ = cc in absurd never
noted_at h a (Number (suc n)) bytes laid few at = elim (cases_lt (length (sequential.records_in h a)) (suc n)) [
  | inl past ↦ (let none = sym (record_at_past (sequential.records_in h a) (suc n) past) ∙ at in let never : ⊥ = cc in absurd never)
  | inr within ↦
      let is = subst (λ o. IfSome o (sequential.IsRecord h.mrs)) at (record_is h.mrs (sequential.records_in h a) (suc n) laid.records) in
      record { form = (omega arith, (let size = laid.count in omega (arith, within, size, few))); some = is.one; most = is.most }
]
noted_at h a (Text t) bytes laid few at = let never : ⊥ = cc in absurd never
noted_at h a End bytes laid few at = let never : ⊥ = cc in absurd never

pub each_noted : (h : FileHead) (a : Content) (es : Entries) → sequential.IsLaidOut h a → h.count < 4294967295 → AllByRecursion (λ (e : Key × List ℕ). sequential.map_of h a e.0 ≡ Some e.1) es → AllByRecursion (λ (e : Key × List ℕ). NotedAt h e.0 e.1) es
each_noted h a [] laid few all = tt
each_noted h a (e ∷ es) laid few all = (noted_at h a e.0 e.1 laid few all.0, each_noted h a es laid few all.1)

-- Their entries in the journal of one side.

-- whether the entries of a side tell what the records had
abbrev has_image : Side → Bool
has_image After = false
has_image Before = true

abbrev pub entries_of : Side → CutEntries → List Entry
entries_of After es = es.gone
entries_of Before es = es.images

abbrev pub told_of : Side → (tid serial : Id) → (f : ℕ) → Map → Entries → List Entry
told_of side tid serial f m going = cut_entries tid serial f (told_map (has_image side) m) (reverse (map (λ (e : Key × List ℕ). e.0) going))

module _ (side : Side) (tid serial : Id) (f : ℕ) (m : Map) where
  -- the entry of one
  abbrev entry_of_one : Key → Entry
  entry_of_one key = change_entry tid serial f key (told_map (has_image side) m key)

  told_more : (e : Key × List ℕ) (es : Entries) → told_of side tid serial f m (e ∷ es) ≡ told_of side tid serial f m es ++ entry_of_one e.0 ∷ []
  told_more e es =
      ap (cut_entries tid serial f (told_map (has_image side) m)) (reverse-append (e.0 ∷ []) (map (λ (x : Key × List ℕ). x.0) es))
      ∙ entries_more tid serial f (told_map (has_image side) m) (reverse (map (λ (x : Key × List ℕ). x.0) es)) e.0

-- it is that of the image of its removal
one_is : (side : Side) (tid serial : Id) (f : ℕ) (m : Map) (e : Key × List ℕ) → m e.0 ≡ Some e.1 → 1 ≤ length e.1 → entry_of_one side tid serial f m e.0 ≡ entry_by f tid (image_of side serial (removed e))
one_is After tid serial f m e told some = sym (change_is f tid serial e.0 None tt)
one_is Before tid serial f m e told some = ap (change_entry tid serial f e.0) told ∙ sym (change_is f tid serial e.0 (Some e.1) some)

last_of : (xs : List Entry) (x : Entry) → AllByRecursion IsEntry (xs ++ x ∷ []) → AllByRecursion IsEntry xs × IsEntry x
last_of [] x all = (tt, all.0)
last_of (y ∷ xs) x all = let rest = last_of xs x all.1 in ((all.0, rest.0), rest.1)

-- The images are of the file's form.

suits_so : (h : FileHead) (key : Key) (v : Option (List ℕ)) → IsKeyOf nodes.Sequential key → IfSome v (sequential.IsRecord h.mrs) → sequential.Suits h key v
suits_so h (Number n) v form is = (form.0, is)
suits_so h (Text t) v form is = absurd form
suits_so h End v form is = absurd form

image_suits : (side : Side) (serial : Id) (h : FileHead) (e : Key × List ℕ) → h.organization ≡ kept_by.Sequential → NotedAt h e.0 e.1 → IsSuited h (image_of side serial (removed e))
image_suits After serial h e kind noted = subst (λ (o : Kept). SuitsBy o h e.0 None) (sym kind) (suits_so h e.0 None noted.form tt)
image_suits Before serial h e kind noted = subst (λ (o : Kept). SuitsBy o h e.0 (Some e.1)) (sym kind) (suits_so h e.0 (Some e.1) noted.form (record { one = noted.some; most = noted.most }))

key_of : (h : FileHead) (e : Key × List ℕ) → h.organization ≡ kept_by.Sequential → NotedAt h e.0 e.1 → key_in_file h.organization (images.key_bytes e.0) ≡ Some e.0
key_of h e kind noted = subst (λ (o : Kept). key_in_file o (images.key_bytes e.0) ≡ Some e.0) (sym kind) (key_read kept_by.Sequential h e.0 noted.form)

image_of_form : (side : Side) (serial : Id) (h : FileHead) (e : Key × List ℕ) → h.organization ≡ kept_by.Sequential → NotedAt h e.0 e.1 → images.IsOf h.organization (image_of side serial (removed e))
image_of_form After serial h e kind noted = key_of h e kind noted
image_of_form Before serial h e kind noted = key_of h e kind noted

module _ (side : Side) (tid serial : Id) (f : ℕ) (m : Map) (h new : FileHead) (same : SameFile h new) (kind : h.organization ≡ kept_by.Sequential) where
  bytes_are : (es : Entries) → AllByRecursion (λ (e : Key × List ℕ). m e.0 ≡ Some e.1) es → AllByRecursion (λ (e : Key × List ℕ). NotedAt h e.0 e.1) es → flat_map spelling (told_of side tid serial f m es) ≡ images_bytes side f tid serial (map removed es)
  bytes_are [] told noted = refl
  bytes_are (e ∷ es) told noted =
      ap (flat_map spelling) (told_more side tid serial f m e es)
      ∙ spelled_more (told_of side tid serial f m es) (entry_of_one side tid serial f m e.0)
      ∙ (λ i. bytes_are es told.1 noted.1 i ++ spelling (one_is side tid serial f m e told.0 noted.0.some i))

  each_image : (es : Entries) → AllByRecursion (λ (e : Key × List ℕ). m e.0 ≡ Some e.1) es → AllByRecursion (λ (e : Key × List ℕ). NotedAt h e.0 e.1) es → AllByRecursion IsEntry (told_of side tid serial f m es) →
      AllByRecursion (IsImageOf side f new tid serial) (map removed es)
  each_image [] told noted each = tt
  each_image (e ∷ es) told noted each =
      let parts = last_of (told_of side tid serial f m es) (entry_of_one side tid serial f m e.0) (subst (AllByRecursion IsEntry) (told_more side tid serial f m e es) each) in (
        record {
          is = subst IsEntry (one_is side tid serial f m e told.0 noted.0.some) parts.1;
          of = subst (λ (o : Kept). images.IsOf o (image_of side serial (removed e))) (sym (ap (λ (x : FileHead). x.organization) same.is)) (image_of_form side serial h e kind noted.0);
          suited = subst (λ (y : FileHead). IsSuited y (image_of side serial (removed e))) (sym (ap form_of same.is)) (suited_by_form h (image_of side serial (removed e)) (image_suits side serial h e kind noted.0));
        },
        each_image es told.1 noted.1 parts.0,
      )

  most_bytes : (cs : List Change) → AllByRecursion (IsImageOf side f new tid serial) cs → length (images_bytes side f tid serial cs) ≤ 8272 * length cs
  most_bytes [] all = omega arith
  most_bytes (c ∷ cs) all =
      let rest = most_bytes cs all.1 in
      let one = (size_within (entry_by f tid (image_of side serial c)) all.0.is).1 in
      let more = length-append (images_bytes side f tid serial cs) (spelling (entry_by f tid (image_of side serial c))) in
      omega (arith, rest, one, more)

  -- What stands behind a journal's end.
  module _ (going : Entries) (told : AllByRecursion (λ (e : Key × List ℕ). m e.0 ≡ Some e.1) going) (noted : AllByRecursion (λ (e : Key × List ℕ). NotedAt h e.0 e.1) going) (few : length going ≤ 1024) (es : List Entry) (tells : es ≡ told_of side tid serial f m going)
      (each : AllByRecursion IsEntry es) (low : (span_of side h).end + 2 ^ 24 ≤ 2 ^ 62) where
    pub spelled_so : flat_map spelling es ≡ images_bytes side f tid serial (map removed going)
    spelled_so = ap (flat_map spelling) tells ∙ bytes_are going told noted

    all_images : AllByRecursion (IsImageOf side f new tid serial) (map removed going)
    all_images = each_image going told noted (subst (AllByRecursion IsEntry) tells each)

    pub long_so : length (images_bytes side f tid serial (map removed going)) ≤ 8272 * 1024
    long_so = let most = most_bytes (map removed going) all_images in let many = length-map going removed in omega (arith, most, many, few)

    pub stand_so : (c : Content) → (span_of side h).end - (span_of side h).first + length (flat_map spelling es) ≤ ring_size (span_of side h) → stream c (span_of side h) (span_of side h).end (length (flat_map spelling es)) ≡ flat_map spelling es →
        StandBehind side f c new tid serial (map removed going)
    stand_so c room there = record {
      each = all_images;
      room = subst (λ (r : Span). r.end - r.first + length (images_bytes side f tid serial (map removed going)) ≤ ring_size r) (sym span) (let size = ap length spelled_so in omega (arith, room, size));
      low = subst (λ (r : Span). r.end + length (images_bytes side f tid serial (map removed going)) ≤ 2 ^ 62) (sym span) (let most = long_so in omega (arith, low, most));
      there = subst (λ (r : Span). stream c r r.end (length (images_bytes side f tid serial (map removed going))) ≡ images_bytes side f tid serial (map removed going)) (sym span)
          (subst (λ (bs : List ℕ). stream c (span_of side h) (span_of side h).end (length bs) ≡ bs) spelled_so there);
    }
      where
        span : span_of side new ≡ span_of side h
        span = span_same side h new same

-- Bytes of a ring in a content that has its blocks.

block_within : (s : Span) (p : ℕ) → 0 < s.blocks → block_of s p < s.start - 518 + s.blocks
block_within s p some =
    let below = mod_below p (ring_size s) (omega (arith, some)) in
    let parts = div-add-mod' (p % ring_size s) 512 in
    omega (arith, below, parts)

stream_same : (n : ℕ) (s : Span) (a b : Content) (p : ℕ) → 0 < s.blocks → SameRing s a b → stream b s p n ≡ stream a s p n
stream_same zero s a b p some same = refl
stream_same (suc n) s a b p some same = λ i. slice_index (same.blocks (block_of s p) (omega arith) (block_within s p some) i) (place_of s p) ∷ stream_same n s a b (p + 1) some same i

pub ring_on : (s : Span) (a b c : Content) → SameRing s a b → SameRing s b c → SameRing s a c
ring_on s a b c one two = record { size = two.size ∙ one.size; whole = two.whole; blocks = λ k from to. two.blocks k from to ∙ one.blocks k from to }

ring_itself : (s : Span) (a : Content) → EachWhole a → SameRing s a a
ring_itself s a whole = record { size = refl; whole = whole; blocks = λ k from to. refl }

pub ring_carried : (h : FileHead) (a b : Content) → AgreesOnCarried h a b → (side : Side) → is_kept side h ≡ true → SameRing (span_of side h) a b
ring_carried h a b stands After on = stands.after on
ring_carried h a b stands Before on = stands.before on

-- The entries of a truncation were written behind the ends of both journals of a file of a node's volume: the before images first.
module _ (n : Node) (k : Catalog) (f : ℕ) (h : FileHead) (there : head_at k.heads f ≡ Some h) (sound : IsSound n.name n.blocks k) (long : length k.heads ≡ 64) (a : Content) (is : IsStill n k f h there sound long a) (es : CutEntries)
    (room : (side : Side) → is_kept side h ≡ true → (span_of side h).end - (span_of side h).first + length (flat_map spelling (entries_of side es)) ≤ ring_size (span_of side h)) where
  abbrev first : Content
  first = with_entries_if h.marks.bi h.bi es.images a

  abbrev pub second : Content
  second = with_entries_if h.marks.ai h.ai es.gone first

  first_still : IsStill n k f h there sound long first
  first_still = still n k f h there sound long a first is Before (behind_if n k f h there sound long a is Before es.images (room Before))

  pub second_still : IsStill n k f h there sound long second
  second_still = still n k f h there sound long first second first_still After (behind_if n k f h there sound long first first_still After es.gone (room After))

  after_ring : h.marks.ai ≡ true → HasRing first h.ai
  after_ring on = (journal_of n k f h there sound long first first_still After on).1.ring

  before_ring : h.marks.bi ≡ true → HasRing a h.bi
  before_ring on = (journal_of n k f h there sound long a is Before on).1.ring

  before_first : h.marks.bi ≡ true → stream first h.bi h.bi.end (length (flat_map spelling es.images)) ≡ flat_map spelling es.images
  before_first on = subst (λ (b : Bool). stream (with_entries_if b h.bi es.images a) h.bi h.bi.end (length (flat_map spelling es.images)) ≡ flat_map spelling es.images) (sym on)
      (stream_here (flat_map spelling es.images) a h.bi h.bi.end (before_ring on) (let fits = room Before on in omega (arith, fits)))

  -- those of after images touch no block of the ring of the others
  before_stands : SameRing h.bi first second
  before_stands = go h.marks.ai refl
    where
      go : (b : Bool) → h.marks.ai ≡ b → SameRing h.bi first (with_entries_if b h.ai es.gone first)
      go false off = ring_itself h.bi first first_still.whole
      go true on = (writes_apart.in_after (data_area (sizes_of k.home)) k.heads f h first (with_entries h.ai es.gone first) (fits_in n.name n.blocks k long sound) there
          (off_ring h.ai first (with_entries h.ai es.gone first) (keeps_others (flat_map spelling es.gone) first h.ai h.ai.end (after_ring on).some))
          (ring_stream (flat_map spelling es.gone) first h.ai h.ai.end (after_ring on)).whole).2

  in_second : (side : Side) → is_kept side h ≡ true → stream second (span_of side h) (span_of side h).end (length (flat_map spelling (entries_of side es))) ≡ flat_map spelling (entries_of side es)
  in_second After on = subst (λ (b : Bool). stream (with_entries_if b h.ai es.gone first) h.ai h.ai.end (length (flat_map spelling es.gone)) ≡ flat_map spelling es.gone) (sym on)
      (stream_here (flat_map spelling es.gone) first h.ai h.ai.end (after_ring on) (let fits = room After on in omega (arith, fits)))
  in_second Before on = stream_same (length (flat_map spelling es.images)) h.bi first second h.bi.end (before_ring on).some before_stands ∙ before_first on

  ring_some : (side : Side) → is_kept side h ≡ true → 0 < (span_of side h).blocks
  ring_some After on = (after_ring on).some
  ring_some Before on = (before_ring on).some

  -- and so in a content that has the blocks of the rings
  pub stands_there : (c : Content) (side : Side) → is_kept side h ≡ true → SameRing (span_of side h) second c → stream c (span_of side h) (span_of side h).end (length (flat_map spelling (entries_of side es))) ≡ flat_map spelling (entries_of side es)
  stands_there c side on same = stream_same (length (flat_map spelling (entries_of side es))) (span_of side h) second c (span_of side h).end (ring_some side on) same ∙ in_second side on
