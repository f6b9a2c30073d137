-- Entries behind the journal's end: what they leave as it is, and one more of them.
use Rattle.std.proofs.Common.{◌≡◌, ℕ, suc, ◌+◌, ◌-◌, ◌<◌, ◌≤◌, true, List, [], ◌∷◌, ◌++◌, Option, Some, None, IfSome, length, option_map, refl, sym, ap, subst, ◌∙◌, arith, inr, append_assoc, length-append}
use Rattle.std.specs.List.{AllByRecursion, flat_map}
use Rattle.std.proofs.lemmas.Grind.{flat_map-append}
use Rattle.std.proofs.lemmas.List.{append-nil}
use Rattle.std.proofs.lemmas.List.Concat.{flat_map-cons}
use Rattle.change_set.specs.Files.{AgreesOn}
use Rattle.change_set.specs.Maps.{Map}
use Rattle.change_set.specs.declared.walk.Place.{Place}
use Rattle.file_base.specs.declared.head.FileHead.{FileHead}
use Rattle.file_base.specs.declared.head.Organization.TheVariants.{Sequential}
use Rattle.file_base.specs.declared.head.Span.{Span}
use Rattle.journal_model.specs.Entries.{Entry, IsEntry, spelling}
use Rattle.journal_model.specs.Ring.{IsJournal, put_byte, put_stream, ring_size}
use Rattle.journal_store.proofs.Journals.{appended, keeps_others, written_behind}
use Rattle.journal_store.proofs.Streams.{put_stream-append}
use Rattle.volume_files.specs.record_files.Any.{Begins, IsFile, IsLaidOut, layout_of, map_of}
use Rattle.volume_files.specs.record_files.Local.{layout_local_law, local_law, valid_local_law}
use Rattle.unit_journal.specs.Entries.{change_entry}
use Rattle.unit_journal.specs.Spans.{longer}
use Rattle.vms_model.specs.Ids.{Id}
use Rattle.vms_model.specs.Keys.{Key}
use Rattle.volume.specs.Catalogs.{IsSound, head_at}
use Rattle.volume.specs.declared.catalog.Catalog.{Catalog}
use Rattle.volume.specs.State.{VolumeState}
use Rattle.volume_files.proofs.Places.{fit_of, within}
use Rattle.volume_files.proofs.Walks.{begins_still}
use Rattle.unit_cuts.proofs.EntrySizes.{spelled_size}
use Rattle.image_appends.specs.declared.side.Side.TheVariants.{After, Before}
use Rattle.image_room.proofs.Beside.{lies_beside}
use Rattle.unit_cuts.specs.Moving.{ImagesLieBeside}
use Rattle.unit_cuts.specs.Truncating.{AreBegun, IsBehind, IsPlaceOf, LiesBeside, TellsSame, begins_at, cut_entries, entry_sizes, span_behind, with_entries}

abbrev Content : Type 0
Content = List (List ℕ)

-- What stays.

-- the blocks of a file lie behind the ring of the journal of recovery units
pub lies_past : (node : List ℕ) (size : ℕ) (v : Catalog) (f : ℕ) (h : FileHead) → length v.heads ≡ 64 → IsSound node size v → head_at v.heads f ≡ Some h → LiesBeside h v.ru
lies_past node size v f h long sound there n is =
    let lies = within _ v.heads (fit_of node size v long sound) f n h there is in
    inr (omega (arith, lies.0, sound.ru_start, sound.ru_blocks))

-- and beside those of its journals of images
pub images_beside : (node : List ℕ) (size : ℕ) (v : Catalog) (f : ℕ) (h : FileHead) → length v.heads ≡ 64 → IsSound node size v → head_at v.heads f ≡ Some h →
    (h.marks.ai ≡ true → 518 ≤ h.ai.start) → (h.marks.bi ≡ true → 518 ≤ h.bi.start) → ImagesLieBeside h
images_beside node size v f h long sound there afters befores = record {
  afters = λ kept. lies_beside node size v long sound After f h there (afters kept);
  befores = λ kept. lies_beside node size v long sound Before f h there (befores kept);
}

-- where two contents have the same blocks of a file
module _ (h : FileHead) (a b : Content) (same : AgreesOn h a b) where
  back : AgreesOn h b a
  back n is = sym (same n is)

  pub map_agrees : IsFile h → IsLaidOut h a → map_of h a ≡ map_of h b
  map_agrees form = local_law h a b form same

  pub laid_agrees : IsFile h → IsLaidOut h a → IsLaidOut h b
  laid_agrees form = valid_local_law h a b form same

  pub layout_agrees : IsFile h → IsLaidOut h a → layout_of h a ≡ layout_of h b
  layout_agrees form = layout_local_law h a b form same

  pub laid_agrees_back : IsFile h → IsLaidOut h b → IsLaidOut h a
  laid_agrees_back form = valid_local_law h b a form back

  pub place_agrees : (place : Place) → h.organization ≡ Sequential → IsFile h → IsPlaceOf h a place → IsPlaceOf h b place
  place_agrees place seq form is = record { used = is.used; begins = λ key. begins_still h a b key place seq form same is.used (is.begins key) }

  pub places_agree : (places : List Place) → h.organization ≡ Sequential → IsFile h → AllByRecursion (IsPlaceOf h a) places → AllByRecursion (IsPlaceOf h b) places
  places_agree [] seq form each = tt
  places_agree (p ∷ ps) seq form each = (place_agrees p seq form each.0, places_agree ps seq form each.1)

module _ (h : FileHead) (s : Span) (past : LiesBeside h s) (some : 0 < s.blocks) (a : Content) (es : List Entry) where
  pub file_stays : AgreesOn h a (with_entries s es a)
  file_stays n is = sym ((keeps_others (flat_map spelling es) a s s.end some).others n (past n is))

  pub map_stays : IsFile h → IsLaidOut h a → map_of h a ≡ map_of h (with_entries s es a)
  map_stays = map_agrees h a (with_entries s es a) file_stays

  pub laid_stays : IsFile h → IsLaidOut h a → IsLaidOut h (with_entries s es a)
  laid_stays = laid_agrees h a (with_entries s es a) file_stays

  pub laid_back : IsFile h → IsLaidOut h (with_entries s es a) → IsLaidOut h a
  laid_back = laid_agrees_back h a (with_entries s es a) file_stays

  pub places_stay : (places : List Place) → h.organization ≡ Sequential → IsFile h → AllByRecursion (IsPlaceOf h a) places → AllByRecursion (IsPlaceOf h (with_entries s es a)) places
  places_stay = places_agree h a (with_entries s es a) file_stays

-- a walk may begin at a place
pub begins_of : (h : FileHead) (v : VolumeState) (place : Place) (places : List Place) (key : Option Key) → ((k : FileHead) (a : Content) → IsFile k → AllByRecursion (IsPlaceOf k a) places → IsPlaceOf k a place) → AreBegun h v places → IfSome v.store.current (λ a. IsFile h → IsLaidOut h a → Begins h a key place)
begins_of h v place places key at begun = go v.store.current refl
  where
    go : (o : Option Content) → v.store.current ≡ o → IfSome o (λ a. IsFile h → IsLaidOut h a → Begins h a key place)
    go None is = tt
    go (Some a) is = λ form laid. (at h a form (begun a is form laid)).begins key

-- nothing else is other
module _ (s : Span) where
  pub behind_none : (a : Content) → IsBehind s a a
  behind_none a = record { others = record { size = refl; others = λ n out. refl }; journal = λ es is. is }

  pub same_none : (old : Option Content) → TellsSame s old old
  same_none None = refl
  same_none (Some a) = behind_none a

  pub behind_entries : (es : List Entry) (a : Content) → 0 < s.blocks → s.end + length (flat_map spelling es) ≤ s.first + ring_size s → IsBehind s a (with_entries s es a)
  behind_entries es a some room = record {
    others = keeps_others (flat_map spelling es) a s s.end some;
    journal = λ before is. written_behind a s before s.end (flat_map spelling es) is (omega arith) room;
  }

  pub same_entries : (es : List Entry) (old : Option Content) → 0 < s.blocks → s.end + length (flat_map spelling es) ≤ s.first + ring_size s → TellsSame s old (option_map (with_entries s es) old)
  same_entries es None some room = refl
  same_entries es (Some a) some room = behind_entries es a some room

-- One entry more.

pub spelled_more : (es : List Entry) (e : Entry) → flat_map spelling (es ++ e ∷ []) ≡ flat_map spelling es ++ spelling e
spelled_more es e = flat_map-append spelling es (e ∷ []) ∙ ap (λ (l : List ℕ). flat_map spelling es ++ l) (flat_map-cons spelling e [] ∙ append-nil (spelling e))

pub each_more : (es : List Entry) (e : Entry) → AllByRecursion IsEntry es → IsEntry e → AllByRecursion IsEntry (es ++ e ∷ [])
each_more [] e each is = (is, tt)
each_more (x ∷ es) e each is = (each.0, each_more es e each.1 is)

pub long_more : (es : List Entry) (e : Entry) → length (flat_map spelling (es ++ e ∷ [])) ≡ length (flat_map spelling es) + length (spelling e)
long_more es e = ap length (spelled_more es e) ∙ length-append (flat_map spelling es) (spelling e)

pub long_front : (e : Entry) (es : List Entry) → length (flat_map spelling (e ∷ es)) ≡ length (spelling e) + length (flat_map spelling es)
long_front e es = ap length (flat_map-cons spelling e es) ∙ length-append (spelling e) (flat_map spelling es)

pub begins_more : (p : ℕ) (es : List Entry) (e : Entry) → begins_at p (es ++ e ∷ []) ≡ begins_at p es ++ (p + length (flat_map spelling es)) ∷ []
begins_more p [] e = ap (λ (k : ℕ). k ∷ []) (let same : p ≡ p + 0 = omega arith in same)
begins_more p (x ∷ es) e = ap (λ (ps : List ℕ). p ∷ ps) (begins_more (p + length (spelling x)) es e
    ∙ ap (λ (k : ℕ). begins_at (p + length (spelling x)) es ++ k ∷ []) (let long = long_front x es in let same : p + length (spelling x) + length (flat_map spelling es) ≡ p + length (flat_map spelling (x ∷ es)) = omega (arith, long) in same))

pub begins_long : (p : ℕ) (es : List Entry) → length (begins_at p es) ≡ length es
begins_long p [] = refl
begins_long p (e ∷ es) = ap suc (begins_long (p + length (spelling e)) es)

-- the end of a span does not count
put_longer : (bs : List ℕ) (c : Content) (s : Span) (n p : ℕ) → put_stream c (longer n s) p bs ≡ put_stream c s p bs
put_longer [] c s n p = refl
put_longer (b ∷ bs) c s n p = put_longer bs (put_byte c s p b) s n (p + 1)

put_more : (es : List Entry) (e : Entry) (s : Span) (c : Content) → put_stream (with_entries s es c) (span_behind es s) (span_behind es s).end (spelling e) ≡ with_entries s (es ++ e ∷ []) c
put_more es e s c =
    put_longer (spelling e) (with_entries s es c) s (length (flat_map spelling es)) (s.end + length (flat_map spelling es))
    ∙ sym (put_stream-append (flat_map spelling es) (spelling e) c s s.end) ∙ ap (put_stream c s s.end) (sym (spelled_more es e))

pub current_more : (es : List Entry) (e : Entry) (s : Span) (old : Option Content) → option_map (λ (c : Content). put_stream c (span_behind es s) (span_behind es s).end (spelling e)) (option_map (with_entries s es) old) ≡ option_map (with_entries s (es ++ e ∷ [])) old
current_more es e s None = refl
current_more es e s (Some c) = ap Some (put_more es e s c)

pub current_none : (s : Span) (old : Option Content) → old ≡ option_map (with_entries s []) old
current_none s None = refl
current_none s (Some c) = refl

pub span_more : (es : List Entry) (e : Entry) (s : Span) → longer (length (spelling e)) (span_behind es s) ≡ span_behind (es ++ e ∷ []) s
span_more es e s = ap (λ (n : ℕ). record s { end = n }) (let long = long_more es e in let same : s.end + length (flat_map spelling es) + length (spelling e) ≡ s.end + length (flat_map spelling (es ++ e ∷ [])) = omega (arith, long) in same)

pub span_none : (s : Span) → s ≡ span_behind [] s
span_none s = ap (λ (n : ℕ). record s { end = n }) (let same : s.end ≡ s.end + 0 = omega arith in same)

-- The entries that tell records.

pub entries_more : (tid serial : Id) (file : ℕ) (m : Map) (ks : List Key) (k : Key) → cut_entries tid serial file m (ks ++ k ∷ []) ≡ cut_entries tid serial file m ks ++ change_entry tid serial file k (m k) ∷ []
entries_more tid serial file m [] k = refl
entries_more tid serial file m (x ∷ ks) k = ap (λ (es : List Entry). change_entry tid serial file x (m x) ∷ es) (entries_more tid serial file m ks k)

pub sizes_append : (m : Map) (front back : List Key) → entry_sizes m (front ++ back) ≡ entry_sizes m front + entry_sizes m back
sizes_append m [] back = omega arith
sizes_append m (k ∷ front) back = let more = sizes_append m front back in omega (arith, more)

pub entries_long : (tid serial : Id) (file : ℕ) (m : Map) (ks : List Key) → AllByRecursion IsEntry (cut_entries tid serial file m ks) → length (flat_map spelling (cut_entries tid serial file m ks)) ≡ entry_sizes m ks
entries_long tid serial file m [] each = refl
entries_long tid serial file m (k ∷ ks) each =
    let one = spelled_size tid serial file k (m k) each.0 in
    let rest = entries_long tid serial file m ks each.1 in
    let long = long_front (change_entry tid serial file k (m k)) (cut_entries tid serial file m ks) in
    omega (arith, one, rest, long)

-- A journal with them is one with as many entries more.

pub journal_more : (c : Content) (s : Span) (es ds : List Entry) → IsJournal c s es → AllByRecursion IsEntry ds → s.end - s.first + length (flat_map spelling ds) ≤ ring_size s → IsJournal (with_entries s ds c) (span_behind ds s) (es ++ ds)
journal_more c s es [] j each room = subst (λ (t : Span). IsJournal c t (es ++ [])) (span_none s) (subst (λ (l : List Entry). IsJournal c s l) (sym (append-nil es)) j)
journal_more c s es (d ∷ ds) j each room =
    let long = long_front d ds in
    let c1 = put_stream c s s.end (spelling d) in
    let s1 = longer (length (spelling d)) s in
    let one = appended c s es d j each.0 (omega (arith, room, long)) in
    let all = journal_more c1 s1 (es ++ d ∷ []) ds one each.1 (omega (arith, room, long, j.order)) in
    let content : with_entries s1 ds c1 ≡ with_entries s (d ∷ ds) c =
    put_longer (flat_map spelling ds) c1 s (length (spelling d)) s1.end ∙ sym (put_stream-append (spelling d) (flat_map spelling ds) c s s.end) ∙ ap (put_stream c s s.end) (sym (flat_map-cons spelling d ds)) in
    let span : span_behind ds s1 ≡ span_behind (d ∷ ds) s = ap (λ (n : ℕ). record s { end = n }) (let same : s.end + length (spelling d) + length (flat_map spelling ds) ≡ s.end + length (flat_map spelling (d ∷ ds)) = omega (arith, long) in same) in
    subst (λ (l : List Entry). IsJournal (with_entries s (d ∷ ds) c) (span_behind (d ∷ ds) s) l) (append_assoc es (d ∷ []) ds)
    (subst (λ (t : Span). IsJournal (with_entries s (d ∷ ds) c) t ((es ++ d ∷ []) ++ ds)) span
    (subst (λ (x : Content). IsJournal x (span_behind ds s1) ((es ++ d ∷ []) ++ ds)) content all))
