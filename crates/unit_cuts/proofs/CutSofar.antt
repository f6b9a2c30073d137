-- How far a truncation has come with its entries.
use Rattle.std.proofs.Common.{◌≡◌, ℕ, ◌+◌, ◌-◌, ◌<◌, ◌≤◌, ◌^◌, Bool, true, List, [], ◌∷◌, ◌++◌, Option, Some, None, Result, Ok, length, option_map, refl, sym, ap, subst, ◌∙◌, arith, inl, inr, ⊎_elim, length-append}
use Rattle.std.specs.List.{AllByRecursion, flat_map}
use Rattle.block_disk.specs.Disk.{DiskState}
use Rattle.block_disk.specs.Counts.{counted}
use Rattle.careful_write.specs.Down.{Counts, is_failed, is_stopped}
use Rattle.careful_write.specs.State.{IsEither, IsIdle, IsReady, Leaves, OneContent, StoreState, content}
use Rattle.careful_write.specs.Steps.{Quiet}
use Rattle.careful_write.specs.declared.down.Down.{Down}
use Rattle.change_set.specs.Files.{IsPlaced, free_frames}
use Rattle.change_set.specs.Maps.{Map}
use Rattle.change_set.specs.declared.walk.Place.{Place}
use Rattle.file_base.specs.declared.head.FileHead.{FileHead}
use Rattle.file_base.specs.declared.head.Organization.TheVariants.{Sequential}
use Rattle.file_base.specs.declared.head.Span.{Span}
use Rattle.journal_model.specs.Entries.{Entry, IsEntry, spelling}
use Rattle.journal_model.specs.Ring.{put_stream, ring_size}
use Rattle.journal_store.specs.Rings.{IsRing}
use Rattle.volume_files.specs.record_files.Any.{IsFile, IsLaidOut, map_of}
use Rattle.unit_journal.specs.Entries.{change_entry}
use Rattle.unit_journal.specs.Leaving.{FellIn}
use Rattle.unit_journal.proofs.Breaking.{fell_old}
use Rattle.unit_journal.specs.Spans.{longer}
use Rattle.vms_model.specs.Ids.{Id}
use Rattle.vms_model.specs.Keys.{Key, Number}
use Rattle.volume.specs.State.{VolumeState}
use Rattle.unit_cuts.specs.Records.{OfRecords}
use Rattle.unit_cuts.specs.Truncating.{AreBegun, CutRoomState, EntersIfFits, EntersOne, Entering, IsBehind, IsPlaceOf, IsTold, LiesBeside, TellsFirst, TellsSame, Writes, cut_entries, entry_sizes, keys_cut, keys_down, removed_from, told_map, with_entries}
use Rattle.unit_cuts.proofs.Reading.{entering_to}
use Rattle.unit_cuts.proofs.CutLemmas.{keys_back, keys_split}
use Rattle.unit_cuts.proofs.EntrySizes.{spelled_size}
use Rattle.unit_cuts.proofs.CutEntering.{begins_more, current_more, current_none, each_more, entries_long, entries_more, laid_back, laid_stays, map_stays, places_stay, same_entries, same_none, sizes_append, span_more, span_none}

abbrev Content : Type 0
Content = List (List ℕ)

pub record Sofar (tid serial : Id) (file : ℕ) (h : FileHead) (from limit : ℕ) (base : Span) (has_image : Bool) (start : List Place) (behind bound : ℕ) (v w : VolumeState) (s : Span) (room : CutRoomState) : Type 0 where
  pub entries : List Entry
  pub entering : Entering limit base v w s room.positions entries
  pub tells : TellsFirst tid serial file h from limit behind base has_image v entries
  pub staged : length w.store.touched ≤ bound
  pub many : length room.positions ≤ behind
  pub places : AreBegun h v room.places
  pub same_places : room.places ≡ start

-- What is told of an image.

pub told_of : (s : Span) (old new : Option Content) (c : Content) → TellsSame s old new → Some c ≡ new → IsTold true s old c
told_of s None new c same is = let no : ⊥ = cc in absurd no
told_of s (Some a) None c same is = let no : ⊥ = cc in absurd no
told_of s (Some a) (Some b) c same is = let e : b ≡ c = cc in subst (IsBehind s a) e same

pub leaves_told : (P Q : Content → Type 0) (d : DiskState) → ((c : Content) → P c → Q c) → Leaves P d → Leaves Q d
leaves_told P Q d f leaves = λ image may. let is = leaves image may in (is.0, f _ is.1)

-- Counts.

pub counts_on : {T : Type 0} (r : Result T Down) (a b c : DiskState) → Quiet a b → Counts r b c → Counts r a c
counts_on r a b c quiet counts = record {
  size = counts.size ∙ quiet.size;
  calls = counts.calls ∙ quiet.calls;
  faults = counts.faults ∙ ap (counted (is_failed r)) quiet.faults;
  stops = counts.stops ∙ ap (counted (is_stopped r)) quiet.stops;
  told = counts.told ∙ quiet.told;
}

module _ (tid serial : Id) (file : ℕ) (h : FileHead) (from limit : ℕ) (base : Span) (has_image : Bool) (start : List Place) (v : VolumeState) where
  abbrev has : Map → Map
  has m = told_map has_image m

  -- nothing is entered
  pub sofar_none : (s : Span) (room : CutRoomState) → IsIdle v.store → s ≡ base → base.end ≤ limit → room.positions ≡ [] → AreBegun h v room.places → room.places ≡ start → Sofar tid serial file h from limit base has_image start 0 0 v v s room
  sofar_none s room idle is fits none places same = record {
    entries = [];
    entering = record {
      each = tt;
      span = is ∙ span_none base;
      fits = subst (λ (t : Span). t.end ≤ limit) (sym is) fits;
      positions = none;
      current = current_none base v.store.current;
      written = subst (TellsSame base v.store.current) idle.current (same_none base v.store.current);
      ready = idle.ready;
      catalog = refl;
      pool = refl;
      counts = record { size = refl; calls = refl; faults = refl; stops = refl; told = refl };
    };
    tells = λ a told form laid all. refl;
    staged = let long = ap length idle.unstaged in omega (arith, long);
    many = let long = ap length none in omega (arith, long);
    places = places;
    same_places = same;
  }

  module _ (past : LiesBeside h base) (some : 0 < base.blocks) (behind bound : ℕ) (w : VolumeState) (s : Span) (room : CutRoomState) (sofar : Sofar tid serial file h from limit base has_image start behind bound v w s room) where
    abbrev es : List Entry
    es = sofar.entries

    abbrev k : Key
    k = Number (h.count - behind)

    now_at : (a : Content) → v.store.current ≡ Some a → w.store.current ≡ Some (with_entries base es a)
    now_at a told = sofar.entering.current ∙ ap (option_map (with_entries base es)) told

    -- places among the used buckets stay
    pub places_now : h.organization ≡ Sequential → AreBegun h w room.places
    places_now seq b told form laid = step v.store.current refl
      where
        step : (o : Option Content) → v.store.current ≡ o → AllByRecursion (IsPlaceOf h b) room.places
        step None none = let no : ⊥ = (let e : None ≡ Some b = sym (ap (option_map (with_entries base es)) none) ∙ sym sofar.entering.current ∙ told in cc) in absurd no
        step (Some a) is =
            let both : Some (with_entries base es a) ≡ Some b = sym (now_at a is) ∙ told in
            let same : with_entries base es a ≡ b = cc in
            subst (λ (x : Content). AllByRecursion (IsPlaceOf h x) room.places) same
            (places_stay h base past some a es room.places seq form (sofar.places a is form (laid_back h base past some a es form (subst (IsLaidOut h) (sym same) laid))))

    module _ (e : Entry) (is : IsEntry e) (tells : OfRecords h w (λ m. e ≡ change_entry tid serial file k (has m k))) where
      -- it is the entry of the next record
      next_is : (a : Content) → v.store.current ≡ Some a → IsFile h → IsLaidOut h a → e ≡ change_entry tid serial file k (has (map_of h a) k)
      next_is a told form laid = tells (with_entries base es a) (now_at a told) form (laid_stays h base past some a es form laid) ∙ ap (λ m. change_entry tid serial file k (has m k)) (sym (map_stays h base past some a es form laid))

      more_is : (a : Content) → v.store.current ≡ Some a → IsFile h → IsLaidOut h a → es ≡ cut_entries tid serial file (has (map_of h a)) (keys_down h.count behind) → es ++ e ∷ [] ≡ cut_entries tid serial file (has (map_of h a)) (keys_down h.count (behind + 1))
      more_is a told form laid before =
          (λ i. before i ++ next_is a told form laid i ∷ []) ∙ sym (entries_more tid serial file (has (map_of h a)) (keys_down h.count behind) k) ∙ ap (cut_entries tid serial file (has (map_of h a))) (sym (keys_back h.count behind))

      -- so many bytes are left that it fits, where all are the records' own
      fits_so : behind < removed_from h.count from → (a : Content) → v.store.current ≡ Some a → IsFile h → IsLaidOut h a → limit ≡ base.end + entry_sizes (has (map_of h a)) (keys_cut h from) → es ≡ cut_entries tid serial file (has (map_of h a)) (keys_down h.count behind) → s.end + length (spelling e) ≤ limit
      fits_so below a told form laid all before =
          let m = has (map_of h a) in
          let next = next_is a told form laid in
          let end = ap (λ (t : Span). t.end) sofar.entering.span in
          let long : length (flat_map spelling es) ≡ entry_sizes m (keys_down h.count behind) = ap (λ (xs : List Entry). length (flat_map spelling xs)) before ∙ entries_long tid serial file m (keys_down h.count behind) (subst (λ (xs : List Entry). AllByRecursion IsEntry xs) before sofar.entering.each) in
          let one = ap (λ (x : Entry). length (spelling x)) next ∙ spelled_size tid serial file k (m k) (subst IsEntry next is) in
          let more : entry_sizes m (keys_down h.count (behind + 1)) ≡ entry_sizes m (keys_down h.count behind) + entry_sizes m (k ∷ []) = ap (entry_sizes m) (keys_back h.count behind) ∙ sizes_append m (keys_down h.count behind) (k ∷ []) in
          let split : entry_sizes m (keys_cut h from) ≡ entry_sizes m (keys_down h.count (behind + 1)) + entry_sizes m (keys_down (h.count - (behind + 1)) (removed_from h.count from - (behind + 1))) =
          ap (λ (n : ℕ). entry_sizes m (keys_down h.count n)) (let whole : removed_from h.count from ≡ (behind + 1) + (removed_from h.count from - (behind + 1)) = omega (arith, below) in whole)
          ∙ ap (entry_sizes m) (keys_split h.count (behind + 1) (removed_from h.count from - (behind + 1))) ∙ sizes_append m (keys_down h.count (behind + 1)) _ in
          omega (arith, end, long, one, more, split, all)

      entered_so : (x : VolumeState) (t : Span) (qs : List ℕ) → EntersOne (spelling e) limit s t room.positions qs w x → Entering limit base v x t qs (es ++ e ∷ [])
      entered_so x t qs en = record {
        each = each_more es e sofar.entering.each is;
        span = en.span ∙ ap (longer (length (spelling e))) sofar.entering.span ∙ span_more es e base;
        fits = subst (λ (u : Span). u.end ≤ limit) (sym en.span) en.fits;
        positions = en.positions ∙ (λ i. sofar.entering.positions i ++ (sofar.entering.span i).end ∷ []) ∙ sym (begins_more base.end es e);
        current = en.current ∙ (λ i. option_map (λ (c : Content). put_stream c (sofar.entering.span i) (sofar.entering.span i).end (spelling e)) (sofar.entering.current i)) ∙ current_more es e base v.store.current;
        written = subst (TellsSame base v.store.current) (sym (ap content en.rest)) sofar.entering.written;
        ready = subst IsReady (sym en.rest) (record { fitting = sofar.entering.ready.fitting; settled = sofar.entering.ready.settled; closed = sofar.entering.ready.closed });
        catalog = en.catalog ∙ sofar.entering.catalog;
        pool = ap (λ (st : StoreState). st.pool) en.rest ∙ sofar.entering.pool;
        counts = subst (λ (d : DiskState). Quiet v.store.disk d) (sym (ap (λ (st : StoreState). st.disk) en.rest)) sofar.entering.counts;
      }

      -- one record more, whether it fits or not
      pub sofar_more : (x : VolumeState) (t : Span) (next : CutRoomState) → behind < removed_from h.count from → next.places ≡ room.places → EntersIfFits (spelling e) limit s t room.positions next.positions w x → Sofar tid serial file h from limit base has_image start (behind + 1) (bound + 18) v x t next
      sofar_more x t next below places (inl en) = record {
        entries = es ++ e ∷ [];
        entering = entered_so x t next.positions en;
        tells = λ a told form laid all. more_is a told form laid (sofar.tells a told form laid all);
        staged = let before = sofar.staged in let few = en.few in omega (arith, before, few);
        many = let before = sofar.many in let long = ap length en.positions ∙ length-append room.positions (s.end ∷ []) in omega (arith, before, long);
        places = subst (AreBegun h v) (sym places) sofar.places;
        same_places = places ∙ sofar.same_places;
      }
      sofar_more x t next below places (inr pa) = record {
        entries = es;
        entering = subst (λ (ps : List ℕ). Entering limit base v x t ps es) (sym pa.positions) (subst (λ (u : Span). Entering limit base v x u room.positions es) (sym pa.span) (entering_to w x pa.same limit base v s room.positions es sofar.entering));
        tells = λ a told form laid all. let fits = fits_so below a told form laid all (sofar.tells a told form laid all) in let long = pa.long in let no : ⊥ = omega (arith, fits, long) in absurd no;
        staged = let before = sofar.staged in let same = ap (λ (y : VolumeState). length y.store.touched) pa.same in omega (arith, before, same);
        many = let before = sofar.many in let long = ap length pa.positions in omega (arith, before, long);
        places = subst (AreBegun h v) (sym places) sofar.places;
        same_places = places ∙ sofar.same_places;
      }

  module _ (some : 0 < base.blocks) (order : base.first ≤ base.end) (within : limit - base.first ≤ ring_size base) (behind bound : ℕ) (w : VolumeState) (s : Span) (room : CutRoomState) (sofar : Sofar tid serial file h from limit base has_image start behind bound v w s room) where
    -- what is staged tells the same
    pub staged_same : TellsSame base v.store.current w.store.current
    staged_same = subst (TellsSame base v.store.current) (sym sofar.entering.current)
        (same_entries base sofar.entries v.store.current some (let end = ap (λ (t : Span). t.end) sofar.entering.span in let fits = sofar.entering.fits in omega (arith, end, fits, order, within)))

    -- what is staged is written, or nothing is
    pub sofar_written : (most : ℕ) (y : VolumeState) → Writes w y → Quiet w.store.disk y.store.disk → length y.store.touched ≤ most → Sofar tid serial file h from limit base has_image start behind most v y s room
    sofar_written most y writes quiet few = record {
      entries = sofar.entries;
      entering = record {
        each = sofar.entering.each;
        span = sofar.entering.span;
        fits = sofar.entering.fits;
        positions = sofar.entering.positions;
        current = writes.current ∙ sofar.entering.current;
        written = ⊎_elim (λ same. subst (TellsSame base v.store.current) (sym same) sofar.entering.written) (λ same. subst (TellsSame base v.store.current) (sym same) staged_same) writes.content;
        ready = writes.ready;
        catalog = writes.catalog ∙ sofar.entering.catalog;
        pool = writes.pool ∙ sofar.entering.pool;
        counts = counts_on {T = Unit {0}} (Ok tt) v.store.disk w.store.disk y.store.disk sofar.entering.counts quiet;
      };
      tells = sofar.tells;
      staged = few;
      many = sofar.many;
      places = sofar.places;
      same_places = sofar.same_places;
    }

    -- The disk went down.

    old_told : (c : Content) → v.store.current ≡ content v.store → IsTold true base v.store.current c → IsTold true base (content v.store) c
    old_told c idle told = subst (λ (o : Option Content). IsTold true base o c) idle told

    pub fell_told : (down : Down) (x : VolumeState) → OneContent → IsIdle v.store → FellIn down w x → Leaves (IsTold true base (content v.store)) x.store.disk
    fell_told down x one idle fell = leaves_told (λ c. Some c ≡ content w.store) (IsTold true base (content v.store)) x.store.disk
        (λ c is. old_told c idle.current (told_of base v.store.current (content w.store) c sofar.entering.written is)) (fell_old down w w x one sofar.entering.ready refl fell)

    pub broke_told : (d : DiskState) → IsIdle v.store → Leaves (IsEither (content w.store) w.store.current) d → Leaves (IsTold true base (content v.store)) d
    broke_told d idle leaves = leaves_told (IsEither (content w.store) w.store.current) (IsTold true base (content v.store)) d
        (λ c either. old_told c idle.current (⊎_elim (told_of base v.store.current (content w.store) c sofar.entering.written) (told_of base v.store.current w.store.current c staged_same) either)) leaves

    -- The next record is read and entered where that was so at first.

    pub placed_now : IsPlaced h v.store.disk → IsPlaced h w.store.disk
    placed_now p = record {
      from = p.from;
      to = let a = p.to in let size = sofar.entering.counts.size in omega (arith, a, size);
      fits = let a = p.fits in let size = sofar.entering.counts.size in omega (arith, a, size);
      blocks = p.blocks;
      one = p.one;
      least = p.least;
      records = p.records;
      greatest = p.greatest;
    }

    pub ring_now : IsRing base v.store.disk → limit ≤ 2 ^ 62 → IsRing s w.store.disk
    ring_now ring low = subst (λ (t : Span). IsRing t w.store.disk) (sym sofar.entering.span) (record {
      from = ring.from;
      to = let a = ring.to in let size = sofar.entering.counts.size in omega (arith, a, size);
      fits = let a = ring.fits in let size = sofar.entering.counts.size in omega (arith, a, size);
      some = ring.some;
      order = omega (arith, order);
      low = let end = ap (λ (t : Span). t.end) sofar.entering.span in let fits = sofar.entering.fits in omega (arith, end, fits, low);
      room = let end = ap (λ (t : Span). t.end) sofar.entering.span in let fits = sofar.entering.fits in omega (arith, end, fits, order, within);
    })

    pub within_now : limit - s.first ≤ ring_size s
    within_now = subst (λ (t : Span). limit - t.first ≤ ring_size t) (sym sofar.entering.span) within

    pub frames_now : 32 ≤ free_frames v.store.pool → 32 ≤ free_frames w.store.pool
    frames_now free = subst (λ ps. 32 ≤ free_frames ps) (sym sofar.entering.pool) free
