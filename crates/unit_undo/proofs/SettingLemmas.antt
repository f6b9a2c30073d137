-- One key after another is set back in a volume.
use Rattle.std.proofs.Common.{◌≡◌, ℕ, zero, suc, ◌+◌, ◌-◌, ◌*◌, ◌/◌, ◌%◌, ◌<◌, ◌≤◌, Bool, true, false, cond, List, [], ◌∷◌, length, Option, Some, refl, sym, ◌∙◌, ap, subst, inl, inr, arith}
use Rattle.std.specs.Prelude.{◌==◌, ◌&&◌, slice_get, slice_index}
use Rattle.std.specs.List.{list_any, AllByRecursion}
use Rattle.std.proofs.lemmas.Nat.{mod_below, div-add-mod'}
use Rattle.std.proofs.lemmas.Bool.{cases_lt}
use Rattle.block_disk.specs.Blocks.{block_at}
use Rattle.file_base.specs.declared.head.FileHead.{FileHead}
use Rattle.file_base.specs.declared.head.Organization.{Organization as Kept}
use Rattle.file_base.specs.declared.head.Organization.TheVariants as kept
use Rattle.file_base.specs.declared.head.Span.{Span}
use Rattle.vms_model.specs.Ids.{Id}
use Rattle.vms_model.specs.Keys.{Key}
use Rattle.records_model.specs.Records.{Change}
use Rattle.records_model.specs.Slots.{size_of}
use Rattle.records_model.specs.History.{LiveChanges, same_id, changes_key, changes_by, records}
use Rattle.records_model.proofs.RecordsLemmas as record_lemmas
use Rattle.unit_entries.specs.change_set.Files.{SameFile}
use Rattle.unit_entries.specs.change_set.Maps.{same_key}
use Rattle.directory_model.specs.record_files.Any.{layout_of, room_by, SuitsBy, RestoresBy, Suits, Restores}
use Rattle.directory_model.specs.record_files.Local as local
use Rattle.directory_model.specs.indexed_file.Chain as leaf
use Rattle.directory_model.specs.indexed_tree.Files as indexed
use Rattle.directory_model.specs.relative_file.Cells as relative
use Rattle.journal_format.specs.journal_model.Entries.{Entry, spelling}
use Rattle.journal_format.specs.journal_model.Ring.{block_of, place_of, byte_at, stream}
use Rattle.unit_entries.specs.unit_laws.Units.{Map, map_in, earliest_before}
use Rattle.unit_entries.proofs.unit_laws.Tests.{never, or_either, or_one, or_other, and_first, and_second}
use Rattle.volume.specs.Catalogs.{IsSound}
use Rattle.volume.specs.State.{VolumeState}
use Rattle.unit_entries.specs.run_model.World.{File}
use Rattle.directory_model.specs.Files.{head_at}
use Rattle.directory_model.specs.Restoring.{CanRestoreBy}
use Rattle.volume_files.specs.Staging.{SetsBack}
use Rattle.unit_entries.specs.Collecting.{IsChangeAt}
use Rattle.unit_entries.specs.Keys.{KeyTold}
use Rattle.unit_entries.specs.Told.{TellsKey, before_in}
use Rattle.unit_undo.specs.Steps.{has_key, AreSetBack}
use Rattle.unit_undo.specs.Undoing.{ChangesFile, SetsToEntry}
use Rattle.unit_undo.specs.FileWays.{Undo, changes_in, IsStill, IsPartlyBack, IsBack}
use Rattle.unit_entries.proofs.KeyLemmas.{itself}
use Rattle.unit_undo.proofs.BackLemmas.{one_back, layout_nothing}
use Rattle.unit_undo.proofs.FileLemmas.{of_key, suits_relative, suits_indexed, kept_so, grouped_back, partly_back, restored_back}
use Rattle.unit_undo.proofs.StepLemmas.{still_going}

-- Entries stand where they stood while the journal is as it was.

block_within : (p blocks : ℕ) → 0 < blocks → p % (512 * blocks) / 512 < blocks
block_within p blocks some =
    let below = mod_below p (512 * blocks) (omega (arith, some)) in
    let parts = div-add-mod' (p % (512 * blocks)) 512 in
    omega (arith, below, parts)

stream_same : (n p : ℕ) (s : Span) (a b : List (List ℕ)) → 0 < s.blocks → 584 ≤ s.start → ((k : ℕ) → 65 ≤ k → k < s.start - 518 + s.blocks → block_at b k ≡ block_at a k) → stream b s p n ≡ stream a s p n
stream_same zero p s a b some far same = refl
stream_same (suc n) p s a b some far same =
    let within = block_within p s.blocks some in
    ap (λ (block : List ℕ). slice_index block (place_of s p) ∷ stream b s (p + 1) n) (same (block_of s p) (omega (arith, far)) (omega (arith, within)))
    ∙ ap (λ (bytes : List ℕ). byte_at a s p ∷ bytes) (stream_same n (p + 1) s a b some far same)

pub change_stands : (s : Span) (p : ℕ) (e : Entry) (a b : List (List ℕ)) → 0 < s.blocks → 584 ≤ s.start → ((k : ℕ) → 65 ≤ k → k < s.start - 518 + s.blocks → block_at b k ≡ block_at a k) → IsChangeAt s p e a → IsChangeAt s p e b
change_stands s p e a b some far same at = record { is = at.is; kind = at.kind; stands = record { bytes = stream_same (length (spelling e)) p s a b some far same ∙ at.stands.bytes } }

-- What can be restored may be set.

own_can : (serial : Id) (ls : List LiveChanges) (key : Key) (P : List Change → Type 0) → AllByRecursion (λ (l : LiveChanges). P l.changes) ls → changes_key key (changes_by serial ls) ≡ true → P (changes_by serial ls)
own_can serial [] key P can changed = absurd cc
own_can serial (l ∷ ls) key P can changed = step (same_id serial l.serial) changed (own_can serial ls key P can.1)
  where
    step : (b : Bool) → changes_key key (cond b l.changes (changes_by serial ls)) ≡ true → (changes_key key (changes_by serial ls) ≡ true → P (changes_by serial ls)) → P (cond b l.changes (changes_by serial ls))
    step true changed later = can.0
    step false changed later = later changed

may_by : (o : Kept) (a b : List (List ℕ)) (first h : FileHead) (cs : List Change) (key : Key) → (o ≡ kept.Sequential → ⊥) → SameFile first h → CanRestoreBy o first a cs → changes_key key cs ≡ true → room_by o first a key ≤ room_by o h b key
    → SuitsBy o h key (earliest_before cs key) × RestoresBy o h b key (earliest_before cs key)
may_by kept.Sequential a b first h cs key other same can changed room = absurd (other refl)
may_by kept.Relative a b first h cs key other same can changed room =
    (suits_relative first h key (earliest_before cs key) same (of_key (λ (k : Key). relative.Suits first k (earliest_before cs k)) cs key can changed), tt)
may_by kept.Indexed a b first h cs key other same can changed room =
    let is = of_key (λ (k : Key). leaf.Suits first k (earliest_before cs k) × (size_of (earliest_before cs k) ≤ indexed.room_at first a k)) cs key can changed in
    (suits_indexed first h key (earliest_before cs key) same is.0, (let fits = is.1 in omega (arith, fits, room)))

-- A key told at a place.
pub told_at_place : (P : KeyTold → Type 0) (ks : List KeyTold) (i : ℕ) (k : KeyTold) → slice_get ks i ≡ Some k → AllByRecursion P ks → P k
told_at_place P [] i k at all = absurd cc
told_at_place P (x ∷ ks) zero k at all = (let same : x ≡ k = cc in subst P same all.0)
told_at_place P (x ∷ ks) (suc i) k at all = told_at_place P ks i k at all.1

-- where a test holds of one in a list
pub found_place : (p : KeyTold → Bool) (ks : List KeyTold) → list_any p ks ≡ true → (i : ℕ) × (k : KeyTold) × (i < length ks) × (slice_get ks i ≡ Some k) × (p k ≡ true)
found_place p [] any = absurd cc
found_place p (k ∷ ks) any = elim (or_either (p k) (list_any p ks) any) [
  | inl this ↦ (0, k, omega arith, refl, this)
  | inr later ↦ let is = found_place p ks later in (suc is.0, is.1, (let below = is.2 in omega (arith, below)), is.3, is.4)
]

same_place : (ks : List KeyTold) (i j : ℕ) (k x : KeyTold) → i ≡ j → slice_get ks i ≡ Some k → slice_get ks j ≡ Some x → k ≡ x
same_place ks i j k x same at there = let now : slice_get ks i ≡ Some x = ap (slice_get ks) same ∙ there in cc

-- Keys of a relative or indexed file.

module _ (u : Undo) (f : ℕ) (first : FileHead) (file : File) (ks : List KeyTold) (v : VolumeState) (s : IsStill u f first file ks v) (other : first.organization ≡ kept.Sequential → ⊥) where
  abbrev cs : List Change
  cs = changes_in u file

  pub keys_begin : IsPartlyBack u f first file ks 0 v first
  keys_begin = record {
    way = s.way;
    done = [];
    back = record {
      same = record { is = refl };
      form = s.left.head.form;
      laid = local.valid_local_law first u.content s.way.now s.left.head.form s.agrees s.left.laid;
      map = λ key. sym (ap (λ (m : Map). m key) (local.local_law first u.content s.way.now s.left.head.form s.agrees s.left.laid));
      layout = sym (local.layout_local_law first u.content s.way.now s.left.head.form s.agrees s.left.laid) ∙ sym (layout_nothing cs (layout_of first u.content));
      rooms = λ key. let same = local.room_local_law first u.content s.way.now s.left.head.form s.agrees s.left.laid key in omega (arith, same);
      own = tt;
    };
    each = λ i k below at is. absurd (omega (arith, below));
  }

  module _ (i : ℕ) (w : VolumeState) (h : FileHead) (p : IsPartlyBack u f first file ks i w h) (k : KeyTold) (at : slice_get ks i ≡ Some k) where
    -- a key of another file
    pub keys_skip : (k.file == f) ≡ false → IsPartlyBack u f first file ks (i + 1) w h
    keys_skip off = record {
      way = p.way;
      done = p.done;
      back = p.back;
      each = λ j x below there is. elim (cases_lt j i) [ inl lt ↦ p.each j x lt there is | inr le ↦ absurd (never (x.file == f) is (subst (λ (y : KeyTold). (y.file == f) ≡ false) (same_place ks i j k x (omega (arith, below, le)) at there) off)) ];
    }

    module _ (own : (k.file == f) ≡ true) (same_ru : w.catalog.ru ≡ v.catalog.ru) (ring : 0 < v.catalog.ru.blocks) (far : 584 ≤ v.catalog.ru.start) where
      told : TellsKey v.catalog.ru u.content cs k
      told = told_at_place (λ (x : KeyTold). (x.file == f) ≡ true → TellsKey v.catalog.ru u.content cs x) ks i k at s.tells.each own

      stands : IsChangeAt w.catalog.ru k.first told.entry p.way.now
      stands = subst (λ (r : Span). IsChangeAt r k.first told.entry p.way.now) (sym same_ru)
          (change_stands v.catalog.ru k.first told.entry u.content p.way.now ring far (λ n low high. p.way.journal.blocks n low (subst (λ (r : Span). n < r.start - 518 + r.blocks) (sym same_ru) high)) told.stands)

      may : Suits h k.key (before_in told.entry) × Restores h p.way.now k.key (before_in told.entry)
      may =
          let is = may_by first.organization u.content p.way.now first h cs k.key other p.back.same (own_can u.serial file.history.live k.key (λ (xs : List Change). CanRestoreBy first.organization first u.content xs) s.left.can told.changed) told.changed
          (subst (λ (o : Kept). room_by first.organization first u.content k.key ≤ room_by o h p.way.now k.key) (kept_so first h p.back.same) (p.back.rooms k.key)) in
          let by : SuitsBy first.organization h k.key (before_in told.entry) × RestoresBy first.organization h p.way.now k.key (before_in told.entry) =
          subst (λ (b : Option (List ℕ)). SuitsBy first.organization h k.key b × RestoresBy first.organization h p.way.now k.key b) told.earliest is in
          subst (λ (o : Kept). SuitsBy o h k.key (before_in told.entry) × RestoresBy o h p.way.now k.key (before_in told.entry)) (sym (kept_so first h p.back.same)) by

      module _ (x : VolumeState) (new : FileHead) (node : List ℕ) (long : length w.catalog.heads ≡ 64) (sound : IsSound node w.store.disk.size w.catalog) (there : head_at w.catalog.heads f ≡ Some h) (changes : ChangesFile f h w x new) (sets : SetsToEntry h k.key k.first w x new) where
        done : (c : List (List ℕ)) × (x.store.current ≡ Some c) × SetsBack h k.key (before_in told.entry) p.way.now c new
        done = sets p.way.now told.entry p.way.told stands p.back.form p.back.laid may.0 may.1

        back : AreSetBack u.content first cs (k.key ∷ p.done) done.0 new
        back = one_back u.content p.way.now done.0 first h new cs p.done k.key (before_in told.entry) p.back (sym told.earliest) told.changed changes.same done.2.form done.2.laid done.2.map done.2.layout done.2.rooms

        pub keys_more : IsPartlyBack u f first file ks (i + 1) x new
        unfolding done back still_going
        keys_more = record {
          way = still_going u f first h new file node w x long sound there p.way done.0 done.1 changes s.there s.named
              (grouped_back u.content done.0 first new u.serial file.history.live (map_in (records file.history)) (k.key ∷ p.done) other s.left.represents s.left.can s.left.laid back)
              (partly_back u.content done.0 first new u.serial file.history.live (map_in (records file.history)) (k.key ∷ p.done) other s.left.represents s.left.can s.left.laid back);
          done = k.key ∷ p.done;
          back = back;
          each = λ j y below is_at is. elim (cases_lt j i) [
            | inl lt ↦ or_other (same_key y.key k.key) (has_key y.key p.done) (p.each j y lt is_at is)
            | inr le ↦ or_one (same_key y.key k.key) (has_key y.key p.done) (subst (λ (z : KeyTold). same_key z.key k.key ≡ true) (same_place ks i j k y (omega (arith, below, le)) at is_at) (itself k.key))
          ];
        }

  pub keys_end : (w : VolumeState) (h : FileHead) → IsPartlyBack u f first file ks (length ks) w h → IsBack u first file w h
  keys_end w h p = record {
    way = p.way;
    restored = restored_back u.content p.way.now first h u.serial file.history.live (map_in (records file.history)) p.done other s.left.represents s.left.can s.left.laid p.back
        (λ key changed. let is = found_place (λ (k : KeyTold). (k.file == f) && same_key key k.key) ks (s.tells.all key changed) in
        let has = p.each is.0 is.1 is.2 is.3 (and_first (is.1.file == f) (same_key key is.1.key) is.4) in
        subst (λ (q : Key). has_key q p.done ≡ true) (sym (record_lemmas.same_key key is.1.key (and_second (is.1.file == f) (same_key key is.1.key) is.4))) has);
  }
