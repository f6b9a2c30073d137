-- Positions of a sequential file are set back in a volume, one after another.
use Rattle.std.proofs.Common.{◌≡◌, ℕ, ◌+◌, ◌-◌, ◌<◌, ◌≤◌, Bool, true, false, cond, List, [], ◌∷◌, length, Option, Some, None, refl, sym, ◌∙◌, ap, subst, inl, inr, arith}
use Rattle.std.specs.Prelude.{◌==◌, ◌&&◌, nat_le, slice_get}
use Rattle.std.specs.List.{All, AllByRecursion}
use Rattle.std.proofs.lemmas.Bool.{false_from_ne_true}
use Rattle.file_base.specs.declared.head.FileHead.{FileHead}
use Rattle.file_base.specs.declared.head.Organization.{Organization as Kept}
use Rattle.file_base.specs.declared.head.Organization.TheVariants as kept
use Rattle.file_base.specs.declared.head.Span.{Span}
use Rattle.vms_model.specs.Keys.{Key, Number, Text, End}
use Rattle.records_model.specs.Records.{Change}
use Rattle.records_model.specs.History.{LiveChanges, same_id, changes_key, changes_by, records}
use Rattle.records_model.proofs.RecordsLemmas as record_lemmas
use Rattle.unit_entries.specs.change_set.Maps.{same_key, set_key}
use Rattle.directory_model.specs.record_files.Any as any
use Rattle.directory_model.specs.record_files.Any.{map_of, Suits, Restores, IsLaidOut}
use Rattle.directory_model.specs.record_files.Local as local
use Rattle.directory_model.specs.seq_file.Layout as layout
use Rattle.directory_model.specs.seq_file.Layout.{IsSequential, IsRecord, records_in, capacity}
use Rattle.directory_model.specs.seq_file.Placing.{buckets_for}
use Rattle.directory_model.specs.seq_file.Records.{record_at, map_of_list, cut_from, slot_sizes}
use Rattle.unit_entries.proofs.seq_file.FileLaws.{used_is}
use Rattle.unit_entries.proofs.seq_file.RecordLaws.{one_list, record_at_past}
use Rattle.journal_format.specs.journal_model.Entries.{has_image}
use Rattle.unit_entries.specs.unit_laws.Units.{Map, map_in, HasImages, earliest_before}
use Rattle.unit_entries.proofs.unit_laws.Tests.{and_first, and_second, picked, passed}
use Rattle.unit_entries.proofs.unit_laws.LiveLemmas.{clash}
use Rattle.unit_entries.specs.sequence_laws.Undoing.{GoesBack, AllInPlace, goes_in_place, lowest_absent, is_taken_away}
use Rattle.unit_entries.specs.sequence_laws.Laws.{IsFirstOff}
use Rattle.unit_entries.proofs.sequence_laws.SequenceLemmas.{behind, in_place_none, is_there, none_is_not, off_is_some, some_is_one, taken}
use Rattle.unit_entries.proofs.sequence_laws.OthersLemmas.{quiet_goes, replaced}
use Rattle.unit_entries.proofs.sequence_laws.ChangeLemmas.{nothing_goes_back}
use Rattle.volume.specs.Catalogs.{IsSound}
use Rattle.volume.specs.State.{SameVolume, VolumeState}
use Rattle.unit_entries.specs.run_model.World.{File, IsOnItsWay}
use Rattle.directory_model.specs.Files.{head_at}
use Rattle.directory_model.specs.Restoring.{CanRestoreBy}
use Rattle.volume_files.specs.Staging.{SetsBack, CutsFile}
use Rattle.unit_entries.specs.Collecting.{IsChangeAt}
use Rattle.unit_entries.specs.Keys.{KeyTold, number_for, number_of, lowest_in, IsLeast, NoneFrom}
use Rattle.unit_entries.specs.Told.{TellsKey, before_in}
use Rattle.unit_undo.specs.Steps.{ArePositionsBack}
use Rattle.unit_undo.specs.Undoing.{ChangesFile, SetsToEntry, CutsFrom, TellsInPlace}
use Rattle.unit_undo.specs.FileWays.{Undo, changes_in, IsStill, IsBackUpTo, IsBack, AreInPlace, FindsOff, found_at, none_off, end_still, CutsOff, cut, stays}
use Rattle.unit_entries.proofs.KeyLemmas.{number_is, number_itself}
use Rattle.unit_undo.proofs.ReadLemmas.{back_to}
use Rattle.unit_undo.proofs.BranchLemmas.{IsOwnOrBeside, own_or, own_or_beside, own_images}
use Rattle.unit_undo.proofs.PositionLemmas.{AlikeSizes, sizes_alike, fits_as, alike_turned, taken_moves, nothing_cut, are_cut, position_suits, position_takes, is_set_back, set_beside, is_gone}
use Rattle.unit_undo.proofs.FileLemmas.{kept_so, map_is, grouped_positions, partly_still, restored_positions, still_images}
use Rattle.unit_undo.proofs.StepLemmas.{still_going}
use Rattle.unit_undo.proofs.SettingLemmas.{told_at_place, found_place, change_stands}

both_so : {X : Type 0} (P Q R : X → Type 0) (xs : List X) → ((x : X) → P x → Q x → R x) → AllByRecursion P xs → AllByRecursion Q xs → AllByRecursion R xs
both_so P Q R [] f p q = tt
both_so P Q R (x ∷ xs) f p q = (f x p.0 q.0, both_so P Q R xs f p.1 q.1)

-- the records from which a branch goes back, where they are the same
rebased : (a b c : List (List ℕ)) (h new : FileHead) (cs : List Change) (from : ℕ) → records_in h a ≡ records_in h b → ArePositionsBack a h cs from c new → ArePositionsBack b h cs from c new
rebased a b c h new cs from same t = record {
  same = t.same;
  form = t.form;
  laid = t.laid;
  back = t.back;
  begins = subst (λ (rs : List (List ℕ)). GoesBack h cs rs t.back) same t.begins;
  goes = t.goes;
  images = t.images;
  straight = λ key changed. subst (λ (rs : List (List ℕ)). IsOnItsWay (Unit {0}) (map_of_list rs key) (earliest_before cs key) (map_of_list (records_in new c) key)) same (t.straight key changed);
  done = t.done;
  in_place = t.in_place;
}

pub number_key : (f : ℕ) (k : KeyTold) (n : ℕ) → number_for f k ≡ Some n → ((k.file == f) ≡ true) × (k.key ≡ Number n)
number_key f k n is = go (f == k.file) refl k.key refl is
  where
    turned : (f == k.file) ≡ true → (k.file == f) ≡ true
    turned e = ap (λ (m : ℕ). m == f) (sym (number_is f k.file e)) ∙ number_itself f

    go : (b : Bool) → (f == k.file) ≡ b → (key : Key) → k.key ≡ key → cond b (number_of key) None ≡ Some n → ((k.file == f) ≡ true) × (k.key ≡ Number n)
    go true own (Number m) at e = (turned own, at ∙ (let same : m ≡ n = cc in ap Number same))
    go true own (Text t) at e = absurd cc
    go true own End at e = absurd cc
    go false off key at e = absurd cc

pub key_number : (f : ℕ) (k : KeyTold) (n : ℕ) → (k.file == f) ≡ true → k.key ≡ Number n → number_for f k ≡ Some n
key_number f k n own key = picked (f == k.file) (number_of k.key) None (ap (λ (m : ℕ). f == m) (number_is k.file f own) ∙ number_itself f) ∙ ap number_of key

module _ (u : Undo) (f : ℕ) (first : FileHead) (file : File) (ks : List KeyTold) (v : VolumeState) (s : IsStill u f first file ks v) (sequential : first.organization ≡ kept.Sequential) where
  abbrev cs : List Change
  cs = changes_in u file

  form : IsSequential first
  form = subst (λ (o : Kept). any.FormBy o first) sequential s.left.head.form

  laid : layout.IsLaidOut first u.content
  laid = subst (λ (o : Kept). any.LaidOutBy o first u.content) sequential s.left.laid

  same_map : map_of first u.content ≡ map_of first s.way.now
  same_map = local.local_law first u.content s.way.now s.left.head.form s.agrees s.left.laid

  same_records : records_in first s.way.now ≡ records_in first u.content
  same_records = one_list (records_in first s.way.now) (records_in first u.content) (sym (map_is first s.way.now sequential) ∙ sym same_map ∙ map_is first u.content sequential)

  laid_now : layout.IsLaidOut first s.way.now
  laid_now = subst (λ (o : Kept). any.LaidOutBy o first s.way.now) sequential (local.valid_local_law first u.content s.way.now s.left.head.form s.agrees s.left.laid)

  branches : AllByRecursion (IsOwnOrBeside cs) file.history.live
  branches = own_or_beside u.serial file.history.live s.left.represents.apart (s.ends sequential)

  images_now : HasImages (map_of_list (records_in first s.way.now)) cs
  images_now = subst (λ (m : Map). HasImages m cs) (sym same_map_list) (own_images u.serial file.history.live (map_of first u.content) s.left.represents.images)
    where
      same_map_list : map_of_list (records_in first s.way.now) ≡ map_of first u.content
      same_map_list = sym (map_is first s.way.now sequential) ∙ sym same_map

  each_images : AllByRecursion (λ (l : LiveChanges). HasImages (map_of_list (records_in first s.way.now)) l.changes) file.history.live
  each_images = subst (λ (m : Map). AllByRecursion (λ (l : LiveChanges). HasImages m l.changes) file.history.live) (same_map ∙ map_is first s.way.now sequential) s.left.represents.images

  each_goes : AllByRecursion (λ (l : LiveChanges). (other : List (List ℕ)) × GoesBack first l.changes (records_in first s.way.now) other) file.history.live
  each_goes = subst (λ (rs : List (List ℕ)). AllByRecursion (λ (l : LiveChanges). (other : List (List ℕ)) × GoesBack first l.changes rs other) file.history.live) (sym same_records)
      (subst (λ (o : Kept). AllByRecursion (λ (l : LiveChanges). CanRestoreBy o first u.content l.changes) file.history.live) sequential s.left.can)

  fits_now : buckets_for (capacity first) (slot_sizes (records_in first s.way.now)) ≤ first.alloc
  fits_now = let used = used_is first s.way.now form.one laid_now in let few = form.used in omega (arith, used, few)

  own_goes : (ls : List LiveChanges) → AllByRecursion (λ (l : LiveChanges). (other : List (List ℕ)) × GoesBack first l.changes (records_in first s.way.now) other) ls → (back : List (List ℕ)) × GoesBack first (changes_by u.serial ls) (records_in first s.way.now) back
  own_goes [] each = (records_in first s.way.now, nothing_goes_back first (records_in first s.way.now) laid_now.records fits_now)
  own_goes (l ∷ ls) each = step (same_id u.serial l.serial) (own_goes ls each.1)
    where
      step : (b : Bool) → (back : List (List ℕ)) × GoesBack first (changes_by u.serial ls) (records_in first s.way.now) back → (back : List (List ℕ)) × GoesBack first (cond b l.changes (changes_by u.serial ls)) (records_in first s.way.now) back
      step true later = each.0
      step false later = later

  goes : (back : List (List ℕ)) × GoesBack first cs (records_in first s.way.now) back
  goes = own_goes file.history.live each_goes

  one_of : (n : ℕ) → changes_key (Number n) cs ≡ true → 1 ≤ n
  one_of n changed = let is = s.positions sequential (Number n) changed in at_least is.0 is.1 is.2
    where
      at_least : (m : ℕ) → Number n ≡ Number m → 1 ≤ m → 1 ≤ n
      at_least m e one = let same : n ≡ m = cc in omega (arith, same, one)

  -- where the key of a changed position stands
  place_for : (n : ℕ) → changes_key (Number n) cs ≡ true → (i : ℕ) × (k : KeyTold) × (slice_get ks i ≡ Some k) × (number_for f k ≡ Some n)
  place_for n changed =
      let is = found_place (λ (k : KeyTold). (k.file == f) && same_key (Number n) k.key) ks (s.tells.all (Number n) changed) in
      (is.0, is.1, is.3, key_number f is.1 n (and_first (is.1.file == f) (same_key (Number n) is.1.key) is.4) (sym (record_lemmas.same_key (Number n) is.1.key (and_second (is.1.file == f) (same_key (Number n) is.1.key) is.4))))

  -- What can be set back in place, as the entries tell that stand in the journal.
  module _ (ring : 0 < v.catalog.ru.blocks) (far : 584 ≤ v.catalog.ru.start) where
    fits_so : (i n : ℕ) (k : KeyTold) → slice_get ks i ≡ Some k → number_for f k ≡ Some n → (fits : Bool) → TellsInPlace first k.key k.first v fits → fits ≡ goes_in_place (record_at (records_in first s.way.now) n) (record_at goes.0 n)
    fits_so i n k at is fits tells =
        tells s.way.now told.entry s.way.told (change_stands v.catalog.ru k.first told.entry u.content s.way.now ring far s.way.journal.blocks told.stands) s.left.head.form
        (local.valid_local_law first u.content s.way.now s.left.head.form s.agrees s.left.laid)
        ∙ ap (λ (o : Option (List ℕ)). goes_in_place o (before_in told.entry)) now_is ∙ ap (goes_in_place (record_at (records_in first s.way.now) n)) back_is
      where
        own : ((k.file == f) ≡ true) × (k.key ≡ Number n)
        own = number_key f k n is

        told : TellsKey v.catalog.ru u.content cs k
        told = told_at_place (λ (x : KeyTold). (x.file == f) ≡ true → TellsKey v.catalog.ru u.content cs x) ks i k at s.tells.each own.0

        changed : changes_key (Number n) cs ≡ true
        changed = subst (λ (x : Key). changes_key x cs ≡ true) own.1 told.changed

        now_is : map_of first s.way.now k.key ≡ record_at (records_in first s.way.now) n
        now_is = ap (map_of first s.way.now) own.1 ∙ ap (λ (m : Map). m (Number n)) (map_is first s.way.now sequential)

        back_is : before_in told.entry ≡ record_at goes.0 n
        back_is = sym told.earliest ∙ ap (earliest_before cs) own.1 ∙ sym (goes.1.restored n (one_of n changed) ∙ picked (changes_key (Number n) cs) _ _ changed)

    away_from : (n lowest : ℕ) → lowest_in f ks ≡ Some lowest → is_taken_away (lowest_absent cs) n ≡ nat_le lowest n
    away_from n lowest low = ap (λ (o : Option ℕ). is_taken_away o n) (sym s.tells.lowest ∙ low)

    -- each position from the lowest one on that has a record is one of the keys
    fits_each : (lowest until : ℕ) → lowest_in f ks ≡ Some lowest → AreInPlace f lowest until first ks v → (n : ℕ) → is_taken_away (lowest_absent cs) n ≡ true → n < until → goes_in_place (record_at (records_in first s.way.now) n) (record_at goes.0 n) ≡ true
    fits_each lowest until low fit n tk lt = elim (is_there (record_at (records_in first s.way.now) n)) [
      | inl none ↦ in_place_none (record_at (records_in first s.way.now) n) (record_at goes.0 n) none
      | inr some ↦
          let is = place_for n (goes.1.own n tk (inl some)) in
          let one = fit is.0 n is.1 is.2 is.3 (behind lowest n (sym (away_from n lowest low) ∙ tk)) lt in
          sym (fits_so one.place n one.key one.at one.is true one.fits)
    ]

    first_off : (lowest i n : ℕ) (k : KeyTold) → lowest_in f ks ≡ Some lowest → slice_get ks i ≡ Some k → number_for f k ≡ Some n → lowest ≤ n → TellsInPlace first k.key k.first v false → AreInPlace f lowest n first ks v → IsFirstOff cs (records_in first s.way.now) goes.0 n
    first_off lowest i n k low at is le tells fit = record {
      taken = away_from n lowest low ∙ taken lowest n le;
      off = sym (fits_so i n k at is false tells);
      first = fits_each lowest n low fit;
    }

    found_off : (n : ℕ) → FindsOff f first ks v (Some n) → IsFirstOff cs (records_in first s.way.now) goes.0 n
    found_off n (found_at lowest i m k low is at number le tells fit) = let same : m ≡ n = cc in subst (IsFirstOff cs (records_in first s.way.now) goes.0) same (first_off lowest i m k low at number le tells fit)
    found_off n (none_off lowest low is fit) = let none : ⊥ = cc in absurd none
    found_off n (end_still low is) = let none : ⊥ = cc in absurd none

    -- none stands that has to be taken away
    all_fit : (found : Option ℕ) → FindsOff f first ks v found → ((from : ℕ) → found ≡ Some from → 1 ≤ from → first.count < from) → AllInPlace cs (records_in first s.way.now) goes.0
    all_fit found (found_at lowest i n k low is at number le tells fit) far_off =
        let off = first_off lowest i n k low at number le tells fit in
        let some = off_is_some (record_at (records_in first s.way.now) n) (record_at goes.0 n) off.off in
        let past = far_off n is (some_is_one (records_in first s.way.now) n some) in
        let count = laid_now.count in
        absurd (none_is_not (record_at (records_in first s.way.now) n) (record_at_past (records_in first s.way.now) n (omega (arith, past, count))) some)
    all_fit found (none_off lowest low is fit) far_off = λ n tk. fits_each lowest (n + 1) low (fit (n + 1)) n tk (omega arith)
    all_fit found (end_still low is) far_off = λ n tk. let none : false ≡ true = ap (λ (o : Option ℕ). is_taken_away o n) (sym (sym s.tells.lowest ∙ low)) ∙ tk in absurd cc

  module _ (w : VolumeState) (h : FileHead) (node : List ℕ) (long : length v.catalog.heads ≡ 64) (sound : IsSound node v.store.disk.size v.catalog) (there : head_at v.catalog.heads f ≡ Some first) (ring : 0 < v.catalog.ru.blocks) (far : 584 ≤ v.catalog.ru.start) where
    -- nothing had to be taken away
    quiet_begin : SameVolume v w → h ≡ first → AllInPlace cs (records_in first s.way.now) goes.0 → IsBackUpTo u f first file 0 w h
    quiet_begin same_v same_h all =
        back_to v w same_v u f first file 0 h (subst (λ (x : FileHead). IsBackUpTo u f first file 0 v x) (sym same_h) (record {
          way = s.way;
          back = rebased s.way.now u.content s.way.now first first cs 0 same_records (nothing_cut s.way.now s.way.now first first cs form laid_now goes.0 goes.1 images_now all);
          others = each_goes;
        }))

    -- positions were taken away
    cut_begin : (from : ℕ) → IsFirstOff cs (records_in first s.way.now) goes.0 from → ChangesFile f first v w h → CutsFrom first from v w h → IsBackUpTo u f first file 0 w h
    unfolding still_going
    cut_begin from off changes cuts = record {
      way = still_going u f first first h file node v w long sound there s.way c.0 c.1 changes s.there s.named
          (grouped_positions u.content c.0 first h u.serial file.history.live (map_in (records file.history)) 0 sequential s.left.represents back others)
          (partly_still u.content c.0 first h u.serial file.history.live (map_in (records file.history)) 0 sequential s.left.represents back);
      back = back;
      others = others;
    }
      where
        c : (d : List (List ℕ)) × (w.store.current ≡ Some d) × CutsFile first from s.way.now d h
        c = cuts s.way.now s.way.told s.left.head.form (local.valid_local_law first u.content s.way.now s.left.head.form s.agrees s.left.laid)

        new_sequential : h.organization ≡ kept.Sequential
        new_sequential = kept_so first h changes.same ∙ sequential

        new_form : IsSequential h
        new_form = subst (λ (o : Kept). any.FormBy o h) new_sequential c.2.form

        new_laid : layout.IsLaidOut h c.0
        new_laid = subst (λ (o : Kept). any.LaidOutBy o h c.0) new_sequential c.2.laid

        maps : map_of_list (records_in h c.0) ≡ cut_from from (map_of_list (records_in first s.way.now))
        maps = sym (map_is h c.0 new_sequential) ∙ c.2.map ∙ ap (cut_from from) (map_is first s.way.now sequential)

        from_now : ArePositionsBack s.way.now first cs 0 c.0 h
        from_now = are_cut s.way.now c.0 first h cs form laid_now goes.0 goes.1 images_now from off changes.same new_form new_laid maps

        back : ArePositionsBack u.content first cs 0 c.0 h
        back = rebased s.way.now u.content c.0 first h cs 0 same_records from_now

        alike : AlikeSizes first h
        alike = sizes_alike first h changes.same

        records_new : All (IsRecord first.mrs) (records_in h c.0)
        records_new = subst (λ (m : ℕ). All (IsRecord m) (records_in h c.0)) alike.mrs new_laid.records

        fits_new : buckets_for (capacity first) (slot_sizes (records_in h c.0)) ≤ first.alloc
        fits_new = fits_as h first (slot_sizes (records_in h c.0)) (alike_turned first h alike) (let used = used_is h c.0 new_form.one new_laid in let few = new_form.used in omega (arith, used, few))

        still : (n : ℕ) → 1 ≤ n → changes_key (Number n) cs ≡ false → record_at (records_in h c.0) n ≡ record_at (records_in first s.way.now) n
        still n n1 not_own = sym (from_now.goes.restored n n1 ∙ passed (changes_key (Number n) cs) _ _ not_own) ∙ from_now.begins.restored n n1 ∙ passed (changes_key (Number n) cs) _ _ not_own

        other : (l : LiveChanges) → IsOwnOrBeside cs l → ((x : List (List ℕ)) × GoesBack first l.changes (records_in first s.way.now) x) × HasImages (map_of_list (records_in first s.way.now)) l.changes
            → (x : List (List ℕ)) × GoesBack first l.changes (records_in h c.0) x
        other l (inl own) has = (from_now.back, subst (λ (xs : List Change). GoesBack first xs (records_in h c.0) from_now.back) (sym own) from_now.goes)
        other l (inr beside) has = (
          replaced l.changes 1 (records_in h c.0),
          quiet_goes first l.changes (records_in first s.way.now) (records_in h c.0) has.0.0 has.0.1 has.1
              (λ n n1 changed. still n n1 (false_from_ne_true _ (λ (e : changes_key (Number n) cs ≡ true). clash (changes_key (Number n) l.changes) changed (beside.apart (Number n) e))))
              (beside.ends (taken_moves cs from off.taken)) records_new fits_new,
        )

        others : AllByRecursion (λ (l : LiveChanges). (x : List (List ℕ)) × GoesBack first l.changes (records_in h c.0) x) file.history.live
        others = both_so (IsOwnOrBeside cs) (λ (l : LiveChanges). ((x : List (List ℕ)) × GoesBack first l.changes (records_in first s.way.now) x) × HasImages (map_of_list (records_in first s.way.now)) l.changes)
            (λ (l : LiveChanges). (x : List (List ℕ)) × GoesBack first l.changes (records_in h c.0) x) file.history.live other branches
            (both_so (λ (l : LiveChanges). (x : List (List ℕ)) × GoesBack first l.changes (records_in first s.way.now) x) (λ (l : LiveChanges). HasImages (map_of_list (records_in first s.way.now)) l.changes)
            (λ (l : LiveChanges). ((x : List (List ℕ)) × GoesBack first l.changes (records_in first s.way.now) x) × HasImages (map_of_list (records_in first s.way.now)) l.changes) file.history.live (λ l a b. (a, b)) each_goes each_images)

    pub positions_begin : CutsOff f first ks v w h → IsBackUpTo u f first file 0 w h
    positions_begin (cut from finds changes cuts) = cut_begin from (found_off ring far from finds) changes cuts
    positions_begin (stays found finds far_off same_v same_h) = quiet_begin same_v same_h (all_fit ring far found finds far_off)

  module _ (from i n : ℕ) (w : VolumeState) (h : FileHead) (p : IsBackUpTo u f first file from w h) (l : IsLeast f from ks i n) where
    own : (l.key.file == f) ≡ true
    own = (number_key f l.key n l.is).0

    key_is : l.key.key ≡ Number n
    key_is = (number_key f l.key n l.is).1

    told : TellsKey v.catalog.ru u.content cs l.key
    told = told_at_place (λ (x : KeyTold). (x.file == f) ≡ true → TellsKey v.catalog.ru u.content cs x) ks i l.key l.at s.tells.each own

    changed : changes_key (Number n) cs ≡ true
    changed = subst (λ (k : Key). changes_key k cs ≡ true) key_is told.changed

    earliest : earliest_before cs (Number n) ≡ before_in told.entry
    earliest = subst (λ (k : Key). earliest_before cs k ≡ before_in told.entry) key_is told.earliest

    one : 1 ≤ n
    one = one_of n changed

    least : (m : ℕ) → from ≤ m → changes_key (Number m) cs ≡ true → n ≤ m
    least m le ck = let is = place_for m ck in l.least is.0 m is.1 is.2 is.3 le

    -- there was no record before the branch's changes
    pub positions_skip : l.key.had ≡ false → IsBackUpTo u f first file (n + 1) w h
    positions_skip had = record {
      way = p.way;
      back = is_gone u.content p.way.now first h cs from n p.back l.behind one changed least (earliest ∙ passed (has_image told.entry.kind told.entry.flag) (Some told.entry.image) None (sym told.had ∙ had));
      others = p.others;
    }

    module _ (had : l.key.had ≡ true) (same_ru : w.catalog.ru ≡ v.catalog.ru) (ring : 0 < v.catalog.ru.blocks) (far : 584 ≤ v.catalog.ru.start) where
      before_is : before_in told.entry ≡ Some told.entry.image
      before_is = picked (has_image told.entry.kind told.entry.flag) (Some told.entry.image) None (sym told.had ∙ had)

      had_record : earliest_before cs (Number n) ≡ Some told.entry.image
      had_record = earliest ∙ before_is

      stands : IsChangeAt w.catalog.ru l.key.first told.entry p.way.now
      stands = subst (λ (r : Span). IsChangeAt r l.key.first told.entry p.way.now) (sym same_ru)
          (change_stands v.catalog.ru l.key.first told.entry u.content p.way.now ring far (λ k low high. p.way.journal.blocks k low (subst (λ (r : Span). k < r.start - 518 + r.blocks) (sym same_ru) high)) told.stands)

      now_sequential : h.organization ≡ kept.Sequential
      now_sequential = kept_so first h p.back.same ∙ sequential

      suits : Suits h l.key.key (before_in told.entry)
      suits = subst (λ (o : Kept). any.SuitsBy o h l.key.key (before_in told.entry)) (sym now_sequential)
          (subst (λ (k : Key). layout.Suits h k (before_in told.entry)) (sym key_is) (subst (λ (b : Option (List ℕ)). layout.Suits h (Number n) b) (sym before_is)
          (position_suits u.content p.way.now first h cs from n p.back l.behind one changed least told.entry.image had_record)))

      restores : Restores h p.way.now l.key.key (before_in told.entry)
      restores = subst (λ (o : Kept). any.RestoresBy o h p.way.now l.key.key (before_in told.entry)) (sym now_sequential)
          (subst (λ (k : Key). layout.Takes h p.way.now k (before_in told.entry)) (sym key_is) (subst (λ (b : Option (List ℕ)). layout.Takes h p.way.now (Number n) b) (sym before_is)
          (position_takes u.content p.way.now first h cs from n p.back l.behind one changed least told.entry.image had_record)))

      module _ (x : VolumeState) (new : FileHead) (node : List ℕ) (long : length w.catalog.heads ≡ 64) (sound : IsSound node w.store.disk.size w.catalog) (there : head_at w.catalog.heads f ≡ Some h) (changes : ChangesFile f h w x new) (sets : SetsToEntry h l.key.key l.key.first w x new) where
        done : (c : List (List ℕ)) × (x.store.current ≡ Some c) × SetsBack h l.key.key (before_in told.entry) p.way.now c new
        done = sets p.way.now told.entry p.way.told stands (subst (λ (o : Kept). any.FormBy o h) (sym now_sequential) p.back.form) (subst (λ (o : Kept). any.LaidOutBy o h p.way.now) (sym now_sequential) p.back.laid) suits restores

        new_sequential : new.organization ≡ kept.Sequential
        new_sequential = kept_so h new changes.same ∙ now_sequential

        new_form : IsSequential new
        new_form = subst (λ (o : Kept). any.FormBy o new) new_sequential done.2.form

        new_laid : layout.IsLaidOut new done.0
        new_laid = subst (λ (o : Kept). any.LaidOutBy o new done.0) new_sequential done.2.laid

        maps : map_of_list (records_in new done.0) ≡ set_key (Number n) (Some told.entry.image) (map_of_list (records_in h p.way.now))
        maps = sym (map_is new done.0 new_sequential) ∙ done.2.map ∙ ap (λ (k : Key). set_key k (before_in told.entry) (map_of h p.way.now)) key_is ∙ ap (λ (b : Option (List ℕ)). set_key (Number n) b (map_of h p.way.now)) before_is
            ∙ ap (set_key (Number n) (Some told.entry.image)) (map_is h p.way.now now_sequential)

        back : ArePositionsBack u.content first cs (n + 1) done.0 new
        back = is_set_back u.content p.way.now first h cs from n p.back l.behind one changed least told.entry.image had_record done.0 new changes.same new_form new_laid maps

        other : (k : LiveChanges) → IsOwnOrBeside cs k → ((y : List (List ℕ)) × GoesBack first k.changes (records_in h p.way.now) y) × HasImages (map_of_list (records_in h p.way.now)) k.changes → (y : List (List ℕ)) × GoesBack first k.changes (records_in new done.0) y
        other k (inl mine) has = (back.back, subst (λ (xs : List Change). GoesBack first xs (records_in new done.0) back.back) (sym mine) back.goes)
        other k (inr beside) has = set_beside u.content p.way.now first h cs from n p.back l.behind one changed least told.entry.image had_record done.0 new changes.same new_form new_laid maps k.changes has.0.0 beside has.0.1 has.1

        images : AllByRecursion (λ (k : LiveChanges). HasImages (map_of_list (records_in h p.way.now)) k.changes) file.history.live
        images = subst (λ (m : Map). AllByRecursion (λ (k : LiveChanges). HasImages m k.changes) file.history.live) (map_is h p.way.now now_sequential)
            (still_images u.content p.way.now first h u.serial file.history.live (map_in (records file.history)) from sequential s.left.represents p.back (own_or u.serial file.history.live s.left.represents.apart))

        others : AllByRecursion (λ (k : LiveChanges). (y : List (List ℕ)) × GoesBack first k.changes (records_in new done.0) y) file.history.live
        others = both_so (IsOwnOrBeside cs) (λ (k : LiveChanges). ((y : List (List ℕ)) × GoesBack first k.changes (records_in h p.way.now) y) × HasImages (map_of_list (records_in h p.way.now)) k.changes)
            (λ (k : LiveChanges). (y : List (List ℕ)) × GoesBack first k.changes (records_in new done.0) y) file.history.live other branches
            (both_so (λ (k : LiveChanges). (y : List (List ℕ)) × GoesBack first k.changes (records_in h p.way.now) y) (λ (k : LiveChanges). HasImages (map_of_list (records_in h p.way.now)) k.changes)
            (λ (k : LiveChanges). ((y : List (List ℕ)) × GoesBack first k.changes (records_in h p.way.now) y) × HasImages (map_of_list (records_in h p.way.now)) k.changes) file.history.live (λ k a b. (a, b)) p.others images)

        pub positions_more : IsBackUpTo u f first file (n + 1) x new
        unfolding done others back still_going
        positions_more = record {
          way = still_going u f first h new file node w x long sound there p.way done.0 done.1 changes s.there s.named
              (grouped_positions u.content done.0 first new u.serial file.history.live (map_in (records file.history)) (n + 1) sequential s.left.represents back others)
              (partly_still u.content done.0 first new u.serial file.history.live (map_in (records file.history)) (n + 1) sequential s.left.represents back);
          back = back;
          others = others;
        }

  pub positions_end : (from : ℕ) (w : VolumeState) (h : FileHead) → IsBackUpTo u f first file from w h → NoneFrom f from ks → IsBack u first file w h
  positions_end from w h p none = record {
    way = p.way;
    restored = restored_positions u.content p.way.now first h u.serial file.history.live (map_in (records file.history)) from sequential s.left.represents p.back (s.positions sequential)
        (λ m le ck. let is = place_for m ck in none is.0 m is.1 is.2 is.3 le);
  }
