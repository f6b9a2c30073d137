-- The journals of images of a node that fell have the room that the settlements of its units take.
use Rattle.std.proofs.Common.{◌≡◌, ℕ, ◌+◌, ◌-◌, ◌*◌, ◌<◌, ◌≤◌, List, [], ◌∷◌, Bool, true, false, Option, Some, None, if◌then◌else◌, length, map, slice_index_or, refl, sym, ◌∙◌, ap, subst, arith, inl, inr}
use Rattle.std.specs.Prelude.{is_some}
use Rattle.std.specs.List.{AllByRecursion}
use Rattle.file_base.specs.declared.head.FileHead.{FileHead}
use Rattle.file_base.specs.declared.head.Span.{Span}
use Rattle.recovery_units.specs.image_appends.declared.side.Side.{Side}
use Rattle.recovery_units.specs.image_appends.declared.side.Side.TheVariants.{After, Before}
use Rattle.recovery_units.specs.image_appends.Images.{is_kept, span_of}
use Rattle.recovery_units.specs.image_room.Room.{AllSettlementsFit, IsTooFull, SettlementsFit}
use Rattle.journal_model.specs.Ring.{ring_size}
use Rattle.recovery_model.specs.File.{ImageJournal, all_of}
use Rattle.recovery_model.specs.Room.{HasRoom, unsettled_in}
use Rattle.records_model.specs.History.{LiveChanges, changes_by, same_id}
use Rattle.vms_model.specs.Ids.{Id}
use Rattle.commit_protocol.specs.World.{In}
use Rattle.ru_journal.specs.Told.{UnitTold, find_unit as find_told}
use Rattle.recovery_units.specs.run_model.World.{File, KeepsImages, Node}
use Rattle.unit_world.specs.directory_model.Files.{IsCarried, file_at, head_at}
use Rattle.unit_world.specs.directory_model.Restoring.{IsPlaceLeft}
use Rattle.rms_units.specs.unit_aborts.Reopening.{AreFoundIn}
use Rattle.recovery_units.specs.unit_entries.Opening.{AreAlike, AreFiledIn}
use Rattle.unit_laws.specs.Journal.{RecoveryUnit, find_unit, is_settled_in}
use Rattle.unit_laws.specs.JournalLaws.{is_unit}
use Rattle.unit_table.specs.Units.{OpenUnit, changers, has_changed}
use Rattle.unit_world.proofs.Found.{found_by}
use Rattle.volume.specs.State.{VolumeState}
use Rattle.recovery_units.specs.volume_model.Volumes.{LeavesVolume}
use Rattle.recovery_units.specs.world_laws.Nodes.{FileKeepsImages}
use Rattle.recovery_units.specs.world_laws.Running.{AllFound, Each}
use Rattle.recovery_units.proofs.world_laws.IdLemmas.{id_is}
use Rattle.recovery_units.proofs.world_laws.UnsettledLemmas.{units_are_unsettled}
use Rattle.recovery_units.specs.State.{changed_at}
use Rattle.node_units.proofs.Branches.{Apart, Distinct, serials}
use Rattle.node_units.proofs.ImagesAlike.{AllOwned, after_count, before_count, changed_is, differ, has_live, live_count, some, units_count}
use Rattle.node_units.proofs.NotedFiles.{files_say}
use Rattle.node_units.proofs.Telling.{AreTold, Differ, none_found, unit_shown}
use Rattle.node_units.proofs.Undoing.{each_found, serials_told}

-- Units that are alike have the same serials.

apart_alike : (x : Id) (us : List UnitTold) (ws : List OpenUnit) → AreAlike us ws → find_told x us ≡ None → Apart x (serials ws)
apart_alike x [] [] alike none = tt
apart_alike x [] (w ∷ ws) alike none = absurd alike
apart_alike x (u ∷ us) [] alike none = absurd alike
apart_alike x (u ∷ us) (w ∷ ws) alike none =
    let parts = none_found (same_id x u.serial) u (find_told x us) none in
    (subst (λ (y : Id). same_id x y ≡ false) (sym alike.0.serial) parts.0, apart_alike x us ws alike.1 parts.1)

distinct_alike : (us : List UnitTold) (ws : List OpenUnit) → AreAlike us ws → Differ us → Distinct (serials ws)
distinct_alike [] [] alike d = tt
distinct_alike [] (w ∷ ws) alike d = absurd alike
distinct_alike (u ∷ us) [] alike d = absurd alike
distinct_alike (u ∷ us) (w ∷ ws) alike d =
    (subst (λ (y : Id). Apart y (serials ws)) (sym alike.0.serial) (apart_alike u.serial us ws alike.1 d.0), distinct_alike us ws alike.1 d.1)

in_alike : (x : Id) (us : List UnitTold) (ws : List OpenUnit) → AreAlike us ws → is_some (find_unit x (map unit_shown us)) ≡ true → In x (serials ws)
in_alike x [] ws alike is = let never : ⊥ = cc in absurd never
in_alike x (u ∷ us) [] alike is = absurd alike
in_alike x (u ∷ us) (w ∷ ws) alike is = go (same_id x u.serial) refl is (in_alike x us ws alike.1)
  where
    go : (b : Bool) → same_id x u.serial ≡ b → is_some (if b then Some (unit_shown u) else find_unit x (map unit_shown us)) ≡ true → (is_some (find_unit x (map unit_shown us)) ≡ true → In x (serials ws)) → In x (serials (w ∷ ws))
    go true same is more = inl (id_is x u.serial same ∙ sym alike.0.serial)
    go false other is more = inr (more is)

module _ (v : VolumeState) (n : Node) (content : List (List ℕ)) (told : v.store.current ≡ Some content) (leaves : LeavesVolume content v.catalog n) (long : length v.catalog.heads ≡ 64) (us : List UnitTold) (units : AreTold n.durable.units.first n.durable.units.entries us)
    (keeps : AllFound (FileKeepsImages n.name n.durable.boot n.durable.greatest) n.durable.directory) (ws : List OpenUnit) (alike : AreAlike us ws) (found : AreFoundIn v ws) (filed : AreFiledIn v ws) where
  -- none of them is settled
  all_open : Each (λ (x : Id). is_settled_in x n.durable.units.entries ≡ false) (serials_told us)
  all_open = each_found us units.differ (λ (x : Id). is_settled_in x n.durable.units.entries ≡ false)
      (λ x k. units_are_unsettled n.durable.units.entries x leaves.order.order (ap (λ (rs : List RecoveryUnit). is_some (find_unit x rs)) (sym units.units) ∙ k))

  -- each changed what its files say
  each_says : (ts : List UnitTold) (xs : List OpenUnit) → AreAlike ts xs → AreFoundIn v xs → AreFiledIn v xs → Each (λ (x : Id). is_settled_in x n.durable.units.entries ≡ false) (serials_told ts) →
      AllByRecursion (λ (w : OpenUnit). (f : ℕ) → changed_at w.serial (file_at n.durable.directory f) ≡ slice_index_or w.files f false) xs
  each_says [] [] alike found filed off = tt
  each_says [] (w ∷ xs) alike found filed off = absurd alike
  each_says (t ∷ ts) [] alike found filed off = absurd alike
  each_says (t ∷ ts) (w ∷ xs) alike found filed off = (
    files_say v n content told leaves long w.serial w.positions w.files found.0 filed.0 (ap (λ (x : Id). is_settled_in x n.durable.units.entries) alike.0.serial ∙ off.0),
    each_says ts xs alike.1 found.1 filed.1 off.1,
  )

  room_of : (s : Span) (j : ImageJournal) (live : List LiveChanges) (many : ℕ) → s.blocks ≡ j.blocks → s.first ≡ j.first → s.end ≡ j.end → HasRoom j live → unsettled_in (all_of j.entries) live ≡ length live → many ≡ length live → s.end - s.first + 48 * many ≤ ring_size s
  room_of s j live many blocks first end room count as_many = omega (arith, blocks, first, end, room, count, as_many)

  module _ (f : ℕ) (h : FileHead) (at_head : head_at v.catalog.heads f ≡ Some h) (file : File) (there : file_at n.durable.directory f ≡ Some file) (carried : IsCarried content f h file.carried) where
    abbrev live : List LiveChanges
    live = file.history.live

    keeps_here : KeepsImages n.name n.durable.boot n.durable.greatest file
    keeps_here = keeps file.name file (found_by n f file leaves.units there).found

    owned : (ls : List LiveChanges) → AllByRecursion (λ (l : LiveChanges). is_unit l.serial n.durable.units ≡ true) ls → AllOwned ws ls
    owned [] all = tt
    owned (l ∷ ls) all = (in_alike l.serial us ws alike (ap (λ (rs : List RecoveryUnit). is_some (find_unit l.serial rs)) units.units ∙ all.0), owned ls all.1)

    changed_units : (xs : List OpenUnit) → AllByRecursion (λ (w : OpenUnit). (g : ℕ) → changed_at w.serial (file_at n.durable.directory g) ≡ slice_index_or w.files g false) xs →
        AllByRecursion (λ (w : OpenUnit). has_changed w f ≡ has_live live w) xs
    changed_units [] all = tt
    changed_units (w ∷ xs) all = (sym (all.0 f) ∙ ap (changed_at w.serial) there ∙ changed_is (changes_by w.serial live), changed_units xs all.1)

    many_are : changers f (map Some ws) ≡ length live
    many_are =
        units_count f live ws (changed_units ws (each_says us ws alike found filed all_open))
        ∙ live_count ws (distinct_alike us ws alike units.differ) live (differ n leaves.units f file there keeps_here) (some n leaves.units f file there keeps_here) (owned live (leaves.units.tells f file there).notes.units)

    fits_after : SettlementsFit After h f (map Some ws)
    fits_after kept =
        let on = carried.after.on ∙ kept in
        room_of h.ai file.carried.after live (changers f (map Some ws)) carried.after.blocks carried.after.first carried.after.end (keeps_here.after_room on) (after_count n leaves.units f file there keeps_here on) many_are

    fits_before : SettlementsFit Before h f (map Some ws)
    fits_before kept =
        let on = carried.before.on ∙ kept in
        room_of h.bi file.carried.before live (changers f (map Some ws)) carried.before.blocks carried.before.first carried.before.end (keeps_here.before_room on) (before_count n leaves.units f file there keeps_here on) many_are

  pub all_fit : AllSettlementsFit (map Some ws) v.catalog.heads
  all_fit f h at_head = go (file_at n.durable.directory f) refl (subst (λ o. IsPlaceLeft content f o (file_at n.durable.directory f)) at_head (leaves.files.each f))
    where
      go : (o : Option File) → file_at n.durable.directory f ≡ o → IsPlaceLeft content f (Some h) o → SettlementsFit After h f (map Some ws) × SettlementsFit Before h f (map Some ws)
      go None there is = absurd is
      go (Some file) there is = (fits_after f h at_head file there is.1, fits_before f h at_head file there is.1)

  pub never_full : IsTooFull (map Some ws) v.catalog.heads → ⊥
  never_full t = by_side t.side t.kept t.full
    where
      fits : SettlementsFit After t.head t.file (map Some ws) × SettlementsFit Before t.head t.file (map Some ws)
      fits = all_fit t.file t.head t.there

      by_side : (side : Side) → is_kept side t.head ≡ true → ring_size (span_of side t.head) < (span_of side t.head).end - (span_of side t.head).first + 48 * changers t.file (map Some ws) → ⊥
      by_side After kept full = let room = fits.0 kept in omega (arith, room, full)
      by_side Before kept full = let room = fits.1 kept in omega (arith, room, full)
