-- A restart undoes the units of a node that are not prepared as the world does.
use Rattle.std.proofs.Common.{inl, inr, ◌≡◌, ℕ, zero, suc, ◌+◌, ◌-◌, ◌*◌, ◌<◌, ◌≤◌, ◌^◌, List, [], ◌∷◌, ◌++◌, Bool, true, false, Option, Some, None, if◌then◌else◌, length, map, slice_get, slice_index_or, refl, sym, ◌∙◌, ap, subst, arith}
use Rattle.std.specs.Prelude.{is_some, nat_lt}
use Rattle.std.specs.Option.{IfSome}
use Rattle.std.specs.List.{AllByRecursion}
use Rattle.std.proofs.lemmas.Bool.Decides.{nat_tests}
use Rattle.std.proofs.lemmas.List.{length-map, map-append}
use Rattle.commit_protocol.specs.Messages.{LogRecord}
use Rattle.commit_protocol.specs.Table.{Branch, record_serials}
use Rattle.commit_protocol.specs.World.{In}
use Rattle.commit_protocol.proofs.Serials.{serial_in as record_of_serial}
use Rattle.file_base.specs.declared.head.FileHead.{FileHead}
use Rattle.vms_model.specs.Ids.{Id}
use Rattle.vms_model.specs.Transactions as model
use Rattle.journal_model.specs.Entries.{Entry}
use Rattle.journal_model.specs.Ring.{IsJournal, ring_size}
use Rattle.log_laws.specs.Slots.{prepared_of, records_in}
use Rattle.ru_journal.specs.Told.{UnitTold, nothing_told, told_by}
use Rattle.unit_world.specs.directory_model.Files.{file_at}
use Rattle.recovery_units.specs.image_room.Room.{ImagesAreLow}
use Rattle.volume.specs.Catalogs.{IsSound, TellsCatalog}
use Rattle.volume.specs.State.{VolumeState}
use Rattle.rms_units.specs.unit_aborts.Reopening.{AreFound, AreLeft, AreUnits, BreaksUnit, HasTaken, Reopens, UndoesOne, aborting, broken, but_next, full, left_after, left_unit, left_units, next_of, reading, taken}
use Rattle.rms_units.specs.unit_aborts.declared.reopening.AbortedUnit.{AbortedUnit}
use Rattle.recovery_units.specs.unit_entries.Opening.{AreAlike, AreFilesAt}
use Rattle.recovery_units.specs.unit_entries.Reading.{AreInOrder, placed}
use Rattle.recovery_units.specs.unit_entries.Reading as entries
use Rattle.unit_laws.specs.Journal.{JournalEntry, ChangeEntry, PreparedEntry, SettledEntry, RecoveryUnit, active_units, entries_size, entry_size, find_unit, is_settled_in, owed, units_in}
use Rattle.unit_table.specs.Units.{OpenUnit, earlier, earliest}
use Rattle.recovery_units.specs.run_model.Answers.{left_active, unit_key}
use Rattle.recovery_units.specs.run_model.Locks.{Lock}
use Rattle.recovery_units.specs.run_model.World.{Act, Node, Settlement, Volatile, acted, booted, fallen, next_moment, prepared_left, relocked, settlement}
use Rattle.recovery_units.specs.world_laws.Nodes.{AreKept, IsKeptDisk}
use Rattle.recovery_units.proofs.world_laws.BootLemmas.{branch_in, left_reordered}
use Rattle.recovery_units.proofs.world_laws.FewLemmas.{few_in}
use Rattle.recovery_units.proofs.world_laws.LeftLemmas.{left_by}
use Rattle.recovery_units.proofs.world_laws.UndoLemmas.{boot_kept, unsettled_left}
use Rattle.recovery_units.proofs.world_laws.UnsettledLemmas.{units_are_unsettled}
use Rattle.recovery_units.specs.world_laws.Running.{Each}
use Rattle.undo_laws.proofs.FallenLemmas.{has_disk, volume_left_fallen}
use Rattle.recovery_units.specs.volume_model.Volumes.{HasDisk, IsLeftBy}
use Rattle.recovery_units.specs.volume_model.Entries.{AreEntries}
use Rattle.rms_units.specs.unit_journal.Groups.{LeavesOld}
use Rattle.rms_units.specs.unit_journal.Settling.{next_moment as moment_next}
use Rattle.rms_units.specs.unit_restarts.Restarting.{RestartsNot, returning, undoing}
use Rattle.recovery_units.specs.Calls.{IsRestarting, after_undone, settlements_of, told_in, told_settlement, undone_act, undone_next}
use Rattle.recovery_units.specs.State.{IsEarly, changed_at, is_change_by, positions_of}
use Rattle.recovery_units.specs.declared.settled.SettledUnit.{SettledUnit}
use Rattle.rms_units.specs.State as rms
use Rattle.node_units.specs.Told.{unit_settled}
use Rattle.node_units.proofs.Alike.{next_alike, positions_alike}
use Rattle.node_units.proofs.Earliest.{first_by}
use Rattle.node_units.proofs.NotedFiles.{files_say}
use Rattle.node_units.proofs.RestartRoom.{never_full}
use Rattle.node_units.proofs.Seeing.{ends_within}
use Rattle.node_units.proofs.Falling.{same_some}
use Rattle.node_units.proofs.Standing.{entries_stand}
use Rattle.node_units.proofs.Telling.{AreTold, IsTold, unit_shown, units_told}
use Rattle.node_units.proofs.Undoing.{AreWhere, IsOfPrepared, Stage, active_next, active_none, all_next, counted, each_found, earliest_told, entered, fails_before, fails_last, fails_on_the_way, next_holds, next_stage, nobody, relocked_next, rows_for, serials_told, stage_read, stay_next, still_next}

-- The nodes and the settlements of a restart.

one_shown : (u w : RecoveryUnit) → ◌≡◌ {A = Option RecoveryUnit} (Some u) (Some w) → u ≡ w
one_shown u w e = cc

after_next : (us : List RecoveryUnit) (i : ℕ) (u : RecoveryUnit) (n : Node) → slice_get us i ≡ Some u → after_undone (suc i) n us ≡ acted (undone_act (after_undone i n us) u) (after_undone i n us)
after_next [] i u n at = let never : ⊥ = cc in absurd never
after_next (w ∷ us) zero u n at = ap (λ (x : RecoveryUnit). acted (undone_act n x) n) (one_shown w u at)
after_next (w ∷ us) (suc i) u n at = after_next us i u (acted (undone_act n w) n) at

settlements_next : (us : List RecoveryUnit) (i : ℕ) (u : RecoveryUnit) (n : Node) → slice_get us i ≡ Some u →
    settlements_of (suc i) n us ≡ settlements_of i n us ++ settlement (unit_key u) model.Abort model.SegFail (next_moment (after_undone i n us)) ∷ []
settlements_next [] i u n at = let never : ⊥ = cc in absurd never
settlements_next (w ∷ us) zero u n at = ap (λ (x : RecoveryUnit). settlement (unit_key x) model.Abort model.SegFail (next_moment n) ∷ []) (one_shown w u at)
settlements_next (w ∷ us) (suc i) u n at = ap (λ (ss : List Settlement). settlement (unit_key w) model.Abort model.SegFail (next_moment n) ∷ ss) (settlements_next us i u (acted (undone_act n w) n) at)

act_next : (us : List RecoveryUnit) (i : ℕ) (u : RecoveryUnit) (n : Node) → slice_get us i ≡ Some u → undone_next i n us ≡ Some (undone_act (after_undone i n us) u)
act_next [] i u n at = let never : ⊥ = cc in absurd never
act_next (w ∷ us) zero u n at = ap (λ (x : RecoveryUnit). Some (undone_act n x)) (one_shown w u at)
act_next (w ∷ us) (suc i) u n at = act_next us i u (acted (undone_act n w) n) at

no_next : (us : List RecoveryUnit) (n : Node) → undone_next (length us) n us ≡ None
no_next [] n = refl
no_next (u ∷ us) n = no_next us (acted (undone_act n u) n)

settlements_many : (i : ℕ) (n : Node) (rs : List RecoveryUnit) → i ≤ length rs → length (settlements_of i n rs) ≡ i
settlements_many zero n rs le = refl
settlements_many (suc i) n [] le = absurd (omega (arith, le))
settlements_many (suc i) n (r ∷ rs) le = ap suc (settlements_many i (acted (undone_act n r) n) rs (omega (arith, le)))

got_within : (us : List RecoveryUnit) (i : ℕ) (u : RecoveryUnit) → slice_get us i ≡ Some u → i < length us
got_within [] i u at = let never : ⊥ = cc in absurd never
got_within (w ∷ us) zero u at = omega arith
got_within (w ∷ us) (suc i) u at = let rest = got_within us i u at in omega (arith, rest)

abbrev told_of : AbortedUnit → Settlement
told_of t = told_settlement model.Abort model.SegFail (unit_settled t)

told_twice : (ts : List AbortedUnit) → told_in (map unit_settled ts) ≡ map told_of ts
told_twice [] = refl
told_twice (t ∷ ts) = ap (λ (ss : List Settlement). told_of t ∷ ss) (told_twice ts)

-- the units behind the first so many
abbrev pub behind : ℕ → List RecoveryUnit → List RecoveryUnit
behind zero us = us
behind (suc i) [] = []
behind (suc i) (u ∷ us) = behind i us

behind_got : (us : List RecoveryUnit) (i : ℕ) (u : RecoveryUnit) (rest : List RecoveryUnit) → behind i us ≡ u ∷ rest → (slice_get us i ≡ Some u) × (behind (suc i) us ≡ rest)
behind_got [] zero u rest is = let never : ⊥ = cc in absurd never
behind_got [] (suc i) u rest is = let never : ⊥ = cc in absurd never
behind_got (w ∷ us) zero u rest is = (let first : w ≡ u = cc in ap (λ (x : RecoveryUnit). Some x) first, (let more : us ≡ rest = cc in more))
behind_got (w ∷ us) (suc i) u rest is = behind_got us i u rest is

none_behind : (us : List RecoveryUnit) (i : ℕ) → behind i us ≡ [] → length us ≤ i
none_behind [] i is = omega arith
none_behind (w ∷ us) zero is = let never : ⊥ = cc in absurd never
none_behind (w ∷ us) (suc i) is = let rest = none_behind us i is in omega (arith, rest)

-- Where the units that are left begin.

some_changes : (k : ℕ) → 1 ≤ k → nat_lt 0 k ≡ true
some_changes k le = grind (arith, nat_tests, le)

left_begins : (f : Id → Option ℕ) (us : List UnitTold) → AllByRecursion (IsTold f) us → earliest (left_units us) ≡ earliest_told us
left_begins f [] all = refl
left_begins f (u ∷ us) all =
    (λ k. earliest (left_unit u (if some_changes u.changes all.0.some k then Some u.first else None) ∷ left_units us))
    ∙ ap (earlier (Some u.first)) (left_begins f us all.1)

where_on : (f : Id → List ℕ) (m next : Node) (us : List UnitTold) → AreWhere f m us → AreWhere (λ (x : Id). positions_of x m.durable.units.first m.durable.units.entries) next us → AreWhere f next us
where_on f m next [] here on = tt
where_on f m next (u ∷ us) here on = (here.0 ∙ on.0, where_on f m next us here.1 on.1)

where_first : (m : Node) (us : List UnitTold) → AreWhere (λ (x : Id). positions_of x m.durable.units.first m.durable.units.entries) m us
where_first m [] = tt
where_first m (u ∷ us) = (refl, where_first m us)

few_active : (us : List UnitTold) → length (active_units (map unit_shown us)) ≤ length us
few_active [] = omega arith
few_active (u ∷ us) = go u.prepared (few_active us)
  where
    go : (b : Bool) → length (active_units (map unit_shown us)) ≤ length us → length (if b then active_units (map unit_shown us) else unit_shown u ∷ active_units (map unit_shown us)) ≤ suc (length us)
    go true rest = omega (arith, rest)
    go false rest = omega (arith, rest)

-- A unit that is left is unsettled at a restart, and changed the files then that it has changed.
pub record Carries (n m : Node) (u : UnitTold) : Type 0 where
  pub unsettled : is_settled_in u.serial n.durable.units.entries ≡ false
  pub files : (f : ℕ) → changed_at u.serial (file_at m.durable.directory f) ≡ changed_at u.serial (file_at n.durable.directory f)

carries_first : (n : Node) (us : List UnitTold) → Each (λ (x : Id). is_settled_in x n.durable.units.entries ≡ false) (serials_told us) → AllByRecursion (Carries n n) us
carries_first n [] all = tt
carries_first n (u ∷ us) all = (record { unsettled = all.0; files = λ f. refl }, carries_first n us all.1)

carries_on : (n m next : Node) (us : List UnitTold) → AllByRecursion (Carries n m) us →
    AllByRecursion (λ (w : UnitTold). (f : ℕ) → changed_at w.serial (file_at next.durable.directory f) ≡ changed_at w.serial (file_at m.durable.directory f)) us → AllByRecursion (Carries n next) us
carries_on n m next [] all still = tt
carries_on n m next (u ∷ us) all still = (record { unsettled = all.0.unsettled; files = λ f. still.0 f ∙ all.0.files f }, carries_on n m next us all.1 still.1)

-- Units are taken one after another.

module _ (clock most size : ℕ) (us : List UnitTold) (v : VolumeState) (n : Node) (begun : Stage clock most size n us v n) (late : clock ≤ most) (far : most + 64 < 24113056319999) (few : length us ≤ 64) (prepared : IsOfPrepared n) (records : (r : LogRecord) → In r (prepared_left n.durable) → In r (prepared_of (records_in n.durable.log))) where
  -- those that are undone
  abbrev pub all : List RecoveryUnit
  all = active_units (map unit_shown us)

  abbrev pub node : ℕ → Node
  node i = after_undone i n all

  -- where the changes of a branch began
  abbrev pub first_places : Id → List ℕ
  first_places x = positions_of x n.durable.units.first n.durable.units.entries

  pub record Taken (i : ℕ) (mid : VolumeState) (out : List AbortedUnit) : Type 0 where
    pub stage : Stage clock (most + i) size n (left_after i us) mid (node i)
    pub told : map told_of out ≡ settlements_of i n all
    pub rest : active_units (map unit_shown (left_after i us)) ≡ behind i all
    pub places : AreWhere first_places (node i) (left_after i us)
    pub carries : AllByRecursion (Carries n (node i)) (left_after i us)
    pub locks : (ls : List Lock) → relocked (prepared_left n.durable) (node i).durable ls ≡ relocked (prepared_left n.durable) n.durable ls

  -- none of the units is settled
  open_first : Each (λ (x : Id). is_settled_in x n.durable.units.entries ≡ false) (serials_told us)
  open_first = each_found us begun.units.differ (λ (x : Id). is_settled_in x n.durable.units.entries ≡ false)
      (λ x k. units_are_unsettled n.durable.units.entries x begun.leaves.order.order (ap (λ (rs : List RecoveryUnit). is_some (find_unit x rs)) (sym begun.units.units) ∙ k))

  -- the files that one of them changed are those that its entries tell
  pub says_now : (i : ℕ) (u : UnitTold) → next_of (left_after i us) ≡ Some u → AllByRecursion (Carries n (node i)) (left_after i us) → (ps : List ℕ) (files : List Bool) → AreFound u.serial v ps → AreFilesAt v ps files →
      (f : ℕ) → changed_at u.serial (file_at (node i).durable.directory f) ≡ slice_index_or files f false
  says_now i u next all ps files found filed f =
      let own = next_holds (Carries n (node i)) (left_after i us) u next all in
      own.files f ∙ files_say v n begun.content begun.told begun.leaves begun.long u.serial ps files found filed own.unsettled f

  late_at : (i : ℕ) → clock ≤ most + i
  late_at i = omega (arith, late)

  far_at : (i : ℕ) → i ≤ 64 → most + i < 24113056319999
  far_at i le = omega (arith, le, far)

  many : length all ≤ 64
  many = let fewer = few_active us in omega (arith, fewer, few)

  -- the next of them
  pub got_next : (i : ℕ) (u : UnitTold) → active_units (map unit_shown (left_after i us)) ≡ behind i all → next_of (left_after i us) ≡ Some u → (slice_get all i ≡ Some (unit_shown u)) × (behind (suc i) all ≡ active_units (map unit_shown (left_after (suc i) us)))
  got_next i u rest at = behind_got all i (unit_shown u) (active_units (map unit_shown (but_next (left_after i us)))) (sym rest ∙ active_next (left_after i us) u at)

  -- the changes that were found at first are those that its entries have now
  pub found_now : (i : ℕ) (u : UnitTold) (mid : VolumeState) (at : Stage clock (most + i) size n (left_after i us) mid (node i)) → i ≤ 64 → next_of (left_after i us) ≡ Some u → AreWhere first_places (node i) (left_after i us) → (ps : List ℕ) → AreFound u.serial v ps →
      ps ≡ entries.positions_of u.serial (placed mid.catalog.ru.first at.leaves.journal.entries)
  found_now i u mid at le next places ps found =
      let j = begun.leaves.journal in
      subst (λ o. IfSome o (λ c. (es : List Entry) → IsJournal c v.catalog.ru es → ps ≡ entries.positions_of u.serial (placed v.catalog.ru.first es))) begun.told found j.entries j.is
      ∙ positions_alike v.catalog.heads u.serial v.catalog.ru.first n.durable.units.entries j.entries j.alike j.is.each
      ∙ ap (λ (p : ℕ). positions_of u.serial p n.durable.units.entries) j.first ∙ next_where (left_after i us) next places
      ∙ sym (entered clock (most + i) size n (left_after i us) u mid (node i) at next (late_at i) (far_at i le) prepared)
    where
      next_where : (ws : List UnitTold) → next_of ws ≡ Some u → AreWhere first_places (node i) ws → first_places u.serial ≡ positions_of u.serial (node i).durable.units.first (node i).durable.units.entries
      next_where ws next all = next_at ws next all
        where
          next_at : (ws : List UnitTold) → next_of ws ≡ Some u → AreWhere first_places (node i) ws → first_places u.serial ≡ positions_of u.serial (node i).durable.units.first (node i).durable.units.entries
          next_at [] next all = let never : ⊥ = cc in absurd never
          next_at (w ∷ ws) next all = go w.prepared next (next_at ws)
            where
              one : ◌≡◌ {A = Option UnitTold} (Some w) (Some u) → w ≡ u
              one e = cc

              go : (b : Bool) → (if b then next_of ws else Some w) ≡ Some u → (next_of ws ≡ Some u → AreWhere first_places (node i) ws → first_places u.serial ≡ positions_of u.serial (node i).durable.units.first (node i).durable.units.entries) →
                  first_places u.serial ≡ positions_of u.serial (node i).durable.units.first (node i).durable.units.entries
              go true is later = later is all.1
              go false is later = subst (λ (y : UnitTold). first_places y.serial ≡ positions_of y.serial (node i).durable.units.first (node i).durable.units.entries) (one is) all.0

  pub left_now : (i : ℕ) (mid : VolumeState) → Stage clock (most + i) size n (left_after i us) mid (node i) → earliest (left_units (left_after (suc i) us)) ≡ earliest_told (left_after (suc i) us)
  left_now i mid at = left_begins (λ (x : Id). first_by (is_change_by x) (node i).durable.units.first (node i).durable.units.entries) (left_after (suc i) us)
      (all_next (IsTold (λ (x : Id). first_by (is_change_by x) (node i).durable.units.first (node i).durable.units.entries)) (left_after i us) at.units.each)

  one : (i : ℕ) (u : UnitTold) (t : AbortedUnit) (mid w : VolumeState) (out new : List AbortedUnit) → next_of (left_after i us) ≡ Some u → i ≤ 64 → Taken i mid out → UndoesOne clock u (left_units (left_after (suc i) us)) t v mid w → new ≡ out ++ t ∷ [] → Taken (suc i) w new
  one i u t mid w out new next le so_far is told =
      let got = got_next i u so_far.rest next in
      let at = so_far.stage in
      let places = found_now i u mid at le next so_far.places is.positions is.found in
      let stage = next_stage clock (most + i) size n (left_after i us) u mid (node i) at next (late_at i) (far_at i le) prepared is.positions places is.files (says_now i u next so_far.carries is.positions is.files is.found is.filed) t.tid t.serial is.tid is.serial t.moment.0 is.moment (left_units (left_after (suc i) us)) (left_now i mid at)
      is.aborts.mid is.aborts.goes is.aborts.undoes w is.aborts.makes is.idle in
      let moment : t.moment.0 ≡ next_moment (node i) = is.moment ∙ next_alike clock mid.catalog.home (node i) at.leaves.home at.same in
      let more : most + i + 1 ≡ most + suc i = omega arith in
      record {
        stage = subst (λ (k : ℕ). Stage clock k size n (left_after (suc i) us) w (node (suc i))) more (subst (λ (m : Node). Stage clock (most + i + 1) size n (left_after (suc i) us) w m) (sym (after_next all i (unit_shown u) n got.0)) stage);
        told =
            ap (map told_of) told ∙ map-append told_of out (t ∷ [])
            ∙ (λ k. so_far.told k ++ record { tid = is.tid k; serial = is.serial k; outcome = model.Abort; reason = Some model.SegFail; moment = moment k } ∷ [])
            ∙ sym (settlements_next all i (unit_shown u) n got.0);
        rest = sym got.1;
        places = subst (λ (m : Node). AreWhere first_places m (left_after (suc i) us)) (sym (after_next all i (unit_shown u) n got.0))
            (where_on first_places (node i) (acted (undone_act (node i) (unit_shown u)) (node i)) (left_after (suc i) us)
            (all_next (λ (y : UnitTold). first_places y.serial ≡ positions_of y.serial (node i).durable.units.first (node i).durable.units.entries) (left_after i us) so_far.places)
            (stay_next clock (most + i) size n (left_after i us) u mid (node i) at next (late_at i) (far_at i le) prepared));
        carries = subst (λ (m : Node). AllByRecursion (Carries n m) (left_after (suc i) us)) (sym (after_next all i (unit_shown u) n got.0))
            (carries_on n (node i) (acted (undone_act (node i) (unit_shown u)) (node i)) (left_after (suc i) us) (all_next (Carries n (node i)) (left_after i us) so_far.carries)
            (still_next clock (most + i) size n (left_after i us) u mid (node i) at next (late_at i) (far_at i le) prepared));
        locks = λ ls.
            ap (λ (m : Node). relocked (prepared_left n.durable) m.durable ls) (after_next all i (unit_shown u) n got.0)
            ∙ relocked_next clock (most + i) size n (left_after i us) u mid (node i) at next (late_at i) (far_at i le) prepared (prepared_left n.durable) records ls ∙ so_far.locks ls;
      }

  -- so many of them, and what is left then
  pub taken_on : (i : ℕ) (mid : VolumeState) (out : List AbortedUnit) → HasTaken clock us i v mid out → Taken i mid out × (i ≤ length all)
  taken_on zero mid out h =
      let none : most ≡ most + 0 = omega arith in (
        record {
          stage = subst (λ (k : ℕ). Stage clock k size n us mid n) none (stage_read clock most size n us v mid n h.0 begun);
          told = ap (map told_of) h.1;
          rest = refl;
          places = where_first n us;
          carries = carries_first n us open_first;
          locks = λ ls. refl;
        },
        omega arith,
      )
  taken_on (suc i) mid out h =
      let before = taken_on i h.0 h.1 h.4 in
      let le = before.1 in
      let within = got_within all i (unit_shown h.2) (got_next i h.2 before.0.rest h.5).0 in
      (one i h.2 h.3 h.0 mid h.1 out h.5 (omega (arith, le, many)) before.0 h.6 h.7, omega (arith, within))

-- A restart.

entries_long : (es : List JournalEntry) → 48 * length es ≤ entries_size es
entries_long [] = omega arith
entries_long (e ∷ es) = let rest = entries_long es in let one = least e in omega (arith, rest, one)
  where
    least : (e : JournalEntry) → 48 ≤ entry_size e
    least (ChangeEntry tid by file key before) = omega arith
    least (PreparedEntry tid by) = omega arith
    least (SettledEntry tid by outcome moment) = omega arith

as_many : (heads : List (Option FileHead)) (es : List JournalEntry) (ds : List Entry) → AreEntries heads es ds → length ds ≡ length es
as_many heads [] [] are = refl
as_many heads [] (d ∷ ds) are = absurd are
as_many heads (e ∷ es) [] are = absurd are
as_many heads (e ∷ es) (d ∷ ds) are = ap suc (as_many heads es ds are.3)

owed_each : (us : List RecoveryUnit) → 48 * length us ≤ owed us
owed_each [] = omega arith
owed_each (u ∷ us) = go u.prepared (owed_each us)
  where
    go : (b : Bool) → 48 * length us ≤ owed us → 48 * suc (length us) ≤ (if b then 48 else 96) + owed us
    go true rest = omega (arith, rest)
    go false rest = omega (arith, rest)

all_held : (P Q : Lock → Type 0) (ls : List Lock) → ((l : Lock) → P l → Q l) → AllByRecursion P ls → AllByRecursion Q ls
all_held P Q [] f all = tt
all_held P Q (l ∷ ls) f all = (f l all.0, all_held P Q ls f all.1)

-- what a node has that has just come up is of prepared records
pub booted_prepared : (n : Node) → IsKeptDisk n → n.volatile ≡ booted n.durable → IsOfPrepared n
booted_prepared n k is = record {
  branches = λ b i. let r = branch_in (prepared_left n.durable) b (subst (λ (x : Volatile). In b x.branches) is i) in (r.0, there r.0 r.1, ap (λ (c : Branch). c.key.serial) r.2);
  locks = subst (λ (x : Volatile). AllByRecursion (λ (l : Lock). (r : LogRecord) × In r (prepared_of (records_in n.durable.log)) × (l.by ≡ r.serial)) x.locks) (sym is)
      (all_held (λ (l : Lock). In l.by (record_serials (prepared_left n.durable))) (λ (l : Lock). (r : LogRecord) × In r (prepared_of (records_in n.durable.log)) × (l.by ≡ r.serial)) (booted n.durable).locks
      (λ l i. let r = record_of_serial l.by (prepared_left n.durable) i in (r.0, there r.0 r.1, sym r.2)) (left_by n.durable n.name k.filed (prepared_left n.durable) (unsettled_left n k.log)));
}
  where
    there : (r : LogRecord) → In r (prepared_left n.durable) → In r (prepared_of (records_in n.durable.log))
    there r i = (left_reordered n.durable k.log.distinct).there r i

module _ (clock : ℕ) (v : VolumeState) (n : Node) (r : IsRestarting v n) (sized : IfSome v.store.current (λ c. length c + 518 ≡ v.store.disk.size)) (same : n.clock ≡ clock) (before : clock < 24000001000066) (order : rms.IsInOrder rms.nothing_begun v) (early : IsEarly v) where
  abbrev es : List Entry
  es = r.leaves.journal.entries

  -- the units that the journal tells
  abbrev pub us : List UnitTold
  us = (told_by (placed v.catalog.ru.first es)).units

  stand : AreInOrder nothing_told (placed v.catalog.ru.first es)
  stand = entries_stand v.catalog.heads v.catalog.ru.first n.durable.units.entries es order.heads r.leaves.journal.alike r.leaves.journal.is.each r.leaves.order.order r.leaves.order.few

  pub told : AreTold n.durable.units.first n.durable.units.entries us
  told = subst (λ (p : ℕ). AreTold p n.durable.units.entries us) r.leaves.journal.first
      (units_told v.catalog.heads v.catalog.ru.first n.durable.units.entries es r.leaves.journal.alike r.leaves.journal.is.each stand)

  -- those that are undone are the world's
  pub active : left_active n ≡ active_units (map unit_shown us)
  active = ap active_units (sym told.units)

  units_many : length us ≡ length (units_in n.durable.units.entries)
  units_many = sym (length-map us unit_shown) ∙ ap length told.units

  pub few : length us ≤ 64
  few = let most = (few_in n.durable.units.entries r.leaves.order.few).units in omega (arith, units_many, most)

  kept_disk : IsKeptDisk n
  kept_disk = r.disk

  pub of_prepared : IsOfPrepared n
  of_prepared = booted_prepared n r.disk r.booted

  pub records_there : (r : LogRecord) → In r (prepared_left n.durable) → In r (prepared_of (records_in n.durable.log))
  records_there r i = (left_reordered n.durable kept_disk.log.distinct).there r i

  rows_first : AreKept (rows_for (active_units (map unit_shown us)) (counted n)) (counted n)
  rows_first =
      subst (λ (rs : List RecoveryUnit). AreKept (rows_for rs (counted n)) (counted n)) active
      (subst (λ (x : Volatile). AreKept (rows_for (left_active n) (record (counted n) { volatile = x })) (record (counted n) { volatile = x })) (sym r.booted) (boot_kept nobody n r.disk).1)

  images_early : ImagesAreLow (48 * length us) v.catalog.heads
  images_early f h there =
      let within = ends_within v.catalog.heads f h there in
      let one = within.0 in
      let two = within.1 in
      let low = early.images in
      (omega (arith, one, low, few), omega (arith, two, low, few))

  pub start : Stage clock 24000001000066 v.store.disk.size n us v n
  start = record {
    content = r.content;
    idle = order.idle;
    told = r.told;
    tells = subst (λ o. IfSome o (TellsCatalog v.catalog)) r.told order.holds;
    sound = subst (λ (x : List ℕ). IsSound x n.blocks v.catalog) (sym r.name) (subst (λ (x : ℕ). IsSound v.catalog.home.node x v.catalog) (sym r.blocks) order.sound);
    long = order.heads;
    size = subst (λ o. IfSome o (λ c. length c + 518 ≡ v.store.disk.size)) r.told sized ∙ sym r.blocks;
    blocks = r.blocks;
    leaves = r.leaves;
    same = same;
    volatile = refl;
    log = refl;
    units = told;
    moment = let m = early.moment in omega (arith, m);
    low = let low = early.low in omega (arith, low, few);
    images = images_early;
    rows = rows_first;
  }

  abbrev pub HasDone : ℕ → VolumeState → List AbortedUnit → Type 0
  HasDone i mid out = Taken clock 24000001000066 v.store.disk.size us v n start (omega (arith, before)) (omega arith) few of_prepared records_there i mid out

  pub taken_at : (i : ℕ) (mid : VolumeState) (out : List AbortedUnit) → HasTaken clock us i v mid out → HasDone i mid out × (i ≤ length (active_units (map unit_shown us)))
  taken_at i mid out has = taken_on clock 24000001000066 v.store.disk.size us v n start (omega (arith, before)) (omega arith) few of_prepared records_there i mid out has

  -- the entries are as many bytes as the span
  spans : v.catalog.ru.end - v.catalog.ru.first ≡ entries_size n.durable.units.entries
  spans = let first = r.leaves.journal.first in let end = r.leaves.journal.end in omega (arith, first, end)

  fits : entries_size n.durable.units.entries + 48 * length us ≤ ring_size v.catalog.ru
  fits =
      let fit = r.leaves.order.fits in let owes = owed_each (units_in n.durable.units.entries) in
      let blocks = order.sound.ru_blocks in let journal = r.leaves.home.journal in
      omega (arith, fit, owes, units_many, blocks, journal)

  short : length es ≤ 87381
  short =
      let long = entries_long n.durable.units.entries in let count = as_many v.catalog.heads n.durable.units.entries es r.leaves.journal.alike in
      let blocks = order.sound.ru_blocks in let most = order.sound.sizes.most_journal in let fit = fits in
      omega (arith, long, count, blocks, most, fit)

  these_are : (these : List UnitTold) → AreUnits these v → these ≡ us
  these_are these are = subst (λ o. IfSome o (λ c. (ds : List Entry) → IsJournal c v.catalog.ru ds → these ≡ (told_by (placed v.catalog.ru.first ds)).units)) r.told are es r.leaves.journal.is

  -- All that are not prepared are undone.
  pub record IsDone (w : VolumeState) (out : List AbortedUnit) (left : List OpenUnit) : Type 0 where
    pub done : HasDone (length (active_units (map unit_shown us))) w out
    pub none : next_of (left_after (length (active_units (map unit_shown us))) us) ≡ None
    pub are : AreLeft us (length (active_units (map unit_shown us))) v left

  pub reopened : (w : VolumeState) (out : List AbortedUnit) (left : List OpenUnit) → Reopens clock v w out left → IsDone w out left
  reopened w out left (broken wrong is nothing none) =
      absurd (subst (λ o. IfSome o (λ c. (ds : List Entry) → IsJournal c v.catalog.ru ds → length ds ≤ 87381 → AreInOrder nothing_told (placed v.catalog.ru.first ds) → ⊥)) r.told wrong es r.leaves.journal.is short stand)
  reopened w out left (full these are over is nothing none) =
      let as_long = ap length (these_are these are) in
      elim over [
        | inl large ↦ absurd (omega (arith, large, as_long, fits, spans))
        | inr large ↦ absurd (never_full v n r.content r.told r.leaves order.heads us told kept_disk.filed.images large.0 (subst (λ (xs : List UnitTold). AreAlike xs large.0) (these_are these are) large.1) large.2 large.3 large.4)
      ]
  reopened w out left (taken these many are has none rest) =
      let is_us = these_are these are in
      let has_us = subst (λ (xs : List UnitTold). HasTaken clock xs many v w out) is_us has in
      let none_us : next_of (left_after many us) ≡ None = ap (λ (xs : List UnitTold). next_of (left_after many xs)) (sym is_us) ∙ none in
      let did = taken_at many w out has_us in
      let past = none_behind (active_units (map unit_shown us)) many (sym did.0.rest ∙ (active_none (left_after many us) none_us).0) in
      let upto = did.1 in
      let all : many ≡ length (active_units (map unit_shown us)) = omega (arith, past, upto) in
      record {
        done = subst (λ (i : ℕ). HasDone i w out) all did.0;
        none = subst (λ (i : ℕ). next_of (left_after i us) ≡ None) all none_us;
        are = subst (λ (i : ℕ). AreLeft us i v left) all (subst (λ (xs : List UnitTold). AreLeft xs many v left) is_us rest);
      }

  -- What is told of them.
  pub settled_all : (w : VolumeState) (out : List AbortedUnit) (left : List OpenUnit) → IsDone w out left → told_in (map unit_settled out) ≡ settlements_of (length (left_active n)) n (left_active n)
  settled_all w out left d = told_twice out ∙ d.done.told ∙ (λ k. settlements_of (length (sym active k)) n (sym active k))

  pub undone_many : (w : VolumeState) (out : List AbortedUnit) (left : List OpenUnit) → IsDone w out left → length out ≡ length (left_active n)
  undone_many w out left d =
      sym (length-map out told_of) ∙ ap length d.done.told ∙ settlements_many (length (active_units (map unit_shown us))) n (active_units (map unit_shown us)) (omega arith) ∙ ap length (sym active)

  -- The disk goes down.

  so_many : (w : VolumeState) (out : List AbortedUnit) (i : ℕ) → i ≤ length (active_units (map unit_shown us)) → map told_of out ≡ settlements_of i n (active_units (map unit_shown us)) →
      HasDisk (fallen (undone_next i n (active_units (map unit_shown us))) (after_undone i n (active_units (map unit_shown us)))) w.store.disk → (told : List SettledUnit) → told ≡ map unit_settled out → (settled : told_in told ≡ settlements_of (length told) n (left_active n)) ×
      HasDisk (fallen (undone_next (length told) n (left_active n)) (after_undone (length told) n (left_active n))) w.store.disk
  so_many w out i within settled disk told is =
      let count : i ≡ length told =
      sym (settlements_many i n (active_units (map unit_shown us)) within) ∙ sym (ap length settled) ∙ length-map out told_of ∙ sym (length-map out unit_settled) ∙ ap length (sym is) in (
        ap told_in is ∙ told_twice out ∙ settled ∙ (λ k. settlements_of (count k) n (sym active k)),
        subst (λ (rs : List RecoveryUnit). HasDisk (fallen (undone_next (length told) n rs) (after_undone (length told) n rs)) w.store.disk) (sym active)
            (subst (λ (k : ℕ). HasDisk (fallen (undone_next k n (active_units (map unit_shown us))) (after_undone k n (active_units (map unit_shown us)))) w.store.disk) count disk),
      )

  -- what a volume has between two of the units
  left_fails : (w : VolumeState) (most : ℕ) (rest : List UnitTold) (x : VolumeState) (m : Node) → Stage clock most v.store.disk.size n rest x m → LeavesOld x w.store.disk → (act : Option Act) → HasDisk (fallen act m) w.store.disk
  left_fails w most rest x m is old act =
      has_disk (fallen act m) w.store.disk is.leaves.home.volume (λ image may. let l = old image may in (
        l.0,
        inl (subst (λ y. IsLeftBy y (fallen act m)) (sym (same_some _ is.content (l.1 ∙ sym is.idle.current ∙ is.told)))
            (record { catalog = x.catalog; tells = is.tells; sound = is.sound; leaves = λ whole. volume_left_fallen is.content x.catalog m act is.leaves })),
      ))

  -- where it goes down in the abort of one
  breaks_unit : (w : VolumeState) (out : List AbortedUnit) (i : ℕ) (mid : VolumeState) (u : UnitTold) → next_of (left_after i us) ≡ Some u → HasTaken clock us i v mid out → BreaksUnit clock u (left_units (left_after (suc i) us)) v mid w →
      HasDisk (fallen (undone_next i n (active_units (map unit_shown us))) (after_undone i n (active_units (map unit_shown us)))) w.store.disk × (i ≤ length (active_units (map unit_shown us))) × (map told_of out ≡ settlements_of i n (active_units (map unit_shown us)))
  breaks_unit w out i mid u next has breaks = (
    subst (λ (act : Option Act). HasDisk (fallen act at_node) w.store.disk) (sym (act_next (active_units (map unit_shown us)) i (unit_shown u) n got.0)) (elim breaks.breaks [
      | inl fails ↦ fails_on_the_way clock (24000001000066 + i) v.store.disk.size n (left_after i us) u mid at_node at next late far of_prepared breaks.positions places act w fails
      | inr last ↦ elim last.breaks [
        | inl old ↦ fails_before clock (24000001000066 + i) v.store.disk.size n (left_after i us) u mid at_node at next late far of_prepared breaks.positions places breaks.files says breaks.tid breaks.serial breaks.same_tid breaks.same_serial (moment_next clock mid.catalog.home) refl
            (left_units (left_after (suc i) us)) left last.mid last.goes last.undoes act w old
        | inr either ↦ fails_last clock (24000001000066 + i) v.store.disk.size n (left_after i us) u mid at_node at next late far of_prepared breaks.positions places breaks.files says breaks.tid breaks.serial breaks.same_tid breaks.same_serial (moment_next clock mid.catalog.home) refl
            (left_units (left_after (suc i) us)) left last.mid last.goes last.undoes either.made either.is w either.either
      ]
    ]),
    did.1,
    did.0.told,
  )
    where
      at_node : Node
      at_node = after_undone i n (active_units (map unit_shown us))

      act : Option Act
      act = Some (undone_act at_node (unit_shown u))

      did : HasDone i mid out × (i ≤ length (active_units (map unit_shown us)))
      did = taken_at i mid out has

      at : Stage clock (24000001000066 + i) v.store.disk.size n (left_after i us) mid at_node
      at = did.0.stage

      got : (slice_get (active_units (map unit_shown us)) i ≡ Some (unit_shown u)) × (behind (suc i) (active_units (map unit_shown us)) ≡ active_units (map unit_shown (left_after (suc i) us)))
      got = got_next clock 24000001000066 v.store.disk.size us v n start (omega (arith, before)) (omega arith) few of_prepared records_there i u did.0.rest next

      small : i ≤ 64
      small = let le = did.1 in let fewer = few_active us in let most = few in omega (arith, le, fewer, most)

      late : clock ≤ 24000001000066 + i
      late = omega (arith, before)

      far : 24000001000066 + i < 24113056319999
      far = omega (arith, small)

      places : breaks.positions ≡ entries.positions_of u.serial (placed mid.catalog.ru.first at.leaves.journal.entries)
      places = found_now clock 24000001000066 v.store.disk.size us v n start (omega (arith, before)) (omega arith) few of_prepared records_there i u mid at small next did.0.places breaks.positions breaks.found

      says : (f : ℕ) → changed_at u.serial (file_at at_node.durable.directory f) ≡ slice_index_or breaks.files f false
      says = says_now clock 24000001000066 v.store.disk.size us v n start (omega (arith, before)) (omega arith) few of_prepared records_there i u next did.0.carries breaks.positions breaks.files breaks.found breaks.filed

      left : earliest (left_units (left_after (suc i) us)) ≡ earliest_told (left_after (suc i) us)
      left = left_now clock 24000001000066 v.store.disk.size us v n start (omega (arith, before)) (omega arith) few of_prepared records_there i mid at

  pub breaks_after : (w : VolumeState) (out : List AbortedUnit) → RestartsNot clock v w out → (told : List SettledUnit) → told ≡ map unit_settled out → (settled : told_in told ≡ settlements_of (length told) n (left_active n)) ×
      HasDisk (fallen (undone_next (length told) n (left_active n)) (after_undone (length told) n (left_active n))) w.store.disk
  breaks_after w out (undoing (reading old nothing)) = so_many w out 0 (omega arith) (ap (map told_of) nothing) (left_fails w 24000001000066 us v n start old (undone_next 0 n (active_units (map unit_shown us))))
  breaks_after w out (undoing (aborting these i mid u are next has breaks)) =
      let is_us = these_are these are in
      let next_us : next_of (left_after i us) ≡ Some u = ap (λ (xs : List UnitTold). next_of (left_after i xs)) (sym is_us) ∙ next in
      let has_us = subst (λ (xs : List UnitTold). HasTaken clock xs i v mid out) is_us has in
      let fails = breaks_unit w out i mid u next_us has_us (subst (λ (xs : List UnitTold). BreaksUnit clock u (left_units (left_after (suc i) xs)) v mid w) is_us breaks) in
      so_many w out i fails.1 fails.2 fails.0
  breaks_after w out (returning mid left reopens old) =
      let d = reopened mid out left reopens in
      so_many w out (length (active_units (map unit_shown us))) (omega arith) d.done.told
      (left_fails w (24000001000066 + length (active_units (map unit_shown us))) (left_after (length (active_units (map unit_shown us))) us) mid (after_undone (length (active_units (map unit_shown us))) n (active_units (map unit_shown us))) d.done.stage old
      (undone_next (length (active_units (map unit_shown us))) n (active_units (map unit_shown us))))
