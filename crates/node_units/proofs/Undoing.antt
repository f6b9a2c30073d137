-- One unit of a journal is undone by a restart.
use Rattle.std.proofs.Common.{◌≡◌, ℕ, suc, ◌+◌, ◌-◌, ◌*◌, ◌^◌, ◌<◌, ◌≤◌, List, [], ◌∷◌, Bool, true, false, Option, Some, None, if◌then◌else◌, length, map, slice_index_or, refl, sym, ◌∙◌, ap, subst, arith, inl, inr, length-set}
use Rattle.std.specs.Prelude.{is_some, nat_le, option_map, unwrap_or}
use Rattle.std.specs.Option.{IfSome}
use Rattle.std.specs.List.{AllByRecursion}
use Rattle.std.proofs.lemmas.Bool.{both_ways, false_from_ne_true, leb-false}
use Rattle.careful_write.specs.Reads.{as_read_by}
use Rattle.careful_write.specs.State.{IsEither, IsIdle, Leaves, content}
use Rattle.careful_write.proofs.Reading.{idle_read}
use Rattle.file_base.specs.declared.head.Span.{Span}
use Rattle.vms_model.specs.Ids.{Id}
use Rattle.vms_model.specs.Transactions as model
use Rattle.vms_base.specs.Ids.{serial_of, tid_of}
use Rattle.vms_base.specs.declared.ids.Serial.{Serial}
use Rattle.vms_base.specs.declared.ids.Tid.{Tid}
use Rattle.vms_base.specs.declared.outcomes.Reason.TheVariants as reason
use Rattle.records_model.specs.Records.{Change}
use Rattle.records_model.specs.History.{same_id}
use Rattle.journal_model.specs.Entries.{Entry, spelling}
use Rattle.journal_model.specs.Ring.{ring_size}
use Rattle.journal_format.proofs.Decoding.{total_is}
use Rattle.journal_store.proofs.Journals.{keeps_others}
use Rattle.ru_journal.specs.Told.{UnitTold, find_unit as find_told}
use Rattle.volume.specs.declared.catalog.Catalog.{Catalog}
use Rattle.volume.specs.Catalogs.{IsSound, TellsCatalog}
use Rattle.volume.specs.State.{Holds, SameVolume, VolumeState}
use Rattle.volume_format.specs.declared.home.Ending.TheVariants as ending
use Rattle.volume_format.specs.declared.home.Home.{Home}
use Rattle.rms_units.specs.unit_aborts.Aborting.{MakesAbort, has_changes}
use Rattle.rms_units.specs.unit_aborts.Reopening.{but_next, failed_at, next_of}
use Rattle.unit_laws.specs.Journal.{ChangeEntry, Journal, JournalEntry, PreparedEntry, RecoveryUnit, SettledEntry, active_units, end_of, find_unit, is_settled_in, owed, serial_in, trimmed, units_after, units_in, units_onto, with_entries, with_settled, without_unit}
use Rattle.unit_laws.specs.JournalLaws.{is_unit, unit_or_new, with_more}
use Rattle.unit_laws.proofs.Tests.{passed, picked}
use Rattle.unit_laws.proofs.TrimLemmas.{settles_unit, trim_keeps_units}
use Rattle.unit_laws.proofs.UnitLemmas.{found_changed, found_prepared, found_settled, is_prepared, units_follow}
use Rattle.unit_table.specs.Units.{OpenUnit, earlier, earliest, first_of}
use Rattle.rms_units.specs.unit_journal.Entries.{settled_entry}
use Rattle.rms_units.specs.unit_journal.Groups.{LeavesOld}
use Rattle.rms_units.specs.unit_journal.Settling as settling
use Rattle.rms_units.specs.unit_journal.Settling.{MakesSettlement, content_with, entry_if, from_earliest, span_with, with_front}
use Rattle.rms_units.proofs.unit_journal.EntryLemmas.{settled_is}
use Rattle.undo_laws.specs.unit_undo.Undoing.{GoesOn}
use Rattle.undo_laws.specs.unit_undo.Way.{FailsOnTheWay, IsUndone, Undoes}
use Rattle.recovery_units.specs.run_model.Answers.{table_rows, unit_key}
use Rattle.recovery_units.specs.world_laws.Ordered.{AreInOrder, IsJournalInOrder, MayFollow}
use Rattle.recovery_units.specs.run_model.World.{tid_in}
use Rattle.commit_protocol.specs.World.{In, undo_all}
use Rattle.commit_protocol.specs.Messages.{LogRecord}
use Rattle.commit_protocol.specs.Table as table
use Rattle.commit_protocol.specs.Table.{Branch, Undoes as UndoesUnit, cut}
use Rattle.commit_protocol.proofs.Lists.{told_key}
use Rattle.log_laws.specs.Slots.{prepared_of, records_in}
use Rattle.recovery_units.specs.world_laws.Nodes.{AreKept, IsKeptDisk}
use Rattle.recovery_units.specs.world_laws.Running.{Each}
use Rattle.recovery_units.specs.run_model.Locks.{Lock, released}
use Rattle.recovery_units.specs.run_model.Answers.{Row}
use Rattle.recovery_units.proofs.world_laws.UndoLemmas.{each_in}
use Rattle.recovery_units.specs.run_model.World.{Act, File, IsLogInOrder, IsReached, Node, Settlement, Shared, Tables, Volatile, acted, fallen, next_moment, relocked, relocked_by, settled_file, settlement}
use Rattle.recovery_units.proofs.world_laws.HistoryLemmas.{by_settled}
use Rattle.recovery_units.proofs.world_laws.IdLemmas.{id_is, id_itself, id_other}
use Rattle.recovery_units.proofs.world_laws.OrderedLemmas.{tables_keep_order}
use Rattle.recovery_units.proofs.world_laws.UnsettledLemmas.{units_are_unsettled}
use Rattle.undo_laws.specs.settlement_laws.Settled.{IsSettled, Makes, MaySettle}
use Rattle.undo_laws.proofs.settlement_laws.MadeLemmas.{settlements_are_made}
use Rattle.rms_units.specs.file_settlements.Settling.{EntersSettled}
use Rattle.recovery_units.specs.image_appends.declared.side.Side.TheVariants.{After, Before}
use Rattle.recovery_units.specs.image_appends.Images.{span_of}
use Rattle.recovery_units.specs.image_appends.Settling.{heads_from}
use Rattle.undo_laws.specs.image_groups.Groups.{AreToldBy, HaveRoom, outcome_of}
use Rattle.recovery_units.specs.image_room.Room.{ImagesAreLow}
use Rattle.unit_world.specs.directory_model.Laws.{spelled_entry}
use Rattle.recovery_units.specs.run_model.World.{AreUnitsOf}
use Rattle.unit_world.proofs.restart_laws.UnitLemmas.{keeps_units}
use Rattle.undo_laws.specs.Aborted.{PutsOutcome}
use Rattle.undo_laws.specs.Undone as undo
use Rattle.undo_laws.specs.Undone.{IsToldIn}
use Rattle.undo_laws.proofs.SettledLemmas.{undone_settle}
use Rattle.undo_laws.specs.unit_undo.Undoing.{journals_of}
use Rattle.recovery_units.specs.State.{changed_at}
use Rattle.recovery_units.specs.world_laws.Nodes.{FileKeepsImages}
use Rattle.recovery_units.specs.world_laws.Running.{AllFound}
use Rattle.unit_world.specs.directory_model.Files.{file_at, head_at}
use Rattle.unit_world.proofs.directory_model.Places.{file_mapped}
use Rattle.node_units.proofs.DirectImages.{low_from}
use Rattle.node_units.proofs.ImagedVolume.{stands_same}
use Rattle.node_units.proofs.Imaging.{fits, had_journals, imaged, imaged_catalog, imaged_current, imaged_home, imaged_ru, imaged_told, outcome_entry, span_by, told_heads, told_in}
use Rattle.node_units.proofs.RestartImages.{room_left, told_left}
use Rattle.undo_laws.specs.Aborted.{IsAborted, MayAbort}
use Rattle.undo_laws.specs.Undoable.{entries_for, entered_at, positions_for}
use Rattle.undo_laws.specs.Undone.{WaysKeepPrepared}
use Rattle.undo_laws.proofs.AbortLemmas.{aborts_fail, aborts_settle}
use Rattle.undo_laws.proofs.FallenLemmas.{undos_fail}
use Rattle.undo_laws.proofs.UndoableLemmas.{units_are_undoable}
use Rattle.undo_laws.proofs.WayLemmas.{far_off, undos_keep_journal, ways_keep_others}
use Rattle.recovery_units.specs.volume_model.Homes.{HasHome}
use Rattle.recovery_units.specs.volume_model.Volumes.{HasDisk, HasJournal, LeavesVolume}
use Rattle.recovery_units.specs.State.{is_change_by, positions_of}
use Rattle.node_units.proofs.Alike.{next_alike, positions_alike}
use Rattle.node_units.proofs.Earliest.{first_by, first_change, first_either, first_never, first_of_these, is_change_in}
use Rattle.node_units.proofs.Positions.{positions_settled}
use Rattle.node_units.proofs.Relocking.{entries_settled, relocked_undone}
use Rattle.node_units.proofs.Telling.{AreTold, Differ, IsTold, none_found, none_from, shown_absent, unit_shown}

-- The entries of a unit are of its transaction.

abbrev Mine : Id → Id → JournalEntry → Type 0
Mine x tid e = same_id x (serial_in e) ≡ true → tid ≡ tid_in e

one_unit : (r q : RecoveryUnit) → ◌≡◌ {A = Option RecoveryUnit} (Some r) (Some q) → r ≡ q
one_unit r q e = cc

abbrev Has : Id → Id → List RecoveryUnit → Type 0
Has x tid us = (r : RecoveryUnit) → find_unit x us ≡ Some r → tid ≡ r.tid

has_after : (x tid : Id) (e : JournalEntry) (us : List RecoveryUnit) → Mine x tid e → Has x tid us → Has x tid (units_after e us)
has_after x tid (ChangeEntry t by file key before) us mine has r at = go (same_id x by) refl (sym (found_changed x t by us) ∙ at)
  where
    either : same_id x by ≡ true → (o : Option RecoveryUnit) → find_unit by us ≡ o → tid ≡ (unit_or_new t by o).tid
    either same None is = mine same
    either same (Some q) is = has q (ap (λ (y : Id). find_unit y us) (id_is x by same) ∙ is)

    go : (b : Bool) → same_id x by ≡ b → ◌≡◌ {A = Option RecoveryUnit} (if b then Some (with_more 1 (unit_or_new t by (find_unit by us))) else find_unit x us) (Some r) → tid ≡ r.tid
    go true same is = either same (find_unit by us) refl ∙ ap (λ (q : RecoveryUnit). q.tid) (one_unit (with_more 1 (unit_or_new t by (find_unit by us))) r is)
    go false other is = has r is
has_after x tid (PreparedEntry t by) us mine has r at = go (same_id x by) (sym (found_prepared x by us) ∙ at)
  where
    through : (o : Option RecoveryUnit) → find_unit x us ≡ o → option_map is_prepared o ≡ Some r → tid ≡ r.tid
    through None is e = let never : ⊥ = cc in absurd never
    through (Some q) is e = has q is ∙ ap (λ (y : RecoveryUnit). y.tid) (one_unit (is_prepared q) r e)

    go : (b : Bool) → (if b then option_map is_prepared (find_unit x us) else find_unit x us) ≡ Some r → tid ≡ r.tid
    go true is = through (find_unit x us) refl is
    go false is = has r is
has_after x tid (SettledEntry t by outcome moment) us mine has r at = go (same_id x by) (sym (found_settled x by us) ∙ at)
  where
    go : (b : Bool) → ◌≡◌ {A = Option RecoveryUnit} (if b then None else find_unit x us) (Some r) → tid ≡ r.tid
    go true is = let never : ⊥ = cc in absurd never
    go false is = has r is

has_onto : (x tid : Id) (es : List JournalEntry) (us : List RecoveryUnit) → AllByRecursion (Mine x tid) es → Has x tid us → Has x tid (units_onto us es)
has_onto x tid [] us mine has = has
has_onto x tid (e ∷ es) us mine has = has_onto x tid es (units_after e us) mine.1 (has_after x tid e us mine.0 has)

follow_mine : (x : Id) (e : JournalEntry) (es : List JournalEntry) → same_id x (serial_in e) ≡ true → AllByRecursion (MayFollow e) es → AllByRecursion (Mine x (tid_in e)) es
follow_mine x e [] same all = tt
follow_mine x e (o ∷ es) same all =
    (λ own. sym (all.0.transaction (subst (λ (y : Id). same_id y (serial_in e) ≡ true) (id_is x (serial_in o) own) same)), follow_mine x e es same all.1)

mine_as : (x a b : Id) (es : List JournalEntry) → a ≡ b → AllByRecursion (Mine x a) es → AllByRecursion (Mine x b) es
mine_as x a b es is all = subst (λ (y : Id). AllByRecursion (Mine x y) es) is all

none_has : (x tid : Id) (us : List RecoveryUnit) → find_unit x us ≡ None → Has x tid us
none_has x tid us none r at = let never : ⊥ = (let e : ◌≡◌ {A = Option RecoveryUnit} None (Some r) = sym none ∙ at in cc) in absurd never

other_after : (x : Id) (e : JournalEntry) (us : List RecoveryUnit) → same_id x (serial_in e) ≡ false → find_unit x (units_after e us) ≡ find_unit x us
other_after x (ChangeEntry tid serial file key before) us h = found_changed x tid serial us ∙ passed (same_id x serial) _ _ h
other_after x (PreparedEntry tid serial) us h = found_prepared x serial us ∙ passed (same_id x serial) _ _ h
other_after x (SettledEntry tid serial outcome moment) us h = found_settled x serial us ∙ passed (same_id x serial) _ _ h

own_entries : (x : Id) (r : RecoveryUnit) (es : List JournalEntry) (us : List RecoveryUnit) → AreInOrder es → find_unit x us ≡ None → find_unit x (units_onto us es) ≡ Some r → AllByRecursion (Mine x r.tid) es
own_entries x r [] us order none at = tt
own_entries x r (e ∷ es) us order none at = go (same_id x (serial_in e)) refl (λ gone. own_entries x r es (units_after e us) order.1 gone at)
  where
    go : (b : Bool) → same_id x (serial_in e) ≡ b → (find_unit x (units_after e us) ≡ None → AllByRecursion (Mine x r.tid) es) → AllByRecursion (Mine x r.tid) (e ∷ es)
    go true same more =
        let later = follow_mine x e es same order.0 in
        let is : tid_in e ≡ r.tid = has_onto x (tid_in e) (e ∷ es) us (λ own. refl, later) (none_has x (tid_in e) us none) r at in
        (λ own. sym is, mine_as x (tid_in e) r.tid es is later)
    go false other more = (λ own. absurd (both_ways _ other own), more (other_after x e us other ∙ none))

-- The units that are left once one is settled.

units_settled : (tid x : Id) (outcome : model.Outcome) (moment : ℕ) (j : Journal) → is_unit x j ≡ true → units_in (with_settled tid x outcome moment j).entries ≡ without_unit x (units_in j.entries)
units_settled tid x outcome moment j unit = go (find_unit x (units_in j.entries)) unit
  where
    e : JournalEntry
    e = SettledEntry tid x outcome moment

    go : (o : Option RecoveryUnit) → is_some o ≡ true → units_in (trimmed (elim o [ Some u ↦ with_entries (e ∷ []) j | None ↦ j ])).entries ≡ without_unit x (units_in j.entries)
    go (Some u) is = (trim_keeps_units (with_entries (e ∷ []) j)).units ∙ units_follow j.entries (e ∷ [])
    go None is = let never : ⊥ = cc in absurd never

abbrev pub serials_told : List UnitTold → List Id
serials_told [] = []
serials_told (u ∷ us) = u.serial ∷ serials_told us

-- where the earliest change of these begins
abbrev pub earliest_told : List UnitTold → Option ℕ
earliest_told [] = None
earliest_told (u ∷ us) = earlier (Some u.first) (earliest_told us)

earliest_is : (us : List UnitTold) (p : ℕ) (es : List JournalEntry) → AllByRecursion (IsTold (λ (x : Id). first_by (is_change_by x) p es)) us → earliest_told us ≡ first_by (is_change_in (serials_told us)) p es
earliest_is [] p es all = sym (first_never p es)
earliest_is (u ∷ us) p es all =
    (λ i. earlier (sym all.0.first i) (earliest_is us p es all.1 i)) ∙ sym (first_either (is_change_by u.serial) (is_change_in (serials_told us)) p es)

in_told : (x : Id) (us : List UnitTold) → is_some (find_unit x (map unit_shown us)) ≡ true → In x (serials_told us)
in_told x [] is = let never : ⊥ = cc in absurd never
in_told x (u ∷ us) is = go (same_id x u.serial) refl is (in_told x us)
  where
    go : (b : Bool) → same_id x u.serial ≡ b → is_some (if b then Some (unit_shown u) else find_unit x (map unit_shown us)) ≡ true → (is_some (find_unit x (map unit_shown us)) ≡ true → In x (serials_told us)) → In x (u.serial ∷ serials_told us)
    go true same is more = inl (id_is x u.serial same)
    go false other is more = inr (more is)

-- each of them is found
pub each_found : (us : List UnitTold) → Differ us → (P : Id → Type 0) → ((x : Id) → is_some (find_unit x (map unit_shown us)) ≡ true → P x) → Each P (serials_told us)
each_found [] d P f = tt
each_found (u ∷ us) d P f = (
  f u.serial (ap is_some (picked (same_id u.serial u.serial) (Some (unit_shown u)) (find_unit u.serial (map unit_shown us)) (id_itself u.serial))),
  each_found us d.1 P (λ x is. f x (behind x (same_id x u.serial) is)),
)
  where
    behind : (x : Id) (b : Bool) → is_some (find_unit x (map unit_shown us)) ≡ true → is_some (if b then Some (unit_shown u) else find_unit x (map unit_shown us)) ≡ true
    behind x true is = refl
    behind x false is = is

-- Contents of one length.

length_with : (e : Option Entry) (s : Span) (c : List (List ℕ)) → 0 < s.blocks → length (content_with e s c) ≡ length c
length_with None s c some = refl
length_with (Some e) s c some = length-set _ 65 _ ∙ (keeps_others (spelling e) c s s.end some).size

length_made : (h : Home) (r : Span) (e : Option Entry) (s : Span) (c : List (List ℕ)) → 0 < s.blocks → length (with_front h r (content_with e s c)) ≡ length c
length_made h r e s c some = length-set _ 65 _ ∙ length-set _ 0 _ ∙ length_with e s c some

same_content : (x y : List (List ℕ)) → ◌≡◌ {A = Option (List (List ℕ))} (Some x) (Some y) → x ≡ y
same_content x y e = cc

some_first : (ps : List ℕ) (q : ℕ) → first_of ps ≡ Some q → has_changes ps ≡ true
some_first [] q is = let never : ⊥ = cc in absurd never
some_first (p ∷ ps) q is = refl

-- the moment of the next settlement is behind those before it
pub moment_after : (m : Node) (most clock : ℕ) → m.clock ≡ clock → clock ≤ most → m.durable.greatest ≤ most → (m.durable.greatest ≤ next_moment m) × (next_moment m ≤ most + 1)
moment_after m most clock same late before = go (nat_le m.clock (m.durable.greatest + 1)) refl
  where
    go : (b : Bool) → nat_le m.clock (m.durable.greatest + 1) ≡ b → (m.durable.greatest ≤ (if b then m.durable.greatest + 1 else m.clock)) × ((if b then m.durable.greatest + 1 else m.clock) ≤ most + 1)
    go true is = (omega arith, omega (arith, before))
    go false is = let far = leb-false m.clock (m.durable.greatest + 1) is in (omega (arith, far), omega (arith, same, late))

-- The next of the units.

one_told : (u w : UnitTold) → ◌≡◌ {A = Option UnitTold} (Some u) (Some w) → u ≡ w
one_told u w e = cc

never_told : (u : UnitTold) → ◌≡◌ {A = Option UnitTold} None (Some u) → ⊥
never_told u e = let never : ⊥ = cc in never

-- It is one of them,
pub next_holds : (P : UnitTold → Type 0) (us : List UnitTold) (u : UnitTold) → next_of us ≡ Some u → AllByRecursion P us → P u
next_holds P [] u at all = absurd (never_told u at)
next_holds P (w ∷ us) u at all = go w.prepared at (next_holds P us u)
  where
    go : (b : Bool) → (if b then next_of us else Some w) ≡ Some u → (next_of us ≡ Some u → AllByRecursion P us → P u) → P u
    go true is rest = rest is all.1
    go false is rest = subst P (one_told w u is) all.0

pub next_active : (us : List UnitTold) (u : UnitTold) → next_of us ≡ Some u → u.prepared ≡ false
next_active [] u at = absurd (never_told u at)
next_active (w ∷ us) u at = go w.prepared refl at (next_active us u)
  where
    go : (b : Bool) → w.prepared ≡ b → (if b then next_of us else Some w) ≡ Some u → (next_of us ≡ Some u → u.prepared ≡ false) → u.prepared ≡ false
    go true is at rest = rest at
    go false is at rest = ap (λ (x : UnitTold). x.prepared) (sym (one_told w u at)) ∙ is

-- and the others stay.
pub all_next : (P : UnitTold → Type 0) (us : List UnitTold) → AllByRecursion P us → AllByRecursion P (but_next us)
all_next P [] all = tt
all_next P (w ∷ us) all = go w.prepared (all_next P us all.1)
  where
    go : (b : Bool) → AllByRecursion P (but_next us) → AllByRecursion P (if b then w ∷ but_next us else us)
    go true rest = (all.0, rest)
    go false rest = all.1

pub long_next : (us : List UnitTold) (u : UnitTold) → next_of us ≡ Some u → length us ≡ suc (length (but_next us))
long_next [] u at = absurd (never_told u at)
long_next (w ∷ us) u at = go w.prepared at (long_next us u)
  where
    go : (b : Bool) → (if b then next_of us else Some w) ≡ Some u → (next_of us ≡ Some u → length us ≡ suc (length (but_next us))) → suc (length us) ≡ suc (length (if b then w ∷ but_next us else us))
    go true at rest = ap suc (rest at)
    go false at rest = refl

next_apart : (us : List UnitTold) (u : UnitTold) (x : Id) → next_of us ≡ Some u → find_told x us ≡ None → same_id x u.serial ≡ false
next_apart [] u x at none = absurd (never_told u at)
next_apart (w ∷ us) u x at none = let parts = none_found (same_id x w.serial) w (find_told x us) none in go w.prepared at (λ later. next_apart us u x later parts.1) parts.0
  where
    go : (b : Bool) → (if b then next_of us else Some w) ≡ Some u → (next_of us ≡ Some u → same_id x u.serial ≡ false) → same_id x w.serial ≡ false → same_id x u.serial ≡ false
    go true at rest other = rest at
    go false at rest other = ap (λ (y : UnitTold). same_id x y.serial) (sym (one_told w u at)) ∙ other

none_next : (us : List UnitTold) (x : Id) → find_told x us ≡ None → find_told x (but_next us) ≡ None
none_next [] x none = refl
none_next (w ∷ us) x none = let parts = none_found (same_id x w.serial) w (find_told x us) none in go w.prepared (none_next us x parts.1) parts.0 parts.1
  where
    go : (b : Bool) → find_told x (but_next us) ≡ None → same_id x w.serial ≡ false → find_told x us ≡ None → find_told x (if b then w ∷ but_next us else us) ≡ None
    go true rest other none = none_from (same_id x w.serial) w (find_told x (but_next us)) other rest
    go false rest other none = none

differ_next : (us : List UnitTold) → Differ us → Differ (but_next us)
differ_next [] d = tt
differ_next (w ∷ us) d = go w.prepared (differ_next us d.1)
  where
    go : (b : Bool) → Differ (but_next us) → Differ (if b then w ∷ but_next us else us)
    go true rest = (none_next us w.serial d.0, rest)
    go false rest = d.1

absent_next : (us : List UnitTold) (u : UnitTold) → Differ us → next_of us ≡ Some u → find_told u.serial (but_next us) ≡ None
absent_next [] u d at = absurd (never_told u at)
absent_next (w ∷ us) u d at = go w.prepared at (λ later. absent_next us u d.1 later)
  where
    go : (b : Bool) → (if b then next_of us else Some w) ≡ Some u → (next_of us ≡ Some u → find_told u.serial (but_next us) ≡ None) → find_told u.serial (if b then w ∷ but_next us else us) ≡ None
    go true at rest = none_from (same_id u.serial w.serial) w (find_told u.serial (but_next us)) (id_other w.serial u.serial (next_apart us u w.serial at d.0)) (rest at)
    go false at rest = subst (λ (y : UnitTold). find_told y.serial us ≡ None) (one_told w u at) d.0

found_next : (us : List UnitTold) (u : UnitTold) → Differ us → next_of us ≡ Some u → find_unit u.serial (map unit_shown us) ≡ Some (unit_shown u)
found_next [] u d at = absurd (never_told u at)
found_next (w ∷ us) u d at = go w.prepared at (λ later. found_next us u d.1 later)
  where
    go : (b : Bool) → (if b then next_of us else Some w) ≡ Some u → (next_of us ≡ Some u → find_unit u.serial (map unit_shown us) ≡ Some (unit_shown u)) → find_unit u.serial (map unit_shown (w ∷ us)) ≡ Some (unit_shown u)
    go true at rest = passed (same_id u.serial w.serial) (Some (unit_shown w)) (find_unit u.serial (map unit_shown us)) (id_other w.serial u.serial (next_apart us u w.serial at d.0)) ∙ rest at
    go false at rest =
        let is = one_told w u at in
        picked (same_id u.serial w.serial) (Some (unit_shown w)) (find_unit u.serial (map unit_shown us)) (subst (λ (y : UnitTold). same_id y.serial w.serial ≡ true) is (id_itself w.serial)) ∙ ap (λ (y : UnitTold). Some (unit_shown y)) is

shown_next : (us : List UnitTold) (u : UnitTold) → Differ us → next_of us ≡ Some u → map unit_shown (but_next us) ≡ without_unit u.serial (map unit_shown us)
shown_next [] u d at = absurd (never_told u at)
shown_next (w ∷ us) u d at = go w.prepared at (λ later. shown_next us u d.1 later)
  where
    go : (b : Bool) → (if b then next_of us else Some w) ≡ Some u → (next_of us ≡ Some u → map unit_shown (but_next us) ≡ without_unit u.serial (map unit_shown us)) →
        map unit_shown (if b then w ∷ but_next us else us) ≡ without_unit u.serial (map unit_shown (w ∷ us))
    go true at rest =
        ap (λ (rs : List RecoveryUnit). unit_shown w ∷ rs) (rest at)
        ∙ sym (passed (same_id u.serial w.serial) (without_unit u.serial (map unit_shown us)) (unit_shown w ∷ without_unit u.serial (map unit_shown us)) (id_other w.serial u.serial (next_apart us u w.serial at d.0)))
    go false at rest =
        let is = one_told w u at in
        sym (shown_absent u.serial us (subst (λ (y : UnitTold). find_told y.serial us ≡ None) is d.0))
        ∙ sym (picked (same_id u.serial w.serial) (without_unit u.serial (map unit_shown us)) (unit_shown w ∷ without_unit u.serial (map unit_shown us)) (subst (λ (y : UnitTold). same_id y.serial w.serial ≡ true) is (id_itself w.serial)))

-- the units that a restart undoes, from it on
pub active_next : (us : List UnitTold) (u : UnitTold) → next_of us ≡ Some u → active_units (map unit_shown us) ≡ unit_shown u ∷ active_units (map unit_shown (but_next us))
active_next [] u at = absurd (never_told u at)
active_next (w ∷ us) u at = go w.prepared refl at (λ later. active_next us u later)
  where
    go : (b : Bool) → w.prepared ≡ b → (if b then next_of us else Some w) ≡ Some u → (next_of us ≡ Some u → active_units (map unit_shown us) ≡ unit_shown u ∷ active_units (map unit_shown (but_next us))) →
        (if b then active_units (map unit_shown us) else unit_shown w ∷ active_units (map unit_shown us)) ≡ unit_shown u ∷ active_units (map unit_shown (if b then w ∷ but_next us else us))
    go true is at rest = rest at ∙ ap (λ (rs : List RecoveryUnit). unit_shown u ∷ rs) (sym (ap (λ (b : Bool). if b then active_units (map unit_shown (but_next us)) else unit_shown w ∷ active_units (map unit_shown (but_next us))) is))
    go false is at rest = ap (λ (y : UnitTold). unit_shown y ∷ active_units (map unit_shown us)) (one_told w u at)

pub active_none : (us : List UnitTold) → next_of us ≡ None → (active_units (map unit_shown us) ≡ []) × AllByRecursion (λ (u : UnitTold). u.prepared ≡ true) us
active_none [] none = (refl, tt)
active_none (w ∷ us) none = go w.prepared refl none (active_none us)
  where
    go : (b : Bool) → w.prepared ≡ b → (if b then next_of us else Some w) ≡ None → (next_of us ≡ None → (active_units (map unit_shown us) ≡ []) × AllByRecursion (λ (u : UnitTold). u.prepared ≡ true) us) →
        ((if b then active_units (map unit_shown us) else unit_shown w ∷ active_units (map unit_shown us)) ≡ []) × ((w.prepared ≡ true) × AllByRecursion (λ (u : UnitTold). u.prepared ≡ true) us)
    go true is none rest = let r = rest none in (r.0, (is, r.1))
    go false is none rest = let never : ⊥ = cc in absurd never

pub each_next : (P : Id → Type 0) (us : List UnitTold) → Each P (serials_told us) → Each P (serials_told (but_next us))
each_next P [] all = tt
each_next P (w ∷ us) all = go w.prepared (each_next P us all.1)
  where
    go : (b : Bool) → Each P (serials_told (but_next us)) → Each P (serials_told (if b then w ∷ but_next us else us))
    go true rest = (all.0, rest)
    go false rest = all.1

owed_some : (us : List UnitTold) (u : UnitTold) → next_of us ≡ Some u → 48 ≤ owed (map unit_shown us)
owed_some [] u at = absurd (never_told u at)
owed_some (w ∷ us) u at = go w.prepared
  where
    go : (b : Bool) → 48 ≤ (if b then 48 else 96) + owed (map unit_shown us)
    go true = omega arith
    go false = omega arith

-- What a restart takes up.

-- what a node has while it is up is that of branches with prepared records
pub record IsOfPrepared (n : Node) : Type 0 where
  pub branches : (b : Branch) → In b n.volatile.branches → (r : LogRecord) × In r (prepared_of (records_in n.durable.log)) × (b.key.serial ≡ r.serial)
  pub locks : AllByRecursion (λ (l : Lock). (r : LogRecord) × In r (prepared_of (records_in n.durable.log)) × (l.by ≡ r.serial)) n.volatile.locks

cut_nothing : (k : table.Key) (bs : List Branch) → ((b : Branch) → In b bs → same_id b.key.serial k.serial ≡ false) → cut k bs ≡ bs
cut_nothing k [] f = refl
cut_nothing k (b ∷ bs) f = elim (told_key b.key k) [
  | inl q ↦ absurd (both_ways _ (f b (inl refl)) (subst (λ (j : table.Key). same_id b.key.serial j.serial ≡ true) q.1 (id_itself b.key.serial)))
  | inr q ↦ rw (q.0) (ap (λ xs. b ∷ xs) (cut_nothing k bs (λ c i. f c (inr i))))
]

released_nothing : (x : Id) (ls : List Lock) → AllByRecursion (λ (l : Lock). same_id x l.by ≡ false) ls → released x ls ≡ ls
released_nothing x [] h = refl
released_nothing x (l ∷ ls) h = rw h.0 (ap (λ xs. l ∷ xs) (released_nothing x ls h.1))

all_locks : (P Q : Lock → Type 0) (ls : List Lock) → ((l : Lock) → P l → Q l) → AllByRecursion P ls → AllByRecursion Q ls
all_locks P Q [] f all = tt
all_locks P Q (l ∷ ls) f all = (f l all.0, all_locks P Q ls f all.1)

-- the node with its boot counted once more: the laws of a boot tell of it
abbrev pub counted : Node → Node
counted m = record m { durable = record m.durable { boot = m.durable.boot + 1 } }

abbrev pub nobody : Shared
nobody = record { labels = []; in_use = false; wire = []; accepted = []; read_only = [] }

abbrev pub rows_for : List RecoveryUnit → Node → List Row
rows_for us m = table_rows (undo_all (map unit_key us)) nobody m

first_kept : (rs : List Row) (m : Node) → AreKept rs m → IsKeptDisk m
first_kept [] m k = k
first_kept (r ∷ rs) m k = k.0

log_back : (m : Node) → IsLogInOrder (counted m) → AllByRecursion (λ (r : LogRecord). IsReached m r.serial) (records_in m.durable.log) → IsLogInOrder m
log_back m l reached = record {
  distinct = l.distinct;
  reached = reached;
  prepared_within = l.prepared_within;
  committed_within = l.committed_within;
  prepared = l.prepared;
  active = l.active;
  transactions = l.transactions;
  unsettled = l.unsettled;
  few = l.few;
  slots = l.slots;
}

-- A volume is what a node left of it, the first units of which that are not prepared were undone. These are left; no moment is later than this one.
pub record Stage (clock most disk : ℕ) (n : Node) (us : List UnitTold) (v : VolumeState) (m : Node) : Type 0 where
  pub content : List (List ℕ)
  pub idle : IsIdle v.store
  pub told : v.store.current ≡ Some content
  pub tells : TellsCatalog v.catalog content
  pub sound : IsSound m.name m.blocks v.catalog
  pub long : length v.catalog.heads ≡ 64
  pub size : length content + 518 ≡ m.blocks
  pub blocks : m.blocks ≡ disk
  pub leaves : LeavesVolume content v.catalog m
  pub same : m.clock ≡ clock
  pub volatile : m.volatile ≡ n.volatile
  pub log : m.durable.log ≡ n.durable.log
  pub units : AreTold m.durable.units.first m.durable.units.entries us
  pub moment : v.catalog.home.greatest_moment.0 ≤ most
  pub low : v.catalog.ru.end + 48 * length us ≤ 2 ^ 62
  pub images : ImagesAreLow (48 * length us) v.catalog.heads
  pub rows : AreKept (rows_for (active_units (map unit_shown us)) (counted m)) (counted m)

-- it stands so on a volume that is the same but for reads
pub stage_read : (clock most disk : ℕ) (n : Node) (us : List UnitTold) (v w : VolumeState) (m : Node) → SameVolume v w → Stage clock most disk n us v m → Stage clock most disk n us w m
stage_read clock most disk n us v w m same s = subst (λ (x : VolumeState). Stage clock most disk n us x m) (sym same) (record {
  content = s.content;
  idle = idle_read v.store (as_read_by w.store v.store) refl s.idle;
  told = s.told;
  tells = s.tells;
  sound = s.sound;
  long = s.long;
  size = s.size;
  blocks = s.blocks;
  leaves = s.leaves;
  same = s.same;
  volatile = s.volatile;
  log = s.log;
  units = s.units;
  moment = s.moment;
  low = s.low;
  images = s.images;
  rows = s.rows;
})

-- the changes of these branches begin here in the journal of a node
abbrev pub AreWhere : (Id → List ℕ) → Node → List UnitTold → Type 0
AreWhere f m us = AllByRecursion (λ (u : UnitTold). f u.serial ≡ positions_of u.serial m.durable.units.first m.durable.units.entries) us

module _ (clock most size : ℕ) (n : Node) (us : List UnitTold) (u : UnitTold) (v : VolumeState) (m : Node) (is : Stage clock most size n us v m) (at : next_of us ≡ Some u) (late : clock ≤ most) (far : most < 24113056319999) (prepared : IsOfPrepared n) where
  abbrev k : table.Key
  k = unit_key (unit_shown u)

  abbrev act : table.Act
  act = UndoesUnit k

  abbrev c : Settlement
  c = settlement k model.Abort model.SegFail (next_moment m)

  abbrev next : Node
  next = acted (Tables act (next_moment m)) m

  abbrev a : List (List ℕ)
  a = is.content

  abbrev es : List Entry
  es = is.leaves.journal.entries

  abbrev rest : List UnitTold
  rest = but_next us

  holds : Holds v
  holds = subst (λ o. IfSome o (TellsCatalog v.catalog)) (sym is.told) is.tells

  told : IsTold (λ (x : Id). first_by (is_change_by x) m.durable.units.first m.durable.units.entries) u
  told = next_holds (IsTold (λ (x : Id). first_by (is_change_by x) m.durable.units.first m.durable.units.entries)) us u at is.units.each

  pub found : find_unit u.serial (units_in m.durable.units.entries) ≡ Some (unit_shown u)
  found = ap (find_unit u.serial) (sym is.units.units) ∙ found_next us u is.units.differ at

  unit : is_unit u.serial m.durable.units ≡ true
  unit = ap is_some found

  pub unsettled : is_settled_in u.serial m.durable.units.entries ≡ false
  unsettled = units_are_unsettled m.durable.units.entries u.serial is.leaves.order.order unit

  moments : (m.durable.greatest ≤ next_moment m) × (next_moment m ≤ most + 1)
  moments = moment_after m most clock is.same late (let was = is.leaves.home.greatest in let less = is.moment in omega (arith, was, less))

  may_settle : MaySettle m c
  may_settle = record { unsettled = unsettled; transaction = own_entries u.serial (unit_shown u) m.durable.units.entries [] is.leaves.order.order refl found; later = moments.0 }

  -- It is none of those that are prepared.

  active : u.prepared ≡ false
  active = next_active us u at

  apart : (r : LogRecord) → In r (prepared_of (records_in n.durable.log)) → same_id r.serial u.serial ≡ false
  apart r i = false_from_ne_true (same_id r.serial u.serial) (λ same. both_ways _ active
      (is.leaves.told.active r (unit_shown u) (subst (λ ss. In r (prepared_of (records_in ss))) (sym is.log) i) (ap (λ (x : Id). find_unit x (units_in m.durable.units.entries)) (id_is r.serial u.serial same) ∙ found)).0)

  volatile_next : next.volatile ≡ n.volatile
  volatile_next =
      let bs : cut k m.volatile.branches ≡ m.volatile.branches = subst (λ (x : Volatile). cut k x.branches ≡ x.branches) (sym is.volatile)
      (cut_nothing k n.volatile.branches (λ b i. let r = prepared.branches b i in subst (λ (x : Id). same_id x u.serial ≡ false) (sym r.2) (apart r.0 r.1))) in
      let ls : released u.serial m.volatile.locks ≡ m.volatile.locks = subst (λ (x : Volatile). released u.serial x.locks ≡ x.locks) (sym is.volatile)
      (released_nothing u.serial n.volatile.locks (all_locks (λ (l : Lock). (r : LogRecord) × In r (prepared_of (records_in n.durable.log)) × (l.by ≡ r.serial)) (λ (l : Lock). same_id u.serial l.by ≡ false) n.volatile.locks
      (λ l r. id_other l.by u.serial (subst (λ (x : Id). same_id x u.serial ≡ false) (sym r.2) (apart r.0 r.1))) prepared.locks)) in
      (λ i. record m.volatile { branches = bs i; locks = ls i }) ∙ is.volatile

  ways : WaysKeepPrepared u.serial a v.catalog m
  ways = ways_keep_others u.serial a v.catalog m is.leaves (λ p. both_ways _ active (ap (λ (q : RecoveryUnit). q.prepared) (one_unit (unit_shown u) p.0 (sym found ∙ p.1)) ∙ p.2))

  rows_next : AreKept (rows_for (active_units (map unit_shown rest)) (counted next)) (counted next)
  rows_next = (subst (λ (rs : List RecoveryUnit). AreKept (rows_for rs (counted m)) (counted m)) (active_next us u at) is.rows).1

  log_next : IsLogInOrder next
  log_next = log_back next (first_kept (rows_for (active_units (map unit_shown rest)) (counted next)) (counted next) rows_next).log is.leaves.told.reached

  unsettled_record : (r : LogRecord) → In r (prepared_of (records_in n.durable.log)) → is_settled_in r.serial m.durable.units.entries ≡ false
  unsettled_record r i = each_in (λ (q : LogRecord). is_settled_in q.serial m.durable.units.entries ≡ false) (prepared_of (records_in m.durable.log)) is.leaves.told.unsettled r (subst (λ ss. In r (prepared_of (records_in ss))) (sym is.log) i)

  -- what the prepared branches hold stays
  pub relocked_next : (rs : List LogRecord) → ((r : LogRecord) → In r rs → In r (prepared_of (records_in n.durable.log))) → (ls : List Lock) → relocked rs next.durable ls ≡ relocked rs m.durable ls
  relocked_next [] there ls = refl
  relocked_next (r ∷ rs) there ls =
      relocked_next rs (λ q i. there q (inr i)) (relocked_by r.serial next.durable.directory next.durable.units.entries ls)
      ∙ ap (relocked rs m.durable) (relocked_undone m.durable (first_kept (rows_for (active_units (map unit_shown us)) (counted m)) (counted m) is.rows).filed.can r.serial (unsettled_record r (there r (inl refl))) c refl (apart r (there r (inl refl))) next.durable.units ls
      (entries_settled r.serial u.tid u.serial model.Abort c.moment m.durable.units (unsettled_record r (there r (inl refl))) (apart r (there r (inl refl)))))

  -- The changes of the unit.

  pub entered : entered_at u.serial v.catalog es ≡ positions_of u.serial m.durable.units.first m.durable.units.entries
  entered =
      positions_alike v.catalog.heads u.serial v.catalog.ru.first m.durable.units.entries es is.leaves.journal.alike is.leaves.journal.is.each
      ∙ ap (λ (p : ℕ). positions_of u.serial p m.durable.units.entries) is.leaves.journal.first

  pub positions : positions_for m u.serial v.catalog es ≡ entered_at u.serial v.catalog es
  positions = picked (is_unit u.serial m.durable.units) (entered_at u.serial v.catalog es) [] unit

  changes : has_changes (entered_at u.serial v.catalog es) ≡ true
  changes = some_first (entered_at u.serial v.catalog es) u.first (ap first_of entered ∙ first_change u.serial m.durable.units.first m.durable.units.entries ∙ told.first)

  -- The units that are left.

  absent : find_told u.serial rest ≡ None
  absent = absent_next us u is.units.differ at

  left_in : map unit_shown rest ≡ units_in next.durable.units.entries
  left_in = shown_next us u is.units.differ at ∙ ap (without_unit u.serial) is.units.units ∙ sym (units_settled u.tid u.serial model.Abort c.moment m.durable.units unit)

  order_next : IsJournalInOrder next.durable
  order_next = tables_keep_order m.durable m.volatile act (next_moment m) is.leaves.order may_settle

  stays : (w : UnitTold) → IsTold (λ (x : Id). first_by (is_change_by x) m.durable.units.first m.durable.units.entries) w → same_id w.serial u.serial ≡ false → is_settled_in w.serial m.durable.units.entries ≡ false →
      IsTold (λ (x : Id). first_by (is_change_by x) next.durable.units.first next.durable.units.entries) w
  stays w k other off = record {
    some = k.some;
    first =
        sym (first_change w.serial next.durable.units.first next.durable.units.entries)
        ∙ ap first_of (positions_settled w.serial u.tid u.serial model.Abort c.moment m.durable.units off other)
        ∙ first_change w.serial m.durable.units.first m.durable.units.entries ∙ k.first;
    tid = k.tid;
    serial = k.serial;
  }

  others : (ws : List UnitTold) → find_told u.serial ws ≡ None → AllByRecursion (IsTold (λ (x : Id). first_by (is_change_by x) m.durable.units.first m.durable.units.entries)) ws →
      Each (λ (x : Id). is_settled_in x m.durable.units.entries ≡ false) (serials_told ws) → AllByRecursion (IsTold (λ (x : Id). first_by (is_change_by x) next.durable.units.first next.durable.units.entries)) ws
  others [] none all off = tt
  others (w ∷ ws) none all off =
      let parts = none_found (same_id u.serial w.serial) w (find_told u.serial ws) none in
      (stays w all.0 (id_other u.serial w.serial parts.0) off.0, others ws parts.1 all.1 off.1)

  open_now : Each (λ (x : Id). is_settled_in x m.durable.units.entries ≡ false) (serials_told rest)
  open_now = each_next (λ (x : Id). is_settled_in x m.durable.units.entries ≡ false) us (each_found us is.units.differ (λ (x : Id). is_settled_in x m.durable.units.entries ≡ false)
      (λ x k. units_are_unsettled m.durable.units.entries x is.leaves.order.order (ap (λ (rs : List RecoveryUnit). is_some (find_unit x rs)) (sym is.units.units) ∙ k)))

  -- and where their changes begin
  stay : (ws : List UnitTold) → find_told u.serial ws ≡ None → Each (λ (x : Id). is_settled_in x m.durable.units.entries ≡ false) (serials_told ws) → AreWhere (λ (x : Id). positions_of x m.durable.units.first m.durable.units.entries) next ws
  stay [] none off = tt
  stay (w ∷ ws) none off =
      let parts = none_found (same_id u.serial w.serial) w (find_told u.serial ws) none in
      (sym (positions_settled w.serial u.tid u.serial model.Abort c.moment m.durable.units off.0 (id_other u.serial w.serial parts.0)), stay ws parts.1 off.1)

  pub stay_next : AreWhere (λ (x : Id). positions_of x m.durable.units.first m.durable.units.entries) next rest
  stay_next = stay rest absent open_now

  -- The files that they changed stay so.

  changed_still : (x : Id) → same_id x u.serial ≡ false → (f : ℕ) → changed_at x (file_at next.durable.directory f) ≡ changed_at x (file_at m.durable.directory f)
  changed_still x other f = ap (changed_at x) (file_mapped (settled_file c) m.durable.directory f) ∙ go (file_at m.durable.directory f)
    where
      go : (o : Option File) → changed_at x (option_map (settled_file c) o) ≡ changed_at x o
      go (Some file) = ap (λ (cs : List Change). elim cs [ [] ↦ false | d ∷ ds ↦ true ]) (by_settled x u.serial model.Abort c.moment file.history other)
      go None = refl

  still : (ws : List UnitTold) → find_told u.serial ws ≡ None → AllByRecursion (λ (w : UnitTold). (f : ℕ) → changed_at w.serial (file_at next.durable.directory f) ≡ changed_at w.serial (file_at m.durable.directory f)) ws
  still [] none = tt
  still (w ∷ ws) none = let parts = none_found (same_id u.serial w.serial) w (find_told u.serial ws) none in (changed_still w.serial (id_other u.serial w.serial parts.0), still ws parts.1)

  pub still_next : AllByRecursion (λ (w : UnitTold). (f : ℕ) → changed_at w.serial (file_at next.durable.directory f) ≡ changed_at w.serial (file_at m.durable.directory f)) rest
  still_next = still rest absent

  each_left : AllByRecursion (IsTold (λ (x : Id). first_by (is_change_by x) m.durable.units.first m.durable.units.entries)) rest
  each_left = all_next (IsTold (λ (x : Id). first_by (is_change_by x) m.durable.units.first m.durable.units.entries)) us is.units.each

  units_next : AreTold next.durable.units.first next.durable.units.entries rest
  units_next = record { units = left_in; differ = differ_next us is.units.differ; each = others rest absent each_left open_now }

  first_next : unwrap_or (earliest_told rest) (end_of next.durable.units) ≡ next.durable.units.first
  first_next =
      ap (λ (o : Option ℕ). unwrap_or o (end_of next.durable.units)) (earliest_is rest next.durable.units.first next.durable.units.entries units_next.each)
      ∙ first_of_these next.durable.units (serials_told rest) (λ x k. in_told x rest (ap (λ (rs : List RecoveryUnit). is_some (find_unit x rs)) left_in ∙ k))
      (each_found rest (differ_next us is.units.differ) (λ (x : Id). is_settled_in x next.durable.units.entries ≡ false)
      (λ x k. units_are_unsettled next.durable.units.entries x order_next.order (ap (λ (rs : List RecoveryUnit). is_some (find_unit x rs)) (sym left_in) ∙ k)))
      (settles_unit u.tid u.serial model.Abort c.moment m.durable.units).begins

  may_at : v.store.disk.size ≡ m.blocks → MayAbort m act (next_moment m) c a v
  may_at disk = record { told = is.told; holds = holds; sound = is.sound; long = is.long; size = is.size; disk = disk; is = record { settles = refl; abort = refl; may = may_settle; told = log_next }; log = refl }

  -- where the disk goes down on the way of the undo
  pub fails_on_the_way : (ps : List ℕ) → ps ≡ entered_at u.serial v.catalog es → (way : Option Act) (w : VolumeState) → FailsOnTheWay ps v w → HasDisk (fallen way m) w.store.disk
  fails_on_the_way ps is_at way w fails = undos_fail u.serial a v.catalog m way is.leaves ways is.sound is.size w.store.disk
      (subst (λ (qs : List ℕ). FailsOnTheWay qs v w) (is_at ∙ sym positions) fails u.serial a m.durable.directory (entries_for m u.serial v.catalog es) (units_are_undoable a v m u.serial is.leaves is.told holds))

  -- The settlement that was made.

  module _ (ps : List ℕ) (is_at : ps ≡ entered_at u.serial v.catalog es) (files : List Bool) (says : (f : ℕ) → changed_at u.serial (file_at m.durable.directory f) ≡ slice_index_or files f false) (tid : Tid) (serial : Serial) (tid_is : tid_of tid ≡ u.tid) (serial_is : serial_of serial ≡ u.serial) (moment : ℕ) (moment_is : moment ≡ settling.next_moment clock v.catalog.home)
      (left : List (Option OpenUnit)) (earliest_is_left : earliest left ≡ earliest_told rest) (mid : VolumeState) (goes : GoesOn v mid) (undoes : Undoes ps v mid) where
    undoes_for : Undoes (positions_for m u.serial v.catalog es) v mid
    undoes_for = subst (λ (qs : List ℕ). Undoes qs v mid) (is_at ∙ sym positions) undoes

    undone : IsUndone u.serial a v.catalog.heads m.durable.directory mid
    undone = undoes_for u.serial a m.durable.directory (entries_for m u.serial v.catalog es) (units_are_undoable a v m u.serial is.leaves is.told holds)

    disk_is : v.store.disk.size ≡ m.blocks
    disk_is = sym goes.quiet.size ∙ sym undone.way.size ∙ is.size

    may : MayAbort m act (next_moment m) c a v
    may = may_at disk_is

    -- where it goes down before the last group
    pub fails_before : (way : Option Act) (w : VolumeState) → LeavesOld mid w.store.disk → HasDisk (fallen way m) w.store.disk
    fails_before way w old = aborts_fail.before a m act (next_moment m) c way v mid w is.leaves ways may goes undoes_for old

    ru : mid.catalog.ru ≡ v.catalog.ru
    ru = ap (λ (k : Catalog). k.ru) goes.catalog

    home : mid.catalog.home ≡ v.catalog.home
    home = ap (λ (k : Catalog). k.home) goes.catalog

    next_is : moment ≡ next_moment m
    next_is = moment_is ∙ next_alike clock v.catalog.home m is.leaves.home is.same

    module _ (made : VolumeState) (makes : MakesAbort (failed_at ps files tid serial moment left) mid made) where
      abbrev entry : Entry
      entry = settled_entry u.tid u.serial model.Abort c.moment

      flag : has_changes ps ≡ is_unit u.serial m.durable.units
      flag = ap has_changes is_at ∙ changes ∙ sym unit

      abbrev img : VolumeState
      img = makes.mid

      made_at : MakesSettlement tid serial (ending.Abort reason.SegFail) c.moment (entry_if (has_changes ps) (settled_entry (tid_of tid) (serial_of serial) model.Abort c.moment)) left img made
      made_at = subst (λ (k : ℕ). MakesSettlement tid serial (ending.Abort reason.SegFail) k (entry_if (has_changes ps) (settled_entry (tid_of tid) (serial_of serial) model.Abort k)) left img made) next_is makes.settles

      made_so : MakesSettlement tid serial (ending.Abort reason.SegFail) c.moment (entry_if (is_unit u.serial m.durable.units) entry) left img made
      made_so = subst (λ e. MakesSettlement tid serial (ending.Abort reason.SegFail) c.moment e left img made) (λ i. entry_if (flag i) (settled_entry (tid_is i) (serial_is i) model.Abort c.moment)) made_at

      -- its outcome is entered in the journals of images
      enters : EntersSettled files (entry_if true (settled_entry c.tid c.serial c.outcome c.moment)) mid img
      enters = subst (λ e. EntersSettled files e mid img) (λ i. entry_if ((flag ∙ unit) i) (settled_entry (tid_is i) (serial_is i) model.Abort (next_is i))) makes.entered

      keeps_images : AllFound (FileKeepsImages m.name (counted m).durable.boot m.durable.greatest) m.durable.directory
      keeps_images = (first_kept (rows_for (active_units (map unit_shown us)) (counted m)) (counted m) is.rows).filed.images

      units_counted : AreUnitsOf (counted m)
      units_counted = let booted = keeps_units.boots m is.leaves.units in record { tells = booted.tells; marked = booted.marked; reached = booted.reached; names = booted.names }

      heads_mid : length mid.catalog.heads ≡ 64
      heads_mid = goes.long ∙ is.long

      low_here : ImagesAreLow 48 v.catalog.heads
      low_here f h there = let low = is.images f h there in let one = low.0 in let two = low.1 in let long = long_next us u at in (omega (arith, one, long), omega (arith, two, long))

      by_files : AreToldBy c files m.durable.directory
      by_files = told_left (counted m) a v.catalog.heads is.leaves.files units_counted keeps_images u.serial files says c refl

      room_images : HaveRoom c files mid.catalog.heads
      room_images = room_left (counted m) a v.catalog.heads is.leaves.files units_counted keeps_images u.serial files says mid.catalog.heads
          (record { journals = goes.journals; told = told_heads mid.catalog undone.way.now undone.way.tells heads_mid }) low_here c told.tid told.serial (let m = moments.1 in omega (arith, m, far))

      puts : PutsOutcome m c mid img
      puts = record {
        files = files;
        by = by_files;
        room = room_images;
        current = imaged_current true files c mid img enters;
        catalog = imaged_catalog true files c mid img enters;
      }

      home_img : img.catalog.home ≡ v.catalog.home
      home_img = imaged_home true files c mid img enters ∙ home

      ru_img : img.catalog.ru ≡ v.catalog.ru
      ru_img = imaged_ru true files c mid img enters ∙ ru

      entry_long : length (spelling entry) ≡ 48
      entry_long = total_is entry (settled_is u.tid u.serial model.Abort c.moment told.tid told.serial (let m = moments.1 in omega (arith, m, far)))

      span_end : (b : Bool) → b ≡ true → (r : Span) → (span_with (entry_if b entry) r).end ≡ r.end + 48
      span_end true k r = ap (λ (n : ℕ). r.end + n) entry_long
      span_end false k r = let never : ⊥ = cc in absurd never

      with_unit : (b : Bool) → b ≡ true → ◌≡◌ {A = ℕ} (if b then 48 else 0) 48
      with_unit true k = refl
      with_unit false k = let never : ⊥ = cc in absurd never

      ends : (span_with (entry_if (is_unit u.serial m.durable.units) entry) img.catalog.ru).end ≡ end_of next.durable.units
      ends =
          span_end (is_unit u.serial m.durable.units) unit img.catalog.ru ∙ ap (λ (r : Span). r.end + 48) ru_img ∙ ap (λ (n : ℕ). n + 48) is.leaves.journal.end
          ∙ ap (λ (n : ℕ). end_of m.durable.units + n) (sym (with_unit (is_unit u.serial m.durable.units) unit)) ∙ sym (settles_unit u.tid u.serial model.Abort c.moment m.durable.units).end

      longer_end : made.catalog.ru.end ≡ v.catalog.ru.end + 48
      longer_end = ap (λ (k : Catalog). k.ru.end) made_so.catalog ∙ span_end (is_unit u.serial m.durable.units) unit img.catalog.ru ∙ ap (λ (r : Span). r.end + 48) ru_img

      begins : made.catalog.ru.first ≡ next.durable.units.first
      begins = ap (λ (k : Catalog). k.ru.first) made_so.catalog ∙ (λ i. unwrap_or (earliest_is_left i) (ends i)) ∙ first_next

      -- the journal has room
      room : v.catalog.ru.end - v.catalog.ru.first + 48 ≤ ring_size v.catalog.ru
      room =
          let first = is.leaves.journal.first in
          let end = is.leaves.journal.end in
          let fits = is.leaves.order.fits in
          let owes = owed_some us u at in
          let same = ap owed is.units.units in
          let blocks = is.sound.ru_blocks in
          let journal = is.leaves.home.journal in
          omega (arith, first, end, fits, owes, same, blocks, journal)

      is_made : Makes m c tid serial (ending.Abort reason.SegFail) left img made
      is_made = record {
        settlement = λ i. record { tid = sym tid_is i; serial = sym serial_is i; outcome = model.Abort; reason = Some model.SegFail; moment = c.moment };
        makes = made_so;
        is_tid = told.tid;
        is_serial = told.serial;
        later = let same : img.catalog.home.greatest_moment.0 ≡ v.catalog.home.greatest_moment.0 = ap (λ (h : Home). h.greatest_moment.0) home_img in let was = is.leaves.home.greatest in let m = moments.0 in omega (arith, same, was, m);
        early = let m = moments.1 in omega (arith, m, far);
        room = λ k. subst (λ (r : Span). r.end - r.first + 48 ≤ ring_size r) (sym ru_img) room;
        first = begins;
        low = let low = is.low in let long = long_next us u at in omega (arith, longer_end, low, long);
      }

      pub is_aborted : IsAborted m c tid serial (ending.Abort reason.SegFail) left (positions_for m u.serial v.catalog es) v mid img made
      is_aborted = record { goes = goes; undoes = undoes_for; tells = puts; makes = is_made }

      -- where it goes down in the last group
      pub fails_last : (w : VolumeState) → Leaves (IsEither (content mid.store) made.store.current) w.store.disk → HasDisk (fallen (Some (Tables act (next_moment m))) m) w.store.disk
      fails_last w either = aborts_fail.last a m act (next_moment m) c tid serial (ending.Abort reason.SegFail) left v mid img made w is.leaves ways may is_aborted either

      abbrev imaged_here : List (List ℕ)
      imaged_here = imaged true files c mid img enters undone.way.now

      imaged_so : img.store.current ≡ Some imaged_here
      imaged_so = imaged_told true files c mid img enters undone.way.now undone.way.told

      abbrev b : List (List ℕ)
      b = with_front (settling.settled_home tid serial (ending.Abort reason.SegFail) c.moment img.catalog.home) (from_earliest left (span_with (entry_if (is_unit u.serial m.durable.units) entry) img.catalog.ru))
          (content_with (entry_if (is_unit u.serial m.durable.units) entry) img.catalog.ru imaged_here)

      now : made.store.current ≡ Some b
      now = made_so.current ∙ ap (option_map (λ x. with_front (settling.settled_home tid serial (ending.Abort reason.SegFail) c.moment img.catalog.home) (from_earliest left (span_with (entry_if (is_unit u.serial m.durable.units) entry) img.catalog.ru))
          (content_with (entry_if (is_unit u.serial m.durable.units) entry) img.catalog.ru x))) imaged_so

      sound_mid : IsSound m.name m.blocks mid.catalog
      sound_mid = subst (λ (n : ℕ). IsSound m.name n mid.catalog) disk_is (goes.sound m.name (subst (λ (n : ℕ). IsSound m.name n v.catalog) (sym disk_is) is.sound))

      journal_mid : (j : HasJournal undone.way.now mid.catalog m) × (j.entries ≡ es)
      journal_mid = undos_keep_journal a v.catalog m u.serial mid is.leaves (far_off m.name m.blocks v.catalog is.sound) goes.catalog undone

      told_at : IsToldIn c m.durable.directory undone.way.now imaged_here mid.catalog img.catalog
      told_at = told_in true files c mid img enters m.durable.directory undone.way.now by_files room_images (fits m.name m.blocks mid.catalog heads_mid sound_mid) undone.way.journal.whole

      images_told : undo.IsTold m undone.way.now imaged_here mid.catalog img.catalog journal_mid.0
      images_told = undone_settle.told a undone.way.now imaged_here v.catalog img.catalog m act (next_moment m) c mid is.leaves (record { settles = refl; abort = refl; may = may_settle; told = log_next }) is.sound goes.catalog undone
          (λ f h there. stands_same h undone.way.now undone.way.journal.whole) told_at journal_mid.0

      settled : IsSettled m c images_told.journal.entries imaged_here b img.catalog made.catalog × TellsCatalog made.catalog b × IsSound m.name m.blocks made.catalog
      settled = settlements_are_made imaged_here b m c tid serial (ending.Abort reason.SegFail) left img made m.name m.blocks imaged_so now (images_told.tells undone.way.tells) (images_told.sound m.name m.blocks sound_mid) images_told.long
          (subst (λ (h : Home). HasHome h m) (sym home_img) is.leaves.home) images_told.journal is_made

      pub next_stage : IsIdle made.store → Stage clock (most + 1) size n rest made next
      next_stage idle = record {
        content = b;
        idle = idle;
        told = now;
        tells = settled.1;
        sound = settled.2;
        long = ap (λ (k : Catalog). length k.heads) made_so.catalog ∙ images_told.long;
        size = ap (λ (n : ℕ). n + 518)
            (length_made (settling.settled_home tid serial (ending.Abort reason.SegFail) c.moment img.catalog.home) (from_earliest left (span_with (entry_if (is_unit u.serial m.durable.units) entry) img.catalog.ru))
            (entry_if (is_unit u.serial m.durable.units) entry) img.catalog.ru imaged_here images_told.journal.is.ring.some ∙ images_told.size ∙ undone.way.journal.size) ∙ is.size;
        blocks = is.blocks;
        leaves = aborts_settle.leaves a b m act (next_moment m) c tid serial (ending.Abort reason.SegFail) left v mid img made is.leaves may is_aborted now;
        same = is.same;
        volatile = volatile_next;
        log = is.log;
        units = units_next;
        moment = let greatest = ap (λ (k : Catalog). k.home.greatest_moment.0) made_so.catalog in let m = moments.1 in omega (arith, greatest, m);
        low = let low = is.low in let long = long_next us u at in omega (arith, longer_end, low, long);
        images = low_next;
        rows = rows_next;
      }
        where
          low_mid : ImagesAreLow (48 + 48 * length rest) mid.catalog.heads
          low_mid f h there =
              let old = had_journals (head_at v.catalog.heads f) h (sym (goes.journals f) ∙ ap (option_map journals_of) there) in
              let low = is.images f old.0 old.1 in
              let long = long_next us u at in
              let one : (span_of After old.0).end + (48 + 48 * length rest) ≤ 2 ^ 62 = let l = low.0 in omega (arith, l, long) in
              let two : (span_of Before old.0).end + (48 + 48 * length rest) ≤ 2 ^ 62 = let l = low.1 in omega (arith, l, long) in
              (subst (λ (s : Span). s.end + (48 + 48 * length rest) ≤ 2 ^ 62) (span_by After old.0 h old.2) one, subst (λ (s : Span). s.end + (48 + 48 * length rest) ≤ 2 ^ 62) (span_by Before old.0 h old.2) two)

          outcome_long : length (spelled_entry 0 c.tid (outcome_of c)) ≡ 48
          outcome_long = ap (λ (e : Entry). length (spelling e)) (outcome_entry 0 c.tid c.serial c.outcome c.moment) ∙ entry_long

          low_next : ImagesAreLow (48 * length rest) made.catalog.heads
          low_next = subst (ImagesAreLow (48 * length rest)) (sym (ap (λ (k : Catalog). k.heads) made_so.catalog ∙ ap (λ (k : Catalog). k.heads) (imaged_catalog true files c mid img enters)))
              (subst (λ (k : ℕ). ImagesAreLow (48 * length rest) (heads_from 0 files k mid.catalog.heads)) (sym outcome_long) (low_from files 48 (48 * length rest) mid.catalog.heads low_mid))
