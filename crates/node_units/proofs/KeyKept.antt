-- A unit changed a key: the node is kept, and the call is one of the world.
use Rattle.std.proofs.Common.{◌≡◌, ℕ, ◌+◌, ◌<◌, List, [], ◌∷◌, ◌++◌, true, false, Option, Some, None, length, slice_set, refl, sym, ◌∙◌, ap, subst, arith, inl, inr, append-nil, get_or-set_same, get_or-set_other}
use Rattle.std.specs.Prelude.{◌⊎◌, IsSome}
use Rattle.std.specs.List.{AllByRecursion}
use Rattle.std.proofs.lemmas.Bool.{both_ways, cases_eq}
use Rattle.careful_write.specs.State.{IsEither, content}
use Rattle.commit_protocol.specs.Table.{Branch}
use Rattle.file_base.specs.declared.head.FileHead.{FileHead}
use Rattle.vms_model.specs.Ids.{Id}
use Rattle.vms_model.specs.Keys.{Key}
use Rattle.volume.specs.declared.catalog.Catalog.{Catalog}
use Rattle.volume.specs.State.{VolumeState}
use Rattle.records_model.specs.Records.{Change}
use Rattle.records_model.specs.History.{History, changed_it, changed_with, same_id}
use Rattle.volume_files.specs.record_files.Any.{map_of}
use Rattle.record_locks.specs.Locks as table
use Rattle.record_operations.specs.Asking.{file_in, is_of_key, written}
use Rattle.record_operations.specs.declared.ops.RecordOp.{RecordOp}
use Rattle.rms_units.specs.unit_journal.Groups.{Breaks}
use Rattle.unit_laws.specs.Journal.{ChangeEntry, JournalEntry, entries_size, serial_in}
use Rattle.unit_laws.proofs.LiveLemmas.{by_others}
use Rattle.node_units.proofs.KeyImages.{now_changed}
use Rattle.unit_table.specs.Places.{AreInOrder}
use Rattle.unit_table.specs.Units.{OpenUnit, begun, has_changed, unit_at, units_of, with_position}
use Rattle.unit_table.proofs.OrderLemmas.{at_below}
use Rattle.recovery_units.specs.run_model.World.{tid_in}
use Rattle.recovery_units.specs.run_model.World.{Act, Changes, File, Node, acted, changed_file, fallen, find_branch, find_file, is_durable}
use Rattle.recovery_units.specs.run_model.Locks.{is_locked}
use Rattle.recovery_units.specs.run_model.Operations.{first_of, operation_answer}
use Rattle.recovery_units.proofs.world_laws.IdLemmas.{id_itself}
use Rattle.recovery_units.proofs.world_laws.EntryLemmas.{all_append}
use Rattle.unit_world.specs.directory_model.Files.{file_at, head_at}
use Rattle.unit_world.proofs.directory_model.Places.{within_list}
use Rattle.recovery_units.specs.volume_model.Volumes.{HasDisk, HasVolume, IsEitherOf, IsLeftBy}
use Rattle.careful_write.specs.Content.{content_of}
use Rattle.script_model.specs.Statements.{Operation}
use Rattle.unit_world.proofs.volume_laws.WholeLemmas.{volume_falls}
use Rattle.recovery_units.specs.Calls.{IsBroken, IsDone, IsNumbered, KeepsUp, change_said, position_line, unit_act, unit_refused_after_reading, unit_refused_before_reading}
use Rattle.recovery_units.specs.State.{AreLocks, AreOfBranches, IsKept, IsUnitOf, changed_at, positions_of}
use Rattle.unit_world.proofs.Leaving.{down}
use Rattle.unit_world.proofs.Staying.{changed_set}
use Rattle.rms_units.specs.Calls as rms
use Rattle.rms_units.specs.key_changes.Changing as changing
use Rattle.rms_units.specs.key_changes.Keys.{change_in, key_in, position_by}
use Rattle.rms_units.specs.State as state
use Rattle.rms_units.specs.State.{IsEarly, IsInOrder}
use Rattle.log_laws.specs.Slots.{Slots}
use Rattle.commit_protocol.specs.Allowed.{is_prepared}
use Rattle.recovery_units.specs.world_laws.Nodes.{IsUp}
use Rattle.node_units.specs.Seen.{seen}
use Rattle.node_units.proofs.Falling.{disk_sound, leaves_kept}
use Rattle.node_units.proofs.KeyMade as made_by
use Rattle.node_units.proofs.KeyRefusals.{early_none}
use Rattle.node_units.proofs.Locking.{locks_more}
use Rattle.node_units.proofs.Seeing.{all_seen}
use Rattle.node_units.proofs.SettingFile.{set_change}
use Rattle.node_units.proofs.UnitCounts.{different, once_there, unit_is}
use Rattle.node_units.proofs.UnitsMore.{apart_at, are_more, changed_branches, positions_entered}

abbrev Content : Type 0
Content = List (List ℕ)

one_content : (x y : Content) → ◌≡◌ {A = Option Content} (Some x) (Some y) → x ≡ y
one_content x y e = cc

one_unit : (u w : OpenUnit) → ◌≡◌ {A = Option OpenUnit} (Some u) (Some w) → u ≡ w
one_unit u w e = cc

still_changed : (x y : Id) (c : Change) (h : History) → same_id x y ≡ false → changed_it (changed_with y (c ∷ []) h) x ≡ changed_it h x
still_changed x y c h other = ap (λ (ds : List Change). elim ds [ [] ↦ false | d ∷ es ↦ true ]) (by_others x y (c ∷ []) h.live other)

module _ (s : state.UnitsState) (v : VolumeState) (order : IsInOrder s v) (at : AreInOrder s.units.places s.units.order) (place : ℕ) (u : OpenUnit) (at_place : unit_at s.units.places place ≡ Some u) (n : Node) (file : File) (b : Branch) (h : FileHead) (log : Slots) (up : IsUp n) (unprepared : is_prepared b.state ≡ false)
    (kept : IsKept (seen s log) v n) (o : RecordOp) (bytes : List ℕ) (there : head_at v.catalog.heads (file_in o) ≡ Some h) (found : find_file h.name n.durable.directory ≡ Some file) (found_b : find_branch u.serial n.volatile.branches ≡ Some b)
    (one : is_of_key o ≡ true) (number : IsNumbered o) (low : IsEarly v) (allowed : rms.change_refused_before_reading h o (written o bytes) ≡ None)
    (t : state.UnitsState) (w : VolumeState) (done : rms.ChangesKey place u (file_in o) h (change_in o) (key_in h o (written o bytes)) (written o bytes) s v t w) (d : Content) (now : w.store.current ≡ Some d) (size : w.store.disk.size ≡ v.store.disk.size)
    (keeps : KeepsUp (unit_refused_before_reading n b h.name file (change_said o bytes)) (unit_refused_after_reading n b h.name file (change_said o bytes)) (unit_act b h.name file (change_said o bytes)) n) where
  abbrev f : ℕ
  f = file_in o

  abbrev key : Key
  key = key_in h o (written o bytes)

  abbrev keys : List Key
  keys = changing.keys_asked h (change_in o) key

  abbrev before : Option (List ℕ)
  before = map_of h kept.content key

  abbrev after : Option (List ℕ)
  after = changing.after_change (change_in o) (written o bytes)

  abbrev cs : List Change
  cs = set_change key before after ∷ []

  abbrev m : Node
  m = acted (Changes u.tid u.serial h.name cs keys) n

  abbrev locks : changing.locks_refuse (Some u.serial) f keys s.locks ≡ None
  locks = done.early

  abbrev made : rms.MakesKey u f h (change_in o) key (written o bytes) s v w
  made = done.made

  abbrev more : OpenUnit
  more = with_position v.catalog.ru.end f u

  abbrev places : List (Option OpenUnit)
  places = slice_set s.units.places place (Some more)

  begun_is : (seen t log).begun ≡ units_of places s.units.order
  begun_is = ap begun done.units

  below : place < length s.units.places
  below = at_below s.units.places place (subst IsSome (sym at_place) refl)

  branches_are : AreOfBranches (seen t log).begun m.volatile.branches
  branches_are = subst (λ us. AreOfBranches us m.volatile.branches) (sym begun_is)
      (changed_branches place u more refl refl refl (are_more u.positions v.catalog.ru.end) s.units.places s.units.order below at_place (once_there s log v order at n up kept place u at_place) (different s log v order at n up kept) n.volatile.branches kept.branches)

  locks_are : AreLocks w.catalog.heads (seen t log).locks m.volatile.locks
  locks_are = subst (λ (c : Catalog). AreLocks c.heads (seen t log).locks m.volatile.locks) (sym (made_by.catalog_is s v order at place u at_place n file b h log up unprepared kept o bytes there found found_b one number low allowed locks w made keeps))
      (subst (λ ls. AreLocks (made_by.W s v order at place u at_place n file b h log up unprepared kept o bytes there found found_b one number low allowed locks w made keeps).heads ls m.volatile.locks) (sym done.locks)
      (made_by.locks_renamed v.catalog.heads (made_by.W s v order at place u at_place n file b h log up unprepared kept o bytes there found found_b one number low allowed locks w made keeps).heads (made_by.names_are s v order at place u at_place n file b h log up unprepared kept o bytes there found found_b one number low allowed locks w made keeps) (table.with_locks u.serial f keys s.locks) m.volatile.locks
      (locks_more v.catalog.heads (made_by.once s v order at place u at_place n file b h log up unprepared kept o bytes there found found_b one number low allowed locks w made keeps) f h there u.serial keys s.locks n.volatile.locks kept.locks)))

  abbrev E : JournalEntry
  E = ChangeEntry u.tid u.serial h.name key before

  abbrev es : List JournalEntry
  es = n.durable.units.entries

  abbrev new_file : File
  new_file = changed_file (is_locked n.volatile.locks h.name) u.tid u.serial cs file

  directory_is : m.durable.directory ≡ slice_set n.durable.directory f (Some new_file)
  directory_is = made_by.directory_after s v order at place u at_place n file b h log up unprepared kept o bytes there found found_b one number low allowed locks w made keeps

  wide : f < length n.durable.directory
  wide = let long = kept.has.files.directory_long in let heads = order.heads in let inside = within_list v.catalog.heads f h there in omega (arith, long, heads, inside)

  file_before : file_at n.durable.directory f ≡ Some file
  file_before = made_by.at_f s v order at place u at_place n file b h log up unprepared kept o bytes there found found_b one number low allowed locks w made keeps

  own_after : IsUnitOf m more
  own_after =
      let is = unit_is s log v order at n up kept place u at_place in
      let end : v.catalog.ru.end ≡ n.durable.units.first + entries_size es = kept.has.journal.end in
      record {
        positions = (λ i. is.positions i ++ end i ∷ []) ∙ sym (positions_entered u.serial u.tid u.serial h.name key before n.durable.units.first es true (id_itself u.serial));
        files = λ g. elim (cases_eq g f) [
          | inl here ↦
              ap (λ k. changed_at u.serial (file_at m.durable.directory k)) here
              ∙ ap (λ ds. changed_at u.serial (file_at ds f)) directory_is ∙ ap (changed_at u.serial) (get_or-set_same n.durable.directory f (Some new_file) None wide)
              ∙ now_changed u.serial (set_change key before after) file.history ∙ sym done.changed ∙ ap (has_changed more) (sym here)
          | inr apart ↦
              ap (λ ds. changed_at u.serial (file_at ds g)) directory_is ∙ ap (changed_at u.serial) (get_or-set_other n.durable.directory f g (Some new_file) None apart)
              ∙ is.files g ∙ sym (get_or-set_other u.files f g true false apart)
        ];
        transaction = all_append (λ (e : JournalEntry). same_id u.serial (serial_in e) ≡ true → u.tid ≡ tid_in e) es (E ∷ []) is.transaction ((λ same. refl), tt);
      }

  other_after : (x : OpenUnit) → IsUnitOf n x → same_id x.serial u.serial ≡ false → IsUnitOf m x
  other_after x is other = record {
    positions = is.positions ∙ sym (append-nil (positions_of x.serial n.durable.units.first es)) ∙ sym (positions_entered x.serial u.tid u.serial h.name key before n.durable.units.first es false other);
    files = λ g.
        ap (λ ds. changed_at x.serial (file_at ds g)) directory_is
        ∙ changed_set n.durable.directory f new_file x.serial wide (still_changed x.serial u.serial (set_change key before after) file.history other ∙ ap (changed_at x.serial) (sym file_before)) g ∙ is.files g;
    transaction = all_append (λ (e : JournalEntry). same_id x.serial (serial_in e) ≡ true → x.tid ≡ tid_in e) es (E ∷ []) is.transaction ((λ same. absurd (both_ways _ other same)), tt);
  }

  each_after : AllByRecursion (IsUnitOf m) (seen t log).begun
  each_after = subst (AllByRecursion (IsUnitOf m)) (sym begun_is)
      (all_seen (IsUnitOf m) places s.units.order (λ p x at_p. elim (cases_eq p place) [
        | inl here ↦ subst (IsUnitOf m) (one_unit more x (sym (get_or-set_same s.units.places place (Some more) None below) ∙ ap (unit_at places) (sym here) ∙ at_p)) own_after
        | inr apart ↦
            let old : unit_at s.units.places p ≡ Some x = sym (get_or-set_other s.units.places place p (Some more) None apart) ∙ at_p in
            let own_once = once_there s log v order at n up kept place u at_place in
            let its_once = once_there s log v order at n up kept p x old in
            other_after x (unit_is s log v order at n up kept p x old)
            (apart_at s.units.places s.units.order p place x u apart old at_place (omega (arith, its_once)) (omega (arith, own_once)) (different s log v order at n up kept))
      ]))

  kept_then : IsKept (seen t log) w m
  kept_then = record {
    content = d;
    told = now;
    name = kept.name ∙ sym (made_by.node_after s v order at place u at_place n file b h log up unprepared kept o bytes there found found_b one number low allowed locks w made keeps);
    blocks = kept.blocks ∙ sym size;
    has = subst (λ (c : Catalog). HasVolume d c m) (sym (made_by.catalog_is s v order at place u at_place n file b h log up unprepared kept o bytes there found found_b one number low allowed locks w made keeps)) (made_by.volume_after s v order at place u at_place n file b h log up unprepared kept o bytes there found found_b one number low allowed locks w made keeps d now);
    log = kept.log;
    branches = branches_are;
    locks = locks_are;
    each = each_after;
  }

  pub kept_after : IsKept (seen t log) w (acted (unit_act b h.name file (change_said o bytes)) n)
  kept_after = subst (λ (act : Act). IsKept (seen t log) w (acted act n)) (made_by.act_is s v order at place u at_place n file b h log up unprepared kept o bytes there found found_b one number low allowed locks w made keeps) kept_then

  -- the call is the world's
  pub key_done : (told : ℕ) → told ≡ position_by h.organization (change_in o) key → IsDone (unit_refused_before_reading n b h.name file (change_said o bytes)) (unit_refused_after_reading n b h.name file (change_said o bytes)) (unit_act b h.name file (change_said o bytes))
      (operation_answer file (change_said o bytes)) (position_line told) n (seen t log) w
  key_done told is = record {
    allowed = (λ i. first_of (made_by.early_is_none s v order at place u at_place n file b h log up unprepared kept o bytes there found found_b one number low allowed locks w made keeps i) (made_by.late_is_none s v order at place u at_place n file b h log up unprepared kept o bytes there found found_b one number low allowed locks w made keeps i));
    kept = kept_after;
    answers = (made_by.asking s v order at place u at_place n file b h log up unprepared kept o bytes there found found_b one number low allowed locks w made keeps).answer ∙ ap position_line (sym is);
  }

-- The disk went down.
module _ (s : state.UnitsState) (v : VolumeState) (order : IsInOrder s v) (at : AreInOrder s.units.places s.units.order) (place : ℕ) (u : OpenUnit) (at_place : unit_at s.units.places place ≡ Some u) (n : Node) (file : File) (b : Branch) (h : FileHead) (log : Slots) (up : IsUp n) (unprepared : is_prepared b.state ≡ false)
    (kept : IsKept (seen s log) v n) (o : RecordOp) (bytes : List ℕ) (there : head_at v.catalog.heads (file_in o) ≡ Some h) (found : find_file h.name n.durable.directory ≡ Some file) (found_b : find_branch u.serial n.volatile.branches ≡ Some b)
    (one : is_of_key o ≡ true) (number : IsNumbered o) (low : IsEarly v) (allowed : rms.change_refused_before_reading h o (written o bytes) ≡ None)
    (w : VolumeState) (broke : rms.KeyBroke u (file_in o) h (change_in o) (key_in h o (written o bytes)) (written o bytes) s v w)
    (keeps : KeepsUp (unit_refused_before_reading n b h.name file (change_said o bytes)) (unit_refused_after_reading n b h.name file (change_said o bytes)) (unit_act b h.name file (change_said o bytes)) n) where
  abbrev said : Operation
  said = change_said o bytes

  abbrev act : Act
  act = unit_act b h.name file said

  old_left : (c : Content) → Some c ≡ content v.store → (x : Option Act) → IsLeftBy c (fallen x n)
  old_left c is x = subst (λ (y : Content). IsLeftBy y (fallen x n)) (one_content kept.content c (sym kept.told ∙ order.idle.current ∙ sym is)) (leaves_kept (seen s log) v n x order.sound order.holds kept)

  module _ (new : VolumeState) (made : rms.MakesKey u (file_in o) h (change_in o) (key_in h o (written o bytes)) (written o bytes) s v new) where
    abbrev none_held : changing.locks_refuse (Some u.serial) (file_in o) (changing.keys_asked h (change_in o) (key_in h o (written o bytes))) s.locks ≡ None
    none_held = broke.early

    left_after : (d : Content) → Some d ≡ new.store.current → IsLeftBy d (acted act (fallen (Some act) n))
    left_after d is = subst (λ (x : Act). IsLeftBy d (acted x (fallen (Some act) n))) (made_by.act_is s v order at place u at_place n file b h log up unprepared kept o bytes there found found_b one number low allowed none_held new made keeps) record {
      catalog = made_by.W s v order at place u at_place n file b h log up unprepared kept o bytes there found found_b one number low allowed none_held new made keeps;
      tells = made_by.tells_after s v order at place u at_place n file b h log up unprepared kept o bytes there found found_b one number low allowed none_held new made keeps d (sym is);
      sound = made_by.sound_after s v order at place u at_place n file b h log up unprepared kept o bytes there found found_b one number low allowed none_held new made keeps;
      leaves = λ whole. down d (made_by.W s v order at place u at_place n file b h log up unprepared kept o bytes there found found_b one number low allowed none_held new made keeps) (made_by.m s v order at place u at_place n file b h log up unprepared kept o bytes there found found_b one number low allowed none_held new made keeps) (acted (made_by.deed s v order at place u at_place n file b h log up unprepared kept o bytes there found found_b one number low allowed none_held new made keeps) (fallen (Some act) n)) (volume_falls d (made_by.W s v order at place u at_place n file b h log up unprepared kept o bytes there found found_b one number low allowed none_held new made keeps) (made_by.m s v order at place u at_place n file b h log up unprepared kept o bytes there found found_b one number low allowed none_held new made keeps) (made_by.volume_after s v order at place u at_place n file b h log up unprepared kept o bytes there found found_b one number low allowed none_held new made keeps d (sym is))) refl refl refl;
    }

    either_left : (d : Content) → IsEither (content v.store) new.store.current d → IsEitherOf (fallen (Some act) n) d
    either_left d (inl old) = inl (old_left d old (Some act))
    either_left d (inr now) = inr (inl (act, refl, left_after d now))

    durable_act : is_durable act ≡ true
    durable_act = ap is_durable (sym (made_by.act_is s v order at place u at_place n file b h log up unprepared kept o bytes there found found_b one number low allowed none_held new made keeps))

    late_then : unit_refused_after_reading n b h.name file said ≡ None
    late_then = made_by.late_is_none s v order at place u at_place n file b h log up unprepared kept o bytes there found found_b one number low allowed none_held new made keeps

  pub key_broken : IsBroken (unit_refused_before_reading n b h.name file said) (unit_refused_after_reading n b h.name file said) act n w.store.disk
  key_broken = record { begun = early_none s v order at place u at_place n file b h log up unprepared kept o bytes there found found_b one number allowed broke.early; disk = go broke.breaks }
    where
      go : Breaks (rms.MakesKey u (file_in o) h (change_in o) (key_in h o (written o bytes)) (written o bytes) s v) v w →
          HasDisk (fallen None n) w.store.disk ⊎ ((unit_refused_after_reading n b h.name file said ≡ None) × (is_durable act ≡ true) × HasDisk (fallen (Some act) n) w.store.disk)
      go (inl old) = inl (disk_sound (fallen None n) w.store.disk kept.has.home.volume (λ image may. let is = old image may in (is.0, inl (old_left (content_of image) is.1 None))))
      go (inr new) = inr (late_then new.made new.is, durable_act new.made new.is, disk_sound (fallen (Some act) n) w.store.disk kept.has.home.volume (λ image may. let is = new.either image may in (is.0, either_left new.made new.is (content_of image) is.1)))
