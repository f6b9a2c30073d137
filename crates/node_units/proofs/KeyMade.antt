-- A unit changed a key: the volume is that of the node after the change, and so are the units.
use Rattle.std.proofs.Common.{◌≡◌, ℕ, suc, ◌+◌, ◌-◌, ◌<◌, ◌≤◌, ◌^◌, List, [], ◌∷◌, ◌++◌, Bool, true, false, not, ◌||◌, Option, Some, None, IfSome, if◌then◌else◌, length, slice_set, refl, sym, ◌∙◌, ap, subst, arith, inl, inr, get_or-set_same}
use Rattle.std.specs.Prelude.{is_some, is_none, nat_le, option_map, unwrap_or}
use Rattle.std.specs.List.{AllByRecursion}
use Rattle.std.proofs.lemmas.Bool.Decides.{nat_tests}
use Rattle.commit_protocol.specs.Table.{Branch}
use Rattle.file_base.specs.declared.head.FileHead.{FileHead}
use Rattle.file_base.specs.declared.head.Organization.{Organization as Kept}
use Rattle.file_base.specs.declared.head.Organization.TheVariants as kept_by
use Rattle.file_base.specs.declared.head.Span.{Span}
use Rattle.transcript_model.specs.Lines as line
use Rattle.transcript_model.specs.Lines.{Line}
use Rattle.vms_model.specs.Ids.{Id}
use Rattle.vms_model.specs.Keys.{Key, Number, Text, End}
use Rattle.volume.specs.declared.catalog.Catalog.{Catalog}
use Rattle.volume.specs.Catalogs.{IsSound, TellsCatalog}
use Rattle.volume.specs.State.{VolumeState}
use Rattle.volume_files.specs.Staging.{SetsKey}
use Rattle.volume_format.specs.Head as head_format
use Rattle.volume_format.specs.Home.{sizes_of}
use Rattle.volume.specs.Catalogs.{entry_of}
use Rattle.volume_files.proofs.Places.{head_below}
use Rattle.unit_world.proofs.directory_model.Places.{within_list}
use Rattle.journal_format.proofs.Decoding.{entry_size}
use Rattle.journal_model.specs.Entries.{Entry, IsEntry, spelling}
use Rattle.journal_model.specs.Ring.{IsJournal, ring_size}
use Rattle.records_model.specs.Records.{Change}
use Rattle.records_model.specs.History.{is_held}
use Rattle.volume_files.specs.record_files.Any.{Suits, Takes, map_of, room_at}
use Rattle.record_locks.specs.Locks as table
use Rattle.record_operations.specs.Asking.{file_in, is_of_key, written}
use Rattle.record_operations.specs.Causes.{Cause, first_cause}
use Rattle.record_operations.specs.Forms as form
use Rattle.record_operations.specs.declared.ops.RecordOp.{RecordOp}
use Rattle.record_operations.specs.declared.ops.RecordOp.TheVariants as op
use Rattle.vms_base.specs.Keys.{key_of}
use Rattle.rms_units.specs.unit_journal.Entries as spelled
use Rattle.rms_units.specs.unit_journal.Room as room
use Rattle.rms_units.specs.unit_journal.Spans.{entered, longer}
use Rattle.unit_laws.specs.Journal.{ChangeEntry, JournalEntry, end_of, entries_for, with_entries}
use Rattle.unit_laws.proofs.TrimLemmas.{size_append}
use Rattle.unit_table.specs.Places.{AreInOrder}
use Rattle.unit_table.specs.Units.{OpenUnit, has_changed, unit_at}
use Rattle.recovery_units.specs.run_model.Answers.{found_refused, held_against, images_full, is_marked, journal_full, keys_refused, more_changes, more_locks, operation_act}
use Rattle.recovery_units.specs.run_model.Locks.{is_locked}
use Rattle.recovery_units.specs.run_model.Locks as world
use Rattle.recovery_units.specs.run_model.Operations.{changes_of, file_full, first_of, form_refused, keys_asked, keys_held}
use Rattle.recovery_units.specs.world_laws.Ordered.{IsImageOf, IsJournalInOrder, IsKeyOf, IsNoteOf}
use Rattle.commit_protocol.specs.World.{In}
use Rattle.recovery_units.specs.run_model.World as nodes
use Rattle.recovery_units.specs.run_model.World.{Act, Changes, File, Node, acted, changed_file, find_branch, find_file, with_image, AreUnitsOf}
use Rattle.recovery_units.proofs.world_laws.AnswerLemmas.{neither, not_refused}
use Rattle.recovery_units.proofs.world_laws.HeldLemmas.{IsFreeFor, free_for}
use Rattle.recovery_units.proofs.world_laws.RoomLemmas.{changes_have_room}
use Rattle.recovery_units.proofs.world_laws.UndoLemmas.{kept_up}
use Rattle.recovery_units.specs.world_laws.Restarts.{AreHeld}
use Rattle.unit_world.specs.restart_laws.Units.{MayChange}
use Rattle.unit_laws.specs.Units.{is_free}
use Rattle.lmcp_log.specs.Keeping.{SameSlots}
use Rattle.unit_world.proofs.volume_laws.ToldLemmas.{logs_follow}
use Rattle.unit_world.specs.directory_model.Files.{AgreesOnFile, AreFiles, IsCarried, IsFile, IsFoundAt, IsNamed, IsWithin, file_at, head_at, organized_by}
use Rattle.unit_world.specs.directory_model.Laws.{IsChanged, carrying, changed_buckets, spelled_entry}
use Rattle.unit_world.specs.directory_model.Restoring.{AreRestorable}
use Rattle.unit_world.proofs.directory_model.Acts.{keeps_files}
use Rattle.unit_world.proofs.directory_model.Finding.{finds_files}
use Rattle.unit_world.proofs.directory_model.Standing.{stands_on_extents}
use Rattle.unit_world.proofs.restart_laws.ChangingLemmas.{changes_restorable}
use Rattle.unit_world.proofs.restart_laws.StayLemmas.{keeps_restorable}
use Rattle.script_model.specs.Statements.{Operation}
use Rattle.unit_world.specs.file_images.Images as images
use Rattle.recovery_units.specs.volume_model.Entries.{entry_for}
use Rattle.recovery_units.specs.volume_model.Laws.{KeepsNames}
use Rattle.recovery_units.specs.volume_model.Volumes.{HasJournal, HasLog, HasVolume}
use Rattle.unit_world.proofs.volume_laws.FollowLemmas.{follow}
use Rattle.recovery_units.specs.Calls.{IsNumbered, KeepsUp, change_said, unit_act, unit_refused_after_reading, unit_refused_before_reading}
use Rattle.recovery_units.specs.State.{AreLocks, IsKept, IsOfBranch}
use Rattle.unit_world.proofs.Blocks.{same_names}
use Rattle.rms_units.specs.Calls as rms
use Rattle.rms_units.specs.key_changes.Changing as changing
use Rattle.rms_units.specs.key_changes.Changing.{after_change, before_change, need_of}
use Rattle.rms_units.specs.key_changes.declared.asked.KeyChange.{KeyChange}
use Rattle.rms_units.specs.key_changes.declared.asked.KeyChange.TheVariants as change
use Rattle.rms_units.specs.key_changes.Keys.{change_in, key_in}
use Rattle.rms_units.specs.Making.{EntersKey}
use Rattle.rms_units.specs.State as state
use Rattle.rms_units.specs.State.{IsEarly, IsInOrder}
use Rattle.rms_units.proofs.OrderLemmas.{sound_longer}
use Rattle.rms_units.proofs.RoomLemmas.{room_for}
use Rattle.rms_units.proofs.unit_cuts.EntrySizes.{spelled_size}
use Rattle.log_laws.specs.Slots.{Slots}
use Rattle.commit_protocol.specs.Allowed.{is_prepared}
use Rattle.recovery_units.specs.world_laws.Nodes.{IsUp}
use Rattle.node_units.specs.Seen.{seen}
use Rattle.node_units.proofs.AskedKey.{AsksKey}
use Rattle.node_units.proofs.BranchChanges.{MayMake, frees, held_live, held_locked, may_change, order_after, units_after}
use Rattle.node_units.proofs.Branches.{found_there}
use Rattle.node_units.proofs.EnteredKey.{entered_files, entered_journal, entered_slots, entered_tells}
use Rattle.node_units.proofs.Holding.{once_of}
use Rattle.recovery_units.specs.image_appends.declared.side.Side.TheVariants.{After, Before}
use Rattle.recovery_units.specs.image_appends.Images.{content_with_both, heads_with_both, span_of}
use Rattle.undo_laws.specs.image_groups.Groups.{Enters, MayEnter}
use Rattle.undo_laws.proofs.image_groups.Sides.{enters_change}
use Rattle.recovery_units.specs.image_room.Room.{images_refused}
use Rattle.recovery_units.proofs.image_room.Keeping.{afters_have_room, befores_have_room, room_to_change}
use Rattle.recovery_model.specs.Journal.{Changed}
use Rattle.unit_world.specs.restart_laws.Restorable.{SameLive}
use Rattle.unit_world.proofs.directory_model.Entering.{enters_images}
use Rattle.recovery_units.specs.unit_entries.Keys.{key_in as key_in_file}
use Rattle.undo_laws.proofs.NoteLemmas.{key_read}
use Rattle.volume.specs.Limits.{data_area}
use Rattle.volume_format.specs.Head.{IsHead}
use Rattle.node_units.proofs.ImagedVolume.{dressed_restorable, journal_entered, live_set, log_entered, names_entered, sound_entered, tells_entered}
use Rattle.node_units.proofs.Imaging.{fits as fits_in, told_heads}
use Rattle.node_units.proofs.KeyImages.{IsImage, change_is, may_enter}
use Rattle.node_units.proofs.KeyRefusals.{asks, early_none, entry_sized, few, found_before, is_file, late_none, own}
use Rattle.node_units.proofs.Locking.{AreOnce}
use Rattle.node_units.proofs.NotedKey.{Noted, noted_by}
use Rattle.node_units.proofs.ReadLemmas.{first_none}
use Rattle.node_units.proofs.SettingFile.{IsOfNode, KeepsRest, held_alike, keeps_rest, set_change, set_changes}
use Rattle.node_units.proofs.SuitsKey.{may_set}

abbrev Content : Type 0
Content = List (List ℕ)

one_content : (x y : Content) → ◌≡◌ {A = Option Content} (Some x) (Some y) → x ≡ y
one_content x y e = cc

-- The entry on the disk is the world's.

one_more : (n : ℕ) → nat_le 1 (suc n) ≡ true
one_more n = grind (arith, nat_tests)

flag_is : (before : Option (List ℕ)) → IfSome before (λ r. 1 ≤ length r) → ◌≡◌ {A = ℕ} (if nat_le 1 (length (unwrap_or before [])) then 1 else 0) (if is_some before then 1 else 0)
flag_is None some = refl
flag_is (Some []) some = absurd (omega (arith, some))
flag_is (Some (b ∷ r)) some = ap (λ (t : Bool). if◌then◌else◌ {A = ℕ} t 1 0) (one_more (length r))

image_is : (before : Option (List ℕ)) → unwrap_or before [] ≡ images.image_bytes before
image_is None = refl
image_is (Some r) = refl

key_is : (key : Key) → spelled.key_bytes key ≡ images.key_bytes key
key_is (Number n) = refl
key_is (Text t) = refl
key_is End = refl

pub entry_is : (tid serial : Id) (f : ℕ) (name : List ℕ) (key : Key) (before : Option (List ℕ)) → IfSome before (λ r. 1 ≤ length r) → spelled.change_entry tid serial f key before ≡ entry_for f (ChangeEntry tid serial name key before)
entry_is tid serial f name key before some = λ i. record { kind = 1; flag = flag_is before some i; file = f; tid = tid; serial = serial; moment = 0; key = key_is key i; image = image_is before i }

-- Locks by heads that keep their names.

pub locks_renamed : (heads new : List (Option FileHead)) → KeepsNames heads new → (ls : List table.Lock) (ms : List world.Lock) → AreLocks heads ls ms → AreLocks new ls ms
locks_renamed heads new keep [] [] are = tt
locks_renamed heads new keep [] (m ∷ ms) are = absurd are
locks_renamed heads new keep (l ∷ ls) [] are = absurd are
locks_renamed heads new keep (l ∷ ls) (m ∷ ms) are =
    let k = keep l.file are.0.head are.0.there in
    (record { key = are.0.key; by = are.0.by; head = k.0; there = k.1; file = are.0.file ∙ sym k.2 }, locks_renamed heads new keep ls ms are.1)

-- A change that moves the end of a sequential file asks for the end.

end_asked : (o : Kept) (how : KeyChange) (key : Key) (found : Option (List ℕ)) (value : List ℕ) (h : FileHead) → o ≡ kept_by.Sequential → (how ≡ change.Remove → ⊥) → changing.found_refused h how key found value ≡ None → (is_none found || is_none (after_change how value)) ≡ true → In End (changing.keys_by o how key)
end_asked kept_by.Sequential change.Put key found value h is other none moved = inl refl
end_asked kept_by.Sequential change.Replace key None value h is other none moved = let never : ⊥ = cc in absurd never
end_asked kept_by.Sequential change.Replace key (Some old) value h is other none moved = let never : ⊥ = cc in absurd never
end_asked kept_by.Sequential change.Remove key found value h is other none moved = absurd (other refl)
end_asked kept_by.Relative how key found value h is other none moved = let never : ⊥ = cc in absurd never
end_asked kept_by.Indexed how key found value h is other none moved = let never : ⊥ = cc in absurd never

-- a sequential file's records are not deleted one by one
not_deleted : (h : FileHead) (o : RecordOp) (size : ℕ) → h.organization ≡ kept_by.Sequential → is_of_key o ≡ true → form.form_refused h o size ≡ None → change_in o ≡ change.Remove → ⊥
not_deleted h (op.Put f key) size is one none e = cc
not_deleted h (op.Update f key) size is one none e = cc
not_deleted h (op.Delete f key) size is one none e =
    let may = (first_none (form.key_refused h (key_of key)) (form.delete_refused h) none).1 in
    let never : ◌≡◌ {A = Option Cause} (form.delete_refused_by kept_by.Sequential) None = ap form.delete_refused_by (sym is) ∙ may in
    cc
not_deleted h (op.Truncate f from) size is one none e = let bad : false ≡ true = one in cc

-- Lists of keys.

pub at_in : (P : Key → Type 0) (key : Key) (ks : List Key) → AllByRecursion P ks → In key ks → P key
at_in P key [] all i = absurd i
at_in P key (k ∷ ks) all (inl same) = subst P (sym same) all.0
at_in P key (k ∷ ks) all (inr more) = at_in P key ks all.1 more

pub each_free : (n : Node) (serial : Id) (name : List ℕ) (ks : List Key) → keys_refused n (Some serial) name ks ≡ None → AllByRecursion (λ k. held_against (Some serial) (world.holder n.volatile.locks name k) ≡ None) ks
each_free n serial name [] none = tt
each_free n serial name (k ∷ ks) none = let parts = neither (held_against (Some serial) (world.holder n.volatile.locks name k)) (keys_refused n (Some serial) name ks) none in (parts.0, each_free n serial name ks parts.1)

-- the key of a change is one that it asks for
last_asked : (o : Kept) (how : KeyChange) (key : Key) → In key (changing.keys_by o how key)
last_asked kept_by.Sequential change.Put key = inr (inl refl)
last_asked kept_by.Sequential change.Replace key = inl refl
last_asked kept_by.Sequential change.Remove key = inl refl
last_asked kept_by.Relative how key = inl refl
last_asked kept_by.Indexed how key = inl refl

pub is_true : (t : Bool) → not t ≡ false → t ≡ true
is_true true e = refl
is_true false e = let never : ⊥ = cc in absurd never

moved_one : (before after : Option (List ℕ)) → ((is_none before || is_none after) || false) ≡ true → (is_none before || is_none after) ≡ true
moved_one None after e = refl
moved_one (Some r) None e = refl
moved_one (Some r) (Some q) e = e

sequential_by : (o : Kept) (h : FileHead) → organized_by o h ≡ nodes.Sequential → o ≡ kept_by.Sequential
sequential_by kept_by.Sequential h e = refl
sequential_by kept_by.Relative h e = let never : ⊥ = cc in absurd never
sequential_by kept_by.Indexed h e = let never : ⊥ = cc in absurd never

pub same_file : (x y : File) → ◌≡◌ {A = Option File} (Some x) (Some y) → x ≡ y
same_file x y e = cc

module _ (s : state.UnitsState) (v : VolumeState) (order : IsInOrder s v) (at : AreInOrder s.units.places s.units.order) (place : ℕ) (u : OpenUnit) (at_place : unit_at s.units.places place ≡ Some u) (n : Node) (file : File) (b : Branch) (h : FileHead) (log : Slots) (up : IsUp n) (unprepared : is_prepared b.state ≡ false)
    (kept : IsKept (seen s log) v n) (o : RecordOp) (bytes : List ℕ) (there : head_at v.catalog.heads (file_in o) ≡ Some h) (found : find_file h.name n.durable.directory ≡ Some file) (found_b : find_branch u.serial n.volatile.branches ≡ Some b)
    (one : is_of_key o ≡ true) (number : IsNumbered o) (low : IsEarly v) (allowed : rms.change_refused_before_reading h o (written o bytes) ≡ None)
    (locks : changing.locks_refuse (Some u.serial) (file_in o) (changing.keys_asked h (change_in o) (key_in h o (written o bytes))) s.locks ≡ None) (w : VolumeState)
    (made : rms.MakesKey u (file_in o) h (change_in o) (key_in h o (written o bytes)) (written o bytes) s v w)
    (keeps : KeepsUp (unit_refused_before_reading n b h.name file (change_said o bytes)) (unit_refused_after_reading n b h.name file (change_said o bytes)) (unit_act b h.name file (change_said o bytes)) n) where
  abbrev f : ℕ
  f = file_in o

  abbrev value : List ℕ
  value = written o bytes

  abbrev key : Key
  key = key_in h o value

  abbrev after : Option (List ℕ)
  after = after_change (change_in o) value

  abbrev keys : List Key
  keys = changing.keys_asked h (change_in o) key

  abbrev said : Operation
  said = change_said o bytes

  abbrev a : Content
  a = kept.content

  abbrev es : List JournalEntry
  es = n.durable.units.entries

  file_is : IsFile a h file
  file_is = is_file s v order at place u at_place n file b h log up unprepared kept o bytes there found found_b one number

  own_is : IsOfBranch u b
  own_is = own s v order at place u at_place n file b h log up unprepared kept o bytes there found found_b one number

  pub asking : AsksKey a h file o bytes
  asking = asks s v order at place u at_place n file b h log up unprepared kept o bytes there found found_b one number allowed

  late : rms.change_refused_after_reading u f h (change_in o) key value s v a ≡ None
  late = made.late a kept.told file_is.head.form file_is.laid

  pub early_is_none : unit_refused_before_reading n b h.name file said ≡ None
  early_is_none = early_none s v order at place u at_place n file b h log up unprepared kept o bytes there found found_b one number allowed locks

  pub late_is_none : unit_refused_after_reading n b h.name file said ≡ None
  late_is_none = late_none s v order at place u at_place n file b h log up unprepared kept o bytes there found found_b one number allowed late

  form_none : form.form_refused h o (length value) ≡ None
  form_none = (first_none (form.form_refused h o (length value)) _ allowed).0

  had_none : changing.found_refused h (change_in o) key (map_of h a key) value ≡ None
  had_none = (first_none (changing.found_refused h (change_in o) key (map_of h a key) value) _ late).0

  behind_found : first_cause (changing.changes_refused 1 u) (first_cause (changing.keys_refused f keys s.locks) (first_cause (changing.file_refused h (need_of h a (change_in o) (length value))) (first_cause (room.journal_refused v.catalog.ru s.units.places u (room.entry_size key (before_change (change_in o) (unwrap_or (map_of h a key) [])))) (images_refused h f s.units.places (has_changed u f) (room.entry_size key after) (room.entry_size key (before_change (change_in o) (unwrap_or (map_of h a key) []))))))) ≡ None
  behind_found = (first_none (changing.found_refused h (change_in o) key (map_of h a key) value) _ late).1

  behind_quotas : first_cause (changing.file_refused h (need_of h a (change_in o) (length value))) (first_cause (room.journal_refused v.catalog.ru s.units.places u (room.entry_size key (before_change (change_in o) (unwrap_or (map_of h a key) [])))) (images_refused h f s.units.places (has_changed u f) (room.entry_size key after) (room.entry_size key (before_change (change_in o) (unwrap_or (map_of h a key) []))))) ≡ None
  behind_quotas = (first_none (changing.keys_refused f keys s.locks) _ (first_none (changing.changes_refused 1 u) _ behind_found).1).1

  behind_full : first_cause (room.journal_refused v.catalog.ru s.units.places u (room.entry_size key (before_change (change_in o) (unwrap_or (map_of h a key) [])))) (images_refused h f s.units.places (has_changed u f) (room.entry_size key after) (room.entry_size key (before_change (change_in o) (unwrap_or (map_of h a key) [])))) ≡ None
  behind_full = (first_none (changing.file_refused h (need_of h a (change_in o) (length value))) _ behind_quotas).1

  full_none : changing.file_refused h (need_of h a (change_in o) (length value)) ≡ None
  full_none = (first_none (changing.file_refused h (need_of h a (change_in o) (length value))) _ behind_quotas).0

  fits : Suits h key after × Takes h a key after
  fits = may_set h a file_is.head.form (few s v order at place u at_place n file b h log up unprepared kept o bytes there found found_b one number) o bytes one number form_none had_none full_none

  -- what was set
  abbrev enters : EntersKey f h (λ k. is_some (table.holder s.locks f k)) key after (spelled.change_entry u.tid u.serial f key after) (spelled.change_entry u.tid u.serial f key (before_change (change_in o) made.found)) v w
  enters = made.enters

  abbrev pub mid : VolumeState
  mid = enters.set

  set_is : (c : Content) × (mid.store.current ≡ Some c) × SetsKey h (λ k. is_some (table.holder s.locks f k)) key after a c enters.head
  set_is = enters.sets a kept.told file_is.head.form file_is.laid fits.0 fits.1

  abbrev c : Content
  c = set_is.0

  of_node : IsOfNode n a v
  of_node = record {
    told = kept.told;
    holds = order.holds;
    sound = subst (λ (x : List ℕ). IsSound x n.blocks v.catalog) (sym kept.name) (subst (λ (x : ℕ). IsSound v.catalog.home.node x v.catalog) (sym kept.blocks) order.sound);
    long = order.heads;
    size = sym kept.blocks;
    home = kept.has.home;
    journal = kept.has.journal;
    log = kept.has.log;
  }

  rest : KeepsRest n f enters.head a c v mid
  rest = keeps_rest n f 417 h enters.head a c v mid of_node there enters.stages set_is.1 set_is.2.whole

  within : IsWithin a h
  within = record { from = set_is.2.within.from; to = set_is.2.within.to; whole = set_is.2.within.whole }

  mrn_small : h.mrn < 2 ^ 32
  mrn_small =
      let tells : TellsCatalog v.catalog a = subst (λ x. IfSome x (TellsCatalog v.catalog)) kept.told order.holds in
      (subst (λ x. head_format.IsEntry (entry_of x)) there (tells.heads f (head_below v.catalog.heads f h order.heads there)).ranges).form.mrn

  noted : Noted h.organization h key (map_of h a key) after
  noted = noted_by h.organization h a key after file_is.head.form file_is.laid within (few s v order at place u at_place n file b h log up unprepared kept o bytes there found found_b one number) mrn_small fits.0 fits.1

  abbrev before : Option (List ℕ)
  before = map_of h a key

  before_is : before_change (change_in o) made.found ≡ before
  before_is = sym (made.had a kept.told file_is.head.form file_is.laid) ∙ found_before h (change_in o) key before value had_none

  abbrev e : Entry
  e = spelled.change_entry u.tid u.serial f key (before_change (change_in o) made.found)

  entry_told : e ≡ entry_for f (ChangeEntry u.tid u.serial h.name key before)
  entry_told = ap (spelled.change_entry u.tid u.serial f key) before_is ∙ entry_is u.tid u.serial f h.name key before noted.some

  abbrev cs : List Change
  cs = set_change key before after ∷ []

  abbrev pub deed : Act
  deed = Changes u.tid u.serial h.name cs keys

  abbrev pub m : Node
  m = acted deed n

  -- the act is that of the operation
  pub act_is : Changes u.tid u.serial h.name cs keys ≡ unit_act b h.name file said
  act_is =
      (λ i. Changes (sym own_is.tid i) (sym own_is.serial i) h.name (set_change key (sym (file_is.records key) i) after ∷ []) (sym asking.held i))
      ∙ ap (λ ds. operation_act b h.name ds (keys_held file said)) (sym asking.changes)

  -- The node after it.

  named : IsNamed v.catalog.heads f h h.name
  named = record { there = there; called = refl; lowest = λ g other less at_g same. let e = once_of v.catalog.home.node v.store.disk.size v.catalog order.sound order.heads g f other h at_g there same in absurd (omega (arith, e, less)) }

  at_file : (x : File) × IsFile a h x × IsFoundAt h.name n.durable.directory f x × IsCarried a f h x.carried
  at_file = finds_files.found a v.catalog.heads n.durable.directory f h h.name kept.has.files named

  found_is : at_file.0 ≡ file
  found_is = same_file at_file.0 file (sym at_file.2.found ∙ found)

  pub at_f : file_at n.durable.directory f ≡ Some file
  at_f = at_file.2.there ∙ ap Some found_is

  pub once : AreOnce v.catalog.heads
  once = once_of v.catalog.home.node v.store.disk.size v.catalog order.sound order.heads

  mark_none : file.recovery_units ≡ true
  mark_none = is_true file.recovery_units (not_refused (not file.recovery_units) line.NotForUnits (neither (is_marked file) (keys_refused n (Some b.key.serial) h.name (keys_asked file said)) (neither (form_refused file said) _ early_is_none).1).0)

  keys_none : keys_refused n (Some b.key.serial) h.name keys ≡ None
  keys_none = sym (ap (keys_refused n (Some b.key.serial) h.name) asking.asked) ∙ (neither (is_marked file) _ (neither (form_refused file said) _ early_is_none).1).1

  behind_data : first_of (more_changes n (changes_of file said) b) (first_of (more_locks n h.name (keys_held file said)) (first_of (file_full file said) (first_of (journal_full n h.name (changes_of file said) b) (images_full b.key.serial (changes_of file said) file)))) ≡ None
  behind_data = (neither (found_refused n (Some b.key.serial) h.name said file) _ late_is_none).1

  changes_are : changes_of file said ≡ cs
  changes_are = asking.changes ∙ (λ i. set_change key (file_is.records key i) after ∷ [])

  more_none : more_changes n cs b ≡ None
  more_none = ap (λ ds. more_changes n ds b) (sym changes_are) ∙ (neither (more_changes n (changes_of file said) b) _ behind_data).0

  bytes_none : journal_full n h.name cs b ≡ None
  bytes_none =
      ap (λ ds. journal_full n h.name ds b) (sym changes_are)
      ∙ (neither (journal_full n h.name (changes_of file said) b) _ (neither (file_full file said) _ (neither (more_locks n h.name (keys_held file said)) _ (neither (more_changes n (changes_of file said) b) _ behind_data).1).1).1).0

  key_in_keys : In key keys
  key_in_keys = last_asked h.organization (change_in o) key

  keys_free : AllByRecursion (λ k. held_against (Some b.key.serial) (world.holder n.volatile.locks h.name k) ≡ None) keys
  keys_free = each_free n b.key.serial h.name keys keys_none

  may : MayMake n b h.name file cs
  may = record {
    some = refl;
    found = found;
    marked = mark_none;
    free = (at_in (λ k. held_against (Some b.key.serial) (world.holder n.volatile.locks h.name k) ≡ None) key keys keys_free key_in_keys, tt);
    notes = (sym (file_is.records key), tt);
    end = λ is moved.
        let kind : h.organization ≡ kept_by.Sequential = sequential_by h.organization h (sym file_is.head.organization ∙ is) in
        let asked = end_asked h.organization (change_in o) key before value h kind (not_deleted h o (length value) kind one form_none) had_none (moved_one before after moved) in
        at_in (IsFreeFor n.volatile.locks h.name b.key.serial) End keys (free_for n b.key.serial h.name keys keys_none) asked;
    suit = (suit_is, tt);
    room = changes_have_room n b h.name cs kept.has.order refl more_none bytes_none;
  }
    where
      suit_is : IsNoteOf file key before
      suit_is = (
        subst (λ x. IsKeyOf x key) (sym file_is.head.organization) noted.form,
        subst (λ x. IsImageOf file.organization x key before) (sym file_is.head.record_size) (subst (λ x. IsImageOf x h.mrs key before) (sym file_is.head.organization) noted.image),
      )

  -- the branch is one of the table
  there_b : In b n.volatile.branches
  there_b = found_there u.serial n.volatile.branches b found_b

  -- what holds by the branch holds by its unit
  by_own : (P : Id → Id → Type 0) → P b.key.tid b.key.serial → P u.tid u.serial
  by_own P p = subst (λ y. P u.tid y) own_is.serial (subst (λ x. P x b.key.serial) own_is.tid p)

  live : AreHeld n.volatile.locks h.name file.history.live
  live = held_live n kept.has.units kept.has.order up b h.name file cs keys f at_f there_b unprepared may

  free_keys : AllByRecursion (λ (c : Change). is_free u.serial file.history.live c.key ≡ true) cs
  free_keys = by_own (λ t x. AllByRecursion (λ (c : Change). is_free x file.history.live c.key ≡ true) cs) (frees n kept.has.units kept.has.order up b h.name file cs keys f at_f there_b unprepared may)

  changing_may : MayChange u.serial file cs
  changing_may = by_own (λ t x. MayChange x file cs) (may_change n kept.has.units kept.has.order up b h.name file cs keys f at_f there_b unprepared may)

  units_then : AreUnitsOf m
  units_then = by_own (λ t x. AreUnitsOf (acted (Changes t x h.name cs keys) n)) (units_after n kept.has.units kept.has.order up b h.name file cs keys f at_f there_b unprepared may)

  order_then : IsJournalInOrder m.durable
  order_then = by_own (λ t x. IsJournalInOrder (acted (Changes t x h.name cs keys) n).durable) (order_after n kept.has.units kept.has.order up b h.name file cs keys f at_f there_b unprepared may)

  -- the node is up then
  up_then : IsUp m
  up_then = subst (λ (a : Act). IsUp (acted a n)) (sym act_is) (keeps (λ i. first_of (early_is_none i) (late_is_none i)))

  -- The images of the change.

  abbrev V : Catalog
  V = mid.catalog

  abbrev held : Key → Bool
  held = is_locked n.volatile.locks h.name

  -- the directory once the change stands in the buckets, and its images do
  abbrev bare : File
  bare = carrying file.carried (changed_file held u.tid u.serial cs file)

  abbrev buckets : List (Option File)
  buckets = changed_buckets held u.tid u.serial cs f file n.durable.directory

  abbrev A : Entry
  A = spelled.change_entry u.tid u.serial f key after

  images_none : images_refused h f s.units.places (has_changed u f) (room.entry_size key after) (room.entry_size key before) ≡ None
  images_none = ap (λ x. images_refused h f s.units.places (has_changed u f) (room.entry_size key after) (room.entry_size key x)) (sym (found_before h (change_in o) key before value had_none))
      ∙ (first_none (room.journal_refused v.catalog.ru s.units.places u (room.entry_size key (before_change (change_in o) (unwrap_or before [])))) _ behind_full).1

  key_of_form : key_in_file h.organization (images.key_bytes key) ≡ Some key
  key_of_form = key_read h.organization h key noted.form

  low_here : ((span_of After h).end + 2 ^ 24 ≤ 2 ^ 62) × ((span_of Before h).end + 2 ^ 24 ≤ 2 ^ 62)
  low_here = low.images f h there

  after_image_is : IsImage After f h u.tid u.serial key after
  after_image_is = record {
    entry = enters.image;
    some = noted.later;
    of = key_of_form;
    suits = fits.0;
    room = λ kept. let enough = room_to_change After h f s.units.places (has_changed u f) (room.entry_size key after) (afters_have_room h f s.units.places (has_changed u f) (room.entry_size key after) (room.entry_size key before) images_none) (order.images f h there).0 kept in
        let size = spelled_size u.tid u.serial f key after enters.image in omega (arith, enough, size);
    low = low_here.0;
  }

  e_before : spelled.change_entry u.tid u.serial f key (before_change (change_in o) made.found) ≡ spelled.change_entry u.tid u.serial f key before
  e_before = ap (spelled.change_entry u.tid u.serial f key) before_is

  before_entry : IsEntry (spelled.change_entry u.tid u.serial f key before)
  before_entry = subst IsEntry e_before enters.entry

  before_image_is : IsImage Before f h u.tid u.serial key before
  before_image_is = record {
    entry = before_entry;
    some = noted.some;
    of = key_of_form;
    suits = noted.suits;
    room = λ kept. let enough = room_to_change Before h f s.units.places (has_changed u f) (room.entry_size key before) (befores_have_room h f s.units.places (has_changed u f) (room.entry_size key after) (room.entry_size key before) images_none) (order.images f h there).1 kept in
        let size = spelled_size u.tid u.serial f key before before_entry in omega (arith, enough, size);
    low = low_here.1;
  }

  head_there : head_at V.heads f ≡ Some enters.head
  head_there = ap (λ hs. head_at hs f) rest.heads ∙ get_or-set_same v.catalog.heads f (Some enters.head) None (within_list v.catalog.heads f h there)

  head_new : IsHead enters.head
  head_new = told_heads V c rest.tells rest.long f enters.head head_there

  may_after : MayEnter After f V.heads u.tid (Changed u.serial key after)
  may_after = may_enter After f h enters.head enters.stages.same u.tid u.serial key after after_image_is V.heads head_there head_new

  may_before : MayEnter Before f V.heads u.tid (Changed u.serial key before)
  may_before = may_enter Before f h enters.head enters.stages.same u.tid u.serial key before before_image_is V.heads head_there head_new

  -- the entries are those that the world has
  after_spelled : spelling A ≡ spelled_entry f u.tid (Changed u.serial key after)
  after_spelled = ap spelling (sym (change_is f u.tid u.serial key after noted.later))

  before_spelled : spelling e ≡ spelled_entry f u.tid (Changed u.serial key before)
  before_spelled = ap spelling (e_before ∙ sym (change_is f u.tid u.serial key before noted.some))

  -- what they make of the volume
  abbrev I : Content
  I = content_with_both f (spelled_entry f u.tid (Changed u.serial key after)) (spelled_entry f u.tid (Changed u.serial key before)) V.heads c

  abbrev H : List (Option FileHead)
  H = heads_with_both f (length (spelled_entry f u.tid (Changed u.serial key after))) (length (spelled_entry f u.tid (Changed u.serial key before))) V.heads

  imaged_now : enters.imaged.store.current ≡ Some I
  imaged_now = enters.images.current ∙ ap (option_map (content_with_both f (spelling A) (spelling e) V.heads)) set_is.1 ∙ (λ i. Some (content_with_both f (after_spelled i) (before_spelled i) V.heads c))

  imaged_is : enters.imaged.catalog ≡ record V { heads = H }
  imaged_is = enters.images.catalog ∙ (λ i. record V { heads = heads_with_both f (length (after_spelled i)) (length (before_spelled i)) V.heads })

  held_world : ◌≡◌ {A = Key → Bool} (λ k. is_some (table.holder s.locks f k)) (is_locked n.volatile.locks h.name)
  held_world = held_alike v.catalog.heads once f h there n s.locks kept.locks

  changed_is : IsChanged held cs a h c enters.head
  changed_is = subst (λ (held : Key → Bool). IsChanged held cs a h c enters.head) held_world (set_changes f 417 h enters.head (λ k. is_some (table.holder s.locks f k)) key before after a c v mid enters.stages set_is.2)

  files_set : AreFiles c V.heads buckets
  files_set = subst (λ hs. AreFiles c hs buckets) (sym rest.heads)
      (keeps_files.changes a c v.catalog.heads n f h enters.head h.name file u.tid u.serial cs kept.has.files kept.has.units named at_f free_keys (refl, tt) changed_is (rest.carried h there) rest.others)

  wide : f < length n.durable.directory
  wide = within_list n.durable.directory f file at_f

  numbered : f < 64
  numbered = let long = kept.has.files.directory_long in let below = wide in omega (arith, long, below)

  bare_there : file_at buckets f ≡ Some bare
  bare_there = get_or-set_same n.durable.directory f (Some bare) None wide

  images_in : Enters c V.heads I (data_area (sizes_of V.home)) H (slice_set buckets f (Some (carrying (with_image u.tid u.serial (set_change key before after) file.carried) bare)))
  images_in = enters_change c (data_area (sizes_of V.home)) V.heads buckets f bare u.tid u.serial (set_change key before after)
      (record { files = files_set; fit = fits_in n.name n.blocks V rest.long rest.sound; behind = omega arith; whole = rest.whole }) numbered bare_there may_after may_before

  found_at : IsFoundAt h.name n.durable.directory f file
  found_at = subst (IsFoundAt h.name n.durable.directory f) found_is at_file.2

  directory_now : slice_set buckets f (Some (carrying (with_image u.tid u.serial (set_change key before after) file.carried) bare)) ≡ m.durable.directory
  directory_now = enters_images.changes n f h.name file u.tid u.serial cs keys found_at

  files_imaged : AreFiles I H m.durable.directory
  files_imaged = subst (AreFiles I H) directory_now images_in.fitting.files

  rooms : (other : Key) → is_held file.history other ≡ true → room_at h a other ≤ room_at enters.head c other
  rooms other is = set_is.2.rooms other ((λ i. held_world i other) ∙ held_locked n.volatile.locks h.name file.history.live other live is)

  restorable_set : AreRestorable c V.heads m.durable.directory
  restorable_set = subst (λ hs. AreRestorable c hs m.durable.directory) (sym rest.heads)
      (changes_restorable.sets a c v.catalog.heads n f h enters.head h.name file u.tid u.serial key after keys kept.has.files kept.has.units named at_f
      changing_may
      within fits.0 enters.stages.same set_is.2.form set_is.2.laid set_is.2.map set_is.2.back rooms rest.others kept.has.restorable)

  -- what is unsettled does not change with what a file carries
  live_here : (g : ℕ) → SameLive (file_at m.durable.directory g) (file_at buckets g)
  live_here g = subst (λ fs. SameLive (file_at fs g) (file_at buckets g)) (sym directory_set) (live_set n.durable.directory f g (changed_file held u.tid u.serial cs file) bare refl)
    where
      directory_set : m.durable.directory ≡ slice_set n.durable.directory f (Some (changed_file held u.tid u.serial cs file))
      directory_set = found_at.changed (changed_file held u.tid u.serial cs)

  restorable_imaged : AreRestorable I H m.durable.directory
  restorable_imaged = dressed_restorable c I V.heads H buckets m.durable.directory files_set images_in.dressed live_here restorable_set

  -- The volume after it.

  abbrev M : Catalog
  M = record V { heads = H }

  abbrev pub W : Catalog
  W = record M { ru = longer (length (spelling e)) M.ru }

  pub catalog_is : w.catalog ≡ W
  catalog_is = enters.catalog ∙ (λ i. record (imaged_is i) { ru = longer (length (spelling e)) (sym rest.ring i) })

  size_is : length (spelling e) ≡ room.entry_size key before
  size_is = spelled_size u.tid u.serial f key (before_change (change_in o) made.found) enters.entry ∙ ap (room.entry_size key) before_is

  journal_none : room.journal_refused v.catalog.ru s.units.places u (room.entry_size key before) ≡ None
  journal_none = ap (λ x. room.journal_refused v.catalog.ru s.units.places u (room.entry_size key x)) (sym (found_before h (change_in o) key before value had_none)) ∙ (first_none (room.journal_refused v.catalog.ru s.units.places u (room.entry_size key (before_change (change_in o) (unwrap_or before [])))) _ behind_full).0

  room_is : V.ru.end - V.ru.first + length (spelling e) ≤ ring_size V.ru
  room_is = subst (λ (r : Span). r.end - r.first + length (spelling e) ≤ ring_size r) (sym rest.ring) (let enough = room_for v.catalog.ru s.units.places u (room.entry_size key before) order.room journal_none in let size = size_is in omega (arith, enough, size))

  pub told_after : (d : Content) × (w.store.current ≡ Some d)
  told_after = (entered v.catalog.ru (spelling e) I, enters.current ∙ ap (option_map (entered v.catalog.ru (spelling e))) imaged_now)

  sound_imaged : IsSound n.name n.blocks M
  sound_imaged = sound_entered c I V H m.durable.directory (subst (Enters c V.heads I (data_area (sizes_of V.home)) H) directory_now images_in) n rest.sound

  journal_imaged : (j : HasJournal I M n) × (j.entries ≡ rest.journal.entries)
  journal_imaged = journal_entered c I V H m.durable.directory (subst (Enters c V.heads I (data_area (sizes_of V.home)) H) directory_now images_in) n rest.sound rest.journal

  names_imaged : KeepsNames V.heads H
  names_imaged = names_entered c I V H m.durable.directory (subst (Enters c V.heads I (data_area (sizes_of V.home)) H) directory_now images_in) n rest.sound

  -- the head of the file behind them
  head_imaged : (x : FileHead) × (head_at H f ≡ Some x) × (x.name ≡ enters.head.name)
  head_imaged = names_imaged f enters.head head_there

  long_imaged : length H ≡ 64
  long_imaged = images_in.fitting.fit.heads_long

  module _ (d : Content) (now : w.store.current ≡ Some d) where
    entered_is : d ≡ entered M.ru (spelling e) I
    entered_is = one_content d (entered M.ru (spelling e) I) (sym now ∙ enters.current ∙ ap (option_map (entered v.catalog.ru (spelling e))) imaged_now ∙ (λ i. Some (entered (sym rest.ring i) (spelling e) I)))

    files_stand : (g : ℕ) (other : FileHead) → head_at H g ≡ Some other → AgreesOnFile other I d
    files_stand = entered_files n.name n.blocks M sound_imaged long_imaged I d e entered_is journal_imaged.0.entries journal_imaged.0.is enters.entry room_is

    called : head_imaged.0.name ≡ h.name
    called = head_imaged.2 ∙ ap (λ (x : FileHead). x.name) enters.stages.same.is

    journal_set : HasJournal d W m
    journal_set = subst (λ name. HasJournal d W (acted (Changes u.tid u.serial name cs keys) n)) called
        (follow.changes I d M W n f head_imaged.0 u.tid u.serial cs keys journal_imaged.0 head_imaged.1 (same_names H)
        (subst (λ x. IsJournal d W.ru (journal_imaged.0.entries ++ x ∷ [])) (entry_told ∙ (λ i. entry_for f (ChangeEntry u.tid u.serial (sym called i) key before)))
        (entered_journal n.name n.blocks M sound_imaged long_imaged I d e entered_is journal_imaged.0.entries journal_imaged.0.is enters.entry room_is))
        refl ends_at (let early = low.low in let sizes = entry_size e enters.entry in let ring = ap (λ (r : Span). r.end) rest.ring in omega (arith, early, sizes.1, ring)))
      where
        E : JournalEntry
        E = ChangeEntry u.tid u.serial head_imaged.0.name key before

        ends_at : W.ru.end ≡ end_of (with_entries (entries_for u.tid u.serial head_imaged.0.name cs) n.durable.units)
        ends_at =
            let more = size_append es (E ∷ []) in
            let end = rest.journal.end in
            let size = size_is in
            let world = entry_sized u.tid u.serial head_imaged.0.name key before in
            omega (arith, more, end, size, world)

    slots_before : 584 + length n.durable.log ≤ M.ru.start
    slots_before = let slots = rest.home.slots in let start = rest.sound.ru_start in omega (arith, slots, start)

    log_imaged : HasLog I n
    log_imaged = log_entered c I V H m.durable.directory (subst (Enters c V.heads I (data_area (sizes_of V.home)) H) directory_now images_in) n rest.sound rest.log slots_before

    slots_set : SameSlots (length n.durable.log) I d
    slots_set = entered_slots n.name n.blocks M sound_imaged long_imaged I d e entered_is journal_imaged.0.entries journal_imaged.0.is enters.entry room_is (length n.durable.log) slots_before

    pub volume_after : HasVolume d W m
    volume_after = record {
      home = record { volume = rest.home.volume; slots = rest.home.slots; journal = rest.home.journal; boot = rest.home.boot; greatest = rest.home.greatest; last = rest.home.last };
      log = logs_follow.stays I d n m log_imaged refl slots_set;
      journal = journal_set;
      units = units_then;
      order = order_then;
      told = (kept_up m up_then).log;
      files = stands_on_extents I d H m.durable.directory files_stand files_imaged;
      restorable = keeps_restorable.stands I d H m.durable.directory files_stand files_imaged restorable_imaged;
    }

    pub tells_after : TellsCatalog W d
    tells_after = entered_tells n.name n.blocks M sound_imaged long_imaged I d e entered_is journal_imaged.0.entries journal_imaged.0.is enters.entry room_is
        (tells_entered c I V H m.durable.directory (subst (Enters c V.heads I (data_area (sizes_of V.home)) H) directory_now images_in) n rest.sound rest.tells)

  pub names_are : KeepsNames v.catalog.heads W.heads
  names_are g other at_g = let x = rest.names g other at_g in let y = names_imaged g x.0 x.1 in (y.0, y.1, y.2 ∙ x.2)

  pub node_after : w.catalog.home.node ≡ v.catalog.home.node
  node_after = ap (λ (k : Catalog). k.home.node) catalog_is ∙ ap (λ (k : Catalog). k.home.node) enters.stages.catalog

  pub directory_after : m.durable.directory ≡ slice_set n.durable.directory f (Some (changed_file (is_locked n.volatile.locks h.name) u.tid u.serial cs file))
  directory_after = at_file.2.changed (changed_file (is_locked n.volatile.locks h.name) u.tid u.serial cs) ∙ ap (λ x. slice_set n.durable.directory f (Some (changed_file (is_locked n.volatile.locks h.name) u.tid u.serial cs x))) found_is

  pub sound_after : IsSound n.name n.blocks W
  sound_after = sound_longer n.name n.blocks (length (spelling e)) M M.ru sound_imaged refl
